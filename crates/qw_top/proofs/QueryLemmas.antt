-- The queries that a script asks for: how many they are, that each is over tables of the schema, and its header.
use Rattle.std.proofs.Common.{◌≡◌, ℕ, zero, suc, ◌+◌, ◌<◌, ◌≤◌, true, List, [], ◌∷◌, ◌++◌, Option, Some, None, refl, subst, length, ap, ◌∙◌, arith, map, take, get_or}
use Rattle.std.specs.Prelude.{IfSome, slice_get, unwrap_or}
use Rattle.std.specs.List.{AllByRecursion}
use Rattle.std.specs.Option.{option_map_or}
use Rattle.qw_types.specs.declared.kind.Kind.{Kind}
use Rattle.qw_types.specs.declared.kind.Kind.TheVariants as kind
use Rattle.qw_types.specs.declared.schema.Table.{Table}
use Rattle.qw_types.specs.declared.value.Ty.{Ty}
use Rattle.qw_scalar.specs.Expression as meaning
use Rattle.qw_scalar.specs.Tree.{expression_of}
use Rattle.qw_scalar.specs.Typing.{IsTyped, has_kind, kind_of}
use Rattle.qw_scalar.specs.declared.expression.Expr.{Expr}
use Rattle.qw_meaning.specs.Select.{Entry, IsItemOver, entries_of}
use Rattle.qw_grouped.specs.Whole.{Body, Whole, grouped, plain, sources_in}
use Rattle.qw_grouped.specs.WholeQuery.{body_of, whole_of}
use Rattle.qw_order.specs.declared.sort_key.SortKey.{SortKey}
use Rattle.qw_token.specs.Token.{Lexeme}
use Rattle.qw_ast.specs.Syntax.{Select}
use Rattle.qw_parse.specs.Script.{AreAccepted, ReadsScript}
use Rattle.qw_typer.specs.Meanings.{AreMeant}
use Rattle.qw_typer.specs.Sizes.{AreSmall, IsSmallWhole}
use Rattle.qw_typer.specs.Typed.{Means}
use Rattle.qw_typer.specs.declared.query.TypedQuery.{TypedQuery}
use Rattle.qw_typer.proofs.MeansLemmas as typed
use Rattle.qw_typer.proofs.MeansLemmas.{IsOfTable, entries_there, items_have_kinds, many_names}
use Rattle.qw_whole.specs.WholePromises.{items_in}
use Rattle.qw_sink.specs.declared.sink.Head.{Head}
use Rattle.qw_top.specs.Top.{AreAsked, AsksFor, IsHeader}
use Rattle.qw_top.specs.Inner.Queries.{IsEntryOver, IsOver, asked_of, head_of, heads_of}
use Rattle.qw_top.proofs.ShortLemmas.{is_short}

-- ---- how many queries a script has

many_accepted : (tokens : List (List Lexeme)) (script : List Select) → AreAccepted tokens script → length script ≡ length tokens
many_accepted [] [] all = refl
many_accepted [] (s ∷ script) all = absurd all
many_accepted (t ∷ tokens) [] all = absurd all
many_accepted (t ∷ tokens) (s ∷ script) all = ap suc (many_accepted tokens script all.1)

many_meant : (schema : List Table) (script : List Select) (typed : List TypedQuery) → AreMeant schema script typed → length typed ≡ length script
many_meant schema [] [] all = refl
many_meant schema [] (t ∷ typed) all = absurd all
many_meant schema (s ∷ script) [] all = absurd all
many_meant schema (s ∷ script) (t ∷ typed) all = ap suc (many_meant schema script typed all.1)

pub some_queries : (schema : List Table) (text : List ℕ) (script : List Select) (typed : List TypedQuery) → ReadsScript text script → AreMeant schema script typed → 1 ≤ length typed
some_queries schema text script typed reads all =
    let many = many_meant schema script typed all in
    let accepted = many_accepted _ script reads.accepted in
    let some = reads.length_is.some in
    omega (arith, many, accepted, some)

pub few_queries : (schema : List Table) (text : List ℕ) (script : List Select) (typed : List TypedQuery) → ReadsScript text script → AreMeant schema script typed → length typed ≤ 64
few_queries schema text script typed reads all =
    let many = many_meant schema script typed all in
    let accepted = many_accepted _ script reads.accepted in
    let few = reads.length_is.few in
    omega (arith, many, accepted, few)

-- ---- each is over tables of the schema

entries_over : (schema : List Table) (entries : List Entry) → AllByRecursion (IsOfTable schema) entries → AllByRecursion (IsEntryOver schema) entries
entries_over schema [] all = tt
entries_over schema (e ∷ entries) all = (record { table = all.0.table; there = all.0.there; columns_are = all.0.columns_are }, entries_over schema entries all.1)

is_over : (schema : List Table) (s : Select) (t : TypedQuery) → Means schema s (whole_of t.query) t.names.items t.keys.items → IsSmallWhole t.query → IsOver schema t
is_over schema s t means small = record {
  entries = entries_over schema (entries_of (sources_in (body_of t.query.body))) (entries_there schema s (whole_of t.query) t.names.items t.keys.items means);
  short = is_short t.query small;
}

pub all_over : (schema : List Table) (script : List Select) (typed : List TypedQuery) → AreMeant schema script typed → AreSmall typed → AllByRecursion (IsOver schema) typed
all_over schema [] [] all small = tt
all_over schema [] (t ∷ typed) all small = absurd all
all_over schema (s ∷ script) [] all small = absurd all
all_over schema (s ∷ script) (t ∷ typed) all small = (is_over schema s t all.0 small.0, all_over schema script typed all.1 small.1)

-- ---- its header

-- each item has a kind
abbrev HasKinds : List meaning.Expression → Type 0
HasKinds es = AllByRecursion (λ (e : meaning.Expression). has_kind (kind_of e) ≡ true) es

the_kind : (o : Option Kind) → has_kind o ≡ true → Some (unwrap_or o (kind.Number 0)) ≡ o
the_kind None none = cc
the_kind (Some k) some = refl

head_names : (names : List (List ℕ)) (es : List meaning.Expression) → length names ≡ length es → map (λ (h : Head). h.name) (heads_of names es) ≡ names
head_names [] es many = refl
head_names (name ∷ names) [] many = absurd (omega (arith, many))
head_names (name ∷ names) (e ∷ es) many = ap (λ (ns : List (List ℕ)). name ∷ ns) (head_names names es (omega (arith, many)))

head_kinds : (names : List (List ℕ)) (es : List meaning.Expression) → length names ≡ length es → HasKinds es → map (λ (h : Head). Some h.kind) (heads_of names es) ≡ map kind_of es
head_kinds [] [] many kinds = refl
head_kinds [] (e ∷ es) many kinds = absurd (omega (arith, many))
head_kinds (name ∷ names) [] many kinds = absurd (omega (arith, many))
head_kinds (name ∷ names) (e ∷ es) many kinds =
    ap (λ (k : Option Kind). k ∷ map (λ (h : Head). Some h.kind) (heads_of names es)) (the_kind (kind_of e) kinds.0) ∙ ap (λ (ks : List (Option Kind)). kind_of e ∷ ks) (head_kinds names es (omega (arith, many)) kinds.1)

same_items : (body : Body) → typed.items_in body ≡ items_in body
same_items (plain specification) = refl
same_items (grouped query) = refl

is_header : (schema : List Table) (s : Select) (whole : Whole) (names : List (List ℕ)) (keys : List SortKey) → Means schema s whole names keys → IsHeader whole names (heads_of names (items_in whole.body))
is_header schema s whole names keys means =
    let many = many_names schema s whole names keys means ∙ ap (λ (es : List meaning.Expression). length es) (same_items whole.body) in
    let kinds = subst HasKinds (same_items whole.body) (items_have_kinds schema s whole names keys means) in
    record { names_are = head_names names (items_in whole.body) many; kinds_are = head_kinds names (items_in whole.body) many kinds }

-- ---- what the script asks for

are_asked : (schema : List Table) (script : List Select) (typed : List TypedQuery) → AreMeant schema script typed → AreAsked schema script (map asked_of typed)
are_asked schema [] [] all = tt
are_asked schema [] (t ∷ typed) all = absurd all
are_asked schema (s ∷ script) [] all = absurd all
are_asked schema (s ∷ script) (t ∷ typed) all = (
  record {
    names = t.names.items;
    means = all.0;
    header = is_header schema s (whole_of t.query) t.names.items t.keys.items all.0;
  },
  are_asked schema script typed all.1,
)

pub asks_for : (schema : List Table) (text : List ℕ) (script : List Select) (typed : List TypedQuery) → ReadsScript text script → AreMeant schema script typed → AsksFor schema text (map asked_of typed)
asks_for schema text script typed reads all = record { script = script; reads = reads; asked = are_asked schema script typed all }

-- ---- heads, one after another

heads-suc : (names : List (List ℕ)) (es : List Expr) (i : ℕ) (other : List ℕ) → i < length names →
    heads_of (take (suc i) names) (map expression_of es) ≡ heads_of (take i names) (map expression_of es) ++ option_map_or (λ (e : Expr). head_of (get_or names i other) (expression_of e) ∷ []) (slice_get es i) []
heads-suc [] es i other within = absurd (omega (arith, within))
heads-suc (name ∷ names) [] zero other within = refl
heads-suc (name ∷ names) [] (suc i) other within = refl
heads-suc (name ∷ names) (e ∷ es) zero other within = refl
heads-suc (name ∷ names) (e ∷ es) (suc i) other within = ap (λ (hs : List Head). head_of name (expression_of e) ∷ hs) (heads-suc names es i other (omega (arith, within)))

pub heads-more : (names : List (List ℕ)) (es : List Expr) (i : ℕ) (other : List ℕ) → i < length names →
    heads_of (take (i + 1) names) (map expression_of es) ≡ heads_of (take i names) (map expression_of es) ++ option_map_or (λ (e : Expr). head_of (get_or names i other) (expression_of e) ∷ []) (slice_get es i) []
heads-more names es i other within =
    let next : suc i ≡ i + 1 = omega arith in
    subst
    (λ (n : ℕ). heads_of (take n names) (map expression_of es) ≡ heads_of (take i names) (map expression_of es) ++ option_map_or (λ (e : Expr). head_of (get_or names i other) (expression_of e) ∷ []) (slice_get es i) [])
    next (heads-suc names es i other within)

pub all_typed : (Holds : ℕ → Ty → Type 0) (es : List Expr) → AllByRecursion (IsItemOver Holds) (map expression_of es) → AllByRecursion (λ (e : Expr). IsTyped (expression_of e)) es
all_typed Holds [] all = tt
all_typed Holds (e ∷ es) all = (all.0.0.0, all_typed Holds es all.1)

pub typed_at : (es : List Expr) (i : ℕ) → AllByRecursion (λ (e : Expr). IsTyped (expression_of e)) es → IfSome (slice_get es i) (λ (e : Expr). IsTyped (expression_of e))
typed_at [] i all = tt
typed_at (e ∷ es) zero all = all.0
typed_at (e ∷ es) (suc i) all = typed_at es i all.1
