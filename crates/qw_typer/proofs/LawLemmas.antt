-- What a query means is typed, and it means something where it has no fault.
use Rattle.std.proofs.Common.{◌≡◌, ℕ, zero, suc, ◌+◌, ◌*◌, ◌/◌, ◌%◌, ◌≤◌, ◌<◌, false, List, [], ◌∷◌, ◌++◌, map, length, get_or, Option, Some, None, refl, sym, ap, ◌∙◌, arith, slice_get, subst, is_none, inl, inr}
use Rattle.std.specs.List.{AllByRecursion, flat_map, list_any}
use Rattle.std.specs.Option.{option_map_or}
use Rattle.std.specs.Str.{bytes_eq}
use Rattle.std.proofs.lemmas.List.{length-append, map-append}
use Rattle.std.proofs.lemmas.List.Quantifiers.{position-Some}
use Rattle.std.proofs.lemmas.Option.{slice_get-get_or}
use Rattle.qw_types.specs.Schema.{AreColumns}
use Rattle.qw_types.specs.Contents.{column_type}
use Rattle.qw_types.specs.declared.schema.Column.{Column}
use Rattle.qw_types.specs.declared.schema.ColumnType.{ColumnType}
use Rattle.qw_types.specs.declared.schema.Table.{Table}
use Rattle.qw_types.specs.declared.value.Ty.{Ty}
use Rattle.qw_scalar.specs.Expression as meaning
use Rattle.qw_scalar.proofs.ColumnLemmas.{columns_more, conditions_more}
use Rattle.qw_scalar.specs.Typing.{has_kind, kind_of}
use Rattle.qw_order.specs.declared.sort_key.SortKey.{SortKey}
use Rattle.qw_meaning.specs.Select as specified
use Rattle.qw_meaning.specs.Select.{AreJoinsOver, AreSourcesOver, IsColumnOf, IsConditionOver, IsItemOver, IsReached, IsSpecification, type_in}
use Rattle.qw_grouped.specs.Whole.{Whole}
use Rattle.qw_ast.specs.Grammar.{name_of}
use Rattle.qw_ast.specs.Limits.{entries_in, entries_of}
use Rattle.qw_ast.specs.Syntax as written
use Rattle.qw_ast.specs.Syntax.{Condition, comparison, between, among, predicate, both, either, negation_of, is, bracketed, SelectItem, Selected, all_columns, items, Joined, Source, Select}
use Rattle.qw_typer.specs.declared.fault.FaultKind.TheVariants.{DuplicateAlias, UnknownTable}
use Rattle.qw_typer.specs.Faults.{condition_faults, fault_where, faults, first_token, item_faults, or_own}
use Rattle.qw_typer.specs.Keys.{keys_meant}
use Rattle.qw_typer.specs.Grouping.{starred}
use Rattle.qw_typer.specs.Meant.{Entry, Grouping, Scope, condition_meant, meant, ungrouped}
use Rattle.qw_typer.specs.Typed.{HasFewItems, IsWithin, Means, columns_from, columns_meant, columns_of, conjuncts, conjuncts_of, entries_faults, entries_from, entry_meant, entry_name, filter_faults, in_scope, items_meant, joins_faults, joins_meant, list_faults, place_of, query_faults, result_names, scope_of, selected_faults, sources_faults, sources_meant, whole_meant, scope_over}
use Rattle.qw_typer.specs.Inner.Queries.{HaveTables}
use Rattle.qw_typer.specs.Inner.Sizes.{most_items}
use Rattle.qw_typer.proofs.FaultLemmas.{meaning_of, plain_faults}
use Rattle.qw_typer.proofs.SoundLemmas.{AreSized, HasColumn, HasSized, IsAt, IsIn, IsSizedScope, all_both, all_more, column_good, condition_good, good, no_both, no_own, not_where, tested, types_of}

map_push : {A B : Type 0} (f : A → B) (xs : List A) (x : A) → map f (xs ++ x ∷ []) ≡ map f xs ++ f x ∷ []
map_push f [] x = refl
map_push f (y ∷ ys) x = ap (λ zs. f y ∷ zs) (map_push f ys x)

over : (scope : Scope) → IsSizedScope scope → (c : Condition) → condition_faults scope c ≡ [] → IsConditionOver (HasColumn scope) (condition_meant scope c)
over scope s c h = let g = condition_good scope s c h in (g.typed, g.columns)

conjuncts_over : (scope : Scope) → IsSizedScope scope → (c : Condition) → condition_faults scope c ≡ [] → AllByRecursion (IsConditionOver (HasColumn scope)) (map (condition_meant scope) (conjuncts_of c))
conjuncts_over scope s (both c d) h =
    let q = no_both (condition_faults scope c) (condition_faults scope d) h in
    rw (map_push (condition_meant scope) (conjuncts_of c) d)
    (all_both (IsConditionOver (HasColumn scope)) (map (condition_meant scope) (conjuncts_of c)) (condition_meant scope d ∷ []) (conjuncts_over scope s c q.0) (over scope s d q.1, tt))
conjuncts_over scope s (comparison op a b) h = (over scope s (comparison op a b) h, tt)
conjuncts_over scope s (between negated x a b) h = (over scope s (between negated x a b) h, tt)
conjuncts_over scope s (among negated x es) h = (over scope s (among negated x es) h, tt)
conjuncts_over scope s (predicate p negated a) h = (over scope s (predicate p negated a) h, tt)
conjuncts_over scope s (either c d) h = (over scope s (either c d) h, tt)
conjuncts_over scope s (negation_of c) h = (over scope s (negation_of c) h, tt)
conjuncts_over scope s (is negated c t) h = (over scope s (is negated c t) h, tt)
conjuncts_over scope s (bracketed c) h = (over scope s (bracketed c) h, tt)

pub filter_over : (scope : Scope) → IsSizedScope scope → (filter : Option Condition) → option_map_or (condition_faults scope) filter [] ≡ []
    → AllByRecursion (IsConditionOver (HasColumn scope)) (map (condition_meant scope) (option_map_or conjuncts_of filter []))
filter_over scope s None h = tt
filter_over scope s (Some c) h = conjuncts_over scope s c h

pub list_over : (scope : Scope) → IsSizedScope scope → (list : List SelectItem) → list_faults scope list ≡ [] → AllByRecursion (IsItemOver (HasColumn scope)) (map (λ (i : SelectItem). meant scope i.value) list)
list_over scope s [] h = tt
list_over scope s (i ∷ others) h =
    let q = no_both (or_own (faults scope i.value) (item_faults (first_token i.value) (meant scope i.value))) (list_faults scope others) h in
    let p = no_own (faults scope i.value) (item_faults (first_token i.value) (meant scope i.value)) q.0 in
    let g = good scope s i.value p.0 in
    (((g.typed, tested (has_kind (kind_of (meant scope i.value))) _ _ p.1), g.columns), list_over scope s others q.1)

columns_over : (e : Entry) → HasSized e.columns → (k : ℕ) (cs : List Column) → ((n : ℕ) → slice_get e.columns (k + n) ≡ slice_get cs n) → AllByRecursion (IsItemOver (IsIn e)) (columns_from (64 * e.number + k) cs)
columns_over e s k [] h = tt
columns_over e s k (c ∷ cs) h =
    let here : slice_get e.columns k ≡ Some c = ap (slice_get e.columns) (plus_zero k) ∙ h 0 in
    let g = column_good e k c s here in
    let others = columns_over e s (suc k) cs (λ n. ap (slice_get e.columns) (plus_suc k n) ∙ h (suc n)) in
    let next : 64 * e.number + suc k ≡ suc (64 * e.number + k) = omega arith in
    (((g.typed, refl), g.columns), subst (λ (p : ℕ). AllByRecursion (IsItemOver (IsIn e)) (columns_from p cs)) next others)
  where
    plus_zero : (n : ℕ) → n ≡ n + 0
    plus_zero n = omega arith

    plus_suc : (n k : ℕ) → suc n + k ≡ n + suc k
    plus_suc n k = omega arith

entry_over : (e : Entry) → HasSized e.columns → AllByRecursion (IsItemOver (IsIn e)) (columns_from (64 * e.number) e.columns)
entry_over e s =
    let first : 64 * e.number + 0 ≡ 64 * e.number = omega arith in
    subst (λ (p : ℕ). AllByRecursion (IsItemOver (IsIn e)) (columns_from p e.columns)) first (columns_over e s 0 e.columns (λ n. ap (slice_get e.columns) (zero_plus n)))
  where
    zero_plus : (n : ℕ) → 0 + n ≡ n
    zero_plus n = omega arith

pub item_more : (Holds More : ℕ → Ty → Type 0) → ((i : ℕ) (ty : Ty) → Holds i ty → More i ty) → (e : meaning.Expression) → IsItemOver Holds e → IsItemOver More e
item_more Holds More more e h = (h.0, columns_more Holds More more e h.1)

pub condition_more : (Holds More : ℕ → Ty → Type 0) → ((i : ℕ) (ty : Ty) → Holds i ty → More i ty) → (c : meaning.Condition) → IsConditionOver Holds c → IsConditionOver More c
condition_more Holds More more c h = (h.0, conditions_more Holds More more c h.1)

all_over : (entries : List Entry) → AreSized entries → AllByRecursion (IsItemOver (IsAt entries)) (columns_meant entries)
all_over [] s = tt
all_over (e ∷ es) s =
    all_both (IsItemOver (IsAt (e ∷ es))) (columns_from (64 * e.number) e.columns) (columns_meant es)
    (all_more (IsItemOver (IsIn e)) (IsItemOver (IsAt (e ∷ es))) (item_more (IsIn e) (IsAt (e ∷ es)) (λ i ty h. inl h)) (columns_from (64 * e.number) e.columns) (entry_over e s.0))
    (all_more (IsItemOver (IsAt es)) (IsItemOver (IsAt (e ∷ es))) (item_more (IsAt es) (IsAt (e ∷ es)) (λ i ty h. inr h)) (columns_meant es) (all_over es s.1))

items_over : (entries : List Entry) → AreSized entries → (selected : Selected) → selected_faults (ungrouped entries) selected ≡ [] → AllByRecursion (IsItemOver (IsAt entries)) (items_meant (ungrouped entries) selected)
items_over entries s all_columns h = all_over entries s
items_over entries s (items list) h = list_over (ungrouped entries) (s, tt) list h

-- ---- lengths

pub length_map : {A B : Type 0} (f : A → B) (xs : List A) → length (map f xs) ≡ length xs
length_map f [] = refl
length_map f (x ∷ xs) = ap suc (length_map f xs)

pub length_columns : (place : ℕ) (cs : List Column) → length (columns_from place cs) ≡ length cs
length_columns place [] = refl
length_columns place (c ∷ cs) = ap suc (length_columns (suc place) cs)

pub length_scope : (schema : List Table) (number : ℕ) (es : List written.Entry) → length (entries_from schema number es) ≡ length es
length_scope schema number [] = refl
length_scope schema number (e ∷ es) = ap suc (length_scope schema (number + 1) es)

-- ---- where the columns of an entry stand

same_types : (columns : List Column) → map (λ (c : ColumnType). c.ty) (map column_type columns) ≡ types_of columns
same_types [] = refl
same_types (c ∷ cs) = ap (λ (ts : List Ty). c.ty ∷ ts) (same_types cs)

is_before : (types : List Ty) (i : ℕ) (ty : Ty) → slice_get types i ≡ Some ty → i < length types
is_before [] i ty e = absurd cc
is_before (t ∷ types) zero ty e = omega arith
is_before (t ∷ types) (suc i) ty e = let before = is_before types i ty e in omega (arith, before)

-- the entry is one of these, with columns that a table may have
pub record IsOne (all : List specified.Entry) (e : Entry) : Type 0 where
  pub there : slice_get all e.number ≡ Some (entry_meant e)
  pub columns : AreColumns e.columns

-- from number `first` on, and before number `next`
pub record Stands (all : List specified.Entry) (first next : ℕ) (e : Entry) : Type 0 where
  pub one : IsOne all e
  pub from : first ≤ e.number
  pub before : e.number < next

in_entry : (all : List specified.Entry) (e : Entry) → IsOne all e → (i : ℕ) (ty : Ty) → IsIn e i ty → IsColumnOf all i ty × (i / 64 ≡ e.number)
in_entry all e one i ty h =
    let k = h.0 in
    let few = one.columns.few in
    let count = length_map (λ (c : Column). c.ty) e.columns in
    let before = is_before (types_of e.columns) k ty h.2 in
    let place = h.1 in
    let number : e.number ≡ i / 64 = omega (arith, place, few, count, before) in
    let column : k ≡ i % 64 = omega (arith, place, few, count, before) in
    let is : type_in (slice_get all e.number) k ≡ Some ty = ap (λ (o : Option specified.Entry). type_in o k) one.there ∙ ap (λ (types : List Ty). slice_get types k) (same_types e.columns) ∙ h.2 in
    (subst (λ (n : ℕ). type_in (slice_get all n) (i % 64) ≡ Some ty) number (subst (λ (c : ℕ). type_in (slice_get all e.number) c ≡ Some ty) column is), sym number)

pub in_scope_of : (all : List specified.Entry) (entries : List Entry) → AllByRecursion (IsOne all) entries → (i : ℕ) (ty : Ty) → IsAt entries i ty → IsColumnOf all i ty
in_scope_of all [] h i ty at = absurd at
in_scope_of all (e ∷ es) h i ty (inl here) = (in_entry all e h.0 i ty here).0
in_scope_of all (e ∷ es) h i ty (inr later) = in_scope_of all es h.1 i ty later

in_reach_of : (all : List specified.Entry) (first next : ℕ) (entries : List Entry) → AllByRecursion (Stands all first next) entries → (i : ℕ) (ty : Ty) → IsAt entries i ty → IsReached all first next i ty
in_reach_of all first next [] h i ty at = absurd at
in_reach_of all first next (e ∷ es) h i ty (inl here) =
    let found = in_entry all e h.0.one i ty here in
    let from = h.0.from in
    let before = h.0.before in
    let number = found.1 in
    (found.0, (omega (arith, from, number), omega (arith, before, number)))
in_reach_of all first next (e ∷ es) h i ty (inr later) = in_reach_of all first next es h.1 i ty later

pub ones_from : (all : List specified.Entry) (schema : List Table) (number : ℕ) (es : List written.Entry) → HaveTables (entries_from schema number es)
    → ((k : ℕ) → slice_get all (number + k) ≡ slice_get (map entry_meant (entries_from schema number es)) k) → AllByRecursion (IsOne all) (entries_from schema number es)
ones_from all schema number [] tables h = tt
ones_from all schema number (e ∷ es) tables h =
    let here : slice_get all number ≡ Some (entry_meant (in_scope schema number e)) = ap (slice_get all) (plus_zero number) ∙ h 0 in
    (record { there = here; columns = tables.0 }, ones_from all schema (number + 1) es tables.1 (λ k. ap (slice_get all) (plus_one number k) ∙ h (suc k)))
  where
    plus_zero : (n : ℕ) → n ≡ n + 0
    plus_zero n = omega arith

    plus_one : (n k : ℕ) → n + 1 + k ≡ n + suc k
    plus_one n k = omega arith

pub sized_ones : (entries : List Entry) → HaveTables entries → AreSized entries
sized_ones [] h = tt
sized_ones (e ∷ es) h = (h.0.sized, sized_ones es h.1)

-- ---- FROM

joins_entries : (schema : List Table) (reached : List Entry) (number : ℕ) (js : List Joined)
    → map (λ (j : specified.Joined). j.entry) (joins_meant schema reached number js) ≡ map entry_meant (entries_from schema number (map (λ (j : Joined). j.entry) js))
joins_entries schema reached number [] = refl
joins_entries schema reached number (j ∷ js) =
    ap (λ (es : List specified.Entry). entry_meant (in_scope schema number j.entry) ∷ es) (joins_entries schema (reached ++ in_scope schema number j.entry ∷ []) (number + 1) js)

scope_append : (schema : List Table) (number : ℕ) (xs ys : List written.Entry) → entries_from schema number (xs ++ ys) ≡ entries_from schema number xs ++ entries_from schema (number + length xs) ys
scope_append schema number [] ys = let same : number ≡ number + 0 = omega arith in ap (λ (n : ℕ). entries_from schema n ys) same
scope_append schema number (x ∷ xs) ys =
    let same : number + 1 + length xs ≡ number + length (x ∷ xs) = omega arith in
    ap (λ (es : List Entry). in_scope schema number x ∷ es) (scope_append schema (number + 1) xs ys ∙ ap (λ (n : ℕ). entries_from schema (number + 1) xs ++ entries_from schema n ys) same)

source_entries : (schema : List Table) (number : ℕ) (s : Source)
    → specified.entries_in (record { first = entry_meant (in_scope schema number s.first); joins = joins_meant schema (in_scope schema number s.first ∷ []) (number + 1) s.joins }) ≡ map entry_meant (entries_from schema number (entries_in s))
source_entries schema number s = ap (λ (es : List specified.Entry). entry_meant (in_scope schema number s.first) ∷ es) (joins_entries schema (in_scope schema number s.first ∷ []) (number + 1) s.joins)

pub entries_meant : (schema : List Table) (number : ℕ) (ss : List Source) → specified.entries_of (sources_meant schema number ss) ≡ map entry_meant (entries_from schema number (entries_of ss))
entries_meant schema number [] = refl
entries_meant schema number (s ∷ ss) =
    let own = entries_in s in
    let next = number + length own in
    ap (λ (es : List specified.Entry). es ++ specified.entries_of (sources_meant schema next ss)) (source_entries schema number s)
    ∙ ap (λ (es : List specified.Entry). map entry_meant (entries_from schema number own) ++ es) (entries_meant schema next ss)
    ∙ sym (map-append entry_meant (entries_from schema number own) (entries_from schema next (entries_of ss)))
    ∙ sym (ap (map entry_meant) (scope_append schema number own (entries_of ss)))

joins_over : (all : List specified.Entry) (schema : List Table) (first next : ℕ) (reached : List Entry) (js : List Joined) → first ≤ next → AllByRecursion (Stands all first next) reached
    → AllByRecursion (IsOne all) (entries_from schema next (map (λ (j : Joined). j.entry) js)) → joins_faults schema reached next js ≡ [] → AreJoinsOver all first next (joins_meant schema reached next js)
joins_over all schema first next reached [] le stands ones h = tt
joins_over all schema first next reached (j ∷ js) le stands ones h =
    let e = in_scope schema next j.entry in
    let reach = reached ++ e ∷ [] in
    let own : Stands all first (next + 1) e = record { one = ones.0; from = le; before = omega arith } in
    let wider = all_more (Stands all first next) (Stands all first (next + 1)) (λ f s. wide f s) reached stands in
    let all_stand = all_both (Stands all first (next + 1)) reached (e ∷ []) wider (own, tt) in
    let q = no_both (condition_faults (ungrouped reach) j.on) (joins_faults schema reach (next + 1) js) h in
    let typed = conjuncts_over (ungrouped reach) (sized reach all_stand, tt) j.on q.0 in
    let here = all_more (IsConditionOver (IsAt reach)) (IsConditionOver (IsReached all first (next + 1))) (condition_more (IsAt reach) (IsReached all first (next + 1)) (in_reach_of all first (next + 1) reach all_stand)) (map (condition_meant (ungrouped reach)) (conjuncts_of j.on)) typed in
    (here, joins_over all schema first (next + 1) reach js (omega (arith, le)) all_stand ones.1 q.1)
  where
    wide : (f : Entry) → Stands all first next f → Stands all first (next + 1) f
    wide f s = let before = s.before in record { one = s.one; from = s.from; before = omega (arith, before) }

    sized : (entries : List Entry) → AllByRecursion (Stands all first (next + 1)) entries → AreSized entries
    sized [] h = tt
    sized (f ∷ fs) h = (h.0.one.columns.sized, sized fs h.1)

all_parts : {A : Type 0} (P : A → Type 0) (xs ys : List A) → AllByRecursion P (xs ++ ys) → AllByRecursion P xs × AllByRecursion P ys
all_parts P [] ys h = (tt, h)
all_parts P (x ∷ xs) ys h = let rest = all_parts P xs ys h.1 in ((h.0, rest.0), rest.1)

sources_over : (all : List specified.Entry) (schema : List Table) (number : ℕ) (ss : List Source) → AllByRecursion (IsOne all) (entries_from schema number (entries_of ss)) → sources_faults schema number ss ≡ []
    → AreSourcesOver all number (sources_meant schema number ss)
sources_over all schema number [] ones h = tt
sources_over all schema number (s ∷ ss) ones h =
    let own = entries_in s in
    let e = in_scope schema number s.first in
    let next = number + length own in
    let js = joins_meant schema (e ∷ []) (number + 1) s.joins in
    let parts = all_parts (IsOne all) (entries_from schema number own) (entries_from schema next (entries_of ss)) (subst (AllByRecursion (IsOne all)) (scope_append schema number own (entries_of ss)) ones) in
    let q = no_both (joins_faults schema (e ∷ []) (number + 1) s.joins) (sources_faults schema next ss) h in
    let first : Stands all number (number + 1) e = record { one = parts.0.0; from = omega arith; before = omega arith } in
    let joins = joins_over all schema number (number + 1) (e ∷ []) s.joins (omega arith) (first, tt) parts.0.1 q.0 in
    let made_count = ap (λ (es : List specified.Entry). length es) (source_entries schema number s) in
    let scope_count = length_map entry_meant (entries_from schema number own) in
    let own_count = length_scope schema number own in
    let count : next ≡ number + length (specified.entries_in (record { first = entry_meant e; joins = js })) = omega (arith, made_count, scope_count, own_count) in
    (joins, subst (λ (n : ℕ). AreSourcesOver all n (sources_meant schema next ss)) count (sources_over all schema next ss parts.1 q.1))

-- ---- sizes

conjuncts_of_joins : (schema : List Table) (reached : List Entry) (number : ℕ) (js : List Joined)
    → length (flat_map (λ (j : specified.Joined). j.on) (joins_meant schema reached number js)) ≡ length (flat_map (λ (j : Joined). conjuncts_of j.on) js)
conjuncts_of_joins schema reached number [] = refl
conjuncts_of_joins schema reached number (j ∷ js) =
    let reach = reached ++ in_scope schema number j.entry ∷ [] in
    let others = joins_meant schema reach (number + 1) js in
    let a = length-append (map (condition_meant (ungrouped reach)) (conjuncts_of j.on)) (flat_map (λ (k : specified.Joined). k.on) others) in
    let b = length_map (condition_meant (ungrouped reach)) (conjuncts_of j.on) in
    let c = length-append (conjuncts_of j.on) (flat_map (λ (k : Joined). conjuncts_of k.on) js) in
    let d = conjuncts_of_joins schema reach (number + 1) js in
    omega (arith, a, b, c, d)

pub conjuncts_of_sources : (schema : List Table) (number : ℕ) (ss : List Source)
    → length (specified.conjuncts_on (sources_meant schema number ss)) ≡ length (flat_map (λ (s : Source). flat_map (λ (j : Joined). conjuncts_of j.on) s.joins) ss)
conjuncts_of_sources schema number [] = refl
conjuncts_of_sources schema number (s ∷ ss) =
    let e = in_scope schema number s.first in
    let next = number + length (entries_in s) in
    let js = joins_meant schema (e ∷ []) (number + 1) s.joins in
    let a = length-append (flat_map (λ (j : specified.Joined). j.on) js) (specified.conjuncts_on (sources_meant schema next ss)) in
    let b = conjuncts_of_joins schema (e ∷ []) (number + 1) s.joins in
    let c = length-append (flat_map (λ (j : Joined). conjuncts_of j.on) s.joins) (flat_map (λ (t : Source). flat_map (λ (j : Joined). conjuncts_of j.on) t.joins) ss) in
    let d = conjuncts_of_sources schema next ss in
    omega (arith, a, b, c, d)

length_sources : (schema : List Table) (number : ℕ) (ss : List Source) → length (sources_meant schema number ss) ≡ length ss
length_sources schema number [] = refl
length_sources schema number (s ∷ ss) = ap suc (length_sources schema (number + length (entries_in s)) ss)

few_of_scope : (entries : List Entry) → HaveTables entries → length (columns_meant entries) ≤ 64 * length entries
few_of_scope [] h = omega arith
few_of_scope (e ∷ es) h =
    let a = length-append (columns_from (64 * e.number) e.columns) (columns_meant es) in
    let b = length_columns (64 * e.number) e.columns in
    let few = h.0.few in
    let others = few_of_scope es h.1 in
    omega (arith, a, b, few, others)

some_of_scope : (entries : List Entry) → HaveTables entries → 1 ≤ length entries → 1 ≤ length (columns_meant entries)
some_of_scope [] h some = absurd (omega (arith, some))
some_of_scope (e ∷ es) h some =
    let a = length-append (columns_from (64 * e.number) e.columns) (columns_meant es) in
    let b = length_columns (64 * e.number) e.columns in
    let one = h.0.some in
    omega (arith, a, b, one)

-- over the grouped table there are as many
pub starred_length : (grouping : Option Grouping) (columns : List meaning.Expression) → length (starred grouping columns) ≡ length columns
starred_length None columns = refl
starred_length (Some g) columns = length_map _ columns

pub some_items : (scope : Scope) (selected : Selected) → HaveTables scope.entries → 1 ≤ length scope.entries → length scope.entries ≤ 8 → HasFewItems selected → (1 ≤ length (items_meant scope selected)) × (length (items_meant scope selected) ≤ 512)
some_items scope all_columns tables some few h =
    let most = few_of_scope scope.entries tables in
    let least = some_of_scope scope.entries tables some in
    let same = starred_length scope.grouping (columns_meant scope.entries) in
    (omega (arith, least, same), omega (arith, most, few, same))
some_items scope (items list) tables some few h =
    let one = h.0 in
    let most = h.1 in
    let l = length_map (λ (i : SelectItem). meant scope i.value) list in
    (omega (arith, l, one), omega (arith, l, most))

-- a select list has as many items as it is written, and `*` as the entries have columns
pub few_meant : (scope : Scope) (selected : Selected) → HaveTables scope.entries → length scope.entries ≤ 8 → length (items_meant scope selected) ≤ most_items selected
few_meant scope all_columns tables few =
    let most = few_of_scope scope.entries tables in
    let same = starred_length scope.grouping (columns_meant scope.entries) in
    omega (arith, most, few, same)
few_meant scope (items list) tables few = let l = length_map (λ (i : SelectItem). meant scope i.value) list in omega (arith, l)

pub some_entry : (ss : List Source) → 1 ≤ length ss → 1 ≤ length (entries_of ss)
some_entry [] some = absurd (omega (arith, some))
some_entry (s ∷ ss) some = omega arith

narrow : (entries : List Entry) → HaveTables entries → AllByRecursion (λ (e : specified.Entry). length e.columns ≤ 64) (map entry_meant entries)
narrow [] h = tt
narrow (e ∷ es) h = let few = h.0.few in let count = length_map column_type e.columns in (omega (arith, few, count), narrow es h.1)

-- ---- a query

pub specified_query : (schema : List Table) (s : Select) → HaveTables (scope_of schema s).entries → IsWithin s → plain_faults schema s ≡ [] → IsSpecification (meaning_of schema s)
specified_query schema s tables within h =
    let scope = scope_of schema s in
    let es = entries_of s.sources in
    let reached = scope.entries in
    let all = map entry_meant reached in
    let q = no_both (selected_faults scope s.selected) _ h in
    let r = no_both (sources_faults schema 0 s.sources) (filter_faults scope s) q.1 in
    let ones = ones_from all schema 0 es tables (λ k. ap (slice_get all) (zero_plus k)) in
    let sized = sized_ones reached tables in
    let entries = sym (entries_meant schema 0 s.sources) in
    let some_source = within.some_source in
    let few_entries = within.few_entries in
    let scope_count = length_scope schema 0 es in
    let all_count = length_map entry_meant reached in
    let some = some_entry s.sources some_source in
    let sizes = some_items scope s.selected tables (omega (arith, scope_count, some)) (omega (arith, scope_count, few_entries)) within.items in
    let sources_count = length_sources schema 0 s.sources in
    let on_count = conjuncts_of_sources schema 0 s.sources in
    let where_count = length_map (condition_meant scope) (conjuncts s) in
    let few_conjuncts = within.conjuncts in
    let few_all : length all ≤ 8 = omega (arith, all_count, scope_count, few_entries) in
    record {
      some_source = omega (arith, sources_count, some_source);
      few_entries = subst (λ (fs : List specified.Entry). length fs ≤ 8) entries few_all;
      few_columns = subst (λ (fs : List specified.Entry). AllByRecursion (λ (e : specified.Entry). length e.columns ≤ 64) fs) entries (narrow reached tables);
      few_conjuncts = omega (arith, on_count, where_count, few_conjuncts);
      some_item = sizes.0;
      few_items = sizes.1;
      sources = subst (λ (fs : List specified.Entry). AreSourcesOver fs 0 (sources_meant schema 0 s.sources)) entries (sources_over all schema 0 s.sources ones r.0);
      conjuncts = subst (λ (fs : List specified.Entry). AllByRecursion (IsConditionOver (IsColumnOf fs)) (map (condition_meant scope) (conjuncts s))) entries
          (all_more (IsConditionOver (IsAt reached)) (IsConditionOver (IsColumnOf all)) (condition_more (IsAt reached) (IsColumnOf all) (in_scope_of all reached ones)) (map (condition_meant scope) (conjuncts s)) (filter_over scope (sized, tt) s.filter r.1));
      items = subst (λ (fs : List specified.Entry). AllByRecursion (IsItemOver (IsColumnOf fs)) (items_meant scope s.selected)) entries
          (all_more (IsItemOver (IsAt reached)) (IsItemOver (IsColumnOf all)) (item_more (IsAt reached) (IsColumnOf all) (in_scope_of all reached ones)) (items_meant scope s.selected) (items_over reached sized s.selected q.0));
    }
  where
    zero_plus : (n : ℕ) → 0 + n ≡ n
    zero_plus n = omega arith

-- ---- over a schema

columns_at : (schema : List Table) (i : ℕ) (t : Table) → AllByRecursion (λ (u : Table). AreColumns u.columns) schema → slice_get schema i ≡ Some t → AreColumns t.columns
columns_at [] i t h e = absurd cc
columns_at (u ∷ us) zero t h e = let same : u ≡ t = cc in subst (λ (x : Table). AreColumns x.columns) same h.0
columns_at (u ∷ us) (suc i) t h e = columns_at us i t h.1 e

-- a name that is a table has its columns
columns_known : (schema : List Table) (name : List ℕ) → AllByRecursion (λ (u : Table). AreColumns u.columns) schema → is_none (place_of schema name) ≡ false → AreColumns (columns_of schema name)
columns_known schema name all known = by_place (place_of schema name) refl known
  where
    none : Table
    none = record { name = []; columns = [] }

    by_place : (o : Option ℕ) → place_of schema name ≡ o → is_none o ≡ false → AreColumns (columns_of schema name)
    by_place None e some = absurd cc
    by_place (Some i) e some =
        let t = get_or schema i none in
        let before = (position-Some (λ (u : Table). bytes_eq name u.name) schema i none e).0 in
        let there : slice_get schema i ≡ Some t = slice_get-get_or schema i none before in
        rw (e, there) (columns_at schema i t all there)

pub tables_known : (schema : List Table) (before : List (List ℕ)) (number : ℕ) (es : List written.Entry) → AllByRecursion (λ (u : Table). AreColumns u.columns) schema → entries_faults schema before es ≡ [] → HaveTables (entries_from schema number es)
tables_known schema before number [] all h = tt
tables_known schema before number (e ∷ es) all h =
    let fs = fault_where (is_none (place_of schema (name_of e.table))) UnknownTable (name_of e.table) in
    let gs = fault_where (list_any (bytes_eq (entry_name e)) before) DuplicateAlias (entry_name e) in
    let q = no_both (fs ++ gs) (entries_faults schema (before ++ entry_name e ∷ []) es) h in
    let p = no_both fs gs q.0 in
    (columns_known schema (name_of e.table) all (not_where (is_none (place_of schema (name_of e.table))) UnknownTable (name_of e.table) p.0), tables_known schema (before ++ entry_name e ∷ []) (number + 1) es all q.1)

-- ---- a meaning, and one alone

pub query_meaning : (schema : List Table) (s : Select) → query_faults schema s ≡ [] → (whole : Whole) × (names : List (List ℕ)) × (keys : List SortKey) × Means schema s whole names keys
query_meaning schema s h = (
  whole_meant schema s,
  result_names (scope_over schema s) s.selected,
  keys_meant (result_names (scope_over schema s) s.selected) s.order,
  record { faultless = h; whole_is = refl; names_are = refl; keys_are = refl },
)

pub one_meaning : (schema : List Table) (s : Select) (whole other : Whole) (names others : List (List ℕ)) (keys further : List SortKey) → Means schema s whole names keys → Means schema s other others further
    → (whole ≡ other) × (names ≡ others) × (keys ≡ further)
one_meaning schema s whole other names others keys further m n =
    (m.whole_is ∙ sym n.whole_is, m.names_are ∙ sym n.names_are, m.keys_are ∙ sym n.keys_are)
