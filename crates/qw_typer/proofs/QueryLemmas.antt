-- A query over the entries of its FROM, and over a schema.
use Rattle.std.proofs.Common.{◌≡◌, Bool, false, ℕ, ◌*◌, ◌≤◌, List, [], ◌∷◌, length, map, Ok, sym, ap, ◌∙◌, arith, subst}
use Rattle.std.specs.Prelude.{Contains}
use Rattle.std.proofs.lemmas.List.{length-map}
use Rattle.std.proofs.lemmas.List.Sums.{sum_by-cons}
use Rattle.qw_types.specs.declared.schema.Table.{Table}
use Rattle.qw_scalar.specs.Expression as meaning
use Rattle.qw_scalar.specs.Tree.{expression_of}
use Rattle.qw_meaning.specs.Query.{QueryParts, query_of}
use Rattle.qw_meaning.specs.Select.{IsSpecification, Specification}
use Rattle.qw_grouped.specs.Whole.{Whole, plain}
use Rattle.qw_order.specs.declared.sort_key.SortKey.{SortKey}
use Rattle.qw_ast.specs.Limits.{entries_of}
use Rattle.qw_ast.specs.Syntax as written
use Rattle.qw_ast.specs.Syntax.{Select}
use Rattle.qw_typer.specs.declared.fault.FaultKind.{FaultKind}
use Rattle.qw_typer.specs.declared.refusal.Token.{Token}
use Rattle.qw_typer.specs.declared.refusal.Refusal.{Refusal}
use Rattle.qw_typer.specs.declared.refusal.Refusal.TheVariants as refusal
use Rattle.qw_typer.specs.declared.scope.Entry.{Entry as CodeEntry}
use Rattle.qw_typer.specs.Faults.{Fault, or_own}
use Rattle.qw_typer.specs.Grouping.{is_grouped}
use Rattle.qw_typer.specs.Keys.{keys_faults, keys_meant}
use Rattle.qw_typer.specs.Meant.{Entry, Scope, ungrouped}
use Rattle.qw_typer.specs.Typed.{IsWithin, Means, entries_faults, entries_from, items_meant, order_faults, over_faults, query_faults, result_names, scope_of, scope_over}
use Rattle.qw_typer.specs.Inner.Queries.{HaveTables, IsFrom, IsOneOf}
use Rattle.qw_typer.specs.Inner.Sizes.{column_count, most_items}
use Rattle.qw_typer.specs.Inner.Typing.{Refuses, as_entries, as_entry, outcome, spelled, typed_over}
use Rattle.qw_typer.proofs.FaultLemmas.{first_fault, meaning_of, no_fault, over_is, plain_faults}
use Rattle.qw_typer.proofs.GroupedLemmas.{plain_keys, plain_meant, plain_order, plain_over, plain_scope}
use Rattle.qw_typer.proofs.LawLemmas.{few_meant, length_scope, specified_query}

-- ---- what is refused

pub is_one : (kind : FaultKind) (token : Token) (fs : List Fault) → Contains fs (record { kind = kind; name = spelled token }) → IsOneOf (refusal.Fault kind token) fs
unfolding IsOneOf
is_one kind token fs h = h

pub memory_is_one : (fs : List Fault) → IsOneOf refusal.NoMemory fs
unfolding IsOneOf
memory_is_one fs = tt

pub memory_refused : (r : Refusal) (fs : List Fault) → r ≡ refusal.NoMemory → IsOneOf r fs
memory_refused r fs e = rw e (memory_is_one fs)

pub refused_outcome : {A : Type 0} (r : Refusal) (fs : List Fault) (a : A) → Refuses r (outcome fs a) → IsOneOf r fs
unfolding Refuses IsOneOf
refused_outcome refusal.NoMemory fs a h = tt
refused_outcome (refusal.Fault kind token) fs a h = first_fault fs a (record { kind = kind; name = spelled token }) h

pub own_first : (r : Refusal) (fs gs : List Fault) → IsOneOf r fs → IsOneOf r (or_own fs gs)
unfolding IsOneOf
own_first refusal.NoMemory fs gs h = tt
own_first (refusal.Fault kind token) [] gs h = absurd (nothing h)
  where
    nothing : Contains {X = Fault} [] (record { kind = kind; name = spelled token }) → ⊥
    nothing c = omega (arith, c.1)
own_first (refusal.Fault kind token) (f ∷ fs) gs h = h

-- a fault of the entries of FROM
pub entries_refused : (schema : List Table) (s : Select) (named : List written.Entry) (r : Refusal) → named ≡ entries_of s.sources → IsOneOf r (entries_faults schema [] named) → IsOneOf r (query_faults schema s)
entries_refused schema s named r same h = own_first r (entries_faults schema [] (entries_of s.sources)) (or_own (over_faults schema s) (order_faults schema s)) (rw same at h)

-- without one the entries are those of FROM
abbrev pub AreEntries : List Table → List written.Entry → List Entry → Type 0
AreEntries schema named entries = (entries_faults schema [] named ≡ []) × (entries ≡ entries_from schema 0 named)

pub from_known : (schema : List Table) (s : Select) (named : List written.Entry) (entries : List Entry) → named ≡ entries_of s.sources → AreEntries schema named entries → HaveTables entries → IsFrom schema s entries
from_known schema s named entries same known tables = record { faultless = rw same at known.0; are = known.1 ∙ ap (λ (es : List written.Entry). entries_from schema 0 es) same; tables = tables }

whole_scope : (schema : List Table) (s : Select) (named : List written.Entry) (entries : List Entry) → named ≡ entries_of s.sources → AreEntries schema named entries
    → (entries_faults schema [] (entries_of s.sources) ≡ []) × (ungrouped entries ≡ scope_of schema s)
whole_scope schema s named entries same known = (rw same at known.0, ap ungrouped (known.1 ∙ ap (λ (es : List written.Entry). entries_from schema 0 es) same))

-- and one of what stands over them
pub over_refused : (schema : List Table) (s : Select) (named : List written.Entry) (entries : List Entry) (r : Refusal) → is_grouped s ≡ false → named ≡ entries_of s.sources → AreEntries schema named entries → Refuses r (typed_over (ungrouped entries) s) → IsOneOf r (query_faults schema s)
over_refused schema s named entries r plain_one same known h =
    let whole = whole_scope schema s named entries same known in
    let over = refused_outcome r (plain_faults schema s) (meaning_of schema s) (subst (Refuses r) (ap (λ (sc : Scope). typed_over sc s) whole.1 ∙ over_is schema s) h) in
    rw whole.0 (own_first r (over_faults schema s) (order_faults schema s) (subst (IsOneOf r) (sym (plain_over schema s plain_one)) over))

-- the keys over the names of what was typed
same_order : (schema : List Table) (s : Select) (scope : Scope) (names : List (List ℕ)) → scope ≡ scope_of schema s → names ≡ result_names scope s.selected → keys_faults names s.order ≡ plain_order schema s
same_order schema s scope names same names_are =
    ap (λ (ns : List (List ℕ)). keys_faults ns s.order) (names_are ∙ ap (λ (sc : Scope). result_names sc s.selected) same)

-- and one of the keys over what stands over them
pub keys_refused : (schema : List Table) (s : Select) (named : List written.Entry) (entries : List Entry) (parts : QueryParts) (names : List (List ℕ)) (r : Refusal) → is_grouped s ≡ false → named ≡ entries_of s.sources → AreEntries schema named entries
    → typed_over (ungrouped entries) s ≡ Ok (query_of parts) → names ≡ result_names (ungrouped entries) s.selected → IsOneOf r (keys_faults names s.order) → IsOneOf r (query_faults schema s)
keys_refused schema s named entries parts names r plain_one same known gives names_are h =
    let whole = whole_scope schema s named entries same known in
    let o = no_fault (plain_faults schema s) (meaning_of schema s) (query_of parts) (sym (over_is schema s) ∙ ap (λ (sc : Scope). typed_over sc s) (sym whole.1) ∙ gives) in
    let none = plain_over schema s plain_one ∙ o.0 in
    rw (whole.0, none) (subst (IsOneOf r) (same_order schema s (ungrouped entries) names whole.1 names_are ∙ sym (plain_keys schema s plain_one)) h)

-- ---- what is given

-- a query that isn't grouped, with DISTINCT or without
abbrev pub plain_whole : Bool → Specification → Whole
plain_whole distinct specification = record { body = plain specification; distinct = distinct }

pub query_means : (schema : List Table) (s : Select) (named : List written.Entry) (entries : List Entry) (parts : QueryParts) (names : List (List ℕ)) (keys : List SortKey) → is_grouped s ≡ false → named ≡ entries_of s.sources → AreEntries schema named entries
    → typed_over (ungrouped entries) s ≡ Ok (query_of parts) → names ≡ result_names (ungrouped entries) s.selected → (keys_faults names s.order ≡ []) × (keys ≡ keys_meant names s.order) → Means schema s (plain_whole s.distinct (query_of parts)) names keys
query_means schema s named entries parts names keys plain_one same known gives names_are found =
    let whole = whole_scope schema s named entries same known in
    let o = no_fault (plain_faults schema s) (meaning_of schema s) (query_of parts) (sym (over_is schema s) ∙ ap (λ (sc : Scope). typed_over sc s) (sym whole.1) ∙ gives) in
    let named : names ≡ result_names (scope_of schema s) s.selected = names_are ∙ ap (λ (sc : Scope). result_names sc s.selected) whole.1 in
    let none = plain_over schema s plain_one ∙ o.0 in
    let same_scope = plain_scope schema s plain_one in
    let names_are' : names ≡ result_names (scope_over schema s) s.selected = named ∙ ap (λ (sc : Scope). result_names sc s.selected) (sym same_scope) in
    record {
      faultless = rw (whole.0, none) (plain_keys schema s plain_one ∙ sym (same_order schema s (ungrouped entries) names whole.1 names_are) ∙ found.0);
      whole_is = ap (plain_whole s.distinct) (sym o.1) ∙ sym (plain_meant schema s plain_one);
      names_are = names_are';
      keys_are = found.1 ∙ ap (λ (ns : List (List ℕ)). keys_meant ns s.order) names_are';
    }

pub query_specified : (schema : List Table) (s : Select) (named : List written.Entry) (entries : List Entry) (parts : QueryParts) → is_grouped s ≡ false → named ≡ entries_of s.sources → AreEntries schema named entries → HaveTables entries → IsWithin s
    → typed_over (ungrouped entries) s ≡ Ok (query_of parts) → IsSpecification (query_of parts)
query_specified schema s named entries parts plain_one same known tables within gives =
    let whole = whole_scope schema s named entries same known in
    let o = no_fault (plain_faults schema s) (meaning_of schema s) (query_of parts) (sym (over_is schema s) ∙ ap (λ (sc : Scope). typed_over sc s) (sym whole.1) ∙ gives) in
    subst IsSpecification o.1 (specified_query schema s (subst HaveTables (ap (λ (sc : Scope). sc.entries) whole.1) tables) within o.0)

-- ---- sizes

-- it has no more items than its select list
pub plain_items : (schema : List Table) (s : Select) (named : List written.Entry) (entries : List Entry) (parts : QueryParts) → is_grouped s ≡ false → named ≡ entries_of s.sources → AreEntries schema named entries → HaveTables entries → IsWithin s
    → typed_over (ungrouped entries) s ≡ Ok (query_of parts) → length parts.items ≤ most_items s.selected
plain_items schema s named entries parts plain_one same known tables within gives =
    let whole = whole_scope schema s named entries same known in
    let o = no_fault (plain_faults schema s) (meaning_of schema s) (query_of parts) (sym (over_is schema s) ∙ ap (λ (sc : Scope). typed_over sc s) (sym whole.1) ∙ gives) in
    let is : items_meant (scope_of schema s) s.selected ≡ map expression_of parts.items = ap (λ (q : Specification). q.items) o.1 in
    let reached = length_scope schema 0 (entries_of s.sources) in
    let few_entries = within.few_entries in
    let few = few_meant (scope_of schema s) s.selected (subst HaveTables (ap (λ (sc : Scope). sc.entries) whole.1) tables) (omega (arith, reached, few_entries)) in
    let count = ap (λ (es : List meaning.Expression). length es) is in
    let many = length-map parts.items expression_of in
    omega (arith, few, count, many)

many_reached : (schema : List Table) (s : Select) (named : List written.Entry) (entries : List Entry) → named ≡ entries_of s.sources → AreEntries schema named entries → length entries ≡ length (entries_of s.sources)
many_reached schema s named entries same known = ap (λ (es : List Entry). length es) known.1 ∙ length_scope schema 0 named ∙ ap (λ (es : List written.Entry). length es) same

pub as_many : (schema : List Table) (s : Select) (named : List written.Entry) (entries : List CodeEntry) → named ≡ entries_of s.sources → AreEntries schema named (as_entries entries) → length entries ≡ length (entries_of s.sources)
as_many schema s named entries same known = sym (length-map entries as_entry) ∙ many_reached schema s named (as_entries entries) same known

counted : (entries : List Entry) → HaveTables entries → column_count entries ≤ 64 * length entries
counted [] h = omega arith
counted (e ∷ es) h =
    let count = sum_by-cons (λ (f : Entry). length f.columns) e es in
    let few = h.0.few in
    let others = counted es h.1 in
    omega (arith, count, few, others)

pub few_columns : (schema : List Table) (s : Select) (named : List written.Entry) (entries : List Entry) → named ≡ entries_of s.sources → AreEntries schema named entries → HaveTables entries → IsWithin s → column_count entries ≤ 512
few_columns schema s named entries same known tables within =
    let most = counted entries tables in
    let many = many_reached schema s named entries same known in
    let few = within.few_entries in
    omega (arith, most, many, few)
