-- The columns that are read: each once, each declared, and each that an expression names among them.
use Rattle.std.proofs.Common.{◌≡◌, ℕ, zero, suc, ◌+◌, ◌-◌, ◌*◌, ◌/◌, ◌%◌, ◌<◌, ◌≤◌, ◌==◌, ◌||◌, eqb, if◌then◌else◌, Bool, true, false, Option, Some, None, List, [], ◌∷◌, ◌++◌, length, map, get_or, slice_get, refl, sym, ap, ap₂, ◌∙◌, subst, arith, Result, Ok, Err, IfOk, OnOk, take}
use Rattle.std.specs.List.{AllByRecursion, IsDistinct, flat_map, list_any}
use Rattle.std.specs.Option.{option_map}
use Rattle.std.proofs.lemmas.List.{append-nil, append_assoc, map-append}
use Rattle.std.proofs.lemmas.Option.{same_Some, slice_get-map}
use Rattle.qw_types.specs.declared.schema.ColumnType.{ColumnType}
use Rattle.qw_types.specs.declared.value.Ty.{Ty}
use Rattle.qw_scalar.proofs.ColumnLemmas.{columns_more, conditions_more}
use Rattle.qw_scalar.specs.declared.expression.Expr.{Expr}
use Rattle.qw_scalar.specs.declared.expression.Cond.{Cond}
use Rattle.qw_scalar.specs.Columns.{HasColumns, HaveColumns}
use Rattle.qw_scalar.specs.Expression.{Condition, Expression}
use Rattle.qw_scalar.specs.Tree.{condition_of, expression_of}
use Rattle.qw_meaning.specs.Query.{QueryParts, joined_of, query_of, source_of}
use Rattle.qw_meaning.specs.declared.query.Joined as coded_join
use Rattle.qw_meaning.specs.declared.query.Source as coded_source
use Rattle.qw_meaning.specs.Select.{AreJoinsOver, AreSourcesOver, Entry, IsColumnOf, IsConditionOver, IsItemOver, IsReached, IsSpecification, Joined, Source, conjuncts_on, entries_in, entries_of, type_in, types_of}
use Rattle.qw_algebra.specs.Columns.{owner}
use Rattle.qw_fold.specs.Stands.{IsAmong}
use Rattle.qw_physical.specs.declared.pipeline.ReadColumn.{ReadColumn}
use Rattle.qw_physical.specs.Named.{HasColumn, IsDeclared, and_column, and_columns, and_first, and_firsts, column_in, columns_in, columns_joined, columns_of_entries, columns_of_join, columns_of_query, columns_of_source, columns_within, declared_at, named_by, numbers, typed_numbers}
use Rattle.qw_physical.proofs.Folds.{taken}
use Rattle.qw_leaves.proofs.LeafLemmas.{columns_both, conditions_both}
use Rattle.qw_leaves.proofs.LeafLists.{all_back, all_front, all_joined}
use Rattle.qw_physical.proofs.Naming.{has_named, have_named, named_have, columns_within_have}

-- ---- tests
pub same_number : (x y : ℕ) → (x == y) ≡ true → x ≡ y
same_number x y h = grind (arith)

pub either_way : (a b : Bool) → (a || b) ≡ false → (a ≡ false) × (b ≡ false)
either_way false b h = (refl, h)
either_way true b h = absurd cc

pub any_front : (f : ℕ → Bool) (xs ys : List ℕ) → list_any f xs ≡ true → list_any f (xs ++ ys) ≡ true
any_front f [] ys h = absurd cc
any_front f (x ∷ xs) ys h = by_test (f x) h (any_front f xs ys)
  where
    by_test : (b : Bool) → (b || list_any f xs) ≡ true → (list_any f xs ≡ true → list_any f (xs ++ ys) ≡ true) → (b || list_any f (xs ++ ys)) ≡ true
    by_test true h later = refl
    by_test false h later = later h

any_last : (xs : List ℕ) (i : ℕ) → list_any (λ (j : ℕ). j == i) (xs ++ i ∷ []) ≡ true
any_last [] i = grind (arith)
any_last (x ∷ xs) i = by_test (x == i) (any_last xs i)
  where
    by_test : (b : Bool) → list_any (λ (j : ℕ). j == i) (xs ++ i ∷ []) ≡ true → (b || list_any (λ (j : ℕ). j == i) (xs ++ i ∷ [])) ≡ true
    by_test true later = refl
    by_test false later = later

-- a test over columns by their numbers
pub any_numbers : (f : ℕ → Bool) (columns : List ReadColumn) → list_any (λ (c : ReadColumn). f c.number) columns ≡ list_any f (numbers columns)
any_numbers f [] = refl
any_numbers f (c ∷ columns) = ap (λ (b : Bool). f c.number || b) (any_numbers f columns)

-- ---- one more
-- where the test says that it is there, and where not
pub column_there : (columns : List ReadColumn) (i : ℕ) (r : Bool) → r ≡ list_any (λ (c : ReadColumn). c.number == i) columns → r ≡ true → numbers columns ≡ and_column (numbers columns) i
column_there columns i r is was =
    sym (ap (λ (b : Bool). if b then numbers columns else numbers columns ++ i ∷ []) (sym (any_numbers (λ (j : ℕ). j == i) columns) ∙ (sym is ∙ was)))

pub column_new : (columns : List ReadColumn) (new : List ℕ) (i : ℕ) (r : Bool) → r ≡ list_any (λ (c : ReadColumn). c.number == i) columns → r ≡ false → new ≡ numbers columns ++ i ∷ [] → new ≡ and_column (numbers columns) i
column_new columns new i r is was added =
    added ∙ sym (ap (λ (b : Bool). if b then numbers columns else numbers columns ++ i ∷ []) (sym (any_numbers (λ (j : ℕ). j == i) columns) ∙ (sym is ∙ was)))

pub first_there : (columns : List ReadColumn) (entry : ℕ) (r : Bool) → r ≡ list_any (λ (c : ReadColumn). owner c.number == entry) columns → r ≡ true → numbers columns ≡ and_first (numbers columns) entry
first_there columns entry r is was =
    sym (ap (λ (b : Bool). if b then numbers columns else numbers columns ++ (64 * entry) ∷ []) (sym (any_numbers (λ (i : ℕ). owner i == entry) columns) ∙ (sym is ∙ was)))

pub first_new : (columns : List ReadColumn) (new : List ℕ) (entry : ℕ) (r : Bool) → r ≡ list_any (λ (c : ReadColumn). owner c.number == entry) columns → r ≡ false → new ≡ numbers columns ++ (64 * entry) ∷ [] → new ≡ and_first (numbers columns) entry
first_new columns new entry r is was added =
    added ∙ sym (ap (λ (b : Bool). if b then numbers columns else numbers columns ++ (64 * entry) ∷ []) (sym (any_numbers (λ (i : ℕ). owner i == entry) columns) ∙ (sym is ∙ was)))

-- ---- each once
pub push_distinct : (xs : List ℕ) (i : ℕ) → IsDistinct eqb xs → list_any (λ (j : ℕ). j == i) xs ≡ false → IsDistinct eqb (xs ++ i ∷ [])
unfolding IsDistinct
push_distinct [] i d none = (tt, tt)
push_distinct (x ∷ xs) i d none =
    let apart = either_way (x == i) (list_any (λ (j : ℕ). j == i) xs) none in
    (all_joined (λ (y : ℕ). eqb x y ≡ false) xs (i ∷ []) d.0 (apart.0, tt), push_distinct xs i d.1 apart.1)

column_distinct : (xs : List ℕ) (i : ℕ) → IsDistinct eqb xs → IsDistinct eqb (and_column xs i)
column_distinct xs i d = by_test (list_any (λ (j : ℕ). j == i) xs) refl
  where
    by_test : (b : Bool) → list_any (λ (j : ℕ). j == i) xs ≡ b → IsDistinct eqb (if b then xs else xs ++ i ∷ [])
    by_test true h = d
    by_test false h = push_distinct xs i d h

pub columns_distinct : (xs more : List ℕ) → IsDistinct eqb xs → IsDistinct eqb (and_columns xs more)
columns_distinct xs [] d = d
columns_distinct xs (i ∷ more) d = columns_distinct (and_column xs i) more (column_distinct xs i d)

pub named_distinct : (more : List ℕ) → IsDistinct eqb (and_columns [] more)
unfolding IsDistinct
named_distinct more = columns_distinct [] more tt

-- ---- each is there
column_kept : (xs : List ℕ) (i k : ℕ) → list_any (λ (j : ℕ). j == k) xs ≡ true → list_any (λ (j : ℕ). j == k) (and_column xs i) ≡ true
column_kept xs i k h = by_test (list_any (λ (j : ℕ). j == i) xs)
  where
    by_test : (b : Bool) → list_any (λ (j : ℕ). j == k) (if b then xs else xs ++ i ∷ []) ≡ true
    by_test true = h
    by_test false = any_front (λ (j : ℕ). j == k) xs (i ∷ []) h

columns_kept : (xs more : List ℕ) (k : ℕ) → list_any (λ (j : ℕ). j == k) xs ≡ true → list_any (λ (j : ℕ). j == k) (and_columns xs more) ≡ true
columns_kept xs [] k h = h
columns_kept xs (i ∷ more) k h = columns_kept (and_column xs i) more k (column_kept xs i k h)

column_now : (xs : List ℕ) (i : ℕ) → list_any (λ (j : ℕ). j == i) (and_column xs i) ≡ true
column_now xs i = by_test (list_any (λ (j : ℕ). j == i) xs) refl
  where
    by_test : (b : Bool) → list_any (λ (j : ℕ). j == i) xs ≡ b → list_any (λ (j : ℕ). j == i) (if b then xs else xs ++ i ∷ []) ≡ true
    by_test true h = h
    by_test false h = any_last xs i

abbrev pub IsThere : List ℕ → ℕ → Type 0
IsThere xs i = list_any (λ (j : ℕ). j == i) xs ≡ true

all_there : (xs more : List ℕ) → AllByRecursion (IsThere (and_columns xs more)) more
all_there xs [] = tt
all_there xs (i ∷ more) = (columns_kept (and_column xs i) more i (column_now xs i), all_there (and_column xs i) more)

-- ---- declared
pub record HasTyped (entries : List (List ColumnType)) (i : ℕ) (ty : Ty) : Type 0 where
  pub declared : ColumnType
  pub stands : declared_at entries i ≡ Some declared
  pub type : declared.ty ≡ ty

in_list : (columns : List ColumnType) (k : ℕ) (ty : Ty) → slice_get (types_of columns) k ≡ Some ty → (d : ColumnType) × ((slice_get columns k ≡ Some d) × (d.ty ≡ ty))
in_list [] k ty h = absurd cc
in_list (c ∷ columns) zero ty h = (c, (refl, same_Some c.ty ty h))
in_list (c ∷ columns) (suc k) ty h = in_list columns k ty h

in_entry : (o : Option Entry) (k : ℕ) (ty : Ty) → type_in o k ≡ Some ty → (d : ColumnType) × ((column_in (option_map (λ (e : Entry). e.columns) o) k ≡ Some d) × (d.ty ≡ ty))
in_entry None k ty h = absurd cc
in_entry (Some e) k ty h = in_list e.columns k ty h

pub has_typed : (entries : List Entry) (i : ℕ) (ty : Ty) → IsColumnOf entries i ty → HasTyped (columns_of_entries entries) i ty
has_typed entries i ty h =
    let there = in_entry (slice_get entries (i / 64)) (i % 64) ty h in
    record {
      declared = there.0;
      stands = ap (λ (o : Option (List ColumnType)). column_in o (i % 64)) (slice_get-map (λ (e : Entry). e.columns) entries (i / 64)) ∙ there.1.0;
      type = there.1.1;
    }

has_column : (entries : List Entry) (i : ℕ) (ty : Ty) → IsColumnOf entries i ty → HasColumn (columns_of_entries entries) i
has_column entries i ty h = let there = has_typed entries i ty h in (there.declared, there.stands)

-- the conjuncts of joins
abbrev on_of : List Joined → List Condition
on_of joins = flat_map (λ (j : Joined). j.on) joins

-- ---- the columns of a query are declared
module _ (entries : List Entry) where
  condition_declared : (c : Cond) → HaveColumns (IsColumnOf entries) (condition_of c) → AllByRecursion (HasColumn (columns_of_entries entries)) (columns_within c)
  condition_declared c h =
      columns_within_have (HasColumn (columns_of_entries entries)) c (conditions_more (IsColumnOf entries) (λ i ty. HasColumn (columns_of_entries entries) i) (has_column entries) (condition_of c) h)

  conjuncts_declared : (cs : List Cond) → AllByRecursion (HaveColumns (IsColumnOf entries)) (map condition_of cs) → AllByRecursion (HasColumn (columns_of_entries entries)) (flat_map columns_within cs)
  conjuncts_declared [] h = tt
  conjuncts_declared (c ∷ cs) h = all_joined (HasColumn (columns_of_entries entries)) (columns_within c) (flat_map columns_within cs) (condition_declared c h.0) (conjuncts_declared cs h.1)

  items_declared : (es : List Expr) → AllByRecursion (HasColumns (IsColumnOf entries)) (map expression_of es) → AllByRecursion (HasColumn (columns_of_entries entries)) (flat_map columns_in es)
  items_declared [] h = tt
  items_declared (e ∷ es) h =
      all_joined (HasColumn (columns_of_entries entries)) (columns_in e) (flat_map columns_in es)
      (named_have (HasColumn (columns_of_entries entries)) e (columns_more (IsColumnOf entries) (λ i ty. HasColumn (columns_of_entries entries) i) (has_column entries) (expression_of e) h.0))
      (items_declared es h.1)

  joins_declared : (joins : List coded_join.Joined) → AllByRecursion (HaveColumns (IsColumnOf entries)) (on_of (map joined_of joins)) → AllByRecursion (HasColumn (columns_of_entries entries)) (flat_map columns_of_join joins)
  joins_declared [] h = tt
  joins_declared (j ∷ joins) h =
      let front = all_front (HaveColumns (IsColumnOf entries)) (map condition_of j.on.items) (on_of (map joined_of joins)) h in
      let back = all_back (HaveColumns (IsColumnOf entries)) (map condition_of j.on.items) (on_of (map joined_of joins)) h in
      all_joined (HasColumn (columns_of_entries entries)) (columns_of_join j) (flat_map columns_of_join joins) (conjuncts_declared j.on.items front) (joins_declared joins back)

  sources_declared : (sources : List coded_source.Source) → AllByRecursion (HaveColumns (IsColumnOf entries)) (conjuncts_on (map source_of sources)) → AllByRecursion (HasColumn (columns_of_entries entries)) (flat_map columns_of_source sources)
  sources_declared [] h = tt
  sources_declared (source ∷ sources) h =
      let front = all_front (HaveColumns (IsColumnOf entries)) (on_of (map joined_of source.joins.items)) (conjuncts_on (map source_of sources)) h in
      let back = all_back (HaveColumns (IsColumnOf entries)) (on_of (map joined_of source.joins.items)) (conjuncts_on (map source_of sources)) h in
      all_joined (HasColumn (columns_of_entries entries)) (columns_of_source source) (flat_map columns_of_source sources) (joins_declared source.joins.items front) (sources_declared sources back)

-- ---- what a specification keeps of its clauses
reached : (entries : List Entry) (first next : ℕ) (cs : List Condition) → AllByRecursion (IsConditionOver (IsReached entries first next)) cs → AllByRecursion (HaveColumns (IsColumnOf entries)) cs
reached entries first next [] h = tt
reached entries first next (c ∷ cs) h = (conditions_more (IsReached entries first next) (IsColumnOf entries) (λ i ty k. k.0) c h.0.1, reached entries first next cs h.1)

over_conjuncts : (entries : List Entry) (cs : List Condition) → AllByRecursion (IsConditionOver (IsColumnOf entries)) cs → AllByRecursion (HaveColumns (IsColumnOf entries)) cs
over_conjuncts entries [] h = tt
over_conjuncts entries (c ∷ cs) h = (h.0.1, over_conjuncts entries cs h.1)

over_items : (entries : List Entry) (es : List Expression) → AllByRecursion (IsItemOver (IsColumnOf entries)) es → AllByRecursion (HasColumns (IsColumnOf entries)) es
over_items entries [] h = tt
over_items entries (e ∷ es) h = (h.0.1, over_items entries es h.1)

joins_over : (entries : List Entry) (first next : ℕ) (joins : List Joined) → AreJoinsOver entries first next joins → AllByRecursion (HaveColumns (IsColumnOf entries)) (on_of joins)
joins_over entries first next [] h = tt
joins_over entries first next (j ∷ joins) h =
    all_joined (HaveColumns (IsColumnOf entries)) j.on (on_of joins) (reached entries first (next + 1) j.on h.0) (joins_over entries first (next + 1) joins h.1)

sources_over : (entries : List Entry) (first : ℕ) (sources : List Source) → AreSourcesOver entries first sources → AllByRecursion (HaveColumns (IsColumnOf entries)) (conjuncts_on sources)
sources_over entries first [] h = tt
sources_over entries first (source ∷ sources) h =
    all_joined (HaveColumns (IsColumnOf entries)) (on_of source.joins) (conjuncts_on sources) (joins_over entries first (first + 1) source.joins h.0) (sources_over entries (first + length (entries_in source)) sources h.1)

pub query_declared : (query : QueryParts) → IsSpecification (query_of query) → AllByRecursion (HasColumn (columns_of_entries (entries_of (query_of query).sources))) (columns_of_query query)
query_declared query h =
    let entries = entries_of (query_of query).sources in
    let P : ℕ → Type 0 = HasColumn (columns_of_entries entries) in
    all_joined P (flat_map columns_of_source query.sources) (flat_map columns_within query.conjuncts ++ flat_map columns_in query.items)
    (sources_declared entries query.sources (sources_over entries 0 (query_of query).sources h.sources))
    (all_joined P (flat_map columns_within query.conjuncts) (flat_map columns_in query.items)
    (conjuncts_declared entries query.conjuncts (over_conjuncts entries (query_of query).conjuncts h.conjuncts))
    (items_declared entries query.items (over_items entries (query_of query).items h.items)))

-- ---- each column that is named is one of those that are read, with its type
front_among : (n i : ℕ) (t ty : Ty) (rest : List (ℕ × Ty)) → n ≡ i → t ≡ ty → IsAmong ((n, t) ∷ rest) i ty
front_among n i t ty rest same type =
    subst (λ (m : ℕ). IsAmong ((n, t) ∷ rest) m ty) same (subst (λ (u : Ty). IsAmong ((n, t) ∷ rest) n u) type (0, omega arith, refl))

among_typed : (all : List (List ColumnType)) (cs : List ReadColumn) (i : ℕ) (ty : Ty) → AllByRecursion (IsDeclared all) cs → IsThere (numbers cs) i → HasTyped all i ty → IsAmong (typed_numbers cs) i ty
among_typed all [] i ty declared there h = absurd cc
among_typed all (c ∷ cs) i ty declared there h = by_test (c.number == i) refl there (λ later. among_typed all cs i ty declared.1 later h)
  where
    at_front : c.number ≡ i → IsAmong (typed_numbers (c ∷ cs)) i ty
    at_front same =
        let made : ColumnType = record { ty = c.ty; not_null = c.not_null } in
        let here : declared_at all i ≡ Some made = subst (λ (n : ℕ). declared_at all n ≡ Some made) same declared.0 in
        let one : made ≡ h.declared = same_Some made h.declared (sym here ∙ h.stands) in
        front_among c.number i c.ty ty (typed_numbers cs) same (ap (λ (d : ColumnType). d.ty) one ∙ h.type)

    behind : IsAmong (typed_numbers cs) i ty → IsAmong (typed_numbers (c ∷ cs)) i ty
    behind (k, less, is) = (suc k, omega (arith, less), is)

    by_test : (b : Bool) → (c.number == i) ≡ b → (b || list_any (λ (j : ℕ). j == i) (numbers cs)) ≡ true → (IsThere (numbers cs) i → IsAmong (typed_numbers cs) i ty) → IsAmong (typed_numbers (c ∷ cs)) i ty
    by_test true same rest later = at_front (same_number c.number i same)
    by_test false same rest later = behind (later rest)

module _ (entries : List Entry) (cs : List ReadColumn) (declared : AllByRecursion (IsDeclared (columns_of_entries entries)) cs) where
  one_among : (i : ℕ) (ty : Ty) → IsColumnOf entries i ty × IsThere (numbers cs) i → IsAmong (typed_numbers cs) i ty
  one_among i ty h = among_typed (columns_of_entries entries) cs i ty declared h.1 (has_typed entries i ty h.0)

  condition_among : (c : Cond) → HaveColumns (IsColumnOf entries) (condition_of c) → AllByRecursion (IsThere (numbers cs)) (columns_within c) → HaveColumns (IsAmong (typed_numbers cs)) (condition_of c)
  condition_among c h there =
      conditions_more (λ i ty. IsColumnOf entries i ty × IsThere (numbers cs) i) (IsAmong (typed_numbers cs)) one_among (condition_of c)
      (conditions_both (IsColumnOf entries) (λ i ty. IsThere (numbers cs) i) (condition_of c) h (have_named (IsThere (numbers cs)) c there))

  expression_among : (e : Expr) → HasColumns (IsColumnOf entries) (expression_of e) → AllByRecursion (IsThere (numbers cs)) (columns_in e) → HasColumns (IsAmong (typed_numbers cs)) (expression_of e)
  expression_among e h there =
      columns_more (λ i ty. IsColumnOf entries i ty × IsThere (numbers cs) i) (IsAmong (typed_numbers cs)) one_among (expression_of e)
      (columns_both (IsColumnOf entries) (λ i ty. IsThere (numbers cs) i) (expression_of e) h (has_named (IsThere (numbers cs)) e there))

  conjuncts_among : (conjuncts : List Cond) → AllByRecursion (HaveColumns (IsColumnOf entries)) (map condition_of conjuncts) → AllByRecursion (IsThere (numbers cs)) (flat_map columns_within conjuncts) →
      AllByRecursion (HaveColumns (IsAmong (typed_numbers cs))) (map condition_of conjuncts)
  conjuncts_among [] h there = tt
  conjuncts_among (c ∷ conjuncts) h there = (
    condition_among c h.0 (all_front (IsThere (numbers cs)) (columns_within c) (flat_map columns_within conjuncts) there),
    conjuncts_among conjuncts h.1 (all_back (IsThere (numbers cs)) (columns_within c) (flat_map columns_within conjuncts) there),
  )

  items_among : (items : List Expr) → AllByRecursion (HasColumns (IsColumnOf entries)) (map expression_of items) → AllByRecursion (IsThere (numbers cs)) (flat_map columns_in items) →
      AllByRecursion (HasColumns (IsAmong (typed_numbers cs))) (map expression_of items)
  items_among [] h there = tt
  items_among (e ∷ items) h there = (
    expression_among e h.0 (all_front (IsThere (numbers cs)) (columns_in e) (flat_map columns_in items) there),
    items_among items h.1 (all_back (IsThere (numbers cs)) (columns_in e) (flat_map columns_in items) there),
  )

  joins_among : (joins : List coded_join.Joined) → AllByRecursion (HaveColumns (IsColumnOf entries)) (on_of (map joined_of joins)) → AllByRecursion (IsThere (numbers cs)) (flat_map columns_of_join joins) →
      AllByRecursion (HaveColumns (IsAmong (typed_numbers cs))) (on_of (map joined_of joins))
  joins_among [] h there = tt
  joins_among (j ∷ joins) h there =
      let P : Condition → Type 0 = HaveColumns (IsColumnOf entries) in
      all_joined (HaveColumns (IsAmong (typed_numbers cs))) (map condition_of j.on.items) (on_of (map joined_of joins))
      (conjuncts_among j.on.items (all_front P (map condition_of j.on.items) (on_of (map joined_of joins)) h) (all_front (IsThere (numbers cs)) (columns_of_join j) (flat_map columns_of_join joins) there))
      (joins_among joins (all_back P (map condition_of j.on.items) (on_of (map joined_of joins)) h) (all_back (IsThere (numbers cs)) (columns_of_join j) (flat_map columns_of_join joins) there))

  sources_among : (sources : List coded_source.Source) → AllByRecursion (HaveColumns (IsColumnOf entries)) (conjuncts_on (map source_of sources)) → AllByRecursion (IsThere (numbers cs)) (flat_map columns_of_source sources) →
      AllByRecursion (HaveColumns (IsAmong (typed_numbers cs))) (conjuncts_on (map source_of sources))
  sources_among [] h there = tt
  sources_among (source ∷ sources) h there =
      let P : Condition → Type 0 = HaveColumns (IsColumnOf entries) in
      let joins = source.joins.items in
      all_joined (HaveColumns (IsAmong (typed_numbers cs))) (on_of (map joined_of joins)) (conjuncts_on (map source_of sources))
      (joins_among joins (all_front P (on_of (map joined_of joins)) (conjuncts_on (map source_of sources)) h) (all_front (IsThere (numbers cs)) (columns_of_source source) (flat_map columns_of_source sources) there))
      (sources_among sources (all_back P (on_of (map joined_of joins)) (conjuncts_on (map source_of sources)) h) (all_back (IsThere (numbers cs)) (columns_of_source source) (flat_map columns_of_source sources) there))

pub record ReadsAll (query : QueryParts) (cs : List ReadColumn) : Type 0 where
  pub on : AllByRecursion (HaveColumns (IsAmong (typed_numbers cs))) (conjuncts_on (query_of query).sources)
  pub conjuncts : AllByRecursion (HaveColumns (IsAmong (typed_numbers cs))) (query_of query).conjuncts
  pub items : AllByRecursion (HasColumns (IsAmong (typed_numbers cs))) (query_of query).items

pub reads_there : (query : QueryParts) (cs : List ReadColumn) → IsSpecification (query_of query) → AllByRecursion (IsThere (numbers cs)) (columns_of_query query) → AllByRecursion (IsDeclared (columns_of_entries (entries_of (query_of query).sources))) cs → ReadsAll query cs
reads_there query cs h all declared =
    let entries = entries_of (query_of query).sources in
    let P : ℕ → Type 0 = IsThere (numbers cs) in
    let on = flat_map columns_of_source query.sources in
    let conjuncts = flat_map columns_within query.conjuncts in
    let items = flat_map columns_in query.items in
    let rest = all_back P on (conjuncts ++ items) all in
    record {
      on = sources_among entries cs declared query.sources (sources_over entries 0 (query_of query).sources h.sources) (all_front P on (conjuncts ++ items) all);
      conjuncts = conjuncts_among entries cs declared query.conjuncts (over_conjuncts entries (query_of query).conjuncts h.conjuncts) (all_front P conjuncts items rest);
      items = items_among entries cs declared query.items (over_items entries (query_of query).items h.items) (all_back P conjuncts items rest);
    }

pub all_named : (query : QueryParts) → AllByRecursion (IsThere (named_by query)) (columns_of_query query)
all_named query = all_there [] (columns_of_query query)

pub reads_all : (query : QueryParts) (cs : List ReadColumn) → IsSpecification (query_of query) → numbers cs ≡ named_by query → AllByRecursion (IsDeclared (columns_of_entries (entries_of (query_of query).sources))) cs → ReadsAll query cs
reads_all query cs h named declared =
    reads_there query cs h (subst (λ (ns : List ℕ). AllByRecursion (IsThere ns) (columns_of_query query)) (sym named) (all_named query)) declared

-- ---- the first columns of entries
front_there : (entries : List (List ColumnType)) (entry : ℕ) → entry < length entries → AllByRecursion (λ (columns : List ColumnType). 1 ≤ length columns) entries → (d : ColumnType) × (column_in (slice_get entries entry) 0 ≡ Some d)
front_there [] entry less some = absurd (omega (arith, less))
front_there ([] ∷ entries) zero less some = absurd (omega (arith, some.0))
front_there ((d ∷ columns) ∷ entries) zero less some = (d, refl)
front_there (columns ∷ entries) (suc entry) less some = front_there entries entry (omega (arith, less)) some.1

pub first_declared : (entries : List (List ColumnType)) (entry : ℕ) → entry < length entries → AllByRecursion (λ (columns : List ColumnType). 1 ≤ length columns) entries → HasColumn entries (64 * entry)
first_declared entries entry less some =
    let there = front_there entries entry less some in
    let at : (64 * entry) / 64 ≡ entry = omega arith in
    let front : (64 * entry) % 64 ≡ 0 = omega arith in
    (there.0, ap₂ (λ (e k : ℕ). column_in (slice_get entries e) k) at front ∙ there.1)

pub next_first : (all : List ℕ) (before after : List ℕ) (entry i n : ℕ) → entry ≡ i → i < n → after ≡ and_first before entry → and_firsts before i (n - i) ≡ all → and_firsts after (i + 1) (n - (i + 1)) ≡ all
next_first all before after entry i n same less added now =
    let count : n - i ≡ suc (n - (i + 1)) = omega (arith, less) in
    ap (λ (l : List ℕ). and_firsts l (i + 1) (n - (i + 1))) (added ∙ ap (and_first before) same) ∙ (sym (ap (and_firsts before i) count) ∙ now)

-- ---- entries, as they are copied
joined_are : (joins : List coded_join.Joined) → columns_of_entries (map (λ (j : Joined). j.entry) (map joined_of joins)) ≡ map columns_joined joins
joined_are [] = refl
joined_are (j ∷ joins) = ap (λ (l : List (List ColumnType)). j.entry.columns.items ∷ l) (joined_are joins)

source_is : (source : coded_source.Source) → columns_of_entries (entries_in (source_of source)) ≡ source.first.columns.items ∷ map columns_joined source.joins.items
source_is source = ap (λ (l : List (List ColumnType)). source.first.columns.items ∷ l) (joined_are source.joins.items)

sources_push : (sources : List coded_source.Source) (source : coded_source.Source) →
    columns_of_entries (entries_of (map source_of (sources ++ source ∷ []))) ≡ columns_of_entries (entries_of (map source_of sources)) ++ (source.first.columns.items ∷ map columns_joined source.joins.items)
sources_push [] source = ap columns_of_entries (append-nil (entries_in (source_of source))) ∙ source_is source
sources_push (other ∷ sources) source =
    let front = entries_in (source_of other) in
    let behind = source.first.columns.items ∷ map columns_joined source.joins.items in
    map-append (λ (e : Entry). e.columns) front (entries_of (map source_of (sources ++ source ∷ [])))
    ∙ (ap (λ (l : List (List ColumnType)). columns_of_entries front ++ l) (sources_push sources source)
    ∙ (sym (append_assoc (columns_of_entries front) (columns_of_entries (entries_of (map source_of sources))) behind)
    ∙ ap (λ (l : List (List ColumnType)). l ++ behind) (sym (map-append (λ (e : Entry). e.columns) front (entries_of (map source_of sources))))))

pub next_entries : (sources : List coded_source.Source) (i : ℕ) (source : coded_source.Source) (before middle after : List (List ColumnType)) (columns : List ColumnType) (joins : List coded_join.Joined) → i < length sources → source ≡ get_or sources i source →
    before ≡ columns_of_entries (entries_of (map source_of (take i sources))) → columns ≡ source.first.columns.items → joins ≡ source.joins.items → middle ≡ before ++ columns ∷ [] → after ≡ middle ++ map columns_joined joins →
    after ≡ columns_of_entries (entries_of (map source_of (take (i + 1) sources)))
next_entries sources i source before middle after columns joins less is old first more one two =
    two ∙ (ap₂ (λ (l m : List (List ColumnType)). l ++ m) one (ap (map columns_joined) more)
    ∙ (append_assoc before (columns ∷ []) (map columns_joined source.joins.items)
    ∙ (ap₂ (λ (l : List (List ColumnType)) (c : List ColumnType). l ++ (c ∷ map columns_joined source.joins.items)) old first
    ∙ (sym (sources_push (take i sources) source) ∙ sym (ap (λ (l : List coded_source.Source). columns_of_entries (entries_of (map source_of l))) (taken sources i source less is))))))

-- ---- results
pub if_ok : {X E : Type 0} (r : Result X E) (P Q : X → Type 0) → ((x : X) → P x → Q x) → IfOk r P → IfOk r Q
if_ok (Ok x) P Q f h = f x h
if_ok (Err e) P Q f h = h

pub on_ok : {X E : Type 0} (r : Result X E) (P Q : Type 0) → (P → Q) → OnOk r P → OnOk r Q
on_ok (Ok x) P Q f h = f h
on_ok (Err e) P Q f h = h

-- ---- what was read of a query
pub declared_of : (entries : List Entry) (all : List (List ColumnType)) (cs : List ReadColumn) → all ≡ columns_of_entries entries → AllByRecursion (IsDeclared all) cs → AllByRecursion (IsDeclared (columns_of_entries entries)) cs
declared_of entries all cs is h = subst (λ (l : List (List ColumnType)). AllByRecursion (IsDeclared l) cs) is h

pub named_there : (query : QueryParts) (all : List (List ColumnType)) (named : List ℕ) → IsSpecification (query_of query) → all ≡ columns_of_entries (entries_of (query_of query).sources) → named ≡ columns_of_query query → AllByRecursion (HasColumn all) named
named_there query all named h is same =
    subst (λ (l : List (List ColumnType)). AllByRecursion (HasColumn l) named) (sym is)
    (subst (AllByRecursion (HasColumn (columns_of_entries (entries_of (query_of query).sources)))) (sym same) (query_declared query h))
