-- The first columns of entries of which none is named: all columns stay different, each entry has one, and there are at most 512.
use Rattle.std.proofs.Common.{◌≡◌, ℕ, zero, suc, ◌+◌, ◌*◌, ◌/◌, ◌%◌, ◌<◌, ◌≤◌, ◌==◌, ◌||◌, eqb, if◌then◌else◌, Bool, true, false, Some, List, [], ◌∷◌, ◌++◌, length, slice_get, ◌⊎◌, inl, inr, refl, sym, ap, ◌∙◌, subst, arith}
use Rattle.std.specs.List.{AllByRecursion, IsDistinct, list_any}
use Rattle.std.proofs.lemmas.Map.Steps.{length-le_from_distinct_below}
use Rattle.std.proofs.lemmas.List.{length-map}
use Rattle.std.proofs.lemmas.Option.{slice_get_within}
use Rattle.qw_types.specs.declared.schema.ColumnType.{ColumnType}
use Rattle.qw_meaning.specs.Query.{QueryParts, query_of}
use Rattle.qw_meaning.specs.Select.{Entry, IsSpecification, entries_of}
use Rattle.qw_algebra.specs.Columns.{owner}
use Rattle.qw_physical.specs.declared.pipeline.ReadColumn.{ReadColumn}
use Rattle.qw_physical.specs.Named.{IsDeclared, and_first, and_firsts, column_in, columns_of_entries, columns_of_query, named_by, numbers}
use Rattle.qw_physical.proofs.Reading.{IsThere, ReadsAll, all_named, any_front, any_numbers, named_distinct, push_distinct, reads_there, same_number}

-- ---- what was there stays
pub first_kept : (f : ℕ → Bool) (xs : List ℕ) (entry : ℕ) → list_any f xs ≡ true → list_any f (and_first xs entry) ≡ true
first_kept f xs entry h = by_test (list_any (λ (i : ℕ). owner i == entry) xs)
  where
    by_test : (b : Bool) → list_any f (if b then xs else xs ++ (64 * entry) ∷ []) ≡ true
    by_test true = h
    by_test false = any_front f xs ((64 * entry) ∷ []) h

pub firsts_kept : (f : ℕ → Bool) (xs : List ℕ) (entry count : ℕ) → list_any f xs ≡ true → list_any f (and_firsts xs entry count) ≡ true
firsts_kept f xs entry zero h = h
firsts_kept f xs entry (suc count) h = firsts_kept f (and_first xs entry) (entry + 1) count (first_kept f xs entry h)

all_kept : (xs more : List ℕ) (entry count : ℕ) → AllByRecursion (IsThere xs) more → AllByRecursion (IsThere (and_firsts xs entry count)) more
all_kept xs [] entry count h = tt
all_kept xs (i ∷ more) entry count h = (firsts_kept (λ (j : ℕ). j == i) xs entry count h.0, all_kept xs more entry count h.1)

-- ---- all are different
is_owner : (entry : ℕ) → (owner (64 * entry) == entry) ≡ true
is_owner entry = let at : (64 * entry) / 64 ≡ entry = omega arith in subst (λ (n : ℕ). (n == entry) ≡ true) (sym at) (itself entry)
  where
    itself : (n : ℕ) → (n == n) ≡ true
    itself n = grind (arith)

not_first : (xs : List ℕ) (entry : ℕ) → list_any (λ (i : ℕ). owner i == entry) xs ≡ false → list_any (λ (j : ℕ). j == 64 * entry) xs ≡ false
not_first [] entry h = refl
not_first (x ∷ xs) entry h = by_test (x == 64 * entry) refl (owner x == entry) refl h (not_first xs entry)
  where
    apart : (b : Bool) → b ≡ true → b ≡ false → ⊥
    apart true p q = absurd cc
    apart false p q = absurd cc

    by_test : (b : Bool) → (x == 64 * entry) ≡ b → (o : Bool) → (owner x == entry) ≡ o → (o || list_any (λ (i : ℕ). owner i == entry) xs) ≡ false →
        (list_any (λ (i : ℕ). owner i == entry) xs ≡ false → list_any (λ (j : ℕ). j == 64 * entry) xs ≡ false) → (b || list_any (λ (j : ℕ). j == 64 * entry) xs) ≡ false
    by_test b same true own h later = absurd cc
    by_test true same false own h later =
        let at : x ≡ 64 * entry = same_number x (64 * entry) same in
        let is : (owner x == entry) ≡ true = subst (λ (n : ℕ). (owner n == entry) ≡ true) (sym at) (is_owner entry) in
        absurd (apart (owner x == entry) is own)
    by_test false same false own h later = later h

first_distinct : (xs : List ℕ) (entry : ℕ) → IsDistinct eqb xs → IsDistinct eqb (and_first xs entry)
first_distinct xs entry d = by_test (list_any (λ (i : ℕ). owner i == entry) xs) refl
  where
    by_test : (b : Bool) → list_any (λ (i : ℕ). owner i == entry) xs ≡ b → IsDistinct eqb (if b then xs else xs ++ (64 * entry) ∷ [])
    by_test true h = d
    by_test false h = push_distinct xs (64 * entry) d (not_first xs entry h)

firsts_distinct : (xs : List ℕ) (entry count : ℕ) → IsDistinct eqb xs → IsDistinct eqb (and_firsts xs entry count)
firsts_distinct xs entry zero d = d
firsts_distinct xs entry (suc count) d = firsts_distinct (and_first xs entry) (entry + 1) count (first_distinct xs entry d)

-- ---- each entry has one
own_last : (xs : List ℕ) (entry : ℕ) → list_any (λ (i : ℕ). owner i == entry) (xs ++ (64 * entry) ∷ []) ≡ true
own_last [] entry = by_test (owner (64 * entry) == entry) (is_owner entry)
  where
    by_test : (b : Bool) → b ≡ true → (b || false) ≡ true
    by_test true h = refl
    by_test false h = h
own_last (x ∷ xs) entry = by_test (owner x == entry) (own_last xs entry)
  where
    by_test : (b : Bool) → list_any (λ (i : ℕ). owner i == entry) (xs ++ (64 * entry) ∷ []) ≡ true → (b || list_any (λ (i : ℕ). owner i == entry) (xs ++ (64 * entry) ∷ [])) ≡ true
    by_test true h = refl
    by_test false h = h

first_owned : (xs : List ℕ) (entry : ℕ) → list_any (λ (i : ℕ). owner i == entry) (and_first xs entry) ≡ true
first_owned xs entry = by_test (list_any (λ (i : ℕ). owner i == entry) xs) refl
  where
    by_test : (b : Bool) → list_any (λ (i : ℕ). owner i == entry) xs ≡ b → list_any (λ (i : ℕ). owner i == entry) (if b then xs else xs ++ (64 * entry) ∷ []) ≡ true
    by_test true h = h
    by_test false h = own_last xs entry

firsts_owned : (xs : List ℕ) (entry count k : ℕ) → entry ≤ k → k < entry + count → list_any (λ (i : ℕ). owner i == k) (and_firsts xs entry count) ≡ true
firsts_owned xs entry zero k low high = absurd (omega (arith, low, high))
firsts_owned xs entry (suc count) k low high = by_case (at_or_behind entry k low) (λ behind. firsts_owned (and_first xs entry) (entry + 1) count k behind (omega (arith, high)))
  where
    at_or_behind : (a b : ℕ) → a ≤ b → (a ≡ b) ⊎ (a + 1 ≤ b)
    at_or_behind a b h = grind arith

    by_case : (entry ≡ k) ⊎ (entry + 1 ≤ k) → (entry + 1 ≤ k → list_any (λ (i : ℕ). owner i == k) (and_firsts (and_first xs entry) (entry + 1) count) ≡ true) →
        list_any (λ (i : ℕ). owner i == k) (and_firsts (and_first xs entry) (entry + 1) count) ≡ true
    by_case (inl same) later =
        firsts_kept (λ (i : ℕ). owner i == k) (and_first xs entry) (entry + 1) count (subst (λ (n : ℕ). list_any (λ (i : ℕ). owner i == n) (and_first xs entry) ≡ true) same (first_owned xs entry))
    by_case (inr behind) later = later behind

-- ---- there are few
in_few : (entries : List Entry) → AllByRecursion (λ (e : Entry). length e.columns ≤ 64) entries → (e k : ℕ) (d : ColumnType) → column_in (slice_get (columns_of_entries entries) e) k ≡ Some d → (e < length entries) × (k < 64)
in_few [] few e k d h = absurd cc
in_few (entry ∷ entries) few zero k d h = let inside = slice_get_within entry.columns k d h in (omega arith, omega (arith, inside, few.0))
in_few (entry ∷ entries) few (suc e) k d h = let rest = in_few entries few.1 e k d h in (omega (arith, rest.0), rest.1)

module _ (entries : List Entry) (few : AllByRecursion (λ (e : Entry). length e.columns ≤ 64) entries) (eight : length entries ≤ 8) where
  below : (cs : List ReadColumn) → AllByRecursion (IsDeclared (columns_of_entries entries)) cs → (q : ℕ) → list_any (eqb q) (numbers cs) ≡ true → q < 512
  below [] all q any = absurd cc
  below (c ∷ cs) all q any = by_test (eqb q c.number) refl any (below cs all.1 q)
    where
      by_test : (t : Bool) → eqb q c.number ≡ t → (t || list_any (eqb q) (numbers cs)) ≡ true → (list_any (eqb q) (numbers cs) ≡ true → q < 512) → q < 512
      by_test true same h later =
          let at : q ≡ c.number = same_number q c.number same in
          let inside = in_few entries few (c.number / 64) (c.number % 64) (record { ty = c.ty; not_null = c.not_null }) all.0 in
          let low = inside.0 in
          omega (arith, at, low, eight)
      by_test false same h later = later h

  pub few_columns : (cs : List ReadColumn) → IsDistinct eqb (numbers cs) → AllByRecursion (IsDeclared (columns_of_entries entries)) cs → length cs ≤ 512
  few_columns cs d all =
      let most = length-le_from_distinct_below (numbers cs) 512 d (below cs all) in
      let many : length (numbers cs) ≡ length cs = length-map cs (λ (c : ReadColumn). c.number) in
      omega (arith, most, many)

-- ---- of a query
pub few_read : (query : QueryParts) (cs : List ReadColumn) → IsSpecification (query_of query) → IsDistinct eqb (numbers cs) → AllByRecursion (IsDeclared (columns_of_entries (entries_of (query_of query).sources))) cs → length cs ≤ 512
few_read query cs h d all = few_columns (entries_of (query_of query).sources) h.few_columns h.few_entries cs d all

pub read_distinct : (query : QueryParts) (cs : List ReadColumn) (count : ℕ) → numbers cs ≡ and_firsts (named_by query) 0 count → IsDistinct eqb (numbers cs)
read_distinct query cs count is = subst (IsDistinct eqb) (sym is) (firsts_distinct (named_by query) 0 count (named_distinct (columns_of_query query)))

pub each_owned : (query : QueryParts) (cs : List ReadColumn) (count entry : ℕ) → numbers cs ≡ and_firsts (named_by query) 0 count → entry < count → list_any (λ (c : ReadColumn). owner c.number == entry) cs ≡ true
each_owned query cs count entry is less =
    any_numbers (λ (i : ℕ). owner i == entry) cs
    ∙ (ap (list_any (λ (i : ℕ). owner i == entry)) is ∙ firsts_owned (named_by query) 0 count entry (omega arith) (omega (arith, less)))

pub reads_with_firsts : (query : QueryParts) (cs : List ReadColumn) (count : ℕ) → IsSpecification (query_of query) → numbers cs ≡ and_firsts (named_by query) 0 count →
    AllByRecursion (IsDeclared (columns_of_entries (entries_of (query_of query).sources))) cs → ReadsAll query cs
reads_with_firsts query cs count h is declared =
    reads_there query cs h (subst (λ (ns : List ℕ). AllByRecursion (IsThere ns) (columns_of_query query)) (sym is) (all_kept (named_by query) (columns_of_query query) 0 count (all_named query))) declared

-- what stands of the columns that are read, once the first ones are added
pub record AreRead (query : QueryParts) (cs : List ReadColumn) : Type 0 where
  pub read : numbers cs ≡ and_firsts (named_by query) 0 (length (entries_of (query_of query).sources))
  pub declared : AllByRecursion (IsDeclared (columns_of_entries (entries_of (query_of query).sources))) cs

pub are_read : (query : QueryParts) (all : List (List ColumnType)) (count : ℕ) (old new : List ReadColumn) → all ≡ columns_of_entries (entries_of (query_of query).sources) → length all ≡ count → numbers old ≡ named_by query →
    numbers new ≡ and_firsts (numbers old) 0 count → (AllByRecursion (IsDeclared all) old → AllByRecursion (IsDeclared all) new) → AllByRecursion (IsDeclared (columns_of_entries (entries_of (query_of query).sources))) old → AreRead query new
are_read query all count old new is many named added declared before =
    let entries = entries_of (query_of query).sources in
    let same : count ≡ length entries = sym many ∙ (ap (λ (l : List (List ColumnType)). length l) is ∙ length-map entries (λ (e : Entry). e.columns)) in
    record {
      read = added ∙ (ap (λ (l : List ℕ). and_firsts l 0 count) named ∙ ap (λ (n : ℕ). and_firsts (named_by query) 0 n) same);
      declared = subst (λ (l : List (List ColumnType)). AllByRecursion (IsDeclared l) new) is (declared (subst (λ (l : List (List ColumnType)). AllByRecursion (IsDeclared l) old) (sym is) before));
    }
