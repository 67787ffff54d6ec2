-- Of columns that a query reads, each of them told once, those of some entries of FROM are no more than the definition counts.
use Rattle.std.proofs.Common.{◌≡◌, ◌∙◌, ℕ, zero, suc, ◌+◌, ◌*◌, ◌/◌, ◌<◌, ◌≤◌, nat_eq, eqb, Bool, true, false, ◌||◌, if◌then◌else◌, List, [], ◌∷◌, length, refl, sym, subst, arith}
use Rattle.std.specs.List.{AllByRecursion, IsDistinct, filter, flat_map, list_any, range_with_len}
use Rattle.std.specs.Cmp.{nat_eq_equiv}
use Rattle.std.proofs.lemmas.Bool.Decides.{nat_tests}
use Rattle.std.proofs.lemmas.List.Folds.{list_any-append}
use Rattle.std.proofs.lemmas.Map.Made.{length-le_from_is_member}
use Rattle.qw_algebra.specs.Columns.{is_of, owner}
use Rattle.qw_meaning.specs.Select.{Specification}
use Rattle.qw_compile.specs.PlannedQueries.{columns_read, kept_by, reads}

pub equal_is : (a b : ℕ) → nat_eq a b ≡ true → a ≡ b
equal_is a b h = grind (arith, nat_tests)

or_second : (a b : Bool) → b ≡ true → (a || b) ≡ true
or_second true b h = refl
or_second false b h = h

all_kept : (P : ℕ → Type 0) (test : ℕ → Bool) (xs : List ℕ) → AllByRecursion P xs → AllByRecursion P (filter test xs)
all_kept P test [] h = tt
all_kept P test (x ∷ xs) h = one (test x) (filter test xs) (all_kept P test xs h.1)
  where
    one : (b : Bool) (rest : List ℕ) → AllByRecursion P rest → AllByRecursion P (if b then x ∷ rest else rest)
    one true rest g = (h.0, g)
    one false rest g = g

pub distinct_kept : (test : ℕ → Bool) (xs : List ℕ) → IsDistinct eqb xs → IsDistinct eqb (filter test xs)
unfolding IsDistinct
distinct_kept test [] h = tt
distinct_kept test (x ∷ xs) h = one (test x) (all_kept (λ y. eqb x y ≡ false) test xs h.0) (distinct_kept test xs h.1)
  where
    one : (b : Bool) → AllByRecursion (λ y. eqb x y ≡ false) (filter test xs) → IsDistinct eqb (filter test xs) → IsDistinct eqb (if b then x ∷ filter test xs else filter test xs)
    one true first g = (first, g)
    one false first g = g

-- one of those that pass a test passes it, and what holds of all holds of it
pub kept_member : (P : ℕ → Type 0) (test : ℕ → Bool) (xs : List ℕ) (q : ℕ) → AllByRecursion P xs → list_any (eqb q) (filter test xs) ≡ true → (test q ≡ true) × P q
kept_member P test [] q h g = absurd cc
kept_member P test (x ∷ xs) q h g = one (test x) refl (λ rest. kept_member P test xs q h.1 rest) g
  where
    here : test x ≡ true → (b : Bool) → eqb q x ≡ b → (list_any (eqb q) (filter test xs) ≡ true → (test q ≡ true) × P q) → (b || list_any (eqb q) (filter test xs)) ≡ true → (test q ≡ true) × P q
    here e true same rest g =
        let is : x ≡ q = sym (equal_is q x same) in
        (subst (λ (n : ℕ). test n ≡ true) is e, subst P is h.0)
    here e false same rest g = rest g

    one : (b : Bool) → test x ≡ b → (list_any (eqb q) (filter test xs) ≡ true → (test q ≡ true) × P q)
        → list_any (eqb q) (if b then x ∷ filter test xs else filter test xs) ≡ true → (test q ≡ true) × P q
    one true e rest g = here e (eqb q x) refl rest g
    one false e rest g = rest g

member_kept : (test : ℕ → Bool) (xs : List ℕ) (q : ℕ) → test q ≡ true → list_any (eqb q) xs ≡ true → list_any (eqb q) (filter test xs) ≡ true
member_kept test [] q h g = g
member_kept test (x ∷ xs) q h g = one (test x) refl (eqb q x) refl (λ rest. member_kept test xs q h rest) g
  where
    one : (b : Bool) → test x ≡ b → (c : Bool) → eqb q x ≡ c → (list_any (eqb q) xs ≡ true → list_any (eqb q) (filter test xs) ≡ true) → (c || list_any (eqb q) xs) ≡ true
        → list_any (eqb q) (if b then x ∷ filter test xs else filter test xs) ≡ true
    one true e true same rest g = rw same refl
    one true e false same rest g = or_second (eqb q x) (list_any (eqb q) (filter test xs)) (rest g)
    one false e true same rest g =
        let wrong : test x ≡ true = subst (λ (n : ℕ). test n ≡ true) (equal_is q x same) h in
        absurd (let no : true ≡ false = sym wrong ∙ e in cc)
    one false e false same rest g = rest g

pub in_range : (n a q : ℕ) → a ≤ q → q < a + n → list_any (eqb q) (range_with_len a n) ≡ true
in_range zero a q h g = absurd (omega (arith, h, g))
in_range (suc n) a q h g = one (eqb q a) refl (λ behind. in_range n (a + 1) q behind (omega (arith, g)))
  where
    later : eqb q a ≡ false → a + 1 ≤ q
    later e = grind (arith, nat_tests)

    one : (b : Bool) → eqb q a ≡ b → (a + 1 ≤ q → list_any (eqb q) (range_with_len (a + 1) n) ≡ true) → (b || list_any (eqb q) (range_with_len (a + 1) n)) ≡ true
    one true e rest = refl
    one false e rest = rest (later e)

-- a column of one of these entries is among the 64 of each of them
among_entries : (entries : List ℕ) (q : ℕ) → is_of entries q ≡ true → list_any (eqb q) (flat_map (λ entry. range_with_len (64 * entry) 64) entries) ≡ true
among_entries [] q h = absurd cc
among_entries (e ∷ entries) q h =
    list_any-append (eqb q) (range_with_len (64 * e) 64) (flat_map (λ entry. range_with_len (64 * entry) 64) entries)
    ∙ one (nat_eq e (owner q)) refl (λ rest. among_entries entries q rest) h
  where
    or_first : (a b : Bool) → a ≡ true → (a || b) ≡ true
    or_first true b h = refl
    or_first false b h = absurd cc

    one : (b : Bool) → nat_eq e (owner q) ≡ b → (is_of entries q ≡ true → list_any (eqb q) (flat_map (λ entry. range_with_len (64 * entry) 64) entries) ≡ true) → (b || is_of entries q) ≡ true
        → (list_any (eqb q) (range_with_len (64 * e) 64) || list_any (eqb q) (flat_map (λ entry. range_with_len (64 * entry) 64) entries)) ≡ true
    one true same rest g =
        let here : e ≡ q / 64 = equal_is e (q / 64) same in
        or_first (list_any (eqb q) (range_with_len (64 * e) 64)) (list_any (eqb q) (flat_map (λ entry. range_with_len (64 * entry) 64) entries))
        (in_range 64 (64 * e) q (omega (arith, here)) (omega (arith, here)))
    one false other rest g = or_second (list_any (eqb q) (range_with_len (64 * e) 64)) (list_any (eqb q) (flat_map (λ entry. range_with_len (64 * entry) 64) entries)) (rest g)

pub kept_within : (query : Specification) (entries numbers : List ℕ) → IsDistinct eqb numbers → AllByRecursion (λ i. reads query i ≡ true) numbers → length (filter (is_of entries) numbers) ≤ kept_by query entries
kept_within query entries numbers once read =
    length-le_from_is_member nat_eq_equiv (filter (is_of entries) numbers) (columns_read query entries) (distinct_kept (is_of entries) numbers once)
    (λ q there.
    let known = kept_member (λ i. reads query i ≡ true) (is_of entries) numbers q read there in
    member_kept (reads query) (flat_map (λ entry. range_with_len (64 * entry) 64) entries) q known.1 (among_entries entries q known.0))
