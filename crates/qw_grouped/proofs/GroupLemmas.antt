-- Keys and groups: no key comes twice, the groups are all rows, and rows in another order make the same groups in another order.
use Rattle.std.proofs.Common.{◌≡◌, ◌∙◌, ◌⊎◌, ◌+◌, ℕ, zero, suc, Bool, true, false, not, List, [], ◌∷◌, ◌++◌, map, inl, inr, refl, sym, ap, subst, arith}
use Rattle.std.specs.List.{AllByRecursion, AllPairs, filter, flat_map}
use Rattle.std.specs.List.Sorted.{IsPermutation}
use Rattle.std.proofs.lemmas.List.Elements.{All-weaker, filter_passes}
use Rattle.std.proofs.lemmas.List.Kept.{AllPairs-cons, AllPairs-filter}
use Rattle.std.proofs.lemmas.List.Sorted.{IsPermutation-append_right, IsPermutation-cons, IsPermutation-filter_both, IsPermutation-refl, IsPermutation-sym, IsPermutation-trans}
use Rattle.qw_types.specs.ValueOrder.{is_same_row}
use Rattle.qw_types.specs.declared.value.Val.{Val}
use Rattle.qw_grouped.specs.Groups.{Group, groups, key_of, keys, members, once}
use Rattle.qw_grouped.proofs.FunctionLemmas.{filter_permuted, two_places}
use Rattle.qw_grouped.proofs.Lists.{all_filter, dropped, filter_within, filters_commute, flat_map_each, flat_map_map, passed}
use Rattle.qw_grouped.proofs.Permuting.{permuted}
use Rattle.qw_types.proofs.ValueOrderLemmas as ordered

-- ---- rows that are and aren't distinct

other_way : (a b : List Val) (c : Bool) → is_same_row b a ≡ c → is_same_row a b ≡ false → c ≡ false
other_way a b true e h =
    let same : b ≡ a = ordered.rows b a e in
    let itself : is_same_row a b ≡ true = subst (λ r. is_same_row a r ≡ true) (sym same) (ordered.same_row a) in
    absurd cc
other_way a b false e h = refl

not_true : (b : Bool) → not b ≡ true → b ≡ false
not_true true h = absurd cc
not_true false h = refl

-- ---- once

pub apart : (rows : List (List Val)) → AllPairs (λ row other. is_same_row row other ≡ false) (once rows)
apart [] = λ i j d lt high. absurd (omega arith)
apart (row ∷ rows) =
    AllPairs-cons (λ r other. is_same_row r other ≡ false) row (filter (λ other. not (is_same_row row other)) (once rows))
    (All-weaker (λ other. not (is_same_row row other) ≡ true) (λ other. is_same_row row other ≡ false) (λ other h. not_true (is_same_row row other) h)
    (filter (λ other. not (is_same_row row other)) (once rows)) (filter_passes (λ other. not (is_same_row row other)) (once rows)))
    (AllPairs-filter (λ r other. is_same_row r other ≡ false) (λ other. not (is_same_row row other)) (once rows) (apart rows))

once_two : (x y : List Val) (zs : List (List Val)) (b : Bool) → is_same_row x y ≡ b → IsPermutation (once (x ∷ y ∷ zs)) (once (y ∷ x ∷ zs))
once_two x y zs true e = subst (λ r. IsPermutation (once (x ∷ r ∷ zs)) (once (r ∷ x ∷ zs))) (ordered.rows x y e) (IsPermutation-refl (once (x ∷ x ∷ zs)))
once_two x y zs false e =
    let p : List Val → Bool = λ other. not (is_same_row x other) in
    let q : List Val → Bool = λ other. not (is_same_row y other) in
    let left : once (x ∷ y ∷ zs) ≡ x ∷ y ∷ filter p (filter q (once zs)) = ap (λ rest. x ∷ rest) (passed p y (filter q (once zs)) (ap not e)) in
    let right : once (y ∷ x ∷ zs) ≡ y ∷ x ∷ filter q (filter p (once zs)) =
    ap (λ rest. y ∷ rest) (passed q x (filter p (once zs)) (ap not (other_way x y (is_same_row y x) refl e))) in
    let same : x ∷ y ∷ filter q (filter p (once zs)) ≡ x ∷ y ∷ filter p (filter q (once zs)) = ap (λ rest. x ∷ y ∷ rest) (filters_commute q p (once zs)) in
    subst (λ l. IsPermutation l (once (y ∷ x ∷ zs))) (same ∙ sym left)
    (subst (λ r. IsPermutation (x ∷ y ∷ filter q (filter p (once zs))) r) (sym right) (two_places x y (filter q (filter p (once zs)))))

pub once_permuted : (rows others : List (List Val)) → IsPermutation rows others → IsPermutation (once rows) (once others)
once_permuted = permuted (λ xs ys. IsPermutation (once xs) (once ys))
    (λ xs. IsPermutation-refl (once xs))
    (λ xs ys h. IsPermutation-sym (once xs) (once ys) h)
    (λ xs ys zs h g. IsPermutation-trans (once xs) (once ys) (once zs) h g)
    (λ x xs ys h. IsPermutation-cons x (filter (λ other. not (is_same_row x other)) (once xs)) (filter (λ other. not (is_same_row x other)) (once ys))
    (filter_permuted (λ other. not (is_same_row x other)) (once xs) (once ys) h))
    (λ x y zs. once_two x y zs (is_same_row x y) refl)

-- ---- each row is in the group of its key alone

abbrev Apart : List (List Val) → Type 0
Apart [] = Unit {0}
Apart (k ∷ ks) = AllByRecursion (λ other. is_same_row k other ≡ false) ks × Apart ks

abbrev Among : List (List Val) → List Val → Type 0
Among [] k = ⊥
Among (other ∷ ks) k = (other ≡ k) ⊎ Among ks k

filter_apart_by : (p : List Val → Bool) (k : List Val) (ks : List (List Val)) (b : Bool) → p k ≡ b → AllByRecursion (λ other. is_same_row k other ≡ false) ks → Apart (filter p ks) → Apart (filter p (k ∷ ks))
filter_apart_by p k ks true e h rest = rw e (all_filter (λ other. is_same_row k other ≡ false) p ks h, rest)
filter_apart_by p k ks false e h rest = rw e rest

filter_apart : (p : List Val → Bool) (ks : List (List Val)) → Apart ks → Apart (filter p ks)
filter_apart p [] h = h
filter_apart p (k ∷ ks) h = filter_apart_by p k ks (p k) refl h.0 (filter_apart p ks h.1)

all_passed_by : (p : List Val → Bool) (k : List Val) (ks : List (List Val)) (b : Bool) → p k ≡ b → AllByRecursion (λ other. p other ≡ true) (filter p ks) → AllByRecursion (λ other. p other ≡ true) (filter p (k ∷ ks))
all_passed_by p k ks true e rest = subst (AllByRecursion (λ other. p other ≡ true)) (sym (passed p k ks e)) (e, rest)
all_passed_by p k ks false e rest = subst (AllByRecursion (λ other. p other ≡ true)) (sym (dropped p k ks e)) rest

all_passed : (p : List Val → Bool) (ks : List (List Val)) → AllByRecursion (λ other. p other ≡ true) (filter p ks)
all_passed p [] = tt
all_passed p (k ∷ ks) = all_passed_by p k ks (p k) refl (all_passed p ks)

more_of : {X : Type 0} (P Q : X → Type 0) (xs : List X) → ((x : X) → P x → Q x) → AllByRecursion P xs → AllByRecursion Q xs
more_of P Q [] more h = h
more_of P Q (x ∷ xs) more h = (more x h.0, more_of P Q xs more h.1)

once_apart : (rows : List (List Val)) → Apart (once rows)
once_apart [] = tt
once_apart (row ∷ rows) =
    let p : List Val → Bool = λ other. not (is_same_row row other) in (
      more_of (λ other. p other ≡ true) (λ other. is_same_row row other ≡ false) (filter p (once rows)) (λ other h. not_true (is_same_row row other) h) (all_passed p (once rows)),
      filter_apart p (once rows) (once_apart rows),
    )

among_filter : (p : List Val → Bool) (ks : List (List Val)) (k : List Val) → p k ≡ true → Among ks k → Among (filter p ks) k
among_filter p [] k h m = m
among_filter p (other ∷ ks) k h (inl e) =
    let pass : p other ≡ true = subst (λ r. p r ≡ true) (sym e) h in
    subst (λ l. Among l k) (sym (passed p other ks pass)) (inl e)
among_filter p (other ∷ ks) k h (inr m) = by_test (p other) refl (among_filter p ks k h m)
  where
    by_test : (b : Bool) → p other ≡ b → Among (filter p ks) k → Among (filter p (other ∷ ks)) k
    by_test true e rest = subst (λ l. Among l k) (sym (passed p other ks e)) (inr rest)
    by_test false e rest = subst (λ l. Among l k) (sym (dropped p other ks e)) rest

among_once : (ks : List (List Val)) (k : List Val) → Among ks k → Among (once ks) k
among_once [] k m = m
among_once (other ∷ ks) k (inl e) = inl e
among_once (other ∷ ks) k (inr m) = by_test (is_same_row other k) refl (among_once ks k m)
  where
    by_test : (b : Bool) → is_same_row other k ≡ b → Among (once ks) k → Among (once (other ∷ ks)) k
    by_test true e rest = inl (ordered.rows other k e)
    by_test false e rest = inr (among_filter (λ o. not (is_same_row other o)) (once ks) k (ap not e) rest)

module _ {X : Type 0} (key : X → List Val) where
  all_among : (rows : List X) → AllByRecursion (λ row. Among (map key rows) (key row)) rows
  all_among [] = tt
  all_among (row ∷ rows) = (inl refl, more_of (λ r. Among (map key rows) (key r)) (λ r. Among (map key (row ∷ rows)) (key r)) rows (λ r m. inr m) (all_among rows))

  abbrev of_key : List Val → List X → List X
  of_key k rows = filter (λ row. is_same_row k (key row)) rows

  abbrev of_others : List Val → List X → List X
  of_others k rows = filter (λ row. not (is_same_row k (key row))) rows

  left_among : (k : List Val) (ks : List (List Val)) (rows : List X) → AllByRecursion (λ row. Among (k ∷ ks) (key row)) rows → AllByRecursion (λ row. Among ks (key row)) (of_others k rows)
  left_among k ks [] h = tt
  left_among k ks (row ∷ rows) h = by_test (is_same_row k (key row)) refl h.0 (left_among k ks rows h.1)
    where
      by_test : (b : Bool) → is_same_row k (key row) ≡ b → Among (k ∷ ks) (key row) → AllByRecursion (λ r. Among ks (key r)) (of_others k rows) → AllByRecursion (λ r. Among ks (key r)) (of_others k (row ∷ rows))
      by_test true e m rest = rw e rest
      by_test false e (inl same) rest =
          let itself : is_same_row k (key row) ≡ true = subst (λ r. is_same_row k r ≡ true) same (ordered.same_row k) in
          absurd cc
      by_test false e (inr m) rest = rw e (m, rest)

  -- the rows of a key are among those that are of no other
  key_among : (k other : List Val) (rows : List X) → is_same_row k other ≡ false → of_key other (of_others k rows) ≡ of_key other rows
  key_among k other rows h = filter_within (λ row. is_same_row other (key row)) (λ row. not (is_same_row k (key row))) rows
      (λ row is. ap not (subst (λ r. is_same_row k r ≡ false) (ordered.rows other (key row) is) h))

  covered : (ks : List (List Val)) (rows : List X) → Apart ks → AllByRecursion (λ row. Among ks (key row)) rows → IsPermutation rows (flat_map (λ k. of_key k rows) ks)
  covered [] [] h m = IsPermutation-refl []
  covered [] (row ∷ rows) h m = absurd m.0
  covered (k ∷ ks) rows h m =
      let rest : List X = of_others k rows in
      let same : flat_map (λ other. of_key other rest) ks ≡ flat_map (λ other. of_key other rows) ks =
      flat_map_each (λ other. of_key other rest) (λ other. of_key other rows) ks
      (more_of (λ other. is_same_row k other ≡ false) (λ other. of_key other rest ≡ of_key other rows) ks (λ other a. key_among k other rows a) h.0) in
      IsPermutation-trans rows (of_key k rows ++ rest) (of_key k rows ++ flat_map (λ other. of_key other rows) ks)
      (IsPermutation-filter_both (λ row. is_same_row k (key row)) (λ row. not (is_same_row k (key row))) (λ row. refl) rows)
      (IsPermutation-append_right (of_key k rows) rest (flat_map (λ other. of_key other rows) ks)
      (subst (IsPermutation rest) same (covered ks rest h.1 (left_among k ks rows m))))

  pub partition : (rows : List X) → IsPermutation rows (flat_map (λ k. of_key k rows) (once (map key rows)))
  partition rows = covered (once (map key rows)) rows (once_apart (map key rows))
      (more_of (λ row. Among (map key rows) (key row)) (λ row. Among (once (map key rows)) (key row)) rows (λ row m. among_once (map key rows) (key row) m) (all_among rows))

append_nothing : {A : Type 0} (xs : List A) → xs ++ [] ≡ xs
append_nothing [] = refl
append_nothing (x ∷ xs) = ap (λ rest. x ∷ rest) (append_nothing xs)

pub groups_are_all : (columns : ℕ) (rows : List (List Val)) → IsPermutation rows (flat_map (λ (g : Group). g.rows) (groups columns rows))
groups_are_all zero rows = subst (IsPermutation rows) (sym (append_nothing rows)) (IsPermutation-refl rows)
groups_are_all (suc columns) rows =
    subst (IsPermutation rows) (sym (flat_map_map (λ (g : Group). g.rows) (λ key. record { key = key; rows = members (suc columns) key rows }) (keys (suc columns) rows)))
    (partition (key_of (suc columns)) rows)
