-- Set functions over values in any order, and over one value more.
use Rattle.std.proofs.Common.{◌≡◌, ◌∙◌, suc, ◌^◌, ◌+ℤ◌, ◌*ℤ◌, int_div, ℤ, pos, Bool, true, false, cond, List, [], ◌∷◌, ◌++◌, length, Ok, refl, sym, ap, ap₂, arith}
use Rattle.std.proofs.Math.IntN.{+ℤ_assoc, +ℤ_comm, +ℤ_idl}
use Rattle.std.specs.List.{filter}
use Rattle.std.specs.List.Sorted.{IsPermutation}
use Rattle.std.proofs.lemmas.List.Sorted.{IsPermutation-refl, IsPermutation-sym, IsPermutation-trans, IsPermutation-cons, IsPermutation-append_comm, IsPermutation-append_left, length_permutation}
use Rattle.qw_types.specs.Arithmetic.{checked}
use Rattle.qw_types.specs.declared.value.Val.{Val}
use Rattle.qw_types.specs.declared.value.Val.TheVariants.{Null, Num}
use Rattle.qw_scalar.specs.Evaluation.{as_number}
use Rattle.qw_grouped.specs.SetFunctions.{average_value, greater, greatest, greatest_value, is_not_null, least, least_value, lesser, not_null, number_in, set_function_value, sum_value, total}
use Rattle.qw_grouped.specs.declared.set_function.SetFunctionKind.{SetFunctionKind}
use Rattle.qw_grouped.specs.declared.set_function.SetFunctionKind.TheVariants.{CountRows, Count, Sum, Avg, Min, Max}
use Rattle.qw_grouped.proofs.Permuting.{permuted}
use Rattle.qw_grouped.proofs.ValueTotal.{greater_any, greater_either, lesser_any, lesser_either}

-- ---- a filter of a list in another order

pub two_places : {X : Type 0} (x y : X) (xs : List X) → IsPermutation (x ∷ y ∷ xs) (y ∷ x ∷ xs)
two_places x y xs = IsPermutation-append_left xs (x ∷ y ∷ []) (y ∷ x ∷ []) (IsPermutation-append_comm (x ∷ []) (y ∷ []))

filter_more : {X : Type 0} (b : Bool) (x : X) (xs ys : List X) → IsPermutation xs ys → IsPermutation (cond b (x ∷ xs) xs) (cond b (x ∷ ys) ys)
filter_more true x xs ys h = IsPermutation-cons x xs ys h
filter_more false x xs ys h = h

filter_two : {X : Type 0} (b c : Bool) (x y : X) (xs : List X) → IsPermutation (cond b (x ∷ cond c (y ∷ xs) xs) (cond c (y ∷ xs) xs)) (cond c (y ∷ cond b (x ∷ xs) xs) (cond b (x ∷ xs) xs))
filter_two true true x y xs = two_places x y xs
filter_two true false x y xs = IsPermutation-refl (x ∷ xs)
filter_two false true x y xs = IsPermutation-refl (y ∷ xs)
filter_two false false x y xs = IsPermutation-refl xs

pub filter_permuted : {X : Type 0} (p : X → Bool) (xs ys : List X) → IsPermutation xs ys → IsPermutation (filter p xs) (filter p ys)
filter_permuted p = permuted (λ xs ys. IsPermutation (filter p xs) (filter p ys))
    (λ xs. IsPermutation-refl (filter p xs))
    (λ xs ys h. IsPermutation-sym (filter p xs) (filter p ys) h)
    (λ xs ys zs h g. IsPermutation-trans (filter p xs) (filter p ys) (filter p zs) h g)
    (λ x xs ys h. filter_more (p x) x (filter p xs) (filter p ys) h)
    (λ x y xs. filter_two (p x) (p y) x y (filter p xs))

-- ---- sums

pub total_permuted : (xs ys : List Val) → IsPermutation xs ys → total xs ≡ total ys
total_permuted = permuted (λ xs ys. total xs ≡ total ys)
    (λ xs. refl)
    (λ xs ys h. sym h)
    (λ xs ys zs h g. h ∙ g)
    (λ x xs ys h. ap (λ t. number_in x +ℤ t) h)
    (λ x y xs. swapped (number_in x) (number_in y) (total xs))
  where
    swapped : (a b t : ℤ) → a +ℤ (b +ℤ t) ≡ b +ℤ (a +ℤ t)
    swapped a b t = sym (+ℤ_assoc a b t) ∙ ap (λ s. s +ℤ t) (+ℤ_comm a b) ∙ +ℤ_assoc b a t

pub total_append : (xs ys : List Val) → total (xs ++ ys) ≡ total xs +ℤ total ys
total_append [] ys = sym (+ℤ_idl (total ys))
total_append (x ∷ xs) ys = ap (λ t. number_in x +ℤ t) (total_append xs ys) ∙ sym (+ℤ_assoc (number_in x) (total xs) (total ys))

-- ---- the least and the greatest

module _ (better : Val → Val → Val)
    (either : (a b : Val) → better a b ≡ better b a)
    (any : (a b c : Val) → better (better a b) c ≡ better a (better b c)) where
  -- as `least` and `greatest` are made
  abbrev best : Val → List Val → Val
  best v [] = v
  best v (w ∷ values) = best (better v w) values

  abbrev best_of : (Val → List Val → Val) → Val → List Val → Val
  best_of all none [] = none
  best_of all none (v ∷ values) = all v values

  best_first : (v w : Val) (values : List Val) → best (better v w) values ≡ better v (best w values)
  best_first v w [] = refl
  best_first v w (x ∷ values) = ap (λ b. best b values) (any v w x) ∙ best_first v (better w x) values

  record Alike (none : Val) (xs ys : List Val) : Type 0 where
    many : length xs ≡ length ys
    best_is : best_of best none xs ≡ best_of best none ys

  more_alike : (none x : Val) (xs ys : List Val) → Alike none xs ys → Alike none (x ∷ xs) (x ∷ ys)
  more_alike none x [] [] h = record { many = refl; best_is = refl }
  more_alike none x [] (w ∷ ys) h = absurd (omega (arith, h.many))
  more_alike none x (v ∷ xs) [] h = absurd (omega (arith, h.many))
  more_alike none x (v ∷ xs) (w ∷ ys) h = record {
    many = ap suc h.many;
    best_is = best_first x v xs ∙ ap (better x) h.best_is ∙ sym (best_first x w ys);
  }

  best_permuted : (none : Val) (xs ys : List Val) → IsPermutation xs ys → best_of best none xs ≡ best_of best none ys
  best_permuted none xs ys h = found.best_is
    where
      found : Alike none xs ys
      found = permuted (Alike none)
          (λ xs. record { many = refl; best_is = refl })
          (λ xs ys h. record { many = sym h.many; best_is = sym h.best_is })
          (λ xs ys zs h g. record { many = h.many ∙ g.many; best_is = h.best_is ∙ g.best_is })
          (more_alike none)
          (λ x y xs. record { many = refl; best_is = ap (λ b. best b xs) (either x y) })
          xs ys h

least_permuted : (xs ys : List Val) → IsPermutation xs ys → least_value xs ≡ least_value ys
least_permuted xs ys h = as_best xs ∙ best_permuted lesser lesser_either lesser_any Null xs ys h ∙ sym (as_best ys)
  where
    same : (v : Val) (values : List Val) → least v values ≡ best lesser lesser_either lesser_any v values
    same v [] = refl
    same v (w ∷ values) = same (lesser v w) values

    as_best : (values : List Val) → least_value values ≡ best_of lesser lesser_either lesser_any (best lesser lesser_either lesser_any) Null values
    as_best [] = refl
    as_best (v ∷ values) = same v values

greatest_permuted : (xs ys : List Val) → IsPermutation xs ys → greatest_value xs ≡ greatest_value ys
greatest_permuted xs ys h = as_best xs ∙ best_permuted greater greater_either greater_any Null xs ys h ∙ sym (as_best ys)
  where
    same : (v : Val) (values : List Val) → greatest v values ≡ best greater greater_either greater_any v values
    same v [] = refl
    same v (w ∷ values) = same (greater v w) values

    as_best : (values : List Val) → greatest_value values ≡ best_of greater greater_either greater_any (best greater greater_either greater_any) Null values
    as_best [] = refl
    as_best (v ∷ values) = same v values

-- ---- set functions

sum_permuted : (xs ys : List Val) → total xs ≡ total ys → length xs ≡ length ys → sum_value xs ≡ sum_value ys
sum_permuted [] [] t n = refl
sum_permuted [] (y ∷ ys) t n = absurd (omega (arith, n))
sum_permuted (x ∷ xs) [] t n = absurd (omega (arith, n))
sum_permuted (x ∷ xs) (y ∷ ys) t n = ap (λ s. as_number (checked s)) t

average_permuted : (xs ys : List Val) → total xs ≡ total ys → length xs ≡ length ys → average_value xs ≡ average_value ys
average_permuted [] [] t n = refl
average_permuted [] (y ∷ ys) t n = absurd (omega (arith, n))
average_permuted (x ∷ xs) [] t n = absurd (omega (arith, n))
average_permuted (x ∷ xs) (y ∷ ys) t n = ap₂ (λ s m. as_number (checked (int_div (s *ℤ pos (10 ^ 4)) (pos m)))) t n

pub any_order : (kind : SetFunctionKind) (values others : List Val) → IsPermutation values others → set_function_value kind values ≡ set_function_value kind others
any_order CountRows values others h = ap (λ n. Ok (Num (pos n))) (sym (length_permutation values others h))
any_order Count values others h = ap (λ n. Ok (Num (pos n))) (sym (length_permutation (not_null values) (not_null others) (filter_permuted is_not_null values others h)))
any_order Sum values others h =
    let left : IsPermutation (not_null values) (not_null others) = filter_permuted is_not_null values others h in
    sum_permuted (not_null values) (not_null others) (total_permuted (not_null values) (not_null others) left) (sym (length_permutation (not_null values) (not_null others) left))
any_order Avg values others h =
    let left : IsPermutation (not_null values) (not_null others) = filter_permuted is_not_null values others h in
    average_permuted (not_null values) (not_null others) (total_permuted (not_null values) (not_null others) left) (sym (length_permutation (not_null values) (not_null others) left))
any_order Min values others h = ap Ok (least_permuted (not_null values) (not_null others) (filter_permuted is_not_null values others h))
any_order Max values others h = ap Ok (greatest_permuted (not_null values) (not_null others) (filter_permuted is_not_null values others h))

-- ---- one value more

pub least_more : (v w : Val) (values : List Val) → least v (values ++ w ∷ []) ≡ lesser (least v values) w
least_more v w [] = refl
least_more v w (x ∷ values) = least_more (lesser v x) w values

pub greatest_more : (v w : Val) (values : List Val) → greatest v (values ++ w ∷ []) ≡ greater (greatest v values) w
greatest_more v w [] = refl
greatest_more v w (x ∷ values) = greatest_more (greater v x) w values
