-- The values that aren't null, their sum, and the one that is chosen of them, of one value more.
use Rattle.std.specs.Prelude.{cond}
use Rattle.std.proofs.Common.{◌≡◌, suc, ◌+◌, ◌≤◌, Bool, true, false, if◌then◌else◌, ℤ, pos, ◌+ℤ◌, unsigned_abs, List, [], ◌∷◌, ◌++◌, length, length-append, refl, ap, ◌∙◌, arith}
use Rattle.std.specs.List.{filter}
use Rattle.std.specs.Ordering.{is_ge, is_le, is_gt, is_lt}
use Rattle.std.specs.declared.cmp.Ordering.{Ordering}
use Rattle.std.specs.declared.cmp.Ordering.TheVariants.{Less, Equal, Greater}
use Rattle.std.proofs.lemmas.Int.{ints}
use Rattle.qw_types.specs.ValueOrder.{value_order}
use Rattle.qw_types.specs.declared.value.Val.{Val}
use Rattle.qw_types.specs.declared.value.Val.TheVariants as val
use Rattle.qw_scalar.specs.declared.comparison.Comparison.{Comparison}
use Rattle.qw_scalar.specs.declared.comparison.Comparison.TheVariants as op
use Rattle.qw_scalar.specs.Evaluation.{answers}
use Rattle.qw_grouped.specs.SetFunctions.{is_not_null, not_null, number_in, total, least, greatest, lesser, greater}

pub filter-more : {A : Type 0} → (p : A → Bool) (v : A) → p v ≡ true → (xs : List A) → filter p (xs ++ v ∷ []) ≡ filter p xs ++ v ∷ []
filter-more p v is [] = rw is refl
filter-more p v is (x ∷ xs) = in_both (p x) x (filter p (xs ++ v ∷ [])) (filter p xs) v (filter-more p v is xs)
  where
    in_both : {A : Type 0} → (b : Bool) (x : A) (l m : List A) (v : A) → l ≡ m ++ v ∷ [] → cond b (x ∷ l) l ≡ cond b (x ∷ m) m ++ v ∷ []
    in_both true x l m v h = ap (λ l'. x ∷ l') h
    in_both false x l m v h = h

pub filter-less : {A : Type 0} → (p : A → Bool) (v : A) → p v ≡ false → (xs : List A) → filter p (xs ++ v ∷ []) ≡ filter p xs
filter-less p v is [] = rw is refl
filter-less p v is (x ∷ xs) = in_both (p x) x (filter p (xs ++ v ∷ [])) (filter p xs) (filter-less p v is xs)
  where
    in_both : {A : Type 0} → (b : Bool) (x : A) (l m : List A) → l ≡ m → cond b (x ∷ l) l ≡ cond b (x ∷ m) m
    in_both true x l m h = ap (λ l'. x ∷ l') h
    in_both false x l m h = h

is-there : (v : Val) → (v ≡ val.Null → ⊥) → is_not_null v ≡ true
is-there val.Null some = absurd (some refl)
is-there (val.Num v) some = refl
is-there (val.Date v) some = refl
is-there (val.Text v) some = refl

pub taken-null : (values : List Val) (v : Val) → v ≡ val.Null → not_null (values ++ v ∷ []) ≡ not_null values
taken-null values v is = filter-less is_not_null v (ap is_not_null is) values

pub taken-there : (values : List Val) (v : Val) → (v ≡ val.Null → ⊥) → not_null (values ++ v ∷ []) ≡ not_null values ++ v ∷ []
taken-there values v some = filter-more is_not_null v (is-there v some) values

pub taken-few : (values : List Val) → length (not_null values) ≤ length values
taken-few [] = omega arith
taken-few (v ∷ values) = omega (arith, one (is_not_null v) v (not_null values), taken-few values)
  where
    one : (b : Bool) (x : Val) (xs : List Val) → length (cond b (x ∷ xs) xs) ≤ suc (length xs)
    one true x xs = omega arith
    one false x xs = omega arith

pub one-more : (values : List Val) (v : Val) → length (values ++ v ∷ []) ≡ length values + 1
one-more values v = length-append values (v ∷ [])

-- ---- sums
sum-assoc : (a b c : ℤ) → a +ℤ (b +ℤ c) ≡ (a +ℤ b) +ℤ c
sum-assoc a b c = omega (arith, ints)

sum-none : (a : ℤ) → a +ℤ pos 0 ≡ pos 0 +ℤ a
sum-none a = omega (arith, ints)

pub magnitude-add : (a b : ℤ) → unsigned_abs (a +ℤ b) ≤ unsigned_abs a + unsigned_abs b
magnitude-add a b = omega (arith, ints)

pub total-more : (xs : List Val) (v : Val) → total (xs ++ v ∷ []) ≡ total xs +ℤ number_in v
total-more [] v = sum-none (number_in v)
total-more (x ∷ xs) v = ap (λ (z : ℤ). number_in x +ℤ z) (total-more xs v) ∙ sum-assoc (number_in x) (total xs) (number_in v)

-- ---- the value that is chosen: each one that beats it takes its place
abbrev pub after : Comparison → Val → Val → Val
after o v w = if answers o (value_order v w) then w else v

least-one : (r : Ordering) (v w : Val) → (if is_le r then v else w) ≡ (if is_gt r then w else v)
least-one Less v w = refl
least-one Equal v w = refl
least-one Greater v w = refl

greatest-one : (r : Ordering) (v w : Val) → (if is_ge r then v else w) ≡ (if is_lt r then w else v)
greatest-one Less v w = refl
greatest-one Equal v w = refl
greatest-one Greater v w = refl

pub least-more : (v : Val) (xs : List Val) (w : Val) → least v (xs ++ w ∷ []) ≡ after op.Greater (least v xs) w
least-more v [] w = least-one (value_order v w) v w
least-more v (x ∷ xs) w = least-more (lesser v x) xs w

pub greatest-more : (v : Val) (xs : List Val) (w : Val) → greatest v (xs ++ w ∷ []) ≡ after op.Less (greatest v xs) w
greatest-more v [] w = greatest-one (value_order v w) v w
greatest-more v (x ∷ xs) w = greatest-more (greater v x) xs w
