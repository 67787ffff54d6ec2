-- A literal that is brought to a scale can stand for the one that it was: beside an operand of that scale, in a comparison, and as a result
-- that is brought there anyway.
use Rattle.std.proofs.Common.{◌≡◌, ◌⊎◌, inl, inr, ℕ, ℤ, pos, ◌≤◌, ◌<◌, max, IsTrue, true, Option, Some, Result, Ok, Err, le_refl, refl, sym, ap, subst, ◌∙◌, arith}
use Rattle.qw_types.specs.Arithmetic.{◌>>=◌, bring, fits}
use Rattle.qw_types.specs.declared.code.Code.{Code}
use Rattle.qw_types.specs.declared.kind.Kind.{Kind}
use Rattle.qw_types.specs.declared.kind.Kind.TheVariants as kind
use Rattle.qw_types.specs.declared.value.Val.{Val}
use Rattle.qw_types.specs.declared.value.Val.TheVariants as val
use Rattle.qw_scalar.specs.declared.expression.Operator.{Operator}
use Rattle.qw_scalar.specs.declared.expression.Operator.TheVariants.{Add, Subtract}
use Rattle.qw_scalar.specs.declared.comparison.Comparison.{Comparison}
use Rattle.qw_scalar.specs.Evaluation.{as_number, combined, compared, value_of}
use Rattle.qw_scalar.specs.Expression.{Expression, number, arithmetic, brought, comparison, is_there, scale_after, scale_of}
use Rattle.qw_scalar.specs.Typing.{IsTyped, ScalesAllowed, are_comparable, kind_of}
use Rattle.qw_scalar.specs.Units.{octets_of}
use Rattle.qw_fold.specs.Inner.Made.{Follows, FollowsTruth, IsBrought, IsRaised, StandsAt}
use Rattle.qw_fold.proofs.Bringing.{brought_again, difference_left, difference_right, order_left, order_right, sum_left, sum_right}
use Rattle.qw_fold.proofs.Congruence.{brought_follows, negation_follows, predicate_follows, itself, then, truth_itself, truth_then}

-- ---- values

compared_right : (op : Comparison) (x : Val) (v w : ℤ) (sx t s : ℕ) → t ≤ s → bring v t s ≡ Ok w → compared op x sx (val.Num v) t ≡ compared op x sx (val.Num w) s
compared_right op val.Null v w sx t s up e = refl
compared_right op (val.Num a) v w sx t s up e = rw (order_right a v w sx t s up e) refl
compared_right op (val.Date d) v w sx t s up e = refl
compared_right op (val.Text t') v w sx t s up e = refl

compared_left : (op : Comparison) (y : Val) (v w : ℤ) (sy t s : ℕ) → t ≤ s → bring v t s ≡ Ok w → compared op (val.Num v) t y sy ≡ compared op (val.Num w) s y sy
compared_left op val.Null v w sy t s up e = refl
compared_left op (val.Num b) v w sy t s up e = rw (order_left b v w sy t s up e) refl
compared_left op (val.Date d) v w sy t s up e = refl
compared_left op (val.Text t') v w sy t s up e = refl

-- what is said of sums and differences
pub data IsLinear : Operator → Type 0 where
  sum : IsLinear Add
  difference : IsLinear Subtract

pub linear : (operator : Operator) → (operator ≡ Add) ⊎ (operator ≡ Subtract) → IsLinear operator
linear operator (inl e) = rw e sum
linear operator (inr e) = rw e difference

combined_right : (operator : Operator) (x : Val) (v w : ℤ) (t s : ℕ) → IsLinear operator → t ≤ s → IsTrue (fits w) → bring v t s ≡ Ok w →
    combined operator x s (val.Num v) t ≡ combined operator x s (val.Num w) s
combined_right operator val.Null v w t s l up h e = refl
combined_right operator (val.Num a) v w t s sum up h e = ap as_number (sum_right a v w t s up h e)
combined_right operator (val.Num a) v w t s difference up h e = ap as_number (difference_right a v w t s up h e)
combined_right operator (val.Date d) v w t s l up h e = refl
combined_right operator (val.Text t') v w t s l up h e = refl

combined_left : (operator : Operator) (y : Val) (v w : ℤ) (t s : ℕ) → IsLinear operator → t ≤ s → IsTrue (fits w) → bring v t s ≡ Ok w →
    combined operator (val.Num v) t y s ≡ combined operator (val.Num w) s y s
combined_left operator val.Null v w t s l up h e = refl
combined_left operator (val.Num b) v w t s sum up h e = ap as_number (sum_left b v w t s up h e)
combined_left operator (val.Num b) v w t s difference up h e = ap as_number (difference_left b v w t s up h e)
combined_left operator (val.Date d) v w t s l up h e = refl
combined_left operator (val.Text t') v w t s l up h e = refl

-- going on alike
then_same : {A B : Type 0} (r : Result A Code) (f g : A → Result B Code) → ((x : A) → f x ≡ g x) → (r >>= f) ≡ (r >>= g)
then_same (Ok x) f g h = h x
then_same (Err code) f g h = refl

no_octets_right : (op : Comparison) (r : Result Val Code) (v : ℤ) → octets_of op r (Ok (val.Num v)) ≡ 0
no_octets_right op (Ok val.Null) v = refl
no_octets_right op (Ok (val.Num a)) v = refl
no_octets_right op (Ok (val.Date d)) v = refl
no_octets_right op (Ok (val.Text t)) v = refl
no_octets_right op (Err code) v = refl

no_octets_left : (op : Comparison) (r : Result Val Code) (v : ℤ) → octets_of op (Ok (val.Num v)) r ≡ 0
no_octets_left op (Ok val.Null) v = refl
no_octets_left op (Ok (val.Num a)) v = refl
no_octets_left op (Ok (val.Date d)) v = refl
no_octets_left op (Ok (val.Text t)) v = refl
no_octets_left op (Err code) v = refl

-- ---- a literal in its place

comparable_right : (k : Option Kind) (s t : ℕ) → are_comparable k (Some (kind.Number t)) ≡ are_comparable k (Some (kind.Number s))
comparable_right Rattle.std.proofs.Common.None s t = refl
comparable_right (Some (kind.Number n)) s t = refl
comparable_right (Some kind.Date) s t = refl
comparable_right (Some kind.Text) s t = refl

comparable_left : (k : Option Kind) (s t : ℕ) → are_comparable (Some (kind.Number t)) k ≡ are_comparable (Some (kind.Number s)) k
comparable_left Rattle.std.proofs.Common.None s t = refl
comparable_left (Some (kind.Number n)) s t = refl
comparable_left (Some kind.Date) s t = refl
comparable_left (Some kind.Text) s t = refl

right_compared : (op : Comparison) (a : Expression) (v w : ℤ) (t s : ℕ) → t ≤ s → s ≤ 18 → IsTrue (fits w) → bring v t s ≡ Ok w →
    FollowsTruth (comparison op a (number v t)) (comparison op a (number w s))
right_compared op a v w t s up near h e = record {
  same = record {
    truth = λ env. then_same (value_of a env) _ _ (λ x. ap Ok (compared_right op x v w (scale_of a) t s up e));
    units = λ env. rw (no_octets_right op (value_of a env) v, no_octets_right op (value_of a env) w) refl;
  };
  typed = λ k. ((k.0.0, (h, near)), rw (comparable_right (kind_of a) t s) k.1);
  columns = λ columns k. (k.0, tt);
}

left_compared : (op : Comparison) (b : Expression) (v w : ℤ) (t s : ℕ) → t ≤ s → s ≤ 18 → IsTrue (fits w) → bring v t s ≡ Ok w →
    FollowsTruth (comparison op (number v t) b) (comparison op (number w s) b)
left_compared op b v w t s up near h e = record {
  same = record {
    truth = λ env. then_same (value_of b env) _ _ (λ y. ap Ok (compared_left op y v w (scale_of b) t s up e));
    units = λ env. rw (no_octets_left op (value_of b env) v) refl;
  };
  typed = λ k. (((h, near), k.0.1), rw (comparable_left (kind_of b) t s) k.1);
  columns = λ columns k. (tt, k.1);
}

-- the scale of both
linear_right : (operator : Operator) (sa t s : ℕ) → IsLinear operator → sa ≡ s → t ≤ s → scale_after operator sa t ≡ scale_after operator sa s
linear_right operator sa t s sum is up = omega arith
linear_right operator sa t s difference is up = omega arith

linear_left : (operator : Operator) (sb t s : ℕ) → IsLinear operator → sb ≡ s → t ≤ s → scale_after operator t sb ≡ scale_after operator s sb
linear_left operator sb t s sum is up = omega arith
linear_left operator sb t s difference is up = omega arith

linear_allowed : (operator : Operator) (sa sb : ℕ) → IsLinear operator → ScalesAllowed operator sa sb
linear_allowed operator sa sb sum = tt
linear_allowed operator sa sb difference = tt

right_combined : (operator : Operator) (a : Expression) (v w : ℤ) (t s : ℕ) → IsLinear operator → scale_of a ≡ s → t ≤ s → s ≤ 18 → IsTrue (fits w) → bring v t s ≡ Ok w →
    Follows (arithmetic operator a (number v t)) (arithmetic operator a (number w s))
right_combined operator a v w t s l is up near h e =
    let scales = linear_right operator (scale_of a) t s l is up in
    record {
      same = record {
        value = λ env. then_same (value_of a env) _ _ (λ x. rw is (combined_right operator x v w t s l up h e));
        kind = ap (λ n. Some (kind.Number n)) scales;
        scale = scales;
        units = λ env. refl;
      };
      typed = λ k. ((k.0.0, (h, near)), (k.1.0, linear_allowed operator (scale_of a) s l));
      columns = λ columns k. (k.0, tt);
    }

left_combined : (operator : Operator) (b : Expression) (v w : ℤ) (t s : ℕ) → IsLinear operator → scale_of b ≡ s → t ≤ s → s ≤ 18 → IsTrue (fits w) → bring v t s ≡ Ok w →
    Follows (arithmetic operator (number v t) b) (arithmetic operator (number w s) b)
left_combined operator b v w t s l is up near h e =
    let scales = linear_left operator (scale_of b) t s l is up in
    record {
      same = record {
        value = λ env. then_same (value_of b env) _ _ (λ y. rw is (combined_left operator y v w t s l up h e));
        kind = ap (λ n. Some (kind.Number n)) scales;
        scale = scales;
        units = λ env. refl;
      };
      typed = λ k. (((h, near), k.0.1), (k.1.0, linear_allowed operator s (scale_of b) l));
      columns = λ columns k. (tt, k.1);
    }

result_brought : (v w : ℤ) (t s : ℕ) → s ≤ 18 → IsTrue (fits w) → bring v t s ≡ Ok w → Follows (brought (number v t) s) (brought (number w s) s)
result_brought v w t s near h e = record {
  same = record {
    value = λ env. ap as_number e ∙ sym (ap as_number (brought_again w s h));
    kind = refl;
    scale = refl;
    units = λ env. refl;
  };
  typed = λ k. ((h, near), (le_refl s, near));
  columns = λ columns k. tt;
}

there_tested : (v w : ℤ) (t s : ℕ) → s ≤ 18 → IsTrue (fits w) → FollowsTruth (is_there (number v t)) (is_there (number w s))
there_tested v w t s near h = record {
  same = record { truth = λ env. refl; units = λ env. refl };
  typed = λ k. (h, near);
  columns = λ columns k. tt;
}

-- ---- an expression that may have been brought

raised_left : (op : Comparison) (s : ℕ) (a b x : Expression) → IsRaised s a x → FollowsTruth (comparison op a b) (comparison op x b)
raised_left op s a b x r =
    rw (r.is, r.made_is) (left_compared op b r.value r.made r.scale s (omega arith) r.near r.fit r.brought)

raised_right : (op : Comparison) (s : ℕ) (a b y : Expression) → IsRaised s b y → FollowsTruth (comparison op a b) (comparison op a y)
raised_right op s a b y r =
    rw (r.is, r.made_is) (right_compared op a r.value r.made r.scale s (omega arith) r.near r.fit r.brought)

left_brought : (op : Comparison) (s : ℕ) (a b x : Expression) → IsBrought s a x → FollowsTruth (comparison op a b) (comparison op x b)
left_brought op s a b x (inl e) = rw e (truth_itself (comparison op a b))
left_brought op s a b x (inr r) = raised_left op s a b x r

right_brought : (op : Comparison) (s : ℕ) (a b y : Expression) → IsBrought s b y → FollowsTruth (comparison op a b) (comparison op a y)
right_brought op s a b y (inl e) = rw e (truth_itself (comparison op a b))
right_brought op s a b y (inr r) = raised_right op s a b y r

pub compared_brought : (op : Comparison) (s : ℕ) (a b x y : Expression) → IsBrought s a x → IsBrought s b y → FollowsTruth (comparison op a b) (comparison op x y)
compared_brought op s a b x y p q = truth_then _ _ _ (left_brought op s a b x p) (right_brought op s x b y q)

pub combined_brought : (operator : Operator) (s : ℕ) (a b x y : Expression) → IsLinear operator → s ≡ max (scale_of a) (scale_of b) → IsBrought s a x → IsBrought s b y →
    Follows (arithmetic operator a b) (arithmetic operator x y)
combined_brought operator s a b x y l is (inl e) (inl f) = rw (e, f) (itself (arithmetic operator a b))
combined_brought operator s a b x y l is (inl e) (inr r) =
    let sb : scale_of b ≡ r.scale = ap scale_of r.is in
    rw (e, r.is, r.made_is) (right_combined operator a r.value r.made r.scale s l (omega (arith, r.up)) (omega (arith, r.up)) r.near r.fit r.brought)
combined_brought operator s a b x y l is (inr r) (inl e) =
    let sa : scale_of a ≡ r.scale = ap scale_of r.is in
    rw (e, r.is, r.made_is) (left_combined operator b r.value r.made r.scale s l (omega (arith, r.up)) (omega (arith, r.up)) r.near r.fit r.brought)
combined_brought operator s a b x y l is (inr r) (inr q) =
    let sa : scale_of a ≡ r.scale = ap scale_of r.is in
    let sb : scale_of b ≡ q.scale = ap scale_of q.is in
    absurd (omega (arith, r.up, q.up))

pub brought_typed : (s : ℕ) (e f : Expression) → IsBrought s e f → IsTyped e → IsTyped f
brought_typed s e f (inl q) h = rw q h
brought_typed s e f (inr r) h = rw r.made_is (r.fit, r.near)

-- a result that is brought to the scale of a choice
pub record IsResultFor (s : ℕ) (e f : Expression) : Type 0 where
  pub brought' : Follows (brought e s) (brought f s)
  pub there : FollowsTruth (is_there e) (is_there f)
  pub least : scale_of e ≤ scale_of f
  pub most : scale_of e ≤ s → scale_of f ≤ s

result_of : (s : ℕ) (e f : Expression) → IsBrought s e f → IsResultFor s e f
result_of s e f (inl q) = rw q (record { brought' = itself (brought e s); there = truth_itself (is_there e); least = le_refl (scale_of e); most = λ h. h })
result_of s e f (inr r) =
    let up : r.scale ≤ s = omega (arith, r.up) in
    rw (r.is, r.made_is) (record {
      brought' = result_brought r.value r.made r.scale s r.near r.fit r.brought;
      there = there_tested r.value r.made r.scale s r.near r.fit;
      least = up;
      most = λ h. le_refl s;
    })

pub result_stands : (s : ℕ) (e f : Expression) → StandsAt s e f → IsResultFor s e f
result_stands s e f h =
    let r = result_of s h.between f h.brought in
    let same : scale_of e ≡ scale_of h.between = h.follows.same.scale in
    record {
      brought' = then _ _ _ (brought_follows s e h.between h.follows) r.brought';
      there = truth_then _ _ _ (negation_follows _ _ (predicate_follows _ e h.between h.follows)) r.there;
      least = rw same r.least;
      most = λ k. r.most (rw (← same) k);
    }
