-- What relations tell of the words of two numbers.
use Rattle.std.proofs.Common.{◌≡◌, ◌≢◌, ℕ, ℤ, pos, ◌<◌, ◌^◌, ◌<ℤ◌, ◌==◌, int_lt, int_le, int_cmp, Ordering, FitsSigned, refl, sym, ap, ◌∙◌, subst, arith, w64}
use Rattle.std.specs.Ordering.{MatchOrdering, is_eq, is_lt, is_le, is_gt, is_ge}
use Rattle.std.specs.declared.cmp.Ordering.TheVariants.{Less, Equal, Greater}
use Rattle.std.specs.Cmp.{int_ranks}
use Rattle.std.specs.Int.{cast_signed}
use Rattle.std.proofs.lemmas.Bool.{eq-eqb, ne_eqb}
use Rattle.std.proofs.lemmas.Int.{ints}
use Rattle.qw_scalar.specs.declared.comparison.Comparison.{Comparison}
use Rattle.qw_scalar.specs.declared.comparison.Comparison.TheVariants as op
use Rattle.qw_scalar.specs.Evaluation.{answers}
use Rattle.qw_module.specs.declared.instruction.ValType.TheVariants.{I64}
use Rattle.qw_module.specs.Numbers.{relation, truth}
use Rattle.qw_wide.specs.Relations.{relation_of, IsTruthOf}
use Rattle.qw_wide.proofs.Words.{word, word_back, small}

record Related (a b : ℤ) (order : Ordering) : Type 0 where
  pub eq : (word a == word b) ≡ is_eq order
  pub lt : int_lt a b ≡ is_lt order
  pub gt : int_lt b a ≡ is_gt order
  pub le : int_le a b ≡ is_le order
  pub ge : int_le b a ≡ is_ge order

same_number : (a b : ℤ) → FitsSigned w64 a → FitsSigned w64 b → word a ≡ word b → a ≡ b
same_number a b fa fb same = sym (word_back a fa) ∙ ap (cast_signed w64) same ∙ word_back b fb

apart : (a b : ℤ) → FitsSigned w64 a → FitsSigned w64 b → (a ≡ b → ⊥) → word a ≢ word b
apart a b fa fb other same = other (same_number a b fa fb same)

related : (a b : ℤ) (order : Ordering) → FitsSigned w64 a → FitsSigned w64 b → MatchOrdering order (a <ℤ b) (a ≡ b) (b <ℤ a) → Related a b order
related a b Less fa fb h = record { eq = ne_eqb (word a) (word b) (apart a b fa fb (λ e. omega (arith, ints, h, e))); lt = grind (arith, ints); gt = grind (arith, ints); le = grind (arith, ints); ge = grind (arith, ints) }
related a b Equal fa fb h = record { eq = eq-eqb (word a) (word b) (ap word h); lt = grind (arith, ints); gt = grind (arith, ints); le = grind (arith, ints); ge = grind (arith, ints) }
related a b Greater fa fb h = record { eq = ne_eqb (word a) (word b) (apart a b fa fb (λ e. omega (arith, ints, h, e))); lt = grind (arith, ints); gt = grind (arith, ints); le = grind (arith, ints); ge = grind (arith, ints) }

pub tells_truth : (o : Comparison) → IsTruthOf o (relation_of o)
tells_truth o a b fa fb = by_operator o (int_cmp a b) (related a b (int_cmp a b) fa fb (int_ranks a b))
  where
    by_operator : (o : Comparison) (r : Ordering) → Related a b r → relation I64 (relation_of o) (word a) (word b) ≡ truth (answers o r)
    by_operator op.Equal r all = rw (all.eq) refl
    by_operator op.NotEqual r all = rw (all.eq) refl
    by_operator op.Less r all = rw (word_back a fa, word_back b fb, all.lt) refl
    by_operator op.LessOrEqual r all = rw (word_back a fa, word_back b fb, all.le) refl
    by_operator op.Greater r all = rw (word_back a fa, word_back b fb, all.gt) refl
    by_operator op.GreaterOrEqual r all = rw (word_back a fa, word_back b fb, all.ge) refl
    by_operator op.Like r all = rw (all.eq) refl
    by_operator op.NotLike r all = rw (all.eq) refl

-- a number against 0, whose order that of two others is
pub zero_told : (o : Comparison) (z : ℤ) (order : Ordering) → FitsSigned w64 z → int_cmp z (pos 0) ≡ order → relation I64 (relation_of o) (word z) 0 ≡ truth (answers o order)
zero_told o z order fit is = tells_truth o z (pos 0) fit (small (pos 0) (omega arith)) ∙ ap (λ r. truth (answers o r)) is

pub fits_back : (m : ℕ) (z : ℤ) → m < 2 ^ 64 → cast_signed w64 m ≡ z → FitsSigned w64 z
fits_back m z below is = subst (FitsSigned w64) is (omega (arith, ints, below))
