-- Laws of evaluation: the left operand first, null operands, sides that AND and OR skip, NOT IN beside a null, what is never unknown.
use Rattle.std.proofs.Common.{◌≡◌, ◌≢◌, ℕ, Bool, true, false, Ok, Err, Result, refl, inl, inr}
use Rattle.qw_types.specs.Arithmetic.{◌>>=◌}
use Rattle.qw_types.specs.Truth.{negation}
use Rattle.qw_types.specs.declared.code.Code.{Code}
use Rattle.qw_types.specs.declared.truth.Truth.{Truth}
use Rattle.qw_types.specs.declared.truth.Truth.TheVariants.{True, False, Unknown}
use Rattle.qw_scalar.specs.declared.expression.Operator.{Operator}
use Rattle.qw_scalar.specs.declared.expression.Predicate.TheVariants.{IsNull}
use Rattle.qw_scalar.specs.declared.comparison.Comparison.TheVariants.{Equal}
use Rattle.qw_types.specs.declared.value.Val.{Val}
use Rattle.qw_types.specs.declared.value.Val.TheVariants.{Null, Num, Date, Text}
use Rattle.qw_scalar.specs.Expression.{Expression, Condition, Expressions, last, more, arithmetic, both, either, negation_of, is, predicate, among, scale_of}
use Rattle.qw_scalar.specs.Evaluation.{Environment, HasNull, combined, compared, or_else, same_truth, tested_null, truth_if, truth_of, value_of}

pub left_first : (operator : Operator) (a b : Expression) (env : Environment) (code : Code) → value_of a env ≡ Err code → value_of (arithmetic operator a b) env ≡ Err code
left_first operator a b env code h = rw h refl

null_second : (operator : Operator) (x : Val) (sx sy : ℕ) → ◌≡◌ {A = Result Val Code} (combined operator x sx Null sy) (Ok Null)
null_second operator Null sx sy = refl
null_second operator (Num a) sx sy = refl
null_second operator (Date d) sx sy = refl
null_second operator (Text t) sx sy = refl

pub null_left : (operator : Operator) (a b : Expression) (env : Environment) (y : Val) → value_of a env ≡ Ok Null → value_of b env ≡ Ok y → value_of (arithmetic operator a b) env ≡ Ok Null
null_left operator a b env y ha hb = rw (ha, hb) refl

pub null_right : (operator : Operator) (a b : Expression) (env : Environment) (x : Val) → value_of a env ≡ Ok x → value_of b env ≡ Ok Null → value_of (arithmetic operator a b) env ≡ Ok Null
null_right operator a b env x ha hb = rw (ha, hb) (null_second operator x (scale_of a) (scale_of b))

pub and_skips : (c d : Condition) (env : Environment) → truth_of c env ≡ Ok False → truth_of (both c d) env ≡ Ok False
and_skips c d env h = rw h refl

pub or_skips : (c d : Condition) (env : Environment) → truth_of c env ≡ Ok True → truth_of (either c d) env ≡ Ok True
or_skips c d env h = rw h refl

pub and_goes_on : (c d : Condition) (env : Environment) (code : Code) → truth_of c env ≡ Ok Unknown → truth_of d env ≡ Err code → truth_of (both c d) env ≡ Err code
and_goes_on c d env code hc hd = rw (hc, hd) refl

pub or_goes_on : (c d : Condition) (env : Environment) (code : Code) → truth_of c env ≡ Ok Unknown → truth_of d env ≡ Err code → truth_of (either c d) env ≡ Err code
or_goes_on c d env code hc hd = rw (hc, hd) refl

-- a comparison with null is never false
null_not_false : (r : Result Val Code) (sx sy : ℕ) → (r >>= (λ x. Ok (compared Equal x sx Null sy))) ≢ Ok False
null_not_false (Err code) sx sy e = cc
null_not_false (Ok Null) sx sy e = cc
null_not_false (Ok (Num a)) sx sy e = cc
null_not_false (Ok (Date d)) sx sy e = cc
null_not_false (Ok (Text t)) sx sy e = cc

-- OR is false only where both sides are
or_false : (t u : Result Truth Code) → (t >>= (λ v. or_else v u)) ≡ Ok False → (t ≡ Ok False) × (u ≡ Ok False)
or_false (Err code) u e = absurd cc
or_false (Ok True) u e = absurd cc
or_false (Ok False) (Err code) e = absurd cc
or_false (Ok False) (Ok True) e = absurd cc
or_false (Ok False) (Ok False) e = (refl, refl)
or_false (Ok False) (Ok Unknown) e = absurd cc
or_false (Ok Unknown) (Err code) e = absurd cc
or_false (Ok Unknown) (Ok True) e = absurd cc
or_false (Ok Unknown) (Ok False) e = absurd cc
or_false (Ok Unknown) (Ok Unknown) e = absurd cc

equal_null_not_false : (x v : Expression) (env : Environment) → value_of v env ≡ Ok Null → (value_of x env >>= (λ a. value_of v env >>= (λ b. Ok (compared Equal a (scale_of x) b (scale_of v))))) ≢ Ok False
equal_null_not_false x v env h = rw h (null_not_false (value_of x env) (scale_of x) (scale_of v))

among_not_false : (x : Expression) (values : Expressions) (env : Environment) → HasNull env values → truth_of (among x values) env ≢ Ok False
among_not_false x (last v) env h e = equal_null_not_false x v env h e
among_not_false x (more v vs) env (inl h) e = equal_null_not_false x v env h (or_false _ (truth_of (among x vs) env) e).0
among_not_false x (more v vs) env (inr h) e = among_not_false x vs env h (or_false (value_of x env >>= (λ a. value_of v env >>= (λ b. Ok (compared Equal a (scale_of x) b (scale_of v))))) (truth_of (among x vs) env) e).1

negated_true : (t : Result Truth Code) → (t >>= (λ v. Ok (negation v))) ≡ Ok True → t ≡ Ok False
negated_true (Err code) e = absurd cc
negated_true (Ok True) e = absurd cc
negated_true (Ok False) e = refl
negated_true (Ok Unknown) e = absurd cc

pub not_among : (x : Expression) (values : Expressions) (env : Environment) → HasNull env values → truth_of (negation_of (among x values)) env ≢ Ok True
not_among x values env h e = among_not_false x values env h (negated_true (truth_of (among x values) env) e)

null_known : (r : Result Val Code) → (r >>= (λ x. Ok (tested_null x))) ≢ Ok Unknown
null_known (Err code) e = cc
null_known (Ok Null) e = cc
null_known (Ok (Num a)) e = cc
null_known (Ok (Date d)) e = cc
null_known (Ok (Text t)) e = cc

pub null_predicate_known : (x : Expression) (env : Environment) → truth_of (predicate IsNull x) env ≢ Ok Unknown
null_predicate_known x env = null_known (value_of x env)

truth_if_known : (b : Bool) → ◌≢◌ {A = Result Truth Code} (Ok (truth_if b)) (Ok Unknown)
truth_if_known true e = cc
truth_if_known false e = cc

same_known : (t : Result Truth Code) (u : Truth) → (t >>= (λ v. Ok (truth_if (same_truth v u)))) ≢ Ok Unknown
same_known (Err code) u e = cc
same_known (Ok v) u e = truth_if_known (same_truth v u) e

pub is_known : (c : Condition) (t : Truth) (env : Environment) → truth_of (is c t) env ≢ Ok Unknown
is_known c t env = same_known (truth_of c env) t
