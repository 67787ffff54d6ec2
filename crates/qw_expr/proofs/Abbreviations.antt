-- What an abbreviation evaluates first: where that raises, it does; it has its units and its columns.
use Rattle.std.proofs.Common.{◌≡◌, ℕ, ◌≤◌, List, Err, ◌∙◌, refl, arith}
use Rattle.qw_types.specs.declared.code.Code.{Code}
use Rattle.qw_types.specs.declared.value.Val.{Val}
use Rattle.qw_scalar.specs.declared.comparison.Comparison.{Comparison}
use Rattle.qw_scalar.specs.declared.expression.Matches.{Matches}
use Rattle.qw_scalar.specs.declared.expression.Matches.TheVariants as Matches
use Rattle.qw_scalar.specs.Columns.{HasColumns, HaveColumns, HoldsIn}
use Rattle.qw_scalar.specs.Evaluation.{Environment, truth_of, value_of}
use Rattle.qw_scalar.specs.Expression.{Expression, Condition, Expressions, last, more, Choices, otherwise, when, scale_of, among, between, case, cases, largest_result, choice, comparison, is_there, unless_among}
use Rattle.qw_scalar.specs.Tree.{matches_of}
use Rattle.qw_scalar.specs.Typing.{AreTyped, IsTyped}
use Rattle.qw_expr.specs.Bindings.{TakeKnown, TakesKnown}
use Rattle.qw_expr.specs.Computes.{Known}
use Rattle.qw_scalar.specs.Units.{units, units_of}

-- what a condition and an expression need of an operand that they evaluate first
pub record First (x : Expression) (c : Condition) : Type 0 where
  pub raises : (env : Environment) (code : Code) → value_of x env ≡ Err code → truth_of c env ≡ Err code
  pub weighs : (env : Environment) → units x env ≤ units_of c env
  pub columns : (row : List Val) → HaveColumns (HoldsIn row) c → HasColumns (HoldsIn row) x

pub record Before (x e : Expression) : Type 0 where
  pub raises : (env : Environment) (code : Code) → value_of x env ≡ Err code → value_of e env ≡ Err code
  pub weighs : (env : Environment) → units x env ≤ units e env
  pub columns : (row : List Val) → HasColumns (HoldsIn row) e → HasColumns (HoldsIn row) x

pub compared_first : (operator : Comparison) (x b : Expression) → First x (comparison operator x b)
compared_first operator x b = record { raises = λ env code h. rw h refl; weighs = λ env. omega arith; columns = λ row h. h.0 }

pub between_first : (x a b : Expression) → First x (between x a b)
between_first x a b = record { raises = λ env code h. rw h refl; weighs = λ env. omega arith; columns = λ row h. h.0.0 }

pub among_first : (x : Expression) (values : Expressions) → First x (among x values)
among_first x (last v) = record { raises = λ env code h. rw h refl; weighs = λ env. omega arith; columns = λ row h. h.0 }
among_first x (more v vs) = record { raises = λ env code h. rw h refl; weighs = λ env. omega arith; columns = λ row h. h.0.0 }

pub among_before : (x : Expression) (others : Expressions) → Before x (unless_among (more x others))
among_before x (last v) = record { raises = λ env code h. rw h refl; weighs = λ env. omega arith; columns = λ row h. h.0.0 }
among_before x (more v vs) = record { raises = λ env code h. rw h refl; weighs = λ env. omega arith; columns = λ row h. h.0.0.0 }

pub matched_before : (s : ℕ) (matches : Matches) (x : Expression) → Before x (cases s (matches_of matches x))
matched_before s (Matches.Last' _ v _ e _ other) x = record { raises = λ env code h. rw h refl; weighs = λ env. omega arith; columns = λ row h. h.0.0 }
matched_before s (Matches.When' _ v _ e _ rest) x = record { raises = λ env code h. rw h refl; weighs = λ env. omega arith; columns = λ row h. h.0.0 }

pub coalesced_before : (x a b : Expression) → Before x (choice (is_there x) a b)
coalesced_before x a b = record { raises = λ env code h. rw h refl; weighs = λ env. omega arith; columns = λ row h. h.0 }

-- the scale of a CASE is that of its results
pub cases_scale : (s : ℕ) (choices : Choices) → scale_of (cases s choices) ≡ s
cases_scale s (otherwise e) = refl
cases_scale s (when c e rest) = rw (cases_scale s rest) (omega arith)

pub cases_at : (choices : Choices) (s : ℕ) → s ≡ scale_of (case choices) → s ≡ largest_result choices
cases_at choices s is = is ∙ cases_scale (largest_result choices) choices

-- the operand that is evaluated first is typed, and takes what is known
pub among_typed : (x : Expression) (values : Expressions) → AreTyped (among x values) → IsTyped x
among_typed x (last v) h = h.0.0
among_typed x (more v vs) h = h.0.0.0

pub among_known : (known : List Known) (x : Expression) (values : Expressions) → TakeKnown known (among x values) → TakesKnown known x
among_known known x (last v) h = h.0
among_known known x (more v vs) h = h.0.0

pub matched_typed : (s : ℕ) (matches : Matches) (x : Expression) → IsTyped (cases s (matches_of matches x)) → IsTyped x
matched_typed s (Matches.Last' _ v _ e _ other) x h = h.0.0.0
matched_typed s (Matches.When' _ v _ e _ rest) x h = h.0.0.0

pub matched_known : (known : List Known) (s : ℕ) (matches : Matches) (x : Expression) → TakesKnown known (cases s (matches_of matches x)) → TakesKnown known x
matched_known known s (Matches.Last' _ v _ e _ other) x h = h.0.0
matched_known known s (Matches.When' _ v _ e _ rest) x h = h.0.0
