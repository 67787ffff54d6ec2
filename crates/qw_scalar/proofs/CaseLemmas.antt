-- What is known of a CASE from its branches.
use Rattle.std.proofs.Common.{◌≡◌, ℕ, Err, arith, refl}
use Rattle.qw_types.specs.declared.code.Code.{Code}
use Rattle.qw_types.specs.declared.value.Ty.{Ty}
use Rattle.qw_scalar.specs.declared.expression.Matches.{Matches}
use Rattle.qw_scalar.specs.declared.expression.Matches.TheVariants as Matches
use Rattle.qw_scalar.specs.declared.expression.Function.{Function}
use Rattle.qw_scalar.specs.declared.expression.Function.TheVariants.{Coalesce, NullIf}
use Rattle.qw_scalar.specs.Expression.{Expression, Condition, Expressions, last, more, Choices, brought, choice, otherwise, when, among, called, cases, scale_of, unless_among}
use Rattle.qw_scalar.specs.Typing.{AreResultsTyped, AreTyped, IsTyped}
use Rattle.qw_scalar.specs.Evaluation.{Environment, truth_of, value_of}
use Rattle.qw_scalar.specs.Columns.{HasColumns, HaveColumns}
use Rattle.qw_scalar.specs.Tree.{matches_of}

-- its results are brought to one scale
pub cases_scale : (s : ℕ) (choices : Choices) → scale_of (cases s choices) ≡ s
cases_scale s (otherwise e) = refl
cases_scale s (when c e rest) = rw (cases_scale s rest) (omega arith)

pub results_typed : (s : ℕ) (choices : Choices) → IsTyped (cases s choices) → AreResultsTyped choices
results_typed s (otherwise e) h = h.0
results_typed s (when c e rest) h = (h.1.0.0.0, results_typed s rest h.1.0.1)

-- the operand of a CASE or an IN, and an exception of it
pub operand_typed : (s : ℕ) (matches : Matches) (x : Expression) → IsTyped (cases s (matches_of matches x)) → IsTyped x
operand_typed s (Matches.Last' _ v _ e _ other) x h = h.0.0.0
operand_typed s (Matches.When' _ v _ e _ rest) x h = h.0.0.0

pub operand_raises : (s : ℕ) (matches : Matches) (x : Expression) (env : Environment) (code : Code) → value_of x env ≡ Err code → value_of (cases s (matches_of matches x)) env ≡ Err code
operand_raises s (Matches.Last' _ v _ e _ other) x env code h = rw h refl
operand_raises s (Matches.When' _ v _ e _ rest) x env code h = rw h refl

pub among_typed : (x : Expression) (values : Expressions) → AreTyped (among x values) → IsTyped x
among_typed x (last v) h = h.0.0
among_typed x (more v vs) h = h.0.0.0

pub among_raises : (x : Expression) (values : Expressions) (env : Environment) (code : Code) → value_of x env ≡ Err code → truth_of (among x values) env ≡ Err code
among_raises x (last v) env code h = rw h refl
among_raises x (more v vs) env code h = rw h refl

-- so does an exception of NULLIF's first argument
pub unless_raises : (a : Expression) (others : Expressions) (env : Environment) (code : Code) → value_of a env ≡ Err code → value_of (unless_among (more a others)) env ≡ Err code
unless_raises a others env code h = rw (among_raises a others env code h) refl

-- a function's meaning is a choice, or something brought to a scale
pub called_shape : (P : Expression → Type 0) → ((e : Expression) (s : ℕ) → P (brought e s)) → ((c : Condition) (a b : Expression) → P (choice c a b)) → (f : Function) (arguments : Expressions) → P (called f arguments)
called_shape P one two Coalesce (last e) = one e _
called_shape P one two Coalesce (more e es) = two _ _ _
called_shape P one two NullIf (last e) = one e _
called_shape P one two NullIf (more e es) = two _ _ _

-- the operand's columns
pub operand_columns : (Holds : ℕ → Ty → Type 0) (s : ℕ) (matches : Matches) (x : Expression) → HasColumns Holds (cases s (matches_of matches x)) → HasColumns Holds x
operand_columns Holds s (Matches.Last' _ v _ e _ other) x h = h.0.0
operand_columns Holds s (Matches.When' _ v _ e _ rest) x h = h.0.0

pub among_columns : (Holds : ℕ → Ty → Type 0) (x : Expression) (values : Expressions) → HaveColumns Holds (among x values) → HasColumns Holds x
among_columns Holds x (last v) h = h.0
among_columns Holds x (more v vs) h = h.0.0
