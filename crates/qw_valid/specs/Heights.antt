-- How many operands and labels the code of a function needs at most. The standard's stacks have no bound; a bound here is one that no
-- execution of a typed code passes, of the function's own operands and labels alone.
use Rattle.std.specs.Prelude.{ℕ, ◌+◌, ◌-◌, ◌≤◌, List, length, slice_get}
use Rattle.std.specs.Option.{option_map_or}
use Rattle.qw_module.specs.declared.instruction.Op.{Op}
use Rattle.qw_module.specs.declared.instruction.Op.TheVariants as o
use Rattle.qw_module.specs.declared.module.Function.{Function}
use Rattle.qw_module.specs.declared.module.Module.{Module}
use Rattle.qw_module.specs.Syntax.{Code, done, op, unreachable, block, loop, if_then, if_else, br, br_if, br_table, return, call}
use Rattle.qw_module.specs.Execution.{arity_of}
use Rattle.qw_module.specs.Typing.{Signature}
use Rattle.qw_module.specs.Validity.{code_of_body, signature_in, outside_of}

-- how many operands an instruction takes, and how many it leaves (3.3.1 to 3.3.5)
abbrev pub taken_by : Op → ℕ
taken_by o.Nop = 0
taken_by o.Drop = 1
taken_by o.Select = 3
taken_by (o.LocalGet index) = 0
taken_by (o.LocalSet index) = 1
taken_by (o.LocalTee index) = 1
taken_by (o.GlobalGet index) = 0
taken_by (o.GlobalSet index) = 1
taken_by (o.Const value) = 0
taken_by (o.Unary type unary) = 1
taken_by (o.Binary type binary) = 2
taken_by (o.Division type division) = 2
taken_by (o.Eqz type) = 1
taken_by (o.Relation type relation) = 2
taken_by (o.Convert conversion) = 1
taken_by (o.Load load arg) = 1
taken_by (o.Store store arg) = 2
taken_by o.MemorySize = 0
taken_by o.MemoryGrow = 1

abbrev pub left_by : Op → ℕ
left_by o.Nop = 0
left_by o.Drop = 0
left_by (o.LocalSet index) = 0
left_by (o.GlobalSet index) = 0
left_by (o.Store store arg) = 0
left_by _ = 1

-- how many operands a function takes and leaves, by its index; one that isn't there neither takes nor leaves any
abbrev pub parameters_at : List Signature → ℕ → ℕ
parameters_at signatures index = option_map_or (λ (signature : Signature). length signature.params) (slice_get signatures index) 0

abbrev pub results_at : List Signature → ℕ → ℕ
results_at signatures index = option_map_or (λ (signature : Signature). length signature.results) (slice_get signatures index) 0

-- A code that begins on so many operands `now` of its sequence has at most so many operands and labels at any time, those of the
-- sequences in it counted too. After what never goes on no code is executed, and nothing is asked of its operands.
abbrev pub StaysWithin : List Signature → (operands labels : ℕ) → Code → (now : ℕ) → Type 0
StaysWithin signatures operands labels done now = now ≤ operands
StaysWithin signatures operands labels (op operator rest) now =
    (now ≤ operands) × StaysWithin signatures operands labels rest (now - taken_by operator + left_by operator)
StaysWithin signatures operands labels (unreachable rest) now = now ≤ operands
StaysWithin signatures operands labels (block result inner rest) now =
    (now ≤ operands) × (1 ≤ labels) × StaysWithin signatures (operands - now) (labels - 1) inner 0
    × StaysWithin signatures operands labels rest (now + arity_of result)
StaysWithin signatures operands labels (loop result inner rest) now =
    (now ≤ operands) × (1 ≤ labels) × StaysWithin signatures (operands - now) (labels - 1) inner 0
    × StaysWithin signatures operands labels rest (now + arity_of result)
StaysWithin signatures operands labels (if_then result inner rest) now =
    (now ≤ operands) × (1 ≤ labels) × StaysWithin signatures (operands - (now - 1)) (labels - 1) inner 0
    × StaysWithin signatures operands labels rest (now - 1 + arity_of result)
StaysWithin signatures operands labels (if_else result inner other rest) now =
    (now ≤ operands) × (1 ≤ labels) × StaysWithin signatures (operands - (now - 1)) (labels - 1) inner 0
    × StaysWithin signatures (operands - (now - 1)) (labels - 1) other 0 × StaysWithin signatures operands labels rest (now - 1 + arity_of result)
StaysWithin signatures operands labels (br label rest) now = now ≤ operands
StaysWithin signatures operands labels (br_if label rest) now = (now ≤ operands) × StaysWithin signatures operands labels rest (now - 1)
StaysWithin signatures operands labels (br_table table default rest) now = now ≤ operands
StaysWithin signatures operands labels (return rest) now = now ≤ operands
StaysWithin signatures operands labels (call index rest) now =
    (now ≤ operands) × StaysWithin signatures operands labels rest (now - parameters_at signatures index + results_at signatures index)

-- The same of a function's body, which is in one label of its own and leaves the function's results (4.4.7).
pub record AreHeights (signatures : List Signature) (results : ℕ) (body : Code) (operands labels : ℕ) : Type 0 where
  pub body_within : StaysWithin signatures operands labels body 0
  pub results_within : results ≤ operands

abbrev pub AreHeightsOf : Module → Function → (operands labels : ℕ) → Type 0
AreHeightsOf m function operands labels =
    AreHeights ((outside_of m).functions) (length (signature_in m function.type_index).results) (code_of_body function.body) operands labels
