-- What the worked cases speak of.
use Rattle.std.specs.Prelude.{ℕ, pos, List, [], ◌∷◌, None}
use Rattle.qw_types.specs.declared.value.Val.{Val}
use Rattle.qw_types.specs.declared.value.Val.TheVariants as val
use Rattle.qw_module.specs.declared.instruction.Const.TheVariants as const
use Rattle.qw_low.specs.Syntax.{constant_of, Statement, assign}
use Rattle.qw_low.specs.State.{Number, LowState}

-- two locals, and nothing in memory
abbrev pub two_locals : (first second : ℕ) → LowState
two_locals first second = record { locals = Number first ∷ Number second ∷ []; cells = λ p offset width. None; columns = []; own = []; held = 1; limit = 1; refused = None }

-- a local is 7
abbrev pub seven : (x : ℕ) → Statement
seven x = assign x (constant_of (const.I64 7))

-- a row of one number
abbrev pub number : ℕ → List Val
number n = val.Num (pos n) ∷ []
