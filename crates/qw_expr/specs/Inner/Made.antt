-- Of `src/tree.rt`: what its functions hand on to one another.
use Rattle.std.specs.Prelude.{◌≡◌, ℕ, ◌+◌, ◌≤◌, Bool, List, ◌∷◌}
use Rattle.qw_scalar.specs.Expression.{Expression, Condition, scale_of}
use Rattle.qw_scalar.specs.Typing.{IsTyped, kind_of}
use Rattle.qw_low.specs.declared.cell.Cell.{Cell}
use Rattle.qw_expr.specs.declared.emitter.Emitter.{Emitter}
use Rattle.qw_expr.specs.declared.choice.Started.{Started}
use Rattle.qw_expr.specs.Inner.Choices.{HasFirst, Suits}
use Rattle.qw_expr.specs.declared.operand.Operand.{Operand}
use Rattle.qw_expr.specs.Cells.{IsBelow}
use Rattle.qw_expr.specs.Bindings.{IsAmong, IsServed, TakesKnown}
use Rattle.qw_expr.specs.Computes.{Known, AreBelow}
use Rattle.qw_expr.specs.Emits.{Emits, EmitsTruth, extent, free_of}

-- all that is known by one list is known by another
abbrev pub Includes : List Known → List Known → Type 0
Includes more known = (k : Known) → IsAmong k known → IsAmong k more

-- an expression is emitted for all who know at least this, and no more than so much
pub record Made (known : List Known) (e : Expression) (most : ℕ) (old new : Emitter) (out : Operand) : Type 0 where
  pub emits : (more : List Known) → Includes more known → AreBelow (free_of old) more → Emits more e old new out
  pub kind_is : out.kind ≡ kind_of e
  pub scale_is : out.scale ≡ scale_of e
  pub scale_low : out.scale ≤ 18
  pub below : IsBelow (free_of new) out.cell
  pub grows : free_of old ≤ free_of new
  pub served : IsServed (free_of new) known
  pub short : extent new ≤ extent old + most

pub record MadeTruth (known : List Known) (c : Condition) (most : ℕ) (old new : Emitter) (out : Cell) : Type 0 where
  pub emits : (more : List Known) → Includes more known → AreBelow (free_of old) more → EmitsTruth more c old new out
  pub below : IsBelow (free_of new) out
  pub grows : free_of old ≤ free_of new
  pub served : IsServed (free_of new) known
  pub short : extent new ≤ extent old + most

-- an expression whose value is known beside what is known
abbrev pub with_operand : Expression → Operand → List Known → List Known
with_operand e o known = record { expression = e; operand = o } ∷ known

-- what a function over choices asks of the expression that it emits, besides what serves it
pub record Asks (known : List Known) (text : Bool) (e : Expression) : Type 0 where
  pub typed : IsTyped e
  pub takes : TakesKnown known e
  pub suits : Suits text (kind_of e)

-- a choice begins: its condition and its first result, for all who know enough
pub record Starts (known : List Known) (c : Condition) (a : Expression) (text : Bool) (most : ℕ) (old new : Emitter) (begun : Started) : Type 0 where
  pub starts : (more : List Known) → Includes more known → AreBelow (free_of old) more → HasFirst more c a text old new begun.place begun.first
  pub grows : free_of old ≤ free_of new
  pub served : IsServed (free_of new) known
  pub short : extent new ≤ extent old + most
