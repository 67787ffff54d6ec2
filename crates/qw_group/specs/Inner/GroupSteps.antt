-- Mirrors `push_find_start` and those behind it in `src/group.rt`: the steps around what other calls add.
use Rattle.std.specs.Prelude.{ℕ, ◌+◌, List, [], ◌∷◌, ◌++◌}
use Rattle.qw_module.specs.declared.instruction.ValType.TheVariants.{I32}
use Rattle.qw_module.specs.declared.instruction.Const.TheVariants as const
use Rattle.qw_module.specs.declared.instruction.Binary.TheVariants.{Add, Sub}
use Rattle.qw_module.specs.declared.instruction.Load.TheVariants as loads
use Rattle.qw_module.specs.declared.instruction.Op.TheVariants as o
use Rattle.qw_low.specs.declared.step.LowStep.{LowStep}
use Rattle.qw_low.specs.declared.step.LowStep.TheVariants as step
use Rattle.qw_low.specs.Translation.{unaligned}

abbrev pub find_begun : (d h g : ℕ) → List LowStep
find_begun d h g =
    step.Op (o.Const (const.I32 0)) ∷ step.Op (o.LocalSet g) ∷ step.Op (o.LocalGet d) ∷ step.Op (o.LocalGet h) ∷ step.Op (o.Binary I32 Add)
    ∷ step.Op (o.Load (loads.Full I32) (unaligned 0)) ∷ step.Op (o.LocalSet (g + 1)) ∷ step.Op (o.LocalGet (g + 1)) ∷ step.If ∷ step.Loop ∷ []

abbrev pub turn_ended : (out g : ℕ) → List LowStep
turn_ended out g =
    step.Op (o.LocalGet out) ∷ step.If ∷ step.Op (o.LocalGet (g + 1)) ∷ step.Op (o.LocalSet g) ∷ step.Op (o.Const (const.I32 0)) ∷ step.Op (o.LocalSet (g + 1)) ∷ step.Else
    ∷ step.Op (o.LocalGet (g + 1)) ∷ step.Op (o.Load (loads.Full I32) (unaligned 0)) ∷ step.Op (o.LocalSet (g + 1)) ∷ step.End ∷ []

abbrev pub loop_ended : (g : ℕ) → List LowStep
loop_ended g = step.Op (o.LocalGet (g + 1)) ∷ step.Again ∷ step.End ∷ step.End ∷ []

abbrev pub find_ended : (out g : ℕ) → List LowStep
find_ended out g = turn_ended out g ++ loop_ended g

abbrev pub place_begun : (g : ℕ) → List LowStep
place_begun g = step.Op (o.LocalGet g) ∷ step.If ∷ step.Else ∷ []

abbrev pub place_moved : (size g : ℕ) → List LowStep
place_moved size g = step.Op (o.LocalGet 1) ∷ step.Op (o.Const (const.I32 size)) ∷ step.Op (o.Binary I32 Sub) ∷ step.Op (o.LocalSet g) ∷ []

abbrev pub place_ended : (size g : ℕ) → List LowStep
place_ended size g = place_moved size g ++ step.End ∷ []
