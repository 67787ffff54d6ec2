-- Mirrors heights.rt: how many operands and labels sequences need, from the first instruction on, where those of lower numbers are known.
use Rattle.std.specs.Prelude.{ℕ, ◌+◌, ◌-◌, max, get_or, List, [], ◌∷◌, Some, None}
use Rattle.qw_module.specs.declared.instruction.Instr.{Instr}
use Rattle.qw_module.specs.declared.instruction.Instr.TheVariants as i
use Rattle.qw_module.specs.Execution.{arity_of}
use Rattle.qw_module.specs.Typing.{Signature}
use Rattle.qw_valid.specs.Heights.{taken_by, left_by, parameters_at, results_at}
use Rattle.qw_valid.specs.declared.heights.Heights.{Heights}

-- so many operands and no label
abbrev pub holding : ℕ → Heights
holding now = record { operands = now; labels = 0 }

abbrev pub wider : Heights → Heights → Heights
wider one other = record { operands = max one.operands other.operands; labels = max one.labels other.labels }

-- a sequence in a label of its own, on so many operands
abbrev pub around : (now : ℕ) → Heights → Heights
around now inner = record { operands = now + inner.operands; labels = inner.labels + 1 }

-- what the sequence of a number needs
abbrev pub at_number : List Heights → ℕ → Heights
at_number heights number = get_or heights number (holding 0)

abbrev pub instruction_needs : (ℕ → Heights) → Instr → (now : ℕ) → Heights
instruction_needs inner (i.Block result body) now = around now (inner body)
instruction_needs inner (i.Loop result body) now = around now (inner body)
instruction_needs inner (i.If result first None) now = wider (holding now) (around (now - 1) (inner first))
instruction_needs inner (i.If result first (Some second)) now =
    wider (wider (holding now) (around (now - 1) (inner first))) (around (now - 1) (inner second))
instruction_needs inner _ now = holding now

-- the operands behind an instruction; behind one that never goes on any number will do
abbrev pub behind : List Signature → Instr → (now : ℕ) → ℕ
behind signatures (i.Op operator) now = now - taken_by operator + left_by operator
behind signatures (i.Block result body) now = now + arity_of result
behind signatures (i.Loop result body) now = now + arity_of result
behind signatures (i.If result first second) now = now - 1 + arity_of result
behind signatures (i.BrIf label) now = now - 1
behind signatures (i.Call index) now = now - parameters_at signatures index + results_at signatures index
behind signatures _ now = now

abbrev pub needs : List Signature → (ℕ → Heights) → List Instr → (now : ℕ) → Heights
needs signatures inner [] now = holding now
needs signatures inner (x ∷ rest) now = wider (instruction_needs inner x now) (needs signatures inner rest (behind signatures x now))
