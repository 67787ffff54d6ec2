-- Mirrors `Writer::step`: the numbers that a writer has given to the sequences that are open, and where a reader could go from there.
use Rattle.std.specs.Prelude.{◌≡◌, ◌≤◌, ℕ, ◌+◌, List, [], ◌∷◌, length, reverse, slice_get, Option, Some}
use Rattle.qw_octet_grammar.specs.Grammar.{Next, Chain, Spells}
use Rattle.qw_module.specs.declared.instruction.Instr.{Instr}
use Rattle.qw_module.specs.declared.instruction.Instr.TheVariants as i
use Rattle.qw_module.specs.Syntax.{Sequences, sequence_at}
use Rattle.qw_binary.specs.Instructions.{Opener, block, loop, first, second, Progress, instruction}
use Rattle.qw_binary.specs.Inner.Reader.{opener_of}
use Rattle.qw_binary.specs.declared.write.expression.Around.{Around}
use Rattle.qw_binary.specs.declared.write.expression.Writer.{Writer}

-- an instruction that holds no sequence and names no labels
abbrev pub IsAlone : Instr → Type 0
IsAlone (i.Block result body) = ⊥
IsAlone (i.Loop result body) = ⊥
IsAlone (i.If result then_body else_body) = ⊥
IsAlone (i.BrTable from count default) = ⊥
IsAlone _ = Unit {0}

-- an instruction holds a sequence of this number that was opened so
abbrev pub Holds : Opener → Instr → (number : ℕ) → Type 0
Holds (block type) holder number = holder ≡ i.Block type number
Holds (loop type) holder number = holder ≡ i.Loop type number
Holds (first type) holder number = (other : Option ℕ) × (holder ≡ i.If type number other)
Holds (second type then_body) holder number = holder ≡ i.If type then_body (Some number)

-- it opens a sequence by a code of its own
abbrev pub IsFresh : Opener → Type 0
IsFresh (second type then_body) = ⊥
IsFresh _ = Unit {0}

-- the sequences round one of this number, the innermost first, and the outermost is the last of the body
abbrev pub Stands : Sequences → List Around → (number : ℕ) → Type 0
Stands body [] number = number + 1 ≡ length body.each
Stands body (around ∷ outer) number =
    (holder : Instr) × (slice_get (sequence_at body around.sequence) around.place ≡ Some holder) × Holds (opener_of around.opener) holder number × Stands body outer around.sequence

-- a writer stands in a body
pub record IsAt (body : Sequences) (writer : Writer) : Type 0 where
  pub stands : Stands body (reverse writer.around.items) writer.sequence
  pub inside : writer.place ≤ length (sequence_at body writer.sequence)
  pub ended : writer.ended ≤ length body.each
  pub labels : writer.labels ≤ length body.labels

-- so many instructions, spelled by these octets, lead from here to the body
abbrev pub Leads : Sequences → ℕ → Next Progress Sequences → List ℕ → Type 0
Leads body count from text = Chain (λ p code next t. Spells (instruction p code) next t) count from body text

-- no octets lead from here to the body
unfoldable pub IsDead : Sequences → Next Progress Sequences → Type 0
IsDead body from = (count : ℕ) (text : List ℕ) → Leads body count from text → ⊥

-- what leads from here to the body goes on there
unfoldable pub Passes : Sequences → (from to : Next Progress Sequences) → Type 0
Passes body from to = (count : ℕ) (text : List ℕ) → Leads body count from text → (fewer : ℕ) × (rest : List ℕ) × Leads body fewer to rest
