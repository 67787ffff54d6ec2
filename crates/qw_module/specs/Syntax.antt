-- The nested syntax of instruction sequences (WebAssembly Core Specification 1.0, 2.4), and which
-- nested sequence a numbered body stands for.
use Rattle.std.specs.Prelude.{ℕ, zero, suc, ◌==◌, ◌+◌, ◌<◌, ◌≤◌, ◌-◌, if◌then◌else◌, unwrap_or, List, [], ◌∷◌, length, take, drop, Option, Some, None, slice_get}
use Rattle.std.specs.List.{AllByRecursion}
use Rattle.qw_module.specs.declared.instruction.ValType.{ValType}
use Rattle.qw_module.specs.declared.instruction.Op.{Op}
use Rattle.qw_module.specs.declared.instruction.Instr.{Instr}
use Rattle.qw_module.specs.declared.instruction.Instr.TheVariants as i

-- A sequence of instructions: its first instruction, and what follows it (2.4.6). An instruction that
-- holds sequences holds them as they are (2.4.5). An `if` without `else` is told apart from one whose `else` is empty,
-- which means the same.
pub data Code : Type 0 where
  done : Code
  op : Op → (rest : Code) → Code
  unreachable : (rest : Code) → Code
  block : (result : Option ValType) → (inner rest : Code) → Code
  loop : (result : Option ValType) → (inner rest : Code) → Code
  if_then : (result : Option ValType) → (inner rest : Code) → Code
  if_else : (result : Option ValType) → (inner other rest : Code) → Code
  br : (label : ℕ) → (rest : Code) → Code
  br_if : (label : ℕ) → (rest : Code) → Code
  br_table : (labels : List ℕ) → (default : ℕ) → (rest : Code) → Code
  return : (rest : Code) → Code
  call : (index : ℕ) → (rest : Code) → Code

-- a numbered body: its flat sequences, each at its number, and the labels that its br_tables name ranges of
pub record Sequences : Type 0 where
  pub each : List (List Instr)
  pub labels : List ℕ

-- so many labels from a place on
abbrev pub labels_in : List ℕ → (first count : ℕ) → List ℕ
labels_in labels first count = take count (drop first labels)

abbrev pub if_nested : Option ValType → Code → Option Code → Code → Code
if_nested result inner None rest = if_then result inner rest
if_nested result inner (Some other) rest = if_else result inner other rest

abbrev pub named_if_some : (ℕ → Code) → Option ℕ → Option Code
named_if_some named None = None
named_if_some named (Some number) = Some (named number)

-- the nested sequence of a flat one, where `named` gives the inner sequence of each number
abbrev pub nested : List ℕ → (ℕ → Code) → List Instr → Code
nested labels named [] = done
nested labels named (i.Op o ∷ rest) = op o (nested labels named rest)
nested labels named (i.Unreachable ∷ rest) = unreachable (nested labels named rest)
nested labels named (i.Block result body ∷ rest) = block result (named body) (nested labels named rest)
nested labels named (i.Loop result body ∷ rest) = loop result (named body) (nested labels named rest)
nested labels named (i.If result then_body else_body ∷ rest) =
    if_nested result (named then_body) (named_if_some named else_body) (nested labels named rest)
nested labels named (i.Br label ∷ rest) = br label (nested labels named rest)
nested labels named (i.BrIf label ∷ rest) = br_if label (nested labels named rest)
nested labels named (i.BrTable first count default ∷ rest) = br_table (labels_in labels first count) default (nested labels named rest)
nested labels named (i.Return ∷ rest) = return (nested labels named rest)
nested labels named (i.Call index ∷ rest) = call index (nested labels named rest)

-- the flat sequence of a number
abbrev pub sequence_at : Sequences → ℕ → List Instr
sequence_at sequences number = unwrap_or (slice_get sequences.each number) []

-- which nested sequence each number below n names
unfoldable pub named_below : Sequences → ℕ → ℕ → Code
named_below sequences zero number = done
named_below sequences (suc n) number =
    if number == n then nested sequences.labels (named_below sequences n) (sequence_at sequences n) else named_below sequences n number

-- which nested sequence each number of a body names
abbrev pub named : Sequences → ℕ → Code
named sequences = named_below sequences (length sequences.each)

-- the sequence that a numbered body stands for: its last
abbrev pub code_of : Sequences → Code
code_of sequences = named sequences (length sequences.each - 1)

-- an instruction names only sequences of numbers below n, and only labels that are there, of which there are `count`
abbrev pub NamesBelow : (count n : ℕ) → Instr → Type 0
NamesBelow count n (i.Block result body) = body < n
NamesBelow count n (i.Loop result body) = body < n
NamesBelow count n (i.If result then_body None) = then_body < n
NamesBelow count n (i.If result then_body (Some else_body)) = (then_body < n) × (else_body < n)
NamesBelow count n (i.BrTable first many default) = first + many ≤ count
NamesBelow count n _ = Unit {0}

-- a numbered body: it has a sequence, and each sequence names only lower ones
pub record IsNumbered (sequences : Sequences) : Type 0 where
  pub some : 1 ≤ length sequences.each
  pub lower : (n : ℕ) → n < length sequences.each → AllByRecursion (NamesBelow (length sequences.labels) n) (sequence_at sequences n)
