-- Mirrors `Writer`: what is read again of what it has written of an expression.
use Rattle.std.specs.Prelude.{ℕ, ◌∷◌, map, reverse, take, Bool, true, false, List}
use Rattle.qw_octet_grammar.specs.Grammar.{Next, goes_on, ends, octet}
use Rattle.qw_octet_grammar.specs.Writing.{Puts}
use Rattle.qw_module.specs.declared.instruction.Instr.{Instr}
use Rattle.qw_module.specs.Syntax.{Sequences, sequence_at}
use Rattle.qw_binary.specs.Instructions.{Open, Progress, instruction, with_instruction}
use Rattle.qw_binary.specs.Inner.Reader.{opener_of}
use Rattle.qw_binary.specs.declared.write.expression.Around.{Around}
use Rattle.qw_binary.specs.declared.write.expression.Writer.{Writer}

abbrev pub open_of : Sequences → Around → Open
open_of body around = record { opener = opener_of around.opener; before = take around.place (sequence_at body around.sequence) }

abbrev pub progress_of : Sequences → Writer → Progress
progress_of body writer =
    record {
      ended = take writer.ended body.each;
      labels = take writer.labels body.labels;
      around = reverse (map (open_of body) writer.around.items);
      now = take writer.place (sequence_at body writer.sequence);
    }

-- with one more sequence open round the present one
abbrev pub within_open : Sequences → Around → Progress → Progress
within_open body around p = record p { around = open_of body around ∷ p.around }

-- whether the last end was written
abbrev pub next_of : Sequences → Bool → Writer → Next Progress Sequences
next_of body true writer = ends body
next_of body false writer = goes_on (progress_of body writer)

-- an instruction was put that opens no sequence, is no end, and names no labels
unfoldable pub PutsInstruction : Instr → (old new : List ℕ) → Type 0
PutsInstruction i old new = (p : Progress) → Puts (octet (instruction p)) (goes_on (with_instruction p i)) old new
