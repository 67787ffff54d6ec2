-- Steps become numbered sequences, in one pass from the left: it mirrors `body::Writer`, where `push` is `Tees.pushed`.
use Rattle.std.specs.Prelude.{◌≡◌, ℕ, ◌<◌, List, [], ◌∷◌, ◌++◌, length, map, reverse, Some, None}
use Rattle.std.specs.List.{AllByRecursion}
use Rattle.std.specs.Global.{Vec}
use Rattle.qw_module.specs.declared.instruction.Instr.{Instr}
use Rattle.qw_module.specs.declared.instruction.Instr.TheVariants as i
use Rattle.qw_module.specs.declared.instruction.Op.TheVariants as o
use Rattle.qw_module.specs.declared.instruction.Const.TheVariants as const
use Rattle.qw_module.specs.Syntax.{Code, Sequences, nested, named, sequence_at, NamesBelow}
use Rattle.qw_low.specs.declared.step.LowStep.{LowStep}
use Rattle.qw_low.specs.declared.step.LowStep.TheVariants as step
use Rattle.qw_low.specs.declared.body.Opened.{Opened}
use Rattle.qw_low.specs.declared.body.Opened.TheVariants as opened
use Rattle.qw_low.specs.declared.body.Waiting.{Waiting}
use Rattle.qw_low.specs.declared.body.Writer.{Writer}

-- The sequences that are finished; the one that is written; and those that wait for it, innermost first, each with what was
-- opened in it.
pub record Writing : Type 0 where
  pub finished : List (List Instr)
  pub current : List Instr
  pub waiting : List (List Instr × Opened)

abbrev pub writing : List (List Instr) → List Instr → List (List Instr × Opened) → Writing
writing finished current waiting = record { finished = finished; current = current; waiting = waiting }

-- one more instruction of the current sequence, where `push` tells how one is added
abbrev pub adds : (push : List Instr → Instr → List Instr) → Instr → Writing → Writing
adds push next w = writing w.finished (push w.current next) w.waiting

-- behind the others, as it is
abbrev pub appended : List Instr → Instr → List Instr
appended sequence next = sequence ++ next ∷ []

abbrev pub opens : Opened → Writing → Writing
opens what w = writing w.finished [] ((w.current, what) ∷ w.waiting)

-- the current sequence is finished
abbrev pub finishes : Writing → Writing
finishes w = writing (w.finished ++ w.current ∷ []) [] w.waiting

-- the other sequence of a choice begins
abbrev pub turned : List (List Instr) → List Instr → List (List Instr × Opened) → Writing
turned finished current [] = writing finished current []
turned finished current (w ∷ waiting) = writing (finished ++ current ∷ []) [] ((w.0, opened.Else (length finished)) ∷ waiting)

-- the instruction that holds a sequence of this number
abbrev pub closing : Opened → ℕ → Instr
closing opened.If number = i.If None number None
closing (opened.Else first) number = i.If None first (Some number)
closing opened.Loop number = i.Loop None number

abbrev pub closed : List (List Instr) → List Instr → List (List Instr × Opened) → Writing
closed finished current [] = writing finished current []
closed finished current (w ∷ waiting) = writing (finished ++ current ∷ []) (w.0 ++ closing w.1 (length finished) ∷ []) waiting

abbrev pub written : (push : List Instr → Instr → List Instr) → LowStep → Writing → Writing
written push (step.Op operator) w = adds push (i.Op operator) w
written push step.If w = opens opened.If w
written push step.Else w = turned w.finished w.current w.waiting
written push step.Loop w = opens opened.Loop w
written push step.Again w = adds push (i.BrIf 0) w
written push step.End w = closed w.finished w.current w.waiting
written push step.Ask w = adds push (i.Call 1) w
written push (step.Raise code) w = adds push (i.Call 0) (adds push (i.Op (o.Const (const.I32 code))) w)
written push step.Exit w = adds push i.Return w

abbrev pub all_written : (push : List Instr → Instr → List Instr) → List LowStep → Writing → Writing
all_written push [] w = w
all_written push (x ∷ xs) w = all_written push xs (written push x w)

abbrev pub start : Writing
start = writing [] [] []

-- the sequences in the end
abbrev pub bodies_in : Writing → List (List Instr)
bodies_in w = w.finished ++ w.current ∷ []

-- ---- what the code's values stand for
abbrev pub waiting_of : Waiting → List Instr × Opened
waiting_of w = (w.sequence.items, w.opened)

abbrev pub sequences : List (Vec Instr) → List (List Instr)
sequences bodies = map (λ (s : Vec Instr). s.items) bodies

abbrev pub writing_of : Writer → Writing
writing_of p = writing (sequences p.finished.items) p.current.items (map waiting_of (reverse p.waiting.items))

-- ---- what the pass keeps
-- a body of these sequences, without labels of its own
abbrev pub unlabelled : List (List Instr) → Sequences
unlabelled bodies = record { each = bodies; labels = [] }

-- each sequence names only lower ones
abbrev pub AreLower : List (List Instr) → Type 0
AreLower bodies = (n : ℕ) → n < length bodies → AllByRecursion (NamesBelow 0 n) (sequence_at (unlabelled bodies) n)

-- Instructions were added to a sequence, and sequences to those that are finished: where numbers name what these do, the
-- instructions stand for this code before what follows.
pub record Emits (bodies after : List (List Instr)) (old new : List Instr) (code : Code → Code) : Type 0 where
  pub more : List (List Instr)
  pub after_is : after ≡ bodies ++ more
  pub added : List Instr
  pub is : new ≡ old ++ added
  pub nests : (names : ℕ → Code) → ((n : ℕ) → n < length after → names n ≡ named (unlabelled after) n) → (rest : List Instr) →
      nested [] names (added ++ rest) ≡ code (nested [] names rest)
  pub names : AllByRecursion (NamesBelow 0 (length after)) added
  pub lower : AreLower bodies → AreLower after
