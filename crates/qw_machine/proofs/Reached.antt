-- Where the steps that `blocks` makes led so far, in which sequence of a body, and where one more leads from there.
use Rattle.std.proofs.Common.{◌≡◌, ◌≢◌, ℕ, ◌+◌, ◌-◌, ◌<◌, ◌≤◌, List, length, Some, slice_get, refl, sym, ap, subst, ◌∙◌, arith}
use Rattle.qw_module.specs.declared.instruction.Instr.{Instr}
use Rattle.qw_module.specs.declared.instruction.Instr.TheVariants as i
use Rattle.qw_module.specs.declared.module.Module.{Module}
use Rattle.qw_module.specs.declared.module.Body.{Body}
use Rattle.qw_machine.specs.declared.activity.Awaiting.{Awaiting}
use Rattle.qw_machine.specs.declared.room.Rooms.{Rooms}
use Rattle.qw_machine.specs.declared.stepped.Run.{Run}
use Rattle.qw_machine.specs.declared.stepped.Stepped.{Stepped}
use Rattle.qw_machine.specs.declared.stepped.Stepped.TheVariants.{Ran}
use Rattle.qw_module.specs.Start.{body_of}
use Rattle.qw_module.specs.Syntax.{Sequences, sequence_at}
use Rattle.qw_module.specs.Validity.{sequences_of}
use Rattle.qw_machine.specs.Inner.Activities.{IsAtHand, IsDoneAt, IsHalted, IsPlaced, IsRun, IsTurn}
use Rattle.qw_machine.specs.Inner.Points.{Point, in_sequence, instructions_at, placed}
use Rattle.qw_machine.specs.Inner.Stacked.{Stacked}
use Rattle.qw_machine.proofs.Repeated.{turned-ready, turned-next}
use Rattle.qw_machine.proofs.Runs.{run-after, run-keeps-length, run-operator}

-- what is around, the sequence and the index, and what is held
pub record Kept : Type 0 where
  pub awaiting : Stacked Awaiting
  pub number : ℕ
  pub index : ℕ
  pub operands : Stacked ℕ
  pub globals : List ℕ
  pub locals : List ℕ
  pub octets : List ℕ

abbrev pub kept : Point → Kept → Point
kept p k = placed p k.awaiting k.number k.index k.operands k.globals k.locals

abbrev pub IsKept : Module → Rooms → Point → Kept → Type 0
IsKept m rooms p k = IsPlaced m rooms p k.awaiting k.number k.index k.operands k.globals k.locals

-- after operators of its sequence, so many
abbrev pub operated : Kept → (steps : ℕ) (operands : Stacked ℕ) (globals locals octets : List ℕ) → Kept
operated k steps operands globals locals octets =
    record k { index = k.index + steps; operands = operands; globals = globals; locals = locals; octets = octets }

-- So many steps led from the start to where it is now, in a sequence of the body, that as many of the most are left as there are
-- indices up to the limit.
pub record IsReached (body : Body) (spare most limit : ℕ) (start now : Kept) (sequence : List Instr) : Type 0 where
  pub awaiting_room : now.awaiting.room ≡ start.awaiting.room
  pub operands_room : now.operands.room ≡ start.operands.room
  pub sequence_is : sequence ≡ sequence_at (sequences_of body) now.number
  pub within : now.index ≤ limit
  pub few : limit - now.index ≤ most
  pub runs : (m : Module) (rooms : Rooms) (p : Point) → sequences_of body ≡ body_of m p.function → IsKept m rooms p start →
      IsRun m rooms spare most (kept p start) start.octets (record { steps = most - (limit - now.index); last = Ran }) (kept p now) now.octets

module _ {body : Body} {spare most limit : ℕ} {start now : Kept} {sequence : List Instr} (is : IsReached body spare most limit start now sequence) where
  module _ {m : Module} {rooms : Rooms} {p : Point} (body_is : sequences_of body ≡ body_of m p.function) (begins : IsKept m rooms p start) where
    pub instructions-now : sequence ≡ instructions_at m p.function now.number
    instructions-now = is.sequence_is ∙ ap (λ (s : Sequences). sequence_at s now.number) body_is

    pub placed-now : IsKept m rooms p now
    placed-now = record {
      executed = begins.executed;
      first_in = begins.first_in;
      operands_room = begins.operands_room ∙ sym is.operands_room;
      awaiting_room = begins.awaiting_room ∙ sym is.awaiting_room;
      running = (is.runs m rooms p body_is begins).running;
    }

    pub inside-now : now.index < length sequence
    inside-now = subst (λ (xs : List Instr). now.index < length xs) (sym instructions-now) placed-now.running.unfinished

    pub at-hand : IsAtHand m rooms (sequences_of body) now.number now.awaiting.values sequence (in_sequence p now.awaiting.values now.number now.index) now.index now.operands.room now.operands.values now.globals now.locals
    at-hand = record {
      executed = begins.executed;
      body_is = body_is;
      number_is = refl;
      awaiting_is = refl;
      followed = record { instructions = sym instructions-now; first_in = begins.first_in; room_is = placed-now.operands_room; running = placed-now.running };
    }

    pub same-length : length now.octets ≡ length start.octets
    same-length = run-keeps-length m rooms spare most (kept p start) start.octets (most - (limit - now.index)) (kept p now) now.octets (is.runs m rooms p body_is begins)

    -- steps in its sequence
    steps-on : (left next : ℕ) (more : Run) (after : Kept) → left ≤ limit - now.index → next ≡ most - (limit - now.index) + more.steps →
        IsRun m rooms spare left (kept p now) now.octets more (kept p after) after.octets →
        IsRun m rooms spare most (kept p start) start.octets (record { steps = next; last = more.last }) (kept p after) after.octets
    steps-on left next more after fits counted further =
        run-after m rooms spare most (kept p start) start.octets (most - (limit - now.index)) left next (kept p now) (kept p after) now.octets after.octets more rooms refl
        (is.runs m rooms p body_is begins) further counted (omega (arith, is.few, fits))

    module _ (end : ℕ) (run : Run) (operands : Stacked ℕ) (globals locals octets : List ℕ) (fits : end ≤ limit)
        (further : IsRun m rooms spare (end - now.index) (kept p now) now.octets run (kept p (operated now run.steps operands globals locals octets)) octets) where
      pub operators-within : now.index + run.steps ≤ limit
      operators-within = omega (arith, further.few, is.within, fits)

      pub operators-run : IsRun m rooms spare most (kept p start) start.octets (record { steps = most - (limit - (now.index + run.steps)); last = run.last })
          (kept p (operated now run.steps operands globals locals octets)) octets
      operators-run =
          steps-on (end - now.index) (most - (limit - (now.index + run.steps))) run (operated now run.steps operands globals locals octets)
          (omega (arith, fits)) (omega (arith, operators-within, is.within, is.few)) further

    -- an instruction was executed that may have finished what still has to be left
    pub halted-now : (run : Run) → run ≡ record { steps = most - (limit - now.index); last = Ran } → (answer : Stepped) (q : Point) (octets : List ℕ) →
        IsDoneAt m rooms spare (kept p now) now.octets answer q octets → IsHalted m rooms spare most (kept p start) start.octets run (Some answer) q octets
    halted-now run run_is answer q octets done = (ap (λ (r : Run). r.last) run_is, kept p now, now.octets, rw run_is (is.runs m rooms p body_is begins), done)

    pub operand-now : slice_get sequence now.index ≡ Some (i.BrIf 0) → 0 < length now.operands.values
    operand-now branches = turned-ready m rooms (in_sequence p now.awaiting.values now.number now.index) _ _ _ _ _ _ _ _ _ at-hand spare branches

  -- what is the same is reached too
  pub reached-same : (awaiting : Stacked Awaiting) (operands : Stacked ℕ) → awaiting ≡ now.awaiting → operands ≡ now.operands →
      IsReached body spare most limit start (record now { awaiting = awaiting; operands = operands }) sequence
  reached-same awaiting operands awaiting_is operands_are = rw (awaiting_is, operands_are) is

  -- operators that go on
  pub reached-operators : (run : Run) (operands : Stacked ℕ) (globals locals octets : List ℕ) → operands.room ≡ now.operands.room → run.last ≡ Ran → now.index + run.steps ≤ limit →
      ((m : Module) (rooms : Rooms) (p : Point) → sequences_of body ≡ body_of m p.function → IsKept m rooms p start →
      IsRun m rooms spare most (kept p start) start.octets (record { steps = most - (limit - (now.index + run.steps)); last = run.last })
      (kept p (operated now run.steps operands globals locals octets)) octets) →
      IsReached body spare most limit start (operated now run.steps operands globals locals octets) sequence
  reached-operators run operands globals locals octets room ran within further = record {
    awaiting_room = is.awaiting_room;
    operands_room = room ∙ is.operands_room;
    sequence_is = is.sequence_is;
    within = within;
    few = omega (arith, is.few);
    runs = λ m rooms p body_is begins. rw ran at further m rooms p body_is begins;
  }

  -- an instruction after which there is a further one in its sequence
  pub reached-next : (next : ℕ) (inner : List Instr) (after : Kept) (number index : ℕ) → after.number ≡ number → after.index ≡ index →
      after.awaiting.room ≡ now.awaiting.room → after.operands.room ≡ now.operands.room → inner ≡ sequence_at (sequences_of body) number →
      (there : List Instr) → (after.index < length there) × (there ≡ sequence_at (sequences_of body) after.number) → now.index ≢ limit → next ≡ limit - (now.index + 1) + index →
      ((m : Module) (rooms : Rooms) (p : Point) → sequences_of body ≡ body_of m p.function → sequence ≡ instructions_at m p.function now.number → IsKept m rooms p now →
      IsDoneAt m rooms spare (kept p now) now.octets Ran (kept p after) after.octets) →
      IsReached body spare most next start (record after { number = number; index = index }) inner
  reached-next next inner after number index number_is index_is awaiting_room operands_room inner_is there goes unended counted done = record {
    awaiting_room = awaiting_room ∙ is.awaiting_room;
    operands_room = operands_room ∙ is.operands_room;
    sequence_is = inner_is;
    within = omega (arith, counted);
    few = omega (arith, counted, is.few);
    runs = λ m rooms p body_is begins.
        let inside : after.index < length (instructions_at m p.function after.number) =
        subst (λ (xs : List Instr). after.index < length xs) (goes.1 ∙ ap (λ (s : Sequences). sequence_at s after.number) body_is) goes.0 in
        let run_of : ℕ → ℕ → Type 0 = λ n x. IsRun m rooms spare most (kept p start) start.octets (record { steps = most - (next - index); last = Ran }) (kept p (record after { number = n; index = x })) after.octets in
        let run : run_of after.number after.index =
        run-operator m rooms spare most (kept p start) start.octets (most - (limit - now.index)) (most - (next - index)) (kept p now) (kept p after) now.octets after.octets Ran
        (is.runs m rooms p body_is begins) (done m rooms p body_is (instructions-now body_is begins) (placed-now body_is begins)) inside
        (omega (arith, counted, is.within, is.few, unended)) (omega (arith, is.within, is.few, unended)) in
        subst (λ (n : ℕ). run_of n index) number_is (subst (λ (x : ℕ). run_of after.number x) index_is run);
  }

  -- a `br_if` that is taken, and the `loop` that it goes to
  pub reached-turn : (operands : Stacked ℕ) → operands.room ≡ now.operands.room → 2 ≤ limit - now.index →
      IsTurn (sequences_of body) now.number now.awaiting.values sequence now.index now.operands.values operands.values →
      IsReached body spare most (limit - (now.index + 2)) start (record now { index = 0; operands = operands }) sequence
  reached-turn operands room two turn = record {
    awaiting_room = is.awaiting_room;
    operands_room = room ∙ is.operands_room;
    sequence_is = is.sequence_is;
    within = omega arith;
    few = omega (arith, is.few);
    runs = λ m rooms p body_is begins.
        steps-on body_is begins (limit - now.index) (most - (limit - (now.index + 2) - 0)) (record { steps = 2; last = Ran }) (record now { index = 0; operands = operands })
        (omega arith) (omega (arith, two, is.within, is.few))
        (turned-next m rooms (in_sequence p now.awaiting.values now.number now.index) _ _ _ _ _ _ _ _ _ (at-hand body_is begins) spare (limit - now.index) now.octets operands.values turn two);
  }
