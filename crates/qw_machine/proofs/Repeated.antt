-- A `br_if` that is taken, and the `loop` that it goes to, against the configuration's two steps: they begin the loop's body anew.
use Rattle.std.proofs.Common.{◌≡◌, ◌≢◌, ℕ, Bool, ◌+◌, ◌-◌, ◌<◌, ◌≤◌, List, ◌∷◌, ◌++◌, length, take, false, Some, slice_get, refl, sym, ap, ◌∙◌, arith, length-drop}
use Rattle.std.proofs.lemmas.Option.{slice_get_within}
use Rattle.qw_module.specs.declared.instruction.Instr.{Instr}
use Rattle.qw_module.specs.declared.instruction.Instr.TheVariants as i
use Rattle.qw_module.specs.declared.module.Module.{Module}
use Rattle.qw_machine.specs.declared.activity.Awaiting.{Awaiting}
use Rattle.qw_machine.specs.declared.activity.Awaiting.TheVariants.{Label}
use Rattle.qw_machine.specs.declared.activity.Entry.{Entry}
use Rattle.qw_machine.specs.declared.room.Rooms.{Rooms}
use Rattle.qw_machine.specs.declared.stepped.Stepped.TheVariants.{Ran}
use Rattle.qw_module.specs.Numbers.{truth}
use Rattle.qw_module.specs.Start.{body_of}
use Rattle.qw_module.specs.Syntax.{Sequences}
use Rattle.qw_machine.specs.Inner.Points.{Point, entered, instructions_at, under, with_held}
use Rattle.qw_machine.specs.Inner.Placed.{IsExecuted, IsPoint}
use Rattle.qw_machine.specs.Inner.Activities.{IsAtHand, IsDoneAt, IsJump, IsRun, IsTurn, Repeats}
use Rattle.qw_machine.proofs.Around.{with_operands}
use Rattle.qw_machine.proofs.Controlled.{br_if-operand, can-jump-br_if, executed-br_if, executed-loop}
use Rattle.qw_machine.proofs.Runs.{run-none, run-operator}

-- at the beginning of its sequence, with other operands
abbrev pub anew : Point → List ℕ → Point
anew p operands = record p { index = 0; operands = operands }

module _ {m : Module} {rooms : Rooms} (spare : ℕ) (executed : IsExecuted m) {p : Point} (is : IsPoint m rooms p)
    (inside : p.index < length (instructions_at m p.function p.sequence))
    (found : slice_get (instructions_at m p.function p.sequence) p.index ≡ Some (i.BrIf 0))
    (condition : ℕ) (holds : condition ≢ 0) (left : List ℕ) (popped : p.operands ≡ condition ∷ left)
    (base : ℕ) (repeats : Repeats (body_of m p.function) p.sequence p.awaiting base) where
  abbrev entry : Entry
  entry = repeats.entry

  -- the branch leads to the `loop`
  abbrev pub between : Point
  between = record p { awaiting = repeats.rest; sequence = entry.sequence; index = entry.target; operands = under base left }

  jump : IsJump 0 (with_operands p left) between
  jump =
      let at : ℕ → ℕ → Point = λ kept b. record p { awaiting = repeats.rest; sequence = entry.sequence; index = entry.target; operands = take kept left ++ under b left } in
      record {
        entry = entry;
        awaiting = repeats.innermost;
        point = ap (λ (takes : Bool). at (truth takes) base) (sym repeats.takes_none) ∙ ap (λ (b : ℕ). at (truth entry.takes) b) (sym repeats.base_is);
      }

  pub executed-branch : (memory : List ℕ) → IsDoneAt m rooms spare p memory Ran between memory
  executed-branch memory = executed-br_if spare executed is inside 0 found condition left between memory popped holds jump

  pub between-inside : between.index < length (instructions_at m between.function between.sequence)
  between-inside = slice_get_within (instructions_at m between.function between.sequence) between.index (i.Loop repeats.result p.sequence) repeats.begins

  -- which enters the label again that was left
  below : length (under base left) ≡ entry.base
  below =
      let jumps = can-jump-br_if spare executed is inside 0 found condition left popped in
      let there : Some (Label jumps.0) ≡ Some (Label entry) = sym jumps.1 ∙ ap (λ (awaiting : List Awaiting). slice_get awaiting 0) repeats.innermost in
      let same : jumps.0 ≡ entry = cc there in
      omega (arith, length-drop (length left - base) left, jumps.2, ap (λ (e : Entry). e.base) same, repeats.base_is)

  label_is : Label (record { base = length (under base left); takes = false; sequence = entry.sequence; target = entry.target; after = entry.target + 1 }) ≡ Label entry
  label_is =
      let with : ℕ → Bool → ℕ → Awaiting = λ b t a. Label (record { base = b; takes = t; sequence = entry.sequence; target = entry.target; after = a }) in
      ap (λ (b : ℕ). with b false (entry.target + 1)) below
      ∙ ap (λ (t : Bool). with entry.base t (entry.target + 1)) (sym repeats.takes_none)
      ∙ ap (λ (a : ℕ). with entry.base entry.takes a) (sym repeats.after_it)

  entered_is : entered between p.sequence false between.index ≡ anew p (under base left)
  entered_is =
      let at : List Awaiting → Point = λ awaiting. record p { awaiting = awaiting; index = 0; operands = under base left } in
      ap at (ap (λ (a : Awaiting). a ∷ repeats.rest) label_is ∙ sym repeats.innermost)

  pub executed-again : (memory : List ℕ) → IsPoint m rooms between → IsDoneAt m rooms spare between memory Ran (anew p (under base left)) memory
  executed-again memory point =
      executed-loop spare executed point between-inside repeats.result p.sequence repeats.begins (anew p (under base left)) memory (sym entered_is)

module _ (m : Module) (rooms : Rooms) (p : Point) (sequences : Sequences) (number : ℕ) (awaiting : List Awaiting) (sequence : List Instr) (index room : ℕ) (operands globals locals : List ℕ)
    (start : IsAtHand m rooms sequences number awaiting sequence p index room operands globals locals) (spare : ℕ) where
  found : slice_get sequence index ≡ Some (i.BrIf 0) → slice_get (instructions_at m p.function p.sequence) index ≡ Some (i.BrIf 0)
  found branches = rw start.followed.instructions branches

  pub turned-ready : slice_get sequence index ≡ Some (i.BrIf 0) → 0 < length operands
  turned-ready branches = br_if-operand spare start.executed start.followed.running.point start.followed.running.unfinished 0 (found branches)

  pub turned-next : (most : ℕ) (memory left : List ℕ) → IsTurn sequences number awaiting sequence index operands left → 2 ≤ most →
      IsRun m rooms spare most (with_held p index operands globals locals) memory (record { steps = 2; last = Ran }) (with_held p 0 left globals locals) memory
  turned-next most memory left turn fits =
      let here : Point = with_held p index operands globals locals in
      let running = start.followed.running in
      let repeats : Repeats (body_of m p.function) p.sequence p.awaiting turn.base = rw (← start.body_is, start.number_is, start.awaiting_is) turn.repeats in
      let middle : Point = between spare start.executed running.point running.unfinished (found turn.branches) turn.condition turn.holds turn.left turn.popped turn.base repeats in
      let branch = executed-branch spare start.executed running.point running.unfinished (found turn.branches) turn.condition turn.holds turn.left turn.popped turn.base repeats memory in
      let inside = between-inside spare start.executed running.point running.unfinished (found turn.branches) turn.condition turn.holds turn.left turn.popped turn.base repeats in
      let again = executed-again spare start.executed running.point running.unfinished (found turn.branches) turn.condition turn.holds turn.left turn.popped turn.base repeats memory branch.0 in
      let one = run-operator m rooms spare most here memory 0 1 here middle memory memory Ran (run-none m rooms spare most here memory 0 refl running) branch inside refl (omega (arith, fits)) in
      rw turn.cut (run-operator m rooms spare most here memory 1 2 middle (anew here (under turn.base turn.left)) memory memory Ran one again (omega (arith, running.unfinished)) refl fits)
