-- A finished label or frame is left, as the configuration's is that this stands for.
use Rattle.std.proofs.Common.{◌≡◌, ℕ, List, [], ◌∷◌, ◌++◌, length, Some, refl, sym, ap, subst, ◌∙◌, arith, append_assoc}
use Rattle.qw_module.specs.declared.instruction.ValType.{ValType}
use Rattle.qw_module.specs.declared.module.Module.{Module}
use Rattle.qw_machine.specs.declared.activity.Entry.{Entry}
use Rattle.qw_machine.specs.declared.activity.Frame.{Frame}
use Rattle.qw_machine.specs.declared.activity.Awaiting.{Awaiting}
use Rattle.qw_machine.specs.declared.activity.Awaiting.TheVariants.{Label, Call}
use Rattle.qw_machine.specs.declared.room.Rooms.{Rooms}
use Rattle.qw_machine.specs.declared.stepped.Stepped.TheVariants.{Ran}
use Rattle.qw_module.specs.Syntax.{Code, done}
use Rattle.qw_module.specs.Execution.{Returned, State}
use Rattle.qw_module.specs.Start.{body_of}
use Rattle.qw_module.specs.Step.{Next}
use Rattle.qw_module.specs.Typing.{scope_of, Typed}
use Rattle.qw_module.specs.Soundness.{AreOf}
use Rattle.qw_module.specs.Validity.{outside_of}
use Rattle.qw_machine.specs.Inner.Points.{Point, instructions_at, base_of, state_at, after_label, after_call}
use Rattle.qw_machine.specs.Inner.Placed.{IsPoint}
use Rattle.qw_machine.specs.Inner.Activities.{IsDoneAt}
use Rattle.qw_module.proofs.Sound.{done_types}
use Rattle.qw_machine.proofs.ListFacts.{above-append, under-append}
use Rattle.qw_machine.proofs.Outside.{entry-point, caller-point}
use Rattle.qw_machine.proofs.Points.{code_in-end, state_at-split}

-- at the end of its sequence a point has the operands that this leaves
leaves : (m : Module) (rooms : Rooms) (p : Point) → p.index ≡ length (instructions_at m p.function p.sequence) → (is : IsPoint m rooms p) → AreOf is.own is.ends
leaves m rooms p ended is =
    let finished : Typed (scope_of (outside_of m) is.locals is.results is.labels) done is.before is.ends =
    subst (λ (code : Code). Typed (scope_of (outside_of m) is.locals is.results is.labels) code is.before is.ends)
    (code_in-end (body_of m p.function) p.sequence p.index ended) is.typed in
    subst (λ (types : List ValType). AreOf is.own types) (done_types (scope_of (outside_of m) is.locals is.results is.labels) is.before is.ends finished) is.own_are

-- ---- a label
module _ (m : Module) (rooms : Rooms) (p : Point) (entry : Entry) (rest : List Awaiting) (ended : p.index ≡ length (instructions_at m p.function p.sequence))
    (is : IsPoint m rooms (record p { awaiting = Label entry ∷ rest })) where
  label_operands : p.operands ≡ (is.own ++ is.awaiting.0.own) ++ is.awaiting.0.below
  label_operands =
      let e = is.awaiting.0 in
      is.operands_are ∙ ap (λ (xs : List ℕ). is.own ++ xs) e.operands_are ∙ sym (append_assoc is.own e.own e.below)

  after_label-point : IsPoint m rooms (after_label p entry rest)
  after_label-point =
      let e = is.awaiting.0 in
      entry-point p is.own is.ends (leaves m rooms (record p { awaiting = Label entry ∷ rest }) ended is) e entry.after e.after_typed e.after_in e.after_within
      is.awaiting.1 is.has_locals label_operands

  after_label-state : state_at m (record p { awaiting = Label entry ∷ rest }) ≡ state_at m (after_label p entry rest)
  after_label-state =
      let e = is.awaiting.0 in
      state_at-split m (record p { awaiting = Label entry ∷ rest }) is.own is.below is.operands_are is.below_are
      ∙ rw (code_in-end (body_of m p.function) p.sequence p.index ended, e.operands_are, above-append (base_of rest) e.own e.below e.below_are, under-append (base_of rest) e.own e.below e.below_are)
      (sym (state_at-split m (after_label p entry rest) (is.own ++ e.own) e.below label_operands e.below_are))

-- ---- a frame
module _ (m : Module) (rooms : Rooms) (p : Point) (caller : Frame) (rest : List Awaiting) (ended : p.index ≡ length (instructions_at m p.function p.sequence))
    (is : IsPoint m rooms (record p { awaiting = Call caller ∷ rest })) where
  call_operands : p.operands ≡ (is.own ++ is.awaiting.2.own) ++ is.awaiting.2.below
  call_operands =
      let f = is.awaiting.2 in
      is.operands_are ∙ ap (λ (xs : List ℕ). is.own ++ xs) f.operands_are ∙ sym (append_assoc is.own f.own f.below)

  after_call-point : IsPoint m rooms (after_call p caller rest)
  after_call-point =
      let left : AreOf is.own is.results = subst (λ (types : List ValType). AreOf is.own types) is.awaiting.1 (leaves m rooms (record p { awaiting = Call caller ∷ rest }) ended is) in
      caller-point p is.own is.results left is.awaiting.2 is.awaiting.3 is.globals_are call_operands

  after_call-state : state_at m (record p { awaiting = Call caller ∷ rest }) ≡ state_at m (after_call p caller rest)
  after_call-state =
      let f = is.awaiting.2 in
      state_at-split m (record p { awaiting = Call caller ∷ rest }) is.own is.below is.operands_are is.below_are
      ∙ rw (code_in-end (body_of m p.function) p.sequence p.index ended, f.operands_are, above-append (base_of rest) f.own f.below f.below_are, under-append (base_of rest) f.own f.below f.below_are)
      (sym (state_at-split m (after_call p caller rest) (is.own ++ f.own) f.below call_operands f.below_are))

-- ---- what is popped is left
pub left-label : (m : Module) (rooms : Rooms) (p : Point) (entry : Entry) (rest : List Awaiting) → p.index ≡ length (instructions_at m p.function p.sequence) →
    p.awaiting ≡ Label entry ∷ rest → IsPoint m rooms p → IsPoint m rooms (after_label p entry rest) × (state_at m p ≡ state_at m (after_label p entry rest))
left-label m rooms p entry rest ended popped is =
    let inner : IsPoint m rooms (record p { awaiting = Label entry ∷ rest }) = subst (λ (awaiting : List Awaiting). IsPoint m rooms (record p { awaiting = awaiting })) popped is in (
      after_label-point m rooms p entry rest ended inner,
      ap (λ (awaiting : List Awaiting). state_at m (record p { awaiting = awaiting })) popped ∙ after_label-state m rooms p entry rest ended inner,
    )

pub left-call : (m : Module) (rooms : Rooms) (p : Point) (caller : Frame) (rest : List Awaiting) → p.index ≡ length (instructions_at m p.function p.sequence) →
    p.awaiting ≡ Call caller ∷ rest → IsPoint m rooms p → IsPoint m rooms (after_call p caller rest) × (state_at m p ≡ state_at m (after_call p caller rest))
left-call m rooms p caller rest ended popped is =
    let inner : IsPoint m rooms (record p { awaiting = Call caller ∷ rest }) = subst (λ (awaiting : List Awaiting). IsPoint m rooms (record p { awaiting = awaiting })) popped is in (
      after_call-point m rooms p caller rest ended inner,
      ap (λ (awaiting : List Awaiting). state_at m (record p { awaiting = awaiting })) popped ∙ after_call-state m rooms p caller rest ended inner,
    )

-- where nothing is left, the state is the return
none_await : (awaiting : List Awaiting) → length awaiting ≡ 0 → awaiting ≡ []
none_await [] none = refl
none_await (a ∷ awaiting) none = absurd (omega arith)

pub left-last : (m : Module) (p : Point) → p.index ≡ length (instructions_at m p.function p.sequence) → length p.awaiting ≡ 0 → state_at m p ≡ Returned
left-last m p ended none = rw (none_await p.awaiting none, code_in-end (body_of m p.function) p.sequence p.index ended) refl

-- what an instruction led to may be left further
pub done-left : (m : Module) (rooms : Rooms) (spare : ℕ) (p q r : Point) (memory after : List ℕ) → IsDoneAt m rooms spare p memory Ran q after →
    IsPoint m rooms r → state_at m q ≡ state_at m r → IsDoneAt m rooms spare p memory Ran r after
done-left m rooms spare p q r memory after executed is same = (
  is,
  record {
    event = executed.1.event;
    made = λ place. executed.1.made place ∙ ap (λ (x : State). let n : Next = record { event = executed.1.event; state = x; memory = after } in Some n) same;
    answered = executed.1.answered;
  },
)
