-- A label or a frame that is left leads to a point, with what it was left on the operands that it awaits with.
use Rattle.std.proofs.Common.{◌≡◌, ℕ, ◌+◌, ◌≤◌, List, ◌++◌, length, take, subst, arith, length-append}
use Rattle.qw_module.specs.declared.instruction.ValType.{ValType}
use Rattle.qw_module.specs.declared.module.Module.{Module}
use Rattle.qw_machine.specs.declared.activity.Entry.{Entry}
use Rattle.qw_machine.specs.declared.activity.Frame.{Frame}
use Rattle.qw_machine.specs.declared.activity.Awaiting.{Awaiting}
use Rattle.qw_machine.specs.declared.room.Rooms.{Rooms}
use Rattle.qw_module.specs.Typing.{scope_of, Typed}
use Rattle.qw_module.specs.Soundness.{AreOf, AreGlobalsOf}
use Rattle.qw_module.specs.Validity.{outside_of}
use Rattle.qw_machine.specs.Inner.Points.{Point, code_at, instructions_at, floor_of, after_call}
use Rattle.qw_machine.specs.Inner.Placed.{AreAwaiting, HasLocals, IsCaller, IsEntry, StaysAt, IsPoint}
use Rattle.qw_module.proofs.Sound.{AreOf-append, AreOf-length}

longer : (own kept : List ℕ) (given : List ValType) → AreOf kept given → length own + length given ≡ length (kept ++ own)
longer own kept given kept_are = omega (arith, length-append kept own, AreOf-length kept given kept_are)

module _ {m : Module} {rooms : Rooms} (p : Point) {rest : List Awaiting} (kept : List ℕ) (given : List ValType) (kept_are : AreOf kept given) where
  -- in the function that runs, at the end of a label's sequence or where branches to it go
  pub entry-point : {locals results : List ValType} {labels : List (List ValType)} {ends : List ValType} {entry : Entry} {inner : List ℕ}
      (e : IsEntry m rooms p.function p.first_local locals results labels ends entry rest inner) (index : ℕ) →
      Typed (scope_of (outside_of m) locals results e.outer) (code_at m p.function entry.sequence index) (given ++ e.types) e.next →
      index ≤ length (instructions_at m p.function entry.sequence) →
      StaysAt m p.function entry.sequence index e.operands_most e.labels_most (length e.own + length given) →
      AreAwaiting m rooms p.function p.first_local locals results e.outer e.next rest e.below (take p.first_local p.locals) →
      HasLocals m p.function p.first_local p.floor (floor_of rest) p.locals p.globals locals →
      p.operands ≡ (kept ++ e.own) ++ e.below → IsPoint m rooms (record p { awaiting = rest; sequence = entry.sequence; index = index })
  entry-point {locals = locals} {results = results} {entry = entry} e index typed index_in within awaiting has_locals operands_are = record {
    own = kept ++ e.own;
    below = e.below;
    locals = locals;
    results = results;
    labels = e.outer;
    before = given ++ e.types;
    ends = e.next;
    operands_are = operands_are;
    below_are = e.below_are;
    own_are = AreOf-append kept e.own given e.types kept_are e.own_are;
    has_locals = has_locals;
    typed = typed;
    index_in = index_in;
    operands_most = e.operands_most;
    labels_most = e.labels_most;
    stays = subst (λ (n : ℕ). StaysAt m p.function entry.sequence index e.operands_most e.labels_most n) (longer e.own kept given kept_are) within;
    room = e.room;
    awaiting = awaiting;
  }

  -- in the caller, after the call
  pub caller-point : {caller : Frame} {inner : List ℕ} (f : IsCaller m rooms given caller rest inner (take p.first_local p.locals)) →
      AreAwaiting m rooms caller.function caller.first_local f.locals f.outer_results f.labels f.next rest f.below (take caller.first_local (take p.first_local p.locals)) →
      AreGlobalsOf p.globals ((outside_of m).globals) → p.operands ≡ (kept ++ f.own) ++ f.below → IsPoint m rooms (after_call p caller rest)
  caller-point {caller = caller} f awaiting globals_are operands_are = record {
    own = kept ++ f.own;
    below = f.below;
    locals = f.locals;
    results = f.outer_results;
    labels = f.labels;
    before = given ++ f.types;
    ends = f.next;
    operands_are = operands_are;
    below_are = f.below_are;
    own_are = AreOf-append kept f.own given f.types kept_are f.own_are;
    has_locals = record { first_in = f.first_in; locals_are = f.locals_are; all_locals = f.all_locals; globals_are = globals_are; floor_is = f.floor_is };
    typed = f.after_typed;
    index_in = f.after_in;
    operands_most = f.operands_most;
    labels_most = f.labels_most;
    stays = subst (λ (n : ℕ). StaysAt m caller.function caller.sequence caller.after f.operands_most f.labels_most n) (longer f.own kept given kept_are) f.after_within;
    room = f.room;
    awaiting = awaiting;
  }
