use Rattle.std.proofs.Common.{◌≡◌, ◌∙◌, None, ap}
use Rattle.qw_module.specs.Execution.{State}
use Rattle.qw_module.specs.Validity.{IsShaped}
use Rattle.qw_module.specs.Start.{begun}
use Rattle.qw_machine.specs.declared.machine.Instance.TheInside.{Inside}
use Rattle.qw_machine.specs.Inner.Held.{state_of, IsHeld}
use Rattle.qw_machine.specs.Inner.Rooms.{needed, rooms_of}
use Rattle.qw_machine.proofs.Starts.{executed-shaped, heights-are, run-there, started-awaiting, started-locals, started-point, started}
use Rattle.qw_machine.proofs.machine.Instance.call.Goals as goal

pub begin-requires-clause-executed : goal.begin-requires-clause-executed
begin-requires-clause-executed c =
    executed-shaped c.args.valid c.module-module.result.now c.args.number c.module-module.ensures.«module» c.module-module.ensures.valid c.requires.shaped c.requires.descends

pub begin-requires-clause-awaiting : goal.begin-requires-clause-awaiting
begin-requires-clause-awaiting c =
    let m = c.module-module.result.now in
    let shaped : IsShaped m c.args.number = rw c.module-module.ensures.«module» c.requires.shaped in
    let executed = executed-shaped c.args.valid m c.args.number c.module-module.ensures.«module» c.module-module.ensures.valid c.requires.shaped c.requires.descends in
    let run = run-there m c.args.number shaped in
    started-awaiting m c.args.number run.0 executed shaped run.1 c.heights.result.now (heights-are c.heights.result.now c.args.valid m c.module-module.ensures.«module» c.heights.ensures) c.in_ok-rooms.rooms (rw c.in_ok-rooms.ensures.ok_part at c.needed_rooms.ensures)

pub begin-requires-clause-locals : goal.begin-requires-clause-locals
begin-requires-clause-locals c = λ function found.
    let m = c.module-module.result.now in
    let shaped : IsShaped m c.args.number = rw c.module-module.ensures.«module» c.requires.shaped in
    let executed = executed-shaped c.args.valid m c.args.number c.module-module.ensures.«module» c.module-module.ensures.valid c.requires.shaped c.requires.descends in
    started-locals m c.args.number function executed shaped found c.heights.result.now (heights-are c.heights.result.now c.args.valid m c.module-module.ensures.«module» c.heights.ensures) c.in_ok-rooms.rooms (rw c.in_ok-rooms.ensures.ok_part at c.needed_rooms.ensures)

pub leave_finished-runs-requires-clause-executed : goal.leave_finished-runs-requires-clause-executed
leave_finished-runs-requires-clause-executed c =
    executed-shaped c.args.valid c.module-module.result.now c.args.number c.module-module.ensures.«module» c.module-module.ensures.valid c.requires.shaped c.requires.descends

pub leave_finished-runs-requires-clause-point : goal.leave_finished-runs-requires-clause-point
leave_finished-runs-requires-clause-point c =
    let m = c.module-module.result.now in
    let shaped : IsShaped m c.args.number = rw c.module-module.ensures.«module» c.requires.shaped in
    let executed = executed-shaped c.args.valid m c.args.number c.module-module.ensures.«module» c.module-module.ensures.valid c.requires.shaped c.requires.descends in
    let run = run-there m c.args.number shaped in
    let enough : c.in_ok-rooms.rooms ≡ needed m c.heights.result.now = rw c.in_ok-rooms.ensures.ok_part at c.needed_rooms.ensures in
    let rooms = rooms_of c.in_ok-activity.activity in
    rw (c.in_ok-activity.ensures.point run.0 run.1)
    (started-point m c.args.number run.0 executed shaped run.1 c.heights.result.now (heights-are c.heights.result.now c.args.valid m c.module-module.ensures.«module» c.heights.ensures) rooms (c.in_ok-activity.ensures.rooms ∙ enough) c.args.argument c.ranges.argument.fits)

-- the instance that is made holds what it has to, and stands for the call's beginning
abbrev made : goal.After-after_leaving → Inside
made c = record { valid = c.args.valid; imported = c.imported_functions-imported.result; ended = c.after_leaving.result; asked = None; activity = c.leave_finished-runs.new.self }

began : (c : goal.After-after_leaving) → IsHeld (made c) × (state_of (made c) ≡ begun c.args.valid c.args.number c.args.argument)
began c =
    let m = c.module-module.result.now in
    let shaped : IsShaped m c.args.number = rw c.module-module.ensures.«module» c.requires.shaped in
    let executed = executed-shaped c.args.valid m c.args.number c.module-module.ensures.«module» c.module-module.ensures.valid c.requires.shaped c.requires.descends in
    let run = run-there m c.args.number shaped in
    let enough : c.in_ok-rooms.rooms ≡ needed m c.heights.result.now = rw c.in_ok-rooms.ensures.ok_part at c.needed_rooms.ensures in
    let left = rw (c.in_ok-activity.ensures.point run.0 run.1) at c.leave_finished-runs.ensures.left in
    let imported = rw c.deref.ensures.value at c.imported_functions-imported.ensures.count in
    rw c.module-module.ensures.«module» at
    (started m c.args.number run.0 executed shaped run.1 c.heights.result.now (heights-are c.heights.result.now c.args.valid m c.module-module.ensures.«module» c.heights.ensures)
    (rooms_of c.in_ok-activity.activity) (c.in_ok-activity.ensures.rooms ∙ enough) c.args.argument c.ranges.argument.fits
    c.imported_functions-imported.result imported c.leave_finished-runs.new.self c.after_leaving.result c.leave_finished-runs.result c.after_leaving.ensures c.leave_finished-runs.ensures.rooms left)

pub invariant_of-result : goal.invariant_of-result
invariant_of-result c = (began c).0

pub returns : goal.returns
returns c = ap (λ (s : State). record { program = c.args.valid; state = s; asked = None }) (began c).1
