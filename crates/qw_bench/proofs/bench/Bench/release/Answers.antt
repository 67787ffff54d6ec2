use Rattle.std.proofs.Common.{◌≡◌, false, Some, sym, ap, ◌∙◌, length}
use Rattle.qw_linear.specs.Linear.{Octets}
use Rattle.qw_linear.specs.Memory.{pages_of}
use Rattle.qw_map.specs.Turns.{Done, release, acted}
use Rattle.qw_bench.specs.Standing.{Standing}
use Rattle.qw_bench.specs.Inner.Seats.{instance_of, task_of}
use Rattle.qw_bench.proofs.BenchTurns.{Sits, end-seen, released-bench, released-seen, released-shared, seat-found, seat-is, turned-tasks}
use Rattle.qw_bench.proofs.bench.Bench.release.Goals as goal
use Rattle.qw_bench.proofs.bench.Bench.release.Goals.{After-index_mut-seat}

-- the seat that is released
sits : (c : After-index_mut-seat) → Sits c.self.inside.pool c.self.inside.seats.items c.args.i c.index_mut-seat.result.now
sits c =
    seat-found c.args.self.now c.self.inside.pool c.self.inside.seats.items c.args.i c.index_mut-seat.result.now c.self.view_is c.requires.there
    c.index_mut-seat.ensures.value

done : (c : After-index_mut-seat) → (instance_of c.index_mut-seat.result.now).end ≡ Some Done
done c = end-seen (sits c) c.args.self.now c.self.view_is ∙ c.requires.done

held : (c : After-index_mut-seat) → (instance_of c.index_mut-seat.result.now).released ≡ false
held c = released-seen (sits c) c.args.self.now c.self.view_is ∙ c.requires.unreleased

pub release-requires-clause-seat : goal.release-requires-clause-seat
release-requires-clause-seat c =
    let seat = sits (goal.at.release-requires-clause-seat c).After-index_mut-seat in
    seat-is seat c.self.invariant

pub invariant_of-self : goal.invariant_of-self
invariant_of-self c =
    let l = (goal.at.invariant_of-self c).After-index_mut-seat in
    let e = c.release.ensures in
    let many : length c.self.inside.pool.free.items ≡ length c.release.new.pool.free.items =
    c.self.invariant.kept.flags ∙ ap (λ (m : Octets). pages_of m.octets) (sym e.memory) ∙ sym e.pool.flags in
    released-bench (sits l) c.release.new.self c.release.new.pool (done l) (held l) e.released c.self.invariant e.seat e.pool many e.memory

pub returns-clause-release : goal.returns-clause-release
returns-clause-release c =
    let l = (goal.at.returns-clause-release c).After-index_mut-seat in
    let e = c.release.ensures in
    released-shared (sits l) c.release.new.self c.release.new.pool (done l) (held l) e.released
    ∙ ap (λ (b : Standing). acted b.shared (release c.args.i)) c.self.view_is

pub returns-clause-tasks : goal.returns-clause-tasks
returns-clause-tasks c =
    let l = (goal.at.returns-clause-tasks c).After-index_mut-seat in
    turned-tasks (sits l) c.release.new.self (ap task_of c.release.ensures.seat) ∙ ap (λ (b : Standing). b.tasks) c.self.view_is
