use Rattle.std.proofs.Common.{ap, ◌+◌, ◌∙◌}
use Rattle.qw_map.specs.Turns.{turn, acted}
use Rattle.qw_bench.specs.Standing.{Standing}
use Rattle.qw_bench.specs.Bench.{ran_in}
use Rattle.qw_bench.proofs.BenchTurns.{Sits, seat-found, seat-is, seat-room, seat-told, seat-whole, turned-bench, turned-none, turned-ran, turned-shared, turned-tasks}
use Rattle.qw_bench.proofs.bench.Bench.turn.Goals as goal
use Rattle.qw_bench.proofs.bench.Bench.turn.Goals.{After-index_mut-seat}

-- the seat that has the turn
sits : (c : After-index_mut-seat) → Sits c.self.inside.pool c.self.inside.seats.items c.args.i c.index_mut-seat.result.now
sits c =
    seat-found c.args.self.now c.self.inside.pool c.self.inside.seats.items c.args.i c.index_mut-seat.result.now c.self.view_is c.requires.there
    c.index_mut-seat.ensures.value

pub turn-requires-clause-whole : goal.turn-requires-clause-whole
turn-requires-clause-whole c =
    let seat = sits (goal.at.turn-requires-clause-whole c).After-index_mut-seat in
    seat-whole seat c.self.invariant

pub turn-requires-clause-told : goal.turn-requires-clause-told
turn-requires-clause-told c =
    let seat = sits (goal.at.turn-requires-clause-told c).After-index_mut-seat in
    seat-told seat c.self.invariant

pub turn-requires-clause-seat : goal.turn-requires-clause-seat
turn-requires-clause-seat c =
    let seat = sits (goal.at.turn-requires-clause-seat c).After-index_mut-seat in
    seat-is seat c.self.invariant

pub turn-requires-clause-room : goal.turn-requires-clause-room
turn-requires-clause-room c =
    let seat = sits (goal.at.turn-requires-clause-room c).After-index_mut-seat in
    seat-room seat c.self.invariant

pub invariant_of-self : goal.invariant_of-self
invariant_of-self c =
    let seat = sits (goal.at.invariant_of-self c).After-index_mut-seat in
    let e = c.turn.ensures in
    turned-bench seat c.self.invariant c.args.quantum c.turn.new.self c.turn.new.pool e.turned e.task e.seat e.pool e.longer e.reserved e.asks

pub returns-clause-turn : goal.returns-clause-turn
returns-clause-turn c =
    let seat = sits (goal.at.returns-clause-turn c).After-index_mut-seat in
    turned-shared seat c.args.quantum c.turn.new.self c.turn.new.pool c.turn.ensures.turned
    ∙ ap (λ (b : Standing). acted b.shared (turn c.args.i c.args.quantum)) c.self.view_is

pub returns-clause-tasks : goal.returns-clause-tasks
returns-clause-tasks c =
    let seat = sits (goal.at.returns-clause-tasks c).After-index_mut-seat in
    turned-tasks seat c.turn.new.self c.turn.ensures.task ∙ ap (λ (b : Standing). b.tasks) c.self.view_is

pub returns-clause-counted : goal.returns-clause-counted
returns-clause-counted c =
    let seat = sits (goal.at.returns-clause-counted c).After-index_mut-seat in
    turned-ran seat c.turn.new.self c.turn.new.pool c.turn.result c.turn.ensures.counted
    ∙ ap (λ (b : Standing). ran_in b.shared c.args.i + c.turn.result) c.self.view_is

pub returns-clause-none : goal.returns-clause-none
returns-clause-none c =
    let seat = sits (goal.at.returns-clause-none c).After-index_mut-seat in
    rw (← c.self.view_is) (turned-none seat c.turn.result c.turn.ensures.over (λ unended. c.turn.ensures.progress unended c.requires.some))
