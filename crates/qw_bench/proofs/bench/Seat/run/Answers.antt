use Rattle.std.proofs.Common.{◌≡◌, ℕ, ◌+◌, ◌-◌, ◌<◌, ◌≤◌, Some, None, refl, sym, ap, ◌∙◌, subst, arith}
use Rattle.qw_machine.specs.declared.stepped.Stepped.TheVariants.{Asked, Grew}
use Rattle.qw_machine.specs.Instance.{asked_by}
use Rattle.qw_module.specs.Execution.{Raised, Running}
use Rattle.qw_map.specs.Turns.{steps_of}
use Rattle.qw_bench.specs.declared.bench.Seat.{Seat}
use Rattle.qw_bench.specs.declared.pool.Pool.{Pool}
use Rattle.qw_bench.specs.Inner.Pools.{IsPool, common_of}
use Rattle.qw_bench.specs.Inner.Seats.{common_with, counting, state_in}
use Rattle.qw_bench.proofs.SeatSteps.{HasGrown, HasRun, answered-on, end-kept, grew-on, has-grown, raises, ran-on, refused-on, returned, run-none, untrapped, within-limit}
use Rattle.qw_bench.proofs.SeatRuns.{IsAsking, IsLastTaken, asking, last-taken, pool-there, pool_at, seat_at}
use Rattle.qw_bench.proofs.bench.Seat.run.Goals as goal
use Rattle.qw_bench.proofs.bench.Seat.run.Goals.{After-run-run}

-- the steps of a call are within the limit of the seat
within : (c : After-run-run) → c.loop-taken.self.ran + (c.loop-taken.taken + c.run-run.result.steps) ≤ c.loop-taken.self.limits.steps
within c = within-limit c.args.self.now c.args.pool.now c.loop-taken.taken (c.loop-taken.taken + c.run-run.result.steps) c.args.budget c.loop-taken.self c.loop-taken.pool
    c.loop-taken.invariant.0 (omega (arith, c.run-run.ensures.few, c.loop-taken-test.true)) c.requires.steps

-- the last of the steps that were made in a call
last : (c : After-run-run) → asked_by c.run-run.result.last ≡ None →
    IsLastTaken c.args.self.now c.args.pool.now c.loop-taken.taken c.loop-taken.self c.loop-taken.pool c.run-run.result.steps
    c.run-run.new.self c.run-run.new.memory c.run-run.result.last
last c unasked =
    let e = c.run-run.ensures in
    let some : 1 ≤ c.args.budget - c.loop-taken.taken = omega (arith, c.loop-taken-test.true) in
    last-taken c.args.self.now c.args.pool.now c.loop-taken.taken c.loop-taken.self c.loop-taken.pool c.loop-taken.invariant.0 c.requires.told
    (c.args.budget - c.loop-taken.taken) c.run-run.result.steps c.run-run.new.self c.run-run.new.memory c.run-run.result.last unasked some (within c) e.all e.runs

-- what holds as it is counted holds of all steps
of_all : (c : After-run-run) (unasked : asked_by c.run-run.result.last ≡ None) (P : ℕ → Type 0) → P (c.loop-taken.taken + (last c unasked).fewer + 1) →
    P (c.loop-taken.taken + c.run-run.result.steps)
of_all c unasked P h =
    let count : c.loop-taken.taken + (last c unasked).fewer + 1 ≡ c.loop-taken.taken + c.run-run.result.steps = omega (arith, (last c unasked).counted) in
    subst P count h

-- it was within the budget
below : (c : After-run-run) (unasked : asked_by c.run-run.result.last ≡ None) → c.loop-taken.taken + (last c unasked).fewer < c.args.budget
below c unasked = omega (arith, (last c unasked).counted, c.run-run.ensures.few, c.loop-taken-test.true)

goes-on : (c : After-run-run) (unasked : asked_by c.run-run.result.last ≡ None) (seat : Seat) (pool : Pool) →
    HasRun c.args.self.now c.args.pool.now (c.loop-taken.taken + (last c unasked).fewer + 1) seat pool →
    HasRun c.args.self.now c.args.pool.now (c.loop-taken.taken + c.run-run.result.steps) seat pool × (c.loop-taken.taken + c.run-run.result.steps ≤ c.args.budget)
goes-on c unasked seat pool h = (
  of_all c unasked (λ n. HasRun c.args.self.now c.args.pool.now n seat pool) h,
  omega (arith, c.run-run.ensures.few, c.loop-taken-test.true),
)

pub loop-taken-init : goal.loop-taken-init
loop-taken-init c = (run-none c.args.self.now c.args.pool.now c.requires.runs c.requires.unended c.requires.below c.requires.seat c.requires.pool, omega arith)

pub loop-taken-preserved-in-Ran : goal.loop-taken-preserved-in-Ran
loop-taken-preserved-in-Ran c =
    let l = (goal.at.loop-taken-preserved-in-Ran c).After-run-run in
    let e = c.run-run.ensures in
    let unasked = ap asked_by c.in-Ran.is in
    goes-on l unasked _ _ (ran-on (last l unasked).taken c.in-Ran.is e.program (e.asked ∙ unasked) e.reserved)

-- ---- a growth
grown : (c : After-run-run) (at pages : ℕ) (is : c.run-run.result.last ≡ Grew at pages) → HasGrown (last c (ap asked_by is)).taken at pages
grown c at pages is = has-grown (last c (ap asked_by is)).taken at pages is

-- the memory was kept before its last step
kept : (c : After-run-run) (unasked : asked_by c.run-run.result.last ≡ None) → IsPool (pool_at c.loop-taken.pool (last c unasked).octets)
kept c unasked = (last c unasked).taken.has.kept

pub note_growth-requires-clause-flags : goal.note_growth-requires-clause-flags
note_growth-requires-clause-flags c =
    let l = (goal.at.note_growth-requires-clause-flags c).After-run-run in
    let before = kept l (ap asked_by c.in-Grew.is) in
    omega (arith, (grown l c.in-Grew.at c.in-Grew.pages c.in-Grew.is).longer, before.flags, before.whole)

pub note_growth-requires-clause-whole : goal.note_growth-requires-clause-whole
note_growth-requires-clause-whole c =
    let l = (goal.at.note_growth-requires-clause-whole c).After-run-run in
    let before = kept l (ap asked_by c.in-Grew.is) in
    omega (arith, (grown l c.in-Grew.at c.in-Grew.pages c.in-Grew.is).longer, before.whole)

pub note_growth-requires-clause-within : goal.note_growth-requires-clause-within
note_growth-requires-clause-within c =
    let l = (goal.at.note_growth-requires-clause-within c).After-run-run in
    let it = grown l c.in-Grew.at c.in-Grew.pages c.in-Grew.is in
    let has = (last l (ap asked_by c.in-Grew.is)).taken.has in
    omega (arith, it.longer, it.fits, has.asks, c.requires.room, c.run-run.ensures.reserved, c.loop-taken.invariant.0.reserved)

pub note_growth-requires-clause-counted : goal.note_growth-requires-clause-counted
note_growth-requires-clause-counted c =
    let l = (goal.at.note_growth-requires-clause-counted c).After-run-run in
    (kept l (ap asked_by c.in-Grew.is)).counted

pub note_grant-requires-clause-fits : goal.note_grant-requires-clause-fits
note_grant-requires-clause-fits c =
    let l = (goal.at.note_grant-requires-clause-fits c).After-run-run in
    omega (arith, (grown l c.in-Grew.at c.in-Grew.pages c.in-Grew.is).fits)

pub loop-taken-smaller-in-Grew : goal.loop-taken-smaller-in-Grew
loop-taken-smaller-in-Grew c =
    let l = (goal.at.loop-taken-smaller-in-Grew c).After-run-run in
    omega (arith, (last l (ap asked_by c.in-Grew.is)).counted, c.loop-taken-test.true)

pub loop-taken-preserved-in-Grew : goal.loop-taken-preserved-in-Grew
loop-taken-preserved-in-Grew c =
    let l = (goal.at.loop-taken-preserved-in-Grew c).After-run-run in
    let e = c.run-run.ensures in
    let unasked = ap asked_by c.in-Grew.is in
    let noted = c.note_grant.ensures in
    let grows = c.note_growth.ensures in
    goes-on l unasked c.note_grant.new.self c.note_growth.new.self
    (grew-on (last l unasked).taken c.in-Grew.at c.in-Grew.pages c.note_grant.new.self.granted c.note_grant.new.self c.note_growth.new.self
    c.in-Grew.is e.program (e.asked ∙ unasked) e.reserved noted.seat noted.granted noted.capacity grows.memory grows.free grows.kept)

-- ---- a growth that is refused
pub loop-taken-smaller-in-Refused : goal.loop-taken-smaller-in-Refused
loop-taken-smaller-in-Refused c =
    let l = (goal.at.loop-taken-smaller-in-Refused c).After-run-run in
    omega (arith, (last l (ap asked_by c.in-Refused.is)).counted, c.loop-taken-test.true)

pub loop-taken-preserved-in-Refused : goal.loop-taken-preserved-in-Refused
loop-taken-preserved-in-Refused c =
    let l = (goal.at.loop-taken-preserved-in-Refused c).After-run-run in
    let e = c.run-run.ensures in
    let unasked = ap asked_by c.in-Refused.is in
    goes-on l unasked _ _ (refused-on (last l unasked).taken c.in-Refused.pages c.in-Refused.is e.program (e.asked ∙ unasked) e.reserved)

-- ---- a request to the host
asks : (c : After-run-run) (pages : ℕ) → c.run-run.result.last ≡ Asked pages →
    IsAsking c.args.self.now c.args.pool.now c.loop-taken.taken c.loop-taken.self c.loop-taken.pool c.run-run.result.steps c.run-run.new.self.state
    c.run-run.new.memory.octets pages
asks c pages is =
    asking c.args.self.now c.args.pool.now c.loop-taken.taken c.loop-taken.self c.loop-taken.pool c.loop-taken.invariant.0 c.requires.told c.run-run.result.steps
    pages c.run-run.new.self.state c.run-run.new.memory.octets c.run-run.result.last (ap asked_by is) (within c) c.run-run.ensures.runs

-- the steps before it were taken
has-asked : (c : After-run-run) (pages : ℕ) (is : c.run-run.result.last ≡ Asked pages) →
    HasRun c.args.self.now c.args.pool.now (c.loop-taken.taken + c.run-run.result.steps) (seat_at c.loop-taken.self (Running (asks c pages is).config))
    (record c.loop-taken.pool { memory = c.run-run.new.memory })
has-asked c pages is =
    subst (HasRun c.args.self.now c.args.pool.now (c.loop-taken.taken + c.run-run.result.steps) (seat_at c.loop-taken.self (Running (asks c pages is).config)))
    (pool-there c.loop-taken.pool c.run-run.new.memory c.run-run.ensures.reserved) (asks c pages is).has

-- one step more is within the budget
fewer : (c : After-run-run) (pages : ℕ) → c.run-run.result.last ≡ Asked pages → c.loop-taken.taken + c.run-run.result.steps < c.args.budget
fewer c pages is =
    let below : c.run-run.result.steps < c.args.budget - c.loop-taken.taken = rw (ap asked_by is) at c.run-run.ensures.before_most in
    omega (arith, below)

pub answer-requires-clause-pool : goal.answer-requires-clause-pool
answer-requires-clause-pool c = (has-asked (goal.at.answer-requires-clause-pool c).After-run-run c.in-Asked.pages c.in-Asked.is).kept

pub answer-requires-clause-room : goal.answer-requires-clause-room
answer-requires-clause-room c =
    let has = has-asked (goal.at.answer-requires-clause-room c).After-run-run c.in-Asked.pages c.in-Asked.is in
    omega (arith, has.asks, has.reserved, c.requires.room)

pub loop-taken-preserved : goal.loop-taken-preserved
loop-taken-preserved c =
    let l = (goal.at.loop-taken-preserved c).After-run-run in
    let e = c.answer.ensures in
    let asked = asks l c.in-Asked.pages c.in-Asked.is in
    let less = fewer l c.in-Asked.pages c.in-Asked.is in
    let n : ℕ = c.loop-taken.taken + c.run-run.result.steps in
    let limit = within-limit c.args.self.now c.args.pool.now c.loop-taken.taken (n + 1) c.args.budget c.loop-taken.self c.loop-taken.pool c.loop-taken.invariant.0
    (omega (arith, less)) c.requires.steps in (
      answered-on c.args.self.now c.args.pool.now n (seat_at c.loop-taken.self (Running asked.config)) (record c.loop-taken.pool { memory = c.run-run.new.memory })
          c.run-run.new.self c.in-Asked.pages asked.config c.answer.new.self c.answer.new.pool (has-asked l c.in-Asked.pages c.in-Asked.is) c.requires.told
          (omega (arith, limit)) refl (e.answered asked.config asked.state_is asked.asks) e.seated e.ended (e.program ∙ c.run-run.ensures.program) e.seat e.pool e.longer
          e.asks e.reserved,
      omega (arith, less),
    )

-- ---- the end
pub returns-in-Returned-clause-ran : goal.returns-in-Returned-clause-ran
returns-in-Returned-clause-ran c =
    let l = (goal.at.returns-in-Returned-clause-ran c).After-run-run in
    let unasked = ap asked_by c.in-Returned.is in
    let seat : Seat = record c.loop-taken.self { instance = c.run-run.new.self } in
    let pool : Pool = record c.loop-taken.pool { memory = c.run-run.new.memory } in
    of_all l unasked (λ n. (counting seat n, common_with (counting seat n) pool) ≡ steps_of c.args.budget (counting c.args.self.now 0) (common_of c.args.pool.now))
    (returned (last l unasked).taken c.args.budget (below l unasked) c.in-Returned.is).0.ran

pub returns-in-Returned-clause-end : goal.returns-in-Returned-clause-end
returns-in-Returned-clause-end c =
    let l = (goal.at.returns-in-Returned-clause-end c).After-run-run in
    let unasked = ap asked_by c.in-Returned.is in
    rw (returned (last l unasked).taken c.args.budget (below l unasked) c.in-Returned.is).1 tt

pub returns-in-Returned-clause-pool : goal.returns-in-Returned-clause-pool
returns-in-Returned-clause-pool c =
    let l = (goal.at.returns-in-Returned-clause-pool c).After-run-run in
    let unasked = ap asked_by c.in-Returned.is in
    (returned (last l unasked).taken c.args.budget (below l unasked) c.in-Returned.is).0.kept c.run-run.ensures.reserved

pub returns-in-Returned-clause-asks : goal.returns-in-Returned-clause-asks
returns-in-Returned-clause-asks c =
    let l = (goal.at.returns-in-Returned-clause-asks c).After-run-run in
    let unasked = ap asked_by c.in-Returned.is in
    let taken = (last l unasked).taken in
    omega (arith, (returned taken c.args.budget (below l unasked) c.in-Returned.is).0.size, taken.has.asks)

pub returns-in-Returned-clause-progress : goal.returns-in-Returned-clause-progress
returns-in-Returned-clause-progress c = λ some.
    let l = (goal.at.returns-in-Returned-clause-progress c).After-run-run in
    omega (arith, (last l (ap asked_by c.in-Returned.is)).counted)

pub end_of_raise-requires : goal.end_of_raise-requires
end_of_raise-requires c =
    let l = (goal.at.end_of_raise-requires c).After-run-run in
    let unasked = ap asked_by c.in-Raised.is in
    (raises (last l unasked).taken c.args.budget c.in-Raised.code (below l unasked) c.in-Raised.is).raised

pub returns-in-Raised-clause-ran : goal.returns-in-Raised-clause-ran
returns-in-Raised-clause-ran c =
    let l = (goal.at.returns-in-Raised-clause-ran c).After-run-run in
    let unasked = ap asked_by c.in-Raised.is in
    let seat : Seat = record c.loop-taken.self { instance = c.run-run.new.self } in
    let pool : Pool = record c.loop-taken.pool { memory = c.run-run.new.memory } in
    of_all l unasked (λ n. (counting seat n, common_with (counting seat n) pool) ≡ steps_of c.args.budget (counting c.args.self.now 0) (common_of c.args.pool.now))
    (raises (last l unasked).taken c.args.budget c.in-Raised.code (below l unasked) c.in-Raised.is).ended.ran

pub returns-in-Raised-clause-end : goal.returns-in-Raised-clause-end
returns-in-Raised-clause-end c =
    let l = (goal.at.returns-in-Raised-clause-end c).After-run-run in
    let unasked = ap asked_by c.in-Raised.is in
    let raised = raises (last l unasked).taken c.args.budget c.in-Raised.code (below l unasked) c.in-Raised.is in
    let seat : Seat = record c.loop-taken.self { instance = c.run-run.new.self } in
    let after : Seat = record seat { ended = Some c.end_of_raise.result } in
    end-kept seat after (Raised c.in-Raised.code) (state_in after) (Some c.end_of_raise.result) refl refl refl (sym raised.state_is) c.end_of_raise.ensures

pub returns-in-Raised-clause-pool : goal.returns-in-Raised-clause-pool
returns-in-Raised-clause-pool c =
    let l = (goal.at.returns-in-Raised-clause-pool c).After-run-run in
    let unasked = ap asked_by c.in-Raised.is in
    (raises (last l unasked).taken c.args.budget c.in-Raised.code (below l unasked) c.in-Raised.is).ended.kept c.run-run.ensures.reserved

pub returns-in-Raised-clause-asks : goal.returns-in-Raised-clause-asks
returns-in-Raised-clause-asks c =
    let l = (goal.at.returns-in-Raised-clause-asks c).After-run-run in
    let unasked = ap asked_by c.in-Raised.is in
    let taken = (last l unasked).taken in
    omega (arith, (raises taken c.args.budget c.in-Raised.code (below l unasked) c.in-Raised.is).ended.size, taken.has.asks)

pub returns-in-Raised-clause-progress : goal.returns-in-Raised-clause-progress
returns-in-Raised-clause-progress c = λ some.
    let l = (goal.at.returns-in-Raised-clause-progress c).After-run-run in
    omega (arith, (last l (ap asked_by c.in-Raised.is)).counted)

pub unreachable-requires : goal.unreachable-requires
unreachable-requires c =
    let l = (goal.at.unreachable-requires c).After-run-run in
    untrapped (last l (ap asked_by c.in-Trapped.is)).taken c.in-Trapped.field-0 c.in-Trapped.is
