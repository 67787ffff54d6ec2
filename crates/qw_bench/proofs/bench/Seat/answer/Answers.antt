use Rattle.std.proofs.Common.{ap, ◌∙◌, arith}
use Rattle.qw_bench.specs.declared.bench.Seat.{Seat}
use Rattle.qw_bench.proofs.Answering.{HasAnswered, grants-it}
use Rattle.qw_bench.proofs.bench.Seat.answer.Goals as goal
use Rattle.qw_bench.proofs.bench.Seat.answer.Goals.{After-give-else-pages-self}

-- the seat that asks still does
pub give-requires-else-pages-self : goal.give-requires-else-pages-self
give-requires-else-pages-self c = record { owed = (c.args.pages, ap (λ (seat : Seat). seat.instance.asked) c.note_grant.ensures.seat ∙ c.requires.asked) }

-- the pages are given
granted : (c : After-give-else-pages-self) →
    HasAnswered c.args.pages c.args.self.now c.args.pool.now (record c.note_grant.new.self { instance = c.give-else-pages-self.new.self }) c.grant-first.new.self
granted c =
    let e = c.grant-first.ensures in
    let noted = c.note_grant.ensures in
    grants-it c.args.pages c.grant-first.result c.args.self.now c.args.pool.now c.grant-first.new.self c.give-else-pages-self.new.self c.note_grant.new.self.granted
    (record c.note_grant.new.self { instance = c.give-else-pages-self.new.self }) c.requires.grants (omega (arith, c.if-pages-self.false)) e.place e.can e.common e.inside e.longer
    e.size (λ d pages make runs is. c.give-else-pages-self.ensures.given d pages make (ap (λ (seat : Seat). seat.instance.state) noted.seat ∙ runs) is)
    c.give-else-pages-self.ensures.answered noted.granted noted.capacity
    (ap (λ (seat : Seat). record seat { instance = c.give-else-pages-self.new.self }) noted.seat)

pub returns-else-pages-self-clause-answered : goal.returns-else-pages-self-clause-answered
returns-else-pages-self-clause-answered c = (granted (goal.at.returns-else-pages-self-clause-answered c).After-give-else-pages-self).answered

pub returns-else-pages-self-clause-seat : goal.returns-else-pages-self-clause-seat
returns-else-pages-self-clause-seat c = (granted (goal.at.returns-else-pages-self-clause-seat c).After-give-else-pages-self).seat
