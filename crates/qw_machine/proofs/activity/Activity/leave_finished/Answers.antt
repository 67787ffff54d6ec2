use Rattle.std.proofs.Common.{◌≡◌, ◌≢◌, ℕ, vec_len, vec_capacity, ◌∷◌, ◌∙◌, sym, ap}
use Rattle.qw_machine.specs.declared.room.Rooms.{Rooms}
use Rattle.qw_machine.specs.declared.activity.Awaiting.{Awaiting}
use Rattle.qw_machine.specs.declared.activity.Awaiting.TheVariants.{Label, Call}
use Rattle.qw_machine.specs.Inner.Points.{point_of, state_at}
use Rattle.qw_machine.proofs.Reading.{sequence-read, index-end, index-unfinished}
use Rattle.qw_machine.proofs.Leaving.{left-last, left-label, left-call}
use Rattle.qw_machine.proofs.activity.Activity.leave_finished.Goals as goal

pub returns-then-len-eq0-clause-left : goal.returns-then-len-eq0-clause-left
returns-then-len-eq0-clause-left c =
    let p = point_of c.loop-self.self in
    let is = c.loop-self.invariant.1 in
    let read = sequence-read c.args.program.now p.function p.sequence c.index.result.now c.index-in-loop-self.result.now is.room.own is.room.numbered c.index.ensures c.index-in-loop-self.ensures in
    let ended = index-end c.args.program.now p.function p.sequence p.index c.index-in-loop-self.result.now read (c.loop-self-test.true ∙ c.len.ensures) in
    c.loop-self.invariant.2 ∙ left-last c.args.program.now p ended (sym c.len-in-loop-self.ensures ∙ c.if-len-eq0.true)

pub loop-self-preserved-in-Label : goal.loop-self-preserved-in-Label
loop-self-preserved-in-Label c =
    let p = point_of c.loop-self.self in
    let is = c.loop-self.invariant.1 in
    let read = sequence-read c.args.program.now p.function p.sequence c.index.result.now c.index-in-loop-self.result.now is.room.own is.room.numbered c.index.ensures c.index-in-loop-self.ensures in
    let ended = index-end c.args.program.now p.function p.sequence p.index c.index-in-loop-self.result.now read (c.loop-self-test.true ∙ c.len.ensures) in
    let popped : p.awaiting ≡ Label c.in-Label.entry ∷ c.pop.new.self.values = c.pop.ensures.popped ∙ ap (λ (a : Awaiting). a ∷ c.pop.new.self.values) c.in-Label.is in
    let left = left-label c.args.program.now _ p c.in-Label.entry c.pop.new.self.values ended popped is in (
      ap (λ (n : ℕ). let rooms : Rooms = record { operands = c.loop-self.self.operands.room; awaiting = n; locals = vec_capacity c.loop-self.self.locals } in rooms) c.pop.ensures.room ∙ c.loop-self.invariant.0,
      left.0,
      c.loop-self.invariant.2 ∙ left.1,
    )

pub loop-self-preserved : goal.loop-self-preserved
loop-self-preserved c =
    let p = point_of c.loop-self.self in
    let is = c.loop-self.invariant.1 in
    let read = sequence-read c.args.program.now p.function p.sequence c.index.result.now c.index-in-loop-self.result.now is.room.own is.room.numbered c.index.ensures c.index-in-loop-self.ensures in
    let ended = index-end c.args.program.now p.function p.sequence p.index c.index-in-loop-self.result.now read (c.loop-self-test.true ∙ c.len.ensures) in
    let popped : p.awaiting ≡ Call c.in-Call.caller ∷ c.pop.new.self.values = c.pop.ensures.popped ∙ ap (λ (a : Awaiting). a ∷ c.pop.new.self.values) c.in-Call.is in
    let left = left-call c.args.program.now _ p c.in-Call.caller c.pop.new.self.values ended popped is in (
      c.resume.ensures.rooms ∙ ap (λ (n : ℕ). let rooms : Rooms = record { operands = c.loop-self.self.operands.room; awaiting = n; locals = vec_capacity c.loop-self.self.locals } in rooms) c.pop.ensures.room ∙ c.loop-self.invariant.0,
      rw (c.resume.ensures.point) left.0,
      c.loop-self.invariant.2 ∙ left.1 ∙ ap (state_at c.args.program.now) (sym c.resume.ensures.point),
    )

pub returns-clause-left : goal.returns-clause-left
returns-clause-left c =
    let p = point_of c.loop-self.self in
    let is = c.loop-self.invariant.1 in
    let read = sequence-read c.args.program.now p.function p.sequence c.index.result.now c.index-in-loop-self.result.now is.room.own is.room.numbered c.index.ensures c.index-in-loop-self.ensures in
    let apart : p.index ≢ vec_len c.index-in-loop-self.result.now = λ e. c.loop-self-test.false (e ∙ sym c.len.ensures) in (
      record {
        point = is;
        unfinished = index-unfinished c.args.program.now p.function p.sequence p.index c.index-in-loop-self.result.now read apart is.index_in;
      },
      c.loop-self.invariant.2,
    )
