use Rattle.std.proofs.Common.{◌≡◌, ◌∷◌, ◌∙◌}
use Rattle.qw_machine.specs.declared.activity.Awaiting.TheVariants.{Label}
use Rattle.qw_machine.proofs.Crossing.{in-array, slice-read, more-left, label-left}
use Rattle.qw_machine.proofs.blocks.leave_labels.Goals as goal

pub index-requires-in-loop-index : goal.index-requires-in-loop-index
index-requires-in-loop-index c =
    let l = c.loop-index in
    let at = c.requires.point in
    let popped : l.awaiting.values ≡ Label c.in-Label.entry ∷ c.pop.new.self.values = cc (c.top.ensures, c.in-Label.is, c.pop.ensures.popped) in
    let left = label-left at.0 at.1 at.2 c.args.body.now at.3 l.awaiting.values l.number l.index (l.invariant.2 at.0 at.1 at.2 at.3 at.4).0 l.sequence.now l.invariant.1
    c.loop-index-test.true c.in-Label.entry c.pop.new.self.values popped in
    in-array at.0 at.1 at.2 c.args.body.now at.3 c.pop.new.self.values c.in-Label.entry.sequence c.in-Label.entry.after left.0

pub loop-index-preserved : goal.loop-index-preserved
loop-index-preserved c =
    let l = c.loop-index in
    let at = c.requires.point in
    let popped : l.awaiting.values ≡ Label c.in-Label.entry ∷ c.pop.new.self.values = cc (c.top.ensures, c.in-Label.is, c.pop.ensures.popped) in
    let here = label-left at.0 at.1 at.2 c.args.body.now at.3 l.awaiting.values l.number l.index (l.invariant.2 at.0 at.1 at.2 at.3 at.4).0 l.sequence.now l.invariant.1
    c.loop-index-test.true c.in-Label.entry c.pop.new.self.values popped in (
      c.pop.ensures.room ∙ l.invariant.0,
      slice-read at.0 at.1 at.2 c.args.body.now at.3 c.pop.new.self.values c.in-Label.entry.sequence c.in-Label.entry.after here.0
          c.index-in-loop-index.result.now c.as_slice-sequence-in-loop-index.result.now c.index-in-loop-index.ensures c.as_slice-sequence-in-loop-index.ensures.value,
      λ m rooms p same is.
          let so = l.invariant.2 m rooms p same is in
          let left = label-left m rooms p c.args.body.now same l.awaiting.values l.number l.index so.0 l.sequence.now l.invariant.1
          c.loop-index-test.true c.in-Label.entry c.pop.new.self.values popped in
          (left.0, so.1 ∙ left.1),
    )

pub returns-clause-inside : goal.returns-clause-inside
returns-clause-inside c = λ _.
    let l = c.loop-index in
    let at = c.requires.point in
    more-left at.0 at.1 at.2 c.args.body.now at.3 l.awaiting.values l.number l.index (l.invariant.2 at.0 at.1 at.2 at.3 at.4).0 l.sequence.now l.invariant.1 c.loop-index-test.false
