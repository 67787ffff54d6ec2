use Rattle.qw_low.specs.Syntax.{skip}
use Rattle.qw_group.proofs.AddedSteps.{read_steps, numeric_apart}
use Rattle.qw_group.proofs.aggregate.push_chosen.Goals as goal

pub returns-in_ok-extend_from_slice-in-Number : goal.returns-in_ok-extend_from_slice-in-Number
returns-in_ok-extend_from_slice-in-Number c = (
  skip,
  read_steps c.args.kind c.args.entry c.args.offset c.args.own c.access_at.result c.args.block.now.code.items c.extend_from_slice.new.self.items c.in-Number.is c.access_at.ensures c.in_ok-extend_from_slice-in-Number.ensures.items,
  λ text. absurd (numeric_apart c.args.kind c.in-Number.is text),
)
