use Rattle.qw_group.specs.Inner.ValueBlocks.{value_block}
use Rattle.qw_group.proofs.ValueClauses.{reads_value}
use Rattle.qw_group.proofs.value.emit_value.Goals as goal

pub returns-clause-block : goal.returns-clause-block
returns-clause-block c = (
  value_block c.args.function c.args.kind c.args.entry c.args.offset c.args.free,
  c.in_ok-push_value.ensures,
  reads_value c.args.function c.args.kind c.args.offset c.args.entry c.args.free c.requires.entry,
)
