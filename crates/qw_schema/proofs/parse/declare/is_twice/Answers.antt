use Rattle.qw_schema.proofs.DeclareLemmas.{twice_ends, twice_goes_on}
use Rattle.qw_schema.proofs.parse.declare.is_twice.Goals as goal

pub returns-then-is_among : goal.returns-then-is_among
returns-then-is_among c =
    twice_ends c.args.columns.now c.loop-index.index c.index-columns-index.result c.loop-index-test.true c.index-columns-index.is c.if-is_among.ensures c.loop-index.invariant

pub loop-index-preserved : goal.loop-index-preserved
loop-index-preserved c =
    twice_goes_on c.args.columns.now c.loop-index.index c.index-columns-index.result c.loop-index-test.true c.index-columns-index.is c.if-is_among.ensures c.loop-index.invariant
