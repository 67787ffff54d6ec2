use Rattle.std.proofs.Common.{arith}
use Rattle.qw_columns.proofs.GrowthLemmas.{grows_then, keeps_grows}
use Rattle.qw_columns.proofs.writing.place_column.Goals as goal

pub returns-clause-grows : goal.returns-clause-grows
returns-clause-grows c =
    let at = c.args.placed.now.values in
    grows_then c.args.memory.now c.grow_to.new.memory c.write_column.new.memory at at (omega arith) (c.grow_to.ensures.grows at)
    (keeps_grows c.grow_to.new.memory c.write_column.new.memory at c.write_column.ensures.keeps)
