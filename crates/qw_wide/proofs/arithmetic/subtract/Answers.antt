use Rattle.qw_low.proofs.Appended.{if_ok}
use Rattle.qw_low.proofs.Lengths.{made-most}
use Rattle.qw_wide.proofs.Added.{difference_added}
use Rattle.qw_wide.proofs.Lengths.{sum-most}
use Rattle.qw_wide.proofs.arithmetic.subtract.Goals as goal

pub returns-clause-block : goal.returns-clause-block
returns-clause-block c = if_ok _ _ c.push_sum.result (λ out made. difference_added c.args.left c.args.right c.args.free out c.args.block.now.code.items c.push_sum.new.block.code.items c.requires.scales.0 c.requires.scales.1 c.requires.below.0 c.requires.below.1 made) c.push_sum.ensures

pub returns-clause-short : goal.returns-clause-short
returns-clause-short c = made-most _ _ c.push_sum.result (λ out made. sum-most _ c.args.left c.args.right c.args.free out c.args.block.now.code.items c.push_sum.new.block.code.items made) c.push_sum.ensures
