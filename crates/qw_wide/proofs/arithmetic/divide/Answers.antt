use Rattle.std.proofs.Common.{arith}
use Rattle.qw_low.proofs.Appended.{if_ok}
use Rattle.qw_low.proofs.Lengths.{made-most}
use Rattle.qw_wide.proofs.Added.{quotient_added}
use Rattle.qw_wide.proofs.Lengths.{quotient-most}
use Rattle.qw_wide.proofs.arithmetic.divide.Goals as goal

pub returns-clause-block : goal.returns-clause-block
returns-clause-block c = if_ok _ _ c.push_quotient.result (λ out made. quotient_added c.args.left c.args.right c.args.free out c.args.block.now.code.items c.push_quotient.new.block.code.items (omega (arith, c.requires.scales)) c.requires.below.0 c.requires.below.1 made) c.push_quotient.ensures

pub returns-clause-short : goal.returns-clause-short
returns-clause-short c = made-most _ _ c.push_quotient.result (λ out made. quotient-most c.args.left c.args.right c.args.free out c.args.block.now.code.items c.push_quotient.new.block.code.items made) c.push_quotient.ensures
