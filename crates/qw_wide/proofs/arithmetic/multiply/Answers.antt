use Rattle.qw_low.proofs.Appended.{if_ok}
use Rattle.qw_low.proofs.Lengths.{made-most}
use Rattle.qw_wide.proofs.Added.{product_added}
use Rattle.qw_wide.proofs.Lengths.{product-most}
use Rattle.qw_wide.proofs.arithmetic.multiply.Goals as goal

pub returns-clause-block : goal.returns-clause-block
returns-clause-block c = if_ok _ _ c.push_product_of.result (λ out made. product_added c.args.left c.args.right c.args.free out c.args.block.now.code.items c.push_product_of.new.block.code.items c.requires.below.0 c.requires.below.1 made) c.push_product_of.ensures

pub returns-clause-short : goal.returns-clause-short
returns-clause-short c = made-most _ _ c.push_product_of.result (λ out made. product-most c.args.left c.args.right c.args.free out c.args.block.now.code.items c.push_product_of.new.block.code.items made) c.push_product_of.ensures
