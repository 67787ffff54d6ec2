use Rattle.qw_low.proofs.Appended.{if_ok}
use Rattle.qw_low.proofs.Lengths.{made-most}
use Rattle.qw_wide.proofs.Added.{bring_added}
use Rattle.qw_wide.proofs.Lengths.{brought-most}
use Rattle.qw_wide.proofs.arithmetic.bring.Goals as goal

pub returns-clause-block : goal.returns-clause-block
returns-clause-block c = if_ok _ _ c.push_bring.result (λ out made. bring_added c.args.operand c.args.to c.args.free out c.args.block.now.code.items c.push_bring.new.block.code.items c.requires.scales.1 c.requires.below made) c.push_bring.ensures

pub returns-clause-short : goal.returns-clause-short
returns-clause-short c = made-most _ _ c.push_bring.result (λ out made. brought-most _ _ _ _ c.args.block.now.code.items c.push_bring.new.block.code.items made.0) c.push_bring.ensures
