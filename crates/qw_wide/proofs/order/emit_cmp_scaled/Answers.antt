use Rattle.qw_low.proofs.Appended.{on_ok}
use Rattle.qw_low.proofs.Lengths.{added-most}
use Rattle.qw_wide.specs.Inner.Blocks.{comparison_block}
use Rattle.qw_wide.proofs.Lengths.{comparison-long}
use Rattle.qw_wide.proofs.Orders.{comparison_tests}
use Rattle.qw_wide.proofs.order.emit_cmp_scaled.Goals as goal

pub returns-clause-block : goal.returns-clause-block
returns-clause-block c = on_ok _ _ c.push_comparison.result
    (λ same. (
      comparison_block c.args.operator c.args.left.scale c.args.left.most c.args.right.scale c.args.right.most c.args.free c.args.out c.args.left.local c.args.right.local,
      same,
      comparison_tests c.args.operator c.args.left.scale c.args.right.scale c.args.left.local c.args.left.most c.args.right.local c.args.right.most c.args.free c.args.out c.requires.scales.0 c.requires.scales.1 c.requires.below.0 c.requires.below.1 c.requires.below.2,
    ))
    c.push_comparison.ensures

pub returns-clause-short : goal.returns-clause-short
returns-clause-short c = on_ok _ _ c.push_comparison.result
    (λ same. added-most 24 (comparison_block c.args.operator c.args.left.scale c.args.left.most c.args.right.scale c.args.right.most c.args.free c.args.out c.args.left.local c.args.right.local) c.args.block.now.code.items c.push_comparison.new.block.code.items same
    (comparison-long c.args.operator c.args.left.scale c.args.left.most c.args.right.scale c.args.right.most c.args.free c.args.out c.args.left.local c.args.right.local))
    c.push_comparison.ensures
