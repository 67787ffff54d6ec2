use Rattle.std.proofs.Common.{arith, subst}
use Rattle.qw_octet_grammar.specs.Writing.{Puts}
use Rattle.qw_octet_grammar.proofs.WriteLaws.{views_begin, views_end, views_next}
use Rattle.qw_binary.specs.Sections.{export}
use Rattle.qw_binary.specs.Contents.{export_contents}
use Rattle.qw_binary.proofs.write.exports.put_exports.Goals as goal

pub loop-export-init : goal.loop-export-init
loop-export-init c = views_begin export export_contents c.args.exports.now c.args.out.now.items c.put_size.new.out.items c.in_ok-put_size.ensures

pub loop-export-preserved : goal.loop-export-preserved
loop-export-preserved c =
    let item = subst (λ x. Puts export (export_contents x) c.loop-export.out.items c.put_export.new.out.items) c.export-item.is c.in_ok-put_export.ensures in
    views_next export export_contents c.args.exports.now c.loop-export.export-index c.export-item.result c.args.out.now.items c.loop-export.out.items c.put_export.new.out.items (omega (arith, c.loop-export-test.true)) c.loop-export.invariant item

pub returns : goal.returns
returns c = views_end export export_contents c.args.exports.now c.loop-export.export-index c.args.out.now.items c.loop-export.out.items (omega (arith, c.loop-export-test.false)) c.loop-export.invariant
