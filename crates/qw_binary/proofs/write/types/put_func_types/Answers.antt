use Rattle.std.proofs.Common.{arith, subst}
use Rattle.qw_octet_grammar.specs.Writing.{Puts}
use Rattle.qw_octet_grammar.proofs.WriteLaws.{views_begin, views_end, views_next}
use Rattle.qw_binary.specs.Types.{func_type}
use Rattle.qw_module.specs.Validity.{signature_of}
use Rattle.qw_binary.proofs.write.types.put_func_types.Goals as goal

pub loop-ty-init : goal.loop-ty-init
loop-ty-init c = views_begin func_type signature_of c.args.types.now c.args.out.now.items c.put_size.new.out.items c.in_ok-put_size.ensures

pub loop-ty-preserved : goal.loop-ty-preserved
loop-ty-preserved c =
    let item = subst (λ x. Puts func_type (signature_of x) c.loop-ty.out.items c.put_func_type.new.out.items) c.ty-item.is c.in_ok-put_func_type.ensures in
    views_next func_type signature_of c.args.types.now c.loop-ty.ty-index c.ty-item.result c.args.out.now.items c.loop-ty.out.items c.put_func_type.new.out.items (omega (arith, c.loop-ty-test.true)) c.loop-ty.invariant item

pub returns : goal.returns
returns c = views_end func_type signature_of c.args.types.now c.loop-ty.ty-index c.args.out.now.items c.loop-ty.out.items (omega (arith, c.loop-ty-test.false)) c.loop-ty.invariant
