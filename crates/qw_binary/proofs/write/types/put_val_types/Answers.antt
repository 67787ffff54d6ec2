use Rattle.std.proofs.Common.{arith}
use Rattle.qw_octet_grammar.proofs.WriteLaws.{vector_begin, vector_end, vector_next}
use Rattle.qw_binary.specs.Types.{val_type}
use Rattle.qw_binary.proofs.write.types.put_val_types.Goals as goal

pub loop-ty-init : goal.loop-ty-init
loop-ty-init c = vector_begin val_type c.args.types.now c.args.out.now.items c.put_size.new.out.items c.in_ok-put_size.ensures

pub loop-ty-preserved : goal.loop-ty-preserved
loop-ty-preserved c = vector_next val_type c.args.types.now c.loop-ty.ty-index _ c.args.out.now.items c.loop-ty.out.items c.put_val_type.new.out.items c.loop-ty-test.true c.loop-ty.invariant c.in_ok-put_val_type.ensures

pub returns : goal.returns
returns c = vector_end val_type c.args.types.now c.loop-ty.ty-index c.args.out.now.items c.loop-ty.out.items (omega (arith, c.loop-ty-test.false)) c.loop-ty.invariant
