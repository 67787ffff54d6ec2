use Rattle.std.proofs.Common.{arith, subst}
use Rattle.qw_octet_grammar.specs.Writing.{Puts}
use Rattle.qw_octet_grammar.proofs.WriteLaws.{views_begin, views_end, views_next}
use Rattle.qw_octet_grammar.specs.Numbers.{u32}
use Rattle.qw_binary.specs.Inner.Parts.{type_index_of}
use Rattle.qw_binary.proofs.write.functions.put_type_indices.Goals as goal

pub loop-function-init : goal.loop-function-init
loop-function-init c = views_begin u32 type_index_of c.args.functions.now c.args.out.now.items c.put_size.new.out.items c.in_ok-put_size.ensures

pub loop-function-preserved : goal.loop-function-preserved
loop-function-preserved c =
    let item = subst (λ x. Puts u32 (type_index_of x) c.loop-function.out.items c.put_u32.new.out.items) c.function-item.is c.in_ok-put_u32.ensures in
    views_next u32 type_index_of c.args.functions.now c.loop-function.function-index c.function-item.result c.args.out.now.items c.loop-function.out.items c.put_u32.new.out.items (omega (arith, c.loop-function-test.true)) c.loop-function.invariant item

pub returns : goal.returns
returns c = views_end u32 type_index_of c.args.functions.now c.loop-function.function-index c.args.out.now.items c.loop-function.out.items (omega (arith, c.loop-function-test.false)) c.loop-function.invariant
