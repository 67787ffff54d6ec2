use Rattle.std.proofs.Common.{◌++◌}
use Rattle.qw_expr.specs.Bindings.{known_of}
use Rattle.qw_read.specs.Texts.{known_texts}
use Rattle.qw_compile.proofs.LiteralSteps.{next_text}
use Rattle.qw_compile.proofs.bindings.bind_texts.Goals as goal

pub loop-index-preserved : goal.loop-index-preserved
loop-index-preserved c =
    next_text c.args.literals.now c.args.texts.now c.loop-index.index _ c.index-texts-index.result c.in_ok-copy_of.field-0 c.operand.result c.loop-index.made.items c.push.new.self.items (known_of c.args.made.now.items ++ known_texts c.args.literals.now c.args.texts.now) c.requires
    c.loop-index-test.true c.index-texts-index.is c.in_ok-copy_of.ensures.0 c.operand.ensures c.loop-index.invariant c.in_ok-push.ensures.items
