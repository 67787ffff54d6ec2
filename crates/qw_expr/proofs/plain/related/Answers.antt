use Rattle.std.proofs.Common.{refl, sym, ◌∙◌, inl, inr}
use Rattle.qw_scalar.specs.Tree.{expression_of}
use Rattle.qw_expr.specs.Bindings.{known_of}
use Rattle.qw_expr.specs.Inner.Made.{with_operand}
use Rattle.qw_expr.proofs.PlainTests.{related_plain}
use Rattle.qw_expr.proofs.plain.related.Goals as goal

pub returns-then-is_one_relation-clause-plain : goal.returns-then-is_one_relation-clause-plain
returns-then-is_one_relation-clause-plain c next served =
    rw c.relation_of.ensures.name
    (related_plain (with_operand (expression_of c.args.operand.now) c.args.x (known_of c.args.known.now)) next c.args.operator (expression_of c.args.operand.now) (expression_of c.args.right.now) c.args.x c.in_ok-y.y served c.requires.typed
    (sym c.is_one_relation.ensures ∙ c.if-is_one_relation.true) (inl refl) (inr c.in_ok-y.ensures.known))
