use Rattle.std.proofs.Common.{sym, arith}
use Rattle.qw_scalar.specs.Expression.{comparison}
use Rattle.qw_expr.proofs.Extents.{comparing_most}
use Rattle.qw_expr.proofs.Tests.{relation_tests, truth_tests}
use Rattle.qw_expr.proofs.emitter.Emitter.test_comparison.Goals as goal

pub returns-then-is_one_relation-clause-emits : goal.returns-then-is_one_relation-clause-emits
returns-then-is_one_relation-clause-emits c known a b start mid typed low ea eb =
    rw c.relation_of.ensures.name (relation_tests known c.args.operator a b start mid c.args.self.now c.args.left c.args.right typed low (sym c.if-is_one_relation.ensures) ea eb)

pub returns-clause-emits : goal.returns-clause-emits
returns-clause-emits c known a b start mid typed low ea eb = truth_tests known (comparison c.args.operator a b) start c.compare.new.self c.in_ok-t.t (c.in_ok-t.ensures.emits known a b start mid typed low ea eb)

pub returns-clause-short : goal.returns-clause-short
returns-clause-short c = omega (arith, c.in_ok-t.ensures.short, comparing_most c.args.operator)
