use Rattle.std.proofs.Common.{rules}
use Rattle.std.proofs.lemmas.Fn.{always_returns_same}
use Rattle.qw_scalar.specs.Expression.{among}
use Rattle.qw_scalar.specs.Tree.{expression_of, expressions_of}
use Rattle.qw_expr.specs.Bindings.{known_of}
use Rattle.qw_expr.specs.Inner.Made.{with_operand}
use Rattle.qw_expr.proofs.Sought.{is_below, permuted_sought, ranks, rising_of}
use Rattle.qw_expr.proofs.search.sorted_literals.Goals as goal

pub returns-clause-made : goal.returns-clause-made
returns-clause-made c =
    let e = expression_of c.args.operand.now in
    permuted_sought (with_operand e c.args.x (known_of c.args.known.now)) (among e (expressions_of c.args.values.now)) c.args.x c.in-Some.sought.items c.sort_by.new.self.items c.in_ok-sort_by.ensures.permutation (rw c.in-Some.is at c.in_ok-sought.ensures.made)

pub returns-clause-rising : goal.returns-clause-rising
returns-clause-rising c = rising_of c.sort_by.new.self.items (c.in_ok-sort_by.ensures.sorted is_below ranks (always_returns_same _ _ _ (λ a r f k. search rules)))
