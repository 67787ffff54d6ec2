use Rattle.qw_scalar.specs.Tree.{expression_of}
use Rattle.qw_expr.specs.Bindings.{known_of}
use Rattle.qw_expr.proofs.Leaves.{leaf_gathers}
use Rattle.qw_expr.proofs.guard.Sure.gather_leaf.Goals as goal

pub returns : goal.returns
returns c = record {
  gathers = leaf_gathers (known_of c.args.known.now) (expression_of c.args.expr.now) c.in-Some.leaf c.args.self.now c.add.new.self c.requires.served c.in-Some.ensures.name c.in-Some.ensures.known c.in_ok-add.ensures.leaves c.in_ok-add.ensures.nulls;
}
