use Rattle.std.proofs.Common.{ap, refl, ◌∙◌}
use Rattle.qw_ast.specs.Syntax.{further}
use Rattle.qw_ast.specs.SyntaxTree.{expression_of, expressions_of}
use Rattle.qw_parse.proofs.ReadLemmas.{listing_start, listing_on}
use Rattle.qw_parse.proofs.read.call.listed.Goals as goal

pub others-init : goal.others-init
others-init c = rw c.in_ok-list.ensures (listing_start (expression_of c.args.first) c.args.others.items c.pop.new.self.items c.in-Some.last c.in-Some.last c.in-Some.ensures.items refl)

pub others-preserved : goal.others-preserved
others-preserved c =
    rw c.in_ok-list-2.ensures
    (ap (further (expression_of c.args.first)) (listing_on c.others.others.items c.pop-in-others.new.self.items c.in-Some-pop.expression c.in-Some-pop.expression (expressions_of c.others.list) c.in-Some-pop.ensures.items refl)
    ∙ c.others.invariant)
