use Rattle.std.proofs.Common.{map, refl, ◌∙◌}
use Rattle.qw_ast.specs.SyntaxTree.{branching_of, expression_of}
use Rattle.qw_parse.specs.Inner.Parser.{branch_of}
use Rattle.qw_parse.proofs.ReadLemmas.{chain_start, chaining_on}
use Rattle.qw_parse.proofs.read.case.chained.Goals as goal

pub branches-init : goal.branches-init
branches-init c = rw c.in_ok-boxed.ensures (chain_start (map branch_of c.args.branches.items) (expression_of c.args.otherwise))

pub branches-preserved : goal.branches-preserved
branches-preserved c =
    rw c.in_ok-chain.ensures
    (chaining_on c.branches.branches.items c.pop.new.self.items c.in-Some.branch c.in-Some.branch.test c.in-Some.branch.result (branching_of c.branches.chain) c.in-Some.ensures.items refl refl
    ∙ c.branches.invariant)
