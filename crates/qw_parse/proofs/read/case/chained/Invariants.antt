-- The chain, behind the branches that are still to be put before it, is the chain of all.
use Rattle.std.proofs.Common.{◌≡◌, map, length}
use Rattle.qw_ast.specs.ScriptGrammar.{branching}
use Rattle.qw_ast.specs.SyntaxTree.{branching_of, expression_of}
use Rattle.qw_parse.specs.Inner.Parser.{branch_of}
use Rattle.qw_parse.proofs.ReadLemmas.{chain_before}
use Rattle.qw_parse.proofs.read.case.chained.Given as goal

abbrev pub invariant-branches : goal.invariant-branches
invariant-branches l = chain_before (map branch_of l.branches.items) (branching_of l.chain) ≡ branching (map branch_of l.fn.branches.items) (expression_of l.fn.otherwise)

abbrev pub decreases-branches : goal.decreases-branches
decreases-branches l = length l.branches.items
