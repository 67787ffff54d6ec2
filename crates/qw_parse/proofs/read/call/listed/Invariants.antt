-- What is listed, behind those that are still to be put before it, is the list of all.
use Rattle.std.proofs.Common.{◌≡◌, map, length}
use Rattle.qw_ast.specs.Syntax.{further}
use Rattle.qw_ast.specs.ScriptGrammar.{arguments}
use Rattle.qw_ast.specs.SyntaxTree.{expression_of, expressions_of}
use Rattle.qw_parse.proofs.ReadLemmas.{before}
use Rattle.qw_parse.proofs.read.call.listed.Given as goal

abbrev pub invariant-others : goal.invariant-others
invariant-others l = further (expression_of l.fn.first) (before (map expression_of l.others.items) (expressions_of l.list)) ≡ arguments (expression_of l.fn.first) (map expression_of l.fn.others.items)

abbrev pub decreases-others : goal.decreases-others
decreases-others l = length l.others.items
