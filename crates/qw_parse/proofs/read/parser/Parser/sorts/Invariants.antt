-- The sort specifications read so far, and then those that are read from here, are what is read from the start.
use Rattle.std.proofs.Common.{length, map}
use Rattle.qw_ast.specs.ScriptGrammar.{is_comma}
use Rattle.qw_ast.specs.SyntaxTree.{sort_of}
use Rattle.qw_parse.specs.Inner.Readers.{append, further_at, sort_at, token_at}
use Rattle.qw_parse.specs.Inner.Parser.{left}
use Rattle.qw_parse.proofs.ReadLemmas.{Goes}
use Rattle.qw_parse.proofs.read.parser.Parser.sorts.Given as goal

abbrev pub invariant-sorts : goal.invariant-sorts
invariant-sorts l = Goes (token_at is_comma) sort_at append (further_at sort_at (left l.fn.self)) (map sort_of l.sorts.items) (left l.self)

abbrev pub decreases-sorts : goal.decreases-sorts
decreases-sorts l = length (left l.self)
