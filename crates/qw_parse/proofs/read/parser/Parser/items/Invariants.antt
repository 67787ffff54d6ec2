-- The items read so far, and then those that are read from here, are what is read from the start.
use Rattle.std.proofs.Common.{length, map}
use Rattle.qw_ast.specs.ScriptGrammar.{is_comma}
use Rattle.qw_ast.specs.SyntaxTree.{item_of}
use Rattle.qw_parse.specs.Inner.Readers.{append, further_at, item_at, nested_at, token_at}
use Rattle.qw_parse.specs.Inner.Parser.{left}
use Rattle.qw_parse.proofs.ReadLemmas.{Goes}
use Rattle.qw_parse.proofs.read.parser.Parser.items.Given as goal

abbrev pub invariant-items : goal.invariant-items
invariant-items l = Goes (token_at is_comma) (item_at (nested_at 33)) append (further_at (item_at (nested_at 33)) (left l.fn.self)) (map item_of l.items.items) (left l.self)

abbrev pub decreases-items : goal.decreases-items
decreases-items l = length (left l.self)
