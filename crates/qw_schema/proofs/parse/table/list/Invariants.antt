use Rattle.std.proofs.Common.{◌≡◌, length, map}
use Rattle.qw_token.specs.Token.{lexemes}
use Rattle.qw_schema.specs.Inner.Parser.{behind, further, list_at}
use Rattle.qw_schema.specs.Inner.Tables.{sized, column_at, read_of}
use Rattle.qw_schema.proofs.parse.table.list.Given as goal

abbrev pub invariant-loop-behind_comma : goal.invariant-loop-behind_comma
invariant-loop-behind_comma l =
    list_at (column_at sized) (lexemes l.fn.tokens) ≡ behind (map read_of l.columns.items) (further (column_at sized) (lexemes l.rest))

abbrev pub decreases-loop-behind_comma : goal.decreases-loop-behind_comma
decreases-loop-behind_comma l = length l.rest
