use Rattle.std.proofs.Common.{sym}
use Rattle.qw_ast.specs.ScriptGrammar.{is_name}
use Rattle.qw_token.specs.Token.{lexeme}
use Rattle.qw_parse.specs.Inner.Parser.{left}
use Rattle.qw_parse.proofs.ReadLemmas.{octets_gone, octets_there}
use Rattle.qw_parse.proofs.read.parser.Parser.name.Goals as goal

pub returns-then-not-is_name-clause-found : goal.returns-then-not-is_name-clause-found
returns-then-not-is_name-clause-found c = octets_gone is_name (left c.args.self.now) (lexeme c.in-Some.token) c.in-Some.ensures (sym c.if-not-is_name.ensures)

pub returns-clause-found : goal.returns-clause-found
returns-clause-found c = rw c.skip.ensures (octets_there is_name (left c.args.self.now) (lexeme c.in-Some.token) c.in-Some.ensures (sym c.if-not-is_name.ensures))
