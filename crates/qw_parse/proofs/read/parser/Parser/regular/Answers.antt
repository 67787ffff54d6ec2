use Rattle.std.proofs.Common.{sym}
use Rattle.qw_token.specs.Token.{lexeme}
use Rattle.qw_ast.specs.ScriptGrammar.{is_regular}
use Rattle.qw_parse.specs.Inner.Parser.{left}
use Rattle.qw_parse.proofs.ReadLemmas.{octets_gone, octets_there}
use Rattle.qw_parse.proofs.read.parser.Parser.regular.Goals as goal

pub returns-then-not-is_regular : goal.returns-then-not-is_regular
returns-then-not-is_regular c = λ _. octets_gone is_regular (left c.args.self.now) (lexeme c.in-Some.token) c.in-Some.ensures (sym c.if-not-is_regular.ensures)

pub returns : goal.returns
returns c = rw c.skip.ensures (octets_there is_regular (left c.args.self.now) (lexeme c.in-Some.token) c.in-Some.ensures (sym c.if-not-is_regular.ensures))
