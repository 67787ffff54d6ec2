use Rattle.std.proofs.Common.{map, refl}
use Rattle.std.specs.Prelude.{codes}
use Rattle.std.proofs.lemmas.Result.{err_from_is_err_and}
use Rattle.qw_ast.specs.ScriptGrammar.{is_comma, is_symbol}
use Rattle.qw_ast.specs.SyntaxTree.{expression_of}
use Rattle.qw_parse.specs.Inner.Parser.{left}
use Rattle.qw_parse.specs.Inner.Readers.{append, expression_at, further_at, nested_at, token_at}
use Rattle.qw_parse.proofs.TokenLemmas.{token_shortens}
use Rattle.qw_parse.proofs.ReadLemmas.{expression_shortens, further_start, going_down, going_end, going_stop, list_on, sign_gone, sign_there}
use Rattle.qw_parse.proofs.read.rules.Rules.further.Goals as goal

pub items-init : goal.items-init
items-init g c = rw c.new-expressions.ensures.items (further_start (expression_at (nested_at c.args.self.now.levels)) (left c.args.parser.now))

pub items-preserved : goal.items-preserved
items-preserved g c =
    list_on expression_of (token_at is_comma) (expression_at (nested_at c.args.self.now.levels)) (token_shortens is_comma) (expression_shortens c.args.self.now.levels) (further_at (expression_at (nested_at c.args.self.now.levels)) (left c.args.parser.now))
    c.items.expressions.items c.push.new.list.items _ tt (left c.items.parser) (left c.symbol.new.self) (left c.expression.new.parser)
    c.items.invariant c.in_ok-push.ensures (sign_there (is_symbol (codes ",")) (left c.items.parser) (left c.symbol.new.self) c.items-test.ensures.found) c.in_ok-expression.ensures

pub items-smaller : goal.items-smaller
items-smaller g c =
    going_down (token_at is_comma) (expression_at (nested_at c.args.self.now.levels)) append (token_shortens is_comma) (expression_shortens c.args.self.now.levels) tt _ (left c.items.parser) (left c.symbol.new.self) (left c.expression.new.parser)
    (sign_there (is_symbol (codes ",")) (left c.items.parser) (left c.symbol.new.self) c.items-test.ensures.found) c.in_ok-expression.ensures

pub returns-in_err-expression : goal.returns-in_err-expression
returns-in_err-expression g c =
    let err = err_from_is_err_and c.from_residual.result c.from_residual.ensures.1 in
    rw (err.1, err.2)
    (λ more. going_stop (token_at is_comma) (expression_at (nested_at c.args.self.now.levels)) append (further_at (expression_at (nested_at c.args.self.now.levels)) (left c.args.parser.now)) (map expression_of c.items.expressions.items) (left c.items.parser) c.items.invariant
    tt (left c.symbol.new.self) (sign_there (is_symbol (codes ",")) (left c.items.parser) (left c.symbol.new.self) c.items-test.ensures.found) (c.in_err-expression.ensures more))

pub returns : goal.returns
returns g c =
    rw (c.items-test.ensures.kept refl)
    (going_end (token_at is_comma) (expression_at (nested_at c.args.self.now.levels)) append (further_at (expression_at (nested_at c.args.self.now.levels)) (left c.args.parser.now)) (map expression_of c.items.expressions.items) (left c.items.parser) c.items.invariant
    (sign_gone (is_symbol (codes ",")) (left c.items.parser) c.items-test.ensures.found))
