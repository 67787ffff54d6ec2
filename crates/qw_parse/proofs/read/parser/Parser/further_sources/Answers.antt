use Rattle.std.proofs.Common.{map, refl}
use Rattle.std.specs.Prelude.{codes}
use Rattle.std.proofs.lemmas.Result.{err_from_is_err_and}
use Rattle.qw_ast.specs.ScriptGrammar.{is_comma, is_symbol}
use Rattle.qw_ast.specs.SyntaxTree.{source_of}
use Rattle.qw_parse.specs.Inner.Parser.{left}
use Rattle.qw_parse.specs.Inner.Readers.{append, further_at, source_at, nested_at, token_at}
use Rattle.qw_parse.proofs.TokenLemmas.{token_shortens}
use Rattle.qw_parse.proofs.ReadLemmas.{further_start, going_down, going_end, going_stop, source_shortens, list_on, sign_gone, sign_there}
use Rattle.qw_parse.proofs.read.parser.Parser.further_sources.Goals as goal

pub sources-init : goal.sources-init
sources-init c = rw c.new-sources.ensures.items (further_start (source_at (nested_at 33)) (left c.args.self.now))

pub sources-preserved : goal.sources-preserved
sources-preserved c =
    list_on source_of (token_at is_comma) (source_at (nested_at 33)) (token_shortens is_comma) (source_shortens 33) (further_at (source_at (nested_at 33)) (left c.args.self.now))
    c.sources.sources.items c.push.new.list.items _ tt (left c.sources.self) (left c.symbol.new.self) (left c.source.new.self)
    c.sources.invariant c.in_ok-push.ensures (sign_there (is_symbol (codes ",")) (left c.sources.self) (left c.symbol.new.self) c.sources-test.ensures.found) c.in_ok-source.ensures

pub sources-smaller : goal.sources-smaller
sources-smaller c =
    going_down (token_at is_comma) (source_at (nested_at 33)) append (token_shortens is_comma) (source_shortens 33) tt _ (left c.sources.self) (left c.symbol.new.self) (left c.source.new.self)
    (sign_there (is_symbol (codes ",")) (left c.sources.self) (left c.symbol.new.self) c.sources-test.ensures.found) c.in_ok-source.ensures

pub returns-in_err-source : goal.returns-in_err-source
returns-in_err-source c =
    let err = err_from_is_err_and c.from_residual.result c.from_residual.ensures.1 in
    rw (err.1, err.2)
    (λ more. going_stop (token_at is_comma) (source_at (nested_at 33)) append (further_at (source_at (nested_at 33)) (left c.args.self.now)) (map source_of c.sources.sources.items) (left c.sources.self) c.sources.invariant
    tt (left c.symbol.new.self) (sign_there (is_symbol (codes ",")) (left c.sources.self) (left c.symbol.new.self) c.sources-test.ensures.found) (c.in_err-source.ensures more))

pub returns : goal.returns
returns c =
    rw (c.sources-test.ensures.kept refl)
    (going_end (token_at is_comma) (source_at (nested_at 33)) append (further_at (source_at (nested_at 33)) (left c.args.self.now)) (map source_of c.sources.sources.items) (left c.sources.self) c.sources.invariant
    (sign_gone (is_symbol (codes ",")) (left c.sources.self) c.sources-test.ensures.found))
