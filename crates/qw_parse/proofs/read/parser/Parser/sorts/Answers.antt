use Rattle.std.proofs.Common.{map, refl}
use Rattle.std.specs.Prelude.{codes}
use Rattle.std.proofs.lemmas.Result.{err_from_is_err_and}
use Rattle.qw_ast.specs.ScriptGrammar.{is_comma, is_symbol}
use Rattle.qw_ast.specs.SyntaxTree.{sort_of}
use Rattle.qw_parse.specs.Inner.Parser.{left}
use Rattle.qw_parse.specs.Inner.Readers.{append, further_at, sort_at, token_at}
use Rattle.qw_parse.proofs.TokenLemmas.{token_shortens}
use Rattle.qw_parse.proofs.ReadLemmas.{further_start, going_down, going_end, going_stop, sort_shortens, list_on, sign_gone, sign_there}
use Rattle.qw_parse.proofs.read.parser.Parser.sorts.Goals as goal

pub sorts-init : goal.sorts-init
sorts-init c = rw c.new-sorts.ensures.items (further_start sort_at (left c.args.self.now))

pub sorts-preserved : goal.sorts-preserved
sorts-preserved c =
    list_on sort_of (token_at is_comma) sort_at (token_shortens is_comma) sort_shortens (further_at sort_at (left c.args.self.now))
    c.sorts.sorts.items c.push.new.list.items _ tt (left c.sorts.self) (left c.symbol.new.self) (left c.sort.new.self)
    c.sorts.invariant c.in_ok-push.ensures (sign_there (is_symbol (codes ",")) (left c.sorts.self) (left c.symbol.new.self) c.sorts-test.ensures.found) c.in_ok-sort.ensures

pub sorts-smaller : goal.sorts-smaller
sorts-smaller c =
    going_down (token_at is_comma) sort_at append (token_shortens is_comma) sort_shortens tt _ (left c.sorts.self) (left c.symbol.new.self) (left c.sort.new.self)
    (sign_there (is_symbol (codes ",")) (left c.sorts.self) (left c.symbol.new.self) c.sorts-test.ensures.found) c.in_ok-sort.ensures

pub returns-in_err-sort : goal.returns-in_err-sort
returns-in_err-sort c =
    let err = err_from_is_err_and c.from_residual.result c.from_residual.ensures.1 in
    rw (err.1, err.2)
    (λ more. going_stop (token_at is_comma) sort_at append (further_at sort_at (left c.args.self.now)) (map sort_of c.sorts.sorts.items) (left c.sorts.self) c.sorts.invariant
    tt (left c.symbol.new.self) (sign_there (is_symbol (codes ",")) (left c.sorts.self) (left c.symbol.new.self) c.sorts-test.ensures.found) (c.in_err-sort.ensures more))

pub returns : goal.returns
returns c =
    rw (c.sorts-test.ensures.kept refl)
    (going_end (token_at is_comma) sort_at append (further_at sort_at (left c.args.self.now)) (map sort_of c.sorts.sorts.items) (left c.sorts.self) c.sorts.invariant
    (sign_gone (is_symbol (codes ",")) (left c.sorts.self) c.sorts-test.ensures.found))
