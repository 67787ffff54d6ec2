use Rattle.std.proofs.Common.{map, refl}
use Rattle.std.specs.Prelude.{codes}
use Rattle.std.proofs.lemmas.Result.{err_from_is_err_and}
use Rattle.qw_ast.specs.ScriptGrammar.{is_comma, is_symbol}
use Rattle.qw_ast.specs.SyntaxTree.{item_of}
use Rattle.qw_parse.specs.Inner.Parser.{left}
use Rattle.qw_parse.specs.Inner.Readers.{append, further_at, item_at, nested_at, token_at}
use Rattle.qw_parse.proofs.TokenLemmas.{token_shortens}
use Rattle.qw_parse.proofs.ReadLemmas.{further_start, going_down, going_end, going_stop, item_shortens, list_on, sign_gone, sign_there}
use Rattle.qw_parse.proofs.read.parser.Parser.items.Goals as goal

pub items-init : goal.items-init
items-init c = rw c.new-items.ensures.items (further_start (item_at (nested_at 33)) (left c.args.self.now))

pub items-preserved : goal.items-preserved
items-preserved c =
    list_on item_of (token_at is_comma) (item_at (nested_at 33)) (token_shortens is_comma) (item_shortens 33) (further_at (item_at (nested_at 33)) (left c.args.self.now))
    c.items.items.items c.push.new.list.items _ tt (left c.items.self) (left c.symbol.new.self) (left c.item.new.self)
    c.items.invariant c.in_ok-push.ensures (sign_there (is_symbol (codes ",")) (left c.items.self) (left c.symbol.new.self) c.items-test.ensures.found) c.in_ok-item.ensures

pub items-smaller : goal.items-smaller
items-smaller c =
    going_down (token_at is_comma) (item_at (nested_at 33)) append (token_shortens is_comma) (item_shortens 33) tt _ (left c.items.self) (left c.symbol.new.self) (left c.item.new.self)
    (sign_there (is_symbol (codes ",")) (left c.items.self) (left c.symbol.new.self) c.items-test.ensures.found) c.in_ok-item.ensures

pub returns-in_err-item : goal.returns-in_err-item
returns-in_err-item c =
    let err = err_from_is_err_and c.from_residual.result c.from_residual.ensures.1 in
    rw (err.1, err.2)
    (λ more. going_stop (token_at is_comma) (item_at (nested_at 33)) append (further_at (item_at (nested_at 33)) (left c.args.self.now)) (map item_of c.items.items.items) (left c.items.self) c.items.invariant
    tt (left c.symbol.new.self) (sign_there (is_symbol (codes ",")) (left c.items.self) (left c.symbol.new.self) c.items-test.ensures.found) (c.in_err-item.ensures more))

pub returns : goal.returns
returns c =
    rw (c.items-test.ensures.kept refl)
    (going_end (token_at is_comma) (item_at (nested_at 33)) append (further_at (item_at (nested_at 33)) (left c.args.self.now)) (map item_of c.items.items.items) (left c.items.self) c.items.invariant
    (sign_gone (is_symbol (codes ",")) (left c.items.self) c.items-test.ensures.found))
