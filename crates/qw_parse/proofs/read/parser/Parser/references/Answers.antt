use Rattle.std.proofs.Common.{map, refl}
use Rattle.std.specs.Prelude.{codes}
use Rattle.std.proofs.lemmas.Result.{err_from_is_err_and}
use Rattle.qw_ast.specs.ScriptGrammar.{is_comma, is_symbol}
use Rattle.qw_ast.specs.SyntaxTree.{reference_of}
use Rattle.qw_parse.specs.Inner.Parser.{left}
use Rattle.qw_parse.specs.Inner.Readers.{append, further_at, reference_at, token_at}
use Rattle.qw_parse.proofs.TokenLemmas.{token_shortens}
use Rattle.qw_parse.proofs.ReadLemmas.{further_start, going_down, going_end, going_stop, reference_shortens, list_on, sign_gone, sign_there}
use Rattle.qw_parse.proofs.read.parser.Parser.references.Goals as goal

pub references-init : goal.references-init
references-init c = rw c.new-references.ensures.items (further_start reference_at (left c.args.self.now))

pub references-preserved : goal.references-preserved
references-preserved c =
    list_on reference_of (token_at is_comma) reference_at (token_shortens is_comma) reference_shortens (further_at reference_at (left c.args.self.now))
    c.references.references.items c.push.new.list.items _ tt (left c.references.self) (left c.symbol.new.self) (left c.reference.new.self)
    c.references.invariant c.in_ok-push.ensures (sign_there (is_symbol (codes ",")) (left c.references.self) (left c.symbol.new.self) c.references-test.ensures.found) c.in_ok-reference.ensures

pub references-smaller : goal.references-smaller
references-smaller c =
    going_down (token_at is_comma) reference_at append (token_shortens is_comma) reference_shortens tt _ (left c.references.self) (left c.symbol.new.self) (left c.reference.new.self)
    (sign_there (is_symbol (codes ",")) (left c.references.self) (left c.symbol.new.self) c.references-test.ensures.found) c.in_ok-reference.ensures

pub returns-in_err-reference : goal.returns-in_err-reference
returns-in_err-reference c =
    let err = err_from_is_err_and c.from_residual.result c.from_residual.ensures.1 in
    rw (err.1, err.2)
    (λ more. going_stop (token_at is_comma) reference_at append (further_at reference_at (left c.args.self.now)) (map reference_of c.references.references.items) (left c.references.self) c.references.invariant
    tt (left c.symbol.new.self) (sign_there (is_symbol (codes ",")) (left c.references.self) (left c.symbol.new.self) c.references-test.ensures.found) (c.in_err-reference.ensures more))

pub returns : goal.returns
returns c =
    rw (c.references-test.ensures.kept refl)
    (going_end (token_at is_comma) reference_at append (further_at reference_at (left c.args.self.now)) (map reference_of c.references.references.items) (left c.references.self) c.references.invariant
    (sign_gone (is_symbol (codes ",")) (left c.references.self) c.references-test.ensures.found))
