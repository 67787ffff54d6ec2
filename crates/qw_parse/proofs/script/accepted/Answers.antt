use Rattle.std.proofs.Common.{sym, inr}
use Rattle.std.proofs.lemmas.Result.{err_from_is_err_and}
use Rattle.qw_token.specs.Token.{lexemes}
use Rattle.qw_ast.specs.SyntaxTree.{select_of}
use Rattle.qw_parse.proofs.AcceptLemmas.{deep_fault, grammar_fault, limit_fault, accepted_is}
use Rattle.qw_parse.proofs.script.accepted.Goals as goal

pub returns-then-is_too_deep-clause-refused : goal.returns-then-is_too_deep-clause-refused
returns-then-is_too_deep-clause-refused c = inr (deep_fault c.args.statement (lexemes c.args.tokens.now) (sym c.if-is_too_deep.ensures))

pub returns-in_err-within_limits-in-Ok-clause-refused : goal.returns-in_err-within_limits-in-Ok-clause-refused
returns-in_err-within_limits-in-Ok-clause-refused c =
    let p = err_from_is_err_and c.from_residual.result c.from_residual.ensures.1 in
    rw (p.1, p.2)
    (inr (limit_fault c.args.statement (lexemes c.args.tokens.now) (select_of c.in-Ok.query) c.in_err-within_limits-in-Ok.field-0.0 c.if-is_too_deep.ensures c.in-Ok.ensures c.in_err-within_limits-in-Ok.ensures.passed))

pub returns-in_ok-within_limits-in-Ok-clause-accepted : goal.returns-in_ok-within_limits-in-Ok-clause-accepted
returns-in_ok-within_limits-in-Ok-clause-accepted c =
    accepted_is (lexemes c.args.tokens.now) (select_of c.in-Ok.query) c.if-is_too_deep.ensures c.in-Ok.ensures c.in_ok-within_limits-in-Ok.ensures.kept

pub returns-in-Err-NotGrammar-clause-refused : goal.returns-in-Err-NotGrammar-clause-refused
returns-in-Err-NotGrammar-clause-refused c =
    let told = rw c.in-Err-NotGrammar.field-0-is at c.in-Err-NotGrammar.ensures in
    inr (grammar_fault c.args.statement (lexemes c.args.tokens.now) c.if-is_too_deep.ensures (told (λ e. cc)))
