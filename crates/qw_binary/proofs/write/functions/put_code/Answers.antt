use Rattle.std.proofs.Common.{sym, subst}
use Rattle.std.proofs.lemmas.Result.{err_from_is_err_and}
use Rattle.qw_octet_grammar.specs.Grammar.{Spells}
use Rattle.qw_binary.specs.Contents.{function_contents}
use Rattle.qw_binary.specs.Sections.{locals}
use Rattle.qw_binary.proofs.Refusals.{code_parts}
use Rattle.qw_binary.proofs.write.functions.put_code.Goals as goal

pub returns-in_err-put_locals-clause-refused : goal.returns-in_err-put_locals-clause-refused
returns-in_err-put_locals-clause-refused c =
    let p = err_from_is_err_and c.from_residual.result c.from_residual.ensures.1 in
    rw (p.1, p.2) (λ e type_index text s.
    let parts = code_parts type_index (function_contents c.args.function.now) text s in
    c.in_err-put_locals.ensures.refused e parts.locals_text (subst (λ runs. Spells locals runs parts.locals_text) (sym c.deref.ensures.value) parts.locals_spelled))

pub returns-in_err-put_expression-clause-refused : goal.returns-in_err-put_expression-clause-refused
returns-in_err-put_expression-clause-refused c =
    let p = err_from_is_err_and c.from_residual-in_err-put_expression.result c.from_residual-in_err-put_expression.ensures.1 in
    rw (p.1, p.2) (λ e type_index text s.
    let parts = code_parts type_index (function_contents c.args.function.now) text s in
    c.in_err-put_expression.ensures.refused e parts.body_text parts.body_spelled)
