use Rattle.std.proofs.Common.{sym, arith, inr}
use Rattle.std.proofs.lemmas.Bool.{eqb-true}
use Rattle.std.proofs.lemmas.Result.{err_from_is_err_and}
use Rattle.qw_token.specs.Token.{lexemes}
use Rattle.qw_schema.proofs.SchemaLemmas.{tokens_refused, many_refused, none_refused, fault_refused, tables_declared, ReadsSchema-tables, some_left}
use Rattle.qw_schema.proofs.parse.schema_of.Goals as goal

pub returns-in_err-tokens-clause-refused : goal.returns-in_err-tokens-clause-refused
returns-in_err-tokens-clause-refused c =
    let p = err_from_is_err_and c.from_residual.result c.from_residual.ensures.1 in
    rw (p.1, p.2) (tokens_refused c.args.text.now c.in_err-tokens.field-0.0 c.in_err-tokens.ensures.not_utf8.0 c.in_err-tokens.ensures.not_token)

pub returns-then-len-gt-MAX_TABLES-clause-refused : goal.returns-then-len-gt-MAX_TABLES-clause-refused
returns-then-len-gt-MAX_TABLES-clause-refused c =
    let split = rw c.deref.ensures.value at c.in_ok-statements.ensures in
    inr (many_refused c.args.text.now (lexemes c.in_ok-tokens.tokens.items) c.in_ok-statements.statements.items c.in_ok-tokens.ensures.read split (omega (arith, c.if-len-gt-MAX_TABLES.true, c.len.ensures)))

pub returns-then-is_empty-clause-refused : goal.returns-then-is_empty-clause-refused
returns-then-is_empty-clause-refused c =
    let split = rw c.deref.ensures.value at c.in_ok-statements.ensures in
    inr (none_refused c.args.text.now (lexemes c.in_ok-tokens.tokens.items) c.in_ok-statements.statements.items c.in_ok-tokens.ensures.read split (omega (arith, eqb-true _ 0 (sym c.if-is_empty.ensures))))

pub returns-in_err-tables-clause-refused : goal.returns-in_err-tables-clause-refused
returns-in_err-tables-clause-refused c =
    let p = err_from_is_err_and c.from_residual-in_err-tables.result c.from_residual-in_err-tables.ensures.1 in
    let split = rw c.deref.ensures.value at c.in_ok-statements.ensures in
    let fault = rw c.deref-2.ensures.value at c.in_err-tables.ensures.fault in
    rw (p.1, p.2) (fault_refused c.args.text.now (lexemes c.in_ok-tokens.tokens.items) c.in_ok-statements.statements.items c.in_err-tables.field-0.0 c.in_ok-tokens.ensures.read split (omega (arith, c.if-len-gt-MAX_TABLES.false, c.len.ensures)) fault)

pub new-requires : goal.new-requires
new-requires c =
    let split = rw c.deref.ensures.value at c.in_ok-statements.ensures in
    let judged = rw c.deref-2.ensures.value at c.in_ok-tables.ensures.tables in
    let reads = tables_declared c.args.text.now (lexemes c.in_ok-tokens.tokens.items) c.in_ok-statements.statements.items c.in_ok-tables.tables.items c.in_ok-tokens.ensures.read split (omega (arith, c.if-len-gt-MAX_TABLES.false, c.len.ensures)) (omega (arith, some_left _ c.if-is_empty.ensures)) judged in
    ReadsSchema-tables c.args.text.now c.in_ok-tables.tables.items reads

pub returns-clause-read : goal.returns-clause-read
returns-clause-read c =
    let split = rw c.deref.ensures.value at c.in_ok-statements.ensures in
    let judged = rw c.deref-2.ensures.value at c.in_ok-tables.ensures.tables in
    let reads = tables_declared c.args.text.now (lexemes c.in_ok-tokens.tokens.items) c.in_ok-statements.statements.items c.in_ok-tables.tables.items c.in_ok-tokens.ensures.read split (omega (arith, c.if-len-gt-MAX_TABLES.false, c.len.ensures)) (omega (arith, some_left _ c.if-is_empty.ensures)) judged in
    rw c.new.ensures reads
