use Rattle.std.proofs.Common.{sym, map, option_map}
use Rattle.qw_ast.specs.Grammar.{folded}
use Rattle.qw_token.specs.Token.{lexemes}
use Rattle.qw_schema.specs.Inner.Tables.{read_of}
use Rattle.qw_schema.proofs.TableLemmas.{create_table_none, create_table_is}
use Rattle.qw_schema.proofs.parse.table.create_table.Goals as goal

pub returns-in_default : goal.returns-in_default
returns-in_default c = sym (create_table_none (lexemes c.args.tokens.now) (sym c.in_default.ensures))

pub returns-in_default-2 : goal.returns-in_default-2
returns-in_default-2 c =
    rw c.in_default-2.is at
    (create_table_is (lexemes c.args.tokens.now) (lexemes c.in-Some.rest.now) (folded c.in-Some.table.now) (option_map (λ x. map read_of x.items) c.in_ok-columns.field-0) (sym c.in-Some.ensures) c.in_ok-columns.ensures)

pub returns : goal.returns
returns c =
    let read =
    rw c.in-Some-2.is at
    (create_table_is (lexemes c.args.tokens.now) (lexemes c.in-Some.rest.now) (folded c.in-Some.table.now) (option_map (λ x. map read_of x.items) c.in_ok-columns.field-0) (sym c.in-Some.ensures) c.in_ok-columns.ensures) in
    rw c.in_ok-folded_text.ensures read
