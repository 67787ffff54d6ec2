use Rattle.std.proofs.Common.{sym, arith}
use Rattle.std.proofs.lemmas.List.{length-map}
use Rattle.qw_token.specs.Token.{lexemes}
use Rattle.qw_schema.specs.Inner.Tables.{read_of}
use Rattle.qw_schema.specs.Inner.Written.{definition_read}
use Rattle.qw_schema.proofs.JudgeLemmas.{sized_columns_read, some_columns_read}
use Rattle.qw_schema.proofs.parse.declare.judged.Goals as goal

pub checked-requires : goal.checked-requires
checked-requires c =
    let d = c.in-Some.definition in
    let found = rw c.in-Some.is at c.in_ok-definition.ensures in
    record {
      some = omega (arith, some_columns_read (lexemes c.args.tokens.now) (definition_read d) (sym found), length-map d.columns.items read_of);
      sized = sized_columns_read (lexemes c.args.tokens.now) (definition_read d) (sym found);
    }
