use Rattle.std.proofs.Common.{refl}
use Rattle.qw_ast.specs.SchemaGrammar.{exceeds, statements}
use Rattle.qw_schema.specs.Inner.Parser.{further_within, list_at, regular_at, terminal_at, token_at}
use Rattle.qw_schema.specs.Inner.Tables.{column_at, create_table_at, decimal_at, identifier_at, nullability_at, number_at, scale_at, table_at, type_at, type_word_at, varchar_at}
use Rattle.qw_schema.proofs.SchemaLemmas.{judged_first_fault}
use Rattle.qw_schema.proofs.worked_laws.worked_order.Goals as goal

pub returns : goal.returns
unfolding exceeds statements type_word_at identifier_at number_at scale_at decimal_at varchar_at type_at nullability_at column_at table_at create_table_at terminal_at token_at further_within list_at regular_at
returns c = record {
  first = judged_first_fault 1 _ _ refl;
  second = judged_first_fault 1 _ _ refl;
}
