use Rattle.qw_grouped.proofs.TypedGroups.{table_typed}
use Rattle.qw_grouped.proofs.group_laws.grouped_rows_are_typed.Goals as goal

pub returns : goal.returns
returns c = λ query rows typed h few. table_typed query typed rows h few
