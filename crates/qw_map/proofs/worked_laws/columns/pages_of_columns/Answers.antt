use Rattle.std.proofs.Common.{arith}
use Rattle.qw_map.proofs.WorkedColumns.{tables-end-is}
use Rattle.qw_map.proofs.worked_laws.columns.pages_of_columns.Goals as goal

pub returns-clause-million : goal.returns-clause-million
returns-clause-million c = λ table loaded columns rows. let end = tables-end-is 64 table loaded columns in (omega (arith, end, rows), omega (arith, end, rows))

pub returns-clause-full : goal.returns-clause-full
returns-clause-full c = λ table loaded columns rows. let end = tables-end-is 1 table loaded columns in omega (arith, end, rows)

pub returns-clause-two : goal.returns-clause-two
returns-clause-two c = λ table loaded columns rows. let end = tables-end-is 1 table loaded columns in omega (arith, end, rows)
