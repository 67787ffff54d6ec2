use Rattle.qw_top.proofs.PlainLemmas.{fault_plain, long_plain, plain_fault, plain_long, plain_rows, rows_plain}
use Rattle.qw_top.proofs.top.plain_tables.Goals as goal

pub returns-clause-rows : goal.returns-clause-rows
returns-clause-rows c files schema folder queries table contents = (plain_rows files schema folder queries table contents, rows_plain files schema folder queries table contents)

pub returns-clause-too_long : goal.returns-clause-too_long
returns-clause-too_long c files schema folder queries table part = (plain_long files schema folder queries table part, long_plain files schema folder queries table part)

pub returns-clause-fault : goal.returns-clause-fault
returns-clause-fault c files schema folder queries table part fault = (plain_fault files schema folder queries table part fault, fault_plain files schema folder queries table part fault)
