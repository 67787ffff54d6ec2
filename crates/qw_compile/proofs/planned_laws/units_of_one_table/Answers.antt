use Rattle.qw_compile.proofs.OneTable.{units_at_scan, units_without_texts}
use Rattle.qw_compile.proofs.planned_laws.units_of_one_table.Goals as goal

pub returns-clause-at_scan : goal.returns-clause-at_scan
returns-clause-at_scan c = units_at_scan

pub returns-clause-no_texts : goal.returns-clause-no_texts
returns-clause-no_texts c = units_without_texts
