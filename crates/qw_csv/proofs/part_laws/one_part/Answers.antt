use Rattle.qw_csv.proofs.PartLaws.{fails_only, first_only, loads_part, part_fails, part_loads}
use Rattle.qw_csv.proofs.part_laws.one_part.Goals as goal

pub returns-clause-rows : goal.returns-clause-rows
returns-clause-rows c table bytes rows = (part_loads table bytes rows, loads_part table bytes rows)

pub returns-clause-fault : goal.returns-clause-fault
returns-clause-fault c table bytes why = (part_fails table bytes why, fails_only table bytes why)

pub returns-clause-first : goal.returns-clause-first
returns-clause-first c table bytes part why h = first_only table bytes part why h
