use Rattle.qw_csv.proofs.PartLaws.{parts_or_fail}
use Rattle.qw_csv.proofs.part_laws.no_fault_beside_rows_of_parts.Goals as goal

pub returns : goal.returns
returns c table null parts rows part why h k = parts_or_fail table null parts rows part why h k
