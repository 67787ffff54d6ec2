use Rattle.qw_csv.proofs.PartLaws.{same_loads_parts}
use Rattle.qw_csv.proofs.part_laws.one_list_of_rows_of_parts.Goals as goal

pub returns : goal.returns
returns c table null parts a b h k = same_loads_parts table null parts a b h k
