use Rattle.qw_csv.proofs.PartLaws.{same_first_part}
use Rattle.qw_csv.proofs.part_laws.one_first_fault_of_parts.Goals as goal

pub returns : goal.returns
returns c table null parts part other a b h k = same_first_part table null parts part other a b h k
