use Rattle.qw_csv.proofs.LoadingLaws.{same_fault}
use Rattle.qw_csv.proofs.loading.one_first_fault.Goals as goal

pub returns : goal.returns
returns c table bytes a b h k = same_fault table bytes a b h k
