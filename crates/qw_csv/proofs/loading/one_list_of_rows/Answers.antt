use Rattle.qw_csv.proofs.LoadingLaws.{same_loads}
use Rattle.qw_csv.proofs.loading.one_list_of_rows.Goals as goal

pub returns : goal.returns
returns c table bytes a b h k = same_loads table bytes a b h k
