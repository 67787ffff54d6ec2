use Rattle.qw_csv.proofs.LoadingLaws.{loads_or_fails}
use Rattle.qw_csv.proofs.loading.no_fault_beside_rows.Goals as goal

pub returns : goal.returns
returns c table bytes rows e h k = loads_or_fails table bytes rows e h k
