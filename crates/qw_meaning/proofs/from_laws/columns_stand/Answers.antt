use Rattle.std.proofs.Common.{refl}
use Rattle.qw_meaning.proofs.FromLemmas.{of_first, of_second}
use Rattle.qw_meaning.proofs.from_laws.columns_stand.Goals as goal

pub returns : goal.returns
returns c = record { first = of_first; second = of_second; alone = λ row i. refl }
