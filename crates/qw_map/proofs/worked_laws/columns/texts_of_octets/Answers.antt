use Rattle.std.proofs.Common.{refl}
use Rattle.qw_linear.specs.Memory.{number_at}
use Rattle.qw_map.proofs.worked_laws.columns.texts_of_octets.Goals as goal

pub returns : goal.returns
unfolding number_at
returns c = λ placed memory placed_is memory_is. rw (placed_is, memory_is) (refl, refl, refl)
