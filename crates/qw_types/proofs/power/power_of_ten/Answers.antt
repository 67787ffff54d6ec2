use Rattle.std.proofs.Common.{ℕ, List, [], ◌∷◌, refl, arith}
use Rattle.qw_types.proofs.PowerLemmas.{are_powers, power_at}
use Rattle.qw_types.proofs.power.power_of_ten.Goals as goal

abbrev table : List ℕ
table = 1 ∷ 10 ∷ 100 ∷ 1000 ∷ 10000 ∷ 100000 ∷ 1000000 ∷ 10000000 ∷ 100000000 ∷ 1000000000 ∷ 10000000000 ∷ 100000000000 ∷ 1000000000000 ∷ 10000000000000 ∷ 100000000000000 ∷ 1000000000000000 ∷ 10000000000000000 ∷ 100000000000000000 ∷ 1000000000000000000 ∷ []

pub returns : goal.returns
unfolding are_powers
returns c = power_at table c.args.exponent refl (omega (arith, c.requires))
