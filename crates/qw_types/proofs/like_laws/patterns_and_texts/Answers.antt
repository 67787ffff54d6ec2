use Rattle.std.proofs.Common.{◌≡◌, true, false, [], ◌∷◌, refl}
use Rattle.std.specs.Str.{chars}
use Rattle.qw_types.specs.Like.{is_like}
use Rattle.qw_types.proofs.like_laws.patterns_and_texts.Goals as goal

-- `_`, `__` and `é%` of é and én, by octets
one : is_like (95 ∷ []) (195 ∷ 169 ∷ []) ≡ true
unfolding chars
one = refl

two : is_like (95 ∷ 95 ∷ []) (195 ∷ 169 ∷ []) ≡ false
unfolding chars
two = refl

begun : is_like (195 ∷ 169 ∷ 37 ∷ []) (195 ∷ 169 ∷ 110 ∷ []) ≡ true
unfolding chars
begun = refl

pub returns-clause-octets : goal.returns-clause-octets
returns-clause-octets c = (one, two, begun)
