-- What the private functions of `raise.rt` know of an expression.
use Rattle.std.specs.Prelude.{◌≡◌, ◌≤◌}
use Rattle.qw_scalar.specs.Expression.{Expression, scale_of}
use Rattle.qw_raise.specs.Raise.{can_raise, greatest, magnitude}
use Rattle.qw_raise.specs.declared.raise.Known.{Known}

pub record IsKnown (known : Known) (e : Expression) : Type 0 where
  pub scale : known.scale ≡ scale_of e
  pub magnitude : known.magnitude ≡ magnitude e
  pub raises : known.raises ≡ can_raise e
  pub scale_bound : known.scale ≤ 18
  pub magnitude_bound : known.magnitude ≤ greatest
