-- When two query specifications mean the same, conjunct by conjunct and item by item (ISO/IEC 9075:1992, 7.9).
use Rattle.std.specs.Prelude.{◌≡◌}
use Rattle.std.specs.List.{AllZip}
use Rattle.qw_scalar.specs.Same.{AreSame, IsSame}
use Rattle.qw_meaning.specs.Select.{Specification}

-- FROM is the same; each conjunct and each item means the same as the other's in its place.
pub record MeansTheSame (query other : Specification) : Type 0 where
  pub sources : query.sources ≡ other.sources
  pub conjuncts : AllZip AreSame query.conjuncts other.conjuncts
  pub items : AllZip IsSame query.items other.items
