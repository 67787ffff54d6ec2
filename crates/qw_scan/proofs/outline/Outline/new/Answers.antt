use Rattle.std.proofs.Common.{refl}
use Rattle.qw_scan.specs.Inner.Outlines.{values_at, IsThere}
use Rattle.qw_scan.proofs.outline.Outline.new.Goals as goal

pub returns-clause-sections : goal.returns-clause-sections
unfolding values_at
returns-clause-sections c = λ whole. refl

pub returns-clause-outline : goal.returns-clause-outline
unfolding values_at IsThere
returns-clause-outline c =
    λ whole. record { own = refl; coded = tt; types = tt; imports = tt; indices = tt; memories = tt; globals = tt; exports = tt; codes = tt }
