use Rattle.std.proofs.Common.{w64, refl}
use Rattle.qw_linear.proofs.StoreFacts.{loaded-octets}
use Rattle.qw_linear.proofs.linear.Linear.load64.Goals as goal

pub returns-clause-loaded : goal.returns-clause-loaded
returns-clause-loaded c =
    loaded-octets w64 _ _ c.args.at 7 _ refl (c.in_ok-chunk.ensures.inside.0 refl) c.in_ok-chunk.ensures.octets c.from_le_bytes.ensures
