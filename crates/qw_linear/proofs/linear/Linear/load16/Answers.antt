use Rattle.std.proofs.Common.{w16, refl, ◌∙◌}
use Rattle.qw_linear.proofs.StoreFacts.{loaded-octets}
use Rattle.qw_linear.proofs.linear.Linear.load16.Goals as goal

pub returns-clause-loaded : goal.returns-clause-loaded
returns-clause-loaded c =
    loaded-octets w16 _ _ c.args.at 1 _ refl (c.in_ok-chunk.ensures.inside.0 refl) c.in_ok-chunk.ensures.octets (c.from.ensures ∙ c.from_le_bytes.ensures)
