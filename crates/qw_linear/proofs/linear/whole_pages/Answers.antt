use Rattle.std.proofs.Common.{◌<◌, arith}
use Rattle.std.proofs.lemmas.List.Elements.{All-from_get_or}
use Rattle.qw_linear.proofs.linear.whole_pages.Goals as goal

pub returns-clause-octets : goal.returns-clause-octets
returns-clause-octets c = All-from_get_or (λ octet. octet < 256) c.args.octets.now 0 (λ k h. omega (arith, c.type_inv.octets k))
