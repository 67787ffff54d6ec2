use Rattle.std.proofs.Common.{rules}
use Rattle.qw_expr.proofs.BoundsStay.{product_stays}
use Rattle.qw_expr.proofs.bounds.Bounds.multiplied.Goals as goal

pub returns : goal.returns
returns c = product_stays c.args.self.scale c.args.self.most c.args.other.scale c.args.other.most c.in_ok-most.most (search rules) (c.in_ok-most.ensures.few)
