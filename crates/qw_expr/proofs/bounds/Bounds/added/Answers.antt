use Rattle.std.proofs.Common.{rules}
use Rattle.qw_expr.proofs.BoundsStay.{sum_stays}
use Rattle.qw_expr.proofs.bounds.Bounds.added.Goals as goal

pub returns : goal.returns
returns c =
    sum_stays c.args.self.scale c.args.self.most c.args.other.scale c.args.other.most c.max-scale.result c.in_ok-left.left c.in_ok-right.right c.in_ok-most.most (search rules) c.in_ok-left.ensures.same c.in_ok-left.ensures.few c.in_ok-right.ensures.same
    c.in_ok-right.ensures.few (search rules) c.in_ok-most.ensures.few
