use Rattle.std.proofs.Common.{◌≡◌, ◌≤◌, [], ◌++◌, sym, subst}
use Rattle.qw_algebra.specs.Node.{Node}
use Rattle.qw_pipe.specs.General.{general_hashing}
use Rattle.qw_pipe.specs.Pipes.{pipelines}
use Rattle.qw_pipe.specs.Units.{units_of}
use Rattle.qw_physical.specs.Courses.{costs}
use Rattle.qw_physical.specs.Spelled.{all_spelled}
use Rattle.qw_physical.proofs.Begun.{costs_bounded}
use Rattle.qw_physical.proofs.bound_laws.units_of_queries.Goals as goal

pub returns : goal.returns
returns c query tables node columns front back more whole of sized placed are_read scaled is built =
    subst (λ (n : Node). costs tables [] (front ++ back) more ≤ units_of general_hashing tables n) (sym placed)
    (costs_bounded c.order_laws.ensures.rows c.order_laws.ensures.same columns tables query front back more whole of sized are_read scaled
    (subst (λ (n : Node). all_spelled columns 0 (pipelines n) ≡ front ++ back) placed is) built)
