use Rattle.std.proofs.Common.{◌∙◌, ap, not, is_some}
use Rattle.std.specs.List.{list_any}
use Rattle.qw_map.specs.Turns.{Instance}
use Rattle.qw_bench.specs.Standing.{Standing}
use Rattle.qw_bench.proofs.Rounds.{seats-open}
use Rattle.qw_bench.proofs.bench.Bench.runs.Goals as goal

pub returns : goal.returns
returns c =
    rw (c.one_runs.ensures, c.as_slice.ensures.value) (seats-open c.self.inside.seats.items)
    ∙ ap (λ (b : Standing). list_any (λ (i : Instance). not (is_some i.end)) b.shared.instances) c.self.view_is
