use Rattle.std.proofs.Common.{Err, ap, ◌∙◌, arith}
use Rattle.qw_bench.proofs.bench.start.place_all.Goals as goal

-- the memory may grow to the pages of the columns
pub unreachable-requires : goal.unreachable-requires
unreachable-requires c =
    let refused = c.in-Err-TooManyPages in
    let told = (c.place.ensures.too_many refused.field-0-0).0 (refused.is ∙ ap Err refused.field-0-is) in
    omega (arith, told.0, told.1, c.requires.room)
