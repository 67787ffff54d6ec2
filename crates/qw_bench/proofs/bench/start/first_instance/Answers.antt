use Rattle.std.proofs.Common.{Err, ap, ◌∙◌}
use Rattle.qw_bench.proofs.bench.start.first_instance.Goals as goal

-- a compiled module's functions call downwards only, so none is the first that doesn't
pub unreachable-requires-in-Err-NotDescending : goal.unreachable-requires-in-Err-NotDescending
unreachable-requires-in-Err-NotDescending c =
    let refused = c.in-Err-NotDescending in
    let first = (c.new.ensures.not_descending refused.field-0-0).0 (refused.is ∙ ap Err refused.field-0-is) in
    first.1.ascends (c.requires.descends first.1.number first.1.function first.1.there)

pub returns-in-Ok : goal.returns-in-Ok
returns-in-Ok c = λ number shaped. c.in-Ok.ensures.begun number shaped c.requires.descends
