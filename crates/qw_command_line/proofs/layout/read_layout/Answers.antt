use Rattle.std.proofs.Common.{map}
use Rattle.std.specs.String.{string_bytes}
use Rattle.qw_command_line.proofs.LayoutLemmas.{layout_refused, layout_taken}
use Rattle.qw_command_line.proofs.layout.read_layout.Goals as goal

pub returns-in-Ok-try_get_matches_from : goal.returns-in-Ok-try_get_matches_from
returns-in-Ok-try_get_matches_from c =
    let matches = c.in-Ok-try_get_matches_from.ensures in
    layout_taken (map string_bytes c.args.words.now) _ _ c.statement_words.result c.in-Ok.ensures.is matches.kinds (λ simple. (matches.matches simple).0) c.statement_words.ensures

pub returns-in-Err : goal.returns-in-Err
returns-in-Err c =
    layout_refused (map string_bytes c.args.words.now) _ c.in-Err.error c.refusal.result c.in-Ok.ensures.is c.in-Err.ensures.kinds c.refusal.ensures.refusal c.refusal.ensures.memory
