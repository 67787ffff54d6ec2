use Rattle.std.proofs.Common.{map}
use Rattle.std.specs.String.{string_bytes}
use Rattle.qw_command_line.proofs.ReadingLemmas.{refused_answers, taken_answers}
use Rattle.qw_command_line.proofs.read.read.Goals as goal

pub returns-in-Ok-try_get_matches_from : goal.returns-in-Ok-try_get_matches_from
returns-in-Ok-try_get_matches_from c =
    let matches = c.in-Ok-try_get_matches_from.ensures in
    taken_answers (map string_bytes c.args.words.now) _ _ c.entered.result c.in-Ok.ensures.is matches.kinds (λ simple. (matches.matches simple).1) c.entered.ensures

pub returns-in-Err : goal.returns-in-Err
returns-in-Err c =
    refused_answers (map string_bytes c.args.words.now) _ c.in-Err.error c.refusal.result c.in-Ok.ensures.is c.in-Err.ensures.kinds c.refusal.ensures.refusal c.refusal.ensures.memory
