use Rattle.std.proofs.Common.{None, Some, map, subst}
use Rattle.std.specs.String.{string_bytes}
use Rattle.qw_command_line.specs.LayoutWords.{layout_reading}
use Rattle.qw_command_line.specs.Words.{Reading}
use Rattle.qw_top.specs.Call.{ExplainsBy}
use Rattle.qw_top.specs.Top.{Files}
use Rattle.qw_top.proofs.CallLemmas.{compile_ends, ends_by}
use Rattle.qw_top.proofs.top.layout.qwasm_layout.Goals as goal

pub returns-clause-exactly : goal.returns-clause-exactly
returns-clause-exactly g c told cause is h =
    let reading = layout_reading (map string_bytes c.args.words.now) in
    ends_by told c.one_answer.ensures.one c.one_answer.ensures.never_both reading cause None c.perform.result h
    (subst (λ (f : Files). ExplainsBy f reading None c.perform.result) is c.perform.ensures.explained)

pub returns-clause-tells : goal.returns-clause-tells
returns-clause-tells g c told names number one is are has =
    let told_here = subst (λ (f : Files). ExplainsBy f (layout_reading (map string_bytes c.args.words.now)) None c.perform.result) is c.perform.ensures.explained in
    compile_ends told c.one_answer.ensures.one c.one_answer.ensures.never_both names number one None c.perform.result has
    (subst (λ (r : Reading). ExplainsBy (Some told) r None c.perform.result) are told_here)
