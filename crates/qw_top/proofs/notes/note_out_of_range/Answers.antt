use Rattle.qw_top.specs.declared.status.Status.TheVariants.{WordsRefused}
use Rattle.qw_top.proofs.CauseLemmas.{line_of_number}
use Rattle.qw_top.proofs.StoppedLemmas.{line_noted}
use Rattle.qw_top.proofs.notes.note_out_of_range.Goals as goal

pub returns-clause-noted : goal.returns-clause-noted
returns-clause-noted g c =
    line_noted _ _ c.write_around.result WordsRefused c.end_of_write.result _ _ (line_of_number c.args.number c.name.result.now c.name.ensures) c.write_around.ensures.whole c.write_around.ensures.front
    c.end_of_write.ensures.whole c.end_of_write.ensures.cut_short
