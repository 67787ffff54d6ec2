use Rattle.std.specs.String.{string_bytes}
use Rattle.qw_command_line.specs.Read.{texts_of}
use Rattle.qw_top.specs.Call.{CompileSettles, IsScriptFile}
use Rattle.qw_top.specs.LayoutCall.{LayoutWrites}
use Rattle.qw_top.proofs.CommandLemmas.{answered_leaves, answered_notes}
use Rattle.qw_top.proofs.StoppedLemmas.{stopped_noted}
use Rattle.qw_top.proofs.top.layout.tell_statement.Goals as goal

pub returns-in-Ok-clause-left : goal.returns-in-Ok-clause-left
returns-in-Ok-clause-left g c = answered_leaves (LayoutWrites (g.F.Shelf.files c.args.files.now) (texts_of c.args.names.now) c.args.names.now.statement) (string_bytes c.in-Ok.text) c.answer.result _ _ _ _ (rw c.as_bytes.ensures.value at c.answer.ensures.written) c.in-Ok.ensures.written

pub returns-in-Ok-clause-noted : goal.returns-in-Ok-clause-noted
returns-in-Ok-clause-noted g c = answered_notes (CompileSettles (g.F.Shelf.files c.args.files.now) (texts_of c.args.names.now) c.args.names.now.statement) (IsScriptFile (g.F.Shelf.files c.args.files.now) (texts_of c.args.names.now)) _ _ c.answer.result _ _ _ _ c.answer.ensures.written

pub returns-in-Err-clause-noted : goal.returns-in-Err-clause-noted
returns-in-Err-clause-noted g c = stopped_noted (CompileSettles (g.F.Shelf.files c.args.files.now) (texts_of c.args.names.now) c.args.names.now.statement) (IsScriptFile (g.F.Shelf.files c.args.files.now) (texts_of c.args.names.now)) _ _ c.in-Err.stop c.note_stop.result _ _ c.in-Err.ensures.stops c.in-Err.ensures.shelf.counts c.note_stop.ensures.noted
