use Rattle.std.proofs.Common.{map, sym, subst}
use Rattle.std.specs.String.{string_bytes}
use Rattle.qw_command_line.specs.LayoutWords.{layout_reading}
use Rattle.qw_command_line.specs.Words.{Reading}
use Rattle.qw_top.specs.Call.{IsLimitBy, IsTextLimit, NotesBy}
use Rattle.qw_top.proofs.AskingLemmas.{asks_none, asks_weaker}
use Rattle.qw_top.proofs.CallLemmas.{words_explained, words_noted}
use Rattle.qw_top.proofs.LayoutLemmas.{statement_unread, unread_left}
use Rattle.qw_top.proofs.top.layout.perform.Goals as goal

pub returns-in-Ok-clause-noted : goal.returns-in-Ok-clause-noted
returns-in-Ok-clause-noted g c =
    subst (λ (r : Reading). NotesBy (g.F.Shelf.files c.args.files.now) r (g.F.Shelf.fault_name c.tell_statement.new.files) c.tell_statement.result (g.E.Sink.taken c.args.notes.now) (g.E.Sink.taken c.tell_statement.new.notes)) (sym c.in-Ok.ensures) c.tell_statement.ensures.noted

pub returns-in-Ok-clause-asked : goal.returns-in-Ok-clause-asked
returns-in-Ok-clause-asked g c =
    asks_weaker (IsTextLimit c.in-Ok.names.schema.now c.in-Ok.names.queries.now) (IsLimitBy (layout_reading (map string_bytes c.args.words.now))) (g.F.Shelf.watched c.args.files.now) (g.F.Shelf.watched c.tell_statement.new.files) (λ name limit is. subst (λ (r : Reading). IsLimitBy r name limit) (sym c.in-Ok.ensures) is) c.tell_statement.ensures.asked

pub returns-in-Err-clause-explained : goal.returns-in-Err-clause-explained
returns-in-Err-clause-explained g c =
    words_explained (g.F.Shelf.files c.args.files.now) (layout_reading (map string_bytes c.args.words.now)) _ c.in-Err.fault c.note_words.result _ _ (statement_unread _ c.in-Err.fault c.in-Err.ensures) c.note_words.ensures.noted

pub returns-in-Err-clause-left : goal.returns-in-Err-clause-left
returns-in-Err-clause-left g c =
    unread_left (g.F.Shelf.files c.args.files.now) (g.O.Sink.taken c.args.out.now) (layout_reading (map string_bytes c.args.words.now)) c.in-Err.fault c.note_words.result _ _ c.in-Err.ensures c.note_words.ensures.noted

pub returns-in-Err-clause-noted : goal.returns-in-Err-clause-noted
returns-in-Err-clause-noted g c =
    words_noted (g.F.Shelf.files c.args.files.now) (layout_reading (map string_bytes c.args.words.now)) c.in-Err.fault _ c.note_words.result _ _ (statement_unread _ c.in-Err.fault c.in-Err.ensures) c.note_words.ensures.noted

pub returns-in-Err-clause-asked : goal.returns-in-Err-clause-asked
returns-in-Err-clause-asked g c = asks_none _ _
