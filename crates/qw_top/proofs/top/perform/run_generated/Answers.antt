use Rattle.std.proofs.Common.{◌≡◌, ℕ, List, Option, None}
use Rattle.qw_command_line.specs.Read.{names_of, options_of}
use Rattle.qw_top.specs.Delivered.{CommandNotes, LeavesBench, RunLeaves}
use Rattle.qw_top.specs.Generated.{generated_files, generated_names}
use Rattle.qw_top.specs.Inner.Noted.{IsUnread}
use Rattle.qw_top.specs.Limits.{limits_of}
use Rattle.qw_top.specs.Output.{TookFront}
use Rattle.qw_top.specs.Top.{FilesSettle, IsFileOf, RunExplains}
use Rattle.qw_top.proofs.GeneratedLemmas.{none_counted, of_generated}
use Rattle.qw_top.proofs.StoppedLemmas.{want_noted}
use Rattle.qw_top.proofs.UnreadLemmas.{notes_no_file, notes_weaker}
use Rattle.qw_top.proofs.top.perform.run_generated.Goals as goal

pub returns-in-Ok-clause-explained : goal.returns-in-Ok-clause-explained
returns-in-Ok-clause-explained g c =
    let made = c.new-files.ensures.files c.args.words.now.seed c.args.words.now.rows c.in-Ok.ensures.schema c.in-Ok.ensures.sale c.in-Ok.ensures.shop c.in-Ok.ensures.queries in
    of_generated _ _ _ _ _ _ made c.words_of-names.ensures.names c.words_of-names.ensures.options
    (λ o f n. RunExplains (limits_of (options_of o)) f n c.run_queries.new.kept c.run_queries.result) c.run_queries.ensures.explained

pub returns-in-Ok-clause-left : goal.returns-in-Ok-clause-left
returns-in-Ok-clause-left g c =
    let made = c.new-files.ensures.files c.args.words.now.seed c.args.words.now.rows c.in-Ok.ensures.schema c.in-Ok.ensures.sale c.in-Ok.ensures.shop c.in-Ok.ensures.queries in
    of_generated _ _ _ _ _ _ made c.words_of-names.ensures.names c.words_of-names.ensures.options
    (λ o f n. RunLeaves (options_of o) f n c.run_queries.result c.run_queries.new.kept (g.O.Sink.taken c.args.out.now) (g.O.Sink.taken c.run_queries.new.out)) c.run_queries.ensures.left

pub returns-in-Ok-clause-kept_at_fault : goal.returns-in-Ok-clause-kept_at_fault
returns-in-Ok-clause-kept_at_fault g c = λ changed.
    let made = c.new-files.ensures.files c.args.words.now.seed c.args.words.now.rows c.in-Ok.ensures.schema c.in-Ok.ensures.sale c.in-Ok.ensures.shop c.in-Ok.ensures.queries in
    of_generated _ _ _ _ _ _ made c.words_of-names.ensures.names c.words_of-names.ensures.options
    (λ o f n. LeavesBench (options_of o) f n c.run_queries.new.kept (λ status report. TookFront (g.O.Sink.taken c.args.out.now) (g.O.Sink.taken c.run_queries.new.out) report))
    (c.run_queries.ensures.kept_at_fault changed)

pub returns-in-Ok-clause-noted : goal.returns-in-Ok-clause-noted
returns-in-Ok-clause-noted g c = λ fault_name.
    let made = c.new-files.ensures.files c.args.words.now.seed c.args.words.now.rows c.in-Ok.ensures.schema c.in-Ok.ensures.sale c.in-Ok.ensures.shop c.in-Ok.ensures.queries in
    let files = generated_files c.args.words.now.seed c.args.words.now.rows in
    let settles = FilesSettle (limits_of (options_of c.args.words.now.options)) files generated_names in
    let old = g.E.Sink.taken c.args.notes.now in
    let new = g.E.Sink.taken c.run_queries.new.notes in
    let noted = of_generated _ _ _ _ _ _ made c.words_of-names.ensures.names c.words_of-names.ensures.options
    (λ o f n. CommandNotes (FilesSettle (limits_of (options_of o)) f n) (IsUnread (IsFileOf f n) 0 0) None c.run_queries.result (g.E.Sink.taken c.args.notes.now) (g.E.Sink.taken c.run_queries.new.notes))
    c.run_queries.ensures.noted in
    notes_no_file settles None fault_name c.run_queries.result old new
    (notes_weaker settles (IsUnread (IsFileOf files generated_names) 0 0) (λ name. ⊥) (λ name is. none_counted is.1) None c.run_queries.result old new noted)

pub returns-in-Err-clause-noted : goal.returns-in-Err-clause-noted
returns-in-Err-clause-noted g c = λ fault_name.
    want_noted (FilesSettle (limits_of (options_of c.args.words.now.options)) (generated_files c.args.words.now.seed c.args.words.now.rows) generated_names) (λ name. ⊥) fault_name _ _ _
    c.note_want_of_memory.ensures.noted
