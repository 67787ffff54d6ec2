use Rattle.std.proofs.Common.{◌≡◌, map, sym, subst, arith}
use Rattle.std.proofs.lemmas.Grind.{common_steps}
use Rattle.std.specs.String.{string_bytes}
use Rattle.qw_command_line.specs.Read.{names_of, options_of, texts_of}
use Rattle.qw_command_line.specs.Words.{Reading, reading, command, run, compile, check, gen}
use Rattle.qw_top.specs.Asking.{IsOne}
use Rattle.qw_top.specs.Call.{IsLimit, IsLimitBy, IsRunLimit, IsTextLimit, NotesBy}
use Rattle.qw_top.specs.Limits.{limits_of, most_module_octets}
use Rattle.qw_top.specs.Top.{FilesSettle, IsFileOf}
use Rattle.qw_top.proofs.AskingLemmas.{asks_none, asks_weaker}
use Rattle.qw_top.proofs.CallLemmas.{words_noted}
use Rattle.qw_top.proofs.UnreadLemmas.{notes_weaker}
use Rattle.qw_top.proofs.top.perform.perform.Goals as goal

pub returns-in-Ok-Run-clause-noted : goal.returns-in-Ok-Run-clause-noted
returns-in-Ok-Run-clause-noted g c =
    let are : reading (map string_bytes c.args.words.now) ≡ command (run (names_of c.in-Ok-Run.names) (options_of c.in-Ok-Run.names.options)) = grind (arith, common_steps) in
    subst (λ (r : Reading). NotesBy (g.F.Shelf.files c.args.files.now) r (g.F.Shelf.fault_name c.run_queries.new.files) c.run_queries.result (g.E.Sink.taken c.args.notes.now) (g.E.Sink.taken c.run_queries.new.notes)) (sym are)
    (notes_weaker (FilesSettle (limits_of (options_of c.in-Ok-Run.names.options)) (g.F.Shelf.files c.args.files.now) (names_of c.in-Ok-Run.names)) _ (IsFileOf (g.F.Shelf.files c.args.files.now) (names_of c.in-Ok-Run.names)) (λ name is. is.0)
    _ c.run_queries.result _ _ c.run_queries.ensures.noted)

pub returns-in-Ok-Compile-clause-noted : goal.returns-in-Ok-Compile-clause-noted
returns-in-Ok-Compile-clause-noted g c =
    let are : reading (map string_bytes c.args.words.now) ≡ command (compile (texts_of c.in-Ok-Compile.names) c.in-Ok-Compile.names.statement) = grind (arith, common_steps) in
    subst (λ (r : Reading). NotesBy (g.F.Shelf.files c.args.files.now) r (g.F.Shelf.fault_name c.compile_statement.new.files) c.compile_statement.result (g.E.Sink.taken c.args.notes.now) (g.E.Sink.taken c.compile_statement.new.notes)) (sym are) c.compile_statement.ensures.noted

pub returns-in-Ok-Check-clause-noted : goal.returns-in-Ok-Check-clause-noted
returns-in-Ok-Check-clause-noted g c =
    let are : reading (map string_bytes c.args.words.now) ≡ command (check c.in-Ok-Check.name.now) = grind (arith, common_steps) in
    subst (λ (r : Reading). NotesBy (g.F.Shelf.files c.args.files.now) r (g.F.Shelf.fault_name c.check_file.new.files) c.check_file.result (g.E.Sink.taken c.args.notes.now) (g.E.Sink.taken c.check_file.new.notes)) (sym are) c.check_file.ensures.noted

pub returns-in-Ok-Gen-clause-noted : goal.returns-in-Ok-Gen-clause-noted
returns-in-Ok-Gen-clause-noted g c =
    let are : reading (map string_bytes c.args.words.now) ≡ command (gen c.in-Ok-Gen.words.seed c.in-Ok-Gen.words.rows (options_of c.in-Ok-Gen.words.options)) = grind (arith, common_steps) in
    subst (λ (r : Reading). NotesBy (g.F.Shelf.files c.args.files.now) r (g.F.Shelf.fault_name c.args.files.now) c.run_generated.result (g.E.Sink.taken c.args.notes.now) (g.E.Sink.taken c.run_generated.new.notes)) (sym are)
    (c.run_generated.ensures.noted (g.F.Shelf.fault_name c.args.files.now))

pub returns-in-Ok-Gen-clause-asked : goal.returns-in-Ok-Gen-clause-asked
returns-in-Ok-Gen-clause-asked g c = asks_none _ _

pub returns-in-Err-clause-noted : goal.returns-in-Err-clause-noted
returns-in-Err-clause-noted g c = words_noted (g.F.Shelf.files c.args.files.now) (reading (map string_bytes c.args.words.now)) c.in-Err.fault _ c.note_words.result _ _ c.in-Err.ensures c.note_words.ensures.noted

pub returns-in-Err-clause-asked : goal.returns-in-Err-clause-asked
returns-in-Err-clause-asked g c = asks_none _ _

pub returns-in-Ok-Run-clause-asked : goal.returns-in-Ok-Run-clause-asked
returns-in-Ok-Run-clause-asked g c =
    let are : reading (map string_bytes c.args.words.now) ≡ command (run (names_of c.in-Ok-Run.names) (options_of c.in-Ok-Run.names.options)) = grind (arith, common_steps) in
    asks_weaker (IsRunLimit (names_of c.in-Ok-Run.names)) (IsLimit (map string_bytes c.args.words.now)) (g.F.Shelf.watched c.args.files.now) (g.F.Shelf.watched c.run_queries.new.files) (λ name limit is. subst (λ (r : Reading). IsLimitBy r name limit) (sym are) is) c.run_queries.ensures.asked

pub returns-in-Ok-Compile-clause-asked : goal.returns-in-Ok-Compile-clause-asked
returns-in-Ok-Compile-clause-asked g c =
    let are : reading (map string_bytes c.args.words.now) ≡ command (compile (texts_of c.in-Ok-Compile.names) c.in-Ok-Compile.names.statement) = grind (arith, common_steps) in
    asks_weaker (IsTextLimit c.in-Ok-Compile.names.schema.now c.in-Ok-Compile.names.queries.now) (IsLimit (map string_bytes c.args.words.now)) (g.F.Shelf.watched c.args.files.now) (g.F.Shelf.watched c.compile_statement.new.files) (λ name limit is. subst (λ (r : Reading). IsLimitBy r name limit) (sym are) is) c.compile_statement.ensures.asked

pub returns-in-Ok-Check-clause-asked : goal.returns-in-Ok-Check-clause-asked
returns-in-Ok-Check-clause-asked g c =
    let are : reading (map string_bytes c.args.words.now) ≡ command (check c.in-Ok-Check.name.now) = grind (arith, common_steps) in
    asks_weaker (IsOne c.in-Ok-Check.name.now most_module_octets) (IsLimit (map string_bytes c.args.words.now)) (g.F.Shelf.watched c.args.files.now) (g.F.Shelf.watched c.check_file.new.files) (λ name limit is. subst (λ (r : Reading). IsLimitBy r name limit) (sym are) is) c.check_file.ensures.asked
