use Rattle.std.proofs.Common.{refl}
use Rattle.std.specs.Prelude.{codes}
use Rattle.qw_ast.specs.ScriptGrammar.{function_of}
use Rattle.qw_parse.specs.Inner.Parser.{left}
use Rattle.qw_parse.specs.Inner.Readers.{nested_at, token_at, word_at}
use Rattle.qw_parse.proofs.PrimaryReadLemmas.{Past, as_clause_reads, keyed_call, keyed_case, keyed_extract, keyed_other}
use Rattle.qw_parse.proofs.read.rules.Rules.keyed.Goals as goal

pub returns-then-word : goal.returns-then-word
returns-then-word g c =
    rw (keyed_case (nested_at c.args.self.now.levels) (left c.args.parser.now) (left c.word.new.self) c.if-word.ensures.found)
    (as_clause_reads _ c.case.result (left c.case.new.parser) c.case.ensures)

pub returns-in-Some : goal.returns-in-Some
returns-in-Some g c =
    let no_case : Past (word_at (codes "CASE") (left c.args.parser.now)) (left c.args.parser.now) (left c.word.new.self) = record { absent = c.if-word.ensures.found; kept = c.if-word.ensures.kept refl } in
    rw (keyed_call (nested_at c.args.self.now.levels) (left c.args.parser.now) (left c.word.new.self) no_case c.in-Some.function (left c.function.new.self) c.in-Some.ensures.found)
    (as_clause_reads _ c.call.result (left c.call.new.parser) c.call.ensures)

pub returns-then-word-2 : goal.returns-then-word-2
returns-then-word-2 g c =
    let no_case : Past (word_at (codes "CASE") (left c.args.parser.now)) (left c.args.parser.now) (left c.word.new.self) = record { absent = c.if-word.ensures.found; kept = c.if-word.ensures.kept refl } in
    let no_call : Past (token_at function_of (left c.word.new.self)) (left c.word.new.self) (left c.function.new.self) = record { absent = c.in_default.ensures.found; kept = c.in_default.ensures.kept refl } in
    rw (keyed_extract (nested_at c.args.self.now.levels) (left c.args.parser.now) (left c.word.new.self) no_case (left c.function.new.self) no_call (left c.word-2.new.self) c.if-word-2.ensures.found)
    (as_clause_reads _ c.extract.result (left c.extract.new.parser) c.extract.ensures)

pub returns : goal.returns
returns g c =
    let no_case : Past (word_at (codes "CASE") (left c.args.parser.now)) (left c.args.parser.now) (left c.word.new.self) = record { absent = c.if-word.ensures.found; kept = c.if-word.ensures.kept refl } in
    let no_call : Past (token_at function_of (left c.word.new.self)) (left c.word.new.self) (left c.function.new.self) = record { absent = c.in_default.ensures.found; kept = c.in_default.ensures.kept refl } in
    let no_extract : Past (word_at (codes "EXTRACT") (left c.function.new.self)) (left c.function.new.self) (left c.word-2.new.self) = record { absent = c.if-word-2.ensures.found; kept = c.if-word-2.ensures.kept refl } in
    rw (keyed_other (nested_at c.args.self.now.levels) (left c.args.parser.now) (left c.word.new.self) no_case (left c.function.new.self) no_call (left c.word-2.new.self) no_extract)
    c.other.ensures
