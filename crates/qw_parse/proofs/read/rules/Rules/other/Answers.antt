use Rattle.std.proofs.Common.{refl}
use Rattle.std.proofs.lemmas.Result.{err_from_is_err_and}
use Rattle.qw_parse.specs.Inner.Parser.{left}
use Rattle.qw_parse.specs.Inner.Readers.{as_clause, nested_at}
use Rattle.qw_parse.proofs.PrimaryReadLemmas.{as_clause_reads, not_there, other_column, other_date, other_function, there}
use Rattle.qw_parse.proofs.read.rules.Rules.other.Goals as goal

pub returns-in-Some : goal.returns-in-Some
returns-in-Some g c =
    rw (other_function (nested_at c.args.self.now.levels) (left c.args.parser.now) (left c.set_function.new.self) c.in-Some.function c.in-Some.ensures.found)
    (as_clause_reads _ c.set_function-in-Some.result (left c.set_function-in-Some.new.parser) c.set_function-in-Some.ensures)

pub returns-in_err-date : goal.returns-in_err-date
unfolding as_clause
returns-in_err-date g c =
    let err = err_from_is_err_and c.from_residual.result c.from_residual.ensures.1 in
    let date = there _ c.if-is_word.ensures in
    rw (err.1, err.2, other_date (nested_at c.args.self.now.levels) (left c.args.parser.now) (left c.set_function.new.self) c.in_default.ensures.found (c.in_default.ensures.kept refl) date.0 date.1)
    (λ more. rw (c.in_err-date.ensures more) refl)

pub returns-then-is_word : goal.returns-then-is_word
unfolding as_clause
returns-then-is_word g c =
    let date = there _ c.if-is_word.ensures in
    rw (other_date (nested_at c.args.self.now.levels) (left c.args.parser.now) (left c.set_function.new.self) c.in_default.ensures.found (c.in_default.ensures.kept refl) date.0 date.1, c.in_ok-date.ensures) refl

pub returns : goal.returns
returns g c =
    rw (other_column (nested_at c.args.self.now.levels) (left c.args.parser.now) (left c.set_function.new.self) c.in_default.ensures.found (c.in_default.ensures.kept refl) (not_there _ c.if-is_word.ensures))
    (as_clause_reads _ c.column.result (left c.column.new.parser) c.column.ensures)
