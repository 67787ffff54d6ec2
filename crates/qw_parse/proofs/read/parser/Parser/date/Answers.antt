use Rattle.std.proofs.Common.{◌≡◌, Some, refl, arith, map}
use Rattle.std.proofs.lemmas.Result.{err_from_is_err_and}
use Rattle.qw_ast.specs.SyntaxTree.{days_of}
use Rattle.qw_parse.specs.Inner.Parser.{left}
use Rattle.qw_parse.specs.Inner.Readers.{date_at, days_at, interval_sign_at, move}
use Rattle.qw_parse.proofs.ExactLemmas.{days_shortens, sign_shortens}
use Rattle.qw_parse.proofs.ReadLemmas.{date_start, date_on, going_down, going_end, going_stop}
use Rattle.qw_parse.proofs.read.parser.Parser.date.Goals as goal

pub intervals-init : goal.intervals-init
intervals-init c =
    let there : c.string.result ≡ Some c.in_ok-string.string = grind arith in
    rw c.new-intervals.ensures.items
    (date_start (left c.args.self.now) (left c.expect_word.new.self) (left c.string.new.self) c.in_ok-string.string.now c.in_ok-expect_word.ensures (rw there at c.string.ensures.found))

pub intervals-preserved : goal.intervals-preserved
intervals-preserved c =
    date_on (date_at (left c.args.self.now)) c.in_ok-string.string.now c.intervals.intervals.items c.push.new.list.items _ (left c.intervals.self) (left c.interval_sign.new.self) (left c.days.new.self)
    c.intervals.invariant c.in_ok-push.ensures c.in-Some.ensures.found c.in_ok-days.ensures

pub intervals-smaller : goal.intervals-smaller
intervals-smaller c =
    going_down interval_sign_at days_at move sign_shortens days_shortens c.in-Some.sign c.in_ok-days.days.now (left c.intervals.self) (left c.interval_sign.new.self) (left c.days.new.self) c.in-Some.ensures.found c.in_ok-days.ensures

pub returns-in_err-days : goal.returns-in_err-days
returns-in_err-days c =
    let err = err_from_is_err_and c.from_residual-in_err-days.result c.from_residual-in_err-days.ensures.1 in
    rw (err.1, err.2)
    (λ more. going_stop interval_sign_at days_at move (date_at (left c.args.self.now)) (record { string = c.in_ok-string.string.now; intervals = map days_of c.intervals.intervals.items }) (left c.intervals.self) c.intervals.invariant
    c.in-Some.sign (left c.interval_sign.new.self) c.in-Some.ensures.found (c.in_err-days.ensures more))

pub returns : goal.returns
returns c =
    rw (c.in_default.ensures.kept refl)
    (going_end interval_sign_at days_at move (date_at (left c.args.self.now)) (record { string = c.in_ok-string.string.now; intervals = map days_of c.intervals.intervals.items }) (left c.intervals.self) c.intervals.invariant c.in_default.ensures.found)
