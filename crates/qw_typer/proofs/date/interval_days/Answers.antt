use Rattle.std.proofs.Common.{arith, rules, sym, ◌∙◌, w64}
use Rattle.std.specs.Prelude.{FitsSigned}
use Rattle.std.proofs.lemmas.Int.{to_z-of_z}
use Rattle.qw_typer.proofs.ShownLemmas.{few_days, no_days}
use Rattle.qw_typer.proofs.date.interval_days.Goals as goal

pub overflow_cast-result : goal.overflow_cast-result
overflow_cast-result c =
    let few = (few_days c.args.text.now c.in-Some.days c.if-text-gt-MAX_DIGITS.false (sym c.in-Some.is ∙ c.value_of.ensures)).0 in
    let range : FitsSigned w64 c.in-Some.days = search rules in
    let same = rw (to_z-of_z w64 c.in-Some.days range) at c.unsigned_abs.ensures in
    omega (arith, few, same)

pub returns-in-Some : goal.returns-in-Some
returns-in-Some c =
    let range : FitsSigned w64 c.in-Some.days = search rules in
    let same = rw (to_z-of_z w64 c.in-Some.days range) at c.unsigned_abs.ensures.value in
    rw same (few_days c.args.text.now c.in-Some.days c.if-text-gt-MAX_DIGITS.false (sym c.in-Some.is ∙ c.value_of.ensures)).1

pub returns-in-None : goal.returns-in-None
returns-in-None c = no_days c.args.text.now c.if-text-gt-MAX_DIGITS.false (sym c.in-None.is ∙ c.value_of.ensures)
