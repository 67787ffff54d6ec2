use Rattle.std.proofs.Common.{◌≡◌, ℕ, ℤ, pos, negsuc, ◌<ℤ◌, IsTrue, Bool, unsigned_abs, subst, arith}
use Rattle.std.proofs.lemmas.Int.{ints}
use Rattle.qw_types.specs.Value.{IsDay, is_day}
use Rattle.qw_types.proofs.DayLemmas.{day_is}
use Rattle.qw_run_cases.proofs.plain.is_day.Goals as goal

told : (number : ℤ) (size : ℕ) (r : Bool) → pos 0 <ℤ number → size ≡ unsigned_abs number → r ≡ is_day (pos size) → IsTrue r → IsDay number
told (pos n) size r above size_is same is = day_is (pos n) (subst (λ (k : ℕ). IsTrue (is_day (pos k))) size_is (subst IsTrue same is))
told (negsuc n) size r above size_is same is = absurd (omega (arith, ints, above))

pub returns-then-number-gt0 : goal.returns-then-number-gt0
returns-then-number-gt0 c =
    let above : pos 0 <ℤ c.args.number = grind (arith, c.if-number-gt0.true, c.ranges.number.sfits) in
    told c.args.number c.unsigned_abs.result c.names_day.result above (grind (arith, c.unsigned_abs.ensures)) c.names_day.ensures
