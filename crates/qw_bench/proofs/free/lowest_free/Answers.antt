use Rattle.std.proofs.Common.{◌≡◌, ◌≢◌, ℕ, ◌+◌, ◌<◌, Bool, true, false, List, length, get_or, Some, slice_get, sym, ap, ◌∙◌, subst, arith}
use Rattle.std.proofs.lemmas.Option.{slice_get-get_or}
use Rattle.qw_bench.proofs.FreeLemmas.{IsSeeking, seeks-anew, seeks-found, seeks-none, seeks-on}
use Rattle.qw_bench.proofs.free.lowest_free.Goals as goal
use Rattle.qw_bench.proofs.free.lowest_free.Goals.{then-flags-at, else-flags-at}

-- the flag that is looked at
flag-at : (flags : List Bool) (at : ℕ) (flag : Bool) → at < length flags → get_or flags at false ≡ flag → slice_get flags at ≡ Some flag
flag-at flags at flag within is = slice_get-get_or flags at false within ∙ ap Some is

pub returns-then-count-pages : goal.returns-then-count-pages
returns-then-count-pages c = elim c.if-flags-at.branch [
  | then-flags-at w ↦
      sym (seeks-found c.args.flags.now c.args.pages c.loop-at.at c.loop-at.count c.loop-at.invariant
      (flag-at c.args.flags.now c.loop-at.at true c.loop-at-test.true w.if-flags-at.true) (sym w.count-is ∙ c.if-count-pages.true))
  | else-flags-at w ↦ (let never : ⊥ = omega (arith, w.count-is, c.if-count-pages.true, c.requires) in absurd never)
]

pub loop-at-preserved : goal.loop-at-preserved
loop-at-preserved c = elim c.if-flags-at.branch [
  | then-flags-at w ↦
      rw w.count-is (seeks-on c.args.flags.now c.args.pages c.loop-at.at c.loop-at.count c.loop-at.invariant
      (flag-at c.args.flags.now c.loop-at.at true c.loop-at-test.true w.if-flags-at.true) (λ is. c.if-count-pages.false (w.count-is ∙ is)))
  | else-flags-at w ↦
      rw w.count-is (seeks-anew c.args.flags.now c.args.pages c.loop-at.at c.loop-at.count c.loop-at.invariant
      (flag-at c.args.flags.now c.loop-at.at false c.loop-at-test.true w.if-flags-at.false))
]

pub returns : goal.returns
returns c = sym (seeks-none c.args.flags.now c.args.pages c.loop-at.at c.loop-at.count c.loop-at.invariant (omega (arith, c.loop-at-test.false)))
