use Rattle.std.proofs.Common.{◌≡◌, ◌<◌, ◌+◌, ℕ, Some, true, sym, subst, slice_get, arith}
use Rattle.std.specs.List.{list_any}
use Rattle.qw_read.specs.declared.reader.Reader.{Reader}
use Rattle.qw_operator.specs.Needed.{names}
use Rattle.qw_operator.proofs.Conjuncts.{all_within, below_done, below_next, needed_inside}
use Rattle.qw_operator.proofs.needed.needed_for.Goals as goal
use Rattle.qw_operator.proofs.needed.needed_for.Goals.{then-index-done+then-is_named, else-index-done, else-index-done-via-then-index-done+else-is_named, else-index-done-via-else-index-done}

pub loop-index-preserved : goal.loop-index-preserved
loop-index-preserved c =
    elim c.if-index-done.branch [
      | then-index-done+then-is_named w ↦ record {
        ahead = omega (arith, w.needed-is, w.if-index-done.true);
        within = omega (arith, w.needed-is, c.loop-index-test.true);
        below = λ k r found less named. omega (arith, w.needed-is, less);
      }
      | else-index-done w ↦ record {
        ahead = omega (arith, w.needed-is, c.loop-index.invariant.ahead);
        within = omega (arith, w.needed-is, c.loop-index.invariant.within);
        below = subst (λ (n : ℕ). (k : ℕ) (r : Reader) → slice_get c.args.readers.now k ≡ Some r → k < c.loop-index.index + 1 → list_any (names r.column) c.args.leaves.now ≡ true → k < n) (sym w.needed-is)
            (elim w.else-index-done.branch [
              | else-index-done-via-then-index-done+else-is_named v ↦ below_next c.args.readers.now c.loop-index.index c.args.leaves.now c.loop-index.needed _ v.is_named.result c.loop-index.invariant.below v.is_named.ensures v.if-is_named.false
              | else-index-done-via-else-index-done v ↦ below_done c.args.readers.now c.loop-index.index c.args.leaves.now c.loop-index.needed c.loop-index.invariant.below (let ahead = c.loop-index.invariant.ahead in omega (arith, ahead, v.if-index-done.false))
            ]);
      }
    ]

pub returns-clause-all : goal.returns-clause-all
returns-clause-all c = all_within c.args.readers.now c.args.leaves.now c.loop-index.needed (λ k r found named. c.loop-index.invariant.below k r found (needed_inside c.args.readers.now k r c.loop-index.index found c.loop-index-test.false) named)
