use Rattle.std.proofs.Common.{◌≡◌, ℕ, ◌+◌, ◌<◌, ◌≤◌, length, Some, inl, inr, sym, subst, ap, ◌∙◌, arith}
use Rattle.qw_map.specs.Free.{lowest_run}
use Rattle.qw_bench.proofs.FreeCounts.{placed-few}
use Rattle.qw_bench.proofs.FreeLemmas.{run-within}
use Rattle.qw_bench.proofs.pool.Pool.lowest.Goals as goal
use Rattle.qw_bench.proofs.pool.Pool.lowest.Goals.{In_ok-first, then-pages-eq0-via-then-pages-eq0, then-pages-eq0-via-else-pages-eq0+then-self-pages}

-- the run lies among the flags
within : (c : In_ok-first) → c.in_ok-first.first + c.args.pages ≤ length c.args.self.now.free.items
within c =
    let found : lowest_run 0 c.args.pages c.args.self.now.free.items ≡ Some c.in_ok-first.first =
    ap (lowest_run 0 c.args.pages) (sym c.as_slice.ensures.value) ∙ sym c.lowest_free.ensures ∙ c.in_ok-first.was in
    run-within c.args.pages c.in_ok-first.first c.args.self.now.free.items (omega (arith, c.if-pages-eq0.false)) found

pub overflow_cast-result : goal.overflow_cast-result
overflow_cast-result c =
    let kept = c.requires.kept in
    let there = within (goal.at.overflow_cast-result c).In_ok-first in
    omega (arith, there, kept.flags, kept.whole, kept.within, kept.limit)

pub returns-clause-within : goal.returns-clause-within
returns-clause-within c = within (goal.at.returns-clause-within c).In_ok-first

-- none are asked for, or more than are free
pub returns-then-pages-eq0-clause-place : goal.returns-then-pages-eq0-clause-place
returns-then-pages-eq0-clause-place c =
    let pool = c.args.self.now in
    elim c.then-pages-eq0.branch [
      | then-pages-eq0-via-then-pages-eq0 w ↦ placed-few pool.memory.octets pool.free.items c.args.pages (inl w.if-pages-eq0.true)
      | then-pages-eq0-via-else-pages-eq0+then-self-pages w ↦
          placed-few pool.memory.octets pool.free.items c.args.pages (inr (subst (λ (n : ℕ). n < c.args.pages) c.requires.kept.counted w.if-self-pages.true))
    ]
