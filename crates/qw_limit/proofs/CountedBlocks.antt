-- Which blocks count down: what spares the local, and stages, loops and scans around what counts down.
use Rattle.std.proofs.Common.{◌≢◌, ℕ, inl, List, [], ◌∷◌}
use Rattle.qw_low.specs.Syntax.{Statement, skip, seq, assign, load, store, conditional, while, request, raise, exit}
use Rattle.qw_feed.specs.Scans.{rows_block}
use Rattle.qw_feed.specs.Stages.{Test, tests_block}
use Rattle.qw_limit.specs.Counting.{CountsDown, Spares}

module _ (z : ℕ) where
  pub spares_counts : (a : Statement) → Spares z a → CountsDown z a
  spares_counts skip h = tt
  spares_counts (seq a b) h = (spares_counts a h.0, spares_counts b h.1)
  spares_counts (assign x e) h = h
  spares_counts (load x l offset a) h = h
  spares_counts (store st offset a e) h = tt
  spares_counts (conditional e a b) h = inl (spares_counts a h.0, spares_counts b h.1)
  spares_counts (while e a) h = spares_counts a h
  spares_counts (request e x) h = h
  spares_counts (raise code) h = tt
  spares_counts exit h = tt

  -- Conjuncts around a block count down where another block in its place is spared, by which this one counts down.
  pub tests_count : (gs : List Test) (plain b : Statement) → (Spares z plain → CountsDown z b) → Spares z (tests_block gs plain) → CountsDown z (tests_block gs b)
  tests_count [] plain b counts h = counts h
  tests_count (g ∷ gs) plain b counts h = (spares_counts g.block h.0, inl (tests_count gs plain b counts h.1.0, tt))

  -- a scan whose rows count down
  pub rows_count : (left : ℕ) (row : Statement) → left ≢ z → CountsDown z row → CountsDown z (rows_block left row)
  rows_count left row other counts = (counts, inl other)
