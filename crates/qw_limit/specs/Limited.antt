-- A sink that takes the first so many rows of those that come, and passes over all others: a local says how many it may still take.
use Rattle.std.specs.Prelude.{◌≡◌, ℕ, ◌-◌, List, ◌++◌, length, Some, slice_get, take}
use Rattle.qw_types.specs.declared.value.Val.{Val}
use Rattle.qw_low.specs.State.{Number, LowState}
use Rattle.qw_feed.specs.Feeds.{Sink}

-- the first rows have been taken, and the local has as many as may still be
pub record HasFirst (most z : ℕ) (Has : List (List Val) → LowState → Type 0) (rows : List (List Val)) (s : LowState) : Type 0 where
  pub has : Has (take most rows) s
  pub left : slice_get s.locals z ≡ Some (Number (most - length rows))

-- those that are taken may come
abbrev pub FirstMay : (most : ℕ) → (May : List (List Val) → Type 0) → List (List Val) → Type 0
FirstMay most May rows = May (take most rows)

abbrev pub limited : (most z : ℕ) → (sink : Sink) → ((rows more : List (List Val)) → FirstMay most sink.May (rows ++ more) → FirstMay most sink.May rows) → Sink
limited most z sink beginnings = record { Spared = sink.Spared; Has = HasFirst most z sink.Has; May = FirstMay most sink.May; beginnings = beginnings }
