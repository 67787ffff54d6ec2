-- When tasks of two memories are alike, and their instances have ended alike, so that nothing else was shown.
use Rattle.std.specs.Prelude.{◌≡◌, ℕ, false, List, Some, Contains, slice_get}
use Rattle.qw_types.specs.Contents.{Contents, rows_of}
use Rattle.qw_meaning.specs.Select.{Entry}
use Rattle.qw_map.specs.Layout.{rows_at}
use Rattle.qw_map.specs.Turns.{Done, Instance}
use Rattle.qw_map.specs.declared.layout.Used.{Used}
use Rattle.qw_promise.specs.Promise.{Promise}
use Rattle.qw_bench.specs.Bench.{Task, rows_in_tables}

-- The same module with the same layout, equal limits, and equal rows in each table of which the layout has a column; the other tables may
-- differ, and so may the places.
pub record AreAlike (tables : List Contents) (t : Task) (others : List Contents) (u : Task) : Type 0 where
  pub program : t.program ≡ u.program
  pub pages : t.pages ≡ u.pages
  pub steps : t.steps ≡ u.steps
  pub rows : (k : ℕ) (used : Used) → slice_get t.program.layout.columns k ≡ Some used → rows_of (rows_in_tables tables) used.table ≡ rows_of (rows_in_tables others) used.table

-- The same compiled module, equal limits, and equal rows in each table that the promise reads; the other tables may differ, and so may the places.
pub record AreEqual (promise : Promise) (tables : List Contents) (t : Task) (others : List Contents) (u : Task) : Type 0 where
  pub program : t.program ≡ u.program
  pub pages : t.pages ≡ u.pages
  pub steps : t.steps ≡ u.steps
  pub rows : (entry : Entry) → Contains promise.entries entry → rows_of (rows_in_tables tables) entry.table ≡ rows_of (rows_in_tables others) entry.table

-- The same end with all its numbers, after as many instructions, with as many pages; and where they are done, and neither was released, the same
-- rows in their order.
pub record EndAlike (memory : List ℕ) (t : Task) (i : Instance) (another : List ℕ) (u : Task) (j : Instance) : Type 0 where
  pub end : i.end ≡ j.end
  pub ran : i.ran ≡ j.ran
  pub held : i.world.held ≡ j.world.held
  pub rows : i.end ≡ Some Done → i.released ≡ false → j.released ≡ false → rows_at t.program.layout i.world memory t.descriptor ≡ rows_at u.program.layout j.world another u.descriptor
