-- What the runs of a module have to keep, apart from any query.
use Rattle.std.specs.Prelude.{ℕ, List, Option}
use Rattle.qw_types.specs.declared.kind.Kind.{Kind}
use Rattle.qw_types.specs.declared.value.Val.{Val}
use Rattle.qw_meaning.specs.Outcome.{Outcome}
use Rattle.qw_meaning.specs.Select.{Entry}

pub record Promise : Type 0 where
  -- the tables that it may read, by their numbers in the schema, with the types of their columns and which of them are NOT NULL
  pub entries : List Entry
  -- the kinds of the cells of a result row, none where only null comes
  pub cells : List (Option Kind)
  -- what it comes to over the tables of the schema
  pub outcome : List (List (List Val)) → Outcome
  -- its units over tables: how many instructions it executes at most for each instruction that it has, beyond the first
  pub units : List (List (List Val)) → ℕ
  -- how many pages it holds at most, or asks for with those held
  pub pages : List (List (List Val)) → ℕ
