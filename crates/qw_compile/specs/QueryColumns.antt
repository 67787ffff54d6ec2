-- The columns that a query names, which entries of hash tables keep as rows of FROM have them, NOT NULL or not (ISO/IEC 9075:1992, 7.5); and those
-- that it reads as they are declared, of which each entry of FROM has one.
use Rattle.std.specs.Prelude.{◌≡◌, ◌≤◌, ◌<◌, ◌==◌, ℕ, eqb, true, Contains, List, length}
use Rattle.std.specs.List.{AllByRecursion, IsDistinct, list_any}
use Rattle.qw_types.specs.Value.{IsSized}
use Rattle.qw_types.specs.declared.schema.ColumnType.{ColumnType}
use Rattle.qw_types.specs.declared.value.Ty.{Ty}
use Rattle.qw_scalar.specs.Columns.{HasColumns, HaveColumns}
use Rattle.qw_meaning.specs.Query.{QueryParts, query_of}
use Rattle.qw_meaning.specs.Select.{Entry, IsSpecification, conjuncts_on, entries_in_rows, entries_of}
use Rattle.qw_algebra.specs.Columns.{owner}
use Rattle.qw_physical.specs.Named.{IsDeclared, and_firsts, columns_of_entries, named_by, numbers, typed_numbers}
use Rattle.qw_physical.specs.Reads.{AreRead}
use Rattle.qw_physical.specs.declared.pipeline.ReadColumn.{ReadColumn}

-- one of these columns, each its number and its type
abbrev pub IsOneOf : List ReadColumn → ℕ → Ty → Type 0
IsOneOf columns i ty = Contains (typed_numbers columns) (i, ty)

pub record AreColumnsOf (parts : QueryParts) (kept columns : List ReadColumn) : Type 0 where
  pub specification : IsSpecification (query_of parts)
  pub sized : AllByRecursion (λ (e : Entry). AllByRecursion (λ (c : ColumnType). IsSized c.ty) e.columns) (entries_of (query_of parts).sources)
  -- those that are named
  pub named : numbers kept ≡ named_by parts
  pub kept_declared : AllByRecursion (IsDeclared (columns_of_entries (entries_in_rows (query_of parts).sources))) kept
  pub kept_once : IsDistinct eqb (numbers kept)
  pub kept_few : length kept ≤ 512
  pub on : AllByRecursion (HaveColumns (IsOneOf kept)) (conjuncts_on (query_of parts).sources)
  pub conjuncts : AllByRecursion (HaveColumns (IsOneOf kept)) (query_of parts).conjuncts
  pub items : AllByRecursion (HasColumns (IsOneOf kept)) (query_of parts).items
  pub reads : AreRead kept (query_of parts)
  -- those that are read
  pub read : numbers columns ≡ and_firsts (named_by parts) 0 (length (entries_of (query_of parts).sources))
  pub declared : AllByRecursion (IsDeclared (columns_of_entries (entries_of (query_of parts).sources))) columns
  pub once : IsDistinct eqb (numbers columns)
  pub few : length columns ≤ 512
  pub each : (entry : ℕ) → entry < length (entries_of (query_of parts).sources) → list_any (λ (c : ReadColumn). owner c.number == entry) columns ≡ true
