-- What the pipelines of a query of the code hold is within the pages that are promised of it.
use Rattle.std.proofs.Common.{◌≡◌, ℕ, ◌+◌, ◌*◌, ◌≤◌, max, eqb, true, List, length, sym, subst}
use Rattle.std.specs.List.{AllByRecursion, IsDistinct}
use Rattle.qw_types.specs.declared.value.Val.{Val}
use Rattle.qw_meaning.specs.Query.{QueryParts, query_of}
use Rattle.qw_algebra.specs.Node.{node_flow}
use Rattle.qw_pipe.specs.Octets.{greatest_entry, table_octets}
use Rattle.qw_map.specs.Layout.{row_size}
use Rattle.qw_physical.specs.Held.{kept_of}
use Rattle.qw_physical.specs.Named.{named_by, numbers}
use Rattle.qw_physical.specs.declared.pipeline.ReadColumn.{ReadColumn}
use Rattle.qw_physical.proofs.Holding.{kept_numbers}
use Rattle.qw_physical.proofs.NamedRead.{named_hold}
use Rattle.qw_compile.specs.PlannedQueries.{greatest, kept_by, placed, reads, stored}
use Rattle.qw_compile.proofs.KeptColumns.{kept_within}
use Rattle.qw_compile.proofs.Named.{reads_unless}
use Rattle.qw_compile.proofs.Within.{greatest_within, stored_within}

module _ (parts : QueryParts) (columns : List ReadColumn) (once : IsDistinct eqb (numbers columns)) (named : numbers columns ≡ named_by parts) where
  all_read : AllByRecursion (λ (i : ℕ). reads (query_of parts) i ≡ true) (numbers columns)
  all_read =
      subst (AllByRecursion (λ (i : ℕ). reads (query_of parts) i ≡ true)) (sym named)
      (named_hold parts (λ (i : ℕ). reads (query_of parts) i ≡ true) (λ i some. reads_unless (query_of parts) i some))

  -- entries keep no more columns than the promise counts
  pub kept_few : (entries : List ℕ) → kept_of columns entries ≤ kept_by (query_of parts) entries
  kept_few entries = subst (λ (n : ℕ). n ≤ kept_by (query_of parts) entries) (sym (kept_numbers columns entries)) (kept_within (query_of parts) entries (numbers columns) once all_read)

  -- so all that is held is within what it says is stored, and the greatest within the greatest
  pub stored_few : (tables : List (List (List Val))) →
      table_octets (kept_of columns) tables (placed (query_of parts)) + length (node_flow tables (placed (query_of parts))).rows * row_size (length (query_of parts).items) ≤ stored (query_of parts) tables
  stored_few tables = stored_within (query_of parts) tables (kept_of columns) kept_few

  pub greatest_few : max (row_size (length (query_of parts).items)) (greatest_entry (kept_of columns) (placed (query_of parts))) ≤ greatest (query_of parts)
  greatest_few = greatest_within (query_of parts) (kept_of columns) kept_few
