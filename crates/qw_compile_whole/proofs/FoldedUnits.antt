-- HAVING and the select list may be replaced by expressions that mean the same: what the groups take, in units, is the same.
use Rattle.std.proofs.Common.{◌≡◌, ℕ, ◌+◌, ◌*◌, List, length, map, sum_by, ap, ap₂, ◌∙◌}
use Rattle.qw_types.specs.declared.value.Val.{Val}
use Rattle.qw_scalar.specs.Evaluation.{at_row}
use Rattle.qw_scalar.specs.Units.{units_of_all, units_of_items}
use Rattle.qw_meaning.specs.Flow.{Flow, each, kept}
use Rattle.qw_meaning.proofs.SameLemmas.{conjuncts_units, items_units, sum_same}
use Rattle.qw_grouped.specs.Grouped.{Grouped, kinds_of}
use Rattle.qw_grouped.specs.Groups.{groups, key_of}
use Rattle.qw_pipe.specs.Units.{Hashing, made_units, tested_units}
use Rattle.qw_physical.specs.Physical.{Pipeline}
use Rattle.qw_whole.specs.GroupTables.{all_groups, chosen_units, group_keys, group_units, read_units, table_units}
use Rattle.qw_compile_whole.specs.GroupColumns.{IsBehind}
use Rattle.qw_compile_whole.proofs.FoldedBehind.{having_same, items_same, kept_each, with_behind}

module _ (query : Grouped) (behind : Pipeline) (h : IsBehind query behind) where
  tested : (rows : List (List Val)) → tested_units query.having rows ≡ tested_units h.having rows
  tested rows = sum_same (λ (row : List Val). units_of_all query.having (at_row row)) (λ (row : List Val). units_of_all h.having (at_row row)) rows (λ row. conjuncts_units query.having h.having (at_row row) (having_same query behind h))

  made : (rows : List (List Val)) → made_units query.items rows ≡ made_units h.items rows
  made rows = sum_same (λ (row : List Val). units_of_items query.items (at_row row)) (λ (row : List Val). units_of_items h.items (at_row row)) rows (λ row. items_units query.items h.items (at_row row) (items_same query behind h))

  pub units_folded : (hashing : Hashing) (rows : List (List Val)) → group_units hashing query rows ≡ group_units hashing (with_behind query h.having h.items) rows
  units_folded hashing rows =
      let n : ℕ = length query.columns in
      let table : Flow (List Val) = all_groups query rows in
      let before : ℕ = table_units hashing (group_keys n rows) (map (key_of n) rows) + sum_by (chosen_units n (kinds_of query.functions)) rows + length (groups n rows) * read_units (kinds_of query.functions) in
      ap₂ (λ (t m : ℕ). before + t + m) (tested table.rows) (made (each (kept query.having) table).rows ∙ ap (λ (f : Flow (List Val)). made_units h.items f.rows) (kept_each query behind h table))
