-- The entries of groups and of distinct rows are small beside a page.
use Rattle.std.proofs.Common.{◌≡◌, ◌∙◌, ◌≤◌, ℕ, ◌+◌, ◌++◌, length, length-append, map, ap₂, arith}
use Rattle.std.proofs.lemmas.List.{length-map}
use Rattle.qw_grouped.specs.Grouped.{Grouped, IsGrouped, arguments_of, expression_of_column, SetFunction}
use Rattle.qw_whole.specs.GroupTables.{distinct_size, group_size}

pub group_small : (query : Grouped) → IsGrouped query → group_size query ≤ 16408
group_small query whole =
    let many : length (map expression_of_column query.columns ++ arguments_of query.functions) ≡ length query.columns + length query.functions =
    length-append (map expression_of_column query.columns) (arguments_of query.functions)
    ∙ ap₂ (λ (a b : ℕ). a + b) (length-map query.columns expression_of_column) (length-map query.functions (λ (f : SetFunction). f.argument)) in
    omega (arith, many, whole.front.few_items)

pub distinct_small : (items : ℕ) → items ≤ 512 → distinct_size items ≤ 8216
distinct_small items few = omega (arith, few)
