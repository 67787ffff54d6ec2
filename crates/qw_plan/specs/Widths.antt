-- How many values the rows of a plan have (ISO/IEC 9075:1992, 7.9: the degree of a table), and which plans are formed as those of queries are.
use Rattle.std.specs.Prelude.{◌≡◌, ℕ, ◌+◌, ◌≤◌, List, length}
use Rattle.std.specs.List.{AllByRecursion}
use Rattle.qw_types.specs.declared.value.Val.{Val}
use Rattle.qw_algebra.specs.Node.{Node, filter, join, project, scan}
use Rattle.qw_plan.specs.Stages.{distinct, group, show}
use Rattle.qw_plan.specs.Plan.{Plan, rows, stage}

-- A list makes the rows of a query specification. Below it they have the columns of FROM at their numbers, and aren't of one width.
abbrev pub node_width : Node → ℕ
node_width (scan entry table) = 0
node_width (filter conjuncts below) = 0
node_width (join outer left right on keys) = 0
node_width (project below items) = length items

abbrev pub plan_width : Plan → ℕ
plan_width (rows node) = node_width node
plan_width (stage (group columns functions) below) = columns + length functions
plan_width (stage (show having items) below) = length items
plan_width (stage distinct below) = plan_width below

abbrev pub AreWide : (width : ℕ) → List (List Val) → Type 0
AreWide width rs = AllByRecursion (λ row. length row ≡ width) rs

abbrev pub IsProject : Node → Type 0
IsProject (scan entry table) = ⊥
IsProject (filter conjuncts below) = ⊥
IsProject (join outer left right on keys) = ⊥
IsProject (project below items) = Unit {0}

-- A list makes the first rows, and no stage groups by more columns than there are.
abbrev pub IsFormed : Plan → Type 0
IsFormed (rows node) = IsProject node
IsFormed (stage (group columns functions) below) = IsFormed below × (columns ≤ plan_width below)
IsFormed (stage (show having items) below) = IsFormed below
IsFormed (stage distinct below) = IsFormed below
