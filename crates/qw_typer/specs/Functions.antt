-- The set functions of a query, from left to right as they stand in the text (ISO/IEC 9075:1992, 6.5, 7.8, 7.9). What stands in an argument is
-- no set function of the query: a set function there is a fault of the argument.
use Rattle.std.specs.Prelude.{ℕ, List, [], ◌∷◌, ◌++◌}
use Rattle.std.specs.List.{flat_map}
use Rattle.std.specs.Option.{option_map_or}
use Rattle.qw_ast.specs.declared.script.SetFunction.{SetFunction}
use Rattle.qw_ast.specs.Limits.{items_of}
use Rattle.qw_ast.specs.Syntax.{Expression, count_rows, Condition, Clause, Expressions, Branching, SelectItem, Select}
use Rattle.qw_ast.specs.Walk.{Walk, walked, condition_walked, clause_walked, all_walked, branches_walked}

-- COUNT(*), or a set function of an argument, at its place
pub data Written : Type 0 where
  counted : ℕ → Written
  applied : ℕ → SetFunction → Expression → Written

abbrev pub row_counts : Expression → List Written
row_counts (count_rows place) = counted place ∷ []
row_counts leaf = []

abbrev pub gathering : Walk (List Written)
gathering = record { leaf = row_counts; join = λ xs ys. xs ++ ys; made = λ xs. xs; function = λ place f a xs. applied place f a ∷ [] }

abbrev pub written : Expression → List Written
written e = walked gathering e

abbrev pub written_in : Condition → List Written
written_in c = condition_walked gathering c

abbrev pub written_in_clause : Clause → List Written
written_in_clause c = clause_walked gathering c

abbrev pub written_in_all : Expressions → List Written
written_in_all es = all_walked gathering es

abbrev pub written_in_branches : Branching → List Written
written_in_branches branches = branches_walked gathering branches

-- of the select list and then of HAVING; `*` has none
abbrev pub functions_in : Select → List Written
functions_in s = flat_map (λ (i : SelectItem). written i.value) (items_of s.selected) ++ option_map_or written_in s.having []
