-- HAVING and the select list may be replaced by expressions that mean the same: what comes of the groups, and the kinds of the result's cells, are the
-- same.
use Rattle.std.proofs.Common.{◌≡◌, List, [], ◌∷◌, length, map, refl, ap, ◌∙◌}
use Rattle.std.specs.List.{AllZip}
use Rattle.qw_types.specs.declared.value.Val.{Val}
use Rattle.qw_scalar.specs.Evaluation.{Environment, at_row}
use Rattle.qw_scalar.specs.Expression.{Condition, Expression}
use Rattle.qw_scalar.specs.Same.{AreSame, IsSame}
use Rattle.qw_scalar.specs.Typing.{kind_of}
use Rattle.qw_meaning.specs.Flow.{Flow, each, kept, selected, values_of}
use Rattle.qw_meaning.proofs.SameLemmas.{each_same, kept_same}
use Rattle.qw_meaning.proofs.SameLemmas as same
use Rattle.qw_fold.specs.Stands.{Follows, FollowsTruth}
use Rattle.qw_grouped.specs.Grouped.{Grouped, kinds_of}
use Rattle.qw_grouped.specs.Groups.{behind_front, grouped_table}
use Rattle.qw_physical.specs.Physical.{Pipeline}
use Rattle.qw_compile_whole.specs.GroupColumns.{IsBehind}

-- a query with other conjuncts of HAVING and another select list
abbrev pub with_behind : Grouped → List Condition → List Expression → Grouped
with_behind query having items = record { sources = query.sources; conjuncts = query.conjuncts; columns = query.columns; functions = query.functions; having = having; items = items }

truths : (cs ds : List Condition) → AllZip FollowsTruth cs ds → AllZip AreSame cs ds
truths [] [] z = tt
truths [] (d ∷ ds) z = absurd z
truths (c ∷ cs) [] z = absurd z
truths (c ∷ cs) (d ∷ ds) z = (z.0.same, truths cs ds z.1)

values : (es fs : List Expression) → AllZip Follows es fs → AllZip IsSame es fs
values [] [] z = tt
values [] (f ∷ fs) z = absurd z
values (e ∷ es) [] z = absurd z
values (e ∷ es) (f ∷ fs) z = (z.0.same, values es fs z.1)

values_same : (es fs : List Expression) (env : Environment) → AllZip IsSame es fs → values_of es env ≡ values_of fs env
values_same [] [] env h = refl
values_same [] (f ∷ fs) env h = absurd h
values_same (e ∷ es) [] env h = absurd h
values_same (e ∷ es) (f ∷ fs) env h = rw (h.0.value env, values_same es fs env h.1) refl

selected_same : (es fs : List Expression) (row : List Val) → AllZip IsSame es fs → selected es row ≡ selected fs row
selected_same es fs row h = rw (values_same es fs (at_row row) h) refl

module _ (query : Grouped) (behind : Pipeline) (h : IsBehind query behind) where
  abbrev pub folded : Grouped
  folded = with_behind query h.having h.items

  pub having_same : AllZip AreSame query.having h.having
  having_same = truths query.having h.having h.having_follow

  pub items_same : AllZip IsSame query.items h.items
  items_same = values query.items h.items h.items_follow

  kept_is : (row : List Val) → kept query.having row ≡ kept h.having row
  kept_is row = kept_same query.having h.having row having_same

  pub selected_is : (row : List Val) → selected query.items row ≡ selected h.items row
  selected_is row = selected_same query.items h.items row items_same

  pub kept_each : (before : Flow (List Val)) → each (kept query.having) before ≡ each (kept h.having) before
  kept_each before = each_same (kept query.having) (kept h.having) before kept_is

  -- what comes of the rows that reach GROUP BY
  pub behind_folded : (before : Flow (List Val)) → behind_front query before ≡ behind_front (with_behind query h.having h.items) before
  behind_folded before =
      let table : Flow (List Val) = grouped_table (length query.columns) (kinds_of query.functions) before in
      each_same (selected query.items) (selected h.items) (each (kept query.having) table) selected_is ∙ ap (each (selected h.items)) (kept_each table)

  -- the kinds of the result's cells
  pub kinds_folded : map kind_of query.items ≡ map kind_of h.items
  kinds_folded = same.kinds_same query.items h.items items_same
