-- Without GROUP BY there is at most one row (ISO/IEC 9075:1992, 7.8, 7.9), so that DISTINCT leaves it as it is.
use Rattle.std.proofs.Common.{◌≡◌, ◌≤◌, Bool, true, false, Result, Ok, Err, List, [], ◌∷◌, length, refl, subst, arith}
use Rattle.qw_types.specs.declared.code.Code.{Code}
use Rattle.qw_types.specs.declared.value.Val.{Val}
use Rattle.qw_scalar.specs.Conjuncts.{passes}
use Rattle.qw_scalar.specs.Evaluation.{at_row}
use Rattle.qw_scalar.specs.Expression.{Condition, Expression}
use Rattle.qw_meaning.specs.Flow.{Flow, values_of}
use Rattle.qw_grouped.specs.Grouped.{Grouped, kinds_of}
use Rattle.qw_grouped.specs.Groups.{function_values, once}
use Rattle.qw_feed.specs.Feeds.{flow_by, where_true}
use Rattle.qw_physical.specs.Courses.{fed, placed}
use Rattle.qw_physical.specs.Physical.{filter, select}
use Rattle.qw_group_pipeline.proofs.OneRows.{behind_one}
use Rattle.qw_compile_whole.proofs.GroupBounded.{walked_of}

few_made : (items : List Expression) (r : Result (List Val) Code) → length (flow_by r (placed (select items))).rows ≤ 1
few_made items (Ok values) = omega arith
few_made items (Err code) = omega arith

few_true : (f : Flow (List Val)) (p : Result Bool Code) → length f.rows ≤ 1 → length (flow_by p (where_true f)).rows ≤ 1
few_true f (Ok true) few = few
few_true f (Ok false) few = omega arith
few_true f (Err code) few = omega arith

few_come : (having : List Condition) (items : List Expression) (r : Result (List Val) Code) → length (flow_by r (fed [] (filter having ∷ []) (select items))).rows ≤ 1
few_come having items (Ok vs) = few_true (flow_by (values_of items (at_row vs)) (placed (select items))) (passes having (at_row vs)) (few_made items (values_of items (at_row vs)))
few_come having items (Err code) = omega arith

pub one_few : (query : Grouped) (rows : List (List Val)) → length query.columns ≡ 0 → length (walked_of query rows).rows ≤ 1
one_few query rows none = subst (λ (f : Flow (List Val)). length f.rows ≤ 1) (behind_one query rows none) (few_come query.having query.items (function_values 0 (kinds_of query.functions) rows))

once_few : (rows : List (List Val)) → length rows ≤ 1 → once rows ≡ rows
once_few [] few = refl
once_few (row ∷ []) few = refl
once_few (row ∷ other ∷ rows) few = absurd (omega (arith, few))

pub one_distinct : (query : Grouped) (rows : List (List Val)) → length query.columns ≡ 0 → once (walked_of query rows).rows ≡ (walked_of query rows).rows
one_distinct query rows none = once_few (walked_of query rows).rows (one_few query rows none)
