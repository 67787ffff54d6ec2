-- The rows of a plan have as many values as the plan is wide, and the plan of a query is formed.
use Rattle.std.proofs.Common.{arith, ◌≡◌, ℕ, zero, suc, ◌+◌, ◌≤◌, Bool, true, false, List, [], ◌∷◌, ◌++◌, map, length, Result, Ok, Err, refl, ap, length-append}
use Rattle.std.specs.List.{AllByRecursion, flat_map}
use Rattle.std.proofs.lemmas.List.{length-map, length-take-le}
use Rattle.qw_types.specs.Arithmetic.{◌>>=◌}
use Rattle.qw_types.specs.declared.code.Code.{Code}
use Rattle.qw_types.specs.declared.value.Val.{Val}
use Rattle.qw_scalar.specs.Evaluation.{Environment, at_row, value_of}
use Rattle.qw_scalar.specs.Expression.{Expression}
use Rattle.qw_meaning.specs.Flow.{Flow, kept, rows_given, selected, values_of}
use Rattle.qw_meaning.proofs.ListLemmas.{all_flat_map}
use Rattle.qw_grouped.specs.declared.set_function.SetFunctionKind.{SetFunctionKind}
use Rattle.qw_grouped.specs.Grouped.{Grouped, arguments_of, expression_of_column}
use Rattle.qw_grouped.specs.Groups.{Group, function_values, group_row, groups, groups_unless, key_of, keys, members, values_at}
use Rattle.qw_grouped.specs.SetFunctions.{set_function_value}
use Rattle.qw_grouped.specs.Whole.{Body, Whole, grouped, plain}
use Rattle.qw_grouped.proofs.TypedGroups.{all_once}
use Rattle.qw_algebra.specs.Node.{Node, filter, join, node_flow, project, scan}
use Rattle.qw_plan.specs.Stages.{distinct, group, select_of, show, stage_flow}
use Rattle.qw_plan.specs.Plan.{Plan, plan_flow, rows, stage, written}
use Rattle.qw_plan.specs.Widths.{AreWide, IsFormed, IsProject, node_width, plan_width}

-- what a result may hold
abbrev Holds : {A : Type 0} → (A → Type 0) → Result A Code → Type 0
Holds P (Ok v) = P v
Holds P (Err code) = Unit {0}

binds : {A B : Type 0} (P : A → Type 0) (Q : B → Type 0) (r : Result A Code) (f : A → Result B Code) → Holds P r → ((v : A) → P v → Holds Q (f v)) → Holds Q (r >>= f)
binds P Q (Ok v) f h g = g v h
binds P Q (Err code) f h g = tt

any_result : {A : Type 0} (r : Result A Code) → Holds (λ v. Unit {0}) r
any_result (Ok v) = tt
any_result (Err code) = tt

values_many : (items : List Expression) (env : Environment) → Holds (λ vs. length vs ≡ length items) (values_of items env)
values_many [] env = refl
values_many (e ∷ items) env =
    binds (λ (v : Val). Unit {0}) (λ (vs : List Val). length vs ≡ suc (length items)) (value_of e env)
    (λ value. values_of items env >>= (λ values. let r : Result (List Val) Code = Ok (value ∷ values) in r)) (any_result (value_of e env))
    (λ v x. binds (λ (vs : List Val). length vs ≡ length items) (λ (vs : List Val). length vs ≡ suc (length items)) (values_of items env)
    (λ values. let r : Result (List Val) Code = Ok (v ∷ values) in r) (values_many items env) (λ vs h. ap suc h))

wide_given : (n : ℕ) (r : Result (List (List Val)) Code) → Holds (AreWide n) r → AreWide n (rows_given r)
wide_given n (Ok rs) h = h
wide_given n (Err code) h = tt

selected_wide : (items : List Expression) (row : List Val) → Holds (AreWide (length items)) (selected items row)
selected_wide items row =
    binds (λ (vs : List Val). length vs ≡ length items) (AreWide (length items)) (values_of items (at_row row))
    (λ values. let r : Result (List (List Val)) Code = Ok (values ∷ []) in r) (values_many items (at_row row)) (λ vs h. (h, tt))

any_rows : {A : Type 0} (rs : List A) → AllByRecursion (λ row. Unit {0}) rs
any_rows [] = tt
any_rows (r ∷ rs) = (tt, any_rows rs)

show_wide : (items : List Expression) (rs : List (List Val)) → AreWide (length items) (flat_map (λ (row : List Val). rows_given (selected items row)) rs)
show_wide items rs =
    all_flat_map (λ (row : List Val). Unit {0}) (λ (row : List Val). length row ≡ length items) (λ (row : List Val). rows_given (selected items row)) rs
    (λ row x. wide_given (length items) (selected items row) (selected_wide items row)) (any_rows rs)

functions_many : (place : ℕ) (functions : List SetFunctionKind) (rs : List (List Val)) → Holds (λ vs. length vs ≡ length functions) (function_values place functions rs)
functions_many place [] rs = refl
functions_many place (f ∷ functions) rs =
    binds (λ (v : Val). Unit {0}) (λ (vs : List Val). length vs ≡ suc (length functions)) (set_function_value f (values_at place rs))
    (λ value. function_values (place + 1) functions rs >>= (λ values. let r : Result (List Val) Code = Ok (value ∷ values) in r)) (any_result (set_function_value f (values_at place rs)))
    (λ v x. binds (λ (vs : List Val). length vs ≡ length functions) (λ (vs : List Val). length vs ≡ suc (length functions)) (function_values (place + 1) functions rs)
    (λ values. let r : Result (List Val) Code = Ok (v ∷ values) in r) (functions_many (place + 1) functions rs) (λ vs h. ap suc h))

row_wide : (columns : ℕ) (functions : List SetFunctionKind) (g : Group) → length g.key ≡ columns → Holds (AreWide (columns + length functions)) (group_row columns functions g)
row_wide columns functions g long =
    binds (λ (vs : List Val). length vs ≡ length functions) (AreWide (columns + length functions)) (function_values columns functions g.rows)
    (λ values. let r : Result (List (List Val)) Code = Ok ((g.key ++ values) ∷ []) in r) (functions_many columns functions g.rows)
    (λ vs h. ((let a = length-append g.key vs in omega (arith, a, h, long)), tt))

keys_wide : (columns width : ℕ) (rs : List (List Val)) → columns ≤ width → AreWide width rs → AreWide columns (map (key_of columns) rs)
keys_wide columns width [] le wide = tt
keys_wide columns width (r ∷ rs) le wide = (length-take-le columns r (let a = wide.0 in omega (arith, a, le)), keys_wide columns width rs le wide.1)

made_keys : (columns n : ℕ) (rs ks : List (List Val)) → AreWide n ks → AllByRecursion (λ (g : Group). length g.key ≡ n) (map (λ (key : List Val). record { key = key; rows = members columns key rs }) ks)
made_keys columns n rs [] wide = tt
made_keys columns n rs (k ∷ ks) wide = (wide.0, made_keys columns n rs ks wide.1)

groups_wide : (columns width : ℕ) (rs : List (List Val)) → columns ≤ width → AreWide width rs → AllByRecursion (λ (g : Group). length g.key ≡ columns) (groups columns rs)
groups_wide zero width rs le wide = (refl, tt)
groups_wide (suc columns) width rs le wide =
    made_keys (suc columns) (suc columns) rs (keys (suc columns) rs) (all_once (λ row. length row ≡ suc columns) (map (key_of (suc columns)) rs) (keys_wide (suc columns) width rs le wide))

formed_wide : (cs : List Code) (columns width : ℕ) (rs : List (List Val)) → columns ≤ width → AreWide width rs → AllByRecursion (λ (g : Group). length g.key ≡ columns) (groups_unless cs columns rs)
formed_wide [] columns width rs le wide = groups_wide columns width rs le wide
formed_wide (c ∷ cs) columns width rs le wide = tt

table_wide : (columns width : ℕ) (functions : List SetFunctionKind) (f : Flow (List Val)) → columns ≤ width → AreWide width f.rows → AreWide (columns + length functions) (stage_flow (group columns functions) f).rows
table_wide columns width functions f le wide =
    all_flat_map (λ (g : Group). length g.key ≡ columns) (λ (row : List Val). length row ≡ columns + length functions) (λ (g : Group). rows_given (group_row columns functions g)) (groups_unless f.codes columns f.rows)
    (λ g long. wide_given (columns + length functions) (group_row columns functions g) (row_wide columns functions g long)) (formed_wide f.codes columns width f.rows le wide)

module _ (tables : List (List (List Val))) where
  node_wide : (node : Node) → IsProject node → AreWide (node_width node) (node_flow tables node).rows
  node_wide (scan entry table) is = absurd is
  node_wide (filter conjuncts below) is = absurd is
  node_wide (join outer left right on keys) is = absurd is
  node_wide (project below items) is = show_wide items (node_flow tables below).rows

  pub plan_wide : (p : Plan) → IsFormed p → AreWide (plan_width p) (plan_flow tables p).rows
  plan_wide (rows node) is = node_wide node is
  plan_wide (stage (group columns functions) below) is = table_wide columns (plan_width below) functions (plan_flow tables below) is.1 (plan_wide below is.0)
  plan_wide (stage (show having items) below) is = show_wide items (flat_map (λ (row : List Val). rows_given (kept having row)) (plan_flow tables below).rows)
  plan_wide (stage distinct below) is = all_once (λ row. length row ≡ plan_width below) (plan_flow tables below).rows (plan_wide below is)

-- ---- plans of queries
columns_first : (query : Grouped) → length query.columns ≤ length (map expression_of_column query.columns ++ arguments_of query.functions)
columns_first query =
    let a = length-append (map expression_of_column query.columns) (arguments_of query.functions) in
    let b = length-map query.columns expression_of_column in
    omega (arith, a, b)

by_body : (body : Body) (is_distinct : Bool) → IsFormed (written (select_of (record { body = body; distinct = is_distinct })))
by_body (plain specification) false = tt
by_body (plain specification) true = tt
by_body (grouped query) false = (tt, columns_first query)
by_body (grouped query) true = (tt, columns_first query)

pub written_formed : (query : Whole) → IsFormed (written (select_of query))
written_formed query = by_body query.body query.distinct
