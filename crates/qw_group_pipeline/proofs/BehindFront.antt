-- What comes of all groups, met in any order, is what GROUP BY, HAVING and the select list make of the rows behind the front of a grouped query (ISO/IEC
-- 9075:1992, 7.7 to 7.9), in another order.
use Rattle.std.proofs.Common.{◌≡◌, ℕ, zero, suc, ◌≤◌, Bool, true, false, List, [], ◌∷◌, ◌++◌, if◌then◌else◌, length, Result, Ok, Err, refl, sym, ap, ap₂, subst, arith}
use Rattle.std.specs.List.{AllByRecursion, flat_map}
use Rattle.qw_types.specs.Arithmetic.{◌>>=◌}
use Rattle.qw_types.specs.declared.code.Code.{Code}
use Rattle.qw_types.specs.declared.value.Val.{Val}
use Rattle.qw_scalar.specs.Conjuncts.{passes}
use Rattle.qw_scalar.specs.Evaluation.{at_row}
use Rattle.qw_scalar.specs.Expression.{Condition, Expression}
use Rattle.qw_meaning.specs.Flow.{Flow, each, given, kept, selected, spread, values_of}
use Rattle.qw_grouped.specs.Grouped.{Grouped, kinds_of}
use Rattle.qw_grouped.specs.Groups.{Group, behind_front, function_values, group_row, grouped_table, keys, members}
use Rattle.qw_grouped.specs.declared.set_function.SetFunctionKind.{SetFunctionKind}
use Rattle.qw_grouped.proofs.Lists.{flat_map_map}
use Rattle.qw_feed.specs.Feeds.{flow_by, flow_over, where_true}
use Rattle.qw_feed.specs.Rows.{Row}
use Rattle.qw_table.specs.Tables as tables
use Rattle.qw_group.specs.Walks.{AreMet}
use Rattle.qw_physical.specs.Courses.{fed, placed}
use Rattle.qw_physical.specs.Physical.{filter, select}
use Rattle.qw_physical.proofs.Orders.{Alike, alike_is, alike_refl, alike_trans, over_permuted, over_same, spread_permuted, spread_twice}

module _ (having : List Condition) (items : List Expression) where
  abbrev keep : List Val → Flow (List Val)
  keep row = given (kept having row)

  abbrev make : List Val → Flow (List Val)
  make row = given (selected items row)

  -- ---- the row of one group
  item_row : (q : Result (List Val) Code) → flow_by q (placed (select items)) ≡
      record { rows = (given (q >>= (λ values. let r : Result (List (List Val)) Code = Ok (values ∷ []) in r))).rows ++ []; codes = (given (q >>= (λ values. let r : Result (List (List Val)) Code = Ok (values ∷ []) in r))).codes ++ [] }
  item_row (Ok values) = refl
  item_row (Err code) = refl

  passed_row : (row : List Val) (p : Result Bool Code) → flow_by p (where_true (flow_by (values_of items (at_row row)) (placed (select items)))) ≡
      spread make (record {
        rows = (given (p >>= (λ passed. let r : Result (List (List Val)) Code = Ok (if passed then row ∷ [] else []) in r))).rows ++ [];
        codes = (given (p >>= (λ passed. let r : Result (List (List Val)) Code = Ok (if passed then row ∷ [] else []) in r))).codes ++ [];
      })
  passed_row row (Ok true) = item_row (values_of items (at_row row))
  passed_row row (Ok false) = refl
  passed_row row (Err code) = refl

  pub group_chain : (key : List Val) (r : Result (List Val) Code) → flow_by r (λ vs. fed [] (filter having ∷ []) (select items) (key ++ vs)) ≡
      spread make (spread keep (given (r >>= (λ vs. let q : Result (List (List Val)) Code = Ok ((key ++ vs) ∷ []) in q))))
  group_chain key (Ok vs) = passed_row (key ++ vs) (passes having (at_row (key ++ vs)))
  group_chain key (Err code) = refl

  -- ---- all groups
  module _ (columns : ℕ) (functions : List SetFunctionKind) (rows : List (List Val)) where
    abbrev pub of_key : List Val → Flow (List Val)
    of_key key = flow_by (function_values columns functions (members columns key rows)) (λ vs. fed [] (filter having ∷ []) (select items) (key ++ vs))

    abbrev step : List Val → Flow (List Val)
    step key = given (group_row columns functions (record { key = key; rows = members columns key rows }))

    chain_alike : (ks : List (List Val)) → Alike (flow_over of_key ks) (spread make (spread keep (flow_over step ks)))
    chain_alike ks =
        let f : Flow (List Val) = record { rows = ks; codes = [] } in
        let one : List Val → Flow (List Val) = λ key. spread keep (step key) in
        let two : List Val → Flow (List Val) = λ key. spread make (spread keep (step key)) in
        alike_trans (flow_over of_key ks) (spread two f) (spread make (spread keep (spread step f)))
        (alike_is (flow_over of_key ks) (flow_over two ks) (over_same of_key two ks (λ key. group_chain key (function_values columns functions (members columns key rows)))))
        (alike_trans (spread two f) (spread make (spread one f)) (spread make (spread keep (spread step f)))
        (spread_twice two make one f (all_refl two ks))
        (spread_permuted make (spread one f) (spread keep (spread step f)) (spread_twice one keep step f (all_refl one ks))))
      where
        all_refl : (work : List Val → Flow (List Val)) (xs : List (List Val)) → AllByRecursion (λ (x : List Val). Alike (work x) (work x)) xs
        all_refl work [] = tt
        all_refl work (x ∷ xs) = (alike_refl (work x), all_refl work xs)

  table_is : (columns : ℕ) (functions : List SetFunctionKind) (rows : List (List Val)) → 1 ≤ columns → flow_over (step columns functions rows) (keys columns rows) ≡ grouped_table columns functions (record { rows = rows; codes = [] })
  table_is zero functions rows some = absurd (omega (arith, some))
  table_is (suc n) functions rows some =
      let made : List Val → Group = λ key. record { key = key; rows = members (suc n) key rows } in
      ap₂ (λ (rs : List (List Val)) (cs : List Code). let f : Flow (List Val) = record { rows = rs; codes = cs } in f)
      (sym (flat_map_map (λ (g : Group). (given (group_row (suc n) functions g)).rows) made (keys (suc n) rows)))
      (sym (flat_map_map (λ (g : Group). (given (group_row (suc n) functions g)).codes) made (keys (suc n) rows)))

  over_values : (work : List Val → Flow (List Val)) (entries : List Row) → flow_over (λ (e : Row). work e.values) entries ≡ flow_over work (tables.values_of entries)
  over_values work entries = ap₂ (λ (rs : List (List Val)) (cs : List Code). let f : Flow (List Val) = record { rows = rs; codes = cs } in f) (same (λ key. (work key).rows) entries) (same (λ key. (work key).codes) entries)
    where
      same : {A : Type 0} (f : List Val → List A) (es : List Row) → flat_map (λ (e : Row). f e.values) es ≡ flat_map f (tables.values_of es)
      same f [] = refl
      same f (e ∷ es) = ap (λ (l : List _). f e.values ++ l) (same f es)

  pub groups_alike : (columns : ℕ) (functions : List SetFunctionKind) (rows : List (List Val)) (entries : List Row) → 1 ≤ columns → AreMet columns rows entries →
      Alike (flow_over (λ (e : Row). flow_by (function_values columns functions (members columns e.values rows)) (λ vs. fed [] (filter having ∷ []) (select items) (e.values ++ vs))) entries)
      (each (selected items) (each (kept having) (grouped_table columns functions (record { rows = rows; codes = [] }))))
  groups_alike columns functions rows entries some met =
      let work : List Val → Flow (List Val) = λ key. flow_by (function_values columns functions (members columns key rows)) (λ vs. fed [] (filter having ∷ []) (select items) (key ++ vs)) in
      let ks : List (List Val) = keys columns rows in
      let ends : Flow (List Val) → Flow (List Val) = λ f. each (selected items) (each (kept having) f) in
      alike_trans (flow_over (λ (e : Row). work e.values) entries) (flow_over work (tables.values_of entries)) (ends (grouped_table columns functions (record { rows = rows; codes = [] })))
      (alike_is (flow_over (λ (e : Row). work e.values) entries) (flow_over work (tables.values_of entries)) (over_values work entries))
      (alike_trans (flow_over work (tables.values_of entries)) (flow_over work ks) (ends (grouped_table columns functions (record { rows = rows; codes = [] })))
      (over_permuted work (tables.values_of entries) ks met)
      (subst (λ (f : Flow (List Val)). Alike (flow_over work ks) (ends f)) (table_is columns functions rows some) (chain_alike columns functions rows ks)))

-- of a query with a grouped column
pub behind_alike : (query : Grouped) (rows : List (List Val)) (entries : List Row) → 1 ≤ length query.columns → AreMet (length query.columns) rows entries →
    Alike (flow_over (λ (e : Row). flow_by (function_values (length query.columns) (kinds_of query.functions) (members (length query.columns) e.values rows)) (λ vs. fed [] (filter query.having ∷ []) (select query.items) (e.values ++ vs))) entries)
    (behind_front query (record { rows = rows; codes = [] }))
behind_alike query rows entries some met = groups_alike query.having query.items (length query.columns) (kinds_of query.functions) rows entries some met
