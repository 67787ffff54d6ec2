-- The groups of a query can be emitted: its values are taken by its set functions, and HAVING and the select list take only columns of the grouped table and
-- literals.
use Rattle.std.proofs.Common.{◌≡◌, ℕ, zero, suc, ◌+◌, ◌≤◌, IsTrue, Option, Some, None, Contains, slice_get, List, [], ◌∷◌, ◌++◌, length, length-append, map, drop, refl, sym, ap, ap₂, ◌∙◌, subst, append-nil, arith}
use Rattle.std.specs.List.{AllByRecursion, AllZip, flat_map}
use Rattle.std.proofs.lemmas.List.{length-map, map-append}
use Rattle.std.proofs.Math.Seq.{drop-append_seam}
use Rattle.std.proofs.lemmas.Option.{same_Some}
use Rattle.qw_types.specs.declared.kind.Kind.{Kind}
use Rattle.qw_types.specs.declared.kind.Kind.TheVariants as kind
use Rattle.qw_types.specs.declared.value.Ty.{Ty}
use Rattle.qw_scalar.specs.Columns.{HasColumns, HaveColumns}
use Rattle.qw_scalar.specs.Expression.{Condition, Expression}
use Rattle.qw_scalar.specs.Typing.{AreTyped, HasKind, has_kind, is_number, kind_of}
use Rattle.qw_scalar.proofs.ColumnLemmas.{columns_more, conditions_more}
use Rattle.qw_meaning.specs.Select.{IsConditionOver, IsItemOver}
use Rattle.qw_leaves.proofs.LeafLists.{all_back, all_front}
use Rattle.qw_leaves.specs.declared.leaf.Leaf.{Leaf}
use Rattle.qw_fold.specs.Stands.{Follows, FollowsTruth}
use Rattle.qw_grouped.specs.Grouped.{Grouped, HasAverage, IsGroupColumn, IsGrouped, SetFunction, Takes, arguments_of, expression_of_column, front, kinds_of, type_of_function, types_of_group}
use Rattle.qw_grouped.specs.declared.query.GroupedColumn.{GroupedColumn}
use Rattle.qw_grouped.specs.declared.set_function.SetFunctionKind.{SetFunctionKind}
use Rattle.qw_grouped.specs.declared.set_function.SetFunctionKind.TheVariants.{CountRows, Count, Sum, Avg, Min, Max}
use Rattle.qw_expr.specs.Computes.{Known}
use Rattle.qw_physical.specs.Coded.{pipeline_of}
use Rattle.qw_physical.specs.Named.{typed_numbers}
use Rattle.qw_physical.specs.Physical.{Operator, Sink, filter, select}
use Rattle.qw_physical.specs.Typed.{IsValued}
use Rattle.qw_physical.specs.declared.pipeline.Pipeline as coded
use Rattle.qw_physical.specs.declared.pipeline.ReadColumn.{ReadColumn}
use Rattle.qw_physical.proofs.Shown.{IsAmong, Shows, ShowsIn, behind as further, front_is, none_among}
use Rattle.qw_operator.specs.Takes.{CanCarry, anywhere}
use Rattle.qw_operator.specs.Grouping.{CanGroup, TakeKinds, TakesKind}
use Rattle.qw_group_pipeline.specs.Groups.{all_anywhere, value_anywhere}
use Rattle.qw_group_pipeline.specs.declared.columns.ValueColumn.{ValueColumn}
use Rattle.qw_group_pipeline.proofs.GroupsFeed.{AreNumbered}
use Rattle.qw_group_pipeline.proofs.ValuesCome.{column_for}
use Rattle.qw_compile.specs.QueryLiterals.{operator_leaves, pipeline_leaves, query_texts, sink_leaves}
use Rattle.qw_compile.specs.QueryMade.{literals_by}
use Rattle.qw_compile.proofs.QueryCan.{IsLiteralOf, KnowsAll, OperatorLeaves, SinkLeaves, can_carry, knows_kept, literals_behind, literals_known, operators_have, sink_has}
use Rattle.qw_compile_whole.specs.GroupColumns.{IsBehind, key_columns, key_from, value_columns, values_from}
use Rattle.qw_compile_whole.specs.GroupedPlaced.{group_over}

-- ---- how many there are
pub key_long : (n : ℕ) (columns : List GroupedColumn) → length (key_from n columns) ≡ length columns
key_long n [] = refl
key_long n (c ∷ columns) = ap suc (key_long (n + 1) columns)

pub values_long : (n : ℕ) (functions : List SetFunction) → length (values_from n functions) ≡ length functions
values_long n [] = refl
values_long n (f ∷ functions) = ap suc (values_long (n + 1) functions)

pub few_both : (query : Grouped) → IsGrouped query → length query.columns + length query.functions ≤ 512
few_both query grouped =
    let some = length-map query.columns expression_of_column in
    let others = length-map query.functions (λ (f : SetFunction). f.argument) in
    let both = length-append (map expression_of_column query.columns) (arguments_of query.functions) in
    omega (arith, some, others, both, grouped.front.few_items)

-- ---- the set functions
pub functions_kinds : (n : ℕ) (functions : List SetFunction) → map (λ (v : ValueColumn). v.function) (values_from n functions) ≡ kinds_of functions
functions_kinds n [] = refl
functions_kinds n (f ∷ functions) = ap (λ (l : List SetFunctionKind). f.kind ∷ l) (functions_kinds (n + 1) functions)

averaged : (k : Option Kind) → HasAverage k → IsTrue (is_number k)
averaged None h = absurd h
averaged (Some (kind.Number s)) h = refl
averaged (Some kind.Date) h = absurd h
averaged (Some kind.Text) h = absurd h

takes_kind : (f : SetFunctionKind) (e : Expression) → Takes f e → TakesKind f (kind_of e)
takes_kind CountRows e h = tt
takes_kind Count e h = tt
takes_kind Sum e h = h
takes_kind Avg e h = averaged (kind_of e) h
takes_kind Min e h = tt
takes_kind Max e h = tt

take_kinds : (functions : List SetFunction) → AllByRecursion (λ (f : SetFunction). Takes f.kind f.argument) functions → TakeKinds (kinds_of functions) (map kind_of (arguments_of functions))
take_kinds [] h = tt
take_kinds (f ∷ functions) h = (takes_kind f.kind f.argument h.0, take_kinds functions h.1)

-- values of the kinds of the front's items can go into groups
pub can_group : (query : Grouped) (grouped : IsGrouped query) (n : ℕ) (items : List Expression) → map kind_of items ≡ map kind_of (front query).items → CanGroup (group_over n (key_columns query) (value_columns query) items)
can_group query grouped n items kinds =
    let some : List Expression = map expression_of_column query.columns in
    let others : List Expression = arguments_of query.functions in
    let one = ap (λ (l : List (Option Kind)). length l) kinds in
    let two = length-map items kind_of in
    let three = length-map (some ++ others) kind_of in
    let four = length-append some others in
    let five = length-map query.columns expression_of_column in
    let six = length-map query.functions (λ (f : SetFunction). f.argument) in
    let seven = key_long 0 query.columns in
    let eight = ap (λ (l : List SetFunctionKind). length l) (functions_kinds (length query.columns) query.functions) in
    let nine = length-map query.functions (λ (f : SetFunction). f.kind) in
    let place : length (key_from 0 query.columns) ≡ length (map kind_of some) = omega (arith, seven, five, length-map some kind_of) in
    let dropped : drop (length (key_from 0 query.columns)) (map kind_of items) ≡ map kind_of others =
    ap₂ (λ (m : ℕ) (l : List (Option Kind)). drop m l) place (kinds ∙ map-append kind_of some others) ∙ drop-append_seam (map kind_of some) (map kind_of others) in
    record {
      many = omega (arith, one, two, three, four, five, six, seven, eight, nine);
      few = omega (arith, one, two, three, grouped.front.few_items);
      arguments = subst (λ (fs : List SetFunctionKind). TakeKinds fs (drop (length (key_from 0 query.columns)) (map kind_of items))) (sym (functions_kinds (length query.columns) query.functions))
          (subst (TakeKinds (kinds_of query.functions)) (sym dropped) (take_kinds query.functions grouped.functions));
    }

-- ---- the grouped table's columns
abbrev pub table_columns : Grouped → List ReadColumn
table_columns query = key_columns query ++ map column_for (value_columns query)

pub key_numbered : (n : ℕ) (columns : List GroupedColumn) → AreNumbered n (key_from n columns)
key_numbered n [] = tt
key_numbered n (c ∷ columns) = (refl, key_numbered (n + 1) columns)

pub values_numbered : (n : ℕ) (functions : List SetFunction) → AreNumbered n (map column_for (values_from n functions))
values_numbered n [] = tt
values_numbered n (f ∷ functions) = (refl, values_numbered (n + 1) functions)

both_numbered : (n : ℕ) (xs ys : List ReadColumn) → AreNumbered n xs → AreNumbered (n + length xs) ys → AreNumbered n (xs ++ ys)
both_numbered n [] ys h g = subst (λ (m : ℕ). AreNumbered m ys) (let place : n + length {A = ReadColumn} [] ≡ n = omega arith in place) g
both_numbered n (x ∷ xs) ys h g = (h.0, both_numbered (n + 1) xs ys h.1 (subst (λ (m : ℕ). AreNumbered m ys) (let place : n + length (x ∷ xs) ≡ n + 1 + length xs = omega arith in place) g))

abbrev types_in : List ReadColumn → List Ty
types_in columns = map (λ (c : ReadColumn). c.ty) columns

key_types : (n : ℕ) (columns : List GroupedColumn) → types_in (key_from n columns) ≡ map (λ (c : GroupedColumn). c.ty) columns
key_types n [] = refl
key_types n (c ∷ columns) = ap (λ (l : List Ty). c.ty ∷ l) (key_types (n + 1) columns)

values_types : (n : ℕ) (functions : List SetFunction) → types_in (map column_for (values_from n functions)) ≡ map type_of_function functions
values_types n [] = refl
values_types n (f ∷ functions) = ap (λ (l : List Ty). type_of_function f ∷ l) (values_types (n + 1) functions)

table_types : (query : Grouped) → types_in (table_columns query) ≡ types_of_group query
table_types query =
    map-append (λ (c : ReadColumn). c.ty) (key_columns query) (map column_for (value_columns query)) ∙ ap₂ (λ (xs ys : List Ty). xs ++ ys) (key_types 0 query.columns) (values_types (length query.columns) query.functions)

numbered_among : (n : ℕ) (columns : List ReadColumn) (i : ℕ) (ty : Ty) → AreNumbered n columns → slice_get (types_in columns) i ≡ Some ty → IsAmong (typed_numbers columns) (n + i) ty
numbered_among n [] i ty h e = absurd cc
numbered_among n (c ∷ columns) zero ty h e =
    let place : c.number ≡ n + zero = omega (arith, h.0) in
    front_is (c.number, c.ty) (typed_numbers columns) (n + zero, ty) (ap₂ (λ (m : ℕ) (t : Ty). (m, t)) place (same_Some c.ty ty e))
numbered_among n (c ∷ columns) (suc i) ty h e =
    let place : n + 1 + i ≡ n + suc i = omega arith in
    further (c.number, c.ty) (typed_numbers columns) (n + suc i, ty) (subst (λ (m : ℕ). IsAmong (typed_numbers columns) m ty) place (numbered_among (n + 1) columns i ty h.1 e))

group_column : (query : Grouped) (i : ℕ) (ty : Ty) → IsGroupColumn query i ty → IsAmong (typed_numbers (table_columns query)) i ty
group_column query i ty h =
    let numbered : AreNumbered 0 (table_columns query) =
    both_numbered 0 (key_columns query) (map column_for (value_columns query)) (key_numbered 0 query.columns)
    (subst (λ (m : ℕ). AreNumbered m (map column_for (value_columns query))) (let place : length query.columns ≡ 0 + length (key_columns query) = omega (arith, key_long 0 query.columns) in place) (values_numbered (length query.columns) query.functions)) in
    let place : 0 + i ≡ i = omega arith in
    subst (λ (m : ℕ). IsAmong (typed_numbers (table_columns query)) m ty) place
    (numbered_among 0 (table_columns query) i ty numbered (ap (λ (l : List Ty). slice_get l i) (table_types query) ∙ h))

-- ---- HAVING and the select list
kind_kept : (e f : Expression) → kind_of e ≡ kind_of f → HasKind e → HasKind f
kind_kept e f same h = subst (λ (k : Option Kind). IsTrue (has_kind k)) same h

pub tests_follow : (query : Grouped) (cs ds : List Condition) → AllZip FollowsTruth cs ds → AllByRecursion (IsConditionOver (IsGroupColumn query)) cs → AllByRecursion AreTyped ds × AllByRecursion (ShowsIn (table_columns query)) ds
tests_follow query [] [] z h = (tt, tt)
tests_follow query [] (d ∷ ds) z h = absurd z
tests_follow query (c ∷ cs) [] z h = absurd z
tests_follow query (c ∷ cs) (d ∷ ds) z h =
    let rest = tests_follow query cs ds z.1 h.1 in
    let shown : HaveColumns (IsAmong (typed_numbers (table_columns query))) c = conditions_more (IsGroupColumn query) (IsAmong (typed_numbers (table_columns query))) (group_column query) c h.0.1 in
    ((z.0.typed h.0.0, rest.0), (z.0.columns (typed_numbers (table_columns query)) shown, rest.1))

pub items_follow : (query : Grouped) (es fs : List Expression) → AllZip Follows es fs → AllByRecursion (IsItemOver (IsGroupColumn query)) es → AllByRecursion IsValued fs × AllByRecursion (Shows (table_columns query)) fs
items_follow query [] [] z h = (tt, tt)
items_follow query [] (f ∷ fs) z h = absurd z
items_follow query (e ∷ es) [] z h = absurd z
items_follow query (e ∷ es) (f ∷ fs) z h =
    let rest = items_follow query es fs z.1 h.1 in
    let shown : HasColumns (IsAmong (typed_numbers (table_columns query))) e = columns_more (IsGroupColumn query) (IsAmong (typed_numbers (table_columns query))) (group_column query) e h.0.1 in
    (((z.0.typed h.0.0.0, kind_kept e f z.0.same.kind h.0.0.1), rest.0), (z.0.columns (typed_numbers (table_columns query)) shown, rest.1))

pub follow_long : (es fs : List Expression) → AllZip Follows es fs → length fs ≡ length es
follow_long [] [] z = refl
follow_long [] (f ∷ fs) z = absurd z
follow_long (e ∷ es) [] z = absurd z
follow_long (e ∷ es) (f ∷ fs) z = ap suc (follow_long es fs z.1)

values_anywhere : (values : List ValueColumn) → map anywhere (map column_for values) ≡ map value_anywhere values
values_anywhere [] = refl
values_anywhere (v ∷ values) = ap (λ (l : List Known). value_anywhere v ∷ l) (values_anywhere values)

table_anywhere : (query : Grouped) → map anywhere (table_columns query) ≡ all_anywhere (key_columns query) (value_columns query)
table_anywhere query = map-append anywhere (key_columns query) (map column_for (value_columns query)) ∙ ap (λ (l : List Known). map anywhere (key_columns query) ++ l) (values_anywhere (value_columns query))

last_leaves : (R : Leaf → Type 0) (ps : List coded.Pipeline) (behind : coded.Pipeline) → AllByRecursion R (flat_map pipeline_leaves (ps ++ behind ∷ [])) → AllByRecursion R (pipeline_leaves behind)
last_leaves R [] behind h = all_front R (pipeline_leaves behind) [] h
last_leaves R (p ∷ ps) behind h = last_leaves R ps behind (all_back R (pipeline_leaves p) (flat_map pipeline_leaves (ps ++ behind ∷ [])) h)

-- they can be evaluated at the groups, where the texts of all pipelines are among these
pub behind_can : (query : Grouped) (grouped : IsGrouped query) (behind : coded.Pipeline) (h : IsBehind query (pipeline_of behind)) (tables n : ℕ) (ts : List (List ℕ)) (ps : List coded.Pipeline) → AllByRecursion (Contains ts) (query_texts (ps ++ behind ∷ [])) →
    CanCarry (all_anywhere (key_columns query) (value_columns query) ++ literals_by tables n ts (ps ++ behind ∷ [])) (pipeline_of behind).operators (pipeline_of behind).sink
behind_can query grouped behind h tables n ts ps among =
    let L : List Known = literals_by tables n ts (ps ++ behind ∷ []) in
    let seen : List ReadColumn = table_columns query in
    let R : Leaf → Type 0 = IsLiteralOf L in
    let leaves : AllByRecursion R (pipeline_leaves behind) = last_leaves R ps behind (literals_known tables n ts (ps ++ behind ∷ []) among) in
    let tests = tests_follow query query.having h.having h.having_follow grouped.having in
    let items = items_follow query query.items h.items h.items_follow grouped.items in
    let has : KnowsAll (map anywhere seen ++ L) (seen ++ []) = knows_kept seen [] L (λ i ty g. absurd (none_among (i, ty) g)) in
    let tests_leaves : AllByRecursion (OperatorLeaves R) (filter h.having ∷ []) =
    subst (AllByRecursion (OperatorLeaves R)) h.operators_are (operators_have R behind.operators.items (all_front R (flat_map operator_leaves behind.operators.items) (sink_leaves behind.sink) leaves)) in
    let items_leaves : SinkLeaves R (select h.items) = subst (SinkLeaves R) h.sink_is (sink_has R behind.sink (all_back R (flat_map operator_leaves behind.operators.items) (sink_leaves behind.sink) leaves)) in
    let few : length h.items ≤ 512 = omega (arith, follow_long query.items h.items h.items_follow, grouped.few_items) in
    let all : CanCarry (map anywhere seen ++ L) (filter h.having ∷ []) (select h.items) =
    can_carry R (λ i ty. tt) (filter h.having ∷ []) (select h.items) (map anywhere seen ++ L) seen (λ l g. literals_behind (map anywhere seen) L l g) (subst (KnowsAll (map anywhere seen ++ L)) (append-nil seen) has)
    (tests.0, tt) items.0 tests_leaves items_leaves (tt, tt) few (tests.1, items.1) in
    subst (λ (ks : List Known). CanCarry (ks ++ L) (pipeline_of behind).operators (pipeline_of behind).sink) (table_anywhere query)
    (subst (λ (os : List Operator). CanCarry (map anywhere seen ++ L) os (pipeline_of behind).sink) (sym h.operators_are) (subst (λ (s : Sink). CanCarry (map anywhere seen ++ L) (filter h.having ∷ []) s) (sym h.sink_is) all))
