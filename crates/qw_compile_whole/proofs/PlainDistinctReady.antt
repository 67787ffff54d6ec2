-- The rows of a query's select list can go into a table of groups over all their columns, and be read out of it again, where its items are typed (ISO/IEC
-- 9075:1992, 7.9).
use Rattle.std.proofs.Common.{◌≡◌, ◌∙◌, ℕ, ◌+◌, true, Option, Some, None, IsTrue, List, [], ◌∷◌, ◌++◌, length, map, refl, sym, ap, ap₂}
use Rattle.std.specs.List.{AllByRecursion}
use Rattle.std.proofs.lemmas.List.{length-map}
use Rattle.std.specs.declared.cmp.Ordering.TheVariants as ordering
use Rattle.qw_types.specs.ValueOrder.{is_same_row, value_order}
use Rattle.qw_types.specs.declared.kind.Kind.{Kind}
use Rattle.qw_types.specs.declared.kind.Kind.TheVariants as kind
use Rattle.qw_types.specs.declared.value.Val.{Val}
use Rattle.qw_scalar.specs.Expression.{Expression}
use Rattle.qw_scalar.specs.Typing.{HasKind, IsTyped, has_kind, kind_of}
use Rattle.qw_meaning.specs.Query.{QueryParts, query_of}
use Rattle.qw_meaning.specs.Select.{IsColumnOf, IsItemOver, entries_of}
use Rattle.qw_algebra.proofs.Lists.{all_more}
use Rattle.qw_grouped.specs.Grouped.{expression_of_column, widest}
use Rattle.qw_expr.specs.Computes.{Known}
use Rattle.qw_physical.specs.Coded.{pipeline_of}
use Rattle.qw_physical.specs.Physical.{filter, select}
use Rattle.qw_physical.specs.Typed.{IsValued}
use Rattle.qw_physical.specs.declared.pipeline.Pipeline as coded
use Rattle.qw_physical.specs.declared.pipeline.ReadColumn.{ReadColumn}
use Rattle.qw_operator.specs.Takes.{CanCarry, IsValueOver}
use Rattle.qw_operator.specs.Grouping.{CanGroup, Group}
use Rattle.qw_group_pipeline.specs.Groups.{all_anywhere}
use Rattle.qw_compile.specs.QueryColumns.{AreColumnsOf}
use Rattle.qw_compile.specs.QueryPasses.{ArePipelinesOf}
use Rattle.qw_compile_whole.specs.GroupColumns.{key_from}
use Rattle.qw_compile_whole.specs.GroupedPlaced.{LastSelects, group_over}
use Rattle.qw_compile_whole.specs.WholeDistinct.{distinct_columns, distinct_grouping}
use Rattle.qw_compile_whole.proofs.DistinctTogether.{distinct_together}
use Rattle.qw_compile_whole.proofs.GroupBounded.{GoTogether}
use Rattle.qw_compile_whole.proofs.GroupedReady.{key_long}
use Rattle.qw_compile_whole.proofs.GroupedStands.{last_can}
use Rattle.qw_compile_whole.proofs.WholeBehind.{columns_many}

-- ---- kinds
kind_back : (k : Option Kind) → IsTrue (has_kind k) → kind_of (expression_of_column (record { number = 0; ty = widest k })) ≡ k
kind_back None some = absurd cc
kind_back (Some (kind.Number s)) some = refl
kind_back (Some kind.Date) some = refl
kind_back (Some kind.Text) some = refl

pub kinds_back : (n : ℕ) (items : List Expression) → AllByRecursion HasKind items → map kind_of (map expression_of_column (distinct_columns n items)) ≡ map kind_of items
kinds_back n [] some = refl
kinds_back n (e ∷ items) some = ap₂ (λ (k : Option Kind) (ks : List (Option Kind)). k ∷ ks) (kind_back (kind_of e) some.0) (kinds_back (n + 1) items some.1)

pub known_valued : (known : List Known) (es : List Expression) → AllByRecursion (IsValueOver known) es → AllByRecursion IsValued es
known_valued known es h = all_more (IsValueOver known) IsValued es (λ e g. g.0) h

-- ---- a group of these
pub group_over_long : (n : ℕ) (items : List Expression) → length (key_from 0 (distinct_columns n items)) ≡ length items
group_over_long n items = key_long 0 (distinct_columns n items) ∙ columns_many n items

module _ (parts : QueryParts) (kept columns : List ReadColumn) (ps : List coded.Pipeline) (are : AreColumnsOf parts kept columns) where
  abbrev items : List Expression
  items = (query_of parts).items

  pub items_typed : AllByRecursion IsTyped (query_of parts).items
  items_typed = all_more (IsItemOver (IsColumnOf (entries_of (query_of parts).sources))) IsTyped items (λ e h. h.0.0) are.specification.items

  pub items_kinds : AllByRecursion HasKind (query_of parts).items
  items_kinds = all_more (IsItemOver (IsColumnOf (entries_of (query_of parts).sources))) HasKind items (λ e h. h.0.1) are.specification.items

  -- the table goes with what is read out of it
  pub together_as : (g : Group) (literals : List Known) → g.columns ≡ length (key_from 0 (distinct_columns 0 (query_of parts).items)) → g.functions ≡ [] → length g.values ≡ length (query_of parts).items →
      GoTogether (distinct_grouping (query_of parts)) g (key_from 0 (distinct_columns 0 (query_of parts).items)) [] literals
  together_as g literals columns_is functions_is values_is =
      distinct_together (query_of parts) g literals items_typed are.specification.some_item are.specification.few_items (columns_is ∙ group_over_long 0 items) functions_is values_is

  -- what makes a row of each key takes the key's columns alone
  pub behind_takes : (literals : List Known) → CanCarry (all_anywhere (key_from 0 (distinct_columns 0 (query_of parts).items)) [] ++ literals) (filter [] ∷ []) (select (distinct_grouping (query_of parts)).items)
  behind_takes literals =
      let g : Group = group_over 1 (key_from 0 (distinct_columns 0 items)) [] items in
      (together_as g literals refl refl refl).takes

  pub behind_valued : AllByRecursion IsValued (distinct_grouping (query_of parts)).items
  behind_valued = known_valued (all_anywhere (key_from 0 (distinct_columns 0 items)) [] ++ []) (distinct_grouping (query_of parts)).items (behind_takes []).1.0

  module _ (of : ArePipelinesOf parts kept ps) (same_rows : (row other : List Val) → is_same_row row other ≡ true → row ≡ other) (same_value : (a : Val) → value_order a a ≡ ordering.Equal) where
    -- the rows of the last pipeline can go into it
    pub distinct_can : LastSelects (λ list. CanGroup (group_over (length ps) (key_from 0 (distinct_columns 0 (query_of parts).items)) [] list)) (map pipeline_of ps)
    distinct_can =
        last_can parts kept columns ps are of same_rows same_value (λ list. CanGroup (group_over (length ps) (key_from 0 (distinct_columns 0 items)) [] list))
        (λ made kinds. (together_as (group_over (length ps) (key_from 0 (distinct_columns 0 items)) [] made) [] refl refl (sym (length-map made kind_of) ∙ (ap (λ (l : List (Option Kind)). length l) kinds ∙ length-map items kind_of))).can)
