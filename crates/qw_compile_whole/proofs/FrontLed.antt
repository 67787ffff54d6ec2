-- The pipelines of a query whose last one's rows go into a table of groups, with one more behind them: how many there are, what they take, the locals that lead
-- to their tables, and the columns that they read.
use Rattle.std.proofs.Common.{◌≡◌, ◌∙◌, ◌≤◌, ◌<◌, ℕ, ◌+◌, true, Contains, List, [], ◌∷◌, ◌++◌, length, length-append, map, refl, sym, ap, subst, arith}
use Rattle.std.specs.List.{AllByRecursion}
use Rattle.std.proofs.lemmas.List.{length-map, map-append}
use Rattle.std.specs.declared.cmp.Ordering.TheVariants as ordering
use Rattle.qw_types.specs.ValueOrder.{is_same_row, value_order}
use Rattle.qw_types.specs.declared.value.Val.{Val}
use Rattle.qw_module.specs.declared.instruction.ValType.{ValType}
use Rattle.qw_scalar.specs.Expression.{Condition, Expression}
use Rattle.qw_scalar.specs.Typing.{kind_of}
use Rattle.qw_map.specs.Layout.{Layout, entry_offset}
use Rattle.qw_map.specs.declared.layout.Used.{Used}
use Rattle.qw_meaning.specs.Query.{QueryParts, query_of}
use Rattle.qw_meaning.specs.Select.{entries_of}
use Rattle.qw_leaves.proofs.LeafLists.{all_back, all_front}
use Rattle.qw_algebra.proofs.Lists.{all_append, all_map, all_more}
use Rattle.qw_expr.specs.Computes.{Known}
use Rattle.qw_read.specs.Constants.{IsSmall}
use Rattle.qw_read.specs.Reading.{known_of}
use Rattle.qw_read.specs.declared.constant.Word.{Word}
use Rattle.qw_pipe.specs.Pipes.{pipelines}
use Rattle.qw_physical.specs.Coded.{pipeline_of}
use Rattle.qw_physical.specs.Named.{numbers}
use Rattle.qw_physical.specs.Physical.{Pipeline, filter, select}
use Rattle.qw_physical.specs.Typed.{IsTypedPhysical}
use Rattle.qw_physical.specs.declared.pipeline.Pipeline as coded
use Rattle.qw_physical.specs.declared.pipeline.ReadColumn.{ReadColumn}
use Rattle.qw_operator.specs.Takes.{CanCarry, CanSink}
use Rattle.qw_operator.proofs.CarriedTyped.{AreLed, IsLed}
use Rattle.qw_promise.specs.Compiled.{IsUsedOf}
use Rattle.qw_operator.specs.Grouping.{Group}
use Rattle.qw_compile.specs.QueryColumns.{AreColumnsOf}
use Rattle.qw_compile.specs.QueryLiterals.{query_texts, query_words}
use Rattle.qw_compile.specs.QueryMade.{CanStand, literal_locals, literals_by}
use Rattle.qw_compile.specs.QueryPasses.{ArePipelinesOf}
use Rattle.qw_compile.specs.UsedColumns.{AreUsedAt}
use Rattle.qw_compile.proofs.Directories.{IsBelow, all_below, leading}
use Rattle.qw_compile.proofs.Laid.{are_laid, are_used, used_many}
use Rattle.qw_compile.proofs.LocalsPlaced.{literal_count, literals_known}
use Rattle.qw_compile.proofs.PipelineRuns.{readers_of}
use Rattle.qw_compile.proofs.Planned.{IsPartedOf, are_sized, parted_as, same_long}
use Rattle.qw_compile.proofs.PromiseKept.{SelectsItems, last_selects}
use Rattle.qw_compile.proofs.QueryReach.{table_of}
use Rattle.qw_compile.proofs.QueryRuns.{AreLaid}
use Rattle.qw_compile.proofs.QueryTyped.{IsLeading, directory_is, types}
use Rattle.qw_compile.proofs.SmallWords.{words_small}
use Rattle.qw_compile_whole.proofs.GroupedStands.{front_stands}

-- the columns of what reaches the groups, its pipelines, and one more behind them, whose texts are all among these
pub record FrontOf (texts : List (List ℕ)) (layout : Layout) : Type 0 where
  pub parts : QueryParts
  pub kept : List ReadColumn
  pub columns : List ReadColumn
  pub are : AreColumnsOf parts kept columns
  pub used : List Used
  pub used_at : AreUsedAt (entries_of (query_of parts).sources) (numbers columns) used
  pub used_are : layout.columns ≡ used
  pub ps : List coded.Pipeline
  pub of : ArePipelinesOf parts kept ps
  pub behind : coded.Pipeline
  pub among : AllByRecursion (Contains texts) (query_texts (ps ++ behind ∷ []))
  pub building : List Pipeline
  pub last : Pipeline
  pub whole : map pipeline_of ps ≡ building ++ last ∷ []
  pub group : Group
  pub values_are : last.sink ≡ select group.values

chosen_same : (a b : List Expression) → select a ≡ select b → a ≡ b
chosen_same a b e = cc

module _ {texts : List (List ℕ)} {layout : Layout} (f : FrontOf texts layout) where
  abbrev all : List coded.Pipeline
  all = f.ps ++ f.behind ∷ []

  -- its literals, and where those begin that are texts
  abbrev pub front_words : List Word
  front_words = query_words (f.ps ++ f.behind ∷ [])

  abbrev pub front_at : ℕ
  front_at = entry_offset (length layout.columns)

  abbrev pub front_count : ℕ
  front_count = literal_count texts front_words

  abbrev pub literals_over : (tables : ℕ) → List Known
  literals_over tables = literals_known tables front_at texts front_words

  abbrev pub cut : IsPartedOf f.kept f.of.node (map pipeline_of f.ps)
  cut =
      let same = parted_as f.kept f.of.node (map pipeline_of f.ps) f.building f.last f.whole f.of.same in
      record { building = f.building; last = f.last; whole = f.whole; same = same.0; same_last = same.1 }

  -- ---- how many
  pub built_one_less : length f.building + 1 ≡ length f.ps
  built_one_less =
      let one = length-map f.ps pipeline_of in
      let two = ap (λ (l : List Pipeline). length l) f.whole in
      let three = length-append f.building (f.last ∷ []) in
      omega (arith, one, two, three)

  pub built_low : length f.building < length f.ps
  built_low = let one = built_one_less in omega (arith, one)

  -- ---- columns
  pub columns_many : length f.columns ≡ length layout.columns
  columns_many = sym (used_many (entries_of (query_of f.parts).sources) f.columns f.used f.used_at) ∙ ap (λ (l : List Used). length l) (sym f.used_are)

  pub used_columns : AllByRecursion (IsUsedOf (entries_of (query_of f.parts).sources)) layout.columns
  used_columns = subst (AllByRecursion (IsUsedOf (entries_of (query_of f.parts).sources))) (sym f.used_are) (are_used (entries_of (query_of f.parts).sources) (numbers f.columns) f.used f.used_at)

  pub laid_columns : AreLaid (table_of (entries_of (query_of f.parts).sources)) layout.columns f.columns
  laid_columns =
      subst (λ (l : List Used). AreLaid (table_of (entries_of (query_of f.parts).sources)) l f.columns) (sym f.used_are)
      (are_laid (entries_of (query_of f.parts).sources) f.columns f.used f.used_at f.are.declared (are_sized (entries_of (query_of f.parts).sources) f.columns f.are.sized f.are.declared))

  -- ---- words, and what goes into groups
  pub small_words : IsTypedPhysical (pipeline_of f.behind) → AllByRecursion IsSmall (query_words (f.ps ++ f.behind ∷ []))
  small_words behind_typed =
      words_small all (subst (AllByRecursion IsTypedPhysical) (sym (map-append pipeline_of f.ps (f.behind ∷ []))) (all_append IsTypedPhysical (map pipeline_of f.ps) (pipeline_of f.behind ∷ []) f.of.typed (behind_typed, tt)))

  pub front_kinds : ((row other : List Val) → is_same_row row other ≡ true → row ≡ other) → ((a : Val) → value_order a a ≡ ordering.Equal) → map kind_of f.group.values ≡ map kind_of (query_of f.parts).items
  front_kinds row_is value_is =
      let chosen : SelectsItems (query_of f.parts).items f.last.sink = last_selects row_is value_is f.parts f.kept f.columns f.ps f.are f.of cut in
      ap (λ (l : List Expression). map kind_of l) (chosen_same f.group.values chosen.made (sym f.values_are ∙ chosen.is)) ∙ chosen.kinds

  -- ---- over so many tables
  module _ (T : ℕ) (room : length f.ps ≤ T) where
    -- what they take, where the layout has so many columns
    abbrev Takes : ℕ → Pipeline → Type 0
    Takes n p = CanCarry (literals_by T n texts all ++ map known_of (readers_of T (literal_locals texts all) f.columns p.entry)) p.operators p.sink

    takes : AllByRecursion (Takes (length f.columns)) (f.building ++ f.last ∷ [])
    takes =
        subst (AllByRecursion (Takes (length f.columns))) f.whole
        (all_map (Takes (length f.columns)) pipeline_of f.ps
        (all_more (λ (q : coded.Pipeline). CanStand T texts all f.columns (pipeline_of q)) (λ (q : coded.Pipeline). Takes (length f.columns) (pipeline_of q)) f.ps (λ q h. h.takes)
        (front_stands f.parts f.kept f.columns f.ps f.are f.of T texts f.behind f.among)))

    building_takes : AllByRecursion (Takes (length f.columns)) f.building
    building_takes = all_front (Takes (length f.columns)) f.building (f.last ∷ []) takes

    last_takes : Takes (length f.columns) f.last
    last_takes = (all_back (Takes (length f.columns)) f.building (f.last ∷ []) takes).0

    pub front_takes : AllByRecursion (Takes (length layout.columns)) f.building
    front_takes = subst (λ (m : ℕ). AllByRecursion (Takes m) f.building) columns_many building_takes

    pub end_takes : Takes (length layout.columns) f.last
    end_takes = subst (λ (m : ℕ). Takes m f.last) columns_many last_takes

    -- the locals that lead to their tables
    below : AllByRecursion (IsBelow (length f.building)) (f.building ++ f.last ∷ [])
    below =
        let one = length-map f.ps pipeline_of in
        let long = same_long f.kept (pipelines f.of.node) (map pipeline_of f.ps) f.of.same in
        let count = built_one_less in
        subst (AllByRecursion (IsBelow (length f.building))) f.whole (all_below f.kept f.of.node (length f.building) (map pipeline_of f.ps) (omega (arith, count, one, long)) f.of.same)

    module _ (own : List ValType) where
      abbrev declared : List ValType
      declared = types T (entry_offset (length f.columns)) f.columns texts front_words own

      leads_one : (p : Pipeline) → IsBelow (length f.building) p → Takes (length f.columns) p → IsLeading declared p
      leads_one p less can =
          leading declared (length f.building) (λ t h. let fewer = built_one_less in directory_is T (entry_offset (length f.columns)) f.columns texts front_words own t (omega (arith, h, fewer, room))) refl refl
          (literals_by T (length f.columns) texts all ++ map known_of (readers_of T (literal_locals texts all) f.columns p.entry)) p less can

      all_lead : (qs : List Pipeline) → AllByRecursion (IsBelow (length f.building)) qs → AllByRecursion (Takes (length f.columns)) qs → AllByRecursion (IsLeading declared) qs
      all_lead [] less can = tt
      all_lead (q ∷ qs) less can = (leads_one q less.0 can.0, all_lead qs less.1 can.1)

      pub front_leads : AllByRecursion (IsLeading declared) f.building
      front_leads = all_lead f.building (all_front (IsBelow (length f.building)) f.building (f.last ∷ []) below) building_takes

      pub end_leads : AreLed declared f.last.operators
      end_leads = (leads_one f.last (all_back (IsBelow (length f.building)) f.building (f.last ∷ []) below).0 last_takes).0

      -- what makes the result looks nothing up
      pub result_leads : (p : Pipeline) (cs : List Condition) (items : List Expression) → p.operators ≡ filter cs ∷ [] → p.sink ≡ select items → length items ≤ 512 → IsLeading declared p
      result_leads p cs items operators_are sink_is few = (subst (AreLed declared) (sym operators_are) tt, subst (IsLed declared) (sym sink_is) (refl, refl), subst CanSink (sym sink_is) few)
