-- The statements of grouped queries are typed: with GROUP BY or without, with DISTINCT or not, and whether rows are counted or not.
use Rattle.std.proofs.Common.{◌≡◌, ℕ, ◌+◌, ◌*◌, ◌<◌, ◌≤◌, Option, Some, None, List, [], ◌∷◌, ◌++◌, length, map, refl, sym, subst, arith}
use Rattle.std.specs.List.{AllByRecursion}
use Rattle.qw_linear.specs.Memory.{page}
use Rattle.qw_module.specs.declared.instruction.ValType.{ValType}
use Rattle.qw_module.specs.declared.instruction.ValType.TheVariants.{I32, I64}
use Rattle.qw_leaves.proofs.LeafLists.{all_front}
use Rattle.qw_map.specs.Layout.{Layout, descriptor_size, entry_offset}
use Rattle.qw_map.specs.declared.layout.Used.{Used}
use Rattle.qw_low.specs.declared.step.LowStep.{LowStep}
use Rattle.qw_low.specs.Syntax.{Statement, seq}
use Rattle.qw_low.specs.Typing.{IsTyped}
use Rattle.qw_feed.specs.Cells.{kinds_of}
use Rattle.qw_feed.specs.Room.{space_block}
use Rattle.qw_feed.specs.Rows.{begin_block, finish_block}
use Rattle.qw_scalar.specs.Expression.{Condition}
use Rattle.qw_scalar.specs.Typing.{kind_of}
use Rattle.qw_expr.specs.Cells.{DeclaresValue}
use Rattle.qw_expr.specs.Computes.{Known, AreDeclared}
use Rattle.qw_read.specs.Constants.{IsSmall, SetsAll}
use Rattle.qw_read.specs.Reading.{known_of, DeclaresBases}
use Rattle.qw_read.specs.Texts.{LeadsToAll}
use Rattle.qw_read.specs.declared.constant.Word.{Word}
use Rattle.qw_read.specs.declared.reader.Reader.{Reader}
use Rattle.qw_table.specs.Joins.{sources_of}
use Rattle.qw_table.specs.Tables.{directory_block}
use Rattle.qw_table.specs.declared.key.Field.{Field}
use Rattle.qw_group.specs.Single.{single_block}
use Rattle.qw_group.specs.declared.group.Aggregate.{Aggregate}
use Rattle.qw_group.proofs.SingleRuns.{begins}
use Rattle.qw_physical.specs.Coded.{pipeline_of}
use Rattle.qw_physical.specs.Physical.{Pipeline, filter}
use Rattle.qw_physical.specs.declared.pipeline.Pipeline as coded
use Rattle.qw_physical.specs.declared.pipeline.ReadColumn.{ReadColumn}
use Rattle.qw_operator.specs.Carries.{directory}
use Rattle.qw_operator.proofs.CarriedTyped.{AreLed, IsReaderDeclared, carried_typed, row_to_typed}
use Rattle.qw_operator.proofs.Promised.{AreOwn}
use Rattle.qw_operator.specs.Grouping.{CanGroup, Group, IsGrouped, over_fields}
use Rattle.qw_operator.specs.Puts.{IsGroupedWithin, IsOneGroupWithin}
use Rattle.qw_operator.specs.OneGroup.{IsOneGroup}
use Rattle.qw_operator.proofs.GroupTyped.{grouped_typed}
use Rattle.qw_operator.proofs.GuardTyped.{grouped_within_typed, one_within_typed}
use Rattle.qw_operator.proofs.OneTyped.{one_typed}
use Rattle.qw_group_pipeline.specs.Groups.{Grouping, InEnd, InSink, IsGroupPipelineTo}
use Rattle.qw_group_pipeline.specs.declared.columns.ValueColumn.{ValueColumn}
use Rattle.qw_group_pipeline.proofs.GroupsTyped.{groups_into_typed, groups_typed, row_typed}
use Rattle.qw_group_pipeline.proofs.RowFeeds.{AreOfKinds}
use Rattle.qw_compile.specs.QueryLiterals.{query_words}
use Rattle.qw_compile.specs.QueryLocals.{own_start, readers_over}
use Rattle.qw_compile.specs.Statements.{AreCourses, Course, builds_block, course_block}
use Rattle.qw_compile.proofs.LiteralLemmas.{words_small}
use Rattle.qw_compile.proofs.LocalsDeclared.{CountsDeclared, begins_declared, first_own_types, rest_own_types}
use Rattle.qw_compile.proofs.LocalsPlaced.{all_over, literals_known, texts_placed, words_placed}
use Rattle.qw_compile.proofs.QueryTyped.{IsLeading, builds_typed, constants_typed, counts_typed, directory_is, directory_typed, end_is, known_over_typed, known_typed, left_is, n, own_types, parts_typed, readers, readers_typed, texts_typed, types}
use Rattle.qw_compile_whole.specs.DistinctMade.{IsDistinctMade}
use Rattle.qw_compile_whole.specs.DistinctStatements.{distinct_block_of}
use Rattle.qw_compile_whole.specs.GroupedMade.{IsGroupedMade}
use Rattle.qw_compile_whole.specs.GroupedStatements.{IsGatheringTo}
use Rattle.qw_compile_whole.specs.GuardedSingles.{IsTakingBy, one_group_block_by, take_block_by}
use Rattle.qw_compile_whole.specs.GuardedStatements.{IsGatheringBy, count_from, gather_block, guard_for, guarded_block_of, stop_at}
use Rattle.qw_compile_whole.specs.SingleMade.{IsSingleMade}
use Rattle.qw_compile_whole.proofs.FieldCounts.{areas_long}
use Rattle.qw_compile_whole.proofs.GuardedFronts.{IsGuard, guard_is}

module _ (T at : ℕ) (columns : List ReadColumn) (texts : List (List ℕ)) (words : List Word) (own : List ValType) where
  abbrev all : List ValType
  all = types T at columns texts words own

  abbrev literals : List Known
  literals = literals_known T at texts words

  abbrev rs : List Reader
  rs = readers T at columns texts words own

  abbrev start : ℕ
  start = own_start T (n T at columns texts words own) (length columns)

  literals_typed : AreDeclared all literals
  literals_typed = all_front (λ (k : Known). DeclaresValue all k.operand) literals (map known_of rs) (known_typed T at columns texts words own)

  -- ---- the scan of the rows
  -- by what is done innermost
  scan_typed : (End : List Known → (next : ℕ) → Statement → List ValType → Type 0) → ((known : List Known) (next : ℕ) (a : Statement) (more : List ValType) → AreDeclared all known → AreOwn all next more → End known next a more → IsTyped all a) →
      (next : ℕ) (p : Pipeline) (c : Course) (mine : List ValType) → IsGatheringTo End literals rs next p c mine → AreOwn all next mine → AreLed all p.operators → IsTyped all (course_block T c)
  scan_typed End end_typed next p c mine is owned led =
      let left = left_is T at columns texts words own in
      let end = end_is T at columns texts words own in (
        ((end, refl), ((I32, end, (end, (omega arith, refl), refl)), (I32, left, end))),
        (
          is.begins.typed all refl (begins_declared all (readers_over p.entry rs) (all_over (CountsDeclared all) p.entry rs (counts_typed T at columns texts words own)) (all_over (DeclaresBases all) p.entry rs (parts_typed T at columns texts words own))),
          (
            left,
            (
              row_to_typed all refl refl End end_typed literals (readers_over p.entry rs) next p.operators c.row mine (known_over_typed T at columns texts words own p.entry) (all_over (IsReaderDeclared all) p.entry rs (readers_typed T at columns texts words own)) owned led is.row,
              (I32, left, (left, (omega arith, refl), refl)),
            ),
          ),
        ),
      )

  -- where rows are counted
  counted_typed : (a : Statement) → IsTyped all a → IsTyped all (seq (count_from (Some 4)) (seq a (stop_at (Some 4))))
  counted_typed a typed = ((I64, refl, (omega arith, refl)), (typed, ((refl, refl), omega arith, tt)))

  module _ (next table : ℕ) (p : Pipeline) (g : Group) (fields : List Field) (c : Course) (mine : List ValType) (owned : AreOwn all next mine) (led : AreLed all p.operators) (can : CanGroup g) (low : table < T) (table_is : g.table ≡ table) where
    low_group : g.table < T
    low_group = omega (arith, table_is, low)

    -- rows that go into groups
    gather_typed : (guard : Option ℕ) → IsGuard guard → IsGatheringBy guard literals rs next p g fields c mine → IsTyped all (gather_block guard T table c)
    gather_typed None is_guard is = (
      directory_typed T at columns texts words own table low,
      scan_typed (λ known at' a more. IsGrouped fields known at' g a more)
          (λ known at' a more declared own_declared ended. grouped_typed all refl refl fields known at' g a more can (directory_is T at columns texts words own g.table low_group) declared own_declared ended) next p c mine is owned led,
    )
    gather_typed (Some z) is_guard is =
        subst (λ (k : ℕ). IsGatheringBy (Some k) literals rs next p g fields c mine → IsTyped all (gather_block (Some k) T table c)) (sym is_guard)
        (λ counted. counted_typed (gather_block None T table c) (
          directory_typed T at columns texts words own table low,
          scan_typed (λ known at' a more. IsGroupedWithin (Some 4) fields known at' g a more)
              (λ known at' a more declared own_declared ended. grouped_within_typed all refl refl (Some 4) fields known at' g a more refl can (directory_is T at columns texts words own g.table low_group) declared own_declared ended) next p c mine counted owned led,
        )) is

    -- rows that the areas take, one area for each set function
    module _ (none : g.columns ≡ 0) (field_kinds : kinds_of (sources_of fields) ≡ map kind_of g.values) where
      areas_typed : (aggregates : List Aggregate) → length aggregates ≤ 2000 → IsTyped all (single_block (32 * length aggregates) (directory table))
      areas_typed aggregates few = (begins (directory table) aggregates (omega arith) few).typed all refl refl (directory_is T at columns texts words own table low)

      group_areas_typed : IsTyped all (single_block (32 * length g.functions) (directory table))
      group_areas_typed =
          let many = areas_long g fields can none field_kinds in
          let values_many = can.many in
          let values_few = can.few in
          subst (λ (m : ℕ). IsTyped all (single_block (32 * m) (directory table))) many (areas_typed (over_fields g.functions fields) (omega (arith, many, values_many, values_few)))

      take_typed : (guard : Option ℕ) → IsGuard guard → IsTakingBy guard literals rs next p g fields c mine → IsTyped all (take_block_by guard T table (length g.functions) c)
      take_typed None is_guard is = (
        group_areas_typed,
        scan_typed (λ known at' a more. IsOneGroup fields known at' g a more)
            (λ known at' a more declared own_declared ended. one_typed all fields known at' g a more can none (directory_is T at columns texts words own g.table low_group) declared own_declared ended) next p c mine is owned led,
      )
      take_typed (Some z) is_guard is =
          subst (λ (k : ℕ). IsTakingBy (Some k) literals rs next p g fields c mine → IsTyped all (take_block_by (Some k) T table (length g.functions) c)) (sym is_guard)
          (λ counted. counted_typed (take_block_by None T table (length g.functions) c) (
            group_areas_typed,
            scan_typed (λ known at' a more. IsOneGroupWithin (Some 4) fields known at' g a more)
                (λ known at' a more declared own_declared ended. one_within_typed all (Some 4) fields known at' g a more refl can none (directory_is T at columns texts words own g.table low_group) declared own_declared ended) next p c mine counted owned led,
          )) is

  -- ---- what stands before it, and around what makes the result
  front_typed : (descriptor_size : ℕ) (leads sets rest : Statement) (building : List Pipeline) (builds : List Course) (builds_own behind_own : List ValType) → descriptor_size ≤ page → LeadsToAll (texts_placed T at texts) leads → SetsAll (words_placed T (length texts) words) sets → AllByRecursion IsSmall words →
      own ≡ builds_own ++ behind_own → AreCourses literals rs start building builds builds_own → length building < T → AllByRecursion (IsLeading all) building → (AreOwn all (start + length builds_own) behind_own → IsTyped all rest) →
      IsTyped all (seq (space_block descriptor_size) (seq leads (seq sets (seq (builds_block T 0 builds) rest))))
  front_typed descriptor_size leads sets rest building builds builds_own behind_own small leads_all sets_all small_words own_is built low leading rest_typed =
      let whole : AreOwn all start own = own_types T at columns texts words own in (
        ((refl, refl), (I32, refl, ((omega arith, refl), (omega (arith, small), refl), refl))),
        (
          leads_all.typed all refl (texts_typed T at columns texts words own),
          (
            sets_all.typed all (words_small IsSmall _ words small_words) (constants_typed T at columns texts words own),
            (
              builds_typed T at columns texts words own 0 start building builds builds_own built (first_own_types all start own builds_own behind_own own_is whole) leading (omega (arith, low)),
              rest_typed (rest_own_types all start own builds_own behind_own own_is whole),
            ),
          ),
        ),
      )

  result_typed : (a : Statement) → IsTyped all a → IsTyped all (seq begin_block (seq a finish_block))
  result_typed a typed = (((I32, refl, (refl, (omega arith, refl), refl)), (I64, refl, (omega arith, refl))), (typed, ((refl, refl), (((refl, refl), tt, (refl, refl)), (refl, refl)))))

-- ---- the whole
module _ (T : ℕ) (texts : List (List ℕ)) (ps : List coded.Pipeline) (behind : coded.Pipeline) (columns : List ReadColumn) (used : List Used) (layout : Layout) (code : List LowStep) (locals : List ValType) (small : descriptor_size layout ≤ page)
    (small_words : AllByRecursion IsSmall (query_words (ps ++ behind ∷ []))) where
  abbrev at : ℕ
  at = entry_offset (length columns)

  abbrev words : List Word
  words = query_words (ps ++ behind ∷ [])

  abbrev first : List ValType → ℕ
  first own = own_start T (n T at columns texts words own) (length columns)

  pub guarded_typed : (g : Group) (key : List ReadColumn) (values : List ValueColumn) (m : IsGroupedMade T texts ps g key values behind columns used layout code locals) → length m.building < T → CanGroup g → AreOfKinds values →
      AllByRecursion (IsLeading (types T at columns texts words (m.builds_own ++ (m.gathers_own ++ m.walk_own)))) m.building → AreLed (types T at columns texts words (m.builds_own ++ (m.gathers_own ++ m.walk_own))) m.gathering.operators →
      IsLeading (types T at columns texts words (m.builds_own ++ (m.gathers_own ++ m.walk_own))) (pipeline_of behind) →
      IsTyped (I32 ∷ locals) (guarded_block_of (guard_for (length ps) (length values)) T (descriptor_size layout) m.leads m.sets m.builds (length m.building) m.gathers m.walk)
  guarded_typed g key values m low can kinds leading led behind_led =
      let own : List ValType = m.builds_own ++ (m.gathers_own ++ m.walk_own) in
      let all : List ValType = types T at columns texts words own in
      let guard : Option ℕ = guard_for (length ps) (length values) in
      let next : ℕ = first own + length m.builds_own in
      subst (λ (l : List ValType). IsTyped (I32 ∷ l) (guarded_block_of guard T (descriptor_size layout) m.leads m.sets m.builds (length m.building) m.gathers m.walk)) (sym m.locals_are)
      (front_typed T at columns texts words own (descriptor_size layout) m.leads m.sets (seq (gather_block guard T (length m.building) m.gathers) (seq begin_block (seq m.walk finish_block))) m.building m.builds m.builds_own (m.gathers_own ++ m.walk_own) small m.leads_all m.sets_all small_words refl m.built low leading
      (λ rest. (
        gather_typed T at columns texts words own next (length m.building) m.gathering g m.fields m.gathers m.gathers_own (first_own_types all next (m.gathers_own ++ m.walk_own) m.gathers_own m.walk_own refl rest) led can low m.table_is guard (guard_is (length ps) (length values)) m.gathered,
        result_typed T at columns texts words own m.walk
            (groups_typed all refl refl (literals_known T at texts words) key values (pipeline_of behind).operators (pipeline_of behind).sink (literals_typed T at columns texts words own) behind_led.0 behind_led.1 behind_led.2 kinds (directory (length m.building)) (next + length m.gathers_own) m.walk m.walk_own
            (omega arith, omega (arith, low)) (directory_is T at columns texts words own (length m.building) low) (rest_own_types all next (m.gathers_own ++ m.walk_own) m.gathers_own m.walk_own refl rest) m.walked),
      )))

  pub single_typed : (g : Group) (values : List ValueColumn) (m : IsSingleMade T texts ps g values behind columns used layout code locals) → length m.building < T → CanGroup g → AreOfKinds values →
      AllByRecursion (IsLeading (types T at columns texts words (m.builds_own ++ (m.takes_own ++ m.one_own)))) m.building → AreLed (types T at columns texts words (m.builds_own ++ (m.takes_own ++ m.one_own))) m.taking.operators →
      IsLeading (types T at columns texts words (m.builds_own ++ (m.takes_own ++ m.one_own))) (pipeline_of behind) →
      IsTyped (I32 ∷ locals) (one_group_block_by (guard_for (length ps) (length values)) T (descriptor_size layout) m.leads m.sets m.builds (length m.building) (length g.functions) m.takes m.one)
  single_typed g values m low can kinds leading led behind_led =
      let own : List ValType = m.builds_own ++ (m.takes_own ++ m.one_own) in
      let all : List ValType = types T at columns texts words own in
      let guard : Option ℕ = guard_for (length ps) (length values) in
      let next : ℕ = first own + length m.builds_own in
      subst (λ (l : List ValType). IsTyped (I32 ∷ l) (one_group_block_by guard T (descriptor_size layout) m.leads m.sets m.builds (length m.building) (length g.functions) m.takes m.one)) (sym m.locals_are)
      (front_typed T at columns texts words own (descriptor_size layout) m.leads m.sets (seq (take_block_by guard T (length m.building) (length g.functions) m.takes) (seq begin_block (seq m.one finish_block))) m.building m.builds m.builds_own (m.takes_own ++ m.one_own) small m.leads_all m.sets_all small_words refl m.built low leading
      (λ rest. (
        take_typed T at columns texts words own next (length m.building) m.taking g m.fields m.takes m.takes_own (first_own_types all next (m.takes_own ++ m.one_own) m.takes_own m.one_own refl rest) led can low m.table_is m.no_columns m.field_kinds guard (guard_is (length ps) (length values)) m.taken,
        result_typed T at columns texts words own m.one
            (row_typed all (InSink (pipeline_of behind).operators (pipeline_of behind).sink)
            (λ known after b more known_declared more_types is. carried_typed all refl refl (pipeline_of behind).operators (pipeline_of behind).sink known after b more known_declared more_types behind_led.0 behind_led.1 behind_led.2 is)
            (literals_known T at texts words) [] values (literals_typed T at columns texts words own) kinds (directory (length m.building)) 0 (next + length m.takes_own) m.one m.one_own (directory_is T at columns texts words own (length m.building) low)
            (rest_own_types all next (m.takes_own ++ m.one_own) m.takes_own m.one_own refl rest) m.made),
      )))

  pub distinct_typed : (key : List ReadColumn) (values : List ValueColumn) (key_again : List ReadColumn) (again : coded.Pipeline) (having : List Condition) (m : IsDistinctMade T texts ps key values behind key_again [] again columns used layout code locals) → length m.building + 1 < T →
      IsGroupPipelineTo (InEnd (Grouping m.into_fields m.into) (filter having ∷ [])) (literals_known T at texts words) (directory (length m.building)) (first (m.builds_own ++ (m.gathers_own ++ (m.enters_own ++ m.walk_own))) + length m.builds_own + length m.gathers_own) key values m.enters m.enters_own →
      CanGroup m.group → CanGroup m.into → AreOfKinds values → AllByRecursion (IsLeading (types T at columns texts words (m.builds_own ++ (m.gathers_own ++ (m.enters_own ++ m.walk_own))))) m.building →
      AreLed (types T at columns texts words (m.builds_own ++ (m.gathers_own ++ (m.enters_own ++ m.walk_own)))) m.gathering.operators → IsLeading (types T at columns texts words (m.builds_own ++ (m.gathers_own ++ (m.enters_own ++ m.walk_own)))) (pipeline_of again) →
      IsTyped (I32 ∷ locals) (distinct_block_of (guard_for (length ps) (length values)) T (descriptor_size layout) m.leads m.sets m.builds (length m.building) m.gathers m.enters m.walk)
  distinct_typed key values key_again again having m low entered can can_into kinds leading led again_led =
      let later : List ValType = m.enters_own ++ m.walk_own in
      let own : List ValType = m.builds_own ++ (m.gathers_own ++ later) in
      let all : List ValType = types T at columns texts words own in
      let guard : Option ℕ = guard_for (length ps) (length values) in
      let next : ℕ = first own + length m.builds_own in
      let after : ℕ = next + length m.gathers_own in
      let into_is = m.into_table in
      subst (λ (l : List ValType). IsTyped (I32 ∷ l) (distinct_block_of guard T (descriptor_size layout) m.leads m.sets m.builds (length m.building) m.gathers m.enters m.walk)) (sym m.locals_are)
      (front_typed T at columns texts words own (descriptor_size layout) m.leads m.sets (seq (gather_block guard T (length m.building) m.gathers) (seq (directory_block (directory (length m.building + 1))) (seq m.enters (seq begin_block (seq m.walk finish_block)))))
      m.building m.builds m.builds_own (m.gathers_own ++ later) small m.leads_all m.sets_all small_words refl m.built (omega (arith, low)) leading
      (λ rest.
      let walks : AreOwn all after later = rest_own_types all next (m.gathers_own ++ later) m.gathers_own later refl rest in (
        gather_typed T at columns texts words own next (length m.building) m.gathering m.group m.fields m.gathers m.gathers_own (first_own_types all next (m.gathers_own ++ later) m.gathers_own later refl rest) led can (omega (arith, low)) m.table_is guard (guard_is (length ps) (length values)) m.gathered,
        (
          directory_typed T at columns texts words own (length m.building + 1) low,
          (
            groups_into_typed all refl refl (literals_known T at texts words) key values (filter having ∷ []) m.into_fields m.into (literals_typed T at columns texts words own) tt can_into (directory_is T at columns texts words own m.into.table (omega (arith, into_is, low))) kinds (directory (length m.building))
                after m.enters m.enters_own (omega arith, omega (arith, low)) (directory_is T at columns texts words own (length m.building) (omega (arith, low))) (first_own_types all after later m.enters_own m.walk_own refl walks) entered,
            result_typed T at columns texts words own m.walk
                (groups_typed all refl refl (literals_known T at texts words) key_again [] (pipeline_of again).operators (pipeline_of again).sink (literals_typed T at columns texts words own) again_led.0 again_led.1 again_led.2 tt (directory (length m.building + 1))
                (after + length m.enters_own) m.walk m.walk_own (omega arith, omega (arith, low)) (directory_is T at columns texts words own (length m.building + 1) low) (rest_own_types all after later m.enters_own m.walk_own refl walks) m.walked),
          ),
        ),
      )))
