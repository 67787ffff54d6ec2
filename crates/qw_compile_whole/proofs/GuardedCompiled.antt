-- The module around a grouped query's statement is the compiled form of what is promised of the query, whether its rows are counted or not: where they are counted, and
-- 10^18 rows and more reach the groups, its runs take as many instructions, and no run does.
use Rattle.std.proofs.Common.{◌≡◌, ℕ, ◌+◌, ◌*◌, ◌^◌, ◌<◌, ◌≤◌, ◌⊎◌, inl, inr, IsUtf8, Option, Some, None, List, [], ◌∷◌, ◌++◌, length, map, refl, subst, ⊎_elim, arith}
use Rattle.std.specs.List.{AllByRecursion, concat}
use Rattle.std.specs.List.Sorted.{IsPermutation}
use Rattle.std.proofs.lemmas.List.Sorted.{IsPermutation-sym, IsPermutation-trans}
use Rattle.qw_types.specs.declared.code.Code.TheVariants.{DivZero}
use Rattle.qw_types.specs.declared.kind.Kind.{Kind}
use Rattle.qw_types.specs.declared.value.Val.{Val}
use Rattle.qw_module.specs.declared.instruction.ValType.{ValType}
use Rattle.qw_module.specs.declared.module.Module.{Module}
use Rattle.qw_scalar.specs.Typing.{kind_of}
use Rattle.qw_map.specs.Layout.{Layout, descriptor_size, entry_offset}
use Rattle.qw_meaning.specs.Outcome.{IsSameOutcome, Outcome, Raises, Rows}
use Rattle.qw_meaning.specs.Select.{AreOfEntries}
use Rattle.qw_grouped.specs.Grouped.{Grouped}
use Rattle.qw_low.specs.Syntax.{Statement, seq}
use Rattle.qw_low.specs.State.{LowState}
use Rattle.qw_low.specs.Begin.{first_state}
use Rattle.qw_low.specs.Meaning.{Outcome as Run, meaning}
use Rattle.qw_low.specs.Promise.{Ends}
use Rattle.qw_low.specs.Size.{size}
use Rattle.qw_low.proofs.Promises.{Ends-weaker}
use Rattle.qw_feed.specs.Cells.{kinds_of}
use Rattle.qw_feed.specs.Rows.{begin_block, finish_block, in_order}
use Rattle.qw_feed.specs.Room.{space_block}
use Rattle.qw_feed.proofs.Frames.{Never}
use Rattle.qw_limit.specs.Counting.{EndsOrTakes}
use Rattle.qw_read.specs.Constants.{IsSmall, SetsAll}
use Rattle.qw_read.specs.Texts.{LeadsToAll}
use Rattle.qw_read.specs.declared.constant.Word.{Word}
use Rattle.qw_table.specs.Joins.{sources_of}
use Rattle.qw_table.specs.declared.key.Field.{Field}
use Rattle.qw_physical.specs.Physical.{Pipeline, filter, select}
use Rattle.qw_physical.specs.declared.pipeline.ReadColumn.{ReadColumn}
use Rattle.qw_operator.specs.Carries.{directory}
use Rattle.qw_operator.proofs.Stood.{Stood}
use Rattle.qw_operator.proofs.CarriedTyped.{AreLed}
use Rattle.qw_promise.specs.Compiled.{GoesWith, IsCompiled}
use Rattle.qw_promise.specs.Promise.{Promise}
use Rattle.qw_emit.specs.RunsOf.{IsMadeOf, first_locals}
use Rattle.qw_emit.specs.Alike.{AreAlike}
use Rattle.qw_emit.proofs.Answered.{IsSomeCode, IsTold}
use Rattle.qw_emit.proofs.ModuleCompiled.{AreReady, Ending, Settled, module_compiled, module_compiled_or_long}
use Rattle.qw_operator.specs.Grouping.{CanGroup, Group}
use Rattle.qw_operator.specs.Puts.{IsGroupedWithin}
use Rattle.qw_group_pipeline.specs.Groups.{IsGroupPipeline}
use Rattle.qw_group_pipeline.specs.declared.columns.ValueColumn.{ValueColumn}
use Rattle.qw_compile.specs.QueryLocals.{own_start, query_locals, query_readers}
use Rattle.qw_compile.specs.Statements.{AreCourses, Course, builds_block}
use Rattle.qw_compile.proofs.LocalsPlaced.{literal_count, literals_known, texts_placed, words_placed}
use Rattle.qw_compile.proofs.PipelineRuns.{AreStood, fed_over}
use Rattle.qw_compile.proofs.QueryRuns.{AreLaid, Joins, Setting, literals, own_first}
use Rattle.qw_compile.proofs.QueryTyped.{types}
use Rattle.qw_compile_whole.specs.GroupedStatements.{IsGathering, IsGatheringTo, grouped_block}
use Rattle.qw_compile_whole.specs.GuardedStatements.{IsGatheringBy, gather_block, guarded_block_of}
use Rattle.qw_compile_whole.proofs.FirstBounded.{IsFirstBounded}
use Rattle.qw_compile_whole.proofs.FrontEnds.{Collects, IsGroupAnswered, own_parts}
use Rattle.qw_compile_whole.proofs.GroupBounded.{GoTogether, IsGroupBounded, rows_met, walked_of}
use Rattle.qw_compile_whole.proofs.GroupEnds.{grouped_ends}
use Rattle.qw_compile_whole.proofs.GuardedFronts.{IsGuard, gathers_many}
use Rattle.qw_compile_whole.proofs.LongFronts.{joins_or_takes, takes_then}

-- an outcome that has some rows has them in any order
pub in_any_order : (out : Outcome) (rows others : List (List Val)) → IsSameOutcome out (Rows rows) → IsPermutation others rows → IsSameOutcome out (Rows others)
in_any_order (Rows bag) rows others same turned = IsPermutation-trans bag rows others same (IsPermutation-sym others rows turned)
in_any_order (Raises codes) rows others same turned = absurd same

-- whose rows are those of the outcome, where they are those of the groups
pub answered_ending : (promise : Promise) (layout : Layout) (tables : List (List (List Val))) (building : List Pipeline) (gathering : Pipeline) (query : Grouped) →
    ((stoods : List Stood) → AreStood tables [] building stoods → (fed_over tables stoods gathering).codes ≡ [] → (walked_of query (rows_met tables stoods gathering)).codes ≡ [] → IsSameOutcome (promise.outcome tables) (Rows (walked_of query (rows_met tables stoods gathering)).rows)) →
    (t : LowState) → IsGroupAnswered layout tables building gathering query t → Ending promise layout tables t
answered_ending promise layout tables building gathering query same t h = record {
  settled = h.settled;
  same = in_any_order (promise.outcome tables) (walked_of query (rows_met tables h.stoods gathering)).rows (in_order h.settled.found) (same h.stoods h.are h.none h.none_behind) h.rows;
}

pub ended_promised : (promise : Promise) (layout : Layout) (tables : List (List (List Val))) (building : List Pipeline) (gathering : Pipeline) (query : Grouped) (top most : ℕ) (out : Run) →
    ((stoods : List Stood) → AreStood tables [] building stoods → (fed_over tables stoods gathering).codes ≡ [] → (walked_of query (rows_met tables stoods gathering)).codes ≡ [] → IsSameOutcome (promise.outcome tables) (Rows (walked_of query (rows_met tables stoods gathering)).rows)) →
    EndsOrTakes top most (IsGroupAnswered layout tables building gathering query) (Settled layout tables) Never (IsTold (promise.outcome tables)) IsSomeCode out → EndsOrTakes top most (Ending promise layout tables) (Settled layout tables) Never (IsTold (promise.outcome tables)) IsSomeCode out
ended_promised promise layout tables building gathering query top most out same = ⊎_elim
    (λ ended. inl (Ends-weaker most most (IsGroupAnswered layout tables building gathering query) (Ending promise layout tables) Never Never (IsTold (promise.outcome tables)) (IsTold (promise.outcome tables)) out (omega arith)
    (answered_ending promise layout tables building gathering query same) (λ t x. x) (λ code x. x) ended))
    (λ long. inr long)

-- ---- over tables
-- where fewer than 10^18 rows reach the groups: all of it is within bounds, and the rows of the walk are those of the outcome
pub record AreFew (promise : Promise) (T n : ℕ) (columns : List ReadColumn) (texts : List (List ℕ)) (words : List Word) (at : ℕ) (table_of : ℕ → ℕ) (building : List Pipeline) (gathering : Pipeline) (query : Grouped) (g : Group) (key : List ReadColumn) (values : List ValueColumn) (u : ℕ) (tables : List (List (List Val))) : Type 0 where
  pub bounded : IsGroupBounded T n columns texts words at table_of building gathering query g key values (IsTold (promise.outcome tables)) u (promise.pages tables) (1 + promise.units tables) tables
  pub fewer : (stoods : List Stood) → AreStood tables [] building stoods → length (rows_met tables stoods gathering) < 10 ^ 18
  pub same : (stoods : List Stood) → AreStood tables [] building stoods → (fed_over tables stoods gathering).codes ≡ [] → (walked_of query (rows_met tables stoods gathering)).codes ≡ [] → IsSameOutcome (promise.outcome tables) (Rows (walked_of query (rows_met tables stoods gathering)).rows)

-- where more do: all of it is up to the groups
pub record AreMany (promise : Promise) (T n : ℕ) (columns : List ReadColumn) (texts : List (List ℕ)) (words : List Word) (at : ℕ) (table_of : ℕ → ℕ) (building : List Pipeline) (gathering : Pipeline) (g : Group) (u : ℕ) (tables : List (List (List Val))) : Type 0 where
  pub bounded : IsFirstBounded T n columns texts words at table_of building gathering g (IsTold (promise.outcome tables)) u (promise.pages tables) (1 + promise.units tables) tables
  pub more : (stoods : List Stood) → AreStood tables [] building stoods → 10 ^ 18 ≤ length (rows_met tables stoods gathering)

-- ---- where many rows come, whatever follows the scan
module _ (promise : Promise) (layout : Layout) (T : ℕ) (columns : List ReadColumn) (texts : List (List ℕ)) (words : List Word) (table_of : ℕ → ℕ) (laid : AreLaid table_of layout.columns columns) (texts_are : layout.literals ≡ concat texts)
    (utf8 : AllByRecursion IsUtf8 texts) (small_words : AllByRecursion IsSmall words) (leads sets : Statement) (building : List Pipeline) (gathering : Pipeline) (group : Group) (can : CanGroup group) (fields : List Field)
    (field_kinds : kinds_of (sources_of fields) ≡ map kind_of group.values) (is_select : gathering.sink ≡ select group.values) (table_is : group.table ≡ length building) (room_T : length building < T) (builds : List Course) (gathers : Course) (rest : Statement) (builds_own gathers_own later_own : List ValType)
    (goes_with : GoesWith promise layout) (leads_all : LeadsToAll (texts_placed T (entry_offset (length layout.columns)) texts) leads) (sets_all : SetsAll (words_placed T (length texts) words) sets)
    (built : AreCourses (literals_known T (entry_offset (length layout.columns)) texts words) (query_readers T (literal_count texts words) columns) (own_start T (literal_count texts words) (length columns)) building builds builds_own)
    (gathered : IsGatheringTo (λ known at' a more. IsGroupedWithin (Some 4) fields known at' group a more) (literals_known T (entry_offset (length layout.columns)) texts words) (query_readers T (literal_count texts words) columns) (own_start T (literal_count texts words) (length columns) + length builds_own) gathering gathers gathers_own)
    (led : AreLed (types T (entry_offset (length layout.columns)) columns texts words (builds_own ++ (gathers_own ++ later_own))) gathering.operators) (tables : List (List (List Val))) (limit : ℕ) (ready : AreReady layout tables limit) (u : ℕ) where
  abbrev stopped_by : ℕ → Statement
  stopped_by table = seq (space_block (descriptor_size layout)) (seq leads (seq sets (seq (builds_block T 0 builds) (seq (gather_block (Some 4) T table gathers) rest))))

  abbrev run_of : Statement → Run
  run_of whole = meaning (promise.pages tables) (1 + promise.units tables) whole (first_state layout tables limit (first_locals (length (query_locals T (length texts) (length words) columns (builds_own ++ (gathers_own ++ later_own))))))

  pub many_end : AreMany promise T (literal_count texts words) columns texts words (entry_offset (length layout.columns)) table_of building gathering group u tables →
      EndsOrTakes (10 ^ 18) (size (stopped_by (length building)) * (1 + promise.units tables)) (Ending promise layout tables) (Settled layout tables) Never (IsTold (promise.outcome tables)) IsSomeCode (run_of (stopped_by (length building)))
  many_end many =
      let b = many.bounded in
      let S : Setting = record { layout = layout; tables = tables; limit = limit; are_ready = ready; small = goes_with.small; T = T; columns = columns; texts = texts; words = words; table_of = table_of; laid = laid; texts_are = texts_are; utf8 = utf8; small_words = small_words; leads = leads; sets = sets; leads_all = leads_all; sets_all = sets_all; most = promise.pages tables; N = 1 + promise.units tables; u = u; some = omega arith; u_low = b.u_low; own = builds_own ++ (gathers_own ++ later_own) } in
      let Told : ℕ → Type 0 = IsTold (promise.outcome tables) in
      let parts = own_parts S builds_own gathers_own later_own refl in
      let j : Joins S Told = record { building = building; builds = builds; builds_own = builds_own; built = built; no_more = omega (arith, room_T); own_room = omega (arith, parts.3); own_types = parts.0; budget = b.budget; reached = b.reached; told = b.told } in
      let g : Collects S Told j (IsGatheringBy (Some 4)) = record { gathering = gathering; group = group; fields = fields; field_kinds = field_kinds; is_select = is_select; table_is = table_is; room_T = omega (arith, table_is, room_T); gathers = gathers; own = gathers_own; is = gathered; room = omega (arith, parts.3); types_are = parts.1 } in
      let scan : Statement = gather_block (Some 4) T group.table gathers in
      subst (λ (k : ℕ). EndsOrTakes (10 ^ 18) (size (stopped_by k) * (1 + promise.units tables)) (Ending promise layout tables) (Settled layout tables) Never Told IsSomeCode (run_of (stopped_by k))) table_is
      (joins_or_takes S Told j (10 ^ 18) (Ending promise layout tables) (Settled layout tables) IsSomeCode (seq scan rest) (λ t h.
      takes_then (promise.pages tables) (1 + promise.units tables) (10 ^ 18) (1 + promise.units tables) (Ending promise layout tables) (Settled layout tables) Told IsSomeCode scan rest t
      (gathers_many S Told j t h (10 ^ 18) 4 refl (omega arith) (omega arith) g can (b.gathered h.stoods h.are) (b.told_gathered h.stoods h.are) led (many.more h.stoods h.are) IsSomeCode (inr (DivZero, refl)))))

-- ---- the whole
module _ (promise : Promise) (layout : Layout) (T : ℕ) (columns : List ReadColumn) (texts : List (List ℕ)) (words : List Word) (table_of : ℕ → ℕ) (laid : AreLaid table_of layout.columns columns) (texts_are : layout.literals ≡ concat texts)
    (utf8 : AllByRecursion IsUtf8 texts) (small_words : AllByRecursion IsSmall words) (leads sets : Statement) (building : List Pipeline) (gathering : Pipeline) (query : Grouped) (group : Group) (key : List ReadColumn) (values : List ValueColumn) (fields : List Field)
    (field_kinds : kinds_of (sources_of fields) ≡ map kind_of group.values) (is_select : gathering.sink ≡ select group.values) (kinds_are : map kind_of query.items ≡ map (λ (k : Kind). Some k) layout.cells) (table_is : group.table ≡ length building) (room_T : length building < T)
    (builds : List Course) (gathers : Course) (walk : Statement) (builds_own gathers_own walk_own : List ValType) where
  abbrev others : ℕ
  others = length (query_locals T (length texts) (length words) columns (builds_own ++ (gathers_own ++ walk_own)))

  -- ---- where rows are counted or not, and those that are counted are few
  module _ (guard : Option ℕ) (is_guard : IsGuard guard) (goes_with : GoesWith promise layout) (leads_all : LeadsToAll (texts_placed T (entry_offset (length layout.columns)) texts) leads) (sets_all : SetsAll (words_placed T (length texts) words) sets) (together : GoTogether query group key values (literals_known T (entry_offset (length layout.columns)) texts words))
      (built : AreCourses (literals_known T (entry_offset (length layout.columns)) texts words) (query_readers T (literal_count texts words) columns) (own_start T (literal_count texts words) (length columns)) building builds builds_own)
      (gathered : IsGatheringBy guard (literals_known T (entry_offset (length layout.columns)) texts words) (query_readers T (literal_count texts words) columns) (own_start T (literal_count texts words) (length columns) + length builds_own) gathering group fields gathers gathers_own)
      (walked : IsGroupPipeline (literals_known T (entry_offset (length layout.columns)) texts words) (directory (length building)) (own_start T (literal_count texts words) (length columns) + length builds_own + length gathers_own) key values (filter query.having ∷ []) (select query.items) walk walk_own)
      (tables : List (List (List Val))) (limit : ℕ) (ready : AreReady layout tables limit) (u : ℕ)
      (b : IsGroupBounded T (literal_count texts words) columns texts words (entry_offset (length layout.columns)) table_of building gathering query group key values (IsTold (promise.outcome tables)) u (promise.pages tables) (1 + promise.units tables) tables)
      (fewer : guard ≡ Some 4 → (stoods : List Stood) → AreStood tables [] building stoods → length (rows_met tables stoods gathering) < 10 ^ 18)
      (same : (stoods : List Stood) → AreStood tables [] building stoods → (fed_over tables stoods gathering).codes ≡ [] → (walked_of query (rows_met tables stoods gathering)).codes ≡ [] → IsSameOutcome (promise.outcome tables) (Rows (walked_of query (rows_met tables stoods gathering)).rows)) where
    abbrev whole_by : ℕ → Statement
    whole_by table = guarded_block_of guard T (descriptor_size layout) leads sets builds table gathers walk

    abbrev N : ℕ
    N = 1 + promise.units tables

    abbrev meant : Statement → Run
    meant whole = meaning (promise.pages tables) N whole (first_state layout tables limit (first_locals others))

    pub few_end : Ends (size (whole_by (length building)) * N) (Ending promise layout tables) Never (IsTold (promise.outcome tables)) (meant (whole_by (length building)))
    few_end =
        let S : Setting = record { layout = layout; tables = tables; limit = limit; are_ready = ready; small = goes_with.small; T = T; columns = columns; texts = texts; words = words; table_of = table_of; laid = laid; texts_are = texts_are; utf8 = utf8; small_words = small_words; leads = leads; sets = sets; leads_all = leads_all; sets_all = sets_all; most = promise.pages tables; N = 1 + promise.units tables; u = u; some = omega arith; u_low = b.u_low; own = builds_own ++ (gathers_own ++ walk_own) } in
        let Told : ℕ → Type 0 = IsTold (promise.outcome tables) in
        let parts = own_parts S builds_own gathers_own walk_own refl in
        let j : Joins S Told = record { building = building; builds = builds; builds_own = builds_own; built = built; no_more = omega (arith, room_T); own_room = omega (arith, parts.3); own_types = parts.0; budget = b.budget; reached = b.reached; told = b.told } in
        let g : Collects S Told j (IsGatheringBy guard) = record { gathering = gathering; group = group; fields = fields; field_kinds = field_kinds; is_select = is_select; table_is = table_is; room_T = omega (arith, table_is, room_T); gathers = gathers; own = gathers_own; is = gathered; room = omega (arith, parts.3); types_are = parts.1 } in
        Ends-weaker (size (whole_by (length building)) * N) (size (whole_by (length building)) * N) (IsGroupAnswered layout tables building gathering query) (Ending promise layout tables) Never Never Told Told (meant (whole_by (length building))) (omega arith)
        (answered_ending promise layout tables building gathering query same) (λ t x. x) (λ code x. x)
        (subst (λ (k : ℕ). IsGroupPipeline (literals S) (directory k) (own_first S + length builds_own + length gathers_own) key values (filter query.having ∷ []) (select query.items) walk walk_own → Ends (size (whole_by k) * N) (IsGroupAnswered layout tables building gathering query) Never Told (meant (whole_by k))) table_is
        (λ walks. grouped_ends S Told j guard is_guard g query key values together kinds_are walk walk_own walks parts.3 parts.2 b.gathered b.told_gathered b.walked b.told_walked fewer) walked)

  -- ---- not counted
  abbrev whole : Statement
  whole = grouped_block T (descriptor_size layout) leads sets builds (length building) gathers walk

  module _ (goes_with : GoesWith promise layout) (leads_all : LeadsToAll (texts_placed T (entry_offset (length layout.columns)) texts) leads) (sets_all : SetsAll (words_placed T (length texts) words) sets) (together : GoTogether query group key values (literals_known T (entry_offset (length layout.columns)) texts words))
      (built : AreCourses (literals_known T (entry_offset (length layout.columns)) texts words) (query_readers T (literal_count texts words) columns) (own_start T (literal_count texts words) (length columns)) building builds builds_own)
      (gathered : IsGathering (literals_known T (entry_offset (length layout.columns)) texts words) (query_readers T (literal_count texts words) columns) (own_start T (literal_count texts words) (length columns) + length builds_own) gathering group fields gathers gathers_own)
      (walked : IsGroupPipeline (literals_known T (entry_offset (length layout.columns)) texts words) (directory (length building)) (own_start T (literal_count texts words) (length columns) + length builds_own + length gathers_own) key values (filter query.having ∷ []) (select query.items) walk walk_own) where
    pub grouped_compiled : size whole ≤ 2 ^ 22 → AreAlike promise.entries → (u : List (List (List Val)) → ℕ) →
        (bounded : (tables : List (List (List Val))) → AreOfEntries promise.entries tables → IsGroupBounded T (literal_count texts words) columns texts words (entry_offset (length layout.columns)) table_of building gathering query group key values (IsTold (promise.outcome tables)) (u tables) (promise.pages tables) (1 + promise.units tables) tables) →
        (same : (tables : List (List (List Val))) (stoods : List Stood) → AreOfEntries promise.entries tables → AreStood tables [] building stoods → (fed_over tables stoods gathering).codes ≡ [] → (walked_of query (rows_met tables stoods gathering)).codes ≡ [] →
        IsSameOutcome (promise.outcome tables) (Rows (walked_of query (rows_met tables stoods gathering)).rows)) →
        (m : Module) → IsMadeOf m whole others → IsCompiled promise layout m
    grouped_compiled short alike u bounded same m is_made =
        module_compiled promise layout whole others (λ tables. 1 + promise.units tables) goes_with alike short
        (λ tables limit of ready. few_end None tt goes_with leads_all sets_all together built gathered walked tables limit ready (u tables) (bounded tables of) (λ counts. absurd cc) (λ stoods are none over. same tables stoods of are none over))
        m is_made

  -- ---- counted
  abbrev counted_whole : Statement
  counted_whole = guarded_block_of (Some 4) T (descriptor_size layout) leads sets builds (length building) gathers walk

  module _ (goes_with : GoesWith promise layout) (leads_all : LeadsToAll (texts_placed T (entry_offset (length layout.columns)) texts) leads) (sets_all : SetsAll (words_placed T (length texts) words) sets) (together : GoTogether query group key values (literals_known T (entry_offset (length layout.columns)) texts words))
      (built : AreCourses (literals_known T (entry_offset (length layout.columns)) texts words) (query_readers T (literal_count texts words) columns) (own_start T (literal_count texts words) (length columns)) building builds builds_own)
      (gathered : IsGatheringTo (λ known at' a more. IsGroupedWithin (Some 4) fields known at' group a more) (literals_known T (entry_offset (length layout.columns)) texts words) (query_readers T (literal_count texts words) columns) (own_start T (literal_count texts words) (length columns) + length builds_own) gathering gathers gathers_own)
      (walked : IsGroupPipeline (literals_known T (entry_offset (length layout.columns)) texts words) (directory (length building)) (own_start T (literal_count texts words) (length columns) + length builds_own + length gathers_own) key values (filter query.having ∷ []) (select query.items) walk walk_own)
      (led : AreLed (types T (entry_offset (length layout.columns)) columns texts words (builds_own ++ (gathers_own ++ walk_own))) gathering.operators) where
    pub guarded_compiled : size counted_whole ≤ 2 ^ 22 → AreAlike promise.entries → (u : List (List (List Val)) → ℕ) →
        ((tables : List (List (List Val))) → AreOfEntries promise.entries tables → AreFew promise T (literal_count texts words) columns texts words (entry_offset (length layout.columns)) table_of building gathering query group key values (u tables) tables ⊎ AreMany promise T (literal_count texts words) columns texts words (entry_offset (length layout.columns)) table_of building gathering group (u tables) tables) →
        (m : Module) → IsMadeOf m counted_whole others → IsCompiled promise layout m
    guarded_compiled short alike u bounded m is_made =
        module_compiled_or_long promise layout counted_whole others (λ tables. 1 + promise.units tables) goes_with alike short
        (λ tables limit of ready. ⊎_elim
        (λ h. inl (few_end (Some 4) refl goes_with leads_all sets_all together built gathered walked tables limit ready (u tables) h.bounded (λ counts. h.fewer) h.same))
        (λ h. many_end promise layout T columns texts words table_of laid texts_are utf8 small_words leads sets building gathering group together.can fields field_kinds is_select table_is room_T builds gathers (seq begin_block (seq walk finish_block)) builds_own gathers_own walk_own
        goes_with leads_all sets_all built gathered led tables limit ready (u tables) h) (bounded tables of))
        m is_made
