-- The module around the statement of a query with set functions and no GROUP BY is the compiled form of what is promised of the query, whether its rows are counted or
-- not: where they are counted, and are 10^18 and more, its runs take as many instructions, and no run does.
use Rattle.std.proofs.Common.{◌≡◌, ℕ, ◌+◌, ◌*◌, ◌^◌, ◌<◌, ◌≤◌, inl, IsUtf8, Option, List, [], ◌∷◌, ◌++◌, length, map, Some, None, refl, subst, arith}
use Rattle.std.specs.List.{AllByRecursion, concat}
use Rattle.qw_types.specs.declared.kind.Kind.{Kind}
use Rattle.qw_types.specs.declared.value.Val.{Val}
use Rattle.qw_module.specs.declared.instruction.ValType.{ValType}
use Rattle.qw_module.specs.declared.module.Module.{Module}
use Rattle.qw_scalar.specs.Typing.{kind_of}
use Rattle.qw_map.specs.Layout.{Layout, descriptor_size, entry_offset}
use Rattle.qw_meaning.specs.Outcome.{IsSameOutcome, Rows}
use Rattle.qw_meaning.specs.Select.{AreOfEntries}
use Rattle.qw_grouped.specs.Grouped.{Grouped}
use Rattle.qw_low.specs.Syntax.{Statement}
use Rattle.qw_low.specs.Begin.{first_state}
use Rattle.qw_low.specs.Meaning.{meaning}
use Rattle.qw_low.specs.Size.{size}
use Rattle.qw_feed.specs.Cells.{kinds_of}
use Rattle.qw_feed.proofs.Frames.{Never}
use Rattle.qw_limit.specs.Counting.{EndsOrTakes}
use Rattle.qw_read.specs.Constants.{IsSmall, SetsAll}
use Rattle.qw_read.specs.Texts.{LeadsToAll}
use Rattle.qw_read.specs.declared.constant.Word.{Word}
use Rattle.qw_table.specs.Joins.{sources_of}
use Rattle.qw_table.specs.declared.key.Field.{Field}
use Rattle.qw_physical.specs.Physical.{Pipeline, filter, select}
use Rattle.qw_physical.specs.declared.pipeline.ReadColumn.{ReadColumn}
use Rattle.qw_operator.specs.Carries.{directory}
use Rattle.qw_operator.proofs.Stood.{Stood}
use Rattle.qw_operator.proofs.CarriedTyped.{AreLed}
use Rattle.qw_promise.specs.Compiled.{GoesWith, IsCompiled}
use Rattle.qw_promise.specs.Promise.{Promise}
use Rattle.qw_emit.specs.RunsOf.{IsMadeOf, first_locals}
use Rattle.qw_emit.specs.Alike.{AreAlike}
use Rattle.qw_emit.proofs.Answered.{IsSomeCode, IsTold}
use Rattle.qw_emit.proofs.ModuleCompiled.{AreReady, Ending, Settled, module_compiled_or_long}
use Rattle.qw_operator.specs.Grouping.{Group}
use Rattle.qw_operator.specs.Puts.{IsOneGroupWithin}
use Rattle.qw_group_pipeline.specs.Groups.{InSink, IsOneRow}
use Rattle.qw_group_pipeline.specs.declared.columns.ValueColumn.{ValueColumn}
use Rattle.qw_compile.specs.QueryLocals.{own_start, query_locals, query_readers}
use Rattle.qw_compile.specs.Statements.{AreCourses, Course}
use Rattle.qw_compile.proofs.LocalsPlaced.{literal_count, literals_known, texts_placed, words_placed}
use Rattle.qw_compile.proofs.PipelineRuns.{AreStood, fed_over}
use Rattle.qw_compile.proofs.QueryRuns.{AreLaid, Joins, Setting, first, literals, own_first}
use Rattle.qw_compile.proofs.QueryTyped.{types}
use Rattle.qw_compile_whole.specs.GroupedStatements.{IsGatheringTo}
use Rattle.qw_compile_whole.specs.GuardedSingles.{IsTakingBy, one_group_block_by}
use Rattle.qw_compile_whole.specs.SingleStatements.{IsTaking, take_block}
use Rattle.qw_compile_whole.proofs.FirstTakenBounded.{IsLongBounded}
use Rattle.qw_compile_whole.proofs.FrontEnds.{Collects, IsGroupAnswered, own_parts}
use Rattle.qw_compile_whole.proofs.GroupBounded.{rows_met, walked_of}
use Rattle.qw_compile_whole.proofs.GuardedCompiled.{ended_promised}
use Rattle.qw_compile_whole.proofs.LongFronts.{counted}
use Rattle.qw_compile_whole.proofs.SingleBounded.{GoAlone, IsSingleBounded}
use Rattle.qw_compile_whole.proofs.SingleEnds.{single_ends}
use Rattle.qw_compile_whole.proofs.TakenFronts.{takes_counted, takes_end}

module _ (promise : Promise) (layout : Layout) (T : ℕ) (columns : List ReadColumn) (texts : List (List ℕ)) (words : List Word) (table_of : ℕ → ℕ) (laid : AreLaid table_of layout.columns columns) (texts_are : layout.literals ≡ concat texts)
    (utf8 : AllByRecursion IsUtf8 texts) (small_words : AllByRecursion IsSmall words) (leads sets : Statement) (building : List Pipeline) (taking : Pipeline) (query : Grouped) (group : Group) (values : List ValueColumn) (fields : List Field)
    (field_kinds : kinds_of (sources_of fields) ≡ map kind_of group.values) (is_select : taking.sink ≡ select group.values) (kinds_are : map kind_of query.items ≡ map (λ (k : Kind). Some k) layout.cells) (table_is : group.table ≡ length building) (room_T : length building < T)
    (builds : List Course) (takes : Course) (one : Statement) (builds_own takes_own one_own : List ValType) where
  abbrev others : ℕ
  others = length (query_locals T (length texts) (length words) columns (builds_own ++ (takes_own ++ one_own)))

  abbrev whole_by : Option ℕ → ℕ → Statement
  whole_by guard table = one_group_block_by guard T (descriptor_size layout) leads sets builds table (length group.functions) takes one

  -- ---- not counted
  module _ (goes_with : GoesWith promise layout) (leads_all : LeadsToAll (texts_placed T (entry_offset (length layout.columns)) texts) leads) (sets_all : SetsAll (words_placed T (length texts) words) sets) (alone : GoAlone query group values (literals_known T (entry_offset (length layout.columns)) texts words))
      (built : AreCourses (literals_known T (entry_offset (length layout.columns)) texts words) (query_readers T (literal_count texts words) columns) (own_start T (literal_count texts words) (length columns)) building builds builds_own)
      (taken : IsTaking (literals_known T (entry_offset (length layout.columns)) texts words) (query_readers T (literal_count texts words) columns) (own_start T (literal_count texts words) (length columns) + length builds_own) taking group fields takes takes_own)
      (made : IsOneRow (InSink (filter query.having ∷ []) (select query.items)) (literals_known T (entry_offset (length layout.columns)) texts words) (directory (length building)) (own_start T (literal_count texts words) (length columns) + length builds_own + length takes_own) values one one_own) where
    -- over any tables that are ready, within bounds
    single_ended : (tables : List (List (List Val))) (limit : ℕ) → AreReady layout tables limit → (u : ℕ) → IsSingleBounded T (literal_count texts words) columns texts words (entry_offset (length layout.columns)) table_of building taking query group values (IsTold (promise.outcome tables)) u (promise.pages tables) (1 + promise.units tables) tables →
        ((stoods : List Stood) → AreStood tables [] building stoods → (fed_over tables stoods taking).codes ≡ [] → (walked_of query (rows_met tables stoods taking)).codes ≡ [] → IsSameOutcome (promise.outcome tables) (Rows (walked_of query (rows_met tables stoods taking)).rows)) →
        EndsOrTakes (10 ^ 18) (size (whole_by None (length building)) * (1 + promise.units tables)) (Ending promise layout tables) (Settled layout tables) Never (IsTold (promise.outcome tables)) IsSomeCode (meaning (promise.pages tables) (1 + promise.units tables) (whole_by None (length building)) (first_state layout tables limit (first_locals others)))
    single_ended tables limit ready u b same =
        let S : Setting = record { layout = layout; tables = tables; limit = limit; are_ready = ready; small = goes_with.small; T = T; columns = columns; texts = texts; words = words; table_of = table_of; laid = laid; texts_are = texts_are; utf8 = utf8; small_words = small_words; leads = leads; sets = sets; leads_all = leads_all; sets_all = sets_all; most = promise.pages tables; N = 1 + promise.units tables; u = u; some = omega arith; u_low = b.u_low; own = builds_own ++ (takes_own ++ one_own) } in
        let Told : ℕ → Type 0 = IsTold (promise.outcome tables) in
        let parts = own_parts S builds_own takes_own one_own refl in
        let j : Joins S Told = record { building = building; builds = builds; builds_own = builds_own; built = built; no_more = omega (arith, room_T); own_room = omega (arith, parts.3); own_types = parts.0; budget = b.budget; reached = b.reached; told = b.told } in
        let g : Collects S Told j (IsTakingBy None) = record { gathering = taking; group = group; fields = fields; field_kinds = field_kinds; is_select = is_select; table_is = table_is; room_T = omega (arith, table_is, room_T); gathers = takes; own = takes_own; is = taken; room = omega (arith, parts.3); types_are = parts.1 } in
        ended_promised promise layout tables building taking query (10 ^ 18) (size (whole_by None (length building)) * (1 + promise.units tables)) (meaning (promise.pages tables) (1 + promise.units tables) (whole_by None (length building)) (first_state layout tables limit (first_locals others))) same
        (subst (λ (k : ℕ). IsOneRow (InSink (filter query.having ∷ []) (select query.items)) (literals S) (directory k) (own_first S + length builds_own + length takes_own) values one one_own →
        EndsOrTakes (10 ^ 18) (size (whole_by None k) * (1 + promise.units tables)) (IsGroupAnswered layout tables building taking query) (Settled layout tables) Never Told IsSomeCode (meaning (promise.pages tables) (1 + promise.units tables) (whole_by None k) (first S))) table_is
        (λ makes. single_ends S Told j (IsTakingBy None) g query values alone kinds_are one one_own makes parts.3 parts.2 (λ stoods. Unit {0}) (λ stoods are all. (b.taken stoods are).few) (λ stoods are none all. b.made stoods are none) (λ stoods are none all. b.told_made stoods are none)
        (10 ^ 18) (take_block T group.table (length group.functions) takes) (λ t h. inl (tt, takes_end S Told j t h g alone.can alone.none (b.taken h.stoods h.are) (b.told_taken h.stoods h.are)))) made)

    pub single_compiled : size (whole_by None (length building)) ≤ 2 ^ 22 → AreAlike promise.entries → (u : List (List (List Val)) → ℕ) →
        (bounded : (tables : List (List (List Val))) → AreOfEntries promise.entries tables → IsSingleBounded T (literal_count texts words) columns texts words (entry_offset (length layout.columns)) table_of building taking query group values (IsTold (promise.outcome tables)) (u tables) (promise.pages tables) (1 + promise.units tables) tables) →
        (same : (tables : List (List (List Val))) (stoods : List Stood) → AreOfEntries promise.entries tables → AreStood tables [] building stoods → (fed_over tables stoods taking).codes ≡ [] → (walked_of query (rows_met tables stoods taking)).codes ≡ [] →
        IsSameOutcome (promise.outcome tables) (Rows (walked_of query (rows_met tables stoods taking)).rows)) →
        (m : Module) → IsMadeOf m (whole_by None (length building)) others → IsCompiled promise layout m
    single_compiled short alike u bounded same m is_made =
        module_compiled_or_long promise layout (whole_by None (length building)) others (λ tables. 1 + promise.units tables) goes_with alike short
        (λ tables limit of ready. single_ended tables limit ready (u tables) (bounded tables of) (λ stoods are none over. same tables stoods of are none over))
        m is_made

  -- ---- counted
  module _ (goes_with : GoesWith promise layout) (leads_all : LeadsToAll (texts_placed T (entry_offset (length layout.columns)) texts) leads) (sets_all : SetsAll (words_placed T (length texts) words) sets) (alone : GoAlone query group values (literals_known T (entry_offset (length layout.columns)) texts words))
      (built : AreCourses (literals_known T (entry_offset (length layout.columns)) texts words) (query_readers T (literal_count texts words) columns) (own_start T (literal_count texts words) (length columns)) building builds builds_own)
      (taken : IsGatheringTo (λ known after a more. IsOneGroupWithin (Some 4) fields known after group a more) (literals_known T (entry_offset (length layout.columns)) texts words) (query_readers T (literal_count texts words) columns) (own_start T (literal_count texts words) (length columns) + length builds_own) taking takes takes_own)
      (made : IsOneRow (InSink (filter query.having ∷ []) (select query.items)) (literals_known T (entry_offset (length layout.columns)) texts words) (directory (length building)) (own_start T (literal_count texts words) (length columns) + length builds_own + length takes_own) values one one_own)
      (led : AreLed (types T (entry_offset (length layout.columns)) columns texts words (builds_own ++ (takes_own ++ one_own))) taking.operators) where
    -- over any tables that are ready, within bounds
    long_ended : (tables : List (List (List Val))) (limit : ℕ) → AreReady layout tables limit → (u : ℕ) → IsLongBounded T (literal_count texts words) columns texts words (entry_offset (length layout.columns)) table_of building taking query group values (IsTold (promise.outcome tables)) u (promise.pages tables) (1 + promise.units tables) tables →
        ((stoods : List Stood) → AreStood tables [] building stoods → (fed_over tables stoods taking).codes ≡ [] → (walked_of query (rows_met tables stoods taking)).codes ≡ [] → IsSameOutcome (promise.outcome tables) (Rows (walked_of query (rows_met tables stoods taking)).rows)) →
        EndsOrTakes (10 ^ 18) (size (whole_by (Some 4) (length building)) * (1 + promise.units tables)) (Ending promise layout tables) (Settled layout tables) Never (IsTold (promise.outcome tables)) IsSomeCode (meaning (promise.pages tables) (1 + promise.units tables) (whole_by (Some 4) (length building)) (first_state layout tables limit (first_locals others)))
    long_ended tables limit ready u b same =
        let f = b.first in
        let S : Setting = record { layout = layout; tables = tables; limit = limit; are_ready = ready; small = goes_with.small; T = T; columns = columns; texts = texts; words = words; table_of = table_of; laid = laid; texts_are = texts_are; utf8 = utf8; small_words = small_words; leads = leads; sets = sets; leads_all = leads_all; sets_all = sets_all; most = promise.pages tables; N = 1 + promise.units tables; u = u; some = omega arith; u_low = f.u_low; own = builds_own ++ (takes_own ++ one_own) } in
        let Told : ℕ → Type 0 = IsTold (promise.outcome tables) in
        let parts = own_parts S builds_own takes_own one_own refl in
        let j : Joins S Told = record { building = building; builds = builds; builds_own = builds_own; built = built; no_more = omega (arith, room_T); own_room = omega (arith, parts.3); own_types = parts.0; budget = f.budget; reached = f.reached; told = f.told } in
        let g : Collects S Told j (IsTakingBy (Some 4)) = record { gathering = taking; group = group; fields = fields; field_kinds = field_kinds; is_select = is_select; table_is = table_is; room_T = omega (arith, table_is, room_T); gathers = takes; own = takes_own; is = taken; room = omega (arith, parts.3); types_are = parts.1 } in
        ended_promised promise layout tables building taking query (10 ^ 18) (size (whole_by (Some 4) (length building)) * (1 + promise.units tables)) (meaning (promise.pages tables) (1 + promise.units tables) (whole_by (Some 4) (length building)) (first_state layout tables limit (first_locals others))) same
        (subst (λ (k : ℕ). IsOneRow (InSink (filter query.having ∷ []) (select query.items)) (literals S) (directory k) (own_first S + length builds_own + length takes_own) values one one_own →
        EndsOrTakes (10 ^ 18) (size (whole_by (Some 4) k) * (1 + promise.units tables)) (IsGroupAnswered layout tables building taking query) (Settled layout tables) Never Told IsSomeCode (meaning (promise.pages tables) (1 + promise.units tables) (whole_by (Some 4) k) (first S))) table_is
        (λ makes. single_ends S Told j (IsTakingBy (Some 4)) g query values alone kinds_are one one_own makes parts.3 parts.2 (λ stoods. length (rows_met tables stoods taking) < 10 ^ 18) (λ stoods are fewer some. fewer) b.made b.told_made
        (10 ^ 18) (counted (10 ^ 18) 4 (take_block T group.table (length group.functions) takes)) (λ t h. takes_counted S Told j t h (10 ^ 18) (omega arith) (omega arith) g alone.can alone.none (f.taken h.stoods h.are) (f.told_taken h.stoods h.are) led)) made)

    pub single_long_compiled : size (whole_by (Some 4) (length building)) ≤ 2 ^ 22 → AreAlike promise.entries → (u : List (List (List Val)) → ℕ) →
        (bounded : (tables : List (List (List Val))) → AreOfEntries promise.entries tables → IsLongBounded T (literal_count texts words) columns texts words (entry_offset (length layout.columns)) table_of building taking query group values (IsTold (promise.outcome tables)) (u tables) (promise.pages tables) (1 + promise.units tables) tables) →
        (same : (tables : List (List (List Val))) (stoods : List Stood) → AreOfEntries promise.entries tables → AreStood tables [] building stoods → (fed_over tables stoods taking).codes ≡ [] → (walked_of query (rows_met tables stoods taking)).codes ≡ [] →
        IsSameOutcome (promise.outcome tables) (Rows (walked_of query (rows_met tables stoods taking)).rows)) →
        (m : Module) → IsMadeOf m (whole_by (Some 4) (length building)) others → IsCompiled promise layout m
    single_long_compiled short alike u bounded same m is_made =
        module_compiled_or_long promise layout (whole_by (Some 4) (length building)) others (λ tables. 1 + promise.units tables) goes_with alike short
        (λ tables limit of ready. long_ended tables limit ready (u tables) (bounded tables of) (λ stoods are none over. same tables stoods of are none over))
        m is_made
