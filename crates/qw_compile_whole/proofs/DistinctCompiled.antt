-- The module around the statement of a grouped query with DISTINCT is the compiled form of what is promised of the query: where rows are counted and 10^18 of them
-- and more reach the groups, its runs take as many instructions, and no run does.
use Rattle.std.proofs.Common.{◌≡◌, ℕ, ◌+◌, ◌*◌, ◌^◌, ◌<◌, ◌≤◌, ◌⊎◌, inl, IsUtf8, List, [], ◌∷◌, ◌++◌, length, length-append, map, Option, Some, refl, sym, subst, ⊎_elim, arith}
use Rattle.std.specs.List.{AllByRecursion, concat}
use Rattle.std.specs.List.Sorted.{IsPermutation}
use Rattle.qw_types.specs.declared.kind.Kind.{Kind}
use Rattle.qw_types.specs.declared.value.Val.{Val}
use Rattle.qw_module.specs.declared.instruction.ValType.{ValType}
use Rattle.qw_module.specs.declared.module.Module.{Module}
use Rattle.qw_scalar.specs.Typing.{kind_of}
use Rattle.qw_map.specs.Layout.{Layout, descriptor_size, entry_offset}
use Rattle.qw_meaning.specs.Outcome.{IsSameOutcome, Rows}
use Rattle.qw_meaning.specs.Select.{AreOfEntries}
use Rattle.qw_grouped.specs.Grouped.{Grouped}
use Rattle.qw_low.specs.Syntax.{Statement, seq}
use Rattle.qw_low.specs.State.{LowState}
use Rattle.qw_low.specs.Begin.{first_state}
use Rattle.qw_low.specs.Meaning.{Outcome as Run, meaning}
use Rattle.qw_low.specs.Promise.{Ends}
use Rattle.qw_low.specs.Size.{size}
use Rattle.qw_low.proofs.Promises.{Ends-weaker}
use Rattle.qw_feed.specs.Cells.{kinds_of}
use Rattle.qw_feed.specs.Rows.{begin_block, finish_block, in_order}
use Rattle.qw_feed.proofs.Frames.{Never}
use Rattle.qw_limit.specs.Counting.{EndsOrTakes}
use Rattle.qw_read.specs.Constants.{IsSmall, SetsAll}
use Rattle.qw_read.specs.Texts.{LeadsToAll}
use Rattle.qw_read.specs.declared.constant.Word.{Word}
use Rattle.qw_table.specs.Joins.{sources_of}
use Rattle.qw_table.specs.Tables.{directory_block}
use Rattle.qw_table.specs.declared.key.Field.{Field}
use Rattle.qw_physical.specs.Physical.{Pipeline, filter, select}
use Rattle.qw_physical.specs.declared.pipeline.ReadColumn.{ReadColumn}
use Rattle.qw_operator.specs.Carries.{directory}
use Rattle.qw_operator.proofs.CarriedTyped.{AreLed}
use Rattle.qw_operator.proofs.Stood.{Stood}
use Rattle.qw_promise.specs.Compiled.{GoesWith, IsCompiled}
use Rattle.qw_promise.specs.Promise.{Promise}
use Rattle.qw_emit.specs.RunsOf.{IsMadeOf, first_locals}
use Rattle.qw_emit.specs.Alike.{AreAlike}
use Rattle.qw_emit.proofs.Answered.{IsSomeCode, IsTold}
use Rattle.qw_emit.proofs.ModuleCompiled.{AreReady, Ending, Settled, module_compiled_or_long}
use Rattle.qw_operator.specs.Grouping.{Group}
use Rattle.qw_group_pipeline.specs.Groups.{Grouping, InEnd, IsGroupPipeline, IsGroupPipelineTo}
use Rattle.qw_group_pipeline.specs.declared.columns.ValueColumn.{ValueColumn}
use Rattle.qw_compile.specs.QueryLocals.{own_start, query_locals, query_readers}
use Rattle.qw_compile.specs.Statements.{AreCourses, Course}
use Rattle.qw_compile.proofs.LocalsDeclared.{first_own_types, rest_own_types}
use Rattle.qw_compile.proofs.LocalsPlaced.{literal_count, literals_known, texts_placed, words_placed}
use Rattle.qw_compile.proofs.PipelineRuns.{AreStood, fed_over}
use Rattle.qw_compile.proofs.QueryRuns.{AreLaid, Joins, Setting, literals, own_first, types as types_in}
use Rattle.qw_compile.proofs.QueryTyped.{types}
use Rattle.qw_compile_whole.specs.DistinctStatements.{distinct_block_of}
use Rattle.qw_compile_whole.specs.GuardedStatements.{IsGatheringBy}
use Rattle.qw_compile_whole.proofs.DistinctEnds.{IsDistinctAnswered, distinct_ends}
use Rattle.qw_compile_whole.proofs.EnterBounded.{IsDistinctBounded}
use Rattle.qw_compile_whole.proofs.FrontEnds.{Collects, own_parts}
use Rattle.qw_compile_whole.proofs.GroupBounded.{GoTogether, rows_met, walked_of}
use Rattle.qw_compile_whole.proofs.GuardedCompiled.{AreMany, in_any_order, many_end}
use Rattle.qw_compile_whole.proofs.GuardedFronts.{IsGuard}

-- Over tables of which few rows reach the groups, where these are counted: all of it is within bounds, and the rows of the second walk are the query's.
pub record AreFewOnce (guard : Option ℕ) (promise : Promise) (T n : ℕ) (columns : List ReadColumn) (texts : List (List ℕ)) (words : List Word) (at : ℕ) (table_of : ℕ → ℕ) (building : List Pipeline) (gathering : Pipeline) (query : Grouped) (g : Group) (key : List ReadColumn) (values : List ValueColumn)
    (again : Grouped) (into : Group) (key_again : List ReadColumn) (values_again : List ValueColumn) (u : ℕ) (tables : List (List (List Val))) : Type 0 where
  pub bounded : IsDistinctBounded T n columns texts words at table_of building gathering query g key values again into key_again values_again (IsTold (promise.outcome tables)) u (promise.pages tables) (1 + promise.units tables) tables
  pub fewer : guard ≡ Some 4 → (stoods : List Stood) → AreStood tables [] building stoods → length (rows_met tables stoods gathering) < 10 ^ 18
  pub same : (stoods : List Stood) (made : List (List Val)) → AreStood tables [] building stoods → (fed_over tables stoods gathering).codes ≡ [] → (walked_of query (rows_met tables stoods gathering)).codes ≡ [] →
      IsPermutation made (walked_of query (rows_met tables stoods gathering)).rows → (walked_of again made).codes ≡ [] → IsSameOutcome (promise.outcome tables) (Rows (walked_of again made).rows)

module _ (promise : Promise) (layout : Layout) (T : ℕ) (columns : List ReadColumn) (texts : List (List ℕ)) (words : List Word) (table_of : ℕ → ℕ) (laid : AreLaid table_of layout.columns columns) (texts_are : layout.literals ≡ concat texts)
    (utf8 : AllByRecursion IsUtf8 texts) (small_words : AllByRecursion IsSmall words) (leads sets : Statement) (building : List Pipeline) (gathering : Pipeline) (query : Grouped) (group : Group) (key : List ReadColumn) (values : List ValueColumn) (fields : List Field)
    (field_kinds : kinds_of (sources_of fields) ≡ map kind_of group.values) (again : Grouped) (into : Group) (key_again : List ReadColumn) (values_again : List ValueColumn) (into_fields : List Field) (into_kinds : kinds_of (sources_of into_fields) ≡ map kind_of into.values) (values_are : into.values ≡ query.items)
    (is_select : gathering.sink ≡ select group.values) (kinds_are : map kind_of again.items ≡ map (λ (k : Kind). Some k) layout.cells) (table_is : group.table ≡ length building) (into_is : into.table ≡ length building + 1) (room_T : length building + 1 < T)
    (builds : List Course) (gathers : Course) (enters walk : Statement) (builds_own gathers_own enters_own walk_own : List ValType) (guard : Option ℕ) where
  abbrev others : ℕ
  others = length (query_locals T (length texts) (length words) columns (builds_own ++ (gathers_own ++ (enters_own ++ walk_own))))

  abbrev whole : Statement
  whole = distinct_block_of guard T (descriptor_size layout) leads sets builds (length building) gathers enters walk

  module _ (is_guard : IsGuard guard) (goes_with : GoesWith promise layout) (leads_all : LeadsToAll (texts_placed T (entry_offset (length layout.columns)) texts) leads) (sets_all : SetsAll (words_placed T (length texts) words) sets) (together : GoTogether query group key values (literals_known T (entry_offset (length layout.columns)) texts words))
      (together_again : GoTogether again into key_again values_again (literals_known T (entry_offset (length layout.columns)) texts words)) (built : AreCourses (literals_known T (entry_offset (length layout.columns)) texts words) (query_readers T (literal_count texts words) columns) (own_start T (literal_count texts words) (length columns)) building builds builds_own)
      (gathered : IsGatheringBy guard (literals_known T (entry_offset (length layout.columns)) texts words) (query_readers T (literal_count texts words) columns) (own_start T (literal_count texts words) (length columns) + length builds_own) gathering group fields gathers gathers_own)
      (entered : IsGroupPipelineTo (InEnd (Grouping into_fields into) (filter query.having ∷ [])) (literals_known T (entry_offset (length layout.columns)) texts words) (directory (length building)) (own_start T (literal_count texts words) (length columns) + length builds_own + length gathers_own) key values enters enters_own)
      (walked : IsGroupPipeline (literals_known T (entry_offset (length layout.columns)) texts words) (directory (length building + 1)) (own_start T (literal_count texts words) (length columns) + length builds_own + length gathers_own + length enters_own) key_again values_again (filter again.having ∷ []) (select again.items) walk walk_own)
      (led : AreLed (types T (entry_offset (length layout.columns)) columns texts words (builds_own ++ (gathers_own ++ (enters_own ++ walk_own)))) gathering.operators) where
    module _ (tables : List (List (List Val))) (limit : ℕ) (ready : AreReady layout tables limit) (u : ℕ) where
      abbrev Told : ℕ → Type 0
      Told = IsTold (promise.outcome tables)

      abbrev N : ℕ
      N = 1 + promise.units tables

      abbrev rest : Statement
      rest = seq (directory_block (directory (length building + 1))) (seq enters (seq begin_block (seq walk finish_block)))

      abbrev whole_by : Option ℕ → ℕ → Statement
      whole_by o table = distinct_block_of o T (descriptor_size layout) leads sets builds table gathers enters walk

      abbrev meant : Statement → Run
      meant w = meaning (promise.pages tables) N w (first_state layout tables limit (first_locals others))

      few_end : AreFewOnce guard promise T (literal_count texts words) columns texts words (entry_offset (length layout.columns)) table_of building gathering query group key values again into key_again values_again u tables → Ends (size whole * N) (Ending promise layout tables) Never Told (meant whole)
      few_end h =
          let b = h.bounded in
          let S : Setting = record { layout = layout; tables = tables; limit = limit; are_ready = ready; small = goes_with.small; T = T; columns = columns; texts = texts; words = words; table_of = table_of; laid = laid; texts_are = texts_are; utf8 = utf8; small_words = small_words; leads = leads; sets = sets; leads_all = leads_all; sets_all = sets_all; most = promise.pages tables; N = 1 + promise.units tables; u = u; some = omega arith; u_low = b.u_low; own = builds_own ++ (gathers_own ++ (enters_own ++ walk_own)) } in
          let parts = own_parts S builds_own gathers_own (enters_own ++ walk_own) refl in
          let j : Joins S Told = record { building = building; builds = builds; builds_own = builds_own; built = built; no_more = omega (arith, room_T); own_room = omega (arith, parts.3); own_types = parts.0; budget = b.budget; reached = b.reached; told = b.told } in
          let g : Collects S Told j (IsGatheringBy guard) = record { gathering = gathering; group = group; fields = fields; field_kinds = field_kinds; is_select = is_select; table_is = table_is; room_T = omega (arith, table_is, room_T); gathers = gathers; own = gathers_own; is = gathered; room = omega (arith, parts.3); types_are = parts.1 } in
          let four = length-append enters_own walk_own in
          let Answered : LowState → Type 0 = IsDistinctAnswered layout tables building gathering query again in
          let enter_first : ℕ = own_first S + length builds_own + length gathers_own in
          Ends-weaker (size whole * N) (size whole * N) Answered (Ending promise layout tables) Never Never Told Told (meant whole) (omega arith)
          (λ t r. record {
            settled = r.settled;
            same = in_any_order (promise.outcome tables) (walked_of again r.made).rows (in_order r.settled.found) (h.same r.stoods r.made r.are r.none r.none_behind r.made_same r.none_again) r.rows;
          }) (λ t x. x) (λ code x. x)
          (subst (λ (k : ℕ). IsGroupPipelineTo (InEnd (Grouping into_fields into) (filter query.having ∷ [])) (literals S) (directory k) enter_first key values enters enters_own →
          IsGroupPipeline (literals S) (directory (k + 1)) (enter_first + length enters_own) key_again values_again (filter again.having ∷ []) (select again.items) walk walk_own → into.table ≡ k + 1 → Ends (size (whole_by guard k) * N) Answered Never Told (meant (whole_by guard k))) table_is
          (λ enter walks is. distinct_ends S Told j guard is_guard g query key values together again into key_again values_again together_again into_fields into_kinds values_are kinds_are is (omega (arith, into_is, room_T)) enters walk enters_own walk_own enter walks
          (omega (arith, parts.3, four)) (first_own_types (types_in S) enter_first (enters_own ++ walk_own) enters_own walk_own refl parts.2) (rest_own_types (types_in S) enter_first (enters_own ++ walk_own) enters_own walk_own refl parts.2)
          b.gathered b.told_gathered b.entered b.told_entered b.walked b.told_walked h.fewer) entered walked into_is)

      -- where more reach the groups, it stops behind the scan
      many_counted : guard ≡ Some 4 → AreMany promise T (literal_count texts words) columns texts words (entry_offset (length layout.columns)) table_of building gathering group u tables →
          EndsOrTakes (10 ^ 18) (size whole * N) (Ending promise layout tables) (Settled layout tables) Never Told IsSomeCode (meant whole)
      many_counted counts h =
          subst (λ (o : Option ℕ). EndsOrTakes (10 ^ 18) (size (whole_by o (length building)) * N) (Ending promise layout tables) (Settled layout tables) Never Told IsSomeCode (meant (whole_by o (length building)))) (sym counts)
          (many_end promise layout T columns texts words table_of laid texts_are utf8 small_words leads sets building gathering group together.can fields field_kinds is_select table_is (omega (arith, room_T)) builds gathers rest builds_own gathers_own (enters_own ++ walk_own)
          goes_with leads_all sets_all built (subst (λ (o : Option ℕ). IsGatheringBy o (literals_known T (entry_offset (length layout.columns)) texts words) (query_readers T (literal_count texts words) columns) (own_start T (literal_count texts words) (length columns) + length builds_own) gathering group fields gathers gathers_own) counts gathered)
          led tables limit ready u h)

    pub distinct_compiled : size whole ≤ 2 ^ 22 → AreAlike promise.entries → (u : List (List (List Val)) → ℕ) →
        ((tables : List (List (List Val))) → AreOfEntries promise.entries tables →
        AreFewOnce guard promise T (literal_count texts words) columns texts words (entry_offset (length layout.columns)) table_of building gathering query group key values again into key_again values_again (u tables) tables ⊎ ((guard ≡ Some 4) × AreMany promise T (literal_count texts words) columns texts words (entry_offset (length layout.columns)) table_of building gathering group (u tables) tables)) →
        (m : Module) → IsMadeOf m whole others → IsCompiled promise layout m
    distinct_compiled short alike u bounded m is_made =
        module_compiled_or_long promise layout whole others (λ tables. 1 + promise.units tables) goes_with alike short
        (λ tables limit of ready. ⊎_elim (λ h. inl (few_end tables limit ready (u tables) h)) (λ h. many_counted tables limit ready (u tables) h.0 h.1) (bounded tables of))
        m is_made
