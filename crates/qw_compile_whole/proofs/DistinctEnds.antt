-- The run of a grouped query's statement with DISTINCT, from the memory that it begins with to the rows that are found: those of the walk over the second
-- table, in some order (ISO/IEC 9075:1992, 7.7 to 7.9). Where rows are counted that go into groups, they are few.
use Rattle.std.proofs.Common.{◌≡◌, ℕ, ◌+◌, ◌*◌, ◌^◌, ◌<◌, ◌≤◌, inl, Option, Some, List, [], ◌∷◌, length, map, sym, subst, arith}
use Rattle.std.specs.List.Sorted.{IsPermutation}
use Rattle.std.proofs.lemmas.List.Sorted.{length_permutation}
use Rattle.std.proofs.Math.Nat.{add-mul}
use Rattle.qw_module.specs.declared.instruction.ValType.{ValType}
use Rattle.qw_types.specs.declared.kind.Kind.{Kind}
use Rattle.qw_types.specs.declared.value.Val.{Val}
use Rattle.qw_scalar.specs.Typing.{kind_of}
use Rattle.qw_grouped.specs.Grouped.{Grouped}
use Rattle.qw_map.specs.Layout.{Layout}
use Rattle.qw_low.specs.Syntax.{Statement, seq}
use Rattle.qw_low.specs.State.{LowState}
use Rattle.qw_low.specs.Meaning.{meaning}
use Rattle.qw_low.specs.Promise.{Ends}
use Rattle.qw_low.specs.Size.{size}
use Rattle.qw_low.proofs.Promises.{Ends-more, Ends-weaker}
use Rattle.qw_low.proofs.Results.{at_least}
use Rattle.qw_feed.specs.Cells.{kinds_of}
use Rattle.qw_feed.specs.Feeds.{Tells}
use Rattle.qw_feed.specs.Rows.{begin_block, finish_block, in_order}
use Rattle.qw_feed.proofs.Frames.{Never}
use Rattle.qw_table.specs.Joins.{sources_of}
use Rattle.qw_table.specs.Tables.{directory_block}
use Rattle.qw_table.specs.declared.key.Field.{Field}
use Rattle.qw_physical.specs.Physical.{Pipeline, filter, select}
use Rattle.qw_physical.specs.declared.pipeline.ReadColumn.{ReadColumn}
use Rattle.qw_operator.specs.Carries.{directory}
use Rattle.qw_operator.proofs.Promised.{AreOwn}
use Rattle.qw_operator.proofs.Stood.{Stood}
use Rattle.qw_operator.specs.Grouping.{Group}
use Rattle.qw_group_pipeline.specs.Groups.{Grouping, InEnd, IsGroupPipeline, IsGroupPipelineTo}
use Rattle.qw_group_pipeline.specs.declared.columns.ValueColumn.{ValueColumn}
use Rattle.qw_emit.proofs.ModuleCompiled.{Settled}
use Rattle.qw_compile.proofs.PipelineRuns.{AreStood, fed_over}
use Rattle.qw_compile.proofs.QueryRuns.{Joined, Joins, Setting, around, base, both_end, c, first, grounds, joins_then, literals, many, n, own_first, types}
use Rattle.qw_compile_whole.specs.GuardedStatements.{IsGatheringBy, gather_block}
use Rattle.qw_compile_whole.proofs.EnterBounded.{EnterReach}
use Rattle.qw_compile_whole.proofs.FrontEnds.{Collects, HasSettled, settle_ends, number_is, stood_low}
use Rattle.qw_compile_whole.proofs.GroupBounded.{GatherReach, GoTogether, WalkReach, groups_paid, rows_met, walked_of}
use Rattle.qw_compile_whole.proofs.GuardedFronts.{GatheredBy, IsGuard, gathers_end}
use Rattle.qw_compile_whole.proofs.Walked.{walk_then}
use Rattle.qw_compile_whole.proofs.WalkedInto.{enter_then}

-- The rows of the result are what comes of the groups of the rows that the first walk made, of the groups of those that the last pipeline of the front feeds.
pub record IsDistinctAnswered (layout : Layout) (tables : List (List (List Val))) (building : List Pipeline) (gathering : Pipeline) (query again : Grouped) (t : LowState) : Type 0 where
  pub stoods : List Stood
  pub are : AreStood tables [] building stoods
  pub none : (fed_over tables stoods gathering).codes ≡ []
  pub none_behind : (walked_of query (rows_met tables stoods gathering)).codes ≡ []
  pub made : List (List Val)
  pub made_same : IsPermutation made (walked_of query (rows_met tables stoods gathering)).rows
  pub none_again : (walked_of again made).codes ≡ []
  pub settled : Settled layout tables t
  pub rows : IsPermutation (in_order settled.found) (walked_of again made).rows

module _ (S : Setting) (Told : ℕ → Type 0) (j : Joins S Told) (guard : Option ℕ) (is_guard : IsGuard guard) (g : Collects S Told j (IsGatheringBy guard)) (query : Grouped) (key : List ReadColumn) (values : List ValueColumn) (together : GoTogether query g.group key values (literals S))
    (again : Grouped) (into : Group) (key_again : List ReadColumn) (values_again : List ValueColumn) (together_again : GoTogether again into key_again values_again (literals S)) (into_fields : List Field) (into_kinds : kinds_of (sources_of into_fields) ≡ map kind_of into.values) (values_are : into.values ≡ query.items)
    (kinds_are : map kind_of again.items ≡ map (λ (k : Kind). Some k) S.layout.cells) (into_is : into.table ≡ g.group.table + 1) (into_T : into.table < S.T) (enters walk : Statement) (enters_own walk_own : List ValType)
    (entered : IsGroupPipelineTo (InEnd (Grouping into_fields into) (filter query.having ∷ [])) (literals S) (directory g.group.table) (own_first S + length j.builds_own + length g.own) key values enters enters_own)
    (walked : IsGroupPipeline (literals S) (directory (g.group.table + 1)) (own_first S + length j.builds_own + length g.own + length enters_own) key_again values_again (filter again.having ∷ []) (select again.items) walk walk_own)
    (walk_room : own_first S + length j.builds_own + length g.own + length enters_own + length walk_own ≤ many S) (enter_types : AreOwn (types S) (own_first S + length j.builds_own + length g.own) enters_own)
    (walk_types : AreOwn (types S) (own_first S + length j.builds_own + length g.own + length enters_own) walk_own)
    (gathered : (stoods : List Stood) → AreStood S.tables [] j.building stoods → GatherReach S.T (n S) S.columns (literals S) S.tables S.u S.most S.N S.table_of g.group stoods g.gathering (j.budget (length j.building)))
    (told_gathered : (stoods : List Stood) → AreStood S.tables [] j.building stoods → (raised : ℕ) → Tells (fed_over S.tables stoods g.gathering).codes raised → Told raised)
    (enter_reach : (stoods : List Stood) → AreStood S.tables [] j.building stoods → (fed_over S.tables stoods g.gathering).codes ≡ [] →
    EnterReach query g.group key values into S.u S.most S.N (rows_met S.tables stoods g.gathering) (groups_paid S.u g.group (j.budget (length j.building)) (rows_met S.tables stoods g.gathering)))
    (told_entered : (stoods : List Stood) → AreStood S.tables [] j.building stoods → (fed_over S.tables stoods g.gathering).codes ≡ [] → (raised : ℕ) → Tells (walked_of query (rows_met S.tables stoods g.gathering)).codes raised → Told raised)
    (walk_reach : (stoods : List Stood) → AreStood S.tables [] j.building stoods → (fed_over S.tables stoods g.gathering).codes ≡ [] → (walked_of query (rows_met S.tables stoods g.gathering)).codes ≡ [] →
    (made : List (List Val)) → IsPermutation made (walked_of query (rows_met S.tables stoods g.gathering)).rows →
    WalkReach again into key_again values_again S.u S.most S.N made (groups_paid S.u into (groups_paid S.u g.group (j.budget (length j.building)) (rows_met S.tables stoods g.gathering)) made))
    (told_walked : (stoods : List Stood) → AreStood S.tables [] j.building stoods → (fed_over S.tables stoods g.gathering).codes ≡ [] → (walked_of query (rows_met S.tables stoods g.gathering)).codes ≡ [] →
    (made : List (List Val)) → IsPermutation made (walked_of query (rows_met S.tables stoods g.gathering)).rows → (raised : ℕ) → Tells (walked_of again made).codes raised → Told raised)
    (fewer : guard ≡ Some 4 → (stoods : List Stood) → AreStood S.tables [] j.building stoods → length (rows_met S.tables stoods g.gathering) < 10 ^ 18) where
  open S use {layout, T, columns, tables, most, N, u}

  abbrev Answered : LowState → Type 0
  Answered = IsDistinctAnswered layout tables j.building g.gathering query again

  abbrev enter_first : ℕ
  enter_first = own_first S + length j.builds_own + length g.own

  abbrev tail : Statement
  tail = seq (directory_block (directory (g.group.table + 1))) (seq enters (seq begin_block (seq walk finish_block)))

  -- what follows the groups: the walk into the second table, the walk over that one, and the end
  tail_ends : (t : LowState) (h : Joined S Told j t) (w : LowState) → GatheredBy S Told j t h g.group g.fields g.gathering w → Ends (26 + (size enters * N + (6 + (size walk * N + 12)))) Answered Never Told (meaning most N tail w)
  tail_ends t h w after =
      let rows : List (List Val) = rows_met tables h.stoods g.gathering in
      let budget : ℕ = j.budget (length j.building) in
      let paid : ℕ = groups_paid u g.group budget rows in
      let first_T = g.room_T in
      let low = stood_low S Told j (IsGatheringBy guard) g t h in
      let number = number_is S Told j (IsGatheringBy guard) g t h in
      subst (λ (k : ℕ). Ends (26 + (size enters * N + (6 + (size walk * N + 12)))) Answered Never Told (meaning most N (seq (directory_block (directory k)) (seq enters (seq begin_block (seq walk finish_block)))) w)) into_is
      (enter_then T (n S) columns (literals S) tables (c S) (base S) u most N N (many S) (types S) h.s0 (grounds S h.s0 h.begun) query g.group key values together g.fields g.field_kinds into together_again.can into_fields into_kinds values_are first_T into_T (λ e. omega (arith, e, into_is))
      enters enter_first enters_own entered (omega arith) (omega (arith, walk_room)) enter_types
      budget rows (gathered h.stoods h.are).few (enter_reach h.stoods h.are after.1) h.stoods (omega (arith, low)) (omega (arith, number, into_is)) w after.0 Told (told_entered h.stoods h.are after.1) (λ code x. told_entered h.stoods h.are after.1 code (inl x)) (6 + (size walk * N + 12)) Answered (seq begin_block (seq walk finish_block))
      (λ v entry.
      let reach = walk_reach h.stoods h.are after.1 entry.none entry.made entry.same in
      let few_made = (enter_reach h.stoods h.are after.1).few in
      let count = length_permutation entry.made (walked_of query rows).rows entry.same in
      walk_then T (n S) columns (literals S) tables (c S) (base S) u most N N (many S) (types S) h.s0 (grounds S h.s0 h.begun) again into key_again values_again together_again into_fields into_kinds into_T walk (enter_first + length enters_own) walk_own
      (subst (λ (k : ℕ). IsGroupPipeline (literals S) (directory k) (enter_first + length enters_own) key_again values_again (filter again.having ∷ []) (select again.items) walk walk_own) (sym into_is) walked) (omega arith) walk_room walk_types
      paid entry.made (λ some'. let all = few_made some' in omega (arith, all, count)) reach h.stoods (omega (arith, low)) v entry.gathered Told (told_walked h.stoods h.are after.1 entry.none entry.made entry.same) 12 Answered finish_block
      (λ w' done. Ends-weaker 12 12 (HasSettled layout tables again entry.made) Answered Never Never Told Told (meaning most N finish_block w') (omega arith)
      (λ x left. record { stoods = h.stoods; are = h.are; none = after.1; none_behind = entry.none; made = entry.made; made_same = entry.same; none_again = left.none; settled = left.settled; rows = left.same }) (λ x y. y) (λ code x. x)
      (settle_ends S Told j h.s0 h.begun again kinds_are reach.fits (groups_paid u into paid entry.made) entry.made w' done))))

  abbrev rest : Statement
  rest = seq (gather_block guard T g.group.table g.gathers) tail

  pub distinct_ends : Ends (size (around S Told j rest) * N) Answered Never Told (meaning most N (around S Told j rest) (first S))
  distinct_ends =
      let E : ℕ = size enters in
      let W : ℕ = size walk in
      joins_then S Told j (size rest * N) Answered rest (omega arith) (λ t h.
      both_end most N N Answered (GatheredBy S Told j t h g.group g.fields g.gathering) Told (gather_block guard T g.group.table g.gathers) tail t
      (gathers_end S Told j t h guard is_guard g together.can (gathered h.stoods h.are) (told_gathered h.stoods h.are) (λ counts. fewer counts h.stoods h.are))
      (λ w after. Ends-more Answered Never Told (26 + (E * N + (6 + (W * N + 12)))) (size tail * N) (meaning most N tail w) (omega (arith, add-mul 44 (E + W) N, add-mul E W N, at_least 44 N S.some)) (tail_ends t h w after)))
