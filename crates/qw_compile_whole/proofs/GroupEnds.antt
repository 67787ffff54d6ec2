-- The run of a grouped query's statement, from the memory that it begins with to the rows that are found: those that GROUP BY, HAVING and the select list
-- make of what reaches them, in some order (ISO/IEC 9075:1992, 7.7 to 7.9).
use Rattle.std.proofs.Common.{◌≡◌, ℕ, ◌+◌, ◌*◌, ◌^◌, ◌<◌, ◌≤◌, Option, Some, List, [], ◌∷◌, length, map, arith}
use Rattle.std.proofs.Math.Nat.{add-mul}
use Rattle.qw_module.specs.declared.instruction.ValType.{ValType}
use Rattle.qw_types.specs.declared.kind.Kind.{Kind}
use Rattle.qw_scalar.specs.Typing.{kind_of}
use Rattle.qw_grouped.specs.Grouped.{Grouped}
use Rattle.qw_low.specs.Syntax.{Statement, seq}
use Rattle.qw_low.specs.State.{LowState}
use Rattle.qw_low.specs.Meaning.{meaning}
use Rattle.qw_low.specs.Promise.{Ends}
use Rattle.qw_low.specs.Size.{size}
use Rattle.qw_low.proofs.Promises.{Ends-more}
use Rattle.qw_low.proofs.Results.{at_least}
use Rattle.qw_feed.specs.Feeds.{Tells}
use Rattle.qw_feed.specs.Rows.{begin_block, finish_block}
use Rattle.qw_feed.proofs.Frames.{Never}
use Rattle.qw_physical.specs.Physical.{filter, select}
use Rattle.qw_physical.specs.declared.pipeline.ReadColumn.{ReadColumn}
use Rattle.qw_operator.specs.Carries.{directory}
use Rattle.qw_operator.proofs.Promised.{AreOwn}
use Rattle.qw_operator.proofs.Stood.{Stood}
use Rattle.qw_group_pipeline.specs.Groups.{IsGroupPipeline}
use Rattle.qw_group_pipeline.specs.declared.columns.ValueColumn.{ValueColumn}
use Rattle.qw_compile.proofs.PipelineRuns.{AreStood, fed_over}
use Rattle.qw_compile.proofs.QueryRuns.{Joined, Joins, Setting, around, base, both_end, c, first, grounds, joins_then, literals, many, n, own_first, types}
use Rattle.qw_compile_whole.specs.GuardedStatements.{IsGatheringBy, gather_block}
use Rattle.qw_compile_whole.proofs.FrontEnds.{Collects, IsGroupAnswered, answer_ends, stood_low}
use Rattle.qw_compile_whole.proofs.GroupBounded.{GatherReach, GoTogether, WalkReach, groups_paid, rows_met, walked_of}
use Rattle.qw_compile_whole.proofs.GuardedFronts.{GatheredBy, IsGuard, gathers_end}
use Rattle.qw_compile_whole.proofs.Walked.{walk_then}

module _ (S : Setting) (Told : ℕ → Type 0) (j : Joins S Told) (guard : Option ℕ) (is_guard : IsGuard guard) (g : Collects S Told j (IsGatheringBy guard)) (query : Grouped) (key : List ReadColumn) (values : List ValueColumn) (together : GoTogether query g.group key values (literals S))
    (kinds_are : map kind_of query.items ≡ map (λ (k : Kind). Some k) S.layout.cells) (walk : Statement) (walk_own : List ValType)
    (walked : IsGroupPipeline (literals S) (directory g.group.table) (own_first S + length j.builds_own + length g.own) key values (filter query.having ∷ []) (select query.items) walk walk_own)
    (walk_room : own_first S + length j.builds_own + length g.own + length walk_own ≤ many S) (walk_types : AreOwn (types S) (own_first S + length j.builds_own + length g.own) walk_own)
    (gathered : (stoods : List Stood) → AreStood S.tables [] j.building stoods → GatherReach S.T (n S) S.columns (literals S) S.tables S.u S.most S.N S.table_of g.group stoods g.gathering (j.budget (length j.building)))
    (told_gathered : (stoods : List Stood) → AreStood S.tables [] j.building stoods → (raised : ℕ) → Tells (fed_over S.tables stoods g.gathering).codes raised → Told raised)
    (reached : (stoods : List Stood) → AreStood S.tables [] j.building stoods → (fed_over S.tables stoods g.gathering).codes ≡ [] → WalkReach query g.group key values S.u S.most S.N (rows_met S.tables stoods g.gathering) (groups_paid S.u g.group (j.budget (length j.building)) (rows_met S.tables stoods g.gathering)))
    (told_walked : (stoods : List Stood) → AreStood S.tables [] j.building stoods → (fed_over S.tables stoods g.gathering).codes ≡ [] → (raised : ℕ) → Tells (walked_of query (rows_met S.tables stoods g.gathering)).codes raised → Told raised)
    (fewer : guard ≡ Some 4 → (stoods : List Stood) → AreStood S.tables [] j.building stoods → length (rows_met S.tables stoods g.gathering) < 10 ^ 18) where
  open S use {T, columns, tables, most, N, u}

  abbrev Answered : LowState → Type 0
  Answered = IsGroupAnswered S.layout tables j.building g.gathering query

  abbrev tail : Statement
  tail = seq begin_block (seq walk finish_block)

  -- the walk over the groups, and the end
  tail_ends : (t : LowState) (h : Joined S Told j t) (w : LowState) → GatheredBy S Told j t h g.group g.fields g.gathering w → Ends (size tail * N) Answered Never Told (meaning most N tail w)
  tail_ends t h w after =
      let budget : ℕ = j.budget (length j.building) in
      let r = reached h.stoods h.are after.1 in
      let low = stood_low S Told j (IsGatheringBy guard) g t h in
      Ends-more Answered Never Told (6 + (size walk * N + 12)) (size tail * N) (meaning most N tail w) (omega (arith, add-mul 18 (size walk) N, at_least 18 N S.some))
      (walk_then T (n S) columns (literals S) tables (c S) (base S) u most N N (many S) (types S) h.s0 (grounds S h.s0 h.begun) query g.group key values together g.fields g.field_kinds g.room_T walk (own_first S + length j.builds_own + length g.own) walk_own walked (omega arith) walk_room walk_types
      budget (rows_met tables h.stoods g.gathering) (gathered h.stoods h.are).few r h.stoods (omega (arith, low)) w after.0 Told (told_walked h.stoods h.are after.1) 12 Answered finish_block
      (λ w' done. answer_ends S Told j t h g.gathering after.1 query kinds_are r.fits (groups_paid u g.group budget (rows_met tables h.stoods g.gathering)) w' done))

  abbrev rest : Statement
  rest = seq (gather_block guard T g.group.table g.gathers) tail

  pub grouped_ends : Ends (size (around S Told j rest) * N) Answered Never Told (meaning most N (around S Told j rest) (first S))
  grouped_ends =
      joins_then S Told j (size rest * N) Answered rest (omega arith) (λ t h.
      both_end most N N Answered (GatheredBy S Told j t h g.group g.fields g.gathering) Told (gather_block guard T g.group.table g.gathers) tail t
      (gathers_end S Told j t h guard is_guard g together.can (gathered h.stoods h.are) (told_gathered h.stoods h.are) (λ counts. fewer counts h.stoods h.are)) (λ w after. tail_ends t h w after))
