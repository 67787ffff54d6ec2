-- The run of the statement of a query with set functions and no GROUP BY, from the memory that it begins with to the rows that are found: what HAVING and the
-- select list make of the one group of all rows; where these are counted and many, it takes as many instructions (ISO/IEC 9075:1992, 7.8, 7.9).
use Rattle.std.proofs.Common.{◌≡◌, ℕ, ◌+◌, ◌*◌, ◌^◌, ◌<◌, ◌≤◌, ◌⊎◌, inl, Some, List, [], ◌∷◌, length, map, ⊎_elim, arith}
use Rattle.std.proofs.Math.Nat.{add-mul}
use Rattle.qw_module.specs.declared.instruction.ValType.{ValType}
use Rattle.qw_types.specs.declared.kind.Kind.{Kind}
use Rattle.qw_scalar.specs.Typing.{kind_of}
use Rattle.qw_grouped.specs.Grouped.{Grouped}
use Rattle.qw_low.specs.Syntax.{Statement, seq}
use Rattle.qw_low.specs.State.{LowState}
use Rattle.qw_low.specs.Meaning.{meaning}
use Rattle.qw_low.specs.Promise.{Ends}
use Rattle.qw_low.specs.Size.{size}
use Rattle.qw_low.proofs.Promises.{Ends-more}
use Rattle.qw_low.proofs.Results.{at_least}
use Rattle.qw_feed.specs.Feeds.{Tells}
use Rattle.qw_feed.specs.Rows.{begin_block, finish_block}
use Rattle.qw_feed.proofs.Frames.{Never}
use Rattle.qw_limit.specs.Counting.{EndsOrTakes}
use Rattle.qw_physical.specs.Physical.{filter, select}
use Rattle.qw_operator.specs.Carries.{directory}
use Rattle.qw_operator.proofs.Promised.{AreOwn}
use Rattle.qw_operator.proofs.Stood.{Stood}
use Rattle.qw_group_pipeline.specs.Groups.{InSink, IsOneRow}
use Rattle.qw_group_pipeline.specs.declared.columns.ValueColumn.{ValueColumn}
use Rattle.qw_emit.proofs.Answered.{IsSomeCode}
use Rattle.qw_emit.proofs.ModuleCompiled.{Settled}
use Rattle.qw_compile.proofs.PipelineRuns.{AreStood, fed_over}
use Rattle.qw_compile.proofs.QueryRuns.{Joined, Joins, Setting, around, base, both_end, c, first, grounds, literals, many, n, own_first, types}
use Rattle.qw_compile_whole.proofs.FrontEnds.{Collecting, Collects, IsGroupAnswered, answer_ends, stood_low}
use Rattle.qw_compile_whole.proofs.GroupBounded.{rows_met, walked_of}
use Rattle.qw_compile_whole.proofs.LongFronts.{Nowhere, joins_or_takes, takes_then}
use Rattle.qw_compile_whole.proofs.MadeOne.{one_then}
use Rattle.qw_compile_whole.proofs.SingleBounded.{GoAlone, OneReach, areas_paid}
use Rattle.qw_compile_whole.proofs.TakenFronts.{TakenBy}

-- where rows are `Fewer`, the scan's areas take them all
module _ (S : Setting) (Told : ℕ → Type 0) (j : Joins S Told) (Is : Collecting) (g : Collects S Told j Is) (query : Grouped) (values : List ValueColumn) (alone : GoAlone query g.group values (literals S)) (kinds_are : map kind_of query.items ≡ map (λ (k : Kind). Some k) S.layout.cells)
    (one : Statement) (one_own : List ValType) (made : IsOneRow (InSink (filter query.having ∷ []) (select query.items)) (literals S) (directory g.group.table) (own_first S + length j.builds_own + length g.own) values one one_own)
    (one_room : own_first S + length j.builds_own + length g.own + length one_own ≤ many S) (one_types : AreOwn (types S) (own_first S + length j.builds_own + length g.own) one_own) (Fewer : List Stood → Type 0)
    (few : (stoods : List Stood) → AreStood S.tables [] j.building stoods → Fewer stoods → 1 ≤ length g.group.functions → length (rows_met S.tables stoods g.gathering) < 10 ^ 18)
    (reached : (stoods : List Stood) → AreStood S.tables [] j.building stoods → (fed_over S.tables stoods g.gathering).codes ≡ [] → Fewer stoods → OneReach query values S.u S.most S.N (rows_met S.tables stoods g.gathering) (areas_paid g.group (j.budget (length j.building))))
    (told_made : (stoods : List Stood) → AreStood S.tables [] j.building stoods → (fed_over S.tables stoods g.gathering).codes ≡ [] → Fewer stoods → (raised : ℕ) → Tells (walked_of query (rows_met S.tables stoods g.gathering)).codes raised → Told raised) where
  open S use {T, columns, tables, most, N, u}

  abbrev Answered : LowState → Type 0
  Answered = IsGroupAnswered S.layout tables j.building g.gathering query

  abbrev tail : Statement
  tail = seq begin_block (seq one finish_block)

  -- the row of the one group, and the end
  tail_ends : (t : LowState) (h : Joined S Told j t) → Fewer h.stoods → (w : LowState) → TakenBy S Told j t h g.group g.fields g.gathering w → Ends (size tail * N) Answered Never Told (meaning most N tail w)
  tail_ends t h fewer w after =
      let budget : ℕ = j.budget (length j.building) in
      let r = reached h.stoods h.are after.1 fewer in
      let low = stood_low S Told j Is g t h in
      Ends-more Answered Never Told (6 + (size one * N + 12)) (size tail * N) (meaning most N tail w) (omega (arith, add-mul 18 (size one) N, at_least 18 N S.some))
      (one_then T (n S) columns (literals S) tables (c S) (base S) u most N N (many S) (types S) h.s0 (grounds S h.s0 h.begun) query g.group values alone g.fields g.field_kinds g.room_T budget (rows_met tables h.stoods g.gathering) (few h.stoods h.are fewer) h.stoods w after.0
      (omega (arith, low)) r one (own_first S + length j.builds_own + length g.own) one_own made (omega arith) one_room one_types Told (told_made h.stoods h.are after.1 fewer) 12 Answered finish_block
      (λ w' done. answer_ends S Told j t h g.gathering after.1 query kinds_are r.fits (areas_paid g.group budget) w' done))

  pub single_ends : (top : ℕ) (scan : Statement) →
      ((t : LowState) (h : Joined S Told j t) → (Fewer h.stoods × Ends (size scan * N) (TakenBy S Told j t h g.group g.fields g.gathering) Never Told (meaning most N scan t)) ⊎ EndsOrTakes top (size scan * N) Nowhere Nowhere Never Told IsSomeCode (meaning most N scan t)) →
      EndsOrTakes top (size (around S Told j (seq scan tail)) * N) Answered (Settled S.layout tables) Never Told IsSomeCode (meaning most N (around S Told j (seq scan tail)) (first S))
  single_ends top scan scans =
      joins_or_takes S Told j top Answered (Settled S.layout tables) IsSomeCode (seq scan tail) (λ t h. ⊎_elim
      (λ ended. inl (both_end most N N Answered (TakenBy S Told j t h g.group g.fields g.gathering) Told scan tail t ended.1 (λ w after. tail_ends t h ended.0 w after)))
      (λ long. takes_then most N top N Answered (Settled S.layout tables) Told IsSomeCode scan tail t long) (scans t h))
