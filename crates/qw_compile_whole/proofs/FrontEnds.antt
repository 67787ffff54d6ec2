-- The run of a grouped query's statement behind the tables of joins: what goes into groups, or into the areas of set functions, and the end, where the rows of a
-- walk are those of the result.
use Rattle.std.proofs.Common.{◌≡◌, ℕ, ◌+◌, ◌*◌, ◌<◌, ◌≤◌, Some, List, [], ◌++◌, length, length-append, map, slice_get, refl, sym, ◌∙◌, subst, arith}
use Rattle.std.specs.List.{AllByRecursion}
use Rattle.std.specs.List.Sorted.{IsPermutation}
use Rattle.qw_types.specs.declared.kind.Kind.{Kind}
use Rattle.qw_types.specs.declared.value.Val.{Val}
use Rattle.qw_linear.specs.Memory.{page}
use Rattle.qw_module.specs.declared.instruction.ValType.{ValType}
use Rattle.qw_module.specs.declared.instruction.ValType.TheVariants.{I32}
use Rattle.qw_scalar.specs.Typing.{kind_of}
use Rattle.qw_grouped.specs.Grouped.{Grouped}
use Rattle.qw_map.specs.Layout.{Layout}
use Rattle.qw_low.specs.State.{LowState}
use Rattle.qw_low.specs.Meaning.{meaning}
use Rattle.qw_low.specs.Promise.{Ends}
use Rattle.qw_low.proofs.Promises.{Ends-weaker}
use Rattle.qw_feed.specs.Cells.{kinds_of}
use Rattle.qw_feed.specs.Rows.{finish_block, in_order}
use Rattle.qw_feed.proofs.Frames.{Never}
use Rattle.qw_expr.specs.Computes.{Known}
use Rattle.qw_read.specs.declared.reader.Reader.{Reader}
use Rattle.qw_table.specs.Joins.{sources_of}
use Rattle.qw_table.specs.declared.key.Field.{Field}
use Rattle.qw_physical.specs.Physical.{Pipeline, select}
use Rattle.qw_operator.specs.Carries.{directory}
use Rattle.qw_operator.proofs.CarriedTyped.{IsReaderDeclared}
use Rattle.qw_operator.proofs.Promised.{AreOwn}
use Rattle.qw_operator.proofs.Stood.{Stood}
use Rattle.qw_emit.proofs.ModuleCompiled.{Settled}
use Rattle.qw_operator.specs.Grouping.{Group}
use Rattle.qw_compile.specs.QueryLocals.{query_readers}
use Rattle.qw_compile.specs.Statements.{Course}
use Rattle.qw_compile.proofs.LocalsDeclared.{first_own_types, rest_own_types}
use Rattle.qw_compile.proofs.LocalsPlaced.{all_over}
use Rattle.qw_compile.proofs.PipelineRuns.{AreStood, fed_over, readers_of}
use Rattle.qw_compile.proofs.QueryRuns.{IsBegun, Joined, Joins, Setting, at, base, c, grounds, literals, many, n, own_first, settled_ends, types}
use Rattle.qw_compile.proofs.QueryTyped.{directory_is, own_types, query_locals_long, readers_typed}
use Rattle.qw_compile_whole.proofs.GroupBounded.{rows_met, walked_of}
use Rattle.qw_compile_whole.proofs.Walked.{IsWalked}

-- the rows that a walk left are settled, in some order
pub record HasSettled (layout : Layout) (tables : List (List (List Val))) (query : Grouped) (rows : List (List Val)) (t : LowState) : Type 0 where
  pub none : (walked_of query rows).codes ≡ []
  pub settled : Settled layout tables t
  pub same : IsPermutation (in_order settled.found) (walked_of query rows).rows

-- The rows of the result are what comes of the groups of the rows that the last pipeline of the front feeds over the tables that the others built.
pub record IsGroupAnswered (layout : Layout) (tables : List (List (List Val))) (building : List Pipeline) (gathering : Pipeline) (query : Grouped) (t : LowState) : Type 0 where
  pub stoods : List Stood
  pub are : AreStood tables [] building stoods
  pub none : (fed_over tables stoods gathering).codes ≡ []
  pub none_behind : (walked_of query (rows_met tables stoods gathering)).codes ≡ []
  pub settled : Settled layout tables t
  pub rows : IsPermutation (in_order settled.found) (walked_of query (rows_met tables stoods gathering)).rows

-- what the blocks of a scan whose rows are collected are, with its own locals from a number on
abbrev pub Collecting : Type 1
Collecting = List Known → List Reader → ℕ → Pipeline → Group → List Field → Course → List ValType → Type 0

-- such a scan behind the tables of joins
pub record Collects (S : Setting) (Told : ℕ → Type 0) (j : Joins S Told) (Is : Collecting) : Type 0 where
  pub gathering : Pipeline
  pub group : Group
  pub fields : List Field
  pub field_kinds : kinds_of (sources_of fields) ≡ map kind_of group.values
  pub is_select : gathering.sink ≡ select group.values
  pub table_is : group.table ≡ length j.building
  pub room_T : group.table < S.T
  pub gathers : Course
  pub own : List ValType
  pub is : Is (literals S) (query_readers S.T (n S) S.columns) (own_first S + length j.builds_own) gathering group fields gathers own
  pub room : own_first S + length j.builds_own + length own ≤ many S
  pub types_are : AreOwn (types S) (own_first S + length j.builds_own) own

-- three parts' own locals, one behind another
pub own_parts : (S : Setting) (a b d : List ValType) → S.own ≡ a ++ (b ++ d) →
    AreOwn (types S) (own_first S) a × AreOwn (types S) (own_first S + length a) b × AreOwn (types S) (own_first S + length a + length b) d × (own_first S + length a + length b + length d ≤ many S)
own_parts S a b d is =
    let long = query_locals_long S.T (length S.texts) (length S.words) S.columns S.own in
    let all : length S.own ≡ length (a ++ (b ++ d)) = subst (λ (o : List ValType). length S.own ≡ length o) is refl in
    let two = length-append a (b ++ d) in
    let three = length-append b d in
    let owned : AreOwn (types S) (own_first S) S.own = own_types S.T (at S) S.columns S.texts S.words S.own in
    let behind = rest_own_types (types S) (own_first S) S.own a (b ++ d) is owned in (
      first_own_types (types S) (own_first S) S.own a (b ++ d) is owned,
      first_own_types (types S) (own_first S + length a) (b ++ d) b d refl behind,
      rest_own_types (types S) (own_first S + length a) (b ++ d) b d refl behind,
      omega (arith, long, all, two, three),
    )

-- ---- where such a scan begins
module _ (S : Setting) (Told : ℕ → Type 0) (j : Joins S Told) (Is : Collecting) (g : Collects S Told j Is) where
  pub directory_declared : slice_get (types S) (directory g.group.table) ≡ Some I32
  directory_declared = directory_is S.T (at S) S.columns S.texts S.words S.own g.group.table g.room_T

  pub readers_declared : AllByRecursion (IsReaderDeclared (types S)) (readers_of S.T (n S) S.columns g.gathering.entry)
  readers_declared = all_over (IsReaderDeclared (types S)) g.gathering.entry (query_readers S.T (n S) S.columns) (readers_typed S.T (at S) S.columns S.texts S.words S.own)

  module _ (t : LowState) (h : Joined S Told j t) where
    pub number_is : g.group.table ≡ length h.stoods
    number_is = g.table_is ∙ sym h.stood_is

    pub stood_low : length h.stoods < S.T
    stood_low = let number = number_is in let below = g.room_T in omega (arith, number, below)

    pub local_low : (z : ℕ) → z ≤ 4 → z < length t.locals
    local_low z place = let ground = grounds S h.s0 h.begun in let long = ground.long in let own_known = ground.first_own in let same = h.between.keeps.many in omega (arith, place, long, own_known, same)

-- ---- the end
module _ (S : Setting) (Told : ℕ → Type 0) (j : Joins S Told) where
  open S use {layout, tables, T, most, N, u}

  pub settle_ends : (s0 : LowState) → IsBegun S s0 → (query : Grouped) → map kind_of query.items ≡ map (λ (k : Kind). Some k) layout.cells → 8 + 16 * length query.items + u ≤ page → (paid : ℕ) (rows : List (List Val)) (w : LowState) →
      IsWalked T (n S) (c S) (base S) u s0 query paid rows w → Ends 12 (HasSettled layout tables query rows) Never Told (meaning most N finish_block w)
  settle_ends s0 begun query kinds_are fits paid rows w r =
      Ends-weaker 12 12 (λ t. (settled : Settled layout tables t) × (in_order settled.found ≡ r.found)) (HasSettled layout tables query rows) Never Never Told Told (meaning most N finish_block w) (omega arith)
      (λ t left. record { none = r.none; settled = left.0; same = subst (λ (found : List (List Val)). IsPermutation found (walked_of query rows).rows) (sym left.1) r.same }) (λ t x. x) (λ code x. x)
      (settled_ends S Told j s0 begun query.items kinds_are fits paid r.rows_base r.found w r.keeps r.has)

  -- where the walk was over the rows that were fed
  pub answer_ends : (t : LowState) (h : Joined S Told j t) (gathering : Pipeline) → (fed_over tables h.stoods gathering).codes ≡ [] → (query : Grouped) → map kind_of query.items ≡ map (λ (k : Kind). Some k) layout.cells → 8 + 16 * length query.items + u ≤ page → (paid : ℕ) (w : LowState) →
      IsWalked T (n S) (c S) (base S) u h.s0 query paid (rows_met tables h.stoods gathering) w → Ends 12 (IsGroupAnswered layout tables j.building gathering query) Never Told (meaning most N finish_block w)
  answer_ends t h gathering none query kinds_are fits paid w done =
      Ends-weaker 12 12 (HasSettled layout tables query (rows_met tables h.stoods gathering)) (IsGroupAnswered layout tables j.building gathering query) Never Never Told Told (meaning most N finish_block w) (omega arith)
      (λ v left. record { stoods = h.stoods; are = h.are; none = none; none_behind = left.none; settled = left.settled; rows = left.same }) (λ v x. x) (λ code x. x)
      (settle_ends h.s0 h.begun query kinds_are fits paid (rows_met tables h.stoods gathering) w done)
