-- The areas of set functions as what takes the rows of a pipeline, as one group (ISO/IEC 9075:1992, 7.8, 7.9): they are placed behind the tables of joins, and then
-- have taken the rows.
use Rattle.std.proofs.Common.{◌≡◌, ℕ, ◌+◌, ◌*◌, ◌<◌, ◌≤◌, List, [], ◌++◌, length, arith}
use Rattle.qw_types.specs.declared.value.Val.{Val}
use Rattle.qw_linear.specs.Memory.{page}
use Rattle.qw_low.specs.Syntax.{Statement}
use Rattle.qw_low.specs.State.{Cells, LowState}
use Rattle.qw_low.specs.Meaning.{meaning}
use Rattle.qw_low.specs.Promise.{Ends}
use Rattle.qw_low.proofs.Promises.{Ends-weaker}
use Rattle.qw_feed.specs.Feeds.{Sink}
use Rattle.qw_feed.specs.Frames.{pos, Before, But, From, Keeps}
use Rattle.qw_feed.specs.Room.{HasRoom, Paid}
use Rattle.qw_feed.proofs.Frames.{Never}
use Rattle.qw_feed.proofs.RoomRuns.{IsRefusal}
use Rattle.qw_table.specs.declared.key.Field.{Field}
use Rattle.qw_group.specs.declared.group.Aggregate.{Aggregate}
use Rattle.qw_group.specs.Single.{HasSingle, single_block}
use Rattle.qw_group.proofs.SingleRuns.{single_ends}
use Rattle.qw_operator.specs.Carries.{directory}
use Rattle.qw_operator.proofs.Seen.{StandsIn, longer_keeps}
use Rattle.qw_operator.proofs.Stood.{Stood, AllStand}
use Rattle.qw_operator.specs.Grouping.{Group, over_fields}
use Rattle.qw_operator.proofs.OneFeeds.{one_later, one_sink}
use Rattle.qw_compile.proofs.PipelineRuns.{Steady}
use Rattle.qw_compile_whole.proofs.SingleBounded.{areas_paid}
use Rattle.qw_compile_whole.proofs.RunsInto.{Placed}
use Rattle.qw_compile_whole.proofs.SeenBehind.{StandBetween}

-- ---- the areas stand behind the tables of joins
pub record AreTaken (T n : ℕ) (c : Cells) (base u : ℕ) (s0 : LowState) (stoods : List Stood) (group : Group) (fields : List Field) (budget : ℕ) (rows : List (List Val)) (s : LowState) : Type 0 where
  pub part : ℕ
  pub offset : ℕ
  pub behind : base ≤ pos part offset
  pub has : HasSingle (StandsIn c s) (over_fields group.functions fields) part offset (directory group.table) u (budget + 32 * length (over_fields group.functions fields)) rows s
  pub keeps : Keeps (Steady T n) (Before base) s0 s
  pub fronts : StandBetween base (pos part offset) stoods
  pub stand : AllStand c stoods s

-- ---- areas that have taken nothing are placed
abbrev pub into_areas : Cells → (group : Group) → (fields : List Field) → (u budget : ℕ) → (May : List (List Val) → Type 0) → ((rows more : List (List Val)) → May (rows ++ more) → May rows) → (part offset : ℕ) → Sink
into_areas c group fields u budget May first k o = one_sink c (over_fields group.functions fields) k o (directory group.table) u (budget + 32 * length (over_fields group.functions fields)) May first

pub areas_placed : (c : Cells) (u most fuel : ℕ) (group : Group) (fields : List Field) (May : List (List Val) → Type 0) (first : (rows more : List (List Val)) → May (rows ++ more) → May rows) (budget : ℕ) (s : LowState) (part offset : ℕ) → HasRoom part offset s → Paid u budget offset s.held →
    length (over_fields group.functions fields) ≡ length group.functions → directory group.table < length s.locals → 32 * length group.functions + u ≤ page → areas_paid group budget + 2 * u < (most + 1) * u →
    Ends 26 (Placed (directory group.table) (pos part offset) (into_areas c group fields u budget May first) [] s) Never IsRefusal (meaning most fuel (single_block (32 * length (over_fields group.functions fields)) (directory group.table)) s)
areas_placed c u most fuel group fields May first budget s part offset room paid many_is long fits enough =
    let d : ℕ = directory group.table in
    let aggregates : List Aggregate = over_fields group.functions fields in
    let front : ℕ = pos part offset in
    let held : ℕ = budget + 32 * length aggregates in
    let begins : Statement = single_block (32 * length aggregates) d in
    let Begun : LowState → Type 0 = λ t. (k : ℕ) × (o : ℕ) × (pos part offset ≤ pos k o) × Keeps (But d (From 3)) (Before (pos part offset)) s t × HasSingle (StandsIn c s) aggregates k o d u held [] t in
    Ends-weaker 26 26 Begun (Placed d front (into_areas c group fields u budget May first) [] s) Never Never IsRefusal IsRefusal (meaning most fuel begins s) (omega arith)
    (λ t begun. record {
      part = begun.0;
      offset = begun.1;
      behind = begun.2;
      keeps = begun.3;
      has = one_later c s t aggregates begun.0 begun.1 d u held [] (longer_keeps (But d (From 3)) (Before front) s t begun.3) begun.4;
    })
    (λ t x. x) (λ code x. x) (single_ends (StandsIn c s) aggregates d u budget most fuel (omega arith) (omega (arith, fits, many_is)) s long part offset room paid (omega (arith, enough)))
