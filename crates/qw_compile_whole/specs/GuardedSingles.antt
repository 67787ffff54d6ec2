-- Rows that set functions take without GROUP BY are counted where there may be very many of them, as those that go into groups are.
use Rattle.std.specs.Prelude.{ℕ, Option, Some, None, List}
use Rattle.qw_module.specs.declared.instruction.ValType.{ValType}
use Rattle.qw_low.specs.Syntax.{Statement, seq}
use Rattle.qw_feed.specs.Room.{space_block}
use Rattle.qw_feed.specs.Rows.{begin_block, finish_block}
use Rattle.qw_expr.specs.Computes.{Known}
use Rattle.qw_read.specs.declared.reader.Reader.{Reader}
use Rattle.qw_table.specs.declared.key.Field.{Field}
use Rattle.qw_physical.specs.Physical.{Pipeline}
use Rattle.qw_operator.specs.Grouping.{Group}
use Rattle.qw_operator.specs.Puts.{IsOneGroupWithin}
use Rattle.qw_compile.specs.Statements.{Course, builds_block}
use Rattle.qw_compile_whole.specs.GroupedStatements.{IsGatheringTo}
use Rattle.qw_compile_whole.specs.GuardedStatements.{count_from, stop_at}
use Rattle.qw_compile_whole.specs.SingleStatements.{IsTaking, take_block}

-- the scan whose rows the areas take, counted where there is a local for it
abbrev pub take_block_by : Option ℕ → (tables table functions : ℕ) → Course → Statement
take_block_by None t n f c = take_block t n f c
take_block_by (Some z) t n f c = seq (count_from (Some z)) (seq (take_block t n f c) (stop_at (Some z)))

-- the blocks of the scan whose rows the areas take
abbrev pub IsTakingBy : Option ℕ → (literals : List Known) → (readers : List Reader) → (next : ℕ) → Pipeline → Group → (fields : List Field) → Course → (own : List ValType) → Type 0
IsTakingBy None literals readers next p g fields c own = IsTaking literals readers next p g fields c own
IsTakingBy (Some z) literals readers next p g fields c own = IsGatheringTo (λ known at a more. IsOneGroupWithin (Some z) fields known at g a more) literals readers next p c own

-- the whole, as `one_group_block`
abbrev pub one_group_block_by : Option ℕ → (tables descriptor_size : ℕ) → (leads sets : Statement) → (builds : List Course) → (table functions : ℕ) → (takes : Course) → (one : Statement) → Statement
one_group_block_by guard t size leads sets builds table functions takes one =
    seq (space_block size) (seq leads (seq sets (seq (builds_block t 0 builds) (seq (take_block_by guard t table functions takes) (seq begin_block (seq one finish_block))))))
