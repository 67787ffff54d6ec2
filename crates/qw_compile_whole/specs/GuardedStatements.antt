-- Rows that go into groups are counted where there may be very many of them. Set functions count in 64 bits and sum in 128, which is right for fewer than 10^18
-- rows: no more go into groups, and where as many came the module stops behind the scan. By then it has executed as many instructions, and no run does.
use Rattle.std.specs.Prelude.{ℕ, ◌^◌, ◌&&◌, nat_le, if◌then◌else◌, Option, Some, None, List}
use Rattle.qw_module.specs.declared.instruction.Const.TheVariants as const
use Rattle.qw_module.specs.declared.instruction.ValType.{ValType}
use Rattle.qw_module.specs.declared.instruction.ValType.TheVariants.{I64}
use Rattle.qw_low.specs.Syntax.{Statement, constant_of, local, is_zero, skip, seq, assign, conditional, raise}
use Rattle.qw_feed.specs.Room.{space_block}
use Rattle.qw_feed.specs.Rows.{begin_block, finish_block}
use Rattle.qw_expr.specs.Computes.{Known}
use Rattle.qw_read.specs.declared.reader.Reader.{Reader}
use Rattle.qw_table.specs.declared.key.Field.{Field}
use Rattle.qw_physical.specs.Physical.{Pipeline}
use Rattle.qw_operator.specs.Grouping.{Group}
use Rattle.qw_operator.specs.Puts.{IsGroupedWithin}
use Rattle.qw_compile.specs.Statements.{Course, build_block, builds_block}
use Rattle.qw_compile_whole.specs.GroupedStatements.{IsGathering, IsGatheringTo}

-- A table has at most 10^6 rows, so that two entries of FROM have 10^12 pairs. Of three entries, where there are set functions, local 4 says how many rows may
-- still come. Behind the groups the number of result rows stands there.
abbrev pub guard_for : (tables functions : ℕ) → Option ℕ
guard_for t f = if nat_le 3 t && nat_le 1 f then Some 4 else None

-- the local that counts how many rows may still come begins with the greatest count
abbrev pub count_from : Option ℕ → Statement
count_from None = skip
count_from (Some z) = assign z (constant_of (const.I64 (10 ^ 18)))

-- the module stops where no more may; the exception that it raises is never seen
abbrev pub stop_at : Option ℕ → Statement
stop_at None = skip
stop_at (Some z) = conditional (is_zero I64 (local z)) (raise 1) skip

-- the scan of a pipeline whose rows go into groups, counted where there is a local for it
abbrev pub gather_block : Option ℕ → (tables table : ℕ) → Course → Statement
gather_block None t n c = build_block t n c
gather_block (Some z) t n c = seq (count_from (Some z)) (seq (build_block t n c) (stop_at (Some z)))

-- the blocks of the scan of a pipeline whose rows go into groups
abbrev pub IsGatheringBy : Option ℕ → (literals : List Known) → (readers : List Reader) → (next : ℕ) → Pipeline → Group → (fields : List Field) → Course → (own : List ValType) → Type 0
IsGatheringBy None literals readers next p g fields c own = IsGathering literals readers next p g fields c own
IsGatheringBy (Some z) literals readers next p g fields c own = IsGatheringTo (λ known at a more. IsGroupedWithin (Some z) fields known at g a more) literals readers next p c own

-- the whole, as `grouped_block`
abbrev pub guarded_block_of : Option ℕ → (tables descriptor_size : ℕ) → (leads sets : Statement) → (builds : List Course) → (table : ℕ) → (gathers : Course) → (walk : Statement) → Statement
guarded_block_of guard t size leads sets builds table gathers walk =
    seq (space_block size) (seq leads (seq sets (seq (builds_block t 0 builds) (seq (gather_block guard t table gathers) (seq begin_block (seq walk finish_block))))))
