-- The statement of a grouped query's module: behind the pipelines that build the tables of joins comes the one whose rows go into groups, and then the
-- walk over the groups, whose rows are the result (ISO/IEC 9075:1992, 7.7 to 7.9; Neumann, VLDB 2011).
use Rattle.std.specs.Prelude.{◌≡◌, ℕ, Some, List, slice_get}
use Rattle.qw_module.specs.declared.instruction.ValType.{ValType}
use Rattle.qw_low.specs.Syntax.{Statement, seq}
use Rattle.qw_feed.specs.Room.{space_block}
use Rattle.qw_feed.specs.Rows.{begin_block, finish_block}
use Rattle.qw_expr.specs.Computes.{Known}
use Rattle.qw_read.specs.Reading.{BeginsAll}
use Rattle.qw_read.specs.declared.reader.Reader.{Reader}
use Rattle.qw_table.specs.declared.key.Field.{Field}
use Rattle.qw_physical.specs.Physical.{Pipeline}
use Rattle.qw_operator.specs.Carries.{IsRow}
use Rattle.qw_operator.specs.Grouping.{Group, IsGrouped}
use Rattle.qw_compile.specs.QueryLocals.{readers_over}
use Rattle.qw_compile.specs.Statements.{Course, build_block, builds_block}

-- The blocks of a pipeline at whose rows `End` is done innermost, with its own locals from `next` on.
pub record IsGatheringTo (End : List Known → (next : ℕ) → Statement → List ValType → Type 0) (literals : List Known) (readers : List Reader) (next : ℕ) (p : Pipeline) (c : Course) (own : List ValType) : Type 0 where
  pub first : Reader
  pub first_is : slice_get (readers_over p.entry readers) 0 ≡ Some first
  pub index_is : c.index ≡ first.index
  pub begins : BeginsAll (readers_over p.entry readers) c.begins
  pub row : IsRow End literals (readers_over p.entry readers) next p.operators c.row own

-- Those of one whose rows go into groups. Where a row's values are when they go into their group is said by `fields`.
abbrev pub IsGathering : (literals : List Known) → (readers : List Reader) → (next : ℕ) → Pipeline → Group → (fields : List Field) → Course → (own : List ValType) → Type 0
IsGathering literals readers next p g fields c own = IsGatheringTo (λ known at a more. IsGrouped fields known at g a more) literals readers next p c own

-- the whole; table number `table` is that of the groups, behind those of the joins
abbrev pub grouped_block : (tables descriptor_size : ℕ) → (leads sets : Statement) → (builds : List Course) → (table : ℕ) → (gathers : Course) → (walk : Statement) → Statement
grouped_block t size leads sets builds table gathers walk =
    seq (space_block size) (seq leads (seq sets (seq (builds_block t 0 builds) (seq (build_block t table gathers) (seq begin_block (seq walk finish_block))))))
