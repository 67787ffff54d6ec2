-- The statement of the module of a query with set functions and no GROUP BY: all rows are one group, also where there is no row (ISO/IEC 9075:1992, 7.8, 7.9).
use Rattle.std.specs.Prelude.{ℕ, ◌*◌, List}
use Rattle.qw_module.specs.declared.instruction.ValType.{ValType}
use Rattle.qw_low.specs.Syntax.{Statement, seq}
use Rattle.qw_feed.specs.Room.{space_block}
use Rattle.qw_feed.specs.Rows.{begin_block, finish_block}
use Rattle.qw_expr.specs.Computes.{Known}
use Rattle.qw_read.specs.declared.reader.Reader.{Reader}
use Rattle.qw_table.specs.declared.key.Field.{Field}
use Rattle.qw_group.specs.Single.{single_block}
use Rattle.qw_physical.specs.Physical.{Pipeline}
use Rattle.qw_operator.specs.Carries.{directory}
use Rattle.qw_operator.specs.Grouping.{Group}
use Rattle.qw_operator.specs.OneGroup.{IsOneGroup}
use Rattle.qw_compile.specs.Statements.{Course, builds_block, course_block}
use Rattle.qw_compile_whole.specs.GroupedStatements.{IsGatheringTo}

-- The blocks of a pipeline whose rows the areas of set functions take, with its own locals from `next` on. Where the arguments at a row are is said by
-- `fields`.
abbrev pub IsTaking : (literals : List Known) → (readers : List Reader) → (next : ℕ) → Pipeline → Group → (fields : List Field) → Course → (own : List ValType) → Type 0
IsTaking literals readers next p g fields c own = IsGatheringTo (λ known at a more. IsOneGroup fields known at g a more) literals readers next p c own

-- the areas of so many set functions are placed, and take the rows of a scan
abbrev pub take_block : (tables table functions : ℕ) → Course → Statement
take_block t n functions c = seq (single_block (32 * functions) (directory n)) (course_block t c)

-- the whole; `one` makes the row of the one group, and the local of table number `table` leads to the areas
abbrev pub one_group_block : (tables descriptor_size : ℕ) → (leads sets : Statement) → (builds : List Course) → (table functions : ℕ) → (takes : Course) → (one : Statement) → Statement
one_group_block t size leads sets builds table functions takes one =
    seq (space_block size) (seq leads (seq sets (seq (builds_block t 0 builds) (seq (take_block t table functions takes) (seq begin_block (seq one finish_block))))))
