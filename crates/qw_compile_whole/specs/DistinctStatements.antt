-- The statement of the module of a grouped query with DISTINCT: the rows that HAVING and the select list make go into a second table of groups, of all their
-- values, and the walk over that one makes the result (ISO/IEC 9075:1992, 7.9).
use Rattle.std.specs.Prelude.{ℕ, ◌+◌, Option, List}
use Rattle.qw_low.specs.Syntax.{Statement, seq}
use Rattle.qw_feed.specs.Room.{space_block}
use Rattle.qw_feed.specs.Rows.{begin_block, finish_block}
use Rattle.qw_table.specs.Tables.{directory_block}
use Rattle.qw_operator.specs.Carries.{directory}
use Rattle.qw_compile.specs.Statements.{Course, builds_block}
use Rattle.qw_compile_whole.specs.GuardedStatements.{gather_block}

-- Table number `table` is that of the groups, and the next one that of the distinct rows. Rows that go into the first one are counted where there is a local
-- for it; those of the second one need no count, since no set function is evaluated there.
abbrev pub distinct_block_of : Option ℕ → (tables descriptor_size : ℕ) → (leads sets : Statement) → (builds : List Course) → (table : ℕ) → (gathers : Course) → (enters walk : Statement) → Statement
distinct_block_of guard t size leads sets builds table gathers enters walk =
    seq (space_block size) (seq leads (seq sets (seq (builds_block t 0 builds) (seq (gather_block guard t table gathers)
    (seq (directory_block (directory (table + 1))) (seq enters (seq begin_block (seq walk finish_block))))))))
