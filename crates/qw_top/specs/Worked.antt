-- The table, the queries over one table and over two, and the watched file that the worked cases speak of.
use Rattle.std.specs.Prelude.{ℕ, ℤ, pos, List, [], ◌∷◌, Option, Some, codes, map, true, false}
use Rattle.qw_io.specs.Files.{Watched}
use Rattle.qw_types.specs.Contents.{Contents}
use Rattle.qw_types.specs.declared.kind.Kind.TheVariants as kind
use Rattle.qw_types.specs.declared.schema.Table.{Table}
use Rattle.qw_types.specs.declared.value.Ty.TheVariants.{Integer, Date}
use Rattle.qw_types.specs.declared.value.Val.TheVariants.{Num}
use Rattle.qw_scalar.specs.declared.expression.Operator.TheVariants as operator
use Rattle.qw_scalar.specs.Expression.{arithmetic, column, number}
use Rattle.qw_meaning.specs.Select.{Specification, alone}
use Rattle.qw_grouped.specs.Whole.{Whole, plain}
use Rattle.qw_promise.specs.WorkedQueries.{integers}
use Rattle.qw_compile.specs.WorkedJoins.{equal_numbers}
use Rattle.qw_top.specs.Top.{Asked}

-- CREATE TABLE T (A INTEGER NOT NULL, B DATE)
abbrev pub worked_table : Table
worked_table = record {
  name = codes "T";
  columns = record { name = codes "A"; ty = Integer; not_null = true } ∷ record { name = codes "B"; ty = Date; not_null = false } ∷ [];
}

-- a query that isn't grouped, without DISTINCT
abbrev pub plain_whole : Specification → Whole
plain_whole specification = record { body = plain specification; distinct = false }

-- SELECT T.A FROM T, U WHERE T.A = U.A, over two tables of one column A INTEGER NOT NULL
abbrev pub joined : Asked
joined = record { whole = plain_whole equal_numbers; header = record { name = codes "A"; kind = kind.Number 0 } ∷ []; keys = [] }

-- SELECT 8 / (A - 1) AS Q FROM T, over the first of them
abbrev pub divided : Asked
divided = record {
  whole = plain_whole (record {
    sources = alone (integers 0) ∷ [];
    conjuncts = [];
    items = arithmetic operator.Divide (number (pos 8) 0) (arithmetic operator.Subtract (column 0 Integer) (number (pos 1) 0)) ∷ [];
  });
  header = record { name = codes "Q"; kind = kind.Number 0 } ∷ [];
  keys = [];
}

-- a table of that column, with these numbers
abbrev pub numbers : List ℤ → Contents
numbers values = record { columns = record { ty = Integer; not_null = true } ∷ []; rows = map (λ value. Num value ∷ []) values }

-- T and U
abbrev pub joined_tables : List Contents
joined_tables = numbers (pos 4 ∷ pos 1 ∷ pos 7 ∷ []) ∷ numbers (pos 4 ∷ []) ∷ []

-- the file `f`, which was asked for up to an offset
abbrev pub watched_file : ℕ → Option Watched
watched_file offset = Some (record { name = codes "f"; asked_to = offset })
