-- The limits on counts, which the standard leaves to the implementation (ISO/IEC 9075:1992, 11.3, 11.4).
use Rattle.std.specs.Prelude.{ℕ}

-- tables of a schema
abbrev pub most_tables : ℕ
most_tables = 32

-- columns of a table
abbrev pub most_columns : ℕ
most_columns = 64

-- rows of a table
abbrev pub most_rows : ℕ
most_rows = 1000000

-- cells of a result row: 64 columns of each of 8 entries of FROM
abbrev pub most_cells : ℕ
most_cells = 512
