-- The columns and the files that worked cases speak of.
use Rattle.std.specs.Prelude.{List, [], ◌∷◌, ℕ, true, false, codes}
use Rattle.qw_types.specs.declared.schema.Column.{Column}
use Rattle.qw_types.specs.declared.schema.Table.{Table}
use Rattle.qw_types.specs.declared.value.Ty.{Ty}
use Rattle.qw_types.specs.declared.value.Ty.TheVariants.{Integer, Varchar}

-- a column of a type that may be null
abbrev pub may_be_null : Ty → Column
may_be_null type = record { name = codes "A"; ty = type; not_null = false }

-- and one that may not
abbrev pub never_null : Ty → Column
never_null type = record { name = codes "A"; ty = type; not_null = true }

-- a table of one INTEGER NOT NULL column A
abbrev pub one_column : Table
one_column = record { name = codes "T"; columns = never_null Integer ∷ [] }

-- `A` and `7`, each with a line feed
abbrev pub first_part : List ℕ
first_part = 65 ∷ 10 ∷ 55 ∷ 10 ∷ []

-- a byte order mark, and then `a` and `8`
abbrev pub marked_part : List ℕ
marked_part = 239 ∷ 187 ∷ 191 ∷ 97 ∷ 10 ∷ 56 ∷ 10 ∷ []

-- `A` and `8,9`
abbrev pub wide_part : List ℕ
wide_part = 65 ∷ 10 ∷ 56 ∷ 44 ∷ 57 ∷ 10 ∷ []

-- `8` alone
abbrev pub headless_part : List ℕ
headless_part = 56 ∷ 10 ∷ []

-- a table of two columns, A INTEGER NOT NULL and B VARCHAR(3)
abbrev pub two_columns : Table
two_columns = record { name = codes "T"; columns = never_null Integer ∷ record { name = codes "B"; ty = Varchar 3; not_null = false } ∷ [] }

-- `A,B`, an empty line, `1,"x` and `y"`
abbrev pub two_line_part : List ℕ
two_line_part = codes "A,B\n\n1,\"x\ny\"\n"

-- and `z,` behind them
abbrev pub faulty_part : List ℕ
faulty_part = codes "A,B\n\n1,\"x\ny\"\nz,\n"
