-- What the worked laws speak of: tables, memories, layouts and worlds, written out.
use Rattle.std.specs.Prelude.{ℕ, true, false, pos, List, [], ◌∷◌, None, replicate}
use Rattle.qw_types.specs.Contents.{Contents}
use Rattle.qw_types.specs.declared.kind.Kind.TheVariants as kind
use Rattle.qw_types.specs.declared.value.Ty.TheVariants.{Integer, Decimal, Date, Varchar}
use Rattle.qw_types.specs.declared.value.Val.{Val}
use Rattle.qw_types.specs.declared.value.Val.TheVariants as val
use Rattle.qw_map.specs.Areas.{Area, World}
use Rattle.qw_map.specs.Layout.{Layout, first_world}
use Rattle.qw_map.specs.declared.layout.Placed.{Placed}

-- ITEM(ID INTEGER NOT NULL, PRICE DECIMAL(9, 2), SOLD DATE, LABEL VARCHAR(10)): 1, 10.00, 1998-08-15, pen; 2, null, null, ink;
-- 3, 0.50, 1999-01-02, null
abbrev pub items : Contents
items = record {
  columns = record { ty = Integer; not_null = true } ∷ record { ty = Decimal 9 2; not_null = false }
      ∷ record { ty = Date; not_null = false } ∷ record { ty = Varchar 10; not_null = false } ∷ [];
  rows = (val.Num (pos 1) ∷ val.Num (pos 1000) ∷ val.Date (pos 19980815) ∷ val.Text (112 ∷ 101 ∷ 110 ∷ []) ∷ [])
      ∷ (val.Num (pos 2) ∷ val.Null ∷ val.Null ∷ val.Text (105 ∷ 110 ∷ 107 ∷ []) ∷ [])
      ∷ (val.Num (pos 3) ∷ val.Num (pos 50) ∷ val.Date (pos 19990102) ∷ val.Null ∷ []) ∷ [];
}

-- SHOP(CITY VARCHAR(5) NOT NULL, SIZE INTEGER) without rows
abbrev pub no_shops : Contents
no_shops = record { columns = record { ty = Varchar 5; not_null = true } ∷ record { ty = Integer; not_null = false } ∷ []; rows = [] }

-- a table of one INTEGER column that may be null, with so many nulls
abbrev pub nulls_only : ℕ → Contents
nulls_only rows = record { columns = record { ty = Integer; not_null = false } ∷ []; rows = replicate rows (val.Null ∷ []) }

-- a column of three INTEGERs from octet 64 on
abbrev pub three : Placed
three = record { values = 64; octets = 80; size = 0; nulls = 80; rows = 3 }

-- a layout that uses it
abbrev pub one_column : Layout
one_column = record {
  columns = record { table = 0; column = 0; ty = Integer; not_null = true } ∷ [];
  literals = [];
  cells = kind.Number 0 ∷ [];
}

-- and the instance that is to run it, with its first page from octet 65,536 on and a limit of 128 pages
abbrev pub at_start : World
at_start = first_world one_column (three ∷ []) 65536 128

-- an instance with two pages of its own one behind the other, as two areas, and a mapped column of 12 octets
abbrev pub two_pages : World
two_pages = record {
  mapped = record { start = 64; size = 12 } ∷ [];
  own = record { start = 65536; size = 65536 } ∷ record { start = 131072; size = 65536 } ∷ [];
  held = 2;
  limit = 128;
  refused = None;
}

-- a layout of no column and one text, with result rows of a number, a date and a text
abbrev pub one_text : Layout
one_text = record { columns = []; literals = 112 ∷ 101 ∷ 110 ∷ []; cells = kind.Number 0 ∷ kind.Date ∷ kind.Text ∷ [] }

-- A memory with the octets of a column in front, its descriptor from octet 8 on, and two result rows from octets 80 and 136 on: null,
-- 1998-08-15, and the descriptor's text; and -7, null, and a text of three octets from an address on.
abbrev pub two_rows : (text : ℕ) → List ℕ
two_rows text =
    105 ∷ 110 ∷ 107 ∷ 0 ∷ 0 ∷ 0 ∷ 0 ∷ 0 ∷ 192 ∷ 0 ∷ 0 ∷ 0 ∷ 8 ∷ 0 ∷ 1 ∷ 0
    ∷ 80 ∷ 0 ∷ 0 ∷ 0 ∷ 136 ∷ 0 ∷ 0 ∷ 0 ∷ 2 ∷ 0 ∷ 0 ∷ 0 ∷ 0 ∷ 0 ∷ 0 ∷ 0
    ∷ 0 ∷ 0 ∷ 0 ∷ 0 ∷ 0 ∷ 0 ∷ 0 ∷ 0 ∷ 0 ∷ 0 ∷ 0 ∷ 0 ∷ 0 ∷ 0 ∷ 0 ∷ 0
    ∷ 0 ∷ 0 ∷ 0 ∷ 0 ∷ 0 ∷ 0 ∷ 0 ∷ 0 ∷ 0 ∷ 0 ∷ 0 ∷ 0 ∷ 0 ∷ 0 ∷ 0 ∷ 0
    ∷ 0 ∷ 0 ∷ 0 ∷ 0 ∷ 0 ∷ 0 ∷ 0 ∷ 0 ∷ 112 ∷ 101 ∷ 110 ∷ 0 ∷ 0 ∷ 0 ∷ 0 ∷ 0
    ∷ 136 ∷ 0 ∷ 0 ∷ 0 ∷ 0 ∷ 0 ∷ 0 ∷ 0 ∷ 0 ∷ 0 ∷ 0 ∷ 0 ∷ 0 ∷ 0 ∷ 0 ∷ 0
    ∷ 1 ∷ 0 ∷ 0 ∷ 0 ∷ 0 ∷ 0 ∷ 0 ∷ 0 ∷ 15 ∷ 226 ∷ 48 ∷ 1 ∷ 0 ∷ 0 ∷ 0 ∷ 0
    ∷ 0 ∷ 0 ∷ 0 ∷ 0 ∷ 0 ∷ 0 ∷ 0 ∷ 0 ∷ 72 ∷ 0 ∷ 0 ∷ 0 ∷ 3 ∷ 0 ∷ 0 ∷ 0
    ∷ 0 ∷ 0 ∷ 0 ∷ 0 ∷ 0 ∷ 0 ∷ 0 ∷ 0 ∷ 0 ∷ 0 ∷ 0 ∷ 0 ∷ 0 ∷ 0 ∷ 0 ∷ 0
    ∷ 249 ∷ 255 ∷ 255 ∷ 255 ∷ 255 ∷ 255 ∷ 255 ∷ 255 ∷ 0 ∷ 0 ∷ 0 ∷ 0 ∷ 0 ∷ 0 ∷ 0 ∷ 0
    ∷ 0 ∷ 0 ∷ 0 ∷ 0 ∷ 0 ∷ 0 ∷ 0 ∷ 0 ∷ 1 ∷ 0 ∷ 0 ∷ 0 ∷ 0 ∷ 0 ∷ 0 ∷ 0
    ∷ text ∷ 0 ∷ 0 ∷ 0 ∷ 3 ∷ 0 ∷ 0 ∷ 0 ∷ 0 ∷ 0 ∷ 0 ∷ 0 ∷ 0 ∷ 0 ∷ 0 ∷ 0 ∷ []

-- an instance that maps the column, and has some areas of its own
abbrev pub with_own : List Area → World
with_own own = record { mapped = record { start = 0; size = 3 } ∷ []; own = own; held = 1; limit = 1; refused = None }

-- A column of three texts, of three octets, null, and of none, from octet 0 on: four offsets, of which the last is given; the octets; and
-- the null bits, as an octet.
abbrev pub labels : Placed
labels = record { values = 0; octets = 16; size = 3; nulls = 24; rows = 3 }

abbrev pub label_octets : (last nulls : ℕ) → List ℕ
label_octets last nulls =
    0 ∷ 0 ∷ 0 ∷ 0 ∷ 3 ∷ 0 ∷ 0 ∷ 0 ∷ 3 ∷ 0 ∷ 0 ∷ 0 ∷ last ∷ 0 ∷ 0 ∷ 0
    ∷ 112 ∷ 101 ∷ 110 ∷ 0 ∷ 0 ∷ 0 ∷ 0 ∷ 0 ∷ nulls ∷ []

abbrev pub label_values : List Val
label_values = val.Text (112 ∷ 101 ∷ 110 ∷ []) ∷ val.Null ∷ val.Text [] ∷ []

-- a column of two INTEGERs, 5 and null, with a number in the null's place
abbrev pub numbers : Placed
numbers = record { values = 0; octets = 8; size = 0; nulls = 8; rows = 2 }

abbrev pub number_octets : (blank : ℕ) → List ℕ
number_octets blank = 5 ∷ 0 ∷ 0 ∷ 0 ∷ blank ∷ 0 ∷ 0 ∷ 0 ∷ 2 ∷ []
