-- The states, the world and the layout that the worked cases of Low run in.
use Rattle.std.specs.Prelude.{ℕ, true, false, [], ◌∷◌, None}
use Rattle.qw_types.specs.declared.value.Ty.TheVariants as ty
use Rattle.qw_module.specs.declared.instruction.Const.TheVariants as const
use Rattle.qw_map.specs.Areas.{World}
use Rattle.qw_map.specs.Layout.{Layout}
use Rattle.qw_low.specs.Syntax.{Expression, constant_of}
use Rattle.qw_low.specs.State.{Column, Own, Number, Address, LowState}

-- a number of 32 bits
abbrev pub i32 : ℕ → Expression
i32 n = constant_of (const.I32 n)

-- One column of three values of four octets and one page, of 128 that may be held: nothing is known of its octets. The locals are the
-- page's address, the column's, and 2.
abbrev pub state : LowState
state = record {
  locals = Address (Own 0) 0 ∷ Address (Column 0) 0 ∷ Number 2 ∷ [];
  cells = λ p offset width. None;
  columns = 12 ∷ [];
  own = 65536 ∷ [];
  held = 1;
  limit = 128;
  refused = None;
}

-- the same, with the limit reached but for one page
abbrev pub nearly_full : LowState
nearly_full = record state { held = 127 }

-- a world whose column begins at 64 and whose page at 65,536
abbrev pub world : World
world = record {
  mapped = (record { start = 64; size = 12 }) ∷ [];
  own = (record { start = 65536; size = 65536 }) ∷ [];
  held = 1;
  limit = 128;
  refused = None;
}

-- a layout of an INTEGER NOT NULL and of a VARCHAR(5) that may be null
abbrev pub two_columns : Layout
two_columns = record {
  columns = record { table = 0; column = 0; ty = ty.Integer; not_null = true } ∷ record { table = 0; column = 1; ty = ty.Varchar 5; not_null = false } ∷ [];
  literals = [];
  cells = [];
}
