-- The reader, the literal, the cells and the state that the worked cases speak of.
use Rattle.std.specs.Prelude.{ℕ, ◌==◌, ◌&&◌, if◌then◌else◌, true, List, [], ◌∷◌, Some, None}
use Rattle.qw_types.specs.declared.value.Ty.{Ty}
use Rattle.qw_low.specs.State.{Column, Own, Number, Cells, LowState}
use Rattle.qw_read.specs.declared.literal.Literal.{Literal}
use Rattle.qw_read.specs.declared.reader.Reader.{Reader}

abbrev pub reader : Ty → Reader
reader type = record {
  index = 1;
  column = 0;
  ty = type;
  not_null = true;
  values = 8;
  octets = 9;
  nulls = 10;
  left = 5;
  end = 6;
  cell = record { value = 11; length = 11; null = None };
}

-- the parts of two columns: the values of the second one, the octets of its texts, and its null bits
abbrev pub sizes : List ℕ
sizes = 0 ∷ 0 ∷ 0 ∷ 40 ∷ 7 ∷ 2 ∷ []

-- what is known of one place, and of two and of three
abbrev cell : (part offset width number : ℕ) → (other : Cells) → Cells
cell part offset width number other (Own k) a b = None
cell part offset width number other (Column k) a b = if (k == part) && ((a == offset) && (b == width)) then Some (Number number) else other (Column k) a b

abbrev nothing : Cells
nothing p a b = None

abbrev pub dates : Cells
dates = cell 3 36 4 0 (cell 5 1 1 2 nothing)

abbrev pub prices : Cells
prices = cell 3 32 8 18446744073709551615 nothing

abbrev pub names : Cells
names = cell 3 32 4 6 (cell 3 36 4 7 (cell 4 6 1 65 nothing))

abbrev pub literal : (at count : ℕ) → Literal
literal offset octets = record { at = offset; count = octets; cell = record { value = 8; length = 9; null = None } }

-- a first page whose octets are 65
abbrev pub one_page : LowState
one_page = record {
  locals = [];
  cells = λ p a b. Some (Number 65);
  columns = [];
  own = 65536 ∷ [];
  held = 1;
  limit = 1;
  refused = None;
}
