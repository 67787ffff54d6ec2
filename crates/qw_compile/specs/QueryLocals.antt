-- The locals of a query's module: the argument, those of free space and of the result, the directories of its tables, the counters of a scan,
-- the literals, the addresses of the columns' parts, and the columns' values; behind them each pipeline has its own.
use Rattle.std.specs.Prelude.{ℕ, zero, suc, ◌+◌, ◌*◌, nat_eq, Option, Some, None, List, [], ◌∷◌, length, Bool, true, false}
use Rattle.std.specs.List.{filter}
use Rattle.qw_module.specs.declared.instruction.ValType.{ValType}
use Rattle.qw_module.specs.declared.instruction.ValType.TheVariants.{I32, I64}
use Rattle.qw_algebra.specs.Columns.{owner}
use Rattle.qw_physical.specs.declared.pipeline.ReadColumn.{ReadColumn}
use Rattle.qw_read.specs.declared.reader.Reader.{Reader}
use Rattle.qw_types.specs.declared.value.Ty.{Ty}
use Rattle.qw_types.specs.declared.value.Ty.TheVariants as ty

-- ---- which they are
-- of a module over so many tables: four times the number of rows that a scan has left, and that of all its rows
abbrev pub rows_left : (tables : ℕ) → ℕ
rows_left tables = 5 + tables

abbrev pub rows_end : (tables : ℕ) → ℕ
rows_end tables = 6 + tables

-- the first one of text literals; of numbers and dates, behind so many texts; of the addresses of parts, behind so many locals of literals; of
-- the values of so many columns; and the first one behind them
abbrev pub text_start : (tables : ℕ) → ℕ
text_start tables = 8 + tables

abbrev pub word_start : (tables texts : ℕ) → ℕ
word_start tables texts = 8 + tables + 2 * texts

abbrev pub base_start : (tables literals : ℕ) → ℕ
base_start tables literals = 8 + tables + literals

abbrev pub cell_start : (tables literals columns : ℕ) → ℕ
cell_start tables literals columns = 8 + tables + literals + 3 * columns

abbrev pub own_start : (tables literals columns : ℕ) → ℕ
own_start tables literals columns = 8 + tables + literals + 6 * columns

-- a null word where the column may be null
abbrev pub null_word : (not_null : Bool) → (local : ℕ) → Option ℕ
null_word true x = None
null_word false x = Some x

-- ---- the columns
-- each has three locals for its parts, and three for its value; a column of the layout has the index of its place there
abbrev pub read_by : (tables bases cells index : ℕ) → ReadColumn → Reader
read_by t b c k column = record {
  index = k;
  column = column.number;
  ty = column.ty;
  not_null = column.not_null;
  values = b;
  octets = b + 1;
  nulls = b + 2;
  left = rows_left t;
  end = rows_end t;
  cell = record { value = c; length = c + 1; null = null_word column.not_null (c + 2) };
}

abbrev pub read_from : (tables bases cells index : ℕ) → List ReadColumn → List Reader
read_from t b c k [] = []
read_from t b c k (column ∷ columns) = read_by t b c k column ∷ read_from t (b + 3) (c + 3) (k + 1) columns

abbrev pub query_readers : (tables literals : ℕ) → List ReadColumn → List Reader
query_readers t n columns = read_from t (base_start t n) (cell_start t n (length columns)) 0 columns

-- the readers of an entry of FROM
abbrev pub readers_over : (entry : ℕ) → List Reader → List Reader
readers_over entry readers = filter (λ (r : Reader). nat_eq entry (owner r.column)) readers

-- ---- how they are declared
-- how the locals of a value are declared
abbrev pub value_type : Ty → ValType
value_type ty.Integer = I64
value_type (ty.Decimal precision scale) = I64
value_type ty.Date = I64
value_type (ty.Varchar limit) = I32

abbrev pub text_types : (texts : ℕ) → (behind : List ValType) → List ValType
text_types zero behind = behind
text_types (suc n) behind = I32 ∷ I32 ∷ text_types n behind

abbrev pub word_types : (words : ℕ) → (behind : List ValType) → List ValType
word_types zero behind = behind
word_types (suc n) behind = I64 ∷ word_types n behind

abbrev pub table_types : (tables : ℕ) → (behind : List ValType) → List ValType
table_types zero behind = behind
table_types (suc n) behind = I32 ∷ table_types n behind

abbrev pub part_types : List ReadColumn → (behind : List ValType) → List ValType
part_types [] behind = behind
part_types (column ∷ columns) behind = I32 ∷ I32 ∷ I32 ∷ part_types columns behind

abbrev pub held_types : List ReadColumn → (behind : List ValType) → List ValType
held_types [] behind = behind
held_types (column ∷ columns) behind = value_type column.ty ∷ I32 ∷ I32 ∷ held_types columns behind

-- the types of a module's locals behind its argument, over so many tables, texts, and numbers and dates
abbrev pub query_locals : (tables texts words : ℕ) → List ReadColumn → (own : List ValType) → List ValType
query_locals t n m columns own =
    I32 ∷ I32 ∷ I32 ∷ I64 ∷ table_types t (I32 ∷ I32 ∷ I32 ∷ text_types n (word_types m (part_types columns (held_types columns own))))
