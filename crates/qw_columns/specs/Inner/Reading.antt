-- Mirrors what the functions of `reading` need of a row.
use Rattle.std.specs.Prelude.{ℕ, ◌+◌, ◌*◌, ◌≤◌, List, length, IsUtf8}
use Rattle.qw_types.specs.declared.value.Ty.{Ty}
use Rattle.qw_types.specs.declared.value.Ty.TheVariants as ty
use Rattle.qw_map.specs.Columns.{text_at, text_offset}
use Rattle.qw_map.specs.declared.layout.Placed.{Placed}

-- the text of a row lies in the memory and is UTF-8
pub record IsReadableText (memory : List ℕ) (placed : Placed) (row : ℕ) : Type 0 where
  pub offsets : placed.values + 4 * row + 8 ≤ length memory
  pub rising : text_offset memory placed row ≤ text_offset memory placed (row + 1)
  pub inside : placed.octets + text_offset memory placed (row + 1) ≤ length memory
  pub utf8 : IsUtf8 (text_at memory placed row)

-- what stands in the place of a row's value lies in the memory
abbrev pub IsReadable : List ℕ → Ty → Placed → ℕ → Type 0
IsReadable memory ty.Integer placed row = placed.values + 4 * row + 4 ≤ length memory
IsReadable memory (ty.Decimal precision scale) placed row = placed.values + 8 * row + 8 ≤ length memory
IsReadable memory ty.Date placed row = placed.values + 4 * row + 4 ≤ length memory
IsReadable memory (ty.Varchar limit) placed row = IsReadableText memory placed row
