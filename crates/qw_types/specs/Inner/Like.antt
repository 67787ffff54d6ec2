-- What `like::take` tells of a pattern and a text.
use Rattle.std.specs.Prelude.{◌≡◌, ℕ, ◌<◌, ◌≤◌, Bool, true, false, List, length}
use Rattle.std.specs.List.{list_any}
use Rattle.qw_types.specs.declared.like.Taken.{Taken}
use Rattle.qw_types.specs.declared.like.Taken.TheVariants.{Run, Whole, Differs, Short}
use Rattle.qw_types.specs.Like.{ends, fits_pattern}

-- whether some end of a text matches a pattern
abbrev pub some_end : (pattern text : List ℕ) → Bool
some_end pattern text = list_any (fits_pattern pattern) (ends text)

-- where a `%` is met, some end of what is left decides, and no other end of the text has to be tried
abbrev pub Tells : Taken → (pattern text : List ℕ) → Type 0
Tells (Run rest left) pattern text =
    (fits_pattern pattern text ≡ some_end rest.now left.now) × (some_end pattern text ≡ some_end rest.now left.now) × (length rest.now < length pattern) × (length left.now ≤ length text)
Tells Whole pattern text = fits_pattern pattern text ≡ true
Tells Differs pattern text = fits_pattern pattern text ≡ false
Tells Short pattern text = some_end pattern text ≡ false
