-- The literals of a query, each with its locals: texts, numbers and dates (ISO/IEC 9075:1992, 5.3).
use Rattle.std.specs.Prelude.{ℕ, ◌+◌, List, [], ◌∷◌, length, None}
use Rattle.qw_read.specs.declared.constant.Constant.{Constant}
use Rattle.qw_read.specs.declared.constant.Word.{Word}
use Rattle.qw_read.specs.declared.literal.Literal.{Literal}

-- Those of texts whose octets lie one behind another from an offset on, each with two locals, from one on.
abbrev pub literals_from : (local offset : ℕ) → (texts : List (List ℕ)) → List Literal
literals_from x at [] = []
literals_from x at (t ∷ texts) =
    record { at = at; count = length t; cell = record { value = x; length = x + 1; null = None } } ∷ literals_from (x + 2) (at + length t) texts

-- Numbers and dates, each with a local, from one on.
abbrev pub constants_from : (local : ℕ) → List Word → List Constant
constants_from x [] = []
constants_from x (w ∷ words) = record { word = w; local = x } ∷ constants_from (x + 1) words
