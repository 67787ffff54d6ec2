-- What stands between the quotes of a delimited identifier (ISO/IEC 9075:1992, 5.2) and of a character string (5.3), in which two quotes are one.
use Rattle.std.specs.Prelude.{ℕ, ◌-◌, ◌==◌, if◌then◌else◌, List, [], ◌∷◌, length, take, drop}
use Rattle.qw_types.specs.Octets.{single_quote}

-- with each two octets of which the first is the quote as that quote
abbrev pub undoubled : (quote : ℕ) → List ℕ → List ℕ
undoubled quote [] = []
undoubled quote (b ∷ []) = b ∷ []
undoubled quote (b ∷ c ∷ bs) = if b == quote then b ∷ undoubled quote bs else b ∷ undoubled quote (c ∷ bs)

-- what stands between the first octet and the last one, two quotes there being one
abbrev pub unquoted : (quote : ℕ) → List ℕ → List ℕ
unquoted quote octets = undoubled quote (take (length octets - 2) (drop 1 octets))

-- the value of a character string (5.3)
abbrev pub string_value : List ℕ → List ℕ
string_value octets = unquoted single_quote octets
