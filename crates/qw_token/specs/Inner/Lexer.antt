-- Mirrors the functions of src/token/lexer.rt that pass a separator or a comment and that read a token.
use Rattle.std.specs.Prelude.{◌≡◌, ◌<◌, ℕ, Bool, ◌==◌, ◌||◌, ◌&&◌, List, [], ◌∷◌, Option, Some, None, if◌then◌else◌}
use Rattle.std.specs.Char.{is_ascii_alphabetic, is_ascii_digit}
use Rattle.qw_token.specs.declared.token.Kind.{Kind}
use Rattle.qw_token.specs.declared.token.Kind.TheVariants.{Word, DelimitedIdentifier, CharacterString, Number, Symbol}
use Rattle.qw_types.specs.Octets.{double_quote, minus, period, single_quote}
use Rattle.qw_token.specs.Token.{Begins, begins_with, is_comment_octet, is_double_symbol, is_separator, is_single_symbol}

-- an answer about an octet is what a test says of it
abbrev pub Tells : (ℕ → Bool → Type 0) → (ℕ → Bool) → Type 0
Tells answers test = (octet : ℕ) (answer : Bool) → octet < 256 → answers octet answer → answer ≡ test octet

-- what is left behind the longest front whose octets all pass the test
abbrev pub after_run : (ℕ → Bool) → List ℕ → List ℕ
after_run test [] = []
after_run test (b ∷ bs) = if test b then after_run test bs else b ∷ bs

-- what follows the separator or the comment at the front of the text
abbrev pub after_separator : List ℕ → Option (List ℕ)
after_separator [] = None
after_separator (b ∷ []) = if is_separator b then Some [] else None
after_separator (b ∷ c ∷ bs) =
    if (b == minus) && (c == minus) then Some (after_run is_comment_octet bs)
    else (if is_separator b then Some (c ∷ bs) else None)

-- the only kind of token that can begin the text
abbrev pub kind_at : List ℕ → Kind
kind_at [] = Symbol
kind_at (b ∷ bs) =
    if is_ascii_alphabetic b then Word
    else (if b == double_quote then DelimitedIdentifier
    else (if b == single_quote then CharacterString
    else (if is_ascii_digit b || ((b == period) && begins_with is_ascii_digit bs) then Number
    else Symbol)))

-- the first, and without one the other
abbrev pub or_closed : Option (List ℕ) → Option (List ℕ) → Option (List ℕ)
or_closed None closed = closed
or_closed (Some rest) closed = Some rest

-- what follows the first quote that isn't doubled, and without one the first quote of the last that are
abbrev pub after_quote : ℕ → List ℕ → Option (List ℕ)
after_quote quote [] = None
after_quote quote (b ∷ []) = if b == quote then Some [] else None
after_quote quote (b ∷ c ∷ bs) =
    if b == quote then (if c == quote then or_closed (after_quote quote bs) (Some (c ∷ bs)) else Some (c ∷ bs))
    else after_quote quote (c ∷ bs)

-- what follows the symbol at the front of a text that no number begins
abbrev pub after_symbol : List ℕ → Option (List ℕ)
after_symbol [] = None
after_symbol (b ∷ []) = if is_single_symbol b then Some [] else None
after_symbol (b ∷ c ∷ bs) =
    if is_double_symbol b c then Some bs
    else (if is_single_symbol b then Some (c ∷ bs) else None)

-- Whether a token of the kind begins the text, and what follows it.
abbrev pub IsAfter : Kind → List ℕ → Option (List ℕ) → Type 0
IsAfter kind text None = (octets rest : List ℕ) → Begins text (record { kind = kind; octets = octets }) rest → ⊥
IsAfter kind text (Some rest) = (octets : List ℕ) × Begins text (record { kind = kind; octets = octets }) rest
