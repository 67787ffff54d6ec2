-- The tokens of a text (ISO/IEC 9075:1992, 5.2 "token", "separator" and "comment", 5.3 "literal").
use Rattle.std.specs.Prelude.{◌≡◌, ◌≢◌, ℕ, ◌+◌, ◌<◌, ◌≤◌, ◌==◌, Bool, false, ◌||◌, ◌&&◌, not, IsTrue, List, [], ◌∷◌, ◌++◌, length, map, take, drop, if◌then◌else◌, All, count_by, codes}
use Rattle.std.specs.List.{AllByRecursion, list_any}
use Rattle.std.specs.Str.{IsUtf8, bytes_eq}
use Rattle.std.specs.Char.{is_ascii_alphabetic, is_ascii_digit}
use Rattle.qw_types.specs.Octets.{carriage_return, double_quote, equals_sign, greater_than, less_than, line_feed, minus, period, single_quote, space, tab, underscore}
use Rattle.qw_token.specs.declared.token.Kind.{Kind}
use Rattle.qw_token.specs.declared.token.Kind.TheVariants.{Word, DelimitedIdentifier, CharacterString, Number, Symbol}
use Rattle.qw_token.specs.declared.token.Token.{Token}

-- a token without where it lies in memory
pub record Lexeme : Type 0 where
  pub kind : Kind
  pub octets : List ℕ

-- the token's kind and its octets
abbrev pub lexeme : Token → Lexeme
lexeme t = record { kind = t.kind; octets = t.octets.now }

-- those of each token, in order
abbrev pub lexemes : List Token → List Lexeme
lexemes ts = map lexeme ts

-- ---- between tokens

-- space, tab, line feed or carriage return
abbrev pub is_separator : ℕ → Bool
is_separator b = ((b == space) || (b == tab)) || ((b == line_feed) || (b == carriage_return))

-- whether the text has a first octet, and it passes the test
abbrev pub begins_with : (ℕ → Bool) → List ℕ → Bool
begins_with test [] = false
begins_with test (b ∷ bs) = test b

-- an octet of a comment behind its two minus signs: any but a line feed
abbrev pub is_comment_octet : ℕ → Bool
is_comment_octet b = not (b == line_feed)

-- whether two minus signs begin the text
abbrev pub begins_comment : List ℕ → Bool
begins_comment [] = false
begins_comment (b ∷ bs) = (b == minus) && begins_with (λ c. c == minus) bs

-- Rest follows the gap at the front of the text: separators and comments, as far as they go. A comment ends before the
-- next line feed or at the end of the text.
pub data IsAfterGap : List ℕ → List ℕ → Type 0 where
  no_more : (rest : List ℕ) → begins_with is_separator rest ≡ false → begins_comment rest ≡ false → IsAfterGap rest rest
  separator : (b : ℕ) (text rest : List ℕ) → IsTrue (is_separator b) → IsAfterGap text rest → IsAfterGap (b ∷ text) rest
  comment : (octets text rest : List ℕ) → AllByRecursion (λ b. IsTrue (is_comment_octet b)) octets → begins_with is_comment_octet text ≡ false → IsAfterGap text rest → IsAfterGap (minus ∷ minus ∷ (octets ++ text)) rest

-- the text after a byte order mark, if one begins it
abbrev pub after_mark : List ℕ → List ℕ
after_mark text = if bytes_eq (take 3 text) (0xEF ∷ 0xBB ∷ 0xBF ∷ []) then drop 3 text else text

-- ---- the form of a token

-- an octet of a word behind its first: a letter, a digit or `_`
abbrev pub is_word_octet : ℕ → Bool
is_word_octet b = (is_ascii_alphabetic b || is_ascii_digit b) || (b == underscore)

-- a letter, and then letters, digits and `_`
abbrev pub IsWord : List ℕ → Type 0
IsWord [] = ⊥
IsWord (b ∷ bs) = IsTrue (is_ascii_alphabetic b) × AllByRecursion (λ c. IsTrue (is_word_octet c)) bs

-- with each quote in it twice
abbrev pub doubled : ℕ → List ℕ → List ℕ
doubled quote [] = []
doubled quote (b ∷ bs) = if b == quote then quote ∷ quote ∷ doubled quote bs else b ∷ doubled quote bs

-- between two quotes
abbrev pub quoted : ℕ → List ℕ → List ℕ
quoted quote value = quote ∷ (doubled quote value ++ quote ∷ [])

-- an octet of a number: a digit or a point
abbrev pub is_number_octet : ℕ → Bool
is_number_octet b = is_ascii_digit b || (b == period)

-- a letter, a digit, `_` or a point
abbrev pub is_word_octet_or_point : ℕ → Bool
is_word_octet_or_point b = is_word_octet b || (b == period)

-- digits with at most one point before, among or after them
pub record IsNumber (octets : List ℕ) : Type 0 where
  pub digits_and_point : All (λ b. IsTrue (is_number_octet b)) octets
  pub one_point : count_by (λ b. b == period) octets ≤ 1
  pub some_digit : 0 < count_by is_ascii_digit octets

-- one of `( ) , . ; * + - / = < >`
abbrev pub is_single_symbol : ℕ → Bool
is_single_symbol b = list_any (λ c. c == b) (codes "(),.;*+-/=<>")

-- `<>`, `<=` or `>=`
abbrev pub is_double_symbol : ℕ → ℕ → Bool
is_double_symbol b c = ((b == less_than) && ((c == equals_sign) || (c == greater_than))) || ((b == greater_than) && (c == equals_sign))

-- a symbol of one or of two octets
abbrev pub IsSymbol : List ℕ → Type 0
IsSymbol [] = ⊥
IsSymbol (b ∷ []) = IsTrue (is_single_symbol b)
IsSymbol (b ∷ c ∷ []) = IsTrue (is_double_symbol b c)
IsSymbol (b ∷ c ∷ d ∷ rest) = ⊥

-- the octets have the form of the kind; the name of a delimited identifier isn't empty
abbrev pub HasForm : Kind → List ℕ → Type 0
HasForm Word octets = IsWord octets
HasForm DelimitedIdentifier octets = (name : List ℕ) × (0 < length name) × (octets ≡ quoted double_quote name)
HasForm CharacterString octets = (value : List ℕ) × (octets ≡ quoted single_quote value)
HasForm Number octets = IsNumber octets
HasForm Symbol octets = IsSymbol octets

-- ---- where a token ends

-- Whether a token can't end before this octet: a letter, a digit, `_` or a point is no part of a number, and yet none ends before it.
abbrev pub token_goes_on : Kind → ℕ → Bool
token_goes_on Word c = false
token_goes_on DelimitedIdentifier c = false
token_goes_on CharacterString c = false
token_goes_on Number c = is_word_octet_or_point c
token_goes_on Symbol c = false

-- The token begins the text, and rest follows it: of the fronts of the text that have the form of a token it is the longest.
pub record Begins (text : List ℕ) (t : Lexeme) (rest : List ℕ) : Type 0 where
  pub parts : text ≡ t.octets ++ rest
  pub form : HasForm t.kind t.octets
  pub longest : (other : Lexeme) (more : List ℕ) → text ≡ other.octets ++ more → HasForm other.kind other.octets → length other.octets ≤ length t.octets
  pub ends : begins_with (token_goes_on t.kind) rest ≡ false

-- ---- the tokens of a text

-- The token begins behind the gap at the front of the text, and rest follows the token.
pub record IsNext (text : List ℕ) (t : Lexeme) (rest : List ℕ) : Type 0 where
  pub start : List ℕ
  pub gap : IsAfterGap text start
  pub token : Begins start t rest
  pub open token use *

-- These tokens are at the front of the text, with the gap before each, and rest follows them and one more gap.
abbrev pub Reads : List ℕ → List Lexeme → List ℕ → Type 0
Reads text [] rest = IsAfterGap text rest
Reads text (t ∷ ts) rest = (after : List ℕ) × IsNext text t after × Reads after ts rest

-- These are the tokens of the whole text.
pub record AreTokens (text : List ℕ) (ts : List Lexeme) : Type 0 where
  pub utf8 : IsUtf8 text
  pub reads : Reads (after_mark text) ts []

-- The text before octet `at` is read as tokens, and there, before its end, no token begins.
pub record StopsAt (text : List ℕ) (at : ℕ) : Type 0 where
  pub utf8 : IsUtf8 text
  pub before : List Lexeme
  pub rest : List ℕ
  pub reads : Reads (after_mark text) before rest
  pub position : at + length rest ≡ length text
  pub more : rest ≢ []
  pub no_token : (t : Lexeme) (after : List ℕ) → Begins rest t after → ⊥
