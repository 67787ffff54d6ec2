-- The script that a text is, or why it is none (ISO/IEC 9075:1992, 7.9).
use Rattle.std.specs.Prelude.{◌≡◌, ◌≤◌, ◌<◌, ℕ, suc, List, [], ◌∷◌, length}
use Rattle.std.specs.Str.{IsUtf8}
use Rattle.qw_token.specs.Token.{Lexeme, AreTokens, StopsAt}
use Rattle.qw_ast.specs.SchemaGrammar.{IsTooDeep, statements}
use Rattle.qw_ast.specs.ScriptGrammar.{IsSelectOf}
use Rattle.qw_ast.specs.Syntax.{Select}
use Rattle.qw_ast.specs.Limits.{IsAccepted, IsScriptLength, query_columns, query_entries, query_items, query_keys, query_nodes, query_octets}
use Rattle.qw_parse.specs.declared.fault.Count.{Count}
use Rattle.qw_parse.specs.declared.fault.Count.TheVariants.{Statements, SelectItems, FromEntries, GroupColumns, SortKeys, Nodes, LiteralOctets}
use Rattle.qw_parse.specs.declared.fault.ParseFault.{ParseFault}
use Rattle.qw_parse.specs.declared.fault.ParseFault.TheVariants.{NotUtf8, NotToken, NotGrammar, TooDeep, TooMany}

-- ---- one statement

-- how many of what there are, and how many there may be
pub record Limit : Type 0 where
  pub many : ℕ
  pub what : Count
  pub most : ℕ

-- what is counted of a query, in the order in which it is judged
abbrev pub limits : (items entries columns keys nodes octets : ℕ) → List Limit
limits items entries columns keys nodes octets =
    record { many = items; what = SelectItems; most = 64 } ∷ record { many = entries; what = FromEntries; most = 8 } ∷ record { many = columns; what = GroupColumns; most = 64 } ∷ record { many = keys; what = SortKeys; most = 64 } ∷ record { many = nodes; what = Nodes; most = 1000 } ∷ record { many = octets; what = LiteralOctets; most = 16384 } ∷ []

-- of the limits the first that is passed
pub data IsPassedFirst : List Limit → Limit → Type 0 where
  passed : (limit : Limit) (others : List Limit) → limit.most < limit.many → IsPassedFirst (limit ∷ others) limit
  kept : (limit other : Limit) (others : List Limit) → limit.many ≤ limit.most → IsPassedFirst others other → IsPassedFirst (limit ∷ others) other

-- The first fault of statement k.
pub data HasFault (k : ℕ) (tokens : List Lexeme) : ParseFault → Type 0 where
  too_deep : IsTooDeep tokens → HasFault k tokens (TooDeep k)
  not_grammar : (IsTooDeep tokens → ⊥) → ((s : Select) → IsSelectOf tokens s → ⊥) → HasFault k tokens (NotGrammar k)
  too_many : (IsTooDeep tokens → ⊥) → (s : Select) → IsSelectOf tokens s → (limit : Limit) → IsPassedFirst (limits (query_items s) (query_entries s) (query_columns s) (query_keys s) (query_nodes s) (query_octets s)) limit → HasFault k tokens (TooMany k limit.what limit.most)

-- ---- a text

-- The statements are these queries, one each.
abbrev pub AreAccepted : List (List Lexeme) → List Select → Type 0
AreAccepted [] [] = Unit {0}
AreAccepted [] (q ∷ qs) = ⊥
AreAccepted (t ∷ ts) [] = ⊥
AreAccepted (t ∷ ts) (q ∷ qs) = IsAccepted t q × AreAccepted ts qs

-- The text is these queries: each of its 1 to 64 statements one.
pub record ReadsScript (text : List ℕ) (queries : List Select) : Type 0 where
  pub tokens : List Lexeme
  pub are_tokens : AreTokens text tokens
  pub length_is : IsScriptLength (length (statements tokens))
  pub open length_is use *
  pub accepted : AreAccepted (statements tokens) queries

-- The first fault of the statements from number k on: those before it are queries.
pub data HasFirstFault : ℕ → List (List Lexeme) → ParseFault → Type 0 where
  here : (k : ℕ) (t : List Lexeme) (ts : List (List Lexeme)) (fault : ParseFault) → HasFault k t fault → HasFirstFault k (t ∷ ts) fault
  later : (k : ℕ) (t : List Lexeme) (ts : List (List Lexeme)) (s : Select) (fault : ParseFault) → IsAccepted t s → HasFirstFault (suc k) ts fault → HasFirstFault k (t ∷ ts) fault

-- Why a text is no script.
pub data IsScriptRefused (text : List ℕ) : ParseFault → Type 0 where
  not_utf8 : (IsUtf8 text → ⊥) → IsScriptRefused text NotUtf8
  not_token : (at : ℕ) → StopsAt text at → IsScriptRefused text (NotToken at)
  too_many : (tokens : List Lexeme) → AreTokens text tokens → 64 < length (statements tokens) → IsScriptRefused text (TooMany 1 Statements 64)
  no_statement : (tokens : List Lexeme) → AreTokens text tokens → statements tokens ≡ [] → IsScriptRefused text (NotGrammar 1)
  statement : (tokens : List Lexeme) (fault : ParseFault) → AreTokens text tokens → length (statements tokens) ≤ 64 → HasFirstFault 1 (statements tokens) fault → IsScriptRefused text fault
