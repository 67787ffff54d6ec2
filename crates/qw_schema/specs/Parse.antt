-- The schema that a text declares, or why it declares none.
use Rattle.std.specs.Prelude.{◌≡◌, ◌≤◌, ◌<◌, ◌⊎◌, ℕ, suc, false, List, [], ◌∷◌, ◌++◌, length, map, Contains}
use Rattle.std.specs.Str.{IsUtf8}
use Rattle.qw_types.specs.declared.schema.Column.{Column}
use Rattle.qw_types.specs.declared.schema.Table.{Table}
use Rattle.qw_token.specs.Token.{Lexeme, AreTokens, StopsAt}
use Rattle.qw_ast.specs.SchemaGrammar.{IsTableOf, IsTooDeep, is_sized, statements}
use Rattle.qw_schema.specs.declared.parse.SchemaFault.{SchemaFault}
use Rattle.qw_schema.specs.declared.parse.SchemaFault.TheVariants.{NotUtf8, NotToken, NotGrammar, TooDeep, TooMany, Duplicate, BadSize}
use Rattle.qw_schema.specs.declared.parse.Count.TheVariants.{Tables, Columns}

-- ---- one statement of a schema

-- a name that comes again behind where it stands
pub data IsTwice : List (List ℕ) → Type 0 where
  here : (name : List ℕ) (names : List (List ℕ)) → Contains names name → IsTwice (name ∷ names)
  later : (name : List ℕ) (names : List (List ℕ)) → IsTwice names → IsTwice (name ∷ names)

-- The table has the name of one before it, or two columns of one name (11.3, 11.4).
abbrev pub IsDuplicate : List Table → Table → Type 0
IsDuplicate before table = Contains (map (λ (t : Table). t.name) before) table.name ⊎ IsTwice (map (λ (c : Column). c.name) table.columns)

-- A column has a type of which a size isn't taken.
abbrev pub HasBadSize : Table → Type 0
HasBadSize table = (column : Column) × Contains table.columns column × (is_sized column.ty ≡ false)

-- Behind those tables the statement declares this one: it is a table definition, and keeps each limit.
pub record IsDeclared (before : List Table) (tokens : List Lexeme) (table : Table) : Type 0 where
  pub shallow : IsTooDeep tokens → ⊥
  pub definition : IsTableOf tokens table
  pub few : length table.columns ≤ 64
  pub single : IsDuplicate before table → ⊥
  pub sizes : HasBadSize table → ⊥

-- The first fault of statement k, behind those tables.
pub data HasFault (before : List Table) (k : ℕ) (tokens : List Lexeme) : SchemaFault → Type 0 where
  too_deep : IsTooDeep tokens → HasFault before k tokens (TooDeep k)
  not_grammar : (IsTooDeep tokens → ⊥) → ((table : Table) → IsTableOf tokens table → ⊥) → HasFault before k tokens (NotGrammar k)
  too_many : (IsTooDeep tokens → ⊥) → (table : Table) → IsTableOf tokens table → 64 < length table.columns → HasFault before k tokens (TooMany k Columns 64)
  duplicate : (IsTooDeep tokens → ⊥) → (table : Table) → IsTableOf tokens table → length table.columns ≤ 64 → IsDuplicate before table → HasFault before k tokens (Duplicate k)
  bad_size : (IsTooDeep tokens → ⊥) → (table : Table) → IsTableOf tokens table → length table.columns ≤ 64 → (IsDuplicate before table → ⊥) → HasBadSize table → HasFault before k tokens (BadSize k)

-- ---- a schema

-- Behind those tables, the statements declare these, one each.
abbrev pub Declare : List Table → List (List Lexeme) → List Table → Type 0
Declare before [] [] = Unit {0}
Declare before [] (t ∷ ts) = ⊥
Declare before (s ∷ ss) [] = ⊥
Declare before (s ∷ ss) (t ∷ ts) = IsDeclared before s t × Declare (before ++ t ∷ []) ss ts

-- The text declares these tables: each of its 1 to 32 statements one.
pub record ReadsSchema (text : List ℕ) (tables : List Table) : Type 0 where
  pub tokens : List Lexeme
  pub are_tokens : AreTokens text tokens
  pub some : 1 ≤ length (statements tokens)
  pub few : length (statements tokens) ≤ 32
  pub declare : Declare [] (statements tokens) tables

-- The first fault of the statements from number k on, behind those tables: those before it declare a table each.
pub data HasFirstFault : List Table → ℕ → List (List Lexeme) → SchemaFault → Type 0 where
  here : (before : List Table) (k : ℕ) (s : List Lexeme) (ss : List (List Lexeme)) (fault : SchemaFault) → HasFault before k s fault → HasFirstFault before k (s ∷ ss) fault
  later : (before : List Table) (k : ℕ) (s : List Lexeme) (ss : List (List Lexeme)) (t : Table) (fault : SchemaFault) → IsDeclared before s t → HasFirstFault (before ++ t ∷ []) (suc k) ss fault → HasFirstFault before k (s ∷ ss) fault

-- Why a text declares no schema.
pub data IsRefused (text : List ℕ) : SchemaFault → Type 0 where
  not_utf8 : (IsUtf8 text → ⊥) → IsRefused text NotUtf8
  not_token : (at : ℕ) → StopsAt text at → IsRefused text (NotToken at)
  too_many : (tokens : List Lexeme) → AreTokens text tokens → 32 < length (statements tokens) → IsRefused text (TooMany 1 Tables 32)
  no_statement : (tokens : List Lexeme) → AreTokens text tokens → statements tokens ≡ [] → IsRefused text (NotGrammar 1)
  statement : (tokens : List Lexeme) (fault : SchemaFault) → AreTokens text tokens → length (statements tokens) ≤ 32 → HasFirstFault [] 1 (statements tokens) fault → IsRefused text fault
