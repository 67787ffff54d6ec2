-- Mirrors src/parse/declare.rt.
use Rattle.std.specs.Prelude.{ℕ, suc, Bool, false, ◌||◌, nat_lt, List, [], ◌∷◌, ◌++◌, length, map, Option, Some, IfSome, Result, Ok, Err, if◌then◌else◌}
use Rattle.std.specs.List.{AllByRecursion, list_any}
use Rattle.std.specs.Option.{option_map_or}
use Rattle.std.specs.Str.{bytes_eq}
use Rattle.qw_types.specs.declared.schema.Column.{Column}
use Rattle.qw_types.specs.declared.schema.Table.{Table}
use Rattle.qw_types.specs.declared.value.Ty.{Ty}
use Rattle.qw_types.specs.Value.{IsSized}
use Rattle.qw_token.specs.Token.{Lexeme}
use Rattle.qw_ast.specs.SchemaGrammar.{exceeds}
use Rattle.qw_schema.specs.declared.parse.SchemaFault.{SchemaFault}
use Rattle.qw_schema.specs.declared.parse.SchemaFault.TheVariants.{NotGrammar, TooDeep, TooMany, Duplicate, BadSize}
use Rattle.qw_schema.specs.declared.parse.Count.TheVariants.{Columns}
use Rattle.qw_schema.specs.Inner.Parser.{◌>>=◌, all_of}
use Rattle.qw_schema.specs.Inner.Tables.{sized, create_table_at}

-- ---- one statement

-- what is read of a column: its name, its type if its sizes are taken, and whether it is NOT NULL
abbrev pub Read : Type 0
Read = List ℕ × (Option Ty × Bool)

abbrev pub name_in : Read → List ℕ
name_in c = c.0

-- each type that was read is of a size that it may have
abbrev pub AreSized : List Read → Type 0
AreSized columns = AllByRecursion (λ (c : Read). IfSome c.1.0 IsSized) columns

-- whether a name comes again behind one of the columns
abbrev pub is_twice : List (List ℕ) → Bool
is_twice [] = false
is_twice (name ∷ names) = list_any (bytes_eq name) names || is_twice names

-- the columns, if the sizes of each type are taken
abbrev pub columns_of : List Read → Option (List Column)
columns_of [] = Some []
columns_of (c ∷ cs) = do
  ty ← c.1.0
  columns ← columns_of cs
  Some (record { name = c.0; ty = ty; not_null = c.1.1 } ∷ columns)

-- whether a table of the name is declared
abbrev pub is_named : List Table → List ℕ → Bool
is_named tables name = list_any (λ (t : Table). bytes_eq name t.name) tables

-- the table, or the first fault in what was read
abbrev pub checked : List Table → ℕ → List ℕ × List Read → Result Table SchemaFault
checked before k d =
    if nat_lt 64 (length d.1) then Err (TooMany k Columns 64)
    else (if is_named before d.0 || is_twice (map name_in d.1) then Err (Duplicate k)
    else option_map_or (λ columns. Ok (record { name = d.0; columns = columns })) (columns_of d.1) (Err (BadSize k)))

-- the table that statement k declares behind those, or its first fault
abbrev pub judged : List Table → ℕ → List Lexeme → Result Table SchemaFault
judged before k ts =
    if exceeds 0 ts then Err (TooDeep k)
    else option_map_or (λ d. checked before k d) (all_of (create_table_at sized) ts) (Err (NotGrammar k))

-- ---- all statements

-- going on with a table
infixl 10 ◌>>-◌
abbrev pub ◌>>-◌ : {A B : Type 0} → Result A SchemaFault → (A → Result B SchemaFault) → Result B SchemaFault
(Ok x) >>- f = f x
(Err fault) >>- f = Err fault

-- the tables that the statements from k on declare behind those, or the first fault
abbrev pub judged_from : List Table → ℕ → List (List Lexeme) → Result (List Table) SchemaFault
judged_from before k [] = Ok before
judged_from before k (s ∷ ss) = judged before k s >>- (λ t. judged_from (before ++ t ∷ []) (suc k) ss)
