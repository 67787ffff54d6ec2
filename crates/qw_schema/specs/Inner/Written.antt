-- Mirrors the trees of src/parse/table.rt and how they are closed.
use Rattle.std.specs.Prelude.{ℕ, Bool, List, [], ◌∷◌, map, Option, codes}
use Rattle.qw_types.specs.declared.value.Ty.{Ty}
use Rattle.qw_token.specs.Token.{Lexeme}
use Rattle.qw_ast.specs.Grammar.{name_of, symbol}
use Rattle.qw_ast.specs.declared.tree.TableDefinition.{TableDefinition}
use Rattle.qw_schema.specs.declared.parse.table.WrittenColumn.{WrittenColumn}
use Rattle.qw_schema.specs.Inner.Parser.{before_at, list_at}
use Rattle.qw_schema.specs.Inner.Tables.{sized, column_at, read_of}

-- a column definition, with the name that its identifier is
abbrev pub written : WrittenColumn → List ℕ × (Option Ty × Bool)
written c = (name_of c.name.now, (c.ty, c.not_null))

-- the column definitions with a `)` behind them
unfoldable pub closing : List Lexeme → Option (List (List ℕ × (Option Ty × Bool)) × List Lexeme)
closing ts = before_at (list_at (column_at sized)) (symbol (codes ")") ∷ []) ts

-- what is read of a table definition
abbrev pub definition_read : TableDefinition → List ℕ × List (List ℕ × (Option Ty × Bool))
definition_read d = (d.name, map read_of d.columns.items)
