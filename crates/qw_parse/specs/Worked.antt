-- Token lists of worked cases, and what they say.
use Rattle.std.specs.Prelude.{ℕ, Bool, List, [], ◌∷◌, ◌++◌, false, true, Option, None, codes}
use Rattle.qw_scalar.specs.declared.comparison.Comparison.TheVariants.{Equal}
use Rattle.qw_token.specs.declared.token.Kind.TheVariants.{Word, CharacterString, Number, Symbol}
use Rattle.qw_token.specs.Token.{Lexeme}
use Rattle.qw_ast.specs.Syntax.{Expression, number, column, Condition, comparison, Clause, Entry, Joined, Source, Reference, Key, result_column, SortSpecification, Select, all_columns, items}
use Rattle.qw_ast.specs.ScriptGrammar.{IsNested}

-- a word, an unsigned number and a symbol as they stand in a text
abbrev pub w : List ℕ → Lexeme
w octets = record { kind = Word; octets = octets }

abbrev pub n : List ℕ → Lexeme
n octets = record { kind = Number; octets = octets }

abbrev pub s : List ℕ → Lexeme
s octets = record { kind = Symbol; octets = octets }

-- a character string, with its quotes
abbrev pub quoted : List ℕ → Lexeme
quoted octets = record { kind = CharacterString; octets = octets }

-- a column of this name
abbrev pub the_column : List ℕ → Expression
the_column name = column None name

-- column = number
abbrev pub equals : List ℕ → List ℕ → Condition
equals name digits = comparison Equal (the_column name) (number digits)

-- SELECT * FROM and these tokens
abbrev pub from : List Lexeme → List Lexeme
from tokens = w (codes "SELECT") ∷ s (codes "*") ∷ w (codes "FROM") ∷ tokens

abbrev pub all_from : List Source → Select
all_from sources = record { distinct = false; selected = all_columns; sources = sources; filter = None; grouping = []; having = None; order = [] }

-- SELECT * FROM a, with DISTINCT or without
abbrev pub all_of_a : Bool → Select
all_of_a distinct = record { distinct = distinct; selected = all_columns; sources = record { first = record { table = codes "a"; alias = None }; joins = [] } ∷ []; filter = None; grouping = []; having = None; order = [] }

-- SELECT * FROM a, with this order
abbrev pub all_in_order : List SortSpecification → Select
all_in_order order = record { distinct = false; selected = all_columns; sources = record { first = record { table = codes "a"; alias = None }; joins = [] } ∷ []; filter = None; grouping = []; having = None; order = order }

-- SELECT * FROM a, with these columns of GROUP BY, this condition of HAVING and this order
abbrev pub all_grouped : List Reference → Option Condition → List SortSpecification → Select
all_grouped grouping having order = record { distinct = false; selected = all_columns; sources = record { first = record { table = codes "a"; alias = None }; joins = [] } ∷ []; filter = None; grouping = grouping; having = having; order = order }

-- a column of GROUP BY by its name, without a qualifier
abbrev pub reference_named : List ℕ → Reference
reference_named name = record { qualifier = None; name = name }

-- a result column by its name
abbrev pub key_named : List ℕ → Key
key_named name = result_column name

-- by the result column of this name, ascending
abbrev pub by_name : List ℕ → SortSpecification
by_name name = record { key = key_named name; is_descending = false }

-- a table without an alias, and one that nothing is joined to
abbrev pub the_table : List ℕ → Entry
the_table name = record { table = name; alias = None }

abbrev pub alone : Entry → Source
alone entry = record { first = entry; joins = [] }

-- SELECT, these tokens and FROM t
abbrev pub of_t : List Lexeme → List Lexeme
of_t tokens = w (codes "SELECT") ∷ (tokens ++ w (codes "FROM") ∷ w (codes "t") ∷ [])

-- SELECT a FROM t, with DISTINCT or without
abbrev pub a_of_t : Bool → Select
a_of_t distinct = record { distinct = distinct; selected = items (record { value = the_column (codes "a"); name = None } ∷ []); sources = alone (the_table (codes "t")) ∷ []; filter = None; grouping = []; having = None; order = [] }

-- JOIN entry ON column = number
abbrev pub joined : Entry → List ℕ → List ℕ → Joined
joined entry name digits = record { entry = entry; outer = false; on = equals name digits }

-- LEFT JOIN entry ON column = number
abbrev pub left_joined : Entry → List ℕ → List ℕ → Joined
left_joined entry name digits = record { entry = entry; outer = true; on = equals name digits }

-- the tokens are this condition or expression
abbrev pub Says : List Lexeme → Clause → Type 0
Says tokens c = IsNested 33 c tokens []
