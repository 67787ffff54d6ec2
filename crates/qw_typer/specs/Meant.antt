-- What the expressions and conditions of a query mean over the columns of the entries of FROM that they reach, or over those of the grouped
-- table (ISO/IEC 9075:1992, 6.3 to 6.5, 6.9 to 6.12, 6.14, 7.7 to 7.9, 8.2 to 8.6, 8.12). What is said here of an expression that has a
-- fault (Faults) means nothing, and only makes the meaning total.
use Rattle.std.specs.Prelude.{ℕ, ◌+◌, ◌*◌, ◌==◌, Bool, true, false, if◌then◌else◌, List, [], ◌∷◌, ◌++◌, length, Option, Some, None, position, slice_get, unwrap_or}
use Rattle.std.specs.Option.{option_and_then, option_map}
use Rattle.std.specs.Str.{bytes_eq}
use Rattle.qw_types.specs.declared.schema.Column.{Column}
use Rattle.qw_types.specs.declared.value.Ty.{Ty}
use Rattle.qw_scalar.specs.declared.comparison.Comparison.TheVariants.{Equal}
use Rattle.qw_scalar.specs.Expression as meaning
use Rattle.qw_grouped.specs.declared.query.GroupedColumn.{GroupedColumn}
use Rattle.qw_ast.specs.declared.script.Sign.{Sign}
use Rattle.qw_ast.specs.declared.script.Sign.TheVariants.{Plus, Minus}
use Rattle.qw_ast.specs.Grammar.{name_of}
use Rattle.qw_ast.specs.Syntax.{Expression, null, number, text, date, column, signed, arithmetic, extract, searched_case, simple_case, call, count_rows, set_function, Condition, comparison, between, among, predicate, both, either, negation_of, is, bracketed, condition, expression, Expressions, last, further, Branching, otherwise, when}
use Rattle.qw_ast.specs.Quoted.{string_value}
use Rattle.qw_typer.specs.Literal.{date_of, number_of}

-- an entry of FROM: its alias, or without one its table's name; its number among the entries of FROM and its table's place in the
-- schema, both counted from 0; and the table's columns in order (6.3, 7.4)
pub record Entry : Type 0 where
  pub name : List ℕ
  pub number : ℕ
  pub table : ℕ
  pub columns : List Column

-- A set function of a grouped query as a column of its grouped table: its place, which tells it from every other of the text, and the
-- type of its values (6.5).
pub record FunctionColumn : Type 0 where
  pub place : ℕ
  pub ty : Ty

-- The grouped table, whose columns are those of GROUP BY, each with its number in FROM, and behind them the set functions in the order of
-- the text (7.7 to 7.9).
pub record Grouping : Type 0 where
  pub columns : List GroupedColumn
  pub functions : List FunctionColumn

-- What names are resolved against: the entries that a column reference reaches, from left to right (6.4), and in the select list and HAVING
-- of a grouped query its grouped table.
pub record Scope : Type 0 where
  pub entries : List Entry
  pub grouping : Option Grouping

-- ON, WHERE, GROUP BY and the arguments of set functions are over FROM, and so is the select list of a query that isn't grouped.
abbrev pub ungrouped : List Entry → Scope
ungrouped entries = record { entries = entries; grouping = None }

-- the column of a name in an entry: column c of entry e is number 64 * e + c. No two columns of a table have one name (11.3).
abbrev pub column_named : Entry → List ℕ → Option meaning.Expression
column_named entry name =
    option_and_then (λ (place : ℕ). option_map (λ (c : Column). meaning.column (64 * entry.number + place) c.ty) (slice_get entry.columns place)) (position (λ (c : Column). bytes_eq name c.name) entry.columns)

-- whether a qualifier, where there is one, is the name of the entry (6.4)
abbrev pub is_qualified : Option (List ℕ) → Entry → Bool
is_qualified None entry = true
is_qualified (Some qualifier) entry = bytes_eq qualifier entry.name

abbrev pub listed : Option meaning.Expression → List meaning.Expression
listed None = []
listed (Some e) = e ∷ []

-- the columns that a column reference may mean: those of its name, in the entries that its qualifier names (6.4)
abbrev pub referred : List Entry → Option (List ℕ) → List ℕ → List meaning.Expression
referred [] qualifier name = []
referred (entry ∷ others) qualifier name = (if is_qualified qualifier entry then listed (column_named entry name) else []) ++ referred others qualifier name

abbrev pub first_of : List meaning.Expression → meaning.Expression
first_of [] = meaning.null
first_of (e ∷ es) = e

-- a column of FROM in the grouped table: its place among the columns of GROUP BY, counted from 0 (7.9)
abbrev pub column_grouped : Grouping → meaning.Expression → Option meaning.Expression
column_grouped grouping (meaning.column i ty) =
    option_and_then (λ (k : ℕ). option_map (λ (c : GroupedColumn). meaning.column k c.ty) (slice_get grouping.columns k)) (position (λ (c : GroupedColumn). c.number == i) grouping.columns)
column_grouped grouping _ = None

-- and without a grouping that very column
abbrev pub in_group : Option Grouping → meaning.Expression → Option meaning.Expression
in_group None e = Some e
in_group (Some grouping) e = column_grouped grouping e

-- the set function at a place of the text, which in the grouped table stands behind the columns of GROUP BY (6.5, 7.9)
abbrev pub function_at : Grouping → (place : ℕ) → Option meaning.Expression
function_at grouping place =
    option_and_then (λ (k : ℕ). option_map (λ (f : FunctionColumn). meaning.column (length grouping.columns + k) f.ty) (slice_get grouping.functions k)) (position (λ (f : FunctionColumn). f.place == place) grouping.functions)

abbrev pub function_meant : Option Grouping → (place : ℕ) → meaning.Expression
function_meant grouping place = unwrap_or (option_and_then (λ (g : Grouping). function_at g place) grouping) meaning.null

-- an expression with a sign (6.11)
abbrev pub with_sign : Sign → meaning.Expression → meaning.Expression
with_sign Plus a = a
with_sign Minus a = meaning.negative a

-- a predicate with NOT in it or not is the negation of the one without (8.3, 8.4, 8.6, 8.12)
abbrev pub with_not : Bool → meaning.Condition → meaning.Condition
with_not true c = meaning.negation_of c
with_not false c = c

abbrev mutual
  pub meant : Scope → Expression → meaning.Expression
  meant scope null = meaning.null
  meant scope (number octets) = unwrap_or (number_of octets) meaning.null
  meant scope (text octets) = meaning.text (string_value octets)
  meant scope (date string intervals) = unwrap_or (date_of string intervals) meaning.null
  meant scope (column qualifier name) = unwrap_or (in_group scope.grouping (first_of (referred scope.entries (option_map name_of qualifier) (name_of name)))) meaning.null
  meant scope (signed sign a) = with_sign sign (meant scope a)
  meant scope (arithmetic operator a b) = meaning.arithmetic operator (meant scope a) (meant scope b)
  meant scope (extract field a) = meaning.extract field (meant scope a)
  meant scope (searched_case branches) = meaning.case (choices scope branches)
  meant scope (simple_case x branches) = meaning.case (matches scope (meant scope x) branches)
  meant scope (call function es) = meaning.called function (all_meant scope es)
  meant scope (count_rows place) = function_meant scope.grouping place
  meant scope (set_function place f a) = function_meant scope.grouping place

  pub condition_meant : Scope → Condition → meaning.Condition
  condition_meant scope (comparison op a b) = meaning.comparison op (meant scope a) (meant scope b)
  condition_meant scope (between negated x a b) = with_not negated (meaning.between (meant scope x) (meant scope a) (meant scope b))
  condition_meant scope (among negated x es) = with_not negated (meaning.among (meant scope x) (all_meant scope es))
  condition_meant scope (predicate p negated a) = with_not negated (meaning.predicate p (meant scope a))
  condition_meant scope (both c d) = meaning.both (condition_meant scope c) (condition_meant scope d)
  condition_meant scope (either c d) = meaning.either (condition_meant scope c) (condition_meant scope d)
  condition_meant scope (negation_of c) = meaning.negation_of (condition_meant scope c)
  condition_meant scope (is negated c t) = with_not negated (meaning.is (condition_meant scope c) t)
  condition_meant scope (bracketed c) = condition_meant scope c

  pub all_meant : Scope → Expressions → meaning.Expressions
  all_meant scope (last e) = meaning.last (meant scope e)
  all_meant scope (further e es) = meaning.more (meant scope e) (all_meant scope es)

  -- the branches of a CASE without an operand
  pub choices : Scope → Branching → meaning.Choices
  choices scope (otherwise e) = meaning.otherwise (meant scope e)
  choices scope (when (condition c) e rest) = meaning.when (condition_meant scope c) (meant scope e) (choices scope rest)
  choices scope (when (expression v) e rest) = choices scope rest

  -- and of one with an operand: CASE x WHEN v THEN r .. is CASE WHEN x = v THEN r .. (6.9)
  pub matches : Scope → meaning.Expression → Branching → meaning.Choices
  matches scope x (otherwise e) = meaning.otherwise (meant scope e)
  matches scope x (when (condition c) e rest) = matches scope x rest
  matches scope x (when (expression v) e rest) = meaning.when (meaning.comparison Equal x (meant scope v)) (meant scope e) (matches scope x rest)
