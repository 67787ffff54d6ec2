-- What a script says, apart from any tree of the code: no addresses. Names and literals are octets as they stand in the text.
use Rattle.std.specs.Prelude.{ℕ, Bool, List, Option}
use Rattle.qw_types.specs.declared.truth.Truth.{Truth}
use Rattle.qw_scalar.specs.declared.expression.Operator.{Operator}
use Rattle.qw_scalar.specs.declared.expression.Field.{Field}
use Rattle.qw_scalar.specs.declared.expression.Function.{Function}
use Rattle.qw_scalar.specs.declared.expression.Predicate.{Predicate}
use Rattle.qw_scalar.specs.declared.comparison.Comparison.{Comparison}
use Rattle.qw_ast.specs.declared.script.Sign.{Sign}
use Rattle.qw_ast.specs.declared.script.SetFunction.{SetFunction}

-- a sign and the string of an interval of days (ISO/IEC 9075:1992, 5.3)
pub record Days : Type 0 where
  pub sign : Sign
  pub string : List ℕ

mutual
  -- an expression (6.11)
  pub data Expression : Type 0 where
    -- the word NULL as a result of a CASE, or the result of an ELSE that isn't there (6.9)
    null : Expression
    -- an unsigned number
    number : List ℕ → Expression
    -- a character string
    text : List ℕ → Expression
    -- a date by its string, and the intervals added to it and taken from it
    date : List ℕ → List Days → Expression
    -- a column by its name, behind a qualifier or not (6.4)
    column : Option (List ℕ) → List ℕ → Expression
    signed : Sign → Expression → Expression
    arithmetic : Operator → Expression → Expression → Expression
    extract : Field → Expression → Expression
    -- CASE, in front of its branches an operand or none (6.9)
    searched_case : Branching → Expression
    simple_case : Expression → Branching → Expression
    -- a function of arguments (6.9)
    call : Function → Expressions → Expression
    -- COUNT(*), and its place: how many tokens stand behind it, which tells it from every other of the query (6.5)
    count_rows : ℕ → Expression
    -- a set function of an argument, and its place (6.5)
    set_function : ℕ → SetFunction → Expression → Expression

  -- a condition (8.12); a truth value tells whether NOT stands in the predicate
  pub data Condition : Type 0 where
    -- a comparison, or LIKE, whose second expression is the pattern (8.2, 8.5)
    comparison : Comparison → Expression → Expression → Condition
    between : Bool → Expression → Expression → Expression → Condition
    among : Bool → Expression → Expressions → Condition
    -- a predicate of one value, as IS NULL (8.6)
    predicate : Predicate → Bool → Expression → Condition
    both : Condition → Condition → Condition
    either : Condition → Condition → Condition
    negation_of : Condition → Condition
    is : Bool → Condition → Truth → Condition
    -- a condition in brackets: they tell which conjuncts a condition has
    bracketed : Condition → Condition

  -- one of the two
  pub data Clause : Type 0 where
    condition : Condition → Clause
    expression : Expression → Clause

  -- one expression or more
  pub data Expressions : Type 0 where
    last : Expression → Expressions
    further : Expression → Expressions → Expressions

  -- the branches of a CASE: WHEN .. THEN .., and at last what ELSE gives
  pub data Branching : Type 0 where
    otherwise : Expression → Branching
    when : Clause → Expression → Branching → Branching

-- an item of a select list: an expression, and the name that it is given if any (7.9)
pub record SelectItem : Type 0 where
  pub value : Expression
  pub name : Option (List ℕ)

-- a select list (7.9)
pub data Selected : Type 0 where
  all_columns : Selected
  items : List SelectItem → Selected

-- a table reference: a table by its name, and the name that it is given if any (6.3)
pub record Entry : Type 0 where
  pub table : List ℕ
  pub alias : Option (List ℕ)

-- JOIN entry ON condition (7.5)
pub record Joined : Type 0 where
  pub entry : Entry
  -- whether LEFT stands before JOIN, so that it is an outer join (7.5 "join type")
  pub outer : Bool
  pub on : Condition

-- what stands between two commas of FROM: an entry, and those joined to it from left to right (7.4, 7.5)
pub record Source : Type 0 where
  pub first : Entry
  pub joins : List Joined

-- a column reference: a name, behind a qualifier or not (6.4)
pub record Reference : Type 0 where
  pub qualifier : Option (List ℕ)
  pub name : List ℕ

-- a sort key: a result column by its position, or by its name (13.1)
pub data Key : Type 0 where
  ordinal : List ℕ → Key
  result_column : List ℕ → Key

-- a key, and whether DESC stands behind it (13.1)
pub record SortSpecification : Type 0 where
  pub key : Key
  pub is_descending : Bool

-- SELECT .. FROM .. WHERE .. GROUP BY .. HAVING .. ORDER BY .. (7.9, 7.4, 7.6, 7.7, 7.8, 13.1)
pub record Select : Type 0 where
  -- whether DISTINCT stands behind SELECT (7.9; 6.5 "set quantifier")
  pub distinct : Bool
  pub selected : Selected
  pub sources : List Source
  pub filter : Option Condition
  -- the columns of GROUP BY, none where there is no GROUP BY (7.7)
  pub grouping : List Reference
  -- the condition of HAVING (7.8)
  pub having : Option Condition
  pub order : List SortSpecification
