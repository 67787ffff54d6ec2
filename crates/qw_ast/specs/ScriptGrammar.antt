-- The grammar of a script (ISO/IEC 9075:1992; the section stands at each rule). A rule tells what stands at the front of some
-- tokens, and the tokens that follow it. A data type is a rule of the standard, and a constructor one of its alternatives.
use Rattle.std.specs.Prelude.{◌≡◌, ℕ, zero, suc, Bool, true, false, ◌&&◌, ◌||◌, not, if◌then◌else◌, IsTrue, nat_le, ◌==◌, List, [], ◌∷◌, ◌++◌, length, Option, Some, None, codes}
use Rattle.std.specs.List.{list_any}
use Rattle.std.specs.Str.{bytes_eq}
use Rattle.qw_types.specs.Digits.{are_digits}
use Rattle.qw_types.specs.declared.truth.Truth.{Truth}
use Rattle.qw_types.specs.declared.truth.Truth.TheVariants.{True, False, Unknown}
use Rattle.qw_scalar.specs.declared.expression.Operator.{Operator}
use Rattle.qw_scalar.specs.declared.expression.Operator.TheVariants.{Add, Subtract, Multiply, Divide}
use Rattle.qw_scalar.specs.declared.expression.Field.{Field}
use Rattle.qw_scalar.specs.declared.expression.Field.TheVariants.{Year, Month, Day}
use Rattle.qw_scalar.specs.declared.expression.Function.{Function}
use Rattle.qw_scalar.specs.declared.expression.Function.TheVariants.{Coalesce, NullIf}
use Rattle.qw_scalar.specs.declared.expression.Predicate.{Predicate}
use Rattle.qw_scalar.specs.declared.expression.Predicate.TheVariants.{IsNull}
use Rattle.qw_scalar.specs.declared.comparison.Comparison.{Comparison}
use Rattle.qw_scalar.specs.declared.comparison.Comparison.TheVariants.{Equal, NotEqual, Less, LessOrEqual, Greater, GreaterOrEqual, Like, NotLike}
use Rattle.qw_token.specs.declared.token.Kind.{Kind}
use Rattle.qw_token.specs.declared.token.Kind.TheVariants.{Word, DelimitedIdentifier, CharacterString, Number, Symbol}
use Rattle.qw_token.specs.Token.{Lexeme}
use Rattle.qw_ast.specs.declared.script.Sign.{Sign}
use Rattle.qw_ast.specs.declared.script.Sign.TheVariants.{Plus, Minus}
use Rattle.qw_ast.specs.declared.script.SetFunction.{SetFunction}
use Rattle.qw_ast.specs.declared.script.SetFunction.TheVariants.{Count, Sum, Avg, Min, Max}
use Rattle.qw_ast.specs.Grammar.{folded, reserved}
use Rattle.qw_ast.specs.Syntax.{Days, Expression, null, number, text, date, column, signed, arithmetic, extract, searched_case, simple_case, call, count_rows, set_function, Condition, comparison, between, among, predicate, both, either, negation_of, is, bracketed, Clause, condition, expression, Expressions, last, further, Branching, otherwise, when, SelectItem, Selected, all_columns, items, Entry, Joined, Source, Reference, Key, ordinal, result_column, SortSpecification, Select}

-- ---- tokens (5.2, 5.4)

abbrev pub is_word_kind : Kind → Bool
is_word_kind Word = true
is_word_kind _ = false

abbrev pub is_delimited_kind : Kind → Bool
is_delimited_kind DelimitedIdentifier = true
is_delimited_kind _ = false

abbrev pub is_string_kind : Kind → Bool
is_string_kind CharacterString = true
is_string_kind _ = false

abbrev pub is_number_kind : Kind → Bool
is_number_kind Number = true
is_number_kind _ = false

abbrev pub is_symbol_kind : Kind → Bool
is_symbol_kind Symbol = true
is_symbol_kind _ = false

-- the key word, in upper or lower case
abbrev pub is_word : List ℕ → Lexeme → Bool
is_word word t = is_word_kind t.kind && bytes_eq (folded t.octets) word

-- the symbol
abbrev pub is_symbol : List ℕ → Lexeme → Bool
is_symbol octets t = is_symbol_kind t.kind && bytes_eq t.octets octets

abbrev pub is_number : Lexeme → Bool
is_number t = is_number_kind t.kind

abbrev pub is_string : Lexeme → Bool
is_string t = is_string_kind t.kind

-- a number without a point
abbrev pub is_integer : Lexeme → Bool
is_integer t = is_number t && are_digits t.octets

-- a regular identifier: a word that isn't reserved
abbrev pub is_regular : Lexeme → Bool
is_regular t = is_word_kind t.kind && not (list_any (bytes_eq (folded t.octets)) reserved)

-- an identifier, regular or delimited
abbrev pub is_name : Lexeme → Bool
is_name t = is_regular t || is_delimited_kind t.kind

abbrev pub sign_of : Lexeme → Option Sign
sign_of t = if is_symbol (codes "+") t then Some Plus else (if is_symbol (codes "-") t then Some Minus else None)

abbrev pub addition_of : Lexeme → Option Operator
addition_of t = if is_symbol (codes "+") t then Some Add else (if is_symbol (codes "-") t then Some Subtract else None)

abbrev pub multiplication_of : Lexeme → Option Operator
multiplication_of t = if is_symbol (codes "*") t then Some Multiply else (if is_symbol (codes "/") t then Some Divide else None)

abbrev pub comparison_of : Lexeme → Option Comparison
comparison_of t =
    if is_symbol (codes "=") t then Some Equal
    else (if is_symbol (codes "<>") t then Some NotEqual
    else (if is_symbol (codes "<") t then Some Less
    else (if is_symbol (codes "<=") t then Some LessOrEqual
    else (if is_symbol (codes ">") t then Some Greater
    else (if is_symbol (codes ">=") t then Some GreaterOrEqual
    else None)))))

abbrev pub field_of : Lexeme → Option Field
field_of t =
    if is_word (codes "YEAR") t then Some Year
    else (if is_word (codes "MONTH") t then Some Month
    else (if is_word (codes "DAY") t then Some Day
    else None))

abbrev pub set_function_of : Lexeme → Option SetFunction
set_function_of t =
    if is_word (codes "COUNT") t then Some Count
    else (if is_word (codes "SUM") t then Some Sum
    else (if is_word (codes "AVG") t then Some Avg
    else (if is_word (codes "MIN") t then Some Min
    else (if is_word (codes "MAX") t then Some Max
    else None))))

-- a function, and how many arguments it takes behind the first (6.9)
abbrev pub function_of : Lexeme → Option Function
function_of t =
    if is_word (codes "COALESCE") t then Some Coalesce
    else (if is_word (codes "NULLIF") t then Some NullIf
    else None)

abbrev pub takes : Function → ℕ → Bool
takes Coalesce n = nat_le 1 n
takes NullIf n = n == 1

-- what stands behind IS [NOT] of a predicate of one value (8.6)
abbrev pub predicate_of : Lexeme → Option Predicate
predicate_of t = if is_word (codes "NULL") t then Some IsNull else None

abbrev pub truth_of : Lexeme → Option Truth
truth_of t =
    if is_word (codes "TRUE") t then Some True
    else (if is_word (codes "FALSE") t then Some False
    else (if is_word (codes "UNKNOWN") t then Some Unknown
    else None))

-- ---- what rules are made of

-- this stands at the front of the tokens, and those follow it
abbrev pub Rule : Type 0 → Type 1
Rule A = A → List Lexeme → List Lexeme → Type 0

-- one token of this meaning
pub data IsOperator {O : Type 0} (meaning : Lexeme → Option O) : O → List Lexeme → List Lexeme → Type 0 where
  operator : (o : O) (t : Lexeme) (rest : List Lexeme) → meaning t ≡ Some o → IsOperator meaning o (t ∷ rest) rest

-- A first, and then any number of times an operator and an operand, each joined to all that stands before it: so operators of
-- one rank associate to the left.
pub data Series {A O B : Type 0} (First : A → List Lexeme → List Lexeme → Type 0) (Between : O → List Lexeme → List Lexeme → Type 0) (Operand : B → List Lexeme → List Lexeme → Type 0) (joined : O → A → B → A) : A → List Lexeme → List Lexeme → Type 0 where
  first : (a : A) (ts rest : List Lexeme) → First a ts rest → Series First Between Operand joined a ts rest
  more : (a : A) (o : O) (b : B) (ts us vs rest : List Lexeme) → Series First Between Operand joined a ts us → Between o us vs → Operand b vs rest → Series First Between Operand joined (joined o a b) ts rest

-- no token
pub data IsNothing {A : Type 0} : List A → List Lexeme → List Lexeme → Type 0 where
  nothing : (rest : List Lexeme) → IsNothing [] rest rest

-- one more at the end of a list
abbrev pub appended : {O A : Type 0} → O → List A → A → List A
appended o xs a = xs ++ a ∷ []

abbrev pub is_comma : Lexeme → Option (Unit {0})
is_comma t = if is_symbol (codes ",") t then Some tt else None

-- any number of them, each behind a comma
abbrev pub AreFurther : {A : Type 0} → Rule A → Rule (List A)
AreFurther Item xs ts rest = Series IsNothing (IsOperator is_comma) Item appended xs ts rest

-- NOT or nothing
pub data IsOptionalNot : Bool → List Lexeme → List Lexeme → Type 0 where
  not_absent : (rest : List Lexeme) → IsOptionalNot false rest rest
  not_there : (t : Lexeme) (rest : List Lexeme) → IsTrue (is_word (codes "NOT") t) → IsOptionalNot true (t ∷ rest) rest

-- ALL or nothing, before the argument of a set function (6.5); it has no effect
pub data IsOptionalAll : List Lexeme → List Lexeme → Type 0 where
  all_absent : (rest : List Lexeme) → IsOptionalAll rest rest
  all_there : (t : Lexeme) (rest : List Lexeme) → IsTrue (is_word (codes "ALL") t) → IsOptionalAll (t ∷ rest) rest

-- ---- dates (5.3 "date literal" and "interval literal", 6.14)

-- the brackets behind DAY, or nothing; they have no effect
pub data IsPrecision : List Lexeme → List Lexeme → Type 0 where
  no_precision : (rest : List Lexeme) → IsPrecision rest rest
  precision : (opening n closing : Lexeme) (rest : List Lexeme) → IsTrue (is_symbol (codes "(") opening) → IsTrue (is_integer n) → IsTrue (is_symbol (codes ")") closing) → IsPrecision (opening ∷ n ∷ closing ∷ rest) rest

-- a sign and INTERVAL
pub data IsIntervalSign : Sign → List Lexeme → List Lexeme → Type 0 where
  interval_sign : (s : Sign) (t word : Lexeme) (rest : List Lexeme) → sign_of t ≡ Some s → IsTrue (is_word (codes "INTERVAL") word) → IsIntervalSign s (t ∷ word ∷ rest) rest

-- a string of days, and DAY with a precision or none
pub data IsDays : List ℕ → List Lexeme → List Lexeme → Type 0 where
  days : (t day : Lexeme) (ts rest : List Lexeme) → IsTrue (is_string t) → IsTrue (is_word (codes "DAY") day) → IsPrecision ts rest → IsDays t.octets (t ∷ day ∷ ts) rest

-- a date by its string, and its intervals
pub record Dated : Type 0 where
  pub string : List ℕ
  pub intervals : List Days

-- the date with one more interval
abbrev pub moved : Sign → Dated → List ℕ → Dated
moved s d octets = record { string = d.string; intervals = d.intervals ++ record { sign = s; string = octets } ∷ [] }

-- DATE and a string
pub data IsDateString : Dated → List Lexeme → List Lexeme → Type 0 where
  date_string : (word t : Lexeme) (rest : List Lexeme) → IsTrue (is_word (codes "DATE") word) → IsTrue (is_string t) → IsDateString (record { string = t.octets; intervals = [] }) (word ∷ t ∷ rest) rest

abbrev pub IsDate : Rule Dated
IsDate d ts rest = Series IsDateString IsIntervalSign IsDays moved d ts rest

-- ---- expressions, over what stands in brackets and in CASE

-- the arguments of a list
abbrev pub arguments : Expression → List Expression → Expressions
arguments e [] = last e
arguments e (f ∷ es) = further e (arguments f es)

-- an expression, of the clauses
abbrev pub IsExpressionOf : Rule Clause → Rule Expression
IsExpressionOf Inner e ts rest = Inner (expression e) ts rest

-- a result (6.9): an expression or NULL
pub data IsResult (Inner : Clause → List Lexeme → List Lexeme → Type 0) : Expression → List Lexeme → List Lexeme → Type 0 where
  null_result : (t : Lexeme) (rest : List Lexeme) → IsTrue (is_word (codes "NULL") t) → IsResult Inner null (t ∷ rest) rest
  result : (e : Expression) (ts rest : List Lexeme) → Inner (expression e) ts rest → IsResult Inner e ts rest

-- what WHEN and THEN say
pub record Branch : Type 0 where
  pub test : Clause
  pub result : Expression

abbrev pub is_condition : Clause → Bool
is_condition (condition c) = true
is_condition (expression e) = false

-- what stands behind WHEN: a condition where the CASE is searched, else an expression; THEN and a result
pub data IsBranch (Inner : Clause → List Lexeme → List Lexeme → Type 0) (searched : Bool) : Branch → List Lexeme → List Lexeme → Type 0 where
  branch : (c : Clause) (e : Expression) (word : Lexeme) (ts us rest : List Lexeme) → Inner c ts (word ∷ us) → is_condition c ≡ searched → IsTrue (is_word (codes "THEN") word) → IsResult Inner e us rest → IsBranch Inner searched (record { test = c; result = e }) ts rest

abbrev pub is_when : Lexeme → Option (Unit {0})
is_when t = if is_word (codes "WHEN") t then Some tt else None

-- any number of branches, each behind WHEN
abbrev pub AreBranches : Rule Clause → Bool → Rule (List Branch)
AreBranches Inner searched bs ts rest = Series IsNothing (IsOperator is_when) (IsBranch Inner searched) appended bs ts rest

-- ELSE and a result, or nothing, which is ELSE NULL (6.9); and END
pub data IsElse (Inner : Clause → List Lexeme → List Lexeme → Type 0) : Expression → List Lexeme → List Lexeme → Type 0 where
  no_else : (end : Lexeme) (rest : List Lexeme) → IsTrue (is_word (codes "END") end) → IsElse Inner null (end ∷ rest) rest
  else_result : (e : Expression) (word end : Lexeme) (ts rest : List Lexeme) → IsTrue (is_word (codes "ELSE") word) → IsResult Inner e ts (end ∷ rest) → IsTrue (is_word (codes "END") end) → IsElse Inner e (word ∷ ts) rest

-- the branches of a CASE in order
abbrev pub branching : List Branch → Expression → Branching
branching [] other = otherwise other
branching (b ∷ bs) other = when b.test b.result (branching bs other)

-- A primary: a literal (5.3), a column reference (6.4), brackets, a case expression (6.9), EXTRACT (6.6), a set function (6.5). The place
-- of a set function is the number of tokens behind it.
pub data IsPrimary (Inner : Clause → List Lexeme → List Lexeme → Type 0) : Expression → List Lexeme → List Lexeme → Type 0 where
  a_number : (t : Lexeme) (rest : List Lexeme) → IsTrue (is_number t) → IsPrimary Inner (number t.octets) (t ∷ rest) rest
  a_string : (t : Lexeme) (rest : List Lexeme) → IsTrue (is_string t) → IsPrimary Inner (text t.octets) (t ∷ rest) rest
  a_date : (d : Dated) (ts rest : List Lexeme) → IsDate d ts rest → IsPrimary Inner (date d.string d.intervals) ts rest
  a_column : (t : Lexeme) (rest : List Lexeme) → IsTrue (is_name t) → IsPrimary Inner (column None t.octets) (t ∷ rest) rest
  a_qualified_column : (q point t : Lexeme) (rest : List Lexeme) → IsTrue (is_name q) → IsTrue (is_symbol (codes ".") point) → IsTrue (is_name t) → IsPrimary Inner (column (Some q.octets) t.octets) (q ∷ point ∷ t ∷ rest) rest
  brackets : (e : Expression) (opening closing : Lexeme) (ts rest : List Lexeme) → IsTrue (is_symbol (codes "(") opening) → Inner (expression e) ts (closing ∷ rest) → IsTrue (is_symbol (codes ")") closing) → IsPrimary Inner e (opening ∷ ts) rest
  a_searched_case : (b : Branch) (bs : List Branch) (other : Expression) (word : Lexeme) (ts us rest : List Lexeme) → IsTrue (is_word (codes "CASE") word)
      → AreBranches Inner true (b ∷ bs) ts us → IsElse Inner other us rest → IsPrimary Inner (searched_case (branching (b ∷ bs) other)) (word ∷ ts) rest
  a_simple_case : (x : Expression) (b : Branch) (bs : List Branch) (other : Expression) (word : Lexeme) (ts us vs rest : List Lexeme) → IsTrue (is_word (codes "CASE") word)
      → Inner (expression x) ts us → AreBranches Inner false (b ∷ bs) us vs → IsElse Inner other vs rest → IsPrimary Inner (simple_case x (branching (b ∷ bs) other)) (word ∷ ts) rest
  a_call : (f : Function) (e : Expression) (es : List Expression) (word opening closing : Lexeme) (ts us rest : List Lexeme) → function_of word ≡ Some f → IsTrue (is_symbol (codes "(") opening)
      → Inner (expression e) ts us → AreFurther (IsExpressionOf Inner) es us (closing ∷ rest) → IsTrue (is_symbol (codes ")") closing) → IsTrue (takes f (length es)) → IsPrimary Inner (call f (arguments e es)) (word ∷ opening ∷ ts) rest
  an_extract : (field : Field) (e : Expression) (word opening name from closing : Lexeme) (ts rest : List Lexeme) → IsTrue (is_word (codes "EXTRACT") word) → IsTrue (is_symbol (codes "(") opening) → field_of name ≡ Some field
      → IsTrue (is_word (codes "FROM") from) → Inner (expression e) ts (closing ∷ rest) → IsTrue (is_symbol (codes ")") closing) → IsPrimary Inner (extract field e) (word ∷ opening ∷ name ∷ from ∷ ts) rest
  a_row_count : (word opening star closing : Lexeme) (rest : List Lexeme) → IsTrue (is_word (codes "COUNT") word) → IsTrue (is_symbol (codes "(") opening) → IsTrue (is_symbol (codes "*") star)
      → IsTrue (is_symbol (codes ")") closing) → IsPrimary Inner (count_rows (length rest)) (word ∷ opening ∷ star ∷ closing ∷ rest) rest
  a_set_function : (f : SetFunction) (e : Expression) (word opening closing : Lexeme) (ts us rest : List Lexeme) → set_function_of word ≡ Some f → IsTrue (is_symbol (codes "(") opening) → IsOptionalAll ts us
      → Inner (expression e) us (closing ∷ rest) → IsTrue (is_symbol (codes ")") closing) → IsPrimary Inner (set_function (length rest) f e) (word ∷ opening ∷ ts) rest

-- a factor (6.12)
pub data IsFactor (Inner : Clause → List Lexeme → List Lexeme → Type 0) : Expression → List Lexeme → List Lexeme → Type 0 where
  unsigned_factor : (e : Expression) (ts rest : List Lexeme) → IsPrimary Inner e ts rest → IsFactor Inner e ts rest
  signed_factor : (s : Sign) (e : Expression) (t : Lexeme) (ts rest : List Lexeme) → sign_of t ≡ Some s → IsPrimary Inner e ts rest → IsFactor Inner (signed s e) (t ∷ ts) rest

-- a term (6.12): factors, with `*` and `/` between them
abbrev pub IsTerm : Rule Clause → Rule Expression
IsTerm Inner e ts rest = Series (IsFactor Inner) (IsOperator multiplication_of) (IsFactor Inner) arithmetic e ts rest

-- an expression (6.11, 6.12): terms, with `+` and `-` between them
abbrev pub IsValueExpression : Rule Clause → Rule Expression
IsValueExpression Inner e ts rest = Series (IsTerm Inner) (IsOperator addition_of) (IsTerm Inner) arithmetic e ts rest

-- ---- conditions

-- LIKE, with NOT before it or without
abbrev pub likeness : Bool → Comparison
likeness false = Like
likeness true = NotLike

-- a predicate (8.2, 8.3, 8.4, 8.5, 8.6); the pattern of LIKE is a character string, without ESCAPE
pub data IsPredicate (Inner : Clause → List Lexeme → List Lexeme → Type 0) : Condition → List Lexeme → List Lexeme → Type 0 where
  a_comparison : (a b : Expression) (op : Comparison) (t : Lexeme) (ts us rest : List Lexeme) → IsValueExpression Inner a ts (t ∷ us) → comparison_of t ≡ Some op → IsValueExpression Inner b us rest → IsPredicate Inner (comparison op a b) ts rest
  a_between : (x a b : Expression) (negated : Bool) (word conjunction : Lexeme) (ts us vs ws rest : List Lexeme) → IsValueExpression Inner x ts us → IsOptionalNot negated us (word ∷ vs) → IsTrue (is_word (codes "BETWEEN") word)
      → IsValueExpression Inner a vs (conjunction ∷ ws) → IsTrue (is_word (codes "AND") conjunction) → IsValueExpression Inner b ws rest → IsPredicate Inner (between negated x a b) ts rest
  an_in : (x e : Expression) (es : List Expression) (negated : Bool) (word opening closing : Lexeme) (ts us vs ws rest : List Lexeme) → IsValueExpression Inner x ts us → IsOptionalNot negated us (word ∷ opening ∷ vs) → IsTrue (is_word (codes "IN") word)
      → IsTrue (is_symbol (codes "(") opening) → Inner (expression e) vs ws → AreFurther (IsExpressionOf Inner) es ws (closing ∷ rest) → IsTrue (is_symbol (codes ")") closing) → IsPredicate Inner (among negated x (arguments e es)) ts rest
  a_like : (x : Expression) (negated : Bool) (word t : Lexeme) (ts us rest : List Lexeme) → IsValueExpression Inner x ts us → IsOptionalNot negated us (word ∷ t ∷ rest) → IsTrue (is_word (codes "LIKE") word) → IsTrue (is_string t)
      → IsPredicate Inner (comparison (likeness negated) x (text t.octets)) ts rest
  a_value_test : (x : Expression) (p : Predicate) (negated : Bool) (word t : Lexeme) (ts us rest : List Lexeme) → IsValueExpression Inner x ts (word ∷ us) → IsTrue (is_word (codes "IS") word) → IsOptionalNot negated us (t ∷ rest)
      → predicate_of t ≡ Some p → IsPredicate Inner (predicate p negated x) ts rest

-- a boolean primary (8.12): a predicate, or a condition in brackets
pub data IsBooleanPrimary (Inner : Clause → List Lexeme → List Lexeme → Type 0) : Condition → List Lexeme → List Lexeme → Type 0 where
  a_predicate : (c : Condition) (ts rest : List Lexeme) → IsPredicate Inner c ts rest → IsBooleanPrimary Inner c ts rest
  condition_brackets : (c : Condition) (opening closing : Lexeme) (ts rest : List Lexeme) → IsTrue (is_symbol (codes "(") opening) → Inner (condition c) ts (closing ∷ rest) → IsTrue (is_symbol (codes ")") closing) → IsBooleanPrimary Inner (bracketed c) (opening ∷ ts) rest

-- a boolean test (8.12)
pub data IsBooleanTest (Inner : Clause → List Lexeme → List Lexeme → Type 0) : Condition → List Lexeme → List Lexeme → Type 0 where
  no_test : (c : Condition) (ts rest : List Lexeme) → IsBooleanPrimary Inner c ts rest → IsBooleanTest Inner c ts rest
  a_test : (c : Condition) (negated : Bool) (truth : Truth) (word t : Lexeme) (ts us rest : List Lexeme) → IsBooleanPrimary Inner c ts (word ∷ us) → IsTrue (is_word (codes "IS") word) → IsOptionalNot negated us (t ∷ rest) → truth_of t ≡ Some truth
      → IsBooleanTest Inner (is negated c truth) ts rest

-- a boolean factor (8.12)
pub data IsBooleanFactor (Inner : Clause → List Lexeme → List Lexeme → Type 0) : Condition → List Lexeme → List Lexeme → Type 0 where
  no_negation : (c : Condition) (ts rest : List Lexeme) → IsBooleanTest Inner c ts rest → IsBooleanFactor Inner c ts rest
  a_negation : (c : Condition) (word : Lexeme) (ts rest : List Lexeme) → IsTrue (is_word (codes "NOT") word) → IsBooleanTest Inner c ts rest → IsBooleanFactor Inner (negation_of c) (word ∷ ts) rest

abbrev pub is_and : Lexeme → Option (Unit {0})
is_and t = if is_word (codes "AND") t then Some tt else None

abbrev pub is_or : Lexeme → Option (Unit {0})
is_or t = if is_word (codes "OR") t then Some tt else None

-- a boolean term (8.12): boolean factors, with AND between them
abbrev pub IsBooleanTerm : Rule Clause → Rule Condition
IsBooleanTerm Inner c ts rest = Series (IsBooleanFactor Inner) (IsOperator is_and) (IsBooleanFactor Inner) (λ _ a b. both a b) c ts rest

-- a search condition (8.12): boolean terms, with OR between them
abbrev pub IsSearchCondition : Rule Clause → Rule Condition
IsSearchCondition Inner c ts rest = Series (IsBooleanTerm Inner) (IsOperator is_or) (IsBooleanTerm Inner) (λ _ a b. either a b) c ts rest

-- a condition or an expression, over what stands in brackets and in CASE
abbrev pub IsClause : Rule Clause → Rule Clause
IsClause Inner (condition c) ts rest = IsSearchCondition Inner c ts rest
IsClause Inner (expression e) ts rest = IsValueExpression Inner e ts rest

-- a condition or an expression in which fewer than so many brackets and CASEs are open at any token
abbrev pub IsNested : ℕ → Rule Clause
IsNested zero c ts rest = ⊥
IsNested (suc n) c ts rest = IsClause (IsNested n) c ts rest

-- ---- queries

-- a name behind AS or alone, or nothing
pub data IsNaming : Option (List ℕ) → List Lexeme → List Lexeme → Type 0 where
  unnamed : (rest : List Lexeme) → IsNaming None rest rest
  named : (t : Lexeme) (rest : List Lexeme) → IsTrue (is_name t) → IsNaming (Some t.octets) (t ∷ rest) rest
  named_as : (word t : Lexeme) (rest : List Lexeme) → IsTrue (is_word (codes "AS") word) → IsTrue (is_name t) → IsNaming (Some t.octets) (word ∷ t ∷ rest) rest

-- a derived column (7.9)
pub data IsItem (Inner : Clause → List Lexeme → List Lexeme → Type 0) : SelectItem → List Lexeme → List Lexeme → Type 0 where
  item : (e : Expression) (name : Option (List ℕ)) (ts us rest : List Lexeme) → Inner (expression e) ts us → IsNaming name us rest → IsItem Inner (record { value = e; name = name }) ts rest

-- a set quantifier or nothing (6.5, 7.9): whether it is DISTINCT; ALL and nothing are one
pub data IsQuantifier : Bool → List Lexeme → List Lexeme → Type 0 where
  no_quantifier : (rest : List Lexeme) → IsQuantifier false rest rest
  all_rows : (t : Lexeme) (rest : List Lexeme) → IsTrue (is_word (codes "ALL") t) → IsQuantifier false (t ∷ rest) rest
  distinct_rows : (t : Lexeme) (rest : List Lexeme) → IsTrue (is_word (codes "DISTINCT") t) → IsQuantifier true (t ∷ rest) rest

-- a select list (7.9)
pub data IsSelectList (Inner : Clause → List Lexeme → List Lexeme → Type 0) : Selected → List Lexeme → List Lexeme → Type 0 where
  asterisk : (t : Lexeme) (rest : List Lexeme) → IsTrue (is_symbol (codes "*") t) → IsSelectList Inner all_columns (t ∷ rest) rest
  some_items : (i : SelectItem) (is : List SelectItem) (ts us rest : List Lexeme) → IsItem Inner i ts us → AreFurther (IsItem Inner) is us rest → IsSelectList Inner (items (i ∷ is)) ts rest

-- a where clause or nothing (7.6)
pub data IsFilter (Inner : Clause → List Lexeme → List Lexeme → Type 0) : Option Condition → List Lexeme → List Lexeme → Type 0 where
  unfiltered : (rest : List Lexeme) → IsFilter Inner None rest rest
  filtered : (c : Condition) (word : Lexeme) (ts rest : List Lexeme) → IsTrue (is_word (codes "WHERE") word) → Inner (condition c) ts rest → IsFilter Inner (Some c) (word ∷ ts) rest

-- a table reference: the name of a table, and a correlation name or none (6.3)
pub data IsEntry : Entry → List Lexeme → List Lexeme → Type 0 where
  an_entry : (t : Lexeme) (alias : Option (List ℕ)) (us rest : List Lexeme) → IsTrue (is_regular t) → IsNaming alias us rest → IsEntry (record { table = t.octets; alias = alias }) (t ∷ us) rest

-- a join type and JOIN: whether it is outer (7.5). JOIN and INNER JOIN are one, and so are LEFT JOIN and LEFT OUTER JOIN.
pub data IsJoin : Bool → List Lexeme → List Lexeme → Type 0 where
  a_join : (t : Lexeme) (rest : List Lexeme) → IsTrue (is_word (codes "JOIN") t) → IsJoin false (t ∷ rest) rest
  an_inner_join : (word t : Lexeme) (rest : List Lexeme) → IsTrue (is_word (codes "INNER") word) → IsTrue (is_word (codes "JOIN") t) → IsJoin false (word ∷ t ∷ rest) rest
  a_left_join : (word t : Lexeme) (rest : List Lexeme) → IsTrue (is_word (codes "LEFT") word) → IsTrue (is_word (codes "JOIN") t) → IsJoin true (word ∷ t ∷ rest) rest
  a_left_outer_join : (word outer t : Lexeme) (rest : List Lexeme) → IsTrue (is_word (codes "LEFT") word) → IsTrue (is_word (codes "OUTER") outer) → IsTrue (is_word (codes "JOIN") t) → IsJoin true (word ∷ outer ∷ t ∷ rest) rest

-- what stands behind JOIN: a table reference, and ON with a condition (7.5)
pub data IsJoined (Inner : Clause → List Lexeme → List Lexeme → Type 0) : Entry × Condition → List Lexeme → List Lexeme → Type 0 where
  a_joined : (e : Entry) (c : Condition) (word : Lexeme) (ts us rest : List Lexeme) → IsEntry e ts (word ∷ us) → IsTrue (is_word (codes "ON") word) → Inner (condition c) us rest → IsJoined Inner (e, c) ts rest

-- one more join, outer or not, of an entry on a condition
abbrev pub with_join : Bool → List Joined → Entry × Condition → List Joined
with_join outer js j = js ++ record { entry = j.0; outer = outer; on = j.1 } ∷ []

-- any number of joins, each joined to all that stands before it (7.5)
abbrev pub AreJoins : Rule Clause → Rule (List Joined)
AreJoins Inner js ts rest = Series IsNothing IsJoin (IsJoined Inner) with_join js ts rest

-- a table reference, and what is joined to it (7.4, 7.5)
pub data IsSource (Inner : Clause → List Lexeme → List Lexeme → Type 0) : Source → List Lexeme → List Lexeme → Type 0 where
  a_source : (e : Entry) (js : List Joined) (ts us rest : List Lexeme) → IsEntry e ts us → AreJoins Inner js us rest → IsSource Inner (record { first = e; joins = js }) ts rest

-- what stands behind FROM (7.4)
pub data AreSources (Inner : Clause → List Lexeme → List Lexeme → Type 0) : List Source → List Lexeme → List Lexeme → Type 0 where
  some_sources : (s : Source) (others : List Source) (ts us rest : List Lexeme) → IsSource Inner s ts us → AreFurther (IsSource Inner) others us rest → AreSources Inner (s ∷ others) ts rest

-- a column reference (6.4)
pub data IsReference : Reference → List Lexeme → List Lexeme → Type 0 where
  a_bare_reference : (t : Lexeme) (rest : List Lexeme) → IsTrue (is_name t) → IsReference (record { qualifier = None; name = t.octets }) (t ∷ rest) rest
  a_qualified_reference : (q point t : Lexeme) (rest : List Lexeme) → IsTrue (is_name q) → IsTrue (is_symbol (codes ".") point) → IsTrue (is_name t) → IsReference (record { qualifier = Some q.octets; name = t.octets }) (q ∷ point ∷ t ∷ rest) rest

-- a group by clause or nothing (7.7)
pub data IsGrouping : List Reference → List Lexeme → List Lexeme → Type 0 where
  ungrouped : (rest : List Lexeme) → IsGrouping [] rest rest
  grouped : (r : Reference) (others : List Reference) (word by : Lexeme) (ts us rest : List Lexeme) → IsTrue (is_word (codes "GROUP") word) → IsTrue (is_word (codes "BY") by)
      → IsReference r ts us → AreFurther IsReference others us rest → IsGrouping (r ∷ others) (word ∷ by ∷ ts) rest

-- a having clause or nothing (7.8)
pub data IsHaving (Inner : Clause → List Lexeme → List Lexeme → Type 0) : Option Condition → List Lexeme → List Lexeme → Type 0 where
  no_having : (rest : List Lexeme) → IsHaving Inner None rest rest
  a_having : (c : Condition) (word : Lexeme) (ts rest : List Lexeme) → IsTrue (is_word (codes "HAVING") word) → Inner (condition c) ts rest → IsHaving Inner (Some c) (word ∷ ts) rest

-- a sort key (13.1): a column name or an unsigned integer, and no column reference, which may have a qualifier
pub data IsKey : Key → List Lexeme → List Lexeme → Type 0 where
  an_ordinal : (t : Lexeme) (rest : List Lexeme) → IsTrue (is_integer t) → IsKey (ordinal t.octets) (t ∷ rest) rest
  a_key_column : (t : Lexeme) (rest : List Lexeme) → IsTrue (is_name t) → IsKey (result_column t.octets) (t ∷ rest) rest

-- an ordering specification (13.1): whether it is DESC; ASC and nothing are one
pub data IsDirection : Bool → List Lexeme → List Lexeme → Type 0 where
  no_direction : (rest : List Lexeme) → IsDirection false rest rest
  ascending : (t : Lexeme) (rest : List Lexeme) → IsTrue (is_word (codes "ASC") t) → IsDirection false (t ∷ rest) rest
  descending : (t : Lexeme) (rest : List Lexeme) → IsTrue (is_word (codes "DESC") t) → IsDirection true (t ∷ rest) rest

-- a sort specification (13.1)
pub data IsSort : SortSpecification → List Lexeme → List Lexeme → Type 0 where
  a_sort : (key : Key) (is_descending : Bool) (ts us rest : List Lexeme) → IsKey key ts us → IsDirection is_descending us rest → IsSort (record { key = key; is_descending = is_descending }) ts rest

-- an order by clause or nothing (13.1)
pub data IsOrder : List SortSpecification → List Lexeme → List Lexeme → Type 0 where
  unordered : (rest : List Lexeme) → IsOrder [] rest rest
  ordered : (s : SortSpecification) (others : List SortSpecification) (word by : Lexeme) (ts us rest : List Lexeme) → IsTrue (is_word (codes "ORDER") word) → IsTrue (is_word (codes "BY") by)
      → IsSort s ts us → AreFurther IsSort others us rest → IsOrder (s ∷ others) (word ∷ by ∷ ts) rest

-- a query specification (7.9, 7.3, 7.4, 7.7, 7.8), and the order of its rows (13.1)
pub data IsSelect (Inner : Clause → List Lexeme → List Lexeme → Type 0) : Select → List Lexeme → List Lexeme → Type 0 where
  a_select : (distinct : Bool) (selected : Selected) (sources : List Source) (filter : Option Condition) (grouping : List Reference) (having : Option Condition) (order : List SortSpecification) (word from : Lexeme) (ts us vs ws xs ys zs rest : List Lexeme)
      → IsTrue (is_word (codes "SELECT") word) → IsQuantifier distinct ts us → IsSelectList Inner selected us (from ∷ vs) → IsTrue (is_word (codes "FROM") from) → AreSources Inner sources vs ws → IsFilter Inner filter ws xs
      → IsGrouping grouping xs ys → IsHaving Inner having ys zs → IsOrder order zs rest
      → IsSelect Inner (record { distinct = distinct; selected = selected; sources = sources; filter = filter; grouping = grouping; having = having; order = order }) (word ∷ ts) rest

-- The tokens are this query. A statement with more than 32 brackets and CASEs open is refused before, and so none is a query here.
abbrev pub IsSelectOf : List Lexeme → Select → Type 0
IsSelectOf tokens s = IsSelect (IsNested 33) s tokens []
