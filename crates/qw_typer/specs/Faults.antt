-- The faults of a query's expressions and conditions (ISO/IEC 9075:1992, 4.1, 5.3, 6.4 to 6.6, 6.9, 6.11, 6.12, 7.9, 8.2, 9.3). Each fault is one of
-- one construct, and names a token of it. A construct whose operands have faults has none of its own.
use Rattle.std.specs.Prelude.{ℕ, ◌+◌, nat_le, Bool, true, false, not, ◌&&◌, List, [], ◌∷◌, ◌++◌, Option, Some, None, is_none, codes}
use Rattle.std.specs.List.{list_any}
use Rattle.std.specs.Option.{option_map}
use Rattle.std.specs.Str.{bytes_eq}
use Rattle.qw_types.specs.declared.kind.Kind.{Kind}
use Rattle.qw_scalar.specs.declared.expression.Operator.{Operator}
use Rattle.qw_scalar.specs.declared.expression.Operator.TheVariants.{Add, Subtract, Multiply, Divide}
use Rattle.qw_scalar.specs.declared.expression.Function.{Function}
use Rattle.qw_scalar.specs.declared.expression.Function.TheVariants.{Coalesce, NullIf}
use Rattle.qw_scalar.specs.Expression as meaning
use Rattle.qw_scalar.specs.Typing.{agree, are_comparable, has_kind, is_date, is_number, joined, kind_of}
use Rattle.qw_ast.specs.declared.script.SetFunction.{SetFunction}
use Rattle.qw_ast.specs.declared.script.SetFunction.TheVariants.{Count, Sum, Avg, Min, Max}
use Rattle.qw_ast.specs.Grammar.{name_of}
use Rattle.qw_ast.specs.Syntax.{Expression, null, number, text, date, column, signed, arithmetic, extract, searched_case, simple_case, call, count_rows, set_function, Condition, comparison, between, among, predicate, both, either, negation_of, is, bracketed, condition, expression, Expressions, last, further, Branching, otherwise, when}
use Rattle.qw_ast.specs.Walk.{Walk, walked, condition_walked, all_walked, branches_walked}
use Rattle.qw_typer.specs.declared.fault.FaultKind.{FaultKind}
use Rattle.qw_typer.specs.declared.fault.FaultKind.TheVariants.{Ambiguous, UnknownTable, UnknownColumn, Clash, ScaleTooLarge, LiteralTooLong, BadDate, NotGrouped, NestedAggregate}
use Rattle.qw_typer.specs.Literal.{date_of, number_of}
use Rattle.qw_typer.specs.Meant.{Entry, Grouping, Scope, all_meant, choices, first_of, in_group, matches, meant, referred, ungrouped}

-- a fault, and the token that it names: of a name as it is kept, of a literal as it is written
pub record Fault : Type 0 where
  pub kind : FaultKind
  pub name : List ℕ

-- the fault, where there is one
abbrev pub fault_where : Bool → FaultKind → List ℕ → List Fault
fault_where true kind name = record { kind = kind; name = name } ∷ []
fault_where false kind name = []

-- the faults of operands; without one those of the construct itself
abbrev pub or_own : List Fault → List Fault → List Fault
or_own [] own = own
or_own (f ∷ fs) own = f ∷ fs

-- the word of a set function (6.5)
abbrev pub function_word : SetFunction → List ℕ
function_word Count = codes "COUNT"
function_word Sum = codes "SUM"
function_word Avg = codes "AVG"
function_word Min = codes "MIN"
function_word Max = codes "MAX"

-- the first literal of an expression, or the name of its first column or the word of its first set function where that comes before; NULL
-- alone has none
abbrev pub leaf_token : Expression → List ℕ
leaf_token (number octets) = octets
leaf_token (text octets) = octets
leaf_token (date string intervals) = string
leaf_token (column qualifier name) = name_of name
leaf_token (count_rows place) = codes "COUNT"
leaf_token e = []

abbrev pub finding_token : Walk (List ℕ)
finding_token = record { leaf = leaf_token; join = λ t others. t; made = λ t. t; function = λ place f a t. function_word f }

abbrev pub first_token : Expression → List ℕ
first_token e = walked finding_token e

abbrev pub first_of_condition : Condition → List ℕ
first_of_condition c = condition_walked finding_token c

abbrev pub first_of_all : Expressions → List ℕ
first_of_all es = all_walked finding_token es

abbrev pub first_of_branches : Branching → List ℕ
first_of_branches branches = branches_walked finding_token branches

-- ---- the faults of one construct, its operands having none

-- whether a qualifier, where there is one, is the name of an entry in reach (6.4)
abbrev pub is_known : List Entry → Option (List ℕ) → Bool
is_known entries None = true
is_known entries (Some qualifier) = list_any (λ (e : Entry). bytes_eq qualifier e.name) entries

abbrev pub qualifier_of : Option (List ℕ) → List ℕ
qualifier_of None = []
qualifier_of (Some qualifier) = name_of qualifier

-- a name means one of what may have it; that none or several have it is a fault (6.4 of a column reference)
abbrev pub counted_faults : {A : Type 0} → List ℕ → List A → List Fault
counted_faults name [] = record { kind = UnknownColumn; name = name } ∷ []
counted_faults name (e ∷ []) = []
counted_faults name (e ∷ f ∷ es) = record { kind = Ambiguous; name = name } ∷ []

-- a qualifier that names no entry in reach; a name that no entry, or more than one, has (6.4)
abbrev pub reference_faults : List Entry → Option (List ℕ) → List ℕ → List Fault
reference_faults entries qualifier name =
    or_own (fault_where (not (is_known entries (option_map name_of qualifier))) UnknownTable (qualifier_of qualifier)) (counted_faults (name_of name) (referred entries (option_map name_of qualifier) (name_of name)))

-- a column of FROM that isn't grouped, over a grouped table (7.9)
abbrev pub group_faults : Option Grouping → List ℕ → meaning.Expression → List Fault
group_faults grouping name e = fault_where (is_none (in_group grouping e)) NotGrouped name

abbrev pub column_faults : Scope → Option (List ℕ) → List ℕ → List Fault
column_faults scope qualifier name =
    or_own (reference_faults scope.entries qualifier name) (group_faults scope.grouping (name_of name) (first_of (referred scope.entries (option_map name_of qualifier) (name_of name))))

-- an operand of an arithmetic operator that is no number (6.12)
abbrev pub sign_faults : List ℕ → meaning.Expression → List Fault
sign_faults token x = fault_where (not (is_number (kind_of x))) Clash token

-- no result's scale is above 18 (6.12, which leaves the greatest scale to the implementation)
abbrev pub is_allowed : Operator → ℕ → ℕ → Bool
is_allowed Add s t = true
is_allowed Subtract s t = true
is_allowed Multiply s t = nat_le (s + t) 18
is_allowed Divide s t = nat_le (s + t) 18

abbrev pub arithmetic_faults : List ℕ → Operator → meaning.Expression → meaning.Expression → List Fault
arithmetic_faults token operator x y =
    or_own (fault_where (not (is_number (kind_of x) && is_number (kind_of y))) Clash token) (fault_where (not (is_allowed operator (meaning.scale_of x) (meaning.scale_of y))) ScaleTooLarge token)

-- a field of what is no date (6.6)
abbrev pub field_faults : List ℕ → meaning.Expression → List Fault
field_faults token x = fault_where (not (is_date (kind_of x))) Clash token

-- a set function where there is no grouped table: in ON, in WHERE, or in the argument of another (6.5, 7.6)
abbrev pub nested_faults : Option Grouping → List ℕ → List Fault
nested_faults grouping word = fault_where (is_none grouping) NestedAggregate word

-- SUM and AVG take numbers, and no set function takes what has no kind (6.5)
abbrev pub takes : SetFunction → Option Kind → Bool
takes Count k = has_kind k
takes Sum k = is_number k
takes Avg k = is_number k
takes Min k = has_kind k
takes Max k = has_kind k

-- an average has four digits more behind the point than its argument, and so at most 18 (6.5, which leaves that to the implementation)
abbrev pub has_scale : SetFunction → ℕ → Bool
has_scale Count s = true
has_scale Sum s = true
has_scale Avg s = nat_le s 14
has_scale Min s = true
has_scale Max s = true

abbrev pub argument_faults : List ℕ → SetFunction → meaning.Expression → List Fault
argument_faults token f x = or_own (fault_where (not (takes f (kind_of x))) Clash token) (fault_where (not (has_scale f (meaning.scale_of x))) ScaleTooLarge token)

-- operands of kinds that don't compare (8.2)
abbrev pub comparison_faults : List ℕ → meaning.Expression → meaning.Expression → List Fault
comparison_faults token x y = fault_where (not (are_comparable (kind_of x) (kind_of y))) Clash token

abbrev pub among_faults : List ℕ → meaning.Expression → meaning.Expressions → List Fault
among_faults token x (meaning.last v) = comparison_faults token x v
among_faults token x (meaning.more v vs) = comparison_faults token x v ++ among_faults token x vs

-- the kind of the results of a CASE together, and whether they are of one (6.9, 9.3)
abbrev pub results_kind : meaning.Choices → Option Kind
results_kind (meaning.otherwise e) = kind_of e
results_kind (meaning.when c e rest) = joined (kind_of e) (results_kind rest)

abbrev pub results_agree : meaning.Choices → Bool
results_agree (meaning.otherwise e) = true
results_agree (meaning.when c e rest) = agree (kind_of e) (results_kind rest) && results_agree rest

-- results of two kinds, or no result but NULL
abbrev pub case_faults : List ℕ → meaning.Choices → List Fault
case_faults token results = fault_where (not (results_agree results && has_kind (results_kind results))) Clash token

-- of the arguments of a function: COALESCE is a CASE of them, NULLIF compares the first with each of the others (6.9)
abbrev pub call_faults : List ℕ → Function → meaning.Expressions → List Fault
call_faults token Coalesce es = case_faults token (meaning.coalesced es)
call_faults token NullIf (meaning.last e) = []
call_faults token NullIf (meaning.more e es) = among_faults token e es

-- what has no kind can't be an item of a select list
abbrev pub item_faults : List ℕ → meaning.Expression → List Fault
item_faults token x = fault_where (not (has_kind (kind_of x))) Clash token

-- a WHEN that has an expression where a condition belongs, or the reverse, or a CASE with an operand and without a WHEN; no text has one
abbrev pub misplaced : List ℕ → List Fault
misplaced token = record { kind = Clash; name = token } ∷ []

abbrev pub branch_faults : List ℕ → Branching → List Fault
branch_faults token (otherwise e) = misplaced token
branch_faults token (when c e rest) = []

-- ---- the faults of all constructs

abbrev mutual
  pub faults : Scope → Expression → List Fault
  faults scope null = []
  faults scope (number octets) = fault_where (is_none (number_of octets)) LiteralTooLong octets
  faults scope (text octets) = []
  faults scope (date string intervals) = fault_where (is_none (date_of string intervals)) BadDate string
  faults scope (column qualifier name) = column_faults scope qualifier name
  faults scope (signed sign a) = or_own (faults scope a) (sign_faults (first_token a) (meant scope a))
  faults scope (arithmetic operator a b) = or_own (faults scope a ++ faults scope b) (arithmetic_faults (first_token a) operator (meant scope a) (meant scope b))
  faults scope (extract field a) = or_own (faults scope a) (field_faults (first_token a) (meant scope a))
  faults scope (searched_case branches) = or_own (choices_faults scope branches) (case_faults (first_of_branches branches) (choices scope branches))
  faults scope (simple_case x branches) =
      or_own (faults scope x) (or_own (branch_faults (first_token x) branches ++ matches_faults scope (first_token x) (meant scope x) branches) (case_faults (first_token x) (matches scope (meant scope x) branches)))
  faults scope (call function es) = or_own (all_faults scope es) (call_faults (first_of_all es) function (all_meant scope es))
  faults scope (count_rows place) = nested_faults scope.grouping (codes "COUNT")
  faults scope (set_function place f a) =
      or_own (nested_faults scope.grouping (function_word f)) (or_own (faults (ungrouped scope.entries) a) (argument_faults (first_token a) f (meant (ungrouped scope.entries) a)))

  pub condition_faults : Scope → Condition → List Fault
  condition_faults scope (comparison op a b) = or_own (faults scope a ++ faults scope b) (comparison_faults (first_token a) (meant scope a) (meant scope b))
  condition_faults scope (between negated x a b) =
      or_own (faults scope x ++ (faults scope a ++ faults scope b)) (comparison_faults (first_token x) (meant scope x) (meant scope a) ++ comparison_faults (first_token x) (meant scope x) (meant scope b))
  condition_faults scope (among negated x es) = or_own (faults scope x ++ all_faults scope es) (among_faults (first_token x) (meant scope x) (all_meant scope es))
  condition_faults scope (predicate p negated a) = faults scope a
  condition_faults scope (both c d) = condition_faults scope c ++ condition_faults scope d
  condition_faults scope (either c d) = condition_faults scope c ++ condition_faults scope d
  condition_faults scope (negation_of c) = condition_faults scope c
  condition_faults scope (is negated c t) = condition_faults scope c
  condition_faults scope (bracketed c) = condition_faults scope c

  pub all_faults : Scope → Expressions → List Fault
  all_faults scope (last e) = faults scope e
  all_faults scope (further e es) = faults scope e ++ all_faults scope es

  pub choices_faults : Scope → Branching → List Fault
  choices_faults scope (otherwise e) = faults scope e
  choices_faults scope (when (condition c) e rest) = condition_faults scope c ++ (faults scope e ++ choices_faults scope rest)
  choices_faults scope (when (expression v) e rest) = misplaced (first_token v)

  -- each value compares with the operand
  pub matches_faults : Scope → List ℕ → meaning.Expression → Branching → List Fault
  matches_faults scope token x (otherwise e) = faults scope e
  matches_faults scope token x (when (condition c) e rest) = misplaced token
  matches_faults scope token x (when (expression v) e rest) =
      or_own (faults scope v) (comparison_faults token x (meant scope v)) ++ (faults scope e ++ matches_faults scope token x rest)
