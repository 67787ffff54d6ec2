-- Mirrors the functions of src/expression.rt, leaf.rt, set_function.rt and statement.rt: operands from left to right, and the first fault that is met.
use Rattle.std.specs.Prelude.{◌≡◌, ◌≤◌, ℕ, Bool, true, List, [], ◌∷◌, ◌++◌, length, map, take, drop, Option, Some, None, Result, Ok, Err, MatchResult, ◌&&◌, if◌then◌else◌, codes, option_map, unwrap_or}
use Rattle.qw_types.specs.declared.kind.Kind.{Kind}
use Rattle.qw_types.specs.declared.kind.Kind.TheVariants as kind
use Rattle.qw_scalar.specs.declared.comparison.Comparison.TheVariants.{Equal}
use Rattle.qw_scalar.specs.declared.expression.Function.TheVariants.{Coalesce, NullIf}
use Rattle.qw_scalar.specs.Expression as meaning
use Rattle.qw_scalar.specs.Tree as tree
use Rattle.qw_scalar.specs.Typing.{are_comparable, kind_of}
use Rattle.qw_scalar.specs.declared.comparison.Comparison.{Comparison}
use Rattle.qw_scalar.specs.declared.expression.Operator.{Operator}
use Rattle.qw_scalar.specs.declared.expression.Field.{Field}
use Rattle.qw_scalar.specs.declared.expression.Cond.{Cond}
use Rattle.qw_scalar.specs.declared.expression.Exprs.{Exprs}
use Rattle.qw_scalar.specs.declared.expression.Branches.{Branches}
use Rattle.qw_scalar.specs.declared.expression.Matches.{Matches}
use Rattle.qw_typer.specs.declared.tree.Results.{Results}
use Rattle.qw_typer.specs.declared.tree.Values.{Values}
use Rattle.qw_meaning.specs.Select as specified
use Rattle.qw_meaning.specs.Select.{Specification}
use Rattle.qw_ast.specs.declared.script.SetFunction.{SetFunction}
use Rattle.qw_ast.specs.declared.script.Sign.{Sign}
use Rattle.qw_ast.specs.Grammar.{name_of}
use Rattle.qw_ast.specs.Limits.{entries_in}
use Rattle.qw_ast.specs.Syntax.{Expression, null, number, text, date, column, signed, arithmetic, extract, searched_case, simple_case, call, count_rows, set_function, Condition, comparison, between, among, predicate, both, either, negation_of, is, bracketed, condition, expression, Expressions, last, further, Branching, otherwise, when, SelectItem, Selected, all_columns, items, Joined, Source, Select}
use Rattle.qw_typer.specs.declared.refusal.Token.{Token}
use Rattle.qw_typer.specs.declared.refusal.Token.TheVariants.{Name, Literal, Function}
use Rattle.qw_typer.specs.declared.refusal.Refusal.{Refusal}
use Rattle.qw_typer.specs.declared.refusal.Refusal.TheVariants as refusal
use Rattle.qw_typer.specs.declared.scope.Entry.{Entry as CodeEntry}
use Rattle.qw_typer.specs.declared.scope.Found.{Found}
use Rattle.qw_typer.specs.declared.scope.FunctionColumn.{FunctionColumn as CodeFunction}
use Rattle.qw_typer.specs.declared.scope.Grouping.{Grouping as CodeGrouping}
use Rattle.qw_typer.specs.declared.scope.Place.{Place}
use Rattle.qw_typer.specs.declared.scope.Scope.{Scope as CodeScope}
use Rattle.qw_typer.specs.declared.scope.Found.TheVariants as found
use Rattle.qw_typer.specs.declared.tree.Typed.{Typed}
use Rattle.qw_typer.specs.Faults.{Fault, among_faults, arithmetic_faults, branch_faults, case_faults, comparison_faults, faults, field_faults, function_word, argument_faults, group_faults, nested_faults, reference_faults, first_of_all, first_of_branches, first_token, is_allowed, item_faults, misplaced, results_agree, results_kind, sign_faults}
use Rattle.qw_typer.specs.Grouping.{starred_faults}
use Rattle.qw_typer.specs.Meant.{Entry, FunctionColumn, Grouping, Scope, first_of, function_meant, in_group, meant, referred, ungrouped, with_not, with_sign}
use Rattle.qw_typer.specs.Typed.{columns_meant, entry_meant, items_meant}

-- the entries of FROM that the code keeps
abbrev pub as_entry : CodeEntry → Entry
as_entry e = record { name = e.name; number = e.number; table = e.table; columns = e.columns.now }

abbrev pub as_entries : List CodeEntry → List Entry
as_entries entries = map as_entry entries

-- and the grouped table
abbrev pub as_function : CodeFunction → FunctionColumn
as_function f = record { place = f.place; ty = f.ty }

abbrev pub as_grouping : CodeGrouping → Grouping
as_grouping g = record { columns = g.columns.now; functions = map as_function g.functions.now }

-- what names are resolved against
abbrev pub in_reach : CodeScope → Scope
in_reach scope = record { entries = as_entries scope.entries.now; grouping = option_map as_grouping scope.grouping }

-- what was found of the columns that a reference may mean
abbrev pub IsFound : Found → List meaning.Expression → Type 0
IsFound found.Nothing es = es ≡ []
IsFound (found.One p) es = es ≡ meaning.column p.place p.ty ∷ []
IsFound found.Several es = 2 ≤ length es

-- what a token is in a fault
abbrev pub spelled : Token → List ℕ
spelled (Name octets) = name_of octets.now
spelled (Literal octets) = octets.now
spelled (Function f) = function_word f

-- the refusal is this fault, or want of memory
unfoldable pub Refuses : {A : Type 0} → Refusal → Result A Fault → Type 0
Refuses refusal.NoMemory r = Unit {0}
Refuses (refusal.Fault kind token) r = r ≡ Err (record { kind = kind; name = spelled token })

-- going on with what has no fault
infixl 10 ◌>>=◌
abbrev pub ◌>>=◌ : {A B : Type 0} → Result A Fault → (A → Result B Fault) → Result B Fault
(Ok x) >>= f = f x
(Err fault) >>= f = Err fault

-- the first fault, or what has none
abbrev pub outcome : {A : Type 0} → List Fault → A → Result A Fault
outcome [] a = Ok a
outcome (f ∷ fs) a = Err f

-- the scale of a kind, 0 where it is no number
abbrev pub kind_scale : Option Kind → ℕ
kind_scale None = 0
kind_scale (Some (kind.Number s)) = s
kind_scale (Some kind.Date) = 0
kind_scale (Some kind.Text) = 0

-- an expression's scale is that of its kind
abbrev pub IsScaled : meaning.Expression → Type 0
IsScaled e = meaning.scale_of e ≡ kind_scale (kind_of e)

-- the kind that stands beside a tree is its own
pub record IsTold (t : Typed) : Type 0 where
  pub kind : t.kind ≡ kind_of (tree.expression_of t.tree)
  pub scaled : IsScaled (tree.expression_of t.tree)

-- so is that of each result
abbrev pub AreScaled : meaning.Choices → Type 0
AreScaled (meaning.otherwise e) = IsScaled e
AreScaled (meaning.when c e rest) = IsScaled e × AreScaled rest

-- whether each compares with an operand of this kind
abbrev pub all_comparable : Option Kind → meaning.Expressions → Bool
all_comparable kind (meaning.last v) = are_comparable kind (kind_of v)
all_comparable kind (meaning.more v vs) = are_comparable kind (kind_of v) && all_comparable kind vs

-- the results that stand beside the branches of a CASE are theirs
pub record AreTold (kind' : Option Kind) (agree' : Bool) (cs : meaning.Choices) : Type 0 where
  pub kind : kind' ≡ results_kind cs
  pub agree : agree' ≡ results_agree cs
  pub scaled : AreScaled cs

-- A call gives the expression, with its kind, or refuses what has a fault.
abbrev pub Gives : Result Typed Refusal → Result meaning.Expression Fault → Type 0
Gives result r = MatchResult result (λ t. (r ≡ Ok (tree.expression_of t.tree)) × IsTold t) (λ refusal. Refuses refusal r)

abbrev pub GivesCondition : Result Cond Refusal → Result meaning.Condition Fault → Type 0
GivesCondition result r = MatchResult result (λ c. r ≡ Ok (tree.condition_of c)) (λ refusal. Refuses refusal r)

-- the scale of what an operator gives, where it isn't too large
abbrev pub allowed_scale : Operator → ℕ → ℕ → Option ℕ
allowed_scale operator s t = if is_allowed operator s t then Some (meaning.scale_after operator s t) else None

abbrev pub GivesArguments : Result (Results Exprs) Refusal → Result meaning.Expressions Fault → Type 0
GivesArguments result r = MatchResult result (λ t. (r ≡ Ok (tree.expressions_of t.tree)) × AreTold t.kind t.agree (meaning.coalesced (tree.expressions_of t.tree))) (λ refusal. Refuses refusal r)

-- a call gives the column's number and its type, or refuses
abbrev pub GivesPlace : Result Place Refusal → Result meaning.Expression Fault → Type 0
GivesPlace result r = MatchResult result (λ p. r ≡ Ok (meaning.column p.place p.ty)) (λ refusal. Refuses refusal r)

-- a call gives the values, and whether they compare with an operand of this kind
abbrev pub GivesValues : Option Kind → Result Values Refusal → Result meaning.Expressions Fault → Type 0
GivesValues kind result r = MatchResult result (λ v. (r ≡ Ok (tree.expressions_of v.tree)) × (v.comparable ≡ all_comparable kind (tree.expressions_of v.tree))) (λ refusal. Refuses refusal r)

abbrev pub GivesChoices : Result (Results Branches) Refusal → Result meaning.Choices Fault → Type 0
GivesChoices result r = MatchResult result (λ t. (r ≡ Ok (tree.choices_of t.tree)) × AreTold t.kind t.agree (tree.choices_of t.tree)) (λ refusal. Refuses refusal r)

abbrev pub GivesMatches : meaning.Expression → Result (Results Matches) Refusal → Result meaning.Choices Fault → Type 0
GivesMatches x result r = MatchResult result (λ t. (r ≡ Ok (tree.matches_of t.tree x)) × AreTold t.kind t.agree (tree.matches_of t.tree x)) (λ refusal. Refuses refusal r)

-- a call gives what the operand is compared with
abbrev pub GivesComparison : meaning.Expression → Result Typed Refusal → Result meaning.Condition Fault → Type 0
GivesComparison x result r = MatchResult result (λ t. r ≡ Ok (meaning.comparison Equal x (tree.expression_of t.tree))) (λ refusal. Refuses refusal r)

-- what is left of checking a construct whose operands have no fault
abbrev pub sign_outcome : List ℕ → Sign → meaning.Expression → Result meaning.Expression Fault
sign_outcome token sign x = outcome (sign_faults token x) (with_sign sign x)

abbrev pub arithmetic_outcome : List ℕ → Operator → meaning.Expression → meaning.Expression → Result meaning.Expression Fault
arithmetic_outcome token operator x y = outcome (arithmetic_faults token operator x y) (meaning.arithmetic operator x y)

abbrev pub field_outcome : List ℕ → Field → meaning.Expression → Result meaning.Expression Fault
field_outcome token field x = outcome (field_faults token x) (meaning.extract field x)

abbrev pub reference_outcome : List Entry → Option (List ℕ) → List ℕ → Result meaning.Expression Fault
reference_outcome entries qualifier name = outcome (reference_faults entries qualifier name) (first_of (referred entries (option_map name_of qualifier) (name_of name)))

-- a column of FROM, over the grouped table where there is one
abbrev pub group_outcome : Option Grouping → List ℕ → meaning.Expression → Result meaning.Expression Fault
group_outcome grouping name x = outcome (group_faults grouping name x) (unwrap_or (in_group grouping x) meaning.null)

abbrev pub nested_outcome : Option Grouping → List ℕ → Result Bool Fault
nested_outcome grouping word = outcome (nested_faults grouping word) true

-- of a set function of this argument, which is a column of the grouped table
abbrev pub argument_outcome : List ℕ → SetFunction → meaning.Expression → meaning.Expression → Result meaning.Expression Fault
argument_outcome token f x column' = outcome (argument_faults token f x) column'

abbrev pub case_outcome : List ℕ → meaning.Choices → Result meaning.Expression Fault
case_outcome token cs = outcome (case_faults token cs) (meaning.case cs)

abbrev pub comparison_outcome : List ℕ → Comparison → meaning.Expression → meaning.Expression → Result meaning.Condition Fault
comparison_outcome token op x y = outcome (comparison_faults token x y) (meaning.comparison op x y)

abbrev pub between_outcome : List ℕ → Bool → meaning.Expression → meaning.Expression → meaning.Expression → Result meaning.Condition Fault
between_outcome token negated x a b = outcome (comparison_faults token x a ++ comparison_faults token x b) (with_not negated (meaning.between x a b))

abbrev pub among_outcome : List ℕ → Bool → meaning.Expression → meaning.Expressions → Result meaning.Condition Fault
among_outcome token negated x vs = outcome (among_faults token x vs) (with_not negated (meaning.among x vs))

abbrev pub unless_outcome : List ℕ → meaning.Expression → meaning.Expressions → Result meaning.Expression Fault
unless_outcome token x vs = outcome (among_faults token x vs) (meaning.unless_among (meaning.more x vs))

abbrev mutual
  pub typed : Scope → Expression → Result meaning.Expression Fault
  typed scope null = Ok meaning.null
  typed scope (number octets) = outcome (faults scope (number octets)) (meant scope (number octets))
  typed scope (text octets) = Ok (meant scope (text octets))
  typed scope (date string intervals) = outcome (faults scope (date string intervals)) (meant scope (date string intervals))
  typed scope (column qualifier name) = do
    x ← reference_outcome scope.entries qualifier name
    group_outcome scope.grouping (name_of name) x
  typed scope (signed sign a) = do
    x ← typed scope a
    sign_outcome (first_token a) sign x
  typed scope (arithmetic operator a b) = do
    x ← typed scope a
    y ← typed scope b
    arithmetic_outcome (first_token a) operator x y
  typed scope (extract field a) = do
    x ← typed scope a
    field_outcome (first_token a) field x
  typed scope (searched_case branches) = do
    cs ← typed_choices scope branches
    case_outcome (first_of_branches branches) cs
  typed scope (simple_case x branches) = do
    y ← typed scope x
    cs ← outcome (branch_faults (first_token x) branches) y >>= (λ z. typed_matches scope (first_token x) z branches)
    case_outcome (first_token x) cs
  typed scope (call Coalesce es) = do
    ms ← typed_all scope es
    case_outcome (first_of_all es) (meaning.coalesced ms)
  typed scope (call NullIf es) = typed_unless scope es
  typed scope (count_rows place) = nested_outcome scope.grouping (codes "COUNT") >>= (λ b. Ok (function_meant scope.grouping place))
  typed scope (set_function place f a) = do
    b ← nested_outcome scope.grouping (function_word f)
    x ← typed (ungrouped scope.entries) a
    argument_outcome (first_token a) f x (function_meant scope.grouping place)

  pub typed_unless : Scope → Expressions → Result meaning.Expression Fault
  typed_unless scope (last e) = do
    x ← typed scope e
    Ok (meaning.unless_among (meaning.last x))
  typed_unless scope (further e es) = do
    x ← typed scope e
    vs ← typed_all scope es
    unless_outcome (first_token e) x vs

  pub typed_condition : Scope → Condition → Result meaning.Condition Fault
  typed_condition scope (comparison op a b) = do
    x ← typed scope a
    y ← typed scope b
    comparison_outcome (first_token a) op x y
  typed_condition scope (between negated x a b) = do
    y ← typed scope x
    least ← typed scope a
    greatest ← typed scope b
    between_outcome (first_token x) negated y least greatest
  typed_condition scope (among negated x es) = do
    y ← typed scope x
    vs ← typed_all scope es
    among_outcome (first_token x) negated y vs
  typed_condition scope (predicate p negated a) = do
    x ← typed scope a
    Ok (with_not negated (meaning.predicate p x))
  typed_condition scope (both c d) = do
    x ← typed_condition scope c
    y ← typed_condition scope d
    Ok (meaning.both x y)
  typed_condition scope (either c d) = do
    x ← typed_condition scope c
    y ← typed_condition scope d
    Ok (meaning.either x y)
  typed_condition scope (negation_of c) = do
    x ← typed_condition scope c
    Ok (meaning.negation_of x)
  typed_condition scope (is negated c t) = do
    x ← typed_condition scope c
    Ok (with_not negated (meaning.is x t))
  typed_condition scope (bracketed c) = typed_condition scope c

  pub typed_all : Scope → Expressions → Result meaning.Expressions Fault
  typed_all scope (last e) = do
    x ← typed scope e
    Ok (meaning.last x)
  typed_all scope (further e es) = do
    x ← typed scope e
    xs ← typed_all scope es
    Ok (meaning.more x xs)

  pub typed_choices : Scope → Branching → Result meaning.Choices Fault
  typed_choices scope (otherwise e) = do
    x ← typed scope e
    Ok (meaning.otherwise x)
  typed_choices scope (when (condition c) e rest) = do
    d ← typed_condition scope c
    x ← typed scope e
    others ← typed_choices scope rest
    Ok (meaning.when d x others)
  typed_choices scope (when (expression v) e rest) = outcome (misplaced (first_token v)) (meaning.otherwise meaning.null)

  pub typed_matches : Scope → List ℕ → meaning.Expression → Branching → Result meaning.Choices Fault
  typed_matches scope token x (otherwise e) = do
    y ← typed scope e
    Ok (meaning.otherwise y)
  typed_matches scope token x (when (condition c) e rest) = outcome (misplaced token) (meaning.otherwise meaning.null)
  typed_matches scope token x (when (expression v) e rest) = do
    w ← typed scope v
    compared ← comparison_outcome token Equal x w
    y ← typed scope e
    others ← typed_matches scope token x rest
    Ok (meaning.when compared y others)

-- the branches of a CASE with an operand, at least one with WHEN
abbrev pub typed_branches : Scope → List ℕ → meaning.Expression → Branching → Result meaning.Choices Fault
typed_branches scope token x branches = outcome (branch_faults token branches) x >>= (λ z. typed_matches scope token z branches)

-- ---- statements

-- the operands of the outermost AND chain
abbrev pub typed_conjuncts : Scope → Condition → Result (List meaning.Condition) Fault
typed_conjuncts scope (both c d) = do
  xs ← typed_conjuncts scope c
  y ← typed_condition scope d
  Ok (xs ++ y ∷ [])
typed_conjuncts scope (comparison op a b) = typed_condition scope (comparison op a b) >>= (λ x. Ok (x ∷ []))
typed_conjuncts scope (between negated x a b) = typed_condition scope (between negated x a b) >>= (λ y. Ok (y ∷ []))
typed_conjuncts scope (among negated x es) = typed_condition scope (among negated x es) >>= (λ y. Ok (y ∷ []))
typed_conjuncts scope (predicate p negated a) = typed_condition scope (predicate p negated a) >>= (λ x. Ok (x ∷ []))
typed_conjuncts scope (either c d) = typed_condition scope (either c d) >>= (λ x. Ok (x ∷ []))
typed_conjuncts scope (negation_of c) = typed_condition scope (negation_of c) >>= (λ x. Ok (x ∷ []))
typed_conjuncts scope (is negated c t) = typed_condition scope (is negated c t) >>= (λ x. Ok (x ∷ []))
typed_conjuncts scope (bracketed c) = typed_condition scope (bracketed c) >>= (λ x. Ok (x ∷ []))

abbrev pub typed_filter : Scope → Option Condition → Result (List meaning.Condition) Fault
typed_filter scope None = Ok []
typed_filter scope (Some c) = typed_conjuncts scope c

-- an item, which has a kind
abbrev pub typed_item : Scope → Expression → Result meaning.Expression Fault
typed_item scope e = do
  x ← typed scope e
  outcome (item_faults (first_token e) x) x

abbrev pub typed_items : Scope → List SelectItem → Result (List meaning.Expression) Fault
typed_items scope [] = Ok []
typed_items scope (i ∷ others) = do
  x ← typed_item scope i.value
  xs ← typed_items scope others
  Ok (x ∷ xs)

abbrev pub typed_list : Scope → Selected → Result (List meaning.Expression) Fault
typed_list scope all_columns = outcome (starred_faults scope.grouping (columns_meant scope.entries)) (items_meant scope all_columns)
typed_list scope (items list) = typed_items scope list

-- JOIN over what its ON reaches, and its own entry
abbrev pub typed_joined : (reach : List Entry) → Entry → Joined → Result specified.Joined Fault
typed_joined reach e j = do
  cs ← typed_conjuncts (ungrouped reach) j.on
  Ok (record { entry = entry_meant e; outer = j.outer; on = cs })

-- what is joined to the entries `reached`; `behind` are the entries behind them
abbrev pub typed_joins : (reached behind : List Entry) → List Joined → Result (List specified.Joined) Fault
typed_joins reached behind [] = Ok []
typed_joins reached [] (j ∷ joins) = Ok []
typed_joins reached (e ∷ behind) (j ∷ joins) = do
  joined ← typed_joined (reached ++ e ∷ []) e j
  others ← typed_joins (reached ++ e ∷ []) behind joins
  Ok (joined ∷ others)

-- a source over its own entries
abbrev pub typed_source : List Entry → Source → Result specified.Source Fault
typed_source [] source = Ok (record { first = record { table = 0; columns = [] }; joins = [] })
typed_source (e ∷ behind) source = do
  joins ← typed_joins (e ∷ []) behind source.joins
  Ok (record { first = entry_meant e; joins = joins })

-- sources over the entries from the first one's on
abbrev pub typed_sources : List Entry → List Source → Result (List specified.Source) Fault
typed_sources entries [] = Ok []
typed_sources entries (source ∷ sources) = do
  s ← typed_source (take (length (entries_in source)) entries) source
  others ← typed_sources (drop (length (entries_in source)) entries) sources
  Ok (s ∷ others)

-- a query over the entries of its FROM
abbrev pub typed_over : Scope → Select → Result Specification Fault
typed_over scope s = do
  is' ← typed_list scope s.selected
  sources ← typed_sources scope.entries s.sources
  cs ← typed_filter scope s.filter
  Ok (record { sources = sources; conjuncts = cs; items = is' })
