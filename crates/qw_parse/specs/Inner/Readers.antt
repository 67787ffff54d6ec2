-- Readers of the grammar on lists of tokens, by which its laws are proved; each mirrors the function of src/read of that name, or of
-- nearly that name. A reader answers what it found and the tokens behind that. `inner` reads what stands in brackets and in CASE.
use Rattle.std.specs.Prelude.{ℕ, zero, suc, Bool, true, false, not, if◌then◌else◌, List, [], ◌∷◌, length, Option, Some, None, codes}
use Rattle.std.specs.Option.{option_map_or}
use Rattle.qw_scalar.specs.declared.expression.Function.{Function}
use Rattle.qw_scalar.specs.declared.expression.Operator.{Operator}
use Rattle.qw_scalar.specs.declared.comparison.Comparison.{Comparison}
use Rattle.qw_token.specs.Token.{Lexeme}
use Rattle.qw_ast.specs.declared.script.Sign.{Sign}
use Rattle.qw_ast.specs.declared.script.SetFunction.{SetFunction}
use Rattle.qw_ast.specs.declared.script.SetFunction.TheVariants.{Count, Sum, Avg, Min, Max}
use Rattle.qw_ast.specs.Syntax.{Expression, null, number, text, date, column, signed, arithmetic, extract, searched_case, simple_case, call, count_rows, set_function, Condition, comparison, between, among, predicate, both, either, negation_of, is, bracketed, Clause, condition, expression, Branching, SelectItem, Selected, all_columns, items, Entry, Joined, Source, Reference, Key, ordinal, result_column, SortSpecification, Select}
use Rattle.qw_ast.specs.ScriptGrammar.{is_word, is_symbol, is_number, is_string, is_integer, is_regular, is_name, sign_of, addition_of, multiplication_of, comparison_of, field_of, function_of, predicate_of, takes, set_function_of, truth_of, likeness, appended, is_comma, Dated, moved, arguments, Branch, is_condition, is_when, branching, is_and, is_or, with_join}

abbrev pub Reader : Type 0 → Type 0
Reader A = List Lexeme → Option (A × List Lexeme)

-- the next step, where there is a value
infixl 10 ◌>>=◌
abbrev pub ◌>>=◌ : {A B : Type 0} → Option A → (A → Option B) → Option B
(Some x) >>= f = f x
None >>= f = None

-- what is found in the first token, and the tokens behind it
unfoldable pub token_at : {A : Type 0} → (Lexeme → Option A) → List Lexeme → Option (A × List Lexeme)
token_at find [] = None
token_at find (t ∷ ts) = find t >>= (λ x. Some (x, ts))

-- x, and no token for it
abbrev pub given : {A : Type 0} → A → List Lexeme → Option (A × List Lexeme)
given x ts = Some (x, ts)

-- the tokens behind a first one that passes the test
unfoldable pub one_at : (Lexeme → Bool) → List Lexeme → Option (List Lexeme)
one_at test [] = None
one_at test (t ∷ ts) = if test t then Some ts else None

abbrev pub word_at : List ℕ → List Lexeme → Option (List Lexeme)
word_at word ts = one_at (is_word word) ts

abbrev pub symbol_at : List ℕ → List Lexeme → Option (List Lexeme)
symbol_at octets ts = one_at (is_symbol octets) ts

-- the octets of a first token that passes the test
abbrev pub octets_if : (Lexeme → Bool) → Lexeme → Option (List ℕ)
octets_if test t = if test t then Some t.octets else None

-- ---- loops

-- what follows a step: none, an end, or more
abbrev pub after_step : {P : Type 0} → (P → List Lexeme → Option (P × List Lexeme)) → P → List Lexeme → Option (Option (P × List Lexeme)) → Option (P × List Lexeme)
after_step go p ts None = None
after_step go p ts (Some None) = Some (p, ts)
after_step go p ts (Some (Some x)) = go x.0 x.1

-- fewer than so many steps
unfoldable pub steps_within : {P : Type 0} → ℕ → (P → List Lexeme → Option (Option (P × List Lexeme))) → P → List Lexeme → Option (P × List Lexeme)
steps_within zero step p ts = None
steps_within (suc most) step p ts = after_step (λ q us. steps_within most step q us) p ts (step p ts)

-- an operator and an operand, joined to what stands before them
abbrev pub series_step : {P O B : Type 0} → Reader O → Reader B → (O → P → B → Option P) → P → List Lexeme → Option (Option (P × List Lexeme))
series_step link operand join p ts =
    option_map_or
    (λ o. operand o.1 >>= (λ x. join o.0 p x.0 >>= (λ q. Some (Some (q, x.1)))))
    (link ts)
    (Some None)

-- as many as there are
abbrev pub series_from : {P O B : Type 0} → Reader O → Reader B → (O → P → B → Option P) → P → List Lexeme → Option (P × List Lexeme)
series_from link operand join p ts = steps_within (suc (length ts)) (series_step link operand join) p ts

abbrev pub series_at : {P O B : Type 0} → Reader P → Reader O → Reader B → (O → P → B → Option P) → Reader P
series_at first link operand join ts = first ts >>= (λ x. series_from link operand join x.0 x.1)

-- ---- dates

unfoldable pub precision_at : List Lexeme → Option (List Lexeme)
precision_at ts =
    option_map_or (λ us. one_at is_integer us >>= (λ vs. symbol_at (codes ")") vs)) (symbol_at (codes "(") ts) (Some ts)

unfoldable pub interval_sign_at : Reader Sign
interval_sign_at ts = token_at sign_of ts >>= (λ x. word_at (codes "INTERVAL") x.1 >>= (λ rest. Some (x.0, rest)))

unfoldable pub days_at : Reader (List ℕ)
days_at ts =
    token_at (octets_if is_string) ts >>= (λ x. word_at (codes "DAY") x.1 >>= (λ us. precision_at us >>= (λ rest. Some (x.0, rest))))

unfoldable pub date_string_at : Reader Dated
date_string_at ts =
    word_at (codes "DATE") ts >>= (λ us. token_at (octets_if is_string) us >>= (λ x. Some (record { string = x.0; intervals = [] }, x.1)))

abbrev pub move : Sign → Dated → List ℕ → Option Dated
move s d octets = Some (moved s d octets)

unfoldable pub date_at : Reader Dated
date_at ts = series_at date_string_at interval_sign_at days_at move ts

-- ---- lists

abbrev pub append : {O A : Type 0} → O → List A → A → Option (List A)
append o xs a = Some (appended o xs a)

unfoldable pub further_at : {A : Type 0} → Reader A → Reader (List A)
further_at item ts = series_at (given []) (token_at is_comma) item append ts

-- the tokens behind ALL, or all of them
unfoldable pub behind_all : List Lexeme → List Lexeme
behind_all ts = option_map_or (λ rest. rest) (word_at (codes "ALL") ts) ts

-- NOT or nothing
unfoldable pub not_at : List Lexeme → Bool × List Lexeme
not_at ts = option_map_or (λ rest. (true, rest)) (word_at (codes "NOT") ts) (false, ts)

-- ---- expressions

abbrev pub the_expression : Clause → Option Expression
the_expression (condition c) = None
the_expression (expression e) = Some e

abbrev pub the_condition : Clause → Option Condition
the_condition (condition c) = Some c
the_condition (expression e) = None

unfoldable pub expression_at : Reader Clause → Reader Expression
expression_at inner ts = inner ts >>= (λ x. the_expression x.0 >>= (λ e. Some (e, x.1)))

-- an expression, and the symbol behind it
unfoldable pub before_at : Reader Clause → List ℕ → Reader Expression
before_at inner symbol ts = expression_at inner ts >>= (λ e. symbol_at symbol e.1 >>= (λ rest. Some (e.0, rest)))

-- expressions with commas between them, in brackets: the first and the others
unfoldable pub listing_at : Reader Clause → Reader (Expression × List Expression)
listing_at inner ts =
    symbol_at (codes "(") ts >>= (λ us. expression_at inner us >>= (λ e. further_at (expression_at inner) e.1 >>= (λ es. symbol_at (codes ")") es.1 >>= (λ rest. Some ((e.0, es.0), rest)))))

unfoldable pub condition_at : Reader Clause → Reader Condition
condition_at inner ts = inner ts >>= (λ x. the_condition x.0 >>= (λ c. Some (c, x.1)))

unfoldable pub result_at : Reader Clause → Reader Expression
result_at inner ts = option_map_or (λ rest. Some (null, rest)) (word_at (codes "NULL") ts) (expression_at inner ts)

abbrev pub same : Bool → Bool → Bool
same true b = b
same false b = not b

unfoldable pub branch_at : Reader Clause → Bool → Reader Branch
branch_at inner searched ts =
    inner ts >>= (λ c. if same (is_condition c.0) searched then word_at (codes "THEN") c.1 >>= (λ us. result_at inner us >>= (λ r. Some (record { test = c.0; result = r.0 }, r.1))) else None)

unfoldable pub branches_at : Reader Clause → Bool → Reader (List Branch)
branches_at inner searched ts = series_at (given []) (token_at is_when) (branch_at inner searched) append ts

unfoldable pub else_at : Reader Clause → Reader Expression
else_at inner ts =
    option_map_or (λ us. result_at inner us >>= (λ r. word_at (codes "END") r.1 >>= (λ rest. Some (r.0, rest))))
    (word_at (codes "ELSE") ts)
    (word_at (codes "END") ts >>= (λ rest. Some (null, rest)))

-- what stands between CASE and WHEN
unfoldable pub case_operand_at : Reader Clause → Reader (Option Expression)
case_operand_at inner ts =
    option_map_or (λ _. Some (None, ts)) (word_at (codes "WHEN") ts) (expression_at inner ts >>= (λ x. Some (Some x.0, x.1)))

abbrev pub case_of : Option Expression → Branching → Expression
case_of None branches = searched_case branches
case_of (Some x) branches = simple_case x branches

abbrev pub is_absent : {A : Type 0} → Option A → Bool
is_absent None = true
is_absent (Some x) = false

-- the branches, if there are any, and the result of ELSE
abbrev pub chain_of : List Branch → Expression → Option Branching
chain_of [] other = None
chain_of (b ∷ bs) other = Some (branching (b ∷ bs) other)

-- what stands behind the operand of CASE
unfoldable pub chain_at : Reader Clause → Bool → Reader Branching
chain_at inner searched ts =
    branches_at inner searched ts >>= (λ bs. else_at inner bs.1 >>= (λ other. chain_of bs.0 other.0 >>= (λ chain. Some (chain, other.1))))

-- what stands behind CASE
unfoldable pub case_at : Reader Clause → Reader Expression
case_at inner ts =
    case_operand_at inner ts >>= (λ x. chain_at inner (is_absent x.0) x.1 >>= (λ chain. Some (case_of x.0 chain.0, chain.1)))

-- a function of as many arguments as it takes
abbrev pub call_of : Function → Expression → List Expression → Option Expression
call_of f e es = if takes f (length es) then Some (call f (arguments e es)) else None

-- what stands behind the word of a function
unfoldable pub call_at : Reader Clause → Function → Reader Expression
call_at inner f ts = listing_at inner ts >>= (λ l. call_of f l.0.0 l.0.1 >>= (λ c. Some (c, l.1)))

unfoldable pub extract_at : Reader Clause → Reader Expression
extract_at inner ts =
    symbol_at (codes "(") ts >>= (λ us. token_at field_of us >>= (λ field. word_at (codes "FROM") field.1 >>= (λ vs. before_at inner (codes ")") vs >>= (λ e. Some (extract field.0 e.0, e.1)))))

-- the argument of a set function, and `)`
unfoldable pub argument_at : Reader Clause → SetFunction → Reader Expression
argument_at inner f ts =
    before_at inner (codes ")") (behind_all ts) >>= (λ e. Some (set_function (length e.1) f e.0, e.1))

-- what stands behind `*` of a set function, which is COUNT
unfoldable pub rows_at : SetFunction → Reader Expression
rows_at Count ts = symbol_at (codes ")") ts >>= (λ rest. Some (count_rows (length rest), rest))
rows_at Sum ts = None
rows_at Avg ts = None
rows_at Min ts = None
rows_at Max ts = None

-- what stands behind the word of a set function
unfoldable pub set_function_at : Reader Clause → SetFunction → Reader Expression
set_function_at inner f ts =
    symbol_at (codes "(") ts >>= (λ us. option_map_or (λ vs. rows_at f vs) (symbol_at (codes "*") us) (argument_at inner f us))

-- what brackets round a clause say
abbrev pub in_brackets : Clause → Clause
in_brackets (condition c) = condition (bracketed c)
in_brackets (expression e) = expression e

-- what stands behind `(`
unfoldable pub brackets_at : Reader Clause → Reader Clause
brackets_at inner ts = inner ts >>= (λ c. symbol_at (codes ")") c.1 >>= (λ rest. Some (in_brackets c.0, rest)))

unfoldable pub column_at : Reader Expression
column_at ts =
    token_at (octets_if is_name) ts >>= (λ q. option_map_or (λ us. token_at (octets_if is_name) us >>= (λ t. Some (column (Some q.0) t.0, t.1))) (symbol_at (codes ".") q.1) (Some (column None q.0, q.1)))

-- an expression as a clause
unfoldable pub as_clause : Option (Expression × List Lexeme) → Option (Clause × List Lexeme)
as_clause None = None
as_clause (Some x) = Some (expression x.0, x.1)

-- what the first token of a primary says
abbrev pub primary_of : Reader Clause → Lexeme → List Lexeme → Option (Clause × List Lexeme)
primary_of inner t ts =
    if is_number t then Some (expression (number t.octets), ts)
    else (if is_string t then Some (expression (text t.octets), ts)
    else (if is_symbol (codes "(") t then brackets_at inner ts
    else (if is_word (codes "CASE") t then as_clause (case_at inner ts)
    else option_map_or (λ f. as_clause (call_at inner f ts)) (function_of t)
    (if is_word (codes "EXTRACT") t then as_clause (extract_at inner ts)
    else option_map_or (λ f. as_clause (set_function_at inner f ts)) (set_function_of t)
    (if is_word (codes "DATE") t then as_clause (date_at (t ∷ ts) >>= (λ d. Some (date d.0.string d.0.intervals, d.1)))
    else as_clause (column_at (t ∷ ts)))))))

unfoldable pub primary_at : Reader Clause → Reader Clause
primary_at inner [] = None
primary_at inner (t ∷ ts) = primary_of inner t ts

-- a set function, a date or a column reference, told by which token is next
unfoldable pub other_at : Reader Clause → Reader Clause
other_at inner ts =
    option_map_or (λ f. as_clause (set_function_at inner f.0 f.1)) (token_at set_function_of ts)
    (option_map_or (λ _. as_clause (date_at ts >>= (λ d. Some (date d.0.string d.0.intervals, d.1)))) (word_at (codes "DATE") ts)
    (as_clause (column_at ts)))

-- a primary, told by which token is next
unfoldable pub keyed_at : Reader Clause → Reader Clause
keyed_at inner ts =
    option_map_or (λ us. as_clause (case_at inner us)) (word_at (codes "CASE") ts)
    (option_map_or (λ f. as_clause (call_at inner f.0 f.1)) (token_at function_of ts)
    (option_map_or (λ us. as_clause (extract_at inner us)) (word_at (codes "EXTRACT") ts)
    (other_at inner ts)))

unfoldable pub primary_by : Reader Clause → Reader Clause
primary_by inner ts =
    option_map_or (λ x. Some (expression (number x.0), x.1)) (token_at (octets_if is_number) ts)
    (option_map_or (λ x. Some (expression (text x.0), x.1)) (token_at (octets_if is_string) ts)
    (option_map_or (λ us. brackets_at inner us) (symbol_at (codes "(") ts) (keyed_at inner ts)))

unfoldable pub factor_at : Reader Clause → Reader Clause
factor_at inner ts =
    option_map_or (λ s. primary_at inner s.1 >>= (λ c. the_expression c.0 >>= (λ e. Some (expression (signed s.0 e), c.1)))) (token_at sign_of ts) (primary_at inner ts)

abbrev pub join_arithmetic : Operator → Clause → Clause → Option Clause
join_arithmetic o (expression a) (expression b) = Some (expression (arithmetic o a b))
join_arithmetic o (expression a) (condition d) = None
join_arithmetic o (condition c) b = None

unfoldable pub term_at : Reader Clause → Reader Clause
term_at inner ts = series_at (factor_at inner) (token_at multiplication_of) (factor_at inner) join_arithmetic ts

unfoldable pub sum_at : Reader Clause → Reader Clause
sum_at inner ts = series_at (term_at inner) (token_at addition_of) (term_at inner) join_arithmetic ts

-- ---- conditions

-- the rest of a predicate behind its first expression: BETWEEN
unfoldable pub between_at : Reader Clause → Bool → Expression → Reader Condition
between_at inner negated x ts =
    expression_at (sum_at inner) ts >>= (λ a. word_at (codes "AND") a.1 >>= (λ us. expression_at (sum_at inner) us >>= (λ b. Some (between negated x a.0 b.0, b.1))))

unfoldable pub in_at : Reader Clause → Bool → Expression → Reader Condition
in_at inner negated x ts = listing_at inner ts >>= (λ l. Some (among negated x (arguments l.0.0 l.0.1), l.1))

unfoldable pub compare_at : Reader Clause → Comparison → Expression → Reader Condition
compare_at inner op x ts = expression_at (sum_at inner) ts >>= (λ b. Some (comparison op x b.0, b.1))

unfoldable pub like_at : Bool → Expression → Reader Condition
like_at negated x ts = token_at (octets_if is_string) ts >>= (λ p. Some (comparison (likeness negated) x (text p.0), p.1))

-- what stands behind IS of a predicate of one value
unfoldable pub value_test_at : Expression → Reader Condition
value_test_at x ts = token_at predicate_of (not_at ts).1 >>= (λ p. Some (predicate p.0 (not_at ts).0 x, p.1))

-- a condition as a clause
unfoldable pub condition_clause : Option (Condition × List Lexeme) → Option (Clause × List Lexeme)
condition_clause None = None
condition_clause (Some x) = Some (condition x.0, x.1)

-- behind the first expression of a predicate, and NOT or nothing
unfoldable pub ranged_at : Reader Clause → Bool → Expression → List Lexeme → Option (Option (Condition × List Lexeme))
ranged_at inner negated x ts =
    option_map_or (λ us. Some (between_at inner negated x us)) (word_at (codes "BETWEEN") ts)
    (option_map_or (λ us. Some (in_at inner negated x us)) (word_at (codes "IN") ts)
    (option_map_or (λ us. Some (like_at negated x us)) (word_at (codes "LIKE") ts) None))

-- a predicate that begins with the expression, or the expression alone
unfoldable pub tail_at : Reader Clause → Expression → Reader Clause
tail_at inner x ts =
    option_map_or (λ op. condition_clause (compare_at inner op.0 x op.1)) (token_at comparison_of ts)
    (option_map_or (λ us. condition_clause (value_test_at x us)) (word_at (codes "IS") ts)
    (option_map_or (λ read. condition_clause read) (ranged_at inner (not_at ts).0 x (not_at ts).1) (if (not_at ts).0 then None else Some (expression x, ts))))

unfoldable pub predicate_at : Reader Clause → Reader Clause
predicate_at inner ts = sum_at inner ts >>= (λ c. option_map_or (λ x. tail_at inner x c.1) (the_expression c.0) (Some c))

-- IS and a truth value behind a condition, or nothing
unfoldable pub truth_test_at : Condition → Reader Condition
truth_test_at c ts =
    option_map_or (λ us. token_at truth_of (not_at us).1 >>= (λ v. Some (is (not_at us).0 c v.0, v.1))) (word_at (codes "IS") ts) (Some (c, ts))

unfoldable pub test_at : Reader Clause → Reader Clause
test_at inner ts = predicate_at inner ts >>= (λ c. option_map_or (λ d. condition_clause (truth_test_at d c.1)) (the_condition c.0) (Some c))

unfoldable pub boolean_factor_at : Reader Clause → Reader Clause
boolean_factor_at inner ts =
    option_map_or (λ us. condition_at (test_at inner) us >>= (λ c. Some (condition (negation_of c.0), c.1))) (word_at (codes "NOT") ts) (test_at inner ts)

abbrev pub join_and : Unit {0} → Clause → Clause → Option Clause
join_and o (condition a) (condition b) = Some (condition (both a b))
join_and o (condition a) (expression e) = None
join_and o (expression e) b = None

abbrev pub join_or : Unit {0} → Clause → Clause → Option Clause
join_or o (condition a) (condition b) = Some (condition (either a b))
join_or o (condition a) (expression e) = None
join_or o (expression e) b = None

unfoldable pub boolean_term_at : Reader Clause → Reader Clause
boolean_term_at inner ts = series_at (boolean_factor_at inner) (token_at is_and) (boolean_factor_at inner) join_and ts

unfoldable pub clause_at : Reader Clause → Reader Clause
clause_at inner ts = series_at (boolean_term_at inner) (token_at is_or) (boolean_term_at inner) join_or ts

-- over fewer than so many brackets and CASEs
unfoldable pub nested_at : ℕ → Reader Clause
nested_at zero ts = None
nested_at (suc n) ts = clause_at (nested_at n) ts

-- ---- queries

-- a name behind AS or alone, or nothing
unfoldable pub naming_at : Reader (Option (List ℕ))
naming_at ts =
    option_map_or (λ us. token_at (octets_if is_name) us >>= (λ t. Some (Some t.0, t.1))) (word_at (codes "AS") ts)
    (option_map_or (λ t. Some (Some t.0, t.1)) (token_at (octets_if is_name) ts) (Some (None, ts)))

unfoldable pub item_at : Reader Clause → Reader SelectItem
item_at inner ts = expression_at inner ts >>= (λ e. naming_at e.1 >>= (λ n. Some (record { value = e.0; name = n.0 }, n.1)))

-- whether DISTINCT stands there, and the tokens behind it, behind ALL, or all of them
unfoldable pub quantifier_at : List Lexeme → Bool × List Lexeme
quantifier_at ts = option_map_or (λ rest. (true, rest)) (word_at (codes "DISTINCT") ts) (option_map_or (λ rest. (false, rest)) (word_at (codes "ALL") ts) (false, ts))

unfoldable pub select_list_at : Reader Clause → Reader Selected
select_list_at inner ts =
    option_map_or (λ rest. Some (all_columns, rest)) (symbol_at (codes "*") ts)
    (item_at inner ts >>= (λ i. further_at (item_at inner) i.1 >>= (λ others. Some (items (i.0 ∷ others.0), others.1))))

unfoldable pub filter_at : Reader Clause → Reader (Option Condition)
filter_at inner ts = option_map_or (λ us. condition_at inner us >>= (λ c. Some (Some c.0, c.1))) (word_at (codes "WHERE") ts) (Some (None, ts))

unfoldable pub entry_at : Reader Entry
entry_at ts = token_at (octets_if is_regular) ts >>= (λ t. naming_at t.1 >>= (λ alias. Some (record { table = t.0; alias = alias.0 }, alias.1)))

-- the tokens behind JOIN, which may stand behind INNER
unfoldable pub inner_join_at : List Lexeme → Option (List Lexeme)
inner_join_at ts = option_map_or (λ rest. Some rest) (word_at (codes "JOIN") ts) (word_at (codes "INNER") ts >>= (λ us. word_at (codes "JOIN") us))

-- the tokens behind LEFT JOIN or LEFT OUTER JOIN
unfoldable pub left_join_at : List Lexeme → Option (List Lexeme)
left_join_at ts =
    word_at (codes "LEFT") ts >>= (λ us. option_map_or (λ rest. Some rest) (word_at (codes "JOIN") us) (word_at (codes "OUTER") us >>= (λ vs. word_at (codes "JOIN") vs)))

-- JOIN with its type: whether it is outer
unfoldable pub join_at : Reader Bool
join_at ts = option_map_or (λ rest. Some (false, rest)) (inner_join_at ts) (left_join_at ts >>= (λ rest. Some (true, rest)))

-- what stands behind JOIN
unfoldable pub joined_at : Reader Clause → Reader (Entry × Condition)
joined_at inner ts = entry_at ts >>= (λ e. word_at (codes "ON") e.1 >>= (λ us. condition_at inner us >>= (λ c. Some ((e.0, c.0), c.1))))

abbrev pub join_on : Bool → List Joined → Entry × Condition → Option (List Joined)
join_on outer js x = Some (with_join outer js x)

unfoldable pub joins_at : Reader Clause → Reader (List Joined)
joins_at inner ts = series_at (given []) join_at (joined_at inner) join_on ts

unfoldable pub source_at : Reader Clause → Reader Source
source_at inner ts = entry_at ts >>= (λ e. joins_at inner e.1 >>= (λ js. Some (record { first = e.0; joins = js.0 }, js.1)))

-- what stands behind FROM
unfoldable pub sources_at : Reader Clause → Reader (List Source)
sources_at inner ts = source_at inner ts >>= (λ s. further_at (source_at inner) s.1 >>= (λ others. Some (s.0 ∷ others.0, others.1)))

unfoldable pub reference_at : Reader Reference
reference_at ts =
    token_at (octets_if is_name) ts >>= (λ q. option_map_or (λ us. token_at (octets_if is_name) us >>= (λ t. Some (record { qualifier = Some q.0; name = t.0 }, t.1))) (symbol_at (codes ".") q.1) (Some (record { qualifier = None; name = q.0 }, q.1)))

unfoldable pub grouping_at : Reader (List Reference)
grouping_at ts =
    option_map_or (λ us. word_at (codes "BY") us >>= (λ vs. reference_at vs >>= (λ r. further_at reference_at r.1 >>= (λ others. Some (r.0 ∷ others.0, others.1)))))
    (word_at (codes "GROUP") ts)
    (Some ([], ts))

unfoldable pub having_at : Reader Clause → Reader (Option Condition)
having_at inner ts = option_map_or (λ us. condition_at inner us >>= (λ c. Some (Some c.0, c.1))) (word_at (codes "HAVING") ts) (Some (None, ts))

unfoldable pub key_at : Reader Key
key_at ts =
    option_map_or (λ t. Some (ordinal t.0, t.1)) (token_at (octets_if is_integer) ts)
    (token_at (octets_if is_name) ts >>= (λ t. Some (result_column t.0, t.1)))

-- whether DESC stands there, and the tokens behind it, behind ASC, or all of them
unfoldable pub direction_at : List Lexeme → Bool × List Lexeme
direction_at ts = option_map_or (λ rest. (true, rest)) (word_at (codes "DESC") ts) (option_map_or (λ rest. (false, rest)) (word_at (codes "ASC") ts) (false, ts))

unfoldable pub sort_at : Reader SortSpecification
sort_at ts = key_at ts >>= (λ k. Some (record { key = k.0; is_descending = (direction_at k.1).0 }, (direction_at k.1).1))

unfoldable pub order_at : Reader (List SortSpecification)
order_at ts =
    option_map_or (λ us. word_at (codes "BY") us >>= (λ vs. sort_at vs >>= (λ s. further_at sort_at s.1 >>= (λ others. Some (s.0 ∷ others.0, others.1)))))
    (word_at (codes "ORDER") ts)
    (Some ([], ts))

unfoldable pub select_at : Reader Clause → Reader Select
select_at inner ts =
    word_at (codes "SELECT") ts >>= (λ us. select_list_at inner (quantifier_at us).1 >>= (λ l. word_at (codes "FROM") l.1 >>= (λ vs. sources_at inner vs >>= (λ ss. filter_at inner ss.1 >>= (λ f. grouping_at f.1 >>= (λ g. having_at inner g.1 >>= (λ h. order_at h.1 >>= (λ o.
    Some (record { distinct = (quantifier_at us).0; selected = l.0; sources = ss.0; filter = f.0; grouping = g.0; having = h.0; order = o.0 }, o.1)))))))))

-- the query that all tokens are
abbrev pub whole : Option (Select × List Lexeme) → Option Select
whole None = None
whole (Some (s, [])) = Some s
whole (Some (s, t ∷ ts)) = None

unfoldable pub select_of : List Lexeme → Option Select
select_of ts = whole (select_at (nested_at 33) ts)
