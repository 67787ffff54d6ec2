-- Flows and outcomes, step by step.
use Rattle.std.proofs.Common.{◌≡◌, ◌≢◌, ◌∙◌, ◌+◌, ◌<◌, ℕ, zero, suc, List, [], ◌∷◌, ◌++◌, map, length, drop, get_or, Result, Ok, Err, refl, sym, ap, ap₂}
use Rattle.std.specs.List.{flat_map}
use Rattle.std.proofs.lemmas.List.{append_assoc, drop_more}
use Rattle.qw_types.specs.Arithmetic.{◌>>=◌}
use Rattle.qw_types.specs.declared.code.Code.{Code}
use Rattle.qw_types.specs.declared.value.Val.{Val}
use Rattle.qw_meaning.specs.Flow.{Flow, codes_given, rows_given}
use Rattle.qw_meaning.specs.Outcome.{Outcome, Raises, Rows, ended}
use Rattle.qw_grouped.specs.Grouped.{Grouped, kinds_of}
use Rattle.qw_grouped.specs.Groups.{Group, function_values, group_row, grouped_table, keys, members, values_at}
use Rattle.qw_grouped.specs.Query.{function_of}
use Rattle.qw_grouped.specs.SetFunctions.{set_function_value}
use Rattle.qw_grouped.specs.declared.set_function.SetFunction as coded_function
use Rattle.qw_grouped.specs.declared.set_function.SetFunctionKind.{SetFunctionKind}
use Rattle.qw_grouped.proofs.Lists.{flat_map_map}
use Rattle.qw_plain_grouped.specs.Inner.Outcomes.{outcome_behind}

pub append_nothing : {A : Type 0} (xs : List A) → xs ++ [] ≡ xs
append_nothing [] = refl
append_nothing (x ∷ xs) = ap (λ rest. x ∷ rest) (append_nothing xs)

abbrev made : List (List Val) → List Code → Flow (List Val)
made rows codes = record { rows = rows; codes = codes }

-- ---- groups

pub one_table : (functions : List SetFunctionKind) (rows table : List (List Val)) (codes : List Code)
    → table ≡ rows_given (group_row 0 functions (record { key = []; rows = rows })) → codes ≡ codes_given (group_row 0 functions (record { key = []; rows = rows }))
    → ◌≡◌ {A = Flow (List Val)} (record { rows = table; codes = codes }) (grouped_table 0 functions (record { rows = rows; codes = [] }))
one_table functions rows table codes h g =
    ap₂ (λ (r : List (List Val)) (c : List Code). record { rows = r; codes = c })
    (h ∙ sym (append_nothing (rows_given (group_row 0 functions (record { key = []; rows = rows })))))
    (g ∙ sym (append_nothing (codes_given (group_row 0 functions (record { key = []; rows = rows })))))

pub table_of_keys : (columns : ℕ) (functions : List SetFunctionKind) (rows found table : List (List Val)) (codes : List Code) → columns ≢ 0 → found ≡ keys columns rows
    → table ≡ flat_map (λ key. rows_given (group_row columns functions (record { key = key; rows = members columns key rows }))) found
    → codes ≡ flat_map (λ key. codes_given (group_row columns functions (record { key = key; rows = members columns key rows }))) found
    → ◌≡◌ {A = Flow (List Val)} (record { rows = table; codes = codes }) (grouped_table columns functions (record { rows = rows; codes = [] }))
table_of_keys zero functions rows found table codes some is h g = absurd (some refl)
table_of_keys (suc columns) functions rows found table codes some is h g =
    let group : List Val → Group = λ key. record { key = key; rows = members (suc columns) key rows } in
    ap₂ (λ (r : List (List Val)) (c : List Code). record { rows = r; codes = c })
    (h ∙ ap (flat_map (λ key. rows_given (group_row (suc columns) functions (group key)))) is
    ∙ sym (flat_map_map (λ g. rows_given (group_row (suc columns) functions g)) group (keys (suc columns) rows)))
    (g ∙ ap (flat_map (λ key. codes_given (group_row (suc columns) functions (group key)))) is
    ∙ sym (flat_map_map (λ g. codes_given (group_row (suc columns) functions g)) group (keys (suc columns) rows)))

-- the set functions so far, and then those that are left
abbrev pub later : (place : ℕ) → List coded_function.SetFunction → List (List Val) → List Val → Result (List Val) Code
later place functions rows values = function_values place (kinds_of (map function_of functions)) rows >>= (λ rest. Ok (values ++ rest))

left : (functions : List coded_function.SetFunction) (i : ℕ) (f : coded_function.SetFunction) → i < length functions → f ≡ get_or functions i f → drop i functions ≡ f ∷ drop (i + 1) functions
left functions i f lt is = drop_more functions i f lt ∙ ap (λ x. x ∷ drop (i + 1) functions) (sym is)

shifted : (values rest : List Val) (v : Val) → values ++ v ∷ rest ≡ (values ++ v ∷ []) ++ rest
shifted values rest v = sym (append_assoc values (v ∷ []) rest)

pub value_more : (functions : List coded_function.SetFunction) (i place : ℕ) (f : coded_function.SetFunction) (rows : List (List Val)) (values : List Val) (v : Val) → i < length functions → f ≡ get_or functions i f
    → ◌≡◌ {A = Result Val Code} (Ok v) (set_function_value f.kind (values_at place rows)) → later place (drop i functions) rows values ≡ later (place + 1) (drop (i + 1) functions) rows (values ++ v ∷ [])
value_more functions i place f rows values v lt is found =
    ap (λ fs. later place fs rows values) (left functions i f lt is)
    ∙ ap (λ r. (r >>= (λ value. function_values (place + 1) (kinds_of (map function_of (drop (i + 1) functions))) rows >>= (λ vs. Ok (value ∷ vs)))) >>= (λ rest. Ok (values ++ rest))) (sym found)
    ∙ by_rest (function_values (place + 1) (kinds_of (map function_of (drop (i + 1) functions))) rows)
  where
    by_rest : (r : Result (List Val) Code) → ((r >>= (λ vs. Ok (v ∷ vs))) >>= (λ rest. Ok (values ++ rest))) ≡ (r >>= (λ rest. Ok ((values ++ v ∷ []) ++ rest)))
    by_rest (Ok vs) = ap Ok (shifted values vs v)
    by_rest (Err code) = refl

-- ---- outcomes

abbrev rows_in : Outcome → List (List Val)
rows_in (Rows rows) = rows
rows_in (Raises codes) = []

-- where an exception came before GROUP BY, it is the outcome
pub raised_before : (query : Grouped) (rows : List (List Val)) (before codes : List Code) → ended rows before ≡ Raises codes → outcome_behind query (record { rows = rows; codes = before }) ≡ Raises codes
raised_before query rows [] codes h = absurd cc
raised_before query rows (c ∷ before) codes h =
    ap (λ cs. Raises cs) (append_nothing (((c ∷ before) ++ []) ++ []) ∙ append_nothing ((c ∷ before) ++ []) ∙ append_nothing (c ∷ before)) ∙ h

-- where none did, the rows are what reaches it
pub rows_before : (rows found : List (List Val)) (before : List Code) → ended rows before ≡ Rows found → ◌≡◌ {A = Flow (List Val)} (record { rows = rows; codes = before }) (record { rows = found; codes = [] })
rows_before rows found [] h = ap (λ (r : List (List Val)). made r []) (rows_are h)
  where
    rows_are : Rows rows ≡ Rows found → rows ≡ found
    rows_are e = ap rows_in e
rows_before rows found (c ∷ before) h = absurd cc
