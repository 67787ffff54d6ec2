-- A grouped query over the entries of its FROM: checking clause by clause gives what is meant where there is no fault, and the first fault else. And
-- what isn't grouped has none of its own.
use Rattle.std.proofs.Common.{◌≡◌, ◌==◌, ◌&&◌, Bool, true, false, not, List, [], ◌∷◌, ◌++◌, map, length, Option, Some, None, is_none, option_map, Result, Ok, refl, ap, ◌∙◌, arith}
use Rattle.std.specs.Prelude.{if◌then◌else◌}
use Rattle.std.specs.Option.{option_map_or}
use Rattle.std.proofs.lemmas.Bool.Decides.{nat_tests}
use Rattle.std.proofs.lemmas.Bool.{and_parts}
use Rattle.std.proofs.lemmas.Bool.Decides.{nat_tests}
use Rattle.qw_types.specs.declared.schema.Table.{Table}
use Rattle.qw_scalar.specs.Expression as meaning
use Rattle.qw_meaning.specs.Select as specified
use Rattle.qw_grouped.specs.Grouped as group
use Rattle.qw_grouped.specs.Whole.{Whole, grouped, plain}
use Rattle.qw_grouped.specs.declared.query.GroupedColumn.{GroupedColumn}
use Rattle.qw_ast.specs.Grammar.{name_of}
use Rattle.qw_ast.specs.Syntax.{Condition, column, Reference, Select}
use Rattle.qw_typer.specs.Faults.{Fault, argument_faults, condition_faults, faults, first_token, or_own, reference_faults}
use Rattle.qw_typer.specs.Functions.{Written, counted, applied, functions_in}
use Rattle.qw_typer.specs.Grouping.{as_grouped, columns_faults, columns_grouped, function_column, function_faults, function_of, functions_faults, grouping_faults, grouping_of, is_grouped, kind_of_function, many_faults}
use Rattle.qw_typer.specs.Keys.{keys_faults}
use Rattle.qw_typer.specs.Meant.{Entry, Grouping, Scope, condition_meant, first_of, meant, referred, ungrouped}
use Rattle.qw_typer.specs.Typed.{conjuncts, conjuncts_having, entries_named, filter_faults, grouped_meant, having_faults, items_meant, order_faults, over_faults, result_names, scope_of, scope_over, selected_faults, sources_faults, sources_meant, specification_meant, whole_meant}
use Rattle.qw_typer.specs.Inner.Grouping.{Behind, Functions, Groups, column_for, over_group, typed_behind, typed_column, typed_columns, typed_function, typed_functions, typed_groups}
use Rattle.qw_typer.specs.Inner.Typing.{◌>>=◌, outcome}
use Rattle.qw_typer.proofs.FaultLemmas.{filter_is, list_is, one, plain_faults, plain_two, sources_is, typed_is}

-- ---- what isn't grouped

false_not : (b : Bool) → not b ≡ false → b ≡ true
false_not true h = refl
false_not false h = absurd cc

no_length : {A : Type 0} (xs : List A) → (length xs == 0) ≡ true → xs ≡ []
no_length [] h = refl
no_length (x ∷ xs) h = let none : length (x ∷ xs) ≡ 0 = grind (arith, nat_tests) in absurd (omega (arith, none))

no_value : {A : Type 0} (o : Option A) → is_none o ≡ true → o ≡ None
no_value None h = refl
no_value (Some x) h = absurd cc

pub not_grouped : (s : Select) → is_grouped s ≡ false → (s.grouping ≡ []) × ((s.having ≡ None) × (functions_in s ≡ []))
not_grouped s h =
    let all = and_parts (length s.grouping == 0) (is_none s.having && length (functions_in s) == 0) (false_not (length s.grouping == 0 && (is_none s.having && length (functions_in s) == 0)) h) in
    let others = and_parts (is_none s.having) (length (functions_in s) == 0) all.1 in
    (no_length s.grouping all.0, (no_value s.having others.0, no_length (functions_in s) others.1))

abbrev scope_if : List Entry → Select → Bool → Scope
scope_if entries s b = record { entries = entries; grouping = if b then Some (grouping_of entries s) else None }

pub plain_scope : (schema : List Table) (s : Select) → is_grouped s ≡ false → scope_over schema s ≡ scope_of schema s
plain_scope schema s h = ap (scope_if (entries_named schema s) s) h

pub plain_over : (schema : List Table) (s : Select) → is_grouped s ≡ false → over_faults schema s ≡ plain_faults schema s
plain_over schema s h =
    let n = not_grouped s h in
    let es = entries_named schema s in
    let none : grouping_faults es s ≡ [] =
    ap (λ (rs : List Reference). columns_faults es rs ++ (functions_faults es (functions_in s) ++ many_faults (functions_in s))) n.0 ∙ ap (λ (ws : List Written). functions_faults es ws ++ many_faults ws) n.1.1 in
    ap (λ (fs : List Fault). or_own fs (selected_faults (scope_over schema s) s.selected ++ (sources_faults schema 0 s.sources ++ (having_faults (scope_over schema s) s ++ filter_faults (scope_of schema s) s)))) none
    ∙ ap (λ (sc : Scope). selected_faults sc s.selected ++ (sources_faults schema 0 s.sources ++ (having_faults sc s ++ filter_faults (scope_of schema s) s))) (plain_scope schema s h)
    ∙ ap (λ (o : Option Condition). selected_faults (scope_of schema s) s.selected ++ (sources_faults schema 0 s.sources ++ (option_map_or (condition_faults (scope_of schema s)) o [] ++ filter_faults (scope_of schema s) s))) n.1.0

abbrev pub plain_order : List Table → Select → List Fault
plain_order schema s = keys_faults (result_names (scope_of schema s) s.selected) s.order

pub plain_keys : (schema : List Table) (s : Select) → is_grouped s ≡ false → order_faults schema s ≡ plain_order schema s
plain_keys schema s h = ap (λ (sc : Scope). keys_faults (result_names sc s.selected) s.order) (plain_scope schema s h)

abbrev body_if : List Table → Select → Bool → Whole
body_if schema s b = record { body = if b then grouped (grouped_meant schema s) else plain (specification_meant schema s); distinct = s.distinct }

pub plain_meant : (schema : List Table) (s : Select) → is_grouped s ≡ false → whole_meant schema s ≡ record { body = plain (specification_meant schema s); distinct = s.distinct }
plain_meant schema s h = ap (body_if schema s) h

-- ---- what is

pub group_scope : (schema : List Table) (s : Select) → is_grouped s ≡ true → scope_over schema s ≡ over_group (entries_named schema s) (grouping_of (entries_named schema s) s)
group_scope schema s h = ap (scope_if (entries_named schema s) s) h

pub group_meant : (schema : List Table) (s : Select) → is_grouped s ≡ true → whole_meant schema s ≡ record { body = grouped (grouped_meant schema s); distinct = s.distinct }
group_meant schema s h = ap (body_if schema s) h

-- ---- GROUP BY and the set functions

column_is : (entries : List Entry) (r : Reference) → typed_column entries r ≡ outcome (reference_faults entries r.qualifier r.name) (as_grouped (meant (ungrouped entries) (column r.qualifier r.name)))
column_is entries r = plain_one (reference_faults entries r.qualifier r.name) (first_of (referred entries (option_map name_of r.qualifier) (name_of r.name)))
  where
    plain_one : (fs : List Fault) (x : meaning.Expression) → (outcome fs x >>= (λ y. Ok (as_grouped y))) ≡ outcome fs (as_grouped x)
    plain_one [] x = refl
    plain_one (f ∷ fs) x = refl

pub columns_is : (entries : List Entry) (references : List Reference) → typed_columns entries references ≡ outcome (columns_faults entries references) (columns_grouped entries references)
columns_is entries [] = refl
columns_is entries (r ∷ references) =
    ap (λ (q : Result (List GroupedColumn) Fault). typed_column entries r >>= (λ c. q >>= (λ cs. Ok (c ∷ cs)))) (columns_is entries references)
    ∙ ap (λ (q : Result GroupedColumn Fault). q >>= (λ c. outcome (columns_faults entries references) (columns_grouped entries references) >>= (λ cs. Ok (c ∷ cs)))) (column_is entries r)
    ∙ plain_two (reference_faults entries r.qualifier r.name) (columns_faults entries references) (as_grouped (meant (ungrouped entries) (column r.qualifier r.name))) (columns_grouped entries references) (λ c cs. c ∷ cs)

pub function_is : (entries : List Entry) (w : Written) → typed_function entries w ≡ outcome (function_faults entries w) (function_of entries w)
function_is entries (counted place) = refl
function_is entries (applied place f a) =
    rw (typed_is (ungrouped entries) a) (one (faults (ungrouped entries) a) (meant (ungrouped entries) a) (argument_faults (first_token a) f) (λ x. record { kind = kind_of_function f; argument = x }))

abbrev pub functions_made : List Entry → List Written → Functions
functions_made entries written = record { functions = map (function_of entries) written; columns = map (function_column entries) written }

abbrev more_functions : Written → group.SetFunction → Functions → Functions
more_functions w f others = record { functions = f ∷ others.functions; columns = column_for w f ∷ others.columns }

pub functions_is : (entries : List Entry) (written : List Written) → typed_functions entries written ≡ outcome (functions_faults entries written) (functions_made entries written)
functions_is entries [] = refl
functions_is entries (w ∷ written) =
    ap (λ (q : Result group.SetFunction Fault). q >>= (λ f. typed_functions entries written >>= (λ others. Ok (more_functions w f others)))) (function_is entries w)
    ∙ ap (λ (q : Result Functions Fault). outcome (function_faults entries w) (function_of entries w) >>= (λ f. q >>= (λ others. Ok (more_functions w f others)))) (functions_is entries written)
    ∙ plain_two (function_faults entries w) (functions_faults entries written) (function_of entries w) (functions_made entries written) (more_functions w)

two_and : {A B C : Type 0} (fs gs hs : List Fault) (a : A) (b : B) (f : A → B → C) → (outcome fs a >>= (λ x. outcome gs b >>= (λ y. outcome hs (f x y)))) ≡ outcome (fs ++ (gs ++ hs)) (f a b)
two_and [] [] hs a b f = refl
two_and [] (g ∷ gs) hs a b f = refl
two_and (f' ∷ fs) gs hs a b f = refl

abbrev pub groups_meant : List Entry → Select → Groups
groups_meant entries s = record { columns = columns_grouped entries s.grouping; functions = functions_made entries (functions_in s) }

abbrev groups_with : List GroupedColumn → Functions → Groups
groups_with columns functions = record { columns = columns; functions = functions }

pub groups_is : (entries : List Entry) (s : Select) → typed_groups entries s ≡ outcome (grouping_faults entries s) (groups_meant entries s)
groups_is entries s =
    rw (columns_is entries s.grouping, functions_is entries (functions_in s))
    (two_and (columns_faults entries s.grouping) (functions_faults entries (functions_in s)) (many_faults (functions_in s)) (columns_grouped entries s.grouping) (functions_made entries (functions_in s)) groups_with)

-- ---- what stands over the grouped table

four : {A B C D E : Type 0} (fs gs hs js : List Fault) (a : A) (b : B) (c : C) (d : D) (f : A → B → C → D → E)
    → (outcome fs a >>= (λ x. outcome gs b >>= (λ y. outcome hs c >>= (λ z. outcome js d >>= (λ w. Ok (f x y z w)))))) ≡ outcome (fs ++ (gs ++ (hs ++ js))) (f a b c d)
four [] [] [] [] a b c d f = refl
four [] [] [] (j ∷ js) a b c d f = refl
four [] [] (h ∷ hs) js a b c d f = refl
four [] (g ∷ gs) hs js a b c d f = refl
four (f' ∷ fs) gs hs js a b c d f = refl

abbrev pub behind_faults : List Table → Select → Grouping → List Fault
behind_faults schema s g =
    selected_faults (over_group (entries_named schema s) g) s.selected ++ (sources_faults schema 0 s.sources ++ (having_faults (over_group (entries_named schema s) g) s ++ filter_faults (scope_of schema s) s))

abbrev behind_with : List meaning.Expression → List specified.Source → List meaning.Condition → List meaning.Condition → Behind
behind_with is' sources hs cs = record { sources = sources; conjuncts = cs; having = hs; items = is' }

abbrev pub behind_meant : List Table → Select → Grouping → Behind
behind_meant schema s g =
    behind_with (items_meant (over_group (entries_named schema s) g) s.selected) (sources_meant schema 0 s.sources) (map (condition_meant (over_group (entries_named schema s) g)) (conjuncts_having s)) (map (condition_meant (scope_of schema s)) (conjuncts s))

pub behind_is : (schema : List Table) (s : Select) (g : Grouping) → typed_behind (entries_named schema s) g s ≡ outcome (behind_faults schema s g) (behind_meant schema s g)
behind_is schema s g =
    let scope = over_group (entries_named schema s) g in
    rw (list_is scope s.selected, sources_is schema 0 s.sources, filter_is scope s.having, filter_is (scope_of schema s) s.filter)
    (four (selected_faults scope s.selected) (sources_faults schema 0 s.sources) (having_faults scope s) (filter_faults (scope_of schema s) s) (items_meant scope s.selected) (sources_meant schema 0 s.sources)
    (map (condition_meant scope) (conjuncts_having s)) (map (condition_meant (scope_of schema s)) (conjuncts s)) behind_with)

pub grouped_over : (schema : List Table) (s : Select) → is_grouped s ≡ true → over_faults schema s ≡ or_own (grouping_faults (entries_named schema s) s) (behind_faults schema s (grouping_of (entries_named schema s) s))
grouped_over schema s h =
    ap (λ (sc : Scope). or_own (grouping_faults (entries_named schema s) s) (selected_faults sc s.selected ++ (sources_faults schema 0 s.sources ++ (having_faults sc s ++ filter_faults (scope_of schema s) s)))) (group_scope schema s h)
