-- Specifications that mean the same come to the same rows, or the same exceptions.
use Rattle.std.proofs.Common.{◌≡◌, ℕ, List, [], ◌∷◌, length, map, Result, sum_by, refl, sym, ap, ◌∙◌}
use Rattle.std.proofs.lemmas.List.Elements.{length_all_zip}
use Rattle.std.proofs.lemmas.List.Sums.{sum_by-cons}
use Rattle.std.specs.List.{AllZip, flat_map}
use Rattle.qw_types.specs.declared.code.Code.{Code}
use Rattle.qw_types.specs.declared.value.Val.{Val}
use Rattle.qw_scalar.specs.Conjuncts.{passes}
use Rattle.qw_scalar.specs.Evaluation.{Environment, at_row}
use Rattle.qw_scalar.specs.Expression.{Condition, Expression}
use Rattle.qw_meaning.specs.Flow.{Flow, codes_given, each, kept, rows_given, selected, values_of}
use Rattle.qw_meaning.specs.From.{from_sources}
use Rattle.qw_meaning.specs.Outcome.{ended, flow, outcome}
use Rattle.qw_meaning.specs.Select.{Source, Specification}
use Rattle.qw_scalar.specs.Typing.{kind_of}
use Rattle.qw_scalar.specs.Units as text
use Rattle.qw_scalar.specs.Same.{AreSame, IsSame}
use Rattle.qw_meaning.specs.Same.{MeansTheSame}

passes_same : (cs ds : List Condition) (env : Environment) → AllZip AreSame cs ds → passes cs env ≡ passes ds env
passes_same [] [] env h = refl
passes_same [] (d ∷ ds) env h = absurd h
passes_same (c ∷ cs) [] env h = absurd h
passes_same (c ∷ cs) (d ∷ ds) env h = rw (h.0.truth env, passes_same cs ds env h.1) refl

pub kept_same : (cs ds : List Condition) (row : List Val) → AllZip AreSame cs ds → kept cs row ≡ kept ds row
kept_same cs ds row h = rw (passes_same cs ds (at_row row) h) refl

values_same : (es fs : List Expression) (env : Environment) → AllZip IsSame es fs → values_of es env ≡ values_of fs env
values_same [] [] env h = refl
values_same [] (f ∷ fs) env h = absurd h
values_same (e ∷ es) [] env h = absurd h
values_same (e ∷ es) (f ∷ fs) env h = rw (h.0.value env, values_same es fs env h.1) refl

selected_same : (es fs : List Expression) (row : List Val) → AllZip IsSame es fs → selected es row ≡ selected fs row
selected_same es fs row h = rw (values_same es fs (at_row row) h) refl

flat_map_same : {X A : Type 0} (f g : X → List A) (xs : List X) → ((x : X) → f x ≡ g x) → flat_map f xs ≡ flat_map g xs
flat_map_same f g [] h = refl
flat_map_same f g (x ∷ xs) h = rw (h x, flat_map_same f g xs h) refl

pub sum_same : {X : Type 0} (f g : X → ℕ) (xs : List X) → ((x : X) → f x ≡ g x) → sum_by f xs ≡ sum_by g xs
sum_same f g [] h = refl
sum_same f g (x ∷ xs) h = sum_by-cons f x xs ∙ rw (h x, sum_same f g xs h) (sym (sum_by-cons g x xs))

pub each_same : (f g : List Val → Result (List (List Val)) Code) (before : Flow (List Val)) → ((row : List Val) → f row ≡ g row) → each f before ≡ each g before
each_same f g before h =
    rw (
      flat_map_same (λ row. rows_given (f row)) (λ row. rows_given (g row)) before.rows (λ row. ap rows_given (h row)),
      flat_map_same (λ row. codes_given (f row)) (λ row. codes_given (g row)) before.rows (λ row. ap codes_given (h row)),
    ) refl

pub flow_same : (query other : Specification) (tables : List (List (List Val))) → MeansTheSame query other → flow query tables ≡ flow other tables
flow_same query other tables h =
    let from : from_sources query.sources tables ≡ from_sources other.sources tables = ap (λ (sources : List Source). from_sources sources tables) h.sources in
    ap (λ (f : Flow (List Val)). each (selected query.items) (each (kept query.conjuncts) f)) from
    ∙ ap (each (selected query.items)) (each_same (kept query.conjuncts) (kept other.conjuncts) (from_sources other.sources tables) (λ row. kept_same query.conjuncts other.conjuncts row h.conjuncts))
    ∙ each_same (selected query.items) (selected other.items) (each (kept other.conjuncts) (from_sources other.sources tables)) (λ row. selected_same query.items other.items row h.items)

pub outcome_same : (query other : Specification) (tables : List (List (List Val))) → MeansTheSame query other → outcome query tables ≡ outcome other tables
outcome_same query other tables h = ap (λ (f : Flow (List Val)). ended f.rows f.codes) (flow_same query other tables h)

pub conjuncts_units : (cs ds : List Condition) (env : Environment) → AllZip AreSame cs ds → text.units_of_all cs env ≡ text.units_of_all ds env
conjuncts_units [] [] env h = refl
conjuncts_units [] (d ∷ ds) env h = absurd h
conjuncts_units (c ∷ cs) [] env h = absurd h
conjuncts_units (c ∷ cs) (d ∷ ds) env h = rw (h.0.units env, conjuncts_units cs ds env h.1) refl

pub items_units : (es fs : List Expression) (env : Environment) → AllZip IsSame es fs → text.units_of_items es env ≡ text.units_of_items fs env
items_units [] [] env h = refl
items_units [] (f ∷ fs) env h = absurd h
items_units (e ∷ es) [] env h = absurd h
items_units (e ∷ es) (f ∷ fs) env h = rw (h.0.units env, items_units es fs env h.1) refl

pub item_count : (es fs : List Expression) → AllZip IsSame es fs → length es ≡ length fs
item_count es fs h = length_all_zip IsSame es fs h

pub kinds_same : (es fs : List Expression) → AllZip IsSame es fs → map kind_of es ≡ map kind_of fs
kinds_same [] [] h = refl
kinds_same [] (f ∷ fs) h = absurd h
kinds_same (e ∷ es) [] h = absurd h
kinds_same (e ∷ es) (f ∷ fs) h = rw (h.0.kind, kinds_same es fs h.1) refl
