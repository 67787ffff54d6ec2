-- Checking construct by construct gives what is meant where there is no fault, and the first fault else.
use Rattle.std.proofs.Common.{◌≡◌, ℕ, ◌+◌, Bool, List, [], ◌∷◌, ◌++◌, map, length, take, drop, Option, Some, None, Result, Ok, Err, refl, ap, ◌∙◌, arith, true, option_map, unwrap_or}
use Rattle.std.specs.Prelude.{Contains, codes}
use Rattle.std.specs.Option.{option_map_or}
use Rattle.qw_types.specs.declared.schema.Table.{Table}
use Rattle.qw_meaning.specs.Select as specified
use Rattle.qw_meaning.specs.Select.{Specification}
use Rattle.qw_ast.specs.Grammar.{name_of}
use Rattle.qw_ast.specs.Limits.{entries_in, entries_of}
use Rattle.qw_ast.specs.Syntax as written
use Rattle.qw_scalar.specs.declared.comparison.Comparison.TheVariants.{Equal}
use Rattle.qw_scalar.specs.declared.expression.Function.TheVariants.{Coalesce, NullIf}
use Rattle.qw_scalar.specs.Expression as meaning
use Rattle.qw_ast.specs.Syntax.{Expression, null, number, text, date, column, signed, arithmetic, extract, searched_case, simple_case, call, count_rows, set_function, Condition, comparison, between, among, predicate, both, either, negation_of, is, bracketed, condition, expression, Expressions, last, further, Branching, otherwise, when, SelectItem, Selected, all_columns, items, Joined, Source, Select}
use Rattle.qw_typer.specs.Faults.{Fault, all_faults, among_faults, argument_faults, arithmetic_faults, branch_faults, case_faults, choices_faults, comparison_faults, condition_faults, faults, field_faults, first_of_all, first_of_branches, first_token, function_word, group_faults, item_faults, matches_faults, nested_faults, or_own, reference_faults, sign_faults}
use Rattle.qw_typer.specs.Meant.{Entry, Scope, all_meant, choices, condition_meant, first_of, function_meant, in_group, matches, meant, referred, ungrouped, with_not, with_sign}
use Rattle.qw_typer.specs.Typed.{conjuncts, conjuncts_of, entries_from, entry_meant, filter_faults, in_scope, items_meant, joins_faults, joins_meant, list_faults, scope_of, selected_faults, sources_faults, sources_meant, specification_meant}
use Rattle.qw_typer.specs.Inner.Typing.{◌>>=◌, outcome, typed, typed_all, typed_choices, typed_condition, typed_conjuncts, typed_filter, typed_item, typed_items, typed_joined, typed_joins, typed_list, typed_matches, typed_over, typed_source, typed_sources}

-- ---- one construct, over any operands

pub one : {A B : Type 0} (fs : List Fault) (a : A) (own : A → List Fault) (f : A → B) → (outcome fs a >>= (λ x. outcome (own x) (f x))) ≡ outcome (or_own fs (own a)) (f a)
one [] a own f = refl
one (g ∷ gs) a own f = refl

-- a construct without a fault of its own
own_none : (fs : List Fault) → or_own fs [] ≡ fs
own_none [] = refl
own_none (g ∷ gs) = refl

two : {A B C : Type 0} (fs gs : List Fault) (a : A) (b : B) (own : A → B → List Fault) (f : A → B → C)
    → (outcome fs a >>= (λ x. outcome gs b >>= (λ y. outcome (own x y) (f x y)))) ≡ outcome (or_own (fs ++ gs) (own a b)) (f a b)
two [] [] a b own f = refl
two [] (g ∷ gs) a b own f = refl
two (g ∷ gs) hs a b own f = refl

three : {A B C D : Type 0} (fs gs hs : List Fault) (a : A) (b : B) (c : C) (own : A → B → C → List Fault) (f : A → B → C → D)
    → (outcome fs a >>= (λ x. outcome gs b >>= (λ y. outcome hs c >>= (λ z. outcome (own x y z) (f x y z))))) ≡ outcome (or_own (fs ++ (gs ++ hs)) (own a b c)) (f a b c)
three [] [] [] a b c own f = refl
three [] [] (h ∷ hs) a b c own f = refl
three [] (g ∷ gs) hs a b c own f = refl
three (g ∷ gs) hs js a b c own f = refl

plain : {A B : Type 0} (fs : List Fault) (a : A) (f : A → B) → (outcome fs a >>= (λ x. Ok (f x))) ≡ outcome fs (f a)
plain [] a f = refl
plain (g ∷ gs) a f = refl

pub plain_two : {A B C : Type 0} (fs gs : List Fault) (a : A) (b : B) (f : A → B → C) → (outcome fs a >>= (λ x. outcome gs b >>= (λ y. Ok (f x y)))) ≡ outcome (fs ++ gs) (f a b)
plain_two [] [] a b f = refl
plain_two [] (g ∷ gs) a b f = refl
plain_two (g ∷ gs) hs a b f = refl

plain_three : {A B C D : Type 0} (fs gs hs : List Fault) (a : A) (b : B) (c : C) (f : A → B → C → D)
    → (outcome fs a >>= (λ x. outcome gs b >>= (λ y. outcome hs c >>= (λ z. Ok (f x y z))))) ≡ outcome (fs ++ (gs ++ hs)) (f a b c)
plain_three [] [] [] a b c f = refl
plain_three [] [] (h ∷ hs) a b c f = refl
plain_three [] (g ∷ gs) hs a b c f = refl
plain_three (g ∷ gs) hs js a b c f = refl

-- a comparison first, then two more operands
compared_three : {A B C D : Type 0} (fs : List Fault) (a : A) (own : A → List Fault) (compared : A → B) (gs hs : List Fault) (b : C) (c : D) {E : Type 0} (f : B → C → D → E)
    → (outcome fs a >>= (λ x. outcome (own x) (compared x) >>= (λ w. outcome gs b >>= (λ y. outcome hs c >>= (λ z. Ok (f w y z)))))) ≡ outcome (or_own fs (own a) ++ (gs ++ hs)) (f (compared a) b c)
compared_three [] a own compared gs hs b c f = plain_three (own a) gs hs (compared a) b c f
compared_three (g ∷ gs) a own compared hs js b c f = refl

-- an operand, what depends on it, and the construct's own
chained : {A B C : Type 0} (fs : List Fault) (a : A) (next : A → Result B Fault) (gs : A → List Fault) (b : A → B) (own : B → List Fault) (f : B → C) → ((x : A) → next x ≡ outcome (gs x) (b x))
    → (outcome fs a >>= (λ x. next x >>= (λ y. outcome (own y) (f y)))) ≡ outcome (or_own fs (or_own (gs a) (own (b a)))) (f (b a))
chained [] a next gs b own f h = rw (h a) (one (gs a) (b a) own f)
chained (g ∷ gs) a next hs b own f h = refl

-- the branches of a CASE with an operand, of which one at least has WHEN
from_matches : (scope : Scope) (token : List ℕ) (x : meaning.Expression) (branches : Branching) → typed_matches scope token x branches ≡ outcome (matches_faults scope token x branches) (matches scope x branches)
    → (outcome (branch_faults token branches) x >>= (λ z. typed_matches scope token z branches)) ≡ outcome (branch_faults token branches ++ matches_faults scope token x branches) (matches scope x branches)
from_matches scope token x (otherwise e) h = refl
from_matches scope token x (when c e rest) h = h

-- ---- every construct

mutual
  pub typed_is : (scope : Scope) (e : Expression) → typed scope e ≡ outcome (faults scope e) (meant scope e)
  typed_is scope null = refl
  typed_is scope (number octets) = refl
  typed_is scope (text octets) = refl
  typed_is scope (date string intervals) = refl
  typed_is scope (column qualifier name) =
      one (reference_faults scope.entries qualifier name) (first_of (referred scope.entries (option_map name_of qualifier) (name_of name))) (group_faults scope.grouping (name_of name)) (λ x. unwrap_or (in_group scope.grouping x) meaning.null)
  typed_is scope (signed sign a) = rw (typed_is scope a) (one (faults scope a) (meant scope a) (sign_faults (first_token a)) (with_sign sign))
  typed_is scope (arithmetic operator a b) =
      rw (typed_is scope a, typed_is scope b) (two (faults scope a) (faults scope b) (meant scope a) (meant scope b) (arithmetic_faults (first_token a) operator) (meaning.arithmetic operator))
  typed_is scope (extract field a) = rw (typed_is scope a) (one (faults scope a) (meant scope a) (field_faults (first_token a)) (meaning.extract field))
  typed_is scope (searched_case branches) =
      rw (choices_is scope branches) (one (choices_faults scope branches) (choices scope branches) (case_faults (first_of_branches branches)) meaning.case)
  typed_is scope (simple_case x branches) =
      rw (typed_is scope x) (chained (faults scope x) (meant scope x) (λ y. outcome (branch_faults (first_token x) branches) y >>= (λ z. typed_matches scope (first_token x) z branches))
      (λ y. branch_faults (first_token x) branches ++ matches_faults scope (first_token x) y branches) (λ y. matches scope y branches) (case_faults (first_token x)) meaning.case
      (λ y. from_matches scope (first_token x) y branches (matches_is scope (first_token x) y branches)))
  typed_is scope (call Coalesce es) =
      rw (all_is scope es) (one (all_faults scope es) (all_meant scope es) (λ ms. case_faults (first_of_all es) (meaning.coalesced ms)) (λ ms. meaning.case (meaning.coalesced ms)))
  typed_is scope (call NullIf (last e)) = rw (own_none (faults scope e), typed_is scope e) (plain (faults scope e) (meant scope e) (λ x. meaning.unless_among (meaning.last x)))
  typed_is scope (call NullIf (further e es)) =
      rw (typed_is scope e, all_is scope es)
      (two (faults scope e) (all_faults scope es) (meant scope e) (all_meant scope es) (among_faults (first_token e)) (λ x vs. meaning.unless_among (meaning.more x vs)))
  typed_is scope (count_rows place) = plain (nested_faults scope.grouping (codes "COUNT")) true (λ b. function_meant scope.grouping place)
  typed_is scope (set_function place f a) =
      let inner = ungrouped scope.entries in
      rw (typed_is inner a)
      (chained (nested_faults scope.grouping (function_word f)) true (λ b. outcome (faults inner a) (meant inner a)) (λ b. faults inner a) (λ b. meant inner a) (argument_faults (first_token a) f) (λ x. function_meant scope.grouping place) (λ b. refl))

  pub condition_is : (scope : Scope) (c : Condition) → typed_condition scope c ≡ outcome (condition_faults scope c) (condition_meant scope c)
  condition_is scope (comparison op a b) =
      rw (typed_is scope a, typed_is scope b) (two (faults scope a) (faults scope b) (meant scope a) (meant scope b) (comparison_faults (first_token a)) (meaning.comparison op))
  condition_is scope (between negated x a b) =
      rw (typed_is scope x, typed_is scope a, typed_is scope b)
      (three (faults scope x) (faults scope a) (faults scope b) (meant scope x) (meant scope a) (meant scope b)
      (λ y l g. comparison_faults (first_token x) y l ++ comparison_faults (first_token x) y g) (λ y l g. with_not negated (meaning.between y l g)))
  condition_is scope (among negated x es) =
      rw (typed_is scope x, all_is scope es)
      (two (faults scope x) (all_faults scope es) (meant scope x) (all_meant scope es) (among_faults (first_token x)) (λ y vs. with_not negated (meaning.among y vs)))
  condition_is scope (predicate p negated a) = rw (typed_is scope a) (plain (faults scope a) (meant scope a) (λ x. with_not negated (meaning.predicate p x)))
  condition_is scope (both c d) =
      rw (condition_is scope c, condition_is scope d) (plain_two (condition_faults scope c) (condition_faults scope d) (condition_meant scope c) (condition_meant scope d) meaning.both)
  condition_is scope (either c d) =
      rw (condition_is scope c, condition_is scope d) (plain_two (condition_faults scope c) (condition_faults scope d) (condition_meant scope c) (condition_meant scope d) meaning.either)
  condition_is scope (negation_of c) = rw (condition_is scope c) (plain (condition_faults scope c) (condition_meant scope c) meaning.negation_of)
  condition_is scope (is negated c t) = rw (condition_is scope c) (plain (condition_faults scope c) (condition_meant scope c) (λ x. with_not negated (meaning.is x t)))
  condition_is scope (bracketed c) = condition_is scope c

  pub all_is : (scope : Scope) (es : Expressions) → typed_all scope es ≡ outcome (all_faults scope es) (all_meant scope es)
  all_is scope (last e) = rw (typed_is scope e) (plain (faults scope e) (meant scope e) meaning.last)
  all_is scope (further e es) =
      rw (typed_is scope e, all_is scope es) (plain_two (faults scope e) (all_faults scope es) (meant scope e) (all_meant scope es) meaning.more)

  pub choices_is : (scope : Scope) (branches : Branching) → typed_choices scope branches ≡ outcome (choices_faults scope branches) (choices scope branches)
  choices_is scope (otherwise e) = rw (typed_is scope e) (plain (faults scope e) (meant scope e) meaning.otherwise)
  choices_is scope (when (condition c) e rest) =
      rw (condition_is scope c, typed_is scope e, choices_is scope rest)
      (plain_three (condition_faults scope c) (faults scope e) (choices_faults scope rest) (condition_meant scope c) (meant scope e) (choices scope rest) meaning.when)
  choices_is scope (when (expression v) e rest) = refl

  pub matches_is : (scope : Scope) (token : List ℕ) (x : meaning.Expression) (branches : Branching) → typed_matches scope token x branches ≡ outcome (matches_faults scope token x branches) (matches scope x branches)
  matches_is scope token x (otherwise e) = rw (typed_is scope e) (plain (faults scope e) (meant scope e) meaning.otherwise)
  matches_is scope token x (when (condition c) e rest) = refl
  matches_is scope token x (when (expression v) e rest) =
      rw (typed_is scope v, typed_is scope e, matches_is scope token x rest)
      (compared_three (faults scope v) (meant scope v) (comparison_faults token x) (meaning.comparison Equal x) (faults scope e) (matches_faults scope token x rest) (meant scope e) (matches scope x rest) meaning.when)

-- ---- select lists and conjuncts

pub item_is : (scope : Scope) (e : Expression) → typed_item scope e ≡ outcome (or_own (faults scope e) (item_faults (first_token e) (meant scope e))) (meant scope e)
item_is scope e = rw (typed_is scope e) (one (faults scope e) (meant scope e) (item_faults (first_token e)) (λ x. x))

pub items_is : (scope : Scope) (list : List SelectItem) → typed_items scope list ≡ outcome (list_faults scope list) (map (λ (i : SelectItem). meant scope i.value) list)
items_is scope [] = refl
items_is scope (i ∷ others) =
    rw (item_is scope i.value, items_is scope others)
    (plain_two (or_own (faults scope i.value) (item_faults (first_token i.value) (meant scope i.value))) (list_faults scope others) (meant scope i.value) (map (λ (j : SelectItem). meant scope j.value) others) (λ x xs. x ∷ xs))

pub list_is : (scope : Scope) (selected : Selected) → typed_list scope selected ≡ outcome (selected_faults scope selected) (items_meant scope selected)
list_is scope all_columns = refl
list_is scope (items list) = items_is scope list

map_more : {A B : Type 0} (f : A → B) (xs : List A) (x : A) → map f xs ++ f x ∷ [] ≡ map f (xs ++ x ∷ [])
map_more f [] x = refl
map_more f (y ∷ ys) x = ap (λ zs. f y ∷ zs) (map_more f ys x)

alone : (scope : Scope) (c : Condition) → (typed_condition scope c >>= (λ x. Ok (x ∷ []))) ≡ outcome (condition_faults scope c) (condition_meant scope c ∷ [])
alone scope c = rw (condition_is scope c) (plain (condition_faults scope c) (condition_meant scope c) (λ x. x ∷ []))

pub conjuncts_is : (scope : Scope) (c : Condition) → typed_conjuncts scope c ≡ outcome (condition_faults scope c) (map (condition_meant scope) (conjuncts_of c))
conjuncts_is scope (both c d) =
    rw (conjuncts_is scope c, condition_is scope d)
    (plain_two (condition_faults scope c) (condition_faults scope d) (map (condition_meant scope) (conjuncts_of c)) (condition_meant scope d) (λ xs y. xs ++ y ∷ [])
    ∙ ap (outcome (condition_faults scope c ++ condition_faults scope d)) (map_more (condition_meant scope) (conjuncts_of c) d))
conjuncts_is scope (comparison op a b) = alone scope (comparison op a b)
conjuncts_is scope (between negated x a b) = alone scope (between negated x a b)
conjuncts_is scope (among negated x es) = alone scope (among negated x es)
conjuncts_is scope (predicate p negated a) = alone scope (predicate p negated a)
conjuncts_is scope (either c d) = alone scope (either c d)
conjuncts_is scope (negation_of c) = alone scope (negation_of c)
conjuncts_is scope (is negated c t) = alone scope (is negated c t)
conjuncts_is scope (bracketed c) = alone scope (bracketed c)

-- ---- what an outcome tells

pub no_fault : {A : Type 0} (fs : List Fault) (a x : A) → outcome fs a ≡ Ok x → (fs ≡ []) × (a ≡ x)
no_fault [] a x h = (refl, cc)
no_fault (f ∷ fs) a x h = absurd cc

pub first_fault : {A : Type 0} (fs : List Fault) (a : A) (f : Fault) → outcome fs a ≡ Err f → Contains fs f
first_fault [] a f h = absurd cc
first_fault (g ∷ gs) a f h = let e : g ≡ f = cc in (0, omega arith, e)

-- ---- FROM

pub filter_is : (scope : Scope) (o : Option Condition) → typed_filter scope o ≡ outcome (option_map_or (condition_faults scope) o []) (map (condition_meant scope) (option_map_or conjuncts_of o []))
filter_is scope None = refl
filter_is scope (Some c) = conjuncts_is scope c

abbrev joined_with : Entry → Bool → List meaning.Condition → specified.Joined
joined_with e outer cs = record { entry = entry_meant e; outer = outer; on = cs }

abbrev source_with : Entry → List specified.Joined → specified.Source
source_with e joins = record { first = entry_meant e; joins = joins }

joined_is : (reach : List Entry) (e : Entry) (j : Joined) → typed_joined reach e j ≡ outcome (condition_faults (ungrouped reach) j.on) (joined_with e j.outer (map (condition_meant (ungrouped reach)) (conjuncts_of j.on)))
joined_is reach e j = rw (conjuncts_is (ungrouped reach) j.on) (plain (condition_faults (ungrouped reach) j.on) (map (condition_meant (ungrouped reach)) (conjuncts_of j.on)) (joined_with e j.outer))

joins_is : (schema : List Table) (reached : List Entry) (index : ℕ) (joins : List Joined)
    → typed_joins reached (entries_from schema index (map (λ (j : Joined). j.entry) joins)) joins ≡ outcome (joins_faults schema reached index joins) (joins_meant schema reached index joins)
joins_is schema reached index [] = refl
joins_is schema reached index (j ∷ joins) =
    let e = in_scope schema index j.entry in
    let reach = reached ++ e ∷ [] in
    let x = joined_with e j.outer (map (condition_meant (ungrouped reach)) (conjuncts_of j.on)) in
    let others = typed_joins reach (entries_from schema (index + 1) (map (λ (k : Joined). k.entry) joins)) joins in
    ap (λ (r : Result specified.Joined Fault). r >>= (λ y. others >>= (λ ys. Ok (y ∷ ys)))) (joined_is reach e j)
    ∙ ap (λ (r : Result (List specified.Joined) Fault). outcome (condition_faults (ungrouped reach) j.on) x >>= (λ y. r >>= (λ ys. Ok (y ∷ ys)))) (joins_is schema reach (index + 1) joins)
    ∙ plain_two (condition_faults (ungrouped reach) j.on) (joins_faults schema reach (index + 1) joins) x (joins_meant schema reach (index + 1) joins) (λ y ys. y ∷ ys)

abbrev source_faults : List Table → ℕ → Source → List Fault
source_faults schema index source = joins_faults schema (in_scope schema index source.first ∷ []) (index + 1) source.joins

abbrev source_meant : List Table → ℕ → Source → specified.Source
source_meant schema index source = source_with (in_scope schema index source.first) (joins_meant schema (in_scope schema index source.first ∷ []) (index + 1) source.joins)

source_is : (schema : List Table) (index : ℕ) (source : Source) → typed_source (entries_from schema index (entries_in source)) source ≡ outcome (source_faults schema index source) (source_meant schema index source)
source_is schema index source =
    let e = in_scope schema index source.first in
    ap (λ (r : Result (List specified.Joined) Fault). r >>= (λ js. Ok (source_with e js))) (joins_is schema (e ∷ []) (index + 1) source.joins)
    ∙ plain (source_faults schema index source) (joins_meant schema (e ∷ []) (index + 1) source.joins) (source_with e)

pub take_scope : (schema : List Table) (index : ℕ) (xs ys : List written.Entry) → take (length xs) (entries_from schema index (xs ++ ys)) ≡ entries_from schema index xs
take_scope schema index [] ys = refl
take_scope schema index (x ∷ xs) ys = ap (λ (es : List Entry). in_scope schema index x ∷ es) (take_scope schema (index + 1) xs ys)

pub drop_scope : (schema : List Table) (index : ℕ) (xs ys : List written.Entry) → drop (length xs) (entries_from schema index (xs ++ ys)) ≡ entries_from schema (index + length xs) ys
drop_scope schema index [] ys = let same : index ≡ index + 0 = omega arith in ap (λ (n : ℕ). entries_from schema n ys) same
drop_scope schema index (x ∷ xs) ys =
    let same : index + 1 + length xs ≡ index + length (x ∷ xs) = omega arith in
    drop_scope schema (index + 1) xs ys ∙ ap (λ (n : ℕ). entries_from schema n ys) same

pub sources_is : (schema : List Table) (index : ℕ) (sources : List Source) → typed_sources (entries_from schema index (entries_of sources)) sources ≡ outcome (sources_faults schema index sources) (sources_meant schema index sources)
sources_is schema index [] = refl
sources_is schema index (source ∷ sources) =
    let own = entries_in source in
    let next = index + length own in
    let behind = drop (length own) (entries_from schema index (own ++ entries_of sources)) in
    let x = source_meant schema index source in
    ap (λ (r : Result specified.Source Fault). r >>= (λ y. typed_sources behind sources >>= (λ ys. Ok (y ∷ ys))))
    (ap (λ (es : List Entry). typed_source es source) (take_scope schema index own (entries_of sources)) ∙ source_is schema index source)
    ∙ ap (λ (r : Result (List specified.Source) Fault). outcome (source_faults schema index source) x >>= (λ y. r >>= (λ ys. Ok (y ∷ ys))))
    (ap (λ (es : List Entry). typed_sources es sources) (drop_scope schema index own (entries_of sources)) ∙ sources_is schema next sources)
    ∙ plain_two (source_faults schema index source) (sources_faults schema next sources) x (sources_meant schema next sources) (λ y ys. y ∷ ys)

-- what a query without a fault means
abbrev pub meaning_of : List Table → Select → Specification
meaning_of schema s = specification_meant schema s

abbrev specified_with : List meaning.Expression → List specified.Source → List meaning.Condition → Specification
specified_with is' sources cs = record { sources = sources; conjuncts = cs; items = is' }

-- the faults of one that isn't grouped, over the entries of FROM
abbrev pub plain_faults : List Table → Select → List Fault
plain_faults schema s = selected_faults (scope_of schema s) s.selected ++ (sources_faults schema 0 s.sources ++ filter_faults (scope_of schema s) s)

pub over_is : (schema : List Table) (s : Select) → typed_over (scope_of schema s) s ≡ outcome (plain_faults schema s) (meaning_of schema s)
over_is schema s =
    let scope = scope_of schema s in
    rw (list_is scope s.selected, sources_is schema 0 s.sources, filter_is scope s.filter)
    (plain_three (selected_faults scope s.selected) (sources_faults schema 0 s.sources) (filter_faults scope s) (items_meant scope s.selected) (sources_meant schema 0 s.sources) (map (condition_meant scope) (conjuncts s)) specified_with)
