-- Laws of clauses and outcomes.
use Rattle.std.proofs.Common.{◌≡◌, ◌⊎◌, zero, suc, false, List, [], ◌∷◌, Result, Ok, Err, arith, inl, inr, refl, sym, subst}
use Rattle.std.specs.List.{Contains, flat_map}
use Rattle.std.proofs.lemmas.List.Elements.{Contains-append_cases, Contains-append_left, Contains-append_right}
use Rattle.std.proofs.lemmas.List.Sorted.{IsPermutation-append_comm, length_permutation}
use Rattle.qw_types.specs.declared.code.Code.{Code}
use Rattle.qw_types.specs.declared.code.Code.TheVariants.{DivZero, OutOfRange}
use Rattle.qw_types.specs.declared.truth.Truth.{Truth}
use Rattle.qw_types.specs.declared.truth.Truth.TheVariants.{True, False, Unknown}
use Rattle.qw_types.specs.declared.value.Val.{Val}
use Rattle.qw_scalar.specs.Conjuncts.{passes}
use Rattle.qw_scalar.specs.Evaluation.{Environment, chosen, truth_of}
use Rattle.qw_scalar.specs.Expression.{Condition}
use Rattle.qw_meaning.specs.Flow.{Flow, codes_given, each, given, rows_given, spread}
use Rattle.qw_meaning.specs.Outcome.{IsSameOutcome, Raises, Rows}

contains_nothing : {X : Type 0} (x : X) → Contains [] x → ⊥
contains_nothing x (k, lt, e) = omega arith

contains_one : {X : Type 0} (x y : X) → Contains (x ∷ []) y → x ≡ y
contains_one x y (zero, lt, e) = e
contains_one x y (suc k, lt, e) = absurd (omega arith)

pub contains_itself : {X : Type 0} (x : X) → Contains (x ∷ []) x
contains_itself x = (0, omega arith, refl)

from_flat_map : {X Y : Type 0} (f : X → List Y) (xs : List X) (y : Y) → Contains (flat_map f xs) y → (x : X) × (Contains xs x × Contains (f x) y)
from_flat_map f [] y h = absurd (contains_nothing y h)
from_flat_map f (x ∷ xs) y h = elim (Contains-append_cases (f x) (flat_map f xs) y h) as (λ _. (z : _) × (Contains (x ∷ xs) z × Contains (f z) y)) [
  | inl first ↦ (x, (Contains-append_left (x ∷ []) xs x (contains_itself x), first))
  | inr later ↦ let found = from_flat_map f xs y later in (found.0, (Contains-append_right (x ∷ []) xs found.0 found.1.0, found.1.1))
]

in_flat_map : {X Y : Type 0} (f : X → List Y) (xs : List X) (x : X) (y : Y) → Contains xs x → Contains (f x) y → Contains (flat_map f xs) y
in_flat_map f [] x y h g = absurd (contains_nothing x h)
in_flat_map f (z ∷ xs) x y h g = elim (Contains-append_cases (z ∷ []) xs x h) as (λ _. Contains (flat_map f (z ∷ xs)) y) [
  | inl first ↦ Contains-append_left (f z) (flat_map f xs) y (subst (λ w. Contains (f w) y) (sym (contains_one z x first)) g)
  | inr later ↦ Contains-append_right (f z) (flat_map f xs) y (in_flat_map f xs x y later g)
]

code_given : {A : Type 0} (r : Result (List A) Code) (code : Code) → Contains (codes_given r) code → r ≡ Err code
code_given (Ok rows) code h = absurd (contains_nothing code h)
code_given (Err other) code h = rw (contains_one other code h) refl

row_given : {A : Type 0} (r : Result (List A) Code) (made : A) → Contains (rows_given r) made → (rows : List A) × ((r ≡ Ok rows) × Contains rows made)
row_given (Ok rows) made h = (rows, (refl, h))
row_given (Err code) made h = absurd (contains_nothing made h)

-- a clause that makes a flow of each row
pub spread_codes : {A B : Type 0} (work : A → Flow B) (flow : Flow A) (code : Code)
    → Contains (spread work flow).codes code → Contains flow.codes code ⊎ ((row : A) × (Contains flow.rows row × Contains (work row).codes code))
spread_codes work flow code h =
    elim (Contains-append_cases flow.codes (flat_map (λ row. (work row).codes) flow.rows) code h) as (λ _. Contains flow.codes code ⊎ ((row : _) × (Contains flow.rows row × Contains (work row).codes code))) [
      | inl before ↦ inl before
      | inr here ↦ inr (from_flat_map (λ row. (work row).codes) flow.rows code here)
    ]

pub spread_raised : {A B : Type 0} (work : A → Flow B) (flow : Flow A) (row : A) (code : Code) → Contains flow.rows row → Contains (work row).codes code → Contains (spread work flow).codes code
spread_raised work flow row code h e =
    Contains-append_right flow.codes (flat_map (λ r. (work r).codes) flow.rows) code (in_flat_map (λ r. (work r).codes) flow.rows row code h e)

pub spread_before : {A B : Type 0} (work : A → Flow B) (flow : Flow A) (code : Code) → Contains flow.codes code → Contains (spread work flow).codes code
spread_before work flow code h = Contains-append_left flow.codes (flat_map (λ row. (work row).codes) flow.rows) code h

pub spread_rows : {A B : Type 0} (work : A → Flow B) (flow : Flow A) (made : B) → Contains (spread work flow).rows made → (row : A) × (Contains flow.rows row × Contains (work row).rows made)
spread_rows work flow made h = from_flat_map (λ row. (work row).rows) flow.rows made h

pub spread_given : {A B : Type 0} (work : A → Flow B) (flow : Flow A) (row : A) (made : B) → Contains flow.rows row → Contains (work row).rows made → Contains (spread work flow).rows made
spread_given work flow row made h g = in_flat_map (λ r. (work r).rows) flow.rows row made h g

-- one of which a row that raises goes no further
pub only_raised : {A B : Type 0} (work : A → Result (List B) Code) (flow : Flow A) (code : Code)
    → Contains (each work flow).codes code → Contains flow.codes code ⊎ ((row : A) × (Contains flow.rows row × (work row ≡ Err code)))
only_raised work flow code h =
    elim (spread_codes (λ row. given (work row)) flow code h) as (λ _. Contains flow.codes code ⊎ ((row : _) × (Contains flow.rows row × (work row ≡ Err code)))) [
      | inl before ↦ inl before
      | inr here ↦ inr (here.0, (here.1.0, code_given (work here.0) code here.1.1))
    ]

pub raised : {A B : Type 0} (work : A → Result (List B) Code) (flow : Flow A) (row : A) (code : Code)
    → Contains flow.rows row → work row ≡ Err code → Contains (each work flow).codes code
raised work flow row code h e = spread_raised (λ r. given (work r)) flow row code h (rw e (contains_itself code))

pub only_given : {A B : Type 0} (work : A → Result (List B) Code) (flow : Flow A) (made : B)
    → Contains (each work flow).rows made → (row : A) × (rows : List B) × (Contains flow.rows row × ((work row ≡ Ok rows) × Contains rows made))
only_given work flow made h =
    let found = spread_rows (λ row. given (work row)) flow made h in
    let rows = row_given (work found.0) made found.1.1 in
    (found.0, rows.0, (found.1.0, rows.1))

pub are_given : {A B : Type 0} (work : A → Result (List B) Code) (flow : Flow A) (row : A) (made : B) (rows : List B)
    → Contains flow.rows row → work row ≡ Ok rows → Contains rows made → Contains (each work flow).rows made
are_given work flow row made rows h e g = spread_given (λ r. given (work r)) flow row made h (rw e g)

two_tests : {A : Type 0} (t u : Truth) (next stop : A) → chosen t (chosen u next stop) stop ≡ chosen u (chosen t next stop) stop
two_tests True True next stop = refl
two_tests True False next stop = refl
two_tests True Unknown next stop = refl
two_tests False True next stop = refl
two_tests False False next stop = refl
two_tests False Unknown next stop = refl
two_tests Unknown True next stop = refl
two_tests Unknown False next stop = refl
two_tests Unknown Unknown next stop = refl

pub change_places : (c d : Condition) (rest : List Condition) (env : Environment) (t u : Truth)
    → truth_of c env ≡ Ok t → truth_of d env ≡ Ok u → passes (c ∷ d ∷ rest) env ≡ passes (d ∷ c ∷ rest) env
change_places c d rest env t u ht hu = rw (ht, hu) (two_tests t u (passes rest env) (Ok false))

pub same_turned : (row other : List Val) → IsSameOutcome (Rows (row ∷ other ∷ [])) (Rows (other ∷ row ∷ []))
same_turned row other = IsPermutation-append_comm (row ∷ []) (other ∷ [])

pub not_counted : (row : List Val) → IsSameOutcome (Rows (row ∷ row ∷ [])) (Rows (row ∷ [])) → ⊥
not_counted row h = omega (arith, length_permutation (row ∷ row ∷ []) (row ∷ []) h)

pub not_other_code : IsSameOutcome (Raises (DivZero ∷ [])) (Raises (OutOfRange ∷ [])) → ⊥
not_other_code h = let same : OutOfRange ≡ DivZero = contains_one OutOfRange DivZero (h.0 DivZero (contains_itself DivZero)) in cc
