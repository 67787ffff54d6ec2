-- The row of an entry has the values of the columns that are kept, and nulls elsewhere.
use Rattle.std.proofs.Common.{◌≡◌, ◌∙◌, ◌<◌, ◌+◌, ◌-◌, ◌⊎◌, ℕ, zero, suc, nat_eq, Bool, true, false, ◌&&◌, ◌||◌, if◌then◌else◌, List, [], ◌∷◌, ◌++◌, map, length, replicate, drop, take, Result, Ok, Err, inl, inr, refl, ap, arith}
use Rattle.std.specs.List as list
use Rattle.std.proofs.lemmas.Bool.Decides.{nat_tests}
use Rattle.std.proofs.lemmas.Map.Views.{any-filter_same}
use Rattle.qw_types.specs.Arithmetic.{◌>>=◌}
use Rattle.qw_types.specs.declared.code.Code.{Code}
use Rattle.qw_types.specs.declared.value.Val.{Val}
use Rattle.qw_types.specs.declared.value.Val.TheVariants.{Null, Num, Date, Text}
use Rattle.qw_scalar.specs.Evaluation.{at_row, Environment, value_of}
use Rattle.qw_scalar.specs.Expression.{Expression}
use Rattle.qw_meaning.specs.Flow.{values_of}
use Rattle.qw_meaning.specs.From.{first_of}
use Rattle.qw_meaning.proofs.FromLemmas.{cell, cell_before, cell_behind, cell_past, first_of_null, merged_cell}
use Rattle.qw_physical.specs.Courses.{column_of, row_of}
use Rattle.qw_physical.specs.Reads.{is_read}
use Rattle.qw_physical.specs.declared.pipeline.ReadColumn.{ReadColumn}

abbrev pub kept_values : List ReadColumn → List Val → List Val
kept_values columns row = map (λ (c : ReadColumn). cell row c.number) columns

pub nat_is : (a b : ℕ) → nat_eq a b ≡ true → a ≡ b
nat_is a b h = grind (arith, nat_tests)

nat_is_not : (a b : ℕ) → nat_eq a b ≡ false → a ≡ b → ⊥
nat_is_not a b h e = grind (arith, nat_tests)

-- a value alone at a place
alone_there : (n i : ℕ) (v : Val) → n ≡ i → cell (replicate n Null ++ v ∷ []) i ≡ v
alone_there n i v e = ap (cell (replicate n Null ++ v ∷ [])) (omega (arith, e)) ∙ cell_behind n 0 (v ∷ [])

alone_elsewhere : (n i : ℕ) (v : Val) → (n ≡ i → ⊥) → cell (replicate n Null ++ v ∷ []) i ≡ Null
alone_elsewhere n i v h = one (sides n i)
  where
    sides : (a b : ℕ) → (b < a) ⊎ ((a ≡ b) ⊎ (a < b))
    sides a b = grind arith

    one : (i < n) ⊎ ((n ≡ i) ⊎ (n < i)) → cell (replicate n Null ++ v ∷ []) i ≡ Null
    one (inl before) = cell_before n i (v ∷ []) before
    one (inr (inl same)) = absurd (h same)
    one (inr (inr behind)) =
        let far : i ≡ n + (i - n) = omega (arith, behind) in
        ap (cell (replicate n Null ++ v ∷ [])) far ∙ cell_behind n (i - n) (v ∷ []) ∙ cell_past (v ∷ []) (i - n) (omega (arith, behind))

first_of_same : (v : Val) (b : Bool) → first_of v (if b then v else Null) ≡ v
first_of_same v false = first_of_null v
first_of_same Null true = refl
first_of_same (Num n) true = refl
first_of_same (Date d) true = refl
first_of_same (Text t) true = refl

pub row_of_cell : (columns : List ReadColumn) (row : List Val) (i : ℕ) → cell (row_of columns (kept_values columns row)) i ≡ (if is_read columns i then cell row i else Null)
row_of_cell [] row i = refl
row_of_cell (c ∷ columns) row i =
    merged_cell (replicate c.number Null ++ cell row c.number ∷ []) (row_of columns (kept_values columns row)) i
    ∙ ap (first_of (cell (replicate c.number Null ++ cell row c.number ∷ []) i)) (row_of_cell columns row i)
    ∙ one (nat_eq c.number i) refl
  where
    one : (b : Bool) → nat_eq c.number i ≡ b
        → first_of (cell (replicate c.number Null ++ cell row c.number ∷ []) i) (if is_read columns i then cell row i else Null) ≡ (if b || is_read columns i then cell row i else Null)
    one true e =
        let same : c.number ≡ i = nat_is c.number i e in
        ap (λ (v : Val). first_of v (if is_read columns i then cell row i else Null)) (alone_there c.number i (cell row c.number) same ∙ ap (cell row) same)
        ∙ first_of_same (cell row i) (is_read columns i)
    one false e = ap (λ (v : Val). first_of v (if is_read columns i then cell row i else Null)) (alone_elsewhere c.number i (cell row c.number) (nat_is_not c.number i e))

-- of the columns those whose number passes a test
pub filtered_number : (test : ℕ → Bool) (columns : List ReadColumn) (i : ℕ) → is_read (list.filter (λ (c : ReadColumn). test c.number) columns) i ≡ (test i && is_read columns i)
filtered_number test columns i =
    any-filter_same (λ (c : ReadColumn). nat_eq c.number i) (λ (c : ReadColumn). test c.number) (test i) (λ (c : ReadColumn) e. ap test (nat_is c.number i e)) columns

-- ---- the values of an entry

pub columns_values : (columns : List ReadColumn) (row : List Val) → values_of (map column_of columns) (at_row row) ≡ Ok (kept_values columns row)
columns_values [] row = refl
columns_values (c ∷ columns) row = rw (columns_values columns row) refl

values_joined : (r : Result Val Code) (q more : Result (List Val) Code) (vs ws : List Val)
    → (r >>= (λ value. q >>= (λ values. Ok (value ∷ values)))) ≡ Ok vs → ((us : List Val) → q ≡ Ok us → more ≡ Ok (us ++ ws))
    → (r >>= (λ value. more >>= (λ values. Ok (value ∷ values)))) ≡ Ok (vs ++ ws)
values_joined (Ok v) (Ok us) more vs ws h rest =
    let same : v ∷ us ≡ vs = cc in
    rw (rest us refl) (ap (λ (xs : List Val). Ok (xs ++ ws)) same)
values_joined (Ok v) (Err code) more vs ws h rest = absurd cc
values_joined (Err code) q more vs ws h rest = absurd cc

pub values_append : (es fs : List Expression) (env : Environment) (vs ws : List Val) → values_of es env ≡ Ok vs → values_of fs env ≡ Ok ws → values_of (es ++ fs) env ≡ Ok (vs ++ ws)
values_append [] fs env vs ws e f =
    let none : [] ≡ vs = cc in
    f ∙ ap (λ (xs : List Val). Ok (xs ++ ws)) none
values_append (x ∷ es) fs env vs ws e f =
    values_joined (value_of x env) (values_of es env) (values_of (es ++ fs) env) vs ws e (λ us hq. values_append es fs env us ws hq f)

pub front_taken : (n : ℕ) (vs ws : List Val) → length vs ≡ n → take n (vs ++ ws) ≡ vs
front_taken zero [] ws e = refl
front_taken zero (v ∷ vs) ws e = absurd cc
front_taken (suc n) [] ws e = absurd cc
front_taken (suc n) (v ∷ vs) ws e = ap (λ (xs : List Val). v ∷ xs) (front_taken n vs ws (omega (arith, e)))

pub front_dropped : (n : ℕ) (vs ws : List Val) → length vs ≡ n → drop n (vs ++ ws) ≡ ws
front_dropped zero [] ws e = refl
front_dropped zero (v ∷ vs) ws e = absurd cc
front_dropped (suc n) [] ws e = absurd cc
front_dropped (suc n) (v ∷ vs) ws e = front_dropped n vs ws (omega (arith, e))
