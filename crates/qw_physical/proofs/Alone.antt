-- Whether an outer probe has a row go on by itself, told by any list of the entries; and a row of the left side that is completed.
use Rattle.std.proofs.Common.{◌≡◌, ◌∙◌, Bool, true, false, not, ◌&&◌, ◌||◌, if◌then◌else◌, List, [], ◌∷◌, ◌++◌, Result, Ok, Err, refl, ap, ap₂}
use Rattle.std.specs.List.{AllByRecursion, flat_map, list_any}
use Rattle.std.proofs.lemmas.List.Folds.{list_any-append}
use Rattle.qw_types.specs.Arithmetic.{◌>>=◌}
use Rattle.qw_types.specs.declared.code.Code.{Code}
use Rattle.qw_types.specs.declared.value.Val.{Val}
use Rattle.qw_meaning.specs.Flow.{codes_given, rows_given}
use Rattle.qw_meaning.specs.From.{completed}
use Rattle.qw_table.specs.Joins.{have_values}
use Rattle.qw_physical.specs.Courses.{is_alone, isnt_failed, meets}
use Rattle.qw_physical.specs.Physical.{Probe}

-- ---- tests of lists

pub any_same : {A : Type 0} (f g : A → Bool) (xs : List A) → ((x : A) → f x ≡ g x) → list_any f xs ≡ list_any g xs
any_same f g [] h = refl
any_same f g (x ∷ xs) h = ap₂ (λ (a b : Bool). a || b) (h x) (any_same f g xs h)

pub any_more : {A : Type 0} (P : A → Type 0) (f g : A → Bool) (xs : List A) → ((x : A) → P x → f x ≡ g x) → AllByRecursion P xs → list_any f xs ≡ list_any g xs
any_more P f g [] h all = refl
any_more P f g (x ∷ xs) h all = ap₂ (λ (a b : Bool). a || b) (h x all.0) (any_more P f g xs h all.1)

pub any_flat : {A B : Type 0} (f : B → Bool) (g : A → List B) (xs : List A) → list_any f (flat_map g xs) ≡ list_any (λ x. list_any f (g x)) xs
any_flat f g [] = refl
any_flat f g (x ∷ xs) = list_any-append f (g x) (flat_map g xs) ∙ ap (λ (b : Bool). list_any f (g x) || b) (any_flat f g xs)

pub any_none : {A : Type 0} (f : A → Bool) (xs : List A) → AllByRecursion (λ x. f x ≡ false) xs → list_any f xs ≡ false
any_none f [] h = refl
any_none f (x ∷ xs) h = ap₂ (λ (a b : Bool). a || b) h.0 (any_none f xs h.1)

-- ---- two probes

pub alone_is : (p q : Probe) (row other key : List Val) (es fs : List (List Val)) → p.outer ≡ q.outer → list_any (meets p row key) es ≡ list_any (meets q other key) fs
    → is_alone p row key es ≡ is_alone q other key fs
alone_is p q row other key es fs outer met = ap₂ (λ (o m : Bool). o && not (have_values key && m)) outer met

-- ---- rows and exceptions of pairs

append_none : {A : Type 0} (xs ys : List A) → xs ++ ys ≡ [] → (xs ≡ []) × (ys ≡ [])
append_none [] ys h = (refl, h)
append_none (x ∷ xs) ys h = absurd cc

-- of pairs, whether keys meet and whether the others of ON are passed
module _ (meet : List Val → Bool) (passed : List Val → Result Bool Code) (pair : List Val → List Val) where
  abbrev pub pair_rows : List Val → List (List Val)
  pair_rows r = if meet r then rows_given (passed r >>= (λ b. Ok (if b then pair r ∷ [] else []))) else []

  abbrev pub pair_codes : List Val → List Code
  pair_codes r = if meet r then codes_given (passed r >>= (λ b. Ok (if b then pair r ∷ [] else []))) else []

  abbrev pub is_partner : List Val → Bool
  is_partner r = meet r && isnt_failed (passed r)

  one_none : (r : List Val) → is_partner r ≡ false → (pair_rows r ≡ []) × (pair_codes r ≡ [])
  one_none r = one (meet r) (passed r)
    where
      one : (b : Bool) (q : Result Bool Code) → (b && isnt_failed q) ≡ false
          → ((if b then rows_given (q >>= (λ c. Ok (if c then pair r ∷ [] else []))) else []) ≡ []) × ((if b then codes_given (q >>= (λ c. Ok (if c then pair r ∷ [] else []))) else []) ≡ [])
      one false q h = (refl, refl)
      one true (Ok true) h = absurd cc
      one true (Ok false) h = (refl, refl)
      one true (Err code) h = absurd cc

  one_some : (r : List Val) → pair_rows r ≡ [] → pair_codes r ≡ [] → is_partner r ≡ false
  one_some r = one (meet r) (passed r)
    where
      one : (b : Bool) (q : Result Bool Code) → (if b then rows_given (q >>= (λ c. Ok (if c then pair r ∷ [] else []))) else []) ≡ []
          → (if b then codes_given (q >>= (λ c. Ok (if c then pair r ∷ [] else []))) else []) ≡ [] → (b && isnt_failed q) ≡ false
      one false q h g = refl
      one true (Ok true) h g = absurd cc
      one true (Ok false) h g = refl
      one true (Err code) h g = absurd cc

  -- of no partner neither rows nor exceptions come, and of one some do
  pub none_found : (rs : List (List Val)) → list_any is_partner rs ≡ false → (flat_map pair_rows rs ≡ []) × (flat_map pair_codes rs ≡ [])
  none_found [] h = (refl, refl)
  none_found (r ∷ rs) h = one (is_partner r) refl (none_found rs) h
    where
      one : (b : Bool) → is_partner r ≡ b → (list_any is_partner rs ≡ false → (flat_map pair_rows rs ≡ []) × (flat_map pair_codes rs ≡ [])) → (b || list_any is_partner rs) ≡ false
          → (pair_rows r ++ flat_map pair_rows rs ≡ []) × (pair_codes r ++ flat_map pair_codes rs ≡ [])
      one true e go g = absurd cc
      one false e go g =
          let here = one_none r e in
          let rest = go g in
          (ap₂ (λ (a b : List (List Val)). a ++ b) here.0 rest.0, ap₂ (λ (a b : List Code). a ++ b) here.1 rest.1)

  pub found_none : (rs : List (List Val)) → flat_map pair_rows rs ≡ [] → flat_map pair_codes rs ≡ [] → list_any is_partner rs ≡ false
  found_none [] h g = refl
  found_none (r ∷ rs) h g =
      let rows = append_none (pair_rows r) (flat_map pair_rows rs) h in
      let codes = append_none (pair_codes r) (flat_map pair_codes rs) g in
      ap₂ (λ (a b : Bool). a || b) (one_some r rows.0 codes.0) (found_none rs rows.1 codes.1)

  completed_some : (row : List Val) (rows : List (List Val)) (codes : List Code) → (rows ≡ [] → codes ≡ [] → ⊥) → completed row rows codes ≡ record { rows = rows; codes = codes }
  completed_some row [] [] h = absurd (h refl refl)
  completed_some row [] (code ∷ codes) h = refl
  completed_some row (r ∷ rows) codes h = refl

  -- so a row that has a partner is left as its pairs are, and one that has none stands for itself
  pub with_partner : (row : List Val) (rs : List (List Val)) → list_any is_partner rs ≡ true
      → completed row (flat_map pair_rows rs) (flat_map pair_codes rs) ≡ record { rows = flat_map pair_rows rs; codes = flat_map pair_codes rs }
  with_partner row rs e =
      completed_some row (flat_map pair_rows rs) (flat_map pair_codes rs) (λ h g. (let no : list_any is_partner rs ≡ false = found_none rs h g in cc))

  pub without_partner : (row : List Val) (rs : List (List Val)) → list_any is_partner rs ≡ false
      → completed row (flat_map pair_rows rs) (flat_map pair_codes rs) ≡ record { rows = row ∷ []; codes = [] }
  without_partner row rs e =
      let none = none_found rs e in
      ap₂ (λ (rows : List (List Val)) (codes : List Code). completed row rows codes) none.0 none.1
