-- What expressions of a pipeline name: columns that are seen, which are those of its entry and those that lookups keep.
use Rattle.std.proofs.Common.{◌≡◌, ◌∙◌, ◌⊎◌, ℕ, zero, suc, ◌/◌, nat_eq, Bool, true, false, if◌then◌else◌, Contains, List, [], ◌∷◌, ◌++◌, map, inl, inr, refl, sym, ap, subst, arith}
use Rattle.std.specs.List.{AllByRecursion}
use Rattle.std.specs.List as list
use Rattle.qw_types.specs.declared.value.Ty.{Ty}
use Rattle.qw_scalar.specs.Columns.{HasColumns, HaveColumns}
use Rattle.qw_scalar.specs.Expression.{Expression, Condition}
use Rattle.qw_scalar.proofs.ColumnLemmas.{columns_more, conditions_more}
use Rattle.qw_algebra.specs.Columns.{condition_names_only, names_only}
use Rattle.qw_algebra.proofs.Lists.{all_map, all_more}
use Rattle.qw_leaves.proofs.LeafLemmas.{columns_both, conditions_both}
use Rattle.qw_rewrite.proofs.Names.{names_has, names_have}
use Rattle.qw_physical.specs.Courses.{column_of, sink_values}
use Rattle.qw_physical.specs.Named.{typed_numbers}
use Rattle.qw_physical.specs.Physical.{Operator, Pipeline, filter as filter_by, probe}
use Rattle.qw_physical.specs.declared.pipeline.ReadColumn.{ReadColumn}

-- ---- columns that are seen

-- one of these columns, each its number and its type
abbrev pub IsAmong : List (ℕ × Ty) → ℕ → Ty → Type 0
IsAmong columns i ty = Contains columns (i, ty)

-- an expression names only these
abbrev pub Shows : List ReadColumn → Expression → Type 0
Shows seen e = HasColumns (IsAmong (typed_numbers seen)) e

abbrev pub ShowsIn : List ReadColumn → Condition → Type 0
ShowsIn seen c = HaveColumns (IsAmong (typed_numbers seen)) c

-- so do those of a pipeline, where lookups add what they keep, and the values of its sink
abbrev pub Sees : List ReadColumn → List Operator → List Expression → Type 0
Sees seen [] values = AllByRecursion (Shows seen) values
Sees seen (filter_by conjuncts ∷ operators) values = AllByRecursion (ShowsIn seen) conjuncts × Sees seen operators values
Sees seen (probe p ∷ operators) values =
    AllByRecursion (Shows seen) p.key × (AllByRecursion (ShowsIn (p.kept ++ seen)) p.on × Sees (p.kept ++ seen) operators values)

-- those that pass a test, by their numbers
abbrev pub owned : (ℕ → Bool) → List ReadColumn → List ReadColumn
owned passes columns = list.filter (λ (c : ReadColumn). passes c.number) columns

abbrev pub of_entry : (entry : ℕ) → List ReadColumn → List ReadColumn
of_entry entry columns = owned (λ i. nat_eq entry (i / 64)) columns

abbrev pub IsSeen : List ReadColumn → Pipeline → Type 0
IsSeen columns p = Sees (of_entry p.entry columns) p.operators (sink_values p.sink)

-- ---- among
abbrev pub IsColumn : ReadColumn → ℕ → Ty → Type 0
IsColumn c i ty = ◌≡◌ {A = ℕ × Ty} (c.number, c.ty) (i, ty)

pub front_is : (p : ℕ × Ty) (ps : List (ℕ × Ty)) (q : ℕ × Ty) → p ≡ q → Contains (p ∷ ps) q
front_is p ps q e = (0, omega arith, e)

pub behind : (p : ℕ × Ty) (ps : List (ℕ × Ty)) (q : ℕ × Ty) → Contains ps q → Contains (p ∷ ps) q
behind p ps q (k, less, there) = (suc k, omega (arith, less), there)

pub at_either : (p : ℕ × Ty) (ps : List (ℕ × Ty)) (q : ℕ × Ty) → Contains (p ∷ ps) q → (p ≡ q) ⊎ Contains ps q
at_either p ps q (zero, less, there) = inl there
at_either p ps q (suc k, less, there) = inr (k, omega (arith, less), there)

pub none_among : (q : ℕ × Ty) → Contains [] q → ⊥
none_among q (k, less, there) = omega (arith, less)

abbrev pub Within : List ReadColumn → List ReadColumn → Type 0
Within less more = (i : ℕ) (ty : Ty) → IsAmong (typed_numbers less) i ty → IsAmong (typed_numbers more) i ty

pub within_kept : (kept less more : List ReadColumn) → Within less more → Within (kept ++ less) (kept ++ more)
within_kept [] less more w i ty h = w i ty h
within_kept (c ∷ kept) less more w i ty h = one (at_either (c.number, c.ty) (typed_numbers (kept ++ less)) (i, ty) h) (λ g. within_kept kept less more w i ty g)
  where
    one : IsColumn c i ty ⊎ IsAmong (typed_numbers (kept ++ less)) i ty → (IsAmong (typed_numbers (kept ++ less)) i ty → IsAmong (typed_numbers (kept ++ more)) i ty)
        → IsAmong (typed_numbers (c ∷ (kept ++ more))) i ty
    one (inl e) rest = front_is (c.number, c.ty) (typed_numbers (kept ++ more)) (i, ty) e
    one (inr g) rest = behind (c.number, c.ty) (typed_numbers (kept ++ more)) (i, ty) (rest g)

pub within_left : (xs ys : List ReadColumn) → Within xs (xs ++ ys)
within_left [] ys i ty h = absurd (none_among (i, ty) h)
within_left (c ∷ xs) ys i ty h = one (at_either (c.number, c.ty) (typed_numbers xs) (i, ty) h) (λ g. within_left xs ys i ty g)
  where
    one : IsColumn c i ty ⊎ IsAmong (typed_numbers xs) i ty → (IsAmong (typed_numbers xs) i ty → IsAmong (typed_numbers (xs ++ ys)) i ty) → IsAmong (typed_numbers (c ∷ (xs ++ ys))) i ty
    one (inl e) rest = front_is (c.number, c.ty) (typed_numbers (xs ++ ys)) (i, ty) e
    one (inr g) rest = behind (c.number, c.ty) (typed_numbers (xs ++ ys)) (i, ty) (rest g)

pub within_right : (xs ys : List ReadColumn) → Within ys (xs ++ ys)
within_right [] ys i ty h = h
within_right (c ∷ xs) ys i ty h = behind (c.number, c.ty) (typed_numbers (xs ++ ys)) (i, ty) (within_right xs ys i ty h)

pub among_owned : (passes : ℕ → Bool) (columns : List ReadColumn) (i : ℕ) (ty : Ty) → passes i ≡ true → IsAmong (typed_numbers columns) i ty → IsAmong (typed_numbers (owned passes columns)) i ty
among_owned passes [] i ty t h = absurd (none_among (i, ty) h)
among_owned passes (c ∷ columns) i ty t h = one (passes c.number) refl (at_either (c.number, c.ty) (typed_numbers columns) (i, ty) h) (λ g. among_owned passes columns i ty t g)
  where
    rest : List ReadColumn
    rest = owned passes columns

    one : (b : Bool) → passes c.number ≡ b → IsColumn c i ty ⊎ IsAmong (typed_numbers columns) i ty → (IsAmong (typed_numbers columns) i ty → IsAmong (typed_numbers rest) i ty)
        → IsAmong (typed_numbers (if b then c ∷ rest else rest)) i ty
    one true e (inl same) later = front_is (c.number, c.ty) (typed_numbers rest) (i, ty) same
    one true e (inr g) later = behind (c.number, c.ty) (typed_numbers rest) (i, ty) (later g)
    one false e (inl same) later =
        let yes : passes c.number ≡ true = subst (λ (n : ℕ). passes n ≡ true) (sym (ap (λ (p : ℕ × Ty). p.0) same)) t in
        let no : true ≡ false = sym yes ∙ e in
        absurd (let clash = no in cc)
    one false e (inr g) later = later g

pub owned_among : (passes : ℕ → Bool) (columns : List ReadColumn) (i : ℕ) (ty : Ty) → IsAmong (typed_numbers (owned passes columns)) i ty → (passes i ≡ true) × IsAmong (typed_numbers columns) i ty
owned_among passes [] i ty h = absurd (none_among (i, ty) h)
owned_among passes (c ∷ columns) i ty h = one (passes c.number) refl h (λ g. let r = owned_among passes columns i ty g in (r.0, behind (c.number, c.ty) (typed_numbers columns) (i, ty) r.1))
  where
    rest : List ReadColumn
    rest = owned passes columns

    Later : Type 0
    Later = IsAmong (typed_numbers rest) i ty → (passes i ≡ true) × IsAmong (typed_numbers (c ∷ columns)) i ty

    here : passes c.number ≡ true → IsColumn c i ty ⊎ IsAmong (typed_numbers rest) i ty → Later → (passes i ≡ true) × IsAmong (typed_numbers (c ∷ columns)) i ty
    here e (inl same) later = (subst (λ (n : ℕ). passes n ≡ true) (ap (λ (p : ℕ × Ty). p.0) same) e, front_is (c.number, c.ty) (typed_numbers columns) (i, ty) same)
    here e (inr g) later = later g

    one : (b : Bool) → passes c.number ≡ b → IsAmong (typed_numbers (if b then c ∷ rest else rest)) i ty → Later → (passes i ≡ true) × IsAmong (typed_numbers (c ∷ columns)) i ty
    one true e g later = here e (at_either (c.number, c.ty) (typed_numbers rest) (i, ty) g) later
    one false e g later = later g

pub within_owned : (few many : ℕ → Bool) (columns : List ReadColumn) → ((i : ℕ) → few i ≡ true → many i ≡ true) → Within (owned few columns) (owned many columns)
within_owned few many columns more i ty h = let r = owned_among few columns i ty h in among_owned many columns i ty (more i r.0) r.1

pub shows_more : (less more : List ReadColumn) → Within less more → (es : List Expression) → AllByRecursion (Shows less) es → AllByRecursion (Shows more) es
shows_more less more w es h = all_more (Shows less) (Shows more) es (λ e g. columns_more (IsAmong (typed_numbers less)) (IsAmong (typed_numbers more)) w e g) h

pub shows_in_more : (less more : List ReadColumn) → Within less more → (cs : List Condition) → AllByRecursion (ShowsIn less) cs → AllByRecursion (ShowsIn more) cs
shows_in_more less more w cs h = all_more (ShowsIn less) (ShowsIn more) cs (λ c g. conditions_more (IsAmong (typed_numbers less)) (IsAmong (typed_numbers more)) w c g) h

pub sees_more : (operators : List Operator) (values : List Expression) (less more : List ReadColumn) → Within less more → Sees less operators values → Sees more operators values
sees_more [] values less more w h = shows_more less more w values h
sees_more (filter_by conjuncts ∷ operators) values less more w h = (shows_in_more less more w conjuncts h.0, sees_more operators values less more w h.1)
sees_more (probe p ∷ operators) values less more w h =
    let kept : Within (p.kept ++ less) (p.kept ++ more) = within_kept p.kept less more w in
    (shows_more less more w p.key h.0, (shows_in_more (p.kept ++ less) (p.kept ++ more) kept p.on h.1.0, sees_more operators values (p.kept ++ less) (p.kept ++ more) kept h.1.1))

-- columns show themselves
itself_shown : (xs : List ReadColumn) → AllByRecursion (λ (c : ReadColumn). IsAmong (typed_numbers xs) c.number c.ty) xs
itself_shown [] = tt
itself_shown (x ∷ xs) = (
  front_is (x.number, x.ty) (typed_numbers xs) (x.number, x.ty) refl,
  all_more (λ (c : ReadColumn). IsAmong (typed_numbers xs) c.number c.ty) (λ (c : ReadColumn). IsAmong (typed_numbers (x ∷ xs)) c.number c.ty) xs
      (λ c h. behind (x.number, x.ty) (typed_numbers xs) (c.number, c.ty) h) (itself_shown xs),
)

pub columns_shown : (xs : List ReadColumn) → AllByRecursion (Shows xs) (map column_of xs)
columns_shown xs = all_map (Shows xs) column_of xs (itself_shown xs)

-- ---- what is named
module _ (passes : ℕ → Bool) where
  module _ (columns : List ReadColumn) where
    one_shown : (i : ℕ) (ty : Ty) → (passes i ≡ true) × IsAmong (typed_numbers columns) i ty → IsAmong (typed_numbers (owned passes columns)) i ty
    one_shown i ty h = among_owned passes columns i ty h.0 h.1

    pub shown : (e : Expression) → names_only passes e ≡ true → Shows columns e → Shows (owned passes columns) e
    shown e n h =
        columns_more (λ i ty. (passes i ≡ true) × IsAmong (typed_numbers columns) i ty) (IsAmong (typed_numbers (owned passes columns))) one_shown e
        (columns_both (λ i ty. passes i ≡ true) (IsAmong (typed_numbers columns)) e (names_has passes e n) h)

    pub shown_in : (c : Condition) → condition_names_only passes c ≡ true → ShowsIn columns c → ShowsIn (owned passes columns) c
    shown_in c n h =
        conditions_more (λ i ty. (passes i ≡ true) × IsAmong (typed_numbers columns) i ty) (IsAmong (typed_numbers (owned passes columns))) one_shown c
        (conditions_both (λ i ty. passes i ≡ true) (IsAmong (typed_numbers columns)) c (names_have passes c n) h)

    pub all_shown_in : (cs : List Condition) → AllByRecursion (λ c. condition_names_only passes c ≡ true) cs → AllByRecursion (ShowsIn columns) cs → AllByRecursion (ShowsIn (owned passes columns)) cs
    all_shown_in [] n h = tt
    all_shown_in (c ∷ cs) n h = (shown_in c n.0 h.0, all_shown_in cs n.1 h.1)
