-- `*` in a grouped query has at most as many columns as GROUP BY: each is grouped, and they differ.
use Rattle.std.proofs.Common.{◌≡◌, ℕ, suc, ◌+◌, ◌*◌, ◌≤◌, ◌<◌, ◌==◌, ◌||◌, Bool, true, false, List, [], ◌∷◌, ◌++◌, length, position, Option, Some, None, is_none, option_map, slice_get, refl, sym, ap, ◌∙◌, arith, inl, inr}
use Rattle.std.specs.Prelude.{if◌then◌else◌, codes}
use Rattle.std.specs.List.{AllByRecursion, list_any}
use Rattle.std.specs.Option.{option_and_then}
use Rattle.std.proofs.lemmas.Bool.{cases_Bool, or_parts}
use Rattle.std.proofs.lemmas.Bool.Decides.{nat_tests}
use Rattle.std.proofs.lemmas.List.{length-append}
use Rattle.std.proofs.lemmas.List.Folds.{list_any-append}
use Rattle.std.proofs.lemmas.List.Sums.{sum_by-cons}
use Rattle.qw_types.specs.declared.schema.Column.{Column}
use Rattle.qw_types.specs.declared.schema.Table.{Table}
use Rattle.qw_scalar.specs.Expression as meaning
use Rattle.qw_grouped.specs.declared.query.GroupedColumn.{GroupedColumn}
use Rattle.qw_ast.specs.Syntax as written
use Rattle.qw_typer.specs.declared.fault.FaultKind.TheVariants.{NotGrouped}
use Rattle.qw_typer.specs.Grouping.{has_ungrouped, starred_faults}
use Rattle.qw_typer.specs.Meant.{Entry, Grouping, column_grouped}
use Rattle.qw_typer.specs.Typed.{columns_from, columns_meant, entries_from, in_scope}
use Rattle.qw_typer.specs.Inner.Queries.{HaveTables}
use Rattle.qw_typer.specs.Inner.Sizes.{column_count}
use Rattle.qw_typer.proofs.SoundLemmas.{all_both, not_where}

-- ---- numbers in a list of columns

abbrev has : ℕ → List GroupedColumn → Bool
has i columns = list_any (λ (c : GroupedColumn). c.number == i) columns

-- without the first of this number
abbrev without : ℕ → List GroupedColumn → List GroupedColumn
without i [] = []
without i (c ∷ cs) = if c.number == i then cs else c ∷ without i cs

fewer : (i : ℕ) (cs : List GroupedColumn) → has i cs ≡ true → suc (length (without i cs)) ≤ length cs
fewer i [] h = absurd cc
fewer i (c ∷ cs) h = by_first (fewer i cs) (c.number == i) refl
  where
    by_first : (has i cs ≡ true → suc (length (without i cs)) ≤ length cs) → (b : Bool) → (c.number == i) ≡ b → suc (length (if b then cs else c ∷ without i cs)) ≤ suc (length cs)
    by_first behind true e = omega arith
    by_first behind false e =
        let later : has i cs ≡ true = sym (ap (λ (b : Bool). b || has i cs) e) ∙ h in
        let few = behind later in
        omega (arith, few)

other : (n i j : ℕ) → (n == i) ≡ true → i < j → (n == j) ≡ false
other n i j e lt = grind (arith, nat_tests)

kept : (i j : ℕ) (cs : List GroupedColumn) → i < j → has j cs ≡ true → has j (without i cs) ≡ true
kept i j [] lt h = absurd cc
kept i j (c ∷ cs) lt h = by_first (kept i j cs lt) (c.number == i) refl
  where
    by_here : (has j cs ≡ true → has j (without i cs) ≡ true) → (b : Bool) → (c.number == j) ≡ b → (b || has j (without i cs)) ≡ true
    by_here behind true f = refl
    by_here behind false f = behind (sym (ap (λ (b : Bool). b || has j cs) f) ∙ h)

    by_first : (has j cs ≡ true → has j (without i cs) ≡ true) → (b : Bool) → (c.number == i) ≡ b → has j (if b then cs else c ∷ without i cs) ≡ true
    by_first behind true e = sym (ap (λ (b : Bool). b || has j cs) (other c.number i j e lt)) ∙ h
    by_first behind false e = by_here behind (c.number == j) refl

-- numbers that grow, from one on
abbrev Grows : ℕ → List ℕ → Type 0
Grows least [] = Unit {0}
Grows least (i ∷ is') = (least ≤ i) × Grows (suc i) is'

lower : (a b : ℕ) (ks : List ℕ) → a ≤ b → Grows b ks → Grows a ks
lower a b [] le k = tt
lower a b (x ∷ xs) le k = (let from = k.0 in omega (arith, le, from), k.1)

all_kept : (i : ℕ) (is' : List ℕ) (cs : List GroupedColumn) → Grows (suc i) is' → AllByRecursion (λ (j : ℕ). has j cs ≡ true) is' → AllByRecursion (λ (j : ℕ). has j (without i cs) ≡ true) is'
all_kept i [] cs g h = tt
all_kept i (j ∷ is') cs g h = (kept i j cs g.0 h.0, all_kept i is' cs (lower (suc i) (suc j) is' (more g.0) g.1) h.1)
  where
    more : suc i ≤ j → suc i ≤ suc j
    more le = omega (arith, le)

no_more : (least : ℕ) (is' : List ℕ) (cs : List GroupedColumn) → Grows least is' → AllByRecursion (λ (j : ℕ). has j cs ≡ true) is' → length is' ≤ length cs
no_more least [] cs g h = omega arith
no_more least (i ∷ is') cs g h =
    let few = fewer i cs h.0 in
    let others = no_more (suc i) is' (without i cs) g.1 (all_kept i is' cs g.1 h.1) in
    omega (arith, few, others)

-- ---- those of `*`

none_found : (p : GroupedColumn → Bool) (cs : List GroupedColumn) → list_any p cs ≡ false → position p cs ≡ None
none_found p [] e = refl
none_found p (c ∷ cs) e = by_first (none_found p cs) (p c) refl e
  where
    by_first : (list_any p cs ≡ false → position p cs ≡ None) → (b : Bool) → p c ≡ b → (b || list_any p cs) ≡ false → position p (c ∷ cs) ≡ None
    by_first behind true q e = absurd cc
    by_first behind false q e = grind (arith, q, behind e)

found_there : (p : GroupedColumn → Bool) (cs : List GroupedColumn) (f : ℕ → Option meaning.Expression) → is_none (option_and_then f (position p cs)) ≡ false → list_any p cs ≡ true
found_there p cs f h = elim (cases_Bool (list_any p cs)) [
  | inl e ↦ e
  | inr e ↦ absurd (never (nowhere cs e (λ o. is_none (option_and_then f o) ≡ false) h))
]
  where
    never : true ≡ false → ⊥
    never e = cc

    nowhere : (cs : List GroupedColumn) → list_any p cs ≡ false → (P : Option ℕ → Type 0) → P (position p cs) → P None
    nowhere cs e P h = rw (none_found p cs e) at h

-- none of two lists of columns
pub ungrouped_both : (g : Grouping) (xs ys : List meaning.Expression) → has_ungrouped g (xs ++ ys) ≡ false → (has_ungrouped g xs ≡ false) × (has_ungrouped g ys ≡ false)
ungrouped_both g xs ys h = or_parts (has_ungrouped g xs) (has_ungrouped g ys) (sym (list_any-append (λ (e : meaning.Expression). is_none (column_grouped g e)) xs ys) ∙ h)

abbrev numbers_from : ℕ → List Column → List ℕ
numbers_from place [] = []
numbers_from place (c ∷ cs) = place ∷ numbers_from (suc place) cs

abbrev numbers_of : List Entry → List ℕ
numbers_of [] = []
numbers_of (e ∷ es) = numbers_from (64 * e.number) e.columns ++ numbers_of es

columns_there : (g : Grouping) (place : ℕ) (columns : List Column) → has_ungrouped g (columns_from place columns) ≡ false → AllByRecursion (λ (j : ℕ). has j g.columns ≡ true) (numbers_from place columns)
columns_there g place [] h = tt
columns_there g place (c ∷ columns) h =
    let q = or_parts (is_none (column_grouped g (meaning.column place c.ty))) (has_ungrouped g (columns_from (suc place) columns)) h in
    (found_there (λ (d : GroupedColumn). d.number == place) g.columns (λ (k : ℕ). option_map (λ (d : GroupedColumn). meaning.column k d.ty) (slice_get g.columns k)) q.0, columns_there g (suc place) columns q.1)

all_there : (g : Grouping) (entries : List Entry) → has_ungrouped g (columns_meant entries) ≡ false → AllByRecursion (λ (j : ℕ). has j g.columns ≡ true) (numbers_of entries)
all_there g [] h = tt
all_there g (e ∷ es) h =
    let q = ungrouped_both g (columns_from (64 * e.number) e.columns) (columns_meant es) h in
    all_both (λ (j : ℕ). has j g.columns ≡ true) (numbers_from (64 * e.number) e.columns) (numbers_of es) (columns_there g (64 * e.number) e.columns q.0) (all_there g es q.1)

-- what grows behind a block of numbers
grow_on : (place : ℕ) (columns : List Column) (others : List ℕ) → Grows (place + length columns) others → Grows place (numbers_from place columns ++ others)
grow_on place [] others h = lower place (place + 0) others (omega arith) h
grow_on place (c ∷ columns) others h =
    (omega arith, grow_on (suc place) columns others (lower (suc place + length columns) (place + length (c ∷ columns)) others (omega arith) h))

numbers_grow : (schema : List Table) (index : ℕ) (es : List written.Entry) → HaveTables (entries_from schema index es) → Grows (64 * index) (numbers_of (entries_from schema index es))
numbers_grow schema index [] tables = tt
numbers_grow schema index (e ∷ es) tables =
    let few = tables.0.few in
    let columns = (in_scope schema index e).columns in
    let others = numbers_of (entries_from schema (index + 1) es) in
    grow_on (64 * index) columns others (lower (64 * index + length columns) (64 * (index + 1)) others (omega (arith, few)) (numbers_grow schema (index + 1) es tables.1))

many_numbers : (place : ℕ) (columns : List Column) → length (numbers_from place columns) ≡ length columns
many_numbers place [] = refl
many_numbers place (c ∷ columns) = ap suc (many_numbers (suc place) columns)

as_many : (entries : List Entry) → length (numbers_of entries) ≡ column_count entries
as_many [] = refl
as_many (e ∷ es) =
    let both = length-append (numbers_from (64 * e.number) e.columns) (numbers_of es) in
    let one = many_numbers (64 * e.number) e.columns in
    let others = as_many es in
    let count = sum_by-cons (λ (f : Entry). length f.columns) e es in
    omega (arith, both, one, others, count)

pub few_starred : (schema : List Table) (es : List written.Entry) (g : Grouping) → HaveTables (entries_from schema 0 es) → starred_faults (Some g) (columns_meant (entries_from schema 0 es)) ≡ [] → column_count (entries_from schema 0 es) ≤ length g.columns
few_starred schema es g tables h =
    let entries = entries_from schema 0 es in
    let few = no_more (64 * 0) (numbers_of entries) g.columns (numbers_grow schema 0 es tables) (all_there g entries (not_where (has_ungrouped g (columns_meant entries)) NotGrouped (codes "*") h)) in
    let count = as_many entries in
    omega (arith, few, count)
