-- What is in memory for a layout is what tables of a promise's entries would put there: a module that reads the layout's columns alone can't tell
-- tables that are ready from such ones, which have the same values in these columns, and some value of its type in each other one.
use Rattle.std.proofs.Common.{◌≡◌, ℕ, zero, suc, ◌+◌, ◌^◌, ◌<◌, ◌≤◌, chars, nat_eq, Bool, true, false, ◌&&◌, ◌||◌, if◌then◌else◌, pos, Contains, List, [], ◌∷◌, length, map, Some, slice_get, slice_index_or, refl, sym, ap, ap₂, ◌∙◌, subst, arith}
use Rattle.std.specs.List.{AllByRecursion, AllZip, list_any}
use Rattle.std.proofs.lemmas.Bool.Decides.{nat_tests}
use Rattle.std.proofs.lemmas.List.{length-map}
use Rattle.std.proofs.lemmas.Str.{chars-nil}
use Rattle.std.proofs.lemmas.Option.{get_or_from_slice_get, same_Some, slice_get-get_or, slice_get_read, slice_get_within}
use Rattle.qw_types.specs.Calendar.{IsDate}
use Rattle.qw_types.specs.Contents.{IsOfColumnType, rows_of}
use Rattle.qw_types.specs.Limits.{most_rows}
use Rattle.qw_types.specs.Value.{IsOfTypeOrNull}
use Rattle.qw_types.specs.declared.schema.ColumnType.{ColumnType}
use Rattle.qw_types.specs.declared.value.Ty.{Ty}
use Rattle.qw_types.specs.declared.value.Ty.TheVariants as ty
use Rattle.qw_types.specs.declared.value.Val.{Val}
use Rattle.qw_types.specs.declared.value.Val.TheVariants as val
use Rattle.qw_meaning.specs.Select.{AreOfEntries, Entry, IsOfEntry}
use Rattle.qw_map.specs.Columns.{HoldsColumn, column_values}
use Rattle.qw_map.specs.Layout.{HasColumn, IsReady, IsReadyColumn, Layout}
use Rattle.qw_map.specs.declared.layout.Placed.{Placed}
use Rattle.qw_map.specs.declared.layout.Used.{Used}
use Rattle.qw_map.proofs.TurnFacts.{found-in}
use Rattle.qw_promise.specs.Compiled.{IsUsedOf}
use Rattle.qw_emit.specs.Alike.{AreAlike}

-- ---- rows
-- a value of a type
abbrev some_value : Ty → Val
some_value ty.Integer = val.Num (pos 0)
some_value (ty.Decimal precision scale) = val.Num (pos 0)
some_value ty.Date = val.Date (pos 10101)
some_value (ty.Varchar limit) = val.Text []

abbrev some_of : ColumnType → Val
some_of c = if c.not_null then some_value c.ty else val.Null

abbrev first_of : List Val → Val
first_of [] = val.Null
first_of (v ∷ row) = v

abbrev behind : List Val → List Val
behind [] = []
behind (v ∷ row) = row

-- a row of these columns, with the row's values in those that are kept
abbrev row_made : (keep : ℕ → Bool) → List ColumnType → List Val → List Val
row_made keep [] row = []
row_made keep (c ∷ columns) row = (if keep 0 then first_of row else some_of c) ∷ row_made (λ j. keep (suc j)) columns (behind row)

first_is : (row : List Val) → first_of row ≡ slice_index_or row 0 val.Null
first_is [] = refl
first_is (v ∷ row) = refl

behind_is : (row : List Val) (j : ℕ) → slice_index_or (behind row) j val.Null ≡ slice_index_or row (suc j) val.Null
behind_is [] zero = refl
behind_is [] (suc j) = refl
behind_is (v ∷ row) j = refl

made_kept : (keep : ℕ → Bool) (columns : List ColumnType) (row : List Val) (j : ℕ) → keep j ≡ true → j < length columns
    → slice_index_or (row_made keep columns row) j val.Null ≡ slice_index_or row j val.Null
made_kept keep [] row j kept within = absurd (omega (arith, within))
made_kept keep (c ∷ columns) row zero kept within = rw kept (first_is row)
made_kept keep (c ∷ columns) row (suc j) kept within = made_kept (λ i. keep (suc i)) columns (behind row) j kept (omega (arith, within)) ∙ behind_is row j

made_long : (keep : ℕ → Bool) (columns : List ColumnType) (row : List Val) → length (row_made keep columns row) ≡ length columns
made_long keep [] row = refl
made_long keep (c ∷ columns) row = ap suc (made_long (λ j. keep (suc j)) columns (behind row))

power_positive : (n : ℕ) → 0 < 10 ^ n
power_positive zero = omega arith
power_positive (suc n) = let more = power_positive n in omega (arith, more)

first_of_calendar : IsDate 1 1 1
first_of_calendar = record { first_year = omega arith; last_year = omega arith; first_month = omega arith; last_month = omega arith; first_day = omega arith; last_day = omega arith }

no_characters : length (chars []) ≡ 0
no_characters = ap length chars-nil

value_typed : (t : Ty) (not_null : Bool) → IsOfTypeOrNull t not_null (some_value t)
value_typed ty.Integer n = (omega arith, omega arith)
value_typed (ty.Decimal precision scale) n = power_positive precision
value_typed ty.Date n = record { year = 1; month = 1; day = 1; there = first_of_calendar; packed_is = refl }
value_typed (ty.Varchar limit) n = record { utf8 = ([], (refl, refl)); short = omega (arith, no_characters) }

some_typed : (t : Ty) (not_null : Bool) → IsOfTypeOrNull t not_null (if not_null then some_value t else val.Null)
some_typed t true = value_typed t true
some_typed t false = refl

made_typed : (keep : ℕ → Bool) (columns : List ColumnType) (row : List Val)
    → ((j : ℕ) (c : ColumnType) → keep j ≡ true → slice_get columns j ≡ Some c → IsOfColumnType c (slice_index_or row j val.Null))
    → AllZip IsOfColumnType columns (row_made keep columns row)
made_typed keep [] row typed = tt
made_typed keep (c ∷ columns) row typed = (
  one (keep 0) refl,
  made_typed (λ j. keep (suc j)) columns (behind row) (λ j d kept there. subst (IsOfColumnType d) (sym (behind_is row j)) (typed (suc j) d kept there)),
)
  where
    one : (b : Bool) → keep 0 ≡ b → IsOfColumnType c (if b then first_of row else some_of c)
    one true kept = subst (IsOfColumnType c) (sym (first_is row)) (typed 0 c kept refl)
    one false left = some_typed c.ty c.not_null

-- ---- tables
-- a layout uses a table, and a column of it
abbrev uses : List Used → (table : ℕ) → Bool
uses used t = list_any (λ (u : Used). nat_eq u.table t) used

abbrev keeps : List Used → (table column : ℕ) → Bool
keeps used t j = list_any (λ (u : Used). nat_eq u.table t && nat_eq u.column j) used

-- the columns that entries give a table
abbrev columns_at : List Entry → (table : ℕ) → List ColumnType
columns_at [] t = []
columns_at (e ∷ entries) t = if nat_eq e.table t then e.columns else columns_at entries t

abbrev rows_made : List Used → List Entry → (table : ℕ) → List (List Val) → List (List Val)
rows_made used entries t rows = if uses used t then map (row_made (keeps used t) (columns_at entries t)) rows else []

abbrev made_from : List Used → List Entry → (table : ℕ) → List (List (List Val)) → List (List (List Val))
made_from used entries t [] = []
made_from used entries t (rows ∷ tables) = rows_made used entries t rows ∷ made_from used entries (suc t) tables

abbrev pub conformed : List Used → List Entry → List (List (List Val)) → List (List (List Val))
conformed used entries tables = made_from used entries 0 tables

none_made : (used : List Used) (entries : List Entry) (t : ℕ) → [] ≡ rows_made used entries t []
none_made used entries t = one (uses used t)
  where
    one : (b : Bool) → [] ≡ (if b then map (row_made (keeps used t) (columns_at entries t)) [] else [])
    one true = refl
    one false = refl

made_at : (used : List Used) (entries : List Entry) (t : ℕ) (tables : List (List (List Val))) (k : ℕ) → rows_of (made_from used entries t tables) k ≡ rows_made used entries (t + k) (rows_of tables k)
made_at used entries t [] k = none_past k ∙ none_made used entries (t + k) ∙ ap (rows_made used entries (t + k)) (sym (none_past k))
  where
    none_past : (k : ℕ) → rows_of [] k ≡ []
    none_past zero = refl
    none_past (suc k) = refl
made_at used entries t (rows ∷ tables) zero = let here : t ≡ t + 0 = omega arith in ap (λ (n : ℕ). rows_made used entries n rows) here
made_at used entries t (rows ∷ tables) (suc k) = let next : suc t + k ≡ t + suc k = omega arith in made_at used entries (suc t) tables k ∙ ap (λ (n : ℕ). rows_made used entries n (rows_of tables k)) next

conformed_at : (used : List Used) (entries : List Entry) (tables : List (List (List Val))) (k : ℕ) → rows_of (conformed used entries tables) k ≡ rows_made used entries k (rows_of tables k)
conformed_at used entries tables k = let none : 0 + k ≡ k = omega arith in made_at used entries 0 tables k ∙ ap (λ (n : ℕ). rows_made used entries n (rows_of tables k)) none

-- ---- what a layout uses
equal_is : (a b : ℕ) → nat_eq a b ≡ true → a ≡ b
equal_is a b h = grind (arith, nat_tests)

itself : (a : ℕ) → nat_eq a a ≡ true
itself a = grind (arith, nat_tests)

or_parts : (a b : Bool) (P : Type 0) → (a || b) ≡ true → (a ≡ true → P) → (b ≡ true → P) → P
or_parts true b P h f g = f refl
or_parts false b P h f g = g h

or_first : (a b : Bool) → a ≡ true → (a || b) ≡ true
or_first true b h = refl
or_first false b h = absurd cc

or_second : (a b : Bool) → b ≡ true → (a || b) ≡ true
or_second true b h = refl
or_second false b h = h

and_both : (a b : Bool) → (a && b) ≡ true → (a ≡ true) × (b ≡ true)
and_both true b h = (refl, h)
and_both false b h = absurd cc

-- a test that finds one
record Found {X : Type 0} (test : X → Bool) (xs : List X) : Type 0 where
  index : ℕ
  one : X
  there : slice_get xs index ≡ Some one
  passes : test one ≡ true

found : {X : Type 0} (test : X → Bool) (xs : List X) → list_any test xs ≡ true → Found test xs
found test [] h = absurd cc
found test (x ∷ xs) h =
    or_parts (test x) (list_any test xs) (Found test (x ∷ xs)) h (λ passes. record { index = 0; one = x; there = refl; passes = passes })
    (λ rest. let f = found test xs rest in record { index = suc f.index; one = f.one; there = f.there; passes = f.passes })

finds : {X : Type 0} (test : X → Bool) (xs : List X) (k : ℕ) (one : X) → slice_get xs k ≡ Some one → test one ≡ true → list_any test xs ≡ true
finds test [] k one there passes = absurd cc
finds test (x ∷ xs) zero one there passes = let same : test x ≡ true = ap test (same_Some x one there) ∙ passes in or_first (test x) (list_any test xs) same
finds test (x ∷ xs) (suc k) one there passes = or_second (test x) (list_any test xs) (finds test xs k one there passes)

one_at : {X : Type 0} (P : X → Type 0) (xs : List X) (k : ℕ) (one : X) → AllByRecursion P xs → slice_get xs k ≡ Some one → P one
one_at P [] k one all there = absurd cc
one_at P (x ∷ xs) zero one all there = subst P (same_Some x one there) all.0
one_at P (x ∷ xs) (suc k) one all there = one_at P xs k one all.1 there

uses_it : (used : List Used) (k : ℕ) (one : Used) → slice_get used k ≡ Some one → uses used one.table ≡ true
uses_it used k one there = finds (λ (u : Used). nat_eq u.table one.table) used k one there (itself one.table)

keeps_it : (used : List Used) (k : ℕ) (one : Used) → slice_get used k ≡ Some one → keeps used one.table one.column ≡ true
keeps_it used k one there =
    let both : (nat_eq one.table one.table && nat_eq one.column one.column) ≡ true = rw (itself one.table, itself one.column) refl in
    finds (λ (u : Used). nat_eq u.table one.table && nat_eq u.column one.column) used k one there both

-- entries of one table have the columns that it is given
contained : (entries : List Entry) (k : ℕ) (e : Entry) → slice_get entries k ≡ Some e → Contains entries e
contained entries k e there = (k, slice_get_within entries k e there, get_or_from_slice_get entries k e e there)

columns_found : (entries : List Entry) (t : ℕ) → list_any (λ (e : Entry). nat_eq e.table t) entries ≡ true
    → (k : ℕ) × (one : Entry) × (slice_get entries k ≡ Some one) × (one.table ≡ t) × (columns_at entries t ≡ one.columns)
columns_found [] t h = absurd cc
columns_found (e ∷ entries) t h = one (nat_eq e.table t) refl (λ rest. columns_found entries t rest) h
  where
    one : (b : Bool) → nat_eq e.table t ≡ b
        → (list_any (λ (e : Entry). nat_eq e.table t) entries ≡ true → (k : ℕ) × (one : Entry) × (slice_get entries k ≡ Some one) × (one.table ≡ t) × (columns_at entries t ≡ one.columns))
        → (b || list_any (λ (e : Entry). nat_eq e.table t) entries) ≡ true
        → (k : ℕ) × (one : Entry) × (slice_get (e ∷ entries) k ≡ Some one) × (one.table ≡ t) × ((if b then e.columns else columns_at entries t) ≡ one.columns)
    one true same rest h = (0, e, refl, equal_is e.table t same, refl)
    one false other rest h = let f = rest h in (suc f.0, f.1, f.2, f.3, f.4)

columns_are : (entries : List Entry) → AreAlike entries → (e : Entry) → Contains entries e → columns_at entries e.table ≡ e.columns
columns_are entries alike e is =
    let there : slice_get entries is.0 ≡ Some e = slice_get_read entries (length entries) is.0 e refl is.1 (sym is.2) in
    let f = columns_found entries e.table (finds (λ (o : Entry). nat_eq o.table e.table) entries is.0 e there (itself e.table)) in
    f.4 ∙ alike f.1 e (contained entries f.0 f.1 f.2) is f.3

-- ---- over tables that are ready
module _ (layout : Layout) (entries : List Entry) (alike : AreAlike entries) (columns : AllByRecursion (IsUsedOf entries) layout.columns)
    (placed : List Placed) (tables : List (List (List Val))) (descriptor limit : ℕ) (memory : List ℕ) (ready : IsReady layout placed tables descriptor limit memory) where
  abbrev used : List Used
  used = layout.columns

  -- where a column that is used stands
  place_of : (k : ℕ) (one : Used) → slice_get used k ≡ Some one → (p : Placed) × (slice_get placed k ≡ Some p) × IsReadyColumn (rows_of tables one.table) descriptor memory one p
  place_of k one there =
      let within : k < length placed = let inside = slice_get_within used k one there in omega (arith, inside, ready.many) in
      let p = found-in placed k within in
      (p.0, p.1, ready.columns k one p.0 there p.1)

  -- a value of a column that is kept is of its type
  kept_typed : (t : ℕ) (row : List Val) → ((k : ℕ) (one : Used) → slice_get used k ≡ Some one → one.table ≡ t → HasColumn one row) → (e : Entry) → Contains entries e → e.table ≡ t
      → (j : ℕ) (c : ColumnType) → keeps used t j ≡ true → slice_get e.columns j ≡ Some c → IsOfColumnType c (slice_index_or row j val.Null)
  kept_typed t row all e is at j c kept there =
      let f = found (λ (u : Used). nat_eq u.table t && nat_eq u.column j) used kept in
      let both = and_both (nat_eq f.one.table t) (nat_eq f.one.column j) f.passes in
      let same_table : f.one.table ≡ t = equal_is f.one.table t both.0 in
      let same_column : f.one.column ≡ j = equal_is f.one.column j both.1 in
      let has = all f.index f.one f.there same_table in
      let of = one_at (IsUsedOf entries) used f.index f.one columns f.there in
      let cols : of.0.columns ≡ e.columns = alike of.0 e of.1 is (of.2 ∙ (same_table ∙ sym at)) in
      let type_is : c ≡ record { ty = f.one.ty; not_null = f.one.not_null } =
      sym (same_Some _ c (sym of.3 ∙ (ap (λ (cs : List ColumnType). slice_get cs f.one.column) cols ∙ (ap (λ (i : ℕ). slice_get e.columns i) same_column ∙ there)))) in
      let value_is : slice_index_or row j val.Null ≡ has.0 = ap (λ (i : ℕ). slice_index_or row i val.Null) (sym same_column) ∙ get_or_from_slice_get row f.one.column has.0 val.Null has.1 in
      subst (λ (d : ColumnType). IsOfColumnType d (slice_index_or row j val.Null)) (sym type_is) (subst (λ (v : Val). IsOfTypeOrNull f.one.ty f.one.not_null v) (sym value_is) has.2)

  rows_typed : (t : ℕ) (rows : List (List Val)) → ((k : ℕ) (one : Used) → slice_get used k ≡ Some one → one.table ≡ t → AllByRecursion (HasColumn one) rows) → (e : Entry) → Contains entries e → e.table ≡ t
      → AllByRecursion (AllZip IsOfColumnType e.columns) (map (row_made (keeps used t) e.columns) rows)
  rows_typed t [] all e is at = tt
  rows_typed t (row ∷ rows) all e is at = (
    made_typed (keeps used t) e.columns row (kept_typed t row (λ k one there same. (all k one there same).0) e is at),
    rows_typed t rows (λ k one there same. (all k one there same).1) e is at,
  )

  all_typed : (t : ℕ) (k : ℕ) (one : Used) → slice_get used k ≡ Some one → one.table ≡ t → AllByRecursion (HasColumn one) (rows_of tables t)
  all_typed t k one there same = subst (λ (n : ℕ). AllByRecursion (HasColumn one) (rows_of tables n)) same (place_of k one there).2.typed

  -- tables of the entries
  abbrev pub conform : List (List (List Val))
  conform = conformed used entries tables

  few_none : 0 ≤ most_rows
  few_none = omega arith

  of_entry : (e : Entry) → Contains entries e → IsOfEntry conform e
  of_entry e is = one (uses used e.table) refl
    where
      rows : (b : Bool) → uses used e.table ≡ b → rows_of conform e.table ≡ (if b then map (row_made (keeps used e.table) e.columns) (rows_of tables e.table) else [])
      rows b same =
          conformed_at used entries tables e.table
          ∙ (ap (λ (c : Bool). if c then map (row_made (keeps used e.table) (columns_at entries e.table)) (rows_of tables e.table) else []) same
          ∙ ap (λ (cs : List ColumnType). if b then map (row_made (keeps used e.table) cs) (rows_of tables e.table) else []) (columns_are entries alike e is))

      one : (b : Bool) → uses used e.table ≡ b → IsOfEntry conform e
      one true same =
          let f = found (λ (u : Used). nat_eq u.table e.table) used same in
          let at : f.one.table ≡ e.table = equal_is f.one.table e.table f.passes in
          let few : length (rows_of tables e.table) ≤ most_rows = subst (λ (n : ℕ). length (rows_of tables n) ≤ most_rows) at (place_of f.index f.one f.there).2.few in
          let long = length-map (rows_of tables e.table) (row_made (keeps used e.table) e.columns) in
          record {
            few = subst (λ (rs : List (List Val)). length rs ≤ most_rows) (sym (rows true same)) (omega (arith, few, long));
            typed = subst (AllByRecursion (AllZip IsOfColumnType e.columns)) (sym (rows true same)) (rows_typed e.table (rows_of tables e.table) (all_typed e.table) e is refl);
          }
      one false same = record {
        few = subst (λ (rs : List (List Val)). length rs ≤ most_rows) (sym (rows false same)) few_none;
        typed = subst (AllByRecursion (AllZip IsOfColumnType e.columns)) (sym (rows false same)) tt;
      }

  pub conform_of : AreOfEntries entries conform
  conform_of = each entries (λ k e there. contained entries k e there)
    where
      each : (es : List Entry) → ((k : ℕ) (e : Entry) → slice_get es k ≡ Some e → Contains entries e) → AreOfEntries es conform
      each [] there = tt
      each (e ∷ es) there = (of_entry e (there 0 e refl), each es (λ k o found. there (suc k) o found))

  -- that have the same values where the layout reads
  values_same : (keep : ℕ → Bool) (cs : List ColumnType) (rows : List (List Val)) (j : ℕ) → keep j ≡ true → j < length cs → column_values (map (row_made keep cs) rows) j ≡ column_values rows j
  values_same keep cs [] j kept within = refl
  values_same keep cs (row ∷ rows) j kept within =
      ap₂ (λ (v : Val) (vs : List Val). v ∷ vs) (made_kept keep cs row j kept within) (values_same keep cs rows j kept within)

  column_typed : (keep : ℕ → Bool) (cs : List ColumnType) (one : Used) (rows : List (List Val)) → keep one.column ≡ true → one.column < length cs → AllByRecursion (HasColumn one) rows
      → AllByRecursion (HasColumn one) (map (row_made keep cs) rows)
  column_typed keep cs one [] kept within typed = tt
  column_typed keep cs one (row ∷ rows) kept within typed =
      let has = typed.0 in
      let long = made_long keep cs row in
      let value_is : slice_index_or (row_made keep cs row) one.column val.Null ≡ has.0 = made_kept keep cs row one.column kept within ∙ get_or_from_slice_get row one.column has.0 val.Null has.1 in
      let there : slice_get (row_made keep cs row) one.column ≡ Some has.0 =
      slice_get-get_or (row_made keep cs row) one.column val.Null (omega (arith, within, long)) ∙ ap (λ (v : Val). Some v) value_is in
      ((has.0, there, has.2), column_typed keep cs one rows kept within typed.1)

  ready_column : (k : ℕ) (one : Used) (p : Placed) → slice_get used k ≡ Some one → IsReadyColumn (rows_of tables one.table) descriptor memory one p → IsReadyColumn (rows_of conform one.table) descriptor memory one p
  ready_column k one p there r =
      let of = one_at (IsUsedOf entries) used k one columns there in
      let cs : List ColumnType = columns_at entries one.table in
      let same : cs ≡ of.0.columns = ap (λ (t : ℕ). columns_at entries t) (sym of.2) ∙ columns_are entries alike of.0 of.1 in
      let within : one.column < length cs = subst (λ (l : List ColumnType). one.column < length l) (sym same) (slice_get_within of.0.columns one.column _ of.3) in
      let kept = keeps_it used k one there in
      let keep : ℕ → Bool = keeps used one.table in
      let rows : rows_of conform one.table ≡ map (row_made keep cs) (rows_of tables one.table) =
      conformed_at used entries tables one.table ∙ ap (λ (b : Bool). if b then map (row_made keep cs) (rows_of tables one.table) else []) (uses_it used k one there) in
      let few = r.few in
      let long = length-map (rows_of tables one.table) (row_made keep cs) in
      subst (λ (rs : List (List Val)). IsReadyColumn rs descriptor memory one p) (sym rows)
      (record {
        typed = column_typed keep cs one (rows_of tables one.table) kept within r.typed;
        few = omega (arith, few, long);
        holds = subst (HoldsColumn memory one.ty one.not_null p) (sym (values_same keep cs (rows_of tables one.table) one.column kept within)) r.holds;
        between = r.between;
      })

  pub conform_ready : IsReady layout placed conform descriptor limit memory
  conform_ready = record {
    octets = ready.octets;
    whole = ready.whole;
    room = ready.room;
    many = ready.many;
    columns = λ k one p there at. ready_column k one p there (ready.columns k one p there at);
    behind = ready.behind;
    inside = ready.inside;
    fresh = ready.fresh;
  }
