-- The row that is made of a row and a table's entry: the row's values where it has any, and those of kept columns at their places.
use Rattle.std.proofs.Common.{◌≡◌, ◌≢◌, ℕ, zero, suc, Bool, false, List, [], ◌∷◌, ◌++◌, length, map, drop, replicate, IsUtf8, refl, sym, ap, ap₂, ◌∙◌, subst}
use Rattle.std.specs.List.{AllByRecursion}
use Rattle.std.proofs.lemmas.List.{append_assoc}
use Rattle.qw_types.specs.Kind.{IsOfKind, type_kind}
use Rattle.qw_types.specs.Value.{IsOfType, IsOfTypeOrNull, IsSized}
use Rattle.qw_types.proofs.KindLemmas.{typed_of_kind}
use Rattle.qw_types.specs.declared.kind.Kind.{Kind}
use Rattle.qw_types.specs.declared.kind.Kind.TheVariants as kind
use Rattle.qw_types.specs.declared.value.Ty.{Ty}
use Rattle.qw_types.specs.declared.value.Ty.TheVariants as ty
use Rattle.qw_types.specs.declared.value.Val.{Val}
use Rattle.qw_types.specs.declared.value.Val.TheVariants as val
use Rattle.qw_scalar.specs.Columns.{HasColumns}
use Rattle.qw_scalar.specs.Expression.{Expression}
use Rattle.qw_scalar.proofs.ColumnLemmas.{columns_more}
use Rattle.qw_meaning.specs.From.{first_of, merged}
use Rattle.qw_low.specs.State.{LowState}
use Rattle.qw_expr.specs.Computes.{Known, AreHeld}
use Rattle.qw_physical.specs.Courses.{pair_of, row_of}
use Rattle.qw_physical.specs.Physical.{Operator, Probe, filter, probe}
use Rattle.qw_physical.specs.declared.pipeline.ReadColumn.{ReadColumn}
use Rattle.qw_operator.specs.Takes.{AreSized, anywhere}
use Rattle.qw_leaves.proofs.Agreement.{value_at, values_agree}
use Rattle.qw_scalar.specs.Typing.{IsUtf8Value}
use Rattle.qw_operator.proofs.KnownLeaves.{AreFit, fits_other}
use Rattle.qw_leaves.proofs.LeafLists.{all_back, all_front, all_pairs}
use Rattle.qw_operator.proofs.Fronts.{all_more}

-- ---- lists
-- of each of these with each of those
turned : {X Y : Type 0} (R : X → Y → Type 0) (xs : List X) (ys : List Y) → AllByRecursion (λ x. AllByRecursion (R x) ys) xs → AllByRecursion (λ y. AllByRecursion (λ x. R x y) xs) ys
turned {X} {Y} R xs [] all = tt
turned {X} {Y} R xs (y ∷ ys) all = (heads xs all, turned R xs ys (tails xs all))
  where
    heads : (xs : List X) → AllByRecursion (λ x. AllByRecursion (R x) (y ∷ ys)) xs → AllByRecursion (λ x. R x y) xs
    heads [] all = tt
    heads (x ∷ xs) all = (all.0.0, heads xs all.1)

    tails : (xs : List X) → AllByRecursion (λ x. AllByRecursion (R x) (y ∷ ys)) xs → AllByRecursion (λ x. AllByRecursion (R x) ys) xs
    tails [] all = tt
    tails (x ∷ xs) all = (all.0.1, tails xs all.1)

-- ---- premises on pipelines
-- the columns that later probes keep are neither known nor kept twice
abbrev pub AreNew : List Known → List ReadColumn → Type 0
AreNew known columns = AllByRecursion (λ (k : Known). HasColumns (λ i t. AllByRecursion (λ (c : ReadColumn). i ≢ c.number) columns) k.expression) known

abbrev pub AreDistinct : List ReadColumn → Type 0
AreDistinct [] = Unit {0}
AreDistinct (c ∷ columns) = AllByRecursion (λ (d : ReadColumn). c.number ≢ d.number) columns × AreDistinct columns

abbrev pub AreApart : List Known → List Operator → Type 0
AreApart known [] = Unit {0}
AreApart known (filter cs ∷ operators) = AreApart known operators
AreApart known (probe p ∷ operators) = AreNew known p.kept × AreDistinct p.kept × AreApart (map anywhere p.kept ++ known) operators

-- a row of FROM has null at them
abbrev pub IsNullAt : List Val → List Operator → Type 0
IsNullAt row [] = Unit {0}
IsNullAt row (filter cs ∷ operators) = IsNullAt row operators
IsNullAt row (probe p ∷ operators) = AllByRecursion (λ (c : ReadColumn). value_at row c.number ≡ val.Null) p.kept × IsNullAt row operators

-- A value that a cell gives back: one of the type, or null where it may be, but a text of any length, as a literal is one.
abbrev pub IsHeld : Ty → (not_null : Bool) → Val → Type 0
IsHeld type not_null val.Null = not_null ≡ false
IsHeld type not_null (val.Num z) = IsOfType type (val.Num z)
IsHeld type not_null (val.Date d) = IsOfType type (val.Date d)
IsHeld type not_null (val.Text octets) = (type_kind type ≡ kind.Text) × IsUtf8 octets

-- values of columns, in their order
abbrev pub AreStored : List ReadColumn → List Val → Type 0
AreStored [] [] = Unit {0}
AreStored (c ∷ columns) (v ∷ values) = IsHeld c.ty c.not_null v × AreStored columns values
AreStored _ _ = ⊥

-- ---- places
nothing_behind : (v : Val) → first_of v val.Null ≡ v
nothing_behind val.Null = refl
nothing_behind (val.Num v) = refl
nothing_behind (val.Date d) = refl
nothing_behind (val.Text t) = refl

merged_at : (row other : List Val) (i : ℕ) → value_at (merged row other) i ≡ first_of (value_at row i) (value_at other i)
merged_at [] other i = refl
merged_at (v ∷ row) [] i = sym (nothing_behind (value_at (v ∷ row) i))
merged_at (v ∷ row) (w ∷ others) zero = refl
merged_at (v ∷ row) (w ∷ others) (suc i) = merged_at row others i

alone_here : (n : ℕ) (v : Val) → value_at (replicate n val.Null ++ v ∷ []) n ≡ v
alone_here zero v = refl
alone_here (suc n) v = alone_here n v

alone_else : (n : ℕ) (v : Val) (i : ℕ) → i ≢ n → value_at (replicate n val.Null ++ v ∷ []) i ≡ val.Null
alone_else zero v zero other = absurd (other refl)
alone_else zero v (suc i) other = refl
alone_else (suc n) v zero other = refl
alone_else (suc n) v (suc i) other = alone_else n v i (λ e. other (ap suc e))

row_else : (columns : List ReadColumn) (values : List Val) (i : ℕ) → AllByRecursion (λ (c : ReadColumn). i ≢ c.number) columns → value_at (row_of columns values) i ≡ val.Null
row_else [] values i others = refl
row_else (c ∷ columns) [] i others = refl
row_else (c ∷ columns) (v ∷ values) i others =
    merged_at (replicate c.number val.Null ++ v ∷ []) (row_of columns values) i ∙ ap₂ first_of (alone_else c.number v i others.0) (row_else columns values i others.1)

-- a row has these values of columns
abbrev pub AreAt : List Val → List ReadColumn → List Val → Type 0
AreAt row [] [] = Unit {0}
AreAt row (c ∷ columns) (v ∷ values) = (value_at row c.number ≡ v) × AreAt row columns values
AreAt row _ _ = ⊥

at_more : (row other : List Val) (columns : List ReadColumn) (values : List Val) → AllByRecursion (λ (c : ReadColumn). value_at other c.number ≡ value_at row c.number) columns → AreAt row columns values → AreAt other columns values
at_more row other [] [] same at = tt
at_more row other [] (v ∷ values) same at = absurd at
at_more row other (c ∷ columns) [] same at = absurd at
at_more row other (c ∷ columns) (v ∷ values) same at = (same.0 ∙ at.0, at_more row other columns values same.1 at.1)

entry_at : (columns : List ReadColumn) (values : List Val) → AreDistinct columns → AreStored columns values → AreAt (row_of columns values) columns values
entry_at [] [] distinct stored = tt
entry_at [] (v ∷ values) distinct stored = absurd stored
entry_at (c ∷ columns) [] distinct stored = absurd stored
entry_at (c ∷ columns) (v ∷ values) distinct stored =
    let alone : List Val = replicate c.number val.Null ++ v ∷ [] in (
      merged_at alone (row_of columns values) c.number ∙ (ap₂ first_of (alone_here c.number v) (row_else columns values c.number distinct.0) ∙ nothing_behind v),
      at_more (row_of columns values) (merged alone (row_of columns values)) columns values
          (all_more (λ (d : ReadColumn). c.number ≢ d.number) (λ (d : ReadColumn). value_at (merged alone (row_of columns values)) d.number ≡ value_at (row_of columns values) d.number) columns
          (λ d other. merged_at alone (row_of columns values) d.number ∙ ap (λ (w : Val). first_of w (value_at (row_of columns values) d.number)) (alone_else c.number v d.number (λ e. other (sym e)))) distinct.0)
          (entry_at columns values distinct.1 stored.1),
    )

-- ---- a row with an entry
module _ (p : Probe) (row entry : List Val) where
  abbrev pub pair : List Val
  pair = pair_of p row entry

  abbrev values : List Val
  values = drop (length p.key) entry

  pub same_else : (i : ℕ) → AllByRecursion (λ (c : ReadColumn). i ≢ c.number) p.kept → value_at pair i ≡ value_at row i
  same_else i others = merged_at row (row_of p.kept values) i ∙ (ap (first_of (value_at row i)) (row_else p.kept values i others) ∙ nothing_behind (value_at row i))

  -- what is known stays, and the row fits it
  agrees : (e : Expression) → HasColumns (λ i t. AllByRecursion (λ (c : ReadColumn). i ≢ c.number) p.kept) e → HasColumns (λ i t. value_at pair i ≡ value_at row i) e
  agrees e other = columns_more (λ i t. AllByRecursion (λ (c : ReadColumn). i ≢ c.number) p.kept) (λ i t. value_at pair i ≡ value_at row i) (λ i t others. same_else i others) e other

  pub pair_held : (known : List Known) (s : LowState) → AreNew known p.kept → AreHeld known row s → AreHeld known pair s
  pair_held [] s new held = tt
  pair_held (k ∷ known) s new held = ((held.0.0, values_agree row pair k.expression (agrees k.expression new.0) ∙ held.0.1, held.0.2), pair_held known s new.1 held.1)

  pub pair_fits : (known : List Known) → AreNew known p.kept → AreFit row known → AreFit pair known
  pair_fits [] new fit = tt
  pair_fits (k ∷ known) new fit = (fits_other row pair k.expression (agrees k.expression new.0) fit.0, pair_fits known new.1 fit.1)

  -- kept columns have the entry's values
  pub pair_at : AreDistinct p.kept → AllByRecursion (λ (c : ReadColumn). value_at row c.number ≡ val.Null) p.kept → AreStored p.kept values → AreAt pair p.kept values
  pair_at distinct nulls stored =
      at_more (row_of p.kept values) pair p.kept values
      (all_more (λ (c : ReadColumn). value_at row c.number ≡ val.Null) (λ (c : ReadColumn). value_at pair c.number ≡ value_at (row_of p.kept values) c.number) p.kept
      (λ c none. merged_at row (row_of p.kept values) c.number ∙ ap (λ (w : Val). first_of w (value_at (row_of p.kept values) c.number)) none) nulls)
      (entry_at p.kept values distinct stored)

  -- those of later probes stay null
  abbrev Avoids : List Operator → Type 0
  Avoids [] = Unit {0}
  Avoids (filter cs ∷ operators) = Avoids operators
  Avoids (probe q ∷ operators) = AllByRecursion (λ (d : ReadColumn). AllByRecursion (λ (c : ReadColumn). d.number ≢ c.number) p.kept) q.kept × Avoids operators

  of_kept : (columns : List ReadColumn) (later : List ReadColumn) → AreNew (map anywhere columns) later → AllByRecursion (λ (c : ReadColumn). AllByRecursion (λ (d : ReadColumn). d.number ≢ c.number) later) columns
  of_kept [] later new = tt
  of_kept (c ∷ columns) later new = (all_more (λ (d : ReadColumn). c.number ≢ d.number) (λ (d : ReadColumn). d.number ≢ c.number) later (λ d other e. other (sym e)) new.0, of_kept columns later new.1)

  avoids : (front behind : List Known) (operators : List Operator) → AreApart (front ++ (map anywhere p.kept ++ behind)) operators → Avoids operators
  avoids front behind [] apart = tt
  avoids front behind (filter cs ∷ operators) apart = avoids front behind operators apart
  avoids front behind (probe q ∷ operators) apart =
      let Q : Known → Type 0 = λ (k : Known). HasColumns (λ i t. AllByRecursion (λ (c : ReadColumn). i ≢ c.number) q.kept) k.expression in (
        turned (λ (c d : ReadColumn). d.number ≢ c.number) p.kept q.kept
            (of_kept p.kept q.kept (all_front Q (map anywhere p.kept) behind (all_back Q front (map anywhere p.kept ++ behind) apart.0))),
        avoids (map anywhere q.kept ++ front) behind operators
            (subst (λ (l : List Known). AreApart l operators) (sym (append_assoc (map anywhere q.kept) front (map anywhere p.kept ++ behind))) apart.2),
      )

  null_later : (operators : List Operator) → Avoids operators → IsNullAt row operators → IsNullAt pair operators
  null_later [] avoids nulls = tt
  null_later (filter cs ∷ operators) avoids nulls = null_later operators avoids nulls
  null_later (probe q ∷ operators) avoids nulls = (
    all_more (λ (d : ReadColumn). AllByRecursion (λ (c : ReadColumn). d.number ≢ c.number) p.kept × (value_at row d.number ≡ val.Null)) (λ (d : ReadColumn). value_at pair d.number ≡ val.Null) q.kept
        (λ d both. same_else d.number both.0 ∙ both.1)
        (all_pairs (λ (d : ReadColumn). AllByRecursion (λ (c : ReadColumn). d.number ≢ c.number) p.kept) (λ (d : ReadColumn). value_at row d.number ≡ val.Null) q.kept avoids.0 nulls.0),
    null_later operators avoids.1 nulls.1,
  )

  pub pair_null : (known : List Known) (operators : List Operator) → AreApart (map anywhere p.kept ++ known) operators → IsNullAt row operators → IsNullAt pair operators
  pair_null known operators apart nulls = null_later operators (avoids [] known operators apart) nulls

-- ---- of kept columns
-- of values that cells give back
pub held_typed : (t : Ty) (b : Bool) (v : Val) → IsOfTypeOrNull t b v → IsHeld t b v
held_typed t b val.Null of = of
held_typed t b (val.Num v) of = of
held_typed t b (val.Date d) of = of
held_typed ty.Integer b (val.Text x) of = absurd of
held_typed (ty.Decimal precision scale) b (val.Text x) of = absurd of
held_typed ty.Date b (val.Text x) of = absurd of
held_typed (ty.Varchar limit) b (val.Text x) of = (refl, of.utf8)

pub held_kind : (t : Ty) (b : Bool) (v : Val) → IsSized t → IsHeld t b v → IsOfKind (type_kind t) v
held_kind t b val.Null sized held = tt
held_kind t b (val.Num v) sized held = typed_of_kind t (val.Num v) sized held
held_kind t b (val.Date d) sized held = typed_of_kind t (val.Date d) sized held
held_kind t b (val.Text x) sized held = subst (λ (k : Kind). IsOfKind k (val.Text x)) (sym held.0) tt

pub held_utf8 : (t : Ty) (b : Bool) (v : Val) → IsHeld t b v → IsUtf8Value v
held_utf8 t b val.Null held = tt
held_utf8 t b (val.Num v) held = tt
held_utf8 t b (val.Date d) held = tt
held_utf8 t b (val.Text x) held = held.1

-- and of typed ones
pub stored_utf8 : (t : Ty) (b : Bool) (v : Val) → IsOfTypeOrNull t b v → IsUtf8Value v
stored_utf8 t b v of = held_utf8 t b v (held_typed t b v of)

-- a row fits columns whose values it has
pub kept_fit : (row : List Val) (columns : List ReadColumn) (values : List Val) → AreSized columns → AreStored columns values → AreAt row columns values → AreFit row (map anywhere columns)
kept_fit row [] values sized stored at = tt
kept_fit row (c ∷ columns) [] sized stored at = absurd at
kept_fit row (c ∷ columns) (v ∷ values) sized stored at = (
  (subst (IsOfKind (type_kind c.ty)) (sym at.0) (held_kind c.ty c.not_null v sized.0 stored.0), subst IsUtf8Value (sym at.0) (held_utf8 c.ty c.not_null v stored.0)),
  kept_fit row columns values sized.1 stored.1 at.1,
)

-- ---- what is known tells by its expressions
pub same_told : (P : Expression → Type 0) (known others : List Known) → map (λ (k : Known). k.expression) known ≡ map (λ (k : Known). k.expression) others →
    AllByRecursion (λ (k : Known). P k.expression) others → AllByRecursion (λ (k : Known). P k.expression) known
same_told P known others same all = from known (subst (AllByRecursion P) (sym same) (to others all))
  where
    to : (ks : List Known) → AllByRecursion (λ (k : Known). P k.expression) ks → AllByRecursion P (map (λ (k : Known). k.expression) ks)
    to [] all = tt
    to (k ∷ ks) all = (all.0, to ks all.1)

    from : (ks : List Known) → AllByRecursion P (map (λ (k : Known). k.expression) ks) → AllByRecursion (λ (k : Known). P k.expression) ks
    from [] all = tt
    from (k ∷ ks) all = (all.0, from ks all.1)
