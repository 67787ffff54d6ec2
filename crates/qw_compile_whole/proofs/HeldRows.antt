-- The rows of a select list have values that cells of the greatest types of its items' kinds give back, texts of any length among them: a value that is a text is
-- one of a column or of a literal (ISO/IEC 9075:1992, 4.2, 7.9).
use Rattle.std.proofs.Common.{ℕ, zero, suc, ◌<◌, ◌/◌, ◌%◌, ◌^◌, ◌≡◌, false, IsTrue, IsUtf8, ℤ, unsigned_abs, List, [], ◌∷◌, Option, Some, None, Result, Ok, Err, IfOk, slice_get, refl, subst, arith}
use Rattle.std.proofs.lemmas.Bool.Decides.{nat_tests}
use Rattle.std.specs.List.{AllByRecursion, AllZip}
use Rattle.qw_types.specs.Arithmetic.{◌>>=◌, fits}
use Rattle.qw_types.specs.Value.{IsOfTypeOrNull, IsSized}
use Rattle.qw_types.proofs.KindLemmas.{stored_of_kind}
use Rattle.qw_types.specs.declared.code.Code.{Code}
use Rattle.qw_types.specs.declared.kind.Kind.{Kind}
use Rattle.qw_types.specs.declared.kind.Kind.TheVariants as kind
use Rattle.qw_types.specs.declared.schema.ColumnType.{ColumnType}
use Rattle.qw_types.specs.declared.value.Ty.{Ty}
use Rattle.qw_types.specs.declared.value.Val.{Val}
use Rattle.qw_types.specs.declared.value.Val.TheVariants as val
use Rattle.qw_scalar.specs.Columns.{HoldsIn}
use Rattle.qw_scalar.specs.Evaluation.{at_row, value_of}
use Rattle.qw_scalar.specs.Expression.{Expression}
use Rattle.qw_scalar.specs.Typing.{IsValueOf, has_kind, kind_of, IsUtf8Value}
use Rattle.qw_scalar.proofs.ColumnLemmas.{columns_more}
use Rattle.qw_scalar.proofs.TypingLemmas.{typed_value}
use Rattle.qw_leaves.specs.Leaves.{HasLeaves, OfColumn, OfText}
use Rattle.qw_leaves.specs.declared.leaf.Leaf.{Leaf}
use Rattle.qw_leaves.specs.declared.leaf.Leaf.TheVariants as leaf
use Rattle.qw_leaves.proofs.LeafLemmas.{column_leaves, leaves_joined}
use Rattle.qw_meaning.specs.Flow.{each, kept, rows_given, selected, values_of}
use Rattle.qw_meaning.specs.From.{from_sources}
use Rattle.qw_meaning.specs.Outcome.{flow}
use Rattle.qw_meaning.specs.Select.{AreOfEntries, Entry, IsColumnOf, IsItemOver, IsSpecification, Specification, entries_of, type_in, types_of}
use Rattle.qw_meaning.proofs.FromLemmas.{cell}
use Rattle.qw_grouped.specs.Grouped.{widest}
use Rattle.qw_meaning.proofs.ListLemmas.{all_flat_map}
use Rattle.qw_operator.proofs.KnownLeaves.{Fits}
use Rattle.qw_operator.proofs.PairRows.{IsHeld, held_utf8, stored_utf8}
use Rattle.qw_operator.proofs.Promised.{value_utf8}
use Rattle.qw_compile_whole.proofs.GroupTyped.{HoldsEach, clauses_hold}

-- ---- a value of a kind
number_low : (v : ℤ) → IsTrue (fits v) → unsigned_abs v < 10 ^ 18
number_low v h = grind (arith, nat_tests, h)

kind_held : (k : Kind) (v : Val) → IsValueOf (Some k) v → IsUtf8Value v → IsHeld (widest (Some k)) false v
kind_held (kind.Number s) val.Null h g = refl
kind_held (kind.Number s) (val.Num v) h g = number_low v h
kind_held (kind.Number s) (val.Date d) h g = absurd h
kind_held (kind.Number s) (val.Text t) h g = absurd h
kind_held kind.Date val.Null h g = refl
kind_held kind.Date (val.Num v) h g = absurd h
kind_held kind.Date (val.Date d) h g = h
kind_held kind.Date (val.Text t) h g = absurd h
kind_held kind.Text val.Null h g = refl
kind_held kind.Text (val.Num v) h g = absurd h
kind_held kind.Text (val.Date d) h g = absurd h
kind_held kind.Text (val.Text t) h g = (refl, g)

value_held : (k : Option Kind) (v : Val) → IsTrue (has_kind k) → IsValueOf k v → IsUtf8Value v → IsHeld (widest k) false v
value_held None v some h g = absurd cc
value_held (Some k) v some h g = kind_held k v h g

-- ---- the values of items
abbrev pub IsHeldRow : List Expression → List Val → Type 0
IsHeldRow items row = AllZip (λ (e : Expression) (v : Val). IsHeld (widest (kind_of e)) false v) items row

pub row_utf8 : (items : List Expression) (row : List Val) → IsHeldRow items row → AllByRecursion IsUtf8Value row
row_utf8 [] [] h = tt
row_utf8 [] (v ∷ row) h = absurd h
row_utf8 (e ∷ items) [] h = absurd h
row_utf8 (e ∷ items) (v ∷ row) h = (held_utf8 (widest (kind_of e)) false v h.0, row_utf8 items row h.1)

-- at a row, each column of which has a value of its kind, and texts in UTF-8
module _ (IsColumn : ℕ → Ty → Type 0) (row : List Val) (good : (i : ℕ) (ty : Ty) → IsColumn i ty → HoldsIn row i ty × IsUtf8Value (cell row i)) where
  leaf_fits : (l : Leaf) → OfText IsUtf8 l → OfColumn IsColumn l → Fits row l
  leaf_fits (leaf.Column i ty) t c = good i ty c
  leaf_fits (leaf.Number v s) t c = tt
  leaf_fits (leaf.Date d) t c = tt
  leaf_fits (leaf.Text x) t c = t

  items_held : (items : List Expression) → AllByRecursion (IsItemOver IsColumn) items → AllByRecursion (HasLeaves (OfText IsUtf8)) items → IfOk (values_of items (at_row row)) (IsHeldRow items)
  items_held [] typed texts = tt
  items_held (item ∷ items) typed texts =
      both (value_of item (at_row row)) (values_of items (at_row row))
      (typed_value item row typed.0.0.0 (columns_more IsColumn (HoldsIn row) (λ i ty c. (good i ty c).0) item typed.0.1))
      (value_utf8 item row typed.0.0.0 (leaves_joined (OfText IsUtf8) (OfColumn IsColumn) (Fits row) leaf_fits item texts.0 (column_leaves IsColumn item typed.0.1)))
      (items_held items typed.1 texts.1)
    where
      both : (r : Result Val Code) (q : Result (List Val) Code) → IfOk r (λ v. IsValueOf (kind_of item) v) → IfOk r IsUtf8Value → IfOk q (IsHeldRow items) → IfOk (r >>= (λ value. q >>= (λ values. let s : Result (List Val) Code = Ok (value ∷ values) in s))) (IsHeldRow (item ∷ items))
      both (Ok v) (Ok vs) x y z = (value_held (kind_of item) v typed.0.0.1 x y, z)
      both (Ok v) (Err code) x y z = tt
      both (Err code) q x y z = tt

  pub selected_held : (items : List Expression) → AllByRecursion (IsItemOver IsColumn) items → AllByRecursion (HasLeaves (OfText IsUtf8)) items → AllByRecursion (IsHeldRow items) (rows_given (selected items row))
  selected_held items typed texts = one (values_of items (at_row row)) (items_held items typed texts)
    where
      one : (q : Result (List Val) Code) → IfOk q (IsHeldRow items) → AllByRecursion (IsHeldRow items) (rows_given (q >>= (λ values. let r : Result (List (List Val)) Code = Ok (values ∷ []) in r)))
      one (Ok values) h = (h, tt)
      one (Err code) h = tt

-- ---- the columns of entries
type_sized : (columns : List ColumnType) (j : ℕ) (ty : Ty) → AllByRecursion (λ (c : ColumnType). IsSized c.ty) columns → slice_get (types_of columns) j ≡ Some ty → IsSized ty
type_sized [] j ty h e = absurd cc
type_sized (c ∷ columns) zero ty h e = let same : c.ty ≡ ty = cc in subst IsSized same h.0
type_sized (c ∷ columns) (suc j) ty h e = type_sized columns j ty h.1 e

column_sized : (entries : List Entry) (k j : ℕ) (ty : Ty) → AllByRecursion (λ (e : Entry). AllByRecursion (λ (c : ColumnType). IsSized c.ty) e.columns) entries → type_in (slice_get entries k) j ≡ Some ty → IsSized ty
column_sized [] k j ty h e = absurd cc
column_sized (one ∷ entries) zero j ty h e = type_sized one.columns j ty h.0 e
column_sized (one ∷ entries) (suc k) j ty h e = column_sized entries k j ty h.1 e

-- ---- a query over tables of its entries, whose text literals in the select list are UTF-8
pub rows_held : (query : Specification) (tables : List (List (List Val))) → IsSpecification query → AreOfEntries (entries_of query.sources) tables → AllByRecursion (λ (e : Entry). AllByRecursion (λ (c : ColumnType). IsSized c.ty) e.columns) (entries_of query.sources) →
    AllByRecursion (HasLeaves (OfText IsUtf8)) query.items → AllByRecursion (λ (row : List Val). AllZip (λ (e : Expression) (v : Val). IsHeld (widest (kind_of e)) false v) query.items row) (flow query tables).rows
rows_held query tables whole loaded sized texts =
    all_flat_map (HoldsEach (entries_of query.sources)) (IsHeldRow query.items) (λ row. rows_given (selected query.items row)) (each (kept query.conjuncts) (from_sources query.sources tables)).rows
    (λ row held. selected_held (IsColumnOf (entries_of query.sources)) row (λ i ty c. column_good row held i ty c) query.items whole.items texts)
    (clauses_hold query tables whole loaded)
  where
    column_good : (row : List Val) → HoldsEach (entries_of query.sources) row → (i : ℕ) (ty : Ty) → IsColumnOf (entries_of query.sources) i ty → HoldsIn row i ty × IsUtf8Value (cell row i)
    column_good row held i ty c =
        let of : IsOfTypeOrNull ty false (cell row i) = held i ty c in
        (stored_of_kind ty false (cell row i) (column_sized (entries_of query.sources) (i / 64) (i % 64) ty sized c) of, stored_utf8 ty false (cell row i) of)
