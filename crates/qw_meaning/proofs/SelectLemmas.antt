-- What a specification over one table keeps, at each of its conjuncts and items and at a row of its columns.
use Rattle.std.proofs.Common.{◌≡◌, ◌/◌, ◌%◌, ◌<◌, ℕ, zero, suc, List, [], ◌∷◌, length, map, slice_index_or, Some, slice_get, arith, refl, subst}
use Rattle.std.specs.List.{All, AllByRecursion}
use Rattle.qw_types.specs.Kind.{IsOfKind, IsRowOf, type_kind}
use Rattle.qw_types.specs.declared.value.Ty.{Ty}
use Rattle.qw_types.specs.declared.value.Val.{Val}
use Rattle.qw_scalar.specs.declared.expression.Expr.{Expr}
use Rattle.qw_scalar.specs.declared.expression.Cond.{Cond}
use Rattle.qw_scalar.specs.Columns.{HasColumns, HaveColumns, HoldsIn}
use Rattle.qw_scalar.specs.Tree.{condition_of, expression_of}
use Rattle.qw_scalar.specs.Typing.{AreTyped, IsTyped}
use Rattle.qw_scalar.proofs.ColumnLemmas.{columns_more, conditions_more}
use Rattle.qw_meaning.specs.Select.{Entry, IsColumnOf, IsConditionOver, IsItemOver, IsSpecification, Parts, specification_of, type_in, types_of}

-- of one entry, the columns are those of its table
pub one_entry : (entry : Entry) (i : ℕ) (ty : Ty) → IsColumnOf (entry ∷ []) i ty → (i < 64) × (slice_get (types_of entry.columns) i ≡ Some ty)
one_entry entry i ty h = by_entry (i / 64) refl h
  where
    by_entry : (n : ℕ) → n ≡ i / 64 → type_in (slice_get (entry ∷ []) n) (i % 64) ≡ Some ty → (i < 64) × (slice_get (types_of entry.columns) i ≡ Some ty)
    by_entry zero at is =
        let place : i % 64 ≡ i = omega (arith, at) in
        (omega (arith, at), subst (λ (k : ℕ). slice_get (types_of entry.columns) k ≡ Some ty) place is)
    by_entry (suc n) at is = absurd cc

pub of_one_entry : (entry : Entry) (i : ℕ) (ty : Ty) → i < 64 → slice_get (types_of entry.columns) i ≡ Some ty → IsColumnOf (entry ∷ []) i ty
of_one_entry entry i ty lt h =
    let number : 0 ≡ i / 64 = omega (arith, lt) in
    let place : i ≡ i % 64 = omega (arith, lt) in
    subst (λ (n : ℕ). type_in (slice_get (entry ∷ []) n) (i % 64) ≡ Some ty) number (subst (λ (k : ℕ). slice_get (types_of entry.columns) k ≡ Some ty) place h)

-- a row of the columns holds a value of each one's kind
pub row_holds : (types : List Ty) (row : List Val) → IsRowOf (map type_kind types) row → (i : ℕ) (ty : Ty) → slice_get types i ≡ Some ty → HoldsIn row i ty
row_holds [] row r i ty h = absurd cc
row_holds (t ∷ types) [] r i ty h = absurd r
row_holds (t ∷ types) (value ∷ row) r zero ty h =
    let same : t ≡ ty = cc in
    subst (λ k. IsOfKind (type_kind k) value) same r.0
row_holds (t ∷ types) (value ∷ row) r (suc i) ty h = row_holds types row r.1 i ty h

-- at an element, what holds of all
pub at_element : {X Y : Type 0} (P : Y → Type 0) (f : X → Y) (xs : List X) → AllByRecursion P (map f xs) → (k : ℕ) (d : X) → k < length xs → P (f (slice_index_or xs k d))
at_element P f [] h k d lt = absurd (omega arith)
at_element P f (x ∷ xs) h zero d lt = h.0
at_element P f (x ∷ xs) h (suc k) d lt = at_element P f xs h.1 k d (omega arith)

-- the entry of the specification that parts make
abbrev pub entry_of : Parts → Entry
entry_of parts = record { table = parts.table; columns = parts.columns }

pub conjunct_at : (parts : Parts) → IsSpecification (specification_of parts) → (k : ℕ) (d : Cond) → k < length parts.conjuncts
    → IsConditionOver (IsColumnOf (entry_of parts ∷ [])) (condition_of (slice_index_or parts.conjuncts k d))
conjunct_at parts h k d lt = at_element (IsConditionOver (IsColumnOf (entry_of parts ∷ []))) condition_of parts.conjuncts h.conjuncts k d lt

pub item_at : (parts : Parts) → IsSpecification (specification_of parts) → (k : ℕ) (d : Expr) → k < length parts.items
    → IsItemOver (IsColumnOf (entry_of parts ∷ [])) (expression_of (slice_index_or parts.items k d))
item_at parts h k d lt = at_element (IsItemOver (IsColumnOf (entry_of parts ∷ []))) expression_of parts.items h.items k d lt

-- so its conjuncts and items can be evaluated at each row of its columns
pub conjuncts_typed : (parts : Parts) → IsSpecification (specification_of parts) → All (λ c. AreTyped (condition_of c)) parts.conjuncts
conjuncts_typed parts h k d lt = (conjunct_at parts h k d lt).0

row_of_one : (parts : Parts) (row : List Val) → IsRowOf (map type_kind (types_of parts.columns)) row → (i : ℕ) (ty : Ty) → IsColumnOf (entry_of parts ∷ []) i ty → HoldsIn row i ty
row_of_one parts row r i ty h = row_holds (types_of parts.columns) row r i ty (one_entry (entry_of parts) i ty h).1

pub conjuncts_hold : (parts : Parts) (row : List Val) → IsSpecification (specification_of parts) → IsRowOf (map type_kind (types_of parts.columns)) row
    → All (λ c. HaveColumns (HoldsIn row) (condition_of c)) parts.conjuncts
conjuncts_hold parts row h r k d lt =
    conditions_more (IsColumnOf (entry_of parts ∷ [])) (HoldsIn row) (row_of_one parts row r) (condition_of (slice_index_or parts.conjuncts k d)) (conjunct_at parts h k d lt).1

pub items_typed : (parts : Parts) → IsSpecification (specification_of parts) → All (λ e. IsTyped (expression_of e)) parts.items
items_typed parts h k d lt = (item_at parts h k d lt).0.0

pub items_hold : (parts : Parts) (row : List Val) → IsSpecification (specification_of parts) → IsRowOf (map type_kind (types_of parts.columns)) row
    → All (λ e. HasColumns (HoldsIn row) (expression_of e)) parts.items
items_hold parts row h r k d lt =
    columns_more (IsColumnOf (entry_of parts ∷ [])) (HoldsIn row) (row_of_one parts row r) (expression_of (slice_index_or parts.items k d)) (item_at parts h k d lt).1
