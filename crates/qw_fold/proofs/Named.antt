-- What can stand for an expression or a condition has what its columns have, for any property of columns.
use Rattle.std.proofs.Common.{◌≡◌, ℕ, zero, suc, ◌++◌, List, [], ◌∷◌, ap, inl, inr, refl, subst, arith}
use Rattle.std.proofs.lemmas.List.Elements.{Contains-append_cases, Contains-append_left, Contains-append_right}
use Rattle.qw_types.specs.declared.value.Ty.{Ty}
use Rattle.qw_scalar.proofs.ColumnLemmas.{columns_more, conditions_more, operands_more}
use Rattle.qw_scalar.specs.Columns.{HasColumns, HaveColumns, OperandsHave}
use Rattle.qw_scalar.specs.Expression.{Condition, Expression, null, number, date, text, column, arithmetic, negative, extract, brought, choice, given, cell, comparison, predicate, both, either, negation_of, is, found, Operands, nil, operand}
use Rattle.qw_fold.specs.Inner.Made.{Follows, FollowsTruth, IsAmong}

-- the columns that it names, listed
record Listed (Holds : ℕ → Ty → Type 0) (e : Expression) : Type 0 where
  pub columns : List (ℕ × Ty)
  pub hold : (i : ℕ) (ty : Ty) → IsAmong columns i ty → Holds i ty
  pub named : HasColumns (IsAmong columns) e

record ListedTruth (Holds : ℕ → Ty → Type 0) (c : Condition) : Type 0 where
  pub columns : List (ℕ × Ty)
  pub hold : (i : ℕ) (ty : Ty) → IsAmong columns i ty → Holds i ty
  pub named : HaveColumns (IsAmong columns) c

record ListedOperands (Holds : ℕ → Ty → Type 0) (es : Operands) : Type 0 where
  pub columns : List (ℕ × Ty)
  pub hold : (i : ℕ) (ty : Ty) → IsAmong columns i ty → Holds i ty
  pub named : OperandsHave (IsAmong columns) es

none_hold : (Holds : ℕ → Ty → Type 0) (i : ℕ) (ty : Ty) → IsAmong [] i ty → Holds i ty
none_hold Holds i ty (k, lt, e) = absurd (omega arith)

two_hold : (Holds : ℕ → Ty → Type 0) (one other : List (ℕ × Ty)) → ((i : ℕ) (ty : Ty) → IsAmong one i ty → Holds i ty) → ((i : ℕ) (ty : Ty) → IsAmong other i ty → Holds i ty)
    → (i : ℕ) (ty : Ty) → IsAmong (one ++ other) i ty → Holds i ty
two_hold Holds one other p q i ty h = elim (Contains-append_cases one other (i, ty) h) as (λ _. Holds i ty) [
  | inl k ↦ p i ty k
  | inr k ↦ q i ty k
]

left : (one other : List (ℕ × Ty)) (e : Expression) → HasColumns (IsAmong one) e → HasColumns (IsAmong (one ++ other)) e
left one other e h = columns_more (IsAmong one) (IsAmong (one ++ other)) (λ i ty k. Contains-append_left one other (i, ty) k) e h

right : (one other : List (ℕ × Ty)) (e : Expression) → HasColumns (IsAmong other) e → HasColumns (IsAmong (one ++ other)) e
right one other e h = columns_more (IsAmong other) (IsAmong (one ++ other)) (λ i ty k. Contains-append_right one other (i, ty) k) e h

left_truth : (one other : List (ℕ × Ty)) (c : Condition) → HaveColumns (IsAmong one) c → HaveColumns (IsAmong (one ++ other)) c
left_truth one other c h = conditions_more (IsAmong one) (IsAmong (one ++ other)) (λ i ty k. Contains-append_left one other (i, ty) k) c h

right_truth : (one other : List (ℕ × Ty)) (c : Condition) → HaveColumns (IsAmong other) c → HaveColumns (IsAmong (one ++ other)) c
right_truth one other c h = conditions_more (IsAmong other) (IsAmong (one ++ other)) (λ i ty k. Contains-append_right one other (i, ty) k) c h

left_operands : (one other : List (ℕ × Ty)) (es : Operands) → OperandsHave (IsAmong one) es → OperandsHave (IsAmong (one ++ other)) es
left_operands one other es h = operands_more (IsAmong one) (IsAmong (one ++ other)) (λ i ty k. Contains-append_left one other (i, ty) k) es h

right_operands : (one other : List (ℕ × Ty)) (es : Operands) → OperandsHave (IsAmong other) es → OperandsHave (IsAmong (one ++ other)) es
right_operands one other es h = operands_more (IsAmong other) (IsAmong (one ++ other)) (λ i ty k. Contains-append_right one other (i, ty) k) es h

one_column : (i j : ℕ) (ty t : Ty) → IsAmong ((i, ty) ∷ []) j t → (i ≡ j) × (ty ≡ t)
one_column i j ty t (zero, lt, e) = (ap (λ (p : ℕ × Ty). p.0) e, ap (λ (p : ℕ × Ty). p.1) e)
one_column i j ty t (suc k, lt, e) = absurd (omega arith)

column_holds : (Holds : ℕ → Ty → Type 0) (i : ℕ) (ty : Ty) → Holds i ty → (j : ℕ) (t : Ty) → IsAmong ((i, ty) ∷ []) j t → Holds j t
column_holds Holds i ty h j t k =
    let same = one_column i j ty t k in
    subst (λ (u : Ty). Holds j u) same.1 (subst (λ (n : ℕ). Holds n ty) same.0 h)

-- those of two parts
listed_two : (Holds : ℕ → Ty → Type 0) (a b : Expression) → Listed Holds a → Listed Holds b
    → (columns : List (ℕ × Ty)) × (((i : ℕ) (ty : Ty) → IsAmong columns i ty → Holds i ty) × (HasColumns (IsAmong columns) a × HasColumns (IsAmong columns) b))
listed_two Holds a b x y =
    (x.columns ++ y.columns, (two_hold Holds x.columns y.columns x.hold y.hold, (left x.columns y.columns a x.named, right x.columns y.columns b y.named)))

listed_conditions : (Holds : ℕ → Ty → Type 0) (c d : Condition) → ListedTruth Holds c → ListedTruth Holds d
    → (columns : List (ℕ × Ty)) × (((i : ℕ) (ty : Ty) → IsAmong columns i ty → Holds i ty) × (HaveColumns (IsAmong columns) c × HaveColumns (IsAmong columns) d))
listed_conditions Holds c d x y =
    (x.columns ++ y.columns, (two_hold Holds x.columns y.columns x.hold y.hold, (left_truth x.columns y.columns c x.named, right_truth x.columns y.columns d y.named)))

mutual
  listed : (Holds : ℕ → Ty → Type 0) (e : Expression) → HasColumns Holds e → Listed Holds e
  listed Holds null h = record { columns = []; hold = none_hold Holds; named = tt }
  listed Holds (number v s) h = record { columns = []; hold = none_hold Holds; named = tt }
  listed Holds (date d) h = record { columns = []; hold = none_hold Holds; named = tt }
  listed Holds (text t) h = record { columns = []; hold = none_hold Holds; named = tt }
  listed Holds (column i ty) h = record { columns = (i, ty) ∷ []; hold = column_holds Holds i ty h; named = (0, omega arith, refl) }
  listed Holds (arithmetic operator a b) h =
      let two = listed_two Holds a b (listed Holds a h.0) (listed Holds b h.1) in
      record { columns = two.0; hold = two.1.0; named = two.1.1 }
  listed Holds (negative a) h = let x = listed Holds a h in record { columns = x.columns; hold = x.hold; named = x.named }
  listed Holds (extract field a) h = let x = listed Holds a h in record { columns = x.columns; hold = x.hold; named = x.named }
  listed Holds (brought a s) h = let x = listed Holds a h in record { columns = x.columns; hold = x.hold; named = x.named }
  listed Holds (choice c a b) h =
      let x = listed_truth Holds c h.0 in
      let two = listed_two Holds a b (listed Holds a h.1.0) (listed Holds b h.1.1) in
      record {
        columns = x.columns ++ two.0;
        hold = two_hold Holds x.columns two.0 x.hold two.1.0;
        named = (left_truth x.columns two.0 c x.named, (right x.columns two.0 a two.1.1.0, right x.columns two.0 b two.1.1.1));
      }
  listed Holds (given w k most v) h = record { columns = []; hold = none_hold Holds; named = tt }
  listed Holds (cell i ty most) h = record { columns = (i, ty) ∷ []; hold = column_holds Holds i ty h; named = (0, omega arith, refl) }

  listed_truth : (Holds : ℕ → Ty → Type 0) (c : Condition) → HaveColumns Holds c → ListedTruth Holds c
  listed_truth Holds (comparison op a b) h =
      let two = listed_two Holds a b (listed Holds a h.0) (listed Holds b h.1) in
      record { columns = two.0; hold = two.1.0; named = two.1.1 }
  listed_truth Holds (predicate p a) h = let x = listed Holds a h in record { columns = x.columns; hold = x.hold; named = x.named }
  listed_truth Holds (both c d) h =
      let two = listed_conditions Holds c d (listed_truth Holds c h.0) (listed_truth Holds d h.1) in
      record { columns = two.0; hold = two.1.0; named = two.1.1 }
  listed_truth Holds (either c d) h =
      let two = listed_conditions Holds c d (listed_truth Holds c h.0) (listed_truth Holds d h.1) in
      record { columns = two.0; hold = two.1.0; named = two.1.1 }
  listed_truth Holds (negation_of c) h = let x = listed_truth Holds c h in record { columns = x.columns; hold = x.hold; named = x.named }
  listed_truth Holds (is c t) h = let x = listed_truth Holds c h in record { columns = x.columns; hold = x.hold; named = x.named }
  listed_truth Holds (found n asked keys kinds rows) h =
      let x = listed_operands Holds asked h.0 in
      let y = listed_operands Holds keys h.1 in
      record {
        columns = x.columns ++ y.columns;
        hold = two_hold Holds x.columns y.columns x.hold y.hold;
        named = (left_operands x.columns y.columns asked x.named, right_operands x.columns y.columns keys y.named);
      }

  listed_operands : (Holds : ℕ → Ty → Type 0) (es : Operands) → OperandsHave Holds es → ListedOperands Holds es
  listed_operands Holds nil h = record { columns = []; hold = none_hold Holds; named = tt }
  listed_operands Holds (operand e es) h =
      let x = listed Holds e h.0 in
      let y = listed_operands Holds es h.1 in
      record {
        columns = x.columns ++ y.columns;
        hold = two_hold Holds x.columns y.columns x.hold y.hold;
        named = (left x.columns y.columns e x.named, right_operands x.columns y.columns es y.named);
      }

pub follows_columns : (Holds : ℕ → Ty → Type 0) (e f : Expression) → Follows e f → HasColumns Holds e → HasColumns Holds f
follows_columns Holds e f p h =
    let x = listed Holds e h in
    columns_more (IsAmong x.columns) Holds x.hold f (p.columns x.columns x.named)

pub follows_conditions : (Holds : ℕ → Ty → Type 0) (c d : Condition) → FollowsTruth c d → HaveColumns Holds c → HaveColumns Holds d
follows_conditions Holds c d p h =
    let x = listed_truth Holds c h in
    conditions_more (IsAmong x.columns) Holds x.hold d (p.columns x.columns x.named)
