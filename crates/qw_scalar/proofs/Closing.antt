-- Filling in changes neither kinds nor scales nor columns, and what is typed stays so.
use Rattle.std.proofs.Common.{◌≡◌, ℕ, List, [], ◌∷◌, refl}
use Rattle.qw_types.specs.declared.kind.Kind.{Kind}
use Rattle.qw_types.specs.declared.value.Ty.{Ty}
use Rattle.qw_scalar.specs.Closed.{Fills, FillsAll, FillsIn, Given, closed, closed_all, closed_in}
use Rattle.qw_scalar.specs.Columns.{HasColumns, HaveColumns, OperandsHave}
use Rattle.qw_scalar.specs.Expression.{Expression, Condition, Operands, null, number, date, text, column, arithmetic, negative, extract, brought, choice, given, cell, comparison, predicate, both, either, negation_of, is, found, nil, operand, scale_of}
use Rattle.qw_scalar.specs.Typing.{AreTyped, IsTyped, OperandsAreTyped, kind_of, meet_cells}

pub closed_scale : (g : Given) (e : Expression) → scale_of (closed g e) ≡ scale_of e
closed_scale g null = refl
closed_scale g (number v s) = refl
closed_scale g (date d) = refl
closed_scale g (text t) = refl
closed_scale g (column i ty) = refl
closed_scale g (arithmetic operator a b) = rw (closed_scale g a, closed_scale g b) refl
closed_scale g (negative a) = closed_scale g a
closed_scale g (extract field a) = refl
closed_scale g (brought a s) = refl
closed_scale g (choice c a b) = rw (closed_scale g a, closed_scale g b) refl
closed_scale g (given w k most v) = refl
closed_scale g (cell i ty most) = refl

pub closed_kind : (g : Given) (e : Expression) → kind_of (closed g e) ≡ kind_of e
closed_kind g null = refl
closed_kind g (number v s) = refl
closed_kind g (date d) = refl
closed_kind g (text t) = refl
closed_kind g (column i ty) = refl
closed_kind g (arithmetic operator a b) = rw (closed_scale g a, closed_scale g b) refl
closed_kind g (negative a) = rw (closed_scale g a) refl
closed_kind g (extract field a) = refl
closed_kind g (brought a s) = rw (closed_kind g a) refl
closed_kind g (choice c a b) = rw (closed_kind g a, closed_kind g b) refl
closed_kind g (given w k most v) = refl
closed_kind g (cell i ty most) = refl

closed_meet : (g : Given) (keys asked : Operands) (kinds : List Kind) → meet_cells (closed_all g keys) (closed_all g asked) kinds ≡ meet_cells keys asked kinds
closed_meet g nil nil kinds = refl
closed_meet g nil (operand e es) [] = refl
closed_meet g nil (operand e es) (k ∷ kinds) = rw (closed_kind g e, closed_meet g nil es kinds) refl
closed_meet g (operand e es) asked [] = refl
closed_meet g (operand e es) asked (k ∷ kinds) = rw (closed_kind g e, closed_meet g es asked kinds) refl

mutual
  pub closed_typed : (g : Given) (e : Expression) → IsTyped e → Fills g e → IsTyped (closed g e)
  closed_typed g null h f = h
  closed_typed g (number v s) h f = h
  closed_typed g (date d) h f = h
  closed_typed g (text t) h f = h
  closed_typed g (column i ty) h f = h
  closed_typed g (arithmetic operator a b) h f =
      ((closed_typed g a h.0.0 f.0, closed_typed g b h.0.1 f.1), rw (closed_kind g a, closed_kind g b, closed_scale g a, closed_scale g b) h.1)
  closed_typed g (negative a) h f = (closed_typed g a h.0 f, rw (closed_kind g a) h.1)
  closed_typed g (extract field a) h f = (closed_typed g a h.0 f, rw (closed_kind g a) h.1)
  closed_typed g (brought a s) h f = (closed_typed g a h.0 f, rw (closed_scale g a) h.1)
  closed_typed g (choice c a b) h f =
      (closed_typed_in g c h.0 f.0, ((closed_typed g a h.1.0.0 f.1.0, closed_typed g b h.1.0.1 f.1.1), rw (closed_kind g a, closed_kind g b) h.1.1))
  closed_typed g (given w k most v) h f = (h.0, f)
  closed_typed g (cell i ty most) h f = h

  pub closed_typed_in : (g : Given) (c : Condition) → AreTyped c → FillsIn g c → AreTyped (closed_in g c)
  closed_typed_in g (comparison op a b) h f = ((closed_typed g a h.0.0 f.0, closed_typed g b h.0.1 f.1), rw (closed_kind g a, closed_kind g b) h.1)
  closed_typed_in g (predicate p a) h f = closed_typed g a h f
  closed_typed_in g (both c d) h f = (closed_typed_in g c h.0 f.0, closed_typed_in g d h.1 f.1)
  closed_typed_in g (either c d) h f = (closed_typed_in g c h.0 f.0, closed_typed_in g d h.1 f.1)
  closed_typed_in g (negation_of c) h f = closed_typed_in g c h f
  closed_typed_in g (is c t) h f = closed_typed_in g c h f
  closed_typed_in g (found n asked keys kinds rows) h f = ((closed_typed_all g asked h.0.0 f.0.0, closed_typed_all g keys h.0.1 f.0.1), (f.1, rw (closed_meet g keys asked kinds) h.1.1))

  pub closed_typed_all : (g : Given) (es : Operands) → OperandsAreTyped es → FillsAll g es → OperandsAreTyped (closed_all g es)
  closed_typed_all g nil h f = h
  closed_typed_all g (operand e es) h f = (closed_typed g e h.0 f.0, closed_typed_all g es h.1 f.1)

mutual
  pub closed_columns : (g : Given) (P : ℕ → Ty → Type 0) (e : Expression) → HasColumns P e → HasColumns P (closed g e)
  closed_columns g P null h = h
  closed_columns g P (number v s) h = h
  closed_columns g P (date d) h = h
  closed_columns g P (text t) h = h
  closed_columns g P (column i ty) h = h
  closed_columns g P (arithmetic operator a b) h = (closed_columns g P a h.0, closed_columns g P b h.1)
  closed_columns g P (negative a) h = closed_columns g P a h
  closed_columns g P (extract field a) h = closed_columns g P a h
  closed_columns g P (brought a s) h = closed_columns g P a h
  closed_columns g P (choice c a b) h = (closed_columns_in g P c h.0, (closed_columns g P a h.1.0, closed_columns g P b h.1.1))
  closed_columns g P (given w k most v) h = h
  closed_columns g P (cell i ty most) h = h

  pub closed_columns_in : (g : Given) (P : ℕ → Ty → Type 0) (c : Condition) → HaveColumns P c → HaveColumns P (closed_in g c)
  closed_columns_in g P (comparison op a b) h = (closed_columns g P a h.0, closed_columns g P b h.1)
  closed_columns_in g P (predicate p a) h = closed_columns g P a h
  closed_columns_in g P (both c d) h = (closed_columns_in g P c h.0, closed_columns_in g P d h.1)
  closed_columns_in g P (either c d) h = (closed_columns_in g P c h.0, closed_columns_in g P d h.1)
  closed_columns_in g P (negation_of c) h = closed_columns_in g P c h
  closed_columns_in g P (is c t) h = closed_columns_in g P c h
  closed_columns_in g P (found n asked keys kinds rows) h = (closed_columns_all g P asked h.0, closed_columns_all g P keys h.1)

  pub closed_columns_all : (g : Given) (P : ℕ → Ty → Type 0) (es : Operands) → OperandsHave P es → OperandsHave P (closed_all g es)
  closed_columns_all g P nil h = h
  closed_columns_all g P (operand e es) h = (closed_columns g P e h.0, closed_columns_all g P es h.1)
