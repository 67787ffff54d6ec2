-- Comparisons that are one relation of two locals.
use Rattle.std.proofs.Common.{◌≡◌, ℕ, ℤ, ◌&&◌, ◌==◌, int_cmp, Bool, true, false, List, [], Option, Some, None, Ok, slice_get, refl, sym, ap, ◌∙◌, subst}
use Rattle.std.proofs.lemmas.Bool.{eqb-true}
use Rattle.qw_types.specs.Arithmetic.{order_of}
use Rattle.qw_types.specs.declared.kind.Kind.{Kind}
use Rattle.qw_types.specs.declared.kind.Kind.TheVariants as kind
use Rattle.qw_types.specs.declared.value.Val.{Val}
use Rattle.qw_types.specs.declared.value.Val.TheVariants as val
use Rattle.qw_scalar.specs.declared.comparison.Comparison.{Comparison}
use Rattle.qw_scalar.specs.Columns.{HaveColumns, HoldsIn}
use Rattle.qw_scalar.specs.Evaluation.{answers, compared, truth_if, value_of, at_row}
use Rattle.qw_scalar.specs.Expression.{Expression, comparison, scale_of}
use Rattle.qw_scalar.specs.Typing.{AreTyped, kind_of}
use Rattle.qw_module.specs.declared.instruction.ValType.{ValType}
use Rattle.qw_module.specs.declared.instruction.ValType.TheVariants.{I64}
use Rattle.qw_module.specs.Numbers.{truth}
use Rattle.qw_low.specs.Syntax.{local, relop}
use Rattle.qw_low.specs.State.{Number, LowState}
use Rattle.qw_low.specs.Meaning.{value}
use Rattle.qw_low.specs.Held.{HoldsNumber, SaysNull}
use Rattle.qw_wide.specs.Numbers.{HasNumber}
use Rattle.qw_wide.specs.Relations.{relation_of}
use Rattle.qw_wide.proofs.OrderRuns.{same_scale}
use Rattle.qw_wide.proofs.Relations.{tells_truth}
use Rattle.qw_wide.proofs.Words.{fits_small, held_word}
use Rattle.qw_expr.specs.declared.operand.Operand.{Operand}
use Rattle.qw_expr.specs.Cells.{Holds, DeclaresKind, DeclaresValue}
use Rattle.qw_expr.specs.Tests.{truth_word}
use Rattle.qw_expr.specs.Inner.Tests.{are_words, is_one_relation, never_null}
use Rattle.qw_expr.proofs.Binary.{operand_declared}
use Rattle.qw_expr.proofs.Comparable.{dates_of, numbers_of}
use Rattle.qw_expr.proofs.Decisions.{compared_numbers, date_in, number_in}
use Rattle.qw_expr.proofs.Unary.{date_declared}
use Rattle.qw_expr.proofs.Unknowns.{null_says}

-- the relation of the locals of two values tells what their comparison comes to, which is true or false, as their numbers' order does
pub record Relates (o : Comparison) (a b : Expression) (left right : Operand) : Type 0 where
  pub tells : (row : List Val) (x y : Val) (u : LowState) → HaveColumns (HoldsIn row) (comparison o a b) → value_of a (at_row row) ≡ Ok x → value_of b (at_row row) ≡ Ok y → Holds left x u → Holds right y u →
      (g : Bool) × (compared o x (scale_of a) y (scale_of b) ≡ truth_if g) × (value u (relop I64 (relation_of o) (local left.cell.value) (local right.cell.value)) ≡ Some (Number (truth_word (truth_if g))))
  pub numbers : (row : List Val) (x y : Val) (u : LowState) → HaveColumns (HoldsIn row) (comparison o a b) → value_of a (at_row row) ≡ Ok x → value_of b (at_row row) ≡ Ok y → Holds left x u → Holds right y u →
      (v w : ℤ) × HoldsNumber u left.cell.value v × HoldsNumber u right.cell.value w × (compared o x (scale_of a) y (scale_of b) ≡ truth_if (answers o (int_cmp v w)))
  pub left_typed : (types : List ValType) → DeclaresValue types left → slice_get types left.cell.value ≡ Some I64
  pub right_typed : (types : List ValType) → DeclaresValue types right → slice_get types right.cell.value ≡ Some I64

not_null : (o : Operand) (x : Val) (u : LowState) → o.cell.null ≡ None → Holds o x u → x ≡ val.Null → ⊥
not_null o x u none holds is = subst (SaysNull u) none (null_says o.cell x u is holds.0)

pub word_if : (g : Bool) → truth g ≡ truth_word (truth_if g)
word_if true = refl
word_if false = refl

-- two numbers, by their words
told : (o : Comparison) (left right : Operand) (ma mb : ℕ) (v w : ℤ) (u : LowState) → HasNumber left.cell.value ma v u → HasNumber right.cell.value mb w u →
    value u (relop I64 (relation_of o) (local left.cell.value) (local right.cell.value)) ≡ Some (Number (truth_word (truth_if (answers o (int_cmp v w)))))
told o left right ma mb v w u one other =
    rw (held_word u left.cell.value v one.0, held_word u right.cell.value w other.0)
    (ap (λ (n : ℕ). Some (Number n)) (tells_truth o v w (fits_small v one.1) (fits_small w other.1) ∙ word_if (answers o (int_cmp v w))))

all_three : (p q r : Bool) → (p && (q && r)) ≡ true → (p ≡ true) × (q ≡ true) × (r ≡ true)
all_three false q r h = absurd cc
all_three true false r h = absurd cc
all_three true true false h = absurd cc
all_three true true true h = (refl, refl, refl)

never : (n : Option ℕ) → never_null n ≡ true → n ≡ None
never None h = refl
never (Some x) h = absurd cc

compared_even : (o : Comparison) (x y : Val) (sa sb : ℕ) (v w : ℤ) → sa ≡ sb → x ≡ val.Num v → y ≡ val.Num w → compared o x sa y sb ≡ truth_if (answers o (int_cmp v w))
compared_even o x y sa sb v w same is_x is_y =
    compared_numbers o x y sa sb v w is_x is_y ∙ ap (λ r. truth_if (answers o r)) (ap (λ k. order_of v sa w k) (sym same) ∙ sym (same_scale v w sa))

compared_days : (o : Comparison) (x y : Val) (sa sb : ℕ) (v w : ℤ) → x ≡ val.Date v → y ≡ val.Date w → compared o x sa y sb ≡ truth_if (answers o (int_cmp v w))
compared_days o x y sa sb v w is_x is_y = rw (is_x, is_y) refl

pub relates : (o : Comparison) (a b : Expression) (left right : Operand) → AreTyped (comparison o a b) → is_one_relation left right ≡ true → left.kind ≡ kind_of a → right.kind ≡ kind_of b → left.scale ≡ scale_of a → right.scale ≡ scale_of b → Relates o a b left right
relates o a b left right typed one kind_a kind_b scale_a scale_b =
    let all = all_three (never_null left.cell.null) (never_null right.cell.null) (are_words left.kind (left.scale == right.scale)) one in
    by_kind left.kind refl (never left.cell.null all.0) (never right.cell.null all.1) all.2
  where
    by_kind : (k : Option Kind) → left.kind ≡ k → left.cell.null ≡ None → right.cell.null ≡ None → are_words k (left.scale == right.scale) ≡ true → Relates o a b left right
    by_kind None same none_l none_r h = absurd cc
    by_kind (Some kind.Text) same none_l none_r h = absurd cc
    by_kind (Some (kind.Number s)) same none_l none_r h =
        let numeric = numbers_of (kind_of a) (kind_of b) s (sym kind_a ∙ same) typed.1 in
        let even : scale_of a ≡ scale_of b = sym scale_a ∙ eqb-true left.scale right.scale h ∙ scale_b in
        record {
          tells = λ row x y u columns is_x is_y holds_x holds_y.
              let first = number_in [] a row x left u typed.0.0 numeric.0 columns.0 is_x holds_x (not_null left x u none_l holds_x) in
              let second = number_in [] b row y right u typed.0.1 numeric.1 columns.1 is_y holds_y (not_null right y u none_r holds_y) in
              (answers o (int_cmp first.0 second.0), compared_even o x y (scale_of a) (scale_of b) first.0 second.0 even first.1 second.1, told o left right left.most right.most first.0 second.0 u first.2 second.2);
          numbers = λ row x y u columns is_x is_y holds_x holds_y.
              let first = number_in [] a row x left u typed.0.0 numeric.0 columns.0 is_x holds_x (not_null left x u none_l holds_x) in
              let second = number_in [] b row y right u typed.0.1 numeric.1 columns.1 is_y holds_y (not_null right y u none_r holds_y) in
              (first.0, second.0, first.2.0, second.2.0, compared_even o x y (scale_of a) (scale_of b) first.0 second.0 even first.1 second.1);
          left_typed = λ types declared. operand_declared types left a kind_a numeric.0 declared;
          right_typed = λ types declared. operand_declared types right b kind_b numeric.1 declared;
        }
    by_kind (Some kind.Date) same none_l none_r h =
        let dated = dates_of (kind_of a) (kind_of b) (sym kind_a ∙ same) typed.1 in
        record {
          tells = λ row x y u columns is_x is_y holds_x holds_y.
              let first = date_in a row x left u typed.0.0 dated.0 columns.0 is_x holds_x (not_null left x u none_l holds_x) in
              let second = date_in b row y right u typed.0.1 dated.1 columns.1 is_y holds_y (not_null right y u none_r holds_y) in
              (answers o (int_cmp first.0 second.0), compared_days o x y (scale_of a) (scale_of b) first.0 second.0 first.1 second.1, told o left right 99991231 99991231 first.0 second.0 u first.2 second.2);
          numbers = λ row x y u columns is_x is_y holds_x holds_y.
              let first = date_in a row x left u typed.0.0 dated.0 columns.0 is_x holds_x (not_null left x u none_l holds_x) in
              let second = date_in b row y right u typed.0.1 dated.1 columns.1 is_y holds_y (not_null right y u none_r holds_y) in
              (first.0, second.0, first.2.0, second.2.0, compared_days o x y (scale_of a) (scale_of b) first.0 second.0 first.1 second.1);
          left_typed = λ types declared. date_declared types left.cell (kind_of a) dated.0 (subst (DeclaresKind types left.cell) kind_a declared.0);
          right_typed = λ types declared. date_declared types right.cell (kind_of b) dated.1 (subst (DeclaresKind types right.cell) kind_b declared.0);
        }
