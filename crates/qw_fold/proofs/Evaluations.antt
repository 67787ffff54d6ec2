-- What an operation on literals comes to can stand for it.
use Rattle.std.proofs.Common.{◌≡◌, ◌⊎◌, ◌&&◌, ℕ, ℤ, neg_ℤ, ◌+◌, ◌≤◌, ◌++◌, true, false, IsTrue, List, [], Some, MatchOption, Result, Ok, Err, refl, sym, ap, subst, arith}
use Rattle.std.proofs.lemmas.Bool.Decides.{nat_tests}
use Rattle.qw_types.specs.Arithmetic.{fits}
use Rattle.qw_types.specs.declared.code.Code.{Code}
use Rattle.qw_types.specs.declared.kind.Kind.TheVariants as kind
use Rattle.qw_types.specs.declared.value.Val.TheVariants as val
use Rattle.qw_scalar.specs.declared.expression.Expr.{Expr}
use Rattle.qw_scalar.specs.declared.expression.Expr.TheVariants.{Number, Date}
use Rattle.qw_scalar.specs.declared.expression.Field.{Field}
use Rattle.qw_scalar.specs.declared.expression.Operator.{Operator}
use Rattle.qw_scalar.specs.declared.expression.Operator.TheVariants as op
use Rattle.qw_scalar.specs.Columns.{HasColumns, HoldsIn}
use Rattle.qw_scalar.specs.Evaluation.{Environment, applied, as_number, field_of, value_of, at_row}
use Rattle.qw_scalar.specs.Expression.{Expression, arithmetic, date, extract, negative, number, scale_after, scale_of}
use Rattle.qw_scalar.specs.Nodes.{nodes}
use Rattle.qw_scalar.specs.Tree.{expression_of}
use Rattle.qw_scalar.specs.Typing.{IsTyped, ScalesAllowed, kind_of}
use Rattle.qw_scalar.specs.Units as text
use Rattle.qw_fold.specs.Folded.{IsFolded, IsLeft}
use Rattle.qw_scalar.specs.Texts.{texts_in}
use Rattle.qw_fold.specs.Inner.Made.{BroughtTogether, Follows, IsBuilt, IsFoldOf, is_date, is_number, number_in}
use Rattle.qw_fold.proofs.Congruence.{itself, then}
use Rattle.qw_fold.proofs.Literals.{combined_brought, linear}

-- a literal for what has its value everywhere
literal_for : (e : Expression) (v : ℤ) (s count : ℕ) → ((env : Environment) → value_of e env ≡ Ok (val.Num v)) → kind_of e ≡ Some (kind.Number s) → scale_of e ≡ s →
    ((env : Environment) → text.units e env ≡ 0) → IsTrue (fits v) → s ≤ 18 → 1 ≤ count → IsFoldOf e count [] (Number v s)
literal_for e v s count value kind' scale units fit near some = record {
  follows = record {
    same = record { value = value; kind = kind'; scale = scale; units = units };
    typed = λ h. (fit, near);
    columns = λ columns h. tt;
  };
  folded = tt;
  short = some;
  same_texts = refl;
}

-- an operation that stays
stays : (e : Expression) (count : ℕ) (texts : List (List ℕ)) (tree made : Expr) → made ≡ tree → expression_of tree ≡ e → IsFolded tree → nodes tree ≡ count → texts_in tree ≡ texts → IsFoldOf e count texts made
stays e count texts tree made is means folded counted texts' =
    subst (λ (m : Expr). IsFoldOf e count texts m) (sym is) (record {
      follows = subst (λ (f : Expression). Follows e f) (sym means) (itself e);
      folded = folded;
      short = omega arith;
      same_texts = texts';
    })

allowed_scale : (operator : Operator) (s t : ℕ) → s ≤ 18 → t ≤ 18 → ScalesAllowed operator s t → scale_after operator s t ≤ 18
allowed_scale op.Add s t hs ht h = omega arith
allowed_scale op.Subtract s t hs ht h = omega arith
allowed_scale op.Multiply s t hs ht h = h
allowed_scale op.Divide s t hs ht h = hs

operation_result : (operator : Operator) (x y : ℤ) (s t : ℕ) (tree made : Expr) (r : Result ℤ Code) → applied operator x s y t ≡ r → scale_after operator s t ≤ 18 →
    MatchOption (number_in (as_number r)) (made ≡ tree) (λ v. (made ≡ Number v (scale_after operator s t)) × IsTrue (fits v)) →
    expression_of tree ≡ arithmetic operator (number x s) (number y t) → (IsLeft operator (Number x s) (Number y t) → IsFolded tree) → nodes tree ≡ 3 → texts_in tree ≡ [] →
    IsFoldOf (arithmetic operator (number x s) (number y t)) 3 [] made
operation_result operator x y s t tree made (Ok v) is near h means folded counted texts =
    rw h.0 (literal_for (arithmetic operator (number x s) (number y t)) v (scale_after operator s t) 3 (λ env. ap as_number is) refl refl (λ env. refl) h.1 near (omega arith))
operation_result operator x y s t tree made (Err code) is near h means folded counted texts =
    stays (arithmetic operator (number x s) (number y t)) 3 [] tree made h means (folded (code, is)) counted texts

-- of two literals an operation is on
both_numbers : (a b : Expr) → (is_number a && is_number b) ≡ true → (is_number a ≡ true) × (is_number b ≡ true)
both_numbers a b h = grind (arith, nat_tests, h)

number_constant : (a : Expr) → is_number a ≡ true → HasColumns (HoldsIn []) (expression_of a)
number_constant (Number v s) h = tt
number_constant _ h = absurd cc

pub operation_constant : (operator : Operator) (a b : Expr) (e : Expression) → (is_number a && is_number b) ≡ true → e ≡ arithmetic operator (expression_of a) (expression_of b) → HasColumns (HoldsIn []) e
operation_constant operator a b e h means =
    rw means (number_constant a (both_numbers a b h).0, number_constant b (both_numbers a b h).1)

pub negative_constant : (a : Expr) (e : Expression) → is_number a ≡ true → e ≡ negative (expression_of a) → HasColumns (HoldsIn []) e
negative_constant a e h means = rw means (number_constant a h)

-- the tree of an operation on two operands, folded where none of it is left to do
pub record IsOperation (operator : Operator) (a b tree : Expr) : Type 0 where
  pub built : IsBuilt (arithmetic operator (expression_of a) (expression_of b)) (1 + nodes a + nodes b) (texts_in a ++ texts_in b) tree
  pub folded : IsLeft operator a b → IsFolded tree

both_evaluated : (operator : Operator) (a b tree made : Expr) → is_number a ≡ true → is_number b ≡ true → IsTyped (arithmetic operator (expression_of a) (expression_of b)) →
    MatchOption (number_in (value_of (expression_of tree) (at_row []))) (made ≡ tree) (λ v. (made ≡ Number v (scale_of (expression_of tree))) × IsTrue (fits v)) →
    IsOperation operator a b tree → IsFoldOf (arithmetic operator (expression_of a) (expression_of b)) (1 + nodes a + nodes b) (texts_in a ++ texts_in b) made
both_evaluated operator (Number x s) (Number y t) tree made na nb typed h is =
    operation_result operator x y s t tree made (applied operator x s y t) refl (allowed_scale operator s t typed.0.0.1 typed.0.1.1 typed.1.1) (rw is.built.means at h)
    is.built.means is.folded is.built.counted is.built.same_texts
both_evaluated operator (Number x s) _ tree made na nb typed h is = absurd cc
both_evaluated operator _ b tree made na nb typed h is = absurd cc

pub operation_evaluated : (operator : Operator) (a b tree made : Expr) → (is_number a && is_number b) ≡ true → IsTyped (arithmetic operator (expression_of a) (expression_of b)) →
    MatchOption (number_in (value_of (expression_of tree) (at_row []))) (made ≡ tree) (λ v. (made ≡ Number v (scale_of (expression_of tree))) × IsTrue (fits v)) →
    IsOperation operator a b tree → IsFoldOf (arithmetic operator (expression_of a) (expression_of b)) (1 + nodes a + nodes b) (texts_in a ++ texts_in b) made
operation_evaluated operator a b tree made h typed is built =
    both_evaluated operator a b tree made (both_numbers a b h).0 (both_numbers a b h).1 typed is built

left_beside : (operator : Operator) (a b : Expr) → (is_number a && is_number b) ≡ false → IsLeft operator a b
left_beside operator (Number v s) (Number w t) h = absurd cc
left_beside operator (Number v s) _ h = tt
left_beside operator _ b h = tt

pub operation_stays : (operator : Operator) (a b tree : Expr) → (is_number a && is_number b) ≡ false → IsOperation operator a b tree →
    IsFoldOf (arithmetic operator (expression_of a) (expression_of b)) (1 + nodes a + nodes b) (texts_in a ++ texts_in b) tree
operation_stays operator a b tree h is =
    stays (arithmetic operator (expression_of a) (expression_of b)) _ _ tree tree refl is.built.means (is.folded (left_beside operator a b h)) is.built.counted is.built.same_texts

pub negative_evaluated : (a tree made : Expr) → is_number a ≡ true → IsTyped (negative (expression_of a)) → expression_of tree ≡ negative (expression_of a) →
    MatchOption (number_in (value_of (expression_of tree) (at_row []))) (made ≡ tree) (λ v. (made ≡ Number v (scale_of (expression_of tree))) × IsTrue (fits v)) →
    IsFoldOf (negative (expression_of a)) (1 + nodes a) (texts_in a) made
negative_evaluated (Number x s) tree made na typed means h =
    let h' = rw means at h in
    rw h'.0 (literal_for (negative (number x s)) (neg_ℤ x) s 2 (λ env. refl) refl refl (λ env. refl) h'.1 typed.0.1 (omega arith))
negative_evaluated _ tree made na typed means h = absurd cc

pub extract_evaluated : (field : Field) (a tree made : Expr) → is_date a ≡ true → IsTyped (extract field (expression_of a)) → expression_of tree ≡ extract field (expression_of a) →
    MatchOption (number_in (value_of (expression_of tree) (at_row []))) (made ≡ tree) (λ v. (made ≡ Number v (scale_of (expression_of tree))) × IsTrue (fits v)) →
    IsFoldOf (extract field (expression_of a)) (1 + nodes a) (texts_in a) made
extract_evaluated field (Date d) tree made na typed means h =
    let h' = rw means at h in
    rw h'.0 (literal_for (extract field (date d)) (field_of field d) 0 2 (λ env. refl) refl refl (λ env. refl) h'.1 (omega arith) (omega arith))
extract_evaluated field _ tree made na typed means h = absurd cc

-- what is made of operands at one scale stands for what is made of them
pub together_stands : (operator : Operator) (a b x y made : Expr) → (operator ≡ op.Add) ⊎ (operator ≡ op.Subtract) → BroughtTogether a b x y →
    IsFoldOf (arithmetic operator (expression_of x) (expression_of y)) (1 + nodes x + nodes y) (texts_in x ++ texts_in y) made →
    IsFoldOf (arithmetic operator (expression_of a) (expression_of b)) (1 + nodes a + nodes b) (texts_in a ++ texts_in b) made
together_stands operator a b x y made is t h = record {
  follows = then _ _ _ (combined_brought operator _ (expression_of a) (expression_of b) (expression_of x) (expression_of y) (linear operator is) refl t.left t.right) h.follows;
  folded = h.folded;
  short = rw (t.left_nodes, t.right_nodes) at h.short;
  same_texts = rw (← t.left_texts, ← t.right_texts) h.same_texts;
}
