-- The code of a statement has as many instructions as its size says, a `local.tee` counted as two, with those of the functions that it
-- calls, if `raise` and `pages` have none.
use Rattle.std.proofs.Common.{◌≡◌, ℕ, ◌+◌, ◌*◌, ◌==◌, if◌then◌else◌, Bool, true, false, None, refl, ap, ◌∙◌, arith}
use Rattle.qw_module.specs.declared.instruction.ValType.TheVariants.{I32}
use Rattle.qw_module.specs.declared.instruction.Binary.TheVariants.{Add, Sub}
use Rattle.qw_module.specs.declared.instruction.Op.{Op}
use Rattle.qw_module.specs.declared.instruction.Op.TheVariants as o
use Rattle.qw_module.specs.Syntax.{Code, done, op, loop, if_then, if_else, br_if, call}
use Rattle.qw_module.specs.Start.{besides_one, weight_with}
use Rattle.qw_low.specs.Syntax.{Expression, constant_of, local, unop, binop, divop, is_zero, relop, cvtop, advance, retreat, Statement, skip, seq, assign, load, store, conditional, while, request, raise, exit}
use Rattle.qw_low.specs.Meaning.{cost}
use Rattle.qw_low.specs.Translation.{expression_code, statement_code, setting, unaligned, on_answer}
use Rattle.qw_low.specs.Size.{size}

module _ (called : ℕ → ℕ) (none : called 0 ≡ 0) (none_asked : called 1 ≡ 0) where
  abbrev Counts : Expression → Type 0
  Counts e = (k : Code) → weight_with called (expression_code e k) ≡ cost e + weight_with called k

  of_one : (e : Expression) (operator : Op) → besides_one operator ≡ 0 → Counts e → (k : Code) → weight_with called (expression_code e (op operator k)) ≡ cost e + 1 + weight_with called k
  of_one e operator single counts k =
      let sum : cost e + (1 + besides_one operator + weight_with called k) ≡ cost e + 1 + weight_with called k = omega (arith, single) in
      counts (op operator k) ∙ sum

  of_two : (l r : Expression) (operator : Op) → besides_one operator ≡ 0 → Counts l → Counts r → (k : Code) → weight_with called (expression_code l (expression_code r (op operator k))) ≡ cost l + cost r + 1 + weight_with called k
  of_two l r operator single left right k =
      let sum : cost l + (cost r + 1 + weight_with called k) ≡ cost l + cost r + 1 + weight_with called k = omega arith in
      left (expression_code r (op operator k)) ∙ ap (λ (n : ℕ). cost l + n) (of_one r operator single right k) ∙ sum

  pub expression_size : (e : Expression) → Counts e
  expression_size (constant_of c) k = refl
  expression_size (local x) k = refl
  expression_size (unop t u e) k = of_one e (o.Unary t u) refl (expression_size e) k
  expression_size (binop t b l r) k = of_two l r (o.Binary t b) refl (expression_size l) (expression_size r) k
  expression_size (divop t d l r) k = of_two l r (o.Division t d) refl (expression_size l) (expression_size r) k
  expression_size (is_zero t e) k = of_one e (o.Eqz t) refl (expression_size e) k
  expression_size (relop t r left right) k = of_two left right (o.Relation t r) refl (expression_size left) (expression_size right) k
  expression_size (cvtop c e) k = of_one e (o.Convert c) refl (expression_size e) k
  expression_size (advance a n) k = of_two a n (o.Binary I32 Add) refl (expression_size a) (expression_size n) k
  expression_size (retreat a n) k = of_two a n (o.Binary I32 Sub) refl (expression_size a) (expression_size n) k

  -- a `local.tee` counts as the `local.set` and the `local.get` that it is
  setting_size : (x : ℕ) (k : Code) → weight_with called (setting x k) ≡ 1 + weight_with called k
  setting_size x (op (o.LocalGet y) k) = counted (x == y)
    where
      counted : (same : Bool) → weight_with called (if same then op (o.LocalTee x) k else op (o.LocalSet x) (op (o.LocalGet y) k)) ≡ 1 + (1 + weight_with called k)
      counted true = omega arith
      counted false = refl
  setting_size x _ = refl

  pub statement_size : (a : Statement) (k : Code) → weight_with called (statement_code a k) ≡ size a + weight_with called k
  statement_size skip k =
      let none : weight_with called k ≡ 0 + weight_with called k = omega arith in
      none
  statement_size (seq a b) k =
      let sum : size a + (size b + weight_with called k) ≡ size a + size b + weight_with called k = omega arith in
      statement_size a (statement_code b k) ∙ ap (λ (n : ℕ). size a + n) (statement_size b k) ∙ sum
  statement_size (assign x e) k =
      let sum : cost e + (1 + weight_with called k) ≡ cost e + 1 + weight_with called k = omega arith in
      expression_size e (setting x k) ∙ ap (λ (n : ℕ). cost e + n) (setting_size x k) ∙ sum
  statement_size (load x l offset a) k =
      let sum : cost a + 1 + (1 + weight_with called k) ≡ cost a + 2 + weight_with called k = omega arith in
      of_one a (o.Load l (unaligned offset)) refl (expression_size a) (setting x k) ∙ ap (λ (n : ℕ). cost a + 1 + n) (setting_size x k) ∙ sum
  statement_size (store st offset a e) k = of_two a e (o.Store st (unaligned offset)) refl (expression_size a) (expression_size e) k
  statement_size (conditional e a b) k =
      let first : weight_with called (statement_code a done) ≡ size a + 0 = statement_size a done in
      let second : weight_with called (statement_code b done) ≡ size b + 0 = statement_size b done in
      let sum : cost e + (1 + weight_with called (statement_code a done) + weight_with called (statement_code b done) + weight_with called k) ≡ cost e + 1 + (size a + size b) + weight_with called k = omega (arith, first, second) in
      expression_size e (if_else None (statement_code a done) (statement_code b done) k) ∙ sum
  statement_size (while e a) k =
      let again : weight_with called (expression_code e (br_if 0 done)) ≡ cost e + 1 = expression_size e (br_if 0 done) in
      let body : weight_with called (statement_code a (expression_code e (br_if 0 done))) ≡ size a + weight_with called (expression_code e (br_if 0 done)) = statement_size a (expression_code e (br_if 0 done)) in
      let sum : cost e + (1 + (1 + weight_with called (statement_code a (expression_code e (br_if 0 done))) + 0) + weight_with called k) ≡ 2 * cost e + 3 + size a + weight_with called k = omega (arith, again, body) in
      expression_size e (if_then None (loop None (statement_code a (expression_code e (br_if 0 done))) done) k) ∙ sum
  statement_size (request e x) k =
      let sum : cost e + 1 + (11 + weight_with called k) ≡ cost e + 12 + weight_with called k = omega arith in
      let answer : weight_with called (on_answer x k) ≡ 11 + weight_with called k = omega (arith, none, setting_size x k) in
      let asked : cost e + (1 + called 1 + weight_with called (on_answer x k)) ≡ cost e + 1 + weight_with called (on_answer x k) = omega (arith, none_asked) in
      expression_size e (call 1 (on_answer x k)) ∙ asked ∙ ap (λ (n : ℕ). cost e + 1 + n) answer ∙ sum
  statement_size (raise code) k =
      let two : 1 + (1 + called 0 + weight_with called k) ≡ 2 + weight_with called k = omega (arith, none) in
      two
  statement_size exit k = refl
