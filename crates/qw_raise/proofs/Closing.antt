-- Filling in changes no magnitude, and nothing can raise that couldn't.
use Rattle.std.proofs.Common.{◌≡◌, refl}
use Rattle.qw_scalar.specs.Closed.{Given, closed, closed_all, closed_in}
use Rattle.qw_scalar.proofs.Closing.{closed_scale}
use Rattle.qw_scalar.specs.Expression.{Expression, Condition, Operands, null, number, date, text, column, arithmetic, negative, extract, brought, choice, given, cell, comparison, predicate, both, either, negation_of, is, found, nil, operand}
use Rattle.qw_raise.specs.Raise.{can_raise, condition_can_raise, is_safe_divisor, magnitude, operands_can_raise}

pub closed_magnitude : (g : Given) (e : Expression) → magnitude (closed g e) ≡ magnitude e
closed_magnitude g null = refl
closed_magnitude g (number v s) = refl
closed_magnitude g (date d) = refl
closed_magnitude g (text t) = refl
closed_magnitude g (column i ty) = refl
closed_magnitude g (arithmetic operator a b) = rw (closed_scale g a, closed_scale g b, closed_magnitude g a, closed_magnitude g b) refl
closed_magnitude g (negative a) = closed_magnitude g a
closed_magnitude g (extract field a) = refl
closed_magnitude g (brought a s) = rw (closed_scale g a, closed_magnitude g a) refl
closed_magnitude g (choice c a b) = rw (closed_magnitude g a, closed_magnitude g b) refl
closed_magnitude g (given w k most v) = refl
closed_magnitude g (cell i ty most) = refl

closed_divisor : (g : Given) (e : Expression) → is_safe_divisor (closed g e) ≡ is_safe_divisor e
closed_divisor g null = refl
closed_divisor g (number v s) = refl
closed_divisor g (date d) = refl
closed_divisor g (text t) = refl
closed_divisor g (column i ty) = refl
closed_divisor g (arithmetic operator a b) = refl
closed_divisor g (negative a) = refl
closed_divisor g (extract field a) = refl
closed_divisor g (brought a s) = refl
closed_divisor g (choice c a b) = refl
closed_divisor g (given w k most v) = refl
closed_divisor g (cell i ty most) = refl

mutual
  pub closed_raises : (g : Given) (e : Expression) → can_raise (closed g e) ≡ can_raise e
  closed_raises g null = refl
  closed_raises g (number v s) = refl
  closed_raises g (date d) = refl
  closed_raises g (text t) = refl
  closed_raises g (column i ty) = refl
  closed_raises g (arithmetic operator a b) =
      rw (closed_scale g a, closed_scale g b, closed_magnitude g a, closed_magnitude g b, closed_divisor g b, closed_raises g a, closed_raises g b) refl
  closed_raises g (negative a) = closed_raises g a
  closed_raises g (extract field a) = closed_raises g a
  closed_raises g (brought a s) = rw (closed_scale g a, closed_magnitude g a, closed_raises g a) refl
  closed_raises g (choice c a b) = rw (closed_raises_in g c, closed_raises g a, closed_raises g b) refl
  closed_raises g (given w k most v) = refl
  closed_raises g (cell i ty most) = refl

  pub closed_raises_in : (g : Given) (c : Condition) → condition_can_raise (closed_in g c) ≡ condition_can_raise c
  closed_raises_in g (comparison op a b) = rw (closed_raises g a, closed_raises g b) refl
  closed_raises_in g (predicate p a) = closed_raises g a
  closed_raises_in g (both c d) = rw (closed_raises_in g c, closed_raises_in g d) refl
  closed_raises_in g (either c d) = rw (closed_raises_in g c, closed_raises_in g d) refl
  closed_raises_in g (negation_of c) = closed_raises_in g c
  closed_raises_in g (is c t) = closed_raises_in g c
  closed_raises_in g (found n asked keys kinds rows) = rw (closed_raises_all g asked, closed_raises_all g keys) refl

  pub closed_raises_all : (g : Given) (es : Operands) → operands_can_raise (closed_all g es) ≡ operands_can_raise es
  closed_raises_all g nil = refl
  closed_raises_all g (operand e es) = rw (closed_raises g e, closed_raises_all g es) refl
