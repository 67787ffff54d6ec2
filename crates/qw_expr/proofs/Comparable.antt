-- The kinds of what is compared.
use Rattle.std.proofs.Common.{◌≡◌, ℕ, IsTrue, Option, Some, None, ap, ◌∙◌, refl}
use Rattle.qw_types.specs.declared.kind.Kind.{Kind}
use Rattle.qw_types.specs.declared.kind.Kind.TheVariants as kind
use Rattle.qw_scalar.specs.Typing.{are_comparable, is_date, is_number}

pub some_is : (k : Option Kind) (f g : Kind) → k ≡ Some f → f ≡ g → k ≡ Some g
some_is k f g is same = is ∙ ap (λ x. Some x) same

pub numbers_of : (k other : Option Kind) (s : ℕ) → k ≡ Some (kind.Number s) → IsTrue (are_comparable k other) → IsTrue (is_number k) × IsTrue (is_number other)
numbers_of None other s is h = absurd cc
numbers_of (Some (kind.Number t)) None s is h = absurd cc
numbers_of (Some (kind.Number t)) (Some (kind.Number u)) s is h = (refl, refl)
numbers_of (Some (kind.Number t)) (Some kind.Date) s is h = absurd cc
numbers_of (Some (kind.Number t)) (Some kind.Text) s is h = absurd cc
numbers_of (Some kind.Date) other s is h = absurd cc
numbers_of (Some kind.Text) other s is h = absurd cc

pub dates_of : (k other : Option Kind) → k ≡ Some kind.Date → IsTrue (are_comparable k other) → IsTrue (is_date k) × IsTrue (is_date other)
dates_of None other is h = absurd cc
dates_of (Some (kind.Number t)) other is h = absurd cc
dates_of (Some kind.Date) None is h = absurd cc
dates_of (Some kind.Date) (Some (kind.Number u)) is h = absurd cc
dates_of (Some kind.Date) (Some kind.Date) is h = (refl, refl)
dates_of (Some kind.Date) (Some kind.Text) is h = absurd cc
dates_of (Some kind.Text) other is h = absurd cc

pub texts_of : (k other : Option Kind) → k ≡ Some kind.Text → IsTrue (are_comparable k other) → other ≡ Some kind.Text
texts_of None other is h = absurd cc
texts_of (Some (kind.Number t)) other is h = absurd cc
texts_of (Some kind.Date) other is h = absurd cc
texts_of (Some kind.Text) None is h = absurd cc
texts_of (Some kind.Text) (Some (kind.Number u)) is h = absurd cc
texts_of (Some kind.Text) (Some kind.Date) is h = absurd cc
texts_of (Some kind.Text) (Some kind.Text) is h = refl

pub comparable_kinds : (k other l m : Option Kind) → k ≡ l → other ≡ m → IsTrue (are_comparable l m) → IsTrue (are_comparable k other)
comparable_kinds k other l m one two h = rw (one, two) h
