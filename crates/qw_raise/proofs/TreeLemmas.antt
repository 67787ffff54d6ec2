-- Of the trees, only a number is a literal.
use Rattle.std.proofs.Common.{◌≡◌, ℕ, ℤ, false, refl}
use Rattle.qw_scalar.specs.declared.expression.Expr.{Expr}
use Rattle.qw_scalar.specs.declared.expression.Expr.TheVariants.{Null, Number, Date, Text, Column, Arithmetic', Negative', Extract', Case', Match', Call'}
use Rattle.qw_scalar.proofs.CaseLemmas.{called_shape}
use Rattle.qw_scalar.specs.Expression.{Choices, cases, largest_result, otherwise, when}
use Rattle.qw_scalar.specs.Tree.{choices_of, expression_of, expressions_of, matches_of}
use Rattle.qw_raise.specs.Raise.{is_safe_divisor}

no_literal_case : (s : ℕ) (choices : Choices) → is_safe_divisor (cases s choices) ≡ false
no_literal_case s (otherwise e) = refl
no_literal_case s (when c e rest) = refl

pub no_literal : (e : Expr) → ((v : ℤ) (s : ℕ) → e ≡ Number v s → ⊥) → is_safe_divisor (expression_of e) ≡ false
no_literal Null not = refl
no_literal (Number v s) not = absurd (not v s refl)
no_literal (Date d) not = refl
no_literal (Text t) not = refl
no_literal (Column i ty) not = refl
no_literal (Arithmetic' operator _ a _ b) not = refl
no_literal (Negative' _ a) not = refl
no_literal (Extract' field _ a) not = refl
no_literal (Case' _ branches) not = no_literal_case (largest_result (choices_of branches)) (choices_of branches)
no_literal (Match' _ x _ matches) not = no_literal_case (largest_result (matches_of matches (expression_of x))) (matches_of matches (expression_of x))
no_literal (Call' function _ arguments) not = called_shape (λ e. is_safe_divisor e ≡ false) (λ e s. refl) (λ c a b. refl) function (expressions_of arguments)
