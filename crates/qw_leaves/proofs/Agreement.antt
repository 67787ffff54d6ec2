-- What an expression gives at a row, and what it compares there, depends on the columns alone that it names.
use Rattle.std.proofs.Common.{◌≡◌, ℕ, List, ◌∷◌, max, Result, Ok, slice_get, refl, ap, ap₂, ◌∙◌}
use Rattle.qw_types.specs.Arithmetic.{◌>>=◌}
use Rattle.qw_types.specs.declared.code.Code.{Code}
use Rattle.qw_types.specs.declared.truth.Truth.{Truth}
use Rattle.qw_types.specs.declared.value.Ty.{Ty}
use Rattle.qw_types.specs.declared.value.Val.{Val}
use Rattle.qw_types.specs.Truth.{negation}
use Rattle.qw_scalar.specs.Columns.{HasColumns, HaveColumns, OperandsHave}
use Rattle.qw_scalar.specs.Evaluation.{Scaled, answered, bounded, values_of, and_then, at_row, cell_of, chosen, combined, compared, extracted, negated, or_else, raised, same_truth, tested, truth_if, truth_of, value_of}
use Rattle.qw_scalar.specs.Expression.{Expression, Condition, null, number, date, text, column, arithmetic, negative, extract, brought, choice, given, cell, comparison, predicate, both, either, negation_of, is, found, Operands, nil, operand, scale_of}
use Rattle.qw_scalar.specs.Units.{octets_of, operands_units, units, units_of}

abbrev pub value_at : List Val → ℕ → Val
value_at row i = cell_of (slice_get row i)

module _ (row other : List Val) where
  abbrev pub Agrees : ℕ → Ty → Type 0
  Agrees i ty = value_at other i ≡ value_at row i

  mutual
    pub values_agree : (e : Expression) → HasColumns Agrees e → value_of e (at_row other) ≡ value_of e (at_row row)
    values_agree null h = refl
    values_agree (number v s) h = refl
    values_agree (date d) h = refl
    values_agree (text t) h = refl
    values_agree (column i ty) h = ap (λ (v : Val). let r : Result Val Code = Ok v in r) h
    values_agree (arithmetic operator a b) h =
        ap₂ (λ (p q : Result Val Code). p >>= (λ x. q >>= (λ y. combined operator x (scale_of a) y (scale_of b)))) (values_agree a h.0) (values_agree b h.1)
    values_agree (negative a) h = ap (λ (p : Result Val Code). p >>= (λ x. let r : Result Val Code = Ok (negated x) in r)) (values_agree a h)
    values_agree (extract field a) h = ap (λ (p : Result Val Code). p >>= (λ x. let r : Result Val Code = Ok (extracted field x) in r)) (values_agree a h)
    values_agree (brought a s) h = ap (λ (p : Result Val Code). p >>= (λ x. raised x (scale_of a) s)) (values_agree a h)
    values_agree (choice c a b) h =
        ap (λ (p : Result Truth Code). p >>= (λ t. chosen t (value_of a (at_row other)) (value_of b (at_row other)))) (truths_agree c h.0)
        ∙ ap₂ (λ (p q : Result Val Code). truth_of c (at_row row) >>= (λ t. chosen t p q)) (values_agree a h.1.0) (values_agree b h.1.1)
    values_agree (given w k most v) h = refl
    values_agree (cell i ty most) h = ap (λ (v : Val). let r : Result Val Code = Ok (bounded most v) in r) h

    pub truths_agree : (c : Condition) → HaveColumns Agrees c → truth_of c (at_row other) ≡ truth_of c (at_row row)
    truths_agree (comparison op a b) h =
        ap₂ (λ (p q : Result Val Code). p >>= (λ x. q >>= (λ y. let r : Result Truth Code = Ok (compared op x (scale_of a) y (scale_of b)) in r))) (values_agree a h.0) (values_agree b h.1)
    truths_agree (predicate p a) h = ap (λ (v : Result Val Code). v >>= (λ x. let r : Result Truth Code = Ok (tested p x) in r)) (values_agree a h)
    truths_agree (both c d) h = ap₂ (λ (p q : Result Truth Code). p >>= (λ t. and_then t q)) (truths_agree c h.0) (truths_agree d h.1)
    truths_agree (either c d) h = ap₂ (λ (p q : Result Truth Code). p >>= (λ t. or_else t q)) (truths_agree c h.0) (truths_agree d h.1)
    truths_agree (negation_of c) h = ap (λ (p : Result Truth Code). p >>= (λ t. let r : Result Truth Code = Ok (negation t) in r)) (truths_agree c h)
    truths_agree (is c u) h = ap (λ (p : Result Truth Code). p >>= (λ t. let r : Result Truth Code = Ok (truth_if (same_truth t u)) in r)) (truths_agree c h)
    truths_agree (found n asked keys kinds rows) h =
        ap₂ (λ (p q : Result (List Scaled) Code). p >>= (λ xs. q >>= (λ ys. let r : Result Truth Code = Ok (answered xs ys kinds rows) in r))) (operands_agree asked h.0) (operands_agree keys h.1)

    pub operands_agree : (es : Operands) → OperandsHave Agrees es → values_of es (at_row other) ≡ values_of es (at_row row)
    operands_agree nil h = refl
    operands_agree (operand e es) h =
        ap₂ (λ (p : Result Val Code) (q : Result (List Scaled) Code). p >>= (λ x. q >>= (λ xs. let r : Result (List Scaled) Code = Ok (record { value = x; scale = scale_of e } ∷ xs) in r))) (values_agree e h.0) (operands_agree es h.1)

  mutual
    pub units_agree : (e : Expression) → HasColumns Agrees e → units e (at_row other) ≡ units e (at_row row)
    units_agree null h = refl
    units_agree (number v s) h = refl
    units_agree (date d) h = refl
    units_agree (text t) h = refl
    units_agree (column i ty) h = refl
    units_agree (arithmetic operator a b) h = ap₂ (λ (x y : ℕ). max x y) (units_agree a h.0) (units_agree b h.1)
    units_agree (negative a) h = units_agree a h
    units_agree (extract field a) h = units_agree a h
    units_agree (brought a s) h = units_agree a h
    units_agree (choice c a b) h = ap₂ (λ (x y : ℕ). max x y) (condition_units_agree c h.0) (ap₂ (λ (x y : ℕ). max x y) (units_agree a h.1.0) (units_agree b h.1.1))
    units_agree (given w k most v) h = refl
    units_agree (cell i ty most) h = refl

    pub condition_units_agree : (c : Condition) → HaveColumns Agrees c → units_of c (at_row other) ≡ units_of c (at_row row)
    condition_units_agree (comparison op a b) h =
        ap₂ (λ (x y : ℕ). max x y) (ap₂ (λ (x y : ℕ). max x y) (units_agree a h.0) (units_agree b h.1)) (ap₂ (λ (p q : Result Val Code). octets_of op p q) (values_agree a h.0) (values_agree b h.1))
    condition_units_agree (predicate p a) h = units_agree a h
    condition_units_agree (both c d) h = ap₂ (λ (x y : ℕ). max x y) (condition_units_agree c h.0) (condition_units_agree d h.1)
    condition_units_agree (either c d) h = ap₂ (λ (x y : ℕ). max x y) (condition_units_agree c h.0) (condition_units_agree d h.1)
    condition_units_agree (negation_of c) h = condition_units_agree c h
    condition_units_agree (is c u) h = condition_units_agree c h
    condition_units_agree (found n asked keys kinds rows) h = ap₂ (λ (x y : ℕ). max x y) (operands_units_agree asked h.0) (operands_units_agree keys h.1)

    pub operands_units_agree : (es : Operands) → OperandsHave Agrees es → operands_units es (at_row other) ≡ operands_units es (at_row row)
    operands_units_agree nil h = refl
    operands_units_agree (operand e es) h = ap₂ (λ (x y : ℕ). max x y) (units_agree e h.0) (operands_units_agree es h.1)
