-- When a query reads a column.
use Rattle.std.proofs.Common.{◌≡◌, ℕ, nat_eq, Bool, true, false, not, ◌||◌, List, [], ◌∷◌, ◌++◌, refl}
use Rattle.std.specs.List.{AllByRecursion, list_any}
use Rattle.qw_scalar.specs.Expression.{Condition, Expression}
use Rattle.qw_meaning.specs.Select.{Specification, conjuncts_on}
use Rattle.qw_algebra.specs.Columns.{condition_names_only, names_only}
use Rattle.qw_compile.specs.PlannedQueries.{condition_names, names, reads}

or_parts : (a b : Bool) → (a || b) ≡ false → (a ≡ false) × (b ≡ false)
or_parts true b h = absurd cc
or_parts false b h = (refl, h)

not_named : (b : Bool) → not b ≡ false → b ≡ true
not_named true h = refl
not_named false h = absurd cc

no_condition : (i : ℕ) (cs : List Condition) → list_any (condition_names i) cs ≡ false → AllByRecursion (λ c. condition_names_only (λ j. not (nat_eq j i)) c ≡ true) cs
no_condition i [] h = tt
no_condition i (c ∷ cs) h =
    let parts = or_parts (condition_names i c) (list_any (condition_names i) cs) h in
    (not_named (condition_names_only (λ j. not (nat_eq j i)) c) parts.0, no_condition i cs parts.1)

no_item : (i : ℕ) (es : List Expression) → list_any (names i) es ≡ false → AllByRecursion (λ e. names_only (λ j. not (nat_eq j i)) e ≡ true) es
no_item i [] h = tt
no_item i (e ∷ es) h =
    let parts = or_parts (names i e) (list_any (names i) es) h in
    (not_named (names_only (λ j. not (nat_eq j i)) e) parts.0, no_item i es parts.1)

-- it does where not all of its expressions are without it
pub reads_unless : (query : Specification) (i : ℕ)
    → (AllByRecursion (λ c. condition_names_only (λ j. not (nat_eq j i)) c ≡ true) (conjuncts_on query.sources ++ query.conjuncts) → AllByRecursion (λ e. names_only (λ j. not (nat_eq j i)) e ≡ true) query.items → ⊥)
    → reads query i ≡ true
reads_unless query i some = one (reads query i) refl
  where
    one : (b : Bool) → reads query i ≡ b → reads query i ≡ true
    one true e = e
    one false e =
        let parts = or_parts (list_any (condition_names i) (conjuncts_on query.sources ++ query.conjuncts)) (list_any (names i) query.items) e in
        absurd (some (no_condition i (conjuncts_on query.sources ++ query.conjuncts) parts.0) (no_item i query.items parts.1))
