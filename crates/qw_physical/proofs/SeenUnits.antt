-- How many octets of texts an expression compares at a row depends on the columns alone that it names.
use Rattle.std.proofs.Common.{◌≡◌, ℕ, Bool, true, List, [], ◌∷◌, refl}
use Rattle.std.specs.List.{AllByRecursion}
use Rattle.qw_types.specs.declared.value.Val.{Val}
use Rattle.qw_scalar.specs.Evaluation.{at_row}
use Rattle.qw_scalar.specs.Expression.{Expression, Condition}
use Rattle.qw_scalar.specs.Units.{units_of_all, units_of_items}
use Rattle.qw_meaning.proofs.FromLemmas.{cell}
use Rattle.qw_algebra.specs.Columns.{names_only}
use Rattle.qw_rewrite.proofs.Rows.{NamesOnly, condition_units_agree, units_agree}

pub conjuncts_agree : (test : ℕ → Bool) (r s : List Val) → ((i : ℕ) → test i ≡ true → cell r i ≡ cell s i) → (cs : List Condition) → NamesOnly test cs
    → units_of_all cs (at_row r) ≡ units_of_all cs (at_row s)
conjuncts_agree test r s h [] t = refl
conjuncts_agree test r s h (c ∷ cs) t = rw (condition_units_agree test r s h c t.0, conjuncts_agree test r s h cs t.1) refl

pub items_agree : (test : ℕ → Bool) (r s : List Val) → ((i : ℕ) → test i ≡ true → cell r i ≡ cell s i) → (es : List Expression) → AllByRecursion (λ e. names_only test e ≡ true) es
    → units_of_items es (at_row r) ≡ units_of_items es (at_row s)
items_agree test r s h [] t = refl
items_agree test r s h (e ∷ es) t = rw (units_agree test r s h e t.0, items_agree test r s h es t.1) refl
