-- Where the keys of a pair of rows meet, the operands of both sides have values, none of them null, and they are the same.
use Rattle.std.proofs.Common.{◌≡◌, ◌∙◌, ℕ, Bool, true, false, not, ◌&&◌, if◌then◌else◌, List, [], ◌∷◌, map, Option, Some, None, Result, Ok, Err, refl, sym, ap₂, subst}
use Rattle.std.specs.List.{AllByRecursion}
use Rattle.qw_types.specs.Arithmetic.{◌>>=◌}
use Rattle.qw_types.specs.ValueOrder.{is_same_row}
use Rattle.qw_types.specs.declared.code.Code.{Code}
use Rattle.qw_types.specs.declared.value.Val.{Val}
use Rattle.qw_scalar.specs.Evaluation.{at_row, value_of}
use Rattle.qw_scalar.specs.Expression.{Condition, scale_of}
use Rattle.qw_scalar.specs.Typing.{kind_of}
use Rattle.qw_leaves.specs.Compared.{Compared, OfCompared, compared_in}
use Rattle.qw_meaning.specs.Flow.{values_of}
use Rattle.qw_algebra.specs.Columns.{names_column, names_only}
use Rattle.qw_pipe.specs.Units.{operand_among, operand_of}
use Rattle.qw_rewrite.specs.Probe.{are_alike, are_eligible, face, is_eligible, is_equality, is_of_side}
use Rattle.qw_rewrite.specs.Probed.{all_meet, key_meets, meet, operands_meet}
use Rattle.qw_rewrite.proofs.Names.{and_left, and_right}
use Rattle.qw_table.specs.Joins.{have_values}
use Rattle.qw_physical.specs.Reads.{IsScaled}
use Rattle.qw_physical.proofs.EqualKeys.{IsDivided, all_meets, apart_names, divided, or_second}

abbrev HasValue : Result Val Code → Type 0
HasValue q = (v : Val) × (q ≡ Ok v)

left_value : (p q : Result Val Code) (s t : ℕ) → meet p s q t ≡ true → HasValue p
left_value (Ok v) (Ok w) s t h = (v, refl)
left_value (Ok v) (Err code) s t h = absurd cc
left_value (Err code) q s t h = absurd cc

right_value : (p q : Result Val Code) (s t : ℕ) → meet p s q t ≡ true → HasValue q
right_value (Ok v) (Ok w) s t h = (w, refl)
right_value (Ok v) (Err code) s t h = absurd cc
right_value (Err code) q s t h = absurd cc

module _ (tl tr : ℕ → Bool) (apart : (i : ℕ) → tl i ≡ true → tr i ≡ false) where
  -- ---- one key
  module _ (l r : List Val) where
    compared_value : (k : Compared) → face tl tr k.left k.right ≡ true → operands_meet tl tr (Some k) l r ≡ true → HasValue (value_of (operand_among tr (Some k)) (at_row r))
    compared_value k f h = one (is_of_side tl k.left && is_of_side tr k.right) refl h
      where
        one : (b : Bool) → (is_of_side tl k.left && is_of_side tr k.right) ≡ b
            → (if b then meet (value_of k.left (at_row l)) (scale_of k.left) (value_of k.right (at_row r)) (scale_of k.right)
            else meet (value_of k.left (at_row r)) (scale_of k.left) (value_of k.right (at_row l)) (scale_of k.right)) ≡ true
            → HasValue (value_of (if names_only tr k.left then k.left else k.right) (at_row r))
        one true e g =
            let of_left : is_of_side tl k.left ≡ true = and_left (is_of_side tl k.left) (is_of_side tr k.right) e in
            let other : names_only tr k.left ≡ false =
            apart_names tl tr apart k.left (and_left (names_only tl k.left) (names_column k.left) of_left) (and_right (names_only tl k.left) (names_column k.left) of_left) in
            subst (λ (b : Bool). HasValue (value_of (if b then k.left else k.right) (at_row r))) (sym other)
            (right_value (value_of k.left (at_row l)) (value_of k.right (at_row r)) (scale_of k.left) (scale_of k.right) g)
        one false e g =
            let turned : (is_of_side tr k.left && is_of_side tl k.right) ≡ true =
            or_second (is_of_side tl k.left && is_of_side tr k.right) (is_of_side tr k.left && is_of_side tl k.right) e f in
            let own : names_only tr k.left ≡ true = and_left (names_only tr k.left) (names_column k.left) (and_left (is_of_side tr k.left) (is_of_side tl k.right) turned) in
            subst (λ (b : Bool). HasValue (value_of (if b then k.left else k.right) (at_row r))) (sym own)
            (left_value (value_of k.left (at_row r)) (value_of k.right (at_row l)) (scale_of k.left) (scale_of k.right) g)

    operand_value : (o : Option Compared) → are_eligible tl tr o ≡ true → operands_meet tl tr o l r ≡ true → HasValue (value_of (operand_among tr o) (at_row r))
    operand_value None e h = absurd cc
    operand_value (Some k) e h =
        compared_value k (and_left (face tl tr k.left k.right) (are_alike (kind_of k.left) (kind_of k.right)) (and_right (is_equality k.operator) (face tl tr k.left k.right && are_alike (kind_of k.left) (kind_of k.right)) e)) h

    -- ---- a whole key

    -- the values of the operands of the right side
    pub met_values : (cs : List Condition) → AllByRecursion (λ c. is_eligible tl tr c ≡ true) cs → all_meet tl tr cs l r ≡ true
        → (ws : List Val) × (values_of (map (operand_of tr) cs) (at_row r) ≡ Ok ws)
    met_values [] e h = ([], refl)
    met_values (c ∷ cs) e h =
        let first = operand_value (compared_in c) e.0 (and_left (key_meets tl tr c l r) (all_meet tl tr cs l r) h) in
        let rest = met_values cs e.1 (and_right (key_meets tl tr c l r) (all_meet tl tr cs l r) h) in
        (first.0 ∷ rest.0, ap₂ (λ (a : Result Val Code) (b : Result (List Val) Code). a >>= (λ v. b >>= (λ vs. Ok (v ∷ vs)))) first.1 rest.1)

  one_scale : (o : Option Compared) → are_eligible tl tr o ≡ true → OfCompared (λ op a b. are_alike (kind_of a) (kind_of b) ≡ true → scale_of a ≡ scale_of b) o
      → OfCompared (λ op a b. scale_of a ≡ scale_of b) o
  one_scale None e h = tt
  one_scale (Some k) e h =
      h (and_right (face tl tr k.left k.right) (are_alike (kind_of k.left) (kind_of k.right)) (and_right (is_equality k.operator) (face tl tr k.left k.right && are_alike (kind_of k.left) (kind_of k.right)) e))

  all_divided : (cs : List Condition) → AllByRecursion (λ c. is_eligible tl tr c ≡ true) cs → AllByRecursion IsScaled cs → AllByRecursion (IsDivided tl tr) cs
  all_divided [] e s = tt
  all_divided (c ∷ cs) e s = (divided tl tr apart c e.0 (one_scale (compared_in c) e.0 s.0), all_divided cs e.1 s.1)

  pub met_keys : (l r : List Val) (cs : List Condition) (vs ws : List Val) → AllByRecursion (λ c. is_eligible tl tr c ≡ true) cs → AllByRecursion IsScaled cs
      → values_of (map (operand_of (λ i. not (tr i))) cs) (at_row l) ≡ Ok vs → values_of (map (operand_of tr) cs) (at_row r) ≡ Ok ws → all_meet tl tr cs l r ≡ true
      → (have_values vs ≡ true) × ((have_values ws ≡ true) × (is_same_row vs ws ≡ true))
  met_keys l r cs vs ws e s hv hw h =
      let told : ((have_values vs && have_values ws) && is_same_row vs ws) ≡ true = sym (all_meets tl tr cs (all_divided cs e s) l r vs ws hv hw) ∙ h in
      let has : (have_values vs && have_values ws) ≡ true = and_left (have_values vs && have_values ws) (is_same_row vs ws) told in
      (and_left (have_values vs) (have_values ws) has, (and_right (have_values vs) (have_values ws) has, and_right (have_values vs && have_values ws) (is_same_row vs ws) told))
