-- Expressions that raise nothing, and conditions that are unknown where a null word says that a column of theirs is null.
use Rattle.std.proofs.Common.{◌≡◌, ℕ, ◌≤◌, neg_ℤ, unsigned_abs, List, ◌++◌, Result, Ok, refl, sym, ap, ◌∙◌, subst, arith}
use Rattle.std.proofs.lemmas.Int.{ints}
use Rattle.qw_types.specs.declared.code.Code.{Code}
use Rattle.qw_types.specs.declared.truth.Truth.{Truth}
use Rattle.qw_types.specs.declared.truth.Truth.TheVariants.{Unknown}
use Rattle.qw_types.specs.declared.value.Val.{Val}
use Rattle.qw_types.specs.declared.value.Val.TheVariants as val
use Rattle.qw_scalar.specs.declared.comparison.Comparison.{Comparison}
use Rattle.qw_scalar.specs.declared.expression.Operator.{Operator}
use Rattle.qw_scalar.specs.Evaluation.{combined, compared, negated, truth_of, value_of, at_row}
use Rattle.qw_scalar.specs.Expression.{Expression, Condition, arithmetic, comparison, negation_of, negative, scale_of}
use Rattle.qw_scalar.specs.Typing.{IsTyped}
use Rattle.qw_low.specs.State.{LowState}
use Rattle.qw_low.proofs.Appended.{two}
use Rattle.qw_expr.specs.declared.guard.Sure.{Sure}
use Rattle.qw_expr.specs.declared.known.Binding.{Binding}
use Rattle.qw_expr.specs.Bindings.{known_of}
use Rattle.qw_expr.specs.Cells.{IsWithin}
use Rattle.qw_expr.specs.Computes.{Known}
use Rattle.qw_expr.specs.Inner.Guards.{Nulled, Calm, Gathers, Stays, Strict, Tells}
use Rattle.qw_expr.proofs.Binary.{NumberOrNull, number_of_typed, combined_left}
use Rattle.qw_expr.proofs.Trees.{scale_low}
use Rattle.qw_expr.proofs.Leaves.{are_two, left_in, right_in, takes_more, tells_two}
use Rattle.qw_expr.proofs.Decisions.{compared_left, compared_right}

-- ---- one after another
pub gathers_two : (old mid new : Sure) (P Q R : List Binding → List ℕ → Type 0) → Gathers old mid P → Gathers mid new Q → ((la lb : List Binding) (na nb : List ℕ) → P la na → Q lb nb → R (la ++ lb) (na ++ nb)) → Gathers old new R
gathers_two old mid new P Q R one other makes = record {
  leaves = one.leaves ++ other.leaves;
  nulls = one.nulls ++ other.nulls;
  leaves_is = two old.leaves.items mid.leaves.items new.leaves.items one.leaves other.leaves one.leaves_is other.leaves_is;
  nulls_is = two old.nulls.items mid.nulls.items new.nulls.items one.nulls other.nulls one.nulls_is other.nulls_is;
  made = makes one.leaves other.leaves one.nulls other.nulls one.made other.made;
}

pub gathers_as : (old new : Sure) (P Q : List Binding → List ℕ → Type 0) → Gathers old new P → ((leaves : List Binding) (nulls : List ℕ) → P leaves nulls → Q leaves nulls) → Gathers old new Q
gathers_as old new P Q one makes = record { leaves = one.leaves; nulls = one.nulls; leaves_is = one.leaves_is; nulls_is = one.nulls_is; made = makes one.leaves one.nulls one.made }

pub gathers_three : (old mid cur new : Sure) (P Q R S : List Binding → List ℕ → Type 0) → Gathers old mid P → Gathers mid cur Q → Gathers cur new R →
    ((la lb lc : List Binding) (na nb nc : List ℕ) → P la na → Q lb nb → R lc nc → S (la ++ (lb ++ lc)) (na ++ (nb ++ nc))) → Gathers old new S
gathers_three old mid cur new P Q R S one other last makes =
    let both : Gathers mid new (λ leaves nulls. (lb lc : List Binding) × (nb nc : List ℕ) × Q lb nb × R lc nc × (leaves ≡ lb ++ lc) × (nulls ≡ nb ++ nc)) =
    gathers_two mid cur new Q R (λ leaves nulls. (lb lc : List Binding) × (nb nc : List ℕ) × Q lb nb × R lc nc × (leaves ≡ lb ++ lc) × (nulls ≡ nb ++ nc)) other last
    (λ lb lc nb nc q r. (lb, lc, nb, nc, q, r, refl, refl)) in
    gathers_two old mid new P (λ leaves nulls. (lb lc : List Binding) × (nb nc : List ℕ) × Q lb nb × R lc nc × (leaves ≡ lb ++ lc) × (nulls ≡ nb ++ nc)) S one both
    (λ la ls na ns p rest. subst (λ x. S (la ++ x) (na ++ ns)) (sym rest.6) (subst (λ x. S (la ++ (rest.0 ++ rest.1)) (na ++ x)) (sym rest.7) (makes la rest.0 rest.1 na rest.2 rest.3 p rest.4 rest.5)))

pub calm_scale : (known : List Known) (e : Expression) (leaves : List Binding) (nulls : List ℕ) (scale most : ℕ) → IsTyped e → Calm known e leaves nulls scale most → scale ≤ 18
calm_scale known e leaves nulls scale most typed calm = subst (λ k. k ≤ 18) (sym calm.scale_is) (scale_low e typed)

-- ---- operators
combines : (operator : Operator) (x : Val) (sa ma : ℕ) (y : Val) (sb mb scale most : ℕ) → Stays operator sa ma sb mb scale most → NumberOrNull x → NumberOrNull y → IsWithin ma x → IsWithin mb y →
    (v : Val) × (combined operator x sa y sb ≡ Ok v) × IsWithin most v × (x ≡ val.Null → v ≡ val.Null) × (y ≡ val.Null → v ≡ val.Null)
combines operator val.Null sa ma y sb mb scale most stays nx ny wx wy = (val.Null, refl, tt, (λ is. refl), (λ is. refl))
combines operator (val.Num a) sa ma val.Null sb mb scale most stays nx ny wx wy = (val.Null, refl, tt, (λ is. refl), (λ is. refl))
combines operator (val.Num a) sa ma (val.Num b) sb mb scale most stays nx ny wx wy =
    let z = stays.gives a b wx wy in
    (val.Num z.0, rw (z.1) refl, z.2, (λ is. absurd cc), (λ is. absurd cc))
combines operator (val.Num a) sa ma (val.Date d) sb mb scale most stays nx ny wx wy = absurd ny
combines operator (val.Num a) sa ma (val.Text t) sb mb scale most stays nx ny wx wy = absurd ny
combines operator (val.Date d) sa ma y sb mb scale most stays nx ny wx wy = absurd nx
combines operator (val.Text t) sa ma y sb mb scale most stays nx ny wx wy = absurd nx

pub operated_calm : (known : List Known) (operator : Operator) (a b : Expression) (la lb : List Binding) (na nb : List ℕ) (sa ma sb mb scale most : ℕ) → IsTyped (arithmetic operator a b) → Stays operator sa ma sb mb scale most → Calm known a la na sa ma → Calm known b lb nb sb mb →
    Calm known (arithmetic operator a b) (la ++ lb) (na ++ nb) scale most
operated_calm known operator a b la lb na nb sa ma sb mb scale most typed stays one other =
    let same : Stays operator (scale_of a) ma (scale_of b) mb scale most =
    subst (λ k. Stays operator k ma (scale_of b) mb scale most) one.scale_is (subst (λ k. Stays operator sa ma k mb scale most) other.scale_is stays) in
    record {
      are = are_two known la lb na nb one.are other.are;
      takes = (takes_more (known_of la) (known_of (la ++ lb)) a (left_in la lb) one.takes, takes_more (known_of lb) (known_of (la ++ lb)) b (right_in la lb) other.takes);
      scale_is = same.scale_is;
      tells = λ row s held columns.
          let x = one.tells row s held columns.0 in
          let y = other.tells row s held columns.1 in
          let made = combines operator x.0 (scale_of a) ma y.0 (scale_of b) mb scale most same (number_of_typed a row x.0 typed.0.0 typed.1.0.0 columns.0 x.1) (number_of_typed b row y.0 typed.0.1 typed.1.0.1 columns.1 y.1) x.2 y.2 in
          (made.0, rw (x.1, y.1) (made.1), made.2, tells_two la lb na nb row s (x.0 ≡ val.Null) (y.0 ≡ val.Null) (made.0 ≡ val.Null) made.3 made.4 x.3 y.3);
    }

negated_within : (most : ℕ) (v : Val) → IsWithin most v → IsWithin most (negated v)
negated_within most val.Null within = tt
negated_within most (val.Num a) within =
    let same : unsigned_abs (neg_ℤ a) ≡ unsigned_abs a = omega (arith, ints) in
    omega (arith, same, within)
negated_within most (val.Date d) within = tt
negated_within most (val.Text t) within = tt

tells_as : (leaves : List Binding) (nulls : List ℕ) (row : List Val) (s : LowState) (A B : Type 0) → (A → B) → Tells leaves nulls row s A → Tells leaves nulls row s B
tells_as leaves nulls row s A B goes told = (told.0, told.1, (λ is. goes (told.2 is)), told.3)

pub negative_calm : (known : List Known) (a : Expression) (leaves : List Binding) (nulls : List ℕ) (scale most : ℕ) → Calm known a leaves nulls scale most → Calm known (negative a) leaves nulls scale most
negative_calm known a leaves nulls scale most calm = record {
  are = calm.are;
  takes = calm.takes;
  scale_is = calm.scale_is;
  tells = λ row s held columns.
      let x = calm.tells row s held columns in
      (negated x.0, rw (x.1) refl, negated_within most x.0 x.2, tells_as leaves nulls row s (x.0 ≡ val.Null) (negated x.0 ≡ val.Null) (λ is. rw is refl) x.3);
}

-- ---- what is null where a null word is 1
pub calm_nulled : (known : List Known) (e : Expression) (leaves : List Binding) (nulls : List ℕ) (scale most : ℕ) → Calm known e leaves nulls scale most → Nulled known e leaves nulls
calm_nulled known e leaves nulls scale most calm = record {
  are = calm.are;
  takes = calm.takes;
  tells = λ row s held columns.
      let x = calm.tells row s held columns in
      tells_as leaves nulls row s (x.0 ≡ val.Null) (value_of e (at_row row) ≡ Ok val.Null) (λ null. x.1 ∙ ap (λ (v : Val). let r : Result Val Code = Ok v in r) null) x.3;
}

combined_right : (operator : Operator) (x : Val) (sa : ℕ) (y : Val) (sb : ℕ) → y ≡ val.Null → combined operator x sa y sb ≡ Ok val.Null
combined_right operator val.Null sa y sb null = refl
combined_right operator (val.Num a) sa y sb null = rw null refl
combined_right operator (val.Date a) sa y sb null = refl
combined_right operator (val.Text a) sa y sb null = refl

combined_is : (operator : Operator) (a b : Expression) (row : List Val) (x y : Val) → value_of a (at_row row) ≡ Ok x → value_of b (at_row row) ≡ Ok y → combined operator x (scale_of a) y (scale_of b) ≡ Ok val.Null → value_of (arithmetic operator a b) (at_row row) ≡ Ok val.Null
combined_is operator a b row x y is_x is_y null = rw (is_x, is_y) null

pub operated_nulled : (known : List Known) (operator : Operator) (a b : Expression) (la lb : List Binding) (na nb : List ℕ) (sa ma sb mb : ℕ) → Calm known a la na sa ma → Calm known b lb nb sb mb → Nulled known (arithmetic operator a b) (la ++ lb) (na ++ nb)
operated_nulled known operator a b la lb na nb sa ma sb mb one other = record {
  are = are_two known la lb na nb one.are other.are;
  takes = (takes_more (known_of la) (known_of (la ++ lb)) a (left_in la lb) one.takes, takes_more (known_of lb) (known_of (la ++ lb)) b (right_in la lb) other.takes);
  tells = λ row s held columns.
      let x = one.tells row s held columns.0 in
      let y = other.tells row s held columns.1 in
      tells_two la lb na nb row s (x.0 ≡ val.Null) (y.0 ≡ val.Null) (value_of (arithmetic operator a b) (at_row row) ≡ Ok val.Null)
      (λ null. combined_is operator a b row x.0 y.0 x.1 y.1 (combined_left operator x.0 (scale_of a) y.0 (scale_of b) null))
      (λ null. combined_is operator a b row x.0 y.0 x.1 y.1 (combined_right operator x.0 (scale_of a) y.0 (scale_of b) null)) x.3 y.3;
}

-- ---- conditions
-- a comparison of two values
pub compared_is : (o : Comparison) (a b : Expression) (row : List Val) (x y : Val) → value_of a (at_row row) ≡ Ok x → value_of b (at_row row) ≡ Ok y → compared o x (scale_of a) y (scale_of b) ≡ Unknown → truth_of (comparison o a b) (at_row row) ≡ Ok Unknown
compared_is o a b row x y is_x is_y unknown = rw (is_x, is_y) (ap (λ (t : Truth). let r : Result Truth Code = Ok t in r) unknown)

pub comparison_strict : (known : List Known) (o : Comparison) (a b : Expression) (la lb : List Binding) (na nb : List ℕ) (sa ma sb mb : ℕ) → Calm known a la na sa ma → Calm known b lb nb sb mb → Strict known (comparison o a b) (la ++ lb) (na ++ nb)
comparison_strict known o a b la lb na nb sa ma sb mb one other = record {
  are = are_two known la lb na nb one.are other.are;
  takes = (takes_more (known_of la) (known_of (la ++ lb)) a (left_in la lb) one.takes, takes_more (known_of lb) (known_of (la ++ lb)) b (right_in la lb) other.takes);
  tells = λ row s held columns.
      let x = one.tells row s held columns.0 in
      let y = other.tells row s held columns.1 in
      tells_two la lb na nb row s (x.0 ≡ val.Null) (y.0 ≡ val.Null) (truth_of (comparison o a b) (at_row row) ≡ Ok Unknown)
      (λ is. compared_is o a b row x.0 y.0 x.1 y.1 (compared_left o x.0 (scale_of a) y.0 (scale_of b) is))
      (λ is. compared_is o a b row x.0 y.0 x.1 y.1 (compared_right o x.0 (scale_of a) y.0 (scale_of b) is)) x.3 y.3;
}

pub negation_strict : (known : List Known) (c : Condition) (leaves : List Binding) (nulls : List ℕ) → Strict known c leaves nulls → Strict known (negation_of c) leaves nulls
negation_strict known c leaves nulls strict = record {
  are = strict.are;
  takes = strict.takes;
  tells = λ row s held columns.
      tells_as leaves nulls row s (truth_of c (at_row row) ≡ Ok Unknown) (truth_of (negation_of c) (at_row row) ≡ Ok Unknown) (λ is. rw is refl) (strict.tells row s held columns);
}
