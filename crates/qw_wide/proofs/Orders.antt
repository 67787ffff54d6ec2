-- The blocks of comparison keep what `Numbers` says of them.
use Rattle.std.proofs.Common.{◌≡◌, ℕ, ◌+◌, ◌-◌, ◌*◌, ◌^◌, ◌<◌, ◌≤◌, ℤ, pos, ◌*ℤ◌, int_cmp, unsigned_abs, Bool, true, false, FitsSigned, Ordering, List, length, Some, Ok, slice_get, refl, ap, ◌∙◌, subst, ⊎_elim, arith, w64}
use Rattle.std.proofs.lemmas.Nat.{mul-le}
use Rattle.std.proofs.lemmas.Bool.{cases_eq, cases_lt, eq-eqb, ne_eqb, lt-ltb, le-ltb, ltb-false}
use Rattle.qw_types.specs.Arithmetic.{order_of}
use Rattle.qw_map.proofs.TurnFacts.{slice_get-set_same}
use Rattle.qw_scalar.specs.declared.comparison.Comparison.{Comparison}
use Rattle.qw_scalar.specs.Evaluation.{answers}
use Rattle.qw_module.specs.declared.instruction.ValType.{ValType}
use Rattle.qw_module.specs.declared.instruction.ValType.TheVariants.{I32, I64}
use Rattle.qw_module.specs.Numbers.{relation, truth}
use Rattle.qw_low.specs.Syntax.{Expression, Statement, local, relop, seq, assign}
use Rattle.qw_low.specs.State.{Number, LowState}
use Rattle.qw_low.specs.Meaning.{value, meaning}
use Rattle.qw_low.specs.Size.{size}
use Rattle.qw_low.specs.Typing.{HasType, IsTyped}
use Rattle.qw_low.specs.Promise.{Ends}
use Rattle.qw_low.specs.Raising.{Kept}
use Rattle.qw_low.specs.Held.{HoldsNumber}
use Rattle.qw_low.proofs.Promises.{Ends-weaker, Ends-then, assign_ends}
use Rattle.qw_low.proofs.Results.{Kept-same, Kept-set, Kept-then, Kept-one, Comes}
use Rattle.qw_wide.specs.Numbers.{HasNumber, Tests}
use Rattle.qw_wide.specs.Relations.{relation_of}
use Rattle.qw_wide.specs.Inner.Blocks.{is_past, left_brought, right_brought, zero_test, times_power, less_block, more_block, comparison_block}
use Rattle.qw_wide.proofs.Words.{word, small, fits_small, word-mul, held_word}
use Rattle.qw_wide.proofs.ArithmeticRuns.{power_small, scaled_abs}
use Rattle.qw_wide.proofs.Relations.{tells_truth, zero_told, fits_back}
use Rattle.qw_wide.proofs.OrderRuns.{left_order, right_order, same_scale, Ordered, orders_left, orders_right}

-- A block that leaves a number in `free` which is below, at or above 0 as one number is below, at or above another.
record Compares (order : ℤ → ℤ → Ordering) (x most_x y most_y free : ℕ) (a : Statement) : Type 0 where
  pub runs : (pages fuel : ℕ) (s : LowState) (v w : ℤ) → HasNumber x most_x v s → HasNumber y most_y w s → free < length s.locals →
      Ends (size a) (λ t. Kept free s t × (z : ℤ) × HoldsNumber t free z × (int_cmp z (pos 0) ≡ order v w)) (λ t. ⊥) (λ code. ⊥) (meaning pages fuel a s)
  pub typed : (types : List ValType) → slice_get types x ≡ Some I64 → slice_get types y ≡ Some I64 → slice_get types free ≡ Some I64 → IsTyped types a

-- an order that a block comes to
compared : (most fuel n : ℕ) (s : LowState) (r order : Ordering) (a : Statement) → r ≡ order → Comes most fuel 1 (Ordered n s) (Ok r) a s →
    Ends (size a) (λ t. Kept n s t × (z : ℤ) × HoldsNumber t n z × (int_cmp z (pos 0) ≡ order)) (λ t. ⊥) (λ code. ⊥) (meaning most fuel a s)
compared most fuel n s r order a same h =
    Ends-weaker (size a * 1) (size a) (Ordered n s r) (λ t. Kept n s t × (z : ℤ) × HoldsNumber t n z × (int_cmp z (pos 0) ≡ order)) (λ t. ⊥) (λ t. ⊥) (λ code. ⊥) (λ code. ⊥) (meaning most fuel a s) (omega arith)
    (λ t left. (left.0, left.1, left.2, left.4 ∙ same)) (λ t x. x) (λ code x. x) h

less_compares : (sa sb x mx y my n : ℕ) → sa < sb → sb ≤ 18 → x < n → y < n → Compares (λ v w. order_of v sa w sb) x mx y my n (left_brought (sb - sa) n x y)
less_compares sa sb x mx y my n less low below_x below_y = record {
  runs = λ pages fuel u a b has_a has_b room.
      let scale : sb - sa + sa ≡ sb = omega (arith, less) in
      compared pages fuel n u (int_cmp (a *ℤ pos (10 ^ (sb - sa))) b) (order_of a sa b sb) (left_brought (sb - sa) n x y) (left_order a b sa (sb - sa) ∙ ap (λ k. order_of a sa b k) scale)
      (orders_left pages fuel 1 (omega arith) u n x y (sb - sa) a b has_a.0 has_b.0 has_a.1 has_b.1 below_x below_y room (omega (arith, low)));
  typed = λ types is_x is_y is_n.
      let power : 10 ^ (sb - sa) < 2 ^ 64 = omega (arith, power_small (sb - sa) (omega (arith, low))) in
      ((I64, is_n, (is_x, (is_y, (power, refl), refl), refl)), ((is_n, refl), (I64, is_n, ((omega arith, refl), (is_y, (power, refl), refl), refl)), tt));
}

more_compares : (sa sb x mx y my n : ℕ) → sb < sa → sa ≤ 18 → x < n → y < n → Compares (λ v w. order_of v sa w sb) x mx y my n (right_brought (sa - sb) n x y)
more_compares sa sb x mx y my n less low below_x below_y = record {
  runs = λ pages fuel u a b has_a has_b room.
      let scale : sa - sb + sb ≡ sa = omega (arith, less) in
      compared pages fuel n u (int_cmp a (b *ℤ pos (10 ^ (sa - sb)))) (order_of a sa b sb) (right_brought (sa - sb) n x y) (right_order a b sb (sa - sb) ∙ ap (λ k. order_of a k b sb) scale)
      (orders_right pages fuel 1 (omega arith) u n x y (sa - sb) a b has_a.0 has_b.0 has_a.1 has_b.1 below_x below_y room (omega (arith, low)));
  typed = λ types is_x is_y is_n.
      let power : 10 ^ (sa - sb) < 2 ^ 64 = omega (arith, power_small (sa - sb) (omega (arith, low))) in
      ((I64, is_n, ((is_x, (power, refl), refl), is_y, refl)), ((is_n, refl), (I64, is_n, (is_x, (power, refl), refl)), tt));
}

-- ---- tests
-- a number that is below, at or above 0 as one is below, at or above another
order_tests : (o : Comparison) (order : ℤ → ℤ → Ordering) (x mx y my n t : ℕ) (f : Statement) → t < n → Compares order x mx y my n f → Tests o order x mx y my n t (seq f (assign t (zero_test o n)))
order_tests o order x mx y my n t f before compares = record {
  runs = λ pages fuel s a b has_a has_b room.
      let v : ℕ = truth (answers o (order a b)) in
      let P : LowState → Type 0 = λ u. Kept t s u × (slice_get u.locals t ≡ Some (Number v)) in
      Ends-then P (λ u. ⊥) (λ code. ⊥) (size f) (size (assign t (zero_test o n))) (λ u. Kept n s u × (z : ℤ) × HoldsNumber u n z × (int_cmp z (pos 0) ≡ order a b)) (meaning pages fuel f s) (meaning pages fuel (assign t (zero_test o n)))
      (compares.runs pages fuel s a b has_a has_b room)
      (λ u left.
      let z : ℤ = left.1 in
      let told : relation I64 (relation_of o) (word z) 0 ≡ v = zero_told o z (order a b) (fits_back left.2.0 z left.2.2 left.2.3) left.3 in
      let there : t < length u.locals = omega (arith, before, room, left.0.many) in
      assign_ends P (λ q. ⊥) (λ code. ⊥) pages fuel t (zero_test o n) (Number v) u (rw (held_word u n z left.2) (ap (λ (m : ℕ). Some (Number m)) told)) there
      (Kept-set t s u t (Number v) (Kept-then t n s s u (omega (arith, before)) (Kept-same t s) left.0) (omega arith), slice_get-set_same u.locals t (Number v) there));
  typed = λ types is_x is_y is_t is_n. (compares.typed types is_x is_y is_n, (I32, is_t, (is_n, (omega arith, refl), refl)));
}

-- the word of a number that is brought to a larger scale, in range
brought_word : (s : LowState) (x k most : ℕ) (a : ℤ) → k ≤ 18 → HasNumber x most a s → is_past (most * 10 ^ k) ≡ false →
    FitsSigned w64 (a *ℤ pos (10 ^ k)) × (value s (times_power k x) ≡ Some (Number (word (a *ℤ pos (10 ^ k)))))
brought_word s x k most a low has within =
    let below : unsigned_abs a * 10 ^ k ≤ most * 10 ^ k = mul-le (unsigned_abs a) (10 ^ k) most (10 ^ k) has.2 (omega arith) in
    let size : unsigned_abs (a *ℤ pos (10 ^ k)) < 10 ^ 18 = omega (arith, scaled_abs a k, below, ltb-false (10 ^ 18 - 1) (most * 10 ^ k) within) in
    let fit : FitsSigned w64 (a *ℤ pos (10 ^ k)) = small (a *ℤ pos (10 ^ k)) (omega (arith, size)) in
    let power : FitsSigned w64 (pos (10 ^ k)) = small (pos (10 ^ k)) (omega (arith, power_small k low)) in
    (fit, rw (held_word s x a has.0) (ap (λ (m : ℕ). Some (Number m)) (word-mul a (pos (10 ^ k)) (fits_small a has.1) power fit)))

-- a relation of two values that are words of numbers in the order of two others
relation_tests : (o : Comparison) (order : ℤ → ℤ → Ordering) (x mx y my n t : ℕ) (left right : Expression) → t < n →
    ((s : LowState) (a b : ℤ) → HasNumber x mx a s → HasNumber y my b s → (c d : ℤ) × FitsSigned w64 c × FitsSigned w64 d × (value s left ≡ Some (Number (word c))) × (value s right ≡ Some (Number (word d))) × (int_cmp c d ≡ order a b)) →
    ((types : List ValType) → slice_get types x ≡ Some I64 → slice_get types y ≡ Some I64 → HasType types left I64 × HasType types right I64) → Tests o order x mx y my n t (assign t (relop I64 (relation_of o) left right))
relation_tests o order x mx y my n t left right before words types_of = record {
  runs = λ pages fuel s a b has_a has_b room.
      let v : ℕ = truth (answers o (order a b)) in
      let are = words s a b has_a has_b in
      let told : relation I64 (relation_of o) (word are.0) (word are.1) ≡ v = tells_truth o are.0 are.1 are.2 are.3 ∙ ap (λ r. truth (answers o r)) are.6 in
      assign_ends (λ u. Kept t s u × (slice_get u.locals t ≡ Some (Number v))) (λ u. ⊥) (λ code. ⊥) pages fuel t (relop I64 (relation_of o) left right) (Number v) s
      (rw (are.4, are.5) (ap (λ (m : ℕ). Some (Number m)) told)) (omega (arith, before, room)) (Kept-one s t (Number v), slice_get-set_same s.locals t (Number v) (omega (arith, before, room)));
  typed = λ types is_x is_y is_t is_n.
      let both = types_of types is_x is_y in
      (I32, is_t, (both.0, both.1, refl));
}

even_tests : (o : Comparison) (scale x mx y my n t : ℕ) → t < n → Tests o (λ v w. order_of v scale w scale) x mx y my n t (assign t (relop I64 (relation_of o) (local x) (local y)))
even_tests o scale x mx y my n t before =
    relation_tests o (λ v w. order_of v scale w scale) x mx y my n t (local x) (local y) before
    (λ s a b has_a has_b. (a, b, fits_small a has_a.1, fits_small b has_b.1, held_word s x a has_a.0, held_word s y b has_b.0, same_scale a b scale)) (λ types is_x is_y. (is_x, is_y))

less_tests : (o : Comparison) (sa sb x mx y my n t : ℕ) (divides : Bool) → is_past (mx * 10 ^ (sb - sa)) ≡ divides → sa < sb → sb ≤ 18 → x < t → y < t → t < n → Tests o (λ v w. order_of v sa w sb) x mx y my n t (less_block o divides (sb - sa) n t x y)
less_tests o sa sb x mx y my n t true past less low below_x below_y before =
    order_tests o (λ v w. order_of v sa w sb) x mx y my n t (left_brought (sb - sa) n x y) before (less_compares sa sb x mx y my n less low (omega (arith, below_x, before)) (omega (arith, below_y, before)))
less_tests o sa sb x mx y my n t false within less low below_x below_y before =
    let k : ℕ = sb - sa in
    let scale : k + sa ≡ sb = omega (arith, less) in
    let small_k : k ≤ 18 = omega (arith, low) in
    relation_tests o (λ v w. order_of v sa w sb) x mx y my n t (times_power k x) (local y) before
    (λ s a b has_a has_b.
    let brought = brought_word s x k mx a small_k has_a within in
    (a *ℤ pos (10 ^ k), b, brought.0, fits_small b has_b.1, brought.1, held_word s y b has_b.0, left_order a b sa k ∙ ap (λ z. order_of a sa b z) scale))
    (λ types is_x is_y.
    let power : 10 ^ k < 2 ^ 64 = omega (arith, power_small k small_k) in
    ((is_x, (power, refl), refl), is_y))

more_tests : (o : Comparison) (sa sb x mx y my n t : ℕ) (divides : Bool) → is_past (my * 10 ^ (sa - sb)) ≡ divides → sb < sa → sa ≤ 18 → x < t → y < t → t < n → Tests o (λ v w. order_of v sa w sb) x mx y my n t (more_block o divides (sa - sb) n t x y)
more_tests o sa sb x mx y my n t true past less low below_x below_y before =
    order_tests o (λ v w. order_of v sa w sb) x mx y my n t (right_brought (sa - sb) n x y) before (more_compares sa sb x mx y my n less low (omega (arith, below_x, before)) (omega (arith, below_y, before)))
more_tests o sa sb x mx y my n t false within less low below_x below_y before =
    let k : ℕ = sa - sb in
    let scale : k + sb ≡ sa = omega (arith, less) in
    let small_k : k ≤ 18 = omega (arith, low) in
    relation_tests o (λ v w. order_of v sa w sb) x mx y my n t (local x) (times_power k y) before
    (λ s a b has_a has_b.
    let brought = brought_word s y k my b small_k has_b within in
    (a, b *ℤ pos (10 ^ k), fits_small a has_a.1, brought.0, held_word s x a has_a.0, brought.1, right_order a b sb k ∙ ap (λ z. order_of a z b sb) scale))
    (λ types is_x is_y.
    let power : 10 ^ k < 2 ^ 64 = omega (arith, power_small k small_k) in
    (is_x, (is_y, (power, refl), refl)))

pub comparison_tests : (o : Comparison) (sa sb x mx y my n t : ℕ) → sa ≤ 18 → sb ≤ 18 → x < t → y < t → t < n → Tests o (λ v w. order_of v sa w sb) x mx y my n t (comparison_block o sa mx sb my n t x y)
comparison_tests o sa sb x mx y my n t la lb below_x below_y before = ⊎_elim
    (λ (same : sa ≡ sb). rw (eq-eqb sa sb same) (subst (λ k. Tests o (λ v w. order_of v sa w k) x mx y my n t (assign t (relop I64 (relation_of o) (local x) (local y)))) same (even_tests o sa x mx y my n t before)))
    (λ other. rw (ne_eqb sa sb other) (⊎_elim
    (λ (less : sa < sb). rw (lt-ltb sa sb less) (less_tests o sa sb x mx y my n t (is_past (mx * 10 ^ (sb - sa))) refl less lb below_x below_y before))
    (λ (more : sb ≤ sa). rw (le-ltb sa sb more) (more_tests o sa sb x mx y my n t (is_past (my * 10 ^ (sa - sb))) refl (omega (arith, more, other)) la below_x below_y before))
    (cases_lt sa sb)))
    (cases_eq sa sb)
