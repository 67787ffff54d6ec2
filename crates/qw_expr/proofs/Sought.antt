-- Literals among which a value is sought: in any order they mean the same, and sorted they can be told apart by halves.
use Rattle.std.proofs.Common.{◌≡◌, ℕ, suc, ◌+◌, ℤ, ◌<ℤ◌, ◌≤ℤ◌, Bool, true, false, ◌||◌, List, [], ◌∷◌, ◌++◌, Ordering, Some, Result, Ok, slice_get, get_or, int_cmp, refl, sym, ap, ◌∙◌, subst, inl, inr, arith}
use Rattle.std.proofs.lemmas.Cmp.{int_cmp_total}
use Rattle.std.proofs.lemmas.Int.{ints}
use Rattle.std.proofs.lemmas.List.Elements.{All-from_recursion, recursion_from_All}
use Rattle.std.proofs.lemmas.List.Folds.{list_any-append}
use Rattle.std.proofs.lemmas.List.Sorted.{All-permutation, list_any-IsPermutation, ranks_by, sorted_far}
use Rattle.std.specs.Cmp.{IsStrictWeakOrder, int_ranks}
use Rattle.std.specs.Int.{cast_signed, w64}
use Rattle.std.specs.List.{AllByRecursion}
use Rattle.std.specs.List.Sorted.{IsPermutation, IsSortedBy}
use Rattle.std.specs.Ordering.{MatchOrdering, is_eq, is_lt}
use Rattle.std.specs.declared.cmp.Ordering.TheVariants.{Less, Equal, Greater}
use Rattle.qw_types.specs.Arithmetic.{◌>>=◌}
use Rattle.qw_types.specs.declared.code.Code.{Code}
use Rattle.qw_types.specs.declared.truth.Truth.{Truth}
use Rattle.qw_types.specs.declared.value.Val.{Val}
use Rattle.qw_types.specs.declared.value.Val.TheVariants as val
use Rattle.qw_module.specs.declared.instruction.ValType.TheVariants.{I64}
use Rattle.qw_scalar.specs.declared.comparison.Comparison.TheVariants as op
use Rattle.qw_scalar.specs.Evaluation.{or_else, truth_if, truth_of, value_of, at_row}
use Rattle.qw_scalar.specs.Expression.{Expression, Condition, comparison, date, either, number}
use Rattle.qw_scalar.specs.Typing.{AreTyped}
use Rattle.qw_low.specs.State.{LowState, Number}
use Rattle.qw_low.specs.Held.{HoldsNumber}
use Rattle.qw_expr.specs.declared.operand.Operand.{Operand}
use Rattle.qw_expr.specs.declared.search.Sought.{Sought}
use Rattle.qw_expr.specs.Bindings.{IsAmong}
use Rattle.qw_expr.specs.Cells.{Holds}
use Rattle.qw_expr.specs.Computes.{Known}
use Rattle.qw_expr.specs.Inner.Made.{with_operand}
use Rattle.qw_expr.specs.Inner.Search.{AreRising, IsSought, MadeSought, is_one}
use Rattle.qw_expr.specs.Inner.Tests.{is_one_relation}
use Rattle.qw_expr.proofs.Related.{relates}
use Rattle.qw_expr.proofs.Shared.{declared_of, held_of}
use Rattle.qw_expr.proofs.Trees.{described}
use Rattle.qw_expr.proofs.Nulls.{or_false}

-- ---- lists
pub all_both : {A : Type 0} (P : A → Type 0) (xs ys : List A) → AllByRecursion P xs → AllByRecursion P ys → AllByRecursion P (xs ++ ys)
all_both P [] ys one other = other
all_both P (x ∷ xs) ys one other = (one.0, all_both P xs ys one.1 other)

pub all_parts : {A : Type 0} (P : A → Type 0) (xs ys : List A) → AllByRecursion P (xs ++ ys) → AllByRecursion P xs × AllByRecursion P ys
all_parts P [] ys h = (tt, h)
all_parts P (x ∷ xs) ys h =
    let rest = all_parts P xs ys h.1 in
    ((h.0, rest.0), rest.1)

all_permuted : {A : Type 0} (P : A → Type 0) (xs ys : List A) → IsPermutation xs ys → AllByRecursion P xs → AllByRecursion P ys
all_permuted P xs ys moved h = recursion_from_All P ys (All-permutation P xs ys moved (All-from_recursion P xs h))

-- ---- the literals of a condition
same_held : (s : LowState) (x : ℕ) (v w : ℤ) → HoldsNumber s x v → HoldsNumber s x w → v ≡ w
same_held s x v w one other = sym one.3 ∙ ap (cast_signed w64) (same_word one.0 other.0 (sym one.1 ∙ other.1)) ∙ other.3
  where
    same_word : (a b : ℕ) → Some (Number a) ≡ Some (Number b) → a ≡ b
    same_word a b is = cc

same_value : (a b : Val) → (let r : Result Val Code = Ok a in r) ≡ Ok b → a ≡ b
same_value a b is = cc

-- one literal
module _ (known : List Known) (a b : Expression) (x y : Operand) (literal : ℤ) (typed : AreTyped (comparison op.Equal a b)) (one : is_one_relation x y ≡ true) (among : IsAmong (record { expression = b; operand = y }) known)
    (is : (row : List Val) (s : LowState) (w : Val) → value_of b (at_row row) ≡ Ok w → Holds y w s → HoldsNumber s y.cell.value literal) where
  literal_sought : (k : Sought) → k ≡ record { value = literal; local = y.cell.value } → MadeSought (with_operand a x known) (comparison op.Equal a b) x (k ∷ [])
  literal_sought k same next served =
      let more : List Known = with_operand a x known in
      let ka : Known = record { expression = a; operand = x } in
      let kb : Known = record { expression = b; operand = y } in
      let is_a = described next more ka served (inl refl) in
      let is_b = described next more kb served (inr among) in
      let related = relates op.Equal a b x y typed one is_a.0 is_b.0 is_a.1 is_b.1 in
      let sought : Sought = record { value = literal; local = y.cell.value } in
      subst (λ (j : Sought). IsSought more (comparison op.Equal a b) x (j ∷ [])) (sym same)
      (record {
        tells = λ row s held columns.
            let first = held_of more row s ka held (inl refl) in
            let second = held_of more row s kb held (inr among) in
            let told = related.numbers row first.0 second.0 s columns first.1 second.1 first.2 second.2 in
            let held_literal = is row s second.0 second.1 second.2 in
            let number_is : told.1 ≡ literal = same_held s y.cell.value told.1 literal told.3 held_literal in
            let equal : is_eq (int_cmp told.0 told.1) ≡ is_one told.0 (sought ∷ []) = ap (λ w. is_eq (int_cmp told.0 w)) number_is ∙ sym (or_false (is_eq (int_cmp told.0 literal))) in
            (told.0, told.2, (held_literal, tt), rw (first.1, second.1) (ap (λ (v : Truth). let r : Result Truth Code = Ok v in r) (told.4 ∙ ap truth_if equal)));
        typed = λ types declared. (related.left_typed types (declared_of types more ka declared (inl refl)), (related.right_typed types (declared_of types more kb declared (inr among)), tt));
      })

pub number_sought : (known : List Known) (a : Expression) (x y : Operand) (v : ℤ) (scale : ℕ) → AreTyped (comparison op.Equal a (number v scale)) → IsAmong (record { expression = number v scale; operand = y }) known → (k : Sought) → is_one_relation x y ≡ true →
    k ≡ record { value = v; local = y.cell.value } → MadeSought (with_operand a x known) (comparison op.Equal a (number v scale)) x (k ∷ [])
number_sought known a x y v scale typed among k one same =
    literal_sought known a (number v scale) x y v typed one among (λ row s w is holds. (subst (λ (z : Val). Holds y z s) (sym (same_value (val.Num v) w is)) holds).0.0) k same

pub date_sought : (known : List Known) (a : Expression) (x y : Operand) (d : ℤ) → AreTyped (comparison op.Equal a (date d)) → IsAmong (record { expression = date d; operand = y }) known → (k : Sought) → is_one_relation x y ≡ true →
    k ≡ record { value = d; local = y.cell.value } → MadeSought (with_operand a x known) (comparison op.Equal a (date d)) x (k ∷ [])
date_sought known a x y d typed among k one same =
    literal_sought known a (date d) x y d typed one among (λ row s w is holds. (subst (λ (z : Val). Holds y z s) (sym (same_value (val.Date d) w is)) holds).0.0) k same

-- one more
either_if : (g h : Bool) → or_else (truth_if g) (Ok (truth_if h)) ≡ Ok (truth_if (h || g))
either_if true true = refl
either_if true false = refl
either_if false true = refl
either_if false false = refl

either_sure : (r q : Result Truth Code) (g h : Bool) → r ≡ Ok (truth_if g) → q ≡ Ok (truth_if h) → (r >>= (λ t. or_else t q)) ≡ Ok (truth_if (h || g))
either_sure r q g h one other = rw (one, other) (either_if g h)

pub more_sought : (known : List Known) (c d : Condition) (x : Operand) (k : Sought) (sought : List Sought) → MadeSought known c x (k ∷ []) → MadeSought known d x sought → MadeSought known (either c d) x (sought ++ k ∷ [])
more_sought known c d x k sought first rest next served =
    let p = first next served in
    let q = rest next served in
    record {
      tells = λ row s held columns.
          let one = p.tells row s held columns.0 in
          let other = q.tells row s held columns.1 in
          let same : one.0 ≡ other.0 = same_held s x.cell.value one.0 other.0 one.1 other.1 in
          let whole : (is_one other.0 sought || is_one one.0 (k ∷ [])) ≡ is_one other.0 (sought ++ k ∷ []) =
          ap (λ v. is_one other.0 sought || is_one v (k ∷ [])) same ∙ sym (list_any-append (λ (j : Sought). is_eq (int_cmp other.0 j.value)) sought (k ∷ [])) in (
            other.0,
            other.1,
            all_both (λ (j : Sought). HoldsNumber s j.local j.value) sought (k ∷ []) other.2 one.2,
            either_sure (truth_of c (at_row row)) (truth_of d (at_row row)) (is_one one.0 (k ∷ [])) (is_one other.0 sought) one.3 other.3 ∙ ap (λ (g : Bool). let r : Result Truth Code = Ok (truth_if g) in r) whole,
          );
      typed = λ types declared.
          let one = p.typed types declared in
          let other = q.typed types declared in
          (other.0, all_both (λ (j : Sought). slice_get types j.local ≡ Some I64) sought (k ∷ []) other.1 one.1);
    }

-- in another order
pub permuted_sought : (known : List Known) (c : Condition) (x : Operand) (xs ys : List Sought) → IsPermutation xs ys → MadeSought known c x xs → MadeSought known c x ys
permuted_sought known c x xs ys moved made next served =
    let p = made next served in
    record {
      tells = λ row s held columns.
          let told = p.tells row s held columns in (
            told.0,
            told.1,
            all_permuted (λ (j : Sought). HoldsNumber s j.local j.value) xs ys moved told.2,
            told.3 ∙ ap (λ (g : Bool). let r : Result Truth Code = Ok (truth_if g) in r) (list_any-IsPermutation (λ (j : Sought). is_eq (int_cmp told.0 j.value)) xs ys moved),
          );
      typed = λ types declared.
          let told = p.typed types declared in
          (told.0, all_permuted (λ (j : Sought). slice_get types j.local ≡ Some I64) xs ys moved told.1);
    }

-- ---- sorted literals
abbrev pub is_below : Sought → Sought → Bool
is_below k l = is_lt (int_cmp k.value l.value)

pub ranks : IsStrictWeakOrder is_below
ranks = ranks_by int_cmp_total (λ (k : Sought). k.value)

not_below : (v w : ℤ) → is_lt (int_cmp w v) ≡ false → v ≤ℤ w
not_below v w h = by_order (int_cmp w v) (int_ranks w v) h
  where
    by_order : (r : Ordering) → MatchOrdering r (w <ℤ v) (w ≡ v) (v <ℤ w) → is_lt r ≡ false → v ≤ℤ w
    by_order Less m h = absurd cc
    by_order Equal m h = omega (arith, ints, m)
    by_order Greater m h = omega (arith, ints, m)

next : (j : ℕ) → suc j + 1 ≡ suc (j + 1)
next j = omega arith

pub rising_of : (xs : List Sought) → IsSortedBy is_below xs → AreRising xs
rising_of [] up = tt
rising_of (k ∷ xs) up = (
  recursion_from_All (λ (l : Sought). k.value ≤ℤ l.value) xs (λ j d within. not_below k.value _ (sorted_far is_below ranks (k ∷ xs) up 0 (suc j) d (omega arith) (omega (arith, within)))),
  rising_of xs (λ j d low high. subst (λ (n : ℕ). is_below (get_or (k ∷ xs) n d) (get_or xs j d) ≡ false) (next j) (up (suc j) d (omega arith) (omega (arith, high)))),
)

-- each of the first is no greater than each of the others
pub rising_parts : (xs ys : List Sought) → AreRising (xs ++ ys) → AreRising xs × AreRising ys × AllByRecursion (λ (k : Sought). AllByRecursion (λ (l : Sought). k.value ≤ℤ l.value) ys) xs
rising_parts [] ys h = (tt, h, tt)
rising_parts (k ∷ xs) ys h =
    let rest = rising_parts xs ys h.1 in
    let parts = all_parts (λ (l : Sought). k.value ≤ℤ l.value) xs ys h.0 in
    ((parts.0, rest.0), rest.1, (parts.1, rest.2))

differ : (v w : ℤ) → (v ≡ w → ⊥) → is_eq (int_cmp v w) ≡ false
differ v w other = by_order (int_cmp v w) (int_ranks v w)
  where
    by_order : (r : Ordering) → MatchOrdering r (v <ℤ w) (v ≡ w) (w <ℤ v) → is_eq r ≡ false
    by_order Less m = refl
    by_order Equal m = absurd (other m)
    by_order Greater m = refl

none_from : (v m : ℤ) (xs : List Sought) → v <ℤ m → AllByRecursion (λ (l : Sought). m ≤ℤ l.value) xs → is_one v xs ≡ false
none_from v m [] less h = refl
none_from v m (k ∷ xs) less h = rw (differ v k.value (λ same. omega (arith, ints, less, h.0, same)), none_from v m xs less h.1) refl

none_to : (v : ℤ) (rest : List Sought) (xs : List Sought) (middle : Sought) → middle.value <ℤ v → AllByRecursion (λ (k : Sought). AllByRecursion (λ (l : Sought). k.value ≤ℤ l.value) (middle ∷ rest)) xs → is_one v xs ≡ false
none_to v rest [] middle more h = refl
none_to v rest (k ∷ xs) middle more h = rw (differ v k.value (λ same. omega (arith, ints, more, h.0.0, same)), none_to v rest xs middle more h.1) refl

-- what is less than the first of the upper half is none of it, and what isn't is one of the lower half only where it is that first one
pub lower_only : (v : ℤ) (lower rest : List Sought) (middle : Sought) → is_lt (int_cmp v middle.value) ≡ true → AreRising (middle ∷ rest) → is_one v lower ≡ is_one v (lower ++ middle ∷ rest)
lower_only v lower rest middle is rising =
    let less : v <ℤ middle.value = by_order (int_cmp v middle.value) (int_ranks v middle.value) is in
    let none : is_one v (middle ∷ rest) ≡ false = none_from v middle.value (middle ∷ rest) less (omega (arith, ints), rising.0) in
    sym (list_any-append (λ (k : Sought). is_eq (int_cmp v k.value)) lower (middle ∷ rest) ∙ ap (λ g. is_one v lower || g) none ∙ or_false (is_one v lower))
  where
    by_order : (r : Ordering) → MatchOrdering r (v <ℤ middle.value) (v ≡ middle.value) (middle.value <ℤ v) → is_lt r ≡ true → v <ℤ middle.value
    by_order Less m h = m
    by_order Equal m h = absurd cc
    by_order Greater m h = absurd cc

pub upper_only : (v : ℤ) (lower rest : List Sought) (middle : Sought) → is_lt (int_cmp v middle.value) ≡ false → AllByRecursion (λ (k : Sought). AllByRecursion (λ (l : Sought). k.value ≤ℤ l.value) (middle ∷ rest)) lower →
    is_one v (middle ∷ rest) ≡ is_one v (lower ++ middle ∷ rest)
upper_only v lower rest middle is below =
    by_order (int_cmp v middle.value) refl (int_ranks v middle.value) is ∙ sym (list_any-append (λ (k : Sought). is_eq (int_cmp v k.value)) lower (middle ∷ rest))
  where
    or_true : (g : Bool) → (g || true) ≡ true
    or_true true = refl
    or_true false = refl

    by_order : (r : Ordering) → int_cmp v middle.value ≡ r → MatchOrdering r (v <ℤ middle.value) (v ≡ middle.value) (middle.value <ℤ v) → is_lt r ≡ false → is_one v (middle ∷ rest) ≡ (is_one v lower || is_one v (middle ∷ rest))
    by_order Less same m h = absurd cc
    by_order Equal same m h = rw same (sym (or_true (is_one v lower)))
    by_order Greater same m h = rw (none_to v rest lower middle m below) refl
