-- How the order of two texts is found octet by octet.
use Rattle.std.proofs.Common.{◌≡◌, ◌≢◌, ℕ, suc, ◌-◌, ◌≤◌, ◌⊎◌, ◌==◌, false, List, [], ◌∷◌, length, drop, Some, slice_get, refl, sym, ap, ◌∙◌, ⊎_elim, arith}
use Rattle.std.specs.Ordering.{nat_cmp, ordering_then, is_eq}
use Rattle.std.specs.Cmp.{nat_cmp_is}
use Rattle.std.specs.declared.cmp.Ordering.{Ordering}
use Rattle.std.specs.declared.cmp.Ordering.TheVariants.{Less, Equal, Greater}
use Rattle.std.proofs.lemmas.Bool.{eq-eqb, ne_eqb}
use Rattle.std.proofs.lemmas.Cmp.{ranked}
use Rattle.std.proofs.lemmas.List.{length-drop, drop_all}
use Rattle.std.proofs.lemmas.Option.{get_or_from_slice_get, slice_get_within}
use Rattle.std.proofs.Math.Seq.{drop-cons}
use Rattle.qw_types.specs.TextOrder.{text_order}

-- ---- octets
octet_alike : (p q : ℕ) → p ≡ q → nat_cmp p q ≡ Equal
octet_alike p q h = sym (nat_cmp_is p q Equal h)

octet_apart : (p q : ℕ) → p ≢ q → nat_cmp p q ≡ Equal → ⊥
octet_apart p q apart h = apart (ranked p q Equal (sym h))

decided : (r s : Ordering) → (r ≡ Equal → ⊥) → ordering_then r s ≡ r
decided Less s h = refl
decided Equal s h = absurd (h refl)
decided Greater s h = refl

undecided : (r s : Ordering) → r ≡ Equal → ordering_then r s ≡ s
undecided Less s h = absurd cc
undecided Equal s h = refl
undecided Greater s h = absurd cc

-- ---- texts from an index on
pub begins : (v : List ℕ) (i octet : ℕ) → slice_get v i ≡ Some octet → drop i v ≡ octet ∷ drop (suc i) v
begins v i octet h = drop-cons v i octet (slice_get_within v i octet h) ∙ ap (λ x. x ∷ drop (suc i) v) (get_or_from_slice_get v i octet octet h)

pub same_here : (v w : List ℕ) (i p q : ℕ) → slice_get v i ≡ Some p → slice_get w i ≡ Some q → p ≡ q → text_order (drop i v) (drop i w) ≡ text_order (drop (suc i) v) (drop (suc i) w)
same_here v w i p q at_v at_w same = rw (begins v i p at_v, begins w i q at_w) (undecided (nat_cmp p q) (text_order (drop (suc i) v) (drop (suc i) w)) (octet_alike p q same))

pub differ_here : (v w : List ℕ) (i p q : ℕ) → slice_get v i ≡ Some p → slice_get w i ≡ Some q → p ≢ q → text_order (drop i v) (drop i w) ≡ nat_cmp p q
differ_here v w i p q at_v at_w apart = rw (begins v i p at_v, begins w i q at_w) (decided (nat_cmp p q) (text_order (drop (suc i) v) (drop (suc i) w)) (octet_apart p q apart))

-- where a text is at its end, the lengths decide
none_left : (rest : List ℕ) (c d : ℕ) → length rest ≡ d - c → c ≤ d → text_order [] rest ≡ nat_cmp c d
none_left [] c d long le = nat_cmp_is c d Equal (omega (arith, long))
none_left (octet ∷ rest) c d long le = nat_cmp_is c d Less (omega (arith, long))

none_right : (rest : List ℕ) (c d : ℕ) → length rest ≡ c - d → d ≤ c → text_order rest [] ≡ nat_cmp c d
none_right [] c d long le = nat_cmp_is c d Equal (omega (arith, long))
none_right (octet ∷ rest) c d long le = nat_cmp_is c d Greater (omega (arith, long))

pub left_ends : (v w : List ℕ) → length v ≤ length w → text_order (drop (length v) v) (drop (length v) w) ≡ nat_cmp (length v) (length w)
left_ends v w le = rw (drop_all (length v) v (omega arith)) (none_left (drop (length v) w) (length v) (length w) (length-drop (length v) w) le)

pub right_ends : (v w : List ℕ) → length w ≤ length v → text_order (drop (length w) v) (drop (length w) w) ≡ nat_cmp (length v) (length w)
right_ends v w le = rw (drop_all (length w) w (omega arith)) (none_right (drop (length w) v) (length v) (length w) (length-drop (length w) v) le)

-- ---- what was compared last tells the order
-- after so many octets, or as soon as two differed
abbrev pub Compared : (m : ℕ) → (v w : List ℕ) → (p q : ℕ) → Type 0
Compared m v w p q = ((p ≡ q) × (text_order v w ≡ text_order (drop m v) (drop m w))) ⊎ ((p ≢ q) × (text_order v w ≡ nat_cmp p q))

unequal : (r : Ordering) → (r ≡ Equal → ⊥) → is_eq r ≡ false
unequal Less h = refl
unequal Equal h = absurd (h refl)
unequal Greater h = refl

pub tells_same : (m : ℕ) (v w : List ℕ) (p q : ℕ) → m ≡ length v → length v ≡ length w → Compared m v w p q → (p == q) ≡ is_eq (text_order v w)
tells_same m v w p q all long h = ⊎_elim
    (λ alike.
    let order : text_order v w ≡ Equal = alike.1 ∙ rw all (left_ends v w (omega (arith, long))) ∙ octet_alike (length v) (length w) long in
    rw (order, eq-eqb p q (alike.0)) refl)
    (λ apart. rw (apart.1, unequal (nat_cmp p q) (octet_apart p q (apart.0)), ne_eqb p q (apart.0)) refl)
    h

then_unequal : (r s : Ordering) → is_eq s ≡ false → is_eq (ordering_then r s) ≡ false
then_unequal Less s h = refl
then_unequal Equal s h = h
then_unequal Greater s h = refl

-- texts of unlike lengths differ
pub lengths_tell : (v w : List ℕ) → length v ≢ length w → is_eq (text_order v w) ≡ false
lengths_tell [] [] h = absurd (h refl)
lengths_tell [] (q ∷ w) h = refl
lengths_tell (p ∷ v) [] h = refl
lengths_tell (p ∷ v) (q ∷ w) h = then_unequal (nat_cmp p q) (text_order v w) (lengths_tell v w (λ e. h (ap suc e)))
