-- Laws of the order of texts.
use Rattle.std.proofs.Common.{◌≡◌, ◌∙◌, ◌<◌, ℕ, List, [], ◌∷◌, ◌++◌, refl, sym, ap}
use Rattle.std.specs.Ordering.{MatchOrdering, nat_cmp, ordering_reverse, ordering_then}
use Rattle.std.specs.Cmp.{nat_cmp_total, ranks}
use Rattle.std.specs.Cmp.Lexicographic.{slice_cmp, nat_list_cmp_total}
use Rattle.std.specs.declared.cmp.Ordering.{Ordering}
use Rattle.std.specs.declared.cmp.Ordering.TheVariants.{Less, Equal, Greater}
use Rattle.qw_types.specs.TextOrder.{text_order}

-- it is the order of lists of octets
pub as_slices : (left right : List ℕ) → text_order left right ≡ slice_cmp nat_cmp left right
as_slices [] [] = refl
as_slices [] (b ∷ others) = refl
as_slices (a ∷ rest) [] = refl
as_slices (a ∷ rest) (b ∷ others) = ap (ordering_then (nat_cmp a b)) (as_slices rest others)

pub turned : (left right : List ℕ) → text_order right left ≡ ordering_reverse (text_order left right)
turned left right = as_slices right left ∙ nat_list_cmp_total.antisymm right left ∙ ap ordering_reverse (sym (as_slices left right))

pub chain : (first second third : List ℕ) → text_order first second ≡ Less → text_order second third ≡ Less → text_order first third ≡ Less
chain first second third h k =
    as_slices first third ∙ nat_list_cmp_total.trans first second third (sym (as_slices first second) ∙ h) (sym (as_slices second third) ∙ k)

pub self_equal : (r : Ordering) → r ≡ ordering_reverse r → r ≡ Equal
self_equal Less h = absurd cc
self_equal Equal h = refl
self_equal Greater h = absurd cc

same_octet : (a : ℕ) → nat_cmp a a ≡ Equal
same_octet a = self_equal (nat_cmp a a) (nat_cmp_total.antisymm a a)

pub same : (text : List ℕ) → text_order text text ≡ Equal
same text = self_equal (text_order text text) (turned text text)

pub prefix : (text : List ℕ) (octet : ℕ) (rest : List ℕ) → text_order text (text ++ octet ∷ rest) ≡ Less
prefix [] octet rest = refl
prefix (a ∷ text) octet rest = rw (same_octet a) (prefix text octet rest)

first_equal : (r s : Ordering) → ordering_then r s ≡ Equal → (r ≡ Equal) × (s ≡ Equal)
first_equal Less s h = absurd cc
first_equal Equal s h = (refl, h)
first_equal Greater s h = absurd cc

octet_equal : (a b : ℕ) (r : Ordering) → r ≡ Equal → MatchOrdering r (a < b) (a ≡ b) (b < a) → a ≡ b
octet_equal a b Less h m = absurd cc
octet_equal a b Equal h m = m
octet_equal a b Greater h m = absurd cc

pub only_same : (left right : List ℕ) → text_order left right ≡ Equal → left ≡ right
only_same [] [] h = refl
only_same [] (b ∷ others) h = absurd cc
only_same (a ∷ rest) [] h = absurd cc
only_same (a ∷ rest) (b ∷ others) h =
    let parts = first_equal (nat_cmp a b) (text_order rest others) h in
    let head : a ≡ b = octet_equal a b (nat_cmp a b) parts.0 (ranks a b) in
    let tail : rest ≡ others = only_same rest others parts.1 in
    cc
