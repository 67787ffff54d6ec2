-- Whether an import is among others, as a loop finds it, and what a pair of names is.
use Rattle.std.proofs.Common.{◌≡◌, ℕ, zero, suc, ◌+◌, ◌<◌, ◌≤◌, Bool, true, false, cond, List, [], ◌∷◌, length, get_or, drop, refl, sym, ap, ◌∙◌, arith, add-one}
use Rattle.qw_module.specs.declared.module.Import.{Import}
use Rattle.std.specs.Prelude.{nat_eq, not, ◌&&◌, codes, Result, Err}
use lib.Pointwise.{pointwise}
use Rattle.qw_octet_grammar.specs.declared.fault.BinaryFault.{BinaryFault}
use Rattle.qw_octet_grammar.specs.declared.fault.BinaryFault.TheVariants.{OutOfProfile}
use Rattle.qw_octet_grammar.specs.declared.fault.What.TheVariants.{Import as outside}
use Rattle.qw_binary.specs.Sections.{Imported, imported, is_same, is_among, equal, named_by}

chosen : (b : Bool) (x : Bool) → b ≡ true → cond b true x ≡ true
chosen true x e = refl
chosen false x e = absurd cc

passed : (b : Bool) (x : Bool) → b ≡ false → cond b true x ≡ x
passed true x e = absurd cc
passed false x e = refl

pub among_found : (one : Imported) (i : ℕ) (xs : List Import) (d : Import) → i < length xs → is_same one (imported (get_or xs i d)) ≡ true → is_among one (drop i xs) ≡ true
among_found one i [] d lt e = let none : ⊥ = omega (arith, lt) in absurd none
among_found one zero (x ∷ xs) d lt e = chosen (is_same one (imported x)) (is_among one xs) e
among_found one (suc i) (x ∷ xs) d lt e = among_found one i xs d (omega (arith, lt)) e

pub among_later : (one : Imported) (i : ℕ) (xs : List Import) (d : Import) → i < length xs → is_same one (imported (get_or xs i d)) ≡ false → is_among one (drop (i + 1) xs) ≡ is_among one (drop i xs)
among_later one i xs d lt e = ap (λ n. is_among one (drop n xs)) (add-one i) ∙ later i xs d lt e
  where
    later : (i : ℕ) (xs : List Import) (d : Import) → i < length xs → is_same one (imported (get_or xs i d)) ≡ false → is_among one (drop (suc i) xs) ≡ is_among one (drop i xs)
    later i [] d lt e = let none : ⊥ = omega (arith, lt) in absurd none
    later zero (x ∷ xs) d lt e = sym (passed (is_same one (imported x)) (is_among one xs) e)
    later (suc i) (x ∷ xs) d lt e = later i xs d (omega (arith, lt)) e

pub among_none : (one : Imported) (i : ℕ) (xs : List Import) → length xs ≤ i → is_among one (drop i xs) ≡ false
among_none one zero [] le = refl
among_none one (suc i) [] le = refl
among_none one zero (x ∷ xs) le = let none : ⊥ = omega (arith, le) in absurd none
among_none one (suc i) (x ∷ xs) le = among_none one i xs (omega (arith, le))

-- ---- texts that are compared

same : (xs ys : List ℕ) → pointwise nat_eq xs ys ≡ equal xs ys
same [] [] = refl
same [] (y ∷ ys) = refl
same (x ∷ xs) [] = refl
same (x ∷ xs) (y ∷ ys) = ap (λ b. nat_eq x y && b) (same xs ys) ∙ as_cond (nat_eq x y) (equal xs ys)
  where
    as_cond : (a b : Bool) → (a && b) ≡ cond a b false
    as_cond true b = refl
    as_cond false b = refl

pub unlike : (xs ys : List ℕ) (r : Bool) → r ≡ pointwise nat_eq xs ys → r ≡ false → equal xs ys ≡ false
unlike xs ys r e f = sym (same xs ys) ∙ sym e ∙ f

pub differs : (xs ys : List ℕ) (r : Bool) → r ≡ not (pointwise nat_eq xs ys) → r ≡ true → equal xs ys ≡ false
differs xs ys r e f = one (equal xs ys) (sym f ∙ e ∙ ap not (same xs ys))
  where
    one : (b : Bool) → true ≡ not b → b ≡ false
    one true h = absurd cc
    one false h = refl

abbrev other : Result Imported BinaryFault
other = Err (OutOfProfile outside)

pub from_elsewhere : (before : List Import) (from text : List ℕ) → equal from (codes "q") ≡ false → named_by before from text ≡ other
from_elsewhere before from text e = not_chosen (equal from (codes "q")) _ other e
  where
    not_chosen : (b : Bool) (x y : Result Imported BinaryFault) → b ≡ false → cond b x y ≡ y
    not_chosen true x y e = absurd cc
    not_chosen false x y e = refl

pub of_no_name : (before : List Import) (from text : List ℕ) → equal text (codes "memory") ≡ false → equal text (codes "raise") ≡ false → equal text (codes "pages") ≡ false
    → named_by before from text ≡ other
of_no_name before from text e f g = none (equal from (codes "q")) (equal text (codes "memory")) (equal text (codes "raise")) (equal text (codes "pages")) _ _ _ e f g
  where
    none : (a b c d : Bool) (x y z : Result Imported BinaryFault) → b ≡ false → c ≡ false → d ≡ false → cond a (cond b x (cond c y (cond d z other))) other ≡ other
    none true true c d x y z e f g = absurd cc
    none true false true d x y z e f g = absurd cc
    none true false false true x y z e f g = absurd cc
    none true false false false x y z e f g = refl
    none false b c d x y z e f g = refl
