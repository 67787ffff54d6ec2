-- Whether operands are known of the innermost sequence, by how many there are of all.
use Rattle.std.proofs.Common.{◌≡◌, ℕ, ◌-◌, ◌<◌, ◌≤◌, ◌==◌, true, false, List, [], ◌∷◌, length, drop, reverse, Option, refl, sym, ◌∙◌, ⊎_elim, arith, length-drop}
use Rattle.std.proofs.lemmas.Bool.{eq-eqb, ne_eqb, cases_eq}
use Rattle.std.proofs.lemmas.List.{length-reverse}
use Rattle.qw_module.specs.declared.instruction.ValType.{ValType}
use Rattle.qw_valid.specs.Inner.Checking.{has_none}

some-none : (kinds : List (Option ValType)) → 0 < length kinds → has_none kinds ≡ false
some-none [] h = absurd (omega (arith, h))
some-none (kind ∷ kinds) h = refl

none-some' : (kinds : List (Option ValType)) → length kinds ≡ 0 → has_none kinds ≡ true
none-some' [] e = refl
none-some' (kind ∷ kinds) e = absurd (omega (arith, e))

pub empty_test : (kinds : List (Option ValType)) (height : ℕ) → height ≤ length kinds → (length kinds == height) ≡ has_none (reverse (drop height kinds))
empty_test kinds height h =
    let count : length (reverse (drop height kinds)) ≡ length kinds - height = length-reverse (drop height kinds) ∙ length-drop height kinds in
    ⊎_elim
    (λ (e : length kinds ≡ height). eq-eqb (length kinds) height e ∙ sym (none-some' (reverse (drop height kinds)) (omega (arith, count, e))))
    (λ ne. ne_eqb (length kinds) height ne ∙ sym (some-none (reverse (drop height kinds)) (omega (arith, count, h, ne))))
    (cases_eq (length kinds) height)
