-- What is left of a module's octets, and where it stands.
use Rattle.std.proofs.Common.{◌≡◌, ℕ, ◌+◌, ◌-◌, ◌≤◌, List, [], ◌∷◌, ◌++◌, length, take, drop, Ok, refl, sym, ap, subst, ◌∙◌, append_assoc, arith, length-append}
use Rattle.std.proofs.lemmas.List.{append-nil, take-append-drop, drop_at}
use Rattle.qw_octet_grammar.specs.Grammar.{Grammar}
use Rattle.qw_octet_grammar.specs.Reading.{read}
use Rattle.qw_octet_grammar.proofs.GrammarLaws.{takes}
use Rattle.qw_octet_grammar.proofs.Loops.{tail_of}
use Rattle.qw_scan.specs.Inner.Outlines.{IsSuffix, StandsAt}

pub suffix_first : (whole : List ℕ) (n : ℕ) → IsSuffix whole (drop n whole)
suffix_first whole n = (take n whole, sym (take-append-drop n whole))

-- behind the first of them
pub suffix_tail : (whole rest : List ℕ) → 1 ≤ length rest → IsSuffix whole rest → IsSuffix whole (take (length rest - 1) (drop 1 rest))
suffix_tail whole [] long suffix = absurd (omega (arith, long))
suffix_tail whole (b ∷ bytes) long suffix =
    subst (IsSuffix whole) (sym (tail_of b bytes)) (suffix.0 ++ b ∷ [], suffix.1 ∙ sym (append_assoc suffix.0 (b ∷ []) bytes))

-- behind what was read
pub suffix_read : {A : Type 0} (g : Grammar A) (whole bytes : List ℕ) (x : A) (rest : List ℕ) → IsSuffix whole bytes → read g bytes ≡ Ok (x, rest) → IsSuffix whole rest
suffix_read g whole bytes x rest suffix e =
    let t = takes g bytes x rest e in
    (suffix.0 ++ t.0, suffix.1 ∙ ap (λ (bs : List ℕ). suffix.0 ++ bs) t.1 ∙ sym (append_assoc suffix.0 t.0 rest))

-- the last octets stand behind all others
pub suffix_at : (whole rest : List ℕ) → IsSuffix whole rest → drop (length whole - length rest) whole ≡ rest
suffix_at whole rest suffix =
    let long : length whole ≡ length suffix.0 + length rest = ap (λ (bs : List ℕ). length bs) suffix.1 ∙ length-append suffix.0 rest in
    let first : length whole - length rest ≡ length suffix.0 = omega (arith, long) in
    ap (λ (n : ℕ). drop n whole) first ∙ ap (λ (bs : List ℕ). drop (length suffix.0) bs) suffix.1 ∙ drop_at suffix.0 rest (length suffix.0) refl

-- behind what was read
pub rest_at : {A : Type 0} (g : Grammar A) (whole : List ℕ) (at : ℕ) (x : A) (rest : List ℕ) → read g (drop at whole) ≡ Ok (x, rest) → drop (length whole - length rest) whole ≡ rest
rest_at g whole at x rest e = suffix_at whole rest (suffix_read g whole (drop at whole) x rest (suffix_first whole at) e)

pub suffix_stands : (whole rest : List ℕ) (at : ℕ) → at ≡ length whole - length rest → IsSuffix whole rest → StandsAt whole at rest
unfolding StandsAt
suffix_stands whole rest at place suffix =
    let long : length whole ≡ length suffix.0 + length rest = ap (λ (bs : List ℕ). length bs) suffix.1 ∙ length-append suffix.0 rest in
    let first : at ≡ length suffix.0 = omega (arith, place, long) in
    ([], ap (λ (n : ℕ). drop n whole) first ∙ ap (λ (bs : List ℕ). drop (length suffix.0) bs) suffix.1 ∙ drop_at suffix.0 rest (length suffix.0) refl ∙ sym (append-nil rest))

-- so many octets of what is left
pub stands_within : (whole rest held : List ℕ) (size at : ℕ) → at ≡ length whole - length rest → held ≡ take size rest → IsSuffix whole rest → StandsAt whole at held
unfolding StandsAt suffix_stands
stands_within whole rest held size at place cut suffix =
    let stands = suffix_stands whole rest at place suffix in
    (drop size rest, stands.1 ∙ append-nil rest ∙ sym (take-append-drop size rest) ∙ ap (λ (bs : List ℕ). bs ++ drop size rest) (sym cut))
