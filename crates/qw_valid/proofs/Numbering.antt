-- When the sequences of a body, as they are kept, make a numbered body.
use Rattle.std.proofs.Common.{◌≡◌, ℕ, ◌<◌, ◌≤◌, List, length, get_or, All, refl, sym, ap, subst, ◌∙◌, arith}
use Rattle.std.specs.Global.{Vec}
use Rattle.std.specs.Prelude.{slice_get, Some, [], ◌∷◌}
use Rattle.std.specs.List.{AllByRecursion}
use Rattle.std.proofs.lemmas.List.{length-map}
use Rattle.std.proofs.lemmas.List.Elements.{All-from_recursion, recursion_from_All}
use Rattle.std.proofs.lemmas.Option.{slice_get-map, slice_get-get_or}
use Rattle.qw_module.specs.declared.instruction.Instr.{Instr}
use Rattle.qw_module.specs.declared.module.Body.{Body}
use Rattle.qw_module.specs.Syntax.{Sequences, sequence_at, NamesBelow, IsNumbered}
use Rattle.qw_module.specs.Validity.{items_of, sequences_of}

-- each sequence of a number below a bound names lower ones alone
abbrev pub NameLower : ℕ → List (Vec Instr) → ℕ → Type 0
NameLower labels sequences n = (k : ℕ) (d : Vec Instr) → k < n → All (NamesBelow labels k) (get_or sequences k d).items

sequence_at-get_or : (labels : List ℕ) (sequences : List (Vec Instr)) (k : ℕ) (d : Vec Instr) → k < length sequences →
    sequence_at (record { each = items_of sequences; labels = labels }) k ≡ (get_or sequences k d).items
sequence_at-get_or labels sequences k d h =
    let found : slice_get sequences k ≡ Some (get_or sequences k d) = slice_get-get_or sequences k d h in
    rw (slice_get-map, found) refl

lower_at : (labels : List ℕ) (sequences : List (Vec Instr)) → NameLower (length labels) sequences (length sequences) → (n : ℕ) → n < length sequences →
    AllByRecursion (NamesBelow (length labels) n) (sequence_at (record { each = items_of sequences; labels = labels }) n)
lower_at labels [] lower n h = absurd (omega arith)
lower_at labels (first ∷ sequences) lower n h =
    subst (AllByRecursion (NamesBelow (length labels) n)) (sym (sequence_at-get_or labels (first ∷ sequences) n first h))
    (recursion_from_All (NamesBelow (length labels) n) (get_or (first ∷ sequences) n first).items (lower n first h))

pub numbered_from_items : (labels : List ℕ) (sequences : List (Vec Instr)) → 1 ≤ length sequences → NameLower (length labels) sequences (length sequences) →
    IsNumbered (record { each = items_of sequences; labels = labels })
numbered_from_items labels sequences some lower = record {
  some = rw length-map some;
  lower = λ n h. lower_at labels sequences lower n (rw length-map at h);
}

pub items_from_numbered : (labels : List ℕ) (sequences : List (Vec Instr)) → IsNumbered (record { each = items_of sequences; labels = labels }) →
    NameLower (length labels) sequences (length sequences)
items_from_numbered labels sequences numbered k d h =
    let within : k < length (items_of sequences) = rw length-map h in
    All-from_recursion (NamesBelow (length labels) k) (get_or sequences k d).items
    (subst (AllByRecursion (NamesBelow (length labels) k)) (sequence_at-get_or labels sequences k d h) (numbered.lower k within))

pub length_from_numbered : (labels : List ℕ) (sequences : List (Vec Instr)) → IsNumbered (record { each = items_of sequences; labels = labels }) → 1 ≤ length sequences
length_from_numbered labels sequences numbered = rw length-map at numbered.some

-- ---- a sequence that was read from a body
pub number-inside : (body : Body) (kept : List (Vec Instr)) (n : ℕ) → kept ≡ body.sequences.items → n < length kept → n < length (sequences_of body).each
number-inside body kept n same h =
    omega (arith, h, ap (λ (xs : List (Vec Instr)). length xs) same, length-map body.sequences.items (λ (sequence : Vec Instr). sequence.items))

pub sequence-read : (body : Body) (kept : List (Vec Instr)) (n : ℕ) (item : Vec Instr) (instructions : List Instr) → kept ≡ body.sequences.items → n < length kept →
    item ≡ get_or kept n item → instructions ≡ item.items → sequence_at (sequences_of body) n ≡ instructions
sequence-read body kept n item instructions same h is read =
    let inside : n < length body.sequences.items = omega (arith, h, ap (λ (xs : List (Vec Instr)). length xs) same) in
    let found : item ≡ get_or body.sequences.items n item = is ∙ ap (λ (xs : List (Vec Instr)). get_or xs n item) same in
    sequence_at-get_or body.labels.items body.sequences.items n item inside ∙ ap (λ (x : Vec Instr). x.items) (sym found) ∙ sym read

-- it names lower ones alone
pub names-read : (sequences : Sequences) (n k : ℕ) (instructions : List Instr) → IsNumbered sequences → n < length sequences.each →
    sequence_at sequences n ≡ instructions → k ≡ n → All (NamesBelow (length sequences.labels) k) instructions
names-read sequences n k instructions numbered inside same e =
    let there : All (NamesBelow (length sequences.labels) n) (sequence_at sequences n) =
    All-from_recursion (NamesBelow (length sequences.labels) n) (sequence_at sequences n) (numbered.lower n inside) in
    subst (λ (j : ℕ). All (NamesBelow (length sequences.labels) j) instructions) (sym e)
    (subst (λ (xs : List Instr). All (NamesBelow (length sequences.labels) n) xs) same there)
