-- A vector of numbers, read one number at a time with none of them kept.
use Rattle.std.proofs.Common.{◌≡◌, ℕ, ◌+◌, ◌-◌, ◌<◌, ◌≤◌, Bool, true, false, ◌&&◌, List, [], ◌∷◌, Option, Some, None, Result, Ok, Err, slice_get, refl, sym, ap, ◌∙◌}
use Rattle.qw_octet_grammar.specs.declared.fault.BinaryFault.{BinaryFault}
use Rattle.qw_octet_grammar.specs.Numbers.{u32}
use Rattle.qw_octet_grammar.specs.Vectors.{counted, one_more}
use Rattle.qw_octet_grammar.specs.Reading.{read}
use Rattle.qw_octet_grammar.proofs.GrammarLaws.{ok_is}
use Rattle.qw_octet_grammar.proofs.Loops.{begin_counted}
use Rattle.qw_module.specs.declared.instruction.ValType.{ValType}
use Rattle.qw_module.specs.Typing.{types_of}
use Rattle.qw_valid.specs.Inner.Checking.{are_same, is_there_alike, all_take}
use Rattle.qw_valid.specs.declared.operands.Refusal.{Refusal}
use Rattle.qw_valid.specs.declared.operands.Refusal.TheVariants.{IllTyped, NoMemory}
use Rattle.qw_valid.specs.Refusals.{Finds, Decides}
use Rattle.qw_scan.proofs.Vectors.{next_item, no_item}

abbrev pub Numbers : ℕ → List ℕ → List ℕ → Result (List ℕ × List ℕ) BinaryFault
Numbers n before bytes = read (counted n (one_more u32) before) bytes

-- the first number, and the others
pub first_label : (count i : ℕ) (bytes : List ℕ) (x : ℕ) (after left mid : List ℕ) → i < count → read u32 bytes ≡ Ok (x, after) → read (counted (count - i) (one_more u32) []) bytes ≡ Ok (left, mid) →
    (more : List ℕ) × (left ≡ x ∷ more) × (read (counted (count - (i + 1)) (one_more u32) []) after ≡ Ok (more, mid))
first_label count i bytes x after left mid lt first e =
    let n = next_item u32 count i bytes left mid lt e in
    let q = ok_is (n.0, n.1) (x, after) (sym n.3 ∙ first) in
    (n.2, n.5 ∙ ap (λ (y : ℕ). y ∷ n.2) (ap (λ z. z.0) q), ap (λ (bs : List ℕ). Numbers (count - (i + 1)) [] bs) (sym (ap (λ z. z.1) q)) ∙ n.4)

-- ---- labels tested one after another

-- what is still to be tested decides
abbrev pub StillDecides : List (List ValType) → List ValType → (count i : ℕ) → (octets rest : List ℕ) → Type 0
StillDecides labels taken count i octets rest =
    (indices mid : List ℕ) → Numbers count [] octets ≡ Ok (indices, mid) →
    (left : List ℕ) × (Numbers (count - i) [] rest ≡ Ok (left, mid)) × (all_take labels taken indices ≡ all_take labels taken left)

-- all of them are taken alike, or not
abbrev pub AllAnswer : List (List ValType) → List ValType → (count : ℕ) → (octets : List ℕ) → Bool → Type 0
AllAnswer labels taken count octets answer = (indices mid : List ℕ) → Numbers count [] octets ≡ Ok (indices, mid) → all_take labels taken indices ≡ answer

module _ (labels : List (List ValType)) (taken : List ValType) (count : ℕ) (octets : List ℕ) where
  pub decides_first : StillDecides labels taken count 0 octets octets
  decides_first indices mid e = (indices, begin_counted (one_more u32) count [] octets ∙ e, refl)

  pub decides_done : (i : ℕ) (rest : List ℕ) → count ≤ i → StillDecides labels taken count i octets rest → AllAnswer labels taken count octets true
  decides_done i rest le decides indices mid e =
      let d = decides indices mid e in
      d.2 ∙ ap (all_take labels taken) (no_item u32 count i rest d.0 mid le d.1)

  module _ (i x : ℕ) (rest after : List ℕ) (lt : i < count) (first : read u32 rest ≡ Ok (x, after)) (decides : StillDecides labels taken count i octets rest) where
    pub decides_next : is_there_alike (slice_get labels x) taken ≡ true → StillDecides labels taken count (i + 1) octets after
    decides_next alike indices mid e =
        let d = decides indices mid e in
        let f = first_label count i rest x after d.0 mid lt first d.1 in
        (f.0, f.2, d.2 ∙ ap (all_take labels taken) f.1 ∙ ap (λ (b : Bool). b && all_take labels taken f.0) alike)

    pub decides_differs : is_there_alike (slice_get labels x) taken ≡ false → AllAnswer labels taken count octets false
    decides_differs other indices mid e =
        let d = decides indices mid e in
        let f = first_label count i rest x after d.0 mid lt first d.1 in
        d.2 ∙ ap (all_take labels taken) f.1 ∙ ap (λ (b : Bool). b && all_take labels taken f.0) other

-- whether a label takes alike, by what it takes
pub alike_by : (labels : List (List ValType)) (x : ℕ) (found taken : List ValType) (answer : Bool) → slice_get labels x ≡ Some found → are_same found taken ≡ answer → is_there_alike (slice_get labels x) taken ≡ answer
alike_by labels x found taken answer there alike = ap (λ o. is_there_alike o taken) there ∙ alike

pub alike_none : (labels : List (List ValType)) (x : ℕ) (taken : List ValType) → slice_get labels x ≡ None → is_there_alike (slice_get labels x) taken ≡ false
alike_none labels x taken none = ap (λ o. is_there_alike o taken) none

-- a label that isn't there, or whose test ran out of memory
pub label_refused : (refusal : Refusal) (labels : List (List ValType)) (taken : List ValType) (count i x : ℕ) (octets rest after : List ℕ) → i < count → read u32 rest ≡ Ok (x, after) → StillDecides labels taken count i octets rest →
    Finds {A = Option ValType} (Err refusal) (slice_get labels x) types_of → (indices mid : List ℕ) → Numbers count [] octets ≡ Ok (indices, mid) → Decides {A = Unit {0}} (Err refusal) (all_take labels taken indices)
label_refused IllTyped labels taken count i x octets rest after lt first decides none indices mid e = decides_differs labels taken count octets i x rest after lt first decides (alike_none labels x taken none) indices mid e
label_refused NoMemory labels taken count i x octets rest after lt first decides none indices mid e = tt
