-- The texts of a result lie in what is seen of memory while rows are worked on: the columns, and the first page behind the words of the result, up to
-- the descriptor's end. Where a run returned they are read there.
use Rattle.std.proofs.Common.{◌≡◌, ℕ, zero, suc, ◌+◌, ◌-◌, ◌≤◌, nat_le, ◌&&◌, if◌then◌else◌, Bool, true, false, IsUtf8, List, [], ◌∷◌, length, take, drop, drop-cons, slice_get, slice_index, Some, None, refl, sym, ap, ap₂, ◌∙◌, subst, arith}
use Rattle.std.specs.Str.{is_utf8}
use Rattle.std.proofs.lemmas.Bool.{and_parts, le-leb, leb-true}
use Rattle.std.proofs.lemmas.Option.{same_Some}
use Rattle.std.proofs.lemmas.Str.{is_utf8-from_IsUtf8}
use Rattle.qw_types.specs.declared.value.Val.TheVariants as val
use Rattle.qw_linear.specs.Memory.{page, number_at}
use Rattle.qw_map.specs.Areas.{Area, World, are_covered}
use Rattle.qw_map.specs.Layout.{Layout, descriptor_size, text_areas, text_cell}
use Rattle.qw_map.proofs.AccessLemmas.{covered-after, covered-first}
use Rattle.qw_low.specs.State.{Part, Column, Own, Number, Address, Cells, LowState}
use Rattle.qw_low.specs.Places.{Holds, Means, StandsFor, area_of}

-- the cells of columns, and those of the first page from octet 24 to `base`
abbrev pub shown : (base : ℕ) → Cells → Cells
shown base c (Column k) a b = c (Column k) a b
shown base c (Own zero) a b = if nat_le 24 a && nat_le (a + b) base then c (Own 0) a b else None
shown base c (Own (suc k)) a b = None

-- a text's octets are known, and they are UTF-8
abbrev pub StandsIn : Cells → Part → ℕ → List ℕ → Type 0
StandsIn c p off octets = IsUtf8 octets × ((i octet : ℕ) → slice_get octets i ≡ Some octet → c p (off + i) 1 ≡ Some (Number octet))

-- ---- what is seen stays
module _ (base : ℕ) (c d : Cells) (mapped : (k a b : ℕ) → d (Column k) a b ≡ c (Column k) a b) (head : (a b : ℕ) → 24 ≤ a → a + b ≤ base → d (Own 0) a b ≡ c (Own 0) a b) where
  pub shown-same : (p : Part) (a b : ℕ) → shown base d p a b ≡ shown base c p a b
  shown-same (Column k) a b = mapped k a b
  shown-same (Own (suc k)) a b = refl
  shown-same (Own zero) a b = by_test (nat_le 24 a && nat_le (a + b) base) refl
    where
      by_test : (inside : Bool) → (nat_le 24 a && nat_le (a + b) base) ≡ inside → (if inside then d (Own 0) a b else None) ≡ (if inside then c (Own 0) a b else None)
      by_test false tested = refl
      by_test true tested = let tests = and_parts (nat_le 24 a) (nat_le (a + b) base) tested in head a b (leb-true 24 a tests.0) (leb-true (a + b) base tests.1)

  pub stands-same : (p : Part) (off : ℕ) (octets : List ℕ) → StandsIn (shown base c) p off octets → StandsIn (shown base d) p off octets
  stands-same p off octets text = (text.0, λ i octet is. shown-same p (off + i) 1 ∙ text.1 i octet is)

-- ---- octets of a memory
number-one : (m : List ℕ) (at : ℕ) → number_at m at 1 ≡ slice_index m at
unfolding number_at
number-one m at = omega arith

-- octets that are in the memory, one behind another
taken : (memory octets : List ℕ) (word : ℕ) → word + length octets ≤ length memory → ((i octet : ℕ) → slice_get octets i ≡ Some octet → slice_index memory (word + i) ≡ octet) → take (length octets) (drop word memory) ≡ octets
taken memory [] word inside each = refl
taken memory (o ∷ octets) word inside each =
    let here : word + 0 ≡ word = omega arith in
    let first : slice_index memory word ≡ o = ap (slice_index memory) (sym here) ∙ each 0 o refl in
    ap (take (suc (length octets))) (drop-cons memory word 0 (omega (arith, inside)))
    ∙ ap₂ (λ (x : ℕ) (xs : List ℕ). x ∷ xs) first
    (taken memory octets (suc word) (omega (arith, inside)) (λ i octet is. let further : suc word + i ≡ word + suc i = omega arith in ap (slice_index memory) further ∙ each (suc i) octet is))

-- an area of a list has its octets in the list's areas
covered-one : (areas : List Area) (k : ℕ) (a : Area) → slice_get areas k ≡ Some a → (at width : ℕ) → a.start ≤ at → at + width ≤ a.start + a.size → are_covered areas at width ≡ true
covered-one [] k a found at width low high = absurd cc
covered-one (b ∷ areas) zero a found at width low high = let same : b ≡ a = same_Some b a found in subst (λ (x : Area). are_covered (x ∷ areas) at width ≡ true) (sym same) (covered-first a areas at width low high)
covered-one (b ∷ areas) (suc k) a found at width low high = covered-after (b ∷ []) areas at width (covered-one areas k a found at width low high)

last-octet : (octets : List ℕ) → 1 ≤ length octets → (octet : ℕ) × (slice_get octets (length octets - 1) ≡ Some octet)
last-octet [] some = absurd (omega arith)
last-octet (o ∷ []) some = (o, refl)
last-octet (o ∷ x ∷ octets) some =
    let rest = last-octet (x ∷ octets) (omega arith) in
    let place : length (o ∷ x ∷ octets) - 1 ≡ suc (length (x ∷ octets) - 1) = omega arith in
    (rest.0, ap (slice_get (o ∷ x ∷ octets)) place ∙ rest.1)

-- ---- a text is read where it lies
module _ (layout : Layout) (w : World) (descriptor : ℕ) (t : LowState) (memory : List ℕ) (stands : StandsFor w t memory) (first_page : slice_get w.own 0 ≡ Some (record { start = descriptor; size = page })) where
  abbrev areas : List Area
  areas = text_areas layout w descriptor

  abbrev seen_cells : Cells
  seen_cells = shown (descriptor_size layout) t.cells

  -- where an octet that is seen stands
  record IsFound (p : Part) (at octet : ℕ) : Type 0 where
    pub area : Area
    pub is : area_of w p ≡ Some area
    pub inside : at + 1 ≤ area.size
    pub stands_there : slice_index memory (area.start + at) ≡ octet

  found-of : (p : Part) (at octet : ℕ) → t.cells p at 1 ≡ Some (Number octet) → IsFound p at octet
  found-of p at octet known =
      let h : Holds w memory p at 1 (Number octet) = stands.cells p at 1 (Number octet) known in
      record { area = h.area; is = h.is; inside = h.inside; stands_there = sym (number-one memory (h.area.start + at)) ∙ h.means }

  -- of the first page no octets but those are seen
  in_page : (at octet : ℕ) → seen_cells (Own 0) at 1 ≡ Some (Number octet) → (at + 1 ≤ descriptor_size layout) × (t.cells (Own 0) at 1 ≡ Some (Number octet))
  in_page at octet = by_test (nat_le 24 at && nat_le (at + 1) (descriptor_size layout)) refl
    where
      by_test : (inside : Bool) → (nat_le 24 at && nat_le (at + 1) (descriptor_size layout)) ≡ inside → (if inside then t.cells (Own 0) at 1 else None) ≡ Some (Number octet) →
          (at + 1 ≤ descriptor_size layout) × (t.cells (Own 0) at 1 ≡ Some (Number octet))
      by_test false tested found = absurd cc
      by_test true tested found = let tests = and_parts (nat_le 24 at) (nat_le (at + 1) (descriptor_size layout)) tested in (leb-true (at + 1) (descriptor_size layout) tests.1, found)

  found : (p : Part) (at octet : ℕ) → seen_cells p at 1 ≡ Some (Number octet) → IsFound p at octet
  found (Column k) at octet shown = found-of (Column k) at octet shown
  found (Own zero) at octet shown = found-of (Own 0) at octet (in_page at octet shown).1
  found (Own (suc k)) at octet shown = absurd cc

  -- so many octets are covered, the last of which is seen
  covered : (p : Part) (off width : ℕ) (a : Area) → area_of w p ≡ Some a → 1 ≤ width → off + width ≤ a.size → (octet : ℕ) → seen_cells p (off + (width - 1)) 1 ≡ Some (Number octet) → are_covered areas (a.start + off) width ≡ true
  covered (Column k) off width a is some inside octet shown =
      covered-after (record { start = descriptor; size = descriptor_size layout } ∷ []) w.mapped (a.start + off) width (covered-one w.mapped k a is (a.start + off) width (omega arith) (omega (arith, inside)))
  covered (Own zero) off width a is some inside octet shown =
      let same : record { start = descriptor; size = page } ≡ a = same_Some (record { start = descriptor; size = page }) a (sym first_page ∙ is) in
      let start : descriptor ≡ a.start = ap (λ (x : Area). x.start) same in
      let last = (in_page (off + (width - 1)) octet shown).0 in
      covered-first (record { start = descriptor; size = descriptor_size layout }) w.mapped (a.start + off) width (omega (arith, start)) (omega (arith, start, some, last))
  covered (Own (suc k)) off width a is some inside octet shown = absurd cc

  pub text_read : (p : Part) (off word : ℕ) (octets : List ℕ) → StandsIn seen_cells p off octets → Means w (Address p off) word → text_cell areas memory word (length octets) ≡ Some (val.Text octets)
  text_read p off word octets text means = by_length octets text.0 text.1
    where
      inside_memory : means.0.start + means.0.size ≤ length memory
      inside_memory = stands.inside p means.0 means.1

      at_place : (os : List ℕ) → ((i octet : ℕ) → slice_get os i ≡ Some octet → seen_cells p (off + i) 1 ≡ Some (Number octet)) → (i octet : ℕ) → slice_get os i ≡ Some octet → (off + i + 1 ≤ means.0.size) × (slice_index memory (word + i) ≡ octet)
      at_place os all i octet is =
          let one = found p (off + i) octet (all i octet is) in
          let same : one.area ≡ means.0 = same_Some one.area means.0 (sym one.is ∙ means.1) in
          let place : means.0.start + (off + i) ≡ word + i = omega (arith, means.3) in
          let size : one.area.size ≡ means.0.size = ap (λ (x : Area). x.size) same in
          (omega (arith, one.inside, size), ap (slice_index memory) (sym place) ∙ (ap (λ (x : Area). slice_index memory (x.start + (off + i))) (sym same) ∙ one.stands_there))

      by_parts : (os : List ℕ) → IsUtf8 os → word + length os ≤ length memory → are_covered areas word (length os) ≡ true → take (length os) (drop word memory) ≡ os → text_cell areas memory word (length os) ≡ Some (val.Text os)
      by_parts os valid below there same =
          let fits : nat_le (word + length os) (length memory) ≡ true = le-leb (word + length os) (length memory) below in
          let good : is_utf8 os ≡ true = is_utf8-from_IsUtf8 os valid in
          rw (same, fits, there, good) refl

      by_length : (os : List ℕ) → IsUtf8 os → ((i octet : ℕ) → slice_get os i ≡ Some octet → seen_cells p (off + i) 1 ≡ Some (Number octet)) → text_cell areas memory word (length os) ≡ Some (val.Text os)
      by_length [] valid all = by_parts [] valid (omega (arith, means.2, means.3, inside_memory)) refl refl
      by_length (o ∷ os) valid all =
          let last = last-octet (o ∷ os) (omega arith) in
          let end = at_place (o ∷ os) all (length (o ∷ os) - 1) last.0 last.1 in
          by_parts (o ∷ os) valid (omega (arith, end.0, means.3, inside_memory))
          (subst (λ (x : ℕ). are_covered areas x (length (o ∷ os)) ≡ true) (sym means.3) (covered p off (length (o ∷ os)) means.0 means.1 (omega arith) (omega (arith, end.0)) last.0 (all (length (o ∷ os) - 1) last.0 last.1)))
          (taken memory (o ∷ os) word (omega (arith, end.0, means.3, inside_memory)) (λ i octet is. (at_place (o ∷ os) all i octet is).1))
