-- The descriptor in a blank page.
use Rattle.std.proofs.Common.{◌≡◌, ℕ, ◌+◌, ◌-◌, ◌*◌, ◌%◌, ◌^◌, ◌<◌, ◌≤◌, ◌⊎◌, inl, inr, ⊎_elim, List, ◌++◌, Some, length, take, drop, get_or, refl, sym, ap, ◌∙◌, subst, arith}
use Rattle.std.specs.Prelude.{if◌then◌else◌, slice_get, slice_index}
use Rattle.std.proofs.lemmas.Bool.{cases_lt}
use Rattle.std.proofs.lemmas.List.{get_or-append-add, get_or-drop, get_or-take, get_or_append_left, length-append, length-drop, length-take-le}
use Rattle.std.proofs.lemmas.List.Elements.{All-append, All-drop, All-take}
use Rattle.std.proofs.lemmas.Option.{get_or_from_slice_get, same_Some, slice_get_within}
use Rattle.qw_linear.specs.Memory.{AreOctets, grown_by, number_at, page, with_number, SameBelow}
use Rattle.qw_linear.proofs.MemoryFacts.{length-with_number, number_at-apart, number_at-same, number_at-with_number, with_number-above, with_number-below}
use Rattle.qw_linear.proofs.GrowthFacts.{grown_by-above}
use Rattle.qw_map.specs.Layout.{HasEntry, IsFresh, Layout, descriptor_size, entry_offset, is_text}
use Rattle.qw_map.specs.declared.layout.Placed.{Placed}
use Rattle.qw_map.specs.declared.layout.Used.{Used}
use Rattle.qw_bench.specs.FirstPage.{HasAddresses, IsBlank}
use Rattle.qw_bench.specs.Inner.Entries.{AreEntries, SameOutside}

-- ---- after a number of four octets was stored
-- it is read back where it is below 2^32
read_back : (memory after : List ℕ) (at number : ℕ) → after ≡ with_number memory at 4 number → at + 4 ≤ length memory → number < 2 ^ 32 → number_at after at 4 ≡ number
read_back memory after at number is inside small =
    let whole : number % 2 ^ (8 * 4) ≡ number = omega arith in
    rw is (number_at-with_number memory at 4 number inside ∙ whole)

-- an octet outside is kept, and a number
octet_apart : (memory after : List ℕ) (at number k : ℕ) → after ≡ with_number memory at 4 number → (k < at) ⊎ (at + 4 ≤ k) → get_or after k 0 ≡ get_or memory k 0
octet_apart memory after at number k is apart = rw is (⊎_elim
    (λ below. with_number-below memory at 4 number k below)
    (λ above. with_number-above memory at 4 number k above)
    apart)

number_apart : (memory after : List ℕ) (at number address : ℕ) → after ≡ with_number memory at 4 number → (address + 4 ≤ at) ⊎ (at + 4 ≤ address) →
    number_at after address 4 ≡ number_at memory address 4
number_apart memory after at number address is apart = rw is (number_at-apart memory at 4 number address 4 apart)

same_length : (memory after : List ℕ) (at number : ℕ) → after ≡ with_number memory at 4 number → length after ≡ length memory
same_length memory after at number is = ap length is ∙ length-with_number memory at 4 number

-- ---- one entry
module _ (m0 m1 m2 m3 m4 : List ℕ) (at nulls octets : ℕ) (used : Used) (one : Placed)
    (is1 : m1 ≡ with_number m0 at 4 one.values) (is2 : m2 ≡ with_number m1 (at + 4) 4 nulls)
    (is3 : m3 ≡ with_number m2 (at + 8) 4 octets) (is4 : m4 ≡ with_number m3 (at + 12) 4 one.rows) where
  pub entry-outside : SameOutside m0 m4 at 16
  entry-outside k apart =
      octet_apart m3 m4 (at + 12) one.rows k is4 (⊎_elim (λ h. inl (omega arith)) (λ h. inr (omega arith)) apart)
      ∙ octet_apart m2 m3 (at + 8) octets k is3 (⊎_elim (λ h. inl (omega arith)) (λ h. inr (omega arith)) apart)
      ∙ octet_apart m1 m2 (at + 4) nulls k is2 (⊎_elim (λ h. inl (omega arith)) (λ h. inr (omega arith)) apart)
      ∙ octet_apart m0 m1 at one.values k is1 (⊎_elim (λ h. inl h) (λ h. inr (omega arith)) apart)

  pub entry-written : at + 16 ≤ length m0 → HasAddresses one → nulls ≡ (if used.not_null then 0 else one.nulls) → nulls < 2 ^ 32 →
      octets ≡ (if is_text used.ty then one.octets else 0) → octets < 2 ^ 32 → HasEntry m4 at used one
  entry-written room small nulls_are few_nulls octets_are few_octets =
      let l1 : length m1 ≡ length m0 = same_length m0 m1 at one.values is1 in
      let l2 : length m2 ≡ length m1 = same_length m1 m2 (at + 4) nulls is2 in
      let l3 : length m3 ≡ length m2 = same_length m2 m3 (at + 8) octets is3 in
      let first : number_at m1 at 4 ≡ one.values = read_back m0 m1 at one.values is1 (omega arith) small.values in
      let second : number_at m2 (at + 4) 4 ≡ nulls = read_back m1 m2 (at + 4) nulls is2 (omega arith) few_nulls in
      let third : number_at m3 (at + 8) 4 ≡ octets = read_back m2 m3 (at + 8) octets is3 (omega arith) few_octets in
      let fourth : number_at m4 (at + 12) 4 ≡ one.rows = read_back m3 m4 (at + 12) one.rows is4 (omega arith) small.rows_are in
      record {
        values = number_apart m3 m4 (at + 12) one.rows at is4 (inl (omega arith))
            ∙ number_apart m2 m3 (at + 8) octets at is3 (inl (omega arith))
            ∙ number_apart m1 m2 (at + 4) nulls at is2 (inl (omega arith))
            ∙ first;
        nulls = number_apart m3 m4 (at + 12) one.rows (at + 4) is4 (inl (omega arith))
            ∙ number_apart m2 m3 (at + 8) octets (at + 4) is3 (inl (omega arith))
            ∙ second ∙ nulls_are;
        octets = number_apart m3 m4 (at + 12) one.rows (at + 8) is4 (inl (omega arith)) ∙ third ∙ octets_are;
        rows_are = fourth;
      }

-- an entry depends on its octets
pub entry-same : (before after : List ℕ) (at : ℕ) (used : Used) (one : Placed) → ((k : ℕ) → at ≤ k → k < at + 16 → slice_index after k ≡ slice_index before k) →
    HasEntry before at used one → HasEntry after at used one
entry-same before after at used one same h = record {
  values = number_at-same after before at 4 (λ k low high. same k low (omega arith)) ∙ h.values;
  nulls = number_at-same after before (at + 4) 4 (λ k low high. same k (omega arith) (omega arith)) ∙ h.nulls;
  octets = number_at-same after before (at + 8) 4 (λ k low high. same k (omega arith) (omega arith)) ∙ h.octets;
  rows_are = number_at-same after before (at + 12) 4 (λ k low high. same k (omega arith) (omega arith)) ∙ h.rows_are;
}

-- ---- the entries
-- the entries of the first columns are written, and nothing else is changed
pub record AreFirst (before after : List ℕ) (entries : ℕ) (columns : List Used) (placed : List Placed) (count : ℕ) : Type 0 where
  pub each : (k : ℕ) (used : Used) (one : Placed) → k < count → slice_get columns k ≡ Some used → slice_get placed k ≡ Some one → HasEntry after (entries + 16 * k) used one
  pub outside : SameOutside before after entries (16 * count)

pub first-none : (before : List ℕ) (entries : ℕ) (columns : List Used) (placed : List Placed) → AreFirst before before entries columns placed 0
first-none before entries columns placed = record {
  each = λ k used one lt found there. absurd (omega arith);
  outside = λ k apart. refl;
}

pub first-more : (before now after : List ℕ) (entries count : ℕ) (columns : List Used) (placed : List Placed) (u : Used) (p : Placed) →
    slice_get columns count ≡ Some u → slice_get placed count ≡ Some p → HasEntry after (entries + 16 * count) u p → SameOutside now after (entries + 16 * count) 16 →
    AreFirst before now entries columns placed count → AreFirst before after entries columns placed (count + 1)
first-more before now after entries count columns placed u p u_is p_is entry outside h = record {
  each = λ k used one lt found there. ⊎_elim
      (λ (low : k < count).
      entry-same now after (entries + 16 * k) used one (λ j a b. outside j (inl (omega arith))) (h.each k used one low found there))
      (λ (high : count ≤ k).
      let here : k ≡ count = omega arith in
      let used_is : u ≡ used = same_Some u used (sym u_is ∙ subst (λ (n : ℕ). slice_get columns n ≡ Some used) here found) in
      let one_is : p ≡ one = same_Some p one (sym p_is ∙ subst (λ (n : ℕ). slice_get placed n ≡ Some one) here there) in
      rw (here, ← used_is, ← one_is) entry)
      (cases_lt k count);
  outside = λ k apart. outside k (⊎_elim (λ low. inl (omega arith)) (λ high. inr (omega arith)) apart)
      ∙ h.outside k (⊎_elim (λ low. inl low) (λ high. inr (omega arith)) apart);
}

-- ---- octets that were copied
module _ (before after octets : List ℕ) (at : ℕ) (inside : at + length octets ≤ length before) (is : after ≡ take at before ++ (octets ++ drop (at + length octets) before)) where
  start_long : length (take at before) ≡ at
  start_long = length-take-le at before (omega arith)

  pub copied-below : (k : ℕ) → k < at → get_or after k 0 ≡ get_or before k 0
  copied-below k low = rw is
      (get_or_append_left (take at before) (octets ++ drop (at + length octets) before) 0 k (omega (arith, start_long)) ∙ get_or-take at before k 0 low)

  pub copied-there : (k : ℕ) → k < length octets → get_or after (at + k) 0 ≡ get_or octets k 0
  copied-there k low =
      let place : at + k ≡ length (take at before) + k = omega (arith, start_long) in
      rw (is, place) (get_or-append-add (take at before) (octets ++ drop (at + length octets) before) k 0
      ∙ get_or_append_left octets (drop (at + length octets) before) 0 k low)

  pub copied-above : (k : ℕ) → at + length octets ≤ k → get_or after k 0 ≡ get_or before k 0
  copied-above k high =
      let j : ℕ = k - (at + length octets) in
      let place : k ≡ length (take at before) + (length octets + j) = omega (arith, start_long) in
      let back : at + length octets + j ≡ k = omega arith in
      let found : get_or (take at before ++ (octets ++ drop (at + length octets) before)) (length (take at before) + (length octets + j)) 0 ≡ get_or before (at + length octets + j) 0 =
      get_or-append-add (take at before) (octets ++ drop (at + length octets) before) (length octets + j) 0
      ∙ get_or-append-add octets (drop (at + length octets) before) j 0
      ∙ get_or-drop (at + length octets) before j 0 in
      rw is (ap (λ (n : ℕ). get_or (take at before ++ (octets ++ drop (at + length octets) before)) n 0) place ∙ found ∙ ap (λ (n : ℕ). get_or before n 0) back)

  pub copied-length : length after ≡ length before
  copied-length =
      let rest : length (drop (at + length octets) before) ≡ length before - (at + length octets) = length-drop (at + length octets) before in
      let first : length (take at before ++ (octets ++ drop (at + length octets) before)) ≡ length (take at before) + length (octets ++ drop (at + length octets) before) =
      length-append (take at before) (octets ++ drop (at + length octets) before) in
      let second : length (octets ++ drop (at + length octets) before) ≡ length octets + length (drop (at + length octets) before) =
      length-append octets (drop (at + length octets) before) in
      let whole = ap length is in
      omega (arith, first, second, rest, whole, start_long)

  pub copied-octets : AreOctets before → AreOctets octets → AreOctets after
  copied-octets are those = rw is
      (All-append (λ (octet : ℕ). octet < 256) (take at before) (octets ++ drop (at + length octets) before)
      (All-take (λ (octet : ℕ). octet < 256) at before are)
      (All-append (λ (octet : ℕ). octet < 256) octets (drop (at + length octets) before) those (All-drop (λ (octet : ℕ). octet < 256) (at + length octets) before are)))

-- ---- the whole descriptor
module _ (d : ℕ) (layout : Layout) (placed : List Placed) (m0 m1 m2 m3 m4 : List ℕ) (is1 : m1 ≡ with_number m0 d 4 (d + descriptor_size layout))
    (is2 : m2 ≡ with_number m1 (d + 4) 4 (d + page)) (entries : AreEntries m3 (d + 64) layout.columns placed)
    (outside : SameOutside m2 m3 (d + 64) (16 * length layout.columns)) (long : length m3 ≡ length m0)
    (texts : ℕ) (texts_is : texts ≡ d + 64 + 16 * length layout.columns)
    (is4 : m4 ≡ take texts m3 ++ (layout.literals ++ drop (texts + length layout.literals) m3))
    (small : descriptor_size layout ≤ page) (room : d + page ≤ length m0) where
  abbrev texts_end : ℕ
  texts_end = texts + length layout.literals

  fits : texts_end ≤ length m3
  fits = omega arith

  -- an octet of neither number of the head
  head_kept : (address : ℕ) → (address < d) ⊎ (d + 8 ≤ address) → get_or m2 address 0 ≡ get_or m0 address 0
  head_kept address apart =
      octet_apart m1 m2 (d + 4) (d + page) address is2 (⊎_elim (λ h. inl (omega arith)) (λ h. inr (omega arith)) apart)
      ∙ octet_apart m0 m1 d (d + descriptor_size layout) address is1 (⊎_elim (λ h. inl h) (λ h. inr (omega arith)) apart)

  below_texts : (address : ℕ) → address < texts → get_or m4 address 0 ≡ get_or m3 address 0
  below_texts address low = copied-below m3 m4 layout.literals texts fits is4 address low

  below_entries : (address : ℕ) → address < d + 64 → get_or m4 address 0 ≡ get_or m2 address 0
  below_entries address low = below_texts address (omega (arith, texts_is)) ∙ outside address (inl low)

  pub begun-below : SameBelow m0 m4 d
  begun-below address low = below_entries address (omega arith) ∙ head_kept address (inl low)

  pub begun-fresh : d + page < 2 ^ 32 → IsBlank m0 d → IsFresh m4 d layout placed
  begun-fresh end blank =
      let l1 : length m1 ≡ length m0 = same_length m0 m1 d (d + descriptor_size layout) is1 in
      let free_is : number_at m1 d 4 ≡ d + descriptor_size layout = read_back m0 m1 d (d + descriptor_size layout) is1 (omega arith) (omega arith) in
      let end_is : number_at m2 (d + 4) 4 ≡ d + page = read_back m1 m2 (d + 4) (d + page) is2 (omega (arith, l1)) end in
      record {
        free = number_at-same m4 m2 d 4 (λ k low high. below_entries k (omega arith)) ∙ number_apart m1 m2 (d + 4) (d + page) d is2 (inl (omega arith)) ∙ free_is;
        page_end = number_at-same m4 m2 (d + 4) 4 (λ k low high. below_entries k (omega arith)) ∙ end_is;
        no_results = λ k low high. below_entries (d + k) (omega arith) ∙ head_kept (d + k) (inr (omega arith)) ∙ blank k (omega arith);
        entries = λ k used one found there.
            let within : k < length layout.columns = slice_get_within layout.columns k used found in
            let at : d + 64 + 16 * k ≡ d + entry_offset k = omega arith in
            entry-same m3 m4 (d + entry_offset k) used one (λ j low high. below_texts j (omega (arith, texts_is)))
            (subst (λ (a : ℕ). HasEntry m3 a used one) at (entries k used one found there));
        literals = λ k octet found.
            let within : k < length layout.literals = slice_get_within layout.literals k octet found in
            let at : d + entry_offset (length layout.columns) + k ≡ texts + k = omega (arith, texts_is) in
            rw at (copied-there m3 m4 layout.literals texts fits is4 k within ∙ get_or_from_slice_get layout.literals k octet 0 found);
        zeros = λ k low high.
            copied-above m3 m4 layout.literals texts fits is4 (d + k) (omega (arith, texts_is))
            ∙ outside (d + k) (inr (omega arith)) ∙ head_kept (d + k) (inr (omega arith)) ∙ blank k high;
      }

-- a page that memory has grown by is zeros
pub blank-grown : (pages : ℕ) (memory : List ℕ) → 1 ≤ pages → IsBlank (grown_by pages memory) (length memory)
blank-grown pages memory some k lt = grown_by-above pages memory (length memory + k) (omega arith)
