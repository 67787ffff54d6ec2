-- What stands in a part of a column after one more of its values was written.
use Rattle.std.proofs.Common.{◌≡◌, ◌≤◌, ◌<◌, ◌+◌, ◌*◌, ◌%◌, ◌^◌, ◌∙◌, refl, sym, ap, ⊎_elim, inl, ℕ, ℤ, zero, suc, List, map, ◌++◌, length, take, drop, get_or, Some, arith, append_assoc, get_or-drop, get_or-take, length-append, length-drop, mul-le-mul_left, mul-suc, pow-suc, Bool, true, false}
use Rattle.std.specs.Prelude.{option_map, slice_get}
use Rattle.std.specs.Int.{cast_unsigned, w64}
use Rattle.std.proofs.lemmas.Bool.{cases_lt}
use Rattle.std.proofs.lemmas.List.{drop-take, ext_get_or, get_or_append_left, length-map, length-take-le, take-take}
use Rattle.std.proofs.lemmas.Option.{slice_get-map}
use Rattle.std.proofs.lemmas.List.Elements.{All-append, All-drop, All-take}
use Rattle.std.proofs.Math.Seq.{drop-append_seam, take-append_seam}
use Rattle.qw_types.specs.Value.{text_octets}
use Rattle.qw_types.specs.declared.value.Val.{Val}
use Rattle.qw_types.specs.declared.value.Val.TheVariants as val
use mir.Val.{bool_byte}
use Rattle.qw_csv.specs.Cells.{AreTexts, number_in, octets_in, octets_together}
use Rattle.qw_csv.proofs.CellFacts.{drop_further, text_among, together_long}
use Rattle.qw_linear.specs.Linear.{Octets}
use Rattle.qw_linear.specs.Memory.{AreOctets, SameBelow, number_at, with_number}
use Rattle.qw_linear.proofs.MemoryFacts.{AreOctets-with_number, length-with_number, number_at-apart, number_at-with_number, with_number-below}
use Rattle.qw_columns.specs.Inner.Writing.{HasNulls, HasNumbers, HasStarts, HasTexts, KeepsBelow, bit_of, flags_from, is_null}
use Rattle.qw_map.proofs.ColumnLemmas.{text_octets-taken}
use Rattle.qw_columns.proofs.RoomLemmas.{text_octets-more}

-- ---- what stays below an address

pub keeps_then : (a b c : Octets) (at higher : ℕ) → at ≤ higher → KeepsBelow a b at → KeepsBelow b c higher → KeepsBelow a c at
keeps_then a b c at higher le first next = record {
  below = λ k lt. next.below k (omega arith) ∙ first.below k lt;
  octets = λ are. next.octets (first.octets are);
  len = next.len ∙ first.len;
  reserved = next.reserved ∙ first.reserved;
}

-- a number was written
pub keeps_number : (m : Octets) (place width number : ℕ) → KeepsBelow m (record { octets = with_number m.octets place width number; reserved = m.reserved }) place
keeps_number m place width number = record {
  below = λ k lt. with_number-below m.octets place width number k lt;
  octets = λ are. AreOctets-with_number m.octets are place width number;
  len = length-with_number m.octets place width number;
  reserved = refl;
}

-- ---- octets that were copied to a place
module _ (octets : List ℕ) (place : ℕ) (bytes : List ℕ) (room : place + length bytes ≤ length octets) where
  front_long : length (take place octets) ≡ place
  front_long = length-take-le place octets (omega arith)

  pub length-put : length ((take place octets ++ bytes) ++ drop (place + length bytes) octets) ≡ length octets
  length-put = omega (arith, front_long, length-append (take place octets ++ bytes) (drop (place + length bytes) octets), length-append (take place octets) bytes, length-drop (place + length bytes) octets)

  pub put-below : (k : ℕ) → k < place → get_or ((take place octets ++ bytes) ++ drop (place + length bytes) octets) k 0 ≡ get_or octets k 0
  put-below k lt =
      get_or_append_left (take place octets ++ bytes) (drop (place + length bytes) octets) 0 k (omega (arith, front_long, length-append (take place octets) bytes))
      ∙ get_or_append_left (take place octets) bytes 0 k (omega (arith, front_long)) ∙ get_or-take place octets k 0 lt

  pub put-there : take (length bytes) (drop place ((take place octets ++ bytes) ++ drop (place + length bytes) octets)) ≡ bytes
  put-there =
      let back : drop place (take place octets ++ (bytes ++ drop (place + length bytes) octets)) ≡ bytes ++ drop (place + length bytes) octets =
      rw front_long at (drop-append_seam (take place octets) (bytes ++ drop (place + length bytes) octets)) in
      rw (append_assoc (take place octets) bytes (drop (place + length bytes) octets), back) (take-append_seam bytes (drop (place + length bytes) octets))

  pub AreOctets-put : AreOctets octets → AreOctets bytes → AreOctets ((take place octets ++ bytes) ++ drop (place + length bytes) octets)
  AreOctets-put are more = All-append (λ octet. octet < 256) (take place octets ++ bytes) (drop (place + length bytes) octets)
      (All-append (λ octet. octet < 256) (take place octets) bytes (All-take (λ octet. octet < 256) place octets are) more)
      (All-drop (λ octet. octet < 256) (place + length bytes) octets are)

pub keeps_put : (m : Octets) (place : ℕ) (bytes : List ℕ) → place + length bytes ≤ length m.octets → AreOctets bytes
    → KeepsBelow m (record { octets = (take place m.octets ++ bytes) ++ drop (place + length bytes) m.octets; reserved = m.reserved }) place
keeps_put m place bytes room more = record {
  below = λ k lt. put-below m.octets place bytes room k lt;
  octets = λ are. AreOctets-put m.octets place bytes room are more;
  len = length-put m.octets place bytes room;
  reserved = refl;
}

-- octets that are the same below an address
pub slice_kept : (before after : List ℕ) (from size limit : ℕ) → SameBelow before after limit → from + size ≤ limit → limit ≤ length before → length after ≡ length before
    → take size (drop from after) ≡ take size (drop from before)
slice_kept before after from size limit same inside room long = ext_get_or 0 (take size (drop from after)) (take size (drop from before))
    (length-take-le size (drop from after) (omega (arith, length-drop from after)) ∙ sym (length-take-le size (drop from before) (omega (arith, length-drop from before))))
    (λ i lt.
    let within : i < size = omega (arith, lt, length-take-le size (drop from after) (omega (arith, length-drop from after))) in
    get_or-take size (drop from after) i 0 within ∙ get_or-drop from after i 0 ∙ same (from + i) (omega arith)
    ∙ sym (get_or-take size (drop from before) i 0 within ∙ get_or-drop from before i 0))

-- ---- one more value

numbers_more : (memory : List ℕ) (at width : ℕ) (values : List Val) (count : ℕ) (value : Val) → slice_get values count ≡ Some value
    → at + width * count + width ≤ length memory → HasNumbers memory at width values count
    → HasNumbers (with_number memory (at + width * count) width (cast_unsigned w64 (number_in value))) at width values (suc count)
numbers_more memory at width values count value is room first = record { each = each }
  where
    after : List ℕ
    after = with_number memory (at + width * count) width (cast_unsigned w64 (number_in value))

    last : (row : ℕ) (v : Val) → row ≡ count → slice_get values row ≡ Some v → number_at after (at + width * row) width ≡ cast_unsigned w64 (number_in v) % 2 ^ (8 * width)
    last row v same there =
        let this : value ≡ v = cc (is, same, there) in
        rw (same, ← this) (number_at-with_number memory (at + width * count) width (cast_unsigned w64 (number_in value)) room)

    each : (row : ℕ) (v : Val) → row < suc count → slice_get values row ≡ Some v → number_at after (at + width * row) width ≡ cast_unsigned w64 (number_in v) % 2 ^ (8 * width)
    each row v lt there = ⊎_elim
        (λ (before : row < count).
        let below : width * suc row ≤ width * count = mul-le-mul_left width before in
        let next : width * suc row ≡ width * row + width = mul-suc width row in
        number_at-apart memory (at + width * count) width (cast_unsigned w64 (number_in value)) (at + width * row) width (inl (omega arith)) ∙ first.each row v before there)
        (λ (past : count ≤ row). last row v (omega arith) there)
        (cases_lt row count)

starts_none : (memory : List ℕ) (at : ℕ) (values : List Val) → HasStarts memory at values 0
starts_none memory at values = record { each = λ row lt. absurd (omega arith) }

starts_more : (memory : List ℕ) (at : ℕ) (values : List Val) (count : ℕ) → text_octets (take count values) < 2 ^ 32 → at + 4 * count + 4 ≤ length memory
    → HasStarts memory at values count → HasStarts (with_number memory (at + 4 * count) 4 (text_octets (take count values))) at values (suc count)
starts_more memory at values count small room first = record { each = each }
  where
    after : List ℕ
    after = with_number memory (at + 4 * count) 4 (text_octets (take count values))

    last : (row : ℕ) → row ≡ count → number_at after (at + 4 * row) 4 ≡ text_octets (take row values)
    last row same =
        let whole : text_octets (take count values) % 2 ^ (8 * 4) ≡ text_octets (take count values) = omega arith in
        rw same (number_at-with_number memory (at + 4 * count) 4 (text_octets (take count values)) room ∙ whole)

    each : (row : ℕ) → row < suc count → number_at after (at + 4 * row) 4 ≡ text_octets (take row values)
    each row lt = ⊎_elim
        (λ (before : row < count).
        number_at-apart memory (at + 4 * count) 4 (text_octets (take count values)) (at + 4 * row) 4 (inl (omega arith)) ∙ first.each row before)
        (λ (past : count ≤ row). last row (omega arith))
        (cases_lt row count)

-- a text ends where all texts do, at most
pub text_inside : (values : List Val) (row : ℕ) (value : Val) → slice_get values row ≡ Some value → text_octets (take row values) + length (octets_in value) ≤ text_octets values
text_inside values row value is = omega (arith, text_octets-more values row value is, text_octets-taken values (suc row))

-- numbers behind numbers
pub number_next : (memory : List ℕ) (at width : ℕ) (numbers : List ℤ) (row : ℕ) (number : ℤ) → slice_get numbers row ≡ Some number
    → at + width * row + width ≤ length memory → HasNumbers memory at width (map val.Num numbers) row
    → HasNumbers (with_number memory (at + width * row) width (cast_unsigned w64 number)) at width (map val.Num numbers) (suc row)
number_next memory at width numbers row number is room first =
    numbers_more memory at width (map val.Num numbers) row (val.Num number) (slice_get-map val.Num numbers row ∙ ap (option_map val.Num) is) room first

pub numbers_of : (memory : List ℕ) (at width : ℕ) (numbers : List ℤ) (values : List Val) → numbers ≡ map number_in values
    → HasNumbers memory at width (map val.Num numbers) (length numbers) → HasNumbers memory at width values (length values)
numbers_of memory at width numbers values are has = record {
  each = λ row value lt is.
      let there : slice_get numbers row ≡ Some (number_in value) = rw are (slice_get-map number_in values row ∙ ap (option_map number_in) is) in
      let long : length numbers ≡ length values = rw are (length-map values number_in) in
      has.each row (val.Num (number_in value)) (omega (arith, lt, long)) (slice_get-map val.Num numbers row ∙ ap (option_map val.Num) there);
}

-- offsets behind offsets: a text begins where the one before ends
pub start_first : (memory : List ℕ) (at : ℕ) (values : List Val) → at + 4 ≤ length memory → HasStarts (with_number memory at 4 0) at values 1
start_first memory at values room =
    let place : at + 4 * 0 ≡ at = omega arith in
    rw place at (starts_more memory at values 0 (omega arith) (omega arith) (starts_none memory at values))

pub start_next : (memory : List ℕ) (at : ℕ) (ends octets : List ℕ) (values : List Val) (row place end : ℕ) → AreTexts ends octets values → slice_get ends row ≡ Some end
    → place ≡ at + 4 * row + 4 → end < 2 ^ 32 → place + 4 ≤ length memory → HasStarts memory at values (suc row)
    → HasStarts (with_number memory place 4 end) at values (suc (suc row))
start_next memory at ends octets values row place end are is here small room first =
    let one : row + 1 ≡ suc row = omega arith in
    let last : end ≡ text_octets (take (suc row) values) = rw one at (are.each row end is) in
    let next : place ≡ at + 4 * suc row = omega (arith, here) in
    rw (next, last) (starts_more memory at values (suc row) (omega (arith, small, last)) (omega (arith, room, next)) first)

-- ---- texts, copied all at once

pub texts_whole : (memory : List ℕ) (at : ℕ) (values : List Val) → take (length (octets_together values)) (drop at memory) ≡ octets_together values
    → HasTexts memory at values (length values)
texts_whole memory at values there = record {
  each = λ row value lt is.
      let start = text_octets (take row values) in
      let size = length (octets_in value) in
      let inside : start + size ≤ length (octets_together values) = omega (arith, text_inside values row value is, together_long values) in
      let part : take (start + size) (drop at memory) ≡ take (start + size) (octets_together values) =
      sym (take-take (start + size) (length (octets_together values)) (drop at memory) inside) ∙ ap (take (start + size)) there in
      ap (take size) (sym (drop_further at start memory)) ∙ sym (drop-take start size (drop at memory)) ∙ ap (drop start) part
      ∙ drop-take start size (octets_together values) ∙ text_among values row value is;
}

-- ---- null bits

pub bit-below : (b : Bool) → bit_of b < 2
bit-below true = omega arith
bit-below false = omega arith

-- so many bits are a number of so many bits
pub flags-below : (values : List Val) (row count : ℕ) → flags_from values row count < 2 ^ count
unfolding flags_from
flags-below values row zero = omega arith
flags-below values row (suc count) =
    let bit = bit-below (is_null (slice_get values row)) in
    let rest = flags-below values (row + 1) count in
    let twice : 2 ^ suc count ≡ 2 ^ count * 2 = pow-suc 2 count in
    omega (arith, bit, rest, twice)

pub nulls_more : (memory : List ℕ) (at : ℕ) (values : List Val) (count : ℕ) → at + count + 1 ≤ length memory → HasNulls memory at values count
    → HasNulls (with_number memory (at + count) 1 (flags_from values (8 * count) 8)) at values (suc count)
nulls_more memory at values count room first = record { each = each }
  where
    after : List ℕ
    after = with_number memory (at + count) 1 (flags_from values (8 * count) 8)

    last : (group : ℕ) → group ≡ count → number_at after (at + group) 1 ≡ flags_from values (8 * group) 8
    last group same =
        let small = flags-below values (8 * count) 8 in
        let whole : flags_from values (8 * count) 8 % 2 ^ (8 * 1) ≡ flags_from values (8 * count) 8 = omega (arith, small) in
        rw same (number_at-with_number memory (at + count) 1 (flags_from values (8 * count) 8) room ∙ whole)

    each : (group : ℕ) → group < suc count → number_at after (at + group) 1 ≡ flags_from values (8 * group) 8
    each group lt = ⊎_elim
        (λ (before : group < count).
        number_at-apart memory (at + count) 1 (flags_from values (8 * count) 8) (at + group) 1 (inl (omega arith)) ∙ first.each group before)
        (λ (past : count ≤ group). last group (omega arith))
        (cases_lt group count)

-- one more row before others
pub flags_more : (values : List Val) (row next count octet flag : ℕ) → next ≡ row + 1 → octet ≡ flags_from values next count
    → flag ≡ bit_of (is_null (slice_get values row)) → 2 * octet + flag ≡ flags_from values row (suc count)
unfolding flags_from
flags_more values row next count octet flag follows rest first = rw (rest, first, follows) (omega arith)

pub byte_of_flag : (b : Bool) → bool_byte b ≡ bit_of b
byte_of_flag true = refl
byte_of_flag false = refl
