-- What the blocks come to that load what stands in the place of a row's value, and its null bit.
use Rattle.std.proofs.Common.{◌≡◌, ◌≢◌, ℕ, ℤ, ◌+◌, ◌-◌, ◌*◌, ◌/◌, ◌%◌, ◌^◌, ◌<◌, ◌≤◌, Bool, true, false, length, Option, Some, None, slice_get, length-set, bit_and, refl, sym, ap, ◌∙◌, arith}
use Rattle.std.specs.Int.{w32, cast_signed}
use Rattle.std.proofs.lemmas.Nat.{and_mask}
use Rattle.qw_types.specs.Value.{IsOfTypeOrNull}
use Rattle.qw_types.specs.declared.value.Ty.{Ty}
use Rattle.qw_types.specs.declared.value.Val.{Val}
use Rattle.qw_types.specs.declared.value.Val.TheVariants as val
use Rattle.qw_map.proofs.TurnFacts.{slice_get-set_same, slice_get-set_other}
use Rattle.qw_module.specs.declared.instruction.ValType.TheVariants.{I32, I64}
use Rattle.qw_module.specs.declared.instruction.Sign.TheVariants.{Signed, Unsigned}
use Rattle.qw_module.specs.declared.instruction.Binary.TheVariants.{Shr, Sub}
use Rattle.qw_module.specs.declared.instruction.Load.TheVariants.{Full, From8, I64From32}
use Rattle.qw_low.specs.Syntax.{local, binop, advance, retreat, Statement, seq, assign, load}
use Rattle.qw_low.specs.State.{Column, Value, Number, Address, LowState}
use Rattle.qw_low.specs.Meaning.{value, retreated, meaning}
use Rattle.qw_low.specs.Begin.{KnowsNull, null_flag}
use Rattle.qw_low.specs.Promise.{Ends}
use Rattle.qw_low.specs.Raising.{Kept}
use Rattle.qw_low.specs.Size.{size}
use Rattle.qw_low.proofs.Promises.{assign_ends}
use Rattle.qw_low.proofs.BlockSteps.{load_ends, load_then, assign_then}
use Rattle.qw_low.proofs.Results.{Kept-same, Kept-set}
use Rattle.qw_wide.proofs.Words.{word}
use Rattle.qw_read.specs.declared.reader.Reader.{Reader}
use Rattle.qw_read.specs.Reading.{HasNullWord, HasOctets, IsAtRow}
use Rattle.qw_read.specs.Inner.Blocks.{i32, word_at, word_block, double_block, text_block, row_at, null_bit, null_block}
use Rattle.qw_read.proofs.Addresses.{put, advanced_to, retreated_to}
use Rattle.qw_read.proofs.BasesRuns.{Never, NoCode}

-- ---- null bits
-- whether a null word, where there is one, holds a flag; without one it is 0
abbrev pub NullWord : LowState → Option ℕ → ℕ → Type 0
NullWord s None flag = flag ≡ 0
NullWord s (Some x) flag = slice_get s.locals x ≡ Some (Number flag)

pub null_put : (s : LowState) (null : Option ℕ) (flag x : ℕ) (v : Value) → ((n : ℕ) → null ≡ Some n → n ≢ x) → NullWord s null flag → NullWord (put s x v) null flag
null_put s None flag x v apart is = is
null_put s (Some n) flag x v apart is = slice_get-set_other s.locals x n v (apart n refl) ∙ is

-- no value of a column that is NOT NULL is null
flag_zero : (type : Ty) (v : Val) → IsOfTypeOrNull type true v → null_flag v ≡ 0
flag_zero type val.Null is = absurd cc
flag_zero type (val.Num n) is = refl
flag_zero type (val.Date n) is = refl
flag_zero type (val.Text octets) is = refl

-- the bit of a row
row_bit : (row : ℕ) → bit_and (4 * row / 2 ^ (2 % 32)) 7 % 32 ≡ row % 8
row_bit row =
    let index : 4 * row / 2 ^ (2 % 32) ≡ row = omega arith in
    let bit : bit_and (4 * row / 2 ^ (2 % 32)) 7 ≡ row % 8 = ap (λ (k : ℕ). bit_and k 7) index ∙ and_mask row 3 in
    omega (arith, bit)

pub bit_of : (octet row : ℕ) → bit_and (octet / 2 ^ (bit_and (4 * row / 2 ^ (2 % 32)) 7 % 32)) 1 ≡ octet / 2 ^ (row % 8) % 2
bit_of octet row = ap (λ (k : ℕ). bit_and (octet / 2 ^ k) 1) (row_bit row) ∙ and_mask (octet / 2 ^ (row % 8)) 1

-- the row, from all rows and those that are left
pub row_is : (rows row : ℕ) (r : Reader) (t : LowState) → row < rows → 4 * row < 2 ^ 32 → slice_get t.locals r.end ≡ Some (Number (4 * rows)) → slice_get t.locals r.left ≡ Some (Number (4 * (rows - row))) →
    value t (row_at r) ≡ Some (Number (4 * row))
row_is rows row r t within small end left =
    let difference : (4 * rows + 2 ^ 32 - 4 * (rows - row)) % 2 ^ 32 ≡ 4 * row = omega (arith, within, small) in
    rw (end, left) (ap (λ (k : ℕ). Some (Number k)) difference)

module _ (pages fuel n rows row : ℕ) (r : Reader) (s : LowState) (at_row : IsAtRow n rows row r s) (small : 4 * row < 2 ^ 32) where
  abbrev pub Nulled : Option ℕ → Val → LowState → Type 0
  Nulled null v t = Kept n s t × NullWord t null (null_flag v)

  row_still : (x : ℕ) (v : Value) → n ≤ x → value (put s x v) (row_at r) ≡ Some (Number (4 * row))
  row_still x v from = row_is rows row r (put s x v) at_row.within small
      (slice_get-set_other s.locals x r.end v (λ same. omega (arith, same, from, at_row.end.0)) ∙ at_row.end.1)
      (slice_get-set_other s.locals x r.left v (λ same. omega (arith, same, from, at_row.left.0)) ∙ at_row.left.1)

  bit_is : (x octet : ℕ) → n ≤ x → x < length s.locals → value (put s x (Number octet)) (null_bit r x) ≡ Some (Number (octet / 2 ^ (row % 8) % 2))
  bit_is x octet from room =
      rw (slice_get-set_same s.locals x (Number octet) room, row_still x (Number octet) from) (ap (λ (k : ℕ). Some (Number k)) (bit_of octet row))

  pub null_ends : (type : Ty) (b : Bool) (null : Option ℕ) (k : ℕ) (v : Val) → HasNullWord b null → KnowsNull s.cells k row b v → IsOfTypeOrNull type b v →
      (b ≡ false → slice_get s.locals r.nulls ≡ Some (Address (Column (3 * k + 2)) 0)) → (b ≡ false → HasOctets s.columns (3 * k + 2) (row / 8 + 1)) →
      ((x : ℕ) → null ≡ Some x → (n ≤ x) × (x < length s.locals)) → Ends (size (null_block null r)) (Nulled null v) Never NoCode (meaning pages fuel (null_block null r) s)
  null_ends type true None k v has knows typed base room own = (omega arith, (Kept-same n s, flag_zero type v typed))
  null_ends type true (Some x) k v has knows typed base room own = absurd cc
  null_ends type false None k v has knows typed base room own = let is = has.1 in absurd cc
  null_ends type false (Some x) k v has knows typed base room own =
      let in_part = room refl in
      let mine = own x refl in
      let place : 4 * row / 2 ^ (5 % 32) ≡ row / 8 = omega arith in
      let t : LowState = put s x (Number knows.0) in
      let low : x < length t.locals = omega (arith, length-set s.locals x (Number knows.0), mine.1) in
      load_then (Nulled (Some x) v) Never NoCode pages fuel s 12 (assign x (null_bit r x)) x (From8 I32 Unsigned) 0 (advance (local r.nulls) (binop I32 (Shr Unsigned) (row_at r) (i32 5)))
      (Column (3 * k + 2)) (row / 8) (row / 8) (Number knows.0) (Number knows.0)
      (rw (base refl, row_is rows row r s at_row.within small at_row.end.1 at_row.left.1) (advanced_to s (Column (3 * k + 2)) 0 (4 * row / 2 ^ (5 % 32)) (row / 8) in_part.0 in_part.1 (omega arith) (omega (arith, in_part.2))))
      (omega arith) knows.1 refl mine.1
      (assign_ends (Nulled (Some x) v) Never NoCode pages fuel x (null_bit r x) (Number (knows.0 / 2 ^ (row % 8) % 2)) t (bit_is x knows.0 mine.0 mine.1) low (
        Kept-set n s t x (Number (knows.0 / 2 ^ (row % 8) % 2)) (Kept-set n s s x (Number knows.0) (Kept-same n s) mine.0) mine.0,
        slice_get-set_same t.locals x (Number (knows.0 / 2 ^ (row % 8) % 2)) low ∙ ap (λ (k : ℕ). Some (Number k)) knows.2,
      ))

-- ---- numbers and texts
module _ (P : LowState → Type 0) (pages fuel rows row part : ℕ) (r : Reader) (s : LowState) (within : row < rows)
    (left : slice_get s.locals r.left ≡ Some (Number (4 * (rows - row)))) (room : r.cell.value < length s.locals) where
  word_place : (t : LowState) → slice_get t.locals r.values ≡ Some (Address (Column part) (4 * rows)) → slice_get t.locals r.left ≡ Some (Number (4 * (rows - row))) →
      value t (word_at r) ≡ Some (Address (Column part) (4 * row))
  word_place t at is = rw (at, is) (retreated_to (Column part) (4 * rows) (4 * (rows - row)) (4 * row) (omega (arith, within)))

  pub word_ends : (x : ℕ) (z : ℤ) → slice_get s.locals r.values ≡ Some (Address (Column part) (4 * rows)) → s.cells (Column part) (4 * row) 4 ≡ Some (Number x) → cast_signed w32 x ≡ z →
      P (put s r.cell.value (Number (word z))) → Ends 5 P Never NoCode (meaning pages fuel (word_block r) s)
  word_ends x z base there is post =
      load_ends P Never NoCode pages fuel s r.cell.value (I64From32 Signed) 0 (word_at r) (Column part) (4 * row) (4 * row) (Number x) (Number (word z))
      (word_place s base left) (omega arith) there (ap (λ (y : ℤ). Some (Number (word y))) is) room post

  pub double_ends : (x : ℕ) → slice_get s.locals r.values ≡ Some (Address (Column part) (8 * rows)) → s.cells (Column part) (8 * row) 8 ≡ Some (Number x) → P (put s r.cell.value (Number x)) →
      Ends 7 P Never NoCode (meaning pages fuel (double_block r) s)
  double_ends x base there post =
      let half : ℕ = 8 * row + 4 * (rows - row) in
      let first : value s (word_at r) ≡ Some (Address (Column part) half) = rw (base, left) (retreated_to (Column part) (8 * rows) (4 * (rows - row)) half (omega (arith, within))) in
      load_ends P Never NoCode pages fuel s r.cell.value (Full I64) 0 (retreat (word_at r) (local r.left)) (Column part) (8 * row) (8 * row) (Number x) (Number x)
      (ap (λ (a : Option Value). retreated a (slice_get s.locals r.left)) first ∙ ap (λ (a : Option Value). retreated (Some (Address (Column part) half)) a) left
      ∙ retreated_to (Column part) half (4 * (rows - row)) (8 * row) (omega arith))
      (omega arith) there refl room post

  -- a text of so many octets, which begins at an offset of the column's octets
  module _ (q from long : ℕ) (base : slice_get s.locals r.values ≡ Some (Address (Column part) (4 * rows))) (first : s.cells (Column part) (4 * row) 4 ≡ Some (Number from))
      (next : s.cells (Column part) (4 * (row + 1)) 4 ≡ Some (Number (from + long))) (inside : HasOctets s.columns q (from + long)) (octets : slice_get s.locals r.octets ≡ Some (Address (Column q) 0))
      (other_values : r.values ≢ r.cell.value) (other_left : r.left ≢ r.cell.value) (other_octets : r.octets ≢ r.cell.value) (octets_apart : r.octets ≢ r.cell.length) (apart : r.cell.length ≢ r.cell.value)
      (room_long : r.cell.length < length s.locals) where
    abbrev begun : LowState
    begun = put s r.cell.value (Number from)

    abbrev ended : LowState
    ended = put begun r.cell.length (Number (from + long))

    abbrev measured : LowState
    measured = put ended r.cell.length (Number long)

    abbrev pub texted : LowState
    texted = put measured r.cell.value (Address (Column q) from)

    many_begun : length begun.locals ≡ length s.locals
    many_begun = length-set s.locals r.cell.value (Number from)

    many_ended : length ended.locals ≡ length s.locals
    many_ended = length-set begun.locals r.cell.length (Number (from + long)) ∙ many_begun

    pub many_measured : length measured.locals ≡ length s.locals
    many_measured = length-set ended.locals r.cell.length (Number long) ∙ many_ended

    long_is : slice_get ended.locals r.cell.length ≡ Some (Number (from + long))
    long_is = slice_get-set_same begun.locals r.cell.length (Number (from + long)) (omega (arith, many_begun, room_long))

    from_is : slice_get ended.locals r.cell.value ≡ Some (Number from)
    from_is = slice_get-set_other begun.locals r.cell.length r.cell.value (Number (from + long)) (λ same. apart (sym same)) ∙ slice_get-set_same s.locals r.cell.value (Number from) room

    pub measured_is : slice_get measured.locals r.cell.length ≡ Some (Number long)
    measured_is = slice_get-set_same ended.locals r.cell.length (Number long) (omega (arith, many_ended, room_long))

    from_still : slice_get measured.locals r.cell.value ≡ Some (Number from)
    from_still = slice_get-set_other ended.locals r.cell.length r.cell.value (Number long) (λ same. apart (sym same)) ∙ from_is

    octets_still : slice_get measured.locals r.octets ≡ Some (Address (Column q) 0)
    octets_still =
        slice_get-set_other ended.locals r.cell.length r.octets (Number long) octets_apart
        ∙ (slice_get-set_other begun.locals r.cell.length r.octets (Number (from + long)) octets_apart ∙ (slice_get-set_other s.locals r.cell.value r.octets (Number from) other_octets ∙ octets))

    pub text_ends : P texted → Ends 18 P Never NoCode (meaning pages fuel (text_block r) s)
    text_ends post =
        let address : Statement = assign r.cell.value (advance (local r.octets) (local r.cell.value)) in
        let measure : Statement = seq (assign r.cell.length (binop I32 Sub (local r.cell.length) (local r.cell.value))) address in
        let end : Statement = seq (load r.cell.length (Full I32) 4 (word_at r)) measure in
        let difference : (from + long + 2 ^ 32 - from) % 2 ^ 32 ≡ long = let below = inside.3 in omega (arith, below, inside.2) in
        load_then P Never NoCode pages fuel s 13 end r.cell.value (Full I32) 0 (word_at r) (Column part) (4 * row) (4 * row) (Number from) (Number from)
        (word_place s base left) (omega arith) first refl room
        (load_then P Never NoCode pages fuel begun 8 measure r.cell.length (Full I32) 4 (word_at r) (Column part) (4 * row) (4 * (row + 1)) (Number (from + long)) (Number (from + long))
        (word_place begun (slice_get-set_other s.locals r.cell.value r.values (Number from) other_values ∙ base)
        (slice_get-set_other s.locals r.cell.value r.left (Number from) other_left ∙ left)) (omega arith) next refl (omega (arith, many_begun, room_long))
        (assign_then P Never NoCode pages fuel ended 4 address r.cell.length (binop I32 Sub (local r.cell.length) (local r.cell.value)) (Number long)
        (rw (long_is, from_is) (ap (λ (k : ℕ). Some (Number k)) difference)) (omega (arith, many_ended, room_long))
        (assign_ends P Never NoCode pages fuel r.cell.value (advance (local r.octets) (local r.cell.value)) (Address (Column q) from) measured
        (rw (octets_still, from_still) (advanced_to measured (Column q) 0 from from inside.0 inside.1 (omega arith) (omega (arith, inside.2)))) (omega (arith, many_measured, room)) post)))
