-- What the block comes to that reads a column's value at a row.
use Rattle.std.proofs.Common.{◌≡◌, ◌≢◌, ℕ, ℤ, pos, negsuc, ◌+◌, ◌*◌, ◌^◌, ◌<◌, ◌≤◌, ◌≤ℤ◌, Bool, true, false, FitsSigned, List, [], length, Option, Some, None, slice_get, unsigned_abs, w64, refl, sym, ap, ◌∙◌, subst, arith}
use Rattle.std.proofs.lemmas.Int.{ints}
use Rattle.qw_types.specs.Kind.{IsDateNumber, type_kind}
use Rattle.qw_types.specs.Value.{IsSized, IsOfTypeOrNull}
use Rattle.qw_types.specs.declared.value.Ty.{Ty}
use Rattle.qw_types.specs.declared.value.Ty.TheVariants as ty
use Rattle.qw_types.specs.declared.value.Val.{Val}
use Rattle.qw_types.specs.declared.value.Val.TheVariants as val
use Rattle.qw_types.proofs.KindLemmas.{day_number, typed_of_kind}
use Rattle.qw_map.proofs.TurnFacts.{slice_get-set_same, slice_get-set_other}
use Rattle.qw_map.specs.Columns.{values_size}
use Rattle.qw_map.specs.Layout.{is_text}
use Rattle.qw_module.specs.declared.instruction.ValType.{ValType}
use Rattle.qw_module.specs.declared.instruction.ValType.TheVariants.{I32}
use Rattle.qw_low.specs.State.{Column, Value, Number, Address, LowState}
use Rattle.qw_low.specs.Meaning.{meaning}
use Rattle.qw_low.specs.Typing.{HasType, IsTyped}
use Rattle.qw_low.specs.Size.{size}
use Rattle.qw_low.specs.Begin.{null_flag}
use Rattle.qw_low.specs.Held.{HoldsNumber, HoldsText, SaysNull, SaysValue}
use Rattle.qw_low.specs.Promise.{Ends}
use Rattle.qw_low.specs.Raising.{Kept}
use Rattle.qw_low.proofs.Promises.{Ends-weaker, Ends-then}
use Rattle.qw_low.proofs.Results.{Kept-same, Kept-set, Kept-then}
use Rattle.qw_wide.proofs.Words.{word, word_below, word_back, word_of, small, below_fits}
use Rattle.qw_wide.proofs.ArithmeticRuns.{power_small}
use Rattle.qw_expr.specs.Cells.{HoldsValue, IsWithin, Holds, DeclaresKind, DeclaresNull, DeclaresValue}
use Rattle.qw_read.specs.declared.reader.Reader.{Reader}
use Rattle.qw_read.specs.Reading.{most_of, operand_of, HasNullWord, HasOctets, octets_of, place_of, StandsAt, IsAtRow, AreBases, IsCellIn, HasBases, HasEnd, DeclaresBases, Reads}
use Rattle.qw_read.specs.Inner.Blocks.{word_at, row_at, value_block, null_block, read_block}
use Rattle.qw_read.proofs.Addresses.{put}
use Rattle.qw_read.proofs.BasesRuns.{Never, NoCode}
use Rattle.qw_read.proofs.ValueRuns.{NullWord, null_put, Nulled, null_ends, word_ends, double_ends, many_measured, measured_is, text_ends}

-- ---- the numbers of types
integer_small : (z : ℤ) → negsuc 2147483647 ≤ℤ z → z ≤ℤ pos 2147483647 → unsigned_abs z ≤ 2 ^ 31
integer_small z low high = omega (arith, ints)

decimal_small : (z : ℤ) (precision : ℕ) → precision ≤ 18 → unsigned_abs z < 10 ^ precision → unsigned_abs z < 10 ^ 18
decimal_small z precision short below = omega (arith, power_small precision short, below)

date_small : (z : ℤ) → IsDateNumber z → unsigned_abs z < 2 ^ 63
date_small z is = omega (arith, ints, is.0, is.1)

within_most : (type : Ty) (b : Bool) (v : Val) → IsSized type → IsOfTypeOrNull type b v → IsWithin (most_of type) v
within_most type b val.Null sized is = tt
within_most ty.Integer b (val.Num z) sized is = integer_small z is.0 is.1
within_most (ty.Decimal precision scale) b (val.Num z) sized is = omega (arith, is)
within_most ty.Date b (val.Num z) sized is = absurd is
within_most (ty.Varchar limit) b (val.Num z) sized is = absurd is
within_most type b (val.Date d) sized is = tt
within_most type b (val.Text octets) sized is = tt

-- ---- null words
null_says : (s : LowState) (null : Option ℕ) → NullWord s null 1 → SaysNull s null
null_says s None is = absurd (omega (arith, is))
null_says s (Some x) is = is

value_says : (s : LowState) (null : Option ℕ) → NullWord s null 0 → SaysValue s null
value_says s None is = tt
value_says s (Some x) is = is

-- ---- what stands in the place of the value
module _ (pages fuel n rows row : ℕ) (r : Reader) (b : Bool) (t : LowState) (bases : HasBases rows r t) (at_row : IsAtRow n rows row r t)
    (below : AreBases 0 n r) (mine : IsCellIn n (length t.locals) r) where
  abbrev Valued : Val → LowState → Type 0
  Valued v u = Kept n t u × HoldsValue r.cell v u

  null_apart : (x : ℕ) → r.cell.null ≡ Some x → x ≢ r.cell.value
  null_apart x is = (mine.null x is).2

  set_kept : (v : Value) → Kept n t (put t r.cell.value v)
  set_kept v = Kept-set n t t r.cell.value v (Kept-same n t) mine.value.0

  nulled : (v : Value) → NullWord t r.cell.null 1 → Valued val.Null (put t r.cell.value v)
  nulled v null = (set_kept v, null_says (put t r.cell.value v) r.cell.null (null_put t r.cell.null 1 r.cell.value v null_apart null))

  set_says : (v : Value) → NullWord t r.cell.null 0 → SaysValue (put t r.cell.value v) r.cell.null
  set_says v null = value_says (put t r.cell.value v) r.cell.null (null_put t r.cell.null 0 r.cell.value v null_apart null)

  set_holds : (z : ℤ) → FitsSigned w64 z → HoldsNumber (put t r.cell.value (Number (word z))) r.cell.value z
  set_holds z fit = (word z, slice_get-set_same t.locals r.cell.value (Number (word z)) mine.value.1, word_below z fit, word_back z fit)

  numbered : (z : ℤ) → unsigned_abs z < 10 ^ 18 → NullWord t r.cell.null 0 → Valued (val.Num z) (put t r.cell.value (Number (word z)))
  numbered z less null = (set_kept (Number (word z)), (set_holds z (small z (omega (arith, less))), below_fits z less, set_says (Number (word z)) null))

  dated : (d : ℤ) → IsDateNumber d → NullWord t r.cell.null 0 → Valued (val.Date d) (put t r.cell.value (Number (word d)))
  dated d is null = (set_kept (Number (word d)), (set_holds d (small d (date_small d is)), set_says (Number (word d)) null))

  -- where the values of a type end
  ending : (type : Ty) → r.ty ≡ type → slice_get t.locals r.values ≡ Some (Address (Column (3 * r.index)) (place_of type rows))
  ending type is = bases.values ∙ ap (λ (type' : Ty). Some (Address (Column (3 * r.index)) (place_of type' rows))) is

  abbrev Comes : Ty → Val → Type 0
  Comes type v = Ends (size (value_block type r)) (Valued v) Never NoCode (meaning pages fuel (value_block type r) t)

  module _ (v : Val) where
    -- a text, which is empty in the place of a null
    text_comes : (limit : ℕ) (octets : List ℕ) → r.ty ≡ ty.Varchar limit → StandsAt t.cells t.columns r.index (ty.Varchar limit) b row v → octets ≡ octets_of v →
        (from : ℕ) → t.cells (Column (3 * r.index)) (4 * row) 4 ≡ Some (Number from) → t.cells (Column (3 * r.index)) (4 * (row + 1)) 4 ≡ Some (Number (from + length octets)) →
        ((i octet : ℕ) → slice_get octets i ≡ Some octet → t.cells (Column (3 * r.index + 1)) (from + i) 1 ≡ Some (Number octet)) →
        ((u : LowState) → Kept n t u → HoldsText u r.cell.value r.cell.length octets → NullWord u r.cell.null (null_flag v) → Valued v u) → NullWord t r.cell.null (null_flag v) → Comes (ty.Varchar limit) v
    text_comes limit octets type_is stands same from first next each post null =
        let text : is_text r.ty ≡ true = ap is_text type_is in
        let part : ℕ = 3 * r.index in
        let long : ℕ = length octets in
        let inside : HasOctets t.columns (part + 1) (from + long) = subst (λ (xs : List ℕ). HasOctets t.columns (part + 1) (from + length xs)) (sym same) (stands.octets refl from first) in
        let low = below.octets text in
        let high = mine.text text in
        let other_values : r.values ≢ r.cell.value = λ e. omega (arith, e, below.values.1, mine.value.0) in
        let other_left : r.left ≢ r.cell.value = λ e. omega (arith, e, at_row.left.0, mine.value.0) in
        let other_octets : r.octets ≢ r.cell.value = λ e. omega (arith, e, low.1, mine.value.0) in
        let octets_apart : r.octets ≢ r.cell.length = λ e. omega (arith, e, low.1, high.0) in
        let ends = ending (ty.Varchar limit) type_is in
        let base : slice_get t.locals r.octets ≡ Some (Address (Column (part + 1)) 0) = bases.octets text in
        let a : LowState = put t r.cell.value (Number from) in
        let c : LowState = put a r.cell.length (Number (from + long)) in
        let d : LowState = put c r.cell.length (Number long) in
        let u : LowState = put d r.cell.value (Address (Column (part + 1)) from) in
        let null_long : (x : ℕ) → r.cell.null ≡ Some x → x ≢ r.cell.length = λ x is. (mine.null x is).3 text in
        let kept : Kept n t u =
        Kept-set n t d r.cell.value (Address (Column (part + 1)) from) (Kept-set n t c r.cell.length (Number long) (Kept-set n t a r.cell.length (Number (from + long)) (set_kept (Number from)) high.0) high.0) mine.value.0 in
        let word_null : NullWord u r.cell.null (null_flag v) =
        null_put d r.cell.null (null_flag v) r.cell.value (Address (Column (part + 1)) from) null_apart
        (null_put c r.cell.null (null_flag v) r.cell.length (Number long) null_long
        (null_put a r.cell.null (null_flag v) r.cell.length (Number (from + long)) null_long (null_put t r.cell.null (null_flag v) r.cell.value (Number from) null_apart null))) in
        let many : length d.locals ≡ length t.locals =
        many_measured (Valued v) pages fuel rows row part r t at_row.within at_row.left.1 mine.value.1 (part + 1) from long ends first next inside base other_values other_left other_octets octets_apart high.1 mine.long in
        let measured : slice_get d.locals r.cell.length ≡ Some (Number long) =
        measured_is (Valued v) pages fuel rows row part r t at_row.within at_row.left.1 mine.value.1 (part + 1) from long ends first next inside base other_values other_left other_octets octets_apart high.1 mine.long in
        text_ends (Valued v) pages fuel rows row part r t at_row.within at_row.left.1 mine.value.1 (part + 1) from long ends first next inside base other_values other_left other_octets octets_apart high.1 mine.long
        (post u kept
        (record {
          part = Column (part + 1);
          offset = from;
          is_at = slice_get-set_same d.locals r.cell.value (Address (Column (part + 1)) from) (omega (arith, many, mine.value.1));
          is_long = slice_get-set_other d.locals r.cell.value r.cell.length (Address (Column (part + 1)) from) high.1 ∙ measured;
          short = omega (arith, inside.2, inside.3);
          lies = record { size = inside.0; sized = inside.1; inside = inside.2; each = each };
        })
        word_null)

  pub value_ends : (type : Ty) (v : Val) → r.ty ≡ type → IsSized type → StandsAt t.cells t.columns r.index type b row v → NullWord t r.cell.null (null_flag v) → Comes type v
  value_ends ty.Integer val.Null is sized stands null =
      let known = stands.value in
      word_ends (Valued val.Null) pages fuel rows row (3 * r.index) r t at_row.within at_row.left.1 mine.value.1 known.0 (pos 0) (ending ty.Integer is) known.1 known.2 (nulled (Number (word (pos 0))) null)
  value_ends ty.Integer (val.Num z) is sized stands null =
      let known = stands.value in
      let typed = stands.typed in
      word_ends (Valued (val.Num z)) pages fuel rows row (3 * r.index) r t at_row.within at_row.left.1 mine.value.1 known.0 z (ending ty.Integer is) known.1 known.2
      (numbered z (omega (arith, integer_small z typed.0 typed.1)) null)
  value_ends ty.Integer (val.Date d) is sized stands null = absurd (stands.value)
  value_ends ty.Integer (val.Text octets) is sized stands null = absurd (stands.value)
  value_ends (ty.Decimal precision scale) val.Null is sized stands null =
      let known = stands.value in
      double_ends (Valued val.Null) pages fuel rows row (3 * r.index) r t at_row.within at_row.left.1 mine.value.1 known.0 (ending (ty.Decimal precision scale) is) known.1 (nulled (Number known.0) null)
  value_ends (ty.Decimal precision scale) (val.Num z) is sized stands null =
      let known = stands.value in
      let less : unsigned_abs z < 10 ^ 18 = decimal_small z precision sized.1 stands.typed in
      double_ends (Valued (val.Num z)) pages fuel rows row (3 * r.index) r t at_row.within at_row.left.1 mine.value.1 known.0 (ending (ty.Decimal precision scale) is) known.1
      (subst (λ (x : ℕ). Valued (val.Num z) (put t r.cell.value (Number x))) (sym (word_of known.0 z (stands.words known.0 known.1) known.2)) (numbered z less null))
  value_ends (ty.Decimal precision scale) (val.Date d) is sized stands null = absurd (stands.value)
  value_ends (ty.Decimal precision scale) (val.Text octets) is sized stands null = absurd (stands.value)
  value_ends ty.Date val.Null is sized stands null =
      let known = stands.value in
      word_ends (Valued val.Null) pages fuel rows row (3 * r.index) r t at_row.within at_row.left.1 mine.value.1 known.0 (pos 0) (ending ty.Date is) known.1 known.2 (nulled (Number (word (pos 0))) null)
  value_ends ty.Date (val.Date d) is sized stands null =
      let known = stands.value in
      word_ends (Valued (val.Date d)) pages fuel rows row (3 * r.index) r t at_row.within at_row.left.1 mine.value.1 known.0 d (ending ty.Date is) known.1 known.2
      (dated d (day_number d (typed_of_kind ty.Date (val.Date d) sized stands.typed)) null)
  value_ends ty.Date (val.Num z) is sized stands null = absurd (stands.value)
  value_ends ty.Date (val.Text octets) is sized stands null = absurd (stands.value)
  value_ends (ty.Varchar limit) val.Null is sized stands null =
      let known = stands.value in
      text_comes val.Null limit [] is stands refl known.0 known.1 known.2 known.3 (λ u kept held word_null. (kept, null_says u r.cell.null word_null)) null
  value_ends (ty.Varchar limit) (val.Text octets) is sized stands null =
      let known = stands.value in
      text_comes (val.Text octets) limit octets is stands refl known.0 known.1 known.2 known.3 (λ u kept held word_null. (kept, (held, value_says u r.cell.null word_null))) null
  value_ends (ty.Varchar limit) (val.Num z) is sized stands null = absurd (stands.value)
  value_ends (ty.Varchar limit) (val.Date d) is sized stands null = absurd (stands.value)

-- ---- both
pub bases_kept : (n rows : ℕ) (r : Reader) (s t : LowState) → AreBases 0 n r → Kept n s t → HasBases rows r s → HasBases rows r t
bases_kept n rows r s t below kept has = record {
  values = kept.below r.values below.values.1 ∙ has.values;
  octets = λ is. kept.below r.octets (below.octets is).1 ∙ has.octets is;
  nulls = λ is. kept.below r.nulls (below.nulls is).1 ∙ has.nulls is;
}

pub end_kept : (n next rows : ℕ) (r : Reader) (s t : LowState) → n ≤ next → Kept n s t → HasEnd n rows r s → HasEnd next rows r t
end_kept n next rows r s t after kept has = (omega (arith, has.0, after), kept.below r.end has.0 ∙ has.1)

pub row_kept : (n next rows row : ℕ) (r : Reader) (s t : LowState) → n ≤ next → Kept n s t → IsAtRow n rows row r s → IsAtRow next rows row r t
row_kept n next rows row r s t after kept at_row = record {
  within = at_row.within;
  end = end_kept n next rows r s t after kept at_row.end;
  left = (omega (arith, at_row.left.0, after), kept.below r.left at_row.left.0 ∙ at_row.left.1);
}

-- a row lies within 32 bits, since its value does within its part
pub row_small : (type : Ty) (row count : ℕ) → values_size type (row + 1) ≤ count → count < 2 ^ 32 → 4 * row < 2 ^ 32
row_small ty.Integer row count within short = omega (arith, within, short)
row_small (ty.Decimal precision scale) row count within short = omega (arith, within, short)
row_small ty.Date row count within short = omega (arith, within, short)
row_small (ty.Varchar limit) row count within short = omega (arith, within, short)

pub read_ends : (pages fuel n rows row : ℕ) (r : Reader) (v : Val) (s : LowState) → HasNullWord r.not_null r.cell.null → StandsAt s.cells s.columns r.index r.ty r.not_null row v → IsSized r.ty →
    HasBases rows r s → IsAtRow n rows row r s → AreBases 0 n r → IsCellIn n (length s.locals) r →
    Ends (size (read_block r)) (λ t. Kept n s t × Holds (operand_of r) v t) Never NoCode (meaning pages fuel (read_block r) s)
read_ends pages fuel n rows row r v s word_there stands sized bases at_row below mine =
    let first : ℕ = size (null_block r.cell.null r) in
    let second : ℕ = size (value_block r.ty r) in
    let room = stands.values in
    let few : 4 * row < 2 ^ 32 = row_small r.ty row room.0 room.2 room.3 in
    Ends-then (λ t. Kept n s t × Holds (operand_of r) v t) Never NoCode first second (Nulled pages fuel n rows row r s at_row few r.cell.null v) (meaning pages fuel (null_block r.cell.null r) s) (meaning pages fuel (value_block r.ty r))
    (null_ends pages fuel n rows row r s at_row few r.ty r.not_null r.cell.null r.index v word_there stands.null stands.typed bases.nulls stands.nulls
    (λ x is. let own = mine.null x is in (own.0, own.1)))
    (λ t now.
    let kept = now.0 in
    let mine_now : IsCellIn n (length t.locals) r = subst (λ (k : ℕ). IsCellIn n k r) (sym kept.many) mine in
    let stands_now : StandsAt t.cells t.columns r.index r.ty r.not_null row v = subst (λ (u : LowState). StandsAt u.cells u.columns r.index r.ty r.not_null row v) (sym kept.others) stands in
    let bases_now : HasBases rows r t = bases_kept n rows r s t below kept bases in
    let row_now : IsAtRow n rows row r t = row_kept n n rows row r s t (omega arith) kept at_row in
    Ends-weaker second second (Valued pages fuel n rows row r r.not_null t bases_now row_now below mine_now v) (λ u. Kept n s u × Holds (operand_of r) v u) Never Never NoCode NoCode
    (meaning pages fuel (value_block r.ty r) t) (omega arith)
    (λ u post. (Kept-then n n s t u (omega arith) kept post.0, (post.1, within_most r.ty r.not_null v sized stands.typed))) (λ u x. x) (λ code x. x)
    (value_ends pages fuel n rows row r r.not_null t bases_now row_now below mine_now r.ty v refl sized stands_now now.1))

-- ---- types and size
null_typed : (types : List ValType) (r : Reader) (b : Bool) (null : Option ℕ) → HasNullWord b null → (b ≡ false → slice_get types r.nulls ≡ Some I32) → slice_get types r.left ≡ Some I32 → slice_get types r.end ≡ Some I32 →
    DeclaresNull types null → IsTyped types (null_block null r)
null_typed types r b None has declared left end is = tt
null_typed types r true (Some x) has declared left end is = absurd cc
null_typed types r false (Some x) has declared left end is =
    let row : HasType types (row_at r) I32 = (end, left, refl) in (
      (is, (declared refl, (row, (omega arith, refl), refl), refl)),
      (I32, is, ((is, ((row, (omega arith, refl), refl), (omega arith, refl), refl), refl), (omega arith, refl), refl)),
    )

-- the locals of a cell are declared by its type
word_typed : (types : List ValType) (r : Reader) → slice_get types r.values ≡ Some I32 → slice_get types r.left ≡ Some I32 → HasType types (word_at r) I32
word_typed types r values left = (values, left, refl)

value_typed : (types : List ValType) (r : Reader) (type : Ty) → r.ty ≡ type → DeclaresBases types r → slice_get types r.left ≡ Some I32 → DeclaresKind types r.cell (Some (type_kind type)) →
    IsTyped types (value_block type r)
value_typed types r ty.Integer same declared left is = (is, word_typed types r declared.values left)
value_typed types r (ty.Decimal precision scale) same declared left is = (is, (word_typed types r declared.values left, left, refl))
value_typed types r ty.Date same declared left is = (is, word_typed types r declared.values left)
value_typed types r (ty.Varchar limit) same declared left is = (
  (is.0, word_typed types r declared.values left),
  (
    (is.1, word_typed types r declared.values left),
    ((I32, is.1, (is.1, is.0, refl)), (I32, is.0, (declared.octets (ap is_text same), is.0, refl))),
  ),
)

value_short : (type : Ty) (r : Reader) → size (value_block type r) ≤ 18
value_short ty.Integer r = omega arith
value_short (ty.Decimal precision scale) r = omega arith
value_short ty.Date r = omega arith
value_short (ty.Varchar limit) r = omega arith

null_short : (null : Option ℕ) (r : Reader) → size (null_block null r) ≤ 21
null_short None r = omega arith
null_short (Some x) r = omega arith

pub read_typed : (types : List ValType) (r : Reader) → HasNullWord r.not_null r.cell.null → slice_get types r.left ≡ Some I32 → slice_get types r.end ≡ Some I32 → DeclaresBases types r → DeclaresValue types (operand_of r) →
    IsTyped types (read_block r)
read_typed types r has left end declared is = (
  null_typed types r r.not_null r.cell.null has declared.nulls left end is.1,
  value_typed types r r.ty refl declared left is.0,
)

pub read_reads : (r : Reader) → HasNullWord r.not_null r.cell.null → Reads r (read_block r)
read_reads r has = record {
  runs = λ pages fuel n rows row v s stands sized bases at_row below mine. read_ends pages fuel n rows row r v s has stands sized bases at_row below mine;
  typed = λ types left end declared is. read_typed types r has left end declared is;
  short = omega (arith, null_short r.cell.null r, value_short r.ty r);
}
