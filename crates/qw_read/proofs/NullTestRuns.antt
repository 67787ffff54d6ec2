-- What the block comes to that tests whether one of some columns is null at a row, and how a column stands there that isn't.
use Rattle.std.proofs.Common.{◌≡◌, ℕ, suc, ◌+◌, ◌-◌, ◌*◌, ◌/◌, ◌%◌, ◌^◌, ◌<◌, ◌≤◌, ◌||◌, ◌==◌, Bool, true, false, not, max, List, [], ◌∷◌, ◌++◌, length, Option, Some, slice_get, length-set, length-append, bit_and, bit_or, refl, sym, ap, ◌∙◌, subst, arith}
use Rattle.std.specs.List.{AllByRecursion}
use lib.Bits.{or_step, or_shr}
use Rattle.qw_types.specs.Value.{IsOfTypeOrNull}
use Rattle.qw_types.specs.declared.value.Ty.{Ty}
use Rattle.qw_types.specs.declared.value.Val.{Val}
use Rattle.qw_types.specs.declared.value.Val.TheVariants as val
use Rattle.qw_map.proofs.TurnFacts.{slice_get-set_same, slice_get-set_other}
use Rattle.qw_scalar.specs.Evaluation.{cell_of}
use Rattle.qw_module.specs.Numbers.{truth}
use Rattle.qw_module.specs.declared.instruction.ValType.{ValType}
use Rattle.qw_module.specs.declared.instruction.ValType.TheVariants.{I32}
use Rattle.qw_module.specs.declared.instruction.Sign.TheVariants.{Unsigned}
use Rattle.qw_module.specs.declared.instruction.Binary.TheVariants.{And, Or, Shr}
use Rattle.qw_module.specs.declared.instruction.Op.TheVariants as o
use Rattle.qw_module.specs.declared.instruction.Load.TheVariants.{From8}
use Rattle.qw_low.specs.declared.step.LowStep.TheVariants as step
use Rattle.qw_low.specs.Syntax.{local, binop, advance, Statement, seq, assign}
use Rattle.qw_low.specs.State.{Column, Number, Address, LowState}
use Rattle.qw_low.specs.Begin.{KnowsNull, null_flag}
use Rattle.qw_low.specs.Meaning.{value, meaning}
use Rattle.qw_low.specs.Promise.{Ends}
use Rattle.qw_low.specs.Raising.{Kept}
use Rattle.qw_low.specs.Size.{size}
use Rattle.qw_low.specs.Steps.{expression_steps, steps_of}
use Rattle.qw_low.specs.Typing.{HasType, IsTyped}
use Rattle.qw_low.proofs.BlockSteps.{assign_then, load_then}
use Rattle.qw_low.proofs.Promises.{Ends-weaker}
use Rattle.qw_low.proofs.Results.{Kept-same, Kept-set, Kept-then}
use Rattle.qw_expr.specs.Cells.{Declares}
use Rattle.qw_read.specs.declared.reader.Reader.{Reader}
use Rattle.qw_read.specs.NullTests.{IsTestable, TestsNulls, any_null, is_null_at, is_null_value, octet_types, sure_reader, test_types}
use Rattle.qw_read.specs.Reading.{DeclaresBases, HasOctets, IsThere}
use Rattle.qw_read.specs.Inner.Blocks.{i32, row_at}
use Rattle.qw_read.specs.Inner.NullBlocks.{bit_at, joined, octets_block, test_block, test_out}
use Rattle.qw_read.proofs.Addresses.{put, advanced_to}
use Rattle.qw_read.proofs.BasesRuns.{Never, NoCode}
use Rattle.qw_read.proofs.ReadRuns.{row_small}
use Rattle.qw_read.proofs.ValueRuns.{bit_of, row_is}

-- ---- a column that isn't null
sure_typed : (type : Ty) (b : Bool) (v : Val) → is_null_value v ≡ false → IsOfTypeOrNull type b v → IsOfTypeOrNull type true v
sure_typed type b val.Null some is = absurd cc
sure_typed type b (val.Num n) some is = is
sure_typed type b (val.Date n) some is = is
sure_typed type b (val.Text octets) some is = is

-- it stands as one that can't be null
pub sure_there : (n rows : ℕ) (values : List Val) (s : LowState) (r : Reader) → is_null_at values r ≡ false → IsThere n rows values s r → IsThere n rows values s (sure_reader r)
sure_there n rows values s r some h =
    let same : is_null_value h.v ≡ false = ap (λ (v : Option Val). is_null_value (cell_of v)) (sym h.value_is) ∙ some in
    record {
      row = h.row;
      v = h.v;
      value_is = h.value_is;
      stands = record {
        value = h.stands.value;
        null = tt;
        typed = sure_typed r.ty r.not_null h.v same h.stands.typed;
        values = h.stands.values;
        nulls = λ is. absurd cc;
        octets = h.stands.octets;
        words = h.stands.words;
      };
      sized = h.sized;
      bases = record { values = h.bases.values; octets = h.bases.octets; nulls = λ is. absurd cc };
      at_row = record { within = h.at_row.within; end = h.at_row.end; left = h.at_row.left };
      bases_below = record { values = h.bases_below.values; octets = h.bases_below.octets; nulls = λ is. absurd cc };
    }

-- ---- bits
flag_is : (v : Val) → null_flag v ≡ truth (is_null_value v)
flag_is val.Null = refl
flag_is (val.Num n) = refl
flag_is (val.Date n) = refl
flag_is (val.Text octets) = refl

low_or : (x y : ℕ) → bit_or x y % 2 ≡ max (x % 2) (y % 2)
low_or x y = omega (arith, or_step x y)

digit_or : (a b k : ℕ) → bit_or a b / 2 ^ k % 2 ≡ max (a / 2 ^ k % 2) (b / 2 ^ k % 2)
digit_or a b k = ap (λ (x : ℕ). x % 2) (or_shr a b k) ∙ low_or (a / 2 ^ k) (b / 2 ^ k)

truth_or : (a b : Bool) → max (truth b) (truth a) ≡ truth (a || b)
truth_or true true = refl
truth_or true false = refl
truth_or false true = refl
truth_or false false = refl

one_alone : (b : Bool) → truth b ≡ truth (b || false)
one_alone true = refl
one_alone false = refl

truth_not : (b : Bool) → truth (truth b == 0) ≡ truth (not b)
truth_not true = refl
truth_not false = refl

-- ---- the octets with the bits of a row
-- a column's null octets stand, from a local below `n`
pub record HasBit (n row : ℕ) (values : List Val) (s : LowState) (r : Reader) : Type 0 where
  pub octet : ℕ
  pub known : s.cells (Column (3 * r.index + 2)) (row / 8) 1 ≡ Some (Number octet)
  pub flag : octet / 2 ^ (row % 8) % 2 ≡ truth (is_null_at values r)
  pub room : HasOctets s.columns (3 * r.index + 2) (row / 8 + 1)
  pub low : r.nulls < n
  pub base : slice_get s.locals r.nulls ≡ Some (Address (Column (3 * r.index + 2)) 0)

-- these are in locals that follow one another
abbrev pub AreOctets : LowState → (to row : ℕ) → List Val → List Reader → Type 0
AreOctets u to row values [] = Unit {0}
AreOctets u to row values (r ∷ readers) =
    (octet : ℕ) × (slice_get u.locals to ≡ Some (Number octet)) × (octet / 2 ^ (row % 8) % 2 ≡ truth (is_null_at values r)) × AreOctets u (to + 1) row values readers

bits_kept : (n m row : ℕ) (values : List Val) (s t : LowState) (readers : List Reader) → n ≤ m → Kept m s t → AllByRecursion (HasBit n row values s) readers → AllByRecursion (HasBit n row values t) readers
bits_kept n m row values s t [] le kept all = tt
bits_kept n m row values s t (r ∷ readers) le kept all =
    let one = all.0 in
    let less = one.low in (
      record {
        octet = one.octet;
        known = ap (λ (u : LowState). u.cells (Column (3 * r.index + 2)) (row / 8) 1) kept.others ∙ one.known;
        flag = one.flag;
        room = subst (λ (u : LowState). HasOctets u.columns (3 * r.index + 2) (row / 8 + 1)) (sym kept.others) one.room;
        low = less;
        base = kept.below r.nulls (omega (arith, less, le)) ∙ one.base;
      },
      bits_kept n m row values s t readers le kept all.1,
    )

module _ (pages fuel n row index : ℕ) (values : List Val) (index_low : n ≤ index) where
  abbrev Octets : (to : ℕ) → List Reader → LowState → LowState → Type 0
  Octets to readers s t = Kept to s t × AreOctets t to row values readers

  octets_end : (readers : List Reader) (to : ℕ) (s : LowState) → index < to → to + length readers ≤ length s.locals → slice_get s.locals index ≡ Some (Number (row / 8)) → AllByRecursion (HasBit n row values s) readers →
      Ends (size (octets_block index to readers)) (Octets to readers s) Never NoCode (meaning pages fuel (octets_block index to readers) s)
  octets_end [] to s above room at bits = (omega arith, (Kept-same to s, tt))
  octets_end (r ∷ readers) to s above room at bits =
      let one = bits.0 in
      let part = one.room in
      let low = one.low in
      let here : to < length s.locals = omega (arith, room) in
      let t : LowState = put s to (Number one.octet) in
      let many : length t.locals ≡ length s.locals = length-set s.locals to (Number one.octet) in
      let kept : Kept to s t = Kept-set to s s to (Number one.octet) (Kept-same to s) (omega arith) in
      load_then (Octets to (r ∷ readers) s) Never NoCode pages fuel s (size (octets_block index (to + 1) readers)) (octets_block index (to + 1) readers) to (From8 I32 Unsigned) 0 (advance (local r.nulls) (local index))
      (Column (3 * r.index + 2)) (row / 8) (row / 8) (Number one.octet) (Number one.octet)
      (rw (one.base, at) (advanced_to s (Column (3 * r.index + 2)) 0 (row / 8) (row / 8) part.0 part.1 (omega arith) (omega (arith, part.2))))
      (omega arith) one.known refl here
      (Ends-weaker (size (octets_block index (to + 1) readers)) (size (octets_block index (to + 1) readers)) (Octets (to + 1) readers t) (Octets to (r ∷ readers) s) Never Never NoCode NoCode
      (meaning pages fuel (octets_block index (to + 1) readers) t) (omega arith)
      (λ u rest. (
        Kept-then to (to + 1) s t u (omega arith) kept rest.0,
        (one.octet, rest.0.below to (omega arith) ∙ slice_get-set_same s.locals to (Number one.octet) here, one.flag, rest.1),
      )) (λ u x. x) (λ code x. x)
      (octets_end readers (to + 1) t (omega (arith, above)) (omega (arith, many, room)) (slice_get-set_other s.locals to index (Number one.octet) (λ same. omega (arith, same, above)) ∙ at)
      (bits_kept n to row values s t readers (omega (arith, index_low, above)) kept bits.1)))

-- they are joined
joined_is : (u : LowState) (row : ℕ) (values : List Val) (rest : List Reader) (r : Reader) (to : ℕ) → AreOctets u to row values (r ∷ rest) →
    (x : ℕ) × (value u (joined to rest) ≡ Some (Number x)) × (x / 2 ^ (row % 8) % 2 ≡ truth (any_null values (r ∷ rest)))
joined_is u row values [] r to are = (are.0, are.1, are.2 ∙ one_alone (is_null_at values r))
joined_is u row values (q ∷ rest) r to are =
    let more = joined_is u row values rest q (to + 1) are.3 in (
      bit_or more.0 are.0,
      rw (more.1, are.1) refl,
      digit_or more.0 are.0 (row % 8) ∙ (ap (λ (b : ℕ). max b (are.0 / 2 ^ (row % 8) % 2)) more.2 ∙ (ap (λ (a : ℕ). max (truth (any_null values (q ∷ rest))) a) are.2 ∙ truth_or (is_null_at values r) (any_null values (q ∷ rest)))),
    )

out_is : (u : LowState) (row free : ℕ) (values : List Val) (rest : List Reader) (r : Reader) → slice_get u.locals free ≡ Some (Number (4 * row)) → AreOctets u (free + 2) row values (r ∷ rest) →
    value u (test_out rest free) ≡ Some (Number (truth (not (any_null values (r ∷ rest)))))
out_is u row free values rest r at are =
    let x = joined_is u row values rest r (free + 2) are in
    let bit : bit_and (x.0 / 2 ^ (bit_and (4 * row / 2 ^ (2 % 32)) 7 % 32)) 1 ≡ truth (any_null values (r ∷ rest)) = bit_of x.0 row ∙ x.2 in
    rw (x.1, at) (ap (λ (k : ℕ). Some (Number (truth (k == 0)))) bit ∙ ap (λ (k : ℕ). Some (Number k)) (truth_not (any_null values (r ∷ rest))))

-- ---- rows that the same locals say
module _ (n rows : ℕ) (values : List Val) (s : LowState) (first : Reader) (there : IsThere n rows values s first) where
  same_row : (r : Reader) → r.left ≡ first.left → (h : IsThere n rows values s r) → h.row ≡ there.row
  same_row r left h =
      let one : slice_get s.locals first.left ≡ Some (Number (4 * (rows - h.row))) = ap (λ (x : ℕ). slice_get s.locals x) (sym left) ∙ h.at_row.left.1 in
      let both : Some (Number (4 * (rows - h.row))) ≡ Some (Number (4 * (rows - there.row))) = sym one ∙ there.at_row.left.1 in
      let counts : 4 * (rows - h.row) ≡ 4 * (rows - there.row) = cc in
      let low = h.at_row.within in
      let within = there.at_row.within in
      omega (arith, counts, low, within)

  null_known : (r : Reader) (b : Bool) (v : Val) (row : ℕ) → b ≡ false → KnowsNull s.cells r.index row b v →
      (octet : ℕ) × (s.cells (Column (3 * r.index + 2)) (row / 8) 1 ≡ Some (Number octet)) × (octet / 2 ^ (row % 8) % 2 ≡ null_flag v)
  null_known r true v row is knows = absurd cc
  null_known r false v row is knows = knows

  has_bit : (r : Reader) → r.not_null ≡ false → r.left ≡ first.left → IsThere n rows values s r → HasBit n there.row values s r
  has_bit r nullable left h =
      let same = same_row r left h in
      let knows = null_known r r.not_null h.v h.row nullable h.stands.null in
      let flag : knows.0 / 2 ^ (h.row % 8) % 2 ≡ truth (is_null_at values r) = knows.2 ∙ (flag_is h.v ∙ ap (λ (v : Option Val). truth (is_null_value (cell_of v))) (sym h.value_is)) in
      record {
        octet = knows.0;
        known = subst (λ (k : ℕ). s.cells (Column (3 * r.index + 2)) (k / 8) 1 ≡ Some (Number knows.0)) same knows.1;
        flag = subst (λ (k : ℕ). knows.0 / 2 ^ (k % 8) % 2 ≡ truth (is_null_at values r)) same flag;
        room = subst (λ (k : ℕ). HasOctets s.columns (3 * r.index + 2) (k / 8 + 1)) same (h.stands.nulls nullable);
        low = let low = h.bases_below.nulls nullable in low.1;
        base = h.bases.nulls nullable;
      }

  all_bits : (readers : List Reader) → AllByRecursion (IsTestable first.left first.end) readers → AllByRecursion (IsThere n rows values s) readers → AllByRecursion (HasBit n there.row values s) readers
  all_bits [] testable all = tt
  all_bits (r ∷ readers) testable all = (has_bit r testable.0.nullable testable.0.left_is all.0, all_bits readers testable.1 all.1)

-- ---- the test
pub test_ends : (pages fuel rows free : ℕ) (values : List Val) (first : Reader) (rest : List Reader) (s : LowState) → first.not_null ≡ false → AllByRecursion (IsTestable first.left first.end) rest →
    AllByRecursion (IsThere free rows values s) (first ∷ rest) → free + 2 + length (first ∷ rest) ≤ length s.locals →
    Ends (size (test_block first rest free)) (λ t. Kept free s t × (value t (test_out rest free) ≡ Some (Number (truth (not (any_null values (first ∷ rest))))))) Never NoCode (meaning pages fuel (test_block first rest free) s)
test_ends pages fuel rows free values first rest s nullable testable all room =
    let there = all.0 in
    let row : ℕ = there.row in
    let readers : List Reader = first ∷ rest in
    let in_part = there.stands.values in
    let few : 4 * row < 2 ^ 32 = row_small first.ty row in_part.0 in_part.2 in_part.3 in
    let P : LowState → Type 0 = λ t. Kept free s t × (value t (test_out rest free) ≡ Some (Number (truth (not (any_null values readers))))) in
    let octets : Statement = octets_block (free + 1) (free + 2) readers in
    let find : Statement = seq (assign (free + 1) (binop I32 (Shr Unsigned) (local free) (i32 5))) octets in
    let t : LowState = put s free (Number (4 * row)) in
    let u : LowState = put t (free + 1) (Number (row / 8)) in
    let many_t : length t.locals ≡ length s.locals = length-set s.locals free (Number (4 * row)) in
    let many_u : length u.locals ≡ length t.locals = length-set t.locals (free + 1) (Number (row / 8)) in
    let place : 4 * row / 2 ^ (5 % 32) ≡ row / 8 = omega arith in
    let free_in : free < length s.locals = omega (arith, room) in
    let next_in : free + 1 < length t.locals = omega (arith, room, many_t) in
    let kept_t : Kept free s t = Kept-set free s s free (Number (4 * row)) (Kept-same free s) (omega arith) in
    let kept_u : Kept free s u = Kept-set free s t (free + 1) (Number (row / 8)) kept_t (omega arith) in
    let row_t : slice_get t.locals free ≡ Some (Number (4 * row)) = slice_get-set_same s.locals free (Number (4 * row)) free_in in
    let row_u : slice_get u.locals free ≡ Some (Number (4 * row)) = slice_get-set_other t.locals (free + 1) free (Number (row / 8)) (λ same. omega (arith, same)) ∙ row_t in
    assign_then P Never NoCode pages fuel s (size find) find free (row_at first) (Number (4 * row)) (row_is rows row first s there.at_row.within few there.at_row.end.1 there.at_row.left.1) free_in
    (assign_then P Never NoCode pages fuel t (size octets) octets (free + 1) (binop I32 (Shr Unsigned) (local free) (i32 5)) (Number (row / 8)) (rw row_t (ap (λ (k : ℕ). Some (Number k)) place)) next_in
    (Ends-weaker (size octets) (size octets) (Octets pages fuel free row (free + 1) values (omega arith) (free + 2) readers u) P Never Never NoCode NoCode (meaning pages fuel octets u) (omega arith)
    (λ w done. (
      Kept-then free (free + 2) s u w (omega arith) kept_u done.0,
      out_is w row free values rest first (done.0.below free (omega arith) ∙ row_u) done.1,
    )) (λ w x. x) (λ code x. x)
    (octets_end pages fuel free row (free + 1) values (omega arith) readers (free + 2) u (omega arith) (omega (arith, room, many_t, many_u)) (slice_get-set_same t.locals (free + 1) (Number (row / 8)) next_in)
    (bits_kept free free row values s u readers (omega arith) kept_u (has_bit free rows values s first there first nullable refl there, all_bits free rows values s first there rest testable all.1)))))

-- ---- types and size
module _ (types : List ValType) where
  abbrev IsDeclared : Reader → Type 0
  IsDeclared r = (slice_get types r.left ≡ Some I32) × (slice_get types r.end ≡ Some I32) × DeclaresBases types r

  octets_typed : (index to : ℕ) (readers : List Reader) → slice_get types index ≡ Some I32 → AllByRecursion IsDeclared readers → AllByRecursion (λ (r : Reader). r.not_null ≡ false) readers → Declares types to (octet_types readers) →
      IsTyped types (octets_block index to readers)
  octets_typed index to [] at declared nullable own = tt
  octets_typed index to (r ∷ readers) at declared nullable own =
      let first : slice_get types to ≡ Some I32 = (let here : to ≡ to + 0 = omega arith in ap (λ (k : ℕ). slice_get types k) here) ∙ own 0 I32 refl in (
        (first, (declared.0.2.nulls nullable.0, at, refl)),
        octets_typed index (to + 1) readers at declared.1 nullable.1 (λ i t is. (let there : to + 1 + i ≡ to + suc i = omega arith in ap (λ (k : ℕ). slice_get types k) there) ∙ own (suc i) t is),
      )

  joined_typed : (to : ℕ) (rest : List Reader) (r : Reader) → Declares types to (octet_types (r ∷ rest)) → HasType types (joined to rest) I32
  joined_typed to [] r own = (let here : to ≡ to + 0 = omega arith in ap (λ (k : ℕ). slice_get types k) here) ∙ own 0 I32 refl
  joined_typed to (q ∷ rest) r own = (
    joined_typed (to + 1) rest q (λ i t is. (let there : to + 1 + i ≡ to + suc i = omega arith in ap (λ (k : ℕ). slice_get types k) there) ∙ own (suc i) t is),
    (let here : to ≡ to + 0 = omega arith in ap (λ (k : ℕ). slice_get types k) here) ∙ own 0 I32 refl,
    refl,
  )

  all_nullable : (left end : ℕ) (readers : List Reader) → AllByRecursion (IsTestable left end) readers → AllByRecursion (λ (r : Reader). r.not_null ≡ false) readers
  all_nullable left end [] testable = tt
  all_nullable left end (r ∷ readers) testable = (testable.0.nullable, all_nullable left end readers testable.1)

  test_typed : (first : Reader) (rest : List Reader) (free : ℕ) → first.not_null ≡ false → AllByRecursion (IsTestable first.left first.end) rest → AllByRecursion IsDeclared (first ∷ rest) → Declares types free (test_types (first ∷ rest)) →
      IsTyped types (test_block first rest free) × HasType types (test_out rest free) I32
  test_typed first rest free nullable testable declared own =
      let row : slice_get types free ≡ Some I32 = (let here : free ≡ free + 0 = omega arith in ap (λ (k : ℕ). slice_get types k) here) ∙ own 0 I32 refl in
      let index : slice_get types (free + 1) ≡ Some I32 = own 1 I32 refl in
      let octets : Declares types (free + 2) (octet_types (first ∷ rest)) = λ i t is. (let there : free + 2 + i ≡ free + suc (suc i) = omega arith in ap (λ (k : ℕ). slice_get types k) there) ∙ own (suc (suc i)) t is in
      let one = declared.0 in (
        ((I32, row, (one.1, one.0, refl)), ((I32, index, (row, (omega arith, refl), refl)), octets_typed (free + 1) (free + 2) (first ∷ rest) index declared (nullable, all_nullable first.left first.end rest testable) octets)),
        (((joined_typed (free + 2) rest first octets, ((row, (omega arith, refl), refl), (omega arith, refl), refl), refl), (omega arith, refl), refl), refl),
      )

octets_long : (index to : ℕ) (readers : List Reader) → length (steps_of (octets_block index to readers)) ≡ 5 * length readers
octets_long index to [] = refl
octets_long index to (r ∷ readers) = let rest = octets_long index (to + 1) readers in omega (arith, rest)

joined_long : (to : ℕ) (rest : List Reader) → length (expression_steps (joined to rest)) ≡ 2 * length rest + 1
joined_long to [] = refl
joined_long to (r ∷ rest) =
    let more = joined_long (to + 1) rest in
    let all = length-append (expression_steps (joined (to + 1) rest)) (step.Op (o.LocalGet to) ∷ step.Op (o.Binary I32 Or) ∷ []) in
    omega (arith, more, all)

test_short : (first : Reader) (rest : List Reader) (free : ℕ) → length (steps_of (test_block first rest free) ++ expression_steps (test_out rest free)) ≤ 7 * length (first ∷ rest) + 16
test_short first rest free =
    let octets = octets_long (free + 1) (free + 2 + 1) rest in
    let some = joined_long (free + 2) rest in
    let all = length-append (steps_of (test_block first rest free)) (expression_steps (test_out rest free)) in
    let bits = length-append (expression_steps (joined (free + 2) rest)) (expression_steps (bit_at free) ++ step.Op (o.Binary I32 (Shr Unsigned)) ∷ []) in
    let ands = length-append (expression_steps (joined (free + 2) rest) ++ (expression_steps (bit_at free) ++ step.Op (o.Binary I32 (Shr Unsigned)) ∷ [])) (expression_steps (i32 1) ++ step.Op (o.Binary I32 And) ∷ []) in
    let last = length-append ((expression_steps (joined (free + 2) rest) ++ (expression_steps (bit_at free) ++ step.Op (o.Binary I32 (Shr Unsigned)) ∷ [])) ++ (expression_steps (i32 1) ++ step.Op (o.Binary I32 And) ∷ [])) (step.Op (o.Eqz I32) ∷ []) in
    omega (arith, octets, some, all, bits, ands, last)

pub tests_nulls : (first : Reader) (rest : List Reader) (free : ℕ) → first.not_null ≡ false → AllByRecursion (IsTestable first.left first.end) rest → TestsNulls (first ∷ rest) free (test_out rest free) (test_block first rest free)
tests_nulls first rest free nullable testable = record {
  runs = λ pages fuel rows values s all room. test_ends pages fuel rows free values first rest s nullable testable all room;
  typed = λ types declared own. test_typed types first rest free nullable testable declared own;
  short = test_short first rest free;
}
