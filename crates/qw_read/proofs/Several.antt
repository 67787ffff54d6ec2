-- What the blocks of several columns come to, one after another.
use Rattle.std.proofs.Common.{◌≡◌, ℕ, ◌+◌, ◌*◌, ◌<◌, ◌≤◌, List, [], ◌∷◌, ◌++◌, length, map, take, drop, get_or, suc, zero, drop-cons, Option, Some, None, Ok, slice_get, refl, sym, ap, ◌∙◌, subst, arith}
use Rattle.std.specs.List.{AllByRecursion}
use Rattle.std.proofs.lemmas.List.{append_assoc, append-nil, take_all, drop_all}
use Rattle.qw_types.specs.declared.value.Val.{Val}
use Rattle.qw_module.specs.declared.instruction.ValType.{ValType}
use Rattle.qw_module.specs.declared.instruction.ValType.TheVariants.{I32}
use Rattle.qw_map.specs.Columns.{values_size}
use Rattle.qw_scalar.specs.Evaluation.{cell_of}
use Rattle.qw_low.specs.declared.step.LowStep.{LowStep}
use Rattle.qw_low.specs.Syntax.{Statement}
use Rattle.qw_low.specs.State.{Own, Address, LowState}
use Rattle.qw_low.specs.Begin.{KnowsEntry}
use Rattle.qw_low.specs.Meaning.{meaning}
use Rattle.qw_low.specs.Typing.{IsTyped}
use Rattle.qw_low.specs.Size.{size}
use Rattle.qw_low.specs.Steps.{steps_of}
use Rattle.qw_low.specs.Promise.{Ends}
use Rattle.qw_low.specs.Raising.{Kept}
use Rattle.qw_low.proofs.Promises.{Ends-weaker, Ends-then}
use Rattle.qw_low.proofs.Results.{Kept-same, Kept-then}
use Rattle.qw_expr.specs.Cells.{IsBelow, IsBelowNull, Holds, DeclaresValue}
use Rattle.qw_expr.specs.Computes.{AreHeld, AreBelow, AreDeclared}
use Rattle.qw_expr.proofs.Nulls.{value_kept, below_more}
use Rattle.qw_read.specs.declared.reader.Reader.{Reader}
use Rattle.qw_read.specs.Reading.{known_of, operand_of, HasNullWord, HasOctets, StandsAt, AreBases, IsCellIn, HasBases, DeclaresBases, AreBasesIn, AreCellsIn, HasEntryOf, IsThere, BeginsAll, ReadsAll}
use Rattle.qw_read.specs.Inner.Blocks.{begin_block, read_block, each_block, begins_block, reads_block}
use Rattle.qw_read.proofs.BasesRuns.{Never, NoCode, begin_begins}
use Rattle.qw_read.proofs.ReadRuns.{bases_kept, end_kept, row_kept, read_reads}

-- ---- locals behind one another
bases_order : (from below : ℕ) (readers : List Reader) → AreBasesIn from below readers → from ≤ below
bases_order from below [] are = are
bases_order from below (r ∷ readers) are =
    let first = are.1.values in
    omega (arith, first.0, first.1, bases_order are.0 below readers are.2)

bases_more : (from low below high : ℕ) (r : Reader) → low ≤ from → below ≤ high → AreBases from below r → AreBases low high r
bases_more from low below high r down up are = record {
  values = let v = are.values in (omega (arith, v.0, down), omega (arith, v.1, up));
  octets = λ is. let v = are.octets is in (omega (arith, v.0, down), omega (arith, v.1, up), v.2);
  nulls = λ is. let v = are.nulls is in (omega (arith, v.0, down), omega (arith, v.1, up), v.2, v.3);
}

cells_order : (from below : ℕ) (readers : List Reader) → AreCellsIn from below readers → from ≤ below
cells_order from below [] are = are
cells_order from below (r ∷ readers) are =
    let first = are.1.value in
    omega (arith, first.0, first.1, cells_order are.0 below readers are.2)

null_below : (below : ℕ) (null : Option ℕ) → ((x : ℕ) → null ≡ Some x → x < below) → IsBelowNull below null
null_below below None less = tt
null_below below (Some x) less = less x refl

pub cell_below : (from below : ℕ) (r : Reader) → IsCellIn from below r → IsBelow below r.cell
cell_below from below r is = (is.value.1, is.long, null_below below r.cell.null (λ x same. (is.null x same).1))

cell_more : (from below high : ℕ) (r : Reader) → below ≤ high → IsCellIn from below r → IsCellIn from high r
cell_more from below high r up is = record {
  value = let v = is.value in (v.0, omega (arith, v.1, up));
  long = omega (arith, is.long, up);
  text = is.text;
  null = λ x same. let v = is.null x same in (v.0, omega (arith, v.1, up), v.2, v.3);
}

-- what is known of the columns is below the last local
pub known_below : (from below : ℕ) (readers : List Reader) → AreCellsIn from below readers → AreBelow below (map known_of readers)
known_below from below [] are = tt
known_below from below (r ∷ readers) are =
    (below_more are.0 below r.cell (cells_order are.0 below readers are.2) (cell_below from are.0 r are.1), known_below are.0 below readers are.2)

-- and declared where their locals are
pub known_declared : (types : List ValType) (readers : List Reader) → AllByRecursion (λ (r : Reader). DeclaresValue types (operand_of r)) readers → AreDeclared types (map known_of readers)
known_declared types [] declared = tt
known_declared types (r ∷ readers) declared = (declared.0, known_declared types readers declared.1)

-- ---- the addresses of parts
entries_kept : (n next rows : ℕ) (s t : LowState) (readers : List Reader) → n ≤ next → Kept n s t → AllByRecursion (HasEntryOf n rows s) readers → AllByRecursion (HasEntryOf next rows t) readers
entries_kept n next rows s t [] after kept entries = tt
entries_kept n next rows s t (r ∷ readers) after kept entries =
    let one = entries.0 in (
      record {
        used = one.used;
        type_is = one.type_is;
        null_is = one.null_is;
        entry = subst (λ (u : LowState). KnowsEntry u.cells r.index one.used rows) (sym kept.others) one.entry;
        values = subst (λ (u : LowState). HasOctets u.columns (3 * r.index) (values_size r.ty rows)) (sym kept.others) one.values;
        end = end_kept n next rows r s t after kept one.end;
      },
      entries_kept n next rows s t readers after kept entries.1,
    )

pub begins_end : (pages fuel n rows : ℕ) (readers : List Reader) (s : LowState) → AllByRecursion (HasEntryOf n rows s) readers → slice_get s.locals 0 ≡ Some (Address (Own 0) 0) → 1 ≤ n →
    AreBasesIn n (length s.locals) readers →
    Ends (size (begins_block readers)) (λ t. Kept n s t × AllByRecursion (λ r. HasBases rows r t) readers) Never NoCode (meaning pages fuel (begins_block readers) s)
begins_end pages fuel n rows [] s entries base some are = (omega arith, (Kept-same n s, tt))
begins_end pages fuel n rows (r ∷ readers) s entries base some are =
    let one = entries.0 in
    let next : ℕ = are.0 in
    let rest : Statement = begins_block readers in
    let order : next ≤ length s.locals = bases_order next (length s.locals) readers are.2 in
    let after : n ≤ next = let v = are.1.values in omega (arith, v.0, v.1) in
    Ends-then (λ t. Kept n s t × AllByRecursion (λ q. HasBases rows q t) (r ∷ readers)) Never NoCode (size (begin_block r)) (size rest) (λ t. Kept n s t × HasBases rows r t)
    (meaning pages fuel (begin_block r) s) (meaning pages fuel rest)
    ((begin_begins r).runs pages fuel n rows one.used s one.type_is one.null_is one.entry one.values base some one.end (bases_more n n next (length s.locals) r (omega arith) order are.1))
    (λ t now.
    let kept = now.0 in
    Ends-weaker (size rest) (size rest) (λ u. Kept next t u × AllByRecursion (λ q. HasBases rows q u) readers) (λ u. Kept n s u × AllByRecursion (λ q. HasBases rows q u) (r ∷ readers)) Never Never NoCode NoCode
    (meaning pages fuel rest t) (omega arith)
    (λ u post. (Kept-then n next s t u after kept post.0, (bases_kept next rows r t u (bases_more n 0 next next r (omega arith) (omega arith) are.1) post.0 now.1, post.1))) (λ u x. x) (λ code x. x)
    (begins_end pages fuel next rows readers t (entries_kept n next rows s t readers after kept entries.1) (kept.below 0 (omega (arith, some)) ∙ base) (omega (arith, some, after))
    (subst (λ (k : ℕ). AreBasesIn next k readers) (sym kept.many) are.2)))

begins_typed : (types : List ValType) (readers : List Reader) → slice_get types 0 ≡ Some I32 → AllByRecursion (λ (r : Reader). (slice_get types r.end ≡ Some I32) × DeclaresBases types r) readers →
    IsTyped types (begins_block readers)
begins_typed types [] first declared = tt
begins_typed types (r ∷ readers) first declared = ((begin_begins r).typed types first declared.0.0 declared.0.1, begins_typed types readers first declared.1)

begins_short : (readers : List Reader) → size (begins_block readers) ≤ 13 * length readers
begins_short [] = omega arith
begins_short (r ∷ readers) = omega (arith, (begin_begins r).short, begins_short readers)

pub begins_begin : (readers : List Reader) → BeginsAll readers (begins_block readers)
begins_begin readers = record {
  runs = λ pages fuel n rows s entries base some are. begins_end pages fuel n rows readers s entries base some are;
  typed = λ types first declared. begins_typed types readers first declared;
  short = begins_short readers;
}

-- ---- values
pub there_kept : (n next rows : ℕ) (values : List Val) (s t : LowState) (readers : List Reader) → n ≤ next → Kept n s t → AllByRecursion (IsThere n rows values s) readers →
    AllByRecursion (IsThere next rows values t) readers
there_kept n next rows values s t [] after kept there = tt
there_kept n next rows values s t (r ∷ readers) after kept there =
    let one = there.0 in (
      record {
        row = one.row;
        v = one.v;
        value_is = one.value_is;
        stands = subst (λ (u : LowState). StandsAt u.cells u.columns r.index r.ty r.not_null one.row one.v) (sym kept.others) one.stands;
        sized = one.sized;
        bases = bases_kept n rows r s t one.bases_below kept one.bases;
        at_row = row_kept n next rows one.row r s t after kept one.at_row;
        bases_below = bases_more 0 0 n next r (omega arith) after one.bases_below;
      },
      there_kept n next rows values s t readers after kept there.1,
    )

abbrev HaveNullWords : List Reader → Type 0
HaveNullWords readers = AllByRecursion (λ (r : Reader). HasNullWord r.not_null r.cell.null) readers

pub reads_end : (pages fuel n rows : ℕ) (values : List Val) (readers : List Reader) (s : LowState) → HaveNullWords readers → AllByRecursion (IsThere n rows values s) readers →
    AreCellsIn n (length s.locals) readers →
    Ends (size (reads_block readers)) (λ t. Kept n s t × AreHeld (map known_of readers) values t) Never NoCode (meaning pages fuel (reads_block readers) s)
reads_end pages fuel n rows values [] s words there are = (omega arith, (Kept-same n s, tt))
reads_end pages fuel n rows values (r ∷ readers) s words there are =
    let one = there.0 in
    let next : ℕ = are.0 in
    let rest : Statement = reads_block readers in
    let order : next ≤ length s.locals = cells_order next (length s.locals) readers are.2 in
    let after : n ≤ next = let v = are.1.value in omega (arith, v.0, v.1) in
    Ends-then (λ t. Kept n s t × AreHeld (map known_of (r ∷ readers)) values t) Never NoCode (size (read_block r)) (size rest) (λ t. Kept n s t × Holds (operand_of r) one.v t)
    (meaning pages fuel (read_block r) s) (meaning pages fuel rest)
    ((read_reads r words.0).runs pages fuel n rows one.row one.v s one.stands one.sized one.bases one.at_row one.bases_below (cell_more n next (length s.locals) r order are.1))
    (λ t now.
    let kept = now.0 in
    let held = now.1 in
    Ends-weaker (size rest) (size rest) (λ u. Kept next t u × AreHeld (map known_of readers) values u) (λ u. Kept n s u × AreHeld (map known_of (r ∷ readers)) values u) Never Never NoCode NoCode
    (meaning pages fuel rest t) (omega arith)
    (λ u post. (
      Kept-then n next s t u after kept post.0,
      ((one.v, ap (λ (v : Option Val). Ok (cell_of v)) one.value_is, (value_kept next t u r.cell one.v post.0 (cell_below n next r are.1) held.0, held.1)), post.1),
    )) (λ u x. x) (λ code x. x)
    (reads_end pages fuel next rows values readers t words.1 (there_kept n next rows values s t readers after kept there.1) (subst (λ (k : ℕ). AreCellsIn next k readers) (sym kept.many) are.2)))

reads_typed : (types : List ValType) (readers : List Reader) → HaveNullWords readers →
    AllByRecursion (λ (r : Reader). (slice_get types r.left ≡ Some I32) × (slice_get types r.end ≡ Some I32) × DeclaresBases types r × DeclaresValue types (operand_of r)) readers → IsTyped types (reads_block readers)
reads_typed types [] words declared = tt
reads_typed types (r ∷ readers) words declared =
    let one = declared.0 in ((read_reads r words.0).typed types one.0 one.1 one.2 one.3, reads_typed types readers words.1 declared.1)

reads_short : (readers : List Reader) → HaveNullWords readers → size (reads_block readers) ≤ 39 * length readers
reads_short [] words = omega arith
reads_short (r ∷ readers) words = omega (arith, (read_reads r words.0).short, reads_short readers words.1)

pub reads_read : (readers : List Reader) → HaveNullWords readers → ReadsAll readers (reads_block readers)
reads_read readers words = record {
  runs = λ pages fuel n rows values s there are. reads_end pages fuel n rows values readers s words there are;
  typed = λ types declared. reads_typed types readers words declared;
  short = reads_short readers words;
}

-- ---- the steps of one after another
module _ {A : Type 0} (f : A → Statement) (xs : List A) (i : ℕ) where
  pub next_steps : (x : A) (old code new : List LowStep) → i < length xs → code ++ steps_of (each_block f (drop i xs)) ≡ old → new ≡ code ++ steps_of (f (get_or xs i x)) →
      new ++ steps_of (each_block f (drop (i + 1) xs)) ≡ old
  next_steps x old code new less before added =
      let one : i + 1 ≡ suc i = omega arith in
      ap (λ (k : ℕ). new ++ steps_of (each_block f (drop k xs))) one
      ∙ (ap (λ (c : List LowStep). c ++ steps_of (each_block f (drop (suc i) xs))) added
      ∙ (append_assoc code (steps_of (f (get_or xs i x))) (steps_of (each_block f (drop (suc i) xs)))
      ∙ (ap (λ (rest : List A). code ++ steps_of (each_block f rest)) (sym (drop-cons xs i x less)) ∙ before)))

  pub all_steps : (old code : List LowStep) → length xs ≤ i → code ++ steps_of (each_block f (drop i xs)) ≡ old → code ≡ old
  all_steps old code past before =
      sym (append-nil code) ∙ (ap (λ (rest : List A). code ++ steps_of (each_block f rest)) (sym (drop_all i xs past)) ∙ before)

pub one_of_all : {A : Type 0} (P : A → Type 0) (xs : List A) (i : ℕ) (x : A) → i < length xs → AllByRecursion P xs → P (get_or xs i x)
one_of_all P [] i x less all = absurd (omega arith)
one_of_all P (y ∷ xs) zero x less all = all.0
one_of_all P (y ∷ xs) (suc i) x less all = one_of_all P xs i x (omega arith) all.1

-- what holds of those that were gone over, of one more and at last of all
take_more : {A : Type 0} (P : A → Type 0) (xs : List A) (i : ℕ) (x : A) → i < length xs → P (get_or xs i x) → AllByRecursion P (take i xs) → AllByRecursion P (take (suc i) xs)
take_more P [] i x less is all = absurd (omega arith)
take_more P (y ∷ ys) zero x less is all = (is, tt)
take_more P (y ∷ ys) (suc i) x less is all = (all.0, take_more P ys i x (omega arith) is all.1)

module _ {A : Type 0} (f : A → Statement) (P : A → Type 0) (xs : List A) (i : ℕ) where
  pub one_more : (x : A) (old code new : List LowStep) → i < length xs → new ≡ code ++ steps_of (f (get_or xs i x)) →
      (code ++ steps_of (each_block f (drop i xs)) ≡ old) × AllByRecursion P (take i xs) → P (get_or xs i x) →
      (new ++ steps_of (each_block f (drop (i + 1) xs)) ≡ old) × AllByRecursion P (take (i + 1) xs)
  one_more x old code new less added before is =
      let one : suc i ≡ i + 1 = omega arith in
      (next_steps f xs i x old code new less before.0 added, subst (λ (k : ℕ). AllByRecursion P (take k xs)) one (take_more P xs i x less is before.1))

  pub all_of_taken : length xs ≤ i → AllByRecursion P (take i xs) → AllByRecursion P xs
  all_of_taken past all = subst (AllByRecursion P) (take_all i xs past) all
