-- Of columns that are read, each of them once, an entry of FROM has at most 64.
use Rattle.std.proofs.Common.{◌≡◌, ℕ, ◌+◌, ◌*◌, ◌/◌, ◌≤◌, nat_eq, eqb, Bool, true, false, if◌then◌else◌, List, [], ◌∷◌, length, map, refl, ap, arith}
use Rattle.std.specs.List.{AllByRecursion, IsDistinct, filter, range_with_len}
use Rattle.std.specs.Cmp.{nat_eq_equiv}
use Rattle.std.proofs.lemmas.List.{length-map}
use Rattle.std.proofs.lemmas.List.FromFn.{length-range_with_len}
use Rattle.std.proofs.lemmas.Map.Made.{length-le_from_is_member}
use Rattle.qw_algebra.specs.Columns.{owner}
use Rattle.qw_read.specs.declared.reader.Reader.{Reader}
use Rattle.qw_physical.specs.Named.{numbers}
use Rattle.qw_physical.specs.declared.pipeline.ReadColumn.{ReadColumn}
use Rattle.qw_compile.specs.QueryLocals.{base_start, cell_start, query_readers, read_by, read_from, readers_over}
use Rattle.qw_compile.proofs.KeptColumns.{distinct_kept, equal_is, in_range, kept_member}

abbrev number_of : Reader → ℕ
number_of r = r.column

abbrev is_of_entry : (entry : ℕ) → ℕ → Bool
is_of_entry entry i = nat_eq entry (owner i)

numbers_over : (entry t b c k : ℕ) (columns : List ReadColumn) → map number_of (readers_over entry (read_from t b c k columns)) ≡ filter (is_of_entry entry) (numbers columns)
numbers_over entry t b c k [] = refl
numbers_over entry t b c k (column ∷ columns) =
    one (is_of_entry entry column.number) (readers_over entry (read_from t (b + 3) (c + 3) (k + 1) columns)) (filter (is_of_entry entry) (numbers columns)) (numbers_over entry t (b + 3) (c + 3) (k + 1) columns)
  where
    one : (test : Bool) (rest : List Reader) (ns : List ℕ) → map number_of rest ≡ ns → map number_of (if test then read_by t b c k column ∷ rest else rest) ≡ (if test then column.number ∷ ns else ns)
    one true rest ns e = ap (λ (l : List ℕ). column.number ∷ l) e
    one false rest ns e = e

all_any : (xs : List ℕ) → AllByRecursion (λ (i : ℕ). Unit {0}) xs
all_any [] = tt
all_any (x ∷ xs) = (tt, all_any xs)

numbers_few : (entry : ℕ) (ns : List ℕ) → IsDistinct eqb ns → length (filter (is_of_entry entry) ns) ≤ 64
numbers_few entry ns once =
    let within = length-le_from_is_member nat_eq_equiv (filter (is_of_entry entry) ns) (range_with_len (64 * entry) 64) (distinct_kept (is_of_entry entry) ns once) (λ q there.
    let known = kept_member (λ i. Unit {0}) (is_of_entry entry) ns q (all_any ns) there in
    let here : entry ≡ q / 64 = equal_is entry (q / 64) known.0 in
    in_range 64 (64 * entry) q (omega (arith, here)) (omega (arith, here))) in
    omega (arith, within, length-range_with_len (64 * entry) 64)

pub few_over : (tables literals : ℕ) (columns : List ReadColumn) → IsDistinct eqb (numbers columns) → (entry : ℕ) → length (readers_over entry (query_readers tables literals columns)) ≤ 64
few_over tables literals columns once entry =
    let over : List Reader = readers_over entry (query_readers tables literals columns) in
    let same = ap (λ (l : List ℕ). length l) (numbers_over entry tables (base_start tables literals) (cell_start tables literals (length columns)) 0 columns) in
    omega (arith, same, length-map over number_of, numbers_few entry (numbers columns) once)
