-- The run of a local, by how many locals there are up to the end of each run.
use Rattle.std.proofs.Common.{◌≡◌, ℕ, zero, suc, ◌+◌, ◌-◌, ◌<◌, ◌≤◌, Bool, List, [], ◌∷◌, ◌++◌, length, get_or, replicate, true, false, leb, Some, Result, Ok, slice_get, refl, sym, ap, ◌∙◌, arith}
use Rattle.std.specs.Prelude.{nat_lt, ◌^◌}
use Rattle.std.proofs.lemmas.Bool.{leb-true, leb-false}
use Rattle.std.specs.Option.{option_map}
use Rattle.std.specs.List.Sorted.{IsNonDecreasingBy, IsPartitionPoint}
use Rattle.qw_octet_grammar.specs.declared.fault.BinaryFault.{BinaryFault}
use Rattle.qw_octet_grammar.specs.declared.fault.BinaryFault.TheVariants.{NotModule}
use Rattle.qw_octet_grammar.specs.Grammar.{is, refuse, pick}
use Rattle.qw_octet_grammar.specs.Numbers.{u32}
use Rattle.qw_octet_grammar.specs.Vectors.{counted, one_more, vector}
use Rattle.qw_octet_grammar.specs.Reading.{◌>>=◌, read}
use Rattle.qw_octet_grammar.proofs.GrammarLaws.{ok_is}
use Rattle.qw_octet_grammar.proofs.Loops.{goes_on_one_more}
use Rattle.qw_module.specs.declared.instruction.ValType.{ValType}
use Rattle.qw_module.specs.declared.module.Locals.{Locals}
use Rattle.qw_module.specs.Validity.{declared_types}
use Rattle.qw_binary.specs.Types.{val_type}
use Rattle.qw_binary.specs.Sections.{locals_from, locals_run, locals_count, locals}
use Rattle.qw_scan.specs.declared.locals.Run.{Run}
use Rattle.qw_scan.specs.Inner.Runs.{runs_in, last_end, Rise}

-- ---- the local of an index

in_run : (n : ℕ) (ty : ValType) (rest : List ValType) (i : ℕ) → i < n → slice_get (replicate n ty ++ rest) i ≡ Some ty
in_run zero ty rest i h = absurd (omega (arith, h))
in_run (suc n) ty rest zero h = refl
in_run (suc n) ty rest (suc i) h = in_run n ty rest i (omega (arith, h))

past_run : (n : ℕ) (ty : ValType) (rest : List ValType) (i : ℕ) → n ≤ i → slice_get (replicate n ty ++ rest) i ≡ slice_get rest (i - n)
past_run zero ty rest i h = let same : i ≡ i - 0 = omega arith in ap (slice_get rest) same
past_run (suc n) ty rest zero h = absurd (omega (arith, h))
past_run (suc n) ty rest (suc i) h =
    let same : i - n ≡ suc i - suc n = omega arith in
    past_run n ty rest i (omega (arith, h)) ∙ ap (slice_get rest) same

-- it stands in the run up to whose end there are more locals than the index, and before which there aren't
at_run : (before : ℕ) (runs : List Run) (n i : ℕ) → before ≤ i → Rise before runs → n ≤ length runs → ((k : ℕ) (d : Run) → k < n → (get_or runs k d).end ≤ i) → ((d : Run) → n < length runs → i < (get_or runs n d).end) →
    slice_get (declared_types (runs_in before runs)) (i - before) ≡ option_map (λ (run : Run). run.ty) (slice_get runs n)
at_run before [] n i from rise within low high = refl
at_run before (run ∷ runs) zero i from rise within low high =
    let far : i < run.end = high run (omega arith) in
    in_run (run.end - before) run.ty (declared_types (runs_in run.end runs)) (i - before) (omega (arith, from, far))
at_run before (run ∷ runs) (suc n) i from rise within low high =
    let past : run.end ≤ i = low 0 run (omega arith) in
    let same : (i - before) - (run.end - before) ≡ i - run.end = omega (arith, rise.0, past) in
    past_run (run.end - before) run.ty (declared_types (runs_in run.end runs)) (i - before) (omega (arith, past))
    ∙ ap (slice_get (declared_types (runs_in run.end runs))) same
    ∙ at_run run.end runs n i past rise.1 (omega (arith, within)) (λ k d lt. low (suc k) d (omega (arith, lt))) (λ d lt. high d (omega (arith, lt)))

rises_past : (before : ℕ) (runs : List Run) → Rise before runs → (k : ℕ) (d : Run) → k < length runs → before ≤ (get_or runs k d).end
rises_past before [] rise k d lt = absurd (omega (arith, lt))
rises_past before (run ∷ runs) rise zero d lt = rise.0
rises_past before (run ∷ runs) rise (suc k) d lt = omega (arith, rise.0, rises_past run.end runs rise.1 k d (omega (arith, lt)))

pub ends_rise : (before : ℕ) (runs : List Run) → Rise before runs → IsNonDecreasingBy (λ (run : Run). run.end) runs
ends_rise before [] rise i j d le lt = absurd (omega (arith, lt))
ends_rise before (run ∷ runs) rise zero zero d le lt = omega arith
ends_rise before (run ∷ runs) rise zero (suc j) d le lt = rises_past run.end runs rise.1 j d (omega (arith, lt))
ends_rise before (run ∷ runs) rise (suc i) zero d le lt = absurd (omega (arith, le))
ends_rise before (run ∷ runs) rise (suc i) (suc j) d le lt = ends_rise run.end runs rise.1 i j d (omega (arith, le)) (omega (arith, lt))

-- the run that a search finds
pub found_run : (runs : List Run) (i n : ℕ) → Rise 0 runs → n ≤ length runs → IsPartitionPoint (λ (run : Run). leb run.end i ≡ true) (λ (run : Run). leb run.end i ≡ false) runs n →
    slice_get (declared_types (runs_in 0 runs)) i ≡ option_map (λ (run : Run). run.ty) (slice_get runs n)
found_run runs i n rise within point =
    let same : i ≡ i - 0 = omega arith in
    ap (slice_get (declared_types (runs_in 0 runs))) same
    ∙ at_run 0 runs n i (omega arith) rise within
    (λ k d lt. leb-true (get_or runs k d).end i (point.0 k d (omega arith) lt)) (λ d lt. let far = leb-false (get_or runs n d).end i (point.1 n d (omega arith) lt) in omega (arith, far))

-- ---- one run more

runs_more : (before : ℕ) (runs : List Run) (run : Run) → runs_in before (runs ++ run ∷ []) ≡ runs_in before runs ++ locals_from (run.end - last_end before runs) run.ty ∷ []
runs_more before [] run = refl
runs_more before (first ∷ runs) run = ap (λ (rest : List Locals). locals_from (first.end - before) first.ty ∷ rest) (runs_more first.end runs run)

pub last_more : (before : ℕ) (runs : List Run) (run : Run) → last_end before (runs ++ run ∷ []) ≡ run.end
last_more before [] run = refl
last_more before (first ∷ runs) run = last_more first.end runs run

pub rise_more : (before : ℕ) (runs : List Run) (run : Run) → Rise before runs → last_end before runs ≤ run.end → Rise before (runs ++ run ∷ [])
rise_more before [] run rise le = (le, tt)
rise_more before (first ∷ runs) run rise le = (rise.0, rise_more first.end runs run rise.1 le)

abbrev run_with : ℕ → ValType × List ℕ → Result (Locals × List ℕ) BinaryFault
run_with count z = Ok (locals_from count z.0, z.1)

run_read : (bytes : List ℕ) (count : ℕ) (mid : List ℕ) (type : ValType) (rest : List ℕ) → read u32 bytes ≡ Ok (count, mid) → read val_type mid ≡ Ok (type, rest) → read locals_run bytes ≡ Ok (locals_from count type, rest)
unfolding read
run_read bytes count mid type rest first second =
    ap (λ (r : Result (ℕ × List ℕ) BinaryFault). r >>= λ w. read val_type w.1 >>= run_with w.0) first ∙ ap (λ (r : Result (ValType × List ℕ) BinaryFault). r >>= run_with count) second

-- the runs that have been read, and what is left
pub next_run : (count i : ℕ) (runs : List Run) (end more next : ℕ) (type : ValType) (bytes mid rest : List ℕ) (total : Result (List Locals × List ℕ) BinaryFault) → i < count → end ≡ last_end 0 runs → next ≡ end + more →
    read u32 bytes ≡ Ok (more, mid) → read val_type mid ≡ Ok (type, rest) → read (counted (count - i) (one_more locals_run) (runs_in 0 runs)) bytes ≡ total →
    read (counted (count - (i + 1)) (one_more locals_run) (runs_in 0 (runs ++ record { end = next; ty = type } ∷ []))) rest ≡ total
next_run count i runs end more next type bytes mid rest total lt last sum first second so_far =
    let size : more ≡ next - last_end 0 runs = omega (arith, last, sum) in
    ap (λ (before : List Locals). read (counted (count - (i + 1)) (one_more locals_run) before) rest)
    (runs_more 0 runs (record { end = next; ty = type }) ∙ ap (λ (n : ℕ). runs_in 0 runs ++ locals_from n type ∷ []) (sym size))
    ∙ goes_on_one_more locals_run count i (runs_in 0 runs) bytes (locals_from more type) rest total lt (run_read bytes more mid type rest first second) so_far

-- ---- the locals of a function

-- what their grammar reads is what so many runs are
pub read_locals : (bytes : List ℕ) (count : ℕ) (mid : List ℕ) (runs : List Locals) (left : List ℕ) (found : List Locals) (rest : List ℕ) → read u32 bytes ≡ Ok (count, mid) →
    read (counted count (one_more locals_run) []) mid ≡ Ok (runs, left) → read locals bytes ≡ Ok (found, rest) → (runs ≡ found) × (left ≡ rest)
unfolding read
read_locals bytes count mid runs left found rest first all e =
    let vector_is : read (vector locals_run) bytes ≡ Ok (runs, left) = ap (λ (r : Result (ℕ × List ℕ) BinaryFault). r >>= λ y. read (counted y.0 (one_more locals_run) []) y.1) first ∙ all in
    by_test (nat_lt (locals_count runs) (2 ^ 32))
    (sym (ap (λ (r : Result (List Locals × List ℕ) BinaryFault). r >>= λ y. read (pick (nat_lt (locals_count y.0) (2 ^ 32)) (is y.0) (refuse NotModule)) y.1) vector_is) ∙ e)
  where
    by_test : (b : Bool) → read (pick b (is runs) (refuse NotModule)) left ≡ Ok (found, rest) → (runs ≡ found) × (left ≡ rest)
    by_test true h = let q = ok_is (runs, left) (found, rest) h in (ap (λ z. z.0) q, ap (λ z. z.1) q)
    by_test false h = absurd cc
