-- What sequences need is enough for the code that they stand for.
use Rattle.std.proofs.Common.{◌≡◌, ℕ, ◌+◌, ◌-◌, ◌<◌, ◌≤◌, List, [], ◌∷◌, ◌++◌, length, Some, None, subst, ⊎_elim, arith}
use Rattle.std.specs.List.{AllByRecursion}
use Rattle.std.proofs.Math.Nat.{le_refl}
use Rattle.std.proofs.Math.Seq.{get_or-append_seam}
use Rattle.std.proofs.lemmas.Bool.{cases_eq}
use Rattle.std.proofs.lemmas.List.{get_or_append_left}
use Rattle.qw_module.specs.declared.instruction.Instr.{Instr}
use Rattle.qw_module.specs.declared.instruction.Instr.TheVariants as i
use Rattle.qw_module.specs.declared.module.Function.{Function}
use Rattle.qw_module.specs.declared.module.Module.{Module}
use Rattle.qw_module.specs.Syntax.{Code, done, op, unreachable, block, loop, if_then, if_else, br, br_if, br_table, return, call, Sequences, nested, named, sequence_at, NamesBelow, IsNumbered}
use Rattle.qw_module.specs.Execution.{arity_of}
use Rattle.qw_module.specs.Typing.{Signature}
use Rattle.qw_valid.specs.Heights.{taken_by, left_by, parameters_at, results_at, StaysWithin, AreHeightsOf}
use Rattle.qw_module.specs.Validity.{code_of_body, outside_of, signature_in}
use Rattle.qw_module.proofs.Numbered.{named-at}
use Rattle.qw_valid.specs.declared.heights.Heights.{Heights}
use Rattle.qw_valid.specs.Inner.Heights.{at_number, holding, needs, wider}

module _ (signatures : List Signature) where
  -- wider bounds do too
  pub stays-wider : (code : Code) (now operands labels more deeper : ℕ) → operands ≤ more → labels ≤ deeper → StaysWithin signatures operands labels code now →
      StaysWithin signatures more deeper code now
  stays-wider done now a b c d p q h = omega (arith, p, h)
  stays-wider (op o rest) now a b c d p q h = (omega (arith, p, h.0), stays-wider rest _ a b c d p q h.1)
  stays-wider (unreachable rest) now a b c d p q h = omega (arith, p, h)
  stays-wider (block result inner rest) now a b c d p q h =
      (omega (arith, p, h.0), omega (arith, q, h.1), stays-wider inner 0 (a - now) (b - 1) (c - now) (d - 1) (omega (arith, p)) (omega (arith, q)) h.2, stays-wider rest _ a b c d p q h.3)
  stays-wider (loop result inner rest) now a b c d p q h =
      (omega (arith, p, h.0), omega (arith, q, h.1), stays-wider inner 0 (a - now) (b - 1) (c - now) (d - 1) (omega (arith, p)) (omega (arith, q)) h.2, stays-wider rest _ a b c d p q h.3)
  stays-wider (if_then result inner rest) now a b c d p q h =
      (omega (arith, p, h.0), omega (arith, q, h.1), stays-wider inner 0 (a - (now - 1)) (b - 1) (c - (now - 1)) (d - 1) (omega (arith, p)) (omega (arith, q)) h.2, stays-wider rest _ a b c d p q h.3)
  stays-wider (if_else result inner other rest) now a b c d p q h = (
    omega (arith, p, h.0),
    omega (arith, q, h.1),
    stays-wider inner 0 (a - (now - 1)) (b - 1) (c - (now - 1)) (d - 1) (omega (arith, p)) (omega (arith, q)) h.2,
    stays-wider other 0 (a - (now - 1)) (b - 1) (c - (now - 1)) (d - 1) (omega (arith, p)) (omega (arith, q)) h.3,
    stays-wider rest _ a b c d p q h.4,
  )
  stays-wider (br label rest) now a b c d p q h = omega (arith, p, h)
  stays-wider (br_if label rest) now a b c d p q h = (omega (arith, p, h.0), stays-wider rest _ a b c d p q h.1)
  stays-wider (br_table table default rest) now a b c d p q h = omega (arith, p, h)
  stays-wider (return rest) now a b c d p q h = omega (arith, p, h)
  stays-wider (call index rest) now a b c d p q h = (omega (arith, p, h.0), stays-wider rest _ a b c d p q h.1)

  -- what the sequences of lower numbers need is enough for their codes
  module _ (labels : List ℕ) (count n : ℕ) (inner : ℕ → Heights) (named : ℕ → Code)
      (each : (k : ℕ) → k < n → StaysWithin signatures (inner k).operands (inner k).labels (named k) 0) where
    below-within : (k now operands deeper : ℕ) → k < n → now + (inner k).operands ≤ operands → (inner k).labels + 1 ≤ deeper →
        StaysWithin signatures (operands - now) (deeper - 1) (named k) 0
    below-within k now operands deeper lower p q =
        stays-wider (named k) 0 (inner k).operands (inner k).labels (operands - now) (deeper - 1) (omega (arith, p)) (omega (arith, q)) (each k lower)

    pub needs_within : (sequence : List Instr) (now operands deeper : ℕ) → AllByRecursion (NamesBelow count n) sequence →
        (needs signatures inner sequence now).operands ≤ operands → (needs signatures inner sequence now).labels ≤ deeper →
        StaysWithin signatures operands deeper (nested labels named sequence) now
    needs_within [] now a b names p q = p
    needs_within (i.Op o ∷ rest) now a b names p q = (omega (arith, p), needs_within rest (now - taken_by o + left_by o) a b names.1 (omega (arith, p)) (omega (arith, q)))
    needs_within (i.Unreachable ∷ rest) now a b names p q = omega (arith, p)
    needs_within (i.Block result body ∷ rest) now a b names p q =
        (omega (arith, p), omega (arith, q), below-within body now a b names.0 (omega (arith, p)) (omega (arith, q)), needs_within rest (now + arity_of result) a b names.1 (omega (arith, p)) (omega (arith, q)))
    needs_within (i.Loop result body ∷ rest) now a b names p q =
        (omega (arith, p), omega (arith, q), below-within body now a b names.0 (omega (arith, p)) (omega (arith, q)), needs_within rest (now + arity_of result) a b names.1 (omega (arith, p)) (omega (arith, q)))
    needs_within (i.If result first None ∷ rest) now a b names p q =
        (omega (arith, p), omega (arith, q), below-within first (now - 1) a b names.0 (omega (arith, p)) (omega (arith, q)), needs_within rest (now - 1 + arity_of result) a b names.1 (omega (arith, p)) (omega (arith, q)))
    needs_within (i.If result first (Some second) ∷ rest) now a b names p q = (
      omega (arith, p),
      omega (arith, q),
      below-within first (now - 1) a b names.0.0 (omega (arith, p)) (omega (arith, q)),
      below-within second (now - 1) a b names.0.1 (omega (arith, p)) (omega (arith, q)),
      needs_within rest (now - 1 + arity_of result) a b names.1 (omega (arith, p)) (omega (arith, q)),
    )
    needs_within (i.Br label ∷ rest) now a b names p q = omega (arith, p)
    needs_within (i.BrIf label ∷ rest) now a b names p q = (omega (arith, p), needs_within rest (now - 1) a b names.1 (omega (arith, p)) (omega (arith, q)))
    needs_within (i.BrTable start many default ∷ rest) now a b names p q = omega (arith, p)
    needs_within (i.Return ∷ rest) now a b names p q = omega (arith, p)
    needs_within (i.Call index ∷ rest) now a b names p q =
        (omega (arith, p), needs_within rest (now - parameters_at signatures index + results_at signatures index) a b names.1 (omega (arith, p)) (omega (arith, q)))

-- each sequence up to one stays within what is kept of it
abbrev pub WithinBelow : List Signature → Sequences → List Heights → ℕ → Type 0
WithinBelow signatures sequences lower n =
    (k : ℕ) → k < n → StaysWithin signatures (at_number lower k).operands (at_number lower k).labels (named sequences k) 0

-- and the next one within what it needs
pub within_next : (signatures : List Signature) (sequences : Sequences) (lower : List Heights) (n : ℕ) (most : Heights) → IsNumbered sequences → n < length sequences.each →
    length lower ≡ n → WithinBelow signatures sequences lower n → most ≡ needs signatures (at_number lower) (sequence_at sequences n) 0 →
    WithinBelow signatures sequences (lower ++ (most ∷ [])) (n + 1)
within_next signatures sequences lower n most numbered inside long below is k h = ⊎_elim
    (λ (e : k ≡ n).
    let last : at_number (lower ++ (most ∷ [])) k ≡ most = rw (e, ← long) (get_or-append_seam lower most [] (holding 0)) in
    let here : StaysWithin signatures most.operands most.labels (nested sequences.labels (named sequences) (sequence_at sequences n)) 0 =
    needs_within signatures sequences.labels (length sequences.labels) n (at_number lower) (named sequences) below (sequence_at sequences n) 0 most.operands most.labels (numbered.lower n inside)
    (subst (λ (heights : Heights). heights.operands ≤ most.operands) is (le_refl most.operands))
    (subst (λ (heights : Heights). heights.labels ≤ most.labels) is (le_refl most.labels)) in
    rw (last, e, named-at sequences numbered n inside) here)
    (λ ne. let less : k < n = omega arith in
    let kept : at_number (lower ++ (most ∷ [])) k ≡ at_number lower k = get_or_append_left lower (most ∷ []) (holding 0) k (omega arith) in
    rw kept (below k less))
    (cases_eq k n)

-- a function needs what its body needs, and its results
pub function_within : (m : Module) (function : Function) (most : Heights) (results : ℕ) → StaysWithin ((outside_of m).functions) most.operands most.labels (code_of_body function.body) 0 →
    results ≡ length (signature_in m function.type_index).results → AreHeightsOf m function (wider most (holding results)).operands (wider most (holding results)).labels
function_within m function most results body is = record {
  body_within = stays-wider ((outside_of m).functions) (code_of_body function.body) 0 most.operands most.labels _ _ (omega arith) (omega arith) body;
  results_within = omega (arith, is);
}
