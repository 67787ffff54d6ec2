-- What the numbers of sequences stand for stays the same while more sequences end, and more labels are read.
use Rattle.std.proofs.Common.{◌≡◌, ℕ, zero, suc, ◌+◌, ◌<◌, ◌≤◌, List, [], ◌∷◌, ◌++◌, length, take, drop, Some, None, refl, sym, ap, ap₂, ◌∙◌, arith, length-append}
use Rattle.std.specs.Prelude.{unwrap_or, slice_get}
use Rattle.std.specs.List.{AllByRecursion}
use Rattle.std.proofs.lemmas.List.{length-drop, take-append-le, drop-append-le}
use Rattle.qw_module.specs.declared.instruction.Instr.{Instr}
use Rattle.qw_module.specs.declared.instruction.Instr.TheVariants as i
use Rattle.qw_module.specs.Syntax.{Code, op, unreachable, block, loop, if_then, if_else, br, br_if, br_table, return, call, Sequences, labels_in, nested, sequence_at, named_below, NamesBelow}
use Rattle.qw_module.proofs.Numbered.{named, named_below-any, nested-same}

-- each sequence names only lower ones, and labels that are there
abbrev pub IsLower : Sequences → Type 0
IsLower s = (n : ℕ) → n < length s.each → AllByRecursion (NamesBelow (length s.labels) n) (sequence_at s n)

-- the sequences and labels of one body are the first of another
pub record Grows (s t : Sequences) : Type 0 where
  pub longer : length s.each ≤ length t.each
  pub each : (n : ℕ) → n < length s.each → sequence_at t n ≡ sequence_at s n
  pub labels : (first count : ℕ) → first + count ≤ length s.labels → labels_in t.labels first count ≡ labels_in s.labels first count

-- ---- two ways to grow

at-append : (xs ys : List (List Instr)) (n : ℕ) → n < length xs → unwrap_or (slice_get (xs ++ ys) n) [] ≡ unwrap_or (slice_get xs n) []
at-append [] ys n h = absurd (omega (arith, h))
at-append (x ∷ xs) ys zero h = refl
at-append (x ∷ xs) ys (suc n) h = at-append xs ys n (omega (arith, h))

pub at-seam : (xs : List (List Instr)) (x : List Instr) → unwrap_or (slice_get (xs ++ x ∷ []) (length xs)) [] ≡ x
at-seam [] x = refl
at-seam (y ∷ xs) x = at-seam xs x

in-append : (xs ys : List ℕ) (first count : ℕ) → first + count ≤ length xs → labels_in (xs ++ ys) first count ≡ labels_in xs first count
in-append xs ys first count h =
    ap (take count) (drop-append-le first xs ys (omega (arith, h)))
    ∙ take-append-le count (drop first xs) ys (omega (arith, h, length-drop first xs))

-- one more sequence
pub grows-each : (each : List (List Instr)) (now : List Instr) (labels : List ℕ) → Grows (record { each = each; labels = labels }) (record { each = each ++ now ∷ []; labels = labels })
grows-each each now labels = record {
  longer = omega (arith, length-append each (now ∷ []));
  each = λ n h. at-append each (now ∷ []) n h;
  labels = λ first count h. refl;
}

-- more labels
pub grows-labels : (each : List (List Instr)) (labels more : List ℕ) → Grows (record { each = each; labels = labels }) (record { each = each; labels = labels ++ more })
grows-labels each labels more = record {
  longer = omega arith;
  each = λ n h. refl;
  labels = λ first count h. in-append labels more first count h;
}

-- ---- what stays

module _ (s t : Sequences) (grows : Grows s t) where
  relabelled : (n : ℕ) (f : ℕ → Code) (xs : List Instr) → AllByRecursion (NamesBelow (length s.labels) n) xs → nested t.labels f xs ≡ nested s.labels f xs
  relabelled n f [] below = refl
  relabelled n f (i.Op o ∷ rest) below = ap (op o) (relabelled n f rest below.1)
  relabelled n f (i.Unreachable ∷ rest) below = ap unreachable (relabelled n f rest below.1)
  relabelled n f (i.Block result body ∷ rest) below = ap (block result (f body)) (relabelled n f rest below.1)
  relabelled n f (i.Loop result body ∷ rest) below = ap (loop result (f body)) (relabelled n f rest below.1)
  relabelled n f (i.If result then_body None ∷ rest) below = ap (if_then result (f then_body)) (relabelled n f rest below.1)
  relabelled n f (i.If result then_body (Some else_body) ∷ rest) below = ap (if_else result (f then_body) (f else_body)) (relabelled n f rest below.1)
  relabelled n f (i.Br label ∷ rest) below = ap (br label) (relabelled n f rest below.1)
  relabelled n f (i.BrIf label ∷ rest) below = ap (br_if label) (relabelled n f rest below.1)
  relabelled n f (i.BrTable first count default ∷ rest) below =
      ap₂ (λ (ls : List ℕ) (c : Code). br_table ls default c) (grows.labels first count below.0) (relabelled n f rest below.1)
  relabelled n f (i.Return ∷ rest) below = ap return (relabelled n f rest below.1)
  relabelled n f (i.Call index ∷ rest) below = ap (call index) (relabelled n f rest below.1)

  nested-stays : (n : ℕ) (f g : ℕ → Code) → ((k : ℕ) → k < n → f k ≡ g k) → (xs : List Instr) → AllByRecursion (NamesBelow (length s.labels) n) xs → nested t.labels f xs ≡ nested s.labels g xs
  nested-stays n f g same xs below = relabelled n f xs below ∙ nested-same s.labels (length s.labels) n f g same xs below

  module _ (lower : IsLower s) where
    pub named-below : (n : ℕ) → n ≤ length s.each → (k : ℕ) → k < n → named_below t n k ≡ named_below s n k
    named-below zero h k less = absurd (omega (arith, less))
    named-below (suc n) h k less =
        let there : k < length s.each = omega (arith, h, less) in
        named_below-any t k (suc n) less
        ∙ ap (λ (xs : List Instr). nested t.labels (named_below t k) xs) (grows.each k there)
        ∙ nested-stays k (named_below t k) (named_below s k)
        (λ j lt. let below : j < n = omega (arith, less, lt) in
        named_below-any t j k lt ∙ sym (named_below-any t j n below) ∙ named-below n (omega (arith, h)) j below ∙ named_below-any s j n below ∙ sym (named_below-any s j k lt))
        (sequence_at s k) (lower k there)
        ∙ sym (named_below-any s k (suc n) less)

    -- a number that is there names what it named
    pub named-stays : (k : ℕ) → k < length s.each → named t k ≡ named s k
    named-stays k h =
        named_below-any t k (length t.each) (omega (arith, h, grows.longer)) ∙ sym (named_below-any t k (length s.each) h)
        ∙ named-below (length s.each) (omega arith) k h

    -- so a sequence that names such numbers alone stands for what it stood for
    pub code-stays : (xs : List Instr) → AllByRecursion (NamesBelow (length s.labels) (length s.each)) xs → nested t.labels (named t) xs ≡ nested s.labels (named s) xs
    code-stays xs below = nested-stays (length s.each) (named t) (named s) named-stays xs below
