-- Numbered bodies: the nested sequence that a number names is its flat one, with the numbers in it named likewise.
use Rattle.std.proofs.Common.{◌≡◌, ℕ, zero, suc, ◌<◌, List, [], ◌∷◌, length, Some, None, refl, sym, ap, ap₂, subst, ◌∙◌, ⊎_elim, arith}
use Rattle.std.proofs.lemmas.Bool.{eq-eqb, ne_eqb, cases_eq}
use Rattle.std.specs.List.{AllByRecursion}
use Rattle.qw_module.specs.declared.instruction.Instr.{Instr}
use Rattle.qw_module.specs.declared.instruction.Instr.TheVariants as i
use Rattle.qw_module.specs.Syntax.{Code, op, unreachable, block, loop, br, br_if, br_table, return, call, Sequences, labels_in, nested, sequence_at, named_below, NamesBelow, IsNumbered}
pub use Rattle.qw_module.specs.Syntax.{named}

-- the highest of the numbers below a bound names its own sequence
pub named_below-last : (sequences : Sequences) (n : ℕ) →
    named_below sequences (suc n) n ≡ nested sequences.labels (named_below sequences n) (sequence_at sequences n)
unfolding named_below
named_below-last sequences n = rw (eq-eqb n n refl) refl

-- the others name what they name below a lower bound
pub named_below-more : (sequences : Sequences) (n number : ℕ) → number < n →
    named_below sequences (suc n) number ≡ named_below sequences n number
unfolding named_below
named_below-more sequences n number h = rw (ne_eqb number n (λ e. omega arith)) refl

-- so what a number names is the same below all bounds above it
pub named_below-any : (sequences : Sequences) (number n : ℕ) → number < n →
    named_below sequences n number ≡ nested sequences.labels (named_below sequences number) (sequence_at sequences number)
named_below-any sequences number zero h = absurd (omega arith)
named_below-any sequences number (suc n) h = ⊎_elim
    (λ (e : number ≡ n). subst (λ (k : ℕ). named_below sequences (suc k) number ≡ nested sequences.labels (named_below sequences number) (sequence_at sequences number))
    e (named_below-last sequences number))
    (λ ne. let less : number < n = omega arith in
    named_below-more sequences n number less ∙ named_below-any sequences number n less)
    (cases_eq number n)

-- a sequence nests to the same where its numbers name the same
module _ (labels : List ℕ) (count n : ℕ) (f g : ℕ → Code) (same : (k : ℕ) → k < n → f k ≡ g k) where
  pub nested-same : (sequence : List Instr) → AllByRecursion (NamesBelow count n) sequence → nested labels f sequence ≡ nested labels g sequence
  nested-same [] below = refl
  nested-same (i.Op o ∷ rest) below = ap (op o) (nested-same rest below.1)
  nested-same (i.Unreachable ∷ rest) below = ap unreachable (nested-same rest below.1)
  nested-same (i.Block result body ∷ rest) below = ap₂ (block result) (same body below.0) (nested-same rest below.1)
  nested-same (i.Loop result body ∷ rest) below = ap₂ (loop result) (same body below.0) (nested-same rest below.1)
  nested-same (i.If result then_body None ∷ rest) below =
      let first : f then_body ≡ g then_body = same then_body below.0 in
      rw (first, nested-same rest below.1) refl
  nested-same (i.If result then_body (Some else_body) ∷ rest) below =
      let first : f then_body ≡ g then_body = same then_body below.0.0 in
      let second : f else_body ≡ g else_body = same else_body below.0.1 in
      rw (first, second, nested-same rest below.1) refl
  nested-same (i.Br label ∷ rest) below = ap (br label) (nested-same rest below.1)
  nested-same (i.BrIf label ∷ rest) below = ap (br_if label) (nested-same rest below.1)
  nested-same (i.BrTable first many default ∷ rest) below = ap (br_table (labels_in labels first many) default) (nested-same rest below.1)
  nested-same (i.Return ∷ rest) below = ap return (nested-same rest below.1)
  nested-same (i.Call index ∷ rest) below = ap (call index) (nested-same rest below.1)

-- In a numbered body each number names its flat sequence, nested by the same naming.
pub named-at : (sequences : Sequences) → IsNumbered sequences → (number : ℕ) → number < length sequences.each →
    named sequences number ≡ nested sequences.labels (named sequences) (sequence_at sequences number)
named-at sequences numbered number h = named_below-any sequences number (length sequences.each) h
    ∙ nested-same sequences.labels (length sequences.labels) number (named_below sequences number) (named sequences)
    (λ k less. named_below-any sequences k number less ∙ sym (named_below-any sequences k (length sequences.each) (omega arith)))
    (sequence_at sequences number) (numbered.lower number h)
