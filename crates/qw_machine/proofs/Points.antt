-- What a point stands for, by its own operands and those below, and the code at an index.
use Rattle.std.proofs.Common.{◌≡◌, ◌≢◌, ℕ, ◌+◌, ◌<◌, List, ◌∷◌, ◌++◌, length, get_or, drop, take, None, Some, slice_get, refl, sym, ap, ◌∙◌}
use Rattle.std.proofs.Math.Seq.{drop-length}
use Rattle.std.proofs.lemmas.Option.{slice_get-get_or}
use Rattle.qw_module.specs.declared.instruction.Instr.{Instr}
use Rattle.qw_module.specs.declared.instruction.Instr.TheVariants as i
use Rattle.qw_module.specs.declared.module.Module.{Module}
use Rattle.qw_module.specs.Syntax.{Code, done, nested, Sequences, sequence_at, named, NamesBelow, IsNumbered}
use Rattle.qw_module.specs.Execution.{Running, settled}
use Rattle.qw_module.specs.Start.{body_of}
use Rattle.qw_machine.specs.Inner.Points.{code_in, code_at, instructions_at, Point, base_of, above, under, contexts_of, store_with, state_at, config_at}
use Rattle.qw_module.proofs.Numbered.{named-at}
use Rattle.qw_module.proofs.Sound.{settled-unfinished}
use Rattle.qw_machine.proofs.ListFacts.{all-at, drop-get, above-append, under-append}

-- ---- the code at an index
pub code_in-instruction : (sequences : Sequences) (number index : ℕ) (instruction : Instr) →
    slice_get (sequence_at sequences number) index ≡ Some instruction →
    code_in sequences number index ≡ nested sequences.labels (named sequences) (instruction ∷ drop (index + 1) (sequence_at sequences number))
code_in-instruction sequences number index instruction found =
    ap (nested sequences.labels (named sequences)) (drop-get (sequence_at sequences number) index instruction found)

pub code_in-end : (sequences : Sequences) (number index : ℕ) → index ≡ length (sequence_at sequences number) →
    code_in sequences number index ≡ done
code_in-end sequences number index ended =
    ap (λ (k : ℕ). nested sequences.labels (named sequences) (drop k (sequence_at sequences number))) ended
    ∙ ap (nested sequences.labels (named sequences)) (drop-length (sequence_at sequences number))

-- a number names its sequence from its first index on
pub code_in-first : (sequences : Sequences) → IsNumbered sequences → (number : ℕ) → number < length sequences.each →
    named sequences number ≡ code_in sequences number 0
code_in-first sequences numbered number h = named-at sequences numbered number h

-- an instruction of a numbered body names lower numbers
pub names_below-at : (sequences : Sequences) → IsNumbered sequences → (number index : ℕ) (instruction : Instr) → number < length sequences.each →
    slice_get (sequence_at sequences number) index ≡ Some instruction → NamesBelow (length sequences.labels) number instruction
names_below-at sequences numbered number index instruction h found =
    all-at (NamesBelow (length sequences.labels) number) (sequence_at sequences number) index instruction (numbered.lower number h) found

-- ---- what a point stands for, by its own operands and those below
pub state_at-split : (m : Module) (p : Point) (own below : List ℕ) → p.operands ≡ own ++ below → length below ≡ base_of p.awaiting →
    state_at m p ≡ settled (store_with m p.globals) (contexts_of m p.function p.awaiting below (take p.first_local p.locals))
    (code_at m p.function p.sequence p.index) own (drop p.first_local p.locals)
state_at-split m p own below are base =
    rw (are, above-append (base_of p.awaiting) own below base, under-append (base_of p.awaiting) own below base) refl

pub config_at-split : (m : Module) (p : Point) (own below : List ℕ) → p.operands ≡ own ++ below → length below ≡ base_of p.awaiting →
    config_at m p ≡ record {
      store = store_with m p.globals;
      code = code_at m p.function p.sequence p.index;
      operands = own;
      locals = drop p.first_local p.locals;
      contexts = contexts_of m p.function p.awaiting below (take p.first_local p.locals);
    }
config_at-split m p own below are base =
    rw (are, above-append (base_of p.awaiting) own below base, under-append (base_of p.awaiting) own below base) refl

-- ---- before the end of its sequence a point stands for its configuration
nested-more : (labels : List ℕ) (name : ℕ → Code) (instruction : Instr) (rest : List Instr) → nested labels name (instruction ∷ rest) ≢ done
nested-more labels name (i.If result then_body None) rest e = cc
nested-more labels name _ rest e = cc

code_in-unfinished : (sequences : Sequences) (number index : ℕ) → index < length (sequence_at sequences number) → code_in sequences number index ≢ done
code_in-unfinished sequences number index inside ended =
    let first : Instr = get_or (sequence_at sequences number) index i.Return in
    let code = code_in-instruction sequences number index first (slice_get-get_or (sequence_at sequences number) index i.Return inside) in
    nested-more sequences.labels (named sequences) first (drop (index + 1) (sequence_at sequences number)) (sym code ∙ ended)

pub state_at-running : (m : Module) (p : Point) → p.index < length (instructions_at m p.function p.sequence) → state_at m p ≡ Running (config_at m p)
state_at-running m p inside =
    settled-unfinished (store_with m p.globals) (contexts_of m p.function p.awaiting (under (base_of p.awaiting) p.operands) (take p.first_local p.locals))
    (code_at m p.function p.sequence p.index) (above (base_of p.awaiting) p.operands) (drop p.first_local p.locals)
    (code_in-unfinished (body_of m p.function) p.sequence p.index inside)
