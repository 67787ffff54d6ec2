-- An instruction and the labels of a body, read in the arrays that hold them.
use Rattle.std.proofs.Common.{◌≡◌, ℕ, ◌<◌, List, length, get_or, Some, slice_get, sym, ap, ◌∙◌, subst}
use Rattle.std.proofs.lemmas.Option.{slice_get-get_or}
use Rattle.qw_module.specs.declared.instruction.Instr.{Instr}
use Rattle.qw_module.specs.declared.module.Module.{Module}
use Rattle.qw_module.specs.declared.module.Function.{Function}
use Rattle.qw_module.specs.Start.{body_of}
use Rattle.qw_module.specs.Syntax.{Sequences}
use Rattle.qw_machine.proofs.Reading.{body-read}

-- an instruction of the sequence that a slice holds
pub instruction-there : {whole slice : List Instr} {index : ℕ} {instruction : Instr} → slice ≡ whole → index < length whole → (default : Instr) →
    get_or slice index default ≡ instruction → slice_get whole index ≡ Some instruction
instruction-there {whole} {slice} {index} same within default found =
    let long : index < length slice = subst (λ (xs : List Instr). index < length xs) (sym same) within in
    subst (λ (xs : List Instr). slice_get xs index ≡ Some (get_or slice index default)) same (slice_get-get_or slice index default long) ∙ ap (λ (x : Instr). Some x) found

module _ (m : Module) {number : ℕ} {function : Function} (inside : number < length m.functions.items) (read : function ≡ get_or m.functions.items number function) where
  pub labels-read : (labels : List ℕ) → labels ≡ function.body.labels.items → (body_of m number).labels ≡ labels
  labels-read labels same = ap (λ (s : Sequences). s.labels) (body-read m number function inside read) ∙ sym same
