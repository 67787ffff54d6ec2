-- When the code of a numbered body is one constant.
use Rattle.std.proofs.Common.{◌≡◌, ◌∙◌, ℕ, ◌-◌, ◌<◌, List, [], ◌∷◌, length, Option, Some, None, slice_get, refl, sym, ap, arith}
use Rattle.std.specs.Prelude.{◌≢◌, MatchOption}
use Rattle.std.specs.Global.{Vec}
use Rattle.std.proofs.lemmas.List.{length-map}
use Rattle.std.proofs.lemmas.Option.{slice_get-map}
use Rattle.qw_module.specs.declared.instruction.Const.{Const}
use Rattle.qw_module.specs.declared.instruction.Op.{Op}
use Rattle.qw_module.specs.declared.instruction.Op.TheVariants as o
use Rattle.qw_module.specs.declared.instruction.Instr.{Instr}
use Rattle.qw_module.specs.declared.instruction.Instr.TheVariants as i
use Rattle.qw_module.specs.declared.module.Body.{Body}
use Rattle.qw_module.specs.Syntax.{Code, done, op, nested, named, sequence_at, IsNumbered}
use Rattle.qw_module.specs.Validity.{sequences_of, code_of_body}
use Rattle.qw_module.proofs.Numbered.{named-at}
use Rattle.qw_valid.specs.Inner.Initial.{constant_operator, constant_instruction, constant_in}

module _ (labels : List ℕ) (inner : ℕ → Code) where
  -- a sequence of some instructions has not ended
  goes_on : (x : Instr) (rest : List Instr) → nested labels inner (x ∷ rest) ≢ done
  goes_on (i.If result first None) rest = λ e. cc
  goes_on _ rest = λ e. cc

  -- what a sequence begins with whose code is one constant
  begins : (x : Instr) (rest : List Instr) (v : Const) → nested labels inner (x ∷ rest) ≡ op (o.Const v) done → (x ≡ i.Op (o.Const v)) × (nested labels inner rest ≡ done)
  begins (i.Op operator) rest v e = (cc, cc)
  begins (i.If result first None) rest v e = absurd cc
  begins _ rest v e = absurd cc

  found : (sequence : List Instr) (v : Const) → nested labels inner sequence ≡ op (o.Const v) done → constant_in sequence ≡ Some v
  found [] v e = absurd cc
  found (x ∷ []) v e = ap constant_instruction (begins x [] v e).0
  found (x ∷ y ∷ rest) v e = absurd (goes_on y rest (begins x (y ∷ rest) v e).1)

  operator-is : (operator : Op) (v : Const) → constant_operator operator ≡ Some v → nested labels inner (i.Op operator ∷ []) ≡ op (o.Const v) done
  operator-is (o.Const value) v e = let same : value ≡ v = cc in ap (λ (k : Const). op (o.Const k) done) same
  operator-is _ v e = absurd cc

  stands_for : (sequence : List Instr) (v : Const) → constant_in sequence ≡ Some v → nested labels inner sequence ≡ op (o.Const v) done
  stands_for (x ∷ y ∷ rest) v e = absurd cc
  stands_for (i.Op operator ∷ []) v e = operator-is operator v e
  stands_for _ v e = absurd cc

module _ (body : Body) (kept : Vec Instr) (numbered : IsNumbered (sequences_of body)) (read : slice_get body.sequences.items (length body.sequences.items - 1) ≡ Some kept) where
  -- the code of a body is that of its last sequence
  last_code : code_of_body body ≡ nested body.labels.items (named (sequences_of body)) kept.items
  last_code =
      let count : length (sequences_of body).each ≡ length body.sequences.items = length-map body.sequences.items (λ (sequence : Vec Instr). sequence.items) in
      let last : ℕ = length body.sequences.items - 1 in
      let within : last < length (sequences_of body).each = omega (arith, numbered.some, count) in
      let same : sequence_at (sequences_of body) last ≡ kept.items = rw (slice_get-map, read) refl in
      ap (λ n. named (sequences_of body) (n - 1)) count ∙ named-at (sequences_of body) numbered last within
      ∙ ap (nested body.labels.items (named (sequences_of body))) same

  constant_found : (v : Const) → code_of_body body ≡ op (o.Const v) done → constant_in kept.items ≡ Some v
  constant_found v e = found body.labels.items (named (sequences_of body)) kept.items v (sym last_code ∙ e)

  constant_is : (v : Const) → constant_in kept.items ≡ Some v → code_of_body body ≡ op (o.Const v) done
  constant_is v e = last_code ∙ stands_for body.labels.items (named (sequences_of body)) kept.items v e

  pub constant_told : (told : Option Const) → told ≡ constant_in kept.items → MatchOption told ((v : Const) → code_of_body body ≢ op (o.Const v) done) (λ v. code_of_body body ≡ op (o.Const v) done)
  constant_told None e = λ v code. let other : Some v ≡ None = sym (constant_found v code) ∙ sym e in cc
  constant_told (Some v) e = constant_is v (sym e)
