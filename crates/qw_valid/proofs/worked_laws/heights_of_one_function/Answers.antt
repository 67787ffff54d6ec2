use Rattle.std.proofs.Common.{◌≡◌, ℕ, zero, suc, List, [], ◌∷◌, length, Some, slice_get, refl, sym, ap, subst, arith}
use Rattle.std.proofs.lemmas.Option.{same_Some}
use Rattle.qw_module.specs.declared.instruction.Op.TheVariants as o
use Rattle.qw_module.specs.declared.instruction.Const.TheVariants as const
use Rattle.qw_module.specs.declared.module.Function.{Function}
use Rattle.qw_module.specs.declared.module.Module.{Module}
use Rattle.qw_module.specs.Syntax.{Code, done, op}
use Rattle.qw_module.specs.Typing.{Signature}
use Rattle.qw_valid.specs.Heights.{StaysWithin, AreHeightsOf}
use Rattle.qw_module.specs.Validity.{code_of_body, outside_of, signature_in}
use Rattle.qw_valid.specs.declared.heights.Heights.{Heights}
use Rattle.qw_valid.proofs.worked_laws.heights_of_one_function.Goals as goal

abbrev body : Code
body = op (o.Const (const.I32 7)) (op o.Drop done)

bounds : (m : Module) (f : Function) → signature_in m f.type_index ≡ record { params = []; results = [] } → code_of_body f.body ≡ body → AreHeightsOf m f 1 0
bounds m f signature code = record {
  body_within = subst (λ (c : Code). StaysWithin ((outside_of m).functions) 1 0 c 0) (sym code) (omega arith, (omega arith, omega arith));
  results_within = omega (arith, ap (λ (s : Signature). length s.results) signature);
}

only : (fs : List Function) (f g : Function) (hs : List Heights) (h : Heights) (number : ℕ) → fs ≡ f ∷ [] → hs ≡ (record { operands = 1; labels = 0 }) ∷ [] →
    slice_get fs number ≡ Some g → slice_get hs number ≡ Some h → (f ≡ g) × (record { operands = 1; labels = 0 } ≡ h)
only fs f g hs h zero e k found there = (same_Some f g (rw e at found), same_Some _ h (rw k at there))
only fs f g hs h (suc number) e k found there = let none = rw e at found in cc none

each-is : (m : Module) (f : Function) (number : ℕ) (g : Function) (h : Heights) → AreHeightsOf m f 1 0 → (f ≡ g) × (record { operands = 1; labels = 0 } ≡ h) →
    AreHeightsOf m g h.operands h.labels
each-is m f number g h are same = subst (λ (x : Function). AreHeightsOf m x h.operands h.labels) same.0 (subst (λ (x : Heights). AreHeightsOf m f x.operands x.labels) same.1 are)

pub returns-clause-one : goal.returns-clause-one
returns-clause-one c = λ m f e signature code. record {
  count = omega (arith, ap (λ (fs : List Function). length fs) e);
  each = λ number g h found there. each-is m f number g h (bounds m f signature code) (only m.functions.items f g ((record { operands = 1; labels = 0 }) ∷ []) h number e refl found there);
}

pub returns-clause-not_none : goal.returns-clause-not_none
returns-clause-not_none c = λ m f e code have.
    let are = have.each 0 f (record { operands = 0; labels = 0 }) (ap (λ (fs : List Function). slice_get fs 0) e) refl in
    let within : StaysWithin ((outside_of m).functions) 0 0 body 0 = subst (λ (x : Code). StaysWithin ((outside_of m).functions) 0 0 x 0) code are.body_within in
    omega (arith, within.1.0)

pub returns-clause-not_left_out : goal.returns-clause-not_left_out
returns-clause-not_left_out c = λ m f e have. omega (arith, have.count, ap (λ (fs : List Function). length fs) e)

pub returns-clause-not_of_more : goal.returns-clause-not_of_more
returns-clause-not_of_more c = λ m e have. omega (arith, have.count, ap (λ (fs : List Function). length fs) e)
