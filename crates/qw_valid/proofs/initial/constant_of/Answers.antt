use Rattle.std.proofs.Common.{◌∙◌, ◌-◌, length, List, ap, sym, subst, Some, ◌≡◌, slice_get}
use Rattle.std.specs.Global.{Vec}
use Rattle.qw_module.specs.declared.instruction.Instr.{Instr}
use Rattle.qw_valid.specs.Inner.Initial.{constant_in}
use Rattle.qw_valid.proofs.InitialConstants.{constant_told}
use Rattle.qw_valid.proofs.initial.constant_of.Goals as goal

pub returns : goal.returns
returns c =
    let read = subst (λ (xs : List (Vec Instr)). slice_get xs (length xs - 1) ≡ Some c.in_ok-last.last.now) c.deref.ensures.value (sym c.in_ok-last.ensures.value) in
    constant_told c.args.body.now c.in_ok-last.last.now c.requires read c.constant_alone.result (c.constant_alone.ensures ∙ ap constant_in c.deref-2.ensures.value)
