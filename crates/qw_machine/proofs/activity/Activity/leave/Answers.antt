use Rattle.std.proofs.Common.{◌≡◌, ◌∙◌, refl, sym, ap, ◌-◌, length, subst, ◌+◌, ◌≤◌}
use Rattle.qw_machine.specs.declared.activity.Frame.{Frame}
use Rattle.qw_machine.specs.declared.activity.Awaiting.{Awaiting}
use Rattle.qw_machine.specs.declared.activity.Awaiting.TheVariants.{Call}
use Rattle.qw_module.specs.Numbers.{truth}
use Rattle.qw_machine.specs.Inner.Stacked.{Stacked}
use Rattle.qw_machine.proofs.ListFacts.{first_dropped}
use Rattle.qw_machine.proofs.activity.Activity.leave.Goals as goal

pub unwind-requires-clause-there : goal.unwind-requires-clause-there
unwind-requires-clause-there c =
    let awaiting = c.args.self.now.awaiting.values in
    let caller = c.requires.there.caller in
    let cut = sym (ap (λ (s : Stacked Awaiting). s.values) c.truncate.ensures) ∙ c.in-Call.ensures.popped in
    let e = first_dropped awaiting (length awaiting - c.args.self.now.floor) _ (Call caller) (Call c.in-Call.caller) _ c.requires.there.there refl cut in
    let is : c.in-Call.caller ≡ caller = cc e in
    subst (λ (x : Frame). x.base + truth x.leaves ≤ length c.args.self.now.operands.values) (sym is) c.requires.there.operands

pub returns-in_default-clause-returned : goal.returns-in_default-clause-returned
returns-in_default-clause-returned c =
    let awaiting = c.args.self.now.awaiting.values in
    let caller = c.requires.there.caller in
    let cut = sym (ap (λ (s : Stacked Awaiting). s.values) c.truncate.ensures) ∙ c.in_default.ensures.popped in
    let e = first_dropped awaiting (length awaiting - c.args.self.now.floor) _ (Call caller) _ _ c.requires.there.there refl cut in
    absurd (cc e)
