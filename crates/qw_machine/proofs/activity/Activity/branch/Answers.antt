use Rattle.std.proofs.Common.{◌≡◌, ◌∙◌, sym, ap, ◌-◌, length, subst, ◌+◌, ◌≤◌, arith}
use Rattle.std.proofs.lemmas.Option.{slice_get_within}
use Rattle.qw_machine.specs.declared.activity.Entry.{Entry}
use Rattle.qw_machine.specs.declared.activity.Awaiting.{Awaiting}
use Rattle.qw_machine.specs.declared.activity.Awaiting.TheVariants.{Label}
use Rattle.qw_module.specs.Numbers.{truth}
use Rattle.qw_machine.specs.Inner.Stacked.{Stacked}
use Rattle.qw_machine.proofs.ListFacts.{first_dropped}
use Rattle.qw_machine.proofs.activity.Activity.branch.Goals as goal

pub unwind-requires-clause-there : goal.unwind-requires-clause-there
unwind-requires-clause-there c =
    let awaiting = c.args.self.now.awaiting.values in
    let entry = c.requires.there.0 in
    let within = slice_get_within awaiting c.args.index (Label entry) c.requires.there.1 in
    let same : length awaiting - (c.len.result - c.args.index) ≡ c.args.index = omega arith in
    let cut = sym (ap (λ (s : Stacked Awaiting). s.values) c.truncate.ensures) ∙ c.in-Label.ensures.popped in
    let e = first_dropped awaiting c.args.index _ (Label entry) (Label c.in-Label.entry) _ c.requires.there.1 same cut in
    let is : c.in-Label.entry ≡ entry = cc e in
    subst (λ (x : Entry). x.base + truth x.takes ≤ length c.args.self.now.operands.values) (sym is) c.requires.there.2

pub returns-in_default-clause-jump : goal.returns-in_default-clause-jump
returns-in_default-clause-jump c =
    let awaiting = c.args.self.now.awaiting.values in
    let entry = c.requires.there.0 in
    let within = slice_get_within awaiting c.args.index (Label entry) c.requires.there.1 in
    let same : length awaiting - (c.len.result - c.args.index) ≡ c.args.index = omega arith in
    let cut = sym (ap (λ (s : Stacked Awaiting). s.values) c.truncate.ensures) ∙ c.in_default.ensures.popped in
    let e = first_dropped awaiting c.args.index _ (Label entry) _ _ c.requires.there.1 same cut in
    absurd (cc e)
