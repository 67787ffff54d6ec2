use Rattle.std.proofs.Common.{List, ℕ, ◌∙◌, ap, ap₂, reverse}
use Rattle.std.proofs.lemmas.List.{length-reverse}
use Rattle.qw_machine.specs.Inner.Stacked.{Stacked}
use Rattle.qw_machine.proofs.StackFacts.{reverse-take}
use Rattle.qw_machine.proofs.stack.Stack.truncate.Goals as goal

pub returns : goal.returns
returns g c =
    rw (← c.self.view_is, length-reverse)
    (ap₂ (λ (xs : List g.row.T.Denot) (n : ℕ). let s : Stacked g.row.T.Denot = record { values = xs; room = n } in s)
    (ap reverse c.truncate.ensures.items ∙ reverse-take c.args.kept c.self.inside.items.items) c.truncate.ensures.capacity)
