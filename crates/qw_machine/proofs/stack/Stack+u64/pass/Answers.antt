use Rattle.std.proofs.Common.{◌≡◌, ℕ, ◌≤◌, ◌-◌, ◌++◌, List, length, take, reverse, ap, ap₂, ◌∙◌, arith}
use Rattle.std.proofs.lemmas.List.{length-reverse}
use Rattle.qw_machine.specs.Inner.Stacked.{Stacked}
use Rattle.qw_machine.proofs.StackFacts.{read-last, reverse-front}
use Rattle.qw_machine.proofs.stack.Stack+u64.pass.Goals as goal

pub returns-clause-values : goal.returns-clause-values
returns-clause-values c =
    let items = c.self.inside.items.items in
    let long : c.len.result ≡ length items = c.len.ensures ∙ c.self.inside.items.ok.0 in
    let fewer : c.args.count ≤ length items = omega (arith, length-reverse items, ap (λ (s : Stacked ℕ). length s.values) c.self.view_is, c.requires.there) in
    rw (← c.self.view_is)
    (ap₂ (λ (xs : List ℕ) (n : ℕ). let s : Stacked ℕ = record { values = xs; room = n } in s)
    (ap reverse (c.truncate.ensures.items ∙ ap (λ (n : ℕ). take (n - c.args.count) items) long) ∙ reverse-front c.args.count items fewer) c.truncate.ensures.capacity)

pub returns-clause-passed : goal.returns-clause-passed
returns-clause-passed c =
    let items = c.self.inside.items.items in
    let long : c.len.result ≡ length items = c.len.ensures ∙ c.self.inside.items.ok.0 in
    rw (← c.self.view_is)
    (c.loop-value.invariant.0
    ∙ ap (λ (xs : List ℕ). c.args.to.now.items ++ xs)
    (read-last items c.deref.result.now c.len.result c.args.count c.loop-value.value-index c.deref.ensures.value long c.loop-value-test.false))
