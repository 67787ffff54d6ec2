use Rattle.std.proofs.Common.{◌≡◌, ◌≤◌, ℕ, ◌+◌, ◌∙◌, sym, subst, inl, inr}
use Rattle.std.proofs.lemmas.List.{length-map}
use Rattle.std.specs.Prelude.{length}
use Rattle.qw_module.specs.Validity.{sequences_of}
use Rattle.qw_binary.proofs.WriteExpression.{puts_outermost}
use Rattle.qw_module.specs.Syntax.{sequence_at}
use Rattle.qw_binary.proofs.FollowedSteps.{ends_all, ends_too_early}
use Rattle.qw_binary.proofs.write.expression.Writer.end_outermost.Goals as goal
use Rattle.qw_binary.proofs.write.expression.Writer.end_outermost.Goals.{then-self-len-via-then-self-len, then-self-len-via-else-self-len+then-self-len-2}

pub returns-clause-written : goal.returns-clause-written
returns-clause-written c =
    let w = c.args.self.now in
    let body = sequences_of c.args.body.now in
    let all : w.ended + 1 ≡ length body.each = c.if-self-len.false ∙ c.len.ensures ∙ c.args.body.now.sequences.ok.0 ∙ sym (length-map c.args.body.now.sequences.items _) in
    rw (c.in_ok-push.ensures.items, c.requires.outermost.0, c.requires.outermost.1)
    (puts_outermost body w.ended w.labels w.place c.args.out.now.items all (c.if-self-len-2.false ∙ c.len-else-self-len.ensures ∙ c.args.body.now.labels.ok.0) c.requires.at_end)

pub returns-clause-follows : goal.returns-clause-follows
returns-clause-follows c =
    let w = c.args.self.now in
    let body = sequences_of c.args.body.now in
    let past = subst (λ (k : ℕ). length (sequence_at body k) ≤ w.place) (sym c.requires.outermost.1) c.requires.at_end in
    ends_all body w c.requires.at c.requires.outermost.0 past

pub returns-then-self-len-clause-refused : goal.returns-then-self-len-clause-refused
returns-then-self-len-clause-refused c =
    let w = c.args.self.now in
    let body = sequences_of c.args.body.now in
    let past = subst (λ (k : ℕ). length (sequence_at body k) ≤ w.place) (sym c.requires.outermost.1) c.requires.at_end in
    λ e. ends_too_early body w c.requires.at c.requires.outermost.0 past
    (elim c.then-self-len.branch [
      | then-self-len-via-then-self-len v ↦ inl (λ all. v.if-self-len.true (all ∙ length-map c.args.body.now.sequences.items _ ∙ sym c.args.body.now.sequences.ok.0 ∙ sym c.len.ensures))
      | then-self-len-via-else-self-len+then-self-len-2 v ↦ inr (λ every. v.if-self-len-2.true (every ∙ sym c.args.body.now.labels.ok.0 ∙ sym v.len-else-self-len.ensures))
    ])
