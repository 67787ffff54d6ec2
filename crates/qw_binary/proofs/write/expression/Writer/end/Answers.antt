use Rattle.std.proofs.Common.{◌≤◌, length, inl, inr, arith}
use Rattle.std.proofs.lemmas.List.{length-map}
use Rattle.qw_module.specs.Validity.{sequences_of}
use Rattle.qw_binary.proofs.FollowedSteps.{ends_early}
use Rattle.qw_binary.proofs.write.expression.Writer.end.Goals as goal
use Rattle.qw_binary.proofs.write.expression.Writer.end.Goals.{then-self-via-then-self, then-self-via-else-self+then-len-self}

pub returns-then-self-clause-refused : goal.returns-then-self-clause-refused
returns-then-self-clause-refused c =
    let w = c.args.self.now in
    let body = sequences_of c.args.body.now in
    λ e. ends_early body w c.requires.at c.requires.at_end
    (elim c.then-self.branch [
      | then-self-via-then-self v ↦ inl (λ same. v.if-self.true same)
      | then-self-via-else-self+then-len-self v ↦
          let short : length c.args.body.now.sequences.items ≤ w.ended = omega (arith, v.if-len-self.true, v.len.ensures, c.args.body.now.sequences.ok.0) in
          inr (rw length-map short)
    ])
