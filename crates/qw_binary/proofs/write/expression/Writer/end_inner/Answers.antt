use Rattle.std.proofs.Common.{◌≡◌, ◌∙◌, ◌∷◌, ◌++◌, [], Some, sym, ap, subst, slice_get, reverse, map, arith}
use Rattle.qw_module.specs.declared.instruction.Instr.TheVariants as i
use Rattle.qw_binary.specs.declared.read.expression.Opener.{Opener as Opening}
use Rattle.qw_binary.specs.declared.read.expression.Opener.TheVariants as by
use Rattle.std.proofs.lemmas.Option.{slice_get_within}
use Rattle.qw_module.specs.Syntax.{sequence_at}
use Rattle.qw_module.specs.Validity.{sequences_of}
use Rattle.qw_binary.specs.Inner.Writer.{open_of}
use Rattle.qw_binary.specs.Instructions.{instruction_of}
use Rattle.qw_binary.specs.Inner.Reader.{opener_of}
use Rattle.qw_binary.proofs.WriteExpression.{puts_inner}
use Rattle.qw_binary.proofs.FollowedSteps.{held, goes_other, puts_other}
use Rattle.qw_binary.proofs.write.expression.Writer.end_inner.Goals as goal

pub returns-in-Some-other_of-clause-written : goal.returns-in-Some-other_of-clause-written
returns-in-Some-other_of-clause-written c =
    let w = c.args.self.now in
    let a = c.args.around in
    let body = sequences_of c.args.body.now in
    let (ty, own, then_body, opened, is, made) = c.in-Some-other_of.ensures in
    let opener_is : c.in-Some-other_of.opener ≡ by.Second ty w.ended = cc in
    let items = c.in_ok-otherwise.ensures.around ∙ ap (λ (o : Opening). w.around.items ++ record { opener = o; sequence = a.sequence; place = a.place } ∷ []) opener_is in
    rw c.in_ok-otherwise.ensures.put
    (puts_other body a w c.otherwise.new.self ty c.args.out.now.items opened c.requires.present.0 c.requires.at_end c.requires.present.1 c.otherwise.ensures.kept.0 c.otherwise.ensures.kept.1 items c.in_ok-otherwise.ensures.place.1)

pub returns-in-Some-other_of-clause-follows : goal.returns-in-Some-other_of-clause-follows
returns-in-Some-other_of-clause-follows c =
    let w = c.args.self.now in
    let a = c.args.around in
    let body = sequences_of c.args.body.now in
    let (ty, own, then_body, opened, is, made) = c.in-Some-other_of.ensures in
    let opener_is : c.in-Some-other_of.opener ≡ by.Second ty w.ended = cc in
    let items = c.in_ok-otherwise.ensures.around ∙ ap (λ (o : Opening). w.around.items ++ record { opener = o; sequence = a.sequence; place = a.place } ∷ []) opener_is in
    let found : slice_get (sequence_at body a.sequence) a.place ≡ Some c.in-Some.holder = sym c.instruction_at.ensures.found ∙ c.in-Some.is in
    let it : c.in-Some.holder ≡ i.If ty w.ended (Some c.in-Some-other_of.second) = subst (λ (o : Opening). c.in-Some.holder ≡ instruction_of (opener_of o) c.in-Some-other_of.second) opener_is (c.holds.ensures.0 c.if-not-holds.false) in
    goes_other body a w c.requires.stands c.requires.present.0 c.requires.at_end c.requires.present.1 c.in-Some.holder found ty c.in-Some-other_of.second opened it
    c.otherwise.new.self c.otherwise.ensures.kept.0 c.otherwise.ensures.kept.1 items c.in_ok-otherwise.ensures.place.0 c.in_ok-otherwise.ensures.place.1

pub returns-clause-written : goal.returns-clause-written
returns-clause-written c =
    let w = c.args.self.now in
    let a = c.args.around in
    let body = sequences_of c.args.body.now in
    let around = reverse (map (open_of body) w.around.items) in
    let found : slice_get (sequence_at body a.sequence) a.place ≡ Some (instruction_of (opener_of a.opener) w.ended) = sym c.instruction_at.ensures.found ∙ c.in-Some.is ∙ ap Some (c.holds-2.ensures.0 c.if-not-holds-2.false) in
    rw (c.in_ok-push.ensures.items, c.requires.present.0)
    (puts_inner body w.ended w.labels w.place (opener_of a.opener) a.sequence a.place around c.args.out.now.items c.requires.present.1 c.requires.at_end found)

pub returns-clause-at : goal.returns-clause-at
returns-clause-at c =
    let w = c.args.self.now in
    let a = c.args.around in
    let body = sequences_of c.args.body.now in
    let found : slice_get (sequence_at body a.sequence) a.place ≡ Some c.in-Some.holder = sym c.instruction_at.ensures.found ∙ c.in-Some.is in
    record {
      stands = c.requires.stands.3;
      inside = omega (arith, slice_get_within (sequence_at body a.sequence) a.place c.in-Some.holder found);
      ended = omega (arith, c.requires.present.1);
      labels = c.requires.labels;
    }

pub returns-clause-follows : goal.returns-clause-follows
returns-clause-follows c =
    let w = c.args.self.now in
    let a = c.args.around in
    let body = sequences_of c.args.body.now in
    let found : slice_get (sequence_at body a.sequence) a.place ≡ Some c.in-Some.holder = sym c.instruction_at.ensures.found ∙ c.in-Some.is in
    held body a w c.requires.stands c.requires.present.0 c.requires.at_end c.requires.present.1 c.in-Some.holder found (c.holds-2.ensures.0 c.if-not-holds-2.false)
