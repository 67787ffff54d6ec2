use Rattle.std.proofs.Common.{sym, subst}
use Rattle.std.proofs.lemmas.Result.{on_ok_weaker, IfErr-weaker}
use Rattle.qw_octet_grammar.specs.Grammar.{goes_on, octet}
use Rattle.qw_octet_grammar.specs.Writing.{Puts}
use Rattle.qw_module.specs.Validity.{sequences_of}
use Rattle.qw_binary.specs.Instructions.{instruction}
use Rattle.qw_binary.specs.Inner.Writer.{progress_of}
use Rattle.qw_binary.specs.Inner.Reader.{opener_of}
use Rattle.qw_binary.specs.Inner.Followed.{Passes}
use Rattle.qw_binary.proofs.FollowedSteps.{opens, no_opening}
use Rattle.qw_binary.proofs.write.expression.Writer.open.Goals as goal

pub returns-clause-written : goal.returns-clause-written
returns-clause-written c =
    let w = c.args.self.now in
    let body = sequences_of c.args.body.now in
    on_ok_weaker c.begin.result
    (λ h. subst (λ r. Puts (octet (instruction (progress_of body w))) (goes_on r) c.args.out.now.items c.put_opening.new.out.items) (sym (h body)) (c.in_ok-put_opening.ensures (progress_of body w)))
    c.begin.ensures.begun

pub returns-clause-at : goal.returns-clause-at
returns-clause-at c =
    let (holder, at, holds) = c.requires.holds in
    on_ok_weaker c.begin.result (λ h. h (sequences_of c.args.body.now) holder c.requires.at at holds) c.begin.ensures.at

pub returns-clause-follows : goal.returns-clause-follows
returns-clause-follows c =
    let w = c.args.self.now in
    let body = sequences_of c.args.body.now in
    let (holder, at, holds) = c.requires.holds in
    on_ok_weaker c.begin.result
    (λ h. subst (λ r. Passes body (goes_on (progress_of body w)) (goes_on r)) (sym (h body)) (opens body w c.requires.at holder at (opener_of c.args.opener) c.requires.fresh c.args.number holds))
    c.begin.ensures.begun

pub returns-clause-refused : goal.returns-clause-refused
returns-clause-refused c =
    let w = c.args.self.now in
    let body = sequences_of c.args.body.now in
    let (holder, at, holds) = c.requires.holds in
    IfErr-weaker c.begin.result _ _ (λ e h same. no_opening body w c.requires.at holder at (opener_of c.args.opener) c.requires.fresh c.args.number holds (h same)) c.begin.ensures.refused
