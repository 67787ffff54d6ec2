use Rattle.std.proofs.Common.{◌∙◌}
use Rattle.std.specs.Prelude.{◌==◌, is_some}
use Rattle.std.proofs.lemmas.Bool.{eq-eqb, ne_eqb}
use Rattle.qw_scan.proofs.OutlineLemmas.{complete_test, first_or, second_or}
use Rattle.qw_scan.proofs.outline.Outline.is_complete.Goals as goal

pub returns-then-self-eq0 : goal.returns-then-self-eq0
returns-then-self-eq0 c = λ whole outline.
    let o = c.args.self.now in
    first_or (o.own == 0) (is_some o.codes) (eq-eqb o.own 0 c.if-self-eq0.true) ∙ complete_test whole o outline

pub returns-else-self-eq0 : goal.returns-else-self-eq0
returns-else-self-eq0 c = λ whole outline.
    let o = c.args.self.now in
    c.is_some.ensures ∙ second_or (o.own == 0) (is_some o.codes) (ne_eqb o.own 0 c.if-self-eq0.false) ∙ complete_test whole o outline
