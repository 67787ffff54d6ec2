use Rattle.std.proofs.Common.{Vec, Global, ℕ, refl, ◌∙◌}
use Rattle.std.proofs.lemmas.Result.{IfOk-weaker}
use Rattle.qw_sink.proofs.ChainLemmas.{part-whole}
use Rattle.qw_sink.proofs.ordered.with_values.Goals as goal

pub returns : goal.returns
returns c =
    IfOk-weaker c.with_lines.result _ _
    (λ (whole : Vec ℕ Global) is.
    part-whole c.args.report.items c.as_str.result.now c.in_ok-report.report.items whole.items c.args.number _ c.args.header.now c.args.rows.now
    is c.in_ok-report.ensures (c.as_str.ensures.value ∙ c.in_ok-headline.ensures) refl)
    c.with_lines.ensures
