use Rattle.std.proofs.Common.{◌≡◌, ◌∙◌, ap₂, rules}
use Rattle.std.proofs.lemmas.Result.{IfOk-weaker}
use Rattle.clap.specs.Simple.{with_rule}
use Rattle.clap.specs.Walk.{rule_of}
use Rattle.qw_command_line.specs.Words.{stats_option}
use Rattle.qw_command_line.proofs.program.with_stats.Goals as goal

pub returns : goal.returns
returns c =
    let rule : rule_of c.help-stats.result ≡ stats_option = search rules in
    IfOk-weaker c.arg.result _ _ (λ more adds app old. record {
      is = adds.shape (search rules) ∙ ap₂ with_rule old.is rule;
      local = search (rules, adds.globals, old.local);
    }) c.arg.ensures
