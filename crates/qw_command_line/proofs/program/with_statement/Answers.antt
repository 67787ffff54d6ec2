use Rattle.std.proofs.Common.{◌≡◌, ◌∙◌, ap₂, refl, rules}
use Rattle.std.proofs.lemmas.Result.{IfOk-weaker}
use Rattle.clap.specs.Simple.{with_rule}
use Rattle.clap.specs.Walk.{rule_of}
use Rattle.qw_command_line.specs.Words.{statement_option}
use Rattle.qw_command_line.proofs.program.with_statement.Goals as goal

pub returns : goal.returns
returns c =
    let needed : rule_of c.required.result ≡ statement_option = search rules in
    let rule : rule_of c.help-statement.result ≡ statement_option = (rw c.help-statement.ensures refl) ∙ needed in
    IfOk-weaker c.arg.result _ _ (λ more adds app old.
    let first = c.in_ok-command.ensures app old in
    let second = c.in_ok-command-2.ensures _ first in
    record {
      is = adds.shape (search rules) ∙ ap₂ with_rule second.is rule;
      local = search (rules, adds.globals, second.local);
    }) c.arg.ensures
