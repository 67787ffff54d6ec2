use Rattle.std.proofs.Common.{◌∙◌, ap, rules}
use Rattle.std.proofs.lemmas.Result.{IfOk-weaker}
use Rattle.clap.specs.Simple.{app_of_fields}
use Rattle.qw_command_line.specs.LayoutWords.{bare_layout_program}
use Rattle.qw_command_line.specs.Inner.Programs.{IsApp}
use Rattle.qw_command_line.proofs.program.layout_program.Goals as goal

pub returns : goal.returns
returns c =
    let nameless : IsApp c.no_binary_name.result bare_layout_program = record { is = search rules; local = search rules } in
    let bare : IsApp c.in_ok-program.program bare_layout_program = record {
      is = (ap app_of_fields c.in_ok-program.ensures.0) ∙ nameless.is;
      local = search (rules, c.in_ok-program.ensures.0, nameless.local);
    } in
    IfOk-weaker c.with_statement.result _ _ (λ program last. last _ bare) c.with_statement.ensures
