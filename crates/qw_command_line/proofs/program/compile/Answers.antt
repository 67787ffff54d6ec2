use Rattle.std.proofs.Common.{codes, rules}
use Rattle.clap.specs.Simple.{new_app}
use Rattle.std.proofs.lemmas.Result.{IfOk-weaker}
use Rattle.qw_command_line.proofs.program.compile.Goals as goal

pub returns : goal.returns
returns c = IfOk-weaker c.with_statement.result _ _ (λ compile last. last (new_app (codes "compile")) (record { is = search rules; local = search rules })) c.with_statement.ensures
