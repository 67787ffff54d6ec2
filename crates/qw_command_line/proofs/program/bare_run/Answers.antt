use Rattle.std.proofs.Common.{codes, rules}
use Rattle.clap.specs.Simple.{new_app}
use Rattle.std.proofs.lemmas.Result.{IfOk-weaker}
use Rattle.qw_command_line.proofs.program.bare_run.Goals as goal

pub returns : goal.returns
returns c =
    let first = c.in_ok-run.ensures (new_app (codes "run")) (record { is = search rules; local = search rules }) in
    let second = c.in_ok-run-2.ensures _ first in
    IfOk-weaker c.with_place-3.result _ _ (λ run last. last _ second) c.with_place-3.ensures
