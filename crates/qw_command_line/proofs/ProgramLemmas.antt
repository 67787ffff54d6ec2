-- What a program is made of.
use Rattle.std.proofs.Common.{◌∙◌, ap, ap₂, rules}
use Rattle.clap.specs.Words.{App, with_subcommand}
use Rattle.clap.specs.Built.{AddsSubcommand}
use Rattle.clap.specs.declared.builder.command.Command.{Command}
use Rattle.qw_command_line.specs.Inner.Programs.{IsApp}

-- one more command
pub subcommand_added : (old sub new : Command) (above below : App) → IsApp old above → IsApp sub below → AddsSubcommand old sub new → IsApp new (with_subcommand above below.top)
subcommand_added old sub new above below of_old of_sub adds = record {
  is = adds.shape of_sub.local ∙ ap₂ with_subcommand of_old.is (ap (λ (a : App). a.top) of_sub.is);
  local = search (rules, adds.globals, of_old.local, of_sub.local);
}
