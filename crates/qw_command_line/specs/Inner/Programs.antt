-- Mirrors `program::program` and the commands of it: what a clap command is made of.
use Rattle.std.specs.Prelude.{◌≡◌, false}
use Rattle.clap.specs.Words.{App, app_of}
use Rattle.clap.specs.declared.builder.command.Command.{Command}
use Rattle.clap.specs.declared.builder.command.Command.TheViews.{out-Command as fields_of}

-- a parse reads this of the command, which has no argument of all subcommands
pub record IsApp (command : Command) (app : App) : Type 0 where
  pub is : app_of command ≡ app
  pub local : (fields_of command).has_globals ≡ false
