use Rattle.clap.specs.Words.{found_of}
use Rattle.qw_command_line.proofs.ReadLemmas.{no_value, value_found}
use Rattle.qw_command_line.proofs.read.value.Goals as goal

pub returns-in-Some : goal.returns-in-Some
returns-in-Some c = value_found (found_of c.args.matches.now) c.args.id.now c.get_str.result c.in-Some.value c.get_str.ensures c.in-Some.is

pub returns-in-None : goal.returns-in-None
returns-in-None c = no_value (found_of c.args.matches.now) c.args.id.now c.get_str.result c.no_command.result c.get_str.ensures c.in-None.is c.no_command.ensures
