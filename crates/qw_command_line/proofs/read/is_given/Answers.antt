use Rattle.std.proofs.Common.{refl}
use Rattle.clap.specs.Words.{found_of}
use Rattle.qw_command_line.proofs.ReadLemmas.{none_found, value_found}
use Rattle.qw_command_line.proofs.read.is_given.Goals as goal

pub returns-in-Some : goal.returns-in-Some
returns-in-Some c =
    let found = value_found (found_of c.args.matches.now) c.args.id.now c.get_str.result c.in-Some.text c.get_str.ensures c.in-Some.is in
    rw found c.eq.ensures

pub returns-in-None : goal.returns-in-None
returns-in-None c =
    let none = none_found (found_of c.args.matches.now) c.args.id.now c.get_str.result c.get_str.ensures c.in-None.is in
    rw none refl
