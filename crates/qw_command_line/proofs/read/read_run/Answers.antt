use Rattle.std.proofs.Common.{Ok, Err}
use Rattle.clap.specs.Words.{found_of, rows_of}
use Rattle.qw_command_line.proofs.ReadLemmas.{places_read}
use Rattle.qw_command_line.proofs.read.read_run.Goals as goal

pub returns-in-Ok : goal.returns-in-Ok
returns-in-Ok c = places_read (rows_of (found_of c.args.matches.now)) _ _ _ (Ok c.in-Ok.words) c.in_ok-schema.ensures c.in_ok-folder.ensures c.in_ok-queries.ensures c.in-Ok.ensures

pub returns-in-Err : goal.returns-in-Err
returns-in-Err c = places_read (rows_of (found_of c.args.matches.now)) _ _ _ (Err c.in-Err.number) c.in_ok-schema.ensures c.in_ok-folder.ensures c.in_ok-queries.ensures c.in-Err.ensures
