use Rattle.clap.specs.Words.{found_of, rows_of}
use Rattle.qw_command_line.proofs.ReadLemmas.{none_found, number_found, number_left_out, value_found}
use Rattle.qw_command_line.proofs.read.number_of.Goals as goal

pub returns-in-Some-clause-reads : goal.returns-in-Some-clause-reads
returns-in-Some-clause-reads c = λ read.
    let found = value_found (found_of c.args.matches.now) c.name.result.now c.get_str.result c.in-Some.word c.get_str.ensures c.in-Some.is in
    number_found (rows_of (found_of c.args.matches.now)) c.args.number c.args.otherwise c.name.result.now c.in-Some.word.now c.value_in_range.result c.ok_or.result read
    c.name.ensures found c.value_in_range.ensures c.ok_or.ensures.value

pub returns-in-None-clause-reads : goal.returns-in-None-clause-reads
returns-in-None-clause-reads c = λ read.
    let none = none_found (found_of c.args.matches.now) c.name.result.now c.get_str.result c.get_str.ensures c.in-None.is in
    number_left_out (rows_of (found_of c.args.matches.now)) c.args.number c.args.otherwise c.name.result.now read c.name.ensures none
