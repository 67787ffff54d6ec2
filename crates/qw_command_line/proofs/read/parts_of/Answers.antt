use Rattle.clap.specs.Words.{found_of, rows_of}
use Rattle.qw_command_line.proofs.ReadLemmas.{none_found, parts_found, parts_left_out, parts_wrong, value_found}
use Rattle.qw_command_line.proofs.read.parts_of.Goals as goal

pub returns-in-Some-value_in_range-clause-reads : goal.returns-in-Some-value_in_range-clause-reads
returns-in-Some-value_in_range-clause-reads c = λ read.
    let found = value_found (found_of c.args.matches.now) c.name.result.now c.get_str.result c.in-Some.word c.get_str.ensures c.in-Some.is in
    parts_found (rows_of (found_of c.args.matches.now)) c.name.result.now read c.name.ensures c.in-Some.word.now c.value_in_range.result c.in-Some-value_in_range.count found
    c.value_in_range.ensures c.in-Some-value_in_range.is

pub returns-in-None-value_in_range-clause-reads : goal.returns-in-None-value_in_range-clause-reads
returns-in-None-value_in_range-clause-reads c = λ read.
    let found = value_found (found_of c.args.matches.now) c.name.result.now c.get_str.result c.in-Some.word c.get_str.ensures c.in-Some.is in
    parts_wrong (rows_of (found_of c.args.matches.now)) c.name.result.now read c.name.ensures c.in-Some.word.now c.value_in_range.result found
    c.value_in_range.ensures c.in-None-value_in_range.is

pub returns-in-None-clause-reads : goal.returns-in-None-clause-reads
returns-in-None-clause-reads c = λ read.
    let none = none_found (found_of c.args.matches.now) c.name.result.now c.get_str.result c.get_str.ensures c.in-None.is in
    parts_left_out (rows_of (found_of c.args.matches.now)) c.name.result.now read c.name.ensures none
