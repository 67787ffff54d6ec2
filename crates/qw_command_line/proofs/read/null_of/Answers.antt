use Rattle.std.proofs.Common.{sym, ◌∙◌}
use Rattle.clap.specs.Words.{found_of, rows_of}
use Rattle.qw_command_line.proofs.ReadLemmas.{none_found, null_found, null_left_out, null_wrong, value_found}
use Rattle.qw_command_line.proofs.read.null_of.Goals as goal

pub returns-in-Some : goal.returns-in-Some
returns-in-Some c = λ read.
    let found = value_found (found_of c.args.matches.now) c.name.result.now c.get_str.result c.in-Some.text c.get_str.ensures c.in-Some.is in
    null_found (rows_of (found_of c.args.matches.now)) c.name.result.now read c.name.ensures c.in-Some.text.now found (sym c.is_in_range.ensures ∙ c.if-is_in_range.true)

pub returns-in-Some-2 : goal.returns-in-Some-2
returns-in-Some-2 c = λ read.
    let found = value_found (found_of c.args.matches.now) c.name.result.now c.get_str.result c.in-Some.text c.get_str.ensures c.in-Some.is in
    null_wrong (rows_of (found_of c.args.matches.now)) c.name.result.now read c.name.ensures c.in-Some.text.now found (sym c.is_in_range.ensures ∙ c.if-is_in_range.false)

pub returns-in-None : goal.returns-in-None
returns-in-None c = λ read.
    let none = none_found (found_of c.args.matches.now) c.name.result.now c.get_str.result c.get_str.ensures c.in-None.is in
    null_left_out (rows_of (found_of c.args.matches.now)) c.name.result.now read c.name.ensures none
