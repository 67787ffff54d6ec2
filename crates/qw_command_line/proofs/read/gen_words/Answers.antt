use Rattle.std.proofs.Common.{◌∙◌, Ok, Err}
use Rattle.clap.specs.Words.{found_of, rows_of}
use Rattle.qw_command_line.proofs.ReadLemmas.{gen_is_read, gen_told}
use Rattle.qw_command_line.proofs.read.gen_words.Goals as goal

pub returns-in_err-options : goal.returns-in_err-options
returns-in_err-options c =
    gen_is_read (rows_of (found_of c.args.matches.now)) c.args.seed.now c.args.rows.now c.value_in_range.result c.value_in_range-2.result c.in_ok-seed.seed c.in_ok-rows.rows (Err c.in_err-options.field-0.0)
    c.value_in_range.ensures c.in_ok-seed.ensures.value c.value_in_range-2.ensures c.in_ok-rows.ensures.value c.in_err-options.ensures
    ∙ gen_told c.from_residual-in_err-options.result c.in_err-options.field-0.0 c.from_residual-in_err-options.ensures.1

pub returns : goal.returns
returns c =
    gen_is_read (rows_of (found_of c.args.matches.now)) c.args.seed.now c.args.rows.now c.value_in_range.result c.value_in_range-2.result c.in_ok-seed.seed c.in_ok-rows.rows (Ok c.in_ok-options.options)
    c.value_in_range.ensures c.in_ok-seed.ensures.value c.value_in_range-2.ensures c.in_ok-rows.ensures.value c.in_ok-options.ensures
