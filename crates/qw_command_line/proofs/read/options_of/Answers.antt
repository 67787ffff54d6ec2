use Rattle.std.proofs.Common.{◌∙◌}
use Rattle.clap.specs.Words.{found_of, rows_of}
use Rattle.qw_command_line.proofs.ReadLemmas.{options_in_range, pages_out_of_range, steps_out_of_range, told}
use Rattle.qw_command_line.proofs.read.options_of.Goals as goal

pub returns-in_err-pages : goal.returns-in_err-pages
returns-in_err-pages c = λ read.
    pages_out_of_range (rows_of (found_of c.args.matches.now)) read c.in_ok-quantum.quantum c.in_err-pages.field-0.0 c.in_ok-quantum.ensures.reads (rw c.from.ensures at c.in_err-pages.ensures.reads)
    ∙ told c.from_residual-in_err-pages.result c.in_err-pages.field-0.0 read c.from_residual-in_err-pages.ensures.1

pub returns-in_err-steps : goal.returns-in_err-steps
returns-in_err-steps c = λ read.
    steps_out_of_range (rows_of (found_of c.args.matches.now)) read c.in_ok-quantum.quantum c.in_ok-pages.pages c.in_err-steps.field-0.0 c.in_ok-quantum.ensures.reads (rw c.from.ensures at c.in_ok-pages.ensures.reads) c.in_err-steps.ensures.reads
    ∙ told c.from_residual-in_err-steps.result c.in_err-steps.field-0.0 read c.from_residual-in_err-steps.ensures.1

pub returns : goal.returns
returns c = λ read. rw c.is_given.ensures
    (options_in_range (rows_of (found_of c.args.matches.now)) read c.in_ok-quantum.quantum c.in_ok-pages.pages c.in_ok-steps.steps c.in_ok-quantum.ensures.reads (rw c.from.ensures at c.in_ok-pages.ensures.reads) c.in_ok-steps.ensures.reads)
