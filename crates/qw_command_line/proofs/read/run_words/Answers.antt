use Rattle.std.proofs.Common.{◌∙◌, Ok, Err}
use Rattle.clap.specs.Words.{found_of, rows_of}
use Rattle.qw_command_line.proofs.ReadLemmas.{null_is_told, option_is_told, run_is_read, run_told}
use Rattle.qw_command_line.proofs.read.run_words.Goals as goal

pub returns-in_err-options : goal.returns-in_err-options
returns-in_err-options c =
    option_is_told (rows_of (found_of c.args.matches.now)) c.args.schema.now c.args.folder.now c.args.queries.now c.in_err-options.field-0.0 c.in_err-options.ensures
    ∙ run_told c.from_residual.result c.in_err-options.field-0.0 c.from_residual.ensures.1

pub returns-in_err-null : goal.returns-in_err-null
returns-in_err-null c =
    null_is_told (rows_of (found_of c.args.matches.now)) c.args.schema.now c.args.folder.now c.args.queries.now c.in_ok-options.options c.in_err-null.field-0.0 c.in_ok-options.ensures c.in_err-null.ensures
    ∙ run_told c.from_residual-in_err-null.result c.in_err-null.field-0.0 c.from_residual-in_err-null.ensures.1

pub returns-in_err-parts : goal.returns-in_err-parts
returns-in_err-parts c =
    run_is_read (rows_of (found_of c.args.matches.now)) c.args.schema.now c.args.folder.now c.args.queries.now c.in_ok-options.options c.in_ok-null.null (Err c.in_err-parts.field-0.0)
    c.in_ok-options.ensures c.in_ok-null.ensures c.in_err-parts.ensures.reads
    ∙ run_told c.from_residual-in_err-parts.result c.in_err-parts.field-0.0 c.from_residual-in_err-parts.ensures.1

pub returns : goal.returns
returns c =
    run_is_read (rows_of (found_of c.args.matches.now)) c.args.schema.now c.args.folder.now c.args.queries.now c.in_ok-options.options c.in_ok-null.null (Ok c.in_ok-parts.parts)
    c.in_ok-options.ensures c.in_ok-null.ensures c.in_ok-parts.ensures.reads
