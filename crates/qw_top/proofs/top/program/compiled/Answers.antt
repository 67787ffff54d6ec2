use Rattle.std.proofs.Common.{◌∙◌, sym}
use Rattle.qw_meaning.specs.Select.{entries_of}
use Rattle.qw_grouped.specs.Whole.{sources_in}
use Rattle.qw_grouped.specs.WholeQuery.{body_of}
use Rattle.qw_top.proofs.EntryLemmas.{are_alike, columns_in, sized_columns, some_columns}
use Rattle.qw_top.proofs.top.program.compiled.Goals as goal

pub compile_whole-requires-clause-some : goal.compile_whole-requires-clause-some
compile_whole-requires-clause-some c = some_columns c.args.schema.now c.limits_kept.ensures (entries_of (sources_in (body_of c.args.query.now.query.body))) c.requires.entries

pub compile_whole-requires-clause-sized : goal.compile_whole-requires-clause-sized
compile_whole-requires-clause-sized c = sized_columns c.args.schema.now c.limits_kept.ensures (entries_of (sources_in (body_of c.args.query.now.query.body))) c.requires.entries

pub compile_whole-requires-clause-alike : goal.compile_whole-requires-clause-alike
compile_whole-requires-clause-alike c = are_alike c.args.schema.now (entries_of (sources_in (body_of c.args.query.now.query.body))) c.requires.entries

pub returns-in-Ok-clause-columns : goal.returns-in-Ok-clause-columns
returns-in-Ok-clause-columns c tables are =
    columns_in c.args.schema.now tables (entries_of (sources_in (body_of c.args.query.now.query.body))) c.in-Ok.compiled.layout.columns are c.requires.entries c.in-Ok.ensures.compiled.goes_with.columns

pub unreachable-requires : goal.unreachable-requires
unreachable-requires c =
    let none = sym c.in-Err-TooLong.field-0-is ∙ c.in-Err-TooLong.ensures.short c.requires.short in
    cc
