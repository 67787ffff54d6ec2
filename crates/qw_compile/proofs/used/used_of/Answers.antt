use Rattle.std.proofs.Common.{◌∙◌, List, ℕ, false, ap, map}
use Rattle.qw_meaning.specs.Query.{query_of, source_of}
use Rattle.qw_meaning.specs.Select.{Entry, entries_of}
use Rattle.qw_meaning.specs.declared.query.Source.{Source}
use Rattle.qw_types.specs.declared.value.Ty.TheVariants.{Integer}
use Rattle.qw_physical.specs.declared.pipeline.ReadColumn.{ReadColumn}
use Rattle.qw_compile.proofs.UsedSteps.{entry_there, next_used, tables_in, used_at}
use Rattle.qw_compile.proofs.used.used_of.Goals as goal

pub used_in-requires : goal.used_in-requires
used_in-requires c =
    let entries : List Entry = entries_of (query_of c.args.query.now).sources in
    let d : ReadColumn = record { number = 0; ty = Integer; not_null = false } in
    record {
      there = entry_there entries c.args.columns.now c.deref.result.now c.loop-column.column-index d c.requires.declared
          (c.deref.ensures.value ∙ (c.in_ok-tables.ensures ∙ ap (λ (l : List Source). tables_in (entries_of (map source_of l))) c.sources.ensures.sources)) c.loop-column-test.true;
    }

pub loop-column-preserved : goal.loop-column-preserved
loop-column-preserved c =
    let entries : List Entry = entries_of (query_of c.args.query.now).sources in
    let i : ℕ = c.loop-column.column-index in
    let d : ReadColumn = record { number = 0; ty = Integer; not_null = false } in
    next_used entries c.args.columns.now c.loop-column.used.items c.push.new.self.items i d c.used_in.result c.loop-column-test.true c.loop-column.invariant
    (used_at entries c.args.columns.now c.deref.result.now i d c.used_in.result c.requires.declared c.loop-column-test.true
    (c.deref.ensures.value ∙ (c.in_ok-tables.ensures ∙ ap (λ (l : List Source). tables_in (entries_of (map source_of l))) c.sources.ensures.sources)) c.used_in.ensures.table c.used_in.ensures.place c.used_in.ensures.ty c.used_in.ensures.not_null)
    c.in_ok-push.ensures.items
