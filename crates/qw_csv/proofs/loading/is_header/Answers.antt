use Rattle.std.proofs.Common.{sym, ◌∙◌}
use Rattle.std.proofs.lemmas.Bool.{false≢true}
use Rattle.csv.specs.Records.{fields_of}
use Rattle.qw_csv.proofs.RecordLemmas.{header_count, header_more, header_name}
use Rattle.qw_csv.proofs.loading.is_header.Goals as goal

pub returns-then-len-columns : goal.returns-then-len-columns
returns-then-len-columns c =
    ((λ yes. cc yes), (λ h. absurd (c.if-len-columns.true (c.len.ensures ∙ header_count c.args.columns.now (fields_of c.args.row.now) h))))

pub loop-index-preserved : goal.loop-index-preserved
loop-index-preserved c =
    let name = rw (c.field.ensures, c.index-columns-index.is) at (c.is_name.ensures.0 c.if-not-is_name.false) in
    header_more c.args.columns.now (fields_of c.args.row.now) c.loop-index.index c.index-columns-index.result c.loop-index-test.true
    (sym c.len.ensures ∙ c.if-len-columns.false) name c.loop-index.invariant

pub returns-then-not-is_name : goal.returns-then-not-is_name
returns-then-not-is_name c = (
  (λ yes. cc yes),
  (λ h.
      let name = header_name c.args.columns.now (fields_of c.args.row.now) c.loop-index.index c.index-columns-index.result c.loop-index-test.true h in
      absurd (false≢true (sym c.if-not-is_name.true ∙ c.is_name.ensures.1 (rw (c.field.ensures, c.index-columns-index.is) name)))),
)
