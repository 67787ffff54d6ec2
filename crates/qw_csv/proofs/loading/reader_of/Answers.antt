use Rattle.std.proofs.Common.{◌∙◌}
use Rattle.csv.specs.Reading.{strip_bom}
use Rattle.qw_csv.proofs.CsvReaderLemmas.{none_read}
use Rattle.qw_csv.proofs.loading.reader_of.Goals as goal

pub returns : goal.returns
returns c =
    let made = c.from_reader.ensures in
    none_read c.from_reader.result (strip_bom c.args.bytes.now)
    (rw (c.flexible.ensures, c.has_headers.ensures) at made.trim ∙ c.new.ensures.trim) (rw c.flexible.ensures at made.flexible)
    (rw (c.flexible.ensures, c.has_headers.ensures) at made.has_headers) made.headers
    (rw (c.flexible.ensures, c.has_headers.ensures) at made.config ∙ c.new.ensures.config) made.source made.state
