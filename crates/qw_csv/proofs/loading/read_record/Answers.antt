use Rattle.std.proofs.lemmas.Result.{MatchResult-weaker}
use Rattle.csv.specs.Records.{fields_of}
use Rattle.qw_csv.proofs.CsvReaderLemmas.{reads, stops}
use Rattle.qw_csv.proofs.loading.read_record.Goals as goal

pub returns-clause-read : goal.returns-clause-read
returns-clause-read c =
    reads c.args.reader.now c.read_byte_record.new.self c.read_byte_record.result (fields_of c.read_byte_record.new.row)
    c.read_byte_record.ensures.reads c.read_byte_record.ensures.ready c.read_byte_record.ensures.flexible

pub returns-clause-stopped : goal.returns-clause-stopped
returns-clause-stopped c =
    MatchResult-weaker c.read_byte_record.result c.read_byte_record.ensures.why (λ _ h. h)
    (λ e why text records h. stops c.args.reader.now c.read_byte_record.new.self e.kind h.flexible (why h.ready))
