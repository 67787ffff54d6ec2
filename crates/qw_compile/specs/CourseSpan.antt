-- How long what is emitted for a pipeline may be, by its trees and the columns of its entry.
use Rattle.std.specs.Prelude.{ℕ, ◌+◌, ◌*◌, List, length}
use Rattle.qw_read.specs.declared.reader.Reader.{Reader}
use Rattle.qw_physical.specs.declared.pipeline.Pipeline.{Pipeline}
use Rattle.qw_operator.specs.Span.{sink_span, span}
use Rattle.qw_compile.specs.QueryLocals.{readers_over}

-- the most steps of its scan, with the empty table before it, and locals of its own
abbrev pub course_span : List Reader → Pipeline → ℕ
course_span readers p = span p.operators.items (sink_span p.sink) + 143 * length (readers_over p.entry readers) + 100
