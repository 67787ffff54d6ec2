use Rattle.std.proofs.Common.{◌≡◌, ◌-◌, []}
use Rattle.qw_octet_grammar.specs.Vectors.{counted, one_more}
use Rattle.qw_octet_grammar.specs.Reading.{read}
use Rattle.qw_binary.specs.Sections.{locals_run}
use Rattle.qw_binary.proofs.read.functions.locals_runs_at.Given as goal

abbrev pub invariant-loop : goal.invariant-loop
invariant-loop l = read (counted (l.count - l.counter) (one_more locals_run) l.found.items) l.rest ≡ read (counted l.count (one_more locals_run) []) l.octets
