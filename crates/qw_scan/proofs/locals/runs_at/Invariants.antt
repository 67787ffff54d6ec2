use Rattle.std.proofs.Common.{◌≡◌, ◌-◌, []}
use Rattle.qw_octet_grammar.specs.Vectors.{counted, one_more}
use Rattle.qw_octet_grammar.specs.Reading.{read}
use Rattle.qw_binary.specs.Sections.{locals_run}
use Rattle.qw_scan.specs.Inner.Runs.{runs_in, last_end, Rise}
use Rattle.qw_scan.proofs.locals.runs_at.Given as goal

-- the runs so far, and what is left
abbrev pub invariant-loop : goal.invariant-loop
invariant-loop l = record {
  rise : Rise 0 l.runs.items;
  last : l.end ≡ last_end 0 l.runs.items;
  left : read (counted (l.count - l.counter) (one_more locals_run) (runs_in 0 l.runs.items)) l.rest ≡ read (counted l.count (one_more locals_run) []) l.octets;
}
