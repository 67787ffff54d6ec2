use Rattle.std.proofs.Common.{◌≡◌, ◌≤◌, ◌-◌, ◌*◌}
use Rattle.qw_octet_grammar.specs.Vectors.{counted}
use Rattle.qw_octet_grammar.specs.Reading.{read}
use Rattle.qw_scan.specs.Inner.Over.{run_over}
use Rattle.qw_scan.proofs.over.runs_at.Given as goal

-- so many locals so far, each run having fewer than 2^32
abbrev pub invariant-loop : goal.invariant-loop
invariant-loop l = record {
  left : read (counted (l.count - l.counter) run_over l.sum) l.rest ≡ read (counted l.count run_over 0) l.octets;
  most : l.sum ≤ l.counter * 4294967295;
}
