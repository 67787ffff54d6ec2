use Rattle.std.proofs.Common.{◌≡◌, ◌-◌}
use Rattle.qw_octet_grammar.specs.Reading.{read_all}
use Rattle.qw_binary.specs.Sections.{no_sections, section}
use Rattle.qw_binary.specs.Inner.SoFar.{sections_of}
use Rattle.qw_binary.proofs.read.sections.sections_at.Given as goal

abbrev pub invariant-loop : goal.invariant-loop
invariant-loop l = read_all section (l.most - l.counter) (sections_of l.so_far) l.rest ≡ read_all section l.most no_sections l.octets
