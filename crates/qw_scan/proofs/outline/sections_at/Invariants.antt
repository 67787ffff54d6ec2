use Rattle.std.proofs.Common.{◌≡◌, ◌-◌, length, drop}
use Rattle.qw_octet_grammar.specs.Reading.{read_all}
use Rattle.qw_binary.specs.Sections.{no_sections, section}
use Rattle.qw_scan.specs.Inner.Outlines.{sections_in, IsOutline, IsSuffix}
use Rattle.qw_scan.proofs.outline.sections_at.Given as goal

-- the sections that are left lead to what all lead to
abbrev pub invariant-loop : goal.invariant-loop
invariant-loop l = record {
  left : read_all section (length l.octets - l.counter) (sections_in l.octets l.outline) l.rest ≡ read_all section (length l.octets) no_sections (drop 8 l.octets);
  outlined : IsOutline l.octets l.outline;
  suffix : IsSuffix l.octets l.rest;
}
