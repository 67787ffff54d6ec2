-- Mirrors `SoFar`: what the sections so far hold.
use Rattle.qw_binary.specs.Contents.{contents_of}
use Rattle.qw_binary.specs.Sections.{Sections}
use Rattle.qw_binary.specs.declared.read.sections.SoFar.{SoFar}

abbrev pub sections_of : SoFar → Sections
sections_of so_far = record { last = so_far.last; type_indices = so_far.type_indices.items; contents = contents_of so_far.module }
