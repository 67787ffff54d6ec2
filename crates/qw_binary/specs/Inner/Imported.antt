-- Mirrors `Imported` of imports that are read.
use Rattle.qw_binary.specs.Sections.{Imported, memory, raise, pages}
use Rattle.qw_binary.specs.declared.read.imports.Imported.{Imported as Named}
use Rattle.qw_binary.specs.declared.read.imports.Imported.TheVariants as named

abbrev pub imported_of : Named → Imported
imported_of named.Memory = memory
imported_of named.Raise = raise
imported_of named.Pages = pages
