use Rattle.std.proofs.Common.{◌≡◌, drop}
use Rattle.qw_binary.specs.Sections.{is_among}
use Rattle.qw_binary.specs.Inner.Imported.{imported_of}
use Rattle.qw_binary.proofs.read.imports.Imported.is_among.Given as goal

abbrev pub invariant-loop-import : goal.invariant-loop-import
invariant-loop-import l = is_among (imported_of l.self) (drop l.import-index l.imports) ≡ is_among (imported_of l.self) l.imports
