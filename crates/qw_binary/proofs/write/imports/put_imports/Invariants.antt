use Rattle.std.proofs.Common.{◌-◌, length, take}
use Rattle.qw_octet_grammar.specs.Vectors.{counted}
use Rattle.qw_octet_grammar.specs.Inner.Awaiting.{Awaits}
use Rattle.qw_binary.specs.Sections.{imports, next_import}
use Rattle.qw_binary.proofs.write.imports.put_imports.Given as goal

abbrev pub invariant-loop-place : goal.invariant-loop-place
invariant-loop-place l = Awaits imports (counted (length l.imports - l.place) next_import (take l.place l.imports)) l.fn.out.items l.out.items
