-- Mirrors `module_of`: the header, the sections, and whether every function has its code.
use Rattle.std.specs.Prelude.{ℕ, ◌==◌, if◌then◌else◌, List, length, take, drop, Result, Ok, Err}
use Rattle.qw_octet_grammar.specs.declared.fault.BinaryFault.{BinaryFault}
use Rattle.qw_octet_grammar.specs.declared.fault.BinaryFault.TheVariants.{NotModule}
use Rattle.qw_octet_grammar.specs.Reading.{◌>>=◌, read_all}
use Rattle.qw_binary.specs.Contents.{Contents}
use Rattle.qw_binary.specs.Sections.{equal, Sections, no_sections, section}
use Rattle.qw_binary.specs.Modules.{header}

abbrev pub finish : Sections → Result Contents BinaryFault
finish s = if length s.type_indices == length s.contents.functions then Ok s.contents else Err NotModule

abbrev pub module_in : List ℕ → Result Contents BinaryFault
module_in bytes =
    if equal (take 8 bytes) header then (read_all section (length bytes) no_sections (drop 8 bytes) >>= finish) else Err NotModule
