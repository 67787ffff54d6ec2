-- Mirrors parts of what is written: `put_global`, `exported`.
use Rattle.std.specs.Prelude.{◌≡◌, ℕ, List, Result, Ok, Err}
use Rattle.qw_octet_grammar.specs.declared.fault.BinaryFault.{BinaryFault}
use Rattle.qw_octet_grammar.specs.Grammar.{Spells}
use Rattle.qw_module.specs.declared.module.ExportKind.{ExportKind}
use Rattle.qw_module.specs.declared.module.Function.{Function}
use Rattle.qw_binary.specs.Instructions.{expression}
use Rattle.qw_binary.specs.Contents.{GlobalContents}

-- some octets spell the expression of a global
abbrev pub IsInitSpelled : GlobalContents → Type 0
IsInitSpelled global = (text : List ℕ) × Spells expression global.init text

-- what a kind makes of an index
abbrev pub MakesKind : Result (ℕ → ExportKind) BinaryFault → ℕ → ExportKind → Type 0
MakesKind (Ok make) index kind = make index ≡ kind
MakesKind (Err fault) index kind = ⊥

abbrev pub type_index_of : Function → ℕ
type_index_of function = function.type_index
