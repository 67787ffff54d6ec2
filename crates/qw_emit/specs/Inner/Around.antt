-- Mirrors `module_around` of src/module.rt: the module around a body.
use Rattle.std.specs.Prelude.{◌≡◌, ℕ, List, [], ◌∷◌, map, codes, None}
use Rattle.std.specs.String.{string_bytes}
use Rattle.qw_module.specs.declared.instruction.ValType.{ValType}
use Rattle.qw_module.specs.declared.module.Import.TheVariants as import
use Rattle.qw_module.specs.declared.module.Function.{Function}
use Rattle.qw_module.specs.declared.module.ExportKind.{ExportKind}
use Rattle.qw_module.specs.declared.module.ExportKind.TheVariants as kind
use Rattle.qw_module.specs.declared.module.Export.{Export}
use Rattle.qw_module.specs.declared.module.Module.{Module}
use Rattle.qw_module.specs.Soundness.{raise_signature, pages_signature}
use Rattle.qw_module.specs.Syntax.{Sequences}
use Rattle.qw_module.specs.Validity.{declared_types, sequences_of, signature_of}

-- a function: the number of its type, the types of its locals after its parameters, and its sequences
abbrev pub contents_of : Function → ℕ × List ValType × Sequences
contents_of function = (function.type_index, declared_types function.locals.items, sequences_of function.body)

-- an export: its name and what it stands for
abbrev pub exported : Export → List ℕ × ExportKind
exported export = (string_bytes export.name, export.kind)

-- It imports the memory, of at least one page, and the functions `raise` and `pages`, and exports its own function `run`; each takes one
-- i32, and `pages` alone leaves one.
pub record IsAround (locals : List ValType) (sequences : Sequences) (m : Module) : Type 0 where
  pub types : map signature_of m.types.items ≡ raise_signature ∷ pages_signature ∷ []
  pub imports : m.imports.items ≡ import.Memory (record { min = 1; max = None }) ∷ import.Raise 0 ∷ import.Pages 1 ∷ []
  pub functions : map contents_of m.functions.items ≡ (0, locals, sequences) ∷ []
  pub memories : m.memories.items ≡ []
  pub globals : m.globals.items ≡ []
  pub exports : map exported m.exports.items ≡ (codes "run", kind.Function 2) ∷ []
