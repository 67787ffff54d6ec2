-- Mirrors `shaped_run` of shape.rt: the shape that is executed, part by part.
use Rattle.std.specs.Prelude.{◌≡◌, ℕ, ◌+◌, List, length, codes, All, Contains, IsSomeAnd, slice_get}
use Rattle.std.specs.String.{string_bytes}
use Rattle.qw_module.specs.declared.module.Limits.{Limits}
use Rattle.qw_module.specs.declared.module.Import.{Import}
use Rattle.qw_module.specs.declared.module.Import.TheVariants as import
use Rattle.qw_module.specs.declared.module.Function.{Function}
use Rattle.qw_module.specs.declared.module.Export.{Export}
use Rattle.qw_module.specs.declared.module.ExportKind.TheVariants as kind
use Rattle.qw_module.specs.declared.module.Module.{Module}
use Rattle.qw_module.specs.Validity.{imported_functions, IsLinked, IsOneI32}

-- the memory is imported
abbrev pub ImportsMemory : List Import → Type 0
ImportsMemory imports = (limits : Limits) × Contains imports (import.Memory limits)

-- `raise` is imported, and each import is of the type of what it is linked to
pub record ImportsRaise (m : Module) : Type 0 where
  pub there : (type : ℕ) × Contains m.imports.items (import.Raise type)
  pub each : All (IsLinked m) m.imports.items

-- this exports the module's own function of a number as `run`
pub record ExportsRun (m : Module) (export : Export) (number : ℕ) : Type 0 where
  pub named : string_bytes export.name ≡ codes "run"
  pub exported : export.kind ≡ kind.Function (length (imported_functions m) + number)
  pub takes : IsSomeAnd (slice_get m.functions.items number) (λ (function : Function). IsOneI32 m function.type_index)

abbrev pub ExportsNoRun : Module → Export → Type 0
ExportsNoRun m export = (number : ℕ) → ExportsRun m export number → ⊥
