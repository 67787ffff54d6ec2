-- What a module holds (WebAssembly Core Specification 1.0, 2.5), without where it lies in memory.
use Rattle.std.specs.Prelude.{ℕ, List, map}
use Rattle.std.specs.String.{string_bytes}
use Rattle.qw_module.specs.declared.module.Limits.{Limits}
use Rattle.qw_module.specs.declared.module.Import.{Import}
use Rattle.qw_module.specs.declared.module.Locals.{Locals}
use Rattle.qw_module.specs.declared.module.Function.{Function}
use Rattle.qw_module.specs.declared.module.Global.{Global}
use Rattle.qw_module.specs.declared.module.ExportKind.{ExportKind}
use Rattle.qw_module.specs.declared.module.Export.{Export}
use Rattle.qw_module.specs.declared.module.Module.{Module}
use Rattle.qw_module.specs.Syntax.{Sequences}
use Rattle.qw_module.specs.Typing.{Signature, GlobalType}
use Rattle.qw_module.specs.Validity.{signature_of, global_type, sequences_of}

-- a function: the index of its type, its locals in runs of one type, its body (2.5.3)
pub record FunctionContents : Type 0 where
  pub type_index : ℕ
  pub locals : List Locals
  pub body : Sequences

-- a global: its type, and the expression of its first value (2.5.6)
pub record GlobalContents : Type 0 where
  pub type : GlobalType
  pub init : Sequences

-- an export: the octets of its name, and what it names (2.5.10)
pub record ExportContents : Type 0 where
  pub name : List ℕ
  pub kind : ExportKind

-- a module
pub record Contents : Type 0 where
  pub types : List Signature
  pub imports : List Import
  pub functions : List FunctionContents
  pub memories : List Limits
  pub globals : List GlobalContents
  pub exports : List ExportContents

abbrev pub function_contents : Function → FunctionContents
function_contents function =
    record { type_index = function.type_index; locals = function.locals.items; body = sequences_of function.body }

abbrev pub global_contents : Global → GlobalContents
global_contents global = record { type = global_type global; init = sequences_of global.init }

abbrev pub export_contents : Export → ExportContents
export_contents export = record { name = string_bytes export.name; kind = export.kind }

-- what a module in memory holds
abbrev pub contents_of : Module → Contents
contents_of m =
    record {
      types = map signature_of m.types.items;
      imports = m.imports.items;
      functions = map function_contents m.functions.items;
      memories = m.memories.items;
      globals = map global_contents m.globals.items;
      exports = map export_contents m.exports.items;
    }
