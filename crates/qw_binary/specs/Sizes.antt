-- How many octets the constructs of a module need at most (WebAssembly Core Specification 1.0, 5), where their numbers fit.
use Rattle.std.specs.Prelude.{◌≡◌, ℕ, ◌+◌, ◌*◌, ◌^◌, ◌<◌, ◌≤◌, if◌then◌else◌, nat_lt, false, List, [], ◌∷◌, ◌++◌, length, map, codes, sum_by, None, IfSome}
use Rattle.std.specs.List.{AllByRecursion}
use Rattle.std.specs.String.{string_bytes}
use Rattle.qw_module.specs.declared.instruction.MemArg.{MemArg}
use Rattle.qw_module.specs.declared.instruction.Op.{Op}
use Rattle.qw_module.specs.declared.instruction.Op.TheVariants as o
use Rattle.qw_module.specs.declared.module.Limits.{Limits}
use Rattle.qw_module.specs.declared.module.Import.{Import}
use Rattle.qw_module.specs.declared.module.Import.TheVariants as import
use Rattle.qw_module.specs.declared.module.Locals.{Locals}
use Rattle.qw_module.specs.declared.module.Function.{Function}
use Rattle.qw_module.specs.declared.module.Export.{Export}
use Rattle.qw_module.specs.declared.module.Module.{Module}
use Rattle.qw_module.specs.declared.module.ExportKind.{ExportKind}
use Rattle.qw_module.specs.declared.module.ExportKind.TheVariants as kind
use Rattle.qw_module.specs.Numbers.{values_of, constant, type_of_constant}
use Rattle.qw_module.specs.Syntax.{Code, done, op, unreachable, block, loop, if_then, if_else, br, br_if, br_table, return, call, code_of}
use Rattle.qw_module.specs.Typing.{Signature}
use Rattle.qw_module.specs.Soundness.{raise_signature, pages_signature}
use Rattle.qw_module.specs.Start.{weight}
use Rattle.qw_module.specs.Validity.{signature_of, sequences_of, code_of_body, IsValid, declared_types}
use Rattle.qw_binary.specs.Contents.{FunctionContents, GlobalContents, ExportContents, Contents, contents_of}
use Rattle.qw_binary.specs.Modules.{SpellsModule}
use Rattle.qw_module.specs.Numbering.{IsInOrder}
use Rattle.qw_module.specs.Offsets.{FitOffsets}
use Rattle.qw_binary.specs.Sections.{imported, is_among, locals_count}

-- ---- numbers that fit

-- an index, a count or an offset has 32 bits (5.1.3, 5.2.2)
abbrev pub Fits : ℕ → Type 0
Fits n = n < 2 ^ 32

abbrev pub FitsArg : MemArg → Type 0
FitsArg arg = Fits arg.align × Fits arg.offset

-- the immediates of an instruction that holds no sequence (5.4.3 to 5.4.5)
abbrev pub FitsOp : Op → Type 0
FitsOp (o.LocalGet index) = Fits index
FitsOp (o.LocalSet index) = Fits index
FitsOp (o.LocalTee index) = Fits index
FitsOp (o.GlobalGet index) = Fits index
FitsOp (o.GlobalSet index) = Fits index
FitsOp (o.Const c) = constant c < values_of (type_of_constant c)
FitsOp (o.Load load arg) = FitsArg arg
FitsOp (o.Store store arg) = FitsArg arg
FitsOp _ = Unit {0}

-- those of all instructions of a code (5.4.1)
abbrev pub FitsCode : Code → Type 0
FitsCode done = Unit {0}
FitsCode (op o rest) = FitsOp o × FitsCode rest
FitsCode (unreachable rest) = FitsCode rest
FitsCode (block result inner rest) = FitsCode inner × FitsCode rest
FitsCode (loop result inner rest) = FitsCode inner × FitsCode rest
FitsCode (if_then result inner rest) = FitsCode inner × FitsCode rest
FitsCode (if_else result inner other rest) = FitsCode inner × FitsCode other × FitsCode rest
FitsCode (br label rest) = Fits label × FitsCode rest
FitsCode (br_if label rest) = Fits label × FitsCode rest
FitsCode (br_table labels default rest) = AllByRecursion Fits labels × Fits (length labels) × Fits default × FitsCode rest
FitsCode (return rest) = FitsCode rest
FitsCode (call index rest) = Fits index × FitsCode rest

-- ---- octets at most

-- The instructions of a code: each a code of one octet, and behind it at most two numbers of 32 bits in five octets each, or one of 64
-- bits in ten; a block's type in one octet, and an octet for each `else` and `end`; the labels of a br_table in five octets each.
abbrev pub code_octets : Code → ℕ
code_octets done = 0
code_octets (op o rest) = 11 + code_octets rest
code_octets (unreachable rest) = 1 + code_octets rest
code_octets (block result inner rest) = 3 + code_octets inner + code_octets rest
code_octets (loop result inner rest) = 3 + code_octets inner + code_octets rest
code_octets (if_then result inner rest) = 3 + code_octets inner + code_octets rest
code_octets (if_else result inner other rest) = 4 + code_octets inner + code_octets other + code_octets rest
code_octets (br label rest) = 6 + code_octets rest
code_octets (br_if label rest) = 6 + code_octets rest
code_octets (br_table labels default rest) = 11 + 5 * length labels + code_octets rest
code_octets (return rest) = 1 + code_octets rest
code_octets (call index rest) = 6 + code_octets rest

-- a function's type: 60, and two counts with an octet for each type (5.3.3)
abbrev pub type_octets : Signature → ℕ
type_octets type = 11 + length type.params + length type.results

-- a memory's limits: an octet, and one number or two (5.3.4)
abbrev pub FitsLimits : Limits → Type 0
FitsLimits limits = Fits limits.min × IfSome limits.max Fits

-- an import: its two names, each behind its length, its kind, and limits or the index of a type (5.5.5)
abbrev pub import_octets : Import → ℕ
import_octets (import.Memory limits) = 29
import_octets (import.Raise type) = 22
import_octets (import.Pages type) = 22

abbrev pub FitsImport : Import → Type 0
FitsImport (import.Memory limits) = FitsLimits limits
FitsImport (import.Raise type) = Fits type
FitsImport (import.Pages type) = Fits type

-- the memory and each of the functions are imported once at most
abbrev pub AreOnce : (before imports : List Import) → Type 0
AreOnce before [] = Unit {0}
AreOnce before (one ∷ others) = (is_among (imported one) before ≡ false) × AreOnce (before ++ one ∷ []) others

-- a run of locals: its count, which below 128 is one octet, and its type (5.5.13)
abbrev pub run_octets : Locals → ℕ
run_octets run = if nat_lt run.count 128 then 2 else 6

-- a function: its size, its locals behind their number, its code, and the last end (5.5.13)
abbrev pub inner_octets : FunctionContents → ℕ
inner_octets function = 6 + sum_by run_octets function.locals + code_octets (code_of function.body)

abbrev pub function_octets : FunctionContents → ℕ
function_octets function = 5 + inner_octets function

-- a function's numbers fit, it has fewer than 2^32 locals, and its sequences stand in the order in which they are read
pub record FitsFunction (function : FunctionContents) : Type 0 where
  pub index : Fits function.type_index
  pub locals : Fits (locals_count function.locals)
  pub order : IsInOrder function.body
  pub code : FitsCode (code_of function.body)

-- a global: its type, whether it may be set, its expression, and the last end (5.5.9)
abbrev pub global_octets : GlobalContents → ℕ
global_octets global = 3 + code_octets (code_of global.init)

abbrev pub FitsGlobal : GlobalContents → Type 0
FitsGlobal global = IsInOrder global.init × FitsCode (code_of global.init)

abbrev pub index_of : ExportKind → ℕ
index_of (kind.Function index) = index
index_of (kind.Memory index) = index
index_of (kind.Global index) = index

-- an export: its name behind its length, its kind and its index (5.5.10)
abbrev pub export_octets : ExportContents → ℕ
export_octets export = 11 + length export.name

abbrev pub FitsExport : ExportContents → Type 0
FitsExport export = Fits (index_of export.kind)

-- ---- a module

-- the numbers in all that it has fit
pub record FitsContents (c : Contents) : Type 0 where
  pub imports : AllByRecursion FitsImport c.imports
  pub once : AreOnce [] c.imports
  pub functions : AllByRecursion FitsFunction c.functions
  pub memories : AllByRecursion FitsLimits c.memories
  pub globals : AllByRecursion FitsGlobal c.globals
  pub exports : AllByRecursion FitsExport c.exports

-- the header, and seven sections: the id of each, its size and its count in 11 octets, and its items
abbrev pub module_octets : Contents → ℕ
module_octets c =
    85 + sum_by type_octets c.types + sum_by import_octets c.imports + 5 * length c.functions + 11 * length c.memories
    + sum_by global_octets c.globals + sum_by export_octets c.exports + sum_by function_octets c.functions

-- ---- the module around one function

-- an export: its name and what it stands for
abbrev pub named_export : Export → List ℕ × ExportKind
named_export export = (string_bytes export.name, export.kind)

-- A module with one function alone, `run`, which takes one i32 and leaves nothing: it imports the memory, `raise`, which is of the same
-- type, and `pages`, from i32 to i32, and has nothing else. Each run of its locals has one; its sequences stand in order; no br_table of
-- it has labels.
pub record IsRunAlone (function : Function) (m : Module) : Type 0 where
  pub types : map signature_of m.types.items ≡ raise_signature ∷ pages_signature ∷ []
  pub imports : m.imports.items ≡ import.Memory (record { min = 1; max = None }) ∷ import.Raise 0 ∷ import.Pages 1 ∷ []
  pub functions : m.functions.items ≡ function ∷ []
  pub index : function.type_index ≡ 0
  pub locals : AllByRecursion (λ (run : Locals). 1 ≤ run.count) function.locals.items
  pub order : IsInOrder (sequences_of function.body)
  pub labels : function.body.labels.items ≡ []
  pub memories : m.memories.items ≡ []
  pub globals : m.globals.items ≡ []
  pub exports : map named_export m.exports.items ≡ (codes "run", kind.Function 2) ∷ []

-- Such a module of at most 2^22 instructions and 2^22 + 2^20 locals has a spelling of at most 2^26 octets.
abbrev pub SpelledIn64MiB : Type 0
SpelledIn64MiB =
    (m : Module) (function : Function) → IsValid m → IsRunAlone function m → FitOffsets (code_of_body function.body)
    → weight (code_of_body function.body) ≤ 2 ^ 22 → length (declared_types function.locals.items) ≤ 2 ^ 22 + 2 ^ 20
    → (text : List ℕ) × SpellsModule (contents_of m) text × (length text ≤ 2 ^ 26)

-- ---- any module

-- A module whose numbers fit, and which needs fewer than 2^32 octets, has a spelling of at most as many octets as it needs.
abbrev pub SpelledModules : Type 0
SpelledModules =
    (m : Module) → FitsContents (contents_of m) → Fits (module_octets (contents_of m))
    → (text : List ℕ) × SpellsModule (contents_of m) text × (length text ≤ module_octets (contents_of m))
