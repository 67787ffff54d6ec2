-- Sections in the binary format (WebAssembly Core Specification 1.0, 5.5).
use Rattle.std.specs.Prelude.{ℕ, ◌+◌, ◌^◌, ◌==◌, if◌then◌else◌, nat_lt, Bool, true, false, List, [], ◌∷◌, length, get_or, codes, Result, Ok, Err}
use Rattle.qw_octet_grammar.specs.declared.fault.BinaryFault.{BinaryFault}
use Rattle.qw_octet_grammar.specs.declared.fault.BinaryFault.TheVariants.{NotModule, OutOfProfile}
use Rattle.qw_octet_grammar.specs.declared.fault.What.TheVariants as what
use Rattle.qw_octet_grammar.specs.Grammar.{Grammar, is, refuse, octet, after, within, pick, settle}
use Rattle.qw_octet_grammar.specs.Numbers.{u32}
use Rattle.qw_octet_grammar.specs.Vectors.{counted, one_more, vector, name}
use Rattle.qw_module.specs.declared.instruction.ValType.{ValType}
use Rattle.qw_module.specs.declared.module.Limits.{Limits}
use Rattle.qw_module.specs.declared.module.Locals.{Locals}
use Rattle.qw_module.specs.declared.module.Import.{Import}
use Rattle.qw_module.specs.declared.module.Import.TheVariants as import
use Rattle.qw_module.specs.declared.module.ExportKind.{ExportKind}
use Rattle.qw_module.specs.declared.module.ExportKind.TheVariants as kind
use Rattle.qw_module.specs.Syntax.{Sequences}
use Rattle.qw_module.specs.Typing.{Signature}
use Rattle.qw_binary.specs.Types.{val_type, func_type, limits, mutability}
use Rattle.qw_binary.specs.Instructions.{expression}
use Rattle.qw_binary.specs.Contents.{FunctionContents, GlobalContents, ExportContents, Contents}

-- ---- imports (5.5.5)

-- the three that the profile has
pub data Imported : Type 0 where
  memory : Imported
  raise : Imported
  pages : Imported

-- which of the three an import is
abbrev pub imported : Import → Imported
imported (import.Memory _) = memory
imported (import.Raise _) = raise
imported (import.Pages _) = pages

abbrev pub is_same : Imported → Imported → Bool
is_same memory memory = true
is_same raise raise = true
is_same pages pages = true
is_same _ _ = false

-- whether it is among these
abbrev pub is_among : Imported → List Import → Bool
is_among one [] = false
is_among one (other ∷ others) = if is_same one (imported other) then true else is_among one others

-- each of the three may stand once
abbrev pub once : Imported → List Import → Result Imported BinaryFault
once one before = if is_among one before then Err (OutOfProfile what.Import) else Ok one

-- whether two texts are the same
abbrev pub equal : List ℕ → List ℕ → Bool
equal [] [] = true
equal [] (y ∷ ys) = false
equal (x ∷ xs) [] = false
equal (x ∷ xs) (y ∷ ys) = if x == y then equal xs ys else false

-- the two names of an import, which are one construct: `q`, and `memory`, `raise` or `pages`, each once
abbrev pub named_by : List Import → (from text : List ℕ) → Result Imported BinaryFault
named_by before from text =
    if equal from (codes "q") then
    (if equal text (codes "memory") then once memory before
    else if equal text (codes "raise") then once raise before
    else if equal text (codes "pages") then once pages before
    else Err (OutOfProfile what.Import))
    else Err (OutOfProfile what.Import)

abbrev pub names : List Import → Grammar Imported
names before = after name (λ from. after name (λ text. settle (named_by before from text)))

-- a kind that the names don't have: 01 is a table; 00, 02 and 03 are others of the standard's
abbrev pub other_kind : ℕ → BinaryFault
other_kind b = if b == 0x01 then OutOfProfile what.Table else if nat_lt b 4 then OutOfProfile what.Import else NotModule

-- a function's kind and the index of its type
abbrev pub function_import : (ℕ → Import) → Grammar Import
function_import make = octet (λ b. pick (b == 0x00) (after u32 (λ type. is (make type))) (refuse (other_kind b)))

-- the kind, and what is imported: 02 and limits at the memory, 00 and the index of a type at the functions
abbrev pub described : Imported → Grammar Import
described memory = octet (λ b. pick (b == 0x02) (after limits (λ l. is (import.Memory l))) (refuse (other_kind b)))
described raise = function_import (λ type. import.Raise type)
described pages = function_import (λ type. import.Pages type)

-- an import, which no other one before it names
abbrev pub import_behind : List Import → Grammar Import
import_behind before = after (names before) described

-- an import behind those before it
abbrev pub next_import : List Import → Grammar (List Import)
next_import before = one_more (import_behind before) before

abbrev pub imports : Grammar (List Import)
imports = after u32 (λ n. counted n next_import [])

-- ---- globals (5.5.9)

abbrev pub global_from : ValType → Bool → Sequences → GlobalContents
global_from type mutable init = record { type = record { type = type; mutable = mutable }; init = init }

-- a global: its type, whether it may be set, and the expression of its first value
abbrev pub global : Grammar GlobalContents
global = after val_type (λ type. after mutability (λ mutable. after expression (λ init. is (global_from type mutable init))))

-- ---- exports (5.5.10)

-- what an index is exported as: 00 a function, 02 a memory, 03 a global; tables are out of profile
abbrev pub kind_by : ℕ → Result (ℕ → ExportKind) BinaryFault
kind_by b =
    if b == 0x00 then Ok (λ index. kind.Function index)
    else if b == 0x01 then Err (OutOfProfile what.Table)
    else if b == 0x02 then Ok (λ index. kind.Memory index)
    else if b == 0x03 then Ok (λ index. kind.Global index)
    else Err NotModule

abbrev pub export_kind : Grammar ExportKind
export_kind = after (octet (λ b. settle (kind_by b))) (λ kind. after u32 (λ index. is (kind index)))

abbrev pub export : Grammar ExportContents
export = after name (λ text. after export_kind (λ kind. is (record { name = text; kind = kind })))

-- ---- code (5.5.13)

abbrev pub locals_from : ℕ → ValType → Locals
locals_from count type = record { count = count; ty = type }

-- a run of locals of one type
abbrev pub locals_run : Grammar Locals
locals_run = after u32 (λ count. after val_type (λ type. is (locals_from count type)))

-- how many locals runs have
abbrev pub locals_count : List Locals → ℕ
locals_count [] = 0
locals_count (run ∷ runs) = run.count + locals_count runs

-- the locals of a function, fewer than 2^32 in all, which is judged where they end
abbrev pub locals : Grammar (List Locals)
locals = after (vector locals_run) (λ runs. pick (nat_lt (locals_count runs) (2 ^ 32)) (is runs) (refuse NotModule))

-- the code of a function whose type has this index: its size, and in so many octets its locals and its body
abbrev pub code : (type_index : ℕ) → Grammar FunctionContents
code type_index =
    after u32 (λ size. within size false
    (after locals (λ runs. after expression (λ body. is (record { type_index = type_index; locals = runs; body = body })))))

-- the code of the function behind these, of which the indices of the types are given
abbrev pub next_function : List ℕ → List FunctionContents → Grammar (List FunctionContents)
next_function type_indices before = one_more (code (get_or type_indices (length before) 0)) before

-- as many as there are indices, which is judged at the count
abbrev pub functions : List ℕ → Grammar (List FunctionContents)
functions type_indices =
    after u32 (λ n. pick (n == length type_indices) (counted n (next_function type_indices) []) (refuse NotModule))

-- ---- sections (5.5.2)

-- what the sections so far hold: the id of the last one that isn't custom, the indices of the functions' types, and the module
pub record Sections : Type 0 where
  pub last : ℕ
  pub type_indices : List ℕ
  pub contents : Contents

abbrev pub no_sections : Sections
no_sections =
    record {
      last = 0;
      type_indices = [];
      contents = record { types = []; imports = []; functions = []; memories = []; globals = []; exports = [] };
    }

abbrev pub with_types : Sections → List Signature → Sections
with_types s types = record s { last = 1; contents = record (s.contents) { types = types } }

abbrev pub with_imports : Sections → List Import → Sections
with_imports s imports = record s { last = 2; contents = record (s.contents) { imports = imports } }

abbrev pub with_indices : Sections → List ℕ → Sections
with_indices s indices = record s { last = 3; type_indices = indices }

abbrev pub with_memories : Sections → List Limits → Sections
with_memories s memories = record s { last = 5; contents = record (s.contents) { memories = memories } }

abbrev pub with_globals : Sections → List GlobalContents → Sections
with_globals s globals = record s { last = 6; contents = record (s.contents) { globals = globals } }

abbrev pub with_exports : Sections → List ExportContents → Sections
with_exports s exports = record s { last = 7; contents = record (s.contents) { exports = exports } }

abbrev pub with_functions : Sections → List FunctionContents → Sections
with_functions s functions = record s { last = 10; contents = record (s.contents) { functions = functions } }

-- what a section of this id holds: types (5.5.4), imports (5.5.5), the indices of the functions' types (5.5.6), memories (5.5.8),
-- globals (5.5.9), exports (5.5.10), code (5.5.13)
abbrev pub content : Sections → (id : ℕ) → Grammar Sections
content s id =
    pick (id == 1) (after (vector func_type) (λ types. is (with_types s types)))
    (pick (id == 2) (after imports (λ imports. is (with_imports s imports)))
    (pick (id == 3) (after (vector u32) (λ indices. is (with_indices s indices)))
    (pick (id == 5) (after (vector limits) (λ memories. is (with_memories s memories)))
    (pick (id == 6) (after (vector global) (λ globals. is (with_globals s globals)))
    (pick (id == 7) (after (vector export) (λ exports. is (with_exports s exports)))
    (pick (id == 10) (after (functions s.type_indices) (λ functions. is (with_functions s functions)))
    (refuse NotModule)))))))

-- which ids may stand behind the last one: tables, start, elements and data are out of profile wherever they stand, and the others
-- stand once and in order
abbrev pub section_by : (last id : ℕ) → Result ℕ BinaryFault
section_by last id =
    if id == 4 then Err (OutOfProfile what.Table)
    else if id == 8 then Err (OutOfProfile what.Start)
    else if id == 9 then Err (OutOfProfile what.Element)
    else if id == 11 then Err (OutOfProfile what.DataSection)
    else if nat_lt 11 id then Err NotModule
    else if nat_lt last id then Ok id
    else Err NotModule

-- what stands behind an id: a size, and in so many octets what the section holds; a custom section (5.5.3) begins with a name, and
-- stands anywhere
abbrev pub section : Sections → (id : ℕ) → Grammar Sections
section s id =
    pick (id == 0) (after u32 (λ size. within size true (after name (λ text. is s))))
    (after (settle (section_by s.last id)) (λ id. after u32 (λ size. within size false (content s id))))
