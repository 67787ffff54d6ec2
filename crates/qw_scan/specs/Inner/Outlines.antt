-- Mirrors `Outline`: what the sections so far hold, by where in a module's octets they stand.
use Rattle.std.specs.Prelude.{◌≡◌, ℕ, ◌≤◌, ◌==◌, if◌then◌else◌, List, [], ◌++◌, length, drop, Option, Some, None, IfSome, Result, Ok, Err}
use Rattle.qw_octet_grammar.specs.declared.fault.BinaryFault.{BinaryFault}
use Rattle.qw_octet_grammar.specs.Grammar.{Grammar}
use Rattle.qw_octet_grammar.specs.Numbers.{u32}
use Rattle.qw_octet_grammar.specs.Reading.{read}
use Rattle.qw_octet_grammar.specs.Vectors.{vector}
use Rattle.qw_binary.specs.Types.{func_type, limits}
use Rattle.qw_binary.specs.Contents.{Contents}
use Rattle.qw_binary.specs.Sections.{imports, global, export, functions, Sections}
use Rattle.qw_scan.specs.declared.outline.Outline.{Outline}

-- what octets begin with, or none where they begin with no such things
abbrev pub values_of : {A : Type 0} → Result (List A × List ℕ) BinaryFault → List A
values_of (Ok x) = x.0
values_of (Err fault) = []

-- the things that stand behind so many octets of a module; none where they stand nowhere
unfoldable pub values_at : {A : Type 0} → Grammar (List A) → (whole : List ℕ) → (at : Option ℕ) → List A
values_at g whole None = []
values_at g whole (Some at) = values_of (read g (drop at whole))

-- such things were read there; where they stand nowhere, there are none to read
unfoldable pub IsThere : {A : Type 0} → Grammar (List A) → (whole : List ℕ) → (at : Option ℕ) → Type 0
IsThere g whole None = Unit {0}
IsThere {A} g whole (Some at) = (values : List A) × (rest : List ℕ) × (read g (drop at whole) ≡ Ok (values, rest))

abbrev pub indices_in : List ℕ → Outline → List ℕ
indices_in whole o = values_at (vector u32) whole o.indices

abbrev pub sections_in : List ℕ → Outline → Sections
sections_in whole o =
    record {
      last = o.last;
      type_indices = indices_in whole o;
      contents = record {
        types = values_at (vector func_type) whole o.types;
        imports = values_at imports whole o.imports;
        functions = values_at (functions (indices_in whole o)) whole o.codes;
        memories = values_at (vector limits) whole o.memories;
        globals = values_at (vector global) whole o.globals;
        exports = values_at (vector export) whole o.exports;
      };
    }

abbrev pub contents_in : List ℕ → Outline → Contents
contents_in whole o = (sections_in whole o).contents

-- What an outline has counted: its functions, by the indices of their types. Where their codes were read, all other sections but custom ones
-- were. What it says where it stands was read there.
pub record IsOutline (whole : List ℕ) (o : Outline) : Type 0 where
  pub own : o.own ≡ length (indices_in whole o)
  pub coded : IfSome o.codes (λ at. (10 ≤ o.last) × (length (contents_in whole o).functions ≡ o.own))
  pub types : IsThere (vector func_type) whole o.types
  pub imports : IsThere imports whole o.imports
  pub indices : IsThere (vector u32) whole o.indices
  pub memories : IsThere (vector limits) whole o.memories
  pub globals : IsThere (vector global) whole o.globals
  pub exports : IsThere (vector export) whole o.exports
  pub codes : IsThere (functions (indices_in whole o)) whole o.codes

-- these octets are the last of a module's
abbrev pub IsSuffix : (whole rest : List ℕ) → Type 0
IsSuffix whole rest = (before : List ℕ) × (whole ≡ before ++ rest)

-- these octets stand behind so many of a module's
unfoldable pub StandsAt : (whole : List ℕ) → (at : ℕ) → (octets : List ℕ) → Type 0
StandsAt whole at octets = (tail : List ℕ) × (drop at whole ≡ octets ++ tail)

-- after a section of this id was read, what it holds standing behind so many octets of the module
abbrev pub noted : Outline → (id at count : ℕ) → Outline
noted o id at count =
    if id == 1 then record o { last = id; types = Some at }
    else if id == 2 then record o { last = id; imports = Some at }
    else if id == 3 then record o { last = id; indices = Some at; own = count }
    else if id == 5 then record o { last = id; memories = Some at }
    else if id == 6 then record o { last = id; globals = Some at }
    else if id == 7 then record o { last = id; exports = Some at }
    else record o { last = id; codes = Some at }
