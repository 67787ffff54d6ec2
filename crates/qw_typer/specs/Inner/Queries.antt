-- Mirrors the functions of src/entries.rt, key.rt, query.rt and script.rt.
use Rattle.std.specs.Prelude.{◌≡◌, ◌≤◌, ℕ, List, [], ◌∷◌, length, Contains, MatchResult, Result}
use Rattle.std.specs.List.{AllByRecursion}
use Rattle.qw_types.specs.Schema.{AreColumns}
use Rattle.qw_meaning.specs.Query.{QueryParts}
use Rattle.qw_typer.specs.declared.key.Named.{Named}
use Rattle.qw_typer.specs.declared.key.Named.TheVariants as named
use Rattle.qw_typer.specs.declared.query.Over.{Over}
use Rattle.qw_typer.specs.declared.fault.TypeFault.{TypeFault}
use Rattle.qw_typer.specs.declared.fault.TypeFault.TheVariants as type_fault
use Rattle.qw_typer.specs.declared.refusal.Refusal.{Refusal}
use Rattle.qw_typer.specs.declared.refusal.Refusal.TheVariants as refusal
use Rattle.qw_typer.specs.Faults.{Fault}
use Rattle.qw_typer.specs.Keys.{first_position}
use Rattle.qw_typer.specs.Meant.{Entry}
use Rattle.qw_types.specs.declared.schema.Table.{Table}
use Rattle.qw_ast.specs.Limits.{entries_of}
use Rattle.qw_ast.specs.Syntax.{Select}
use Rattle.qw_typer.specs.Typed.{entries_faults, entries_named}
use Rattle.qw_typer.specs.Inner.Typing.{spelled}

-- each entry has the columns of a table
abbrev pub HaveTables : List Entry → Type 0
HaveTables entries = AllByRecursion (λ (e : Entry). AreColumns e.columns) entries

-- the parts of a specification
abbrev pub parts_of : Over → QueryParts
parts_of over = record { sources = over.sources.items; conjuncts = over.conjuncts.items; items = over.items.items }

-- the refusal is one of these faults, or want of memory
unfoldable pub IsOneOf : Refusal → List Fault → Type 0
IsOneOf refusal.NoMemory fs = Unit {0}
IsOneOf (refusal.Fault kind token) fs = Contains fs (record { kind = kind; name = spelled token })

-- what was found of the result columns that a key may name
abbrev pub IsNamed : Named → List ℕ → Type 0
IsNamed named.Nothing positions = positions ≡ []
IsNamed (named.One p) positions = positions ≡ p ∷ []
IsNamed named.Several positions = 2 ≤ length positions

-- the first of the positions, where there is no fault, else one of the faults
abbrev pub GivesPosition : Result ℕ Refusal → List Fault → List ℕ → Type 0
GivesPosition result fs positions = MatchResult result (λ p. (fs ≡ []) × (p ≡ first_position positions)) (λ refusal. IsOneOf refusal fs)

-- the fault of a query with this number that is refused, or want of memory
abbrev pub IsFaultOf : ℕ → Refusal → TypeFault → Type 0
IsFaultOf k refusal.NoMemory fault = fault ≡ type_fault.NoMemory
IsFaultOf k (refusal.Fault kind token) type_fault.NoMemory = Unit {0}
IsFaultOf k (refusal.Fault kind token) (type_fault.Fault statement kind' name) = (statement ≡ k) × (kind' ≡ kind) × (name ≡ spelled token)

-- FROM has no fault, and these are its entries, which are tables
pub record IsFrom (schema : List Table) (s : Select) (entries : List Entry) : Type 0 where
  pub faultless : entries_faults schema [] (entries_of s.sources) ≡ []
  pub are : entries ≡ entries_named schema s
  pub tables : HaveTables entries
