-- Modules in the binary format (WebAssembly Core Specification 1.0, 5.5.15).
use Rattle.std.specs.Prelude.{◌≡◌, ◌≢◌, ℕ, List, [], ◌∷◌, ◌++◌, length, take, drop}
use Rattle.qw_octet_grammar.specs.declared.fault.BinaryFault.{BinaryFault}
use Rattle.qw_octet_grammar.specs.declared.fault.BinaryFault.TheVariants.{NoMemory, NotModule, OutOfProfile}
use Rattle.qw_octet_grammar.specs.Grammar.{SpellsAll, StuckAmong}
use Rattle.qw_binary.specs.Contents.{Contents}
use Rattle.qw_binary.specs.Sections.{Sections, no_sections, section}

-- the four octets by which a module is known, and the version 1
abbrev pub header : List ℕ
header = 0x00 ∷ 0x61 ∷ 0x73 ∷ 0x6D ∷ 0x01 ∷ 0x00 ∷ 0x00 ∷ 0x00 ∷ []

-- every function that has a type has its code
abbrev pub IsComplete : Sections → Type 0
IsComplete s = length s.type_indices ≡ length s.contents.functions

-- the octets spell a module: the header, and then sections to their end, which leave every function with its code
pub record SpellsModule (m : Contents) (text : List ℕ) : Type 0 where
  pub sections : List ℕ
  pub begins : text ≡ header ++ sections
  pub most : ℕ
  pub last : Sections
  pub each : SpellsAll section most no_sections last sections
  pub complete : IsComplete last
  pub stands_for : last.contents ≡ m

-- some octets spell it
abbrev pub IsSpelled : Contents → Type 0
IsSpelled m = (text : List ℕ) × SpellsModule m text

-- the first construct from the left that no rule allows: the header, one in a section, or the end of the octets
pub data FirstStuck (text : List ℕ) (f : BinaryFault) : Type 0 where
  at_header : (take 8 text ≢ header) → f ≡ NotModule → FirstStuck text f
  in_section : (take 8 text ≡ header) → (most : ℕ) → StuckAmong section most no_sections (drop 8 text) f → FirstStuck text f
  at_end_of_octets :
      (take 8 text ≡ header) → (most : ℕ) → (last : Sections) → SpellsAll section most no_sections last (drop 8 text) → (IsComplete last → ⊥) → f ≡ NotModule
      → FirstStuck text f

-- a fault is the first construct that no rule allows; want of memory says nothing
abbrev pub IsFirstStuck : BinaryFault → List ℕ → Type 0
IsFirstStuck NoMemory text = Unit {0}
IsFirstStuck NotModule text = FirstStuck text NotModule
IsFirstStuck (OutOfProfile what) text = FirstStuck text (OutOfProfile what)
