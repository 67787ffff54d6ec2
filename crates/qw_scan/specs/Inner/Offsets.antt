-- Mirrors `offsets_from` and `global_kind_at`: where the things of a vector begin, and globals by their types.
use Rattle.std.specs.Prelude.{ℕ, zero, suc, ◌-◌, Bool, List, [], ◌∷◌, length, drop, Option, Some, None, Result, Ok, Err}
use Rattle.qw_octet_grammar.specs.declared.fault.BinaryFault.{BinaryFault}
use Rattle.qw_octet_grammar.specs.Grammar.{Grammar, is, after}
use Rattle.qw_octet_grammar.specs.Numbers.{u32}
use Rattle.qw_octet_grammar.specs.Reading.{read}
use Rattle.qw_module.specs.declared.instruction.ValType.{ValType}
use Rattle.qw_module.specs.Typing.{GlobalType}
use Rattle.qw_binary.specs.Types.{val_type, mutability}
use Rattle.qw_scan.specs.Inner.Shapes.{shapes}

-- behind what was read of a module's octets; nothing is where reading gives nothing
abbrev pub behind_read : {A : Type 0} → (A → (at : ℕ) → List ℕ) → (whole : List ℕ) → Result (A × List ℕ) BinaryFault → List ℕ
behind_read next whole (Ok x) = next x.0 (length whole - length x.1)
behind_read next whole (Err fault) = []

-- where so many things begin that stand one behind the other, the first behind so many octets
unfoldable pub offsets : Grammar (Unit {0}) → (whole : List ℕ) → (count at : ℕ) → List ℕ
offsets g whole zero at = []
offsets g whole (suc n) at = at ∷ behind_read (λ x. offsets g whole n) whole (read g (drop at whole))

-- the same of those of a vector
abbrev pub vector_offsets : Grammar (Unit {0}) → (whole : List ℕ) → (at : Option ℕ) → List ℕ
vector_offsets g whole None = []
vector_offsets g whole (Some at) = behind_read (offsets g whole) whole (read u32 (drop at whole))

abbrev pub kind_from : ValType → Bool → GlobalType
kind_from type mutable = record { type = type; mutable = mutable }

-- a global, of which its type alone is kept
abbrev pub global_kind : Grammar GlobalType
global_kind = after val_type (λ type. after mutability (λ mutable. after shapes (λ passed. is (kind_from type mutable))))
