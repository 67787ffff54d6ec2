-- Mirrors `Types`: the types of functions where a module's octets have them.
use Rattle.std.specs.Prelude.{◌≡◌, ℕ, ◌==◌, if◌then◌else◌, List, [], drop, Result, Ok, Err}
use Rattle.qw_octet_grammar.specs.declared.fault.BinaryFault.{BinaryFault}
use Rattle.qw_octet_grammar.specs.Reading.{read}
use Rattle.qw_module.specs.declared.instruction.ValType.{ValType}
use Rattle.qw_module.specs.declared.instruction.ValType.TheVariants.{I32, I64}
use Rattle.qw_module.specs.Typing.{Signature}
use Rattle.qw_binary.specs.Types.{func_type}

-- the value type of an octet that is read as one
abbrev pub type_by : ℕ → ValType
type_by octet = if octet == 0x7F then I32 else I64

abbrev pub no_signature : Signature
no_signature = record { params = []; results = [] }

-- the type of a function that octets begin with
abbrev pub signature_by : Result (Signature × List ℕ) BinaryFault → Signature
signature_by (Ok x) = x.0
signature_by (Err fault) = no_signature

unfoldable pub signature_at : List ℕ → (offset : ℕ) → Signature
signature_at octets offset = signature_by (read func_type (drop offset octets))

-- the octets begin with the type of a function
unfoldable pub IsTypeAt : List ℕ → (offset : ℕ) → Type 0
IsTypeAt octets offset = (s : Signature) × (rest : List ℕ) × (read func_type (drop offset octets) ≡ Ok (s, rest))
