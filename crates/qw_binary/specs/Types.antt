-- Types in the binary format (WebAssembly Core Specification 1.0, 5.3).
use Rattle.std.specs.Prelude.{ℕ, ◌==◌, if◌then◌else◌, Bool, true, false, Option, Some, None, Result, Ok, Err}
use Rattle.qw_octet_grammar.specs.declared.fault.BinaryFault.{BinaryFault}
use Rattle.qw_octet_grammar.specs.declared.fault.BinaryFault.TheVariants.{NotModule, OutOfProfile}
use Rattle.qw_octet_grammar.specs.declared.fault.What.TheVariants.{Float}
use Rattle.qw_octet_grammar.specs.Grammar.{Grammar, is, refuse, octet, after, pick, settle}
use Rattle.qw_octet_grammar.specs.Numbers.{u32}
use Rattle.qw_octet_grammar.specs.Vectors.{vector}
use Rattle.qw_module.specs.declared.instruction.ValType.{ValType}
use Rattle.qw_module.specs.declared.instruction.ValType.TheVariants.{I32, I64}
use Rattle.qw_module.specs.declared.module.Limits.{Limits}
use Rattle.qw_module.specs.Typing.{Signature}

-- Value types (5.3.1): 7F is i32, 7E i64; f32 and f64 are out of profile.
abbrev pub val_type_by : ℕ → Result ValType BinaryFault
val_type_by b =
    if b == 0x7F then Ok I32
    else if b == 0x7E then Ok I64
    else if b == 0x7D then Err (OutOfProfile Float)
    else if b == 0x7C then Err (OutOfProfile Float)
    else Err NotModule

abbrev pub val_type : Grammar ValType
val_type = octet (λ b. settle (val_type_by b))

abbrev pub some_type : Result ValType BinaryFault → Result (Option ValType) BinaryFault
some_type (Ok type) = Ok (Some type)
some_type (Err fault) = Err fault

-- the types of a block (5.3.2): 40 is that without a result
abbrev pub block_type_by : ℕ → Result (Option ValType) BinaryFault
block_type_by b = if b == 0x40 then Ok None else some_type (val_type_by b)

abbrev pub block_type : Grammar (Option ValType)
block_type = octet (λ b. settle (block_type_by b))

-- the types of functions (5.3.3): 60, the types of the parameters and those of the results
abbrev pub func_type : Grammar Signature
func_type =
    octet (λ b. pick (b == 0x60)
    (after (vector val_type) (λ params. after (vector val_type) (λ results. is (record { params = params; results = results }))))
    (refuse NotModule))

abbrev pub limits_from : ℕ → Option ℕ → Limits
limits_from min max = record { min = min; max = max }

-- limits, which a memory's type is (5.3.4 and 5.3.5): 00 and the least, or 01, the least and the greatest
abbrev pub limits : Grammar Limits
limits =
    octet (λ b. pick (b == 0x00) (after u32 (λ min. is (limits_from min None)))
    (pick (b == 0x01) (after u32 (λ min. after u32 (λ max. is (limits_from min (Some max)))))
    (refuse NotModule)))

-- whether a global may be set (5.3.7)
abbrev pub mutability_by : ℕ → Result Bool BinaryFault
mutability_by b = if b == 0x00 then Ok false else if b == 0x01 then Ok true else Err NotModule

abbrev pub mutability : Grammar Bool
mutability = octet (λ b. settle (mutability_by b))
