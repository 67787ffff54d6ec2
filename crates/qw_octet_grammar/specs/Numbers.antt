-- Numbers in LEB128 (WebAssembly Core Specification 1.0, 5.2.2): each octet has seven bits, the lowest first, and its highest bit
-- says that another octet follows. A spelling may be longer than it need be, up to the octets that the width has.
use Rattle.std.specs.Prelude.{ℕ, zero, suc, ◌+◌, ◌-◌, ◌*◌, ◌^◌, Bool, true, false, if◌then◌else◌, nat_lt, Result, Ok, Err}
use Rattle.qw_octet_grammar.specs.declared.fault.BinaryFault.{BinaryFault}
use Rattle.qw_octet_grammar.specs.declared.fault.BinaryFault.TheVariants.{NotModule}
use Rattle.qw_octet_grammar.specs.Grammar.{Grammar, is, refuse, octet, after, pick, settle}

-- What the last octet stands for in a number of which so many bits are left: its bits above them are zeros, or those of the sign.
-- A signed number is given by its unsigned reading, that of a negative one being larger by 2^bits; an octet from 64 on stands for
-- a negative number, which is that octet less 128.
abbrev pub last_octet : (signed : Bool) → (bits octet : ℕ) → Result ℕ BinaryFault
last_octet false bits b = if nat_lt b (2 ^ bits) then Ok b else Err NotModule
last_octet true bits b =
    if nat_lt b 64 then (if nat_lt b (2 ^ (bits - 1)) then Ok b else Err NotModule)
    else (if nat_lt (b + 2 ^ (bits - 1)) 128 then Err NotModule else Ok (2 ^ bits - (128 - b)))

-- a number of so many bits in at most so many octets
unfoldable pub leb : (signed : Bool) → (most bits : ℕ) → Grammar ℕ
leb signed zero bits = refuse NotModule
leb signed (suc most) bits =
    octet (λ b. pick (nat_lt b 128) (settle (last_octet signed bits b)) (after (leb signed most (bits - 7)) (λ high. is ((b - 128) + 128 * high))))

abbrev pub u32 : Grammar ℕ
u32 = leb false 5 32

abbrev pub s32 : Grammar ℕ
s32 = leb true 5 32

abbrev pub s64 : Grammar ℕ
s64 = leb true 10 64
