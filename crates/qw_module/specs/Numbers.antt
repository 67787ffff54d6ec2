-- The meaning of numeric instructions (WebAssembly Core Specification 1.0, 4.3). A value is its unsigned
-- reading, a number below 2^32 or 2^64: which of the two, typing says.
use Rattle.std.specs.Prelude.{ℕ, zero, suc, ◌+◌, ◌-◌, ◌*◌, ◌/◌, ◌%◌, ◌^◌, ◌==◌, nat_le, nat_lt, bit_and, bit_or, bit_xor, ℤ, pos, int_le, int_lt, int_div, int_rem, Bool, not, if◌then◌else◌, Result, Ok, Err}
use Rattle.std.specs.Int.{Width, w8, w16, w32, w64, cast_signed, cast_unsigned, int_div_euclid}
use Rattle.qw_module.specs.declared.instruction.ValType.{ValType}
use Rattle.qw_module.specs.declared.instruction.ValType.TheVariants.{I32, I64}
use Rattle.qw_module.specs.declared.instruction.Sign.{Sign}
use Rattle.qw_module.specs.declared.instruction.Sign.TheVariants.{Signed, Unsigned}
use Rattle.qw_module.specs.declared.instruction.Const.{Const}
use Rattle.qw_module.specs.declared.instruction.Const.TheVariants as const
use Rattle.qw_module.specs.declared.instruction.Unary.{Unary}
use Rattle.qw_module.specs.declared.instruction.Unary.TheVariants.{Clz, Ctz, Popcnt}
use Rattle.qw_module.specs.declared.instruction.Binary.{Binary}
use Rattle.qw_module.specs.declared.instruction.Binary.TheVariants.{Add, Sub, Mul, And, Or, Xor, Shl, Shr, Rotl, Rotr}
use Rattle.qw_module.specs.declared.instruction.Division.{Division}
use Rattle.qw_module.specs.declared.instruction.Division.TheVariants.{Div, Rem}
use Rattle.qw_module.specs.declared.instruction.Relation.{Relation}
use Rattle.qw_module.specs.declared.instruction.Relation.TheVariants.{Eq, Ne, Lt, Gt, Le, Ge}
use Rattle.qw_module.specs.declared.instruction.Conversion.{Conversion}
use Rattle.qw_module.specs.declared.instruction.Conversion.TheVariants.{Wrap, Extend}
use Rattle.qw_module.specs.declared.instruction.Load.{Load}
use Rattle.qw_module.specs.declared.instruction.Load.TheVariants as load
use Rattle.qw_module.specs.declared.instruction.Store.{Store}
use Rattle.qw_module.specs.declared.instruction.Store.TheVariants as store
use Rattle.qw_module.specs.declared.trap.Trap.{Trap}
use Rattle.qw_module.specs.declared.trap.Trap.TheVariants.{DivideByZero, Overflow}

-- how many bits the values of a type have, and how many values there are (2.2.2): each is a number below this
abbrev pub bits_of : ValType → ℕ
bits_of I32 = 32
bits_of I64 = 64

abbrev pub values_of : ValType → ℕ
values_of I32 = 2 ^ 32
values_of I64 = 2 ^ 64

-- a value's signed reading, and the value of a signed reading (4.3.2, signed)
abbrev pub width_of : ValType → Width
width_of I32 = w32
width_of I64 = w64

abbrev pub signed : ValType → ℕ → ℤ
signed type n = cast_signed (width_of type) n

abbrev pub unsigned : ValType → ℤ → ℕ
unsigned type z = cast_unsigned (width_of type) z

-- the value and the type of a constant (4.4.1, t.const)
abbrev pub constant : Const → ℕ
constant (const.I32 n) = n
constant (const.I64 n) = n

abbrev pub type_of_constant : Const → ValType
type_of_constant (const.I32 n) = I32
type_of_constant (const.I64 n) = I64

-- Of the lowest n bits of a number: how many zeros stand above the highest 1, how many below the lowest 1, and how many
-- ones there are. Without a 1 all are zeros (4.3.2, iclz, ictz and ipopcnt).
unfoldable pub zeros_above : (n : ℕ) → ℕ → ℕ
zeros_above zero a = 0
zeros_above (suc n) a = if nat_lt a (2 ^ n) then 1 + zeros_above n a else 0

unfoldable pub zeros_below : (n : ℕ) → ℕ → ℕ
zeros_below zero a = 0
zeros_below (suc n) a = if a % 2 == 0 then 1 + zeros_below n (a / 2) else 0

unfoldable pub ones : (n : ℕ) → ℕ → ℕ
ones zero a = 0
ones (suc n) a = a % 2 + ones n (a / 2)

abbrev pub unary : ValType → Unary → ℕ → ℕ
unary type Clz a = zeros_above (bits_of type) a
unary type Ctz a = zeros_below (bits_of type) a
unary type Popcnt a = ones (bits_of type) a

-- by how many bits a shift or a rotation is: its second operand modulo the number of bits (4.3.2, ishl)
abbrev pub shift_of : ValType → ℕ → ℕ
shift_of type b = b % bits_of type

-- Sums, differences and products are modulo the number of values (4.3.2, iadd, isub and imul); conjunctions and disjunctions are
-- bit by bit (iand, ior, ixor). A shift by k bits is a product with 2^k modulo the number of values, or a quotient by it rounded
-- down (ishl, ishr_u, ishr_s); what a rotation shifts out comes in at the other end (irotl, irotr).
abbrev pub binary : ValType → Binary → ℕ → ℕ → ℕ
binary type Add a b = (a + b) % values_of type
binary type Sub a b = (a + values_of type - b) % values_of type
binary type Mul a b = (a * b) % values_of type
binary type And a b = bit_and a b
binary type Or a b = bit_or a b
binary type Xor a b = bit_xor a b
binary type Shl a b = (a * 2 ^ shift_of type b) % values_of type
binary type (Shr Unsigned) a b = a / 2 ^ shift_of type b
binary type (Shr Signed) a b = unsigned type (int_div_euclid (signed type a) (pos (2 ^ shift_of type b)))
binary type Rotl a b = (a * 2 ^ shift_of type b) % values_of type + a / 2 ^ (bits_of type - shift_of type b)
binary type Rotr a b = a / 2 ^ shift_of type b + (a * 2 ^ (bits_of type - shift_of type b)) % values_of type

-- A quotient is rounded toward zero, and a remainder has the sign of the dividend. There is none by 0, and no signed quotient of
-- 2^(N-1), which only the least value by -1 gives (4.3.2, idiv_u, idiv_s, irem_u and irem_s).
abbrev pub quotient_if_value : ValType → ℤ → Result ℕ Trap
quotient_if_value type z = if int_le (pos (2 ^ (bits_of type - 1))) z then Err Overflow else Ok (unsigned type z)

abbrev pub divided : ValType → Division → ℕ → ℕ → Result ℕ Trap
divided type (Div Unsigned) a b = Ok (a / b)
divided type (Div Signed) a b = quotient_if_value type (int_div (signed type a) (signed type b))
divided type (Rem Unsigned) a b = Ok (a % b)
divided type (Rem Signed) a b = Ok (unsigned type (int_rem (signed type a) (signed type b)))

abbrev pub division : ValType → Division → ℕ → ℕ → Result ℕ Trap
division type d a b = if b == 0 then Err DivideByZero else divided type d a b

-- a truth is 1 or 0 (4.3.2, "Boolean interpretation")
abbrev pub truth : Bool → ℕ
truth b = if b then 1 else 0

-- tests of two values by their signed or their unsigned readings (4.3.2, ile_s, ile_u, ilt_s and ilt_u)
abbrev pub at_most : ValType → Sign → ℕ → ℕ → Bool
at_most type Signed a b = int_le (signed type a) (signed type b)
at_most type Unsigned a b = nat_le a b

abbrev pub is_less : ValType → Sign → ℕ → ℕ → Bool
is_less type Signed a b = int_lt (signed type a) (signed type b)
is_less type Unsigned a b = nat_lt a b

abbrev pub relation : ValType → Relation → ℕ → ℕ → ℕ
relation type Eq a b = truth (a == b)
relation type Ne a b = truth (not (a == b))
relation type (Lt sign) a b = truth (is_less type sign a b)
relation type (Gt sign) a b = truth (is_less type sign b a)
relation type (Le sign) a b = truth (at_most type sign a b)
relation type (Ge sign) a b = truth (at_most type sign b a)

-- a number of fewer bits, read by the sign, as a value of a type (4.3.4, extend_u and extend_s)
abbrev pub extended : Width → Sign → ValType → ℕ → ℕ
extended from Signed type n = unsigned type (cast_signed from n)
extended from Unsigned type n = n

-- the low bits of a value of 64 bits, or a value of 32 bits extended (4.3.4, wrap)
abbrev pub converted : Conversion → ℕ → ℕ
converted Wrap a = a % 2 ^ 32
converted (Extend sign) a = extended w32 sign I64 a

abbrev pub converts_from : Conversion → ValType
converts_from Wrap = I64
converts_from (Extend sign) = I32

abbrev pub converts_to : Conversion → ValType
converts_to Wrap = I32
converts_to (Extend sign) = I64

-- how many octets a value of a type takes (4.3.1, "Storage")
abbrev pub octets_of : ValType → ℕ
octets_of I32 = 4
octets_of I64 = 8

-- how many octets a load reads, and which value it makes of their number (4.4.4)
abbrev pub load_width : Load → ℕ
load_width (load.Full type) = octets_of type
load_width (load.From8 type sign) = 1
load_width (load.From16 type sign) = 2
load_width (load.I64From32 sign) = 4

abbrev pub loaded_value : Load → ℕ → ℕ
loaded_value (load.Full type) n = n
loaded_value (load.From8 type sign) n = extended w8 sign type n
loaded_value (load.From16 type sign) n = extended w16 sign type n
loaded_value (load.I64From32 sign) n = extended w32 sign I64 n

abbrev pub type_of_load : Load → ValType
type_of_load (load.Full type) = type
type_of_load (load.From8 type sign) = type
type_of_load (load.From16 type sign) = type
type_of_load (load.I64From32 sign) = I64

-- how many octets a store writes: the low ones of its operand (4.4.4)
abbrev pub store_width : Store → ℕ
store_width (store.Full type) = octets_of type
store_width (store.To8 type) = 1
store_width (store.To16 type) = 2
store_width store.I64To32 = 4

abbrev pub type_of_store : Store → ValType
type_of_store (store.Full type) = type
type_of_store (store.To8 type) = type
type_of_store (store.To16 type) = type
type_of_store store.I64To32 = I64
