-- Whole numbers in two words of 64 bits each, in two's complement, of which the low one comes first, and the block of Low that adds one of 64 bits.
use Rattle.std.specs.Prelude.{◌≡◌, ℕ, suc, ◌+◌, ◌-◌, ◌*◌, ◌^◌, ◌<◌, ℤ, pos, negsuc, unsigned_abs, Some, slice_get}
use Rattle.qw_module.specs.declared.instruction.ValType.TheVariants.{I64}
use Rattle.qw_module.specs.declared.instruction.Sign.TheVariants.{Signed, Unsigned}
use Rattle.qw_module.specs.declared.instruction.Const.TheVariants as const
use Rattle.qw_module.specs.declared.instruction.Binary.TheVariants.{Add, Shr}
use Rattle.qw_module.specs.declared.instruction.Conversion.TheVariants.{Extend}
use Rattle.qw_module.specs.declared.instruction.Relation.TheVariants.{Lt}
use Rattle.qw_low.specs.Syntax.{Expression, constant_of, local, binop, relop, cvtop, Statement, seq, assign}
use Rattle.qw_low.specs.State.{Number, LowState}

-- a number's value modulo 2^128
abbrev pub bits_128 : ℤ → ℕ
bits_128 (pos n) = n
bits_128 (negsuc n) = 2 ^ 128 - suc n

-- two words are a number whose magnitude has at most 127 bits
pub record IsWide (low high : ℕ) (z : ℤ) : Type 0 where
  pub low_is : low < 2 ^ 64
  pub high_is : high < 2 ^ 64
  pub value_is : high * 2 ^ 64 + low ≡ bits_128 z
  pub small : unsigned_abs z < 2 ^ 127

-- a local and the one behind it hold its words
pub record HoldsWide (s : LowState) (n : ℕ) (z : ℤ) : Type 0 where
  pub low : ℕ
  pub high : ℕ
  pub low_at : slice_get s.locals n ≡ Some (Number low)
  pub high_at : slice_get s.locals (n + 1) ≡ Some (Number high)
  pub is : IsWide low high z

-- ---- the block
-- a number of 64 bits
abbrev pub i64 : ℕ → Expression
i64 n = constant_of (const.I64 n)

-- 0 or all ones
abbrev pub sign_of : Expression → Expression
sign_of e = binop I64 (Shr Signed) e (i64 63)

-- local x is added to the words in the locals n and n + 1; the low words' sum is less than either where a 1 is carried
abbrev pub add_128_block : (n x : ℕ) → Statement
add_128_block n x =
    seq (assign (n + 2) (binop I64 Add (local n) (local x)))
    (seq (assign (n + 1) (binop I64 Add (binop I64 Add (local (n + 1)) (sign_of (local x))) (cvtop (Extend Unsigned) (relop I64 (Lt Unsigned) (local (n + 2)) (local n)))))
    (assign n (local (n + 2))))
