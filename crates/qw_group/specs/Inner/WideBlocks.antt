-- Mirrors `src/sum.rt`, `src/quotient.rt` and `src/average.rt`: the statements whose steps their functions add. The words are in the locals n and n + 1;
-- what is behind them is the blocks' own.
use Rattle.std.specs.Prelude.{ℕ, ◌+◌, ◌-◌, ◌*◌, ◌/◌, ◌^◌}
use Rattle.qw_module.specs.declared.instruction.ValType.TheVariants.{I32, I64}
use Rattle.qw_module.specs.declared.instruction.Sign.TheVariants.{Unsigned}
use Rattle.qw_module.specs.declared.instruction.Binary.TheVariants.{Add, Sub, Mul, Shl, Shr}
use Rattle.qw_module.specs.declared.instruction.Division.TheVariants.{Div, Rem}
use Rattle.qw_module.specs.declared.instruction.Relation.TheVariants.{Ne, Lt, Le}
use Rattle.qw_module.specs.declared.instruction.Conversion.TheVariants.{Extend}
use Rattle.qw_low.specs.Syntax.{local, binop, divop, is_zero, relop, cvtop, Statement, skip, seq, assign, conditional, while, raise}
use Rattle.qw_feed.specs.Room.{i32}
use Rattle.qw_group.specs.Wides.{i64, sign_of}

-- local n has the number, which has at most 18 digits, or 2 is raised
abbrev pub fit_block : (n : ℕ) → Statement
fit_block n =
    seq (conditional (relop I64 Ne (local (n + 1)) (sign_of (local n))) (raise 2) skip)
    (conditional (relop I64 (Lt Unsigned) (i64 (2 * (10 ^ 18 - 1))) (binop I64 Add (local n) (i64 (10 ^ 18 - 1)))) (raise 2) skip)

-- A digit of so many bits of the low word's quotient by local c: the remainder so far is in local n + 2. The number's next digit comes down behind it, and
-- the quotient's takes the last place of local n.
abbrev pub divide_turn : (n c bits : ℕ) → Statement
divide_turn n c bits =
    seq (assign (n + 2) (binop I64 Add (binop I64 Shl (local (n + 2)) (i64 bits)) (binop I64 (Shr Unsigned) (local n) (i64 (64 - bits)))))
    (seq (assign n (binop I64 Add (binop I64 Shl (local n) (i64 bits)) (divop I64 (Div Unsigned) (local (n + 2)) (local c))))
    (seq (assign (n + 2) (divop I64 (Rem Unsigned) (local (n + 2)) (local c)))
    (assign (n + 3) (binop I32 Sub (local (n + 3)) (i32 1)))))

-- all digits of the low word
abbrev pub low_word_block : (n c bits : ℕ) → Statement
low_word_block n c bits = seq (assign (n + 3) (i32 (64 / bits))) (while (local (n + 3)) (divide_turn n c bits))

-- the quotient without sign, in its place, and the remainder in local n + 2
abbrev pub div_128_block : (n c : ℕ) → Statement
div_128_block n c =
    seq (assign (n + 2) (divop I64 (Rem Unsigned) (local (n + 1)) (local c)))
    (seq (assign (n + 1) (divop I64 (Div Unsigned) (local (n + 1)) (local c))) (low_word_block n c 1))

-- the same where the quotient has one word: it is left in local n
abbrev pub quotient_block : (n c : ℕ) → Statement
quotient_block n c =
    conditional (is_zero I64 (local (n + 1)))
    (seq (assign (n + 2) (divop I64 (Rem Unsigned) (local n) (local c))) (assign n (divop I64 (Div Unsigned) (local n) (local c))))
    (seq (assign (n + 2) (local (n + 1))) (low_word_block n c 4))

-- a digit more, to a base: the quotient is in local n, the remainder in local n + 2
abbrev pub digit_block : (n c base : ℕ) → Statement
digit_block n c base =
    seq (assign (n + 2) (binop I64 Mul (local (n + 2)) (i64 base)))
    (seq (assign n (binop I64 Add (binop I64 Mul (local n) (i64 base)) (divop I64 (Div Unsigned) (local (n + 2)) (local c))))
    (assign (n + 2) (divop I64 (Rem Unsigned) (local (n + 2)) (local c))))

-- four digits more, one by one
abbrev pub digit_turns : (n c : ℕ) → Statement
digit_turns n c = seq (assign (n + 3) (i32 4)) (while (local (n + 3)) (seq (digit_block n c 10) (assign (n + 3) (binop I32 Sub (local (n + 3)) (i32 1)))))

-- and at once, where ten thousand times a remainder is a word
abbrev pub digits_block : (n c : ℕ) → Statement
digits_block n c = conditional (relop I64 (Lt Unsigned) (local c) (i64 (10 ^ 15))) (digit_block n c (10 ^ 4)) (digit_turns n c)

-- ten thousand times the number without sign in the locals n and n + 1, divided by local c; 2 is raised where that has more than 18 digits
abbrev pub average_block : (n c : ℕ) → Statement
average_block n c =
    seq (quotient_block n c)
    (seq (conditional (relop I64 (Le Unsigned) (i64 (10 ^ 14)) (local n)) (raise 2) skip) (digits_block n c))

-- the opposite number
abbrev pub opposite_128 : (n : ℕ) → Statement
opposite_128 n =
    seq (assign (n + 1) (binop I64 Sub (binop I64 Sub (i64 0) (local (n + 1))) (cvtop (Extend Unsigned) (relop I64 Ne (local n) (i64 0)))))
    (assign n (binop I64 Sub (i64 0) (local n)))

-- The average of the sum in the locals f + 1 and f + 2, over local c: local f says whether it is below 0. It is left in local f + 1.
abbrev pub averaging_block : (f c : ℕ) → Statement
averaging_block f c =
    seq (assign f (relop I64 (Lt Unsigned) (i64 (2 ^ 63 - 1)) (local (f + 1 + 1))))
    (seq (conditional (local f) (opposite_128 (f + 1)) skip)
    (seq (average_block (f + 1) c) (conditional (local f) (assign (f + 1) (binop I64 Sub (i64 0) (local (f + 1)))) skip)))
