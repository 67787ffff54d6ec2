-- Mirrors `src/like.rt`: the statements whose steps its functions add. Of the block's own locals `n` holds 2 until the answer is known,
-- `n + 1` the index in the text, `n + 2` that in the pattern, `n + 3` and `n + 4` where both stood behind the last `%` (`n + 4` is 0 before
-- there is one), `n + 5` an octet of the pattern, `n + 6` an octet of the text, then whether it is taken, and `n + 7` whether the text stands
-- within a character that a `_` took.
use Rattle.std.specs.Prelude.{ℕ, ◌+◌}
use Rattle.qw_module.specs.declared.instruction.ValType.TheVariants.{I32}
use Rattle.qw_module.specs.declared.instruction.Sign.TheVariants.{Unsigned}
use Rattle.qw_module.specs.declared.instruction.Binary.TheVariants.{Add, Shr}
use Rattle.qw_module.specs.declared.instruction.Relation.TheVariants.{Eq, Ne}
use Rattle.qw_module.specs.declared.instruction.Load.TheVariants.{From8}
use Rattle.qw_low.specs.Syntax.{Expression, local, binop, relop, advance, Statement, skip, seq, assign, load, conditional, while}
use Rattle.qw_text.specs.Inner.Blocks.{i32}

abbrev pub same : (x y : ℕ) → Expression
same x y = relop I32 Eq (local x) (local y)

abbrev pub is_octet : (x octet : ℕ) → Expression
is_octet x octet = relop I32 Eq (local x) (i32 octet)

abbrev pub one_more : ℕ → Expression
one_more x = binop I32 Add (local x) (i32 1)

abbrev pub next : ℕ → Statement
next x = assign x (one_more x)

abbrev pub load_small : (to address index : ℕ) → Statement
load_small to address index = load to (From8 I32 Unsigned) 0 (advance (local address) (local index))

abbrev pub begin_block : ℕ → Statement
begin_block n =
    seq (assign n (i32 2)) (seq (assign (n + 1) (i32 0)) (seq (assign (n + 2) (i32 0)) (seq (assign (n + 3) (i32 0)) (seq (assign (n + 4) (i32 0)) (assign (n + 7) (i32 0))))))

-- ---- behind a character
-- the first two bits of an octet are 10 where it continues a character, and only there
abbrev pub first_bits : ℕ → Expression
first_bits x = binop I32 (Shr Unsigned) (local x) (i32 6)

abbrev pub look_block : (address n : ℕ) → Statement
look_block address n = seq (load_small (n + 6) address (n + 1)) (assign (n + 7) (relop I32 Eq (first_bits (n + 6)) (i32 2)))

abbrev pub within_block : (address count n : ℕ) → Statement
within_block address count n = conditional (same (n + 1) count) (assign (n + 7) (i32 0)) (look_block address n)

-- whether the character that a `_` took goes on here
abbrev pub skim_block : (address count n : ℕ) → Statement
skim_block address count n = conditional (local (n + 7)) (within_block address count n) skip

-- ---- a try that failed
abbrev pub again_block : ℕ → Statement
again_block n = seq (next (n + 3)) (seq (assign (n + 1) (local (n + 3))) (assign (n + 2) (local (n + 4))))

-- the next end of the text for the last `%`, if there is one
abbrev pub retry_block : ℕ → Statement
retry_block n = conditional (local (n + 4)) (again_block n) (assign n (i32 0))

-- ---- at the end of the pattern
abbrev pub is_some : ℕ → Expression
is_some x = relop I32 Ne (local x) (i32 0)

-- if the text isn't at its end, a `%` before the pattern's end has taken the rest
abbrev pub rest_block : ℕ → Statement
rest_block n = conditional (same (n + 4) (n + 2)) (assign n (is_some (n + 2))) (retry_block n)

abbrev pub end_block : (count n : ℕ) → Statement
end_block count n = conditional (same (n + 1) count) (assign n (i32 1)) (rest_block n)

-- ---- at an octet of the pattern
abbrev pub star_block : ℕ → Statement
star_block n = seq (next (n + 2)) (seq (assign (n + 4) (local (n + 2))) (assign (n + 3) (local (n + 1))))

-- a `_` takes an octet that begins a character, and then goes on behind that
abbrev pub any_block : ℕ → Statement
any_block n = seq (assign (n + 7) (relop I32 Ne (first_bits (n + 6)) (i32 2))) (assign (n + 6) (local (n + 7)))

abbrev pub taken_block : ℕ → Statement
taken_block n = conditional (is_octet (n + 5) 95) (any_block n) (assign (n + 6) (same (n + 5) (n + 6)))

abbrev pub on_block : ℕ → Statement
on_block n = conditional (local (n + 6)) (seq (next (n + 1)) (next (n + 2))) (retry_block n)

abbrev pub take_block : (address n : ℕ) → Statement
take_block address n = seq (load_small (n + 6) address (n + 1)) (seq (taken_block n) (on_block n))

abbrev pub other_block : (address count n : ℕ) → Statement
other_block address count n = conditional (same (n + 1) count) (assign n (i32 0)) (take_block address n)

abbrev pub octet_block : (address count pattern n : ℕ) → Statement
octet_block address count pattern n = seq (load_small (n + 5) pattern (n + 2)) (conditional (is_octet (n + 5) 37) (star_block n) (other_block address count n))

-- ---- all of it
abbrev pub step_block : (address count pattern long n : ℕ) → Statement
step_block address count pattern long n = conditional (same (n + 2) long) (end_block count n) (octet_block address count pattern n)

abbrev pub turn_block : (address count pattern long n : ℕ) → Statement
turn_block address count pattern long n = seq (skim_block address count n) (conditional (local (n + 7)) (next (n + 1)) (step_block address count pattern long n))

abbrev pub like_block : (address count pattern long n : ℕ) → Statement
like_block address count pattern long n = seq (begin_block n) (while (is_octet n 2) (turn_block address count pattern long n))
