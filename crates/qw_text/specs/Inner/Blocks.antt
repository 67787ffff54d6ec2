-- Mirrors `src/walk.rt`, `src/equality.rt`, `src/order.rt` and `src/hash.rt`: the statements whose steps their functions add. Of the block's own locals
-- `n` holds how many octets are to be compared (0 once two differ), `n + 1` how many were the same, and the other two what was compared last.
use Rattle.std.specs.Prelude.{ℕ, ◌+◌}
use Rattle.qw_module.specs.declared.instruction.ValType.TheVariants.{I32, I64}
use Rattle.qw_module.specs.declared.instruction.Sign.TheVariants.{Signed, Unsigned}
use Rattle.qw_module.specs.declared.instruction.Const.TheVariants as const
use Rattle.qw_module.specs.declared.instruction.Binary.TheVariants.{Add, Mul, Sub, Xor}
use Rattle.qw_module.specs.declared.instruction.Relation.TheVariants.{Eq, Lt, Gt}
use Rattle.qw_module.specs.declared.instruction.Conversion.TheVariants.{Extend}
use Rattle.qw_module.specs.declared.instruction.Load.TheVariants.{From8}
use Rattle.qw_low.specs.Syntax.{Expression, constant_of, local, binop, relop, cvtop, advance, Statement, skip, seq, assign, load, conditional, while}

abbrev pub i32 : ℕ → Expression
i32 x = constant_of (const.I32 x)

abbrev pub i64 : ℕ → Expression
i64 x = constant_of (const.I64 x)

-- ---- one pass
abbrev pub load_octet : (to address index : ℕ) → Statement
load_octet to address index = load to (From8 I64 Unsigned) 0 (advance (local address) (local index))

abbrev pub start_block : (n : ℕ) → Statement
start_block n = seq (assign (n + 1) (i32 0)) (seq (assign (n + 2) (i64 0)) (assign (n + 3) (i64 0)))

abbrev pub are_same : (n : ℕ) → Expression
are_same n = relop I64 Eq (local (n + 2)) (local (n + 3))

abbrev pub go_on : (n : ℕ) → Statement
go_on n = conditional (are_same n) (assign (n + 1) (binop I32 Add (local (n + 1)) (i32 1))) (assign n (i32 0))

abbrev pub is_left : (n : ℕ) → Expression
is_left n = relop I32 (Lt Unsigned) (local (n + 1)) (local n)

abbrev pub turn_block : (a b n : ℕ) → Statement
turn_block a b n = seq (load_octet (n + 2) a (n + 1)) (seq (load_octet (n + 3) b (n + 1)) (go_on n))

abbrev pub walk_block : (a b n : ℕ) → Statement
walk_block a b n = seq (start_block n) (while (is_left n) (turn_block a b n))

-- ---- equality
abbrev pub equality_block : (a ca b cb n : ℕ) → Statement
equality_block a ca b cb n =
    conditional (relop I32 Eq (local ca) (local cb))
    (seq (assign n (local ca)) (seq (walk_block a b n) (assign n (are_same n))))
    (assign n (i32 0))

-- ---- order
abbrev pub shorter_block : (ca cb n : ℕ) → Statement
shorter_block ca cb n = conditional (relop I32 (Lt Unsigned) (local ca) (local cb)) (assign n (local ca)) (assign n (local cb))

abbrev pub widened : (x : ℕ) → Expression
widened x = cvtop (Extend Unsigned) (local x)

abbrev pub lengths_block : (ca cb n : ℕ) → Statement
lengths_block ca cb n = conditional (are_same n) (seq (assign (n + 2) (widened ca)) (assign (n + 3) (widened cb))) skip

abbrev pub sign_of : (n : ℕ) → Expression
sign_of n = cvtop (Extend Signed) (binop I32 Sub (relop I64 (Gt Unsigned) (local (n + 2)) (local (n + 3))) (relop I64 (Lt Unsigned) (local (n + 2)) (local (n + 3))))

abbrev pub sign_block : (n : ℕ) → Statement
sign_block n = assign (n + 2) (sign_of n)

abbrev pub order_block : (a ca b cb n : ℕ) → Statement
order_block a ca b cb n = seq (shorter_block ca cb n) (seq (walk_block a b n) (seq (lengths_block ca cb n) (sign_block n)))

-- ---- hash: local x has it, x + 1 how many octets were folded, x + 2 the octet at hand
abbrev pub fold_block : (x : ℕ) → Statement
fold_block x = assign x (binop I64 Mul (binop I64 Xor (local x) (local (x + 2))) (i64 1099511628211))

abbrev pub next_octet : (x : ℕ) → Statement
next_octet x = assign (x + 1) (binop I32 Add (local (x + 1)) (i32 1))

abbrev pub unfolded_left : (c x : ℕ) → Expression
unfolded_left c x = relop I32 (Lt Unsigned) (local (x + 1)) (local c)

abbrev pub fold_turn : (a x : ℕ) → Statement
fold_turn a x = seq (load_octet (x + 2) a (x + 1)) (seq (fold_block x) (next_octet x))

abbrev pub hash_block : (a c x : ℕ) → Statement
hash_block a c x = seq (assign (x + 1) (i32 0)) (while (unfolded_left c x) (fold_turn a x))
