-- The code of Low in WebAssembly, before the code that follows.
use Rattle.std.specs.Prelude.{ℕ, None, ◌==◌, if◌then◌else◌}
use Rattle.qw_module.specs.declared.instruction.ValType.TheVariants.{I32}
use Rattle.qw_module.specs.declared.instruction.Const.TheVariants as const
use Rattle.qw_module.specs.declared.instruction.Binary.TheVariants.{Add, Sub, Mul}
use Rattle.qw_module.specs.declared.instruction.Relation.TheVariants.{Eq}
use Rattle.qw_module.specs.declared.instruction.MemArg.{MemArg}
use Rattle.qw_module.specs.declared.instruction.Op.TheVariants as o
use Rattle.qw_module.specs.Syntax.{Code, done, op, loop, if_then, if_else, br_if, return, call}
use Rattle.qw_module.specs.Execution.{refusal}
use Rattle.qw_linear.specs.Memory.{page}
use Rattle.qw_low.specs.Syntax.{Expression, constant_of, local, unop, binop, divop, is_zero, relop, cvtop, advance, retreat, Statement, skip, seq, assign, load, store, conditional, while, request, raise, exit}

abbrev pub expression_code : Expression → Code → Code
expression_code (constant_of c) k = op (o.Const c) k
expression_code (local x) k = op (o.LocalGet x) k
expression_code (unop t u e) k = expression_code e (op (o.Unary t u) k)
expression_code (binop t b l r) k = expression_code l (expression_code r (op (o.Binary t b) k))
expression_code (divop t d l r) k = expression_code l (expression_code r (op (o.Division t d) k))
expression_code (is_zero t e) k = expression_code e (op (o.Eqz t) k)
expression_code (relop t r left right) k = expression_code left (expression_code right (op (o.Relation t r) k))
expression_code (cvtop c e) k = expression_code e (op (o.Convert c) k)
expression_code (advance a n) k = expression_code a (expression_code n (op (o.Binary I32 Add) k))
expression_code (retreat a n) k = expression_code a (expression_code n (op (o.Binary I32 Sub) k))

-- an offset without a hint of its alignment
abbrev pub unaligned : ℕ → MemArg
unaligned offset = record { align = 0; offset = offset }

-- the functions `raise` and `pages` are imported, so they are functions 0 and 1
abbrev pub raising : ℕ → Code → Code
raising code k = op (o.Const (const.I32 code)) (call 0 k)

-- A value is set into a local. Where the code that follows begins by getting that local, both are one `local.tee` (4.4.3).
abbrev pub setting : ℕ → Code → Code
setting x (op (o.LocalGet y) k) = if x == y then op (o.LocalTee x) k else op (o.LocalSet x) (op (o.LocalGet y) k)
setting x k = op (o.LocalSet x) k

-- the octets of so many pages: where pages that were granted begin
abbrev pub to_octets : ℕ → Code → Code
to_octets x k = op (o.LocalGet x) (op (o.Const (const.I32 page)) (op (o.Binary I32 Mul) (setting x k)))

-- what is done with the answer to a request
abbrev pub on_answer : ℕ → Code → Code
on_answer x k =
    op (o.LocalTee x) (op (o.Const (const.I32 refusal)) (op (o.Relation I32 Eq) (if_then None (raising 3 done) (to_octets x k))))

abbrev pub statement_code : Statement → Code → Code
statement_code skip k = k
statement_code (seq a b) k = statement_code a (statement_code b k)
statement_code (assign x e) k = expression_code e (setting x k)
statement_code (load x l offset a) k = expression_code a (op (o.Load l (unaligned offset)) (setting x k))
statement_code (store st offset a e) k = expression_code a (expression_code e (op (o.Store st (unaligned offset)) k))
statement_code (conditional e a b) k = expression_code e (if_else None (statement_code a done) (statement_code b done) k)
statement_code (while e a) k = expression_code e (if_then None (loop None (statement_code a (expression_code e (br_if 0 done))) done) k)
statement_code (request e x) k = expression_code e (call 1 (on_answer x k))
statement_code (raise code) k = raising code k
statement_code exit k = return k
