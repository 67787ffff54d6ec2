-- Where a local is set and then got, one `local.tee` does both: in sequences, as `tee::push` writes them, and in the code that they stand
-- for.
use Rattle.std.specs.Prelude.{ℕ, ◌==◌, if◌then◌else◌, List, [], ◌∷◌, Option, Some, None}
use Rattle.qw_module.specs.declared.instruction.ValType.TheVariants.{I32}
use Rattle.qw_module.specs.declared.instruction.Binary.TheVariants.{Mul}
use Rattle.qw_module.specs.declared.instruction.Relation.TheVariants.{Eq}
use Rattle.qw_module.specs.declared.instruction.Const.TheVariants as const
use Rattle.qw_module.specs.declared.instruction.Instr.{Instr}
use Rattle.qw_module.specs.declared.instruction.Instr.TheVariants as i
use Rattle.qw_module.specs.declared.instruction.Op.TheVariants as o
use Rattle.qw_module.specs.Execution.{refusal}
use Rattle.qw_module.specs.Syntax.{Code, done, op, unreachable, block, loop, if_then, if_else, br, br_if, br_table, return, call}
use Rattle.qw_linear.specs.Memory.{page}
use Rattle.qw_low.specs.Syntax.{Statement, skip, seq, assign, load, store, conditional, while, request, raise, exit}
use Rattle.qw_low.specs.Translation.{expression_code, unaligned, raising, setting}

-- ---- in sequences
-- the `local.tee` that two instructions make, one directly behind the other
abbrev pub tee_of : Instr → Instr → Option Instr
tee_of (i.Op (o.LocalSet x)) (i.Op (o.LocalGet y)) = if x == y then Some (i.Op (o.LocalTee x)) else None
tee_of _ _ = None

abbrev pub pair : Instr → Instr → Option Instr → List Instr
pair first second None = first ∷ second ∷ []
pair first second (Some tee) = tee ∷ []

-- one more instruction at the end of a sequence
abbrev pub pushed : List Instr → Instr → List Instr
pushed [] next = next ∷ []
pushed (last ∷ []) next = pair last next (tee_of last next)
pushed (first ∷ second ∷ rest) next = first ∷ pushed (second ∷ rest) next

-- a `local.set` before a sequence
abbrev pub set_before : ℕ → List Instr → List Instr
set_before x (i.Op (o.LocalGet y) ∷ rest) = if x == y then i.Op (o.LocalTee x) ∷ rest else i.Op (o.LocalSet x) ∷ i.Op (o.LocalGet y) ∷ rest
set_before x rest = i.Op (o.LocalSet x) ∷ rest

-- one more instruction before a sequence
abbrev pub before : Instr → List Instr → List Instr
before (i.Op (o.LocalSet x)) rest = set_before x rest
before first rest = first ∷ rest

abbrev pub fused : List Instr → List Instr
fused [] = []
fused (first ∷ rest) = before first (fused rest)

-- ---- in code
abbrev pub fused_code : Code → Code
fused_code done = done
fused_code (op (o.LocalSet x) rest) = setting x (fused_code rest)
fused_code (op operator rest) = op operator (fused_code rest)
fused_code (unreachable rest) = unreachable (fused_code rest)
fused_code (block result inner rest) = block result (fused_code inner) (fused_code rest)
fused_code (loop result inner rest) = loop result (fused_code inner) (fused_code rest)
fused_code (if_then result inner rest) = if_then result (fused_code inner) (fused_code rest)
fused_code (if_else result inner other rest) = if_else result (fused_code inner) (fused_code other) (fused_code rest)
fused_code (br label rest) = br label (fused_code rest)
fused_code (br_if label rest) = br_if label (fused_code rest)
fused_code (br_table labels default rest) = br_table labels default (fused_code rest)
fused_code (return rest) = return (fused_code rest)
fused_code (call index rest) = call index (fused_code rest)

-- ---- the code of Low with each set and each get by itself
abbrev pub plain_octets : ℕ → Code → Code
plain_octets x k = op (o.LocalGet x) (op (o.Const (const.I32 page)) (op (o.Binary I32 Mul) (op (o.LocalSet x) k)))

abbrev pub plain_answer : ℕ → Code → Code
plain_answer x k =
    op (o.LocalTee x) (op (o.Const (const.I32 refusal)) (op (o.Relation I32 Eq) (if_then None (raising 3 done) (plain_octets x k))))

abbrev pub plain_code : Statement → Code → Code
plain_code skip k = k
plain_code (seq a b) k = plain_code a (plain_code b k)
plain_code (assign x e) k = expression_code e (op (o.LocalSet x) k)
plain_code (load x l offset a) k = expression_code a (op (o.Load l (unaligned offset)) (op (o.LocalSet x) k))
plain_code (store st offset a e) k = expression_code a (expression_code e (op (o.Store st (unaligned offset)) k))
plain_code (conditional e a b) k = expression_code e (if_else None (plain_code a done) (plain_code b done) k)
plain_code (while e a) k = expression_code e (if_then None (loop None (plain_code a (expression_code e (br_if 0 done))) done) k)
plain_code (request e x) k = expression_code e (call 1 (plain_answer x k))
plain_code (raise code) k = raising code k
plain_code exit k = return k
