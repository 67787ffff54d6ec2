-- Instructions and expressions in the binary format (WebAssembly Core Specification 1.0, 5.4).
use Rattle.std.specs.Prelude.{ℕ, ◌-◌, ◌==◌, if◌then◌else◌, nat_lt, nat_le, Bool, true, false, List, [], ◌∷◌, ◌++◌, length, slice_get, Option, Some, None, Result, Ok, Err}
use Rattle.qw_octet_grammar.specs.declared.fault.BinaryFault.{BinaryFault}
use Rattle.qw_octet_grammar.specs.declared.fault.BinaryFault.TheVariants.{NotModule, OutOfProfile}
use Rattle.qw_octet_grammar.specs.declared.fault.What.TheVariants.{Float, CallIndirect}
use Rattle.qw_octet_grammar.specs.Grammar.{Next, goes_on, ends, Grammar, is, refuse, octet, after, items, pick, settle}
use Rattle.qw_octet_grammar.specs.Numbers.{u32, s32, s64}
use Rattle.qw_octet_grammar.specs.Vectors.{vector}
use Rattle.qw_module.specs.declared.instruction.ValType.{ValType}
use Rattle.qw_module.specs.declared.instruction.ValType.TheVariants.{I32, I64}
use Rattle.qw_module.specs.declared.instruction.Sign.TheVariants.{Signed, Unsigned}
use Rattle.qw_module.specs.declared.instruction.Const.TheVariants as const
use Rattle.qw_module.specs.declared.instruction.Unary.TheVariants as u
use Rattle.qw_module.specs.declared.instruction.Binary.TheVariants as b
use Rattle.qw_module.specs.declared.instruction.Division.TheVariants as d
use Rattle.qw_module.specs.declared.instruction.Relation.TheVariants as r
use Rattle.qw_module.specs.declared.instruction.Conversion.TheVariants as c
use Rattle.qw_module.specs.declared.instruction.Load.{Load}
use Rattle.qw_module.specs.declared.instruction.Load.TheVariants as load
use Rattle.qw_module.specs.declared.instruction.Store.{Store}
use Rattle.qw_module.specs.declared.instruction.Store.TheVariants as store
use Rattle.qw_module.specs.declared.instruction.MemArg.{MemArg}
use Rattle.qw_module.specs.declared.instruction.Op.{Op}
use Rattle.qw_module.specs.declared.instruction.Op.TheVariants as o
use Rattle.qw_module.specs.declared.instruction.Instr.{Instr}
use Rattle.qw_module.specs.declared.instruction.Instr.TheVariants as i
use Rattle.qw_module.specs.Syntax.{Sequences}
use Rattle.qw_binary.specs.Types.{block_type}

-- by what a code stands for, or else otherwise
abbrev pub given : {A B : Type 0} → Option B → (B → Grammar A) → Grammar A → Grammar A
given (Some x) k g = k x
given None k g = g

-- ---- instructions that hold no sequence, behind their codes

-- those with one index: branches and calls (5.4.1), and variables (5.4.3)
abbrev pub indexed_by : (code : ℕ) → Option (ℕ → Instr)
indexed_by code =
    if code == 0x0C then Some (λ label. i.Br label)
    else if code == 0x0D then Some (λ label. i.BrIf label)
    else if code == 0x10 then Some (λ index. i.Call index)
    else if code == 0x20 then Some (λ index. i.Op (o.LocalGet index))
    else if code == 0x21 then Some (λ index. i.Op (o.LocalSet index))
    else if code == 0x22 then Some (λ index. i.Op (o.LocalTee index))
    else if code == 0x23 then Some (λ index. i.Op (o.GlobalGet index))
    else if code == 0x24 then Some (λ index. i.Op (o.GlobalSet index))
    else None

-- loads (5.4.4)
abbrev pub load_by : (code : ℕ) → Option Load
load_by code =
    if code == 0x28 then Some (load.Full I32)
    else if code == 0x29 then Some (load.Full I64)
    else if code == 0x2C then Some (load.From8 I32 Signed)
    else if code == 0x2D then Some (load.From8 I32 Unsigned)
    else if code == 0x2E then Some (load.From16 I32 Signed)
    else if code == 0x2F then Some (load.From16 I32 Unsigned)
    else if code == 0x30 then Some (load.From8 I64 Signed)
    else if code == 0x31 then Some (load.From8 I64 Unsigned)
    else if code == 0x32 then Some (load.From16 I64 Signed)
    else if code == 0x33 then Some (load.From16 I64 Unsigned)
    else if code == 0x34 then Some (load.I64From32 Signed)
    else if code == 0x35 then Some (load.I64From32 Unsigned)
    else None

-- stores (5.4.4)
abbrev pub store_by : (code : ℕ) → Option Store
store_by code =
    if code == 0x36 then Some (store.Full I32)
    else if code == 0x37 then Some (store.Full I64)
    else if code == 0x3A then Some (store.To8 I32)
    else if code == 0x3B then Some (store.To16 I32)
    else if code == 0x3C then Some (store.To8 I64)
    else if code == 0x3D then Some (store.To16 I64)
    else if code == 0x3E then Some store.I64To32
    else None

abbrev pub mem_arg_from : (align offset : ℕ) → MemArg
mem_arg_from align offset = record { align = align; offset = offset }

-- the immediates of an access (5.4.4), which may be any
abbrev pub mem_arg : Grammar MemArg
mem_arg = after u32 (λ align. after u32 (λ offset. is (mem_arg_from align offset)))

-- the octet 00 that stands behind the codes of memory.size and memory.grow (5.4.4)
abbrev pub zero_octet : Grammar ℕ
zero_octet = octet (λ x. pick (x == 0x00) (is x) (refuse NotModule))

-- the tests and comparisons of a type, in the order of their codes (5.4.5): eqz eq ne lt_s lt_u gt_s gt_u le_s le_u ge_s ge_u
abbrev pub comparisons : ValType → List Op
comparisons t =
    o.Eqz t ∷ o.Relation t r.Eq ∷ o.Relation t r.Ne ∷ o.Relation t (r.Lt Signed) ∷ o.Relation t (r.Lt Unsigned)
    ∷ o.Relation t (r.Gt Signed) ∷ o.Relation t (r.Gt Unsigned) ∷ o.Relation t (r.Le Signed) ∷ o.Relation t (r.Le Unsigned)
    ∷ o.Relation t (r.Ge Signed) ∷ o.Relation t (r.Ge Unsigned) ∷ []

-- the other operators of a type, in the order of their codes (5.4.5): clz ctz popcnt add sub mul div_s div_u rem_s rem_u and or
-- xor shl shr_s shr_u rotl rotr
abbrev pub operators : ValType → List Op
operators t =
    o.Unary t u.Clz ∷ o.Unary t u.Ctz ∷ o.Unary t u.Popcnt ∷ o.Binary t b.Add ∷ o.Binary t b.Sub ∷ o.Binary t b.Mul
    ∷ o.Division t (d.Div Signed) ∷ o.Division t (d.Div Unsigned) ∷ o.Division t (d.Rem Signed) ∷ o.Division t (d.Rem Unsigned)
    ∷ o.Binary t b.And ∷ o.Binary t b.Or ∷ o.Binary t b.Xor ∷ o.Binary t b.Shl ∷ o.Binary t (b.Shr Signed) ∷ o.Binary t (b.Shr Unsigned)
    ∷ o.Binary t b.Rotl ∷ o.Binary t b.Rotr ∷ []

-- numeric instructions without immediates (5.4.5)
abbrev pub numeric_by : (code : ℕ) → Option Op
numeric_by code =
    if nat_lt code 0x45 then None
    else if nat_lt code 0x50 then slice_get (comparisons I32) (code - 0x45)
    else if nat_lt code 0x5B then slice_get (comparisons I64) (code - 0x50)
    else if nat_lt code 0x67 then None
    else if nat_lt code 0x79 then slice_get (operators I32) (code - 0x67)
    else if nat_lt code 0x8B then slice_get (operators I64) (code - 0x79)
    else if code == 0xA7 then Some (o.Convert c.Wrap)
    else if code == 0xAC then Some (o.Convert (c.Extend Signed))
    else if code == 0xAD then Some (o.Convert (c.Extend Unsigned))
    else None

-- whether a code is from the first of two on up to the second
abbrev pub is_from : (first last code : ℕ) → Bool
is_from first last code = if nat_le first code then nat_le code last else false

-- whether an instruction is one on floating point numbers: accesses (5.4.4); constants, comparisons, operators and conversions (5.4.5)
abbrev pub is_float : (code : ℕ) → Bool
is_float code =
    if is_from 0x2A 0x2B code then true
    else if is_from 0x38 0x39 code then true
    else if is_from 0x43 0x44 code then true
    else if is_from 0x5B 0x66 code then true
    else if is_from 0x8B 0xA6 code then true
    else if is_from 0xA8 0xAB code then true
    else is_from 0xAE 0xBF code

-- what no rule allows: call_indirect (5.4.1) and floating point numbers are out of profile, whatever follows
abbrev pub refused_by : (code : ℕ) → BinaryFault
refused_by code = if code == 0x11 then OutOfProfile CallIndirect else if is_float code then OutOfProfile Float else NotModule

abbrev pub numeric_or_fault : Option Op → (code : ℕ) → Result Instr BinaryFault
numeric_or_fault (Some op) code = Ok (i.Op op)
numeric_or_fault None code = Err (refused_by code)

-- instructions without immediates: control (5.4.1), parametric (5.4.2), numeric (5.4.5)
abbrev pub plain_by : (code : ℕ) → Result Instr BinaryFault
plain_by code =
    if code == 0x00 then Ok i.Unreachable
    else if code == 0x01 then Ok (i.Op o.Nop)
    else if code == 0x0F then Ok i.Return
    else if code == 0x1A then Ok (i.Op o.Drop)
    else if code == 0x1B then Ok (i.Op o.Select)
    else numeric_or_fault (numeric_by code) code

-- an instruction that holds no sequence and no vector, behind its code; constants are signed (5.4.5)
abbrev pub simple : (code : ℕ) → Grammar Instr
simple code =
    given (indexed_by code) (λ make. after u32 (λ index. is (make index)))
    (given (load_by code) (λ load. after mem_arg (λ arg. is (i.Op (o.Load load arg))))
    (given (store_by code) (λ store. after mem_arg (λ arg. is (i.Op (o.Store store arg))))
    (pick (code == 0x3F) (after zero_octet (λ _. is (i.Op o.MemorySize)))
    (pick (code == 0x40) (after zero_octet (λ _. is (i.Op o.MemoryGrow)))
    (pick (code == 0x41) (after s32 (λ n. is (i.Op (o.Const (const.I32 n)))))
    (pick (code == 0x42) (after s64 (λ n. is (i.Op (o.Const (const.I64 n)))))
    (settle (plain_by code))))))))

-- ---- sequences, each of which gets its number where its end is read

-- what a sequence was opened by: a block, a loop, the first sequence of an if, or its second, with the number of the first
pub data Opener : Type 0 where
  block : Option ValType → Opener
  loop : Option ValType → Opener
  first : Option ValType → Opener
  second : Option ValType → (then_body : ℕ) → Opener

-- a sequence that is open round another one: what opened that other one, and what stands before it
pub record Open : Type 0 where
  pub opener : Opener
  pub before : List Instr

-- While an expression is read: the sequences that have ended, the labels of its br_tables so far, the sequences that are open round
-- the present one, the innermost first, and the present one.
pub record Progress : Type 0 where
  pub ended : List (List Instr)
  pub labels : List ℕ
  pub around : List Open
  pub now : List Instr

abbrev pub at_first : Progress
at_first = record { ended = []; labels = []; around = []; now = [] }

-- one more instruction of the present sequence
abbrev pub with_instruction : Progress → Instr → Progress
with_instruction p instruction = record p { now = p.now ++ instruction ∷ [] }

-- one more br_table, which names its labels as a range
abbrev pub with_table : Progress → List ℕ → (default : ℕ) → Progress
with_table p labels default =
    record p { labels = p.labels ++ labels; now = p.now ++ i.BrTable (length p.labels) (length labels) default ∷ [] }

-- a sequence begins
abbrev pub begun : Progress → Opener → Progress
begun p opener = record p { around = record { opener = opener; before = p.now } ∷ p.around; now = [] }

-- the instruction of a sequence of this number that has ended; where no `else` was read, none is named
abbrev pub instruction_of : Opener → (number : ℕ) → Instr
instruction_of (block type) number = i.Block type number
instruction_of (loop type) number = i.Loop type number
instruction_of (first type) number = i.If type number None
instruction_of (second type then_body) number = i.If type then_body (Some number)

-- at an end: of the outermost sequence, or of one that an instruction of the sequence round it holds
abbrev pub at_end : (ended : List (List Instr)) → List ℕ → List Open → (now : List Instr) → Next Progress Sequences
at_end ended labels [] now = ends (record { each = ended ++ now ∷ []; labels = labels })
at_end ended labels (outer ∷ around) now =
    goes_on (record { ended = ended ++ now ∷ []; labels = labels; around = around; now = outer.before ++ instruction_of outer.opener (length ended) ∷ [] })

-- an else stands only in the first sequence of an if (5.4.1)
abbrev pub else_of : Opener → (number : ℕ) → Result Opener BinaryFault
else_of (block type) number = Err NotModule
else_of (loop type) number = Err NotModule
else_of (first type) number = Ok (second type number)
else_of (second type then_body) number = Err NotModule

abbrev pub with_else : Result Opener BinaryFault → Progress → List Instr → List Open → Result (Next Progress Sequences) BinaryFault
with_else (Err fault) p before around = Err fault
with_else (Ok opener) p before around =
    Ok (goes_on (record p { ended = p.ended ++ p.now ∷ []; around = record { opener = opener; before = before } ∷ around; now = [] }))

-- at an else
abbrev pub at_else : Progress → List Open → Result (Next Progress Sequences) BinaryFault
at_else p [] = Err NotModule
at_else p (outer ∷ around) = with_else (else_of outer.opener (length p.ended)) p outer.before around

-- which codes open a sequence (5.4.1)
abbrev pub opener_by : (code : ℕ) → Option (Option ValType → Opener)
opener_by code =
    if code == 0x02 then Some (λ type. block type)
    else if code == 0x03 then Some (λ type. loop type)
    else if code == 0x04 then Some (λ type. first type)
    else None

-- What stands behind a code: nothing, at an end (0B) or an else (05); the type of a sequence that begins; the labels and the default
-- of a br_table; or what any other instruction has.
abbrev pub instruction : Progress → (code : ℕ) → Grammar (Next Progress Sequences)
instruction p code =
    pick (code == 0x0B) (is (at_end p.ended p.labels p.around p.now))
    (pick (code == 0x05) (settle (at_else p p.around))
    (given (opener_by code) (λ opener. after block_type (λ type. is (goes_on (begun p (opener type)))))
    (pick (code == 0x0E) (after (vector u32) (λ labels. after u32 (λ default. is (goes_on (with_table p labels default)))))
    (after (simple code) (λ instruction. is (goes_on (with_instruction p instruction)))))))

-- an expression (5.4.6): instructions up to the end of the outermost sequence
abbrev pub expression : Grammar Sequences
expression = items at_first instruction
