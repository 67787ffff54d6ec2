-- Short spellings of instructions that hold no sequence.
use Rattle.std.proofs.Common.{◌≡◌, ℕ, ◌==◌, ◌+◌, ◌≤◌, false, List, [], ◌∷◌, length, Option, Some, None, Ok, refl, arith}
use Rattle.std.specs.Option.{option_map}
use Rattle.qw_octet_grammar.specs.Grammar.{Grammar, goes_on, is, octet, after}
use Rattle.qw_octet_grammar.specs.Numbers.{u32, s32, s64}
use Rattle.qw_octet_grammar.specs.Writing.{Puts}
use Rattle.qw_module.specs.declared.instruction.ValType.{ValType}
use Rattle.qw_module.specs.declared.instruction.ValType.TheVariants.{I32, I64}
use Rattle.qw_module.specs.declared.instruction.Sign.TheVariants.{Signed, Unsigned}
use Rattle.qw_module.specs.declared.instruction.Const.TheVariants as const
use Rattle.qw_module.specs.declared.instruction.Unary.{Unary}
use Rattle.qw_module.specs.declared.instruction.Unary.TheVariants as u
use Rattle.qw_module.specs.declared.instruction.Binary.{Binary}
use Rattle.qw_module.specs.declared.instruction.Binary.TheVariants as b
use Rattle.qw_module.specs.declared.instruction.Division.{Division}
use Rattle.qw_module.specs.declared.instruction.Division.TheVariants as d
use Rattle.qw_module.specs.declared.instruction.Relation.{Relation}
use Rattle.qw_module.specs.declared.instruction.Relation.TheVariants as r
use Rattle.qw_module.specs.declared.instruction.Conversion.{Conversion}
use Rattle.qw_module.specs.declared.instruction.Conversion.TheVariants as c
use Rattle.qw_module.specs.declared.instruction.Load.{Load}
use Rattle.qw_module.specs.declared.instruction.Load.TheVariants as load
use Rattle.qw_module.specs.declared.instruction.Store.{Store}
use Rattle.qw_module.specs.declared.instruction.Store.TheVariants as store
use Rattle.qw_module.specs.declared.instruction.MemArg.{MemArg}
use Rattle.qw_module.specs.declared.instruction.Op.{Op}
use Rattle.qw_module.specs.declared.instruction.Op.TheVariants as o
use Rattle.qw_module.specs.declared.instruction.Instr.{Instr}
use Rattle.qw_module.specs.declared.instruction.Instr.TheVariants as i
use Rattle.qw_binary.specs.Types.{val_type_by, val_type, block_type_by, block_type}
use Rattle.qw_binary.specs.Instructions.{Progress, opener_by, indexed_by, load_by, store_by, plain_by, mem_arg, mem_arg_from, instruction, with_instruction}
use Rattle.qw_binary.specs.Sizes.{Fits, FitsArg, FitsOp}
use Rattle.qw_binary.specs.Inner.Codes.{IsSimple, IsIndexed, IsLoad, IsStore, IsPlain}
use Rattle.qw_binary.specs.Inner.Writer.{PutsInstruction}
use Rattle.qw_binary.specs.Inner.Short.{IsShort}
use Rattle.qw_binary.proofs.Short.{short_octet, short_after, short_made, short_settled, short_put, put_short, short_u32, short_s32, short_s64}
use Rattle.qw_binary.proofs.WriteCodes.{puts_indexed, puts_load, puts_store, puts_plain, puts_i32, puts_i64, puts_size, puts_growth}

simple_code : (code : ℕ) → (code == 0x0B) ≡ false → (code == 0x05) ≡ false → opener_by code ≡ None → (code == 0x0E) ≡ false → IsSimple code
simple_code code a b c d = record { no_end = a; no_else = b; opens_none = c; no_table = d }

-- ---- the codes of loads, of stores, and of what has no immediates

load_code : (code : ℕ) (load : Load) → (code == 0x0B) ≡ false → (code == 0x05) ≡ false → opener_by code ≡ None → (code == 0x0E) ≡ false → indexed_by code ≡ None → load_by code ≡ Some load → (code : ℕ) × IsLoad code load
load_code code load a b c d e f = (code, record { simple = simple_code code a b c d; no_index = e; loads = f })

store_code : (code : ℕ) (store : Store) → (code == 0x0B) ≡ false → (code == 0x05) ≡ false → opener_by code ≡ None → (code == 0x0E) ≡ false → indexed_by code ≡ None → load_by code ≡ None → store_by code ≡ Some store → (code : ℕ) × IsStore code store
store_code code store a b c d e f g = (code, record { simple = simple_code code a b c d; no_index = e; no_load = f; stores = g })

plain_code : (code : ℕ) (i : Instr) → (code == 0x0B) ≡ false → (code == 0x05) ≡ false → opener_by code ≡ None → (code == 0x0E) ≡ false → indexed_by code ≡ None → load_by code ≡ None → store_by code ≡ None
    → (code == 0x3F) ≡ false → (code == 0x40) ≡ false → (code == 0x41) ≡ false → (code == 0x42) ≡ false → plain_by code ≡ Ok i → (code : ℕ) × IsPlain code i
plain_code code i a b c d e f g h k l m n =
    (code, record { simple = simple_code code a b c d; no_index = e; no_load = f; no_store = g; no_size = h; no_growth = k; no_i32 = l; no_i64 = m; plain = n })

code_of_load : (load : Load) → (code : ℕ) × IsLoad code load
code_of_load (load.Full I32) = load_code 0x28 _ refl refl refl refl refl refl
code_of_load (load.Full I64) = load_code 0x29 _ refl refl refl refl refl refl
code_of_load (load.From8 I32 Signed) = load_code 0x2C _ refl refl refl refl refl refl
code_of_load (load.From8 I32 Unsigned) = load_code 0x2D _ refl refl refl refl refl refl
code_of_load (load.From16 I32 Signed) = load_code 0x2E _ refl refl refl refl refl refl
code_of_load (load.From16 I32 Unsigned) = load_code 0x2F _ refl refl refl refl refl refl
code_of_load (load.From8 I64 Signed) = load_code 0x30 _ refl refl refl refl refl refl
code_of_load (load.From8 I64 Unsigned) = load_code 0x31 _ refl refl refl refl refl refl
code_of_load (load.From16 I64 Signed) = load_code 0x32 _ refl refl refl refl refl refl
code_of_load (load.From16 I64 Unsigned) = load_code 0x33 _ refl refl refl refl refl refl
code_of_load (load.I64From32 Signed) = load_code 0x34 _ refl refl refl refl refl refl
code_of_load (load.I64From32 Unsigned) = load_code 0x35 _ refl refl refl refl refl refl

code_of_store : (store : Store) → (code : ℕ) × IsStore code store
code_of_store (store.Full I32) = store_code 0x36 _ refl refl refl refl refl refl refl
code_of_store (store.Full I64) = store_code 0x37 _ refl refl refl refl refl refl refl
code_of_store (store.To8 I32) = store_code 0x3A _ refl refl refl refl refl refl refl
code_of_store (store.To16 I32) = store_code 0x3B _ refl refl refl refl refl refl refl
code_of_store (store.To8 I64) = store_code 0x3C _ refl refl refl refl refl refl refl
code_of_store (store.To16 I64) = store_code 0x3D _ refl refl refl refl refl refl refl
code_of_store store.I64To32 = store_code 0x3E _ refl refl refl refl refl refl refl

code_of_eqz : (type : ValType) → (code : ℕ) × IsPlain code (i.Op (o.Eqz type))
code_of_eqz I32 = plain_code 0x45 _ refl refl refl refl refl refl refl refl refl refl refl refl
code_of_eqz I64 = plain_code 0x50 _ refl refl refl refl refl refl refl refl refl refl refl refl

code_of_relation : (type : ValType) (relation : Relation) → (code : ℕ) × IsPlain code (i.Op (o.Relation type relation))
code_of_relation I32 r.Eq = plain_code 0x46 _ refl refl refl refl refl refl refl refl refl refl refl refl
code_of_relation I32 r.Ne = plain_code 0x47 _ refl refl refl refl refl refl refl refl refl refl refl refl
code_of_relation I32 (r.Lt Signed) = plain_code 0x48 _ refl refl refl refl refl refl refl refl refl refl refl refl
code_of_relation I32 (r.Lt Unsigned) = plain_code 0x49 _ refl refl refl refl refl refl refl refl refl refl refl refl
code_of_relation I32 (r.Gt Signed) = plain_code 0x4A _ refl refl refl refl refl refl refl refl refl refl refl refl
code_of_relation I32 (r.Gt Unsigned) = plain_code 0x4B _ refl refl refl refl refl refl refl refl refl refl refl refl
code_of_relation I32 (r.Le Signed) = plain_code 0x4C _ refl refl refl refl refl refl refl refl refl refl refl refl
code_of_relation I32 (r.Le Unsigned) = plain_code 0x4D _ refl refl refl refl refl refl refl refl refl refl refl refl
code_of_relation I32 (r.Ge Signed) = plain_code 0x4E _ refl refl refl refl refl refl refl refl refl refl refl refl
code_of_relation I32 (r.Ge Unsigned) = plain_code 0x4F _ refl refl refl refl refl refl refl refl refl refl refl refl
code_of_relation I64 r.Eq = plain_code 0x51 _ refl refl refl refl refl refl refl refl refl refl refl refl
code_of_relation I64 r.Ne = plain_code 0x52 _ refl refl refl refl refl refl refl refl refl refl refl refl
code_of_relation I64 (r.Lt Signed) = plain_code 0x53 _ refl refl refl refl refl refl refl refl refl refl refl refl
code_of_relation I64 (r.Lt Unsigned) = plain_code 0x54 _ refl refl refl refl refl refl refl refl refl refl refl refl
code_of_relation I64 (r.Gt Signed) = plain_code 0x55 _ refl refl refl refl refl refl refl refl refl refl refl refl
code_of_relation I64 (r.Gt Unsigned) = plain_code 0x56 _ refl refl refl refl refl refl refl refl refl refl refl refl
code_of_relation I64 (r.Le Signed) = plain_code 0x57 _ refl refl refl refl refl refl refl refl refl refl refl refl
code_of_relation I64 (r.Le Unsigned) = plain_code 0x58 _ refl refl refl refl refl refl refl refl refl refl refl refl
code_of_relation I64 (r.Ge Signed) = plain_code 0x59 _ refl refl refl refl refl refl refl refl refl refl refl refl
code_of_relation I64 (r.Ge Unsigned) = plain_code 0x5A _ refl refl refl refl refl refl refl refl refl refl refl refl

code_of_unary : (type : ValType) (unary : Unary) → (code : ℕ) × IsPlain code (i.Op (o.Unary type unary))
code_of_unary I32 u.Clz = plain_code 0x67 _ refl refl refl refl refl refl refl refl refl refl refl refl
code_of_unary I32 u.Ctz = plain_code 0x68 _ refl refl refl refl refl refl refl refl refl refl refl refl
code_of_unary I32 u.Popcnt = plain_code 0x69 _ refl refl refl refl refl refl refl refl refl refl refl refl
code_of_unary I64 u.Clz = plain_code 0x79 _ refl refl refl refl refl refl refl refl refl refl refl refl
code_of_unary I64 u.Ctz = plain_code 0x7A _ refl refl refl refl refl refl refl refl refl refl refl refl
code_of_unary I64 u.Popcnt = plain_code 0x7B _ refl refl refl refl refl refl refl refl refl refl refl refl

code_of_binary : (type : ValType) (binary : Binary) → (code : ℕ) × IsPlain code (i.Op (o.Binary type binary))
code_of_binary I32 b.Add = plain_code 0x6A _ refl refl refl refl refl refl refl refl refl refl refl refl
code_of_binary I32 b.Sub = plain_code 0x6B _ refl refl refl refl refl refl refl refl refl refl refl refl
code_of_binary I32 b.Mul = plain_code 0x6C _ refl refl refl refl refl refl refl refl refl refl refl refl
code_of_binary I32 b.And = plain_code 0x71 _ refl refl refl refl refl refl refl refl refl refl refl refl
code_of_binary I32 b.Or = plain_code 0x72 _ refl refl refl refl refl refl refl refl refl refl refl refl
code_of_binary I32 b.Xor = plain_code 0x73 _ refl refl refl refl refl refl refl refl refl refl refl refl
code_of_binary I32 b.Shl = plain_code 0x74 _ refl refl refl refl refl refl refl refl refl refl refl refl
code_of_binary I32 (b.Shr Signed) = plain_code 0x75 _ refl refl refl refl refl refl refl refl refl refl refl refl
code_of_binary I32 (b.Shr Unsigned) = plain_code 0x76 _ refl refl refl refl refl refl refl refl refl refl refl refl
code_of_binary I32 b.Rotl = plain_code 0x77 _ refl refl refl refl refl refl refl refl refl refl refl refl
code_of_binary I32 b.Rotr = plain_code 0x78 _ refl refl refl refl refl refl refl refl refl refl refl refl
code_of_binary I64 b.Add = plain_code 0x7C _ refl refl refl refl refl refl refl refl refl refl refl refl
code_of_binary I64 b.Sub = plain_code 0x7D _ refl refl refl refl refl refl refl refl refl refl refl refl
code_of_binary I64 b.Mul = plain_code 0x7E _ refl refl refl refl refl refl refl refl refl refl refl refl
code_of_binary I64 b.And = plain_code 0x83 _ refl refl refl refl refl refl refl refl refl refl refl refl
code_of_binary I64 b.Or = plain_code 0x84 _ refl refl refl refl refl refl refl refl refl refl refl refl
code_of_binary I64 b.Xor = plain_code 0x85 _ refl refl refl refl refl refl refl refl refl refl refl refl
code_of_binary I64 b.Shl = plain_code 0x86 _ refl refl refl refl refl refl refl refl refl refl refl refl
code_of_binary I64 (b.Shr Signed) = plain_code 0x87 _ refl refl refl refl refl refl refl refl refl refl refl refl
code_of_binary I64 (b.Shr Unsigned) = plain_code 0x88 _ refl refl refl refl refl refl refl refl refl refl refl refl
code_of_binary I64 b.Rotl = plain_code 0x89 _ refl refl refl refl refl refl refl refl refl refl refl refl
code_of_binary I64 b.Rotr = plain_code 0x8A _ refl refl refl refl refl refl refl refl refl refl refl refl

code_of_division : (type : ValType) (division : Division) → (code : ℕ) × IsPlain code (i.Op (o.Division type division))
code_of_division I32 (d.Div Signed) = plain_code 0x6D _ refl refl refl refl refl refl refl refl refl refl refl refl
code_of_division I32 (d.Div Unsigned) = plain_code 0x6E _ refl refl refl refl refl refl refl refl refl refl refl refl
code_of_division I32 (d.Rem Signed) = plain_code 0x6F _ refl refl refl refl refl refl refl refl refl refl refl refl
code_of_division I32 (d.Rem Unsigned) = plain_code 0x70 _ refl refl refl refl refl refl refl refl refl refl refl refl
code_of_division I64 (d.Div Signed) = plain_code 0x7F _ refl refl refl refl refl refl refl refl refl refl refl refl
code_of_division I64 (d.Div Unsigned) = plain_code 0x80 _ refl refl refl refl refl refl refl refl refl refl refl refl
code_of_division I64 (d.Rem Signed) = plain_code 0x81 _ refl refl refl refl refl refl refl refl refl refl refl refl
code_of_division I64 (d.Rem Unsigned) = plain_code 0x82 _ refl refl refl refl refl refl refl refl refl refl refl refl

code_of_conversion : (conversion : Conversion) → (code : ℕ) × IsPlain code (i.Op (o.Convert conversion))
code_of_conversion c.Wrap = plain_code 0xA7 _ refl refl refl refl refl refl refl refl refl refl refl refl
code_of_conversion (c.Extend Signed) = plain_code 0xAC _ refl refl refl refl refl refl refl refl refl refl refl refl
code_of_conversion (c.Extend Unsigned) = plain_code 0xAD _ refl refl refl refl refl refl refl refl refl refl refl refl

-- ---- an instruction that holds no sequence, and names no labels

plain : (i : Instr) → (code : ℕ) × IsPlain code i → (text : List ℕ) × PutsInstruction i [] text × (length text ≤ 1)
plain i h = (h.0 ∷ [], puts_plain h.0 i [] h.1, omega arith)

indexed : (code index : ℕ) (i : Instr) → Fits index → IsIndexed code index i → (text : List ℕ) × PutsInstruction i [] text × (length text ≤ 6)
indexed code index i fits h =
    let number = short_u32 index fits in
    (code ∷ number.text, puts_indexed code index i [] (code ∷ number.text) h (put_short u32 index 5 (code ∷ []) number), omega (arith, number.short))

index_code : (code index : ℕ) (i : Instr) → (code == 0x0B) ≡ false → (code == 0x05) ≡ false → opener_by code ≡ None → (code == 0x0E) ≡ false → option_map (λ make. make index) (indexed_by code) ≡ Some i → IsIndexed code index i
index_code code index i a b c d e = record { simple = simple_code code a b c d; names = e }

short_mem_arg : (arg : MemArg) → FitsArg arg → IsShort mem_arg arg 10
short_mem_arg arg fits =
    short_after u32 (λ align. after u32 (λ offset. is (mem_arg_from align offset))) arg.align arg 5 5 (short_u32 arg.align fits.0)
    (short_made u32 (λ offset. mem_arg_from arg.align offset) arg.offset 5 (short_u32 arg.offset fits.1))

-- the code, and behind it this
behind : {A : Type 0} (g : Grammar A) (x : A) (most : ℕ) (code : ℕ) (i : Instr) → IsShort g x most → ((new : List ℕ) → Puts g x (code ∷ []) new → PutsInstruction i [] new)
    → (text : List ℕ) × PutsInstruction i [] text × (length text ≤ 1 + most)
behind g x most code i h put = (code ∷ h.text, put (code ∷ h.text) (put_short g x most (code ∷ []) h), omega (arith, h.short))

widened : (i : Instr) (m n : ℕ) → m ≤ n → (text : List ℕ) × PutsInstruction i [] text × (length text ≤ m) → (text : List ℕ) × PutsInstruction i [] text × (length text ≤ n)
widened i m n le h = (h.0, h.1, omega (arith, le, h.2))

short_op : (op : Op) → FitsOp op → (text : List ℕ) × PutsInstruction (i.Op op) [] text × (length text ≤ 11)
short_op o.Nop fits = widened _ 1 11 (omega arith) (plain (i.Op o.Nop) (plain_code 0x01 _ refl refl refl refl refl refl refl refl refl refl refl refl))
short_op o.Drop fits = widened _ 1 11 (omega arith) (plain (i.Op o.Drop) (plain_code 0x1A _ refl refl refl refl refl refl refl refl refl refl refl refl))
short_op o.Select fits = widened _ 1 11 (omega arith) (plain (i.Op o.Select) (plain_code 0x1B _ refl refl refl refl refl refl refl refl refl refl refl refl))
short_op (o.LocalGet x) fits = widened _ 6 11 (omega arith) (indexed 0x20 x (i.Op (o.LocalGet x)) fits (index_code 0x20 x _ refl refl refl refl refl))
short_op (o.LocalSet x) fits = widened _ 6 11 (omega arith) (indexed 0x21 x (i.Op (o.LocalSet x)) fits (index_code 0x21 x _ refl refl refl refl refl))
short_op (o.LocalTee x) fits = widened _ 6 11 (omega arith) (indexed 0x22 x (i.Op (o.LocalTee x)) fits (index_code 0x22 x _ refl refl refl refl refl))
short_op (o.GlobalGet x) fits = widened _ 6 11 (omega arith) (indexed 0x23 x (i.Op (o.GlobalGet x)) fits (index_code 0x23 x _ refl refl refl refl refl))
short_op (o.GlobalSet x) fits = widened _ 6 11 (omega arith) (indexed 0x24 x (i.Op (o.GlobalSet x)) fits (index_code 0x24 x _ refl refl refl refl refl))
short_op (o.Const (const.I32 n)) fits = widened _ 6 11 (omega arith) (behind s32 n 5 0x41 _ (short_s32 n fits) (puts_i32 n []))
short_op (o.Const (const.I64 n)) fits = behind s64 n 10 0x42 _ (short_s64 n fits) (puts_i64 n [])
short_op (o.Unary t x) fits = widened _ 1 11 (omega arith) (plain (i.Op (o.Unary t x)) (code_of_unary t x))
short_op (o.Binary t x) fits = widened _ 1 11 (omega arith) (plain (i.Op (o.Binary t x)) (code_of_binary t x))
short_op (o.Division t x) fits = widened _ 1 11 (omega arith) (plain (i.Op (o.Division t x)) (code_of_division t x))
short_op (o.Eqz t) fits = widened _ 1 11 (omega arith) (plain (i.Op (o.Eqz t)) (code_of_eqz t))
short_op (o.Relation t x) fits = widened _ 1 11 (omega arith) (plain (i.Op (o.Relation t x)) (code_of_relation t x))
short_op (o.Convert x) fits = widened _ 1 11 (omega arith) (plain (i.Op (o.Convert x)) (code_of_conversion x))
short_op (o.Load x arg) fits = let h = code_of_load x in behind mem_arg arg 10 h.0 _ (short_mem_arg arg fits) (λ new. puts_load h.0 x arg [] new h.1)
short_op (o.Store x arg) fits = let h = code_of_store x in behind mem_arg arg 10 h.0 _ (short_mem_arg arg fits) (λ new. puts_store h.0 x arg [] new h.1)
short_op o.MemorySize fits = (0x3F ∷ 0x00 ∷ [], puts_size [], omega arith)
short_op o.MemoryGrow fits = (0x40 ∷ 0x00 ∷ [], puts_growth [], omega arith)

-- ---- the same behind any state of a reader

module _ (p : Progress) where
  behind_state : (i : Instr) (most : ℕ) → (text : List ℕ) × PutsInstruction i [] text × (length text ≤ most) → IsShort (octet (instruction p)) (goes_on (with_instruction p i)) most
  unfolding PutsInstruction
  behind_state i most h = short_put (octet (instruction p)) (goes_on (with_instruction p i)) h.0 most h.2 (h.1 p)

  pub op_behind : (op : Op) → FitsOp op → IsShort (octet (instruction p)) (goes_on (with_instruction p (i.Op op))) 11
  op_behind op fits = behind_state (i.Op op) 11 (short_op op fits)

  pub unreachable_behind : IsShort (octet (instruction p)) (goes_on (with_instruction p i.Unreachable)) 1
  unreachable_behind = behind_state i.Unreachable 1 (plain i.Unreachable (plain_code 0x00 _ refl refl refl refl refl refl refl refl refl refl refl refl))

  pub return_behind : IsShort (octet (instruction p)) (goes_on (with_instruction p i.Return)) 1
  return_behind = behind_state i.Return 1 (plain i.Return (plain_code 0x0F _ refl refl refl refl refl refl refl refl refl refl refl refl))

  pub br_behind : (label : ℕ) → Fits label → IsShort (octet (instruction p)) (goes_on (with_instruction p (i.Br label))) 6
  br_behind label fits = behind_state (i.Br label) 6 (indexed 0x0C label (i.Br label) fits (index_code 0x0C label _ refl refl refl refl refl))

  pub br_if_behind : (label : ℕ) → Fits label → IsShort (octet (instruction p)) (goes_on (with_instruction p (i.BrIf label))) 6
  br_if_behind label fits = behind_state (i.BrIf label) 6 (indexed 0x0D label (i.BrIf label) fits (index_code 0x0D label _ refl refl refl refl refl))

  pub call_behind : (index : ℕ) → Fits index → IsShort (octet (instruction p)) (goes_on (with_instruction p (i.Call index))) 6
  call_behind index fits = behind_state (i.Call index) 6 (indexed 0x10 index (i.Call index) fits (index_code 0x10 index _ refl refl refl refl refl))

-- ---- types

pub short_val_type : (type : ValType) → IsShort val_type type 1
short_val_type I32 = short_octet _ 0x7F I32 0 (short_settled (val_type_by 0x7F) I32 refl)
short_val_type I64 = short_octet _ 0x7E I64 0 (short_settled (val_type_by 0x7E) I64 refl)

pub short_block_type : (type : Option ValType) → IsShort block_type type 1
short_block_type None = short_octet _ 0x40 None 0 (short_settled (block_type_by 0x40) None refl)
short_block_type (Some I32) = short_octet _ 0x7F (Some I32) 0 (short_settled (block_type_by 0x7F) (Some I32) refl)
short_block_type (Some I64) = short_octet _ 0x7E (Some I64) 0 (short_settled (block_type_by 0x7E) (Some I64) refl)
