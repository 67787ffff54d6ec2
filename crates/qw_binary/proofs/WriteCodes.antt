-- What stands behind a code is put by its own grammar.
use Rattle.std.proofs.Common.{◌≡◌, ℕ, ◌==◌, Bool, true, false, List, [], ◌∷◌, ◌++◌, Option, Some, None, Result, Ok, refl, sym, subst}
use Rattle.std.specs.Option.{option_map}
use Rattle.qw_octet_grammar.specs.declared.fault.BinaryFault.{BinaryFault}
use Rattle.qw_octet_grammar.specs.Grammar.{Grammar, goes_on, is, octet, after, pick, settle}
use Rattle.qw_octet_grammar.specs.Numbers.{u32, s32, s64}
use Rattle.qw_octet_grammar.specs.Vectors.{vector}
use Rattle.qw_octet_grammar.specs.Writing.{Puts}
use Rattle.qw_octet_grammar.proofs.WriteLaws.{puts_octet, puts_is, puts_after, puts_made}
use Rattle.qw_module.specs.declared.instruction.ValType.{ValType}
use Rattle.qw_module.specs.declared.instruction.Const.TheVariants as const
use Rattle.qw_module.specs.declared.instruction.MemArg.{MemArg}
use Rattle.qw_module.specs.declared.instruction.Load.{Load}
use Rattle.qw_module.specs.declared.instruction.Store.{Store}
use Rattle.qw_module.specs.declared.instruction.Op.TheVariants as o
use Rattle.qw_module.specs.declared.instruction.Instr.{Instr}
use Rattle.qw_module.specs.declared.instruction.Instr.TheVariants as i
use Rattle.qw_binary.specs.Types.{val_type_by, val_type, block_type_by, block_type, mutability_by, mutability}
use Rattle.qw_binary.specs.Instructions.{Opener, Progress, given, opener_by, indexed_by, load_by, store_by, mem_arg, zero_octet, simple, instruction, begun, with_instruction, with_table}
use Rattle.qw_binary.specs.Inner.Codes.{IsSimple, IsOpening, IsIndexed, IsLoad, IsStore, IsPlain}
use Rattle.qw_binary.specs.Inner.Writer.{PutsInstruction}

pub puts_second : {A : Type 0} (b : Bool) (g h : Grammar A) (x : A) (old new : List ℕ) → b ≡ false → Puts h x old new → Puts (pick b g h) x old new
puts_second true g h x old new e s = absurd cc
puts_second false g h x old new e s = s

puts_none : {A B : Type 0} (found : Option B) (k : B → Grammar A) (g : Grammar A) (x : A) (old new : List ℕ) → found ≡ None → Puts g x old new → Puts (given found k g) x old new
puts_none (Some y) k g x old new e s = absurd cc
puts_none None k g x old new e s = s

puts_some : {A B : Type 0} (found : Option B) (y : B) (k : B → Grammar A) (g : Grammar A) (x : A) (old new : List ℕ) → found ≡ Some y → Puts (k y) x old new → Puts (given found k g) x old new
puts_some found y k g x old new e s = subst (λ f. Puts (given f k g) x old new) (sym e) s

-- an octet that stands for a value alone
pub puts_by : {A : Type 0} (by : ℕ → Result A BinaryFault) (b : ℕ) (x : A) (old : List ℕ) → by b ≡ Ok x → Puts (octet (λ b. settle (by b))) x old (old ++ b ∷ [])
puts_by by b x old e = puts_octet (λ b. settle (by b)) b x old (old ++ b ∷ []) (subst (λ r. Puts (settle r) x (old ++ b ∷ []) (old ++ b ∷ [])) (sym e) (puts_is x (old ++ b ∷ [])))

pub puts_val_type : (b : ℕ) (type : ValType) (old : List ℕ) → val_type_by b ≡ Ok type → Puts val_type type old (old ++ b ∷ [])
puts_val_type b type old e = puts_by val_type_by b type old e

pub puts_block_type : (b : ℕ) (type : Option ValType) (old : List ℕ) → block_type_by b ≡ Ok type → Puts block_type type old (old ++ b ∷ [])
puts_block_type b type old e = puts_by block_type_by b type old e

pub puts_mutable : (old : List ℕ) → Puts mutability true old (old ++ 0x01 ∷ [])
puts_mutable old = puts_by mutability_by 0x01 true old refl

pub puts_constant_global : (old : List ℕ) → Puts mutability false old (old ++ 0x00 ∷ [])
puts_constant_global old = puts_by mutability_by 0x00 false old refl

-- by what a code makes of what stands behind it
puts_maker : {A B C : Type 0} (item : Grammar B) (finish : C → A) (found : Option (B → C)) (y : B) (made : C) (rest : Grammar A) (old new : List ℕ) → option_map (λ make. make y) found ≡ Some made → Puts item y old new
    → Puts (given found (λ make. after item (λ y. is (finish (make y)))) rest) (finish made) old new
puts_maker item finish None y made rest old new e p = absurd cc
puts_maker item finish (Some make) y made rest old new e p =
    let same : make y ≡ made = cc in
    subst (λ m. Puts (after item (λ y. is (finish (make y)))) (finish m) old new) same (puts_made item (λ y. finish (make y)) y old new p)

pub puts_opening : (code : ℕ) (type : Option ValType) (opener : Opener) (p : Progress) (old new : List ℕ) → IsOpening code type opener → Puts block_type type (old ++ code ∷ []) new
    → Puts (octet (instruction p)) (goes_on (begun p opener)) old new
puts_opening code type opener p old new h s =
    puts_octet (instruction p) code (goes_on (begun p opener)) old new
    (puts_second (code == 0x0B) _ _ (goes_on (begun p opener)) (old ++ code ∷ []) new h.inside.no_end
    (puts_second (code == 0x05) _ _ (goes_on (begun p opener)) (old ++ code ∷ []) new h.inside.no_else
    (puts_maker block_type (λ opener. goes_on (begun p opener)) (opener_by code) type opener _ (old ++ code ∷ []) new h.opens s)))

pub puts_table : (p : Progress) (labels : List ℕ) (default : ℕ) (old mid new : List ℕ) → Puts (vector u32) labels (old ++ 0x0E ∷ []) mid → Puts u32 default mid new
    → Puts (octet (instruction p)) (goes_on (with_table p labels default)) old new
puts_table p labels default old mid new f s =
    puts_octet (instruction p) 0x0E (goes_on (with_table p labels default)) old new
    (puts_after (vector u32) (λ labels. after u32 (λ default. is (goes_on (with_table p labels default)))) labels (goes_on (with_table p labels default)) (old ++ 0x0E ∷ []) mid new f
    (puts_made u32 (λ default. goes_on (with_table p labels default)) default mid new s))

puts_simple : (code : ℕ) (i : Instr) (old new : List ℕ) → IsSimple code → Puts (simple code) i (old ++ code ∷ []) new → PutsInstruction i old new
unfolding PutsInstruction
puts_simple code i old new h s = λ p.
    puts_octet (instruction p) code (goes_on (with_instruction p i)) old new
    (puts_second (code == 0x0B) _ _ (goes_on (with_instruction p i)) (old ++ code ∷ []) new h.no_end
    (puts_second (code == 0x05) _ _ (goes_on (with_instruction p i)) (old ++ code ∷ []) new h.no_else
    (puts_none (opener_by code) _ _ (goes_on (with_instruction p i)) (old ++ code ∷ []) new h.opens_none
    (puts_second (code == 0x0E) _ _ (goes_on (with_instruction p i)) (old ++ code ∷ []) new h.no_table
    (puts_made (simple code) (λ i. goes_on (with_instruction p i)) i (old ++ code ∷ []) new s)))))

pub puts_indexed : (code index : ℕ) (i : Instr) (old new : List ℕ) → IsIndexed code index i → Puts u32 index (old ++ code ∷ []) new → PutsInstruction i old new
puts_indexed code index i old new h s =
    puts_simple code i old new h.simple (puts_maker u32 (λ i. i) (indexed_by code) index i _ (old ++ code ∷ []) new h.names s)

pub puts_load : (code : ℕ) (load : Load) (arg : MemArg) (old new : List ℕ) → IsLoad code load → Puts mem_arg arg (old ++ code ∷ []) new → PutsInstruction (i.Op (o.Load load arg)) old new
puts_load code load arg old new h s =
    puts_simple code (i.Op (o.Load load arg)) old new h.simple
    (puts_none (indexed_by code) _ _ (i.Op (o.Load load arg)) (old ++ code ∷ []) new h.no_index
    (puts_some (load_by code) load _ _ (i.Op (o.Load load arg)) (old ++ code ∷ []) new h.loads
    (puts_made mem_arg (λ arg. i.Op (o.Load load arg)) arg (old ++ code ∷ []) new s)))

pub puts_store : (code : ℕ) (store : Store) (arg : MemArg) (old new : List ℕ) → IsStore code store → Puts mem_arg arg (old ++ code ∷ []) new → PutsInstruction (i.Op (o.Store store arg)) old new
puts_store code store arg old new h s =
    puts_simple code (i.Op (o.Store store arg)) old new h.simple
    (puts_none (indexed_by code) _ _ (i.Op (o.Store store arg)) (old ++ code ∷ []) new h.no_index
    (puts_none (load_by code) _ _ (i.Op (o.Store store arg)) (old ++ code ∷ []) new h.no_load
    (puts_some (store_by code) store _ _ (i.Op (o.Store store arg)) (old ++ code ∷ []) new h.stores
    (puts_made mem_arg (λ arg. i.Op (o.Store store arg)) arg (old ++ code ∷ []) new s))))

pub puts_plain : (code : ℕ) (i : Instr) (old : List ℕ) → IsPlain code i → PutsInstruction i old (old ++ code ∷ [])
puts_plain code i old h =
    let new = old ++ code ∷ [] in
    puts_simple code i old new h.simple
    (puts_none (indexed_by code) _ _ i new new h.no_index
    (puts_none (load_by code) _ _ i new new h.no_load
    (puts_none (store_by code) _ _ i new new h.no_store
    (puts_second (code == 0x3F) _ _ i new new h.no_size
    (puts_second (code == 0x40) _ _ i new new h.no_growth
    (puts_second (code == 0x41) _ _ i new new h.no_i32
    (puts_second (code == 0x42) _ _ i new new h.no_i64
    (subst (λ r. Puts (settle r) i new new) (sym h.plain) (puts_is i new)))))))))

simple_code : (code : ℕ) → (code == 0x0B) ≡ false → (code == 0x05) ≡ false → opener_by code ≡ None → (code == 0x0E) ≡ false → IsSimple code
simple_code code a b c d = record { no_end = a; no_else = b; opens_none = c; no_table = d }

pub puts_i32 : (n : ℕ) (old new : List ℕ) → Puts s32 n (old ++ 0x41 ∷ []) new → PutsInstruction (i.Op (o.Const (const.I32 n))) old new
puts_i32 n old new s = puts_simple 0x41 (i.Op (o.Const (const.I32 n))) old new (simple_code 0x41 refl refl refl refl) (puts_made s32 (λ n. i.Op (o.Const (const.I32 n))) n (old ++ 0x41 ∷ []) new s)

pub puts_i64 : (n : ℕ) (old new : List ℕ) → Puts s64 n (old ++ 0x42 ∷ []) new → PutsInstruction (i.Op (o.Const (const.I64 n))) old new
puts_i64 n old new s = puts_simple 0x42 (i.Op (o.Const (const.I64 n))) old new (simple_code 0x42 refl refl refl refl) (puts_made s64 (λ n. i.Op (o.Const (const.I64 n))) n (old ++ 0x42 ∷ []) new s)

puts_zero : (old : List ℕ) → Puts zero_octet 0 old (old ++ 0x00 ∷ [])
puts_zero old = puts_octet _ 0x00 0 old (old ++ 0x00 ∷ []) (puts_is 0 (old ++ 0x00 ∷ []))

pub puts_size : (old : List ℕ) → PutsInstruction (i.Op o.MemorySize) old ((old ++ 0x3F ∷ []) ++ 0x00 ∷ [])
puts_size old = puts_simple 0x3F (i.Op o.MemorySize) old ((old ++ 0x3F ∷ []) ++ 0x00 ∷ []) (simple_code 0x3F refl refl refl refl) (puts_made zero_octet (λ _. i.Op o.MemorySize) 0 (old ++ 0x3F ∷ []) ((old ++ 0x3F ∷ []) ++ 0x00 ∷ []) (puts_zero (old ++ 0x3F ∷ [])))

pub puts_growth : (old : List ℕ) → PutsInstruction (i.Op o.MemoryGrow) old ((old ++ 0x40 ∷ []) ++ 0x00 ∷ [])
puts_growth old = puts_simple 0x40 (i.Op o.MemoryGrow) old ((old ++ 0x40 ∷ []) ++ 0x00 ∷ []) (simple_code 0x40 refl refl refl refl) (puts_made zero_octet (λ _. i.Op o.MemoryGrow) 0 (old ++ 0x40 ∷ []) ((old ++ 0x40 ∷ []) ++ 0x00 ∷ []) (puts_zero (old ++ 0x40 ∷ [])))

-- what a writer of instructions cites
pub ruleset instruction_put = (puts_opening, puts_indexed, puts_load, puts_store, puts_plain, puts_i32, puts_i64, puts_size, puts_growth)
