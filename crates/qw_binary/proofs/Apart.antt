-- What a grammar spells, taken apart.
use Rattle.std.proofs.Common.{◌≡◌, ℕ, zero, suc, Bool, true, false, cond, List, [], ◌∷◌, ◌++◌, Option, Some, None, Result, Ok, Err, refl, ap, subst}
use Rattle.std.specs.Prelude.{◌==◌}
use Rattle.std.specs.List.{AllByRecursion}
use Rattle.qw_octet_grammar.specs.declared.fault.BinaryFault.{BinaryFault}
use Rattle.qw_octet_grammar.specs.Grammar.{Grammar, is, refuse, after, pick, settle, Spells}
use Rattle.qw_octet_grammar.specs.Numbers.{u32, s32, s64}
use Rattle.qw_octet_grammar.specs.Vectors.{counted, one_more, vector}
use Rattle.qw_module.specs.declared.instruction.Const.TheVariants as const
use Rattle.qw_module.specs.declared.instruction.Op.{Op}
use Rattle.qw_module.specs.declared.instruction.Op.TheVariants as o
use Rattle.qw_module.specs.declared.instruction.Instr.{Instr}
use Rattle.qw_module.specs.declared.instruction.Instr.TheVariants as i
use Rattle.qw_binary.specs.Instructions.{given, indexed_by, load_by, store_by, mem_arg, zero_octet, numeric_by, numeric_or_fault, plain_by, simple}
use Rattle.qw_binary.specs.Inner.Followed.{IsAlone}

pub some_is : {A : Type 0} (x y : A) → Some x ≡ Some y → x ≡ y
some_is x y e = cc

abbrev pub done : {A : Type 0} → A → Result A BinaryFault
done x = Ok x

pub ok_is : {A : Type 0} (x y : A) → done x ≡ done y → x ≡ y
ok_is x y e = cc

pub by_cond : {A : Type 0} (P : Type 0) (b : Bool) (x y z : A) → (x ≡ z → P) → (y ≡ z → P) → cond b x y ≡ z → P
by_cond P true x y z f g e = f e
by_cond P false x y z f g e = g e

pub by_pick : {A : Type 0} (P : Type 0) (b : Bool) (g h : Grammar A) (x : A) (text : List ℕ) → (Spells g x text → P) → (Spells h x text → P) → Spells (pick b g h) x text → P
by_pick P true g h x text f k s = f s
by_pick P false g h x text f k s = k s

pub by_given : {A B : Type 0} (P : Type 0) (o : Option B) (k : B → Grammar A) (g : Grammar A) (x : A) (text : List ℕ) → ((y : B) → o ≡ Some y → Spells (k y) x text → P) → (Spells g x text → P) → Spells (given o k g) x text → P
by_given P (Some y) k g x text f h s = f y refl s
by_given P None k g x text f h s = h s

pub by_after : {A B : Type 0} (P : Type 0) (g : Grammar B) (k : B → Grammar A) (x : A) (text : List ℕ) → ((y : B) (front rest : List ℕ) → Spells g y front → Spells (k y) x rest → P) → Spells (after g k) x text → P
unfolding Spells
by_after P g k x text f (y, front, rest, e, s, t) = f y front rest s t

pub it_is : {A : Type 0} (a x : A) (text : List ℕ) → Spells (is a) x text → a ≡ x
unfolding Spells
it_is a x text s = s.0

pub nothing : {A : Type 0} (x : A) (text : List ℕ) (f : BinaryFault) → Spells (refuse f) x text → ⊥
unfolding Spells
nothing x text f s = s

pub settled : {A : Type 0} (r : Result A BinaryFault) (x : A) (text : List ℕ) → Spells (settle r) x text → r ≡ Ok x
unfolding Spells
settled (Ok y) x text s = ap Ok s.0
settled (Err f) x text s = absurd s

-- ---- vectors

pub joined : {X : Type 0} (P : X → Type 0) (xs ys : List X) → AllByRecursion P xs → AllByRecursion P ys → AllByRecursion P (xs ++ ys)
joined P [] ys h k = k
joined P (x ∷ xs) ys h k = (h.0, joined P xs ys h.1 k)

-- what holds of each item that is spelled holds of the items of a vector
module _ {A : Type 0} (item : Grammar A) (P : A → Type 0) (each : (x : A) (text : List ℕ) → Spells item x text → P x) where
  counted_each : (n : ℕ) (before found : List A) (text : List ℕ) → AllByRecursion P before → Spells (counted n (one_more item) before) found text → AllByRecursion P found
  unfolding counted
  counted_each zero before found text h s = subst (AllByRecursion P) (it_is before found text s) h
  counted_each (suc n) before found text h s =
      by_after (AllByRecursion P found) (one_more item before) _ found text
      (λ mid front rest t u. counted_each n mid found rest
      (by_after (AllByRecursion P mid) item _ mid front
      (λ x here none v w. subst (AllByRecursion P) (it_is (before ++ x ∷ []) mid none w) (joined P before (x ∷ []) h (each x here v, tt))) t) u) s

  pub vector_each : (xs : List A) (text : List ℕ) → Spells (vector item) xs text → AllByRecursion P xs
  vector_each xs text = by_after (AllByRecursion P xs) u32 _ xs text (λ n front rest s. counted_each n [] xs rest tt)

-- ---- instructions that hold no sequence and name no labels

pub indexed_alone : (code : ℕ) (make : ℕ → Instr) → indexed_by code ≡ Some make → (n : ℕ) → IsAlone (make n)
indexed_alone code make = at (code == 0x0C) (λ label. i.Br label) (λ n. tt) _
    (at (code == 0x0D) (λ label. i.BrIf label) (λ n. tt) _
    (at (code == 0x10) (λ index. i.Call index) (λ n. tt) _
    (at (code == 0x20) (λ index. i.Op (o.LocalGet index)) (λ n. tt) _
    (at (code == 0x21) (λ index. i.Op (o.LocalSet index)) (λ n. tt) _
    (at (code == 0x22) (λ index. i.Op (o.LocalTee index)) (λ n. tt) _
    (at (code == 0x23) (λ index. i.Op (o.GlobalGet index)) (λ n. tt) _
    (at (code == 0x24) (λ index. i.Op (o.GlobalSet index)) (λ n. tt) _ (λ e. absurd cc))))))))
  where
    at : (b : Bool) (f : ℕ → Instr) → ((n : ℕ) → IsAlone (f n)) → (rest : Option (ℕ → Instr)) → (rest ≡ Some make → (n : ℕ) → IsAlone (make n)) → cond b (Some f) rest ≡ Some make → (n : ℕ) → IsAlone (make n)
    at b f alone rest later = by_cond ((n : ℕ) → IsAlone (make n)) b (Some f) rest (Some make) (λ e. subst (λ (g : ℕ → Instr). (n : ℕ) → IsAlone (g n)) (some_is f make e) alone) later

pub numeric_alone : (found : Option Op) (code : ℕ) (x : Instr) → numeric_or_fault found code ≡ Ok x → IsAlone x
numeric_alone (Some op) code x e = subst IsAlone (ok_is (i.Op op) x e) tt
numeric_alone None code x e = absurd cc

pub plain_alone : (code : ℕ) (x : Instr) → plain_by code ≡ Ok x → IsAlone x
plain_alone code x = at (code == 0x00) i.Unreachable tt _
    (at (code == 0x01) (i.Op o.Nop) tt _
    (at (code == 0x0F) i.Return tt _
    (at (code == 0x1A) (i.Op o.Drop) tt _
    (at (code == 0x1B) (i.Op o.Select) tt _ (numeric_alone (numeric_by code) code x)))))
  where
    at : (b : Bool) (y : Instr) → IsAlone y → (rest : Result Instr BinaryFault) → (rest ≡ Ok x → IsAlone x) → cond b (Ok y) rest ≡ Ok x → IsAlone x
    at b y alone rest later = by_cond (IsAlone x) b (Ok y) rest (Ok x) (λ e. subst IsAlone (ok_is y x e) alone) later

-- one immediate, by which the instruction is made
pub made_alone : {B : Type 0} (g : Grammar B) (make : B → Instr) (x : Instr) (text : List ℕ) → ((y : B) → IsAlone (make y)) → Spells (after g (λ y. is (make y))) x text → IsAlone x
made_alone g make x text alone = by_after (IsAlone x) g (λ y. is (make y)) x text (λ y front rest s t. subst IsAlone (it_is (make y) x rest t) (alone y))

pub simple_alone : (code : ℕ) (x : Instr) (text : List ℕ) → Spells (simple code) x text → IsAlone x
simple_alone code x text =
    by_given (IsAlone x) (indexed_by code) _ _ x text (λ make e. made_alone u32 make x text (indexed_alone code make e))
    (by_given (IsAlone x) (load_by code) _ _ x text (λ load e. made_alone mem_arg (λ arg. i.Op (o.Load load arg)) x text (λ y. tt))
    (by_given (IsAlone x) (store_by code) _ _ x text (λ store e. made_alone mem_arg (λ arg. i.Op (o.Store store arg)) x text (λ y. tt))
    (by_pick (IsAlone x) (code == 0x3F) _ _ x text (made_alone zero_octet (λ y. i.Op o.MemorySize) x text (λ y. tt))
    (by_pick (IsAlone x) (code == 0x40) _ _ x text (made_alone zero_octet (λ y. i.Op o.MemoryGrow) x text (λ y. tt))
    (by_pick (IsAlone x) (code == 0x41) _ _ x text (made_alone s32 (λ n. i.Op (o.Const (const.I32 n))) x text (λ y. tt))
    (by_pick (IsAlone x) (code == 0x42) _ _ x text (made_alone s64 (λ n. i.Op (o.Const (const.I64 n))) x text (λ y. tt))
    (λ s. plain_alone code x (settled (plain_by code) x text s))))))))
