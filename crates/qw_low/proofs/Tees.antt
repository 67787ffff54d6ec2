-- Sequences in which a set and a get of one local are one `local.tee` stand for the code in which they are.
use Rattle.std.proofs.Common.{◌≡◌, ℕ, zero, suc, ◌+◌, ◌-◌, ◌==◌, if◌then◌else◌, Bool, true, false, List, [], ◌∷◌, ◌++◌, length, map, Some, None, slice_index_or, slice_set, refl, sym, ap, ap₂, ◌∙◌, arith}
use Rattle.std.specs.List.{AllByRecursion}
use Rattle.std.proofs.lemmas.List.{length-map}
use Rattle.qw_module.specs.declared.instruction.Instr.{Instr}
use Rattle.qw_module.specs.declared.instruction.Instr.TheVariants as i
use Rattle.qw_module.specs.declared.instruction.Op.TheVariants as o
use Rattle.qw_module.specs.Syntax.{Code, done, op, unreachable, block, loop, if_then, if_else, br, br_if, br_table, return, call, labels_in, nested, named_below, sequence_at, code_of, IsNumbered, NamesBelow}
use Rattle.qw_low.specs.Syntax.{Expression, constant_of, local, unop, binop, divop, is_zero, relop, cvtop, advance, retreat, Statement, skip, seq, assign, load, store, conditional, while, request, raise, exit}
use Rattle.qw_low.specs.Translation.{expression_code, statement_code, setting}
use Rattle.qw_low.specs.Inner.Tees.{before, fused, fused_code, pair, plain_code, pushed, set_before, tee_of}
use Rattle.qw_low.specs.Inner.Writing.{unlabelled}

-- ---- what fused sequences stand for
nested-set : (names : ℕ → Code) (x : ℕ) (rest : List Instr) → nested [] names (set_before x rest) ≡ setting x (nested [] names rest)
nested-set names x (i.Op (o.LocalGet y) ∷ rest) = same (x == y)
  where
    same : (is : Bool) → nested [] names (if is then i.Op (o.LocalTee x) ∷ rest else i.Op (o.LocalSet x) ∷ i.Op (o.LocalGet y) ∷ rest)
        ≡ (if is then op (o.LocalTee x) (nested [] names rest) else op (o.LocalSet x) (op (o.LocalGet y) (nested [] names rest)))
    same true = refl
    same false = refl
nested-set names x (i.If result one None ∷ rest) = refl
nested-set names x (i.If result one (Some other) ∷ rest) = refl
nested-set names x _ = refl

module _ (names fused_names : ℕ → Code) (same : (n : ℕ) → fused_names n ≡ fused_code (names n)) where
  nested-fused : (sequence : List Instr) → nested [] fused_names (fused sequence) ≡ fused_code (nested [] names sequence)
  nested-fused [] = refl
  nested-fused (i.Op (o.LocalSet x) ∷ rest) = nested-set fused_names x (fused rest) ∙ ap (setting x) (nested-fused rest)
  nested-fused (i.Op operator ∷ rest) = ap (op operator) (nested-fused rest)
  nested-fused (i.Unreachable ∷ rest) = ap unreachable (nested-fused rest)
  nested-fused (i.Block result body ∷ rest) = ap₂ (block result) (same body) (nested-fused rest)
  nested-fused (i.Loop result body ∷ rest) = ap₂ (loop result) (same body) (nested-fused rest)
  nested-fused (i.If result one None ∷ rest) = ap₂ (if_then result) (same one) (nested-fused rest)
  nested-fused (i.If result one (Some other) ∷ rest) =
      ap₂ (λ (a k : Code). if_else result a (fused_names other) k) (same one) (nested-fused rest)
      ∙ ap (λ (b : Code). if_else result (fused_code (names one)) b (fused_code (nested [] names rest))) (same other)
  nested-fused (i.Br label ∷ rest) = ap (br label) (nested-fused rest)
  nested-fused (i.BrIf label ∷ rest) = ap (br_if label) (nested-fused rest)
  nested-fused (i.BrTable first count default ∷ rest) = ap (br_table (labels_in [] first count) default) (nested-fused rest)
  nested-fused (i.Return ∷ rest) = ap return (nested-fused rest)
  nested-fused (i.Call index ∷ rest) = ap (call index) (nested-fused rest)

sequence-fused : (bodies : List (List Instr)) (n : ℕ) → sequence_at (unlabelled (map fused bodies)) n ≡ fused (sequence_at (unlabelled bodies) n)
sequence-fused [] n = refl
sequence-fused (first ∷ bodies) zero = refl
sequence-fused (first ∷ bodies) (suc n) = sequence-fused bodies n

fused-choice : (is : Bool) (a b : Code) → fused_code (if is then a else b) ≡ (if is then fused_code a else fused_code b)
fused-choice true a b = refl
fused-choice false a b = refl

named_below-fused : (bodies : List (List Instr)) (m n : ℕ) → named_below (unlabelled (map fused bodies)) m n ≡ fused_code (named_below (unlabelled bodies) m n)
unfolding named_below
named_below-fused bodies zero n = refl
named_below-fused bodies (suc m) n =
    ap₂ (λ (here below : Code). if n == m then here else below)
    (ap (nested [] (named_below (unlabelled (map fused bodies)) m)) (sequence-fused bodies m)
    ∙ nested-fused (named_below (unlabelled bodies) m) (named_below (unlabelled (map fused bodies)) m) (named_below-fused bodies m) (sequence_at (unlabelled bodies) m))
    (named_below-fused bodies m n)
    ∙ sym (fused-choice (n == m) _ _)

pub code_of-fused : (bodies : List (List Instr)) → code_of (unlabelled (map fused bodies)) ≡ fused_code (code_of (unlabelled bodies))
code_of-fused bodies =
    rw (length-map bodies fused) (named_below-fused bodies (length bodies) (length bodies - 1))

-- ---- the code of Low, fused
expression-fused : (e : Expression) (k : Code) → fused_code (expression_code e k) ≡ expression_code e (fused_code k)
expression-fused (constant_of c) k = refl
expression-fused (local x) k = refl
expression-fused (unop t u e) k = expression-fused e _
expression-fused (binop t b l r) k = expression-fused l _ ∙ ap (expression_code l) (expression-fused r _)
expression-fused (divop t d l r) k = expression-fused l _ ∙ ap (expression_code l) (expression-fused r _)
expression-fused (is_zero t e) k = expression-fused e _
expression-fused (relop t r left right) k = expression-fused left _ ∙ ap (expression_code left) (expression-fused right _)
expression-fused (cvtop c e) k = expression-fused e _
expression-fused (advance a n) k = expression-fused a _ ∙ ap (expression_code a) (expression-fused n _)
expression-fused (retreat a n) k = expression-fused a _ ∙ ap (expression_code a) (expression-fused n _)

pub statement-fused : (s : Statement) (k : Code) → fused_code (plain_code s k) ≡ statement_code s (fused_code k)
statement-fused skip k = refl
statement-fused (seq a b) k = statement-fused a _ ∙ ap (statement_code a) (statement-fused b k)
statement-fused (assign x e) k = expression-fused e _
statement-fused (load x l offset a) k = expression-fused a _
statement-fused (store st offset a e) k = expression-fused a _ ∙ ap (expression_code a) (expression-fused e _)
statement-fused (conditional e a b) k =
    expression-fused e _ ∙ ap₂ (λ (one other : Code). expression_code e (if_else None one other (fused_code k))) (statement-fused a done) (statement-fused b done)
statement-fused (while e a) k =
    expression-fused e _
    ∙ ap (λ (body : Code). expression_code e (if_then None (loop None body done) (fused_code k)))
    (statement-fused a _ ∙ ap (statement_code a) (expression-fused e (br_if 0 done)))
statement-fused (request e x) k = expression-fused e _
statement-fused (raise code) k = refl
statement-fused exit k = refl

-- ---- one more instruction behind a fused sequence
set_before-two : (x z : ℕ) (next : Instr) → set_before x (pushed (i.Op (o.LocalSet z) ∷ []) next) ≡ i.Op (o.LocalSet x) ∷ pushed (i.Op (o.LocalSet z) ∷ []) next
set_before-two x z (i.Op (o.LocalGet y)) = at (z == y)
  where
    at : (is : Bool) → set_before x (pair (i.Op (o.LocalSet z)) (i.Op (o.LocalGet y)) (if is then Some (i.Op (o.LocalTee z)) else None))
        ≡ i.Op (o.LocalSet x) ∷ pair (i.Op (o.LocalSet z)) (i.Op (o.LocalGet y)) (if is then Some (i.Op (o.LocalTee z)) else None)
    at true = refl
    at false = refl
set_before-two x z _ = refl

-- an instruction that begins no pair
pushed-behind : (first : Instr) → ((next : Instr) → tee_of first next ≡ None) → (rest : List Instr) (next : Instr) → pushed (first ∷ rest) next ≡ first ∷ pushed rest next
pushed-behind first none [] next = ap (pair first next) (none next)
pushed-behind first none (second ∷ rest) next = refl

set_before-pushed : (x : ℕ) (sequence : List Instr) (next : Instr) → set_before x (pushed sequence next) ≡ pushed (set_before x sequence) next
set_before-pushed x [] (i.Op (o.LocalGet y)) = at (x == y)
  where
    at : (is : Bool) → (if is then i.Op (o.LocalTee x) ∷ [] else i.Op (o.LocalSet x) ∷ i.Op (o.LocalGet y) ∷ [])
        ≡ pair (i.Op (o.LocalSet x)) (i.Op (o.LocalGet y)) (if is then Some (i.Op (o.LocalTee x)) else None)
    at true = refl
    at false = refl
set_before-pushed x [] _ = refl
set_before-pushed x (i.Op (o.LocalGet y) ∷ rest) next =
    ap (set_before x) (pushed-behind (i.Op (o.LocalGet y)) (λ other. refl) rest next) ∙ at (x == y)
  where
    at : (is : Bool) → (if is then i.Op (o.LocalTee x) ∷ pushed rest next else i.Op (o.LocalSet x) ∷ i.Op (o.LocalGet y) ∷ pushed rest next)
        ≡ pushed (if is then i.Op (o.LocalTee x) ∷ rest else i.Op (o.LocalSet x) ∷ i.Op (o.LocalGet y) ∷ rest) next
    at true = sym (pushed-behind (i.Op (o.LocalTee x)) (λ other. refl) rest next)
    at false = ap (λ (tail : List Instr). i.Op (o.LocalSet x) ∷ tail) (sym (pushed-behind (i.Op (o.LocalGet y)) (λ other. refl) rest next))
set_before-pushed x (i.Op (o.LocalSet z) ∷ []) next = set_before-two x z next
set_before-pushed x (first ∷ []) next = refl
set_before-pushed x (first ∷ second ∷ rest) next = refl

before-pushed : (first : Instr) (sequence : List Instr) (next : Instr) → before first (pushed sequence next) ≡ pushed (before first sequence) next
before-pushed (i.Op (o.LocalSet x)) sequence next = set_before-pushed x sequence next
before-pushed (i.Op o.Nop) sequence next = sym (pushed-behind (i.Op o.Nop) (λ other. refl) sequence next)
before-pushed first sequence next = sym (pushed-behind first (λ other. refl) sequence next)

pub fused-pushed : (sequence : List Instr) (next : Instr) → fused (sequence ++ next ∷ []) ≡ pushed (fused sequence) next
fused-pushed [] (i.Op (o.LocalSet x)) = refl
fused-pushed [] next = refl
fused-pushed (first ∷ sequence) next = ap (before first) (fused-pushed sequence next) ∙ before-pushed first (fused sequence) next

-- ---- what holds of each instruction
module _ (P : Instr → Type 0) (tees : (x : ℕ) → P (i.Op (o.LocalTee x))) where
  set_before-all : (x : ℕ) (rest : List Instr) → P (i.Op (o.LocalSet x)) → AllByRecursion P rest → AllByRecursion P (set_before x rest)
  set_before-all x (i.Op (o.LocalGet y) ∷ rest) set all = at (x == y)
    where
      at : (is : Bool) → AllByRecursion P (if is then i.Op (o.LocalTee x) ∷ rest else i.Op (o.LocalSet x) ∷ i.Op (o.LocalGet y) ∷ rest)
      at true = (tees x, all.1)
      at false = (set, all)
  set_before-all x _ set all = (set, all)

  before-all : (first : Instr) (rest : List Instr) → P first → AllByRecursion P rest → AllByRecursion P (before first rest)
  before-all (i.Op (o.LocalSet x)) rest one all = set_before-all x rest one all
  before-all _ rest one all = (one, all)

  fused-all : (sequence : List Instr) → AllByRecursion P sequence → AllByRecursion P (fused sequence)
  fused-all [] all = tt
  fused-all (first ∷ rest) all = before-all first (fused rest) all.0 (fused-all rest all.1)

  pub each_fused-all : (bodies : List (List Instr)) → AllByRecursion (AllByRecursion P) bodies → AllByRecursion (AllByRecursion P) (map fused bodies)
  each_fused-all [] all = tt
  each_fused-all (first ∷ bodies) all = (fused-all first all.0, each_fused-all bodies all.1)

pub numbered-fused : (bodies : List (List Instr)) → IsNumbered (unlabelled bodies) → IsNumbered (unlabelled (map fused bodies))
numbered-fused bodies is = record {
  some = rw (length-map bodies fused) is.some;
  lower = λ n below. rw (sequence-fused bodies n) (fused-all (NamesBelow 0 n) (λ x. tt) (sequence_at (unlabelled bodies) n) (is.lower n (rw (length-map bodies fused) at below)));
}

-- ---- `tee::push`, by the last instruction
pub pushed-tee : (sequence : List Instr) (n : ℕ) (last next tee : Instr) → n + 1 ≡ length sequence → last ≡ slice_index_or sequence n last → tee_of last next ≡ Some tee →
    slice_set sequence n tee ≡ pushed sequence next
pushed-tee [] n last next tee long is made = absurd (omega arith)
pushed-tee (first ∷ []) zero last next tee long is made = sym (ap (pair first next) (ap (λ (x : Instr). tee_of x next) (sym is) ∙ made))
pushed-tee (first ∷ []) (suc n) last next tee long is made = absurd (omega arith)
pushed-tee (first ∷ second ∷ rest) zero last next tee long is made = absurd (omega arith)
pushed-tee (first ∷ second ∷ rest) (suc n) last next tee long is made =
    ap (λ (tail : List Instr). first ∷ tail) (pushed-tee (second ∷ rest) n last next tee (omega (arith, long)) is made)

pub pushed-two : (sequence : List Instr) (n : ℕ) (last next : Instr) → n + 1 ≡ length sequence → last ≡ slice_index_or sequence n last → tee_of last next ≡ None →
    slice_set sequence n last ++ next ∷ [] ≡ pushed sequence next
pushed-two [] n last next long is none = absurd (omega arith)
pushed-two (first ∷ []) zero last next long is none =
    ap (λ (x : Instr). x ∷ next ∷ []) is ∙ sym (ap (pair first next) (ap (λ (x : Instr). tee_of x next) (sym is) ∙ none))
pushed-two (first ∷ []) (suc n) last next long is none = absurd (omega arith)
pushed-two (first ∷ second ∷ rest) zero last next long is none = absurd (omega arith)
pushed-two (first ∷ second ∷ rest) (suc n) last next long is none =
    ap (λ (tail : List Instr). first ∷ tail) (pushed-two (second ∷ rest) n last next (omega (arith, long)) is none)

pub pushed-first : (sequence : List Instr) (next : Instr) → length sequence ≡ 0 → sequence ++ next ∷ [] ≡ pushed sequence next
pushed-first [] next none = refl
pushed-first (first ∷ sequence) next none = absurd (omega (arith, none))
