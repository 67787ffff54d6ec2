-- The sequence that a walk stands in: its next instruction, and what is left after it.
use Rattle.std.proofs.Common.{◌≡◌, ℕ, zero, suc, ◌+◌, ◌-◌, ◌<◌, ◌≤◌, List, [], ◌∷◌, length, drop, reverse, get_or, Vec, vec_len, Global, Option, Some, None, slice_get, refl, sym, ap, ap₂, ◌∙◌, subst, arith}
use Rattle.std.specs.List.{AllByRecursion}
use Rattle.std.specs.Prelude.{unwrap_or}
use Rattle.std.proofs.lemmas.Option.{none-some, same_Some, slice_get-map, slice_get_read}
use Rattle.qw_module.specs.declared.instruction.Instr.{Instr}
use Rattle.qw_module.specs.declared.instruction.Instr.TheVariants as i
use Rattle.qw_module.specs.Syntax.{Code, done, block, loop, if_then, if_else, Sequences, nested, named, code_of, sequence_at, NamesBelow, IsNumbered}
use Rattle.qw_module.proofs.Numbered.{named-at}
use Rattle.qw_valid.specs.declared.walk.Walk.{Walk}
use Rattle.qw_valid.specs.Inner.Checkers.{body_of}
use Rattle.qw_valid.specs.Inner.Checking.{Around, nothing, opened, first_walked}
use Rattle.qw_valid.specs.declared.walk.Opener.TheVariants.{Body as Body'}
use Rattle.qw_module.specs.declared.module.Body.{Body}
use Rattle.qw_module.specs.declared.instruction.ValType.{ValType}
use Rattle.qw_module.specs.Validity.{sequences_of}
use Rattle.qw_valid.specs.Inner.Walks.{code_at, first_code, with_first, around_of, around_in}
use Rattle.std.proofs.lemmas.List.{length-map, length-reverse}

pub drop-found : (xs : List Instr) (k : ℕ) (x : Instr) → slice_get xs k ≡ Some x → drop k xs ≡ x ∷ drop (k + 1) xs
drop-found [] k x e = absurd (none-some x e)
drop-found (y ∷ xs) zero x e = ap (λ (z : Instr). z ∷ xs) (same_Some y x e)
drop-found (y ∷ xs) (suc k) x e =
    let next : k + 1 ≡ suc k = omega arith in
    let more : suc (suc k) ≡ suc k + 1 = omega arith in
    drop-found xs k x e ∙ ap (λ (j : ℕ). x ∷ drop j xs) next ∙ ap (λ (j : ℕ). x ∷ drop j (y ∷ xs)) more

pub drop-none : (xs : List Instr) (k : ℕ) → slice_get xs k ≡ None → drop k xs ≡ []
drop-none [] zero e = refl
drop-none [] (suc k) e = refl
drop-none (y ∷ xs) zero e = absurd (cc)
drop-none (y ∷ xs) (suc k) e = drop-none xs k e

each_at : (P : Instr → Type 0) (xs : List Instr) (k : ℕ) (x : Instr) → AllByRecursion P xs → slice_get xs k ≡ Some x → P x
each_at P [] k x all e = absurd (none-some x e)
each_at P (y ∷ xs) zero x all e = subst P (same_Some y x e) all.0
each_at P (y ∷ xs) (suc k) x all e = each_at P xs k x all.1 e

-- a sequence that has an instruction is there
there : (sequences : Sequences) (n k : ℕ) (x : Instr) → slice_get (sequence_at sequences n) k ≡ Some x → n < length sequences.each
there sequences n k x e = of_list sequences.each n e where
  of_list : (each : List (List Instr)) (n : ℕ) → slice_get (unwrap_or (slice_get each n) []) k ≡ Some x → n < length each
  of_list [] n e = absurd (none-some x e)
  of_list (first ∷ each) zero e = omega arith
  of_list (first ∷ each) (suc n) e = let less : n < length each = of_list each n e in omega arith

pub names_at : (sequences : Sequences) → IsNumbered sequences → (n k : ℕ) (x : Instr) → slice_get (sequence_at sequences n) k ≡ Some x → NamesBelow (length sequences.labels) n x
names_at sequences numbered n k x e = each_at (NamesBelow (length sequences.labels) n) (sequence_at sequences n) k x (numbered.lower n (there sequences n k x e)) e

first_named : (sequences : Sequences) → IsNumbered sequences → (n : ℕ) → n < length sequences.each → named sequences n ≡ first_code sequences n
first_named sequences numbered n h = named-at sequences numbered n h

-- the nested sequence begins with its first instruction
first_nested : (sequences : Sequences) → IsNumbered sequences → (n : ℕ) → n < length sequences.each → (x : Instr) (rest : List Instr) → NamesBelow (length sequences.labels) n x →
    nested sequences.labels (named sequences) (x ∷ rest) ≡ with_first sequences x (nested sequences.labels (named sequences) rest)
first_nested s numbered n h (i.Block result body) rest below =
    ap (λ (c : Code). block result c (nested s.labels (named s) rest)) (first_named s numbered body (omega arith))
first_nested s numbered n h (i.Loop result body) rest below =
    ap (λ (c : Code). loop result c (nested s.labels (named s) rest)) (first_named s numbered body (omega arith))
first_nested s numbered n h (i.If result then_body None) rest below =
    ap (λ (c : Code). if_then result c (nested s.labels (named s) rest)) (first_named s numbered then_body (omega arith))
first_nested s numbered n h (i.If result then_body (Some else_body)) rest below =
    let one : then_body < length s.each = omega (arith, below.0) in
    let two : else_body < length s.each = omega (arith, below.1) in
    ap₂ (λ (c d : Code). if_else result c d (nested s.labels (named s) rest)) (first_named s numbered then_body one) (first_named s numbered else_body two)
first_nested s numbered n h _ rest below = refl

pub code_at-found : (sequences : Sequences) → IsNumbered sequences → (n k : ℕ) (x : Instr) → slice_get (sequence_at sequences n) k ≡ Some x →
    code_at sequences n k ≡ with_first sequences x (code_at sequences n (k + 1))
code_at-found sequences numbered n k x e =
    ap (nested sequences.labels (named sequences)) (drop-found (sequence_at sequences n) k x e)
    ∙ first_nested sequences numbered n (there sequences n k x e) x (drop (k + 1) (sequence_at sequences n)) (names_at sequences numbered n k x e)

pub code_at-none : (sequences : Sequences) (n k : ℕ) → slice_get (sequence_at sequences n) k ≡ None → code_at sequences n k ≡ done
code_at-none sequences n k e = ap (nested sequences.labels (named sequences)) (drop-none (sequence_at sequences n) k e)

-- the end of a sequence, and the code of a whole body
drop-all : (xs : List Instr) → drop (length xs) xs ≡ []
drop-all [] = refl
drop-all (x ∷ xs) = drop-all xs

pub code_at-end : (sequences : Sequences) (n : ℕ) → code_at sequences n (length (sequence_at sequences n)) ≡ done
code_at-end sequences n = ap (nested sequences.labels (named sequences)) (drop-all (sequence_at sequences n))

pub code_of-first : (sequences : Sequences) → IsNumbered sequences → (n : ℕ) → n + 1 ≡ length sequences.each → code_of sequences ≡ first_code sequences n
code_of-first sequences numbered n e =
    let last : length sequences.each - 1 ≡ n = omega arith in
    ap (named sequences) last ∙ first_named sequences numbered n (omega arith)

-- as many things are around as are open
pub around-length : (w : Walk) → length (around_in w) ≡ length w.opened.items
around-length w = length-map (reverse w.opened.items) (around_of (body_of w.checker)) ∙ length-reverse w.opened.items

pub around-empty : (w : Walk) → length w.opened.items ≡ 0 → around_in w ≡ []
around-empty w e = nil_of (around_in w) (around-length w ∙ e) where
  nil_of : (around : List Around) → length around ≡ 0 → around ≡ []
  nil_of [] e = refl
  nil_of (a ∷ around) e = absurd (omega arith)

-- the last sequence as it is kept
sequence_at-kept : (body : Body) (n : ℕ) (kept : Vec Instr Global) → n < length body.sequences.items → kept ≡ get_or body.sequences.items n kept →
    sequence_at (sequences_of body) n ≡ kept.items
sequence_at-kept body n kept within read =
    let found : slice_get body.sequences.items n ≡ Some kept = slice_get_read body.sequences.items (length body.sequences.items) n kept refl within read in
    rw (slice_get-map, found) refl

pub first-same : (body : Body) (result : Option ValType) (n after : ℕ) (kept : Vec Instr Global) → IsNumbered (sequences_of body) → n + 1 ≡ length body.sequences.items →
    kept ≡ get_or body.sequences.items n kept → after ≡ vec_len kept →
    first_walked result (code_of (sequences_of body)) ≡ opened Body' result None (code_at (sequences_of body) n after) [] (code_at (sequences_of body) n 0) nothing
first-same body result n after kept numbered last read end =
    let s : Sequences = sequences_of body in
    let same : sequence_at s n ≡ kept.items = sequence_at-kept body n kept (omega arith) read in
    let long : after ≡ length (sequence_at s n) = end ∙ kept.ok.0 ∙ sym (ap (λ (xs : List Instr). length xs) same) in
    let ended : code_at s n after ≡ done = ap (code_at s n) long ∙ code_at-end s n in
    let count : length s.each ≡ length body.sequences.items = length-map body.sequences.items (λ (sequence : Vec Instr Global). sequence.items) in
    ap₂ (λ (a b : Code). opened Body' result None a [] b nothing) (sym ended) (code_of-first s numbered n (last ∙ sym count))

pub length_from_numbered : (body : Body) → IsNumbered (sequences_of body) → 1 ≤ length body.sequences.items
length_from_numbered body numbered = rw length-map at numbered.some
