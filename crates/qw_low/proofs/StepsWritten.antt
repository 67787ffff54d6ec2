-- One pass over the steps of a statement writes its code, with each set and each get by itself.
use Rattle.std.proofs.Common.{◌≡◌, ℕ, zero, suc, ◌+◌, ◌-◌, ◌<◌, ◌≤◌, List, [], ◌∷◌, ◌++◌, length, length-append, Some, None, refl, sym, ap, ◌∙◌, subst, ⊎_elim, arith}
use Rattle.std.specs.List.{AllByRecursion}
use Rattle.std.proofs.lemmas.Bool.{cases_lt}
use Rattle.std.proofs.lemmas.List.{append_assoc, append-nil}
use Rattle.qw_module.specs.declared.instruction.ValType.TheVariants.{I32}
use Rattle.qw_module.specs.declared.instruction.Binary.TheVariants.{Add, Sub, Mul}
use Rattle.qw_module.specs.declared.instruction.Relation.TheVariants.{Eq}
use Rattle.qw_module.specs.declared.instruction.Instr.{Instr}
use Rattle.qw_module.specs.declared.instruction.Instr.TheVariants as i
use Rattle.qw_module.specs.declared.instruction.Op.{Op}
use Rattle.qw_module.specs.declared.instruction.Op.TheVariants as o
use Rattle.qw_module.specs.declared.instruction.Const.TheVariants as const
use Rattle.qw_module.specs.Syntax.{Code, done, op, loop, if_then, if_else, br_if, return, call, nested, named, named_below, sequence_at, NamesBelow, code_of, IsNumbered}
use Rattle.qw_module.specs.Execution.{refusal}
use Rattle.qw_module.proofs.Numbered.{named_below-any}
use Rattle.qw_map.proofs.AreaLemmas.{all-append, all-weaker}
use Rattle.qw_linear.specs.Memory.{page}
use Rattle.qw_low.specs.declared.step.LowStep.{LowStep}
use Rattle.qw_low.specs.declared.step.LowStep.TheVariants as step
use Rattle.qw_low.specs.declared.body.Opened.{Opened}
use Rattle.qw_low.specs.declared.body.Opened.TheVariants as opened
use Rattle.qw_low.specs.Syntax.{Expression, constant_of, local, unop, binop, divop, is_zero, relop, cvtop, advance, retreat, Statement, skip, seq, assign, load, store, conditional, while, request, raise, exit}
use Rattle.qw_low.specs.Translation.{expression_code, unaligned, raising}
use Rattle.qw_low.specs.Steps.{expression_steps, request_steps, steps_of}
use Rattle.qw_low.specs.Inner.Tees.{plain_answer, plain_code, plain_octets}
use Rattle.qw_low.specs.Inner.Writing.{writing, all_written, appended, bodies_in, start, unlabelled, AreLower, Emits}

-- ---- what numbers name, in sequences to which more are added
nested_pointwise : (f g : ℕ → Code) (sequence : List Instr) → ((k : ℕ) → f k ≡ g k) → nested [] f sequence ≡ nested [] g sequence
nested_pointwise f g sequence same = λ i. nested [] (λ k. same k i) sequence

sequence-front : (front more : List (List Instr)) (n : ℕ) → n < length front → sequence_at (unlabelled (front ++ more)) n ≡ sequence_at (unlabelled front) n
sequence-front [] more n below = absurd (omega arith)
sequence-front (x ∷ front) more zero below = refl
sequence-front (x ∷ front) more (suc n) below = sequence-front front more n (omega arith)

sequence-last : (bodies : List (List Instr)) (current : List Instr) → sequence_at (unlabelled (bodies ++ current ∷ [])) (length bodies) ≡ current
sequence-last [] current = refl
sequence-last (x ∷ bodies) current = sequence-last bodies current

named_below-front : (front more : List (List Instr)) (m : ℕ) → m ≤ length front → (n : ℕ) → named_below (unlabelled (front ++ more)) m n ≡ named_below (unlabelled front) m n
unfolding named_below
named_below-front front more zero below n = refl
named_below-front front more (suc m) below n =
    rw (sequence-front front more m (omega arith), nested_pointwise (named_below (unlabelled (front ++ more)) m) (named_below (unlabelled front) m) (sequence_at (unlabelled front) m) (named_below-front front more m (omega arith)), named_below-front front more m (omega arith) n) refl

named-front : (front more : List (List Instr)) (n : ℕ) → n < length front → named (unlabelled (front ++ more)) n ≡ named (unlabelled front) n
named-front front more n below =
    named_below-any (unlabelled (front ++ more)) n (length (front ++ more)) (omega (arith, length-append front more))
    ∙ ap (nested [] (named_below (unlabelled (front ++ more)) n)) (sequence-front front more n below)
    ∙ nested_pointwise (named_below (unlabelled (front ++ more)) n) (named_below (unlabelled front) n) (sequence_at (unlabelled front) n) (named_below-front front more n (omega arith))
    ∙ sym (named_below-any (unlabelled front) n (length front) below)

NamesBelow-more : (m n : ℕ) → m ≤ n → (x : Instr) → NamesBelow 0 m x → NamesBelow 0 n x
NamesBelow-more m n le (i.Op operator) h = h
NamesBelow-more m n le i.Unreachable h = h
NamesBelow-more m n le (i.Block result body) h = omega arith
NamesBelow-more m n le (i.Loop result body) h = omega arith
NamesBelow-more m n le (i.If result a None) h = omega arith
NamesBelow-more m n le (i.If result a (Some b)) h = (omega (arith, h.0), omega (arith, h.1))
NamesBelow-more m n le (i.Br label) h = h
NamesBelow-more m n le (i.BrIf label) h = h
NamesBelow-more m n le (i.BrTable first count default) h = h
NamesBelow-more m n le i.Return h = h
NamesBelow-more m n le (i.Call index) h = h

-- ---- what instructions stand for
emits-none : (bodies : List (List Instr)) (current : List Instr) → Emits bodies bodies current current (λ k. k)
emits-none bodies current = record { more = []; after_is = sym (append-nil bodies); added = []; is = sym (append-nil current); nests = λ names same rest. refl; names = tt; lower = λ h. h }

-- one instruction without inner sequences
emits-one : (bodies : List (List Instr)) (current : List Instr) (x : Instr) (code : Code → Code) → ((names : ℕ → Code) (rest : List Instr) → nested [] names (x ∷ rest) ≡ code (nested [] names rest)) →
    ((n : ℕ) → NamesBelow 0 n x) → Emits bodies bodies current (current ++ x ∷ []) code
emits-one bodies current x code nests names = record { more = []; after_is = sym (append-nil bodies); added = x ∷ []; is = refl; nests = λ named same rest. nests named rest; names = (names (length bodies), tt); lower = λ h. h }

-- one after another
emits-then : (b0 b1 b2 : List (List Instr)) (c0 c1 c2 : List Instr) (f g : Code → Code) → Emits b0 b1 c0 c1 f → Emits b1 b2 c1 c2 g → Emits b0 b2 c0 c2 (λ k. f (g k))
emits-then b0 b1 b2 c0 c1 c2 f g one two =
    let wider : length b1 ≤ length b2 = rw (two.after_is) (omega (arith, length-append b1 two.more)) in
    record {
      more = one.more ++ two.more;
      after_is = two.after_is ∙ ap (λ (b : List (List Instr)). b ++ two.more) one.after_is ∙ append_assoc b0 one.more two.more;
      added = one.added ++ two.added;
      is = two.is ∙ ap (λ (c : List Instr). c ++ two.added) one.is ∙ append_assoc c0 one.added two.added;
      nests = λ names same rest.
          ap (nested [] names) (append_assoc one.added two.added rest)
          ∙ one.nests names (λ n below. same n (omega arith) ∙ ap (λ (b : List (List Instr)). named (unlabelled b) n) two.after_is ∙ named-front b1 two.more n below) (two.added ++ rest)
          ∙ ap f (two.nests names same rest);
      names = all-append (NamesBelow 0 (length b2)) one.added two.added (all-weaker (NamesBelow 0 (length b1)) (NamesBelow 0 (length b2)) (NamesBelow-more (length b1) (length b2) wider) one.added one.names) two.names;
      lower = λ h. two.lower (one.lower h);
    }

-- a sequence that is finished gets the next number, which names its code
finished-names : (b0 b1 : List (List Instr)) (current : List Instr) (f : Code → Code) → Emits b0 b1 [] current f → named (unlabelled (b1 ++ current ∷ [])) (length b1) ≡ f done
finished-names b0 b1 current f one =
    let all : List (List Instr) = b1 ++ current ∷ [] in
    named_below-any (unlabelled all) (length b1) (length all) (omega (arith, length-append b1 (current ∷ [])))
    ∙ ap (nested [] (named_below (unlabelled all) (length b1))) (sequence-last b1 current)
    ∙ ap (nested [] (named_below (unlabelled all) (length b1))) (one.is ∙ sym (append-nil one.added))
    ∙ one.nests (named_below (unlabelled all) (length b1))
    (λ n below. named_below-front b1 (current ∷ []) (length b1) (omega arith) n) []

finished-lower : (b0 b1 : List (List Instr)) (current : List Instr) (f : Code → Code) → Emits b0 b1 [] current f → AreLower b0 → AreLower (b1 ++ current ∷ [])
finished-lower b0 b1 current f one lower n below = ⊎_elim
    (λ front. subst (λ (s : List Instr). AllByRecursion (NamesBelow 0 n) s) (sym (sequence-front b1 (current ∷ []) n front)) (one.lower lower n front))
    (λ last. let same : n ≡ length b1 = omega (arith, length-append b1 (current ∷ [])) in
    rw same (subst (λ (s : List Instr). AllByRecursion (NamesBelow 0 (length b1)) s) (sym (sequence-last b1 current)) (subst (λ (s : List Instr). AllByRecursion (NamesBelow 0 (length b1)) s) (sym one.is) one.names)))
    (cases_lt n (length b1))

-- an instruction with one inner sequence, which is finished before it
emits-inner : (b0 b1 : List (List Instr)) (current a : List Instr) (f : Code → Code) (make : ℕ → Instr) (around : Code → Code → Code) →
    ((names : ℕ → Code) (n : ℕ) (rest : List Instr) → nested [] names (make n ∷ rest) ≡ around (names n) (nested [] names rest)) → ((n m : ℕ) → n < m → NamesBelow 0 m (make n)) →
    Emits b0 b1 [] a f → Emits b0 (b1 ++ a ∷ []) current (current ++ make (length b1) ∷ []) (around (f done))
emits-inner b0 b1 current a f make around nests below one =
    let all : List (List Instr) = b1 ++ a ∷ [] in
    let long : length all ≡ length b1 + 1 = length-append b1 (a ∷ []) in
    record {
      more = one.more ++ a ∷ [];
      after_is = ap (λ (x : List (List Instr)). x ++ a ∷ []) one.after_is ∙ append_assoc b0 one.more (a ∷ []);
      added = make (length b1) ∷ [];
      is = refl;
      nests = λ names same rest. nests names (length b1) rest ∙ ap (λ (inner : Code). around inner (nested [] names rest)) (same (length b1) (omega arith) ∙ finished-names b0 b1 a f one);
      names = (below (length b1) (length all) (omega arith), tt);
      lower = λ h. finished-lower b0 b1 a f one h;
    }

-- a choice, whose inner sequences are finished one after the other
emits-choice : (b0 b1 b2 : List (List Instr)) (current a b : List Instr) (f g : Code → Code) → Emits b0 b1 [] a f → Emits (b1 ++ a ∷ []) b2 [] b g →
    Emits b0 (b2 ++ b ∷ []) current (current ++ i.If None (length b1) (Some (length b2)) ∷ []) (if_else None (f done) (g done))
emits-choice b0 b1 b2 current a b f g one two =
    let first : List (List Instr) = b1 ++ a ∷ [] in
    let all : List (List Instr) = b2 ++ b ∷ [] in
    let long : length all ≡ length b2 + 1 = length-append b2 (b ∷ []) in
    let middle : length b1 + 1 ≤ length b2 = rw (two.after_is) (omega (arith, length-append first two.more, length-append b1 (a ∷ []))) in
    let f_is : named (unlabelled all) (length b1) ≡ f done =
    named-front b2 (b ∷ []) (length b1) (omega arith) ∙ ap (λ (x : List (List Instr)). named (unlabelled x) (length b1)) two.after_is
    ∙ named-front first two.more (length b1) (omega (arith, length-append b1 (a ∷ []))) ∙ finished-names b0 b1 a f one in
    let g_is : named (unlabelled all) (length b2) ≡ g done = finished-names first b2 b g two in
    record {
      more = one.more ++ (a ∷ (two.more ++ b ∷ []));
      after_is = ap (λ (x : List (List Instr)). x ++ b ∷ []) (two.after_is ∙ ap (λ (x : List (List Instr)). (x ++ a ∷ []) ++ two.more) one.after_is) ∙ simp append_assoc refl;
      added = i.If None (length b1) (Some (length b2)) ∷ [];
      is = refl;
      nests = λ names same rest. rw (same (length b1) (omega arith), same (length b2) (omega arith), f_is, g_is) refl;
      names = ((omega arith, omega arith), tt);
      lower = λ h. finished-lower first b2 b g two (finished-lower b0 b1 a f one h);
    }

-- ---- what steps write
-- the steps, before more
abbrev Writes : List LowStep → (Code → Code) → Type 0
Writes steps code = (rest : List LowStep) (finished : List (List Instr)) (current : List Instr) (waiting : List (List Instr × Opened)) →
    (after : List (List Instr)) × (new : List Instr) × (all_written appended (steps ++ rest) (writing finished current waiting) ≡ all_written appended rest (writing after new waiting)) × Emits finished after current new code

writes-then : (xs ys : List LowStep) (f g : Code → Code) → Writes xs f → Writes ys g → Writes (xs ++ ys) (λ k. f (g k))
writes-then xs ys f g one two rest finished current waiting =
    let first = one (ys ++ rest) finished current waiting in
    let second = two rest first.0 first.1 waiting in (
      second.0,
      second.1,
      ap (λ (steps : List LowStep). all_written appended steps (writing finished current waiting)) (append_assoc xs ys rest) ∙ first.2 ∙ second.2,
      emits-then finished first.0 second.0 current first.1 second.1 f g first.3 second.3,
    )

writes-op : (operator : Op) → Writes (step.Op operator ∷ []) (op operator)
writes-op operator rest finished current waiting =
    (finished, current ++ i.Op operator ∷ [], refl, emits-one finished current (i.Op operator) (op operator) (λ names more. refl) (λ n. tt))

-- an operator after what puts its operands
writes-operator : (xs : List LowStep) (f : Code → Code) (operator : Op) → Writes xs f → Writes (xs ++ step.Op operator ∷ []) (λ k. f (op operator k))
writes-operator xs f operator one = writes-then xs (step.Op operator ∷ []) f (op operator) one (writes-op operator)

writes-binary : (xs ys : List LowStep) (f g : Code → Code) (operator : Op) → Writes xs f → Writes ys g → Writes (xs ++ (ys ++ step.Op operator ∷ [])) (λ k. f (g (op operator k)))
writes-binary xs ys f g operator one two = writes-then xs (ys ++ step.Op operator ∷ []) f (λ k. g (op operator k)) one (writes-operator ys g operator two)

expression_writes : (e : Expression) → Writes (expression_steps e) (expression_code e)
expression_writes (constant_of c) = writes-op (o.Const c)
expression_writes (local x) = writes-op (o.LocalGet x)
expression_writes (unop t u e) = writes-operator (expression_steps e) (expression_code e) (o.Unary t u) (expression_writes e)
expression_writes (binop t b l r) = writes-binary (expression_steps l) (expression_steps r) (expression_code l) (expression_code r) (o.Binary t b) (expression_writes l) (expression_writes r)
expression_writes (divop t d l r) = writes-binary (expression_steps l) (expression_steps r) (expression_code l) (expression_code r) (o.Division t d) (expression_writes l) (expression_writes r)
expression_writes (is_zero t e) = writes-operator (expression_steps e) (expression_code e) (o.Eqz t) (expression_writes e)
expression_writes (relop t r left right) = writes-binary (expression_steps left) (expression_steps right) (expression_code left) (expression_code right) (o.Relation t r) (expression_writes left) (expression_writes right)
expression_writes (cvtop c e) = writes-operator (expression_steps e) (expression_code e) (o.Convert c) (expression_writes e)
expression_writes (advance a n) = writes-binary (expression_steps a) (expression_steps n) (expression_code a) (expression_code n) (o.Binary I32 Add) (expression_writes a) (expression_writes n)
expression_writes (retreat a n) = writes-binary (expression_steps a) (expression_steps n) (expression_code a) (expression_code n) (o.Binary I32 Sub) (expression_writes a) (expression_writes n)

choice_writes : (xs ys : List LowStep) (f g : Code → Code) → Writes xs f → Writes ys g →
    Writes (step.If ∷ (xs ++ (step.Else ∷ (ys ++ step.End ∷ [])))) (if_else None (f done) (g done))
choice_writes xs ys f g one two rest finished current waiting =
    let first = one (step.Else ∷ (ys ++ step.End ∷ []) ++ rest) finished [] ((current, opened.If) ∷ waiting) in
    let middle : List (List Instr) = first.0 ++ first.1 ∷ [] in
    let second = two (step.End ∷ [] ++ rest) middle [] ((current, opened.Else (length first.0)) ∷ waiting) in (
      second.0 ++ second.1 ∷ [],
      current ++ i.If None (length first.0) (Some (length second.0)) ∷ [],
      ap (λ (steps : List LowStep). all_written appended steps (writing finished [] ((current, opened.If) ∷ waiting))) (append_assoc xs (step.Else ∷ (ys ++ step.End ∷ [])) rest)
          ∙ first.2 ∙ ap (λ (steps : List LowStep). all_written appended steps (writing middle [] ((current, opened.Else (length first.0)) ∷ waiting))) (append_assoc ys (step.End ∷ []) rest)
          ∙ second.2,
      emits-choice finished first.0 second.0 current first.1 second.1 f g first.3 second.3,
    )

-- what is done unless the operand is 0, and a loop
then_writes : (xs : List LowStep) (f : Code → Code) → Writes xs f → Writes (step.If ∷ (xs ++ step.End ∷ [])) (if_then None (f done))
then_writes xs f one rest finished current waiting =
    let first = one (step.End ∷ [] ++ rest) finished [] ((current, opened.If) ∷ waiting) in (
      first.0 ++ first.1 ∷ [],
      current ++ i.If None (length first.0) None ∷ [],
      ap (λ (steps : List LowStep). all_written appended steps (writing finished [] ((current, opened.If) ∷ waiting))) (append_assoc xs (step.End ∷ []) rest) ∙ first.2,
      emits-inner finished first.0 current first.1 f (λ n. i.If None n None) (if_then None) (λ names n more. refl) (λ n m h. h) first.3,
    )

loop_writes : (xs : List LowStep) (f : Code → Code) → Writes xs f → Writes (step.Loop ∷ (xs ++ step.End ∷ [])) (loop None (f done))
loop_writes xs f one rest finished current waiting =
    let first = one (step.End ∷ [] ++ rest) finished [] ((current, opened.Loop) ∷ waiting) in (
      first.0 ++ first.1 ∷ [],
      current ++ i.Loop None (length first.0) ∷ [],
      ap (λ (steps : List LowStep). all_written appended steps (writing finished [] ((current, opened.Loop) ∷ waiting))) (append_assoc xs (step.End ∷ []) rest) ∙ first.2,
      emits-inner finished first.0 current first.1 f (λ n. i.Loop None n) (loop None) (λ names n more. refl) (λ n m h. h) first.3,
    )

again_writes : Writes (step.Again ∷ []) (br_if 0)
again_writes rest finished current waiting = (finished, current ++ i.BrIf 0 ∷ [], refl, emits-one finished current (i.BrIf 0) (br_if 0) (λ names more. refl) (λ n. tt))

exit_writes : Writes (step.Exit ∷ []) return
exit_writes rest finished current waiting = (finished, current ++ i.Return ∷ [], refl, emits-one finished current i.Return return (λ names more. refl) (λ n. tt))

ask_writes : Writes (step.Ask ∷ []) (call 1)
ask_writes rest finished current waiting = (finished, current ++ i.Call 1 ∷ [], refl, emits-one finished current (i.Call 1) (call 1) (λ names more. refl) (λ n. tt))

raise_writes : (code : ℕ) → Writes (step.Raise code ∷ []) (raising code)
raise_writes code rest finished current waiting = (
  finished,
  (current ++ i.Op (o.Const (const.I32 code)) ∷ []) ++ i.Call 0 ∷ [],
  refl,
  emits-then finished finished finished current (current ++ i.Op (o.Const (const.I32 code)) ∷ []) _ (op (o.Const (const.I32 code))) (call 0)
      (emits-one finished current (i.Op (o.Const (const.I32 code))) (op (o.Const (const.I32 code))) (λ names more. refl) (λ n. tt))
      (emits-one finished (current ++ i.Op (o.Const (const.I32 code)) ∷ []) (i.Call 0) (call 0) (λ names more. refl) (λ n. tt)),
)

-- steps that differ only in their brackets
writes-same : (xs ys : List LowStep) (f : Code → Code) → xs ≡ ys → Writes xs f → Writes ys f
writes-same xs ys f same one = subst (λ (steps : List LowStep). Writes steps f) same one

-- one operator before others
writes-first : (operator : Op) (ys : List LowStep) (g : Code → Code) → Writes ys g → Writes (step.Op operator ∷ ys) (λ k. op operator (g k))
writes-first operator ys g two = writes-then (step.Op operator ∷ []) ys (op operator) g (writes-op operator) two

request_writes : (x : ℕ) → Writes (request_steps x) (λ k. call 1 (plain_answer x k))
request_writes x =
    let set : List LowStep = step.Op (o.LocalSet x) ∷ [] in
    let multiplied : List LowStep = step.Op (o.Binary I32 Mul) ∷ set in
    let by_page : List LowStep = step.Op (o.Const (const.I32 page)) ∷ multiplied in
    let octets : List LowStep = step.Op (o.LocalGet x) ∷ by_page in
    let chosen : List LowStep = step.If ∷ step.Raise 3 ∷ step.End ∷ octets in
    let compared : List LowStep = step.Op (o.Relation I32 Eq) ∷ chosen in
    let with_refusal : List LowStep = step.Op (o.Const (const.I32 refusal)) ∷ compared in
    writes-then (step.Ask ∷ []) (step.Op (o.LocalTee x) ∷ with_refusal) (call 1) (plain_answer x) ask_writes
    (writes-first (o.LocalTee x) with_refusal (λ k. op (o.Const (const.I32 refusal)) (op (o.Relation I32 Eq) (if_then None (raising 3 done) (plain_octets x k))))
    (writes-first (o.Const (const.I32 refusal)) compared (λ k. op (o.Relation I32 Eq) (if_then None (raising 3 done) (plain_octets x k)))
    (writes-first (o.Relation I32 Eq) chosen (λ k. if_then None (raising 3 done) (plain_octets x k))
    (writes-then (step.If ∷ step.Raise 3 ∷ step.End ∷ []) octets (if_then None (raising 3 done)) (plain_octets x)
    (then_writes (step.Raise 3 ∷ []) (raising 3) (raise_writes 3))
    (writes-first (o.LocalGet x) by_page (λ k. op (o.Const (const.I32 page)) (op (o.Binary I32 Mul) (op (o.LocalSet x) k)))
    (writes-first (o.Const (const.I32 page)) multiplied (λ k. op (o.Binary I32 Mul) (op (o.LocalSet x) k))
    (writes-first (o.Binary I32 Mul) set (op (o.LocalSet x)) (writes-op (o.LocalSet x)))))))))

while_writes : (xs ys : List LowStep) (f g : Code → Code) → Writes xs f → Writes ys g →
    Writes (xs ++ (step.If ∷ step.Loop ∷ (ys ++ (xs ++ step.Again ∷ step.End ∷ step.End ∷ [])))) (λ k. f (if_then None (loop None (g (f (br_if 0 done))) done) k))
while_writes xs ys f g one two =
    let turn : List LowStep = ys ++ (xs ++ step.Again ∷ []) in
    let looped : List LowStep = step.Loop ∷ (turn ++ step.End ∷ []) in
    let same : xs ++ (step.If ∷ (looped ++ step.End ∷ [])) ≡ xs ++ (step.If ∷ step.Loop ∷ (ys ++ (xs ++ step.Again ∷ step.End ∷ step.End ∷ []))) = simp append_assoc refl in
    writes-same _ _ _ same (writes-then xs (step.If ∷ (looped ++ step.End ∷ [])) f (if_then None (loop None (g (f (br_if 0 done))) done)) one
    (then_writes looped (loop None (g (f (br_if 0 done))))
    (loop_writes turn (λ k. g (f (br_if 0 k)))
    (writes-then ys (xs ++ step.Again ∷ []) g (λ k. f (br_if 0 k)) two (writes-then xs (step.Again ∷ []) f (br_if 0) one again_writes)))))

pub statement_writes : (s : Statement) → Writes (steps_of s) (plain_code s)
statement_writes skip = λ rest finished current waiting. (finished, current, refl, emits-none finished current)
statement_writes (seq a b) = writes-then (steps_of a) (steps_of b) (plain_code a) (plain_code b) (statement_writes a) (statement_writes b)
statement_writes (assign x e) = writes-operator (expression_steps e) (expression_code e) (o.LocalSet x) (expression_writes e)
statement_writes (load x l offset a) = writes-then (expression_steps a) (step.Op (o.Load l (unaligned offset)) ∷ step.Op (o.LocalSet x) ∷ []) (expression_code a) (λ k. op (o.Load l (unaligned offset)) (op (o.LocalSet x) k))
    (expression_writes a) (writes-first (o.Load l (unaligned offset)) (step.Op (o.LocalSet x) ∷ []) (op (o.LocalSet x)) (writes-op (o.LocalSet x)))
statement_writes (store st offset a e) = writes-binary (expression_steps a) (expression_steps e) (expression_code a) (expression_code e) (o.Store st (unaligned offset)) (expression_writes a) (expression_writes e)
statement_writes (conditional e a b) = writes-then (expression_steps e) (step.If ∷ (steps_of a ++ (step.Else ∷ (steps_of b ++ step.End ∷ [])))) (expression_code e) (if_else None (plain_code a done) (plain_code b done))
    (expression_writes e) (choice_writes (steps_of a) (steps_of b) (plain_code a) (plain_code b) (statement_writes a) (statement_writes b))
statement_writes (while e a) = while_writes (expression_steps e) (steps_of a) (expression_code e) (plain_code a) (expression_writes e) (statement_writes a)
statement_writes (request e x) = writes-then (expression_steps e) (request_steps x) (expression_code e) (λ k. call 1 (plain_answer x k)) (expression_writes e) (request_writes x)
statement_writes (raise code) = raise_writes code
statement_writes exit = exit_writes

-- ---- the whole pass
module _ (s : Statement) (code : List LowStep) (code_is : code ≡ steps_of s) where
  run : (after : List (List Instr)) × (new : List Instr) × (all_written appended (steps_of s ++ []) start ≡ all_written appended [] (writing after new [])) × Emits [] after [] new (plain_code s)
  run = statement_writes s [] [] [] []

  all_are : bodies_in (all_written appended code start) ≡ run.0 ++ run.1 ∷ []
  all_are = ap (λ (steps : List LowStep). bodies_in (all_written appended steps start)) (code_is ∙ sym (append-nil (steps_of s))) ∙ ap bodies_in run.2

  pub plain_written : code_of (unlabelled (bodies_in (all_written appended code start))) ≡ plain_code s done
  plain_written =
      let last : length (run.0 ++ run.1 ∷ []) - 1 ≡ length run.0 = omega (arith, length-append run.0 (run.1 ∷ [])) in
      ap (λ (b : List (List Instr)). code_of (unlabelled b)) all_are ∙ ap (named (unlabelled (run.0 ++ run.1 ∷ []))) last ∙ finished-names [] run.0 run.1 (plain_code s) run.3

  pub plain_numbered : IsNumbered (unlabelled (bodies_in (all_written appended code start)))
  plain_numbered = subst (λ (b : List (List Instr)). IsNumbered (unlabelled b)) (sym all_are) (record {
    some = omega (arith, length-append run.0 (run.1 ∷ []));
    lower = finished-lower [] run.0 run.1 (plain_code s) run.3 (λ n below. absurd (omega arith));
  })
