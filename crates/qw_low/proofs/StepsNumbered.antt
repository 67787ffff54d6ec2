-- One pass over the steps of a statement numbers the sequences of its code in the order in which they are read.
use Rattle.std.proofs.Common.{◌≡◌, ℕ, List, [], ◌∷◌, ◌++◌, length, Some, None, refl, sym, ap, ◌∙◌, subst}
use Rattle.std.proofs.lemmas.List.{append_assoc, append-nil}
use Rattle.qw_linear.specs.Memory.{page}
use Rattle.qw_module.specs.declared.instruction.ValType.TheVariants.{I32}
use Rattle.qw_module.specs.declared.instruction.Binary.TheVariants.{Add, Sub, Mul}
use Rattle.qw_module.specs.declared.instruction.Relation.TheVariants.{Eq}
use Rattle.qw_module.specs.declared.instruction.Instr.{Instr}
use Rattle.qw_module.specs.declared.instruction.Instr.TheVariants as i
use Rattle.qw_module.specs.declared.instruction.Op.{Op}
use Rattle.qw_module.specs.declared.instruction.Op.TheVariants as o
use Rattle.qw_module.specs.declared.instruction.Const.TheVariants as const
use Rattle.qw_module.specs.Execution.{refusal}
use Rattle.qw_module.specs.Syntax.{Code, Sequences, done, op, loop, if_then, if_else, br_if, return, call, code_of}
use Rattle.qw_module.specs.Numbering.{IsInOrder, Numbering, and_then, at_other, at_start, held, inside, numbered, numbering}
use Rattle.qw_low.specs.declared.step.LowStep.{LowStep}
use Rattle.qw_low.specs.declared.step.LowStep.TheVariants as step
use Rattle.qw_low.specs.declared.body.Opened.{Opened}
use Rattle.qw_low.specs.declared.body.Opened.TheVariants as opened
use Rattle.qw_low.specs.Syntax.{Expression, constant_of, local, unop, binop, divop, is_zero, relop, cvtop, advance, retreat, Statement, skip, seq, assign, load, store, conditional, while, request, raise, exit}
use Rattle.qw_low.specs.Translation.{expression_code, unaligned, raising}
use Rattle.qw_low.specs.Steps.{expression_steps, request_steps, steps_of}
use Rattle.qw_low.specs.Inner.Tees.{plain_answer, plain_code, plain_octets}
use Rattle.qw_low.specs.Inner.Writing.{writing, all_written, appended, bodies_in, start, unlabelled}

-- From a numbering on, the steps write what the code is numbered by, whatever follows.
record IsNext (steps : List LowStep) (f : Code → Code) (n : Numbering) : Type 0 where
  pub next : Numbering
  pub numbers : (k : Code) → numbering (f k) n ≡ numbering k next
  pub writes : (rest : List LowStep) (waiting : List (List Instr × Opened)) → all_written appended (steps ++ rest) (writing n.ended n.now waiting) ≡ all_written appended rest (writing next.ended next.now waiting)
  pub labels : next.labels ≡ n.labels

abbrev Numbers : List LowStep → (Code → Code) → Type 0
Numbers steps f = (n : Numbering) → IsNext steps f n

numbers_then : (xs ys : List LowStep) (f g : Code → Code) → Numbers xs f → Numbers ys g → Numbers (xs ++ ys) (λ k. f (g k))
numbers_then xs ys f g one two n =
    let first = one n in
    let second = two first.next in
    record {
      next = second.next;
      numbers = λ k. first.numbers (g k) ∙ second.numbers k;
      writes = λ rest waiting. ap (λ (steps : List LowStep). all_written appended steps (writing n.ended n.now waiting)) (append_assoc xs ys rest) ∙ first.writes (ys ++ rest) waiting ∙ second.writes rest waiting;
      labels = second.labels ∙ first.labels;
    }

numbers_op : (operator : Op) → Numbers (step.Op operator ∷ []) (op operator)
numbers_op operator n = record { next = and_then n (i.Op operator); numbers = λ k. refl; writes = λ rest waiting. refl; labels = refl }

numbers_operator : (xs : List LowStep) (f : Code → Code) (operator : Op) → Numbers xs f → Numbers (xs ++ step.Op operator ∷ []) (λ k. f (op operator k))
numbers_operator xs f operator one = numbers_then xs (step.Op operator ∷ []) f (op operator) one (numbers_op operator)

numbers_binary : (xs ys : List LowStep) (f g : Code → Code) (operator : Op) → Numbers xs f → Numbers ys g → Numbers (xs ++ (ys ++ step.Op operator ∷ [])) (λ k. f (g (op operator k)))
numbers_binary xs ys f g operator one two = numbers_then xs (ys ++ step.Op operator ∷ []) f (λ k. g (op operator k)) one (numbers_operator ys g operator two)

numbers_first : (operator : Op) (ys : List LowStep) (g : Code → Code) → Numbers ys g → Numbers (step.Op operator ∷ ys) (λ k. op operator (g k))
numbers_first operator ys g two = numbers_then (step.Op operator ∷ []) ys (op operator) g (numbers_op operator) two

numbers_same : (xs ys : List LowStep) (f : Code → Code) → xs ≡ ys → Numbers xs f → Numbers ys f
numbers_same xs ys f same one = subst (λ (steps : List LowStep). Numbers steps f) same one

expression_numbers : (e : Expression) → Numbers (expression_steps e) (expression_code e)
expression_numbers (constant_of c) = numbers_op (o.Const c)
expression_numbers (local x) = numbers_op (o.LocalGet x)
expression_numbers (unop t u e) = numbers_operator (expression_steps e) (expression_code e) (o.Unary t u) (expression_numbers e)
expression_numbers (binop t b l r) = numbers_binary (expression_steps l) (expression_steps r) (expression_code l) (expression_code r) (o.Binary t b) (expression_numbers l) (expression_numbers r)
expression_numbers (divop t d l r) = numbers_binary (expression_steps l) (expression_steps r) (expression_code l) (expression_code r) (o.Division t d) (expression_numbers l) (expression_numbers r)
expression_numbers (is_zero t e) = numbers_operator (expression_steps e) (expression_code e) (o.Eqz t) (expression_numbers e)
expression_numbers (relop t r left right) = numbers_binary (expression_steps left) (expression_steps right) (expression_code left) (expression_code right) (o.Relation t r) (expression_numbers left) (expression_numbers right)
expression_numbers (cvtop c e) = numbers_operator (expression_steps e) (expression_code e) (o.Convert c) (expression_numbers e)
expression_numbers (advance a n) = numbers_binary (expression_steps a) (expression_steps n) (expression_code a) (expression_code n) (o.Binary I32 Add) (expression_numbers a) (expression_numbers n)
expression_numbers (retreat a n) = numbers_binary (expression_steps a) (expression_steps n) (expression_code a) (expression_code n) (o.Binary I32 Sub) (expression_numbers a) (expression_numbers n)

-- a choice, whose inner sequences end one after the other
choice_numbers : (xs ys : List LowStep) (f g : Code → Code) → Numbers xs f → Numbers ys g →
    Numbers (step.If ∷ (xs ++ (step.Else ∷ (ys ++ step.End ∷ [])))) (if_else None (f done) (g done))
choice_numbers xs ys f g one two n =
    let first = one (inside n) in
    let second = two (at_other first.next) in
    let holding : Numbering → Numbering → Numbering = λ (a b : Numbering). held n b (i.If None (length a.ended) (Some (length b.ended))) in
    record {
      next = holding first.next second.next;
      numbers = λ k.
          ap (λ (a : Numbering). numbering k (holding a (numbering (g done) (at_other a)))) (first.numbers done)
          ∙ ap (λ (b : Numbering). numbering k (holding first.next b)) (second.numbers done);
      writes = λ rest waiting.
          ap (λ (steps : List LowStep). all_written appended steps (writing n.ended [] ((n.now, opened.If) ∷ waiting))) (append_assoc xs (step.Else ∷ (ys ++ step.End ∷ [])) rest)
          ∙ first.writes (step.Else ∷ (ys ++ step.End ∷ []) ++ rest) ((n.now, opened.If) ∷ waiting)
          ∙ ap (λ (steps : List LowStep). all_written appended steps (writing (first.next.ended ++ first.next.now ∷ []) [] ((n.now, opened.Else (length first.next.ended)) ∷ waiting))) (append_assoc ys (step.End ∷ []) rest)
          ∙ second.writes (step.End ∷ [] ++ rest) ((n.now, opened.Else (length first.next.ended)) ∷ waiting);
      labels = second.labels ∙ first.labels;
    }

then_numbers : (xs : List LowStep) (f : Code → Code) → Numbers xs f → Numbers (step.If ∷ (xs ++ step.End ∷ [])) (if_then None (f done))
then_numbers xs f one n =
    let first = one (inside n) in
    let holding : Numbering → Numbering = λ (a : Numbering). held n a (i.If None (length a.ended) None) in
    record {
      next = holding first.next;
      numbers = λ k. ap (λ (a : Numbering). numbering k (holding a)) (first.numbers done);
      writes = λ rest waiting.
          ap (λ (steps : List LowStep). all_written appended steps (writing n.ended [] ((n.now, opened.If) ∷ waiting))) (append_assoc xs (step.End ∷ []) rest) ∙ first.writes (step.End ∷ [] ++ rest) ((n.now, opened.If) ∷ waiting);
      labels = first.labels;
    }

loop_numbers : (xs : List LowStep) (f : Code → Code) → Numbers xs f → Numbers (step.Loop ∷ (xs ++ step.End ∷ [])) (loop None (f done))
loop_numbers xs f one n =
    let first = one (inside n) in
    let holding : Numbering → Numbering = λ (a : Numbering). held n a (i.Loop None (length a.ended)) in
    record {
      next = holding first.next;
      numbers = λ k. ap (λ (a : Numbering). numbering k (holding a)) (first.numbers done);
      writes = λ rest waiting.
          ap (λ (steps : List LowStep). all_written appended steps (writing n.ended [] ((n.now, opened.Loop) ∷ waiting))) (append_assoc xs (step.End ∷ []) rest) ∙ first.writes (step.End ∷ [] ++ rest) ((n.now, opened.Loop) ∷ waiting);
      labels = first.labels;
    }

again_numbers : Numbers (step.Again ∷ []) (br_if 0)
again_numbers n = record { next = and_then n (i.BrIf 0); numbers = λ k. refl; writes = λ rest waiting. refl; labels = refl }

exit_numbers : Numbers (step.Exit ∷ []) return
exit_numbers n = record { next = and_then n i.Return; numbers = λ k. refl; writes = λ rest waiting. refl; labels = refl }

ask_numbers : Numbers (step.Ask ∷ []) (call 1)
ask_numbers n = record { next = and_then n (i.Call 1); numbers = λ k. refl; writes = λ rest waiting. refl; labels = refl }

raise_numbers : (code : ℕ) → Numbers (step.Raise code ∷ []) (raising code)
raise_numbers code n = record {
  next = and_then (and_then n (i.Op (o.Const (const.I32 code)))) (i.Call 0);
  numbers = λ k. refl;
  writes = λ rest waiting. refl;
  labels = refl;
}

request_numbers : (x : ℕ) → Numbers (request_steps x) (λ k. call 1 (plain_answer x k))
request_numbers x =
    let set : List LowStep = step.Op (o.LocalSet x) ∷ [] in
    let multiplied : List LowStep = step.Op (o.Binary I32 Mul) ∷ set in
    let by_page : List LowStep = step.Op (o.Const (const.I32 page)) ∷ multiplied in
    let octets : List LowStep = step.Op (o.LocalGet x) ∷ by_page in
    let chosen : List LowStep = step.If ∷ step.Raise 3 ∷ step.End ∷ octets in
    let compared : List LowStep = step.Op (o.Relation I32 Eq) ∷ chosen in
    let with_refusal : List LowStep = step.Op (o.Const (const.I32 refusal)) ∷ compared in
    numbers_then (step.Ask ∷ []) (step.Op (o.LocalTee x) ∷ with_refusal) (call 1) (plain_answer x) ask_numbers
    (numbers_first (o.LocalTee x) with_refusal (λ k. op (o.Const (const.I32 refusal)) (op (o.Relation I32 Eq) (if_then None (raising 3 done) (plain_octets x k))))
    (numbers_first (o.Const (const.I32 refusal)) compared (λ k. op (o.Relation I32 Eq) (if_then None (raising 3 done) (plain_octets x k)))
    (numbers_first (o.Relation I32 Eq) chosen (λ k. if_then None (raising 3 done) (plain_octets x k))
    (numbers_then (step.If ∷ step.Raise 3 ∷ step.End ∷ []) octets (if_then None (raising 3 done)) (plain_octets x)
    (then_numbers (step.Raise 3 ∷ []) (raising 3) (raise_numbers 3))
    (numbers_first (o.LocalGet x) by_page (λ k. op (o.Const (const.I32 page)) (op (o.Binary I32 Mul) (op (o.LocalSet x) k)))
    (numbers_first (o.Const (const.I32 page)) multiplied (λ k. op (o.Binary I32 Mul) (op (o.LocalSet x) k))
    (numbers_first (o.Binary I32 Mul) set (op (o.LocalSet x)) (numbers_op (o.LocalSet x)))))))))

while_numbers : (xs ys : List LowStep) (f g : Code → Code) → Numbers xs f → Numbers ys g →
    Numbers (xs ++ (step.If ∷ step.Loop ∷ (ys ++ (xs ++ step.Again ∷ step.End ∷ step.End ∷ [])))) (λ k. f (if_then None (loop None (g (f (br_if 0 done))) done) k))
while_numbers xs ys f g one two =
    let turn : List LowStep = ys ++ (xs ++ step.Again ∷ []) in
    let looped : List LowStep = step.Loop ∷ (turn ++ step.End ∷ []) in
    let same : xs ++ (step.If ∷ (looped ++ step.End ∷ [])) ≡ xs ++ (step.If ∷ step.Loop ∷ (ys ++ (xs ++ step.Again ∷ step.End ∷ step.End ∷ []))) = simp append_assoc refl in
    numbers_same _ _ _ same (numbers_then xs (step.If ∷ (looped ++ step.End ∷ [])) f (if_then None (loop None (g (f (br_if 0 done))) done)) one
    (then_numbers looped (loop None (g (f (br_if 0 done))))
    (loop_numbers turn (λ k. g (f (br_if 0 k)))
    (numbers_then ys (xs ++ step.Again ∷ []) g (λ k. f (br_if 0 k)) two (numbers_then xs (step.Again ∷ []) f (br_if 0) one again_numbers)))))

statement_numbers : (s : Statement) → Numbers (steps_of s) (plain_code s)
statement_numbers skip = λ n. record { next = n; numbers = λ k. refl; writes = λ rest waiting. refl; labels = refl }
statement_numbers (seq a b) = numbers_then (steps_of a) (steps_of b) (plain_code a) (plain_code b) (statement_numbers a) (statement_numbers b)
statement_numbers (assign x e) = numbers_operator (expression_steps e) (expression_code e) (o.LocalSet x) (expression_numbers e)
statement_numbers (load x l offset a) = numbers_then (expression_steps a) (step.Op (o.Load l (unaligned offset)) ∷ step.Op (o.LocalSet x) ∷ []) (expression_code a) (λ k. op (o.Load l (unaligned offset)) (op (o.LocalSet x) k))
    (expression_numbers a) (numbers_first (o.Load l (unaligned offset)) (step.Op (o.LocalSet x) ∷ []) (op (o.LocalSet x)) (numbers_op (o.LocalSet x)))
statement_numbers (store st offset a e) = numbers_binary (expression_steps a) (expression_steps e) (expression_code a) (expression_code e) (o.Store st (unaligned offset)) (expression_numbers a) (expression_numbers e)
statement_numbers (conditional e a b) = numbers_then (expression_steps e) (step.If ∷ (steps_of a ++ (step.Else ∷ (steps_of b ++ step.End ∷ [])))) (expression_code e) (if_else None (plain_code a done) (plain_code b done))
    (expression_numbers e) (choice_numbers (steps_of a) (steps_of b) (plain_code a) (plain_code b) (statement_numbers a) (statement_numbers b))
statement_numbers (while e a) = while_numbers (expression_steps e) (steps_of a) (expression_code e) (plain_code a) (expression_numbers e) (statement_numbers a)
statement_numbers (request e x) = numbers_then (expression_steps e) (request_steps x) (expression_code e) (λ k. call 1 (plain_answer x k)) (expression_numbers e) (request_numbers x)
statement_numbers (raise code) = raise_numbers code
statement_numbers exit = exit_numbers

-- ---- the whole pass
pub plain_in_order : (s : Statement) (code : List LowStep) → code ≡ steps_of s → code_of (unlabelled (bodies_in (all_written appended code start))) ≡ plain_code s done →
    IsInOrder (unlabelled (bodies_in (all_written appended code start)))
plain_in_order s code code_is coded =
    let run = statement_numbers s at_start in
    let all_are : bodies_in (all_written appended code start) ≡ run.next.ended ++ run.next.now ∷ [] =
    ap (λ (steps : List LowStep). bodies_in (all_written appended steps start)) (code_is ∙ sym (append-nil (steps_of s))) ∙ ap bodies_in (run.writes [] []) in
    let number : numbering (plain_code s done) at_start ≡ run.next = run.numbers done in
    let sequences_are : unlabelled (run.next.ended ++ run.next.now ∷ []) ≡ record { each = run.next.ended ++ run.next.now ∷ []; labels = run.next.labels } =
    ap (λ (labels : List ℕ). let s : Sequences = record { each = run.next.ended ++ run.next.now ∷ []; labels = labels } in s) (sym run.labels) in
    ap unlabelled all_are ∙ sequences_are
    ∙ ap (λ (n : Numbering). let s : Sequences = record { each = n.ended ++ n.now ∷ []; labels = n.labels } in s) (sym number)
    ∙ ap numbered (sym coded)
