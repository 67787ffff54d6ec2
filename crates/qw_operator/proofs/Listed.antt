-- The blocks of one more conjunct, and of one more item.
use Rattle.std.proofs.Common.{◌≡◌, ℕ, ◌+◌, ◌≤◌, List, [], ◌∷◌, ◌++◌, length, refl, sym, ap, ap₂, ◌∙◌, subst, append_assoc, append-nil, arith}
use Rattle.std.proofs.Common.{length-append, map, take, get_or, ◌<◌}
use Rattle.std.proofs.lemmas.List.{map_more}
use Rattle.qw_module.specs.declared.instruction.ValType.{ValType}
use Rattle.qw_scalar.specs.declared.expression.Expr.{Expr}
use Rattle.qw_scalar.specs.declared.expression.Cond.{Cond}
use Rattle.qw_scalar.specs.Tree.{condition_of, expression_of}
use Rattle.qw_scalar.specs.Expression.{Condition, Expression}
use Rattle.qw_low.specs.declared.step.LowStep.{LowStep}
use Rattle.qw_low.specs.Steps.{steps_of}
use Rattle.qw_low.specs.Syntax.{Statement, seq}
use Rattle.qw_expr.specs.declared.emitter.Emitter.{Emitter}
use Rattle.qw_expr.specs.declared.operand.Operand.{Operand}
use Rattle.qw_expr.specs.Bindings.{IsServed}
use Rattle.qw_expr.specs.declared.test.Test as exprs
use Rattle.qw_expr.specs.Computes.{Known, Computes}
use Rattle.qw_expr.specs.Emits.{Emits, free_of}
use Rattle.qw_expr.specs.Tests.{DecidesTest, EmitsTest, tested}
use Rattle.qw_read.specs.declared.reader.Reader.{Reader}
use Rattle.qw_expr.proofs.Nulls.{known_below_more}
use Rattle.qw_feed.specs.Cells.{Source}
use Rattle.qw_feed.specs.Stages.{Test, Item, items_block, outs_of}
use Rattle.qw_operator.specs.Nesting.{opening, openings}
use Rattle.qw_operator.specs.Emitted.{source_of, sources_of, known_after, last_end, ReadsPart, IsDecided, AreDecided, AreComputed, EmitsConjunct, EmitsTests, EmitsItems}

pub served_later : (m n : ℕ) (known : List Known) → m ≤ n → IsServed m known → IsServed n known
served_later m n known le served = (known_below_more m n known le served.0, served.1)

pub one_further : {X Y : Type 0} (f : X → Y) (xs : List X) (i : ℕ) (x : X) → i < length xs → x ≡ get_or xs i x → map f (take (i + 1) xs) ≡ map f (take i xs) ++ f x ∷ []
one_further f xs i x less same = map_more f xs i x less ∙ ap (λ (y : _). map f (take i xs) ++ f y ∷ []) (sym same)

-- ---- conjuncts
openings_more : (gs : List Test) (g : Test) → openings (gs ++ g ∷ []) ≡ openings gs ++ (steps_of g.block ++ opening g.out)
openings_more [] g = ap (λ (steps : List LowStep). steps_of g.block ++ steps) (append-nil (opening g.out))
openings_more (f ∷ gs) g =
    let more : List LowStep = steps_of g.block ++ opening g.out in
    ap (λ (steps : List LowStep). steps_of f.block ++ (opening f.out ++ steps)) (openings_more gs g)
    ∙ (ap (λ (steps : List LowStep). steps_of f.block ++ steps) (sym (append_assoc (opening f.out) (openings gs) more))
    ∙ sym (append_assoc (steps_of f.block) (opening f.out ++ openings gs) more))

last_more : (done : ℕ) (ends : List ℕ) (e : ℕ) → last_end done (ends ++ e ∷ []) ≡ e
last_more done [] e = refl
last_more done (d ∷ ends) e = last_more d ends e

module _ (literals : List Known) (readers : List Reader) where
  decided_more : (next done : ℕ) (ends : List ℕ) (cs : List Condition) (gs : List Test) (own : List ValType) (c : Condition) (g : Test) (e : ℕ) (more : List ValType) → AreDecided literals readers next done ends cs gs own →
      IsDecided literals readers (next + length own) (last_end done ends) e c g more → AreDecided literals readers next done (ends ++ e ∷ []) (cs ++ c ∷ []) (gs ++ g ∷ []) (own ++ more)
  decided_more next done [] [] [] own c g e more are decides =
      let none : length own ≡ 0 = ap (λ (o : List ValType). length o) are in
      let here : next + length own ≡ next = omega (arith, none) in
      (more, [], ap (λ (o : List ValType). o ++ more) are ∙ sym (append-nil more), subst (λ (k : ℕ). IsDecided literals readers k done e c g more) here decides, refl)
  decided_more next done (d ∷ ends) (b ∷ cs) (f ∷ gs) own c g e more are decides =
      let many : length own ≡ length are.0 + length are.1 = ap (λ (o : List ValType). length o) are.2 ∙ length-append are.0 are.1 in
      let there : next + length own ≡ next + length are.0 + length are.1 = omega (arith, many) in (
        are.0,
        are.1 ++ more,
        ap (λ (o : List ValType). o ++ more) are.2 ∙ append_assoc are.0 are.1 more,
        are.3,
        decided_more (next + length are.0) d ends cs gs are.1 c g e more are.4 (subst (λ (k : ℕ). IsDecided literals readers k (last_end d ends) e c g more) there decides),
      )
  decided_more next done ends cs gs own c g e more are decides = absurd are

  pub tests_none : (now : Emitter) → EmitsTests literals readers [] now now 0
  tests_none now = record { first_is = refl; tests = []; ends = []; own = []; code_is = sym (append-nil now.block.code.items); own_is = sym (append-nil now.own.items); decided = refl; done_is = refl }

pub free_later : (old new : Emitter) (own : List ValType) → new.first ≡ old.first → new.own.items ≡ old.own.items ++ own → free_of new ≡ free_of old + length own
free_later old new own first_is own_is =
    let many : length new.own.items ≡ length old.own.items + length own = ap (λ (o : List ValType). length o) own_is ∙ length-append old.own.items own in
    omega (arith, first_is, many)

module _ (literals : List Known) (readers : List Reader) where
  pub tests_free : (cs : List Condition) (old new : Emitter) (done : ℕ) (h : EmitsTests literals readers cs old new done) → free_of new ≡ free_of old + length h.own
  tests_free cs old new done h = free_later old new h.own h.first_is h.own_is

  pub tests_more : (cs : List Condition) (c : Condition) (old mid new : Emitter) (done upto : ℕ) → EmitsTests literals readers cs old mid done → EmitsConjunct literals readers done upto c mid new → EmitsTests literals readers (cs ++ c ∷ []) old new upto
  tests_more cs c old mid new done upto before one = record {
    first_is = one.first_is ∙ before.first_is;
    tests = before.tests ++ one.test ∷ [];
    ends = before.ends ++ upto ∷ [];
    own = before.own ++ one.own;
    code_is =
        one.code_is ∙ (ap (λ (s : List LowStep). s ++ (steps_of one.test.block ++ opening one.test.out)) before.code_is
        ∙ (append_assoc old.block.code.items (openings before.tests) (steps_of one.test.block ++ opening one.test.out)
        ∙ ap (λ (s : List LowStep). old.block.code.items ++ s) (sym (openings_more before.tests one.test))));
    own_is = one.own_is ∙ (ap (λ (o : List ValType). o ++ one.own) before.own_is ∙ append_assoc old.own.items before.own one.own);
    decided = decided_more literals readers (free_of old) 0 before.ends cs before.tests before.own c one.test upto one.own before.decided
        (subst (λ (k : ℕ). IsDecided literals readers k (last_end 0 before.ends) upto c one.test one.own) (tests_free cs old mid done before)
        (subst (λ (d : ℕ). IsDecided literals readers (free_of mid) d upto c one.test one.own) before.done_is one.decided));
    done_is = sym (last_more 0 before.ends upto);
  }

  -- the reads, the block and the choice
  pub conjunct_emits : (done upto : ℕ) (c : Condition) (old mid now new : Emitter) (known : List Known) (out : exprs.Test) (reads : Statement) → ReadsPart readers done upto reads → known ≡ known_after literals readers upto → EmitsTest known c mid now out →
      mid.first ≡ old.first → mid.own.items ≡ old.own.items → mid.block.code.items ≡ old.block.code.items ++ steps_of reads → new.first ≡ now.first → new.own.items ≡ now.own.items →
      new.block.code.items ≡ now.block.code.items ++ opening (tested out) → EmitsConjunct literals readers done upto c old new
  conjunct_emits done upto c old mid now new known out reads reading same one first own code first' own' code' = record {
    first_is = first' ∙ (one.first_is ∙ first);
    test = record { out = tested out; block = seq reads one.statement };
    own = one.own;
    code_is =
        code' ∙ (ap (λ (s : List LowStep). s ++ opening (tested out)) (one.code_is ∙ ap (λ (s : List LowStep). s ++ steps_of one.statement) code)
        ∙ (ap (λ (s : List LowStep). s ++ opening (tested out)) (append_assoc old.block.code.items (steps_of reads) (steps_of one.statement))
        ∙ append_assoc old.block.code.items (steps_of reads ++ steps_of one.statement) (opening (tested out))));
    own_is = own' ∙ (one.own_is ∙ ap (λ (o : List ValType). o ++ one.own) own);
    decided = record {
      out = out;
      reads = reads;
      decides = one.statement;
      out_is = refl;
      block_is = refl;
      reading = reading;
      deciding =
          let free : free_of mid ≡ free_of old = ap₂ (λ (n : ℕ) (o : List ValType). n + length o) first own in
          subst (λ (k : ℕ). DecidesTest (known_after literals readers upto) c k out one.statement one.own) free (subst (λ (ks : List Known). DecidesTest ks c (free_of mid) out one.statement one.own) same one.decides);
    };
  }

-- ---- items
items_end : (gs : List Item) (g : Item) → steps_of (items_block (gs ++ g ∷ [])) ≡ steps_of (items_block gs) ++ steps_of g.block
items_end [] g = append-nil (steps_of g.block)
items_end (f ∷ gs) g = ap (λ (steps : List LowStep). steps_of f.block ++ steps) (items_end gs g) ∙ sym (append_assoc (steps_of f.block) (steps_of (items_block gs)) (steps_of g.block))

outs_end : (gs : List Item) (g : Item) → outs_of (gs ++ g ∷ []) ≡ outs_of gs ++ g.out ∷ []
outs_end [] g = refl
outs_end (f ∷ gs) g = ap (λ (os : List Source). f.out ∷ os) (outs_end gs g)

pub sources_end : (os : List Operand) (o : Operand) → sources_of (os ++ o ∷ []) ≡ sources_of os ++ source_of o ∷ []
sources_end [] o = refl
sources_end (p ∷ os) o = ap (λ (s : List Source). source_of p ∷ s) (sources_end os o)

computed_more : (known : List Known) (next : ℕ) (es : List Expression) (gs : List Item) (own : List ValType) (e : Expression) (g : Item) (out : Operand) (more : List ValType) → AreComputed known next es gs own → g.out ≡ source_of out →
    Computes known e (next + length own) out g.block more → AreComputed known next (es ++ e ∷ []) (gs ++ g ∷ []) (own ++ more)
computed_more known next [] [] own e g out more are is computes =
    let none : length own ≡ 0 = ap (λ (o : List ValType). length o) are in
    let here : next + length own ≡ next = omega (arith, none) in
    (out, more, [], ap (λ (o : List ValType). o ++ more) are ∙ sym (append-nil more), is, subst (λ (k : ℕ). Computes known e k out g.block more) here computes, refl)
computed_more known next [] (f ∷ gs) own e g out more are is computes = absurd are
computed_more known next (b ∷ es) [] own e g out more are is computes = absurd are
computed_more known next (b ∷ es) (f ∷ gs) own e g out more are is computes =
    let many : length own ≡ length are.1 + length are.2 = ap (λ (o : List ValType). length o) are.3 ∙ length-append are.1 are.2 in
    let there : next + length own ≡ next + length are.1 + length are.2 = omega (arith, many) in (
      are.0,
      are.1,
      are.2 ++ more,
      ap (λ (o : List ValType). o ++ more) are.3 ∙ append_assoc are.1 are.2 more,
      are.4,
      are.5,
      computed_more known (next + length are.1) es gs are.2 e g out more are.6 is (subst (λ (k : ℕ). Computes known e k out g.block more) there computes),
    )

pub items_free : (known : List Known) (es : List Expression) (old new : Emitter) (outs : List Operand) (h : EmitsItems known es old new outs) → free_of new ≡ free_of old + length h.own
items_free known es old new outs h = free_later old new h.own h.first_is h.own_is

pub items_more : (known : List Known) (es : List Expression) (e : Expression) (old mid new : Emitter) (outs : List Operand) (out : Operand) → EmitsItems known es old mid outs → Emits known e mid new out →
    EmitsItems known (es ++ e ∷ []) old new (outs ++ out ∷ [])
items_more known es e old mid new outs out before one = record {
  first_is = one.first_is ∙ before.first_is;
  items = before.items ++ record { out = source_of out; block = one.statement } ∷ [];
  own = before.own ++ one.own;
  code_is =
      one.code_is ∙ (ap (λ (s : List LowStep). s ++ steps_of one.statement) before.code_is
      ∙ (append_assoc old.block.code.items (steps_of (items_block before.items)) (steps_of one.statement)
      ∙ ap (λ (s : List LowStep). old.block.code.items ++ s) (sym (items_end before.items (record { out = source_of out; block = one.statement })))));
  own_is = one.own_is ∙ (ap (λ (o : List ValType). o ++ one.own) before.own_is ∙ append_assoc old.own.items before.own one.own);
  computed = computed_more known (free_of old) es before.items before.own e (record { out = source_of out; block = one.statement }) out one.own before.computed refl
      (subst (λ (k : ℕ). Computes known e k out one.statement one.own) (items_free known es old mid outs before) one.computes);
  outs_are = outs_end before.items (record { out = source_of out; block = one.statement }) ∙ (ap (λ (os : List Source). os ++ source_of out ∷ []) before.outs_are ∙ sym (sources_end outs out));
}

-- ---- in a loop over a list
pub next_test : (literals : List Known) (readers : List Reader) (xs : List Cond) (i : ℕ) (x : Cond) (old mid new : Emitter) (done upto : ℕ) → i < length xs → x ≡ get_or xs i x → EmitsTests literals readers (map condition_of (take i xs)) old mid done →
    EmitsConjunct literals readers done upto (condition_of x) mid new → EmitsTests literals readers (map condition_of (take (i + 1) xs)) old new upto
next_test literals readers xs i x old mid new done upto less same before one =
    subst (λ (cs : List Condition). EmitsTests literals readers cs old new upto) (sym (one_further condition_of xs i x less same)) (tests_more literals readers (map condition_of (take i xs)) (condition_of x) old mid new done upto before one)

pub next_item : (known : List Known) (xs : List Expr) (i : ℕ) (x : Expr) (old mid new : Emitter) (outs more : List Operand) (out : Operand) → i < length xs → x ≡ get_or xs i x → EmitsItems known (map expression_of (take i xs)) old mid outs →
    Emits known (expression_of x) mid new out → more ≡ outs ++ out ∷ [] → EmitsItems known (map expression_of (take (i + 1) xs)) old new more
next_item known xs i x old mid new outs more out less same before one added =
    subst (λ (os : List Operand). EmitsItems known (map expression_of (take (i + 1) xs)) old new os) (sym added)
    (subst (λ (es : List Expression). EmitsItems known es old new (outs ++ out ∷ [])) (sym (one_further expression_of xs i x less same)) (items_more known (map expression_of (take i xs)) (expression_of x) old mid new outs out before one))
