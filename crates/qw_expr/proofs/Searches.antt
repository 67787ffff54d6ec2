-- Blocks that search among literals.
use Rattle.std.proofs.Common.{◌≡◌, ℕ, ℤ, Bool, true, false, ◌||◌, List, [], ◌∷◌, ◌++◌, Some, Ok, slice_get, slice_set, take, drop, int_cmp, refl, sym, ap, ◌∙◌, subst, arith}
use Rattle.std.proofs.lemmas.List.{take-append-drop}
use Rattle.std.specs.Ordering.{is_eq, is_lt}
use Rattle.qw_module.specs.declared.instruction.ValType.{ValType}
use Rattle.qw_module.specs.declared.instruction.ValType.TheVariants.{I32, I64}
use Rattle.qw_module.specs.declared.instruction.Binary.TheVariants.{Or}
use Rattle.qw_module.specs.declared.instruction.Op.TheVariants as o
use Rattle.qw_module.specs.declared.instruction.Relation.TheVariants.{Lt}
use Rattle.qw_module.specs.declared.instruction.Sign.TheVariants.{Signed}
use Rattle.qw_module.specs.Numbers.{binary, truth}
use Rattle.qw_scalar.specs.declared.comparison.Comparison.{Comparison}
use Rattle.qw_scalar.specs.declared.comparison.Comparison.TheVariants as op
use Rattle.qw_scalar.specs.Evaluation.{answers}
use Rattle.qw_low.specs.declared.step.LowStep.{LowStep}
use Rattle.qw_low.specs.declared.step.LowStep.TheVariants as step
use Rattle.qw_low.specs.Syntax.{Statement, assign, conditional, local, relop}
use Rattle.qw_low.specs.State.{Number, LowState}
use Rattle.qw_low.specs.Held.{HoldsNumber}
use Rattle.qw_low.specs.Meaning.{value}
use Rattle.qw_low.specs.Steps.{expression_steps, steps_of}
use Rattle.qw_low.specs.Typing.{HasType}
use Rattle.qw_low.proofs.Appended.{two, four}
use Rattle.qw_low.proofs.Results.{Comes, comes_assign, comes_choose}
use Rattle.qw_wide.specs.Relations.{relation_of}
use Rattle.qw_wide.proofs.Relations.{fits_back, tells_truth}
use Rattle.qw_wide.proofs.Words.{held_word}
use Rattle.qw_expr.specs.declared.emitter.Emitter.{Emitter}
use Rattle.qw_expr.specs.declared.search.Sought.{Sought}
use Rattle.qw_expr.specs.Inner.Search.{AreInLocals, AreNumbers, AreRising, EmitsHalves, Searches, equals_one, is_one}
use Rattle.qw_expr.proofs.Sought.{all_parts, lower_only, rising_parts, upper_only}

-- ---- the words of tests
compares : (o : Comparison) (s : LowState) (x y : ℕ) (v w : ℤ) → HoldsNumber s x v → HoldsNumber s y w → value s (relop I64 (relation_of o) (local x) (local y)) ≡ Some (Number (truth (answers o (int_cmp v w))))
compares o s x y v w one other =
    rw (held_word s x v one, held_word s y w other) (ap (λ (n : ℕ). Some (Number n)) (tells_truth o v w (fits_back one.0 v one.2 one.3) (fits_back other.0 w other.2 other.3)))

either_word : (g h : Bool) → binary I32 Or (truth g) (truth h) ≡ truth (g || h)
either_word true true = refl
either_word true false = refl
either_word false true = refl
either_word false false = refl

alone : (g : Bool) → truth g ≡ truth (g || false)
alone true = refl
alone false = refl

equals_value : (s : LowState) (x : ℕ) (v : ℤ) (sought : List Sought) → HoldsNumber s x v → AreInLocals sought s → value s (equals_one x sought) ≡ Some (Number (truth (is_one v sought)))
equals_value s x v [] holds all = refl
equals_value s x v (k ∷ []) holds all = compares op.Equal s x k.local v k.value holds all.0 ∙ ap (λ (n : ℕ). Some (Number n)) (alone (is_eq (int_cmp v k.value)))
equals_value s x v (k ∷ l ∷ rest) holds all =
    rw (compares op.Equal s x k.local v k.value holds all.0, equals_value s x v (l ∷ rest) holds all.1)
    (ap (λ (n : ℕ). Some (Number n)) (either_word (is_eq (int_cmp v k.value)) (is_one v (l ∷ rest))))

equals_typed : (types : List ValType) (x : ℕ) (sought : List Sought) → slice_get types x ≡ Some I64 → AreNumbers types sought → HasType types (equals_one x sought) I32
equals_typed types x [] is all = (omega arith, refl)
equals_typed types x (k ∷ []) is all = (is, all.0, refl)
equals_typed types x (k ∷ l ∷ rest) is all = ((is, all.0, refl), equals_typed types x (l ∷ rest) is all.1, refl)

-- ---- searches
abbrev after : ℕ → LowState → Bool → LowState → Type 0
after out s g t = t ≡ record s { locals = slice_set s.locals out (Number (truth g)) }

last_searches : (x out : ℕ) (sought : List Sought) → Searches x out sought (assign out (equals_one x sought))
last_searches x out sought = record {
  runs = λ pages fuel more v s some holds all room.
      comes_assign pages fuel more some (after out s) (is_one v sought) out (equals_one x sought) (Number (truth (is_one v sought))) s (equals_value s x v sought holds all) room refl;
  typed = λ types is word all. (I32, word, equals_typed types x sought is all);
}

module _ (x out : ℕ) (lower rest : List Sought) (middle : Sought) (a b : Statement) (rising : AreRising (lower ++ middle ∷ rest)) (first : Searches x out lower a) (second : Searches x out (middle ∷ rest) b) where
  halves_search : Searches x out (lower ++ middle ∷ rest) (conditional (relop I64 (Lt Signed) (local x) (local middle.local)) a b)
  halves_search = record {
    runs = λ pages fuel more v s some holds all room.
        let upper : List Sought = middle ∷ rest in
        let parts = all_parts (λ (k : Sought). HoldsNumber s k.local k.value) lower upper all in
        let order = rising_parts lower upper rising in
        comes_choose pages fuel more some (after out s) (Ok (is_one v (lower ++ upper))) (relop I64 (Lt Signed) (local x) (local middle.local)) (is_lt (int_cmp v middle.value)) a b s (compares op.Less s x middle.local v middle.value holds parts.1.0)
        (λ less. subst (λ (g : Bool). Comes pages fuel more (after out s) (Ok g) a s) (lower_only v lower rest middle less order.1) (first.runs pages fuel more v s some holds parts.0 room))
        (λ less. subst (λ (g : Bool). Comes pages fuel more (after out s) (Ok g) b s) (upper_only v lower rest middle less order.2) (second.runs pages fuel more v s some holds parts.1 room));
    typed = λ types is word all.
        let parts = all_parts (λ (k : Sought). slice_get types k.local ≡ Some I64) lower (middle ∷ rest) all in
        ((is, parts.1.0, refl), first.typed types is word parts.0, second.typed types is word parts.1);
  }

-- ---- as they are emitted
pub last_emits : (x out : ℕ) (sought : List Sought) (old mid new : Emitter) → mid.first ≡ old.first → mid.own.items ≡ old.own.items → mid.block.code.items ≡ old.block.code.items ++ expression_steps (equals_one x sought) →
    new.first ≡ mid.first → new.own.items ≡ mid.own.items → new.block.code.items ≡ mid.block.code.items ++ step.Op (o.LocalSet out) ∷ [] → EmitsHalves x out sought old new
last_emits x out sought old mid new first own code first' own' code' = record {
  first_is = first' ∙ first;
  own_is = own' ∙ own;
  statement = assign out (equals_one x sought);
  code_is = two old.block.code.items mid.block.code.items new.block.code.items (expression_steps (equals_one x sought)) (step.Op (o.LocalSet out) ∷ []) code code';
  searches = last_searches x out sought;
}

pub halves_emit : (x out : ℕ) (sought lower upper rest : List Sought) (middle : Sought) (old begun mid other done new : Emitter) → AreRising sought → sought ≡ lower ++ upper → upper ≡ middle ∷ rest →
    begun.first ≡ old.first → begun.own.items ≡ old.own.items → begun.block.code.items ≡ old.block.code.items ++ (step.Op (o.LocalGet x) ∷ step.Op (o.LocalGet middle.local) ∷ step.Op (o.Relation I64 (Lt Signed)) ∷ step.If ∷ []) →
    EmitsHalves x out lower begun mid → other.first ≡ mid.first → other.own.items ≡ mid.own.items → other.block.code.items ≡ mid.block.code.items ++ step.Else ∷ [] → EmitsHalves x out upper other done →
    new.first ≡ done.first → new.own.items ≡ done.own.items → new.block.code.items ≡ done.block.code.items ++ step.End ∷ [] → EmitsHalves x out sought old new
halves_emit x out sought lower upper rest middle old begun mid other done new rising is_sought is_upper first own code el first' own' code' eu first'' own'' code'' =
    let is : sought ≡ lower ++ middle ∷ rest = is_sought ∙ ap (λ (u : List Sought). lower ++ u) is_upper in
    let a : Statement = el.statement in
    let b : Statement = eu.statement in
    let test : List LowStep = step.Op (o.LocalGet x) ∷ step.Op (o.LocalGet middle.local) ∷ step.Op (o.Relation I64 (Lt Signed)) ∷ step.If ∷ [] in
    let inner : List LowStep = steps_of a ++ (step.Else ∷ (steps_of b ++ step.End ∷ [])) in
    record {
      first_is = first'' ∙ eu.first_is ∙ first' ∙ el.first_is ∙ first;
      own_is = own'' ∙ eu.own_is ∙ own' ∙ el.own_is ∙ own;
      statement = conditional (relop I64 (Lt Signed) (local x) (local middle.local)) a b;
      code_is = two old.block.code.items begun.block.code.items new.block.code.items test inner code
          (four begun.block.code.items mid.block.code.items other.block.code.items done.block.code.items new.block.code.items (steps_of a) (step.Else ∷ []) (steps_of b) (step.End ∷ []) el.code_is code' eu.code_is code'');
      searches = subst (λ (l : List Sought). Searches x out l (conditional (relop I64 (Lt Signed) (local x) (local middle.local)) a b)) (sym is)
          (halves_search x out lower rest middle a b (subst AreRising is rising) el.searches (subst (λ (u : List Sought). Searches x out u b) is_upper eu.searches));
    }

-- a list is its halves
pub of_halves : (sought lower upper : List Sought) (middle : ℕ) → lower ≡ take middle sought → upper ≡ drop middle sought → sought ≡ lower ++ upper
of_halves sought lower upper middle front back = rw (front, back) (sym (take-append-drop middle sought))
