-- A test of null words before a condition.
use Rattle.std.proofs.Common.{◌≡◌, ℕ, ◌+◌, ◌<◌, ◌≤◌, List, [], ◌∷◌, ◌++◌, length, length-append, Some, Result, Ok, Err, slice_get, refl, sym, ap, ◌∙◌, subst, arith}
use Rattle.std.proofs.lemmas.List.{append_assoc}
use Rattle.qw_types.specs.Arithmetic.{◌>>=◌}
use Rattle.qw_types.specs.declared.code.Code.{Code}
use Rattle.qw_types.specs.declared.truth.Truth.{Truth}
use Rattle.qw_types.specs.declared.truth.Truth.TheVariants.{Unknown}
use Rattle.qw_types.specs.declared.value.Val.{Val}
use Rattle.qw_map.proofs.TurnFacts.{slice_get-set_same}
use Rattle.qw_scalar.specs.Columns.{HaveColumns, HoldsIn}
use Rattle.qw_scalar.specs.Evaluation.{truth_of, at_row}
use Rattle.qw_scalar.specs.Expression.{Condition}
use Rattle.qw_scalar.specs.Units.{units_of}
use Rattle.qw_module.specs.declared.instruction.ValType.{ValType}
use Rattle.qw_module.specs.declared.instruction.ValType.TheVariants.{I32}
use Rattle.qw_module.specs.declared.instruction.Op.TheVariants as o
use Rattle.qw_module.specs.declared.instruction.Const.TheVariants as const
use Rattle.qw_low.specs.declared.step.LowStep.{LowStep}
use Rattle.qw_low.specs.declared.step.LowStep.TheVariants as step
use Rattle.qw_low.specs.Syntax.{Statement, assign, conditional, local, seq}
use Rattle.qw_low.specs.State.{Number, LowState}
use Rattle.qw_low.specs.Meaning.{value}
use Rattle.qw_low.specs.Steps.{expression_steps, steps_of}
use Rattle.qw_low.specs.Raising.{Kept}
use Rattle.qw_low.proofs.Appended.{two, three}
use Rattle.qw_low.proofs.Results.{Kept-one, Kept-same, Kept-set, Kept-then, Comes, comes_assign, comes_choose, comes_then}
use Rattle.qw_expr.specs.declared.emitter.Emitter.{Emitter}
use Rattle.qw_expr.specs.declared.known.Binding.{Binding}
use Rattle.qw_expr.specs.declared.test.Test.{Test}
use Rattle.qw_expr.specs.declared.test.Test.TheVariants as test
use Rattle.qw_expr.specs.Bindings.{known_of}
use Rattle.qw_expr.specs.Computes.{Known, AreHeld}
use Rattle.qw_expr.specs.Emits.{free_of}
use Rattle.qw_expr.specs.Tests.{DecidesTest, EmitsTest, tested, truth_word}
use Rattle.qw_expr.specs.Inner.Guards.{Strict, any_of}
use Rattle.qw_expr.specs.Inner.Truths.{i32}
use Rattle.qw_expr.proofs.Binary.{declares_rest}
use Rattle.qw_expr.proofs.Leaves.{any_typed, any_value}

then_same : (r : Result Truth Code) → (r >>= (λ v. Ok v)) ≡ r
then_same (Ok v) = refl
then_same (Err code) = refl

module _ (known : List Known) (c : Condition) (leaves : List Binding) (first : ℕ) (rest : List ℕ) (strict : Strict known c leaves (first ∷ rest)) (next : ℕ) (u : Test) (a : Statement) (own : List ValType)
    (inner : DecidesTest (known_of leaves) c (next + 1) u a own) where
  abbrev pub block : Statement
  block = conditional (any_of first rest) (assign next (i32 0)) (seq a (assign next (tested u)))

  abbrev Post : LowState → Truth → LowState → Type 0
  Post s v t = Kept next s t × (value t (local next) ≡ Some (Number (truth_word v)))

  sets : (pages fuel more : ℕ) (s t : LowState) (v : Truth) → 1 ≤ more → next < length t.locals → Kept next s t → value t (tested u) ≡ Some (Number (truth_word v)) → Comes pages fuel more (Post s) (Ok v) (assign next (tested u)) t
  sets pages fuel more s t v some room kept is =
      comes_assign pages fuel more some (Post s) v next (tested u) (Number (truth_word v)) t is room
      (Kept-set next s t next (Number (truth_word v)) kept (omega arith), slice_get-set_same t.locals next (Number (truth_word v)) room)

  goes_on : (pages fuel more : ℕ) (row : List Val) (s : LowState) → 1 + units_of c (at_row row) ≤ more → more ≤ fuel → AreHeld (known_of leaves) row s → HaveColumns (HoldsIn row) c → next + (1 + length own) ≤ length s.locals →
      Comes pages fuel more (Post s) (truth_of c (at_row row)) (seq a (assign next (tested u))) s
  goes_on pages fuel more row s enough within held columns room =
      subst (λ (r : Result Truth Code). Comes pages fuel more (Post s) r (seq a (assign next (tested u))) s) (then_same (truth_of c (at_row row)))
      (comes_then pages fuel more (λ v t. Kept (next + 1) s t × (value t (tested u) ≡ Some (Number (truth_word v)))) (Post s) (truth_of c (at_row row)) (λ v. Ok v) a (assign next (tested u)) s
      (inner.runs pages fuel more row s enough within held columns (omega (arith, room)))
      (λ v t is_v left. sets pages fuel more s t v (omega (arith, enough)) (omega (arith, room, left.0.many)) (Kept-then next (next + 1) s s t (omega arith) (Kept-same next s) left.0) left.1))

  guarded_decides : DecidesTest known c next (test.Local next) block (I32 ∷ own)
  guarded_decides = record {
    below = omega arith;
    runs = λ pages fuel more row s enough within held columns room.
        let some : 1 ≤ more = omega (arith, enough) in
        let told = strict.tells row s held columns in
        comes_choose pages fuel more some (Post s) (truth_of c (at_row row)) (any_of first rest) told.0 (assign next (i32 0)) (seq a (assign next (tested u))) s (any_value s first rest told.0 told.1)
        (λ is. rw (told.2 is)
        (comes_assign pages fuel more some (Post s) Unknown next (i32 0) (Number 0) s refl (omega (arith, room)) (Kept-one s next (Number 0), slice_get-set_same s.locals next (Number 0) (omega (arith, room)))))
        (λ is. goes_on pages fuel more row s enough within (told.3 is) columns (omega (arith, room)));
    typed = λ types declared declares.
        let zeroth : next + 0 ≡ next = omega arith in
        let word : slice_get types next ≡ Some I32 = subst (λ k. slice_get types k ≡ Some I32) zeroth (declares 0 I32 refl) in
        let done = inner.typed types (strict.are.declared types declared) (declares_rest types next (I32 ∷ []) own declares) in
        ((any_typed types first rest (strict.are.words types declared), (I32, word, (omega arith, refl)), (done.0, (I32, word, done.1))), word);
  }

pub guarded_emits : (known : List Known) (c : Condition) (leaves : List Binding) (first : ℕ) (rest : List ℕ) (old named begun done new : Emitter) (t : ℕ) (u : Test) → Strict known c leaves (first ∷ rest) →
    t ≡ old.first + length old.own.items → named.own.items ≡ old.own.items ++ I32 ∷ [] → named.first ≡ old.first → named.block.code.items ≡ old.block.code.items →
    begun.block.code.items ≡ named.block.code.items ++ (expression_steps (any_of first rest) ++ step.If ∷ step.Op (o.Const (const.I32 0)) ∷ step.Op (o.LocalSet t) ∷ step.Else ∷ []) → begun.first ≡ named.first → begun.own.items ≡ named.own.items →
    EmitsTest (known_of leaves) c begun done u →
    new.block.code.items ≡ done.block.code.items ++ (expression_steps (tested u) ++ step.Op (o.LocalSet t) ∷ step.End ∷ []) → new.first ≡ done.first → new.own.items ≡ done.own.items →
    EmitsTest known c old new (test.Local t)
guarded_emits known c leaves first rest old named begun done new t u strict t_is named_own named_first named_code begun_code begun_first begun_own et new_code new_first new_own =
    let any : List LowStep = expression_steps (any_of first rest) in
    let steps : List LowStep = steps_of et.statement in
    let last : List LowStep = expression_steps (tested u) in
    let next : ℕ = free_of old in
    let long : length begun.own.items ≡ length old.own.items + 1 = ap length (begun_own ∙ named_own) ∙ length-append old.own.items (I32 ∷ []) in
    let at : free_of begun ≡ next + 1 = omega (arith, begun_first, named_first, long) in
    let inner : DecidesTest (known_of leaves) c (next + 1) u et.statement et.own = subst (λ k. DecidesTest (known_of leaves) c k u et.statement et.own) at et.decides in
    let start : List LowStep = step.If ∷ step.Op (o.Const (const.I32 0)) ∷ step.Op (o.LocalSet t) ∷ step.Else ∷ [] in
    let end : List LowStep = last ++ step.Op (o.LocalSet t) ∷ step.End ∷ [] in
    let inside : steps ++ end ≡ (steps ++ (last ++ step.Op (o.LocalSet t) ∷ [])) ++ step.End ∷ [] =
    sym (append_assoc steps (last ++ step.Op (o.LocalSet t) ∷ []) (step.End ∷ []) ∙ ap (λ x. steps ++ x) (append_assoc last (step.Op (o.LocalSet t) ∷ []) (step.End ∷ []))) in
    let whole : new.block.code.items ≡ old.block.code.items ++ (any ++ (start ++ ((steps ++ (last ++ step.Op (o.LocalSet t) ∷ [])) ++ step.End ∷ []))) =
    three old.block.code.items begun.block.code.items done.block.code.items new.block.code.items (any ++ start) steps end (begun_code ∙ ap (λ x. x ++ (any ++ start)) named_code) et.code_is new_code
    ∙ ap (λ x. old.block.code.items ++ x) (append_assoc any start (steps ++ end) ∙ ap (λ x. any ++ (start ++ x)) inside) in
    subst (λ k. EmitsTest known c old new (test.Local k)) (sym t_is)
    (record {
      first_is = new_first ∙ et.first_is ∙ begun_first ∙ named_first;
      statement = block known c leaves first rest strict next u et.statement et.own inner;
      own = I32 ∷ et.own;
      code_is = subst (λ k. new.block.code.items ≡ old.block.code.items ++ (any ++ (step.If ∷ step.Op (o.Const (const.I32 0)) ∷ step.Op (o.LocalSet k) ∷ step.Else ∷ ((steps ++ (last ++ step.Op (o.LocalSet k) ∷ [])) ++ step.End ∷ [])))) t_is whole;
      own_is = new_own ∙ two old.own.items begun.own.items done.own.items (I32 ∷ []) et.own (begun_own ∙ named_own) et.own_is;
      decides = guarded_decides known c leaves first rest strict next u et.statement et.own inner;
    })
