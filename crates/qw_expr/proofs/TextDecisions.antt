-- The blocks that compare texts, or match one with a pattern, decide the question.
use Rattle.std.proofs.Common.{◌≡◌, ℕ, ◌+◌, ◌*◌, ◌≤◌, ◌⊎◌, inl, inr, Bool, FitsSigned, List, [], ◌∷◌, ◌++◌, length, Option, Some, Ok, slice_get, refl, sym, ap, ap₂, ◌∙◌, subst, arith, w64}
use Rattle.std.specs.Ordering.{is_eq}
use Rattle.qw_types.specs.Like.{fits_pattern}
use Rattle.qw_types.specs.TextOrder.{text_order}
use Rattle.qw_types.specs.declared.kind.Kind.{Kind}
use Rattle.qw_types.specs.declared.kind.Kind.TheVariants as kind
use Rattle.qw_types.specs.declared.truth.Truth.{Truth}
use Rattle.qw_types.specs.declared.value.Val.{Val}
use Rattle.qw_types.specs.declared.value.Val.TheVariants as val
use Rattle.qw_scalar.specs.declared.comparison.Comparison.{Comparison}
use Rattle.qw_scalar.specs.declared.comparison.Comparison.TheVariants as op
use Rattle.qw_scalar.specs.Columns.{HasColumns, HoldsIn}
use Rattle.qw_scalar.specs.Evaluation.{answers, answers_texts, compared, truth_if, value_of, at_row}
use Rattle.qw_scalar.specs.Expression.{Expression, comparison, scale_of}
use Rattle.qw_scalar.specs.Typing.{AreTyped, IsTyped, IsValueOf, kind_of}
use Rattle.qw_scalar.proofs.TypingLemmas.{typed_value}
use Rattle.qw_map.proofs.TurnFacts.{slice_get-set_same}
use Rattle.qw_module.specs.declared.instruction.ValType.{ValType}
use Rattle.qw_module.specs.declared.instruction.ValType.TheVariants.{I32, I64}
use Rattle.qw_module.specs.Numbers.{truth}
use Rattle.qw_low.specs.declared.cell.Cell.{Cell}
use Rattle.qw_low.specs.Typing as low
use Rattle.qw_low.specs.Syntax.{Expression as LowExpression, Statement, skip, local, is_zero, seq, assign}
use Rattle.qw_low.specs.State.{Number, LowState}
use Rattle.qw_low.specs.Meaning.{value, meaning}
use Rattle.qw_low.specs.declared.step.LowStep.{LowStep}
use Rattle.qw_low.specs.Steps.{steps_of}
use Rattle.qw_low.specs.Size.{size}
use Rattle.qw_low.specs.Promise.{Ends}
use Rattle.qw_low.specs.Raising.{Kept}
use Rattle.qw_low.specs.Held.{HoldsText, SaysValue}
use Rattle.qw_low.proofs.Appended.{four}
use Rattle.qw_low.proofs.Promises.{Ends-weaker}
use Rattle.qw_low.proofs.Results.{Kept-same, Kept-set, Kept-then, Comes, comes_then, comes_assign}
use Rattle.qw_text.specs.Likes.{Likes, SaysLike, like_types, pairs}
use Rattle.std.proofs.Math.Nat.{min-le_left}
use Rattle.qw_text.specs.Texts.{Compares, DeclaresText, SaysSame, SaysOrder, of_shorter, of_left, own_types}
use Rattle.qw_wide.proofs.Words.{held_word}
use Rattle.qw_expr.specs.declared.emitter.Emitter.{Emitter}
use Rattle.qw_expr.specs.declared.text.TextLocals.{TextLocals}
use Rattle.qw_expr.specs.declared.operand.Operand.{Operand}
use Rattle.qw_expr.specs.Cells.{Holds, HoldsTruth, DeclaresKind, DeclaresValue, Declares}
use Rattle.qw_scalar.specs.Units.{octets_for, octets_in}
use Rattle.qw_expr.specs.Computes.{Known, AreBelow, Computes, Decides}
use Rattle.qw_expr.specs.Emits.{Emits, EmitsTruth, free_of}
use Rattle.qw_expr.specs.Inner.Nulls.{join_block, joined_null, after_unless}
use Rattle.qw_expr.specs.Inner.Truths.{zero_if_null, before_zero}
use Rattle.qw_wide.specs.Inner.Blocks.{zero_test}
use Rattle.qw_expr.specs.Inner.Texts.{TestsTexts, TakesTexts, AddsTexts, texts_own, texts_steps}
use Rattle.qw_expr.proofs.Nulls.{value_says, text_kept, below_more}
use Rattle.qw_expr.proofs.Binary.{if_ok_is}
use Rattle.qw_expr.proofs.Junctions.{not_is}
use Rattle.qw_wide.proofs.Relations.{zero_told, fits_back}
use Rattle.qw_expr.proofs.Comparisons.{truth_held}
use Rattle.qw_expr.proofs.Decisions.{comparison_decides}
use Rattle.qw_expr.proofs.TruthsEmitted.{pair_emits, zero_steps}
use Rattle.qw_expr.proofs.Unknowns.{null_low}

-- ---- the tests
-- of a block that says something of two texts, from which an expression tells the answer
tests_by : (octets : (v w : List ℕ) → ℕ) (own : List ValType) (operator : Comparison) (says : (v w : List ℕ) → LowState → Type 0) (left right : Cell) (free t : ℕ) (a : Statement) (e : LowExpression) → ((v w : List ℕ) → octets v w ≤ octets_for operator v w) → texts_own operator ≡ own →
    ((pages fuel more : ℕ) (s : LowState) (v w : List ℕ) → 1 + octets v w ≤ more → more ≤ fuel → HoldsText s left.value left.length v → HoldsText s right.value right.length w → free + length own ≤ length s.locals →
    Ends (size a * more) (λ u. Kept free s u × says v w u) (λ u. ⊥) (λ code. ⊥) (meaning pages fuel a s)) →
    ((types : List ValType) → DeclaresText types left → DeclaresText types right → Declares types free own → low.IsTyped types a) →
    ((u : LowState) (v w : List ℕ) → says v w u → value u e ≡ Some (Number (truth (answers_texts operator v w)))) → ((types : List ValType) → Declares types free own → low.HasType types e I32) → TestsTexts operator left right free t (seq a (assign t e))
tests_by octets own operator says left right free t a e fewer same runs block_typed is typed = record {
  runs = λ pages fuel more s v w enough within held_v held_w before room.
      let wide : free + length own ≤ length s.locals = subst (λ (l : List ValType). free + length l ≤ length s.locals) same room in
      let n : ℕ = truth (answers_texts operator v w) in
      let Post : ℕ → LowState → Type 0 = λ k u. Kept t s u × (slice_get u.locals t ≡ Some (Number n)) in
      comes_then pages fuel more {A = ℕ} (λ k u. Kept free s u × says v w u) Post (Ok 0) (λ k. Ok 0) a (assign t e) s
      (runs pages fuel more s v w (omega (arith, enough, fewer v w)) within held_v held_w wide)
      (λ k u now left.
      comes_assign pages fuel more (omega (arith, enough)) Post 0 t e (Number n) u (is u v w left.1) (omega (arith, before, wide, left.0.many)) (
        Kept-set t s u t (Number n) (Kept-then t free s s u (omega (arith, before)) (Kept-same t s) left.0) (omega arith),
        slice_get-set_same u.locals t (Number n) (omega (arith, before, wide, left.0.many)),
      ));
  typed = λ types declared_l declared_r word declares.
      let mine : Declares types free own = subst (Declares types free) same declares in
      (block_typed types declared_l declared_r mine, (I32, word, typed types mine));
}

first_own : (types : List ValType) (free : ℕ) (rest : List ValType) → Declares types free (I32 ∷ rest) → slice_get types free ≡ Some I32
first_own types free rest declares =
    let zeroth : free + 0 ≡ free = omega arith in
    subst (λ k. slice_get types k ≡ Some I32) zeroth (declares 0 I32 refl)

-- the type of a block's first local, and of the opposite of what it has
first_typed : (types : List ValType) (free out : ℕ) (rest : List ValType) → out ≡ free → Declares types free (I32 ∷ rest) → low.HasType types (local out) I32
first_typed types free out rest place declares = subst (λ k. slice_get types k ≡ Some I32) (sym place) (first_own types free rest declares)

opposite_typed : (types : List ValType) (free out : ℕ) (rest : List ValType) → out ≡ free → Declares types free (I32 ∷ rest) → low.HasType types (is_zero I32 (local out)) I32
opposite_typed types free out rest place declares = (first_typed types free out rest place declares, refl)

pub tests_same : (left right : Cell) (free t out : ℕ) (a : Statement) → out ≡ free → Compares of_left (SaysSame out) left right free a → TestsTexts op.Equal left right free t (seq a (assign t (local out)))
tests_same left right free t out a place compares =
    tests_by of_left own_types op.Equal (SaysSame out) left right free t a (local out) (λ v w. omega arith) refl compares.runs compares.typed (λ u v w says. says) (λ types declares. first_typed types free out (I32 ∷ I64 ∷ I64 ∷ []) place declares)

pub tests_other : (left right : Cell) (free t out : ℕ) (a : Statement) → out ≡ free → Compares of_left (SaysSame out) left right free a → TestsTexts op.NotEqual left right free t (seq a (assign t (is_zero I32 (local out))))
tests_other left right free t out a place compares =
    tests_by of_left own_types op.NotEqual (SaysSame out) left right free t a (is_zero I32 (local out)) (λ v w. omega arith) refl compares.runs compares.typed (λ u v w says. not_is u (local out) (is_eq (text_order v w)) says)
    (λ types declares. opposite_typed types free out (I32 ∷ I64 ∷ I64 ∷ []) place declares)

pub tests_like : (left right : Cell) (free t out : ℕ) (a : Statement) → out ≡ free → Likes out left right free a → TestsTexts op.Like left right free t (seq a (assign t (local out)))
tests_like left right free t out a place likes =
    tests_by pairs like_types op.Like (SaysLike out) left right free t a (local out) (λ v w. omega arith) refl likes.runs likes.typed (λ u v w says. says)
    (λ types declares. first_typed types free out (I32 ∷ I32 ∷ I32 ∷ I32 ∷ I32 ∷ I32 ∷ I32 ∷ []) place declares)

pub tests_unlike : (left right : Cell) (free t out : ℕ) (a : Statement) → out ≡ free → Likes out left right free a → TestsTexts op.NotLike left right free t (seq a (assign t (is_zero I32 (local out))))
tests_unlike left right free t out a place likes =
    tests_by pairs like_types op.NotLike (SaysLike out) left right free t a (is_zero I32 (local out)) (λ v w. omega arith) refl likes.runs likes.typed (λ u v w says. not_is u (local out) (fits_pattern w v) says)
    (λ types declares. opposite_typed types free out (I32 ∷ I32 ∷ I32 ∷ I32 ∷ I32 ∷ I32 ∷ I32 ∷ []) place declares)

-- an order answers the question
pub record IsOrder (operator : Comparison) : Type 0 where
  pub own_is : texts_own operator ≡ own_types
  pub steps_are : texts_steps operator ≡ 110
  pub octets_are : (v w : List ℕ) → octets_for operator v w ≡ length v + length w
  pub answers_are : (v w : List ℕ) → answers_texts operator v w ≡ answers operator (text_order v w)

pub order_from : (o : Comparison) → (o ≡ op.Less) ⊎ ((o ≡ op.LessOrEqual) ⊎ ((o ≡ op.Greater) ⊎ (o ≡ op.GreaterOrEqual))) → IsOrder o
order_from o (inl is) = subst IsOrder (sym is) (record { own_is = refl; steps_are = refl; octets_are = λ v w. refl; answers_are = λ v w. refl })
order_from o (inr (inl is)) = subst IsOrder (sym is) (record { own_is = refl; steps_are = refl; octets_are = λ v w. refl; answers_are = λ v w. refl })
order_from o (inr (inr (inl is))) = subst IsOrder (sym is) (record { own_is = refl; steps_are = refl; octets_are = λ v w. refl; answers_are = λ v w. refl })
order_from o (inr (inr (inr is))) = subst IsOrder (sym is) (record { own_is = refl; steps_are = refl; octets_are = λ v w. refl; answers_are = λ v w. refl })

pub tests_order : (operator : Comparison) (left right : Cell) (free t out : ℕ) (a : Statement) → IsOrder operator → out ≡ free + 2 → Compares of_shorter (SaysOrder out) left right free a → TestsTexts operator left right free t (seq a (assign t (zero_test operator out)))
tests_order operator left right free t out a order place compares =
    tests_by of_shorter own_types operator (SaysOrder out) left right free t a (zero_test operator out) (λ v w. let octets = order.octets_are v w in let less = min-le_left (length v) (length w) in omega (arith, octets, less)) order.own_is compares.runs compares.typed
    (λ u v w says.
    let fit : FitsSigned w64 says.0 = fits_back says.1.0 says.0 says.1.2 says.1.3 in
    rw (held_word u out says.0 says.1) (ap (λ (n : ℕ). Some (Number n)) (zero_told operator says.0 (text_order v w) fit says.2 ∙ ap truth (sym (order.answers_are v w)))))
    (λ types declares. (subst (λ k. slice_get types k ≡ Some I64) (sym place) (declares 2 I64 refl), (omega arith, refl), refl))

-- ---- two texts
text_in : (e : Expression) (row : List Val) (x : Val) (o : Operand) (u : LowState) → IsTyped e → kind_of e ≡ Some kind.Text → HasColumns (HoldsIn row) e → value_of e (at_row row) ≡ Ok x → Holds o x u → (x ≡ val.Null → ⊥) →
    (t : List ℕ) × (x ≡ val.Text t) × HoldsText u o.cell.value o.cell.length t
text_in e row x o u typed textual columns is holds other =
    by_value x (subst (λ (k : Option Kind). IsValueOf k x) textual (if_ok_is (IsValueOf (kind_of e)) (value_of e (at_row row)) x is (typed_value e row typed columns))) holds other
  where
    by_value : (x : Val) → IsValueOf (Some kind.Text) x → Holds o x u → (x ≡ val.Null → ⊥) → (t : List ℕ) × (x ≡ val.Text t) × HoldsText u o.cell.value o.cell.length t
    by_value val.Null of holds other = absurd (other refl)
    by_value (val.Num v) of holds other = absurd of
    by_value (val.Date d) of holds other = absurd of
    by_value (val.Text t) of holds other = (t, refl, holds.0.0)

compared_texts : (o : Comparison) (x y : Val) (sa sb : ℕ) (v w : List ℕ) → x ≡ val.Text v → y ≡ val.Text w → compared o x sa y sb ≡ truth_if (answers_texts o v w)
compared_texts o x y sa sb v w is_x is_y = rw (is_x, is_y) refl

text_declared : (types : List ValType) (o : Operand) (e : Expression) → o.kind ≡ kind_of e → kind_of e ≡ Some kind.Text → DeclaresValue types o → DeclaresText types o.cell
text_declared types o e same textual declared = subst (DeclaresKind types o.cell) (same ∙ textual) declared.0

module _ (known : List Known) (next : ℕ) (low_known : AreBelow next known) (o : Comparison) (a b : Expression) (oa ob : Operand) (sa sb f : Statement) (owna ownb : List ValType) (typed : AreTyped (comparison o a b)) (ta : kind_of a ≡ Some kind.Text)
    (tb : kind_of b ≡ Some kind.Text) (ca : Computes known a next oa sa owna) (cb : Computes known b (next + length owna) ob sb ownb) where
  abbrev m : ℕ
  m = next + length owna + length ownb

  abbrev null : Option ℕ
  null = joined_null m oa.cell.null ob.cell.null

  abbrev cell : Cell
  cell = record { value = m + 1; length = m + 1; null = null }

  module _ (tests : TestsTexts o oa.cell ob.cell (m + 2) (m + 1) f) where
    both : (pages fuel more : ℕ) (x y : Val) (u t : LowState) (v w : List ℕ) → x ≡ val.Text v → y ≡ val.Text w → 1 + octets_in o x y ≤ more → more ≤ fuel → HoldsText u oa.cell.value oa.cell.length v → HoldsText u ob.cell.value ob.cell.length w →
        Kept m u t → SaysValue t null → m + 2 + length (texts_own o) ≤ length u.locals → Comes pages fuel more (λ z q. Kept m u q × HoldsTruth cell z q) (Ok (compared o x (scale_of a) y (scale_of b))) f t
    both pages fuel more x y u t v w is_x is_y enough within held_v held_w kept says room =
        let g : Bool = answers_texts o v w in
        let low_a = below_more (next + length owna) m oa.cell (omega arith) ca.below in
        let low_null = null_low pages fuel more (omega (arith, enough)) u m oa ob low_a cb.below (omega (arith, room)) skip in
        let octets : octets_in o x y ≡ octets_for o v w = ap₂ (octets_in o) is_x is_y in
        subst (λ (r : Truth). Comes pages fuel more (λ z q. Kept m u q × HoldsTruth cell z q) (Ok r) f t) (sym (compared_texts o x y (scale_of a) (scale_of b) v w is_x is_y))
        (Ends-weaker (size f * more) (size f * more) (λ q. Kept (m + 1) t q × (slice_get q.locals (m + 1) ≡ Some (Number (truth g)))) (λ q. Kept m u q × HoldsTruth cell (truth_if g) q) (λ q. ⊥) (λ q. ⊥) (λ code. ⊥) (λ code. ⊥) (meaning pages fuel f t) (omega arith)
        (λ q left. (Kept-then m (m + 1) u t q (omega arith) kept left.0, truth_held cell g q left.1 (value_says (m + 1) t q null left.0 low_null says))) (λ q h. h) (λ code h. h)
        (tests.runs pages fuel more t v w (omega (arith, enough, octets)) within (text_kept m u t oa.cell.value oa.cell.length v kept low_a.0 low_a.1 held_v) (text_kept m u t ob.cell.value ob.cell.length w kept cb.below.0 cb.below.1 held_w)
        (omega arith) (omega (arith, room, kept.many))))

    pub texts_decide : Decides known (comparison o a b) next cell (seq sa (seq sb (seq (join_block m oa.cell.null ob.cell.null) (zero_if_null null (m + 1) f)))) (owna ++ (ownb ++ (I32 ∷ I32 ∷ texts_own o)))
    texts_decide =
        comparison_decides known next low_known o a b oa ob sa sb owna ownb ca cb f (texts_own o)
        (λ pages fuel more row x y u t enough within columns is_x is_y one other nx ny kept says room.
        let v = text_in a row x oa u typed.0.0 ta columns.0 is_x one nx in
        let w = text_in b row y ob u typed.0.1 tb columns.1 is_y other ny in
        both pages fuel more x y u t v.0 w.0 v.1 w.1 enough within v.2 w.2 kept says room)
        (λ types da db word declares. tests.typed types (text_declared types oa a ca.kind_is ta da) (text_declared types ob b cb.kind_is tb db) word declares)

pub texts_emit : (known : List Known) (operator : Comparison) (a b : Expression) (start mid old new : Emitter) (left right : Operand) (out : Cell) → AreTyped (comparison operator a b) → kind_of a ≡ Some kind.Text → kind_of b ≡ Some kind.Text →
    AreBelow (free_of start) known → Emits known a start mid left → Emits known b mid old right → AddsTexts operator left.cell right.cell old new out → EmitsTruth known (comparison operator a b) start new out
texts_emit known operator a b start mid old new left right out typed ta tb low ea eb adds =
    pair_emits known (comparison operator a b) a b start mid old new left right out ea eb (λ k. seq (join_block k left.cell.null right.cell.null) (zero_if_null (joined_null k left.cell.null right.cell.null) (k + 1) adds.f)) (I32 ∷ I32 ∷ texts_own operator)
    (λ k. record { value = k + 1; length = k + 1; null = joined_null k left.cell.null right.cell.null }) adds.first_is adds.own_is adds.code_is adds.out_is
    (λ cb at. texts_decide known (free_of start) low operator a b left right ea.statement eb.statement adds.f ea.own eb.own typed ta tb ea.computes cb (subst (λ k. TestsTexts operator left.cell right.cell (k + 2) (k + 1) adds.f) at adds.tests))

-- what the code of a comparison does to an emitter
pub text_adds : (operator : Comparison) (left right : Cell) (old made new : Emitter) (out : Cell) (to : TextLocals) (c2 c3 c4 : List LowStep) (null : Option ℕ) (f : Statement) → TakesTexts operator old made to → new.first ≡ made.first → new.own.items ≡ made.own.items →
    null ≡ joined_null to.null left.null right.null → c2 ≡ made.block.code.items ++ steps_of (join_block to.null left.null right.null) → c3 ≡ c2 ++ before_zero null to.truth → c4 ≡ c3 ++ steps_of f → new.block.code.items ≡ c4 ++ after_unless null →
    TestsTexts operator left right to.free to.truth f → out ≡ record { value = to.truth; length = to.truth; null = null } → AddsTexts operator left right old new out
text_adds operator left right old made new out to c2 c3 c4 null f takes same own null_is code2 code3 code4 code5 tests out_is =
    let m : ℕ = free_of old in
    let J : ℕ → Option ℕ = λ k. joined_null k left.null right.null in
    let all : new.block.code.items ≡ made.block.code.items ++ (steps_of (join_block to.null left.null right.null) ++ (before_zero null to.truth ++ (steps_of f ++ after_unless null))) =
    four made.block.code.items c2 c3 c4 new.block.code.items (steps_of (join_block to.null left.null right.null)) (before_zero null to.truth) (steps_of f) (after_unless null) code2 code3 code4 code5 in
    let whole : new.block.code.items ≡ old.block.code.items ++ steps_of (seq (join_block to.null left.null right.null) (zero_if_null null to.truth f)) =
    all ∙ ap (λ c. made.block.code.items ++ (steps_of (join_block to.null left.null right.null) ++ c)) (zero_steps null to.truth f) ∙ ap (λ c. c ++ steps_of (seq (join_block to.null left.null right.null) (zero_if_null null to.truth f))) takes.code_is in
    let at_null = subst (λ (k : Option ℕ). new.block.code.items ≡ old.block.code.items ++ steps_of (seq (join_block to.null left.null right.null) (zero_if_null k to.truth f))) null_is whole in
    let at_p = subst (λ k. new.block.code.items ≡ old.block.code.items ++ steps_of (seq (join_block k left.null right.null) (zero_if_null (J k) to.truth f))) takes.null_is at_null in
    record {
      first_is = same ∙ takes.first_is;
      own_is = own ∙ takes.own_is;
      f = f;
      code_is = subst (λ k. new.block.code.items ≡ old.block.code.items ++ steps_of (seq (join_block m left.null right.null) (zero_if_null (J m) k f))) takes.truth_is at_p;
      tests = subst (λ k. TestsTexts operator left right (m + 2) k f) takes.truth_is (subst (λ k. TestsTexts operator left right k to.truth f) takes.free_is tests);
      out_is = out_is ∙ ap (λ k. let c : Cell = record { value = k; length = k; null = null } in c) takes.truth_is ∙ ap (λ (k : Option ℕ). let c : Cell = record { value = m + 1; length = m + 1; null = k } in c) (null_is ∙ ap J takes.null_is);
    }
