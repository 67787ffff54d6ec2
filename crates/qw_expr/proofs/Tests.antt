-- Conditions that are emitted as tests.
use Rattle.std.proofs.Common.{◌≡◌, ℕ, ◌+◌, ◌*◌, ◌≤◌, true, List, ◌++◌, length, length-append, Some, None, Result, Ok, Err, refl, sym, ap, ◌∙◌, subst, arith}
use Rattle.qw_types.specs.Arithmetic.{◌>>=◌}
use Rattle.qw_types.specs.Truth.{negation}
use Rattle.qw_types.specs.declared.code.Code.{Code}
use Rattle.qw_types.specs.declared.truth.Truth.{Truth}
use Rattle.qw_types.specs.declared.truth.Truth.TheVariants.{True, False, Unknown}
use Rattle.qw_types.specs.declared.value.Val.{Val}
use Rattle.qw_scalar.specs.declared.comparison.Comparison.{Comparison}
use Rattle.qw_scalar.specs.Columns.{HaveColumns, HoldsIn}
use Rattle.qw_scalar.specs.Evaluation.{Environment, compared, truth_of, value_of, at_row}
use Rattle.qw_scalar.specs.Expression.{Expression, Condition, comparison, negation_of, scale_of}
use Rattle.qw_scalar.specs.Typing.{AreTyped, IsTyped}
use Rattle.qw_module.specs.declared.instruction.ValType.{ValType}
use Rattle.qw_module.specs.declared.instruction.ValType.TheVariants.{I32, I64}
use Rattle.qw_low.specs.declared.cell.Cell.{Cell}
use Rattle.qw_low.specs.Syntax.{Statement, local, is_zero, relop, seq}
use Rattle.qw_low.specs.State.{Number, LowState}
use Rattle.qw_low.specs.Meaning.{value, meaning}
use Rattle.qw_low.specs.Size.{size}
use Rattle.qw_low.specs.Steps.{steps_of}
use Rattle.qw_low.specs.Raising.{Kept}
use Rattle.qw_low.specs.Held.{SaysNull}
use Rattle.qw_low.proofs.Appended.{two}
use Rattle.qw_low.proofs.Promises.{Ends-weaker}
use Rattle.qw_low.proofs.Results.{Kept-then, Comes, comes_weaker, comes_then}
use Rattle.qw_wide.specs.Relations.{relation_of}
use Rattle.qw_expr.specs.declared.emitter.Emitter.{Emitter}
use Rattle.qw_expr.specs.declared.operand.Operand.{Operand}
use Rattle.qw_expr.specs.declared.test.Test.{Test}
use Rattle.qw_expr.specs.declared.test.Test.TheVariants as test
use Rattle.qw_expr.specs.Bindings.{IsServed}
use Rattle.qw_expr.specs.Cells.{Holds, HoldsTruth, IsBelow}
use Rattle.qw_expr.specs.Computes.{Known, AreBelow, Computes}
use Rattle.qw_expr.specs.Emits.{Emits, EmitsTruth, free_of}
use Rattle.qw_expr.specs.Tests.{DecidesTest, EmitsTest, truth_word}
use Rattle.qw_expr.specs.Inner.Tests.{is_one_relation}
use Rattle.qw_expr.proofs.Binary.{declares_first, declares_rest}
use Rattle.qw_expr.proofs.Emitted.{free_after}
use Rattle.qw_expr.proofs.Nulls.{known_kept, value_kept}
use Rattle.qw_expr.proofs.Related.{Relates, relates}
use Rattle.qw_expr.proofs.Trees.{scale_low, served_more}

-- what is made of a value that a block leaves
pub comes_made : {A B : Type 0} (pages fuel more : ℕ) (P : A → LowState → Type 0) (Q : B → LowState → Type 0) (r : Result A Code) (g : A → B) (a : Statement) (s : LowState) → ((v : A) (u : LowState) → r ≡ Ok v → P v u → Q (g v) u) → Comes pages fuel more P r a s →
    Comes pages fuel more Q (r >>= (λ v. Ok (g v))) a s
comes_made pages fuel more P Q (Ok v) g a s change h =
    Ends-weaker (size a * more) (size a * more) (P v) (Q (g v)) (λ u. ⊥) (λ u. ⊥) (λ code. ⊥) (λ code. ⊥) (meaning pages fuel a s) (omega arith) (λ u p. change v u refl p) (λ u x. x) (λ code x. x) h
comes_made pages fuel more P Q (Err code) g a s change h = h

-- ---- a truth that locals hold
told : (c : Cell) (v : Truth) (t : LowState) → HoldsTruth c v t → value t (local c.value) ≡ Some (Number (truth_word v))
told c True t h = h.0
told c False t h = h.0
told c Unknown t h = h.0

turned : (c : Cell) (v : Truth) (t : LowState) → c.null ≡ None → HoldsTruth c v t → value t (is_zero I32 (local c.value)) ≡ Some (Number (truth_word (negation v)))
turned c True t none h = rw (h.0) refl
turned c False t none h = rw (h.0) refl
turned c Unknown t none h = absurd (subst (SaysNull t) none h.1)

-- a test of what a block leaves
same_block : (known : List Known) (c d : Condition) (old new : Emitter) (cell : Cell) (out : Test) (ec : EmitsTruth known c old new cell) → DecidesTest known d (free_of old) out ec.statement ec.own → EmitsTest known d old new out
same_block known c d old new cell out ec decides = record { first_is = ec.first_is; statement = ec.statement; own = ec.own; code_is = ec.code_is; own_is = ec.own_is; decides = decides }

pub truth_tests : (known : List Known) (c : Condition) (old new : Emitter) (cell : Cell) → EmitsTruth known c old new cell → EmitsTest known c old new (test.Local cell.value)
truth_tests known c old new cell ec =
    same_block known c c old new cell (test.Local cell.value) ec (record {
      below = ec.decides.below.0;
      runs = λ pages fuel more row s enough within held has room.
          comes_weaker pages fuel more (λ v t. Kept (free_of old) s t × HoldsTruth cell v t) (λ v t. Kept (free_of old) s t × (value t (local cell.value) ≡ Some (Number (truth_word v)))) (truth_of c (at_row row)) ec.statement s
          (λ v t is left. (left.0, told cell v t left.1)) (ec.decides.runs pages fuel more row s enough within held has room);
      typed = λ types declared declares.
          let done = ec.decides.typed types declared declares in
          (done.0, done.1.0);
    })

pub zero_tests : (known : List Known) (c : Condition) (old new : Emitter) (cell : Cell) → cell.null ≡ None → EmitsTruth known c old new cell → EmitsTest known (negation_of c) old new (test.Zero cell.value)
zero_tests known c old new cell none ec =
    same_block known c (negation_of c) old new cell (test.Zero cell.value) ec (record {
      below = ec.decides.below.0;
      runs = λ pages fuel more row s enough within held has room.
          comes_made pages fuel more (λ v t. Kept (free_of old) s t × HoldsTruth cell v t) (λ v t. Kept (free_of old) s t × (value t (is_zero I32 (local cell.value)) ≡ Some (Number (truth_word v)))) (truth_of c (at_row row)) negation ec.statement s
          (λ v t is left. (left.0, turned cell v t none left.1)) (ec.decides.runs pages fuel more row s enough within held has room);
      typed = λ types declared declares.
          let done = ec.decides.typed types declared declares in
          (done.0, (done.1.0, refl));
    })

-- ---- one relation of two values
module _ (known : List Known) (next : ℕ) (low_known : AreBelow next known) (o : Comparison) (a b : Expression) (oa ob : Operand) (sa sb : Statement) (owna ownb : List ValType)
    (ca : Computes known a next oa sa owna) (cb : Computes known b (next + length owna) ob sb ownb) (related : Relates o a b oa ob) where
  long : length (owna ++ ownb) ≡ length owna + length ownb
  long = length-append owna ownb

  word_is : (row : List Val) (x y : Val) (u : LowState) → HaveColumns (HoldsIn row) (comparison o a b) → value_of a (at_row row) ≡ Ok x → value_of b (at_row row) ≡ Ok y → Holds oa x u → Holds ob y u →
      value u (relop I64 (relation_of o) (local oa.cell.value) (local ob.cell.value)) ≡ Some (Number (truth_word (compared o x (scale_of a) y (scale_of b))))
  word_is row x y u columns is_x is_y one other =
      let told = related.tells row x y u columns is_x is_y one other in
      told.2 ∙ ap (λ (v : Truth). Some (Number (truth_word v))) (sym told.1)

  related_decides : DecidesTest known (comparison o a b) next (test.Related (relation_of o) oa.cell.value ob.cell.value) (seq sa sb) (owna ++ ownb)
  related_decides = record {
    below = (omega (arith, ca.below.0, long), omega (arith, cb.below.0, long));
    runs = λ pages fuel more row s enough within held columns room.
        let env : Environment = at_row row in
        let Q : Truth → LowState → Type 0 = λ v t. Kept next s t × (value t (relop I64 (relation_of o) (local oa.cell.value) (local ob.cell.value)) ≡ Some (Number (truth_word v))) in
        comes_then pages fuel more (λ v t. Kept next s t × Holds oa v t) Q (value_of a env) (λ x. value_of b env >>= (λ y. Ok (compared o x (scale_of a) y (scale_of b)))) sa sb s
        (ca.runs pages fuel more row s (omega (arith, enough)) within held columns.0 (omega (arith, room, long)))
        (λ x t is_x left.
        comes_made pages fuel more (λ v w. Kept (next + length owna) t w × Holds ob v w) Q (value_of b env) (λ y. compared o x (scale_of a) y (scale_of b)) sb t
        (λ y w is_y right. (
          Kept-then next (next + length owna) s t w (omega arith) left.0 right.0,
          word_is row x y w columns is_x is_y (value_kept (next + length owna) t w oa.cell x right.0 ca.below left.1.0, left.1.1) right.1,
        ))
        (cb.runs pages fuel more row t (omega (arith, enough)) within (known_kept next s t row known left.0 low_known held) columns.1 (omega (arith, room, long, left.0.many))));
    typed = λ types declared declares.
        let first = ca.typed types declared (declares_first types next owna ownb declares) in
        let second = cb.typed types declared (declares_rest types next owna ownb declares) in
        ((first.0, second.0), (related.left_typed types first.1, related.right_typed types second.1, refl));
  }

-- two expressions that were emitted one after the other
pub relation_tests : (known : List Known) (o : Comparison) (a b : Expression) (start mid now : Emitter) (left right : Operand) → AreTyped (comparison o a b) → AreBelow (free_of start) known → is_one_relation left right ≡ true → Emits known a start mid left →
    Emits known b mid now right → EmitsTest known (comparison o a b) start now (test.Related (relation_of o) left.cell.value right.cell.value)
relation_tests known o a b start mid now left right typed low one ea eb = record {
  first_is = eb.first_is ∙ ea.first_is;
  statement = seq ea.statement eb.statement;
  own = ea.own ++ eb.own;
  code_is = two start.block.code.items mid.block.code.items now.block.code.items (steps_of ea.statement) (steps_of eb.statement) ea.code_is eb.code_is;
  own_is = two start.own.items mid.own.items now.own.items ea.own eb.own ea.own_is eb.own_is;
  decides = related_decides known (free_of start) low o a b left right ea.statement eb.statement ea.own eb.own ea.computes (subst (λ k. Computes known b k right eb.statement eb.own) (free_after known a start mid left ea) eb.computes)
      (relates o a b left right typed one ea.computes.kind_is eb.computes.kind_is ea.computes.scale_is eb.computes.scale_is);
}

-- ---- what was emitted, for what comes after it
pub served_after : (known : List Known) (e : Expression) (old new : Emitter) (out : Operand) → Emits known e old new out → IsServed (free_of old) known → IsServed (free_of new) known
served_after known e old new out ee served =
    let at = free_after known e old new out ee in
    served_more (free_of old) (free_of new) known (omega (arith, at)) served

pub emitted_below : (known : List Known) (e : Expression) (old new : Emitter) (out : Operand) → Emits known e old new out → IsBelow (free_of new) out.cell
emitted_below known e old new out ee = subst (λ k. IsBelow k out.cell) (sym (free_after known e old new out ee)) ee.computes.below

pub emitted_scale : (known : List Known) (e : Expression) (old new : Emitter) (out : Operand) → IsTyped e → Emits known e old new out → out.scale ≤ 18
emitted_scale known e old new out typed ee = subst (λ k. k ≤ 18) (sym ee.computes.scale_is) (scale_low e typed)
