-- Searches as tests of conditions.
use Rattle.std.proofs.Common.{◌≡◌, ℕ, ◌+◌, ◌*◌, List, [], ◌∷◌, ◌++◌, length, length-append, Some, Result, slice_get, slice_set, sym, ap, ◌∙◌, subst, arith}
use Rattle.qw_types.specs.declared.code.Code.{Code}
use Rattle.qw_types.specs.declared.truth.Truth.{Truth}
use Rattle.qw_module.specs.declared.instruction.ValType.TheVariants.{I32}
use Rattle.qw_module.specs.Numbers.{truth}
use Rattle.qw_scalar.specs.Columns.{HaveColumns, HoldsIn}
use Rattle.qw_scalar.specs.Evaluation.{truth_if, truth_of}
use Rattle.qw_scalar.specs.Expression.{Expression, Condition}
use Rattle.qw_scalar.specs.Units.{units_of}
use Rattle.qw_low.specs.Syntax.{local, seq}
use Rattle.qw_low.specs.State.{Number, LowState}
use Rattle.qw_low.specs.Meaning.{value, meaning}
use Rattle.qw_low.specs.Raising.{Kept}
use Rattle.qw_low.specs.Size.{size}
use Rattle.qw_low.specs.Steps.{steps_of}
use Rattle.qw_low.proofs.Appended.{two}
use Rattle.qw_low.proofs.Promises.{Ends-weaker}
use Rattle.qw_low.proofs.Results.{Kept-one, Comes}
use Rattle.qw_map.proofs.TurnFacts.{slice_get-set_same}
use Rattle.qw_expr.specs.declared.emitter.Emitter.{Emitter}
use Rattle.qw_expr.specs.declared.operand.Operand.{Operand}
use Rattle.qw_expr.specs.declared.search.Sought.{Sought}
use Rattle.qw_expr.specs.declared.test.Test.TheVariants as test
use Rattle.qw_expr.specs.Bindings.{IsServed}
use Rattle.qw_expr.specs.Computes.{Known}
use Rattle.qw_expr.specs.Emits.{Emits, free_of}
use Rattle.qw_expr.specs.Tests.{EmitsTest, truth_word}
use Rattle.qw_expr.specs.Inner.Made.{with_operand}
use Rattle.qw_expr.specs.Inner.Search.{EmitsSearch, MadeSought, is_one}
use Rattle.qw_expr.proofs.Abbreviations.{First}
use Rattle.qw_expr.proofs.Binary.{declares_first, declares_rest, first_declared}
use Rattle.qw_expr.proofs.Emitted.{free_after}
use Rattle.qw_expr.proofs.PlainTests.{operand_served}
use Rattle.qw_expr.proofs.Related.{word_if}
use Rattle.qw_expr.proofs.Shared.{both_run}

-- behind the operand, a search among literals that are known
pub search_tests : (known : List Known) (x : Expression) (ox : Operand) (c : Condition) (start mid new : Emitter) (sought : List Sought) (out : ℕ) → IsServed (free_of start) known → Emits known x start mid ox → MadeSought (with_operand x ox known) c ox sought →
    EmitsSearch ox.cell.value sought mid new out → First x c → EmitsTest known c start new (test.Local out)
search_tests known x ox c start mid new sought out served ex made es first =
    let next : ℕ = free_of start in
    let found = made (free_of mid) (operand_served known x ox start mid served ex) in
    let is_out : out ≡ next + length ex.own = es.out_is ∙ free_after known x start mid ox ex in
    let long = length-append ex.own (I32 ∷ []) in
    record {
      first_is = es.first_is ∙ ex.first_is;
      statement = seq ex.statement es.statement;
      own = ex.own ++ I32 ∷ [];
      code_is = two start.block.code.items mid.block.code.items new.block.code.items (steps_of ex.statement) (steps_of es.statement) ex.code_is es.code_is;
      own_is = two start.own.items mid.own.items new.own.items ex.own (I32 ∷ []) ex.own_is es.own_is;
      decides = record {
        below = omega (arith, is_out, long);
        runs = both_run known next served.0 x ox ex.statement ex.own ex.computes (λ v t. value t (local out) ≡ Some (Number (truth_word v))) (truth_of c) (units_of c) first.raises first.weighs (I32 ∷ []) es.statement (λ row. HaveColumns (HoldsIn row) c) first.columns
            (λ pages fuel more row s enough within held has room.
            let Q : Truth → LowState → Type 0 = λ v t. Kept (next + length ex.own) s t × (value t (local out) ≡ Some (Number (truth_word v))) in
            let told = found.tells row s held has in
            let word : ℕ = truth (is_one told.0 sought) in
            let done : LowState = record s { locals = slice_set s.locals out (Number word) } in
            let put : slice_get done.locals out ≡ Some (Number word) = slice_get-set_same s.locals out (Number word) (omega (arith, room, is_out)) in
            let left : Q (truth_if (is_one told.0 sought)) done =
            (subst (λ (n : ℕ). Kept n s done) is_out (Kept-one s out (Number word)), put ∙ ap (λ (n : ℕ). Some (Number n)) (word_if (is_one told.0 sought))) in
            subst (λ (r : Result Truth Code). Comes pages fuel more Q r es.statement s) (sym told.3)
            (Ends-weaker (size es.statement * more) (size es.statement * more) (λ t. t ≡ done) (Q (truth_if (is_one told.0 sought))) (λ t. ⊥) (λ t. ⊥) (λ code. ⊥) (λ code. ⊥) (meaning pages fuel es.statement s) (omega arith)
            (λ t is. subst (Q (truth_if (is_one told.0 sought))) (sym is) left) (λ t stops. stops) (λ code raises. raises)
            (es.searches.runs pages fuel more told.0 s (omega (arith, enough)) told.1 told.2 (omega (arith, room, is_out)))));
        typed = λ types declared declares.
            let one = ex.computes.typed types declared (declares_first types next ex.own (I32 ∷ []) declares) in
            let last = first_declared types (next + length ex.own) I32 (declares_rest types next ex.own (I32 ∷ []) declares) in
            let word = subst (λ (n : ℕ). slice_get types n ≡ Some I32) (sym is_out) last in
            let sorted = found.typed types (one.1, declared) in
            ((one.0, es.searches.typed types sorted.0 word sorted.1), word);
      };
    }
