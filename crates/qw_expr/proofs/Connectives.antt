-- NOT, IS and IS NULL.
use Rattle.std.proofs.Common.{◌≡◌, ℕ, ◌+◌, ◌*◌, Bool, true, false, List, [], ◌∷◌, ◌++◌, length, Option, Some, None, Result, Ok, Err, slice_get, slice_set, refl, sym, ◌∙◌, subst, inl, inr, ◌⊎◌, arith}
use Rattle.qw_types.specs.Arithmetic.{◌>>=◌}
use Rattle.qw_types.specs.Truth.{negation}
use Rattle.qw_types.specs.declared.code.Code.{Code}
use Rattle.qw_types.specs.declared.truth.Truth.{Truth}
use Rattle.qw_types.specs.declared.truth.Truth.TheVariants.{True, False, Unknown}
use Rattle.qw_types.specs.declared.value.Val.{Val}
use Rattle.qw_scalar.specs.Columns.{HaveColumns, HoldsIn}
use Rattle.qw_scalar.specs.Evaluation.{Environment, same_truth, truth_if, truth_of, at_row}
use Rattle.qw_scalar.specs.Expression.{Condition, negation_of, is}
use Rattle.qw_map.proofs.TurnFacts.{slice_get-set_same}
use Rattle.qw_module.specs.declared.instruction.ValType.{ValType}
use Rattle.qw_module.specs.declared.instruction.ValType.TheVariants.{I32}
use Rattle.qw_module.specs.Numbers.{truth}
use Rattle.qw_low.specs.declared.cell.Cell.{Cell}
use Rattle.qw_low.specs.Typing as low
use Rattle.qw_low.specs.Syntax.{Statement, seq, assign}
use Rattle.qw_low.specs.State.{Number, LowState}
use Rattle.qw_low.specs.Meaning.{value, meaning}
use Rattle.qw_low.specs.Size.{size}
use Rattle.qw_low.proofs.Promises.{Ends-weaker}
use Rattle.qw_low.specs.Raising.{Kept}
use Rattle.qw_low.specs.Held.{SaysNull}
use Rattle.qw_low.proofs.Results.{Kept-set, Kept-one, Comes, comes_then, comes_assign}
use Rattle.qw_expr.specs.Cells.{HoldsTruth, IsBelowNull, DeclaresNull, DeclaresTruth}
use Rattle.qw_scalar.specs.Units.{units_of}
use Rattle.qw_expr.specs.Computes.{Known, Decides}
use Rattle.qw_expr.specs.Inner.Truths.{is_false}
use Rattle.qw_expr.proofs.Nulls.{value_says, null_below_more}
use Rattle.qw_expr.proofs.Binary.{one_long, first_declared, declares_first, declares_rest}
use Rattle.qw_expr.proofs.Junctions.{same_cell}

-- a cell of a truth that is never unknown
abbrev pub sure : ℕ → Cell
sure x = record { value = x; length = x; null = None }

sure_holds : (x : ℕ) (g : Bool) (s : LowState) → slice_get s.locals x ≡ Some (Number (truth g)) → HoldsTruth (sure x) (truth_if g) s
sure_holds x true s word = (word, tt)
sure_holds x false s word = (word, tt)

-- whether a truth is false, in a word
false_is : (v : ℕ) (n : Option ℕ) (t : Truth) (s : LowState) → HoldsTruth (record { value = v; length = v; null = n }) t s → value s (is_false v n) ≡ Some (Number (truth (same_truth t False)))
false_is v None True s holds = rw (holds.0) refl
false_is v None False s holds = rw (holds.0) refl
false_is v None Unknown s holds = absurd (holds.1)
false_is v (Some n) True s holds = rw (holds.0, holds.1) refl
false_is v (Some n) False s holds = rw (holds.0, holds.1) refl
false_is v (Some n) Unknown s holds = rw (holds.0, holds.1) refl

false_typed : (types : List ValType) (c : Cell) → DeclaresTruth types c → low.HasType types (is_false c.value c.null) I32
false_typed types c declared = by_null c.null declared.0 declared.1
  where
    by_null : (n : Option ℕ) → slice_get types c.value ≡ Some I32 → DeclaresNull types n → low.HasType types (is_false c.value n) I32
    by_null None one other = (one, refl)
    by_null (Some n) one other = ((one, other, refl), refl)

-- ---- a condition of one condition, in a new local
module _ (known : List Known) (next : ℕ) (c : Condition) (cell : Cell) (sc : Statement) (ownc : List ValType) (dc : Decides known c next cell sc ownc) where
  abbrev pub m : ℕ
  m = next + length ownc

  module _ (d : Condition) (g : Truth → Truth) (null : Option ℕ) (null_is : (null ≡ None) ⊎ (null ≡ cell.null)) (means : (env : Environment) → (truth_of d env ≡ (truth_of c env >>= (λ t. Ok (g t)))) × (units_of d env ≡ units_of c env))
      (columns : (row : List Val) → HaveColumns (HoldsIn row) d → HaveColumns (HoldsIn row) c)
      (leaves : (t : Truth) (u w : LowState) → HoldsTruth cell t u → Kept m u w → slice_get w.locals m ≡ Some (Number (truth (same_truth t False))) → HoldsTruth (record { value = m; length = m; null = null }) (g t) w) where
    pub negated_decides : Decides known d next (record { value = m; length = m; null = null }) (seq sc (assign m (is_false cell.value cell.null))) (ownc ++ I32 ∷ [])
    negated_decides = record {
      below =
          let long = one_long ownc I32 in
          (omega (arith, long), omega (arith, long), null_low null_is);
      runs = λ pages fuel more row s enough within held has room.
          let env : Environment = at_row row in
          let long = one_long ownc I32 in
          let same = means env in
          subst (λ (r : Result Truth Code). Comes pages fuel more (λ t w. Kept next s w × HoldsTruth (record { value = m; length = m; null = null }) t w) r (seq sc (assign m (is_false cell.value cell.null))) s) (sym same.0)
          (comes_then pages fuel more (λ t u. Kept next s u × HoldsTruth cell t u) (λ t w. Kept next s w × HoldsTruth (record { value = m; length = m; null = null }) t w) (truth_of c env) (λ t. Ok (g t)) sc (assign m (is_false cell.value cell.null)) s
          (dc.runs pages fuel more row s (omega (arith, enough, same.1)) within held (columns row has) (omega (arith, room, long)))
          (λ t u found left.
          let word : ℕ = truth (same_truth t False) in
          comes_assign pages fuel more (omega (arith, enough)) (λ v w. Kept next s w × HoldsTruth (record { value = m; length = m; null = null }) v w) (g t) m (is_false cell.value cell.null) (Number word) u
          (false_is cell.value cell.null t u (same_cell cell t u left.1)) (omega (arith, room, long, left.0.many)) (
            Kept-set next s u m (Number word) left.0 (omega arith),
            leaves t u (record u { locals = slice_set u.locals m (Number word) }) left.1 (Kept-one u m (Number word))
                (slice_get-set_same u.locals m (Number word) (omega (arith, room, long, left.0.many))),
          )));
      typed = λ types declared declares.
          let first = dc.typed types declared (declares_first types next ownc (I32 ∷ []) declares) in
          let free = first_declared types m I32 (declares_rest types next ownc (I32 ∷ []) declares) in
          ((first.0, (I32, free, false_typed types cell first.1)), (free, null_declared types null_is first.1.1));
    }
      where
        null_low : (null ≡ None) ⊎ (null ≡ cell.null) → IsBelowNull (next + length (ownc ++ I32 ∷ [])) null
        null_low (inl none) = subst (IsBelowNull (next + length (ownc ++ I32 ∷ []))) (sym none) tt
        null_low (inr same) =
            let long = one_long ownc I32 in
            subst (IsBelowNull (next + length (ownc ++ I32 ∷ []))) (sym same) (null_below_more m (next + length (ownc ++ I32 ∷ [])) cell.null (omega (arith, long)) dc.below.2)

        null_declared : (types : List ValType) → (null ≡ None) ⊎ (null ≡ cell.null) → DeclaresNull types cell.null → DeclaresNull types null
        null_declared types (inl none) declared = subst (DeclaresNull types) (sym none) tt
        null_declared types (inr same) declared = subst (DeclaresNull types) (sym same) declared

  -- NOT
  pub negation_decides : Decides known (negation_of c) next (record { value = m; length = m; null = cell.null }) (seq sc (assign m (is_false cell.value cell.null))) (ownc ++ I32 ∷ [])
  negation_decides = negated_decides (negation_of c) negation cell.null (inr refl) (λ env. (refl, refl)) (λ row has. has) leaves
    where
      says_null : (n : Option ℕ) (u w : LowState) → Kept m u w → IsBelowNull m n → SaysNull u n → SaysNull w n
      says_null None u w kept low says = says
      says_null (Some x) u w kept low says = kept.below x low ∙ says

      leaves : (t : Truth) (u w : LowState) → HoldsTruth cell t u → Kept m u w → slice_get w.locals m ≡ Some (Number (truth (same_truth t False))) → HoldsTruth (record { value = m; length = m; null = cell.null }) (negation t) w
      leaves True u w holds kept word = (word, value_says m u w cell.null kept dc.below.2 holds.1)
      leaves False u w holds kept word = (word, value_says m u w cell.null kept dc.below.2 holds.1)
      leaves Unknown u w holds kept word = (word, says_null cell.null u w kept dc.below.2 holds.1)

  -- IS FALSE
  pub is_false_decides : Decides known (is c False) next (sure m) (seq sc (assign m (is_false cell.value cell.null))) (ownc ++ I32 ∷ [])
  is_false_decides = negated_decides (is c False) (λ t. truth_if (same_truth t False)) None (inl refl) (λ env. (refl, refl)) (λ row has. has) (λ t u w holds kept word. sure_holds m (same_truth t False) w word)

  -- IS TRUE: the truth's own word
  pub is_true_decides : Decides known (is c True) next (sure cell.value) sc ownc
  is_true_decides = record {
    below = (dc.below.0, dc.below.0, tt);
    runs = λ pages fuel more row s enough within held has room.
        let env : Environment = at_row row in
        true_comes pages fuel more (truth_of c env) s (dc.runs pages fuel more row s enough within held has room);
    typed = λ types declared declares. let done = dc.typed types declared declares in (done.0, (done.1.0, tt));
  }
    where
      leaves : (t : Truth) (u : LowState) → HoldsTruth cell t u → HoldsTruth (sure cell.value) (truth_if (same_truth t True)) u
      leaves True u holds = (holds.0, tt)
      leaves False u holds = (holds.0, tt)
      leaves Unknown u holds = (holds.0, tt)

      true_comes : (pages fuel more : ℕ) (r : Result Truth Code) (s : LowState) → Comes pages fuel more (λ t u. Kept next s u × HoldsTruth cell t u) r sc s →
          Comes pages fuel more (λ t u. Kept next s u × HoldsTruth (sure cell.value) t u) (r >>= (λ t. Ok (truth_if (same_truth t True)))) sc s
      true_comes pages fuel more (Ok t) s h = comes_changed pages fuel more t (truth_if (same_truth t True)) s (λ u holds. leaves t u holds) h
        where
          comes_changed : (pages fuel more : ℕ) (t v : Truth) (s : LowState) → ((u : LowState) → HoldsTruth cell t u → HoldsTruth (sure cell.value) v u) → Comes pages fuel more (λ t u. Kept next s u × HoldsTruth cell t u) (Ok t) sc s →
              Comes pages fuel more (λ t u. Kept next s u × HoldsTruth (sure cell.value) t u) (Ok v) sc s
          comes_changed pages fuel more t v s change h =
              Ends-weaker (size sc * more) (size sc * more) (λ u. Kept next s u × HoldsTruth cell t u) (λ u. Kept next s u × HoldsTruth (sure cell.value) v u) (λ u. ⊥) (λ u. ⊥) (λ code. ⊥) (λ code. ⊥) (meaning pages fuel sc s) (omega arith)
              (λ u left. (left.0, change u left.1)) (λ u x. x) (λ code x. x) h
      true_comes pages fuel more (Err code) s h = h
