-- The columns that entries keep, of a row that goes on alone: they are null, and their locals say so.
use Rattle.std.proofs.Common.{◌≡◌, ℕ, ◌+◌, ◌*◌, ◌≤◌, if◌then◌else◌, not, Bool, true, false, Some, None, List, [], ◌∷◌, length, length-set, map, slice_get, slice_set, Result, Ok, refl, sym, ap, ◌∙◌, subst, arith}
use Rattle.std.specs.List.{AllByRecursion}
use Rattle.qw_types.specs.declared.code.Code.{Code}
use Rattle.qw_types.specs.declared.value.Val.{Val}
use Rattle.qw_types.specs.declared.value.Val.TheVariants as val
use Rattle.qw_map.proofs.TurnFacts.{slice_get-set_same}
use Rattle.qw_low.specs.Syntax.{assign}
use Rattle.qw_low.specs.State.{Number, Cells, LowState}
use Rattle.qw_low.specs.Meaning.{meaning}
use Rattle.qw_low.specs.Promise.{Ends}
use Rattle.qw_low.specs.Size.{size}
use Rattle.qw_low.specs.Raising.{Kept}
use Rattle.qw_low.specs.Held.{SaysNull}
use Rattle.qw_low.proofs.LessKnown.{seen}
use Rattle.qw_low.proofs.Promises.{Ends-then, Ends-weaker, assign_ends}
use Rattle.qw_low.proofs.Results.{Kept-one, Kept-same, Kept-then}
use Rattle.qw_expr.specs.Computes.{AreHeld}
use Rattle.qw_feed.specs.Room.{i32}
use Rattle.qw_feed.proofs.Frames.{Never}
use Rattle.qw_physical.specs.declared.pipeline.ReadColumn.{ReadColumn}
use Rattle.qw_operator.specs.Carries.{clear_block, known_entry}
use Rattle.qw_operator.specs.Takes.{AreSized, anywhere}
use Rattle.qw_leaves.proofs.Agreement.{value_at}
use Rattle.qw_operator.proofs.KnownLeaves.{AreFit}
use Rattle.qw_operator.proofs.PairRows.{AreAt, AreStored, kept_fit}

-- as many nulls as columns
nulls_of : List ReadColumn → List Val
nulls_of [] = []
nulls_of (c ∷ columns) = val.Null ∷ nulls_of columns

nulls_stored : (columns : List ReadColumn) → AllByRecursion (λ (d : ReadColumn). d.not_null ≡ false) columns → AreStored columns (nulls_of columns)
unfolding nulls_of
nulls_stored [] may = tt
nulls_stored (c ∷ columns) may = (may.0, nulls_stored columns may.1)

nulls_at : (row : List Val) (columns : List ReadColumn) → AllByRecursion (λ (d : ReadColumn). value_at row d.number ≡ val.Null) columns → AreAt row columns (nulls_of columns)
unfolding nulls_of
nulls_at row [] nulls = tt
nulls_at row (c ∷ columns) nulls = (nulls.0, nulls_at row columns nulls.1)

pub null_fit : (row : List Val) (columns : List ReadColumn) → AreSized columns → AllByRecursion (λ (d : ReadColumn). d.not_null ≡ false) columns → AllByRecursion (λ (d : ReadColumn). value_at row d.number ≡ val.Null) columns → AreFit row (map anywhere columns)
null_fit row columns sized may nulls = kept_fit row columns (nulls_of columns) sized (nulls_stored columns may) (nulls_at row columns nulls)

says_null : (free : ℕ) (b : Bool) (s : LowState) → b ≡ false → slice_get s.locals free ≡ Some (Number 1) → SaysNull s (if not b then Some free else None)
says_null free true s is there = absurd cc
says_null free false s is there = there

-- their null locals are set
module _ (c : Cells) (row : List Val) (most fuel : ℕ) where
  pub clear_ends : (columns : List ReadColumn) (free : ℕ) (t : LowState) → AllByRecursion (λ (d : ReadColumn). d.not_null ≡ false) columns → AllByRecursion (λ (d : ReadColumn). value_at row d.number ≡ val.Null) columns → free + 3 * length columns ≤ length t.locals →
      Ends (size (clear_block free columns)) (λ u. Kept free t u × AreHeld (known_entry free columns) row (seen c u)) Never (λ code. ⊥) (meaning most fuel (clear_block free columns) t)
  clear_ends [] free t may nulls room = (omega arith, (Kept-same free t, tt))
  clear_ends (d ∷ columns) free t may nulls room =
      let set : LowState = record t { locals = slice_set t.locals free (Number 1) } in
      let Post : LowState → Type 0 = λ u. Kept free t u × AreHeld (known_entry free (d ∷ columns)) row (seen c u) in
      let long = length-set t.locals free (Number 1) in
      let here : slice_get set.locals free ≡ Some (Number 1) = slice_get-set_same t.locals free (Number 1) (omega (arith, room)) in
      Ends-then Post Never (λ code. ⊥) 2 (size (clear_block (free + 3) columns)) (λ u. u ≡ set) (meaning most fuel (assign free (i32 1)) t) (meaning most fuel (clear_block (free + 3) columns))
      (assign_ends (λ u. u ≡ set) Never (λ code. ⊥) most fuel free (i32 1) (Number 1) t refl (omega (arith, room)) refl)
      (λ v v_is. subst (λ (w : LowState). Ends (size (clear_block (free + 3) columns)) Post Never (λ code. ⊥) (meaning most fuel (clear_block (free + 3) columns) w)) (sym v_is)
      (Ends-weaker (size (clear_block (free + 3) columns)) (size (clear_block (free + 3) columns)) (λ u. Kept (free + 3) set u × AreHeld (known_entry (free + 3) columns) row (seen c u)) Post Never Never (λ code. ⊥) (λ code. ⊥) (meaning most fuel (clear_block (free + 3) columns) set) (omega arith)
      (λ u done. (
        Kept-then free (free + 3) t set u (omega arith) (Kept-one t free (Number 1)) done.0,
        (
          (val.Null, ap (λ (x : Val). let r : Result Val Code = Ok x in r) nulls.0, (says_null free d.not_null (seen c u) may.0 (done.0.below free (omega arith) ∙ here), tt)),
          done.1,
        ),
      ))
      (λ u x. x) (λ code x. x)
      (clear_ends columns (free + 3) set may.1 nulls.1 (omega (arith, room, long)))))
