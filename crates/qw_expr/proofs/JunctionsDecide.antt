-- The blocks of AND and OR decide.
use Rattle.std.proofs.Common.{◌≡◌, ℕ, ◌+◌, ◌<◌, ◌≤◌, max, true, false, not, List, [], ◌∷◌, ◌++◌, length, length-append, Option, Some, None, Result, Ok, slice_get, refl, sym, subst, inl, inr, ◌⊎◌, arith}
use Rattle.qw_types.specs.Arithmetic.{◌>>=◌}
use Rattle.qw_types.specs.Truth.{conjunction, disjunction}
use Rattle.qw_types.specs.declared.code.Code.{Code}
use Rattle.qw_types.specs.declared.truth.Truth.{Truth}
use Rattle.qw_types.specs.declared.truth.Truth.TheVariants.{True, False, Unknown}
use Rattle.qw_types.specs.declared.value.Val.{Val}
use Rattle.qw_scalar.specs.Columns.{HaveColumns, HoldsIn}
use Rattle.qw_scalar.specs.Evaluation.{Environment, and_then, or_else, same_truth, truth_of, at_row}
use Rattle.qw_scalar.specs.Expression.{Condition, both, either}
use Rattle.qw_module.specs.declared.instruction.ValType.{ValType}
use Rattle.qw_module.specs.declared.instruction.ValType.TheVariants.{I32}
use Rattle.qw_module.specs.declared.instruction.Binary.TheVariants.{And, Or}
use Rattle.qw_low.specs.declared.cell.Cell.{Cell}
use Rattle.qw_low.specs.Typing as low
use Rattle.qw_low.specs.Syntax.{Expression, local, binop, is_zero, Statement, seq}
use Rattle.qw_low.specs.State.{LowState}
use Rattle.qw_low.specs.Raising.{Kept}
use Rattle.qw_low.proofs.Results.{Kept-same, Kept-then, Comes, comes_weaker, comes_then, comes_choose}
use Rattle.qw_expr.specs.Cells.{HoldsTruth, IsBelow, IsBelowNull, DeclaresNull, Declares}
use Rattle.qw_scalar.specs.Units.{units_of}
use Rattle.qw_expr.specs.Computes.{Known, AreHeld, AreBelow, Decides}
use Rattle.qw_expr.specs.Inner.Truths.{i32, may_hold, unknown_word, junction_null, set_truth, and_block, or_block}
use Rattle.qw_expr.proofs.Nulls.{truth_kept, known_kept, below_more}
use Rattle.qw_expr.proofs.Binary.{declares_first, declares_rest}
use Rattle.qw_expr.proofs.Junctions.{true_word, may_is, not_is, same_cell, null_cases, sets_and, sets_or, sets_false, sets_true}

two_long : (a b : List ValType) → length (a ++ (b ++ (I32 ∷ I32 ∷ []))) ≡ length a + length b + 2
two_long a b = omega (arith, length-append a (b ++ (I32 ∷ I32 ∷ [])), length-append b (I32 ∷ I32 ∷ []))

second : (types : List ValType) (n : ℕ) → Declares types n (I32 ∷ I32 ∷ []) → (slice_get types n ≡ Some I32) × (slice_get types (n + 1) ≡ Some I32)
second types n declares =
    let zeroth : n + 0 ≡ n = omega arith in
    (subst (λ k. slice_get types k ≡ Some I32) zeroth (declares 0 I32 refl), declares 1 I32 refl)

may_typed : (types : List ValType) (v : ℕ) (n : Option ℕ) → slice_get types v ≡ Some I32 → DeclaresNull types n → low.HasType types (may_hold v n) I32
may_typed types v None one other = one
may_typed types v (Some n) one other = (one, other, refl)

pub unknown_typed : (types : List ValType) (n : Option ℕ) → DeclaresNull types n → low.HasType types (unknown_word n) I32
unknown_typed types None other = (omega arith, refl)
unknown_typed types (Some n) other = other

set_typed : (types : List ValType) (m : ℕ) (null : Option ℕ) (e f : Expression) → (null ≡ None) ⊎ (null ≡ Some (m + 1)) → slice_get types m ≡ Some I32 → slice_get types (m + 1) ≡ Some I32 → low.HasType types e I32 → low.HasType types f I32 →
    low.IsTyped types (set_truth null m e f) × DeclaresNull types null
set_typed types m null e f (inl none) one other te tf = rw none ((I32, one, te), tt)
set_typed types m null e f (inr there) one other te tf = rw there (((I32, one, te), (I32, other, tf)), other)

-- a truth that isn't false, or isn't true
not_false : (x : Truth) → not (same_truth x False) ≡ true → same_truth x False ≡ false
not_false True h = refl
not_false False h = absurd cc
not_false Unknown h = refl

is_false_is : (x : Truth) → not (same_truth x False) ≡ false → x ≡ False
is_false_is True h = absurd cc
is_false_is False h = refl
is_false_is Unknown h = absurd cc

not_true : (x : Truth) → not (same_truth x True) ≡ true → same_truth x True ≡ false
not_true True h = absurd cc
not_true False h = refl
not_true Unknown h = refl

is_true_is : (x : Truth) → not (same_truth x True) ≡ false → x ≡ True
is_true_is True h = refl
is_true_is False h = absurd cc
is_true_is Unknown h = absurd cc

and_goes_on : (x : Truth) (r : Result Truth Code) → same_truth x False ≡ false → and_then x r ≡ (r >>= (λ y. Ok (conjunction x y)))
and_goes_on True r h = refl
and_goes_on False r h = absurd cc
and_goes_on Unknown r h = refl

or_goes_on : (x : Truth) (r : Result Truth Code) → same_truth x True ≡ false → or_else x r ≡ (r >>= (λ y. Ok (disjunction x y)))
or_goes_on True r h = absurd cc
or_goes_on False r h = refl
or_goes_on Unknown r h = refl

module _ (known : List Known) (next : ℕ) (low_known : AreBelow next known) (c d : Condition) (cc' cd : Cell) (sc sd : Statement) (ownc ownd : List ValType)
    (dc : Decides known c next cc' sc ownc) (dd : Decides known d (next + length ownc) cd sd ownd) where
  abbrev pub m : ℕ
  m = next + length ownc + length ownd

  abbrev null : Option ℕ
  null = junction_null (m + 1) cc'.null cd.null

  abbrev pub cell : Cell
  cell = record { value = m; length = m; null = null }

  abbrev own : List ValType
  own = ownc ++ (ownd ++ (I32 ∷ I32 ∷ []))

  low_c : IsBelow m cc'
  low_c = below_more (next + length ownc) m cc' (omega arith) dc.below

  cell_below : IsBelow (next + length own) cell
  cell_below =
      let long = two_long ownc ownd in
      (omega (arith, long), omega (arith, long), by_case (null_cases m cc'.null cd.null))
    where
      by_case : (null ≡ None) ⊎ (null ≡ Some (m + 1)) → IsBelowNull (next + length own) null
      by_case (inl none) = subst (IsBelowNull (next + length own)) (sym none) tt
      by_case (inr there) =
          let long = two_long ownc ownd in
          subst (IsBelowNull (next + length own)) (sym there) (omega (arith, long))

  module _ (pages fuel more : ℕ) (row : List Val) (s : LowState) (enough : 1 + max (units_of c (at_row row)) (units_of d (at_row row)) ≤ more) (within : more ≤ fuel) (held : AreHeld known row s)
      (has : HaveColumns (HoldsIn row) c × HaveColumns (HoldsIn row) d) (room : next + length own ≤ length s.locals) where
    abbrev env : Environment
    env = at_row row

    abbrev Post : Truth → LowState → Type 0
    Post v w = Kept next s w × HoldsTruth cell v w

    -- the right side, and what follows it
    goes_on : (x : Truth) (u : LowState) (f : Truth → Truth) (finish : Statement) → Kept next s u → HoldsTruth cc' x u →
        ((y : Truth) (w : LowState) → Kept next s w → HoldsTruth cc' x w → HoldsTruth cd y w → m + 1 < length w.locals → Comes pages fuel more (λ v z. Kept m w z × HoldsTruth cell v z) (Ok (f y)) finish w) →
        Comes pages fuel more Post (truth_of d env >>= (λ y. Ok (f y))) (seq sd finish) u
    goes_on x u f finish kept holds finishes =
        let long = two_long ownc ownd in
        comes_then pages fuel more (λ y w. Kept (next + length ownc) u w × HoldsTruth cd y w) Post (truth_of d env) (λ y. Ok (f y)) sd finish u
        (dd.runs pages fuel more row u (omega (arith, enough)) within (known_kept next s u row known kept low_known held) has.1 (omega (arith, room, long, kept.many)))
        (λ y w is_y left.
        let kept_w : Kept next s w = Kept-then next (next + length ownc) s u w (omega arith) kept left.0 in
        comes_weaker pages fuel more (λ v z. Kept m w z × HoldsTruth cell v z) Post (Ok (f y)) finish w
        (λ v z is_v done. (Kept-then next m s w z (omega arith) kept_w done.0, done.1))
        (finishes y w kept_w (truth_kept (next + length ownc) u w cc' x left.0 dc.below holds) left.1 (omega (arith, room, long, kept_w.many))))

    abbrev last : Statement
    last = set_truth null m (i32 0) (i32 0)

    skipped : (v : Truth) (finish : Statement) (u : LowState) → Kept next s u → (m + 1 < length u.locals → Comes pages fuel more (λ v z. Kept m u z × HoldsTruth cell v z) (Ok v) finish u) → Comes pages fuel more Post (Ok v) finish u
    skipped v finish u kept h =
        let long = two_long ownc ownd in
        comes_weaker pages fuel more (λ v z. Kept m u z × HoldsTruth cell v z) Post (Ok v) finish u (λ v z is_v done. (Kept-then next m s u z (omega arith) kept done.0, done.1)) (h (omega (arith, room, long, kept.many)))

    both_comes : Comes pages fuel more Post (truth_of (both c d) env) (seq sc (and_block cc' cd m sd)) s
    both_comes =
        let some : 1 ≤ more = omega (arith, enough) in
        let long = two_long ownc ownd in
        comes_then pages fuel more (λ x u. Kept next s u × HoldsTruth cc' x u) Post (truth_of c env) (λ x. and_then x (truth_of d env)) sc (and_block cc' cd m sd) s
        (dc.runs pages fuel more row s (omega (arith, enough)) within held has.0 (omega (arith, room, long)))
        (λ x u is_x left.
        let finish : Statement = set_truth null m (binop I32 And (local cc'.value) (local cd.value)) (binop I32 And (binop I32 Or (unknown_word cc'.null) (unknown_word cd.null)) (may_hold cd.value cd.null)) in
        comes_choose pages fuel more some Post (and_then x (truth_of d env)) (may_hold cc'.value cc'.null) (not (same_truth x False)) (seq sd finish) last u
        (may_is cc'.value cc'.null x u (same_cell cc' x u left.1))
        (λ goes. rw (and_goes_on x (truth_of d env) (not_false x goes))
        (goes_on x u (conjunction x) finish left.0 left.1 (λ y w kept_w one two at. sets_and pages fuel more some m cc' cd low_c dd.below w w x y (Kept-same m w) at (not_false x goes) one two)))
        (λ stops. rw (is_false_is x stops) (skipped False last u left.0 (λ at. sets_false pages fuel more some m cc' cd low_c dd.below u u (Kept-same m u) at))))

    either_comes : Comes pages fuel more Post (truth_of (either c d) env) (seq sc (or_block cc' cd m sd)) s
    either_comes =
        let some : 1 ≤ more = omega (arith, enough) in
        let long = two_long ownc ownd in
        comes_then pages fuel more (λ x u. Kept next s u × HoldsTruth cc' x u) Post (truth_of c env) (λ x. or_else x (truth_of d env)) sc (or_block cc' cd m sd) s
        (dc.runs pages fuel more row s (omega (arith, enough)) within held has.0 (omega (arith, room, long)))
        (λ x u is_x left.
        let finish : Statement = set_truth null m (local cd.value) (binop I32 And (binop I32 Or (unknown_word cc'.null) (unknown_word cd.null)) (is_zero I32 (local cd.value))) in
        let ones : Statement = set_truth null m (i32 1) (i32 0) in
        comes_choose pages fuel more some Post (or_else x (truth_of d env)) (is_zero I32 (local cc'.value)) (not (same_truth x True)) (seq sd finish) ones u
        (not_is u (local cc'.value) (same_truth x True) (true_word cc' x u left.1))
        (λ goes. rw (or_goes_on x (truth_of d env) (not_true x goes))
        (goes_on x u (disjunction x) finish left.0 left.1 (λ y w kept_w one two at. sets_or pages fuel more some m cc' cd low_c dd.below w w x y (Kept-same m w) at (not_true x goes) one two)))
        (λ stops. rw (is_true_is x stops) (skipped True ones u left.0 (λ at. sets_true pages fuel more some m cc' cd low_c dd.below u u (Kept-same m u) at))))

  cases : (null ≡ None) ⊎ (null ≡ Some (m + 1))
  cases = null_cases m cc'.null cd.null

  pub both_decides : Decides known (both c d) next cell (seq sc (and_block cc' cd m sd)) own
  both_decides = record {
    below = cell_below;
    runs = both_comes;
    typed = λ types declared declares.
        let rest = declares_rest types next ownc (ownd ++ (I32 ∷ I32 ∷ [])) declares in
        let mine = second types m (declares_rest types (next + length ownc) ownd (I32 ∷ I32 ∷ []) rest) in
        let one = dc.typed types declared (declares_first types next ownc (ownd ++ (I32 ∷ I32 ∷ [])) declares) in
        let two = dd.typed types declared (declares_first types (next + length ownc) ownd (I32 ∷ I32 ∷ []) rest) in
        let set = set_typed types m null (binop I32 And (local cc'.value) (local cd.value)) (binop I32 And (binop I32 Or (unknown_word cc'.null) (unknown_word cd.null)) (may_hold cd.value cd.null)) cases mine.0 mine.1
        (one.1.0, two.1.0, refl) ((unknown_typed types cc'.null one.1.1, unknown_typed types cd.null two.1.1, refl), may_typed types cd.value cd.null two.1.0 two.1.1, refl) in
        let skip' = set_typed types m null (i32 0) (i32 0) cases mine.0 mine.1 (omega arith, refl) (omega arith, refl) in
        ((one.0, (may_typed types cc'.value cc'.null one.1.0 one.1.1, (two.0, set.0), skip'.0)), (mine.0, set.1));
  }

  pub either_decides : Decides known (either c d) next cell (seq sc (or_block cc' cd m sd)) own
  either_decides = record {
    below = cell_below;
    runs = either_comes;
    typed = λ types declared declares.
        let rest = declares_rest types next ownc (ownd ++ (I32 ∷ I32 ∷ [])) declares in
        let mine = second types m (declares_rest types (next + length ownc) ownd (I32 ∷ I32 ∷ []) rest) in
        let one = dc.typed types declared (declares_first types next ownc (ownd ++ (I32 ∷ I32 ∷ [])) declares) in
        let two = dd.typed types declared (declares_first types (next + length ownc) ownd (I32 ∷ I32 ∷ []) rest) in
        let set = set_typed types m null (local cd.value) (binop I32 And (binop I32 Or (unknown_word cc'.null) (unknown_word cd.null)) (is_zero I32 (local cd.value))) cases mine.0 mine.1
        two.1.0 ((unknown_typed types cc'.null one.1.1, unknown_typed types cd.null two.1.1, refl), (two.1.0, refl), refl) in
        let skip' = set_typed types m null (i32 1) (i32 0) cases mine.0 mine.1 (omega arith, refl) (omega arith, refl) in
        ((one.0, ((one.1.0, refl), (two.0, set.0), skip'.0)), (mine.0, set.1));
  }
