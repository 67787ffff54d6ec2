-- What conjuncts and items come to, from what each block promises.
use Rattle.std.proofs.Common.{◌≡◌, ℕ, suc, ◌+◌, ◌*◌, ◌≤◌, inl, inr, Bool, true, false, List, [], ◌∷◌, length, Option, Some, None, Result, Ok, Err, slice_get, refl, ◌∙◌, subst, arith}
use Rattle.std.proofs.Math.Nat.{add-mul}
use Rattle.qw_types.specs.Arithmetic.{◌>>=◌}
use Rattle.qw_types.specs.declared.code.Code.{Code}
use Rattle.qw_types.specs.declared.truth.Truth.{Truth}
use Rattle.qw_types.specs.declared.truth.Truth.TheVariants.{True, False, Unknown}
use Rattle.qw_types.specs.declared.value.Val.{Val}
use Rattle.qw_types.specs.declared.value.Val.TheVariants as val
use Rattle.qw_scalar.specs.Evaluation.{chosen}
use Rattle.qw_scalar.specs.Typing.{IsValueOf}
use Rattle.qw_low.specs.declared.cell.Cell.{Cell}
use Rattle.qw_low.specs.Syntax.{Statement, skip, conditional}
use Rattle.qw_low.specs.State.{Part, Value, Number, LowState}
use Rattle.qw_low.specs.Meaning.{value, cost, meaning}
use Rattle.qw_low.specs.Size.{size}
use Rattle.qw_low.specs.Promise.{Ends}
use Rattle.qw_low.specs.Raising.{Leaves, Raises, Kept}
use Rattle.qw_low.proofs.Promises.{Ends-more, Ends-weaker, Ends-then, conditional_ends}
use Rattle.qw_low.proofs.Results.{Kept-same, Kept-then, at_least, comes_then, comes_skip}
use Rattle.qw_feed.specs.Cells.{Source, Supplies, AllSupply, AllUse, Uses, UsesNull, Says, Lacks}
use Rattle.qw_feed.specs.Stages.{Test, tests_block, Item, items_block, outs_of, all_true, all_values, IsDecided, AreTests, Among, AreItems}
use Rattle.qw_feed.proofs.Frames.{Never, Kept-less}

-- what locals supply, others do that are the same where a source uses them
module _ (Text : Part → ℕ → List ℕ → Type 0) (P : ℕ → Type 0) (xs ys : List Value) (same : (i : ℕ) → P i → slice_get ys i ≡ slice_get xs i) where
  says-same : (v : ℕ) (null : Option ℕ) → UsesNull P null → Says xs v null → Says ys v null
  says-same v None uses h = tt
  says-same v (Some n) uses h = same n uses ∙ h

  lacks-same : (null : Option ℕ) → UsesNull P null → Lacks xs null → Lacks ys null
  lacks-same None uses h = h
  lacks-same (Some n) uses h = same n uses ∙ h

  pub supplies-same : (c : Cell) (v : Val) → Uses P c → Supplies Text xs c v → Supplies Text ys c v
  supplies-same c val.Null uses h = lacks-same c.null uses.2 h
  supplies-same c (val.Num v) uses h = ((h.0.0, same c.value uses.0 ∙ h.0.1, h.0.2, h.0.3), h.1, says-same 0 c.null uses.2 h.2)
  supplies-same c (val.Date d) uses h = ((h.0.0, same c.value uses.0 ∙ h.0.1, h.0.2, h.0.3), says-same 0 c.null uses.2 h.1)
  supplies-same c (val.Text t) uses h = (h.0, h.1, same c.value uses.0 ∙ h.2, same c.length uses.1 ∙ h.3, h.4, h.5, says-same 0 c.null uses.2 h.6)

  pub all-same : (os : List Source) (vs : List Val) → AllUse P os → AllSupply Text xs os vs → AllSupply Text ys os vs
  all-same [] [] uses h = tt
  all-same [] (v ∷ vs) uses h = absurd h
  all-same (o ∷ os) [] uses h = absurd h
  all-same (o ∷ os) (v ∷ vs) uses h = ((supplies-same o.cell v uses.0 h.0.0, h.0.1), all-same os vs uses.1 h.1)

-- ---- the conjuncts
-- `Held` says what holds of a row at a stage, which is the number of conjuncts that are decided
module _ (most fuel N known many : ℕ) (Held : ℕ → LowState → Type 0) where
  module _ (some : 1 ≤ N) (P : LowState → Type 0) (R : ℕ → Type 0) (rest : Statement) (s0 : LowState) (last : ℕ) where
    -- what follows the conjuncts, by what they come to
    pub record Onward (r : Result Bool Code) : Type 0 where
      pub true_then : r ≡ Ok true → (t : LowState) → Kept known s0 t → Held last t → many ≤ length t.locals → Ends (size rest * N) P Never R (meaning most fuel rest t)
      pub false_then : r ≡ Ok false → (t : LowState) → Kept known s0 t → P t
      pub raised_then : (code : ℕ) → Raises r code → R code

    weigh : (a b c total : ℕ) → total ≡ a + (c + 1 + (b + 0)) → a * N + (c + 1 + b * N) ≤ total * N
    weigh a b c total is =
        let one : (a + (c + 1 + (b + 0))) * N ≡ a * N + (c + 1 + (b + 0)) * N = add-mul a (c + 1 + (b + 0)) N in
        let two : (c + 1 + (b + 0)) * N ≡ (c + 1) * N + (b + 0) * N = add-mul (c + 1) (b + 0) N in
        let three : (b + 0) * N ≡ b * N + 0 * N = add-mul b 0 N in
        let four : c + 1 ≤ (c + 1) * N = at_least (c + 1) N some in
        rw is (omega (arith, one, two, three, four))

    pub tests_end : (gs : List Test) (rs : List (Result Truth Code)) (k : ℕ) (s : LowState) → k + length gs ≡ last → AreTests most fuel N known many Held k gs rs → Kept known s0 s → Held k s → many ≤ length s.locals → Onward (all_true rs) →
        Ends (size (tests_block gs rest) * N) P Never R (meaning most fuel (tests_block gs rest) s)
    tests_end [] [] k s stage are kept held room onward = onward.true_then refl s kept (subst (λ (j : ℕ). Held j s) (omega (arith, stage)) held) room
    tests_end [] (r ∷ rs) k s stage are kept held room onward = absurd are
    tests_end (g ∷ gs) [] k s stage are kept held room onward = absurd are
    tests_end (g ∷ gs) (r ∷ rs) k s stage are kept held room onward =
        Ends-more P Never R (size g.block * N + (cost g.out + 1 + size (tests_block gs rest) * N)) (size (tests_block (g ∷ gs) rest) * N) _
        (weigh (size g.block) (size (tests_block gs rest)) (cost g.out) (size (tests_block (g ∷ gs) rest)) refl)
        (Ends-then P Never R (size g.block * N) (cost g.out + 1 + size (tests_block gs rest) * N) (Leaves (IsDecided most fuel N known many Held k g s) r) (meaning most fuel g.block s) (meaning most fuel choice)
        (Ends-weaker (size g.block * N) (size g.block * N) (Leaves (IsDecided most fuel N known many Held k g s) r) (Leaves (IsDecided most fuel N known many Held k g s) r) Never Never (Raises r) R (meaning most fuel g.block s)
        (omega arith) (λ t x. x) (λ t x. x) (λ code raised. onward.raised_then code (first_raised r code raised)) (are.0 s held room))
        (λ t left. chosen_then r onward t left (λ now onward_t. tests_end gs rs (suc k) t (omega (arith, stage)) are.1 (stays t now.0) now.1 (omega (arith, now.0.many, room)) onward_t)))
      where
        choice : Statement
        choice = conditional g.out (tests_block gs rest) skip

        first_raised : (r : Result Truth Code) (code : ℕ) → Raises r code → Raises (r >>= (λ v. chosen v (all_true rs) (Ok false))) code
        first_raised (Ok v) code raised = absurd raised
        first_raised (Err c) code raised = raised

        stays : (t : LowState) → Kept known s t → Kept known s0 t
        stays t left = Kept-then known known s0 s t (omega arith) kept left

        untrue : (t : LowState) → value t g.out ≡ Some (Number 0) → P t → Ends (cost g.out + 1 + size (tests_block gs rest) * N) P Never R (meaning most fuel choice t)
        untrue t is post = conditional_ends P Never R most fuel (size (tests_block gs rest) * N) g.out (tests_block gs rest) skip t (inr (is, (omega arith, post)))

        chosen_then : (r : Result Truth Code) → Onward (r >>= (λ v. chosen v (all_true rs) (Ok false))) → (t : LowState) → Leaves (IsDecided most fuel N known many Held k g s) r t →
            (Kept known s t × Held (suc k) t → Onward (all_true rs) → Ends (size (tests_block gs rest) * N) P Never R (meaning most fuel (tests_block gs rest) t)) →
            Ends (cost g.out + 1 + size (tests_block gs rest) * N) P Never R (meaning most fuel choice t)
        chosen_then (Err c) onward t left again = absurd left
        chosen_then (Ok True) onward t left again = conditional_ends P Never R most fuel (size (tests_block gs rest) * N) g.out (tests_block gs rest) skip t (inl (inl (0, left.2), again (left.0, left.1) onward))
        chosen_then (Ok False) onward t left again = untrue t left.2 (onward.false_then refl t (stays t left.0))
        chosen_then (Ok Unknown) onward t left again = untrue t left.2 (onward.false_then refl t (stays t left.0))

-- ---- the items
module _ (most fuel N n many : ℕ) (some : 1 ≤ N) (Held : LowState → Type 0) (held_kept : (s t : LowState) → Kept n s t → Held s → Held t) where
  module _ (Text : Part → ℕ → List ℕ → Type 0) where
    pub items_end : (gs : List Item) (rs : List (Result Val Code)) (next : ℕ) (s : LowState) → n ≤ next → AreItems most fuel N many Held Text next gs rs → Held s → many ≤ length s.locals →
        Ends (size (items_block gs) * N) (Leaves (λ vs t. Kept next s t × AllSupply Text t.locals (outs_of gs) vs) (all_values rs)) Never (Raises (all_values rs)) (meaning most fuel (items_block gs) s)
    items_end [] [] next s low are held room = comes_skip most fuel N some {A = List Val} (λ vs t. Kept next s t × AllSupply Text t.locals [] vs) [] s (Kept-same next s, tt)
    items_end [] (r ∷ rs) next s low are held room = absurd are
    items_end (g ∷ gs) [] next s low are held room = absurd are
    items_end (g ∷ gs) (r ∷ rs) next s low are held room =
        comes_then most fuel N (λ v t. Kept next s t × (Supplies Text t.locals g.out.cell v × IsValueOf g.out.kind v)) (λ vs t. Kept next s t × AllSupply Text t.locals (outs_of (g ∷ gs)) vs) r
        (λ v. all_values rs >>= (λ vs. Ok (v ∷ vs))) g.block (items_block gs) s (are.0 s held room)
        (λ v t is first. joined v t (all_values rs) first
        (items_end gs rs are.1 t (omega (arith, are.2)) are.4 (held_kept s t (Kept-less n next s t low first.0) held) (omega (arith, first.0.many, room))))
      where
        joined : (v : Val) (t : LowState) (q : Result (List Val) Code) → Kept next s t × (Supplies Text t.locals g.out.cell v × IsValueOf g.out.kind v) →
            Ends (size (items_block gs) * N) (Leaves (λ vs u. Kept are.1 t u × AllSupply Text u.locals (outs_of gs) vs) q) Never (Raises q) (meaning most fuel (items_block gs) t) →
            Ends (size (items_block gs) * N) (Leaves (λ vs u. Kept next s u × AllSupply Text u.locals (outs_of (g ∷ gs)) vs) (q >>= (λ vs. Ok (v ∷ vs)))) Never (Raises (q >>= (λ vs. Ok (v ∷ vs)))) (meaning most fuel (items_block gs) t)
        joined v t (Err c) first rest = rest
        joined v t (Ok vs) first rest = Ends-weaker (size (items_block gs) * N) (size (items_block gs) * N) (λ u. Kept are.1 t u × AllSupply Text u.locals (outs_of gs) vs) (λ u. Kept next s u × AllSupply Text u.locals (outs_of (g ∷ gs)) (v ∷ vs)) Never Never (λ code. ⊥) (λ code. ⊥) _ (omega arith)
            (λ u h. (
              Kept-then next are.1 s t u are.2 first.0 h.0,
              ((supplies-same Text (Among are.1) t.locals u.locals (λ i in_it. h.0.below i in_it.1) g.out.cell v are.3 first.1.0, first.1.1), h.1),
            ))
            (λ u x. x) (λ code x. x) rest
