-- Runs that stop where a local is 0, and by then are long: what may stand before such a stop, and behind it.
use Rattle.std.proofs.Common.{◌≡◌, ℕ, suc, ◌+◌, ◌-◌, ◌*◌, ◌^◌, ◌<◌, ◌≤◌, inl, inr, ◌==◌, false, Some, List, [], length, slice_get, slice_set, take, refl, sym, ap, ◌∙◌, subst, arith}
use Rattle.std.proofs.lemmas.Bool.{eqb-true, false_from_ne_true}
use Rattle.std.proofs.lemmas.List.{take_all}
use Rattle.std.proofs.Math.Nat.{add-mul}
use Rattle.qw_types.specs.declared.value.Val.{Val}
use Rattle.qw_meaning.specs.Flow.{Flow}
use Rattle.qw_map.proofs.TurnFacts.{slice_get-set_same}
use Rattle.qw_module.specs.declared.instruction.Const.TheVariants as const
use Rattle.qw_module.specs.declared.instruction.ValType.TheVariants.{I64}
use Rattle.qw_low.specs.Syntax.{Statement, assign, constant_of, is_zero, local, raise, seq, skip}
use Rattle.qw_low.specs.State.{Number, LowState}
use Rattle.qw_low.specs.Meaning.{Outcome, Completed, Exited, Stopped, Wrong, Unfinished, and_then, counting, meaning, value}
use Rattle.qw_low.specs.Promise.{Ends}
use Rattle.qw_low.specs.Size.{size}
use Rattle.qw_low.proofs.Promises.{Ends-more, Ends-then, Ends-weaker, assign_ends, conditional_ends}
use Rattle.qw_low.proofs.Results.{at_least}
use Rattle.qw_feed.specs.Feeds.{Tells}
use Rattle.qw_feed.specs.Room.{space_block}
use Rattle.qw_feed.proofs.Frames.{Never}
use Rattle.qw_limit.specs.Counting.{CountsDown, EndsOrTakes}
use Rattle.qw_limit.proofs.LongRuns.{counted_then, or_takes_more, or_takes_then, set_then}
use Rattle.qw_compile.specs.Statements.{builds_block}
use Rattle.qw_compile.proofs.QueryRuns.{Joined, Joins, Setting, around, base, first, joins_then}
use Rattle.qw_compile_whole.specs.GuardedStatements.{stop_at}

-- ---- of statements one behind another, the first ones and the others
counted_twice : (m n : ℕ) (out : Outcome) → counting m (counting n out) ≡ counting (m + n) out
counted_twice m n (Completed k s) = let same : m + (n + k) ≡ m + n + k = omega arith in ap (λ (i : ℕ). Completed i s) same
counted_twice m n (Exited k s) = let same : m + (n + k) ≡ m + n + k = omega arith in ap (λ (i : ℕ). Exited i s) same
counted_twice m n (Stopped code k s) = let same : m + (n + k) ≡ m + n + k = omega arith in ap (λ (i : ℕ). Stopped code i s) same
counted_twice m n Wrong = refl
counted_twice m n Unfinished = refl

counted_first : (n : ℕ) (out : Outcome) (f : LowState → Outcome) → and_then (counting n out) f ≡ counting n (and_then out f)
counted_first n (Completed m s) f = sym (counted_twice n m (f s))
counted_first n (Exited m s) f = refl
counted_first n (Stopped code m s) f = refl
counted_first n Wrong f = refl
counted_first n Unfinished f = refl

then_apart : (out : Outcome) (f g h : LowState → Outcome) → ((t : LowState) → h t ≡ and_then (f t) g) → and_then out h ≡ and_then (and_then out f) g
then_apart (Completed n s) f g h same = ap (counting n) (same s) ∙ sym (counted_first n (f s) g)
then_apart (Exited n s) f g h same = refl
then_apart (Stopped code n s) f g h same = refl
then_apart Wrong f g h same = refl
then_apart Unfinished f g h same = refl

counted_none : (out : Outcome) → out ≡ counting 0 out
counted_none (Completed n s) = let same : n ≡ 0 + n = omega arith in ap (λ (i : ℕ). Completed i s) same
counted_none (Exited n s) = let same : n ≡ 0 + n = omega arith in ap (λ (i : ℕ). Exited i s) same
counted_none (Stopped code n s) = let same : n ≡ 0 + n = omega arith in ap (λ (i : ℕ). Stopped code i s) same
counted_none Wrong = refl
counted_none Unfinished = refl

module _ (most fuel : ℕ) where
  -- four and what follows them are the four, and then what follows
  pub four_apart : (a b c d rest : Statement) (s : LowState) → meaning most fuel (seq a (seq b (seq c (seq d rest)))) s ≡ meaning most fuel (seq (seq a (seq b (seq c (seq d skip)))) rest) s
  four_apart a b c d rest s =
      then_apart (meaning most fuel a s) (meaning most fuel (seq b (seq c (seq d skip)))) (meaning most fuel rest) (meaning most fuel (seq b (seq c (seq d rest))))
      (λ t. then_apart (meaning most fuel b t) (meaning most fuel (seq c (seq d skip))) (meaning most fuel rest) (meaning most fuel (seq c (seq d rest)))
      (λ v. then_apart (meaning most fuel c v) (meaning most fuel (seq d skip)) (meaning most fuel rest) (meaning most fuel (seq d rest))
      (λ w. then_apart (meaning most fuel d w) (meaning most fuel skip) (meaning most fuel rest) (meaning most fuel rest) (λ x. counted_none (meaning most fuel rest x)))))

  -- ---- the stop
  module _ (z : ℕ) (w : LowState) (P X : LowState → Type 0) (R : ℕ → Type 0) where
    -- where the local isn't 0 the run goes on
    pub stop_passes : (k : ℕ) → slice_get w.locals z ≡ Some (Number (suc k)) → P w → Ends 3 P X R (meaning most fuel (stop_at (Some z)) w)
    stop_passes k holds p =
        let above : (suc k == 0) ≡ false = false_from_ne_true (suc k == 0) (λ e. (let zeroth = eqb-true (suc k) 0 e in omega (arith, zeroth))) in
        let tested : value w (is_zero I64 (local z)) ≡ Some (Number 0) = rw (holds, above) refl in
        conditional_ends P X R most fuel 0 (is_zero I64 (local z)) (raise 1) skip w (inr (tested, (omega arith, p)))

    -- and else it is over
    pub stop_stops : slice_get w.locals z ≡ Some (Number 0) → R 1 → Ends 5 P X R (meaning most fuel (stop_at (Some z)) w)
    stop_stops holds r =
        let tested : value w (is_zero I64 (local z)) ≡ Some (Number 1) = rw holds refl in
        conditional_ends P X R most fuel 2 (is_zero I64 (local z)) (raise 1) skip w (inl (inl (0, tested), (omega arith, r)))

-- ---- what is never completed
abbrev pub Nowhere : LowState → Type 0
Nowhere s = ⊥

-- stays as it is, whatever follows
pub never_then : (least most : ℕ) (P Q : LowState → Type 0) (R S : ℕ → Type 0) (out : Outcome) (f : LowState → Outcome) → EndsOrTakes least most Nowhere Nowhere Never R S out → EndsOrTakes least most P Q Never R S (and_then out f)
never_then least most P Q R S (Completed n s) f (inl h) = absurd h.1
never_then least most P Q R S (Completed n s) f (inr h) = absurd h.0.1
never_then least most P Q R S (Exited n s) f (inl h) = absurd h.1
never_then least most P Q R S (Exited n s) f (inr h) = absurd h.0.1
never_then least most P Q R S (Stopped code n s) f (inl h) = inl (h.0, h.1)
never_then least most P Q R S (Stopped code n s) f (inr h) = inr ((h.0.0, h.0.1), h.1)
never_then least most P Q R S Wrong f (inl h) = absurd h
never_then least most P Q R S Wrong f (inr h) = absurd h.0
never_then least most P Q R S Unfinished f (inl h) = absurd h
never_then least most P Q R S Unfinished f (inr h) = absurd h.0

pub takes_then : (most fuel top N : ℕ) (P Q : LowState → Type 0) (R S : ℕ → Type 0) (a b : Statement) (s : LowState) → EndsOrTakes top (size a * N) Nowhere Nowhere Never R S (meaning most fuel a s) → EndsOrTakes top (size (seq a b) * N) P Q Never R S (meaning most fuel (seq a b) s)
takes_then most fuel top N P Q R S a b s long =
    or_takes_more P Q Never R S top top (size a * N) (size (seq a b) * N) (meaning most fuel (seq a b) s) (omega arith) (omega (arith, add-mul (size a) (size b) N))
    (never_then top (size a * N) P Q R S (meaning most fuel a s) (meaning most fuel b) long)

-- behind the tables of joins
pub joins_or_takes : (S : Setting) (Told : ℕ → Type 0) (j : Joins S Told) (top : ℕ) (P Q : LowState → Type 0) (R : ℕ → Type 0) (rest : Statement) →
    ((t : LowState) → Joined S Told j t → EndsOrTakes top (size rest * S.N) P Q Never Told R (meaning S.most S.N rest t)) → EndsOrTakes top (size (around S Told j rest) * S.N) P Q Never Told R (meaning S.most S.N (around S Told j rest) (first S))
joins_or_takes S Told j top P Q R rest onward =
    let front : Statement = around S Told j skip in
    let whole : Statement = around S Told j rest in
    subst (λ (out : Outcome). EndsOrTakes top (size whole * S.N) P Q Never Told R out) (sym (four_apart S.most S.N (space_block (base S)) S.leads S.sets (builds_block S.T 0 j.builds) rest (first S)))
    (or_takes_more P Q Never Told R top top (size front * S.N + size rest * S.N) (size whole * S.N) (meaning S.most S.N (seq front rest) (first S)) (omega arith) (omega (arith, add-mul (size front) (size rest) S.N))
    (or_takes_then P Q Never Told R S.most S.N top (size front * S.N) (size rest * S.N) (Joined S Told j) front rest (first S) (joins_then S Told j 0 (Joined S Told j) skip (omega arith) (λ t h. (omega arith, h))) onward))

-- ---- a scan whose rows are counted
-- the local is set, and the stop is behind the scan
abbrev pub counted : (top z : ℕ) → Statement → Statement
counted top z scan = seq (assign z (constant_of (const.I64 top))) (seq scan (stop_at (Some z)))

-- it takes the first rows, as `AreIn` says of them, and the local says how many may still come
module _ (most N top z : ℕ) (some : 1 ≤ N) (scan : Statement) (t : LowState) (low : z < length t.locals) (AreIn : List (List Val) → LowState → Type 0) (flow : Flow (List Val)) (Told : ℕ → Type 0) (told : (raised : ℕ) → Tells flow.codes raised → Told raised)
    (scans : Ends (size scan * N) (λ w. (AreIn (take top flow.rows) w × (slice_get w.locals z ≡ Some (Number (top - length flow.rows)))) × (flow.codes ≡ [])) Never (Tells flow.codes) (meaning most N scan (record t { locals = slice_set t.locals z (Number top) }))) where
  abbrev put : LowState
  put = record t { locals = slice_set t.locals z (Number top) }

  abbrev Mid : LowState → Type 0
  Mid w = (AreIn (take top flow.rows) w × (slice_get w.locals z ≡ Some (Number (top - length flow.rows)))) × (flow.codes ≡ [])

  abbrev All : LowState → Type 0
  All w = AreIn flow.rows w × (flow.codes ≡ [])

  mid_ends : Ends (size scan * N) Mid Never Told (meaning most N scan put)
  mid_ends = Ends-weaker (size scan * N) (size scan * N) Mid Mid Never Never (Tells flow.codes) Told (meaning most N scan put) (omega arith) (λ v x. x) (λ v x. x) told scans

  -- fewer are all taken
  pub counted_few : length flow.rows < top → Ends (size (counted top z scan) * N) All Never Told (meaning most N (counted top z scan) t)
  counted_few fewer =
      let left : top - length flow.rows ≡ suc (top - length flow.rows - 1) = omega (arith, fewer) in
      let whole : take top flow.rows ≡ flow.rows = take_all top flow.rows (omega (arith, fewer)) in
      Ends-more All Never Told (2 + (size scan * N + 3)) (size (counted top z scan) * N) (meaning most N (counted top z scan) t) (omega (arith, add-mul 7 (size scan) N, at_least 7 N some))
      (Ends-then All Never Told 2 (size scan * N + 3) (λ w. w ≡ put) (meaning most N (assign z (constant_of (const.I64 top))) t) (meaning most N (seq scan (stop_at (Some z))))
      (assign_ends (λ w. w ≡ put) Never Told most N z (constant_of (const.I64 top)) (Number top) t refl low refl)
      (λ w is. subst (λ (v : LowState). Ends (size scan * N + 3) All Never Told (meaning most N (seq scan (stop_at (Some z))) v)) (sym is)
      (Ends-then All Never Told (size scan * N) 3 Mid (meaning most N scan put) (meaning most N (stop_at (Some z))) mid_ends
      (λ v mid. stop_passes most N z v All Never Told (top - length flow.rows - 1) (mid.0.1 ∙ ap (λ (m : ℕ). Some (Number m)) left)
      (subst (λ (xs : List (List Val)). AreIn xs v) whole mid.0.0, mid.1)))))

  -- so many are counted, and it is over
  pub counted_many : CountsDown z scan → top < 2 ^ 64 → top ≤ length flow.rows → (S : ℕ → Type 0) → S 1 → EndsOrTakes top (size (counted top z scan) * N) Nowhere Nowhere Never Told S (meaning most N (counted top z scan) t)
  counted_many counts few_top more S stops =
      let none : top - length flow.rows ≡ 0 = omega (arith, more) in
      or_takes_more Nowhere Nowhere Never Told S top top (2 + (size scan * N + 5)) (size (counted top z scan) * N) (meaning most N (counted top z scan) t) (omega arith) (omega (arith, add-mul 7 (size scan) N, at_least 7 N some))
      (set_then Nowhere Nowhere Never Told S most N z top top (size scan * N + 5) (seq scan (stop_at (Some z))) t low
      (counted_then Nowhere Nowhere Never Told S most N z top (size scan * N) 5 Mid scan (stop_at (Some z)) put counts few_top (slice_get-set_same t.locals z (Number top) low) mid_ends
      (λ v mid.
      let zeroth : slice_get v.locals z ≡ Some (Number 0) = mid.0.1 ∙ ap (λ (m : ℕ). Some (Number m)) none in
      inr (zeroth, stop_stops most N z v Nowhere Never S zeroth stops))))
