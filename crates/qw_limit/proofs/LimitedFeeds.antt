-- A block that feeds a row to a sink, guarded by a local that counts down, feeds it to the sink that takes no more rows than the local counted at first.
use Rattle.std.proofs.Common.{◌≡◌, ℕ, zero, suc, ◌+◌, ◌-◌, ◌*◌, ◌%◌, ◌^◌, ◌<◌, ◌≤◌, inl, inr, ◌==◌, false, List, [], ◌∷◌, ◌++◌, length, length-append, Option, Some, slice_get, slice_set, take, refl, sym, ap, ◌∙◌, subst, arith}
use Rattle.std.proofs.lemmas.Bool.{eqb-true, false_from_ne_true, lt-ltb}
use Rattle.std.proofs.lemmas.List.{take-append-le, take_all}
use Rattle.std.proofs.lemmas.Option.{slice_get_within}
use Rattle.std.proofs.Math.Nat.{add-mul}
use Rattle.qw_types.specs.declared.value.Val.{Val}
use Rattle.qw_map.proofs.TurnFacts.{slice_get-set_same}
use Rattle.qw_module.specs.declared.instruction.ValType.TheVariants.{I64}
use Rattle.qw_low.specs.Syntax.{Statement, local, is_zero, skip, seq}
use Rattle.qw_low.specs.State.{Value, Number, LowState}
use Rattle.qw_low.specs.Meaning.{Outcome, Completed, Exited, Stopped, Wrong, Unfinished, meaning, value}
use Rattle.qw_low.specs.Promise.{Ends}
use Rattle.qw_low.specs.Raising.{Kept}
use Rattle.qw_low.specs.Size.{size}
use Rattle.qw_low.proofs.Promises.{Ends-more, Ends-then, conditional_ends}
use Rattle.qw_low.proofs.Results.{at_least}
use Rattle.qw_feed.specs.Feeds.{Any, Sink, FedTo, FeedsTo, Tells, one_row}
use Rattle.qw_feed.proofs.Frames.{Never, Keeps-same, Keeps-set, Keeps-then}
use Rattle.qw_limit.specs.Counting.{Spares, guarded_block, less_block}
use Rattle.qw_limit.specs.Limited.{FirstMay, HasFirst, limited}
use Rattle.qw_limit.proofs.Spared.{Holds, spared}

-- ---- the first rows
-- of rows and more the first are those of the rows, and more
pub first_more : {A : Type 0} (n : ℕ) (rows more : List A) → (others : List A) × (take n (rows ++ more) ≡ take n rows ++ others)
first_more zero rows more = ([], refl)
first_more (suc n) [] more = (take (suc n) more, refl)
first_more (suc n) (row ∷ rows) more = let rest = first_more n rows more in (rest.0, ap (λ (rs : List _). row ∷ rs) rest.1)

-- so beginnings may be taken too
pub first_may : (most : ℕ) (sink : Sink) (rows more : List (List Val)) → FirstMay most sink.May (rows ++ more) → FirstMay most sink.May rows
first_may most sink rows more may =
    let part = first_more most rows more in
    sink.beginnings (take most rows) part.0 (subst sink.May part.1 may)

abbrev pub limit_of : (most z : ℕ) → Sink → Sink
limit_of most z sink = limited most z sink (first_may most sink)

-- a block that sets locals from one on alone
pub limited_kept : (most z : ℕ) (sink : Sink) (n : ℕ) (rows : List (List Val)) (s t : LowState) → z < n → Kept n s t → ((xs : List (List Val)) → sink.Has xs s → sink.Has xs t) → (limit_of most z sink).Has rows s → (limit_of most z sink).Has rows t
limited_kept most z sink n rows s t low kept later h = record { has = later (take most rows) h.has; left = kept.below z low ∙ h.left }

-- what holds behind a block, and what a local holds there that the block doesn't set
pub ends_holding : (z n : ℕ) (P X : LowState → Type 0) (R : ℕ → Type 0) (found : Option Value) (out : Outcome) → Ends n P X R out → Holds z found out → Ends n (λ t. P t × (slice_get t.locals z ≡ found)) X R out
ends_holding z n P X R found (Completed k t) h is = (h.0, (h.1, is))
ends_holding z n P X R found (Exited k t) h is = h
ends_holding z n P X R found (Stopped code k t) h is = h
ends_holding z n P X R found Wrong h is = h
ends_holding z n P X R found Unfinished h is = h

module _ (limit z : ℕ) (small : limit < 2 ^ 64) (sink : Sink) (put : (rows : List (List Val)) (v : Value) (s : LowState) → sink.Has rows s → sink.Has rows (record s { locals = slice_set s.locals z v }))
    (most fuel N : ℕ) (some : 1 ≤ N) (Old : ℕ → Type 0) (new : (i : ℕ) → Old i → i ≡ z → ⊥) (row : List Val) (b : Statement) (spares : Spares z b) (s : LowState) (inner : FeedsTo sink most fuel N Old Any (one_row row) b s) where
  module _ (so_far : List (List Val)) (has : HasFirst limit z sink.Has so_far s) (may : FirstMay limit sink.May (so_far ++ row ∷ [])) where
    abbrev Post : LowState → Type 0
    Post = FedTo (limit_of limit z sink) Old Any (one_row row) so_far s

    abbrev Inner : LowState → Type 0
    Inner = FedTo sink Old Any (one_row row) so_far s

    abbrev R : ℕ → Type 0
    R = Tells []

    long : length (so_far ++ row ∷ []) ≡ length so_far + 1
    long = length-append so_far (row ∷ [])

    -- nothing more is taken
    passed_over : limit ≤ length so_far → Post s
    passed_over all = record {
      none = refl;
      keeps = Keeps-same Old sink.Spared s;
      has = record {
        has = subst (λ (rows : List (List Val)). sink.Has rows s) (sym (take-append-le limit so_far (row ∷ []) all)) has.has;
        left = has.left ∙ ap (λ (n : ℕ). Some (Number n)) (omega (arith, all, long));
      };
      after = tt;
    }

    module _ (k : ℕ) (one : limit - length so_far ≡ suc k) where
      taken_so_far : take limit so_far ≡ so_far
      taken_so_far = take_all limit so_far (omega (arith, one))

      taken_all : take limit (so_far ++ row ∷ []) ≡ so_far ++ row ∷ []
      taken_all = take_all limit (so_far ++ row ∷ []) (omega (arith, one, long))

      holds : slice_get s.locals z ≡ Some (Number (suc k))
      holds = has.left ∙ ap (λ (n : ℕ). Some (Number n)) one

      first : Ends (size b * N) (λ t. Inner t × (slice_get t.locals z ≡ Some (Number (suc k)))) Never R (meaning most fuel b s)
      first = ends_holding z (size b * N) Inner Never R (Some (Number (suc k))) (meaning most fuel b s)
          (inner so_far (subst (λ (rows : List (List Val)). sink.Has rows s) taken_so_far has.has) (subst sink.May taken_all may))
          (subst (λ (found : Option Value). Holds z found (meaning most fuel b s)) holds (spared z most fuel b s spares))

      second : (t : LowState) → Inner t × (slice_get t.locals z ≡ Some (Number (suc k))) → Ends 4 Post Never R (meaning most fuel (less_block z) t)
      second t mid =
          let difference : (suc k + 2 ^ 64 - 1) % 2 ^ 64 ≡ k = omega (arith, one, small) in
          let room = slice_get_within t.locals z (Number (suc k)) mid.1 in
          let fed = mid.0 in
          let u : LowState = record t { locals = slice_set t.locals z (Number k) } in
          let left : k ≡ limit - length (so_far ++ row ∷ []) = omega (arith, one, long) in
          rw (mid.1, difference, lt-ltb z (length t.locals) room) (
            omega arith,
            record {
              none = refl;
              keeps = Keeps-then Old sink.Spared s t u fed.keeps (Keeps-set Old sink.Spared t t z (Number k) new (Keeps-same Old sink.Spared t));
              has = record {
                has = subst (λ (rows : List (List Val)). sink.Has rows u) (sym taken_all) (put (so_far ++ row ∷ []) (Number k) t fed.has);
                left = slice_get-set_same t.locals z (Number k) room ∙ ap (λ (n : ℕ). Some (Number n)) left;
              };
              after = tt;
            },
          )

    whole : Statement
    whole = guarded_block z b

    weight : size b * N + 7 ≤ (size b + 7) * N
    weight = let parts = add-mul (size b) 7 N in let seven = at_least 7 N some in omega (arith, parts, seven)

    by_left : (left : ℕ) → limit - length so_far ≡ left → Ends (size (guarded_block z b) * N) Post Never R (meaning most fuel (guarded_block z b) s)
    by_left zero none =
        let holds_none : slice_get s.locals z ≡ Some (Number 0) = has.left ∙ ap (λ (n : ℕ). Some (Number n)) none in
        let tested : value s (is_zero I64 (local z)) ≡ Some (Number 1) = rw holds_none refl in
        Ends-more Post Never R 3 (size (guarded_block z b) * N) (meaning most fuel (guarded_block z b) s) (omega (arith, weight))
        (conditional_ends Post Never R most fuel 0 (is_zero I64 (local z)) skip (seq b (less_block z)) s (inl (inl (0, tested), (omega arith, passed_over (omega (arith, none))))))
    by_left (suc k) one =
        let holds_one : slice_get s.locals z ≡ Some (Number (suc k)) = holds k one in
        let above : (suc k == 0) ≡ false = false_from_ne_true (suc k == 0) (λ e. (let zeroth = eqb-true (suc k) 0 e in omega (arith, zeroth))) in
        let tested : value s (is_zero I64 (local z)) ≡ Some (Number 0) = rw (holds_one, above) refl in
        Ends-more Post Never R (3 + (size b * N + 4)) (size (guarded_block z b) * N) (meaning most fuel (guarded_block z b) s) (omega (arith, weight))
        (conditional_ends Post Never R most fuel (size b * N + 4) (is_zero I64 (local z)) skip (seq b (less_block z)) s
        (inr (tested, Ends-then Post Never R (size b * N) 4 (λ t. Inner t × (slice_get t.locals z ≡ Some (Number (suc k)))) (meaning most fuel b s) (meaning most fuel (less_block z)) (first k one) (second k one))))

  -- within seven instructions more
  pub guarded_feeds : FeedsTo (limit_of limit z sink) most fuel N Old Any (one_row row) (guarded_block z b) s
  guarded_feeds so_far has may = by_left so_far has may (limit - length so_far) refl
