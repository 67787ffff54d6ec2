-- What a choice feeds by a local that leads somewhere or is 0; and blocks that set one local.
use Rattle.std.proofs.Common.{◌≡◌, ℕ, ◌+◌, ◌*◌, ◌<◌, ◌≤◌, inl, inr, List, length, Some, slice_set, arith}
use Rattle.std.proofs.Math.Nat.{add-mul}
use Rattle.qw_types.specs.declared.value.Val.{Val}
use Rattle.qw_meaning.specs.Flow.{Flow}
use Rattle.qw_low.specs.Syntax.{Expression, Statement, seq, assign, conditional}
use Rattle.qw_low.specs.State.{Value, Number, LowState}
use Rattle.qw_low.specs.Meaning.{value, cost, meaning}
use Rattle.qw_low.specs.Size.{size}
use Rattle.qw_low.specs.Promise.{Ends, IsSet}
use Rattle.qw_low.proofs.Promises.{Ends-more, Ends-then, assign_ends, conditional_ends}
use Rattle.qw_low.proofs.Results.{at_least}
use Rattle.qw_feed.specs.Feeds.{Tells, Sink, FedTo, FeedsTo}
use Rattle.qw_feed.proofs.Frames.{Never}

module _ (most fuel N : ℕ) (some : 1 ≤ N) where
  -- a local is set
  pub sets : (P : LowState → Type 0) (x : ℕ) (e : Expression) (v : Value) (s : LowState) → value s e ≡ Some v → x < length s.locals → P (record s { locals = slice_set s.locals x v }) → Ends (size (assign x e) * N) P Never (λ code. ⊥) (meaning most fuel (assign x e) s)
  sets P x e v s is room post =
      Ends-more P Never (λ code. ⊥) (cost e + 1) ((cost e + 1) * N) (meaning most fuel (assign x e) s) (at_least (cost e + 1) N some) (assign_ends P Never (λ code. ⊥) most fuel x e v s is room post)

  -- one block after another
  pub in_turn : (M P : LowState → Type 0) (a b : Statement) (s : LowState) → Ends (size a * N) M Never (λ code. ⊥) (meaning most fuel a s) → ((t : LowState) → M t → Ends (size b * N) P Never (λ code. ⊥) (meaning most fuel b t)) →
      Ends (size (seq a b) * N) P Never (λ code. ⊥) (meaning most fuel (seq a b) s)
  in_turn M P a b s first second =
      Ends-more P Never (λ code. ⊥) (size a * N + size b * N) ((size a + size b) * N) (meaning most fuel (seq a b) s) (omega (arith, add-mul (size a) (size b) N))
      (Ends-then P Never (λ code. ⊥) (size a * N) (size b * N) M (meaning most fuel a s) (meaning most fuel b) first second)

  module _ (P : LowState → Type 0) (e : Expression) (a b : Statement) (s : LowState) where
    pub leads_on : IsSet (value s e) → Ends (size a * N) P Never (λ code. ⊥) (meaning most fuel a s) → Ends (size (conditional e a b) * N) P Never (λ code. ⊥) (meaning most fuel (conditional e a b) s)
    leads_on is first =
        Ends-more P Never (λ code. ⊥) (cost e + 1 + size a * N) ((cost e + 1 + (size a + size b)) * N) (meaning most fuel (conditional e a b) s)
        (let one = add-mul (cost e + 1) (size a + size b) N in let two = add-mul (size a) (size b) N in let three = at_least (cost e + 1) N some in omega (arith, one, two, three))
        (conditional_ends P Never (λ code. ⊥) most fuel (size a * N) e a b s (inl (is, first)))

    pub leads_past : value s e ≡ Some (Number 0) → Ends (size b * N) P Never (λ code. ⊥) (meaning most fuel b s) → Ends (size (conditional e a b) * N) P Never (λ code. ⊥) (meaning most fuel (conditional e a b) s)
    leads_past is second =
        Ends-more P Never (λ code. ⊥) (cost e + 1 + size b * N) ((cost e + 1 + (size a + size b)) * N) (meaning most fuel (conditional e a b) s)
        (let one = add-mul (cost e + 1) (size a + size b) N in let two = add-mul (size a) (size b) N in let three = at_least (cost e + 1) N some in omega (arith, one, two, three))
        (conditional_ends P Never (λ code. ⊥) most fuel (size b * N) e a b s (inr (is, second)))

  module _ (sink : Sink) (Old : ℕ → Type 0) (After : LowState → Type 0) (f : Flow (List Val)) (e : Expression) (a b : Statement) (s : LowState) where
    abbrev To : Statement → Type 0
    To c = FeedsTo sink most fuel N Old After f c s

    pub feeds_led : IsSet (value s e) → To a → To (conditional e a b)
    feeds_led is first so_far has room =
        Ends-more (FedTo sink Old After f so_far s) Never (Tells f.codes) (cost e + 1 + size a * N) ((cost e + 1 + (size a + size b)) * N) (meaning most fuel (conditional e a b) s)
        (let one = add-mul (cost e + 1) (size a + size b) N in let two = add-mul (size a) (size b) N in let three = at_least (cost e + 1) N some in omega (arith, one, two, three))
        (conditional_ends (FedTo sink Old After f so_far s) Never (Tells f.codes) most fuel (size a * N) e a b s (inl (is, first so_far has room)))

    pub feeds_past : value s e ≡ Some (Number 0) → To b → To (conditional e a b)
    feeds_past is second so_far has room =
        Ends-more (FedTo sink Old After f so_far s) Never (Tells f.codes) (cost e + 1 + size b * N) ((cost e + 1 + (size a + size b)) * N) (meaning most fuel (conditional e a b) s)
        (let one = add-mul (cost e + 1) (size a + size b) N in let two = add-mul (size a) (size b) N in let three = at_least (cost e + 1) N some in omega (arith, one, two, three))
        (conditional_ends (FedTo sink Old After f so_far s) Never (Tells f.codes) most fuel (size b * N) e a b s (inr (is, second so_far has room)))
