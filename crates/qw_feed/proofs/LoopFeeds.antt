-- A loop over a list, each element of which feeds.
use Rattle.std.proofs.Common.{◌≡◌, ℕ, zero, suc, ◌+◌, ◌*◌, ◌<◌, ◌≤◌, List, [], ◌∷◌, ◌++◌, length, Some, refl, sym, ap, ap₂, subst, arith}
use Rattle.std.proofs.Math.Nat.{add-mul, mul-add}
use Rattle.std.proofs.lemmas.List.{append_assoc, append-nil}
use Rattle.qw_types.specs.declared.code.Code.{Code}
use Rattle.qw_types.specs.declared.value.Val.{Val}
use Rattle.qw_meaning.specs.Flow.{Flow}
use Rattle.qw_low.specs.Syntax.{Expression, Statement, while}
use Rattle.qw_low.specs.State.{Number, LowState}
use Rattle.qw_low.specs.Meaning.{value, cost, Outcome, Completed, counting, and_then, turns, meaning}
use Rattle.qw_low.specs.Promise.{Ends, IsSet}
use Rattle.qw_low.specs.Size.{size}
use Rattle.qw_low.proofs.Promises.{Ends-more, Ends-weaker, Ends-counting, Ends-then, set_leads}
use Rattle.qw_low.proofs.Results.{at_least}
use Rattle.qw_feed.specs.Feeds.{flow_over, Tells, spend, Sink, FedTo, FeedsTo}
use Rattle.qw_feed.proofs.FeedRules.{Tells-left, Tells-right}
use Rattle.qw_feed.proofs.Frames.{Never, Keeps-same, Keeps-then}

-- `At` says which of them are left.
module _ (A : Type 0) (sink : Sink) (most full : ℕ) (Old : ℕ → Type 0) (flow : A → Flow (List Val)) (units : A → ℕ) (e : Expression) (body : Statement)
    (At : List A → LowState → Type 0)
    (at_end : (s : LowState) → At [] s → value s e ≡ Some (Number 0))
    (before_end : (x : A) (left : List A) (s : LowState) → At (x ∷ left) s → IsSet (value s e))
    (step : (x : A) (left : List A) (s : LowState) → At (x ∷ left) s → FeedsTo sink most full (1 + units x) Old (At left) (flow x) body s) where
  abbrev Looped : List A → List (List Val) → LowState → LowState → Type 0
  Looped xs so_far s t = FedTo sink Old (At []) (flow_over flow xs) so_far s t

  abbrev bound : List A → ℕ
  bound [] = cost e + 1
  bound (x ∷ xs) = cost e + 2 + (size body * (1 + units x) + bound xs)

  turns_feed : (xs : List A) (fuel : ℕ) (s : LowState) (so_far : List (List Val)) → length xs < fuel → At xs s → sink.Has so_far s → sink.May (so_far ++ (flow_over flow xs).rows) →
      Ends (bound xs) (Looped xs so_far s) Never (Tells (flow_over flow xs).codes) (turns e (meaning most full body) fuel s)
  turns_feed xs zero s so_far more at has room = absurd (omega arith)
  turns_feed [] (suc fuel) s so_far more at has room = rw (at_end s at) (
    omega arith,
    record { none = refl; keeps = Keeps-same Old sink.Spared s; has = subst (λ (rows : List (List Val)). sink.Has rows s) (sym (append-nil so_far)) has; after = at },
  )
  turns_feed (x ∷ xs) (suc fuel) s so_far more at has room =
      let Post : LowState → Type 0 = Looped (x ∷ xs) so_far s in
      let R : ℕ → Type 0 = Tells (flow_over flow (x ∷ xs)).codes in
      let Mid : LowState → Type 0 = FedTo sink Old (At xs) (flow x) so_far s in
      let whole : sink.May ((so_far ++ (flow x).rows) ++ (flow_over flow xs).rows) = subst sink.May (sym (append_assoc so_far (flow x).rows (flow_over flow xs).rows)) room in
      let later : LowState → Outcome = λ t. turns e (meaning most full body) fuel t in
      set_leads Post Never R (value s e) (bound (x ∷ xs)) (counting (cost e + 2) (and_then (meaning most full body s) later)) (Completed (cost e + 1) s) (λ out. out) (before_end x xs s at)
      (Ends-counting Post Never R (cost e + 2) (cost e + 2) (size body * (1 + units x) + bound xs) (and_then (meaning most full body s) later) (omega arith)
      (Ends-then Post Never R (size body * (1 + units x)) (bound xs) Mid (meaning most full body s) later
      (Ends-weaker (size body * (1 + units x)) (size body * (1 + units x)) Mid Mid Never Never (Tells (flow x).codes) R (meaning most full body s) (omega arith) (λ t y. y) (λ t y. y)
      (λ code. Tells-left (flow x).codes (flow_over flow xs).codes code) (step x xs s at so_far has (sink.beginnings (so_far ++ (flow x).rows) (flow_over flow xs).rows whole)))
      (λ t mid. Ends-weaker (bound xs) (bound xs) (Looped xs (so_far ++ (flow x).rows) t) Post Never Never (Tells (flow_over flow xs).codes) R (later t) (omega arith)
      (λ u done. record {
        none = ap₂ (λ (a b : List Code). a ++ b) mid.none done.none;
        keeps = Keeps-then Old sink.Spared s t u mid.keeps done.keeps;
        has = subst (λ (rows : List (List Val)). sink.Has rows u) (append_assoc so_far (flow x).rows (flow_over flow xs).rows) done.has;
        after = done.after;
      })
      (λ u y. y) (λ code. Tells-right (flow x).codes (flow_over flow xs).codes code)
      (turns_feed xs fuel t (so_far ++ (flow x).rows) (omega arith) mid.after mid.has whole))))

  weighed : (xs : List A) → bound xs ≤ (2 * cost e + 3 + size body) * (1 + spend units xs)
  weighed [] = let one : (2 * cost e + 3 + size body) * 1 ≡ 2 * cost e + 3 + size body = omega arith in omega (arith, one)
  weighed (x ∷ xs) =
      let w : ℕ = 2 * cost e + 3 + size body in
      let u : ℕ = 1 + units x in
      let rest = weighed xs in
      let whole : w * (u + (1 + spend units xs)) ≡ w * u + w * (1 + spend units xs) = mul-add w u (1 + spend units xs) in
      let parts : w * u ≡ (2 * cost e + 3) * u + size body * u = add-mul (2 * cost e + 3) (size body) u in
      let some : 2 * cost e + 3 ≤ (2 * cost e + 3) * u = at_least (2 * cost e + 3) u (omega arith) in
      let same : w * (1 + spend units (x ∷ xs)) ≡ w * (u + (1 + spend units xs)) = ap (λ (m : ℕ). w * m) (omega arith) in
      omega (arith, rest, whole, parts, some, same)

  pub loop_feeds : (xs : List A) (s : LowState) → length xs < full → At xs s → FeedsTo sink most full (1 + spend units xs) Old (At []) (flow_over flow xs) (while e body) s
  loop_feeds xs s more at so_far has room =
      Ends-more (Looped xs so_far s) Never (Tells (flow_over flow xs).codes) (bound xs) (size (while e body) * (1 + spend units xs)) (meaning most full (while e body) s) (weighed xs)
      (turns_feed xs full s so_far more at has room)
