-- Blocks that feed, from their parts.
use Rattle.std.proofs.Common.{◌≡◌, ℕ, ◌+◌, ◌*◌, ◌<◌, ◌≤◌, inl, inr, Bool, true, false, if◌then◌else◌, List, [], ◌∷◌, ◌++◌, length-append, Some, Result, Ok, Err, refl, sym, ap₂, subst, arith}
use Rattle.std.proofs.Math.Nat.{add-mul}
use Rattle.std.proofs.lemmas.List.{append_assoc, append-nil}
use Rattle.std.proofs.lemmas.List.Elements.{Contains-append_left, Contains-append_right}
use Rattle.std.proofs.lemmas.Nat.{mul-le}
use Rattle.qw_types.specs.declared.code.Code.{Code}
use Rattle.qw_types.specs.declared.value.Val.{Val}
use Rattle.qw_meaning.specs.Flow.{Flow}
use Rattle.qw_module.specs.Numbers.{truth}
use Rattle.qw_low.specs.Syntax.{Expression, Statement, skip, seq, conditional}
use Rattle.qw_low.specs.State.{Number, LowState}
use Rattle.qw_low.specs.Meaning.{value, cost, meaning}
use Rattle.qw_low.specs.Promise.{Ends}
use Rattle.qw_low.specs.Raising.{Leaves, Raises, Kept, code_of}
use Rattle.qw_low.specs.Size.{size}
use Rattle.qw_low.proofs.Promises.{Ends-more, Ends-weaker, Ends-then, conditional_ends}
use Rattle.qw_low.proofs.Results.{at_least, Leaves-weaker}
use Rattle.qw_feed.specs.Feeds.{nothing, both, flow_by, Tells, Sink, AtMost, FedTo, FeedsTo}
use Rattle.qw_feed.specs.Frames.{Keeps}
use Rattle.qw_feed.proofs.Frames.{Never, Keeps-same, Keeps-then, Keeps-less, Keeps-kept, Kept-less}

pub Tells-left : (xs ys : List Code) (code : ℕ) → Tells xs code → Tells (xs ++ ys) code
Tells-left xs ys code (inl refused) = inl refused
Tells-left xs ys code (inr one) = inr (one.0, Contains-append_left xs ys one.0 one.1, one.2)

pub Tells-right : (xs ys : List Code) (code : ℕ) → Tells ys code → Tells (xs ++ ys) code
Tells-right xs ys code (inl refused) = inl refused
Tells-right xs ys code (inr one) = inr (one.0, Contains-append_right xs ys one.0 one.1, one.2)

pub raised-tells : {A : Type 0} (r : Result A Code) (work : A → Flow (List Val)) (code : ℕ) → Raises r code → Tells (flow_by r work).codes code
raised-tells (Ok v) work code raises = absurd raises
raised-tells (Err c) work code raises = inr (c, (0, omega arith, refl), raises)

-- at most so many rows, and so of their beginnings
pub fewer : (total : ℕ) (rows more : List (List Val)) → AtMost total (rows ++ more) → AtMost total rows
fewer total rows more few = omega (arith, few, length-append rows more)

module _ (sink : Sink) (most fuel : ℕ) where
  abbrev To : (N : ℕ) → (ℕ → Type 0) → (LowState → Type 0) → Flow (List Val) → Statement → LowState → Type 0
  To = FeedsTo sink most fuel

  abbrev Done : (ℕ → Type 0) → (LowState → Type 0) → Flow (List Val) → List (List Val) → LowState → LowState → Type 0
  Done = FedTo sink

  -- more instructions, fewer locals that are kept, less that holds
  pub feeds_weaker : (N M : ℕ) (Old Old' : ℕ → Type 0) (After After' : LowState → Type 0) (f : Flow (List Val)) (a : Statement) (s : LowState) → N ≤ M → ((i : ℕ) → Old' i → Old i) → ((t : LowState) → Keeps Old sink.Spared s t → After t → After' t) →
      To N Old After f a s → To M Old' After' f a s
  feeds_weaker N M Old Old' After After' f a s le old after h so_far has room =
      Ends-weaker (size a * N) (size a * M) (Done Old After f so_far s) (Done Old' After' f so_far s) Never Never (Tells f.codes) (Tells f.codes) (meaning most fuel a s) (mul-le (size a) N (size a) M (omega arith) le)
      (λ t fed. record { none = fed.none; keeps = Keeps-less Old' sink.Spared Old sink.Spared s t old (λ at width spared. spared) fed.keeps; has = fed.has; after = after t fed.keeps fed.after })
      (λ t x. x) (λ code x. x) (h so_far has room)

  pub feeds_skip : (N : ℕ) (Old : ℕ → Type 0) (After : LowState → Type 0) (s : LowState) → After s → To N Old After nothing skip s
  feeds_skip N Old After s after so_far has room = (omega arith, record { none = refl; keeps = Keeps-same Old sink.Spared s; has = subst (λ (rows : List (List Val)). sink.Has rows s) (sym (append-nil so_far)) has; after = after })

  -- a choice by a test
  pub feeds_choose : (N : ℕ) (Old : ℕ → Type 0) (After : LowState → Type 0) (f f' : Flow (List Val)) (e : Expression) (g : Bool) (a b : Statement) (s : LowState) → 1 ≤ N → value s e ≡ Some (Number (truth g)) →
      (g ≡ true → To N Old After f a s) → (g ≡ false → To N Old After f' b s) → To N Old After (if g then f else f') (conditional e a b) s
  feeds_choose N Old After f f' e true a b s some is first second so_far has room =
      Ends-more (Done Old After f so_far s) Never (Tells f.codes) (cost e + 1 + size a * N) ((cost e + 1 + (size a + size b)) * N) (meaning most fuel (conditional e a b) s)
      (let one = add-mul (cost e + 1) (size a + size b) N in let two = add-mul (size a) (size b) N in let three = at_least (cost e + 1) N some in omega (arith, one, two, three))
      (conditional_ends (Done Old After f so_far s) Never (Tells f.codes) most fuel (size a * N) e a b s (inl (inl (0, is), first refl so_far has room)))
  feeds_choose N Old After f f' e false a b s some is first second so_far has room =
      Ends-more (Done Old After f' so_far s) Never (Tells f'.codes) (cost e + 1 + size b * N) ((cost e + 1 + (size a + size b)) * N) (meaning most fuel (conditional e a b) s)
      (let one = add-mul (cost e + 1) (size a + size b) N in let two = add-mul (size a) (size b) N in let three = at_least (cost e + 1) N some in omega (arith, one, two, three))
      (conditional_ends (Done Old After f' so_far s) Never (Tells f'.codes) most fuel (size b * N) e a b s (inr (is, second refl so_far has room)))

  -- what a block keeps that feeds nothing
  abbrev pub Quiet : (ℕ → Type 0) → LowState → LowState → Type 0
  Quiet Old s t = Keeps Old sink.Spared s t × ((rows : List (List Val)) → sink.Has rows s → sink.Has rows t)

  -- a block of one's own, and then what feeds
  pub feeds_then : (N : ℕ) (Old : ℕ → Type 0) (P After : LowState → Type 0) (f : Flow (List Val)) (a b : Statement) (s : LowState) →
      Ends (size a * N) (λ t. Quiet Old s t × P t) Never (λ code. ⊥) (meaning most fuel a s) → ((t : LowState) → Keeps Old sink.Spared s t → P t → To N Old After f b t) → To N Old After f (seq a b) s
  feeds_then N Old P After f a b s first second so_far has room =
      let Post : LowState → Type 0 = Done Old After f so_far s in
      let Mid : LowState → Type 0 = λ t. Quiet Old s t × P t in
      Ends-more Post Never (Tells f.codes) (size a * N + size b * N) ((size a + size b) * N) (meaning most fuel (seq a b) s) (omega (arith, add-mul (size a) (size b) N))
      (Ends-then Post Never (Tells f.codes) (size a * N) (size b * N) Mid (meaning most fuel a s) (meaning most fuel b)
      (Ends-weaker (size a * N) (size a * N) Mid Mid Never Never (λ code. ⊥) (Tells f.codes) (meaning most fuel a s) (omega arith) (λ t x. x) (λ t x. x) (λ code x. absurd x) first)
      (λ t mid. Ends-weaker (size b * N) (size b * N) (Done Old After f so_far t) Post Never Never (Tells f.codes) (Tells f.codes) (meaning most fuel b t) (omega arith)
      (λ u fed. record { none = fed.none; keeps = Keeps-then Old sink.Spared s t u mid.0.0 fed.keeps; has = fed.has; after = fed.after }) (λ u x. x) (λ code x. x)
      (second t mid.0.0 mid.1 so_far (mid.0.1 so_far has) room)))

  -- what feeds, and then a block of one's own
  pub feeds_before : (N : ℕ) (Old Old' : ℕ → Type 0) (Mid After : LowState → Type 0) (f : Flow (List Val)) (a b : Statement) (s : LowState) → ((i : ℕ) → Old i → Old' i) → To N Old' Mid f a s →
      ((t : LowState) → Keeps Old' sink.Spared s t → Mid t → Ends (size b * N) (λ u. Quiet Old t u × After u) Never (λ code. ⊥) (meaning most fuel b t)) → To N Old After f (seq a b) s
  feeds_before N Old Old' Mid After f a b s old first second so_far has room =
      let Post : LowState → Type 0 = Done Old After f so_far s in
      Ends-more Post Never (Tells f.codes) (size a * N + size b * N) ((size a + size b) * N) (meaning most fuel (seq a b) s) (omega (arith, add-mul (size a) (size b) N))
      (Ends-then Post Never (Tells f.codes) (size a * N) (size b * N) (Done Old' Mid f so_far s) (meaning most fuel a s) (meaning most fuel b) (first so_far has room)
      (λ t fed. Ends-weaker (size b * N) (size b * N) (λ u. Quiet Old t u × After u) Post Never Never (λ code. ⊥) (Tells f.codes) (meaning most fuel b t) (omega arith)
      (λ u done. record {
        none = fed.none;
        keeps = Keeps-then Old sink.Spared s t u (Keeps-less Old sink.Spared Old' sink.Spared s t old (λ at width spared. spared) fed.keeps) done.0.0;
        has = done.0.1 (so_far ++ f.rows) fed.has;
        after = done.1;
      }) (λ u x. x) (λ code x. absurd x)
      (second t fed.keeps fed.after)))

  -- two that feed
  pub feeds_both : (N : ℕ) (Old : ℕ → Type 0) (Mid After : LowState → Type 0) (f g : Flow (List Val)) (a b : Statement) (s : LowState) → To N Old Mid f a s → ((t : LowState) → Keeps Old sink.Spared s t → Mid t → To N Old After g b t) →
      To N Old After (both f g) (seq a b) s
  feeds_both N Old Mid After f g a b s first second so_far has room =
      let Post : LowState → Type 0 = Done Old After (both f g) so_far s in
      let R : ℕ → Type 0 = Tells (f.codes ++ g.codes) in
      let whole : sink.May ((so_far ++ f.rows) ++ g.rows) = subst sink.May (sym (append_assoc so_far f.rows g.rows)) room in
      Ends-more Post Never R (size a * N + size b * N) ((size a + size b) * N) (meaning most fuel (seq a b) s) (omega (arith, add-mul (size a) (size b) N))
      (Ends-then Post Never R (size a * N) (size b * N) (Done Old Mid f so_far s) (meaning most fuel a s) (meaning most fuel b)
      (Ends-weaker (size a * N) (size a * N) (Done Old Mid f so_far s) (Done Old Mid f so_far s) Never Never (Tells f.codes) R (meaning most fuel a s) (omega arith) (λ t x. x) (λ t x. x) (λ code. Tells-left f.codes g.codes code)
      (first so_far has (sink.beginnings (so_far ++ f.rows) g.rows whole)))
      (λ t fed. Ends-weaker (size b * N) (size b * N) (Done Old After g (so_far ++ f.rows) t) Post Never Never (Tells g.codes) R (meaning most fuel b t) (omega arith)
      (λ u done. record {
        none = ap₂ (λ (x y : List Code). x ++ y) fed.none done.none;
        keeps = Keeps-then Old sink.Spared s t u fed.keeps done.keeps;
        has = subst (λ (rows : List (List Val)). sink.Has rows u) (append_assoc so_far f.rows g.rows) done.has;
        after = done.after;
      }) (λ u x. x) (λ code. Tells-right f.codes g.codes code)
      (second t fed.keeps fed.after (so_far ++ f.rows) fed.has whole)))

  -- what raises, whatever follows
  pub feeds_raised : (N : ℕ) (Old : ℕ → Type 0) (Mid After : LowState → Type 0) (f : Flow (List Val)) (a b : Statement) (s : LowState) → (f.codes ≡ [] → ⊥) → To N Old Mid f a s → To N Old After f (seq a b) s
  feeds_raised N Old Mid After f a b s some first so_far has room =
      let Post : LowState → Type 0 = Done Old After f so_far s in
      Ends-more Post Never (Tells f.codes) (size a * N + size b * N) ((size a + size b) * N) (meaning most fuel (seq a b) s) (omega (arith, add-mul (size a) (size b) N))
      (Ends-then Post Never (Tells f.codes) (size a * N) (size b * N) (Done Old Mid f so_far s) (meaning most fuel a s) (meaning most fuel b) (first so_far has room) (λ t fed. absurd (some fed.none)))

  pub feeds_more : (N M : ℕ) (Old : ℕ → Type 0) (After : LowState → Type 0) (f : Flow (List Val)) (a : Statement) (s : LowState) → N ≤ M → To N Old After f a s → To M Old After f a s
  feeds_more N M Old After f a s le h = feeds_weaker N M Old Old After After f a s le (λ i old. old) (λ t keeps after. after) h

  pub feeds_less : (N : ℕ) (Old Old' : ℕ → Type 0) (After : LowState → Type 0) (f : Flow (List Val)) (a : Statement) (s : LowState) → ((i : ℕ) → Old' i → Old i) → To N Old After f a s → To N Old' After f a s
  feeds_less N Old Old' After f a s old h = feeds_weaker N N Old Old' After After f a s (omega arith) old (λ t keeps after. after) h

  -- a block that leaves a value or raises, and then what feeds by the value
  pub feeds_by : {A : Type 0} (N : ℕ) (Old : ℕ → Type 0) (P : A → LowState → Type 0) (After : LowState → Type 0) (r : Result A Code) (work : A → Flow (List Val)) (a b : Statement) (s : LowState) →
      Ends (size a * N) (Leaves (λ v t. Quiet Old s t × P v t) r) Never (Raises r) (meaning most fuel a s) → ((v : A) (t : LowState) → r ≡ Ok v → Keeps Old sink.Spared s t → P v t → To N Old After (work v) b t) →
      To N Old After (flow_by r work) (seq a b) s
  feeds_by N Old P After (Ok v) work a b s first second so_far has room = feeds_then N Old (P v) After (work v) a b s
      (Ends-weaker (size a * N) (size a * N) (λ t. Quiet Old s t × P v t) (λ t. Quiet Old s t × P v t) Never Never (λ code. ⊥) (λ code. ⊥) (meaning most fuel a s) (omega arith) (λ t x. x) (λ t x. x) (λ code x. x) first)
      (λ t keeps post. second v t refl keeps post) so_far has room
  feeds_by N Old P After (Err c) work a b s first second so_far has room =
      let R : ℕ → Type 0 = Tells (c ∷ []) in
      let Post : LowState → Type 0 = Done Old After (record { rows = []; codes = c ∷ [] }) so_far s in
      Ends-more Post Never R (size a * N + size b * N) ((size a + size b) * N) (meaning most fuel (seq a b) s) (omega (arith, add-mul (size a) (size b) N))
      (Ends-then Post Never R (size a * N) (size b * N) Never (meaning most fuel a s) (meaning most fuel b)
      (Ends-weaker (size a * N) (size a * N) Never Never Never Never (λ code. code ≡ code_of c) R (meaning most fuel a s) (omega arith) (λ t x. x) (λ t x. x) (λ code raises. inr (c, (0, omega arith, refl), raises)) first)
      (λ t h. absurd h))

  -- ---- blocks that set locals alone, from one on, of which the sink knows nothing
  module _ (n : ℕ) (Old : ℕ → Type 0) (old_low : (i : ℕ) → Old i → i < n) (has_kept : (rows : List (List Val)) (s t : LowState) → Kept n s t → sink.Has rows s → sink.Has rows t) where
    pub quiet : (m : ℕ) (s t : LowState) → n ≤ m → Kept m s t → Quiet Old s t
    quiet m s t le kept =
        let under : Kept n s t = Kept-less n m s t le kept in
        (Keeps-kept Old sink.Spared n s t old_low under, λ rows. has_kept rows s t under)

    pub own_then : (N m : ℕ) (P After : LowState → Type 0) (f : Flow (List Val)) (a b : Statement) (s : LowState) → n ≤ m →
        Ends (size a * N) (λ t. Kept m s t × P t) Never (λ code. ⊥) (meaning most fuel a s) → ((t : LowState) → Kept m s t → P t → To N Old After f b t) → To N Old After f (seq a b) s
    own_then N m P After f a b s le first second = feeds_then N Old (λ t. Kept m s t × P t) After f a b s
        (Ends-weaker (size a * N) (size a * N) (λ t. Kept m s t × P t) (λ t. Quiet Old s t × (Kept m s t × P t)) Never Never (λ code. ⊥) (λ code. ⊥) (meaning most fuel a s) (omega arith)
        (λ t h. (quiet m s t le h.0, h)) (λ t x. x) (λ code x. x) first)
        (λ t keeps h. second t h.0 h.1)

    pub own_by : {A : Type 0} (N m : ℕ) (P : A → LowState → Type 0) (After : LowState → Type 0) (r : Result A Code) (work : A → Flow (List Val)) (a b : Statement) (s : LowState) → n ≤ m →
        Ends (size a * N) (Leaves (λ v t. Kept m s t × P v t) r) Never (Raises r) (meaning most fuel a s) → ((v : A) (t : LowState) → r ≡ Ok v → Kept m s t → P v t → To N Old After (work v) b t) →
        To N Old After (flow_by r work) (seq a b) s
    own_by {A} N m P After r work a b s le first second = feeds_by {A = A} N Old (λ v t. Kept m s t × P v t) After r work a b s
        (Ends-weaker (size a * N) (size a * N) (Leaves (λ v t. Kept m s t × P v t) r) (Leaves (λ v t. Quiet Old s t × (Kept m s t × P v t)) r) Never Never (Raises r) (Raises r) (meaning most fuel a s) (omega arith)
        (Leaves-weaker most fuel N {A = A} (λ v t. Kept m s t × P v t) (λ v t. Quiet Old s t × (Kept m s t × P v t)) r (λ v t is h. (quiet m s t le h.0, h))) (λ t x. x) (λ code x. x) first)
        (λ v t is keeps h. second v t is h.0 h.1)
