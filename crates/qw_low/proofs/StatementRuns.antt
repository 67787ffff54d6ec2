-- A statement's code before code that follows does what the statement means, on its path: with its requests and its number of instructions.
use Rattle.std.proofs.Common.{◌≡◌, ◌≢◌, ℕ, zero, suc, ◌+◌, ◌*◌, ◌%◌, ◌^◌, ◌<◌, ◌≤◌, inr, true, false, nat_le, nat_lt, List, [], ◌∷◌, length, Option, Some, None, option_and_then, slice_get, slice_set, refl, sym, subst, ⊎_elim, arith}
use Rattle.std.proofs.lemmas.Bool.{cases_Bool, and_parts, leb-true, ltb-true}
use Rattle.qw_linear.specs.Memory.{page, most_pages}
use Rattle.qw_module.specs.declared.instruction.Op.TheVariants as o
use Rattle.qw_module.specs.declared.instruction.Const.TheVariants as const
use Rattle.qw_module.specs.declared.instruction.ValType.TheVariants.{I32}
use Rattle.qw_module.specs.declared.instruction.Binary.TheVariants.{Mul}
use Rattle.qw_module.specs.Numbers.{store_width}
use Rattle.qw_module.specs.Syntax.{Code, done, op, if_then, if_else, br_if, call}
use Rattle.qw_module.specs.Execution.{Store, Context, State, Returned, Raised, IsOver, left, refusal}
use Rattle.qw_module.specs.Step.{wants, Goes}
use Rattle.qw_map.specs.Areas.{World}
use Rattle.qw_map.specs.Runs.{Moment}
use Rattle.qw_module.proofs.Sound.{settled-unfinished}
use Rattle.std.specs.Prelude.{◌==◌, ◌&&◌}
use Rattle.std.proofs.Common.{set-set, ne_eqb, length-set}
use Rattle.qw_map.proofs.TurnFacts.{slice_get-set_same}
use Rattle.qw_map.proofs.RunRules.{with_granted, with_refused}
use Rattle.qw_low.specs.Syntax.{Expression, Statement, skip, seq, assign, load, store, conditional, while, request, raise, exit}
use Rattle.qw_low.specs.State.{Own, Value, Number, Address, LowState, stored_as, with_pages}
use Rattle.qw_low.specs.Meaning.{value, cost, Outcome, Completed, Exited, Stopped, Wrong, Unfinished, counting, and_then, with_local, found_at, put_at, by_value, unless_zero, turns, raised, requested, meaning}
use Rattle.qw_low.specs.Translation.{expression_code, statement_code, raising, setting, to_octets, on_answer}
use Rattle.qw_low.specs.Places.{AreMeant, StandsFor, HasHosts}
use Rattle.qw_low.specs.Inner.Exact.{Rest, asks, Then}
use Rattle.qw_low.proofs.ExactSteps.{Comes, LooksAhead, looks_ahead, counted, raises, ask_granted, ask_refused, weaker, knowing}
use Rattle.qw_low.proofs.Paths.{set_steps, Steps, quietly, delayed, asking, steps_then, steps_by, steps_unless, steps_turns, steps_asked, steps}
use Rattle.qw_low.proofs.QuietRuns.{relocated, inside, again, the_loop, in_loop, Tells, QuietTo, steps_from, steps_to, setting_runs, assign_runs, load_runs, store_runs, runs_on, answered_by, asks_for, tests, raise_runs, exit_runs}
use Rattle.qw_low.proofs.Standing.{stable, length-meant, set-meant}
use Rattle.qw_low.proofs.Grants.{AreMeant-more, stands-more, new, new-there, stands-refused}
use Rattle.qw_low.proofs.ExpressionRuns.{standing, config, op_goes}

module _ (pages : ℕ) (Q : Moment → Type 0) (module_store : Store) where
  abbrev A : Rest → Moment → Type 0
  A rest = Then pages Q rest

  -- The code from a state on has this outcome, on this path: it goes on with what follows, or returns, or raises.
  abbrev pub RunsTo : Outcome → Steps → World → (List ℕ → Type 0) → State → (List ℕ → State) → Type 0
  RunsTo (Completed n t) τ w M state following = (j : ℕ) (r : Rest) →
      ((w' : World) (xs : List ℕ) → AreMeant w' t.locals xs → Comes (A r) w' (StandsFor w' t) j (following xs)) → Comes (A (τ j r).rest) w M (τ j r).quiet state
  RunsTo (Exited n t) τ w M state following = (j : ℕ) (r : Rest) →
      ((w' : World) → Comes (A r) w' (StandsFor w' t) j Returned) → Comes (A (τ j r).rest) w M (τ j r).quiet state
  RunsTo (Stopped code n t) τ w M state following = (j : ℕ) (r : Rest) →
      ((w' : World) → Comes (A r) w' (StandsFor w' t) j (Raised code)) → Comes (A (τ j r).rest) w M (τ j r).quiet state
  RunsTo Wrong τ w M state following = Unit {0}
  RunsTo Unfinished τ w M state following = Unit {0}

  -- a return from these contexts ends the run: no frame awaits
  abbrev pub EndsRun : List Context → Type 0
  EndsRun contexts = left module_store contexts [] ≡ Some Returned

  -- what asks for no pages
  quiet_runs : (n : ℕ) (out : Outcome) (w : World) (M : List ℕ → Type 0) (state : State) (following : List ℕ → State) →
      ((r : Rest) → QuietTo (A r) module_store n out w M state following) → RunsTo out (quietly n) w M state following
  quiet_runs n (Completed m t) w M state following runs = λ j r onward. runs r j onward
  quiet_runs n (Exited m t) w M state following runs = λ j r onward. runs r j onward
  quiet_runs n (Stopped code m t) w M state following runs = λ j r onward. runs r j onward
  quiet_runs n Wrong w M state following runs = tt
  quiet_runs n Unfinished w M state following runs = tt

  counting_runs : (m : ℕ) (out : Outcome) (τ : Steps) (w w' : World) (M M' : List ℕ → Type 0) (state state' : State) (following : List ℕ → State) →
      ((n : ℕ) (r : Rest) → Comes (A r) w' M' n state' → Comes (A r) w M (m + n) state) → RunsTo out τ w' M' state' following → RunsTo (counting m out) (delayed m τ) w M state following
  counting_runs m (Completed n t) τ w w' M M' state state' following lead runs = λ j r onward. lead (τ j r).quiet (τ j r).rest (runs j r onward)
  counting_runs m (Exited n t) τ w w' M M' state state' following lead runs = λ j r onward. lead (τ j r).quiet (τ j r).rest (runs j r onward)
  counting_runs m (Stopped code n t) τ w w' M M' state state' following lead runs = λ j r onward. lead (τ j r).quiet (τ j r).rest (runs j r onward)
  counting_runs m Wrong τ w w' M M' state state' following lead runs = tt
  counting_runs m Unfinished τ w w' M M' state state' following lead runs = tt

  then_runs : (n : ℕ) (t : LowState) (out : Outcome) (σ τ : Steps) (w : World) (M : List ℕ → Type 0) (state : State) (middle following : List ℕ → State) →
      RunsTo (Completed n t) σ w M state middle →
      ((w' : World) (xs : List ℕ) → AreMeant w' t.locals xs → RunsTo out τ w' (StandsFor w' t) (middle xs) following) →
      RunsTo (counting n out) (λ j r. σ (τ j r).quiet (τ j r).rest) w M state following
  then_runs n t (Completed m u) σ τ w M state middle following first second = λ j r onward. first (τ j r).quiet (τ j r).rest (λ w' xs are. second w' xs are j r onward)
  then_runs n t (Exited m u) σ τ w M state middle following first second = λ j r onward. first (τ j r).quiet (τ j r).rest (λ w' xs are. second w' xs are j r onward)
  then_runs n t (Stopped code m u) σ τ w M state middle following first second = λ j r onward. first (τ j r).quiet (τ j r).rest (λ w' xs are. second w' xs are j r onward)
  then_runs n t Wrong σ τ w M state middle following first second = tt
  then_runs n t Unfinished σ τ w M state middle following first second = tt

  and_then_runs : (out : Outcome) (f : LowState → Outcome) (σ : Steps) (τ : LowState → Steps) (w : World) (M : List ℕ → Type 0) (state : State) (middle following : List ℕ → State) →
      RunsTo out σ w M state middle →
      ((t : LowState) (w' : World) (xs : List ℕ) → AreMeant w' t.locals xs → RunsTo (f t) (τ t) w' (StandsFor w' t) (middle xs) following) →
      RunsTo (and_then out f) (steps_then out σ τ) w M state following
  and_then_runs (Completed n t) f σ τ w M state middle following first second = then_runs n t (f t) σ (τ t) w M state middle following first (second t)
  and_then_runs (Exited n t) f σ τ w M state middle following first second = first
  and_then_runs (Stopped code n t) f σ τ w M state middle following first second = first
  and_then_runs Wrong f σ τ w M state middle following first second = tt
  and_then_runs Unfinished f σ τ w M state middle following first second = tt

  module _ (s : LowState) (w : World) (xs : List ℕ) (are : AreMeant w s.locals xs) (contexts : List Context) where
    granted_runs : ((r : Rest) → LooksAhead (A r)) → HasHosts module_store → (e : Expression) (count x : ℕ) (k : Code) → value s e ≡ Some (Number count) → nat_lt x (length s.locals) ≡ true → 1 ≤ count → w.held + count ≤ pages → w.held + count ≤ w.limit →
        RunsTo (Completed (cost e + 9) (record (with_pages s count) { locals = slice_set s.locals x (Address (Own (length s.own)) 0) })) (asking (cost e) count true (7 + set_steps x k)) w (StandsFor w s)
        (standing module_store (statement_code (request e x) k) [] xs contexts) (λ ys. standing module_store k [] ys contexts)
    granted_runs ahead imported e zero x k is room some within fits = absurd (omega arith)
    granted_runs ahead imported e (suc less) x k is room some within fits = λ j r onward.
        let room_here : nat_lt x (length xs) ≡ true = rw (length-meant w s.locals xs are) room in
        let below : x < length xs = ltb-true x (length xs) room_here in
        let after_grow : Code = on_answer x k in
        let last : ℕ = set_steps x k + j in
        let first : Rest = asks (suc less) true (7 + set_steps x k + j) r in
        knowing (A first) w (StandsFor w s) (cost e) _ (λ memory0 h0.
        counted (A first) w (StandsFor w s) (cost e + 0) (cost e) _ (omega arith)
        (asks_for (A first) module_store s w xs are contexts e (suc less) x k is memory0 h0 0
        (subst (λ (state : State). Comes (A first) w (StandsFor w s) 0 state) (sym (settled-unfinished module_store contexts (call 1 after_grow) ((suc less) ∷ []) xs (λ e. cc)))
        (ask_granted pages Q r w (StandsFor w s) (stable w s) (λ first. first + suc less ≤ most_pages) (λ first. StandsFor (with_granted w (first * page) (suc less)) (with_pages s (suc less))) (7 + set_steps x k + j)
        (config module_store (call 1 after_grow) ((suc less) ∷ []) xs contexts) (suc less) (λ n. standing module_store after_grow (n ∷ []) xs contexts) (rw (imported.1) refl) within
        (λ found. runs_on (A r) module_store s w xs are contexts after_grow (found ∷ []) xs (λ e. cc)) fits
        (λ m first h there placed. (there.0, stands-more w s less first m h placed (let most = there.0 in omega (arith, most))))
        (λ n is.
        let start : ℕ = n * page in
        let w' : World = with_granted w start (suc less) in
        let t : LowState = with_pages s (suc less) in
        let ys : List ℕ = slice_set xs x n in
        let there : slice_get ys x ≡ Some n = slice_get-set_same xs x n below in
        let not_refused : (n == refusal) ≡ false = ne_eqb n refusal (λ e. omega (arith, is, e)) in
        let same : n * page % 2 ^ 32 ≡ start = omega (arith, is) in
        let again : slice_set ys x start ≡ slice_set xs x start = set-set xs x n start in
        let v : Value = Address (Own (length s.own)) 0 in
        counted (A r) w' (StandsFor w' t) (suc (suc (suc (suc (suc (suc (suc last))))))) (7 + set_steps x k + j) _ (omega arith)
        (answered_by (A r) module_store s w xs are contexts w' t n 0 x k (suc (suc (suc (suc last)))) room_here (rw not_refused refl)
        (steps_from (A r) module_store s w xs are contexts w' t ys (if_then None (raising 3 done) (to_octets x k)) (0 ∷ []) (suc (suc (suc last))) (standing module_store (to_octets x k) [] ys contexts) (λ e. cc) refl
        (op_goes (A r) module_store contexts w' t ys (o.LocalGet x) (op (o.Const (const.I32 page)) (op (o.Binary I32 Mul) (setting x k))) [] (n ∷ []) ys (suc (suc last)) (rw there refl)
        (op_goes (A r) module_store contexts w' t ys (o.Const (const.I32 page)) (op (o.Binary I32 Mul) (setting x k)) (n ∷ []) (page ∷ n ∷ []) ys (suc last) refl
        (op_goes (A r) module_store contexts w' t ys (o.Binary I32 Mul) (setting x k) (page ∷ n ∷ []) (start ∷ []) ys last (rw same refl)
        (setting_runs (A r) module_store s w xs are contexts (ahead r) w' t ys x start k j (rw (length-set xs x n) room_here)
        (subst (λ (zs : List ℕ). Comes (A r) w' (StandsFor w' t) j (standing module_store k [] zs contexts)) (sym again)
        (weaker (A r) w' (StandsFor w' t) (StandsFor w' (record t { locals = slice_set s.locals x v })) j (standing module_store k [] (slice_set xs x start) contexts)
        (λ memory h. relocated w' t (slice_set s.locals x v) memory h)
        (onward w' (slice_set xs x start) (set-meant w' s.locals xs (AreMeant-more w s less n s.locals xs are) x v start
        (new w s less n, new-there w s less n h0.fits, omega arith, omega arith))))))))))))))))

    refused_runs : HasHosts module_store → (e : Expression) (count x : ℕ) (k : Code) → value s e ≡ Some (Number count) → nat_lt x (length s.locals) ≡ true → w.held + count ≤ pages → nat_le (w.held + count) w.limit ≡ false →
        RunsTo (Stopped 3 (cost e + 7) (record s { refused = Some count })) (asking (cost e) count false 6) w (StandsFor w s) (standing module_store (statement_code (request e x) k) [] xs contexts) (λ ys. standing module_store k [] ys contexts)
    refused_runs imported e count x k is room within past = λ j r onward.
        let room_here : nat_lt x (length xs) ≡ true = rw (length-meant w s.locals xs are) room in
        let after_grow : Code = on_answer x k in
        let w' : World = with_refused w count in
        let t : LowState = record s { refused = Some count } in
        let ys : List ℕ = slice_set xs x refusal in
        let around : List Context = inside (to_octets x k) contexts in
        let first : Rest = asks count false (6 + j) r in
        knowing (A first) w (StandsFor w s) (cost e) _ (λ memory0 h0.
        counted (A first) w (StandsFor w s) (cost e + 0) (cost e) _ (omega arith)
        (asks_for (A first) module_store s w xs are contexts e count x k is memory0 h0 0
        (subst (λ (state : State). Comes (A first) w (StandsFor w s) 0 state) (sym (settled-unfinished module_store contexts (call 1 after_grow) (count ∷ []) xs (λ e. cc)))
        (ask_refused pages Q r w (StandsFor w s) (stable w s) (6 + j) (config module_store (call 1 after_grow) (count ∷ []) xs contexts) count (λ n. standing module_store after_grow (n ∷ []) xs contexts) (rw (imported.1) refl) within
        (λ found. runs_on (A r) module_store s w xs are contexts after_grow (found ∷ []) xs (λ e. cc)) past
        (weaker (A r) w' (StandsFor w s) (StandsFor w' t) (6 + j) (standing module_store after_grow (refusal ∷ []) xs contexts) (λ m h. stands-refused w s count m h)
        (counted (A r) w' (StandsFor w' t) (suc (suc (suc (suc (suc (suc j)))))) (6 + j) _ (omega arith)
        (answered_by (A r) module_store s w xs are contexts w' t refusal 1 x k (suc (suc (suc j))) room_here refl
        (steps_from (A r) module_store s w xs are contexts w' t ys (if_then None (raising 3 done) (to_octets x k)) (1 ∷ []) (suc (suc j)) (standing module_store (raising 3 done) [] ys around) (λ e. cc) refl
        (op_goes (A r) module_store around w' t ys (o.Const (const.I32 3)) (call 0 done) [] (3 ∷ []) ys (suc j) refl
        (subst (λ (state : State). Comes (A r) w' (StandsFor w' t) (suc j) state) (sym (settled-unfinished module_store around (call 0 done) (3 ∷ []) ys (λ e. cc)))
        (raises (A r) w' (StandsFor w' t) (stable w' t) j (config module_store (call 0 done) (3 ∷ []) ys around) 3 (rw (imported.0) refl) (inr (inr (refl, refl))) (onward w'))))))))))))

    request_runs : ((r : Rest) → LooksAhead (A r)) → HasHosts module_store → (e : Expression) (x : ℕ) (k : Code) (found : Option Value) → value s e ≡ found →
        RunsTo (requested pages (cost e) s x found) (steps_asked (cost e) (7 + set_steps x k) s found) w (StandsFor w s) (standing module_store (statement_code (request e x) k) [] xs contexts) (λ ys. standing module_store k [] ys contexts)
    request_runs ahead imported e x k None is = tt
    request_runs ahead imported e x k (Some (Address p off)) is = tt
    request_runs ahead imported e x k (Some (Number count)) is = ⊎_elim
        (λ sound. rw sound
        (let parts = and_parts (nat_lt x (length s.locals)) (nat_le 1 count && nat_le (s.held + count) pages) sound in
        let more_parts = and_parts (nat_le 1 count) (nat_le (s.held + count) pages) parts.1 in
        let some : 1 ≤ count = leb-true 1 count more_parts.0 in
        let within : s.held + count ≤ pages = leb-true (s.held + count) pages more_parts.1 in
        ⊎_elim
        (λ fits. rw fits (λ j r onward. knowing (A (asks count true (7 + set_steps x k + j) r)) w (StandsFor w s) (cost e) _ (λ m h.
        let limit_is : w.limit ≡ s.limit = h.fits.limit in
        let held_is : w.held ≡ s.held = h.fits.held in
        granted_runs ahead imported e count x k is parts.0 some (omega arith) (let le = leb-true (s.held + count) s.limit fits in omega arith) j r onward)))
        (λ past. rw past (λ j r onward. knowing (A (asks count false (6 + j) r)) w (StandsFor w s) (cost e) _ (λ m h.
        refused_runs imported e count x k is parts.0 (omega (arith, h.fits.held)) (rw (h.fits.limit, h.fits.held) past) j r onward)))
        (cases_Bool (nat_le (s.held + count) s.limit))))
        (λ unsound. rw unsound tt)
        (cases_Bool (nat_lt x (length s.locals) && (nat_le 1 count && nat_le (s.held + count) pages)))

  -- the code of a statement, wherever it stands, runs to what it means of a state
  abbrev pub StatementRuns : Statement → (LowState → Outcome) → (Code → LowState → Steps) → Type 0
  StatementRuns a means τ = (s : LowState) (w : World) (xs : List ℕ) → AreMeant w s.locals xs → (contexts : List Context) → EndsRun contexts → (k : Code) →
      RunsTo (means s) (τ k s) w (StandsFor w s) (standing module_store (statement_code a k) [] xs contexts) (λ ys. standing module_store k [] ys contexts)

  -- a choice by a number that is known
  chosen : (e : Expression) (a b : Statement) (means_a means_b : LowState → Outcome) (σ τ : Code → LowState → Steps) → StatementRuns a means_a σ → StatementRuns b means_b τ → (s : LowState) (w : World) (xs : List ℕ) → AreMeant w s.locals xs → (contexts : List Context) → EndsRun contexts → (k : Code) →
      (n : ℕ) → Tells (value s e) n →
      RunsTo (counting (cost e + 1) (unless_zero n (means_a s) (means_b s))) (delayed (cost e + 1) (steps_unless n (σ done s) (τ done s))) w (StandsFor w s) (standing module_store (expression_code e (if_else None (statement_code a done) (statement_code b done) k)) [] xs contexts) (λ ys. standing module_store k [] ys contexts)
  chosen e a b means_a means_b σ τ runs_a runs_b s w xs are contexts ends k zero is =
      counting_runs (cost e + 1) (means_b s) (τ done s) w w (StandsFor w s) (StandsFor w s) (standing module_store (expression_code e (if_else None (statement_code a done) (statement_code b done) k)) [] xs contexts)
      (standing module_store (statement_code b done) [] xs (inside k contexts)) (λ ys. standing module_store k [] ys contexts)
      (λ m r comes. tests (A r) module_store s w xs are contexts e (if_else None (statement_code a done) (statement_code b done) k) zero is m
      (λ word it. rw it (steps_to (A r) module_store s w xs are contexts (if_else None (statement_code a done) (statement_code b done) k) (zero ∷ []) m (standing module_store (statement_code b done) [] xs (inside k contexts)) (λ h. cc) refl comes)))
      (runs_b s w xs are (inside k contexts) ends done)
  chosen e a b means_a means_b σ τ runs_a runs_b s w xs are contexts ends k (suc n) is =
      counting_runs (cost e + 1) (means_a s) (σ done s) w w (StandsFor w s) (StandsFor w s) (standing module_store (expression_code e (if_else None (statement_code a done) (statement_code b done) k)) [] xs contexts)
      (standing module_store (statement_code a done) [] xs (inside k contexts)) (λ ys. standing module_store k [] ys contexts)
      (λ m r comes. tests (A r) module_store s w xs are contexts e (if_else None (statement_code a done) (statement_code b done) k) (suc n) is m
      (λ word it. rw it.1 (steps_to (A r) module_store s w xs are contexts (if_else None (statement_code a done) (statement_code b done) k) (suc it.0 ∷ []) m (standing module_store (statement_code a done) [] xs (inside k contexts)) (λ h. cc) refl comes)))
      (runs_a s w xs are (inside k contexts) ends done)

  numbered : (found : Option Value) (f : ℕ → Outcome) (τ : ℕ → Steps) (w : World) (M : List ℕ → Type 0) (state : State) (following : List ℕ → State) →
      ((n : ℕ) → Tells found n → RunsTo (f n) (τ n) w M state following) → RunsTo (by_value found f) (steps_by found τ) w M state following
  numbered None f τ w M state following runs = tt
  numbered (Some (Number n)) f τ w M state following runs = runs n refl
  numbered (Some (Address p off)) f τ w M state following runs = runs 1 refl

  -- A loop, before code that follows. It is tested in two places, and a test leads to a turn or to what follows.
  module _ (e : Expression) (a : Statement) (means : LowState → Outcome) (τ : Code → LowState → Steps) (runs : StatementRuns a means τ) (contexts : List Context) (ends : EndsRun contexts) (k : Code) where
    abbrev following : List ℕ → State
    following ys = standing module_store k [] ys contexts

    abbrev turning : List ℕ → State
    turning ys = standing module_store (the_loop e a) [] ys (inside k contexts)

    -- code that branches by a word, in its place
    record Tests (branch : Code) (place : List Context) : Type 0 where
      is_code : branch ≢ done
      leaves : (ys : List ℕ) → wants (config module_store branch (zero ∷ []) ys place) ≡ Goes (following ys)
      turns_on : (ys : List ℕ) (n : ℕ) → wants (config module_store branch (suc n ∷ []) ys place) ≡ Goes (turning ys)

    abbrev LoopRuns : ℕ → Type 0
    LoopRuns fuel = (branch : Code) (place : List Context) → Tests branch place → (s : LowState) (w : World) (xs : List ℕ) → AreMeant w s.locals xs →
        RunsTo (turns e means fuel s) (steps_turns e means (τ (again e)) fuel s) w (StandsFor w s) (standing module_store (expression_code e branch) [] xs place) following

    at_entry : Tests (if_then None (the_loop e a) k) contexts
    at_entry = record { is_code = λ h. cc; leaves = λ ys. refl; turns_on = λ ys n. refl }

    at_end : Tests (br_if 0 done) (in_loop e a k contexts)
    at_end = record { is_code = λ h. cc; leaves = λ ys. refl; turns_on = λ ys n. refl }

    turn : (fuel : ℕ) → LoopRuns fuel → (branch : Code) (place : List Context) → Tests branch place → (s : LowState) (w : World) (xs : List ℕ) → AreMeant w s.locals xs → (n : ℕ) → Tells (value s e) n →
        RunsTo (unless_zero n (counting (cost e + 2) (and_then (means s) (λ t. turns e means fuel t))) (Completed (cost e + 1) s))
        (steps_unless n (delayed (cost e + 2) (steps_then (means s) (τ (again e) s) (λ t. steps_turns e means (τ (again e)) fuel t))) (quietly (cost e + 1))) w (StandsFor w s)
        (standing module_store (expression_code e branch) [] xs place) following
    turn fuel later branch place test s w xs are zero is = λ j r onward.
        tests (A r) module_store s w xs are place e branch zero is j
        (λ word it. rw it (steps_to (A r) module_store s w xs are place branch (zero ∷ []) j (following xs) test.is_code (test.leaves xs) (onward w xs are)))
    turn fuel later branch place test s w xs are (suc n) is =
        counting_runs (cost e + 2) (and_then (means s) (λ t. turns e means fuel t)) (steps_then (means s) (τ (again e) s) (λ t. steps_turns e means (τ (again e)) fuel t)) w w (StandsFor w s) (StandsFor w s) (standing module_store (expression_code e branch) [] xs place)
        (standing module_store (statement_code a (again e)) [] xs (in_loop e a k contexts)) following
        (λ m r comes. counted (A r) w (StandsFor w s) (cost e + 1 + suc m) (cost e + 2 + m) _ (omega arith)
        (tests (A r) module_store s w xs are place e branch (suc n) is (suc m)
        (λ word it. rw it.1 (steps_to (A r) module_store s w xs are place branch (suc it.0 ∷ []) (suc m) (turning xs) test.is_code (test.turns_on xs it.0)
        (steps_to (A r) module_store s w xs are (inside k contexts) (the_loop e a) [] m (standing module_store (statement_code a (again e)) [] xs (in_loop e a k contexts)) (λ h. cc) refl comes)))))
        (and_then_runs (means s) (λ t. turns e means fuel t) (τ (again e) s) (λ t. steps_turns e means (τ (again e)) fuel t) w (StandsFor w s) (standing module_store (statement_code a (again e)) [] xs (in_loop e a k contexts))
        (λ ys. standing module_store (again e) [] ys (in_loop e a k contexts)) following
        (runs s w xs are (in_loop e a k contexts) ends (again e))
        (λ t w' ys are'. later (br_if 0 done) (in_loop e a k contexts) at_end t w' ys are'))

    loop_runs : (fuel : ℕ) → LoopRuns fuel
    loop_runs zero branch place test s w xs are = tt
    loop_runs (suc fuel) branch place test s w xs are = numbered (value s e) _ _ w (StandsFor w s) _ _ (turn fuel (loop_runs fuel) branch place test s w xs are)

    turns_run : (fuel : ℕ) (s : LowState) (w : World) (xs : List ℕ) → AreMeant w s.locals xs →
        RunsTo (turns e means fuel s) (steps_turns e means (τ (again e)) fuel s) w (StandsFor w s) (standing module_store (statement_code (while e a) k) [] xs contexts) following
    turns_run fuel = loop_runs fuel (if_then None (the_loop e a) k) contexts at_entry

  pub statement_runs : ((b : Moment) → Q b → IsOver b.state) → HasHosts module_store → (fuel : ℕ) (a : Statement) → StatementRuns a (meaning pages fuel a) (steps pages fuel a)
  statement_runs over imported fuel skip s w xs are contexts ends k = λ j r onward. counted (A r) w (StandsFor w s) j (0 + j) _ (omega arith) (onward w xs are)
  statement_runs over imported fuel (seq a b) s w xs are contexts ends k =
      and_then_runs (meaning pages fuel a s) (meaning pages fuel b) (steps pages fuel a (statement_code b k) s) (steps pages fuel b k) w (StandsFor w s) (standing module_store (statement_code a (statement_code b k)) [] xs contexts)
      (λ ys. standing module_store (statement_code b k) [] ys contexts) (λ ys. standing module_store k [] ys contexts)
      (statement_runs over imported fuel a s w xs are contexts ends (statement_code b k)) (λ t w' ys are'. statement_runs over imported fuel b t w' ys are' contexts ends k)
  statement_runs over imported fuel (assign x e) s w xs are contexts ends k =
      quiet_runs (cost e + set_steps x k) (with_local (cost e + 1) s x (value s e)) w (StandsFor w s) _ (λ ys. standing module_store k [] ys contexts)
      (λ r. assign_runs (A r) module_store s w xs are contexts (looks_ahead pages Q over r) x e k)
  statement_runs over imported fuel (load x l offset at) s w xs are contexts ends k =
      quiet_runs (cost at + 1 + set_steps x k) (with_local (cost at + 2) s x (found_at s l offset (value s at))) w (StandsFor w s) _ (λ ys. standing module_store k [] ys contexts)
      (λ r. load_runs (A r) module_store s w xs are contexts (looks_ahead pages Q over r) x l offset at k)
  statement_runs over imported fuel (store st offset at it) s w xs are contexts ends k =
      let put : Option Value = option_and_then (stored_as st) (value s it) in
      quiet_runs (cost at + cost it + 1) (put_at (cost at + cost it + 1) s offset (store_width st) (value s at) put) w (StandsFor w s) _ (λ ys. standing module_store k [] ys contexts)
      (λ r. store_runs (A r) module_store s w xs are contexts st offset at it k (value s at) put refl refl)
  statement_runs over imported fuel (conditional e a b) s w xs are contexts ends k = numbered (value s e) _ _ w (StandsFor w s) _ _
      (chosen e a b (meaning pages fuel a) (meaning pages fuel b) (steps pages fuel a) (steps pages fuel b) (statement_runs over imported fuel a) (statement_runs over imported fuel b) s w xs are contexts ends k)
  statement_runs over imported fuel (while e a) s w xs are contexts ends k = turns_run e a (meaning pages fuel a) (steps pages fuel a) (statement_runs over imported fuel a) contexts ends k fuel s w xs are
  statement_runs over imported fuel (request e x) s w xs are contexts ends k = request_runs s w xs are contexts (λ r. looks_ahead pages Q over r) imported e x k (value s e) refl
  statement_runs over imported fuel (raise code) s w xs are contexts ends k = quiet_runs 2 (raised code s) w (StandsFor w s) _ (λ ys. standing module_store k [] ys contexts)
      (λ r. raise_runs (A r) module_store s w xs are contexts imported code k)
  statement_runs over imported fuel exit s w xs are contexts ends k = quiet_runs 1 (Exited 1 s) w (StandsFor w s) _ (λ ys. standing module_store k [] ys contexts)
      (λ r. exit_runs (A r) module_store s w xs are contexts ends k)
