-- Rules for code that takes exactly so many steps, over any memory of which M holds, where M speaks only of what others keep.
use Rattle.std.proofs.Common.{◌≡◌, ℕ, zero, suc, ◌+◌, ◌*◌, ◌≤◌, true, false, nat_le, List, ◌++◌, length, Some, None, refl, subst}
use Rattle.std.proofs.lemmas.Bool.{le-leb, and_from, and_left}
use Rattle.qw_module.specs.Execution.{Config, State, Running, Raised, IsOver, AsksHost, IsPlaceIn, Raises, refusal}
use Rattle.qw_linear.specs.Memory.{page, number_at, with_number, cleared}
use Rattle.qw_module.specs.Step.{Goes, Asks, Puts, AsksPlace, Signals, wants, can_place}
use Rattle.qw_module.proofs.Outcomes.{placed-true}
use Rattle.qw_map.specs.Areas.{World, are_covered, IsFine, GoesOn, IsPlaced, grants}
use Rattle.qw_map.specs.Runs.{Moment}
use Rattle.qw_map.proofs.OpenRuns.{room-placed}
use Rattle.qw_map.proofs.RunRules.{IsKept, with_granted, with_refused}
use Rattle.qw_low.specs.Inner.Exact.{Exactly, Rest, end_of_run, asks, Then}

-- From a state, over any memory of which M holds, exactly n steps lead to Q.
pub record Comes (Q : Moment → Type 0) (w : World) (M : List ℕ → Type 0) (n : ℕ) (s : State) : Type 0 where
  pub steps : (memory : List ℕ) → M memory → Exactly Q n (record { world = w; state = s; memory = memory })

-- Of a run that goes on it speaks by its next step alone: of two instructions that want the same it holds alike.
abbrev pub LooksAhead : (Moment → Type 0) → Type 0
LooksAhead Q = (w : World) (memory : List ℕ) (c d : Config) → wants c ≡ wants d →
    Q (record { world = w; state = Running d; memory = memory }) → Q (record { world = w; state = Running c; memory = memory })

-- so does a path's rest, where the run is over at its end
pub looks_ahead : (pages : ℕ) (Q : Moment → Type 0) → ((b : Moment) → Q b → IsOver b.state) → (r : Rest) → LooksAhead (Then pages Q r)
looks_ahead pages Q ended end_of_run w memory c d same h = absurd (ended (record { world = w; state = Running d; memory = memory }) h)
looks_ahead pages Q ended (asks asked granted n r) w memory c d same h = λ before others place placed. rw same (h before others place placed)

module _ (Q : Moment → Type 0) (w : World) (M : List ℕ → Type 0) where
  pub counted : (m n : ℕ) (s : State) → m ≡ n → Comes Q w M m s → Comes Q w M n s
  counted m n s same comes = subst (λ (k : ℕ). Comes Q w M k s) same comes

  pub there : (s : State) → ((memory : List ℕ) → M memory → Q (record { world = w; state = s; memory = memory })) → Comes Q w M 0 s
  there s holds = record { steps = holds }

  -- an instruction that wants what another wants leads to Q in as many steps
  pub instead : LooksAhead Q → (n : ℕ) (c d : Config) → wants c ≡ wants d → Comes Q w M n (Running d) → Comes Q w M n (Running c)
  instead ahead zero c d same comes = record { steps = λ memory h. ahead w memory c d same (comes.steps memory h) }
  instead ahead (suc n) c d same comes = record { steps = λ memory h before others place placed. rw same (comes.steps memory h before others place placed) }

  pub goes : IsKept w M → (n : ℕ) (c : Config) (s : State) → wants c ≡ Goes s → Comes Q w M n s → Comes Q w M (suc n) (Running c)
  goes kept n c s wanted comes = record {
    steps = λ memory h before others place placed. rw wanted (tt, comes.steps before (kept.keeps memory before others h));
  }

  pub loads : IsKept w M → (P : ℕ → Type 0) (n : ℕ) (c : Config) (address width : ℕ) (make : ℕ → State) →
      wants c ≡ Asks address width make → are_covered (w.mapped ++ w.own) address width ≡ true →
      ((memory : List ℕ) → M memory → (address + width ≤ length memory) × P (number_at memory address width)) →
      ((found : ℕ) → P found → Comes Q w M n (make found)) → Comes Q w M (suc n) (Running c)
  loads kept P n c address width make wanted inside found comes = record {
    steps = λ memory h before others place placed.
        let now = kept.keeps memory before others h in
        let at = found before now in
        rw (wanted, le-leb (address + width) (length before) at.0) (inside, (comes (number_at before address width) at.1).steps before now);
  }

  pub stores : IsKept w M → (M' : List ℕ → Type 0) (n : ℕ) (c : Config) (address width value : ℕ) (s : State) →
      wants c ≡ Puts address width value s → are_covered w.own address width ≡ true →
      ((memory : List ℕ) → M memory → (address + width ≤ length memory) × M' (with_number memory address width value)) →
      Comes Q w M' n s → Comes Q w M (suc n) (Running c)
  stores kept M' n c address width value s wanted inside put comes = record {
    steps = λ memory h before others place placed.
        let after = put before (kept.keeps memory before others h) in
        rw (wanted, le-leb (address + width) (length before) after.0) (inside, comes.steps (with_number before address width value) after.1);
  }

  pub raises : IsKept w M → (n : ℕ) (c : Config) (code : ℕ) → wants c ≡ Signals code → IsFine w (Raises code) →
      Comes Q w M n (Raised code) → Comes Q w M (suc n) (Running c)
  raises kept n c code wanted fine comes = record {
    steps = λ memory h before others place placed. rw wanted (fine, comes.steps before (kept.keeps memory before others h));
  }

module _ (pages : ℕ) (Q : Moment → Type 0) (rest : Rest) (w : World) (M : List ℕ → Type 0) where
  -- a request, and what comes then
  pub ask_granted : IsKept w M → (S : ℕ → Type 0) (M' : ℕ → List ℕ → Type 0) (n : ℕ) (c : Config) (asked : ℕ) (make : ℕ → State) →
      wants c ≡ AsksPlace asked make → w.held + asked ≤ pages → ((found : ℕ) → GoesOn (make found)) → w.held + asked ≤ w.limit →
      ((memory : List ℕ) (first : ℕ) → M memory → IsPlaceIn memory first asked → IsPlaced w memory (AsksHost asked (Some first)) →
      S first × M' first (cleared first asked memory)) →
      ((first : ℕ) → S first → Comes (Then pages Q rest) (with_granted w (first * page) asked) (M' first) n (make first)) →
      Comes (Then pages Q (asks asked true n rest)) w M 0 (Running c)
  ask_granted kept S M' n c asked make wanted within on fits given comes = record {
    steps = λ memory h before others place placed.
        let now = kept.keeps memory before others h in
        let is : grants w asked ≡ true = le-leb (w.held + asked) w.limit fits in
        let can : can_place (place asked) asked before ≡ true = room-placed w before others.room place placed asked is in
        let both = and_from (grants w asked) (can_place (place asked) asked before) is can in
        let after = given before (place asked) now (placed-true (place asked) asked before can) (placed asked is) in
        rw (wanted, both) (Some (place asked), refl, refl, (within, on (place asked)), (comes (place asked) after.0).steps (cleared (place asked) asked before) after.1);
  }

  pub ask_refused : IsKept w M → (n : ℕ) (c : Config) (asked : ℕ) (make : ℕ → State) →
      wants c ≡ AsksPlace asked make → w.held + asked ≤ pages → ((found : ℕ) → GoesOn (make found)) → (nat_le (w.held + asked) w.limit ≡ false) →
      Comes (Then pages Q rest) (with_refused w asked) M n (make refusal) → Comes (Then pages Q (asks asked false n rest)) w M 0 (Running c)
  ask_refused kept n c asked make wanted within on is_not comes = record {
    steps = λ memory h before others place placed.
        rw (wanted, and_left (grants w asked) (can_place (place asked) asked before) is_not)
        (None, refl, refl, (within, on refusal), comes.steps before (kept.keeps memory before others h));
  }

module _ (Q : Moment → Type 0) (w : World) where
  pub weaker : (M M' : List ℕ → Type 0) (n : ℕ) (s : State) → ((memory : List ℕ) → M memory → M' memory) → Comes Q w M' n s → Comes Q w M n s
  weaker M M' n s less comes = record { steps = λ memory h. comes.steps memory (less memory h) }

  -- what a memory says of which M holds may be used
  pub knowing : (M : List ℕ → Type 0) (n : ℕ) (s : State) → ((memory : List ℕ) → M memory → Comes Q w M n s) → Comes Q w M n s
  knowing M n s of = record { steps = λ memory h. (of memory h).steps memory h }
