-- Steps of open runs, of exactly so many, and the requests for pages among them: what proofs about the code of Low stand on. It mirrors no
-- function.
use Rattle.std.specs.Prelude.{◌≡◌, ℕ, zero, suc, Bool, List, Option, Some, None, is_some}
use Rattle.qw_module.specs.Execution.{Event, Grows, AsksHost}
use Rattle.qw_module.specs.Step.{Next, next}
use Rattle.qw_map.specs.Areas.{World, Others, IsFine, AsksWithin, IsPlace, grants}
use Rattle.qw_map.specs.Runs.{Moment, moment_after}
use Rattle.qw_map.specs.Inner.Steps.{OnRunning}

-- a step is fine and asks for no pages
abbrev pub IsQuiet : World → Event → Type 0
IsQuiet w (Grows pages granted) = ⊥
IsQuiet w (AsksHost pages first) = ⊥
IsQuiet w event = IsFine w event

abbrev pub OnQuiet : World → List ℕ → (Moment → Type 0) → Option Next → Type 0
OnQuiet w before Q None = ⊥
OnQuiet w before Q (Some t) = IsQuiet w t.event × Q (moment_after w before t.event t.state t.memory)

-- a step asks the host for so many pages, as it may, and is granted them or not
abbrev pub OnAsked : (pages asked : ℕ) → (granted : Bool) → World → List ℕ → (Moment → Type 0) → Option Next → Type 0
OnAsked pages asked granted w before Q None = ⊥
OnAsked pages asked granted w before Q (Some t) =
    (first : Option ℕ) × (t.event ≡ AsksHost asked first) × (is_some first ≡ granted) × AsksWithin pages w (AsksHost asked first) t.state
    × Q (moment_after w before t.event t.state t.memory)

-- Exactly n steps follow that ask for no pages, each allowed whatever others do before it and wherever the host gives pages, and then Q holds.
abbrev pub Exactly : (Moment → Type 0) → ℕ → Moment → Type 0
Exactly Q zero a = Q a
Exactly Q (suc n) a = OnRunning a.state (λ c. (before : List ℕ) → Others a.world a.memory before →
    (place : ℕ → ℕ) → IsPlace a.world before place → OnQuiet a.world before (Exactly Q n) (next (grants a.world) place c before))

-- What comes then: the end, or a request, so many steps that ask for none, and again what comes then.
pub data Rest : Type 0 where
  end_of_run : Rest
  asks : (asked : ℕ) → (granted : Bool) → (quiet : ℕ) → Rest → Rest

pub record Path : Type 0 where
  pub quiet : ℕ
  pub rest : Rest

abbrev pub Then : (pages : ℕ) → (Moment → Type 0) → Rest → Moment → Type 0
Then pages Q end_of_run a = Q a
Then pages Q (asks asked granted n rest) a = OnRunning a.state (λ c. (before : List ℕ) → Others a.world a.memory before →
    (place : ℕ → ℕ) → IsPlace a.world before place → OnAsked pages asked granted a.world before (Exactly (Then pages Q rest) n) (next (grants a.world) place c before))

-- the steps from a moment on take this path, and then Q holds
abbrev pub Takes : (pages : ℕ) → (Moment → Type 0) → Path → Moment → Type 0
Takes pages Q p = Exactly (Then pages Q p.rest) p.quiet
