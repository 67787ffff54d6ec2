-- Turns release nobody, so that after rounds of them from a start no instance is released.
use Rattle.std.proofs.Common.{◌≡◌, ℕ, zero, suc, false, ⊎_elim, List, [], ◌∷◌, ◌++◌, length, map, Option, Some, None, is_some, slice_get, slice_set, refl, sym, ap, ◌∙◌}
use Rattle.std.specs.Option.{option_map_or}
use Rattle.std.proofs.lemmas.Bool.{cases_Bool, cases_eq}
use Rattle.std.proofs.lemmas.Option.{slice_get_within}
use Rattle.qw_types.specs.Contents.{Contents}
use Rattle.qw_module.specs.Execution.{State, Running, Returned, Raised, Trapped}
use Rattle.qw_module.specs.Step.{Next, next}
use Rattle.qw_map.specs.Areas.{grants}
use Rattle.qw_map.specs.Turns.{Instance, Common, Shared, Act, turn, release, placing, after_next, stepped, stepped_from, steps_of, acted, turns}
use Rattle.qw_map.proofs.TurnFacts.{slice_get-set_same}
use Rattle.qw_map.proofs.TurnSteps.{turn-others}
use Rattle.qw_bench.specs.Bench.{AreRounds, AreTurns, IsStart, Task, none, first, released_in, round, unended_below}
use Rattle.qw_bench.proofs.Serving.{task-of}

-- ---- a turn
next-released : (i : Instance) (common : Common) (made : Option Next) → (after_next i common made).0.released ≡ i.released
next-released i common None = refl
next-released i common (Some t) = refl

stepped-released : (state : State) (i : Instance) (common : Common) → (stepped_from state i common).0.released ≡ i.released
stepped-released (Running c) i common = next-released i common (next (grants i.world) (placing common) c common.memory)
stepped-released Returned i common = refl
stepped-released (Raised code) i common = refl
stepped-released (Trapped why) i common = refl

steps-released : (quantum : ℕ) (i : Instance) (common : Common) → (steps_of quantum i common).0.released ≡ i.released
steps-released zero i common = refl
steps-released (suc q) i common = ⊎_elim
    (λ ended. rw ended refl)
    (λ unended. rw unended (steps-released q (stepped i common).0 (stepped i common).1 ∙ stepped-released i.state i common))
    (cases_Bool (is_some i.end))

turn-released : (s : Shared) (j quantum k : ℕ) → released_in (acted s (turn j quantum)) k ≡ released_in s k
turn-released s j quantum k = by_found (slice_get s.instances j) refl
  where
    by_found : (found : Option Instance) → slice_get s.instances j ≡ found → released_in (acted s (turn j quantum)) k ≡ released_in s k
    by_found None found = rw found refl
    by_found (Some i) found = ⊎_elim
        (λ here.
        let x = steps_of quantum i s.common in
        let put : slice_get (slice_set s.instances j x.0) j ≡ Some x.0 = slice_get-set_same s.instances j x.0 (slice_get_within s.instances j i found) in
        let now : slice_get (acted s (turn j quantum)).instances j ≡ Some x.0 = rw found put in
        let later : released_in (acted s (turn j quantum)) j ≡ x.0.released = ap (λ (o : Option Instance). option_map_or (λ (i : Instance). i.released) o false) now in
        let before : released_in s j ≡ i.released = ap (λ (o : Option Instance). option_map_or (λ (i : Instance). i.released) o false) found in
        rw here (later ∙ steps-released quantum i s.common ∙ sym before))
        (λ elsewhere. ap (λ (o : Option Instance). option_map_or (λ (i : Instance). i.released) o false) (turn-others s j k quantum elsewhere))
        (cases_eq k j)

-- ---- turns alone
pub turns-released : (acts : List Act) (s : Shared) (k : ℕ) → AreTurns acts → released_in (turns acts s) k ≡ released_in s k
turns-released [] s k are = refl
turns-released (turn j quantum ∷ acts) s k are = turns-released acts (acted s (turn j quantum)) k are ∙ turn-released s j quantum k
turns-released (release j ∷ acts) s k are = absurd are

turns-joined : (xs ys : List Act) → AreTurns xs → AreTurns ys → AreTurns (xs ++ ys)
turns-joined [] ys one two = two
turns-joined (turn j quantum ∷ xs) ys one two = turns-joined xs ys one two
turns-joined (release j ∷ xs) ys one two = absurd one

each-turn : (quantum : ℕ) (numbers : List ℕ) → AreTurns (map (λ i. turn i quantum) numbers)
each-turn quantum [] = tt
each-turn quantum (i ∷ numbers) = each-turn quantum numbers

rounds-turns : (quantum : ℕ) (acts : List Act) (s : Shared) → AreRounds quantum acts s → AreTurns acts
rounds-turns quantum _ _ (none s done) = tt
rounds-turns quantum _ _ (first s acts rest) = turns-joined (round quantum s) acts (each-turn quantum (unended_below s (length s.instances))) (rounds-turns quantum acts (turns (round quantum s) s) rest)

-- ---- from a start
start-unreleased : (tables : List Contents) (tasks : List Task) (s : Shared) → IsStart tables tasks s → (k : ℕ) → released_in s k ≡ false
start-unreleased tables tasks s start k = by_found (slice_get s.instances k) refl
  where
    by_found : (found : Option Instance) → slice_get s.instances k ≡ found → option_map_or (λ (i : Instance). i.released) found false ≡ false
    by_found None found = refl
    by_found (Some i) found =
        let t = task-of tasks s start.many k i found in
        ap (λ (x : Instance). x.released) (start.starting k t.t i t.found found).instance

pub rounds-unreleased : (tables : List Contents) (tasks : List Task) (quantum : ℕ) (acts : List Act) (s : Shared) → IsStart tables tasks s → AreRounds quantum acts s →
    (k : ℕ) → released_in (turns acts s) k ≡ false
rounds-unreleased tables tasks quantum acts s start rounds k =
    turns-released acts s k (rounds-turns quantum acts s rounds) ∙ start-unreleased tables tasks s start k
