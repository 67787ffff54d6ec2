use Rattle.std.proofs.Common.{◌≡◌, ℕ, Bool, false, List, [], ◌∷◌, ◌++◌, ◌⊎◌, inl, inr, ⊎_elim, refl, None}
use Rattle.qw_module.specs.declared.instruction.Const.TheVariants.{I32}
use Rattle.qw_module.specs.declared.instruction.Op.TheVariants.{Const}
use Rattle.qw_module.specs.Execution.{Running}
use Rattle.qw_module.specs.Syntax.{Code, done, op}
use Rattle.qw_map.specs.Areas.{World}
use Rattle.qw_map.specs.Turns.{Instance, Shared, Act, turn, turns}
use Rattle.qw_bench.specs.Bench.{AreRounds, none, first, round}
use Rattle.qw_bench.proofs.worked_laws.rounds_of_two_instances.Goals as goal

-- rounds are none, or begin with one
begins : (quantum : ℕ) (ts : List Act) (s : Shared) → AreRounds quantum ts s →
    ((round quantum s ≡ []) × (ts ≡ [])) ⊎ ((rest : List Act) × (ts ≡ round quantum s ++ rest) × AreRounds quantum rest (turns (round quantum s) s))
begins quantum _ _ (none s over) = inl (over, refl)
begins quantum _ _ (first s ts rest) = inr (ts, refl, rest)

abbrev instance : Code → World → Instance
instance code w = record {
  state = Running (record { store = record { functions = []; globals = [] }; code = code; operands = []; locals = []; contexts = [] });
  world = w;
  most_steps = 9;
  ran = 0;
  end = None;
  released = false;
}

module _ (w : World) (memory : List ℕ) (free : List Bool) where
  abbrev start : Shared
  start = record { common = record { memory = memory; free = free }; instances = instance (op (Const (I32 0)) done) w ∷ instance (op (Const (I32 0)) (op (Const (I32 0)) done)) w ∷ [] }

  -- after a round of one instruction
  abbrev after : Shared
  after = turns (turn 0 1 ∷ turn 1 1 ∷ []) start

  one : AreRounds 1 (turn 0 1 ∷ turn 1 1 ∷ turn 1 1 ∷ []) start
  one = first start (turn 1 1 ∷ []) (first after [] (none (turns (turn 1 1 ∷ []) after) refl))

  two : AreRounds 2 (turn 0 2 ∷ turn 1 2 ∷ []) start
  two = first start [] (none (turns (turn 0 2 ∷ turn 1 2 ∷ []) start) refl)

  no_rounds : (t : Act) (ts : List Act) → t ∷ ts ≡ [] → ⊥
  no_rounds t ts same = cc

  more : (rest : List Act) → rest ≡ [] → AreRounds 1 rest after → ⊥
  more rest is h = ⊎_elim
      (λ over. no_rounds (turn 1 1) [] over.0)
      (λ goes_on. no_rounds (turn 1 1) goes_on.0 (let e : rest ≡ turn 1 1 ∷ goes_on.0 = goes_on.1 in cc))
      (begins 1 rest after h)

  short : AreRounds 1 (turn 0 1 ∷ turn 1 1 ∷ []) start → ⊥
  short h = ⊎_elim
      (λ over. no_rounds (turn 0 1) (turn 1 1 ∷ []) over.0)
      (λ goes_on. more goes_on.0 (let e : turn 0 1 ∷ turn 1 1 ∷ [] ≡ turn 0 1 ∷ turn 1 1 ∷ goes_on.0 = goes_on.1 in cc) goes_on.2)
      (begins 1 (turn 0 1 ∷ turn 1 1 ∷ []) start h)

  zero_one : ◌≡◌ {A = ℕ} 1 0 → ⊥
  zero_one same = cc

  turned : AreRounds 1 (turn 1 1 ∷ turn 0 1 ∷ turn 1 1 ∷ []) start → ⊥
  turned h = ⊎_elim
      (λ over. no_rounds (turn 0 1) (turn 1 1 ∷ []) over.0)
      (λ goes_on. zero_one (let e : turn 1 1 ∷ turn 0 1 ∷ turn 1 1 ∷ [] ≡ turn 0 1 ∷ turn 1 1 ∷ goes_on.0 = goes_on.1 in let p : turn 1 1 ≡ turn 0 1 = cc in cc))
      (begins 1 (turn 1 1 ∷ turn 0 1 ∷ turn 1 1 ∷ []) start h)

pub returns : goal.returns
returns c = λ w memory free s is. rw is (one w memory free, two w memory free, short w memory free, turned w memory free)
