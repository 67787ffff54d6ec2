-- Many steps of a seat's instance that are made in one call are those of a turn: each but the last is no request, so that only
-- the state and the memory's octets change before it; and where the host is asked then, they all are none.
use Rattle.std.proofs.Common.{◌≡◌, ℕ, zero, suc, ◌+◌, ◌-◌, ◌≤◌, List, Option, Some, None, refl, sym, ap, ◌∙◌, subst, arith}
use Rattle.qw_linear.specs.Linear.{Octets}
use Rattle.qw_machine.specs.declared.stepped.Stepped.{Stepped}
use Rattle.qw_machine.specs.declared.stepped.Stepped.TheVariants.{Ran}
use Rattle.qw_machine.specs.Instance.{AsksFor, Called, ComesBy, Runs, Went, asked_by}
use Rattle.qw_module.specs.Execution.{Config, State, Running}
use Rattle.qw_bench.specs.declared.bench.Seat.{Seat}
use Rattle.qw_bench.specs.declared.pool.Pool.{Pool}
use Rattle.qw_bench.specs.Inner.Pools.{common_of}
use Rattle.qw_bench.specs.Inner.Seats.{IsTold, counting, state_in}
use Rattle.qw_bench.proofs.SeatSteps.{HasRun, IsTaken, ran-on, running}

-- the instance of a seat, in this state, which awaits no answer
abbrev pub called_at : Seat → State → Called
called_at seat s = record { program = seat.instance.program; state = s; asked = None }

abbrev pub seat_at : Seat → State → Seat
seat_at seat s = record seat { instance = called_at seat s }

abbrev pub pool_at : Pool → List ℕ → Pool
pool_at pool octets = record pool { memory = record pool.memory { octets = octets } }

same-config : (c d : Config) → Running c ≡ Running d → c ≡ d
same-config c d same = cc same

-- a seat is where its own state is
at-own : (now : Seat) (s : State) → now.instance.asked ≡ None → state_in now ≡ s → seat_at now s ≡ now
at-own now s unasked is =
    ap (λ (x : State). record now { instance = called_at now x }) (sym is)
    ∙ ap (λ (x : Option ℕ). record now { instance = record { program = now.instance.program; state = now.instance.state; asked = x } }) (sym unasked)

-- Of so many steps the last one was taken, from where those before it led.
pub record IsLastTaken (before : Seat) (p0 : Pool) (k : ℕ) (now : Seat) (pool : Pool) (steps : ℕ) (i : Called) (after : Octets) (answer : Stepped) : Type 0 where
  pub fewer : ℕ
  pub counted : steps ≡ fewer + 1
  pub config : Config
  pub octets : List ℕ
  pub taken : IsTaken before p0 (k + fewer) (seat_at now (Running config)) (pool_at pool octets) i after answer

-- So many steps were taken, and led to a request to the host.
pub record IsAsking (before : Seat) (p0 : Pool) (k : ℕ) (now : Seat) (pool : Pool) (steps : ℕ) (s : State) (after : List ℕ) (asked : ℕ) : Type 0 where
  pub config : Config
  pub state_is : s ≡ Running config
  pub asks : AsksFor asked config
  pub has : HasRun before p0 (k + steps) (seat_at now (Running config)) (pool_at pool after)

module _ (before : Seat) (p0 : Pool) (k : ℕ) (now : Seat) (pool : Pool) (has : HasRun before p0 k now pool)
    (tells : IsTold (counting before 0) (common_of p0)) where
  -- the last step, where those before it led so far
  one-more : (n : ℕ) (c : Config) (i : Called) (after : Octets) (answer : Stepped) → now.ran + (k + suc n) ≤ now.limits.steps →
      (made : Runs (now.limits.pages - now.held) (suc n) c pool.memory.octets i.state after.octets answer) →
      HasRun before p0 (k + n) (seat_at now (Running made.0)) (pool_at pool made.1) → IsLastTaken before p0 k now pool (suc n) i after answer
  one-more n c i after answer within made led =
      let counted : suc n ≡ n + 1 = omega arith in
      record {
        fewer = n;
        counted = counted;
        config = made.0;
        octets = made.1;
        taken = record {
          has = led;
          below = omega (arith, within);
          tells = tells;
          led = λ d same. subst (λ (x : Config). Went (now.limits.pages - now.held) x made.1 i.state after.octets answer) (same-config made.0 d same) made.3;
        };
      }

  -- steps that are no requests change the state and the memory's octets alone
  ran-many : (c : Config) (steps : ℕ) (s : State) (after : List ℕ) → state_in now ≡ Running c → now.ran + (k + steps) ≤ now.limits.steps →
      Runs (now.limits.pages - now.held) steps c pool.memory.octets s after Ran → HasRun before p0 (k + steps) (seat_at now s) (pool_at pool after)
  ran-many c zero s after begins within none =
      let count : k ≡ k + 0 = omega arith in
      subst (λ (n : ℕ). HasRun before p0 n (seat_at now s) (pool_at pool after)) count
      (subst (λ (octets : List ℕ). HasRun before p0 k (seat_at now s) (pool_at pool octets)) (sym none.1)
      (subst (λ (x : Seat). HasRun before p0 k x pool) (sym (at-own now s has.seat.unasked (begins ∙ sym none.0))) has))
  ran-many c (suc n) s after begins within made =
      let fewer : now.ran + (k + n) ≤ now.limits.steps = omega (arith, within) in
      let last = one-more n c (called_at now s) (record pool.memory { octets = after }) Ran within made (ran-many c n (Running made.0) made.1 begins fewer made.2) in
      let count : k + last.fewer + 1 ≡ k + suc n = omega (arith, last.counted) in
      subst (λ (x : ℕ). HasRun before p0 x (seat_at now s) (pool_at pool after)) count (ran-on last.taken refl refl refl refl)

  -- Steps in one call are at least one, where at least one may be made: none is told only where all were made.
  last-made : (most steps : ℕ) (i : Called) (after : Octets) (answer : Stepped) → 1 ≤ most → now.ran + (k + steps) ≤ now.limits.steps →
      ((c : Config) → state_in now ≡ Running c → answer ≡ Ran → steps ≡ most) → (c : Config) → state_in now ≡ Running c →
      Runs (now.limits.pages - now.held) steps c pool.memory.octets i.state after.octets answer → IsLastTaken before p0 k now pool steps i after answer
  last-made most steps i after answer some within all c begins runs = of_many steps refl within runs
    where
      of_many : (n : ℕ) → steps ≡ n → now.ran + (k + n) ≤ now.limits.steps →
          Runs (now.limits.pages - now.held) n c pool.memory.octets i.state after.octets answer → IsLastTaken before p0 k now pool n i after answer
      of_many zero n_is fits none = let never : ⊥ = omega (arith, n_is, all c begins none.2, some) in absurd never
      of_many (suc n) n_is fits made =
          let fewer : now.ran + (k + n) ≤ now.limits.steps = omega (arith, fits) in
          one-more n c i after answer fits made (ran-many c n (Running made.0) made.1 begins fewer made.2)

  pub last-taken : (most steps : ℕ) (i : Called) (after : Octets) (answer : Stepped) → asked_by answer ≡ None → 1 ≤ most → now.ran + (k + steps) ≤ now.limits.steps →
      ((c : Config) → state_in now ≡ Running c → answer ≡ Ran → steps ≡ most) →
      ((c : Config) → state_in now ≡ Running c → ComesBy (now.limits.pages - now.held) steps c pool.memory.octets i.state after.octets answer) →
      IsLastTaken before p0 k now pool steps i after answer
  last-taken most steps i after answer unasked some within all comes =
      let c = running now (state_in now) has.runs in
      last-made most steps i after answer some within all c.0 c.1 (rw unasked at (comes c.0 c.1))

  -- and all of them lead to a request to the host, where one is told
  pub asking : (steps asked : ℕ) (s : State) (after : List ℕ) (answer : Stepped) → asked_by answer ≡ Some asked → now.ran + (k + steps) ≤ now.limits.steps →
      ((c : Config) → state_in now ≡ Running c → ComesBy (now.limits.pages - now.held) steps c pool.memory.octets s after answer) →
      IsAsking before p0 k now pool steps s after asked
  asking steps asked s after answer is within comes =
      let c = running now (state_in now) has.runs in
      let made = rw is at (comes c.0 c.1) in
      record {
        config = made.0;
        state_is = made.1;
        asks = made.2;
        has = ran-many c.0 steps (Running made.0) after c.1 within made.3;
      }

-- a pool at what is left of its memory
pub pool-there : (pool : Pool) (after : Octets) → after.reserved ≡ pool.memory.reserved → pool_at pool after.octets ≡ record pool { memory = after }
pool-there pool after reserved = ap (λ (n : ℕ). record pool { memory = record { octets = after.octets; reserved = n } }) (sym reserved)
