-- The steps of a seat's instance are those of a turn.
use Rattle.std.proofs.Common.{Vec, Global, ◌≡◌, ◌≢◌, ℕ, zero, suc, ◌+◌, ◌-◌, ◌*◌, ◌<◌, ◌≤◌, nat_le, Bool, true, false, ◌⊎◌, inl, inr, ⊎_elim, min, List, ◌∷◌, ◌++◌, length, map, Option, Some, None, IsSome, is_some, refl, sym, ap, ◌∙◌, subst, arith}
use Rattle.std.specs.Prelude.{if◌then◌else◌, replicate}
use Rattle.std.specs.List.{AllByRecursion}
use Rattle.std.specs.Vec.{vec_capacity}
use Rattle.std.proofs.lemmas.Bool.{le-leb, lt-leb, leb-true, leb-false, cases_Bool}
use Rattle.std.proofs.lemmas.List.{length-append, map-append}
use Rattle.qw_linear.specs.Linear.{Octets}
use Rattle.qw_linear.specs.Memory.{page, pages_of}
use Rattle.qw_machine.specs.declared.stepped.Stepped.{Stepped}
use Rattle.qw_machine.specs.declared.stepped.Stepped.TheVariants.{Ran, Grew, Refused}
use Rattle.qw_machine.specs.declared.stepped.Stepped.TheVariants as came
use Rattle.qw_machine.specs.Instance.{Called, IsAnswer, IsNoRequest, Went}
use Rattle.qw_module.specs.declared.trap.Trap.{Trap}
use Rattle.qw_module.specs.Execution.{Config, State, Running, Returned, Raised, Trapped, Event, Silent, Grows, AsksHost, pages_gained}
use Rattle.qw_module.specs.Step.{Next, next, Want, AsksPages, AsksPlace, answered, wants}
use Rattle.qw_map.specs.Areas.{Area, World, GoesOn, granted_area, grants, world_after}
use Rattle.qw_map.specs.Turns.{Done, Common, IsWhole, steps_of, moved_by, common_after, placing, flags_after, free_with, end_at, end_of_raise, end_of_refusal}
use Rattle.qw_map.specs.Turns as t
use Rattle.qw_module.proofs.Outcomes.{Outcome, outcome, was_granted}
use Rattle.qw_module.proofs.Sound.{length_grows}
use Rattle.qw_map.proofs.AreaLemmas.{all-append, all-weaker}
use Rattle.qw_map.proofs.TurnSteps.{steps_of-added, steps_of-ended, unended-runs}
use Rattle.qw_bench.specs.declared.bench.Ended.{Ended}
use Rattle.qw_bench.specs.declared.bench.Ended.TheVariants as ended
use Rattle.qw_bench.specs.declared.bench.Grant.{Grant}
use Rattle.qw_bench.specs.declared.bench.Seat.{Seat}
use Rattle.qw_bench.specs.declared.pool.Pool.{Pool}
use Rattle.qw_bench.specs.Standing.{end_of}
use Rattle.qw_bench.specs.Inner.Pools.{IsPool, common_of}
use Rattle.qw_bench.specs.Inner.Seats.{CanBeTold, HasGrants, IsAnswered, IsEndOf, IsRaised, IsSeat, IsTold, StaysSeated, area_of, common_with, counting, grants_of, instance_of, state_in, world_of}
use Rattle.qw_types.specs.declared.code.Code.TheVariants.{DivZero, OutOfRange}

-- ---- what a step can be told to have done
-- tests that agree grant the same requests
answered-alike : (g h : ℕ → Bool) (place : ℕ → ℕ) (m : List ℕ) (want : Want) → ((pages : ℕ) → g pages ≡ h pages) → answered g place m want ≡ answered h place m want
answered-alike g h place m (AsksPages pages make) same = rw (same pages) refl
answered-alike g h place m (AsksPlace pages make) same = rw (same pages) refl
answered-alike g h place m _ same = refl

-- what is left below a limit is enough exactly where the sum is within the limit
pub spare-grants : (w : World) (pages : ℕ) → w.held ≤ w.limit → nat_le pages (w.limit - w.held) ≡ grants w pages
spare-grants w pages within = ⊎_elim
    (λ fits.
    let some : pages ≤ w.limit - w.held = leb-true pages (w.limit - w.held) fits in
    let all : nat_le (w.held + pages) w.limit ≡ true = le-leb (w.held + pages) w.limit (omega arith) in
    fits ∙ sym all)
    (λ fits_not.
    let over : w.limit - w.held < pages = leb-false pages (w.limit - w.held) fits_not in
    let none : nat_le (w.held + pages) w.limit ≡ false = lt-leb (w.held + pages) w.limit (omega arith) in
    fits_not ∙ sym none)
    (cases_Bool (nat_le pages (w.limit - w.held)))

-- a growth was granted only where the test says so
abbrev pub IsGranted : (ℕ → Bool) → Event → Type 0
IsGranted g (Grows pages true) = g pages ≡ true
IsGranted g _ = Unit {0}

granted : (g : ℕ → Bool) (place : ℕ → ℕ) (m : List ℕ) (want : Want) (n : Next) → Outcome g place m want n → IsGranted g n.event
granted _ _ _ _ _ (was_granted g place m pages make is fits) = is
granted _ _ _ _ _ _ = tt

-- what is no request changes neither what an instance has, nor the memory's size, nor which pages are free
stays-without : (w : World) (common : Common) (e : Event) → IsNoRequest e →
    (world_after w common.memory e ≡ w) × (pages_gained common.memory e ≡ 0) × (flags_after common e ≡ common.free)
stays-without w common (Grows pages given) none = absurd none
stays-without w common (AsksHost pages first) none = absurd none
stays-without w common _ none = (refl, refl, refl)

-- where an instance ended, its last step was no request
ends-without : (w : World) (e : Event) → CanBeTold w e Returned → IsNoRequest e
ends-without w (Grows pages given) told = absurd told
ends-without w (AsksHost pages first) told = absurd told
ends-without w _ told = tt

raises-after : (w : World) (e : Event) (code : ℕ) → CanBeTold w e (Raised code) → IsNoRequest e × IsRaised w.refused code
raises-after w (Grows pages given) code told = absurd told
raises-after w (AsksHost pages first) code told = absurd told
raises-after w _ code told = (tt, told)

never-trapped : (w : World) (e : Event) (why : Trap) → CanBeTold w e (Trapped why) → ⊥
never-trapped w Silent why told = told
never-trapped w _ why told = told

-- an instance that raised a code has ended
raise-ends : (w : World) (code : ℕ) → IsRaised w.refused code → IsSome (end_of_raise code w)
raise-ends w code (inl is) = rw is refl
raise-ends w code (inr (inl is)) = rw is refl
raise-ends w code (inr (inr (is, some))) = rw is (refused-ends w.refused some)
  where
    refused-ends : (refused : Option ℕ) → IsSome refused → IsSome (end_of_refusal refused w)
    refused-ends None some = absurd (cc some)
    refused-ends (Some asked) some = refl

-- ---- one step more
-- an instance whose end is the one at its state
abbrev pub instance_at : State → World → (most ran : ℕ) → (released : Bool) → t.Instance
instance_at s w most ran released = record { state = s; world = w; most_steps = most; ran = ran; end = end_at s w ran most; released = released }

instance_at-same : (s s' : State) (w w' : World) (most most' ran ran' : ℕ) (released released' : Bool) → s ≡ s' → w ≡ w' → most ≡ most' → ran ≡ ran' → released ≡ released' →
    instance_at s w most ran released ≡ instance_at s' w' most' ran' released'
instance_at-same s s' w w' most most' ran ran' released released' one two three four five =
    ap (λ (x : State). instance_at x w most ran released) one
    ∙ ap (λ (x : World). instance_at s' x most ran released) two
    ∙ ap (λ (x : ℕ). instance_at s' w' x ran released) three
    ∙ ap (λ (x : ℕ). instance_at s' w' most' x released) four
    ∙ ap (λ (x : Bool). instance_at s' w' most' ran' x) five

-- what is common besides an instance, where it has given its pages back
beside-same : (i j : t.Instance) (m n : List ℕ) (f g : List Bool) → i ≡ j → m ≡ n → f ≡ g →
    ◌≡◌ {A = t.Instance × Common} (i, record { memory = m; free = free_with i f }) (j, record { memory = n; free = free_with j g })
beside-same i j m n f g same memory flags =
    ap (λ (x : t.Instance). (let one : Common = record { memory = m; free = free_with x f } in (x, one))) same
    ∙ ap (λ (x : List ℕ). (let one : Common = record { memory = x; free = free_with j f } in (j, one))) memory
    ∙ ap (λ (x : List Bool). (let one : Common = record { memory = n; free = free_with j x } in (j, one))) flags

-- one step of an instance that runs
one-step : (now : t.Instance) (common : Common) (c : Config) (made : Next) → now.end ≡ None → now.state ≡ Running c →
    next (grants now.world) (placing common) c common.memory ≡ Some made → (moved_by now common made, common_after now common made) ≡ steps_of 1 now common
one-step now common c made unended running is = rw (unended, running, is) refl

-- and one more than so many
step-on : (i : t.Instance) (first : Common) (k : ℕ) (now : t.Instance) (common : Common) (c : Config) (made : Next) →
    (now, common) ≡ steps_of k i first → now.end ≡ None → now.state ≡ Running c → next (grants now.world) (placing common) c common.memory ≡ Some made →
    (moved_by now common made, common_after now common made) ≡ steps_of (k + 1) i first
step-on i first k now common c made is unended running led =
    subst (λ (p : t.Instance × Common). (moved_by now common made, common_after now common made) ≡ steps_of 1 p.0 p.1) is
    (one-step now common c made unended running led)
    ∙ sym (steps_of-added k 1 i first)

-- so many steps were taken from one seat's instance to another's, which runs on
pub record HasRun (before : Seat) (p0 : Pool) (k : ℕ) (now : Seat) (pool : Pool) : Type 0 where
  pub ran : (counting now k, common_with (counting now k) pool) ≡ steps_of k (counting before 0) (common_of p0)
  pub seated : StaysSeated before now
  pub program : now.instance.program ≡ before.instance.program
  pub runs : IsEndOf now (state_in now) None
  pub unended : now.ended ≡ None
  pub seat : IsSeat (length pool.free.items) now
  pub kept : IsPool pool
  pub longer : length p0.free.items ≤ length pool.free.items
  pub asks : length pool.memory.octets + (now.limits.pages - now.held) * page ≤ length p0.memory.octets + (before.limits.pages - before.held) * page
  pub reserved : pool.memory.reserved ≡ p0.memory.reserved

-- a state that has no end runs
pub running : (seat : Seat) (s : State) → IsEndOf seat s None → (c : Config) × (s ≡ Running c)
running seat (Running c) h = (c, refl)
running seat _ h = absurd h

-- an instance that runs and may run on has given nothing back
pub same-beside : (seat : Seat) (k : ℕ) (pool : Pool) (c : Config) → state_in seat ≡ Running c → seat.ran + k < seat.limits.steps →
    ((counting seat k).end ≡ None) × (common_with (counting seat k) pool ≡ common_of pool)
same-beside seat k pool c runs below = rw (runs, lt-leb seat.limits.steps (seat.ran + k) below) (refl, refl)

-- as it begins
pub run-none : (seat : Seat) (pool : Pool) → IsEndOf seat (state_in seat) None → seat.ended ≡ None → seat.ran < seat.limits.steps → IsSeat (length pool.free.items) seat →
    IsPool pool → HasRun seat pool 0 seat pool
run-none seat pool runs unended below is kept =
    let c = running seat (state_in seat) runs in
    let few : seat.ran + 0 < seat.limits.steps = omega (arith, below) in
    let same = same-beside seat 0 pool c.0 c.1 few in
    record {
      ran = ap (λ (x : Common). (counting seat 0, x)) same.1;
      seated = refl;
      program = refl;
      runs = runs;
      unended = unended;
      seat = is;
      kept = kept;
      longer = omega arith;
      asks = omega arith;
      reserved = refl;
    }

-- a seat within its budget is within its limit
pub within-limit : (before : Seat) (p0 : Pool) (k ran budget : ℕ) (now : Seat) (pool : Pool) → HasRun before p0 k now pool → ran ≤ budget →
    before.ran + budget ≤ before.limits.steps → now.ran + ran ≤ now.limits.steps
within-limit before p0 k ran budget now pool has within room =
    let same_ran : now.ran ≡ before.ran = ap (λ (seat : Seat). seat.ran) has.seated in
    let most : now.limits.steps ≡ before.limits.steps = ap (λ (seat : Seat). seat.limits.steps) has.seated in
    omega arith

-- a pool whose memory was only written to
kept-pool : (pool : Pool) (after : Octets) → IsPool pool → length after.octets ≡ length pool.memory.octets → after.reserved ≡ pool.memory.reserved →
    IsPool (record pool { memory = after })
kept-pool pool after kept same reserved = record {
  whole = omega (arith, same, kept.whole);
  flags = omega (arith, same, kept.flags);
  within = omega (arith, same, reserved, kept.within);
  limit = omega (arith, reserved, kept.limit);
  room = omega (arith, reserved, kept.room);
  counted = kept.counted;
}

-- ---- what is noted of a grant
pub areas-granted : (at n start : ℕ) → start ≡ at * page → map area_of (grants_of at n) ≡ granted_area start n
areas-granted at zero start is = refl
areas-granted at (suc n) start is = rw is refl

grants-few : (at n : ℕ) → length (grants_of at n) ≤ n
grants-few at zero = omega arith
grants-few at (suc n) = omega arith

grants-inside : (at n pages : ℕ) → at + n ≤ pages → AllByRecursion (λ (grant : Grant). grant.at + grant.pages ≤ pages) (grants_of at n)
grants-inside at zero pages inside = tt
grants-inside at (suc n) pages inside = (inside, tt)

-- what is held over a memory is held over a larger one
pub grants-more : (few many : ℕ) (seat : Seat) → few ≤ many → HasGrants few seat → HasGrants many seat
grants-more few many seat more has = record {
  counted = has.counted;
  held = has.held;
  room = has.room;
  first_page = let first = has.first_page in omega (arith, first, more);
  inside = all-weaker (λ (grant : Grant). grant.at + grant.pages ≤ few) (λ (grant : Grant). grant.at + grant.pages ≤ many) (λ grant h. omega (arith, h, more))
      seat.granted.items has.inside;
}

pub grants-added : (few many at n : ℕ) (now : Seat) (i : Called) (got : Vec Grant Global) → few ≤ many → HasGrants few now → now.held + n ≤ now.limits.pages → at + n ≤ many →
    got.items ≡ now.granted.items ++ grants_of at n → vec_capacity got ≡ vec_capacity now.granted →
    HasGrants many (record now { instance = i; granted = got; held = now.held + n })
grants-added few many at n now i got more has fits inside is capacity =
    let held = grants-more few many now more has in
    let all = length-append now.granted.items (grants_of at n) in
    let new = grants-few at n in
    let count : length got.items ≤ length now.granted.items + n = subst (λ (xs : List Grant). length xs ≤ length now.granted.items + n) (sym is) (omega (arith, all, new)) in
    record {
      counted = omega (arith, count, has.counted);
      held = fits;
      room = omega (arith, has.room, capacity);
      first_page = held.first_page;
      inside = rw is (all-append (λ (grant : Grant). grant.at + grant.pages ≤ many) now.granted.items (grants_of at n) held.inside (grants-inside at n many inside));
    }

pub world-granted : (now : Seat) (i : Called) (got : Vec Grant Global) (at n start : ℕ) → start ≡ at * page → got.items ≡ now.granted.items ++ grants_of at n →
    world_of (record now { instance = i; granted = got; held = now.held + n })
    ≡ record (world_of now) { own = (world_of now).own ++ granted_area start n; held = now.held + n }
world-granted now i got at n start begins is =
    let areas : map area_of got.items ≡ map area_of now.granted.items ++ granted_area start n =
    ap (map area_of) is ∙ map-append area_of now.granted.items (grants_of at n)
    ∙ ap (λ (xs : List Area). map area_of now.granted.items ++ xs) (areas-granted at n start begins) in
    let first_page : Area = record { start = now.descriptor; size = page } in
    ap (λ (own : List Area). record (world_of now) { own = first_page ∷ own; held = now.held + n }) areas

-- ---- a step of a seat's instance
-- it led to another instance and memory, with this answer
pub record IsTaken (before : Seat) (p0 : Pool) (k : ℕ) (now : Seat) (pool : Pool) (i : Called) (after : Octets) (answer : Stepped) : Type 0 where
  pub has : HasRun before p0 k now pool
  pub below : now.ran + k < now.limits.steps
  pub tells : IsTold (counting before 0) (common_of p0)
  pub led : (c : Config) → state_in now ≡ Running c →
      Went (now.limits.pages - now.held) c pool.memory.octets (state_in (record now { instance = i })) after.octets answer

-- a seat and a pool that stand for what is there after a step
pub more : (before : Seat) (p0 : Pool) (k : ℕ) (now : Seat) (pool : Pool) (has : HasRun before p0 k now pool) (c : Config) (made : Next) (final : Seat) (end : Pool) →
    now.ran + k < now.limits.steps → state_in now ≡ Running c → next (grants (world_of now)) (placing (common_of pool)) c pool.memory.octets ≡ Some made →
    state_in final ≡ made.state → world_of final ≡ world_after (world_of now) pool.memory.octets made.event → final.ran ≡ now.ran →
    final.limits.steps ≡ now.limits.steps → final.released ≡ now.released → end.memory.octets ≡ made.memory → end.free.items ≡ flags_after (common_of pool) made.event →
    (counting final (k + 1), common_with (counting final (k + 1)) end) ≡ steps_of (k + 1) (counting before 0) (common_of p0)
more before p0 k now pool has c made final end below runs is state world ran most released octets flags =
    let same = same-beside now k pool c runs below in
    let here : (counting now k, common_of pool) ≡ steps_of k (counting before 0) (common_of p0) =
    ap (λ (x : Common). (counting now k, x)) (sym same.1) ∙ has.ran in
    let stepped = step-on (counting before 0) (common_of p0) k (counting now k) (common_of pool) c made here same.0 runs is in
    let count : final.ran + (k + 1) ≡ now.ran + k + 1 = omega (arith, ran) in
    let instance : counting final (k + 1) ≡ moved_by (counting now k) (common_of pool) made =
    instance_at-same (state_in final) made.state (world_of final) (world_after (world_of now) pool.memory.octets made.event)
    final.limits.steps now.limits.steps (final.ran + (k + 1)) (now.ran + k + 1) final.released now.released state world most count released in
    beside-same (counting final (k + 1)) (moved_by (counting now k) (common_of pool) made) end.memory.octets made.memory end.free.items
    (flags_after (common_of pool) made.event) instance octets flags
    ∙ stepped

module _ {before : Seat} {p0 : Pool} {k : ℕ} {now : Seat} {pool : Pool} {i : Called} {after : Octets} {answer : Stepped}
    (taken : IsTaken before p0 k now pool i after answer) where
  abbrev pub new_state : State
  new_state = state_in (record now { instance = i })

  -- the step that was made
  pub record IsMade : Type 0 where
    pub c : Config
    pub running : state_in now ≡ Running c
    pub event : Event
    pub made : next (grants (world_of now)) (placing (common_of pool)) c pool.memory.octets ≡ Some (record { event = event; state = new_state; memory = after.octets })
    pub told : CanBeTold (world_of now) event new_state
    pub answered : IsAnswer answer pool.memory.octets event new_state
    pub longer : length after.octets ≡ length pool.memory.octets + pages_gained pool.memory.octets event * page
    pub given : IsGranted (grants (world_of now)) event

  pub step : IsMade
  step =
      let c = running now (state_in now) taken.has.runs in
      let w : Went (now.limits.pages - now.held) c.0 pool.memory.octets new_state after.octets answer = taken.led c.0 c.1 in
      let place : ℕ → ℕ = placing (common_of pool) in
      let n : Next = record { event = w.event; state = new_state; memory = after.octets } in
      let same = same-beside now k pool c.0 c.1 taken.below in
      let here : (counting now k, common_of pool) ≡ steps_of k (counting before 0) (common_of p0) =
      ap (λ (x : Common). (counting now k, x)) (sym same.1) ∙ taken.has.ran in
      let made : next (grants (world_of now)) (placing (common_of pool)) c.0 pool.memory.octets ≡ Some n =
      sym (answered-alike (λ pages. nat_le pages (now.limits.pages - now.held)) (grants (world_of now)) (placing (common_of pool)) pool.memory.octets (wants c.0)
      (λ pages. spare-grants (world_of now) pages taken.has.seat.grants.held)) ∙ w.made (placing (common_of pool)) in
      record {
        c = c.0;
        running = c.1;
        event = w.event;
        made = made;
        told = subst (λ (p : t.Instance × Common). p.0.state ≡ Running c.0 → p.0.end ≡ None → next (grants p.0.world) (placing p.1) c.0 p.1.memory ≡ Some n →
            CanBeTold p.0.world n.event n.state) (sym here) (taken.tells k c.0 n) c.1 same.0 made;
        answered = w.answered;
        longer = length_grows (grants (world_of now)) (placing (common_of pool)) c.0 pool.memory.octets n taken.has.kept.whole made;
        given = granted (grants (world_of now)) (placing (common_of pool)) pool.memory.octets (wants c.0) n
            (outcome (grants (world_of now)) (placing (common_of pool)) pool.memory.octets (wants c.0) n made);
      }

  abbrev made_is : Next
  made_is = record { event = step.event; state = new_state; memory = after.octets }

  -- no request: nothing else changes
  pub ran-on : answer ≡ Ran → i.program ≡ now.instance.program → i.asked ≡ None → after.reserved ≡ pool.memory.reserved →
      HasRun before p0 (k + 1) (record now { instance = i }) (record pool { memory = after })
  ran-on is same_program unasked reserved =
      let still = plainly new_state (subst (λ (a : Stepped). IsAnswer a pool.memory.octets step.event new_state) is step.answered) in
      let same = stays-without (world_of now) (common_of pool) step.event still.0 in
      record {
        ran = more before p0 k now pool taken.has step.c made_is (record now { instance = i }) (record pool { memory = after }) taken.below step.running step.made
            refl (sym same.0) refl refl refl refl (sym same.2);
        seated = ap (λ (seat : Seat). record seat { instance = i }) taken.has.seated;
        program = same_program ∙ taken.has.program;
        runs = still.1;
        unended = taken.has.unended;
        seat = record { grants = held-on; unasked = unasked };
        kept = kept-pool pool after taken.has.kept (omega (arith, step.longer, same.1)) reserved;
        longer = taken.has.longer;
        asks = omega (arith, step.longer, same.1, taken.has.asks);
        reserved = reserved ∙ taken.has.reserved;
      }
    where
      plainly : (s : State) → IsAnswer Ran pool.memory.octets step.event s → IsNoRequest step.event × IsEndOf (record now { instance = i }) s None
      plainly (Running c) h = (h, tt)
      plainly _ h = absurd h

      held-on : HasGrants (length pool.free.items) (record now { instance = i })
      held-on =
          let g = taken.has.seat.grants in
          record { counted = g.counted; held = g.held; room = g.room; first_page = g.first_page; inside = g.inside }

  -- a growth was granted, or refused, and the run goes on
  grew : (at pages : ℕ) (s : State) → IsAnswer (Grew at pages) pool.memory.octets step.event s →
      (step.event ≡ Grows pages true) × (at ≡ pages_of pool.memory.octets) × ((c : Config) × (s ≡ Running c))
  grew at pages (Running c) h = (h.0, h.1, (c, refl))
  grew at pages _ h = absurd h

  refused : (pages : ℕ) (s : State) → IsAnswer (Refused pages) pool.memory.octets step.event s → (step.event ≡ Grows pages false) × ((c : Config) × (s ≡ Running c))
  refused pages (Running c) h = (h, (c, refl))
  refused pages _ h = absurd h

  -- what a granted growth comes to
  pub record HasGrown (at pages : ℕ) : Type 0 where
    pub event_is : step.event ≡ Grows pages true
    pub place : at ≡ pages_of pool.memory.octets
    pub goes_on : (c : Config) × (new_state ≡ Running c)
    pub fits : now.held + pages ≤ now.limits.pages
    pub longer : length after.octets ≡ length pool.memory.octets + pages * page

  pub has-grown : (at pages : ℕ) → answer ≡ Grew at pages → HasGrown at pages
  has-grown at pages is =
      let asked = grew at pages new_state (subst (λ (a : Stepped). IsAnswer a pool.memory.octets step.event new_state) is step.answered) in
      let given : IsGranted (grants (world_of now)) (Grows pages true) = subst (IsGranted (grants (world_of now))) asked.0 step.given in
      let longer : length after.octets ≡ length pool.memory.octets + pages_gained pool.memory.octets (Grows pages true) * page =
      subst (λ (e : Event). length after.octets ≡ length pool.memory.octets + pages_gained pool.memory.octets e * page) asked.0 step.longer in
      record { event_is = asked.0; place = asked.1; goes_on = asked.2; fits = leb-true (now.held + pages) now.limits.pages given; longer = longer }

  pub grew-on : (at pages : ℕ) (got : Vec Grant Global) (final : Seat) (end : Pool) → answer ≡ Grew at pages → i.program ≡ now.instance.program → i.asked ≡ None →
      after.reserved ≡ pool.memory.reserved → final ≡ record now { instance = i; granted = got; held = now.held + pages } →
      got.items ≡ now.granted.items ++ grants_of at pages → vec_capacity got ≡ vec_capacity now.granted → end.memory ≡ after →
      end.free.items ≡ pool.free.items ++ replicate pages false → IsPool end → HasRun before p0 (k + 1) final end
  grew-on at pages got final end is same_program unasked reserved final_is got_is capacity memory flags kept =
      let it = has-grown at pages is in
      let seat : Seat = record now { instance = i; granted = got; held = now.held + pages } in
      let old = taken.has.kept in
      let begins : length pool.memory.octets ≡ at * page = omega (arith, old.whole, it.place) in
      let world : world_of seat ≡ world_after (world_of now) pool.memory.octets (Grows pages true) = world-granted now i got at pages (length pool.memory.octets) begins got_is in
      let world_is : world_of seat ≡ world_after (world_of now) pool.memory.octets step.event =
      world ∙ ap (world_after (world_of now) pool.memory.octets) (sym it.event_is) in
      let flags_are : end.free.items ≡ flags_after (common_of pool) step.event = flags ∙ ap (flags_after (common_of pool)) (sym it.event_is) in
      let octets : end.memory.octets ≡ after.octets = ap (λ (m : Octets). m.octets) memory in
      let size : length end.memory.octets ≡ length pool.memory.octets + pages * page = ap length octets ∙ it.longer in
      let there : length end.free.items ≡ length pool.free.items + pages = omega (arith, kept.flags, size, old.flags, old.whole) in
      subst (λ (x : Seat). HasRun before p0 (k + 1) x end) (sym final_is) (record {
        ran = more before p0 k now pool taken.has step.c made_is seat end taken.below step.running step.made refl world_is refl refl refl octets flags_are;
        seated = ap (λ (x : Seat). record x { instance = i; granted = got; held = now.held + pages }) taken.has.seated;
        program = same_program ∙ taken.has.program;
        runs = rw it.goes_on.1 tt;
        unended = taken.has.unended;
        seat = record {
          grants = grants-added (length pool.free.items) (length end.free.items) at pages now i got (omega (arith, there)) taken.has.seat.grants it.fits
              (omega (arith, there, it.place, old.flags)) got_is capacity;
          unasked = unasked;
        };
        kept = kept;
        longer = omega (arith, taken.has.longer, there);
        asks = omega (arith, size, it.fits, taken.has.asks);
        reserved = ap (λ (m : Octets). m.reserved) memory ∙ reserved ∙ taken.has.reserved;
      })

  pub refused-on : (pages : ℕ) → answer ≡ Refused pages → i.program ≡ now.instance.program → i.asked ≡ None → after.reserved ≡ pool.memory.reserved →
      HasRun before p0 (k + 1) (record now { instance = i; refused = Some pages }) (record pool { memory = after })
  refused-on pages is same_program unasked reserved =
      let asked = refused pages new_state (subst (λ (a : Stepped). IsAnswer a pool.memory.octets step.event new_state) is step.answered) in
      let longer : length after.octets ≡ length pool.memory.octets + 0 * page =
      subst (λ (e : Event). length after.octets ≡ length pool.memory.octets + pages_gained pool.memory.octets e * page) asked.0 step.longer in
      let g = taken.has.seat.grants in
      record {
        ran = more before p0 k now pool taken.has step.c made_is (record now { instance = i; refused = Some pages }) (record pool { memory = after }) taken.below step.running
            step.made refl (ap (world_after (world_of now) pool.memory.octets) (sym asked.0)) refl refl refl refl (ap (flags_after (common_of pool)) (sym asked.0));
        seated = ap (λ (x : Seat). record x { instance = i; refused = Some pages }) taken.has.seated;
        program = same_program ∙ taken.has.program;
        runs = rw asked.1.1 tt;
        unended = taken.has.unended;
        seat = record {
          grants = record { counted = g.counted; held = g.held; room = g.room; first_page = g.first_page; inside = g.inside };
          unasked = unasked;
        };
        kept = kept-pool pool after taken.has.kept (omega (arith, longer)) reserved;
        longer = taken.has.longer;
        asks = omega (arith, longer, taken.has.asks);
        reserved = reserved ∙ taken.has.reserved;
      }

  -- The run has ended: it takes no step more. What it has and the memory's size are as before its last step.
  pub record HasEnded (budget : ℕ) : Type 0 where
    pub ran : (counting (record now { instance = i }) (k + 1), common_with (counting (record now { instance = i }) (k + 1)) (record pool { memory = after }))
        ≡ steps_of budget (counting before 0) (common_of p0)
    pub size : length after.octets ≡ length pool.memory.octets
    pub kept : after.reserved ≡ pool.memory.reserved → IsPool (record pool { memory = after })

  ended-at : (budget : ℕ) → k < budget → IsNoRequest step.event → IsSome (end_at new_state (world_of now) (now.ran + (k + 1)) now.limits.steps) → HasEnded budget
  ended-at budget within none over =
      let same = stays-without (world_of now) (common_of pool) step.event none in
      let end : Pool = record pool { memory = after } in
      let seat : Seat = record now { instance = i } in
      let all = more before p0 k now pool taken.has step.c made_is seat end taken.below step.running step.made refl (sym same.0) refl refl refl refl (sym same.2) in
      let left : budget ≡ k + 1 + (budget - (k + 1)) = omega (arith, within) in
      let stays = steps_of-ended (budget - (k + 1)) (counting seat (k + 1)) (common_with (counting seat (k + 1)) end) over in
      let size : length after.octets ≡ length pool.memory.octets = omega (arith, step.longer, same.1) in
      record {
        ran = sym (ap (λ (n : ℕ). steps_of n (counting before 0) (common_of p0)) left
            ∙ steps_of-added (k + 1) (budget - (k + 1)) (counting before 0) (common_of p0)
            ∙ ap (λ (p : t.Instance × Common). steps_of (budget - (k + 1)) p.0 p.1) (sym all)
            ∙ stays);
        size = size;
        kept = λ reserved. kept-pool pool after taken.has.kept size reserved;
      }

  pub returned : (budget : ℕ) → k < budget → answer ≡ came.Returned → HasEnded budget × (new_state ≡ Returned)
  returned budget within is = by_state new_state refl (subst (λ (a : Stepped). IsAnswer a pool.memory.octets step.event new_state) is step.answered)
    where
      by_state : (s : State) → new_state ≡ s → IsAnswer came.Returned pool.memory.octets step.event s → HasEnded budget × (new_state ≡ Returned)
      by_state (Running c) s_is h = absurd h
      by_state Returned s_is h = (
        ended-at budget within (ends-without (world_of now) step.event (subst (CanBeTold (world_of now) step.event) s_is step.told)) (rw s_is refl),
        s_is,
      )
      by_state (Raised code) s_is h = absurd h
      by_state (Trapped why) s_is h = absurd h

  -- a code was raised
  pub record HasRaised (budget code : ℕ) : Type 0 where
    pub ended : HasEnded budget
    pub state_is : new_state ≡ Raised code
    pub raised : IsRaised now.refused code

  pub raises : (budget code : ℕ) → k < budget → answer ≡ came.Raised code → HasRaised budget code
  raises budget code within is = by_state new_state refl (subst (λ (a : Stepped). IsAnswer a pool.memory.octets step.event new_state) is step.answered)
    where
      by_state : (s : State) → new_state ≡ s → IsAnswer (came.Raised code) pool.memory.octets step.event s → HasRaised budget code
      by_state (Raised other) s_is h =
          let told = raises-after (world_of now) step.event other (subst (CanBeTold (world_of now) step.event) s_is step.told) in
          let state_is : new_state ≡ Raised code = s_is ∙ ap Raised (sym h) in
          let raised : IsRaised now.refused code = subst (IsRaised now.refused) (sym h) told.1 in
          record { ended = ended-at budget within told.0 (rw state_is (raise-ends (world_of now) code raised)); state_is = state_is; raised = raised }
      by_state _ s_is h = absurd h

  -- and none traps
  pub untrapped : (why : Trap) → answer ≡ came.Trapped why → ⊥
  untrapped why is = by_state new_state refl (subst (λ (a : Stepped). IsAnswer a pool.memory.octets step.event new_state) is step.answered)
    where
      by_state : (s : State) → new_state ≡ s → IsAnswer (came.Trapped why) pool.memory.octets step.event s → ⊥
      by_state (Trapped because) s_is h = never-trapped (world_of now) step.event because (subst (CanBeTold (world_of now) step.event) s_is step.told)
      by_state _ s_is h = h

-- ---- a request to the host
-- an instance that goes on runs
goes-on : (s : State) → GoesOn s → (c : Config) × (s ≡ Running c)
goes-on (Running c) goes = (c, refl)
goes-on _ goes = absurd goes

-- once it is answered the run goes on
pub answered-on : (before : Seat) (p0 : Pool) (k : ℕ) (now : Seat) (pool : Pool) (i : Called) (n : ℕ) (c : Config) (final : Seat) (end : Pool) →
    HasRun before p0 k now pool → IsTold (counting before 0) (common_of p0) → now.ran + k < now.limits.steps → state_in now ≡ Running c →
    IsAnswered n (record now { instance = i }) (common_of pool) final (common_of end) c → StaysSeated (record now { instance = i }) final → final.ended ≡ now.ended →
    final.instance.program ≡ now.instance.program → IsSeat (length end.free.items) final → IsPool end → length pool.free.items ≤ length end.free.items →
    length end.memory.octets + (final.limits.pages - final.held) * page ≤ length pool.memory.octets + (now.limits.pages - now.held) * page →
    end.memory.reserved ≡ pool.memory.reserved → HasRun before p0 (k + 1) final end
answered-on before p0 k now pool i n c final end has tells below runs answered seated ended program seat kept longer asks reserved =
    let same = same-beside now k pool c runs below in
    let made : Next = record { event = AsksHost n answered.first; state = state_in final; memory = end.memory.octets } in
    let here : (counting now k, common_of pool) ≡ steps_of k (counting before 0) (common_of p0) =
    ap (λ (x : Common). (counting now k, x)) (sym same.1) ∙ has.ran in
    let told : GoesOn (state_in final) =
    subst (λ (p : t.Instance × Common). p.0.state ≡ Running c → p.0.end ≡ None → next (grants p.0.world) (placing p.1) c p.1.memory ≡ Some made →
    CanBeTold p.0.world made.event made.state) (sym here) (tells k c made) runs same.0 answered.made in
    let runs_on = goes-on (state_in final) told in
    record {
      ran = more before p0 k now pool has c made final end below runs answered.made refl answered.world (ap (λ (x : Seat). x.ran) seated)
          (ap (λ (x : Seat). x.limits.steps) seated) (ap (λ (x : Seat). x.released) seated) refl answered.free;
      seated = seated ∙ ap (λ (x : Seat). record x {
        instance = final.instance;
        granted = final.granted;
        held = final.held;
        refused = final.refused;
        ended = final.ended;
      }) has.seated;
      program = program ∙ has.program;
      runs = rw runs_on.1 tt;
      unended = ended ∙ has.unended;
      seat = seat;
      kept = kept;
      longer = omega (arith, longer, has.longer);
      asks = omega (arith, asks, has.asks);
      reserved = reserved ∙ has.reserved;
    }

-- the end of a seat depends on what it holds and may hold
pub end-kept : (seat after : Seat) (s s' : State) (o : Option Ended) → seat.refused ≡ after.refused → seat.held ≡ after.held → seat.limits.pages ≡ after.limits.pages →
    s ≡ s' → IsEndOf seat s o → IsEndOf after s' o
end-kept seat after s s' o refused held limit same h = subst (λ (x : State). IsEndOf after x o) same (by_end s o h)
  where
    by_end : (x : State) (e : Option Ended) → IsEndOf seat x e → IsEndOf after x e
    by_end (Running c) None h = h
    by_end Returned (Some ended.Done) h = h
    by_end (Raised code) (Some (ended.Raised one)) h = h
    by_end (Raised code) (Some (ended.Pages most asked few)) h = (h.0, sym refused ∙ h.1, h.2 ∙ held, h.3 ∙ limit)
    by_end _ _ h = absurd h

-- ---- a turn
-- a whole instance counts from what it ran
pub counting-none : (seat : Seat) → IsWhole (instance_of seat) → counting seat 0 ≡ instance_of seat
counting-none seat whole =
    let none : seat.ran + 0 ≡ seat.ran = omega arith in
    rw none (rw whole.end_is refl)

pub is_some-end_of : (o : Option Ended) → is_some (end_of o) ≡ is_some o
is_some-end_of (Some ended.Done) = refl
is_some-end_of _ = refl

-- an instance that has ended takes no step
pub turned-none : (seat : Seat) (m : Common) (quantum : ℕ) → is_some seat.ended ≡ true → (instance_of seat, m) ≡ steps_of quantum (instance_of seat) m
turned-none seat m quantum some = sym (steps_of-ended quantum (instance_of seat) m (is_some-end_of seat.ended ∙ some))

-- one that hasn't runs, and may run on
pub unended-seat : (seat : Seat) → IsWhole (instance_of seat) → is_some seat.ended ≡ false → IsEndOf seat (state_in seat) None × (seat.ran < seat.limits.steps)
unended-seat seat whole none =
    let runs = unended-runs (instance_of seat) whole (is_some-end_of seat.ended ∙ none) (state_in seat) refl in
    (rw runs.1 tt, runs.2)

-- the end that is set is the one at the state, but for the limit
end-set : (seat : Seat) (s : State) (o : Option Ended) (ran most : ℕ) → IsEndOf seat s o → is_some o ≡ true →
    (end_of o ≡ end_at s (world_of seat) ran most) × (is_some (end_at s (world_of seat) ran most) ≡ true)
end-set seat (Running c) None ran most h some = cc
end-set seat Returned (Some ended.Done) ran most h some = (refl, refl)
end-set seat (Raised code) (Some (ended.Raised DivZero)) ran most h some = rw h (refl, refl)
end-set seat (Raised code) (Some (ended.Raised OutOfRange)) ran most h some = rw h (refl, refl)
end-set seat (Raised code) (Some (ended.Pages held asked limit)) ran most h some = rw (h.0, h.1, h.2, h.3) (refl, refl)
end-set seat _ _ ran most h some = absurd h

end-unset : (seat : Seat) (s : State) (o : Option Ended) (ran most : ℕ) → IsEndOf seat s o → is_some o ≡ false →
    (o ≡ None) × (end_at s (world_of seat) ran most ≡ (if nat_le most ran then Some (t.Steps most) else None))
end-unset seat (Running c) None ran most h none = (refl, refl)
end-unset seat Returned None ran most h none = absurd h
end-unset seat (Raised code) None ran most h none = absurd h
end-unset seat (Trapped why) o ran most h none = absurd h
end-unset seat _ (Some e) ran most h none = cc

-- instructions that were counted are those that were run
pub counted-ended : (seat : Seat) (taken : ℕ) → IsEndOf seat (state_in seat) seat.ended → is_some seat.ended ≡ true →
    instance_of (record seat { ran = seat.ran + taken }) ≡ counting seat taken
counted-ended seat taken end some =
    let set = end-set seat (state_in seat) seat.ended (seat.ran + taken) seat.limits.steps end some in
    rw set.0 refl

pub counted-at_limit : (seat : Seat) (taken : ℕ) → IsEndOf seat (state_in seat) seat.ended → is_some seat.ended ≡ false → seat.ran + taken ≡ seat.limits.steps →
    instance_of (record seat { ran = seat.ran + taken; ended = Some (ended.Steps seat.limits.steps) }) ≡ counting seat taken
counted-at_limit seat taken end none reached =
    let unset = end-unset seat (state_in seat) seat.ended (seat.ran + taken) seat.limits.steps end none in
    let full : nat_le seat.limits.steps (seat.ran + taken) ≡ true = le-leb seat.limits.steps (seat.ran + taken) (omega (arith, reached)) in
    rw (unset.1, full) refl

pub counted-on : (seat : Seat) (taken : ℕ) → IsEndOf seat (state_in seat) seat.ended → is_some seat.ended ≡ false → seat.ran + taken ≤ seat.limits.steps →
    seat.ran + taken ≢ seat.limits.steps → instance_of (record seat { ran = seat.ran + taken }) ≡ counting seat taken
counted-on seat taken end none within short =
    let unset = end-unset seat (state_in seat) seat.ended (seat.ran + taken) seat.limits.steps end none in
    let below_limit : nat_le seat.limits.steps (seat.ran + taken) ≡ false = lt-leb seat.limits.steps (seat.ran + taken) (omega (arith, within, short)) in
    rw (unset.1, below_limit, unset.0) refl

-- a run within a quantum, whose instructions are counted and whose pages are settled, is a turn
module _ (seat mid new : Seat) (m0 : Common) (pool after : Pool) (quantum budget result : ℕ) (whole : IsWhole (instance_of seat))
    (ran : (counting mid result, common_with (counting mid result) pool) ≡ steps_of budget (counting seat 0) m0) (least : budget ≡ min quantum (seat.limits.steps - seat.ran))
    (seated : StaysSeated seat mid) (end : IsEndOf mid (state_in mid) mid.ended) (count : mid.ended ≡ None → result ≡ budget)
    (counted : instance_of new ≡ counting mid result) (settled : common_of after ≡ common_with (instance_of new) pool) where
  first : (instance_of new, common_of after) ≡ steps_of budget (instance_of seat) m0
  first =
      ap (λ (common : Common). (instance_of new, common)) settled
      ∙ ap (λ (i : t.Instance). (i, common_with i pool)) counted
      ∙ ran
      ∙ ap (λ (i : t.Instance). steps_of budget i m0) (counting-none seat whole)

  all-or-ended : IsSome (counting mid result).end ⊎ (budget ≡ quantum)
  all-or-ended = ⊎_elim
      (λ some. inl (end-set mid (state_in mid) mid.ended (mid.ran + result) mid.limits.steps end some).1)
      (λ none.
      let unset = end-unset mid (state_in mid) mid.ended (mid.ran + result) mid.limits.steps end none in
      let all : result ≡ budget = count unset.0 in
      let same_ran : mid.ran ≡ seat.ran = ap (λ (s : Seat). s.ran) seated in
      let same_most : mid.limits.steps ≡ seat.limits.steps = ap (λ (s : Seat). s.limits.steps) seated in
      ⊎_elim
      (λ full.
      let reached : nat_le mid.limits.steps (mid.ran + result) ≡ true = full in
      inl (rw (unset.1, reached) refl))
      (λ below.
      let short : mid.ran + result < mid.limits.steps = leb-false mid.limits.steps (mid.ran + result) below in
      inr (omega (arith, short, all, same_ran, same_most, least)))
      (cases_Bool (nat_le mid.limits.steps (mid.ran + result))))
      (cases_Bool (is_some mid.ended))

  pub turned : (instance_of new, common_of after) ≡ steps_of quantum (instance_of seat) m0
  turned = ⊎_elim
      (λ ended.
      let over : IsSome (instance_of new).end = subst (λ (i : t.Instance). IsSome i.end) (sym counted) ended in
      let rest : quantum ≡ budget + (quantum - budget) = omega (arith, least) in
      sym (ap (λ (n : ℕ). steps_of n (instance_of seat) m0) rest
      ∙ steps_of-added budget (quantum - budget) (instance_of seat) m0
      ∙ ap (λ (p : t.Instance × Common). steps_of (quantum - budget) p.0 p.1) (sym first)
      ∙ steps_of-ended (quantum - budget) (instance_of new) (common_of after) over))
      (λ all. first ∙ ap (λ (n : ℕ). steps_of n (instance_of seat) m0) all)
      all-or-ended
