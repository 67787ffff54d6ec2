-- A turn of a bench is a turn of the state that it stands for, and a release a release.
use Rattle.std.proofs.Common.{◌≡◌, ℕ, ◌+◌, ◌-◌, ◌*◌, ◌<◌, ◌≤◌, List, [], ◌∷◌, length, map, false, true, Option, Some, None, IsSome, slice_get, slice_set, get_or, refl, sym, ap, ◌∙◌, subst, arith}
use Rattle.std.specs.Prelude.{◌↔◌}
use Rattle.std.specs.Option.{option_map}
use Rattle.std.proofs.Math.Seq.{map-set_same}
use Rattle.std.proofs.lemmas.List.{length-map, map-set}
use Rattle.std.proofs.lemmas.List.Elements.{All-get_or, All-set, All-weaker}
use Rattle.std.proofs.lemmas.Option.{get_or_from_slice_get, slice_get-get_or, slice_get-map, slice_get_within}
use Rattle.qw_linear.specs.Linear.{Octets}
use Rattle.qw_linear.specs.Memory.{page}
use Rattle.qw_map.specs.Turns.{Done, Instance, IsWhole, may_ask, steps_of, Act, turn, release, acted, given, release_at, turn_at, with_instance}
use Rattle.qw_map.proofs.FreeSteps.{asks_changed, asks_within}
use Rattle.qw_map.proofs.TurnFacts.{slice_get-set_same}
use Rattle.qw_bench.specs.declared.bench.Ended.{Ended}
use Rattle.qw_bench.specs.declared.bench.Ended.TheVariants as ended
use Rattle.qw_bench.specs.declared.bench.Seat.{Seat}
use Rattle.qw_bench.specs.declared.pool.Pool.{Pool}
use Rattle.qw_bench.specs.Bench.{AreServing}
use Rattle.qw_bench.specs.Standing.{Standing, end_of}
use Rattle.qw_bench.specs.Inner.Pools.{IsPool, common_of}
use Rattle.qw_bench.specs.Inner.Seats.{AreSeats, IsSeat, IsTold, instance_of, standing_of, task_of}
use Rattle.qw_bench.specs.Bench.{ran_in, end_in, released_in}
use Rattle.qw_bench.proofs.SeatSteps.{grants-more}
use Rattle.qw_bench.proofs.Serving.{serving-told, turns-serving}

-- the seat of a number
pub record Sits (pool : Pool) (seats : List Seat) (i : ℕ) (seat : Seat) : Type 0 where
  pub there : slice_get seats i ≡ Some seat

pub seat-found : (b : Standing) (pool : Pool) (seats : List Seat) (i : ℕ) (seat : Seat) → standing_of pool seats ≡ b →
    i < length b.shared.instances → seat ≡ get_or seats i seat → Sits pool seats i seat
seat-found b pool seats i seat view within is =
    let many : length b.shared.instances ≡ length seats = ap (λ (x : Standing). length x.shared.instances) (sym view) ∙ length-map seats instance_of in
    record { there = slice_get-get_or seats i seat (omega arith) ∙ ap Some (sym is) }

module _ {pool : Pool} {seats : List Seat} {i : ℕ} {seat : Seat} (sits : Sits pool seats i seat) where
  instance_there : slice_get (map instance_of seats) i ≡ Some (instance_of seat)
  instance_there = slice_get-map instance_of seats i ∙ ap (option_map instance_of) sits.there

  task_there : slice_get (map task_of seats) i ≡ Some (task_of seat)
  task_there = slice_get-map task_of seats i ∙ ap (option_map task_of) sits.there

  turned_at : (quantum : ℕ) → acted (standing_of pool seats).shared (turn i quantum)
      ≡ with_instance (standing_of pool seats).shared i (steps_of quantum (instance_of seat) (common_of pool))
  turned_at quantum = ap (turn_at (standing_of pool seats).shared i quantum) instance_there

  -- the instance that was given a turn
  turned_there : (x : Instance) → slice_get (slice_set (map instance_of seats) i x) i ≡ Some x
  turned_there x = slice_get-set_same (map instance_of seats) i x (slice_get_within (map instance_of seats) i (instance_of seat) instance_there)

  pub turned-shared : (quantum : ℕ) (new : Seat) (after : Pool) → (instance_of new, common_of after) ≡ steps_of quantum (instance_of seat) (common_of pool) →
      (standing_of after (slice_set seats i new)).shared ≡ acted (standing_of pool seats).shared (turn i quantum)
  turned-shared quantum new after is =
      ap (λ (instances : List Instance). record { common = common_of after; instances = instances }) (map-set instance_of seats i new)
      ∙ ap (with_instance (standing_of pool seats).shared i) is
      ∙ sym (turned_at quantum)

  pub turned-tasks : (new : Seat) → task_of new ≡ task_of seat → map task_of (slice_set seats i new) ≡ map task_of seats
  turned-tasks new same = map-set_same task_of seats i new seat (same ∙ ap task_of (sym (get_or_from_slice_get seats i seat seat sits.there)))

  pub turned-ran : (new : Seat) (after : Pool) (result : ℕ) → new.ran ≡ seat.ran + result →
      ran_in (standing_of after (slice_set seats i new)).shared i ≡ ran_in (standing_of pool seats).shared i + result
  turned-ran new after result count =
      let now : slice_get (map instance_of (slice_set seats i new)) i ≡ Some (instance_of new) =
      ap (λ (instances : List Instance). slice_get instances i) (map-set instance_of seats i new) ∙ turned_there (instance_of new) in
      rw (now, instance_there) count

  pub end-is : end_in (standing_of pool seats).shared i ≡ (instance_of seat).end
  end-is = rw instance_there refl

  module _ (kept : AreSeats pool seats) where
    pub seat-whole : IsWhole (instance_of seat)
    seat-whole = (kept.bench.serving.serving i (task_of seat) (instance_of seat) task_there instance_there).whole

    pub seat-is : IsSeat (length pool.free.items) seat
    seat-is =
        let at = All-get_or (IsSeat (length pool.free.items)) seats i seat (slice_get_within seats i seat sits.there) kept.each in
        subst (IsSeat (length pool.free.items)) (get_or_from_slice_get seats i seat seat sits.there) at

    -- the memory has room for what its instance may still ask for
    pub seat-room : length pool.memory.octets + (seat.limits.pages - seat.held) * page ≤ pool.memory.reserved * page
    seat-room =
        let asks : seat.limits.pages - seat.held ≤ may_ask (map instance_of seats) = asks_within (map instance_of seats) i (instance_of seat) instance_there in
        omega (arith, kept.bench.room, asks)

    pub seat-told : IsTold (instance_of seat) (common_of pool)
    seat-told = serving-told kept.bench.tables (map task_of seats) (standing_of pool seats).shared kept.bench.serving i (task_of seat) (instance_of seat)
        task_there instance_there

    -- what the seats may ask for after a turn of one
    turned-room : (new : Seat) (after : Pool) → after.memory.reserved ≡ pool.memory.reserved →
        length after.memory.octets + (new.limits.pages - new.held) * page ≤ length pool.memory.octets + (seat.limits.pages - seat.held) * page →
        length after.memory.octets + may_ask (map instance_of (slice_set seats i new)) * page ≤ after.memory.reserved * page
    turned-room new after reserved asks =
        let changed : may_ask (slice_set (map instance_of seats) i (instance_of new)) + (seat.limits.pages - seat.held)
        ≡ may_ask (map instance_of seats) + (new.limits.pages - new.held) =
        asks_changed (map instance_of seats) i (instance_of seat) (instance_of new) instance_there in
        let sum : may_ask (map instance_of (slice_set seats i new)) ≡ may_ask (slice_set (map instance_of seats) i (instance_of new)) =
        ap may_ask (map-set instance_of seats i new) in
        omega (arith, changed, sum, asks, reserved, kept.bench.room)

    -- the seats after an act of one
    acted-seats : (act : Act) (new : Seat) (after : Pool) → (standing_of after (slice_set seats i new)).shared ≡ acted (standing_of pool seats).shared act →
        task_of new ≡ task_of seat → IsSeat (length after.free.items) new → IsPool after → length pool.free.items ≤ length after.free.items →
        after.memory.reserved ≡ pool.memory.reserved →
        length after.memory.octets + (new.limits.pages - new.held) * page ≤ length pool.memory.octets + (seat.limits.pages - seat.held) * page →
        AreSeats after (slice_set seats i new)
    acted-seats act new after is same seated there more reserved asks = record {
      bench = record {
        tables = kept.bench.tables;
        serving = rw (turned-tasks new same)
            (subst (AreServing kept.bench.tables (map task_of seats)) (sym is)
            (turns-serving kept.bench.tables (map task_of seats) (standing_of pool seats).shared kept.bench.serving (act ∷ [])));
        room = turned-room new after reserved asks;
      };
      kept = there;
      each = All-set (IsSeat (length after.free.items)) seats i new seated
          (All-weaker (IsSeat (length pool.free.items)) (IsSeat (length after.free.items))
          (λ one h. record { grants = grants-more (length pool.free.items) (length after.free.items) one more h.grants; unasked = h.unasked }) seats kept.each);
    }

    pub turned-bench : (quantum : ℕ) (new : Seat) (after : Pool) → (instance_of new, common_of after) ≡ steps_of quantum (instance_of seat) (common_of pool) →
        task_of new ≡ task_of seat → IsSeat (length after.free.items) new → IsPool after → length pool.free.items ≤ length after.free.items →
        after.memory.reserved ≡ pool.memory.reserved →
        length after.memory.octets + (new.limits.pages - new.held) * page ≤ length pool.memory.octets + (seat.limits.pages - seat.held) * page →
        AreSeats after (slice_set seats i new)
    turned-bench quantum new after is = acted-seats (turn i quantum) new after (turned-shared quantum new after is)

  -- ---- a release
  module _ (new : Seat) (after : Pool) (done : (instance_of seat).end ≡ Some Done) (held : (instance_of seat).released ≡ false)
      (is : (instance_of new, common_of after) ≡ given (instance_of seat) (common_of pool)) where
    released_at : acted (standing_of pool seats).shared (release i) ≡ with_instance (standing_of pool seats).shared i (given (instance_of seat) (common_of pool))
    released_at = ap (release_at (standing_of pool seats).shared i) instance_there ∙ rw (done, held) refl

    pub released-shared : (standing_of after (slice_set seats i new)).shared ≡ acted (standing_of pool seats).shared (release i)
    released-shared =
        ap (λ (instances : List Instance). record { common = common_of after; instances = instances }) (map-set instance_of seats i new)
        ∙ ap (with_instance (standing_of pool seats).shared i) is
        ∙ sym released_at

    pub released-bench : (kept : AreSeats pool seats) → new ≡ record seat { released = true } → IsPool after → length pool.free.items ≡ length after.free.items →
        after.memory ≡ pool.memory → AreSeats after (slice_set seats i new)
    released-bench kept new_is there many memory =
        let seated : IsSeat (length pool.free.items) new = rw new_is (let s = seat-is kept in record {
          grants = record { counted = s.grants.counted; held = s.grants.held; room = s.grants.room; first_page = s.grants.first_page; inside = s.grants.inside };
          unasked = s.unasked;
        }) in
        acted-seats kept (release i) new after released-shared (ap task_of new_is) (rw (← many) seated) there (omega (arith, many)) (ap (λ (m : Octets). m.reserved) memory)
        (rw (new_is, memory) (omega arith))

  pub end-seen : (b : Standing) → standing_of pool seats ≡ b → (instance_of seat).end ≡ end_in b.shared i
  end-seen b view = sym end-is ∙ ap (λ (x : Standing). end_in x.shared i) view

  pub released-seen : (b : Standing) → standing_of pool seats ≡ b → (instance_of seat).released ≡ released_in b.shared i
  released-seen b view = sym (rw instance_there refl) ∙ ap (λ (x : Standing). released_in x.shared i) view

  -- no instruction was run exactly where the instance had ended
  pub turned-none : (result : ℕ) → (IsSome seat.ended → result ≡ 0) → (seat.ended ≡ None → 1 ≤ result) →
      (result ≡ 0) ↔ IsSome (end_in (standing_of pool seats).shared i)
  turned-none result over progress = rw end-is (by_end seat.ended over progress)
    where
      by_end : (o : Option Ended) → (IsSome o → result ≡ 0) → (o ≡ None → 1 ≤ result) → (result ≡ 0) ↔ IsSome (end_of o)
      by_end None over progress = (λ none. absurd (omega (arith, progress refl, none)), λ h. absurd (cc h))
      by_end (Some ended.Done) over progress = (λ none. refl, λ h. over refl)
      by_end _ over progress = (λ none. refl, λ h. over refl)
