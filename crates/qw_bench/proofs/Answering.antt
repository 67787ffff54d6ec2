-- What a seat makes of a request to its host.
use Rattle.std.proofs.Common.{Vec, Global, ◌≡◌, ℕ, ◌+◌, ◌-◌, ◌*◌, ◌<◌, ◌≤◌, true, false, List, ◌++◌, length, Option, Some, None, unwrap_or, refl, sym, ap, ◌∙◌, subst, arith}
use Rattle.std.specs.Vec.{vec_capacity}
use Rattle.std.proofs.lemmas.Bool.{le-leb, lt-leb}
use Rattle.qw_linear.specs.Memory.{cleared, page}
use Rattle.qw_machine.specs.Instance.{AsksFor, Called}
use Rattle.qw_module.specs.Execution.{Config, State, Running, AsksHost, refusal}
use Rattle.qw_module.specs.Step.{AsksPlace, Next, can_place, next, wants}
use Rattle.qw_map.specs.Areas.{World, grants}
use Rattle.qw_map.specs.Turns.{Common, flags_after, placing}
use Rattle.qw_bench.specs.declared.bench.Grant.{Grant}
use Rattle.qw_bench.specs.declared.bench.Seat.{Seat}
use Rattle.qw_bench.specs.declared.pool.Pool.{Pool}
use Rattle.qw_bench.specs.Inner.Pools.{common_of}
use Rattle.qw_bench.specs.Inner.Seats.{HasGrants, IsAnswered, IsSeat, StaysSeated, grants_of, state_in, world_of}
use Rattle.qw_bench.proofs.SeatSteps.{grants-added, world-granted}

-- ---- the step that asks
next-refused : (w : World) (common : Common) (c : Config) (n : ℕ) (make : ℕ → State) → wants c ≡ AsksPlace n make → grants w n ≡ false →
    next (grants w) (placing common) c common.memory ≡ Some (record { event = AsksHost n None; state = make refusal; memory = common.memory })
next-refused w common c n make is never = rw (is, never) refl

next-granted : (w : World) (common : Common) (c : Config) (n first : ℕ) (make : ℕ → State) → wants c ≡ AsksPlace n make → grants w n ≡ true → first ≡ placing common n →
    can_place first n common.memory ≡ true →
    next (grants w) (placing common) c common.memory ≡ Some (record { event = AsksHost n (Some first); state = make first; memory = cleared first n common.memory })
next-granted w common c n first make is may place can =
    let there : can_place (placing common n) n common.memory ≡ true = subst (λ (p : ℕ). can_place p n common.memory ≡ true) place can in
    let made : next (grants w) (placing common) c common.memory
    ≡ Some (record { event = AsksHost n (Some (placing common n)); state = make (placing common n); memory = cleared (placing common n) n common.memory }) =
    rw (is, may, there) refl in
    made ∙ ap (λ (p : ℕ). (let made_at : Next = record { event = AsksHost n (Some p); state = make p; memory = cleared p n common.memory } in Some made_at)) (sym place)

-- ---- a seat that has answered
pub record HasAnswered (n : ℕ) (before : Seat) (pool : Pool) (after : Seat) (end : Pool) : Type 0 where
  pub answered : (c : Config) → state_in before ≡ Running c → AsksFor n c → IsAnswered n before (common_of pool) after (common_of end) c
  pub seat : IsSeat (length end.free.items) after
  pub seated : StaysSeated before after
  pub ended : after.ended ≡ before.ended
  pub asks : length end.memory.octets + (after.limits.pages - after.held) * page ≤ length pool.memory.octets + (before.limits.pages - before.held) * page

-- what an answer makes of the state that asked
abbrev pub IsGiven : Seat → Called → Option ℕ → Type 0
IsGiven now i first = (c : Config) (pages : ℕ) (make : ℕ → State) → state_in now ≡ Running c → wants c ≡ AsksPlace pages make → i.state ≡ make (unwrap_or first refusal)

-- a request past the limit is refused
pub refuses-it : (n : ℕ) (now : Seat) (pool : Pool) (i : Called) → HasGrants (length pool.free.items) now → now.limits.pages - now.held < n → IsGiven now i None →
    i.asked ≡ None → HasAnswered n now pool (record now { instance = i; refused = Some n }) pool
refuses-it n now pool i has past given unasked = record {
  answered = λ c runs asks.
      let past_limit : grants (world_of now) n ≡ false = lt-leb (now.held + n) now.limits.pages (omega (arith, past, has.held)) in
      record {
        first = None;
        made = next-refused (world_of now) (common_of pool) c n asks.0 asks.1 past_limit
            ∙ ap (λ (s : State). (let x : Next = record { event = AsksHost n None; state = s; memory = pool.memory.octets } in Some x)) (sym (given c n asks.0 runs asks.1));
        world = refl;
        free = refl;
      };
  seat = record {
    grants = record { counted = has.counted; held = has.held; room = has.room; first_page = has.first_page; inside = has.inside };
    unasked = unasked;
  };
  seated = refl;
  ended = refl;
  asks = omega arith;
}

-- any other is granted
pub grants-it : (n first : ℕ) (now : Seat) (pool end : Pool) (i : Called) (got : Vec Grant Global) (final : Seat) → HasGrants (length pool.free.items) now →
    n ≤ now.limits.pages - now.held → first ≡ placing (common_of pool) n → can_place first n pool.memory.octets ≡ true →
    common_of end ≡ record { memory = cleared first n pool.memory.octets; free = flags_after (common_of pool) (AsksHost n (Some first)) } →
    first + n ≤ length end.free.items → length pool.free.items ≤ length end.free.items → length end.memory.octets ≤ length pool.memory.octets + n * page →
    IsGiven now i (Some first) → i.asked ≡ None → got.items ≡ now.granted.items ++ grants_of first n → vec_capacity got ≡ vec_capacity now.granted →
    final ≡ record now { instance = i; granted = got; held = now.held + n } → HasAnswered n now pool final end
grants-it n first now pool end i got final has fits place can common inside longer size given unasked got_is capacity final_is =
    let within : now.held + n ≤ now.limits.pages = omega (arith, fits, has.held) in
    rw final_is (record {
      answered = λ c runs asks.
          let may : grants (world_of now) n ≡ true = le-leb (now.held + n) now.limits.pages within in
          record {
            first = Some first;
            made = next-granted (world_of now) (common_of pool) c n first asks.0 asks.1 may place can
                ∙ ap (λ (s : State). (let x : Next = record { event = AsksHost n (Some first); state = s; memory = cleared first n pool.memory.octets } in Some x)) (sym (given c n asks.0 runs asks.1))
                ∙ ap (λ (m : List ℕ). (let x : Next = record { event = AsksHost n (Some first); state = i.state; memory = m } in Some x)) (sym (ap (λ (x : Common). x.memory) common));
            world = world-granted now i got first n (first * page) refl got_is;
            free = ap (λ (x : Common). x.free) common;
          };
      seat = record { grants = grants-added (length pool.free.items) (length end.free.items) first n now i got longer has within inside got_is capacity; unasked = unasked };
      seated = refl;
      ended = refl;
      asks = omega (arith, size, within);
    })
