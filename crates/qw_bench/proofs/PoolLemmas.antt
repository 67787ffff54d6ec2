-- What becomes of the memory and of flags where pages are given.
use Rattle.std.proofs.Common.{◌≡◌, ℕ, ◌+◌, ◌*◌, ◌<◌, ◌≤◌, ◌++◌, Bool, true, false, length, replicate, Some, inl, inr, refl, sym, ap, ◌∙◌, arith, length-append}
use Rattle.std.proofs.lemmas.Bool.{eq-eqb, ne_eqb}
use Rattle.std.proofs.lemmas.List.{length-replicate}
use Rattle.std.specs.Vec.{vec_capacity}
use Rattle.qw_linear.specs.Memory.{cleared, grown_by, most_pages, page, pages_of}
use Rattle.qw_linear.proofs.ClearedFacts.{cleared-next, length-cleared}
use Rattle.qw_linear.proofs.GrowthFacts.{length-grown_by}
use Rattle.qw_module.specs.Execution.{AsksHost}
use Rattle.qw_module.specs.Step.{can_place}
use Rattle.qw_module.proofs.Outcomes.{place-can}
use Rattle.qw_map.specs.Free.{marked}
use Rattle.qw_map.proofs.FreeFacts.{length-marked}
use Rattle.qw_map.specs.Turns.{Common, flags_after}
use Rattle.qw_bench.specs.declared.pool.Pool.{Pool}
use Rattle.qw_bench.specs.Inner.Pools.{IsPool, common_of, free_among}
use Rattle.qw_bench.proofs.FreeCounts.{counted-added}

-- pages of the memory are marked
pub flags-there : (common : Common) (first n : ℕ) → first < pages_of common.memory → flags_after common (AsksHost n (Some first)) ≡ marked false first n common.free
flags-there common first n there = rw (ne_eqb first (pages_of common.memory) (λ is. omega (arith, there, is))) refl

-- and the next ones are added
pub flags-next : (common : Common) (first n : ℕ) → first ≡ pages_of common.memory → flags_after common (AsksHost n (Some first)) ≡ common.free ++ replicate n false
flags-next common first n next = rw (eq-eqb first (pages_of common.memory) next) refl

module _ (before after : Pool) (old : IsPool before) (first n : ℕ) where
  -- What a pool gives.
  pub record Gives : Type 0 where
    pub common : common_of after ≡ record { memory = cleared first n before.memory.octets; free = flags_after (common_of before) (AsksHost n (Some first)) }
    pub kept : IsPool after
    pub inside : first + n ≤ length after.free.items
    pub longer : length before.free.items ≤ length after.free.items
    pub size : length after.memory.octets ≤ length before.memory.octets + n * page
    pub can : can_place first n before.memory.octets ≡ true

  -- a run of free pages is given
  pub gives-run : 1 ≤ n → first + n ≤ length before.free.items → after.memory.octets ≡ cleared first n before.memory.octets →
      after.memory.reserved ≡ before.memory.reserved → after.free.items ≡ marked false first n before.free.items → vec_capacity after.free ≡ vec_capacity before.free →
      after.free_count ≡ free_among after.free.items → Gives
  gives-run some there octets reserved flags capacity counted =
      let within : (first + n) * page ≤ length before.memory.octets = omega (arith, there, old.flags, old.whole) in
      let same : length after.memory.octets ≡ length before.memory.octets = ap length octets ∙ length-cleared first n before.memory.octets within in
      let many : length after.free.items ≡ length before.free.items = ap length flags ∙ length-marked false first n before.free.items in
      let low : first < pages_of before.memory.octets = omega (arith, there, some, old.flags) in
      let few : first + n ≤ most_pages = omega (arith, there, old.flags, old.whole, old.within, old.limit) in
      record {
        common = rw (octets, flags, flags-there (common_of before) first n low) refl;
        kept = record {
          whole = omega (arith, same, old.whole);
          flags = omega (arith, many, old.flags, same);
          within = omega (arith, same, reserved, old.within);
          limit = omega (arith, reserved, old.limit);
          room = omega (arith, reserved, capacity, old.room);
          counted = counted;
        };
        inside = omega (arith, there, many);
        longer = omega (arith, many);
        size = omega (arith, same);
        can = place-can first n before.memory.octets (few, inr (omega (arith, there, old.flags)));
      }

  -- the memory's next pages are given
  pub gives-next : first ≡ pages_of before.memory.octets → length before.memory.octets + n * page ≤ before.memory.reserved * page →
      after.memory.octets ≡ grown_by n before.memory.octets →
      after.memory.reserved ≡ before.memory.reserved → after.free.items ≡ before.free.items ++ replicate n false → vec_capacity after.free ≡ vec_capacity before.free →
      after.free_count ≡ before.free_count → Gives
  gives-next next room octets reserved flags capacity count =
      let whole : length before.memory.octets ≡ first * page = rw next old.whole in
      let grown : after.memory.octets ≡ cleared first n before.memory.octets = octets ∙ sym (cleared-next first n before.memory.octets whole) in
      let long : length after.memory.octets ≡ length before.memory.octets + n * page = ap length octets ∙ length-grown_by n before.memory.octets in
      let added = length-append before.free.items (replicate n false) in
      let new = length-replicate {A = Bool} n false in
      let many : length after.free.items ≡ length before.free.items + n = ap length flags ∙ omega (arith, added, new) in
      let few : first + n ≤ most_pages = omega (arith, whole, room, old.limit) in
      record {
        common = rw (grown, flags, flags-next (common_of before) first n next) refl;
        kept = record {
          whole = omega (arith, long, old.whole);
          flags = omega (arith, many, old.flags, long);
          within = omega (arith, long, reserved, room);
          limit = omega (arith, reserved, old.limit);
          room = omega (arith, reserved, capacity, old.room);
          counted = count ∙ old.counted ∙ sym (ap free_among flags ∙ counted-added before.free.items n);
        };
        inside = omega (arith, many, old.flags, next);
        longer = omega (arith, many);
        size = omega (arith, long);
        can = place-can first n before.memory.octets (few, inl next);
      }
