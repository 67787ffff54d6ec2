-- Seats as they begin.
use Rattle.std.proofs.Common.{◌≡◌, ◌≢◌, ℕ, zero, suc, ◌+◌, ◌*◌, ◌<◌, ◌≤◌, nat_le, false, ◌⊎◌, inl, inr, ⊎_elim, List, [], ◌∷◌, ◌++◌, length, Option, Some, None, slice_get, refl, sym, ap, ◌∙◌, subst, arith}
use Rattle.std.specs.Prelude.{slice_index}
use Rattle.std.specs.List.{AllByRecursion}
use Rattle.std.proofs.lemmas.Bool.{lt-leb}
use Rattle.std.proofs.lemmas.List.{length_push}
use Rattle.std.proofs.lemmas.Option.{none-some, same_Some, slice_get_within}
use Rattle.qw_linear.specs.Linear.{Octets}
use Rattle.qw_linear.specs.Memory.{page, AreOctets, SameBelow}
use Rattle.qw_linear.proofs.MemoryFacts.{number_at-same}
use Rattle.qw_module.specs.declared.module.Module.{Module}
use Rattle.qw_module.specs.Syntax.{Code, done, code_of}
use Rattle.qw_module.specs.Execution.{Store, State, Running, Returned, Raised, Trapped, label, settled}
use Rattle.qw_module.specs.Start.{begun, body_of}
use Rattle.qw_machine.specs.declared.stepped.Stepped.{Stepped}
use Rattle.qw_machine.specs.declared.stepped.Stepped.TheVariants.{Ran}
use Rattle.qw_machine.specs.declared.stepped.Stepped.TheVariants as came
use Rattle.qw_machine.specs.Instance.{IsLast}
use Rattle.qw_map.specs.Areas.{World}
use Rattle.qw_map.specs.Layout.{IsFresh, Layout, descriptor_size, entry_offset}
use Rattle.qw_map.specs.Turns.{end_at}
use Rattle.qw_map.specs.declared.layout.Placed.{Placed}
use Rattle.qw_map.specs.declared.layout.Used.{Used}
use Rattle.qw_bench.specs.declared.bench.Ended.{Ended}
use Rattle.qw_bench.specs.declared.bench.Ended.TheVariants as ended
use Rattle.qw_bench.specs.declared.bench.Limits.{Limits}
use Rattle.qw_bench.specs.declared.bench.Seat.{Seat}
use Rattle.qw_bench.specs.Bench.{ArePlaced, Program}
use Rattle.qw_bench.specs.FirstPage.{HasAddresses}
use Rattle.qw_bench.specs.Standing.{end_of}
use Rattle.qw_bench.specs.Inner.FirstSeats.{IsAddressable, IsFirstSeat}
use Rattle.qw_bench.specs.Inner.Seats.{IsEndOf}
use Rattle.qw_bench.proofs.FirstPages.{entry-same}
use Rattle.qw_bench.proofs.LayoutLemmas.{all-get, has-table}

-- ---- the end of an instance as it begins
-- it is the one at its state
pub end-first : (seat : Seat) (s : State) (o : Option Ended) (w : World) (most : ℕ) → 1 ≤ most → ((code : ℕ) → s ≢ Raised code) → IsEndOf seat s o → end_of o ≡ end_at s w 0 most
end-first seat (Running c) None w most some none h = let below : nat_le most 0 ≡ false = lt-leb most 0 (omega arith) in rw below refl
end-first seat Returned (Some ended.Done) w most some none h = refl
end-first seat (Raised code) o w most some none h = absurd (none code refl)
end-first seat _ _ w most some none h = absurd h

-- a call begins as a run, or has returned where its body has no instructions
abbrev pub IsBegun : State → Type 0
IsBegun (Running c) = Unit {0}
IsBegun Returned = Unit {0}
IsBegun (Raised code) = ⊥
IsBegun (Trapped why) = ⊥

begun-by : (store : Store) (locals : List ℕ) (code : Code) → IsBegun (settled store (label done 0 [] done ∷ []) code [] locals)
begun-by store locals done = tt
begun-by store locals _ = tt

pub begun-is : (program : Module) (number d : ℕ) → IsBegun (begun program number d)
begun-is program number d = begun-by _ _ (code_of (body_of program number))

pub not-raised : (s : State) → IsBegun s → (code : ℕ) → s ≢ Raised code
not-raised s begins code is = subst IsBegun is begins

last-returned : (last : Stepped) → IsLast last Returned → last ≡ came.Returned
last-returned came.Returned h = refl
last-returned _ h = absurd h

-- the end that is set by what is told of the state
pub end-begun : (seat : Seat) (last : Stepped) (s : State) → IsBegun s → IsLast last s →
    (last ≡ came.Returned → IsEndOf seat s (Some ended.Done)) × (last ≢ came.Returned → IsEndOf seat s None)
end-begun seat last (Running c) begins told = (λ is. absurd (subst (λ (l : Stepped). IsLast l (Running c)) is told), λ not. tt)
end-begun seat last Returned begins told = (λ is. tt, λ not. absurd (not (last-returned last told)))
end-begun seat last (Raised code) begins told = absurd begins
end-begun seat last (Trapped why) begins told = absurd begins

-- ---- addresses
pub placed-addresses : (map : List (List Placed)) (columns : List Used) (placed : List Placed) → IsAddressable map → ArePlaced map columns placed →
    AllByRecursion HasAddresses placed
placed-addresses map [] [] small are = tt
placed-addresses map [] (p ∷ placed) small are = absurd are
placed-addresses map (u ∷ columns) [] small are = absurd are
placed-addresses map (u ∷ columns) (p ∷ placed) small are =
    let at = has-table map u p are.0 in
    let table = all-get (AllByRecursion HasAddresses) map u.table at.columns at.table small in
    (all-get HasAddresses at.columns u.column p at.column table, placed-addresses map columns placed small are.1)

-- ---- a first page in a memory that keeps its octets
fresh-same : (before after : List ℕ) (d : ℕ) (layout : Layout) (placed : List Placed) → descriptor_size layout ≤ page →
    ((k : ℕ) → d ≤ k → k < d + page → slice_index after k ≡ slice_index before k) → IsFresh before d layout placed → IsFresh after d layout placed
fresh-same before after d layout placed small same h = record {
  free = number_at-same after before d 4 (λ k low high. same k low (omega arith)) ∙ h.free;
  page_end = number_at-same after before (d + 4) 4 (λ k low high. same k (omega arith) (omega arith)) ∙ h.page_end;
  no_results = λ k low high. same (d + k) (omega arith) (omega arith) ∙ h.no_results k low high;
  entries = λ k used one found there.
      let within : k < length layout.columns = slice_get_within layout.columns k used found in
      entry-same before after (d + entry_offset k) used one (λ j low high. same j (omega arith) (omega arith)) (h.entries k used one found there);
  literals = λ k octet found.
      let within : k < length layout.literals = slice_get_within layout.literals k octet found in
      same (d + entry_offset (length layout.columns) + k) (omega arith) (omega arith) ∙ h.literals k octet found;
  zeros = λ k low high. same (d + k) (omega arith) (omega arith) ∙ h.zeros k low high;
}

pub seat-same : (map : List (List Placed)) (before after : List ℕ) (d : ℕ) (program : Program) (limits : Limits) (seat : Seat) →
    ((k : ℕ) → d ≤ k → k < d + page → slice_index after k ≡ slice_index before k) → IsFirstSeat map before d program limits seat → IsFirstSeat map after d program limits seat
seat-same map before after d program limits seat same h = record {
  behaves = h.behaves;
  module_is = h.module_is;
  layout_is = h.layout_is;
  limits_are = h.limits_are;
  placed = h.placed;
  descriptor_is = h.descriptor_is;
  fresh = fresh-same before after d program.layout seat.placed.items h.behaves.small same h.fresh;
  number = h.number;
  shaped = h.shaped;
  state_is = h.state_is;
  granted = h.granted;
  room = h.room;
  held = h.held;
  refused = h.refused;
  ran = h.ran;
  end = h.end;
  released = h.released;
  unasked = h.unasked;
}

-- ---- the seats so far
-- The first n programs have their seats, and the memory was grown by their pages. What was there is as it was.
pub record AreSoFar (map : List (List Placed)) (m0 m : Octets) (programs : List Program) (limits : List Limits) (seats : List Seat) (n : ℕ) : Type 0 where
  pub many : length seats ≡ n
  pub long : length m.octets ≡ length m0.octets + n * page
  pub each : (k : ℕ) (program : Program) (one : Limits) (seat : Seat) → slice_get programs k ≡ Some program → slice_get limits k ≡ Some one →
      slice_get seats k ≡ Some seat → IsFirstSeat map m.octets (length m0.octets + k * page) program one seat
  pub below : SameBelow m0.octets m.octets (length m0.octets)
  pub octets : AreOctets m0.octets → AreOctets m.octets
  pub reserved : m.reserved ≡ m0.reserved

-- an element of a list with one more is one of before, or the last
get-push : {A : Type 0} (xs : List A) (x y : A) (k : ℕ) → slice_get (xs ++ x ∷ []) k ≡ Some y → (slice_get xs k ≡ Some y) ⊎ ((k ≡ length xs) × (x ≡ y))
get-push [] x y zero found = inr (refl, same_Some x y found)
get-push [] x y (suc k) found = absurd (none-some y found)
get-push (first ∷ xs) x y zero found = inl found
get-push (first ∷ xs) x y (suc k) found = ⊎_elim (λ h. inl h) (λ h. inr (ap suc h.0, h.1)) (get-push xs x y k found)

pub so-far-more : (map : List (List Placed)) (m0 m m1 : Octets) (programs : List Program) (limits : List Limits) (seats after : List Seat) (n : ℕ)
    (program : Program) (one : Limits) (x : Seat) → slice_get programs n ≡ Some program → slice_get limits n ≡ Some one → after ≡ seats ++ x ∷ [] →
    IsFirstSeat map m1.octets (length m.octets) program one x → SameBelow m.octets m1.octets (length m.octets) → (AreOctets m.octets → AreOctets m1.octets) →
    length m1.octets ≡ length m.octets + page → m1.reserved ≡ m.reserved → AreSoFar map m0 m programs limits seats n → AreSoFar map m0 m1 programs limits after (n + 1)
so-far-more map m0 m m1 programs limits seats after n program one x at_program at_limits pushed first below octets long reserved h = record {
  many = ap length pushed ∙ length_push seats x ∙ ap (λ (k : ℕ). k + 1) h.many;
  long = omega (arith, long, h.long);
  each = λ k p l seat there found sits. ⊎_elim
      (λ (before : slice_get seats k ≡ Some seat).
      let within : k < n = omega (arith, slice_get_within seats k seat before, h.many) in
      seat-same map m.octets m1.octets (length m0.octets + k * page) p l seat (λ j low high. below j (omega (arith, h.long))) (h.each k p l seat there found before))
      (λ (last : (k ≡ length seats) × (x ≡ seat)).
      let here : k ≡ n = last.0 ∙ h.many in
      let program_is : program ≡ p = same_Some program p (sym at_program ∙ subst (λ (j : ℕ). slice_get programs j ≡ Some p) here there) in
      let limits_are : one ≡ l = same_Some one l (sym at_limits ∙ subst (λ (j : ℕ). slice_get limits j ≡ Some l) here found) in
      let at : length m.octets ≡ length m0.octets + k * page = omega (arith, h.long, here) in
      rw (← program_is, ← limits_are, ← last.1, ← at) first)
      (get-push seats x seat k (rw pushed at sits));
  below = λ k low. below k (omega (arith, h.long)) ∙ h.below k low;
  octets = λ are. octets (h.octets are);
  reserved = reserved ∙ h.reserved;
}
