use Rattle.std.proofs.Common.{◌≡◌, ℕ, ◌+◌, ◌*◌, false, List, length, None, refl, sym, ap, ◌∙◌, subst, arith}
use Rattle.std.specs.Prelude.{slice_index}
use Rattle.qw_linear.specs.Linear.{Octets}
use Rattle.qw_linear.specs.Memory.{page, grown_by, AreOctets}
use Rattle.qw_linear.proofs.GrowthFacts.{AreOctets-grown_by, grown_by-below, length-grown_by}
use Rattle.qw_machine.specs.Instance.{Called}
use Rattle.qw_module.specs.Start.{begun}
use Rattle.qw_map.specs.Layout.{IsFresh}
use Rattle.qw_map.specs.declared.layout.Placed.{Placed}
use Rattle.qw_map.specs.declared.layout.Used.{Used}
use Rattle.qw_bench.specs.declared.bench.Seat.{Seat}
use Rattle.qw_bench.specs.Bench.{ArePlaced, Program}
use Rattle.qw_bench.specs.FirstPage.{IsBlank}
use Rattle.qw_bench.specs.Inner.FirstSeats.{IsFirstSeat}
use Rattle.qw_bench.specs.Inner.Seats.{IsEndOf, state_in}
use Rattle.qw_bench.proofs.FirstPages.{blank-grown}
use Rattle.qw_bench.proofs.FirstSeatLemmas.{IsBegun, begun-is, end-begun, placed-addresses}
use Rattle.qw_bench.proofs.LayoutLemmas.{placed-many}
use Rattle.qw_bench.proofs.bench.start.first_seat.Goals as goal
use Rattle.qw_bench.proofs.bench.start.first_seat.Goals.{After-as_slice, in-Returned, in_default}

-- ---- the memory that the first page is written to
placed : (c : goal.After-as_slice) → ArePlaced c.args.map.now.placed c.job.inside.layout.columns c.in_ok-placed.placed.items
placed c = subst (λ (columns : List Used). ArePlaced c.args.map.now.placed columns c.in_ok-placed.placed.items) c.columns.ensures.columns c.in_ok-placed.ensures

grown : (c : goal.After-as_slice) → c.grow.new.self ≡ record { octets = grown_by 1 c.args.memory.now.octets; reserved = c.args.memory.now.reserved }
grown c = rw c.unwrap.ensures at c.grow.ensures.grown

long : (c : goal.After-as_slice) → length c.grow.new.self.octets ≡ length c.args.memory.now.octets + page
long c =
    let same : length c.grow.new.self.octets ≡ length (grown_by 1 c.args.memory.now.octets) = ap (λ (m : Octets). length m.octets) (grown c) in
    omega (arith, same, length-grown_by 1 c.args.memory.now.octets)

at-end : (c : goal.After-as_slice) → length c.args.memory.now.octets ≡ 65536 * c.size.result
at-end c = omega (arith, c.size.ensures.pages)

pub begin_page-requires-clause-many : goal.begin_page-requires-clause-many
begin_page-requires-clause-many c = ap length c.as_slice.ensures.value
    ∙ placed-many c.args.map.now.placed c.job.inside.layout.columns c.in_ok-placed.placed.items (placed c)

pub begin_page-requires-clause-addresses : goal.begin_page-requires-clause-addresses
begin_page-requires-clause-addresses c =
    rw c.as_slice.ensures.value (placed-addresses c.args.map.now.placed c.job.inside.layout.columns c.in_ok-placed.placed.items c.requires.addresses (placed c))

pub begin_page-requires-clause-inside : goal.begin_page-requires-clause-inside
begin_page-requires-clause-inside c = omega (arith, long c, at-end c)

pub begin_page-requires-clause-blank : goal.begin_page-requires-clause-blank
begin_page-requires-clause-blank c =
    subst (λ (m : Octets). IsBlank m.octets (65536 * c.size.result)) (sym (grown c))
    (subst (IsBlank (grown_by 1 c.args.memory.now.octets)) (at-end c) (blank-grown 1 c.args.memory.now.octets (omega arith)))

-- ---- the seat
abbrev seat : goal.After-from → Seat
seat c = record {
  instance = c.in_ok-instance.instance;
  layout = c.job.inside.layout;
  placed = c.in_ok-placed.placed;
  descriptor = c.from.result;
  limits = c.args.limits;
  granted = c.in_ok-granted.granted;
  held = 1;
  refused = None;
  ran = 0;
  ended = c.match-last.ended;
  released = false;
}

abbrev program : goal.After-from → Program
program c = record { layout = c.job.inside.layout; module' = c.job.inside.valid }

abbrev number : goal.After-from → ℕ
number c = c.job.invariant.shaped.0

made : (c : goal.After-from) (at : length c.args.memory.now.octets ≡ 65536 * c.size.result) → c.in_ok-instance.instance ≡ record { program = c.job.inside.valid; state = begun c.job.inside.valid (number c) (length c.args.memory.now.octets); asked = None }
made c at =
    c.in_ok-instance.ensures (number c) c.job.invariant.shaped.1
    ∙ ap (λ (d : ℕ). record { program = c.job.inside.valid; state = begun c.job.inside.valid (number c) d; asked = None }) (sym at)

end : (c : goal.After-from) (at : length c.args.memory.now.octets ≡ 65536 * c.size.result) → IsEndOf (seat c) (state_in (seat c)) c.match-last.ended
end c at =
    let begins : IsBegun (state_in (seat c)) =
    subst (λ (i : Called). IsBegun i.state) (sym (made c at)) (begun-is c.job.inside.valid (number c) (length c.args.memory.now.octets)) in
    let ends = end-begun (seat c) c.last.result (state_in (seat c)) begins c.last.ensures in
    elim c.match-last.branch [
      | in-Returned w ↦ rw w.ended-is (ends.0 w.in-Returned.is)
      | in_default w ↦ rw w.ended-is (ends.1 w.in_default.not-Returned)
    ]

fresh : (c : goal.After-from) (at : length c.args.memory.now.octets ≡ 65536 * c.size.result) → IsFresh c.begin_page.new.memory.octets (length c.args.memory.now.octets) c.job.inside.layout c.in_ok-placed.placed.items
fresh c at =
    subst (λ (d : ℕ). IsFresh c.begin_page.new.memory.octets d c.job.inside.layout c.in_ok-placed.placed.items) (sym at)
    (subst (λ (xs : List Placed). IsFresh c.begin_page.new.memory.octets (65536 * c.size.result) c.job.inside.layout xs) c.as_slice.ensures.value c.begin_page.ensures.fresh)

first : (c : goal.After-from) (at : length c.args.memory.now.octets ≡ 65536 * c.size.result) → ArePlaced c.args.map.now.placed c.job.inside.layout.columns c.in_ok-placed.placed.items →
    IsFirstSeat c.args.map.now.placed c.begin_page.new.memory.octets (length c.args.memory.now.octets) (program c) c.args.limits (seat c)
first c at are = record {
  behaves = c.job.invariant;
  module_is = ap (λ (i : Called). i.program) (made c at);
  layout_is = refl;
  limits_are = refl;
  placed = are;
  descriptor_is = c.from.ensures ∙ sym at;
  fresh = fresh c at;
  number = number c;
  shaped = c.job.invariant.shaped.1;
  state_is = ap (λ (i : Called). i.state) (made c at);
  granted = c.in_ok-granted.ensures.items;
  room = c.in_ok-granted.ensures.capacity;
  held = refl;
  refused = refl;
  ran = refl;
  end = end c at;
  released = refl;
  unasked = ap (λ (i : Called). i.asked) (made c at);
}

pub returns-clause-seat : goal.returns-clause-seat
returns-clause-seat c =
    let l = (goal.at.returns-clause-seat c).After-as_slice in
    subst (λ (p : Program). IsFirstSeat c.args.map.now.placed c.begin_page.new.memory.octets (length c.args.memory.now.octets) p c.args.limits (seat c)) c.job.view_is (first c (at-end l) (placed l))

pub returns-clause-below : goal.returns-clause-below
returns-clause-below c = λ k low.
    let l = (goal.at.returns-clause-below c).After-as_slice in
    c.begin_page.ensures.below k (omega (arith, low, at-end l))
    ∙ ap (λ (m : Octets). slice_index m.octets k) (grown l) ∙ grown_by-below 1 c.args.memory.now.octets k low

pub returns-clause-octets : goal.returns-clause-octets
returns-clause-octets c = λ are.
    let l = (goal.at.returns-clause-octets c).After-as_slice in
    c.begin_page.ensures.octets (subst (λ (m : Octets). AreOctets m.octets) (sym (grown l)) (AreOctets-grown_by 1 c.args.memory.now.octets are))

pub returns-clause-len : goal.returns-clause-len
returns-clause-len c = c.begin_page.ensures.len ∙ long (goal.at.returns-clause-len c).After-as_slice
