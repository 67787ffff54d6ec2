use Rattle.std.proofs.Common.{◌≡◌, List, length, sym, ◌∙◌, subst, arith}
use Rattle.std.specs.List.{AllByRecursion}
use Rattle.qw_map.specs.Columns.{map_of}
use Rattle.qw_map.specs.declared.layout.Placed.{Placed}
use Rattle.qw_bench.specs.Bench.{Program}
use Rattle.qw_bench.specs.Standing.{total_pages}
use Rattle.qw_bench.specs.Inner.FirstSeats.{AreFirstSeats, AreInMap, IsAddressable}
use Rattle.qw_bench.proofs.BenchStart.{begins}
use Rattle.qw_bench.proofs.LimitLemmas.{limit_pages-each}
use Rattle.qw_bench.proofs.MapLemmas.{addressable, all-in-map}
use Rattle.qw_bench.proofs.bench.start.seats_over_tables.Goals as goal
use Rattle.qw_bench.proofs.bench.start.seats_over_tables.Goals.{In_ok-seats}

pub first_seats-requires-clause-columns : goal.first_seats-requires-clause-columns
first_seats-requires-clause-columns c =
    subst (λ (map : List (List Placed)). AllByRecursion (λ (program : Program). AreInMap map program.layout.columns) c.args.jobs.items) (sym c.in_ok-map.ensures.placed)
    (all-in-map c.args.loaded.items c.place_all.new.memory.octets c.in_ok-map.ensures.holds c.args.jobs.items c.requires.columns)

pub first_seats-requires-clause-addresses : goal.first_seats-requires-clause-addresses
first_seats-requires-clause-addresses c =
    subst IsAddressable (sym c.in_ok-map.ensures.placed)
    (addressable c.args.loaded.items c.place_all.new.memory.octets c.in_ok-map.ensures.holds c.in_ok-map.ensures.loaded (omega (arith, c.requires.pages.0, c.requires.pages.1)))

pub first_seats-requires-clause-room : goal.first_seats-requires-clause-room
first_seats-requires-clause-room c =
    omega (arith, c.in_ok-map.ensures.len, c.place_all.ensures.reserved, c.requires.pages.0, c.requires.many, limit_pages-each c.args.limits.now c.requires.limits)

-- ---- the seats
first : (c : In_ok-seats) →
    AreFirstSeats (map_of c.args.loaded.items) c.first_seats.new.memory.octets (length c.place_all.new.memory.octets) c.args.jobs.items c.args.limits.now c.in_ok-seats.seats.items
first c = subst (λ (map : List (List Placed)). AreFirstSeats map c.first_seats.new.memory.octets (length c.place_all.new.memory.octets) c.args.jobs.items
    c.args.limits.now c.in_ok-seats.seats.items) c.in_ok-map.ensures.placed c.in_ok-seats.ensures.seats

reserved : (c : In_ok-seats) → c.first_seats.new.memory.reserved ≡ total_pages c.args.loaded.items c.args.limits.now
reserved c = c.first_seats.ensures.reserved ∙ c.place_all.ensures.reserved ∙ c.requires.pages.0

pub returns-clause-begins : goal.returns-clause-begins
returns-clause-begins c = λ pool is taken kept.
    let l = (goal.at.returns-clause-begins c).In_ok-seats in
    let seated = c.in_ok-seats.ensures in
    begins c.args.loaded.items c.args.jobs.items c.args.limits.now c.place_all.new.memory pool c.in_ok-seats.seats.items
    c.in_ok-map.ensures.loaded c.requires.columns c.requires.limits c.requires.many c.in_ok-map.ensures.holds c.in_ok-map.ensures.octets c.in_ok-map.ensures.len
    (rw is (first l)) (rw is seated.below) (rw is seated.octets) (rw is seated.len) (omega (arith, c.requires.pages.0, c.requires.pages.1)) (rw is (reserved l)) (rw is taken) kept
