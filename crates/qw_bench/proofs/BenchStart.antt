-- How a bench begins: its seats are those of instances that are about to begin.
use Rattle.std.proofs.Common.{◌≡◌, ℕ, zero, suc, ◌+◌, ◌-◌, ◌*◌, ◌<◌, ◌≤◌, List, [], ◌∷◌, length, map, get_or, replicate, Bool, false, Option, Some, slice_get, refl, sym, ap, ◌∙◌, subst, arith}
use Rattle.std.specs.List.{AllByRecursion, AllZip}
use Rattle.std.specs.Option.{option_map}
use Rattle.std.proofs.lemmas.List.{length-map}
use Rattle.std.proofs.lemmas.Option.{none-some, same_Some, slice_get-get_or, slice_get-map, slice_get_within}
use Rattle.qw_types.specs.Contents.{AreLoaded, Contents, IsOfColumnType, rows_of}
use Rattle.qw_types.specs.declared.schema.ColumnType.{ColumnType}
use Rattle.qw_types.specs.declared.value.Val.{Val}
use Rattle.qw_linear.specs.Linear.{Octets}
use Rattle.qw_linear.specs.Memory.{page, pages_of, AreOctets, SameBelow}
use Rattle.qw_module.specs.declared.module.Module.{Module}
use Rattle.qw_module.specs.Execution.{State}
use Rattle.qw_module.specs.Start.{begun}
use Rattle.qw_map.specs.Areas.{Area, World}
use Rattle.qw_map.specs.Columns.{Holds, HoldsColumn, areas_of, column_pages, column_values, columns_start, map_of, tables_end}
use Rattle.qw_map.specs.Layout.{HasColumn, IsReady, IsReadyColumn, column_areas, first_world}
use Rattle.qw_map.specs.Turns.{End, Instance, end_at, may_ask}
use Rattle.qw_map.specs.declared.layout.Placed.{Placed}
use Rattle.qw_map.specs.declared.layout.Used.{Used}
use Rattle.qw_map.proofs.AreaLemmas.{all-weaker}
use Rattle.qw_map.proofs.ColumnLemmas.{holds-kept, pages-reach, tables-end-above}
use Rattle.qw_map.proofs.TurnFacts.{found-in}
use Rattle.qw_bench.specs.declared.bench.Grant.{Grant}
use Rattle.qw_bench.specs.declared.bench.Limits.{Limits}
use Rattle.qw_bench.specs.declared.bench.Seat.{Seat}
use Rattle.qw_bench.specs.declared.pool.Pool.{Pool}
use Rattle.qw_bench.specs.Bench.{IsColumnIn, IsStart, IsStarting, Program, Task, rows_in_tables, starting}
use Rattle.qw_bench.specs.Standing.{AreLimits, AreTasksOf, end_of, limit_pages, total_pages}
use Rattle.qw_bench.specs.Inner.FirstSeats.{AreFirstSeats, IsFirstSeat}
use Rattle.qw_bench.specs.Inner.Pools.{IsPool}
use Rattle.qw_bench.specs.Inner.Seats.{AreSeats, IsEndOf, IsSeat, area_of, instance_of, standing_of, state_in, task_of, world_of}
use Rattle.qw_bench.proofs.FirstSeatLemmas.{begun-is, end-first, not-raised}
use Rattle.qw_bench.proofs.LayoutLemmas.{all-get, has-table, lies-between, placed-get, placed-many}
use Rattle.qw_bench.proofs.LimitLemmas.{limit_pages-one}
use Rattle.qw_bench.proofs.Starting.{start-serving}

-- ---- a column of the tables
-- a row has a value of it
has-column : (columns : List ColumnType) (row : List Val) (k : ℕ) (column : ColumnType) → slice_get columns k ≡ Some column → AllZip IsOfColumnType columns row →
    (value : Val) × (slice_get row k ≡ Some value) × IsOfColumnType column value
has-column [] row k column found typed = absurd (none-some column found)
has-column (one ∷ columns) [] k column found typed = absurd typed
has-column (one ∷ columns) (value ∷ row) zero column found typed =
    (value, refl, subst (λ (c : ColumnType). IsOfColumnType c value) (same_Some one column found) typed.0)
has-column (one ∷ columns) (value ∷ row) (suc k) column found typed = has-column columns row k column found typed.1

-- the rows of a table
rows-found : (tables : List Contents) (k : ℕ) (table : Contents) → slice_get tables k ≡ Some table → rows_of (rows_in_tables tables) k ≡ table.rows
rows-found [] k table found = absurd (none-some table found)
rows-found (one ∷ tables) zero table found = ap (λ (t : Contents). t.rows) (same_Some one table found)
rows-found (one ∷ tables) (suc k) table found = rows-found tables k table found

ready-column : (tables : List Contents) (memory : List ℕ) (d : ℕ) (used : Used) (one : Placed) (columns : List Placed) (table : Contents) (column : ColumnType) →
    slice_get tables used.table ≡ Some table → slice_get table.columns used.column ≡ Some column → column.ty ≡ used.ty → column.not_null ≡ used.not_null →
    slice_get (map_of tables) used.table ≡ Some columns → slice_get columns used.column ≡ Some one → AllByRecursion AreLoaded tables → Holds (map_of tables) memory tables →
    AllByRecursion (λ (area : Area). (64 ≤ area.start) × (area.start + area.size ≤ d)) (areas_of used.ty used.not_null one) →
    IsReadyColumn (rows_of (rows_in_tables tables) used.table) d memory used one
ready-column tables memory d used one columns table column there found type null placed place loaded holds between =
    let are : AreLoaded table = all-get AreLoaded tables used.table table there loaded in
    let held : HoldsColumn memory column.ty column.not_null one (column_values table.rows used.column) =
    (holds.each used.table table columns there placed).each used.column column one found place in
    let rows : rows_of (rows_in_tables tables) used.table ≡ table.rows = rows-found tables used.table table there in
    rw rows (record {
      typed = all-weaker (AllZip IsOfColumnType table.columns) (HasColumn used)
          (λ row typed.
          let value = has-column table.columns row used.column column found typed in
          rw (← type, ← null) (value.0, value.1, value.2)) table.rows are.typed;
      few = are.few;
      holds = rw (type, null) at held;
      between = between;
    })

-- ---- limits and tasks
tasks-of : (programs : List Program) (limits : List Limits) (seats : List Seat) → length seats ≡ length programs → length limits ≡ length programs →
    ((k : ℕ) (program : Program) (one : Limits) (seat : Seat) → slice_get programs k ≡ Some program → slice_get limits k ≡ Some one → slice_get seats k ≡ Some seat →
    ((task_of seat).program ≡ program) × (seat.limits ≡ one)) → AreTasksOf programs limits (map task_of seats)
tasks-of [] [] [] many as_many each = tt
tasks-of [] (one ∷ limits) seats many as_many each = absurd (omega (arith, as_many))
tasks-of [] [] (seat ∷ seats) many as_many each = absurd (omega (arith, many))
tasks-of (program ∷ programs) [] seats many as_many each = absurd (omega (arith, as_many))
tasks-of (program ∷ programs) (one ∷ limits) [] many as_many each = absurd (omega (arith, many))
tasks-of (program ∷ programs) (one ∷ limits) (seat ∷ seats) many as_many each =
    let first = each 0 program one seat refl refl refl in
    let fewer : length seats ≡ length programs = omega (arith, many) in
    let as_few : length limits ≡ length programs = omega (arith, as_many) in (
      first.0,
      ap (λ (l : Limits). l.pages) first.1,
      ap (λ (l : Limits). l.steps) first.1,
      tasks-of programs limits seats fewer as_few (λ k p l s at_p at_l at_s. each (suc k) p l s at_p at_l at_s),
    )

asks-first : (limits : List Limits) (seats : List Seat) → length seats ≡ length limits → AllByRecursion AreLimits limits →
    ((k : ℕ) (one : Limits) (seat : Seat) → slice_get limits k ≡ Some one → slice_get seats k ≡ Some seat → (seat.limits ≡ one) × (seat.held ≡ 1)) →
    may_ask (map instance_of seats) + length seats ≡ limit_pages limits
asks-first [] [] many are each = refl
asks-first [] (seat ∷ seats) many are each = absurd (omega (arith, many))
asks-first (one ∷ limits) [] many are each = absurd (omega (arith, many))
asks-first (one ∷ limits) (seat ∷ seats) many are each =
    let first = each 0 one seat refl refl in
    let pages : seat.limits.pages ≡ one.pages = ap (λ (l : Limits). l.pages) first.0 in
    let some : 1 ≤ one.pages = are.0.some_pages in
    let fewer : length seats ≡ length limits = omega (arith, many) in
    let rest : may_ask (map instance_of seats) + length seats ≡ limit_pages limits =
    asks-first limits seats fewer are.1 (λ k l s at_l at_s. each (suc k) l s at_l at_s) in
    omega (arith, pages, some, rest, first.1)

-- ---- one seat as it begins, at an address behind the columns, in a memory that holds them
module _ (tables : List Contents) (memory : List ℕ) (program : Program) (one : Limits) (seat : Seat) (d : ℕ) (is : IsFirstSeat (map_of tables) memory d program one seat)
    (loaded : AllByRecursion AreLoaded tables) (columns : AllByRecursion (IsColumnIn tables) program.layout.columns) (limits : AreLimits one) where
  ready : AreOctets memory → Holds (map_of tables) memory tables → (pages : ℕ) → length memory ≡ pages * page → pages + (one.pages - 1) ≤ 65535 →
      column_pages tables * page ≤ d → d + page ≤ length memory → IsReady program.layout seat.placed.items (rows_in_tables tables) d one.pages memory
  ready octets holds pages size room behind inside = record {
    octets = octets;
    whole = omega (arith, size);
    room = omega (arith, size, room);
    many = placed-many (map_of tables) program.layout.columns seat.placed.items is.placed;
    columns = λ j used one at_used at_placed.
        let place = placed-get (map_of tables) program.layout.columns seat.placed.items is.placed j used one at_used at_placed in
        let column = all-get (IsColumnIn tables) program.layout.columns j used at_used columns in
        let table = has-table (map_of tables) used one place in
        ready-column tables memory d used one table.columns column.0 column.1 column.2 column.3 column.4 column.5 table.table table.column loaded holds
        (all-weaker (λ (area : Area). (columns_start ≤ area.start) × (area.start + area.size ≤ tables_end columns_start tables))
        (λ (area : Area). (64 ≤ area.start) × (area.start + area.size ≤ d))
        (λ area h. (h.0, omega (arith, h.1, pages-reach tables, behind))) (areas_of used.ty used.not_null one) (lies-between tables used one place column));
    behind = let start : 64 ≤ tables_end columns_start tables = tables-end-above columns_start tables in omega (arith, start, pages-reach tables, behind);
    inside = inside;
    fresh = is.fresh;
  }

  same : instance_of seat ≡ starting is.number (task_of seat)
  same =
      let module' : Module = seat.instance.program in
      let from : State = begun module' is.number seat.descriptor in
      let world : World = first_world seat.layout seat.placed.items seat.descriptor seat.limits.pages in
      let first_page : Area = record { start = seat.descriptor; size = page } in
      let state_is : state_in seat ≡ from =
      is.state_is ∙ ap (λ (x : Module). begun x is.number d) (sym is.module_is) ∙ ap (begun module' is.number) (sym is.descriptor_is) in
      let world_is : world_of seat ≡ world =
      ap (λ (granted : List Grant). record { mapped = column_areas seat.layout.columns seat.placed.items; own = first_page ∷ map area_of granted; held = seat.held; limit = seat.limits.pages; refused = seat.refused }) is.granted
      ∙ ap (λ (n : ℕ). record world { held = n; refused = seat.refused }) is.held
      ∙ ap (λ (o : Option ℕ). record world { refused = o }) is.refused in
      let steps : 1 ≤ seat.limits.steps = rw is.limits_are limits.some_steps in
      let end_is : end_of seat.ended ≡ end_at from world 0 seat.limits.steps =
      end-first seat from seat.ended world seat.limits.steps steps (not-raised from (begun-is module' is.number seat.descriptor))
      (subst (λ (s : State). IsEndOf seat s seat.ended) state_is is.end) in
      let first : Instance = starting is.number (task_of seat) in
      ap (λ (e : Option End). record (instance_of seat) { end = e }) end_is
      ∙ ap (λ (s : State). record (instance_of seat) { state = s; end = first.end }) state_is
      ∙ ap (λ (w : World). record first { world = w; ran = seat.ran; released = seat.released }) world_is
      ∙ ap (λ (n : ℕ). record first { ran = n; released = seat.released }) is.ran
      ∙ ap (λ (b : Bool). record first { released = b }) is.released

  starts : IsReady program.layout seat.placed.items (rows_in_tables tables) d one.pages memory → IsStarting tables memory (task_of seat) (instance_of seat)
  starts is_ready = record {
    behaves = rw (is.layout_is, is.module_is) is.behaves;
    columns = rw is.layout_is columns;
    placed = rw is.layout_is is.placed;
    number = is.number;
    shaped = rw is.module_is is.shaped;
    ready = rw (is.layout_is, is.limits_are, is.descriptor_is) is_ready;
    may_hold = rw is.limits_are limits.some_pages;
    may_run = rw is.limits_are limits.some_steps;
    few_steps = rw is.limits_are limits.few_steps;
    instance = same;
  }

  program-is : (task_of seat).program ≡ program
  program-is = rw (is.layout_is, is.module_is) refl

  is-seat : (pages : ℕ) → d + page ≤ pages * page → IsSeat pages seat
  is-seat pages inside = record {
    grants = record {
      counted = let none : length seat.granted.items ≡ 0 = ap length is.granted in omega (arith, none, is.held);
      held = let pages : seat.limits.pages ≡ one.pages = ap (λ (l : Limits). l.pages) is.limits_are in omega (arith, pages, is.held, limits.some_pages);
      room = rw is.limits_are is.room;
      first_page = omega (arith, inside, is.descriptor_is);
      inside = rw is.granted tt;
    };
    unasked = is.unasked;
  }

-- ---- the start
module _ (tables : List Contents) (programs : List Program) (limits : List Limits) (m0 : Octets) (pool : Pool) (seats : List Seat)
    (loaded : AllByRecursion AreLoaded tables) (in_tables : AllByRecursion (λ (program : Program). AllByRecursion (IsColumnIn tables) program.layout.columns) programs)
    (are_limits : AllByRecursion AreLimits limits) (many_limits : length limits ≡ length programs)
    (holds0 : Holds (map_of tables) m0.octets tables) (octets0 : AreOctets m0.octets) (len0 : length m0.octets ≡ column_pages tables * page)
    (first : AreFirstSeats (map_of tables) pool.memory.octets (length m0.octets) programs limits seats)
    (below : SameBelow m0.octets pool.memory.octets (length m0.octets))
    (octets : AreOctets m0.octets → AreOctets pool.memory.octets) (len : length pool.memory.octets ≡ length m0.octets + length programs * page)
    (fits : total_pages tables limits ≤ 65535) (reserved : pool.memory.reserved ≡ total_pages tables limits)
    (taken : pool.free.items ≡ replicate (pages_of pool.memory.octets) false) (kept : IsPool pool) where
  abbrev m : Octets
  m = pool.memory

  holds : Holds (map_of tables) m.octets tables
  holds = holds-kept m0.octets m.octets tables (omega (arith, len)) (λ k low. below k (omega (arith, low, pages-reach tables, len0))) holds0

  size : length m.octets ≡ (column_pages tables + length programs) * page
  size = omega (arith, len, len0)

  -- what is at an index of the seats
  record IsAt (k : ℕ) (seat : Seat) : Type 0 where
    program : Program
    one : Limits
    at_program : slice_get programs k ≡ Some program
    at_limits : slice_get limits k ≡ Some one
    is : IsFirstSeat (map_of tables) m.octets (length m0.octets + k * page) program one seat
    columns : AllByRecursion (IsColumnIn tables) program.layout.columns
    are : AreLimits one

  at_seat : (k : ℕ) (seat : Seat) → slice_get seats k ≡ Some seat → IsAt k seat
  at_seat k seat found =
      let within : k < length programs = omega (arith, slice_get_within seats k seat found, first.many) in
      let program = found-in programs k within in
      let one = found-in limits k (omega (arith, within, many_limits)) in
      record {
        program = program.0;
        one = one.0;
        at_program = program.1;
        at_limits = one.1;
        is = first.each k program.0 one.0 seat program.1 one.1 found;
        columns = all-get (λ (p : Program). AllByRecursion (IsColumnIn tables) p.layout.columns) programs k program.0 program.1 in_tables;
        are = all-get AreLimits limits k one.0 one.1 are_limits;
      }

  module _ (k : ℕ) (seat : Seat) (found : slice_get seats k ≡ Some seat) where
    starts-at : IsStarting tables m.octets (task_of seat) (instance_of seat)
    starts-at =
        let f = at_seat k seat found in
        let within : k < length programs = slice_get_within programs k f.program f.at_program in
        let total : f.one.pages + length limits ≤ limit_pages limits + 1 = limit_pages-one limits k f.one f.at_limits are_limits in
        let some : 1 ≤ f.one.pages = f.are.some_pages in
        let d : ℕ = length m0.octets + k * page in
        let low : column_pages tables * page ≤ d = omega (arith, len0) in
        let high : d + page ≤ length m.octets = omega (arith, len, within) in
        let room : column_pages tables + length programs + (f.one.pages - 1) ≤ 65535 = omega (arith, total, many_limits, fits, some) in
        starts tables m.octets f.program f.one seat d f.is loaded f.columns f.are
        (ready tables m.octets f.program f.one seat d f.is loaded f.columns f.are (octets octets0) holds (column_pages tables + length programs) size room low high)

    program-at : (task_of seat).program ≡ (at_seat k seat found).program
    program-at =
        let f = at_seat k seat found in
        program-is tables m.octets f.program f.one seat (length m0.octets + k * page) f.is loaded f.columns f.are

    seat-at : IsSeat (length pool.free.items) seat
    seat-at =
        let f = at_seat k seat found in
        let within : k < length programs = slice_get_within programs k f.program f.at_program in
        is-seat tables m.octets f.program f.one seat (length m0.octets + k * page) f.is loaded f.columns f.are (length pool.free.items)
        (omega (arith, within, len, kept.flags, kept.whole))

    descriptor : seat.descriptor ≡ (column_pages tables + k) * page
    descriptor = let f = at_seat k seat found in omega (arith, f.is.descriptor_is, len0)

  asks : may_ask (map instance_of seats) + length seats ≡ limit_pages limits
  asks = asks-first limits seats (first.many ∙ sym many_limits) are_limits
      (λ k one seat at_limits found.
      let f = at_seat k seat found in
      (f.is.limits_are ∙ same_Some f.one one (sym f.at_limits ∙ at_limits), f.is.held))

  tasks : AreTasksOf programs limits (map task_of seats)
  tasks = tasks-of programs limits seats first.many many_limits
      (λ k program one seat at_program at_limits found.
      let f = at_seat k seat found in
      (program-at k seat found ∙ same_Some f.program program (sym f.at_program ∙ at_program), f.is.limits_are ∙ same_Some f.one one (sym f.at_limits ∙ at_limits)))

  -- a task and its instance are those of one seat
  seat-of : (k : ℕ) (t : Task) → slice_get (map task_of seats) k ≡ Some t → (seat : Seat) × (slice_get seats k ≡ Some seat) × (task_of seat ≡ t)
  seat-of k t found =
      let within : k < length seats = omega (arith, slice_get_within (map task_of seats) k t found, length-map seats task_of) in
      let seat = found-in seats k within in
      let found_seat = slice_get-map task_of seats k ∙ ap (option_map task_of) seat.1 in
      (seat.0, seat.1, same_Some (task_of seat.0) t (sym found_seat ∙ found))

  instance-found : (k : ℕ) (seat : Seat) → slice_get seats k ≡ Some seat → slice_get (map instance_of seats) k ≡ Some (instance_of seat)
  instance-found k seat found = slice_get-map instance_of seats k ∙ ap (option_map instance_of) found

  start : IsStart tables (map task_of seats) (standing_of pool seats).shared
  start = record {
    octets = octets octets0;
    many = length-map seats instance_of ∙ sym (length-map seats task_of);
    starting = λ k t i task found.
        let seat = seat-of k t task in
        let is : instance_of seat.0 ≡ i = same_Some (instance_of seat.0) i (sym (instance-found k seat.0 seat.1) ∙ found) in
        subst (λ (x : Task). IsStarting tables m.octets x i) seat.2 (subst (IsStarting tables m.octets (task_of seat.0)) is (starts-at k seat.0 seat.1));
    descriptors = λ k t task.
        let seat = seat-of k t task in
        subst (λ (x : Task). x.descriptor ≡ (column_pages tables + k) * page) seat.2 (descriptor k seat.0 seat.1);
    room = omega (arith, size, asks, first.many, fits);
    table = holds;
    size = let all : length (map task_of seats) ≡ length seats = length-map seats task_of in omega (arith, size, all, first.many);
    free = taken;
  }

  bench : AreSeats pool seats
  bench = record {
    bench = record {
      tables = tables;
      serving = start-serving tables (map task_of seats) (standing_of pool seats).shared start;
      room = omega (arith, size, asks, first.many, reserved);
    };
    kept = kept;
    each = λ k other within. seat-at k (get_or seats k other) (slice_get-get_or seats k other within);
  }

  pub begins : AreTasksOf programs limits (map task_of seats) × IsStart tables (map task_of seats) (standing_of pool seats).shared × AreSeats pool seats
  begins = (tasks, start, bench)
