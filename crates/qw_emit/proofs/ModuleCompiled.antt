-- The module of a statement is a compiled form of what is promised, where over tables of the entries that are ready the statement ends within the promise's
-- units and pages, with the rows of the outcome in the result, in any order. Over any other tables that are ready it does what it does over such ones
-- (Conformed). What the statement does on the way is not told. Nor is the outcome where it takes 10^18 instructions, which no run has.
use Rattle.std.proofs.Common.{◌≡◌, ℕ, ◌+◌, ◌*◌, ◌^◌, ◌≤◌, inl, List, [], ◌∷◌, ◌++◌, length, map, Some, None, slice_get, refl, sym, ap, ◌∙◌, subst, append_assoc, ⊎_elim, arith}
use Rattle.std.proofs.lemmas.List.{append-nil}
use Rattle.qw_types.specs.declared.value.Val.{Val}
use Rattle.qw_linear.specs.Memory.{page}
use Rattle.qw_module.specs.declared.module.Module.{Module}
use Rattle.qw_module.specs.Execution.{State, Returned, Raised, IsOver}
use Rattle.qw_module.specs.Validity.{IsShaped}
use Rattle.qw_meaning.specs.Outcome as meant
use Rattle.qw_meaning.specs.Select.{AreOfEntries}
use Rattle.qw_map.specs.Areas.{World}
use Rattle.qw_map.specs.Behaving.{BehavesWith, HasRows, beginning}
use Rattle.qw_map.specs.Layout.{Layout, IsReady, descriptor_size, row_size, rows_at, text_areas}
use Rattle.qw_map.specs.Runs.{Behaves, BehavesWithin, Moment, OpenRun, most_run}
use Rattle.qw_map.specs.Seen.{Seen, seen, IsSteady}
use Rattle.qw_map.specs.declared.layout.Placed.{Placed}
use Rattle.qw_map.proofs.BehavingLemmas.{within-behaves}
use Rattle.qw_map.proofs.Chains.{onto}
use Rattle.qw_low.specs.Begin.{first_state, cells_of}
use Rattle.qw_low.specs.Syntax.{Statement}
use Rattle.qw_low.specs.State.{Part, Column, Own, LowState}
use Rattle.qw_low.specs.Meaning.{Outcome, Completed, Exited, Stopped, Wrong, Unfinished, meaning}
use Rattle.qw_low.specs.Places.{IsDone, IsOutcome, RunsAs, StandsFor}
use Rattle.qw_low.specs.Promise.{Ends}
use Rattle.qw_low.specs.Size.{size}
use Rattle.qw_low.proofs.Promises.{Ends-weaker}
use Rattle.qw_promise.specs.Compiled.{AnswersAt, GoesWith, IsCompiled, bound}
use Rattle.qw_promise.specs.Promise.{Promise}
use Rattle.qw_feed.specs.Rows.{Row, in_order, HasAnswer}
use Rattle.qw_feed.specs.Cells.{HasRow}
use Rattle.qw_limit.specs.Counting.{EndsOrTakes}
use Rattle.qw_emit.specs.RunsOf.{comes_to, first_locals, IsMadeOf}
use Rattle.qw_emit.specs.Alike.{AreAlike}
use Rattle.qw_emit.proofs.Answered.{IsSomeCode, IsTold, promised_answers, told_some}
use Rattle.qw_emit.proofs.CellsRead.{row_read}
use Rattle.qw_emit.proofs.Conformed.{conform_of, conform_ready, conformed}
use Rattle.qw_feed.proofs.Frames.{Never}
use Rattle.qw_emit.proofs.LongBehaves.{long_behaves}
use Rattle.qw_emit.proofs.ReturnRuns as back
use Rattle.qw_emit.proofs.RunWorlds.{Keeps, run-keeps}
use Rattle.qw_emit.proofs.SeenTexts.{shown, StandsIn, stands-same, text_read}

-- ---- what is promised of a statement
-- the tables are ready for a run with this limit, wherever they lie
pub record AreReady (layout : Layout) (tables : List (List (List Val))) (limit : ℕ) : Type 0 where
  pub placed : List Placed
  pub descriptor : ℕ
  pub memory : List ℕ
  pub ready : IsReady layout placed tables descriptor limit memory

-- where texts of the result lie: in what is seen of the memory that runs begin with
abbrev pub Text : Layout → List (List (List Val)) → Part → (offset : ℕ) → List ℕ → Type 0
Text layout tables = StandsIn (shown (descriptor_size layout) (cells_of layout tables))

-- The state with which a statement is completed. Before the descriptor's words were stored, in `s`, no request had been refused, and what is seen of
-- memory was as at first; then the rows that were found stand in a chain.
pub record Settled (layout : Layout) (tables : List (List (List Val))) (t : LowState) : Type 0 where
  pub s : LowState
  pub unrefused : s.refused ≡ None
  pub mapped : (k a b : ℕ) → s.cells (Column k) a b ≡ cells_of layout tables (Column k) a b
  pub head : (a b : ℕ) → 24 ≤ a → a + b ≤ descriptor_size layout → s.cells (Own 0) a b ≡ cells_of layout tables (Own 0) a b
  pub found : List Row
  pub base : ℕ
  pub answer : HasAnswer (HasRow (Text layout tables) (map Some layout.cells)) (row_size (length layout.cells)) base found s t

-- and the rows are those of the outcome, in any order
pub record Ending (promise : Promise) (layout : Layout) (tables : List (List (List Val))) (t : LowState) : Type 0 where
  pub settled : Settled layout tables t
  pub same : meant.IsSameOutcome (promise.outcome tables) (meant.Rows (in_order settled.found))

-- ---- the rows that are read
in-order : (found after : List Row) → back.values_of (onto found after) ≡ in_order found ++ back.values_of after
in-order [] after = refl
in-order (r ∷ found) after = in-order found (r ∷ after) ∙ sym (append_assoc (in_order found) (r.values ∷ []) (back.values_of after))

module _ (layout : Layout) (tables : List (List (List Val))) (small : descriptor_size layout ≤ page) (descriptor : ℕ) (start : Moment)
    (first_page : slice_get start.world.own 0 ≡ Some (record { start = descriptor; size = page })) where
  -- in a memory that stands for such a state the rows are those that were found
  there : (t : LowState) (w : World) (memory : List ℕ) (settled : Settled layout tables t) → StandsFor w t memory → Keeps start.world w → rows_at layout w memory descriptor ≡ Some (in_order settled.found)
  there t w memory settled stands keeps =
      let first = keeps.first (record { start = descriptor; size = page }) first_page in
      back.results_there (HasRow (Text layout tables) (map Some layout.cells)) (row_size (length layout.cells)) settled.base layout w settled.s t memory descriptor settled.found refl small first stands settled.answer
      (λ k o word values means has. row_read (Text layout tables) (text_areas layout w descriptor) w t memory stands
      (λ p off at octets text means_text. text_read layout w descriptor t memory stands first p off at octets
      (stands-same (descriptor_size layout) (cells_of layout tables) t.cells (λ j a b. settled.answer.mapped j a b ∙ settled.mapped j a b) (λ a b low high. settled.answer.head a b low ∙ settled.head a b low high) p off octets text) means_text)
      layout.cells k o word values means has)
      ∙ ap Some (in-order settled.found [] ∙ append-nil (in_order settled.found))

  returned : (promise : Promise) (t : LowState) (w : World) (memory : List ℕ) → Ending promise layout tables t → StandsFor w t memory → Keeps start.world w →
      (t.refused ≡ None) × ((bag : List (List Val)) × meant.IsSameOutcome (promise.outcome tables) (meant.Rows bag) × (rows_at layout w memory descriptor ≡ Some bag))
  returned promise t w memory ending stands keeps =
      let settled = ending.settled in
      (ap (λ (r : LowState). r.refused) settled.answer.others ∙ settled.unrefused, (in_order settled.found, ending.same, there t w memory settled stands keeps))

-- Of a statement that settles, all runs over the tables that return have come to one state: so there are rows that each of them has left.
module _ (n pages : ℕ) (layout : Layout) (tables : List (List (List Val))) (R : ℕ → Type 0) (small : descriptor_size layout ≤ page) where
  abbrev AreLeft : Outcome → List (List Val) → Type 0
  AreLeft out rows =
      (descriptor : ℕ) (start : Moment) → slice_get start.world.own 0 ≡ Some (record { start = descriptor; size = page }) → RunsAs out pages start →
      (k : ℕ) (b : Moment) → OpenRun k start b → b.state ≡ Returned → rows_at layout b.world b.memory descriptor ≡ Some rows

  raised-returned : (code : ℕ) → Raised code ≡ Returned → ⊥
  raised-returned code same = absurd cc

  left_there : (out : Outcome) → Ends n (Settled layout tables) Never R out → (rows : List (List Val)) × AreLeft out rows
  left_there (Completed m t) h = (
    in_order h.1.found,
    λ descriptor start first_page runs k b run at.
        let over : IsOver b.state = subst IsOver (sym at) tt in
        let end = runs.ends.behaves.ends k b run over in
        there layout tables small descriptor start first_page t b.world b.memory h.1 (end.1 end.0).1 (run-keeps k start b run),
  )
  left_there (Exited m t) h = absurd h.1
  left_there (Stopped code m t) h = (
    [],
    λ descriptor start first_page runs k b run at.
        let over : IsOver b.state = subst IsOver (sym at) tt in
        let end = runs.ends.behaves.ends k b run over in
        absurd (raised-returned code (sym (end.1 end.0).0 ∙ at)),
  )
  left_there Wrong h = absurd h
  left_there Unfinished h = absurd h

  -- ---- its runs behave as those of a job
  module _ (descriptor : ℕ) (start : Moment) (first_page : slice_get start.world.own 0 ≡ Some (record { start = descriptor; size = page })) where
    abbrev Leaves : Moment → Type 0
    Leaves b = HasRows layout descriptor b b.state

    returned-leaves : (b : Moment) (rows : List (List Val)) → b.state ≡ Returned → rows_at layout b.world b.memory descriptor ≡ Some rows → Leaves b
    returned-leaves b rows at is = let some : HasRows layout descriptor b Returned = rw is refl in subst (λ (state : State). HasRows layout descriptor b state) (sym at) some

    raised-leaves : (code : ℕ) (b : Moment) → b.state ≡ Raised code → Leaves b
    raised-leaves code b at = subst (λ (state : State). HasRows layout descriptor b state) (sym at) tt

    -- how many instructions are left does not matter, as its run ends within its own number of them
    job-behaves : (k : ℕ) (Q : Moment → Type 0) → ((b : Moment) → Q b → Keeps start.world b.world → Leaves b) → BehavesWithin k pages k Q start → Behaves most_run Leaves start
    job-behaves k Q leaves h = let behaves = within-behaves k pages k Q start h in record {
      fine = behaves.fine;
      asks_on = behaves.asks_on;
      ends = λ j b run over within. let end = h.ends j b run over in leaves b (end.1 end.0) (run-keeps j start b run);
    }

    job_runs : (out : Outcome) → RunsAs out pages start → Ends n (Settled layout tables) Never R out → Behaves most_run Leaves start
    job_runs (Completed k t) runs h = job-behaves runs.count (IsOutcome (Completed k t))
        (λ b is keeps. returned-leaves b (in_order h.1.found) is.0 (there layout tables small descriptor start first_page t b.world b.memory h.1 is.1 keeps)) runs.ends.behaves
    job_runs (Exited k t) runs h = absurd h.1
    job_runs (Stopped code k t) runs h = job-behaves runs.count (IsOutcome (Stopped code k t)) (λ b is keeps. raised-leaves code b is.0) runs.ends.behaves
    job_runs Wrong runs h = absurd h
    job_runs Unfinished runs h = absurd h

-- an outcome of which something is promised is neither wrong nor unfinished
ends-done : (most : ℕ) (P X : LowState → Type 0) (R : ℕ → Type 0) (out : Outcome) → Ends most P X R out → IsDone out
ends-done most P X R (Completed n t) h = tt
ends-done most P X R (Exited n t) h = tt
ends-done most P X R (Stopped code n t) h = tt
ends-done most P X R Wrong h = absurd h
ends-done most P X R Unfinished h = absurd h

-- ---- over any tables that are ready: the module is a job, and steady
module _ (promise : Promise) (layout : Layout) (whole : Statement) (others : ℕ) (n pages fuel : List (List (List Val)) → ℕ) (goes_with : GoesWith promise layout) (alike : AreAlike promise.entries)
    (settles : (tables : List (List (List Val))) (limit : ℕ) → AreOfEntries promise.entries tables → AreReady layout tables limit →
    Ends (n tables) (Settled layout tables) Never IsSomeCode (meaning (pages tables) (fuel tables) whole (first_state layout tables limit (first_locals others))))
    (m : Module) (is_made : IsMadeOf m whole others) where
  -- what runs over these tables come to, told of such ones of the entries
  abbrev like : List (List (List Val)) → List (List (List Val))
  like tables = conformed layout.columns promise.entries tables

  abbrev any_low : List (List (List Val)) → (limit : ℕ) → Outcome
  any_low tables limit = comes_to (pages (like tables)) (fuel (like tables)) whole layout (like tables) limit others

  module _ (number : ℕ) (shape : IsShaped m number) (descriptor limit : ℕ) (placed : List Placed) (tables : List (List (List Val))) (memory : List ℕ) (ready : IsReady layout placed tables descriptor limit memory) where
    like_ready : IsReady layout placed (like tables) descriptor limit memory
    like_ready = conform_ready layout promise.entries alike goes_with.columns placed tables descriptor limit memory ready

    any_runs : RunsAs (any_low tables limit) (pages (like tables)) (beginning m number layout placed descriptor limit memory)
    any_runs = is_made.runs.runs (pages (like tables)) (fuel (like tables)) number descriptor limit layout placed (like tables) memory shape goes_with.small like_ready

    any_ends : Ends (n (like tables)) (Settled layout (like tables)) Never IsSomeCode (any_low tables limit)
    any_ends =
        settles (like tables) limit (conform_of layout promise.entries alike goes_with.columns placed tables descriptor limit memory ready)
        (record { placed = placed; descriptor = descriptor; memory = memory; ready = like_ready })

    run_done : IsDone (any_low tables limit)
    run_done = ends-done (n (like tables)) (Settled layout (like tables)) Never IsSomeCode (any_low tables limit) any_ends

    run_of_job : Behaves most_run (λ b. HasRows layout descriptor b b.state) (beginning m number layout placed descriptor limit memory)
    run_of_job = job_runs (n (like tables)) (pages (like tables)) layout (like tables) IsSomeCode goes_with.small descriptor (beginning m number layout placed descriptor limit memory) refl (any_low tables limit) any_runs any_ends

  course_of : (number limit : ℕ) (tables : List (List (List Val))) → IsShaped m number →
      (course : ℕ → Seen) × (IsDone (any_low tables limit) → (k descriptor : ℕ) (placed : List Placed) (memory : List ℕ) (b : Moment) →
      IsReady layout placed (like tables) descriptor limit memory → OpenRun k (beginning m number layout placed descriptor limit memory) b → seen b ≡ course k)
  course_of number limit tables shape = is_made.runs.course (pages (like tables)) (fuel (like tables)) number limit layout (like tables) shape goes_with.small

  steady : IsSteady layout m
  steady = record {
    course = λ number limit tables shape. (
      (course_of number limit tables shape).0,
      λ k descriptor placed memory b ready run.
          (course_of number limit tables shape).1 (run_done number shape descriptor limit placed tables memory ready) k descriptor placed memory b (like_ready number shape descriptor limit placed tables memory ready) run,
    );
    rows = λ number limit tables shape k j descriptor other placed elsewhere memory another b c ready second run again at also.
        let all = left_there (n (like tables)) (pages (like tables)) layout (like tables) IsSomeCode goes_with.small (any_low tables limit) (any_ends number shape descriptor limit placed tables memory ready) in
        all.1 descriptor (beginning m number layout placed descriptor limit memory) refl (any_runs number shape descriptor limit placed tables memory ready) k b run at
        ∙ sym (all.1 other (beginning m number layout elsewhere other limit another) refl (any_runs number shape other limit elsewhere tables another second) j c again also);
  }

  job : BehavesWith layout m
  job = record {
    valid = is_made.runnable.valid;
    shaped = is_made.runnable.shaped;
    descends = is_made.runnable.descends;
    small = goes_with.small;
    behaves = λ number descriptor limit placed tables memory shape some ready. run_of_job number shape descriptor limit placed tables memory ready;
  }

-- ---- the module
module _ (promise : Promise) (layout : Layout) (whole : Statement) (others : ℕ) (fuel : List (List (List Val)) → ℕ) where
  -- the state in which runs over these tables begin
  abbrev pub first : List (List (List Val)) → (limit : ℕ) → LowState
  first tables limit = first_state layout tables limit (first_locals others)

  abbrev low : List (List (List Val)) → (limit : ℕ) → Outcome
  low tables limit = meaning (promise.pages tables) (fuel tables) whole (first tables limit)

  abbrev count : List (List (List Val)) → ℕ
  count tables = size whole * (1 + promise.units tables)

  -- over tables of the entries that are ready: the outcome, within the promise's units and pages, or a run that is longer than any may be
  module _ (goes_with : GoesWith promise layout)
      (ends : (tables : List (List (List Val))) (limit : ℕ) → AreOfEntries promise.entries tables → AreReady layout tables limit →
      EndsOrTakes (10 ^ 18) (count tables) (Ending promise layout tables) (Settled layout tables) Never (IsTold (promise.outcome tables)) IsSomeCode (low tables limit))
      (m : Module) (is_made : IsMadeOf m whole others)
      (number : ℕ) (shape : IsShaped m number) (descriptor limit : ℕ) (placed : List Placed) (tables : List (List (List Val))) (memory : List ℕ)
      (of_entries : AreOfEntries promise.entries tables) (ready : IsReady layout placed tables descriptor limit memory) where
    abbrev start : Moment
    start = beginning m number layout placed descriptor limit memory

    abbrev most : ℕ
    most = bound promise tables m number

    runs : RunsAs (low tables limit) (promise.pages tables) start
    runs = is_made.runs.runs (promise.pages tables) (fuel tables) number descriptor limit layout placed tables memory shape goes_with.small ready

    all_end : EndsOrTakes (10 ^ 18) (count tables) (Ending promise layout tables) (Settled layout tables) Never (IsTold (promise.outcome tables)) IsSomeCode (low tables limit)
    all_end = ends tables limit of_entries (record { placed = placed; descriptor = descriptor; memory = memory; ready = ready })

    within : count tables ≤ most
    within = rw (is_made.called number shape) (omega arith)

    ended_behaves : Ends (count tables) (Ending promise layout tables) Never (IsTold (promise.outcome tables)) (low tables limit) → BehavesWithin most (promise.pages tables) most_run (AnswersAt (promise.outcome tables) layout most (promise.pages tables) descriptor) start
    ended_behaves h =
        promised_answers (promise.outcome tables) layout most (promise.pages tables) most_run descriptor start (Ending promise layout tables) (returned layout tables goes_with.small descriptor start refl promise) (fuel tables) whole (first tables limit) refl runs
        (Ends-weaker (count tables) most (Ending promise layout tables) (Ending promise layout tables) Never Never (IsTold (promise.outcome tables)) (IsTold (promise.outcome tables)) (low tables limit) within (λ t x. x) (λ t x. x) (λ code x. x) h)

    run_behaves : BehavesWithin most (promise.pages tables) most_run (AnswersAt (promise.outcome tables) layout most (promise.pages tables) descriptor) start
    run_behaves = ⊎_elim
        ended_behaves
        (λ long. long_behaves (count tables) most (promise.pages tables) most_run (Settled layout tables) IsSomeCode (AnswersAt (promise.outcome tables) layout most (promise.pages tables) descriptor) (low tables limit) start runs within long.0 (omega arith) long.1)
        all_end

  module _ (goes_with : GoesWith promise layout) (alike : AreAlike promise.entries) (short : size whole ≤ 2 ^ 22)
      (ends : (tables : List (List (List Val))) (limit : ℕ) → AreOfEntries promise.entries tables → AreReady layout tables limit →
      EndsOrTakes (10 ^ 18) (count tables) (Ending promise layout tables) (Settled layout tables) Never (IsTold (promise.outcome tables)) IsSomeCode (low tables limit))
      (m : Module) (is_made : IsMadeOf m whole others) where
    -- whatever the rows are
    settles : (tables : List (List (List Val))) (limit : ℕ) → AreOfEntries promise.entries tables → AreReady layout tables limit →
        Ends (count tables) (Settled layout tables) Never IsSomeCode (low tables limit)
    settles tables limit of ready = ⊎_elim
        (λ ended. Ends-weaker (count tables) (count tables) (Ending promise layout tables) (Settled layout tables) Never Never (IsTold (promise.outcome tables)) IsSomeCode (low tables limit) (omega arith)
        (λ t h. h.settled) (λ t x. x) (λ code told. told_some (promise.outcome tables) code told) ended)
        (λ long. long.0)
        (ends tables limit of ready)

    -- where the statement may also take 10^18 instructions and more: no run has as many, so none that long ends
    pub module_compiled_or_long : IsCompiled promise layout m
    module_compiled_or_long = record {
      runnable = is_made.runnable;
      is_job = job promise layout whole others count promise.pages fuel goes_with alike settles m is_made;
      goes_with = goes_with;
      nests = is_made.nests;
      no_size = is_made.no_size;
      no_growth = is_made.no_growth;
      spelled = is_made.spelled;
      short = omega (arith, is_made.weight, short);
      light = λ number shape. omega (arith, is_made.called number shape, short);
      behaves = λ number descriptor limit placed tables memory of shape ready. run_behaves goes_with ends m is_made number shape descriptor limit placed tables memory of ready;
      steady = steady promise layout whole others count promise.pages fuel goes_with alike settles m is_made;
    }

  -- where it always ends as it should
  module _ (goes_with : GoesWith promise layout) (alike : AreAlike promise.entries) (short : size whole ≤ 2 ^ 22)
      (ends : (tables : List (List (List Val))) (limit : ℕ) → AreOfEntries promise.entries tables → AreReady layout tables limit →
      Ends (count tables) (Ending promise layout tables) Never (IsTold (promise.outcome tables)) (low tables limit))
      (m : Module) (is_made : IsMadeOf m whole others) where
    pub module_compiled : IsCompiled promise layout m
    module_compiled = module_compiled_or_long goes_with alike short (λ tables limit of ready. inl (ends tables limit of ready)) m is_made
