-- From their start on instances serve their tasks, and one of a compiled module answers its query.
use Rattle.std.proofs.Common.{◌≡◌, ℕ, ◌+◌, ◌-◌, ◌*◌, ◌<◌, ◌≤◌, nat_le, Bool, true, false, List, [], ◌∷◌, Some, None, refl, sym, ap, ◌∙◌, subst, arith}
use Rattle.std.specs.Prelude.{if◌then◌else◌, slice_get}
use Rattle.std.specs.List.{AllByRecursion}
use Rattle.std.proofs.lemmas.Bool.{leb-true, lt-leb}
use Rattle.qw_types.specs.Contents.{Contents}
use Rattle.qw_types.specs.declared.value.Val.{Val}
use Rattle.qw_linear.specs.Memory.{page}
use Rattle.qw_meaning.specs.Outcome.{Outcome}
use Rattle.qw_meaning.specs.Select.{AreOfEntries}
use Rattle.qw_module.specs.Execution.{Config, State, Running, Returned, Raised, Trapped, IsOver}
use Rattle.qw_module.specs.Start.{begun}
use Rattle.qw_module.specs.Validity.{IsShaped}
use Rattle.qw_map.specs.Areas.{Area, World, Others}
use Rattle.qw_map.specs.Behaving.{beginning}
use Rattle.qw_map.specs.Columns.{areas_of, column_pages, columns_start, map_of, tables_end}
use Rattle.qw_map.specs.Layout.{Layout, column_areas, first_world}
use Rattle.qw_map.specs.Runs.{Moment, BehavesWithin, most_run}
use Rattle.qw_map.specs.Seen.{ended_at}
use Rattle.qw_map.specs.Turns.{Done, Steps, End, Instance, Shared, Act, turns, gives_back, is_back, own_of, IsWhole, AreSeparate, end_at, moment_of, LeadsTo}
use Rattle.qw_map.proofs.AreaLemmas.{all-weaker}
use Rattle.qw_map.proofs.BehavingLemmas.{held-within}
use Rattle.qw_map.proofs.ColumnLemmas.{pages-reach, tables-end-above}
use Rattle.qw_map.proofs.FreeSteps.{first-separate}
use Rattle.qw_map.proofs.LayoutLemmas.{areas-all}
use Rattle.qw_map.proofs.ResultLemmas.{results_stay}
use Rattle.qw_map.proofs.Separate.{held-own, runs-turns}
use Rattle.qw_map.proofs.TurnSteps.{turns-whole, limits-turns}
use Rattle.qw_promise.specs.Compiled.{Answers, AnswersAt, IsCompiled, bound}
use Rattle.qw_promise.specs.Promise.{Promise}
use Rattle.qw_bench.specs.Bench.{AreServing, EachTask, IsAt, IsStart, IsStarting, Serves, Task, rows_in_tables}
use Rattle.qw_bench.proofs.FirstSeatLemmas.{IsBegun, begun-is}
use Rattle.qw_bench.proofs.LayoutLemmas.{all-get, lies-between, placed-get}
use Rattle.qw_bench.proofs.Serving.{before, each-whole, task-of}

-- ---- the start
starts-serving : (tables : List Contents) (memory : List ℕ) (t : Task) (i : Instance) → IsStarting tables memory t i → Serves memory t i
starts-serving tables memory t i first = rw first.instance (record {
  mapped = refl;
  first_page = ([], refl);
  may_hold = refl;
  holds = first.may_hold;
  may_run = refl;
  whole = record { within = omega arith; end_is = refl };
  number = first.number;
  shaped = first.shaped;
  few_steps = first.few_steps;
  behaves = λ has. first.behaves.behaves first.number t.descriptor t.pages t.placed (rows_in_tables tables) memory first.shaped first.may_hold first.ready;
})

-- an instance that is about to begin has given nothing back
begun-held : (s : State) (w : World) (most : ℕ) → IsBegun s → 1 ≤ most → gives_back (end_at s w 0 most) false ≡ false
begun-held (Running c) w most begins some = rw (lt-leb most 0 (omega (arith, some))) refl
begun-held Returned w most begins some = refl
begun-held (Raised code) w most begins some = absurd begins
begun-held (Trapped why) w most begins some = absurd begins

starting-held : (tables : List Contents) (memory : List ℕ) (t : Task) (i : Instance) → IsStarting tables memory t i → is_back i ≡ false
starting-held tables memory t i first = rw first.instance
    (begun-held (begun t.program.module' first.number t.descriptor) (first_world t.program.layout t.placed t.descriptor t.pages) t.steps
    (begun-is t.program.module' first.number t.descriptor) first.may_run)

module _ (tables : List Contents) (tasks : List Task) (s : Shared) (start : IsStart tables tasks s) where
  -- a task's instance at the start
  record IsFirst (k : ℕ) (i : Instance) : Type 0 where
    t : Task
    found : slice_get tasks k ≡ Some t
    begins : IsStarting tables s.common.memory t i
    descriptor_is : t.descriptor ≡ (column_pages tables + k) * page

  first_of : (k : ℕ) (i : Instance) → slice_get s.instances k ≡ Some i → IsFirst k i
  first_of k i found =
      let t = task-of tasks s start.many k i found in
      record { t = t.t; found = t.found; begins = start.starting k t.t i t.found found; descriptor_is = start.descriptors k t.t t.found }

  -- the columns that a layout uses lie before all first pages
  columns-before : (t : Task) (i : Instance) → IsStarting tables s.common.memory t i → (d : ℕ) → column_pages tables * page ≤ d →
      AllByRecursion (λ (area : Area). area.start + area.size ≤ d) (column_areas t.program.layout.columns t.placed)
  columns-before t i first d behind = areas-all (λ (area : Area). area.start + area.size ≤ d) t.program.layout.columns t.placed
      (λ k used one found there. all-weaker
      (λ (area : Area). (columns_start ≤ area.start) × (area.start + area.size ≤ tables_end columns_start tables)) (λ (area : Area). area.start + area.size ≤ d)
      (λ area h. omega (arith, h.1, pages-reach tables, behind)) (areas_of used.ty used.not_null one)
      (lies-between tables used one (placed-get (map_of tables) t.program.layout.columns t.placed first.placed k used one found there)
      (all-get _ t.program.layout.columns k used found first.columns)))

  first-pages : (k : ℕ) (i : Instance) → slice_get s.instances k ≡ Some i → own_of i ≡ record { start = (column_pages tables + k) * page; size = page } ∷ []
  first-pages k i found =
      let f = first_of k i found in
      let own : i.world.own ≡ record { start = f.t.descriptor; size = page } ∷ [] = ap (λ (x : Instance). x.world.own) f.begins.instance in
      held-own i (starting-held tables s.common.memory f.t i f.begins) ∙ own
      ∙ ap (λ (d : ℕ). (let area : Area = record { start = d; size = page } in area ∷ [])) f.descriptor_is

  start-separate : AreSeparate (column_pages tables) s
  start-separate = first-separate (column_pages tables) s start.octets (omega (arith, start.size, start.many))
      (let low : 64 ≤ tables_end columns_start tables = tables-end-above columns_start tables in omega (arith, low, pages-reach tables)) start.free
      (λ k i found.
      let f = first_of k i found in
      subst (λ (x : Instance). AllByRecursion (λ (area : Area). area.start + area.size ≤ column_pages tables * page) x.world.mapped) (sym f.begins.instance)
      (columns-before f.t i f.begins (column_pages tables * page) (omega arith)))
      first-pages start.room

  pub start-serving : AreServing tables tasks s
  start-serving = record {
    table = start.table;
    behind = λ k i found.
        let f = first_of k i found in
        rw f.begins.instance (omega (arith, f.descriptor_is), tt);
    safe = record {
      separate = start-separate;
      fine = λ k i found held.
          let f = first_of k i found in
          ((starts-serving tables s.common.memory f.t i f.begins).behaves held).fine;
    };
    many = start.many;
    serving = λ k t i task found. starts-serving tables s.common.memory t i (start.starting k t i task found);
  }

-- ---- answers
-- an end answers whatever others do to a memory in which an instance that is done has its pages
answers-stay : (out : Outcome) (layout : Layout) (most pages d : ℕ) (w : World) (m after : List ℕ) (end : End) → (end ≡ Done → Others w m after) →
    Answers out layout most pages d w m end → Answers out layout most pages d w after end
answers-stay out layout most pages d w m after Done others (none, (bag, is, found)) = (none, (bag, is, results_stay layout w m after d bag (others refl) found))
answers-stay out layout most pages d w m after _ others h = h

-- the end of an instance that is over is the one at its state
end-over : (s : State) (w : World) (ran most : ℕ) → IsOver s → end_at s w ran most ≡ ended_at s w
end-over (Running c) w ran most over = absurd over
end-over _ w ran most over = refl

module _ (promise : Promise) (tables : List (List (List Val))) (t : Task) (number : ℕ) (first : Moment) (later : Instance) (memory : List ℕ)
    (behaves : BehavesWithin (bound promise tables t.program.module' number) (promise.pages tables) most_run
    (AnswersAt (promise.outcome tables) t.program.layout (bound promise tables t.program.module' number) (promise.pages tables) t.descriptor) first)
    (led : LeadsTo later.ran first (moment_of later memory) (is_back later)) (whole : IsWhole later) (few : later.ran ≤ most_run) (one : first.world.held ≡ 1) where
  abbrev most : ℕ
  most = bound promise tables t.program.module' number

  abbrev left : Moment
  left = record { world = later.world; state = later.state; memory = led.left }

  held : 1 ≤ promise.pages tables → later.world.held ≤ promise.pages tables
  held some = held-within most (promise.pages tables) most_run
      (AnswersAt (promise.outcome tables) t.program.layout most (promise.pages tables) t.descriptor) first left later.ran behaves (omega (arith, one, some)) led.run

  stopped : (c : Config) → later.state ≡ Running c → (at_limit : Bool) → nat_le later.most_steps later.ran ≡ at_limit →
      IsAt promise tables memory t number later (if at_limit then Some (Steps later.most_steps) else None)
  stopped c is true at_limit =
      let below : later.ran < most = behaves.bounded later.ran left c led.run is in
      let reached : later.most_steps ≤ later.ran = leb-true later.most_steps later.ran at_limit in
      record { ran = omega (arith, below); goes_on = λ none. below; held = held; answers = λ unreleased. omega (arith, below, reached) }
  stopped c is false unended =
      let below : later.ran < most = behaves.bounded later.ran left c led.run is in
      record { ran = omega (arith, below); goes_on = λ none. below; held = held; answers = λ unreleased. tt }

  over : (s : State) → later.state ≡ s → IsOver s → IsAt promise tables memory t number later (end_at s later.world later.ran later.most_steps)
  over s is ended =
      let end = behaves.ends later.ran left led.run (subst IsOver (sym is) ended) in
      let answers = end.1 few in
      let told : end_at s later.world later.ran later.most_steps ≡ Some answers.0 =
      end-over s later.world later.ran later.most_steps ended ∙ ap (λ (x : State). ended_at x later.world) (sym is) ∙ answers.1 in
      subst (IsAt promise tables memory t number later) (sym told) (record {
        ran = end.0;
        goes_on = λ none. absurd (ends answers.0 none);
        held = held;
        answers = λ unreleased. answers-stay (promise.outcome tables) t.program.layout most (promise.pages tables) t.descriptor later.world led.left memory answers.0
            (λ done.
            let end_is : later.end ≡ Some Done = whole.end_is ∙ ap (λ (x : State). end_at x later.world later.ran later.most_steps) is ∙ told ∙ ap Some done in
            led.others (rw (end_is, unreleased) refl)) answers.2;
      })
    where
      ends : (end : End) → Some end ≡ None → ⊥
      ends end none = cc none

  by_state : (s : State) → later.state ≡ s → IsAt promise tables memory t number later (end_at s later.world later.ran later.most_steps)
  by_state (Running c) is = stopped c is (nat_le later.most_steps later.ran) refl
  by_state Returned is = over Returned is tt
  by_state (Raised code) is = over (Raised code) is tt
  by_state (Trapped why) is = over (Trapped why) is tt

  pub at-end : IsAt promise tables memory t number later later.end
  at-end = subst (IsAt promise tables memory t number later) (sym whole.end_is) (by_state later.state refl)

pub compiled-answers : (tables : List Contents) (tasks : List Task) (s : Shared) (acts : List Act) (promise : Promise) → IsStart tables tasks s →
    EachTask (λ t i. IsCompiled promise t.program.layout t.program.module' → AreOfEntries promise.entries (rows_in_tables tables) →
    (number : ℕ) × IsShaped t.program.module' number × IsAt promise (rows_in_tables tables) (turns acts s).common.memory t number i i.end) tasks (turns acts s)
compiled-answers tables tasks s acts promise start k t later task found compiled entries =
    let serving = start-serving tables tasks s start in
    let first = before s acts k later found in
    let i = first.i in
    let begins : IsStarting tables s.common.memory t i = start.starting k t i task first.found in
    let led = runs-turns (column_pages tables) s acts serving.safe k i later first.found found in
    let from : Moment = beginning t.program.module' begins.number t.program.layout t.placed t.descriptor t.pages s.common.memory in
    let none : later.ran - i.ran ≡ later.ran = let ran : i.ran ≡ 0 = ap (λ (x : Instance). x.ran) begins.instance in omega (arith, ran) in
    let at : moment_of i s.common.memory ≡ from = ap (λ (x : Instance). moment_of x s.common.memory) begins.instance in
    let whole : IsWhole later = turns-whole s acts (each-whole tables tasks s serving) k later found in
    let limit : later.most_steps ≡ t.steps = limits-turns s acts k i later first.found found ∙ ap (λ (x : Instance). x.most_steps) begins.instance in
    let few : later.ran ≤ most_run = omega (arith, whole.within, limit, begins.few_steps) in
    let runs : LeadsTo later.ran from (moment_of later (turns acts s).common.memory) (is_back later) =
    subst (λ (n : ℕ). LeadsTo n from (moment_of later (turns acts s).common.memory) (is_back later)) none
    (subst (λ (m : Moment). LeadsTo (later.ran - i.ran) m (moment_of later (turns acts s).common.memory) (is_back later)) at led.1) in (
      begins.number,
      begins.shaped,
      at-end promise (rows_in_tables tables) t begins.number from later (turns acts s).common.memory
          (compiled.behaves begins.number t.descriptor t.pages t.placed (rows_in_tables tables) s.common.memory entries begins.shaped begins.ready)
          runs whole few refl,
    )
