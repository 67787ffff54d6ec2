-- Instances that share one memory serve their tasks, whatever turns they are given.
use Rattle.std.proofs.Common.{◌≡◌, ℕ, ◌+◌, ◌-◌, ◌*◌, ◌<◌, ◌≤◌, true, false, is_some, List, [], ◌∷◌, ◌++◌, length, Option, Some, None, IsSome, refl, sym, ap, ◌∙◌, subst, arith, append_assoc}
use Rattle.std.specs.Prelude.{slice_get, slice_index, slice_set}
use Rattle.std.specs.List.{AllByRecursion}
use Rattle.std.proofs.lemmas.Bool.{leb-true}
use Rattle.std.proofs.lemmas.List.{append-nil}
use Rattle.std.proofs.lemmas.Option.{same_Some, slice_get_within}
use Rattle.qw_types.specs.Contents.{Contents}
use Rattle.qw_types.specs.declared.value.Val.{Val}
use Rattle.qw_linear.specs.Memory.{page}
use Rattle.qw_module.specs.Execution.{Config, State, Running, Returned, Raised, Trapped, Event, Grows, AsksHost}
use Rattle.qw_module.specs.Step.{Next, next}
use Rattle.qw_map.specs.Areas.{Area, World, Others, AsksOn, IsAnswered, IsFine, granted_area, grants, world_after}
use Rattle.qw_map.specs.Behaving.{HasRows}
use Rattle.qw_map.specs.Columns.{Holds, column_pages, columns_start, map_of, tables_end}
use Rattle.qw_map.specs.Layout.{Layout, rows_at}
use Rattle.qw_map.specs.Free.{IsTaken}
use Rattle.qw_map.specs.Runs.{Moment, OpenStep, OpenRun, begins, goes_on, Behaves, most_run}
use Rattle.qw_map.specs.Turns.{Done, Instance, Common, Shared, Act, turn, flags_after, placing, given, is_back, steps_of, turn_at, turns, with_instance, EachInstance, IsWhole, AreSafe, moment_of}
use Rattle.qw_map.proofs.AreaLemmas.{all-append, all-weaker}
use Rattle.qw_map.proofs.ColumnLemmas.{holds-kept, pages-reach}
use Rattle.qw_map.proofs.NoTrap.{Goes, step-goes}
use Rattle.qw_map.proofs.ResultLemmas.{results_stay}
use Rattle.qw_map.proofs.Separate.{behaves-turns, front-turns, gains-put, open-step, runs-turns, safe-release, safe-step, safe-turns, unended-held, worlds-turns}
use Rattle.qw_map.proofs.TurnFacts.{after_step, each-put, each-step, found-in, slice_get-set_same, turns-keep}
use Rattle.qw_map.proofs.TurnSteps.{turns-many, turns-whole, limits-turns}
use Rattle.qw_bench.specs.Bench.{AreBehind, AreServing, EachTask, Serves, Task}
use Rattle.qw_bench.specs.Inner.Seats.{CanBeTold, IsTold}

-- ---- what others leave
pub rows-stay : (layout : Layout) (d : ℕ) (b : Moment) (after : List ℕ) → Others b.world b.memory after → (s : State) →
    HasRows layout d b s → HasRows layout d (record b { memory = after }) s
rows-stay layout d b after others Returned h = kept (rows_at layout b.world b.memory d) refl h
  where
    kept : (o : Option (List (List Val))) → rows_at layout b.world b.memory d ≡ o → IsSome o → IsSome (rows_at layout b.world after d)
    kept None is some = absurd (cc some)
    kept (Some rows) is some = rw (results_stay layout b.world b.memory after d rows others is) refl
rows-stay layout d b after others _ h = h

-- ---- what an instance has after steps
-- it has what it had, and what it was granted; it holds no more than it may
record HasGrown (w v : World) : Type 0 where
  granted : List Area
  own_is : v.own ≡ w.own ++ granted
  holds : w.held ≤ w.limit → v.held ≤ v.limit

grown-none : (w : World) → HasGrown w w
grown-none w = record { granted = []; own_is = sym (append-nil w.own); holds = λ h. h }

grown-step : (w v : World) (m : List ℕ) (e : Event) → IsAnswered v e → HasGrown w v → HasGrown w (world_after v m e)
grown-step w v m (Grows pages true) answered h = record {
  granted = h.granted ++ granted_area (length m) pages;
  own_is = ap (λ (own : List Area). own ++ granted_area (length m) pages) h.own_is ∙ append_assoc w.own h.granted (granted_area (length m) pages);
  holds = λ within. leb-true (v.held + pages) v.limit (sym answered);
}
grown-step w v m (Grows pages false) answered h = record { granted = h.granted; own_is = h.own_is; holds = h.holds }
grown-step w v m (AsksHost pages (Some first)) answered h = record {
  granted = h.granted ++ granted_area (first * page) pages;
  own_is = ap (λ (own : List Area). own ++ granted_area (first * page) pages) h.own_is ∙ append_assoc w.own h.granted (granted_area (first * page) pages);
  holds = λ within. leb-true (v.held + pages) v.limit (sym answered);
}
grown-step w v m (AsksHost pages None) answered h = record { granted = h.granted; own_is = h.own_is; holds = h.holds }
grown-step w v m _ answered h = h

grown-run : (n : ℕ) (a b : Moment) → OpenRun n a b → HasGrown a.world b.world
grown-run _ _ _ (begins a) = grown-none a.world
grown-run _ _ _ (goes_on k a b c before event state after run step) = grown-step a.world b.world before event step.answered (grown-run k a b run)

-- ---- what turns keep
-- an instance before turns
pub record IsBefore (s : Shared) (k : ℕ) : Type 0 where
  pub i : Instance
  pub found : slice_get s.instances k ≡ Some i

pub before : (s : Shared) (acts : List Act) (k : ℕ) (later : Instance) → slice_get (turns acts s).instances k ≡ Some later → IsBefore s k
before s acts k later found =
    let within : k < length s.instances = omega (arith, slice_get_within (turns acts s).instances k later found, turns-many s acts) in
    let i = found-in s.instances k within in
    record { i = i.0; found = i.1 }

-- its task
pub record HasTask (tasks : List Task) (k : ℕ) : Type 0 where
  pub t : Task
  pub found : slice_get tasks k ≡ Some t

pub task-of : (tasks : List Task) (s : Shared) → length s.instances ≡ length tasks → (k : ℕ) (i : Instance) → slice_get s.instances k ≡ Some i → HasTask tasks k
task-of tasks s many k i found =
    let within : k < length tasks = omega (arith, slice_get_within s.instances k i found, many) in
    let t = found-in tasks k within in
    record { t = t.0; found = t.1 }

pub each-whole : (tables : List Contents) (tasks : List Task) (s : Shared) → AreServing tables tasks s → EachInstance IsWhole s
each-whole tables tasks s serving k i found =
    let t = task-of tasks s serving.many k i found in
    (serving.serving k t.t i t.found found).whole

-- an instance that has its pages had them
pub backs-turns : (s : Shared) (acts : List Act) (k : ℕ) (i later : Instance) → slice_get s.instances k ≡ Some i → slice_get (turns acts s).instances k ≡ Some later →
    is_back later ≡ false → is_back i ≡ false
backs-turns s acts k i later found = turns-keep (λ (now : Shared). (x : Instance) → slice_get now.instances k ≡ Some x → is_back x ≡ false → is_back i ≡ false)
    (λ now j one c t there unended running made h x found_x. each-step (λ l y. l ≡ k → is_back y ≡ false → is_back i ≡ false) now j one t there
    (λ is has. h one (rw (← is) there) (unended-held one unended))
    (λ l y elsewhere found_y is has. h y (rw (← is) found_y) has) k x found_x refl)
    (λ now j one there done unreleased h x found_x. each-put (λ l y. l ≡ k → is_back y ≡ false → is_back i ≡ false) now j one (given one now.common) there
    (λ is has. h one (rw (← is) there) (rw (done, unreleased) refl))
    (λ l y elsewhere found_y is has. h y (rw (← is) found_y) has) k x found_x refl)
    acts s (λ x found_x has. rw (same_Some i x (sym found ∙ found_x)) has) later

module _ (behind : ℕ) where
  -- own areas lie behind the columns
  record LieBehind (s : Shared) : Type 0 where
    safe : AreSafe behind s
    behind_is : AreBehind (behind * page) s

  behind-step : (s : Shared) (j : ℕ) (one : Instance) (c : Config) (t : Next) → slice_get s.instances j ≡ Some one → is_some one.end ≡ false → one.state ≡ Running c →
      next (grants one.world) (placing s.common) c s.common.memory ≡ Some t → LieBehind s → LieBehind (after_step s j one t)
  behind-step s j one c t found unended running made h =
      let gains = gains-put behind s h.safe.separate j one c t found (unended-held one unended) running made in
      let now : Common = record { memory = t.memory; free = flags_after s.common t.event } in
      let gained : AllByRecursion (λ (area : Area). behind * page ≤ area.start) gains.gained =
      all-weaker (IsTaken behind now.free) (λ (area : Area). behind * page ≤ area.start) (λ area b. omega (arith, b.start_is, b.behind_is)) gains.gained gains.taken in
      record {
        safe = safe-step behind s j one c t found unended running made h.safe;
        behind_is = each-step (λ k i. AllByRecursion (λ (area : Area). behind * page ≤ area.start) i.world.own) s j one t found
            (rw gains.own_is (all-append (λ (area : Area). behind * page ≤ area.start) one.world.own gains.gained (h.behind_is j one found) gained))
            (λ k i elsewhere there_i. h.behind_is k i there_i);
      }

  behind-release : (s : Shared) (j : ℕ) (one : Instance) → slice_get s.instances j ≡ Some one → one.end ≡ Some Done → one.released ≡ false → LieBehind s →
      LieBehind (with_instance s j (given one s.common))
  behind-release s j one found done unreleased h = record {
    safe = safe-release behind s j one found done unreleased h.safe;
    behind_is = each-put (λ k i. AllByRecursion (λ (area : Area). behind * page ≤ area.start) i.world.own) s j one (given one s.common) found
        (h.behind_is j one found) (λ k i elsewhere there_i. h.behind_is k i there_i);
  }

  behind-turns : (s : Shared) (acts : List Act) → LieBehind s → LieBehind (turns acts s)
  behind-turns s acts h = turns-keep LieBehind
      (λ now j one c t found unended running made kept. behind-step now j one c t found unended running made kept)
      (λ now j one found done unreleased kept. behind-release now j one found done unreleased kept)
      acts s h

  -- a memory that is no shorter
  record IsLonger (s now : Shared) : Type 0 where
    safe : AreSafe behind now
    longer : length s.common.memory ≤ length now.common.memory

  -- the memory doesn't shrink
  longer-turns : (s : Shared) (acts : List Act) → AreSafe behind s → length s.common.memory ≤ length (turns acts s).common.memory
  longer-turns s acts safe = (turns-keep (IsLonger s)
      (λ now j one c t found unended running made kept.
      let gains = gains-put behind now kept.safe.separate j one c t found (unended-held one unended) running made in
      record { safe = safe-step behind now j one c t found unended running made kept.safe; longer = omega (arith, gains.longer, kept.longer) })
      (λ now j one found done unreleased kept. record { safe = safe-release behind now j one found done unreleased kept.safe; longer = kept.longer })
      acts s (record { safe = safe; longer = omega arith })).longer

module _ (tables : List Contents) (tasks : List Task) (s : Shared) (serving : AreServing tables tasks s) where
  abbrev columns_end : ℕ
  columns_end = column_pages tables

  behind-served : (acts : List Act) → AreBehind (columns_end * page) (turns acts s)
  behind-served acts = (behind-turns columns_end s acts (record { safe = serving.safe; behind_is = serving.behind })).behind_is

  -- the columns stay
  octets-served : (acts : List Act) → (k : ℕ) → k < tables_end columns_start tables → slice_index (turns acts s).common.memory k ≡ slice_index s.common.memory k
  octets-served acts k below = front-turns columns_end s acts k serving.safe (omega (arith, below, pages-reach tables))

  table-served : (acts : List Act) → Holds (map_of tables) (turns acts s).common.memory tables
  table-served acts = holds-kept s.common.memory (turns acts s).common.memory tables (longer-turns columns_end s acts serving.safe) (octets-served acts) serving.table

  serves-turns : (acts : List Act) → EachTask (Serves (turns acts s).common.memory) tasks (turns acts s)
  serves-turns acts k t later task found =
      let first = before s acts k later found in
      let i = first.i in
      let now = serving.serving k t i task first.found in
      let led = runs-turns columns_end s acts serving.safe k i later first.found found in
      let kept = worlds-turns columns_end s acts serving.safe k i later first.found found in
      let grown = grown-run (later.ran - i.ran) (moment_of i s.common.memory) (record { world = later.world; state = later.state; memory = led.1.left }) led.1.run in
      let P : Moment → Type 0 = λ b. HasRows t.program.layout t.descriptor b b.state in
      record {
        mapped = kept.0 ∙ now.mapped;
        first_page = (
          now.first_page.0 ++ grown.granted,
          grown.own_is ∙ ap (λ (own : List Area). own ++ grown.granted) now.first_page.1,
        );
        may_hold = kept.1 ∙ now.may_hold;
        holds = let within = grown.holds (omega (arith, now.holds, now.may_hold)) in omega (arith, within, kept.1, now.may_hold);
        may_run = limits-turns s acts k i later first.found found ∙ now.may_run;
        whole = turns-whole s acts (each-whole tables tasks s serving) k later found;
        number = now.number;
        shaped = now.shaped;
        few_steps = now.few_steps;
        behaves = λ has.
            let count : most_run - i.ran - (later.ran - i.ran) ≡ most_run - later.ran = let more = led.0 in omega (arith, more) in
            let limit : later.most_steps ≡ t.steps = limits-turns s acts k i later first.found found ∙ now.may_run in
            let whole : IsWhole later = turns-whole s acts (each-whole tables tasks s serving) k later found in
            let enough : later.ran - i.ran ≤ most_run - i.ran = let more = led.0 in omega (arith, more, whole.within, limit, now.few_steps) in
            subst (λ (n : ℕ). Behaves n P (moment_of later (turns acts s).common.memory)) count
            (behaves-turns columns_end s acts serving.safe k i later first.found found has (most_run - i.ran) P
            (λ b after others h. rows-stay t.program.layout t.descriptor b after others b.state h) enough
            (now.behaves (backs-turns s acts k i later first.found found has)));
      }

  pub turns-serving : (acts : List Act) → AreServing tables tasks (turns acts s)
  turns-serving acts = record {
    table = table-served acts;
    behind = behind-served acts;
    safe = safe-turns columns_end s acts serving.safe;
    many = turns-many s acts ∙ serving.many;
    serving = serves-turns acts;
  }

-- ---- what can be told of each step
-- a step that may be made, and that asks as it may
told-by : (w : World) (m : List ℕ) (e : Event) (s : State) → AsksOn e s → Goes (world_after w m e) s → CanBeTold w e s
told-by w m (Grows asked granted) s asks goes = asks
told-by w m (AsksHost asked first) s asks goes = asks
told-by w m _ (Raised code) asks goes = goes
told-by w m _ (Trapped why) asks goes = goes
told-by w m _ _ asks goes = tt

-- an instance that serves its task can be told in each step, however long its turn is: after it, it serves its task
pub serving-told : (tables : List Contents) (tasks : List Task) (s : Shared) → AreServing tables tasks s → (k : ℕ) (t : Task) (i : Instance) →
    slice_get tasks k ≡ Some t → slice_get s.instances k ≡ Some i → IsTold i s.common
serving-told tables tasks s serving k t i task found quantum c n running unended made =
    let x = steps_of quantum i s.common in
    let turned : turn_at s k quantum (slice_get s.instances k) ≡ with_instance s k x = ap (turn_at s k quantum) found in
    let later : AreServing tables tasks (with_instance s k x) = subst (AreServing tables tasks) turned (turns-serving tables tasks s serving (turn k quantum ∷ [])) in
    let put : slice_get (slice_set s.instances k x.0) k ≡ Some x.0 = slice_get-set_same s.instances k x.0 (slice_get_within s.instances k i found) in
    let held : is_back x.0 ≡ false = unended-held x.0 (ap is_some unended) in
    let at : Moment = moment_of x.0 x.1.memory in
    let step : OpenStep at c x.1.memory n.event n.state n.memory = open-step (column_pages tables) (with_instance s k x) later.safe.separate k x.0 c n put held running made in
    let behaves = (later.serving k t x.0 task put).behaves held in
    let fine : IsFine x.0.world n.event = behaves.fine 0 at c x.1.memory n.event n.state n.memory (begins at) step in
    told-by x.0.world x.1.memory n.event n.state (behaves.asks_on 0 at c x.1.memory n.event n.state n.memory (begins at) step)
    (step-goes x.0.world c x.1.memory n.event n.state n.memory step.step fine)
