-- Instances of steady modules with tasks that are alike end alike, whatever turns they are given.
use Rattle.std.proofs.Common.{◌≡◌, ℕ, suc, ◌-◌, ◌<◌, ◌≤◌, ◌⊎◌, inl, inr, ⊎_elim, nat_le, Bool, true, false, List, Option, Some, None, IsSome, refl, sym, ap, ◌∙◌, subst, arith}
use Rattle.std.specs.Prelude.{if◌then◌else◌, ◌==◌, ◌||◌, slice_get}
use Rattle.std.proofs.lemmas.Bool.{leb-true, leb-false}
use Rattle.qw_types.specs.Contents.{Contents, rows_of}
use Rattle.qw_types.specs.declared.value.Val.{Val}
use Rattle.qw_module.specs.Execution.{State, Running, Returned, Raised, Trapped, IsOver}
use Rattle.qw_module.specs.Validity.{IsShaped}
use Rattle.qw_module.proofs.ShapeLemmas.{shape-unique}
use Rattle.qw_map.specs.Areas.{World, Others}
use Rattle.qw_map.specs.Behaving.{beginning, HasRows}
use Rattle.qw_map.specs.Columns.{column_pages}
use Rattle.qw_map.specs.Layout.{Layout, IsReady, IsReadyColumn, rows_at}
use Rattle.qw_map.specs.Runs.{Moment, OpenRun, begins, goes_on}
use Rattle.qw_map.specs.Seen.{Seen, seen, ended_at, IsSteady}
use Rattle.qw_map.specs.Turns.{Done, Exception, Steps, Trap, End, Instance, Shared, Act, turns, is_back, IsWhole, end_at, end_of_raise, end_of_refusal, moment_of, LeadsTo}
use Rattle.qw_map.specs.declared.layout.Placed.{Placed}
use Rattle.qw_map.specs.declared.layout.Used.{Used}
use Rattle.qw_map.proofs.ResultLemmas.{results_stay}
use Rattle.qw_map.proofs.Separate.{runs-turns}
use Rattle.qw_map.proofs.TurnSteps.{turns-whole, limits-turns}
use Rattle.qw_promise.specs.Compiled.{GoesWith, IsCompiled, IsUsedOf}
use Rattle.qw_promise.specs.Promise.{Promise}
use Rattle.qw_bench.specs.Alike.{AreAlike, AreEqual, EndAlike}
use Rattle.qw_bench.specs.Bench.{EachTask, IsStart, IsStarting, Program, Task, rows_in_tables}
use Rattle.qw_bench.proofs.LayoutLemmas.{all-get}
use Rattle.qw_bench.proofs.Serving.{before, each-whole}
use Rattle.qw_bench.proofs.Starting.{start-serving}

-- ---- ends
-- a raise ends a run, and not as a return does
record Raises (e : Option End) : Type 0 where
  some : e ≡ None → ⊥
  undone : e ≡ Some Done → ⊥

refusal-raises : (refused : Option ℕ) (w : World) → Raises (end_of_refusal refused w)
refusal-raises None w = record { some = λ h. cc; undone = λ h. cc }
refusal-raises (Some asked) w = record { some = λ h. cc; undone = λ h. cc }

raise-raises : (code : ℕ) (w : World) → Raises (end_of_raise code w)
raise-raises code w = by_code ((code == 1) || (code == 2)) (code == 3) (end_of_refusal w.refused w) (refusal-raises w.refused w)
  where
    by_code : (a b : Bool) (e : Option End) → Raises e → Raises (if a then Some (Exception code) else (if b then e else Some Trap))
    by_code true b e h = record { some = λ h. cc; undone = λ h. cc }
    by_code false true e h = h
    by_code false false e h = record { some = λ h. cc; undone = λ h. cc }

-- the end of an instance by how its run ended, if it did
abbrev end_from : Option End → ℕ → Option End
end_from None most = Some (Steps most)
end_from (Some e) most = Some e

end-from : (s : State) (w : World) (ran most : ℕ) → IsSome (end_at s w ran most) → (end_at s w ran most ≡ end_from (ended_at s w) most) × (ended_at s w ≡ None → most ≤ ran)
end-from (Running c) w ran most some = let both = by_test (nat_le most ran) refl some in (both.0, λ h. both.1)
  where
    by_test : (b : Bool) → nat_le most ran ≡ b → IsSome (if b then Some (Steps most) else None) → ((if b then Some (Steps most) else None) ≡ Some (Steps most)) × (most ≤ ran)
    by_test true is some = (refl, leb-true most ran is)
    by_test false is some = absurd cc
end-from Returned w ran most some = (refl, λ h. absurd cc)
end-from (Raised code) w ran most some = (there (end_of_raise code w) refl, λ h. absurd ((raise-raises code w).some h))
  where
    there : (e : Option End) → end_of_raise code w ≡ e → e ≡ end_from e most
    there None is = absurd ((raise-raises code w).some is)
    there (Some x) is = refl
end-from (Trapped why) w ran most some = (refl, λ h. absurd cc)

done-returned : (s : State) (w : World) (most : ℕ) → end_from (ended_at s w) most ≡ Some Done → s ≡ Returned
done-returned (Running c) w most is = absurd cc
done-returned Returned w most is = refl
done-returned (Raised code) w most is = absurd (there (end_of_raise code w) refl is)
  where
    there : (e : Option End) → end_of_raise code w ≡ e → end_from e most ≡ Some Done → ⊥
    there None e_is is = (raise-raises code w).some e_is
    there (Some x) e_is is = (raise-raises code w).undone (e_is ∙ is)
done-returned (Trapped why) w most is = absurd cc

-- an open run had not ended before its last step
before-end : (n : ℕ) (a b : Moment) → OpenRun n a b → (k : ℕ) → k < n → (x : Moment) × OpenRun k a x × (ended_at x.state x.world ≡ None)
before-end _ _ _ (begins a) k less = absurd (omega (arith, less))
before-end _ _ _ (goes_on j a b c first event state after run step) k less = ⊎_elim
    (λ same. (b, subst (λ (n : ℕ). OpenRun n a b) (sym same) run, ap (λ (s : State). ended_at s b.world) step.running))
    (λ lower. before-end j a b run k lower)
    (either less)
  where
    either : k < suc j → (k ≡ j) ⊎ (k < j)
    either h = by_test (nat_le j k) refl
      where
        by_test : (t : Bool) → nat_le j k ≡ t → (k ≡ j) ⊎ (k < j)
        by_test true is = inl (let le = leb-true j k is in omega (arith, le, h))
        by_test false is = inr (leb-false j k is)

-- ---- what an instance went through
pub record HasRun (tables : List Contents) (memory : List ℕ) (t : Task) (i : Instance) : Type 0 where
  pub number : ℕ
  pub shaped : IsShaped t.program.module' number
  pub only : (n : ℕ) → IsShaped t.program.module' n → n ≡ number
  pub first : List ℕ
  pub ready : IsReady t.program.layout t.placed (rows_in_tables tables) t.descriptor t.pages first
  pub led : LeadsTo i.ran (beginning t.program.module' number t.program.layout t.placed t.descriptor t.pages first) (moment_of i memory) (is_back i)
  pub whole : IsWhole i
  pub may_run : i.most_steps ≡ t.steps
  pub rows : i.state ≡ Returned → IsSome (rows_at t.program.layout i.world led.left t.descriptor)

has-run : (tables : List Contents) (tasks : List Task) (s : Shared) (acts : List Act) → IsStart tables tasks s → EachTask (HasRun tables (turns acts s).common.memory) tasks (turns acts s)
has-run tables tasks s acts start k t later task found =
    let serving = start-serving tables tasks s start in
    let first = before s acts k later found in
    let i = first.i in
    let at_first : IsStarting tables s.common.memory t i = start.starting k t i task first.found in
    let led = runs-turns (column_pages tables) s acts serving.safe k i later first.found found in
    let from : Moment = beginning t.program.module' at_first.number t.program.layout t.placed t.descriptor t.pages s.common.memory in
    let none : later.ran - i.ran ≡ later.ran = let ran : i.ran ≡ 0 = ap (λ (x : Instance). x.ran) at_first.instance in omega (arith, ran) in
    let at : moment_of i s.common.memory ≡ from = ap (λ (x : Instance). moment_of x s.common.memory) at_first.instance in
    let runs : LeadsTo later.ran from (moment_of later (turns acts s).common.memory) (is_back later) =
    subst (λ (n : ℕ). LeadsTo n from (moment_of later (turns acts s).common.memory) (is_back later)) none
    (subst (λ (m : Moment). LeadsTo (later.ran - i.ran) m (moment_of later (turns acts s).common.memory) (is_back later)) at led.1) in
    let whole : IsWhole later = turns-whole s acts (each-whole tables tasks s serving) k later found in
    let limit : later.most_steps ≡ t.steps = limits-turns s acts k i later first.found found ∙ ap (λ (x : Instance). x.most_steps) at_first.instance in
    let behaves = at_first.behaves.behaves at_first.number t.descriptor t.pages t.placed (rows_in_tables tables) s.common.memory at_first.shaped at_first.may_hold at_first.ready in
    record {
      number = at_first.number;
      shaped = at_first.shaped;
      only = λ n other. shape-unique t.program.module' at_first.behaves.valid.names n at_first.number other at_first.shaped;
      first = s.common.memory;
      ready = at_first.ready;
      led = runs;
      whole = whole;
      may_run = limit;
      rows = λ returned.
          let b : Moment = record { world = later.world; state = later.state; memory = runs.left } in
          let rows : HasRows t.program.layout t.descriptor b later.state =
          behaves.ends later.ran b runs.run (subst IsOver (sym returned) tt) (omega (arith, whole.within, limit, at_first.few_steps)) in
          subst (HasRows t.program.layout t.descriptor b) returned rows;
    }

-- ---- readiness speaks of the layout's tables alone
ready-same : (layout : Layout) (placed : List Placed) (tables others : List (List (List Val))) (descriptor limit : ℕ) (memory : List ℕ) →
    ((k : ℕ) (used : Used) → slice_get layout.columns k ≡ Some used → rows_of tables used.table ≡ rows_of others used.table) →
    IsReady layout placed others descriptor limit memory → IsReady layout placed tables descriptor limit memory
ready-same layout placed tables others descriptor limit memory same h = record {
  octets = h.octets;
  whole = h.whole;
  room = h.room;
  many = h.many;
  columns = λ k used one found there. subst (λ (rows : List (List Val)). IsReadyColumn rows descriptor memory used one) (sym (same k used found)) (h.columns k used one found there);
  behind = h.behind;
  inside = h.inside;
  fresh = h.fresh;
}

-- result rows that are there stay whatever others do
kept-rows : (layout : Layout) (d : ℕ) (w : World) (before after : List ℕ) → Others w before after → IsSome (rows_at layout w before d) → rows_at layout w after d ≡ rows_at layout w before d
kept-rows layout d w before after others = by (rows_at layout w before d) refl
  where
    by : (o : Option (List (List Val))) → rows_at layout w before d ≡ o → IsSome o → rows_at layout w after d ≡ rows_at layout w before d
    by None is some = absurd (cc some)
    by (Some rows) is some = results_stay layout w before after d rows others is ∙ sym is

-- ---- two runs
-- from two moments each open run is seen so
module _ (course : ℕ → Seen) (steps : ℕ) (one other : Moment) (sees_one : (k : ℕ) (b : Moment) → OpenRun k one b → seen b ≡ course k) (sees_other : (k : ℕ) (b : Moment) → OpenRun k other b → seen b ≡ course k)
    (i j : Instance) (m n : List ℕ) (led_one : LeadsTo i.ran one (moment_of i m) (is_back i)) (led_other : LeadsTo j.ran other (moment_of j n) (is_back j))
    (whole_one : IsWhole i) (whole_other : IsWhole j) (some : IsSome i.end) (limit_one : i.most_steps ≡ steps) (limit_other : j.most_steps ≡ steps) where
  abbrev left_one : Moment
  left_one = record { world = i.world; state = i.state; memory = led_one.left }

  -- the other doesn't run on where the one has ended
  no-more : i.ran < j.ran → ⊥
  no-more less =
      let x = before-end j.ran other (record { world = j.world; state = j.state; memory = led_other.left }) led_other.run i.ran less in
      let none : (course i.ran).end ≡ None = ap (λ (v : Seen). v.end) (sym (sees_other i.ran x.0 x.1)) ∙ x.2 in
      let here : ended_at i.state i.world ≡ None = ap (λ (v : Seen). v.end) (sees_one i.ran left_one led_one.run) ∙ none in
      let past : i.most_steps ≤ i.ran = (end-from i.state i.world i.ran i.most_steps (subst IsSome whole_one.end_is some)).1 here in
      let within = whole_other.within in
      omega (arith, past, within, limit_one, limit_other, less)

module _ (tables others : List Contents) (memory another : List ℕ) (t u : Task) (i j : Instance) (one : HasRun tables memory t i) (two : HasRun others another u j)
    (steady : IsSteady t.program.layout t.program.module') (alike : AreAlike tables t others u) (some : IsSome i.end) (some' : IsSome j.end) where
  -- what is seen of each run of the module
  abbrev course : ℕ → Seen
  course = (steady.course one.number t.pages (rows_in_tables tables) one.shaped).0

  abbrev from_one : Moment
  from_one = beginning t.program.module' one.number t.program.layout t.placed t.descriptor t.pages one.first

  -- the other one's start, as one of the same module over the same rows
  abbrev from_two : Moment
  from_two = beginning t.program.module' one.number t.program.layout u.placed u.descriptor t.pages two.first

  abbrev Begins : Program → ℕ → ℕ → Type 0
  Begins p pages number =
      IsReady p.layout u.placed (rows_in_tables others) u.descriptor pages two.first
      × LeadsTo j.ran (beginning p.module' number p.layout u.placed u.descriptor pages two.first) (moment_of j another) (is_back j)

  begins_two : Begins t.program t.pages one.number
  begins_two =
      let shaped : IsShaped t.program.module' two.number = subst (λ (p : Program). IsShaped p.module' two.number) (sym alike.program) two.shaped in
      let same : two.number ≡ one.number = one.only two.number shaped in
      subst (λ (n : ℕ). Begins t.program t.pages n) same
      (subst (λ (p : Program). Begins p t.pages two.number) (sym alike.program)
      (subst (λ (pages : ℕ). Begins u.program pages two.number) (sym alike.pages) (two.ready, two.led)))

  ready_two : IsReady t.program.layout u.placed (rows_in_tables tables) u.descriptor t.pages two.first
  ready_two = ready-same t.program.layout u.placed (rows_in_tables tables) (rows_in_tables others) u.descriptor t.pages two.first alike.rows begins_two.0

  sees_one : (k : ℕ) (b : Moment) → OpenRun k from_one b → seen b ≡ course k
  sees_one k b run = (steady.course one.number t.pages (rows_in_tables tables) one.shaped).1 k t.descriptor t.placed one.first b one.ready run

  sees_two : (k : ℕ) (b : Moment) → OpenRun k from_two b → seen b ≡ course k
  sees_two k b run = (steady.course one.number t.pages (rows_in_tables tables) one.shaped).1 k u.descriptor u.placed two.first b ready_two run

  limit_two : j.most_steps ≡ t.steps
  limit_two = two.may_run ∙ sym alike.steps

  led_two : LeadsTo j.ran from_two (moment_of j another) (is_back j)
  led_two = begins_two.1

  same-ran : i.ran ≡ j.ran
  same-ran = by_tests (nat_le j.ran i.ran) refl (nat_le i.ran j.ran) refl
    where
      by_tests : (a : Bool) → nat_le j.ran i.ran ≡ a → (b : Bool) → nat_le i.ran j.ran ≡ b → i.ran ≡ j.ran
      by_tests false is b other = absurd (no-more course t.steps from_one from_two sees_one sees_two i j memory another one.led led_two one.whole two.whole some one.may_run limit_two (leb-false j.ran i.ran is))
      by_tests true is false other = absurd (no-more course t.steps from_two from_one sees_two sees_one j i another memory led_two one.led two.whole one.whole some' limit_two one.may_run (leb-false i.ran j.ran other))
      by_tests true is true other = let le = leb-true j.ran i.ran is in let ge = leb-true i.ran j.ran other in omega (arith, le, ge)

  same-seen : (let a : Moment = record { world = i.world; state = i.state; memory = one.led.left } in seen a) ≡ (let b : Moment = record { world = j.world; state = j.state; memory = led_two.left } in seen b)
  same-seen = sees_one i.ran _ one.led.run ∙ ap course same-ran ∙ sym (sees_two j.ran _ led_two.run)

  end-one : i.end ≡ end_from (ended_at i.state i.world) i.most_steps
  end-one = one.whole.end_is ∙ (end-from i.state i.world i.ran i.most_steps (subst IsSome one.whole.end_is some)).0

  end-two : j.end ≡ end_from (ended_at j.state j.world) j.most_steps
  end-two = two.whole.end_is ∙ (end-from j.state j.world j.ran j.most_steps (subst IsSome two.whole.end_is some')).0

  same-end : i.end ≡ j.end
  same-end = end-one ∙ ap (λ (e : Option End). end_from e i.most_steps) (ap (λ (v : Seen). v.end) same-seen) ∙ ap (end_from (ended_at j.state j.world)) (one.may_run ∙ sym limit_two) ∙ sym end-two

  abbrev left_i : Moment
  left_i = record { world = i.world; state = i.state; memory = one.led.left }

  abbrev left_j : Moment
  left_j = record { world = j.world; state = j.state; memory = led_two.left }

  same-rows : i.end ≡ Some Done → i.released ≡ false → j.released ≡ false → rows_at t.program.layout i.world memory t.descriptor ≡ rows_at u.program.layout j.world another u.descriptor
  same-rows done held held' =
      let kept : is_back i ≡ false = rw (done, held) refl in
      let kept' : is_back j ≡ false = rw (sym same-end ∙ done, held') refl in
      let returned : i.state ≡ Returned = done-returned i.state i.world i.most_steps (sym end-one ∙ done) in
      let returned' : j.state ≡ Returned = done-returned j.state j.world j.most_steps (sym end-two ∙ sym same-end ∙ done) in
      let same = steady.rows one.number t.pages (rows_in_tables tables) one.shaped i.ran j.ran t.descriptor u.descriptor t.placed u.placed one.first two.first
      left_i left_j one.ready ready_two one.led.run led_two.run returned returned' in
      let some_i : IsSome (rows_at t.program.layout i.world one.led.left t.descriptor) = one.rows returned in
      let some_j : IsSome (rows_at t.program.layout j.world led_two.left u.descriptor) = subst IsSome same some_i in
      kept-rows t.program.layout t.descriptor i.world one.led.left memory (one.led.others kept) some_i
      ∙ same
      ∙ sym (kept-rows t.program.layout u.descriptor j.world led_two.left another (led_two.others kept') some_j)
      ∙ ap (λ (p : Program). rows_at p.layout j.world another u.descriptor) alike.program

  pub end-alike : EndAlike memory t i another u j
  end-alike = record { end = same-end; ran = same-ran; held = ap (λ (v : Seen). v.held) same-seen; rows = same-rows }

pub steady-turns : (tables others : List Contents) (tasks tasks' : List Task) (s s' : Shared) (acts acts' : List Act) → IsStart tables tasks s → IsStart others tasks' s' →
    EachTask (λ t i. EachTask (λ u j. IsSteady t.program.layout t.program.module' → AreAlike tables t others u → IsSome i.end → IsSome j.end →
    EndAlike (turns acts s).common.memory t i (turns acts' s').common.memory u j) tasks' (turns acts' s')) tasks (turns acts s)
steady-turns tables others tasks tasks' s s' acts acts' start start' k t i task found l u j task' found' steady alike some some' =
    end-alike tables others (turns acts s).common.memory (turns acts' s').common.memory t u i j (has-run tables tasks s acts start k t i task found) (has-run others tasks' s' acts' start' l u j task' found') steady alike some some'

-- a promise's tables are those of which its layout has columns
tables-alike : (promise : Promise) (tables others : List Contents) (t u : Task) → GoesWith promise t.program.layout → AreEqual promise tables t others u → AreAlike tables t others u
tables-alike promise tables others t u goes equal = record {
  program = equal.program;
  pages = equal.pages;
  steps = equal.steps;
  rows = λ k used found.
      let of = all-get (IsUsedOf promise.entries) t.program.layout.columns k used found goes.columns in
      let same = equal.rows of.0 of.1 in
      subst (λ (n : ℕ). rows_of (rows_in_tables tables) n ≡ rows_of (rows_in_tables others) n) of.2 same;
}

pub equal-turns : (tables others : List Contents) (tasks tasks' : List Task) (s s' : Shared) (acts acts' : List Act) (promise : Promise) → IsStart tables tasks s → IsStart others tasks' s' →
    EachTask (λ t i. EachTask (λ u j. IsCompiled promise t.program.layout t.program.module' → AreEqual promise tables t others u → IsSome i.end → IsSome j.end →
    EndAlike (turns acts s).common.memory t i (turns acts' s').common.memory u j) tasks' (turns acts' s')) tasks (turns acts s)
equal-turns tables others tasks tasks' s s' acts acts' promise start start' k t i task found l u j task' found' compiled equal some some' =
    steady-turns tables others tasks tasks' s s' acts acts' start start' k t i task found l u j task' found' compiled.steady
    (tables-alike promise tables others t u compiled.goes_with equal) some some'
