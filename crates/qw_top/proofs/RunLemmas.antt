-- What a bench that has run queries to their ends holds, and what a report shows of it.
use Rattle.std.proofs.Common.{◌≡◌, ◌⊎◌, ℕ, zero, suc, ◌+◌, ◌<◌, nat_le, Bool, true, false, List, [], ◌∷◌, ◌++◌, Option, Some, None, inl, inr, refl, sym, subst, length, ap, ◌∙◌, arith}
use Rattle.std.specs.Prelude.{Contains, IfSome, IsSome, ◌==◌, ◌||◌, if◌then◌else◌, slice_get}
use Rattle.std.specs.List.{AllZip, list_any}
use Rattle.std.specs.Option.{option_and_then}
use Rattle.std.proofs.lemmas.Option.{none-some, same_Some}
use Rattle.qw_types.specs.Contents.{Contents}
use Rattle.qw_types.specs.declared.code.Code.{Code}
use Rattle.qw_types.specs.declared.code.Code.TheVariants.{DivZero, OutOfRange}
use Rattle.qw_types.specs.declared.value.Val.{Val}
use Rattle.qw_module.specs.Execution.{State, Running, Returned, Raised as HasRaised, Trapped}
use Rattle.qw_module.specs.Validity.{IsShaped}
use Rattle.std.specs.List.Sorted.{IsPermutation}
use Rattle.qw_meaning.specs.Outcome.{IsSameOutcome, Outcome, Rows, Raises}
use Rattle.qw_grouped.specs.Whole.{sources_in, whole_outcome}
use Rattle.qw_meaning.specs.Select.{AreOfEntries, entries_of}
use Rattle.qw_map.specs.Layout.{rows_at}
use Rattle.qw_map.specs.Turns.{End, Done as EndedDone, Exception, Pages, Steps, Trap, Instance, IsWhole, Shared, end_at, end_of_refusal}
use Rattle.qw_promise.specs.Compiled.{Answers, IsCompiled, bound, raised_for}
use Rattle.qw_whole.specs.WholePromises.{promise_of_whole, whole_pages}
use Rattle.qw_bench.specs.Bench.{AreServing, IsAt, Program, Serves, Task, end_in, released_in, rows_in_tables}
use Rattle.qw_bench.specs.Standing.{Standing, AreTasksOf, rows_in}
use Rattle.qw_bench.specs.declared.bench.Limits.{Limits}
use Rattle.qw_map.proofs.TurnFacts.{found-in as there}
use Rattle.qw_bench.proofs.Serving.{turns-serving}
use Rattle.qw_bench.proofs.Starting.{compiled-answers, start-serving}
use Rattle.qw_bench.proofs.Unreleased.{rounds-unreleased}
use Rattle.qw_order.proofs.SortedLemmas as sorting
use Rattle.qw_sink.specs.Sink.{report_of_exception, report_of_pages, report_of_rows, report_of_steps}
use Rattle.qw_top.specs.Delivered.{counts_line, HasRun, IsProgramOf, ShowsEnd, ShowsEnds, ends_below, is_exception, is_pages, is_steps, status_of_ends}
use Rattle.qw_top.specs.Top.{Asked, IsPastSteps, same_limits}
use Rattle.qw_top.specs.Inner.Reports.{AreBlocks, IsBlock}
use Rattle.qw_top.specs.declared.status.Status.TheVariants.{Done, Raised, PageLimitMet, StepLimitMet}
use Rattle.qw_top.proofs.EachLemmas.{all_at}

-- ---- the task of a query

-- The task of query k of a bench: its module is compiled for the query, and it has the limits.
record TaskOf (limits : Limits) (asked : Asked) (tasks : List Task) (k : ℕ) : Type 0 where
  t : Task
  task : slice_get tasks k ≡ Some t
  compiled : IsCompiled (promise_of_whole asked.whole) t.program.layout t.program.module'
  pages : t.pages ≡ limits.pages
  steps : t.steps ≡ limits.steps

task_of : (limits : Limits) (queries : List Asked) (programs : List Program) (tasks : List Task) → AllZip IsProgramOf queries programs → AreTasksOf programs (same_limits limits queries) tasks →
    (k : ℕ) (asked : Asked) → slice_get queries k ≡ Some asked → TaskOf limits asked tasks k
task_of limits [] programs tasks compiled are k asked found = absurd (none-some asked found)
task_of limits (query ∷ queries) [] tasks compiled are k asked found = absurd compiled
task_of limits (query ∷ queries) (program ∷ programs) [] compiled are k asked found = absurd are
task_of limits (query ∷ queries) (program ∷ programs) (t ∷ tasks) compiled are zero asked found = record {
  t = t;
  task = refl;
  compiled =
      subst (λ (q : Asked). IsCompiled (promise_of_whole q.whole) t.program.layout t.program.module') (same_Some query asked found)
      (subst (λ (p : Program). IsCompiled (promise_of_whole query.whole) p.layout p.module') (sym are.0) compiled.0);
  pages = are.1;
  steps = are.2;
}
task_of limits (query ∷ queries) (program ∷ programs) (t ∷ tasks) compiled are (suc k) asked found =
    let one = task_of limits queries programs tasks compiled.1 are.3 k asked found in
    record { t = one.t; task = one.task; compiled = one.compiled; pages = one.pages; steps = one.steps }

-- one task for each query
pub many_tasks : (limits : Limits) (queries : List Asked) (programs : List Program) (tasks : List Task) → AllZip IsProgramOf queries programs → AreTasksOf programs (same_limits limits queries) tasks →
    length tasks ≡ length queries
many_tasks limits [] [] [] compiled are = refl
many_tasks limits [] [] (t ∷ tasks) compiled are = absurd are
many_tasks limits [] (program ∷ programs) tasks compiled are = absurd compiled
many_tasks limits (query ∷ queries) [] tasks compiled are = absurd compiled
many_tasks limits (query ∷ queries) (program ∷ programs) [] compiled are = absurd are
many_tasks limits (query ∷ queries) (program ∷ programs) (t ∷ tasks) compiled are = ap suc (many_tasks limits queries programs tasks compiled.1 are.3)

-- ---- the end of a query

-- Query k of a bench was run to this end by its task's instance.
pub record EndedAs (limits : Limits) (tables : List Contents) (asked : Asked) (b : Standing) (k : ℕ) : Type 0 where
  pub t : Task
  pub task : slice_get b.tasks k ≡ Some t
  pub i : Instance
  pub found : slice_get b.shared.instances k ≡ Some i
  pub compiled : IsCompiled (promise_of_whole asked.whole) t.program.layout t.program.module'
  pub serves : Serves b.shared.common.memory t i
  pub pages : t.pages ≡ limits.pages
  pub steps : t.steps ≡ limits.steps
  pub number : ℕ
  pub shaped : IsShaped t.program.module' number
  pub held : i.released ≡ false
  pub at : IsAt (promise_of_whole asked.whole) (rows_in_tables tables) b.shared.common.memory t number i i.end

pub end_is : (s : Shared) (k : ℕ) (i : Instance) → slice_get s.instances k ≡ Some i → end_in s k ≡ i.end
end_is s k i found = ap (option_and_then (λ (instance : Instance). instance.end)) found

module _ (limits : Limits) (quantum : ℕ) (tables : List Contents) (queries : List Asked) (b : Standing) (run : HasRun limits quantum tables queries b) where
  serving : AreServing tables b.tasks b.shared
  serving = subst (λ (s : Shared). AreServing tables b.tasks s) (sym run.turned)
      (turns-serving tables b.tasks run.start (start-serving tables b.tasks run.start run.began) run.given)

  pub many_instances : length b.shared.instances ≡ length queries
  many_instances = serving.many ∙ many_tasks limits queries run.programs b.tasks run.compiled run.tasks

  -- rounds of turns have released nobody
  pub unreleased : (k : ℕ) → released_in b.shared k ≡ false
  unreleased k =
      subst (λ (s : Shared). released_in s k ≡ false) (sym run.turned) (rounds-unreleased tables b.tasks quantum run.given run.start run.began run.rounds k)

  pub ended_as : (k : ℕ) (asked : Asked) → slice_get queries k ≡ Some asked → k < length queries → EndedAs limits tables asked b k
  ended_as k asked found within =
      let one = task_of limits queries run.programs b.tasks run.compiled run.tasks k asked found in
      let i = there b.shared.instances k (omega (arith, many_instances, within)) in
      let answers = compiled-answers tables b.tasks run.start run.given (promise_of_whole asked.whole) run.began k one.t i.0 one.task
      (subst (λ (s : Shared). slice_get s.instances k ≡ Some i.0) run.turned i.1) one.compiled (all_at (λ (other : Asked). AreOfEntries (entries_of (sources_in other.whole.body)) (rows_in_tables tables)) queries k asked run.read found) in
      record {
        t = one.t;
        task = one.task;
        i = i.0;
        found = i.1;
        compiled = one.compiled;
        serves = serving.serving k one.t i.0 one.task i.1;
        pages = one.pages;
        steps = one.steps;
        number = answers.0;
        shaped = answers.1;
        held = rw i.1 at (unreleased k);
        at = subst (λ (s : Shared). IsAt (promise_of_whole asked.whole) (rows_in_tables tables) s.common.memory one.t answers.0 i.0 i.0.end) (sym run.turned) answers.2;
      }

-- ---- what is shown of it

same_raised : (one other : Code) → raised_for one ≡ raised_for other → one ≡ other
same_raised DivZero DivZero is = refl
same_raised DivZero OutOfRange is = absurd (omega (arith, is))
same_raised OutOfRange DivZero is = absurd (omega (arith, is))
same_raised OutOfRange OutOfRange is = refl

-- an outcome that is the same as rows is a bag of them
bag_of : (out : Outcome) (rows : List (List Val)) → IsSameOutcome out (Rows rows) → (bag : List (List Val)) × (out ≡ Rows bag) × IsPermutation bag rows
bag_of (Rows bag) rows same = (bag, refl, same)
bag_of (Raises codes) rows same = absurd same

module _ (limits : Limits) (tables : List Contents) (asked : Asked) (b : Standing) (k : ℕ) (one : EndedAs limits tables asked b k) where
  rows_are : rows_in b k ≡ rows_at one.t.program.layout one.i.world b.shared.common.memory one.t.descriptor
  rows_are = rw (one.task, one.found) refl

  -- what is answered of its end
  abbrev AnswersTo : End → Type 0
  AnswersTo end =
      Answers (whole_outcome asked.whole (rows_in_tables tables)) one.t.program.layout (bound (promise_of_whole asked.whole) (rows_in_tables tables) one.t.program.module' one.number)
      (whole_pages asked.whole (rows_in_tables tables)) one.t.descriptor one.i.world b.shared.common.memory end

  -- the block of an end shows it
  shows_at : (end : Option End) → IfSome end AnswersTo → (block : List ℕ) → IsBlock asked b k end block → ShowsEnd tables asked b k end block
  shows_at None at block is = absurd is
  shows_at (Some EndedDone) (none, (rows, same_out, there_is)) block (shown, printed, found, sorted, is) =
      let same : rows ≡ shown = same_Some rows shown (sym (rows_are ∙ there_is) ∙ found) in
      let bag = bag_of (whole_outcome asked.whole (rows_in_tables tables)) rows same_out in
      (bag.0, shown, printed, bag.1, subst (λ (rs : List (List Val)). IsPermutation bag.0 rs) same bag.2, found, sorted, is)
  shows_at (Some (Exception code)) (none, (raised, other, out, among, code_is)) block (shown, shown_is, is) =
      let same : other ≡ shown = same_raised other shown (sym code_is ∙ shown_is) in
      (raised, shown, out, subst (λ (c : Code). Contains raised c) same among, shown_is, is)
  shows_at (Some (Pages held asked_for limit)) at block is = is
  shows_at (Some (Steps limit)) at block is = is
  shows_at (Some Trap) at block is = absurd is

  pub shows_block : (block : List ℕ) → IsBlock asked b k (end_in b.shared k) block → ShowsEnd tables asked b k (end_in b.shared k) block
  shows_block block is =
      let end = end_is b.shared k one.i one.found in
      subst (λ (o : Option End). ShowsEnd tables asked b k o block) (sym end)
      (shows_at one.i.end (one.at.answers one.held) block (subst (λ (o : Option End). IsBlock asked b k o block) end is))

-- the blocks of queries show their ends, where each shows its own
shows_blocks : (counts : Bool) (tables : List Contents) (b : Standing) (queries : List Asked) (k : ℕ) (text : List ℕ) →
    ((n j : ℕ) (asked : Asked) (block : List ℕ) → n ≡ k + j → slice_get queries j ≡ Some asked → IsBlock asked b n (end_in b.shared n) block → ShowsEnd tables asked b n (end_in b.shared n) block) →
    AreBlocks counts queries b k text → ShowsEnds counts tables queries b k text
shows_blocks counts tables b [] k text each are = are
shows_blocks counts tables b (asked ∷ queries) k text each (block, blocks, is, first, more) = (
  block,
  blocks,
  is,
  each k zero asked block (omega arith) refl first,
  shows_blocks counts tables b queries (suc k) blocks (λ n j other piece n_is found here. each n (suc j) other piece (omega (arith, n_is)) found here) more,
)

within_of : {A : Type 0} (xs : List A) (k : ℕ) (x : A) → slice_get xs k ≡ Some x → k < length xs
within_of [] k x found = absurd (none-some x found)
within_of (y ∷ xs) zero x found = omega arith
within_of (y ∷ xs) (suc k) x found = let shorter = within_of xs k x found in omega (arith, shorter)

contains_at : {A : Type 0} (xs : List A) (k : ℕ) (x : A) → slice_get xs k ≡ Some x → Contains xs x
contains_at [] k x found = absurd (none-some x found)
contains_at (y ∷ xs) zero x found = (0, omega arith, same_Some y x found)
contains_at (y ∷ xs) (suc k) x found =
    let h = contains_at xs k x found in (suc h.0, omega (arith, h.1), h.2)

pub shows_run : (counts : Bool) (limits : Limits) (quantum : ℕ) (tables : List Contents) (queries : List Asked) (b : Standing) → HasRun limits quantum tables queries b → (text : List ℕ) →
    AreBlocks counts queries b 0 text → ShowsEnds counts tables queries b 0 text
shows_run counts limits quantum tables queries b run text are =
    shows_blocks counts tables b queries 0 text
    (λ n j asked block n_is found here.
    let same : j ≡ n = omega (arith, n_is) in
    let at : slice_get queries n ≡ Some asked = subst (λ (m : ℕ). slice_get queries m ≡ Some asked) same found in
    shows_block limits tables asked b n (ended_as limits quantum tables queries b run n asked at (within_of queries n asked at)) block here)
    are

-- ---- there is a report

module _ (limits : Limits) (tables : List Contents) (asked : Asked) (b : Standing) (k : ℕ) (one : EndedAs limits tables asked b k) where
  some_at : (end : Option End) → IsSome end → IfSome end (AnswersTo limits tables asked b k one) → (block : List ℕ) × ShowsEnd tables asked b k end block
  some_at None some at = cc
  some_at (Some EndedDone) some (none, (rows, same_out, there_is)) =
      let bag = bag_of (whole_outcome asked.whole (rows_in_tables tables)) rows same_out in
      let printed = sorting.sorted_by asked.keys rows in
      (report_of_rows (suc k) asked.header printed, (bag.0, rows, printed, bag.1, bag.2, rows_are limits tables asked b k one ∙ there_is, sorting.there asked.keys rows, refl))
  some_at (Some (Exception code)) some (none, (raised, other, out, among, code_is)) = (report_of_exception (suc k) other, (raised, other, out, among, code_is, refl))
  some_at (Some (Pages held asked_for limit)) some at = (report_of_pages (suc k) held asked_for limit, refl)
  some_at (Some (Steps limit)) some at = (report_of_steps (suc k) limit, refl)
  some_at (Some Trap) some at = absurd at

  some_block : IsSome (end_in b.shared k) → (block : List ℕ) × ShowsEnd tables asked b k (end_in b.shared k) block
  some_block some =
      let end = end_is b.shared k one.i one.found in
      let h = some_at one.i.end (subst (λ (o : Option End). IsSome o) end some) (one.at.answers one.held) in
      (h.0, subst (λ (o : Option End). ShowsEnd tables asked b k o h.0) (sym end) h.1)

some_blocks : (counts : Bool) (tables : List Contents) (b : Standing) (queries : List Asked) (k : ℕ) →
    ((n j : ℕ) (asked : Asked) → n ≡ k + j → slice_get queries j ≡ Some asked → (block : List ℕ) × ShowsEnd tables asked b n (end_in b.shared n) block) →
    (report : List ℕ) × ShowsEnds counts tables queries b k report
some_blocks counts tables b [] k each = ([], refl)
some_blocks counts tables b (asked ∷ queries) k each =
    let first = each k zero asked (omega arith) refl in
    let more = some_blocks counts tables b queries (suc k) (λ n j other n_is found. each n (suc j) other (omega (arith, n_is)) found) in
    (first.0 ++ counts_line counts b k ++ more.0, (first.0, more.0, refl, first.1, more.1))

pub some_report : (counts : Bool) (limits : Limits) (quantum : ℕ) (tables : List Contents) (queries : List Asked) (b : Standing) → HasRun limits quantum tables queries b → (report : List ℕ) × ShowsEnds counts tables queries b 0 report
some_report counts limits quantum tables queries b run =
    some_blocks counts tables b queries 0
    (λ n j asked n_is found.
    let same : j ≡ n = omega (arith, n_is) in
    let at : slice_get queries n ≡ Some asked = subst (λ (m : ℕ). slice_get queries m ≡ Some asked) same found in
    let within = within_of queries n asked at in
    some_block limits tables asked b n (ended_as limits quantum tables queries b run n asked at within) (run.ended n within))

-- ---- which limits were met

-- an end at a limit of instructions is at that of the instance
limit_of_steps : (i : Instance) (limit : ℕ) → IsWhole i → i.end ≡ Some (Steps limit) → limit ≡ i.most_steps
limit_of_steps i limit whole is = by_state i.state (sym whole.end_is ∙ is)
  where
    none_raised : (code : ℕ) (a c : Bool) (refused : Option ℕ) → (if a then Some (Exception code) else (if c then end_of_refusal refused i.world else Some Trap)) ≡ Some (Steps limit) → limit ≡ i.most_steps
    none_raised code true c refused is = cc
    none_raised code false true None is = cc
    none_raised code false true (Some asked) is = cc
    none_raised code false false refused is = cc

    reached : (at_limit : Bool) → (if at_limit then Some (Steps i.most_steps) else None) ≡ Some (Steps limit) → limit ≡ i.most_steps
    reached true is = cc
    reached false is = cc

    by_state : (s : State) → end_at s i.world i.ran i.most_steps ≡ Some (Steps limit) → limit ≡ i.most_steps
    by_state Returned is = cc
    by_state (HasRaised code) is = none_raised code ((code == 1) || (code == 2)) (code == 3) i.world.refused is
    by_state (Trapped why) is = cc
    by_state (Running c) is = reached (nat_le i.most_steps i.ran) is

or_false : (a : Bool) → (a || false) ≡ true → a ≡ true
or_false true is = refl
or_false false is = is

last_or_before : (p : Option End → Bool) (ends : List (Option End)) (end : Option End) → list_any p (ends ++ end ∷ []) ≡ true → (list_any p ends ≡ true) ⊎ (p end ≡ true)
last_or_before p [] end is = inr (or_false (p end) is)
last_or_before p (first ∷ ends) end is = by_first (p first) (last_or_before p ends end) is
  where
    by_first : (a : Bool) → (list_any p (ends ++ end ∷ []) ≡ true → (list_any p ends ≡ true) ⊎ (p end ≡ true)) → (a || list_any p (ends ++ end ∷ [])) ≡ true → ((a || list_any p ends) ≡ true) ⊎ (p end ≡ true)
    by_first true more is = inl refl
    by_first false more is = more is

-- the end of the instance of a number, below how many
any_below : (p : Option End → Bool) (b : Standing) (n : ℕ) → list_any p (ends_below b n) ≡ true → (k : ℕ) × (k < n) × (p (end_in b.shared k) ≡ true)
any_below p b zero is = cc
any_below p b (suc n) is =
    elim (last_or_before p (ends_below b n) (end_in b.shared n) is) [
      | inl before ↦ let h = any_below p b n before in (h.0, omega (arith, h.1), h.2)
      | inr last ↦ (n, omega arith, last)
    ]

some_pages : (end : Option End) → is_pages end ≡ true → (held : ℕ) × (asked : ℕ) × (limit : ℕ) × (end ≡ Some (Pages held asked limit))
some_pages None is = cc
some_pages (Some EndedDone) is = cc
some_pages (Some (Exception code)) is = cc
some_pages (Some (Pages held asked limit)) is = (held, asked, limit, refl)
some_pages (Some (Steps limit)) is = cc
some_pages (Some Trap) is = cc

some_steps : (end : Option End) → is_steps end ≡ true → (limit : ℕ) × (end ≡ Some (Steps limit))
some_steps None is = cc
some_steps (Some EndedDone) is = cc
some_steps (Some (Exception code)) is = cc
some_steps (Some (Pages held asked limit)) is = cc
some_steps (Some (Steps limit)) is = (limit, refl)
some_steps (Some Trap) is = cc

some_exception : (end : Option End) → is_exception end ≡ true → (code : ℕ) × (end ≡ Some (Exception code))
some_exception None is = cc
some_exception (Some EndedDone) is = cc
some_exception (Some (Exception code)) is = (code, refl)
some_exception (Some (Pages held asked limit)) is = cc
some_exception (Some (Steps limit)) is = cc
some_exception (Some Trap) is = cc

pages_status : (a b c : Bool) → (if a then PageLimitMet else (if b then StepLimitMet else (if c then Raised else Done))) ≡ PageLimitMet → a ≡ true
pages_status true b c is = refl
pages_status false true c is = cc
pages_status false false true is = cc
pages_status false false false is = cc

steps_status : (a b c : Bool) → (if a then PageLimitMet else (if b then StepLimitMet else (if c then Raised else Done))) ≡ StepLimitMet → b ≡ true
steps_status true b c is = cc
steps_status false true c is = refl
steps_status false false true is = cc
steps_status false false false is = cc

raised_status : (a b c : Bool) → (if a then PageLimitMet else (if b then StepLimitMet else (if c then Raised else Done))) ≡ Raised → c ≡ true
raised_status true b c is = cc
raised_status false true c is = cc
raised_status false false true is = refl
raised_status false false false is = cc

module _ (limits : Limits) (quantum : ℕ) (tables : List Contents) (queries : List Asked) (b : Standing) (run : HasRun limits quantum tables queries b) where
  -- an end of one of the queries
  record OneEnd (p : Option End → Bool) : Type 0 where
    k : ℕ
    asked : Asked
    place : slice_get queries k ≡ Some asked
    one : EndedAs limits tables asked b k
    is : p one.i.end ≡ true

  one_end : (p : Option End → Bool) → list_any p (ends_below b (length queries)) ≡ true → OneEnd p
  one_end p is =
      let h = any_below p b (length queries) is in
      let asked = there queries h.0 h.1 in
      let one = ended_as limits quantum tables queries b run h.0 asked.0 asked.1 h.1 in
      record {
        k = h.0;
        asked = asked.0;
        place = asked.1;
        one = one;
        is = subst (λ (o : Option End). p o ≡ true) (end_is b.shared h.0 one.i one.found) h.2;
      }

  abbrev ends : List (Option End)
  ends = ends_below b (length queries)

  -- what is answered of the end of one of them
  answers_at : (p : Option End → Bool) (h : OneEnd p) (end : End) → h.one.i.end ≡ Some end → AnswersTo limits tables h.asked b h.k h.one end
  answers_at p h end is = subst (λ (o : Option End). IfSome o (AnswersTo limits tables h.asked b h.k h.one)) is (h.one.at.answers h.one.held)

  -- a limit of pages that was met is below the page bound of a query
  pub pages_met : status_of_ends ends ≡ PageLimitMet → (asked : Asked) × Contains queries asked × (limits.pages < whole_pages asked.whole (rows_in_tables tables))
  pages_met is =
      let h = one_end is_pages (pages_status (list_any is_pages ends) (list_any is_steps ends) (list_any is_exception ends) is) in
      let pages = some_pages h.one.i.end h.is in
      let at = answers_at is_pages h (Pages pages.0 pages.1 pages.2) pages.3 in
      let may_hold = h.one.serves.may_hold in
      let limit_is = h.one.pages in
      (h.asked, contains_at queries h.k h.asked h.place, omega (arith, at.1, at.2, at.3, may_hold, limit_is))

  -- one of instructions is below the bound of the module of a query
  pub steps_met : status_of_ends ends ≡ StepLimitMet → (k : ℕ) × (asked : Asked) × (slice_get queries k ≡ Some asked) × IsPastSteps limits.steps (rows_in_tables tables) b k asked
  steps_met is =
      let h = one_end is_steps (steps_status (list_any is_pages ends) (list_any is_steps ends) (list_any is_exception ends) is) in
      let steps = some_steps h.one.i.end h.is in
      let at = answers_at is_steps h (Steps steps.0) steps.1 in
      let limit_is = limit_of_steps h.one.i steps.0 h.one.serves.whole steps.1 in
      let may_run = h.one.serves.may_run in
      let steps_are = h.one.steps in (
        h.k,
        h.asked,
        h.place,
        record { task = h.one.t; there = h.one.task; number = h.one.number; shaped = h.one.shaped; past = omega (arith, at, limit_is, may_run, steps_are) },
      )

  -- an exception that was raised is one of a query's outcome
  pub exception_raised : status_of_ends ends ≡ Raised → (asked : Asked) × Contains queries asked × ((codes : List Code) × (whole_outcome asked.whole (rows_in_tables tables) ≡ Raises codes))
  exception_raised is =
      let h = one_end is_exception (raised_status (list_any is_pages ends) (list_any is_steps ends) (list_any is_exception ends) is) in
      let code = some_exception h.one.i.end h.is in
      let at = answers_at is_exception h (Exception code.0) code.1 in
      (h.asked, contains_at queries h.k h.asked h.place, (at.1.0, at.1.2))
