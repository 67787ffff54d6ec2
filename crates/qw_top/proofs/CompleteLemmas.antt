-- That a run whose limits are enough ends as its queries mean.
use Rattle.std.proofs.Common.{◌≡◌, ◌⊎◌, ℕ, zero, suc, ◌+◌, ◌<◌, ◌≤◌, Bool, true, false, List, [], ◌∷◌, Option, Some, None, inl, inr, refl, sym, subst, length, ap, ◌∙◌, arith}
use Rattle.std.specs.Prelude.{Contains, ◌||◌, ◌^◌, if◌then◌else◌, slice_get}
use Rattle.std.specs.List.{AllByRecursion, list_any}
use Rattle.std.proofs.lemmas.Nat.{mul-le}
use Rattle.std.proofs.lemmas.List.Folds.{list_any-append}
use Rattle.std.proofs.lemmas.List.Sorted.{IsPermutation-trans}
use Rattle.std.proofs.lemmas.Option.{same_Some, slice_get_within}
use Rattle.qw_types.specs.Contents.{Contents}
use Rattle.qw_types.specs.declared.schema.Table.{Table}
use Rattle.qw_types.specs.declared.value.Val.{Val}
use Rattle.qw_meaning.specs.Outcome.{Outcome}
use Rattle.qw_grouped.specs.Whole.{whole_outcome}
use Rattle.qw_module.specs.Validity.{IsShaped}
use Rattle.qw_map.specs.Turns.{End, Done as EndedDone, Exception, Pages, Steps, Trap}
use Rattle.qw_promise.specs.Compiled.{IsCompiled, weight_of}
use Rattle.qw_whole.specs.WholePromises.{promise_of_whole, whole_pages, whole_units}
use Rattle.qw_bench.specs.Bench.{Task, end_in, rows_in_tables}
use Rattle.qw_bench.specs.Standing.{Standing}
use Rattle.qw_bench.specs.declared.bench.Limits.{Limits}
use Rattle.qw_command_line.specs.Words.{RunOptions}
use Rattle.qw_top.specs.Complete.{AreEnough, EndsAsMeant, SufficesFor, TellsOutcome, TellsOutcomes, is_raised, status_meant}
use Rattle.qw_top.specs.Delivered.{HasRun, LeavesReport, Reports, RunLeaves, ShowsEnd, ShowsEnds, ends_below, is_exception, is_pages, is_steps, status_of_ends}
use Rattle.qw_top.specs.Limits.{limits_of}
use Rattle.qw_top.specs.Output.{with_text}
use Rattle.qw_top.specs.Top.{Asked, Files, HasQueries, HaveRoom, IsEnough, IsFault, IsReported, Names, RunExplains}
use Rattle.qw_top.specs.declared.status.Status.{Status}
use Rattle.qw_top.specs.declared.status.Status.TheVariants.{Done, WordsRefused, SchemaRefused, TableFileRefused, QueriesRefused, ReadFailed, WriteFailed, Raised, PageLimitMet, StepLimitMet, TotalPages, NoMemory}
use Rattle.qw_top.proofs.ContentLemmas.{HasQueries-unique}
use Rattle.qw_top.proofs.EachLemmas.{all_at, all_contains}
use Rattle.qw_top.proofs.RunLemmas.{ended_as, exception_raised, pages_met, steps_met}
use Rattle.qw_top.proofs.SettleLemmas.{runs_explained}

-- ---- limits that are enough for any module are so for those of a bench

suffices_pages : (limits : Limits) (tables : List (List (List Val))) (queries : List Asked) → AllByRecursion (SufficesFor limits tables) queries →
    AllByRecursion (λ (one : Asked). whole_pages one.whole tables ≤ limits.pages) queries
suffices_pages limits tables [] all = tt
suffices_pages limits tables (one ∷ queries) all = (all.0.pages, suffices_pages limits tables queries all.1)

module _ (limits : Limits) (quantum : ℕ) (tables : List Contents) (queries : List Asked) (b : Standing) (run : HasRun limits quantum tables queries b) where
  abbrev rows : List (List (List Val))
  rows = rows_in_tables tables

  light_of : (k number : ℕ) (one : Asked) (task : Task) → slice_get queries k ≡ Some one → slice_get b.tasks k ≡ Some task → IsShaped task.program.module' number →
      weight_of task.program.module' number ≤ 2 ^ 24
  light_of k number one task found there shaped =
      let e = ended_as limits quantum tables queries b run k one found (slice_get_within queries k one found) in
      let same : e.t ≡ task = same_Some e.t task (sym e.task ∙ there) in
      let compiled = subst (λ (t : Task). IsCompiled (promise_of_whole one.whole) t.program.layout t.program.module') same e.compiled in
      compiled.light number shaped

  enough_of_any : AllByRecursion (SufficesFor limits rows) queries → IsEnough limits rows queries b
  enough_of_any all = record {
    pages = suffices_pages limits rows queries all;
    steps = λ k number one task found there shaped.
        let light = light_of k number one task found there shaped in
        let suffices = all_at (SufficesFor limits rows) queries k one all found in
        let most = suffices.steps in
        let less = mul-le (weight_of task.program.module' number) (1 + whole_units one.whole rows) (2 ^ 24) (1 + whole_units one.whole rows) light (omega arith) in
        omega (arith, less, most);
  }

  enough_of : (kept : Option Standing) → kept ≡ Some b → AreEnough limits rows queries kept → IsEnough limits rows queries b
  enough_of kept is (inl all) = enough_of_any all
  enough_of kept is (inr (other, other_is, enough)) = subst (λ (x : Standing). IsEnough limits rows queries x) (same_Some other b (sym other_is ∙ is)) enough

  -- ---- no limit is met then

  abbrev ends : List (Option End)
  ends = ends_below b (length queries)

  no_pages_met : IsEnough limits rows queries b → status_of_ends ends ≡ PageLimitMet → ⊥
  no_pages_met enough is =
      let met = pages_met limits quantum tables queries b run is in
      let within = all_contains (λ (one : Asked). whole_pages one.whole rows ≤ limits.pages) queries met.0 enough.pages met.1 in
      let above = met.2 in
      omega (arith, within, above)

  no_steps_met : IsEnough limits rows queries b → status_of_ends ends ≡ StepLimitMet → ⊥
  no_steps_met enough is =
      let met = steps_met limits quantum tables queries b run is in
      let past = met.3 in
      let within = enough.steps met.0 past.number met.1 past.task met.2 past.there past.shaped in
      let above = past.past in
      omega (arith, within, above)

-- ---- which ends there are then

-- neither of the tests that come first holds
no_limit : (a b c : Bool) → let s : Status = if a then PageLimitMet else (if b then StepLimitMet else (if c then Raised else Done)) in
    (s ≡ PageLimitMet → ⊥) → (s ≡ StepLimitMet → ⊥) → (a ≡ false) × (b ≡ false) × (s ≡ (if c then Raised else Done))
no_limit true b c pages steps = absurd (pages refl)
no_limit false true c pages steps = absurd (steps refl)
no_limit false false c pages steps = (refl, refl, refl)

or_none : (a b : Bool) → (a || b) ≡ false → (a ≡ false) × (b ≡ false)
or_none true b is = absurd cc
or_none false b is = (refl, is)

-- a test of no end of the first n is one of none of them
none_below : (p : Option End → Bool) (b : Standing) (n k : ℕ) → list_any p (ends_below b n) ≡ false → k < n → p (end_in b.shared k) ≡ false
none_below p b zero k none within = absurd (omega (arith, within))
none_below p b (suc n) k none within =
    let parts = or_none (list_any p (ends_below b n)) (p (end_in b.shared n) || false) (sym (list_any-append p (ends_below b n) (end_in b.shared n ∷ [])) ∙ none) in
    let last = or_none (p (end_in b.shared n)) false parts.1 in
    elim (below_or_last k n within) [
      | inl below ↦ none_below p b n k parts.0 below
      | inr is ↦ subst (λ (m : ℕ). p (end_in b.shared m) ≡ false) (sym is) last.0
    ]
  where
    below_or_last : (k n : ℕ) → k < suc n → (k < n) ⊎ (k ≡ n)
    below_or_last zero zero within = inr refl
    below_or_last zero (suc n) within = inl (omega arith)
    below_or_last (suc k) zero within = absurd (omega (arith, within))
    below_or_last (suc k) (suc n) within = elim (below_or_last k n (omega (arith, within))) [
      | inl less ↦ inl (omega (arith, less))
      | inr is ↦ inr (ap suc is)
    ]

-- ---- what such an end shows

record NoLimit (end : Option End) : Type 0 where
  pages : is_pages end ≡ false
  steps : is_steps end ≡ false

module _ (tables : List Contents) (one : Asked) (b : Standing) (k : ℕ) (block : List ℕ) where
  abbrev out : Outcome
  out = whole_outcome one.whole (rows_in_tables tables)

  tells_end : (end : Option End) → NoLimit end → ShowsEnd tables one b k end block → TellsOutcome out one.header one.keys k block
  tells_end None free shows = absurd shows
  tells_end (Some EndedDone) free (bag, rows, printed, is, same, found, sorted, text) =
      subst (λ (o : Outcome). TellsOutcome o one.header one.keys k block) (sym is) (printed, IsPermutation-trans bag rows printed same sorted.arranged, sorted.ordered, text)
  tells_end (Some (Exception code)) free (codes, other, is, among, code_is, text) = subst (λ (o : Outcome). TellsOutcome o one.header one.keys k block) (sym is) (other, among, text)
  tells_end (Some (Pages held asked limit)) free shows = absurd (let p = free.pages in cc)
  tells_end (Some (Steps limit)) free shows = absurd (let p = free.steps in cc)
  tells_end (Some Trap) free shows = absurd shows

  none_raised : (end : Option End) → NoLimit end → is_exception end ≡ false → ShowsEnd tables one b k end block → is_raised out ≡ false
  none_raised None free quiet shows = absurd shows
  none_raised (Some EndedDone) free quiet (bag, rows, printed, is, same, found, sorted, text) = ap is_raised is
  none_raised (Some (Exception code)) free quiet shows = absurd cc
  none_raised (Some (Pages held asked limit)) free quiet shows = absurd (let p = free.pages in cc)
  none_raised (Some (Steps limit)) free quiet shows = absurd (let p = free.steps in cc)
  none_raised (Some Trap) free quiet shows = absurd shows

module _ (tables : List Contents) (b : Standing) where
  tells_ends : (counts : Bool) (queries : List Asked) (k : ℕ) (report : List ℕ) → ((n j : ℕ) → n ≡ k + j → j < length queries → NoLimit (end_in b.shared n)) →
      ShowsEnds counts tables queries b k report → TellsOutcomes counts (rows_in_tables tables) queries b k report
  tells_ends counts [] k report free shows = shows
  tells_ends counts (one ∷ queries) k report free (block, blocks, is, first, more) = (
    block,
    blocks,
    is,
    tells_end tables one b k block (end_in b.shared k) (free k 0 (omega arith) (omega arith)) first,
    tells_ends counts queries (suc k) blocks (λ n j n_is within. free n (suc j) (omega (arith, n_is)) (omega (arith, within))) more,
  )

  none_raise : (counts : Bool) (queries : List Asked) (k : ℕ) (report : List ℕ) →
      ((n j : ℕ) → n ≡ k + j → j < length queries → NoLimit (end_in b.shared n) × (is_exception (end_in b.shared n) ≡ false)) →
      ShowsEnds counts tables queries b k report → list_any (λ (one : Asked). is_raised (whole_outcome one.whole (rows_in_tables tables))) queries ≡ false
  none_raise counts [] k report free shows = refl
  none_raise counts (one ∷ queries) k report free (block, blocks, is, first, more) =
      let here = free k 0 (omega arith) (omega arith) in
      rw (none_raised tables one b k block (end_in b.shared k) here.0 here.1 first)
      (none_raise counts queries (suc k) blocks (λ n j n_is within. free n (suc j) (omega (arith, n_is)) (omega (arith, within))) more)

-- one that raises is among them
one_raises : (tables : List (List (List Val))) (queries : List Asked) (one : Asked) → Contains queries one → is_raised (whole_outcome one.whole tables) ≡ true →
    list_any (λ (other : Asked). is_raised (whole_outcome other.whole tables)) queries ≡ true
one_raises tables [] one among raised = absurd (omega (arith, among.1))
one_raises tables (first ∷ queries) one (zero, within, is) raised =
    let here : is_raised (whole_outcome first.whole tables) ≡ true = subst (λ (q : Asked). is_raised (whole_outcome q.whole tables) ≡ true) (sym is) raised in
    rw here refl
one_raises tables (first ∷ queries) one (suc n, within, is) raised = or_last (is_raised (whole_outcome first.whole tables)) (one_raises tables queries one (n, omega (arith, within), is) raised)
  where
    or_last : (a : Bool) {b : Bool} → b ≡ true → (a || b) ≡ true
    or_last true is = refl
    or_last false is = is

-- ---- the end of a run

module _ (limits : Limits) (quantum : ℕ) (tables : List Contents) (queries : List Asked) (b : Standing) (run : HasRun limits quantum tables queries b)
    (enough : IsEnough limits (rows_in_tables tables) queries b) where
  abbrev all_ends : List (Option End)
  all_ends = ends_below b (length queries)

  met_none : (list_any is_pages all_ends ≡ false) × (list_any is_steps all_ends ≡ false) × (status_of_ends all_ends ≡ (if list_any is_exception all_ends then Raised else Done))
  met_none = no_limit (list_any is_pages all_ends) (list_any is_steps all_ends) (list_any is_exception all_ends)
      (no_pages_met limits quantum tables queries b run enough) (no_steps_met limits quantum tables queries b run enough)

  no_limit_at : (k : ℕ) → k < length queries → NoLimit (end_in b.shared k)
  no_limit_at k within = record {
    pages = none_below is_pages b (length queries) k met_none.0 within;
    steps = none_below is_steps b (length queries) k met_none.1 within;
  }

  tells_run : (counts : Bool) (report : List ℕ) → ShowsEnds counts tables queries b 0 report → TellsOutcomes counts (rows_in_tables tables) queries b 0 report
  tells_run counts report shows =
      tells_ends tables b counts queries 0 report (λ n j n_is within. no_limit_at n (omega (arith, n_is, within))) shows

  meant : (counts : Bool) (report : List ℕ) → ShowsEnds counts tables queries b 0 report → status_of_ends all_ends ≡ status_meant (rows_in_tables tables) queries
  meant counts report shows = by_exception (list_any is_exception all_ends) refl
    where
      raises : Bool
      raises = list_any (λ (one : Asked). is_raised (whole_outcome one.whole (rows_in_tables tables))) queries

      by_exception : (c : Bool) → list_any is_exception all_ends ≡ c → status_of_ends all_ends ≡ status_meant (rows_in_tables tables) queries
      by_exception true is =
          let status : status_of_ends all_ends ≡ Raised = met_none.2 ∙ ap (λ (c : Bool). if c then Raised else Done) is in
          let one = exception_raised limits quantum tables queries b run status in
          let raised = one_raises (rows_in_tables tables) queries one.0 one.1 (ap is_raised one.2.1) in
          status ∙ sym (ap (λ (c : Bool). if c then Raised else Done) raised)
      by_exception false is =
          let none = none_raise tables b counts queries 0 report
          (λ n j n_is within. (no_limit_at n (omega (arith, n_is, within)), none_below is_exception b (length queries) n is (omega (arith, n_is, within)))) shows in
          met_none.2 ∙ ap (λ (c : Bool). if c then Raised else Done) is ∙ sym (ap (λ (c : Bool). if c then Raised else Done) none)

-- ---- of told files

reported_left : (options : RunOptions) (files : Files) (names : Names) (result : Status) (kept : Option Standing) (old new : Option (List ℕ)) → IsReported result →
    RunLeaves options files names result kept old new → LeavesReport options files names result kept old new
reported_left options files names Done kept old new r left = left
reported_left options files names Raised kept old new r left = left
reported_left options files names PageLimitMet kept old new r left = left
reported_left options files names StepLimitMet kept old new r left = left
reported_left options files names WordsRefused kept old new r left = absurd r
reported_left options files names SchemaRefused kept old new r left = absurd r
reported_left options files names TableFileRefused kept old new r left = absurd r
reported_left options files names QueriesRefused kept old new r left = absurd r
reported_left options files names TotalPages kept old new r left = absurd r
reported_left options files names ReadFailed kept old new r left = absurd r
reported_left options files names WriteFailed kept old new r left = absurd r
reported_left options files names NoMemory kept old new r left = absurd r

-- a report that was written tells what the queries mean that it was made of
report_meant : (options : RunOptions) (files : Files) (names : Names) (result status : Status) (kept : Option Standing) (old new : Option (List ℕ)) (b : Standing) (report : List ℕ)
    (r : Reports options files names b report status) → status ≡ result → kept ≡ Some b → new ≡ with_text old report →
    AreEnough (limits_of options) (rows_in_tables r.tables) r.queries kept → EndsAsMeant options.counts (rows_in_tables r.tables) r.queries result kept old new
report_meant options files names result status kept old new b report r same kept_is took are =
    let enough = enough_of (limits_of options) options.quantum r.tables r.queries b r.run kept kept_is are in
    record {
      status = sym same ∙ r.status_is ∙ meant (limits_of options) options.quantum r.tables r.queries b r.run enough options.counts report r.shows;
      bench = b;
      there = kept_is;
      report = report;
      tells = tells_run (limits_of options) options.quantum r.tables r.queries b r.run enough options.counts report r.shows;
      written = took;
    }

module _ (options : RunOptions) (files : Files) (names : Names) (kept : Option Standing) (result : Status) (old new : Option (List ℕ)) (told : List ℕ → Option (List ℕ))
    (schema : List Table) (tables : List Contents) (queries : List Asked) (is : files ≡ Some told) (asks : HasQueries (Some told) names schema tables queries) where
  pub ends_as_meant : RunExplains (limits_of options) files names kept result → RunLeaves options files names result kept old new → HaveRoom (limits_of options) tables queries →
      AreEnough (limits_of options) (rows_in_tables tables) queries kept → EndsAsMeant options.counts (rows_in_tables tables) queries result kept old new ⊎ IsFault result
  ends_as_meant why left room enough =
      elim (runs_explained (limits_of options) files names kept result why told schema tables queries is asks room) [
        | inl reported ↦ inl (by_left (reported_left options (Some told) names result kept old new reported (subst (λ (f : Files). RunLeaves options f names result kept old new) is left)))
        | inr fault ↦ inr fault
      ]
    where
      by_left : LeavesReport options (Some told) names result kept old new → EndsAsMeant options.counts (rows_in_tables tables) queries result kept old new
      by_left (b, report, status, kept_is, r, (same, took)) =
          let e = HasQueries-unique told names schema r.schema tables r.tables queries r.queries asks r.asks in
          let here : AreEnough (limits_of options) (rows_in_tables r.tables) r.queries kept =
          subst (λ (t : List Contents). AreEnough (limits_of options) (rows_in_tables t) r.queries kept) e.1 (subst (λ (qs : List Asked). AreEnough (limits_of options) (rows_in_tables tables) qs kept) e.2 enough) in
          subst (λ (t : List Contents). EndsAsMeant options.counts (rows_in_tables t) queries result kept old new) (sym e.1)
          (subst (λ (qs : List Asked). EndsAsMeant options.counts (rows_in_tables r.tables) qs result kept old new) (sym e.2)
          (report_meant options (Some told) names result status kept old new b report r same kept_is took here))
