-- That queries over the schema can be compiled and begun over the tables' rows, and that turns run them to their ends.
use Rattle.std.proofs.Common.{◌≡◌, ℕ, zero, suc, ◌≤◌, List, [], ◌∷◌, refl, length, ap, ◌∙◌, arith, map}
use Rattle.std.specs.Prelude.{◌++◌, IsSome, replicate}
use Rattle.std.specs.List.{AllByRecursion, AllZip}
use Rattle.qw_types.specs.Contents.{Contents}
use Rattle.qw_types.specs.Limits.{most_tables}
use Rattle.qw_types.specs.declared.schema.Table.{Table}
use Rattle.qw_csv.proofs.ColumnLaws.{parts_of_columns}
use Rattle.qw_meaning.specs.Select.{AreOfEntries, entries_of}
use Rattle.qw_grouped.specs.Whole.{sources_in}
use Rattle.qw_schema.proofs.SchemaLemmas.{ReadsSchema-tables}
use Rattle.qw_map.specs.Turns.{Act, EachInstance, turns}
use Rattle.qw_map.proofs.TurnFacts.{found-in as there}
use Rattle.qw_typer.specs.declared.query.TypedQuery.{TypedQuery}
use Rattle.qw_bench.specs.Bench.{AreRounds, AreServing, IsColumnIn, IsStart, Program, rows_in_tables}
use Rattle.qw_bench.specs.Standing.{Standing, AreLimits, AreTasksOf}
use Rattle.qw_bench.specs.declared.bench.Limits.{Limits}
use Rattle.qw_bench.proofs.Serving.{turns-serving}
use Rattle.qw_bench.proofs.Starting.{start-serving}
use Rattle.qw_top.specs.Delivered.{HasRun, IsProgramOf}
use Rattle.qw_top.specs.Top.{Asked, Files, HasQueries, HaveRoom, Names, TablesAre, same_limits}
use Rattle.qw_top.specs.declared.stop.Stop.{Stop}
use Rattle.qw_top.specs.Inner.Queries.{IsJobOf, IsOver, asked_of}
use Rattle.qw_top.specs.Inner.Stages.{AreContentsOf, FilesStop, HasAsked, StopsToRun}
use Rattle.qw_top.proofs.EntryLemmas.{entries_loaded}
use Rattle.qw_top.proofs.RunLemmas.{end_is, many_tasks}
use Rattle.qw_top.proofs.StopLemmas.{run_stops}

-- ---- the rows that queries read

pub entries_read : (schema : List Table) (tables : List Contents) (queries : List TypedQuery) → AreContentsOf schema tables → AllByRecursion (IsOver schema) queries →
    AllByRecursion (λ (asked : Asked). AreOfEntries (entries_of (sources_in asked.whole.body)) (rows_in_tables tables)) (map asked_of queries)
entries_read schema tables [] are over = tt
entries_read schema tables (query ∷ queries) are over = (entries_loaded schema tables (entries_of (sources_in (asked_of query).whole.body)) are over.0.entries, entries_read schema tables queries are over.1)

-- ---- as many rows as tables

pub contents_of : (files : Files) (names : Names) (schema : List Table) (tables : List Contents) → TablesAre files names schema tables → AreContentsOf schema tables
contents_of files names [] [] are = tt
contents_of files names [] (one ∷ tables) are = are
contents_of files names (table ∷ schema) [] are = are
contents_of files names (table ∷ schema) (one ∷ tables) are = (
  record { columns = are.0.columns; few = are.0.loads.few; typed = parts_of_columns table names.null are.0.parts one.rows are.0.loads },
  contents_of files names schema tables are.1,
)

pub same_many : (schema : List Table) (tables : List Contents) → AreContentsOf schema tables → length tables ≡ length schema
same_many [] [] are = refl
same_many [] (one ∷ tables) are = absurd are
same_many (table ∷ schema) [] are = absurd are
same_many (table ∷ schema) (one ∷ tables) are = ap suc (same_many schema tables are.1)

pub few_tables : (files : Files) (names : Names) (schema : List Table) (tables : List Contents) (queries : List Asked) → HasQueries files names schema tables queries → length schema ≤ most_tables
few_tables files names schema tables queries held =
    (ReadsSchema-tables held.before.declared.text schema held.before.declared.reads).few

-- ---- turns from a start on, after which all instances have ended

pub HasRun-from : (limits : Limits) (quantum : ℕ) (tables : List Contents) (queries : List Asked) (programs : List Program) (before b : Standing) → HaveRoom limits tables queries →
    AllByRecursion (λ (asked : Asked). AreOfEntries (entries_of (sources_in asked.whole.body)) (rows_in_tables tables)) queries → AllZip IsProgramOf queries programs → AreTasksOf programs (same_limits limits queries) before.tasks → IsStart tables before.tasks before.shared → b.tasks ≡ before.tasks →
    ((given : List Act) × AreRounds quantum given before.shared × (b.shared ≡ turns given before.shared)) →
    EachInstance (λ instance. IsSome instance.end) b.shared → HasRun limits quantum tables queries b
HasRun-from limits quantum tables queries programs before b room read compiled tasks start same (given, rounds, turned) ended =
    let are : AreTasksOf programs (same_limits limits queries) b.tasks = rw same tasks in
    let began : IsStart tables b.tasks before.shared = rw same start in
    let serving : AreServing tables b.tasks b.shared = rw turned (turns-serving tables b.tasks before.shared (start-serving tables b.tasks before.shared began) given) in
    let many : length b.shared.instances ≡ length queries = serving.many ∙ many_tasks limits queries programs b.tasks compiled are in
    record {
      room = room;
      read = read;
      programs = programs;
      compiled = compiled;
      tasks = are;
      start = before.shared;
      began = began;
      given = given;
      rounds = rounds;
      turned = turned;
      ended = λ k within.
          let i = there b.shared.instances k (omega (arith, many, within)) in
          rw (end_is b.shared k i.0 i.1) (ended k i.0 i.1);
    }

-- ---- programs of queries

-- as many as queries
pub many_jobs : (schema : List Table) (queries : List TypedQuery) (jobs : List Program) → AllZip (IsJobOf schema) queries jobs → length jobs ≡ length queries
many_jobs schema [] [] are = refl
many_jobs schema [] (job ∷ jobs) are = absurd are
many_jobs schema (query ∷ queries) [] are = absurd are
many_jobs schema (query ∷ queries) (job ∷ jobs) are = ap suc (many_jobs schema queries jobs are.1)

pub jobs_compiled : (schema : List Table) (queries : List TypedQuery) (jobs : List Program) → AllZip (IsJobOf schema) queries jobs → AllZip IsProgramOf (map asked_of queries) jobs
jobs_compiled schema [] [] are = tt
jobs_compiled schema [] (job ∷ jobs) are = absurd are
jobs_compiled schema (query ∷ queries) [] are = absurd are
jobs_compiled schema (query ∷ queries) (job ∷ jobs) are = (are.0.compiled, jobs_compiled schema queries jobs are.1)

pub jobs_columns : (schema : List Table) (tables : List Contents) (queries : List TypedQuery) (jobs : List Program) → AreContentsOf schema tables → AllZip (IsJobOf schema) queries jobs →
    AllByRecursion (λ (job : Program). AllByRecursion (IsColumnIn tables) job.layout.columns) jobs
jobs_columns schema tables [] [] held are = tt
jobs_columns schema tables [] (job ∷ jobs) held are = absurd are
jobs_columns schema tables (query ∷ queries) [] held are = absurd are
jobs_columns schema tables (query ∷ queries) (job ∷ jobs) held are = (are.0.columns tables held, jobs_columns schema tables queries jobs held are.1)

-- one more
pub jobs_more : (schema : List Table) (queries : List TypedQuery) (jobs : List Program) (query : TypedQuery) (job : Program) → AllZip (IsJobOf schema) queries jobs → IsJobOf schema query job →
    AllZip (IsJobOf schema) (queries ++ query ∷ []) (jobs ++ job ∷ [])
jobs_more schema [] [] query job are is = (is, tt)
jobs_more schema [] (first ∷ jobs) query job are is = absurd are
jobs_more schema (first ∷ queries) [] query job are is = absurd are
jobs_more schema (first ∷ queries) (one ∷ jobs) query job are is = (are.0, jobs_more schema queries jobs query job are.1 is)

-- their limits
pub each_limits : (limits : Limits) (queries : List TypedQuery) → replicate (length queries) limits ≡ same_limits limits (map asked_of queries)
each_limits limits [] = refl
each_limits limits (query ∷ queries) = ap (λ (all : List Limits). limits ∷ all) (each_limits limits queries)

pub each_limit : (limits : Limits) (n : ℕ) → AreLimits limits → AllByRecursion AreLimits (replicate n limits)
each_limit limits zero are = tt
each_limit limits (suc n) are = (are, each_limit limits n are)

-- ---- from what was read to what was run

module _ (files : Files) (names : Names) (schema : List Table) (tables : List Contents) (queries : List Asked) (asks : HasQueries files names schema tables queries) where
  pub accepted_few : length schema ≤ most_tables
  accepted_few = few_tables files names schema tables queries asks

  pub accepted_contents : AreContentsOf schema tables
  accepted_contents = contents_of files names schema tables asks.before.loaded

  pub accepted_run : (limits : Limits) (quantum : ℕ) (b : Standing) → HasRun limits quantum tables queries b → HasAsked limits quantum files names queries b
  accepted_run limits quantum b run = record { schema = schema; tables = tables; asks = asks; run = run }

  pub accepted_stops : (limits : Limits) (stop : Stop) → StopsToRun limits tables queries stop → FilesStop limits files names stop
  accepted_stops limits stop stops = run_stops limits files names schema tables queries stop asks stops
