-- That words and told files settle one cause, and which ends they explain beside it.
use Rattle.std.proofs.Common.{◌≡◌, ◌⊎◌, ℕ, ◌<◌, List, ◌∷◌, ◌++◌, Option, Some, inl, inr, refl, sym, subst, ap, ◌∙◌, arith}
use Rattle.std.specs.Prelude.{◌≤◌, slice_get}
use Rattle.std.specs.List.{AllByRecursion}
use Rattle.qw_types.specs.Contents.{Contents}
use Rattle.qw_types.specs.declared.schema.Table.{Table}
use Rattle.qw_linear.specs.Memory.{most_pages}
use Rattle.qw_types.specs.declared.code.Code.{Code}
use Rattle.qw_meaning.specs.Outcome.{Raises}
use Rattle.qw_grouped.specs.Whole.{whole_outcome}
use Rattle.qw_whole.specs.WholePromises.{whole_pages}
use Rattle.qw_bench.specs.Bench.{rows_in_tables}
use Rattle.qw_bench.specs.Standing.{Standing, total_pages as pages_in_all}
use Rattle.std.proofs.lemmas.Option.{same_Some}
use Rattle.qw_bench.specs.declared.bench.Limits.{Limits}
use Rattle.qw_top.specs.Causes.{AreOne, Cause, words_refused, number_out_of_range, schema_too_long, schema_refused, table_too_long, table_refused, queries_too_long, queries_refused, queries_mistyped, no_statement, module_too_long, module_refused, total_pages, status_of_cause}
use Rattle.qw_top.specs.Top.{Asked, AsksOne, Files, FilesSettle, HasQueries, HasTables, HaveRoom, IsEnough, IsFault, IsNextTable, IsPastSteps, IsRefusal, IsReported, Names, RaisesNothing, RunExplains, same_limits}
use Rattle.qw_top.specs.Inner.Inputs.{IsNoSchema, IsNoScript, IsNoTable}
use Rattle.qw_top.specs.declared.status.Status.{Status}
use Rattle.qw_top.specs.declared.status.Status.TheVariants.{Done, WordsRefused, SchemaRefused, TableFileRefused, QueriesRefused, ReadFailed, WriteFailed, Raised, PageLimitMet, StepLimitMet, TotalPages, NoMemory}
use Rattle.qw_top.proofs.ContentLemmas.{HasQueries-unique, HasTables-unique, IsNoSchema-unique, IsNoScript-one, IsNoTable-unique, QueriesAre-refused, SchemaIs-refused, next_accepted, one_refused}
use Rattle.qw_top.proofs.EachLemmas.{all_contains}

-- ---- where the files settle a cause

-- at the schema file, at a table's, at the queries file, or at none of them
pub data SettlesAt (limits : Limits) (files : Files) (names : Names) (cause : Cause) : Type 0 where
  at_schema : IsNoSchema files names.schema cause → SettlesAt limits files names cause
  at_table : (table : Table) → IsNextTable files names table → IsNoTable files names table cause → SettlesAt limits files names cause
  at_queries : (schema : List Table) (tables : List Contents) → HasTables files names schema tables → IsNoScript files names.queries schema cause → SettlesAt limits files names cause
  at_pages : (schema : List Table) (tables : List Contents) (queries : List Asked) (need : ℕ) → HasQueries files names schema tables queries →
      cause ≡ total_pages need → need ≡ pages_in_all tables (same_limits limits queries) → most_pages < need → SettlesAt limits files names cause

module _ (limits : Limits) (files : Files) (names : Names) where
  settled_at : (cause : Cause) → FilesSettle limits files names cause → SettlesAt limits files names cause
  settled_at schema_too_long long = at_schema (inl (refl, long))
  settled_at (schema_refused fault) (text, file, refused) = at_schema (inr (fault, text, refl, file, refused))
  settled_at (table_too_long table number) (next, (part, is, long)) = at_table table next (inl (part, ap (table_too_long table) is, long))
  settled_at (table_refused table number fault) (next, (part, is, faulty)) =
      at_table table next (inr (part, fault, ap (λ (n : Option ℕ). table_refused table n fault) is, faulty))
  settled_at queries_too_long (schema, tables, held, long) = at_queries schema tables held (inl (refl, long))
  settled_at (queries_refused fault) (schema, tables, text, held, file, refused) = at_queries schema tables held (inr (inl (fault, text, refl, file, refused)))
  settled_at (queries_mistyped fault) (schema, tables, text, held, file, mistyped) = at_queries schema tables held (inr (inr (fault, text, refl, file, mistyped)))
  settled_at (total_pages need) (schema, tables, queries, held, is, large) = at_pages schema tables queries need held refl is large
  settled_at _ h = absurd h

  pub schema_settles : (cause : Cause) → IsNoSchema files names.schema cause → FilesSettle limits files names cause
  schema_settles cause (inl (is, long)) = subst (FilesSettle limits files names) (sym is) long
  schema_settles cause (inr (fault, text, is, file, refused)) = subst (FilesSettle limits files names) (sym is) (text, file, refused)

  pub table_settles : (table : Table) (cause : Cause) → IsNextTable files names table → IsNoTable files names table cause → FilesSettle limits files names cause
  table_settles table cause next (inl (part, is, long)) = subst (FilesSettle limits files names) (sym is) (next, (part, refl, long))
  table_settles table cause next (inr (part, fault, is, faulty)) = subst (FilesSettle limits files names) (sym is) (next, (part, refl, faulty))

  pub queries_settle : (schema : List Table) (tables : List Contents) (cause : Cause) → HasTables files names schema tables → IsNoScript files names.queries schema cause → FilesSettle limits files names cause
  queries_settle schema tables cause held (inl (is, long)) = subst (FilesSettle limits files names) (sym is) (schema, tables, held, long)
  queries_settle schema tables cause held (inr (inl (fault, text, is, file, refused))) = subst (FilesSettle limits files names) (sym is) (schema, tables, text, held, file, refused)
  queries_settle schema tables cause held (inr (inr (fault, text, is, file, mistyped))) = subst (FilesSettle limits files names) (sym is) (schema, tables, text, held, file, mistyped)

-- ---- one cause

module _ (limits : Limits) (told : List ℕ → Option (List ℕ)) (names : Names) where
  -- a schema file that is refused, beside a cause that another file or none settles
  schema_first : (cause other : Cause) → IsNoSchema (Some told) names.schema cause → SettlesAt limits (Some told) names other → cause ≡ other
  schema_first cause other none (at_schema none') = IsNoSchema-unique told names.schema cause other none none'
  schema_first cause other none (at_table table next _) = absurd (SchemaIs-refused told names.schema (next.before ++ table ∷ next.behind) cause next.declared none)
  schema_first cause other none (at_queries schema tables held _) = absurd (SchemaIs-refused told names.schema schema cause held.declared none)
  schema_first cause other none (at_pages schema tables queries need held _ _ _) = absurd (SchemaIs-refused told names.schema schema cause held.before.declared none)

  -- a table's file
  table_first : (table : Table) (cause other : Cause) → IsNextTable (Some told) names table → IsNoTable (Some told) names table cause → SettlesAt limits (Some told) names other → cause ≡ other
  table_first table cause other next none (at_schema none') = absurd (SchemaIs-refused told names.schema (next.before ++ table ∷ next.behind) other next.declared none')
  table_first table cause other next none (at_table table' next' none') =
      let e = one_refused told names table table' cause other next next' none none' in
      IsNoTable-unique told names table' cause other (subst (λ (t : Table). IsNoTable (Some told) names t cause) e none) none'
  table_first table cause other next none (at_queries schema tables held _) = absurd (next_accepted told names table schema tables cause next held none)
  table_first table cause other next none (at_pages schema tables queries need held _ _ _) = absurd (next_accepted told names table schema tables cause next held.before none)

  -- the queries file
  queries_first : (schema : List Table) (tables : List Contents) (cause other : Cause) → HasTables (Some told) names schema tables → IsNoScript (Some told) names.queries schema cause → SettlesAt limits (Some told) names other → AreOne cause other
  queries_first schema tables cause other held none (at_schema none') = absurd (SchemaIs-refused told names.schema schema other held.declared none')
  queries_first schema tables cause other held none (at_table table next none') = absurd (next_accepted told names table schema tables other next held none')
  queries_first schema tables cause other held none (at_queries schema' tables' held' none') =
      let e = HasTables-unique told names schema schema' tables tables' held held' in
      IsNoScript-one told names.queries schema' cause other (subst (λ (s : List Table). IsNoScript (Some told) names.queries s cause) e.0 none) none'
  queries_first schema tables cause other held none (at_pages schema' tables' queries need held' _ _ _) =
      let e = HasTables-unique told names schema schema' tables tables' held held'.before in
      absurd (QueriesAre-refused told names.queries schema' queries cause held'.asked (subst (λ (s : List Table). IsNoScript (Some told) names.queries s cause) e.0 none))

  -- and none
  pages_first : (schema : List Table) (tables : List Contents) (queries : List Asked) (need : ℕ) (cause other : Cause) → HasQueries (Some told) names schema tables queries →
      cause ≡ total_pages need → need ≡ pages_in_all tables (same_limits limits queries) → SettlesAt limits (Some told) names other → cause ≡ other
  pages_first schema tables queries need cause other held is needed (at_schema none) = absurd (SchemaIs-refused told names.schema schema other held.before.declared none)
  pages_first schema tables queries need cause other held is needed (at_table table next none) = absurd (next_accepted told names table schema tables other next held.before none)
  pages_first schema tables queries need cause other held is needed (at_queries schema' tables' held' none) =
      let e = HasTables-unique told names schema' schema tables' tables held' held.before in
      absurd (QueriesAre-refused told names.queries schema queries other held.asked (subst (λ (s : List Table). IsNoScript (Some told) names.queries s other) e.0 none))
  pages_first schema tables queries need cause other held is needed (at_pages schema' tables' queries' need' held' is' needed' _) =
      let e = HasQueries-unique told names schema schema' tables tables' queries queries' held held' in
      let pages : pages_in_all tables (same_limits limits queries) ≡ pages_in_all tables' (same_limits limits queries') =
      ap (λ (t : List Contents). pages_in_all t (same_limits limits queries)) e.1 ∙ ap (λ (q : List Asked). pages_in_all tables' (same_limits limits q)) e.2 in
      is ∙ ap total_pages (needed ∙ pages ∙ sym needed') ∙ sym is'

  one_at : (cause other : Cause) → SettlesAt limits (Some told) names cause → SettlesAt limits (Some told) names other → AreOne cause other
  one_at cause other (at_schema none) k = inl (schema_first cause other none k)
  one_at cause other (at_table table next none) k = inl (table_first table cause other next none k)
  one_at cause other (at_queries schema tables held none) k = queries_first schema tables cause other held none k
  one_at cause other (at_pages schema tables queries need held is needed _) k = inl (pages_first schema tables queries need cause other held is needed k)

  -- files that ask for queries with room for them settle no cause
  none_settled : (schema : List Table) (tables : List Contents) (queries : List Asked) (cause : Cause) → HasQueries (Some told) names schema tables queries → HaveRoom limits tables queries →
      SettlesAt limits (Some told) names cause → ⊥
  none_settled schema tables queries cause held room (at_schema none) = SchemaIs-refused told names.schema schema cause held.before.declared none
  none_settled schema tables queries cause held room (at_table table next none) = next_accepted told names table schema tables cause next held.before none
  none_settled schema tables queries cause held room (at_queries schema' tables' held' none) =
      let e = HasTables-unique told names schema' schema tables' tables held' held.before in
      QueriesAre-refused told names.queries schema queries cause held.asked (subst (λ (s : List Table). IsNoScript (Some told) names.queries s cause) e.0 none)
  none_settled schema tables queries cause held room (at_pages schema' tables' queries' need' held' is' needed' large) =
      let e = HasQueries-unique told names schema schema' tables tables' queries queries' held held' in
      let pages : pages_in_all tables (same_limits limits queries) ≡ pages_in_all tables' (same_limits limits queries') =
      ap (λ (t : List Contents). pages_in_all t (same_limits limits queries)) e.1 ∙ ap (λ (q : List Asked). pages_in_all tables' (same_limits limits q)) e.2 in
      omega (arith, room, pages, needed', large)

-- ---- told files

module _ (limits : Limits) (told : List ℕ → Option (List ℕ)) (names : Names) where
  pub one_settled : (cause other : Cause) → FilesSettle limits (Some told) names cause → FilesSettle limits (Some told) names other → AreOne cause other
  one_settled cause other h k = one_at limits told names cause other (settled_at limits (Some told) names cause h) (settled_at limits (Some told) names other k)

  -- where they ask for queries with room for them, they settle no cause
  pub asked_settles_none : (schema : List Table) (tables : List Contents) (queries : List Asked) (cause : Cause) → HasQueries (Some told) names schema tables queries → HaveRoom limits tables queries →
      FilesSettle limits (Some told) names cause → ⊥
  asked_settles_none schema tables queries cause held room h = none_settled limits told names schema tables queries cause held room (settled_at limits (Some told) names cause h)

-- causes that are one have one status
pub one_status : (cause other : Cause) → AreOne cause other → status_of_cause cause ≡ status_of_cause other
one_status cause other (inl is) = ap status_of_cause is
one_status cause other (inr both) = rw (both.cause_is, both.other_is) refl

-- ---- kinds of ends

pub cause_is_refusal : (cause : Cause) → IsRefusal (status_of_cause cause)
cause_is_refusal words_refused = tt
cause_is_refusal (number_out_of_range number) = tt
cause_is_refusal schema_too_long = tt
cause_is_refusal (schema_refused fault) = tt
cause_is_refusal (table_too_long table number) = tt
cause_is_refusal (table_refused table number fault) = tt
cause_is_refusal queries_too_long = tt
cause_is_refusal (queries_refused fault) = tt
cause_is_refusal (queries_mistyped fault) = tt
cause_is_refusal (no_statement statement) = tt
cause_is_refusal module_too_long = tt
cause_is_refusal (module_refused fault) = tt
cause_is_refusal (total_pages need) = tt

pub kind_of_end : (status : Status) → IsRefusal status ⊎ IsFault status ⊎ IsReported status
kind_of_end WordsRefused = inl tt
kind_of_end SchemaRefused = inl tt
kind_of_end TableFileRefused = inl tt
kind_of_end QueriesRefused = inl tt
kind_of_end TotalPages = inl tt
kind_of_end ReadFailed = inr (inl tt)
kind_of_end WriteFailed = inr (inl tt)
kind_of_end NoMemory = inr (inl tt)
kind_of_end Done = inr (inr tt)
kind_of_end Raised = inr (inr tt)
kind_of_end PageLimitMet = inr (inr tt)
kind_of_end StepLimitMet = inr (inr tt)

pub kinds_apart : (status : Status) → (IsRefusal status → IsFault status → ⊥) × (IsRefusal status → IsReported status → ⊥) × (IsFault status → IsReported status → ⊥)
kinds_apart WordsRefused = ((λ r f. f), (λ r e. e), (λ f e. e))
kinds_apart SchemaRefused = ((λ r f. f), (λ r e. e), (λ f e. e))
kinds_apart TableFileRefused = ((λ r f. f), (λ r e. e), (λ f e. e))
kinds_apart QueriesRefused = ((λ r f. f), (λ r e. e), (λ f e. e))
kinds_apart TotalPages = ((λ r f. f), (λ r e. e), (λ f e. e))
kinds_apart ReadFailed = ((λ r f. r), (λ r e. r), (λ f e. e))
kinds_apart WriteFailed = ((λ r f. r), (λ r e. r), (λ f e. e))
kinds_apart NoMemory = ((λ r f. r), (λ r e. r), (λ f e. e))
kinds_apart Done = ((λ r f. r), (λ r e. r), (λ f e. f))
kinds_apart Raised = ((λ r f. r), (λ r e. r), (λ f e. f))
kinds_apart PageLimitMet = ((λ r f. r), (λ r e. r), (λ f e. f))
kinds_apart StepLimitMet = ((λ r f. r), (λ r e. r), (λ f e. f))

-- ---- the ends that are explained

-- a refusal that is explained is that of a cause
pub refusal_settled : (limits : Limits) (files : Files) (names : Names) (kept : Option Standing) (status : Status) → IsRefusal status → RunExplains limits files names kept status →
    (cause : Cause) × FilesSettle limits files names cause × (status ≡ status_of_cause cause)
refusal_settled limits files names kept WordsRefused r why = why
refusal_settled limits files names kept SchemaRefused r why = why
refusal_settled limits files names kept TableFileRefused r why = why
refusal_settled limits files names kept QueriesRefused r why = why
refusal_settled limits files names kept TotalPages r why = why
refusal_settled limits files names kept ReadFailed r why = absurd r
refusal_settled limits files names kept WriteFailed r why = absurd r
refusal_settled limits files names kept NoMemory r why = absurd r
refusal_settled limits files names kept Done r why = absurd r
refusal_settled limits files names kept Raised r why = absurd r
refusal_settled limits files names kept PageLimitMet r why = absurd r
refusal_settled limits files names kept StepLimitMet r why = absurd r

-- and back
pub settled_explains : (limits : Limits) (files : Files) (names : Names) (kept : Option Standing) (cause : Cause) → FilesSettle limits files names cause → RunExplains limits files names kept (status_of_cause cause)
settled_explains limits files names kept schema_too_long h = (schema_too_long, h, refl)
settled_explains limits files names kept (schema_refused fault) h = (schema_refused fault, h, refl)
settled_explains limits files names kept (table_too_long table number) h = (table_too_long table number, h, refl)
settled_explains limits files names kept (table_refused table number fault) h = (table_refused table number fault, h, refl)
settled_explains limits files names kept queries_too_long h = (queries_too_long, h, refl)
settled_explains limits files names kept (queries_refused fault) h = (queries_refused fault, h, refl)
settled_explains limits files names kept (queries_mistyped fault) h = (queries_mistyped fault, h, refl)
settled_explains limits files names kept (total_pages need) h = (total_pages need, h, refl)
settled_explains limits files names kept _ h = absurd h

-- an end whose queries were executed asks for them, with room
pub reported_asks : (limits : Limits) (files : Files) (names : Names) (kept : Option Standing) (status : Status) → IsReported status → RunExplains limits files names kept status →
    (schema : List Table) × (tables : List Contents) × (queries : List Asked) × HasQueries files names schema tables queries × HaveRoom limits tables queries
reported_asks limits files names kept Done r why = why
reported_asks limits files names kept Raised r (schema, tables, queries, one, asks, room, _, _) = (schema, tables, queries, asks, room)
reported_asks limits files names kept PageLimitMet r (schema, tables, queries, one, asks, room, _, _) = (schema, tables, queries, asks, room)
reported_asks limits files names kept StepLimitMet r (b, kept_is, schema, tables, queries, k, one, asks, room, _, _) = (schema, tables, queries, asks, room)
reported_asks limits files names kept WordsRefused r why = absurd r
reported_asks limits files names kept SchemaRefused r why = absurd r
reported_asks limits files names kept TableFileRefused r why = absurd r
reported_asks limits files names kept QueriesRefused r why = absurd r
reported_asks limits files names kept TotalPages r why = absurd r
reported_asks limits files names kept ReadFailed r why = absurd r
reported_asks limits files names kept WriteFailed r why = absurd r
reported_asks limits files names kept NoMemory r why = absurd r

-- beside a cause that is settled comes its status or a fault
pub settled_ends : (limits : Limits) (told : List ℕ → Option (List ℕ)) (names : Names) (cause : Cause) (kept : Option Standing) (status : Status) →
    FilesSettle limits (Some told) names cause → RunExplains limits (Some told) names kept status → (status ≡ status_of_cause cause) ⊎ IsFault status
settled_ends limits told names cause kept status h why =
    elim (kind_of_end status) [
      | inl refusal ↦
          let other = refusal_settled limits (Some told) names kept status refusal why in
          inl (other.2 ∙ one_status other.0 cause (one_settled limits told names other.0 cause other.1 h))
      | inr (inl fault) ↦ inr fault
      | inr (inr reported) ↦
          let asked = reported_asks limits (Some told) names kept status reported why in
          absurd (asked_settles_none limits told names asked.0 asked.1 asked.2 cause asked.3 asked.4 h)
    ]

-- a fault of the outside and want of memory are explained
pub fault_explains : (limits : Limits) (files : Files) (names : Names) (kept : Option Standing) (status : Status) → IsFault status → RunExplains limits files names kept status
fault_explains limits files names kept ReadFailed f = tt
fault_explains limits files names kept WriteFailed f = tt
fault_explains limits files names kept NoMemory f = tt
fault_explains limits files names kept _ f = absurd f

-- ---- what a run promises of told files

module _ (limits : Limits) (files : Files) (names : Names) (kept : Option Standing) (result : Status) (why : RunExplains limits files names kept result) where
  pub exactly_explained : (told : List ℕ → Option (List ℕ)) (cause : Cause) → files ≡ Some told → FilesSettle limits (Some told) names cause → (result ≡ status_of_cause cause) ⊎ IsFault result
  exactly_explained told cause is h = settled_ends limits told names cause kept result h (subst (λ (f : Files). RunExplains limits f names kept result) is why)

  pub runs_explained : (told : List ℕ → Option (List ℕ)) (schema : List Table) (tables : List Contents) (queries : List Asked) → files ≡ Some told →
      HasQueries (Some told) names schema tables queries → HaveRoom limits tables queries → IsReported result ⊎ IsFault result
  runs_explained told schema tables queries is asks room =
      elim (kind_of_end result) [
        | inl refusal ↦
            let other = refusal_settled limits (Some told) names kept result refusal (subst (λ (f : Files). RunExplains limits f names kept result) is why) in
            absurd (asked_settles_none limits told names schema tables queries other.0 asks room other.1)
        | inr (inl fault) ↦ inr fault
        | inr (inr reported) ↦ inl reported
      ]

module _ (limits : Limits) (told : List ℕ → Option (List ℕ)) (names : Names) (schema : List Table) (tables : List Contents) (queries : List Asked)
    (asks : HasQueries (Some told) names schema tables queries) where
  -- what holds of each query holds of the one that they ask for
  asked_one : (P Q : List Contents → Asked → Type 0) → ((one : Asked) → P tables one → Q tables one → ⊥) → AllByRecursion (P tables) queries → AsksOne limits (Some told) names Q → ⊥
  asked_one P Q apart all (schema', tables', queries', one, asks', room, among, holds) =
      let e = HasQueries-unique told names schema schema' tables tables' queries queries' asks asks' in
      let here : AllByRecursion (P tables) queries' = subst (λ (qs : List Asked). AllByRecursion (P tables) qs) e.2 all in
      apart one (all_contains (P tables) queries' one here among) (subst (λ (t : List Contents). Q t one) (sym e.1) holds)

  pub pages_enough : (b : Standing) (kept : Option Standing) → IsEnough limits (rows_in_tables tables) queries b → RunExplains limits (Some told) names kept PageLimitMet → ⊥
  pages_enough b kept enough met = asked_one (λ t one. whole_pages one.whole (rows_in_tables t) ≤ limits.pages) (λ t one. limits.pages < whole_pages one.whole (rows_in_tables t))
      (λ one within above. omega (arith, within, above)) enough.pages met

  pub steps_enough : (b : Standing) (kept : Option Standing) → kept ≡ Some b → IsEnough limits (rows_in_tables tables) queries b → RunExplains limits (Some told) names kept StepLimitMet → ⊥
  steps_enough b kept is enough (other, other_is, schema', tables', queries', k, one, asks', room, there, past) =
      let e = HasQueries-unique told names schema schema' tables tables' queries queries' asks asks' in
      let same : other ≡ b = same_Some other b (sym other_is ∙ is) in
      let here : IsPastSteps limits.steps (rows_in_tables tables) b k one =
      subst (λ (t : List Contents). IsPastSteps limits.steps (rows_in_tables t) b k one) (sym e.1) (subst (λ (x : Standing). IsPastSteps limits.steps (rows_in_tables tables') x k one) same past) in
      let found : slice_get queries k ≡ Some one = subst (λ (qs : List Asked). slice_get qs k ≡ Some one) (sym e.2) there in
      let within = enough.steps k here.number one here.task found here.there here.shaped in
      let above = here.past in
      omega (arith, within, above)

  pub raises_nothing : (kept : Option Standing) → AllByRecursion (RaisesNothing (rows_in_tables tables)) queries → RunExplains limits (Some told) names kept Raised → ⊥
  raises_nothing kept none raised = asked_one (λ t one. RaisesNothing (rows_in_tables t) one) (λ t one. (codes : List Code) × (whole_outcome one.whole (rows_in_tables t) ≡ Raises codes))
      (λ one is out. is out.0 out.1) none raised

module _ (limits : Limits) (files : Files) (names : Names) (kept : Option Standing) (result : Status) (why : RunExplains limits files names kept result) (told : List ℕ → Option (List ℕ)) (schema : List Table)
    (tables : List Contents) (queries : List Asked) (is : files ≡ Some told) (asks : HasQueries (Some told) names schema tables queries) where
  abbrev here : RunExplains limits (Some told) names kept result
  here = subst (λ (f : Files). RunExplains limits f names kept result) is why

  pub enough_explained : (b : Standing) → kept ≡ Some b → IsEnough limits (rows_in_tables tables) queries b → (result ≡ PageLimitMet → ⊥) × (result ≡ StepLimitMet → ⊥)
  enough_explained b kept_is enough = (
    (λ same. pages_enough limits told names schema tables queries asks b kept enough (subst (λ (s : Status). RunExplains limits (Some told) names kept s) same here)),
    (λ same. steps_enough limits told names schema tables queries asks b kept kept_is enough (subst (λ (s : Status). RunExplains limits (Some told) names kept s) same here)),
  )

  pub plain_explained : AllByRecursion (RaisesNothing (rows_in_tables tables)) queries → result ≡ Raised → ⊥
  plain_explained none same = raises_nothing limits told names schema tables queries asks kept none (subst (λ (s : Status). RunExplains limits (Some told) names kept s) same here)
