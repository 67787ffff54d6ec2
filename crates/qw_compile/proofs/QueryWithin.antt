-- The pipelines of a query's code are within its bounds: each finds what it looks up, and what it raises is told by the query's outcome.
use Rattle.std.proofs.Common.{◌≡◌, ◌∙◌, ◌≤◌, ◌<◌, ℕ, suc, ◌+◌, ◌*◌, ◌/◌, List, [], ◌∷◌, ◌++◌, length, map, refl, sym, ap, subst, arith}
use Rattle.std.specs.List.{AllByRecursion, AllZip}
use Rattle.qw_types.specs.declared.value.Val.{Val}
use Rattle.qw_linear.specs.Memory.{page}
use Rattle.qw_scalar.specs.Expression.{Expression}
use Rattle.qw_meaning.specs.Outcome.{outcome}
use Rattle.qw_meaning.specs.Select.{Entry, Specification, entries_of}
use Rattle.qw_algebra.specs.Node.{Node}
use Rattle.qw_pipe.specs.Pipes.{pipelines}
use Rattle.qw_read.specs.Reading.{known_of}
use Rattle.qw_read.specs.declared.constant.Word.{Word}
use Rattle.qw_physical.specs.Courses.{AreBuilt, costs}
use Rattle.qw_physical.specs.Held.{held, sink_octets, sink_size}
use Rattle.qw_physical.specs.Physical.{Pipeline, Sink, select}
use Rattle.qw_physical.specs.Sides.{IsPlanned, builds_of, last_of}
use Rattle.qw_physical.specs.Spelled.{IsSamePipeline, all_spelled}
use Rattle.qw_physical.specs.Typed.{IsTypedPhysical}
use Rattle.qw_physical.specs.declared.pipeline.ReadColumn.{ReadColumn}
use Rattle.qw_physical.proofs.Permuted.{built_in_order}
use Rattle.qw_physical.proofs.QueryScans.{ScansOne}
use Rattle.qw_operator.specs.Takes.{CanCarry}
use Rattle.qw_operator.proofs.PairRows.{AreDistinct}
use Rattle.qw_operator.proofs.Stood.{Stood, built_of}
use Rattle.qw_emit.proofs.Answered.{IsTold}
use Rattle.qw_compile.proofs.Budgets.{spent}
use Rattle.qw_compile.proofs.LocalsPlaced.{literal_count, literals_known}
use Rattle.qw_compile.proofs.PipelineRuns.{AreStood, entry_width, fed_over, readers_of}
use Rattle.qw_compile.proofs.QueryBounded.{built_pays, last_pays}
use Rattle.qw_compile.proofs.QueryCan.{HasEach}
use Rattle.qw_compile.proofs.QueryCompiled.{IsBounded}
use Rattle.qw_compile.proofs.QueryFinds.{build_finds, last_finds, one_at}
use Rattle.qw_compile.proofs.QueryReach.{code_builds, scan_column, scan_table, stoods_long, table_of, width_is}
use Rattle.qw_compile.proofs.QueryRuns.{Reach}
use Rattle.qw_compile.proofs.QueryTold.{cost, cost_last, told, told_last}
use Rattle.qw_compile.proofs.Spent.{spent_next}
use Rattle.qw_compile.proofs.StoodBuilt.{stood_built}

-- the expressions of a pipeline take only literals and the columns that it reads
abbrev pub IsTakenOver : (tables at : ℕ) → (texts : List (List ℕ)) → List Word → List ReadColumn → Pipeline → Type 0
IsTakenOver t at texts words read p = CanCarry (literals_known t at texts words ++ map known_of (readers_of t (literal_count texts words) read p.entry)) p.operators p.sink

-- The entries of its tables keep some columns; those that are read may be others too.
module _ (query : Specification) (tables : List (List (List Val))) (columns : List ReadColumn) (node : Node) (planned : IsPlanned query tables columns node) (building : List Pipeline) (last : Pipeline)
    (same : AllZip IsSamePipeline (builds_of columns node) building) (same_last : IsSamePipeline (last_of columns node) last) (typed : AllByRecursion IsTypedPhysical building) (distinct : AreDistinct columns)
    (scans : AllByRecursion (ScansOne (entries_of query.sources)) building) (read : List ReadColumn) (each : HasEach read (length (entries_of query.sources))) (T at : ℕ) (texts : List (List ℕ)) (words : List Word) where
  -- a pipeline that builds a table, where what it puts into memory is paid for
  pub reach_paid : AllByRecursion (IsTakenOver T at texts words read) building → (units : ℕ) → ((front back : List Pipeline) (more : List (List (List Val))) → all_spelled columns 0 (pipelines node) ≡ front ++ back → AreBuilt tables [] front more → costs tables [] (front ++ back) more ≤ units) →
      (N u most : ℕ) → 1 + units ≤ N → AllByRecursion (λ (p : Pipeline). sink_size p.sink + u ≤ page) building → (front : List Pipeline) (p : Pipeline) (back : List Pipeline) (stoods : List Stood) → building ≡ front ++ p ∷ back → AreStood tables [] front stoods →
      spent u building (built_in_order tables [] building) (suc (length front)) + 2 * u < (most + 1) * u →
      Reach T (literal_count texts words) read (literals_known T at texts words) tables u most N (table_of (entries_of query.sources)) stoods p (spent u building (built_in_order tables [] building) (length front)) (spent u building (built_in_order tables [] building) (suc (length front)))
  reach_paid can units bounded N u most units_less fit front p back stoods parts are pays =
      let b = code_builds columns node building same front p back parts in
      let scan : ScansOne (entries_of query.sources) p = one_at (ScansOne (entries_of query.sources)) front p back (subst (AllByRecursion (ScansOne (entries_of query.sources))) parts scans) in
      let built = stood_built tables [] front stoods are in
      let rows : ℕ = length (fed_over tables stoods p).rows in
      let paid_for = cost query tables columns node planned building last same same_last units bounded front p back stoods parts are in
      let size : entry_width b.made ≡ sink_size p.sink = width_is b.made ∙ ap sink_size (sym b.sink_is) in
      let room = one_at (λ (q : Pipeline). sink_size q.sink + u ≤ page) front p back (subst (AllByRecursion (λ (q : Pipeline). sink_size q.sink + u ≤ page)) parts fit) in
      let octets : sink_octets p.sink rows ≡ 4096 + rows * entry_width b.made = ap (λ (s : Sink). sink_octets s rows) b.sink_is ∙ ap (λ (k : ℕ). 4096 + rows * k) (sym (width_is b.made)) in
      let next : spent u building (built_in_order tables [] building) (suc (length front)) ≡ spent u building (built_in_order tables [] building) (length front) + (u + sink_octets p.sink rows) =
      subst (λ (l : List Pipeline). spent u l (built_in_order tables [] l) (suc (length front)) ≡ spent u l (built_in_order tables [] l) (length front) + (u + sink_octets p.sink rows)) (sym parts)
      (spent_next u tables front p back [] [] (built_of stoods) tt built) in
      record {
        made = b.made;
        sink_is = b.sink_is;
        number_is = b.number_is ∙ stoods_long tables [] front stoods are;
        table_is = scan_table (entries_of query.sources) p scan;
        has_column = scan_column (entries_of query.sources) read each p scan;
        finds = build_finds query tables columns node planned building last same same_last typed distinct read T (literal_count texts words) at texts words N front p back stoods parts are
            (one_at (IsTakenOver T at texts words read) front p back (subst (AllByRecursion (IsTakenOver T at texts words read)) parts can)) (omega (arith, paid_for, units_less));
        fits = omega (arith, size, room);
        grows = omega (arith, next, octets);
        enough = pays;
      }

-- all of them, of which the last makes the result
module _ (query : Specification) (tables : List (List (List Val))) (columns : List ReadColumn) (node : Node) (planned : IsPlanned query tables columns node) (building : List Pipeline) (last : Pipeline)
    (same : AllZip IsSamePipeline (builds_of columns node) building) (same_last : IsSamePipeline (last_of columns node) last) (typed : AllByRecursion IsTypedPhysical building) (distinct : AreDistinct columns)
    (scans : AllByRecursion (ScansOne (entries_of query.sources)) building) (last_scans : ScansOne (entries_of query.sources) last) (read : List ReadColumn) (each : HasEach read (length (entries_of query.sources)))
    (T at : ℕ) (texts : List (List ℕ)) (words : List Word) (all_built : length building ≡ T) (items : List Expression) (last_is : last.sink ≡ select items) where
  abbrev n : ℕ
  n = literal_count texts words

  abbrev entries : List Entry
  entries = entries_of query.sources

  module _ (can : AllByRecursion (IsTakenOver T at texts words read) building) (can_last : IsTakenOver T at texts words read last) (units : ℕ)
      (bounded : (front back : List Pipeline) (more : List (List (List Val))) → all_spelled columns 0 (pipelines node) ≡ front ++ back → AreBuilt tables [] front more → costs tables [] (front ++ back) more ≤ units) (u S : ℕ) (some : 0 < u) (u_low : u ≤ page)
      (within : (front back : List Pipeline) (more : List (List (List Val))) → building ++ last ∷ [] ≡ front ++ back → AreBuilt tables [] front more → held tables [] (front ++ back) more ≤ S)
      (fit : AllByRecursion (λ (p : Pipeline). sink_size p.sink + u ≤ page) building) (fit_last : sink_size last.sink + u ≤ page) where
    abbrev most : ℕ
    most = 2 + 2 * T + S / u

    abbrev budget : ℕ → ℕ
    budget i = spent u building (built_in_order tables [] building) i

    parted_held : (front : List Pipeline) (p : Pipeline) (back : List Pipeline) (more : List (List (List Val))) → building ≡ front ++ p ∷ back → AreBuilt tables [] front more → held tables [] (front ++ p ∷ (back ++ last ∷ [])) more ≤ S
    parted_held front p back more parts are = within front (p ∷ (back ++ last ∷ [])) more (ap (λ (l : List Pipeline). l ++ last ∷ []) parts ∙ regrouped front) are
      where
        regrouped : (l : List Pipeline) → (l ++ p ∷ back) ++ last ∷ [] ≡ l ++ p ∷ (back ++ last ∷ [])
        regrouped [] = refl
        regrouped (x ∷ l) = ap (λ (m : List Pipeline). x ∷ m) (regrouped l)

    reach : (front : List Pipeline) (p : Pipeline) (back : List Pipeline) (stoods : List Stood) → building ≡ front ++ p ∷ back → AreStood tables [] front stoods
        → Reach T n read (literals_known T at texts words) tables u most (1 + units) (table_of entries) stoods p (budget (length front)) (budget (suc (length front)))
    reach front p back stoods parts are =
        let built = stood_built tables [] front stoods are in
        reach_paid query tables columns node planned building last same same_last typed distinct scans read each T at texts words can units bounded (1 + units) u most (omega arith) fit front p back stoods parts are
        (subst (λ (l : List Pipeline). spent u l (built_in_order tables [] l) (suc (length front)) + 2 * u < (most + 1) * u) (sym parts)
        (built_pays u S T some tables front p back (back ++ last ∷ []) (built_of stoods) built (parted_held front p back (built_of stoods) parts built) (ap (λ (l : List Pipeline). length l) (sym parts) ∙ all_built)))

    pub query_bounded : IsBounded T n read texts words at (table_of entries) building last items (IsTold (outcome query tables)) u most (1 + units) tables
    query_bounded = record {
      some = omega arith;
      u_low = u_low;
      budget = λ i. budget i;
      reached = reach;
      told = told query tables columns node planned building last same same_last;
      last_reached = λ stoods are.
          let built = stood_built tables [] building stoods are in
          let rows : ℕ = length (fed_over tables stoods last).rows in
          let paid = cost_last query tables columns node planned building last same same_last units bounded stoods are in
          let size : sink_size last.sink ≡ 8 + 16 * length items = ap sink_size last_is in
          let octets : sink_octets last.sink rows ≡ rows * (8 + 16 * length items) = ap (λ (s : Sink). sink_octets s rows) last_is in
          let all : (budget (length building) + sink_octets last.sink rows) + 2 * u < (most + 1) * u = last_pays u S T some tables building last (built_of stoods) built (within building (last ∷ []) (built_of stoods) refl built) all_built in
          let count : budget (length building) ≡ budget T = ap (λ (k : ℕ). budget k) all_built in
          record {
            table_is = scan_table entries last last_scans;
            has_column = scan_column entries read each last last_scans;
            finds = last_finds query tables columns node planned building last same same_last typed distinct read T n at texts words (1 + units) stoods are can_last (omega (arith, paid));
            fits = omega (arith, size, fit_last);
            enough = omega (arith, all, count, octets);
          };
      told_last = told_last query tables columns node planned building last same same_last;
    }
