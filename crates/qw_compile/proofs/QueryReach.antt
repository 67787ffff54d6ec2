-- Which table each pipeline of the code builds and which it scans, and that it has a column of its entry.
use Rattle.std.proofs.Common.{◌≡◌, ◌∙◌, ℕ, suc, ◌+◌, ◌==◌, ◌||◌, Bool, true, false, Option, Some, None, slice_get, List, [], ◌∷◌, ◌++◌, length, length-append, map, refl, sym, ap, subst, arith}
use Rattle.std.specs.List.{AllByRecursion, AllZip, list_any}
use Rattle.std.proofs.lemmas.List.{length-map}
use Rattle.std.proofs.lemmas.Option.{slice_get_within}
use Rattle.qw_types.specs.declared.value.Val.{Val}
use Rattle.qw_meaning.specs.Select.{Entry}
use Rattle.qw_algebra.specs.Columns.{owner}
use Rattle.qw_algebra.specs.Node.{Node}
use Rattle.qw_pipe.specs.Pipes as pipes
use Rattle.qw_pipe.specs.Pipes.{IsTable, split, to_result, to_table}
use Rattle.qw_pipe.proofs.Ordering.{in_order}
use Rattle.qw_physical.specs.Courses.{column_of, sink_values}
use Rattle.qw_physical.specs.Physical.{Build, Pipeline, Sink, build, select}
use Rattle.qw_physical.specs.Sides.{builds_of}
use Rattle.qw_physical.specs.Spelled.{IsSamePipeline, IsSameSink, all_spelled, spelled, spelled_sink}
use Rattle.qw_physical.specs.declared.pipeline.ReadColumn.{ReadColumn}
use Rattle.qw_physical.proofs.QueryScans.{ScansOne}
use Rattle.qw_physical.proofs.Reading.{same_number}
use Rattle.qw_layout.specs.Row.{aggregate_offset}
use Rattle.qw_physical.specs.Held.{sink_size}
use Rattle.qw_operator.proofs.SinkFeeds.{fields_many, fields_of}
use Rattle.qw_operator.proofs.Stood.{Stood}
use Rattle.qw_compile.proofs.PipelineRuns.{AreStood, entry_width}
use Rattle.qw_compile.proofs.QueryCan.{HasEach}
use Rattle.qw_compile.proofs.QueryRuns.{HasColumnOf}
use Rattle.qw_compile.proofs.QueryTold.{parted}

-- ---- which table is built
pub record BuildsTable (s : Sink) (number : ℕ) : Type 0 where
  pub made : Build
  pub sink_is : s ≡ build made
  pub number_is : made.table ≡ number

spelled_builds : (columns : List ReadColumn) (ps : List pipes.Pipeline) (next : ℕ) (before : List Pipeline) (q : Pipeline) (after : List Pipeline) → AllByRecursion (λ (p : pipes.Pipeline). IsTable p.target) ps
    → all_spelled columns next ps ≡ before ++ q ∷ after → BuildsTable q.sink (next + length before)
spelled_builds columns [] next [] q after tables e = absurd cc
spelled_builds columns [] next (b ∷ before) q after tables e = absurd cc
spelled_builds columns (p ∷ ps) next [] q after tables e =
    let same : spelled columns next p ≡ q = cc in
    subst (λ (x : Pipeline). BuildsTable x.sink (next + 0)) same (one p.target tables.0)
  where
    none : next ≡ next + 0
    none = omega arith

    one : (t : pipes.Target) → IsTable t → BuildsTable (spelled_sink columns next p.steps t) (next + 0)
    one (to_table lookup) h = record { made = _; sink_is = refl; number_is = none }
    one to_result h = absurd h
spelled_builds columns (p ∷ ps) next (b ∷ before) q after tables e =
    let tail : all_spelled columns (next + 1) ps ≡ before ++ q ∷ after = cc in
    let rest = spelled_builds columns ps (next + 1) before q after tables.1 tail in
    let count : (next + 1) + length before ≡ next + suc (length before) = omega arith in
    subst (BuildsTable q.sink) count rest

same_builds : (s t : Sink) (number : ℕ) → IsSameSink s t → BuildsTable s number → BuildsTable t number
same_builds s t number z h = one t (subst (λ (x : Sink). IsSameSink x t) h.sink_is z)
  where
    one : (u : Sink) → IsSameSink (build h.made) u → BuildsTable u number
    one (build c) g = record { made = c; sink_is = refl; number_is = sym g.table ∙ h.number_is }
    one (select items) g = absurd g

pub zip_long : (R : Pipeline → Pipeline → Type 0) (xs ys : List Pipeline) → AllZip R xs ys → length xs ≡ length ys
zip_long R [] [] h = refl
zip_long R [] (y ∷ ys) h = absurd h
zip_long R (x ∷ xs) [] h = absurd h
zip_long R (x ∷ xs) (y ∷ ys) h = ap suc (zip_long R xs ys h.1)

pub stoods_long : (tables : List (List (List Val))) (before : List Stood) (ps : List Pipeline) (stoods : List Stood) → AreStood tables before ps stoods → length ps ≡ length stoods
stoods_long tables before [] [] h = refl
stoods_long tables before [] (st ∷ stoods) h = absurd h
stoods_long tables before (p ∷ ps) [] h = absurd h
stoods_long tables before (p ∷ ps) (st ∷ stoods) h = ap suc (stoods_long tables (before ++ st ∷ []) ps stoods h.1)

from_none : (n : ℕ) → 0 + n ≡ n
from_none n = omega arith

-- the pipeline behind so many builds the table of that number
pub code_builds : (columns : List ReadColumn) (node : Node) (building : List Pipeline) → AllZip IsSamePipeline (builds_of columns node) building
    → (front : List Pipeline) (p : Pipeline) (back : List Pipeline) → building ≡ front ++ p ∷ back → BuildsTable p.sink (length front)
code_builds columns node building same front p back parts =
    let cut = parted IsSamePipeline (builds_of columns node) front p back (subst (AllZip IsSamePipeline (builds_of columns node)) parts same) in
    let long = zip_long IsSamePipeline cut.before front cut.same_before in
    same_builds cut.at.sink p.sink (length front) cut.same_at.sink
    (subst (BuildsTable cut.at.sink) (from_none (length cut.before) ∙ long) (spelled_builds columns (split 0 node).builds 0 cut.before cut.at cut.after (in_order node 0 [] refl).tables cut.is))

-- ---- which is scanned
abbrev pub table_at : Option Entry → ℕ
table_at None = 0
table_at (Some e) = e.table

-- by the number of an entry of FROM
abbrev pub table_of : List Entry → ℕ → ℕ
table_of entries entry = table_at (slice_get entries entry)

pub scan_table : (entries : List Entry) (p : Pipeline) → ScansOne entries p → p.table ≡ table_of entries p.entry
scan_table entries p s = s.table_is ∙ ap table_at (sym s.stands)

-- ---- its column
column_there : (entry : ℕ) (columns : List ReadColumn) → list_any (λ (c : ReadColumn). owner c.number == entry) columns ≡ true → HasColumnOf columns entry
column_there entry [] h = absurd cc
column_there entry (c ∷ columns) h = one (owner c.number == entry) refl h (λ g. column_there entry columns g)
  where
    one : (b : Bool) → (owner c.number == entry) ≡ b → (b || list_any (λ (d : ReadColumn). owner d.number == entry) columns) ≡ true
        → (list_any (λ (d : ReadColumn). owner d.number == entry) columns ≡ true → HasColumnOf columns entry) → HasColumnOf (c ∷ columns) entry
    one true e g f = (0, c, refl, same_number (owner c.number) entry e)
    one false e g f = let r = f g in (suc r.0, r.1, r.2, r.3)

pub scan_column : (entries : List Entry) (columns : List ReadColumn) → HasEach columns (length entries) → (p : Pipeline) → ScansOne entries p → HasColumnOf columns p.entry
scan_column entries columns each p s = column_there p.entry columns (each p.entry (slice_get_within entries p.entry s.one s.stands))

-- ---- how long an entry is
pub width_is : (b : Build) → entry_width b ≡ sink_size (build b)
width_is b = ap (λ (k : ℕ). aggregate_offset k 0) (summed (length (fields_of (sink_values (build b)))) (length (sink_values (build b))) (length b.key) (length (map column_of b.kept)) (length b.kept)
    (fields_many (sink_values (build b))) (length-append b.key (map column_of b.kept)) (length-map b.kept column_of))
  where
    summed : (f v k m c : ℕ) → f ≡ v → v ≡ k + m → m ≡ c → 0 + f ≡ k + c
    summed f v k m c e g h = omega (arith, e, g, h)
