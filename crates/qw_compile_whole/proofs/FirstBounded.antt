-- What has to hold of a grouped query's pipelines up to its groups over tables, however many rows there are: those that build tables of joins, and the one whose
-- rows go into groups as long as a local counts (ISO/IEC 9075:1992, 7.7).
use Rattle.std.proofs.Common.{◌≡◌, ℕ, suc, ◌^◌, ◌<◌, ◌≤◌, List, [], ◌∷◌, ◌++◌, length}
use Rattle.qw_types.specs.declared.value.Val.{Val}
use Rattle.qw_linear.specs.Memory.{page}
use Rattle.qw_expr.specs.Computes.{Known}
use Rattle.qw_feed.specs.Feeds.{Tells}
use Rattle.qw_read.specs.declared.constant.Word.{Word}
use Rattle.qw_physical.specs.Physical.{Pipeline}
use Rattle.qw_physical.specs.declared.pipeline.ReadColumn.{ReadColumn}
use Rattle.qw_operator.proofs.Stood.{Stood}
use Rattle.qw_operator.specs.Grouping.{Group}
use Rattle.qw_compile.proofs.LocalsPlaced.{literals_known}
use Rattle.qw_compile.proofs.PipelineRuns.{AreStood, fed_over}
use Rattle.qw_compile.proofs.QueryRuns.{Reach}
use Rattle.qw_compile_whole.proofs.GroupBounded.{GatherReach, ReachWith, rows_met}

-- Of the pipeline whose rows go into groups: as `GatherReach`, but that there may be any number of rows.
abbrev pub FirstReach : (T n : ℕ) → List ReadColumn → List Known → (tables : List (List (List Val))) → (u most N : ℕ) → (table_of : ℕ → ℕ) → (g : Group) → List Stood → Pipeline → (budget : ℕ) → Type 0
FirstReach T n columns literals tables u most N table_of g stoods p budget = ReachWith (Unit {0}) T n columns literals tables u most N table_of g stoods p budget

-- All of it up to the groups, and what is raised on the way is told.
pub record IsFirstBounded (T n : ℕ) (columns : List ReadColumn) (texts : List (List ℕ)) (words : List Word) (at : ℕ) (table_of : ℕ → ℕ) (building : List Pipeline) (gathering : Pipeline) (g : Group) (Told : ℕ → Type 0) (u most N : ℕ) (tables : List (List (List Val))) : Type 0 where
  pub some : 1 ≤ N
  pub u_low : u ≤ page
  pub budget : ℕ → ℕ
  pub reached : (front : List Pipeline) (p : Pipeline) (back : List Pipeline) (stoods : List Stood) → building ≡ front ++ p ∷ back → AreStood tables [] front stoods →
      Reach T n columns (literals_known T at texts words) tables u most N table_of stoods p (budget (length front)) (budget (suc (length front)))
  pub told : (front : List Pipeline) (p : Pipeline) (back : List Pipeline) (stoods : List Stood) → building ≡ front ++ p ∷ back → AreStood tables [] front stoods → (raised : ℕ) → Tells (fed_over tables stoods p).codes raised → Told raised
  pub gathered : (stoods : List Stood) → AreStood tables [] building stoods → FirstReach T n columns (literals_known T at texts words) tables u most N table_of g stoods gathering (budget (length building))
  pub told_gathered : (stoods : List Stood) → AreStood tables [] building stoods → (raised : ℕ) → Tells (fed_over tables stoods gathering).codes raised → Told raised

-- the same with something else known of how many there are
pub reach_with : (Few Other : Type 0) (T n : ℕ) (columns : List ReadColumn) (literals : List Known) (tables : List (List (List Val))) (u most N : ℕ) (table_of : ℕ → ℕ) (g : Group) (stoods : List Stood) (p : Pipeline) (budget : ℕ) → ReachWith Few T n columns literals tables u most N table_of g stoods p budget → Other → ReachWith Other T n columns literals tables u most N table_of g stoods p budget
reach_with Few Other T n columns literals tables u most N table_of g stoods p budget r few = record {
  table_is = r.table_is;
  has_column = r.has_column;
  finds = r.finds;
  entries = r.entries;
  chosen = r.chosen;
  met = r.met;
  compared = r.compared;
  cost = r.cost;
  few = few;
  fits = r.fits;
  enough = r.enough;
}

-- of few rows too
pub first_of : (T n : ℕ) (columns : List ReadColumn) (literals : List Known) (tables : List (List (List Val))) (u most N : ℕ) (table_of : ℕ → ℕ) (g : Group) (stoods : List Stood) (p : Pipeline) (budget : ℕ) → GatherReach T n columns literals tables u most N table_of g stoods p budget → FirstReach T n columns literals tables u most N table_of g stoods p budget
first_of T n columns literals tables u most N table_of g stoods p budget r = reach_with (1 ≤ length g.functions → length (rows_met tables stoods p) < 10 ^ 18) (Unit {0}) T n columns literals tables u most N table_of g stoods p budget r tt
