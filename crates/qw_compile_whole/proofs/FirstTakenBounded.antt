-- What has to hold of the pipelines of a query with set functions and no GROUP BY over tables, however many rows there are: those that build tables of joins, and
-- the one whose rows the areas take as long as a local counts (ISO/IEC 9075:1992, 7.8).
use Rattle.std.proofs.Common.{◌≡◌, ℕ, suc, ◌+◌, ◌*◌, ◌^◌, ◌<◌, ◌≤◌, List, [], ◌∷◌, ◌++◌, length}
use Rattle.qw_types.specs.declared.value.Val.{Val}
use Rattle.qw_linear.specs.Memory.{page}
use Rattle.qw_grouped.specs.Grouped.{Grouped}
use Rattle.qw_expr.specs.Computes.{Known}
use Rattle.qw_feed.specs.Feeds.{Tells}
use Rattle.qw_read.specs.declared.constant.Word.{Word}
use Rattle.qw_group.specs.Groups.{AreChosenWithin}
use Rattle.qw_physical.specs.Physical.{Pipeline}
use Rattle.qw_physical.specs.declared.pipeline.ReadColumn.{ReadColumn}
use Rattle.qw_operator.proofs.Stood.{Stood, built_of}
use Rattle.qw_operator.specs.Costs.{pipeline_cost_to}
use Rattle.qw_operator.specs.Grouping.{Group}
use Rattle.qw_group_pipeline.specs.declared.columns.ValueColumn.{ValueColumn}
use Rattle.qw_compile.proofs.LocalsPlaced.{literals_known}
use Rattle.qw_compile.proofs.PipelineRuns.{AreStood, Finds, fed_over}
use Rattle.qw_compile.proofs.QueryRuns.{HasColumnOf, Reach}
use Rattle.qw_compile_whole.proofs.GroupBounded.{rows_met, walked_of}
use Rattle.qw_compile_whole.proofs.SingleBounded.{OneReach, areas_paid}

-- Of the pipeline whose rows the areas take: as `TakeReach`, but that there may be any number of rows.
pub record FirstTake (T n : ℕ) (columns : List ReadColumn) (literals : List Known) (tables : List (List (List Val))) (u most N : ℕ) (table_of : ℕ → ℕ) (g : Group) (stoods : List Stood) (p : Pipeline) (budget : ℕ) : Type 0 where
  pub table_is : p.table ≡ table_of p.entry
  pub has_column : HasColumnOf columns p.entry
  pub finds : Finds T n columns literals tables N stoods p
  pub chosen : List Val → ℕ
  pub compared : (row : List Val) → AreChosenWithin 0 g.functions row (chosen row)
  pub cost : 1 + pipeline_cost_to g.values chosen tables (built_of stoods) p ≤ N
  pub fits : 32 * length g.functions + u ≤ page
  pub enough : areas_paid g budget + 2 * u < (most + 1) * u

-- All of it up to the one group, and what is raised on the way is told.
pub record IsFirstTaken (T n : ℕ) (columns : List ReadColumn) (texts : List (List ℕ)) (words : List Word) (at : ℕ) (table_of : ℕ → ℕ) (building : List Pipeline) (taking : Pipeline) (g : Group) (Told : ℕ → Type 0) (u most N : ℕ) (tables : List (List (List Val))) : Type 0 where
  pub some : 1 ≤ N
  pub u_low : u ≤ page
  pub budget : ℕ → ℕ
  pub reached : (front : List Pipeline) (p : Pipeline) (back : List Pipeline) (stoods : List Stood) → building ≡ front ++ p ∷ back → AreStood tables [] front stoods →
      Reach T n columns (literals_known T at texts words) tables u most N table_of stoods p (budget (length front)) (budget (suc (length front)))
  pub told : (front : List Pipeline) (p : Pipeline) (back : List Pipeline) (stoods : List Stood) → building ≡ front ++ p ∷ back → AreStood tables [] front stoods → (raised : ℕ) → Tells (fed_over tables stoods p).codes raised → Told raised
  pub taken : (stoods : List Stood) → AreStood tables [] building stoods → FirstTake T n columns (literals_known T at texts words) tables u most N table_of g stoods taking (budget (length building))
  pub told_taken : (stoods : List Stood) → AreStood tables [] building stoods → (raised : ℕ) → Tells (fed_over tables stoods taking).codes raised → Told raised

-- And where fewer than 10^18 rows came, the row of the one group.
pub record IsLongBounded (T n : ℕ) (columns : List ReadColumn) (texts : List (List ℕ)) (words : List Word) (at : ℕ) (table_of : ℕ → ℕ) (building : List Pipeline) (taking : Pipeline) (query : Grouped) (g : Group) (values : List ValueColumn) (Told : ℕ → Type 0) (u most N : ℕ) (tables : List (List (List Val))) : Type 0 where
  pub first : IsFirstTaken T n columns texts words at table_of building taking g Told u most N tables
  pub made : (stoods : List Stood) → AreStood tables [] building stoods → (fed_over tables stoods taking).codes ≡ [] → length (rows_met tables stoods taking) < 10 ^ 18 → OneReach query values u most N (rows_met tables stoods taking) (areas_paid g (first.budget (length building)))
  pub told_made : (stoods : List Stood) → AreStood tables [] building stoods → (fed_over tables stoods taking).codes ≡ [] → length (rows_met tables stoods taking) < 10 ^ 18 → (raised : ℕ) → Tells (walked_of query (rows_met tables stoods taking)).codes raised → Told raised
