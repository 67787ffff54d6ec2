-- What has to hold of the pipelines of a query with set functions and no GROUP BY over tables, so that its statement stays within bounds: those that build
-- tables of joins, the one whose rows the areas of its set functions take, and the row of the one group (ISO/IEC 9075:1992, 7.8, 7.9).
use Rattle.std.proofs.Common.{◌≡◌, ℕ, suc, ◌+◌, ◌*◌, ◌^◌, ◌<◌, ◌≤◌, List, [], ◌∷◌, ◌++◌, length, map, Some, Ok}
use Rattle.qw_types.specs.declared.value.Val.{Val}
use Rattle.qw_linear.specs.Memory.{page}
use Rattle.qw_scalar.specs.Typing.{kind_of}
use Rattle.qw_grouped.specs.Grouped.{Grouped, kinds_of}
use Rattle.qw_grouped.specs.Groups.{function_values}
use Rattle.qw_expr.specs.Computes.{Known}
use Rattle.qw_feed.specs.Feeds.{Tells}
use Rattle.qw_read.specs.declared.constant.Word.{Word}
use Rattle.qw_group.specs.Groups.{AreChosenWithin}
use Rattle.qw_physical.specs.Courses.{cost}
use Rattle.qw_physical.specs.Physical.{Pipeline, filter, select}
use Rattle.qw_physical.specs.declared.pipeline.ReadColumn.{ReadColumn}
use Rattle.qw_operator.specs.Takes.{CanCarry}
use Rattle.qw_operator.proofs.Stood.{Stood, built_of}
use Rattle.qw_operator.specs.Costs.{pipeline_cost_to}
use Rattle.qw_operator.specs.Grouping.{CanGroup, Group}
use Rattle.qw_group_pipeline.specs.Groups.{all_anywhere, most_read}
use Rattle.qw_group_pipeline.specs.declared.columns.ValueColumn.{ValueColumn}
use Rattle.qw_group_pipeline.proofs.GroupsFeed.{AreNumbered}
use Rattle.qw_group_pipeline.proofs.RowFeeds.{AreOfKinds, by_result}
use Rattle.qw_group_pipeline.proofs.ValuesCome.{AreRead, column_for, functions_of}
use Rattle.qw_compile.proofs.LocalsPlaced.{literals_known}
use Rattle.qw_compile.proofs.PipelineRuns.{AreStood, Finds, fed_over}
use Rattle.qw_compile.proofs.QueryRuns.{HasColumnOf, Reach}
use Rattle.qw_compile_whole.proofs.GroupBounded.{rows_met, walked_of}

-- ---- whatever the tables are
-- The areas of set functions go with what is read out of them, and with the query; there is no grouped column.
pub record GoAlone (query : Grouped) (g : Group) (values : List ValueColumn) (literals : List Known) : Type 0 where
  pub can : CanGroup g
  pub none : g.columns ≡ 0
  pub no_columns : length query.columns ≡ 0
  pub functions : g.functions ≡ kinds_of query.functions
  pub theirs : functions_of values ≡ g.functions
  pub arguments : map kind_of g.values ≡ map (λ (v : ValueColumn). Some v.argument) values
  pub kinds : AreOfKinds values
  pub numbered : AreNumbered 0 (map column_for values)
  pub takes : CanCarry (all_anywhere [] values ++ literals) (filter query.having ∷ []) (select query.items)

-- ---- over tables
-- what is paid for where the areas stand behind what was paid for before
abbrev pub areas_paid : Group → (budget : ℕ) → ℕ
areas_paid g budget = budget + 32 * length g.functions

-- Of the pipeline whose rows the areas take, where those before it have built their tables, and so many octets are paid for; `chosen` bounds the octets that
-- MIN and MAX compare at a row.
pub record TakeReach (T n : ℕ) (columns : List ReadColumn) (literals : List Known) (tables : List (List (List Val))) (u most N : ℕ) (table_of : ℕ → ℕ) (g : Group) (stoods : List Stood) (p : Pipeline) (budget : ℕ) : Type 0 where
  pub table_is : p.table ≡ table_of p.entry
  pub has_column : HasColumnOf columns p.entry
  pub finds : Finds T n columns literals tables N stoods p
  pub chosen : List Val → ℕ
  pub compared : (row : List Val) → AreChosenWithin 0 g.functions row (chosen row)
  pub cost : 1 + pipeline_cost_to g.values chosen tables (built_of stoods) p ≤ N
  pub few : 1 ≤ length g.functions → length (rows_met tables stoods p) < 10 ^ 18
  pub fits : 32 * length g.functions + u ≤ page
  pub enough : areas_paid g budget + 2 * u < (most + 1) * u

-- Of the one group of these rows, none of which raised anything: the values of its set functions are of their kinds, and its row takes no more than N and is
-- paid for.
pub record OneReach (query : Grouped) (values : List ValueColumn) (u most N : ℕ) (rows : List (List Val)) (budget : ℕ) : Type 0 where
  pub typed : (vs : List Val) → function_values 0 (functions_of values) rows ≡ Ok vs → AreRead values vs
  pub cost : 1 + (most_read (functions_of values) + by_result (function_values 0 (functions_of values) rows) (cost [] (filter query.having ∷ []) (select query.items))) ≤ N
  pub fits : 8 + 16 * length query.items + u ≤ page
  pub enough : budget + length (walked_of query rows).rows * (8 + 16 * length query.items) + 2 * u < (most + 1) * u

-- all of it
pub record IsSingleBounded (T n : ℕ) (columns : List ReadColumn) (texts : List (List ℕ)) (words : List Word) (at : ℕ) (table_of : ℕ → ℕ) (building : List Pipeline) (taking : Pipeline) (query : Grouped) (g : Group) (values : List ValueColumn) (Told : ℕ → Type 0) (u most N : ℕ) (tables : List (List (List Val))) : Type 0 where
  pub some : 1 ≤ N
  pub u_low : u ≤ page
  pub budget : ℕ → ℕ
  pub reached : (front : List Pipeline) (p : Pipeline) (back : List Pipeline) (stoods : List Stood) → building ≡ front ++ p ∷ back → AreStood tables [] front stoods →
      Reach T n columns (literals_known T at texts words) tables u most N table_of stoods p (budget (length front)) (budget (suc (length front)))
  pub told : (front : List Pipeline) (p : Pipeline) (back : List Pipeline) (stoods : List Stood) → building ≡ front ++ p ∷ back → AreStood tables [] front stoods → (raised : ℕ) → Tells (fed_over tables stoods p).codes raised → Told raised
  pub taken : (stoods : List Stood) → AreStood tables [] building stoods → TakeReach T n columns (literals_known T at texts words) tables u most N table_of g stoods taking (budget (length building))
  pub told_taken : (stoods : List Stood) → AreStood tables [] building stoods → (raised : ℕ) → Tells (fed_over tables stoods taking).codes raised → Told raised
  pub made : (stoods : List Stood) → AreStood tables [] building stoods → (fed_over tables stoods taking).codes ≡ [] → OneReach query values u most N (rows_met tables stoods taking) (areas_paid g (budget (length building)))
  pub told_made : (stoods : List Stood) → AreStood tables [] building stoods → (fed_over tables stoods taking).codes ≡ [] → (raised : ℕ) → Tells (walked_of query (rows_met tables stoods taking)).codes raised → Told raised
