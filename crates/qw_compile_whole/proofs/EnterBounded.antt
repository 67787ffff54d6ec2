-- What has to hold of the walk over groups whose rows go into a second table of groups, as those of a grouped query with DISTINCT do (ISO/IEC 9075:1992, 7.9,
-- 3.1 for what is distinct); and of all of its pipelines.
use Rattle.std.proofs.Common.{◌≡◌, ℕ, suc, ◌+◌, ◌*◌, ◌^◌, ◌<◌, ◌≤◌, List, [], ◌∷◌, ◌++◌, length, Ok}
use Rattle.std.specs.List.{AllByRecursion}
use Rattle.std.specs.List.Sorted.{IsPermutation}
use Rattle.qw_types.specs.declared.value.Val.{Val}
use Rattle.qw_linear.specs.Memory.{page}
use Rattle.qw_layout.specs.Hash.{slot}
use Rattle.qw_grouped.specs.Grouped.{Grouped}
use Rattle.qw_grouped.specs.Groups.{function_values, key_of, keys, members}
use Rattle.qw_feed.specs.Feeds.{Tells, spend}
use Rattle.qw_read.specs.declared.constant.Word.{Word}
use Rattle.qw_table.specs.Tables.{in_slot}
use Rattle.qw_group.specs.Groups.{AreChosenWithin}
use Rattle.qw_physical.specs.Courses.{fed}
use Rattle.qw_physical.specs.Physical.{Pipeline, filter, select}
use Rattle.qw_physical.specs.declared.pipeline.ReadColumn.{ReadColumn}
use Rattle.qw_operator.proofs.PairRows.{AreStored}
use Rattle.qw_operator.proofs.Stood.{Stood}
use Rattle.qw_operator.specs.Costs.{cost_to}
use Rattle.qw_operator.specs.Grouping.{Group, turn_of}
use Rattle.qw_group_pipeline.specs.declared.columns.ValueColumn.{ValueColumn}
use Rattle.qw_group_pipeline.proofs.GroupsFeed.{units_within}
use Rattle.qw_group_pipeline.proofs.ValuesCome.{AreRead, functions_of}
use Rattle.qw_compile.proofs.LocalsPlaced.{literals_known}
use Rattle.qw_compile.proofs.PipelineRuns.{AreStood, fed_over}
use Rattle.qw_compile.proofs.QueryRuns.{Reach}
use Rattle.qw_compile_whole.proofs.GroupBounded.{GatherReach, WalkReach, group_width, groups_paid, rows_met, walked_of}

-- what a walk takes at the row of a group, where its rows go into another table
abbrev pub enter_units : Grouped → List ReadColumn → List ValueColumn → Group → (entries chosen : List Val → ℕ) → (columns : ℕ) → (rows : List (List Val)) → List Val → ℕ
enter_units query key values into entries chosen columns rows k =
    units_within key values (fed [] (filter query.having ∷ []) (select into.values)) (cost_to into.values (turn_of into entries chosen) [] (filter query.having ∷ [])) columns rows k

-- Of the walk over the groups of these rows, none of which raised anything, into a table `into`, where so many octets are paid for: as of one into the
-- result (`WalkReach`), and as of a pipeline into groups (`GatherReach`), whose rows are what HAVING and the select list make, in any order.
pub record EnterReach (query : Grouped) (g : Group) (key : List ReadColumn) (values : List ValueColumn) (into : Group) (u most N : ℕ) (rows : List (List Val)) (budget : ℕ) : Type 0 where
  pub stored : AllByRecursion (λ (k : List Val). AreStored key k) (keys g.columns rows)
  pub typed : AllByRecursion (λ (k : List Val). (vs : List Val) → function_values (length key) (functions_of values) (members g.columns k rows) ≡ Ok vs → AreRead values vs) (keys g.columns rows)
  pub entries : List Val → ℕ
  pub chosen : List Val → ℕ
  pub met : (row : List Val) → length (in_slot slot (slot (key_of into.columns row)) (keys into.columns (walked_of query rows).rows)) ≤ entries row
  pub compared : (row : List Val) → AreChosenWithin into.columns into.functions row (chosen row)
  pub cost : 1025 + spend (λ (k : List Val). enter_units query key values into entries chosen g.columns rows k) (keys g.columns rows) ≤ N
  pub few : 1 ≤ length into.functions → length (walked_of query rows).rows < 10 ^ 18
  pub fits : group_width into + u ≤ page
  pub enough : groups_paid u into budget (walked_of query rows).rows + 2 * u < (most + 1) * u

-- All of it: as of a grouped query (`IsGroupBounded`), with the walk into the second table, and the one over that table, `again`, whose rows are the result.
-- The rows that come into the second table are those that the first walk makes, in any order.
pub record IsDistinctBounded (T n : ℕ) (columns : List ReadColumn) (texts : List (List ℕ)) (words : List Word) (at : ℕ) (table_of : ℕ → ℕ) (building : List Pipeline) (gathering : Pipeline) (query : Grouped) (g : Group) (key : List ReadColumn) (values : List ValueColumn)
    (again : Grouped) (into : Group) (key_again : List ReadColumn) (values_again : List ValueColumn) (Told : ℕ → Type 0) (u most N : ℕ) (tables : List (List (List Val))) : Type 0 where
  pub some : 1 ≤ N
  pub u_low : u ≤ page
  pub budget : ℕ → ℕ
  pub reached : (front : List Pipeline) (p : Pipeline) (back : List Pipeline) (stoods : List Stood) → building ≡ front ++ p ∷ back → AreStood tables [] front stoods →
      Reach T n columns (literals_known T at texts words) tables u most N table_of stoods p (budget (length front)) (budget (suc (length front)))
  pub told : (front : List Pipeline) (p : Pipeline) (back : List Pipeline) (stoods : List Stood) → building ≡ front ++ p ∷ back → AreStood tables [] front stoods → (raised : ℕ) → Tells (fed_over tables stoods p).codes raised → Told raised
  pub gathered : (stoods : List Stood) → AreStood tables [] building stoods → GatherReach T n columns (literals_known T at texts words) tables u most N table_of g stoods gathering (budget (length building))
  pub told_gathered : (stoods : List Stood) → AreStood tables [] building stoods → (raised : ℕ) → Tells (fed_over tables stoods gathering).codes raised → Told raised
  pub entered : (stoods : List Stood) → AreStood tables [] building stoods → (fed_over tables stoods gathering).codes ≡ [] →
      EnterReach query g key values into u most N (rows_met tables stoods gathering) (groups_paid u g (budget (length building)) (rows_met tables stoods gathering))
  pub told_entered : (stoods : List Stood) → AreStood tables [] building stoods → (fed_over tables stoods gathering).codes ≡ [] → (raised : ℕ) → Tells (walked_of query (rows_met tables stoods gathering)).codes raised → Told raised
  pub walked : (stoods : List Stood) → AreStood tables [] building stoods → (fed_over tables stoods gathering).codes ≡ [] → (walked_of query (rows_met tables stoods gathering)).codes ≡ [] →
      (made : List (List Val)) → IsPermutation made (walked_of query (rows_met tables stoods gathering)).rows →
      WalkReach again into key_again values_again u most N made (groups_paid u into (groups_paid u g (budget (length building)) (rows_met tables stoods gathering)) made)
  pub told_walked : (stoods : List Stood) → AreStood tables [] building stoods → (fed_over tables stoods gathering).codes ≡ [] → (walked_of query (rows_met tables stoods gathering)).codes ≡ [] →
      (made : List (List Val)) → IsPermutation made (walked_of query (rows_met tables stoods gathering)).rows → (raised : ℕ) → Tells (walked_of again made).codes raised → Told raised
