-- What has to hold of a grouped query's pipelines over tables, so that its statement stays within bounds: those that build tables of joins, the one whose
-- rows go into groups, and the walk over the groups (ISO/IEC 9075:1992, 7.7 to 7.9).
use Rattle.std.proofs.Common.{◌≡◌, ℕ, suc, ◌+◌, ◌*◌, ◌^◌, ◌<◌, ◌≤◌, List, [], ◌∷◌, ◌++◌, drop, length, map, Some, Ok}
use Rattle.std.specs.List.{AllByRecursion}
use Rattle.qw_types.specs.declared.value.Val.{Val}
use Rattle.qw_linear.specs.Memory.{page}
use Rattle.qw_layout.specs.Hash.{slot}
use Rattle.qw_layout.specs.Row.{entry_size}
use Rattle.qw_scalar.specs.Typing.{kind_of}
use Rattle.qw_meaning.specs.Flow.{Flow}
use Rattle.qw_grouped.specs.Grouped.{Grouped, kinds_of}
use Rattle.qw_grouped.specs.Groups.{behind_front, function_values, key_of, keys, members}
use Rattle.qw_expr.specs.Computes.{Known}
use Rattle.qw_feed.specs.Feeds.{Tells, spend}
use Rattle.qw_read.specs.declared.constant.Word.{Word}
use Rattle.qw_table.specs.Tables.{in_slot}
use Rattle.qw_group.specs.Groups.{AreChosenWithin}
use Rattle.qw_physical.specs.Physical.{Pipeline, filter, select}
use Rattle.qw_physical.specs.declared.pipeline.ReadColumn.{ReadColumn}
use Rattle.qw_operator.specs.Takes.{AreSized, CanCarry}
use Rattle.qw_operator.proofs.PairRows.{AreStored}
use Rattle.qw_operator.proofs.Stood.{Stood, built_of}
use Rattle.qw_operator.specs.Costs.{pipeline_cost_to}
use Rattle.qw_operator.specs.Grouping.{CanGroup, Group, turn_of}
use Rattle.qw_group_pipeline.specs.Groups.{all_anywhere}
use Rattle.qw_group_pipeline.specs.declared.columns.ValueColumn.{ValueColumn}
use Rattle.qw_group_pipeline.proofs.GroupsFeed.{AreNumbered, group_units}
use Rattle.qw_group_pipeline.proofs.RowFeeds.{AreOfKinds}
use Rattle.qw_group_pipeline.proofs.ValuesCome.{AreRead, column_for, functions_of}
use Rattle.qw_compile.proofs.LocalsPlaced.{literals_known}
use Rattle.qw_compile.proofs.PipelineRuns.{AreStood, Finds, fed_over}
use Rattle.qw_compile.proofs.QueryRuns.{HasColumnOf, Reach}

-- ---- whatever the tables are
-- A table of groups goes with what is read out of it, and with the query: its columns are the first of the grouped table, the values of its set functions
-- those behind them. HAVING and the select list take only them and literals.
pub record GoTogether (query : Grouped) (g : Group) (key : List ReadColumn) (values : List ValueColumn) (literals : List Known) : Type 0 where
  pub can : CanGroup g
  pub some : 1 ≤ g.columns
  pub many : g.columns ≡ length query.columns
  pub functions : g.functions ≡ kinds_of query.functions
  pub key_many : length key ≡ g.columns
  pub theirs : functions_of values ≡ g.functions
  pub arguments : drop g.columns (map kind_of g.values) ≡ map (λ (v : ValueColumn). Some v.argument) values
  pub kinds : AreOfKinds values
  pub sized : AreSized key
  pub numbered : AreNumbered 0 key
  pub numbered_values : AreNumbered (length key) (map column_for values)
  pub takes : CanCarry (all_anywhere key values ++ literals) (filter query.having ∷ []) (select query.items)

-- ---- over tables
-- how many octets an entry of a group has
abbrev pub group_width : Group → ℕ
group_width g = entry_size g.columns 0 (length g.functions)

-- the rows that reach the groups, and what GROUP BY, HAVING and the select list make of them
abbrev pub rows_met : (tables : List (List (List Val))) → List Stood → Pipeline → List (List Val)
rows_met tables stoods p = (fed_over tables stoods p).rows

abbrev pub walked_of : Grouped → (rows : List (List Val)) → Flow (List Val)
walked_of query rows = behind_front query (record { rows = rows; codes = [] })

-- what is paid for where the groups of these rows stand behind what was paid for before: their directory, and an entry for each key
abbrev pub groups_paid : (u : ℕ) → Group → (budget : ℕ) → (rows : List (List Val)) → ℕ
groups_paid u g budget rows = budget + u + 4096 + length (keys g.columns rows) * group_width g

-- Of the pipeline whose rows go into groups, where those before it have built their tables, and so many octets are paid for: it finds what it looks up;
-- `entries` bounds the entries that may be in a row's slot, `chosen` the octets that MIN and MAX compare at a row; with them it takes no more than N; and this is known of how many rows there are.
pub record ReachWith (Few : Type 0) (T n : ℕ) (columns : List ReadColumn) (literals : List Known) (tables : List (List (List Val))) (u most N : ℕ) (table_of : ℕ → ℕ) (g : Group) (stoods : List Stood) (p : Pipeline) (budget : ℕ) : Type 0 where
  pub table_is : p.table ≡ table_of p.entry
  pub has_column : HasColumnOf columns p.entry
  pub finds : Finds T n columns literals tables N stoods p
  pub entries : List Val → ℕ
  pub chosen : List Val → ℕ
  pub met : (row : List Val) → length (in_slot slot (slot (key_of g.columns row)) (keys g.columns (rows_met tables stoods p))) ≤ entries row
  pub compared : (row : List Val) → AreChosenWithin g.columns g.functions row (chosen row)
  pub cost : 1 + pipeline_cost_to g.values (turn_of g entries chosen) tables (built_of stoods) p ≤ N
  pub few : Few
  pub fits : group_width g + u ≤ page
  pub enough : groups_paid u g budget (rows_met tables stoods p) + 2 * u < (most + 1) * u

-- fewer than 10^18 where there are set functions
abbrev pub GatherReach : (T n : ℕ) → List ReadColumn → List Known → (tables : List (List (List Val))) → (u most N : ℕ) → (table_of : ℕ → ℕ) → (g : Group) → List Stood → Pipeline → (budget : ℕ) → Type 0
GatherReach T n columns literals tables u most N table_of g stoods p budget = ReachWith (1 ≤ length g.functions → length (rows_met tables stoods p) < 10 ^ 18) T n columns literals tables u most N table_of g stoods p budget

-- Of the walk over the groups of these rows, none of which raised anything, where so many octets are paid for: keys have values that the cells of their columns give back, and values are of their kinds;
-- the walk takes no more than N; and the rows of the result are paid for.
pub record WalkReach (query : Grouped) (g : Group) (key : List ReadColumn) (values : List ValueColumn) (u most N : ℕ) (rows : List (List Val)) (budget : ℕ) : Type 0 where
  pub stored : AllByRecursion (λ (k : List Val). AreStored key k) (keys g.columns rows)
  pub typed : AllByRecursion (λ (k : List Val). (vs : List Val) → function_values (length key) (functions_of values) (members g.columns k rows) ≡ Ok vs → AreRead values vs) (keys g.columns rows)
  pub cost : 1025 + spend (λ (k : List Val). group_units key values (filter query.having ∷ []) (select query.items) g.columns rows k) (keys g.columns rows) ≤ N
  pub fits : 8 + 16 * length query.items + u ≤ page
  pub enough : budget + length (walked_of query rows).rows * (8 + 16 * length query.items) + 2 * u < (most + 1) * u

-- All of it, where T tables have directories, that of the groups among them; and what is raised on the way is told.
pub record IsGroupBounded (T n : ℕ) (columns : List ReadColumn) (texts : List (List ℕ)) (words : List Word) (at : ℕ) (table_of : ℕ → ℕ) (building : List Pipeline) (gathering : Pipeline) (query : Grouped) (g : Group) (key : List ReadColumn) (values : List ValueColumn) (Told : ℕ → Type 0) (u most N : ℕ) (tables : List (List (List Val))) : Type 0 where
  pub some : 1 ≤ N
  pub u_low : u ≤ page
  pub budget : ℕ → ℕ
  pub reached : (front : List Pipeline) (p : Pipeline) (back : List Pipeline) (stoods : List Stood) → building ≡ front ++ p ∷ back → AreStood tables [] front stoods →
      Reach T n columns (literals_known T at texts words) tables u most N table_of stoods p (budget (length front)) (budget (suc (length front)))
  pub told : (front : List Pipeline) (p : Pipeline) (back : List Pipeline) (stoods : List Stood) → building ≡ front ++ p ∷ back → AreStood tables [] front stoods → (raised : ℕ) → Tells (fed_over tables stoods p).codes raised → Told raised
  pub gathered : (stoods : List Stood) → AreStood tables [] building stoods → GatherReach T n columns (literals_known T at texts words) tables u most N table_of g stoods gathering (budget (length building))
  pub told_gathered : (stoods : List Stood) → AreStood tables [] building stoods → (raised : ℕ) → Tells (fed_over tables stoods gathering).codes raised → Told raised
  pub walked : (stoods : List Stood) → AreStood tables [] building stoods → (fed_over tables stoods gathering).codes ≡ [] →
      WalkReach query g key values u most N (rows_met tables stoods gathering) (groups_paid u g (budget (length building)) (rows_met tables stoods gathering))
  pub told_walked : (stoods : List Stood) → AreStood tables [] building stoods → (fed_over tables stoods gathering).codes ≡ [] → (raised : ℕ) → Tells (walked_of query (rows_met tables stoods gathering)).codes raised → Told raised
