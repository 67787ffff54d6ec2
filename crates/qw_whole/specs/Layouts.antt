-- The layout that the module of a query has, as the query tells it: which columns of which tables its descriptor has, in which order, and which text
-- literals stand behind them (ISO/IEC 9075:1992, 5.3, 6.4). docs/FORMATS.md, "The linear memory", tells a host the same.
use Rattle.std.specs.Prelude.{◌≡◌, ℕ, ◌==◌, Bool, if◌then◌else◌, List, [], ◌∷◌, ◌++◌, length}
use Rattle.std.specs.List.{concat, flat_map, list_any}
use Rattle.std.specs.Str.{bytes_eq}
use Rattle.qw_leaves.specs.declared.leaf.Leaf.{Leaf}
use Rattle.qw_leaves.specs.Leaves.{columns_among, condition_leaves, leaves, texts_among}
use Rattle.qw_meaning.specs.Select.{Specification, conjuncts_on, entries_of}
use Rattle.qw_grouped.specs.Grouped.{front}
use Rattle.qw_grouped.specs.Whole.{Body, Whole, grouped, plain, sources_in}
use Rattle.qw_physical.specs.Named.{and_firsts}
use Rattle.qw_map.specs.Layout.{Layout}
use Rattle.qw_compile.specs.UsedColumns.{AreUsedAt}
use Rattle.qw_whole.specs.WholePromises.{planned_in}

-- ---- each once

-- an element behind others, where it is none of them
abbrev pub and_new : {T : Type 0} → (same : T → T → Bool) → List T → T → List T
and_new same xs x = if list_any (λ y. same y x) xs then xs else xs ++ x ∷ []

-- elements one after another behind others, each where it is none of them
abbrev pub and_all_new : {T : Type 0} → (same : T → T → Bool) → List T → (more : List T) → List T
and_all_new same xs [] = xs
and_all_new same xs (x ∷ more) = and_all_new same (and_new same xs x) more

-- each element of a list once, in the order in which they stand first
abbrev pub each_once : {T : Type 0} → (same : T → T → Bool) → List T → List T
each_once same xs = and_all_new same [] xs

-- ---- in the order of the text

-- the columns and literals of a specification: those of each ON (7.5), then those of WHERE (7.6), then those of the select list (7.9)
abbrev pub leaves_of : Specification → List Leaf
leaves_of query = flat_map condition_leaves (conjuncts_on query.sources) ++ (flat_map condition_leaves query.conjuncts ++ flat_map leaves query.items)

-- ---- columns

-- The columns that are read, by their numbers in rows of FROM: each that is named once, in the order in which they are first named, those of GROUP BY
-- and of the arguments of set functions behind those of WHERE (7.7); and then, of each entry of FROM of which none is named, the first.
abbrev pub columns_read : Body → List ℕ
columns_read body = and_firsts (each_once (λ (j i : ℕ). j == i) (columns_among (leaves_of (planned_in body)))) 0 (length (entries_of (sources_in body)))

-- ---- text literals

-- The text literals, in the order in which they stand: of a grouped query those of HAVING (7.8) and of the select list behind those of the arguments
-- of set functions. An abbreviation repeats some, as `COALESCE` its arguments (6.9).
abbrev pub texts_of : Body → List (List ℕ)
texts_of (plain specification) = texts_among (leaves_of specification)
texts_of (grouped query) = texts_among (leaves_of (front query) ++ (flat_map condition_leaves query.having ++ flat_map leaves query.items))

-- ---- the layout

-- Its columns are exactly those that are read, each as its table declares it. The octets behind them are those of the query's text literals, one text right
-- behind another, in the order in which they first stand. How often each lies there, and where again, isn't told here.
pub record IsLayoutOf (whole : Whole) (layout : Layout) : Type 0 where
  pub columns : AreUsedAt (entries_of (sources_in whole.body)) (columns_read whole.body) layout.columns
  pub texts : List (List ℕ)
  pub octets : layout.literals ≡ concat texts
  pub texts_are : each_once bytes_eq texts ≡ each_once bytes_eq (texts_of whole.body)
