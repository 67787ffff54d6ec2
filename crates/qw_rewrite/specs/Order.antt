-- The order of joins. A well placed plan without LEFT JOIN, of whose FROM nothing can raise, has the same rows over its entries in any order
-- (ISO/IEC 9075:1992, 7.4, 7.5); the one here is told by how many rows the tables have. Entries keep their numbers, and so do columns.
use Rattle.std.specs.Prelude.{ℕ, zero, suc, ◌+◌, nat_lt, Bool, true, false, not, ◌&&◌, if◌then◌else◌, List, [], ◌∷◌, ◌++◌, length, get_or}
use Rattle.std.specs.List.{list_any}
use Rattle.qw_scalar.specs.Expression.{Condition}
use Rattle.qw_algebra.specs.Columns.{is_of}
use Rattle.qw_algebra.specs.Node.{Node, scan, filter, join, project}
use Rattle.qw_rewrite.specs.Placed.{conjuncts_of}
use Rattle.qw_rewrite.specs.Probe.{is_eligible, keyed}
use Rattle.qw_rewrite.specs.Sift.{is_quiet, quiet_front, sifted}

-- an entry of FROM, by its number, and its table
pub record Scanned : Type 0 where
  pub entry : ℕ
  pub table : ℕ

-- ---- the first of a list that none of the others comes before, and those in their order
pub record Chosen (A : Type 0) : Type 0 where
  pub one : A
  pub others : List A

abbrev pub chosen_by : {A : Type 0} → (before : Bool) → A → (rest : List A) → Chosen A → Chosen A
chosen_by true x rest c = record { one = c.one; others = x ∷ c.others }
chosen_by false x rest c = record { one = x; others = rest }

abbrev pub choose : {A : Type 0} → (comes_before : A → A → Bool) → A → List A → Chosen A
choose comes_before x [] = record { one = x; others = [] }
choose comes_before x (y ∷ ys) = chosen_by (comes_before (choose comes_before y ys).one x) x (y ∷ ys) (choose comes_before y ys)

-- ---- the order
module _ (counts : List ℕ) (free : List Condition) where
  abbrev pub count : Scanned → ℕ
  count e = get_or counts e.table 0

  abbrev pub more_rows : Scanned → Scanned → Bool
  more_rows a b = nat_lt (count b) (count a)

  -- a free equality has one side of columns of the entry alone, and one of columns of entries taken alone, alike
  abbrev pub is_linked : (taken : List ℕ) → Scanned → Bool
  is_linked taken e = list_any (is_eligible (is_of taken) (is_of (e.entry ∷ []))) free

  -- those with one come before those without, and of either those of fewer rows
  abbrev pub comes_next : (taken : List ℕ) → Scanned → Scanned → Bool
  comes_next taken a b =
      if is_linked taken a then (if is_linked taken b then nat_lt (count a) (count b) else true)
      else (if is_linked taken b then false else nat_lt (count a) (count b))

  -- so many entries that are left, one after another
  abbrev pub next_ones : (many : ℕ) → (taken : List ℕ) → List Scanned → List Scanned
  next_ones zero taken left = left
  next_ones (suc many) taken [] = []
  next_ones (suc many) taken (x ∷ xs) =
      (choose (comes_next taken) x xs).one ∷ next_ones many ((choose (comes_next taken) x xs).one.entry ∷ taken) (choose (comes_next taken) x xs).others

  -- the first is that of the most rows; ties go by the text
  abbrev pub in_order : List Scanned → List Scanned
  in_order [] = []
  in_order (x ∷ xs) = (choose more_rows x xs).one ∷ next_ones (length xs) ((choose more_rows x xs).one.entry ∷ []) (choose more_rows x xs).others

-- ---- the plan
abbrev pub scans_of : Node → List Scanned
scans_of (scan entry table) = record { entry = entry; table = table } ∷ []
scans_of (filter conjuncts below) = scans_of below
scans_of (join outer left right on keys) = scans_of left ++ scans_of right
scans_of (project below items) = scans_of below

-- entries as their product, left-deep
abbrev pub product_behind : Node → List Scanned → Node
product_behind node [] = node
product_behind node (e ∷ es) = product_behind (join false node (scan e.entry e.table) [] []) es

abbrev pub product_of : List Scanned → Node
product_of [] = scan 0 0
product_of (e ∷ es) = product_behind (scan e.entry e.table) es

-- joins are inner alone
abbrev pub is_inner : Node → Bool
is_inner (scan entry table) = true
is_inner (filter conjuncts below) = is_inner below
is_inner (join outer left right on keys) = not outer && (is_inner left && is_inner right)
is_inner (project below items) = is_inner below

-- FROM and WHERE over entries in another order, with all conjuncts at WHERE, those of FROM first
abbrev pub rearranged : (counts : List ℕ) → (conjuncts : List Condition) → (from : Node) → Node
rearranged counts conjuncts from =
    filter (conjuncts_of from ++ conjuncts) (product_of (in_order counts (quiet_front (conjuncts_of from ++ conjuncts)) (scans_of from)))

-- A plan is reordered exactly where FROM has no LEFT JOIN and nothing of it can raise; then its conjuncts are placed anew.
abbrev pub ordered_as : (reorders : Bool) → (counts : List ℕ) → (conjuncts : List Condition) → (from : Node) → Node
ordered_as true counts conjuncts from = keyed true (sifted true [] (rearranged counts conjuncts from))
ordered_as false counts conjuncts from = filter conjuncts from

abbrev pub ordered : (counts : List ℕ) → Node → Node
ordered counts (scan entry table) = scan entry table
ordered counts (filter conjuncts from) = ordered_as (is_inner from && is_quiet from) counts conjuncts from
ordered counts (join outer left right on keys) = join outer left right on keys
ordered counts (project below items) = project (ordered counts below) items

-- ---- the side that is built
-- the rows of the tables of a plan's entries, all together
abbrev pub rows_below : (counts : List ℕ) → Node → ℕ
rows_below counts (scan entry table) = get_or counts table 0
rows_below counts (filter conjuncts below) = rows_below counts below
rows_below counts (join outer left right on keys) = rows_below counts left + rows_below counts right
rows_below counts (project below items) = rows_below counts below

abbrev pub joined_by : (left_is_less : Bool) → (left right : Node) → (on : List Condition) → (keys : List ℕ) → Node
joined_by true left right on keys = join false right left on keys
joined_by false left right on keys = join false left right on keys

-- An inner join is built from the side of fewer rows, from the right one at a tie: what is built stands on the right. A LEFT JOIN is built from its
-- right side.
abbrev pub turned : (counts : List ℕ) → Node → Node
turned counts (scan entry table) = scan entry table
turned counts (filter conjuncts below) = filter conjuncts (turned counts below)
turned counts (join true left right on keys) = join true (turned counts left) (turned counts right) on keys
turned counts (join false left right on keys) = joined_by (nat_lt (rows_below counts left) (rows_below counts right)) (turned counts left) (turned counts right) on keys
turned counts (project below items) = project (turned counts below) items
