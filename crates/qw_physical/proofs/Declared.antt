-- Rows of a plan have at the columns of its entries values as they are declared.
use Rattle.std.proofs.Common.{◌≡◌, ◌∙◌, ◌⊎◌, ◌≤◌, ℕ, zero, suc, ◌+◌, ◌*◌, ◌/◌, ◌%◌, nat_eq, Bool, true, false, ◌&&◌, ◌||◌, List, [], ◌∷◌, ◌++◌, map, length, Option, Some, slice_get, inl, inr, refl, sym, ap, subst, arith}
use Rattle.std.specs.List.{AllByRecursion, AllZip}
use Rattle.qw_types.specs.Contents.{IsOfColumnType, rows_of}
use Rattle.qw_types.specs.Value.{IsSized}
use Rattle.qw_types.specs.declared.schema.ColumnType.{ColumnType}
use Rattle.qw_types.specs.declared.value.Val.{Val}
use Rattle.qw_types.specs.declared.value.Val.TheVariants.{Null, Num, Date, Text}
use Rattle.qw_scalar.specs.Expression.{Condition}
use Rattle.qw_meaning.specs.From.{at_places, first_of, merged}
use Rattle.qw_meaning.specs.Select.{AreOfEntries, Entry, IsOfEntry, Joined, Source, entries_in, entries_in_rows, entries_of, in_rows, with_nulls}
use Rattle.qw_meaning.proofs.FromLemmas.{cell, cell_behind, first_of_null, merged_cell}
use Rattle.qw_algebra.specs.Columns.{entries_below, owns}
use Rattle.qw_algebra.specs.Node.{Node, scan, filter, join, project, node_flow}
use Rattle.qw_algebra.specs.Written.{from_written, source_written, with_joins, with_sources}
use Rattle.qw_algebra.proofs.Lists.{all_map, all_more}
use Rattle.qw_rewrite.specs.Probe.{keyed}
use Rattle.qw_rewrite.specs.Sift.{beyond, is_clean_on, is_quiet, moved, sifted, within}
use Rattle.qw_rewrite.proofs.LeftJoins.{all_outer}
use Rattle.qw_rewrite.proofs.Pairs.{all_pairs, pairs}
use Rattle.qw_rewrite.proofs.Sifting.{IsOver, other_side, owns_join}
use Rattle.qw_rewrite.proofs.Stages.{kept_all}
use Rattle.qw_physical.specs.Sides.{column_in}
use Rattle.qw_physical.specs.declared.pipeline.ReadColumn.{ReadColumn}
use Rattle.qw_physical.proofs.Entries.{nat_is}
use Rattle.qw_physical.proofs.Placed.{F, IsReady}
use Rattle.qw_physical.proofs.QueryNulls.{NullAt, OuterRights, entry_among, none_more, one_more}
use Rattle.qw_leaves.proofs.LeafLists.{all_pairs as both_all}

-- ---- scans of a plan

abbrev pub AllScans : (ℕ → ℕ → Type 0) → Node → Type 0
AllScans P (scan entry table) = P entry table
AllScans P (filter conjuncts below) = AllScans P below
AllScans P (join outer left right on keys) = AllScans P left × AllScans P right
AllScans P (project below items) = AllScans P below

module _ (P : ℕ → ℕ → Type 0) where
  pub sifted_scans : (node : Node) (clean : Bool) (above : List Condition) → AllScans P node → AllScans P (sifted clean above node)
  sifted_scans (scan entry table) clean above h = h
  sifted_scans (filter conjuncts below) clean above h = sifted_scans below clean (moved (clean && is_quiet below) conjuncts ++ above) h
  sifted_scans (join true left right on keys) clean above h = (sifted_scans left clean (within left above) h.0, sifted_scans right (clean && is_quiet left) [] h.1)
  sifted_scans (join false left right on keys) clean above h =
      let down : List Condition = moved (is_clean_on clean left right) on ++ above in
      (sifted_scans left clean (within left down) h.0, sifted_scans right (clean && is_quiet left) (within right (beyond left down)) h.1)
  sifted_scans (project below items) clean above h = sifted_scans below clean above h

  pub keyed_scans : (node : Node) (clean : Bool) → AllScans P node → AllScans P (keyed clean node)
  keyed_scans (scan entry table) clean h = h
  keyed_scans (filter conjuncts below) clean h = keyed_scans below clean h
  keyed_scans (join outer left right on keys) clean h = (keyed_scans left clean h.0, keyed_scans right (clean && is_quiet left) h.1)
  keyed_scans (project below items) clean h = keyed_scans below clean h

  -- of entries from number `next` on
  abbrev pub Hold : ℕ → List Entry → Type 0
  Hold next [] = Unit {0}
  Hold next (e ∷ es) = P next e.table × Hold (next + 1) es

  hold_parts : (es fs : List Entry) (next : ℕ) → Hold next (es ++ fs) → Hold next es × Hold (next + length es) fs
  hold_parts [] fs next h =
      let count : next ≡ next + 0 = omega arith in
      (tt, subst (λ (n : ℕ). Hold n fs) count h)
  hold_parts (e ∷ es) fs next h =
      let rest = hold_parts es fs (next + 1) h.1 in
      let count : (next + 1) + length es ≡ next + suc (length es) = omega arith in
      ((h.0, rest.0), subst (λ (n : ℕ). Hold n fs) count rest.1)

  joins_scans : (joins : List Joined) (next : ℕ) (node : Node) → AllScans P node → Hold next (map (λ (j : Joined). j.entry) joins) → AllScans P (with_joins next node joins)
  joins_scans [] next node h g = h
  joins_scans (j ∷ joins) next node h g = joins_scans joins (next + 1) (join j.outer node (scan next j.entry.table) j.on []) (h, g.0) g.1

  source_scans : (source : Source) (first : ℕ) → Hold first (entries_in source) → AllScans P (source_written first source)
  source_scans source first g = joins_scans source.joins (first + 1) (scan first source.first.table) g.0 g.1

  sources_scans : (sources : List Source) (next : ℕ) (node : Node) → AllScans P node → Hold next (entries_of sources) → AllScans P (with_sources next node sources)
  sources_scans [] next node h g = h
  sources_scans (source ∷ sources) next node h g =
      let p = hold_parts (entries_in source) (entries_of sources) next g in
      sources_scans sources (next + length (entries_in source)) (join false node (source_written next source) [] []) (h, source_scans source next p.0) p.1

  pub from_scans : (sources : List Source) → 1 ≤ length sources → Hold 0 (entries_of sources) → AllScans P (from_written sources)
  from_scans [] some g = absurd (omega (arith, some))
  from_scans (source ∷ sources) some g =
      let p = hold_parts (entries_in source) (entries_of sources) 0 g in
      let count : 0 + length (entries_in source) ≡ length (entries_in source) = omega arith in
      sources_scans sources (length (entries_in source)) (source_written 0 source) (source_scans source 0 p.0) (subst (λ (n : ℕ). Hold n (entries_of sources)) count p.1)

-- ---- values of columns

or_false : (b : Bool) → (b || false) ≡ true → b ≡ true
or_false true h = refl
or_false false h = h

pub or_parts : (a b : Bool) → (a || b) ≡ true → (a ≡ true) ⊎ (b ≡ true)
or_parts true b h = inl refl
or_parts false b h = inr h

row_declared : (columns : List ColumnType) (row : List Val) → AllZip IsOfColumnType columns row → (j : ℕ) (c : ColumnType) → slice_get columns j ≡ Some c → IsOfColumnType c (cell row j)
row_declared [] row h j c e = absurd cc
row_declared (d ∷ columns) [] h j c e = absurd h
row_declared (d ∷ columns) (v ∷ row) h zero c e =
    let same : d ≡ c = cc in
    subst (λ (t : ColumnType). IsOfColumnType t v) same h.0
row_declared (d ∷ columns) (v ∷ row) h (suc j) c e = row_declared columns row h.1 j c e

-- the columns of an entry, as it is declared and as rows have it: values of the ones are of the others
abbrev IsInRows : Entry → Entry → Type 0
IsInRows e f = (row : List Val) → AllZip IsOfColumnType e.columns row → AllZip IsOfColumnType f.columns row

value_with_nulls : (c : ColumnType) (v : Val) → IsOfColumnType c v → IsOfColumnType (with_nulls c) v
value_with_nulls c Null h = refl
value_with_nulls c (Num n) h = h
value_with_nulls c (Date d) h = h
value_with_nulls c (Text t) h = h

row_with_nulls : (columns : List ColumnType) (row : List Val) → AllZip IsOfColumnType columns row → AllZip IsOfColumnType (map with_nulls columns) row
row_with_nulls [] [] h = tt
row_with_nulls [] (v ∷ row) h = absurd h
row_with_nulls (c ∷ columns) [] h = absurd h
row_with_nulls (c ∷ columns) (v ∷ row) h = (value_with_nulls c v h.0, row_with_nulls columns row h.1)

in_row : (outer : Bool) (e : Entry) → IsInRows e (in_rows outer e)
in_row true e row h = row_with_nulls e.columns row h
in_row false e row h = h

joins_then : (joins : List Joined) (es fs : List Entry) → AllZip IsInRows es fs → AllZip IsInRows (map (λ (j : Joined). j.entry) joins ++ es) (map (λ (j : Joined). in_rows j.outer j.entry) joins ++ fs)
joins_then [] es fs h = h
joins_then (j ∷ joins) es fs h = (in_row j.outer j.entry, joins_then joins es fs h)

all_in_rows : (sources : List Source) → AllZip IsInRows (entries_of sources) (entries_in_rows sources)
all_in_rows [] = tt
all_in_rows (source ∷ sources) = ((λ row h. h), joins_then source.joins (entries_of sources) (entries_in_rows sources) (all_in_rows sources))

-- of entries as rows have them
module _ (known : List Entry) where
  abbrev pub IsDeclared : (owned : ℕ → Bool) → List Val → Type 0
  IsDeclared owned row = (i : ℕ) → owned i ≡ true → (c : ColumnType) → column_in (slice_get known (i / 64)) (i % 64) ≡ Some c → IsOfColumnType c (cell row i)

  module _ (tables : List (List (List Val))) where
    abbrev pub ScanDeclared : ℕ → ℕ → Type 0
    ScanDeclared entry table = AllByRecursion (λ row. IsDeclared (owns (scan entry table)) (at_places entry row)) (rows_of tables table)

    place_is : (n i : ℕ) → n ≡ i / 64 → i ≡ 64 * n + i % 64
    place_is n i e = omega (arith, e)

    scan_declared : (next table : ℕ) (e : Entry) → slice_get known next ≡ Some e → AllByRecursion (AllZip IsOfColumnType e.columns) (rows_of tables table) → ScanDeclared next table
    scan_declared next table e there typed =
        all_more (AllZip IsOfColumnType e.columns) (λ row. IsDeclared (owns (scan next table)) (at_places next row)) (rows_of tables table)
        (λ row h i own c col.
        let here : next ≡ i / 64 = nat_is next (i / 64) (or_false (nat_eq next (i / 64)) own) in
        let entry : slice_get known (i / 64) ≡ Some e = subst (λ (k : ℕ). slice_get known k ≡ Some e) here there in
        let found : slice_get e.columns (i % 64) ≡ Some c = subst (λ (o : Option Entry). column_in o (i % 64) ≡ Some c) entry col in
        let value : cell (at_places next row) i ≡ cell row (i % 64) = ap (cell (at_places next row)) (place_is next i here) ∙ cell_behind (64 * next) (i % 64) row in
        subst (IsOfColumnType c) (sym value) (row_declared e.columns row h (i % 64) c found)) typed

    hold_all : (es fs : List Entry) (next : ℕ) → ((k : ℕ) → slice_get known (next + k) ≡ slice_get fs k) → AllZip IsInRows es fs → AllByRecursion (IsOfEntry tables) es → Hold ScanDeclared next es
    hold_all [] [] next at z of = tt
    hold_all [] (f ∷ fs) next at z of = absurd z
    hold_all (e ∷ es) [] next at z of = absurd z
    hold_all (e ∷ es) (f ∷ fs) next at z of = (
      scan_declared next e.table f (ap (slice_get known) (none_more next) ∙ at 0)
          (all_more (AllZip IsOfColumnType e.columns) (AllZip IsOfColumnType f.columns) (rows_of tables e.table) z.0 of.0.typed),
      hold_all es fs (next + 1) (λ k. ap (slice_get known) (one_more next k) ∙ at (suc k)) z.1 of.1,
    )

    module _ (entries : List Entry) (columns : List ReadColumn) (sized : AllByRecursion (λ (e : Entry). AllByRecursion (λ (c : ColumnType). IsSized c.ty) e.columns) entries) where
      -- rows of a plan that keep this, with those of a join
      abbrev Both : Node → List Val → Type 0
      Both node row = IsDeclared (owns node) row × IsOver tables (F entries tables columns sized) (owns node) row

      merged_declared : (outer : Bool) (left right : Node) (on : List Condition) (keys : List ℕ) → ((i : ℕ) → owns left i ≡ true → owns right i ≡ false) → (l r : List Val) → Both left l → Both right r
          → IsDeclared (owns (join outer left right on keys)) (merged l r)
      merged_declared outer left right on keys apart l r hl hr i own c col =
          subst (IsOfColumnType c) (sym (merged_cell l r i)) (one (or_parts (owns left i) (owns right i) (sym (owns_join outer left right on keys i) ∙ own)))
        where
          one : (owns left i ≡ true) ⊎ (owns right i ≡ true) → IsOfColumnType c (first_of (cell l i) (cell r i))
          one (inl e) = subst (IsOfColumnType c) (sym (ap (first_of (cell l i)) (hr.1.elsewhere i (apart i e)) ∙ first_of_null (cell l i))) (hl.0 i e c col)
          one (inr e) =
              subst (IsOfColumnType c) (sym (ap (λ (v : Val). first_of v (cell r i)) (hl.1.elsewhere i (other_side (owns left i) (owns right i) (apart i) e)))) (hr.0 i e c col)

      -- a row of the left side of a LEFT JOIN by itself, null where the right side's columns may be
      alone_declared : (left right : Node) (on : List Condition) (keys : List ℕ) → ((i : ℕ) → owns left i ≡ true → owns right i ≡ false) → AllByRecursion (NullAt known) (entries_below right) → (l : List Val)
          → Both left l → IsDeclared (owns (join true left right on keys)) l
      alone_declared left right on keys apart nulls l hl i own c col = one (or_parts (owns left i) (owns right i) (sym (owns_join true left right on keys i) ∙ own))
        where
          one : (owns left i ≡ true) ⊎ (owns right i ≡ true) → IsOfColumnType c (cell l i)
          one (inl e) = hl.0 i e c col
          one (inr e) =
              subst (IsOfColumnType c) (sym (hl.1.elsewhere i (other_side (owns left i) (owns right i) (apart i) e))) (entry_among (NullAt known) (entries_below right) (i / 64) e nulls (i % 64) c col)

      pub rows_declared : (node : Node) → IsReady entries tables columns sized node → AllScans ScanDeclared node → OuterRights (NullAt known) node → AllByRecursion (IsDeclared (owns node)) (node_flow tables node).rows
      rows_declared (scan entry table) ready h nulls = all_map (IsDeclared (owns (scan entry table))) (at_places entry) (rows_of tables table) h
      rows_declared (filter conjuncts below) ready h nulls = kept_all (IsDeclared (owns below)) conjuncts (node_flow tables below).rows (rows_declared below ready.1 h nulls)
      rows_declared (join true left right on keys) ready h nulls =
          let over : ℕ → Val → Type 0 = F entries tables columns sized in
          all_outer (IsDeclared (owns (join true left right on keys))) (Both left) (Both right) on (node_flow tables left) (node_flow tables right)
          (merged_declared true left right on keys ready.0.apart) (alone_declared left right on keys ready.0.apart (nulls.0 refl))
          (both_all (IsDeclared (owns left)) (IsOver tables over (owns left)) (node_flow tables left).rows (rows_declared left ready.1.0 h.0 nulls.1.0) ready.0.over_left)
          (both_all (IsDeclared (owns right)) (IsOver tables over (owns right)) (node_flow tables right).rows (rows_declared right ready.1.1 h.1 nulls.1.1) ready.0.over_right)
      rows_declared (join false left right on keys) ready h nulls =
          let over : ℕ → Val → Type 0 = F entries tables columns sized in
          kept_all (IsDeclared (owns (join false left right on keys))) on (pairs (node_flow tables left).rows (node_flow tables right).rows)
          (all_pairs (IsDeclared (owns (join false left right on keys))) (Both left) (Both right) (node_flow tables left).rows (node_flow tables right).rows
          (merged_declared false left right on keys ready.0.apart)
          (both_all (IsDeclared (owns left)) (IsOver tables over (owns left)) (node_flow tables left).rows (rows_declared left ready.1.0 h.0 nulls.1.0) ready.0.over_left)
          (both_all (IsDeclared (owns right)) (IsOver tables over (owns right)) (node_flow tables right).rows (rows_declared right ready.1.1 h.1 nulls.1.1) ready.0.over_right))
      rows_declared (project below items) ready h nulls = absurd ready

-- scans of FROM
pub written_declared : (tables : List (List (List Val))) (sources : List Source) → 1 ≤ length sources → AreOfEntries (entries_of sources) tables → AllScans (ScanDeclared (entries_in_rows sources) tables) (from_written sources)
written_declared tables sources some of =
    from_scans (ScanDeclared (entries_in_rows sources) tables) sources some
    (hold_all (entries_in_rows sources) tables (entries_of sources) (entries_in_rows sources) 0 (λ k. ap (slice_get (entries_in_rows sources)) (from_none k)) (all_in_rows sources) of)
  where
    from_none : (k : ℕ) → 0 + k ≡ k
    from_none k = omega arith
