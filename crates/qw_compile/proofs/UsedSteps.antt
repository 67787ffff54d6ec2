-- One more column of a layout, and the tables of one more source of FROM.
use Rattle.std.proofs.Common.{◌≡◌, ◌∙◌, ◌<◌, ℕ, zero, suc, ◌+◌, ◌/◌, ◌%◌, Bool, Option, Some, slice_get, get_or, take, List, [], ◌∷◌, ◌++◌, length, map, refl, sym, ap, ap₂, subst, append_assoc, append-nil, arith}
use Rattle.std.specs.List.{AllByRecursion}
use Rattle.std.proofs.lemmas.List.{get_or_default, length-map, map-append}
use Rattle.std.proofs.lemmas.Option.{same_Some}
use Rattle.qw_types.specs.declared.schema.ColumnType.{ColumnType}
use Rattle.qw_types.specs.declared.value.Ty.{Ty}
use Rattle.qw_map.specs.declared.layout.Used.{Used}
use Rattle.qw_meaning.specs.Query.{joined_of, source_of}
use Rattle.qw_meaning.specs.Select.{Entry, Joined, entries_in, entries_of}
use Rattle.qw_meaning.specs.declared.query.Joined as coded_join
use Rattle.qw_meaning.specs.declared.query.Source as coded_source
use Rattle.qw_physical.specs.Named.{IsDeclared, columns_of_entries, numbers}
use Rattle.qw_physical.specs.Named as named
use Rattle.qw_physical.specs.declared.pipeline.ReadColumn.{ReadColumn}
use Rattle.qw_physical.proofs.Folds.{taken, zip_push}
use Rattle.qw_compile.specs.UsedColumns.{AreUsedAt, IsUsedAt}

-- the tables of entries
abbrev pub tables_in : List Entry → List ℕ
tables_in entries = map (λ (e : Entry). e.table) entries

-- ---- sources
joined_are : (joins : List coded_join.Joined) → tables_in (map (λ (j : Joined). j.entry) (map joined_of joins)) ≡ map (λ (j : coded_join.Joined). j.entry.table) joins
joined_are [] = refl
joined_are (j ∷ joins) = ap (λ (l : List ℕ). j.entry.table ∷ l) (joined_are joins)

sources_push : (sources : List coded_source.Source) (source : coded_source.Source) →
    tables_in (entries_of (map source_of (sources ++ source ∷ []))) ≡ tables_in (entries_of (map source_of sources)) ++ (source.first.table ∷ map (λ (j : coded_join.Joined). j.entry.table) source.joins.items)
sources_push [] source = ap tables_in (append-nil (entries_in (source_of source))) ∙ ap (λ (l : List ℕ). source.first.table ∷ l) (joined_are source.joins.items)
sources_push (other ∷ sources) source =
    let front = entries_in (source_of other) in
    let more = source.first.table ∷ map (λ (j : coded_join.Joined). j.entry.table) source.joins.items in
    map-append (λ (e : Entry). e.table) front (entries_of (map source_of (sources ++ source ∷ [])))
    ∙ (ap (λ (l : List ℕ). tables_in front ++ l) (sources_push sources source)
    ∙ (sym (append_assoc (tables_in front) (tables_in (entries_of (map source_of sources))) more)
    ∙ ap (λ (l : List ℕ). l ++ more) (sym (map-append (λ (e : Entry). e.table) front (entries_of (map source_of sources))))))

pub next_tables : (sources : List coded_source.Source) (i : ℕ) (source : coded_source.Source) (before middle after : List ℕ) (joins : List coded_join.Joined) → i < length sources → source ≡ get_or sources i source →
    before ≡ tables_in (entries_of (map source_of (take i sources))) → middle ≡ before ++ source.first.table ∷ [] → joins ≡ source.joins.items → after ≡ middle ++ map (λ (j : coded_join.Joined). j.entry.table) joins →
    after ≡ tables_in (entries_of (map source_of (take (i + 1) sources)))
next_tables sources i source before middle after joins less is old one more two =
    let tables : List coded_join.Joined → List ℕ = map (λ (j : coded_join.Joined). j.entry.table) in
    two ∙ (ap₂ (λ (l m : List ℕ). l ++ m) one (ap tables more)
    ∙ (append_assoc before (source.first.table ∷ []) (tables source.joins.items)
    ∙ (ap (λ (l : List ℕ). l ++ (source.first.table ∷ tables source.joins.items)) old
    ∙ (sym (sources_push (take i sources) source) ∙ sym (ap (λ (l : List coded_source.Source). tables_in (entries_of (map source_of l))) (taken sources i source less is))))))

-- ---- columns
entry_within : (entries : List Entry) (e k : ℕ) (d : ColumnType) → named.column_in (slice_get (columns_of_entries entries) e) k ≡ Some d → e < length entries
entry_within [] e k d h = absurd cc
entry_within (entry ∷ entries) zero k d h = omega arith
entry_within (entry ∷ entries) (suc e) k d h = let rest = entry_within entries e k d h in omega (arith, rest)

declared_at_index : (entries : List Entry) (columns : List ReadColumn) (i : ℕ) (c : ReadColumn) → AllByRecursion (IsDeclared (columns_of_entries entries)) columns → i < length columns → IsDeclared (columns_of_entries entries) (get_or columns i c)
declared_at_index entries [] i c h less = absurd (omega (arith, less))
declared_at_index entries (d ∷ columns) zero c h less = h.0
declared_at_index entries (d ∷ columns) (suc i) c h less = declared_at_index entries columns i c h.1 (omega (arith, less))

-- its entry has a table
pub entry_there : (entries : List Entry) (columns : List ReadColumn) (tables : List ℕ) (i : ℕ) (c : ReadColumn) → AllByRecursion (IsDeclared (columns_of_entries entries)) columns → tables ≡ tables_in entries → i < length columns →
    (get_or columns i c).number / 64 < length tables
entry_there entries columns tables i c declared is less =
    let d : ReadColumn = get_or columns i c in
    let there = entry_within entries (d.number / 64) (d.number % 64) (record { ty = d.ty; not_null = d.not_null }) (declared_at_index entries columns i c declared less) in
    let many : length tables ≡ length entries = ap (λ (l : List ℕ). length l) is ∙ length-map entries (λ (e : Entry). e.table) in
    omega (arith, there, many)

table_stands : (entries : List Entry) (k t : ℕ) → slice_get (tables_in entries) k ≡ Some t → (e : Entry) × (slice_get entries k ≡ Some e) × (t ≡ e.table)
table_stands [] k t h = absurd cc
table_stands (e ∷ entries) zero t h = (e, refl, sym (same_Some e.table t h))
table_stands (e ∷ entries) (suc k) t h = table_stands entries k t h

columns_at : (entries : List Entry) (k j : ℕ) (e : Entry) → slice_get entries k ≡ Some e → named.column_in (slice_get (columns_of_entries entries) k) j ≡ slice_get e.columns j
columns_at [] k j e there = absurd cc
columns_at (x ∷ entries) zero j e there = ap (λ (one : Entry). slice_get one.columns j) (same_Some x e there)
columns_at (x ∷ entries) (suc k) j e there = columns_at entries k j e there

-- as a column that is read is declared in its entry
pub declared_in : (entries : List Entry) (c : ReadColumn) (e : Entry) → slice_get entries (c.number / 64) ≡ Some e → IsDeclared (columns_of_entries entries) c → slice_get e.columns (c.number % 64) ≡ Some (record { ty = c.ty; not_null = c.not_null })
declared_in entries c e there declared = sym (columns_at entries (c.number / 64) (c.number % 64) e there) ∙ declared

pub used_at : (entries : List Entry) (columns : List ReadColumn) (tables : List ℕ) (i : ℕ) (d : ReadColumn) (u : Used) → AllByRecursion (IsDeclared (columns_of_entries entries)) columns → i < length columns → tables ≡ tables_in entries →
    slice_get tables ((get_or columns i d).number / 64) ≡ Some u.table → u.column ≡ (get_or columns i d).number % 64 → u.ty ≡ (get_or columns i d).ty → u.not_null ≡ (get_or columns i d).not_null → IsUsedAt entries (get_or columns i d).number u
used_at entries columns tables i d u declared less is table place type null =
    let c : ReadColumn = get_or columns i d in
    let found = table_stands entries (c.number / 64) u.table (ap (λ (l : List ℕ). slice_get l (c.number / 64)) (sym is) ∙ table) in
    record {
      entry = found.0;
      stands = found.1;
      table_is = found.2;
      column_is = place;
      declared = declared_in entries c found.0 found.1 (declared_at_index entries columns i d declared less)
          ∙ ap₂ same (sym type) (sym null);
    }
  where
    same : Ty → Bool → Option ColumnType
    same t n = Some (record { ty = t; not_null = n })

numbers_next : (columns : List ReadColumn) (i : ℕ) (d : ReadColumn) → i < length columns → numbers (take (i + 1) columns) ≡ numbers (take i columns) ++ (get_or columns i d).number ∷ []
numbers_next columns i d less =
    let c : ReadColumn = get_or columns i d in
    ap numbers (taken columns i c less (get_or_default columns i d c less)) ∙ map-append (λ (x : ReadColumn). x.number) (take i columns) (c ∷ [])

pub next_used : (entries : List Entry) (columns : List ReadColumn) (used after : List Used) (i : ℕ) (d : ReadColumn) (u : Used) → i < length columns → AreUsedAt entries (numbers (take i columns)) used → IsUsedAt entries (get_or columns i d).number u →
    after ≡ used ++ u ∷ [] → AreUsedAt entries (numbers (take (i + 1) columns)) after
next_used entries columns used after i d u less before one is =
    subst (λ (l : List Used). AreUsedAt entries (numbers (take (i + 1) columns)) l) (sym is)
    (subst (λ (l : List ℕ). AreUsedAt entries l (used ++ u ∷ [])) (sym (numbers_next columns i d less)) (zip_push (IsUsedAt entries) (numbers (take i columns)) used (get_or columns i d).number u before one))
