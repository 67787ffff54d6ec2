-- Columns as rows of FROM have them are of the types that they are declared with, NOT NULL there or not (ISO/IEC 9075:1992, 7.5).
use Rattle.std.proofs.Common.{◌≡◌, ◌∙◌, ℕ, zero, suc, ◌/◌, ◌%◌, Bool, true, false, Some, slice_get, List, [], ◌∷◌, ◌++◌, map, refl, sym, ap}
use Rattle.std.specs.List.{AllZip}
use Rattle.std.proofs.lemmas.Option.{same_Some}
use Rattle.qw_types.specs.declared.schema.ColumnType.{ColumnType}
use Rattle.qw_meaning.specs.Select.{Entry, Joined, Source, entries_in_rows, entries_of, in_rows, with_nulls}
use Rattle.qw_physical.specs.Named.{IsDeclared, columns_of_entries, declared_at}
use Rattle.qw_physical.specs.Named as named
use Rattle.qw_physical.specs.Sides.{IsOfEntries, column_in}
use Rattle.qw_physical.specs.declared.pipeline.ReadColumn.{ReadColumn}
use Rattle.qw_physical.proofs.Results.{column_by_lists}

-- a column of entries, by the lists of their columns
pub declared_of : (entries : List Entry) (c : ReadColumn) → IsDeclared (columns_of_entries entries) c → IsOfEntries entries c
declared_of entries c h = column_by_lists named.column_in (λ j. refl) (λ list j. refl) entries (c.number / 64) (c.number % 64) ∙ h

-- of its type, whether NOT NULL or not
abbrev pub IsTypedIn : List (List ColumnType) → ReadColumn → Type 0
IsTypedIn all c = (not_null : Bool) × (declared_at all c.number ≡ Some (record { ty = c.ty; not_null = not_null }))

abbrev AreRetyped : Entry → Entry → Type 0
AreRetyped f e = (k : ℕ) (c : ColumnType) → slice_get f.columns k ≡ Some c → (not_null : Bool) × (slice_get e.columns k ≡ Some (record { ty = c.ty; not_null = not_null }))

columns_retyped : (columns : List ColumnType) (k : ℕ) (c : ColumnType) → slice_get (map with_nulls columns) k ≡ Some c → (not_null : Bool) × (slice_get columns k ≡ Some (record { ty = c.ty; not_null = not_null }))
columns_retyped [] k c e = absurd cc
columns_retyped (d ∷ columns) zero c e = (d.not_null, ap (λ (x : ColumnType). Some (record { ty = x.ty; not_null = d.not_null })) (same_Some (with_nulls d) c e))
columns_retyped (d ∷ columns) (suc k) c e = columns_retyped columns k c e

same_retyped : (e : Entry) → AreRetyped e e
same_retyped e k c h = (c.not_null, h)

one_retyped : (outer : Bool) (e : Entry) → AreRetyped (in_rows outer e) e
one_retyped true e = columns_retyped e.columns
one_retyped false e = same_retyped e

joins_retyped : (joins : List Joined) (fs es : List Entry) → AllZip AreRetyped fs es
    → AllZip AreRetyped (map (λ (j : Joined). in_rows j.outer j.entry) joins ++ fs) (map (λ (j : Joined). j.entry) joins ++ es)
joins_retyped [] fs es h = h
joins_retyped (j ∷ joins) fs es h = (one_retyped j.outer j.entry, joins_retyped joins fs es h)

all_retyped : (sources : List Source) → AllZip AreRetyped (entries_in_rows sources) (entries_of sources)
all_retyped [] = tt
all_retyped (source ∷ sources) = (same_retyped source.first, joins_retyped source.joins (entries_in_rows sources) (entries_of sources) (all_retyped sources))

retyped_at : (fs es : List Entry) → AllZip AreRetyped fs es → (i k : ℕ) (c : ColumnType) → column_in (slice_get fs i) k ≡ Some c
    → (not_null : Bool) × (column_in (slice_get es i) k ≡ Some (record { ty = c.ty; not_null = not_null }))
retyped_at [] [] z i k c h = absurd cc
retyped_at [] (e ∷ es) z i k c h = absurd z
retyped_at (f ∷ fs) [] z i k c h = absurd z
retyped_at (f ∷ fs) (e ∷ es) z zero k c h = z.0 k c h
retyped_at (f ∷ fs) (e ∷ es) z (suc i) k c h = retyped_at fs es z.1 i k c h

-- a column in rows is one of the entries, of its type
pub typed_in_rows : (sources : List Source) (c : ReadColumn) → IsDeclared (columns_of_entries (entries_in_rows sources)) c → IsTypedIn (columns_of_entries (entries_of sources)) c
typed_in_rows sources c h =
    let there = retyped_at (entries_in_rows sources) (entries_of sources) (all_retyped sources) (c.number / 64) (c.number % 64) (record { ty = c.ty; not_null = c.not_null }) (declared_of (entries_in_rows sources) c h) in
    (there.0, sym (column_by_lists named.column_in (λ j. refl) (λ list j. refl) (entries_of sources) (c.number / 64) (c.number % 64)) ∙ there.1)
