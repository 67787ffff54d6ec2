-- A table that was built serves the lookups that are spelled for it.
use Rattle.std.proofs.Common.{◌≡◌, ℕ, ◌<◌, Option, Some, List, [], ◌∷◌, ◌++◌, drop, length, map, refl, sym, ap, ap₂, ◌∙◌, subst}
use Rattle.std.proofs.lemmas.List.{length-map, map-append}
use Rattle.std.specs.List.{AllByRecursion}
use Rattle.qw_types.specs.Kind.{type_kind}
use Rattle.qw_types.specs.declared.kind.Kind.{Kind}
use Rattle.qw_types.specs.declared.value.Val.{Val}
use Rattle.qw_scalar.specs.Typing.{HasKind, kind_of}
use Rattle.qw_feed.specs.Cells.{kinds_of}
use Rattle.qw_feed.specs.Rows.{Row}
use Rattle.qw_table.specs.Joins.{sources_of}
use Rattle.qw_physical.specs.Courses.{column_of, sink_values}
use Rattle.qw_physical.specs.Physical.{Build, Probe, build}
use Rattle.qw_physical.specs.declared.pipeline.ReadColumn.{ReadColumn}
use Rattle.qw_operator.proofs.PairRows.{AreStored}
use Rattle.qw_operator.proofs.Served.{Serves}
use Rattle.qw_operator.proofs.SinkFeeds.{fields_kinds, fields_of}
use Rattle.qw_operator.proofs.Stood.{Stood}

-- an entry has the values of the columns that are kept behind its key
abbrev pub IsStoredEntry : (fields : ℕ) → List ReadColumn → List Val → Type 0
IsStoredEntry fields kept entry = AreStored kept (drop fields entry)

-- ---- a table and a lookup of the same keys and columns
columns_kinds : (columns : List ReadColumn) → map kind_of (map column_of columns) ≡ map (λ (c : ReadColumn). let k : Option Kind = Some (type_kind c.ty) in k) columns
columns_kinds [] = refl
columns_kinds (c ∷ columns) = ap (λ (ks : List (Option Kind)). (let k : Option Kind = Some (type_kind c.ty) in k) ∷ ks) (columns_kinds columns)

pub serves_built : (p : Probe) (b : Build) (st : Stood) → st.cells ≡ fields_of (sink_values (build b)) → st.fields ≡ length b.key → AllByRecursion HasKind (sink_values (build b)) → p.kept ≡ b.kept → map kind_of p.key ≡ map kind_of b.key →
    ((j : ℕ) → j < 1024 → AllByRecursion (λ (e : Row). IsStoredEntry (length b.key) b.kept e.values) (st.chains j)) → Serves p st
serves_built p b st cells_are fields_are kinds kept_is keys_alike stored =
    let many : length p.key ≡ length b.key = sym (length-map p.key kind_of) ∙ (ap (λ (ks : List (Option Kind)). length ks) keys_alike ∙ length-map b.key kind_of) in record {
      fields = fields_are ∙ sym many;
      kinds = ap (λ (fs : List _). kinds_of (sources_of fs)) cells_are
          ∙ (fields_kinds (sink_values (build b)) kinds
          ∙ (map-append kind_of b.key (map column_of b.kept)
          ∙ ap₂ (λ (x y : List (Option Kind)). x ++ y) (sym keys_alike) (columns_kinds b.kept ∙ ap (map (λ (c : ReadColumn). let k : Option Kind = Some (type_kind c.ty) in k)) (sym kept_is))));
      stored = λ j low. subst (λ (n : ℕ). AllByRecursion (λ (e : Row). AreStored p.kept (drop n e.values)) (st.chains j)) (sym many)
          (subst (λ (columns : List ReadColumn). AllByRecursion (λ (e : Row). AreStored columns (drop (length b.key) e.values)) (st.chains j)) (sym kept_is) (stored j low));
    }
