-- The layout of each kind of query is the one that the query tells: its columns are those that its pipelines read, its octets those of the texts that are written for it.
use Rattle.std.proofs.Common.{◌≡◌, ◌∙◌, ℕ, Bool, List, ◌++◌, length, Result, Ok, Err, IfOk, refl, sym, ap, subst}
use Rattle.std.specs.List.{concat, flat_map}
use Rattle.qw_scalar.specs.Texts.{texts_in, texts_within}
use Rattle.qw_map.specs.Layout.{Layout}
use Rattle.qw_map.specs.declared.layout.Used.{Used}
use Rattle.qw_meaning.specs.Query.{QueryParts, query_of}
use Rattle.qw_meaning.specs.Select.{Specification, entries_of}
use Rattle.qw_grouped.specs.Grouped.{front}
use Rattle.qw_grouped.specs.Query.{GroupedParts, grouped_of}
use Rattle.qw_grouped.specs.Whole.{grouped, plain}
use Rattle.qw_physical.specs.Named.{and_firsts, named_by, numbers}
use Rattle.qw_physical.specs.declared.pipeline.ReadColumn.{ReadColumn}
use Rattle.qw_compile.specs.QueryColumns.{AreColumnsOf}
use Rattle.qw_compile.specs.UsedColumns.{AreUsedAt}
use Rattle.qw_compile.specs.WrittenTexts.{texts_of_query}
use Rattle.qw_compile.specs.declared.compile.CompileFault.{CompileFault}
use Rattle.qw_compile.specs.declared.compile.Compiled.{Compiled}
use Rattle.qw_whole.specs.Layouts.{IsLayoutOf}
use Rattle.qw_whole.proofs.LayoutLemmas.{grouped_layout, plain_layout}
use Rattle.qw_compile_whole.specs.WholeTexts.{front_texts, texts_of_grouped}

-- of a query that isn't grouped, without DISTINCT and with it
pub plain_told : (parts : QueryParts) (distinct : Bool) (r : Result Compiled CompileFault) →
    IfOk r (λ (compiled : Compiled). AreUsedAt (entries_of (query_of parts).sources) (and_firsts (named_by parts) 0 (length (entries_of (query_of parts).sources))) compiled.layout.columns) →
    IfOk r (λ (compiled : Compiled). compiled.layout.literals ≡ concat (texts_of_query parts)) → IfOk r (λ (compiled : Compiled). IsLayoutOf (record { body = plain (query_of parts); distinct = distinct }) compiled.layout)
plain_told parts distinct (Err fault) columns texts = columns
plain_told parts distinct (Ok compiled) columns texts = plain_layout parts distinct compiled.layout columns texts

pub distinct_told : (parts : QueryParts) (distinct : Bool) (layout : Layout) (columns : List ReadColumn) (used : List Used) → numbers columns ≡ and_firsts (named_by parts) 0 (length (entries_of (query_of parts).sources)) →
    AreUsedAt (entries_of (query_of parts).sources) (numbers columns) used → layout.columns ≡ used → layout.literals ≡ concat (texts_of_query parts) → IsLayoutOf (record { body = plain (query_of parts); distinct = distinct }) layout
distinct_told parts distinct layout columns used read used_at used_are octets_are =
    plain_layout parts distinct layout
    (subst (λ (us : List Used). AreUsedAt (entries_of (query_of parts).sources) (and_firsts (named_by parts) 0 (length (entries_of (query_of parts).sources))) us) (sym used_are)
    (subst (λ (is : List ℕ). AreUsedAt (entries_of (query_of parts).sources) is used) read used_at))
    octets_are

-- of a grouped one, by what reaches GROUP BY
pub grouped_told : (parts : GroupedParts) (distinct : Bool) (layout : Layout) (before : QueryParts) (kept columns : List ReadColumn) (used : List Used) → query_of before ≡ front (grouped_of parts) → texts_of_query before ≡ front_texts parts →
    AreColumnsOf before kept columns → AreUsedAt (entries_of (grouped_of parts).sources) (numbers columns) used → layout.columns ≡ used → layout.literals ≡ concat (texts_of_grouped parts) →
    IsLayoutOf (record { body = grouped (grouped_of parts); distinct = distinct }) layout
grouped_told parts distinct layout before kept columns used before_is before_texts are used_at used_are octets_are =
    let read : numbers columns ≡ and_firsts (named_by before) 0 (length (entries_of (grouped_of parts).sources)) = are.read ∙ ap (λ (q : Specification). and_firsts (named_by before) 0 (length (entries_of q.sources))) before_is in
    grouped_layout (grouped_of parts) before parts.having parts.items before_is refl refl distinct layout
    (subst (λ (us : List Used). AreUsedAt (entries_of (grouped_of parts).sources) (and_firsts (named_by before) 0 (length (entries_of (grouped_of parts).sources))) us) (sym used_are)
    (subst (λ (is : List ℕ). AreUsedAt (entries_of (grouped_of parts).sources) is used) read used_at))
    (octets_are ∙ ap (λ (ts : List (List ℕ)). concat (ts ++ (flat_map texts_within parts.having ++ flat_map texts_in parts.items))) (sym before_texts))
