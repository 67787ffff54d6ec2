-- What a query means is typed.
use Rattle.std.proofs.Common.{◌≡◌, ℕ, List, [], sym, ◌∙◌, subst, inl, inr}
use Rattle.std.specs.List.{AllByRecursion}
use Rattle.std.proofs.lemmas.Bool.{cases_Bool}
use Rattle.qw_types.specs.Schema.{AreColumns}
use Rattle.qw_types.specs.declared.schema.Table.{Table}
use Rattle.qw_order.specs.declared.sort_key.SortKey.{SortKey}
use Rattle.qw_grouped.specs.Whole.{IsBody, Whole}
use Rattle.qw_ast.specs.Limits.{entries_of}
use Rattle.qw_ast.specs.Syntax.{Select}
use Rattle.qw_typer.specs.Faults.{or_own}
use Rattle.qw_typer.specs.Grouping.{is_grouped}
use Rattle.qw_typer.specs.Typed.{IsWithin, Means, entries_faults, entries_named, order_faults, over_faults, whole_meant}
use Rattle.qw_typer.specs.Inner.Queries.{HaveTables}
use Rattle.qw_typer.proofs.GroupedLemmas.{group_meant, plain_meant, plain_over}
use Rattle.qw_typer.proofs.GroupedSound.{grouped_query}
use Rattle.qw_typer.proofs.LawLemmas.{specified_query, tables_known}
use Rattle.qw_typer.proofs.SoundLemmas.{no_own}

typed_meant : (schema : List Table) (s : Select) → HaveTables (entries_named schema s) → IsWithin s → over_faults schema s ≡ [] → IsBody (whole_meant schema s).body
typed_meant schema s tables within none = elim (cases_Bool (is_grouped s)) [
  | inl e ↦ subst (λ (w : Whole). IsBody w.body) (sym (group_meant schema s e)) (grouped_query schema s tables within e none)
  | inr e ↦ subst (λ (w : Whole). IsBody w.body) (sym (plain_meant schema s e)) (specified_query schema s tables within (sym (plain_over schema s e) ∙ none))
]

pub typed_query : (schema : List Table) (s : Select) (whole : Whole) (names : List (List ℕ)) (keys : List SortKey) → AllByRecursion (λ (t : Table). AreColumns t.columns) schema → IsWithin s → Means schema s whole names keys → IsBody whole.body
typed_query schema s whole names keys all within m =
    let q = no_own (entries_faults schema [] (entries_of s.sources)) (or_own (over_faults schema s) (order_faults schema s)) m.faultless in
    let p = no_own (over_faults schema s) (order_faults schema s) q.1 in
    subst (λ (w : Whole). IsBody w.body) (sym m.whole_is) (typed_meant schema s (tables_known schema [] 0 (entries_of s.sources) all q.0) within p.0)
