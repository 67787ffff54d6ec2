-- Without GROUP BY the areas of a grouped query's set functions go with what is read out of them, and with the query (ISO/IEC 9075:1992, 7.8).
use Rattle.std.proofs.Common.{◌≡◌, ℕ, Contains, List, [], ◌∷◌, ◌++◌, length, map, refl, sym, ap, ◌∙◌, subst, arith}
use Rattle.std.specs.List.{AllByRecursion}
use Rattle.qw_scalar.specs.Typing.{kind_of}
use Rattle.qw_grouped.specs.Grouped.{Grouped, IsGrouped, arguments_of, expression_of_column, front}
use Rattle.qw_grouped.specs.declared.query.GroupedColumn.{GroupedColumn}
use Rattle.qw_expr.specs.Computes.{Known}
use Rattle.qw_physical.specs.Coded.{pipeline_of}
use Rattle.qw_physical.specs.Physical.{Operator, Sink, filter}
use Rattle.qw_physical.specs.declared.pipeline.Pipeline as coded
use Rattle.qw_physical.specs.declared.pipeline.ReadColumn.{ReadColumn}
use Rattle.qw_operator.specs.Takes.{CanCarry}
use Rattle.qw_operator.specs.Grouping.{CanGroup, Group}
use Rattle.qw_group_pipeline.specs.Groups.{all_anywhere}
use Rattle.qw_group_pipeline.specs.declared.columns.ValueColumn.{ValueColumn}
use Rattle.qw_group_pipeline.proofs.GroupsFeed.{AreNumbered}
use Rattle.qw_group_pipeline.proofs.ValuesCome.{column_for}
use Rattle.qw_compile.specs.QueryLiterals.{query_texts}
use Rattle.qw_compile.specs.QueryMade.{literals_by}
use Rattle.qw_compile_whole.specs.GroupColumns.{IsBehind, key_from, value_columns}
use Rattle.qw_compile_whole.proofs.ColumnTypes.{arguments_are, values_of_kinds}
use Rattle.qw_compile_whole.proofs.FoldedBehind.{with_behind}
use Rattle.qw_compile_whole.proofs.GroupedReady.{behind_can, functions_kinds, values_numbered}
use Rattle.qw_compile_whole.proofs.SingleBounded.{GoAlone}

no_column : (columns : List GroupedColumn) → length columns ≡ 0 → columns ≡ []
no_column [] none = refl
no_column (c ∷ columns) none = absurd (omega (arith, none))

pub single_alone : (query : Grouped) (grouped : IsGrouped query) (none : length query.columns ≡ 0) (behind : coded.Pipeline) (h : IsBehind query (pipeline_of behind)) (tables n : ℕ) (ts : List (List ℕ)) (ps : List coded.Pipeline) → AllByRecursion (Contains ts) (query_texts (ps ++ behind ∷ [])) →
    (g : Group) → CanGroup g → g.columns ≡ 0 → g.functions ≡ map (λ (v : ValueColumn). v.function) (value_columns query) → map kind_of g.values ≡ map kind_of (front query).items →
    GoAlone (with_behind query h.having h.items) g (value_columns query) (literals_by tables n ts (ps ++ behind ∷ []))
single_alone query grouped none behind h tables n ts ps among g can columns_is functions_is kinds_front =
    let L : List Known = literals_by tables n ts (ps ++ behind ∷ []) in
    let empty : query.columns ≡ [] = no_column query.columns none in
    let all = behind_can query grouped behind h tables n ts ps among in
    let keyless : CanCarry (all_anywhere [] (value_columns query) ++ L) (pipeline_of behind).operators (pipeline_of behind).sink =
    subst (λ (key : List ReadColumn). CanCarry (all_anywhere key (value_columns query) ++ L) (pipeline_of behind).operators (pipeline_of behind).sink) (ap (λ (cs : List GroupedColumn). key_from 0 cs) empty) all in
    record {
      can = can;
      none = columns_is;
      no_columns = none;
      functions = functions_is ∙ functions_kinds (length query.columns) query.functions;
      theirs = sym functions_is;
      arguments = kinds_front ∙ (ap (λ (cs : List GroupedColumn). map kind_of (map expression_of_column cs ++ arguments_of query.functions)) empty ∙ arguments_are query grouped);
      kinds = values_of_kinds query grouped;
      numbered = subst (λ (m : ℕ). AreNumbered m (map column_for (value_columns query))) none (values_numbered (length query.columns) query.functions);
      takes = subst (λ (s : Sink). CanCarry (all_anywhere [] (value_columns query) ++ L) (filter h.having ∷ []) s) h.sink_is (subst (λ (os : List Operator). CanCarry (all_anywhere [] (value_columns query) ++ L) os (pipeline_of behind).sink) h.operators_are keyless);
    }
