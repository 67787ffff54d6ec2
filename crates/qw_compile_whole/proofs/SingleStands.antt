-- The statement of a query with set functions and no GROUP BY, of what its parts are.
use Rattle.std.proofs.Common.{◌≡◌, ℕ, List, [], ap, subst}
use Rattle.qw_module.specs.declared.instruction.ValType.{ValType}
use Rattle.qw_map.specs.Layout.{Layout}
use Rattle.qw_map.specs.declared.layout.Used.{Used}
use Rattle.qw_grouped.specs.Grouped.{Grouped}
use Rattle.qw_grouped.specs.declared.query.GroupedColumn.{GroupedColumn}
use Rattle.qw_low.specs.declared.step.LowStep.{LowStep}
use Rattle.qw_physical.specs.declared.pipeline.Pipeline.{Pipeline}
use Rattle.qw_physical.specs.declared.pipeline.ReadColumn.{ReadColumn}
use Rattle.qw_operator.specs.Grouping.{Group}
use Rattle.qw_group_pipeline.specs.declared.columns.ValueColumn.{ValueColumn}
use Rattle.qw_compile_whole.specs.GroupColumns.{key_columns, key_from}
use Rattle.qw_compile_whole.specs.SingleMade.{IsSingleMade}

-- without GROUP BY there is no key
pub no_key : (query : Grouped) → query.columns ≡ [] → key_columns query ≡ []
no_key query none = ap (λ (columns : List GroupedColumn). key_from 0 columns) none

pub single_as : (tables many : ℕ) (ts texts : List (List ℕ)) (ps : List Pipeline) (g : Group) (vs values : List ValueColumn) (behind : Pipeline) (cs columns : List ReadColumn) (used : List Used) (layout : Layout) (code : List LowStep) (locals : List ValType) →
    tables ≡ many → ts ≡ texts → vs ≡ values → cs ≡ columns → IsSingleMade tables ts ps g vs behind cs used layout code locals → IsSingleMade many texts ps g values behind columns used layout code locals
single_as tables many ts texts ps g vs values behind cs columns used layout code locals one two three four h =
    subst (λ (n : ℕ). IsSingleMade n texts ps g values behind columns used layout code locals) one
    (subst (λ (l : List (List ℕ)). IsSingleMade tables l ps g values behind columns used layout code locals) two
    (subst (λ (l : List ValueColumn). IsSingleMade tables ts ps g l behind columns used layout code locals) three
    (subst (λ (l : List ReadColumn). IsSingleMade tables ts ps g vs behind l used layout code locals) four h)))
