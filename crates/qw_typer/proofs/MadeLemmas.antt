-- A grouped query over a schema: what it means where it has no fault, and one of its faults else.
use Rattle.std.proofs.Common.{◌≡◌, Bool, ℕ, true, List, [], Ok, sym, ap, ◌∙◌, subst}
use Rattle.qw_types.specs.declared.schema.Table.{Table}
use Rattle.qw_grouped.specs.Grouped as group
use Rattle.qw_grouped.specs.Grouped.{Grouped, IsGrouped}
use Rattle.qw_grouped.specs.Whole.{Whole, grouped}
use Rattle.qw_order.specs.declared.sort_key.SortKey.{SortKey}
use Rattle.qw_ast.specs.Syntax.{Select}
use Rattle.qw_typer.specs.declared.refusal.Refusal.{Refusal}
use Rattle.qw_typer.specs.Faults.{Fault, or_own}
use Rattle.qw_typer.specs.Grouping.{grouping_faults, grouping_of, is_grouped, or_rows}
use Rattle.qw_typer.specs.Keys.{keys_faults, keys_meant}
use Rattle.qw_typer.specs.Meant.{Entry, Grouping, Scope, condition_meant}
use Rattle.qw_typer.specs.Typed.{IsWithin, Means, conjuncts_having, entries_named, grouped_meant, items_meant, order_faults, over_faults, query_faults, result_names, scope_over}
use Rattle.qw_typer.specs.Inner.Grouping.{Behind, Groups, over_group, table_of, typed_behind, typed_groups}
use Rattle.qw_typer.specs.Inner.Queries.{HaveTables, IsFrom, IsOneOf}
use Rattle.qw_typer.specs.Inner.Typing.{Refuses}
use Rattle.qw_typer.proofs.FaultLemmas.{no_fault}
use Rattle.qw_typer.proofs.GroupedLemmas.{behind_faults, behind_is, behind_meant, group_meant, group_scope, grouped_over, groups_is, groups_meant}
use Rattle.qw_typer.proofs.GroupedSound.{grouped_query}
use Rattle.qw_typer.proofs.QueryLemmas.{own_first, refused_outcome}

-- a fault of what stands over the entries is one of the query's
over_one : (schema : List Table) (s : Select) (entries : List Entry) (r : Refusal) → IsFrom schema s entries → IsOneOf r (over_faults schema s) → IsOneOf r (query_faults schema s)
over_one schema s entries r from h =
    subst (λ (fs : List Fault). IsOneOf r (or_own fs (or_own (over_faults schema s) (order_faults schema s)))) (sym from.faultless) (own_first r (over_faults schema s) (order_faults schema s) h)

groups_from : (schema : List Table) (s : Select) (entries : List Entry) → IsFrom schema s entries → typed_groups entries s ≡ typed_groups (entries_named schema s) s
groups_from schema s entries from = ap (λ (es : List Entry). typed_groups es s) from.are

pub groups_refused : (schema : List Table) (s : Select) (entries : List Entry) (r : Refusal) → IsFrom schema s entries → is_grouped s ≡ true → Refuses r (typed_groups entries s) → IsOneOf r (query_faults schema s)
groups_refused schema s entries r from is h =
    let es = entries_named schema s in
    let refused = refused_outcome r (grouping_faults es s) (groups_meant es s) (rw (groups_from schema s entries from ∙ groups_is es s) at h) in
    over_one schema s entries r from (subst (IsOneOf r) (sym (grouped_over schema s is)) (own_first r (grouping_faults es s) (behind_faults schema s (grouping_of es s)) refused))

-- what groups the query, where that has no fault
pub groups_none : (schema : List Table) (s : Select) (entries : List Entry) (groups : Groups) → IsFrom schema s entries → typed_groups entries s ≡ Ok groups
    → (grouping_faults (entries_named schema s) s ≡ []) × (groups_meant (entries_named schema s) s ≡ groups)
groups_none schema s entries groups from gives =
    let es = entries_named schema s in
    no_fault (grouping_faults es s) (groups_meant es s) groups (sym (groups_from schema s entries from ∙ groups_is es s) ∙ gives)

table_is : (schema : List Table) (s : Select) (entries : List Entry) (groups : Groups) → IsFrom schema s entries → typed_groups entries s ≡ Ok groups → table_of groups ≡ grouping_of (entries_named schema s) s
table_is schema s entries groups from gives = sym (ap table_of (groups_none schema s entries groups from gives).1)

behind_from : (schema : List Table) (s : Select) (entries : List Entry) (groups : Groups) → IsFrom schema s entries → typed_groups entries s ≡ Ok groups
    → typed_behind entries (table_of groups) s ≡ typed_behind (entries_named schema s) (grouping_of (entries_named schema s) s) s
behind_from schema s entries groups from gives =
    ap (λ (es : List Entry). typed_behind es (table_of groups) s) from.are ∙ ap (λ (g : Grouping). typed_behind (entries_named schema s) g s) (table_is schema s entries groups from gives)

over_behind : (schema : List Table) (s : Select) (entries : List Entry) (groups : Groups) → IsFrom schema s entries → is_grouped s ≡ true → typed_groups entries s ≡ Ok groups
    → over_faults schema s ≡ behind_faults schema s (grouping_of (entries_named schema s) s)
over_behind schema s entries groups from is gives =
    grouped_over schema s is ∙ ap (λ (fs : List Fault). or_own fs (behind_faults schema s (grouping_of (entries_named schema s) s))) (groups_none schema s entries groups from gives).0

pub behind_refused : (schema : List Table) (s : Select) (entries : List Entry) (groups : Groups) (r : Refusal) → IsFrom schema s entries → is_grouped s ≡ true → typed_groups entries s ≡ Ok groups → Refuses r (typed_behind entries (table_of groups) s)
    → IsOneOf r (query_faults schema s)
behind_refused schema s entries groups r from is gives h =
    let g = grouping_of (entries_named schema s) s in
    let refused = refused_outcome r (behind_faults schema s g) (behind_meant schema s g) (rw (behind_from schema s entries groups from gives ∙ behind_is schema s g) at h) in
    over_one schema s entries r from (subst (IsOneOf r) (sym (over_behind schema s entries groups from is gives)) refused)

pub behind_none : (schema : List Table) (s : Select) (entries : List Entry) (groups : Groups) (behind : Behind) → IsFrom schema s entries → typed_groups entries s ≡ Ok groups → typed_behind entries (table_of groups) s ≡ Ok behind
    → (behind_faults schema s (grouping_of (entries_named schema s) s) ≡ []) × (behind_meant schema s (grouping_of (entries_named schema s) s) ≡ behind)
behind_none schema s entries groups behind from gives gives_behind =
    let g = grouping_of (entries_named schema s) s in
    no_fault (behind_faults schema s g) (behind_meant schema s g) behind (sym (behind_from schema s entries groups from gives ∙ behind_is schema s g) ∙ gives_behind)

-- ---- the grouped query

abbrev pub made_of : Groups → Behind → List group.SetFunction → Grouped
made_of groups behind functions = record { sources = behind.sources; conjuncts = behind.conjuncts; columns = groups.columns; functions = functions; having = behind.having; items = behind.items }

-- all that is given for one
pub record IsMade (schema : List Table) (s : Select) (entries : List Entry) (groups : Groups) (behind : Behind) (functions : List group.SetFunction) : Type 0 where
  pub from : IsFrom schema s entries
  pub is : is_grouped s ≡ true
  pub groups_given : typed_groups entries s ≡ Ok groups
  pub behind_given : typed_behind entries (table_of groups) s ≡ Ok behind
  pub functions_are : functions ≡ or_rows groups.columns groups.functions.functions

no_over : (schema : List Table) (s : Select) (entries : List Entry) (groups : Groups) (behind : Behind) (functions : List group.SetFunction) → IsMade schema s entries groups behind functions → over_faults schema s ≡ []
no_over schema s entries groups behind functions m = over_behind schema s entries groups m.from m.is m.groups_given ∙ (behind_none schema s entries groups behind m.from m.groups_given m.behind_given).0

pub made_is : (schema : List Table) (s : Select) (entries : List Entry) (groups : Groups) (behind : Behind) (functions : List group.SetFunction) → IsMade schema s entries groups behind functions → made_of groups behind functions ≡ grouped_meant schema s
made_is schema s entries groups behind functions m =
    let es = entries_named schema s in
    let one = (groups_none schema s entries groups m.from m.groups_given).1 in
    let two = (behind_none schema s entries groups behind m.from m.groups_given m.behind_given).1 in
    ap (made_of groups behind) m.functions_are ∙ sym (ap (λ (gs : Groups). made_of gs behind (or_rows gs.columns gs.functions.functions)) one)
    ∙ sym (ap (λ (b : Behind). made_of (groups_meant es s) b (or_rows (groups_meant es s).columns (groups_meant es s).functions.functions)) two) ∙ sym (ap over m_scope)
  where
    m_scope : scope_over schema s ≡ over_group (entries_named schema s) (grouping_of (entries_named schema s) s)
    m_scope = group_scope schema s m.is

    over : Scope → Grouped
    over sc = record {
      sources = (grouped_meant schema s).sources;
      conjuncts = (grouped_meant schema s).conjuncts;
      columns = (grouped_meant schema s).columns;
      functions = (grouped_meant schema s).functions;
      having = Rattle.std.specs.Prelude.map (condition_meant sc) (conjuncts_having s);
      items = items_meant sc s.selected;
    }

pub made_grouped : (schema : List Table) (s : Select) (entries : List Entry) (groups : Groups) (behind : Behind) (functions : List group.SetFunction) → IsMade schema s entries groups behind functions → IsWithin s → IsGrouped (made_of groups behind functions)
made_grouped schema s entries groups behind functions m within =
    subst IsGrouped (sym (made_is schema s entries groups behind functions m)) (grouped_query schema s (subst HaveTables m.from.are m.from.tables) within m.is (no_over schema s entries groups behind functions m))

-- ---- its keys

-- what they are over is what the query has
order_is : (schema : List Table) (s : Select) (entries : List Entry) (groups : Groups) (behind : Behind) (functions : List group.SetFunction) (names : List (List ℕ)) → IsMade schema s entries groups behind functions
    → names ≡ result_names (over_group entries (table_of groups)) s.selected → keys_faults names s.order ≡ order_faults schema s
order_is schema s entries groups behind functions names m named =
    let scope = scope_is schema s entries groups m.from m.is m.groups_given in
    ap (λ (ns : List (List ℕ)). keys_faults ns s.order) (named ∙ ap (λ (sc : Scope). result_names sc s.selected) scope)
  where
    scope_is : (schema : List Table) (s : Select) (entries : List Entry) (groups : Groups) → IsFrom schema s entries → is_grouped s ≡ true → typed_groups entries s ≡ Ok groups → over_group entries (table_of groups) ≡ scope_over schema s
    scope_is schema s entries groups from is gives =
        ap (λ (es : List Entry). over_group es (table_of groups)) from.are ∙ ap (over_group (entries_named schema s)) (table_is schema s entries groups from gives) ∙ sym (group_scope schema s is)

pub group_keys_refused : (schema : List Table) (s : Select) (entries : List Entry) (groups : Groups) (behind : Behind) (functions : List group.SetFunction) (names : List (List ℕ)) (r : Refusal) → IsMade schema s entries groups behind functions
    → names ≡ result_names (over_group entries (table_of groups)) s.selected → IsOneOf r (keys_faults names s.order) → IsOneOf r (query_faults schema s)
group_keys_refused schema s entries groups behind functions names r m named h =
    let order = subst (IsOneOf r) (order_is schema s entries groups behind functions names m named) h in
    subst (λ (fs : List Fault). IsOneOf r (or_own fs (or_own (over_faults schema s) (order_faults schema s)))) (sym m.from.faultless)
    (subst (λ (fs : List Fault). IsOneOf r (or_own fs (order_faults schema s))) (sym (no_over schema s entries groups behind functions m)) order)

abbrev pub grouped_whole : Bool → Grouped → Whole
grouped_whole distinct query = record { body = grouped query; distinct = distinct }

pub grouped_means : (schema : List Table) (s : Select) (entries : List Entry) (groups : Groups) (behind : Behind) (functions : List group.SetFunction) (names : List (List ℕ)) (keys : List SortKey) → IsMade schema s entries groups behind functions
    → names ≡ result_names (over_group entries (table_of groups)) s.selected
    → (keys_faults names s.order ≡ []) × (keys ≡ keys_meant names s.order) → Means schema s (grouped_whole s.distinct (made_of groups behind functions)) names keys
grouped_means schema s entries groups behind functions names keys m named found =
    let scope : over_group entries (table_of groups) ≡ scope_over schema s =
    ap (λ (es : List Entry). over_group es (table_of groups)) m.from.are ∙ ap (over_group (entries_named schema s)) (table_is schema s entries groups m.from m.groups_given) ∙ sym (group_scope schema s m.is) in
    let is = made_is schema s entries groups behind functions m in
    let names_are : names ≡ result_names (scope_over schema s) s.selected = named ∙ ap (λ (sc : Scope). result_names sc s.selected) scope in
    let none = no_over schema s entries groups behind functions m in
    let order : order_faults schema s ≡ [] = sym (order_is schema s entries groups behind functions names m named) ∙ found.0 in
    record {
      faultless = ap (λ (fs : List Fault). or_own fs (or_own (over_faults schema s) (order_faults schema s))) m.from.faultless ∙ ap (λ (fs : List Fault). or_own fs (order_faults schema s)) none ∙ order;
      whole_is = ap (grouped_whole s.distinct) is ∙ sym (group_meant schema s m.is);
      names_are = names_are;
      keys_are = found.1 ∙ ap (λ (ns : List (List ℕ)). keys_meant ns s.order) names_are;
    }
