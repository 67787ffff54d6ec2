-- Trees of at most so many nodes and octets of text literals, put together; and the queries of a script.
use Rattle.std.proofs.Common.{◌≡◌, Bool, true, false, ℕ, ◌+◌, ◌≤◌, ◌<◌, List, [], ◌∷◌, ◌++◌, suc, map, length, drop, sum_by, refl, sym, ap, ◌∙◌, arith}
use Rattle.std.specs.Prelude.{IfOk, Result}
use Rattle.std.proofs.lemmas.List.Sums.{sum_by_push}
use Rattle.qw_token.specs.Token.{Lexeme}
use Rattle.qw_types.specs.declared.schema.Column.{Column}
use Rattle.qw_types.specs.declared.schema.Table.{Table}
use Rattle.qw_types.specs.declared.value.Ty.{Ty}
use Rattle.qw_meaning.specs.Query.{QueryParts}
use Rattle.qw_grouped.specs.Whole.{Whole}
use Rattle.qw_grouped.specs.WholeQuery.{whole_of}
use Rattle.qw_grouped.specs.declared.whole.Body.{Body}
use Rattle.qw_grouped.specs.declared.whole.Body.TheVariants.{Plain, Grouped}
use Rattle.qw_ast.proofs.StatementLemmas.{drop_next}
use Rattle.qw_scalar.specs.declared.expression.Expr.{Expr}
use Rattle.qw_scalar.specs.declared.expression.Expr.TheVariants as expr
use Rattle.qw_scalar.specs.declared.expression.Cond.{Cond}
use Rattle.qw_scalar.specs.declared.expression.Exprs.{Exprs}
use Rattle.qw_scalar.specs.declared.expression.Branches.{Branches}
use Rattle.qw_scalar.specs.declared.expression.Matches.{Matches}
use Rattle.qw_scalar.specs.Nodes as typed
use Rattle.qw_ast.specs.SyntaxTree as syntax
use Rattle.qw_ast.specs.declared.script.Item.{Item}
use Rattle.qw_ast.specs.Syntax.{Select, Selected, all_columns, items}
use Rattle.qw_ast.specs.Limits as script
use Rattle.qw_ast.specs.Limits.{IsAccepted, IsQuery, items_of, over_filter, over_items, over_sources}
use Rattle.qw_typer.specs.declared.query.TypedQuery.{TypedQuery}
use Rattle.qw_typer.specs.declared.refusal.Refusal.{Refusal}
use Rattle.qw_typer.specs.declared.tree.Results.{Results}
use Rattle.qw_typer.specs.declared.tree.Typed.{Typed}
use Rattle.qw_typer.specs.declared.tree.Values.{Values}
use Rattle.qw_typer.specs.Sizes.{AreSmall, HasRoom, IsSmallBody, IsSmallWhole, tests_on, text_octets}
use Rattle.qw_typer.specs.Typed.{Means}
use Rattle.qw_typer.specs.Inner.Sizes.{ColumnsPushed, Fits, FitsAll, FitsBranches, FitsCondition, FitsItems, FitsMatches, FitsQuery, FitsTests, most_items, nodes, nodes_condition, octets, octets_condition, selected_nodes}
use Rattle.qw_typer.specs.Inner.Grouping.{FitsBody, listed_nodes}
use Rattle.qw_typer.proofs.ScriptSizes.{few_of_query}
use Rattle.qw_typer.proofs.WeightLemmas.{weighed_filter, weighed_functions, weighed_items, weighed_sources}

-- ---- what fits so many fits as many
pub fits_same : (r : Result Typed Refusal) (n k n' k' : ℕ) → IfOk r (λ made. Fits made.tree n k) → n ≡ n' → k ≡ k' → IfOk r (λ made. Fits made.tree n' k')
fits_same r n k n' k' fits one two = rw (← one, ← two) fits

pub condition_fits_same : (r : Result Cond Refusal) (n k n' k' : ℕ) → IfOk r (λ made. FitsCondition made n k) → n ≡ n' → k ≡ k' → IfOk r (λ made. FitsCondition made n' k')
condition_fits_same r n k n' k' fits one two = rw (← one, ← two) fits

pub arguments_fit_same : (r : Result (Results Exprs) Refusal) (n k n' k' : ℕ) → IfOk r (λ made. FitsAll made.tree n k) → n ≡ n' → k ≡ k' → IfOk r (λ made. FitsAll made.tree n' k')
arguments_fit_same r n k n' k' fits one two = rw (← one, ← two) fits

pub values_fit_same : (r : Result Values Refusal) (n k n' k' : ℕ) → IfOk r (λ made. FitsAll made.tree n k) → n ≡ n' → k ≡ k' → IfOk r (λ made. FitsAll made.tree n' k')
values_fit_same r n k n' k' fits one two = rw (← one, ← two) fits

pub branches_fit_same : (r : Result (Results Branches) Refusal) (n k n' k' : ℕ) → IfOk r (λ made. FitsBranches made.tree n k) → n ≡ n' → k ≡ k' → IfOk r (λ made. FitsBranches made.tree n' k')
branches_fit_same r n k n' k' fits one two = rw (← one, ← two) fits

pub matches_fit_same : (r : Result (Results Matches) Refusal) (n k n' k' : ℕ) → IfOk r (λ made. FitsMatches made.tree n k) → n ≡ n' → k ≡ k' → IfOk r (λ made. FitsMatches made.tree n' k')
matches_fit_same r n k n' k' fits one two = rw (← one, ← two) fits

-- ---- items, one after another

-- with so many columns still to come
pub record ColumnsLeft (before made : List Expr) (left all : ℕ) : Type 0 where
  pub nodes_few : sum_by typed.nodes made + left ≤ sum_by typed.nodes before + all
  pub octets_are : sum_by text_octets made ≡ sum_by text_octets before

-- with so many nodes and octets still to come, the items stay within all of these
pub record FitsWith (made : List Expr) (n k all_nodes all_octets : ℕ) : Type 0 where
  pub nodes_left : sum_by typed.nodes made + n ≤ all_nodes
  pub octets_left : sum_by text_octets made + k ≤ all_octets

pub fits_more : (made made' : List Expr) (e : Expr) (n k m j all_nodes all_octets : ℕ) → made' ≡ made ++ e ∷ [] → Fits e n k → FitsWith made (n + m) (k + j) all_nodes all_octets → FitsWith made' m j all_nodes all_octets
fits_more made made' e n k m j all_nodes all_octets more one before =
    let nodes_more : sum_by typed.nodes made' ≡ sum_by typed.nodes made + typed.nodes e = ap (λ (es : List Expr). sum_by typed.nodes es) more ∙ sum_by_push typed.nodes made e in
    let octets_more : sum_by text_octets made' ≡ sum_by text_octets made + text_octets e = ap (λ (es : List Expr). sum_by text_octets es) more ∙ sum_by_push text_octets made e in
    record { nodes_left = omega arith; octets_left = omega arith }

-- columns of an entry
pub columns_pushed : (columns : List Column) (i : ℕ) (d : Column) (made made' : List Expr) (k : ℕ) (ty : Ty) (before : List Expr) → i < length columns → made' ≡ made ++ expr.Column k ty ∷ []
    → ColumnsLeft before made (length (drop i columns)) (length columns) → ColumnsLeft before made' (length (drop (i + 1) columns)) (length columns)
columns_pushed columns i d made made' k ty before lt more left =
    let nodes_more : sum_by typed.nodes made' ≡ sum_by typed.nodes made + 1 = ap (λ (es : List Expr). sum_by typed.nodes es) more ∙ sum_by_push typed.nodes made (expr.Column k ty) in
    let octets_more : sum_by text_octets made' ≡ sum_by text_octets made + 0 = ap (λ (es : List Expr). sum_by text_octets es) more ∙ sum_by_push text_octets made (expr.Column k ty) in
    let count : length (drop i columns) ≡ suc (length (drop (i + 1) columns)) = ap (λ (cs : List Column). length cs) (drop_next columns i d lt) in
    record { nodes_few = omega arith; octets_are = omega arith }

pub columns_left_first : (made : List Expr) (n : ℕ) → ColumnsLeft made made n n
columns_left_first made n = record { nodes_few = omega arith; octets_are = refl }

pub columns_left_last : (before made : List Expr) (n m : ℕ) → ColumnsLeft before made m n → ColumnsPushed before made n
columns_left_last before made n m left = let nodes_few = left.nodes_few in record { nodes_few = omega (arith, nodes_few); octets_are = left.octets_are }

-- items of a select list
pub items_fit : (made made' : List Expr) (e : Expr) (rest rest' : List Item) (item : Item) (all_nodes all_octets : ℕ) → made' ≡ made ++ e ∷ [] → rest ≡ item ∷ rest'
    → Fits e (nodes (syntax.expression_of item.expression)) (octets (syntax.expression_of item.expression))
    → FitsWith made (over_items nodes (map syntax.item_of rest)) (over_items octets (map syntax.item_of rest)) all_nodes all_octets
    → FitsWith made' (over_items nodes (map syntax.item_of rest')) (over_items octets (map syntax.item_of rest')) all_nodes all_octets
items_fit made made' e rest rest' item all_nodes all_octets more first one before =
    fits_more made made' e (nodes (syntax.expression_of item.expression)) (octets (syntax.expression_of item.expression)) (over_items nodes (map syntax.item_of rest')) (over_items octets (map syntax.item_of rest'))
    all_nodes all_octets more one (rw first at before)

-- ---- queries

pub query_fits : (parts : QueryParts) (s : Select) → FitsItems parts.items (selected_nodes s.selected) (over_items octets (items_of s.selected))
    → FitsTests (tests_on parts.sources) (over_sources nodes_condition s.sources) (over_sources octets_condition s.sources)
    → FitsTests parts.conjuncts (over_filter nodes_condition s.filter) (over_filter octets_condition s.filter) → FitsQuery parts s
query_fits parts s listed joined tested = record { nodes_fit = omega arith; octets_fit = omega arith }

-- as many as the written query has, and `*`
listed : (selected : Selected) → selected_nodes selected ≤ 512 + over_items nodes (items_of selected)
listed all_columns = omega arith
listed (items list) = omega arith

listed_group : (selected : Selected) → listed_nodes selected ≤ 64 + over_items nodes (items_of selected)
listed_group all_columns = omega arith
listed_group (items list) = omega arith

-- what `*` counts for behind DISTINCT is room for its columns
record HasStarred (distinct : Bool) (selected : Selected) : Type 0 where
  pub most : script.starred_nodes distinct selected ≤ 512
  pub items_fit : most_items selected ≤ script.starred_nodes distinct selected + length (items_of selected)
  pub nodes_fit : selected_nodes selected ≤ script.starred_nodes distinct selected + over_items nodes (items_of selected)

starred : (distinct : Bool) (selected : Selected) → distinct ≡ true → HasStarred distinct selected
starred true all_columns is = record { most = omega arith; items_fit = omega arith; nodes_fit = omega arith }
starred true (items list) is = record { most = omega arith; items_fit = omega arith; nodes_fit = omega arith }
starred false selected is = absurd cc

-- one that a script takes is typed small, and has room
is_small : (s : Select) (body : Body) (tokens : List Lexeme) → FitsBody body s → IsAccepted tokens s → IsSmallBody body × (s.distinct ≡ true → HasRoom body)
is_small s (Grouped parts) tokens fits accepted =
    let fit = fits.0 in
    let few_items = fits.1 in
    let most = few_of_query tokens s accepted.query in
    let star = listed_group s.selected in
    let within = weighed_functions s in
    let sources = weighed_sources s.sources in
    let filter = weighed_filter s.filter in
    (record { few_nodes = omega arith; few_octets = omega arith }, λ distinct. let room = starred s.distinct s.selected distinct in omega arith)
is_small s (Plain parts) tokens fits accepted =
    let fit = fits.0 in
    let few_items = fits.1 in
    let most = few_of_query tokens s accepted.query in
    let star = listed s.selected in
    let within = weighed_items (items_of s.selected) in
    let sources = weighed_sources s.sources in
    let filter = weighed_filter s.filter in
    (record { few_nodes = omega arith; few_octets = omega arith }, λ distinct. let room = starred s.distinct s.selected distinct in omega arith)

-- ---- a script, query by query

small_push : (made : List TypedQuery) (t : TypedQuery) → AreSmall made → IsSmallWhole t.query → AreSmall (made ++ t ∷ [])
small_push [] t small one = (one, tt)
small_push (u ∷ made) t small one = (small.0, small_push made t small.1 one)

pub small_kept : (schema : List Table) (s : Select) (made made' : List TypedQuery) (t : TypedQuery) → made' ≡ made ++ t ∷ [] → IsQuery s → Means schema s (whole_of t.query) t.names.items t.keys.items → FitsBody t.query.body s → AreSmall made → AreSmall made'
small_kept schema s made made' t more query means fits small =
    let same : t.query.distinct ≡ s.distinct = ap (λ (w : Whole). w.distinct) means.whole_is in
    let one = is_small s t.query.body query.0 fits query.1 in
    rw more (small_push made t small (record { body = one.0; room = λ distinct. one.1 (sym same ∙ distinct) }))
