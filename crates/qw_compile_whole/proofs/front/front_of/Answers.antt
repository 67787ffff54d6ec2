use Rattle.std.proofs.Common.{◌++◌, ℕ, List, length, map, sum_by, ap, ap₂, ◌∙◌, arith}
use Rattle.std.specs.List.{flat_map}
use Rattle.qw_scalar.specs.Texts.{texts_in, texts_within}
use Rattle.qw_scalar.specs.Nodes.{nodes, nodes_of}
use Rattle.qw_scalar.specs.declared.expression.Cond.{Cond}
use Rattle.qw_scalar.specs.declared.expression.Expr.{Expr}
use Rattle.qw_meaning.specs.Query.{QueryParts}
use Rattle.qw_meaning.specs.declared.query.Source.{Source}
use Rattle.qw_algebra.specs.Sizes.{query_size, tests_on}
use Rattle.qw_grouped.specs.declared.query.GroupedColumn.{GroupedColumn}
use Rattle.qw_grouped.specs.declared.set_function.SetFunction.{SetFunction}
use Rattle.qw_compile.specs.WrittenTexts.{texts_of_query}
use Rattle.qw_compile_whole.specs.WholeTexts.{argument_texts}
use Rattle.qw_compile_whole.proofs.FrontCopies.{flat_mapped, sum_mapped}
use Rattle.qw_compile_whole.proofs.front.front_of.Goals as goal

pub returns-clause-nodes : goal.returns-clause-nodes
returns-clause-nodes c =
    let q = c.args.query.now in
    let whole = ap (λ (p : QueryParts). query_size nodes nodes_of p) c.new.ensures in
    let on = sum_mapped nodes_of (tests_on c.in_ok-sources.sources.items) (tests_on q.sources) (c.in_ok-sources.ensures.nodes ∙ ap (λ (l : List Source). map nodes_of (tests_on l)) c.sources.ensures.sources) in
    let conjuncts = sum_mapped nodes_of c.in_ok-conjuncts.conjuncts.items q.conjuncts (c.in_ok-conjuncts.ensures.nodes ∙ ap (λ (l : List Cond). map nodes_of l) c.conjuncts.ensures.conjuncts) in
    let none = ap (λ (l : List Expr). sum_by nodes l) c.new-items.ensures.items in
    let columns = ap (λ (l : List GroupedColumn). length l) c.columns.ensures.columns in
    let functions = ap (λ (l : List SetFunction). sum_by (λ (f : SetFunction). nodes f.argument) l) c.functions.ensures.functions in
    omega (arith, whole, on, conjuncts, none, columns, functions, c.in_ok-add_columns.ensures.nodes, c.in_ok-add_arguments.ensures.nodes)

pub returns-clause-texts : goal.returns-clause-texts
returns-clause-texts c =
    let q = c.args.query.now in
    let on = flat_mapped texts_within (tests_on c.in_ok-sources.sources.items) (tests_on q.sources) (c.in_ok-sources.ensures.texts ∙ ap (λ (l : List Source). map texts_within (tests_on l)) c.sources.ensures.sources) in
    let conjuncts = flat_mapped texts_within c.in_ok-conjuncts.conjuncts.items q.conjuncts (c.in_ok-conjuncts.ensures.texts ∙ ap (λ (l : List Cond). map texts_within l) c.conjuncts.ensures.conjuncts) in
    let columns = c.in_ok-add_columns.ensures.texts ∙ ap (λ (l : List Expr). flat_map texts_in l) c.new-items.ensures.items in
    let items = c.in_ok-add_arguments.ensures.texts ∙ (ap (λ (l : List (List ℕ)). l ++ argument_texts c.functions.result.now) columns ∙ ap argument_texts c.functions.ensures.functions) in
    ap texts_of_query c.new.ensures ∙ ap₂ (λ (xs ys : List (List ℕ)). xs ++ ys) on (ap₂ (λ (xs ys : List (List ℕ)). xs ++ ys) conjuncts items)
