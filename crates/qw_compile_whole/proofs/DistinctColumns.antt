-- The columns of a table of distinct rows (ISO/IEC 9075:1992, 7.9), item by item, and the trees that show them.
use Rattle.std.proofs.Common.{◌≡◌, ◌∙◌, ℕ, ◌+◌, ◌<◌, false, List, [], ◌∷◌, ◌++◌, Vec, Global, length, map, take, get_or, sum_by, refl, sym, ap, ap₂, append-nil, arith}
use Rattle.std.specs.List.{AllByRecursion, flat_map}
use Rattle.std.proofs.lemmas.List.{length-map, length-take-le, map_more}
use Rattle.std.proofs.lemmas.List.Sums.{sum_by-cons}
use Rattle.qw_scalar.specs.Expression.{Expression}
use Rattle.qw_scalar.specs.Nodes.{nodes, nodes_of}
use Rattle.qw_scalar.specs.Tree.{expression_of}
use Rattle.qw_scalar.specs.Typing.{IsTyped, kind_of}
use Rattle.qw_scalar.specs.declared.expression.Cond.{Cond}
use Rattle.qw_scalar.specs.declared.expression.Expr.{Expr}
use Rattle.qw_scalar.specs.declared.expression.Expr.TheVariants.{Column}
use Rattle.qw_leaves.specs.Leaves.{leaves_in, leaves_within, texts_among}
use Rattle.qw_grouped.specs.Grouped.{expression_of_column, widest}
use Rattle.qw_physical.specs.Courses.{column_of}
use Rattle.qw_physical.specs.Sizes.{operator_size, size}
use Rattle.qw_physical.specs.declared.pipeline.Operator.{Operator}
use Rattle.qw_physical.specs.declared.pipeline.Operator.TheVariants as operators
use Rattle.qw_physical.specs.declared.pipeline.Pipeline.{Pipeline}
use Rattle.qw_physical.specs.declared.pipeline.ReadColumn.{ReadColumn}
use Rattle.qw_physical.specs.declared.pipeline.Sink.TheVariants as sinks
use Rattle.qw_compile.specs.QueryLiterals.{operator_leaves, pipeline_leaves, query_texts}
use Rattle.qw_compile_whole.specs.GroupColumns.{key_from}
use Rattle.qw_compile_whole.specs.WholeDistinct.{distinct_columns}

-- ---- one more column
columns_append : (n m : ℕ) (xs ys : List Expression) → key_from n (distinct_columns m (xs ++ ys)) ≡ key_from n (distinct_columns m xs) ++ key_from (n + length xs) (distinct_columns (m + length xs) ys)
columns_append n m [] ys =
    let one : n ≡ n + length {A = Expression} [] = omega arith in
    let two : m ≡ m + length {A = Expression} [] = omega arith in
    ap₂ (λ (i j : ℕ). key_from i (distinct_columns j ys)) one two
columns_append n m (x ∷ xs) ys =
    let one : n + 1 + length xs ≡ n + length (x ∷ xs) = omega arith in
    let two : m + 1 + length xs ≡ m + length (x ∷ xs) = omega arith in
    ap (λ (l : List ReadColumn). record { number = n; ty = widest (kind_of x); not_null = false } ∷ l)
    (columns_append (n + 1) (m + 1) xs ys ∙ ap₂ (λ (i j : ℕ). key_from (n + 1) (distinct_columns (m + 1) xs) ++ key_from i (distinct_columns j ys)) one two)

pub column_next : (es : List Expr) (i : ℕ) (e : Expr) (c : ReadColumn) (old new : List ReadColumn) → i < length es → e ≡ get_or es i e → old ≡ key_from 0 (distinct_columns 0 (map expression_of (take i es))) →
    c ≡ record { number = i; ty = widest (kind_of (expression_of e)); not_null = false } → new ≡ old ++ c ∷ [] → new ≡ key_from 0 (distinct_columns 0 (map expression_of (take (i + 1) es)))
column_next es i e c old new less is before made added =
    let front : List Expression = map expression_of (take i es) in
    let place : 0 + length front ≡ i = omega (arith, length-map (take i es) expression_of, length-take-le i es (omega (arith, less))) in
    added ∙ (ap₂ (λ (l : List ReadColumn) (d : ReadColumn). l ++ d ∷ []) before made
    ∙ (ap (λ (k : ℕ). key_from 0 (distinct_columns 0 front) ++ record { number = k; ty = widest (kind_of (expression_of e)); not_null = false } ∷ []) (sym place)
    ∙ (ap (λ (d : Expr). key_from 0 (distinct_columns 0 front) ++ key_from (0 + length front) (distinct_columns (0 + length front) (expression_of d ∷ []))) is
    ∙ (sym (columns_append 0 0 front (expression_of (get_or es i e) ∷ [])) ∙ ap (λ (l : List Expression). key_from 0 (distinct_columns 0 l)) (sym (map_more expression_of es i e less))))))

-- the items of the code are typed where those that they stand for are
pub items_coded : (es : List Expr) → AllByRecursion IsTyped (map expression_of es) → AllByRecursion (λ (e : Expr). IsTyped (expression_of e)) es
items_coded [] h = tt
items_coded (e ∷ es) h = (h.0, items_coded es h.1)

-- ---- what shows them
abbrev shown : ReadColumn → Expr
shown c = Column c.number c.ty

shown_are : (cs : List ReadColumn) → map expression_of (map shown cs) ≡ map column_of cs
shown_are [] = refl
shown_are (c ∷ cs) = ap (λ (l : List Expression). column_of c ∷ l) (shown_are cs)

shown_many : (cs : List ReadColumn) → sum_by nodes (map shown cs) ≡ length cs
shown_many [] = refl
shown_many (c ∷ cs) = let rest = shown_many cs in omega (arith, rest, sum_by-cons nodes (shown c) (map shown cs))

shown_texts : (cs : List ReadColumn) → texts_among (flat_map leaves_in (map shown cs)) ≡ []
shown_texts [] = refl
shown_texts (c ∷ cs) = shown_texts cs

-- as a column of a key is numbered
pub shows_key : (n : ℕ) (es : List Expression) → map column_of (key_from n (distinct_columns n es)) ≡ map expression_of_column (distinct_columns n es)
shows_key n [] = refl
shows_key n (e ∷ es) = ap (λ (l : List Expression). expression_of_column (record { number = n; ty = widest (kind_of e) }) ∷ l) (shows_key (n + 1) es)

-- ---- the pipeline of these, whose one filter has no conjuncts
module _ (cs : List ReadColumn) (list : Vec Expr Global) (list_is : list.items ≡ map (λ (c : ReadColumn). Column c.number c.ty) cs) (tests : Vec Cond Global) (no_tests : tests.items ≡ []) (steps : Vec Operator Global) (steps_are : steps.items ≡ operators.Filter tests ∷ []) where
  abbrev behind : Pipeline
  behind = record { entry = 0; table = 0; operators = steps; sink = sinks.Select list }

  pub columns_shown : map expression_of list.items ≡ map column_of cs
  columns_shown = ap (map expression_of) list_is ∙ shown_are cs

  pub columns_short : size nodes nodes_of (record { entry = 0; table = 0; operators = steps; sink = sinks.Select list }) ≡ length cs
  columns_short =
      let sized = ap (λ (os : List Operator). sum_by (operator_size nodes nodes_of) os) steps_are in
      let items = ap (λ (l : List Expr). sum_by nodes l) list_is ∙ shown_many cs in
      omega (arith, sized, sum_by-cons (operator_size nodes nodes_of) (operators.Filter tests) [], ap (λ (l : List Cond). sum_by nodes_of l) no_tests, items)

  pub columns_texts : query_texts (record { entry = 0; table = 0; operators = steps; sink = sinks.Select list } ∷ []) ≡ []
  columns_texts =
      let leaves : pipeline_leaves behind ≡ flat_map leaves_in list.items =
      ap (λ (os : List Operator). flat_map operator_leaves os ++ flat_map leaves_in list.items) steps_are ∙ ap (λ (l : List Cond). (flat_map leaves_within l ++ []) ++ flat_map leaves_in list.items) no_tests in
      ap texts_among (append-nil (pipeline_leaves behind) ∙ leaves) ∙ (ap (λ (l : List Expr). texts_among (flat_map leaves_in l)) list_is ∙ shown_texts cs)
