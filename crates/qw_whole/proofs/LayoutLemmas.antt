-- The layout of a query by its trees in the code: the columns that these name, and their text literals, are those that the query tells.
use Rattle.std.proofs.Common.{◌≡◌, ◌∙◌, ℕ, ◌==◌, ◌%◌, Bool, true, false, if◌then◌else◌, Some, slice_get, List, [], ◌∷◌, ◌++◌, length, map, refl, sym, ap, ap₂, subst, arith}
use Rattle.std.specs.List.{AllByRecursion, concat, flat_map, list_any}
use Rattle.std.specs.Str.{bytes_eq}
use Rattle.std.proofs.lemmas.Bool.Decides.{nat_tests}
use Rattle.std.proofs.lemmas.Grind.{flat_map-append}
use Rattle.std.proofs.lemmas.Option.{same_Some}
use Rattle.std.proofs.lemmas.Slice.Eq.{bytes_eq-Decides}
use Rattle.qw_types.specs.declared.schema.ColumnType.{ColumnType}
use Rattle.qw_scalar.specs.declared.expression.Cond.{Cond}
use Rattle.qw_scalar.specs.declared.expression.Expr.{Expr}
use Rattle.qw_scalar.specs.Expression.{Condition, Expression}
use Rattle.qw_scalar.specs.Texts.{texts_in, texts_within}
use Rattle.qw_scalar.specs.Tree.{condition_of, expression_of}
use Rattle.qw_leaves.specs.declared.leaf.Leaf.{Leaf}
use Rattle.qw_leaves.specs.Leaves.{columns_among, condition_leaves, leaves, leaves_in, leaves_within, texts_among}
use Rattle.qw_leaves.proofs.LeafLists.{columns_joined, columns_of_each, texts_joined, texts_of_both}
use Rattle.qw_meaning.specs.Query.{QueryParts, query_of}
use Rattle.qw_meaning.specs.Select.{Entry, Specification, entries_of}
use Rattle.qw_meaning.specs.declared.query.Joined.{Joined}
use Rattle.qw_meaning.specs.declared.query.Source.{Source}
use Rattle.qw_algebra.specs.Sizes.{tests_in, tests_on}
use Rattle.qw_algebra.proofs.Lists.{all_append}
use Rattle.qw_grouped.specs.Grouped.{Grouped, front}
use Rattle.qw_grouped.specs.Whole.{grouped, plain}
use Rattle.qw_physical.specs.Named.{and_column, and_columns, and_firsts, columns_in, columns_of_join, columns_of_query, columns_of_source, columns_within, named_by}
use Rattle.qw_map.specs.Layout.{Layout}
use Rattle.qw_map.specs.declared.layout.Used.{Used}
use Rattle.qw_compile.specs.UsedColumns.{AreUsedAt, IsUsedAt}
use Rattle.qw_compile.specs.WrittenTexts.{texts_of_query}
use Rattle.qw_compile.proofs.TextsWithin.{conditions_there, expressions_there}
use Rattle.qw_whole.specs.Layouts.{IsLayoutOf, and_all_new, and_new, each_once, leaves_of}
use Rattle.qw_whole.proofs.TreeLayouts.{both_alike, conditions_alike, expressions_alike, leaves_written, query_alike}

-- ---- columns
abbrev same_number : ℕ → ℕ → Bool
same_number j i = j == i

same_itself : (n : ℕ) → same_number n n ≡ true
same_itself n = grind (arith, nat_tests)

named_once : (columns more : List ℕ) → and_columns columns more ≡ and_all_new same_number columns more
named_once columns [] = refl
named_once columns (i ∷ more) = named_once (and_column columns i) more

named_in_joins : (joins : List Joined) → flat_map columns_of_join joins ≡ flat_map columns_within (tests_in joins)
named_in_joins [] = refl
named_in_joins (j ∷ joins) = ap (λ (is : List ℕ). columns_of_join j ++ is) (named_in_joins joins) ∙ sym (flat_map-append columns_within j.on.items (tests_in joins))

named_on : (sources : List Source) → flat_map columns_of_source sources ≡ flat_map columns_within (tests_on sources)
named_on [] = refl
named_on (source ∷ sources) =
    ap₂ (λ (is js : List ℕ). is ++ js) (named_in_joins source.joins.items) (named_on sources) ∙ sym (flat_map-append columns_within (tests_in source.joins.items) (tests_on sources))

columns_written : (parts : QueryParts) → columns_among (leaves_written parts) ≡ columns_of_query parts
columns_written parts =
    let conjuncts : List Leaf = flat_map leaves_within parts.conjuncts in
    let items : List Leaf = flat_map leaves_in parts.items in
    columns_joined (flat_map leaves_within (tests_on parts.sources)) (conjuncts ++ items)
    ∙ ap₂ (λ (is js : List ℕ). is ++ js) (columns_of_each leaves_within columns_within (tests_on parts.sources) (λ c. refl) ∙ sym (named_on parts.sources))
    (columns_joined conjuncts items ∙ ap₂ (λ (is js : List ℕ). is ++ js) (columns_of_each leaves_within columns_within parts.conjuncts (λ c. refl)) (columns_of_each leaves_in columns_in parts.items (λ e. refl)))

columns_named : (parts : QueryParts) → named_by parts ≡ each_once same_number (columns_among (leaves_of (query_of parts)))
columns_named parts =
    named_once [] (columns_of_query parts) ∙ ap (λ (is : List ℕ). and_all_new same_number [] is) (sym (columns_written parts))
    ∙ query_alike same_number same_itself columns_among columns_joined parts []

-- ---- texts
text_itself : (t : List ℕ) → bytes_eq t t ≡ true
text_itself t = grind (arith, bytes_eq-Decides)

texts_written : (parts : QueryParts) → texts_among (leaves_written parts) ≡ texts_of_query parts
texts_written parts =
    let conjuncts : List Leaf = flat_map leaves_within parts.conjuncts in
    let items : List Leaf = flat_map leaves_in parts.items in
    texts_of_both (flat_map leaves_within (tests_on parts.sources)) (conjuncts ++ items) (flat_map texts_within (tests_on parts.sources)) (flat_map texts_within parts.conjuncts ++ flat_map texts_in parts.items) (conditions_there (tests_on parts.sources))
    (texts_of_both conjuncts items (flat_map texts_within parts.conjuncts) (flat_map texts_in parts.items) (conditions_there parts.conjuncts) (expressions_there parts.items))

texts_once : (parts : QueryParts) → each_once bytes_eq (texts_of_query parts) ≡ each_once bytes_eq (texts_among (leaves_of (query_of parts)))
texts_once parts = ap (λ (ts : List (List ℕ)). each_once bytes_eq ts) (sym (texts_written parts)) ∙ query_alike bytes_eq text_itself texts_among texts_joined parts []

-- with HAVING and the select list behind them
texts_behind_once : (before : QueryParts) (having : List Cond) (items : List Expr) →
    each_once bytes_eq (texts_of_query before ++ (flat_map texts_within having ++ flat_map texts_in items))
    ≡ each_once bytes_eq (texts_among (leaves_of (query_of before) ++ (flat_map condition_leaves (map condition_of having) ++ flat_map leaves (map expression_of items))))
texts_behind_once before having items =
    let tests : List Leaf = flat_map leaves_within having in
    let shown : List Leaf = flat_map leaves_in items in
    let tests_of : List Leaf = flat_map condition_leaves (map condition_of having) in
    let shown_of : List Leaf = flat_map leaves (map expression_of items) in
    ap (λ (ts : List (List ℕ)). each_once bytes_eq ts)
    (sym (texts_of_both (leaves_written before) (tests ++ shown) (texts_of_query before) (flat_map texts_within having ++ flat_map texts_in items) (texts_written before)
    (texts_of_both tests shown (flat_map texts_within having) (flat_map texts_in items) (conditions_there having) (expressions_there items))))
    ∙ both_alike bytes_eq text_itself texts_among texts_joined (leaves_written before) (tests ++ shown) (leaves_of (query_of before)) (tests_of ++ shown_of) (query_alike bytes_eq text_itself texts_among texts_joined before)
    (both_alike bytes_eq text_itself texts_among texts_joined tests shown tests_of shown_of (conditions_alike bytes_eq text_itself texts_among texts_joined having) (expressions_alike bytes_eq text_itself texts_among texts_joined items)) []

-- ---- layouts

-- of a query that isn't grouped
pub plain_layout : (parts : QueryParts) (distinct : Bool) (layout : Layout) → AreUsedAt (entries_of (query_of parts).sources) (and_firsts (named_by parts) 0 (length (entries_of (query_of parts).sources))) layout.columns →
    layout.literals ≡ concat (texts_of_query parts) → IsLayoutOf (record { body = plain (query_of parts); distinct = distinct }) layout
plain_layout parts distinct layout used octets = record {
  columns = subst (λ (is : List ℕ). AreUsedAt (entries_of (query_of parts).sources) (and_firsts is 0 (length (entries_of (query_of parts).sources))) layout.columns) (columns_named parts) used;
  texts = texts_of_query parts;
  octets = octets;
  texts_are = texts_once parts;
}

-- of a grouped one, by what reaches GROUP BY and what is behind it
pub grouped_layout : (query : Grouped) (before : QueryParts) (having : List Cond) (items : List Expr) → query_of before ≡ front query → map condition_of having ≡ query.having → map expression_of items ≡ query.items → (distinct : Bool) (layout : Layout) →
    AreUsedAt (entries_of query.sources) (and_firsts (named_by before) 0 (length (entries_of query.sources))) layout.columns →
    layout.literals ≡ concat (texts_of_query before ++ (flat_map texts_within having ++ flat_map texts_in items)) → IsLayoutOf (record { body = grouped query; distinct = distinct }) layout
grouped_layout query before having items before_is having_is items_is distinct layout used octets =
    let Named : Specification → Type 0 = λ q. AreUsedAt (entries_of query.sources) (and_firsts (each_once same_number (columns_among (leaves_of q))) 0 (length (entries_of query.sources))) layout.columns in
    let named : Named (query_of before) = subst (λ (is : List ℕ). AreUsedAt (entries_of query.sources) (and_firsts is 0 (length (entries_of query.sources))) layout.columns) (columns_named before) used in
    let all : List Leaf → List Leaf = λ first. first ++ (flat_map condition_leaves query.having ++ flat_map leaves query.items) in
    record {
      columns = subst Named before_is named;
      texts = texts_of_query before ++ (flat_map texts_within having ++ flat_map texts_in items);
      octets = octets;
      texts_are = texts_behind_once before having items
          ∙ ap (λ (ls : List Leaf). each_once bytes_eq (texts_among ls))
          (ap₂ (λ (q : Specification) (ls : List Leaf). leaves_of q ++ ls) before_is
          (ap₂ (λ (cs : List Condition) (es : List Expression). flat_map condition_leaves cs ++ flat_map leaves es) having_is items_is));
    }

-- ---- what a layout is

-- the columns that it has are told by their numbers
one_used : (entries : List Entry) (number : ℕ) (a b : Used) → IsUsedAt entries number a → IsUsedAt entries number b → a ≡ b
one_used entries number a b h g =
    let entry : h.entry ≡ g.entry = same_Some h.entry g.entry (sym h.stands ∙ g.stands) in
    let its : slice_get h.entry.columns (number % 64) ≡ Some (record { ty = b.ty; not_null = b.not_null }) = subst (λ (e : Entry). slice_get e.columns (number % 64) ≡ Some (record { ty = b.ty; not_null = b.not_null })) (sym entry) g.declared in
    let of_a : ColumnType = record { ty = a.ty; not_null = a.not_null } in
    let of_b : ColumnType = record { ty = b.ty; not_null = b.not_null } in
    let declared : of_a ≡ of_b = same_Some of_a of_b (sym h.declared ∙ its) in
    let table : a.table ≡ b.table = h.table_is ∙ ap (λ (e : Entry). e.table) entry ∙ sym g.table_is in
    let place : a.column ≡ b.column = h.column_is ∙ sym g.column_is in
    ap₂ (λ (t c : ℕ). let used : Used = record { table = t; column = c; ty = a.ty; not_null = a.not_null } in used) table place
    ∙ ap (λ (d : ColumnType). let used : Used = record { table = b.table; column = b.column; ty = d.ty; not_null = d.not_null } in used) declared

pub used_once : (entries : List Entry) (numbers : List ℕ) (one other : List Used) → AreUsedAt entries numbers one → AreUsedAt entries numbers other → one ≡ other
used_once entries [] [] [] h g = refl
used_once entries [] [] (b ∷ other) h g = absurd g
used_once entries [] (a ∷ one) other h g = absurd h
used_once entries (n ∷ numbers) [] other h g = absurd h
used_once entries (n ∷ numbers) (a ∷ one) [] h g = absurd g
used_once entries (n ∷ numbers) (a ∷ one) (b ∷ other) h g = ap₂ (λ (u : Used) (us : List Used). u ∷ us) (one_used entries n a b h.0 g.0) (used_once entries numbers one other h.1 g.1)

-- where all octets are none, so is each text, and each of them once
abbrev IsEmpty : List ℕ → Type 0
IsEmpty t = t ≡ []

no_octets : (ts : List (List ℕ)) → concat ts ≡ [] → AllByRecursion IsEmpty ts
no_octets [] h = tt
no_octets ([] ∷ ts) h = (refl, no_octets ts h)
no_octets ((c ∷ t) ∷ ts) h = absurd cc

once_empty : (more ts : List (List ℕ)) → AllByRecursion IsEmpty ts → AllByRecursion IsEmpty more → AllByRecursion IsEmpty (and_all_new bytes_eq ts more)
once_empty [] ts h g = h
once_empty (t ∷ more) ts h g = once_empty more (and_new bytes_eq ts t) (choose (list_any (λ u. bytes_eq u t) ts)) g.1
  where
    choose : (b : Bool) → AllByRecursion IsEmpty (if b then ts else ts ++ t ∷ [])
    choose true = h
    choose false = all_append IsEmpty ts (t ∷ []) h (g.0, tt)

pub no_text : (octets texts : List (List ℕ)) → concat texts ≡ [] → each_once bytes_eq texts ≡ octets → AllByRecursion IsEmpty octets
no_text octets texts none once = subst (AllByRecursion IsEmpty) once (once_empty texts [] tt (no_octets texts none))
