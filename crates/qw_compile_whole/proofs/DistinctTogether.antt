-- The table of groups over all columns of a select list goes with what is read out of it, where its items are typed: DISTINCT as groups (ISO/IEC 9075:1992, 7.9).
use Rattle.std.proofs.Common.{◌≡◌, ℕ, zero, suc, ◌+◌, ◌≤◌, false, append_assoc, append-nil, Option, inl, inr, List, [], ◌∷◌, ◌++◌, length, map, drop, refl, sym, ap, subst, arith}
use Rattle.std.specs.List.{AllByRecursion}
use Rattle.std.proofs.lemmas.List.{length-map}
use Rattle.qw_types.specs.Value.{IsSized, type_scale}
use Rattle.qw_types.specs.declared.kind.Kind.{Kind}
use Rattle.qw_types.specs.declared.value.Ty.{Ty}
use Rattle.qw_types.specs.declared.value.Ty.TheVariants as types
use Rattle.qw_scalar.specs.Expression.{Expression, column}
use Rattle.qw_scalar.specs.Typing.{IsTyped, kind_of}
use Rattle.qw_meaning.specs.Select.{Specification}
use Rattle.qw_grouped.specs.Grouped.{expression_of_column, widest}
use Rattle.qw_expr.specs.Bindings.{Knows}
use Rattle.qw_expr.specs.Computes.{Known}
use Rattle.qw_physical.specs.declared.pipeline.ReadColumn.{ReadColumn}
use Rattle.qw_operator.specs.Takes.{AreSized, IsValueOver, anywhere}
use Rattle.qw_operator.specs.Grouping.{Group, TakeKinds}
use Rattle.qw_group_pipeline.specs.Groups.{all_anywhere}
use Rattle.qw_compile_whole.specs.GroupColumns.{key_from}
use Rattle.qw_compile_whole.specs.WholeDistinct.{distinct_columns, distinct_grouping}
use Rattle.qw_compile_whole.proofs.ColumnTypes.{kind_low, widest_sized}
use Rattle.qw_compile_whole.proofs.GroupBounded.{GoTogether}
use Rattle.qw_compile_whole.proofs.GroupedReady.{key_long, key_numbered}

columns_long : (n : ℕ) (items : List Expression) → length (distinct_columns n items) ≡ length items
columns_long n [] = refl
columns_long n (e ∷ items) = ap suc (columns_long (n + 1) items)

-- no value is behind the last column
pub none_behind : (n : ℕ) (kinds : List (Option Kind)) → length kinds ≡ n → drop n kinds ≡ []
none_behind n [] is = drop_none n
  where
    drop_none : (m : ℕ) → drop m (let none : List (Option Kind) = [] in none) ≡ []
    drop_none zero = refl
    drop_none (suc m) = refl
none_behind zero (k ∷ kinds) is = absurd (omega (arith, is))
none_behind (suc n) (k ∷ kinds) is = none_behind n kinds (omega (arith, is))

pub all_sized : (n m : ℕ) (items : List Expression) → AllByRecursion IsTyped items → AreSized (key_from n (distinct_columns m items))
all_sized n m [] typed = tt
all_sized n m (e ∷ items) typed = (widest_sized (kind_of e) (kind_low e typed.0), all_sized (n + 1) (m + 1) items typed.1)

sized_scale : (ty : Ty) → IsSized ty → type_scale ty ≤ 18
sized_scale types.Integer h = omega arith
sized_scale (types.Decimal precision scale) h = omega (arith, h.1, h.2)
sized_scale types.Date h = omega arith
sized_scale (types.Varchar limit) h = omega arith

-- each column is known where these are
knows_more : (known others : List Known) (e : Expression) → Knows others e → Knows (known ++ others) e
knows_more [] others e h = h
knows_more (k ∷ known) others e h = let rest = knows_more known others e h in (rest.0, inr rest.1)

columns_over : (known literals : List Known) (n : ℕ) (items : List Expression) → AllByRecursion IsTyped items → AllByRecursion (IsValueOver (known ++ (map anywhere (key_from n (distinct_columns n items)) ++ literals))) (map expression_of_column (distinct_columns n items))
columns_over known literals n [] typed = tt
columns_over known literals n (e ∷ items) typed =
    let first : ReadColumn = record { number = n; ty = widest (kind_of e); not_null = false } in
    let rest : List Known = map anywhere (key_from (n + 1) (distinct_columns (n + 1) items)) ++ literals in
    let one = known ++ anywhere first ∷ [] in (
      ((sized_scale (widest (kind_of e)) (widest_sized (kind_of e) (kind_low e typed.0)), refl), knows_more known (anywhere first ∷ rest) (column n (widest (kind_of e))) ((anywhere first).operand, inl refl)),
      subst (λ (ks : List Known). AllByRecursion (IsValueOver ks) (map expression_of_column (distinct_columns (n + 1) items))) (append_assoc known (anywhere first ∷ []) rest) (columns_over one literals (n + 1) items typed.1),
    )

pub distinct_together : (query : Specification) (g : Group) (literals : List Known) → AllByRecursion IsTyped query.items → 1 ≤ length query.items → length query.items ≤ 512 → g.columns ≡ length query.items → g.functions ≡ [] → length g.values ≡ length query.items →
    GoTogether (distinct_grouping query) g (key_from 0 (distinct_columns 0 query.items)) [] literals
distinct_together query g literals typed some few columns_is functions_is values_is =
    let long = columns_long 0 query.items in
    let none : length g.functions ≡ 0 = ap (λ (l : List _). length l) functions_is in
    let dropped : drop g.columns (map kind_of g.values) ≡ [] = none_behind g.columns (map kind_of g.values) (omega (arith, length-map g.values kind_of, values_is, columns_is)) in
    record {
      can = record {
        many = omega (arith, values_is, columns_is, none);
        few = omega (arith, values_is, few);
        arguments = subst (λ (fs : List _). TakeKinds fs (drop g.columns (map kind_of g.values))) (sym functions_is) (subst (TakeKinds []) (sym dropped) tt);
      };
      some = omega (arith, some, columns_is);
      many = omega (arith, columns_is, long);
      functions = functions_is;
      key_many = omega (arith, key_long 0 (distinct_columns 0 query.items), long, columns_is);
      theirs = sym functions_is;
      arguments = dropped;
      kinds = tt;
      sized = all_sized 0 0 query.items typed;
      numbered = key_numbered 0 (distinct_columns 0 query.items);
      numbered_values = tt;
      takes = (tt, (subst (λ (ks : List Known). AllByRecursion (IsValueOver ks) (map expression_of_column (distinct_columns 0 query.items))) anywhere_is (columns_over [] literals 0 query.items typed), omega (arith, length-map (distinct_columns 0 query.items) expression_of_column, long, few)));
    }
  where
    anywhere_is : map anywhere (key_from 0 (distinct_columns 0 query.items)) ++ literals ≡ all_anywhere (key_from 0 (distinct_columns 0 query.items)) [] ++ literals
    anywhere_is = ap (λ (ks : List Known). ks ++ literals) (sym (append-nil (map anywhere (key_from 0 (distinct_columns 0 query.items)))))
