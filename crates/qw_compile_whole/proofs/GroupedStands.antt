-- The pipelines of what reaches GROUP BY can be emitted, whatever is behind them, and their last one's rows can go into groups.
use Rattle.std.proofs.Common.{◌≡◌, ◌∙◌, ◌≤◌, ℕ, zero, suc, true, Contains, Option, Some, None, IfSome, Result, Ok, Err, IfOk, List, [], ◌∷◌, ◌++◌, length, map, refl, sym, ap, subst, arith}
use Rattle.std.specs.List.{AllByRecursion, flat_map}
use Rattle.std.proofs.lemmas.List.{length-map}
use Rattle.std.proofs.lemmas.Grind.{flat_map-append}
use Rattle.std.specs.declared.cmp.Ordering.TheVariants as ordering
use Rattle.qw_types.specs.ValueOrder.{is_same_row, value_order}
use Rattle.qw_types.specs.declared.value.Val.{Val}
use Rattle.qw_scalar.specs.Expression.{Expression}
use Rattle.qw_scalar.specs.Typing.{kind_of}
use Rattle.qw_meaning.specs.Query.{QueryParts, query_of}
use Rattle.qw_algebra.proofs.Lists.{all_append, all_more}
use Rattle.qw_leaves.proofs.LeafLists.{all_front, all_of_each, texts_of_both}
use Rattle.qw_leaves.specs.Leaves.{texts_among}
use Rattle.qw_leaves.specs.declared.leaf.Leaf.{Leaf}
use Rattle.qw_physical.specs.Coded.{pipeline_of}
use Rattle.qw_physical.specs.Physical.{Pipeline, select}
use Rattle.qw_physical.specs.declared.pipeline.Pipeline as coded
use Rattle.qw_physical.specs.declared.pipeline.ReadColumn.{ReadColumn}
use Rattle.qw_module.specs.declared.instruction.ValType.{ValType}
use Rattle.qw_map.specs.Layout.{Layout}
use Rattle.qw_map.specs.declared.layout.Used.{Used}
use Rattle.qw_low.specs.declared.step.LowStep.{LowStep}
use Rattle.qw_operator.specs.Grouping.{Group}
use Rattle.qw_group_pipeline.specs.declared.columns.ValueColumn.{ValueColumn}
use Rattle.qw_compile.specs.QueryColumns.{AreColumnsOf}
use Rattle.qw_compile.specs.QueryLiterals.{pipeline_leaves, query_texts}
use Rattle.qw_compile.specs.QueryMade.{CanStand, literals_by}
use Rattle.qw_compile.specs.QueryPasses.{ArePipelinesOf}
use Rattle.qw_compile.proofs.Planned.{IsPartedOf, all_ready, few_made, named_within, parted_as}
use Rattle.qw_compile.proofs.PromiseKept.{SelectsItems, last_selects}
use Rattle.qw_compile.proofs.QueryCan.{IsLiteralOf, IsReadyPipeline, can_stand, literals_known}
use Rattle.qw_compile_whole.specs.GroupedMade.{IsGroupedMade}
use Rattle.qw_compile_whole.specs.GroupedPlaced.{LastSelects, Selects}

-- ---- texts
contains_left : (xs ys : List (List ℕ)) (t : List ℕ) → Contains xs t → Contains (xs ++ ys) t
contains_left [] ys t (k, less, there) = absurd (omega (arith, less))
contains_left (x ∷ xs) ys t (zero, less, there) = (zero, omega arith, there)
contains_left (x ∷ xs) ys t (suc k, less, there) = let rest = contains_left xs ys t (k, omega (arith, less), there) in (suc rest.0, omega (arith, rest.1), rest.2)

contains_right : (xs ys : List (List ℕ)) (t : List ℕ) → Contains ys t → Contains (xs ++ ys) t
contains_right [] ys t h = h
contains_right (x ∷ xs) ys t h = let rest = contains_right xs ys t h in (suc rest.0, omega (arith, rest.1), rest.2)

contains_all : (ts : List (List ℕ)) → AllByRecursion (Contains ts) ts
contains_all [] = tt
contains_all (t ∷ ts) = ((zero, omega arith, refl), all_more (Contains ts) (Contains (t ∷ ts)) ts (λ u h. (suc h.0, omega (arith, h.1), h.2)) (contains_all ts))

pub texts_apart : (ps : List coded.Pipeline) (p : coded.Pipeline) → query_texts (ps ++ p ∷ []) ≡ query_texts ps ++ query_texts (p ∷ [])
texts_apart ps p =
    ap texts_among (flat_map-append pipeline_leaves ps (p ∷ [])) ∙ texts_of_both (flat_map pipeline_leaves ps) (flat_map pipeline_leaves (p ∷ [])) (query_texts ps) (query_texts (p ∷ [])) refl refl

-- those of all pipelines are among the texts in front of GROUP BY and those behind it
pub texts_among_both : (before behind : List (List ℕ)) (ps : List coded.Pipeline) (p : coded.Pipeline) → AllByRecursion (Contains before) (query_texts ps) → query_texts (p ∷ []) ≡ behind → AllByRecursion (Contains (before ++ behind)) (query_texts (ps ++ p ∷ []))
texts_among_both before behind ps p one two =
    subst (AllByRecursion (Contains (before ++ behind))) (sym (texts_apart ps p))
    (all_append (Contains (before ++ behind)) (query_texts ps) (query_texts (p ∷ [])) (all_more (Contains before) (Contains (before ++ behind)) (query_texts ps) (λ t h. contains_left before behind t h) one)
    (subst (AllByRecursion (Contains (before ++ behind))) (sym two) (all_more (Contains behind) (Contains (before ++ behind)) behind (λ t h. contains_right before behind t h) (contains_all behind))))

-- ---- the last one
pub record Halved (ps : List Pipeline) : Type 0 where
  pub building : List Pipeline
  pub last : Pipeline
  pub is : ps ≡ building ++ last ∷ []

pub halved : (ps : List Pipeline) → 1 ≤ length ps → Halved ps
halved [] some = absurd (omega (arith, some))
halved (p ∷ []) some = record { building = []; last = p; is = refl }
halved (p ∷ q ∷ ps) some = let rest = halved (q ∷ ps) (omega arith) in record { building = p ∷ rest.building; last = rest.last; is = ap (λ (l : List Pipeline). p ∷ l) rest.is }

pub selects_last : (P : List Expression → Type 0) (ps : List Pipeline) (p : Pipeline) (items : List Expression) → p.sink ≡ select items → P items → LastSelects P (ps ++ p ∷ [])
selects_last P [] p items is h = subst (Selects P) (sym is) h
selects_last P (q ∷ []) p items is h = selects_last P [] p items is h
selects_last P (q ∷ r ∷ ps) p items is h = selects_last P (r ∷ ps) p items is h

module _ (parts : QueryParts) (kept columns : List ReadColumn) (ps : List coded.Pipeline) (are : AreColumnsOf parts kept columns) (of : ArePipelinesOf parts kept ps) where
  -- each can stand where literals are those of others too
  pub front_stands : (tables : ℕ) (ts : List (List ℕ)) (behind : coded.Pipeline) → AllByRecursion (Contains ts) (query_texts (ps ++ behind ∷ [])) → AllByRecursion (λ (q : coded.Pipeline). CanStand tables ts (ps ++ behind ∷ []) columns (pipeline_of q)) ps
  front_stands tables ts behind among = each ps leaves (all_ready parts kept columns ps are of)
    where
      all : List coded.Pipeline
      all = ps ++ behind ∷ []

      R : Leaf → Type 0
      R = IsLiteralOf (literals_by tables (length columns) ts (ps ++ behind ∷ []))

      leaves : AllByRecursion (λ (q : coded.Pipeline). AllByRecursion R (pipeline_leaves q)) ps
      leaves =
          all_of_each R pipeline_leaves ps
          (all_front R (flat_map pipeline_leaves ps) (flat_map pipeline_leaves (behind ∷ [])) (subst (AllByRecursion R) (flat_map-append pipeline_leaves ps (behind ∷ [])) (literals_known tables (length columns) ts all among)))

      each : (qs : List coded.Pipeline) → AllByRecursion (λ (q : coded.Pipeline). AllByRecursion R (pipeline_leaves q)) qs → AllByRecursion (IsReadyPipeline kept columns) (map pipeline_of qs)
          → AllByRecursion (λ (q : coded.Pipeline). CanStand tables ts (ps ++ behind ∷ []) columns (pipeline_of q)) qs
      each [] l g = tt
      each (q ∷ qs) l g = (can_stand tables ts all kept columns q (named_within parts kept columns are) l.0 g.0.0 g.0.1.0 g.0.1.1.0 g.0.1.1.1, each qs l.1 g.1)

  -- what holds of all items of such kinds holds of the last one's
  pub last_can : ((row other : List Val) → is_same_row row other ≡ true → row ≡ other) → ((a : Val) → value_order a a ≡ ordering.Equal) → (P : List Expression → Type 0) → ((made : List Expression) → map kind_of made ≡ map kind_of (query_of parts).items → P made) → LastSelects P (map pipeline_of ps)
  last_can same_rows same_value P can =
      let some = (few_made parts kept columns ps are of).0 in
      let h = halved (map pipeline_of ps) (omega (arith, some, length-map ps pipeline_of)) in
      let same = parted_as kept of.node (map pipeline_of ps) h.building h.last h.is of.same in
      let cut : IsPartedOf kept of.node (map pipeline_of ps) = record { building = h.building; last = h.last; whole = h.is; same = same.0; same_last = same.1 } in
      let chosen : SelectsItems (query_of parts).items h.last.sink = last_selects same_rows same_value parts kept columns ps are of cut in
      subst (LastSelects P) (sym h.is) (selects_last P h.building h.last chosen.made chosen.is (can chosen.made chosen.kinds))

-- ---- the statement, of what these are
pub statement_as : (tables many : ℕ) (ts texts : List (List ℕ)) (ps : List coded.Pipeline) (g : Group) (ks key : List ReadColumn) (vs values : List ValueColumn) (behind : coded.Pipeline) (cs columns : List ReadColumn) (used : List Used) (layout : Layout) (code : List LowStep) (locals : List ValType) →
    tables ≡ many → ts ≡ texts → ks ≡ key → vs ≡ values → cs ≡ columns → IsGroupedMade tables ts ps g ks vs behind cs used layout code locals → IsGroupedMade many texts ps g key values behind columns used layout code locals
statement_as tables many ts texts ps g ks key vs values behind cs columns used layout code locals one two three four five h =
    subst (λ (n : ℕ). IsGroupedMade n texts ps g key values behind columns used layout code locals) one
    (subst (λ (l : List (List ℕ)). IsGroupedMade tables l ps g key values behind columns used layout code locals) two
    (subst (λ (l : List ReadColumn). IsGroupedMade tables ts ps g l values behind columns used layout code locals) three
    (subst (λ (l : List ValueColumn). IsGroupedMade tables ts ps g ks l behind columns used layout code locals) four
    (subst (λ (l : List ReadColumn). IsGroupedMade tables ts ps g ks vs behind l used layout code locals) five h))))

pub ok_some_as : {X E : Type 0} (r : Result (Option X) E) (P Q : X → Type 0) → ((x : X) → P x → Q x) → IfOk r (λ (found : Option X). IfSome found P) → IfOk r (λ (found : Option X). IfSome found Q)
ok_some_as (Ok (Some x)) P Q f h = f x h
ok_some_as (Ok None) P Q f h = tt
ok_some_as (Err e) P Q f h = h
