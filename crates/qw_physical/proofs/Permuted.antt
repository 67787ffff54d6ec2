-- Over tables whose entries stand in another order a pipeline feeds the same rows in another order, and takes as many units. So what pipelines
-- take, and how many entries they build, is told by the tables of the schema alone.
use Rattle.std.proofs.Common.{◌≡◌, ℕ, zero, suc, Bool, true, false, if◌then◌else◌, List, [], ◌∷◌, ◌++◌, get_or, length, take, Result, Ok, Err, refl}
use Rattle.std.specs.List.{AllZip}
use Rattle.std.specs.List.Sorted.{IsPermutation}
use Rattle.std.proofs.lemmas.List.Sorted.{IsPermutation-refl, list_any-IsPermutation}
use Rattle.qw_types.specs.ValueOrder.{is_same_row}
use Rattle.qw_types.specs.declared.code.Code.{Code}
use Rattle.qw_types.specs.declared.value.Val.{Val}
use Rattle.qw_scalar.specs.Conjuncts.{passes}
use Rattle.qw_scalar.specs.Evaluation.{at_row}
use Rattle.qw_meaning.specs.Flow.{Flow, values_of}
use Rattle.qw_meaning.specs.From.{entry_flow}
use Rattle.qw_algebra.proofs.Lists.{all_of_any}
use Rattle.qw_feed.specs.Feeds.{flow_by, flow_over, nothing, where_true}
use Rattle.qw_table.specs.Joins.{have_values, where_values}
use Rattle.qw_physical.specs.Physical.{Operator, Pipeline, Sink, filter, probe}
use Rattle.qw_physical.specs.Courses.{fed, is_alone, meets, met, pair_of, pipeline_fed}
use Rattle.qw_physical.proofs.Alone.{alone_is}
use Rattle.qw_physical.proofs.Orders.{Alike, alike_refl, alike_trans, each_permuted, over_permuted}

-- tables one by one, each with the same entries in some order
abbrev pub ArePermuted : (built others : List (List (List Val))) → Type 0
ArePermuted built others = AllZip (λ (entries more : List (List Val)). IsPermutation entries more) built others

pub permuted_at : (built others : List (List (List Val))) (k : ℕ) → ArePermuted built others → IsPermutation (get_or built k []) (get_or others k [])
permuted_at [] [] k h = IsPermutation-refl []
permuted_at [] (y ∷ others) k h = absurd h
permuted_at (x ∷ built) [] k h = absurd h
permuted_at (x ∷ built) (y ∷ others) zero h = h.0
permuted_at (x ∷ built) (y ∷ others) (suc k) h = permuted_at built others k h.1

-- ---- what is fed

by_alike : {A : Type 0} (r : Result A Code) (f g : A → Flow (List Val)) → ((x : A) → Alike (f x) (g x)) → Alike (flow_by r f) (flow_by r g)
by_alike (Ok x) f g h = h x
by_alike (Err code) f g h = alike_refl (record { rows = []; codes = code ∷ [] })

where_alike : (b : Bool) (f g : Flow (List Val)) → Alike f g → Alike (if b then f else nothing) (if b then g else nothing)
where_alike true f g h = h
where_alike false f g h = alike_refl nothing

alone_alike : (b c : Bool) → b ≡ c → (f g k l : Flow (List Val)) → Alike f g → Alike k l → Alike (if b then f else k) (if c then g else l)
alone_alike true true e f g k l h j = h
alone_alike true false e f g k l h j = absurd cc
alone_alike false true e f g k l h j = absurd cc
alone_alike false false e f g k l h j = j

true_alike : (b : Bool) (f g : Flow (List Val)) → Alike f g → Alike (where_true f b) (where_true g b)
true_alike true f g h = h
true_alike false f g h = alike_refl nothing

over_alike : (f g : List Val → Flow (List Val)) (xs ys : List (List Val)) → ((x : List Val) → Alike (f x) (g x)) → IsPermutation xs ys → Alike (flow_over f xs) (flow_over g ys)
over_alike f g xs ys h p =
    alike_trans (flow_over f xs) (flow_over g xs) (flow_over g ys) (
      each_permuted (λ x. (f x).rows) (λ x. (g x).rows) xs (all_of_any (λ x. IsPermutation (f x).rows (g x).rows) xs (λ x. (h x).0)),
      each_permuted (λ x. (f x).codes) (λ x. (g x).codes) xs (all_of_any (λ x. IsPermutation (f x).codes (g x).codes) xs (λ x. (h x).1)),
    ) (over_permuted g xs ys p)

module _ (built others : List (List (List Val))) (same : ArePermuted built others) where
  pub fed_permuted : (operators : List Operator) (sink : Sink) (row : List Val) → Alike (fed built operators sink row) (fed others operators sink row)
  fed_permuted [] sink row = alike_refl (fed built [] sink row)
  fed_permuted (filter conjuncts ∷ operators) sink row =
      let rest = fed_permuted operators sink row in
      by_alike (passes conjuncts (at_row row)) (where_true (fed built operators sink row)) (where_true (fed others operators sink row))
      (λ b. true_alike b (fed built operators sink row) (fed others operators sink row) rest)
  fed_permuted (probe p ∷ operators) sink row =
      let rest = fed_permuted operators sink in
      by_alike (values_of p.key (at_row row))
      (λ key. if is_alone p row key (get_or built p.table []) then fed built operators sink row else where_values (flow_over (met (fed built operators sink) p row key) (get_or built p.table [])) key)
      (λ key. if is_alone p row key (get_or others p.table []) then fed others operators sink row else where_values (flow_over (met (fed others operators sink) p row key) (get_or others p.table [])) key)
      (λ key. alone_alike (is_alone p row key (get_or built p.table [])) (is_alone p row key (get_or others p.table []))
      (alone_is p p row row key (get_or built p.table []) (get_or others p.table []) refl
      (list_any-IsPermutation (meets p row key) (get_or built p.table []) (get_or others p.table []) (permuted_at built others p.table same)))
      (fed built operators sink row) (fed others operators sink row) (where_values (flow_over (met (fed built operators sink) p row key) (get_or built p.table [])) key)
      (where_values (flow_over (met (fed others operators sink) p row key) (get_or others p.table [])) key) (rest row)
      (where_alike (have_values key) (flow_over (met (fed built operators sink) p row key) (get_or built p.table [])) (flow_over (met (fed others operators sink) p row key) (get_or others p.table []))
      (over_alike (met (fed built operators sink) p row key) (met (fed others operators sink) p row key) (get_or built p.table []) (get_or others p.table [])
      (λ entry. where_alike (is_same_row key (take (length p.key) entry)) (flow_by (passes p.on (at_row (pair_of p row entry))) (where_true (fed built operators sink (pair_of p row entry))))
      (flow_by (passes p.on (at_row (pair_of p row entry))) (where_true (fed others operators sink (pair_of p row entry))))
      (by_alike (passes p.on (at_row (pair_of p row entry))) (where_true (fed built operators sink (pair_of p row entry))) (where_true (fed others operators sink (pair_of p row entry)))
      (λ b. true_alike b (fed built operators sink (pair_of p row entry)) (fed others operators sink (pair_of p row entry)) (rest (pair_of p row entry)))))
      (permuted_at built others p.table same))))

  pub pipeline_fed_permuted : (tables : List (List (List Val))) (p : Pipeline) → Alike (pipeline_fed tables built p) (pipeline_fed tables others p)
  pipeline_fed_permuted tables p =
      over_alike (fed built p.operators p.sink) (fed others p.operators p.sink) (entry_flow tables p.entry p.table).rows (entry_flow tables p.entry p.table).rows
      (fed_permuted p.operators p.sink) (IsPermutation-refl (entry_flow tables p.entry p.table).rows)

-- ---- pipelines in order

-- the tables that pipelines build where each has its entries as they are fed, and what all of them take, whatever is raised
abbrev pub built_in_order : (tables built : List (List (List Val))) → List Pipeline → List (List (List Val))
built_in_order tables built [] = []
built_in_order tables built (p ∷ ps) = (pipeline_fed tables built p).rows ∷ built_in_order tables (built ++ (pipeline_fed tables built p).rows ∷ []) ps
