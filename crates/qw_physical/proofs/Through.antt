-- What a pipeline feeds, operator by operator: what comes of a row before an operator, by what comes of a row behind it.
use Rattle.std.proofs.Common.{◌≡◌, List, [], ◌∷◌, ◌++◌, get_or, length, take, if◌then◌else◌, Result, Ok, Err, refl, ap, ap₂}
use Rattle.qw_types.specs.ValueOrder.{is_same_row}
use Rattle.qw_types.specs.declared.code.Code.{Code}
use Rattle.qw_types.specs.declared.value.Val.{Val}
use Rattle.qw_scalar.specs.Conjuncts.{passes}
use Rattle.qw_scalar.specs.Evaluation.{at_row}
use Rattle.qw_meaning.specs.Flow.{Flow, values_of}
use Rattle.qw_feed.specs.Feeds.{flow_by, flow_over, nothing, where_true}
use Rattle.qw_table.specs.Joins.{where_values}
use Rattle.qw_physical.specs.Physical.{Operator, Probe, Sink, filter, probe}
use Rattle.qw_physical.specs.Courses.{fed, is_alone, met, pair_of}
use Rattle.qw_physical.proofs.Orders.{over_same}

pub by_same : {A : Type 0} (r : Result A Code) (f g : A → Flow (List Val)) → ((x : A) → f x ≡ g x) → flow_by r f ≡ flow_by r g
by_same (Ok x) f g h = h x
by_same (Err code) f g h = refl

module _ (built : List (List (List Val))) where
  -- what comes of a row at an operator, by what comes of the rows that go on
  abbrev pub at_operator : Operator → (work : List Val → Flow (List Val)) → List Val → Flow (List Val)
  at_operator (filter conjuncts) work row = flow_by (passes conjuncts (at_row row)) (where_true (work row))
  at_operator (probe p) work row =
      flow_by (values_of p.key (at_row row)) (λ key. if is_alone p row key (get_or built p.table []) then work row else where_values (flow_over (met work p row key) (get_or built p.table [])) key)

  abbrev pub through : List Operator → (work : List Val → Flow (List Val)) → List Val → Flow (List Val)
  through [] work row = work row
  through (o ∷ operators) work row = at_operator o (through operators work) row

  met_same : (p : Probe) (row key : List Val) (f g : List Val → Flow (List Val)) → ((r : List Val) → f r ≡ g r) → (entry : List Val) → met f p row key entry ≡ met g p row key entry
  met_same p row key f g h entry =
      ap (λ (x : Flow (List Val)). if is_same_row key (take (length p.key) entry) then flow_by (passes p.on (at_row (pair_of p row entry))) (where_true x) else nothing) (h (pair_of p row entry))

  pub operator_same : (o : Operator) (f g : List Val → Flow (List Val)) → ((r : List Val) → f r ≡ g r) → (row : List Val) → at_operator o f row ≡ at_operator o g row
  operator_same (filter conjuncts) f g h row = ap (λ (x : Flow (List Val)). flow_by (passes conjuncts (at_row row)) (where_true x)) (h row)
  operator_same (probe p) f g h row =
      by_same (values_of p.key (at_row row)) (λ key. if is_alone p row key (get_or built p.table []) then f row else where_values (flow_over (met f p row key) (get_or built p.table [])) key)
      (λ key. if is_alone p row key (get_or built p.table []) then g row else where_values (flow_over (met g p row key) (get_or built p.table [])) key)
      (λ key. ap₂ (λ (x y : Flow (List Val)). if is_alone p row key (get_or built p.table []) then x else where_values y key) (h row)
      (over_same (met f p row key) (met g p row key) (get_or built p.table []) (met_same p row key f g h)))

  pub fed_through : (operators : List Operator) (sink : Sink) (row : List Val) → fed built operators sink row ≡ through operators (fed built [] sink) row
  fed_through [] sink row = refl
  fed_through (filter conjuncts ∷ operators) sink row =
      operator_same (filter conjuncts) (fed built operators sink) (through operators (fed built [] sink)) (fed_through operators sink) row
  fed_through (probe p ∷ operators) sink row =
      operator_same (probe p) (fed built operators sink) (through operators (fed built [] sink)) (fed_through operators sink) row

  pub through_last : (operators : List Operator) (o : Operator) (work : List Val → Flow (List Val)) (row : List Val)
      → through (operators ++ o ∷ []) work row ≡ through operators (at_operator o work) row
  through_last [] o work row = operator_same o (through [] work) work (λ r. refl) row
  through_last (x ∷ operators) o work row = operator_same x (through (operators ++ o ∷ []) work) (through operators (at_operator o work)) (through_last operators o work) row
