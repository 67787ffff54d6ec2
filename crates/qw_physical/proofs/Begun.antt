-- Of pipelines of which some at the beginning have run, the units of these and of the next one are within the plan's.
use Rattle.std.proofs.Common.{◌≡◌, ◌∙◌, ℕ, ◌+◌, ◌≤◌, true, List, [], ◌∷◌, ◌++◌, length, sum_by, refl, sym, ap, ap₂, subst, arith, Result, Ok, Err, append-nil, append_assoc, length-append}
use Rattle.std.specs.List.{AllByRecursion}
use Rattle.std.specs.List.Sorted.{IsPermutation}
use Rattle.std.proofs.lemmas.List.Sorted.{length_permutation}
use Rattle.std.specs.declared.cmp.Ordering.TheVariants as ordering
use Rattle.qw_types.specs.ValueOrder.{is_same_row, value_order}
use Rattle.qw_types.specs.declared.code.Code.{Code}
use Rattle.qw_types.specs.declared.value.Val.{Val}
use Rattle.qw_scalar.specs.Evaluation.{at_row}
use Rattle.qw_scalar.specs.Expression.{Condition, Expression}
use Rattle.qw_scalar.specs.Units.{units_of_items}
use Rattle.qw_meaning.specs.Flow.{values_of}
use Rattle.qw_meaning.specs.From.{entry_flow}
use Rattle.qw_meaning.specs.Select.{AreOfEntries, IsSpecification, Specification, conjuncts_on, entries_of}
use Rattle.qw_meaning.proofs.FromLemmas.{cell}
use Rattle.qw_algebra.specs.Columns.{condition_names_only, names_only}
use Rattle.qw_algebra.specs.Node.{Node, scan, filter, join, project, node_flow}
use Rattle.qw_algebra.specs.Written.{written}
use Rattle.qw_pipe.specs.General.{general_hashing}
use Rattle.qw_pipe.specs.Pipes as pipes
use Rattle.qw_pipe.specs.Pipes.{make, pipelines, split, test, then_step}
use Rattle.qw_pipe.specs.Units.{units_of}
use Rattle.qw_pipe.proofs.Ordering.{in_order}
use Rattle.qw_pipe.proofs.Splitting.{building}
use Rattle.qw_rewrite.specs.Placed.{IsSizedPlan}
use Rattle.qw_rewrite.specs.Probe.{keyed}
use Rattle.qw_rewrite.specs.Sift.{sifted}
use Rattle.qw_physical.specs.Courses.{AreBuilt, by_values, costs, pipeline_cost, pipeline_fed}
use Rattle.qw_physical.specs.Held.{held, sink_octets}
use Rattle.qw_physical.specs.Physical.{Operator, Pipeline, Sink, select}
use Rattle.qw_physical.specs.Reads.{AreRead, AreScaled, IsScaled, is_read}
use Rattle.qw_physical.specs.Spelled.{all_spelled, items_made, spelled, spelled_sink, spelled_steps}
use Rattle.qw_physical.specs.declared.pipeline.ReadColumn.{ReadColumn}
use Rattle.qw_physical.proofs.Bounded.{bounds, build_cost, joined_builds, spelled_more}
use Rattle.qw_physical.proofs.Feeding.{built_count, spelled_count, pipelines_append}
use Rattle.qw_physical.proofs.Charges.{charges, cost_respects, sink_cost}
use Rattle.qw_physical.proofs.Grounded.{IsGround, clauses, query_grounded}
use Rattle.qw_physical.proofs.JoinBound.{IsKnown, names_kept, table_bound}
use Rattle.qw_physical.proofs.Totals.{later_cost, later_costs, sum_is, total, total_same, zero_and, zero_and_two}

-- ---- pipelines that have begun

module _ (tables : List (List (List Val))) where
  abbrev pub AreBegun : (built : List (List (List Val))) → List Pipeline → (more : List (List (List Val))) → Type 0
  AreBegun built ps [] = Unit {0}
  AreBegun built [] (e ∷ more) = ⊥
  AreBegun built (p ∷ ps) (e ∷ more) = ((pipeline_fed tables built p).codes ≡ []) × IsPermutation (pipeline_fed tables built p).rows e × AreBegun (built ++ e ∷ []) ps more

  pub are_begun : (built : List (List (List Val))) (front back : List Pipeline) (more : List (List (List Val))) → AreBuilt tables built front more → AreBegun built (front ++ back) more
  are_begun built [] back [] h = tt
  are_begun built [] back (e ∷ more) h = absurd h
  are_begun built (p ∷ front) back [] h = absurd h
  are_begun built (p ∷ front) back (e ∷ more) h = (h.0, h.1, are_begun (built ++ e ∷ []) front back more h.2)

  -- what a table holds, once it is built of all that was fed
  abbrev pub held_next : (built : List (List (List Val))) → Pipeline → ℕ
  held_next built p = sink_octets p.sink (length (pipeline_fed tables built p).rows)

  -- up to one before this one; all before it; or this one too: what they cost, and what their tables hold
  pub data IsBegunAt (built : List (List (List Val))) (xs : List Pipeline) (y : Pipeline) (ys : List Pipeline) (more : List (List (List Val))) : Type 0 where
    before : AreBegun built xs more → costs tables built (xs ++ y ∷ ys) more ≡ costs tables built xs more → held tables built (xs ++ y ∷ ys) more ≡ held tables built xs more → IsBegunAt built xs y ys more
    at : AreBuilt tables built xs more → AreBegun built xs more → costs tables built (xs ++ y ∷ ys) more ≡ costs tables built xs more + pipeline_cost tables (built ++ more) y
        → held tables built (xs ++ y ∷ ys) more ≡ held tables built xs more + held_next (built ++ more) y → IsBegunAt built xs y ys more
    behind : (front : List (List (List Val))) (entries : List (List Val)) (back : List (List (List Val))) → AreBuilt tables built xs front → AreBegun built xs front
        → length entries ≡ length (pipeline_fed tables (built ++ front) y).rows → AreBegun ((built ++ front) ++ entries ∷ []) ys back
        → costs tables built (xs ++ y ∷ ys) more ≡ costs tables built xs front + pipeline_cost tables (built ++ front) y + costs tables ((built ++ front) ++ entries ∷ []) ys back
        → held tables built (xs ++ y ∷ ys) more ≡ held tables built xs front + sink_octets y.sink (length entries) + held tables ((built ++ front) ++ entries ∷ []) ys back
        → IsBegunAt built xs y ys more

  pub begun_at : (built : List (List (List Val))) (xs : List Pipeline) (y : Pipeline) (ys : List Pipeline) (more : List (List (List Val))) → AreBegun built (xs ++ y ∷ ys) more → IsBegunAt built xs y ys more
  begun_at built [] y ys [] h =
      at tt tt (zero_and (pipeline_cost tables built y) ∙ ap (λ (b : List (List (List Val))). 0 + pipeline_cost tables b y) (sym (append-nil built)))
      (zero_and (held_next built y) ∙ ap (λ (b : List (List (List Val))). 0 + held_next b y) (sym (append-nil built)))
  begun_at built [] y ys (e ∷ more) h =
      behind [] e more tt tt (subst (λ (b : List (List (List Val))). length e ≡ length (pipeline_fed tables b y).rows) (sym (append-nil built)) (length_permutation (pipeline_fed tables built y).rows e h.1))
      (subst (λ (b : List (List (List Val))). AreBegun (b ++ e ∷ []) ys more) (sym (append-nil built)) h.2)
      (zero_and_two (pipeline_cost tables built y) (costs tables (built ++ e ∷ []) ys more)
      ∙ ap (λ (b : List (List (List Val))). 0 + pipeline_cost tables b y + costs tables (b ++ e ∷ []) ys more) (sym (append-nil built)))
      (zero_and_two (sink_octets y.sink (length e)) (held tables (built ++ e ∷ []) ys more)
      ∙ ap (λ (b : List (List (List Val))). 0 + sink_octets y.sink (length e) + held tables (b ++ e ∷ []) ys more) (sym (append-nil built)))
  begun_at built (x ∷ xs) y ys [] h = before tt refl refl
  begun_at built (x ∷ xs) y ys (e ∷ more) h = one (begun_at (built ++ e ∷ []) xs y ys more h.2)
    where
      one : IsBegunAt (built ++ e ∷ []) xs y ys more → IsBegunAt built (x ∷ xs) y ys (e ∷ more)
      one (before begun cost is) = before (h.0, h.1, begun) (ap (λ (n : ℕ). pipeline_cost tables built x + n) cost) (ap (λ (n : ℕ). sink_octets x.sink (length e) + n) is)
      one (at are begun cost is) =
          at (h.0, h.1, are) (h.0, h.1, begun)
          (later_cost (pipeline_cost tables built x) (costs tables (built ++ e ∷ []) (xs ++ y ∷ ys) more) (costs tables (built ++ e ∷ []) xs more) (pipeline_cost tables ((built ++ e ∷ []) ++ more) y) cost
          ∙ ap (λ (b : List (List (List Val))). (pipeline_cost tables built x + costs tables (built ++ e ∷ []) xs more) + pipeline_cost tables b y) (append_assoc built (e ∷ []) more))
          (later_cost (sink_octets x.sink (length e)) (held tables (built ++ e ∷ []) (xs ++ y ∷ ys) more) (held tables (built ++ e ∷ []) xs more) (held_next ((built ++ e ∷ []) ++ more) y) is
          ∙ ap (λ (b : List (List (List Val))). (sink_octets x.sink (length e) + held tables (built ++ e ∷ []) xs more) + held_next b y) (append_assoc built (e ∷ []) more))
      one (behind front entries back are begun many rest cost is) =
          behind (e ∷ front) entries back (h.0, h.1, are) (h.0, h.1, begun)
          (subst (λ (b : List (List (List Val))). length entries ≡ length (pipeline_fed tables b y).rows) (append_assoc built (e ∷ []) front) many)
          (subst (λ (b : List (List (List Val))). AreBegun (b ++ entries ∷ []) ys back) (append_assoc built (e ∷ []) front) rest)
          (later_costs (pipeline_cost tables built x) (costs tables (built ++ e ∷ []) (xs ++ y ∷ ys) more) (costs tables (built ++ e ∷ []) xs front)
          (pipeline_cost tables ((built ++ e ∷ []) ++ front) y) (costs tables (((built ++ e ∷ []) ++ front) ++ entries ∷ []) ys back) cost
          ∙ ap (λ (b : List (List (List Val))). (pipeline_cost tables built x + costs tables (built ++ e ∷ []) xs front) + pipeline_cost tables b y + costs tables (b ++ entries ∷ []) ys back) (append_assoc built (e ∷ []) front))
          (later_costs (sink_octets x.sink (length e)) (held tables (built ++ e ∷ []) (xs ++ y ∷ ys) more) (held tables (built ++ e ∷ []) xs front) (sink_octets y.sink (length entries))
          (held tables (((built ++ e ∷ []) ++ front) ++ entries ∷ []) ys back) is
          ∙ ap (λ (b : List (List (List Val))). (sink_octets x.sink (length e) + held tables (built ++ e ∷ []) xs front) + sink_octets y.sink (length entries) + held tables (b ++ entries ∷ []) ys back) (append_assoc built (e ∷ []) front))

-- ---- plans

module _ (same_rows : (row other : List Val) → is_same_row row other ≡ true → row ≡ other) (same_value : (a : Val) → value_order a a ≡ ordering.Equal)
    (columns : List ReadColumn) (tables : List (List (List Val))) where
  abbrev builds_of : (next : ℕ) → Node → List Pipeline
  builds_of next node = all_spelled columns next (split next node).builds

  -- the builds of a side, and the next pipeline, whose sink costs so much at each row
  side_bound : (node : Node) (next : ℕ) (built front : List (List (List Val))) (y : Pipeline) → IsGround tables (IsKnown columns) node → length built ≡ next → AreBuilt tables built (builds_of next node) front
      → y.operators ≡ spelled_steps columns (split next node).last.steps → (entry_flow tables y.entry y.table).rows ≡ (entry_flow tables (split next node).last.entry (split next node).last.table).rows
      → ((r s : List Val) → ((i : ℕ) → is_read columns i ≡ true → cell r i ≡ cell s i) → sink_cost y.sink r ≡ sink_cost y.sink s)
      → costs tables built (builds_of next node) front + pipeline_cost tables (built ++ front) y ≤ units_of general_hashing tables node + total (sink_cost y.sink) (node_flow tables node).rows
  side_bound node next built front y g long are operators rows respects =
      let whole = bounds same_rows same_value columns tables node true next built front (built ++ front) [] (sink_cost y.sink) g long (sym (append-nil (built ++ front))) respects are in
      let own = build_cost same_rows same_value columns tables (built ++ front) y in
      let same : total (λ row. 1 + charges true (built ++ front) y.operators (sink_cost y.sink) row) (entry_flow tables y.entry y.table).rows
      ≡ total (λ row. 1 + charges true (built ++ front) (spelled_steps columns (split next node).last.steps) (sink_cost y.sink) row) (entry_flow tables (split next node).last.entry (split next node).last.table).rows =
      ap₂ (λ (os : List Operator) (rs : List (List Val)). total (λ row. 1 + charges true (built ++ front) os (sink_cost y.sink) row) rs) operators rows in
      omega (arith, whole, own, same)

  pub begun_bound : (node : Node) (next : ℕ) (built more : List (List (List Val))) → IsGround tables (IsKnown columns) node → length built ≡ next → AreBegun tables built (builds_of next node) more
      → costs tables built (builds_of next node) more ≤ units_of general_hashing tables node
  begun_bound (scan entry table) next built [] g long h = omega arith
  begun_bound (scan entry table) next built (e ∷ more) g long h = absurd h
  begun_bound (filter conjuncts below) next built more g long h = let rest = begun_bound below next built more g.1 long h in omega (arith, rest)
  begun_bound (join outer left right on keys) next built more g long h =
      let m : ℕ = next + length (split next right).builds in
      let y : Pipeline = spelled columns m (building tables outer next right on keys) in
      let first : (more : List (List (List Val))) → AreBegun tables built (builds_of next right) more → costs tables built (builds_of next right) more ≤ units_of general_hashing tables right =
      λ more begun. begun_bound right next built more g.1.1 long begun in
      let second : (b back : List (List (List Val))) → length b ≡ m + 1 → AreBegun tables b (builds_of (m + 1) left) back → costs tables b (builds_of (m + 1) left) back ≤ units_of general_hashing tables left =
      λ b back after begun. begun_bound left (m + 1) b back g.1.0 after begun in
      subst (λ (ps : List Pipeline). costs tables built ps more ≤ units_of general_hashing tables (join outer left right on keys)) (sym (joined_builds same_rows same_value columns tables next outer left right on keys))
      (one first second (begun_at tables built (builds_of next right) y (builds_of (m + 1) left) more
      (subst (λ (ps : List Pipeline). AreBegun tables built ps more) (joined_builds same_rows same_value columns tables next outer left right on keys) h)))
    where
      built_first : (front : List (List (List Val))) → AreBuilt tables built (builds_of next right) front
          → costs tables built (builds_of next right) front + pipeline_cost tables (built ++ front) (spelled columns (next + length (split next right).builds) (building tables outer next right on keys)) ≤ units_of general_hashing tables right + total (sink_cost (spelled columns (next + length (split next right).builds) (building tables outer next right on keys)).sink) (node_flow tables right).rows
      built_first front are =
          side_bound right next built front (spelled columns (next + length (split next right).builds) (building tables outer next right on keys)) g.1.1 long are refl refl (cost_respects (is_read columns) (spelled columns (next + length (split next right).builds) (building tables outer next right on keys)).sink (names_kept same_rows same_value columns tables (next + length (split next right).builds) outer left right on keys g.0))

      one : ((more : List (List (List Val))) → AreBegun tables built (builds_of next right) more → costs tables built (builds_of next right) more ≤ units_of general_hashing tables right)
          → ((b back : List (List (List Val))) → length b ≡ (next + length (split next right).builds) + 1 → AreBegun tables b (builds_of ((next + length (split next right).builds) + 1) left) back → costs tables b (builds_of ((next + length (split next right).builds) + 1) left) back ≤ units_of general_hashing tables left)
          → IsBegunAt tables built (builds_of next right) (spelled columns (next + length (split next right).builds) (building tables outer next right on keys)) (builds_of ((next + length (split next right).builds) + 1) left) more
          → costs tables built (builds_of next right ++ (spelled columns (next + length (split next right).builds) (building tables outer next right on keys)) ∷ builds_of ((next + length (split next right).builds) + 1) left) more ≤ units_of general_hashing tables (join outer left right on keys)
      one first second (before begun cost is) = let less = first more begun in omega (arith, cost, less)
      one first second (at are begun cost is) = let less = built_first more are in let table = table_bound same_rows same_value columns tables (next + length (split next right).builds) outer left right on keys g.0 in omega (arith, cost, less, table)
      one first second (behind front entries back are some many begun cost is) =
          let less = built_first front are in
          let after : length ((built ++ front) ++ entries ∷ []) ≡ (next + length (split next right).builds) + 1 =
          length-append (built ++ front) (entries ∷ [])
          ∙ ap (λ k. k + 1) (length-append built front ∙ ap₂ (λ a b. a + b) long (built_count tables built (builds_of next right) front are ∙ spelled_count columns next (split next right).builds)) in
          let rest = second ((built ++ front) ++ entries ∷ []) back after begun in
          let table = table_bound same_rows same_value columns tables (next + length (split next right).builds) outer left right on keys g.0 in
          omega (arith, cost, less, rest, table)
  begun_bound (project below items) next built more g long h = absurd g

  -- ---- a whole query

  items_last : (steps : List pipes.Step) (items others : List Expression) → items_made others (steps ++ make items ∷ []) ≡ items
  items_last [] items others = refl
  items_last (test conjuncts ∷ steps) items others = items_last steps items others
  items_last (pipes.probe table look ∷ steps) items others = items_last steps items others
  items_last (make made ∷ steps) items others = items_last steps items made

  made_is : (items : List Expression) (rows : List (List Val)) → total (sink_cost (select items)) rows ≡ sum_by (λ (row : List Val). units_of_items items (at_row row)) rows
  made_is items rows =
      total_same (sink_cost (select items)) (λ (row : List Val). units_of_items items (at_row row)) rows (λ row. one (units_of_items items (at_row row)) (values_of items (at_row row)))
      ∙ sym (sum_is (λ (row : List Val). units_of_items items (at_row row)) rows)
    where
      one : (n : ℕ) (q : Result (List Val) Code) → n + by_values q (λ values. 0) ≡ n
      one n (Ok values) = omega arith
      one n (Err code) = omega arith

  pub sink_last : (node : Node) (items : List Expression) (number : ℕ) → spelled_sink columns number (then_step (split 0 node).last (make items)).steps (then_step (split 0 node).last (make items)).target ≡ select items
  sink_last node items number =
      ap (spelled_sink columns number ((split 0 node).last.steps ++ make items ∷ [])) (in_order node 0 [] refl).target ∙ ap select (items_last (split 0 node).last.steps items [])

  pub steps_last : (node : Node) (items : List Expression) → spelled_steps columns ((split 0 node).last.steps ++ make items ∷ []) ≡ spelled_steps columns (split 0 node).last.steps
  steps_last node items = spelled_more columns (split 0 node).last.steps (make items) ∙ append-nil (spelled_steps columns (split 0 node).last.steps)

  pub selected_bound : (node : Node) (items : List Expression) (more : List (List (List Val))) → IsGround tables (IsKnown columns) node
      → AllByRecursion (λ e. names_only (is_read columns) e ≡ true) items → AreBegun tables [] (all_spelled columns 0 (pipelines (project node items))) more
      → costs tables [] (all_spelled columns 0 (pipelines (project node items))) more ≤ units_of general_hashing tables (project node items)
  selected_bound node items more g named h =
      subst (λ (ps : List Pipeline). costs tables [] ps more ≤ units_of general_hashing tables (project node items)) (sym whole)
      (one (begun_at tables [] (builds_of 0 node) (spelled columns (0 + length (split 0 node).builds) (then_step (split 0 node).last (make items))) [] more (subst (λ (ps : List Pipeline). AreBegun tables [] ps more) whole h)))
    where
      whole : all_spelled columns 0 (pipelines (project node items)) ≡ builds_of 0 node ++ (spelled columns (0 + length (split 0 node).builds) (then_step (split 0 node).last (make items))) ∷ []
      whole = pipelines_append columns 0 (split 0 node).builds (then_step (split 0 node).last (make items) ∷ [])

      sink_is : (spelled columns (0 + length (split 0 node).builds) (then_step (split 0 node).last (make items))).sink ≡ select items
      sink_is = sink_last node items (0 + length (split 0 node).builds)

      built_first : (front : List (List (List Val))) → AreBuilt tables [] (builds_of 0 node) front
          → costs tables [] (builds_of 0 node) front + pipeline_cost tables ([] ++ front) (spelled columns (0 + length (split 0 node).builds) (then_step (split 0 node).last (make items))) ≤ units_of general_hashing tables (project node items)
      built_first front are =
          let less = side_bound node 0 [] front (spelled columns (0 + length (split 0 node).builds) (then_step (split 0 node).last (make items))) g refl are (steps_last node items) refl
          (subst (λ (s : Sink). (r s' : List Val) → ((i : ℕ) → is_read columns i ≡ true → cell r i ≡ cell s' i) → sink_cost s r ≡ sink_cost s s') (sym sink_is) (cost_respects (is_read columns) (select items) named)) in
          let same : total (sink_cost (spelled columns (0 + length (split 0 node).builds) (then_step (split 0 node).last (make items))).sink) (node_flow tables node).rows ≡ sum_by (λ (row : List Val). units_of_items items (at_row row)) (node_flow tables node).rows =
          ap (λ (s : Sink). total (sink_cost s) (node_flow tables node).rows) sink_is ∙ made_is items (node_flow tables node).rows in
          omega (arith, less, same)

      one : IsBegunAt tables [] (builds_of 0 node) (spelled columns (0 + length (split 0 node).builds) (then_step (split 0 node).last (make items))) [] more → costs tables [] (builds_of 0 node ++ (spelled columns (0 + length (split 0 node).builds) (then_step (split 0 node).last (make items))) ∷ []) more ≤ units_of general_hashing tables (project node items)
      one (before begun cost is) = let less = begun_bound node 0 [] more g refl begun in omega (arith, cost, less)
      one (at are begun cost is) = let less = built_first more are in omega (arith, cost, less)
      one (behind front entries [] are some many begun cost is) = let less = built_first front are in omega (arith, cost, less)
      one (behind front entries (e ∷ back) are some many begun cost is) = absurd begun

  pub known_all : (cs : List Condition) → AllByRecursion (λ (c : Condition). condition_names_only (is_read columns) c ≡ true) cs → AllByRecursion IsScaled cs → AllByRecursion (IsKnown columns) cs
  known_all [] h g = tt
  known_all (c ∷ cs) h g = ((h.0, g.0), known_all cs h.1 g.1)

  pub costs_bounded : (query : Specification) (front back : List Pipeline) (more : List (List (List Val))) → IsSpecification query → AreOfEntries (entries_of query.sources) tables
      → IsSizedPlan (written query) → AreRead columns query → AreScaled query → all_spelled columns 0 (pipelines (keyed true (sifted true [] (written query)))) ≡ front ++ back
      → AreBuilt tables [] front more → costs tables [] (front ++ back) more ≤ units_of general_hashing tables (keyed true (sifted true [] (written query)))
  costs_bounded query front back more whole of sized are_read scaled is built =
      subst (λ (ps : List Pipeline). costs tables [] ps more ≤ units_of general_hashing tables (keyed true (sifted true [] (written query)))) is
      (selected_bound (clauses query) query.items more
      (query_grounded (IsKnown columns) query tables whole of sized (known_all (conjuncts_on query.sources ++ query.conjuncts) are_read.conjuncts scaled)) are_read.items
      (subst (λ (ps : List Pipeline). AreBegun tables [] ps more) (sym is) (are_begun tables [] front back more built)))
