-- What a query's pipelines put into memory is within what its plan is said to hold.
use Rattle.std.proofs.Common.{◌≡◌, ◌∙◌, ℕ, suc, ◌+◌, ◌*◌, ◌≤◌, max, take, Bool, true, false, if◌then◌else◌, List, [], ◌∷◌, ◌++◌, length, map, Option, Some, None, Result, Ok, Err, refl, sym, ap, ap₂, subst, arith, append-nil, length-append}
use Rattle.std.specs.Prelude.{slice_get}
use Rattle.std.specs.List.{AllByRecursion, filter as filter_list, filter_map, flat_map}
use Rattle.std.specs.declared.cmp.Ordering.TheVariants as ordering
use Rattle.std.proofs.lemmas.List.{length-map}
use Rattle.qw_types.specs.Arithmetic.{◌>>=◌}
use Rattle.qw_types.specs.ValueOrder.{is_same_row, value_order}
use Rattle.qw_types.specs.declared.code.Code.{Code}
use Rattle.qw_types.specs.declared.value.Val.{Val}
use Rattle.qw_scalar.specs.Evaluation.{at_row}
use Rattle.qw_scalar.specs.Expression.{Condition, Expression}
use Rattle.qw_meaning.specs.Flow.{rows_given, selected, values_of}
use Rattle.qw_meaning.specs.From.{entry_flow}
use Rattle.qw_meaning.specs.Select.{AreOfEntries, IsSpecification, Specification, conjuncts_on, entries_of}
use Rattle.qw_algebra.specs.Columns.{entries_below, is_of, names_only}
use Rattle.qw_algebra.specs.Node.{Node, scan, filter, join, project, node_flow}
use Rattle.qw_algebra.specs.Written.{written}
use Rattle.qw_algebra.proofs.Lists.{all_append, all_more}
use Rattle.qw_pipe.specs.Octets.{entry_octets, greatest_entry, table_count, table_octets}
use Rattle.qw_pipe.specs.Pipes.{make, pipelines, split, then_step}
use Rattle.qw_pipe.specs.Units.{equalities, operand_of}
use Rattle.qw_pipe.proofs.Splitting.{building, lookup}
use Rattle.qw_rewrite.specs.Placed.{IsSizedPlan}
use Rattle.qw_rewrite.specs.Probe.{keyed}
use Rattle.qw_rewrite.specs.Sift.{sifted}
use Rattle.qw_feed.specs.Feeds.{flow_by, nothing, one_row}
use Rattle.qw_table.specs.Joins.{have_values}
use Rattle.qw_physical.specs.Courses.{AreBuilt, pipeline_fed, placed, sink_values}
use Rattle.qw_physical.specs.Held.{held, kept_of, sink_octets, sink_size}
use Rattle.qw_physical.specs.Physical.{Operator, Pipeline, Sink, build, select}
use Rattle.qw_physical.specs.Reads.{AreRead, AreScaled, is_read}
use Rattle.qw_physical.specs.Spelled.{all_spelled, keys_kept, spelled, spelled_steps}
use Rattle.qw_physical.specs.declared.pipeline.ReadColumn.{ReadColumn}
use Rattle.qw_physical.proofs.Begun.{AreBegun, IsBegunAt, are_begun, at, before, begun_at, behind, known_all, sink_last, steps_last}
use Rattle.qw_physical.proofs.Bounded.{bounds, build_fed, joined_builds}
use Rattle.qw_physical.proofs.Feeding.{built_count, spelled_count, pipelines_append}
use Rattle.qw_physical.proofs.Charges.{Respects, charges, fed_respects, sink_fed}
use Rattle.qw_physical.proofs.Grounded.{IsGround, clauses, query_grounded}
use Rattle.qw_physical.proofs.JoinBound.{IsKnown, names_kept}
use Rattle.qw_physical.proofs.Totals.{total, total_flat, total_less, total_ones, total_same}

-- ---- sizes

keys_few : (on : List Condition) (keys : List ℕ) → length (filter_map (λ k. slice_get on k) keys) ≤ length keys
keys_few on [] = omega arith
keys_few on (k ∷ keys) = one (slice_get on k) refl (keys_few on keys)
  where
    one : (o : Option Condition) → slice_get on k ≡ o → length (filter_map (λ j. slice_get on j) keys) ≤ length keys → length (filter_map (λ j. slice_get on j) (k ∷ keys)) ≤ suc (length keys)
    one None e h = rw e (let n : length (filter_map (λ j. slice_get on j) keys) ≤ suc (length keys) = omega (arith, h) in n)
    one (Some c) e h = rw e (let n : suc (length (filter_map (λ j. slice_get on j) keys)) ≤ suc (length keys) = omega (arith, h) in n)

product_less : (n m s t : ℕ) → n ≤ m → s ≤ t → n * s ≤ m * t
product_less n m s t h g = grind (arith, h, g)

octets_less : (n m s t : ℕ) → n ≤ m → s ≤ t → 4096 + n * s ≤ 4096 + m * t
octets_less n m s t h g = let both = product_less n m s t h g in omega (arith, both)

-- ---- how many are fed

one_each : (sink : Sink) (row : List Val) → total (λ (r : List Val). 1) (sink_fed sink row).rows ≤ 1
one_each sink row = one sink (values_of (sink_values sink) (at_row row))
  where
    two : (b : Bool) (values : List Val) → total (λ (r : List Val). 1) (if b then one_row values else nothing).rows ≤ 1
    two true values = omega arith
    two false values = omega arith

    one : (s : Sink) (q : Result (List Val) Code) → total (λ (r : List Val). 1) (flow_by q (placed s)).rows ≤ 1
    one (build b) (Ok values) = two (have_values (take (length b.key) values)) values
    one (select items) (Ok values) = omega arith
    one s (Err code) = omega arith

module _ (same_rows : (row other : List Val) → is_same_row row other ≡ true → row ≡ other) (same_value : (a : Val) → value_order a a ≡ ordering.Equal)
    (columns : List ReadColumn) (tables : List (List (List Val))) where
  abbrev builds_of : (next : ℕ) → Node → List Pipeline
  builds_of next node = all_spelled columns next (split next node).builds

  abbrev once : List Val → ℕ
  once r = 1

  -- no more than what the rows of the plan leave at the sink
  fed_by : (node : Node) (next : ℕ) (built front : List (List (List Val))) (y : Pipeline) → IsGround tables (IsKnown columns) node → length built ≡ next → AreBuilt tables built (builds_of next node) front
      → y.operators ≡ spelled_steps columns (split next node).last.steps → (entry_flow tables y.entry y.table).rows ≡ (entry_flow tables (split next node).last.entry (split next node).last.table).rows
      → AllByRecursion (λ e. names_only (is_read columns) e ≡ true) (sink_values y.sink)
      → length (pipeline_fed tables (built ++ front) y).rows ≤ total (λ r. total once (sink_fed y.sink r).rows) (node_flow tables node).rows
  fed_by node next built front y g long are operators rows names =
      let after : List Val → ℕ = λ r. total once (sink_fed y.sink r).rows in
      let respects : Respects (is_read columns) after = fed_respects (is_read columns) once y.sink names in
      let whole = bounds same_rows same_value columns tables node false next built front (built ++ front) [] after g long (sym (append-nil (built ++ front))) respects are in
      let own = build_fed same_rows same_value columns tables (built ++ front) y once in
      let same : total (λ row. 0 + charges false (built ++ front) y.operators after row) (entry_flow tables y.entry y.table).rows
      ≡ total (λ row. 0 + charges false (built ++ front) (spelled_steps columns (split next node).last.steps) after row) (entry_flow tables (split next node).last.entry (split next node).last.table).rows =
      ap₂ (λ (os : List Operator) (rs : List (List Val)). total (λ row. 0 + charges false (built ++ front) os after row) rs) operators rows in
      let first : total once (pipeline_fed tables (built ++ front) y).rows ≡ length (pipeline_fed tables (built ++ front) y).rows = total_ones (pipeline_fed tables (built ++ front) y).rows in
      omega (arith, whole, own, same, first)

  -- so no more than the rows of the plan
  fed_few : (node : Node) (next : ℕ) (built front : List (List (List Val))) (y : Pipeline) → IsGround tables (IsKnown columns) node → length built ≡ next → AreBuilt tables built (builds_of next node) front
      → y.operators ≡ spelled_steps columns (split next node).last.steps → (entry_flow tables y.entry y.table).rows ≡ (entry_flow tables (split next node).last.entry (split next node).last.table).rows
      → AllByRecursion (λ e. names_only (is_read columns) e ≡ true) (sink_values y.sink) → length (pipeline_fed tables (built ++ front) y).rows ≤ length (node_flow tables node).rows
  fed_few node next built front y g long are operators rows names =
      let by = fed_by node next built front y g long are operators rows names in
      let few : total (λ r. total once (sink_fed y.sink r).rows) (node_flow tables node).rows ≤ total once (node_flow tables node).rows =
      total_less (λ r. total once (sink_fed y.sink r).rows) once (node_flow tables node).rows (λ r. one_each y.sink r) in
      let second : total once (node_flow tables node).rows ≡ length (node_flow tables node).rows = total_ones (node_flow tables node).rows in
      omega (arith, by, few, second)

  -- and of result rows no more than the plan makes
  selected_few : (node : Node) (items : List Expression) (sink : Sink) → sink ≡ select items → total (λ r. total once (sink_fed sink r).rows) (node_flow tables node).rows ≡ length (node_flow tables (project node items)).rows
  selected_few node items sink is =
      ap (λ (s : Sink). total (λ r. total once (sink_fed s r).rows) (node_flow tables node).rows) is
      ∙ total_same (λ r. total once (sink_fed (select items) r).rows) (λ r. total once (rows_given (selected items r))) (node_flow tables node).rows (λ r. one (values_of items (at_row r)))
      ∙ sym (total_flat once (λ r. rows_given (selected items r)) (node_flow tables node).rows)
      ∙ total_ones (flat_map (λ r. rows_given (selected items r)) (node_flow tables node).rows)
    where
      one : (q : Result (List Val) Code) → total once (flow_by q (placed (select items))).rows ≡ total once (rows_given (q >>= (λ values. Ok (values ∷ []))))
      one (Ok values) = refl
      one (Err code) = refl

  -- ---- tables

  module _ (outer : Bool) (left right : Node) (on : List Condition) (keys : List ℕ) (next : ℕ) where
    abbrev it : Pipeline
    it = spelled columns (next + length (split next right).builds) (building tables outer next right on keys)

    it_size : sink_size it.sink ≤ entry_octets (kept_of columns) right keys
    it_size =
        let few = keys_few on keys in
        let many : length (keys_kept (lookup tables outer right on keys)) ≡ length (filter_map (λ k. slice_get on k) keys) = length-map (equalities (lookup tables outer right on keys)) (operand_of (is_of (entries_below right))) in
        omega (arith, few, many)

    it_octets : (rows : ℕ) → rows ≤ length (node_flow tables right).rows → sink_octets it.sink rows ≤ 4096 + length (node_flow tables right).rows * entry_octets (kept_of columns) right keys
    it_octets rows h = octets_less rows (length (node_flow tables right).rows) (sink_size it.sink) (entry_octets (kept_of columns) right keys) h it_size

  pub held_bound : (node : Node) (next : ℕ) (built more : List (List (List Val))) → IsGround tables (IsKnown columns) node → length built ≡ next → AreBegun tables built (builds_of next node) more
      → held tables built (builds_of next node) more ≤ table_octets (kept_of columns) tables node
  held_bound (scan entry table) next built [] g long h = omega arith
  held_bound (scan entry table) next built (e ∷ more) g long h = absurd h
  held_bound (filter conjuncts below) next built more g long h = held_bound below next built more g.1 long h
  held_bound (join outer left right on keys) next built more g long h =
      let m : ℕ = next + length (split next right).builds in
      let y : Pipeline = it outer left right on keys next in
      let first : (more : List (List (List Val))) → AreBegun tables built (builds_of next right) more → held tables built (builds_of next right) more ≤ table_octets (kept_of columns) tables right =
      λ more begun. held_bound right next built more g.1.1 long begun in
      let second : (b back : List (List (List Val))) → length b ≡ m + 1 → AreBegun tables b (builds_of (m + 1) left) back → held tables b (builds_of (m + 1) left) back ≤ table_octets (kept_of columns) tables left =
      λ b back after begun. held_bound left (m + 1) b back g.1.0 after begun in
      subst (λ (ps : List Pipeline). held tables built ps more ≤ table_octets (kept_of columns) tables (join outer left right on keys)) (sym (joined_builds same_rows same_value columns tables next outer left right on keys))
      (one first second (begun_at tables built (builds_of next right) y (builds_of (m + 1) left) more
      (subst (λ (ps : List Pipeline). AreBegun tables built ps more) (joined_builds same_rows same_value columns tables next outer left right on keys) h)))
    where
      few : (front : List (List (List Val))) → AreBuilt tables built (builds_of next right) front
          → length (pipeline_fed tables (built ++ front) (it outer left right on keys next)).rows ≤ length (node_flow tables right).rows
      few front are =
          fed_few right next built front (it outer left right on keys next) g.1.1 long are refl refl
          (names_kept same_rows same_value columns tables (next + length (split next right).builds) outer left right on keys g.0)

      one : ((more : List (List (List Val))) → AreBegun tables built (builds_of next right) more → held tables built (builds_of next right) more ≤ table_octets (kept_of columns) tables right)
          → ((b back : List (List (List Val))) → length b ≡ (next + length (split next right).builds) + 1 → AreBegun tables b (builds_of ((next + length (split next right).builds) + 1) left) back
          → held tables b (builds_of ((next + length (split next right).builds) + 1) left) back ≤ table_octets (kept_of columns) tables left)
          → IsBegunAt tables built (builds_of next right) (it outer left right on keys next) (builds_of ((next + length (split next right).builds) + 1) left) more
          → held tables built (builds_of next right ++ it outer left right on keys next ∷ builds_of ((next + length (split next right).builds) + 1) left) more ≤ table_octets (kept_of columns) tables (join outer left right on keys)
      one first second (before begun cost is) = let less = first more begun in omega (arith, is, less)
      one first second (at are begun cost is) =
          let less = first more begun in
          let own = it_octets outer left right on keys next (length (pipeline_fed tables (built ++ more) (it outer left right on keys next)).rows) (few more are) in
          omega (arith, is, less, own)
      one first second (behind front entries back are begun many rest cost is) =
          let less = first front begun in
          let after : length ((built ++ front) ++ entries ∷ []) ≡ (next + length (split next right).builds) + 1 =
          length-append (built ++ front) (entries ∷ [])
          ∙ ap (λ k. k + 1) (length-append built front ∙ ap₂ (λ a b. a + b) long (built_count tables built (builds_of next right) front are ∙ spelled_count columns next (split next right).builds)) in
          let fed : length entries ≤ length (node_flow tables right).rows = (let n = few front are in omega (arith, many, n)) in
          let own = it_octets outer left right on keys next (length entries) fed in
          let others = second ((built ++ front) ++ entries ∷ []) back after rest in
          omega (arith, is, less, own, others)
  held_bound (project below items) next built more g long h = absurd g

  -- ---- the greatest, and how many

  abbrev IsWithin : ℕ → Pipeline → Type 0
  IsWithin most p = sink_size p.sink ≤ most

  sizes_within : (node : Node) (next : ℕ) → AllByRecursion (IsWithin (greatest_entry (kept_of columns) node)) (builds_of next node)
  sizes_within (scan entry table) next = tt
  sizes_within (filter conjuncts below) next = sizes_within below next
  sizes_within (join outer left right on keys) next =
      let m : ℕ = next + length (split next right).builds in
      let most : ℕ = greatest_entry (kept_of columns) (join outer left right on keys) in
      subst (AllByRecursion (IsWithin most)) (sym (joined_builds same_rows same_value columns tables next outer left right on keys))
      (all_append (IsWithin most) (builds_of next right) (it outer left right on keys next ∷ builds_of (m + 1) left)
      (all_more (IsWithin (greatest_entry (kept_of columns) right)) (IsWithin most) (builds_of next right) (λ p h. omega (arith, h)) (sizes_within right next)) (
        (let own = it_size outer left right on keys next in omega (arith, own)),
        all_more (IsWithin (greatest_entry (kept_of columns) left)) (IsWithin most) (builds_of (m + 1) left) (λ p h. omega (arith, h)) (sizes_within left (m + 1)),
      ))
  sizes_within (project below items) next = sizes_within below next

  builds_count : (node : Node) (next : ℕ) → length (split next node).builds ≡ table_count node
  builds_count (scan entry table) next = refl
  builds_count (filter conjuncts below) next = builds_count below next
  builds_count (join outer left right on keys) next =
      let m : ℕ = next + length (split next right).builds in
      let first = builds_count right next in
      let second = builds_count left (m + 1) in
      let both = length-append (split next right).builds (building tables outer next right on keys ∷ (split (m + 1) left).builds) in
      omega (arith, first, second, both)
  builds_count (project below items) next = builds_count below next

  -- ---- a whole query

  whole_builds : (node : Node) (items : List Expression) → all_spelled columns 0 (pipelines (project node items)) ≡ builds_of 0 node ++ (spelled columns (0 + length (split 0 node).builds) (then_step (split 0 node).last (make items))) ∷ []
  whole_builds node items = pipelines_append columns 0 (split 0 node).builds (then_step (split 0 node).last (make items) ∷ [])

  abbrev rows_octets : Node → List Expression → ℕ
  rows_octets node items = length (node_flow tables (project node items)).rows * (8 + 16 * length items)

  pub selected_held : (node : Node) (items : List Expression) (more : List (List (List Val))) → IsGround tables (IsKnown columns) node
      → AllByRecursion (λ e. names_only (is_read columns) e ≡ true) items → AreBegun tables [] (all_spelled columns 0 (pipelines (project node items))) more
      → held tables [] (all_spelled columns 0 (pipelines (project node items))) more ≤ table_octets (kept_of columns) tables (project node items) + rows_octets node items
  selected_held node items more g named h =
      subst (λ (ps : List Pipeline). held tables [] ps more ≤ table_octets (kept_of columns) tables node + rows_octets node items) (sym (whole_builds node items))
      (one (begun_at tables [] (builds_of 0 node) (spelled columns (0 + length (split 0 node).builds) (then_step (split 0 node).last (make items))) [] more (subst (λ (ps : List Pipeline). AreBegun tables [] ps more) (whole_builds node items) h)))
    where
      sink_is : (spelled columns (0 + length (split 0 node).builds) (then_step (split 0 node).last (make items))).sink ≡ select items
      sink_is = sink_last same_rows same_value columns tables node items (0 + length (split 0 node).builds)

      few : (front : List (List (List Val))) → AreBuilt tables [] (builds_of 0 node) front → length (pipeline_fed tables ([] ++ front) (spelled columns (0 + length (split 0 node).builds) (then_step (split 0 node).last (make items)))).rows ≤ length (node_flow tables (project node items)).rows
      few front are =
          let by = fed_by node 0 [] front (spelled columns (0 + length (split 0 node).builds) (then_step (split 0 node).last (make items))) g refl are (steps_last same_rows same_value columns tables node items) refl
          (subst (λ (s : Sink). AllByRecursion (λ e. names_only (is_read columns) e ≡ true) (sink_values s)) (sym sink_is) named) in
          let same = selected_few node items (spelled columns (0 + length (split 0 node).builds) (then_step (split 0 node).last (make items))).sink sink_is in
          omega (arith, by, same)

      octets : (n : ℕ) → n ≤ length (node_flow tables (project node items)).rows → sink_octets (spelled columns (0 + length (split 0 node).builds) (then_step (split 0 node).last (make items))).sink n ≤ rows_octets node items
      octets n h =
          let same : sink_octets (spelled columns (0 + length (split 0 node).builds) (then_step (split 0 node).last (make items))).sink n ≡ n * (8 + 16 * length items) = ap (λ (s : Sink). sink_octets s n) sink_is in
          let less = product_less n (length (node_flow tables (project node items)).rows) (8 + 16 * length items) (8 + 16 * length items) h (omega arith) in
          omega (arith, same, less)

      one : IsBegunAt tables [] (builds_of 0 node) (spelled columns (0 + length (split 0 node).builds) (then_step (split 0 node).last (make items))) [] more → held tables [] (builds_of 0 node ++ (spelled columns (0 + length (split 0 node).builds) (then_step (split 0 node).last (make items))) ∷ []) more ≤ table_octets (kept_of columns) tables node + rows_octets node items
      one (before begun cost is) = let less = held_bound node 0 [] more g refl begun in omega (arith, is, less)
      one (at are begun cost is) =
          let less = held_bound node 0 [] more g refl begun in
          let own = octets (length (pipeline_fed tables ([] ++ more) (spelled columns (0 + length (split 0 node).builds) (then_step (split 0 node).last (make items)))).rows) (few more are) in
          omega (arith, is, less, own)
      one (behind front entries [] are begun many rest cost is) =
          let less = held_bound node 0 [] front g refl begun in
          let fed : length entries ≤ length (node_flow tables (project node items)).rows = (let n = few front are in omega (arith, many, n)) in
          let own = octets (length entries) fed in
          omega (arith, is, less, own)
      one (behind front entries (e ∷ back) are begun many rest cost is) = absurd rest

  pub held_within : (query : Specification) (front back : List Pipeline) (more : List (List (List Val))) → IsSpecification query → AreOfEntries (entries_of query.sources) tables
      → IsSizedPlan (written query) → AreRead columns query → AreScaled query → all_spelled columns 0 (pipelines (keyed true (sifted true [] (written query)))) ≡ front ++ back → AreBuilt tables [] front more
      → held tables [] (front ++ back) more ≤ table_octets (kept_of columns) tables (keyed true (sifted true [] (written query)))
      + length (node_flow tables (keyed true (sifted true [] (written query)))).rows * (8 + 16 * length query.items)
  held_within query front back more whole of sized are_read scaled is built =
      subst (λ (ps : List Pipeline). held tables [] ps more ≤ table_octets (kept_of columns) tables (keyed true (sifted true [] (written query)))
      + length (node_flow tables (keyed true (sifted true [] (written query)))).rows * (8 + 16 * length query.items)) is
      (selected_held (clauses query) query.items more
      (query_grounded (IsKnown columns) query tables whole of sized (known_all same_rows same_value columns tables (conjuncts_on query.sources ++ query.conjuncts) are_read.conjuncts scaled)) are_read.items
      (subst (λ (ps : List Pipeline). AreBegun tables [] ps more) (sym is) (are_begun tables [] front back more built)))

  -- those that build tables alone hold no more than the tables of the plan
  pub builds_held : (query : Specification) (front back : List Pipeline) (more : List (List (List Val))) → IsSpecification query → AreOfEntries (entries_of query.sources) tables
      → IsSizedPlan (written query) → AreRead columns query → AreScaled query → all_spelled columns 0 (split 0 (keyed true (sifted true [] (written query)))).builds ≡ front ++ back → AreBuilt tables [] front more
      → held tables [] (front ++ back) more ≤ table_octets (kept_of columns) tables (keyed true (sifted true [] (written query)))
  builds_held query front back more whole of sized are_read scaled is built =
      subst (λ (ps : List Pipeline). held tables [] ps more ≤ table_octets (kept_of columns) tables (keyed true (sifted true [] (written query)))) is
      (held_bound (clauses query) 0 [] more
      (query_grounded (IsKnown columns) query tables whole of sized (known_all same_rows same_value columns tables (conjuncts_on query.sources ++ query.conjuncts) are_read.conjuncts scaled)) refl
      (subst (λ (ps : List Pipeline). AreBegun tables [] ps more) (sym is) (are_begun tables [] front back more built)))

  pub all_sizes : (node : Node) (items : List Expression)
      → AllByRecursion (IsWithin (max (8 + 16 * length items) (greatest_entry (kept_of columns) (project node items)))) (all_spelled columns 0 (pipelines (project node items)))
  all_sizes node items =
      let most : ℕ = max (8 + 16 * length items) (greatest_entry (kept_of columns) node) in
      let last : sink_size (spelled columns (0 + length (split 0 node).builds) (then_step (split 0 node).last (make items))).sink ≡ 8 + 16 * length items = ap sink_size (sink_last same_rows same_value columns tables node items (0 + length (split 0 node).builds)) in
      subst (AllByRecursion (IsWithin most)) (sym (whole_builds node items))
      (all_append (IsWithin most) (builds_of 0 node) ((spelled columns (0 + length (split 0 node).builds) (then_step (split 0 node).last (make items))) ∷ [])
      (all_more (IsWithin (greatest_entry (kept_of columns) node)) (IsWithin most) (builds_of 0 node) (λ p h. omega (arith, h)) (sizes_within node 0)) (omega (arith, last), tt))

  pub all_count : (node : Node) (items : List Expression) → length (all_spelled columns 0 (pipelines (project node items))) ≡ table_count (project node items) + 1
  all_count node items =
      let long = spelled_count columns 0 (pipelines (project node items)) in
      let both = length-append (split 0 node).builds (then_step (split 0 node).last (make items) ∷ []) in
      let count = builds_count node 0 in
      omega (arith, long, both, count)

-- by the numbers of columns
pub kept_numbers : (columns : List ReadColumn) (entries : List ℕ) → kept_of columns entries ≡ length (filter_list (is_of entries) (map (λ (c : ReadColumn). c.number) columns))
kept_numbers [] entries = refl
kept_numbers (c ∷ columns) entries = one (is_of entries c.number) (kept_numbers columns entries)
  where
    one : (b : Bool) → kept_of columns entries ≡ length (filter_list (is_of entries) (map (λ (d : ReadColumn). d.number) columns))
        → length (if b then c ∷ filter_list (λ (d : ReadColumn). is_of entries d.number) columns else filter_list (λ (d : ReadColumn). is_of entries d.number) columns)
        ≡ length (if b then c.number ∷ filter_list (is_of entries) (map (λ (d : ReadColumn). d.number) columns) else filter_list (is_of entries) (map (λ (d : ReadColumn). d.number) columns))
    one true h = ap suc h
    one false h = h
