-- The pipelines of a well placed plan feed what its flow makes, over tables whose entries stand in any order.
use Rattle.std.proofs.Common.{◌≡◌, ◌∙◌, ℕ, suc, ◌+◌, Bool, true, List, [], ◌∷◌, ◌++◌, get_or, length, refl, sym, ap, subst, append-nil, append_assoc, length-append, arith}
use Rattle.std.specs.List.{AllByRecursion, flat_map}
use Rattle.std.specs.List.Sorted.{IsPermutation}
use Rattle.std.proofs.lemmas.List.{get_or_at}
use Rattle.std.proofs.lemmas.List.Sorted.{IsPermutation-sym, IsPermutation-trans, length_permutation}
use Rattle.qw_types.specs.Value.{IsSized}
use Rattle.qw_types.specs.declared.schema.ColumnType.{ColumnType}
use Rattle.qw_types.specs.declared.value.Val.{Val}
use Rattle.qw_scalar.specs.Conjuncts.{passes}
use Rattle.qw_scalar.specs.Evaluation.{at_row}
use Rattle.qw_scalar.specs.Expression.{Condition}
use Rattle.qw_meaning.specs.Flow.{Flow, codes_given, kept, rows_given, spread}
use Rattle.qw_meaning.specs.From.{entry_flow}
use Rattle.qw_meaning.specs.Select.{Entry}
use Rattle.qw_algebra.specs.Columns.{entries_below}
use Rattle.qw_algebra.specs.Node.{Node, scan, filter, join, project, node_flow}
use Rattle.qw_algebra.proofs.Lists.{all_of_any}
use Rattle.qw_rewrite.specs.Probed.{beside_keys}
use Rattle.qw_pipe.specs.Pipes as pipes
use Rattle.qw_pipe.specs.Pipes.{Lookup, make, split, test, to_table}
use Rattle.qw_feed.specs.Feeds.{flow_over}
use Rattle.qw_physical.specs.Physical.{Operator, Pipeline, Sink, build, filter as filter_by, probe}
use Rattle.qw_physical.specs.Courses.{AreBuilt, costs, fed, pipeline_cost, pipeline_fed}
use Rattle.qw_physical.specs.Reads.{is_read}
use Rattle.qw_physical.specs.Spelled.{all_spelled, kept_columns, keys_kept, keys_sought, spelled, spelled_steps}
use Rattle.qw_physical.specs.declared.pipeline.ReadColumn.{ReadColumn}
use Rattle.qw_physical.proofs.Joining.{build_sees, joined, passed_on, probe_sees}
use Rattle.qw_physical.proofs.Orders.{Alike, alike_refl, alike_trans, over_same, spread_twice}
use Rattle.qw_physical.proofs.Placed.{IsReady}
use Rattle.qw_physical.proofs.Sight.{Sees, operator_sees}
use Rattle.qw_physical.proofs.Totals.{later_costs, zero_and_two}
use Rattle.qw_physical.proofs.Through.{at_operator, fed_through, through, through_last}

-- ---- pipelines spelled out, one behind another

pub spelled_append : (columns : List ReadColumn) (xs ys : List pipes.Step) → spelled_steps columns (xs ++ ys) ≡ spelled_steps columns xs ++ spelled_steps columns ys
spelled_append columns [] ys = refl
spelled_append columns (test conjuncts ∷ xs) ys = ap (λ (os : List Operator). filter_by conjuncts ∷ os) (spelled_append columns xs ys)
spelled_append columns (pipes.probe table lookup ∷ xs) ys = ap (λ (os : List Operator). spelled_steps columns (pipes.probe table lookup ∷ []) ++ os) (spelled_append columns xs ys)
spelled_append columns (make items ∷ xs) ys = spelled_append columns xs ys

pub pipelines_append : (columns : List ReadColumn) (next : ℕ) (xs ys : List pipes.Pipeline) → all_spelled columns next (xs ++ ys) ≡ all_spelled columns next xs ++ all_spelled columns (next + length xs) ys
pipelines_append columns next [] ys =
    let none : next ≡ next + 0 = omega arith in
    ap (λ (n : ℕ). all_spelled columns n ys) none
pipelines_append columns next (x ∷ xs) ys =
    let more : (next + 1) + length xs ≡ next + suc (length xs) = omega arith in
    ap (λ (ps : List Pipeline). spelled columns next x ∷ ps) (pipelines_append columns (next + 1) xs ys ∙ ap (λ (n : ℕ). all_spelled columns (next + 1) xs ++ all_spelled columns n ys) more)

pub steps_with : (columns : List ReadColumn) (steps : List pipes.Step) (s : pipes.Step) (o : Operator) (more : List Operator) → spelled_steps columns (s ∷ []) ≡ o ∷ [] → spelled_steps columns steps ++ o ∷ more ≡ spelled_steps columns (steps ++ s ∷ []) ++ more
steps_with columns steps s o more e =
    sym (append_assoc (spelled_steps columns steps) (o ∷ []) more)
    ∙ ap (λ (os : List Operator). (spelled_steps columns steps ++ os) ++ more) (sym e)
    ∙ ap (λ (os : List Operator). os ++ more) (sym (spelled_append columns steps (s ∷ [])))

pub spelled_count : (columns : List ReadColumn) (next : ℕ) (xs : List pipes.Pipeline) → length (all_spelled columns next xs) ≡ length xs
spelled_count columns next [] = refl
spelled_count columns next (x ∷ xs) = ap suc (spelled_count columns (next + 1) xs)

-- ---- tables that were built

module _ (tables : List (List (List Val))) where
  pub built_count : (start : List (List (List Val))) (ps : List Pipeline) (own : List (List (List Val))) → AreBuilt tables start ps own → length own ≡ length ps
  built_count start [] [] h = refl
  built_count start [] (e ∷ own) h = absurd h
  built_count start (p ∷ ps) [] h = absurd h
  built_count start (p ∷ ps) (e ∷ own) h = ap suc (built_count (start ++ e ∷ []) ps own h.2)

  -- the tables of pipelines before one, its own, and those of pipelines behind it
  pub record AreCut (start : List (List (List Val))) (xs : List Pipeline) (p : Pipeline) (ys : List Pipeline) (own : List (List (List Val))) : Type 0 where
    pub before : List (List (List Val))
    pub entries : List (List Val)
    pub behind : List (List (List Val))
    pub whole : before ++ entries ∷ behind ≡ own
    pub first : AreBuilt tables start xs before
    pub none : (pipeline_fed tables (start ++ before) p).codes ≡ []
    pub permuted : IsPermutation (pipeline_fed tables (start ++ before) p).rows entries
    pub rest : AreBuilt tables ((start ++ before) ++ entries ∷ []) ys behind
    pub cost : costs tables start (xs ++ p ∷ ys) own ≡ costs tables start xs before + pipeline_cost tables (start ++ before) p + costs tables ((start ++ before) ++ entries ∷ []) ys behind

  pub cut : (xs : List Pipeline) (p : Pipeline) (ys : List Pipeline) (start own : List (List (List Val))) → AreBuilt tables start (xs ++ p ∷ ys) own → AreCut start xs p ys own
  cut [] p ys start [] h = absurd h
  cut [] p ys start (e ∷ own) h =
      let same : start ≡ start ++ [] = sym (append-nil start) in
      record {
        before = [];
        entries = e;
        behind = own;
        whole = refl;
        first = tt;
        none = subst (λ (b : List (List (List Val))). (pipeline_fed tables b p).codes ≡ []) same h.0;
        permuted = subst (λ (b : List (List (List Val))). IsPermutation (pipeline_fed tables b p).rows e) same h.1;
        rest = subst (λ (b : List (List (List Val))). AreBuilt tables (b ++ e ∷ []) ys own) same h.2;
        cost = zero_and_two (pipeline_cost tables start p) (costs tables (start ++ e ∷ []) ys own) ∙ ap (λ (b : List (List (List Val))). 0 + pipeline_cost tables b p + costs tables (b ++ e ∷ []) ys own) same;
      }
  cut (x ∷ xs) p ys start [] h = absurd h
  cut (x ∷ xs) p ys start (e ∷ own) h =
      let c = cut xs p ys (start ++ e ∷ []) own h.2 in
      let same : (start ++ e ∷ []) ++ c.before ≡ start ++ e ∷ c.before = append_assoc start (e ∷ []) c.before in
      record {
        before = e ∷ c.before;
        entries = c.entries;
        behind = c.behind;
        whole = ap (λ (more : List (List (List Val))). e ∷ more) c.whole;
        first = (h.0, h.1, c.first);
        none = subst (λ (b : List (List (List Val))). (pipeline_fed tables b p).codes ≡ []) same c.none;
        permuted = subst (λ (b : List (List (List Val))). IsPermutation (pipeline_fed tables b p).rows c.entries) same c.permuted;
        rest = subst (λ (b : List (List (List Val))). AreBuilt tables (b ++ c.entries ∷ []) ys c.behind) same c.rest;
        cost = later_costs (pipeline_cost tables start x) (costs tables (start ++ e ∷ []) (xs ++ p ∷ ys) own) (costs tables (start ++ e ∷ []) xs c.before)
            (pipeline_cost tables ((start ++ e ∷ []) ++ c.before) p) (costs tables (((start ++ e ∷ []) ++ c.before) ++ c.entries ∷ []) ys c.behind) c.cost
            ∙ ap (λ (b : List (List (List Val))). (pipeline_cost tables start x + costs tables (start ++ e ∷ []) xs c.before) + pipeline_cost tables b p + costs tables (b ++ c.entries ∷ []) ys c.behind) same;
      }

pub none_permuted : {A : Type 0} (xs : List A) → IsPermutation xs [] → xs ≡ []
none_permuted [] h = refl
none_permuted (x ∷ xs) h = absurd (omega (arith, length_permutation (x ∷ xs) [] h))

front_none : {A : Type 0} (xs ys : List A) → xs ++ ys ≡ [] → xs ≡ []
front_none [] ys h = refl
front_none (x ∷ xs) ys h = absurd cc

-- ---- a plan

module _ (entries : List Entry) (tables : List (List (List Val))) (columns : List ReadColumn)
    (sized : AllByRecursion (λ (e : Entry). AllByRecursion (λ (c : ColumnType). IsSized c.ty) e.columns) entries) where
  abbrev rows_of_scan : pipes.Pipeline → List (List Val)
  rows_of_scan p = (entry_flow tables p.entry p.table).rows

  -- how the right side of a join is looked up, and the pipeline that builds it
  abbrev pub lookup : Bool → Node → List Condition → List ℕ → Lookup
  lookup outer right on keys = record { entries = entries_below right; outer = outer; on = on; keys = keys }

  abbrev pub building : (next : ℕ) → Bool → Node → List Condition → List ℕ → pipes.Pipeline
  building next outer right on keys = record (split next right).last { target = to_table (lookup outer right on keys) }

  last_step : (built : List (List (List Val))) (steps : List pipes.Step) (s : pipes.Step) (o : Operator) → spelled_steps columns (s ∷ []) ≡ o ∷ [] → (work : List Val → Flow (List Val)) (rows : List (List Val))
      → flow_over (through built (spelled_steps columns (steps ++ s ∷ [])) work) rows ≡ flow_over (through built (spelled_steps columns steps) (at_operator built o work)) rows
  last_step built steps s o e work rows =
      over_same (through built (spelled_steps columns (steps ++ s ∷ [])) work) (through built (spelled_steps columns steps) (at_operator built o work)) rows
      (λ row. ap (λ (os : List Operator). through built os work row) (spelled_append columns steps (s ∷ []) ∙ ap (λ (os : List Operator). spelled_steps columns steps ++ os) e)
      ∙ through_last built (spelled_steps columns steps) o work row)

  -- the pipeline of a plan, before anything else is done with its rows
  abbrev pub Feeds : (next : ℕ) → Node → (built : List (List (List Val))) → Type 0
  Feeds next node built = (work : List Val → Flow (List Val)) → Sees (is_read columns) work
      → Alike (flow_over (through built (spelled_steps columns (split next node).last.steps) work) (rows_of_scan (split next node).last)) (spread work (node_flow tables node))

  -- a table that is built
  pub side_fed : (outer : Bool) (left right : Node) (on : List Condition) (keys : List ℕ) (next m : ℕ) (built : List (List (List Val))) → IsReady entries tables columns sized (join outer left right on keys)
      → (r : Feeds next right built)
      → Alike (pipeline_fed tables built (spelled columns m (building next outer right on keys)))
      (spread (fed built [] (build (record { table = m; key = keys_kept (lookup outer right on keys); kept = kept_columns columns (lookup outer right on keys) }))) (node_flow tables right))
  side_fed outer left right on keys next m built ready r =
      let sink : Sink = build (record { table = m; key = keys_kept (lookup outer right on keys); kept = kept_columns columns (lookup outer right on keys) }) in
      let last : pipes.Pipeline = (split next right).last in
      subst (λ (f : Flow (List Val)). Alike f (spread (fed built [] sink) (node_flow tables right)))
      (sym (over_same (fed built (spelled_steps columns last.steps) sink) (through built (spelled_steps columns last.steps) (fed built [] sink)) (rows_of_scan last)
      (fed_through built (spelled_steps columns last.steps) sink)))
      (r (fed built [] sink) (build_sees entries tables columns sized outer left right on keys m ready.0 built))

  feeds_join : (outer : Bool) (left right : Node) (on : List Condition) (keys : List ℕ) (next m : ℕ) (start own : List (List (List Val))) → length start ≡ next → m ≡ next + length (split next right).builds
      → IsReady entries tables columns sized (join outer left right on keys)
      → (c : AreCut tables start (all_spelled columns next (split next right).builds) (spelled columns m (building next outer right on keys)) (all_spelled columns (m + 1) (split (m + 1) left).builds) own)
      → Feeds next right (start ++ c.before)
      → Feeds (m + 1) left (((start ++ c.before) ++ c.entries ∷ []) ++ c.behind)
      → (work : List Val → Flow (List Val)) → Sees (is_read columns) work
      → Alike (flow_over (through (start ++ own) (spelled_steps columns ((split (m + 1) left).last.steps ++ pipes.probe m (lookup outer right on keys) ∷ [])) work) (rows_of_scan (split (m + 1) left).last))
      (spread work (node_flow tables (join outer left right on keys)))
  feeds_join outer left right on keys next m start own long m_is ready c r l work sees =
      let sink : Sink = build (record { table = m; key = keys_kept (lookup outer right on keys); kept = kept_columns columns (lookup outer right on keys) }) in
      let built : List (List (List Val)) = start ++ own in
      let o : Operator = probe (record { table = m; outer = outer; key = keys_sought (lookup outer right on keys); kept = kept_columns columns (lookup outer right on keys); on = beside_keys keys 0 on }) in
      let at_last : List Val → Flow (List Val) = at_operator built o work in
      let last : pipes.Pipeline = (split (m + 1) left).last in
      let side : Flow (List Val) = spread (fed (start ++ c.before) [] sink) (node_flow tables right) in
      let right_is = side_fed outer left right on keys next m (start ++ c.before) ready r in
      let none : (node_flow tables right).codes ≡ [] =
      front_none (node_flow tables right).codes (flat_map (λ row. (fed (start ++ c.before) [] sink row).codes) (node_flow tables right).rows)
      (none_permuted side.codes (subst (IsPermutation side.codes) c.none (IsPermutation-sym (pipeline_fed tables (start ++ c.before) (spelled columns m (building next outer right on keys))).codes side.codes right_is.1))) in
      let front : length (start ++ c.before) ≡ m =
      length-append start c.before ∙ counted (length start) (length c.before) (length (split next right).builds) next m long
      (built_count tables start (all_spelled columns next (split next right).builds) c.before c.first ∙ spelled_count columns next (split next right).builds) m_is in
      let built_is : ((start ++ c.before) ++ c.entries ∷ []) ++ c.behind ≡ built =
      append_assoc (start ++ c.before) (c.entries ∷ []) c.behind ∙ append_assoc start c.before (c.entries ∷ c.behind) ∙ ap (λ (more : List (List (List Val))). start ++ more) c.whole in
      let there : get_or built m [] ≡ c.entries =
      ap (λ (b : List (List (List Val))). get_or b m []) (sym (ap (λ (more : List (List (List Val))). start ++ more) c.whole) ∙ sym (append_assoc start c.before (c.entries ∷ c.behind)))
      ∙ get_or_at (start ++ c.before) c.entries c.behind [] m front in
      let stands : IsPermutation side.rows (get_or built m []) =
      subst (IsPermutation side.rows) (sym there)
      (IsPermutation-trans side.rows (pipeline_fed tables (start ++ c.before) (spelled columns m (building next outer right on keys))).rows c.entries
      (IsPermutation-sym (pipeline_fed tables (start ++ c.before) (spelled columns m (building next outer right on keys))).rows side.rows right_is.0) c.permuted) in
      let left_is : Alike (flow_over (through built (spelled_steps columns last.steps) at_last) (rows_of_scan last)) (spread at_last (node_flow tables left)) =
      subst (λ (b : List (List (List Val))). Alike (flow_over (through b (spelled_steps columns last.steps) at_last) (rows_of_scan last)) (spread at_last (node_flow tables left))) built_is
      (l at_last (probe_sees entries tables columns sized outer left right on keys m ready.0 work sees (start ++ c.before) built stands)) in
      subst (λ (f : Flow (List Val)). Alike f (spread work (node_flow tables (join outer left right on keys))))
      (sym (last_step built last.steps (pipes.probe m (lookup outer right on keys)) o refl work (rows_of_scan last)))
      (alike_trans (flow_over (through built (spelled_steps columns last.steps) at_last) (rows_of_scan last)) (spread at_last (node_flow tables left)) (spread work (node_flow tables (join outer left right on keys)))
      left_is (joined entries tables columns sized outer left right on keys m ready.0 work sees (start ++ c.before) built stands none))
    where
      counted : (a b k n m : ℕ) → a ≡ n → b ≡ k → m ≡ n + k → a + b ≡ m
      counted a b k n m e f g = omega (arith, e, f, g)

  -- the pipelines of a join's builds
  pub spelled_join : (outer : Bool) (left right : Node) (on : List Condition) (keys : List ℕ) (next : ℕ)
      → all_spelled columns next (split next (join outer left right on keys)).builds
      ≡ all_spelled columns next (split next right).builds ++ spelled columns (next + length (split next right).builds) (building next outer right on keys)
      ∷ all_spelled columns (next + length (split next right).builds + 1) (split (next + length (split next right).builds + 1) left).builds
  spelled_join outer left right on keys next =
      pipelines_append columns next (split next right).builds (building next outer right on keys ∷ (split (next + length (split next right).builds + 1) left).builds)

  pub feeds : (node : Node) (next : ℕ) (start own : List (List (List Val))) → length start ≡ next → AreBuilt tables start (all_spelled columns next (split next node).builds) own
      → IsReady entries tables columns sized node → Feeds next node (start ++ own)
  feeds (scan entry table) next start own long built ready work sees = alike_refl (spread work (entry_flow tables entry table))
  feeds (filter conjuncts below) next start own long built ready work sees =
      let all : List (List (List Val)) = start ++ own in
      let at_last : List Val → Flow (List Val) = at_operator all (filter_by conjuncts) work in
      let last : pipes.Pipeline = (split next below).last in
      subst (λ (f : Flow (List Val)). Alike f (spread work (node_flow tables (filter conjuncts below)))) (sym (last_step all last.steps (test conjuncts) (filter_by conjuncts) refl work (rows_of_scan last)))
      (alike_trans (flow_over (through all (spelled_steps columns last.steps) at_last) (rows_of_scan last)) (spread at_last (node_flow tables below)) (spread work (node_flow tables (filter conjuncts below)))
      (feeds below next start own long built ready.1 at_last (operator_sees (is_read columns) all (filter_by conjuncts) work ready.0 sees))
      (spread_twice at_last work (λ row. record { rows = rows_given (kept conjuncts row); codes = codes_given (kept conjuncts row) }) (node_flow tables below)
      (all_of_any (λ row. Alike (at_last row) (spread work (record { rows = rows_given (kept conjuncts row); codes = codes_given (kept conjuncts row) }))) (node_flow tables below).rows
      (λ row. passed_on work row true (passes conjuncts (at_row row))))))
  feeds (join outer left right on keys) next start own long built ready work sees =
      let m : ℕ = next + length (split next right).builds in
      let c = cut tables (all_spelled columns next (split next right).builds) (spelled columns m (building next outer right on keys)) (all_spelled columns (m + 1) (split (m + 1) left).builds) start own
      (subst (λ (ps : List Pipeline). AreBuilt tables start ps own) (spelled_join outer left right on keys next) built) in
      feeds_join outer left right on keys next m start own long refl ready c (feeds right next start c.before long c.first ready.1.1)
      (feeds left (m + 1) ((start ++ c.before) ++ c.entries ∷ []) c.behind
      (length-append (start ++ c.before) (c.entries ∷ []) ∙ ap (λ (k : ℕ). k + 1) (length-append start c.before
      ∙ counted (length start) (length c.before) (length (split next right).builds) next long
      (built_count tables start (all_spelled columns next (split next right).builds) c.before c.first ∙ spelled_count columns next (split next right).builds)))
      c.rest ready.1.0) work sees
    where
      counted : (a b k n : ℕ) → a ≡ n → b ≡ k → a + b ≡ n + k
      counted a b k n e f = omega (arith, e, f)
  feeds (project below items) next start own long built ready work sees = absurd ready
