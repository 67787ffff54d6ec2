-- The last pipeline of a well placed plan feeds the rows of the query.
use Rattle.std.proofs.Common.{◌≡◌, ◌∙◌, ℕ, true, List, [], ◌∷◌, ◌++◌, Result, Ok, Err, refl, sym, ap, subst, append-nil, arith}
use Rattle.std.specs.List.{AllByRecursion, Contains}
use Rattle.std.specs.List.Sorted.{IsPermutation}
use Rattle.std.proofs.lemmas.List.Sorted.{Contains-permutation, IsPermutation-sym, IsPermutation-trans}
use Rattle.qw_types.specs.Arithmetic.{◌>>=◌}
use Rattle.qw_types.specs.Value.{IsSized}
use Rattle.qw_types.specs.declared.code.Code.{Code}
use Rattle.qw_types.specs.declared.schema.ColumnType.{ColumnType}
use Rattle.qw_types.specs.declared.value.Val.{Val}
use Rattle.qw_scalar.specs.Evaluation.{at_row}
use Rattle.qw_scalar.specs.Expression.{Condition, Expression}
use Rattle.qw_meaning.specs.Flow.{Flow, given, selected, spread, values_of}
use Rattle.qw_meaning.specs.From.{entry_flow}
use Rattle.qw_meaning.specs.Outcome.{IsSameOutcome, Raises, Rows, ended, flow, outcome}
use Rattle.qw_meaning.specs.Select.{AreOfEntries, Entry, IsColumnOf, IsConditionOver, IsSpecification, Specification, conjuncts_on, entries_of}
use Rattle.qw_algebra.specs.Columns.{condition_names_only}
use Rattle.qw_algebra.specs.Node.{Node, filter, project, node_flow}
use Rattle.qw_algebra.specs.Written.{from_written, written}
use Rattle.qw_algebra.proofs.Lists.{all_append, all_of_any}
use Rattle.qw_rewrite.specs.Placed.{IsSizedPlan, IsWellPlaced}
use Rattle.qw_rewrite.specs.Probe.{keyed}
use Rattle.qw_rewrite.specs.Sift.{sifted}
use Rattle.qw_rewrite.proofs.Grounds.{IsLaid, clauses_sound, flow_of_query, sound, written_sized}
use Rattle.qw_rewrite.proofs.Probes.{placed_probes}
use Rattle.qw_pipe.specs.Pipes as pipes
use Rattle.qw_pipe.specs.Pipes.{make, split, test}
use Rattle.qw_pipe.proofs.Ordering.{in_order}
use Rattle.qw_feed.specs.Feeds.{flow_by, flow_over, one_row}
use Rattle.qw_physical.specs.Physical.{Operator, Pipeline, Sink, select}
use Rattle.qw_physical.specs.Courses.{AreBuilt, fed, pipeline_fed}
use Rattle.qw_physical.specs.Reads.{AreRead, AreScaled, IsScaled, is_read}
use Rattle.qw_physical.specs.Spelled.{all_spelled, items_made, spelled, spelled_sink, spelled_steps}
use Rattle.qw_physical.specs.declared.pipeline.ReadColumn.{ReadColumn}
use Rattle.qw_physical.proofs.Feeding.{feeds, none_permuted, spelled_append}
use Rattle.qw_physical.proofs.Orders.{Alike, alike_is, alike_trans, over_same, spread_same}
use Rattle.qw_physical.proofs.Conjuncts.{AllConjuncts, placed_all, sources_over}
use Rattle.qw_physical.proofs.Placed.{IsReady, keyed_keys, keyed_laid, laid_of, ready, sifted_laid, sized_of, typed_of}
use Rattle.qw_physical.proofs.Sight.{sink_sees}
use Rattle.qw_physical.proofs.Through.{fed_through, through}

items_last : (first items : List Expression) (steps : List pipes.Step) → items_made first (steps ++ make items ∷ []) ≡ items
items_last first items [] = refl
items_last first items (test conjuncts ∷ steps) = items_last first items steps
items_last first items (pipes.probe table lookup ∷ steps) = items_last first items steps
items_last first items (make others ∷ steps) = items_last others items steps

-- a row of a select list
selected_is : (r : Result (List Val) Code) → flow_by r one_row ≡ given (r >>= (λ values. Ok (values ∷ [])))
selected_is (Ok values) = refl
selected_is (Err code) = refl

some_raised : (rows : List (List Val)) (codes : List Code) (code : Code) → Contains codes code → ended rows codes ≡ Raises codes
some_raised rows [] code h = absurd (omega (arith, h.1))
some_raised rows (c ∷ codes) code h = refl

module _ (query : Specification) (tables : List (List (List Val))) (columns : List ReadColumn) (whole : IsSpecification query) (of : AreOfEntries (entries_of query.sources) tables)
    (sized : AllByRecursion (λ (e : Entry). AllByRecursion (λ (c : ColumnType). IsSized c.ty) e.columns) (entries_of query.sources)) (read : AreRead columns query) (scaled : AreScaled query) where
  abbrev pub from : Node
  from = filter query.conjuncts (from_written query.sources)

  -- the well placed plan, but for its select list
  abbrev pub below : Node
  below = keyed true (sifted true [] from)

  sized_plan : IsSizedPlan (written query)
  sized_plan = written_sized query whole sized

  pub typed_below : AllConjuncts (λ c. IsConditionOver (IsColumnOf (entries_of query.sources)) c) below
  typed_below =
      let P : Condition → Type 0 = λ c. IsConditionOver (IsColumnOf (entries_of query.sources)) c in
      placed_all P query (all_append P (conjuncts_on query.sources) query.conjuncts (sources_over (entries_of query.sources) 0 query.sources whole.sources) whole.conjuncts)

  scaled_below : AllConjuncts IsScaled below
  scaled_below = placed_all IsScaled query scaled

  pub names_below : AllConjuncts (λ c. condition_names_only (is_read columns) c ≡ true) below
  names_below = placed_all (λ c. condition_names_only (is_read columns) c ≡ true) query read.conjuncts

  laid_below : IsLaid (entries_of query.sources) tables below
  laid_below =
      keyed_laid (entries_of query.sources) tables columns sized (sifted true [] from) true (sifted_laid (entries_of query.sources) tables columns sized from true []
      (laid_of (entries_of query.sources) tables columns sized from (clauses_sound query tables whole of sized_plan)))

  pub ready_below : IsReady (entries_of query.sources) tables columns sized below
  ready_below =
      ready (entries_of query.sources) tables columns sized below
      (sound (entries_of query.sources) tables below laid_below (typed_of (entries_of query.sources) tables columns sized below typed_below)
      (sized_of (entries_of query.sources) tables columns sized below typed_below))
      (placed_probes query tables (project below query.items) whole of sized_plan refl) (keyed_keys (sifted true [] from) true) typed_below names_below scaled_below

  -- the last pipeline
  pub last_is : (n : ℕ) → spelled columns n (split 0 (project below query.items)).last
      ≡ record { entry = (split 0 below).last.entry; table = (split 0 below).last.table; operators = spelled_steps columns (split 0 below).last.steps; sink = select query.items }
  last_is n =
      let last : pipes.Pipeline = (split 0 below).last in
      let steps_is : spelled_steps columns (last.steps ++ make query.items ∷ []) ≡ spelled_steps columns last.steps =
      spelled_append columns last.steps (make query.items ∷ []) ∙ append-nil (spelled_steps columns last.steps) in
      let sink_is : spelled_sink columns n (last.steps ++ make query.items ∷ []) last.target ≡ select query.items =
      ap (spelled_sink columns n (last.steps ++ make query.items ∷ [])) (in_order below 0 [] refl).target ∙ ap select (items_last [] query.items last.steps) in
      ap (λ (os : List Operator). record { entry = last.entry; table = last.table; operators = os; sink = spelled_sink columns n (last.steps ++ make query.items ∷ []) last.target }) steps_is
      ∙ ap (λ (s : Sink). record { entry = last.entry; table = last.table; operators = spelled_steps columns last.steps; sink = s }) sink_is

  placed_fed : (n : ℕ) (more : List (List (List Val))) → AreBuilt tables [] (all_spelled columns 0 (split 0 below).builds) more
      → Alike (pipeline_fed tables more (spelled columns n (split 0 (project below query.items)).last)) (flow query tables)
  placed_fed n more built =
      let last : pipes.Pipeline = (split 0 below).last in
      let operators : List Operator = spelled_steps columns last.steps in
      let rows : List (List Val) = (entry_flow tables last.entry last.table).rows in
      let made : List Val → Flow (List Val) = fed more [] (select query.items) in
      subst (λ (p : Pipeline). Alike (pipeline_fed tables more p) (flow query tables)) (sym (last_is n))
      (subst (λ (f : Flow (List Val)). Alike f (flow query tables)) (sym (over_same (fed more operators (select query.items)) (through more operators made) rows (fed_through more operators (select query.items))))
      (alike_trans (flow_over (through more operators made) rows) (spread made (node_flow tables below)) (flow query tables)
      (feeds (entries_of query.sources) tables columns sized below 0 [] more refl built ready_below made (sink_sees (is_read columns) more (select query.items) read.items))
      (alike_is (spread made (node_flow tables below)) (flow query tables)
      (spread_same made (λ row. given (selected query.items row)) (node_flow tables below) (all_of_any (λ row. made row ≡ given (selected query.items row)) (node_flow tables below).rows (λ row. selected_is (values_of query.items (at_row row))))
      ∙ flow_of_query query tables (project below query.items) whole of sized_plan refl))))

  pub last_fed : (node : Node) (n : ℕ) (more : List (List (List Val))) → IsWellPlaced query node → AreBuilt tables [] (all_spelled columns 0 (split 0 node).builds) more
      → Alike (pipeline_fed tables more (spelled columns n (split 0 node).last)) (flow query tables)
  last_fed node n more e =
      subst (λ (plan : Node). AreBuilt tables [] (all_spelled columns 0 (split 0 plan).builds) more → Alike (pipeline_fed tables more (spelled columns n (split 0 plan).last)) (flow query tables)) (sym e)
      (λ built. placed_fed n more built)

  -- the rows of the query
  pub same_outcome : (node : Node) (n : ℕ) (more : List (List (List Val))) (rows : List (List Val)) → IsWellPlaced query node → AreBuilt tables [] (all_spelled columns 0 (split 0 node).builds) more
      → (pipeline_fed tables more (spelled columns n (split 0 node).last)).codes ≡ [] → IsPermutation (pipeline_fed tables more (spelled columns n (split 0 node).last)).rows rows
      → IsSameOutcome (outcome query tables) (Rows rows)
  same_outcome node n more rows e built none permuted =
      let fed_all : Flow (List Val) = pipeline_fed tables more (spelled columns n (split 0 node).last) in
      let a = last_fed node n more e built in
      let quiet : (flow query tables).codes ≡ [] =
      none_permuted (flow query tables).codes (subst (IsPermutation (flow query tables).codes) none (IsPermutation-sym fed_all.codes (flow query tables).codes a.1)) in
      subst (λ (codes : List Code). IsSameOutcome (ended (flow query tables).rows codes) (Rows rows)) (sym quiet)
      (IsPermutation-trans (flow query tables).rows fed_all.rows rows (IsPermutation-sym fed_all.rows (flow query tables).rows a.0) permuted)

  -- an exception of its flow is one of the query's
  pub raises_flow : (code : Code) → Contains (flow query tables).codes code → outcome query tables ≡ Raises (flow query tables).codes
  raises_flow code h = some_raised (flow query tables).rows (flow query tables).codes code h

  pub last_codes : (node : Node) (n : ℕ) (more : List (List (List Val))) → IsWellPlaced query node → AreBuilt tables [] (all_spelled columns 0 (split 0 node).builds) more
      → (code : Code) → Contains (pipeline_fed tables more (spelled columns n (split 0 node).last)).codes code → Contains (flow query tables).codes code
  last_codes node n more e built code h =
      Contains-permutation (pipeline_fed tables more (spelled columns n (split 0 node).last)).codes (flow query tables).codes code (last_fed node n more e built).1 h
