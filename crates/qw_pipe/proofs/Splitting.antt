-- The pipelines of a plan come to its flow.
use Rattle.std.proofs.Common.{arith, ◌≡◌, ◌∙◌, ℕ, ◌+◌, Bool, true, false, List, [], ◌∷◌, ◌++◌, length, get_or, Result, refl, sym, ap, ap₂, subst, subst₂, append-nil, append_assoc, length-append}
use Rattle.std.specs.List.{flat_map}
use Rattle.std.specs.List.Sorted.{IsPermutation}
use Rattle.std.proofs.lemmas.List.{get_or_at}
use Rattle.std.proofs.lemmas.List.Sorted.{Contains-permutation, length_permutation, IsPermutation-sym, IsPermutation-append_comm, IsPermutation-append_left, IsPermutation-append_right, IsPermutation-refl, IsPermutation-trans}
use Rattle.qw_types.specs.declared.code.Code.{Code}
use Rattle.qw_types.specs.declared.value.Val.{Val}
use Rattle.qw_scalar.specs.Expression.{Condition}
use Rattle.qw_meaning.specs.Flow.{Flow, codes_given, each, kept, rows_given, selected}
use Rattle.qw_meaning.specs.From.{entry_flow, joined}
use Rattle.qw_meaning.specs.Outcome.{IsSameOutcome, ended}
use Rattle.qw_algebra.specs.Node.{Node, scan, filter, join, project, node_flow}
use Rattle.qw_pipe.specs.Pipes.{Lookup, Pipeline, Progress, Step, after_pipeline, after_pipelines, make, pipeline_flow, pipelines, pipelines_flow, probe, rows_of_last, split, step_flow, steps_flow, test, then_step, to_table}
use Rattle.qw_algebra.specs.Columns.{entries_below}

steps_more : (built : List (List (List Val))) (steps : List Step) (s : Step) (f : Flow (List Val)) → steps_flow built (steps ++ s ∷ []) f ≡ step_flow built s (steps_flow built steps f)
steps_more built [] s f = refl
steps_more built (x ∷ steps) s f = steps_more built steps s (step_flow built x f)

-- what a join comes to, by the rows of its sides alone
abbrev pub found : (outer : Bool) → List Condition → List (List Val) → List (List Val) → Flow (List Val)
found outer on ls rs = joined outer on (record { rows = ls; codes = [] }) (record { rows = rs; codes = [] })

pub joined_rows : (outer : Bool) (on : List Condition) (one other : Flow (List Val)) → (joined outer on one other).rows ≡ (found outer on one.rows other.rows).rows
joined_rows false on one other = refl
joined_rows true on one other = refl

pub joined_codes : (outer : Bool) (on : List Condition) (one other : Flow (List Val)) → (joined outer on one other).codes ≡ (one.codes ++ other.codes) ++ (found outer on one.rows other.rows).codes
joined_codes false on one other = refl
joined_codes true on one other = refl

last_is : (front : List (List (List Val))) (rows : List (List Val)) → rows_of_last (front ++ rows ∷ []) ≡ rows
last_is [] rows = refl
last_is (x ∷ []) rows = refl
last_is (x ∷ y ∷ front) rows = last_is (y ∷ front) rows

module _ (tables : List (List (List Val))) where
  pub pipelines_append : (p : Progress) (xs ys : List Pipeline) → after_pipelines tables p (xs ++ ys) ≡ after_pipelines tables (after_pipelines tables p xs) ys
  pipelines_append p [] ys = refl
  pipelines_append p (x ∷ xs) ys = pipelines_append (after_pipeline tables p x) xs ys

  -- what the pipelines of a plan do after others: they build tables of their own behind those, and come to its rows and its codes
  pub record Splits (next : ℕ) (node : Node) (start : Progress) : Type 0 where
    pub done : Progress
    pub is : after_pipelines tables start (split next node).builds ≡ done
    pub rows : (pipeline_flow tables done.built (split next node).last).rows ≡ (node_flow tables node).rows
    pub codes : IsPermutation (start.codes ++ (node_flow tables node).codes) (done.codes ++ (pipeline_flow tables done.built (split next node).last).codes)
    pub own : List (List (List Val))
    pub built : done.built ≡ start.built ++ own
    pub count : length own ≡ length (split next node).builds

  -- a step by itself on each row
  step_rows : (built : List (List (List Val))) (p : Pipeline) (s : Step) (work : List Val → Result (List (List Val)) Code) (f : Flow (List Val))
      → ((g : Flow (List Val)) → step_flow built s g ≡ each work g) → (pipeline_flow tables built p).rows ≡ f.rows
      → (pipeline_flow tables built (then_step p s)).rows ≡ (each work f).rows
  step_rows built p s work f does e =
      ap (λ (g : Flow (List Val)). g.rows) (steps_more built p.steps s (entry_flow tables p.entry p.table) ∙ does (pipeline_flow tables built p))
      ∙ ap (λ rows. flat_map (λ row. rows_given (work row)) rows) e

  step_codes : (built : List (List (List Val))) (p : Pipeline) (s : Step) (work : List Val → Result (List (List Val)) Code) (f : Flow (List Val)) (before after : List Code)
      → ((g : Flow (List Val)) → step_flow built s g ≡ each work g) → (pipeline_flow tables built p).rows ≡ f.rows
      → IsPermutation (before ++ f.codes) (after ++ (pipeline_flow tables built p).codes)
      → IsPermutation (before ++ (each work f).codes) (after ++ (pipeline_flow tables built (then_step p s)).codes)
  step_codes built p s work f before after does e h =
      let raised : List Code = flat_map (λ row. codes_given (work row)) f.rows in
      let P : Flow (List Val) = pipeline_flow tables built p in
      subst₂ (λ xs ys. IsPermutation xs ys) (append_assoc before f.codes raised)
      (append_assoc after P.codes raised
      ∙ ap (λ rows. after ++ (P.codes ++ flat_map (λ row. codes_given (work row)) rows)) (sym e)
      ∙ ap (λ (g : Flow (List Val)). after ++ g.codes) (sym (steps_more built p.steps s (entry_flow tables p.entry p.table) ∙ does P)))
      (IsPermutation-append_left raised (before ++ f.codes) (after ++ P.codes) h)

  -- the codes of both sides and of the pairs
  join_codes : (a l r x b c p : List Code) → IsPermutation (a ++ r) b → IsPermutation (b ++ l) (c ++ p) → IsPermutation (a ++ ((l ++ r) ++ x)) (c ++ ((p ++ []) ++ x))
  join_codes a l r x b c p hr hl =
      subst₂ (λ xs ys. IsPermutation xs ys) (append_assoc a (l ++ r) x) (append_assoc c p x ∙ ap (λ q. c ++ (q ++ x)) (sym (append-nil p)))
      (IsPermutation-append_left x (a ++ (l ++ r)) (c ++ p)
      (IsPermutation-trans (a ++ (l ++ r)) (a ++ (r ++ l)) (c ++ p) (IsPermutation-append_right a (l ++ r) (r ++ l) (IsPermutation-append_comm l r))
      (IsPermutation-trans (a ++ (r ++ l)) (b ++ l) (c ++ p)
      (subst (λ xs. IsPermutation xs (b ++ l)) (append_assoc a r l) (IsPermutation-append_left l (a ++ r) b hr)) hl)))

  -- a table that was built is the one that is probed
  pub table_built : (front : List (List (List Val))) (rows : List (List Val)) (own : List (List (List Val))) (m : ℕ) (built : List (List (List Val)))
      → built ≡ (front ++ rows ∷ []) ++ own → length front ≡ m → get_or built m [] ≡ rows
  table_built front rows own m built e long =
      ap (λ b. get_or b m []) (e ∙ append_assoc front (rows ∷ []) own) ∙ get_or_at front rows own [] m long

  -- how the right side of a join is looked up, and its pipeline, which builds it
  abbrev pub lookup : (outer : Bool) → Node → List Condition → List ℕ → Lookup
  lookup outer right on keys = record { entries = entries_below right; outer = outer; on = on; keys = keys }

  abbrev pub building : (outer : Bool) → (next : ℕ) → Node → List Condition → List ℕ → Pipeline
  building outer next right on keys = record (split next right).last { target = to_table (lookup outer right on keys) }

  splits_join : (outer : Bool) (left right : Node) (on : List Condition) (keys : List ℕ) (next : ℕ) (start : Progress) → length start.built ≡ next
      → (hr : Splits next right start)
      → Splits (next + length (split next right).builds + 1) left (after_pipeline tables hr.done (building outer next right on keys))
      → Splits next (join outer left right on keys) start
  splits_join outer left right on keys next start e hr hl =
      let m : ℕ = next + length (split next right).builds in
      let R : Flow (List Val) = pipeline_flow tables hr.done.built (split next right).last in
      let mid : Progress = after_pipeline tables hr.done (building outer next right on keys) in
      let last : Pipeline = (split (m + 1) left).last in
      let P : Flow (List Val) = pipeline_flow tables hl.done.built last in
      let long : length hr.done.built ≡ m = ap length hr.built ∙ length-append start.built hr.own ∙ (rw (e, hr.count) refl) in
      let same_table : get_or hl.done.built m [] ≡ (node_flow tables right).rows =
      table_built hr.done.built R.rows hl.own m hl.done.built hl.built long ∙ hr.rows in
      let open_is : pipeline_flow tables hl.done.built (then_step last (probe m (lookup outer right on keys))) ≡ step_flow hl.done.built (probe m (lookup outer right on keys)) P =
      steps_more hl.done.built last.steps (probe m (lookup outer right on keys)) (entry_flow tables last.entry last.table) in
      let there : Flow (List Val) = record { rows = get_or hl.done.built m []; codes = [] } in
      let same_pairs : found outer on P.rows there.rows ≡ found outer on (node_flow tables left).rows (node_flow tables right).rows =
      ap₂ (λ ls rs. found outer on ls rs) hl.rows same_table in
      record {
        done = hl.done;
        is = pipelines_append start (split next right).builds (building outer next right on keys ∷ (split (m + 1) left).builds)
            ∙ ap (λ p. after_pipelines tables (after_pipeline tables p (building outer next right on keys)) (split (m + 1) left).builds) hr.is ∙ hl.is;
        rows = ap (λ (g : Flow (List Val)). g.rows) open_is ∙ joined_rows outer on P there ∙ ap (λ (g : Flow (List Val)). g.rows) same_pairs
            ∙ sym (joined_rows outer on (node_flow tables left) (node_flow tables right));
        codes = subst₂ (λ xs ys. IsPermutation (start.codes ++ xs) (hl.done.codes ++ ys)) (sym (joined_codes outer on (node_flow tables left) (node_flow tables right)))
            (ap (λ (g : Flow (List Val)). (P.codes ++ []) ++ g.codes) (sym same_pairs) ∙ sym (joined_codes outer on P there) ∙ ap (λ (g : Flow (List Val)). g.codes) (sym open_is))
            (join_codes start.codes (node_flow tables left).codes (node_flow tables right).codes (found outer on (node_flow tables left).rows (node_flow tables right).rows).codes
            mid.codes hl.done.codes P.codes hr.codes hl.codes);
        own = hr.own ++ R.rows ∷ hl.own;
        built = hl.built ∙ append_assoc hr.done.built (R.rows ∷ []) hl.own ∙ ap (λ b. b ++ R.rows ∷ hl.own) hr.built ∙ append_assoc start.built hr.own (R.rows ∷ hl.own);
        count = length-append hr.own (R.rows ∷ hl.own) ∙ (rw (hr.count, hl.count) refl)
            ∙ sym (length-append (split next right).builds (building outer next right on keys ∷ (split (m + 1) left).builds));
      }

  pub splits : (node : Node) (next : ℕ) (start : Progress) → length start.built ≡ next → Splits next node start
  splits (scan entry table) next start e = record {
    done = start;
    is = refl;
    rows = refl;
    codes = IsPermutation-refl (start.codes ++ []);
    own = [];
    built = sym (append-nil start.built);
    count = refl;
  }
  splits (filter conjuncts below) next start e =
      let h = splits below next start e in
      record {
        done = h.done;
        is = h.is;
        rows = step_rows h.done.built (split next below).last (test conjuncts) (kept conjuncts) (node_flow tables below) (λ g. refl) h.rows;
        codes = step_codes h.done.built (split next below).last (test conjuncts) (kept conjuncts) (node_flow tables below) start.codes h.done.codes (λ g. refl) h.rows h.codes;
        own = h.own;
        built = h.built;
        count = h.count;
      }
  splits (join outer left right on keys) next start e =
      let hr = splits right next start e in
      let m : ℕ = next + length (split next right).builds in
      let R : Flow (List Val) = pipeline_flow tables hr.done.built (split next right).last in
      splits_join outer left right on keys next start e hr
      (splits left (m + 1) (after_pipeline tables hr.done (building outer next right on keys))
      (length-append hr.done.built (R.rows ∷ []) ∙ ap (λ k. k + 1) (ap length hr.built ∙ length-append start.built hr.own ∙ (rw (e, hr.count) refl))))
  splits (project below items) next start e =
      let h = splits below next start e in
      record {
        done = h.done;
        is = h.is;
        rows = step_rows h.done.built (split next below).last (make items) (selected items) (node_flow tables below) (λ g. refl) h.rows;
        codes = step_codes h.done.built (split next below).last (make items) (selected items) (node_flow tables below) start.codes h.done.codes (λ g. refl) h.rows h.codes;
        own = h.own;
        built = h.built;
        count = h.count;
      }

  -- after all but the last, the last
  run_is : (node : Node) (done : Progress) → after_pipelines tables (record { built = []; codes = [] }) (split 0 node).builds ≡ done
      → after_pipelines tables (record { built = []; codes = [] }) (pipelines node) ≡ after_pipeline tables done (split 0 node).last
  run_is node done e =
      pipelines_append (record { built = []; codes = [] }) (split 0 node).builds ((split 0 node).last ∷ []) ∙ ap (λ p. after_pipeline tables p (split 0 node).last) e

  pub pipelines_rows : (node : Node) → (pipelines_flow tables (pipelines node)).rows ≡ (node_flow tables node).rows
  pipelines_rows node =
      let h = splits node 0 (record { built = []; codes = [] }) refl in
      ap (λ (p : Progress). rows_of_last p.built) (run_is node h.done h.is)
      ∙ last_is h.done.built (pipeline_flow tables h.done.built (split 0 node).last).rows ∙ h.rows

  pub pipelines_codes : (node : Node) → IsPermutation (node_flow tables node).codes (pipelines_flow tables (pipelines node)).codes
  pipelines_codes node =
      let h = splits node 0 (record { built = []; codes = [] }) refl in
      subst (λ (p : Progress). IsPermutation (node_flow tables node).codes p.codes) (sym (run_is node h.done h.is)) h.codes

  same_ends : (rows : List (List Val)) (codes others : List Code) → IsPermutation codes others → IsSameOutcome (ended rows codes) (ended rows others)
  same_ends rows [] [] h = IsPermutation-refl rows
  same_ends rows [] (y ∷ ys) h = absurd (omega (arith, length_permutation [] (y ∷ ys) h))
  same_ends rows (x ∷ xs) [] h = absurd (omega (arith, length_permutation (x ∷ xs) [] h))
  same_ends rows (x ∷ xs) (y ∷ ys) h =
      (λ code there. Contains-permutation (x ∷ xs) (y ∷ ys) code h there, λ code there. Contains-permutation (y ∷ ys) (x ∷ xs) code (IsPermutation-sym (x ∷ xs) (y ∷ ys) h) there)

  pub pipelines_outcome : (node : Node) → IsSameOutcome (ended (node_flow tables node).rows (node_flow tables node).codes)
      (ended (pipelines_flow tables (pipelines node)).rows (pipelines_flow tables (pipelines node)).codes)
  pipelines_outcome node =
      rw (pipelines_rows node) (same_ends (node_flow tables node).rows (node_flow tables node).codes (pipelines_flow tables (pipelines node)).codes (pipelines_codes node))
