-- What pipelines of the code raise is told by the query's outcome, and what the last one feeds are its rows; they take no more than the query's units.
use Rattle.std.proofs.Common.{◌≡◌, ℕ, ◌≤◌, inl, inr, Contains, List, [], ◌∷◌, ◌++◌, refl, sym, ap, ◌∙◌, subst, ⊎_elim, append_assoc, arith}
use Rattle.std.specs.List.{AllZip}
use Rattle.std.proofs.lemmas.List.Sorted.{IsPermutation-refl}
use Rattle.qw_types.specs.declared.value.Val.{Val}
use Rattle.qw_meaning.specs.Flow.{Flow}
use Rattle.qw_meaning.specs.Outcome.{IsSameOutcome, Rows, flow, outcome}
use Rattle.qw_meaning.specs.Select.{Specification}
use Rattle.qw_algebra.specs.Node.{Node}
use Rattle.qw_feed.specs.Feeds.{Tells}
use Rattle.qw_pipe.specs.Pipes.{pipelines}
use Rattle.qw_physical.specs.Courses.{AreBuilt, costs, pipeline_cost, pipeline_fed}
use Rattle.qw_physical.specs.Physical.{Pipeline}
use Rattle.qw_physical.specs.Sides.{IsPlanned, builds_of, last_of}
use Rattle.qw_physical.specs.Spelled.{IsSamePipeline, all_spelled}
use Rattle.qw_physical.specs.declared.pipeline.ReadColumn.{ReadColumn}
use Rattle.qw_physical.proofs.Alikeness.{pipeline_cost_same, pipeline_fed_same}
use Rattle.qw_physical.proofs.Results.{build_raises, in_order, last_raises, rows_are}
use Rattle.qw_operator.proofs.Stood.{Stood, built_of}
use Rattle.qw_emit.proofs.Answered.{IsTold}
use Rattle.qw_compile.proofs.PipelineRuns.{AreStood, fed_over}
use Rattle.qw_compile.proofs.StoodBuilt.{built_alike, cost_within, stood_built}

-- a list that is alike another, where that one is parted
pub record Parted (Same : Pipeline → Pipeline → Type 0) (xs front : List Pipeline) (p : Pipeline) (back : List Pipeline) : Type 0 where
  pub before : List Pipeline
  pub at : Pipeline
  pub after : List Pipeline
  pub is : xs ≡ before ++ at ∷ after
  pub same_before : AllZip Same before front
  pub same_at : Same at p
  pub same_after : AllZip Same after back

pub parted : (Same : Pipeline → Pipeline → Type 0) (xs front : List Pipeline) (p : Pipeline) (back : List Pipeline) → AllZip Same xs (front ++ p ∷ back) → Parted Same xs front p back
parted Same [] [] p back same = absurd same
parted Same (x ∷ xs) [] p back same = record { before = []; at = x; after = xs; is = refl; same_before = tt; same_at = same.0; same_after = same.1 }
parted Same [] (q ∷ front) p back same = absurd same
parted Same (x ∷ xs) (q ∷ front) p back same =
    let rest = parted Same xs front p back same.1 in
    record { before = x ∷ rest.before; at = rest.at; after = rest.after; is = ap (λ (l : List Pipeline). x ∷ l) rest.is; same_before = (same.0, rest.same_before); same_at = rest.same_at; same_after = rest.same_after }

module _ (query : Specification) (tables : List (List (List Val))) (columns : List ReadColumn) (node : Node) (planned : IsPlanned query tables columns node) (building : List Pipeline) (last : Pipeline)
    (same : AllZip IsSamePipeline (builds_of columns node) building) (same_last : IsSamePipeline (last_of columns node) last) where
  fed_same : (p q : Pipeline) → IsSamePipeline p q → (built : List (List (List Val))) → pipeline_fed tables built p ≡ pipeline_fed tables built q
  fed_same p q is built = pipeline_fed_same built tables p q is

  -- the spelled pipelines have built the same tables
  pub spelled_built : (ps qs : List Pipeline) (stoods : List Stood) → AllZip IsSamePipeline ps qs → AreStood tables [] qs stoods → AreBuilt tables [] ps (built_of stoods)
  spelled_built ps qs stoods zip are = built_alike IsSamePipeline tables fed_same [] ps qs (built_of stoods) zip (stood_built tables [] qs stoods are)

  pub told : (front : List Pipeline) (p : Pipeline) (back : List Pipeline) (stoods : List Stood) → building ≡ front ++ p ∷ back → AreStood tables [] front stoods → (raised : ℕ) → Tells (fed_over tables stoods p).codes raised → IsTold (outcome query tables) raised
  told front p back stoods parts are raised tells =
      let cut = parted IsSamePipeline (builds_of columns node) front p back (subst (AllZip IsSamePipeline (builds_of columns node)) parts same) in
      ⊎_elim inl
      (λ it.
      let found = build_raises query tables columns node planned cut.before cut.at cut.after (built_of stoods) cut.is (spelled_built cut.before front stoods cut.same_before are) it.0
      (subst (λ (f : Flow (List Val)). Contains f.codes it.0) (sym (fed_same cut.at p cut.same_at (built_of stoods))) it.1) in
      inr ((flow query tables).codes, it.0, found.0, found.1, it.2))
      tells

  pub told_last : (stoods : List Stood) → AreStood tables [] building stoods → (raised : ℕ) → Tells (fed_over tables stoods last).codes raised → IsTold (outcome query tables) raised
  told_last stoods are raised tells =
      ⊎_elim inl
      (λ it.
      let found = last_raises query tables columns node planned (built_of stoods) (spelled_built (builds_of columns node) building stoods same are) it.0
      (subst (λ (f : Flow (List Val)). Contains f.codes it.0) (sym (fed_same (last_of columns node) last same_last (built_of stoods))) it.1) in
      inr ((flow query tables).codes, it.0, found.0, found.1, it.2))
      tells

  pub same_rows : (stoods : List Stood) → AreStood tables [] building stoods → (fed_over tables stoods last).codes ≡ [] → IsSameOutcome (outcome query tables) (Rows (fed_over tables stoods last).rows)
  same_rows stoods are none =
      let alike = fed_same (last_of columns node) last same_last (built_of stoods) in
      subst (λ (f : Flow (List Val)). IsSameOutcome (outcome query tables) (Rows f.rows)) alike
      (rows_are query tables columns node planned (built_of stoods) (pipeline_fed tables (built_of stoods) (last_of columns node)).rows (spelled_built (builds_of columns node) building stoods same are) (ap (λ (f : Flow (List Val)). f.codes) alike ∙ none)
      (IsPermutation-refl (pipeline_fed tables (built_of stoods) (last_of columns node)).rows))

  -- ---- units
  module _ (units : ℕ) (bounded : (front back : List Pipeline) (more : List (List (List Val))) → all_spelled columns 0 (pipelines node) ≡ front ++ back → AreBuilt tables [] front more → costs tables [] (front ++ back) more ≤ units) where
    pub cost : (front : List Pipeline) (p : Pipeline) (back : List Pipeline) (stoods : List Stood) → building ≡ front ++ p ∷ back → AreStood tables [] front stoods → pipeline_cost tables (built_of stoods) p ≤ units
    cost front p back stoods parts are =
        let cut = parted IsSamePipeline (builds_of columns node) front p back (subst (AllZip IsSamePipeline (builds_of columns node)) parts same) in
        let built = spelled_built cut.before front stoods cut.same_before are in
        let whole : all_spelled columns 0 (pipelines node) ≡ cut.before ++ (cut.at ∷ (cut.after ++ last_of columns node ∷ [])) =
        in_order columns node ∙ (ap (λ (l : List Pipeline). l ++ last_of columns node ∷ []) cut.is ∙ append_assoc cut.before (cut.at ∷ cut.after) (last_of columns node ∷ [])) in
        let all = bounded cut.before (cut.at ∷ (cut.after ++ last_of columns node ∷ [])) (built_of stoods) whole built in
        let one = cost_within tables [] cut.before cut.at (cut.after ++ last_of columns node ∷ []) (built_of stoods) built in
        let alike = pipeline_cost_same (built_of stoods) tables cut.at p cut.same_at in
        omega (arith, all, one, alike)

    pub cost_last : (stoods : List Stood) → AreStood tables [] building stoods → pipeline_cost tables (built_of stoods) last ≤ units
    cost_last stoods are =
        let built = spelled_built (builds_of columns node) building stoods same are in
        let all = bounded (builds_of columns node) (last_of columns node ∷ []) (built_of stoods) (in_order columns node) built in
        let one = cost_within tables [] (builds_of columns node) (last_of columns node) [] (built_of stoods) built in
        let alike = pipeline_cost_same (built_of stoods) tables (last_of columns node) last same_last in
        omega (arith, all, one, alike)
