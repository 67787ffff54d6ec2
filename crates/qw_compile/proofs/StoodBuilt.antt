-- Tables that stand are those that pipelines build; and pipelines that mean the same build the same.
use Rattle.std.proofs.Common.{◌≡◌, ◌≤◌, List, [], ◌∷◌, ◌++◌, refl, sym, ap, ◌∙◌, subst, append_assoc, append-nil, arith}
use Rattle.std.specs.List.{AllZip}
use Rattle.std.specs.List.Sorted.{IsPermutation}
use Rattle.qw_types.specs.declared.value.Val.{Val}
use Rattle.qw_meaning.specs.Flow.{Flow}
use Rattle.qw_physical.specs.Courses.{AreBuilt, costs, pipeline_cost, pipeline_fed}
use Rattle.qw_physical.specs.Physical.{Pipeline}
use Rattle.qw_operator.proofs.Stood.{Stood, all_entries, built_of}
use Rattle.qw_compile.proofs.PipelineRuns.{AreStood}

built_end : (before : List Stood) (st : Stood) → built_of (before ++ st ∷ []) ≡ built_of before ++ all_entries st.chains ∷ []
built_end [] st = refl
built_end (one ∷ before) st = ap (λ (l : List (List (List Val))). all_entries one.chains ∷ l) (built_end before st)

pub stood_built : (tables : List (List (List Val))) (before : List Stood) (ps : List Pipeline) (stoods : List Stood) → AreStood tables before ps stoods → AreBuilt tables (built_of before) ps (built_of stoods)
stood_built tables before [] [] are = tt
stood_built tables before [] (st ∷ stoods) are = absurd are
stood_built tables before (p ∷ ps) [] are = absurd are
stood_built tables before (p ∷ ps) (st ∷ stoods) are =
    (are.0.none, are.0.same, subst (λ (b : List (List (List Val))). AreBuilt tables b ps (built_of stoods)) (built_end before st) (stood_built tables (before ++ st ∷ []) ps stoods are.1))

-- the units of a pipeline are among those of all that run, up to it
pub cost_within : (tables built : List (List (List Val))) (front : List Pipeline) (p : Pipeline) (back : List Pipeline) (more : List (List (List Val))) → AreBuilt tables built front more →
    pipeline_cost tables (built ++ more) p ≤ costs tables built (front ++ p ∷ back) more
cost_within tables built [] p back [] are = let same = ap (λ (b : List (List (List Val))). pipeline_cost tables b p) (append-nil built) in omega (arith, same)
cost_within tables built [] p back (entries ∷ more) are = absurd are
cost_within tables built (q ∷ front) p back [] are = absurd are
cost_within tables built (q ∷ front) p back (entries ∷ more) are =
    let rest = cost_within tables (built ++ entries ∷ []) front p back more are.2 in
    let same = ap (λ (b : List (List (List Val))). pipeline_cost tables b p) (append_assoc built (entries ∷ []) more) in
    omega (arith, rest, same)

-- what is built by pipelines of which each feeds what another does
pub built_alike : (Same : Pipeline → Pipeline → Type 0) (tables : List (List (List Val))) → ((p q : Pipeline) → Same p q → (built : List (List (List Val))) → pipeline_fed tables built p ≡ pipeline_fed tables built q) →
    (built : List (List (List Val))) (ps qs : List Pipeline) (more : List (List (List Val))) → AllZip Same ps qs → AreBuilt tables built qs more → AreBuilt tables built ps more
built_alike Same tables fed built [] [] more same are = are
built_alike Same tables fed built [] (q ∷ qs) more same are = absurd same
built_alike Same tables fed built (p ∷ ps) [] more same are = absurd same
built_alike Same tables fed built (p ∷ ps) (q ∷ qs) [] same are = absurd are
built_alike Same tables fed built (p ∷ ps) (q ∷ qs) (entries ∷ more) same are =
    let is = sym (fed p q same.0 built) in (
      ap (λ (f : Flow (List Val)). f.codes) (sym is) ∙ are.0,
      subst (λ (f : Flow (List Val)). IsPermutation f.rows entries) is are.1,
      built_alike Same tables fed (built ++ entries ∷ []) ps qs more same.1 are.2,
    )
