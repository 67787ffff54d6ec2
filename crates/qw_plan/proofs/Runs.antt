-- The pipelines of a plan, run one after another until one raises, come to the plan's flow.
use Rattle.std.proofs.Common.{arith, ◌≡◌, ◌∙◌, ℕ, zero, suc, ◌+◌, ◌≤◌, ◌<◌, List, [], ◌∷◌, ◌++◌, map, length, get_or, ◌⊎◌, inl, inr, Result, refl, sym, ap, ap₂, subst, append-nil, append_assoc, length-append}
use Rattle.std.specs.List.{AllByRecursion, Contains, flat_map}
use Rattle.std.specs.List.Sorted.{IsPermutation}
use Rattle.std.proofs.lemmas.List.{get_or_at, length-map}
use Rattle.std.proofs.lemmas.List.Elements.{Contains-append_left}
use Rattle.std.proofs.lemmas.List.Sorted.{Contains-permutation, length_permutation, IsPermutation-sym, IsPermutation-append_left, IsPermutation-refl}
use Rattle.qw_types.specs.declared.code.Code.{Code}
use Rattle.qw_types.specs.declared.value.Val.{Val}
use Rattle.qw_meaning.specs.Flow.{Flow, codes_given, each, kept, rows_given, selected}
use Rattle.qw_meaning.specs.From.{entry_flow}
use Rattle.qw_algebra.specs.Node.{Node, filter, join, node_flow, project, scan}
use Rattle.qw_pipe.specs.Pipes as joins
use Rattle.qw_pipe.specs.Pipes.{Step, make, probe, step_flow, steps_flow, test}
use Rattle.qw_pipe.proofs.Splitting as splitting
use Rattle.qw_plan.specs.Stages.{Stage, distinct, group, show, stage_flow}
use Rattle.qw_plan.specs.Plan.{Plan, plan_flow, rows, stage}
use Rattle.qw_plan.specs.Pipes.{AreAmong, ComesTo, Pipeline, Progress, Split, after, ended_by, of_specification, pipeline_flow, run_of, source_flow, split, stage_split, then_step, to_result, to_walk, walk, walked, with_table}

-- ---- flows that are alike: the same rows, and the same codes in some order
record IsLike (f g : Flow (List Val)) : Type 0 where
  rows : f.rows ≡ g.rows
  codes : IsPermutation f.codes g.codes

like_same : (f g : Flow (List Val)) → f ≡ g → IsLike f g
like_same f g h = subst (λ (x : Flow (List Val)). IsLike f x) h (record { rows = refl; codes = IsPermutation-refl f.codes })

like_each : (work : List Val → Result (List (List Val)) Code) (f g : Flow (List Val)) → IsLike f g → IsLike (each work f) (each work g)
like_each work f g a = record {
  rows = ap (λ rs. flat_map (λ row. rows_given (work row)) rs) a.rows;
  codes = subst (λ rs. IsPermutation (f.codes ++ flat_map (λ row. codes_given (work row)) f.rows) (g.codes ++ flat_map (λ row. codes_given (work row)) rs)) a.rows
      (IsPermutation-append_left (flat_map (λ row. codes_given (work row)) f.rows) f.codes g.codes a.codes);
}

flow_same : (f g : Flow (List Val)) → f.rows ≡ g.rows → f.codes ≡ g.codes → f ≡ g
flow_same f g h k = ap₂ (λ (rs : List (List Val)) (cs : List Code). let x : Flow (List Val) = record { rows = rs; codes = cs } in x) h k

none_perm : (xs : List Code) → IsPermutation xs [] → xs ≡ []
none_perm [] h = refl
none_perm (x ∷ xs) h = absurd (omega (arith, length_permutation (x ∷ xs) [] h))

-- the codes that were there before a stage are there behind it
stage_codes : (s : Stage) (f : Flow (List Val)) → AreAmong f.codes (stage_flow s f).codes
stage_codes (group columns functions) f code there = Contains-append_left f.codes _ code there
stage_codes (show having items) f code there = Contains-append_left (f.codes ++ _) _ code (Contains-append_left f.codes _ code there)
stage_codes distinct f code there = there

-- steps with one more behind them
pub steps_more : (built : List (List (List Val))) (steps : List Step) (s : Step) (f : Flow (List Val)) → steps_flow built (steps ++ s ∷ []) f ≡ step_flow built s (steps_flow built steps f)
steps_more built [] s f = refl
steps_more built (x ∷ steps) s f = steps_more built steps s (step_flow built x f)

module _ (tables : List (List (List Val))) where
  -- ---- one table after another
  after_append : (done : Progress) (xs ys : List Pipeline) → after tables done (xs ++ ys) ≡ after tables (after tables done xs) ys
  after_append done [] ys = refl
  after_append done (x ∷ xs) ys = after_append (with_table done.codes done.built (pipeline_flow tables done.built x)) xs ys

  abbrev fine : List (List (List Val)) → Progress
  fine built = record { built = built; codes = [] }

  abbrev raised : (code : Code) → List Code → List (List (List Val)) → Progress
  raised code codes built = record { built = built; codes = code ∷ codes }

  stays : (code : Code) (codes : List Code) (built : List (List (List Val))) (xs : List Pipeline) → after tables (raised code codes built) xs ≡ raised code codes built
  stays code codes built [] = refl
  stays code codes built (x ∷ xs) = stays code codes built xs

  -- the tables were filled and nothing was raised, and over them the last pipeline comes to what the plan comes to, whatever tables follow
  record Filled (built : List (List (List Val))) (s : Split) (flow : Flow (List Val)) : Type 0 where
    own : List (List (List Val))
    is : after tables (fine built) s.builds ≡ fine (built ++ own)
    count : length own ≡ length s.builds
    comes : (more : List (List (List Val))) → IsLike (pipeline_flow tables ((built ++ own) ++ more) s.last) flow

  -- or exceptions were raised, all of them the plan's
  record Stopped (built : List (List (List Val))) (builds : List Pipeline) (flow : Flow (List Val)) : Type 0 where
    code : Code
    codes : List Code
    at : List (List (List Val))
    is : after tables (fine built) builds ≡ raised code codes at
    among : AreAmong (code ∷ codes) flow.codes

  abbrev Comes : (built : List (List (List Val))) → Split → Flow (List Val) → Type 0
  Comes built s flow = Filled built s flow ⊎ Stopped built s.builds flow

  stopped_then : (built : List (List (List Val))) (xs ys : List Pipeline) (f g : Flow (List Val)) → AreAmong f.codes g.codes → Stopped built xs f → Stopped built (xs ++ ys) g
  stopped_then built xs ys f g more h = record {
    code = h.code;
    codes = h.codes;
    at = h.at;
    is = after_append (fine built) xs ys ∙ ap (λ p. after tables p ys) h.is ∙ stays h.code h.codes h.at ys;
    among = λ code there. more code (h.among code there);
  }

  -- ---- a step that works row by row, behind the last pipeline
  step_comes : (built : List (List (List Val))) (s : Step) (work : List Val → Result (List (List Val)) Code) (S : Split) (f : Flow (List Val))
      → ((b : List (List (List Val))) (g : Flow (List Val)) → step_flow b s g ≡ each work g)
      → Comes built S f → Comes built (record { builds = S.builds; last = then_step S.last s }) (each work f)
  step_comes built s work S f does (inl h) = inl (record {
    own = h.own;
    is = h.is;
    count = h.count;
    comes = λ more.
        let b = (built ++ h.own) ++ more in
        let P : Flow (List Val) = pipeline_flow tables b S.last in
        subst (λ (x : Flow (List Val)). IsLike x (each work f)) (sym (steps_more b S.last.steps s (source_flow tables b S.last.source) ∙ does b P)) (like_each work P f (h.comes more));
  })
  step_comes built s work S f does (inr h) = inr (record {
    code = h.code;
    codes = h.codes;
    at = h.at;
    is = h.is;
    among = λ code there. Contains-append_left f.codes (flat_map (λ row. codes_given (work row)) f.rows) code (h.among code there);
  })

  -- ---- a stage that needs all rows
  at_end : (front : List (List (List Val))) (rs : List (List Val)) (more : List (List (List Val))) (n : ℕ) → length front ≡ n → get_or ((front ++ rs ∷ []) ++ more) n [] ≡ rs
  at_end front rs more n long = ap (λ b. get_or b n []) (append_assoc front (rs ∷ []) more) ∙ get_or_at front rs more [] n long

  long_front : (built own : List (List (List Val))) (next count : ℕ) → length built ≡ next → length own ≡ count → length (built ++ own) ≡ next + count
  long_front built own next count e f = let b = length-append built own in omega (arith, b, e, f)

  walk_comes : (next : ℕ) (built : List (List (List Val))) (s : Stage) (S : Split) (f : Flow (List Val)) → length built ≡ next → Comes built S f → Comes built (walked s next S) (stage_flow s f)
  walk_comes next built s S f e (inr h) = inr (stopped_then built S.builds (record S.last { target = to_walk s } ∷ []) f (stage_flow s f) (stage_codes s f) h)
  walk_comes next built s S f e (inl h) = by_codes f.codes refl G.codes refl
    where
      front : List (List (List Val))
      front = built ++ h.own

      G : Flow (List Val)
      G = pipeline_flow tables front S.last

      now : IsLike G f
      now = subst (λ b. IsLike (pipeline_flow tables b S.last) f) (append-nil front) (h.comes [])

      filling : List Pipeline
      filling = record S.last { target = to_walk s } ∷ []

      is_after : after tables (fine built) (S.builds ++ filling) ≡ record { built = front ++ G.rows ∷ []; codes = G.codes }
      is_after = after_append (fine built) S.builds filling ∙ ap (λ p. after tables p filling) h.is

      stopped : (code : Code) (codes : List Code) → G.codes ≡ code ∷ codes → Comes built (walked s next S) (stage_flow s f)
      stopped code codes g = inr (record {
        code = code;
        codes = codes;
        at = front ++ G.rows ∷ [];
        is = is_after ∙ ap (λ cs. record { built = front ++ G.rows ∷ []; codes = cs }) g;
        among = λ x there. stage_codes s f x (Contains-permutation G.codes f.codes x now.codes (subst (λ cs. Contains cs x) (sym g) there));
      })

      by_codes : (cs : List Code) → f.codes ≡ cs → (ds : List Code) → G.codes ≡ ds → Comes built (walked s next S) (stage_flow s f)
      by_codes cs c (code ∷ codes) d = stopped code codes d
      by_codes (x ∷ cs) c [] d = absurd (omega (arith, length_permutation G.codes f.codes now.codes, ap length c, ap length d))
      by_codes [] c [] d = inl (record {
        own = h.own ++ f.rows ∷ [];
        is = is_after ∙ ap₂ (λ b cs. record { built = b; codes = cs }) (ap (λ rs. front ++ rs ∷ []) now.rows ∙ append_assoc built h.own (f.rows ∷ [])) d;
        count = (let a = length-append h.own (f.rows ∷ []) in let b = length-append S.builds filling in let x = h.count in omega (arith, a, b, x));
        comes = λ more.
            let all = (built ++ (h.own ++ f.rows ∷ [])) ++ more in
            let there : get_or all (next + length S.builds) [] ≡ f.rows =
            ap (λ b. get_or (b ++ more) (next + length S.builds) []) (sym (append_assoc built h.own (f.rows ∷ []))) ∙ at_end front f.rows more (next + length S.builds) (long_front built h.own next (length S.builds) e h.count) in
            like_same (pipeline_flow tables all (record { source = walk s (next + length S.builds); steps = []; target = to_result })) (stage_flow s f)
            (ap (stage_flow s) (flow_same (record { rows = get_or all (next + length S.builds) []; codes = [] }) f there (sym c)));
      })

  stage_comes : (next : ℕ) (built : List (List (List Val))) (s : Stage) (S : Split) (f : Flow (List Val)) → length built ≡ next → Comes built S f → Comes built (stage_split s next S) (stage_flow s f)
  stage_comes next built (group columns functions) S f e h = walk_comes next built (group columns functions) S f e h
  stage_comes next built (show having items) S f e h =
      step_comes built (make items) (selected items) (record { builds = S.builds; last = then_step S.last (test having) }) (each (kept having) f) (λ b g. refl)
      (step_comes built (test having) (kept having) S f (λ b g. refl) h)
  stage_comes next built distinct S f e h = walk_comes next built distinct S f e h

  -- ---- the pipelines of a query specification's plan

  -- without stopping, codes are added behind those that are there
  grows : (p : joins.Progress) (xs : List joins.Pipeline) → (tail : List Code) × ((joins.after_pipelines tables p xs).codes ≡ p.codes ++ tail)
  grows p [] = ([], sym (append-nil p.codes))
  grows p (x ∷ xs) =
      let rest = grows (joins.after_pipeline tables p x) xs in
      ((joins.pipeline_flow tables p.built x).codes ++ rest.0, rest.1 ∙ append_assoc p.codes (joins.pipeline_flow tables p.built x).codes rest.0)

  record Halted (built : List (List (List Val))) (xs : List joins.Pipeline) (done : joins.Progress) : Type 0 where
    code : Code
    codes : List Code
    at : List (List (List Val))
    is : after tables (fine built) (map of_specification xs) ≡ raised code codes at
    tail : List Code
    all : done.codes ≡ (code ∷ codes) ++ tail

  abbrev Went : (built : List (List (List Val))) → List joins.Pipeline → joins.Progress → Type 0
  Went built xs done = ((done.codes ≡ []) × (after tables (fine built) (map of_specification xs) ≡ fine done.built)) ⊎ Halted built xs done

  went : (built : List (List (List Val))) (xs : List joins.Pipeline) → Went built xs (joins.after_pipelines tables (record { built = built; codes = [] }) xs)
  went built [] = inl (refl, refl)
  went built (x ∷ xs) = by_codes F.codes refl (went (built ++ F.rows ∷ []) xs)
    where
      F : Flow (List Val)
      F = joins.pipeline_flow tables built x

      by_rest : F.codes ≡ [] → Went (built ++ F.rows ∷ []) xs (joins.after_pipelines tables (record { built = built ++ F.rows ∷ []; codes = [] }) xs) → Went built (x ∷ xs) (joins.after_pipelines tables (record { built = built; codes = [] }) (x ∷ xs))
      by_rest c (inl h) = inl (
        ap (λ cs. (joins.after_pipelines tables (record { built = built ++ F.rows ∷ []; codes = cs }) xs).codes) c ∙ h.0,
        ap (λ cs. after tables (record { built = built ++ F.rows ∷ []; codes = cs }) (map of_specification xs)) c ∙ h.1
            ∙ ap (λ cs. fine (joins.after_pipelines tables (record { built = built ++ F.rows ∷ []; codes = cs }) xs).built) (sym c),
      )
      by_rest c (inr h) = inr (record {
        code = h.code;
        codes = h.codes;
        at = h.at;
        is = ap (λ cs. after tables (record { built = built ++ F.rows ∷ []; codes = cs }) (map of_specification xs)) c ∙ h.is;
        tail = h.tail;
        all = ap (λ cs. (joins.after_pipelines tables (record { built = built ++ F.rows ∷ []; codes = cs }) xs).codes) c ∙ h.all;
      })

      by_codes : (cs : List Code) → F.codes ≡ cs → Went (built ++ F.rows ∷ []) xs (joins.after_pipelines tables (record { built = built ++ F.rows ∷ []; codes = [] }) xs) → Went built (x ∷ xs) (joins.after_pipelines tables (record { built = built; codes = [] }) (x ∷ xs))
      by_codes [] c rest = by_rest c rest
      by_codes (code ∷ codes) c rest =
          let more = grows (record { built = built ++ F.rows ∷ []; codes = F.codes }) xs in
          inr (record {
            code = code;
            codes = codes;
            at = built ++ F.rows ∷ [];
            is = ap (λ cs. after tables (record { built = built ++ F.rows ∷ []; codes = cs }) (map of_specification xs)) c ∙ stays code codes (built ++ F.rows ∷ []) (map of_specification xs);
            tail = more.0;
            all = more.1 ∙ ap (λ cs. cs ++ more.0) c;
          })

  -- the last pipeline looks up tables that were built, so that those that follow mean nothing to it
  abbrev Reads : ℕ → Step → Type 0
  Reads n (test conjuncts) = Unit {0}
  Reads n (probe table lookup) = table < n
  Reads n (make items) = Unit {0}

  reads_more : (m n : ℕ) → m ≤ n → (steps : List Step) → AllByRecursion (Reads m) steps → AllByRecursion (Reads n) steps
  reads_more m n h [] all = tt
  reads_more m n h (test conjuncts ∷ steps) all = (tt, reads_more m n h steps all.1)
  reads_more m n h (probe table lookup ∷ steps) all = ((let a = all.0 in omega (arith, a, h)), reads_more m n h steps all.1)
  reads_more m n h (make items ∷ steps) all = (tt, reads_more m n h steps all.1)

  reads_then : (n : ℕ) (steps : List Step) (s : Step) → AllByRecursion (Reads n) steps → Reads n s → AllByRecursion (Reads n) (steps ++ s ∷ [])
  reads_then n [] s all one = (one, tt)
  reads_then n (x ∷ steps) s all one = (all.0, reads_then n steps s all.1 one)

  reads_last : (node : Node) (next : ℕ) → AllByRecursion (Reads (next + length (joins.split next node).builds)) (joins.split next node).last.steps
  reads_last (scan entry table) next = tt
  reads_last (filter conjuncts below) next = reads_then (next + length (joins.split next below).builds) (joins.split next below).last.steps (test conjuncts) (reads_last below next) tt
  reads_last (project below items) next = reads_then (next + length (joins.split next below).builds) (joins.split next below).last.steps (make items) (reads_last below next) tt
  reads_last (join outer left right on keys) next =
      let B = (joins.split next right).builds in
      let mid : ℕ = next + length B in
      let L = joins.split (mid + 1) left in
      let lookup : joins.Lookup = splitting.lookup tables outer right on keys in
      let all : List joins.Pipeline = B ++ splitting.building tables outer next right on keys ∷ L.builds in
      let count : length all ≡ length B + (1 + length L.builds) = length-append B (splitting.building tables outer next right on keys ∷ L.builds) ∙ omega arith in
      reads_then (next + length all) L.last.steps (probe mid lookup)
      (reads_more (mid + 1 + length L.builds) (next + length all) (omega (arith, count)) L.last.steps (reads_last left (mid + 1))) (omega (arith, count))

  get_front : (built more : List (List (List Val))) (n : ℕ) → n < length built → get_or (built ++ more) n [] ≡ get_or built n []
  get_front [] more n h = absurd (omega (arith, h))
  get_front (b ∷ built) more zero h = refl
  get_front (b ∷ built) more (suc n) h = get_front built more n (omega (arith, h))

  steps_front : (built more : List (List (List Val))) (steps : List Step) (f : Flow (List Val)) → AllByRecursion (Reads (length built)) steps → steps_flow (built ++ more) steps f ≡ steps_flow built steps f
  steps_front built more [] f all = refl
  steps_front built more (test conjuncts ∷ steps) f all = steps_front built more steps (step_flow built (test conjuncts) f) all.1
  steps_front built more (make items ∷ steps) f all = steps_front built more steps (step_flow built (make items) f) all.1
  steps_front built more (probe table lookup ∷ steps) f all =
      steps_front built more steps (step_flow (built ++ more) (probe table lookup) f) all.1
      ∙ ap (λ (rs : List (List Val)). steps_flow built steps (step_flow (rs ∷ []) (probe 0 lookup) f)) (get_front built more table all.0)

  node_comes : (node : Node) (next : ℕ) (built : List (List (List Val))) → length built ≡ next → Comes built (split next (rows node)) (node_flow tables node)
  node_comes node next built e = by_went (went built (joins.split next node).builds)
    where
      h : splitting.Splits tables next node (record { built = built; codes = [] })
      h = splitting.splits tables node next (record { built = built; codes = [] }) e

      last : joins.Pipeline
      last = (joins.split next node).last

      L : Flow (List Val)
      L = joins.pipeline_flow tables h.done.built last

      F : Flow (List Val)
      F = node_flow tables node

      long : length h.done.built ≡ next + length (joins.split next node).builds
      long = (let a = ap length h.built in let b = length-append built h.own in let c = h.count in omega (arith, a, b, c, e))

      by_went : Went built (joins.split next node).builds (joins.after_pipelines tables (record { built = built; codes = [] }) (joins.split next node).builds) → Comes built (split next (rows node)) F
      by_went (inl g) =
          let none : h.done.codes ≡ [] = ap (λ (p : joins.Progress). p.codes) (sym h.is) ∙ g.0 in
          inl (record {
            own = h.own;
            is = g.1 ∙ ap (λ (p : joins.Progress). fine p.built) h.is ∙ ap fine h.built;
            count = h.count ∙ sym (length-map (joins.split next node).builds of_specification);
            comes = λ more.
                let now : pipeline_flow tables ((built ++ h.own) ++ more) (of_specification last) ≡ L =
                ap (λ b. joins.pipeline_flow tables (b ++ more) last) (sym h.built)
                ∙ steps_front h.done.built more last.steps (entry_flow tables last.entry last.table) (subst (λ n. AllByRecursion (Reads n) last.steps) (sym long) (reads_last node next)) in
                subst (λ (x : Flow (List Val)). IsLike x F) (sym now)
                (record { rows = h.rows; codes = IsPermutation-sym F.codes L.codes (subst (λ cs. IsPermutation F.codes (cs ++ L.codes)) none h.codes) });
          })
      by_went (inr g) = inr (record {
        code = g.code;
        codes = g.codes;
        at = g.at;
        is = g.is;
        among = λ code there.
            let all : h.done.codes ≡ (g.code ∷ g.codes) ++ g.tail = ap (λ (p : joins.Progress). p.codes) (sym h.is) ∙ g.all in
            Contains-permutation (h.done.codes ++ L.codes) F.codes code (IsPermutation-sym F.codes (h.done.codes ++ L.codes) h.codes)
            (Contains-append_left h.done.codes L.codes code (subst (λ cs. Contains cs code) (sym all) (Contains-append_left (g.code ∷ g.codes) g.tail code there)));
      })

  -- ---- any plan
  plan_comes : (p : Plan) (next : ℕ) (built : List (List (List Val))) → length built ≡ next → Comes built (split next p) (plan_flow tables p)
  plan_comes (rows node) next built e = node_comes node next built e
  plan_comes (stage s below) next built e = stage_comes next built s (split next below) (plan_flow tables below) e (plan_comes below next built e)

  pub run_comes : (p : Plan) → ComesTo (run_of tables p) (plan_flow tables p)
  run_comes p = by_case (plan_comes p 0 [] refl)
    where
      S : Split
      S = split 0 p

      by_codes : (g f : Flow (List Val)) → IsLike g f → (cs : List Code) → g.codes ≡ cs → ComesTo g f
      by_codes g f h [] c = inl (c, (none_perm f.codes (IsPermutation-sym [] f.codes (subst (λ xs. IsPermutation xs f.codes) c h.codes)), h.rows))
      by_codes g f h (x ∷ cs) c = inr ((let a = ap length c in omega (arith, a)), λ code there. Contains-permutation g.codes f.codes code h.codes there)

      by_case : Comes [] S (plan_flow tables p) → ComesTo (run_of tables p) (plan_flow tables p)
      by_case (inl h) =
          let G = pipeline_flow tables h.own S.last in
          subst (λ (x : Flow (List Val)). ComesTo x (plan_flow tables p)) (sym (ap (λ (q : Progress). ended_by q.codes (pipeline_flow tables q.built S.last)) h.is))
          (by_codes G (plan_flow tables p) (subst (λ b. IsLike (pipeline_flow tables b S.last) (plan_flow tables p)) (append-nil h.own) (h.comes [])) G.codes refl)
      by_case (inr h) =
          subst (λ (x : Flow (List Val)). ComesTo x (plan_flow tables p)) (sym (ap (λ (q : Progress). ended_by q.codes (pipeline_flow tables q.built S.last)) h.is))
          (inr (omega arith, h.among))
