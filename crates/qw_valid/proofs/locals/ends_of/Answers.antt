use Rattle.std.proofs.Common.{◌≡◌, ℕ, suc, ◌+◌, ◌++◌, [], ◌∷◌, ◌-◌, ◌<◌, ◌^◌, min, List, get_or, refl, sym, ap, subst, ◌∙◌, rules, arith}
use Rattle.qw_valid.specs.Inner.Runs.{locals_before}
use Rattle.qw_valid.proofs.LocalsLemmas.{end_more, ends_more}
use Rattle.qw_valid.proofs.locals.ends_of.Goals as goal

pub loop-run-preserved : goal.loop-run-preserved
loop-run-preserved c =
    let runs = c.args.runs.now in
    let n = c.loop-run.run-index in
    let next = c.saturating_add-end.result in
    let ends = c.loop-run.ends.items in
    let items : c.push.new.self.items ≡ ends ++ (next ∷ []) = search rules in
    let is : next ≡ min (locals_before runs (suc n)) (2 ^ 64 - 1) =
    end_more runs n c.loop-run.end next _ _ c.loop-run-test.true c.loop-run.invariant.last refl c.saturating_add-end.ensures in
    let step : suc n ≡ n + 1 = omega arith in
    record {
      count = grind (arith, items, c.loop-run.invariant.count);
      each = subst (λ (xs : List ℕ). (k d : ℕ) → k < n + 1 → get_or xs k d ≡ min (locals_before runs (suc k)) (2 ^ 64 - 1)) (sym items) (ends_more runs ends n next c.loop-run.invariant.count is c.loop-run.invariant.each);
      last = is ∙ ap (λ (k : ℕ). min (locals_before runs k) (2 ^ 64 - 1)) step;
    }
