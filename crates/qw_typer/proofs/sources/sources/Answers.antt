use Rattle.std.proofs.Common.{rules, arith, ◌≡◌, ◌+◌, ◌-◌, [], ◌∷◌, ◌++◌, length, take, drop, ap, ◌∙◌}
use Rattle.std.proofs.lemmas.Result.{err_from_is_err_and}
use Rattle.std.proofs.lemmas.List.{take_rest}
use Rattle.qw_typer.proofs.SourceLemmas.{counts_kept, enough, sources_fit, sources_kept, sources_refused, still_left}
use Rattle.qw_typer.proofs.StepLemmas.{first_rest}
use Rattle.qw_typer.proofs.sources.sources.Goals as goal

pub returns-in_err-typed-clause-gives : goal.returns-in_err-typed-clause-gives
returns-in_err-typed-clause-gives c =
    let rest = c.loop-rest.rest.now in
    let others = c.loop-rest.others.now in
    let source = c.source-item.result in
    let first = first_rest rest source c.source-item.is c.in-len1-up.len_at_least in
    let count : c.len-count.result + 1 ≡ length source.joins.items + 1 = search rules in
    let own : take (c.len-count.result + 1) others ≡ take (length source.joins.items + 1) others = ap (λ k. take k others) count in
    let err = err_from_is_err_and c.from_residual.result c.from_residual.ensures.1 in
    rw (err.1, err.2)
    (sources_refused c.in_err-typed.field-0.0 others (take (c.len-count.result + 1) others) c.loop-rest.made.items rest (take (length rest - 1) (drop 1 rest)) source _ own first c.loop-rest.invariant.meant c.in_err-typed.ensures.gives)

pub offset_bounds-others-count : goal.offset_bounds-others-count
offset_bounds-others-count c =
    let rest = c.loop-rest.rest.now in
    let source = c.source-item.result in
    let first = first_rest rest source c.source-item.is c.in-len1-up.len_at_least in
    let count : c.len-count.result ≡ length source.joins.items = search rules in
    let within = enough c.loop-rest.others.now rest (take (length rest - 1) (drop 1 rest)) source first c.loop-rest.invariant.counts in
    let left = c.loop-rest.invariant.left in
    grind (arith, count, within, left)

pub loop-rest-preserved : goal.loop-rest-preserved
loop-rest-preserved c =
    let rest = c.loop-rest.rest.now in
    let rest' = take (length rest - 1) (drop 1 rest) in
    let others = c.loop-rest.others.now in
    let made = c.loop-rest.made.items in
    let source = c.source-item.result in
    let first = first_rest rest source c.source-item.is c.in-len1-up.len_at_least in
    let count : c.len-count.result + 1 ≡ length source.joins.items + 1 = search rules in
    let own : take (c.len-count.result + 1) others ≡ take (length source.joins.items + 1) others = ap (λ k. take k others) count in
    let behind : take (length others - (c.len-count.result + 1)) (drop (c.len-count.result + 1) others) ≡ drop (length source.joins.items + 1) others = take_rest others (c.len-count.result + 1) ∙ ap (λ k. drop k others) count in
    let more : c.push.new.self.items ≡ c.loop-rest.made.items ++ c.in_ok-typed.typed ∷ [] = search rules in
    record {
      meant = sources_kept others _ _ made c.push.new.self.items c.in_ok-typed.typed rest rest' source _ own behind first more c.in_ok-typed.ensures.gives c.loop-rest.invariant.meant;
      counts = counts_kept others _ rest rest' source behind first c.loop-rest.invariant.counts;
      left = still_left others _ (length source.joins.items + 1) (length c.args.entries.now) behind c.loop-rest.invariant.left;
      fits = sources_fit made c.push.new.self.items c.in_ok-typed.typed rest rest' source _ more first c.in_ok-typed.ensures.fits c.loop-rest.invariant.fits;
    }
