use Rattle.std.proofs.Common.{rules, ◌≡◌, ◌-◌, [], ◌∷◌, ◌++◌, length, take, drop}
use Rattle.qw_typer.specs.Inner.Typing.{in_reach}
use Rattle.qw_typer.proofs.FitLemmas.{items_fit}
use Rattle.qw_typer.proofs.StepLemmas.{first_rest, items_kept}
use Rattle.qw_typer.proofs.statement.items_of.Goals as goal

pub loop-rest-preserved : goal.loop-rest-preserved
loop-rest-preserved c =
    let rest = c.loop-rest.rest.now in
    let others = take (length rest - 1) (drop 1 rest) in
    let made = c.loop-rest.made.items in
    let more : c.push.new.self.items ≡ c.loop-rest.made.items ++ c.in_ok-x.x ∷ [] = search rules in
    let first : c.loop-rest.rest.now ≡ c.item-item.result ∷ take (length c.loop-rest.rest.now - 1) (drop 1 c.loop-rest.rest.now) = first_rest c.loop-rest.rest.now c.item-item.result c.item-item.is c.in-len1-up.len_at_least in
    record {
      meant = items_kept (in_reach c.args.scope.now) made c.push.new.self.items c.in_ok-x.x rest others c.item-item.result _ c.in_ok-x.ensures.gives more first c.loop-rest.invariant.meant;
      fits = items_fit made c.push.new.self.items c.in_ok-x.x rest others c.item-item.result _ _ more first c.in_ok-x.ensures.fits c.loop-rest.invariant.fits;
    }
