-- All open runs from memories that stand for one state keep step: what is seen of each is a function of the state and of the number of steps.
use Rattle.std.proofs.Common.{◌≡◌, ℕ, zero, suc, ◌==◌, ◌||◌, if◌then◌else◌, List, [], Option, Some, None, refl, ap, ◌∙◌}
use Rattle.qw_module.specs.Execution.{Store, Config, State, Running, Returned, Raised, Trapped}
use Rattle.qw_map.specs.Areas.{World}
use Rattle.qw_map.specs.Inner.Steps.{OnRunning}
use Rattle.qw_map.specs.Runs.{Moment, OpenRun}
use Rattle.qw_map.specs.Seen.{Seen, seen, ended_at}
use Rattle.qw_map.specs.Turns.{End, Done, Exception, Trap, end_of_raise, end_of_refusal}
use Rattle.qw_low.specs.Syntax.{Statement}
use Rattle.qw_low.specs.State.{LowState}
use Rattle.qw_low.specs.Meaning.{Outcome, Completed, Exited, Stopped, Wrong, Unfinished, meaning}
use Rattle.qw_low.specs.Inner.Exact.{Rest, end_of_run, asks, Path, Takes}
use Rattle.qw_low.specs.Places.{AreMeant, StandsFor, IsOutcome, HasHosts, IsDone, beginning}
use Rattle.qw_low.proofs.OpenOutcomes.{along, held_after, outcome-over, path, path_after, refused_after, takes_path}

-- what of a world tells how a run ended
abbrev world_of : LowState → World
world_of t = record { mapped = []; own = []; held = t.held; limit = t.limit; refused = t.refused }

refusal-same : (refused : Option ℕ) (v w : World) → v.held ≡ w.held → v.limit ≡ w.limit → end_of_refusal refused v ≡ end_of_refusal refused w
refusal-same None v w held limit = refl
refusal-same (Some asked) v w held limit = rw (held, limit) refl

raise-same : (code : ℕ) (v w : World) → v.held ≡ w.held → v.limit ≡ w.limit → v.refused ≡ w.refused → end_of_raise code v ≡ end_of_raise code w
raise-same code v w held limit refused =
    ap (λ (e : Option End). if (code == 1) || (code == 2) then Some (Exception code) else (if code == 3 then e else Some Trap))
    (ap (λ (r : Option ℕ). end_of_refusal r v) refused ∙ refusal-same w.refused v w held limit)

-- the end of an outcome, and of a path's end
abbrev end_of : Outcome → Option End
end_of (Completed n t) = Some Done
end_of (Exited n t) = Some Done
end_of (Stopped code n t) = end_of_raise code (world_of t)
end_of Wrong = None
end_of Unfinished = None

abbrev end_on : (quiet : ℕ) → Rest → Outcome → Option End
end_on zero end_of_run out = end_of out
end_on zero (asks asked granted n r) out = None
end_on (suc n) r out = None

end-is : (out : Outcome) (b : Moment) → IsOutcome out b → ended_at b.state b.world ≡ end_of out
end-is (Completed n t) b h = ap (λ (s : State). ended_at s b.world) h.0
end-is (Exited n t) b h = ap (λ (s : State). ended_at s b.world) h.0
end-is (Stopped code n t) b h =
    let fits = h.1.fits in
    ap (λ (s : State). ended_at s b.world) h.0 ∙ raise-same code b.world (world_of t) fits.held fits.limit fits.refused
end-is Wrong b h = absurd h
end-is Unfinished b h = absurd h

none-yet : (s : State) (P : Config → Type 0) (w : World) → OnRunning s P → ended_at s w ≡ None
none-yet (Running c) P w h = refl
none-yet Returned P w h = absurd h
none-yet (Raised code) P w h = absurd h
none-yet (Trapped why) P w h = absurd h

end-on : (pages : ℕ) (out : Outcome) (quiet : ℕ) (r : Rest) (b : Moment) → Takes pages (IsOutcome out) (record { quiet = quiet; rest = r }) b → ended_at b.state b.world ≡ end_on quiet r out
end-on pages out zero end_of_run b h = end-is out b h
end-on pages out zero (asks asked granted n r) b h = none-yet b.state _ b.world h
end-on pages out (suc n) r b h = none-yet b.state _ b.world h

module _ (pages fuel : ℕ) (a : Statement) (s : LowState) (store : Store) (imported : HasHosts store) where
  -- the course of the state's run
  unfoldable pub course : ℕ → Seen
  course k =
      let p : Path = path pages fuel a s store imported in
      let now : Path = path_after k p in
      record { held = held_after k p s.held; refused = refused_after k p s.refused; end = end_on now.quiet now.rest (meaning pages fuel a s) }

  pub keeps_step : IsDone (meaning pages fuel a s) → (w : World) (memory xs : List ℕ) → StandsFor w s memory → AreMeant w s.locals xs → (k : ℕ) (b : Moment) →
      OpenRun k (beginning store w a xs memory) b → seen b ≡ course k
  unfolding course
  keeps_step comes w memory xs stands are k b run =
      let out : Outcome = meaning pages fuel a s in
      let p : Path = path pages fuel a s store imported in
      let now : Path = path_after k p in
      let on = (along pages (IsOutcome out) (outcome-over out) p k (beginning store w a xs memory) b run (takes_path pages fuel a s store imported w memory xs stands are comes)).0 in
      let held : b.world.held ≡ held_after k p s.held = on.held_is ∙ ap (λ (n : ℕ). held_after k p n) stands.fits.held in
      let refused : b.world.refused ≡ refused_after k p s.refused = on.refused_is ∙ ap (λ (r : Option ℕ). refused_after k p r) stands.fits.refused in
      let end : ended_at b.state b.world ≡ end_on now.quiet now.rest out = end-on pages out now.quiet now.rest b on.takes in
      made (b.world.held) (held_after k p s.held) (b.world.refused) (refused_after k p s.refused) (ended_at b.state b.world) (end_on now.quiet now.rest out) held refused end
    where
      made : (h h' : ℕ) (r r' : Option ℕ) (e e' : Option End) → h ≡ h' → r ≡ r' → e ≡ e' →
          (let x : Seen = record { held = h; refused = r; end = e } in x) ≡ (let y : Seen = record { held = h'; refused = r'; end = e' } in y)
      made h h' r r' e e' one two three = rw (one, two, three) refl
