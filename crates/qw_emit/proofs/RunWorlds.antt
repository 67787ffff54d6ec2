-- What of its world an instance keeps in an open run: the mapped columns and its first page.
use Rattle.std.proofs.Common.{◌≡◌, ℕ, List, [], ◌∷◌, ◌++◌, true, false, Some, None, slice_get, refl, ◌∙◌}
use Rattle.qw_module.specs.Execution.{Event, Silent, Loads, Stores, Grows, AsksHost, Raises, Traps}
use Rattle.qw_map.specs.Areas.{Area, World, granted_area, world_after}
use Rattle.qw_map.specs.Runs.{Moment, OpenRun, begins, goes_on}

pub record Keeps (v w : World) : Type 0 where
  pub mapped : w.mapped ≡ v.mapped
  pub first : (a : Area) → slice_get v.own 0 ≡ Some a → slice_get w.own 0 ≡ Some a

first-stays : (own more : List Area) (a : Area) → slice_get own 0 ≡ Some a → slice_get (own ++ more) 0 ≡ Some a
first-stays [] more a is = cc
first-stays (x ∷ own) more a is = is

step-keeps : (w : World) (memory : List ℕ) (event : Event) → Keeps w (world_after w memory event)
step-keeps w memory Silent = record { mapped = refl; first = λ a is. is }
step-keeps w memory (Loads address width) = record { mapped = refl; first = λ a is. is }
step-keeps w memory (Stores address width) = record { mapped = refl; first = λ a is. is }
step-keeps w memory (Grows pages true) = record { mapped = refl; first = first-stays w.own (granted_area _ pages) }
step-keeps w memory (Grows pages false) = record { mapped = refl; first = λ a is. is }
step-keeps w memory (AsksHost pages (Some first)) = record { mapped = refl; first = first-stays w.own (granted_area _ pages) }
step-keeps w memory (AsksHost pages None) = record { mapped = refl; first = λ a is. is }
step-keeps w memory (Raises code) = record { mapped = refl; first = λ a is. is }
step-keeps w memory (Traps why) = record { mapped = refl; first = λ a is. is }

pub run-keeps : (k : ℕ) (a b : Moment) → OpenRun k a b → Keeps a.world b.world
run-keeps _ _ _ (begins a) = record { mapped = refl; first = λ area is. is }
run-keeps _ _ _ (goes_on k a b c before event state after run step) =
    let before_it : Keeps a.world b.world = run-keeps k a b run in
    let then_it : Keeps b.world (world_after b.world before event) = step-keeps b.world before event in
    record { mapped = then_it.mapped ∙ before_it.mapped; first = λ area is. then_it.first area (before_it.first area is) }
