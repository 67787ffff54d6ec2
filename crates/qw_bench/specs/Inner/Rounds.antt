-- How far rounds of turns have come: mirrors the measure of `Bench::run_all`.
use Rattle.std.specs.Prelude.{ℕ, ◌+◌, ◌-◌, List, [], ◌∷◌}
use Rattle.qw_map.specs.Turns.{Instance}

-- how many instructions instances may still run before their limits
abbrev pub steps_left : List Instance → ℕ
steps_left [] = 0
steps_left (i ∷ instances) = (i.most_steps - i.ran) + steps_left instances
