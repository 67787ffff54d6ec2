-- A code of instances that share a memory: what tells the values of a model apart where one of them holds such instances.
use Rattle.std.specs.Prelude.{◌≡◌, ℕ, Bool, List, ◌⊎◌, Option, Some, None, refl}
use Rattle.std.specs.Coded.{Coded, code_by, coded×, coded⊎, coded_ℕ, coded_bool, coded_list, coded_option}
use Rattle.std.proofs.Common.{inl, inr}
use Rattle.qw_module.proofs.StateCode.{state_code}
use Rattle.qw_module.specs.Execution.{State}
use Rattle.qw_map.specs.Areas.{Area, World}
use Rattle.qw_map.specs.Turns.{Done, Exception, Pages, Steps, Trap, End, Instance, Shared}

abbrev areas_code : Coded (List Area)
areas_code =
    coded_list (code_by (ℕ × ℕ) (coded× coded_ℕ coded_ℕ) (λ a. (a.start, a.size)) (λ p. record { start = p.0; size = p.1 }) (λ _. refl))

abbrev world_code : Coded World
world_code =
    code_by (List Area × (List Area × (ℕ × (ℕ × Option ℕ))))
    (coded× areas_code (coded× areas_code (coded× coded_ℕ (coded× coded_ℕ (coded_option coded_ℕ)))))
    (λ w. (w.mapped, (w.own, (w.held, (w.limit, w.refused)))))
    (λ p. record { mapped = p.0; own = p.1.0; held = p.1.1.0; limit = p.1.1.1.0; refused = p.1.1.1.1 })
    (λ _. refl)

-- an end as whether it has a number: nothing, the number of an exception or of a limit, or three numbers
abbrev parts_of : End → Option (Option ℕ) ⊎ (ℕ ⊎ (ℕ × (ℕ × ℕ)))
parts_of Done = inl None
parts_of Trap = inl (Some None)
parts_of (Exception code) = inl (Some (Some code))
parts_of (Steps limit) = inr (inl limit)
parts_of (Pages held asked limit) = inr (inr (held, (asked, limit)))

abbrev end_from : Option (Option ℕ) ⊎ (ℕ ⊎ (ℕ × (ℕ × ℕ))) → End
end_from (inl None) = Done
end_from (inl (Some None)) = Trap
end_from (inl (Some (Some code))) = Exception code
end_from (inr (inl limit)) = Steps limit
end_from (inr (inr (held, (asked, limit)))) = Pages held asked limit

pub end-restored : (end : End) → end_from (parts_of end) ≡ end
end-restored Done = refl
end-restored Trap = refl
end-restored (Exception code) = refl
end-restored (Steps limit) = refl
end-restored (Pages held asked limit) = refl

abbrev end_code : Coded End
end_code =
    code_by (Option (Option ℕ) ⊎ (ℕ ⊎ (ℕ × (ℕ × ℕ))))
    (coded⊎ (coded_option (coded_option coded_ℕ)) (coded⊎ coded_ℕ (coded× coded_ℕ (coded× coded_ℕ coded_ℕ))))
    parts_of end_from end-restored

abbrev instance_code : Coded Instance
instance_code =
    code_by (State × (World × (ℕ × (ℕ × (Option End × Bool)))))
    (coded× state_code (coded× world_code (coded× coded_ℕ (coded× coded_ℕ (coded× (coded_option end_code) coded_bool)))))
    (λ i. (i.state, (i.world, (i.most_steps, (i.ran, (i.end, i.released))))))
    (λ p. record { state = p.0; world = p.1.0; most_steps = p.1.1.0; ran = p.1.1.1.0; end = p.1.1.1.1.0; released = p.1.1.1.1.1 })
    (λ _. refl)

abbrev pub shared_code : Coded Shared
shared_code =
    code_by (List ℕ × (List Bool × List Instance)) (coded× (coded_list coded_ℕ) (coded× (coded_list coded_bool) (coded_list instance_code)))
    (λ s. (s.common.memory, (s.common.free, s.instances)))
    (λ p. record { common = record { memory = p.0; free = p.1.0 }; instances = p.1.1 })
    (λ _. refl)
