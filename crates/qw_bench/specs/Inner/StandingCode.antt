-- A code of what a bench stands for: what tells the values of the model of `Bench` apart.
use Rattle.std.specs.Prelude.{ℕ, List, refl}
use Rattle.std.specs.Coded.{Coded, code_by, coded×, coded_ℕ, coded_list}
use Rattle.qw_module.specs.declared.module.Module.{Module}
use Rattle.qw_module.specs.contracts.module.Module as program
use Rattle.qw_map.proofs.SharedCode.{shared_code}
use Rattle.qw_map.specs.Layout.{Layout}
use Rattle.qw_map.specs.Turns.{Shared}
use Rattle.qw_map.specs.contracts.layout.Layout as layout
use Rattle.qw_map.specs.contracts.layout.Placed as placed
use Rattle.qw_map.specs.declared.layout.Placed.{Placed}
use Rattle.qw_bench.specs.Bench.{Task}
use Rattle.qw_bench.specs.Standing.{Standing}

abbrev task_code : Coded Task
task_code =
    code_by ((Layout × Module) × (List Placed × (ℕ × (ℕ × ℕ))))
    (coded× (coded× layout.the_row.coded program.the_row.coded) (coded× (coded_list placed.the_row.coded) (coded× coded_ℕ (coded× coded_ℕ coded_ℕ))))
    (λ t. ((t.program.layout, t.program.module'), (t.placed, (t.descriptor, (t.pages, t.steps)))))
    (λ p. record { program = record { layout = p.0.0; module' = p.0.1 }; placed = p.1.0; descriptor = p.1.1.0; pages = p.1.1.1.0; steps = p.1.1.1.1 })
    (λ _. refl)

abbrev pub standing_code : Coded Standing
standing_code =
    code_by (Shared × (List Task × ℕ)) (coded× shared_code (coded× (coded_list task_code) coded_ℕ))
    (λ b. (b.shared, (b.tasks, b.reserved)))
    (λ p. record { shared = p.0; tasks = p.1.0; reserved = p.1.1 })
    (λ _. refl)
