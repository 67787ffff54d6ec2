-- A code of called modules for the model of `Instance`, which tells its values apart.
use Rattle.std.specs.Prelude.{ℕ, Option, refl}
use Rattle.std.specs.Coded.{Coded, code_by, coded×, coded_ℕ, coded_option}
use Rattle.qw_module.specs.declared.module.Module.{Module}
use Rattle.qw_module.specs.contracts.module.Module as module_row
use Rattle.qw_module.specs.Execution.{State}
use Rattle.qw_module.proofs.StateCode.{state_code}
use Rattle.qw_machine.specs.Instance.{Called}

abbrev pub called_code : Coded Called
called_code =
    code_by (Module × (State × Option ℕ)) (coded× module_row.the_row.coded (coded× state_code (coded_option coded_ℕ)))
    (λ c. (c.program, (c.state, c.asked)))
    (λ p. record { program = p.0; state = p.1.0; asked = p.1.1 })
    (λ _. refl)
