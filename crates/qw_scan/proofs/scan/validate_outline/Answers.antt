use Rattle.qw_valid.proofs.Faults.{valid_if_functions}
use Rattle.qw_scan.proofs.scan.validate_outline.Goals as goal

pub check_parts-requires : goal.check_parts-requires
check_parts-requires c = record { outlined = c.requires.outline; tabled = c.in-Some.ensures c.requires.outline; spelled = c.requires.spelled; complete = c.requires.complete }

pub returns-clause-valid : goal.returns-clause-valid
returns-clause-valid c = λ m holds.
    let parts = c.in_ok-check_parts.ensures.valid m holds in
    valid_if_functions c.check_bodies.result m parts (c.check_bodies.ensures.valid m holds parts)

pub returns-clause-fault : goal.returns-clause-fault
returns-clause-fault c = λ m holds. c.check_bodies.ensures.fault m holds (c.in_ok-check_parts.ensures.valid m holds)
