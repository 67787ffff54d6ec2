use Rattle.std.proofs.Common.{◌≡◌, ◌<◌, ◌^◌, length, rules}
use Rattle.qw_module.specs.declared.module.Module.{Module}
use Rattle.qw_binary.specs.Contents.{contents_of}
use Rattle.qw_scan.specs.Inner.Outlines.{contents_in}
use Rattle.qw_scan.proofs.ScanLemmas.{held_valid, held_faulty}
use Rattle.qw_scan.proofs.SmallModules.{small_module}
use Rattle.qw_scan.proofs.SomeModule.{some_module}
use Rattle.qw_scan.proofs.scan.validate_octets.Goals as goal
use Rattle.qw_scan.proofs.scan.validate_octets.Goals.{After-validate_outline}

-- a module that the octets spell
spelled : (c : After-validate_outline) → (m : Module) × (contents_of m ≡ contents_in c.args.octets.now c.args.outline)
spelled c =
    let held = contents_in c.args.octets.now c.args.outline in
    let small : length c.args.octets.now < 2 ^ 63 = search rules in
    some_module c.args.alloc held (small_module c.args.octets.now held small c.requires.spelled)

pub returns-clause-valid : goal.returns-clause-valid
returns-clause-valid c =
    let m = spelled (goal.at.returns-clause-valid c).After-validate_outline in
    held_valid c.validate_outline.result _ m.0 m.1 (c.validate_outline.ensures.valid m.0 m.1)

pub returns-clause-fault : goal.returns-clause-fault
returns-clause-fault c =
    let m = spelled (goal.at.returns-clause-fault c).After-validate_outline in
    held_faulty c.validate_outline.result _ m.0 m.1 (c.validate_outline.ensures.fault m.0 m.1)
