-- What a check says of octets, by what it says of the module that was read.
use Rattle.std.proofs.Common.{◌≡◌, List, ℕ, Result, Ok, Err, sym, subst}
use Rattle.std.specs.Prelude.{IfErr, OnOk}
use Rattle.qw_module.specs.declared.module.Module.{Module}
use Rattle.qw_binary.specs.Contents.{Contents, contents_of}
use Rattle.qw_binary.specs.Modules.{SpellsModule}
use Rattle.qw_scan.specs.Held.{HeldByValid}
use Rattle.qw_check.specs.Check.{HasFault, SpellsValid}
use Rattle.qw_check.specs.Inner.Faults.{IsModuleFault}
use Rattle.qw_check.specs.declared.check.CheckFault.{CheckFault}
use Rattle.qw_check.specs.declared.check.CheckFault.TheVariants as check

module _ (c : Contents) (text : List ℕ) (spelled : SpellsModule c text) where
  -- a module that holds what they spell
  spells : (m : Module) → contents_of m ≡ c → SpellsModule (contents_of m) text
  spells m holds = subst (λ (d : Contents). SpellsModule d text) (sym holds) spelled

  pub valid_text : {A : Type 0} (r : Result A CheckFault) → OnOk r (HeldByValid c) → OnOk r (SpellsValid text)
  valid_text (Ok a) held = record { m = held.m; spelled = spells held.m held.holds; valid = held.valid }
  valid_text (Err fault) held = tt

  has_fault : (fault : CheckFault) → IsModuleFault c fault → HasFault text fault
  has_fault (check.Part p) held = record { m = held.m; spelled = spells held.m held.holds; faulty = held.faulty }
  has_fault (check.Body func at) held = record { m = held.m; spelled = spells held.m held.holds; faulty = held.faulty }
  has_fault check.NoMemory held = tt
  has_fault _ held = absurd held

  pub faulty_text : {A : Type 0} (r : Result A CheckFault) → IfErr r (λ fault. IsModuleFault c fault) → IfErr r (λ fault. HasFault text fault)
  faulty_text (Ok a) held = tt
  faulty_text (Err fault) held = has_fault fault held
