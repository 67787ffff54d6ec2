-- What the check of octets says of the module that they spell.
use Rattle.std.proofs.Common.{◌≡◌, Result, Ok, Err}
use Rattle.std.specs.Prelude.{IfErr, OnOk}
use Rattle.qw_module.specs.declared.module.Module.{Module}
use Rattle.qw_module.specs.Validity.{IsValid}
use Rattle.qw_binary.specs.Contents.{Contents, contents_of}
use Rattle.qw_valid.specs.declared.valid.ValidFault.{ValidFault}
use Rattle.qw_valid.specs.ValidFaults.{IsFault}
use Rattle.qw_scan.specs.Held.{HeldByValid, HeldByFaulty}

module _ {A : Type 0} (r : Result A ValidFault) (c : Contents) (m : Module) (holds : contents_of m ≡ c) where
  pub held_valid : OnOk r (IsValid m) → OnOk r (HeldByValid c)
  held_valid = by_result r
    where
      by_result : (r : Result A ValidFault) → OnOk r (IsValid m) → OnOk r (HeldByValid c)
      by_result (Ok value) valid = record { m = m; holds = holds; valid = valid }
      by_result (Err fault) valid = tt

  pub held_faulty : IfErr r (λ fault. IsFault fault m) → IfErr r (HeldByFaulty c)
  held_faulty = by_result r
    where
      by_result : (r : Result A ValidFault) → IfErr r (λ fault. IsFault fault m) → IfErr r (HeldByFaulty c)
      by_result (Ok value) faulty = tt
      by_result (Err fault) faulty = record { m = m; holds = holds; faulty = faulty }
