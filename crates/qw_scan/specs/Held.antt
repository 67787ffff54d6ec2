-- Modules by what they hold: contents that a valid module has, and contents of a module that isn't valid, with the first reason why not
-- (WebAssembly Core Specification 1.0, 3.4).
use Rattle.std.specs.Prelude.{◌≡◌}
use Rattle.qw_module.specs.declared.module.Module.{Module}
use Rattle.qw_module.specs.Validity.{IsValid}
use Rattle.qw_binary.specs.Contents.{Contents, contents_of}
use Rattle.qw_valid.specs.declared.valid.ValidFault.{ValidFault}
use Rattle.qw_valid.specs.ValidFaults.{IsFault}

-- a valid module holds these
pub record HeldByValid (c : Contents) : Type 0 where
  pub m : Module
  pub holds : contents_of m ≡ c
  pub valid : IsValid m

-- a module that has the fault holds these
pub record HeldByFaulty (c : Contents) (fault : ValidFault) : Type 0 where
  pub m : Module
  pub holds : contents_of m ≡ c
  pub faulty : IsFault fault m
