use Rattle.std.proofs.Common.{◌≡◌, ◌≤◌, take}
use Rattle.std.specs.List.{AllByRecursion}
use Rattle.qw_module.specs.declared.module.Locals.{Locals}
use Rattle.qw_module.specs.Validity.{declared_types}
use Rattle.qw_emit.proofs.module.declared.Given as goal

abbrev pub invariant-loop-ty : goal.invariant-loop-ty
invariant-loop-ty l = record {
  types : declared_types l.locals.items ≡ take l.ty-index l.types;
  some : AllByRecursion (λ (run : Locals). 1 ≤ run.count) l.locals.items;
}
