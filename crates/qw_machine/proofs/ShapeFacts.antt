-- The exports of a module, one after another.
use Rattle.std.proofs.Common.{◌≡◌, ℕ, ◌+◌, ◌<◌, List, length, get_or, All, Any, Option, Some, None, IfSome, IfNone, MatchOption, subst, ⊎_elim, arith}
use Rattle.std.proofs.lemmas.Bool.{cases_lt}
use Rattle.std.proofs.lemmas.List.{get_or_read}
use Rattle.qw_module.specs.declared.module.Export.{Export}
use Rattle.qw_module.specs.declared.module.Module.{Module}
use Rattle.qw_module.specs.Validity.{IsShaped}
use Rattle.qw_machine.specs.Inner.Shape.{ImportsMemory, ImportsRaise, ExportsNoRun, ExportsRun}

pub no_run-more : (m : Module) (exports : List Export) (index : ℕ) (export : Export) → ((k : ℕ) (d : Export) → k < index → ExportsNoRun m (get_or exports k d)) →
    index < length exports → export ≡ get_or exports index export → ExportsNoRun m export → (k : ℕ) (d : Export) → k < index + 1 → ExportsNoRun m (get_or exports k d)
no_run-more m exports index export before inside read none k d below = ⊎_elim
    (λ less. before k d less)
    (λ at. let same : k ≡ index = omega arith in
    rw same (subst (ExportsNoRun m) (get_or_read exports index export inside read d) none))
    (cases_lt k index)

-- the shape, by its parts
pub shape-found : (m : Module) (found : Option ℕ) → ImportsMemory m.imports.items → ImportsRaise m → IfNone found (All (ExportsNoRun m) m.exports.items) →
    IfSome found (λ number. Any (λ (export : Export). ExportsRun m export number) m.exports.items) →
    MatchOption found ((number : ℕ) → IsShaped m number → ⊥) (IsShaped m)
shape-found m None memory raise none some = λ number shaped.
    let export : Export = shaped.exported.0 in
    let at = shaped.exported.1 in
    none at.0 export at.1 number (rw (at.2) (record { named = shaped.exported.2; exported = shaped.exported.3; takes = shaped.run }))
shape-found m (Some number) memory raise none (k, export, inside, same, run) = record {
  memory = memory;
  raise = raise.there;
  linked = raise.each;
  run = run.takes;
  exported = (export, (k, inside, same), run.named, run.exported);
}
