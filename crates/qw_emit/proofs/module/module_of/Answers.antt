use Rattle.std.proofs.Common.{List, ◌∙◌, subst}
use Rattle.qw_module.specs.declared.instruction.ValType.{ValType}
use Rattle.qw_module.specs.Validity.{sequences_of}
use Rattle.qw_emit.specs.Inner.Around.{IsAround}
use Rattle.qw_emit.proofs.FormLemmas.{asks_around, grows_around, nests_around}
use Rattle.qw_emit.proofs.ModuleRuns.{all_size, called_size, runs_of}
use Rattle.qw_emit.proofs.ModuleSpelled.{spelled_around}
use Rattle.qw_emit.proofs.ModuleValid.{runnable_code}
use Rattle.qw_emit.proofs.module.module_of.Goals as goal

pub returns-clause-runnable : goal.returns-clause-runnable
returns-clause-runnable c = λ s code typed.
    runnable_code c.args.locals.now (sequences_of c.in_ok-body.body) s (c.in_ok-body.ensures.code s (c.deref.ensures.value ∙ code)) (c.in_ok-body.ensures.numbered s (c.deref.ensures.value ∙ code)) c.in_ok-body.ensures.calls typed c.in_ok-module.module
    (subst (λ (types : List ValType). IsAround types (sequences_of c.in_ok-body.body) c.in_ok-module.module) c.in_ok-declared.ensures.types c.in_ok-module.ensures.around)

pub returns-clause-short : goal.returns-clause-short
returns-clause-short c = λ s code.
    all_size c.args.locals.now (sequences_of c.in_ok-body.body) s (c.in_ok-body.ensures.code s (c.deref.ensures.value ∙ code)) c.in_ok-module.module
    (subst (λ (types : List ValType). IsAround types (sequences_of c.in_ok-body.body) c.in_ok-module.module) c.in_ok-declared.ensures.types c.in_ok-module.ensures.around)

pub returns-clause-light : goal.returns-clause-light
returns-clause-light c = λ s code.
    called_size c.args.locals.now (sequences_of c.in_ok-body.body) s (c.in_ok-body.ensures.code s (c.deref.ensures.value ∙ code)) c.in_ok-module.module
    (subst (λ (types : List ValType). IsAround types (sequences_of c.in_ok-body.body) c.in_ok-module.module) c.in_ok-declared.ensures.types c.in_ok-module.ensures.around)

pub returns-clause-runs : goal.returns-clause-runs
returns-clause-runs c = λ s code.
    runs_of c.args.locals.now (sequences_of c.in_ok-body.body) s (c.in_ok-body.ensures.code s (c.deref.ensures.value ∙ code)) c.in_ok-module.module
    (subst (λ (types : List ValType). IsAround types (sequences_of c.in_ok-body.body) c.in_ok-module.module) c.in_ok-declared.ensures.types c.in_ok-module.ensures.around)

pub returns-clause-nests : goal.returns-clause-nests
returns-clause-nests c = λ s code typed.
    nests_around c.args.locals.now (sequences_of c.in_ok-body.body) s (c.in_ok-body.ensures.code s (c.deref.ensures.value ∙ code)) c.in_ok-module.module
    (subst (λ (types : List ValType). IsAround types (sequences_of c.in_ok-body.body) c.in_ok-module.module) c.in_ok-declared.ensures.types c.in_ok-module.ensures.around)
    (returns-clause-runnable c s code typed)

pub returns-clause-no_size : goal.returns-clause-no_size
returns-clause-no_size c = λ s code.
    asks_around c.args.locals.now (sequences_of c.in_ok-body.body) s (c.in_ok-body.ensures.code s (c.deref.ensures.value ∙ code)) c.in_ok-module.module
    (subst (λ (types : List ValType). IsAround types (sequences_of c.in_ok-body.body) c.in_ok-module.module) c.in_ok-declared.ensures.types c.in_ok-module.ensures.around)

pub returns-clause-no_growth : goal.returns-clause-no_growth
returns-clause-no_growth c = λ s code.
    grows_around c.args.locals.now (sequences_of c.in_ok-body.body) s (c.in_ok-body.ensures.code s (c.deref.ensures.value ∙ code)) c.in_ok-module.module
    (subst (λ (types : List ValType). IsAround types (sequences_of c.in_ok-body.body) c.in_ok-module.module) c.in_ok-declared.ensures.types c.in_ok-module.ensures.around)

pub returns-clause-spelled : goal.returns-clause-spelled
returns-clause-spelled c = λ s code typed small few.
    spelled_around c.args.locals.now c.in_ok-declared.declared c.in_ok-body.body s (c.in_ok-body.ensures.code s (c.deref.ensures.value ∙ code)) c.in_ok-module.module c.in_ok-declared.ensures.types c.in_ok-declared.ensures.some
    c.in_ok-module.ensures.around c.in_ok-module.ensures.run (c.in_ok-body.ensures.order s (c.deref.ensures.value ∙ code)) c.in_ok-body.ensures.labels (c.in_ok-body.ensures.offsets s (c.deref.ensures.value ∙ code))
    (returns-clause-runnable c s code typed) small few
