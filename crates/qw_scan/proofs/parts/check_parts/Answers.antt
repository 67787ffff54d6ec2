use Rattle.std.proofs.Common.{sym, ◌∙◌}
use Rattle.std.proofs.lemmas.Result.{err_from_is_err_and}
use Rattle.qw_valid.specs.declared.valid.Part.TheVariants as part
use Rattle.qw_scan.proofs.PartLemmas.{none_before, one_more_holds, fault_here, last_valid, last_fault}
use Rattle.qw_scan.proofs.parts.check_parts.Goals as goal

pub returns-in_err-decide-clause-fault : goal.returns-in_err-decide-clause-fault
returns-in_err-decide-clause-fault c = λ m same.
    let before_0 = none_before m in
    let p = err_from_is_err_and c.from_residual.result c.from_residual.ensures.1 in
    rw (p.1, p.2) (fault_here m part.Types c.are_types.result c.in_err-decide.field-0.0 (c.are_types.ensures m same) (sym c.decide.ensures ∙ c.in_err-decide.was) before_0)

pub returns-in_err-decide-2-clause-fault : goal.returns-in_err-decide-2-clause-fault
returns-in_err-decide-2-clause-fault c = λ m same.
    let before_0 = none_before m in
    let before_1 = one_more_holds m part.Types c.are_types.result c.in_ok-decide.field-0 (c.are_types.ensures m same) (sym c.decide.ensures ∙ c.in_ok-decide.was) before_0 in
    let p = err_from_is_err_and c.from_residual-in_err-decide-2.result c.from_residual-in_err-decide-2.ensures.1 in
    rw (p.1, p.2) (fault_here m part.Imports c.are_imports.result c.in_err-decide-2.field-0.0 (c.are_imports.ensures m same) (sym c.decide-2.ensures ∙ c.in_err-decide-2.was) before_1)

pub returns-in_err-decide-3-clause-fault : goal.returns-in_err-decide-3-clause-fault
returns-in_err-decide-3-clause-fault c = λ m same.
    let before_0 = none_before m in
    let before_1 = one_more_holds m part.Types c.are_types.result c.in_ok-decide.field-0 (c.are_types.ensures m same) (sym c.decide.ensures ∙ c.in_ok-decide.was) before_0 in
    let before_2 = one_more_holds m part.Imports c.are_imports.result c.in_ok-decide-2.field-0 (c.are_imports.ensures m same) (sym c.decide-2.ensures ∙ c.in_ok-decide-2.was) before_1 in
    let p = err_from_is_err_and c.from_residual-in_err-decide-3.result c.from_residual-in_err-decide-3.ensures.1 in
    rw (p.1, p.2) (fault_here m part.Functions c.are_functions.result c.in_err-decide-3.field-0.0 (c.are_functions.ensures m same) (sym c.decide-3.ensures ∙ c.in_err-decide-3.was) before_2)

pub returns-in_err-decide-4-clause-fault : goal.returns-in_err-decide-4-clause-fault
returns-in_err-decide-4-clause-fault c = λ m same.
    let before_0 = none_before m in
    let before_1 = one_more_holds m part.Types c.are_types.result c.in_ok-decide.field-0 (c.are_types.ensures m same) (sym c.decide.ensures ∙ c.in_ok-decide.was) before_0 in
    let before_2 = one_more_holds m part.Imports c.are_imports.result c.in_ok-decide-2.field-0 (c.are_imports.ensures m same) (sym c.decide-2.ensures ∙ c.in_ok-decide-2.was) before_1 in
    let before_3 = one_more_holds m part.Functions c.are_functions.result c.in_ok-decide-3.field-0 (c.are_functions.ensures m same) (sym c.decide-3.ensures ∙ c.in_ok-decide-3.was) before_2 in
    let p = err_from_is_err_and c.from_residual-in_err-decide-4.result c.from_residual-in_err-decide-4.ensures.1 in
    rw (p.1, p.2) (fault_here m part.Memory c.are_memories.result c.in_err-decide-4.field-0.0 (c.are_memories.ensures m same) (sym c.decide-4.ensures ∙ c.in_err-decide-4.was) before_3)

pub returns-in_err-decide-5-clause-fault : goal.returns-in_err-decide-5-clause-fault
returns-in_err-decide-5-clause-fault c = λ m same.
    let before_0 = none_before m in
    let before_1 = one_more_holds m part.Types c.are_types.result c.in_ok-decide.field-0 (c.are_types.ensures m same) (sym c.decide.ensures ∙ c.in_ok-decide.was) before_0 in
    let before_2 = one_more_holds m part.Imports c.are_imports.result c.in_ok-decide-2.field-0 (c.are_imports.ensures m same) (sym c.decide-2.ensures ∙ c.in_ok-decide-2.was) before_1 in
    let before_3 = one_more_holds m part.Functions c.are_functions.result c.in_ok-decide-3.field-0 (c.are_functions.ensures m same) (sym c.decide-3.ensures ∙ c.in_ok-decide-3.was) before_2 in
    let before_4 = one_more_holds m part.Memory c.are_memories.result c.in_ok-decide-4.field-0 (c.are_memories.ensures m same) (sym c.decide-4.ensures ∙ c.in_ok-decide-4.was) before_3 in
    let p = err_from_is_err_and c.from_residual-in_err-decide-5.result c.from_residual-in_err-decide-5.ensures.1 in
    rw (p.1, p.2) (fault_here m part.Globals c.are_globals.result c.in_err-decide-5.field-0.0 (c.are_globals.ensures m same) (sym c.decide-5.ensures ∙ c.in_err-decide-5.was) before_4)

pub returns-clause-valid : goal.returns-clause-valid
returns-clause-valid c = λ m same.
    let before_0 = none_before m in
    let before_1 = one_more_holds m part.Types c.are_types.result c.in_ok-decide.field-0 (c.are_types.ensures m same) (sym c.decide.ensures ∙ c.in_ok-decide.was) before_0 in
    let before_2 = one_more_holds m part.Imports c.are_imports.result c.in_ok-decide-2.field-0 (c.are_imports.ensures m same) (sym c.decide-2.ensures ∙ c.in_ok-decide-2.was) before_1 in
    let before_3 = one_more_holds m part.Functions c.are_functions.result c.in_ok-decide-3.field-0 (c.are_functions.ensures m same) (sym c.decide-3.ensures ∙ c.in_ok-decide-3.was) before_2 in
    let before_4 = one_more_holds m part.Memory c.are_memories.result c.in_ok-decide-4.field-0 (c.are_memories.ensures m same) (sym c.decide-4.ensures ∙ c.in_ok-decide-4.was) before_3 in
    let before_5 = one_more_holds m part.Globals c.are_globals.result c.in_ok-decide-5.field-0 (c.are_globals.ensures m same) (sym c.decide-5.ensures ∙ c.in_ok-decide-5.was) before_4 in
    last_valid m c.are_exports.result c.decide-6.result (c.are_exports.ensures m same) c.decide-6.ensures before_5

pub returns-clause-fault : goal.returns-clause-fault
returns-clause-fault c = λ m same.
    let before_0 = none_before m in
    let before_1 = one_more_holds m part.Types c.are_types.result c.in_ok-decide.field-0 (c.are_types.ensures m same) (sym c.decide.ensures ∙ c.in_ok-decide.was) before_0 in
    let before_2 = one_more_holds m part.Imports c.are_imports.result c.in_ok-decide-2.field-0 (c.are_imports.ensures m same) (sym c.decide-2.ensures ∙ c.in_ok-decide-2.was) before_1 in
    let before_3 = one_more_holds m part.Functions c.are_functions.result c.in_ok-decide-3.field-0 (c.are_functions.ensures m same) (sym c.decide-3.ensures ∙ c.in_ok-decide-3.was) before_2 in
    let before_4 = one_more_holds m part.Memory c.are_memories.result c.in_ok-decide-4.field-0 (c.are_memories.ensures m same) (sym c.decide-4.ensures ∙ c.in_ok-decide-4.was) before_3 in
    let before_5 = one_more_holds m part.Globals c.are_globals.result c.in_ok-decide-5.field-0 (c.are_globals.ensures m same) (sym c.decide-5.ensures ∙ c.in_ok-decide-5.was) before_4 in
    last_fault m c.are_exports.result c.decide-6.result (c.are_exports.ensures m same) c.decide-6.ensures before_5
