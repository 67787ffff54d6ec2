use Rattle.std.proofs.Common.{◌≡◌, true, List, Option, Some, Err, map, reverse, ap, sym, subst, ◌∙◌}
use Rattle.std.proofs.lemmas.Result.{err_from_is_err_and}
use Rattle.qw_module.specs.declared.instruction.ValType.{ValType}
use Rattle.qw_module.specs.Typing.{types_of}
use Rattle.qw_valid.specs.Inner.Checking.{Known, taken_in, scope_at, all_take}
use Rattle.qw_valid.specs.Refusals.{Decides}
use Rattle.qw_scan.specs.Inner.Tables.{typing_of}
use Rattle.qw_scan.specs.Inner.Walking.{rounds, around_in}
use Rattle.qw_scan.proofs.TableSteps.{table_known, table_refused}
use Rattle.qw_scan.proofs.body.Walk.table.Goals as goal

pub returns-in_err-all_take-clause-typed : goal.returns-in_err-all_take-clause-typed
returns-in_err-all_take-clause-typed c = λ labels mid e.
    let w = c.args.self.now in
    let p = err_from_is_err_and c.from_residual-in_err-all_take.result c.from_residual-in_err-all_take.ensures.1 in
    let tested = subst (λ (kinds : List (Option ValType)). Decides {A = Unit {0}} (Err c.in_err-all_take.field-0.0) (all_take (map taken_in (rounds kinds (reverse w.frames.items))) (types_of c.in_ok-taken.taken) labels))
    c.in_ok-pop.ensures.below (c.in_err-all_take.ensures labels mid e) in
    rw (p.1, p.2) (table_refused (scope_at (typing_of w.scope) (around_in w)) labels c.args.default (types_of c.in_ok-taken.taken) w.stack.known c.pop.new.self.known c.in_ok-taken.ensures c.in_ok-pop.ensures.typed
    _ c.in_err-all_take.field-0.0 tested)

pub returns-clause-typed : goal.returns-clause-typed
returns-clause-typed c = λ labels mid e.
    let w = c.args.self.now in
    let tested = subst (λ (kinds : List (Option ValType)). all_take (map taken_in (rounds kinds (reverse w.frames.items))) (types_of c.in_ok-taken.taken) labels ≡ true)
    c.in_ok-pop.ensures.below (c.in_ok-all_take.ensures labels mid e) in
    table_known (scope_at (typing_of w.scope) (around_in w)) labels c.args.default (types_of c.in_ok-taken.taken) w.stack.known c.pop.new.self.known c.in_ok-taken.ensures c.in_ok-pop.ensures.typed
    c.pop_all.new.self.known tested c.in_ok-pop_all.ensures.typed
    ∙ ap (λ (k : Known). Some k) (sym c.forget.ensures.typed)
