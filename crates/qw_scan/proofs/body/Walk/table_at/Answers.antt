use Rattle.std.proofs.Common.{ℕ, List, Bor, ap, sym}
use Rattle.std.proofs.lemmas.Result.{err_from_is_err_and}
use Rattle.qw_module.specs.Syntax.{done}
use Rattle.qw_valid.specs.Inner.Checking.{Around, walked}
use Rattle.qw_scan.specs.Inner.Tables.{typing_of}
use Rattle.qw_scan.specs.Inner.Walking.{around_in, walked_of}
use Rattle.qw_scan.proofs.TableSteps.{labels_behind, around_kept, table_steps, table_stuck}
use Rattle.qw_scan.proofs.body.Walk.table_at.Goals as goal

pub returns-in_err-table-clause-typed : goal.returns-in_err-table-clause-typed
returns-in_err-table-clause-typed c =
    let w = c.args.self.now in
    let l = labels_behind c.args.octets.now c.in-Ok.behind.now c.in-Ok.ensures in
    let p = err_from_is_err_and c.from_residual.result c.from_residual.ensures.1 in
    rw (p.1, p.2) (table_stuck (typing_of w.scope) w.stack.known (around_in w) c.args.octets.now l.0 c.in-Ok.behind.now c.in-Ok-u32_at.rest.now c.in-Ok-u32_at.default l.1 c.in-Ok-u32_at.ensures
    (λ (left : Bor (List ℕ)). (walked_of c.table.new.self, left.now)) _ c.in_err-table.field-0.0 (c.in_err-table.ensures.typed l.0 c.in-Ok.behind.now l.1))

pub returns-clause-typed : goal.returns-clause-typed
returns-clause-typed c =
    let w = c.args.self.now in
    let l = labels_behind c.args.octets.now c.in-Ok.behind.now c.in-Ok.ensures in
    let kept = around_kept w c.table.new.self c.in_ok-table.ensures.stack c.in_ok-table.ensures.below in
    table_steps (typing_of w.scope) w.stack.known (around_in w) c.args.octets.now l.0 c.in-Ok.behind.now c.in-Ok-u32_at.rest.now c.in-Ok-u32_at.default l.1 c.in-Ok-u32_at.ensures
    (λ (left : Bor (List ℕ)). (walked_of c.table.new.self, left.now)) c.in-Ok-u32_at.rest c.table.new.self.stack.known (c.in_ok-table.ensures.typed l.0 c.in-Ok.behind.now l.1) (ap (λ (around : List Around). (walked c.table.new.self.stack.known around done, c.in-Ok-u32_at.rest.now)) (sym kept))
