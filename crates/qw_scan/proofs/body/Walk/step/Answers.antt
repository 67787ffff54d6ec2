use Rattle.std.proofs.Common.{ℕ, List, Bor, refl, rules}
use Rattle.std.proofs.lemmas.Result.{err_from_is_err_and}
use Rattle.qw_scan.specs.Inner.Tables.{typing_of}
use Rattle.qw_scan.specs.Inner.Walking.{around_in, walked_of}
use Rattle.qw_scan.proofs.Here.{end_ok, end_refused, else_ok, else_refused, block_steps, loop_steps, if_steps, table_code, simple_steps}
use Rattle.qw_scan.proofs.body.Walk.step.Goals as goal

pub returns-in_err-close-in-11-clause-stepped : goal.returns-in_err-close-in-11-clause-stepped
returns-in_err-close-in-11-clause-stepped c =
    let w = c.args.self.now in
    let p = err_from_is_err_and c.from_residual.result c.from_residual.ensures.1 in
    rw (p.1, p.2) (end_refused (typing_of w.scope) w.stack.known (around_in w) (λ (rest : Bor (List ℕ)). (walked_of c.close.new.self, rest.now)) c.args.octets.now c.args.code _ c.in_err-close-in-11.field-0.0 c.in-11.is c.in_err-close-in-11.ensures.closed)

pub returns-in_err-otherwise-in-5-clause-stepped : goal.returns-in_err-otherwise-in-5-clause-stepped
returns-in_err-otherwise-in-5-clause-stepped c =
    let w = c.args.self.now in
    let p = err_from_is_err_and c.from_residual-in_err-otherwise-in-5.result c.from_residual-in_err-otherwise-in-5.ensures.1 in
    rw (p.1, p.2) (else_refused (typing_of w.scope) w.stack.known (around_in w) (λ (rest : Bor (List ℕ)). (walked_of c.otherwise.new.self, rest.now)) c.args.octets.now c.args.code _ c.in_err-otherwise-in-5.field-0.0 c.in-5.is c.in_err-otherwise-in-5.ensures.turned)

pub returns-in_ok-close-in-11-clause-stepped : goal.returns-in_ok-close-in-11-clause-stepped
returns-in_ok-close-in-11-clause-stepped c =
    let w = c.args.self.now in
    end_ok (typing_of w.scope) w.stack.known (around_in w) (λ (rest : Bor (List ℕ)). (walked_of c.close.new.self, rest.now)) c.args.octets.now c.args.code c.args.octets (walked_of c.close.new.self) c.in-11.is
    c.in_ok-close-in-11.ensures.closed refl

pub returns-in_ok-otherwise-in-5-clause-stepped : goal.returns-in_ok-otherwise-in-5-clause-stepped
returns-in_ok-otherwise-in-5-clause-stepped c =
    let w = c.args.self.now in
    else_ok (typing_of w.scope) w.stack.known (around_in w) (λ (rest : Bor (List ℕ)). (walked_of c.otherwise.new.self, rest.now)) c.args.octets.now c.args.code c.args.octets (walked_of c.otherwise.new.self) c.in-5.is
    c.in_ok-otherwise-in-5.ensures.turned refl

pub returns-in-2-clause-stepped : goal.returns-in-2-clause-stepped
returns-in-2-clause-stepped c =
    let w = c.args.self.now in
    block_steps (typing_of w.scope) w.stack.known (around_in w) (λ (rest : Bor (List ℕ)). (walked_of c.open.new.self, rest.now)) c.args.octets.now c.args.code c.open.result c.in-2.is c.open.ensures.opened

pub returns-in-3-clause-stepped : goal.returns-in-3-clause-stepped
returns-in-3-clause-stepped c =
    let w = c.args.self.now in
    loop_steps (typing_of w.scope) w.stack.known (around_in w) (λ (rest : Bor (List ℕ)). (walked_of c.open-in-3.new.self, rest.now)) c.args.octets.now c.args.code c.open-in-3.result c.in-3.is c.open-in-3.ensures.opened

pub returns-in-4-clause-stepped : goal.returns-in-4-clause-stepped
returns-in-4-clause-stepped c =
    let w = c.args.self.now in
    if_steps (typing_of w.scope) w.stack.known (around_in w) (λ (rest : Bor (List ℕ)). (walked_of c.open_if.new.self, rest.now)) c.args.octets.now c.args.code c.open_if.result c.in-4.is c.open_if.ensures.opened

pub returns-in-14-clause-stepped : goal.returns-in-14-clause-stepped
returns-in-14-clause-stepped c =
    let w = c.args.self.now in
    table_code (typing_of w.scope) w.stack.known (around_in w) (λ (rest : Bor (List ℕ)). (walked_of c.table_at.new.self, rest.now)) c.args.octets.now c.args.code c.table_at.result c.in-14.is c.table_at.ensures.typed

pub returns-in_default-clause-stepped : goal.returns-in_default-clause-stepped
returns-in_default-clause-stepped c =
    let w = c.args.self.now in
    simple_steps (typing_of w.scope) w.stack.known (around_in w) (λ (rest : Bor (List ℕ)). (walked_of c.simple.new.self, rest.now)) c.args.octets.now c.args.code c.simple.result
    (search rules) (search rules) (search rules) (search rules) (search rules) (search rules) c.simple.ensures.typed
