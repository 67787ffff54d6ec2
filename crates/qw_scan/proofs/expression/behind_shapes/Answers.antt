use Rattle.std.proofs.Common.{◌≡◌, ◌-◌, ◌+◌, suc, [], Bool, length, subst, arith}
use Rattle.std.proofs.lemmas.Result.{err_from_is_err_and}
use Rattle.qw_octet_grammar.specs.Reading.{read, chain}
use Rattle.qw_octet_grammar.proofs.Loops.{begin_items, chain_more, chain_breaks, chain_short, chain_out, chain_done}
use Rattle.qw_scan.specs.Inner.Shapes.{shape, shapes, turns_in, after_code}
use Rattle.qw_scan.proofs.expression.behind_shapes.Goals as goal

pub loop-init : goal.loop-init
loop-init c = rw c.new-shape.ensures (begin_items [] shape c.args.octets.now)

pub returns-in-empty : goal.returns-in-empty
returns-in-empty c =
    chain_short (λ s b. read (shape s b)) (suc (length c.args.octets.now) - c.loop.counter) (turns_in c.loop.shape) c.loop.rest.now (read shapes c.args.octets.now)
    (omega (arith, c.in-empty.len_below)) c.loop.invariant

pub returns : goal.returns
returns c =
    chain_out (λ s b. read (shape s b)) (suc (length c.args.octets.now)) c.loop.counter (turns_in c.loop.shape) c.loop.rest.now (read shapes c.args.octets.now)
    (omega (arith, c.loop-test.false)) c.loop.invariant

pub returns-in_err-last-in-len1-up : goal.returns-in_err-last-in-len1-up
returns-in_err-last-in-len1-up c =
    let p = err_from_is_err_and c.from_residual.result c.from_residual.ensures.1 in
    rw (p.1, p.2) (chain_breaks (λ s b. read (shape s b)) c.in_err-last-in-len1-up.field-0.0 (suc (length c.args.octets.now)) c.loop.counter (turns_in c.loop.shape) c.loop.rest.now (read shapes c.args.octets.now)
    (omega (arith, c.loop-test.true)) c.in-len1-up.len_at_least c.in_err-last-in-len1-up.ensures c.loop.invariant)

pub returns-then-last : goal.returns-then-last
returns-then-last c =
    let h = chain_more (λ s b. read (shape s b)) (suc (length c.args.octets.now)) c.loop.counter (turns_in c.loop.shape) c.loop.rest.now (after_code c.in_ok-last-in-len1-up.last (turns_in c.step.new.self)) c.in_ok-last-in-len1-up.after.now (read shapes c.args.octets.now)
    (omega (arith, c.loop-test.true)) c.in-len1-up.len_at_least c.in_ok-last-in-len1-up.ensures c.loop.invariant in
    let last = subst (λ (b : Bool). chain (λ s b. read (shape s b)) (suc (length c.args.octets.now) - (c.loop.counter + 1)) (after_code b (turns_in c.step.new.self)) c.in_ok-last-in-len1-up.after.now ≡ read shapes c.args.octets.now) c.if-last.true h in
    chain_done (λ s b. read (shape s b)) (suc (length c.args.octets.now) - (c.loop.counter + 1)) tt c.in_ok-last-in-len1-up.after.now (read shapes c.args.octets.now) last

pub loop-preserved : goal.loop-preserved
loop-preserved c =
    let h = chain_more (λ s b. read (shape s b)) (suc (length c.args.octets.now)) c.loop.counter (turns_in c.loop.shape) c.loop.rest.now (after_code c.in_ok-last-in-len1-up.last (turns_in c.step.new.self)) c.in_ok-last-in-len1-up.after.now (read shapes c.args.octets.now)
    (omega (arith, c.loop-test.true)) c.in-len1-up.len_at_least c.in_ok-last-in-len1-up.ensures c.loop.invariant in
    subst (λ (b : Bool). chain (λ s b. read (shape s b)) (suc (length c.args.octets.now) - (c.loop.counter + 1)) (after_code b (turns_in c.step.new.self)) c.in_ok-last-in-len1-up.after.now ≡ read shapes c.args.octets.now) c.if-last.false h
