use Rattle.std.proofs.Common.{◌≡◌, ◌-◌, ◌+◌, suc, Bool, length, subst, arith}
use Rattle.std.proofs.lemmas.Result.{err_from_is_err_and}
use Rattle.qw_octet_grammar.specs.Reading.{read, chain}
use Rattle.qw_octet_grammar.proofs.Loops.{begin_items, chain_more, chain_breaks, chain_done}
use Rattle.qw_binary.specs.Instructions.{at_first, instruction, expression}
use Rattle.qw_binary.specs.Inner.Reader.{progress_of, sequences_in, after_instruction}
use Rattle.qw_binary.proofs.read.expression.expression_at.Goals as goal

pub loop-init : goal.loop-init
loop-init c = rw c.new-reader.ensures (begin_items at_first instruction c.args.octets.now)

pub returns-in_err-last-in-len1-up : goal.returns-in_err-last-in-len1-up
returns-in_err-last-in-len1-up c =
    let p = err_from_is_err_and c.from_residual.result c.from_residual.ensures.1 in
    rw (p.1, p.2) (chain_breaks (λ s b. read (instruction s b)) c.in_err-last-in-len1-up.field-0.0 (suc (length c.args.octets.now)) c.loop.counter (progress_of c.loop.reader) c.loop.rest.now (read expression c.args.octets.now)
    (omega (arith, c.loop-test.true)) c.in-len1-up.len_at_least c.in_err-last-in-len1-up.ensures c.loop.invariant)

pub returns-then-last : goal.returns-then-last
returns-then-last c =
    let h = chain_more (λ s b. read (instruction s b)) (suc (length c.args.octets.now)) c.loop.counter (progress_of c.loop.reader) c.loop.rest.now (after_instruction c.in_ok-last-in-len1-up.last (progress_of c.step.new.self)) c.in_ok-last-in-len1-up.after.now (read expression c.args.octets.now)
    (omega (arith, c.loop-test.true)) c.in-len1-up.len_at_least c.in_ok-last-in-len1-up.ensures c.loop.invariant in
    let last = subst (λ (b : Bool). chain (λ s b. read (instruction s b)) (suc (length c.args.octets.now) - (c.loop.counter + 1)) (after_instruction b (progress_of c.step.new.self)) c.in_ok-last-in-len1-up.after.now ≡ read expression c.args.octets.now) c.if-last.true h in
    rw c.into_body.ensures (chain_done (λ s b. read (instruction s b)) (suc (length c.args.octets.now) - (c.loop.counter + 1)) (sequences_in (progress_of c.step.new.self)) c.in_ok-last-in-len1-up.after.now (read expression c.args.octets.now) last)

pub loop-preserved : goal.loop-preserved
loop-preserved c =
    let h = chain_more (λ s b. read (instruction s b)) (suc (length c.args.octets.now)) c.loop.counter (progress_of c.loop.reader) c.loop.rest.now (after_instruction c.in_ok-last-in-len1-up.last (progress_of c.step.new.self)) c.in_ok-last-in-len1-up.after.now (read expression c.args.octets.now)
    (omega (arith, c.loop-test.true)) c.in-len1-up.len_at_least c.in_ok-last-in-len1-up.ensures c.loop.invariant in
    subst (λ (b : Bool). chain (λ s b. read (instruction s b)) (suc (length c.args.octets.now) - (c.loop.counter + 1)) (after_instruction b (progress_of c.step.new.self)) c.in_ok-last-in-len1-up.after.now ≡ read expression c.args.octets.now) c.if-last.false h
