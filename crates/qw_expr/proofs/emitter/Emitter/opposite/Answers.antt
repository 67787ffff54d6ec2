use Rattle.std.proofs.Common.{◌∙◌}
use Rattle.std.specs.Prelude.{neg_ℤ, Ok}
use Rattle.qw_expr.proofs.Emitted.{onto, converted_adds}
use Rattle.qw_expr.proofs.emitter.Emitter.opposite.Goals as goal

pub returns-clause-emits : goal.returns-clause-emits
returns-clause-emits c = converted_adds (λ v. Ok (neg_ℤ v)) c.args.operand.scale c.args.operand c.number.result c.args.self.now c.end_unless.new.self
    c.begin_unless.new.self.block.code.items c.negate.new.block.code.items c.in_ok-free.free c.in_ok-made.ensures.block.0 c.in_ok-made.made
    (c.in_ok-end_unless.ensures.same.0 ∙ c.in_ok-begin_unless.ensures.same.0 ∙ c.in_ok-free.ensures.same.0)
    (c.in_ok-end_unless.ensures.same.1 ∙ c.in_ok-begin_unless.ensures.same.1 ∙ c.in_ok-free.ensures.own) c.in_ok-free.ensures.local.0
    (onto c.args.self.now.block.code.items c.fresh.new.self.block.code.items c.begin_unless.new.self.block.code.items _ c.in_ok-free.ensures.same.1 c.in_ok-begin_unless.ensures.code) c.in_ok-made.ensures.block.1 c.in_ok-end_unless.ensures.code
    (rw c.scaled.ensures at c.in_ok-made.ensures.block.2) c.number.ensures (rw c.scaled.ensures at c.in_ok-made.ensures.scale)
