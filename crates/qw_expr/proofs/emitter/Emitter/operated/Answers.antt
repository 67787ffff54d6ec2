use Rattle.std.proofs.Common.{◌∙◌, [], ◌∷◌}
use Rattle.qw_module.specs.declared.instruction.ValType.TheVariants.{I32, I64}
use Rattle.qw_low.proofs.Appended.{three}
use Rattle.qw_expr.proofs.Emitted.{onto, next_local, operated_adds}
use Rattle.qw_expr.proofs.emitter.Emitter.operated.Goals as goal

pub returns-clause-emits : goal.returns-clause-emits
returns-clause-emits c = operated_adds c.args.operator c.args.left c.args.right c.number.result c.args.self.now c.end_unless.new.self
    c.join_nulls.new.self.block.code.items c.begin_unless.new.self.block.code.items c.operate.new.block.code.items c.in_ok-p.p c.in_ok-free.free c.in_ok-null.null c.in_ok-made.ensures.block.0 c.in_ok-made.made
    (c.in_ok-end_unless.ensures.same.0 ∙ c.in_ok-begin_unless.ensures.same.0 ∙ c.in_ok-null.ensures.same.0 ∙ c.in_ok-_last.ensures.same.0 ∙ c.in_ok-free.ensures.same.0 ∙ c.in_ok-p.ensures.same.0)
    (c.in_ok-end_unless.ensures.same.1 ∙ c.in_ok-begin_unless.ensures.same.1 ∙ c.in_ok-null.ensures.same.1
    ∙ three c.args.self.now.own.items c.fresh.new.self.own.items c.fresh-2.new.self.own.items c.fresh-3.new.self.own.items (I32 ∷ []) (I64 ∷ []) (I64 ∷ []) c.in_ok-p.ensures.own c.in_ok-free.ensures.own c.in_ok-_last.ensures.own)
    c.in_ok-p.ensures.local.0 (next_local c.args.self.now c.fresh.new.self I32 c.in_ok-free.free c.in_ok-free.ensures.local.0 c.in_ok-p.ensures.own c.in_ok-p.ensures.same.0)
    c.in_ok-null.ensures.null
    (onto c.args.self.now.block.code.items c.fresh-3.new.self.block.code.items c.join_nulls.new.self.block.code.items _ (c.in_ok-_last.ensures.same.1 ∙ c.in_ok-free.ensures.same.1 ∙ c.in_ok-p.ensures.same.1) c.in_ok-null.ensures.code)
    c.in_ok-begin_unless.ensures.code c.in_ok-made.ensures.block.1 c.in_ok-end_unless.ensures.code
    (rw (c.scaled.ensures, c.scaled-2.ensures) at c.in_ok-made.ensures.block.2) c.number.ensures (rw (c.scaled.ensures, c.scaled-2.ensures) at c.in_ok-made.ensures.scale)
