use Rattle.std.proofs.Common.{◌∙◌, [], ◌∷◌, refl}
use Rattle.qw_types.specs.Arithmetic.{order_of}
use Rattle.qw_module.specs.declared.instruction.ValType.TheVariants.{I32, I64}
use Rattle.qw_low.proofs.Appended.{three}
use Rattle.qw_expr.proofs.Emitted.{onto, next_local, after_two}
use Rattle.qw_expr.proofs.TruthsEmitted.{compared_adds}
use Rattle.qw_expr.proofs.emitter.Emitter.compared.Goals as goal

pub returns-clause-emits : goal.returns-clause-emits
returns-clause-emits c = compared_adds c.args.operator (λ v w. order_of v c.args.left.scale w c.args.right.scale) c.args.left.local c.args.left.most c.args.right.local c.args.right.most c.args.left_null c.args.right_null
    c.args.self.now c.end_unless.new.self _ c.join_nulls.new.self.block.code.items c.begin_zero.new.self.block.code.items c.emit_cmp_scaled.new.block.code.items
    c.in_ok-p.p c.in_ok-t.t c.in_ok-n.n c.in_ok-null.null c.in_ok-emit_cmp_scaled.ensures.block.0
    (c.in_ok-end_unless.ensures.same.0 ∙ c.in_ok-begin_zero.ensures.same.0 ∙ c.in_ok-null.ensures.same.0 ∙ c.in_ok-n.ensures.same.0 ∙ c.in_ok-t.ensures.same.0 ∙ c.in_ok-p.ensures.same.0)
    (c.in_ok-end_unless.ensures.same.1 ∙ c.in_ok-begin_zero.ensures.same.1 ∙ c.in_ok-null.ensures.same.1
    ∙ three c.args.self.now.own.items c.fresh.new.self.own.items c.fresh-2.new.self.own.items c.fresh-3.new.self.own.items (I32 ∷ []) (I32 ∷ []) (I64 ∷ []) c.in_ok-p.ensures.own c.in_ok-t.ensures.own c.in_ok-n.ensures.own)
    c.in_ok-p.ensures.local.0 (next_local c.args.self.now c.fresh.new.self I32 c.in_ok-t.t c.in_ok-t.ensures.local.0 c.in_ok-p.ensures.own c.in_ok-p.ensures.same.0)
    (after_two c.args.self.now c.fresh.new.self c.fresh-2.new.self I32 I32 c.in_ok-n.n c.in_ok-n.ensures.local.0 c.in_ok-p.ensures.own c.in_ok-t.ensures.own c.in_ok-p.ensures.same.0 c.in_ok-t.ensures.same.0)
    c.in_ok-null.ensures.null
    (onto c.args.self.now.block.code.items c.fresh-3.new.self.block.code.items c.join_nulls.new.self.block.code.items _ (c.in_ok-n.ensures.same.1 ∙ c.in_ok-t.ensures.same.1 ∙ c.in_ok-p.ensures.same.1) c.in_ok-null.ensures.code)
    c.in_ok-begin_zero.ensures.code c.in_ok-emit_cmp_scaled.ensures.block.1 c.in_ok-end_unless.ensures.code c.in_ok-emit_cmp_scaled.ensures.block.2 refl
