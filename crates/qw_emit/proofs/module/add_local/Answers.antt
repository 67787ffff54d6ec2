use Rattle.std.proofs.Common.{◌≡◌, ◌∙◌, ◌+◌, ◌++◌, true, List, [], ◌∷◌, refl, sym, ap}
use Rattle.qw_module.specs.declared.instruction.ValType.{ValType}
use Rattle.qw_module.specs.declared.module.Locals.{Locals}
use Rattle.qw_module.specs.Validity.{declared_types}
use Rattle.qw_emit.proofs.Locals.{declared_types-longer, declared_types-single}
use Rattle.qw_module.specs.declared.instruction.ValType.TheVariants.{I32, I64}
use Rattle.qw_module.specs.contracts.instruction.ValType.{the_type}
use denote.Enum.Bare.{sameb}
use Rattle.qw_emit.proofs.module.add_local.Goals as goal

same_types : (a b : ValType) → true ≡ sameb the_type a b → a ≡ b
same_types I32 I32 h = refl
same_types I32 I64 h = absurd cc
same_types I64 I32 h = absurd cc
same_types I64 I64 h = refl

pub returns-in_ok-push-in-Some-clause-types : goal.returns-in_ok-push-in-Some-clause-types
returns-in_ok-push-in-Some-clause-types c =
    let run : Locals = c.in-Some.run' in
    let same : run.ty ≡ c.args.ty = same_types run.ty c.args.ty c.if-eq.ensures in
    ap declared_types c.in_ok-push-in-Some.ensures.items ∙ ap (λ (ty : ValType). declared_types (c.pop.new.self.items ++ record { count = run.count + 1; ty = ty } ∷ [])) (sym same)
    ∙ declared_types-longer c.pop.new.self.items run ∙ ap (λ (runs : List Locals). declared_types runs ++ run.ty ∷ []) (sym c.in-Some.ensures.items) ∙ ap (λ (ty : ValType). declared_types c.args.locals.now.items ++ ty ∷ []) same

pub returns-in_ok-push-in-Some-2-2-clause-types : goal.returns-in_ok-push-in-Some-2-2-clause-types
returns-in_ok-push-in-Some-2-2-clause-types c =
    ap declared_types c.in_ok-push-in-Some-2-2.ensures.items ∙ declared_types-single c.push-in-Some-2.new.self.items c.args.ty
    ∙ ap (λ (runs : List Locals). declared_types runs ++ c.args.ty ∷ []) (c.in_ok-push-in-Some-2.ensures.items ∙ sym c.in-Some.ensures.items)
