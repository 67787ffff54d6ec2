use Rattle.std.proofs.Common.{◌≡◌, ◌≤◌, ◌∷◌, false, true, IfSome, IsSome, Option, List, length, ap, refl, sym, subst, arith}
use Rattle.qw_linear.specs.Memory.{page}
use Rattle.qw_map.specs.Layout.{Layout, descriptor_size}
use Rattle.qw_module.specs.declared.instruction.ValType.{ValType}
use Rattle.qw_module.specs.declared.instruction.ValType.TheVariants.{I32}
use Rattle.qw_low.specs.Typing.{IsTyped}
use Rattle.qw_emit.specs.RunsOf.{IsMadeOf}
use Rattle.qw_compile.specs.declared.query_statement.QueryStatement.{QueryStatement}
use Rattle.qw_compile_whole.specs.FinishedModule.{IsFinishedOf}
use Rattle.qw_compile_whole.proofs.finish.finish.Goals as goal
use Rattle.qw_compile_whole.proofs.finish.finish.Goals.{then-len-gt-MOST_STEPS-via-then-len-gt-MOST_STEPS, then-len-gt-MOST_STEPS-via-else-len-gt-MOST_STEPS+then-len-gt-MOST_LOCALS}

pub returns-in_default-clause-short : goal.returns-in_default-clause-short
returns-in_default-clause-short c = λ there few.
    let some : false ≡ true = subst (λ (o : Option QueryStatement). IsSome o) c.in_default.is there in
    absurd cc

pub returns-then-len-gt-MOST_STEPS-clause-short : goal.returns-then-len-gt-MOST_STEPS-clause-short
returns-then-len-gt-MOST_STEPS-clause-short c = λ there few.
    let made = c.in-Some.field-0 in
    let both = subst (λ (o : Option QueryStatement). IfSome o (λ (x : QueryStatement). (length x.block.code.items ≤ 2097152) × (length x.locals.items ≤ 2097152))) c.in-Some.is few in
    elim c.then-len-gt-MOST_STEPS.branch [
      | then-len-gt-MOST_STEPS-via-then-len-gt-MOST_STEPS w ↦ absurd (omega (arith, w.if-len-gt-MOST_STEPS.true, c.len.ensures, made.block.code.ok.0, both.0))
      | then-len-gt-MOST_STEPS-via-else-len-gt-MOST_STEPS+then-len-gt-MOST_LOCALS w ↦ absurd (omega (arith, w.if-len-gt-MOST_LOCALS.true, w.len-else-len-gt-MOST_STEPS.ensures, made.locals.ok.0, both.1))
    ]

pub returns-clause-finished : goal.returns-clause-finished
returns-clause-finished c =
    let made = c.in-Some.field-0 in
    subst (λ (o : Option QueryStatement). IsSome o × IfSome o (λ (one : QueryStatement). IsFinishedOf one (record { «module» = c.in_ok-module.module; layout = made.layout }))) (sym c.in-Some.is) (
      refl,
      record {
        layout_is = refl;
        small = subst (λ (l : Layout). descriptor_size l ≤ page) c.layout.view_is c.layout.invariant;
        few_steps = omega (arith, c.if-len-gt-MOST_STEPS.false, c.len.ensures, made.block.code.ok.0);
        is = λ s steps typed small.
            let declared : IsTyped (I32 ∷ c.deref.result.now) s = subst (λ (l : List ValType). IsTyped (I32 ∷ l) s) (sym c.deref.ensures.value) typed in
            subst (λ (l : List ValType). IsMadeOf c.in_ok-module.module s (length l)) c.deref.ensures.value (record {
              runnable = c.in_ok-module.ensures.runnable s steps declared;
              nests = c.in_ok-module.ensures.nests s steps declared;
              no_size = c.in_ok-module.ensures.no_size s steps;
              no_growth = c.in_ok-module.ensures.no_growth s steps;
              spelled = c.in_ok-module.ensures.spelled s steps declared small (omega (arith, c.if-len-gt-MOST_LOCALS.false, c.len-else-len-gt-MOST_STEPS.ensures, made.locals.ok.0, ap (λ (l : List ValType). length l) c.deref.ensures.value));
              weight = c.in_ok-module.ensures.short s steps;
              called = c.in_ok-module.ensures.light s steps;
              runs = c.in_ok-module.ensures.runs s steps;
            });
      },
    )
