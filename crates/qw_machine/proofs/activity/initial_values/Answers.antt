use Rattle.std.proofs.Common.{sym, subst}
use Rattle.qw_module.specs.declared.module.Global.{Global}
use Rattle.qw_module.specs.Syntax.{IsNumbered}
use Rattle.qw_module.specs.Validity.{sequences_of}
use Rattle.qw_machine.proofs.InitialValues.{one_more_value}
use Rattle.qw_machine.proofs.activity.initial_values.Goals as goal

pub initial_value-requires : goal.initial_value-requires
initial_value-requires c =
    subst (λ (g : Global). IsNumbered (sequences_of g.init)) (sym c.global-item.is) (c.requires c.loop-global.global-index c.global-item.result c.loop-global-test.true).numbered

pub loop-global-preserved : goal.loop-global-preserved
loop-global-preserved c =
    one_more_value c.args.globals.now c.loop-global.global-index c.global-item.result c.initial_value.result c.loop-global.values.items c.push.new.self.items c.loop-global-test.true
    c.global-item.is c.initial_value.ensures c.loop-global.invariant c.in_ok-push.ensures.items
