use Rattle.std.proofs.Common.{◌≡◌, ◌++◌, sym, subst}
use Rattle.std.proofs.lemmas.Result.{on_ok_weaker}
use Rattle.qw_grouped.specs.declared.set_function.SetFunctionKind.{SetFunctionKind}
use Rattle.qw_low.specs.Steps.{steps_of}
use Rattle.qw_group.specs.Inner.ValueBlocks.{value_block}
use Rattle.qw_group.proofs.value.push_value.Goals as goal

pub returns-in-Avg : goal.returns-in-Avg
returns-in-Avg c = on_ok_weaker c.push_mean.result (λ added.
    subst (λ (function : SetFunctionKind). c.push_mean.new.block.code.items ≡ c.args.block.now.code.items ++ steps_of (value_block function c.args.kind c.args.entry c.args.offset c.args.free)) (sym c.in-Avg.is) added) c.push_mean.ensures
