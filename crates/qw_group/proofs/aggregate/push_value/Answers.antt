use Rattle.std.proofs.lemmas.Result.{on_ok_weaker}
use Rattle.qw_group.proofs.AddedSteps.{count_value, sum_value}
use Rattle.qw_group.proofs.aggregate.push_value.Goals as goal

pub returns-in-CountRows : goal.returns-in-CountRows
returns-in-CountRows c = on_ok_weaker c.push_count.result (λ added.
    count_value c.args.function c.args.argument c.args.entry c.args.offset c.args.own c.args.block.now.code.items c.push_count.new.block.code.items c.in-CountRows.is added) c.push_count.ensures

pub returns-in_ok-push_count-in-Sum : goal.returns-in_ok-push_count-in-Sum
returns-in_ok-push_count-in-Sum c = on_ok_weaker c.push_sum.result (λ added.
    sum_value c.args.function c.args.argument c.args.entry c.args.offset c.args.own c.args.block.now.code.items c.push_count-in-Sum.new.block.code.items c.push_sum.new.block.code.items c.in-Sum.is c.in_ok-push_count-in-Sum.ensures added) c.push_sum.ensures
