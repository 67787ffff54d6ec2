use Rattle.std.proofs.lemmas.Result.{on_ok_weaker}
use Rattle.qw_group.proofs.AddedSteps.{choose_steps}
use Rattle.qw_group.proofs.aggregate.push_choose.Goals as goal

pub returns : goal.returns
returns c =
    let read = c.in_ok-push_chosen.ensures in
    on_ok_weaker c.push-2.result (λ last. (
      read.0,
      choose_steps c.args.argument.kind c.args.relation read.0 c.args.argument.cell c.args.entry c.args.offset c.args.own c.args.block.now.code.items c.push_count.new.block.code.items c.extend_from_slice.new.self.items c.push_chosen.new.block.code.items
          c.push_beaten.new.block.code.items c.push.new.self.code.items c.push_put.new.block.code.items c.extend_from_slice-2.new.self.items c.push_put-2.new.block.code.items c.push-2.new.self.code.items
          c.in_ok-push_count.ensures c.in_ok-extend_from_slice.ensures.items read.1 c.in_ok-push_beaten.ensures c.in_ok-push.ensures c.in_ok-push_put.ensures c.in_ok-extend_from_slice-2.ensures.items c.in_ok-push_put-2.ensures last,
      read.2,
    )) c.push-2.ensures
