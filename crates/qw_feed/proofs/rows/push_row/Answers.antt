use Rattle.std.proofs.Common.{List, ◌++◌, ap, ◌∙◌}
use Rattle.qw_low.specs.declared.step.LowStep.{LowStep}
use Rattle.qw_low.specs.Steps.{steps_of}
use Rattle.qw_low.proofs.Appended.{three}
use Rattle.qw_feed.specs.Rows.{link_block}
use Rattle.qw_feed.specs.Room.{room_block}
use Rattle.qw_feed.proofs.rows.push_row.Goals as goal

pub returns : goal.returns
returns c = λ cells is.
    three c.args.block.now.code.items c.find_room.new.block.code.items c.append.new.self.code.items c.link.new.block.code.items
    (steps_of (room_block c.args.size)) (steps_of cells) (steps_of (link_block c.args.size))
    c.in_ok-find_room.ensures (c.in_ok-append.ensures ∙ ap (λ (steps : List LowStep). c.find_room.new.block.code.items ++ steps) is) c.in_ok-link.ensures
