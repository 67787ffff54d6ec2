use Rattle.std.proofs.Common.{ap, ◌∙◌, ◌++◌, map}
use Rattle.qw_expr.specs.Bindings.{known_of}
use Rattle.qw_read.specs.Reading as reading
use Rattle.qw_operator.proofs.GuardEmits.{held_is}
use Rattle.qw_operator.proofs.guard.known_behind.Goals as goal

pub returns : goal.returns
returns c =
    held_is c.args.literals c.args.known.items c.bind.new.columns.items c.append.new.self.items c.truncate.new.self.items c.args.sure.now c.in_ok-append.ensures.items c.truncate.ensures.items
    (c.in_ok-bind.ensures ∙ ap (λ (l : _). known_of l ++ map reading.known_of c.args.sure.now) c.new-columns.ensures.items)
