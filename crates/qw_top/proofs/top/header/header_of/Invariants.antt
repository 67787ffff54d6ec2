use Rattle.std.proofs.Common.{◌≡◌, map, take}
use Rattle.qw_scalar.specs.Tree.{expression_of}
use Rattle.qw_top.specs.Inner.Queries.{heads_of}
use Rattle.qw_top.proofs.top.header.header_of.Given as goal

abbrev pub invariant-loop-index : goal.invariant-loop-index
invariant-loop-index l = l.heads.items ≡ heads_of (take l.index l.query.names.items) (map expression_of l.items)
