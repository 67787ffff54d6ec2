use Rattle.qw_scalar.specs.Tree.{expression_of}
use Rattle.qw_plain_grouped.proofs.Lists.{at_each}
use Rattle.qw_plain_grouped.proofs.flow.add_selected.Goals as goal

pub values_of-requires-clause-typed : goal.values_of-requires-clause-typed
values_of-requires-clause-typed c = λ k d lt. (at_each _ expression_of c.args.items.now c.requires k d lt).0

pub values_of-requires-clause-columns : goal.values_of-requires-clause-columns
values_of-requires-clause-columns c = rw c.values.ensures (λ k d lt. (at_each _ expression_of c.args.items.now c.requires k d lt).1)
