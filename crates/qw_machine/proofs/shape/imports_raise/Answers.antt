use Rattle.qw_machine.proofs.shape.imports_raise.Goals as goal

pub returns-then-imports_function : goal.returns-then-imports_function
returns-then-imports_function c = (
  λ linked. record {
    there = rw c.deref.ensures.value at (c.imports_function.ensures.0 c.if-imports_function.true);
    each = c.all_are_linked.ensures.0 linked;
  },
  λ raise. c.all_are_linked.ensures.1 raise.each,
)
