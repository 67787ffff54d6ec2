use Rattle.qw_linear.specs.Memory.{pages_of}
use Rattle.qw_linear.proofs.linear.Linear.size.Goals as goal

pub returns-clause-whole : goal.returns-clause-whole
returns-clause-whole c = rw (← c.self.view_is) (record {
  pages = pages_of c.self.inside.octets.items;
  whole = c.self.invariant.whole;
  within = c.self.invariant.within;
  limit = c.self.invariant.limit;
  each = rw (← c.as_slice.ensures.value) c.whole_pages.ensures.octets;
})
