use Rattle.std.proofs.Common.{◌≡◌, ◌-◌, ◌∙◌, ap, arith, length}
use Rattle.qw_linear.proofs.GrowthFacts.{length-grown_by}
use Rattle.qw_linear.specs.Linear.{Octets}
use Rattle.qw_linear.specs.Memory.{grown_by}
use Rattle.qw_columns.proofs.GrowthLemmas.{grows_by}
use Rattle.qw_columns.proofs.writing.grow_to.Goals as goal

grown : (c : goal.After-unwrap) → c.grow.new.self ≡ record { octets = grown_by (c.div_ceil-pages.result - c.from-held.result) c.args.memory.now.octets; reserved = c.args.memory.now.reserved }
grown c = rw c.unwrap.ensures at c.grow.ensures.grown

pub returns-then-held-pages-clause-grows : goal.returns-then-held-pages-clause-grows
returns-then-held-pages-clause-grows c at = rw (grown c) (grows_by c.args.memory.now (c.div_ceil-pages.result - c.from-held.result) at)

pub returns-then-held-pages-clause-len : goal.returns-then-held-pages-clause-len
returns-then-held-pages-clause-len c at le whole =
    let long = ap (λ (m : Octets). length m.octets) (grown c) ∙ length-grown_by (c.div_ceil-pages.result - c.from-held.result) c.args.memory.now.octets in
    omega (arith, long, c.div_ceil-pages.ensures, c.from-held.ensures, c.size.ensures.pages, c.if-held-pages.true)

pub returns-then-held-pages-clause-small : goal.returns-then-held-pages-clause-small
returns-then-held-pages-clause-small c =
    let long = ap (λ (m : Octets). length m.octets) (grown c) ∙ length-grown_by (c.div_ceil-pages.result - c.from-held.result) c.args.memory.now.octets in
    omega (arith, long, c.div_ceil-pages.ensures, c.from-held.ensures, c.size.ensures.pages, c.size.ensures.whole.limit, c.requires, c.if-held-pages.true)
