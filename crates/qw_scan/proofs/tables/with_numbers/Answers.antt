use Rattle.std.proofs.Common.{◌≡◌, ◌++◌, ◌∷◌, [], rules}
use Rattle.qw_octet_grammar.specs.Numbers.{u32}
use Rattle.qw_octet_grammar.specs.Vectors.{counted, one_more}
use Rattle.qw_octet_grammar.specs.Reading.{read}
use Rattle.qw_octet_grammar.proofs.Loops.{begin_counted, done_counted, goes_on_one_more}
use Rattle.qw_scan.proofs.tables.with_numbers.Goals as goal

pub loop-init : goal.loop-init
loop-init c = begin_counted (one_more u32) c.args.count c.args.numbers.items c.args.octets.now

pub loop-preserved : goal.loop-preserved
loop-preserved c =
    let items : c.push.new.self.items ≡ c.loop.found.items ++ c.in-Ok.number ∷ [] = search rules in
    rw items (goes_on_one_more u32 c.args.count c.loop.counter c.loop.found.items c.loop.rest.now c.in-Ok.number c.in-Ok.after.now
    (read (counted c.args.count (one_more u32) c.args.numbers.items) c.args.octets.now) c.loop-test.true c.in-Ok.ensures c.loop.invariant)

pub returns : goal.returns
returns c = (
  c.loop.rest.now,
  done_counted (one_more u32) c.args.count c.loop.counter c.loop.found.items c.loop.rest.now
      (read (counted c.args.count (one_more u32) c.args.numbers.items) c.args.octets.now) c.loop-test.false c.loop.invariant,
)
