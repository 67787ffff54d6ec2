use Rattle.std.proofs.Common.{◌+◌, ◌<◌, ◌≤◌, ◌≡◌, length, ◌^◌, ◌∙◌, sym, refl, arith}
use Rattle.std.proofs.lemmas.Option.{same_Some}
use Rattle.qw_linear.specs.Memory.{number_at}
use Rattle.qw_map.specs.Layout.{row_size}
use Rattle.qw_linear.proofs.AccessFacts.{loaded-inside}
use Rattle.qw_map.proofs.ResultRows.{next-inside, next-there, read-all, read-more, read-none}
use Rattle.qw_sink.proofs.results.chained_rows.Goals as goal

pub loop-init : goal.loop-init
loop-init c = rw (c.new-rows.ensures.items) (record {
  read = λ texts own there. read-none c.args.kinds.now texts own c.args.memory.now.octets c.args.count c.args.first there;
  small = c.requires.small;
})

pub row_at-requires-clause-inside : goal.row_at-requires-clause-inside
row_at-requires-clause-inside c =
    let there = c.requires.there in
    let end : c.loop.at + row_size (length c.args.kinds.now) ≤ length c.args.memory.now.octets =
    next-inside c.args.kinds.now there.0 there.1 c.args.memory.now.octets c.args.count c.args.first c.loop.counter c.loop.at c.loop.rows.items there.2 c.loop-test.true
    (c.loop.invariant.read there.0 there.1 there.3) in
    omega arith

pub row_at-requires-clause-there : goal.row_at-requires-clause-there
row_at-requires-clause-there c =
    let there = c.requires.there in (
      there.0,
      rw c.from.ensures
          (next-there c.args.kinds.now there.0 there.1 c.args.memory.now.octets c.args.count c.args.first c.loop.counter c.loop.at c.loop.rows.items c.loop-test.true
          (c.loop.invariant.read there.0 there.1 there.3)),
    )

pub unwrap-at-requires : goal.unwrap-at-requires
unwrap-at-requires c =
    let there = c.requires.there in
    let end : c.loop.at + row_size (length c.args.kinds.now) ≤ length c.args.memory.now.octets =
    next-inside c.args.kinds.now there.0 there.1 c.args.memory.now.octets c.args.count c.args.first c.loop.counter c.loop.at c.loop.rows.items there.2 c.loop-test.true
    (c.loop.invariant.read there.0 there.1 there.3) in
    rw (c.load32.ensures.loaded, loaded-inside c.args.memory.now.octets c.loop.at 4 (omega arith)) refl

pub loop-preserved : goal.loop-preserved
loop-preserved c =
    let there = c.requires.there in
    let memory = c.args.memory.now.octets in
    let end : c.loop.at + row_size (length c.args.kinds.now) ≤ length memory =
    next-inside c.args.kinds.now there.0 there.1 memory c.args.count c.args.first c.loop.counter c.loop.at c.loop.rows.items there.2 c.loop-test.true
    (c.loop.invariant.read there.0 there.1 there.3) in
    let link : c.unwrap-at.result ≡ number_at memory c.loop.at 4 =
    same_Some c.unwrap-at.result (number_at memory c.loop.at 4)
    (sym c.unwrap-at.ensures ∙ c.load32.ensures.loaded ∙ loaded-inside memory c.loop.at 4 (omega arith)) in
    let small : c.unwrap-at.result < 2 ^ 32 = rw c.unwrap-at.ensures at c.load32.ensures.fits in
    rw c.in_ok-push.ensures.items (record {
      read = λ texts own found. read-more c.args.kinds.now texts own memory c.args.count c.args.first c.loop.counter c.loop.at c.unwrap-at.result c.loop.rows.items
          c.in_ok-row_at.field-0 c.loop-test.true (rw c.from.ensures at c.in_ok-row_at.ensures texts (next-there c.args.kinds.now texts own memory c.args.count c.args.first c.loop.counter c.loop.at c.loop.rows.items c.loop-test.true (c.loop.invariant.read texts own found))) link (c.loop.invariant.read texts own found);
      small = small;
    })

pub returns : goal.returns
returns c = λ texts own found. read-all c.args.kinds.now texts own c.args.memory.now.octets c.args.count c.args.first c.loop.counter c.loop.at c.loop.rows.items c.loop-test.false
    (c.loop.invariant.read texts own found)
