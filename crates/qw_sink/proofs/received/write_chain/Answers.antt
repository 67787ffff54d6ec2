use Rattle.std.proofs.Common.{◌≡◌, ◌+◌, ◌<◌, ◌≤◌, ◌^◌, ◌∙◌, length, refl, sym, arith}
use Rattle.std.proofs.lemmas.Option.{same_Some}
use Rattle.qw_linear.specs.Memory.{number_at}
use Rattle.qw_linear.proofs.AccessFacts.{loaded-inside}
use Rattle.qw_map.specs.Layout.{row_size}
use Rattle.qw_map.proofs.ResultRows.{next-inside, next-there, read-all}
use Rattle.qw_sink.proofs.ChainLemmas.{written-more, written-none}
use Rattle.qw_sink.proofs.received.write_chain.Goals as goal

pub loop-init : goal.loop-init
loop-init c = record {
  written = λ texts own there. written-none c.args.header.now c.args.kinds.now texts own c.args.memory.now.octets c.args.chain.count c.args.chain.first _ _ c.in_ok-write_names.ensures there;
  small = c.requires.small;
}

pub write_cells-requires-clause-inside : goal.write_cells-requires-clause-inside
write_cells-requires-clause-inside c =
    let there = c.requires.there in
    let so_far = c.loop.invariant.written there.0 there.1 there.3 in
    let end : c.loop.at + row_size (length c.args.kinds.now) ≤ length c.args.memory.now.octets =
    next-inside c.args.kinds.now there.0 there.1 c.args.memory.now.octets c.args.chain.count c.args.chain.first c.loop.counter c.loop.at so_far.rows there.2 c.loop-test.true so_far.read in
    omega (arith, end, c.from.ensures)

pub write_cells-requires-clause-there : goal.write_cells-requires-clause-there
write_cells-requires-clause-there c =
    let there = c.requires.there in
    let so_far = c.loop.invariant.written there.0 there.1 there.3 in (
      there.0,
      rw c.from.ensures
          (next-there c.args.kinds.now there.0 there.1 c.args.memory.now.octets c.args.chain.count c.args.chain.first c.loop.counter c.loop.at so_far.rows c.loop-test.true so_far.read),
    )

pub unwrap-at-requires : goal.unwrap-at-requires
unwrap-at-requires c =
    let there = c.requires.there in
    let so_far = c.loop.invariant.written there.0 there.1 there.3 in
    let end : c.loop.at + row_size (length c.args.kinds.now) ≤ length c.args.memory.now.octets =
    next-inside c.args.kinds.now there.0 there.1 c.args.memory.now.octets c.args.chain.count c.args.chain.first c.loop.counter c.loop.at so_far.rows there.2 c.loop-test.true so_far.read in
    rw (c.load32.ensures.loaded, loaded-inside c.args.memory.now.octets c.loop.at 4 (omega (arith, end))) refl

pub loop-preserved : goal.loop-preserved
loop-preserved c =
    let there = c.requires.there in
    let memory = c.args.memory.now.octets in
    let so_far = c.loop.invariant.written there.0 there.1 there.3 in
    let end : c.loop.at + row_size (length c.args.kinds.now) ≤ length memory =
    next-inside c.args.kinds.now there.0 there.1 memory c.args.chain.count c.args.chain.first c.loop.counter c.loop.at so_far.rows there.2 c.loop-test.true so_far.read in
    let link : c.unwrap-at.result ≡ number_at memory c.loop.at 4 =
    same_Some c.unwrap-at.result (number_at memory c.loop.at 4)
    (sym c.unwrap-at.ensures ∙ c.load32.ensures.loaded ∙ loaded-inside memory c.loop.at 4 (omega (arith, end))) in
    let small : c.unwrap-at.result < 2 ^ 32 = rw c.unwrap-at.ensures at c.load32.ensures.fits in
    let line = rw c.from.ensures at c.in_ok-write_cells.ensures in
    record {
      written = λ texts own found. written-more c.args.header.now c.args.kinds.now texts own memory c.args.chain.count c.args.chain.first c.loop.counter c.loop.at c.unwrap-at.result
          _ _ _ c.loop-test.true (line texts) link (c.loop.invariant.written texts own found);
      small = small;
    }

pub returns : goal.returns
returns c texts own rows is text was =
    let memory = c.args.memory.now.octets in
    let so_far = c.loop.invariant.written texts own (rw is refl) in
    let all = read-all c.args.kinds.now texts own memory c.args.chain.count c.args.chain.first c.loop.counter c.loop.at so_far.rows c.loop-test.false so_far.read in
    let same : so_far.rows ≡ rows = same_Some so_far.rows rows (sym all ∙ is) in
    rw same at (so_far.written text was)
