use Rattle.std.proofs.Common.{arith}
use Rattle.qw_map.proofs.ResultRows.{descriptor-within}
use Rattle.qw_sink.proofs.results.rows_of.Goals as goal

pub chain_at-chain-requires-clause-inside : goal.chain_at-chain-requires-clause-inside
chain_at-chain-requires-clause-inside c =
    let there = c.requires.there in
    omega (arith, descriptor-within c.args.layout.now there.0 c.args.memory.now.octets c.args.descriptor there.1 there.2)
