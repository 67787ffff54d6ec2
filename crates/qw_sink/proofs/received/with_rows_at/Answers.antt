use Rattle.std.proofs.Common.{◌≡◌, ◌∙◌, Vec, Global, Some, ℕ, arith}
use Rattle.std.proofs.lemmas.Result.{IfOk-weaker}
use Rattle.qw_map.specs.Layout.{rows_from, text_areas}
use Rattle.qw_map.proofs.ResultRows.{descriptor-within}
use Rattle.qw_sink.proofs.ChainLemmas.{part-whole, rows-behind, rows-many}
use Rattle.qw_sink.proofs.received.with_rows_at.Goals as goal

pub chain_at-chain-requires-clause-inside : goal.chain_at-chain-requires-clause-inside
chain_at-chain-requires-clause-inside c =
    let there = c.requires.there in
    omega (arith, descriptor-within c.args.layout.now there.0 c.args.memory.now.octets c.args.descriptor there.1 there.2)

pub returns : goal.returns
returns c =
    let memory = c.args.memory.now.octets in
    let chain = c.chain_at-chain in
    IfOk-weaker c.with_chain.result _ _
    (λ (whole : Vec ℕ Global) gives w rows is.
    let texts = text_areas c.args.layout.now w c.args.descriptor in
    let behind : rows_from c.args.layout.now.cells texts w.own memory chain.result.count chain.result.first ≡ Some rows =
    rw (chain.ensures.count, chain.ensures.first) (rows-behind c.args.layout.now w memory c.args.descriptor rows is) in
    let many = rows-many c.args.layout.now.cells texts w.own memory chain.result.count chain.result.first rows behind in
    part-whole c.args.report.items c.as_str.result.now c.in_ok-report.report.items whole.items c.args.number chain.result.count c.args.header.now rows
    (gives texts w.own rows (rw c.cells.ensures behind)) c.in_ok-report.ensures (c.as_str.ensures.value ∙ c.in_ok-headline.ensures) many)
    c.with_chain.ensures
