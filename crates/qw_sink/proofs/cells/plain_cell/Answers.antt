use Rattle.std.proofs.Common.{◌≡◌, ◌+◌, ◌∙◌, IsSome, sym, arith}
use Rattle.std.proofs.lemmas.Option.{same_Some}
use Rattle.qw_linear.specs.Memory.{number_at}
use Rattle.qw_linear.proofs.AccessFacts.{loaded-inside}
use Rattle.qw_map.specs.Layout.{text_cell}
use Rattle.qw_sink.proofs.CellLemmas.{text-is}
use Rattle.qw_sink.proofs.cells.plain_cell.Goals as goal

pub returns-in-Text-clause-text : goal.returns-in-Text-clause-text
returns-in-Text-clause-text c =
    let memory = c.args.memory.now.octets in
    let at = c.args.at in
    let there = c.requires.there in
    let text : IsSome (text_cell there.0 memory (number_at memory at 4) (number_at memory (at + 4) 4)) = rw c.in-Text.is at there.1 in
    let address : c.unwrap-address.result ≡ number_at memory at 4 =
    same_Some c.unwrap-address.result (number_at memory at 4) (sym c.unwrap-address.ensures ∙ c.load32.ensures.loaded ∙ loaded-inside memory at 4 (omega (arith, c.requires.inside))) in
    let size : c.unwrap-size.result ≡ number_at memory (at + 4) 4 =
    same_Some c.unwrap-size.result (number_at memory (at + 4) 4)
    (sym c.unwrap-size.ensures ∙ rw c.from.ensures at c.load32-in-Text.ensures.loaded ∙ loaded-inside memory (at + 4) 4 (omega (arith, c.requires.inside))) in
    let octets = rw c.unwrap-in-Text.ensures at c.octets_at.ensures.octets in
    rw (octets, address, size) (text-is there.0 memory (number_at memory at 4) (number_at memory (at + 4) 4) text).1
