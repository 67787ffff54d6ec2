use Rattle.std.proofs.Common.{◌≡◌, ◌++◌, ◌∷◌, [], ◌∙◌, sym, ap, List, ℕ, rules}
use Rattle.qw_octet_grammar.specs.Reading.{read}
use Rattle.qw_scan.specs.Inner.Over.{item_over}
use Rattle.qw_scan.specs.Inner.Offsets.{offsets}
use Rattle.qw_scan.proofs.OffsetLemmas.{offsets_more, offsets_all}
use Rattle.qw_scan.proofs.tables.offsets_from.Goals as goal

pub loop-preserved : goal.loop-preserved
loop-preserved c =
    let g = item_over c.args.item in
    let found = c.loop.found.items in
    let items : c.push.new.self.items ≡ found ++ c.loop.at ∷ [] = search rules in
    let more = offsets_more g c.args.octets.now found c.args.count c.loop.counter c.loop.at c.in-Ok.after.now (offsets g c.args.octets.now c.args.count c.args.first)
    c.loop-test.true (ap (λ (bs : List ℕ). read g bs) (sym c.from.ensures) ∙ c.in-Ok.ensures) c.loop.invariant in
    rw (items, c.saturating_sub-at.ensures) more

pub returns : goal.returns
returns c =
    offsets_all (item_over c.args.item) c.args.octets.now c.loop.found.items c.args.count c.loop.counter c.loop.at
    (offsets (item_over c.args.item) c.args.octets.now c.args.count c.args.first) c.loop-test.false c.loop.invariant
