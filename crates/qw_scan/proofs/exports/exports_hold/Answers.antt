use Rattle.std.proofs.Common.{get_or, refl, sym, ◌∙◌}
use Rattle.std.proofs.lemmas.Bool.{false≢true}
use Rattle.std.proofs.lemmas.List.Elements.{All-get_or}
use Rattle.qw_scan.specs.Inner.ExportsAt.{IsExportAt}
use Rattle.qw_scan.proofs.ExportLemmas.{kind_there, among_more, all_among, not_among}
use Rattle.qw_scan.proofs.exports.exports_hold.Goals as goal

pub returns-then-not-is_among : goal.returns-then-not-is_among
returns-then-not-is_among c = λ all.
    let octets = c.args.octets.now in
    let offsets = c.args.offsets.now in
    let i = c.loop-offset.offset-index in
    let is = kind_there octets c.from.result.now (get_or offsets i 0) c.in_ok-kind.kind c.from.ensures c.in_ok-kind.ensures (All-get_or (IsExportAt octets) offsets i 0 c.loop-offset-test.true all) in
    (λ so. absurd (false≢true so), λ among. sym c.if-not-is_among.true ∙ c.is_among.ensures.1 (not_among c.args.counts octets offsets i c.in_ok-kind.kind c.loop-offset-test.true is among))

pub loop-offset-preserved : goal.loop-offset-preserved
loop-offset-preserved c = λ all.
    let octets = c.args.octets.now in
    let offsets = c.args.offsets.now in
    let i = c.loop-offset.offset-index in
    let is = kind_there octets c.from.result.now (get_or offsets i 0) c.in_ok-kind.kind c.from.ensures c.in_ok-kind.ensures (All-get_or (IsExportAt octets) offsets i 0 c.loop-offset-test.true all) in
    among_more c.args.counts octets offsets i c.in_ok-kind.kind c.loop-offset-test.true (c.loop-offset.invariant all) (c.is_among.ensures.0 c.if-not-is_among.false) is

pub returns : goal.returns
returns c = λ all. (λ _. all_among c.args.counts c.args.octets.now c.args.offsets.now c.loop-offset.offset-index c.loop-offset-test.false (c.loop-offset.invariant all), λ _. refl)
