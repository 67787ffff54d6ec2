use Rattle.std.proofs.Common.{List, subst, ◌↔◌}
use Rattle.std.specs.Prelude.{IsTrue}
use Rattle.std.specs.List.{AllPairs}
use Rattle.qw_scan.specs.declared.exports.NamePlace.{NamePlace}
use Rattle.qw_scan.specs.Inner.Exported.{AreApart, name_in}
use Rattle.qw_scan.proofs.ExportLemmas.{names_told}
use Rattle.qw_scan.proofs.exports.names_differ.Goals as goal

pub returns : goal.returns
returns c = λ all.
    let octets = c.args.octets.now in
    let told = subst (λ (places : List NamePlace). IsTrue c.are_apart.result ↔ AllPairs (AreApart (name_in octets)) places) c.deref_mut.ensures.value c.are_apart.ensures in
    names_told octets c.args.offsets.now c.in_ok-places.places.items c.are_apart.result (c.in_ok-places.ensures all) told
