use Rattle.std.proofs.Common.{List, ℕ, sym, subst}
use Rattle.std.proofs.lemmas.Option.{IfSome_then}
use Rattle.qw_octet_grammar.specs.Vectors.{vector}
use Rattle.qw_binary.specs.Sections.{export}
use Rattle.qw_scan.specs.Inner.Outlines.{values_at}
use Rattle.qw_scan.proofs.OffsetLemmas.{AreExports, export_offsets_are}
use Rattle.qw_scan.proofs.tables.export_offsets.Goals as goal

pub returns : goal.returns
returns c = λ there.
    let whole = c.args.octets.now in
    IfSome_then c.offsets_at.result c.offsets_at.ensures (λ v same. subst (λ (found : List ℕ). AreExports whole found (values_at (vector export) whole c.args.at)) (sym same) (export_offsets_are whole c.args.at there))
