use Rattle.std.proofs.Common.{List, ℕ, sym, subst}
use Rattle.std.proofs.lemmas.Option.{IfSome_then}
use Rattle.qw_octet_grammar.specs.Vectors.{vector}
use Rattle.qw_binary.specs.Types.{func_type}
use Rattle.qw_scan.specs.Inner.Outlines.{values_at}
use Rattle.qw_scan.proofs.OffsetLemmas.{AreTypes, type_offsets_are}
use Rattle.qw_scan.proofs.tables.type_offsets.Goals as goal

pub returns : goal.returns
returns c = λ there.
    let whole = c.args.octets.now in
    IfSome_then c.offsets_at.result c.offsets_at.ensures (λ v same. subst (λ (found : List ℕ). AreTypes whole found (values_at (vector func_type) whole c.args.at)) (sym same) (type_offsets_are whole c.args.at there))
