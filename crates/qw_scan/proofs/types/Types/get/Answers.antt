use Rattle.std.proofs.Common.{◌≡◌, List, ℕ, Some, slice_get, ap, sym, ◌∙◌}
use Rattle.qw_octet_grammar.specs.Reading.{read}
use Rattle.qw_binary.specs.Types.{func_type}
use Rattle.qw_scan.specs.Inner.Signatures.{signature_of}
use Rattle.qw_scan.proofs.TypeLemmas.{got_type}
use Rattle.qw_scan.proofs.types.Types.get.Goals as goal

pub returns : goal.returns
returns c =
    let there : slice_get c.self.inside.offsets.now c.args.index ≡ Some c.in_ok-offset.offset = sym c.number_of.ensures ∙ c.in_ok-offset.ensures.ok_part in
    rw (← c.self.view_is) (got_type c.self.inside.octets.now c.self.inside.offsets.now c.args.index c.in_ok-offset.offset (signature_of c.in-Some.ty) c.self.invariant there
    (λ s rest e. c.in-Some.ensures s rest (ap (λ (bs : List ℕ). read func_type bs) c.from.ensures ∙ e)))
