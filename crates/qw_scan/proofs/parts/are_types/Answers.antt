use Rattle.std.proofs.Common.{◌≡◌, ◌∙◌, ◌↔◌, List, All, IsTrue, map, ap, subst}
use Rattle.std.specs.Prelude.{IfSome}
use Rattle.qw_module.specs.Typing.{Signature}
use Rattle.qw_scan.specs.Inner.Parts.{HasOneResult}
use Rattle.qw_scan.specs.Inner.TypesAt.{signature_at}
use Rattle.qw_scan.proofs.PartLemmas.{types_told}
use Rattle.qw_scan.proofs.parts.are_types.Goals as goal

pub returns : goal.returns
returns c = λ m same.
    let whole = c.args.octets.now in
    let is : c.new.result ≡ map (signature_at whole) c.args.tables.now.types.items = c.new.ensures ∙ ap (map (signature_at whole)) c.deref.ensures.value in
    types_told whole c.args.outline c.args.tables.now c.requires m same c.types_hold.result
    (subst (λ (types : List Signature). IfSome c.types_hold.result (λ h. IsTrue h ↔ All HasOneResult types)) is c.types_hold.ensures)
