use Rattle.std.proofs.Common.{◌≡◌, List, ℕ, Ok, refl, ap, ◌∙◌}
use Rattle.qw_octet_grammar.specs.Reading.{read}
use Rattle.qw_binary.specs.Instructions.{expression}
use Rattle.qw_scan.specs.Inner.Bodies.{outside_in}
use Rattle.qw_scan.specs.Inner.Signatures.{signature_of}
use Rattle.qw_scan.proofs.CodeLemmas.{code_parts, same_typing, judged}
use Rattle.qw_scan.proofs.bodies.check_code.Goals as goal

pub returns : goal.returns
returns c = λ f rest e.
    let parts = code_parts c.args.index c.args.octets.now f rest e in
    let locals = c.in-Some-locals_at.ensures f.locals parts.0 parts.2 in
    let reads : read expression c.in-Some-locals_at.body.now ≡ Ok (f.body, parts.1) = ap (λ (bs : List ℕ). read expression bs) locals.1 ∙ parts.3 in
    let outside = outside_in c.args.module_scope in
    let types = c.args.module_scope.types.now in
    let same = same_typing outside types f c.args.index (signature_of c.in-Ok.ty) _ _ _ parts.4 c.in-Ok.ensures refl locals.0 c.in-Some.ensures in
    judged c.check_body.result outside types f _ same (c.check_body.ensures.typable f.body parts.1 reads) (c.check_body.ensures.refused f.body parts.1 reads)
