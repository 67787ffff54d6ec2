use Rattle.std.proofs.Common.{◌≡◌, length, refl, sym, ap, subst, ◌∙◌, arith}
use Rattle.std.proofs.lemmas.Option.{slice_get_read}
use Rattle.qw_valid.specs.Heights.{StaysWithin, AreHeightsOf}
use Rattle.qw_module.specs.Typing.{Signature}
use Rattle.qw_module.specs.Validity.{code_of_body, outside_of, signature_in}
use Rattle.qw_valid.specs.declared.heights.Heights.{Heights}
use Rattle.qw_valid.specs.Inner.Heights.{holding, wider}
use Rattle.qw_valid.proofs.HeightFacts.{function_within}
use Rattle.qw_valid.proofs.ValidBodies.{signature_is}
use Rattle.qw_valid.proofs.heights.function_heights.Goals as goal

pub returns : goal.returns
returns c =
    let m = c.args.module.now in
    let function = c.args.function.now in
    let most = c.in_ok-needs.needs in
    let ty = c.index.result.now in
    let found = slice_get_read m.types.items (length m.types.items) function.type_index ty refl c.requires.body.0 c.index.ensures in
    let same : length (signature_in m function.type_index).results ≡ length ty.results.items =
    ap (λ (s : Signature). length s.results) (signature_is m function.type_index ty found) in
    let many : c.len-results.result ≡ length (signature_in m function.type_index).results = omega (arith, same, c.len-results.ensures, ty.results.ok.0) in
    let body : StaysWithin ((outside_of m).functions) most.operands most.labels (code_of_body function.body) 0 = c.in_ok-needs.ensures in
    let both : wider most (holding c.len-results.result) ≡ c.wider.result = ap (wider most) (sym c.holding.ensures) ∙ sym c.wider.ensures in
    subst (λ (heights : Heights). AreHeightsOf m function heights.operands heights.labels) both (function_within m function most c.len-results.result body many)
