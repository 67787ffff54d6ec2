use Rattle.std.proofs.Common.{◌≡◌, Some, slice_get, sym, ◌∙◌}
use Rattle.qw_scan.specs.Inner.Signatures.{signature_of}
use Rattle.qw_scan.proofs.TypeLemmas.{callee_type}
use Rattle.qw_scan.proofs.scope.Scope.callee.Goals as goal

pub returns : goal.returns
returns c =
    let scope = c.args.self.now in
    let there : slice_get scope.functions.now c.args.index ≡ Some c.in_ok-ty.ty = sym c.number_of.ensures ∙ c.in_ok-ty.ensures.ok_part in
    callee_type scope.types.now scope.functions.now c.args.index c.in_ok-ty.ty (signature_of c.in-Ok.found) there c.in-Ok.ensures
