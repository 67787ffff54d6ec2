use Rattle.std.proofs.Common.{List, ℕ, ap, ◌∙◌, arith}
use Rattle.std.proofs.lemmas.List.{length-map}
use Rattle.qw_octet_grammar.specs.Reading.{read}
use Rattle.qw_binary.specs.Types.{func_type}
use Rattle.qw_scan.specs.Inner.Signatures.{signature_of}
use Rattle.qw_scan.specs.Inner.TypesAt.{type_by}
use Rattle.qw_scan.proofs.TypeLemmas.{one_result_all, one_result_more, one_result_not}
use Rattle.qw_scan.proofs.types.Types.have_one_result.Goals as goal

pub returns-then-ty-gt1 : goal.returns-then-ty-gt1
returns-then-ty-gt1 c =
    rw (← c.self.view_is) (one_result_not c.self.inside.octets.now c.self.inside.offsets.now c.loop-offset.offset-index (signature_of c.in_ok-ty.ty) c.self.invariant c.loop-offset-test.true
    (λ s rest e. c.in_ok-ty.ensures s rest (ap (λ (bs : List ℕ). read func_type bs) c.from.ensures ∙ e)) (omega (arith, length-map c.in_ok-ty.ty.results.now type_by, c.if-ty-gt1.true)) c.loop-offset.invariant)

pub loop-offset-preserved : goal.loop-offset-preserved
loop-offset-preserved c =
    one_result_more c.self.inside.octets.now c.self.inside.offsets.now c.loop-offset.offset-index (signature_of c.in_ok-ty.ty) c.self.invariant c.loop-offset-test.true
    (λ s rest e. c.in_ok-ty.ensures s rest (ap (λ (bs : List ℕ). read func_type bs) c.from.ensures ∙ e)) (omega (arith, length-map c.in_ok-ty.ty.results.now type_by, c.if-ty-gt1.false)) c.loop-offset.invariant

pub returns : goal.returns
returns c =
    rw (← c.self.view_is) (one_result_all c.self.inside.octets.now c.self.inside.offsets.now c.loop-offset.offset-index c.loop-offset-test.false c.loop-offset.invariant)
