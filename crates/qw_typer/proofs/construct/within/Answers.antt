use Rattle.std.proofs.Common.{◌≡◌, ℕ, ◌+◌, Result, ap, arith}
use Rattle.std.specs.Prelude.{IfOk}
use Rattle.qw_scalar.specs.declared.expression.Cond.{Cond}
use Rattle.qw_scalar.specs.Nodes as typed
use Rattle.qw_typer.specs.declared.refusal.Refusal.{Refusal}
use Rattle.qw_typer.specs.Sizes.{text_octets}
use Rattle.qw_typer.specs.Inner.Sizes.{FitsCondition}
use Rattle.qw_typer.proofs.construct.within.Goals as goal

same_count : (r : Result Cond Refusal) (n n' k : ℕ) → n' ≡ n → IfOk r (λ made. FitsCondition made n k) → IfOk r (λ made. FitsCondition made n' k)
same_count r n n' k same h = rw same h

pub returns-clause-fits : goal.returns-clause-fits
returns-clause-fits c n k m j p i operand least greatest =
    let e1 = ap typed.nodes c.in_ok-operand.ensures.first in
    let e2 = ap typed.nodes c.in_ok-operand.ensures.second in
    let e3 = ap typed.nodes c.in_ok-operand.ensures.third in
    let o1 = ap text_octets c.in_ok-operand.ensures.first in
    let o2 = ap text_octets c.in_ok-operand.ensures.second in
    let o3 = ap text_octets c.in_ok-operand.ensures.third in
    same_count c.with_not.result (1 + (1 + (n + (m + p)))) (2 + (n + (m + p))) (k + (j + i)) (omega arith)
    (c.with_not.ensures.fits (1 + (n + (m + p))) (k + (j + i)) (record { nodes_fit = omega (arith, e1, e2, e3); octets_fit = omega (arith, o1, o2, o3) }))
