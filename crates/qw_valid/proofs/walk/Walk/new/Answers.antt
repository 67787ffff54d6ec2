use Rattle.std.proofs.Common.{◌≡◌, ℕ, ◌+◌, ◌-◌, length, Global, get_or, List, Vec, Some, ap, ◌∙◌, subst, arith}
use Rattle.qw_module.specs.declared.instruction.Instr.{Instr}
use Rattle.qw_valid.specs.Inner.Checking.{Walked}
use Rattle.qw_valid.proofs.WalkLemmas.{first-same, length_from_numbered}
use Rattle.qw_valid.proofs.walk.Walk.new.Goals as goal

pub returns-clause-first : goal.returns-clause-first
returns-clause-first c =
    let k = c.args.checker in
    let kept = c.as_slice-sequences.result.now in
    let same : kept ≡ k.body.now.sequences.items = c.as_slice-sequences.ensures.value in
    let n : ℕ = length kept - 1 in
    let some = length_from_numbered k.body.now c.requires in
    let last : n + 1 ≡ length k.body.now.sequences.items = omega (arith, ap (λ (xs : List (Vec Instr Global)). length xs) same, some) in
    let read = subst (λ (xs : List (Vec Instr Global)). c.index-sequences-last.result ≡ get_or xs n c.index-sequences-last.result) same c.index-sequences-last.is in
    ap (λ (w : Walked). Some w) (first-same k.body.now k.result n c.len.result c.index-sequences-last.result c.requires last read c.len.ensures)
    ∙ rw (c.new.ensures, c.new-2.ensures.items) at c.in_ok-begin.ensures.begun
