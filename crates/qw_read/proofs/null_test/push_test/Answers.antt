use Rattle.std.proofs.Common.{◌≡◌, ℕ, ◌+◌, List, ◌++◌, ap, ◌∙◌, append_assoc, arith}
use Rattle.qw_module.specs.declared.instruction.ValType.TheVariants.{I32}
use Rattle.qw_module.specs.declared.instruction.Sign.TheVariants.{Unsigned}
use Rattle.qw_module.specs.declared.instruction.Binary.TheVariants.{Shr}
use Rattle.qw_low.specs.declared.step.LowStep.{LowStep}
use Rattle.qw_low.specs.Steps.{steps_of}
use Rattle.qw_low.specs.Syntax.{local, binop, seq, assign}
use Rattle.qw_read.specs.Inner.Blocks.{i32, row_at}
use Rattle.qw_read.specs.Inner.NullBlocks.{octet_block, octets_block}
use Rattle.qw_read.proofs.null_test.push_test.Goals as goal

pub returns : goal.returns
returns c =
    let free = c.args.free in
    let old = c.args.block.now.code.items in
    let row : List LowStep = steps_of (seq (assign free (row_at c.args.first)) (assign (free + 1) (binop I32 (Shr Unsigned) (local free) (i32 5)))) in
    let one : List LowStep = steps_of (octet_block c.args.first (free + 1) (free + 2)) in
    let others : ℕ → List LowStep = λ k. steps_of (octets_block (free + 1) k c.args.rest.now) in
    let place : free + 3 ≡ free + 2 + 1 = omega arith in
    c.in_ok-push_octets.ensures
    ∙ (ap (λ (code : List LowStep). code ++ others (free + 3)) c.in_ok-push_octet.ensures
    ∙ (append_assoc c.extend_from_slice.new.self.items one (others (free + 3))
    ∙ (ap (λ (code : List LowStep). code ++ (one ++ others (free + 3))) c.in_ok-extend_from_slice.ensures.items
    ∙ (append_assoc old row (one ++ others (free + 3)) ∙ ap (λ (k : ℕ). old ++ (row ++ (one ++ others k))) place))))
