use Rattle.std.proofs.Common.{◌≡◌, ℕ, List, length, ap, sym, ◌∙◌, arith}
use Rattle.std.proofs.lemmas.Bool.{false≢true, leb-true, le-leb}
use Rattle.qw_octet_grammar.specs.Numbers.{u32}
use Rattle.qw_octet_grammar.specs.Reading.{read}
use Rattle.qw_octet_grammar.specs.Vectors.{vector}
use Rattle.qw_module.specs.Validity.{IsValidMemory}
use Rattle.qw_binary.specs.Types.{limits}
use Rattle.qw_scan.specs.Inner.Outlines.{values_at}
use Rattle.qw_scan.proofs.ModuleBodies.{count_there}
use Rattle.qw_scan.proofs.TestLemmas.{told_at, none_at, all_of_none, few_told}
use Rattle.qw_scan.proofs.memories.memories_hold.Goals as goal

pub returns-in_default : goal.returns-in_default
returns-in_default c = λ there.
    let none : length (values_at (vector limits) c.args.octets.now c.args.at) ≡ 0 = ap length (none_at limits IsValidMemory c.args.octets.now c.args.at c.in_default.is) in (
      λ so. (all_of_none limits IsValidMemory c.args.octets.now c.args.at c.in_default.is, let few = leb-true c.args.imported 1 so in omega (arith, few, none)),
      λ both. let few = both.1 in le-leb c.args.imported 1 (omega (arith, few, none)),
    )

pub returns-then-imported-gt1 : goal.returns-then-imported-gt1
returns-then-imported-gt1 c = λ there. (λ so. absurd (false≢true so), λ both. absurd (omega (arith, both.1, c.if-imported-gt1.true)))

pub returns-then-count-imported : goal.returns-then-count-imported
returns-then-count-imported c = λ there.
    let long = count_there limits c.args.octets.now c.args.at c.in-Some.at c.in-Ok.count c.in-Ok.rest.now c.in-Some.is (ap (λ (bs : List ℕ). read u32 bs) (sym c.from.ensures) ∙ c.in-Ok.ensures) there in
    (λ so. absurd (false≢true so), λ both. absurd (omega (arith, both.1, long, c.if-count-imported.true, c.if-imported-gt1.false)))

pub returns : goal.returns
returns c = λ there.
    let reads = ap (λ (bs : List ℕ). read u32 bs) (sym c.from.ensures) ∙ c.in-Ok.ensures in
    let long = count_there limits c.args.octets.now c.args.at c.in-Some.at c.in-Ok.count c.in-Ok.rest.now c.in-Some.is reads there in
    few_told IsValidMemory c.are_memories.result (values_at (vector limits) c.args.octets.now c.args.at) c.args.imported (omega (arith, long, c.if-count-imported.false, c.if-imported-gt1.false))
    (told_at limits IsValidMemory c.args.octets.now c.args.at c.in-Some.at c.in-Ok.count c.in-Ok.rest.now c.are_memories.result c.in-Some.is reads c.are_memories.ensures there)
