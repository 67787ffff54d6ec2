use Rattle.std.proofs.Common.{ℕ, ap, ◌∙◌, ◌≡◌, List, Ok, drop, sym}
use Rattle.std.specs.List.{filter_map}
use Rattle.qw_octet_grammar.specs.Numbers.{u32}
use Rattle.qw_octet_grammar.specs.Reading.{read}
use Rattle.qw_octet_grammar.specs.Vectors.{vector}
use Rattle.qw_module.specs.Validity.{imported_memory}
use Rattle.qw_binary.specs.Types.{limits}
use Rattle.qw_scan.proofs.ModuleBodies.{none_more, counted_in_all, sum_is}
use Rattle.qw_scan.proofs.bodies.memories_of.Goals as goal

pub returns-in_default : goal.returns-in_default
returns-in_default c = λ there. none_more (vector limits) c.args.octets.now c.args.at (filter_map imported_memory c.args.imports.now) c.imported_memories-imported.result c.in_default.is c.imported_memories-imported.ensures.count

pub returns : goal.returns
returns c = λ there.
    let sized : read u32 (drop c.in-Some.at c.args.octets.now) ≡ Ok (c.in-Ok.count, c.in-Ok.field-0-1.now) = ap (λ (bs : List ℕ). read u32 bs) (sym c.from.ensures) ∙ c.in-Ok.ensures in
    sum_is c.checked_add.result _ _ _ c.checked_add.ensures
    (counted_in_all limits c.args.octets.now c.args.at c.in-Some.at c.in-Ok.count c.in-Ok.field-0-1.now (filter_map imported_memory c.args.imports.now) c.imported_memories-imported.result c.in-Some.is sized c.imported_memories-imported.ensures.count there)
