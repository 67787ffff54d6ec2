use Rattle.std.proofs.Common.{◌∙◌, List, length, ap}
use Rattle.std.specs.List.{filter_map}
use Rattle.qw_module.specs.declared.module.Import.{Import}
use Rattle.qw_module.specs.Validity.{imported_memory}
use Rattle.qw_scan.proofs.PartLemmas.{memories_told}
use Rattle.qw_scan.proofs.parts.are_memories.Goals as goal

pub returns : goal.returns
returns c = λ m same.
    let imported = c.imported_memories-imported.ensures.count ∙ ap (λ (imports : List Import). length (filter_map imported_memory imports)) c.deref.ensures.value in
    memories_told c.args.octets.now c.args.outline c.args.tables.now c.requires m same c.imported_memories-imported.result c.memories_hold.result imported (c.memories_hold.ensures c.requires.outlined.memories)
