use Rattle.std.proofs.Common.{◌↔◌, List, All, IsTrue, subst, arith}
use Rattle.qw_module.specs.declared.module.Import.{Import}
use Rattle.qw_scan.specs.Inner.Parts.{IsImportOf}
use Rattle.qw_scan.proofs.PartLemmas.{imports_told}
use Rattle.qw_scan.proofs.parts.are_imports.Goals as goal

pub returns : goal.returns
returns c = λ m same.
    imports_told c.args.octets.now c.args.outline c.args.tables.now c.requires m same c.len.result c.imports_hold.result (omega (arith, c.len.ensures, c.args.tables.now.types.ok.0))
    (subst (λ (imports : List Import). IsTrue c.imports_hold.result ↔ All (IsImportOf c.len.result) imports) c.deref.ensures.value c.imports_hold.ensures)
