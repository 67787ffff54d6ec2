use Rattle.qw_machine.proofs.ShapeFacts.{shape-found}
use Rattle.qw_machine.proofs.shape.shaped_run.Goals as goal

pub returns : goal.returns
returns c =
    let memory = rw c.deref.ensures.value at (c.imports_memory.ensures.0 c.if-not-imports_memory.false) in
    shape-found c.args.«module».now c.exported_run.result memory (c.imports_raise.ensures.0 c.if-not-imports_raise.false)
    c.exported_run.ensures.none c.exported_run.ensures.some
