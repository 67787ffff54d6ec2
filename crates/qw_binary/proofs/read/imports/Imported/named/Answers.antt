use Rattle.std.specs.Prelude.{codes}
use Rattle.qw_binary.proofs.ImportLemmas.{unlike, differs, from_elsewhere, of_no_name}
use Rattle.qw_binary.proofs.read.imports.Imported.named.Goals as goal

pub returns-then-ne : goal.returns-then-ne
returns-then-ne c = from_elsewhere c.args.before.now c.args.from.now c.args.name.now (differs c.args.from.now (codes "q") c.ne.result c.ne.ensures c.if-ne.true)

pub returns-else-eq-3 : goal.returns-else-eq-3
returns-else-eq-3 c =
    of_no_name c.args.before.now c.args.from.now c.args.name.now (unlike c.args.name.now (codes "memory") c.eq.result c.eq.ensures c.if-eq.false)
    (unlike c.args.name.now (codes "raise") c.eq-else-eq.result c.eq-else-eq.ensures c.if-eq-2.false)
    (unlike c.args.name.now (codes "pages") c.eq-else-eq-2.result c.eq-else-eq-2.ensures c.if-eq-3.false)
