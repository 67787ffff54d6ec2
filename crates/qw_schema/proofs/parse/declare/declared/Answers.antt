use Rattle.std.proofs.Common.{◌≡◌, ◌+◌, ◌++◌, ◌∷◌, [], ◌∙◌, arith}
use Rattle.std.proofs.lemmas.Grind.{common_steps}
use Rattle.qw_schema.proofs.DeclareLemmas.{judged_faults, judged_next}
use Rattle.qw_schema.proofs.parse.declare.declared.Goals as goal

pub returns-in_err-table-clause-fault : goal.returns-in_err-table-clause-fault
returns-in_err-table-clause-fault c = grind (arith, judged_faults)

pub loop-index-preserved : goal.loop-index-preserved
loop-index-preserved c =
    let tables = c.loop-index.tables.items in
    let table = c.in_ok-table.table in
    let judged = rw c.as_slice.ensures.value at c.in_ok-table.ensures.table in
    let pushed : c.push.new.self.items ≡ tables ++ table ∷ [] = grind (arith, common_steps) in
    rw pushed (c.loop-index.invariant ∙ judged_next tables (c.loop-index.index + 1) c.args.statements.now c.loop-index.index _ table c.loop-index-test.true judged)
