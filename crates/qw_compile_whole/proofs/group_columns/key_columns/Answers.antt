use Rattle.std.proofs.Common.{◌++◌, [], ◌∷◌, ap, ◌∙◌}
use Rattle.qw_physical.specs.declared.pipeline.ReadColumn.{ReadColumn}
use Rattle.qw_compile_whole.proofs.ColumnSteps.{key_next}
use Rattle.qw_compile_whole.proofs.group_columns.key_columns.Goals as goal

pub loop-number-preserved : goal.loop-number-preserved
loop-number-preserved c =
    key_next c.args.columns.now c.loop-number.number _ c.loop-number.made.items c.push.new.self.items c.loop-number-test.true c.loop-number.invariant
    (c.in_ok-push.ensures.items ∙ ap (λ (r : ReadColumn). c.loop-number.made.items ++ r ∷ []) c.key_column.ensures)
