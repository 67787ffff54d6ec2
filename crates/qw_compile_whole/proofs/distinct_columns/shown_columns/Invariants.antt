use Rattle.std.proofs.Common.{◌≡◌, map, take}
use Rattle.qw_scalar.specs.declared.expression.Expr.TheVariants.{Column}
use Rattle.qw_physical.specs.declared.pipeline.ReadColumn.{ReadColumn}
use Rattle.qw_compile_whole.proofs.distinct_columns.shown_columns.Given as goal

abbrev pub invariant-loop-column : goal.invariant-loop-column
invariant-loop-column l = l.made.items ≡ map (λ (c : ReadColumn). Column c.number c.ty) (take l.column-index l.columns)
