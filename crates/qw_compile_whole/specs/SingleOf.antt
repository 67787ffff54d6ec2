-- The statement of the module of a query with set functions and no GROUP BY: of the pipelines of its well placed plan of the rows that these take, and of HAVING
-- and the select list behind them, over the columns that it reads, with its literals (ISO/IEC 9075:1992, 7.8, 7.9).
use Rattle.std.specs.Prelude.{List, length}
use Rattle.qw_module.specs.declared.instruction.ValType.{ValType}
use Rattle.qw_grouped.specs.Query.{GroupedParts, grouped_of}
use Rattle.qw_map.specs.Layout.{Layout}
use Rattle.qw_low.specs.declared.step.LowStep.{LowStep}
use Rattle.qw_compile_whole.specs.GroupColumns.{value_columns}
use Rattle.qw_compile_whole.specs.SingleMade.{IsSingleMade}
use Rattle.qw_compile_whole.specs.StatementOf.{IsPlannedOf}
use Rattle.qw_compile_whole.specs.WholeTexts.{texts_of_grouped}

abbrev pub IsSingleOf : GroupedParts → Layout → (code : List LowStep) → (locals : List ValType) → Type 0
IsSingleOf parts layout code locals = IsPlannedOf parts (λ ps group behind columns used. IsSingleMade (length ps) (texts_of_grouped parts) ps group (value_columns (grouped_of parts)) behind columns used layout code locals)
