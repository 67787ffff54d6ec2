-- The queries of the worked cases of sizes and of texts, as the code has them.
use Rattle.std.specs.Prelude.{ℕ, pos, List, [], replicate}
use Rattle.qw_scalar.specs.declared.expression.Cond.{Cond}
use Rattle.qw_scalar.specs.declared.expression.Expr.{Expr}
use Rattle.qw_scalar.specs.declared.expression.Expr.TheVariants.{Number}
use Rattle.qw_meaning.specs.Query.{QueryParts}
use Rattle.qw_grouped.specs.Query.{GroupedParts}
use Rattle.qw_grouped.specs.WorkedGroups.{by_label}
use Rattle.qw_grouped.specs.declared.set_function.SetFunction.{SetFunction}
use Rattle.qw_grouped.specs.declared.set_function.SetFunctionKind.{SetFunctionKind}
use Rattle.qw_grouped.specs.declared.set_function.SetFunctionKind.TheVariants.{CountRows}

abbrev pub set_function : SetFunctionKind → Expr → SetFunction
set_function kind argument = record { kind = kind; argument = argument }

abbrev pub of_parts : (conjuncts : List Cond) → List SetFunction → (having : List Cond) → List Expr → GroupedParts
of_parts conjuncts functions having items =
    record { sources = []; conjuncts = conjuncts; columns = []; functions = functions; having = having; items = items }

-- 64 columns of GROUP BY, and COUNT(*) so many times
abbrev pub of_many_columns : (functions : ℕ) → (having : List Cond) → List Expr → GroupedParts
of_many_columns functions having items = record {
  sources = [];
  conjuncts = [];
  columns = replicate 64 by_label;
  functions = replicate functions (set_function CountRows (Number (pos 1) 0));
  having = having;
  items = items;
}

-- what isn't grouped
abbrev pub plain_parts : (conjuncts : List Cond) → List Expr → QueryParts
plain_parts conjuncts items = record { sources = []; conjuncts = conjuncts; items = items }
