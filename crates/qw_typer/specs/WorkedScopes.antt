-- The scopes of worked cases: over FROM A, and over its grouped table.
use Rattle.std.specs.Prelude.{ℕ, false, List, [], ◌∷◌, Some, None, codes}
use Rattle.qw_types.specs.declared.schema.Column.{Column}
use Rattle.qw_types.specs.declared.value.Ty.{Ty}
use Rattle.qw_types.specs.declared.value.Ty.TheVariants.{Integer, Decimal, Varchar}
use Rattle.qw_ast.specs.declared.script.SetFunction.{SetFunction}
use Rattle.qw_ast.specs.Syntax.{Expression, column, set_function}
use Rattle.qw_typer.specs.declared.fault.FaultKind.{FaultKind}
use Rattle.qw_typer.specs.Faults.{Fault, faults}
use Rattle.qw_typer.specs.Meant.{Entry, Grouping, Scope, ungrouped}

abbrev column_of : List ℕ → Ty → Column
column_of name ty = record { name = name; ty = ty; not_null = false }

-- A (K INTEGER, X VARCHAR(5), F DECIMAL(18, 14), G DECIMAL(18, 15))
abbrev pub entry_a : Entry
entry_a = record {
  name = codes "A";
  number = 0;
  table = 0;
  columns = column_of (codes "K") Integer ∷ column_of (codes "X") (Varchar 5) ∷ column_of (codes "F") (Decimal 18 14) ∷ column_of (codes "G") (Decimal 18 15) ∷ [];
}

-- GROUP BY X, K, and two set functions, behind which stand 9 and 3 tokens of the text
abbrev pub by_x_and_k : Grouping
by_x_and_k = record {
  columns = record { number = 1; ty = Varchar 5 } ∷ record { number = 0; ty = Integer } ∷ [];
  functions = record { place = 9; ty = Decimal 18 0 } ∷ record { place = 3; ty = Decimal 18 14 } ∷ [];
}

-- ON, WHERE and the arguments of set functions; HAVING and the select list
abbrev pub over_a : Scope
over_a = ungrouped (entry_a ∷ [])

abbrev pub over_groups : Scope
over_groups = record { entries = entry_a ∷ []; grouping = Some by_x_and_k }

-- a column by its name alone
abbrev pub named : List ℕ → Expression
named name = column None name

-- the faults of a set function of a column over the grouped table
abbrev pub faults_of : SetFunction → List ℕ → List Fault
faults_of f name = faults over_groups (set_function 3 f (named name))

abbrev pub fault : FaultKind → List ℕ → List Fault
fault kind name = record { kind = kind; name = name } ∷ []
