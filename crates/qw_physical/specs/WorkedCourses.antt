-- The worked case of courses: A JOIN B ON A.key = B.key, of which the second column of B is selected. A has the keys 1 and 2, and B the rows
-- (1, 10), (null, 20) and (1, 30). And of courses of A LEFT JOIN B, where A has a null besides, with another conjunct in ON.
use Rattle.std.specs.Prelude.{pos, false, true, List, [], ◌∷◌}
use Rattle.qw_types.specs.declared.value.Ty.TheVariants.{Integer}
use Rattle.qw_types.specs.declared.value.Val.{Val}
use Rattle.qw_types.specs.declared.value.Val.TheVariants.{Null, Num}
use Rattle.qw_scalar.specs.Expression.{Condition, column}
use Rattle.qw_physical.specs.Physical.{Pipeline, build, probe, select}
use Rattle.qw_physical.specs.declared.pipeline.ReadColumn.{ReadColumn}

abbrev pub two_tables : List (List (List Val))
two_tables =
    ((Num (pos 1) ∷ []) ∷ (Num (pos 2) ∷ []) ∷ [])
    ∷ ((Num (pos 1) ∷ Num (pos 10) ∷ []) ∷ (Null ∷ Num (pos 20) ∷ []) ∷ (Num (pos 1) ∷ Num (pos 30) ∷ []) ∷ []) ∷ []

-- the second column of B, which is entry 1 of FROM
abbrev pub second_column : ReadColumn
second_column = record { number = 65; ty = Integer; not_null = false }

-- B is built by its key, and A looks it up
abbrev pub builds_b : Pipeline
builds_b = record { entry = 1; table = 1; operators = []; sink = build (record { table = 0; key = column 64 Integer ∷ []; kept = second_column ∷ [] }) }

abbrev pub looks_up_b : Pipeline
looks_up_b = record {
  entry = 0;
  table = 0;
  operators = probe (record { table = 0; outer = false; key = column 0 Integer ∷ []; kept = second_column ∷ []; on = [] }) ∷ [];
  sink = select (column 65 Integer ∷ []);
}

-- A's keys 1, 2 and null look up the entries of two rows of B
abbrev pub with_null : List (List (List Val))
with_null = ((Num (pos 1) ∷ []) ∷ (Num (pos 2) ∷ []) ∷ (Null ∷ []) ∷ []) ∷ []

abbrev pub entries_of_b : List (List (List Val))
entries_of_b = ((Num (pos 1) ∷ Num (pos 10) ∷ []) ∷ (Num (pos 1) ∷ Num (pos 30) ∷ []) ∷ []) ∷ []

abbrev pub left_joins_b : (on : List Condition) → Pipeline
left_joins_b on = record {
  entry = 0;
  table = 0;
  operators = probe (record { table = 0; outer = true; key = column 0 Integer ∷ []; kept = second_column ∷ []; on = on }) ∷ [];
  sink = select (column 0 Integer ∷ column 65 Integer ∷ []);
}
