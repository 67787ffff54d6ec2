-- The row of a group is formed of the values of its set functions one after the other, and the first that raises is raised.
use Rattle.std.proofs.Common.{◌≡◌, ℕ, ◌+◌, List, [], ◌∷◌, ◌++◌, length, Ok, Err, refl, subst, arith}
use Rattle.qw_types.specs.declared.code.Code.{Code}
use Rattle.qw_types.specs.declared.value.Val.{Val}
use Rattle.qw_grouped.specs.Groups.{Group, function_values, group_row, values_at}
use Rattle.qw_grouped.specs.SetFunctions.{set_function_value}
use Rattle.qw_grouped.specs.declared.set_function.SetFunctionKind.{SetFunctionKind}
use Rattle.qw_whole.specs.GroupTables.{AreValues}

pub values_formed : (place : ℕ) (functions : List SetFunctionKind) (rows : List (List Val)) (values : List Val) → AreValues place functions rows values → function_values place functions rows ≡ Ok values
values_formed place [] rows [] h = refl
values_formed place [] rows (v ∷ values) h = absurd h
values_formed place (f ∷ functions) rows [] h = absurd h
values_formed place (f ∷ functions) rows (v ∷ values) h = rw (h.0, values_formed (place + 1) functions rows values h.1) refl

pub row_formed : (columns : ℕ) (functions : List SetFunctionKind) (group : Group) (values : List Val) → AreValues columns functions group.rows values
    → group_row columns functions group ≡ Ok ((group.key ++ values) ∷ [])
row_formed columns functions group values h = rw (values_formed columns functions group.rows values h) refl

pub values_raise : (place : ℕ) (before : List SetFunctionKind) (f : SetFunctionKind) (after : List SetFunctionKind) (rows : List (List Val)) (values : List Val) (code : Code)
    → AreValues place before rows values → set_function_value f (values_at (place + length before) rows) ≡ Err code → function_values place (before ++ f ∷ after) rows ≡ Err code
values_raise place [] f after rows values code h e =
    let there : place + 0 ≡ place = omega arith in
    let first : set_function_value f (values_at place rows) ≡ Err code = subst (λ (p : ℕ). set_function_value f (values_at p rows) ≡ Err code) there e in
    rw first refl
values_raise place (g ∷ before) f after rows [] code h e = absurd h
values_raise place (g ∷ before) f after rows (v ∷ values) code h e =
    let there : place + length (g ∷ before) ≡ place + 1 + length before = omega arith in
    let rest : function_values (place + 1) (before ++ f ∷ after) rows ≡ Err code =
    values_raise (place + 1) before f after rows values code h.1 (subst (λ (p : ℕ). set_function_value f (values_at p rows) ≡ Err code) there e) in
    rw (h.0, rest) refl

pub row_raises : (columns : ℕ) (before : List SetFunctionKind) (f : SetFunctionKind) (after : List SetFunctionKind) (group : Group) (values : List Val) (code : Code)
    → AreValues columns before group.rows values → set_function_value f (values_at (columns + length before) group.rows) ≡ Err code
    → group_row columns (before ++ f ∷ after) group ≡ Err code
row_raises columns before f after group values code h e = rw (values_raise columns before f after group.rows values code h e) refl
