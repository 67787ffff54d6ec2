-- One more column of the grouped table.
use Rattle.std.proofs.Common.{◌≡◌, ℕ, ◌+◌, ◌<◌, false, List, [], ◌∷◌, ◌++◌, length, map, take, get_or, sym, ap, ap₂, ◌∙◌, arith}
use Rattle.std.proofs.lemmas.List.{length-map, length-take-le, map_more, take_more}
use Rattle.qw_scalar.specs.Typing.{kind_of}
use Rattle.qw_grouped.specs.Grouped.{SetFunction, type_of_function}
use Rattle.qw_grouped.specs.Query.{function_of}
use Rattle.qw_grouped.specs.declared.query.GroupedColumn.{GroupedColumn}
use Rattle.qw_grouped.specs.declared.set_function.SetFunction as coded
use Rattle.qw_physical.specs.declared.pipeline.ReadColumn.{ReadColumn}
use Rattle.qw_group_pipeline.specs.declared.columns.ValueColumn.{ValueColumn}
use Rattle.qw_compile_whole.specs.GroupColumns.{argument_kind, key_from, values_from}

-- ---- those of GROUP BY
key_append : (n : ℕ) (xs ys : List GroupedColumn) → key_from n (xs ++ ys) ≡ key_from n xs ++ key_from (n + length xs) ys
key_append n [] ys = let place : n ≡ n + length {A = GroupedColumn} [] = omega arith in ap (λ (m : ℕ). key_from m ys) place
key_append n (x ∷ xs) ys =
    let place : n + 1 + length xs ≡ n + length (x ∷ xs) = omega arith in
    ap (λ (l : List ReadColumn). record { number = n; ty = x.ty; not_null = false } ∷ l) (key_append (n + 1) xs ys ∙ ap (λ (m : ℕ). key_from (n + 1) xs ++ key_from m ys) place)

pub key_next : (cs : List GroupedColumn) (i : ℕ) (d : GroupedColumn) (old new : List ReadColumn) → i < length cs → old ≡ key_from 0 (take i cs) → new ≡ old ++ record { number = i; ty = (get_or cs i d).ty; not_null = false } ∷ [] → new ≡ key_from 0 (take (i + 1) cs)
key_next cs i d old new less before added =
    let place : 0 + length (take i cs) ≡ i = omega (arith, length-take-le i cs (omega (arith, less))) in
    added ∙ (ap (λ (l : List ReadColumn). l ++ record { number = i; ty = (get_or cs i d).ty; not_null = false } ∷ []) before
    ∙ (ap (λ (m : ℕ). key_from 0 (take i cs) ++ record { number = m; ty = (get_or cs i d).ty; not_null = false } ∷ []) (sym place)
    ∙ (sym (key_append 0 (take i cs) (get_or cs i d ∷ [])) ∙ ap (key_from 0) (sym (take_more cs i d less)))))

-- ---- and of the set functions
abbrev value_at : ℕ → SetFunction → ValueColumn
value_at n f = record { number = n; ty = type_of_function f; function = f.kind; argument = argument_kind (kind_of f.argument) }

values_append : (n : ℕ) (xs ys : List SetFunction) → values_from n (xs ++ ys) ≡ values_from n xs ++ values_from (n + length xs) ys
values_append n [] ys = let place : n ≡ n + length {A = SetFunction} [] = omega arith in ap (λ (m : ℕ). values_from m ys) place
values_append n (x ∷ xs) ys =
    let place : n + 1 + length xs ≡ n + length (x ∷ xs) = omega arith in
    ap (λ (l : List ValueColumn). value_at n x ∷ l) (values_append (n + 1) xs ys ∙ ap (λ (m : ℕ). values_from (n + 1) xs ++ values_from m ys) place)

pub values_next : (n : ℕ) (fs : List coded.SetFunction) (i : ℕ) (f : coded.SetFunction) (v : ValueColumn) (old new : List ValueColumn) → i < length fs → f ≡ get_or fs i f → old ≡ values_from n (map function_of (take i fs)) →
    v ≡ value_at (n + i) (function_of f) → new ≡ old ++ v ∷ [] → new ≡ values_from n (map function_of (take (i + 1) fs))
values_next n fs i f v old new less is before value added =
    let front : List SetFunction = map function_of (take i fs) in
    let place : n + length front ≡ n + i = omega (arith, length-map (take i fs) function_of, length-take-le i fs (omega (arith, less))) in
    added ∙ (ap₂ (λ (l : List ValueColumn) (w : ValueColumn). l ++ w ∷ []) before value
    ∙ (ap (λ (m : ℕ). values_from n front ++ value_at m (function_of f) ∷ []) (sym place)
    ∙ (ap (λ (d : coded.SetFunction). values_from n front ++ value_at (n + length front) (function_of d) ∷ []) is
    ∙ (sym (values_append n front (function_of (get_or fs i f) ∷ [])) ∙ ap (values_from n) (sym (map_more function_of fs i f less))))))
