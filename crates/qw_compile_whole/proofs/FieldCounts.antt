-- How many fields there are where the values of a row are, and how many set functions over them.
use Rattle.std.proofs.Common.{◌≡◌, ℕ, zero, suc, ◌+◌, drop, Option, List, [], ◌∷◌, length, map, refl, ap, ◌∙◌, arith}
use Rattle.std.proofs.lemmas.List.{length-map}
use Rattle.qw_types.specs.declared.kind.Kind.{Kind}
use Rattle.qw_scalar.specs.Typing.{kind_of}
use Rattle.qw_grouped.specs.declared.set_function.SetFunctionKind.{SetFunctionKind}
use Rattle.qw_feed.specs.Cells.{kinds_of}
use Rattle.qw_table.specs.Joins.{sources_of}
use Rattle.qw_table.specs.declared.key.Field.{Field}
use Rattle.qw_operator.specs.Grouping.{CanGroup, Group, over_fields}

pub over_many : (functions : List SetFunctionKind) (fields : List Field) → length fields ≡ length functions → length (over_fields functions fields) ≡ length functions
over_many [] [] many = refl
over_many [] (x ∷ fields) many = absurd (omega (arith, many))
over_many (f ∷ functions) [] many = absurd (omega (arith, many))
over_many (f ∷ functions) (x ∷ fields) many = let rest = over_many functions fields (omega (arith, many)) in omega (arith, rest)

pub dropped_many : (n : ℕ) (fields : List Field) (m : ℕ) → length fields ≡ n + m → length (drop n fields) ≡ m
dropped_many zero fields m many = omega (arith, many)
dropped_many (suc n) [] m many = absurd (omega (arith, many))
dropped_many (suc n) (f ∷ fields) m many = dropped_many n fields m (omega (arith, many))

-- a field for each value
pub fields_long : (group : Group) (fields : List Field) → kinds_of (sources_of fields) ≡ map kind_of group.values → length fields ≡ length group.values
fields_long group fields kinds =
    by_kinds fields ∙ (ap (λ (ks : List (Option Kind)). length ks) kinds ∙ length-map group.values kind_of)
  where
    by_kinds : (fs : List Field) → length fs ≡ length (kinds_of (sources_of fs))
    by_kinds [] = refl
    by_kinds (f ∷ fs) = ap suc (by_kinds fs)

-- an area for each set function
pub areas_long : (group : Group) (fields : List Field) → CanGroup group → group.columns ≡ 0 → kinds_of (sources_of fields) ≡ map kind_of group.values → length (over_fields group.functions fields) ≡ length group.functions
areas_long group fields can none kinds = over_many group.functions fields (let count = fields_long group fields kinds in let many = can.many in omega (arith, count, many, none))
