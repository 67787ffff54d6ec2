use Rattle.std.proofs.Common.{◌≡◌, false, ℕ, pos, zero, suc, Some, List, [], ◌∷◌, slice_get, refl, sym, ◌∙◌, arith, ◌≤◌, ◌<◌}
use Rattle.std.proofs.lemmas.Option.{same_Some, none-some}
use Rattle.qw_types.specs.declared.value.Ty.TheVariants.{Integer}
use Rattle.qw_types.specs.declared.value.Val.{Val}
use Rattle.qw_types.specs.declared.value.Val.TheVariants as val
use Rattle.qw_linear.specs.Memory.{number_at}
use Rattle.qw_map.specs.Columns.{null_bit, stored_at, value_at, blank}
use Rattle.qw_map.specs.Worked.{numbers, number_octets}
use Rattle.qw_map.proofs.worked_laws.columns.a_column_with_a_null.Goals as goal

abbrev values : List Val
values = val.Num (pos 5) ∷ val.Null ∷ []

each : (row : ℕ) (value : Val) → slice_get values row ≡ Some value → value_at (number_octets 0) Integer false numbers row ≡ value
unfolding number_at
each zero value found = same_Some _ value found
each (suc zero) value found = same_Some _ value found
each (suc (suc row)) value found = absurd (none-some value found)

blanks : (row : ℕ) → slice_get values row ≡ Some val.Null → stored_at (number_octets 0) Integer numbers row ≡ blank Integer
unfolding number_at
blanks zero found = cc
blanks (suc zero) found = refl
blanks (suc (suc row)) found = absurd (none-some val.Null found)

spare : (row : ℕ) → 2 ≤ row → row < 8 → null_bit (number_octets 0) 8 row ≡ 0
unfolding number_at
spare zero behind within = absurd (omega arith)
spare (suc zero) behind within = absurd (omega arith)
spare (suc (suc zero)) behind within = refl
spare (suc (suc (suc zero))) behind within = refl
spare (suc (suc (suc (suc zero)))) behind within = refl
spare (suc (suc (suc (suc (suc zero))))) behind within = refl
spare (suc (suc (suc (suc (suc (suc zero)))))) behind within = refl
spare (suc (suc (suc (suc (suc (suc (suc zero))))))) behind within = refl
spare (suc (suc (suc (suc (suc (suc (suc (suc row)))))))) behind within = absurd (omega arith)

pub returns-clause-held : goal.returns-clause-held
returns-clause-held c = record {
  rows_are = refl;
  size_is = refl;
  inside = (omega arith, (omega arith, (omega arith, tt)));
  each = each;
  blanks = blanks;
  offsets = tt;
  spare = spare;
}

seven : stored_at (number_octets 7) Integer numbers 1 ≡ val.Num (pos 7)
unfolding number_at
seven = refl

differ : val.Num (pos 7) ≡ val.Num (pos 0) → ⊥
differ is = cc

pub returns-clause-blank : goal.returns-clause-blank
returns-clause-blank c = λ holds. differ (sym seven ∙ holds.blanks 1 refl)
