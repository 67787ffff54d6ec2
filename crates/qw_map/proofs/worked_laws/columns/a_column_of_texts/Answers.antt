use Rattle.std.proofs.Common.{◌≡◌, false, ℕ, zero, suc, ◌≤◌, ◌<◌, take, Some, slice_get, [], refl, sym, ◌∙◌, arith}
use Rattle.std.proofs.lemmas.Option.{same_Some, none-some}
use Rattle.qw_types.specs.Value.{text_octets}
use Rattle.qw_types.specs.declared.value.Ty.TheVariants.{Varchar}
use Rattle.qw_types.specs.declared.value.Val.{Val}
use Rattle.qw_types.specs.declared.value.Val.TheVariants as val
use Rattle.qw_linear.specs.Memory.{number_at}
use Rattle.qw_map.specs.Columns.{null_bit, text_offset, stored_at, value_at, blank}
use Rattle.qw_map.specs.Worked.{labels, label_octets, label_values}
use Rattle.qw_map.proofs.worked_laws.columns.a_column_of_texts.Goals as goal

each : (row : ℕ) (value : Val) → slice_get label_values row ≡ Some value → value_at (label_octets 3 2) (Varchar 10) false labels row ≡ value
unfolding number_at
each zero value found = same_Some _ value found
each (suc zero) value found = same_Some _ value found
each (suc (suc zero)) value found = same_Some _ value found
each (suc (suc (suc row))) value found = absurd (none-some value found)

blanks : (row : ℕ) → slice_get label_values row ≡ Some val.Null → stored_at (label_octets 3 2) (Varchar 10) labels row ≡ blank (Varchar 10)
unfolding number_at
blanks zero found = cc
blanks (suc zero) found = refl
blanks (suc (suc zero)) found = cc
blanks (suc (suc (suc row))) found = absurd (none-some val.Null found)

offsets : (row : ℕ) → row ≤ 3 → text_offset (label_octets 3 2) labels row ≡ text_octets (take row label_values)
unfolding number_at
offsets zero within = refl
offsets (suc zero) within = refl
offsets (suc (suc zero)) within = refl
offsets (suc (suc (suc zero))) within = refl
offsets (suc (suc (suc (suc row)))) within = absurd (omega arith)

spare : (row : ℕ) → 3 ≤ row → row < 8 → null_bit (label_octets 3 2) 24 row ≡ 0
unfolding number_at
spare zero behind within = absurd (omega arith)
spare (suc zero) behind within = absurd (omega arith)
spare (suc (suc zero)) behind within = absurd (omega arith)
spare (suc (suc (suc zero))) behind within = refl
spare (suc (suc (suc (suc zero)))) behind within = refl
spare (suc (suc (suc (suc (suc zero))))) behind within = refl
spare (suc (suc (suc (suc (suc (suc zero)))))) behind within = refl
spare (suc (suc (suc (suc (suc (suc (suc zero))))))) behind within = refl
spare (suc (suc (suc (suc (suc (suc (suc (suc row)))))))) behind within = absurd (omega arith)

pub returns-clause-held : goal.returns-clause-held
returns-clause-held c = record {
  rows_are = refl;
  size_is = refl;
  inside = (omega arith, (omega arith, (omega arith, tt)));
  each = each;
  blanks = blanks;
  offsets = offsets;
  spare = spare;
}

last-is : text_offset (label_octets 4 2) labels 3 ≡ 4
unfolding number_at
last-is = refl

pub returns-clause-last : goal.returns-clause-last
returns-clause-last c = λ holds. let is = holds.offsets 3 (omega arith) in omega (arith, is, last-is)

third-null : value_at (label_octets 3 4) (Varchar 10) false labels 2 ≡ val.Null
unfolding number_at
third-null = refl

null-text : val.Null ≡ val.Text [] → ⊥
null-text is = cc

pub returns-clause-null : goal.returns-clause-null
returns-clause-null c = λ holds. null-text (sym third-null ∙ holds.each 2 (val.Text []) refl)

spare-set : null_bit (label_octets 3 10) 24 3 ≡ 1
unfolding number_at
spare-set = refl

pub returns-clause-spare : goal.returns-clause-spare
returns-clause-spare c = λ holds. let is = holds.spare 3 (omega arith) (omega arith) in omega (arith, is, spare-set)

pub returns-clause-behind : goal.returns-clause-behind
returns-clause-behind c = λ holds. let inside = holds.inside.1.1.0 in omega (arith, inside)

pub returns-clause-size : goal.returns-clause-size
returns-clause-size c = λ holds. let is = holds.size_is in omega (arith, is)

pub returns-clause-rows : goal.returns-clause-rows
returns-clause-rows c = λ holds. let is = holds.rows_are in omega (arith, is)
