-- A record, field by field.
use Rattle.std.proofs.Common.{Bor, IsSome, Option, option_map, List, ℕ, ◌≡◌, ◌<◌, ◌+◌, ◌∷◌, [], Some, None, zero, suc, length, get_or, take, map, refl, ap, sym, ◌∙◌, arith, add-one}
use Rattle.std.specs.Char.{to_ascii_lowercase}
use Rattle.std.proofs.lemmas.List.{length-map}
use Rattle.csv.proofs.RecordFacts.{field-get, field-there}
use Rattle.csv.specs.Records.{field_at}
use Rattle.qw_types.specs.declared.schema.Column.{Column}
use Rattle.qw_csv.specs.Loading.{IsHeader}

-- ---- the header

-- a header has as many names as there are columns
pub header_count : (columns : List Column) (fields : List (List ℕ)) → IsHeader columns fields → length fields ≡ length columns
header_count columns fields h =
    sym (length-map fields (λ field. map to_ascii_lowercase field)) ∙ ap length h ∙ length-map columns (λ (c : Column). map to_ascii_lowercase c.name)

-- one more name
name_more : (columns : List Column) (fields : List (List ℕ)) (n : ℕ) (column : Column) → n < length columns → length fields ≡ length columns
    → map to_ascii_lowercase (get_or fields n []) ≡ map to_ascii_lowercase (get_or columns n column).name
    → IsHeader (take n columns) (take n fields) → IsHeader (take (suc n) columns) (take (suc n) fields)
name_more [] fields n column lt same name h = absurd (omega arith)
name_more (c ∷ columns) [] n column lt same name h = absurd (omega arith)
name_more (c ∷ columns) (f ∷ fields) zero column lt same name h = ap (λ x. x ∷ []) name
name_more (c ∷ columns) (f ∷ fields) (suc n) column lt same name h = both (name_more columns fields n column (omega arith) (omega arith) name (cc h))
  where
    both : IsHeader (take (suc n) columns) (take (suc n) fields) → IsHeader (c ∷ take (suc n) columns) (f ∷ take (suc n) fields)
    both more = cc (h, more)

pub header_more : (columns : List Column) (fields : List (List ℕ)) (n : ℕ) (column : Column) → n < length columns → length fields ≡ length columns
    → map to_ascii_lowercase (get_or fields n []) ≡ map to_ascii_lowercase (get_or columns n column).name
    → IsHeader (take n columns) (take n fields) → IsHeader (take (n + 1) columns) (take (n + 1) fields)
header_more columns fields n column lt same name h = rw add-one (name_more columns fields n column lt same name h)

-- each name of a header is its column's
pub header_name : (columns : List Column) (fields : List (List ℕ)) (n : ℕ) (column : Column) → n < length columns → IsHeader columns fields
    → map to_ascii_lowercase (get_or fields n []) ≡ map to_ascii_lowercase (get_or columns n column).name
header_name [] fields n column lt h = absurd (omega arith)
header_name (c ∷ columns) [] n column lt h = cc h
header_name (c ∷ columns) (f ∷ fields) zero column lt h = cc h
header_name (c ∷ columns) (f ∷ fields) (suc n) column lt h = header_name columns fields n column (omega arith) (cc h)

-- ---- a data record

-- there is a field at each index
pub some_field : (fields : List (List ℕ)) (n : ℕ) (read : Option (Bor (List ℕ))) → n < length fields
    → option_map (λ (field : Bor (List ℕ)). field.now) read ≡ field_at fields n → IsSome read
some_field fields n (Some field) lt h = refl
some_field fields n None lt h = absurd (field-there fields n lt (sym h))

pub field_read : (fields : List (List ℕ)) (n : ℕ) (read : Option (Bor (List ℕ))) (field : Bor (List ℕ)) → read ≡ Some field
    → option_map (λ (field : Bor (List ℕ)). field.now) read ≡ field_at fields n → field.now ≡ get_or fields n []
field_read fields n read field is h = sym (field-get fields n field.now (sym (rw is at h)))
