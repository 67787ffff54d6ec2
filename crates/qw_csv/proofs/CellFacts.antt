-- Laws of texts that stand one after another: how long they are together, and where each one is among them.
use Rattle.std.proofs.Common.{◌≡◌, ◌+◌, ◌∙◌, ℕ, zero, suc, List, [], ◌∷◌, length, take, drop, refl, sym, ap, arith, length-append, Some}
use Rattle.std.specs.Prelude.{slice_get}
use Rattle.std.proofs.Math.Seq.{drop-append-add, drop-nil, take-append_seam}
use Rattle.qw_types.specs.Value.{text_octets}
use Rattle.qw_types.specs.declared.value.Val.{Val}
use Rattle.qw_types.specs.declared.value.Val.TheVariants as val
use Rattle.qw_csv.specs.Cells.{octets_in, octets_together}

-- what is left of octets, taken away in two parts
pub drop_further : (start count : ℕ) (octets : List ℕ) → drop count (drop start octets) ≡ drop (start + count) octets
drop_further zero count octets = let same : count ≡ 0 + count = omega arith in ap (λ (n : ℕ). drop n octets) same
drop_further (suc start) count [] = drop-nil count ∙ sym (drop-nil (suc start + count))
drop_further (suc start) count (octet ∷ octets) =
    let one : suc (start + count) ≡ suc start + count = omega arith in
    drop_further start count octets ∙ ap (λ (n : ℕ). drop n (octet ∷ octets)) one

-- texts end where the octets before and their own do
pub text_octets-front : (value : Val) (values : List Val) → text_octets (value ∷ values) ≡ length (octets_in value) + text_octets values
text_octets-front val.Null values = omega arith
text_octets-front (val.Num number) values = omega arith
text_octets-front (val.Date number) values = omega arith
text_octets-front (val.Text octets) values = refl

-- the octets of all texts, in numbers
pub together_long : (values : List Val) → length (octets_together values) ≡ text_octets values
together_long [] = refl
together_long (value ∷ values) =
    length-append (octets_in value) (octets_together values) ∙ ap (λ (n : ℕ). length (octets_in value) + n) (together_long values) ∙ sym (text_octets-front value values)

-- the octets of each text among them
pub text_among : (values : List Val) (row : ℕ) (value : Val) → slice_get values row ≡ Some value
    → take (length (octets_in value)) (drop (text_octets (take row values)) (octets_together values)) ≡ octets_in value
text_among [] row value is = absurd (cc is)
text_among (first ∷ values) zero value is =
    let same : first ≡ value = cc is in
    rw (← same) (take-append_seam (octets_in first) (octets_together values))
text_among (first ∷ values) (suc row) value is =
    rw (text_octets-front first (take row values), drop-append-add (octets_in first) (octets_together values) (text_octets (take row values)))
    (text_among values row value is)
