-- The text of rows, a line at a time.
use Rattle.std.proofs.Common.{◌≡◌, ◌<◌, ◌≤◌, ◌+◌, ◌-◌, ◌^◌, ◌∙◌, ◌⊎◌, inl, inr, zero, suc, refl, arith, ℕ, List, [], ◌∷◌, ◌++◌, map, length, take, get_or, sym, ap, append_assoc}
use Rattle.std.specs.List.{flat_map}
use Rattle.std.proofs.lemmas.Grind.{flat_map-append}
use Rattle.std.proofs.lemmas.List.{append-nil, length-take}
use Rattle.qw_types.specs.declared.value.Val.{Val}
use Rattle.qw_sink.specs.declared.sink.Head.{Head}
use Rattle.qw_sink.specs.Sink.{line_of, printed, printed_row, text_of_rows}

-- no row: the header alone
pub text_of_rows-none : (header : List Head) → text_of_rows header [] ≡ line_of (map (λ (h : Head). h.name) header)
text_of_rows-none header = append-nil (line_of (map (λ (h : Head). h.name) header))

-- one more row: its line at the end
pub text_of_rows-push : (header : List Head) (rows : List (List Val)) (row : List Val) → text_of_rows header (rows ++ row ∷ []) ≡ text_of_rows header rows ++ line_of (printed_row header row)
text_of_rows-push header rows row =
    let names = line_of (map (λ (h : Head). h.name) header) in
    let line = λ (r : List Val). line_of (printed_row header r) in
    ap (λ t. names ++ t) (flat_map-append line rows (row ∷ []) ∙ ap (λ t. flat_map line rows ++ t) (append-nil (line row)))
    ∙ sym (append_assoc names (flat_map line rows) (line row))

-- ---- the values of a row

-- one more value
pub printed-more : (header : List Head) (values : List Val) (i : ℕ) (head : Head) (value : Val) → i < length header → i < length values →
    head ≡ get_or header i head → value ≡ get_or values i value →
    take (i + 1) (printed_row header values) ≡ take i (printed_row header values) ++ printed head.kind value ∷ []
printed-more [] values i head value less within is at = absurd (omega (arith, less))
printed-more (h ∷ header) [] i head value less within is at = absurd (omega (arith, within))
printed-more (h ∷ header) (v ∷ values) zero head value less within is at = rw (is, at) refl
printed-more (h ∷ header) (v ∷ values) (suc i) head value less within is at =
    let next : suc i + 1 ≡ suc (i + 1) = omega arith in
    rw next (ap (λ (t : List (List ℕ)). printed h.kind v ∷ t) (printed-more header values i head value (omega arith) (omega arith) is at))

-- all of them
pub printed-all : (header : List Head) (values : List Val) (i : ℕ) → (length header ≤ i) ⊎ (length values ≤ i) → take i (printed_row header values) ≡ printed_row header values
printed-all [] values zero past = refl
printed-all [] values (suc i) past = refl
printed-all (h ∷ header) [] zero past = refl
printed-all (h ∷ header) [] (suc i) past = refl
printed-all (h ∷ header) (v ∷ values) zero (inl past) = absurd (omega (arith, past))
printed-all (h ∷ header) (v ∷ values) zero (inr past) = absurd (omega (arith, past))
printed-all (h ∷ header) (v ∷ values) (suc i) (inl past) = ap (λ (t : List (List ℕ)). printed h.kind v ∷ t) (printed-all header values i (inl (omega (arith, past))))
printed-all (h ∷ header) (v ∷ values) (suc i) (inr past) = ap (λ (t : List (List ℕ)). printed h.kind v ∷ t) (printed-all header values i (inr (omega (arith, past))))

-- few of them are taken
pub few-taken-values : (row : List (List ℕ)) (i : ℕ) → i + 1 ≤ 2 ^ 64 - 1 → length (take i row) < 2 ^ 64 - 1
few-taken-values row i fits = omega (arith, length-take i row)
