-- The places of columns in rows of FROM.
use Rattle.std.proofs.Common.{◌≡◌, ◌∙◌, ◌⊎◌, ◌<◌, ◌≤◌, ◌+◌, ◌-◌, ◌*◌, ℕ, zero, suc, List, [], ◌∷◌, ◌++◌, length, replicate, slice_get, inl, inr, refl, sym, ap, ap₂, arith}
use Rattle.qw_types.specs.declared.value.Val.{Val}
use Rattle.qw_types.specs.declared.value.Val.TheVariants.{Null, Num, Date, Text}
use Rattle.qw_scalar.specs.Evaluation.{cell_of}
use Rattle.qw_meaning.specs.From.{at_places, first_of, merged}

-- the value at a place of a row, null past its end
abbrev pub cell : List Val → ℕ → Val
cell row i = cell_of (slice_get row i)

pub first_of_null : (v : Val) → first_of v Null ≡ v
first_of_null Null = refl
first_of_null (Num v) = refl
first_of_null (Date d) = refl
first_of_null (Text t) = refl

pub merged_cell : (row others : List Val) (i : ℕ) → cell (merged row others) i ≡ first_of (cell row i) (cell others i)
merged_cell [] others i = refl
merged_cell (v ∷ row) [] i = sym (first_of_null (cell (v ∷ row) i))
merged_cell (v ∷ row) (w ∷ others) zero = refl
merged_cell (v ∷ row) (w ∷ others) (suc i) = merged_cell row others i

pub cell_before : (n i : ℕ) (row : List Val) → i < n → cell (replicate n Null ++ row) i ≡ Null
cell_before zero i row lt = absurd (omega arith)
cell_before (suc n) zero row lt = refl
cell_before (suc n) (suc i) row lt = cell_before n i row (omega arith)

pub cell_behind : (n i : ℕ) (row : List Val) → cell (replicate n Null ++ row) (n + i) ≡ cell row i
cell_behind zero i row = ap (cell row) (omega arith)
cell_behind (suc n) i row =
    let next : suc n + i ≡ suc (n + i) = omega arith in
    ap (cell (replicate (suc n) Null ++ row)) next ∙ cell_behind n i row

pub cell_past : (row : List Val) (i : ℕ) → length row ≤ i → cell row i ≡ Null
cell_past [] i long = refl
cell_past (v ∷ row) zero long = absurd (omega arith)
cell_past (v ∷ row) (suc i) long = cell_past row i (omega arith)

-- beside the places of its entry a row has nulls
pub null_beside : (entry : ℕ) (row : List Val) (i : ℕ) → length row ≤ 64 → (i < 64 * entry) ⊎ (64 * entry + 64 ≤ i) → cell (at_places entry row) i ≡ Null
null_beside entry row i short (inl before) = cell_before (64 * entry) i row before
null_beside entry row i short (inr behind) =
    let far : i ≡ 64 * entry + (i - 64 * entry) = omega (arith, behind) in
    ap (cell (at_places entry row)) far ∙ cell_behind (64 * entry) (i - 64 * entry) row ∙ cell_past row (i - 64 * entry) (omega (arith, behind, short))

pub of_first : (row other : List Val) (entry later i : ℕ) → entry < later → length row ≤ 64 → i < length row →
    cell (merged (at_places entry row) (at_places later other)) (64 * entry + i) ≡ cell row i
of_first row other entry later i lt short within =
    merged_cell (at_places entry row) (at_places later other) (64 * entry + i)
    ∙ ap₂ first_of (cell_behind (64 * entry) i row) (cell_before (64 * later) (64 * entry + i) other (omega (arith, lt, short, within)))
    ∙ first_of_null (cell row i)

pub of_second : (row other : List Val) (entry later i : ℕ) → entry < later → length row ≤ 64 →
    cell (merged (at_places entry row) (at_places later other)) (64 * later + i) ≡ cell other i
of_second row other entry later i lt short =
    merged_cell (at_places entry row) (at_places later other) (64 * later + i)
    ∙ ap₂ first_of (null_beside entry row (64 * later + i) short (inr (omega (arith, lt)))) (cell_behind (64 * later) i other)
