-- The chain of the result rows that were found so far, whose cells are whole numbers, and what keeps it. Lists of what is done stand
-- with the last first.
use Rattle.std.proofs.Common.{◌≡◌, ℕ, zero, suc, ◌+◌, ◌*◌, ◌≤◌, ◌⊎◌, inl, inr, true, List, [], ◌∷◌, length, map, Some, refl, ap, ◌∙◌, subst, arith, w64}
use Rattle.std.specs.Int.{cast_signed}
use Rattle.qw_types.specs.Arithmetic.{fits}
use Rattle.qw_types.specs.declared.kind.Kind.{Kind}
use Rattle.qw_types.specs.declared.kind.Kind.TheVariants as kind
use Rattle.qw_types.specs.declared.value.Val.{Val}
use Rattle.qw_types.specs.declared.value.Val.TheVariants.{Num}
use Rattle.qw_linear.specs.Memory.{number_at}
use Rattle.qw_map.specs.Areas.{Area, are_covered}
use Rattle.qw_map.specs.Layout.{row_size, cell_at, cells_at, row_at, rows_from}
use Rattle.qw_map.proofs.AccessLemmas.{covered-part}

-- what is done, the last first, before what follows
abbrev pub onto : {T : Type 0} → List T → List T → List T
onto [] following = following
onto (x ∷ done) following = onto done (x ∷ following)

pub length-onto : {T : Type 0} (done following : List T) → length (onto done following) ≡ length done + length following
length-onto [] following = omega arith
length-onto (x ∷ done) following = omega (arith, length-onto done (x ∷ following))

-- so many whole numbers
abbrev pub numbers : ℕ → List Kind
numbers zero = []
numbers (suc n) = kind.Number 0 ∷ numbers n

pub length-numbers : (n : ℕ) → length (numbers n) ≡ n
length-numbers zero = refl
length-numbers (suc n) = ap suc (length-numbers n)

-- their cells depend on their octets alone, wherever texts may lie
pub numbers-same : (texts texts' : List Area) (m m' : List ℕ) (n at : ℕ) →
    ((a w : ℕ) → at ≤ a → a + w ≤ at + 16 * n → number_at m' a w ≡ number_at m a w) → cells_at texts' m' at (numbers n) ≡ cells_at texts m at (numbers n)
numbers-same texts texts' m m' zero at same = refl
numbers-same texts texts' m m' (suc n) at same =
    rw (
      same at 8 (omega arith) (omega arith),
      same (at + 8) 1 (omega arith) (omega arith),
      numbers-same texts texts' m m' n (at + 16) (λ a w low high. same a w (omega arith) (omega arith)),
    ) refl

-- The rows that were found so far, the last first, are chained from the descriptor on; the last link stands at `link`, and all
-- of it lies below `high`, each row behind the one before it.
unfoldable pub Chain : (cells : ℕ) (own : List Area) (m : List ℕ) (d : ℕ) (found : List (List Val)) (link high : ℕ) → Type 0
Chain cells own m d [] link high = (link ≡ d + 8) × (link + 4 ≤ high)
Chain cells own m d (row ∷ found) link high =
    (earlier : ℕ) × (d + 64 ≤ link) × (link + row_size cells ≤ high) × (are_covered own link (row_size cells) ≡ true)
    × (number_at m earlier 4 ≡ link) × (cells_at [] m (link + 8) (numbers cells) ≡ Some row) × Chain cells own m d found earlier link

-- where the octets of a chain lie: the first link, and rows behind the descriptor's head
unfoldable pub OfChain : (d at width : ℕ) → Type 0
OfChain d at width = ((at ≡ d + 8) × (width ≡ 4)) ⊎ (d + 64 ≤ at)

module _ (cells d : ℕ) where
  -- where the last link lies
  pub Chain-link : (own : List Area) (m : List ℕ) → are_covered own (d + 8) 4 ≡ true → (found : List (List Val)) (link high : ℕ) →
      Chain cells own m d found link high → (are_covered own link 4 ≡ true) × (link + 4 ≤ high) × OfChain d link 4
  unfolding Chain OfChain
  Chain-link own m head [] link high h = (rw h.0 head, h.1, inl (h.0, refl))
  Chain-link own m head (row ∷ found) link high h =
      (covered-part own link (row_size cells) h.3 link 4 (omega arith) (omega arith), omega (arith, h.2), inr h.1)

  -- a chain stays where its octets do, but for the last link
  pub Chain-same : (own own' : List Area) (m m' : List ℕ) → are_covered own (d + 8) 4 ≡ true →
      ((at width : ℕ) → are_covered own at width ≡ true → are_covered own' at width ≡ true) → (found : List (List Val)) (link high : ℕ) →
      ((at width : ℕ) → are_covered own at width ≡ true → at + width ≤ high → (at + width ≤ link) ⊎ (link + 4 ≤ at) → OfChain d at width →
      number_at m' at width ≡ number_at m at width) →
      Chain cells own m d found link high → Chain cells own' m' d found link high
  unfolding Chain OfChain
  Chain-same own own' m m' head wider [] link high same h = h
  Chain-same own own' m m' head wider (row ∷ found) link high same h =
      let where_earlier = Chain-link own m head found h.0 link h.6 in (
        h.0,
        h.1,
        h.2,
        wider link (row_size cells) h.3,
        same h.0 4 where_earlier.0 (omega (arith, where_earlier.1, h.2)) (inl where_earlier.1) where_earlier.2 ∙ h.4,
        numbers-same [] [] m m' cells (link + 8)
            (λ a w low to. same a w (covered-part own link (row_size cells) h.3 a w (omega arith) (omega arith))
            (omega (arith, h.2)) (inr (omega arith)) (inr (omega (arith, h.1)))) ∙ h.5,
        Chain-same own own' m m' head wider found h.0 link
            (λ a w inside to apart of. same a w inside (omega (arith, h.2)) (inl to) of) h.6,
      )

  -- a chain lies below any greater address
  pub Chain-higher : (own : List Area) (m : List ℕ) (found : List (List Val)) (link high high' : ℕ) → high ≤ high' →
      Chain cells own m d found link high → Chain cells own m d found link high'
  unfolding Chain
  Chain-higher own m [] link high high' le h = (h.0, omega (arith, h.1))
  Chain-higher own m (row ∷ found) link high high' le h = (h.0, h.1, omega (arith, h.2), h.3, h.4, h.5, h.6)

  -- the rows that are read from the descriptor on, where those behind the last link are known
  pub Chain-rows : (texts own : List Area) (m : List ℕ) (found : List (List Val)) (link high count : ℕ) (following : List (List Val)) →
      Chain cells own m d found link high → rows_from (numbers cells) texts own m count (number_at m link 4) ≡ Some following →
      rows_from (numbers cells) texts own m (length found + count) (number_at m (d + 8) 4) ≡ Some (onto found following)
  unfolding Chain
  Chain-rows texts own m [] link high count following h rest = let none : 0 + count ≡ count = omega arith in rw none (rw h.0 at rest)
  Chain-rows texts own m (row ∷ found) link high count following h rest =
      let here : row_at (numbers cells) texts own m link ≡ Some row =
      rw (length-numbers cells, h.3) (numbers-same [] texts m m cells (link + 8) (λ a w low to. refl) ∙ h.5) in
      let longer : rows_from (numbers cells) texts own m (suc count) (number_at m h.0 4) ≡ Some (row ∷ following) = rw (h.4, here, rest) refl in
      let number : length found + suc count ≡ suc (length found) + count = omega arith in
      subst (λ (n : ℕ). rows_from (numbers cells) texts own m n (number_at m (d + 8) 4) ≡ Some (onto found (row ∷ following))) number
      (Chain-rows texts own m found h.0 link (suc count) (row ∷ following) h.6 longer)

-- ---- the cells of one row

-- the value that 64 bits stand for
abbrev pub value_of_bits : ℕ → Val
value_of_bits bits = Num (cast_signed w64 bits)

-- The cells from an address up to `at`, the last first: these bits, none null.
unfoldable pub Cells : (m : List ℕ) (from : ℕ) (done : List ℕ) (at : ℕ) → Type 0
Cells m from [] at = at ≡ from
Cells m from (bits ∷ done) at =
    (cell : ℕ) × (at ≡ cell + 16) × (number_at m cell 8 ≡ bits) × (number_at m (cell + 8) 1 ≡ 0) × (fits (cast_signed w64 bits) ≡ true) × Cells m from done cell

pub Cells-from : (m : List ℕ) (from : ℕ) (done : List ℕ) (at : ℕ) → Cells m from done at → at ≡ from + 16 * length done
unfolding Cells
Cells-from m from [] at h = omega (arith, h)
Cells-from m from (bits ∷ done) at h = omega (arith, h.1, Cells-from m from done h.0 h.5)

pub Cells-same : (m m' : List ℕ) (from : ℕ) (done : List ℕ) (at : ℕ) →
    ((a w : ℕ) → from ≤ a → a + w ≤ at → number_at m' a w ≡ number_at m a w) → Cells m from done at → Cells m' from done at
unfolding Cells
Cells-same m m' from [] at same h = h
Cells-same m m' from (bits ∷ done) at same h =
    let low : h.0 ≡ from + 16 * length done = Cells-from m from done h.0 h.5 in (
      h.0,
      h.1,
      same h.0 8 (omega (arith, low)) (omega (arith, h.1)) ∙ h.2,
      same (h.0 + 8) 1 (omega (arith, low)) (omega (arith, h.1)) ∙ h.3,
      h.4,
      Cells-same m m' from done h.0 (λ a w from_low to. same a w from_low (omega (arith, h.1))) h.5,
    )

pub Cells-row : (m : List ℕ) (from : ℕ) (done : List ℕ) (at count : ℕ) (following : List Val) → Cells m from done at →
    cells_at [] m at (numbers count) ≡ Some following →
    cells_at [] m from (numbers (length done + count)) ≡ Some (onto (map value_of_bits done) following)
unfolding Cells
Cells-row m from [] at count following h rest = let none : 0 + count ≡ count = omega arith in rw none (rw h at rest)
Cells-row m from (bits ∷ done) at count following h rest =
    let here : cell_at [] m h.0 (kind.Number 0) ≡ Some (value_of_bits bits) = rw (h.3, h.2, h.4) refl in
    let next : cells_at [] m (h.0 + 16) (numbers count) ≡ Some following = rw h.1 at rest in
    let longer : cells_at [] m h.0 (numbers (suc count)) ≡ Some (value_of_bits bits ∷ following) = rw (here, next) refl in
    let number : length done + suc count ≡ suc (length done) + count = omega arith in
    subst (λ (n : ℕ). cells_at [] m from (numbers n) ≡ Some (onto (map value_of_bits done) (value_of_bits bits ∷ following))) number
    (Cells-row m from done h.0 (suc count) (value_of_bits bits ∷ following) h.5 longer)
