-- What memory has at the return.
use Rattle.std.proofs.Common.{◌≡◌, ℕ, ◌+◌, ◌≤◌, true, List, [], ◌∷◌, length, map, Some, slice_get, refl, sym, ap, ◌∙◌, subst, arith}
use Rattle.std.proofs.lemmas.Option.{same_Some}
use Rattle.qw_types.specs.declared.kind.Kind.{Kind}
use Rattle.qw_types.specs.declared.value.Val.{Val}
use Rattle.qw_linear.specs.Memory.{page, number_at}
use Rattle.qw_map.specs.Areas.{Area, World, are_covered}
use Rattle.qw_map.specs.Layout.{Layout, row_size, cells_at, row_at, rows_from, rows_at, text_areas, descriptor_size}
use Rattle.qw_map.proofs.Chains.{onto, length-onto}
use Rattle.qw_low.specs.State.{Own, Value, Number, Address, Cells, LowState}
use Rattle.qw_low.specs.Places.{area_of, Means, Holds, StandsFor}
use Rattle.qw_low.proofs.Standing.{lies-at, area_of-sized}
use Rattle.qw_feed.specs.Frames.{pos}
use Rattle.qw_feed.specs.Rows.{Row, address, start_of, AreRows, HasAnswer}

-- the chain as it is read: from an address on, each row in a page
abbrev pub Chained : (Has : Cells → ℕ → ℕ → List Val → Type 0) → (size part : ℕ) → Cells → Value → List Row → Type 0
Chained Has size part c at [] = at ≡ Number 0
Chained Has size part c at (r ∷ rs) =
    (at ≡ address r) × Has c r.part r.offset r.values × (r.offset + size ≤ page) × (r.part ≤ part)
    × (next : Value) × (c (Own r.part) r.offset 4 ≡ Some next) × Chained Has size part c next rs

abbrev pub values_of : List Row → List (List Val)
values_of rows = map (λ (r : Row). r.values) rows

module _ (Has : Cells → ℕ → ℕ → List Val → Type 0) (size : ℕ) where
  -- the rows are read in the order in which they were added
  pub read_back : (part : ℕ) (c : Cells) (base front : ℕ) (next : Value) (rows after : List Row) → front ≤ pos part page → AreRows Has size c base front next rows → Chained Has size part c next after →
      (first : Value) × (c (Own 0) 8 4 ≡ Some first) × Chained Has size part c first (onto rows after)
  read_back part c base front next [] after high are chained = (next, are.1, chained)
  read_back part c base front next (r ∷ rs) after high are chained =
      read_back part c base (start_of r) (address r) rs (r ∷ after) (omega (arith, high, are.2)) are.4 (refl, are.1, are.3, omega (arith, high, are.2), next, are.0, chained)

  module _ (w : World) (t : LowState) (memory : List ℕ) (stands : StandsFor w t memory) (kinds : List Kind) (texts : List Area) (size_is : size ≡ row_size (length kinds))
      (part : ℕ) (pages : (k : ℕ) → k ≤ part → slice_get t.own k ≡ Some page)
      (each : (k o word : ℕ) (values : List Val) → Means w (Address (Own k) o) word → Has t.cells k o values → cells_at texts memory (word + 8) kinds ≡ Some values) where
    chain_there : (v : Value) (word : ℕ) (rows : List Row) → Means w v word → Chained Has size part t.cells v rows → rows_from kinds texts w.own memory (length rows) word ≡ Some (values_of rows)
    chain_there v word [] means h = let zero_is : word ≡ 0 = subst (λ (u : Value). Means w u word) h means in rw zero_is refl
    chain_there v word (r ∷ rows) means h =
        let at : Means w (address r) word = subst (λ (u : Value). Means w u word) h.0 means in
        let area = area_of-sized w t stands.fits (Own r.part) page (pages r.part h.3) in
        let same_area : at.0 ≡ area.0 = same_Some at.0 area.0 (sym at.1 ∙ area.1) in
        let wide : at.0.size ≡ page = ap (λ (a : Area). a.size) same_area ∙ area.2 in
        let covered : are_covered w.own word (row_size (length kinds)) ≡ true =
        subst (λ (n : ℕ). are_covered w.own n (row_size (length kinds)) ≡ true) (sym at.3) (lies-at w.own r.part at.0 r.offset (row_size (length kinds)) at.1 (omega (arith, h.2, size_is, wide))) in
        let read : Holds w memory (Own r.part) r.offset 4 h.4 = stands.cells (Own r.part) r.offset 4 h.4 h.5 in
        let same : read.area ≡ at.0 = same_Some read.area at.0 (sym read.is ∙ at.1) in
        let place : read.area.start + r.offset ≡ word = ap (λ (a : Area). a.start + r.offset) same ∙ sym at.3 in
        let row : row_at kinds texts w.own memory word ≡ Some r.values = rw covered (each r.part r.offset word r.values at h.1) in
        rw (row, chain_there h.4 (number_at memory word 4) rows (subst (λ (x : ℕ). Means w h.4 (number_at memory x 4)) place read.means) h.6) refl

    -- all rows, from the first page's words
    pub rows_there : (base : ℕ) (found : List Row) (s : LowState) (h : HasAnswer Has size base found s t) → h.part ≡ part → (a : Area) → area_of w (Own 0) ≡ Some a →
        rows_from kinds texts w.own memory (number_at memory (a.start + 16) 8) (number_at memory (a.start + 8) 4) ≡ Some (values_of (onto found []))
    rows_there base found s h part_is a is =
        let back = read_back part t.cells base h.front (Number 0) found [] (subst (λ (k : ℕ). h.front ≤ pos k page) part_is h.high) h.rows refl in
        let read : Holds w memory (Own 0) 8 4 back.0 = stands.cells (Own 0) 8 4 back.0 back.1 in
        let same : read.area ≡ a = same_Some read.area a (sym read.is ∙ is) in
        let count : Holds w memory (Own 0) 16 8 (Number (length found)) = stands.cells (Own 0) 16 8 (Number (length found)) h.count in
        let same_count : count.area ≡ a = same_Some count.area a (sym count.is ∙ is) in
        let many : number_at memory (a.start + 16) 8 ≡ length found = ap (λ (b : Area). number_at memory (b.start + 16) 8) (sym same_count) ∙ count.means in
        let all : length (onto found []) ≡ length found = omega (arith, length-onto found []) in
        rw many (subst (λ (n : ℕ). rows_from kinds texts w.own memory n (number_at memory (a.start + 8) 4) ≡ Some (values_of (onto found []))) all
        (chain_there back.0 (number_at memory (a.start + 8) 4) (onto found []) (subst (λ (b : Area). Means w back.0 (number_at memory (b.start + 8) 4)) same read.means) back.2))

-- the result rows of the instance
pub results_there : (Has : Cells → ℕ → ℕ → List Val → Type 0) (size base : ℕ) (layout : Layout) (w : World) (s t : LowState) (memory : List ℕ) (descriptor : ℕ) (found : List Row) →
    size ≡ row_size (length layout.cells) → descriptor_size layout ≤ page → slice_get w.own 0 ≡ Some (record { start = descriptor; size = page }) → StandsFor w t memory → (h : HasAnswer Has size base found s t) →
    ((k o word : ℕ) (values : List Val) → Means w (Address (Own k) o) word → Has t.cells k o values → cells_at (text_areas layout w descriptor) memory (word + 8) layout.cells ≡ Some values) →
    rows_at layout w memory descriptor ≡ Some (values_of (onto found []))
results_there Has size base layout w s t memory descriptor found size_is small first stands h each =
    let first_area : Area = record { start = descriptor; size = page } in
    let here : descriptor + 0 ≡ descriptor = omega arith in
    let covered : are_covered w.own descriptor (descriptor_size layout) ≡ true =
    subst (λ (at : ℕ). are_covered w.own at (descriptor_size layout) ≡ true) here (lies-at w.own 0 first_area 0 (descriptor_size layout) first (omega (arith, small))) in
    rw covered (rows_there Has size w t memory stands layout.cells (text_areas layout w descriptor) size_is h.part h.pages each base found s h refl first_area first)
