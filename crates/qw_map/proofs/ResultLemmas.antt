-- Result rows depend on the own areas, and on the areas where their texts lie.
use Rattle.std.proofs.Common.{◌≡◌, ℕ, zero, suc, ◌+◌, ◌*◌, ◌≤◌, nat_le, Bool, true, false, List, [], ◌∷◌, length, take, drop, Option, Some, None, refl, sym, ap, ⊎_elim, arith}
use Rattle.std.specs.Prelude.{◌==◌, ◌&&◌, if◌then◌else◌}
use Rattle.std.specs.Str.{is_utf8}
use Rattle.std.proofs.lemmas.Bool.{cases_Bool, or_cases, and_parts, le-leb, leb-true}
use Rattle.std.proofs.lemmas.Option.{none-some}
use Rattle.qw_types.specs.declared.kind.Kind.{Kind}
use Rattle.qw_types.specs.declared.kind.Kind.TheVariants as kind
use Rattle.qw_types.specs.declared.value.Val.{Val}
use Rattle.qw_types.specs.declared.value.Val.TheVariants.{Null}
use Rattle.qw_linear.specs.Memory.{number_at}
use Rattle.qw_map.specs.Areas.{Area, World, Others, lies_in, lies_in_one, are_covered}
use Rattle.qw_map.specs.Layout.{Layout, descriptor_size, row_size, text_cell, cell_at, before, cells_at, row_at, rows_from, text_areas, rows_at}
use Rattle.qw_map.proofs.AccessLemmas.{AreKept, lies-in-bounds, covered-each, covered-part, number-kept, octets-kept, kept-same}

-- null, or what is read where nothing says null
choice-stays : (null plain : Bool) (p q : Option Val) (value : Val) → ((v : Val) → p ≡ Some v → q ≡ Some v) →
    (if null then Some Null else (if plain then p else None)) ≡ Some value → (if null then Some Null else (if plain then q else None)) ≡ Some value
choice-stays true plain p q value stays there = there
choice-stays false true p q value stays there = stays value there
choice-stays false false p q value stays there = there

-- a text that is read where texts may lie is read in another memory, which isn't shorter and keeps them
module _ (texts : List Area) (old new : List ℕ) (longer : length old ≤ length new) (kept : AreKept old new texts) where
  pub text-stays : (address size : ℕ) (value : Val) → text_cell texts old address size ≡ Some value → text_cell texts new address size ≡ Some value
  text-stays address size value there = ⊎_elim
      (λ is.
      let parts = and_parts (nat_le (address + size) (length old)) (are_covered texts address size && is_utf8 (take size (drop address old))) is in
      let more = and_parts (are_covered texts address size) (is_utf8 (take size (drop address old))) parts.1 in
      let room : address + size ≤ length old = leb-true (address + size) (length old) parts.0 in
      let same : take size (drop address new) ≡ take size (drop address old) = octets-kept old new texts kept address size more.0 room longer in
      rw (same, le-leb (address + size) (length new) (omega arith)) (rw parts.0 at there))
      (λ is_not. absurd (none-some value (rw is_not at there)))
      (cases_Bool (nat_le (address + size) (length old) && (are_covered texts address size && is_utf8 (take size (drop address old)))))

  -- so is a cell of which the octets are the same
  pub cell-stays : (k : Kind) (at : ℕ) (value : Val) → ((a w : ℕ) → at ≤ a → a + w ≤ at + 16 → number_at new a w ≡ number_at old a w) →
      cell_at texts old at k ≡ Some value → cell_at texts new at k ≡ Some value
  cell-stays (kind.Number scale) at value same there = rw (same at 8 (omega arith) (omega arith), same (at + 8) 1 (omega arith) (omega arith)) there
  cell-stays kind.Date at value same there = rw (same at 8 (omega arith) (omega arith), same (at + 8) 1 (omega arith) (omega arith)) there
  cell-stays kind.Text at value same there =
      rw (same (at + 8) 1 (omega arith) (omega arith), same at 4 (omega arith) (omega arith), same (at + 4) 4 (omega arith) (omega arith))
      (choice-stays (number_at old (at + 8) 1 == 1) (number_at old (at + 8) 1 == 0) _ _ value
      (text-stays (number_at old at 4) (number_at old (at + 4) 4)) there)

-- a value and others that are both there
pub record AreParts {T : Type 0} (first : Option T) (rest : Option (List T)) (all : List T) : Type 0 where
  pub one : T
  pub others : List T
  pub first_is : first ≡ Some one
  pub rest_is : rest ≡ Some others
  pub all_is : all ≡ one ∷ others

pub parts_of : {T : Type 0} (first : Option T) (rest : Option (List T)) (all : List T) → before first rest ≡ Some all → AreParts first rest all
parts_of None rest all h = absurd (none-some all h)
parts_of (Some x) None all h = absurd (none-some all h)
parts_of (Some x) (Some xs) all h = record { one = x; others = xs; first_is = refl; rest_is = refl; all_is = cc }

module _ (texts : List Area) (old new : List ℕ) (longer : length old ≤ length new) (kept : AreKept old new texts) where
  -- and so are cells one after another
  pub cells-stay : (kinds : List Kind) (at : ℕ) (row : List Val) →
      ((a w : ℕ) → at ≤ a → a + w ≤ at + 16 * length kinds → number_at new a w ≡ number_at old a w) →
      cells_at texts old at kinds ≡ Some row → cells_at texts new at kinds ≡ Some row
  cells-stay [] at row same there = there
  cells-stay (k ∷ kinds) at row same there =
      let parts = parts_of (cell_at texts old at k) (cells_at texts old (at + 16) kinds) row there in
      let cell = cell-stays texts old new longer kept k at parts.one (λ a w low high. same a w (omega arith) (omega arith)) parts.first_is in
      let others = cells-stay kinds (at + 16) parts.others (λ a w low high. same a w (omega arith) (omega arith)) parts.rest_is in
      rw (cell, others) (ap Some (sym parts.all_is))

-- ---- result rows
module _ (kinds : List Kind) (texts own : List Area) (old new : List ℕ) (longer : length old ≤ length new)
    (texts_kept : AreKept old new texts) (own_kept : AreKept old new own) where
  kept_inside : (at size : ℕ) → are_covered own at size ≡ true → (a width : ℕ) → at ≤ a → a + width ≤ at + size → number_at new a width ≡ number_at old a width
  kept_inside at size covered a width low high = number-kept old new own own_kept a width (covered-part own at size covered a width low high)

  -- a row lies in own areas
  row_inside : (at : ℕ) (row : List Val) → row_at kinds texts own old at ≡ Some row → are_covered own at (row_size (length kinds)) ≡ true
  row_inside at row there = ⊎_elim (λ is. is) (λ is_not. absurd (none-some row (rw is_not at there))) (cases_Bool (are_covered own at (row_size (length kinds))))

  row_stays : (at : ℕ) (row : List Val) → row_at kinds texts own old at ≡ Some row → row_at kinds texts own new at ≡ Some row
  row_stays at row there =
      let inside = row_inside at row there in
      let cells : cells_at texts old (at + 8) kinds ≡ Some row = rw inside at there in
      rw inside (cells-stay texts old new longer texts_kept kinds (at + 8) row
      (λ a width low high. kept_inside at (row_size (length kinds)) inside a width (omega arith) (omega arith)) cells)

  link_stays : (at : ℕ) (row : List Val) → row_at kinds texts own old at ≡ Some row → number_at new at 4 ≡ number_at old at 4
  link_stays at row there = kept_inside at (row_size (length kinds)) (row_inside at row there) at 4 (omega arith) (omega arith)

  rows_stay : (count at : ℕ) (rows : List (List Val)) → rows_from kinds texts own old count at ≡ Some rows → rows_from kinds texts own new count at ≡ Some rows
  rows_stay zero at rows there = there
  rows_stay (suc count) at rows there =
      let parts = parts_of (row_at kinds texts own old at) (rows_from kinds texts own old count (number_at old at 4)) rows there in
      let row = row_stays at parts.one parts.first_is in
      let others = rows_stay count (number_at old at 4) parts.others parts.rest_is in
      rw (row, link_stays at parts.one parts.first_is, others) (ap Some (sym parts.all_is))

-- the texts of result rows lie in the mapped columns, or in the descriptor, which lies in own areas
texts-kept : (layout : Layout) (w : World) (before after : List ℕ) (descriptor : ℕ) → AreKept before after w.mapped → AreKept before after w.own →
    are_covered w.own descriptor (descriptor_size layout) ≡ true → AreKept before after (text_areas layout w descriptor)
texts-kept layout w before after descriptor mapped own covered k inside = ⊎_elim
    (λ here.
    let bounds = lies-in-bounds (record { start = descriptor; size = descriptor_size layout }) k here in
    own k (covered-each w.own descriptor (descriptor_size layout) covered k bounds.0 bounds.1))
    (λ further. mapped k further)
    (or_cases (lies_in k (record { start = descriptor; size = descriptor_size layout })) (lies_in_one w.mapped k) inside)

pub results_stay : (layout : Layout) (w : World) (before after : List ℕ) (descriptor : ℕ) (rows : List (List Val)) →
    Others w before after → rows_at layout w before descriptor ≡ Some rows → rows_at layout w after descriptor ≡ Some rows
results_stay layout w before after descriptor rows others there = ⊎_elim
    (λ covered.
    let longer : length before ≤ length after = omega (arith, others.length_is) in
    let mapped = kept-same before after w.mapped others.mapped_kept in
    let own = kept-same before after w.own others.own_kept in
    let number = kept_inside layout.cells (text_areas layout w descriptor) w.own before after longer
    (texts-kept layout w before after descriptor mapped own covered) own descriptor (descriptor_size layout) covered in
    rw (covered, number (descriptor + 16) 8 (omega arith) (omega arith), number (descriptor + 8) 4 (omega arith) (omega arith))
    (rows_stay layout.cells (text_areas layout w descriptor) w.own before after longer
    (texts-kept layout w before after descriptor mapped own covered) own
    (number_at before (descriptor + 16) 8) (number_at before (descriptor + 8) 4) rows (rw covered at there)))
    (λ outside. absurd (none-some rows (rw outside at there)))
    (cases_Bool (are_covered w.own descriptor (descriptor_size layout)))
