-- The cells of result rows, read in a memory.
use Rattle.std.proofs.Common.{◌≡◌, ℕ, ◌+◌, List, [], ◌∷◌, length, map, Some, refl, sym, ap, ◌∙◌, subst, arith}
use Rattle.std.proofs.lemmas.Option.{same_Some}
use Rattle.qw_types.proofs.DayLemmas.{is_day_of}
use Rattle.qw_types.specs.Kind.{IsOfKind}
use Rattle.qw_types.specs.declared.kind.Kind.{Kind}
use Rattle.qw_types.specs.declared.kind.Kind.TheVariants as kind
use Rattle.qw_types.specs.declared.value.Val.{Val}
use Rattle.qw_types.specs.declared.value.Val.TheVariants as val
use Rattle.qw_linear.specs.Memory.{number_at}
use Rattle.qw_map.specs.Areas.{Area, World}
use Rattle.qw_map.specs.Layout.{cell_at, cells_at, text_cell}
use Rattle.qw_low.specs.State.{Part, Own, Value, Number, Address, LowState}
use Rattle.qw_low.specs.Places.{area_of, Means, Holds, StandsFor}
use Rattle.qw_feed.specs.Cells.{AreOfKinds, HasCell, HasCells, HasRow}

module _ (Text : Part → ℕ → List ℕ → Type 0) (texts : List Area) (w : World) (t : LowState) (memory : List ℕ) (stands : StandsFor w t memory)
    (text_there : (p : Part) (off word : ℕ) (octets : List ℕ) → Text p off octets → Means w (Address p off) word → text_cell texts memory word (length octets) ≡ Some (val.Text octets)) where
  module _ (k : ℕ) (a : Area) (is : area_of w (Own k) ≡ Some a) where
    -- what a cell's octets mean
    meant : (off width place : ℕ) (v : Value) → t.cells (Own k) off width ≡ Some v → a.start + off ≡ place → Means w v (number_at memory place width)
    meant off width place v known at =
        let h : Holds w memory (Own k) off width v = stands.cells (Own k) off width v known in
        let same : h.area ≡ a = same_Some h.area a (sym h.is ∙ is) in
        subst (λ (x : ℕ). Means w v (number_at memory x width)) (ap (λ (b : Area). b.start + off) same ∙ at) h.means

    cell_read : (at : ℕ) (kd : Kind) (v : Val) → IsOfKind kd v → HasCell Text t.cells k at v → cell_at texts memory (a.start + at) kd ≡ Some v
    cell_read at kd val.Null typed h =
        let place : a.start + (at + 8) ≡ a.start + at + 8 = omega arith in
        let null : number_at memory (a.start + at + 8) 1 ≡ 1 = meant (at + 8) 1 (a.start + at + 8) (Number 1) h place in
        rw null refl
    cell_read at (kind.Number s) (val.Num v) typed h =
        let place : a.start + (at + 8) ≡ a.start + at + 8 = omega arith in
        let null : number_at memory (a.start + at + 8) 1 ≡ 0 = meant (at + 8) 1 (a.start + at + 8) (Number 0) h.2 place in
        let number : number_at memory (a.start + at) 8 ≡ h.0.0 = meant at 8 (a.start + at) (Number h.0.0) h.0.1 refl in
        rw (null, number, h.0.3, h.1) refl
    cell_read at (kind.Number s) (val.Date d) typed h = absurd typed
    cell_read at (kind.Number s) (val.Text x) typed h = absurd typed
    cell_read at kind.Date (val.Num v) typed h = absurd typed
    cell_read at kind.Date (val.Date d) typed h =
        let place : a.start + (at + 8) ≡ a.start + at + 8 = omega arith in
        let null : number_at memory (a.start + at + 8) 1 ≡ 0 = meant (at + 8) 1 (a.start + at + 8) (Number 0) h.1 place in
        let number : number_at memory (a.start + at) 8 ≡ h.0.0 = meant at 8 (a.start + at) (Number h.0.0) h.0.1 refl in
        rw (null, number, h.0.3, is_day_of d typed) refl
    cell_read at kind.Date (val.Text x) typed h = absurd typed
    cell_read at kind.Text (val.Num v) typed h = absurd typed
    cell_read at kind.Text (val.Date d) typed h = absurd typed
    cell_read at kind.Text (val.Text x) typed h =
        let place : a.start + (at + 8) ≡ a.start + at + 8 = omega arith in
        let behind : a.start + (at + 4) ≡ a.start + at + 4 = omega arith in
        let null : number_at memory (a.start + at + 8) 1 ≡ 0 = meant (at + 8) 1 (a.start + at + 8) (Number 0) h.5 place in
        let long : number_at memory (a.start + at + 4) 4 ≡ length x = meant (at + 4) 4 (a.start + at + 4) (Number (length x)) h.3 behind in
        rw (null, long) (text_there h.0 h.1 (number_at memory (a.start + at) 4) x h.4 (meant at 4 (a.start + at) (Address h.0 h.1) h.2 refl))

    cells_read : (at : ℕ) (kinds : List Kind) (vs : List Val) → AreOfKinds (map Some kinds) vs → HasCells Text t.cells k at vs → cells_at texts memory (a.start + at) kinds ≡ Some vs
    cells_read at [] [] typed h = refl
    cells_read at [] (v ∷ vs) typed h = absurd typed
    cells_read at (kd ∷ kinds) [] typed h = absurd typed
    cells_read at (kd ∷ kinds) (v ∷ vs) typed h =
        let next : a.start + (at + 16) ≡ a.start + at + 16 = omega arith in
        let others : cells_at texts memory (a.start + at + 16) kinds ≡ Some vs = subst (λ (x : ℕ). cells_at texts memory x kinds ≡ Some vs) next (cells_read (at + 16) kinds vs typed.1 h.1) in
        rw (cell_read at kd v typed.0 h.0, others) refl

  -- the cells of a row
  pub row_read : (kinds : List Kind) (k o word : ℕ) (vs : List Val) → Means w (Address (Own k) o) word → HasRow Text (map Some kinds) t.cells k o vs → cells_at texts memory (word + 8) kinds ≡ Some vs
  row_read kinds k o word vs means h =
      let place : means.0.start + (o + 8) ≡ word + 8 = omega (arith, means.3) in
      subst (λ (x : ℕ). cells_at texts memory x kinds ≡ Some vs) place (cells_read k means.0 means.1 (o + 8) kinds vs h.0 h.1)
