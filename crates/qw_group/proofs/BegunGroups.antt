-- An empty table has the groups of no rows.
use Rattle.std.proofs.Common.{◌≡◌, ℕ, ◌+◌, ◌*◌, ◌<◌, List, [], ◌∷◌, length, refl, sym, ◌∙◌, subst, arith}
use Rattle.std.specs.List.Sorted.{IsPermutation}
use Rattle.std.proofs.lemmas.List.Sorted.{IsPermutation-refl, length_permutation}
use Rattle.qw_types.specs.declared.value.Val.{Val}
use Rattle.qw_low.specs.State.{Cells, LowState}
use Rattle.qw_feed.specs.Frames.{pos}
use Rattle.qw_feed.specs.Room.{Paid}
use Rattle.qw_feed.specs.Rows.{Row}
use Rattle.qw_table.specs.Tables.{Linked, HasTable, values_of}
use Rattle.qw_group.specs.Groups.{In, HasGroups}
use Rattle.qw_group.proofs.GroupRuns.{values-many}

none-left : (es : List Row) → length es ≡ 0 → es ≡ []
none-left [] is = refl
none-left (e ∷ es) is = absurd (omega (arith, is))

module _ (Has : Cells → ℕ → ℕ → List Val → Type 0) (by_values : List Val → ℕ) (size : ℕ) (columns : ℕ) (Has' : List (List Val) → Cells → ℕ → ℕ → List Val → Type 0) (size' : ℕ) (k o d u before : ℕ) (s : LowState) (h : HasTable Has by_values size k o d u before [] s) where
  empty : (j : ℕ) → j < 1024 → h.chains j ≡ []
  empty j low = none-left (h.chains j) (sym (values-many (h.chains j)) ∙ sym (length_permutation (values_of (h.chains j)) [] (h.table.same j low)))

  nothing_in : {A : Type 0} → (j : ℕ) → j < 1024 → (e : Row) → In e (h.chains j) → A
  nothing_in {A} j low e here = let it : In e [] = subst (λ (es : List Row). In e es) (empty j low) here in absurd it

  pub groups_begun : HasGroups columns Has' size' k o d u before [] s
  groups_begun = record {
    part = h.part;
    offset = h.offset;
    room = h.room;
    at = h.at;
    chains = h.chains;
    directory = h.table.directory;
    linked = λ j low. subst (λ (es : List Row). Linked (Has' []) size' s.cells (pos k (o + 4096)) (pos h.part h.offset) es) (sym (empty j low)) tt;
    home = λ j low e here. nothing_in j low e here;
    apart = λ i j low_i low_j e f e_in f_in. nothing_in i low_i e e_in;
    all = λ r none. absurd none;
    some = λ j low e here. nothing_in j low e here;
    same = λ j low. subst (λ (es : List Row). IsPermutation (values_of es) []) (sym (empty j low)) (IsPermutation-refl []);
    paid = (let none : 0 * size ≡ 0 * size' = omega arith in subst (λ (n : ℕ). Paid u (before + n) h.offset s.held) none h.paid);
  }
