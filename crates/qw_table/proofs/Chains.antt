-- Chains of entries, the entries of a slot, and what keeps a table.
use Rattle.std.specs.Prelude.{cond}
use Rattle.std.proofs.Common.{◌≡◌, ℕ, ◌+◌, ◌*◌, ◌<◌, ◌≤◌, ◌==◌, Bool, true, false, List, [], ◌∷◌, ◌++◌, length, Some, refl, sym, ap, ◌∙◌, subst, arith}
use Rattle.qw_linear.specs.Memory.{page}
use Rattle.qw_types.specs.declared.value.Val.{Val}
use Rattle.qw_module.specs.declared.instruction.ValType.TheVariants.{I32}
use Rattle.qw_module.specs.declared.instruction.Load.TheVariants as loads
use Rattle.qw_module.specs.declared.instruction.Store.TheVariants as stores
use Rattle.qw_low.specs.State.{Own, Cells, LowState, stored_as, loaded_as}
use Rattle.qw_low.specs.Raising.{Kept}
use Rattle.qw_feed.specs.Frames.{pos, Keeps}
use Rattle.qw_feed.specs.Room.{Paid}
use Rattle.qw_feed.specs.Rows.{Row}
use Rattle.qw_feed.proofs.RoomRuns.{room-kept}
use Rattle.qw_table.specs.Tables.{newest, Linked, in_slot, IsTable, HasTable}

pub newest-stored : (es : List Row) → stored_as (stores.Full I32) (newest es) ≡ Some (newest es)
newest-stored [] = refl
newest-stored (e ∷ es) = refl

pub newest-loaded : (es : List Row) → loaded_as (loads.Full I32) (newest es) ≡ Some (newest es)
newest-loaded [] = refl
newest-loaded (e ∷ es) = refl

module _ (Has : Cells → ℕ → ℕ → List Val → Type 0) (size : ℕ) (wide : 8 ≤ size)
    (has_same : (c c' : Cells) (k o : ℕ) (values : List Val) → ((a b : ℕ) → o + 8 ≤ a → a + b ≤ o + size → c' (Own k) a b ≡ c (Own k) a b) → Has c k o values → Has c' k o values) where
  -- a chain stays where its octets do
  pub Linked-same : (c c' : Cells) (base front : ℕ) (es : List Row) → ((k a b : ℕ) → base ≤ pos k a → pos k a + b ≤ front → c' (Own k) a b ≡ c (Own k) a b) →
      Linked Has size c base front es → Linked Has size c' base front es
  Linked-same c c' base front [] same h = tt
  Linked-same c c' base front (e ∷ es) same h = (
    h.0,
    h.1,
    h.2,
    same e.part e.offset 4 h.0 (omega (arith, h.1)) ∙ h.3,
    has_same c c' e.part e.offset e.values (λ a b from to. same e.part a b (omega (arith, from, h.0)) (omega (arith, to, h.1))) h.4,
    Linked-same c c' base front es same h.5,
  )

  pub Linked-wider : (c : Cells) (base front front' : ℕ) (es : List Row) → front ≤ front' → Linked Has size c base front es → Linked Has size c base front' es
  Linked-wider c base front front' [] le h = tt
  Linked-wider c base front front' (e ∷ es) le h = (h.0, omega (arith, h.1), h.2, h.3, h.4, Linked-wider c base front front' es le h.5)

  -- a table is kept where its octets are
  pub table-spared : (slot : List Val → ℕ) (k o : ℕ) (IsOld : ℕ → Type 0) (Spared : ℕ → ℕ → Type 0) (front : ℕ) (chains : ℕ → List Row) (entries : List (List Val)) (s t : LowState) → ((at width : ℕ) → pos k o ≤ at → at + width ≤ front → Spared at width) →
      Keeps IsOld Spared s t → IsTable Has slot size k o front chains entries s.cells s.own → IsTable Has slot size k o front chains entries t.cells t.own
  table-spared slot k o IsOld Spared front chains entries s t spared keeps h = record {
    directory = record {
      sized = keeps.own k page h.directory.sized;
      inside = h.directory.inside;
      behind = h.directory.behind;
      slots = λ j low. keeps.cells k (o + 4 * j) 4 (spared (pos k (o + 4 * j)) 4 (omega arith) (omega (arith, low, h.directory.behind))) ∙ h.directory.slots j low;
    };
    linked = λ j low. Linked-same s.cells t.cells (pos k (o + 4096)) front (chains j) (λ i a b from to. keeps.cells i a b (spared (pos i a) b (omega (arith, from)) to)) (h.linked j low);
    same = h.same;
  }

-- and where its locals are
pub table_kept : (Has : Cells → ℕ → ℕ → List Val → Type 0) (slot : List Val → ℕ) (size k o d u before n : ℕ) (entries : List (List Val)) (s t : LowState) → 3 ≤ n → d < n → Kept n s t →
    HasTable Has slot size k o d u before entries s → HasTable Has slot size k o d u before entries t
table_kept Has slot size k o d u before n entries s t low high kept h = record {
  part = h.part;
  offset = h.offset;
  room = room-kept h.part h.offset n s t low kept h.room;
  at = kept.below d high ∙ h.at;
  chains = h.chains;
  table =
      let cells : t.cells ≡ s.cells = ap (λ (r : LowState). r.cells) kept.others in
      let own : t.own ≡ s.own = ap (λ (r : LowState). r.own) kept.others in
      subst (λ (c : Cells). IsTable Has slot size k o (pos h.part h.offset) h.chains entries c t.own) (sym cells)
      (subst (λ (sizes : List ℕ). IsTable Has slot size k o (pos h.part h.offset) h.chains entries s.cells sizes) (sym own) h.table);
  paid = subst (λ (held : ℕ). Paid u (before + length entries * size) h.offset held) (sym (ap (λ (r : LowState). r.held) kept.others)) h.paid;
}

-- ---- one entry more
kept-append : (b : Bool) (e v : List Val) (xs ys : List (List Val)) → xs ≡ ys ++ v ∷ [] → cond b (e ∷ xs) xs ≡ cond b (e ∷ ys) ys ++ v ∷ []
kept-append true e v xs ys h = ap (λ (zs : List (List Val)). e ∷ zs) h
kept-append false e v xs ys h = h

kept-same : (b : Bool) (e : List Val) (xs ys : List (List Val)) → xs ≡ ys → cond b (e ∷ xs) xs ≡ cond b (e ∷ ys) ys
kept-same true e xs ys h = ap (λ (zs : List (List Val)). e ∷ zs) h
kept-same false e xs ys h = h

module _ (slot : List Val → ℕ) (j : ℕ) (v : List Val) where
  pub slot-more : (slot v == j) ≡ true → (es : List (List Val)) → in_slot slot j (es ++ v ∷ []) ≡ in_slot slot j es ++ v ∷ []
  slot-more is [] = rw is refl
  slot-more is (e ∷ es) = kept-append (slot e == j) e v (in_slot slot j (es ++ v ∷ [])) (in_slot slot j es) (slot-more is es)

  pub slot-other : (slot v == j) ≡ false → (es : List (List Val)) → in_slot slot j (es ++ v ∷ []) ≡ in_slot slot j es
  slot-other is [] = rw is refl
  slot-other is (e ∷ es) = kept-same (slot e == j) e (in_slot slot j (es ++ v ∷ [])) (in_slot slot j es) (slot-other is es)
