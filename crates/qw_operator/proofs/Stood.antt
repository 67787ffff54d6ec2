-- Tables that stand while a pipeline runs, and their entries in some order.
use Rattle.std.proofs.Common.{◌≡◌, ℕ, zero, suc, ◌+◌, ◌≤◌, ◌<◌, ◌==◌, Bool, true, false, cond, Some, List, [], ◌∷◌, ◌++◌, length, map, slice_get, refl, sym, ap, ap₂, ◌∙◌, subst, arith}
use Rattle.std.proofs.lemmas.Bool.{eq-eqb, eqb-true}
use Rattle.std.proofs.lemmas.List.{append-nil}
use Rattle.std.proofs.lemmas.List.Elements.{filter-append}
use Rattle.std.specs.List.{AllByRecursion}
use Rattle.qw_types.specs.declared.value.Val.{Val}
use Rattle.qw_types.specs.declared.value.Val.TheVariants as val
use Rattle.qw_layout.specs.Row.{entry_size}
use Rattle.qw_meaning.specs.Flow.{Flow}
use Rattle.qw_low.specs.State.{Part, Own, Address, Cells, LowState}
use Rattle.qw_feed.specs.Cells.{HasCell, HasCells, kinds_of}
use Rattle.qw_feed.specs.Feeds.{nothing, both, flow_over, spend, Sink}
use Rattle.qw_feed.specs.Frames.{pos, Before, Keeps}
use Rattle.qw_feed.specs.Rows.{Row}
use Rattle.qw_table.specs.Joins.{HasJoinEntry, keyed, sources_of}
use Rattle.qw_table.specs.Tables.{HasTable, IsTable, Linked, in_slot, values_of}
use Rattle.qw_table.specs.declared.key.Field.{Field}
use Rattle.qw_table.proofs.Chains.{table-spared}
use Rattle.qw_table.proofs.JoinFeeds.{entry_same}
use Rattle.qw_operator.specs.Carries.{directory}
use Rattle.qw_operator.proofs.Seen.{Longer, StandsIn, longer_keeps, stands_later}

-- ---- a table
pub record Stood : Type 0 where
  pub cells : List Field
  pub fields : ℕ
  pub part : ℕ
  pub offset : ℕ
  pub front : ℕ
  pub chains : ℕ → List Row
  pub entries : List (List Val)

abbrev pub EntryOf : Cells → LowState → List Field → (fields : ℕ) → Cells → (part offset : ℕ) → List Val → Type 0
EntryOf c s cells fields = HasJoinEntry (StandsIn c s) (kinds_of (sources_of cells)) fields

-- it stands in a state: the local of its pipeline leads to it
pub record StandsTable (c : Cells) (t : ℕ) (st : Stood) (s : LowState) : Type 0 where
  pub at : slice_get s.locals (directory t) ≡ Some (Address (Own st.part) st.offset)
  pub table : IsTable (EntryOf c s st.cells st.fields) (keyed st.fields) (entry_size 0 (length st.cells) 0) st.part st.offset st.front st.chains st.entries s.cells s.own

abbrev pub AllStand : Cells → List Stood → LowState → Type 0
AllStand c stoods s = (t : ℕ) (st : Stood) → slice_get stoods t ≡ Some st → StandsTable c t st s

-- ---- entries whose texts stand where others do
pub cell_map : (Text Text' : Part → ℕ → List ℕ → Type 0) (c : Cells) (k at : ℕ) (v : Val) → ((p : Part) (o : ℕ) (octets : List ℕ) → Text p o octets → Text' p o octets) → HasCell Text c k at v → HasCell Text' c k at v
cell_map Text Text' c k at val.Null also h = h
cell_map Text Text' c k at (val.Num z) also h = h
cell_map Text Text' c k at (val.Date z) also h = h
cell_map Text Text' c k at (val.Text t) also h = (h.0, h.1, h.2, h.3, also h.0 h.1 t h.4, h.5)

pub cells_map : (Text Text' : Part → ℕ → List ℕ → Type 0) (c : Cells) (k at : ℕ) (vs : List Val) → ((p : Part) (o : ℕ) (octets : List ℕ) → Text p o octets → Text' p o octets) → HasCells Text c k at vs → HasCells Text' c k at vs
cells_map Text Text' c k at [] also h = tt
cells_map Text Text' c k at (v ∷ vs) also h = (cell_map Text Text' c k at v also h.0, cells_map Text Text' c k (at + 16) vs also h.1)

linked_map : (Has Has' : Cells → ℕ → ℕ → List Val → Type 0) (size : ℕ) (c : Cells) (base front : ℕ) (es : List Row) → ((k o : ℕ) (vs : List Val) → Has c k o vs → Has' c k o vs) → Linked Has size c base front es → Linked Has' size c base front es
linked_map Has Has' size c base front [] also h = tt
linked_map Has Has' size c base front (e ∷ es) also h = (h.0, h.1, h.2, h.3, also e.part e.offset e.values h.4, linked_map Has Has' size c base front es also h.5)

table_map : (Has Has' : Cells → ℕ → ℕ → List Val → Type 0) (slot : List Val → ℕ) (size k o front : ℕ) (chains : ℕ → List Row) (entries : List (List Val)) (c : Cells) (own : List ℕ) → ((k o : ℕ) (vs : List Val) → Has c k o vs → Has' c k o vs) →
    IsTable Has slot size k o front chains entries c own → IsTable Has' slot size k o front chains entries c own
table_map Has Has' slot size k o front chains entries c own also h = record {
  directory = h.directory;
  linked = λ j low. linked_map Has Has' size c (pos k (o + 4096)) front (chains j) also (h.linked j low);
  same = h.same;
}

pub entry_later : (c : Cells) (s t : LowState) (cells : List Field) (fields : ℕ) (d : Cells) (k o : ℕ) (vs : List Val) → Longer s t → EntryOf c s cells fields d k o vs → EntryOf c t cells fields d k o vs
entry_later c s t cells fields d k o vs longer h = ((h.0.0, cells_map (StandsIn c s) (StandsIn c t) d k (o + 24) vs (λ p at octets. stands_later c s t p at octets longer) h.0.1), h.1)

-- a table stays where its octets and its local do
pub stood_keeps : (c : Cells) (t : ℕ) (st : Stood) (Old : ℕ → Type 0) (Spared : ℕ → ℕ → Type 0) (s u : LowState) → Old (directory t) → ((at width : ℕ) → pos st.part st.offset ≤ at → at + width ≤ st.front → Spared at width) →
    Keeps Old Spared s u → StandsTable c t st s → StandsTable c t st u
stood_keeps c t st Old Spared s u old spared keeps h = record {
  at = keeps.locals (directory t) old ∙ h.at;
  table =
      let size : ℕ = entry_size 0 (length st.cells) 0 in
      table_map (EntryOf c s st.cells st.fields) (EntryOf c u st.cells st.fields) (keyed st.fields) size st.part st.offset st.front st.chains st.entries u.cells u.own
      (λ k o vs. entry_later c s u st.cells st.fields u.cells k o vs (longer_keeps Old Spared s u keeps))
      (table-spared (EntryOf c s st.cells st.fields) size (omega arith) (entry_same (StandsIn c s) st.cells st.fields) (keyed st.fields) st.part st.offset Old Spared st.front st.chains st.entries s u spared keeps h.table);
}

-- ---- a table that is being built, as a sink: its texts stand in the state that has it
abbrev pub building_sink : (c : Cells) → (cells : List Field) → (fields k o d u before : ℕ) → (May : List (List Val) → Type 0) → ((rows more : List (List Val)) → May (rows ++ more) → May rows) → Sink
building_sink c cells fields k o d u before May beginnings = record {
  Spared = Before (pos k o);
  Has = λ entries s. HasTable (EntryOf c s cells fields) (keyed fields) (entry_size 0 (length cells) 0) k o d u before entries s;
  May = May;
  beginnings = beginnings;
}

pub has_later : (c : Cells) (s t : LowState) (cells : List Field) (fields k o d u before : ℕ) (entries : List (List Val)) → Longer s t →
    HasTable (EntryOf c s cells fields) (keyed fields) (entry_size 0 (length cells) 0) k o d u before entries t → HasTable (EntryOf c t cells fields) (keyed fields) (entry_size 0 (length cells) 0) k o d u before entries t
has_later c s t cells fields k o d u before entries longer h = record {
  part = h.part;
  offset = h.offset;
  room = h.room;
  at = h.at;
  chains = h.chains;
  table = table_map (EntryOf c s cells fields) (EntryOf c t cells fields) (keyed fields) (entry_size 0 (length cells) 0) k o (pos h.part h.offset) h.chains entries t.cells t.own
      (λ j at vs. entry_later c s t cells fields t.cells j at vs longer) h.table;
  paid = h.paid;
}

-- ---- all entries
-- those of slots from one on, so many
abbrev pub entries_from : (ℕ → List Row) → (j n : ℕ) → List (List Val)
entries_from chains j zero = []
entries_from chains j (suc n) = values_of (chains j) ++ entries_from chains (suc j) n

-- those of all slots, one slot after another
pub all_entries : (ℕ → List Row) → List (List Val)
all_entries chains = entries_from chains 0 1024

pub all_entries_are : (chains : ℕ → List Row) → all_entries chains ≡ entries_from chains 0 1024
unfolding all_entries
all_entries_are chains = refl

abbrev pub built_of : List Stood → List (List (List Val))
built_of stoods = map (λ (st : Stood). all_entries st.chains) stoods

-- ---- those of one slot
module _ (slot : List Val → ℕ) (chains : ℕ → List Row) where
  abbrev pub ArePlaced : (j : ℕ) → Type 0
  ArePlaced j = AllByRecursion (λ (e : Row). slot e.values ≡ j) (chains j)

  all_in : (j : ℕ) (es : List Row) → AllByRecursion (λ (e : Row). slot e.values ≡ j) es → in_slot slot j (values_of es) ≡ values_of es
  all_in j [] placed = refl
  all_in j (e ∷ es) placed = kept_in (slot e.values == j) (eq-eqb (slot e.values) j placed.0) e.values (in_slot slot j (values_of es)) (values_of es) (all_in j es placed.1)
    where
      kept_in : (b : Bool) → b ≡ true → (v : List Val) (xs ys : List (List Val)) → xs ≡ ys → cond b (v ∷ xs) xs ≡ v ∷ ys
      kept_in true is v xs ys same = ap (λ (zs : List (List Val)). v ∷ zs) same
      kept_in false is v xs ys same = absurd cc

  none_in : (i j : ℕ) (es : List Row) → (i ≡ j → ⊥) → AllByRecursion (λ (e : Row). slot e.values ≡ i) es → in_slot slot j (values_of es) ≡ []
  none_in i j [] other placed = refl
  none_in i j (e ∷ es) other placed = left_out (slot e.values == j) (λ is. other (sym placed.0 ∙ eqb-true (slot e.values) j is)) e.values (in_slot slot j (values_of es)) (none_in i j es other placed.1)
    where
      left_out : (b : Bool) → (b ≡ true → ⊥) → (v : List Val) (xs : List (List Val)) → xs ≡ [] → cond b (v ∷ xs) xs ≡ []
      left_out true isnt v xs none = absurd (isnt refl)
      left_out false isnt v xs none = none

  parts_in : (j a n : ℕ) → in_slot slot j (entries_from chains a (suc n)) ≡ in_slot slot j (values_of (chains a)) ++ in_slot slot j (entries_from chains (suc a) n)
  parts_in j a n = filter-append (λ (v : List Val). slot v == j) (values_of (chains a)) (entries_from chains (suc a) n)

  later_in : (j a n : ℕ) → j < a → ((i : ℕ) → a ≤ i → i < a + n → ArePlaced i) → in_slot slot j (entries_from chains a n) ≡ []
  later_in j a zero less placed = refl
  later_in j a (suc n) less placed = parts_in j a n
      ∙ ap₂ (λ (x y : List (List Val)). x ++ y) (none_in a j (chains a) (λ e. omega (arith, e, less)) (placed a (omega arith) (omega arith)))
      (later_in j (suc a) n (omega (arith, less)) (λ i from to. placed i (omega (arith, from)) (omega (arith, to))))

  differs : (b : Bool) → b ≡ true → b ≡ false → ⊥
  differs true so isnt = cc
  differs false so isnt = cc

  -- the first slot is this one, or it isn't
  one_slot : (j a n : ℕ) → a ≤ j → ((i : ℕ) → a ≤ i → i < a + suc n → ArePlaced i) → (a < j → in_slot slot j (entries_from chains (suc a) n) ≡ values_of (chains j)) → (b : Bool) → (a == j) ≡ b →
      in_slot slot j (entries_from chains a (suc n)) ≡ values_of (chains j)
  one_slot j a n low placed further true is =
      let same : a ≡ j = eqb-true a j is in
      subst (λ (i : ℕ). in_slot slot i (entries_from chains a (suc n)) ≡ values_of (chains i)) same
      (parts_in a a n ∙ (ap₂ (λ (x y : List (List Val)). x ++ y) (all_in a (chains a) (placed a (omega arith) (omega arith))) (later_in a (suc a) n (omega arith) (λ i from to. placed i (omega (arith, from)) (omega (arith, to)))) ∙ append-nil (values_of (chains a))))
  one_slot j a n low placed further false is =
      let other : a ≡ j → ⊥ = λ e. differs (a == j) (eq-eqb a j e) is in
      parts_in j a n ∙ ap₂ (λ (x y : List (List Val)). x ++ y) (none_in a j (chains a) other (placed a (omega arith) (omega arith))) (further (omega (arith, low, other)))

  slot_in : (j a n : ℕ) → a ≤ j → j < a + n → ((i : ℕ) → a ≤ i → i < a + n → ArePlaced i) → in_slot slot j (entries_from chains a n) ≡ values_of (chains j)
  slot_in j a zero low high placed = absurd (omega (arith, low, high))
  slot_in j a (suc n) low high placed =
      one_slot j a n low placed (λ less. slot_in j (suc a) n (omega (arith, less)) (omega (arith, high)) (λ i from to. placed i (omega (arith, from)) (omega (arith, to)))) (a == j) refl

  -- the entries of a slot are those of its chain
  pub slot_entries : ((j : ℕ) → j < 1024 → ArePlaced j) → (j : ℕ) → j < 1024 → in_slot slot j (all_entries chains) ≡ values_of (chains j)
  slot_entries placed j low = ap (in_slot slot j) (all_entries_are chains) ∙ slot_in j 0 1024 (omega arith) (omega (arith, low)) (λ i from to. placed i (omega (arith, to)))

  -- what comes of all of them, where only those of a slot give anything, comes of those
  module _ (j : ℕ) (F : List Val → Flow (List Val)) (elsewhere : (v : List Val) → (slot v == j) ≡ false → F v ≡ nothing) where
    pub flow_in : (vs : List (List Val)) → flow_over F vs ≡ flow_over F (in_slot slot j vs)
    flow_in [] = refl
    flow_in (v ∷ vs) = one (slot v == j) refl (in_slot slot j vs) (flow_in vs)
      where
        one : (b : Bool) → (slot v == j) ≡ b → (ws : List (List Val)) → flow_over F vs ≡ flow_over F ws → flow_over F (v ∷ vs) ≡ flow_over F (cond b (v ∷ ws) ws)
        one true is ws same = ap (both (F v)) same
        one false is ws same = ap (λ (f : Flow (List Val)). both f (flow_over F vs)) (elsewhere v is) ∙ same

-- ---- of a chain by its rows or their values
pub flow_values : (F : List Val → Flow (List Val)) (es : List Row) → flow_over F (values_of es) ≡ flow_over (λ (e : Row). F e.values) es
flow_values F [] = refl
flow_values F (e ∷ es) = ap (both (F e.values)) (flow_values F es)

pub spend_values : (u : List Val → ℕ) (es : List Row) → spend u (values_of es) ≡ spend (λ (e : Row). u e.values) es
spend_values u [] = refl
spend_values u (e ∷ es) = ap (λ (n : ℕ). 1 + u e.values + n) (spend_values u es)
