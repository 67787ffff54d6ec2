-- What is seen of memory while groups are walked over: what was seen before, and of the table of groups the cells of two octets and more. So the areas of
-- set functions are seen, and yet no text lies in the table.
use Rattle.std.proofs.Common.{◌≡◌, ℕ, length, ◌+◌, ◌≤◌, nat_le, ◌&&◌, if◌then◌else◌, Bool, true, false, Option, Some, List, [], ◌∷◌, refl, sym, ◌∙◌}
use Rattle.std.proofs.lemmas.Bool.{and_parts, le-leb, leb-true}
use Rattle.qw_types.specs.declared.kind.Kind.{Kind}
use Rattle.qw_types.specs.declared.value.Val.{Val}
use Rattle.qw_low.specs.State.{Part, Column, Own, Value, Cells, LowState}
use Rattle.qw_low.proofs.LessKnown.{IsLess, seen}
use Rattle.qw_feed.specs.Cells.{HasRow}
use Rattle.qw_feed.specs.Frames.{pos}
use Rattle.qw_feed.specs.Rows.{AreRows, HasRows, Row, address, start_of}
use Rattle.qw_low.specs.Held.{LiesAt}
use Rattle.qw_operator.proofs.Seen.{LiesIn, StandsIn, lies_more}
use Rattle.qw_operator.proofs.Stood.{cells_map}
use Rattle.qw_layout.specs.Row.{cell_offset}
use Rattle.qw_grouped.specs.Groups.{members}
use Rattle.qw_table.specs.declared.key.Field.{Field}
use Rattle.qw_group.specs.Groups.{HasGroup, HasGroups, group_size}
use Rattle.qw_group.specs.declared.group.Aggregate.{Aggregate}
use Rattle.qw_group.proofs.EntryAreas.{areas-map}
use Rattle.qw_group.proofs.PlaceRuns.{Linked-map}

abbrev pub IsInside : (from to : ℕ) → (k a b : ℕ) → Bool
IsInside from to k a b = nat_le 2 b && (nat_le from (pos k a) && nat_le (pos k a + b) to)

abbrev pub widened : (from to : ℕ) → (d c : Cells) → Cells
widened from to d c (Column k) a b = c (Column k) a b
widened from to d c (Own k) a b = if IsInside from to k a b then d (Own k) a b else c (Own k) a b

module _ (from to : ℕ) (d c : Cells) where
  abbrev more : Cells
  more = widened from to d c

  inside_parts : (k a b : ℕ) → IsInside from to k a b ≡ true → (2 ≤ b) × (from ≤ pos k a) × (pos k a + b ≤ to)
  inside_parts k a b tested =
      let two = and_parts (nat_le 2 b) (nat_le from (pos k a) && nat_le (pos k a + b) to) tested in
      let ends = and_parts (nat_le from (pos k a)) (nat_le (pos k a + b) to) two.1 in
      (leb-true 2 b two.0, leb-true from (pos k a) ends.0, leb-true (pos k a + b) to ends.1)

  -- the table is seen
  pub table_seen : (k a b : ℕ) → 2 ≤ b → from ≤ pos k a → pos k a + b ≤ to → more (Own k) a b ≡ d (Own k) a b
  table_seen k a b wide low high =
      let inside : IsInside from to k a b ≡ true = rw (le-leb 2 b wide, le-leb from (pos k a) low, le-leb (pos k a + b) to high) refl in
      rw inside refl

  -- what is seen is in the table, or was seen
  pub seen_where : (P : ℕ → ℕ → Type 0) → ((k a b : ℕ) → from ≤ pos k a → pos k a + b ≤ to → P (pos k a) b) → ((k a b : ℕ) (v : Value) → c (Own k) a b ≡ Some v → P (pos k a) b) → (k a b : ℕ) (v : Value) → more (Own k) a b ≡ Some v → P (pos k a) b
  seen_where P table others k a b v is = by_test (IsInside from to k a b) refl is
    where
      by_test : (inside : Bool) → IsInside from to k a b ≡ inside → (if inside then d (Own k) a b else c (Own k) a b) ≡ Some v → P (pos k a) b
      by_test true tested found = let parts = inside_parts k a b tested in table k a b parts.1 parts.2
      by_test false tested found = others k a b v found

  module _ (less : IsLess c d) where
    pub widened_less : IsLess more d
    widened_less (Column k) a b v is = less (Column k) a b v is
    widened_less (Own k) a b v is = by_test (IsInside from to k a b) is
      where
        by_test : (inside : Bool) → (if inside then d (Own k) a b else c (Own k) a b) ≡ Some v → d (Own k) a b ≡ Some v
        by_test true found = found
        by_test false found = less (Own k) a b v found

    pub less_widened : IsLess c more
    less_widened (Column k) a b v is = is
    less_widened (Own k) a b v is = by_test (IsInside from to k a b)
      where
        by_test : (inside : Bool) → (if inside then d (Own k) a b else c (Own k) a b) ≡ Some v
        by_test true = less (Own k) a b v is
        by_test false = is

    -- a text that stands in what was seen stands there still
    pub stands_widened : (s : LowState) (p : Part) (o : ℕ) (octets : List ℕ) → StandsIn c s p o octets → StandsIn more s p o octets
    stands_widened s p o octets stands = (stands.0, stands.1, lies_more c (seen more s) p o octets less_widened stands.2)

  -- and a text that lies in what is seen lies in what was seen
  octet_same : (p : Part) (a : ℕ) → more p a 1 ≡ c p a 1
  octet_same (Column k) a = refl
  octet_same (Own k) a = refl

  pub lies_before : (p : Part) (o : ℕ) (octets : List ℕ) → LiesIn more p o octets → LiesIn c p o octets
  lies_before p o octets lies = (lies.0, λ i octet is. sym (octet_same p (o + i)) ∙ lies.1 i octet is)

  lies_at_before : (s : LowState) (p : Part) (o : ℕ) (octets : List ℕ) → LiesAt (seen more s) p o octets → LiesAt (seen c s) p o octets
  lies_at_before s (Column k) o octets lies = record { size = lies.size; sized = lies.sized; inside = lies.inside; each = λ i octet is. sym (octet_same (Column k) (o + i)) ∙ lies.each i octet is }
  lies_at_before s (Own k) o octets lies = record { size = lies.size; sized = lies.sized; inside = lies.inside; each = λ i octet is. sym (octet_same (Own k) (o + i)) ∙ lies.each i octet is }

  pub stands_before : (s : LowState) (p : Part) (o : ℕ) (octets : List ℕ) → StandsIn more s p o octets → StandsIn c s p o octets
  stands_before s p o octets stands = (stands.0, stands.1, lies_at_before s p o octets stands.2)

-- ---- groups whose texts stand elsewhere
pub groups_elsewhere : (Text Text' : Part → ℕ → List ℕ → Type 0) → ((p : Part) (o : ℕ) (octets : List ℕ) → Text p o octets → Text' p o octets) → (key : List Field) (aggregates : List Aggregate) (k o d u before : ℕ) (rows : List (List Val)) (s : LowState) →
    HasGroups (length key) (HasGroup Text key aggregates) (group_size key aggregates) k o d u before rows s → HasGroups (length key) (HasGroup Text' key aggregates) (group_size key aggregates) k o d u before rows s
groups_elsewhere Text Text' also key aggregates k o d u before rows s h = record {
  part = h.part;
  offset = h.offset;
  room = h.room;
  at = h.at;
  chains = h.chains;
  directory = h.directory;
  linked = λ j low. Linked-map (HasGroup Text key aggregates rows) (HasGroup Text' key aggregates rows) (group_size key aggregates) s.cells s.cells (pos k (o + 4096)) (pos h.part h.offset) (h.chains j) (λ e there. (refl, λ has. later e.part e.offset e.values has)) (h.linked j low);
  home = h.home;
  apart = h.apart;
  all = h.all;
  some = h.some;
  same = h.same;
  paid = h.paid;
}
  where
    later : (p at : ℕ) (values : List Val) → HasGroup Text key aggregates rows s.cells p at values → HasGroup Text' key aggregates rows s.cells p at values
    later p at values has = (
      has.0,
      cells_map Text Text' s.cells p (at + 24) values also has.1,
      areas-map Text Text' also s.cells p (length key) aggregates (members (length key) values rows) (at + cell_offset (length key)) has.2,
    )

-- ---- rows whose texts lie elsewhere
module _ (Text Text' : Part → ℕ → List ℕ → Type 0) (also : (p : Part) (o : ℕ) (octets : List ℕ) → Text p o octets → Text' p o octets) (kinds : List (Option Kind)) (size : ℕ) where
  chained : (c : Cells) (base front : ℕ) (next : Value) (found : List Row) → AreRows (HasRow Text kinds) size c base front next found → AreRows (HasRow Text' kinds) size c base front next found
  chained c base front next [] h = h
  chained c base front next (r ∷ rs) h = (
    h.0,
    (h.1.0, cells_map Text Text' c r.part (r.offset + 8) r.values also h.1.1),
    h.2,
    h.3,
    chained c base (start_of r) (address r) rs h.4,
  )

  pub rows_elsewhere : (base u before : ℕ) (rows : List (List Val)) (s : LowState) → HasRows (HasRow Text kinds) size base u before rows s → HasRows (HasRow Text' kinds) size base u before rows s
  rows_elsewhere base u before rows s h = record {
    found = h.found;
    values_are = h.values_are;
    part = h.part;
    offset = h.offset;
    behind = h.behind;
    room = h.room;
    descriptor = h.descriptor;
    link = h.link;
    count = h.count;
    chain = chained s.cells base (pos h.part h.offset) _ h.found h.chain;
    paid = h.paid;
  }
