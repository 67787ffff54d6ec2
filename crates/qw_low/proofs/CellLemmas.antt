-- What is read of a cell, and what a store leaves of the others.
use Rattle.std.proofs.Common.{◌≡◌, ℕ, ◌+◌, ◌*◌, ◌%◌, ◌^◌, ◌<◌, ◌≤◌, ◌⊎◌, ◌==◌, ◌&&◌, ◌||◌, inl, inr, Bool, true, false, nat_le, List, length, Option, Some, None, option_and_then, refl, sym, ap, ◌∙◌, subst, ⊎_elim, arith, if◌then◌else◌}
use Rattle.std.proofs.lemmas.Bool.{leb-true, eqb-true, eq-eqb, or_cases, and_parts, false≢true}
use Rattle.std.proofs.lemmas.Option.{same_Some, none-some}
use Rattle.qw_module.specs.declared.instruction.ValType.TheVariants.{I32, I64}
use Rattle.qw_linear.specs.Memory.{page, most_pages, number_at, with_number}
use Rattle.qw_linear.proofs.MemoryFacts.{length-with_number, number_at-with_number, number_at-apart, AreOctets-with_number}
use Rattle.qw_module.specs.declared.instruction.Load.{Load}
use Rattle.qw_module.specs.declared.instruction.Load.TheVariants as load
use Rattle.qw_module.specs.declared.instruction.Store.{Store}
use Rattle.qw_module.specs.declared.instruction.Store.TheVariants as store
use Rattle.qw_module.specs.Numbers.{load_width, loaded_value, store_width}
use Rattle.qw_map.specs.Areas.{Area, World}
use Rattle.qw_low.specs.State.{Part, Column, Own, Value, Number, Address, LowState, same_part, loaded_as, stored_as, with_cell}
use Rattle.qw_low.specs.Meaning.{found_at}
use Rattle.qw_low.specs.Places.{area_of, Means, Holds, StandsFor}

pub loaded-means : (w : World) (l : Load) (u v : Value) (n : ℕ) → Means w u n → loaded_as l u ≡ Some v → Means w v (loaded_value l n)
loaded-means w l (Number m) v n means is = subst (λ (x : Value). Means w x (loaded_value l n)) (same_Some _ v is) (ap (loaded_value l) means)
loaded-means w (load.Full I32) (Address p off) v n means is = subst (λ (x : Value). Means w x n) (same_Some _ v is) means
loaded-means w (load.Full I64) (Address p off) v n means is = absurd (none-some v is)
loaded-means w (load.From8 type sign) (Address p off) v n means is = absurd (none-some v is)
loaded-means w (load.From16 type sign) (Address p off) v n means is = absurd (none-some v is)
loaded-means w (load.I64From32 sign) (Address p off) v n means is = absurd (none-some v is)

-- what an optional value gives is given by a value that is there
pub given-there : {S T : Type 0} (f : S → Option T) (found : Option S) (v : T) → option_and_then f found ≡ Some v → (u : S) × (found ≡ Some u) × (f u ≡ Some v)
given-there f None v is = absurd (none-some v is)
given-there f (Some u) v is = (u, refl, is)

pub found-there : (s : LowState) (l : Load) (offset : ℕ) (at : Option Value) (v : Value) → found_at s l offset at ≡ Some v →
    (p : Part) × (off : ℕ) × (u : Value) × (at ≡ Some (Address p off)) × (s.cells p (off + offset) (load_width l) ≡ Some u) × (loaded_as l u ≡ Some v)
found-there s l offset None v is = absurd (none-some v is)
found-there s l offset (Some (Number n)) v is = absurd (none-some v is)
found-there s l offset (Some (Address p off)) v is =
    let there = given-there (loaded_as l) (s.cells p (off + offset) (load_width l)) v is in
    (p, off, there.0, refl, there.1, there.2)

-- the word of an address is below 2^32
pub word-small : (w : World) (s : LowState) (m : List ℕ) → StandsFor w s m → (p : Part) (off n : ℕ) → Means w (Address p off) n → n < 2 ^ 32
word-small w s m stands p off n means =
    let inside : means.0.start + means.0.size ≤ length m = stands.inside p means.0 means.1 in
    let room : length m ≤ most_pages * page = stands.room in
    omega (arith, means.2, means.3)

pub stored-means : (w : World) (s : LowState) (m : List ℕ) → StandsFor w s m → (st : Store) (u v : Value) (n : ℕ) → Means w u n → stored_as st u ≡ Some v → Means w v (n % 2 ^ (8 * store_width st))
stored-means w s m stands st (Number k) v n means is = subst (λ (x : Value). Means w x (n % 2 ^ (8 * store_width st))) (same_Some _ v is) (ap (λ (x : ℕ). x % 2 ^ (8 * store_width st)) means)
stored-means w s m stands (store.Full I32) (Address p off) v n means is =
    let small : n < 2 ^ 32 = word-small w s m stands p off n means in
    let same : n ≡ n % 2 ^ 32 = omega arith in
    subst (λ (x : ℕ). Means w v x) same (subst (λ (x : Value). Means w x n) (same_Some _ v is) means)
stored-means w s m stands (store.Full I64) (Address p off) v n means is = absurd (none-some v is)
stored-means w s m stands (store.To8 type) (Address p off) v n means is = absurd (none-some v is)
stored-means w s m stands (store.To16 type) (Address p off) v n means is = absurd (none-some v is)
stored-means w s m stands store.I64To32 (Address p off) v n means is = absurd (none-some v is)

pub same_part-is : (k : ℕ) (q : Part) → same_part (Own k) q ≡ true → q ≡ Own k
same_part-is k (Column j) is = absurd (false≢true is)
same_part-is k (Own j) is = ap Own (sym (eqb-true k j is))

pub same_part-refl : (k : ℕ) (q : Part) → q ≡ Own k → same_part (Own k) q ≡ true
same_part-refl k q is = rw (is, eq-eqb k k refl) refl

-- which of the ways a cell is known after a store
known-by : (p q r : Bool) (v u : Value) (c : Option Value) → (if p then (if q then Some v else (if r then c else None)) else c) ≡ Some u →
    ((p ≡ true) × (q ≡ true) × (v ≡ u)) ⊎ (((p ≡ true) × (r ≡ true) × (c ≡ Some u)) ⊎ ((p ≡ false) × (c ≡ Some u)))
known-by true true r v u c is = inl (refl, refl, same_Some v u is)
known-by true false true v u c is = inr (inl (refl, refl, is))
known-by true false false v u c is = absurd (none-some u is)
known-by false q r v u c is = inr (inr (refl, is))

-- ---- a store into an own part
module _ (w : World) (s : LowState) (m : List ℕ) (stands : StandsFor w s m) (k off width : ℕ) (v : Value) (area : Area) (is : area_of w (Own k) ≡ Some area)
    (fits : off + width ≤ area.size) (word : ℕ) (means : Means w v (word % 2 ^ (8 * width))) where
  abbrev at : ℕ
  at = area.start + off

  abbrev changed : List ℕ
  changed = with_number m (area.start + off) width word

  inside : area.start + area.size ≤ length m
  inside = stands.inside (Own k) area is

  -- a cell that was known, and lies apart
  apart_reads : (q : Part) (a b : ℕ) (u : Value) → (r : Holds w m q a b u) → (r.area.start + a + b ≤ area.start + off) ⊎ (area.start + off + width ≤ r.area.start + a) → Holds w changed q a b u
  apart_reads q a b u r apart = record {
    area = r.area;
    is = r.is;
    inside = r.inside;
    means = subst (λ (n : ℕ). Means w u n) (sym (number_at-apart m (area.start + off) width word (r.area.start + a) b apart)) r.means;
  }

  cell_reads : (q : Part) (a b : ℕ) (u : Value) → with_cell s.cells (Own k) off width v q a b ≡ Some u → Holds w changed q a b u
  cell_reads q a b u known = ⊎_elim
      (λ here.
      let part : q ≡ Own k = same_part-is k q here.0 in
      let both = and_parts (a == off) (b == width) here.1 in
      let place : a ≡ off = eqb-true a off both.0 in
      let wide : b ≡ width = eqb-true b width both.1 in
      let read : number_at changed (area.start + off) width ≡ word % 2 ^ (8 * width) = number_at-with_number m (area.start + off) width word (omega (arith, inside)) in
      rw (part, place, wide, ← here.2) (record { area = area; is = is; inside = fits; means = subst (λ (n : ℕ). Means w v n) (sym read) means }))
      (λ further. ⊎_elim
      (λ beside.
      let part : q ≡ Own k = same_part-is k q beside.0 in
      let r = stands.cells q a b u beside.2 in
      let area_is : r.area ≡ area = same_Some r.area area (sym r.is ∙ ap (area_of w) part ∙ is) in
      let start_is : r.area.start ≡ area.start = ap (λ (x : Area). x.start) area_is in
      apart_reads q a b u r (⊎_elim
      (λ before. inl (let le = leb-true (a + b) off before in omega arith))
      (λ behind. inr (let le = leb-true (off + width) a behind in omega arith))
      (or_cases (nat_le (a + b) off) (nat_le (off + width) a) beside.1)))
      (λ other.
      let r = stands.cells q a b u other.1 in
      apart_reads q a b u r (⊎_elim
      (λ part. absurd (false≢true (sym other.0 ∙ same_part-refl k q part)))
      (λ apart. ⊎_elim
      (λ below. inr (omega (arith, r.inside)))
      (λ above. inl (omega (arith, r.inside)))
      apart)
      (stands.fits.apart k q area r.area is r.is)))
      further)
      (known-by (same_part (Own k) q) ((a == off) && (b == width)) (nat_le (a + b) off || nat_le (off + width) a) v u (s.cells q a b) known)

  pub stored-stands : StandsFor w (record s { cells = with_cell s.cells (Own k) off width v }) changed
  stored-stands =
      let same : length changed ≡ length m = length-with_number m (area.start + off) width word in
      record {
        fits = record { columns = stands.fits.columns; own = stands.fits.own; held = stands.fits.held; limit = stands.fits.limit; refused = stands.fits.refused; positive = stands.fits.positive; apart = stands.fits.apart };
        whole = omega (arith, stands.whole);
        room = omega (arith, stands.room);
        some = omega (arith, stands.some);
        octets = AreOctets-with_number m stands.octets (area.start + off) width word;
        inside = λ p a there. omega (arith, stands.inside p a there);
        cells = cell_reads;
      }
