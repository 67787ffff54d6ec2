-- A granted part: what stands before a request that is granted stands after it, with the new part, wherever its pages lie.
use Rattle.std.proofs.Common.{◌≡◌, ℕ, zero, suc, ◌+◌, ◌*◌, ◌≤◌, ◌⊎◌, inl, inr, Bool, true, false, nat_le, List, [], ◌∷◌, ◌++◌, length, map, Option, Some, None, slice_get, refl, sym, ap, ◌∙◌, subst, ⊎_elim, arith, if◌then◌else◌}
use Rattle.std.proofs.lemmas.Bool.{leb-true}
use Rattle.std.proofs.lemmas.Option.{same_Some, none-some}
use Rattle.std.proofs.lemmas.List.{length-map}
use Rattle.qw_linear.specs.Memory.{page, most_pages, pages_of, cleared}
use Rattle.std.specs.List.{AllByRecursion}
use Rattle.qw_linear.proofs.ClearedFacts.{length-cleared-any, number_at-cleared, number_at-cleared-new, AreOctets-cleared}
use Rattle.qw_map.specs.Areas.{Area, World, LiesBeside, LieFree}
use Rattle.qw_map.proofs.RunRules.{with_granted, with_refused}
use Rattle.qw_map.specs.Turns.{AreApart}
use Rattle.qw_low.specs.State.{Part, Column, Own, Value, Number, Address, LowState, same_part, with_part, with_pages}
use Rattle.qw_low.specs.Places.{area_of, Means, AreMeant, Fits, Holds, StandsFor}
use Rattle.qw_low.proofs.CellLemmas.{same_part-is}

-- a list with one more
get-more : (xs : List Area) (k : ℕ) (a b : Area) → slice_get xs k ≡ Some b → slice_get (xs ++ a ∷ []) k ≡ Some b
get-more [] k a b found = absurd (none-some b found)
get-more (x ∷ xs) zero a b found = found
get-more (x ∷ xs) (suc k) a b found = get-more xs k a b found

pub get-last : {A : Type 0} (xs : List A) (a : A) → slice_get (xs ++ a ∷ []) (length xs) ≡ Some a
get-last {A} [] a = refl
get-last {A} (x ∷ xs) a = get-last xs a

get-either : (xs : List Area) (k : ℕ) (a b : Area) → slice_get (xs ++ a ∷ []) k ≡ Some b → (slice_get xs k ≡ Some b) ⊎ ((k ≡ length xs) × (a ≡ b))
get-either [] zero a b found = inr (refl, same_Some a b found)
get-either [] (suc k) a b found = absurd (none-some b found)
get-either (x ∷ xs) zero a b found = inl found
get-either (x ∷ xs) (suc k) a b found = ⊎_elim inl (λ h. inr (ap suc h.0, h.1)) (get-either xs k a b found)

map-more : (xs : List Area) (a : Area) → map (λ (x : Area). x.size) (xs ++ a ∷ []) ≡ map (λ (x : Area). x.size) xs ++ a.size ∷ []
map-more [] a = refl
map-more (x ∷ xs) a = ap (λ (sizes : List ℕ). x.size ∷ sizes) (map-more xs a)

-- what holds of each holds of one
pub all-get : {A : Type 0} (P : A → Type 0) (xs : List A) (k : ℕ) (a : A) → AllByRecursion P xs → slice_get xs k ≡ Some a → P a
all-get P [] k a all found = absurd (none-some a found)
all-get P (x ∷ xs) zero a all found = subst P (same_Some x a found) all.0
all-get P (x ∷ xs) (suc k) a all found = all-get P xs k a all.1 found

-- so many pages, one at least
module _ (w : World) (s : LowState) (less first : ℕ) where
  abbrev pub start : ℕ
  start = first * page

  abbrev pub count : ℕ
  count = suc less

  abbrev pub new : Area
  new = record { start = start; size = count * page }

  abbrev pub later : World
  later = with_granted w start count

  pub area-more : (p : Part) (a : Area) → area_of w p ≡ Some a → area_of later p ≡ Some a
  area-more (Column k) a is = is
  area-more (Own k) a is = get-more w.own k new a is

  pub Means-more : (v : Value) (x : ℕ) → Means w v x → Means later v x
  Means-more (Number n) x means = means
  Means-more (Address p off) x means = (means.0, area-more p means.0 means.1, means.2, means.3)

  pub AreMeant-more : (vs : List Value) (xs : List ℕ) → AreMeant w vs xs → AreMeant later vs xs
  AreMeant-more [] [] are = tt
  AreMeant-more (v ∷ vs) (x ∷ xs) are = (Means-more v x are.0, AreMeant-more vs xs are.1)
  AreMeant-more [] (x ∷ xs) are = absurd are
  AreMeant-more (v ∷ vs) [] are = absurd are

  either_area : (p : Part) (a : Area) → area_of later p ≡ Some a → (area_of w p ≡ Some a) ⊎ ((p ≡ Own (length w.own)) × (new ≡ a))
  either_area (Column k) a is = inl is
  either_area (Own k) a is = ⊎_elim inl (λ h. inr (ap Own h.0, h.1)) (get-either w.own k new a is)

  pub new-there : Fits w s → area_of later (Own (length s.own)) ≡ Some new
  new-there fits = ap (λ (k : ℕ). area_of later (Own k)) (sym (sym (length-map w.own (λ (x : Area). x.size)) ∙ ap (λ (sizes : List ℕ). length sizes) fits.own)) ∙ get-last w.own new

  module _ (m : List ℕ) (stands : StandsFor w s m) (placed : (first ≡ pages_of m) ⊎ ((first + count ≤ pages_of m) × LieFree w first count))
      (room : (first + count) * page ≤ most_pages * page) where
    many : length w.own ≡ length s.own
    many = sym (length-map w.own (λ (x : Area). x.size)) ∙ ap (λ (sizes : List ℕ). length sizes) stands.fits.own

    there : start ≤ length m
    there = let w = stands.whole in ⊎_elim (λ next. omega (arith, next, w)) (λ old. let o = old.0 in omega (arith, o, w)) placed

    -- the new area is apart from all others
    beside : (p : Part) (a : Area) → area_of w p ≡ Some a → AreApart a new
    beside p a is = ⊎_elim
        (λ next. inl (let inside = stands.inside p a is in let w = stands.whole in omega (arith, inside, next, w)))
        (λ old. by_part p is old.1)
        placed
      where
        by_part : (p : Part) → area_of w p ≡ Some a → LieFree w first count → AreApart a new
        by_part (Column k) is free = inl (all-get (λ a. a.start + a.size ≤ first * page) w.mapped k a free.1 is)
        by_part (Own k) is free = ⊎_elim (λ before. inl before) (λ behind. inr (omega (arith, behind))) (all-get (LiesBeside first count) w.own k a free.2 is)

    apart_now : (k : ℕ) (q : Part) (a b : Area) → area_of later (Own k) ≡ Some a → area_of later q ≡ Some b → (q ≡ Own k) ⊎ AreApart a b
    apart_now k q a b first second = ⊎_elim
        (λ old. ⊎_elim
        (λ also. stands.fits.apart k q a b old also)
        (λ last. inr (subst (λ (x : Area). AreApart a x) last.1 (beside (Own k) a old)))
        (either_area q b second))
        (λ last. ⊎_elim
        (λ also. inr (subst (λ (x : Area). AreApart x b) last.1 (⊎_elim inr inl (beside q b also))))
        (λ both. inl (both.0 ∙ sym last.0))
        (either_area q b second))
        (either_area (Own k) a first)

    -- the memory is no shorter, has whole pages, and holds the new ones
    sizes : (length m ≤ length (cleared first count m)) × (start + count * page ≤ length (cleared first count m)) × (length (cleared first count m) ≡ pages_of (cleared first count m) * page) × (length (cleared first count m) ≤ most_pages * page)
    sizes =
        let whole = stands.whole in
        let most = stands.room in
        let long = length-cleared-any first count m there in
        ⊎_elim
        (λ next. (omega (arith, long, next, whole), omega (arith, long, next, whole), omega (arith, long, next, whole), omega (arith, long, next, whole, room)))
        (λ old. let o = old.0 in (omega (arith, long, o, whole), omega (arith, long, o, whole), omega (arith, long, o, whole), omega (arith, long, o, whole, most)))
        placed

    known_part : (p q : Bool) (u : Value) (c : Option Value) → (if p then (if q then Some (Number 0) else None) else c) ≡ Some u → ((p ≡ true) × (q ≡ true) × (u ≡ Number 0)) ⊎ ((p ≡ false) × (c ≡ Some u))
    known_part true true u c is = inl (refl, refl, sym (same_Some (Number 0) u is))
    known_part true false u c is = absurd (none-some u is)
    known_part false q u c is = inr (refl, is)

    cells_now : (q : Part) (a b : ℕ) (u : Value) → with_part s.cells (length s.own) (count * page) q a b ≡ Some u → Holds later (cleared first count m) q a b u
    cells_now q a b u known = ⊎_elim
        (λ here.
        let part : q ≡ Own (length s.own) = same_part-is (length s.own) q here.0 in
        let new_is : area_of later (Own (length s.own)) ≡ Some new = ap (λ (k : ℕ). area_of later (Own k)) (sym many) ∙ get-last w.own new in
        let within = leb-true (a + b) (count * page) here.1 in
        rw (part, here.2) (record { area = new; is = new_is; inside = within; means = number_at-cleared-new first count m (start + a) b there (omega arith) (omega (arith, within)) }))
        (λ old.
        let r = stands.cells q a b u old.1 in
        let apart : (r.area.start + a + b ≤ first * page) ⊎ ((first + count) * page ≤ r.area.start + a) =
        ⊎_elim (λ before. inl (omega (arith, before, r.inside))) (λ behind. inr (omega (arith, behind))) (beside q r.area r.is) in
        record {
          area = r.area;
          is = area-more q r.area r.is;
          inside = r.inside;
          means = subst (λ (n : ℕ). Means later u n) (sym (number_at-cleared first count m (r.area.start + a) b there apart)) (Means-more u _ r.means);
        })
        (known_part (same_part (Own (length s.own)) q) (nat_le (a + b) (count * page)) u (s.cells q a b) known)

    pub stands-more : StandsFor later (with_pages s count) (cleared first count m)
    stands-more =
        let longer = sizes.0 in
        let holds = sizes.1 in
        record {
          fits = record {
            columns = stands.fits.columns;
            own = map-more w.own new ∙ ap (λ (sizes : List ℕ). sizes ++ count * page ∷ []) stands.fits.own;
            held = ap (λ (n : ℕ). n + count) stands.fits.held;
            limit = stands.fits.limit;
            refused = stands.fits.refused;
            positive = λ p a is. ⊎_elim
                (λ old. stands.fits.positive p a old)
                (λ last.
                let begins = ap (λ (x : Area). x.start) last.1 in
                let some = stands.some in
                let whole = stands.whole in
                ⊎_elim (λ next. omega (arith, some, whole, next, begins)) (λ free. let low = free.1.0 in omega (arith, low, begins)) placed)
                (either_area p a is);
            apart = apart_now;
          };
          some = omega (arith, longer, stands.some);
          octets = AreOctets-cleared first count m stands.octets;
          whole = sizes.2;
          room = sizes.3;
          inside = λ p a is. ⊎_elim
              (λ old. let inside = stands.inside p a old in omega (arith, longer, inside))
              (λ last. omega (arith, holds, ap (λ (x : Area). x.start) last.1, ap (λ (x : Area). x.size) last.1))
              (either_area p a is);
          cells = cells_now;
        }

-- a request that is refused
pub stands-refused : (w : World) (s : LowState) (count : ℕ) (m : List ℕ) → StandsFor w s m → StandsFor (with_refused w count) (record s { refused = Some count }) m
stands-refused w s count m h = record {
  fits = record { columns = h.fits.columns; own = h.fits.own; held = h.fits.held; limit = h.fits.limit; refused = refl; positive = λ p a is. h.fits.positive p a (back p a is); apart = same_apart };
  some = h.some;
  octets = h.octets;
  whole = h.whole;
  room = h.room;
  inside = same_inside;
  cells = λ p a b u known. let r = h.cells p a b u known in record { area = r.area; is = same_area p r.area r.is; inside = r.inside; means = same_means u _ r.means };
}
  where
    same_area : (p : Part) (a : Area) → area_of w p ≡ Some a → area_of (with_refused w count) p ≡ Some a
    same_area (Column k) a is = is
    same_area (Own k) a is = is

    back : (p : Part) (a : Area) → area_of (with_refused w count) p ≡ Some a → area_of w p ≡ Some a
    back (Column k) a is = is
    back (Own k) a is = is

    same_means : (v : Value) (x : ℕ) → Means w v x → Means (with_refused w count) v x
    same_means (Number n) x means = means
    same_means (Address p off) x means = (means.0, same_area p means.0 means.1, means.2, means.3)

    same_inside : (p : Part) (a : Area) → area_of (with_refused w count) p ≡ Some a → a.start + a.size ≤ length m
    same_inside p a is = h.inside p a (back p a is)

    same_apart : (k : ℕ) (q : Part) (a b : Area) → area_of (with_refused w count) (Own k) ≡ Some a → area_of (with_refused w count) q ≡ Some b → (q ≡ Own k) ⊎ AreApart a b
    same_apart k q a b first second = h.fits.apart k q a b first (back q b second)
