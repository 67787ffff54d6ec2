-- The columns of a row of the scan, which are read in parts, each where it is first named.
use Rattle.std.proofs.Common.{◌≡◌, ℕ, zero, suc, ◌<◌, ◌≤◌, Option, Some, None, List, [], ◌∷◌, ◌++◌, length, map, take, Ok, refl, sym, ap, ◌∙◌, subst, arith}
use Rattle.std.proofs.lemmas.List.{map-append}
use Rattle.std.specs.List.{AllByRecursion}
use Rattle.qw_types.specs.declared.value.Val.{Val}
use Rattle.qw_map.proofs.AreaLemmas.{all-append}
use Rattle.qw_scalar.specs.Evaluation.{value_of, at_row}
use Rattle.qw_low.specs.Syntax.{Statement}
use Rattle.qw_low.specs.State.{Cells, LowState}
use Rattle.qw_low.specs.Meaning.{meaning}
use Rattle.qw_low.specs.Promise.{Ends}
use Rattle.qw_low.specs.Size.{size}
use Rattle.qw_low.specs.Raising.{Kept}
use Rattle.qw_low.proofs.LessKnown.{seen, seen_ends}
use Rattle.qw_low.proofs.Promises.{Ends-weaker}
use Rattle.qw_expr.specs.Cells.{Holds}
use Rattle.qw_expr.specs.Computes.{Known, AreHeld}
use Rattle.qw_read.specs.Reading.{AreBases, AreCellsIn, IsThere, StandsAt, known_of}
use Rattle.qw_read.specs.declared.reader.Reader.{Reader}
use Rattle.qw_feed.specs.Cells.{Uses, UsesNull}
use Rattle.qw_feed.specs.Feeds.{Sink}
use Rattle.qw_feed.specs.Stages.{Among}
use Rattle.qw_feed.proofs.Frames.{Never, Kept-less}
use Rattle.qw_operator.specs.Emitted.{ReadsPart, known_after}
use Rattle.qw_operator.proofs.Filters.{Runs, Here, here_kept}
use Rattle.qw_operator.proofs.Fronts.{all_more, all_take}
use Rattle.qw_leaves.proofs.LeafLists.{all_back, all_front}
use Rattle.qw_operator.proofs.Seen.{AreWithin, within_wider}
use Rattle.qw_operator.proofs.Stood.{Stood}

-- ---- the locals of columns' values, one behind another
pub cells_ahead : (from below : ℕ) (rs : List Reader) → AreCellsIn from below rs → from ≤ below
cells_ahead from below [] cells = cells
cells_ahead from below (r ∷ rs) cells =
    let one = cells.1.value in
    let rest = cells_ahead cells.0 below rs cells.2 in
    omega (arith, one.0, one.1, rest)

pub cells_wider : (from below more : ℕ) (rs : List Reader) → below ≤ more → AreCellsIn from below rs → AreCellsIn from more rs
cells_wider from below more [] le cells = omega (arith, cells, le)
cells_wider from below more (r ∷ rs) le cells = (cells.0, cells.1, cells_wider cells.0 below more rs le cells.2)

cells_take : (from below n : ℕ) (rs : List Reader) → AreCellsIn from below rs → AreCellsIn from below (take n rs)
cells_take from below zero rs cells = cells_ahead from below rs cells
cells_take from below (suc n) [] cells = cells
cells_take from below (suc n) (r ∷ rs) cells = (cells.0, cells.1, cells_take cells.0 below n rs cells.2)

cells_split : (from below : ℕ) (xs ys : List Reader) → AreCellsIn from below (xs ++ ys) → (mid : ℕ) × AreCellsIn from mid xs × AreCellsIn mid below ys
cells_split from below [] ys cells = (from, omega arith, cells)
cells_split from below (x ∷ xs) ys cells = let rest = cells_split cells.0 below xs ys cells.2 in (rest.0, (cells.0, cells.1, rest.1), rest.2)

null_under : (n m : ℕ) (null : Option ℕ) → UsesNull (Among n) null → ((x : ℕ) → null ≡ Some x → x < m) → UsesNull (Among m) null
null_under n m None uses low = tt
null_under n m (Some x) uses low = (uses.0, low x refl)

-- those that are below one
cells_within : (from mid n : ℕ) (rs : List Reader) → AreCellsIn from mid rs → AreWithin n (map known_of rs) → AreWithin mid (map known_of rs)
cells_within from mid n [] cells within = tt
cells_within from mid n (r ∷ rs) cells within =
    let ahead = cells_ahead cells.0 mid rs cells.2 in
    let value = cells.1.value in
    let long = cells.1.long in (
      ((within.0.0.0, omega (arith, value.1, ahead)), (within.0.1.0, omega (arith, long, ahead)), null_under n mid r.cell.null within.0.2 (λ x is. let low = cells.1.null x is in omega (arith, low.1, ahead))),
      cells_within cells.0 mid n rs cells.2 within.1,
    )

-- ---- a reader that stands at a row
bases_more : (n m : ℕ) (r : Reader) → n ≤ m → AreBases 0 n r → AreBases 0 m r
bases_more n m r le h = record {
  values = let low = h.values in (low.0, omega (arith, low.1, le));
  octets = λ is. let low = h.octets is in (low.0, omega (arith, low.1, le), low.2);
  nulls = λ is. let low = h.nulls is in (low.0, omega (arith, low.1, le), low.2, low.3);
}

pub there_more : (n m rows : ℕ) (values : List Val) (s : LowState) (r : Reader) → n ≤ m → IsThere n rows values s r → IsThere m rows values s r
there_more n m rows values s r le h = record {
  row = h.row;
  v = h.v;
  value_is = h.value_is;
  stands = h.stands;
  sized = h.sized;
  bases = h.bases;
  at_row = record {
    within = h.at_row.within;
    end = let low = h.at_row.end in (omega (arith, low.0, le), low.1);
    left = let low = h.at_row.left in (omega (arith, low.0, le), low.1);
  };
  bases_below = bases_more n m r le h.bases_below;
}

there_kept : (n rows : ℕ) (values : List Val) (s t : LowState) (r : Reader) → Kept n s t → IsThere n rows values s r → IsThere n rows values t r
there_kept n rows values s t r kept h = record {
  row = h.row;
  v = h.v;
  value_is = h.value_is;
  stands =
      let cells : t.cells ≡ s.cells = ap (λ (x : LowState). x.cells) kept.others in
      let columns : t.columns ≡ s.columns = ap (λ (x : LowState). x.columns) kept.others in
      subst (λ (d : Cells). StandsAt d t.columns r.index r.ty r.not_null h.row h.v) (sym cells) (subst (λ (l : List ℕ). StandsAt s.cells l r.index r.ty r.not_null h.row h.v) (sym columns) h.stands);
  sized = h.sized;
  bases = record {
    values = let low = h.bases_below.values in kept.below r.values low.1 ∙ h.bases.values;
    octets = λ is. let low = h.bases_below.octets is in kept.below r.octets low.1 ∙ h.bases.octets is;
    nulls = λ is. let low = h.bases_below.nulls is in kept.below r.nulls low.1 ∙ h.bases.nulls is;
  };
  at_row = record {
    within = h.at_row.within;
    end = let low = h.at_row.end in (low.0, kept.below r.end low.0 ∙ low.1);
    left = let low = h.at_row.left in (low.0, kept.below r.left low.0 ∙ low.1);
  };
  bases_below = h.bases_below;
}

module _ (c : Cells) (stoods : List Stood) (base : ℕ) (sink : Sink) (runs : Runs c stoods base sink) (most fuel many count : ℕ) (literals : List Known) (readers : List Reader) (row : List Val) (low next : ℕ) (base_low : base ≤ low) (room : next ≤ many)
    (cells : AreCellsIn low next readers) (within : AreWithin low literals) (readers_within : AreWithin next (map known_of readers)) where
  -- the columns stand where they stood, in all of memory and in what is seen
  pub record AreThere (s : LowState) : Type 0 where
    pub whole : AllByRecursion (IsThere low count row s) readers
    pub seen_so : AllByRecursion (IsThere low count row (seen c s)) readers

  -- where so many columns are read
  pub record At (done : ℕ) (s : LowState) : Type 0 where
    pub here : Here c stoods many (known_after literals readers done) row s
    pub there : AreThere s

  seen_kept : (n : ℕ) (s t : LowState) → Kept n s t → Kept n (seen c s) (seen c t)
  seen_kept n s t kept = record { others = ap (λ (x : LowState). seen c x) kept.others; many = kept.many; below = kept.below }

  pub are_there_kept : (n : ℕ) (s t : LowState) → low ≤ n → Kept n s t → AreThere s → AreThere t
  are_there_kept n s t le kept h = record {
    whole = all_more (IsThere low count row s) (IsThere low count row t) readers (λ r one. there_kept low count row s t r (Kept-less low n s t le kept) one) h.whole;
    seen_so = all_more (IsThere low count row (seen c s)) (IsThere low count row (seen c t)) readers (λ r one. there_kept low count row (seen c s) (seen c t) r (Kept-less low n (seen c s) (seen c t) le (seen_kept n s t kept)) one) h.seen_so;
  }

  pub low_next : low ≤ next
  low_next = cells_ahead low next readers cells

  take_within : (n : ℕ) (rs : List Reader) (e : ℕ) → AreWithin n (map known_of rs) → AreWithin n (map known_of (take e rs))
  take_within n rs zero within = tt
  take_within n [] (suc e) within = tt
  take_within n (r ∷ rs) (suc e) within = (within.0, take_within n rs e within.1)

  pub after_within : (e : ℕ) → AreWithin next (known_after literals readers e)
  after_within e = all-append (λ (k : Known). Uses (Among next) k.operand.cell) literals (map known_of (take e readers)) (within_wider low next literals low_next within) (take_within next readers e readers_within)

  pub at_kept : (e : ℕ) (s t : LowState) → Kept next s t → At e s → At e t
  at_kept e s t kept at = record {
    here = here_kept c stoods base sink runs many next (known_after literals readers e) row s t (let le = low_next in omega (arith, base_low, le)) (after_within e) kept at.here;
    there = are_there_kept next s t low_next kept at.there;
  }

  -- ---- a part is read
  module _ (done upto : ℕ) (a : Statement) (p : ReadsPart readers done upto a) where
    split : (mid : ℕ) × AreCellsIn low mid (take done readers) × AreCellsIn mid next p.part
    split = cells_split low next (take done readers) p.part (subst (AreCellsIn low next) (sym p.part_is) (cells_take low next upto readers cells))

    abbrev mid : ℕ
    mid = split.0

    low_mid : low ≤ mid
    low_mid = cells_ahead low mid (take done readers) split.1

    before_within : AreWithin mid (known_after literals readers done)
    before_within = all-append (λ (k : Known). Uses (Among mid) k.operand.cell) literals (map known_of (take done readers)) (within_wider low mid literals low_mid within)
        (cells_within low mid next (take done readers) split.1 (take_within next readers done readers_within))

    part_all : (P : Reader → Type 0) → AllByRecursion P readers → AllByRecursion P p.part
    part_all P all = all_back P (take done readers) p.part (subst (AllByRecursion P) (sym p.part_is) (all_take P upto readers all))

    part_at : (q : LowState) → AllByRecursion (IsThere low count row q) readers → many ≤ length q.locals → Ends (size a) (λ t. Kept mid q t × AreHeld (map known_of p.part) row t) Never (λ code. ⊥) (meaning most fuel a q)
    part_at q there long =
        p.reads.runs most fuel mid count row q (part_all (IsThere mid count row q) (all_more (IsThere low count row q) (IsThere mid count row q) readers (λ r one. there_more low mid count row q r low_mid one) there))
        (cells_wider mid next (length q.locals) p.part (omega (arith, room, long)) split.2)

    joined : map known_of (take upto readers) ≡ map known_of (take done readers) ++ map known_of p.part
    joined = ap (map known_of) (sym p.part_is) ∙ map-append known_of (take done readers) p.part

    module _ (s : LowState) (at : At done s) where
      abbrev Whole : LowState → Type 0
      Whole t = Kept mid s t × AreHeld (map known_of p.part) row t

      abbrev Seen : LowState → Type 0
      Seen t = Kept mid (seen c s) t × AreHeld (map known_of p.part) row t

      after : (t : LowState) → Whole t × Seen (seen c t) → Kept low s t × At upto t
      after t read =
          let IsHeld : Known → Type 0 = λ (k : Known). (v : Val) × (value_of k.expression (at_row row) ≡ Ok v) × Holds k.operand v (seen c t) in
          let still : Here c stoods many (known_after literals readers done) row t = here_kept c stoods base sink runs many mid (known_after literals readers done) row s t (omega (arith, base_low, low_mid)) before_within read.0.0 at.here in (
            Kept-less low mid s t low_mid read.0.0,
            record {
              here = record {
                less = still.less;
                held = all-append IsHeld literals (map known_of (take upto readers)) (all_front IsHeld literals (map known_of (take done readers)) still.held)
                    (subst (AllByRecursion IsHeld) (sym joined) (all-append IsHeld (map known_of (take done readers)) (map known_of p.part) (all_back IsHeld literals (map known_of (take done readers)) still.held) read.1.1));
                stand = still.stand;
                long = still.long;
              };
              there = are_there_kept mid s t low_mid read.0.0 at.there;
            },
          )

      pub part_ends : Ends (size a) (λ t. Kept low s t × At upto t) Never (λ code. ⊥) (meaning most fuel a s)
      part_ends =
          Ends-weaker (size a) (size a) (λ t. Whole t × Seen (seen c t)) (λ t. Kept low s t × At upto t) Never Never (λ code. ⊥) (λ code. ⊥) (meaning most fuel a s) (omega arith) after (λ t x. x) (λ code x. x)
          (seen_ends most fuel (size a) (size a) Whole Seen Never Never (λ code. ⊥) (λ code. ⊥) c (λ t q. ap (λ (x : LowState). x.cells) q.0.others) a s at.here.less (part_at (seen c s) at.there.seen_so at.here.long) (part_at s at.there.whole at.here.long))
