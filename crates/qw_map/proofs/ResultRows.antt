-- Following the chain of result rows.
use Rattle.std.proofs.Common.{◌≡◌, ℕ, suc, ◌+◌, ◌-◌, ◌*◌, ◌<◌, ◌≤◌, IsTrue, List, [], ◌∷◌, ◌++◌, length, drop, get_or, Option, Some, None, IsSome, refl, sym, ap, ◌∙◌, subst, ⊎_elim, arith, append_assoc, drop-cons}
use Rattle.std.specs.List.{AllByRecursion}
use Rattle.std.specs.Prelude.{◌==◌, if◌then◌else◌}
use Rattle.std.proofs.lemmas.Bool.{cases_Bool, false≢true}
use Rattle.std.proofs.lemmas.List.{append-nil}
use Rattle.std.proofs.lemmas.Option.{same_Some, none-some}
use Rattle.qw_types.specs.declared.kind.Kind.{Kind}
use Rattle.qw_types.specs.declared.value.Val.{Val}
use Rattle.qw_map.specs.Areas.{Area, World, are_covered}
use Rattle.qw_linear.specs.Memory.{number_at}
use Rattle.qw_map.specs.Turns.{LiesWithin}
use Rattle.qw_map.proofs.AreaLemmas.{all-weaker}
use Rattle.qw_map.specs.Layout.{Layout, before, cell_at, cells_at, descriptor_size, row_at, row_size, rows_at, rows_from}
use Rattle.qw_map.proofs.AccessLemmas.{covered-within}
use Rattle.qw_map.proofs.ResultLemmas.{AreParts, parts_of}

-- an access of an octet or more that is covered by areas lies in the memory that they lie in
pub covered-inside : (own : List Area) (octets at width : ℕ) → AllByRecursion (LiesWithin octets) own → 1 ≤ width → IsTrue (are_covered own at width) →
    at + width ≤ octets
covered-inside own octets at width inside some covered =
    (covered-within own 0 octets (all-weaker (LiesWithin octets) (λ area. (0 ≤ area.start) × (area.start + area.size ≤ octets)) (λ area h. (omega arith, h)) own inside)
    at width some covered).1

-- ---- the cells of a row
-- after k cells: those that are read, and those that are left
pub record AreCells (texts : List Area) (memory : List ℕ) (kinds : List Kind) (cells k : ℕ) (values : List Val) : Type 0 where
  pub rest : List Val
  pub left : cells_at texts memory (cells + 16 * k) (drop k kinds) ≡ Some rest
  pub all : cells_at texts memory cells kinds ≡ Some (values ++ rest)

pub cells-none : (texts : List Area) (memory : List ℕ) (kinds : List Kind) (cells : ℕ) → IsSome (cells_at texts memory cells kinds) → AreCells texts memory kinds cells 0 []
cells-none texts memory kinds cells there = begin (cells_at texts memory cells kinds) refl there
  where
    begin : (o : Option (List Val)) → cells_at texts memory cells kinds ≡ o → IsSome o → AreCells texts memory kinds cells 0 []
    begin None is h = absurd (false≢true h)
    begin (Some values) is h = let first : cells + 16 * 0 ≡ cells = omega arith in record { rest = values; left = rw first is; all = is }

-- the next cell, and those after it
next-cell : (texts : List Area) (memory : List ℕ) (kinds : List Kind) (cells k : ℕ) (values : List Val) (d : Kind) → k < length kinds → (read : AreCells texts memory kinds cells k values) →
    AreParts (cell_at texts memory (cells + 16 * k) (get_or kinds k d)) (cells_at texts memory (cells + 16 * (k + 1)) (drop (k + 1) kinds)) read.rest
next-cell texts memory kinds cells k values d within read =
    let behind : cells + 16 * k + 16 ≡ cells + 16 * (k + 1) = omega arith in
    let next : suc k ≡ k + 1 = omega arith in
    let cut : drop k kinds ≡ get_or kinds k d ∷ drop (k + 1) kinds = rw next at (drop-cons kinds k d within) in
    let all : before (cell_at texts memory (cells + 16 * k) (get_or kinds k d)) (cells_at texts memory (cells + 16 * k + 16) (drop (k + 1) kinds)) ≡ Some read.rest =
    subst (λ (ks : List Kind). cells_at texts memory (cells + 16 * k) ks ≡ Some read.rest) cut read.left in
    parts_of (cell_at texts memory (cells + 16 * k) (get_or kinds k d)) (cells_at texts memory (cells + 16 * (k + 1)) (drop (k + 1) kinds)) read.rest
    (subst (λ (at : ℕ). before (cell_at texts memory (cells + 16 * k) (get_or kinds k d)) (cells_at texts memory at (drop (k + 1) kinds)) ≡ Some read.rest) behind all)

-- it is there
pub cell-there : (texts : List Area) (memory : List ℕ) (kinds : List Kind) (cells k : ℕ) (values : List Val) (d : Kind) → k < length kinds →
    AreCells texts memory kinds cells k values → IsSome (cell_at texts memory (cells + 16 * k) (get_or kinds k d))
cell-there texts memory kinds cells k values d within read = rw (next-cell texts memory kinds cells k values d within read).first_is refl

pub cells-more : (texts : List Area) (memory : List ℕ) (kinds : List Kind) (cells k : ℕ) (values : List Val) (value : Val) (d : Kind) → k < length kinds →
    cell_at texts memory (cells + 16 * k) (get_or kinds k d) ≡ Some value → AreCells texts memory kinds cells k values → AreCells texts memory kinds cells (k + 1) (values ++ value ∷ [])
cells-more texts memory kinds cells k values value d within is read =
    let next = next-cell texts memory kinds cells k values d within read in
    let same : next.one ≡ value = same_Some next.one value (sym next.first_is ∙ is) in
    let rest : read.rest ≡ value ∷ next.others = next.all_is ∙ ap (λ (v : Val). v ∷ next.others) same in
    record {
      rest = next.others;
      left = next.rest_is;
      all = read.all ∙ ap (λ (vs : List Val). Some (values ++ vs)) rest ∙ ap Some (sym (append_assoc values (value ∷ []) next.others));
    }

-- ---- rows
-- a row that is there lies in an own area, and has its cells
pub record IsRow (kinds : List Kind) (texts own : List Area) (memory : List ℕ) (at : ℕ) (row : List Val) : Type 0 where
  pub covered : IsTrue (are_covered own at (row_size (length kinds)))
  pub cells : cells_at texts memory (at + 8) kinds ≡ Some row

pub row-there : (kinds : List Kind) (texts own : List Area) (memory : List ℕ) (at : ℕ) (row : List Val) → row_at kinds texts own memory at ≡ Some row → IsRow kinds texts own memory at row
row-there kinds texts own memory at row there = ⊎_elim
    (λ covered. record { covered = covered; cells = rw covered at there })
    (λ outside. absurd (none-some row (rw outside at there)))
    (cases_Bool (are_covered own at (row_size (length kinds))))

-- after k of `count` rows: those that are read, and those that are left at an address
pub record IsRead (kinds : List Kind) (texts own : List Area) (memory : List ℕ) (count first k at : ℕ) (rows : List (List Val)) : Type 0 where
  pub rest : List (List Val)
  pub left : rows_from kinds texts own memory (count - k) at ≡ Some rest
  pub all : rows_from kinds texts own memory count first ≡ Some (rows ++ rest)

pub read-none : (kinds : List Kind) (texts own : List Area) (memory : List ℕ) (count first : ℕ) → IsSome (rows_from kinds texts own memory count first) →
    IsRead kinds texts own memory count first 0 first []
read-none kinds texts own memory count first there = begin (rows_from kinds texts own memory count first) refl there
  where
    begin : (o : Option (List (List Val))) → rows_from kinds texts own memory count first ≡ o → IsSome o → IsRead kinds texts own memory count first 0 first []
    begin None is h = absurd (false≢true h)
    begin (Some rows) is h = let whole : count - 0 ≡ count = omega arith in record { rest = rows; left = rw whole is; all = is }

-- the next row, and the rows that its link leads to
next-row : (kinds : List Kind) (texts own : List Area) (memory : List ℕ) (count first k at : ℕ) (rows : List (List Val)) → k < count →
    (read : IsRead kinds texts own memory count first k at rows) →
    AreParts (row_at kinds texts own memory at) (rows_from kinds texts own memory (count - (k + 1)) (number_at memory at 4)) read.rest
next-row kinds texts own memory count first k at rows within read =
    let one : count - k ≡ suc (count - (k + 1)) = omega arith in
    parts_of (row_at kinds texts own memory at) (rows_from kinds texts own memory (count - (k + 1)) (number_at memory at 4)) read.rest
    (subst (λ (n : ℕ). rows_from kinds texts own memory n at ≡ Some read.rest) one read.left)

pub next-inside : (kinds : List Kind) (texts own : List Area) (memory : List ℕ) (count first k at : ℕ) (rows : List (List Val)) →
    AllByRecursion (LiesWithin (length memory)) own → k < count → IsRead kinds texts own memory count first k at rows → at + row_size (length kinds) ≤ length memory
next-inside kinds texts own memory count first k at rows inside within read =
    let next = next-row kinds texts own memory count first k at rows within read in
    covered-inside own (length memory) at (row_size (length kinds)) inside (omega arith) (row-there kinds texts own memory at next.one next.first_is).covered

pub next-there : (kinds : List Kind) (texts own : List Area) (memory : List ℕ) (count first k at : ℕ) (rows : List (List Val)) → k < count →
    IsRead kinds texts own memory count first k at rows → IsSome (cells_at texts memory (at + 8) kinds)
next-there kinds texts own memory count first k at rows within read =
    let next = next-row kinds texts own memory count first k at rows within read in
    rw (row-there kinds texts own memory at next.one next.first_is).cells refl

pub read-more : (kinds : List Kind) (texts own : List Area) (memory : List ℕ) (count first k at next : ℕ) (rows : List (List Val)) (row : List Val) → k < count →
    cells_at texts memory (at + 8) kinds ≡ Some row → next ≡ number_at memory at 4 →
    IsRead kinds texts own memory count first k at rows → IsRead kinds texts own memory count first (k + 1) next (rows ++ row ∷ [])
read-more kinds texts own memory count first k at next rows row within is link read =
    let parts = next-row kinds texts own memory count first k at rows within read in
    let same : parts.one ≡ row = same_Some parts.one row (sym (row-there kinds texts own memory at parts.one parts.first_is).cells ∙ is) in
    let rest : read.rest ≡ row ∷ parts.others = parts.all_is ∙ ap (λ (r : List Val). r ∷ parts.others) same in
    record {
      rest = parts.others;
      left = rw link parts.rest_is;
      all = read.all ∙ ap (λ (rs : List (List Val)). Some (rows ++ rs)) rest ∙ ap Some (sym (append_assoc rows (row ∷ []) parts.others));
    }

-- all rows are read
pub read-all : (kinds : List Kind) (texts own : List Area) (memory : List ℕ) (count first k at : ℕ) (rows : List (List Val)) → count ≤ k →
    IsRead kinds texts own memory count first k at rows → rows_from kinds texts own memory count first ≡ Some rows
read-all kinds texts own memory count first k at rows over read =
    let none : count - k ≡ 0 = omega arith in
    let empty : read.rest ≡ [] = last-link at read.rest (subst (λ (n : ℕ). rows_from kinds texts own memory n at ≡ Some read.rest) none read.left) in
    read.all ∙ ap (λ (rs : List (List Val)). Some (rows ++ rs)) empty ∙ ap Some (append-nil rows)
  where
    last-link : (at : ℕ) (rest : List (List Val)) → (if at == 0 then Some [] else None) ≡ Some rest → rest ≡ []
    last-link at rest h = ⊎_elim
        (λ is. sym (same_Some [] rest (rw is at h)))
        (λ not. absurd (none-some rest (rw not at h)))
        (cases_Bool (at == 0))

-- the descriptor of result rows lies in own areas
pub descriptor-covered : (layout : Layout) (w : World) (memory : List ℕ) (descriptor : ℕ) → IsSome (rows_at layout w memory descriptor) →
    IsTrue (are_covered w.own descriptor (descriptor_size layout))
descriptor-covered layout w memory descriptor there = ⊎_elim
    (λ covered. covered)
    (λ outside. absurd (false≢true (rw outside at there)))
    (cases_Bool (are_covered w.own descriptor (descriptor_size layout)))

-- it lies in the memory that the own areas lie in
pub descriptor-within : (layout : Layout) (w : World) (memory : List ℕ) (descriptor : ℕ) → AllByRecursion (LiesWithin (length memory)) w.own →
    IsSome (rows_at layout w memory descriptor) → descriptor + descriptor_size layout ≤ length memory
descriptor-within layout w memory descriptor inside there =
    covered-inside w.own (length memory) descriptor (descriptor_size layout) inside (omega arith) (descriptor-covered layout w memory descriptor there)
