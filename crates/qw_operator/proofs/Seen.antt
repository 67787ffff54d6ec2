-- What is seen of memory while a pipeline runs, which texts lie there, and what locals hold of what is known.
use Rattle.std.proofs.Common.{◌≡◌, ℕ, ◌+◌, ◌<◌, ◌≤◌, ◌^◌, IsUtf8, inr, Option, Some, None, List, [], ◌∷◌, length, slice_get, refl, sym, ap, ◌∙◌, subst, arith}
use Rattle.std.specs.List.{AllByRecursion}
use Rattle.qw_types.specs.declared.truth.Truth.{Truth}
use Rattle.qw_types.specs.declared.truth.Truth.TheVariants.{True, False, Unknown}
use Rattle.qw_types.specs.declared.value.Val.{Val}
use Rattle.qw_types.specs.declared.value.Val.TheVariants as val
use Rattle.qw_low.specs.declared.cell.Cell.{Cell}
use Rattle.qw_low.specs.State.{Part, Column, Own, Value, Number, Cells, LowState, size_of}
use Rattle.qw_low.specs.Held.{LiesAt, SaysNull, SaysValue}
use Rattle.qw_low.specs.Raising.{Kept}
use Rattle.qw_low.proofs.LessKnown.{IsLess, seen}
use Rattle.qw_expr.specs.Cells.{HoldsValue}
use Rattle.qw_expr.specs.Computes.{Known, AreHeld}
use Rattle.qw_expr.specs.Tests as exprs
use Rattle.qw_feed.specs.Cells.{Lacks, Says, Uses, UsesNull}
use Rattle.qw_feed.specs.Frames.{pos, Below, Keeps}
use Rattle.qw_feed.specs.Stages.{Among, truth_word}
use Rattle.qw_table.specs.Entries.{Stands}

-- ---- texts
-- a text's octets are among these cells, and it is UTF-8
abbrev pub LiesIn : Cells → Part → (offset : ℕ) → List ℕ → Type 0
LiesIn c p o octets = IsUtf8 octets × ((i octet : ℕ) → slice_get octets i ≡ Some octet → c p (o + i) 1 ≡ Some (Number octet))

-- and it lies within a part of the memory of a state
abbrev pub StandsIn : Cells → LowState → Part → (offset : ℕ) → List ℕ → Type 0
StandsIn c s p o octets = IsUtf8 octets × (length octets < 2 ^ 32) × LiesAt (seen c s) p o octets

-- parts are as long as they were, and there may be more of one's own
pub record Longer (s t : LowState) : Type 0 where
  pub columns : t.columns ≡ s.columns
  pub own : (k size : ℕ) → slice_get s.own k ≡ Some size → slice_get t.own k ≡ Some size

pub longer_kept : (n : ℕ) (s t : LowState) → Kept n s t → Longer s t
longer_kept n s t kept = record {
  columns = ap (λ (r : LowState). r.columns) kept.others;
  own = λ k size is. ap (λ (r : LowState). slice_get r.own k) kept.others ∙ is;
}

pub longer_keeps : (Old : ℕ → Type 0) (Spared : ℕ → ℕ → Type 0) (s t : LowState) → Keeps Old Spared s t → Longer s t
longer_keeps Old Spared s t keeps = record { columns = keeps.columns; own = keeps.own }

-- as long as others that are, before no part was granted
pub longer_back : (n : ℕ) (s0 s t : LowState) → Kept n s t → Longer s s0 → Longer t s0
longer_back n s0 s t kept longer = record {
  columns = longer.columns ∙ sym (ap (λ (r : LowState). r.columns) kept.others);
  own = λ k size is. longer.own k size (sym (ap (λ (r : LowState). slice_get r.own k) kept.others) ∙ is);
}

pub longer_same : (s : LowState) → Longer s s
longer_same s = record { columns = refl; own = λ k size is. is }

pub size_later : (s t : LowState) (p : Part) (size : ℕ) → Longer s t → size_of s p ≡ Some size → size_of t p ≡ Some size
size_later s t (Column k) size longer is = ap (λ (l : List ℕ). slice_get l k) longer.columns ∙ is
size_later s t (Own k) size longer is = longer.own k size is

size_seen : (c : Cells) (s : LowState) (p : Part) (size : ℕ) → size_of s p ≡ Some size → size_of (seen c s) p ≡ Some size
size_seen c s (Column k) size is = is
size_seen c s (Own k) size is = is

unseen_size : (c : Cells) (s : LowState) (p : Part) (size : ℕ) → size_of (seen c s) p ≡ Some size → size_of s p ≡ Some size
unseen_size c s (Column k) size is = is
unseen_size c s (Own k) size is = is

pub lies_later : (c : Cells) (s t : LowState) (p : Part) (o : ℕ) (octets : List ℕ) → Longer s t → LiesAt (seen c s) p o octets → LiesAt (seen c t) p o octets
lies_later c s t p o octets longer lies = record {
  size = lies.size;
  sized = size_seen c t p lies.size (size_later s t p lies.size longer (unseen_size c s p lies.size lies.sized));
  inside = lies.inside;
  each = lies.each;
}

pub lies_more : (c : Cells) (s : LowState) (p : Part) (o : ℕ) (octets : List ℕ) → IsLess c s.cells → LiesAt (seen c s) p o octets → LiesAt s p o octets
lies_more c s p o octets less lies = record {
  size = lies.size;
  sized = unseen_size c s p lies.size lies.sized;
  inside = lies.inside;
  each = λ i octet is. less p (o + i) 1 (Number octet) (lies.each i octet is);
}

pub stands_later : (c : Cells) (s t : LowState) (p : Part) (o : ℕ) (octets : List ℕ) → Longer s t → StandsIn c s p o octets → StandsIn c t p o octets
stands_later c s t p o octets longer stands = (stands.0, stands.1, lies_later c s t p o octets longer stands.2)

pub stands_more : (c : Cells) (s : LowState) (p : Part) (o : ℕ) (octets : List ℕ) → IsLess c s.cells → StandsIn c s p o octets → Stands s p o octets
stands_more c s p o octets less stands = (lies_more c s p o octets less stands.2, stands.1)

pub stands_lies : (c : Cells) (s : LowState) (p : Part) (o : ℕ) (octets : List ℕ) → StandsIn c s p o octets → LiesIn c p o octets
stands_lies c s p o octets stands = (stands.0, stands.2.each)

-- ---- what is seen is known
pub less_kept : (c : Cells) (n : ℕ) (s t : LowState) → Kept n s t → IsLess c s.cells → IsLess c t.cells
less_kept c n s t kept less = subst (λ (d : Cells). IsLess c d) (sym (ap (λ (x : LowState). x.cells) kept.others)) less

pub less_keeps : (c : Cells) (Old : ℕ → Type 0) (Spared : ℕ → ℕ → Type 0) (s t : LowState) → ((k a b : ℕ) (v : Value) → c (Own k) a b ≡ Some v → Spared (pos k a) b) → Keeps Old Spared s t → IsLess c s.cells → IsLess c t.cells
less_keeps c Old Spared s t spared keeps less (Column k) a b v is = keeps.mapped k a b ∙ less (Column k) a b v is
less_keeps c Old Spared s t spared keeps less (Own k) a b v is = keeps.cells k a b (spared k a b v is) ∙ less (Own k) a b v is

-- ---- what locals hold where memory is seen, they hold where more of it is known
says_more : (c : Cells) (s : LowState) (null : Option ℕ) → SaysValue (seen c s) null → SaysValue s null
says_more c s None h = h
says_more c s (Some x) h = h

null_more : (c : Cells) (s : LowState) (null : Option ℕ) → SaysNull (seen c s) null → SaysNull s null
null_more c s None h = h
null_more c s (Some x) h = h

value_more : (c : Cells) (s : LowState) → IsLess c s.cells → (cell : Cell) (v : Val) → HoldsValue cell v (seen c s) → HoldsValue cell v s
value_more c s less cell val.Null h = null_more c s cell.null h
value_more c s less cell (val.Num v) h = (h.0, h.1, says_more c s cell.null h.2)
value_more c s less cell (val.Date d) h = (h.0, says_more c s cell.null h.1)
value_more c s less cell (val.Text t) h = (
  record {
    part = h.0.part;
    offset = h.0.offset;
    is_at = h.0.is_at;
    is_long = h.0.is_long;
    short = h.0.short;
    lies = lies_more c s h.0.part h.0.offset t less h.0.lies;
  },
  says_more c s cell.null h.1,
)

pub held_more : (c : Cells) (s : LowState) (known : List Known) (row : List Val) → IsLess c s.cells → AreHeld known row (seen c s) → AreHeld known row s
held_more c s [] row less h = tt
held_more c s (k ∷ known) row less h = ((h.0.0, h.0.1, (value_more c s less k.operand.cell h.0.0 h.0.2.0, h.0.2.1)), held_more c s known row less h.1)

-- ---- and later, where the locals are as they were
-- the locals of what is known are from 5 on and below one
abbrev pub AreWithin : (next : ℕ) → List Known → Type 0
AreWithin next known = AllByRecursion (λ (k : Known). Uses (Among next) k.operand.cell) known

null_wider : (n m : ℕ) (null : Option ℕ) → n ≤ m → UsesNull (Among n) null → UsesNull (Among m) null
null_wider n m None le uses = tt
null_wider n m (Some x) le uses = (uses.0, omega (arith, uses.1))

pub cell_wider : (n m : ℕ) (c : Cell) → n ≤ m → Uses (Among n) c → Uses (Among m) c
cell_wider n m c le uses = ((uses.0.0, omega (arith, uses.0.1)), (uses.1.0, omega (arith, uses.1.1)), null_wider n m c.null le uses.2)

pub within_wider : (n m : ℕ) (known : List Known) → n ≤ m → AreWithin n known → AreWithin m known
within_wider n m [] le within = tt
within_wider n m (k ∷ known) le within = (cell_wider n m k.operand.cell le within.0, within_wider n m known le within.1)

module _ (c : Cells) (P : ℕ → Type 0) (s t : LowState) (longer : Longer s t) (same : (i : ℕ) → P i → slice_get t.locals i ≡ slice_get s.locals i) where
  null_later : (null : Option ℕ) → UsesNull P null → SaysNull (seen c s) null → SaysNull (seen c t) null
  null_later None uses h = h
  null_later (Some x) uses h = same x uses ∙ h

  says_later : (null : Option ℕ) → UsesNull P null → SaysValue (seen c s) null → SaysValue (seen c t) null
  says_later None uses h = h
  says_later (Some x) uses h = same x uses ∙ h

  pub value_later : (cell : Cell) (v : Val) → Uses P cell → HoldsValue cell v (seen c s) → HoldsValue cell v (seen c t)
  value_later cell val.Null uses h = null_later cell.null uses.2 h
  value_later cell (val.Num v) uses h = ((h.0.0, same cell.value uses.0 ∙ h.0.1, h.0.2, h.0.3), h.1, says_later cell.null uses.2 h.2)
  value_later cell (val.Date d) uses h = ((h.0.0, same cell.value uses.0 ∙ h.0.1, h.0.2, h.0.3), says_later cell.null uses.2 h.1)
  value_later cell (val.Text x) uses h = (
    record {
      part = h.0.part;
      offset = h.0.offset;
      is_at = same cell.value uses.0 ∙ h.0.is_at;
      is_long = same cell.length uses.1 ∙ h.0.is_long;
      short = h.0.short;
      lies = lies_later c s t h.0.part h.0.offset x longer h.0.lies;
    },
    says_later cell.null uses.2 h.1,
  )

  pub held_later : (known : List Known) (row : List Val) → AllByRecursion (λ (k : Known). Uses P k.operand.cell) known → AreHeld known row (seen c s) → AreHeld known row (seen c t)
  held_later [] row uses h = tt
  held_later (k ∷ known) row uses h = ((h.0.0, h.0.1, (value_later k.operand.cell h.0.0 uses.0 h.0.2.0, h.0.2.1)), held_later known row uses.1 h.1)

pub held_keeps : (c : Cells) (n : ℕ) (Spared : ℕ → ℕ → Type 0) (s t : LowState) (known : List Known) (row : List Val) → AreWithin n known → Keeps (Below n) Spared s t → AreHeld known row (seen c s) → AreHeld known row (seen c t)
held_keeps c n Spared s t known row within keeps held = held_later c (Among n) s t (longer_keeps (Below n) Spared s t keeps) (λ i among. keeps.locals i (inr among)) known row within held

-- ---- truths and nulls
pub same_word : (v : Truth) → exprs.truth_word v ≡ truth_word v
same_word True = refl
same_word False = refl
same_word Unknown = refl

pub lacks_there : (t : LowState) (null : Option ℕ) → SaysNull t null → Lacks t.locals null
lacks_there t None h = h
lacks_there t (Some n) h = h

pub says_there : (t : LowState) (null : Option ℕ) → SaysValue t null → Says t.locals 0 null
says_there t None h = tt
says_there t (Some n) h = h
