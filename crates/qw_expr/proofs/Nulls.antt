-- Null words, and values that are kept.
use Rattle.std.proofs.Common.{◌≡◌, ℕ, ℤ, ◌+◌, ◌<◌, ◌≤◌, ◌||◌, Bool, true, false, List, [], ◌∷◌, length, Option, Some, None, Result, Ok, slice_get, slice_set, refl, sym, ap, ◌∙◌, subst, arith}
use Rattle.qw_types.specs.declared.code.Code.{Code}
use Rattle.qw_types.specs.declared.truth.Truth.{Truth}
use Rattle.qw_types.specs.declared.truth.Truth.TheVariants.{True, False, Unknown}
use Rattle.qw_types.specs.declared.value.Val.{Val}
use Rattle.qw_types.specs.declared.value.Val.TheVariants as val
use Rattle.qw_map.proofs.TurnFacts.{slice_get-set_same}
use Rattle.qw_module.specs.declared.instruction.ValType.TheVariants.{I32}
use Rattle.qw_module.specs.declared.instruction.Binary.TheVariants.{Or}
use Rattle.qw_module.specs.Numbers.{truth}
use Rattle.qw_low.specs.declared.cell.Cell.{Cell}
use Rattle.qw_low.specs.Syntax.{Statement, local, binop, skip}
use Rattle.qw_low.specs.State.{Part, Column, Own, Number, LowState, size_of}
use Rattle.qw_low.specs.Meaning.{value}
use Rattle.qw_low.specs.Raising.{Kept}
use Rattle.qw_low.specs.Held.{HoldsNumber, HoldsText, SaysNull, SaysValue}
use Rattle.qw_low.proofs.Results.{Kept-same, Kept-one, Comes, comes_skip, comes_assign, comes_choose}
use Rattle.qw_expr.specs.Cells.{HoldsValue, HoldsTruth, IsBelow, IsBelowNull}
use Rattle.qw_expr.specs.Computes.{Known, AreHeld, AreBelow}
use Rattle.qw_expr.specs.Inner.Nulls.{join_block, joined_null, unless_null}

-- ---- what is kept
null_kept : (n : ℕ) (s t : LowState) (null : Option ℕ) → Kept n s t → IsBelowNull n null → SaysNull s null → SaysNull t null
null_kept n s t None kept low says = says
null_kept n s t (Some x) kept low says = kept.below x low ∙ says

pub value_says : (n : ℕ) (s t : LowState) (null : Option ℕ) → Kept n s t → IsBelowNull n null → SaysValue s null → SaysValue t null
value_says n s t None kept low says = says
value_says n s t (Some x) kept low says = kept.below x low ∙ says

pub sizes : (n : ℕ) (s t : LowState) (p : Part) → Kept n s t → size_of t p ≡ size_of s p
sizes n s t (Column k) kept = ap (λ (u : LowState). slice_get u.columns k) kept.others
sizes n s t (Own k) kept = ap (λ (u : LowState). slice_get u.own k) kept.others

pub text_kept : (n : ℕ) (s t : LowState) (address count : ℕ) (octets : List ℕ) → Kept n s t → address < n → count < n → HoldsText s address count octets → HoldsText t address count octets
text_kept n s t address count octets kept low_a low_c holds = record {
  part = holds.part;
  offset = holds.offset;
  is_at = kept.below address low_a ∙ holds.is_at;
  is_long = kept.below count low_c ∙ holds.is_long;
  short = holds.short;
  lies = record {
    size = holds.lies.size;
    sized = sizes n s t holds.part kept ∙ holds.lies.sized;
    inside = holds.lies.inside;
    each = λ i octet found. ap (λ (u : LowState). u.cells holds.part (holds.offset + i) 1) kept.others ∙ holds.lies.each i octet found;
  };
}

pub number_kept : (n : ℕ) (s t : LowState) (x : ℕ) (v : ℤ) → Kept n s t → x < n → HoldsNumber s x v → HoldsNumber t x v
number_kept n s t x v kept low holds = (holds.0, kept.below x low ∙ holds.1, holds.2, holds.3)

pub value_kept : (n : ℕ) (s t : LowState) (c : Cell) (v : Val) → Kept n s t → IsBelow n c → HoldsValue c v s → HoldsValue c v t
value_kept n s t c val.Null kept low holds = null_kept n s t c.null kept low.2 holds
value_kept n s t c (val.Num v) kept low holds = (number_kept n s t c.value v kept low.0 holds.0, holds.1, value_says n s t c.null kept low.2 holds.2)
value_kept n s t c (val.Date d) kept low holds = (number_kept n s t c.value d kept low.0 holds.0, value_says n s t c.null kept low.2 holds.1)
value_kept n s t c (val.Text octets) kept low holds = (text_kept n s t c.value c.length octets kept low.0 low.1 holds.0, value_says n s t c.null kept low.2 holds.1)

pub truth_kept : (n : ℕ) (s t : LowState) (c : Cell) (v : Truth) → Kept n s t → IsBelow n c → HoldsTruth c v s → HoldsTruth c v t
truth_kept n s t c True kept low holds = (kept.below c.value low.0 ∙ holds.0, value_says n s t c.null kept low.2 holds.1)
truth_kept n s t c False kept low holds = (kept.below c.value low.0 ∙ holds.0, value_says n s t c.null kept low.2 holds.1)
truth_kept n s t c Unknown kept low holds = (kept.below c.value low.0 ∙ holds.0, null_kept n s t c.null kept low.2 holds.1)

pub known_kept : (n : ℕ) (s t : LowState) (row : List Val) (known : List Known) → Kept n s t → AreBelow n known → AreHeld known row s → AreHeld known row t
known_kept n s t row [] kept low held = tt
known_kept n s t row (k ∷ known) kept low held =
    ((held.0.0, held.0.1, (value_kept n s t k.operand.cell held.0.0 kept low.0 held.0.2.0, held.0.2.1)), known_kept n s t row known kept low.1 held.1)

pub null_below_more : (m n : ℕ) (null : Option ℕ) → m ≤ n → IsBelowNull m null → IsBelowNull n null
null_below_more m n None le low = tt
null_below_more m n (Some x) le low = omega (arith, low)

pub below_more : (m n : ℕ) (c : Cell) → m ≤ n → IsBelow m c → IsBelow n c
below_more m n c le low = (omega (arith, low.0), omega (arith, low.1), null_below_more m n c.null le low.2)

pub known_below_more : (m n : ℕ) (known : List Known) → m ≤ n → AreBelow m known → AreBelow n known
known_below_more m n [] le low = tt
known_below_more m n (k ∷ known) le low = (below_more m n k.operand.cell le low.0, known_below_more m n known le low.1)

-- ---- null words
-- whether a null word says that a value is null
abbrev pub Says : LowState → Option ℕ → Bool → Type 0
Says s null true = SaysNull s null
Says s null false = SaysValue s null

says_word : (s : LowState) (n : ℕ) (g : Bool) → Says s (Some n) g → slice_get s.locals n ≡ Some (Number (truth g))
says_word s n true says = says
says_word s n false says = says

word_says : (s : LowState) (n : ℕ) (g : Bool) → slice_get s.locals n ≡ Some (Number (truth g)) → Says s (Some n) g
word_says s n true is = is
word_says s n false is = is

pub or_false : (g : Bool) → (g || false) ≡ g
or_false true = refl
or_false false = refl

module _ (most fuel N : ℕ) (some : 1 ≤ N) where
  or_word : (g h : Bool) (s : LowState) (m n : ℕ) → slice_get s.locals m ≡ Some (Number (truth g)) → slice_get s.locals n ≡ Some (Number (truth h)) →
      value s (binop I32 Or (local m) (local n)) ≡ Some (Number (truth (g || h)))
  or_word true true s m n one other = rw (one, other) refl
  or_word true false s m n one other = rw (one, other) refl
  or_word false true s m n one other = rw (one, other) refl
  or_word false false s m n one other = rw (one, other) refl

  pub joins : (s : LowState) (p : ℕ) (a b : Option ℕ) (g h : Bool) → p < length s.locals → Says s a g → Says s b h →
      Comes most fuel N {A = ℕ} (λ k t. Kept p s t × Says t (joined_null p a b) (g || h)) (Ok 0) (join_block p a b) s
  joins s p None b true h room one other = absurd one
  joins s p None b false h room one other = comes_skip most fuel N some {A = ℕ} (λ k t. Kept p s t × Says t b h) 0 s (Kept-same p s, other)
  joins s p (Some m) None g true room one other = absurd other
  joins s p (Some m) None g false room one other =
      comes_skip most fuel N some {A = ℕ} (λ k t. Kept p s t × Says t (Some m) (g || false)) 0 s (Kept-same p s, subst (λ k. Says s (Some m) k) (sym (or_false g)) one)
  joins s p (Some m) (Some n) g h room one other =
      comes_assign most fuel N some {A = ℕ} (λ k t. Kept p s t × Says t (Some p) (g || h)) 0 p (binop I32 Or (local m) (local n)) (Number (truth (g || h))) s
      (or_word g h s m n (says_word s m g one) (says_word s n h other)) room
      (Kept-one s p (Number (truth (g || h))), word_says (record s { locals = slice_set s.locals p (Number (truth (g || h))) }) p (g || h) (slice_get-set_same s.locals p (Number (truth (g || h))) room))

  pub unless : {A : Type 0} (P : A → LowState → Type 0) (r : Result A Code) (null : Option ℕ) (g : Bool) (body : Statement) (s : LowState) → Says s null g →
      (g ≡ true → Comes most fuel N P r skip s) → (g ≡ false → Comes most fuel N P r body s) → Comes most fuel N P r (unless_null null body) s
  unless P r None true body s says where_null is_value = absurd says
  unless P r None false body s says where_null is_value = is_value refl
  unless P r (Some n) g body s says where_null is_value = comes_choose most fuel N some P r (local n) g skip body s (says_word s n g says) where_null is_value
