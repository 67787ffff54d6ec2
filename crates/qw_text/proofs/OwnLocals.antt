-- The four locals that a block calls its own, and what stands in all others.
use Rattle.std.proofs.Common.{◌≡◌, ℕ, ◌+◌, ◌<◌, ◌≤◌, List, length, Some, slice_get, slice_set, ap, ◌∙◌, arith}
use Rattle.qw_map.proofs.TurnFacts.{slice_get-set_same, slice_get-set_other, found-in}
use Rattle.qw_low.specs.State.{Part, Column, Own, Value, LowState, size_of}
use Rattle.qw_low.specs.Raising.{Kept}
use Rattle.qw_low.specs.Held.{HoldsText}
use Rattle.qw_low.proofs.Results.{Kept-set}

-- the state with a local set
abbrev pub put : LowState → ℕ → Value → LowState
put t x v = record t { locals = slice_set t.locals x v }

-- From one state to another nothing has changed but locals from `n` on, of which four hold these values.
pub record Owns (n : ℕ) (s t : LowState) (limit index left right : Value) : Type 0 where
  pub kept : Kept n s t
  pub limit_is : slice_get t.locals n ≡ Some limit
  pub index_is : slice_get t.locals (n + 1) ≡ Some index
  pub left_is : slice_get t.locals (n + 2) ≡ Some left
  pub right_is : slice_get t.locals (n + 3) ≡ Some right

-- whatever they hold
pub record OwnsSome (n : ℕ) (s t : LowState) : Type 0 where
  pub limit : Value
  pub index : Value
  pub left : Value
  pub right : Value
  pub owns : Owns n s t limit index left right

pub room_kept : (n : ℕ) (s t : LowState) (x : ℕ) → Kept n s t → n + 4 ≤ length s.locals → x < n + 4 → x < length t.locals
room_kept n s t x kept room less = omega (arith, room, kept.many, less)

pub owns_some : (n : ℕ) (s t : LowState) → Kept n s t → n + 4 ≤ length s.locals → OwnsSome n s t
owns_some n s t kept room =
    let a = found-in t.locals n (room_kept n s t n kept room (omega arith)) in
    let b = found-in t.locals (n + 1) (room_kept n s t (n + 1) kept room (omega arith)) in
    let c = found-in t.locals (n + 2) (room_kept n s t (n + 2) kept room (omega arith)) in
    let d = found-in t.locals (n + 3) (room_kept n s t (n + 3) kept room (omega arith)) in
    record {
      limit = a.0;
      index = b.0;
      left = c.0;
      right = d.0;
      owns = record { kept = kept; limit_is = a.1; index_is = b.1; left_is = c.1; right_is = d.1 };
    }

-- one of them is set
module _ (n : ℕ) (s t : LowState) (a b c d : Value) (owns : Owns n s t a b c d) (room : n + 4 ≤ length s.locals) (v : Value) where
  pub owns_limit : Owns n s (put t n v) v b c d
  owns_limit = record {
    kept = Kept-set n s t n v owns.kept (omega arith);
    limit_is = slice_get-set_same t.locals n v (room_kept n s t n owns.kept room (omega arith));
    index_is = slice_get-set_other t.locals n (n + 1) v (λ e. omega arith) ∙ owns.index_is;
    left_is = slice_get-set_other t.locals n (n + 2) v (λ e. omega arith) ∙ owns.left_is;
    right_is = slice_get-set_other t.locals n (n + 3) v (λ e. omega arith) ∙ owns.right_is;
  }

  pub owns_index : Owns n s (put t (n + 1) v) a v c d
  owns_index = record {
    kept = Kept-set n s t (n + 1) v owns.kept (omega arith);
    limit_is = slice_get-set_other t.locals (n + 1) n v (λ e. omega arith) ∙ owns.limit_is;
    index_is = slice_get-set_same t.locals (n + 1) v (room_kept n s t (n + 1) owns.kept room (omega arith));
    left_is = slice_get-set_other t.locals (n + 1) (n + 2) v (λ e. omega arith) ∙ owns.left_is;
    right_is = slice_get-set_other t.locals (n + 1) (n + 3) v (λ e. omega arith) ∙ owns.right_is;
  }

  pub owns_left : Owns n s (put t (n + 2) v) a b v d
  owns_left = record {
    kept = Kept-set n s t (n + 2) v owns.kept (omega arith);
    limit_is = slice_get-set_other t.locals (n + 2) n v (λ e. omega arith) ∙ owns.limit_is;
    index_is = slice_get-set_other t.locals (n + 2) (n + 1) v (λ e. omega arith) ∙ owns.index_is;
    left_is = slice_get-set_same t.locals (n + 2) v (room_kept n s t (n + 2) owns.kept room (omega arith));
    right_is = slice_get-set_other t.locals (n + 2) (n + 3) v (λ e. omega arith) ∙ owns.right_is;
  }

  pub owns_right : Owns n s (put t (n + 3) v) a b c v
  owns_right = record {
    kept = Kept-set n s t (n + 3) v owns.kept (omega arith);
    limit_is = slice_get-set_other t.locals (n + 3) n v (λ e. omega arith) ∙ owns.limit_is;
    index_is = slice_get-set_other t.locals (n + 3) (n + 1) v (λ e. omega arith) ∙ owns.index_is;
    left_is = slice_get-set_other t.locals (n + 3) (n + 2) v (λ e. omega arith) ∙ owns.left_is;
    right_is = slice_get-set_same t.locals (n + 3) v (room_kept n s t (n + 3) owns.kept room (omega arith));
  }

-- ---- a text in locals below
sizes : (n : ℕ) (s t : LowState) (p : Part) → Kept n s t → size_of t p ≡ size_of s p
sizes n s t (Column k) kept = ap (λ (u : LowState). slice_get u.columns k) kept.others
sizes n s t (Own k) kept = ap (λ (u : LowState). slice_get u.own k) kept.others

pub text_kept : (n : ℕ) (s t : LowState) (address count : ℕ) (octets : List ℕ) → Kept n s t → address < n → count < n → HoldsText s address count octets → HoldsText t address count octets
text_kept n s t address count octets kept low_a low_c holds = record {
  part = holds.part;
  offset = holds.offset;
  is_at = kept.below address low_a ∙ holds.is_at;
  is_long = kept.below count low_c ∙ holds.is_long;
  short = holds.short;
  lies = record {
    size = holds.lies.size;
    sized = sizes n s t holds.part kept ∙ holds.lies.sized;
    inside = holds.lies.inside;
    each = λ i octet found. ap (λ (u : LowState). u.cells holds.part (holds.offset + i) 1) kept.others ∙ holds.lies.each i octet found;
  };
}
