-- The block of equality keeps what `Texts` says of it.
use Rattle.std.proofs.Common.{◌≡◌, ℕ, ◌+◌, ◌*◌, ◌<◌, ◌≤◌, inl, inr, List, length, Some, slice_get, refl, ⊎_elim, arith}
use Rattle.std.specs.Ordering.{is_eq}
use Rattle.std.proofs.lemmas.Bool.{cases_eq, eq-eqb, ne_eqb}
use Rattle.qw_types.specs.TextOrder.{text_order}
use Rattle.qw_module.specs.declared.instruction.ValType.{ValType}
use Rattle.qw_module.specs.declared.instruction.ValType.TheVariants.{I32, I64}
use Rattle.qw_module.specs.declared.instruction.Relation.TheVariants.{Eq}
use Rattle.qw_module.specs.Numbers.{truth}
use Rattle.qw_low.specs.Syntax.{local, relop, seq, assign}
use Rattle.qw_low.specs.State.{Number, LowState}
use Rattle.qw_low.specs.Meaning.{meaning}
use Rattle.qw_low.specs.Typing.{IsTyped}
use Rattle.qw_low.specs.Promise.{Ends}
use Rattle.qw_low.specs.Raising.{Kept}
use Rattle.qw_low.specs.Held.{HoldsText}
use Rattle.qw_low.proofs.Promises.{Ends-more, Ends-then, assign_ends, conditional_ends}
use Rattle.qw_low.proofs.BlockSteps.{assign_then}
use Rattle.qw_low.proofs.Results.{Kept-same}
use Rattle.qw_text.specs.Texts.{SaysSame}
use Rattle.qw_text.specs.Inner.Blocks.{i32, are_same, walk_block, equality_block}
use Rattle.qw_text.proofs.OwnLocals.{put, OwnsSome, owns_some, room_kept, owns_limit}
use Rattle.qw_text.proofs.TextFacts.{tells_same, lengths_tell}
use Rattle.qw_text.proofs.WalkEnds.{Never, NoCode, Walked, walk_ends, walk_typed}

module _ (pages fuel : ℕ) (s : LowState) (a ca b cb n : ℕ) (v w : List ℕ) (left : HoldsText s a ca v) (right : HoldsText s b cb w) (low_a : a < n) (low_ca : ca < n) (low_b : b < n) (low_cb : cb < n)
    (room : n + 4 ≤ length s.locals) where
  abbrev Told : LowState → Type 0
  Told t = Kept n s t × SaysSame n v w t

  -- what was compared last tells
  told_ends : (t : LowState) → length v ≡ length w → Walked n s v w (length v) t → Ends 4 Told Never NoCode (meaning pages fuel (assign n (are_same n)) t)
  told_ends t long now =
      assign_ends Told Never NoCode pages fuel n (are_same n) (Number (truth (is_eq (text_order v w)))) t
      (rw (now.owns.left_is, now.owns.right_is, tells_same (length v) v w now.p now.q refl long now.compared) refl)
      (room_kept n s t n now.owns.kept room (omega arith))
      (let after = owns_limit n s t now.limit now.index (Number now.p) (Number now.q) now.owns room (Number (truth (is_eq (text_order v w)))) in (after.kept, after.limit_is))

  same_length : length v ≡ length w → length v < fuel →
      Ends (2 + (6 + (length v * 23 + 4) + 4)) Told Never NoCode (meaning pages fuel (seq (assign n (local ca)) (seq (walk_block a b n) (assign n (are_same n)))) s)
  same_length long more =
      let any : OwnsSome n s s = owns_some n s s (Kept-same n s) room in
      let t : LowState = put s n (Number (length v)) in
      assign_then Told Never NoCode pages fuel s (6 + (length v * 23 + 4) + 4) (seq (walk_block a b n) (assign n (are_same n))) n (local ca) (Number (length v)) left.is_long (omega (arith, room))
      (Ends-then Told Never NoCode (6 + (length v * 23 + 4)) 4 (Walked n s v w (length v)) (meaning pages fuel (walk_block a b n) t) (meaning pages fuel (assign n (are_same n)))
      (walk_ends pages fuel s a ca b cb n v w left right low_a low_ca low_b low_cb room (length v) (omega arith) (omega (arith, long)) any.index any.left any.right t
      (owns_limit n s s any.limit any.index any.left any.right any.owns room (Number (length v))) more)
      (λ u now. told_ends u long now))

  other_length : (length v ≡ length w → ⊥) → Ends 2 Told Never NoCode (meaning pages fuel (assign n (i32 0)) s)
  other_length apart =
      let any : OwnsSome n s s = owns_some n s s (Kept-same n s) room in
      let after = owns_limit n s s any.limit any.index any.left any.right any.owns room (Number 0) in
      assign_ends Told Never NoCode pages fuel n (i32 0) (Number 0) s refl (omega (arith, room)) (after.kept, rw (lengths_tell v w apart) after.limit_is)

  pub equality_ends : length v < fuel → Ends (4 + (length v * 23 + 16)) Told Never NoCode (meaning pages fuel (equality_block a ca b cb n) s)
  equality_ends more =
      conditional_ends Told Never NoCode pages fuel (length v * 23 + 16) (relop I32 Eq (local ca) (local cb)) (seq (assign n (local ca)) (seq (walk_block a b n) (assign n (are_same n)))) (assign n (i32 0)) s
      (⊎_elim
      (λ (long : length v ≡ length w). inl (
        inl (0, rw (left.is_long, right.is_long, eq-eqb (length v) (length w) long) refl),
        Ends-more Told Never NoCode (2 + (6 + (length v * 23 + 4) + 4)) (length v * 23 + 16) _ (omega arith) (same_length long more),
      ))
      (λ apart. inr (
        rw (left.is_long, right.is_long, ne_eqb (length v) (length w) apart) refl,
        Ends-more Told Never NoCode 2 (length v * 23 + 16) _ (omega arith) (other_length apart),
      ))
      (cases_eq (length v) (length w)))

-- ---- types
module _ (types : List ValType) (a ca b cb n : ℕ) (is_a : slice_get types a ≡ Some I32) (is_ca : slice_get types ca ≡ Some I32) (is_b : slice_get types b ≡ Some I32) (is_cb : slice_get types cb ≡ Some I32)
    (is_n : slice_get types n ≡ Some I32) (is_index : slice_get types (n + 1) ≡ Some I32) (is_x : slice_get types (n + 2) ≡ Some I64) (is_y : slice_get types (n + 3) ≡ Some I64) where
  pub equality_typed : IsTyped types (equality_block a ca b cb n)
  equality_typed = (
    (is_ca, is_cb, refl),
    ((I32, is_n, is_ca), (walk_typed types a ca b cb n is_a is_ca is_b is_cb is_n is_index is_x is_y, (I32, is_n, (is_x, is_y, refl)))),
    (I32, is_n, (omega arith, refl)),
  )
