-- The block of order keeps what `Texts` says of it.
use Rattle.std.proofs.Common.{◌≡◌, ℕ, ◌+◌, ◌-◌, ◌*◌, ◌^◌, ◌<◌, ◌≤◌, min, nat_lt, ℤ, pos, negsuc, int_cmp, inl, inr, List, length, drop, Some, slice_get, refl, sym, ◌∙◌, subst, ⊎_elim, arith, w32, w64}
use Rattle.std.specs.Int.{cast_signed}
use Rattle.std.specs.Ordering.{MatchOrdering, nat_cmp}
use Rattle.std.specs.Cmp.{nat_cmp_is, ranks}
use Rattle.std.specs.declared.cmp.Ordering.{Ordering}
use Rattle.std.specs.declared.cmp.Ordering.TheVariants.{Less, Equal, Greater}
use Rattle.std.proofs.Math.Nat.{min-eq_left, min-eq_right}
use Rattle.std.proofs.lemmas.Bool.{cases_lt, eq-eqb, ne_eqb, lt-ltb, le-ltb}
use Rattle.qw_types.specs.TextOrder.{text_order}
use Rattle.qw_module.specs.declared.instruction.ValType.{ValType}
use Rattle.qw_module.specs.declared.instruction.ValType.TheVariants.{I32, I64}
use Rattle.qw_module.specs.declared.instruction.Sign.TheVariants.{Signed, Unsigned}
use Rattle.qw_module.specs.declared.instruction.Binary.TheVariants.{Sub}
use Rattle.qw_module.specs.declared.instruction.Relation.TheVariants.{Lt}
use Rattle.qw_module.specs.Numbers.{truth, binary, extended}
use Rattle.qw_low.specs.Syntax.{local, relop, skip, seq, assign}
use Rattle.qw_low.specs.State.{Value, Number, LowState}
use Rattle.qw_low.specs.Meaning.{meaning}
use Rattle.qw_low.specs.Typing.{IsTyped}
use Rattle.qw_low.specs.Promise.{Ends}
use Rattle.qw_low.specs.Raising.{Kept}
use Rattle.qw_low.specs.Held.{HoldsText}
use Rattle.qw_low.proofs.Promises.{Ends-more, Ends-then, assign_ends, conditional_ends}
use Rattle.qw_low.proofs.BlockSteps.{assign_then}
use Rattle.qw_low.proofs.Results.{Kept-same}
use Rattle.qw_text.specs.Texts.{SaysOrder}
use Rattle.qw_text.specs.Inner.Blocks.{are_same, walk_block, shorter_block, widened, lengths_block, sign_of, sign_block, order_block}
use Rattle.qw_text.proofs.OwnLocals.{put, Owns, OwnsSome, owns_some, room_kept, owns_limit, owns_left, owns_right}
use Rattle.qw_text.proofs.TextFacts.{left_ends, right_ends}
use Rattle.qw_text.proofs.WalkEnds.{Never, NoCode, Walked, walk_ends, walk_typed}

-- ---- the sign of a difference
record SignOf (p q : ℕ) : Type 0 where
  pub word : ℕ
  pub z : ℤ
  pub is : extended w32 Signed I64 (binary I32 Sub (truth (nat_lt q p)) (truth (nat_lt p q))) ≡ word
  pub small : word < 2 ^ 64
  pub reads : cast_signed w64 word ≡ z
  pub order : int_cmp z (pos 0) ≡ nat_cmp p q

sign_by : (p q : ℕ) (r : Ordering) → MatchOrdering r (p < q) (p ≡ q) (q < p) → SignOf p q
sign_by p q Less h = record { word = 2 ^ 64 - 1; z = negsuc 0; is = rw (lt-ltb p q h, le-ltb q p (omega (arith, h))) refl; small = omega arith; reads = refl; order = nat_cmp_is p q Less h }
sign_by p q Equal h = record { word = 0; z = pos 0; is = rw (le-ltb p q (omega (arith, h)), le-ltb q p (omega (arith, h))) refl; small = omega arith; reads = refl; order = nat_cmp_is p q Equal h }
sign_by p q Greater h = record { word = 1; z = pos 1; is = rw (lt-ltb q p h, le-ltb p q (omega (arith, h))) refl; small = omega arith; reads = refl; order = nat_cmp_is p q Greater h }

sign_made : (p q : ℕ) → SignOf p q
sign_made p q = sign_by p q (nat_cmp p q) (ranks p q)

-- two numbers that stand to one another as the texts do
record Ranked (n : ℕ) (s : LowState) (v w : List ℕ) (t : LowState) : Type 0 where
  pub limit : Value
  pub index : Value
  pub p : ℕ
  pub q : ℕ
  pub owns : Owns n s t limit index (Number p) (Number q)
  pub order : text_order v w ≡ nat_cmp p q

module _ (pages fuel : ℕ) (s : LowState) (a ca b cb n : ℕ) (v w : List ℕ) (left : HoldsText s a ca v) (right : HoldsText s b cb w) (low_a : a < n) (low_ca : ca < n) (low_b : b < n) (low_cb : cb < n)
    (room : n + 4 ≤ length s.locals) where
  abbrev Told : LowState → Type 0
  Told t = Kept n s t × SaysOrder (n + 2) v w t

  sign_ends : (t : LowState) → Ranked n s v w t → Ends 9 Told Never NoCode (meaning pages fuel (sign_block n) t)
  sign_ends t now =
      let made : SignOf now.p now.q = sign_made now.p now.q in
      let after = owns_left n s t now.limit now.index (Number now.p) (Number now.q) now.owns room (Number made.word) in
      assign_ends Told Never NoCode pages fuel (n + 2) (sign_of n) (Number made.word) t (rw (now.owns.left_is, now.owns.right_is, made.is) refl) (room_kept n s t (n + 2) now.owns.kept room (omega arith))
      (after.kept, (made.z, (made.word, after.left_is, made.small, made.reads), made.order ∙ sym now.order))

  lengths_set : (m : ℕ) (t : LowState) → text_order v w ≡ nat_cmp (length v) (length w) → Walked n s v w m t →
      Ends 6 (Ranked n s v w) Never NoCode (meaning pages fuel (seq (assign (n + 2) (widened ca)) (assign (n + 3) (widened cb))) t)
  lengths_set m t order now =
      let t1 : LowState = put t (n + 2) (Number (length v)) in
      let owns1 : Owns n s t1 now.limit now.index (Number (length v)) (Number now.q) = owns_left n s t now.limit now.index (Number now.p) (Number now.q) now.owns room (Number (length v)) in
      assign_then (Ranked n s v w) Never NoCode pages fuel t 3 (assign (n + 3) (widened cb)) (n + 2) (widened ca) (Number (length v)) (rw (now.owns.kept.below ca low_ca, left.is_long) refl)
      (room_kept n s t (n + 2) now.owns.kept room (omega arith))
      (assign_ends (Ranked n s v w) Never NoCode pages fuel (n + 3) (widened cb) (Number (length w)) t1 (rw (owns1.kept.below cb low_cb, right.is_long) refl)
      (room_kept n s t1 (n + 3) owns1.kept room (omega arith))
      (record {
        limit = now.limit;
        index = now.index;
        p = length v;
        q = length w;
        owns = owns_right n s t1 now.limit now.index (Number (length v)) (Number now.q) owns1 room (Number (length w));
        order = order;
      }))

  lengths_ends : (m : ℕ) (t : LowState) → text_order (drop m v) (drop m w) ≡ nat_cmp (length v) (length w) → Walked n s v w m t → Ends 10 (Ranked n s v w) Never NoCode (meaning pages fuel (lengths_block ca cb n) t)
  lengths_ends m t last now =
      conditional_ends (Ranked n s v w) Never NoCode pages fuel 6 (are_same n) (seq (assign (n + 2) (widened ca)) (assign (n + 3) (widened cb))) skip t
      (⊎_elim
      (λ alike. inl (inl (0, rw (now.owns.left_is, now.owns.right_is, eq-eqb now.p now.q (alike.0)) refl), lengths_set m t (alike.1 ∙ last) now))
      (λ apart. inr (
        rw (now.owns.left_is, now.owns.right_is, ne_eqb now.p now.q (apart.0)) refl,
        (omega arith, record { limit = now.limit; index = now.index; p = now.p; q = now.q; owns = now.owns; order = apart.1 }),
      ))
      now.compared)

  -- over the octets of the shorter text
  walked_ends : (m : ℕ) → m ≤ length v → m ≤ length w → m < fuel → text_order (drop m v) (drop m w) ≡ nat_cmp (length v) (length w) →
      Ends (6 + (m * 23 + 4) + 19) Told Never NoCode (meaning pages fuel (seq (walk_block a b n) (seq (lengths_block ca cb n) (sign_block n))) (put s n (Number m)))
  walked_ends m in_v in_w more last =
      let any : OwnsSome n s s = owns_some n s s (Kept-same n s) room in
      Ends-then Told Never NoCode (6 + (m * 23 + 4)) 19 (Walked n s v w m) (meaning pages fuel (walk_block a b n) (put s n (Number m))) (meaning pages fuel (seq (lengths_block ca cb n) (sign_block n)))
      (walk_ends pages fuel s a ca b cb n v w left right low_a low_ca low_b low_cb room m in_v in_w any.index any.left any.right (put s n (Number m))
      (owns_limit n s s any.limit any.index any.left any.right any.owns room (Number m)) more)
      (λ t now. Ends-then Told Never NoCode 10 9 (Ranked n s v w) (meaning pages fuel (lengths_block ca cb n) t) (meaning pages fuel (sign_block n)) (lengths_ends m t last now) sign_ends)

  ordered_ends : (m : ℕ) → m ≤ length v → m ≤ length w → m < fuel → text_order (drop m v) (drop m w) ≡ nat_cmp (length v) (length w) →
      Ends 6 (λ t. t ≡ put s n (Number m)) Never NoCode (meaning pages fuel (shorter_block ca cb n) s) → Ends (6 + (6 + (m * 23 + 4) + 19)) Told Never NoCode (meaning pages fuel (order_block a ca b cb n) s)
  ordered_ends m in_v in_w more last shorter =
      Ends-then Told Never NoCode 6 (6 + (m * 23 + 4) + 19) (λ t. t ≡ put s n (Number m)) (meaning pages fuel (shorter_block ca cb n) s) (meaning pages fuel (seq (walk_block a b n) (seq (lengths_block ca cb n) (sign_block n)))) shorter
      (λ t is. subst (λ (u : LowState). Ends (6 + (m * 23 + 4) + 19) Told Never NoCode (meaning pages fuel (seq (walk_block a b n) (seq (lengths_block ca cb n) (sign_block n))) u)) (sym is) (walked_ends m in_v in_w more last))

  -- the lesser length
  left_shorter : length v < length w → Ends 6 (λ t. t ≡ put s n (Number (length v))) Never NoCode (meaning pages fuel (shorter_block ca cb n) s)
  left_shorter less =
      conditional_ends (λ t. t ≡ put s n (Number (length v))) Never NoCode pages fuel 2 (relop I32 (Lt Unsigned) (local ca) (local cb)) (assign n (local ca)) (assign n (local cb)) s
      (inl (
        inl (0, rw (left.is_long, right.is_long, lt-ltb (length v) (length w) less) refl),
        assign_ends (λ t. t ≡ put s n (Number (length v))) Never NoCode pages fuel n (local ca) (Number (length v)) s left.is_long (omega (arith, room)) refl,
      ))

  right_shorter : length w ≤ length v → Ends 6 (λ t. t ≡ put s n (Number (length w))) Never NoCode (meaning pages fuel (shorter_block ca cb n) s)
  right_shorter less =
      conditional_ends (λ t. t ≡ put s n (Number (length w))) Never NoCode pages fuel 2 (relop I32 (Lt Unsigned) (local ca) (local cb)) (assign n (local ca)) (assign n (local cb)) s
      (inr (
        rw (left.is_long, right.is_long, le-ltb (length v) (length w) less) refl,
        assign_ends (λ t. t ≡ put s n (Number (length w))) Never NoCode pages fuel n (local cb) (Number (length w)) s right.is_long (omega (arith, room)) refl,
      ))

  pub order_ends : min (length v) (length w) < fuel → Ends (35 + min (length v) (length w) * 23) Told Never NoCode (meaning pages fuel (order_block a ca b cb n) s)
  order_ends more = ⊎_elim
      (λ (less : length v < length w).
      let least : min (length v) (length w) ≡ length v = min-eq_left (omega (arith, less)) in
      Ends-more Told Never NoCode (6 + (6 + (length v * 23 + 4) + 19)) (35 + min (length v) (length w) * 23) (meaning pages fuel (order_block a ca b cb n) s) (omega (arith, least))
      (ordered_ends (length v) (omega arith) (omega (arith, less)) (omega (arith, more, least)) (left_ends v w (omega (arith, less))) (left_shorter less)))
      (λ (less : length w ≤ length v).
      let least : min (length v) (length w) ≡ length w = min-eq_right less in
      Ends-more Told Never NoCode (6 + (6 + (length w * 23 + 4) + 19)) (35 + min (length v) (length w) * 23) (meaning pages fuel (order_block a ca b cb n) s) (omega (arith, least))
      (ordered_ends (length w) less (omega arith) (omega (arith, more, least)) (right_ends v w less) (right_shorter less)))
      (cases_lt (length v) (length w))

-- ---- types
module _ (types : List ValType) (a ca b cb n : ℕ) (is_a : slice_get types a ≡ Some I32) (is_ca : slice_get types ca ≡ Some I32) (is_b : slice_get types b ≡ Some I32) (is_cb : slice_get types cb ≡ Some I32)
    (is_n : slice_get types n ≡ Some I32) (is_index : slice_get types (n + 1) ≡ Some I32) (is_x : slice_get types (n + 2) ≡ Some I64) (is_y : slice_get types (n + 3) ≡ Some I64) where
  pub order_typed : IsTyped types (order_block a ca b cb n)
  order_typed = (
    ((is_ca, is_cb, refl), (I32, is_n, is_ca), (I32, is_n, is_cb)),
    (
      walk_typed types a ca b cb n is_a is_ca is_b is_cb is_n is_index is_x is_y,
      (
        ((is_x, is_y, refl), ((I64, is_x, (is_ca, refl)), (I64, is_y, (is_cb, refl))), tt),
        (I64, is_x, (((is_x, is_y, refl), (is_x, is_y, refl), refl), refl)),
      ),
    ),
  )
