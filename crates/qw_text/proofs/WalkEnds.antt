-- What one pass over two texts comes to.
use Rattle.std.proofs.Common.{◌≡◌, ◌≢◌, ℕ, zero, suc, ◌+◌, ◌*◌, ◌%◌, ◌^◌, ◌<◌, ◌≤◌, ◌⊎◌, inl, inr, List, length, drop, Some, slice_get, refl, sym, ◌∙◌, ⊎_elim, arith}
use Rattle.std.specs.Ordering.{nat_cmp}
use Rattle.std.proofs.lemmas.Bool.{cases_eq, eq-eqb, ne_eqb, lt-ltb, le-ltb, le-leb}
use Rattle.std.proofs.lemmas.Option.{slice_get_within}
use Rattle.qw_types.specs.TextOrder.{text_order}
use Rattle.qw_map.proofs.TurnFacts.{found-in}
use Rattle.qw_module.specs.declared.instruction.ValType.{ValType}
use Rattle.qw_module.specs.declared.instruction.ValType.TheVariants.{I32, I64}
use Rattle.qw_module.specs.declared.instruction.Sign.TheVariants.{Unsigned}
use Rattle.qw_module.specs.declared.instruction.Binary.TheVariants.{Add}
use Rattle.qw_module.specs.declared.instruction.Load.TheVariants.{From8}
use Rattle.qw_low.specs.Syntax.{local, binop, advance, seq, assign, while}
use Rattle.qw_low.specs.State.{Value, Number, Address, LowState}
use Rattle.qw_low.specs.Meaning.{value, meaning}
use Rattle.qw_low.specs.Typing.{IsTyped}
use Rattle.qw_low.specs.Promise.{Ends, IsSet}
use Rattle.qw_low.specs.Held.{HoldsText}
use Rattle.qw_low.proofs.Promises.{Ends-more, Ends-then, assign_ends, conditional_ends, turns_end}
use Rattle.qw_low.proofs.BlockSteps.{assign_then, load_then}
use Rattle.qw_text.specs.Inner.Blocks.{i32, i64, load_octet, start_block, are_same, go_on, is_left, turn_block, walk_block}
use Rattle.qw_text.proofs.OwnLocals.{put, Owns, room_kept, owns_limit, owns_index, owns_left, owns_right, text_kept}
use Rattle.qw_text.proofs.TextFacts.{Compared, same_here, differ_here}

abbrev pub Never : LowState → Type 0
Never t = ⊥

abbrev pub NoCode : ℕ → Type 0
NoCode code = ⊥

-- so many octets from the index on are left, and all before it were the same
pub record Going (n : ℕ) (s : LowState) (v w : List ℕ) (m j : ℕ) (t : LowState) : Type 0 where
  pub index : ℕ
  pub p : ℕ
  pub q : ℕ
  pub count : index + j ≡ m
  pub owns : Owns n s t (Number m) (Number index) (Number p) (Number q)
  pub alike : p ≡ q
  pub order : text_order v w ≡ text_order (drop index v) (drop index w)

-- two octets differed
pub record Apart (n : ℕ) (s : LowState) (v w : List ℕ) (t : LowState) : Type 0 where
  pub index : ℕ
  pub p : ℕ
  pub q : ℕ
  pub owns : Owns n s t (Number 0) (Number index) (Number p) (Number q)
  pub apart : p ≢ q
  pub order : text_order v w ≡ nat_cmp p q

pub record Walked (n : ℕ) (s : LowState) (v w : List ℕ) (m : ℕ) (t : LowState) : Type 0 where
  pub limit : Value
  pub index : Value
  pub p : ℕ
  pub q : ℕ
  pub owns : Owns n s t limit index (Number p) (Number q)
  pub compared : Compared m v w p q

-- the address of an octet of a text
pub octet_at : (t : LowState) (address count x i octet : ℕ) (v : List ℕ) (holds : HoldsText t address count v) → slice_get t.locals x ≡ Some (Number i) → slice_get v i ≡ Some octet →
    value t (advance (local address) (local x)) ≡ Some (Address holds.part (holds.offset + i))
octet_at t address count x i octet v holds is found =
    rw (holds.is_at, is, holds.lies.sized, le-leb (holds.offset + i) holds.lies.size (omega (arith, holds.lies.inside, slice_get_within v i octet found))) refl

module _ (pages fuel : ℕ) (s : LowState) (a ca b cb n : ℕ) (v w : List ℕ) (left : HoldsText s a ca v) (right : HoldsText s b cb w) (low_a : a < n) (low_ca : ca < n) (low_b : b < n) (low_cb : cb < n)
    (room : n + 4 ≤ length s.locals) (m : ℕ) (in_v : m ≤ length v) (in_w : m ≤ length w) where
  abbrev State : ℕ → LowState → Type 0
  State j t = Going n s v w m j t ⊎ Apart n s v w t

  same_ends : (i j p q : ℕ) (t : LowState) → i + suc j ≡ m → Owns n s t (Number m) (Number i) (Number p) (Number q) → slice_get v i ≡ Some p → slice_get w i ≡ Some q →
      text_order v w ≡ text_order (drop i v) (drop i w) → p ≡ q → Ends 4 (State j) Never NoCode (meaning pages fuel (assign (n + 1) (binop I32 Add (local (n + 1)) (i32 1))) t)
  same_ends i j p q t count owns at_v at_w order same =
      let sum : (i + 1) % 2 ^ 32 ≡ suc i = omega (arith, count, in_v, left.short) in
      assign_ends (State j) Never NoCode pages fuel (n + 1) (binop I32 Add (local (n + 1)) (i32 1)) (Number (suc i)) t (rw (owns.index_is, sum) refl) (room_kept n s t (n + 1) owns.kept room (omega arith))
      (inl (record {
        index = suc i;
        p = p;
        q = q;
        count = omega (arith, count);
        owns = owns_index n s t (Number m) (Number i) (Number p) (Number q) owns room (Number (suc i));
        alike = same;
        order = order ∙ same_here v w i p q at_v at_w same;
      }))

  differ_ends : (i j p q : ℕ) (t : LowState) → Owns n s t (Number m) (Number i) (Number p) (Number q) → slice_get v i ≡ Some p → slice_get w i ≡ Some q →
      text_order v w ≡ text_order (drop i v) (drop i w) → p ≢ q → Ends 2 (State j) Never NoCode (meaning pages fuel (assign n (i32 0)) t)
  differ_ends i j p q t owns at_v at_w order apart =
      assign_ends (State j) Never NoCode pages fuel n (i32 0) (Number 0) t refl (room_kept n s t n owns.kept room (omega arith))
      (inr (record {
        index = i;
        p = p;
        q = q;
        owns = owns_limit n s t (Number m) (Number i) (Number p) (Number q) owns room (Number 0);
        apart = apart;
        order = order ∙ differ_here v w i p q at_v at_w apart;
      }))

  go_on_ends : (i j p q : ℕ) (t : LowState) → i + suc j ≡ m → Owns n s t (Number m) (Number i) (Number p) (Number q) → slice_get v i ≡ Some p → slice_get w i ≡ Some q →
      text_order v w ≡ text_order (drop i v) (drop i w) → Ends 8 (State j) Never NoCode (meaning pages fuel (go_on n) t)
  go_on_ends i j p q t count owns at_v at_w order =
      conditional_ends (State j) Never NoCode pages fuel 4 (are_same n) (assign (n + 1) (binop I32 Add (local (n + 1)) (i32 1))) (assign n (i32 0)) t
      (⊎_elim
      (λ (same : p ≡ q). inl (inl (0, rw (owns.left_is, owns.right_is, eq-eqb p q same) refl), same_ends i j p q t count owns at_v at_w order same))
      (λ apart. inr (rw (owns.left_is, owns.right_is, ne_eqb p q apart) refl, Ends-more (State j) Never NoCode 2 4 (meaning pages fuel (assign n (i32 0)) t) (omega arith) (differ_ends i j p q t owns at_v at_w order apart)))
      (cases_eq p q))

  turn_ends : (j : ℕ) (t : LowState) → Going n s v w m (suc j) t → Ends 18 (State j) Never NoCode (meaning pages fuel (turn_block a b n) t)
  turn_ends j t now =
      let i : ℕ = now.index in
      let x = found-in v i (omega (arith, now.count, in_v)) in
      let y = found-in w i (omega (arith, now.count, in_w)) in
      let t1 : LowState = put t (n + 2) (Number x.0) in
      let owns1 : Owns n s t1 (Number m) (Number i) (Number x.0) (Number now.q) = owns_left n s t (Number m) (Number i) (Number now.p) (Number now.q) now.owns room (Number x.0) in
      let t2 : LowState = put t1 (n + 3) (Number y.0) in
      let owns2 : Owns n s t2 (Number m) (Number i) (Number x.0) (Number y.0) = owns_right n s t1 (Number m) (Number i) (Number x.0) (Number now.q) owns1 room (Number y.0) in
      let held_left : HoldsText t a ca v = text_kept n s t a ca v now.owns.kept low_a low_ca left in
      let held_right : HoldsText t1 b cb w = text_kept n s t1 b cb w owns1.kept low_b low_cb right in
      load_then (State j) Never NoCode pages fuel t 13 (seq (load_octet (n + 3) b (n + 1)) (go_on n)) (n + 2) (From8 I64 Unsigned) 0 (advance (local a) (local (n + 1)))
      held_left.part (held_left.offset + i) (held_left.offset + i) (Number x.0) (Number x.0) (octet_at t a ca (n + 1) i x.0 v held_left now.owns.index_is x.1) (omega arith) (held_left.lies.each i x.0 x.1) refl
      (room_kept n s t (n + 2) now.owns.kept room (omega arith))
      (load_then (State j) Never NoCode pages fuel t1 8 (go_on n) (n + 3) (From8 I64 Unsigned) 0 (advance (local b) (local (n + 1)))
      held_right.part (held_right.offset + i) (held_right.offset + i) (Number y.0) (Number y.0) (octet_at t1 b cb (n + 1) i y.0 w held_right owns1.index_is y.1) (omega arith) (held_right.lies.each i y.0 y.1) refl
      (room_kept n s t1 (n + 3) owns1.kept room (omega arith))
      (go_on_ends i j x.0 y.0 t2 now.count owns2 x.1 y.1 now.order))

  turn : (k : ℕ) (t : LowState) → State k t →
      ((value t (is_left n) ≡ Some (Number 0)) × Walked n s v w m t) ⊎ (IsSet (value t (is_left n)) × (j : ℕ) × (j < k) × Ends 18 (State j) Never NoCode (meaning pages fuel (turn_block a b n) t))
  turn zero t (inl now) =
      let all : now.index ≡ m = omega (arith, now.count) in
      inl (
        rw (now.owns.index_is, now.owns.limit_is, le-ltb now.index m (omega (arith, all))) refl,
        record { limit = Number m; index = Number now.index; p = now.p; q = now.q; owns = now.owns; compared = inl (now.alike, rw (sym all) now.order) },
      )
  turn (suc j) t (inl now) =
      inr (inl (0, rw (now.owns.index_is, now.owns.limit_is, lt-ltb now.index m (omega (arith, now.count))) refl), j, omega arith, turn_ends j t now)
  turn k t (inr now) =
      inl (
        rw (now.owns.index_is, now.owns.limit_is, le-ltb now.index 0 (omega arith)) refl,
        record { limit = Number 0; index = Number now.index; p = now.p; q = now.q; owns = now.owns; compared = inr (now.apart, now.order) },
      )

  start_ends : (index x y : Value) (t : LowState) → Owns n s t (Number m) index x y → Ends 6 (Going n s v w m m) Never NoCode (meaning pages fuel (start_block n) t)
  start_ends index x y t owns =
      let t1 : LowState = put t (n + 1) (Number 0) in
      let owns1 : Owns n s t1 (Number m) (Number 0) x y = owns_index n s t (Number m) index x y owns room (Number 0) in
      let t2 : LowState = put t1 (n + 2) (Number 0) in
      let owns2 : Owns n s t2 (Number m) (Number 0) (Number 0) y = owns_left n s t1 (Number m) (Number 0) x y owns1 room (Number 0) in
      assign_then (Going n s v w m m) Never NoCode pages fuel t 4 (seq (assign (n + 2) (i64 0)) (assign (n + 3) (i64 0))) (n + 1) (i32 0) (Number 0) refl (room_kept n s t (n + 1) owns.kept room (omega arith))
      (assign_then (Going n s v w m m) Never NoCode pages fuel t1 2 (assign (n + 3) (i64 0)) (n + 2) (i64 0) (Number 0) refl (room_kept n s t1 (n + 2) owns1.kept room (omega arith))
      (assign_ends (Going n s v w m m) Never NoCode pages fuel (n + 3) (i64 0) (Number 0) t2 refl (room_kept n s t2 (n + 3) owns2.kept room (omega arith))
      (record {
        index = 0;
        p = 0;
        q = 0;
        count = omega arith;
        owns = owns_right n s t2 (Number m) (Number 0) (Number 0) y owns2 room (Number 0);
        alike = refl;
        order = refl;
      })))

  pub walk_ends : (index x y : Value) (t : LowState) → Owns n s t (Number m) index x y → m < fuel → Ends (6 + (m * 23 + 4)) (Walked n s v w m) Never NoCode (meaning pages fuel (walk_block a b n) t)
  walk_ends index x y t owns more =
      Ends-then (Walked n s v w m) Never NoCode 6 (m * 23 + 4) (Going n s v w m m) (meaning pages fuel (start_block n) t) (meaning pages fuel (while (is_left n) (turn_block a b n)))
      (start_ends index x y t owns)
      (λ u now. turns_end 18 State (Walked n s v w m) Never NoCode (is_left n) (meaning pages fuel (turn_block a b n)) turn fuel m u more (inl now))

-- ---- types
module _ (types : List ValType) (a ca b cb n : ℕ) (is_a : slice_get types a ≡ Some I32) (is_ca : slice_get types ca ≡ Some I32) (is_b : slice_get types b ≡ Some I32) (is_cb : slice_get types cb ≡ Some I32)
    (is_n : slice_get types n ≡ Some I32) (is_index : slice_get types (n + 1) ≡ Some I32) (is_x : slice_get types (n + 2) ≡ Some I64) (is_y : slice_get types (n + 3) ≡ Some I64) where
  pub walk_typed : IsTyped types (walk_block a b n)
  walk_typed = (
    ((I32, is_index, (omega arith, refl)), ((I64, is_x, (omega arith, refl)), (I64, is_y, (omega arith, refl)))),
    (
      (is_index, is_n, refl),
      (
        (is_x, (is_a, is_index, refl)),
        (
          (is_y, (is_b, is_index, refl)),
          ((is_x, is_y, refl), (I32, is_index, (is_index, (omega arith, refl), refl)), (I32, is_n, (omega arith, refl))),
        ),
      ),
    ),
  )
