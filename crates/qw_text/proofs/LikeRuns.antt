-- The block that matches a text with a pattern keeps what `Likes` says of it.
use Rattle.std.proofs.Common.{◌≡◌, ℕ, zero, suc, ◌+◌, ◌*◌, ◌%◌, ◌^◌, ◌<◌, ◌≤◌, ◌==◌, ◌⊎◌, inl, inr, Bool, true, false, List, [], ◌∷◌, length, Some, slice_get, refl, ap, subst, ⊎_elim, arith}
use Rattle.std.proofs.lemmas.Bool.{cases_eq, eq-eqb, ne_eqb}
use Rattle.qw_map.proofs.TurnFacts.{found-in}
use Rattle.qw_module.specs.declared.instruction.ValType.{ValType}
use Rattle.qw_module.specs.declared.instruction.ValType.TheVariants.{I32}
use Rattle.qw_module.specs.declared.instruction.Sign.TheVariants.{Unsigned}
use Rattle.qw_module.specs.declared.instruction.Relation.TheVariants.{Eq}
use Rattle.qw_module.specs.declared.instruction.Load.TheVariants.{From8}
use Rattle.qw_module.specs.Numbers.{truth}
use Rattle.qw_low.specs.declared.cell.Cell.{Cell}
use Rattle.qw_low.specs.Syntax.{local, relop, advance, skip, seq, assign, conditional, while}
use Rattle.qw_low.specs.State.{Value, Number, LowState}
use Rattle.qw_low.specs.Meaning.{value, meaning}
use Rattle.qw_low.specs.Typing.{IsTyped}
use Rattle.qw_low.specs.Promise.{Ends, IsSet}
use Rattle.qw_low.specs.Raising.{Kept}
use Rattle.qw_low.specs.Held.{HoldsText}
use Rattle.qw_low.proofs.Promises.{Ends-weaker, Ends-more, Ends-then, assign_ends, conditional_ends, turns_end}
use Rattle.qw_low.proofs.BlockSteps.{assign_then, load_then}
use Rattle.qw_low.proofs.Results.{Kept-same}
use Rattle.qw_types.specs.Like.{continues, fits_pattern}
use Rattle.qw_text.specs.Likes.{Likes, SaysLike, pairs}
use Rattle.qw_text.specs.Inner.Blocks.{i32}
use Rattle.qw_text.specs.Inner.LikeBlocks.{same, is_octet, one_more, next, begin_block, first_bits, look_block, within_block, skim_block, retry_block, step_block, turn_block, like_block}
use Rattle.qw_text.proofs.OwnLocals.{put, text_kept}
use Rattle.qw_text.proofs.WalkEnds.{Never, NoCode, octet_at}
use Rattle.qw_text.proofs.LikeOwned.{OwnsAll, owns_room, owns_set, owns_first, owns_set_first, OwnsEight, owns_eight}
use Rattle.qw_text.proofs.LikeSearch.{Place, place_start, place_some, place_stopped, place_begun, place_passed}
use Rattle.qw_text.proofs.LikeTurns.{own_values, Going, Done, Searched, step_ends}

-- once there is an answer there are no more turns
told_stops : (b : Bool) → truth (truth b == 2) ≡ 0
told_stops true = refl
told_stops false = refl

-- the text stands within a character that a `_` took, and goes on
pub record Passing (n : ℕ) (s : LowState) (v w : List ℕ) (k : ℕ) (t : LowState) : Type 0 where
  pub i : ℕ
  pub j : ℕ
  pub si : ℕ
  pub sj : ℕ
  pub x : Value
  pub y : Value
  pub owns : OwnsAll n s t (own_values 2 i j si sj x y true)
  pub place : Place v w k (suc i) j si sj true

-- or it doesn't
pub record Trying (n : ℕ) (s : LowState) (v w : List ℕ) (k : ℕ) (t : LowState) : Type 0 where
  pub i : ℕ
  pub j : ℕ
  pub si : ℕ
  pub sj : ℕ
  pub x : Value
  pub y : Value
  pub owns : OwnsAll n s t (own_values 2 i j si sj x y false)
  pub place : Place v w (suc k) i j si sj false

module _ (pages fuel : ℕ) (s : LowState) (a ca b cb n : ℕ) (v w : List ℕ) (text : HoldsText s a ca v) (pattern : HoldsText s b cb w) (low_a : a < n) (low_ca : ca < n) (low_b : b < n) (low_cb : cb < n)
    (room : n + 8 ≤ length s.locals) where
  abbrev Here : ℕ → LowState → Type 0
  Here k t = Searched n s v w k t

  abbrev Skimmed : ℕ → LowState → Type 0
  Skimmed k t = Passing n s v w k t ⊎ Trying n s v w k t

  stopped_ends : (k i j si sj : ℕ) (x y : Value) (t : LowState) → OwnsAll n s t (own_values 2 i j si sj x y true) → Place v w (suc k) i j si sj true → length v ≤ i → Ends 2 (Skimmed k) Never NoCode (meaning pages fuel (assign (n + 7) (i32 0)) t)
  stopped_ends k i j si sj x y t owns place all =
      assign_ends (Skimmed k) Never NoCode pages fuel (n + 7) (i32 0) (Number 0) t refl (owns_room n s t (own_values 2 i j si sj x y true) 7 owns room (omega arith))
      (inr (record {
        i = i;
        j = j;
        si = si;
        sj = sj;
        x = x;
        y = y;
        owns = owns_set n s t (own_values 2 i j si sj x y true) 7 (Number 0) owns room (omega arith);
        place = place_stopped v w (suc k) i j si sj all place;
      }))

  looked : (k i j si sj c : ℕ) (x : Value) (goes : Bool) (t : LowState) → continues c ≡ goes → slice_get v i ≡ Some c → OwnsAll n s t (own_values 2 i j si sj x (Number c) true) → Place v w (suc k) i j si sj true → Skimmed k (put t (n + 7) (Number (truth goes)))
  looked k i j si sj c x true t is at owns place = inl (record {
    i = i;
    j = j;
    si = si;
    sj = sj;
    x = x;
    y = Number c;
    owns = owns_set n s t (own_values 2 i j si sj x (Number c) true) 7 (Number 1) owns room (omega arith);
    place = place_passed v w k i j si sj c at is place;
  })
  looked k i j si sj c x false t is at owns place = inr (record {
    i = i;
    j = j;
    si = si;
    sj = sj;
    x = x;
    y = Number c;
    owns = owns_set n s t (own_values 2 i j si sj x (Number c) true) 7 (Number 0) owns room (omega arith);
    place = place_begun v w (suc k) i j si sj c at is place;
  })

  look_ends : (k i j si sj : ℕ) (x y : Value) (t : LowState) → OwnsAll n s t (own_values 2 i j si sj x y true) → Place v w (suc k) i j si sj true → i < length v → Ends 11 (Skimmed k) Never NoCode (meaning pages fuel (look_block a n) t)
  look_ends k i j si sj x y t owns place before =
      let c = found-in v i before in
      let held : HoldsText t a ca v = text_kept n s t a ca v owns.kept low_a low_ca text in
      let t1 : LowState = put t (n + 6) (Number c.0) in
      let owns1 : OwnsAll n s t1 (own_values 2 i j si sj x (Number c.0) true) = owns_set n s t (own_values 2 i j si sj x y true) 6 (Number c.0) owns room (omega arith) in
      load_then (Skimmed k) Never NoCode pages fuel t 6 (assign (n + 7) (relop I32 Eq (first_bits (n + 6)) (i32 2))) (n + 6) (From8 I32 Unsigned) 0 (advance (local a) (local (n + 1)))
      held.part (held.offset + i) (held.offset + i) (Number c.0) (Number c.0) (octet_at t a ca (n + 1) i c.0 v held (owns.each 1 (Number i) refl) c.1) (omega arith) (held.lies.each i c.0 c.1) refl
      (owns_room n s t (own_values 2 i j si sj x y true) 6 owns room (omega arith))
      (assign_ends (Skimmed k) Never NoCode pages fuel (n + 7) (relop I32 Eq (first_bits (n + 6)) (i32 2)) (Number (truth (continues c.0))) t1 (rw (owns1.each 6 (Number c.0) refl) refl)
      (owns_room n s t1 (own_values 2 i j si sj x (Number c.0) true) 7 owns1 room (omega arith)) (looked k i j si sj c.0 x (continues c.0) t1 refl c.1 owns1 place))

  within_ends : (k i j si sj : ℕ) (x y : Value) (t : LowState) → OwnsAll n s t (own_values 2 i j si sj x y true) → Place v w (suc k) i j si sj true → Ends 15 (Skimmed k) Never NoCode (meaning pages fuel (within_block a ca n) t)
  within_ends k i j si sj x y t owns place =
      let held : HoldsText t a ca v = text_kept n s t a ca v owns.kept low_a low_ca text in
      conditional_ends (Skimmed k) Never NoCode pages fuel 11 (same (n + 1) ca) (assign (n + 7) (i32 0)) (look_block a n) t
      (⊎_elim
      (λ (all : i ≡ length v). inl (
        inl (0, rw (owns.each 1 (Number i) refl, held.is_long, eq-eqb i (length v) all) refl),
        Ends-more (Skimmed k) Never NoCode 2 11 (meaning pages fuel (assign (n + 7) (i32 0)) t) (omega arith) (stopped_ends k i j si sj x y t owns place (omega (arith, all))),
      ))
      (λ other. inr (
        rw (owns.each 1 (Number i) refl, held.is_long, ne_eqb i (length v) other) refl,
        look_ends k i j si sj x y t owns place (omega (arith, place.in_v, other)),
      ))
      (cases_eq i (length v)))

  skim_ends : (k i j si sj : ℕ) (x y : Value) (within : Bool) (t : LowState) → OwnsAll n s t (own_values 2 i j si sj x y within) → Place v w (suc k) i j si sj within → Ends 17 (Skimmed k) Never NoCode (meaning pages fuel (skim_block a ca n) t)
  skim_ends k i j si sj x y true t owns place =
      conditional_ends (Skimmed k) Never NoCode pages fuel 15 (local (n + 7)) (within_block a ca n) skip t (inl (inl (0, owns.each 7 (Number 1) refl), within_ends k i j si sj x y t owns place))
  skim_ends k i j si sj x y false t owns place =
      conditional_ends (Skimmed k) Never NoCode pages fuel 15 (local (n + 7)) (within_block a ca n) skip t
      (inr (owns.each 7 (Number 0) refl, (omega arith, inr (record { i = i; j = j; si = si; sj = sj; x = x; y = y; owns = owns; place = place }))))

  goes_ends : (k : ℕ) (t : LowState) → Skimmed k t → Ends 48 (Here k) Never NoCode (meaning pages fuel (conditional (local (n + 7)) (next (n + 1)) (step_block a ca b cb n)) t)
  goes_ends k t (inl now) =
      let sum : (now.i + 1) % 2 ^ 32 ≡ suc now.i = omega (arith, now.place.in_v, text.short) in
      conditional_ends (Here k) Never NoCode pages fuel 46 (local (n + 7)) (next (n + 1)) (step_block a ca b cb n) t
      (inl (
        inl (0, now.owns.each 7 (Number 1) refl),
        Ends-more (Here k) Never NoCode 4 46 (meaning pages fuel (next (n + 1)) t) (omega arith)
            (assign_ends (Here k) Never NoCode pages fuel (n + 1) (one_more (n + 1)) (Number (suc now.i)) t (rw (now.owns.each 1 (Number now.i) refl, sum) refl)
            (owns_room n s t (own_values 2 now.i now.j now.si now.sj now.x now.y true) 1 now.owns room (omega arith))
            (inl (record {
              i = suc now.i;
              j = now.j;
              si = now.si;
              sj = now.sj;
              x = now.x;
              y = now.y;
              within = true;
              owns = owns_set n s t (own_values 2 now.i now.j now.si now.sj now.x now.y true) 1 (Number (suc now.i)) now.owns room (omega arith);
              place = now.place;
            }))),
      ))
  goes_ends k t (inr now) =
      conditional_ends (Here k) Never NoCode pages fuel 46 (local (n + 7)) (next (n + 1)) (step_block a ca b cb n) t
      (inr (now.owns.each 7 (Number 0) refl, step_ends pages fuel s a ca b cb n v w text pattern low_a low_ca low_b low_cb room k now.i now.j now.si now.sj now.x now.y t now.owns now.place))

  turn_ends : (k : ℕ) (t : LowState) → Going n s v w (suc k) t → Ends 65 (Here k) Never NoCode (meaning pages fuel (turn_block a ca b cb n) t)
  turn_ends k t now =
      Ends-then (Here k) Never NoCode 17 48 (Skimmed k) (meaning pages fuel (skim_block a ca n) t) (meaning pages fuel (conditional (local (n + 7)) (next (n + 1)) (step_block a ca b cb n)))
      (skim_ends k now.i now.j now.si now.sj now.x now.y now.within t now.owns now.place)
      (λ u it. goes_ends k u it)

  turn : (k : ℕ) (t : LowState) → Here k t → ((value t (is_octet n 2) ≡ Some (Number 0)) × Done n s v w t) ⊎ (IsSet (value t (is_octet n 2)) × (j : ℕ) × (j < k) × Ends 65 (Here j) Never NoCode (meaning pages fuel (turn_block a ca b cb n) t))
  turn zero t (inl now) = absurd (place_some v w 0 now.i now.j now.si now.sj now.within now.place)
  turn (suc k) t (inl now) =
      inr (inl (0, rw (owns_first n s t (own_values 2 now.i now.j now.si now.sj now.x now.y now.within) (Number 2) now.owns refl) refl), k, omega arith, turn_ends k t now)
  turn k t (inr now) = inl (rw (now.told) (ap (λ z. Some (Number z)) (told_stops (fits_pattern w v))), now)

  begin_ends : Ends 12 (Here (pairs v w)) Never NoCode (meaning pages fuel (begin_block n) s)
  begin_ends =
      let all : ℕ = pairs v w in
      let o : OwnsEight n s s = owns_eight n s s (Kept-same n s) room in
      let h1 : List Value = Number 2 ∷ o.b ∷ o.c ∷ o.d ∷ o.e ∷ o.f ∷ o.g ∷ o.h ∷ [] in
      let h2 : List Value = Number 2 ∷ Number 0 ∷ o.c ∷ o.d ∷ o.e ∷ o.f ∷ o.g ∷ o.h ∷ [] in
      let h3 : List Value = Number 2 ∷ Number 0 ∷ Number 0 ∷ o.d ∷ o.e ∷ o.f ∷ o.g ∷ o.h ∷ [] in
      let h4 : List Value = Number 2 ∷ Number 0 ∷ Number 0 ∷ Number 0 ∷ o.e ∷ o.f ∷ o.g ∷ o.h ∷ [] in
      let h5 : List Value = Number 2 ∷ Number 0 ∷ Number 0 ∷ Number 0 ∷ Number 0 ∷ o.f ∷ o.g ∷ o.h ∷ [] in
      let t1 : LowState = put s n (Number 2) in
      let owns1 : OwnsAll n s t1 h1 = owns_set_first n s s (o.a ∷ o.b ∷ o.c ∷ o.d ∷ o.e ∷ o.f ∷ o.g ∷ o.h ∷ []) (Number 2) o.owns room (omega arith) in
      let t2 : LowState = put t1 (n + 1) (Number 0) in
      let owns2 : OwnsAll n s t2 h2 = owns_set n s t1 h1 1 (Number 0) owns1 room (omega arith) in
      let t3 : LowState = put t2 (n + 2) (Number 0) in
      let owns3 : OwnsAll n s t3 h3 = owns_set n s t2 h2 2 (Number 0) owns2 room (omega arith) in
      let t4 : LowState = put t3 (n + 3) (Number 0) in
      let owns4 : OwnsAll n s t4 h4 = owns_set n s t3 h3 3 (Number 0) owns3 room (omega arith) in
      let t5 : LowState = put t4 (n + 4) (Number 0) in
      let owns5 : OwnsAll n s t5 h5 = owns_set n s t4 h4 4 (Number 0) owns4 room (omega arith) in
      assign_then (Here all) Never NoCode pages fuel s 10 (seq (assign (n + 1) (i32 0)) (seq (assign (n + 2) (i32 0)) (seq (assign (n + 3) (i32 0)) (seq (assign (n + 4) (i32 0)) (assign (n + 7) (i32 0)))))) n (i32 2) (Number 2) refl (omega (arith, room))
      (assign_then (Here all) Never NoCode pages fuel t1 8 (seq (assign (n + 2) (i32 0)) (seq (assign (n + 3) (i32 0)) (seq (assign (n + 4) (i32 0)) (assign (n + 7) (i32 0))))) (n + 1) (i32 0) (Number 0) refl (owns_room n s t1 h1 1 owns1 room (omega arith))
      (assign_then (Here all) Never NoCode pages fuel t2 6 (seq (assign (n + 3) (i32 0)) (seq (assign (n + 4) (i32 0)) (assign (n + 7) (i32 0)))) (n + 2) (i32 0) (Number 0) refl (owns_room n s t2 h2 2 owns2 room (omega arith))
      (assign_then (Here all) Never NoCode pages fuel t3 4 (seq (assign (n + 4) (i32 0)) (assign (n + 7) (i32 0))) (n + 3) (i32 0) (Number 0) refl (owns_room n s t3 h3 3 owns3 room (omega arith))
      (assign_then (Here all) Never NoCode pages fuel t4 2 (assign (n + 7) (i32 0)) (n + 4) (i32 0) (Number 0) refl (owns_room n s t4 h4 4 owns4 room (omega arith))
      (assign_ends (Here all) Never NoCode pages fuel (n + 7) (i32 0) (Number 0) t5 refl (owns_room n s t5 h5 7 owns5 room (omega arith))
      (inl (record {
        i = 0;
        j = 0;
        si = 0;
        sj = 0;
        x = o.f;
        y = o.g;
        within = false;
        owns = owns_set n s t5 h5 7 (Number 0) owns5 room (omega arith);
        place = place_start v w;
      })))))))

  like_ends : pairs v w < fuel → Ends (12 + (pairs v w * 70 + 4)) (λ t. Kept n s t × SaysLike n v w t) Never NoCode (meaning pages fuel (like_block a ca b cb n) s)
  like_ends more =
      let all : ℕ = pairs v w in
      Ends-weaker (12 + (all * 70 + 4)) (12 + (all * 70 + 4)) (Done n s v w) (λ t. Kept n s t × SaysLike n v w t) Never Never NoCode NoCode (meaning pages fuel (like_block a ca b cb n) s) (omega arith)
      (λ t now. (now.kept, now.told)) (λ t x. x) (λ code r. r)
      (Ends-then (Done n s v w) Never NoCode 12 (all * 70 + 4) (Here all) (meaning pages fuel (begin_block n) s) (meaning pages fuel (while (is_octet n 2) (turn_block a ca b cb n)))
      begin_ends
      (λ u now. turns_end 65 Here (Done n s v w) Never NoCode (is_octet n 2) (meaning pages fuel (turn_block a ca b cb n)) turn fuel all u more now))

-- ---- types
module _ (types : List ValType) (a ca b cb n : ℕ) (is_a : slice_get types a ≡ Some I32) (is_ca : slice_get types ca ≡ Some I32) (is_b : slice_get types b ≡ Some I32) (is_cb : slice_get types cb ≡ Some I32)
    (is_n : slice_get types n ≡ Some I32) (is_i : slice_get types (n + 1) ≡ Some I32) (is_j : slice_get types (n + 2) ≡ Some I32) (is_si : slice_get types (n + 3) ≡ Some I32)
    (is_sj : slice_get types (n + 4) ≡ Some I32) (is_x : slice_get types (n + 5) ≡ Some I32) (is_y : slice_get types (n + 6) ≡ Some I32) (is_m : slice_get types (n + 7) ≡ Some I32) where
  next_typed : (x : ℕ) → slice_get types x ≡ Some I32 → IsTyped types (next x)
  next_typed x is = (I32, is, (is, (omega arith, refl), refl))

  retry_typed : IsTyped types (retry_block n)
  retry_typed = (is_sj, (next_typed (n + 3) is_si, ((I32, is_i, is_si), (I32, is_j, is_sj))), (I32, is_n, (omega arith, refl)))

  skim_typed : IsTyped types (skim_block a ca n)
  skim_typed = (
    is_m,
    (
      (is_i, is_ca, refl),
      (I32, is_m, (omega arith, refl)),
      ((is_y, (is_a, is_i, refl)), (I32, is_m, ((is_y, (omega arith, refl), refl), (omega arith, refl), refl))),
    ),
    tt,
  )

  step_typed : IsTyped types (step_block a ca b cb n)
  step_typed = (
    (is_j, is_cb, refl),
    ((is_i, is_ca, refl), (I32, is_n, (omega arith, refl)), ((is_sj, is_j, refl), (I32, is_n, (is_j, (omega arith, refl), refl)), retry_typed)),
    (
      (is_x, (is_b, is_j, refl)),
      (
        (is_x, (omega arith, refl), refl),
        (next_typed (n + 2) is_j, ((I32, is_sj, is_j), (I32, is_si, is_i))),
        (
          (is_i, is_ca, refl),
          (I32, is_n, (omega arith, refl)),
          (
            (is_y, (is_a, is_i, refl)),
            (
              (
                (is_x, (omega arith, refl), refl),
                ((I32, is_m, ((is_y, (omega arith, refl), refl), (omega arith, refl), refl)), (I32, is_y, is_m)),
                (I32, is_y, (is_x, is_y, refl)),
              ),
              (is_y, (next_typed (n + 1) is_i, next_typed (n + 2) is_j), retry_typed),
            ),
          ),
        ),
      ),
    ),
  )

  like_typed : IsTyped types (like_block a ca b cb n)
  like_typed = (
    ((I32, is_n, (omega arith, refl)), ((I32, is_i, (omega arith, refl)), ((I32, is_j, (omega arith, refl)), ((I32, is_si, (omega arith, refl)), ((I32, is_sj, (omega arith, refl)), (I32, is_m, (omega arith, refl))))))),
    ((is_n, (omega arith, refl), refl), (skim_typed, (is_m, next_typed (n + 1) is_i, step_typed))),
  )

-- ---- the block
module _ (text pattern : Cell) (n : ℕ) (low_a : text.value < n) (low_ca : text.length < n) (low_b : pattern.value < n) (low_cb : pattern.length < n) where
  pub like_likes : Likes n text pattern n (like_block text.value text.length pattern.value pattern.length n)
  like_likes = record {
    runs = λ pages fuel more s v w units enough held_text held_pattern room.
        let bound : 12 + (pairs v w * 70 + 4) ≤ 142 * more = omega (arith, units) in
        Ends-more (λ t. Kept n s t × SaysLike n v w t) Never NoCode (12 + (pairs v w * 70 + 4)) (142 * more) (meaning pages fuel (like_block text.value text.length pattern.value pattern.length n) s) bound
        (like_ends pages fuel s text.value text.length pattern.value pattern.length n v w held_text held_pattern low_a low_ca low_b low_cb room (omega (arith, units, enough)));
    typed = λ types is_text is_pattern own.
        let first : n + 0 ≡ n = omega arith in
        like_typed types text.value text.length pattern.value pattern.length n is_text.0 is_text.1 is_pattern.0 is_pattern.1
        (subst (λ k. slice_get types k ≡ Some I32) first (own 0 I32 refl)) (own 1 I32 refl) (own 2 I32 refl) (own 3 I32 refl) (own 4 I32 refl) (own 5 I32 refl) (own 6 I32 refl) (own 7 I32 refl);
    short = omega arith;
  }
