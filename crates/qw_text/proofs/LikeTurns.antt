-- What the parts of a turn come to, where a text is matched with a pattern.
use Rattle.std.proofs.Common.{◌≡◌, ◌≢◌, ℕ, zero, suc, ◌+◌, ◌%◌, ◌^◌, ◌<◌, ◌≤◌, ◌==◌, ◌⊎◌, inl, inr, Bool, true, false, not, List, [], ◌∷◌, length, drop, Some, slice_get, refl, sym, ap, ◌∙◌, subst, ⊎_elim, arith}
use Rattle.std.proofs.lemmas.Bool.{cases_eq, eq-eqb, ne_eqb}
use Rattle.std.proofs.lemmas.List.{drop_all}
use Rattle.std.proofs.lemmas.Option.{slice_get_within}
use Rattle.qw_map.proofs.TurnFacts.{found-in}
use Rattle.qw_module.specs.declared.instruction.ValType.TheVariants.{I32}
use Rattle.qw_module.specs.declared.instruction.Sign.TheVariants.{Unsigned}
use Rattle.qw_module.specs.declared.instruction.Relation.TheVariants.{Ne}
use Rattle.qw_module.specs.declared.instruction.Load.TheVariants.{From8}
use Rattle.qw_module.specs.Numbers.{truth}
use Rattle.qw_low.specs.Syntax.{Expression, local, relop, advance, seq, assign, conditional}
use Rattle.qw_low.specs.State.{Value, Number, LowState}
use Rattle.qw_low.specs.Meaning.{value, cost, meaning}
use Rattle.qw_low.specs.Promise.{Ends}
use Rattle.qw_low.specs.Raising.{Kept}
use Rattle.qw_low.specs.Held.{HoldsText}
use Rattle.qw_low.proofs.Promises.{Ends-more, Ends-then, assign_ends, conditional_ends}
use Rattle.qw_low.proofs.BlockSteps.{assign_then, load_then}
use Rattle.qw_types.specs.Like.{continues, takes, fits_pattern}
use Rattle.qw_text.specs.Inner.Blocks.{i32}
use Rattle.qw_text.specs.Inner.LikeBlocks.{same, is_octet, one_more, next, first_bits, again_block, retry_block, is_some, rest_block, end_block, star_block, any_block, taken_block, on_block, take_block, other_block, octet_block, step_block}
use Rattle.qw_types.proofs.LikeSeeking.{Seeks, seek_dead, seek_done}
use Rattle.qw_text.proofs.OwnLocals.{put, text_kept}
use Rattle.qw_text.proofs.WalkEnds.{Never, NoCode, octet_at}
use Rattle.qw_text.proofs.LikeCounts.{reserve}
use Rattle.qw_text.proofs.LikeOwned.{OwnsAll, owns_room, owns_set, owns_first, owns_set_first}
use Rattle.qw_text.proofs.LikeSearch.{here_is, later_of, later_turns, Place, left_over, place_star, place_taken, place_refused, place_ended, place_again, rest_fits}

abbrev pub own_values : (out i j si sj : ℕ) (x y : Value) (within : Bool) → List Value
own_values out i j si sj x y within = Number out ∷ Number i ∷ Number j ∷ Number si ∷ Number sj ∷ x ∷ y ∷ Number (truth within) ∷ []

pub record Going (n : ℕ) (s : LowState) (v w : List ℕ) (k : ℕ) (t : LowState) : Type 0 where
  pub i : ℕ
  pub j : ℕ
  pub si : ℕ
  pub sj : ℕ
  pub x : Value
  pub y : Value
  pub within : Bool
  pub owns : OwnsAll n s t (own_values 2 i j si sj x y within)
  pub place : Place v w k i j si sj within

pub record Done (n : ℕ) (s : LowState) (v w : List ℕ) (t : LowState) : Type 0 where
  pub kept : Kept n s t
  pub told : slice_get t.locals n ≡ Some (Number (truth (fits_pattern w v)))

abbrev pub Searched : (n : ℕ) (s : LowState) (v w : List ℕ) (k : ℕ) → LowState → Type 0
Searched n s v w k t = Going n s v w k t ⊎ Done n s v w t

-- a `%` that ends the pattern takes the rest of the text
rest_tells : (v w : List ℕ) (j si sj : ℕ) → length w ≤ j → si < length v → sj ≡ j → fits_pattern w v ≡ later_of v w si sj → truth (not (j == 0)) ≡ truth (fits_pattern w v)
rest_tells v w zero si sj all before star is = ap truth (sym (is ∙ ap (later_of v w si) star))
rest_tells v w (suc q) si sj all before star is =
    rw (ne_eqb (suc q) 0 (λ e. omega (arith, e)), rest_fits v w q si all before (is ∙ ap (later_of v w si) star)) refl

module _ (pages fuel : ℕ) (s : LowState) (a ca b cb n : ℕ) (v w : List ℕ) (text : HoldsText s a ca v) (pattern : HoldsText s b cb w) (low_a : a < n) (low_ca : ca < n) (low_b : b < n) (low_cb : cb < n)
    (room : n + 8 ≤ length s.locals) where
  abbrev State : ℕ → LowState → Type 0
  State k t = Searched n s v w k t

  -- the answer is known
  tell_ends : (k : ℕ) (e : Expression) (r : ℕ) (i j si sj : ℕ) (x y : Value) (t : LowState) → OwnsAll n s t (own_values 2 i j si sj x y false) → value t e ≡ Some (Number r) → r ≡ truth (fits_pattern w v) →
      Ends (cost e + 1) (State k) Never NoCode (meaning pages fuel (assign n e) t)
  tell_ends k e r i j si sj x y t owns found is =
      assign_ends (State k) Never NoCode pages fuel n e (Number r) t found (omega (arith, room, owns.kept.many))
      (let after = owns_set_first n s t (own_values 2 i j si sj x y false) (Number r) owns room (omega arith) in
      inr (record { kept = after.kept; told = owns_first n s (put t n (Number r)) (own_values r i j si sj x y false) (Number r) after refl ∙ ap (λ z. Some (Number z)) is }))

  -- what was tried last failed
  retry_ends : (k i j si sj : ℕ) (x y : Value) (t : LowState) → OwnsAll n s t (own_values 2 i j si sj x y false) → i < length v → si ≤ i → sj ≤ length w → fits_pattern w v ≡ later_of v w si sj →
      later_turns v w si sj + reserve (suc (length v)) (drop sj w) ≤ k → Ends 10 (State k) Never NoCode (meaning pages fuel (retry_block n) t)
  retry_ends k i j si zero x y t owns before order star_in is enough =
      conditional_ends (State k) Never NoCode pages fuel 8 (local (n + 4)) (again_block n) (assign n (i32 0)) t
      (inr (owns.each 4 (Number 0) refl, Ends-more (State k) Never NoCode 2 8 (meaning pages fuel (assign n (i32 0)) t) (omega arith) (tell_ends k (i32 0) 0 i j si 0 x y t owns refl (ap truth (sym is)))))
  retry_ends k i j si (suc q) x y t owns before order star_in is enough =
      let short : suc si < 2 ^ 32 = omega (arith, before, order, text.short) in
      let sum : (si + 1) % 2 ^ 32 ≡ suc si = omega (arith, short) in
      let t1 : LowState = put t (n + 3) (Number (suc si)) in
      let owns1 : OwnsAll n s t1 (own_values 2 i j (suc si) (suc q) x y false) = owns_set n s t (own_values 2 i j si (suc q) x y false) 3 (Number (suc si)) owns room (omega arith) in
      let t2 : LowState = put t1 (n + 1) (Number (suc si)) in
      let owns2 : OwnsAll n s t2 (own_values 2 (suc si) j (suc si) (suc q) x y false) = owns_set n s t1 (own_values 2 i j (suc si) (suc q) x y false) 1 (Number (suc si)) owns1 room (omega arith) in
      let owns3 : OwnsAll n s (put t2 (n + 2) (Number (suc q))) (own_values 2 (suc si) (suc q) (suc si) (suc q) x y false) =
      owns_set n s t2 (own_values 2 (suc si) j (suc si) (suc q) x y false) 2 (Number (suc q)) owns2 room (omega arith) in
      conditional_ends (State k) Never NoCode pages fuel 8 (local (n + 4)) (again_block n) (assign n (i32 0)) t
      (inl (
        inl (q, owns.each 4 (Number (suc q)) refl),
        assign_then (State k) Never NoCode pages fuel t 4 (seq (assign (n + 1) (local (n + 3))) (assign (n + 2) (local (n + 4)))) (n + 3) (one_more (n + 3)) (Number (suc si)) (rw (owns.each 3 (Number si) refl, sum) refl)
            (owns_room n s t (own_values 2 i j si (suc q) x y false) 3 owns room (omega arith))
            (assign_then (State k) Never NoCode pages fuel t1 2 (assign (n + 2) (local (n + 4))) (n + 1) (local (n + 3)) (Number (suc si)) (owns1.each 3 (Number (suc si)) refl)
            (owns_room n s t1 (own_values 2 i j (suc si) (suc q) x y false) 1 owns1 room (omega arith))
            (assign_ends (State k) Never NoCode pages fuel (n + 2) (local (n + 4)) (Number (suc q)) t2 (owns2.each 4 (Number (suc q)) refl)
            (owns_room n s t2 (own_values 2 (suc si) j (suc si) (suc q) x y false) 2 owns2 room (omega arith))
            (inl (record {
              i = suc si;
              j = suc q;
              si = suc si;
              sj = suc q;
              x = x;
              y = y;
              within = false;
              owns = owns3;
              place = place_again v w k si q (omega (arith, before, order)) star_in is enough;
            })))),
      ))

  -- the pattern is at its end, the text isn't
  rest_ends : (k i j si sj : ℕ) (x y : Value) (t : LowState) → OwnsAll n s t (own_values 2 i j si sj x y false) → Place v w (suc k) i j si sj false → length w ≤ j → i < length v → Ends 14 (State k) Never NoCode (meaning pages fuel (rest_block n) t)
  rest_ends k i j si sj x y t owns place all before =
      let is : fits_pattern w v ≡ later_of v w si sj = place_ended v w k i j si sj all before place in
      conditional_ends (State k) Never NoCode pages fuel 10 (same (n + 4) (n + 2)) (assign n (is_some (n + 2))) (retry_block n) t
      (⊎_elim
      (λ (star : sj ≡ j). inl (
        inl (0, rw (owns.each 4 (Number sj) refl, owns.each 2 (Number j) refl, eq-eqb sj j star) refl),
        Ends-more (State k) Never NoCode 4 10 (meaning pages fuel (assign n (is_some (n + 2))) t) (omega arith)
            (tell_ends k (is_some (n + 2)) (truth (not (j == 0))) i j si sj x y t owns (rw (owns.each 2 (Number j) refl) refl) (rest_tells v w j si sj all (omega (arith, before, place.order)) star is)),
      ))
      (λ other. inr (
        rw (owns.each 4 (Number sj) refl, owns.each 2 (Number j) refl, ne_eqb sj j other) refl,
        retry_ends k i j si sj x y t owns before place.order place.star_in is (left_over v w k i j si sj place),
      ))
      (cases_eq sj j))

  end_ends : (k i j si sj : ℕ) (x y : Value) (t : LowState) → OwnsAll n s t (own_values 2 i j si sj x y false) → Place v w (suc k) i j si sj false → length w ≤ j → Ends 18 (State k) Never NoCode (meaning pages fuel (end_block ca n) t)
  end_ends k i j si sj x y t owns place all_w =
      let held : HoldsText t a ca v = text_kept n s t a ca v owns.kept low_a low_ca text in
      conditional_ends (State k) Never NoCode pages fuel 14 (same (n + 1) ca) (assign n (i32 1)) (rest_block n) t
      (⊎_elim
      (λ (all : i ≡ length v).
      let now : Seeks (fits_pattern w v) (later_of v w si sj) [] [] =
      subst (λ z. Seeks (fits_pattern w v) (later_of v w si sj) z []) (drop_all j w all_w) (subst (λ z. Seeks (fits_pattern w v) (later_of v w si sj) (drop j w) z) (drop_all i v (omega (arith, all))) place.seeks) in
      inl (
        inl (0, rw (owns.each 1 (Number i) refl, held.is_long, eq-eqb i (length v) all) refl),
        Ends-more (State k) Never NoCode 2 14 (meaning pages fuel (assign n (i32 1)) t) (omega arith)
            (tell_ends k (i32 1) 1 i j si sj x y t owns refl (ap truth (sym (seek_done (fits_pattern w v) (later_of v w si sj) now)))),
      ))
      (λ other. inr (
        rw (owns.each 1 (Number i) refl, held.is_long, ne_eqb i (length v) other) refl,
        rest_ends k i j si sj x y t owns place all_w (omega (arith, place.in_v, other)),
      ))
      (cases_eq i (length v)))

  star_ends : (k i j si sj : ℕ) (x y : Value) (t : LowState) → OwnsAll n s t (own_values 2 i j si sj x y false) → Place v w (suc k) i j si sj false → j < length w → drop j w ≡ 37 ∷ drop (suc j) w →
      Ends 8 (State k) Never NoCode (meaning pages fuel (star_block n) t)
  star_ends k i j si sj x y t owns place before is =
      let sum : (j + 1) % 2 ^ 32 ≡ suc j = omega (arith, before, pattern.short) in
      let t1 : LowState = put t (n + 2) (Number (suc j)) in
      let owns1 : OwnsAll n s t1 (own_values 2 i (suc j) si sj x y false) = owns_set n s t (own_values 2 i j si sj x y false) 2 (Number (suc j)) owns room (omega arith) in
      let t2 : LowState = put t1 (n + 4) (Number (suc j)) in
      let owns2 : OwnsAll n s t2 (own_values 2 i (suc j) si (suc j) x y false) = owns_set n s t1 (own_values 2 i (suc j) si sj x y false) 4 (Number (suc j)) owns1 room (omega arith) in
      let owns3 : OwnsAll n s (put t2 (n + 3) (Number i)) (own_values 2 i (suc j) i (suc j) x y false) = owns_set n s t2 (own_values 2 i (suc j) si (suc j) x y false) 3 (Number i) owns2 room (omega arith) in
      assign_then (State k) Never NoCode pages fuel t 4 (seq (assign (n + 4) (local (n + 2))) (assign (n + 3) (local (n + 1)))) (n + 2) (one_more (n + 2)) (Number (suc j)) (rw (owns.each 2 (Number j) refl, sum) refl)
      (owns_room n s t (own_values 2 i j si sj x y false) 2 owns room (omega arith))
      (assign_then (State k) Never NoCode pages fuel t1 2 (assign (n + 3) (local (n + 1))) (n + 4) (local (n + 2)) (Number (suc j)) (owns1.each 2 (Number (suc j)) refl)
      (owns_room n s t1 (own_values 2 i (suc j) si sj x y false) 4 owns1 room (omega arith))
      (assign_ends (State k) Never NoCode pages fuel (n + 3) (local (n + 1)) (Number i) t2 (owns2.each 1 (Number i) refl)
      (owns_room n s t2 (own_values 2 i (suc j) si (suc j) x y false) 3 owns2 room (omega arith))
      (inl (record { i = i; j = suc j; si = i; sj = suc j; x = x; y = y; within = false; owns = owns3; place = place_star v w k i j si sj is before place }))))

  -- whether the octet is taken
  module _ (i j si sj p c : ℕ) where
    abbrev Told : LowState → Type 0
    Told t = (OwnsAll n s t (own_values 2 i j si sj (Number p) (Number 1) (p == 95)) × (takes p c ≡ true)) ⊎ (OwnsAll n s t (own_values 2 i j si sj (Number p) (Number 0) false) × (takes p c ≡ false))

    -- by a `_`: one that begins a character
    abbrev Begins : Bool → LowState → Type 0
    Begins begins t = OwnsAll n s t (own_values 2 i j si sj (Number p) (Number c) begins)

    copied_ends : (begins : Bool) (t : LowState) → p ≡ 95 → not (continues c) ≡ begins → Begins begins t → Ends 2 Told Never NoCode (meaning pages fuel (assign (n + 6) (local (n + 7))) t)
    copied_ends true t one is owns =
        assign_ends Told Never NoCode pages fuel (n + 6) (local (n + 7)) (Number 1) t (owns.each 7 (Number 1) refl) (owns_room n s t (own_values 2 i j si sj (Number p) (Number c) true) 6 owns room (omega arith))
        (inl (
          subst (λ z. OwnsAll n s (put t (n + 6) (Number 1)) (own_values 2 i j si sj (Number p) (Number 1) z)) (sym (eq-eqb p 95 one)) (owns_set n s t (own_values 2 i j si sj (Number p) (Number c) true) 6 (Number 1) owns room (omega arith)),
          rw (eq-eqb p 95 one) is,
        ))
    copied_ends false t one is owns =
        assign_ends Told Never NoCode pages fuel (n + 6) (local (n + 7)) (Number 0) t (owns.each 7 (Number 0) refl) (owns_room n s t (own_values 2 i j si sj (Number p) (Number c) false) 6 owns room (omega arith))
        (inr (owns_set n s t (own_values 2 i j si sj (Number p) (Number c) false) 6 (Number 0) owns room (omega arith), rw (eq-eqb p 95 one) is))

    any_ends : (begins : Bool) (t : LowState) → p ≡ 95 → not (continues c) ≡ begins → Begins false t → Ends 8 Told Never NoCode (meaning pages fuel (any_block n) t)
    any_ends begins t one is owns =
        assign_then Told Never NoCode pages fuel t 2 (assign (n + 6) (local (n + 7))) (n + 7) (relop I32 Ne (first_bits (n + 6)) (i32 2)) (Number (truth begins)) (rw (owns.each 6 (Number c) refl) (ap (λ z. Some (Number (truth z))) is))
        (owns_room n s t (own_values 2 i j si sj (Number p) (Number c) false) 7 owns room (omega arith))
        (copied_ends begins (put t (n + 7) (Number (truth begins))) one is (owns_set n s t (own_values 2 i j si sj (Number p) (Number c) false) 7 (Number (truth begins)) owns room (omega arith)))

    -- by another octet: the same
    same_told : (r : Bool) (t : LowState) → p ≢ 95 → (p == c) ≡ r → Begins false t → Told (put t (n + 6) (Number (truth r)))
    same_told true t apart is owns = inl (
      subst (λ z. OwnsAll n s (put t (n + 6) (Number 1)) (own_values 2 i j si sj (Number p) (Number 1) z)) (sym (ne_eqb p 95 apart)) (owns_set n s t (own_values 2 i j si sj (Number p) (Number c) false) 6 (Number 1) owns room (omega arith)),
      rw (ne_eqb p 95 apart) is,
    )
    same_told false t apart is owns = inr (owns_set n s t (own_values 2 i j si sj (Number p) (Number c) false) 6 (Number 0) owns room (omega arith), rw (ne_eqb p 95 apart) is)

    taken_ends : (t : LowState) → Begins false t → Ends 12 Told Never NoCode (meaning pages fuel (taken_block n) t)
    taken_ends t owns =
        conditional_ends Told Never NoCode pages fuel 8 (is_octet (n + 5) 95) (any_block n) (assign (n + 6) (same (n + 5) (n + 6))) t
        (⊎_elim
        (λ (one : p ≡ 95). inl (inl (0, rw (owns.each 5 (Number p) refl, eq-eqb p 95 one) refl), any_ends (not (continues c)) t one refl owns))
        (λ apart. inr (
          rw (owns.each 5 (Number p) refl, ne_eqb p 95 apart) refl,
          Ends-more Told Never NoCode 4 8 (meaning pages fuel (assign (n + 6) (same (n + 5) (n + 6))) t) (omega arith)
              (assign_ends Told Never NoCode pages fuel (n + 6) (same (n + 5) (n + 6)) (Number (truth (p == c))) t (rw (owns.each 5 (Number p) refl, owns.each 6 (Number c) refl) refl)
              (owns_room n s t (own_values 2 i j si sj (Number p) (Number c) false) 6 owns room (omega arith)) (same_told (p == c) t apart refl owns)),
        ))
        (cases_eq p 95))

  -- if so, behind it; else again
  on_ends : (k i j si sj p c : ℕ) (t : LowState) → Place v w (suc k) i j si sj false → slice_get v i ≡ Some c → slice_get w j ≡ Some p → (p == 37) ≡ false → Told i j si sj p c t → Ends 12 (State k) Never NoCode (meaning pages fuel (on_block n) t)
  on_ends k i j si sj p c t place at_v at_w other (inr refused) =
      conditional_ends (State k) Never NoCode pages fuel 10 (local (n + 6)) (seq (next (n + 1)) (next (n + 2))) (retry_block n) t
      (inr (
        refused.0.each 6 (Number 0) refl,
        retry_ends k i j si sj (Number p) (Number 0) t refused.0 (slice_get_within v i c at_v) place.order place.star_in (place_refused v w k i j si sj p c at_v at_w other refused.1 place) (left_over v w k i j si sj place),
      ))
  on_ends k i j si sj p c t place at_v at_w other (inl taken) =
      let owns : OwnsAll n s t (own_values 2 i j si sj (Number p) (Number 1) (p == 95)) = taken.0 in
      let in_v : i < length v = slice_get_within v i c at_v in
      let in_w : j < length w = slice_get_within w j p at_w in
      let sum_i : (i + 1) % 2 ^ 32 ≡ suc i = omega (arith, in_v, text.short) in
      let sum_j : (j + 1) % 2 ^ 32 ≡ suc j = omega (arith, in_w, pattern.short) in
      let t1 : LowState = put t (n + 1) (Number (suc i)) in
      let owns1 : OwnsAll n s t1 (own_values 2 (suc i) j si sj (Number p) (Number 1) (p == 95)) = owns_set n s t (own_values 2 i j si sj (Number p) (Number 1) (p == 95)) 1 (Number (suc i)) owns room (omega arith) in
      conditional_ends (State k) Never NoCode pages fuel 10 (local (n + 6)) (seq (next (n + 1)) (next (n + 2))) (retry_block n) t
      (inl (
        inl (0, owns.each 6 (Number 1) refl),
        Ends-more (State k) Never NoCode 8 10 (meaning pages fuel (seq (next (n + 1)) (next (n + 2))) t) (omega arith)
            (assign_then (State k) Never NoCode pages fuel t 4 (next (n + 2)) (n + 1) (one_more (n + 1)) (Number (suc i)) (rw (owns.each 1 (Number i) refl, sum_i) refl)
            (owns_room n s t (own_values 2 i j si sj (Number p) (Number 1) (p == 95)) 1 owns room (omega arith))
            (assign_ends (State k) Never NoCode pages fuel (n + 2) (one_more (n + 2)) (Number (suc j)) t1 (rw (owns1.each 2 (Number j) refl, sum_j) refl)
            (owns_room n s t1 (own_values 2 (suc i) j si sj (Number p) (Number 1) (p == 95)) 2 owns1 room (omega arith))
            (inl (record {
              i = suc i;
              j = suc j;
              si = si;
              sj = sj;
              x = Number p;
              y = Number 1;
              within = p == 95;
              owns = owns_set n s t1 (own_values 2 (suc i) j si sj (Number p) (Number 1) (p == 95)) 2 (Number (suc j)) owns1 room (omega arith);
              place = place_taken v w k i j si sj p c at_v at_w other taken.1 place;
            })))),
      ))

  take_ends : (k i j si sj p : ℕ) (y : Value) (t : LowState) → OwnsAll n s t (own_values 2 i j si sj (Number p) y false) → Place v w (suc k) i j si sj false → i < length v → slice_get w j ≡ Some p → (p == 37) ≡ false →
      Ends 29 (State k) Never NoCode (meaning pages fuel (take_block a n) t)
  take_ends k i j si sj p y t owns place before at_w other =
      let c = found-in v i before in
      let held : HoldsText t a ca v = text_kept n s t a ca v owns.kept low_a low_ca text in
      let t1 : LowState = put t (n + 6) (Number c.0) in
      let owns1 : OwnsAll n s t1 (own_values 2 i j si sj (Number p) (Number c.0) false) = owns_set n s t (own_values 2 i j si sj (Number p) y false) 6 (Number c.0) owns room (omega arith) in
      load_then (State k) Never NoCode pages fuel t 24 (seq (taken_block n) (on_block n)) (n + 6) (From8 I32 Unsigned) 0 (advance (local a) (local (n + 1)))
      held.part (held.offset + i) (held.offset + i) (Number c.0) (Number c.0) (octet_at t a ca (n + 1) i c.0 v held (owns.each 1 (Number i) refl) c.1) (omega arith) (held.lies.each i c.0 c.1) refl
      (owns_room n s t (own_values 2 i j si sj (Number p) y false) 6 owns room (omega arith))
      (Ends-then (State k) Never NoCode 12 12 (Told i j si sj p c.0) (meaning pages fuel (taken_block n) t1) (meaning pages fuel (on_block n))
      (taken_ends i j si sj p c.0 t1 owns1)
      (λ u told. on_ends k i j si sj p c.0 u place c.1 at_w other told))

  other_ends : (k i j si sj p : ℕ) (y : Value) (t : LowState) → OwnsAll n s t (own_values 2 i j si sj (Number p) y false) → Place v w (suc k) i j si sj false → slice_get w j ≡ Some p → (p == 37) ≡ false →
      Ends 33 (State k) Never NoCode (meaning pages fuel (other_block a ca n) t)
  other_ends k i j si sj p y t owns place at_w other =
      let held : HoldsText t a ca v = text_kept n s t a ca v owns.kept low_a low_ca text in
      conditional_ends (State k) Never NoCode pages fuel 29 (same (n + 1) ca) (assign n (i32 0)) (take_block a n) t
      (⊎_elim
      (λ (all : i ≡ length v).
      let now : Seeks (fits_pattern w v) (later_of v w si sj) (p ∷ drop (suc j) w) [] =
      subst (λ z. Seeks (fits_pattern w v) (later_of v w si sj) z []) (here_is w j p at_w) (subst (λ z. Seeks (fits_pattern w v) (later_of v w si sj) (drop j w) z) (drop_all i v (omega (arith, all))) place.seeks) in
      inl (
        inl (0, rw (owns.each 1 (Number i) refl, held.is_long, eq-eqb i (length v) all) refl),
        Ends-more (State k) Never NoCode 2 29 (meaning pages fuel (assign n (i32 0)) t) (omega arith)
            (tell_ends k (i32 0) 0 i j si sj (Number p) y t owns refl (ap truth (sym (seek_dead (fits_pattern w v) (later_of v w si sj) p (drop (suc j) w) other now)))),
      ))
      (λ not_all. inr (
        rw (owns.each 1 (Number i) refl, held.is_long, ne_eqb i (length v) not_all) refl,
        take_ends k i j si sj p y t owns place (omega (arith, place.in_v, not_all)) at_w other,
      ))
      (cases_eq i (length v)))

  octet_ends : (k i j si sj : ℕ) (x y : Value) (t : LowState) → OwnsAll n s t (own_values 2 i j si sj x y false) → Place v w (suc k) i j si sj false → j < length w → Ends 42 (State k) Never NoCode (meaning pages fuel (octet_block a ca b n) t)
  octet_ends k i j si sj x y t owns place before =
      let p = found-in w j before in
      let held : HoldsText t b cb w = text_kept n s t b cb w owns.kept low_b low_cb pattern in
      let t1 : LowState = put t (n + 5) (Number p.0) in
      let owns1 : OwnsAll n s t1 (own_values 2 i j si sj (Number p.0) y false) = owns_set n s t (own_values 2 i j si sj x y false) 5 (Number p.0) owns room (omega arith) in
      load_then (State k) Never NoCode pages fuel t 37 (conditional (is_octet (n + 5) 37) (star_block n) (other_block a ca n)) (n + 5) (From8 I32 Unsigned) 0 (advance (local b) (local (n + 2)))
      held.part (held.offset + j) (held.offset + j) (Number p.0) (Number p.0) (octet_at t b cb (n + 2) j p.0 w held (owns.each 2 (Number j) refl) p.1) (omega arith) (held.lies.each j p.0 p.1) refl
      (owns_room n s t (own_values 2 i j si sj x y false) 5 owns room (omega arith))
      (conditional_ends (State k) Never NoCode pages fuel 33 (is_octet (n + 5) 37) (star_block n) (other_block a ca n) t1
      (⊎_elim
      (λ (star : p.0 ≡ 37). inl (
        inl (0, rw (owns1.each 5 (Number p.0) refl, eq-eqb p.0 37 star) refl),
        Ends-more (State k) Never NoCode 8 33 (meaning pages fuel (star_block n) t1) (omega arith)
            (star_ends k i j si sj (Number p.0) y t1 owns1 place before (here_is w j p.0 p.1 ∙ ap (λ z. z ∷ drop (suc j) w) star)),
      ))
      (λ other. inr (
        rw (owns1.each 5 (Number p.0) refl, ne_eqb p.0 37 other) refl,
        other_ends k i j si sj p.0 y t1 owns1 place p.1 (ne_eqb p.0 37 other),
      ))
      (cases_eq p.0 37)))

  pub step_ends : (k i j si sj : ℕ) (x y : Value) (t : LowState) → OwnsAll n s t (own_values 2 i j si sj x y false) → Place v w (suc k) i j si sj false → Ends 46 (State k) Never NoCode (meaning pages fuel (step_block a ca b cb n) t)
  step_ends k i j si sj x y t owns place =
      let held : HoldsText t b cb w = text_kept n s t b cb w owns.kept low_b low_cb pattern in
      conditional_ends (State k) Never NoCode pages fuel 42 (same (n + 2) cb) (end_block ca n) (octet_block a ca b n) t
      (⊎_elim
      (λ (all : j ≡ length w). inl (
        inl (0, rw (owns.each 2 (Number j) refl, held.is_long, eq-eqb j (length w) all) refl),
        Ends-more (State k) Never NoCode 18 42 (meaning pages fuel (end_block ca n) t) (omega arith) (end_ends k i j si sj x y t owns place (omega (arith, all))),
      ))
      (λ other. inr (
        rw (owns.each 2 (Number j) refl, held.is_long, ne_eqb j (length w) other) refl,
        octet_ends k i j si sj x y t owns place (omega (arith, place.in_w, other)),
      ))
      (cases_eq j (length w)))
