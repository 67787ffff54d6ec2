-- Where a search stands that remembers the last `%`, and how it goes on.
use Rattle.std.proofs.Common.{◌≡◌, ℕ, zero, suc, ◌+◌, ◌*◌, ◌<◌, ◌≤◌, ◌==◌, Bool, true, false, List, [], ◌∷◌, length, drop, Some, slice_get, refl, sym, ap, ◌∙◌, subst, arith}
use Rattle.std.proofs.Math.Seq.{drop-cons}
use Rattle.std.proofs.lemmas.List.{length-drop, drop_all}
use Rattle.std.proofs.lemmas.Option.{get_or_from_slice_get, slice_get_within}
use Rattle.qw_map.proofs.TurnFacts.{found-in}
use Rattle.qw_types.specs.Like.{continues, takes, fits_pattern}
use Rattle.qw_types.proofs.LikeSeeking.{Seeks, later_fits, seek_start, seek_star, seek_on, seek_failed, seek_again, seek_rest, not_taken}
use Rattle.qw_types.proofs.LikeExact.{none_fits}
use Rattle.qw_text.proofs.LikeCounts.{settled, there_on, tries, all_tries, later_tries, reserve, all_split, tries_some, few_tries}

-- ---- texts from an index on
pub here_is : (v : List ℕ) (i octet : ℕ) → slice_get v i ≡ Some octet → drop i v ≡ octet ∷ drop (suc i) v
here_is v i octet h = drop-cons v i octet (slice_get_within v i octet h) ∙ ap (λ x. x ∷ drop (suc i) v) (get_or_from_slice_get v i octet octet h)

-- whether a later end fits what stands behind the last `%`, where text and pattern stood at these indexes, and how many turns find it
abbrev pub later_of : (v w : List ℕ) (si sj : ℕ) → Bool
later_of v w si zero = false
later_of v w si (suc k) = later_fits (drop (suc k) w) (drop si v)

abbrev pub later_turns : (v w : List ℕ) (si sj : ℕ) → ℕ
later_turns v w si zero = 0
later_turns v w si (suc k) = later_tries (drop (suc k) w) (drop si v)

-- A search at indexes of the text and the pattern, within a character that a `_` took or not; `k` turns are enough for the rest of it.
pub record Place (v w : List ℕ) (k i j si sj : ℕ) (within : Bool) : Type 0 where
  pub in_v : i ≤ length v
  pub in_w : j ≤ length w
  pub star_in : sj ≤ length w
  pub order : si ≤ i
  pub seeks : Seeks (fits_pattern w v) (later_of v w si sj) (drop j w) (settled within (drop i v))
  pub kept : reserve (suc (length v)) (drop sj w) ≡ reserve (suc (length v)) (drop j w)
  pub enough : there_on within (tries (drop j w)) (drop i v) + later_turns v w si sj + reserve (suc (length v)) (drop j w) ≤ k

pub place_start : (v w : List ℕ) → Place v w ((length v + 1) * (length w + 1)) 0 0 0 0 false
place_start v w = record {
  in_v = omega arith;
  in_w = omega arith;
  star_in = omega arith;
  order = omega arith;
  seeks = seek_start w v;
  kept = refl;
  enough =
      let few : all_tries w v + reserve (suc (length v)) w ≤ suc (length v) * suc (length w) = few_tries (suc (length v)) w v (omega arith) in
      let one : length v + 1 ≡ suc (length v) = omega arith in
      let other : length w + 1 ≡ suc (length w) = omega arith in
      rw (one, other) (omega (arith, few, all_split w v));
}

module _ (v w : List ℕ) (k i j si sj : ℕ) where
  -- there is a turn
  pub place_some : (within : Bool) → Place v w 0 i j si sj within → ⊥
  place_some true place = absurd (omega (arith, place.enough, tries_some (drop j w) (settled true (drop i v))))
  place_some false place = absurd (omega (arith, place.enough, tries_some (drop j w) (drop i v)))

  -- ---- within a character
  pub place_stopped : length v ≤ i → Place v w k i j si sj true → Place v w k i j si sj false
  place_stopped all place =
      let is : drop i v ≡ [] = drop_all i v all in
      record {
        in_v = place.in_v;
        in_w = place.in_w;
        star_in = place.star_in;
        order = place.order;
        seeks = subst (λ z. Seeks (fits_pattern w v) (later_of v w si sj) (drop j w) (settled false z)) (sym is) (subst (λ z. Seeks (fits_pattern w v) (later_of v w si sj) (drop j w) (settled true z)) is place.seeks);
        kept = place.kept;
        enough = subst (λ z. there_on false (tries (drop j w)) z + later_turns v w si sj + reserve (suc (length v)) (drop j w) ≤ k) (sym is)
            (subst (λ z. there_on true (tries (drop j w)) z + later_turns v w si sj + reserve (suc (length v)) (drop j w) ≤ k) is place.enough);
      }

  settled_outer : (c : ℕ) (cs : List ℕ) → continues c ≡ false → settled true (c ∷ cs) ≡ c ∷ cs
  settled_outer c cs outer = rw outer refl

  there_outer : (c : ℕ) (cs : List ℕ) → continues c ≡ false → there_on true (tries (drop j w)) (c ∷ cs) ≡ there_on false (tries (drop j w)) (c ∷ cs)
  there_outer c cs outer = rw outer refl

  settled_inner : (c : ℕ) (cs : List ℕ) → continues c ≡ true → settled true (c ∷ cs) ≡ settled true cs
  settled_inner c cs inner = rw inner refl

  there_inner : (c : ℕ) (cs : List ℕ) → continues c ≡ true → there_on true (tries (drop j w)) (c ∷ cs) ≡ suc (there_on true (tries (drop j w)) cs)
  there_inner c cs inner = rw inner (omega arith)

  pub place_begun : (c : ℕ) → slice_get v i ≡ Some c → continues c ≡ false → Place v w k i j si sj true → Place v w k i j si sj false
  place_begun c at outer place =
      let is : drop i v ≡ c ∷ drop (suc i) v = here_is v i c at in
      let same : there_on true (tries (drop j w)) (drop i v) ≡ there_on false (tries (drop j w)) (drop i v) =
      subst (λ z. there_on true (tries (drop j w)) z ≡ there_on false (tries (drop j w)) z) (sym is) (there_outer c (drop (suc i) v) outer) in
      let text : settled true (drop i v) ≡ settled false (drop i v) = subst (λ z. settled true z ≡ settled false z) (sym is) (settled_outer c (drop (suc i) v) outer) in
      record {
        in_v = place.in_v;
        in_w = place.in_w;
        star_in = place.star_in;
        order = place.order;
        seeks = subst (λ z. Seeks (fits_pattern w v) (later_of v w si sj) (drop j w) z) text place.seeks;
        kept = place.kept;
        enough = subst (λ z. z + later_turns v w si sj + reserve (suc (length v)) (drop j w) ≤ k) same place.enough;
      }

  pub place_passed : (c : ℕ) → slice_get v i ≡ Some c → continues c ≡ true → Place v w (suc k) i j si sj true → Place v w k (suc i) j si sj true
  place_passed c at inner place =
      let is : drop i v ≡ c ∷ drop (suc i) v = here_is v i c at in
      let before : i < length v = slice_get_within v i c at in
      let same : there_on true (tries (drop j w)) (drop i v) ≡ suc (there_on true (tries (drop j w)) (drop (suc i) v)) = ap (there_on true (tries (drop j w))) is ∙ there_inner c (drop (suc i) v) inner in
      let text : settled true (drop i v) ≡ settled true (drop (suc i) v) = ap (settled true) is ∙ settled_inner c (drop (suc i) v) inner in
      record {
        in_v = before;
        in_w = place.in_w;
        star_in = place.star_in;
        order = omega (arith, place.order);
        seeks = subst (λ z. Seeks (fits_pattern w v) (later_of v w si sj) (drop j w) z) text place.seeks;
        kept = place.kept;
        enough = omega (arith, place.enough, same);
      }

  -- ---- a try that failed
  pub left_over : Place v w (suc k) i j si sj false → later_turns v w si sj + reserve (suc (length v)) (drop sj w) ≤ k
  left_over place = omega (arith, place.enough, place.kept, tries_some (drop j w) (drop i v))

  -- ---- at a `%`
  pub place_star : drop j w ≡ 37 ∷ drop (suc j) w → j < length w → Place v w (suc k) i j si sj false → Place v w k i (suc j) i (suc j) false
  place_star is before place =
      let long : length (drop i v) + i ≡ length v = (let l = length-drop i v in omega (arith, l, place.in_v)) in
      let few : all_tries (drop (suc j) w) (drop i v) + reserve (suc (length v)) (drop (suc j) w) ≤ suc (length v) * suc (length (drop (suc j) w)) = few_tries (suc (length v)) (drop (suc j) w) (drop i v) (omega (arith, long)) in
      let enough : 1 + later_turns v w si sj + suc (length v) * suc (length (drop (suc j) w)) ≤ suc k =
      subst (λ z. there_on false (tries z) (drop i v) + later_turns v w si sj + reserve (suc (length v)) z ≤ suc k) is place.enough in
      record {
        in_v = place.in_v;
        in_w = before;
        star_in = before;
        order = omega arith;
        seeks = seek_star (fits_pattern w v) (later_of v w si sj) (drop (suc j) w) (drop i v) (subst (λ z. Seeks (fits_pattern w v) (later_of v w si sj) z (drop i v)) is place.seeks);
        kept = refl;
        enough = omega (arith, few, enough, all_split (drop (suc j) w) (drop i v));
      }

  -- ---- at another octet of the pattern
  module _ (p c : ℕ) (at_v : slice_get v i ≡ Some c) (at_w : slice_get w j ≡ Some p) (other : (p == 37) ≡ false) where
    tries_taken : (ps cs : List ℕ) → takes p c ≡ true → tries (p ∷ ps) (c ∷ cs) ≡ suc (there_on (p == 95) (tries ps) cs)
    tries_taken ps cs took = rw (other, took) refl

    reserve_same : (ps : List ℕ) → reserve (suc (length v)) (p ∷ ps) ≡ reserve (suc (length v)) ps
    reserve_same ps = rw other refl

    now_here : Place v w (suc k) i j si sj false → Seeks (fits_pattern w v) (later_of v w si sj) (p ∷ drop (suc j) w) (c ∷ drop (suc i) v)
    now_here place = subst (λ z. Seeks (fits_pattern w v) (later_of v w si sj) z (c ∷ drop (suc i) v)) (here_is w j p at_w)
        (subst (λ z. Seeks (fits_pattern w v) (later_of v w si sj) (drop j w) z) (here_is v i c at_v) place.seeks)

    pub place_taken : takes p c ≡ true → Place v w (suc k) i j si sj false → Place v w k (suc i) (suc j) si sj (p == 95)
    place_taken took place =
        let is_v : drop i v ≡ c ∷ drop (suc i) v = here_is v i c at_v in
        let is_w : drop j w ≡ p ∷ drop (suc j) w = here_is w j p at_w in
        let in_v : i < length v = slice_get_within v i c at_v in
        let in_w : j < length w = slice_get_within w j p at_w in
        let turns : tries (drop j w) (drop i v) ≡ suc (there_on (p == 95) (tries (drop (suc j) w)) (drop (suc i) v)) = rw (is_v, is_w) (tries_taken (drop (suc j) w) (drop (suc i) v) took) in
        let rest : reserve (suc (length v)) (drop j w) ≡ reserve (suc (length v)) (drop (suc j) w) = ap (reserve (suc (length v))) is_w ∙ reserve_same (drop (suc j) w) in
        record {
          in_v = in_v;
          in_w = in_w;
          star_in = place.star_in;
          order = omega (arith, place.order);
          seeks = seek_on (fits_pattern w v) (later_of v w si sj) p (drop (suc j) w) c (drop (suc i) v) other took (now_here place);
          kept = place.kept ∙ rest;
          enough = omega (arith, place.enough, turns, rest);
        }

    pub place_refused : takes p c ≡ false → Place v w (suc k) i j si sj false → fits_pattern w v ≡ later_of v w si sj
    place_refused apart place =
        let failed : fits_pattern (drop j w) (drop i v) ≡ false = rw (here_is v i c at_v, here_is w j p at_w) (not_taken p (drop (suc j) w) c (drop (suc i) v) other apart) in
        seek_failed (fits_pattern w v) (later_of v w si sj) (drop j w) (drop i v) failed place.seeks

  -- ---- at the pattern's end, but not the text's
  pub place_ended : length w ≤ j → i < length v → Place v w (suc k) i j si sj false → fits_pattern w v ≡ later_of v w si sj
  place_ended all before place =
      let here = found-in v i before in
      let none : fits_pattern (drop j w) (drop i v) ≡ false = rw (drop_all j w all, here_is v i here.0 here.1) (none_fits here.0 (drop (suc i) v)) in
      seek_failed (fits_pattern w v) (later_of v w si sj) (drop j w) (drop i v) none place.seeks

-- ---- the next end for the last `%`
pub place_again : (v w : List ℕ) (k si q : ℕ) → si < length v → suc q ≤ length w → fits_pattern w v ≡ later_of v w si (suc q) → later_turns v w si (suc q) + reserve (suc (length v)) (drop (suc q) w) ≤ k →
    Place v w k (suc si) (suc q) (suc si) (suc q) false
place_again v w k si q before star_in is enough =
    let here = found-in v si before in
    let rest : drop si v ≡ here.0 ∷ drop (suc si) v = here_is v si here.0 here.1 in
    let turns : later_turns v w si (suc q) ≡ all_tries (drop (suc q) w) (drop (suc si) v) = ap (later_tries (drop (suc q) w)) rest in
    record {
      in_v = before;
      in_w = star_in;
      star_in = star_in;
      order = omega arith;
      seeks = seek_again (fits_pattern w v) (drop (suc q) w) here.0 (drop (suc si) v) (is ∙ ap (later_fits (drop (suc q) w)) rest);
      kept = refl;
      enough = omega (arith, enough, turns, all_split (drop (suc q) w) (drop (suc si) v));
    }

-- a `%` that ends the pattern takes the rest of the text
pub rest_fits : (v w : List ℕ) (q si : ℕ) → length w ≤ suc q → si < length v → fits_pattern w v ≡ later_of v w si (suc q) → fits_pattern w v ≡ true
rest_fits v w q si all before is =
    let here = found-in v si before in
    seek_rest (fits_pattern w v) here.0 (drop (suc si) v) (is ∙ ap (λ z. later_fits z (drop si v)) (drop_all (suc q) w all) ∙ ap (later_fits []) (here_is v si here.0 here.1))
