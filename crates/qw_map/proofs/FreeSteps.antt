-- What a step makes of free pages, and what lies apart after it.
use Rattle.std.proofs.Common.{◌≡◌, ◌≢◌, ℕ, zero, suc, ◌+◌, ◌-◌, ◌*◌, ◌<◌, ◌≤◌, Bool, true, false, List, [], ◌∷◌, ◌++◌, length, replicate, Option, Some, slice_get, slice_set, ◌⊎◌, inl, inr, refl, sym, ap, ◌∙◌, subst, ⊎_elim, arith, length-append}
use Rattle.std.specs.List.{AllByRecursion}
use Rattle.std.proofs.lemmas.List.{append-nil, length-replicate}
use Rattle.std.proofs.lemmas.Bool.{cases_eq, cases_lt, false≢true}
use Rattle.std.proofs.lemmas.Option.{same_Some, none-some, slice_get_within}
use Rattle.qw_linear.specs.Memory.{page, most_pages, pages_of, AreOctets}
use Rattle.qw_map.specs.Areas.{Area, World, granted_area}
use Rattle.qw_map.proofs.AreaLemmas.{all-append, all-weaker}
use Rattle.qw_map.proofs.TurnFacts.{slice_get-set_same, slice_get-set_other}
use Rattle.qw_map.specs.Free.{marked, given_back, IsTaken}
use Rattle.qw_map.specs.Turns.{AreApart, AllApart, Instance, Common, Shared, own_of, with_instance, EachInstance, may_ask, AreSeparate}
use Rattle.qw_map.proofs.FreeFacts.{none-true, new-false, get-kept, true-before, added-false, length-marked, marked-there, false-marked-true, false-marked-false, IsNew, new-apart, taken-kept, back-behind, taken-back, length-back}

-- What a step makes of what is common and of what an instance has: own areas were added, whole pages of which none was taken, and none
-- of them is free then; the memory is no shorter, and the instance may ask for fewer pages by what it grew, or more.
pub record Gains (behind : ℕ) (common now : Common) (w after : World) : Type 0 where
  pub mapped_is : after.mapped ≡ w.mapped
  pub limit_is : after.limit ≡ w.limit
  pub gained : List Area
  pub own_is : after.own ≡ w.own ++ gained
  pub whole : length now.memory ≡ pages_of now.memory * page
  pub longer : length common.memory ≤ length now.memory
  pub flags : length now.free ≡ pages_of now.memory
  pub taken : AllByRecursion (IsTaken behind now.free) gained
  pub new : AllByRecursion (IsNew common.free) gained
  pub kept : (p : ℕ) → slice_get common.free p ≡ Some false → slice_get now.free p ≡ Some false
  pub fewer : (p : ℕ) → slice_get now.free p ≡ Some true → slice_get common.free p ≡ Some true
  pub asks : length now.memory + (after.limit - after.held) * page ≤ length common.memory + (w.limit - w.held) * page

module _ (behind : ℕ) (common : Common) (w : World) (whole : length common.memory ≡ pages_of common.memory * page) (flags : length common.free ≡ pages_of common.memory) where
  -- nothing is gained where neither the length nor the flags change
  pub gains-nothing : (memory : List ℕ) (refused : Option ℕ) → length memory ≡ length common.memory →
      Gains behind common (record common { memory = memory }) w (record w { refused = refused })
  gains-nothing memory refused same = record {
    mapped_is = refl;
    limit_is = refl;
    gained = [];
    own_is = sym (append-nil w.own);
    whole = omega (arith, same, whole);
    longer = omega (arith, same);
    flags = omega (arith, same, flags);
    taken = tt;
    new = tt;
    kept = λ p h. h;
    fewer = λ p h. h;
    asks = omega (arith, same);
  }

  -- the memory's next pages
  next-taken : (n start : ℕ) → start ≡ pages_of common.memory * page → behind ≤ pages_of common.memory →
      AllByRecursion (IsTaken behind (common.free ++ replicate n false)) (granted_area start n)
  next-taken zero start is low = tt
  next-taken (suc n) start is low = (
    record {
      at = pages_of common.memory;
      less = n;
      start_is = is;
      size_is = refl;
      behind_is = low;
      taken = λ k h. added-false common.free (suc n) (pages_of common.memory + k) (omega (arith, flags)) (omega (arith, flags, h));
    },
    tt,
  )

  next-new : (n start : ℕ) → start ≡ pages_of common.memory * page → AllByRecursion (IsNew common.free) (granted_area start n)
  next-new zero start is = tt
  next-new (suc n) start is = (λ p low high h. (let inside = slice_get_within common.free p false h in omega (arith, inside, low, is, flags)), tt)

  pub gains-next : (n start : ℕ) (memory : List ℕ) → length memory ≡ length common.memory + n * page → start ≡ pages_of common.memory * page →
      behind ≤ pages_of common.memory → w.held + n ≤ w.limit →
      Gains behind common (record { memory = memory; free = common.free ++ replicate n false }) w (record w { own = w.own ++ granted_area start n; held = w.held + n })
  gains-next n start memory longer is low fits = record {
    mapped_is = refl;
    limit_is = refl;
    gained = granted_area start n;
    own_is = refl;
    whole = omega (arith, longer, whole);
    longer = omega (arith, longer);
    flags = let all = length-append common.free (replicate n false) in let new = length-replicate {A = Bool} n false in omega (arith, longer, flags, all, new);
    taken = next-taken n start is low;
    new = next-new n start is;
    kept = λ p h. get-kept common.free (replicate n false) p false h;
    fewer = λ p h. true-before common.free n p h;
    asks = omega (arith, longer, fits);
  }

  -- recycled pages, of which each was free
  module _ (n first : ℕ) (free : (k : ℕ) → k < n → slice_get common.free (first + k) ≡ Some true) (low : behind ≤ first) where
    run-taken : (m : ℕ) → m ≡ n → AllByRecursion (IsTaken behind (marked false first n common.free)) (granted_area (first * page) m)
    run-taken zero is = tt
    run-taken (suc m) is = (
      record {
        at = first;
        less = m;
        start_is = refl;
        size_is = refl;
        behind_is = low;
        taken = λ k h. marked-there false first n common.free (first + k) (omega arith) (omega (arith, h, is))
            (slice_get_within common.free (first + k) true (free k (omega (arith, h, is))));
      },
      tt,
    )

    run-new : (m : ℕ) → m ≡ n → AllByRecursion (IsNew common.free) (granted_area (first * page) m)
    run-new zero is = tt
    run-new (suc m) is = (
      (λ p from to h.
          let k : ℕ = p - first in
          let there : first + k ≡ p = omega (arith, from) in
          let one : slice_get common.free p ≡ Some true = subst (λ (q : ℕ). slice_get common.free q ≡ Some true) there (free k (omega (arith, to, is))) in
          false≢true (same_Some false true (sym h ∙ one))),
      tt,
    )

    pub gains-run : (memory : List ℕ) → length memory ≡ length common.memory → w.held + n ≤ w.limit →
        Gains behind common (record { memory = memory; free = marked false first n common.free }) w
        (record w { own = w.own ++ granted_area (first * page) n; held = w.held + n })
    gains-run memory same fits = record {
      mapped_is = refl;
      limit_is = refl;
      gained = granted_area (first * page) n;
      own_is = refl;
      whole = omega (arith, same, whole);
      longer = omega (arith, same);
      flags = omega (arith, same, flags, length-marked false first n common.free);
      taken = run-taken n refl;
      new = run-new n refl;
      kept = λ p h. false-marked-false first n common.free p h;
      fewer = λ p h. false-marked-true first n common.free p h;
      asks = omega (arith, same, fits);
    }

-- ---- what the instances may ask for
pub asks_changed : (instances : List Instance) (j : ℕ) (one put : Instance) → slice_get instances j ≡ Some one →
    may_ask (slice_set instances j put) + (one.world.limit - one.world.held) ≡ may_ask instances + (put.world.limit - put.world.held)
asks_changed [] j one put found = absurd (none-some one found)
asks_changed (first ∷ instances) zero one put found = let is : first ≡ one = same_Some first one found in rw (← is) (omega arith)
asks_changed (first ∷ instances) (suc j) one put found =
    let rest : may_ask (slice_set instances j put) + (one.world.limit - one.world.held) ≡ may_ask instances + (put.world.limit - put.world.held) =
    asks_changed instances j one put found in
    omega arith

pub asks_within : (instances : List Instance) (k : ℕ) (i : Instance) → slice_get instances k ≡ Some i → i.world.limit - i.world.held ≤ may_ask instances
asks_within [] k i found = absurd (none-some i found)
asks_within (one ∷ instances) zero i found = let same : one ≡ i = same_Some one i found in rw (← same) (omega arith)
asks_within (one ∷ instances) (suc k) i found = let rest : i.world.limit - i.world.held ≤ may_ask instances = asks_within instances k i found in omega arith

-- ---- areas, element by element
-- what is apart from each of some, each of them is from it
pub apart-from : (areas : List Area) (b : Area) → AllByRecursion (AreApart b) areas → AllByRecursion (λ a. AreApart a b) areas
apart-from [] b apart = tt
apart-from (a ∷ areas) b (one, rest) = (⊎_elim inr inl one, apart-from areas b rest)

pub each-apart : (P Q : Area → Type 0) (xs ys : List Area) → ((x y : Area) → P x → Q y → AreApart x y) → AllByRecursion P xs → AllByRecursion Q ys → AllApart xs ys
each-apart P Q xs ys apart all_p all_q = all-weaker P (λ x. AllByRecursion (AreApart x) ys) (λ x p. all-weaker Q (AreApart x) (λ y q. apart x y p q) ys all_q) xs all_p

all-both : {A : Type 0} (P Q : A → Type 0) (xs : List A) → AllByRecursion P xs → AllByRecursion Q xs → AllByRecursion (λ x. P x × Q x) xs
all-both P Q [] p q = tt
all-both P Q (x ∷ xs) p q = ((p.0, q.0), all-both P Q xs p.1 q.1)

all-apart-more : (areas others gained : List Area) → AllApart areas others → AllApart areas gained → AllApart areas (others ++ gained)
all-apart-more [] others gained one two = tt
all-apart-more (area ∷ areas) others gained one two = (all-append (AreApart area) others gained one.0 two.0, all-apart-more areas others gained one.1 two.1)

-- ---- an instance is put, and what is common is changed
module _ (behind : ℕ) (s : Shared) (separate : AreSeparate behind s) (j : ℕ) (one put : Instance) (now : Common) (there : slice_get s.instances j ≡ Some one) where
  abbrev after : Shared
  after = with_instance s j (put, now)

  pub put_or_old : (k : ℕ) (i : Instance) → slice_get after.instances k ≡ Some i → ((k ≡ j) × (put ≡ i)) ⊎ ((k ≢ j) × (slice_get s.instances k ≡ Some i))
  put_or_old k i found = ⊎_elim
      (λ here. inl (here, same_Some put i (sym (slice_get-set_same s.instances j put (slice_get_within s.instances j one there)) ∙ rw here at found)))
      (λ elsewhere. inr (elsewhere, sym (slice_get-set_other s.instances j k put elsewhere) ∙ found))
      (cases_eq k j)

  module _ (held : own_of one ≡ one.world.own) (put_held : own_of put ≡ put.world.own) (gains : Gains behind s.common now one.world put.world) where
    one_taken : AllByRecursion (IsTaken behind s.common.free) one.world.own
    one_taken = rw held at (separate.own j one there)

    old-taken : (areas : List Area) → AllByRecursion (IsTaken behind s.common.free) areas → AllByRecursion (IsTaken behind now.free) areas
    old-taken = all-weaker (IsTaken behind s.common.free) (IsTaken behind now.free) (taken-kept behind s.common.free now.free gains.kept)

    pub put_taken : AllByRecursion (IsTaken behind now.free) put.world.own
    put_taken = rw (gains.own_is) (all-append (IsTaken behind now.free) one.world.own gains.gained (old-taken one.world.own one_taken) gains.taken)

    -- what was gained is apart from all that was taken
    gained-apart : (areas : List Area) → AllByRecursion (IsTaken behind s.common.free) areas → AllApart gains.gained areas
    gained-apart areas taken = each-apart (λ a. IsTaken behind now.free a × IsNew s.common.free a) (IsTaken behind s.common.free) gains.gained areas
        (λ a b p q. new-apart behind behind s.common.free now.free a b p.0 p.1 q)
        (all-both (IsTaken behind now.free) (IsNew s.common.free) gains.gained gains.taken gains.new) taken

    apart-gained : (areas : List Area) → AllByRecursion (IsTaken behind s.common.free) areas → AllApart areas gains.gained
    apart-gained areas taken = each-apart (IsTaken behind s.common.free) (λ a. IsTaken behind now.free a × IsNew s.common.free a) areas gains.gained
        (λ b a q p. ⊎_elim inr inl (new-apart behind behind s.common.free now.free a b p.0 p.1 q)) taken
        (all-both (IsTaken behind now.free) (IsNew s.common.free) gains.gained gains.taken gains.new)

    -- so the own areas that the instance has then are apart from those of another
    pub put-apart : (k : ℕ) (i : Instance) → k ≢ j → slice_get s.instances k ≡ Some i → AllApart put.world.own (own_of i)
    put-apart k i differ found = rw (gains.own_is)
        (all-append (λ a. AllByRecursion (AreApart a) (own_of i)) one.world.own gains.gained
        (rw held at (separate.own_apart j k one i (λ e. differ (sym e)) there found)) (gained-apart (own_of i) (separate.own k i found)))

    apart-put : (k : ℕ) (i : Instance) → k ≢ j → slice_get s.instances k ≡ Some i → AllApart (own_of i) put.world.own
    apart-put k i differ found = rw (gains.own_is)
        (all-apart-more (own_of i) one.world.own gains.gained (rw held at (separate.own_apart k j i one differ found there)) (apart-gained (own_of i) (separate.own k i found)))

    -- and from columns
    pub put-columns : (k : ℕ) (i : Instance) → slice_get s.instances k ≡ Some i → AllApart put.world.own i.world.mapped
    put-columns k i found = each-apart (IsTaken behind now.free) (λ a. a.start + a.size ≤ behind * page) put.world.own i.world.mapped
        (λ a b t ends. inr (omega (arith, t.start_is, t.behind_is, ends))) put_taken (separate.columns k i found)

    pub separate-put : AreOctets now.memory → AreSeparate behind after
    separate-put octets = record {
      octets = octets;
      whole = gains.whole;
      flags = gains.flags;
      some = separate.some;
      there = omega (arith, separate.there, gains.longer);
      columns = λ k i found. ⊎_elim
          (λ (here, is). rw (← is, gains.mapped_is) (separate.columns j one there))
          (λ (elsewhere, old). separate.columns k i old)
          (put_or_old k i found);
      own = λ k i found. ⊎_elim
          (λ (here, is). rw (← is, put_held) put_taken)
          (λ (elsewhere, old). old-taken (own_of i) (separate.own k i old))
          (put_or_old k i found);
      own_apart = λ k l i other differ found found_other. ⊎_elim
          (λ (here, is). ⊎_elim
          (λ (also_here, also_is). absurd (differ (here ∙ sym also_here)))
          (λ (elsewhere, old). rw (← is, put_held) (put-apart l other elsewhere old))
          (put_or_old l other found_other))
          (λ (elsewhere, old). ⊎_elim
          (λ (here, is). rw (← is, put_held) (apart-put k i elsewhere old))
          (λ (also_elsewhere, also_old). separate.own_apart k l i other differ old also_old)
          (put_or_old l other found_other))
          (put_or_old k i found);
      free_behind = λ p h. separate.free_behind p (gains.fewer p h);
      room =
          let asked = gains.asks in
          let changed = asks_changed s.instances j one put there in
          omega (arith, asked, changed, separate.room);
    }

  -- ---- its pages are given back
  module _ (held : own_of one ≡ one.world.own) (put_back : own_of put ≡ []) (world_is : put.world ≡ one.world) (memory_is : now.memory ≡ s.common.memory)
      (free_is : now.free ≡ given_back one.world.own s.common.free) where
    back_taken : AllByRecursion (IsTaken behind s.common.free) one.world.own
    back_taken = rw held at (separate.own j one there)

    rest-taken : (k : ℕ) (i : Instance) → k ≢ j → slice_get s.instances k ≡ Some i → AllByRecursion (IsTaken behind now.free) (own_of i)
    rest-taken k i differ found = rw free_is (all-weaker (λ b. IsTaken behind s.common.free b × AllByRecursion (AreApart b) one.world.own)
        (IsTaken behind (given_back one.world.own s.common.free))
        (λ b h. taken-back behind s.common.free one.world.own b back_taken h.0 (apart-from one.world.own b h.1)) (own_of i)
        (all-both (IsTaken behind s.common.free) (λ b. AllByRecursion (AreApart b) one.world.own) (own_of i) (separate.own k i found)
        (rw held at (separate.own_apart k j i one differ found there))))

    pub separate-back : AreSeparate behind after
    separate-back = record {
      octets = rw memory_is separate.octets;
      whole = rw memory_is separate.whole;
      flags = rw (memory_is, free_is) (length-back one.world.own s.common.free ∙ separate.flags);
      some = separate.some;
      there = rw memory_is separate.there;
      columns = λ k i found. ⊎_elim
          (λ (here, is). rw (← is, world_is) (separate.columns j one there))
          (λ (elsewhere, old). separate.columns k i old)
          (put_or_old k i found);
      own = λ k i found. ⊎_elim
          (λ (here, is). rw (← is, put_back) tt)
          (λ (elsewhere, old). rest-taken k i elsewhere old)
          (put_or_old k i found);
      own_apart = λ k l i other differ found found_other. ⊎_elim
          (λ (here, is). rw (← is, put_back) tt)
          (λ (elsewhere, old). ⊎_elim
          (λ (here, is). rw (← is, put_back) (each-apart (IsTaken behind s.common.free) (λ a. ⊥) (own_of i) [] (λ a b t none. absurd none) (separate.own k i old) tt))
          (λ (also_elsewhere, also_old). separate.own_apart k l i other differ old also_old)
          (put_or_old l other found_other))
          (put_or_old k i found);
      free_behind = λ p h. back-behind behind s.common.free one.world.own s.common.free p back_taken separate.free_behind (rw free_is at h);
      room =
          let changed = asks_changed s.instances j one put there in
          let same : put.world.limit - put.world.held ≡ one.world.limit - one.world.held = ap (λ (w : World). w.limit - w.held) world_is in
          rw memory_is (omega (arith, changed, same, separate.room));
    }

-- ---- the first instances
-- where each has one page behind the columns, in order, and no page is free, they lie apart
module _ (behind : ℕ) (s : Shared) (octets : AreOctets s.common.memory) (size : length s.common.memory ≡ (behind + length s.instances) * page) (some : 1 ≤ behind)
    (free_is : s.common.free ≡ replicate (pages_of s.common.memory) false)
    (columns : EachInstance (λ i. AllByRecursion (λ a. a.start + a.size ≤ behind * page) i.world.mapped) s)
    (first_pages : (k : ℕ) (i : Instance) → slice_get s.instances k ≡ Some i → own_of i ≡ record { start = (behind + k) * page; size = page } ∷ [])
    (room : length s.common.memory + may_ask s.instances * page ≤ most_pages * page) where
  first-taken : (k : ℕ) → k < length s.instances → IsTaken behind s.common.free (record { start = (behind + k) * page; size = page })
  first-taken k inside = record {
    at = behind + k;
    less = 0;
    start_is = refl;
    size_is = omega arith;
    behind_is = omega arith;
    taken = λ j h. rw free_is (new-false (pages_of s.common.memory) (behind + k + j) (omega (arith, h, inside, size)));
  }

  pages-apart : (j k : ℕ) → j ≢ k → AreApart (record { start = (behind + j) * page; size = page }) (record { start = (behind + k) * page; size = page })
  pages-apart j k differ = ⊎_elim
      (λ less. inl (omega (arith, less)))
      (λ most. ⊎_elim (λ more. inr (omega (arith, more))) (λ least. absurd (differ (omega (arith, most, least)))) (cases_lt k j))
      (cases_lt j k)

  pub first-separate : AreSeparate behind s
  first-separate = record {
    octets = octets;
    whole = omega (arith, size);
    flags = rw free_is (length-replicate {A = Bool} (pages_of s.common.memory) false);
    some = some;
    there = omega (arith, size);
    columns = columns;
    own = λ k i found. rw (first_pages k i found) (first-taken k (slice_get_within s.instances k i found), tt);
    own_apart = λ j k one other differ found found_other. rw (first_pages j one found, first_pages k other found_other) ((pages-apart j k differ, tt), tt);
    free_behind = λ p h. absurd (none-true (pages_of s.common.memory) p (rw free_is at h));
    room = room;
  }
