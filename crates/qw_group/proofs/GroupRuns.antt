-- A row is put into its group, whatever an entry says of that: found or placed, its entry is changed in place.
use Rattle.std.proofs.Common.{◌≡◌, ℕ, suc, ◌+◌, ◌*◌, ◌<◌, ◌≤◌, inl, inr, List, [], ◌∷◌, ◌++◌, length, length-append, Some, slice_get, refl, sym, ap, ◌∙◌, subst, ⊎_elim, arith}
use Rattle.std.proofs.lemmas.Nat.{mul-le}
use Rattle.std.proofs.lemmas.List.Sorted.{length_permutation}
use Rattle.std.proofs.Math.Nat.{add-mul, mul-add, mul_assoc, mul_comm}
use Rattle.qw_low.proofs.Results.{at_least}
use Rattle.qw_types.specs.ValueOrder.{is_same_row}
use Rattle.qw_types.specs.declared.value.Val.{Val}
use Rattle.qw_linear.specs.Memory.{page}
use Rattle.qw_layout.specs.Hash.{slot}
use Rattle.qw_grouped.specs.Groups.{key_of, keys, members}
use Rattle.qw_module.specs.Numbers.{truth}
use Rattle.qw_low.specs.Syntax.{local, Statement, skip, seq, conditional}
use Rattle.qw_low.specs.State.{Own, Value, Number, Cells, LowState}
use Rattle.qw_low.specs.Meaning.{value, cost, meaning}
use Rattle.qw_low.specs.Size as sizes
use Rattle.qw_low.specs.Promise.{Ends}
use Rattle.qw_low.specs.Raising.{Kept}
use Rattle.qw_low.proofs.Promises.{Ends-more, Ends-weaker, Ends-then, conditional_ends}
use Rattle.qw_feed.specs.Feeds.{one_row, Tells, Any, FedTo, FeedsTo}
use Rattle.qw_feed.specs.Frames.{pos, Before, Below, Keeps}
use Rattle.qw_feed.specs.Rows.{Row, address, start_of, Fills}
use Rattle.qw_feed.specs.Stages.{Test}
use Rattle.qw_feed.proofs.Frames.{Never, Keeps-then, Keeps-kept, below-under}
use Rattle.qw_feed.proofs.RoomRuns.{IsRefusal}
use Rattle.qw_table.specs.Tables.{values_of, in_slot}
use Rattle.qw_group.specs.Areas.{InPlace}
use Rattle.qw_group.specs.Groups.{In, Apart, HasGroups, groups_sink, find_block, place_block, group_block}
use Rattle.qw_group.proofs.FindRuns.{Found, find_ends}
use Rattle.qw_group.proofs.KeyFacts.{in-append, members-grow, members-more}
use Rattle.qw_group.proofs.PlaceRuns.{Ready, ready_found, place_ends, Linked-map, linked-in}
use Rattle.qw_group.proofs.WideRuns.{none}

pub values-many : (es : List Row) → length (values_of es) ≡ length es
values-many [] = refl
values-many (e ∷ es) = ap suc (values-many es)

module _ (columns : ℕ) (Has : List (List Val) → Cells → ℕ → ℕ → List Val → Type 0) (size k o d u before : ℕ) (rows : List (List Val)) where
  -- its locals alone are others
  abbrev pub moved : (s : LowState) (xs : List Value) → slice_get xs 1 ≡ slice_get s.locals 1 → slice_get xs 2 ≡ slice_get s.locals 2 → slice_get xs d ≡ slice_get s.locals d → HasGroups columns Has size k o d u before rows s → HasGroups columns Has size k o d u before rows (record s { locals = xs })
  moved s xs one two at has = record {
    part = has.part;
    offset = has.offset;
    room = record {
      last = has.room.last;
      pages = has.room.pages;
      within = has.room.within;
      free = one ∙ has.room.free;
      left = two ∙ has.room.left;
      zeros = has.room.zeros;
      owned = has.room.owned;
      limited = has.room.limited;
      few = has.room.few;
    };
    at = at ∙ has.at;
    chains = has.chains;
    directory = has.directory;
    linked = has.linked;
    home = has.home;
    apart = has.apart;
    all = has.all;
    some = has.some;
    same = has.same;
    paid = has.paid;
  }

  -- The groups stay where locals from one on alone are others.
  pub groups_kept : (n : ℕ) (s t : LowState) → 3 ≤ n → d < n → Kept n s t → HasGroups columns Has size k o d u before rows s → HasGroups columns Has size k o d u before rows t
  groups_kept n s t high low kept has = subst (λ (q : LowState). HasGroups columns Has size k o d u before rows q) (sym kept.others) (moved s t.locals (kept.below 1 (omega (arith, high))) (kept.below 2 (omega (arith, high))) (kept.below d low) has)

module _ (columns : ℕ) (Has : List (List Val) → Cells → ℕ → ℕ → List Val → Type 0) (size : ℕ) (wide : 8 ≤ size)
    (has_same : (rows : List (List Val)) (c c' : Cells) (k o : ℕ) (key : List Val) → ((a b : ℕ) → o + 8 ≤ a → a + b ≤ o + size → c' (Own k) a b ≡ c (Own k) a b) → Has rows c k o key → Has rows c' k o key)
    (has_other : (rows : List (List Val)) (r : List Val) (c : Cells) (k o : ℕ) (key : List Val) → (key ≡ key_of columns r → ⊥) → Has rows c k o key → Has (rows ++ r ∷ []) c k o key)
    (k o d u before g h : ℕ) (d_low : (5 ≤ d) × (d < g)) (h_low : (5 ≤ h) × (h < g)) (small : size + u ≤ page) (most fuel : ℕ) where
  -- ---- the change in place
  module _ (rows : List (List Val)) (r : List Val) (slot_low : slot (key_of columns r) < 1024) (e : Row) (s : LowState) (has : Ready columns Has size wide has_same k o d u before g h d_low h_low small most fuel rows r slot_low e s) where
    abbrev p : ℕ
    p = e.part

    abbrev off : ℕ
    off = e.offset

    abbrev front : ℕ
    front = pos has.part has.offset

    abbrev rows' : List (List Val)
    rows' = rows ++ r ∷ []

    pub at_e : (pos k (o + 4096) ≤ start_of e) × (start_of e + size ≤ front) × (off + size ≤ page) × Has rows s.cells p off e.values
    at_e = linked-in (Has rows) (Has rows) size s.cells s.cells (pos k (o + 4096)) front (has.chains (slot (key_of columns r))) (has.linked (slot (key_of columns r)) slot_low) e has.there

    p_low : p ≤ has.part
    p_low = omega (arith, at_e.1, has.room.within)

    pub sized_e : slice_get s.own p ≡ Some page
    sized_e = has.room.pages p p_low

    -- what an entry's change in place keeps
    pub changed_keeps : (w : LowState) → InPlace p (off + 8) (off + size) (g + 1) s w → Keeps (Below g) (Before (pos k o)) s w
    changed_keeps w changed = subst (λ (q : LowState). Keeps (Below g) (Before (pos k o)) s q) (sym changed.others) (record {
      many = changed.many;
      locals = λ i old. let low : i < g = below-under g g i (omega arith) (omega (arith, d_low.0, d_low.1)) old in changed.below i (omega (arith, low));
      own = λ l size' is. is;
      columns = refl;
      limit = refl;
      refused = refl;
      mapped = changed.mapped;
      cells = λ l b c spared. changed.cells l b c (inl (omega (arith, spared, at_e.0)));
    })

    module _ (us : List Value) (cs : Cells) (changed : InPlace p (off + 8) (off + size) (g + 1) s (record s { locals = us; cells = cs })) (new_group : Has rows' cs p off e.values) where
      each : (i : ℕ) → i < 1024 → (f : Row) → In f (has.chains i) → (s.cells (Own f.part) f.offset 4 ≡ cs (Own f.part) f.offset 4) × (Has rows s.cells f.part f.offset f.values → Has rows' cs f.part f.offset f.values)
      each i low f here = ⊎_elim
          (λ (same : f ≡ e). subst (λ (q : Row). (s.cells (Own q.part) q.offset 4 ≡ cs (Own q.part) q.offset 4) × (Has rows s.cells q.part q.offset q.values → Has rows' cs q.part q.offset q.values)) (sym same)
          (sym (changed.cells p off 4 (inl (omega arith))), λ old. new_group))
          (λ (other : Apart size f e × (f.values ≡ e.values → ⊥)). (
            sym (changed.cells f.part f.offset 4 (⊎_elim (λ l. inl (omega (arith, l, wide))) (λ m. inr (omega (arith, m))) other.0)),
            λ old. has_same rows' s.cells cs f.part f.offset f.values (λ b c from to. changed.cells f.part b c (⊎_elim (λ l. inl (omega (arith, l, to))) (λ m. inr (omega (arith, m, from))) other.0))
                (has_other rows r s.cells f.part f.offset f.values (λ is. other.1 (is ∙ sym has.is_it)) old),
          ))
          (has.apart i (slot (key_of columns r)) low slot_low f e here has.there)

      changed_groups : HasGroups columns Has size k o d u before rows' (record s { locals = us; cells = cs })
      changed_groups = record {
        part = has.part;
        offset = has.offset;
        room = record {
          last = has.room.last;
          pages = has.room.pages;
          within = has.room.within;
          free = changed.below 1 (omega (arith, d_low.0, d_low.1)) ∙ has.room.free;
          left = changed.below 2 (omega (arith, d_low.0, d_low.1)) ∙ has.room.left;
          zeros = λ b c from to. changed.cells has.part b c (inr (omega (arith, from, at_e.1))) ∙ has.room.zeros b c from to;
          owned = has.room.owned;
          limited = has.room.limited;
          few = has.room.few;
        };
        at = changed.below d (omega (arith, d_low.1)) ∙ has.at;
        chains = has.chains;
        directory = record {
          sized = has.directory.sized;
          inside = has.directory.inside;
          behind = has.directory.behind;
          slots = λ i low. changed.cells k (o + 4 * i) 4 (inl (omega (arith, low, at_e.0))) ∙ has.directory.slots i low;
        };
        linked = λ i low. Linked-map (Has rows) (Has rows') size s.cells cs (pos k (o + 4096)) front (has.chains i) (each i low) (has.linked i low);
        home = has.home;
        apart = has.apart;
        all = λ q q_in. ⊎_elim (λ old. has.all q old)
            (λ (new : q ≡ r). (e, subst (λ (l : ℕ). In e (has.chains l)) (ap (λ (row : List Val). slot (key_of columns row)) (sym new)) has.there, has.is_it ∙ ap (key_of columns) (sym new))) (in-append q r rows q_in);
        some = λ i low f here. ⊎_elim
            (λ (is : f ≡ e). subst (λ (q : Row). 1 ≤ length (members columns q.values rows')) (sym is)
            (let one = members-more columns e.values r rows has.is_it in omega (arith, ap (λ (ms : List (List Val)). length ms) one, length-append (members columns e.values rows) (r ∷ []))))
            (λ old. omega (arith, old, members-grow columns f.values r rows))
            (has.some i low f here);
        same = has.same;
        paid = has.paid;
      }

    pub changed_ends : (w : LowState) → InPlace p (off + 8) (off + size) (g + 1) s w → Has rows' w.cells p off e.values → HasGroups columns Has size k o d u before rows' w
    changed_ends w changed new = subst (λ (q : LowState). HasGroups columns Has size k o d u before rows' q) (sym changed.others)
        (changed_groups w.locals w.cells (subst (λ (q : LowState). InPlace p (off + 8) (off + size) (g + 1) s q) changed.others changed) new)

  -- ---- the whole, of a row
  module _ (r : List Val) (slot_low : slot (key_of columns r) < 1024) (test : Test) (fill update : Statement) (V W : ℕ) (some : 1 ≤ V) (some_more : 1 ≤ W) where
    abbrev pub key : List Val
    key = key_of columns r

    abbrev j : ℕ
    j = slot key

    -- what the blocks promise, where the locals below g are as at one state, which holds the row
    abbrev pub Searches : List (List Val) → LowState → Type 0
    Searches rows s = (e : Row) (t : LowState) → Kept g s t → slice_get t.locals (g + 1) ≡ Some (address e) → Has rows s.cells e.part e.offset e.values →
        Ends (sizes.size test.block * V) (λ w. Kept (g + 2) t w × (value w test.out ≡ Some (Number (truth (is_same_row key e.values))))) Never none (meaning most fuel test.block t)

    abbrev pub Updates : List (List Val) → LowState → Type 0
    Updates rows s = (e : Row) (t : LowState) → Keeps (Below g) (Before (pos k o)) s t → slice_get t.locals g ≡ Some (address e) → slice_get t.own e.part ≡ Some page → e.offset + size ≤ page → pos k (o + 4096) ≤ start_of e → e.values ≡ key → Has rows t.cells e.part e.offset e.values →
        Ends (sizes.size update * W) (λ w. InPlace e.part (e.offset + 8) (e.offset + size) (g + 1) t w × Has (rows ++ r ∷ []) w.cells e.part e.offset e.values) Never none (meaning most fuel update t)

    abbrev pub Places : List (List Val) → LowState → Type 0
    Places rows s = ((q : List Val) → In q rows → key_of columns q ≡ key → ⊥) → (t : LowState) → Kept g s t → Fills (Has rows) size (pos k (o + 4096)) most fuel key fill t

    module _ (s : LowState) (rows : List (List Val)) (has : HasGroups columns Has size k o d u before rows s) (searches : Searches rows s) (updates : Updates rows s) (places : Places rows s) (h_is : slice_get s.locals h ≡ Some (Number (4 * j))) (room : g + 1 < length s.locals)
        (more : length (has.chains j) < fuel) (enough : before + length (keys columns rows) * size + 2 * u < (most + 1) * u) where
      abbrev longer : List (List Val)
      longer = rows ++ r ∷ []

      abbrev P : LowState → Type 0
      P t = Keeps (Below g) (Before (pos k o)) s t × HasGroups columns Has size k o d u before longer t

      abbrev IsReady : LowState → Type 0
      IsReady t = Keeps (Below g) (Before (pos k o)) s t × (e : Row) × Ready columns Has size wide has_same k o d u before g h d_low h_low small most fuel rows r slot_low e t

      abbrev placing : Statement
      placing = place_block size d h g fill

      abbrev m : ℕ
      m = 16 + (sizes.size fill + 21) + 4

      abbrev F : LowState → Type 0
      F = Found columns Has size most fuel d h g k o u before V rows s has j key slot_low d_low.1 h_low.1 h_is room more test searches

      keeps_of : (t : LowState) → Kept g s t → Keeps (Below g) (Before (pos k o)) s t
      keeps_of t kept = Keeps-kept (Below g) (Before (pos k o)) g s t (λ i old. below-under g g i (omega arith) (omega (arith, d_low.0, d_low.1)) old) kept

      chooses : (t : LowState) → Kept g s t → F t → Ends (2 + m) IsReady Never IsRefusal (meaning most fuel (conditional (local g) skip placing) t)
      chooses t kept (inl met) =
          conditional_ends IsReady Never IsRefusal most fuel m (local g) skip placing t (inl (
            inr (Own met.0.part, met.0.offset, met.1.g_is),
            (omega arith, (keeps_of t kept, met.0, ready_found columns Has size wide has_same k o d u before g h d_low h_low small most fuel rows r slot_low s has met.0 met.1.there met.1.is_it t kept met.1.g_is)),
          ))
      chooses t kept (inr missed) =
          let s' : LowState = record s { locals = t.locals } in
          let has' : HasGroups columns Has size k o d u before rows s' = moved columns Has size k o d u before rows s t.locals (kept.below 1 (omega (arith, d_low.0, d_low.1))) (kept.below 2 (omega (arith, d_low.0, d_low.1))) (kept.below d d_low.1) has in
          let kept' : Kept g s s' = record { others = refl; many = kept.many; below = kept.below } in
          let fresh : (q : List Val) → In q rows → key_of columns q ≡ key → ⊥ = λ q q_in is. let one = has.all q q_in in missed.others one.0 (subst (λ (l : ℕ). In one.0 (has.chains l)) (ap slot is) one.1) (one.2 ∙ is) in
          conditional_ends IsReady Never IsRefusal most fuel m (local g) skip placing t (inr (
            missed.g_is,
            subst (λ (q : LowState). Ends m IsReady Never IsRefusal (meaning most fuel placing q)) (sym kept.others)
                (Ends-weaker m m (λ v. Keeps (Below g) (Before (pos k o)) s' v × (f : Row) × Ready columns Has size wide has_same k o d u before g h d_low h_low small most fuel rows r slot_low f v) IsReady Never Never IsRefusal IsRefusal (meaning most fuel placing s') (omega arith)
                (λ v done. (Keeps-then (Below g) (Before (pos k o)) s s' v (keeps_of s' kept') done.0, done.1, done.2)) (λ v y. y) (λ code y. y)
                (place_ends columns Has size wide has_same k o d u before g h d_low h_low small most fuel rows r slot_low s' has' (omega (arith, kept.many, room)) (kept.below h h_low.1 ∙ h_is) (λ f here is. missed.others f here is) fill (places fresh s' kept') enough)),
          ))

      updated : (t : LowState) → IsReady t → Ends (sizes.size update * W) P Never IsRefusal (meaning most fuel update t)
      updated t ready =
          let e : Row = ready.1 in
          let at = at_e rows r slot_low e t ready.2 in
          Ends-weaker (sizes.size update * W) (sizes.size update * W) (λ w. InPlace e.part (e.offset + 8) (e.offset + size) (g + 1) t w × Has longer w.cells e.part e.offset e.values) P Never Never none IsRefusal (meaning most fuel update t) (omega arith)
          (λ w done. (Keeps-then (Below g) (Before (pos k o)) s t w ready.0 (changed_keeps rows r slot_low e t ready.2 w done.0), changed_ends rows r slot_low e t ready.2 w done.0 done.1)) (λ w y. y) (λ code y. absurd y)
          (updates e t ready.0 ready.2.g_is (sized_e rows r slot_low e t ready.2) at.2 at.0 ready.2.is_it at.3)

      abbrev each_turn : ℕ
      each_turn = sizes.size test.block * V + (cost test.out + 5) + 3

      pub group_ends : Ends (length (has.chains j) * each_turn + (11 + (m + sizes.size update * W))) P Never IsRefusal (meaning most fuel (group_block size d h g test fill update) s)
      group_ends =
          let n : ℕ = length (has.chains j) * each_turn in
          Ends-more P Never IsRefusal (n + 9 + (2 + m + sizes.size update * W)) (n + (11 + (m + sizes.size update * W))) (meaning most fuel (group_block size d h g test fill update) s) (omega arith)
          (Ends-then P Never IsRefusal (n + 9) (2 + m + sizes.size update * W) F (meaning most fuel (find_block d h g test) s) (meaning most fuel (seq (conditional (local g) skip placing) update))
          (Ends-weaker (n + 9) (n + 9) F F Never Never none IsRefusal (meaning most fuel (find_block d h g test) s) (omega arith) (λ q x. x) (λ q x. x) (λ code x. absurd x)
          (find_ends columns Has size most fuel d h g k o u before V rows s has j key slot_low d_low.1 h_low.1 h_is room more test searches))
          (λ t found. Ends-then P Never IsRefusal (2 + m) (sizes.size update * W) IsReady (meaning most fuel (conditional (local g) skip placing) t) (meaning most fuel update) (chooses t (⊎_elim (λ met. met.1.kept) (λ missed. missed.kept) found) found) updated))

    -- n turns and the rest, where the whole is there n times V times and W times
    spread-turns : (n T C B U S N : ℕ) → T + C + (B + U) ≤ S → n * V + W ≤ N → n * (T * V + C) + (B + U * W) ≤ S * N
    spread-turns n T C B U S N all le =
        let v1 : C ≤ C * V = at_least C V some in
        let w1 : B ≤ B * W = at_least B W some_more in
        let one : T * V + C ≤ S * V = (let a : (T + C) * V ≤ S * V = mul-le (T + C) V S V (omega (arith, all)) (omega arith) in omega (arith, a, v1, add-mul T C V)) in
        let two : B + U * W ≤ S * W = (let a : (B + U) * W ≤ S * W = mul-le (B + U) W S W (omega (arith, all)) (omega arith) in omega (arith, a, w1, add-mul B U W)) in
        let three : n * (T * V + C) ≤ n * (S * V) = mul-le n (T * V + C) n (S * V) (omega arith) one in
        let four : S * (n * V + W) ≤ S * N = mul-le S (n * V + W) S N (omega arith) le in
        let five : S * (n * V + W) ≡ n * (S * V) + S * W = mul-add S (n * V) W ∙ ap (λ (q : ℕ). q + S * W) (turned S n V) in
        omega (arith, two, three, four, five)
      where
        turned : (S n V : ℕ) → S * (n * V) ≡ n * (S * V)
        turned S n V = sym (mul_assoc S n V) ∙ (ap (λ (q : ℕ). q * V) (mul_comm S n) ∙ mul_assoc n S V)

    -- So it feeds the groups.
    module _ (May : List (List Val) → Type 0) (beginnings : (rows more : List (List Val)) → May (rows ++ more) → May rows) (units : ℕ) (below : units < fuel)
        (enough : (xs : List (List Val)) → May xs → before + length (keys columns xs) * size + 2 * u < (most + 1) * u) (met : (xs : List (List Val)) → May xs → length (in_slot slot j (keys columns xs)) ≤ units) where
      pub group_feeds : (N : ℕ) → units * V + W ≤ N → (s : LowState) → ((rows : List (List Val)) → May (rows ++ r ∷ []) → Searches rows s) → ((rows : List (List Val)) → May (rows ++ r ∷ []) → Updates rows s) → ((rows : List (List Val)) → May (rows ++ r ∷ []) → Places rows s) →
          slice_get s.locals h ≡ Some (Number (4 * j)) → g + 1 < length s.locals →
          FeedsTo (groups_sink columns Has size k o d u before May beginnings) most fuel N (Below g) Any (one_row r) (group_block size d h g test fill update) s
      group_feeds N le s searches updates places h_is room so_far has may =
          let before_r : May so_far = beginnings so_far (r ∷ []) may in
          let chain : length (has.chains j) ≡ length (in_slot slot j (keys columns so_far)) = sym (values-many (has.chains j)) ∙ sym (length_permutation (values_of (has.chains j)) (in_slot slot j (keys columns so_far)) (has.same j slot_low)) in
          let n : ℕ = length (has.chains j) in
          let short : n ≤ units = omega (arith, chain, met so_far before_r) in
          let Q : LowState → Type 0 = λ t. Keeps (Below g) (Before (pos k o)) s t × HasGroups columns Has size k o d u before (so_far ++ r ∷ []) t in
          let S : ℕ = sizes.size (group_block size d h g test fill update) in
          let T : ℕ = sizes.size test.block in
          let C : ℕ = cost test.out + 5 + 3 in
          let B : ℕ = 11 + (16 + (sizes.size fill + 21) + 4) in
          let U : ℕ = sizes.size update in
          let all : n * V + W ≤ N = (let fewer : n * V ≤ units * V = mul-le n V units V short (omega arith) in omega (arith, fewer, le)) in
          let bound : n * (T * V + C) + (B + U * W) ≤ S * N = spread-turns n T C B U S N (omega arith) all in
          let same : n * (T * V + (cost test.out + 5) + 3) ≡ n * (T * V + C) = ap (λ (q : ℕ). n * q) (omega arith) in
          Ends-weaker (n * (T * V + (cost test.out + 5) + 3) + (11 + (16 + (sizes.size fill + 21) + 4 + U * W))) (S * N) Q (FedTo (groups_sink columns Has size k o d u before May beginnings) (Below g) Any (one_row r) so_far s) Never Never IsRefusal (Tells [])
          (meaning most fuel (group_block size d h g test fill update) s) (omega (arith, bound, same))
          (λ t done. record { none = refl; keeps = done.0; has = done.1; after = tt }) (λ t x. x) (λ code refused. inl refused)
          (group_ends s so_far has (searches so_far may) (updates so_far may) (places so_far may) h_is room (omega (arith, short, below)) (enough so_far before_r))
