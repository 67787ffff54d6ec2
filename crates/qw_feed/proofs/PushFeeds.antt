-- A row is added to the result: a block that feeds it.
use Rattle.std.proofs.Common.{◌≡◌, ℕ, suc, ◌+◌, ◌-◌, ◌*◌, ◌^◌, ◌%◌, ◌<◌, ◌≤◌, ◌⊎◌, ◌++◌, inl, inr, List, [], ◌∷◌, length, length-append, length-set, Some, slice_get, slice_set, refl, sym, ap, ◌∙◌, subst, ⊎_elim, arith, suc-mul}
use Rattle.std.proofs.lemmas.Bool.{le-leb}
use Rattle.std.proofs.lemmas.Nat.{mul-le}
use Rattle.qw_types.specs.declared.value.Val.{Val}
use Rattle.qw_linear.specs.Memory.{page}
use Rattle.qw_map.proofs.TurnFacts.{slice_get-set_same, slice_get-set_other}
use Rattle.qw_module.specs.declared.instruction.ValType.TheVariants.{I32, I64}
use Rattle.qw_module.specs.declared.instruction.Const.TheVariants as const
use Rattle.qw_module.specs.declared.instruction.Binary.TheVariants.{Add, Sub}
use Rattle.qw_module.specs.declared.instruction.Store.TheVariants as stores
use Rattle.qw_low.specs.Syntax.{constant_of, local, binop, advance, Statement, seq, assign}
use Rattle.qw_low.specs.State.{Own, Value, Number, Address, Cells, LowState, with_cell}
use Rattle.qw_low.specs.Meaning.{value, meaning}
use Rattle.qw_low.specs.Size as sizes
use Rattle.qw_low.specs.Promise.{Ends}
use Rattle.qw_low.specs.Raising.{Kept}
use Rattle.qw_low.proofs.Promises.{Ends-weaker, Ends-then, assign_ends}
use Rattle.qw_low.proofs.Results.{at_least}
use Rattle.qw_low.proofs.BlockSteps.{assign_then, store_then}
use Rattle.qw_feed.specs.Feeds.{one_row, Tells, Any, FedTo, FeedsTo}
use Rattle.qw_feed.specs.Frames.{pos, Before, Outside, From, Keeps, Stored}
use Rattle.qw_feed.specs.Room.{i32, room_block, Paid}
use Rattle.qw_feed.specs.Rows.{Row, address, start_of, in_order, AreRows, tail_part, tail_offset, link_block, push_block, BesideRoot, HasRows, rows_sink, Filled, Fills}
use Rattle.qw_feed.proofs.Frames.{Never, with_cell-same, with_cell-apart, Stored-cell, Keeps-set, Keeps-stored, Keeps-less}
use Rattle.qw_feed.proofs.RoomRuns.{IsRefusal, room-kept, Roomy, room_ends}
use Rattle.qw_feed.proofs.RowChains.{AreRows-le, relinked, tail_before}

pub in-order-many : (found : List Row) → length (in_order found) ≡ length found
in-order-many [] = refl
in-order-many (r ∷ found) = length-append (in_order found) (r.values ∷ []) ∙ (let more = in-order-many found in omega (arith, more))

module _ (Has : Cells → ℕ → ℕ → List Val → Type 0) (size : ℕ) (wide : 8 ≤ size)
    (has_same : (c c' : Cells) (k o : ℕ) (values : List Val) → ((a b : ℕ) → o + 8 ≤ a → a + b ≤ o + size → c' (Own k) a b ≡ c (Own k) a b) → Has c k o values → Has c' k o values)
    (base u before : ℕ) (small : size + u ≤ page) (most fuel : ℕ) where
  abbrev Rows : List (List Val) → LowState → Type 0
  Rows = HasRows Has size base u before

  -- the rows are kept where the locals of the result are
  pub rows_kept : (n : ℕ) → 5 ≤ n → (rows : List (List Val)) (s t : LowState) → Kept n s t → Rows rows s → Rows rows t
  rows_kept n low rows s t kept h = record {
    found = h.found;
    values_are = h.values_are;
    part = h.part;
    offset = h.offset;
    behind = h.behind;
    room = room-kept h.part h.offset n s t (omega (arith, low)) kept h.room;
    descriptor = kept.below 0 (omega (arith, low)) ∙ h.descriptor;
    link = kept.below 3 (omega (arith, low)) ∙ h.link;
    count = kept.below 4 (omega (arith, low)) ∙ h.count;
    chain = subst (λ (c : Cells). AreRows Has size c base (pos h.part h.offset) (Number 0) h.found) (sym (ap (λ (r : LowState). r.cells) kept.others)) h.chain;
    paid = subst (λ (held : ℕ). Paid u (before + length h.found * size) h.offset held) (sym (ap (λ (r : LowState). r.held) kept.others)) h.paid;
  }

  -- rows lie one behind another, so there are no more than fit the pages
  rows-within : (c : Cells) (front : ℕ) (next : Value) (rs : List Row) → AreRows Has size c base front next rs → length rs * size ≤ front
  rows-within c front next [] h = omega arith
  rows-within c front next (r ∷ rs) h = let below = rows-within c (start_of r) (address r) rs h.4 in omega (arith, below, h.2, suc-mul (length rs) size)

  -- the count of rows doesn't overflow
  pub counts : (rows : List (List Val)) (s : LowState) (has : Rows rows s) → length has.found + 1 < 2 ^ 64
  counts rows s has =
      let below = rows-within s.cells (pos has.part has.offset) (Number 0) has.found has.chain in
      let each : length has.found * 8 ≤ length has.found * size = mul-le (length has.found) 8 (length has.found) size (omega arith) wide in
      omega (arith, below, each, has.room.within, has.room.last, has.room.owned, has.room.limited, has.room.few)

  module _ (rows : List (List Val)) (vs : List Val) (s : LowState) (has : Rows rows s) (many : 5 ≤ length s.locals) where
    abbrev found : List Row
    found = has.found

    few : length found + 1 < 2 ^ 64
    few = counts rows s has

    abbrev front : ℕ
    front = pos has.part has.offset

    base_low : base ≤ front
    base_low = AreRows-le Has size wide has_same s.cells base front (Number 0) found has.chain

    abbrev Post : LowState → Type 0
    Post t = Keeps (From 5) (BesideRoot base) s t × Rows (rows ++ vs ∷ []) t

    abbrev tail : ℕ
    tail = pos (tail_part found) (tail_offset found)

    tail_is : (tail + 8 ≤ front) × ((tail ≡ 8) ⊎ (base ≤ tail)) × (tail_offset found + 8 ≤ page)
    tail_is = tail_before Has size wide has_same s.cells base front (Number 0) found has.behind has.chain

    module _ (t : LowState) (r : Roomy size u (before + length found * size) front s t) where
      abbrev k : ℕ
      k = r.part

      abbrev o : ℕ
      o = r.offset

      abbrev new : Row
      new = record { part = k; offset = o; values = vs }

      module _ (t1 : LowState) (stored : Stored (Outside (pos k (o + 8)) (pos k (o + size))) t t1) (filled : Has t1.cells k o vs) where
        locals1 : t1.locals ≡ t.locals
        locals1 = ap (λ (w : LowState). w.locals) stored.others

        own1 : t1.own ≡ t.own
        own1 = ap (λ (w : LowState). w.own) stored.others

        old1 : (i : ℕ) (w : Value) → From 3 i → slice_get s.locals i ≡ Some w → slice_get t1.locals i ≡ Some w
        old1 i w old is = ap (λ (xs : List Value). slice_get xs i) locals1 ∙ (r.keeps.locals i old ∙ is)

        many1 : length t1.locals ≡ length s.locals
        many1 = ap (λ (xs : List Value). length xs) locals1 ∙ r.keeps.many

        free1 : slice_get t1.locals 1 ≡ Some (address new)
        free1 = ap (λ (xs : List Value). slice_get xs 1) locals1 ∙ r.room.free

        left1 : slice_get t1.locals 2 ≡ Some (Number (page - o))
        left1 = ap (λ (xs : List Value). slice_get xs 2) locals1 ∙ r.room.left

        sized1 : (j : ℕ) → j ≤ k → slice_get t1.own j ≡ Some page
        sized1 j under = ap (λ (xs : List ℕ). slice_get xs j) own1 ∙ r.room.pages j under

        abbrev t2 : LowState
        t2 = record t1 { cells = with_cell t1.cells (Own (tail_part found)) (tail_offset found) 4 (address new) }

        abbrev t3 : LowState
        t3 = record t2 { locals = slice_set t2.locals 3 (address new) }

        abbrev t4 : LowState
        t4 = record t3 { locals = slice_set t3.locals 1 (Address (Own k) (o + size)) }

        abbrev t5 : LowState
        t5 = record t4 { locals = slice_set t4.locals 2 (Number (page - (o + size))) }

        abbrev t6 : LowState
        t6 = record t5 { locals = slice_set t5.locals 4 (Number (suc (length found))) }

        many3 : length t3.locals ≡ length s.locals
        many3 = length-set t2.locals 3 (address new) ∙ many1

        many4 : length t4.locals ≡ length s.locals
        many4 = length-set t3.locals 1 (Address (Own k) (o + size)) ∙ many3

        many5 : length t5.locals ≡ length s.locals
        many5 = length-set t4.locals 2 (Number (page - (o + size))) ∙ many4

        Apart : ℕ → ℕ → Type 0
        Apart at width = Outside (pos k (o + 8)) (pos k (o + size)) at width × Outside tail (tail + 4) at width

        stored2 : Stored Apart t t2
        unfolding Apart
        stored2 = Stored-cell Apart t t1 (tail_part found) (tail_offset found) 4 (address new) (omega arith) (λ at width apart. apart.1)
            (record { others = stored.others; mapped = stored.mapped; cells = λ j a b apart. stored.cells j a b apart.0 })

        spares : (at width : ℕ) → BesideRoot base at width → Apart at width
        unfolding Apart
        spares at width side = (inl (beside_row side), beside_tail side)
          where
            beside_row : BesideRoot base at width → at + width ≤ pos k (o + 8)
            beside_row side = ⊎_elim (λ l. omega (arith, l, base_low, has.behind, r.behind)) (λ g. omega (arith, g.1, base_low, r.behind)) side

            beside_tail : BesideRoot base at width → Outside tail (tail + 4) at width
            beside_tail side = ⊎_elim
                (λ root. ⊎_elim (λ l. inl (omega (arith, l, root))) (λ g. inr (omega (arith, g.0, root))) side)
                (λ high. inl (⊎_elim (λ l. omega (arith, l, high, has.behind)) (λ g. omega (arith, g.1, high)) side)) tail_is.1

        keeps_t : Keeps (From 5) (BesideRoot base) s t
        keeps_t = Keeps-less (From 5) (BesideRoot base) (From 3) (Before front) s t (λ i old. ⊎_elim (λ is. inl is) (λ g. inr (omega (arith, g))) old)
            (λ at width side. ⊎_elim (λ l. omega (arith, l, base_low, has.behind)) (λ g. omega (arith, g.1, base_low)) side) r.keeps

        keeps2 : Keeps (From 5) (BesideRoot base) s t2
        keeps2 = Keeps-stored (From 5) (BesideRoot base) Apart s t t2 spares keeps_t stored2

        other : (x : ℕ) → 1 ≤ x → x ≤ 4 → (i : ℕ) → From 5 i → i ≡ x → ⊥
        other x some under i (inl is) e = omega (arith, is, e)
        other x some under i (inr it) e = omega (arith, it, e)

        keeps6 : Keeps (From 5) (BesideRoot base) s t6
        keeps6 = Keeps-set (From 5) (BesideRoot base) s t5 4 (Number (suc (length found))) (other 4 (omega arith) (omega arith))
            (Keeps-set (From 5) (BesideRoot base) s t4 2 (Number (page - (o + size))) (other 2 (omega arith) (omega arith))
            (Keeps-set (From 5) (BesideRoot base) s t3 1 (Address (Own k) (o + size)) (other 1 (omega arith) (omega arith))
            (Keeps-set (From 5) (BesideRoot base) s t2 3 (address new) (other 3 (omega arith) (omega arith)) keeps2)))

        link_now : t2.cells (Own (tail_part found)) (tail_offset found) 4 ≡ Some (address new)
        link_now = with_cell-same t1.cells (tail_part found) (tail_offset found) 4 (address new)

        row_cells : (a b : ℕ) → o ≤ a → t2.cells (Own k) a b ≡ t1.cells (Own k) a b
        row_cells a b from = with_cell-apart t1.cells (tail_part found) (tail_offset found) 4 (address new) k a b (omega arith) (inr (omega (arith, tail_is.0, r.behind)))

        new_link : t2.cells (Own k) o 4 ≡ Some (Number 0)
        new_link = row_cells o 4 (omega arith) ∙ (stored.cells k o 4 (inl (omega arith)) ∙ r.room.zeros o 4 (omega arith) (omega (arith, r.fits)))

        older : (j a b : ℕ) → (base ≤ pos j a) ⊎ (pos j a + b ≤ 12) → pos j a + b ≤ front → Outside tail (tail + 4) (pos j a) b → t2.cells (Own j) a b ≡ s.cells (Own j) a b
        unfolding Apart
        older j a b side below apart = stored2.cells j a b (inl (omega (arith, below, r.behind)), apart) ∙ r.keeps.cells j a b below

        chain' : AreRows Has size t2.cells base (pos k (o + size)) (Number 0) (new ∷ found)
        chain' = (
          new_link,
          has_same t1.cells t2.cells k o vs (λ a b from to. row_cells a b (omega arith)) filled,
          omega arith,
          r.fits,
          relinked Has size wide has_same s.cells t2.cells base front (pos k o) (Number 0) (address new) found has.behind r.behind link_now older has.chain,
        )

        free_now : (a b : ℕ) → o + size ≤ a → a + b ≤ page → t2.cells (Own k) a b ≡ Some (Number 0)
        free_now a b from to = row_cells a b (omega arith) ∙ (stored.cells k a b (inr (omega arith)) ∙ r.room.zeros a b (omega arith) to)

        free_is : slice_get t6.locals 1 ≡ Some (Address (Own k) (o + size))
        free_is = slice_get-set_other t5.locals 4 1 (Number (suc (length found))) (λ e. omega (arith, e)) ∙ (slice_get-set_other t4.locals 2 1 (Number (page - (o + size))) (λ e. omega (arith, e))
            ∙ slice_get-set_same t3.locals 1 (Address (Own k) (o + size)) (omega (arith, many3)))

        left_is : slice_get t6.locals 2 ≡ Some (Number (page - (o + size)))
        left_is = slice_get-set_other t5.locals 4 2 (Number (suc (length found))) (λ e. omega (arith, e)) ∙ slice_get-set_same t4.locals 2 (Number (page - (o + size))) (omega (arith, many4))

        link_is : slice_get t6.locals 3 ≡ Some (address new)
        link_is = slice_get-set_other t5.locals 4 3 (Number (suc (length found))) (λ e. omega (arith, e)) ∙ (slice_get-set_other t4.locals 2 3 (Number (page - (o + size))) (λ e. omega (arith, e))
            ∙ (slice_get-set_other t3.locals 1 3 (Address (Own k) (o + size)) (λ e. omega (arith, e)) ∙ slice_get-set_same t2.locals 3 (address new) (omega (arith, many1))))

        count_is : slice_get t6.locals 4 ≡ Some (Number (suc (length found)))
        count_is = slice_get-set_same t5.locals 4 (Number (suc (length found))) (omega (arith, many5))

        held1 : t1.held ≡ t.held
        held1 = ap (λ (w : LowState). w.held) stored.others

        paid6 : Paid u (before + suc (length found) * size) (o + size) t.held
        paid6 = ⊎_elim inl (λ so. inr (omega (arith, so, suc-mul (length found) size))) r.paid

        pushed : Post t6
        pushed = (
          keeps6,
          record {
            found = new ∷ found;
            values_are = ap (λ (a : List (List Val)). a ++ vs ∷ []) has.values_are;
            part = k;
            offset = o + size;
            behind = has.behind;
            room = record {
              last = ap (λ (xs : List ℕ). length xs) own1 ∙ r.room.last;
              pages = sized1;
              within = r.fits;
              free = free_is;
              left = left_is;
              zeros = free_now;
              owned = omega (arith, r.room.owned, ap (λ (xs : List ℕ). length xs) own1, ap (λ (w : LowState). w.held) stored.others);
              limited = omega (arith, r.room.limited, ap (λ (w : LowState). w.held) stored.others);
              few = omega (arith, r.room.few, ap (λ (w : LowState). w.limit) stored.others);
            };
            descriptor = keeps6.locals 0 (inl refl) ∙ has.descriptor;
            link = link_is;
            count = count_is;
            chain = chain';
            paid = subst (λ (held : ℕ). Paid u (before + suc (length found) * size) (o + size) held) (sym held1) paid6;
          },
        )

        behind_is : value t3 (advance (local 1) (i32 size)) ≡ Some (Address (Own k) (o + size))
        behind_is =
            let at : slice_get t3.locals 1 ≡ Some (Address (Own k) o) = slice_get-set_other t2.locals 3 1 (address new) (λ e. omega (arith, e)) ∙ free1 in
            rw (at, sized1 k (omega arith), le-leb (o + size) page r.fits) refl

        left_then : value t4 (binop I32 Sub (local 2) (i32 size)) ≡ Some (Number (page - (o + size)))
        left_then =
            let at : slice_get t4.locals 2 ≡ Some (Number (page - o)) = slice_get-set_other t3.locals 1 2 (Address (Own k) (o + size)) (λ e. omega (arith, e)) ∙ (slice_get-set_other t2.locals 3 2 (address new) (λ e. omega (arith, e)) ∙ left1) in
            let difference : (page - o + 2 ^ 32 - size) % 2 ^ 32 ≡ page - (o + size) = omega (arith, r.fits) in
            rw (at, difference) refl

        count_then : value t5 (binop I64 Add (local 4) (constant_of (const.I64 1))) ≡ Some (Number (suc (length found)))
        count_then =
            let at : slice_get t5.locals 4 ≡ Some (Number (length found)) = slice_get-set_other t4.locals 2 4 (Number (page - (o + size))) (λ e. omega (arith, e)) ∙ (slice_get-set_other t3.locals 1 4 (Address (Own k) (o + size)) (λ e. omega (arith, e)) ∙ (slice_get-set_other t2.locals 3 4 (address new) (λ e. omega (arith, e)) ∙ old1 4 _ (inr (omega arith)) has.count)) in
            let sum : (length found + 1) % 2 ^ 64 ≡ suc (length found) = omega (arith, few) in
            rw (at, sum) refl

        part_low : tail_part found ≤ k
        part_low = omega (arith, tail_is.0, r.behind, r.room.within)

        abbrev counting : Statement
        counting = assign 4 (binop I64 Add (local 4) (constant_of (const.I64 1)))

        abbrev lessening : Statement
        lessening = seq (assign 2 (binop I32 Sub (local 2) (i32 size))) counting

        abbrev moving : Statement
        moving = seq (assign 1 (advance (local 1) (i32 size))) lessening

        pub link_ends : Ends 17 Post Never IsRefusal (meaning most fuel (link_block size) t1)
        link_ends = store_then Post Never IsRefusal most fuel t1 14 (seq (assign 3 (local 1)) moving) (stores.Full I32) 0 (local 3) (local 1) (tail_part found) (tail_offset found) page (tail_offset found) (address new) (address new)
            (old1 3 (Address (Own (tail_part found)) (tail_offset found)) (inr (omega arith)) has.link) (omega arith) free1 refl (sized1 (tail_part found) part_low) (omega (arith, tail_is.2))
            (assign_then Post Never IsRefusal most fuel t2 12 moving 3 (local 1) (address new) free1 (omega (arith, many1))
            (assign_then Post Never IsRefusal most fuel t3 8 lessening 1 (advance (local 1) (i32 size)) (Address (Own k) (o + size)) behind_is (omega (arith, many3))
            (assign_then Post Never IsRefusal most fuel t4 4 counting 2 (binop I32 Sub (local 2) (i32 size)) (Number (page - (o + size))) left_then (omega (arith, many4))
            (assign_ends Post Never IsRefusal most fuel 4 (binop I64 Add (local 4) (constant_of (const.I64 1))) (Number (suc (length found))) t5 count_then (omega (arith, many5)) pushed))))

    pub push_ends : (fill : Statement) → Fills Has size base most fuel vs fill s → before + length found * size + 2 * u < (most + 1) * u →
        Ends (16 + (sizes.size fill + 17)) Post Never IsRefusal (meaning most fuel (push_block size fill) s)
    push_ends fill fills enough =
        Ends-then Post Never IsRefusal 16 (sizes.size fill + 17) (Roomy size u (before + length found * size) front s) (meaning most fuel (room_block size) s) (meaning most fuel (seq fill (link_block size)))
        (room_ends most fuel size u (before + length found * size) (before + length found * size) (omega (arith, small)) (omega arith) (omega (arith, small)) s (omega (arith, many)) has.part has.offset has.room has.paid enough)
        (λ t r. Ends-then Post Never IsRefusal (sizes.size fill) 17 (Filled Has size r.part r.offset vs t) (meaning most fuel fill t) (meaning most fuel (link_block size))
        (Ends-weaker (sizes.size fill) (sizes.size fill) (Filled Has size r.part r.offset vs t) (Filled Has size r.part r.offset vs t) Never Never (λ code. ⊥) IsRefusal (meaning most fuel fill t) (omega arith) (λ u x. x) (λ u x. x) (λ code x. absurd x)
        (fills t r.part r.offset (Keeps-less (From 3) (Before base) (From 3) (Before front) s t (λ i old. old) (λ at width below. omega (arith, below, base_low)) r.keeps) r.room.free (r.room.pages r.part (omega arith)) r.fits (omega (arith, base_low, r.behind)) r.room.zeros))
        (λ t1 done. link_ends t r t1 done.0 done.1))

  -- so it feeds the result, where what was placed pays for the pages
  pub push_feeds : (May : List (List Val) → Type 0) (beginnings : (rows more : List (List Val)) → May (rows ++ more) → May rows) → ((rows : List (List Val)) → May rows → before + length rows * size + 2 * u < (most + 1) * u) →
      (N : ℕ) → 1 ≤ N → (vs : List Val) (s : LowState) (fill : Statement) → 5 ≤ length s.locals → Fills Has size base most fuel vs fill s →
      FeedsTo (rows_sink Has size base u before May beginnings) most fuel N (From 5) Any (one_row vs) (push_block size fill) s
  push_feeds May beginnings enough N some vs s fill many fills so_far has within =
      let count : length has.found ≡ length so_far = sym (in-order-many has.found) ∙ ap (λ (rs : List (List Val)). length rs) has.values_are in
      let all : ℕ = length (so_far ++ vs ∷ []) in
      let more : length so_far ≤ all = omega (arith, length-append so_far (vs ∷ [])) in
      let less : length has.found * size ≤ all * size = mul-le (length has.found) size all size (omega (arith, count, more)) (omega arith) in
      let paid = enough (so_far ++ vs ∷ []) within in
      Ends-weaker (16 + (sizes.size fill + 17)) (sizes.size (push_block size fill) * N) (Post so_far vs s has many) (FedTo (rows_sink Has size base u before May beginnings) (From 5) Any (one_row vs) so_far s) Never Never IsRefusal (Tells []) (meaning most fuel (push_block size fill) s)
      (let least = at_least (sizes.size (push_block size fill)) N some in omega (arith, least))
      (λ t done. record { none = refl; keeps = done.0; has = done.1; after = tt })
      (λ t y. y) (λ code refused. inl refused)
      (push_ends so_far vs s has many fill fills (omega (arith, paid, less)))
