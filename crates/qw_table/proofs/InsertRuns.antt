-- An entry is added to a table.
use Rattle.std.proofs.Common.{◌≡◌, ◌≢◌, ℕ, suc, ◌+◌, ◌-◌, ◌*◌, ◌^◌, ◌%◌, ◌<◌, ◌≤◌, ◌==◌, ◌++◌, inl, inr, true, false, List, [], ◌∷◌, length, length-append, length-set, Some, slice_get, slice_set, refl, sym, ap, ◌∙◌, subst, ⊎_elim, arith, suc-mul}
use Rattle.std.proofs.lemmas.Bool.{cases_eq, cases_lt, eq-eqb, ne_eqb, le-leb}
use Rattle.std.specs.List.Sorted.{IsPermutation}
use Rattle.std.proofs.lemmas.Nat.{mul-le}
use Rattle.std.proofs.lemmas.List.Sorted.{IsPermutation-cons, IsPermutation-sym, IsPermutation-trans, IsPermutation-to_front}
use Rattle.qw_types.specs.declared.value.Val.{Val}
use Rattle.qw_linear.specs.Memory.{page}
use Rattle.qw_map.proofs.TurnFacts.{slice_get-set_same, slice_get-set_other}
use Rattle.qw_module.specs.declared.instruction.ValType.TheVariants.{I32}
use Rattle.qw_module.specs.declared.instruction.Binary.TheVariants.{Sub}
use Rattle.qw_module.specs.declared.instruction.Load.TheVariants as loads
use Rattle.qw_module.specs.declared.instruction.Store.TheVariants as stores
use Rattle.qw_low.specs.Syntax.{local, binop, advance, Statement, seq, assign, store}
use Rattle.qw_low.specs.State.{Own, Value, Number, Address, Cells, LowState, with_cell}
use Rattle.qw_low.specs.Meaning.{value, meaning}
use Rattle.qw_low.specs.Size as sizes
use Rattle.qw_low.specs.Promise.{Ends}
use Rattle.qw_low.proofs.Promises.{Ends-weaker, Ends-then, assign_ends}
use Rattle.qw_low.proofs.Results.{at_least}
use Rattle.qw_low.proofs.BlockSteps.{assign_then, load_then, store_then}
use Rattle.qw_feed.specs.Feeds.{one_row, Tells, Any, FedTo, FeedsTo}
use Rattle.qw_feed.specs.Frames.{pos, Before, Outside, From, But, Keeps, Stored}
use Rattle.qw_feed.specs.Room.{i32, room_block, HasRoom, Paid}
use Rattle.qw_feed.specs.Rows.{Row, address, Filled, Fills}
use Rattle.qw_feed.proofs.Frames.{Never, with_cell-same, with_cell-apart, Stored-none, Stored-cell, Keeps-set, Keeps-stored, Keeps-less}
use Rattle.qw_feed.proofs.RoomRuns.{IsRefusal, Roomy, room_ends}
use Rattle.qw_table.specs.Tables.{newest, values_of, Linked, IsDirectory, with_entry, in_slot, HasTable, table_sink, slot_at, enter_block, insert_block}
use Rattle.qw_table.proofs.Chains.{newest-stored, newest-loaded, Linked-same, Linked-wider, slot-more, slot-other}

-- An entry has been added to chain j, at the place where free space began or in a new page: what else stands before that place is as it was, but
-- for the slot itself.
pub record Entered (Has : Cells → ℕ → ℕ → List Val → Type 0) (size k o x u budget front j : ℕ) (chains : ℕ → List Row) (v : List Val) (s t : LowState) : Type 0 where
  pub part : ℕ
  pub offset : ℕ
  pub behind : front ≤ pos part offset
  pub room : HasRoom part (offset + size) t
  pub keeps : Keeps (But x (From 3)) (Before (pos k o)) s t
  pub older : (i a b : ℕ) → pos i a + b ≤ front → Outside (pos k (o + 4 * j)) (pos k (o + 4 * j) + 4) (pos i a) b → t.cells (Own i) a b ≡ s.cells (Own i) a b
  pub link : t.cells (Own part) offset 4 ≡ Some (newest (chains j))
  pub has : Has t.cells part offset v
  pub directory : IsDirectory k o (pos part (offset + size)) (with_entry chains j (record { part = part; offset = offset; values = v })) t.cells t.own
  pub paid : Paid u (budget + size) (offset + size) t.held

module _ (Has : Cells → ℕ → ℕ → List Val → Type 0) (size : ℕ) (wide : 8 ≤ size)
    (has_same : (c c' : Cells) (k o : ℕ) (values : List Val) → ((a b : ℕ) → o + 8 ≤ a → a + b ≤ o + size → c' (Own k) a b ≡ c (Own k) a b) → Has c k o values → Has c' k o values)
    (k o d u x h : ℕ) (d_low : (5 ≤ d) × (d < x)) (h_low : (5 ≤ h) × (h < x)) (small : size + u ≤ page) (most fuel : ℕ) where
  module _ (chains : ℕ → List Row) (j : ℕ) (j_low : j < 1024) (v : List Val) (s : LowState) (part offset budget : ℕ) (free : HasRoom part offset s) (paid : Paid u budget offset s.held)
      (at_d : slice_get s.locals d ≡ Some (Address (Own k) o)) (directory : IsDirectory k o (pos part offset) chains s.cells s.own) (room : x < length s.locals) (h_is : slice_get s.locals h ≡ Some (Number (4 * j))) where
    abbrev front : ℕ
    front = pos part offset

    behind : pos k (o + 4096) ≤ front
    behind = directory.behind

    abbrev Post : LowState → Type 0
    Post = Entered Has size k o x u budget front j chains v s

    module _ (t : LowState) (r : Roomy size u budget front s t) where
      abbrev p : ℕ
      p = r.part

      abbrev off : ℕ
      off = r.offset

      abbrev new : Row
      new = record { part = p; offset = off; values = v }

      abbrev place : ℕ
      place = o + 4 * j

      abbrev head : Value
      head = newest (chains j)

      module _ (t1 : LowState) (stored : Stored (Outside (pos p (off + 8)) (pos p (off + size))) t t1) (filled : Has t1.cells p off v) where
        locals1 : t1.locals ≡ t.locals
        locals1 = ap (λ (w : LowState). w.locals) stored.others

        own1 : t1.own ≡ t.own
        own1 = ap (λ (w : LowState). w.own) stored.others

        many1 : length t1.locals ≡ length s.locals
        many1 = ap (λ (xs : List Value). length xs) locals1 ∙ r.keeps.many

        -- locals of s that are old
        old1 : (i : ℕ) (w : Value) → From 3 i → slice_get s.locals i ≡ Some w → slice_get t1.locals i ≡ Some w
        old1 i w old is = ap (λ (xs : List Value). slice_get xs i) locals1 ∙ (r.keeps.locals i old ∙ is)

        d1 : slice_get t1.locals d ≡ Some (Address (Own k) o)
        d1 = old1 d (Address (Own k) o) (inr (omega (arith, d_low.0))) at_d

        h1 : slice_get t1.locals h ≡ Some (Number (4 * j))
        h1 = old1 h (Number (4 * j)) (inr (omega (arith, h_low.0))) h_is

        sized1 : slice_get t1.own k ≡ Some page
        sized1 = ap (λ (xs : List ℕ). slice_get xs k) own1 ∙ r.keeps.own k page directory.sized

        room1 : slice_get t1.own p ≡ Some page
        room1 = ap (λ (xs : List ℕ). slice_get xs p) own1 ∙ r.room.pages p (omega arith)

        free1 : slice_get t1.locals 1 ≡ Some (address new)
        free1 = ap (λ (xs : List Value). slice_get xs 1) locals1 ∙ r.room.free

        left1 : slice_get t1.locals 2 ≡ Some (Number (page - off))
        left1 = ap (λ (xs : List Value). slice_get xs 2) locals1 ∙ r.room.left

        abbrev t2 : LowState
        t2 = record t1 { locals = slice_set t1.locals x head }

        abbrev t3 : LowState
        t3 = record t2 { cells = with_cell t2.cells (Own p) off 4 head }

        abbrev t4 : LowState
        t4 = record t3 { cells = with_cell t3.cells (Own k) place 4 (address new) }

        abbrev t5 : LowState
        t5 = record t4 { locals = slice_set t4.locals 1 (Address (Own p) (off + size)) }

        abbrev t6 : LowState
        t6 = record t5 { locals = slice_set t5.locals 2 (Number (page - (off + size))) }

        many2 : length t2.locals ≡ length s.locals
        many2 = length-set t1.locals x head ∙ many1

        many5 : length t5.locals ≡ length s.locals
        many5 = length-set t4.locals 1 (Address (Own p) (off + size)) ∙ many2

        keep2 : (i : ℕ) (w : Value) → i < x → slice_get t1.locals i ≡ Some w → slice_get t2.locals i ≡ Some w
        keep2 i w low is = slice_get-set_other t1.locals x i head (λ e. omega (arith, e)) ∙ is

        -- ---- cells
        slot_reads : t1.cells (Own k) place 4 ≡ Some head
        slot_reads = stored.cells k place 4 (inl (omega (arith, behind, j_low, r.behind))) ∙ (r.keeps.cells k place 4 (omega (arith, behind, j_low)) ∙ directory.slots j j_low)

        -- what lies from the new entry on is apart from the slot
        apart_slot : (a b : ℕ) → off ≤ a → t6.cells (Own p) a b ≡ t3.cells (Own p) a b
        apart_slot a b from = with_cell-apart t3.cells k place 4 (address new) p a b (omega arith) (inr (omega (arith, from, behind, j_low, r.behind)))

        new_link : t6.cells (Own p) off 4 ≡ Some head
        new_link = apart_slot off 4 (omega arith) ∙ with_cell-same t2.cells p off 4 head

        behind_link : (a b : ℕ) → off + 8 ≤ a → t6.cells (Own p) a b ≡ t1.cells (Own p) a b
        behind_link a b from = apart_slot a b (omega arith) ∙ with_cell-apart t2.cells p off 4 head p a b (omega arith) (inr (omega (arith, from)))

        older : (i a b : ℕ) → pos i a + b ≤ front → Outside (pos k place) (pos k place + 4) (pos i a) b → t6.cells (Own i) a b ≡ s.cells (Own i) a b
        older i a b below apart = with_cell-apart t3.cells k place 4 (address new) i a b (omega arith) apart
            ∙ (with_cell-apart t2.cells p off 4 head i a b (omega arith) (inl (omega (arith, below, r.behind)))
            ∙ (stored.cells i a b (inl (omega (arith, below, r.behind))) ∙ r.keeps.cells i a b below))

        apart_slots : (i l : ℕ) → (i ≡ l → ⊥) → Outside (pos k (o + 4 * i)) (pos k (o + 4 * i) + 4) (pos k (o + 4 * l)) 4
        apart_slots i l other = ⊎_elim (λ less. inr (omega (arith, less))) (λ more. inl (omega (arith, more, other))) (cases_lt i l)

        slots' : (i : ℕ) → i < 1024 → t6.cells (Own k) (o + 4 * i) 4 ≡ Some (newest (with_entry chains j new i))
        slots' i low = ⊎_elim
            (λ (same : j ≡ i). rw (eq-eqb j i same, ← same) (with_cell-same t3.cells k place 4 (address new)))
            (λ (other : j ≢ i). rw (ne_eqb j i other) (older k (o + 4 * i) 4 (omega (arith, behind, low)) (apart_slots j i other) ∙ directory.slots i low))
            (cases_eq j i)

        -- ---- what is kept
        abbrev Old : ℕ → Type 0
        Old = But x (From 3)

        isnt : (y : ℕ) → (1 ≤ y) × (y ≤ 2) → (i : ℕ) → Old i → i ≡ y → ⊥
        isnt y low i old e = ⊎_elim (λ is. omega (arith, is, e, low.0)) (λ from. omega (arith, from, e, low.1)) old.0

        keeps1 : Keeps Old (Before (pos k o)) s t1
        keeps1 = Keeps-stored Old (Before (pos k o)) (Outside (pos p (off + 8)) (pos p (off + size))) s t t1 (λ at width below. inl (omega (arith, below, behind, r.behind)))
            (Keeps-less Old (Before (pos k o)) (From 3) (Before front) s t (λ i old. old.0) (λ at width below. omega (arith, below, behind)) r.keeps) stored

        keeps2 : Keeps Old (Before (pos k o)) s t2
        keeps2 = Keeps-set Old (Before (pos k o)) s t1 x head (λ i old e. old.1 e) keeps1

        keeps4 : Keeps Old (Before (pos k o)) s t4
        keeps4 = Keeps-stored Old (Before (pos k o)) (Before (pos k o)) s t2 t4 (λ at width below. below) keeps2
            (Stored-cell (Before (pos k o)) t2 t3 k place 4 (address new) (omega arith) (λ at width below. inl (omega (arith, below)))
            (Stored-cell (Before (pos k o)) t2 t2 p off 4 head (omega arith) (λ at width below. inl (omega (arith, below, behind, r.behind))) (Stored-none (Before (pos k o)) t2)))

        keeps6 : Keeps Old (Before (pos k o)) s t6
        keeps6 = Keeps-set Old (Before (pos k o)) s t5 2 (Number (page - (off + size))) (isnt 2 (omega arith, omega arith))
            (Keeps-set Old (Before (pos k o)) s t4 1 (Address (Own p) (off + size)) (isnt 1 (omega arith, omega arith)) keeps4)

        zeros' : (a b : ℕ) → off + size ≤ a → a + b ≤ page → t6.cells (Own p) a b ≡ Some (Number 0)
        zeros' a b from to = behind_link a b (omega (arith, from, wide)) ∙ (stored.cells p a b (inr (omega (arith, from))) ∙ r.room.zeros a b (omega arith) to)

        room' : HasRoom p (off + size) t6
        room' = record {
          last = ap (λ (xs : List ℕ). length xs) own1 ∙ r.room.last;
          pages = λ i low. ap (λ (xs : List ℕ). slice_get xs i) own1 ∙ r.room.pages i low;
          within = r.fits;
          free = slice_get-set_other t5.locals 2 1 (Number (page - (off + size))) (λ e. omega (arith, e)) ∙ slice_get-set_same t4.locals 1 (Address (Own p) (off + size)) (omega (arith, many2, room, d_low.0, d_low.1));
          left = slice_get-set_same t5.locals 2 (Number (page - (off + size))) (omega (arith, many5, room, d_low.0, d_low.1));
          zeros = zeros';
          owned = omega (arith, r.room.owned, ap (λ (xs : List ℕ). length xs) own1, ap (λ (w : LowState). w.held) stored.others);
          limited = omega (arith, r.room.limited, ap (λ (w : LowState). w.held) stored.others);
          few = omega (arith, r.room.few, ap (λ (w : LowState). w.limit) stored.others);
        }

        paid' : Paid u (budget + size) (off + size) t.held
        paid' = ⊎_elim inl (λ so. inr (omega (arith, so))) r.paid

        held1 : t1.held ≡ t.held
        held1 = ap (λ (w : LowState). w.held) stored.others

        entered : Post t6
        entered = record {
          part = p;
          offset = off;
          behind = r.behind;
          room = room';
          keeps = keeps6;
          older = older;
          link = new_link;
          has = has_same t1.cells t6.cells p off v (λ a b from to. behind_link a b from) filled;
          directory = record {
            sized = sized1;
            inside = directory.inside;
            behind = omega (arith, behind, r.behind);
            slots = slots';
          };
          paid = subst (λ (held : ℕ). Paid u (budget + size) (off + size) held) (sym held1) paid';
        }

        -- ---- values on the way
        slot_then : (w : LowState) → slice_get w.locals d ≡ Some (Address (Own k) o) → slice_get w.locals h ≡ Some (Number (4 * j)) → w.own ≡ t1.own → value w (slot_at d h) ≡ Some (Address (Own k) place)
        slot_then w at slot_is own =
            let sized : slice_get w.own k ≡ Some page = ap (λ (xs : List ℕ). slice_get xs k) own ∙ sized1 in
            rw (at, slot_is, sized, le-leb place page (omega (arith, directory.inside, j_low))) refl

        further : value t4 (advance (local 1) (i32 size)) ≡ Some (Address (Own p) (off + size))
        further = rw (keep2 1 (address new) (omega (arith, d_low.0, d_low.1)) free1, room1, le-leb (off + size) page r.fits) refl

        fewer : value t5 (binop I32 Sub (local 2) (i32 size)) ≡ Some (Number (page - (off + size)))
        fewer =
            let at : slice_get t5.locals 2 ≡ Some (Number (page - off)) = slice_get-set_other t4.locals 1 2 (Address (Own p) (off + size)) (λ e. omega (arith, e)) ∙ keep2 2 (Number (page - off)) (omega (arith, d_low.0, d_low.1)) left1 in
            let difference : (page - off + 2 ^ 32 - size) % 2 ^ 32 ≡ page - (off + size) = omega (arith, r.fits) in
            rw (at, difference) refl

        abbrev lessening : Statement
        lessening = assign 2 (binop I32 Sub (local 2) (i32 size))

        abbrev moving : Statement
        moving = seq (assign 1 (advance (local 1) (i32 size))) lessening

        abbrev heading : Statement
        heading = seq (store (stores.Full I32) 0 (slot_at d h) (local 1)) moving

        pub enter_ends : Ends 21 Post Never IsRefusal (meaning most fuel (enter_block size d h x) t1)
        enter_ends =
            let e0 : off + 0 ≡ off = omega arith in
            let e1 : place + 0 ≡ place = omega arith in
            load_then Post Never IsRefusal most fuel t1 16 (seq (store (stores.Full I32) 0 (local 1) (local x)) heading) x (loads.Full I32) 0 (slot_at d h) (Own k) place place head head
            (slot_then t1 d1 h1 refl) e1 slot_reads (newest-loaded (chains j)) (omega (arith, many1, room))
            (store_then Post Never IsRefusal most fuel t2 13 heading (stores.Full I32) 0 (local 1) (local x) p off page off head head
            (keep2 1 (address new) (omega (arith, d_low.0, d_low.1)) free1) e0 (slice_get-set_same t1.locals x head (omega (arith, many1, room))) (newest-stored (chains j)) room1 (omega (arith, r.fits, wide))
            (store_then Post Never IsRefusal most fuel t3 8 moving (stores.Full I32) 0 (slot_at d h) (local 1) k place page place (address new) (address new)
            (slot_then t3 (keep2 d (Address (Own k) o) d_low.1 d1) (keep2 h (Number (4 * j)) h_low.1 h1) refl) e1 (keep2 1 (address new) (omega (arith, d_low.0, d_low.1)) free1) refl sized1 (omega (arith, directory.inside, j_low))
            (assign_then Post Never IsRefusal most fuel t4 4 lessening 1 (advance (local 1) (i32 size)) (Address (Own p) (off + size)) further (omega (arith, many2, room, d_low.0, d_low.1))
            (assign_ends Post Never IsRefusal most fuel 2 (binop I32 Sub (local 2) (i32 size)) (Number (page - (off + size))) t5 fewer (omega (arith, many5, room, d_low.0, d_low.1)) entered))))

    -- the entry is added, or the request for a page was refused
    pub insert_ends : (fill : Statement) → Fills Has size (pos k (o + 4096)) most fuel v fill s → budget + 2 * u < (most + 1) * u → Ends (16 + (sizes.size fill + 21)) Post Never IsRefusal (meaning most fuel (insert_block size d h x fill) s)
    insert_ends fill fills enough =
        Ends-then Post Never IsRefusal 16 (sizes.size fill + 21) (Roomy size u budget front s) (meaning most fuel (room_block size) s) (meaning most fuel (seq fill (enter_block size d h x)))
        (room_ends most fuel size u budget budget (omega (arith, small)) (omega arith) (omega (arith, small)) s (omega (arith, room, d_low.0, d_low.1)) part offset free paid enough)
        (λ t r. Ends-then Post Never IsRefusal (sizes.size fill) 21 (Filled Has size r.part r.offset v t) (meaning most fuel fill t) (meaning most fuel (enter_block size d h x))
        (Ends-weaker (sizes.size fill) (sizes.size fill) (Filled Has size r.part r.offset v t) (Filled Has size r.part r.offset v t) Never Never (λ code. ⊥) IsRefusal (meaning most fuel fill t) (omega arith) (λ w y. y) (λ w y. y) (λ code y. absurd y)
        (fills t r.part r.offset (Keeps-less (From 3) (Before (pos k (o + 4096))) (From 3) (Before front) s t (λ i old. old) (λ at width below. omega (arith, below, behind)) r.keeps) r.room.free (r.room.pages r.part (omega arith)) r.fits (omega (arith, behind, r.behind)) r.room.zeros))
        (λ t1 done. enter_ends t r t1 done.0 done.1))

    -- ---- what each sink makes of it: each chain stays linked
    module _ (t : LowState) (e : Post t) where
      abbrev entry : Row
      entry = record { part = e.part; offset = e.offset; values = v }

      linked_old : (i : ℕ) → Linked Has size s.cells (pos k (o + 4096)) front (chains i) → Linked Has size t.cells (pos k (o + 4096)) (pos e.part (e.offset + size)) (chains i)
      linked_old i linked = Linked-wider Has size wide has_same t.cells (pos k (o + 4096)) front (pos e.part (e.offset + size)) (chains i) (omega (arith, e.behind))
          (Linked-same Has size wide has_same s.cells t.cells (pos k (o + 4096)) front (chains i) (λ l a b from to. e.older l a b to (inr (omega (arith, from, j_low)))) linked)

      pub entered_linked : (i : ℕ) → Linked Has size s.cells (pos k (o + 4096)) front (chains i) → Linked Has size t.cells (pos k (o + 4096)) (pos e.part (e.offset + size)) (with_entry chains j entry i)
      entered_linked i linked = ⊎_elim
          (λ (same : j ≡ i). rw (eq-eqb j i same) (
            omega (arith, behind, e.behind),
            omega arith,
            e.room.within,
            e.link ∙ ap (λ (l : ℕ). Some (newest (chains l))) same,
            e.has,
            linked_old i linked,
          ))
          (λ (other : j ≢ i). rw (ne_eqb j i other) (linked_old i linked))
          (cases_eq j i)

  -- ---- so it feeds a table, whose pages are paid for by all entries
  module _ (slot : List Val → ℕ) (before : ℕ) (May : List (List Val) → Type 0) (beginnings : (rows more : List (List Val)) → May (rows ++ more) → May rows) where
    abbrev Table : List (List Val) → LowState → Type 0
    Table = HasTable Has slot size k o d u before

    -- its chains have the entries of their slots
    pub same-more : (chains : ℕ → List Row) (entries : List (List Val)) (new : Row) (i : ℕ) → IsPermutation (values_of (chains i)) (in_slot slot i entries) →
        IsPermutation (values_of (with_entry chains (slot new.values) new i)) (in_slot slot i (entries ++ new.values ∷ []))
    same-more chains entries new i has =
        let v : List Val = new.values in
        ⊎_elim
        (λ (same : slot new.values ≡ i).
        let test : (slot new.values == i) ≡ true = eq-eqb (slot new.values) i same in
        rw (test, slot-more slot i new.values test entries)
        (IsPermutation-trans (new.values ∷ values_of (chains i)) (new.values ∷ in_slot slot i entries) (in_slot slot i entries ++ new.values ∷ [])
        (IsPermutation-cons new.values (values_of (chains i)) (in_slot slot i entries) has)
        (IsPermutation-sym (in_slot slot i entries ++ new.values ∷ []) (new.values ∷ in_slot slot i entries) (IsPermutation-to_front (in_slot slot i entries) new.values))))
        (λ (other : slot new.values ≢ i).
        let test : (slot new.values == i) ≡ false = ne_eqb (slot new.values) i other in
        rw (test, slot-other slot i new.values test entries) has)
        (cases_eq (slot new.values) i)

    module _ (entries : List (List Val)) (v : List Val) (s : LowState) (has : Table entries s) (room : x < length s.locals) (slot_low : slot v < 1024) (h_is : slice_get s.locals h ≡ Some (Number (4 * slot v))) where
      abbrev budget : ℕ
      budget = before + length entries * size

      abbrev After : LowState → Type 0
      After = Entered Has size k o x u budget (pos has.part has.offset) (slot v) has.chains v s

      abbrev more : (t : LowState) → After t → Row
      more t e = record { part = e.part; offset = e.offset; values = v }

      tabled : (t : LowState) → After t → Table (entries ++ v ∷ []) t
      tabled t e = record {
        part = e.part;
        offset = e.offset + size;
        room = e.room;
        at = e.keeps.locals d (inr (omega (arith, d_low.0)), λ is. omega (arith, is, d_low.1)) ∙ has.at;
        chains = with_entry has.chains (slot v) (more t e);
        table = record {
          directory = e.directory;
          linked = λ i low. entered_linked has.chains (slot v) slot_low v s has.part has.offset budget has.room has.paid has.at has.table.directory room h_is t e i (has.table.linked i low);
          same = λ i low. same-more has.chains entries (more t e) i (has.table.same i low);
        };
        paid =
            let count : length (entries ++ v ∷ []) ≡ suc (length entries) = omega (arith, length-append entries (v ∷ [])) in
            rw count (⊎_elim inl (λ so. inr (omega (arith, so, suc-mul (length entries) size))) e.paid);
      }

    pub insert_feeds : ((entries : List (List Val)) → May entries → before + length entries * size + 2 * u < (most + 1) * u) → (N : ℕ) → 1 ≤ N → (v : List Val) (s : LowState) (fill : Statement) → x < length s.locals → slot v < 1024 →
        slice_get s.locals h ≡ Some (Number (4 * slot v)) → Fills Has size (pos k (o + 4096)) most fuel v fill s →
        FeedsTo (table_sink Has slot size k o d u before May beginnings) most fuel N (But x (From 3)) Any (one_row v) (insert_block size d h x fill) s
    insert_feeds enough N some v s fill room slot_low h_is fills so_far has within =
        let all : ℕ = length (so_far ++ v ∷ []) in
        let count : length so_far ≤ all = omega (arith, length-append so_far (v ∷ [])) in
        let less : length so_far * size ≤ all * size = mul-le (length so_far) size all size count (omega arith) in
        let paid = enough (so_far ++ v ∷ []) within in
        Ends-weaker (16 + (sizes.size fill + 21)) (sizes.size (insert_block size d h x fill) * N) (After so_far v s has room slot_low h_is) (FedTo (table_sink Has slot size k o d u before May beginnings) (But x (From 3)) Any (one_row v) so_far s) Never Never IsRefusal (Tells [])
        (meaning most fuel (insert_block size d h x fill) s)
        (let least = at_least (sizes.size (insert_block size d h x fill)) N some in omega (arith, least))
        (λ t e. record { none = refl; keeps = e.keeps; has = tabled so_far v s has room slot_low h_is t e; after = tt })
        (λ t y. y) (λ code refused. inl refused)
        (insert_ends has.chains (slot v) slot_low v s has.part has.offset (before + length so_far * size) has.room has.paid has.at has.table.directory room h_is fill fills (omega (arith, paid, less)))
