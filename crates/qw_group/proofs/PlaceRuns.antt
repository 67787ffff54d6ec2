-- An entry for the key of a row is in the table: it was there, or one was placed that has no row yet.
use Rattle.std.proofs.Common.{◌≡◌, ◌≢◌, ℕ, suc, ◌+◌, ◌-◌, ◌*◌, ◌<◌, ◌≤◌, ◌⊎◌, ◌==◌, ◌++◌, inl, inr, Bool, true, false, if◌then◌else◌, List, [], ◌∷◌, length, length-append, Some, slice_get, slice_set, refl, sym, ap, ◌∙◌, subst, ⊎_elim, arith, suc-mul}
use Rattle.std.proofs.lemmas.Bool.{cases_eq, eq-eqb, ne_eqb, le-leb}
use Rattle.std.specs.List.Sorted.{IsPermutation}
use Rattle.qw_types.specs.declared.value.Val.{Val}
use Rattle.qw_linear.specs.Memory.{page}
use Rattle.qw_layout.specs.Hash.{slot}
use Rattle.qw_grouped.specs.Groups.{key_of, keys, members}
use Rattle.qw_map.proofs.TurnFacts.{slice_get-set_same}
use Rattle.qw_low.specs.Syntax.{local, retreat, Statement, assign}
use Rattle.qw_low.specs.State.{Own, Number, Address, Cells, LowState}
use Rattle.qw_low.specs.Meaning.{value, meaning}
use Rattle.qw_low.specs.Size as sizes
use Rattle.qw_low.specs.Promise.{Ends}
use Rattle.qw_low.specs.Raising.{Kept}
use Rattle.qw_low.proofs.Promises.{Ends-then, assign_ends}
use Rattle.qw_low.proofs.Results.{Kept-one}
use Rattle.qw_feed.specs.Frames.{pos, Before, Below, From, But, Keeps}
use Rattle.qw_feed.specs.Room.{i32, HasRoom, Paid}
use Rattle.qw_feed.specs.Rows.{Row, address, start_of, Fills}
use Rattle.qw_feed.proofs.Frames.{Never, Keeps-set, Keeps-less, below-under}
use Rattle.qw_feed.proofs.RoomRuns.{IsRefusal, room-kept}
use Rattle.qw_table.specs.Tables.{values_of, Linked, IsDirectory, with_entry, in_slot, insert_block}
use Rattle.qw_table.proofs.InsertRuns.{Entered, insert_ends, entered_linked, same-more}
use Rattle.qw_group.specs.Groups.{In, Apart, HasGroups, place_block}
use Rattle.qw_group.proofs.KeyFacts.{keys-new, keys-old, some-row}

module _ (Has Has' : Cells → ℕ → ℕ → List Val → Type 0) (size : ℕ) (c c' : Cells) (base front : ℕ) where
  -- a chain whose entries' octets say something else
  pub Linked-map : (es : List Row) → ((e : Row) → In e es → (c (Own e.part) e.offset 4 ≡ c' (Own e.part) e.offset 4) × (Has c e.part e.offset e.values → Has' c' e.part e.offset e.values)) → Linked Has size c base front es → Linked Has' size c' base front es
  Linked-map [] each h = tt
  Linked-map (e ∷ es) each h =
      let one = each e (inl refl) in
      (h.0, h.1, h.2, sym one.0 ∙ h.3, one.1 h.4, Linked-map es (λ f there. each f (inr there)) h.5)

  pub linked-in : (es : List Row) → Linked Has size c base front es → (e : Row) → In e es → (base ≤ start_of e) × (start_of e + size ≤ front) × (e.offset + size ≤ page) × Has c e.part e.offset e.values
  linked-in [] h e there = absurd there
  linked-in (f ∷ es) h e (inl is) = rw is (h.0, h.1, h.2, h.4)
  linked-in (f ∷ es) h e (inr there) = linked-in es h.5 e there

in-if : (b : Bool) (new e : Row) (es : List Row) → In e (if b then new ∷ es else es) → (e ≡ new) ⊎ In e es
in-if true new e es h = h
in-if false new e es h = inr h

in-older : (b : Bool) (new e : Row) (es : List Row) → In e es → In e (if b then new ∷ es else es)
in-older true new e es h = inr h
in-older false new e es h = h

module _ (columns : ℕ) (Has : List (List Val) → Cells → ℕ → ℕ → List Val → Type 0) (size : ℕ) (wide : 8 ≤ size)
    (has_same : (rows : List (List Val)) (c c' : Cells) (k o : ℕ) (key : List Val) → ((a b : ℕ) → o + 8 ≤ a → a + b ≤ o + size → c' (Own k) a b ≡ c (Own k) a b) → Has rows c k o key → Has rows c' k o key)
    (k o d u before g h : ℕ) (d_low : (5 ≤ d) × (d < g)) (h_low : (5 ≤ h) × (h < g)) (small : size + u ≤ page) (most fuel : ℕ) (rows : List (List Val)) (r : List Val) (slot_low : slot (key_of columns r) < 1024) where
  abbrev key : List Val
  key = key_of columns r

  abbrev rows' : List (List Val)
  rows' = rows ++ r ∷ []

  abbrev j : ℕ
  j = slot key

  -- The table has an entry for the row's key, to which local g leads, and for each other key of the rows so far.
  pub record Ready (e : Row) (t : LowState) : Type 0 where
    pub part : ℕ
    pub offset : ℕ
    pub room : HasRoom part offset t
    pub at : slice_get t.locals d ≡ Some (Address (Own k) o)
    pub chains : ℕ → List Row
    pub directory : IsDirectory k o (pos part offset) chains t.cells t.own
    pub linked : (i : ℕ) → i < 1024 → Linked (Has rows) size t.cells (pos k (o + 4096)) (pos part offset) (chains i)
    pub home : (i : ℕ) → i < 1024 → (f : Row) → In f (chains i) → slot f.values ≡ i
    pub apart : (i l : ℕ) → i < 1024 → l < 1024 → (f q : Row) → In f (chains i) → In q (chains l) → (f ≡ q) ⊎ (Apart size f q × (f.values ≡ q.values → ⊥))
    pub all : (q : List Val) → In q rows → (f : Row) × In f (chains (slot (key_of columns q))) × (f.values ≡ key_of columns q)
    pub some : (i : ℕ) → i < 1024 → (f : Row) → In f (chains i) → (f ≡ e) ⊎ (1 ≤ length (members columns f.values rows))
    pub same : (i : ℕ) → i < 1024 → IsPermutation (values_of (chains i)) (in_slot slot i (keys columns rows'))
    pub paid : Paid u (before + length (keys columns rows') * size) offset t.held
    pub there : In e (chains j)
    pub is_it : e.values ≡ key
    pub g_is : slice_get t.locals g ≡ Some (address e)

  -- ---- the entry was there
  module _ (s : LowState) (has : HasGroups columns Has size k o d u before rows s) where
    pub ready_found : (e : Row) → In e (has.chains j) → e.values ≡ key → (t : LowState) → Kept g s t → slice_get t.locals g ≡ Some (address e) → Ready e t
    ready_found e there is_it t kept g_is =
        let cells : t.cells ≡ s.cells = ap (λ (q : LowState). q.cells) kept.others in
        let own : t.own ≡ s.own = ap (λ (q : LowState). q.own) kept.others in
        let held : t.held ≡ s.held = ap (λ (q : LowState). q.held) kept.others in
        let one = some-row columns e.values rows (has.some j slot_low e there) in
        let same_keys : keys columns rows' ≡ keys columns rows = keys-old columns rows r one.0 one.1 (sym one.2 ∙ is_it) in
        record {
          part = has.part;
          offset = has.offset;
          room = room-kept has.part has.offset g s t (omega (arith, d_low.0, d_low.1)) kept has.room;
          at = kept.below d d_low.1 ∙ has.at;
          chains = has.chains;
          directory = subst (λ (c : Cells). IsDirectory k o (pos has.part has.offset) has.chains c t.own) (sym cells) (subst (λ (sizes' : List ℕ). IsDirectory k o (pos has.part has.offset) has.chains s.cells sizes') (sym own) has.directory);
          linked = λ i low. subst (λ (c : Cells). Linked (Has rows) size c (pos k (o + 4096)) (pos has.part has.offset) (has.chains i)) (sym cells) (has.linked i low);
          home = has.home;
          apart = has.apart;
          all = has.all;
          some = λ i low f here. inr (has.some i low f here);
          same = λ i low. subst (λ (ks : List (List Val)). IsPermutation (values_of (has.chains i)) (in_slot slot i ks)) (sym same_keys) (has.same i low);
          paid = subst (λ (n : ℕ). Paid u (before + length (keys columns rows') * size) has.offset n) (sym held) (subst (λ (ks : List (List Val)). Paid u (before + length ks * size) has.offset s.held) (sym same_keys) has.paid);
          there = there;
          is_it = is_it;
          g_is = g_is;
        }

    -- ---- it is placed
    module _ (room : g + 1 < length s.locals) (h_is : slice_get s.locals h ≡ Some (Number (4 * j))) (absent : (f : Row) → In f (has.chains j) → f.values ≡ key → ⊥) where
      no_other : (i : ℕ) → i < 1024 → (f : Row) → In f (has.chains i) → f.values ≡ key → ⊥
      no_other i low f here is = absent f (subst (λ (l : ℕ). In f (has.chains l)) (sym (has.home i low f here) ∙ ap slot is) here) is

      abbrev x : ℕ
      x = g + 1

      abbrev front : ℕ
      front = pos has.part has.offset

      abbrev budget : ℕ
      budget = before + length (keys columns rows) * size

      d_x : (5 ≤ d) × (d < x)
      d_x = (d_low.0, omega (arith, d_low.1))

      h_x : (5 ≤ h) × (h < x)
      h_x = (h_low.0, omega (arith, h_low.1))

      abbrev After : LowState → Type 0
      After = Entered (Has rows) size k o x u budget front j has.chains key s

      new_keys : keys columns rows' ≡ keys columns rows ++ key ∷ []
      new_keys = keys-new columns rows r (λ q q_in is. let one = has.all q q_in in no_other (slot (key_of columns q)) (omega (arith, slot_low, ap slot is)) one.0 one.1 (one.2 ∙ is))

      module _ (t : LowState) (e : After t) where
        abbrev new : Row
        new = record { part = e.part; offset = e.offset; values = key }

        abbrev chains' : ℕ → List Row
        chains' = with_entry has.chains j new

        abbrev w : LowState
        w = record t { locals = slice_set t.locals g (address new) }

        many : length t.locals ≡ length s.locals
        many = e.keeps.many

        kept_w : Kept g t w
        kept_w = Kept-one t g (address new)

        before_new : (i : ℕ) → i < 1024 → (f : Row) → In f (has.chains i) → start_of f + size ≤ start_of new
        before_new i low f here =
            let at = linked-in (Has rows) (Has rows) size s.cells s.cells (pos k (o + 4096)) front (has.chains i) (has.linked i low) f here in
            omega (arith, at.1, e.behind)

        home' : (i : ℕ) → i < 1024 → (f : Row) → In f (chains' i) → slot f.values ≡ i
        home' i low f here = ⊎_elim
            (λ (same : j ≡ i). ⊎_elim (λ (is : f ≡ new). ap (λ (q : Row). slot q.values) is ∙ same) (λ old. has.home i low f old) (in-if (j == i) new f (has.chains i) here))
            (λ (other : j ≢ i). has.home i low f (subst (λ (b : Bool). In f (if b then new ∷ has.chains i else has.chains i)) (ne_eqb j i other) here))
            (cases_eq j i)

        apart' : (i l : ℕ) → i < 1024 → l < 1024 → (f q : Row) → In f (chains' i) → In q (chains' l) → (f ≡ q) ⊎ (Apart size f q × (f.values ≡ q.values → ⊥))
        apart' i l low_i low_l f q f_in q_in = ⊎_elim
            (λ (f_new : f ≡ new). ⊎_elim
            (λ (q_new : q ≡ new). inl (f_new ∙ sym q_new))
            (λ q_old. inr (
              inr (omega (arith, before_new l low_l q q_old, ap start_of f_new)),
              λ is. no_other l low_l q q_old (sym is ∙ ap (λ (y : Row). y.values) f_new),
            ))
            (in-if (j == l) new q (has.chains l) q_in))
            (λ f_old. ⊎_elim
            (λ (q_new : q ≡ new). inr (
              inl (omega (arith, before_new i low_i f f_old, ap start_of q_new)),
              λ is. no_other i low_i f f_old (is ∙ ap (λ (y : Row). y.values) q_new),
            ))
            (λ q_old. has.apart i l low_i low_l f q f_old q_old)
            (in-if (j == l) new q (has.chains l) q_in))
            (in-if (j == i) new f (has.chains i) f_in)

        in_new : In new (chains' j)
        in_new = subst (λ (b : Bool). In new (if b then new ∷ has.chains j else has.chains j)) (sym (eq-eqb j j refl)) (inl refl)

        paid' : Paid u (before + length (keys columns rows') * size) (e.offset + size) t.held
        paid' =
            let count : length (keys columns rows') ≡ suc (length (keys columns rows)) = omega (arith, ap (λ (l : List (List Val)). length l) new_keys, length-append (keys columns rows) (key ∷ [])) in
            rw count (⊎_elim inl (λ so. inr (omega (arith, so, suc-mul (length (keys columns rows)) size))) e.paid)

        ready : Ready new w
        ready = record {
          part = e.part;
          offset = e.offset + size;
          room = room-kept e.part (e.offset + size) g t w (omega (arith, d_low.0, d_low.1)) kept_w e.room;
          at = kept_w.below d d_low.1 ∙ (e.keeps.locals d (inr (omega (arith, d_low.0)), λ is. omega (arith, is, d_low.1)) ∙ has.at);
          chains = chains';
          directory = e.directory;
          linked = λ i low. entered_linked (Has rows) size wide (has_same rows) k o d u x h d_x h_x small most fuel has.chains j slot_low key s has.part has.offset budget has.room has.paid has.at has.directory room h_is t e i (has.linked i low);
          home = home';
          apart = apart';
          all = λ q q_in. let one = has.all q q_in in (one.0, in-older (j == slot (key_of columns q)) new one.0 (has.chains (slot (key_of columns q))) one.1, one.2);
          some = λ i low f here. ⊎_elim (λ (is : f ≡ new). inl is) (λ old. inr (has.some i low f old)) (in-if (j == i) new f (has.chains i) here);
          same = λ i low. subst (λ (ks : List (List Val)). IsPermutation (values_of (chains' i)) (in_slot slot i ks)) (sym new_keys)
              (same-more (Has rows) size wide (has_same rows) k o d u x h d_x h_x small most fuel slot before (λ q. Unit {0}) (λ q more may. tt) has.chains (keys columns rows) new i (has.same i low));
          paid = paid';
          there = in_new;
          is_it = refl;
          g_is = slice_get-set_same t.locals g (address new) (omega (arith, room, many));
        }

        keeps_w : Keeps (Below g) (Before (pos k o)) s w
        keeps_w = Keeps-set (Below g) (Before (pos k o)) s t g (address new) (λ i old is. let low = below-under g g i (omega arith) (omega (arith, d_low.0, d_low.1)) old in omega (arith, low, is))
            (Keeps-less (Below g) (Before (pos k o)) (But x (From 3)) (Before (pos k o)) s t
            (λ i old. (⊎_elim (λ z. inl z) (λ y. inr (omega (arith, y.0))) old, λ is. let low = below-under g g i (omega arith) (omega (arith, d_low.0, d_low.1)) old in omega (arith, low, is))) (λ at' width it. it) e.keeps)

        placed : Ends 4 (λ v. Keeps (Below g) (Before (pos k o)) s v × (f : Row) × Ready f v) Never IsRefusal (meaning most fuel (assign g (retreat (local 1) (i32 size))) t)
        placed =
            let back : value t (retreat (local 1) (i32 size)) ≡ Some (address new) =
            (let less : e.offset + size - size ≡ e.offset = omega arith in rw (e.room.free, le-leb size (e.offset + size) (omega arith), less) refl) in
            assign_ends (λ v. Keeps (Below g) (Before (pos k o)) s v × (f : Row) × Ready f v) Never IsRefusal most fuel g (retreat (local 1) (i32 size)) (address new) t back (omega (arith, room, many)) (keeps_w, new, ready)

      pub place_ends : (fill : Statement) → Fills (Has rows) size (pos k (o + 4096)) most fuel key fill s → budget + 2 * u < (most + 1) * u →
          Ends (16 + (sizes.size fill + 21) + 4) (λ v. Keeps (Below g) (Before (pos k o)) s v × (f : Row) × Ready f v) Never IsRefusal (meaning most fuel (place_block size d h g fill) s)
      place_ends fill fills enough =
          Ends-then (λ v. Keeps (Below g) (Before (pos k o)) s v × (f : Row) × Ready f v) Never IsRefusal (16 + (sizes.size fill + 21)) 4 After (meaning most fuel (insert_block size d h x fill) s) (meaning most fuel (assign g (retreat (local 1) (i32 size))))
          (insert_ends (Has rows) size wide (has_same rows) k o d u x h d_x h_x small most fuel has.chains j slot_low key s has.part has.offset budget has.room has.paid has.at has.directory room h_is fill fills enough)
          placed
