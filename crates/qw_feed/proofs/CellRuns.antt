-- Storing the cells of a row.
use Rattle.std.proofs.Common.{◌≡◌, ℕ, ◌+◌, ◌*◌, ◌%◌, ◌^◌, ◌<◌, ◌≤◌, ◌⊎◌, inl, inr, ℤ, List, [], ◌∷◌, length, Option, Some, None, slice_get, refl, sym, ap, ◌∙◌, subst, ⊎_elim, arith}
use Rattle.std.specs.Int.{w64, cast_signed}
use Rattle.std.proofs.lemmas.Bool.{le-leb}
use Rattle.qw_types.specs.declared.kind.Kind.{Kind}
use Rattle.qw_types.specs.declared.kind.Kind.TheVariants as kind
use Rattle.qw_types.specs.declared.value.Val.{Val}
use Rattle.qw_types.specs.declared.value.Val.TheVariants as val
use Rattle.qw_linear.specs.Memory.{page}
use Rattle.qw_module.specs.declared.instruction.ValType.TheVariants.{I32, I64}
use Rattle.qw_module.specs.declared.instruction.Store as instruction
use Rattle.qw_module.specs.declared.instruction.Store.TheVariants as stores
use Rattle.qw_module.specs.Numbers.{store_width}
use Rattle.qw_scalar.specs.Typing.{IsValueOf}
use Rattle.qw_low.specs.declared.cell.Cell.{Cell}
use Rattle.qw_low.specs.Syntax.{Expression, local, store}
use Rattle.qw_low.specs.State.{Part, Own, Value, Number, Address, Cells, LowState, stored_as, with_cell}
use Rattle.qw_low.specs.Meaning.{value, cost, meaning}
use Rattle.qw_low.specs.Size.{size}
use Rattle.qw_low.specs.Promise.{Ends}
use Rattle.qw_low.proofs.Promises.{Ends-more, Ends-weaker, Ends-then, conditional_ends}
use Rattle.qw_low.proofs.BlockSteps.{store_then}
use Rattle.qw_feed.specs.Frames.{pos, Outside, Stored}
use Rattle.qw_feed.specs.Room.{i32}
use Rattle.qw_feed.proofs.Frames.{Never, with_cell-same, with_cell-apart, Stored-none, Stored-cell, Stored-then}
use Rattle.qw_feed.specs.Cells.{Source, plain_block, cell_block, cells_block, Supplies, AllSupply, HasNumber, HasCell, HasCells}

module _ (P X : LowState → Type 0) (R : ℕ → Type 0) (most fuel : ℕ) (s : LowState) where
  pub store_ends : (st : instruction.Store) (offset : ℕ) (a e : Expression) (k o size place : ℕ) (u v : Value) → value s a ≡ Some (Address (Own k) o) → o + offset ≡ place →
      value s e ≡ Some u → stored_as st u ≡ Some v → slice_get s.own k ≡ Some size → place + store_width st ≤ size →
      P (record s { cells = with_cell s.cells (Own k) place (store_width st) v }) → Ends (cost a + cost e + 1) P X R (meaning most fuel (store st offset a e) s)
  store_ends st offset a e k o size place u v at is e_is as_v sized inside post = rw (e_is, as_v, at, is, sized, le-leb (place + store_width st) size inside) (omega arith, post)

-- cells are read the same where their octets are
module _ (Text : Part → ℕ → List ℕ → Type 0) (c c' : Cells) (k : ℕ) where
  pub cell-same : (at : ℕ) (v : Val) → ((a b : ℕ) → at ≤ a → a + b ≤ at + 16 → c' (Own k) a b ≡ c (Own k) a b) → HasCell Text c k at v → HasCell Text c' k at v
  cell-same at val.Null same h = same (at + 8) 1 (omega arith) (omega arith) ∙ h
  cell-same at (val.Num v) same h = ((h.0.0, same at 8 (omega arith) (omega arith) ∙ h.0.1, h.0.2, h.0.3), h.1, same (at + 8) 1 (omega arith) (omega arith) ∙ h.2)
  cell-same at (val.Date d) same h = ((h.0.0, same at 8 (omega arith) (omega arith) ∙ h.0.1, h.0.2, h.0.3), same (at + 8) 1 (omega arith) (omega arith) ∙ h.1)
  cell-same at (val.Text t) same h =
      (h.0, h.1, same at 4 (omega arith) (omega arith) ∙ h.2, same (at + 4) 4 (omega arith) (omega arith) ∙ h.3, h.4, same (at + 8) 1 (omega arith) (omega arith) ∙ h.5)

  pub cells-same : (at : ℕ) (vs : List Val) → ((a b : ℕ) → at ≤ a → a + b ≤ at + 16 * length vs → c' (Own k) a b ≡ c (Own k) a b) → HasCells Text c k at vs → HasCells Text c' k at vs
  cells-same at [] same h = tt
  cells-same at (v ∷ vs) same h =
      (cell-same at v (λ a b from to. same a b from (omega arith)) h.0, cells-same (at + 16) vs (λ a b from to. same a b (omega arith) (omega arith)) h.1)

module _ (Text : Part → ℕ → List ℕ → Type 0) (R : ℕ → Type 0) (most fuel k o : ℕ) where
  abbrev Beside : (at : ℕ) → ℕ → ℕ → Type 0
  Beside at = Outside (pos k (o + at)) (pos k (o + at + 16))

  abbrev Cell' : (at : ℕ) → Val → LowState → LowState → Type 0
  Cell' at v t u = Stored (Beside at) t u × HasCell Text u.cells k (o + at) v

  module _ (at : ℕ) (t : LowState) (free : slice_get t.locals 1 ≡ Some (Address (Own k) o)) (sized : slice_get t.own k ≡ Some page) (inside : o + at + 16 ≤ page)
      (zero_null : t.cells (Own k) (o + at + 8) 1 ≡ Some (Number 0)) where
    -- a store in the cell
    one : (u : LowState) (p w : ℕ) (v : Value) → 0 < w → o + at ≤ p → p + w ≤ o + at + 16 → Stored (Beside at) t u → Stored (Beside at) t (record u { cells = with_cell u.cells (Own k) p w v })
    one u p w v some from to stored = Stored-cell (Beside at) t u k p w v some
        (λ a b apart. ⊎_elim (λ below. inl (omega (arith, below))) (λ above. inr (omega (arith, above))) apart) stored

    number_ends : (x : ℕ) (v : ℤ) (r : Val) → (word : ℕ) → slice_get t.locals x ≡ Some (Number word) → word < 2 ^ 64 →
        (HasNumber (with_cell t.cells (Own k) (o + at) 8 (Number word)) k (o + at) v → with_cell t.cells (Own k) (o + at) 8 (Number word) (Own k) (o + at + 8) 1 ≡ Some (Number 0) →
        HasCell Text (with_cell t.cells (Own k) (o + at) 8 (Number word)) k (o + at) r) → cast_signed w64 word ≡ v →
        Ends 3 (Cell' at r t) Never R (meaning most fuel (store (stores.Full I64) at (local 1) (local x)) t)
    number_ends x v r word is small made signed =
        let whole : word % 2 ^ 64 ≡ word = omega (arith, small) in
        store_ends (Cell' at r t) Never R most fuel t (stores.Full I64) at (local 1) (local x) k o page (o + at) (Number word) (Number word) free refl is (ap (λ (n : ℕ). Some (Number n)) whole) sized (omega (arith, inside)) (
          one t (o + at) 8 (Number word) (omega arith) (omega arith) (omega arith) (Stored-none (Beside at) t),
          made (word, with_cell-same t.cells k (o + at) 8 (Number word), small, signed) (with_cell-apart t.cells k (o + at) 8 (Number word) k (o + at + 8) 1 (omega arith) (inr (omega arith)) ∙ zero_null),
        )

    text_ends : (c : Cell) (octets : List ℕ) (p : Part) (off : ℕ) → slice_get t.locals c.value ≡ Some (Address p off) → slice_get t.locals c.length ≡ Some (Number (length octets)) → length octets < 2 ^ 32 →
        Text p off octets → Ends 6 (Cell' at (val.Text octets) t) Never R (meaning most fuel (plain_block (Some kind.Text) c at) t)
    text_ends c octets p off is long short lies =
        let c1 : Cells = with_cell t.cells (Own k) (o + at) 4 (Address p off) in
        let t1 : LowState = record t { cells = c1 } in
        let whole : length octets % 2 ^ 32 ≡ length octets = omega (arith, short) in
        let place : o + (at + 4) ≡ o + at + 4 = omega arith in
        store_then (Cell' at (val.Text octets) t) Never R most fuel t 3 (store (stores.Full I32) (at + 4) (local 1) (local c.length)) (stores.Full I32) at (local 1) (local c.value) k o page (o + at) (Address p off) (Address p off)
        free refl is refl sized (omega (arith, inside))
        (store_ends (Cell' at (val.Text octets) t) Never R most fuel t1 (stores.Full I32) (at + 4) (local 1) (local c.length) k o page (o + at + 4) (Number (length octets)) (Number (length octets))
        free place long (ap (λ (n : ℕ). Some (Number n)) whole) sized (omega (arith, inside)) (
          one t1 (o + at + 4) 4 (Number (length octets)) (omega arith) (omega arith) (omega arith) (one t (o + at) 4 (Address p off) (omega arith) (omega arith) (omega arith) (Stored-none (Beside at) t)),
          (
            p,
            off,
            with_cell-apart c1 k (o + at + 4) 4 (Number (length octets)) k (o + at) 4 (omega arith) (inl (omega arith)) ∙ with_cell-same t.cells k (o + at) 4 (Address p off),
            with_cell-same c1 k (o + at + 4) 4 (Number (length octets)),
            lies,
            with_cell-apart c1 k (o + at + 4) 4 (Number (length octets)) k (o + at + 8) 1 (omega arith) (inr (omega arith)) ∙ (with_cell-apart t.cells k (o + at) 4 (Address p off) k (o + at + 8) 1 (omega arith) (inr (omega arith)) ∙ zero_null),
          ),
        ))

    null_ends : Ends 3 (Cell' at val.Null t) Never R (meaning most fuel (store (stores.To8 I32) (at + 8) (local 1) (i32 1)) t)
    null_ends =
        let place : o + (at + 8) ≡ o + at + 8 = omega arith in
        store_ends (Cell' at val.Null t) Never R most fuel t (stores.To8 I32) (at + 8) (local 1) (i32 1) k o page (o + at + 8) (Number 1) (Number 1) free place refl refl sized (omega (arith, inside))
        (one t (o + at + 8) 1 (Number 1) (omega arith) (omega arith) (omega arith) (Stored-none (Beside at) t), with_cell-same t.cells k (o + at + 8) 1 (Number 1))

    -- a value that isn't null
    plain_ends : (c : Cell) (kd : Option Kind) (v : Val) → IsValueOf kd v → (v ≡ val.Null → ⊥) → Supplies Text t.locals c v → Ends (size (plain_block kd c at)) (Cell' at v t) Never R (meaning most fuel (plain_block kd c at) t)
    plain_ends c None v kind_is some supplied = absurd (some kind_is)
    plain_ends c (Some kd) val.Null kind_is some supplied = absurd (some refl)
    plain_ends c (Some (kind.Number s)) (val.Num v) kind_is some supplied = number_ends c.value v (val.Num v) supplied.0.0 supplied.0.1 supplied.0.2 (λ has null. (has, supplied.1, null)) supplied.0.3
    plain_ends c (Some (kind.Number s)) (val.Date d) kind_is some supplied = absurd kind_is
    plain_ends c (Some (kind.Number s)) (val.Text x) kind_is some supplied = absurd kind_is
    plain_ends c (Some kind.Date) (val.Num v) kind_is some supplied = absurd kind_is
    plain_ends c (Some kind.Date) (val.Date d) kind_is some supplied = number_ends c.value d (val.Date d) supplied.0.0 supplied.0.1 supplied.0.2 (λ has null. (has, null)) supplied.0.3
    plain_ends c (Some kind.Date) (val.Text x) kind_is some supplied = absurd kind_is
    plain_ends c (Some kind.Text) (val.Num v) kind_is some supplied = absurd kind_is
    plain_ends c (Some kind.Text) (val.Date d) kind_is some supplied = absurd kind_is
    plain_ends c (Some kind.Text) (val.Text x) kind_is some supplied = text_ends c x supplied.0 supplied.1 supplied.2 supplied.3 supplied.4 supplied.5

    -- where a value is null its null octet says so
    says_value : (c : Cell) (n : ℕ) (v : Val) → c.null ≡ Some n → (v ≡ val.Null → ⊥) → Supplies Text t.locals c v → slice_get t.locals n ≡ Some (Number 0)
    says_value c n val.Null is some supplied = absurd (some refl)
    says_value c n (val.Num v) is some supplied = (let h = supplied.2 in rw is at h)
    says_value c n (val.Date d) is some supplied = (let h = supplied.1 in rw is at h)
    says_value c n (val.Text x) is some supplied = (let h = supplied.6 in rw is at h)

    is_there : (v : Val) → (v ≡ val.Null) ⊎ (v ≡ val.Null → ⊥)
    is_there val.Null = inl refl
    is_there (val.Num v) = inr (λ e. cc)
    is_there (val.Date d) = inr (λ e. cc)
    is_there (val.Text x) = inr (λ e. cc)

    lacks : (c : Cell) (v : Val) → v ≡ val.Null → Supplies Text t.locals c v → Supplies Text t.locals c val.Null
    lacks c v is supplied = subst (λ (u : Val). Supplies Text t.locals c u) is supplied

    pub cell_ends : (null : Option ℕ) (c : Cell) (kd : Option Kind) (v : Val) → c.null ≡ null → IsValueOf kd v → Supplies Text t.locals c v →
        Ends (size (cell_block null at (plain_block kd c at))) (Cell' at v t) Never R (meaning most fuel (cell_block null at (plain_block kd c at)) t)
    cell_ends None c kd v is kind_is supplied = ⊎_elim
        (λ none. let h = lacks c v none supplied in absurd (rw is at h))
        (λ some. plain_ends c kd v kind_is some supplied)
        (is_there v)
    cell_ends (Some n) c kd v is kind_is supplied = ⊎_elim
        (λ none. let h = lacks c v none supplied in
        conditional_ends (Cell' at v t) Never R most fuel (3 + size (plain_block kd c at)) (local n) (store (stores.To8 I32) (at + 8) (local 1) (i32 1)) (plain_block kd c at) t
        (inl (
          inl (0, rw is at h),
          subst (λ (u : Val). Ends (3 + size (plain_block kd c at)) (Cell' at u t) Never R (meaning most fuel (store (stores.To8 I32) (at + 8) (local 1) (i32 1)) t)) (sym none)
              (Ends-more (Cell' at val.Null t) Never R 3 (3 + size (plain_block kd c at)) (meaning most fuel (store (stores.To8 I32) (at + 8) (local 1) (i32 1)) t) (omega arith) null_ends),
        )))
        (λ some. conditional_ends (Cell' at v t) Never R most fuel (3 + size (plain_block kd c at)) (local n) (store (stores.To8 I32) (at + 8) (local 1) (i32 1)) (plain_block kd c at) t
        (inr (says_value c n v is some supplied, Ends-more (Cell' at v t) Never R (size (plain_block kd c at)) (3 + size (plain_block kd c at)) (meaning most fuel (plain_block kd c at) t) (omega arith) (plain_ends c kd v kind_is some supplied))))
        (is_there v)

  -- all cells of a row
  pub cells_end : (os : List Source) (vs : List Val) (at : ℕ) (t : LowState) → slice_get t.locals 1 ≡ Some (Address (Own k) o) → slice_get t.own k ≡ Some page → o + at + 16 * length os ≤ page →
      ((a b : ℕ) → o + at ≤ a → a + b ≤ page → t.cells (Own k) a b ≡ Some (Number 0)) → AllSupply Text t.locals os vs →
      Ends (size (cells_block at os)) (λ u. Stored (Outside (pos k (o + at)) (pos k (o + at + 16 * length os))) t u × HasCells Text u.cells k (o + at) vs) Never R (meaning most fuel (cells_block at os) t)
  cells_end [] [] at t free sized inside zeros supplied = (omega arith, (Stored-none (Outside (pos k (o + at)) (pos k (o + at + 0))) t, tt))
  cells_end [] (v ∷ vs) at t free sized inside zeros supplied = absurd supplied
  cells_end (x ∷ os) [] at t free sized inside zeros supplied = absurd supplied
  cells_end (x ∷ os) (v ∷ vs) at t free sized inside zeros supplied =
      let All : ℕ → ℕ → Type 0 = Outside (pos k (o + at)) (pos k (o + at + 16 * length (x ∷ os))) in
      let Post : LowState → Type 0 = λ u. Stored All t u × HasCells Text u.cells k (o + at) (v ∷ vs) in
      Ends-then Post Never R (size (cell_block x.cell.null at (plain_block x.kind x.cell at))) (size (cells_block (at + 16) os)) (Cell' at v t) (meaning most fuel (cell_block x.cell.null at (plain_block x.kind x.cell at)) t) (meaning most fuel (cells_block (at + 16) os))
      (cell_ends at t free sized (omega (arith, inside)) (zeros (o + at + 8) 1 (omega arith) (omega (arith, inside))) x.cell.null x.cell x.kind v refl supplied.0.1 supplied.0.0)
      (λ u one.
      let locals : u.locals ≡ t.locals = ap (λ (r : LowState). r.locals) one.0.others in
      let own : u.own ≡ t.own = ap (λ (r : LowState). r.own) one.0.others in
      let place : o + (at + 16) ≡ o + at + 16 = omega arith in
      Ends-weaker (size (cells_block (at + 16) os)) (size (cells_block (at + 16) os)) (λ w. Stored (Outside (pos k (o + (at + 16))) (pos k (o + (at + 16) + 16 * length os))) u w × HasCells Text w.cells k (o + (at + 16)) vs) Post Never Never R R (meaning most fuel (cells_block (at + 16) os) u) (omega arith)
      (λ w rest. (
        Stored-then All (Outside (pos k (o + (at + 16))) (pos k (o + (at + 16) + 16 * length os))) t u w
            (λ a b apart. ⊎_elim (λ below. inl (omega (arith, below))) (λ above. inr (omega (arith, above))) apart)
            (record { others = one.0.others; mapped = one.0.mapped; cells = λ j a b apart. one.0.cells j a b (⊎_elim (λ below. inl below) (λ above. inr (omega (arith, above))) apart) }) rest.0,
        (
          cell-same Text u.cells w.cells k (o + at) v (λ a b from to. rest.0.cells k a b (inl (omega (arith, to)))) one.1,
          subst (λ (p : ℕ). HasCells Text w.cells k p vs) place rest.1,
        ),
      ))
      (λ w x'. x') (λ code r. r)
      (cells_end os vs (at + 16) u (rw locals free) (rw own sized) (omega (arith, inside))
      (λ a b from to. one.0.cells k a b (inr (omega (arith, from))) ∙ zeros a b (omega arith) to) (rw locals (supplied.1))))
