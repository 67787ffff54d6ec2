-- The value that is chosen of an area, of one value more: it is compared with that, and replaced where that beats it.
use Rattle.std.proofs.Common.{◌≡◌, ℕ, ◌+◌, ◌*◌, ◌^◌, ◌%◌, ◌<◌, ◌≤◌, inl, ℤ, FitsSigned, IsTrue, List, length, length-set, Some, None, slice_get, slice_set, refl, sym, ap, ◌∙◌, subst, arith, w64}
use Rattle.std.specs.Int.{cast_signed}
use Rattle.std.specs.Ordering.{int_cmp}
use Rattle.qw_types.specs.Arithmetic.{fits}
use Rattle.qw_types.specs.Kind.{IsOfKind}
use Rattle.qw_types.specs.TextOrder.{text_order}
use Rattle.qw_types.specs.ValueOrder.{value_order}
use Rattle.qw_types.specs.declared.kind.Kind.{Kind}
use Rattle.qw_types.specs.declared.kind.Kind.TheVariants as kind
use Rattle.qw_types.specs.declared.value.Val.{Val}
use Rattle.qw_types.specs.declared.value.Val.TheVariants as val
use Rattle.qw_scalar.specs.declared.comparison.Comparison.{Comparison}
use Rattle.qw_scalar.specs.Evaluation.{answers}
use Rattle.qw_linear.specs.Memory.{page}
use Rattle.qw_map.proofs.TurnFacts.{slice_get-set_same}
use Rattle.qw_module.specs.Numbers.{truth}
use Rattle.qw_module.specs.declared.instruction.ValType.TheVariants.{I32, I64}
use Rattle.qw_module.specs.declared.instruction.Load.TheVariants as loads
use Rattle.qw_module.specs.declared.instruction.Store.TheVariants as stores
use Rattle.qw_low.specs.declared.cell.Cell.{Cell}
use Rattle.qw_low.specs.Syntax.{local, relop, Statement, seq, load, store}
use Rattle.qw_low.specs.State.{Part, Own, Value, Number, Address, Cells, LowState, with_cell}
use Rattle.qw_low.specs.Held.{HoldsText}
use Rattle.qw_low.specs.Meaning.{value, meaning}
use Rattle.qw_low.specs.Size.{size}
use Rattle.qw_low.specs.Promise.{Ends}
use Rattle.qw_low.specs.Raising.{Kept}
use Rattle.qw_low.proofs.Promises.{Ends-weaker}
use Rattle.qw_low.proofs.BlockSteps.{load_ends, store_then}
use Rattle.qw_low.proofs.Results.{Kept-same, Kept-set, Kept-then}
use Rattle.std.proofs.Math.Nat.{min-le_right}
use Rattle.qw_text.specs.Texts.{Compares, SaysOrder, of_shorter}
use Rattle.qw_feed.specs.Cells.{Supplies}
use Rattle.qw_feed.proofs.CellRuns.{store_ends}
use Rattle.qw_feed.proofs.Frames.{Never, with_cell-same, with_cell-apart}
use Rattle.qw_table.specs.Entries.{Stands}
use Rattle.qw_table.specs.Keys.{octets_of}
use Rattle.qw_table.proofs.EntryRuns.{lies-kept}
use Rattle.qw_wide.specs.Relations.{relation_of}
use Rattle.qw_wide.proofs.Words as words
use Rattle.qw_wide.proofs.Relations.{tells_truth, zero_told, fits_back}
use Rattle.qw_group.specs.Areas.{InPlace, HasPlain, plain_put, chosen_read, is_beaten}
use Rattle.qw_group.proofs.AreaFrames.{place-then, place-store}
use Rattle.qw_group.proofs.AreaSteps.{Does, does_within, does_then}
use Rattle.qw_group.proofs.WideRuns.{none, set_other}

-- what locals supply of a value that isn't null
abbrev pub Plainly : (Text : Part → ℕ → List ℕ → Type 0) → List Value → Cell → Val → Type 0
Plainly Text locals c val.Null = ⊥
Plainly Text locals c (val.Num v) = (slice_get locals c.value ≡ Some (Number (words.word v))) × FitsSigned w64 v × IsTrue (fits v)
Plainly Text locals c (val.Date v) = (slice_get locals c.value ≡ Some (Number (words.word v))) × FitsSigned w64 v
Plainly Text locals c (val.Text t) = (p : Part) × (o : ℕ) × (slice_get locals c.value ≡ Some (Address p o)) × (slice_get locals c.length ≡ Some (Number (length t))) × (length t < 2 ^ 32) × Text p o t

pub supplied-plainly : (Text : Part → ℕ → List ℕ → Type 0) (locals : List Value) (c : Cell) (v : Val) → (v ≡ val.Null → ⊥) → Supplies Text locals c v → Plainly Text locals c v
supplied-plainly Text locals c val.Null some h = absurd (some refl)
supplied-plainly Text locals c (val.Num v) some h = (h.0.1 ∙ ap (λ (n : ℕ). Some (Number n)) (words.word_of h.0.0 v h.0.2 h.0.3), fits_back h.0.0 v h.0.2 h.0.3, h.1)
supplied-plainly Text locals c (val.Date v) some h = (h.0.1 ∙ ap (λ (n : ℕ). Some (Number n)) (words.word_of h.0.0 v h.0.2 h.0.3), fits_back h.0.0 v h.0.2 h.0.3)
supplied-plainly Text locals c (val.Text t) some h = (h.0, h.1, h.2, h.3, h.4, h.5)

pub plainly-kept : (Text : Part → ℕ → List ℕ → Type 0) (xs ys : List Value) (c : Cell) (v : Val) → slice_get ys c.value ≡ slice_get xs c.value → slice_get ys c.length ≡ slice_get xs c.length → Plainly Text xs c v → Plainly Text ys c v
plainly-kept Text xs ys c val.Null one two h = h
plainly-kept Text xs ys c (val.Num v) one two h = (one ∙ h.0, h.1, h.2)
plainly-kept Text xs ys c (val.Date v) one two h = (one ∙ h.0, h.1)
plainly-kept Text xs ys c (val.Text t) one two h = (h.0, h.1, one ∙ h.2, two ∙ h.3, h.4, h.5)

pub plain-same : (Text : Part → ℕ → List ℕ → Type 0) (c c' : Cells) (k at : ℕ) (v : Val) → ((a b : ℕ) → 2 ≤ b → at ≤ a → a + b ≤ at + 16 → c' (Own k) a b ≡ c (Own k) a b) → HasPlain Text c k at v → HasPlain Text c' k at v
plain-same Text c c' k at val.Null same h = h
plain-same Text c c' k at (val.Num v) same h = ((h.0.0, same at 8 (omega arith) (omega arith) (omega arith) ∙ h.0.1, h.0.2, h.0.3), h.1)
plain-same Text c c' k at (val.Date v) same h = (h.0, same at 8 (omega arith) (omega arith) (omega arith) ∙ h.1, h.2, h.3)
plain-same Text c c' k at (val.Text t) same h = (h.0, h.1, same at 4 (omega arith) (omega arith) (omega arith) ∙ h.2, same (at + 4) 4 (omega arith) (omega arith) (omega arith) ∙ h.3, h.4)

module _ (Text : Part → ℕ → List ℕ → Type 0) (most fuel p off e at g : ℕ) (e_low : e < g) (inside : off + at + 32 ≤ page) (c : Cell) (below : (c.value < g) × (c.length < g)) where
  abbrev from : ℕ
  from = off + at

  -- ---- it is stored
  abbrev pub Put : Val → LowState → LowState → Type 0
  Put v r u = InPlace p from (from + 16) g r u × HasPlain Text u.cells p from v

  pub put_ends : (kd : Kind) (v : Val) (r : LowState) → IsOfKind kd v → slice_get r.locals e ≡ Some (Address (Own p) off) → slice_get r.own p ≡ Some page → Plainly Text r.locals c v → Ends (size (plain_put kd c e at)) (Put v r) Never none (meaning most fuel (plain_put kd c e at) r)
  put_ends (kind.Number s) (val.Num v) r of e_r sized h = number_put (val.Num v) v r e_r sized h.0 h.1 (λ cells it. (it, h.2))
    where
      number_put : (w : Val) (v : ℤ) (r : LowState) → slice_get r.locals e ≡ Some (Address (Own p) off) → slice_get r.own p ≡ Some page → slice_get r.locals c.value ≡ Some (Number (words.word v)) → FitsSigned w64 v →
          ((cells : Cells) → (word : ℕ) × (cells (Own p) (off + at) 8 ≡ Some (Number word)) × (word < 2 ^ 64) × (cast_signed w64 word ≡ v) → HasPlain Text cells p (off + at) w) →
          Ends 3 (λ u. InPlace p (off + at) (off + at + 16) g r u × HasPlain Text u.cells p (off + at) w) Never none (meaning most fuel (store (stores.Full I64) at (local e) (local c.value)) r)
      number_put w v r e_r sized z_r fit made =
          let low = words.word_below v fit in
          let small : words.word v % 2 ^ 64 ≡ words.word v = omega (arith, low) in
          store_ends (λ u. InPlace p (off + at) (off + at + 16) g r u × HasPlain Text u.cells p (off + at) w) Never none most fuel r (stores.Full I64) at (local e) (local c.value) p off page (off + at) (Number (words.word v)) (Number (words.word v)) e_r refl z_r (ap (λ (m : ℕ). Some (Number m)) small) sized (omega (arith, inside)) (
            place-store p (off + at) (off + at + 16) g r (off + at) 8 (Number (words.word v)) (omega arith) (omega arith) (omega arith),
            made (with_cell r.cells (Own p) (off + at) 8 (Number (words.word v))) (words.word v, with_cell-same r.cells p (off + at) 8 (Number (words.word v)), low, words.word_back v fit),
          )
  put_ends (kind.Number s) val.Null r of e_r sized h = absurd h
  put_ends (kind.Number s) (val.Date v) r of e_r sized h = absurd of
  put_ends (kind.Number s) (val.Text t) r of e_r sized h = absurd of
  put_ends kind.Date (val.Date v) r of e_r sized h =
      let low = words.word_below v h.1 in
      let small : words.word v % 2 ^ 64 ≡ words.word v = omega (arith, low) in
      store_ends (Put (val.Date v) r) Never none most fuel r (stores.Full I64) at (local e) (local c.value) p off page from (Number (words.word v)) (Number (words.word v)) e_r refl h.0 (ap (λ (m : ℕ). Some (Number m)) small) sized (omega (arith, inside)) (
        place-store p from (from + 16) g r from 8 (Number (words.word v)) (omega arith) (omega arith) (omega arith),
        (words.word v, with_cell-same r.cells p from 8 (Number (words.word v)), low, words.word_back v h.1),
      )
  put_ends kind.Date val.Null r of e_r sized h = absurd h
  put_ends kind.Date (val.Num v) r of e_r sized h = absurd of
  put_ends kind.Date (val.Text t) r of e_r sized h = absurd of
  put_ends kind.Text val.Null r of e_r sized h = absurd h
  put_ends kind.Text (val.Num v) r of e_r sized h = absurd of
  put_ends kind.Text (val.Date v) r of e_r sized h = absurd of
  put_ends kind.Text (val.Text t) r of e_r sized h =
      let there : Value = Address h.0 h.1 in
      let long : Value = Number (length t) in
      let r1 : LowState = record r { cells = with_cell r.cells (Own p) from 4 there } in
      let r2 : LowState = record r1 { cells = with_cell r1.cells (Own p) (from + 4) 4 long } in
      let whole : length t % 2 ^ 32 ≡ length t = omega (arith, h.4) in
      let place : off + (at + 4) ≡ from + 4 = omega arith in
      store_then (Put (val.Text t) r) Never none most fuel r 3 (store (stores.Full I32) (at + 4) (local e) (local c.length)) (stores.Full I32) at (local e) (local c.value) p off page from there there e_r refl h.2 refl sized (omega (arith, inside))
      (store_ends (Put (val.Text t) r) Never none most fuel r1 (stores.Full I32) (at + 4) (local e) (local c.length) p off page (from + 4) long long e_r place h.3 (ap (λ (m : ℕ). Some (Number m)) whole) sized (omega (arith, inside)) (
        place-then p from (from + 16) g r r1 r2 (place-store p from (from + 16) g r from 4 there (omega arith) (omega arith) (omega arith)) (place-store p from (from + 16) g r1 (from + 4) 4 long (omega arith) (omega arith) (omega arith)),
        (h.0, h.1, with_cell-apart r1.cells p (from + 4) 4 long p from 4 (omega arith) (inl (omega arith)) ∙ with_cell-same r.cells p from 4 there, with_cell-same r1.cells p (from + 4) 4 long, h.5),
      ))

  -- ---- it is compared
  module _ (o : Comparison) (more : ℕ) (some : 1 ≤ more) (turns : more ≤ fuel) (order : Statement) where
    abbrev chosen_cell : Cell
    chosen_cell = record { value = g + 3; length = g + 4; null = None }

    module _ (q : LowState) (e_q : slice_get q.locals e ≡ Some (Address (Own p) off)) (room : g + 9 ≤ length q.locals) (stands : (p : Part) (o : ℕ) (t : List ℕ) → Text p o t → Stands q p o t) where
      abbrev pub Compared : Kind → Val → Val → LowState → Type 0
      Compared kd b v r = Kept g q r × (value r (is_beaten kd (relation_of o) c g) ≡ Some (Number (truth (answers o (value_order b v)))))

      number_compared : (b v : ℤ) → FitsSigned w64 v → slice_get q.locals c.value ≡ Some (Number (words.word v)) → (word : ℕ) × (q.cells (Own p) from 8 ≡ Some (Number word)) × (word < 2 ^ 64) × (cast_signed w64 word ≡ b) →
          Ends 3 (λ r. Kept g q r × (value r (relop I64 (relation_of o) (local g) (local c.value)) ≡ Some (Number (truth (answers o (int_cmp b v)))))) Never none (meaning most fuel (load g (loads.Full I64) at (local e)) q)
      number_compared b v fit_v z_q has =
          let fit_b : FitsSigned w64 b = fits_back has.0 b has.2 has.3 in
          let is : has.0 ≡ words.word b = words.word_of has.0 b has.2 has.3 in
          let r : LowState = record q { locals = slice_set q.locals g (Number has.0) } in
          load_ends (λ r. Kept g q r × (value r (relop I64 (relation_of o) (local g) (local c.value)) ≡ Some (Number (truth (answers o (int_cmp b v)))))) Never none most fuel q g (loads.Full I64) at (local e) (Own p) off from (Number has.0) (Number has.0) e_q refl has.1 refl (omega (arith, room)) (
            Kept-set g q q g (Number has.0) (Kept-same g q) (omega arith),
            rw (slice_get-set_same q.locals g (Number has.0) (omega (arith, room)), set_other q.locals g c.value (Number has.0) (Number (words.word v)) (λ i. omega (arith, i, below.0)) z_q, is) (ap (λ (n : ℕ). Some (Number n)) (tells_truth o b v fit_b fit_v)),
          )

      pub compare_does : (kd : Kind) (b v : Val) → (kd ≡ kind.Text → Compares of_shorter (SaysOrder (g + 7)) chosen_cell c (g + 5) order) → IsOfKind kd b → IsOfKind kd v → HasPlain Text q.cells p from b → Plainly Text q.locals c v → 1 + octets_of v ≤ more → Does most fuel more some (Compared kd b v) (chosen_read kd order e at g) q
      compare_does (kind.Number s) (val.Num b) (val.Num v) orders of_b of_v has h units = does_within most fuel more some (Compared (kind.Number s) (val.Num b) (val.Num v)) 3 (chosen_read (kind.Number s) order e at g) q (omega arith) (number_compared b v h.1 h.0 has.0)
      compare_does kind.Date (val.Date b) (val.Date v) orders of_b of_v has h units = does_within most fuel more some (Compared kind.Date (val.Date b) (val.Date v)) 3 (chosen_read kind.Date order e at g) q (omega arith) (number_compared b v h.1 h.0 has)
      compare_does kind.Text (val.Text b) (val.Text v) orders of_b of_v has h units =
          let C : LowState → Type 0 = Compared kind.Text (val.Text b) (val.Text v) in
          let there : Value = Address has.0 has.1 in
          let long : Value = Number (length b) in
          let q1 : LowState = record q { locals = slice_set q.locals (g + 3) there } in
          let q2 : LowState = record q1 { locals = slice_set q1.locals (g + 4) long } in
          let many1 : length q1.locals ≡ length q.locals = length-set q.locals (g + 3) there in
          let many2 : length q2.locals ≡ length q.locals = length-set q1.locals (g + 4) long ∙ many1 in
          let kept2 : Kept g q q2 = Kept-set g q q1 (g + 4) long (Kept-set g q q (g + 3) there (Kept-same g q) (omega arith)) (omega arith) in
          let e1 : slice_get q1.locals e ≡ Some (Address (Own p) off) = set_other q.locals (g + 3) e there (Address (Own p) off) (λ i. omega (arith, i, e_low)) e_q in
          let place : off + (at + 4) ≡ from + 4 = omega arith in
          let old = stands has.0 has.1 b has.4 in
          let new = stands h.0 h.1 v h.5 in
          let left : HoldsText q2 (g + 3) (g + 4) b = record {
            part = has.0;
            offset = has.1;
            is_at = set_other q1.locals (g + 4) (g + 3) long there (λ i. omega (arith, i)) (slice_get-set_same q.locals (g + 3) there (omega (arith, room)));
            is_long = slice_get-set_same q1.locals (g + 4) long (omega (arith, room, many1));
            short = old.1;
            lies = lies-kept g q q2 has.0 has.1 b kept2 old.0;
          } in
          let right : HoldsText q2 c.value c.length v = record {
            part = h.0;
            offset = h.1;
            is_at = kept2.below c.value below.0 ∙ h.2;
            is_long = kept2.below c.length below.1 ∙ h.3;
            short = h.4;
            lies = lies-kept g q q2 h.0 h.1 v kept2 new.0;
          } in
          does_then most fuel more some (λ t. t ≡ q1) C (load (g + 3) (loads.Full I32) at (local e)) (seq (load (g + 4) (loads.Full I32) (at + 4) (local e)) order) q
          (does_within most fuel more some (λ t. t ≡ q1) 3 (load (g + 3) (loads.Full I32) at (local e)) q (omega arith)
          (load_ends (λ t. t ≡ q1) Never none most fuel q (g + 3) (loads.Full I32) at (local e) (Own p) off from there there e_q refl has.2 refl (omega (arith, room)) refl))
          (λ t1 is1. subst (λ (r : LowState). Does most fuel more some C (seq (load (g + 4) (loads.Full I32) (at + 4) (local e)) order) r) (sym is1)
          (does_then most fuel more some (λ t. t ≡ q2) C (load (g + 4) (loads.Full I32) (at + 4) (local e)) order q1
          (does_within most fuel more some (λ t. t ≡ q2) 3 (load (g + 4) (loads.Full I32) (at + 4) (local e)) q1 (omega arith)
          (load_ends (λ t. t ≡ q2) Never none most fuel q1 (g + 4) (loads.Full I32) (at + 4) (local e) (Own p) off (from + 4) long long e1 place has.3 refl (omega (arith, room, many1)) refl))
          (λ t2 is2. subst (λ (r : LowState). Does most fuel more some C order r) (sym is2)
          (Ends-weaker (size order * more) (size order * more) (λ t. Kept (g + 5) q2 t × SaysOrder (g + 7) b v t) C Never Never none none (meaning most fuel order q2) (omega arith)
          (λ t done. (
            Kept-then g (g + 5) q q2 t (omega arith) kept2 done.0,
            (let fit : FitsSigned w64 done.1.0 = fits_back done.1.1.0 done.1.0 done.1.1.2 done.1.1.3 in
                rw (words.held_word t (g + 7) done.1.0 done.1.1) (ap (λ (n : ℕ). Some (Number n)) (zero_told o done.1.0 (text_order b v) fit done.1.2))),
          )) (λ t y. y) (λ code y. y)
          ((orders refl).runs most fuel more q2 b v (let less = min-le_right (length b) (length v) in omega (arith, units, less)) turns left right (omega (arith, room, many2)))))))
      compare_does (kind.Number s) val.Null v orders of_b of_v has h units = absurd has
      compare_does (kind.Number s) (val.Date b) v orders of_b of_v has h units = absurd of_b
      compare_does (kind.Number s) (val.Text b) v orders of_b of_v has h units = absurd of_b
      compare_does (kind.Number s) (val.Num b) val.Null orders of_b of_v has h units = absurd h
      compare_does (kind.Number s) (val.Num b) (val.Date v) orders of_b of_v has h units = absurd of_v
      compare_does (kind.Number s) (val.Num b) (val.Text v) orders of_b of_v has h units = absurd of_v
      compare_does kind.Date val.Null v orders of_b of_v has h units = absurd has
      compare_does kind.Date (val.Num b) v orders of_b of_v has h units = absurd of_b
      compare_does kind.Date (val.Text b) v orders of_b of_v has h units = absurd of_b
      compare_does kind.Date (val.Date b) val.Null orders of_b of_v has h units = absurd h
      compare_does kind.Date (val.Date b) (val.Num v) orders of_b of_v has h units = absurd of_v
      compare_does kind.Date (val.Date b) (val.Text v) orders of_b of_v has h units = absurd of_v
      compare_does kind.Text val.Null v orders of_b of_v has h units = absurd has
      compare_does kind.Text (val.Num b) v orders of_b of_v has h units = absurd of_b
      compare_does kind.Text (val.Date b) v orders of_b of_v has h units = absurd of_b
      compare_does kind.Text (val.Text b) val.Null orders of_b of_v has h units = absurd h
      compare_does kind.Text (val.Text b) (val.Num v) orders of_b of_v has h units = absurd of_v
      compare_does kind.Text (val.Text b) (val.Date v) orders of_b of_v has h units = absurd of_v
