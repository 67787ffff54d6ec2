-- The area of a set function takes one value more.
use Rattle.std.proofs.Common.{◌≡◌, ℕ, suc, ◌+◌, ◌-◌, ◌*◌, ◌^◌, ◌<◌, ◌≤◌, ◌⊎◌, inl, inr, Bool, true, false, if◌then◌else◌, ℤ, ◌+ℤ◌, unsigned_abs, FitsSigned, List, [], ◌∷◌, ◌++◌, length, length-append, length-set, Option, Some, None, slice_get, refl, sym, ap, ◌∙◌, subst, arith, w64}
use Rattle.std.proofs.lemmas.Bool.{ne_eqb}
use Rattle.qw_types.specs.Kind.{IsOfKind}
use Rattle.qw_types.specs.ValueOrder.{value_order}
use Rattle.qw_types.specs.declared.kind.Kind.TheVariants as kind
use Rattle.qw_types.specs.declared.value.Val.{Val}
use Rattle.qw_types.specs.declared.value.Val.TheVariants as val
use Rattle.qw_scalar.specs.declared.comparison.Comparison.{Comparison}
use Rattle.qw_scalar.specs.declared.comparison.Comparison.TheVariants as op
use Rattle.qw_scalar.specs.Evaluation.{answers}
use Rattle.qw_grouped.specs.SetFunctions.{not_null, number_in, total, least, greatest}
use Rattle.qw_grouped.specs.declared.set_function.SetFunctionKind.{SetFunctionKind}
use Rattle.qw_grouped.specs.declared.set_function.SetFunctionKind.TheVariants.{CountRows, Count, Sum, Avg, Min, Max}
use Rattle.qw_linear.specs.Memory.{page}
use Rattle.qw_map.proofs.TurnFacts.{slice_get-set_same, slice_get-set_other}
use Rattle.qw_module.specs.Numbers.{truth}
use Rattle.qw_module.specs.declared.instruction.ValType.TheVariants.{I64}
use Rattle.qw_module.specs.declared.instruction.Relation.TheVariants.{Ne}
use Rattle.qw_low.specs.declared.cell.Cell.{Cell}
use Rattle.qw_low.specs.Syntax.{local, relop, Statement, skip, seq, conditional}
use Rattle.qw_low.specs.State.{Part, Own, Value, Number, Address, Cells, LowState}
use Rattle.qw_low.specs.Held.{SaysNull, SaysValue}
use Rattle.qw_low.specs.Meaning.{value, meaning}
use Rattle.qw_low.specs.Size.{size}
use Rattle.qw_low.specs.Promise.{Ends}
use Rattle.qw_low.specs.Raising.{Kept}
use Rattle.qw_low.proofs.Promises.{Ends-weaker}
use Rattle.qw_text.specs.Texts.{Compares, SaysOrder, of_shorter}
use Rattle.qw_feed.specs.Cells.{Says, Lacks, Supplies}
use Rattle.qw_feed.proofs.Frames.{Never, with_cell-apart}
use Rattle.qw_table.specs.Entries.{Stands}
use Rattle.qw_table.specs.Keys.{IsBelow, octets_of}
use Rattle.qw_table.specs.Joins.{unless_null}
use Rattle.qw_table.specs.declared.key.Field.{Field}
use Rattle.qw_wide.specs.Relations.{relation_of}
use Rattle.qw_wide.proofs.Words as words
use Rattle.qw_group.specs.Areas.{InPlace, HasCount, HasSum, HasPlain, HasChosen, HasAggregate, Chooses, Gives, OrdersTexts, Aggregates, count_more, sum_more, plain_put, chosen_read, is_beaten, choose_more, area_block}
use Rattle.qw_group.specs.Wides.{IsWide, i64}
use Rattle.qw_group.proofs.AreaFrames.{place-none, place-then, place-wider, place-kept}
use Rattle.qw_group.proofs.AreaSteps as steps
use Rattle.qw_group.proofs.AreaSteps.{Does, does_within, does_then, does_choose, does_skip, unless_does}
use Rattle.qw_group.proofs.ChosenRuns.{Plainly, supplied-plainly, plainly-kept, plain-same, Put, put_ends, compare_does}
use Rattle.qw_group.proofs.SumAreaRuns.{Summed, sum_more_ends}
use Rattle.qw_group.proofs.TakenFacts.{after, taken-null, taken-there, taken-few, one-more, magnitude-add, total-more, least-more, greatest-more}
use Rattle.qw_group.proofs.WideRuns.{none}

-- ---- null or not, as locals say
says-value : (s : LowState) (null : Option ℕ) → Says s.locals 0 null → SaysValue s null
says-value s None h = h
says-value s (Some n) h = h

says-null : (s : LowState) (null : Option ℕ) → Lacks s.locals null → SaysNull s null
says-null s None h = h
says-null s (Some n) h = h

pub null-supplied : (Text : Part → ℕ → List ℕ → Type 0) (s : LowState) (c : Cell) (v : Val) → Supplies Text s.locals c v → ((v ≡ val.Null) × SaysNull s c.null) ⊎ ((v ≡ val.Null → ⊥) × SaysValue s c.null)
null-supplied Text s c val.Null h = inl (refl, says-null s c.null h)
null-supplied Text s c (val.Num v) h = inr (λ e. cc, says-value s c.null h.2)
null-supplied Text s c (val.Date v) h = inr (λ e. cc, says-value s c.null h.1)
null-supplied Text s c (val.Text t) h = inr (λ e. cc, says-value s c.null h.6)

-- a number of at most 18 digits
numeric : (v : Val) → (v ≡ val.Null → ⊥) → IsOfKind (kind.Number 0) v → unsigned_abs (number_in v) ≤ 10 ^ 18 - 1
numeric val.Null some of = absurd (some refl)
numeric (val.Num v) some of = let low = words.fits_below v of in omega (arith, low)
numeric (val.Date v) some of = absurd of
numeric (val.Text v) some of = absurd of

numeric-word : (Text : Part → ℕ → List ℕ → Type 0) (xs : List Value) (c : Cell) (v : Val) → IsOfKind (kind.Number 0) v → Plainly Text xs c v → (slice_get xs c.value ≡ Some (Number (words.word (number_in v)))) × FitsSigned w64 (number_in v)
numeric-word Text xs c val.Null of h = absurd h
numeric-word Text xs c (val.Num v) of h = (h.0, h.1)
numeric-word Text xs c (val.Date v) of h = absurd of
numeric-word Text xs c (val.Text v) of h = absurd of

module _ (Text : Part → ℕ → List ℕ → Type 0) (most fuel more p off e at g : ℕ) (some : 1 ≤ more) (turns : more ≤ fuel) (e_low : e < g) (f : Field) (below : IsBelow g f) (t : LowState) (values : List Val) (few : length values < 10 ^ 18) (v : Val)
    (e_is : slice_get t.locals e ≡ Some (Address (Own p) off)) (sized : slice_get t.own p ≡ Some page) (inside : off + at + 32 ≤ page) (room : g + 9 ≤ length t.locals)
    (stands : (u : LowState) → InPlace p (off + at) (off + at + 32) g t u → (k : Part) (o : ℕ) (octets : List ℕ) → Text k o octets → Stands u k o octets) where
  abbrev from : ℕ
  from = off + at

  abbrev c : Cell
  c = f.cell

  abbrev values' : List Val
  values' = values ++ v ∷ []

  abbrev n : ℕ
  n = length (not_null values)

  abbrev In : LowState → Type 0
  In u = InPlace p from (from + 32) g t u

  small_n : (m : ℕ) → m ≤ length values → m + 1 < 2 ^ 64
  small_n m le = omega (arith, few, le)

  abbrev q : (m : ℕ) → m ≤ length values → t.cells (Own p) (from + 16) 8 ≡ Some (Number m) → LowState
  q m le has = steps.t2 most fuel p off e at g e_low t e_is sized inside room m has (small_n m le)

  in_q : (m : ℕ) (le : m ≤ length values) (has : HasCount m t.cells p from) → In (q m le has)
  in_q m le has = steps.in_two most fuel p off e at g e_low t e_is sized inside room m has (small_n m le)

  -- ---- a value is counted
  count_does : (P : LowState → Type 0) (m : ℕ) (le : m ≤ length values) (has : HasCount m t.cells p from) → P (q m le has) → Does most fuel more some P (count_more e at g) t
  count_does P m le has post = does_within most fuel more some P 8 (count_more e at g) t (omega arith)
      (Ends-weaker 8 8 (λ u. u ≡ q m le has) P Never Never none none (meaning most fuel (count_more e at g) t) (omega arith) (λ u is. subst P (sym is) post) (λ u y. y) (λ code y. y)
      (steps.counted most fuel p off e at g e_low t e_is sized inside room m has (small_n m le)))

  counts_then : (P : LowState → Type 0) (a : Statement) (m : ℕ) (le : m ≤ length values) (has : HasCount m t.cells p from) → Does most fuel more some P a (q m le has) → Does most fuel more some P (seq (count_more e at g) a) t
  counts_then P a m le has onward = does_then most fuel more some (λ u. u ≡ q m le has) P (count_more e at g) a t (count_does (λ u. u ≡ q m le has) m le has refl) (λ u is. subst (λ (r : LowState). Does most fuel more some P a r) (sym is) onward)

  -- the count of one more
  count_there : (v ≡ val.Null → ⊥) → (cells : Cells) → cells (Own p) (from + 16) 8 ≡ Some (Number (n + 1)) → HasCount (length (not_null values')) cells p from
  count_there there cells is = is ∙ ap (λ (m : ℕ). Some (Number m)) (sym (length-append (not_null values) (v ∷ [])) ∙ ap (λ (l : List Val). length l) (sym (taken-there values v there)))

  count_null : v ≡ val.Null → (cells : Cells) → HasCount n cells p from → HasCount (length (not_null values')) cells p from
  count_null is cells h = h ∙ ap (λ (l : List Val). Some (Number (length l))) (sym (taken-null values v is))

  -- where the value isn't null
  abbrev Unless : (LowState → Type 0) → Statement → Type 0
  Unless P a = Supplies Text t.locals c v → (v ≡ val.Null → P t) → ((v ≡ val.Null → ⊥) → Does most fuel more some P a t) → Does most fuel more some P (unless_null c.null a) t

  unless : (P : LowState → Type 0) (a : Statement) → Unless P a
  unless P a supplied first second = unless_does most fuel more some P c.null v a t (null-supplied Text t c v supplied) first second

  -- ---- COUNT(*) and COUNT
  rows_does : HasCount (length values) t.cells p from → Does most fuel more some (λ u. In u × HasCount (length values') u.cells p from) (count_more e at g) t
  rows_does has = count_does (λ u. In u × HasCount (length values') u.cells p from) (length values) (omega arith) has
      (in_q (length values) (omega arith) has, steps.count_two most fuel p off e at g e_low t e_is sized inside room (length values) has (small_n (length values) (omega arith)) ∙ ap (λ (m : ℕ). Some (Number m)) (sym (one-more values v)))

  values_does : Supplies Text t.locals c v → HasCount n t.cells p from → Does most fuel more some (λ u. In u × HasCount (length (not_null values')) u.cells p from) (unless_null c.null (count_more e at g)) t
  values_does supplied has =
      let P : LowState → Type 0 = λ u. In u × HasCount (length (not_null values')) u.cells p from in
      let le : n ≤ length values = taken-few values in
      unless P (count_more e at g) supplied (λ is. (place-none p from (from + 32) g t, count_null is t.cells has))
      (λ there. count_does P n le has (in_q n le has, count_there there (q n le has).cells (steps.count_two most fuel p off e at g e_low t e_is sized inside room n has (small_n n le))))

  -- ---- SUM and AVG
  abbrev Sums : LowState → Type 0
  Sums u = In u × (HasCount (length (not_null values')) u.cells p from × HasSum (not_null values') u.cells p from)

  module _ (has : HasCount n t.cells p from) (there : v ≡ val.Null → ⊥) where
    le : n ≤ length values
    le = taken-few values

    abbrev r : LowState
    r = q n le has

    many_r : length r.locals ≡ length t.locals
    many_r = length-set t.locals g (Number n)

    e_r : slice_get r.locals e ≡ Some (Address (Own p) off)
    e_r = steps.e1 most fuel p off e at g e_low t e_is sized inside room n has (small_n n le)

    count_r : r.cells (Own p) (from + 16) 8 ≡ Some (Number (n + 1))
    count_r = steps.count_two most fuel p off e at g e_low t e_is sized inside room n has (small_n n le)

    -- what lies before the count is as it was
    before_r : (a b : ℕ) → from ≤ a → a + b ≤ from + 16 → r.cells (Own p) a b ≡ t.cells (Own p) a b
    before_r a b low high = with_cell-apart t.cells p (from + 16) 8 (Number (n + 1)) p a b (omega arith) (inl (omega (arith, high)))

    plainly_r : Plainly Text t.locals c v → Plainly Text r.locals c v
    plainly_r h = plainly-kept Text t.locals r.locals c v (slice_get-set_other t.locals g c.value (Number n) (λ i. omega (arith, i, below.0))) (slice_get-set_other t.locals g c.length (Number n) (λ i. omega (arith, i, below.1))) h

    sums : HasSum (not_null values) t.cells p from → IsOfKind (kind.Number 0) v → Plainly Text t.locals c v → Does most fuel more some Sums (sum_more e at c.value g) r
    sums sum of h =
        let y : ℤ = total (not_null values) in
        let x : ℤ = number_in v in
        let word = numeric-word Text r.locals c v of (plainly_r h) in
        let one : unsigned_abs x ≤ 10 ^ 18 - 1 = numeric v there of in
        let all : length (not_null values') ≡ n + 1 = ap (λ (l : List Val). length l) (taken-there values v there) ∙ one-more (not_null values) v in
        let bound : unsigned_abs (y +ℤ x) ≤ length (not_null values') * (10 ^ 18 - 1) = omega (arith, magnitude-add y x, sum.bounded, one, all) in
        let sum_fit : unsigned_abs (y +ℤ x) < 2 ^ 127 = omega (arith, bound, few, all, le) in
        let whole : total (not_null values') ≡ y +ℤ x = ap total (taken-there values v there) ∙ total-more (not_null values) v in
        does_within most fuel more some Sums 29 (sum_more e at c.value g) r (omega arith)
        (Ends-weaker 29 29 (Summed most fuel p off e at g e_low r e_r sized inside (omega (arith, many_r, room)) sum.low sum.high (before_r from 8 (omega arith) (omega arith) ∙ sum.low_is) (before_r (from + 8) 8 (omega arith) (omega arith) ∙ sum.high_is) y x sum.sum c.value below.0 word.0 word.1 sum_fit)
        Sums Never Never none none (meaning most fuel (sum_more e at c.value g) r) (omega arith)
        (λ u done. (
          place-then p from (from + 32) g t r u (in_q n le has) (place-wider p from (from + 16) from (from + 32) g r u (omega arith) (omega arith) done.0),
          (
            count_there there u.cells (done.0.cells p (from + 16) 8 (inr (omega arith)) ∙ count_r),
            record {
              low = done.1;
              high = done.2;
              low_is = done.3;
              high_is = done.4;
              sum = subst (λ (m : ℤ). IsWide done.1 done.2 m) (sym whole) done.5;
              bounded = subst (λ (m : ℤ). unsigned_abs m ≤ length (not_null values') * (10 ^ 18 - 1)) (sym whole) bound;
            },
          ),
        )) (λ u y. y) (λ code y. y)
        (sum_more_ends most fuel p off e at g e_low r e_r sized inside (omega (arith, many_r, room)) sum.low sum.high (before_r from 8 (omega arith) (omega arith) ∙ sum.low_is) (before_r (from + 8) 8 (omega arith) (omega arith) ∙ sum.high_is) y x sum.sum c.value below.0 word.0 word.1 sum_fit))

    -- ---- MIN and MAX: each value that beats the one that is chosen, as a comparison tells, takes its place
    module _ (choose : Val → List Val → Val) (o : Comparison) (chosen_none : (w : Val) → choose w [] ≡ w) (chosen_more : (w : Val) (ws : List Val) (x : Val) → choose w (ws ++ x ∷ []) ≡ after o (choose w ws) x)
        (order : Statement) (orders : f.kind ≡ kind.Text → Compares of_shorter (SaysOrder (g + 7)) (record { value = g + 3; length = g + 4; null = None }) c (g + 5) order)
        (of : IsOfKind f.kind v) (h : Plainly Text t.locals c v) where
      abbrev Best : LowState → Type 0
      Best u = In u × (HasCount (length (not_null values')) u.cells p from × HasChosen Text f.kind choose (not_null values') u.cells p from)

      abbrev put : Statement
      put = plain_put f.kind c e at

      whole : not_null values' ≡ not_null values ++ v ∷ []
      whole = taken-there values v there

      -- it is stored at a state behind the count
      puts : (w : LowState) → Kept g r w → ((cells : Cells) → HasPlain Text cells p from v → HasChosen Text f.kind choose (not_null values') cells p from) → Does most fuel more some Best put w
      puts w kept chosen =
          let cells_w : w.cells ≡ r.cells = ap (λ (s : LowState). s.cells) kept.others in
          let own_w : slice_get w.own p ≡ Some page = ap (λ (s : LowState). slice_get s.own p) kept.others ∙ sized in
          let plain_w : Plainly Text w.locals c v = plainly-kept Text r.locals w.locals c v (kept.below c.value below.0) (kept.below c.length below.1) (plainly_r h) in
          does_within most fuel more some Best (size put) put w (omega arith)
          (Ends-weaker (size put) (size put) (Put Text most fuel p off e at g e_low inside c (below.0, below.1) v w) Best Never Never none none (meaning most fuel put w) (omega arith)
          (λ u done. (
            place-then p from (from + 32) g t w u (place-then p from (from + 32) g t r w (in_q n le has) (place-kept p from (from + 32) g r w kept)) (place-wider p from (from + 16) from (from + 32) g w u (omega arith) (omega arith) done.0),
            (
              count_there there u.cells (done.0.cells p (from + 16) 8 (inr (omega arith)) ∙ (ap (λ (cells : Cells). cells (Own p) (from + 16) 8) cells_w ∙ count_r)),
              chosen u.cells done.1,
            ),
          )) (λ u y. y) (λ code y. y)
          (put_ends Text most fuel p off e at g e_low inside c (below.0, below.1) f.kind v w of (kept.below e e_low ∙ e_r) own_w plain_w))

      abbrev choice : Statement
      choice = conditional (is_beaten f.kind (relation_of o) c g) put skip

      -- by the values that were taken
      chooses : (ws : List Val) → not_null values ≡ ws → HasChosen Text f.kind choose ws t.cells p from → 1 + octets_of v ≤ more →
          Does most fuel more some Best (conditional (relop I64 Ne (local g) (i64 0)) (seq (chosen_read f.kind order e at g) choice) put) r
      chooses [] is known unit =
          let g_is : value r (relop I64 Ne (local g) (i64 0)) ≡ Some (Number (truth false)) = rw (slice_get-set_same t.locals g (Number n) (omega (arith, room)) ∙ ap (λ (l : List Val). Some (Number (length l))) is) refl in
          let new : not_null values' ≡ v ∷ [] = whole ∙ ap (λ (l : List Val). l ++ v ∷ []) is in
          does_choose most fuel more some Best (relop I64 Ne (local g) (i64 0)) false (seq (chosen_read f.kind order e at g) choice) put r g_is (λ yes. absurd cc)
          (λ no'. puts r (record { others = refl; many = refl; below = λ i low. refl })
          (λ cells plain. subst (λ (l : List Val). HasChosen Text f.kind choose l cells p from) (sym new)
          (subst (λ (w : Val). IsOfKind f.kind w × HasPlain Text cells p from w) (sym (chosen_none v)) (of, plain))))
      chooses (w ∷ ws) is known unit =
          let b : Val = choose w ws in
          let g_is : value r (relop I64 Ne (local g) (i64 0)) ≡ Some (Number (truth true)) = rw (slice_get-set_same t.locals g (Number n) (omega (arith, room)) ∙ ap (λ (l : List Val). Some (Number (length l))) is, ne_eqb (suc (length ws)) 0 (λ i. omega (arith, i))) refl in
          let new : not_null values' ≡ w ∷ (ws ++ v ∷ []) = whole ∙ ap (λ (l : List Val). l ++ v ∷ []) is in
          let plain_b : HasPlain Text r.cells p from b = plain-same Text t.cells r.cells p from b (λ a l wide low high. before_r a l low high) known.1 in
          does_choose most fuel more some Best (relop I64 Ne (local g) (i64 0)) true (seq (chosen_read f.kind order e at g) choice) put r g_is
          (λ yes. does_then most fuel more some (λ u. Kept g r u × (value u (is_beaten f.kind (relation_of o) c g) ≡ Some (Number (truth (answers o (value_order b v)))))) Best (chosen_read f.kind order e at g) choice r
          (compare_does Text most fuel p off e at g e_low inside c (below.0, below.1) o more some turns order r e_r (omega (arith, many_r, room)) (stands r (in_q n le has)) f.kind b v orders known.0 of plain_b (plainly_r h) unit)
          (λ u done. does_choose most fuel more some Best (is_beaten f.kind (relation_of o) c g) (answers o (value_order b v)) put skip u done.1
          (λ win. puts u done.0 (λ cells plain. subst (λ (l : List Val). HasChosen Text f.kind choose l cells p from) (sym new)
          (subst (λ (x : Val). IsOfKind f.kind x × HasPlain Text cells p from x) (sym (chosen_more w ws v ∙ ap (λ (k : Bool). if k then v else b) win)) (of, plain))))
          (λ lose. does_skip most fuel more some Best u (
            place-then p from (from + 32) g t r u (in_q n le has) (place-kept p from (from + 32) g r u done.0),
            (
              count_there there u.cells (ap (λ (s : LowState). s.cells (Own p) (from + 16) 8) done.0.others ∙ count_r),
              subst (λ (l : List Val). HasChosen Text f.kind choose l u.cells p from) (sym new)
                  (subst (λ (x : Val). IsOfKind f.kind x × HasPlain Text u.cells p from x) (sym (chosen_more w ws v ∙ ap (λ (k : Bool). if k then v else b) lose))
                  (known.0, plain-same Text r.cells u.cells p from b (λ a l wide low high. ap (λ (s : LowState). s.cells (Own p) a l) done.0.others) plain_b)),
            ),
          ))))
          (λ no'. absurd cc)

      choose_does : 1 + octets_of v ≤ more → HasChosen Text f.kind choose (not_null values) t.cells p from → Does most fuel more some Best (conditional (relop I64 Ne (local g) (i64 0)) (seq (chosen_read f.kind order e at g) choice) put) r
      choose_does unit known = chooses (not_null values) refl known unit

  -- ---- any set function
  abbrev pub Taken : SetFunctionKind → LowState → Type 0
  Taken function u = In u × HasAggregate Text function f.kind values' u.cells p from

  summed_does : Supplies Text t.locals c v → IsOfKind (kind.Number 0) v → HasCount n t.cells p from × HasSum (not_null values) t.cells p from → Does most fuel more some Sums (unless_null c.null (seq (count_more e at g) (sum_more e at c.value g))) t
  summed_does supplied of has =
      unless Sums (seq (count_more e at g) (sum_more e at c.value g)) supplied
      (λ is. (place-none p from (from + 32) g t, (count_null is t.cells has.0, subst (λ (l : List Val). HasSum l t.cells p from) (sym (taken-null values v is)) has.1)))
      (λ there. counts_then Sums (sum_more e at c.value g) n (taken-few values) has.0 (sums has.0 there has.1 of (supplied-plainly Text t.locals c v there supplied)))

  module _ (choose : Val → List Val → Val) (o : Comparison) (chosen_none : (w : Val) → choose w [] ≡ w) (chosen_more : (w : Val) (ws : List Val) (x : Val) → choose w (ws ++ x ∷ []) ≡ after o (choose w ws) x)
      (order : Statement) (orders : f.kind ≡ kind.Text → Compares of_shorter (SaysOrder (g + 7)) (record { value = g + 3; length = g + 4; null = None }) c (g + 5) order) where
    abbrev Chosen : LowState → Type 0
    Chosen u = In u × (HasCount (length (not_null values')) u.cells p from × HasChosen Text f.kind choose (not_null values') u.cells p from)

    chosen_does : 1 + octets_of v ≤ more → Supplies Text t.locals c v → IsOfKind f.kind v → HasCount n t.cells p from × HasChosen Text f.kind choose (not_null values) t.cells p from → Does most fuel more some Chosen (unless_null c.null (choose_more f.kind (relation_of o) order c e at g)) t
    chosen_does units supplied of has =
        unless Chosen (choose_more f.kind (relation_of o) order c e at g) supplied
        (λ is. (place-none p from (from + 32) g t, (count_null is t.cells has.0, subst (λ (l : List Val). HasChosen Text f.kind choose l t.cells p from) (sym (taken-null values v is)) has.1)))
        (λ there. counts_then Chosen (conditional (relop I64 Ne (local g) (i64 0)) (seq (chosen_read f.kind order e at g) (conditional (is_beaten f.kind (relation_of o) c g) (plain_put f.kind c e at) skip)) (plain_put f.kind c e at)) n (taken-few values) has.0
        (choose_does has.0 there choose o chosen_none chosen_more order orders of (supplied-plainly Text t.locals c v there supplied) units has.1))

  pub area_does : (function : SetFunctionKind) (order : Statement) → OrdersTexts function f g order → (Chooses function → 1 + octets_of v ≤ more) → Gives Text t.locals function f v → HasAggregate Text function f.kind values t.cells p from → Does most fuel more some (Taken function) (area_block function order f e at g) t
  area_does CountRows order orders units gives has = rows_does has
  area_does Count order orders units gives has = values_does gives.0 has
  area_does Sum order orders units gives has = summed_does gives.0 gives.1 has
  area_does Avg order orders units gives has = summed_does gives.0 gives.1 has
  area_does Min order orders units gives has = chosen_does least op.Greater (λ w. refl) least-more order (λ text. orders tt text) (units tt) gives.0 gives.1 has
  area_does Max order orders units gives has = chosen_does greatest op.Less (λ w. refl) greatest-more order (λ text. orders tt text) (units tt) gives.0 gives.1 has

  pub takes_end : (function : SetFunctionKind) (a : Statement) → Aggregates function f e at g a → (Chooses function → 1 + octets_of v ≤ more) → Gives Text t.locals function f v → HasAggregate Text function f.kind values t.cells p from → Ends (size a * more) (Taken function) Never none (meaning most fuel a t)
  takes_end function a is units gives has = subst (λ (b : Statement). Ends (size b * more) (Taken function) Never none (meaning most fuel b t)) (sym is.is) (area_does function is.order is.orders units gives has)
