-- The value of a set function is read out of its area.
use Rattle.std.proofs.Common.{◌≡◌, ◌≢◌, ℕ, suc, ◌+◌, ◌*◌, ◌^◌, ◌<◌, ◌≤◌, ◌==◌, Bool, true, false, ℤ, pos, ◌*ℤ◌, int_div, unsigned_abs, IsTrue, List, [], ◌∷◌, length, length-set, Some, Result, Ok, Err, slice_get, slice_set, refl, sym, ap, ◌∙◌, subst, arith}
use Rattle.std.proofs.lemmas.Bool.{ne_eqb}
use Rattle.std.proofs.lemmas.Nat.{mul-le}
use Rattle.qw_types.specs.Arithmetic.{fits, checked}
use Rattle.qw_types.specs.Kind.{IsOfKind}
use Rattle.qw_types.specs.declared.code.Code.{Code}
use Rattle.qw_types.specs.declared.kind.Kind.{Kind}
use Rattle.qw_types.specs.declared.kind.Kind.TheVariants as kind
use Rattle.qw_types.specs.declared.value.Val.{Val}
use Rattle.qw_types.specs.declared.value.Val.TheVariants as val
use Rattle.qw_scalar.specs.Evaluation.{as_number}
use Rattle.qw_grouped.specs.SetFunctions.{not_null, total, least, greatest, least_value, greatest_value, sum_value, average_value, set_function_value}
use Rattle.qw_grouped.specs.declared.set_function.SetFunctionKind.{SetFunctionKind}
use Rattle.qw_grouped.specs.declared.set_function.SetFunctionKind.TheVariants.{CountRows, Count, Sum, Avg, Min, Max}
use Rattle.qw_map.proofs.TurnFacts.{slice_get-set_same}
use Rattle.qw_module.specs.Numbers.{truth}
use Rattle.qw_module.specs.declared.instruction.ValType.TheVariants.{I32, I64}
use Rattle.qw_module.specs.declared.instruction.Load.TheVariants as loads
use Rattle.qw_low.specs.Syntax.{local, is_zero, Statement, skip, seq, assign, load, conditional}
use Rattle.qw_low.specs.State.{Own, Value, Number, Address, LowState}
use Rattle.qw_low.specs.Held.{HoldsNumber}
use Rattle.qw_low.specs.Meaning.{meaning}
use Rattle.qw_low.specs.Size.{size}
use Rattle.qw_low.specs.Raising.{Kept, Leaves, Raises}
use Rattle.qw_low.proofs.Promises.{Ends-more, Ends-weaker}
use Rattle.qw_low.proofs.BlockSteps.{load_ends, load_then}
use Rattle.qw_low.proofs.Results.{Comes, Kept-same, Kept-set, Kept-then, at_least, comes_then, comes_choose, comes_skip, comes_assign, comes_set, comes_weaker}
use Rattle.qw_feed.proofs.Frames.{Never}
use Rattle.qw_table.specs.Entries.{HoldsValue, Stands, cell_from}
use Rattle.qw_table.proofs.EntryRuns.{lies-kept}
use Rattle.qw_wide.proofs.Words as words
use Rattle.qw_group.specs.Areas.{HasCount, HasSum, HasPlain, HasChosen, HasAggregate}
use Rattle.qw_group.specs.Values.{may_be_null, read_units}
use Rattle.qw_group.specs.Sums.{average_most}
use Rattle.qw_group.specs.Wides.{HoldsWide}
use Rattle.qw_group.specs.Inner.WideBlocks.{fit_block, averaging_block}
use Rattle.qw_group.specs.Inner.ValueBlocks.{count_read, where_taken, words_read, sum_known, average_known, chosen_known, value_block}
use Rattle.qw_group.proofs.AverageRuns.{avg_ends}
use Rattle.qw_group.proofs.TakenFacts.{taken-few}
use Rattle.qw_group.proofs.WideFacts.{most-few}
use Rattle.qw_group.proofs.WideRuns.{none, set_other, fit_ends}

-- a number as a value
comes_number : (most fuel N : ℕ) (P : ℤ → LowState → Type 0) (Q : Val → LowState → Type 0) (r : Result ℤ Code) (a : Statement) (s : LowState) → ((v : ℤ) (t : LowState) → P v t → Q (val.Num v) t) → Comes most fuel N P r a s → Comes most fuel N Q (as_number r) a s
comes_number most fuel N P Q (Ok v) a s also h = Ends-weaker (size a * N) (size a * N) (P v) (Q (val.Num v)) Never Never none none (meaning most fuel a s) (omega arith) (λ t y. also v t y) (λ t y. y) (λ code y. y) h
comes_number most fuel N P Q (Err code) a s also h = h

module _ (most fuel k o e at f N : ℕ) (once : 1 ≤ N) (e_low : e < f) (s : LowState) (e_is : slice_get s.locals e ≡ Some (Address (Own k) o)) (room : f + 8 ≤ length s.locals) (values : List Val) (few : length values < 10 ^ 18) where
  abbrev from : ℕ
  from = o + at

  abbrev Read : Bool → Val → LowState → Type 0
  Read nullable v t = Kept f s t × HoldsValue (cell_from f nullable) v t

  abbrev Gets : Bool → Result Val Code → Statement → LowState → Type 0
  Gets nullable r a t = Comes most fuel N (Read nullable) r a t

  -- ---- counts
  number_held : (t : LowState) (x n : ℕ) → n < 10 ^ 18 → slice_get t.locals x ≡ Some (Number n) → HoldsNumber t x (pos n)
  number_held t x n small is = words.word_held t x (pos n) (words.small (pos n) (omega (arith, small))) is

  count_gets : (n : ℕ) → n < 10 ^ 18 → HasCount n s.cells k from → Gets false (Ok (val.Num (pos n))) (count_read e at (f + 1)) s
  count_gets n small has =
      let P : LowState → Type 0 = Read false (val.Num (pos n)) in
      let s1 : LowState = record s { locals = slice_set s.locals (f + 1) (Number n) } in
      Ends-more P Never none 3 (3 * N) (meaning most fuel (count_read e at (f + 1)) s) (omega (arith, once))
      (load_ends P Never none most fuel s (f + 1) (loads.Full I64) (at + 16) (local e) (Own k) o (from + 16) (Number n) (Number n) e_is (omega arith) has refl (omega (arith, room)) (
        Kept-set f s s (f + 1) (Number n) (Kept-same f s) (omega arith),
        (number_held s1 (f + 1) n small (slice_get-set_same s.locals (f + 1) (Number n) (omega (arith, room))), words.below_fits (pos n) small, tt),
      ))

  -- ---- null where no value was taken
  module _ (x : ℕ) (x_in : (f < x) × (x < f + 8)) (n : ℕ) (has : HasCount n s.cells k from) where
    abbrev s1 : LowState
    s1 = record s { locals = slice_set s.locals x (Number n) }

    abbrev s2 : LowState
    s2 = record s1 { locals = slice_set s1.locals f (Number (truth (n == 0))) }

    many1 : length s1.locals ≡ length s.locals
    many1 = length-set s.locals x (Number n)

    many2 : length s2.locals ≡ length s.locals
    many2 = length-set s1.locals f (Number (truth (n == 0))) ∙ many1

    pub kept2 : Kept f s s2
    kept2 = Kept-set f s s1 f (Number (truth (n == 0))) (Kept-set f s s x (Number n) (Kept-same f s) (omega (arith, x_in.0))) (omega arith)

    x2 : slice_get s2.locals x ≡ Some (Number n)
    x2 = set_other s1.locals f x (Number (truth (n == 0))) (Number n) (λ i. omega (arith, i, x_in.0)) (slice_get-set_same s.locals x (Number n) (omega (arith, room, x_in.1)))

    f2 : slice_get s2.locals f ≡ Some (Number (truth (n == 0)))
    f2 = slice_get-set_same s1.locals f (Number (truth (n == 0))) (omega (arith, room, many1))

    begins : (r : Result Val Code) (known : Statement) → Gets true r (conditional (local f) skip known) s2 → Gets true r (where_taken e at x f known) s
    begins r known onward =
        comes_then most fuel N {A = ℕ} {B = Val} (λ m t. t ≡ s1) (Read true) (Ok 0) (λ m. r) (count_read e at x) (seq (assign f (is_zero I64 (local x))) (conditional (local f) skip known)) s
        (Ends-more (λ t. t ≡ s1) Never none 3 (3 * N) (meaning most fuel (count_read e at x) s) (omega (arith, once))
        (load_ends (λ t. t ≡ s1) Never none most fuel s x (loads.Full I64) (at + 16) (local e) (Own k) o (from + 16) (Number n) (Number n) e_is (omega arith) has refl (omega (arith, room, x_in.1)) refl))
        (λ m t is_ok is. subst (λ (u : LowState). Gets true r (seq (assign f (is_zero I64 (local x))) (conditional (local f) skip known)) u) (sym is)
        (comes_set most fuel N once {B = Val} (Read true) r f (is_zero I64 (local x)) (Number (truth (n == 0))) (conditional (local f) skip known) s1 (rw (slice_get-set_same s.locals x (Number n) (omega (arith, room, x_in.1))) refl) (omega (arith, room, many1)) onward))

    none_gets : n ≡ 0 → (known : Statement) → Gets true (Ok val.Null) (where_taken e at x f known) s
    none_gets zeroth known =
        let is : slice_get s2.locals f ≡ Some (Number 1) = f2 ∙ ap (λ (m : ℕ). Some (Number (truth (m == 0)))) zeroth in
        begins (Ok val.Null) known
        (comes_choose most fuel N once {B = Val} (Read true) (Ok val.Null) (local f) true skip known s2 is
        (λ yes. comes_skip most fuel N once {A = Val} (Read true) val.Null s2 (kept2, is)) (λ no'. absurd cc))

    some_gets : n ≢ 0 → (r : Result Val Code) (known : Statement) → (slice_get s2.locals f ≡ Some (Number 0) → Gets true r known s2) → Gets true r (where_taken e at x f known) s
    some_gets other r known onward =
        let is : slice_get s2.locals f ≡ Some (Number 0) = f2 ∙ ap (λ (b : Bool). Some (Number (truth b))) (ne_eqb n 0 other) in
        begins r known (comes_choose most fuel N once {B = Val} (Read true) r (local f) false skip known s2 is (λ yes. absurd cc) (λ no'. onward is))

    -- ---- at the state where one was taken
    module _ (says : slice_get s2.locals f ≡ Some (Number 0)) where
      e2 : slice_get s2.locals e ≡ Some (Address (Own k) o)
      e2 = kept2.below e e_low ∙ e_is

      -- the words of a sum
      module _ (sum : List Val) (has_sum : HasSum sum s.cells k from) (x_low : x < f + 3) where
        abbrev s3 : LowState
        s3 = record s2 { locals = slice_set s2.locals (f + 4) (Number has_sum.low) }

        abbrev s4 : LowState
        s4 = record s3 { locals = slice_set s3.locals (f + 4 + 1) (Number has_sum.high) }

        many3 : length s3.locals ≡ length s.locals
        many3 = length-set s2.locals (f + 4) (Number has_sum.low) ∙ many2

        many4 : length s4.locals ≡ length s.locals
        many4 = length-set s3.locals (f + 4 + 1) (Number has_sum.high) ∙ many3

        kept4 : Kept (f + 3) s2 s4
        kept4 = Kept-set (f + 3) s2 s3 (f + 4 + 1) (Number has_sum.high) (Kept-set (f + 3) s2 s2 (f + 4) (Number has_sum.low) (Kept-same (f + 3) s2) (omega arith)) (omega arith)

        wide4 : HoldsWide s4 (f + 4) (total sum)
        wide4 = record {
          low = has_sum.low;
          high = has_sum.high;
          low_at = set_other s3.locals (f + 4 + 1) (f + 4) (Number has_sum.high) (Number has_sum.low) (λ i. omega (arith, i)) (slice_get-set_same s2.locals (f + 4) (Number has_sum.low) (omega (arith, room, many2)));
          high_at = slice_get-set_same s3.locals (f + 4 + 1) (Number has_sum.high) (omega (arith, room, many3));
          is = has_sum.sum;
        }

        words_then : (r : Result Val Code) (a : Statement) → Gets true r a s4 → Gets true r (seq (words_read e at (f + 4)) a) s2
        words_then r a onward =
            let e3 : slice_get s3.locals e ≡ Some (Address (Own k) o) = set_other s2.locals (f + 4) e (Number has_sum.low) (Address (Own k) o) (λ i. omega (arith, i, e_low)) e2 in
            comes_then most fuel N {A = ℕ} {B = Val} (λ m t. t ≡ s4) (Read true) (Ok 0) (λ m. r) (words_read e at (f + 4)) a s2
            (Ends-more (λ t. t ≡ s4) Never none 6 (6 * N) (meaning most fuel (words_read e at (f + 4)) s2) (omega (arith, once))
            (load_then (λ t. t ≡ s4) Never none most fuel s2 3 (load (f + 4 + 1) (loads.Full I64) (at + 8) (local e)) (f + 4) (loads.Full I64) at (local e) (Own k) o from (Number has_sum.low) (Number has_sum.low) e2 refl has_sum.low_is refl (omega (arith, room, many2))
            (load_ends (λ t. t ≡ s4) Never none most fuel s3 (f + 4 + 1) (loads.Full I64) (at + 8) (local e) (Own k) o (from + 8) (Number has_sum.high) (Number has_sum.high) e3 (omega arith) has_sum.high_is refl (omega (arith, room, many3)) refl)))
            (λ m t is_ok is. subst (λ (u : LowState). Gets true r a u) (sym is) onward)

        -- the number in local f + 4 is the value
        abbrev move : Statement
        move = assign (f + 1) (local (f + 4))

        moves : (v : ℤ) (t : LowState) → Kept (f + 1) s2 t → HoldsNumber t (f + 4) v → IsTrue (fits v) → Gets true (Ok (val.Num v)) move t
        moves v t kept number fit =
            let w : Value = Number number.0 in
            let t1 : LowState = record t { locals = slice_set t.locals (f + 1) w } in
            let room_t : f + 8 ≤ length t.locals = omega (arith, room, many2, kept.many) in
            comes_assign most fuel N once {A = Val} (Read true) (val.Num v) (f + 1) (local (f + 4)) w t number.1 (omega (arith, room_t)) (
              Kept-set f s t (f + 1) w (Kept-then f (f + 1) s s2 t (omega arith) kept2 kept) (omega arith),
              (
                (number.0, slice_get-set_same t.locals (f + 1) w (omega (arith, room_t)), number.2, number.3),
                fit,
                set_other t.locals (f + 1) f w (Number 0) (λ i. omega (arith, i)) (kept.below f (omega arith) ∙ says),
              ),
            )

        -- a number, and its place
        abbrev Given : ℤ → LowState → Type 0
        Given v t = Kept (f + 1) s2 t × (HoldsNumber t (f + 4) v × IsTrue (fits v))

        given_gets : (r : Result ℤ Code) (a : Statement) → Comes most fuel N Given r a s4 → Gets true (as_number r) (seq a move) s4
        given_gets (Ok v) a first = comes_then most fuel N {A = ℤ} {B = Val} Given (Read true) (Ok v) (λ w. Ok (val.Num w)) a move s4 first (λ w t is h. moves w t h.0 h.1.0 h.1.1)
        given_gets (Err code) a first = comes_then most fuel N {A = ℤ} {B = Val} Given (Read true) (Err code) (λ w. Ok (val.Num w)) a move s4 first (λ w t is h. absurd cc)

        sum_gets : Gets true (as_number (checked (total sum))) (sum_known e at f) s2
        sum_gets =
            let r : Result ℤ Code = checked (total sum) in
            let P : ℤ → LowState → Type 0 = λ v t. (t ≡ s4) × HoldsNumber t (f + 4) v × IsTrue (fits v) in
            words_then (as_number r) (seq (fit_block (f + 4)) move) (given_gets r (fit_block (f + 4))
            (comes_weaker most fuel N {A = ℤ} P Given r (fit_block (f + 4)) s4 (λ v t is h. (subst (Kept (f + 1) s2) (sym h.0) (Kept-then (f + 1) (f + 3) s2 s2 s4 (omega arith) (Kept-same (f + 1) s2) kept4), (h.1, h.2)))
            (Ends-more (Leaves P r) Never (Raises r) 16 (size (fit_block (f + 4)) * N) (meaning most fuel (fit_block (f + 4)) s4) (at_least 16 N once) (fit_ends most fuel (f + 4) s4 (total sum) wide4))))

        average_gets : 16 < fuel → 17 ≤ N → x ≡ f + 1 → 1 ≤ n → n < 10 ^ 18 → unsigned_abs (total sum) < n * 10 ^ 18 → Gets true (as_number (checked (int_div (total sum *ℤ pos (10 ^ 4)) (pos n)))) (average_known e at f) s2
        average_gets turns enough x_is some small bound =
            let r : Result ℤ Code = checked (int_div (total sum *ℤ pos (10 ^ 4)) (pos n)) in
            let P : ℤ → LowState → Type 0 = λ v t. Kept (f + 3) s4 t × HoldsNumber t (f + 3 + 1) v × IsTrue (fits v) in
            let up : f + 4 ≡ f + 3 + 1 = omega arith in
            let wide : HoldsWide s4 (f + 3 + 1) (total sum) = subst (λ (i : ℕ). HoldsWide s4 i (total sum)) up wide4 in
            let count : slice_get s4.locals (f + 1) ≡ Some (Number n) = kept4.below (f + 1) (omega arith) ∙ subst (λ (i : ℕ). slice_get s2.locals i ≡ Some (Number n)) x_is x2 in
            words_then (as_number r) (seq (averaging_block (f + 3) (f + 1)) move) (given_gets r (averaging_block (f + 3) (f + 1))
            (comes_weaker most fuel N {A = ℤ} P Given r (averaging_block (f + 3) (f + 1)) s4
            (λ v t is h. (Kept-then (f + 1) (f + 3) s2 s4 t (omega arith) (Kept-then (f + 1) (f + 3) s2 s2 s4 (omega arith) (Kept-same (f + 1) s2) kept4) h.0, (subst (λ (i : ℕ). HoldsNumber t i v) (sym up) h.1, h.2)))
            (Ends-more (Leaves P r) Never (Raises r) (average_most (total sum) n) (size (averaging_block (f + 3) (f + 1)) * N) (meaning most fuel (averaging_block (f + 3) (f + 1)) s4) (let all : size (averaging_block (f + 3) (f + 1)) * 17 ≤ size (averaging_block (f + 3) (f + 1)) * N = mul-le (size (averaging_block (f + 3) (f + 1))) 17 (size (averaging_block (f + 3) (f + 1))) N (omega arith) enough in omega (arith, all, most-few (total sum) n))
            (avg_ends most fuel (f + 3) (f + 1) n (omega arith) s4 (total sum) wide count some small bound (omega (arith, room, many4)) turns))))

      -- the value that was chosen
      chosen_gets : (kd : Kind) (v : Val) → IsOfKind kd v → HasPlain (Stands s) s.cells k from v → Gets true (Ok v) (chosen_known kd e at f) s2
      chosen_gets (kind.Number d) (val.Num v) of h =
          Ends-more (Read true (val.Num v)) Never none 3 (3 * N) (meaning most fuel (load (f + 1) (loads.Full I64) at (local e)) s2) (omega (arith, once))
          (load_ends (Read true (val.Num v)) Never none most fuel s2 (f + 1) (loads.Full I64) at (local e) (Own k) o from (Number h.0.0) (Number h.0.0) e2 refl h.0.1 refl (omega (arith, room, many2)) (
            Kept-set f s s2 (f + 1) (Number h.0.0) kept2 (omega arith),
            ((h.0.0, slice_get-set_same s2.locals (f + 1) (Number h.0.0) (omega (arith, room, many2)), h.0.2, h.0.3), h.1, set_other s2.locals (f + 1) f (Number h.0.0) (Number 0) (λ i. omega (arith, i)) says),
          ))
      chosen_gets kind.Date (val.Date v) of h =
          Ends-more (Read true (val.Date v)) Never none 3 (3 * N) (meaning most fuel (load (f + 1) (loads.Full I64) at (local e)) s2) (omega (arith, once))
          (load_ends (Read true (val.Date v)) Never none most fuel s2 (f + 1) (loads.Full I64) at (local e) (Own k) o from (Number h.0) (Number h.0) e2 refl h.1 refl (omega (arith, room, many2)) (
            Kept-set f s s2 (f + 1) (Number h.0) kept2 (omega arith),
            ((h.0, slice_get-set_same s2.locals (f + 1) (Number h.0) (omega (arith, room, many2)), h.2, h.3), set_other s2.locals (f + 1) f (Number h.0) (Number 0) (λ i. omega (arith, i)) says),
          ))
      chosen_gets kind.Text (val.Text t) of h =
          let P : LowState → Type 0 = Read true (val.Text t) in
          let there : Value = Address h.0 h.1 in
          let long : Value = Number (length t) in
          let t1 : LowState = record s2 { locals = slice_set s2.locals (f + 1) there } in
          let t2 : LowState = record t1 { locals = slice_set t1.locals (f + 2) long } in
          let many_t : length t1.locals ≡ length s.locals = length-set s2.locals (f + 1) there ∙ many2 in
          let kept : Kept f s t2 = Kept-set f s t1 (f + 2) long (Kept-set f s s2 (f + 1) there kept2 (omega arith)) (omega arith) in
          let place : o + (at + 4) ≡ from + 4 = omega arith in
          Ends-more P Never none 6 (6 * N) (meaning most fuel (chosen_known kind.Text e at f) s2) (omega (arith, once))
          (load_then P Never none most fuel s2 3 (load (f + 2) (loads.Full I32) (at + 4) (local e)) (f + 1) (loads.Full I32) at (local e) (Own k) o from there there e2 refl h.2 refl (omega (arith, room, many2))
          (load_ends P Never none most fuel t1 (f + 2) (loads.Full I32) (at + 4) (local e) (Own k) o (from + 4) long long (set_other s2.locals (f + 1) e there (Address (Own k) o) (λ i. omega (arith, i, e_low)) e2) place h.3 refl (omega (arith, room, many_t)) (
            kept,
            (
              record {
                part = h.0;
                offset = h.1;
                is_at = set_other t1.locals (f + 2) (f + 1) long there (λ i. omega (arith, i)) (slice_get-set_same s2.locals (f + 1) there (omega (arith, room, many2)));
                is_long = slice_get-set_same t1.locals (f + 2) long (omega (arith, room, many_t));
                short = h.4.1;
                lies = lies-kept f s t2 h.0 h.1 t kept h.4.0;
              },
              set_other t1.locals (f + 2) f long (Number 0) (λ i. omega (arith, i)) (set_other s2.locals (f + 1) f there (Number 0) (λ i. omega (arith, i)) says),
            ),
          )))
      chosen_gets (kind.Number d) val.Null of h = absurd h
      chosen_gets (kind.Number d) (val.Date v) of h = absurd of
      chosen_gets (kind.Number d) (val.Text t) of h = absurd of
      chosen_gets kind.Date val.Null of h = absurd h
      chosen_gets kind.Date (val.Num v) of h = absurd of
      chosen_gets kind.Date (val.Text t) of h = absurd of
      chosen_gets kind.Text val.Null of h = absurd h
      chosen_gets kind.Text (val.Num v) of h = absurd of
      chosen_gets kind.Text (val.Date v) of h = absurd of

  -- ---- by the values that were taken
  sums_get : (vs : List Val) → HasCount (length vs) s.cells k from → HasSum vs s.cells k from → Gets true (sum_value vs) (where_taken e at (f + 1) f (sum_known e at f)) s
  sums_get [] count sum = none_gets (f + 1) (omega arith, omega arith) 0 count refl (sum_known e at f)
  sums_get (v ∷ vs) count sum = some_gets (f + 1) (omega arith, omega arith) (suc (length vs)) count (λ z. omega (arith, z)) (sum_value (v ∷ vs)) (sum_known e at f)
      (λ says. sum_gets (f + 1) (omega arith, omega arith) (suc (length vs)) count says (v ∷ vs) sum (omega arith))

  averages_get : 16 < fuel → 17 ≤ N → (vs : List Val) → length vs < 10 ^ 18 → HasCount (length vs) s.cells k from → HasSum vs s.cells k from → Gets true (average_value vs) (where_taken e at (f + 1) f (average_known e at f)) s
  averages_get turns enough [] small count sum = none_gets (f + 1) (omega arith, omega arith) 0 count refl (average_known e at f)
  averages_get turns enough (v ∷ vs) small count sum = some_gets (f + 1) (omega arith, omega arith) (suc (length vs)) count (λ z. omega (arith, z)) (average_value (v ∷ vs)) (average_known e at f)
      (λ says. average_gets (f + 1) (omega arith, omega arith) (suc (length vs)) count says (v ∷ vs) sum (omega arith) turns enough refl (omega arith) small (omega (arith, sum.bounded)))

  chosen_get : (choose : Val → List Val → Val) (of : List Val → Val) → of [] ≡ val.Null → ((v : Val) (vs : List Val) → of (v ∷ vs) ≡ choose v vs) → (kd : Kind) (vs : List Val) → HasCount (length vs) s.cells k from → HasChosen (Stands s) kd choose vs s.cells k from →
      Gets true (Ok (of vs)) (where_taken e at (f + 4) f (chosen_known kd e at f)) s
  chosen_get choose of null more kd [] count chosen = subst (λ (v : Val). Gets true (Ok v) (where_taken e at (f + 4) f (chosen_known kd e at f)) s) (sym null) (none_gets (f + 4) (omega arith, omega arith) 0 count refl (chosen_known kd e at f))
  chosen_get choose of null more kd (v ∷ vs) count chosen = subst (λ (w : Val). Gets true (Ok w) (where_taken e at (f + 4) f (chosen_known kd e at f)) s) (sym (more v vs))
      (some_gets (f + 4) (omega arith, omega arith) (suc (length vs)) count (λ z. omega (arith, z)) (Ok (choose v vs)) (chosen_known kd e at f)
      (λ says. chosen_gets (f + 4) (omega arith, omega arith) (suc (length vs)) count says kd (choose v vs) chosen.0 chosen.1))

  pub value_gets : (function : SetFunctionKind) (kd : Kind) → read_units function < fuel → 1 + read_units function ≤ N → HasAggregate (Stands s) function kd values s.cells k from → Gets (may_be_null function) (set_function_value function values) (value_block function kd e at f) s
  value_gets CountRows kd turns enough has = count_gets (length values) few has
  value_gets Count kd turns enough has = count_gets (length (not_null values)) (let le = taken-few values in omega (arith, few, le)) has
  value_gets Sum kd turns enough has = sums_get (not_null values) has.0 has.1
  value_gets Avg kd turns enough has = averages_get turns enough (not_null values) (let le = taken-few values in omega (arith, few, le)) has.0 has.1
  value_gets Min kd turns enough has = chosen_get least least_value refl (λ v vs. refl) kd (not_null values) has.0 has.1
  value_gets Max kd turns enough has = chosen_get greatest greatest_value refl (λ v vs. refl) kd (not_null values) has.0 has.1
