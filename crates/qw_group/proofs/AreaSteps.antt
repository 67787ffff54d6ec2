-- Parts of the block of a set function: a value is counted, a block is done where a value isn't null.
use Rattle.std.proofs.Common.{◌≡◌, ℕ, ◌+◌, ◌*◌, ◌^◌, ◌%◌, ◌<◌, ◌≤◌, ◌⊎◌, Bool, true, false, Option, Some, None, length, Ok, slice_get, slice_set, refl, ap, ⊎_elim, arith}
use Rattle.qw_types.specs.declared.value.Val.{Val}
use Rattle.qw_types.specs.declared.value.Val.TheVariants as val
use Rattle.qw_linear.specs.Memory.{page}
use Rattle.qw_map.proofs.TurnFacts.{slice_get-set_same}
use Rattle.qw_module.specs.Numbers.{truth}
use Rattle.qw_module.specs.declared.instruction.ValType.TheVariants.{I64}
use Rattle.qw_module.specs.declared.instruction.Binary.TheVariants.{Add}
use Rattle.qw_module.specs.declared.instruction.Load.TheVariants as loads
use Rattle.qw_module.specs.declared.instruction.Store.TheVariants as stores
use Rattle.qw_low.specs.Syntax.{Expression, local, binop, Statement, skip, seq, store, conditional}
use Rattle.qw_low.specs.State.{Own, Number, Address, LowState, with_cell}
use Rattle.qw_low.specs.Held.{SaysNull, SaysValue}
use Rattle.qw_low.specs.Meaning.{value, meaning}
use Rattle.qw_low.specs.Size.{size}
use Rattle.qw_low.specs.Promise.{Ends}
use Rattle.qw_low.proofs.Promises.{Ends-more}
use Rattle.qw_low.proofs.BlockSteps.{load_then}
use Rattle.qw_low.proofs.Results.{at_least, comes_then, comes_choose, comes_skip}
use Rattle.qw_feed.proofs.CellRuns.{store_ends}
use Rattle.qw_feed.proofs.Frames.{Never, with_cell-same}
use Rattle.qw_table.specs.Joins.{unless_null}
use Rattle.qw_group.specs.Areas.{InPlace, count_more}
use Rattle.qw_group.specs.Wides.{i64}
use Rattle.qw_group.proofs.AreaFrames.{place-then, place-set, place-store}
use Rattle.qw_group.proofs.WideRuns.{none, set_other}

-- ---- blocks that raise nothing, within so many times their size
module _ (most fuel N : ℕ) (some : 1 ≤ N) where
  abbrev pub Does : (LowState → Type 0) → Statement → LowState → Type 0
  Does P a s = Ends (size a * N) P Never none (meaning most fuel a s)

  pub does_within : (P : LowState → Type 0) (m : ℕ) (a : Statement) (s : LowState) → m ≤ size a → Ends m P Never none (meaning most fuel a s) → Does P a s
  does_within P m a s le h = Ends-more P Never none m (size a * N) (meaning most fuel a s) (omega (arith, le, at_least (size a) N some)) h

  pub does_then : (P Q : LowState → Type 0) (a b : Statement) (s : LowState) → Does P a s → ((t : LowState) → P t → Does Q b t) → Does Q (seq a b) s
  does_then P Q a b s first second = comes_then most fuel N {A = ℕ} {B = ℕ} (λ n t. P t) (λ n t. Q t) (Ok 0) (λ n. Ok 0) a b s first (λ n t is h. second t h)

  pub does_choose : (Q : LowState → Type 0) (e : Expression) (g : Bool) (a b : Statement) (s : LowState) → value s e ≡ Some (Number (truth g)) → (g ≡ true → Does Q a s) → (g ≡ false → Does Q b s) → Does Q (conditional e a b) s
  does_choose Q e g a b s is first second = comes_choose most fuel N some {B = ℕ} (λ n t. Q t) (Ok 0) e g a b s is first second

  pub does_skip : (Q : LowState → Type 0) (s : LowState) → Q s → Does Q skip s
  does_skip Q s h = comes_skip most fuel N some {A = ℕ} (λ n t. Q t) 0 s h

  -- nothing where the value is null
  pub unless_does : (P : LowState → Type 0) (null : Option ℕ) (v : Val) (a : Statement) (s : LowState) → ((v ≡ val.Null) × SaysNull s null) ⊎ ((v ≡ val.Null → ⊥) × SaysValue s null) → (v ≡ val.Null → P s) → ((v ≡ val.Null → ⊥) → Does P a s) → Does P (unless_null null a) s
  unless_does P None v a s says first second = ⊎_elim (λ it. absurd it.1) (λ there. second there.0) says
  unless_does P (Some n) v a s says first second = ⊎_elim
      (λ it. does_choose P (local n) true skip a s it.1 (λ yes. does_skip P s (first it.0)) (λ no'. absurd cc))
      (λ there. does_choose P (local n) false skip a s there.1 (λ yes. absurd cc) (λ no'. second there.0))
      says

module _ (most fuel p off e at g : ℕ) (e_low : e < g) (t : LowState) (e_is : slice_get t.locals e ≡ Some (Address (Own p) off)) (sized : slice_get t.own p ≡ Some page) (inside : off + at + 32 ≤ page) (room : g + 9 ≤ length t.locals) where
  abbrev from : ℕ
  from = off + at

  -- ---- one more is counted
  module _ (n : ℕ) (cell : t.cells (Own p) (from + 16) 8 ≡ Some (Number n)) (small_n : n + 1 < 2 ^ 64) where
    abbrev t1 : LowState
    t1 = record t { locals = slice_set t.locals g (Number n) }

    abbrev pub t2 : LowState
    t2 = record t1 { cells = with_cell t1.cells (Own p) (from + 16) 8 (Number (n + 1)) }

    pub e1 : slice_get t1.locals e ≡ Some (Address (Own p) off)
    e1 = set_other t.locals g e (Number n) (Address (Own p) off) (λ is. omega (arith, is, e_low)) e_is

    pub counted : Ends 8 (λ w. w ≡ t2) Never none (meaning most fuel (count_more e at g) t)
    counted =
        let g_is : slice_get t1.locals g ≡ Some (Number n) = slice_get-set_same t.locals g (Number n) (omega (arith, room)) in
        let next : (n + 1) % 2 ^ 64 ≡ n + 1 = omega (arith, small_n) in
        let sum : value t1 (binop I64 Add (local g) (i64 1)) ≡ Some (Number (n + 1)) = rw (g_is, next) refl in
        load_then (λ w. w ≡ t2) Never none most fuel t 5 (store (stores.Full I64) (at + 16) (local e) (binop I64 Add (local g) (i64 1))) g (loads.Full I64) (at + 16) (local e) (Own p) off (from + 16) (Number n) (Number n) e_is (omega arith) cell refl (omega (arith, room))
        (store_ends (λ w. w ≡ t2) Never none most fuel t1 (stores.Full I64) (at + 16) (local e) (binop I64 Add (local g) (i64 1)) p off page (from + 16) (Number (n + 1)) (Number (n + 1)) e1 (omega arith) sum (ap (λ (m : ℕ). Some (Number m)) next) sized (omega (arith, inside)) refl)

    pub in_two : InPlace p from (from + 32) g t t2
    in_two = place-then p from (from + 32) g t t1 t2 (place-set p from (from + 32) g t g (Number n) (omega arith)) (place-store p from (from + 32) g t1 (from + 16) 8 (Number (n + 1)) (omega arith) (omega arith) (omega arith))

    pub count_two : t2.cells (Own p) (from + 16) 8 ≡ Some (Number (n + 1))
    count_two = with_cell-same t1.cells p (from + 16) 8 (Number (n + 1))
