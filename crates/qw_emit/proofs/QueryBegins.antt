-- How the run of a query begins: free space behind the descriptor, and, behind the tables that were built, the result without rows.
use Rattle.std.proofs.Common.{◌≡◌, ℕ, zero, suc, ◌+◌, ◌-◌, ◌%◌, ◌^◌, ◌<◌, ◌≤◌, List, [], length, length-set, replicate, None, Some, slice_get, slice_set, refl, ap, ◌∙◌, ⊎_elim, arith}
use Rattle.std.proofs.lemmas.List.{length-replicate}
use Rattle.qw_types.specs.declared.value.Val.{Val}
use Rattle.qw_linear.specs.Memory.{page}
use Rattle.qw_map.proofs.TurnFacts.{slice_get-set_same, slice_get-set_other}
use Rattle.qw_map.specs.Layout.{Layout, descriptor_size}
use Rattle.qw_module.specs.declared.instruction.ValType.TheVariants.{I32}
use Rattle.qw_module.specs.declared.instruction.Const.TheVariants as const
use Rattle.qw_module.specs.declared.instruction.Binary.TheVariants.{Sub}
use Rattle.qw_module.specs.declared.instruction.Load.TheVariants as loads
use Rattle.qw_low.specs.Begin.{KnowsHead, first_state}
use Rattle.qw_low.specs.Syntax.{constant_of, local, binop, advance, assign}
use Rattle.qw_low.specs.State.{Column, Own, Value, Number, Address, Cells, LowState}
use Rattle.qw_low.specs.Meaning.{value, Outcome, Completed, Exited, Stopped, Wrong, Unfinished, meaning}
use Rattle.qw_low.specs.Promise.{Ends}
use Rattle.qw_low.specs.Raising.{Kept}
use Rattle.qw_low.proofs.BeginLemmas.{head-known, zeros-known}
use Rattle.qw_low.proofs.BlockSteps.{assign_then, load_then}
use Rattle.qw_low.proofs.Promises.{Ends-weaker, assign_ends}
use Rattle.qw_low.proofs.Results.{Kept-same, Kept-set}
use Rattle.qw_feed.specs.Frames.{pos, From, Keeps}
use Rattle.qw_feed.specs.Room.{i32, space_block, HasRoom, Paid}
use Rattle.qw_feed.specs.Rows.{begin_block, HasRows}
use Rattle.qw_feed.proofs.BeginRuns.{rows_begin}
use Rattle.qw_emit.specs.RunsOf.{first_locals}
use Rattle.qw_emit.proofs.ModuleCompiled.{AreReady}
use Rattle.qw_feed.proofs.Frames.{Never}

-- Free space begins behind the descriptor, which has so many octets, and nothing has been placed. All else is as in the first state: of the locals
-- behind the first page's address two were set, and the others are 0.
pub record SpaceBegun (size others : ℕ) (first t : LowState) : Type 0 where
  pub kept : Kept 1 first t
  pub later : (i : ℕ) → 3 ≤ i → slice_get t.locals i ≡ slice_get first.locals i
  pub many : length t.locals ≡ suc others
  pub descriptor : slice_get t.locals 0 ≡ Some (Address (Own 0) 0)
  pub zeros : (i : ℕ) → 3 ≤ i → i ≤ others → slice_get t.locals i ≡ Some (Number 0)
  pub room : HasRoom 0 size t
  pub root : t.cells (Own 0) 8 4 ≡ Some (Number 0)
  pub held : t.held ≡ 1
  pub unrefused : t.refused ≡ None

-- where locals from one on alone were set, and those from another on weren't
kept_from : (n m : ℕ) → 1 ≤ n → (Spared : (at width : ℕ) → Type 0) (s t : LowState) → Kept n s t → ((i : ℕ) → m ≤ i → slice_get t.locals i ≡ slice_get s.locals i) → Keeps (From m) Spared s t
kept_from n m some Spared s t h later = record {
  many = h.many;
  locals = λ i old. ⊎_elim (λ first. h.below i (omega (arith, first))) (λ high. later i high) old;
  own = λ k size is. ap (λ (r : LowState). slice_get r.own k) h.others ∙ is;
  columns = ap (λ (r : LowState). r.columns) h.others;
  limit = ap (λ (r : LowState). r.limit) h.others;
  refused = ap (λ (r : LowState). r.refused) h.others;
  mapped = λ k a b. ap (λ (r : LowState). r.cells (Column k) a b) h.others;
  cells = λ k a b spared. ap (λ (r : LowState). r.cells (Own k) a b) h.others;
}

zero_there : (n i : ℕ) → i < n → slice_get (replicate n (Number 0)) i ≡ Some (Number 0)
zero_there zero i low = absurd (omega arith)
zero_there (suc n) zero low = refl
zero_there (suc n) (suc i) low = zero_there n i (omega arith)

-- a local behind the first one begins as 0
first_zero : (others i : ℕ) → 1 ≤ i → i ≤ others → slice_get (first_locals others) i ≡ Some (Number 0)
first_zero others zero some low = absurd (omega arith)
first_zero others (suc i) some low = zero_there others i (omega arith)

module _ (layout : Layout) (tables : List (List (List Val))) (limit others : ℕ) (are : AreReady layout tables limit) (small : descriptor_size layout ≤ page) (enough : 2 ≤ others)
    (R : ℕ → Type 0) (most fuel : ℕ) where
  abbrev size : ℕ
  size = descriptor_size layout

  abbrev first : LowState
  first = first_state layout tables limit (first_locals others)

  abbrev s1 : LowState
  s1 = record first { locals = slice_set first.locals 1 (Address (Own 0) size) }

  abbrev s2 : LowState
  s2 = record s1 { locals = slice_set s1.locals 2 (Number (page - size)) }

  abbrev Begun : LowState → Type 0
  Begun = SpaceBegun size others first

  head : KnowsHead first.cells layout
  head = head-known layout are.placed tables are.descriptor limit are.memory are.ready

  many : length first.locals ≡ suc others
  many = omega (arith, length-replicate {A = Value} others (Number 0))

  many1 : length s1.locals ≡ suc others
  many1 = length-set first.locals 1 (Address (Own 0) size) ∙ many

  left_is : value s1 (binop I32 Sub (i32 page) (i32 size)) ≡ Some (Number (page - size))
  left_is = let difference : (page + 2 ^ 32 - size) % 2 ^ 32 ≡ page - size = omega (arith, small) in rw difference refl

  kept : Kept 1 first s2
  kept = Kept-set 1 first s1 2 (Number (page - size)) (Kept-set 1 first first 1 (Address (Own 0) size) (Kept-same 1 first) (omega arith)) (omega arith)

  later : (i : ℕ) → 3 ≤ i → slice_get s2.locals i ≡ slice_get first.locals i
  later i behind = slice_get-set_other s1.locals 2 i (Number (page - size)) (λ e. omega (arith, e, behind)) ∙ slice_get-set_other first.locals 1 i (Address (Own 0) size) (λ e. omega (arith, e, behind))

  begun : Begun s2
  begun = record {
    kept = kept;
    later = later;
    many = kept.many ∙ many;
    descriptor = kept.below 0 (omega arith);
    zeros = λ i behind low. later i behind ∙ first_zero others i (omega (arith, behind)) low;
    room = record {
      last = refl;
      pages = λ k low. let none : k ≡ 0 = omega (arith, low) in rw none refl;
      within = small;
      free = slice_get-set_other s1.locals 2 1 (Number (page - size)) (λ e. omega (arith, e)) ∙ slice_get-set_same first.locals 1 (Address (Own 0) size) (omega (arith, many, enough));
      left = slice_get-set_same s1.locals 2 (Number (page - size)) (omega (arith, many1, enough));
      zeros = zeros-known layout are.placed tables are.descriptor limit are.memory are.ready;
      owned = omega arith;
      limited = omega arith;
      few = omega (arith, are.ready.room, are.ready.whole, are.ready.inside, are.ready.behind);
    };
    root = head.2;
    held = refl;
    unrefused = refl;
  }

  -- from the first state on
  pub query_space : Ends 7 Begun Never R (meaning most fuel (space_block size) first)
  query_space = load_then Begun Never R most fuel first 4 (assign 2 (binop I32 Sub (i32 page) (i32 size))) 1 (loads.Full I32) 0 (local 0) (Own 0) 0 0 (Address (Own 0) size) (Address (Own 0) size)
      refl refl head.0 refl (omega (arith, many, enough))
      (assign_ends Begun Never R most fuel 2 (binop I32 Sub (i32 page) (i32 size)) (Number (page - size)) s1 left_is (omega (arith, many1, enough)) begun)

-- so locals from 3 on are as they were, and all that was stored
pub space_keeps : (Spared : (at width : ℕ) → Type 0) (size others : ℕ) (first t : LowState) → SpaceBegun size others first t → Keeps (From 3) Spared first t
space_keeps Spared size others first t begun = kept_from 1 3 (omega arith) Spared first t begun.kept begun.later

-- ---- the result begins
-- It has no rows yet, and begins where free space does. Of the locals two were set.
pub record RowsBegun (Has : Cells → (part offset : ℕ) → List Val → Type 0) (size u before part offset : ℕ) (s t : LowState) : Type 0 where
  pub kept : Kept 3 s t
  pub later : (i : ℕ) → 5 ≤ i → slice_get t.locals i ≡ slice_get s.locals i
  pub has : HasRows Has size (pos part offset) u before [] t

pub rows_keep : (Spared : (at width : ℕ) → Type 0) (Has : Cells → (part offset : ℕ) → List Val → Type 0) (size u before part offset : ℕ) (s t : LowState) → RowsBegun Has size u before part offset s t → Keeps (From 5) Spared s t
rows_keep Spared Has size u before part offset s t begun = kept_from 3 5 (omega arith) Spared s t begun.kept begun.later

-- what is promised twice of one outcome
both_end : (n : ℕ) (P Q : LowState → Type 0) (R : ℕ → Type 0) (out : Outcome) → Ends n P Never R out → Ends n Q Never R out → Ends n (λ t. P t × Q t) Never R out
both_end n P Q R (Completed k t) h g = (h.0, (h.1, g.1))
both_end n P Q R (Exited k t) h g = h
both_end n P Q R (Stopped code k t) h g = h
both_end n P Q R Wrong h g = h
both_end n P Q R Unfinished h g = h

module _ (R : ℕ → Type 0) (most fuel : ℕ) (s : LowState) (Has : Cells → ℕ → ℕ → List Val → Type 0) (size u before part offset : ℕ) (behind : 24 ≤ pos part offset) (room : HasRoom part offset s) (many : 5 ≤ length s.locals)
    (descriptor : slice_get s.locals 0 ≡ Some (Address (Own 0) 0)) (root : s.cells (Own 0) 8 4 ≡ Some (Number 0)) (paid : Paid u before offset s.held) where
  abbrev Later : LowState → Type 0
  Later t = (i : ℕ) → 5 ≤ i → slice_get t.locals i ≡ slice_get s.locals i

  abbrev None' : LowState → Type 0
  None' t = Kept 3 s t × HasRows Has size (pos part offset) u before [] t

  abbrev r1 : LowState
  r1 = record s { locals = slice_set s.locals 3 (Address (Own 0) 8) }

  link_is : value s (advance (local 0) (i32 8)) ≡ Some (Address (Own 0) 8)
  link_is = rw (descriptor, room.pages 0 (omega arith)) refl

  later_end : Ends 6 Later Never R (meaning most fuel begin_block s)
  later_end = assign_then Later Never R most fuel s 2 (assign 4 (constant_of (const.I64 0))) 3 (advance (local 0) (i32 8)) (Address (Own 0) 8) link_is (omega (arith, many))
      (assign_ends Later Never R most fuel 4 (constant_of (const.I64 0)) (Number 0) r1 refl (omega (arith, many, length-set s.locals 3 (Address (Own 0) 8)))
      (λ i high. slice_get-set_other r1.locals 4 i (Number 0) (λ e. omega (arith, e, high)) ∙ slice_get-set_other s.locals 3 i (Address (Own 0) 8) (λ e. omega (arith, e, high))))

  pub rows_begin_end : Ends 6 (RowsBegun Has size u before part offset s) Never R (meaning most fuel begin_block s)
  rows_begin_end = Ends-weaker 6 6 (λ t. None' t × Later t) (RowsBegun Has size u before part offset s) Never Never R R (meaning most fuel begin_block s) (omega arith)
      (λ t h. record { kept = h.0.0; later = h.1; has = h.0.1 }) (λ t never. never) (λ code told. told)
      (both_end 6 None' Later R (meaning most fuel begin_block s) (rows_begin R most fuel s Has size (pos part offset) u before part offset behind (omega arith) room many descriptor root paid) later_end)
