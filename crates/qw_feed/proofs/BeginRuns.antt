-- Where free space begins, and the result without rows.
use Rattle.std.proofs.Common.{◌≡◌, ℕ, ◌+◌, ◌-◌, ◌*◌, ◌%◌, ◌^◌, ◌≤◌, List, [], ◌∷◌, length, length-set, Some, slice_get, slice_set, refl, ap, ◌∙◌, subst, arith}
use Rattle.qw_types.specs.declared.value.Val.{Val}
use Rattle.qw_linear.specs.Memory.{page}
use Rattle.qw_map.proofs.TurnFacts.{slice_get-set_same, slice_get-set_other}
use Rattle.qw_module.specs.declared.instruction.ValType.TheVariants.{I32}
use Rattle.qw_module.specs.declared.instruction.Const.TheVariants as const
use Rattle.qw_module.specs.declared.instruction.Binary.TheVariants.{Sub}
use Rattle.qw_low.specs.Syntax.{constant_of, local, binop, advance, assign}
use Rattle.qw_low.specs.State.{Own, Number, Address, Cells, LowState}
use Rattle.qw_low.specs.Meaning.{value, meaning}
use Rattle.qw_low.specs.Promise.{Ends}
use Rattle.qw_low.specs.Raising.{Kept}
use Rattle.qw_low.proofs.Promises.{assign_ends}
use Rattle.qw_low.proofs.Results.{Kept-same, Kept-set}
use Rattle.qw_low.proofs.BlockSteps.{assign_then}
use Rattle.qw_feed.specs.Frames.{pos}
use Rattle.qw_feed.specs.Room.{i32, HasRoom, Paid}
use Rattle.qw_feed.specs.Rows.{begin_block, HasRows}
use Rattle.qw_feed.proofs.Frames.{Never}
use Rattle.qw_feed.proofs.RoomRuns.{room-kept}

module _ (R : ℕ → Type 0) (most fuel : ℕ) (s : LowState) where
  -- a run begins with one page, whose first octets are the descriptor's
  pub record IsFirst (descriptor_size : ℕ) : Type 0 where
    pub many : 3 ≤ length s.locals
    pub small : descriptor_size ≤ page
    pub descriptor : slice_get s.locals 0 ≡ Some (Address (Own 0) 0)
    pub free : s.cells (Own 0) 0 4 ≡ Some (Address (Own 0) descriptor_size)
    pub own : s.own ≡ page ∷ []
    pub zeros : (a b : ℕ) → descriptor_size ≤ a → a + b ≤ page → s.cells (Own 0) a b ≡ Some (Number 0)
    pub held : s.held ≡ 1
    pub few : s.limit ≤ 65535

  module _ (size : ℕ) (first : IsFirst size) where
    abbrev s1 : LowState
    s1 = record s { locals = slice_set s.locals 1 (Address (Own 0) size) }

    abbrev s2 : LowState
    s2 = record s1 { locals = slice_set s1.locals 2 (Number (page - size)) }

    abbrev Post : LowState → Type 0
    Post t = Kept 1 s t × HasRoom 0 size t

    many1 : length s1.locals ≡ length s.locals
    many1 = length-set s.locals 1 (Address (Own 0) size)

    left_is : value s1 (binop I32 Sub (i32 page) (i32 size)) ≡ Some (Number (page - size))
    left_is = let difference : (page + 2 ^ 32 - size) % 2 ^ 32 ≡ page - size = omega (arith, first.small) in rw difference refl

    begun : Post s2
    begun = (
      Kept-set 1 s s1 2 (Number (page - size)) (Kept-set 1 s s 1 (Address (Own 0) size) (Kept-same 1 s) (omega arith)) (omega arith),
      record {
        last = ap (λ (xs : List ℕ). length xs) first.own;
        pages = λ k low. let none : k ≡ 0 = omega (arith, low) in rw (none, first.own) refl;
        within = first.small;
        free = slice_get-set_other s1.locals 2 1 (Number (page - size)) (λ e. omega (arith, e)) ∙ slice_get-set_same s.locals 1 (Address (Own 0) size) (omega (arith, first.many));
        left = slice_get-set_same s1.locals 2 (Number (page - size)) (omega (arith, first.many, many1));
        zeros = first.zeros;
        owned = omega (arith, ap (λ (xs : List ℕ). length xs) first.own, first.held);
        limited = omega (arith, first.held);
        few = first.few;
      },
    )

  -- wherever it begins then, there are no rows yet
  module _ (Has : Cells → ℕ → ℕ → List Val → Type 0) (size base u before part offset : ℕ) (behind : 24 ≤ base) (low : base ≤ pos part offset) (room : HasRoom part offset s) (many : 5 ≤ length s.locals)
      (descriptor : slice_get s.locals 0 ≡ Some (Address (Own 0) 0)) (root : s.cells (Own 0) 8 4 ≡ Some (Number 0)) (paid : Paid u before offset s.held) where
    abbrev r1 : LowState
    r1 = record s { locals = slice_set s.locals 3 (Address (Own 0) 8) }

    abbrev r2 : LowState
    r2 = record r1 { locals = slice_set r1.locals 4 (Number 0) }

    abbrev None' : LowState → Type 0
    None' t = Kept 3 s t × HasRows Has size base u before [] t

    kept : Kept 3 s r2
    kept = Kept-set 3 s r1 4 (Number 0) (Kept-set 3 s s 3 (Address (Own 0) 8) (Kept-same 3 s) (omega arith)) (omega arith)

    many1' : length r1.locals ≡ length s.locals
    many1' = length-set s.locals 3 (Address (Own 0) 8)

    link_is : value s (advance (local 0) (i32 8)) ≡ Some (Address (Own 0) 8)
    link_is = rw (descriptor, room.pages 0 (omega arith)) refl

    none : None' r2
    none = (
      kept,
      record {
        found = [];
        values_are = refl;
        part = part;
        offset = offset;
        behind = behind;
        room = room-kept part offset 3 s r2 (omega arith) kept room;
        descriptor = kept.below 0 (omega arith) ∙ descriptor;
        link = slice_get-set_other r1.locals 4 3 (Number 0) (λ e. omega (arith, e)) ∙ slice_get-set_same s.locals 3 (Address (Own 0) 8) (omega (arith, many));
        count = slice_get-set_same r1.locals 4 (Number 0) (omega (arith, many, many1'));
        chain = (low, root);
        paid = subst (λ (budget : ℕ). Paid u budget offset s.held) (let nothing : 0 * size ≡ 0 = omega arith in omega (arith, nothing)) paid;
      },
    )

    pub rows_begin : Ends 6 None' Never R (meaning most fuel begin_block s)
    rows_begin = assign_then None' Never R most fuel s 2 (assign 4 (constant_of (const.I64 0))) 3 (advance (local 0) (i32 8)) (Address (Own 0) 8) link_is (omega (arith, many))
        (assign_ends None' Never R most fuel 4 (constant_of (const.I64 0)) (Number 0) r1 refl (omega (arith, many, many1')) none)
