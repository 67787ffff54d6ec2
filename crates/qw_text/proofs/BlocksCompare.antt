-- The blocks keep what `Texts` says of them.
use Rattle.std.proofs.Common.{◌≡◌, ℕ, ◌+◌, ◌*◌, ◌<◌, ◌≤◌, min, length, Some, slice_get, refl, subst, arith}
use Rattle.qw_module.specs.declared.instruction.ValType.TheVariants.{I32, I64}
use Rattle.qw_low.specs.declared.cell.Cell.{Cell}
use Rattle.qw_low.specs.Meaning.{meaning}
use Rattle.qw_low.specs.Raising.{Kept}
use Rattle.qw_low.proofs.Promises.{Ends-more}
use Rattle.qw_text.specs.Texts.{Compares, SaysSame, SaysOrder, of_shorter, of_left}
use Rattle.qw_text.specs.Inner.Blocks.{equality_block, order_block}
use Rattle.qw_text.proofs.WalkEnds.{Never, NoCode}
use Rattle.qw_text.proofs.EqualityEnds.{equality_ends, equality_typed}
use Rattle.qw_text.proofs.OrderEnds.{order_ends, order_typed}

module _ (left right : Cell) (n : ℕ) (low_a : left.value < n) (low_ca : left.length < n) (low_b : right.value < n) (low_cb : right.length < n) where
  pub equality_compares : Compares of_left (SaysSame n) left right n (equality_block left.value left.length right.value right.length n)
  equality_compares = record {
    runs = λ pages fuel more s v w units enough held_left held_right room.
        let bound : 4 + (length v * 23 + 16) ≤ 47 * more = omega (arith, units) in
        Ends-more (λ t. Kept n s t × SaysSame n v w t) Never NoCode (4 + (length v * 23 + 16)) (47 * more) (meaning pages fuel (equality_block left.value left.length right.value right.length n) s) bound
        (equality_ends pages fuel s left.value left.length right.value right.length n v w held_left held_right low_a low_ca low_b low_cb room (omega (arith, units, enough)));
    typed = λ types is_left is_right own.
        let first : n + 0 ≡ n = omega arith in
        equality_typed types left.value left.length right.value right.length n is_left.0 is_left.1 is_right.0 is_right.1
        (subst (λ k. slice_get types k ≡ Some I32) first (own 0 I32 refl)) (own 1 I32 refl) (own 2 I64 refl) (own 3 I64 refl);
    short = omega arith;
  }

  pub order_compares : Compares of_shorter (SaysOrder (n + 2)) left right n (order_block left.value left.length right.value right.length n)
  order_compares = record {
    runs = λ pages fuel more s v w units enough held_left held_right room.
        let bound : 35 + min (length v) (length w) * 23 ≤ 62 * more = omega (arith, units) in
        Ends-more (λ t. Kept n s t × SaysOrder (n + 2) v w t) Never NoCode (35 + min (length v) (length w) * 23) (62 * more) (meaning pages fuel (order_block left.value left.length right.value right.length n) s) bound
        (order_ends pages fuel s left.value left.length right.value right.length n v w held_left held_right low_a low_ca low_b low_cb room (omega (arith, units, enough)));
    typed = λ types is_left is_right own.
        let first : n + 0 ≡ n = omega arith in
        order_typed types left.value left.length right.value right.length n is_left.0 is_left.1 is_right.0 is_right.1
        (subst (λ k. slice_get types k ≡ Some I32) first (own 0 I32 refl)) (own 1 I32 refl) (own 2 I64 refl) (own 3 I64 refl);
    short = omega arith;
  }
