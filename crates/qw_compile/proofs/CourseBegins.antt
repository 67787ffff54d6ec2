-- How a pipeline's scan begins: a local counts its rows, and others lead to the columns of its entry.
use Rattle.std.proofs.Common.{◌≡◌, ℕ, ◌+◌, ◌*◌, ◌%◌, ◌^◌, ◌<◌, ◌≤◌, List, length, Some, slice_get, slice_set, length-set, refl, sym, ◌∙◌, subst, arith}
use Rattle.std.specs.List.{AllByRecursion}
use Rattle.qw_map.proofs.TurnFacts.{slice_get-set_same, slice_get-set_other}
use Rattle.qw_map.specs.Layout.{entry_offset}
use Rattle.qw_module.specs.declared.instruction.ValType.TheVariants.{I32}
use Rattle.qw_module.specs.declared.instruction.Binary.TheVariants.{Shl}
use Rattle.qw_module.specs.declared.instruction.Load.TheVariants as loads
use Rattle.qw_low.specs.Syntax.{Statement, local, binop, seq, assign}
use Rattle.qw_low.specs.State.{Own, Number, Address, LowState}
use Rattle.qw_low.specs.Meaning.{value, meaning}
use Rattle.qw_low.specs.Size.{size}
use Rattle.qw_low.specs.Promise.{Ends}
use Rattle.qw_low.specs.Raising.{Kept}
use Rattle.qw_low.proofs.Promises.{Ends-weaker, Ends-then, assign_ends}
use Rattle.qw_low.proofs.BlockSteps.{assign_then, load_then}
use Rattle.qw_low.proofs.Results.{Kept-same, Kept-set, Kept-then}
use Rattle.qw_feed.specs.Room.{i32}
use Rattle.qw_feed.proofs.Frames.{Never}
use Rattle.qw_read.specs.Reading.{AreBasesIn, BeginsAll, HasBases, HasEntryOf}
use Rattle.qw_read.specs.declared.reader.Reader.{Reader}
use Rattle.qw_compile.specs.QueryLocals.{rows_end, rows_left}
use Rattle.qw_compile.specs.Statements.{count_block}

-- all rows are left
pub record Counted (t rows : ℕ) (s u : LowState) : Type 0 where
  pub kept : Kept (rows_left t) s u
  pub later : (i : ℕ) → 7 + t ≤ i → slice_get u.locals i ≡ slice_get s.locals i
  pub left : slice_get u.locals (rows_left t) ≡ Some (Number (4 * rows))
  pub end : slice_get u.locals (rows_end t) ≡ Some (Number (4 * rows))

-- and the addresses of the columns' parts are in locals from n on
pub record Opened (t rows n : ℕ) (readers : List Reader) (s u : LowState) : Type 0 where
  pub kept : Kept (rows_left t) s u
  pub later : (i : ℕ) → 7 + t ≤ i → i < n → slice_get u.locals i ≡ slice_get s.locals i
  pub left : slice_get u.locals (rows_left t) ≡ Some (Number (4 * rows))
  pub end : slice_get u.locals (rows_end t) ≡ Some (Number (4 * rows))
  pub bases : AllByRecursion (λ (r : Reader). HasBases rows r u) readers

module _ (t most fuel rows k : ℕ) (few : rows ≤ 1000000) (s : LowState) (many : 8 + t ≤ length s.locals) (descriptor : slice_get s.locals 0 ≡ Some (Address (Own 0) 0))
    (rows_are : s.cells (Own 0) (entry_offset k + 12) 4 ≡ Some (Number rows)) where
  abbrev CountedOf : LowState → Type 0
  CountedOf = Counted t rows s

  abbrev OpenedOf : (n : ℕ) → List Reader → LowState → Type 0
  OpenedOf n readers = Opened t rows n readers s

  abbrev s1 : LowState
  s1 = record s { locals = slice_set s.locals (rows_end t) (Number rows) }

  abbrev s2 : LowState
  s2 = record s1 { locals = slice_set s1.locals (rows_end t) (Number (4 * rows)) }

  abbrev s3 : LowState
  s3 = record s2 { locals = slice_set s2.locals (rows_left t) (Number (4 * rows)) }

  many1 : length s1.locals ≡ length s.locals
  many1 = length-set s.locals (rows_end t) (Number rows)

  many2 : length s2.locals ≡ length s.locals
  many2 = length-set s1.locals (rows_end t) (Number (4 * rows)) ∙ many1

  all_there : slice_get s2.locals (rows_end t) ≡ Some (Number (4 * rows))
  all_there = slice_get-set_same s1.locals (rows_end t) (Number (4 * rows)) (omega (arith, many, many1))

  counted : CountedOf s3
  counted = record {
    kept = Kept-set (rows_left t) s s2 (rows_left t) (Number (4 * rows))
        (Kept-set (rows_left t) s s1 (rows_end t) (Number (4 * rows)) (Kept-set (rows_left t) s s (rows_end t) (Number rows) (Kept-same (rows_left t) s) (omega arith)) (omega arith)) (omega arith);
    later = λ i high. slice_get-set_other s2.locals (rows_left t) i (Number (4 * rows)) (λ e. omega (arith, e, high)) ∙ (slice_get-set_other s1.locals (rows_end t) i (Number (4 * rows)) (λ e. omega (arith, e, high))
        ∙ slice_get-set_other s.locals (rows_end t) i (Number rows) (λ e. omega (arith, e, high)));
    left = slice_get-set_same s2.locals (rows_left t) (Number (4 * rows)) (omega (arith, many, many2));
    end = slice_get-set_other s2.locals (rows_left t) (rows_end t) (Number (4 * rows)) (λ e. omega (arith, e)) ∙ all_there;
  }

  scaled : value s1 (binop I32 Shl (local (rows_end t)) (i32 2)) ≡ Some (Number (4 * rows))
  scaled =
      let there : slice_get s1.locals (rows_end t) ≡ Some (Number rows) = slice_get-set_same s.locals (rows_end t) (Number rows) (omega (arith, many)) in
      let product : rows * 4 % 2 ^ 32 ≡ 4 * rows = omega (arith, few) in
      rw (there, product) refl

  abbrev leaving : Statement
  leaving = assign (rows_left t) (local (rows_end t))

  abbrev scaling : Statement
  scaling = seq (assign (rows_end t) (binop I32 Shl (local (rows_end t)) (i32 2))) leaving

  pub count_ends : (R : ℕ → Type 0) → Ends 9 CountedOf Never R (meaning most fuel (count_block t k) s)
  count_ends R = load_then CountedOf Never R most fuel s 6 scaling (rows_end t) (loads.Full I32) (entry_offset k + 12) (local 0) (Own 0) 0 (entry_offset k + 12) (Number rows) (Number rows) descriptor (omega arith) rows_are refl (omega (arith, many))
      (assign_then CountedOf Never R most fuel s1 2 leaving (rows_end t) (binop I32 Shl (local (rows_end t)) (i32 2)) (Number (4 * rows)) scaled (omega (arith, many, many1))
      (assign_ends CountedOf Never R most fuel (rows_left t) (local (rows_end t)) (Number (4 * rows)) s2 all_there (omega (arith, many, many2)) counted))

  module _ (n : ℕ) (readers : List Reader) (begins : Statement) (high : 7 + t ≤ n) (all : BeginsAll readers begins) (are : AreBasesIn n (length s.locals) readers)
      (entries : (u : LowState) → CountedOf u → AllByRecursion (HasEntryOf n rows u) readers) (R : ℕ → Type 0) where
    opened : (u : LowState) → CountedOf u → (v : LowState) → Kept n u v × AllByRecursion (λ (r : Reader). HasBases rows r v) readers → OpenedOf n readers v
    opened u c v h = record {
      kept = Kept-then (rows_left t) n s u v (omega (arith, high)) c.kept h.0;
      later = λ i from to. h.0.below i to ∙ c.later i from;
      left = h.0.below (rows_left t) (omega (arith, high)) ∙ c.left;
      end = h.0.below (rows_end t) (omega (arith, high)) ∙ c.end;
      bases = h.1;
    }

    begins_end : (u : LowState) → CountedOf u → Ends (size begins) (OpenedOf n readers) Never R (meaning most fuel begins u)
    begins_end u c = Ends-weaker (size begins) (size begins) (λ v. Kept n u v × AllByRecursion (λ (r : Reader). HasBases rows r v) readers) (OpenedOf n readers) Never Never (λ code. ⊥) R (meaning most fuel begins u) (omega arith)
        (λ v h. opened u c v h) (λ v x. x) (λ code x. absurd x)
        (all.runs most fuel n rows u (entries u c) (c.kept.below 0 (omega arith) ∙ descriptor) (omega (arith, high)) (subst (λ (l : ℕ). AreBasesIn n l readers) (sym c.kept.many) are))

    -- then what follows is done
    pub opened_then : (m : ℕ) (P : LowState → Type 0) (b : Statement) → ((u : LowState) → OpenedOf n readers u → Ends m P Never R (meaning most fuel b u)) →
        Ends (9 + (size begins + m)) P Never R (meaning most fuel (seq (count_block t k) (seq begins b)) s)
    opened_then m P b onward =
        Ends-then P Never R 9 (size begins + m) CountedOf (meaning most fuel (count_block t k) s) (meaning most fuel (seq begins b)) (count_ends R)
        (λ u c. Ends-then P Never R (size begins) m (OpenedOf n readers) (meaning most fuel begins u) (meaning most fuel b) (begins_end u c) (λ v o. onward v o))
