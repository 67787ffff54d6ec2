-- Promises of straight-line blocks, statement by statement: what follows keeps its promise at the state that a statement leaves.
use Rattle.std.proofs.Common.{◌≡◌, ℕ, ◌+◌, ◌<◌, ◌≤◌, nat_le, length, Some, slice_get, slice_set, ⊎_elim, arith}
use Rattle.std.proofs.lemmas.Bool.{lt-ltb, le-leb, leb-true, cases_Bool}
use Rattle.qw_module.specs.declared.instruction.Load.{Load}
use Rattle.qw_module.specs.declared.instruction.Store as instruction
use Rattle.qw_module.specs.Numbers.{load_width, store_width}
use Rattle.qw_low.specs.Syntax.{Expression, Statement, seq, assign, load, store, request}
use Rattle.qw_low.specs.State.{Part, Own, Value, Number, Address, LowState, loaded_as, stored_as, with_cell, with_pages}
use Rattle.qw_low.specs.Meaning.{value, cost, meaning}
use Rattle.qw_low.specs.Promise.{Ends}
use Rattle.qw_low.proofs.Promises.{Ends-counting}

module _ (P X : LowState → Type 0) (R : ℕ → Type 0) (most fuel : ℕ) (s : LowState) where
  -- the state with a local set
  abbrev pub setting : ℕ → Value → LowState
  setting x v = record s { locals = slice_set s.locals x v }

  -- the state with so many pages more, of whose address a local is set to
  abbrev pub granting : ℕ → ℕ → LowState
  granting count x = record (with_pages s count) { locals = slice_set s.locals x (Address (Own (length s.own)) 0) }

  pub load_ends : (x : ℕ) (l : Load) (offset : ℕ) (a : Expression) (p : Part) (o place : ℕ) (u v : Value) → value s a ≡ Some (Address p o) → o + offset ≡ place →
      s.cells p place (load_width l) ≡ Some u → loaded_as l u ≡ Some v → x < length s.locals → P (setting x v) → Ends (cost a + 2) P X R (meaning most fuel (load x l offset a) s)
  load_ends x l offset a p o place u v at is there as_v room post = rw (at, is, there, as_v, lt-ltb x (length s.locals) room) (omega arith, post)

  module _ (m : ℕ) (b : Statement) where
    pub assign_then : (x : ℕ) (e : Expression) (v : Value) → value s e ≡ Some v → x < length s.locals →
        Ends m P X R (meaning most fuel b (setting x v)) → Ends (cost e + 1 + m) P X R (meaning most fuel (seq (assign x e) b) s)
    assign_then x e v is room onward = rw (is, lt-ltb x (length s.locals) room) (Ends-counting P X R (cost e + 1) (cost e + 1) m (meaning most fuel b (setting x v)) (omega arith) onward)

    pub load_then : (x : ℕ) (l : Load) (offset : ℕ) (a : Expression) (p : Part) (o place : ℕ) (u v : Value) → value s a ≡ Some (Address p o) → o + offset ≡ place →
        s.cells p place (load_width l) ≡ Some u → loaded_as l u ≡ Some v → x < length s.locals →
        Ends m P X R (meaning most fuel b (setting x v)) → Ends (cost a + 2 + m) P X R (meaning most fuel (seq (load x l offset a) b) s)
    load_then x l offset a p o place u v at is there as_v room onward = rw (at, is, there, as_v, lt-ltb x (length s.locals) room)
        (Ends-counting P X R (cost a + 2) (cost a + 2) m (meaning most fuel b (setting x v)) (omega arith) onward)

    pub store_then : (st : instruction.Store) (offset : ℕ) (a e : Expression) (k o size place : ℕ) (u v : Value) → value s a ≡ Some (Address (Own k) o) → o + offset ≡ place →
        value s e ≡ Some u → stored_as st u ≡ Some v → slice_get s.own k ≡ Some size → place + store_width st ≤ size →
        Ends m P X R (meaning most fuel b (record s { cells = with_cell s.cells (Own k) place (store_width st) v })) →
        Ends (cost a + cost e + 1 + m) P X R (meaning most fuel (seq (store st offset a e) b) s)
    store_then st offset a e k o size place u v at is e_is as_v sized inside onward = rw (e_is, as_v, at, is, sized, le-leb (place + store_width st) size inside)
        (Ends-counting P X R (cost a + cost e + 1) (cost a + cost e + 1) m (meaning most fuel b (record s { cells = with_cell s.cells (Own k) place (store_width st) v })) (omega arith) onward)

    -- granted, or 3 is raised
    pub request_then : (e : Expression) (x count : ℕ) → value s e ≡ Some (Number count) → x < length s.locals → 1 ≤ count → s.held + count ≤ most → R 3 →
        (s.held + count ≤ s.limit → Ends m P X R (meaning most fuel b (granting count x))) → Ends (cost e + 9 + m) P X R (meaning most fuel (seq (request e x) b) s)
    request_then e x count is room some within refused onward =
        rw (is, lt-ltb x (length s.locals) room, le-leb 1 count some, le-leb (s.held + count) most within)
        (⊎_elim
        (λ fits. rw fits (Ends-counting P X R (cost e + 9) (cost e + 9) m (meaning most fuel b (granting count x)) (omega arith) (onward (leb-true (s.held + count) s.limit fits))))
        (λ past. rw past (omega arith, refused))
        (cases_Bool (nat_le (s.held + count) s.limit)))
