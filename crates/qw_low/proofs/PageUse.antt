-- A page that is asked for, stored in and loaded from, by the rules for straight-line blocks.
use Rattle.std.proofs.Common.{◌≡◌, ℕ, ◌+◌, ◌%◌, ◌^◌, ◌<◌, ◌≤◌, length, length-set, Some, slice_get, slice_set, refl, sym, subst, arith}
use Rattle.qw_linear.specs.Memory.{page}
use Rattle.qw_module.specs.declared.instruction.ValType.TheVariants.{I32}
use Rattle.qw_module.specs.declared.instruction.Load.TheVariants as loads
use Rattle.qw_module.specs.declared.instruction.Store.TheVariants as stores
use Rattle.qw_map.proofs.TurnFacts.{slice_get-set_same}
use Rattle.qw_low.specs.Syntax.{Statement, local, seq, load, store, request}
use Rattle.qw_low.specs.State.{Own, Value, Number, Address, LowState, with_cell, with_pages}
use Rattle.qw_low.specs.Meaning.{meaning}
use Rattle.qw_low.specs.Promise.{Ends}
use Rattle.qw_low.specs.Worked.{i32}
use Rattle.qw_low.proofs.CellLemmas.{same_part-refl}
use Rattle.qw_low.proofs.Grants.{get-last}
use Rattle.qw_low.proofs.BlockSteps.{load_ends, store_then, request_then}

module _ (most fuel x y n : ℕ) (s : LowState) (x_there : x < length s.locals) (y_there : y < length s.locals) (room : s.held + 1 ≤ most) where
  abbrev part : ℕ
  part = length s.own

  abbrev stored : Value
  stored = Number (n % 2 ^ 32)

  abbrev granted : LowState
  granted = record (with_pages s 1) { locals = slice_set s.locals x (Address (Own part) 0) }

  abbrev after_store : LowState
  after_store = record granted { cells = with_cell granted.cells (Own part) 8 4 stored }

  abbrev HasNumber : LowState → Type 0
  HasNumber t = slice_get t.locals y ≡ Some stored

  abbrev Never : LowState → Type 0
  Never t = ⊥

  abbrev IsRefusal : ℕ → Type 0
  IsRefusal code = code ≡ 3

  abbrev loading : Statement
  loading = load y (loads.Full I32) 8 (local x)

  address-is : slice_get granted.locals x ≡ Some (Address (Own part) 0)
  address-is = slice_get-set_same s.locals x (Address (Own part) 0) x_there

  still_there : y < length granted.locals
  still_there = subst (λ (k : ℕ). y < k) (sym (length-set s.locals x (Address (Own part) 0))) y_there

  cell-is : after_store.cells (Own part) 8 4 ≡ Some stored
  cell-is = rw (same_part-refl part (Own part) refl) refl

  loaded : Ends 3 HasNumber Never IsRefusal (meaning most fuel loading after_store)
  loaded = load_ends HasNumber Never IsRefusal most fuel after_store y (loads.Full I32) 8 (local x) (Own part) 0 8 stored stored address-is refl cell-is refl still_there
      (slice_get-set_same granted.locals y stored still_there)

  stored_and_loaded : Ends 6 HasNumber Never IsRefusal (meaning most fuel (seq (store (stores.Full I32) 8 (local x) (i32 n)) loading) granted)
  stored_and_loaded = store_then HasNumber Never IsRefusal most fuel granted 3 loading (stores.Full I32) 8 (local x) (i32 n) part 0 page 8 (Number n) stored
      address-is refl refl refl (get-last s.own page) (omega arith) loaded

  pub page_used : Ends 16 HasNumber Never IsRefusal (meaning most fuel (seq (request (i32 1) x) (seq (store (stores.Full I32) 8 (local x) (i32 n)) loading)) s)
  page_used = request_then HasNumber Never IsRefusal most fuel s 6 (seq (store (stores.Full I32) 8 (local x) (i32 n)) loading) (i32 1) x 1 refl x_there (omega arith) room refl (λ within. stored_and_loaded)
