use Rattle.std.proofs.Common.{◌≡◌, ℕ, ◌∙◌, ◌⊎◌, ◌%◌, ◌^◌, Some, inl, inr, slice_get, ap, ⊎_elim, arith}
use Rattle.qw_module.specs.declared.instruction.ValType.TheVariants.{I32}
use Rattle.qw_module.specs.declared.instruction.Load.TheVariants as loads
use Rattle.qw_module.specs.declared.instruction.Store.TheVariants as stores
use Rattle.qw_module.specs.Execution.{Returned, Raised}
use Rattle.qw_map.specs.Runs.{Moment}
use Rattle.qw_map.proofs.BehavingLemmas.{within-weaker}
use Rattle.qw_low.specs.Syntax.{local, seq, load, store, request}
use Rattle.qw_low.specs.State.{Number, LowState}
use Rattle.qw_low.specs.Worked.{i32}
use Rattle.qw_low.specs.Places.{beginning}
use Rattle.qw_low.proofs.PageUse.{page_used}
use Rattle.qw_low.proofs.PromisedRuns.{Keeps, promised_runs}
use Rattle.qw_low.proofs.block_laws.open_runs_use_a_page.Goals as goal

pub returns : goal.returns
returns c = λ most left x y n s module_store w memory locals imported stands are x_there y_there room.
    let Has : LowState → Type 0 = λ (t : LowState). slice_get t.locals y ≡ Some (Number (n % 2 ^ 32)) in
    let Never : LowState → Type 0 = λ (t : LowState). ⊥ in
    let IsRefusal : ℕ → Type 0 = λ (code : ℕ). code ≡ 3 in
    let block = seq (request (i32 1) x) (seq (store (stores.Full I32) 8 (local x) (i32 n)) (load y (loads.Full I32) 8 (local x))) in
    within-weaker 16 16 most most left left (Keeps Has Never IsRefusal) (λ (b : Moment). (b.state ≡ Returned) ⊎ (b.state ≡ Raised 3)) (beginning module_store w block locals memory) (omega arith) (omega arith) (inl (omega arith))
    (λ b kept. ⊎_elim (λ done. inl done.1) (λ raised. inr (raised.2 ∙ ap Raised raised.4)) kept)
    (promised_runs most 0 16 left Has Never IsRefusal block s module_store w memory locals imported stands are (page_used most 0 x y n s x_there y_there room))
