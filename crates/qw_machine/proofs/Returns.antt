-- A return in a numbered body, against the return of the configuration that this stands for.
use Rattle.std.proofs.Common.{◌≡◌, ◌≢◌, ℕ, suc, ◌-◌, ◌≤◌, List, [], ◌∷◌, ◌++◌, length, take, drop, Some, slice_get, refl, sym, ap, ap₂, subst, ◌∙◌, arith, length-append, append_assoc}
use Rattle.std.proofs.lemmas.Bool.{le-leb}
use Rattle.qw_module.specs.declared.instruction.ValType.{ValType}
use Rattle.qw_module.specs.declared.module.Module.{Module}
use Rattle.qw_machine.specs.declared.activity.Frame.{Frame}
use Rattle.qw_machine.specs.declared.activity.Awaiting.{Awaiting}
use Rattle.qw_machine.specs.declared.activity.Awaiting.TheVariants.{Label, Call}
use Rattle.qw_module.specs.Numbers.{truth}
use Rattle.qw_module.specs.Execution.{Store, State, Returned, settled, left}
use Rattle.qw_module.specs.Soundness.{AreOf}
use Rattle.qw_machine.specs.Inner.Points.{code_at, Point, base_of, floor_of, under, contexts_of, store_with, state_at, resumed}
use Rattle.qw_machine.specs.declared.room.Rooms.{Rooms}
use Rattle.qw_machine.specs.Inner.Placed.{AreAwaiting, IsCaller, IsPoint}
use Rattle.qw_machine.specs.Inner.Activities.{CanLeave, IsReturn}
use Rattle.qw_module.proofs.Sound.{AreOf-length, AreOf-take}
use Rattle.qw_machine.proofs.ListFacts.{above-append, under-append, kept-append}
use Rattle.qw_machine.proofs.Outside.{caller-point}
use Rattle.qw_machine.proofs.Points.{state_at-split}
use Rattle.qw_machine.proofs.Around.{IsAround}

floor-within : (awaiting : List Awaiting) → floor_of awaiting ≤ length awaiting
floor-within [] = omega arith
floor-within (Label entry ∷ rest) = omega (arith, floor-within rest)
floor-within (Call caller ∷ rest) = omega arith

module _ (m : Module) (rooms : Rooms) where
  -- the innermost frame, what is left to it, and where its caller goes on
  pub record IsFrame (function : ℕ) (awaiting : List Awaiting) (results : List ValType) (below values : List ℕ) : Type 0 where
    pub caller : Frame
    pub rest : List Awaiting
    pub inner : List ℕ
    pub is_caller : IsCaller m rooms results caller rest inner values
    pub awaiting_are : AreAwaiting m rooms caller.function caller.first_local is_caller.locals is_caller.outer_results is_caller.labels is_caller.next rest is_caller.below (take caller.first_local values)
    pub cut : drop (length awaiting - floor_of awaiting) awaiting ≡ Call caller ∷ rest
    pub found : slice_get awaiting (length awaiting - floor_of awaiting) ≡ Some (Call caller)
    pub base_in : caller.base ≤ length below
    pub under_is : (on : List ℕ) → under caller.base (on ++ below) ≡ inner
    pub leads : (store : Store) (operands : List ℕ) → truth caller.leaves ≤ length operands →
        left store (contexts_of m function awaiting below values) operands
        ≡ Some (settled store (contexts_of m caller.function rest is_caller.below (take caller.first_local values)) (code_at m caller.function caller.sequence caller.after)
        (take (truth caller.leaves) operands ++ is_caller.own) (drop caller.first_local values))

  pub found-frame : (function first_local : ℕ) (locals results : List ValType) (labels : List (List ValType)) (ends : List ValType) (awaiting : List Awaiting) (below values : List ℕ) →
      AreAwaiting m rooms function first_local locals results labels ends awaiting below values → length below ≡ base_of awaiting → floor_of awaiting ≢ 0 →
      IsFrame function awaiting results below values
  found-frame function first_local locals results labels ends [] below values are base some = absurd (some refl)
  found-frame function first_local locals results labels ends (Call caller ∷ rest) below values (none, same, f, are) base some =
      let here : length (Call caller ∷ rest) - floor_of (Call caller ∷ rest) ≡ 0 = omega arith in
      record {
        caller = caller;
        rest = rest;
        inner = below;
        is_caller = f;
        awaiting_are = are;
        cut = rw here refl;
        found = rw here refl;
        base_in = omega arith;
        under_is = λ on. under-append caller.base on below base;
        leads = λ store operands enough.
            rw (
              le-leb (truth caller.leaves) (length operands) enough,
              f.operands_are,
              above-append (base_of rest) f.own f.below f.below_are,
              under-append (base_of rest) f.own f.below f.below_are,
            ) refl;
      }
  found-frame function first_local locals results labels ends (Label entry ∷ rest) below values (e, are) base some =
      let f = found-frame function first_local locals results e.outer e.next rest e.below values are e.below_are some in
      let further : length (Label entry ∷ rest) - floor_of rest ≡ suc (length rest - floor_of rest) = omega (arith, floor-within rest) in
      record {
        caller = f.caller;
        rest = f.rest;
        inner = f.inner;
        is_caller = f.is_caller;
        awaiting_are = f.awaiting_are;
        cut = rw further f.cut;
        found = rw further f.found;
        base_in = omega (arith, f.base_in, ap length e.operands_are, length-append e.own e.below);
        under_is = λ on. ap (λ (xs : List ℕ). under f.caller.base (on ++ xs)) e.operands_are
            ∙ ap (under f.caller.base) (sym (append_assoc on e.own e.below)) ∙ f.under_is (on ++ e.own);
        leads = λ store operands enough. rw (e.operands_are, under-append (base_of rest) e.own e.below e.below_are) (f.leads store operands enough);
      }

  -- where there is no frame, a return leaves the outermost function
  pub left-outermost : (function : ℕ) (awaiting : List Awaiting) (below values : List ℕ) (store : Store) (operands : List ℕ) → floor_of awaiting ≡ 0 →
      left store (contexts_of m function awaiting below values) operands ≡ Some Returned
  left-outermost function [] below values store operands none = refl
  left-outermost function (Label entry ∷ rest) below values store operands none = left-outermost function rest (under (base_of rest) below) values store operands none
  left-outermost function (Call caller ∷ rest) below values store operands none = absurd (omega (arith, none))

module _ {m : Module} {rooms : Rooms} {p : Point} {own below : List ℕ} {locals results : List ValType} {labels : List (List ValType)} {types ends : List ValType}
    {operands_most labels_most : ℕ} (around : IsAround m rooms p own below locals results labels types ends operands_most labels_most) (more : List ValType) (types_are : types ≡ results ++ more) (inner : p.floor ≢ 0) where
  abbrev outer_values : List ℕ
  outer_values = take p.first_local p.locals

  frame : IsFrame m rooms p.function p.awaiting results below outer_values
  frame = found-frame m rooms p.function p.first_local locals results labels ends p.awaiting below outer_values around.awaiting around.below_are (λ e. inner (around.floor_is ∙ e))

  own_are : AreOf own (results ++ more)
  own_are = subst (λ (ts : List ValType). AreOf own ts) types_are around.own_are

  enough : length results ≤ length own
  enough = omega (arith, AreOf-length own (results ++ more) own_are, length-append results more)

  pub can-leave : CanLeave p
  can-leave =
      let f = frame in
      record {
        caller = f.caller;
        there = ap (λ (n : ℕ). slice_get p.awaiting (length p.awaiting - n)) around.floor_is ∙ f.found;
        floor_in = omega (arith, around.floor_is, floor-within p.awaiting);
        operands = omega (arith, ap length around.operands_are, length-append own below, f.base_in, f.is_caller.leaves_are, enough);
      }

  -- the point that the return leads to
  abbrev target_point : Point
  target_point =
      let f = frame in
      resumed (record p { awaiting = f.rest; operands = (take (length results) own ++ f.is_caller.own) ++ f.is_caller.below }) f.caller

  returned-is : (q : Point) → IsReturn p q → q ≡ target_point
  returned-is q returns =
      let f = frame in
      let same : Call returns.caller ∷ q.awaiting ≡ Call f.caller ∷ f.rest =
      sym returns.awaiting ∙ ap (λ (n : ℕ). drop (length p.awaiting - n) p.awaiting) around.floor_is ∙ f.cut in
      let caller : returns.caller ≡ f.caller = cc same in
      let rest : q.awaiting ≡ f.rest = cc same in
      let operands : take (truth f.caller.leaves) p.operands ++ under f.caller.base p.operands ≡ (take (length results) own ++ f.is_caller.own) ++ f.is_caller.below =
      ap (λ (n : ℕ). take n p.operands ++ under f.caller.base p.operands) f.is_caller.leaves_are
      ∙ kept-append (length results) f.caller.base p.operands own below f.is_caller.own f.is_caller.below around.operands_are enough (f.under_is own ∙ f.is_caller.operands_are) in
      let at : List Awaiting → Frame → Point =
      λ awaiting c. resumed (record p { awaiting = awaiting; operands = take (truth c.leaves) p.operands ++ under c.base p.operands }) c in
      let over : List ℕ → Point =
      λ xs. resumed (record p { awaiting = f.rest; operands = xs }) f.caller in
      returns.point ∙ ap₂ at rest caller ∙ ap over operands

  target_point-is : IsPoint m rooms target_point
  target_point-is =
      let f = frame in
      caller-point (record p { operands = (take (length results) own ++ f.is_caller.own) ++ f.is_caller.below }) (take (length results) own) results (AreOf-take own results more own_are) f.is_caller f.awaiting_are around.globals_are refl

  -- a return leads to a point, and the configuration's return to what that stands for
  pub returned-point : (q : Point) → IsReturn p q → IsPoint m rooms q
  returned-point q returns = subst (λ (x : Point). IsPoint m rooms x) (sym (returned-is q returns)) target_point-is

  pub returned-state : (q : Point) → IsReturn p q →
      left (store_with m p.globals) (contexts_of m p.function p.awaiting below outer_values) own ≡ Some (state_at m q)
  returned-state q returns =
      let f = frame in
      let leads = f.leads (store_with m p.globals) own (omega (arith, enough, f.is_caller.leaves_are)) in
      let split = state_at-split m target_point (take (length results) own ++ f.is_caller.own) f.is_caller.below refl f.is_caller.below_are in
      let first : take (truth f.caller.leaves) own ++ f.is_caller.own ≡ take (length results) own ++ f.is_caller.own = ap (λ (n : ℕ). take n own ++ f.is_caller.own) f.is_caller.leaves_are in
      let reached : List ℕ → State =
      λ xs. settled (store_with m p.globals) (contexts_of m f.caller.function f.rest f.is_caller.below (take f.caller.first_local outer_values))
      (code_at m f.caller.function f.caller.sequence f.caller.after) xs (drop f.caller.first_local outer_values) in
      leads ∙ ap (λ (xs : List ℕ). Some (reached xs)) first ∙ ap (λ (s : State). Some s) (sym split ∙ ap (state_at m) (sym (returned-is q returns)))
