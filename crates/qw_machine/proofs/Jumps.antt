-- A branch in a numbered body, against the branch of the configuration that this stands for.
use Rattle.std.proofs.Common.{◌≡◌, ℕ, zero, suc, ◌≤◌, List, [], ◌∷◌, ◌++◌, length, take, drop, Some, slice_get, refl, sym, ap, ap₂, subst, ◌∙◌, arith, length-append, append_assoc}
use Rattle.std.proofs.lemmas.Bool.{le-leb}
use Rattle.std.proofs.lemmas.Option.{same_Some, none-some}
use Rattle.qw_module.specs.declared.instruction.ValType.{ValType}
use Rattle.qw_module.specs.declared.module.Module.{Module}
use Rattle.qw_machine.specs.declared.activity.Entry.{Entry}
use Rattle.qw_machine.specs.declared.activity.Awaiting.{Awaiting}
use Rattle.qw_machine.specs.declared.activity.Awaiting.TheVariants.{Label, Call}
use Rattle.qw_module.specs.Numbers.{truth}
use Rattle.qw_module.specs.Execution.{Store, State, settled, branched}
use Rattle.qw_module.specs.Soundness.{AreOf}
use Rattle.qw_machine.specs.Inner.Points.{code_at, Point, base_of, floor_of, under, contexts_of, store_with, state_at}
use Rattle.qw_machine.specs.declared.room.Rooms.{Rooms}
use Rattle.qw_machine.specs.Inner.Placed.{AreAwaiting, HasLocals, IsEntry, IsPoint}
use Rattle.qw_machine.specs.Inner.Activities.{CanJump, IsJump}
use Rattle.qw_module.proofs.Sound.{AreOf-length, AreOf-take}
use Rattle.qw_machine.proofs.ListFacts.{above-append, under-append, kept-append}
use Rattle.qw_machine.proofs.Outside.{entry-point}
use Rattle.qw_machine.proofs.Points.{state_at-split}
use Rattle.qw_machine.proofs.Around.{IsAround}

module _ (m : Module) (rooms : Rooms) (function first_local : ℕ) (locals results : List ValType) (values : List ℕ) where
  -- the label of an index, what a branch to it takes, and where it leads
  pub record IsFound (index : ℕ) (awaiting : List Awaiting) (taken : List ValType) (below : List ℕ) : Type 0 where
    pub entry : Entry
    pub rest : List Awaiting
    pub labels : List (List ValType)
    pub ends : List ValType
    pub inner : List ℕ
    pub is_entry : IsEntry m rooms function first_local locals results labels ends entry rest inner
    pub awaiting_are : AreAwaiting m rooms function first_local locals results is_entry.outer is_entry.next rest is_entry.below values
    pub taken_is : is_entry.taken ≡ taken
    pub found : slice_get awaiting index ≡ Some (Label entry)
    pub base_in : entry.base ≤ length below
    pub under_is : (on : List ℕ) → under entry.base (on ++ below) ≡ inner
    pub cut : drop index awaiting ≡ Label entry ∷ rest
    pub floor_is : floor_of awaiting ≡ floor_of rest
    pub leads : (store : Store) (operands own_locals : List ℕ) → truth entry.takes ≤ length operands →
        branched store index (contexts_of m function awaiting below values) operands own_locals
        ≡ Some (settled store (contexts_of m function rest is_entry.below values) (code_at m function entry.sequence entry.target) (take (truth entry.takes) operands ++ is_entry.own) own_locals)

  pub found-label : (index : ℕ) (awaiting : List Awaiting) (labels : List (List ValType)) (taken ends : List ValType) (below : List ℕ) →
      AreAwaiting m rooms function first_local locals results labels ends awaiting below values → length below ≡ base_of awaiting → slice_get labels index ≡ Some taken →
      IsFound index awaiting taken below
  found-label index [] labels taken ends below none base found = absurd (none-some taken (rw none.0 at found))
  found-label index (Call caller ∷ rest) labels taken ends below are base found = absurd (none-some taken (rw are.0 at found))
  found-label zero (Label entry ∷ rest) labels taken ends below (e, are) base found =
      record {
        entry = entry;
        rest = rest;
        labels = labels;
        ends = ends;
        inner = below;
        is_entry = e;
        awaiting_are = are;
        taken_is = same_Some e.taken taken (rw e.labels_are at found);
        found = refl;
        base_in = omega arith;
        under_is = λ on. under-append entry.base on below base;
        cut = refl;
        floor_is = refl;
        leads = λ store operands own_locals enough.
            rw (
              le-leb (truth entry.takes) (length operands) enough,
              e.operands_are,
              above-append (base_of rest) e.own e.below e.below_are,
              under-append (base_of rest) e.own e.below e.below_are,
            ) refl;
      }
  found-label (suc index) (Label entry ∷ rest) labels taken ends below (e, are) base found =
      let f = found-label index rest e.outer taken e.next e.below are e.below_are (rw e.labels_are at found) in
      record {
        entry = f.entry;
        rest = f.rest;
        labels = f.labels;
        ends = f.ends;
        inner = f.inner;
        is_entry = f.is_entry;
        awaiting_are = f.awaiting_are;
        taken_is = f.taken_is;
        found = f.found;
        base_in = omega (arith, f.base_in, ap length e.operands_are, length-append e.own e.below);
        under_is = λ on. ap (λ (xs : List ℕ). under f.entry.base (on ++ xs)) e.operands_are
            ∙ ap (under f.entry.base) (sym (append_assoc on e.own e.below)) ∙ f.under_is (on ++ e.own);
        cut = f.cut;
        floor_is = f.floor_is;
        leads = λ store operands own_locals enough.
            rw (e.operands_are, under-append (base_of rest) e.own e.below e.below_are) (f.leads store operands own_locals enough);
      }

module _ {m : Module} {rooms : Rooms} {p : Point} {own below : List ℕ} {locals results : List ValType} {labels : List (List ValType)} {types ends : List ValType}
    {operands_most labels_most : ℕ} (around : IsAround m rooms p own below locals results labels types ends operands_most labels_most) (taken more : List ValType) (types_are : types ≡ taken ++ more)
    (index : ℕ) (found : slice_get labels index ≡ Some taken) where
  abbrev outer_values : List ℕ
  outer_values = take p.first_local p.locals

  found_label : IsFound m rooms p.function p.first_local locals results outer_values index p.awaiting taken below
  found_label = found-label m rooms p.function p.first_local locals results outer_values index p.awaiting labels taken ends below around.awaiting around.below_are found

  own_are : AreOf own (taken ++ more)
  own_are = subst (λ (ts : List ValType). AreOf own ts) types_are around.own_are

  enough : length taken ≤ length own
  enough = omega (arith, AreOf-length own (taken ++ more) own_are, length-append taken more)

  takes_are : truth found_label.entry.takes ≡ length taken
  takes_are = found_label.is_entry.takes_are ∙ ap length found_label.taken_is

  pub can-jump : CanJump index p
  can-jump =
      let f = found_label in
      (f.entry, f.found, omega (arith, ap length around.operands_are, length-append own below, f.base_in, takes_are, enough))

  -- the point that the branch leads to
  abbrev target_point : Point
  target_point =
      let f = found_label in
      record p {
        awaiting = f.rest;
        sequence = f.entry.sequence;
        index = f.entry.target;
        operands = (take (length taken) own ++ f.is_entry.own) ++ f.is_entry.below;
      }

  jumped-is : (q : Point) → IsJump index p q → q ≡ target_point
  jumped-is q jump =
      let f = found_label in
      let same : Label jump.entry ∷ q.awaiting ≡ Label f.entry ∷ f.rest = sym jump.awaiting ∙ f.cut in
      let entry : jump.entry ≡ f.entry = cc same in
      let rest : q.awaiting ≡ f.rest = cc same in
      let operands : take (truth f.entry.takes) p.operands ++ under f.entry.base p.operands ≡ (take (length taken) own ++ f.is_entry.own) ++ f.is_entry.below =
      ap (λ (n : ℕ). take n p.operands ++ under f.entry.base p.operands) takes_are
      ∙ kept-append (length taken) f.entry.base p.operands own below f.is_entry.own f.is_entry.below around.operands_are enough (f.under_is own ∙ f.is_entry.operands_are) in
      let at : List Awaiting → Entry → Point =
      λ awaiting e. record p { awaiting = awaiting; sequence = e.sequence; index = e.target; operands = take (truth e.takes) p.operands ++ under e.base p.operands } in
      let over : List ℕ → Point =
      λ xs. record p { awaiting = f.rest; sequence = f.entry.sequence; index = f.entry.target; operands = xs } in
      jump.point ∙ ap₂ at rest entry ∙ ap over operands

  target_point-is : IsPoint m rooms target_point
  target_point-is =
      let f = found_label in
      let e = f.is_entry in
      let left : AreOf (take (length taken) own) e.taken = rw f.taken_is (AreOf-take own taken more own_are) in
      entry-point (record p { operands = (take (length taken) own ++ e.own) ++ e.below }) (take (length taken) own) e.taken left e f.entry.target e.target_typed e.target_in e.target_within
      f.awaiting_are (subst (λ (n : ℕ). HasLocals m p.function p.first_local p.floor n p.locals p.globals locals) f.floor_is around.has_locals) refl

  -- a branch leads to a point, and the configuration's branch to what that stands for
  pub jumped-point : (q : Point) → IsJump index p q → IsPoint m rooms q
  jumped-point q jump = subst (λ (x : Point). IsPoint m rooms x) (sym (jumped-is q jump)) target_point-is

  pub jumped-state : (q : Point) → IsJump index p q →
      branched (store_with m p.globals) index (contexts_of m p.function p.awaiting below outer_values) own (drop p.first_local p.locals) ≡ Some (state_at m q)
  jumped-state q jump =
      let f = found_label in
      let leads = f.leads (store_with m p.globals) own (drop p.first_local p.locals) (omega (arith, enough, takes_are)) in
      let split = state_at-split m target_point (take (length taken) own ++ f.is_entry.own) f.is_entry.below refl f.is_entry.below_are in
      let first : take (truth f.entry.takes) own ++ f.is_entry.own ≡ take (length taken) own ++ f.is_entry.own = ap (λ (n : ℕ). take n own ++ f.is_entry.own) takes_are in
      let reached : List ℕ → State =
      λ xs. settled (store_with m p.globals) (contexts_of m p.function f.rest f.is_entry.below outer_values) (code_at m p.function f.entry.sequence f.entry.target) xs (drop p.first_local p.locals) in
      leads ∙ ap (λ (xs : List ℕ). Some (reached xs)) first ∙ ap (λ (s : State). Some s) (sym split ∙ ap (state_at m) (sym (jumped-is q jump)))
