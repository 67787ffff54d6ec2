-- Entering a block of a numbered body, against the configuration that this stands for.
use Rattle.std.proofs.Common.{◌≡◌, ℕ, suc, ◌+◌, ◌-◌, ◌<◌, ◌≤◌, Bool, List, [], ◌∷◌, ◌++◌, length, drop, take, Option, Some, None, is_some, refl, ap, subst, ◌∙◌, arith, length-append}
use Rattle.qw_module.specs.declared.instruction.ValType.{ValType}
use Rattle.qw_module.specs.declared.module.Module.{Module}
use Rattle.qw_module.specs.Numbers.{truth}
use Rattle.qw_module.specs.Syntax.{Code, named}
use Rattle.qw_module.specs.Execution.{label, settled, arity_of}
use Rattle.qw_module.specs.Typing.{scope_of, types_of, Typed}
use Rattle.qw_valid.specs.Heights.{StaysWithin}
use Rattle.qw_module.specs.Start.{body_of}
use Rattle.qw_module.specs.Validity.{outside_of}
use Rattle.qw_machine.specs.Inner.Points.{code_at, instructions_at, Point, base_of, contexts_of, store_with, state_at, entered}
use Rattle.qw_machine.specs.declared.room.Rooms.{Rooms}
use Rattle.qw_machine.specs.Inner.Rooms.{HasRoom}
use Rattle.qw_machine.specs.Inner.Placed.{IsExecuted, StaysAt, IsPoint}
use Rattle.qw_module.proofs.Sound.{arity-types}
use Rattle.qw_machine.proofs.ListFacts.{above-append, under-append}
use Rattle.qw_machine.proofs.Points.{state_at-split, code_in-first}
use Rattle.qw_machine.proofs.Functions.{numbered-of}
use Rattle.qw_machine.proofs.Around.{IsAround}

-- whether a block has a result, as its arity
pub arity-is_some : (result : Option ValType) → truth (is_some result) ≡ arity_of result
arity-is_some None = refl
arity-is_some (Some t) = refl

-- the label of a block that is entered: what a branch to it takes, and what its end leaves
pub record IsLabel (m : Module) (p : Point) (inner : ℕ) (takes : Bool) (target : ℕ) (own : List ℕ) (locals results : List ValType) (labels : List (List ValType)) (types ends taken leaves : List ValType) (operands_most labels_most : ℕ) : Type 0 where
  pub lower : inner < p.sequence
  pub takes_are : truth takes ≡ length taken
  pub inner_typed : Typed (scope_of (outside_of m) locals results (taken ∷ labels)) (code_at m p.function inner 0) [] leaves
  pub target_typed : Typed (scope_of (outside_of m) locals results labels) (code_at m p.function p.sequence target) (taken ++ types) ends
  pub after_typed : Typed (scope_of (outside_of m) locals results labels) (code_at m p.function p.sequence (p.index + 1)) (leaves ++ types) ends
  pub target_in : target ≤ length (instructions_at m p.function p.sequence)
  pub enters : 1 ≤ labels_most
  pub inner_within : StaysAt m p.function inner 0 (operands_most - length own) (labels_most - 1) 0
  pub target_within : StaysAt m p.function p.sequence target operands_most labels_most (length own + length taken)
  pub after_within : StaysAt m p.function p.sequence (p.index + 1) operands_most labels_most (length own + length leaves)

-- what an instruction that holds a sequence leaves to it, and to what comes after it, on so many operands
abbrev pub Holds : Module → Point → (inner arity now operands_most labels_most : ℕ) → Type 0
Holds m p inner arity now operands_most labels_most =
    (1 ≤ labels_most) × StaysWithin ((outside_of m).functions) (operands_most - now) (labels_most - 1) (named (body_of m p.function) inner) 0
    × StaysAt m p.function p.sequence (p.index + 1) operands_most labels_most (now + arity)

module _ {m : Module} {rooms : Rooms} {p : Point} {own below : List ℕ} {locals results : List ValType} {labels : List (List ValType)} {types ends : List ValType}
    {operands_most labels_most : ℕ} (around : IsAround m rooms p own below locals results labels types ends operands_most labels_most) where
  inner_room : (inner : ℕ) → inner < p.sequence → 1 ≤ labels_most →
      HasRoom m rooms p.function inner (length p.operands + (operands_most - length own)) (suc (length p.awaiting) + (labels_most - 1)) p.first_local
  inner_room inner lower enters =
      let long : length p.operands ≡ length own + length below = ap length around.operands_are ∙ length-append own below in
      record {
        heights = around.room.heights;
        bounds = around.room.bounds;
        own = around.room.own;
        numbered = omega (arith, around.room.numbered);
        operands = omega (arith, long, around.fits, around.room.operands);
        awaiting = omega (arith, enters, around.room.awaiting);
        locals = around.room.locals;
      }

  module _ (inner : ℕ) (takes : Bool) (target : ℕ) (taken leaves : List ValType) (is : IsLabel m p inner takes target own locals results labels types ends taken leaves operands_most labels_most) where
    pub entered-point : IsPoint m rooms (entered p inner takes target)
    entered-point = record {
      own = [];
      below = p.operands;
      locals = locals;
      results = results;
      labels = taken ∷ labels;
      before = [];
      ends = leaves;
      operands_are = refl;
      below_are = refl;
      own_are = tt;
      has_locals = around.has_locals;
      typed = is.inner_typed;
      index_in = omega arith;
      operands_most = operands_most - length own;
      labels_most = labels_most - 1;
      stays = is.inner_within;
      room = inner_room inner is.lower is.enters;
      awaiting = (
        record {
          own = own;
          below = below;
          types = types;
          taken = taken;
          outer = labels;
          next = ends;
          operands_are = around.operands_are;
          below_are = around.below_are;
          own_are = around.own_are;
          labels_are = refl;
          takes_are = is.takes_are;
          target_typed = is.target_typed;
          after_typed = is.after_typed;
          target_in = is.target_in;
          after_in = omega (arith, around.index_in);
          operands_most = operands_most;
          labels_most = labels_most;
          target_within = is.target_within;
          after_within = is.after_within;
          room = around.room;
        },
        around.awaiting,
      );
    }

    pub entered-state : state_at m (entered p inner takes target)
        ≡ settled (store_with m p.globals)
        (label (code_at m p.function p.sequence target) (truth takes) own (code_at m p.function p.sequence (p.index + 1))
        ∷ contexts_of m p.function p.awaiting below (take p.first_local p.locals))
        (code_at m p.function inner 0) [] (drop p.first_local p.locals)
    entered-state =
        state_at-split m (entered p inner takes target) [] p.operands refl refl
        ∙ rw (around.operands_are, above-append (base_of p.awaiting) own below around.below_are, under-append (base_of p.awaiting) own below around.below_are) refl

-- entering a block whose branches go after it
module _ {m : Module} {rooms : Rooms} (executed : IsExecuted m) {p : Point} {own below : List ℕ} {locals results : List ValType} {labels : List (List ValType)} {types ends : List ValType}
    {operands_most labels_most : ℕ} (around : IsAround m rooms p own below locals results labels types ends operands_most labels_most) where
  -- an inner sequence is its code from its first index on
  pub inner-first : (inner : ℕ) → inner < p.sequence → named (body_of m p.function) inner ≡ code_at m p.function inner 0
  inner-first inner lower =
      code_in-first (body_of m p.function) (numbered-of m executed.valid p.function around.room.own) inner (omega (arith, around.room.numbered))

  module _ (inner : ℕ) (result : Option ValType) (lower : inner < p.sequence)
      (inner_is : Typed (scope_of (outside_of m) locals results (types_of result ∷ labels)) (named (body_of m p.function) inner) [] (types_of result))
      (rest_is : Typed (scope_of (outside_of m) locals results labels) (code_at m p.function p.sequence (p.index + 1)) (types_of result ++ types) ends)
      (holds : Holds m p inner (arity_of result) (length own) operands_most labels_most) where
    after_it : StaysAt m p.function p.sequence (p.index + 1) operands_most labels_most (length own + length (types_of result))
    after_it = subst (λ (n : ℕ). StaysAt m p.function p.sequence (p.index + 1) operands_most labels_most (length own + n)) (arity-types result) holds.2

    forward_label : IsLabel m p inner (is_some result) (p.index + 1) own locals results labels types ends (types_of result) (types_of result) operands_most labels_most
    forward_label = record {
      lower = lower;
      takes_are = arity-is_some result ∙ arity-types result;
      inner_typed = subst (λ (x : Code). Typed (scope_of (outside_of m) locals results (types_of result ∷ labels)) x [] (types_of result)) (inner-first inner lower) inner_is;
      target_typed = rest_is;
      after_typed = rest_is;
      target_in = omega (arith, around.index_in);
      enters = holds.0;
      inner_within = subst (λ (x : Code). StaysWithin ((outside_of m).functions) (operands_most - length own) (labels_most - 1) x 0) (inner-first inner lower) holds.1;
      target_within = after_it;
      after_within = after_it;
    }

    pub forward-point : IsPoint m rooms (entered p inner (is_some result) (p.index + 1))
    forward-point = entered-point around inner (is_some result) (p.index + 1) (types_of result) (types_of result) forward_label

    pub forward-state : state_at m (entered p inner (is_some result) (p.index + 1))
        ≡ settled (store_with m p.globals)
        (label (code_at m p.function p.sequence (p.index + 1)) (arity_of result) own (code_at m p.function p.sequence (p.index + 1))
        ∷ contexts_of m p.function p.awaiting below (take p.first_local p.locals))
        (named (body_of m p.function) inner) [] (drop p.first_local p.locals)
    forward-state =
        entered-state around inner (is_some result) (p.index + 1) (types_of result) (types_of result) forward_label
        ∙ rw (arity-is_some result, inner-first inner lower) refl
