-- What is around the instruction that comes next: the operands, locals and globals of a point, and what awaits there.
use Rattle.std.proofs.Common.{◌≡◌, ℕ, ◌+◌, ◌<◌, ◌≤◌, List, ◌∷◌, ◌++◌, length, drop, take, sym, ap, subst, ◌∙◌, arith, length-append}
use Rattle.qw_module.specs.declared.instruction.ValType.{ValType}
use Rattle.qw_module.specs.declared.module.Module.{Module}
use Rattle.qw_module.specs.Syntax.{Code}
use Rattle.qw_module.specs.Typing.{scope_of, Typed}
use Rattle.qw_module.specs.Soundness.{AreOf}
use Rattle.qw_module.specs.Validity.{outside_of}
use Rattle.qw_machine.specs.Inner.Points.{Point, code_at, instructions_at, base_of, floor_of, contexts_of, store_with, config_at, at_index}
use Rattle.qw_machine.specs.declared.room.Rooms.{Rooms}
use Rattle.qw_machine.specs.Inner.Rooms.{HasRoom}
use Rattle.qw_machine.specs.Inner.Placed.{AreAwaiting, HasLocals, StaysAt, IsPoint}
use Rattle.qw_module.proofs.TypedOperands.{first_of_types}
use Rattle.qw_machine.proofs.Points.{config_at-split}
use Rattle.qw_machine.proofs.Stays.{begins-within, needed_below-some}

-- with other operands
abbrev pub with_operands : Point → List ℕ → Point
with_operands p operands = record p { operands = operands }

-- a point before the end of its sequence, but for the code that comes next and so many of its own operands
pub record IsAround (m : Module) (rooms : Rooms) (p : Point) (own below : List ℕ) (locals results : List ValType) (labels : List (List ValType)) (types ends : List ValType) (operands_most labels_most : ℕ) : Type 0 where
  pub operands_are : p.operands ≡ own ++ below
  pub below_are : length below ≡ base_of p.awaiting
  pub own_are : AreOf own types
  pub has_locals : HasLocals m p.function p.first_local p.floor (floor_of p.awaiting) p.locals p.globals locals
  pub open has_locals use *
  pub index_in : p.index < length (instructions_at m p.function p.sequence)
  pub fits : length own ≤ operands_most
  pub room : HasRoom m rooms p.function p.sequence (length below + operands_most) (length p.awaiting + labels_most) p.first_local
  pub awaiting : AreAwaiting m rooms p.function p.first_local locals results labels ends p.awaiting below (take p.first_local p.locals)

module _ {m : Module} {rooms : Rooms} {p : Point} (is : IsPoint m rooms p) (inside : p.index < length (instructions_at m p.function p.sequence)) where
  -- its own operands are as many as there may be
  pub own_fits : length is.own ≤ is.operands_most
  own_fits = begins-within ((outside_of m).functions) (code_at m p.function p.sequence p.index) is.operands_most is.labels_most (length is.own) is.stays

  pub around-of : IsAround m rooms p is.own is.below is.locals is.results is.labels is.before is.ends is.operands_most is.labels_most
  around-of = record {
    operands_are = is.operands_are;
    below_are = is.below_are;
    own_are = is.own_are;
    has_locals = is.has_locals;
    index_in = inside;
    fits = own_fits;
    room = is.room;
    awaiting = is.awaiting;
  }

  pub around-popped : (t : ValType) (types : List ValType) → is.before ≡ t ∷ types → (n : ℕ) (operands : List ℕ) → p.operands ≡ n ∷ operands →
      (own : List ℕ) × (is.own ≡ n ∷ own) × IsAround m rooms (with_operands p operands) own is.below is.locals is.results is.labels types is.ends is.operands_most is.labels_most
  around-popped t types before n operands popped =
      let first = first_of_types is.own t types (subst (λ (ts : List ValType). AreOf is.own ts) before is.own_are) in
      let same : n ∷ operands ≡ first.0 ∷ (first.1 ++ is.below) = sym popped ∙ is.operands_are ∙ ap (λ (xs : List ℕ). xs ++ is.below) first.2 in
      let head : first.0 ≡ n = cc same in
      let more : length is.own ≡ 1 + length first.1 = omega (arith, ap length first.2) in (
        first.1,
        first.2 ∙ ap (λ (k : ℕ). k ∷ first.1) head,
        record {
          operands_are = cc same;
          below_are = is.below_are;
          own_are = first.4;
          has_locals = is.has_locals;
          index_in = inside;
          fits = omega (arith, more, own_fits);
          room = is.room;
          awaiting = is.awaiting;
        },
      )

  -- an operand is there where the first type says so
  pub operand-there : (t : ValType) (types : List ValType) → is.before ≡ t ∷ types → 0 < length p.operands
  operand-there t types before =
      let first = first_of_types is.own t types (subst (λ (ts : List ValType). AreOf is.own ts) before is.own_are) in
      omega (arith, ap length is.operands_are, length-append is.own is.below, ap length first.2)

  -- and there is room for one more
  pub operand-room : length p.operands < rooms.operands
  operand-room = omega (arith, ap length is.operands_are, length-append is.own is.below, own_fits, is.room.operands, needed_below-some m is.room.heights p.function)

  -- the configuration with the code as its first instruction shows it, and its operands as they are found
  pub config-over : (code : Code) (own : List ℕ) → code_at m p.function p.sequence p.index ≡ code → is.own ≡ own →
      config_at m p ≡ record {
        store = store_with m p.globals;
        code = code;
        operands = own;
        locals = drop p.first_local p.locals;
        contexts = contexts_of m p.function p.awaiting is.below (take p.first_local p.locals);
      }
  config-over code own same operands =
      rw (← same, ← operands) (config_at-split m p is.own is.below is.operands_are is.below_are)

-- at the next index a point again, where its code is typed there
module _ {m : Module} {rooms : Rooms} {p : Point} {own below : List ℕ} {locals results : List ValType} {labels : List (List ValType)} {types ends : List ValType}
    {operands_most labels_most : ℕ} (around : IsAround m rooms p own below locals results labels types ends operands_most labels_most) where
  pub next-point : Typed (scope_of (outside_of m) locals results labels) (code_at m p.function p.sequence (p.index + 1)) types ends →
      StaysAt m p.function p.sequence (p.index + 1) operands_most labels_most (length own) → IsPoint m rooms (at_index p (p.index + 1))
  next-point typed stays = record {
    own = own;
    below = below;
    locals = locals;
    results = results;
    labels = labels;
    before = types;
    ends = ends;
    operands_are = around.operands_are;
    below_are = around.below_are;
    own_are = around.own_are;
    has_locals = around.has_locals;
    typed = typed;
    index_in = omega (arith, around.index_in);
    operands_most = operands_most;
    labels_most = labels_most;
    stays = stays;
    room = around.room;
    awaiting = around.awaiting;
  }
