-- How a call of a valid and shaped module begins.
use Rattle.std.proofs.Common.{◌≡◌, ℕ, suc, ◌+◌, ◌-◌, ◌^◌, ◌<◌, ◌≤◌, List, [], ◌∷◌, length, map, replicate, Bool, true, false, IsSomeAnd, Option, None, Some, slice_get, refl, sym, ap, ◌∙◌, subst, arith}
use Rattle.std.proofs.lemmas.Option.{slice_get_within}
use Rattle.qw_module.specs.declared.instruction.ValType.TheVariants.{I32}
use Rattle.qw_module.specs.declared.module.Module.{Module}
use Rattle.qw_module.specs.declared.module.Function.{Function}
use Rattle.qw_module.specs.declared.module.Global.{Global}
use Rattle.qw_machine.specs.declared.activity.Activity.{Activity}
use Rattle.qw_machine.specs.declared.machine.Instance.TheInside.{Inside}
use Rattle.qw_valid.specs.declared.heights.Heights.{Heights}
use Rattle.qw_valid.specs.ModuleHeights.{HaveHeights}
use Rattle.qw_machine.specs.declared.room.Rooms.{Rooms}
use Rattle.qw_machine.specs.declared.stepped.RunEnd.{RunEnd}
use Rattle.qw_module.specs.Typing.{Signature}
use Rattle.qw_module.specs.Soundness.{AreOf, raise_signature, IsClosureOf}
use Rattle.qw_module.specs.Start.{closure_of, body_of, begun, initial_value}
use Rattle.qw_module.specs.Validity.{code_of_body, declared_types, imported_functions, signature_in, outside_of, IsValid, IsOneI32, IsShaped, IsDescending}
use Rattle.qw_module.proofs.Sound.{AreOf-zeros}
use Rattle.qw_machine.specs.Inner.Points.{Point, state_at, in_body, first_point, has_result, point_of}
use Rattle.qw_machine.specs.Inner.Rooms.{bounds_of, locals_of, needed_below, needed, HasRoom, rooms_of}
use Rattle.qw_machine.specs.Inner.Placed.{IsExecuted, IsPoint, IsRunning}
use Rattle.qw_machine.specs.Inner.Activities.{IsLeft}
use Rattle.qw_machine.specs.Inner.Ended.{end_by}
use Rattle.qw_machine.specs.Inner.Held.{state_of, IsHeld}
use Rattle.qw_machine.proofs.Begins.{one_type, closure_is, first_globals-are}
use Rattle.qw_machine.proofs.Bodies.{body-room, IsBegun, begun-point, begun-state}
use Rattle.qw_machine.proofs.Functions.{valid_function}
use Rattle.qw_machine.proofs.Rooms.{IsWithin, needed_below-mono}
use Rattle.qw_machine.proofs.Stays.{bounds-are}

-- what is known of a module that is executed, read from where it is held
pub executed-shaped : (m held : Module) (number : ℕ) → held ≡ m → IsValid m → IsShaped m number → IsDescending m → IsExecuted held
executed-shaped m held number same valid shaped descends =
    subst IsExecuted (sym same) (record { valid = valid; linked = shaped.linked; descends = descends })

pub heights-are : (heights : List Heights) (m held : Module) → held ≡ m → HaveHeights m heights → HaveHeights held heights
heights-are heights m held same have = subst (λ (x : Module). HaveHeights x heights) (sym same) have

-- `run` is one of the module's own functions
pub run-there : (m : Module) (number : ℕ) → IsShaped m number → (function : Function) × (slice_get m.functions.items number ≡ Some function)
run-there m number shaped = there (slice_get m.functions.items number) refl shaped.run where
  there : (o : Option Function) → slice_get m.functions.items number ≡ o → IsSomeAnd o (λ (f : Function). IsOneI32 m f.type_index) →
      (function : Function) × (slice_get m.functions.items number ≡ Some function)
  there None same run = absurd run
  there (Some function) same run = (function, same)

-- the values that globals begin with
abbrev pub first_globals : Module → List ℕ
first_globals m = map (λ (global : Global). initial_value (code_of_body global.init)) m.globals.items

-- the `run` of a valid and shaped module
module _ (m : Module) (number : ℕ) (function : Function) (executed : IsExecuted m) (shaped : IsShaped m number) (found : slice_get m.functions.items number ≡ Some function)
    (heights : List Heights) (have : HaveHeights m heights) where
  run_type : signature_in m function.type_index ≡ raise_signature
  run_type =
      let one : IsOneI32 m function.type_index =
      subst (λ (o : Option Function). IsSomeAnd o (λ (f : Function). IsOneI32 m f.type_index)) found shaped.run in
      one_type m function.type_index (slice_get m.types.items function.type_index) refl one

  closure : IsClosureOf (outside_of m) (closure_of m function) raise_signature
  closure = subst (IsClosureOf (outside_of m) (closure_of m function)) run_type
      (closure_is m function (slice_get m.types.items function.type_index) refl (valid_function m number function executed.valid found))

  no_result : (closure_of m function).results ≡ 0
  no_result = ap (λ (s : Signature). length s.results) run_type

  leaves_none : has_result m function ≡ false
  leaves_none = rw no_result refl

  run_in : number < length m.functions.items
  run_in = slice_get_within m.functions.items number function found

  run_needs : IsWithin (needed_below m heights (suc number)) (needed m heights)
  run_needs = needed_below-mono m heights number (length m.functions.items) run_in

  run_locals : locals_of m number ≡ 1 + length (declared_types function.locals.items)
  run_locals = rw found (omega (arith, closure.params_are))

  module _ (rooms : Rooms) (enough : rooms ≡ needed m heights) where
    pub started-awaiting : 1 ≤ rooms.awaiting
    started-awaiting = omega (arith, ap (λ (r : Rooms). r.awaiting) enough, run_needs.awaiting)

    pub started-locals : 1 + length (declared_types function.locals.items) ≤ rooms.locals
    started-locals = omega (arith, ap (λ (r : Rooms). r.locals) enough, run_needs.locals, run_locals)

    module _ (argument : ℕ) (small : argument < 2 ^ 32) where
      -- before the body is entered
      abbrev before : Point
      before = record {
        awaiting = [];
        floor = 0;
        function = number;
        sequence = 0;
        index = 0;
        operands = [];
        locals = argument ∷ replicate (length (declared_types function.locals.items)) 0;
        first_local = 0;
        globals = first_globals m;
      }

      abbrev first : Point
      first = first_point m number argument (length (declared_types function.locals.items)) (first_globals m)

      first_is : in_body m before number (has_result m function) ≡ first
      first_is = ap (in_body m before number) leaves_none

      first_room : HasRoom m rooms number (length (body_of m number).each - 1) (0 + (bounds_of heights number).operands) (1 + (bounds_of heights number).labels) 0
      first_room = body-room m rooms heights number 0 0 0 have executed.valid run_in
          (omega (arith, run_needs.operands, ap (λ (r : Rooms). r.operands) enough))
          (omega (arith, run_needs.awaiting, ap (λ (r : Rooms). r.awaiting) enough))
          (omega (arith, run_needs.locals, ap (λ (r : Rooms). r.locals) enough))

      run_values : AreOf (argument ∷ replicate (length (declared_types function.locals.items)) 0) (I32 ∷ closure.declared)
      run_values = (small, rw closure.declared_are (AreOf-zeros closure.declared))

      run-begun : IsBegun m rooms before number function raise_signature closure
      run-begun = record {
        has_locals = record {
          first_in = omega arith;
          locals_are = run_values;
          all_locals = omega (arith, closure.declared_are, run_locals);
          globals_are = first_globals-are m executed.valid;
          floor_is = refl;
        };
        base_is = refl;
        operands_most = (bounds_of heights number).operands;
        labels_most = (bounds_of heights number).labels;
        needs_are = bounds-are m heights number function have found;
        room = first_room;
        awaiting = (refl, refl);
      }

      pub started-point : IsPoint m rooms first
      started-point = subst (IsPoint m rooms) first_is (begun-point m executed rooms before number function found raise_signature closure run-begun)

      begun-is : state_at m first ≡ begun m number argument
      begun-is =
          ap (state_at m) (sym first_is)
          ∙ begun-state m executed rooms before number function found raise_signature closure refl
          ∙ rw (found, no_result) refl

      -- what the instance stands for once what is finished is left
      module _ (imported : ℕ) (imported_is : imported ≡ length (imported_functions m)) (activity : Activity) (ended : Option RunEnd) where
        abbrev made : Inside
        made = record { valid = m; imported = imported; ended = ended; asked = None; activity = activity }

        pub started : (runs : Bool) → ended ≡ end_by runs → rooms_of activity ≡ rooms → IsLeft m rooms first runs (point_of activity) →
            IsHeld made × (state_of made ≡ begun m number argument)
        started true told same left = rw told (
          record {
            executed = executed;
            imported = imported_is;
            running = subst (λ (r : Rooms). IsRunning m r (point_of activity)) (sym same) left.0;
            asks = tt;
          },
          sym left.1 ∙ begun-is,
        )
        started false told same left = rw told (record { executed = executed; imported = imported_is; running = tt; asks = tt }, sym left ∙ begun-is)
