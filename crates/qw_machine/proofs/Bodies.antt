-- A body that is entered, in the label of the whole body: by the first call, and by a call within a function.
use Rattle.std.proofs.Common.{◌≡◌, ℕ, zero, suc, ◌+◌, ◌-◌, ◌<◌, ◌≤◌, nat_lt, List, [], ◌∷◌, ◌++◌, length, take, drop, reverse, Some, slice_get, refl, sym, ap, subst, ◌∙◌, arith, append-nil}
use Rattle.std.proofs.lemmas.List.{length-reverse}
use Rattle.std.proofs.lemmas.Option.{slice_get_within, get_or_from_slice_get}
use Rattle.qw_module.specs.declared.module.FuncType.{FuncType}
use Rattle.qw_module.specs.declared.module.Function.{Function}
use Rattle.qw_module.specs.declared.module.Module.{Module}
use Rattle.qw_valid.specs.declared.heights.Heights.{Heights}
use Rattle.qw_valid.specs.ModuleHeights.{HaveHeights}
use Rattle.qw_machine.specs.declared.room.Rooms.{Rooms}
use Rattle.qw_module.specs.Numbers.{truth}
use Rattle.qw_module.specs.Syntax.{Code, done, code_of, IsNumbered}
use Rattle.qw_module.specs.Execution.{label, settled}
use Rattle.qw_module.specs.Typing.{Signature, Scope, scope_of, Typed, typed-done}
use Rattle.qw_valid.specs.Heights.{StaysWithin, AreHeightsOf}
use Rattle.qw_module.specs.Soundness.{IsClosureOf}
use Rattle.qw_module.specs.Start.{closure_of, body_of}
use Rattle.qw_module.specs.Validity.{outside_of, function_scope, IsValidType, IsValid}
use Rattle.qw_machine.specs.Inner.Points.{code_at, instructions_at, Point, base_of, floor_of, contexts_of, store_with, state_at, in_body, has_result}
use Rattle.qw_machine.specs.Inner.Rooms.{bounds_of, needed_below, HasRoom}
use Rattle.qw_machine.specs.Inner.Placed.{IsExecuted, AreAwaiting, StaysAt, IsPoint, HasLocals}
use Rattle.qw_machine.proofs.Begins.{signature_is}
use Rattle.qw_machine.proofs.Functions.{typed_function, body_is, numbered-of}
use Rattle.qw_machine.proofs.ListFacts.{above-append, under-append}
use Rattle.qw_machine.proofs.Points.{code_in-first, code_in-end, state_at-split}

-- ---- a function of a valid module has at most one result
few : (m : Module) (type : ℕ) (ty : FuncType) → IsValid m → slice_get m.types.items type ≡ Some ty → length ty.results.items ≤ 1
few m type ty valid found =
    let inside = slice_get_within m.types.items type ty found in
    subst IsValidType (get_or_from_slice_get m.types.items type ty ty found) (valid.types type ty inside)

pub few_results : (m : Module) (number : ℕ) (function : Function) → IsValid m → slice_get m.functions.items number ≡ Some function →
    (closure_of m function).results ≤ 1
few_results m number function valid found =
    let typed = typed_function m number function valid found in
    let same : (closure_of m function).results ≡ length typed.0.results.items =
    ap (λ (s : Signature). length s.results) (signature_is m function.type_index typed.0 typed.1) in
    omega (arith, same, few m function.type_index typed.0 valid typed.1)

truth_positive : (n : ℕ) → n ≤ 1 → truth (nat_lt 0 n) ≡ n
truth_positive zero h = refl
truth_positive (suc zero) h = refl
truth_positive (suc (suc n)) h = absurd (omega arith)

pub leaves-are : (m : Module) (number : ℕ) (function : Function) → IsValid m → slice_get m.functions.items number ≡ Some function →
    truth (has_result m function) ≡ (closure_of m function).results
leaves-are m number function valid found = truth_positive (closure_of m function).results (few_results m number function valid found)

-- where there is room for all that a function needs, there is room for its body in the label of the whole body
pub body-room : (m : Module) (rooms : Rooms) (heights : List Heights) (number below depth first_local : ℕ) → HaveHeights m heights → IsValid m → number < length m.functions.items →
    below + (needed_below m heights (suc number)).operands ≤ rooms.operands →
    suc depth + (bounds_of heights number).labels + (needed_below m heights number).awaiting ≤ rooms.awaiting →
    first_local + (needed_below m heights (suc number)).locals ≤ rooms.locals →
    HasRoom m rooms number (length (body_of m number).each - 1) (below + (bounds_of heights number).operands) (suc depth + (bounds_of heights number).labels) first_local
body-room m rooms heights number below depth first_local have valid inside operands awaiting locals =
    let some = (numbered-of m valid number inside).some in
    record {
      heights = heights;
      bounds = have;
      own = inside;
      numbered = omega (arith, some);
      operands = omega (arith, operands);
      awaiting = omega (arith, awaiting);
      locals = omega (arith, locals);
    }

-- ---- an own function of a module that is executed, over operands and locals that are its own
pub record IsBegun (m : Module) (rooms : Rooms) (q : Point) (number : ℕ) (function : Function) (signature : Signature) (closure : IsClosureOf (outside_of m) (closure_of m function) signature) : Type 0 where
  pub has_locals : HasLocals m number q.first_local q.floor (floor_of q.awaiting) q.locals q.globals (signature.params ++ closure.declared)
  pub base_is : length q.operands ≡ base_of q.awaiting
  pub operands_most : ℕ
  pub labels_most : ℕ
  pub needs_are : AreHeightsOf m function operands_most labels_most
  pub room : HasRoom m rooms number (length (body_of m number).each - 1) (length q.operands + operands_most) (suc (length q.awaiting) + labels_most) q.first_local
  pub awaiting : AreAwaiting m rooms number q.first_local (signature.params ++ closure.declared) (reverse signature.results) [] (reverse signature.results) q.awaiting q.operands
      (take q.first_local q.locals)

module _ (m : Module) (executed : IsExecuted m) (rooms : Rooms) (q : Point) (number : ℕ) (function : Function) (found : slice_get m.functions.items number ≡ Some function)
    (signature : Signature) (closure : IsClosureOf (outside_of m) (closure_of m function) signature) where
  abbrev last : ℕ
  last = length (body_of m number).each - 1

  abbrev end : ℕ
  end = length (instructions_at m number last)

  numbered : IsNumbered (body_of m number)
  numbered = numbered-of m executed.valid number (slice_get_within m.functions.items number function found)

  last_in : last < length (body_of m number).each
  last_in = let some = numbered.some in omega arith

  body_code : (closure_of m function).body ≡ code_at m number last 0
  body_code = ap code_of (sym (body_is m number function found)) ∙ code_in-first (body_of m number) numbered last last_in

  end_code : code_at m number last end ≡ done
  end_code = code_in-end (body_of m number) last end refl

  body_typed : Typed (function_scope (outside_of m) signature closure.declared) (code_at m number last 0) [] (reverse signature.results)
  body_typed = subst (λ (code : Code). Typed (function_scope (outside_of m) signature closure.declared) code [] (reverse signature.results)) body_code closure.typed

  leaves_are : truth (has_result m function) ≡ (closure_of m function).results
  leaves_are = leaves-are m number function executed.valid found

  end_typed : Typed (scope_of (outside_of m) (signature.params ++ closure.declared) (reverse signature.results) [])
      (code_at m number last end) (reverse signature.results ++ []) (reverse signature.results)
  end_typed =
      let scope : Scope = scope_of (outside_of m) (signature.params ++ closure.declared) (reverse signature.results) [] in
      rw (end_code, append-nil (reverse signature.results)) (typed-done scope (reverse signature.results))

  -- its results are as many as there may be
  end_stays : (is : IsBegun m rooms q number function signature closure) → StaysAt m number last end is.operands_most is.labels_most (0 + length (reverse signature.results))
  end_stays is =
      let within : (closure_of m function).results ≤ is.operands_most = is.needs_are.results_within in
      rw end_code (omega (arith, within, length-reverse signature.results, closure.results_are))

  pub begun-point : IsBegun m rooms q number function signature closure → IsPoint m rooms (in_body m q number (has_result m function))
  begun-point is = record {
    own = [];
    below = q.operands;
    locals = signature.params ++ closure.declared;
    results = reverse signature.results;
    labels = reverse signature.results ∷ [];
    before = [];
    ends = reverse signature.results;
    operands_are = refl;
    below_are = refl;
    own_are = tt;
    has_locals = is.has_locals;
    typed = body_typed;
    index_in = omega arith;
    operands_most = is.operands_most;
    labels_most = is.labels_most;
    stays = subst (λ (code : Code). StaysWithin ((outside_of m).functions) is.operands_most is.labels_most code 0) body_code is.needs_are.body_within;
    room = is.room;
    awaiting = (
      record {
        own = [];
        below = q.operands;
        types = [];
        taken = reverse signature.results;
        outer = [];
        next = reverse signature.results;
        operands_are = refl;
        below_are = is.base_is;
        own_are = tt;
        labels_are = refl;
        takes_are = leaves_are ∙ closure.results_are ∙ sym (length-reverse signature.results);
        target_typed = end_typed;
        after_typed = end_typed;
        target_in = omega arith;
        after_in = omega arith;
        operands_most = is.operands_most;
        labels_most = is.labels_most;
        target_within = end_stays is;
        after_within = end_stays is;
        room = record {
          heights = is.room.heights;
          bounds = is.room.bounds;
          own = is.room.own;
          numbered = is.room.numbered;
          operands = is.room.operands;
          awaiting = omega (arith, is.room.awaiting);
          locals = is.room.locals;
        };
      },
      is.awaiting,
    );
  }

  pub begun-state : length q.operands ≡ base_of q.awaiting → state_at m (in_body m q number (has_result m function))
      ≡ settled (store_with m q.globals) (label done (closure_of m function).results [] done ∷ contexts_of m number q.awaiting q.operands (take q.first_local q.locals))
      (closure_of m function).body [] (drop q.first_local q.locals)
  begun-state base =
      state_at-split m (in_body m q number (has_result m function)) [] q.operands refl refl
      ∙ rw (above-append (base_of q.awaiting) [] q.operands base, under-append (base_of q.awaiting) [] q.operands base, end_code, leaves_are, ← body_code) refl
