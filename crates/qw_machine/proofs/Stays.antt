-- What a code that stays within bounds says of the operands before it, of those behind its first instruction, and of its inner sequences.
use Rattle.std.proofs.Common.{◌≡◌, ℕ, zero, suc, ◌+◌, ◌-◌, ◌<◌, ◌≤◌, List, length, Some, slice_get, refl, subst, arith}
use Rattle.std.proofs.lemmas.Option.{slice_get-get_or, slice_get_within}
use Rattle.qw_module.specs.declared.instruction.ValType.{ValType}
use Rattle.qw_module.specs.declared.instruction.Op.{Op}
use Rattle.qw_module.specs.declared.module.Function.{Function}
use Rattle.qw_module.specs.declared.module.Module.{Module}
use Rattle.qw_module.specs.Syntax.{Code, done, unreachable, br, br_table, return}
use Rattle.qw_module.specs.Typing.{Signature, Scope, OpTyped, typed-nop}
use Rattle.qw_valid.specs.Heights.{taken_by, left_by, parameters_at, results_at, StaysWithin, AreHeightsOf}
use Rattle.qw_valid.specs.declared.heights.Heights.{Heights}
use Rattle.qw_valid.specs.ModuleHeights.{HaveHeights}
use Rattle.qw_machine.specs.Inner.Rooms.{bounds_of, needed_below}

-- it begins on no more operands than it has at most
pub begins-within : (signatures : List Signature) (code : Code) (operands labels now : ℕ) → StaysWithin signatures operands labels code now → now ≤ operands
begins-within signatures done a b now stays = stays
begins-within signatures (unreachable rest) a b now stays = stays
begins-within signatures (br label rest) a b now stays = stays
begins-within signatures (br_table table default rest) a b now stays = stays
begins-within signatures (return rest) a b now stays = stays
begins-within signatures _ a b now stays = stays.0

-- the same of so many operands
pub stays-on : (signatures : List Signature) (code : Code) (operands labels now other : ℕ) → now ≡ other → StaysWithin signatures operands labels code now →
    StaysWithin signatures operands labels code other
stays-on signatures code a b now other same stays = subst (λ (n : ℕ). StaysWithin signatures a b code n) same stays

-- how many operands there are behind an operator
pub length-op_typed : (scope : Scope) (operator : Op) (before after : List ValType) → OpTyped scope operator before after →
    length before - taken_by operator + left_by operator ≡ length after
length-op_typed _ _ _ _ (typed-nop scope types) = omega arith
length-op_typed _ _ _ _ _ = omega arith

-- how many operands a call takes and leaves, by the type that was found
pub parameters-are : (signatures : List Signature) (index : ℕ) (signature : Signature) → slice_get signatures index ≡ Some signature →
    parameters_at signatures index ≡ length signature.params
parameters-are signatures index signature found = rw found refl

pub results-are : (signatures : List Signature) (index : ℕ) (signature : Signature) → slice_get signatures index ≡ Some signature →
    results_at signatures index ≡ length signature.results
results-are signatures index signature found = rw found refl

-- what the function of a number needs is told
pub bounds-are : (m : Module) (heights : List Heights) (number : ℕ) (function : Function) → HaveHeights m heights → slice_get m.functions.items number ≡ Some function →
    AreHeightsOf m function (bounds_of heights number).operands (bounds_of heights number).labels
bounds-are m heights number function have found =
    let inside : number < length heights = omega (arith, slice_get_within m.functions.items number function found, have.count) in
    have.each number function (bounds_of heights number) found (slice_get-get_or heights number (record { operands = 0; labels = 0 }) inside)

-- one operand more is always needed
pub needed_below-some : (m : Module) (heights : List Heights) (n : ℕ) → 1 ≤ (needed_below m heights n).operands
needed_below-some m heights zero = omega arith
needed_below-some m heights (suc n) = omega (arith, needed_below-some m heights n)
