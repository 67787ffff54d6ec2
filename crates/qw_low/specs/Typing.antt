-- The types of Low's expressions and statements, by the standard's rules for the instructions that they become (Core 1.0, 3.3).
-- An address is an i32.
use Rattle.std.specs.Prelude.{◌≡◌, ◌<◌, ◌≤◌, ◌^◌, List, [], Some, slice_get}
use Rattle.qw_module.specs.declared.instruction.ValType.{ValType}
use Rattle.qw_module.specs.declared.instruction.ValType.TheVariants.{I32}
use Rattle.qw_module.specs.Numbers.{values_of, constant, type_of_constant, converts_from, converts_to, type_of_load, type_of_store}
use Rattle.qw_module.specs.Typing.{Scope}
use Rattle.qw_module.specs.Soundness.{raise_signature, pages_signature}
use Rattle.qw_low.specs.Syntax.{Expression, constant_of, local, unop, binop, divop, is_zero, relop, cvtop, advance, retreat, Statement, skip, seq, assign, load, store, conditional, while, request, raise, exit}

-- over locals of these types an expression has this type
abbrev pub HasType : List ValType → Expression → ValType → Type 0
HasType locals (constant_of c) type = (constant c < values_of (type_of_constant c)) × (type ≡ type_of_constant c)
HasType locals (local x) type = slice_get locals x ≡ Some type
HasType locals (unop t u e) type = HasType locals e t × (type ≡ t)
HasType locals (binop t b l r) type = HasType locals l t × HasType locals r t × (type ≡ t)
HasType locals (divop t d l r) type = HasType locals l t × HasType locals r t × (type ≡ t)
HasType locals (is_zero t e) type = HasType locals e t × (type ≡ I32)
HasType locals (relop t r left right) type = HasType locals left t × HasType locals right t × (type ≡ I32)
HasType locals (cvtop c e) type = HasType locals e (converts_from c) × (type ≡ converts_to c)
HasType locals (advance a n) type = HasType locals a I32 × HasType locals n I32 × (type ≡ I32)
HasType locals (retreat a n) type = HasType locals a I32 × HasType locals n I32 × (type ≡ I32)

abbrev pub IsTyped : List ValType → Statement → Type 0
IsTyped locals skip = Unit {0}
IsTyped locals (seq a b) = IsTyped locals a × IsTyped locals b
IsTyped locals (assign x e) = (type : ValType) × (slice_get locals x ≡ Some type) × HasType locals e type
IsTyped locals (load x l offset a) = (slice_get locals x ≡ Some (type_of_load l)) × HasType locals a I32
IsTyped locals (store st offset a e) = HasType locals a I32 × HasType locals e (type_of_store st)
IsTyped locals (conditional e a b) = HasType locals e I32 × IsTyped locals a × IsTyped locals b
IsTyped locals (while e a) = HasType locals e I32 × IsTyped locals a
IsTyped locals (request e x) = HasType locals e I32 × (slice_get locals x ≡ Some I32)
IsTyped locals (raise code) = code < 2 ^ 32
IsTyped locals exit = Unit {0}

-- Where Low's code may stand: functions 0 and 1 are `raise` and `pages`, there is a memory, and the function has no result.
pub record HostsLow (scope : Scope) : Type 0 where
  pub raise_is : slice_get scope.outside.functions 0 ≡ Some raise_signature
  pub pages_is : slice_get scope.outside.functions 1 ≡ Some pages_signature
  pub memory : 1 ≤ scope.outside.memories
  pub results : scope.results ≡ []
