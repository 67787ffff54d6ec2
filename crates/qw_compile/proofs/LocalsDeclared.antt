-- How locals of columns are declared, and which locals pipelines have of their own.
use Rattle.std.proofs.Common.{◌≡◌, ℕ, suc, ◌+◌, Bool, true, false, Option, Some, List, [], ◌∷◌, ◌++◌, length, slice_get, refl, ap, ◌∙◌, arith}
use Rattle.std.specs.List.{AllByRecursion}
use Rattle.std.proofs.lemmas.Option.{same_Some}
use Rattle.qw_types.specs.Kind.{type_kind}
use Rattle.qw_types.specs.declared.value.Ty.{Ty}
use Rattle.qw_module.specs.declared.instruction.ValType.{ValType}
use Rattle.qw_module.specs.declared.instruction.ValType.TheVariants.{I32}
use Rattle.qw_expr.specs.Cells.{DeclaresValue, DeclaresKind, DeclaresNull}
use Rattle.qw_read.specs.declared.reader.Reader.{Reader}
use Rattle.qw_read.specs.Reading.{operand_of, HasNullWord, DeclaresBases}
use Rattle.qw_compile.specs.QueryLocals.{null_word, value_type}
use Rattle.qw_types.specs.declared.value.Ty.TheVariants as ty
use Rattle.qw_operator.proofs.Promised.{after_append, in_append}

pub null_there : (b : Bool) (y x : ℕ) → null_word b y ≡ Some x → y ≡ x
null_there true y x is = absurd cc
null_there false y x is = same_Some y x is

pub null_one : (b : Bool) (x : ℕ) → HasNullWord b (null_word b x)
null_one true x = refl
null_one false x = (x, refl)

pub behind : {A : Type 0} (types : List A) (at : ℕ) (x y z : A) (rest : List A) → ((i : ℕ) → slice_get types (at + i) ≡ slice_get (x ∷ y ∷ z ∷ rest) i) → (i : ℕ) → slice_get types (at + 3 + i) ≡ slice_get rest i
behind types at x y z rest same i =
    let place : at + 3 + i ≡ at + suc (suc (suc i)) = omega arith in
    ap (λ (n : ℕ). slice_get types n) place ∙ same (suc (suc (suc i)))

pub kind_declared : (types : List ValType) (t : Ty) (c : ℕ) (null : Option ℕ) → slice_get types c ≡ Some (value_type t) → slice_get types (c + 1) ≡ Some I32 → DeclaresKind types (record { value = c; length = c + 1; null = null }) (Some (type_kind t))
kind_declared types ty.Integer c null v l = v
kind_declared types (ty.Decimal precision scale) c null v l = v
kind_declared types ty.Date c null v l = v
kind_declared types (ty.Varchar limit) c null v l = (v, l)

pub null_declared : (types : List ValType) (b : Bool) (x : ℕ) → slice_get types x ≡ Some I32 → DeclaresNull types (null_word b x)
null_declared types true x is = tt
null_declared types false x is = is

-- so are the locals that tell the row
abbrev pub CountsDeclared : List ValType → Reader → Type 0
CountsDeclared types r = (slice_get types r.left ≡ Some I32) × (slice_get types r.end ≡ Some I32)

pub all_declared : (types : List ValType) (readers : List Reader) → AllByRecursion (CountsDeclared types) readers → AllByRecursion (DeclaresBases types) readers → AllByRecursion (λ (r : Reader). DeclaresValue types (operand_of r)) readers →
    AllByRecursion (λ (r : Reader). (slice_get types r.left ≡ Some I32) × (slice_get types r.end ≡ Some I32) × DeclaresBases types r × DeclaresValue types (operand_of r)) readers
all_declared types [] rows bases cells = tt
all_declared types (r ∷ readers) rows bases cells = ((rows.0.0, rows.0.1, bases.0, cells.0), all_declared types readers rows.1 bases.1 cells.1)

pub begins_declared : (types : List ValType) (readers : List Reader) → AllByRecursion (CountsDeclared types) readers → AllByRecursion (DeclaresBases types) readers →
    AllByRecursion (λ (r : Reader). (slice_get types r.end ≡ Some I32) × DeclaresBases types r) readers
begins_declared types [] rows bases = tt
begins_declared types (r ∷ readers) rows bases = ((rows.0.1, bases.0), begins_declared types readers rows.1 bases.1)

-- the locals from one on are of these types
abbrev pub AreOwn : List ValType → (from : ℕ) → List ValType → Type 0
AreOwn types from own = (i : ℕ) (t : ValType) → slice_get own i ≡ Some t → slice_get types (from + i) ≡ Some t

module _ (types : List ValType) (from : ℕ) (own first rest : List ValType) (is : own ≡ first ++ rest) (are : AreOwn types from own) where
  pub first_own_types : AreOwn types from first
  first_own_types i t there = are i t (ap (λ (o : List ValType). slice_get o i) is ∙ in_append first rest i t there)

  pub rest_own_types : AreOwn types (from + length first) rest
  rest_own_types i t there =
      let place : from + length first + i ≡ from + (length first + i) = omega arith in
      ap (λ (n : ℕ). slice_get types n) place ∙ are (length first + i) t (ap (λ (o : List ValType). slice_get o (length first + i)) is ∙ (after_append first rest i ∙ there))
