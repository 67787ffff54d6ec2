-- What a block promises of a result, which is a value or an exception (ISO/IEC 9075:1992, 22.1), and what it leaves as it was.
use Rattle.std.specs.Prelude.{◌≡◌, ℕ, ◌<◌, length, Result, Ok, Err, slice_get}
use Rattle.qw_types.specs.declared.code.Code.{Code}
use Rattle.qw_types.specs.declared.code.Code.TheVariants.{DivZero, OutOfRange}
use Rattle.qw_low.specs.State.{LowState}

-- the number by which a module raises an exception
abbrev pub code_of : Code → ℕ
code_of DivZero = 1
code_of OutOfRange = 2

-- where the result is a value, `post` holds of it and the state that is left; where it is an exception, no state is left
abbrev pub Leaves : {A : Type 0} → (A → LowState → Type 0) → Result A Code → LowState → Type 0
Leaves post (Ok v) t = post v t
Leaves post (Err code) t = ⊥

-- the number that is raised is that of the exception
abbrev pub Raises : {A : Type 0} → Result A Code → ℕ → Type 0
Raises (Ok v) raised = ⊥
Raises (Err code) raised = raised ≡ code_of code

-- from one state to another nothing has changed but locals from one on
pub record Kept (free : ℕ) (s t : LowState) : Type 0 where
  pub others : t ≡ record s { locals = t.locals }
  pub many : length t.locals ≡ length s.locals
  pub below : (i : ℕ) → i < free → slice_get t.locals i ≡ slice_get s.locals i
