-- What a local holds of a literal that was assigned to it.
use Rattle.std.proofs.Common.{◌≡◌, ℕ, ℤ, pos, negsuc, ◌<◌, IsTrue, FitsSigned, length, Some, slice_get, slice_set, arith, w32, w64}
use Rattle.std.specs.Int.{cast_unsigned}
use Rattle.std.proofs.lemmas.Int.{ints}
use Rattle.qw_types.specs.Arithmetic.{fits}
use Rattle.qw_types.specs.Kind.{IsDateNumber}
use Rattle.qw_types.specs.declared.value.Val.TheVariants as val
use Rattle.qw_map.proofs.TurnFacts.{slice_get-set_same}
use Rattle.qw_low.specs.State.{Number, LowState}
use Rattle.qw_wide.proofs.Words.{small, fits_small, word_held}
use Rattle.qw_expr.specs.Cells.{Holds}
use Rattle.qw_expr.specs.Literals.{number_operand, date_operand}

pub date_fits : (d : ℤ) → IsDateNumber d → FitsSigned w64 d
date_fits (pos n) is = small (pos n) (omega (arith, ints, is.1))
date_fits (negsuc n) is = absurd (omega (arith, ints, is.0))

pub date_small : (d : ℤ) → IsDateNumber d → FitsSigned w32 d
date_small (pos n) is = omega (arith, ints, is.1)
date_small (negsuc n) is = absurd (omega (arith, ints, is.0))

-- a local with the word of a literal holds its value
pub number_held : (s : LowState) (x : ℕ) (v : ℤ) (scale : ℕ) → IsTrue (fits v) → slice_get s.locals x ≡ Some (Number (cast_unsigned w64 v)) → Holds (number_operand x v scale) (val.Num v) s
number_held s x v scale small_v is = ((word_held s x v (fits_small v small_v) is, small_v, tt), omega arith)

pub date_held : (s : LowState) (x : ℕ) (d : ℤ) → IsDateNumber d → slice_get s.locals x ≡ Some (Number (cast_unsigned w64 d)) → Holds (date_operand x) (val.Date d) s
date_held s x d dated is = ((word_held s x d (date_fits d dated) is, tt), tt)

-- so it does once the constant is assigned to it
pub number_assigned : (s : LowState) (x : ℕ) (v : ℤ) (scale : ℕ) → IsTrue (fits v) → x < length s.locals → Holds (number_operand x v scale) (val.Num v) (record s { locals = slice_set s.locals x (Number (cast_unsigned w64 v)) })
number_assigned s x v scale small_v room =
    number_held (record s { locals = slice_set s.locals x (Number (cast_unsigned w64 v)) }) x v scale small_v (slice_get-set_same s.locals x (Number (cast_unsigned w64 v)) room)

pub date_assigned : (s : LowState) (x : ℕ) (d : ℤ) → IsDateNumber d → x < length s.locals → Holds (date_operand x) (val.Date d) (record s { locals = slice_set s.locals x (Number (cast_unsigned w64 d)) })
date_assigned s x d dated room = date_held (record s { locals = slice_set s.locals x (Number (cast_unsigned w64 d)) }) x d dated (slice_get-set_same s.locals x (Number (cast_unsigned w64 d)) room)
