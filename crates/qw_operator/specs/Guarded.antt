-- The test of null bits before the first conjunct of a scan's row (ISO/IEC 9075:1992, 7.6): which columns it tests, how they are read behind it, and
-- why a row that it rejects is no row that passes.
use Rattle.std.specs.Prelude.{◌≡◌, if◌then◌else◌, Bool, true, List, [], ◌∷◌, Ok}
use Rattle.std.specs.List.{AllByRecursion}
use Rattle.qw_types.specs.declared.truth.Truth.TheVariants.{Unknown}
use Rattle.qw_types.specs.declared.value.Val.{Val}
use Rattle.qw_scalar.specs.Evaluation.{truth_of, at_row}
use Rattle.qw_scalar.specs.Expression.{Condition}
use Rattle.qw_raise.specs.Range.{IsInRange}
use Rattle.qw_read.specs.NullTests.{any_null, sure_reader}
use Rattle.qw_read.specs.declared.reader.Reader.{Reader}

-- the columns of some that are picked out, in their order
abbrev pub picked : (Reader → Bool) → List Reader → List Reader
picked is_tested [] = []
picked is_tested (r ∷ readers) = if is_tested r then r ∷ picked is_tested readers else picked is_tested readers

-- a column as it is read behind the test: without a null word where it was tested
abbrev pub sure_where : (Reader → Bool) → Reader → Reader
sure_where is_tested r = if is_tested r then sure_reader r else r

-- at each row whose columns are in their types' ranges, and one of some is null, a condition is unknown, and raises nothing
abbrev pub IsUnknownAt : (readers tested : List Reader) → Condition → Type 0
IsUnknownAt readers tested c = (row : List Val) → AllByRecursion (λ (r : Reader). IsInRange row r.column r.ty) readers → any_null row tested ≡ true → truth_of c (at_row row) ≡ Ok Unknown
