-- How comparisons of numbers (ISO/IEC 9075:1992, 8.2) are relations of values of 64 bits (Core Specification 1.0, 4.3.2).
use Rattle.std.specs.Prelude.{◌≡◌, ℤ, FitsSigned}
use Rattle.std.specs.Int.{w64, cast_unsigned}
use Rattle.std.specs.Ordering.{int_cmp}
use Rattle.qw_scalar.specs.declared.comparison.Comparison.{Comparison}
use Rattle.qw_scalar.specs.declared.comparison.Comparison.TheVariants.{Equal, NotEqual, Less, LessOrEqual, Greater, GreaterOrEqual, Like, NotLike}
use Rattle.qw_scalar.specs.Evaluation.{answers}
use Rattle.qw_module.specs.declared.instruction.ValType.TheVariants.{I64}
use Rattle.qw_module.specs.declared.instruction.Sign.TheVariants.{Signed}
use Rattle.qw_module.specs.declared.instruction.Relation.{Relation}
use Rattle.qw_module.specs.declared.instruction.Relation.TheVariants.{Eq, Ne, Lt, Gt, Le, Ge}
use Rattle.qw_module.specs.Numbers.{relation, truth}

-- the relation of signed values that has a comparison's name; LIKE, which is asked of texts alone, goes with the equalities
abbrev pub relation_of : Comparison → Relation
relation_of Equal = Eq
relation_of NotEqual = Ne
relation_of Less = Lt Signed
relation_of LessOrEqual = Le Signed
relation_of Greater = Gt Signed
relation_of GreaterOrEqual = Ge Signed
relation_of Like = Eq
relation_of NotLike = Ne

-- A relation tells of the words of two numbers the truth of a comparison of them.
abbrev pub IsTruthOf : Comparison → Relation → Type 0
IsTruthOf operator r = (v w : ℤ) → FitsSigned w64 v → FitsSigned w64 w → relation I64 r (cast_unsigned w64 v) (cast_unsigned w64 w) ≡ truth (answers operator (int_cmp v w))
