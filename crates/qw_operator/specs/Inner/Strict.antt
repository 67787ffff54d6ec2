-- Mirrors `src/strict.rt` and `src/guard.rt`: which columns make a condition unknown where one of them is null, and which leaves are read.
use Rattle.std.specs.Prelude.{◌≡◌, ◌⊎◌, ℕ, Bool, false, not, ◌==◌, ◌&&◌, ◌||◌, Some, List, [], ◌∷◌}
use Rattle.qw_types.specs.Kind.{type_kind}
use Rattle.qw_types.specs.Value.{IsSized, type_scale}
use Rattle.qw_types.specs.declared.value.Ty.{Ty}
use Rattle.qw_scalar.specs.declared.expression.Expr.{Expr}
use Rattle.qw_scalar.specs.declared.expression.Cond.{Cond}
use Rattle.qw_scalar.specs.declared.expression.Expr.TheVariants.{Null, Number, Date, Text, Column, Arithmetic', Negative', Extract', Case', Match', Call'}
use Rattle.qw_scalar.specs.declared.expression.Cond.TheVariants.{Compare', Between', In', Predicate', And', Or', Not', Is'}
use Rattle.qw_scalar.specs.Tree.{condition_of}
use Rattle.qw_leaves.specs.declared.leaf.Leaf.{Leaf}
use Rattle.qw_leaves.specs.declared.leaf.Leaf.TheVariants as leaf
use Rattle.qw_expr.specs.declared.known.Binding.{Binding}
use Rattle.qw_read.specs.Reading.{most_of}
use Rattle.qw_read.specs.declared.reader.Reader.{Reader}
use Rattle.qw_operator.specs.Guarded.{IsUnknownAt, picked}

-- ---- null columns
abbrev pub makes_null : Expr → (column : ℕ) → Bool
makes_null Null i = false
makes_null (Number v s) i = false
makes_null (Date d) i = false
makes_null (Text t) i = false
makes_null (Column j ty) i = j == i
makes_null (Arithmetic' operator _ a _ b) i = makes_null a i || makes_null b i
makes_null (Negative' _ a) i = makes_null a i
makes_null (Extract' field _ a) i = makes_null a i
makes_null (Case' _ branches) i = false
makes_null (Match' _ x _ matches) i = false
makes_null (Call' function _ arguments) i = false

abbrev pub makes_unknown : Cond → (column : ℕ) → Bool
makes_unknown (Compare' op _ a _ b) i = makes_null a i || makes_null b i
makes_unknown (Between' _ x _ a _ b) i = makes_null x i
makes_unknown (In' _ x _ values) i = makes_null x i
makes_unknown (Predicate' p _ a) i = false
makes_unknown (And' _ c _ d) i = false
makes_unknown (Or' _ c _ d) i = false
makes_unknown (Not' _ c) i = makes_unknown c i
makes_unknown (Is' _ c t) i = false

-- a column that may be null, read by these locals, that makes a condition unknown
abbrev pub is_tested : Cond → (left end : ℕ) → Reader → Bool
is_tested c left end r = not r.not_null && (r.left == left && (r.end == end && makes_unknown c r.column))

-- those that are tested before a conjunct, of which there is one at least
pub record IsTestedBy (c : Cond) (readers : List Reader) (first : Reader) (others : List Reader) : Type 0 where
  pub picked_is : first ∷ others ≡ picked (is_tested c first.left first.end) readers
  pub unknown : IsUnknownAt readers (first ∷ others) (condition_of c)

abbrev pub AreTestedBy : Cond → (readers tested : List Reader) → Type 0
AreTestedBy c readers [] = Unit {0}
AreTestedBy c readers (first ∷ others) = IsTestedBy c readers first others

-- ---- leaves that are read
abbrev pub IsReadColumn : List Reader → (column : ℕ) → Ty → Type 0
IsReadColumn [] i ty = ⊥
IsReadColumn (r ∷ readers) i ty = ((r.column ≡ i) × (r.ty ≡ ty)) ⊎ IsReadColumn readers i ty

abbrev pub IsReadLeaf : List Reader → Leaf → Type 0
IsReadLeaf readers (leaf.Column i ty) = IsSized ty × IsReadColumn readers i ty
IsReadLeaf readers (leaf.Number v s) = Unit {0}
IsReadLeaf readers (leaf.Date d) = Unit {0}
IsReadLeaf readers (leaf.Text t) = Unit {0}

-- ---- what is known of columns
-- each is of its reader's kind, scale and magnitude
abbrev pub AreBound : List Binding → List Reader → Type 0
AreBound [] [] = Unit {0}
AreBound (b ∷ bindings) (r ∷ readers) =
    ((b.operand.kind ≡ Some (type_kind r.ty)) × (b.operand.scale ≡ type_scale r.ty) × (b.operand.most ≡ most_of r.ty)) × AreBound bindings readers
AreBound _ _ = ⊥
