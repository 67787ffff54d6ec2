-- Where a column is null that makes an expression null, it is null if it raises nothing, and so is a condition unknown.
use Rattle.std.proofs.Common.{◌≡◌, ◌≤◌, ◌⊎◌, inl, inr, ⊎_elim, ℕ, suc, length, Bool, true, false, not, ◌==◌, ◌&&◌, if◌then◌else◌, List, [], ◌∷◌, ◌++◌, Result, Ok, Err, slice_get, refl, sym, ap, ◌∙◌, subst, arith}
use Rattle.std.proofs.lemmas.Bool.{and_parts, eqb-true, not-true, or_cases, or_parts}
use Rattle.std.specs.List.{AllByRecursion}
use Rattle.qw_types.specs.Arithmetic.{◌>>=◌}
use Rattle.qw_types.specs.Truth.{negation}
use Rattle.qw_types.specs.declared.code.Code.{Code}
use Rattle.qw_types.specs.declared.truth.Truth.{Truth}
use Rattle.qw_types.specs.declared.truth.Truth.TheVariants.{Unknown}
use Rattle.qw_types.specs.declared.value.Ty.{Ty}
use Rattle.qw_types.specs.declared.value.Val.{Val}
use Rattle.qw_types.specs.declared.value.Val.TheVariants as val
use Rattle.qw_scalar.specs.declared.comparison.Comparison.{Comparison}
use Rattle.qw_scalar.specs.declared.comparison.Comparison.TheVariants.{Equal, GreaterOrEqual, LessOrEqual}
use Rattle.qw_scalar.specs.declared.expression.Operator.{Operator}
use Rattle.qw_scalar.specs.declared.expression.Expr.{Expr}
use Rattle.qw_scalar.specs.declared.expression.Cond.{Cond}
use Rattle.qw_scalar.specs.declared.expression.Expr.TheVariants.{Null, Number, Date, Text, Column, Arithmetic', Negative', Extract', Case', Match', Call'}
use Rattle.qw_scalar.specs.declared.expression.Cond.TheVariants.{Compare', Between', In', Predicate', And', Or', Not', Is'}
use Rattle.qw_scalar.specs.Columns.{HaveColumns}
use Rattle.qw_scalar.specs.Evaluation.{and_then, at_row, cell_of, combined, compared, extracted, negated, or_else, truth_of, value_of}
use Rattle.qw_scalar.specs.Expression.{Expression, Expressions, among, comparison, last, more, scale_of}
use Rattle.qw_scalar.specs.Tree.{condition_of, expression_of, expressions_of}
use Rattle.qw_scalar.specs.Typing.{AreTyped}
use Rattle.qw_leaves.specs.Leaves.{leaves_within}
use Rattle.qw_leaves.proofs.LeafLemmas.{conditions_columns}
use Rattle.qw_leaves.proofs.TreeLeaves.{have_leaves}
use Rattle.qw_raise.specs.Raise.{condition_can_raise}
use Rattle.qw_raise.specs.Range.{IsInRange, IsSizedColumn}
use Rattle.qw_raise.proofs.RaiseLemmas.{quiet_truth}
use Rattle.qw_read.specs.NullTests.{any_null, is_null_at, is_null_value}
use Rattle.qw_read.specs.declared.reader.Reader.{Reader}
use Rattle.qw_operator.specs.Guarded.{IsUnknownAt, picked}
use Rattle.qw_operator.specs.Inner.Strict.{AreTestedBy, IsReadColumn, IsReadLeaf, is_tested, makes_null, makes_unknown}

-- ---- operators on null
abbrev GivesNull : Result Val Code → Type 0
GivesNull r = (v : Val) → r ≡ Ok v → v ≡ val.Null

abbrev IsUnknown : Result Truth Code → Type 0
IsUnknown r = (t : Truth) → r ≡ Ok t → t ≡ Unknown

left_null : (operator : Operator) (x y v : Val) (sa sb : ℕ) → x ≡ val.Null → combined operator x sa y sb ≡ Ok v → v ≡ val.Null
left_null operator val.Null y v sa sb null is = cc
left_null operator (val.Num n) y v sa sb null is = absurd cc
left_null operator (val.Date d) y v sa sb null is = absurd cc
left_null operator (val.Text t) y v sa sb null is = absurd cc

right_of : (operator : Operator) (x v : Val) (sa sb : ℕ) → combined operator x sa val.Null sb ≡ Ok v → v ≡ val.Null
right_of operator val.Null v sa sb is = cc
right_of operator (val.Num n) v sa sb is = cc
right_of operator (val.Date d) v sa sb is = cc
right_of operator (val.Text t) v sa sb is = cc

right_null : (operator : Operator) (x y v : Val) (sa sb : ℕ) → y ≡ val.Null → combined operator x sa y sb ≡ Ok v → v ≡ val.Null
right_null operator x y v sa sb null is = right_of operator x v sa sb (ap (λ (z : Val). combined operator x sa z sb) (sym null) ∙ is)

combined_null : (operator : Operator) (a b : Result Val Code) (sa sb : ℕ) → GivesNull a ⊎ GivesNull b → GivesNull (a >>= (λ x. b >>= (λ y. combined operator x sa y sb)))
combined_null operator (Err c) b sa sb either v is = absurd cc
combined_null operator (Ok x) (Err c) sa sb either v is = absurd cc
combined_null operator (Ok x) (Ok y) sa sb (inl f) v is = left_null operator x y v sa sb (f x refl) is
combined_null operator (Ok x) (Ok y) sa sb (inr f) v is = right_null operator x y v sa sb (f y refl) is

mapped_null : (f : Val → Val) (a : Result Val Code) → f val.Null ≡ val.Null → GivesNull a → GivesNull (a >>= (λ x. Ok (f x)))
mapped_null f (Err c) keeps null v is = absurd cc
mapped_null f (Ok x) keeps null v is =
    let same : f x ≡ v = cc in
    sym same ∙ (ap f (null x refl) ∙ keeps)

left_unknown : (op : Comparison) (y : Val) (sa sb : ℕ) → compared op val.Null sa y sb ≡ Unknown
left_unknown op y sa sb = refl

right_unknown : (op : Comparison) (x : Val) (sa sb : ℕ) → compared op x sa val.Null sb ≡ Unknown
right_unknown op val.Null sa sb = refl
right_unknown op (val.Num n) sa sb = refl
right_unknown op (val.Date d) sa sb = refl
right_unknown op (val.Text t) sa sb = refl

compared_unknown : (op : Comparison) (a b : Result Val Code) (sa sb : ℕ) → GivesNull a ⊎ GivesNull b → IsUnknown (a >>= (λ x. b >>= (λ y. Ok (compared op x sa y sb))))
compared_unknown op (Err c) b sa sb either t is = absurd cc
compared_unknown op (Ok x) (Err c) sa sb either t is = absurd cc
compared_unknown op (Ok x) (Ok y) sa sb (inl f) t is =
    let same : compared op x sa y sb ≡ t = cc in
    sym same ∙ (ap (λ (z : Val). compared op z sa y sb) (f x refl) ∙ left_unknown op y sa sb)
compared_unknown op (Ok x) (Ok y) sa sb (inr f) t is =
    let same : compared op x sa y sb ≡ t = cc in
    sym same ∙ (ap (λ (z : Val). compared op x sa z sb) (f y refl) ∙ right_unknown op x sa sb)

both_unknown : (r s : Result Truth Code) → IsUnknown r → IsUnknown s → IsUnknown (r >>= (λ t. and_then t s))
both_unknown (Err c) s one two t is = absurd cc
both_unknown (Ok u) (Err c) one two t is =
    let early : and_then Unknown (Err c) ≡ Ok t = ap (λ (z : Truth). and_then z (Err c)) (sym (one u refl)) ∙ is in absurd cc
both_unknown (Ok u) (Ok w) one two t is =
    let same : and_then Unknown (Ok Unknown) ≡ Ok t = ap (λ (z : Truth). and_then Unknown (Ok z)) (sym (two w refl)) ∙ (ap (λ (z : Truth). and_then z (Ok w)) (sym (one u refl)) ∙ is) in cc

either_unknown : (r s : Result Truth Code) → IsUnknown r → IsUnknown s → IsUnknown (r >>= (λ t. or_else t s))
either_unknown (Err c) s one two t is = absurd cc
either_unknown (Ok u) (Err c) one two t is =
    let early : or_else Unknown (Err c) ≡ Ok t = ap (λ (z : Truth). or_else z (Err c)) (sym (one u refl)) ∙ is in absurd cc
either_unknown (Ok u) (Ok w) one two t is =
    let same : or_else Unknown (Ok Unknown) ≡ Ok t = ap (λ (z : Truth). or_else Unknown (Ok z)) (sym (two w refl)) ∙ (ap (λ (z : Truth). or_else z (Ok w)) (sym (one u refl)) ∙ is) in cc

not_unknown : (r : Result Truth Code) → IsUnknown r → IsUnknown (r >>= (λ t. Ok (negation t)))
not_unknown (Err c) one t is = absurd cc
not_unknown (Ok u) one t is =
    let same : negation u ≡ t = cc in
    sym same ∙ ap negation (one u refl)

-- ---- trees
module _ (row : List Val) (i : ℕ) (null_at : cell_of (slice_get row i) ≡ val.Null) where
  null_of : (e : Expr) → makes_null e i ≡ true → GivesNull (value_of (expression_of e) (at_row row))
  null_of Null makes v is = absurd cc
  null_of (Number n s) makes v is = absurd cc
  null_of (Date d) makes v is = absurd cc
  null_of (Text t) makes v is = absurd cc
  null_of (Column j ty) makes v is =
      let same : cell_of (slice_get row j) ≡ v = cc in
      sym same ∙ (ap (λ (k : ℕ). cell_of (slice_get row k)) (eqb-true j i makes) ∙ null_at)
  null_of (Arithmetic' operator x a y b) makes v is =
      let either : GivesNull (value_of (expression_of a) (at_row row)) ⊎ GivesNull (value_of (expression_of b) (at_row row)) = ⊎_elim (λ h. inl (null_of a h)) (λ h. inr (null_of b h)) (or_cases (makes_null a i) (makes_null b i) makes) in
      combined_null operator (value_of (expression_of a) (at_row row)) (value_of (expression_of b) (at_row row)) (scale_of (expression_of a)) (scale_of (expression_of b)) either v is
  null_of (Negative' x a) makes v is = mapped_null negated (value_of (expression_of a) (at_row row)) refl (null_of a makes) v is
  null_of (Extract' field x a) makes v is = mapped_null (extracted field) (value_of (expression_of a) (at_row row)) refl (null_of a makes) v is
  null_of (Case' x branches) makes v is = absurd cc
  null_of (Match' x a y matches) makes v is = absurd cc
  null_of (Call' function x arguments) makes v is = absurd cc

  comparison_of : (op : Comparison) (a b : Expression) → GivesNull (value_of a (at_row row)) ⊎ GivesNull (value_of b (at_row row)) → IsUnknown (truth_of (comparison op a b) (at_row row))
  comparison_of op a b either = compared_unknown op (value_of a (at_row row)) (value_of b (at_row row)) (scale_of a) (scale_of b) either

  among_of : (x : Expression) (es : Expressions) → GivesNull (value_of x (at_row row)) → IsUnknown (truth_of (among x es) (at_row row))
  among_of x (last e) null = comparison_of Equal x e (inl null)
  among_of x (more e es) null =
      either_unknown (truth_of (comparison Equal x e) (at_row row)) (truth_of (among x es) (at_row row)) (comparison_of Equal x e (inl null)) (among_of x es null)

  pub unknown_of : (c : Cond) → makes_unknown c i ≡ true → IsUnknown (truth_of (condition_of c) (at_row row))
  unknown_of (Compare' op x a y b) makes t is =
      let either : GivesNull (value_of (expression_of a) (at_row row)) ⊎ GivesNull (value_of (expression_of b) (at_row row)) = ⊎_elim (λ h. inl (null_of a h)) (λ h. inr (null_of b h)) (or_cases (makes_null a i) (makes_null b i) makes) in
      comparison_of op (expression_of a) (expression_of b) either t is
  unknown_of (Between' x e y a z b) makes t is =
      let null = null_of e makes in
      both_unknown (truth_of (comparison GreaterOrEqual (expression_of e) (expression_of a)) (at_row row)) (truth_of (comparison LessOrEqual (expression_of e) (expression_of b)) (at_row row))
      (comparison_of GreaterOrEqual (expression_of e) (expression_of a) (inl null)) (comparison_of LessOrEqual (expression_of e) (expression_of b) (inl null)) t is
  unknown_of (In' x e y values) makes t is = among_of (expression_of e) (expressions_of values) (null_of e makes) t is
  unknown_of (Predicate' p x a) makes t is = absurd cc
  unknown_of (And' x c y d) makes t is = absurd cc
  unknown_of (Or' x c y d) makes t is = absurd cc
  unknown_of (Not' x c) makes t is = not_unknown (truth_of (condition_of c) (at_row row)) (unknown_of c makes) t is
  unknown_of (Is' x c u) makes t is = absurd cc

-- ---- columns that are picked out
joined_if : (b : Bool) (x : Reader) (xs ys zs : List Reader) → xs ≡ ys ++ zs → (if b then x ∷ xs else xs) ≡ (if b then x ∷ ys else ys) ++ zs
joined_if true x xs ys zs is = ap (λ (l : List Reader). x ∷ l) is
joined_if false x xs ys zs is = is

all_if : (P : Reader → Type 0) (b : Bool) (x : Reader) (xs : List Reader) → (b ≡ true → P x) → AllByRecursion P xs → AllByRecursion P (if b then x ∷ xs else xs)
all_if P true x xs one all = (one refl, all)
all_if P false x xs one all = all

back_if : (P : Reader → Type 0) (b : Bool) (x : Reader) (xs : List Reader) → AllByRecursion P (if b then x ∷ xs else xs) → (b ≡ true → P x) × AllByRecursion P xs
back_if P true x xs all = ((λ is. all.0), all.1)
back_if P false x xs all = ((λ is. absurd cc), all)

module _ (f : Reader → Bool) where
  pub picked_joined : (xs ys : List Reader) → picked f (xs ++ ys) ≡ picked f xs ++ picked f ys
  picked_joined [] ys = refl
  picked_joined (x ∷ xs) ys = joined_if (f x) x (picked f (xs ++ ys)) (picked f xs) (picked f ys) (picked_joined xs ys)

  pub picked_all : (xs : List Reader) → AllByRecursion (λ (r : Reader). f r ≡ true) (picked f xs)
  picked_all [] = tt
  picked_all (x ∷ xs) = all_if (λ (r : Reader). f r ≡ true) (f x) x (picked f xs) (λ is. is) (picked_all xs)

  pub all_picked : (P : Reader → Type 0) (xs : List Reader) → AllByRecursion P xs → AllByRecursion P (picked f xs)
  all_picked P [] all = tt
  all_picked P (x ∷ xs) all = all_if P (f x) x (picked f xs) (λ is. all.0) (all_picked P xs all.1)

  -- what holds of those that are picked, holds of each where it is one
  pub picked_back : (P : Reader → Type 0) (xs : List Reader) → AllByRecursion P (picked f xs) → AllByRecursion (λ (r : Reader). f r ≡ true → P r) xs
  picked_back P [] all = tt
  picked_back P (x ∷ xs) all = let both = back_if P (f x) x (picked f xs) all in (both.0, picked_back P xs both.1)

  pub picked_few : (xs : List Reader) → length (picked f xs) ≤ length xs
  picked_few [] = omega arith
  picked_few (x ∷ xs) = let rest = picked_few xs in few_if (f x) x (picked f xs) (length xs) rest
    where
      few_if : (b : Bool) (y : Reader) (ys : List Reader) (n : ℕ) → length ys ≤ n → length (if b then y ∷ ys else ys) ≤ suc n
      few_if true y ys n le = omega (arith, le)
      few_if false y ys n le = omega (arith, le)

-- one of them is null
null_one : (row : List Val) (xs : List Reader) → any_null row xs ≡ true → (f : Reader → Bool) → AllByRecursion (λ (r : Reader). f r ≡ true) xs → (r : Reader) × (f r ≡ true) × (is_null_at row r ≡ true)
null_one row [] any f all = absurd cc
null_one row (r ∷ xs) any f all = ⊎_elim (λ h. (r, all.0, h)) (λ h. null_one row xs h f all.1) (or_cases (is_null_at row r) (any_null row xs) any)

-- or none is
pub null_none : (row : List Val) (xs : List Reader) → any_null row xs ≡ false → AllByRecursion (λ (r : Reader). is_null_at row r ≡ false) xs
null_none row [] any = tt
null_none row (r ∷ xs) any = let parts = or_parts (is_null_at row r) (any_null row xs) any in (parts.0, null_none row xs parts.1)

null_value : (v : Val) → is_null_value v ≡ true → v ≡ val.Null
null_value val.Null is = refl
null_value (val.Num n) is = absurd cc
null_value (val.Date d) is = absurd cc
null_value (val.Text t) is = absurd cc

-- ---- what is tested
pub record IsPick (c : Cond) (left end : ℕ) (r : Reader) : Type 0 where
  pub nullable : r.not_null ≡ false
  pub left_is : r.left ≡ left
  pub end_is : r.end ≡ end
  pub unknown : makes_unknown c r.column ≡ true

pub picks : (c : Cond) (left end : ℕ) (r : Reader) → is_tested c left end r ≡ true → IsPick c left end r
picks c left end r is =
    let one = and_parts (not r.not_null) (r.left == left && (r.end == end && makes_unknown c r.column)) is in
    let two = and_parts (r.left == left) (r.end == end && makes_unknown c r.column) one.1 in
    let three = and_parts (r.end == end) (makes_unknown c r.column) two.1 in
    record { nullable = not-true r.not_null one.0; left_is = eqb-true r.left left two.0; end_is = eqb-true r.end end three.0; unknown = three.1 }

abbrev pub IsQuiet : List Reader → Cond → Type 0
IsQuiet readers c = (row : List Val) → AllByRecursion (λ (r : Reader). IsInRange row r.column r.ty) readers → (t : Truth) × (truth_of (condition_of c) (at_row row) ≡ Ok t)

unknown_at : (c : Cond) (left end : ℕ) (readers : List Reader) → IsQuiet readers c → IsUnknownAt readers (picked (is_tested c left end) readers) (condition_of c)
unknown_at c left end readers quiet row ranges any =
    let one = null_one row (picked (is_tested c left end) readers) any (is_tested c left end) (picked_all (is_tested c left end) readers) in
    let pick = picks c left end one.0 one.1 in
    let told = quiet row ranges in
    told.1 ∙ ap (λ (t : Truth). let r : Result Truth Code = Ok t in r) (unknown_of row one.0.column (null_value (cell_of (slice_get row one.0.column)) one.2) c pick.unknown told.0 told.1)

pub tested_are : (c : Cond) (left end : ℕ) (readers tested : List Reader) → tested ≡ picked (is_tested c left end) readers → IsQuiet readers c → AreTestedBy c readers tested
tested_are c left end readers [] is quiet = tt
tested_are c left end readers (first ∷ others) is quiet =
    let all : AllByRecursion (λ (r : Reader). is_tested c left end r ≡ true) (first ∷ others) = subst (AllByRecursion (λ (r : Reader). is_tested c left end r ≡ true)) (sym is) (picked_all (is_tested c left end) readers) in
    let pick = picks c left end first all.0 in
    record {
      picked_is = is ∙ (ap (λ (k : ℕ). picked (is_tested c k end) readers) (sym pick.left_is) ∙ ap (λ (k : ℕ). picked (is_tested c first.left k) readers) (sym pick.end_is));
      unknown = subst (λ (l : List Reader). IsUnknownAt readers l (condition_of c)) (sym is) (unknown_at c left end readers quiet);
    }

-- ---- leaves that are read
in_range : (row : List Val) (readers : List Reader) (i : ℕ) (ty : Ty) → AllByRecursion (λ (r : Reader). IsInRange row r.column r.ty) readers → IsReadColumn readers i ty → IsInRange row i ty
in_range row [] i ty ranges read = absurd read
in_range row (r ∷ readers) i ty ranges (inl same) = subst (λ (t : Ty). IsInRange row i t) same.1 (subst (λ (k : ℕ). IsInRange row k r.ty) same.0 ranges.0)
in_range row (r ∷ readers) i ty ranges (inr there) = in_range row readers i ty ranges.1 there

pub read_sized : (readers : List Reader) (c : Cond) → AllByRecursion (IsReadLeaf readers) (leaves_within c) → HaveColumns IsSizedColumn (condition_of c)
read_sized readers c all = conditions_columns (IsReadLeaf readers) IsSizedColumn (λ i ty h. h.0) (condition_of c) (have_leaves (IsReadLeaf readers) c all)

pub read_quiet : (readers : List Reader) (c : Cond) → AreTyped (condition_of c) → AllByRecursion (IsReadLeaf readers) (leaves_within c) → condition_can_raise (condition_of c) ≡ false → IsQuiet readers c
read_quiet readers c typed all quiet row ranges =
    let told = quiet_truth row (condition_of c) typed
    (conditions_columns (IsReadLeaf readers) (IsInRange row) (λ i ty h. in_range row readers i ty ranges h.1) (condition_of c) (have_leaves (IsReadLeaf readers) c all)) quiet in
    (told.truth, told.is)
