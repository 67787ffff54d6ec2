-- Where the values of a key are equal on both sides, none of them null, the equalities of the key are true at the pair of rows.
use Rattle.std.proofs.Common.{◌≡◌, ◌∙◌, ℕ, ◌^◌, pos, ◌*ℤ◌, Bool, true, false, not, ◌&&◌, if◌then◌else◌, List, [], ◌∷◌, map, Result, Ok, Err, refl, sym, ap, ap₂, subst}
use Rattle.std.specs.List.{AllByRecursion}
use Rattle.std.specs.Ordering.{is_eq}
use Rattle.std.specs.declared.cmp.Ordering.{Ordering}
use Rattle.std.specs.declared.cmp.Ordering.TheVariants as ordering
use Rattle.qw_types.specs.Arithmetic.{◌>>=◌}
use Rattle.qw_types.specs.ValueOrder.{value_order}
use Rattle.qw_types.specs.declared.code.Code.{Code}
use Rattle.qw_types.specs.declared.truth.Truth.{Truth}
use Rattle.qw_types.specs.declared.truth.Truth.TheVariants.{True}
use Rattle.qw_types.specs.declared.value.Val.{Val}
use Rattle.qw_types.specs.declared.value.Val.TheVariants.{Null, Num, Date, Text}
use Rattle.qw_scalar.specs.declared.comparison.Comparison.{Comparison}
use Rattle.qw_scalar.specs.declared.comparison.Comparison.TheVariants.{Equal, NotEqual, Less, LessOrEqual, Greater, GreaterOrEqual, Like, NotLike}
use Rattle.qw_scalar.specs.Conjuncts.{passes}
use Rattle.qw_scalar.specs.Evaluation.{at_row, chosen, compared, truth_if, truth_of, value_of}
use Rattle.qw_scalar.specs.Expression.{Expression, Condition, comparison, scale_of}
use Rattle.qw_scalar.specs.Typing.{kind_of}
use Rattle.qw_leaves.specs.Compared.{OfCompared}
use Rattle.qw_leaves.proofs.ComparedLemmas.{by_compared}
use Rattle.qw_meaning.specs.Flow.{values_of}
use Rattle.qw_meaning.specs.From.{merged}
use Rattle.qw_meaning.proofs.FromLemmas.{cell, first_of_null, merged_cell}
use Rattle.qw_algebra.specs.Columns.{is_of, names_column, names_only}
use Rattle.qw_pipe.specs.Units.{operand_among, operand_of}
use Rattle.qw_rewrite.specs.Probe.{are_alike, are_eligible, face, is_eligible, is_of_side}
use Rattle.qw_rewrite.specs.Probed.{all_meet, is_true, key_meets, meet}
use Rattle.qw_rewrite.proofs.Names.{and_both, and_left, and_right, names_both}
use Rattle.qw_rewrite.proofs.Rows.{value_agrees}
use Rattle.qw_rewrite.proofs.Sifting.{other_side}
use Rattle.qw_table.specs.Joins.{have_values}
use Rattle.qw_physical.specs.Reads.{IsScaled}
use Rattle.qw_physical.proofs.Grounded.{IsNullBeside}
use Rattle.qw_physical.proofs.EqualKeys.{or_second}

-- ---- results of several values

pub record Parts (first : Result Val Code) (rest : Result (List Val) Code) (values : List Val) : Type 0 where
  pub head : Val
  pub tail : List Val
  pub is : values ≡ head ∷ tail
  pub first_is : first ≡ Ok head
  pub rest_is : rest ≡ Ok tail

pub parted : (first : Result Val Code) (rest : Result (List Val) Code) (values : List Val) → (first >>= (λ v. rest >>= (λ vs. Ok (v ∷ vs)))) ≡ Ok values → Parts first rest values
parted (Ok v) (Ok vs) values e =
    let same : values ≡ v ∷ vs = cc in
    record { head = v; tail = vs; is = same; first_is = refl; rest_is = refl }
parted (Ok v) (Err code) values e = absurd cc
parted (Err code) rest values e = absurd cc

-- what names a column, and columns of one test alone, names not only those of another that is apart from it
foreign : (s t : ℕ → Bool) → ((i : ℕ) → s i ≡ true → t i ≡ false) → (e : Expression) → is_of_side s e ≡ true → names_only t e ≡ false
foreign s t apart e h = one (names_only t e) refl
  where
    one : (b : Bool) → names_only t e ≡ b → b ≡ false
    one false g = refl
    one true g =
        let none : names_only (is_of []) e ≡ true =
        names_both s t (is_of []) (λ i hs ht. absurd (let no : t i ≡ false = apart i hs in cc)) e (and_left (names_only s e) (names_column e) h) g in
        let some : names_column e ≡ true = and_right (names_only s e) (names_column e) h in
        absurd cc

not_false : (b : Bool) → b ≡ false → not b ≡ true
not_false true h = absurd cc
not_false false h = refl

not_true : (b : Bool) → b ≡ true → not b ≡ false
not_true true h = refl
not_true false h = absurd cc

module _ (same_value : (a : Val) → value_order a a ≡ ordering.Equal) where
  -- a value that isn't null is equal to itself
  compared_self : (v : Val) (s : ℕ) (more : List Val) → have_values (v ∷ more) ≡ true → compared Equal v s v s ≡ True
  compared_self Null s more h = absurd cc
  compared_self (Num a) s more h = ap (λ (o : Ordering). truth_if (is_eq o)) (same_value (Num (a *ℤ pos (10 ^ s))))
  compared_self (Date d) s more h = ap (λ (o : Ordering). truth_if (is_eq o)) (same_value (Date d))
  compared_self (Text t) s more h = ap (λ (o : Ordering). truth_if (is_eq o)) (same_value (Text t))

  values_later : (v : Val) (more : List Val) → have_values (v ∷ more) ≡ true → have_values more ≡ true
  values_later Null more h = absurd cc
  values_later (Num a) more h = h
  values_later (Date d) more h = h
  values_later (Text t) more h = h

  module _ (tl tr : ℕ → Bool) (apart : (i : ℕ) → tl i ≡ true → tr i ≡ false) (l r : List Val) (lefts : IsNullBeside tl l) (rights : IsNullBeside tr r) where
    of_left : (e : Expression) → is_of_side tl e ≡ true → value_of e (at_row (merged l r)) ≡ value_of e (at_row l)
    of_left e h = value_agrees tl (merged l r) l (λ i t. merged_cell l r i ∙ (rw (rights i (apart i t)) (first_of_null (cell l i)))) e (and_left (names_only tl e) (names_column e) h)

    of_right : (e : Expression) → is_of_side tr e ≡ true → value_of e (at_row (merged l r)) ≡ value_of e (at_row r)
    of_right e h = value_agrees tr (merged l r) r (λ i t. merged_cell l r i ∙ (rw (lefts i (other_side (tl i) (tr i) (apart i) t)) refl)) e (and_left (names_only tr e) (names_column e) h)

    -- an operand of the left side, and one of the right
    sought_left : (x y : Expression) → is_of_side tl x ≡ true → (if names_only (λ i. not (tr i)) x then x else y) ≡ x
    sought_left x y h =
        ap (λ (b : Bool). if b then x else y)
        (names_both tl tl (λ i. not (tr i)) (λ i t u. not_false (tr i) (apart i t)) x (and_left (names_only tl x) (names_column x) h) (and_left (names_only tl x) (names_column x) h))

    sought_right : (x y : Expression) → is_of_side tr x ≡ true → (if names_only (λ i. not (tr i)) x then x else y) ≡ y
    sought_right x y h = ap (λ (b : Bool). if b then x else y) (foreign tr (λ i. not (tr i)) (λ i t. not_true (tr i) t) x h)

    kept_left : (x y : Expression) → is_of_side tl x ≡ true → (if names_only tr x then x else y) ≡ y
    kept_left x y h = ap (λ (b : Bool). if b then x else y) (foreign tl tr apart x h)

    kept_right : (x y : Expression) → is_of_side tr x ≡ true → (if names_only tr x then x else y) ≡ x
    kept_right x y h = ap (λ (b : Bool). if b then x else y) (and_left (names_only tr x) (names_column x) h)

    abbrev Met : Condition → Type 0
    Met c = (key_meets tl tr c l r ≡ true) × (truth_of c (at_row (merged l r)) ≡ Ok True)

    -- the values of two operands of one scale
    equal_values : (v : Val) (s t : ℕ) (more : List Val) → s ≡ t → have_values (v ∷ more) ≡ true → compared Equal v s v t ≡ True
    equal_values v s t more e h = ap (λ k. compared Equal v s v k) (sym e) ∙ compared_self v s more h

    equal_pair : (x y : Expression) (v : Val) (more : List Val) → face tl tr x y ≡ true → scale_of x ≡ scale_of y → value_of (operand_of (λ i. not (tr i)) (comparison Equal x y)) (at_row l) ≡ Ok v
        → value_of (operand_of tr (comparison Equal x y)) (at_row r) ≡ Ok v → have_values (v ∷ more) ≡ true → Met (comparison Equal x y)
    equal_pair x y v more faced scale el er has = one (is_of_side tl x && is_of_side tr y) refl
      where
        told : compared Equal v (scale_of x) v (scale_of y) ≡ True
        told = equal_values v (scale_of x) (scale_of y) more scale has

        truth : value_of x (at_row (merged l r)) ≡ Ok v → value_of y (at_row (merged l r)) ≡ Ok v → truth_of (comparison Equal x y) (at_row (merged l r)) ≡ Ok True
        truth hx hy =
            ap₂ (λ (a b : Result Val Code). a >>= (λ p. b >>= (λ q. Ok (compared Equal p (scale_of x) q (scale_of y))))) hx hy ∙ ap Ok told

        one : (b : Bool) → (is_of_side tl x && is_of_side tr y) ≡ b → Met (comparison Equal x y)
        one true e =
            let hx : is_of_side tl x ≡ true = and_left (is_of_side tl x) (is_of_side tr y) e in
            let hy : is_of_side tr y ≡ true = and_right (is_of_side tl x) (is_of_side tr y) e in
            let vx : value_of x (at_row l) ≡ Ok v = ap (λ (a : Expression). value_of a (at_row l)) (sym (sought_left x y hx)) ∙ el in
            let vy : value_of y (at_row r) ≡ Ok v = ap (λ (a : Expression). value_of a (at_row r)) (sym (kept_left x y hx)) ∙ er in (
              ap (λ (b : Bool). if b then meet (value_of x (at_row l)) (scale_of x) (value_of y (at_row r)) (scale_of y) else meet (value_of x (at_row r)) (scale_of x) (value_of y (at_row l)) (scale_of y)) e
                  ∙ ap₂ (λ (a b : Result Val Code). meet a (scale_of x) b (scale_of y)) vx vy ∙ ap is_true told,
              truth (of_left x hx ∙ vx) (of_right y hy ∙ vy),
            )
        one false e =
            let other : (is_of_side tr x && is_of_side tl y) ≡ true = or_second (is_of_side tl x && is_of_side tr y) (is_of_side tr x && is_of_side tl y) e faced in
            let hx : is_of_side tr x ≡ true = and_left (is_of_side tr x) (is_of_side tl y) other in
            let hy : is_of_side tl y ≡ true = and_right (is_of_side tr x) (is_of_side tl y) other in
            let vy : value_of y (at_row l) ≡ Ok v = ap (λ (a : Expression). value_of a (at_row l)) (sym (sought_right x y hx)) ∙ el in
            let vx : value_of x (at_row r) ≡ Ok v = ap (λ (a : Expression). value_of a (at_row r)) (sym (kept_right x y hx)) ∙ er in (
              ap (λ (b : Bool). if b then meet (value_of x (at_row l)) (scale_of x) (value_of y (at_row r)) (scale_of y) else meet (value_of x (at_row r)) (scale_of x) (value_of y (at_row l)) (scale_of y)) e
                  ∙ ap₂ (λ (a b : Result Val Code). meet a (scale_of x) b (scale_of y)) vx vy ∙ ap is_true told,
              truth (of_right x hx ∙ vx) (of_left y hy ∙ vy),
            )

    comparison_pair : (op : Comparison) (x y : Expression) (v : Val) (more : List Val) → is_eligible tl tr (comparison op x y) ≡ true → IsScaled (comparison op x y)
        → value_of (operand_of (λ i. not (tr i)) (comparison op x y)) (at_row l) ≡ Ok v → value_of (operand_of tr (comparison op x y)) (at_row r) ≡ Ok v → have_values (v ∷ more) ≡ true → Met (comparison op x y)
    comparison_pair Equal x y v more h scaled el er has =
        equal_pair x y v more (and_left (face tl tr x y) (are_alike (kind_of x) (kind_of y)) h) (scaled (and_right (face tl tr x y) (are_alike (kind_of x) (kind_of y)) h)) el er has
    comparison_pair NotEqual x y v more h scaled el er has = absurd cc
    comparison_pair Less x y v more h scaled el er has = absurd cc
    comparison_pair LessOrEqual x y v more h scaled el er has = absurd cc
    comparison_pair Greater x y v more h scaled el er has = absurd cc
    comparison_pair GreaterOrEqual x y v more h scaled el er has = absurd cc
    comparison_pair Like x y v more h scaled el er has = absurd cc
    comparison_pair NotLike x y v more h scaled el er has = absurd cc

    key_pair : (c : Condition) (v : Val) (more : List Val) → is_eligible tl tr c ≡ true → IsScaled c → value_of (operand_of (λ i. not (tr i)) c) (at_row l) ≡ Ok v
        → value_of (operand_of tr c) (at_row r) ≡ Ok v → have_values (v ∷ more) ≡ true → Met c
    key_pair = by_compared (λ c o. (v : Val) (more : List Val) → are_eligible tl tr o ≡ true → OfCompared (λ op a b. are_alike (kind_of a) (kind_of b) ≡ true → scale_of a ≡ scale_of b) o
        → value_of (operand_among (λ i. not (tr i)) o) (at_row l) ≡ Ok v → value_of (operand_among tr o) (at_row r) ≡ Ok v → have_values (v ∷ more) ≡ true → Met c) comparison_pair
        (λ c v more h scaled el er has. absurd cc)

    -- the equalities of a whole key
    pub keys_pair : (cs : List Condition) (values : List Val) → AllByRecursion (λ c. is_eligible tl tr c ≡ true) cs → AllByRecursion IsScaled cs
        → values_of (map (operand_of (λ i. not (tr i))) cs) (at_row l) ≡ Ok values → values_of (map (operand_of tr) cs) (at_row r) ≡ Ok values → have_values values ≡ true
        → (all_meet tl tr cs l r ≡ true) × (passes cs (at_row (merged l r)) ≡ Ok true)
    keys_pair [] values h scaled el er has = (refl, refl)
    keys_pair (c ∷ cs) values h scaled el er has =
        let a = parted (value_of (operand_of (λ i. not (tr i)) c) (at_row l)) (values_of (map (operand_of (λ i. not (tr i))) cs) (at_row l)) values el in
        let b = parted (value_of (operand_of tr c) (at_row r)) (values_of (map (operand_of tr) cs) (at_row r)) values er in
        let is : a.head ∷ a.tail ≡ b.head ∷ b.tail = sym a.is ∙ b.is in
        let head : b.head ≡ a.head = cc in
        let tail : b.tail ≡ a.tail = cc in
        let all : have_values (a.head ∷ a.tail) ≡ true = subst (λ (vs : List Val). have_values vs ≡ true) a.is has in
        let met = key_pair c a.head a.tail h.0 scaled.0 a.first_is (b.first_is ∙ ap Ok head) all in
        let rest = keys_pair cs a.tail h.1 scaled.1 a.rest_is (b.rest_is ∙ ap Ok tail) (values_later a.head a.tail all) in (
          and_both (key_meets tl tr c l r) (all_meet tl tr cs l r) met.0 rest.0,
          ap (λ (q : Result Truth Code). q >>= (λ t. chosen t (passes cs (at_row (merged l r))) (Ok false))) met.1 ∙ rest.1,
        )
