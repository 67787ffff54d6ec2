-- Where the keys of a row and of an entry meet: they have no null and are the same.
use Rattle.std.proofs.Common.{◌≡◌, ◌∙◌, ◌≤◌, ◌<ℤ◌, ◌*ℤ◌, neg_ℤ, negsuc, mul-pos, zero-lt-suc, le_antisymm, le_of_eq, le_of_mul-le-mul_right, ◌*◌, ◌^◌, unsigned_abs, ℕ, zero, suc, ℤ, pos, Bool, true, false, not, ◌&&◌, ◌||◌, if◌then◌else◌, List, [], ◌∷◌, map, length, Option, Some, None, Result, Ok, Err, refl, sym, ap, ap₂, arith}
use Rattle.std.specs.List.{AllByRecursion, AllZip}
use Rattle.std.proofs.lemmas.Int.{unsigned_abs-mul}
use Rattle.std.proofs.Math.IntN.{negsuc-*ℤ-pos, pos-*ℤ-pos}
use Rattle.std.specs.Cmp.{int_ranks}
use Rattle.std.specs.Ordering.{MatchOrdering, int_cmp, is_eq, ordering_reverse, ordering_then}
use Rattle.std.specs.declared.cmp.Ordering.{Ordering}
use Rattle.std.specs.declared.cmp.Ordering.TheVariants as ordering
use Rattle.qw_types.specs.Arithmetic.{◌>>=◌, order_of}
use Rattle.qw_types.specs.TextOrder.{text_order}
use Rattle.qw_types.specs.ValueOrder.{is_same_row, row_order, value_order}
use Rattle.qw_types.specs.declared.code.Code.{Code}
use Rattle.qw_types.specs.declared.value.Val.{Val}
use Rattle.qw_types.specs.declared.value.Val.TheVariants.{Null, Num, Date, Text}
use Rattle.qw_types.proofs.ValueOrderLemmas.{turned}
use Rattle.qw_scalar.specs.declared.comparison.Comparison.{Comparison}
use Rattle.qw_scalar.specs.declared.comparison.Comparison.TheVariants.{Equal, NotEqual, Less, LessOrEqual, Greater, GreaterOrEqual, Like, NotLike}
use Rattle.qw_scalar.specs.Evaluation.{Environment, at_row, compared, truth_if, value_of}
use Rattle.qw_scalar.specs.Expression.{Expression, Condition, null, comparison, scale_of}
use Rattle.qw_scalar.specs.Typing.{IsValueOf, kind_of}
use Rattle.qw_leaves.specs.Compared.{Compared, OfCompared, compared_in}
use Rattle.qw_leaves.proofs.ComparedLemmas.{by_compared}
use Rattle.qw_meaning.specs.Flow.{values_of}
use Rattle.qw_algebra.specs.Columns.{is_of, names_column, names_only}
use Rattle.qw_rewrite.specs.Probe.{are_alike, are_eligible, face, is_eligible, is_of_side}
use Rattle.qw_rewrite.specs.Probed.{all_meet, is_true, key_meets, meet}
use Rattle.qw_rewrite.proofs.Names.{and_left, and_right, names_both}
use Rattle.qw_pipe.specs.Units.{operand_among, operand_of}
use Rattle.qw_table.specs.Joins.{have_values}

-- ---- two values

abbrev pub has_value : Val → Bool
has_value Null = false
has_value (Num v) = true
has_value (Date d) = true
has_value (Text t) = true

told_true : (b : Bool) → is_true (truth_if b) ≡ b
told_true true = refl
told_true false = refl

power_some : (s : ℕ) → 1 ≤ 10 ^ s
power_some zero = omega arith
power_some (suc s) = let rest = power_some s in omega (arith, rest)

never_below : (a b : ℤ) → a ≡ b → a <ℤ b → ⊥
never_below a b e h = grind arith

one_factor : (m n k : ℕ) → 1 ≤ k → m * k ≡ n * k → m ≡ n
one_factor m n (suc k) some e = le_antisymm (le_of_mul-le-mul_right (le_of_eq e) (zero-lt-suc k)) (le_of_mul-le-mul_right (le_of_eq (sym e)) (zero-lt-suc k))
one_factor m n zero some e = absurd (omega (arith, some))

opposite : (m n : ℕ) (c : ℤ) → c ≡ pos m → c ≡ neg_ℤ (pos n) → 1 ≤ n → ⊥
opposite m n c e f some = grind arith

same_sign : (a b c : ℤ) (n : ℕ) → unsigned_abs a ≡ unsigned_abs b → c ≡ a *ℤ pos n → c ≡ b *ℤ pos n → 1 ≤ n → a ≡ b
same_sign (pos m) (pos n) c k e f g some = ap pos e
same_sign (negsuc m) (negsuc n) c k e f g some = grind (arith, e)
same_sign (pos m) (negsuc n) c k e f g some =
    let one : c ≡ pos (m * k) = f ∙ pos-*ℤ-pos m k in
    let other : c ≡ neg_ℤ (pos (suc n * k)) = g ∙ negsuc-*ℤ-pos n k in
    absurd (opposite (m * k) (suc n * k) c one other (mul-pos (zero-lt-suc n) some))
same_sign (negsuc m) (pos n) c k e f g some =
    let one : c ≡ pos (n * k) = g ∙ pos-*ℤ-pos n k in
    let other : c ≡ neg_ℤ (pos (suc m * k)) = f ∙ negsuc-*ℤ-pos m k in
    absurd (opposite (n * k) (suc m * k) c one other (mul-pos (zero-lt-suc m) some))

cancelled : (a b : ℤ) (k : ℕ) → 1 ≤ k → a *ℤ pos k ≡ b *ℤ pos k → a ≡ b
cancelled a b k some e =
    same_sign a b (a *ℤ pos k) k
    (one_factor (unsigned_abs a) (unsigned_abs b) k some (sym (unsigned_abs-mul a (pos k)) ∙ ap unsigned_abs e ∙ unsigned_abs-mul b (pos k))) refl e some

ranked : (p q : Ordering) (x y a b : ℤ) → (x ≡ y → a ≡ b) → (a ≡ b → x ≡ y) → MatchOrdering p (x <ℤ y) (x ≡ y) (y <ℤ x) → MatchOrdering q (a <ℤ b) (a ≡ b) (b <ℤ a) → is_eq p ≡ is_eq q
ranked ordering.Equal ordering.Equal x y a b h g m n = refl
ranked ordering.Equal ordering.Less x y a b h g m n = absurd (never_below a b (h m) n)
ranked ordering.Equal ordering.Greater x y a b h g m n = absurd (never_below b a (sym (h m)) n)
ranked ordering.Less ordering.Equal x y a b h g m n = absurd (never_below x y (g n) m)
ranked ordering.Greater ordering.Equal x y a b h g m n = absurd (never_below y x (sym (g n)) m)
ranked ordering.Less ordering.Less x y a b h g m n = refl
ranked ordering.Less ordering.Greater x y a b h g m n = refl
ranked ordering.Greater ordering.Less x y a b h g m n = refl
ranked ordering.Greater ordering.Greater x y a b h g m n = refl

at_one_scale : (a b : ℤ) (k : ℕ) → 1 ≤ k → is_eq (int_cmp (a *ℤ pos k) (b *ℤ pos k)) ≡ is_eq (int_cmp a b)
at_one_scale a b k some =
    ranked (int_cmp (a *ℤ pos k) (b *ℤ pos k)) (int_cmp a b) (a *ℤ pos k) (b *ℤ pos k) a b (cancelled a b k some) (λ e. ap (λ (x : ℤ). x *ℤ pos k) e)
    (int_ranks (a *ℤ pos k) (b *ℤ pos k)) (int_ranks a b)

-- values at one scale are equal where neither is null and they are the same
compares : (v w : Val) (s : ℕ) → is_true (compared Equal v s w s) ≡ ((has_value v && has_value w) && is_eq (value_order v w))
compares Null w s = refl
compares (Num a) Null s = refl
compares (Num a) (Num b) s = told_true (is_eq (order_of a s b s)) ∙ at_one_scale a b (10 ^ s) (power_some s)
compares (Num a) (Date b) s = refl
compares (Num a) (Text b) s = refl
compares (Date a) Null s = refl
compares (Date a) (Num b) s = refl
compares (Date a) (Date b) s = told_true (is_eq (int_cmp a b))
compares (Date a) (Text b) s = refl
compares (Text a) Null s = refl
compares (Text a) (Num b) s = refl
compares (Text a) (Date b) s = refl
compares (Text a) (Text b) s = told_true (is_eq (text_order a b))

reversed : (r : Ordering) → is_eq (ordering_reverse r) ≡ is_eq r
reversed ordering.Less = refl
reversed ordering.Equal = refl
reversed ordering.Greater = refl

order_turned : (v w : Val) → is_eq (value_order w v) ≡ is_eq (value_order v w)
order_turned v w = ap is_eq (turned v w) ∙ reversed (value_order v w)

and_turned : (a b : Bool) → (a && b) ≡ (b && a)
and_turned true true = refl
and_turned true false = refl
and_turned false true = refl
and_turned false false = refl

compares_turned : (v w : Val) (s : ℕ) → is_true (compared Equal w s v s) ≡ ((has_value v && has_value w) && is_eq (value_order v w))
compares_turned v w s = compares w v s ∙ ap₂ (λ a b. a && b) (and_turned (has_value w) (has_value v)) (order_turned v w)

-- ---- which columns an expression names

-- what names columns of one side, at least one, doesn't name those of the other alone
pub apart_names : (t u : ℕ → Bool) → ((i : ℕ) → t i ≡ true → u i ≡ false) → (e : Expression) → names_only t e ≡ true → names_column e ≡ true → names_only u e ≡ false
apart_names t u apart e h g = one (names_only u e) refl
  where
    wrong : (i : ℕ) → t i ≡ true → u i ≡ true → is_of [] i ≡ true
    wrong i a b = absurd (let no : u i ≡ false = apart i a in cc)

    one : (b : Bool) → names_only u e ≡ b → b ≡ false
    one false k = refl
    one true k = absurd (let none : names_only (is_of []) e ≡ true = names_both t u (is_of []) wrong e h k in cc)

-- ---- the operands of a key

-- numbers on both sides have one scale
abbrev pub HasOneScale : Condition → Type 0
HasOneScale c = OfCompared (λ op a b. scale_of a ≡ scale_of b) (compared_in c)

abbrev pub sought : (tr : ℕ → Bool) → Condition → Expression
sought tr c = operand_of (λ i. not (tr i)) c

-- the operand of the row that looks up is of the left side, and that of the table of the right one; and when they meet
pub record IsDivided (tl tr : ℕ → Bool) (c : Condition) : Type 0 where
  pub left : names_only tl (sought tr c) ≡ true
  pub right : names_only tr (operand_of tr c) ≡ true
  pub meets : (l r : List Val) (v w : Val) → value_of (sought tr c) (at_row l) ≡ Ok v → value_of (operand_of tr c) (at_row r) ≡ Ok w
      → key_meets tl tr c l r ≡ ((has_value v && has_value w) && is_eq (value_order v w))

pub or_second : (a b : Bool) → a ≡ false → (a || b) ≡ true → b ≡ true
or_second true b e h = absurd cc
or_second false b e h = h

module _ (tl tr : ℕ → Bool) (apart : (i : ℕ) → tl i ≡ true → tr i ≡ false) where
  not_right : (i : ℕ) → tl i ≡ true → tl i ≡ true → not (tr i) ≡ true
  not_right i a b = rw (apart i a) refl

  not_both : (i : ℕ) → tr i ≡ true → not (tr i) ≡ false
  not_both i a = rw a refl

  equality_divided : (x y : Expression) → face tl tr x y ≡ true → scale_of x ≡ scale_of y → IsDivided tl tr (comparison Equal x y)
  equality_divided x y h scale = one (is_of_side tl x && is_of_side tr y) refl
    where
      one : (b : Bool) → (is_of_side tl x && is_of_side tr y) ≡ b → IsDivided tl tr (comparison Equal x y)
      one true e =
          let of_left : is_of_side tl x ≡ true = and_left (is_of_side tl x) (is_of_side tr y) e in
          let of_right : is_of_side tr y ≡ true = and_right (is_of_side tl x) (is_of_side tr y) e in
          let x_left : names_only tl x ≡ true = and_left (names_only tl x) (names_column x) of_left in
          let y_right : names_only tr y ≡ true = and_left (names_only tr y) (names_column y) of_right in
          let x_not : names_only tr x ≡ false = apart_names tl tr apart x x_left (and_right (names_only tl x) (names_column x) of_left) in
          let x_other : names_only (λ i. not (tr i)) x ≡ true = names_both tl tl (λ i. not (tr i)) not_right x x_left x_left in
          let kept_is : operand_of tr (comparison Equal x y) ≡ y = ap (λ (b : Bool). if b then x else y) x_not in
          let sought_is : sought tr (comparison Equal x y) ≡ x = ap (λ (b : Bool). if b then x else y) x_other in
          record {
            left = ap (names_only tl) sought_is ∙ x_left;
            right = ap (names_only tr) kept_is ∙ y_right;
            meets = λ l r v w hv hw.
                ap (λ (b : Bool). if b then meet (value_of x (at_row l)) (scale_of x) (value_of y (at_row r)) (scale_of y) else meet (value_of x (at_row r)) (scale_of x) (value_of y (at_row l)) (scale_of y)) e
                ∙ ap₂ (λ (p q : Result Val Code). meet p (scale_of x) q (scale_of y)) (ap (λ (z : Expression). value_of z (at_row l)) (sym sought_is) ∙ hv)
                (ap (λ (z : Expression). value_of z (at_row r)) (sym kept_is) ∙ hw)
                ∙ ap (λ (s : ℕ). is_true (compared Equal v (scale_of x) w s)) (sym scale) ∙ compares v w (scale_of x);
          }
      one false e =
          let other : (is_of_side tr x && is_of_side tl y) ≡ true = or_second (is_of_side tl x && is_of_side tr y) (is_of_side tr x && is_of_side tl y) e h in
          let of_right : is_of_side tr x ≡ true = and_left (is_of_side tr x) (is_of_side tl y) other in
          let of_left : is_of_side tl y ≡ true = and_right (is_of_side tr x) (is_of_side tl y) other in
          let x_right : names_only tr x ≡ true = and_left (names_only tr x) (names_column x) of_right in
          let y_left : names_only tl y ≡ true = and_left (names_only tl y) (names_column y) of_left in
          let x_not : names_only (λ i. not (tr i)) x ≡ false = apart_names tr (λ i. not (tr i)) not_both x x_right (and_right (names_only tr x) (names_column x) of_right) in
          let kept_is : operand_of tr (comparison Equal x y) ≡ x = ap (λ (b : Bool). if b then x else y) x_right in
          let sought_is : sought tr (comparison Equal x y) ≡ y = ap (λ (b : Bool). if b then x else y) x_not in
          record {
            left = ap (names_only tl) sought_is ∙ y_left;
            right = ap (names_only tr) kept_is ∙ x_right;
            meets = λ l r v w hv hw.
                ap (λ (b : Bool). if b then meet (value_of x (at_row l)) (scale_of x) (value_of y (at_row r)) (scale_of y) else meet (value_of x (at_row r)) (scale_of x) (value_of y (at_row l)) (scale_of y)) e
                ∙ ap₂ (λ (p q : Result Val Code). meet p (scale_of x) q (scale_of y)) (ap (λ (z : Expression). value_of z (at_row r)) (sym kept_is) ∙ hw)
                (ap (λ (z : Expression). value_of z (at_row l)) (sym sought_is) ∙ hv)
                ∙ ap (λ (s : ℕ). is_true (compared Equal w (scale_of x) v s)) (sym scale) ∙ compares_turned v w (scale_of x);
          }

  comparison_divided : (op : Comparison) (x y : Expression) → is_eligible tl tr (comparison op x y) ≡ true → HasOneScale (comparison op x y) → IsDivided tl tr (comparison op x y)
  comparison_divided Equal x y h scale = equality_divided x y (and_left (face tl tr x y) (are_alike (kind_of x) (kind_of y)) h) scale
  comparison_divided NotEqual x y h scale = absurd cc
  comparison_divided Less x y h scale = absurd cc
  comparison_divided LessOrEqual x y h scale = absurd cc
  comparison_divided Greater x y h scale = absurd cc
  comparison_divided GreaterOrEqual x y h scale = absurd cc
  comparison_divided Like x y h scale = absurd cc
  comparison_divided NotLike x y h scale = absurd cc

  pub divided : (c : Condition) → is_eligible tl tr c ≡ true → HasOneScale c → IsDivided tl tr c
  divided = by_compared (λ c o. are_eligible tl tr o ≡ true → OfCompared (λ op a b. scale_of a ≡ scale_of b) o → IsDivided tl tr c) comparison_divided (λ c h scale. absurd cc)

-- ---- lists of values

pub record HasParts (e : Expression) (es : List Expression) (env : Environment) (vs : List Val) : Type 0 where
  pub first : Val
  pub rest : List Val
  pub first_is : value_of e env ≡ Ok first
  pub rest_is : values_of es env ≡ Ok rest
  pub whole : first ∷ rest ≡ vs

pub parts : (e : Expression) (es : List Expression) (env : Environment) (vs : List Val) → values_of (e ∷ es) env ≡ Ok vs → HasParts e es env vs
parts e es env vs h = one (value_of e env) (values_of es env) refl refl h
  where
    one : (r : Result Val Code) (q : Result (List Val) Code) → value_of e env ≡ r → values_of es env ≡ q
        → (r >>= (λ value. q >>= (λ values. Ok (value ∷ values)))) ≡ Ok vs → HasParts e es env vs
    one (Ok v) (Ok us) hr hq g = let same : v ∷ us ≡ vs = cc in record { first = v; rest = us; first_is = hr; rest_is = hq; whole = same }
    one (Ok v) (Err code) hr hq g = absurd cc
    one (Err code) q hr hq g = absurd cc

values_cons : (v : Val) (vs : List Val) → have_values (v ∷ vs) ≡ (has_value v && have_values vs)
values_cons Null vs = refl
values_cons (Num n) vs = refl
values_cons (Date d) vs = refl
values_cons (Text t) vs = refl

then_equal : (r s : Ordering) → is_eq (ordering_then r s) ≡ (is_eq r && is_eq s)
then_equal ordering.Less s = refl
then_equal ordering.Equal s = refl
then_equal ordering.Greater s = refl

regrouped : (a b c d e f : Bool) → (((a && b) && c) && ((d && e) && f)) ≡ (((a && d) && (b && e)) && (c && f))
regrouped true true true d e f = refl
regrouped true true false true true f = refl
regrouped true true false true false f = refl
regrouped true true false false e f = refl
regrouped true false c true e f = refl
regrouped true false c false e f = refl
regrouped false b c d e f = refl

pub all_meets : (tl tr : ℕ → Bool) (cs : List Condition) → AllByRecursion (IsDivided tl tr) cs → (l r vs ws : List Val)
    → values_of (map (sought tr) cs) (at_row l) ≡ Ok vs → values_of (map (operand_of tr) cs) (at_row r) ≡ Ok ws
    → all_meet tl tr cs l r ≡ ((have_values vs && have_values ws) && is_same_row vs ws)
all_meets tl tr [] h l r vs ws hv hw =
    let none_sought : [] ≡ vs = cc in
    let none_kept : [] ≡ ws = cc in
    ap₂ (λ (xs ys : List Val). (have_values xs && have_values ys) && is_same_row xs ys) none_sought none_kept
all_meets tl tr (c ∷ cs) h l r vs ws hv hw =
    let p = parts (sought tr c) (map (sought tr) cs) (at_row l) vs hv in
    let q = parts (operand_of tr c) (map (operand_of tr) cs) (at_row r) ws hw in
    ap₂ (λ (a b : Bool). a && b) (h.0.meets l r p.first q.first p.first_is q.first_is) (all_meets tl tr cs h.1 l r p.rest q.rest p.rest_is q.rest_is)
    ∙ regrouped (has_value p.first) (has_value q.first) (is_eq (value_order p.first q.first)) (have_values p.rest) (have_values q.rest) (is_same_row p.rest q.rest)
    ∙ ap₂ (λ (a b : Bool). a && b) (ap₂ (λ (a b : Bool). a && b) (sym (values_cons p.first p.rest)) (sym (values_cons q.first q.rest))) (sym (then_equal (value_order p.first q.first) (row_order p.rest q.rest)))
    ∙ ap₂ (λ (xs ys : List Val). (have_values xs && have_values ys) && is_same_row xs ys) p.whole q.whole

-- ---- expressions that have a value

pub record IsTold (row : List Val) (e : Expression) : Type 0 where
  pub value : Val
  pub is : value_of e (at_row row) ≡ Ok value
  pub kind : IsValueOf (kind_of e) value

pub record AreTold (row : List Val) (es : List Expression) : Type 0 where
  pub values : List Val
  pub is : values_of es (at_row row) ≡ Ok values
  pub kinds : AllZip (λ e v. IsValueOf (kind_of e) v) es values
  pub count : length values ≡ length es

pub all_told : (row : List Val) (es : List Expression) → AllByRecursion (IsTold row) es → AreTold row es
all_told row [] h = record { values = []; is = refl; kinds = tt; count = refl }
all_told row (e ∷ es) h =
    let rest = all_told row es h.1 in
    record { values = h.0.value ∷ rest.values; is = rw (h.0.is, rest.is) refl; kinds = (h.0.kind, rest.kinds); count = ap suc rest.count }

-- an operand of a condition has what both have
abbrev pub BothOperands : (Expression → Type 0) → Option Compared → Type 0
BothOperands P None = P null
BothOperands P (Some k) = P k.left × P k.right

abbrev pub AllOperands : (Expression → Type 0) → Condition → Type 0
AllOperands P c = BothOperands P (compared_in c)

both_operands : (P : Expression → Type 0) (test : ℕ → Bool) (o : Option Compared) → BothOperands P o → P (operand_among test o)
both_operands P test None h = h
both_operands P test (Some k) h = one (names_only test k.left)
  where
    one : (q : Bool) → P (if q then k.left else k.right)
    one true = h.0
    one false = h.1

pub operand_has : (P : Expression → Type 0) (test : ℕ → Bool) (c : Condition) → AllOperands P c → P (operand_of test c)
operand_has P test c h = both_operands P test (compared_in c) h
