-- Operators on numbers, with null.
use Rattle.std.proofs.Common.{◌≡◌, ℕ, zero, suc, ℤ, ◌+◌, ◌*◌, ◌<◌, ◌≤◌, ◌||◌, Bool, true, false, IsTrue, List, [], ◌∷◌, ◌++◌, length, length-append, Option, Some, None, Result, Ok, Err, IfOk, slice_get, refl, sym, subst, arith}
use Rattle.qw_types.specs.Arithmetic.{◌>>=◌}
use Rattle.qw_types.specs.declared.code.Code.{Code}
use Rattle.qw_types.specs.declared.kind.Kind.{Kind}
use Rattle.qw_types.specs.declared.kind.Kind.TheVariants as kind
use Rattle.qw_types.specs.declared.value.Val.{Val}
use Rattle.qw_types.specs.declared.value.Val.TheVariants as val
use Rattle.qw_scalar.specs.declared.expression.Operator.{Operator}
use Rattle.qw_scalar.specs.Columns.{HasColumns, HoldsIn}
use Rattle.qw_scalar.specs.Evaluation.{Environment, applied, as_number, combined, value_of, at_row}
use Rattle.qw_scalar.specs.Expression.{Expression, arithmetic, scale_of, scale_after}
use Rattle.qw_scalar.specs.Typing.{IsTyped, IsValueOf, is_number, kind_of}
use Rattle.qw_scalar.proofs.TypingLemmas.{typed_value}
use Rattle.qw_module.specs.declared.instruction.ValType.{ValType}
use Rattle.qw_module.specs.declared.instruction.ValType.TheVariants.{I32, I64}
use Rattle.qw_low.specs.declared.cell.Cell.{Cell}
use Rattle.qw_low.specs.Typing as low
use Rattle.qw_low.specs.Syntax.{Statement, seq}
use Rattle.qw_low.specs.State.{LowState}
use Rattle.qw_low.specs.Meaning.{meaning}
use Rattle.qw_low.specs.Size.{size}
use Rattle.qw_low.specs.Promise.{Ends}
use Rattle.qw_low.specs.Raising.{Kept, Leaves, Raises}
use Rattle.qw_low.specs.Held.{SaysNull}
use Rattle.qw_low.proofs.Promises.{Ends-more, Ends-weaker}
use Rattle.qw_low.proofs.Results.{Kept-then, at_least, Comes, comes_weaker, comes_then, comes_skip}
use Rattle.qw_wide.specs.Numbers.{HasNumber, Operates}
use Rattle.qw_expr.specs.declared.operand.Operand.{Operand}
use Rattle.qw_expr.specs.Cells.{Holds, IsBelow, IsBelowNull, DeclaresNull, DeclaresKind, DeclaresValue, Declares}
use Rattle.qw_scalar.specs.Units.{units}
use Rattle.qw_expr.specs.Computes.{Known, AreHeld, AreBelow, Computes}
use Rattle.qw_expr.specs.Inner.Operated.{number_at}
use Rattle.qw_expr.specs.Inner.Nulls.{join_block, joined_null, unless_null}
use Rattle.qw_expr.proofs.Nulls.{Says, value_says, value_kept, known_kept, below_more, joins, unless}

-- a number or null, and which
abbrev pub NumberOrNull : Val → Type 0
NumberOrNull val.Null = Unit {0}
NumberOrNull (val.Num v) = Unit {0}
NumberOrNull (val.Date d) = ⊥
NumberOrNull (val.Text t) = ⊥

pub number_or_null : (k : Option Kind) (v : Val) → IsTrue (is_number k) → IsValueOf k v → NumberOrNull v
number_or_null k val.Null is of = tt
number_or_null k (val.Num v) is of = tt
number_or_null None (val.Date d) is of = absurd cc
number_or_null (Some (kind.Number s)) (val.Date d) is of = of
number_or_null (Some kind.Date) (val.Date d) is of = absurd cc
number_or_null (Some kind.Text) (val.Date d) is of = absurd cc
number_or_null None (val.Text t) is of = absurd cc
number_or_null (Some (kind.Number s)) (val.Text t) is of = of
number_or_null (Some kind.Date) (val.Text t) is of = absurd cc
number_or_null (Some kind.Text) (val.Text t) is of = absurd cc

-- what a result's value is, where there is one
pub if_ok_is : {A : Type 0} (P : A → Type 0) (r : Result A Code) (v : A) → r ≡ Ok v → IfOk r P → P v
if_ok_is P r v is h = subst (λ (q : Result _ Code). IfOk q P) is h

pub number_of_typed : (e : Expression) (row : List Val) (v : Val) → IsTyped e → IsTrue (is_number (kind_of e)) → HasColumns (HoldsIn row) e → value_of e (at_row row) ≡ Ok v → NumberOrNull v
number_of_typed e row v typed is columns here = number_or_null (kind_of e) v is (if_ok_is (IsValueOf (kind_of e)) (value_of e (at_row row)) v here (typed_value e row typed columns))

pub joined_below : (m n : ℕ) (a b : Option ℕ) → m ≤ n → IsBelowNull m a → IsBelowNull m b → IsBelowNull (n + 1) (joined_null m a b)
joined_below m n None None le low_a low_b = tt
joined_below m n None (Some y) le low_a low_b = omega (arith, low_b)
joined_below m n (Some x) None le low_a low_b = omega (arith, low_a)
joined_below m n (Some x) (Some y) le low_a low_b = omega (arith, le)

module _ (most fuel N : ℕ) (some : 1 ≤ N) where
  -- a block that was promised at its size
  pub comes_of : {A : Type 0} (P : A → LowState → Type 0) (r : Result A Code) (a : Statement) (s : LowState) → Ends (size a) (Leaves P r) (λ t. ⊥) (Raises r) (meaning most fuel a s) → Comes most fuel N P r a s
  comes_of P r a s h = Ends-more (Leaves P r) (λ t. ⊥) (Raises r) (size a) (size a * N) (meaning most fuel a s) (at_least (size a) N some) h

  -- a number as a value
  pub comes_number : (P : ℤ → LowState → Type 0) (Q : Val → LowState → Type 0) (r : Result ℤ Code) (a : Statement) (s : LowState) → ((v : ℤ) (t : LowState) → P v t → Q (val.Num v) t) → Comes most fuel N P r a s →
      Comes most fuel N Q (as_number r) a s
  comes_number P Q (Ok v) a s more h = Ends-weaker (size a * N) (size a * N) (P v) (Q (val.Num v)) (λ t. ⊥) (λ t. ⊥) (λ code. ⊥) (λ code. ⊥) (meaning most fuel a s) (omega arith) (more v) (λ t x. x) (λ code x. x) h
  comes_number P Q (Err code) a s more h = h

  module _ (u : LowState) (m : ℕ) (oa ob : Operand) (low_a : IsBelow m oa.cell) (low_b : IsBelow m ob.cell) (room : m + 2 < length u.locals)
      (operation : ℤ → ℤ → Result ℤ Code) (f : Statement) (out limit scale : ℕ) (operates : Operates operation oa.cell.value oa.most ob.cell.value ob.most (m + 1) out limit f) where
    abbrev null : Option ℕ
    null = joined_null m oa.cell.null ob.cell.null

    abbrev Post : Val → LowState → Type 0
    Post v t = Kept m u t × Holds (number_at out null scale limit) v t

    abbrev pub finish : Statement
    finish = seq (join_block m oa.cell.null ob.cell.null) (unless_null null f)

    nothing : (g h : Bool) → (g || h) ≡ true → Says u oa.cell.null g → Says u ob.cell.null h → Comes most fuel N Post (Ok val.Null) finish u
    nothing g h is one other =
        comes_then most fuel N {A = ℕ} (λ k t. Kept m u t × Says t null (g || h)) Post (Ok 0) (λ k. Ok val.Null) (join_block m oa.cell.null ob.cell.null) (unless_null null f) u
        (joins most fuel N some u m oa.cell.null ob.cell.null g h (omega (arith, room)) one other)
        (λ k t same left. unless most fuel N some Post (Ok val.Null) null true f t (subst (Says t null) is left.1)
        (λ null_there. comes_skip most fuel N some Post val.Null t (left.0, (subst (Says t null) is left.1, tt))) (λ bad. absurd cc))

    both : (a b : ℤ) → Holds oa (val.Num a) u → Holds ob (val.Num b) u → Comes most fuel N Post (as_number (operation a b)) finish u
    both a b one other =
        comes_then most fuel N {A = ℕ} (λ k t. Kept m u t × Says t null false) Post (Ok 0) (λ k. as_number (operation a b)) (join_block m oa.cell.null ob.cell.null) (unless_null null f) u
        (joins most fuel N some u m oa.cell.null ob.cell.null false false (omega (arith, room)) one.0.2 other.0.2)
        (λ k t same left.
        let first = value_kept m u t oa.cell (val.Num a) left.0 low_a one.0 in
        let second = value_kept m u t ob.cell (val.Num b) left.0 low_b other.0 in
        unless most fuel N some Post (as_number (operation a b)) null false f t left.1 (λ bad. absurd cc)
        (λ value_there. comes_number (λ v w. Kept (m + 1) t w × HasNumber out limit v w) Post (operation a b) f t
        (λ v w has. (
          Kept-then m (m + 1) u t w (omega arith) left.0 has.0,
          ((has.1.0, has.1.1, value_says (m + 1) t w null has.0 (joined_below m m oa.cell.null ob.cell.null (omega arith) low_a.2 low_b.2) left.1), has.1.2),
        ))
        (comes_of (λ v w. Kept (m + 1) t w × HasNumber out limit v w) (operation a b) f t
        (operates.runs most fuel t a b (first.0, first.1, one.1) (second.0, second.1, other.1) (omega (arith, room, left.0.many))))))

    pub finishes : (x y : Val) (r : Result Val Code) → NumberOrNull x → NumberOrNull y → (x ≡ val.Null → r ≡ Ok val.Null) → (y ≡ val.Null → r ≡ Ok val.Null) →
        ((a b : ℤ) → x ≡ val.Num a → y ≡ val.Num b → r ≡ as_number (operation a b)) → Holds oa x u → Holds ob y u → Comes most fuel N Post r finish u
    finishes val.Null val.Null r nx ny first second numbers one other = rw (first refl) (nothing true true refl one.0 other.0)
    finishes val.Null (val.Num b) r nx ny first second numbers one other = rw (first refl) (nothing true false refl one.0 other.0.2)
    finishes (val.Num a) val.Null r nx ny first second numbers one other = rw (second refl) (nothing false true refl one.0.2 other.0)
    finishes (val.Num a) (val.Num b) r nx ny first second numbers one other = rw (numbers a b refl refl) (both a b one other)
    finishes (val.Date d) y r nx ny first second numbers one other = absurd nx
    finishes (val.Text t) y r nx ny first second numbers one other = absurd nx
    finishes val.Null (val.Date d) r nx ny first second numbers one other = absurd ny
    finishes val.Null (val.Text t) r nx ny first second numbers one other = absurd ny
    finishes (val.Num a) (val.Date d) r nx ny first second numbers one other = absurd ny
    finishes (val.Num a) (val.Text t) r nx ny first second numbers one other = absurd ny

-- ---- two operands
combined_null : (operator : Operator) (x : Val) (sa : ℕ) (y : Val) (sb : ℕ) → NumberOrNull x → y ≡ val.Null → combined operator x sa y sb ≡ Ok val.Null
combined_null operator val.Null sa y sb nx is = refl
combined_null operator (val.Num a) sa y sb nx is = rw is refl
combined_null operator (val.Date d) sa y sb nx is = absurd nx
combined_null operator (val.Text t) sa y sb nx is = absurd nx

pub combined_left : (operator : Operator) (x : Val) (sa : ℕ) (y : Val) (sb : ℕ) → x ≡ val.Null → combined operator x sa y sb ≡ Ok val.Null
combined_left operator x sa y sb is = rw is refl

combined_numbers : (operator : Operator) (x : Val) (sa : ℕ) (y : Val) (sb : ℕ) (a b : ℤ) → x ≡ val.Num a → y ≡ val.Num b → combined operator x sa y sb ≡ as_number (applied operator a sa b sb)
combined_numbers operator x sa y sb a b is_x is_y = rw (is_x, is_y) refl

front : {A : Type 0} (xs ys : List A) (i : ℕ) (u : A) → slice_get xs i ≡ Some u → slice_get (xs ++ ys) i ≡ Some u
front [] ys i u found = absurd cc
front (x ∷ xs) ys zero u found = found
front (x ∷ xs) ys (suc i) u found = front xs ys i u found

pub declares_first : (types : List ValType) (n : ℕ) (a b : List ValType) → Declares types n (a ++ b) → Declares types n a
declares_first types n a b all i u found = all i u (front a b i u found)

pub declares_rest : (types : List ValType) (n : ℕ) (a b : List ValType) → Declares types n (a ++ b) → Declares types (n + length a) b
declares_rest types n a b all i u found =
    let place : n + (length a + i) ≡ n + length a + i = omega arith in
    subst (λ k. slice_get types k ≡ Some u) place (all (length a + i) u (behind a i found))
  where
    behind : (xs : List ValType) (i : ℕ) → slice_get b i ≡ Some u → slice_get (xs ++ b) (length xs + i) ≡ Some u
    behind [] i found =
        let same : 0 + i ≡ i = omega arith in
        rw same found
    behind (x ∷ xs) i found =
        let same : suc (length xs) + i ≡ suc (length xs + i) = omega arith in
        rw same (behind xs i found)

number_declared : (types : List ValType) (c : Cell) (k : Option Kind) → IsTrue (is_number k) → DeclaresKind types c k → slice_get types c.value ≡ Some I64
number_declared types c None is declared = absurd cc
number_declared types c (Some (kind.Number s)) is declared = declared
number_declared types c (Some kind.Date) is declared = declared
number_declared types c (Some kind.Text) is declared = absurd cc

pub operand_declared : (types : List ValType) (o : Operand) (e : Expression) → o.kind ≡ kind_of e → IsTrue (is_number (kind_of e)) → DeclaresValue types o → slice_get types o.cell.value ≡ Some I64
operand_declared types o e same is declared = number_declared types o.cell (kind_of e) is (subst (DeclaresKind types o.cell) same declared.0)

pub join_typed : (types : List ValType) (p : ℕ) (a b : Option ℕ) → DeclaresNull types a → DeclaresNull types b → slice_get types p ≡ Some I32 → low.IsTyped types (join_block p a b) × DeclaresNull types (joined_null p a b)
join_typed types p None b one other is = (tt, other)
join_typed types p (Some m) None one other is = (tt, one)
join_typed types p (Some m) (Some n) one other is = ((I32, is, (one, other, refl)), is)

pub unless_typed : (types : List ValType) (null : Option ℕ) (body : Statement) → DeclaresNull types null → low.IsTyped types body → low.IsTyped types (unless_null null body)
unless_typed types None body declared typed = typed
unless_typed types (Some n) body declared typed = (declared, tt, typed)

pub three_long : (a b : List ValType) (x y z : ValType) → length (a ++ (b ++ (x ∷ y ∷ z ∷ []))) ≡ length a + length b + 3
three_long a b x y z = omega (arith, length-append a (b ++ (x ∷ y ∷ z ∷ [])), length-append b (x ∷ y ∷ z ∷ []))

pub third : (types : List ValType) (n : ℕ) (x y z : ValType) → Declares types n (x ∷ y ∷ z ∷ []) → (slice_get types n ≡ Some x) × (slice_get types (n + 1) ≡ Some y) × (slice_get types (n + 1 + 1) ≡ Some z)
third types n x y z declares =
    let zeroth : n + 0 ≡ n = omega arith in
    let two : n + 2 ≡ n + 1 + 1 = omega arith in
    (subst (λ k. slice_get types k ≡ Some x) zeroth (declares 0 x refl), declares 1 y refl, subst (λ k. slice_get types k ≡ Some z) two (declares 2 z refl))

module _ (known : List Known) (next : ℕ) (low : AreBelow next known) (operator : Operator) (a b : Expression) (typed : IsTyped (arithmetic operator a b))
    (oa ob : Operand) (sa sb : Statement) (owna ownb : List ValType) (ca : Computes known a next oa sa owna) (cb : Computes known b (next + length owna) ob sb ownb) where
  abbrev pub m : ℕ
  m = next + length owna + length ownb

  module _ (f : Statement) (out limit : ℕ) (operates : Operates (λ v w. applied operator v (scale_of a) w (scale_of b)) oa.cell.value oa.most ob.cell.value ob.most (m + 1) out limit f) (low_out : out < m + 3) where
    abbrev pub result : Operand
    result = number_at out (joined_null m oa.cell.null ob.cell.null) (scale_after operator (scale_of a) (scale_of b)) limit

    abbrev pub tail : Statement
    tail = seq (join_block m oa.cell.null ob.cell.null) (unless_null (joined_null m oa.cell.null ob.cell.null) f)

    abbrev pub block : Statement
    block = seq sa (seq sb tail)

    abbrev pub own : List ValType
    own = owna ++ (ownb ++ (I32 ∷ I64 ∷ I64 ∷ []))

    runs : (pages fuel more : ℕ) (row : List Val) (s : LowState) → 1 + units (arithmetic operator a b) (at_row row) ≤ more → more ≤ fuel → AreHeld known row s → HasColumns (HoldsIn row) (arithmetic operator a b) →
        next + length own ≤ length s.locals →
        Comes pages fuel more (λ v t. Kept next s t × Holds result v t) (value_of (arithmetic operator a b) (at_row row)) block s
    runs pages fuel more row s enough within held columns room =
        let env : Environment = at_row row in
        let some : 1 ≤ more = omega (arith, enough) in
        let long = three_long owna ownb I32 I64 I64 in
        comes_then pages fuel more (λ v t. Kept next s t × Holds oa v t) (λ v t. Kept next s t × Holds result v t) (value_of a env) (λ x. value_of b env >>= (λ y. combined operator x (scale_of a) y (scale_of b))) sa
        (seq sb (tail)) s
        (ca.runs pages fuel more row s (omega (arith, enough)) within held columns.0 (omega (arith, room, long)))
        (λ x t is_x left.
        comes_then pages fuel more (λ v w. Kept (next + length owna) t w × Holds ob v w) (λ v t. Kept next s t × Holds result v t) (value_of b env) (λ y. combined operator x (scale_of a) y (scale_of b)) sb (tail) t
        (cb.runs pages fuel more row t (omega (arith, enough)) within (known_kept next s t row known left.0 low held) columns.1 (omega (arith, room, long, left.0.many)))
        (λ y w is_y right.
        let nx = number_of_typed a row x typed.0.0 typed.1.0.0 columns.0 is_x in
        let ny = number_of_typed b row y typed.0.1 typed.1.0.1 columns.1 is_y in
        comes_weaker pages fuel more (λ v v'. Kept m w v' × Holds result v v') (λ v v'. Kept next s v' × Holds result v v') (combined operator x (scale_of a) y (scale_of b)) (tail) w
        (λ v z is kept. (Kept-then next m s w z (omega arith) (Kept-then next (next + length owna) s t w (omega arith) left.0 right.0) kept.0, kept.1))
        (finishes pages fuel more some w m oa ob (below_more (next + length owna) m oa.cell (omega arith) ca.below) cb.below (omega (arith, room, long, left.0.many, right.0.many))
        (λ v v'. applied operator v (scale_of a) v' (scale_of b)) f out limit (scale_after operator (scale_of a) (scale_of b)) operates x y (combined operator x (scale_of a) y (scale_of b)) nx ny
        (combined_left operator x (scale_of a) y (scale_of b)) (combined_null operator x (scale_of a) y (scale_of b) nx)
        (λ v v' is_v is_v'. combined_numbers operator x (scale_of a) y (scale_of b) v v' is_v is_v')
        (value_kept (next + length owna) t w oa.cell x right.0 ca.below left.1.0, left.1.1) right.1)))

    pub arithmetic_computes : Computes known (arithmetic operator a b) next result block own
    arithmetic_computes = record {
      kind_is = refl;
      scale_is = refl;
      below =
          let long = three_long owna ownb I32 I64 I64 in
          let most : next + length own ≡ m + 2 + 1 = omega (arith, long) in (
            omega (arith, low_out, long),
            omega (arith, low_out, long),
            subst (λ k. IsBelowNull k (joined_null m oa.cell.null ob.cell.null)) (sym most)
                (joined_below m (m + 2) oa.cell.null ob.cell.null (omega arith) (below_more (next + length owna) m oa.cell (omega arith) ca.below).2 cb.below.2),
          );
      runs = runs;
      typed = λ types declared declares.
          let rest = declares_rest types next owna (ownb ++ (I32 ∷ I64 ∷ I64 ∷ [])) declares in
          let last = third types m I32 I64 I64 (declares_rest types (next + length owna) ownb (I32 ∷ I64 ∷ I64 ∷ []) rest) in
          let first = ca.typed types declared (declares_first types next owna (ownb ++ (I32 ∷ I64 ∷ I64 ∷ [])) declares) in
          let second = cb.typed types declared (declares_first types (next + length owna) ownb (I32 ∷ I64 ∷ I64 ∷ []) rest) in
          let joined = join_typed types m oa.cell.null ob.cell.null first.1.1 second.1.1 last.0 in
          let done = operates.typed types (operand_declared types oa a ca.kind_is typed.1.0.0 first.1) (operand_declared types ob b cb.kind_is typed.1.0.1 second.1) last.1 last.2 in
          ((first.0, (second.0, (joined.0, unless_typed types (joined_null m oa.cell.null ob.cell.null) f joined.1 done.0))), (done.1, joined.1));
    }

-- ---- one operand
pub one_long : (a : List ValType) (x : ValType) → length (a ++ x ∷ []) ≡ length a + 1
one_long a x = length-append a (x ∷ [])

pub first_declared : (types : List ValType) (n : ℕ) (x : ValType) → Declares types n (x ∷ []) → slice_get types n ≡ Some x
first_declared types n x declares =
    let zeroth : n + 0 ≡ n = omega arith in
    subst (λ k. slice_get types k ≡ Some x) zeroth (declares 0 x refl)

pub value_or_null : (known : List Known) (next : ℕ) → AreBelow next known → (e a : Expression) (g : Val → Result Val Code) (o result : Operand) (sa f : Statement) (owna : List ValType) →
    result.cell.null ≡ o.cell.null → result.kind ≡ kind_of e → result.scale ≡ scale_of e → result.cell.value ≤ next + length owna → result.cell.length ≤ next + length owna → (g val.Null ≡ Ok val.Null) →
    ((env : Environment) → (value_of e env ≡ (value_of a env >>= g)) × (units e env ≡ units a env)) → ((row : List Val) → HasColumns (HoldsIn row) e → HasColumns (HoldsIn row) a) →
    Computes known a next o sa owna →
    ((pages fuel more : ℕ) (row : List Val) (v : Val) (t : LowState) → 1 ≤ more → HasColumns (HoldsIn row) e → value_of a (at_row row) ≡ Ok v → (v ≡ val.Null → ⊥) → Holds o v t → next + length owna < length t.locals →
    Comes pages fuel more (λ w u. Kept (next + length owna) t u × Holds result w u) (g v) f t) →
    ((types : List ValType) → DeclaresValue types o → slice_get types (next + length owna) ≡ Some I64 → low.IsTyped types f × DeclaresKind types result.cell result.kind) →
    Computes known e next result (seq sa (unless_null o.cell.null f)) (owna ++ I64 ∷ [])
value_or_null known next low e a g o result sa f owna null_is kind_is scale_is low_value low_length at_null means columns ca does types_of = record {
  kind_is = kind_is;
  scale_is = scale_is;
  below =
      let long = one_long owna I64 in (
        omega (arith, long, low_value),
        omega (arith, long, low_length),
        subst (λ (n : Option ℕ). IsBelowNull (next + length (owna ++ I64 ∷ [])) n) (sym null_is) (below_more (next + length owna) (next + length (owna ++ I64 ∷ [])) o.cell (omega (arith, long)) ca.below).2,
      );
  runs = λ pages fuel more row s enough within held has room.
      let env : Environment = at_row row in
      let some : 1 ≤ more = omega (arith, enough) in
      let long = one_long owna I64 in
      let same = means env in
      subst (λ (r : Result Val Code). Comes pages fuel more (λ v t. Kept next s t × Holds result v t) r (seq sa (unless_null o.cell.null f)) s) (sym same.0)
      (comes_then pages fuel more (λ v t. Kept next s t × Holds o v t) (λ v t. Kept next s t × Holds result v t) (value_of a env) g sa (unless_null o.cell.null f) s
      (ca.runs pages fuel more row s (omega (arith, enough, same.1)) within held (columns row has) (omega (arith, room, long)))
      (λ v t is_v left. after pages fuel more row s v t some has is_v left (omega (arith, room, long, left.0.many))));
  typed = λ types declared declares.
      let first = ca.typed types declared (declares_first types next owna (I64 ∷ []) declares) in
      let mine = types_of types first.1 (first_declared types (next + length owna) I64 (declares_rest types next owna (I64 ∷ []) declares)) in
      ((first.0, unless_typed types o.cell.null f first.1.1 mine.0), (mine.1, subst (DeclaresNull types) (sym null_is) first.1.1));
}
  where
    further : (pages fuel more : ℕ) (s : LowState) (v : Val) (t : LowState) → Kept next s t → Comes pages fuel more (λ w u. Kept (next + length owna) t u × Holds result w u) (g v) f t →
        Comes pages fuel more (λ w u. Kept next s u × Holds result w u) (g v) f t
    further pages fuel more s v t kept h = comes_weaker pages fuel more (λ w u. Kept (next + length owna) t u × Holds result w u) (λ w u. Kept next s u × Holds result w u) (g v) f t
        (λ w u is left. (Kept-then next (next + length owna) s t u (omega arith) kept left.0, left.1)) h

    after : (pages fuel more : ℕ) (row : List Val) (s : LowState) (v : Val) (t : LowState) → 1 ≤ more → HasColumns (HoldsIn row) e → value_of a (at_row row) ≡ Ok v → Kept next s t × Holds o v t → next + length owna < length t.locals →
        Comes pages fuel more (λ w u. Kept next s u × Holds result w u) (g v) (unless_null o.cell.null f) t
    after pages fuel more row s val.Null t some has is_v left room =
        rw at_null (unless pages fuel more some (λ w u. Kept next s u × Holds result w u) (Ok val.Null) o.cell.null true f t left.1.0
        (λ there. comes_skip pages fuel more some (λ w u. Kept next s u × Holds result w u) val.Null t (left.0, (subst (SaysNull t) (sym null_is) left.1.0, tt))) (λ bad. absurd cc))
    after pages fuel more row s (val.Num n) t some has is_v left room =
        unless pages fuel more some (λ w u. Kept next s u × Holds result w u) (g (val.Num n)) o.cell.null false f t left.1.0.2 (λ bad. absurd cc)
        (λ there. further pages fuel more s (val.Num n) t left.0 (does pages fuel more row (val.Num n) t some has is_v (λ e. absurd cc) left.1 room))
    after pages fuel more row s (val.Date d) t some has is_v left room =
        unless pages fuel more some (λ w u. Kept next s u × Holds result w u) (g (val.Date d)) o.cell.null false f t left.1.0.1 (λ bad. absurd cc)
        (λ there. further pages fuel more s (val.Date d) t left.0 (does pages fuel more row (val.Date d) t some has is_v (λ e. absurd cc) left.1 room))
    after pages fuel more row s (val.Text x) t some has is_v left room =
        unless pages fuel more some (λ w u. Kept next s u × Holds result w u) (g (val.Text x)) o.cell.null false f t left.1.0.1 (λ bad. absurd cc)
        (λ there. further pages fuel more s (val.Text x) t left.0 (does pages fuel more row (val.Text x) t some has is_v (λ e. absurd cc) left.1 room))
