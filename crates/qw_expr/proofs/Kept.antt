-- BETWEEN and IN of columns and literals, which are unknown where their operand is null.
use Rattle.std.proofs.Common.{◌≡◌, ℕ, false, List, [], ◌∷◌, ◌++◌, Result, Ok, refl, sym, subst}
use Rattle.qw_types.specs.Arithmetic.{◌>>=◌}
use Rattle.qw_types.specs.declared.code.Code.{Code}
use Rattle.qw_types.specs.declared.truth.Truth.{Truth}
use Rattle.qw_types.specs.declared.truth.Truth.TheVariants.{Unknown}
use Rattle.qw_types.specs.declared.value.Val.{Val}
use Rattle.qw_types.specs.declared.value.Val.TheVariants as val
use Rattle.qw_scalar.specs.declared.comparison.Comparison.{Comparison}
use Rattle.qw_scalar.specs.declared.comparison.Comparison.TheVariants.{Equal, GreaterOrEqual, LessOrEqual}
use Rattle.qw_scalar.specs.Evaluation.{and_then, or_else, truth_of, value_of, at_row}
use Rattle.qw_scalar.specs.Expression.{Expression, Expressions, last, more, among, between, comparison, scale_of}
use Rattle.qw_low.specs.State.{LowState}
use Rattle.qw_expr.specs.declared.known.Binding.{Binding}
use Rattle.qw_expr.specs.Bindings.{IsAmong, TakesKnown, known_of, named}
use Rattle.qw_expr.specs.Computes.{Known, AreHeld}
use Rattle.qw_expr.specs.Inner.Guards.{AreKept, AreLeaves, Keeps, Nulled, Strict, Tells}
use Rattle.qw_expr.proofs.Abbreviations.{among_first}
use Rattle.qw_expr.proofs.Guards.{compared_is}
use Rattle.qw_expr.proofs.Leaves.{are_two, left_in, right_in, takes_leaf, takes_more, tells_two}
use Rattle.qw_expr.proofs.Shared.{below_of, declared_of, held_of}
use Rattle.qw_expr.proofs.Trees.{described}
use Rattle.qw_expr.proofs.Decisions.{compared_left, compared_right}

-- ---- one that is kept
module _ (known : List Known) (e : Expression) (leaves : List Binding) (nulls : List ℕ) (kept : Keeps known e leaves nulls) where
  abbrev own : List Binding
  own = kept.leaf ∷ []

  at_name : IsAmong (record { expression = named kept.leaf.leaf; operand = kept.leaf.operand }) known
  at_name = subst (λ x. IsAmong (record { expression = x; operand = kept.leaf.operand }) known) (sym kept.name_is) kept.among

  are_own : AreLeaves known own []
  are_own =
      let k : Known = record { expression = named kept.leaf.leaf; operand = kept.leaf.operand } in
      record {
        served = λ n served. ((below_of n known k served.0 at_name, tt), (described n known k served at_name, tt));
        declared = λ types declared. (declared_of types known k declared at_name, tt);
        words = λ types declared. tt;
      }

  pub are_kept : AreLeaves known leaves nulls
  are_kept = subst (λ ns. AreLeaves known leaves ns) (sym kept.nulls_is) (subst (λ ls. AreLeaves known ls []) (sym kept.leaves_is) are_own)

  pub takes_kept : TakesKnown (known_of leaves) e
  takes_kept = subst (λ ls. TakesKnown (known_of ls) e) (sym kept.leaves_is) (subst (λ x. TakesKnown (known_of own) x) kept.name_is (takes_leaf kept.leaf.leaf kept.leaf.operand))

  pub value_kept : (row : List Val) (s : LowState) → AreHeld known row s → (v : Val) × (value_of e (at_row row) ≡ Ok v)
  value_kept row s held =
      let found = held_of known row s (record { expression = e; operand = kept.leaf.operand }) held kept.among in
      (found.0, found.1)

  pub tells_kept : (row : List Val) (s : LowState) → AreHeld known row s → Tells leaves nulls row s ⊥
  tells_kept row s held =
      let found = held_of known row s (record { expression = named kept.leaf.leaf; operand = kept.leaf.operand }) held at_name in
      let told : Tells own [] row s ⊥ = (false, refl, (λ g. absurd cc), (λ g. (found, tt))) in
      subst (λ ns. Tells leaves ns row s ⊥) (sym kept.nulls_is) (subst (λ ls. Tells ls [] row s ⊥) (sym kept.leaves_is) told)

-- ---- BETWEEN
then_unknown : (r q : Result Truth Code) → r ≡ Ok Unknown → q ≡ Ok Unknown → (r >>= (λ t. and_then t q)) ≡ Ok Unknown
then_unknown r q one other = rw (one, other) refl

else_unknown : (r q : Result Truth Code) → r ≡ Ok Unknown → q ≡ Ok Unknown → (r >>= (λ t. or_else t q)) ≡ Ok Unknown
else_unknown r q one other = rw (one, other) refl

null_compared : (o : Comparison) (x a : Expression) (row : List Val) (v : Val) → value_of x (at_row row) ≡ Ok val.Null → value_of a (at_row row) ≡ Ok v → truth_of (comparison o x a) (at_row row) ≡ Ok Unknown
null_compared o x a row v is_x is_a = compared_is o x a row val.Null v is_x is_a (compared_left o val.Null (scale_of x) v (scale_of a) refl)

pub between_strict : (known : List Known) (x a b : Expression) (lx la lb : List Binding) (nx na nb : List ℕ) → Nulled known x lx nx → Keeps known a la na → Keeps known b lb nb →
    Strict known (between x a b) (lx ++ (la ++ lb)) (nx ++ (na ++ nb))
between_strict known x a b lx la lb nx na nb nulled one other =
    let all : List Known = known_of (lx ++ (la ++ lb)) in
    let takes_x : TakesKnown all x = takes_more (known_of lx) all x (left_in lx (la ++ lb)) nulled.takes in
    let takes_a : TakesKnown all a = takes_more (known_of la) all a (λ k among. right_in lx (la ++ lb) k (left_in la lb k among)) (takes_kept known a la na one) in
    let takes_b : TakesKnown all b = takes_more (known_of lb) all b (λ k among. right_in lx (la ++ lb) k (right_in la lb k among)) (takes_kept known b lb nb other) in
    record {
      are = are_two known lx (la ++ lb) nx (na ++ nb) nulled.are (are_two known la lb na nb (are_kept known a la na one) (are_kept known b lb nb other));
      takes = ((takes_x, takes_a), (takes_x, takes_b));
      tells = λ row s held columns.
          let first = nulled.tells row s held columns.0.0 in
          let least = value_kept known a la na one row s held in
          let greatest = value_kept known b lb nb other row s held in
          tells_two lx (la ++ lb) nx (na ++ nb) row s (value_of x (at_row row) ≡ Ok val.Null) ⊥ (truth_of (between x a b) (at_row row) ≡ Ok Unknown)
          (λ is_x.
          then_unknown (truth_of (comparison GreaterOrEqual x a) (at_row row)) (truth_of (comparison LessOrEqual x b) (at_row row)) (null_compared GreaterOrEqual x a row least.0 is_x least.1) (null_compared LessOrEqual x b row greatest.0 is_x greatest.1))
          (λ no. absurd no) first
          (tells_two la lb na nb row s ⊥ ⊥ ⊥ (λ no. no) (λ no. no) (tells_kept known a la na one row s held) (tells_kept known b lb nb other row s held));
    }

-- ---- IN
pub one_kept : (known : List Known) (v : Expression) (leaves : List Binding) (nulls : List ℕ) → Keeps known v leaves nulls → AreKept known (last v) leaves nulls
one_kept known v leaves nulls kept = record {
  are = are_kept known v leaves nulls kept;
  take = λ some x all takes. (takes, takes_more (known_of leaves) some v all (takes_kept known v leaves nulls kept));
  tell = tells_kept known v leaves nulls kept;
  unknown = λ row s x held null.
      let found = value_kept known v leaves nulls kept row s held in
      null_compared Equal x v row found.0 null found.1;
}

pub more_kept : (known : List Known) (v : Expression) (vs : Expressions) (la lb : List Binding) (na nb : List ℕ) → Keeps known v la na → AreKept known vs lb nb → AreKept known (more v vs) (la ++ lb) (na ++ nb)
more_kept known v vs la lb na nb kept rest = record {
  are = are_two known la lb na nb (are_kept known v la na kept) rest.are;
  take = λ some x all takes. (
    (takes, takes_more (known_of la) some v (λ k among. all k (left_in la lb k among)) (takes_kept known v la na kept)),
    rest.take some x (λ k among. all k (right_in la lb k among)) takes,
  );
  tell = λ row s held. tells_two la lb na nb row s ⊥ ⊥ ⊥ (λ no. no) (λ no. no) (tells_kept known v la na kept row s held) (rest.tell row s held);
  unknown = λ row s x held null.
      let found = value_kept known v la na kept row s held in
      else_unknown (truth_of (comparison Equal x v) (at_row row)) (truth_of (among x vs) (at_row row)) (null_compared Equal x v row found.0 null found.1) (rest.unknown row s x held null);
}

pub among_strict : (known : List Known) (x : Expression) (values : Expressions) (lx lv : List Binding) (nx nv : List ℕ) → Nulled known x lx nx → AreKept known values lv nv →
    Strict known (among x values) (lx ++ lv) (nx ++ nv)
among_strict known x values lx lv nx nv nulled kept = record {
  are = are_two known lx lv nx nv nulled.are kept.are;
  takes = kept.take (known_of (lx ++ lv)) x (right_in lx lv) (takes_more (known_of lx) (known_of (lx ++ lv)) x (left_in lx lv) nulled.takes);
  tells = λ row s held columns.
      let first = nulled.tells row s held ((among_first x values).columns row columns) in
      tells_two lx lv nx nv row s (value_of x (at_row row) ≡ Ok val.Null) ⊥ (truth_of (among x values) (at_row row) ≡ Ok Unknown)
      (λ null. kept.unknown row s x held null) (λ no. absurd no) first (kept.tell row s held);
}

-- ---- comparisons
compared_null : (o : Comparison) (a x : Expression) (row : List Val) (v : Val) → value_of x (at_row row) ≡ Ok val.Null → value_of a (at_row row) ≡ Ok v → truth_of (comparison o a x) (at_row row) ≡ Ok Unknown
compared_null o a x row v is_x is_a = compared_is o a x row v val.Null is_a is_x (compared_right o v (scale_of a) val.Null (scale_of x) refl)

pub left_strict : (known : List Known) (o : Comparison) (x a : Expression) (lx la : List Binding) (nx na : List ℕ) → Nulled known x lx nx → Keeps known a la na → Strict known (comparison o x a) (lx ++ la) (nx ++ na)
left_strict known o x a lx la nx na nulled kept = record {
  are = are_two known lx la nx na nulled.are (are_kept known a la na kept);
  takes = (takes_more (known_of lx) (known_of (lx ++ la)) x (left_in lx la) nulled.takes, takes_more (known_of la) (known_of (lx ++ la)) a (right_in lx la) (takes_kept known a la na kept));
  tells = λ row s held columns.
      let found = value_kept known a la na kept row s held in
      tells_two lx la nx na row s (value_of x (at_row row) ≡ Ok val.Null) ⊥ (truth_of (comparison o x a) (at_row row) ≡ Ok Unknown)
      (λ null. null_compared o x a row found.0 null found.1) (λ no. absurd no) (nulled.tells row s held columns.0) (tells_kept known a la na kept row s held);
}

pub right_strict : (known : List Known) (o : Comparison) (x a : Expression) (lx la : List Binding) (nx na : List ℕ) → Nulled known x lx nx → Keeps known a la na → Strict known (comparison o a x) (lx ++ la) (nx ++ na)
right_strict known o x a lx la nx na nulled kept = record {
  are = are_two known lx la nx na nulled.are (are_kept known a la na kept);
  takes = (takes_more (known_of la) (known_of (lx ++ la)) a (right_in lx la) (takes_kept known a la na kept), takes_more (known_of lx) (known_of (lx ++ la)) x (left_in lx la) nulled.takes);
  tells = λ row s held columns.
      let found = value_kept known a la na kept row s held in
      tells_two lx la nx na row s (value_of x (at_row row) ≡ Ok val.Null) ⊥ (truth_of (comparison o a x) (at_row row) ≡ Ok Unknown)
      (λ null. compared_null o a x row found.0 null found.1) (λ no. absurd no) (nulled.tells row s held columns.1) (tells_kept known a la na kept row s held);
}
