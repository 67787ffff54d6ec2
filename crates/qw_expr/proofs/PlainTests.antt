-- Conditions that need no block.
use Rattle.std.proofs.Common.{◌≡◌, ℕ, ◌+◌, ◌*◌, ◌≤◌, Bool, true, false, not, ◌&&◌, ◌||◌, List, [], length, Option, Some, None, IfSome, IfOk, Result, Ok, Err, refl, sym, ap, ◌∙◌, subst, arith}
use Rattle.qw_types.specs.Arithmetic.{◌>>=◌}
use Rattle.qw_types.specs.Truth.{conjunction, disjunction, negation}
use Rattle.qw_types.specs.declared.code.Code.{Code}
use Rattle.qw_types.specs.declared.truth.Truth.{Truth}
use Rattle.qw_types.specs.declared.truth.Truth.TheVariants.{True, False, Unknown}
use Rattle.qw_types.specs.declared.value.Val.{Val}
use Rattle.qw_scalar.specs.declared.comparison.Comparison.{Comparison}
use Rattle.qw_scalar.specs.Columns.{HaveColumns, HoldsIn}
use Rattle.qw_scalar.specs.Evaluation.{Environment, and_then, or_else, truth_if, truth_of, value_of, at_row}
use Rattle.qw_scalar.specs.Expression.{Expression, Condition, both, comparison, either, negation_of}
use Rattle.qw_scalar.specs.Typing.{AreTyped}
use Rattle.qw_scalar.specs.Units.{units_of}
use Rattle.qw_module.specs.declared.instruction.ValType.{ValType}
use Rattle.qw_module.specs.declared.instruction.ValType.TheVariants.{I32}
use Rattle.qw_module.specs.declared.instruction.Binary.TheVariants.{And, Or}
use Rattle.qw_low.specs.declared.cell.Cell.{Cell}
use Rattle.qw_low.specs.Syntax as low
use Rattle.qw_low.specs.State.{Number, LowState}
use Rattle.qw_low.specs.Meaning.{value, meaning}
use Rattle.qw_low.specs.Raising.{code_of, Kept}
use Rattle.qw_low.specs.Size.{size}
use Rattle.qw_low.specs.Typing.{HasType}
use Rattle.qw_low.proofs.Promises.{Ends-weaker}
use Rattle.qw_low.proofs.Results.{Kept-same, Comes, comes_skip}
use Rattle.qw_wide.specs.Relations.{relation_of}
use Rattle.qw_expr.specs.declared.emitter.Emitter.{Emitter}
use Rattle.qw_expr.specs.declared.operand.Operand.{Operand}
use Rattle.qw_expr.specs.declared.test.Test.{Test}
use Rattle.qw_expr.specs.declared.test.Test.TheVariants as test
use Rattle.qw_expr.specs.Bindings.{IsAmong, IsServed}
use Rattle.qw_expr.specs.Cells.{Holds}
use Rattle.qw_expr.specs.Computes.{Known}
use Rattle.qw_expr.specs.Emits.{Emits, free_of}
use Rattle.qw_expr.specs.Tests.{EmitsTest, IsTestBelow, tested, truth_word}
use Rattle.qw_expr.specs.Inner.Made.{MadeTruth, with_operand}
use Rattle.qw_expr.specs.Inner.Plain.{IsPlain, MadePlain}
use Rattle.qw_expr.specs.Inner.Tests.{is_one_relation}
use Rattle.qw_expr.proofs.Abbreviations.{First}
use Rattle.qw_expr.proofs.Emitted.{nil, free_after}
use Rattle.qw_expr.proofs.Nulls.{known_kept}
use Rattle.qw_expr.proofs.Related.{relates}
use Rattle.qw_expr.proofs.Shared.{below_of, held_of, declared_of, shared_decides}
use Rattle.qw_expr.proofs.Tests.{comes_made, emitted_below, served_after, truth_tests}
use Rattle.qw_expr.proofs.Trees.{described, includes_same}

-- what holds of an option's value, weakened
pub if_some : {A : Type 0} (P Q : A → Type 0) (o : Option A) → ((x : A) → P x → Q x) → IfSome o P → IfSome o Q
if_some P Q None more h = h
if_some P Q (Some x) more h = more x h

-- what two clauses say of a result, together
pub if_both : {A E : Type 0} (P Q R : A → Type 0) (r : Result A E) → IfOk r P → IfOk r Q → ((v : A) → P v → Q v → R v) → IfOk r R
if_both P Q R (Ok v) one other makes = makes v one other
if_both P Q R (Err e) one other makes = tt

-- ---- words of truths: unknown counts as false, on either side
joined_words : (s : LowState) (e f : low.Expression) (v w : Truth) → value s e ≡ Some (Number (truth_word v)) → value s f ≡ Some (Number (truth_word w)) →
    (value s (low.binop I32 And e f) ≡ Some (Number (truth_word (conjunction v w)))) × (value s (low.binop I32 Or e f) ≡ Some (Number (truth_word (disjunction v w))))
joined_words s e f True True one other = (rw (one, other) refl, rw (one, other) refl)
joined_words s e f True False one other = (rw (one, other) refl, rw (one, other) refl)
joined_words s e f True Unknown one other = (rw (one, other) refl, rw (one, other) refl)
joined_words s e f False True one other = (rw (one, other) refl, rw (one, other) refl)
joined_words s e f False False one other = (rw (one, other) refl, rw (one, other) refl)
joined_words s e f False Unknown one other = (rw (one, other) refl, rw (one, other) refl)
joined_words s e f Unknown True one other = (rw (one, other) refl, rw (one, other) refl)
joined_words s e f Unknown False one other = (rw (one, other) refl, rw (one, other) refl)
joined_words s e f Unknown Unknown one other = (rw (one, other) refl, rw (one, other) refl)

not_word : (s : LowState) (e : low.Expression) (g : Bool) → value s e ≡ Some (Number (truth_word (truth_if g))) → value s (low.is_zero I32 e) ≡ Some (Number (truth_word (truth_if (not g))))
not_word s e true one = rw one refl
not_word s e false one = rw one refl

both_true : (g h : Bool) → conjunction (truth_if g) (truth_if h) ≡ truth_if (g && h)
both_true true h = refl
both_true false h = refl

either_true : (g h : Bool) → disjunction (truth_if g) (truth_if h) ≡ truth_if (g || h)
either_true true h = refl
either_true false h = refl

same_disjunction : (g h : Bool) → disjunction (truth_if h) (truth_if g) ≡ disjunction (truth_if g) (truth_if h)
same_disjunction true true = refl
same_disjunction true false = refl
same_disjunction false true = refl
same_disjunction false false = refl

not_true : (g : Bool) → negation (truth_if g) ≡ truth_if (not g)
not_true true = refl
not_true false = refl

-- a right side that raises nothing, evaluated whatever the left one is
and_sure : (r q : Result Truth Code) (w : Truth) → q ≡ Ok w → (r >>= (λ t. and_then t q)) ≡ (r >>= (λ t. Ok (conjunction t w)))
and_sure (Ok True) q w is = rw is refl
and_sure (Ok False) q w is = refl
and_sure (Ok Unknown) q w is = rw is refl
and_sure (Err code) q w is = refl

or_sure : (r q : Result Truth Code) (w : Truth) → q ≡ Ok w → (r >>= (λ t. or_else t q)) ≡ (r >>= (λ t. Ok (disjunction t w)))
or_sure (Ok True) q w is = refl
or_sure (Ok False) q w is = rw is refl
or_sure (Ok Unknown) q w is = rw is refl
or_sure (Err code) q w is = refl

same_Ok : (v w : Truth) → (let r : Result Truth Code = Ok v in r) ≡ Ok w → v ≡ w
same_Ok v w is = cc

not_both : (w : Truth) (code : Code) (q : Result Truth Code) → q ≡ Ok w → q ≡ Err code → ⊥
not_both w code q one other = no_Ok w code (sym one ∙ other)
  where
    no_Ok : (w : Truth) (code : Code) → (let r : Result Truth Code = Ok w in r) ≡ Err code → ⊥
    no_Ok w code is = absurd cc

-- where a value is left, a result that is known then
comes_as : (pages fuel more : ℕ) (P : Val → LowState → Type 0) (Q : Truth → LowState → Type 0) (r : Result Val Code) (q : Result Truth Code) (a : low.Statement) (s : LowState) → ((code : Code) → r ≡ Err code → q ≡ Err code) →
    ((v : Val) (t : LowState) → r ≡ Ok v → P v t → (w : Truth) × (q ≡ Ok w) × Q w t) → Comes pages fuel more P r a s → Comes pages fuel more Q q a s
comes_as pages fuel more P Q (Ok v) q a s needs change h = at q refl
  where
    told : (w : Truth) → q ≡ Ok w → (t : LowState) → P v t → Q w t
    told w is t p =
        let made = change v t refl p in
        subst (λ (x : Truth). Q x t) (same_Ok made.0 w (sym made.1 ∙ is)) made.2

    at : (z : Result Truth Code) → q ≡ z → Comes pages fuel more Q z a s
    at (Ok w) is = Ends-weaker (size a * more) (size a * more) (P v) (Q w) (λ t. ⊥) (λ t. ⊥) (λ code. ⊥) (λ code. ⊥) (meaning pages fuel a s) (omega arith) (λ t p. told w is t p) (λ t x. x) (λ code x. x) h
    at (Err code) is =
        Ends-weaker (size a * more) (size a * more) (P v) (λ t. ⊥) (λ t. ⊥) (λ t. ⊥) (λ raised. ⊥) (λ raised. raised ≡ code_of code) (meaning pages fuel a s) (omega arith)
        (λ t p. let made = change v t refl p in not_both made.0 code q made.1 is) (λ t x. x) (λ raised x. absurd x) h
comes_as pages fuel more P Q (Err code) q a s needs change h = subst (λ (z : Result Truth Code). Comes pages fuel more Q z a s) (sym (needs code refl)) h

-- ---- tests below a greater local
pub test_below_more : (m n : ℕ) (t : Test) → m ≤ n → IsTestBelow m t → IsTestBelow n t
test_below_more m n (test.Local x) le low = omega (arith, low)
test_below_more m n (test.Zero x) le low = omega (arith, low)
test_below_more m n (test.Related r x y) le low = (omega (arith, low.0), omega (arith, low.1))
test_below_more m n (test.Not' _ t) le low = test_below_more m n t le low
test_below_more m n (test.Both' _ t _ u) le low = (test_below_more m n t le low.0, test_below_more m n u le low.1)
test_below_more m n (test.Either' _ t _ u) le low = (test_below_more m n t le low.0, test_below_more m n u le low.1)

-- ---- plain conditions
pub related_plain : (known : List Known) (next : ℕ) (o : Comparison) (a b : Expression) (left right : Operand) → IsServed next known → AreTyped (comparison o a b) → is_one_relation left right ≡ true → IsAmong (record { expression = a; operand = left }) known →
    IsAmong (record { expression = b; operand = right }) known → IsPlain known next (comparison o a b) (test.Related (relation_of o) left.cell.value right.cell.value)
related_plain known next o a b left right served typed one among_a among_b =
    let ka : Known = record { expression = a; operand = left } in
    let kb : Known = record { expression = b; operand = right } in
    let is_a = described next known ka served among_a in
    let is_b = described next known kb served among_b in
    let related = relates o a b left right typed one is_a.0 is_b.0 is_a.1 is_b.1 in
    record {
      below = ((below_of next known ka served.0 among_a).0, (below_of next known kb served.0 among_b).0);
      tells = λ row s held columns.
          let x = held_of known row s ka held among_a in
          let y = held_of known row s kb held among_b in
          let told = related.tells row x.0 y.0 s columns x.1 y.1 x.2 y.2 in
          (told.0, rw (x.1, y.1) (ap (λ (v : Truth). let r : Result Truth Code = Ok v in r) told.1), told.2);
      typed = λ types declared. (related.left_typed types (declared_of types known ka declared among_a), related.right_typed types (declared_of types known kb declared among_b), refl);
    }

-- what a condition makes of two others, of which the right one raises nothing
record Joins (c d e : Condition) (joins : Truth → Truth → Truth) : Type 0 where
  pub sure : (env : Environment) (w : Truth) → truth_of d env ≡ Ok w → truth_of e env ≡ (truth_of c env >>= (λ v. Ok (joins v w)))
  pub weighs : (env : Environment) → units_of c env ≤ units_of e env
  pub columns : (row : List Val) → HaveColumns (HoldsIn row) e → HaveColumns (HoldsIn row) c × HaveColumns (HoldsIn row) d

both_joins : (c d : Condition) → Joins c d (both c d) conjunction
both_joins c d = record { sure = λ env w sure. and_sure (truth_of c env) (truth_of d env) w sure; weighs = λ env. omega arith; columns = λ row has. has }

either_joins : (c d : Condition) → Joins c d (either c d) disjunction
either_joins c d = record { sure = λ env w sure. or_sure (truth_of c env) (truth_of d env) w sure; weighs = λ env. omega arith; columns = λ row has. has }

module _ (known : List Known) (next : ℕ) (c d : Condition) (t u : Test) (p : IsPlain known next c t) (q : IsPlain known next d u) (out : Test) where
  joined_plain : (e : Condition) (whole : low.Expression) (joins : Truth → Truth → Truth) (joined : Bool → Bool → Bool) → Joins c d e joins → ((g h : Bool) → joins (truth_if g) (truth_if h) ≡ truth_if (joined g h)) →
      ((s : LowState) (g h : Bool) → value s (tested t) ≡ Some (Number (truth_word (truth_if g))) → value s (tested u) ≡ Some (Number (truth_word (truth_if h))) → value s whole ≡ Some (Number (truth_word (joins (truth_if g) (truth_if h))))) →
      ((types : List ValType) → HasType types (tested t) I32 → HasType types (tested u) I32 → HasType types whole I32) → tested out ≡ whole → IsTestBelow next out → IsPlain known next e out
  joined_plain e whole joins joined by same word typed is under = record {
    below = under;
    tells = λ row s held columns.
        let env : Environment = at_row row in
        let one = p.tells row s held (by.columns row columns).0 in
        let other = q.tells row s held (by.columns row columns).1 in (
          joined one.0 other.0,
          by.sure env (truth_if other.0) other.1 ∙ ap (λ (r : Result Truth Code). r >>= (λ v. Ok (joins v (truth_if other.0)))) one.1 ∙ ap (λ (v : Truth). let r : Result Truth Code = Ok v in r) (same one.0 other.0),
          ap (value s) is ∙ word s one.0 other.0 one.2 other.2 ∙ ap (λ (v : Truth). Some (Number (truth_word v))) (same one.0 other.0),
        );
    typed = λ types declared. subst (λ (x : low.Expression). HasType types x I32) (sym is) (typed types (p.typed types declared) (q.typed types declared));
  }

  pub both_plain : tested out ≡ low.binop I32 And (tested t) (tested u) → (IsTestBelow next t → IsTestBelow next u → IsTestBelow next out) → IsPlain known next (both c d) out
  both_plain is below =
      joined_plain (both c d) (low.binop I32 And (tested t) (tested u)) conjunction (λ g h. g && h) (both_joins c d) both_true (λ s g h one other. (joined_words s (tested t) (tested u) (truth_if g) (truth_if h) one other).0)
      (λ types one other. (one, other, refl)) is (below p.below q.below)

  pub either_plain : tested out ≡ low.binop I32 Or (tested t) (tested u) → (IsTestBelow next t → IsTestBelow next u → IsTestBelow next out) → IsPlain known next (either c d) out
  either_plain is below =
      joined_plain (either c d) (low.binop I32 Or (tested t) (tested u)) disjunction (λ g h. g || h) (either_joins c d) either_true (λ s g h one other. (joined_words s (tested t) (tested u) (truth_if g) (truth_if h) one other).1)
      (λ types one other. (one, other, refl)) is (below p.below q.below)

  pub swapped_plain : tested out ≡ low.binop I32 Or (tested u) (tested t) → (IsTestBelow next u → IsTestBelow next t → IsTestBelow next out) → IsPlain known next (either c d) out
  swapped_plain is below =
      joined_plain (either c d) (low.binop I32 Or (tested u) (tested t)) disjunction (λ g h. g || h) (either_joins c d) either_true
      (λ s g h one other. (joined_words s (tested u) (tested t) (truth_if h) (truth_if g) other one).1 ∙ ap (λ (v : Truth). Some (Number (truth_word v))) (same_disjunction g h))
      (λ types one other. (other, one, refl)) is (below q.below p.below)

pub not_plain : (known : List Known) (next : ℕ) (c : Condition) (t out : Test) → IsPlain known next c t → tested out ≡ low.is_zero I32 (tested t) → (IsTestBelow next t → IsTestBelow next out) → IsPlain known next (negation_of c) out
not_plain known next c t out p is below = record {
  below = below p.below;
  tells = λ row s held columns.
      let one = p.tells row s held columns in
      (not one.0, rw (one.1) (ap (λ (v : Truth). let r : Result Truth Code = Ok v in r) (not_true one.0)), ap (value s) is ∙ not_word s (tested t) one.0 one.2);
  typed = λ types declared. subst (λ (e : low.Expression). HasType types e I32) (sym is) (p.typed types declared, refl);
}

-- an operand that is among what is known anyway
pub known_plain : (known : List Known) (x : Expression) (ox : Operand) (c : Condition) (out : Test) → IsAmong (record { expression = x; operand = ox }) known → MadePlain (with_operand x ox known) c out → MadePlain known c out
known_plain known x ox c out among made next served =
    let k : Known = record { expression = x; operand = ox } in
    let is = described next known k served among in
    let p = made next ((below_of next known k served.0 among, served.0), (is, served.1)) in
    record {
      below = p.below;
      tells = λ row s held columns. p.tells row s (held_of known row s k held among, held) columns;
      typed = λ types declared. p.typed types (declared_of types known k declared among, declared);
    }

-- ---- as tests that are emitted
-- an operand that was emitted is known from then on
pub operand_served : (known : List Known) (x : Expression) (ox : Operand) (start mid : Emitter) → IsServed (free_of start) known → Emits known x start mid ox → IsServed (free_of mid) (with_operand x ox known)
operand_served known x ox start mid served ex =
    let rest = served_after known x start mid ox ex served in
    ((emitted_below known x start mid ox ex, rest.0), ((ex.computes.kind_is, ex.computes.scale_is), rest.1))

-- behind the operand, a test that is plain where it is known
pub shared_tests : (known : List Known) (x : Expression) (ox : Operand) (c : Condition) (start mid : Emitter) (out : Test) → IsServed (free_of start) known → Emits known x start mid ox → MadePlain (with_operand x ox known) c out → First x c → EmitsTest known c start mid out
shared_tests known x ox c start mid out served ex made first =
    let p = made (free_of mid) (operand_served known x ox start mid served ex) in
    record {
      first_is = ex.first_is;
      statement = ex.statement;
      own = ex.own;
      code_is = ex.code_is;
      own_is = ex.own_is;
      decides = record {
        below = subst (λ (n : ℕ). IsTestBelow n out) (free_after known x start mid ox ex) p.below;
        runs = λ pages fuel more row s enough within held has room.
            let env : Environment = at_row row in
            let Q : Truth → LowState → Type 0 = λ v t. Kept (free_of start) s t × (value t (tested out) ≡ Some (Number (truth_word v))) in
            let come = ex.computes.runs pages fuel more row s (omega (arith, enough, first.weighs env)) within held (first.columns row has) room in
            comes_as pages fuel more (λ v t. Kept (free_of start) s t × Holds ox v t) Q (value_of x env) (truth_of c env) ex.statement s (first.raises env)
            (λ v t is_v left.
            let told = p.tells row t ((v, is_v, left.1), known_kept (free_of start) s t row known left.0 served.0 held) has in
            (truth_if told.0, told.1, (left.0, told.2))) come;
        typed = λ types declared declares.
            let one = ex.computes.typed types declared declares in
            (one.0, p.typed types (one.1, declared));
      };
    }

-- and a truth that was decided where it is known
pub handed_tests : (known : List Known) (x : Expression) (ox : Operand) (c : Condition) (m : ℕ) (start mid new : Emitter) (t : Cell) → IsServed (free_of start) known → Emits known x start mid ox → MadeTruth (with_operand x ox known) c m mid new t → First x c →
    EmitsTest known c start new (test.Local t.value)
handed_tests known x ox c m start mid new t served ex mt first =
    let low = (operand_served known x ox start mid served ex).0 in
    truth_tests known c start new t (shared_decides known x c start mid new ox t served.0 ex (mt.emits (with_operand x ox known) (includes_same (with_operand x ox known)) low) first.raises first.weighs first.columns)

-- alone
pub plain_tests : (known : List Known) (c : Condition) (now : Emitter) (out : Test) → IsServed (free_of now) known → MadePlain known c out → EmitsTest known c now now out
plain_tests known c now out served made =
    let next : ℕ = free_of now in
    let p = made next served in
    record {
      first_is = refl;
      statement = low.skip;
      own = [];
      code_is = sym (nil now.block.code.items);
      own_is = sym (nil now.own.items);
      decides = record {
        below = test_below_more next (next + 0) out (omega arith) p.below;
        runs = λ pages fuel more row s enough within held has room.
            let Q : Truth → LowState → Type 0 = λ v t. Kept next s t × (value t (tested out) ≡ Some (Number (truth_word v))) in
            let told = p.tells row s held has in
            subst (λ (r : Result Truth Code). Comes pages fuel more Q r low.skip s) (sym told.1) (comes_skip pages fuel more (omega (arith, enough)) Q (truth_if told.0) s (Kept-same next s, told.2));
        typed = λ types declared declares. (tt, p.typed types declared);
      };
    }

pub not_tests : (known : List Known) (c : Condition) (now : Emitter) (t out : Test) → IsServed (free_of now) known → MadePlain known c t → tested out ≡ low.is_zero I32 (tested t) → ((n : ℕ) → IsTestBelow n t → IsTestBelow n out) → EmitsTest known (negation_of c) now now out
not_tests known c now t out served made is below = plain_tests known (negation_of c) now out served (λ next at. not_plain known next c t out (made next at) is (below next))

-- beside a left side that was emitted
module _ (known : List Known) (c d : Condition) (start now : Emitter) (t u : Test) (served : IsServed (free_of start) known) (ec : EmitsTest known c start now t) (made : MadePlain known d u) (out : Test)
    (e : Condition) (whole : low.Expression) (joins : Truth → Truth → Truth) (by : Joins c d e joins) (below : (n : ℕ) → IsTestBelow n t → IsTestBelow n u → IsTestBelow n out) (is : tested out ≡ whole)
    (word : (s : LowState) (v w : Truth) → value s (tested t) ≡ Some (Number (truth_word v)) → value s (tested u) ≡ Some (Number (truth_word w)) → value s whole ≡ Some (Number (truth_word (joins v w))))
    (typed : (types : List ValType) → HasType types (tested t) I32 → HasType types (tested u) I32 → HasType types whole I32) where
  joined_tests : EmitsTest known e start now out
  joined_tests =
      let next : ℕ = free_of start in
      let p = made next served in
      record {
        first_is = ec.first_is;
        statement = ec.statement;
        own = ec.own;
        code_is = ec.code_is;
        own_is = ec.own_is;
        decides = record {
          below = below (next + length ec.own) ec.decides.below (test_below_more next (next + length ec.own) u (omega arith) p.below);
          runs = λ pages fuel more row s enough within held has room.
              let env : Environment = at_row row in
              let has_both = by.columns row has in
              let Q : Truth → LowState → Type 0 = λ v t. Kept next s t × (value t (tested out) ≡ Some (Number (truth_word v))) in
              let here = p.tells row s held has_both.1 in
              let come = ec.decides.runs pages fuel more row s (omega (arith, enough, by.weighs env)) within held has_both.0 room in
              subst (λ (r : Result Truth Code). Comes pages fuel more Q r ec.statement s) (sym (by.sure env (truth_if here.0) here.1))
              (comes_made pages fuel more (λ v w. Kept next s w × (value w (tested t) ≡ Some (Number (truth_word v)))) Q (truth_of c env) (λ v. joins v (truth_if here.0)) ec.statement s
              (λ v w is_v left.
              let there = p.tells row w (known_kept next s w row known left.0 served.0 held) has_both.1 in
              let same : truth_if there.0 ≡ truth_if here.0 = same_Ok (truth_if there.0) (truth_if here.0) (sym there.1 ∙ here.1) in
              (left.0, ap (value w) is ∙ word w v (truth_if here.0) left.1 (there.2 ∙ ap (λ (x : Truth). Some (Number (truth_word x))) same))) come);
          typed = λ types declared declares.
              let one = ec.decides.typed types declared declares in
              (one.0, subst (λ (x : low.Expression). HasType types x I32) (sym is) (typed types one.1 (p.typed types declared)));
        };
      }

pub both_tests : (known : List Known) (c d : Condition) (start now : Emitter) (t u out : Test) → IsServed (free_of start) known → EmitsTest known c start now t → MadePlain known d u → ((n : ℕ) → IsTestBelow n t → IsTestBelow n u → IsTestBelow n out) →
    tested out ≡ low.binop I32 And (tested t) (tested u) → EmitsTest known (both c d) start now out
both_tests known c d start now t u out served ec made below is =
    joined_tests known c d start now t u served ec made out (both c d) (low.binop I32 And (tested t) (tested u)) conjunction (both_joins c d) below is (λ s v w one other. (joined_words s (tested t) (tested u) v w one other).0) (λ types one other. (one, other, refl))

pub either_tests : (known : List Known) (c d : Condition) (start now : Emitter) (t u out : Test) → IsServed (free_of start) known → EmitsTest known c start now t → MadePlain known d u → ((n : ℕ) → IsTestBelow n t → IsTestBelow n u → IsTestBelow n out) →
    tested out ≡ low.binop I32 Or (tested t) (tested u) → EmitsTest known (either c d) start now out
either_tests known c d start now t u out served ec made below is =
    joined_tests known c d start now t u served ec made out (either c d) (low.binop I32 Or (tested t) (tested u)) disjunction (either_joins c d) below is (λ s v w one other. (joined_words s (tested t) (tested u) v w one other).1) (λ types one other. (one, other, refl))
