-- What is known, and what is evaluated once and then known.
use Rattle.std.proofs.Common.{◌≡◌, ℕ, ◌+◌, ◌≤◌, List, [], ◌∷◌, ◌++◌, length, length-append, Result, Ok, Err, refl, sym, ◌∙◌, subst, inl, inr, arith}
use Rattle.qw_types.specs.Arithmetic.{◌>>=◌}
use Rattle.qw_types.specs.declared.code.Code.{Code}
use Rattle.qw_types.specs.declared.value.Val.{Val}
use Rattle.qw_scalar.specs.Columns.{HasColumns, HaveColumns, HoldsIn}
use Rattle.qw_scalar.specs.Evaluation.{Environment, truth_of, value_of, at_row}
use Rattle.qw_scalar.specs.Expression.{Expression, Condition, scale_of}
use Rattle.qw_scalar.specs.Typing.{kind_of}
use Rattle.qw_module.specs.declared.instruction.ValType.{ValType}
use Rattle.qw_low.specs.declared.cell.Cell.{Cell}
use Rattle.qw_low.specs.Syntax.{Statement, skip, seq}
use Rattle.qw_low.specs.State.{LowState}
use Rattle.qw_low.specs.Raising.{Kept}
use Rattle.qw_low.specs.Steps.{steps_of}
use Rattle.qw_low.proofs.Appended.{two}
use Rattle.qw_low.proofs.Results.{Kept-same, Kept-then, Comes, comes_weaker, comes_then, comes_skip}
use Rattle.qw_expr.specs.declared.emitter.Emitter.{Emitter}
use Rattle.qw_expr.specs.declared.operand.Operand.{Operand}
use Rattle.qw_expr.specs.Bindings.{IsAmong}
use Rattle.qw_expr.specs.Cells.{Holds, HoldsTruth, IsBelow, DeclaresValue}
use Rattle.qw_scalar.specs.Units.{units, units_of}
use Rattle.qw_expr.specs.Computes.{Known, AreHeld, AreBelow, AreDeclared, Computes, Decides}
use Rattle.qw_expr.specs.Emits.{Emits, EmitsTruth, free_of}
use Rattle.qw_expr.proofs.Binary.{declares_first, declares_rest}
use Rattle.qw_expr.proofs.Emitted.{nil, free_after}
use Rattle.qw_expr.proofs.Nulls.{below_more, known_kept}

-- ---- what is known needs no block
pub below_of : (n : ℕ) (known : List Known) (k : Known) → AreBelow n known → IsAmong k known → IsBelow n k.operand.cell
below_of n [] k all among = absurd among
below_of n (first ∷ known) k all (inl same) = subst (λ (x : Known). IsBelow n x.operand.cell) (sym same) (all.0)
below_of n (first ∷ known) k all (inr among) = below_of n known k all.1 among

pub held_of : (known : List Known) (row : List Val) (s : LowState) (k : Known) → AreHeld known row s → IsAmong k known → (v : Val) × (value_of k.expression (at_row row) ≡ Ok v) × Holds k.operand v s
held_of [] row s k all among = absurd among
held_of (first ∷ known) row s k all (inl same) = subst (λ (x : Known). (v : Val) × (value_of x.expression (at_row row) ≡ Ok v) × Holds x.operand v s) (sym same) (all.0)
held_of (first ∷ known) row s k all (inr among) = held_of known row s k all.1 among

pub declared_of : (types : List ValType) (known : List Known) (k : Known) → AreDeclared types known → IsAmong k known → DeclaresValue types k.operand
declared_of types [] k all among = absurd among
declared_of types (first ∷ known) k all (inl same) = subst (λ (x : Known). DeclaresValue types x.operand) (sym same) (all.0)
declared_of types (first ∷ known) k all (inr among) = declared_of types known k all.1 among

known_computes : (known : List Known) (next : ℕ) (k : Known) → AreBelow next known → IsAmong k known → k.operand.kind ≡ kind_of k.expression → k.operand.scale ≡ scale_of k.expression → Computes known k.expression next k.operand skip []
known_computes known next k low among kind_is scale_is = record {
  kind_is = kind_is;
  scale_is = scale_is;
  below = below_more next (next + 0) k.operand.cell (omega arith) (below_of next known k low among);
  runs = λ pages fuel more row s enough within held has room.
      let found = held_of known row s k held among in
      subst (λ (r : Result Val Code). Comes pages fuel more (λ v t. Kept next s t × Holds k.operand v t) r skip s) (sym found.1)
      (comes_skip pages fuel more (omega (arith, enough)) (λ v t. Kept next s t × Holds k.operand v t) found.0 s (Kept-same next s, found.2));
  typed = λ types declared declares. (tt, declared_of types known k declared among);
}

pub known_emits : (known : List Known) (e : Expression) (o : Operand) (now : Emitter) → AreBelow (free_of now) known → IsAmong (record { expression = e; operand = o }) known → o.kind ≡ kind_of e → o.scale ≡ scale_of e → Emits known e now now o
known_emits known e o now low among kind_is scale_is = record {
  first_is = refl;
  statement = skip;
  own = [];
  code_is = sym (nil now.block.code.items);
  own_is = sym (nil now.own.items);
  computes = known_computes known (free_of now) (record { expression = e; operand = o }) low among kind_is scale_is;
}

-- ---- an expression whose operand is known from then on
through : {A : Type 0} (x : Result Val Code) (r : Result A Code) → ((code : Code) → x ≡ Err code → r ≡ Err code) → r ≡ (x >>= (λ v. r))
through (Ok v) r needs = refl
through (Err code) r needs = needs code refl

module _ (known : List Known) (next : ℕ) (low : AreBelow next known) (x : Expression) (ox : Operand) (sx : Statement) (ownx : List ValType) (cx : Computes known x next ox sx ownx) where
  abbrev known_more : List Known
  known_more = record { expression = x; operand = ox } ∷ known

  long : (own : List ValType) → length (ownx ++ own) ≡ length ownx + length own
  long own = length-append ownx own

  module _ {A : Type 0} (post : A → LowState → Type 0) (result : Environment → Result A Code) (count : Environment → ℕ) (needs : (env : Environment) (code : Code) → value_of x env ≡ Err code → result env ≡ Err code) (weighs : (env : Environment) → units x env ≤ count env)
      (own : List ValType) (b : Statement) (has_of : List Val → Type 0) (columns : (row : List Val) → has_of row → HasColumns (HoldsIn row) x)
      (does : (pages fuel more : ℕ) (row : List Val) (s : LowState) → 1 + count (at_row row) ≤ more → more ≤ fuel → AreHeld known_more row s → has_of row → next + length ownx + length own ≤ length s.locals →
      Comes pages fuel more (λ v t. Kept (next + length ownx) s t × post v t) (result (at_row row)) b s) where
    pub both_run : (pages fuel more : ℕ) (row : List Val) (s : LowState) → 1 + count (at_row row) ≤ more → more ≤ fuel → AreHeld known row s → has_of row → next + length (ownx ++ own) ≤ length s.locals →
        Comes pages fuel more (λ v t. Kept next s t × post v t) (result (at_row row)) (seq sx b) s
    both_run pages fuel more row s enough within held has room =
        let env : Environment = at_row row in
        let size_is = long own in
        subst (λ (r : Result A Code). Comes pages fuel more (λ v t. Kept next s t × post v t) r (seq sx b) s) (sym (through (value_of x env) (result env) (needs env)))
        (comes_then pages fuel more (λ v t. Kept next s t × Holds ox v t) (λ v t. Kept next s t × post v t) (value_of x env) (λ v. result env) sx b s
        (cx.runs pages fuel more row s (omega (arith, enough, weighs env)) within held (columns row has) (omega (arith, room, size_is)))
        (λ v t is_v left.
        comes_weaker pages fuel more (λ z u. Kept (next + length ownx) t u × post z u) (λ z u. Kept next s u × post z u) (result env) b t
        (λ z u is_z done. (Kept-then next (next + length ownx) s t u (omega arith) left.0 done.0, done.1))
        (does pages fuel more row t enough within ((v, is_v, left.1), known_kept next s t row known left.0 low held) has (omega (arith, room, size_is, left.0.many)))))

pub shared_emits : (known : List Known) (x e : Expression) (start mid new : Emitter) (ox out : Operand) → AreBelow (free_of start) known → Emits known x start mid ox → Emits (record { expression = x; operand = ox } ∷ known) e mid new out →
    ((env : Environment) (code : Code) → value_of x env ≡ Err code → value_of e env ≡ Err code) → ((env : Environment) → units x env ≤ units e env) → ((row : List Val) → HasColumns (HoldsIn row) e → HasColumns (HoldsIn row) x) → Emits known e start new out
shared_emits known x e start mid new ox out low ex ee needs weighs columns =
    let at = free_after known x start mid ox ex in
    let next : ℕ = free_of start in
    let ce : Computes (record { expression = x; operand = ox } ∷ known) e (next + length ex.own) out ee.statement ee.own = subst (λ k. Computes (record { expression = x; operand = ox } ∷ known) e k out ee.statement ee.own) at ee.computes in
    let long = length-append ex.own ee.own in
    let same : next + length ex.own + length ee.own ≡ next + length (ex.own ++ ee.own) = omega (arith, long) in
    record {
      first_is = ee.first_is ∙ ex.first_is;
      statement = seq ex.statement ee.statement;
      own = ex.own ++ ee.own;
      code_is = two start.block.code.items mid.block.code.items new.block.code.items (steps_of ex.statement) (steps_of ee.statement) ex.code_is ee.code_is;
      own_is = two start.own.items mid.own.items new.own.items ex.own ee.own ex.own_is ee.own_is;
      computes = record {
        kind_is = ce.kind_is;
        scale_is = ce.scale_is;
        below = subst (λ k. IsBelow k out.cell) same ce.below;
        runs = both_run known next low x ox ex.statement ex.own ex.computes (λ v t. Holds out v t) (value_of e) (units e) needs weighs ee.own ee.statement (λ row. HasColumns (HoldsIn row) e) columns ce.runs;
        typed = λ types declared declares.
            let one = ex.computes.typed types declared (declares_first types next ex.own ee.own declares) in
            let two' = ce.typed types (one.1, declared) (declares_rest types next ex.own ee.own declares) in
            ((one.0, two'.0), two'.1);
      };
    }

pub shared_decides : (known : List Known) (x : Expression) (c : Condition) (start mid new : Emitter) (ox : Operand) (out : Cell) → AreBelow (free_of start) known → Emits known x start mid ox → EmitsTruth (record { expression = x; operand = ox } ∷ known) c mid new out →
    ((env : Environment) (code : Code) → value_of x env ≡ Err code → truth_of c env ≡ Err code) → ((env : Environment) → units x env ≤ units_of c env) → ((row : List Val) → HaveColumns (HoldsIn row) c → HasColumns (HoldsIn row) x) → EmitsTruth known c start new out
shared_decides known x c start mid new ox out low ex ec needs weighs columns =
    let at = free_after known x start mid ox ex in
    let next : ℕ = free_of start in
    let dc : Decides (record { expression = x; operand = ox } ∷ known) c (next + length ex.own) out ec.statement ec.own = subst (λ k. Decides (record { expression = x; operand = ox } ∷ known) c k out ec.statement ec.own) at ec.decides in
    let long = length-append ex.own ec.own in
    let same : next + length ex.own + length ec.own ≡ next + length (ex.own ++ ec.own) = omega (arith, long) in
    record {
      first_is = ec.first_is ∙ ex.first_is;
      statement = seq ex.statement ec.statement;
      own = ex.own ++ ec.own;
      code_is = two start.block.code.items mid.block.code.items new.block.code.items (steps_of ex.statement) (steps_of ec.statement) ex.code_is ec.code_is;
      own_is = two start.own.items mid.own.items new.own.items ex.own ec.own ex.own_is ec.own_is;
      decides = record {
        below = subst (λ k. IsBelow k out) same dc.below;
        runs = both_run known next low x ox ex.statement ex.own ex.computes (λ v t. HoldsTruth out v t) (truth_of c) (units_of c) needs weighs ec.own ec.statement (λ row. HaveColumns (HoldsIn row) c) columns dc.runs;
        typed = λ types declared declares.
            let one = ex.computes.typed types declared (declares_first types next ex.own ec.own declares) in
            let two' = dc.typed types (one.1, declared) (declares_rest types next ex.own ec.own declares) in
            ((one.0, two'.0), two'.1);
      };
    }
