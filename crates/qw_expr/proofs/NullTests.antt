-- IS NULL and IS UNKNOWN.
use Rattle.std.proofs.Common.{◌≡◌, ℕ, ◌+◌, ◌*◌, ◌≤◌, Option, List, [], ◌∷◌, ◌++◌, length, Some, None, Result, Ok, Err, slice_set, refl, sym, ◌∙◌, subst, arith}
use Rattle.qw_types.specs.Arithmetic.{◌>>=◌}
use Rattle.qw_types.specs.declared.code.Code.{Code}
use Rattle.qw_types.specs.declared.truth.Truth.{Truth}
use Rattle.qw_types.specs.declared.truth.Truth.TheVariants.{True, False, Unknown}
use Rattle.qw_types.specs.declared.value.Val.{Val}
use Rattle.qw_types.specs.declared.value.Val.TheVariants as val
use Rattle.qw_scalar.specs.declared.expression.Predicate.{Predicate}
use Rattle.qw_scalar.specs.declared.expression.Predicate.TheVariants.{IsNull}
use Rattle.qw_scalar.specs.Columns.{HaveColumns, HoldsIn}
use Rattle.qw_scalar.specs.Units.{units_of}
use Rattle.qw_scalar.specs.Evaluation.{same_truth, tested_null, truth_if, truth_of, value_of, at_row}
use Rattle.qw_scalar.specs.Expression.{Expression, Condition, predicate, is}
use Rattle.qw_map.proofs.TurnFacts.{slice_get-set_same}
use Rattle.qw_module.specs.declared.instruction.ValType.{ValType}
use Rattle.qw_module.specs.declared.instruction.ValType.TheVariants.{I32}
use Rattle.qw_low.specs.declared.cell.Cell.{Cell}
use Rattle.qw_low.specs.Syntax.{Statement, seq, assign}
use Rattle.qw_low.specs.State.{Number, LowState}
use Rattle.qw_low.specs.Meaning.{meaning}
use Rattle.qw_low.specs.Size.{size}
use Rattle.qw_low.specs.Steps.{steps_of}
use Rattle.qw_low.specs.Raising.{Kept}
use Rattle.qw_low.specs.Typing.{IsTyped}
use Rattle.qw_low.specs.Held.{SaysNull, SaysValue}
use Rattle.qw_low.proofs.Appended.{two}
use Rattle.qw_low.proofs.Promises.{Ends-weaker}
use Rattle.qw_low.proofs.Results.{Kept-set, Comes, comes_then, comes_assign}
use Rattle.qw_expr.specs.declared.emitter.Emitter.{Emitter}
use Rattle.qw_expr.specs.declared.operand.Operand.{Operand}
use Rattle.qw_expr.specs.Cells.{Holds, HoldsTruth, IsBelowNull, Declares, DeclaresNull}
use Rattle.qw_expr.specs.Computes.{Known, AreHeld, AreDeclared, Decides}
use Rattle.qw_expr.specs.Emits.{Emits, EmitsTruth, free_of}
use Rattle.qw_expr.specs.Inner.Truths.{i32, AddsTest}
use Rattle.qw_expr.proofs.Binary.{one_long, first_declared, declares_first, declares_rest}
use Rattle.qw_expr.proofs.Connectives.{sure}
use Rattle.qw_expr.proofs.Emitted.{free_after}
use Rattle.qw_expr.proofs.TruthsEmitted.{truth_after}

-- what is made of a value that a block leaves
comes_map : {A B : Type 0} (pages fuel more : ℕ) (P : A → LowState → Type 0) (Q : B → LowState → Type 0) (r : Result A Code) (g : A → B) (a : Statement) (s : LowState) → ((v : A) (u : LowState) → P v u → Q (g v) u) → Comes pages fuel more P r a s →
    Comes pages fuel more Q (r >>= (λ v. Ok (g v))) a s
comes_map pages fuel more P Q (Ok v) g a s change h =
    Ends-weaker (size a * more) (size a * more) (P v) (Q (g v)) (λ u. ⊥) (λ u. ⊥) (λ code. ⊥) (λ code. ⊥) (meaning pages fuel a s) (omega arith) (change v) (λ u x. x) (λ code x. x) h
comes_map pages fuel more P Q (Err code) g a s change h = h

-- ---- a truth that a null word says
-- it is the truth's word, or there is none and the truth is false
abbrev pub Says : Option ℕ → Truth → LowState → Type 0
Says None t u = t ≡ False
Says (Some n) t u = HoldsTruth (sure n) t u

-- a block whose null word says the truth of a condition
pub record Tells (known : List Known) (d : Condition) (null : Option ℕ) (start now : Emitter) : Type 0 where
  pub first_is : now.first ≡ start.first
  pub statement : Statement
  pub own : List ValType
  pub code_is : now.block.code.items ≡ start.block.code.items ++ steps_of statement
  pub own_is : now.own.items ≡ start.own.items ++ own
  pub free_is : free_of now ≡ free_of start + length own
  pub below : IsBelowNull (free_of start + length own) null
  pub runs : (pages fuel more : ℕ) (row : List Val) (s : LowState) → 1 + units_of d (at_row row) ≤ more → more ≤ fuel → AreHeld known row s → HaveColumns (HoldsIn row) d → free_of start + length own ≤ length s.locals →
      Comes pages fuel more (λ t u. Kept (free_of start) s u × Says null t u) (truth_of d (at_row row)) statement s
  pub typed : (types : List ValType) → AreDeclared types known → Declares types (free_of start) own → IsTyped types statement × DeclaresNull types null

pub word_emits : (known : List Known) (d : Condition) (start now : Emitter) (n : ℕ) → Tells known d (Some n) start now → EmitsTruth known d start now (sure n)
word_emits known d start now n told = record {
  first_is = told.first_is;
  statement = told.statement;
  own = told.own;
  code_is = told.code_is;
  own_is = told.own_is;
  decides = record { below = (told.below, told.below, tt); runs = told.runs; typed = λ types declared declares. let done = told.typed types declared declares in (done.0, (done.1, tt)) };
}

unit : (r : Result Truth Code) → r ≡ (r >>= (λ t. Ok t))
unit (Ok t) = refl
unit (Err code) = refl

never_decides : (known : List Known) (d : Condition) (start now : Emitter) (told : Tells known d None start now) → let m : ℕ = free_of start + length told.own in Decides known d (free_of start) (sure m) (seq told.statement (assign m (i32 0))) (told.own ++ I32 ∷ [])
never_decides known d start now told =
    let next : ℕ = free_of start in
    let m : ℕ = next + length told.own in
    let long = one_long told.own I32 in
    record {
      below = (omega (arith, long), omega (arith, long), tt);
      runs = λ pages fuel more row s enough within held has room.
          subst (λ (r : Result Truth Code). Comes pages fuel more (λ t u. Kept next s u × HoldsTruth (sure m) t u) r (seq told.statement (assign m (i32 0))) s) (sym (unit (truth_of d (at_row row))))
          (comes_then pages fuel more (λ t u. Kept next s u × (t ≡ False)) (λ t u. Kept next s u × HoldsTruth (sure m) t u) (truth_of d (at_row row)) (λ t. Ok t) told.statement (assign m (i32 0)) s
          (told.runs pages fuel more row s enough within held has (omega (arith, room, long)))
          (λ v u found left.
          comes_assign pages fuel more (omega (arith, enough)) (λ t w. Kept next s w × HoldsTruth (sure m) t w) v m (i32 0) (Number 0) u refl (omega (arith, room, long, left.0.many)) (
            Kept-set next s u m (Number 0) left.0 (omega arith),
            subst (λ t. HoldsTruth (sure m) t (record u { locals = slice_set u.locals m (Number 0) })) (sym left.1) (slice_get-set_same u.locals m (Number 0) (omega (arith, room, long, left.0.many)), tt),
          )));
      typed = λ types declared declares.
          let first = told.typed types declared (declares_first types next told.own (I32 ∷ []) declares) in
          let free = first_declared types m I32 (declares_rest types next told.own (I32 ∷ []) declares) in
          ((first.0, (I32, free, (omega arith, refl))), (free, tt));
    }

pub never_emits : (known : List Known) (d : Condition) (start old new : Emitter) (t : ℕ) → Tells known d None start old → AddsTest (i32 0) old new t → EmitsTruth known d start new (sure t)
never_emits known d start old new t told adds =
    let m : ℕ = free_of start + length told.own in
    let place : t ≡ m = adds.local_is ∙ told.free_is in
    record {
      first_is = adds.first_is ∙ told.first_is;
      statement = seq told.statement (assign m (i32 0));
      own = told.own ++ I32 ∷ [];
      code_is = two start.block.code.items old.block.code.items new.block.code.items (steps_of told.statement) (steps_of (assign m (i32 0))) told.code_is
          (subst (λ k. new.block.code.items ≡ old.block.code.items ++ steps_of (assign k (i32 0))) place adds.code_is);
      own_is = two start.own.items old.own.items new.own.items told.own (I32 ∷ []) told.own_is adds.own_is;
      decides = subst (λ k. Decides known d (free_of start) (sure k) (seq told.statement (assign m (i32 0))) (told.own ++ I32 ∷ [])) (sym place) (never_decides known d start old told);
    }

-- ---- IS NULL
-- the null word is the truth
tested : (o : Operand) (n : ℕ) (x : Val) (u : LowState) → o.cell.null ≡ Some n → Holds o x u → HoldsTruth (sure n) (tested_null x) u
tested o n val.Null u there holds = (subst (SaysNull u) there holds.0, tt)
tested o n (val.Num v) u there holds = (subst (SaysValue u) there holds.0.2, tt)
tested o n (val.Date d) u there holds = (subst (SaysValue u) there holds.0.1, tt)
tested o n (val.Text t) u there holds = (subst (SaysValue u) there holds.0.1, tt)

never : (o : Operand) (x : Val) (u : LowState) → o.cell.null ≡ None → Holds o x u → tested_null x ≡ False
never o val.Null u none holds = absurd (subst (SaysNull u) none holds.0)
never o (val.Num v) u none holds = refl
never o (val.Date d) u none holds = refl
never o (val.Text t) u none holds = refl

null_says : (o : Operand) (null : Option ℕ) (x : Val) (u : LowState) → o.cell.null ≡ null → Holds o x u → Says null (tested_null x) u
null_says o None x u same holds = never o x u same holds
null_says o (Some n) x u same holds = tested o n x u same holds

pub null_tells : (known : List Known) (a : Expression) (start now : Emitter) (o : Operand) (null : Option ℕ) → o.cell.null ≡ null → Emits known a start now o → Tells known (predicate IsNull a) null start now
null_tells known a start now o null same ea = record {
  first_is = ea.first_is;
  statement = ea.statement;
  own = ea.own;
  code_is = ea.code_is;
  own_is = ea.own_is;
  free_is = free_after known a start now o ea;
  below = subst (IsBelowNull (free_of start + length ea.own)) same ea.computes.below.2;
  runs = λ pages fuel more row s enough within held has room.
      comes_map pages fuel more (λ v u. Kept (free_of start) s u × Holds o v u) (λ t u. Kept (free_of start) s u × Says null t u) (value_of a (at_row row)) tested_null ea.statement s
      (λ v u left. (left.0, null_says o null v u same left.1)) (ea.computes.runs pages fuel more row s enough within held has room);
  typed = λ types declared declares. let done = ea.computes.typed types declared declares in (done.0, subst (DeclaresNull types) same done.1.1);
}

-- there is no other predicate
pub null_alone : (p : Predicate) → IsNull ≡ p
null_alone IsNull = refl

-- ---- IS UNKNOWN
unknown_tested : (c : Cell) (n : ℕ) (t : Truth) (u : LowState) → c.null ≡ Some n → HoldsTruth c t u → HoldsTruth (sure n) (truth_if (same_truth t Unknown)) u
unknown_tested c n True u there holds = (subst (SaysValue u) there holds.1, tt)
unknown_tested c n False u there holds = (subst (SaysValue u) there holds.1, tt)
unknown_tested c n Unknown u there holds = (subst (SaysNull u) there holds.1, tt)

never_unknown : (c : Cell) (t : Truth) (u : LowState) → c.null ≡ None → HoldsTruth c t u → truth_if (same_truth t Unknown) ≡ False
never_unknown c True u none holds = refl
never_unknown c False u none holds = refl
never_unknown c Unknown u none holds = absurd (subst (SaysNull u) none holds.1)

unknown_says : (c : Cell) (null : Option ℕ) (t : Truth) (u : LowState) → c.null ≡ null → HoldsTruth c t u → Says null (truth_if (same_truth t Unknown)) u
unknown_says c None t u same holds = never_unknown c t u same holds
unknown_says c (Some n) t u same holds = unknown_tested c n t u same holds

pub unknown_tells : (known : List Known) (c : Condition) (start now : Emitter) (cell : Cell) (null : Option ℕ) → cell.null ≡ null → EmitsTruth known c start now cell → Tells known (is c Unknown) null start now
unknown_tells known c start now cell null same ec = record {
  first_is = ec.first_is;
  statement = ec.statement;
  own = ec.own;
  code_is = ec.code_is;
  own_is = ec.own_is;
  free_is = truth_after known c start now cell ec;
  below = subst (IsBelowNull (free_of start + length ec.own)) same ec.decides.below.2;
  runs = λ pages fuel more row s enough within held has room.
      comes_map pages fuel more (λ t u. Kept (free_of start) s u × HoldsTruth cell t u) (λ t u. Kept (free_of start) s u × Says null t u) (truth_of c (at_row row)) (λ t. truth_if (same_truth t Unknown)) ec.statement s
      (λ t u left. (left.0, unknown_says cell null t u same left.1)) (ec.decides.runs pages fuel more row s enough within held has room);
  typed = λ types declared declares. let done = ec.decides.typed types declared declares in (done.0, subst (DeclaresNull types) same done.1.1);
}
