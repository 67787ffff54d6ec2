-- The blocks of conjuncts and items, as the promises that what feeds rests on.
use Rattle.std.proofs.Common.{if◌then◌else◌, true, false, nat_le, unsigned_abs, ◌≡◌, ℕ, zero, suc, ◌+◌, ◌*◌, ◌<◌, ◌≤◌, IsTrue, ℤ, Bool, Option, Some, None, List, [], ◌∷◌, ◌++◌, drop, length, map, Result, Ok, Err, IfOk, slice_get, refl, sym, ap, ap₂, ◌∙◌, subst, length-append, arith}
use Rattle.std.proofs.Math.Nat.{add-mul}
use Rattle.std.specs.List.{AllByRecursion}
use Rattle.qw_types.specs.Arithmetic.{◌>>=◌, bring}
use Rattle.qw_types.specs.declared.code.Code.{Code}
use Rattle.qw_types.specs.declared.truth.Truth.{Truth}
use Rattle.qw_types.specs.declared.truth.Truth.TheVariants.{True, False, Unknown}
use Rattle.qw_types.specs.declared.kind.Kind.{Kind}
use Rattle.qw_types.specs.declared.kind.Kind.TheVariants as kind
use Rattle.qw_types.specs.declared.value.Val.{Val}
use Rattle.qw_types.specs.declared.value.Val.TheVariants as val
use Rattle.qw_module.specs.declared.instruction.ValType.{ValType}
use Rattle.qw_module.specs.declared.instruction.ValType.TheVariants.{I32, I64}
use Rattle.qw_scalar.specs.declared.expression.Operator.{Operator}
use Rattle.qw_scalar.specs.declared.expression.Field.{Field}
use Rattle.qw_scalar.specs.Columns.{HasColumns, HaveColumns, HoldsIn}
use Rattle.qw_scalar.specs.Conjuncts.{passes}
use Rattle.qw_scalar.specs.Evaluation.{applied, as_number, bounded, cell_of, chosen, combined, extracted, negated, raised, truth_of, value_of, at_row}
use Rattle.qw_scalar.specs.Expression.{Condition, Expression, null, number, date, text, column, arithmetic, negative, extract, brought, choice, given}
use Rattle.qw_scalar.specs.Expression as scalar
use Rattle.qw_scalar.specs.Typing.{HasKind, IsTyped, IsValueOf, kind_of, has_kind, IsUtf8Value}
use Rattle.qw_scalar.specs.Units.{units, units_of}
use Rattle.qw_scalar.proofs.TypingLemmas.{typed_value}
use Rattle.qw_meaning.specs.Flow.{values_of}
use Rattle.qw_low.specs.declared.cell.Cell.{Cell}
use Rattle.qw_low.specs.Syntax.{Statement, seq}
use Rattle.qw_low.specs.State.{Value, Number, Cells, LowState}
use Rattle.qw_low.specs.Meaning.{value, meaning}
use Rattle.qw_low.specs.Promise.{Ends}
use Rattle.qw_low.specs.Size.{size}
use Rattle.qw_low.specs.Raising.{Leaves, Raises, Kept}
use Rattle.qw_low.proofs.LessKnown.{IsLess, seen, seen_ends}
use Rattle.qw_low.proofs.Promises.{Ends-more, Ends-then, Ends-weaker}
use Rattle.qw_low.proofs.Results.{Kept-then, at_least}
use Rattle.qw_expr.specs.declared.test.Test as exprs
use Rattle.qw_expr.specs.Tests as expr_tests
use Rattle.qw_expr.specs.Tests.{tested}
use Rattle.qw_expr.specs.declared.operand.Operand.{Operand}
use Rattle.qw_expr.specs.Cells.{Holds, HoldsValue, IsBelow, IsBelowNull, DeclaresKind, DeclaresNull}
use Rattle.qw_expr.specs.Computes.{Known, AreHeld, AreDeclared, Computes}
use Rattle.qw_read.specs.declared.reader.Reader.{Reader}
use Rattle.qw_feed.specs.Cells.{Source, Supplies, UsesNull, AllUse, cell_block, cells_block, plain_block, kinds_of}
use Rattle.qw_feed.specs.Stages.{Test, Item, Among, items_block, outs_of, truth_word, all_true, all_values, AreTests, HasItem, AreItems}
use Rattle.qw_feed.proofs.Frames.{Never, Kept-less}
use Rattle.qw_operator.specs.Carries.{used_length, moved, all_moved}
use Rattle.qw_operator.specs.Emitted.{source_of, known_after, ReadsPart, IsDecided, AreDecided, AreComputed}
use Rattle.qw_leaves.specs.Leaves.{HasLeaves}
use Rattle.qw_operator.proofs.KnownLeaves.{Fits}
use Rattle.qw_operator.proofs.ReadParts.{read_at}
use Rattle.qw_operator.proofs.Seen.{AreWithin, Longer, StandsIn, held_more, lacks_there, lies_later, longer_back, same_word, says_there}

-- ---- the texts that expressions come to
abbrev Gives : Result Val Code → Type 0
Gives r = IfOk r IsUtf8Value

then_gives : {A : Type 0} (r : Result A Code) (f : A → Result Val Code) → ((x : A) → Gives (f x)) → Gives (r >>= f)
then_gives (Ok x) f each = each x
then_gives (Err code) f each = tt

value_gives : (r : Result Val Code) (f : Val → Result Val Code) → Gives r → ((v : Val) → IsUtf8Value v → Gives (f v)) → Gives (r >>= f)
value_gives (Ok v) f h each = each v h
value_gives (Err code) f h each = tt

number_gives : (r : Result ℤ Code) → Gives (as_number r)
number_gives (Ok v) = tt
number_gives (Err code) = tt

combined_gives : (operator : Operator) (x : Val) (sa : ℕ) (y : Val) (sb : ℕ) → Gives (combined operator x sa y sb)
combined_gives operator val.Null sa y sb = tt
combined_gives operator (val.Num a) sa val.Null sb = tt
combined_gives operator (val.Num a) sa (val.Num b) sb = number_gives (applied operator a sa b sb)
combined_gives operator (val.Num a) sa (val.Date b) sb = tt
combined_gives operator (val.Num a) sa (val.Text b) sb = tt
combined_gives operator (val.Date a) sa y sb = tt
combined_gives operator (val.Text a) sa y sb = tt

raised_gives : (x : Val) (from to : ℕ) → IsUtf8Value x → Gives (raised x from to)
raised_gives val.Null from to h = tt
raised_gives (val.Num a) from to h = number_gives (bring a from to)
raised_gives (val.Date d) from to h = tt
raised_gives (val.Text t) from to h = h

negated_gives : (x : Val) → IsUtf8Value (negated x)
negated_gives val.Null = tt
negated_gives (val.Num a) = tt
negated_gives (val.Date d) = tt
negated_gives (val.Text t) = tt

extracted_gives : (field : Field) (x : Val) → IsUtf8Value (extracted field x)
extracted_gives field val.Null = tt
extracted_gives field (val.Num a) = tt
extracted_gives field (val.Date d) = tt
extracted_gives field (val.Text t) = tt

chosen_gives : (t : Truth) (a b : Result Val Code) → Gives a → Gives b → Gives (chosen t a b)
chosen_gives True a b x y = x
chosen_gives False a b x y = y
chosen_gives Unknown a b x y = y

utf8_or_null : (b : Bool) (v : Val) → IsUtf8Value v → IsUtf8Value (if b then v else val.Null)
utf8_or_null true v h = h
utf8_or_null false v h = tt

bounded_utf8 : (most : ℕ) (v : Val) → IsUtf8Value v → IsUtf8Value (bounded most v)
bounded_utf8 most val.Null h = tt
bounded_utf8 most (val.Num v) h = utf8_or_null (nat_le (unsigned_abs v) most) (val.Num v) tt
bounded_utf8 most (val.Date d) h = tt
bounded_utf8 most (val.Text t) h = h

pub value_utf8 : (e : Expression) (row : List Val) → IsTyped e → HasLeaves (Fits row) e → IfOk (value_of e (at_row row)) IsUtf8Value
value_utf8 null row typed h = tt
value_utf8 (number v s) row typed h = tt
value_utf8 (date d) row typed h = tt
value_utf8 (text t) row typed h = h
value_utf8 (column i t) row typed h = h.1
value_utf8 (arithmetic operator a b) row typed h =
    then_gives (value_of a (at_row row)) _ (λ x. then_gives (value_of b (at_row row)) _ (λ y. combined_gives operator x _ y _))
value_utf8 (negative a) row typed h = then_gives (value_of a (at_row row)) _ (λ x. negated_gives x)
value_utf8 (extract field a) row typed h = then_gives (value_of a (at_row row)) _ (λ x. extracted_gives field x)
value_utf8 (brought a s) row typed h = value_gives (value_of a (at_row row)) _ (value_utf8 a row typed.0 h) (λ x hx. raised_gives x _ s hx)
value_utf8 (choice d a b) row typed h =
    then_gives (truth_of d (at_row row)) _ (λ t. chosen_gives t (value_of a (at_row row)) (value_of b (at_row row)) (value_utf8 a row typed.1.0.0 h.1.0) (value_utf8 b row typed.1.0.1 h.1.1))
value_utf8 (given w k most v) row typed h = typed.1.1
value_utf8 (scalar.cell i t most) row typed h = bounded_utf8 most (cell_of (slice_get row i)) h.1

-- ---- the length of what is no text is not used; here it is the local of the value
used_below : (k : Option Kind) (c : Cell) (n : ℕ) → c.value < n → c.length < n → used_length k c < n
used_below None c n v l = v
used_below (Some (kind.Number s)) c n v l = v
used_below (Some kind.Date) c n v l = v
used_below (Some kind.Text) c n v l = l

pub blocks_moved : (gs : List Item) → items_block (all_moved gs) ≡ items_block gs
blocks_moved [] = refl
blocks_moved (g ∷ gs) = ap (λ (rest : Statement). seq g.block rest) (blocks_moved gs)

pub kinds_moved : (gs : List Item) → kinds_of (outs_of (all_moved gs)) ≡ kinds_of (outs_of gs)
kinds_moved [] = refl
kinds_moved (g ∷ gs) = ap (λ (ks : List (Option Kind)). g.out.kind ∷ ks) (kinds_moved gs)

plain_moved : (k : Option Kind) (c : Cell) (at : ℕ) → plain_block k (record { value = c.value; length = used_length k c; null = c.null }) at ≡ plain_block k c at
plain_moved None c at = refl
plain_moved (Some (kind.Number s)) c at = refl
plain_moved (Some kind.Date) c at = refl
plain_moved (Some kind.Text) c at = refl

pub cells_moved : (gs : List Item) (at : ℕ) → cells_block at (outs_of (all_moved gs)) ≡ cells_block at (outs_of gs)
cells_moved [] at = refl
cells_moved (g ∷ gs) at =
    ap₂ (λ (first rest : Statement). seq first rest) (ap (cell_block g.out.cell.null at) (plain_moved g.out.kind g.out.cell at)) (cells_moved gs (at + 16))

-- ---- locals of their own
pub after_append : {A : Type 0} (xs ys : List A) (i : ℕ) → slice_get (xs ++ ys) (length xs + i) ≡ slice_get ys i
after_append {A = A} [] ys i =
    let place : length {A = A} [] + i ≡ i = omega arith in
    ap (λ (n : ℕ). slice_get ys n) place
after_append (x ∷ xs) ys i =
    let place : length (x ∷ xs) + i ≡ suc (length xs + i) = omega arith in
    ap (λ (n : ℕ). slice_get (x ∷ (xs ++ ys)) n) place ∙ after_append xs ys i

pub in_append : {A : Type 0} (xs ys : List A) (i : ℕ) (x : A) → slice_get xs i ≡ Some x → slice_get (xs ++ ys) i ≡ Some x
in_append [] ys i x is = absurd cc
in_append (a ∷ xs) ys zero x is = is
in_append (a ∷ xs) ys (suc i) x is = in_append xs ys i x is

-- the locals from one on are of these types
abbrev pub AreOwn : List ValType → (from : ℕ) → List ValType → Type 0
AreOwn types from own = (i : ℕ) (t : ValType) → slice_get own i ≡ Some t → slice_get types (from + i) ≡ Some t

module _ (types : List ValType) (from : ℕ) (own first rest : List ValType) (is : own ≡ first ++ rest) (are : AreOwn types from own) where
  pub first_own_types : AreOwn types from first
  first_own_types i t there = are i t (ap (λ (o : List ValType). slice_get o i) is ∙ in_append first rest i t there)

  pub rest_own_types : AreOwn types (from + length first) rest
  rest_own_types i t there =
      let place : from + length first + i ≡ from + (length first + i) = omega arith in
      ap (λ (n : ℕ). slice_get types n) place ∙ are (length first + i) t (ap (λ (o : List ValType). slice_get o (length first + i)) is ∙ (after_append first rest i ∙ there))

-- where the values are
abbrev pub IsHigh : Source → Type 0
IsHigh o = (5 ≤ o.cell.value) × (5 ≤ used_length o.kind o.cell) × UsesNull (λ i. 5 ≤ i) o.cell.null

abbrev pub AreHigh : List Item → Type 0
AreHigh [] = Unit {0}
AreHigh (g ∷ gs) = IsHigh g.out × AreHigh gs

-- ---- conjuncts and items at a row, whose units are below a number
abbrev pub IsTestAt : (N : ℕ) → List Val → Condition → Type 0
IsTestAt N row c = HaveColumns (HoldsIn row) c × (1 + units_of c (at_row row) ≤ N)

pub record IsItemAt (N : ℕ) (row : List Val) (e : Expression) : Type 0 where
  pub typed : IsTyped e
  pub columns : HasColumns (HoldsIn row) e
  pub fits : HasLeaves (Fits row) e
  pub enough : 1 + units e (at_row row) ≤ N

-- ---- what they come to
abbrev pub truths_of : List Condition → List Val → List (Result Truth Code)
truths_of [] row = []
truths_of (c ∷ cs) row = truth_of c (at_row row) ∷ truths_of cs row

abbrev pub values_in : List Expression → List Val → List (Result Val Code)
values_in [] row = []
values_in (e ∷ es) row = value_of e (at_row row) ∷ values_in es row

pub truths_pass : (cs : List Condition) (row : List Val) → all_true (truths_of cs row) ≡ passes cs (at_row row)
truths_pass [] row = refl
truths_pass (c ∷ cs) row = ap (λ (q : Result Bool Code). truth_of c (at_row row) >>= (λ t. chosen t q (let no : Result Bool Code = Ok Bool.false in no))) (truths_pass cs row)

pub values_come : (es : List Expression) (row : List Val) → all_values (values_in es row) ≡ values_of es (at_row row)
values_come [] row = refl
values_come (e ∷ es) row = ap (λ (q : Result (List Val) Code). value_of e (at_row row) >>= (λ v. q >>= (λ vs. let r : Result (List Val) Code = Ok (v ∷ vs) in r))) (values_come es row)

-- ---- conjuncts: `At` says what holds where so many columns are read
module _ (literals : List Known) (readers : List Reader) (row : List Val) (most fuel N low n many : ℕ) (some : 1 ≤ N) (within : N ≤ fuel) (lower : low ≤ n) (At : ℕ → LowState → Type 0)
    (holds : (e : ℕ) (s : LowState) → At e s → AreHeld (known_after literals readers e) row s) (kept : (e : ℕ) (s t : LowState) → Kept n s t → At e s → At e t)
    (reads_end : (done upto : ℕ) (a : Statement) → ReadsPart readers done upto a → (s : LowState) → At done s → many ≤ length s.locals → Ends (size a) (λ t. Kept low s t × At upto t) Never (λ code. ⊥) (meaning most fuel a s)) where
  abbrev Decided : (upto : ℕ) → Test → LowState → Truth → LowState → Type 0
  Decided upto g s v t = Kept low s t × At upto t × (value t g.out ≡ Some (Number (truth_word v)))

  decided_left : (done upto : ℕ) (g : Test) (out : exprs.Test) (s t : LowState) (next : ℕ) → n ≤ next → g.out ≡ tested out → Kept low s t → At upto t → (r : Result Truth Code) (u : LowState) →
      Leaves (λ v u. Kept next t u × (value u (tested out) ≡ Some (Number (expr_tests.truth_word v)))) r u → Leaves (Decided upto g s) r u
  decided_left done upto g out s t next high is before at (Ok v) u h = (
    Kept-then low low s t u (omega arith) before (Kept-less low next t u (omega (arith, lower, high)) h.0),
    kept upto t u (Kept-less n next t u high h.0) at,
    ap (value u) is ∙ (h.1 ∙ ap (λ (x : ℕ). Some (Number x)) (same_word v)),
  )
  decided_left done upto g out s t next high is before at (Err code) u h = h

  conjunct_promised : (c : Condition) (next done upto : ℕ) (g : Test) (own : List ValType) → n ≤ next → next + length own ≤ many → IsDecided literals readers next done upto c g own → IsTestAt N row c →
      (s : LowState) → At done s → many ≤ length s.locals → Ends (size g.block * N) (Leaves (Decided upto g s) (truth_of c (at_row row))) Never (Raises (truth_of c (at_row row))) (meaning most fuel g.block s)
  conjunct_promised c next done upto g own high room d at s held long =
      let r : Result Truth Code = truth_of c (at_row row) in
      let P : LowState → Type 0 = Leaves (Decided upto g s) r in
      let R : ℕ → Type 0 = Raises r in
      let Read : LowState → Type 0 = λ t. Kept low s t × At upto t in
      subst (λ (b : Statement). Ends (size b * N) P Never R (meaning most fuel b s)) (sym d.block_is)
      (Ends-more P Never R (size d.reads + size d.decides * N) (size (seq d.reads d.decides) * N) (meaning most fuel (seq d.reads d.decides) s) (omega (arith, add-mul (size d.reads) (size d.decides) N, at_least (size d.reads) N some))
      (Ends-then P Never R (size d.reads) (size d.decides * N) Read (meaning most fuel d.reads s) (meaning most fuel d.decides)
      (Ends-weaker (size d.reads) (size d.reads) Read Read Never Never (λ code. ⊥) R (meaning most fuel d.reads s) (omega arith) (λ t x. x) (λ t x. x) (λ code x. absurd x) (reads_end done upto d.reads d.reading s held long))
      (λ t now.
      Ends-weaker (size d.decides * N) (size d.decides * N) (Leaves (λ v u. Kept next t u × (value u (tested d.out) ≡ Some (Number (expr_tests.truth_word v)))) r) P Never Never R R (meaning most fuel d.decides t) (omega arith)
      (decided_left done upto g d.out s t next high d.out_is now.0 now.1 r) (λ u x. x) (λ code x. x)
      (d.deciding.runs most fuel N row t at.1 within (holds upto t now.1) at.0 (let many_t = now.0.many in omega (arith, room, long, many_t))))))

  abbrev HasTestAt : (done upto : ℕ) → Test → Result Truth Code → Type 0
  HasTestAt done upto g r = (s : LowState) → At done s → many ≤ length s.locals → Ends (size g.block * N) (Leaves (Decided upto g s) r) Never (Raises r) (meaning most fuel g.block s)

  pub tests_promised : (all : ℕ) (stage : ℕ → ℕ) (k next done : ℕ) (ends : List ℕ) (cs : List Condition) (gs : List Test) (own : List ValType) → ((j : ℕ) → stage (k + j) ≡ read_at done ends all j) → n ≤ next → next + length own ≤ many →
      AreDecided literals readers next done ends cs gs own → AllByRecursion (IsTestAt N row) cs → AreTests most fuel N low many (λ j. At (stage j)) k gs (truths_of cs row)
  tests_promised all stage k next done [] [] [] own same high room are at = tt
  tests_promised all stage k next done (e ∷ ends) (c ∷ cs) (g ∷ gs) own same high room are at =
      let many_own : length own ≡ length are.0 + length are.1 = ap (λ (o : List ValType). length o) are.2 ∙ length-append are.0 are.1 in
      let here : stage k ≡ done = (let place : k ≡ k + 0 = omega arith in ap stage place) ∙ same 0 in
      let there : stage (suc k) ≡ e = (let place : suc k ≡ k + 1 = omega arith in ap stage place) ∙ same 1 in (
        subst (λ (d : ℕ). HasTestAt d (stage (suc k)) g (truth_of c (at_row row))) (sym here)
            (subst (λ (u : ℕ). HasTestAt done u g (truth_of c (at_row row))) (sym there) (conjunct_promised c next done e g are.0 high (omega (arith, room, many_own)) are.3 at.0)),
        tests_promised all stage (suc k) (next + length are.0) e ends cs gs are.1 (λ j. (let place : suc k + j ≡ k + suc j = omega arith in ap stage place) ∙ same (suc j)) (omega (arith, high)) (omega (arith, room, many_own)) are.4 at.1,
      )
  tests_promised all stage k next done ends cs gs own same high room are at = absurd are

-- ---- items, from a state on
module _ (known : List Known) (c : Cells) (row : List Val) (most fuel N many : ℕ) (within : N ≤ fuel) (s0 : LowState) (Held : LowState → Type 0)
    (inside : (s : LowState) → Held s → AreHeld known row (seen c s) × IsLess c s.cells × Longer s s0) where
  long_used : (k : Option Kind) (cell : Cell) (t : List ℕ) (locals : List Value) → IsValueOf k (val.Text t) → slice_get locals cell.length ≡ Some (Number (length t)) → slice_get locals (used_length k cell) ≡ Some (Number (length t))
  long_used None cell t locals of is = absurd cc
  long_used (Some (kind.Number s)) cell t locals of is = absurd of
  long_used (Some kind.Date) cell t locals of is = absurd of
  long_used (Some kind.Text) cell t locals of is = is

  supplied : (k : Option Kind) (t : LowState) (cell : Cell) (v : Val) → Longer t s0 → IsValueOf k v → IsUtf8Value v → HoldsValue cell v (seen c t) → Supplies (StandsIn c s0) t.locals (record { value = cell.value; length = used_length k cell; null = cell.null }) v
  supplied k t cell val.Null longer typed utf8 h = lacks_there (seen c t) cell.null h
  supplied k t cell (val.Num v) longer typed utf8 h = (h.0, h.1, says_there (seen c t) cell.null h.2)
  supplied k t cell (val.Date d) longer typed utf8 h = (h.0, says_there (seen c t) cell.null h.1)
  supplied k t cell (val.Text x) longer typed utf8 h = (
    h.0.part,
    h.0.offset,
    h.0.is_at,
    long_used k cell x t.locals typed h.0.is_long,
    h.0.short,
    (utf8, h.0.short, lies_later c t s0 h.0.part h.0.offset x longer h.0.lies),
    says_there (seen c t) cell.null h.1,
  )

  -- what is left where all of memory is known, and where these cells are seen
  abbrev Whole : ℕ → Operand → LowState → Result Val Code → LowState → Type 0
  Whole next out s r = Leaves (λ v t. Kept next s t × Holds out v t) r

  abbrev Seen : ℕ → Operand → LowState → Result Val Code → LowState → Type 0
  Seen next out s r = Leaves (λ v t. Kept next (seen c s) t × Holds out v t) r

  seen-cells : (next : ℕ) (out : Operand) (s : LowState) (r : Result Val Code) (t : LowState) → Seen next out s r t → t.cells ≡ c
  seen-cells next out s (Ok v) t h = ap (λ (u : LowState). u.cells) h.0.others
  seen-cells next out s (Err code) t h = absurd h

  left : (from next : ℕ) (out : Operand) (s : LowState) → Longer s s0 → from ≤ next → (r : Result Val Code) → IfOk r (λ v. IsValueOf out.kind v) → IfOk r IsUtf8Value → (t : LowState) →
      Whole next out s r t × Seen next out s r (seen c t) → Leaves (λ v t. Kept from s t × (Supplies (StandsIn c s0) t.locals (moved (source_of out)).cell v × IsValueOf out.kind v)) r t
  left from next out s longer le (Ok v) typed utf8 t h = (Kept-less from next s t le h.0.0, (supplied out.kind t out.cell v (longer_back next s0 s t h.0.0 longer) typed utf8 h.1.1.0, typed))
  left from next out s longer le (Err code) typed utf8 t h = h.0

  item_promised : (e : Expression) (from next : ℕ) (out : Operand) (a : Statement) (own : List ValType) → from ≤ next → next + length own ≤ many → Computes known e next out a own → IsItemAt N row e →
      HasItem most fuel N many Held (StandsIn c s0) from (record { out = moved (source_of out); block = a }) (value_of e (at_row row))
  item_promised e from next out a own le room computes at =
      let r : Result Val Code = value_of e (at_row row) in
      let typed : IfOk r (λ v. IsValueOf out.kind v) = subst (λ (k : Option Kind). IfOk r (λ v. IsValueOf k v)) (sym computes.kind_is) (typed_value e row at.typed at.columns) in
      λ s held long.
      Ends-weaker (size a * N) (size a * N) (λ t. Whole next out s r t × Seen next out s r (seen c t)) (Leaves (λ v t. Kept from s t × (Supplies (StandsIn c s0) t.locals (moved (source_of out)).cell v × IsValueOf out.kind v)) r) Never Never (Raises r) (Raises r)
      (meaning most fuel a s) (omega arith) (left from next out s (inside s held).2 le r typed (value_utf8 e row at.typed at.fits)) (λ t x. x) (λ code x. x)
      (seen_ends most fuel (size a * N) (size a * N) (Whole next out s r) (Seen next out s r) Never Never (Raises r) (Raises r) c (seen-cells next out s r) a s (inside s held).1
      (computes.runs most fuel N row (seen c s) at.enough within (inside s held).0 at.columns (omega (arith, room, long)))
      (computes.runs most fuel N row s at.enough within (held_more c s known row (inside s held).1 (inside s held).0) at.columns (omega (arith, room, long))))

  null_uses : (later : ℕ) (null : Option ℕ) → UsesNull (λ i. 5 ≤ i) null → IsBelowNull later null → UsesNull (Among later) null
  null_uses later None high below = tt
  null_uses later (Some x) high below = (high, below)

  pub items_promised : (from next : ℕ) (es : List Expression) (gs : List Item) (own : List ValType) → from ≤ next → next + length own ≤ many → AreComputed known next es gs own → AllByRecursion (IsItemAt N row) es → AreHigh gs →
      AreItems most fuel N many Held (StandsIn c s0) from (all_moved gs) (values_in es row)
  items_promised from next [] [] own low room are at high = tt
  items_promised from next [] (g ∷ gs) own low room are at high = absurd are
  items_promised from next (e ∷ es) [] own low room are at high = absurd are
  items_promised from next (e ∷ es) (g ∷ gs) own low room are at high =
      let all : length own ≡ length are.1 + length are.2 = ap (λ (o : List ValType). length o) are.3 ∙ length-append are.1 are.2 in
      let cell_is : g.out.cell ≡ are.0.cell = ap (λ (o : Source). o.cell) are.4 in
      let below : IsBelow (next + length are.1) g.out.cell = subst (IsBelow (next + length are.1)) (sym cell_is) are.5.below in
      let later : ℕ = next + length are.1 in (
        subst (λ (o : Source). HasItem most fuel N many Held (StandsIn c s0) from (record { out = moved o; block = g.block }) (value_of e (at_row row))) (sym are.4)
            (item_promised e from next are.0 g.block are.1 low (omega (arith, room, all)) are.5 at.0),
        later,
        omega (arith, low),
        ((high.0.0, below.0), (high.0.1, used_below g.out.kind g.out.cell later below.0 below.1), null_uses later g.out.cell.null high.0.2 below.2),
        items_promised later later es gs are.2 (omega arith) (omega (arith, room, all)) are.6 at.1 high.1,
      )

-- so many locals they use, and no more
module _ (known : List Known) where
  null_used : (later : ℕ) (null : Option ℕ) → UsesNull (λ i. 5 ≤ i) null → IsBelowNull later null → UsesNull (Among later) null
  null_used later None high below = tt
  null_used later (Some x) high below = (high, below)

  pub items_use : (next last : ℕ) (es : List Expression) (gs : List Item) (own : List ValType) → next + length own ≤ last → AreComputed known next es gs own → AreHigh gs → AllUse (Among last) (outs_of (all_moved gs))
  items_use next last [] [] own room are high = tt
  items_use next last [] (g ∷ gs) own room are high = absurd are
  items_use next last (e ∷ es) [] own room are high = absurd are
  items_use next last (e ∷ es) (g ∷ gs) own room are high =
      let all : length own ≡ length are.1 + length are.2 = ap (λ (o : List ValType). length o) are.3 ∙ length-append are.1 are.2 in
      let cell_is : g.out.cell ≡ are.0.cell = ap (λ (o : Source). o.cell) are.4 in
      let below : IsBelow (next + length are.1) g.out.cell = subst (IsBelow (next + length are.1)) (sym cell_is) are.5.below in
      let v_low = below.0 in
      let l_low = used_below g.out.kind g.out.cell (next + length are.1) below.0 below.1 in (
        (
          (high.0.0, omega (arith, v_low, room, all)),
          (high.0.1, omega (arith, l_low, room, all)),
          null_used last g.out.cell.null high.0.2 (null_low (next + length are.1) g.out.cell.null (omega (arith, room, all)) below.2),
        ),
        items_use (next + length are.1) last es gs are.2 (omega (arith, room, all)) are.6 high.1,
      )
    where
      null_low : (n : ℕ) (null : Option ℕ) → n ≤ last → IsBelowNull n null → IsBelowNull last null
      null_low n None le below = tt
      null_low n (Some x) le below = omega (arith, below)

-- their kinds are those of the expressions
pub items_kinds : (known : List Known) (next : ℕ) (es : List Expression) (gs : List Item) (own : List ValType) → AreComputed known next es gs own → kinds_of (outs_of gs) ≡ map kind_of es
items_kinds known next [] [] own are = refl
items_kinds known next [] (g ∷ gs) own are = absurd are
items_kinds known next (e ∷ es) [] own are = absurd are
items_kinds known next (e ∷ es) (g ∷ gs) own are =
    ap₂ (λ (k : Option Kind) (ks : List (Option Kind)). k ∷ ks) (ap (λ (o : Source). o.kind) are.4 ∙ are.5.kind_is) (items_kinds known (next + length are.1) es gs are.2 are.6)

-- ---- values are behind the first five locals
abbrev pub headed : ValType → List ValType → List ValType
headed t types = t ∷ t ∷ t ∷ t ∷ t ∷ types

not_low : (types : List ValType) (x : ℕ) → slice_get (headed I32 types) x ≡ Some I64 → 5 ≤ x
not_low types zero is = absurd cc
not_low types (suc zero) is = absurd cc
not_low types (suc (suc zero)) is = absurd cc
not_low types (suc (suc (suc zero))) is = absurd cc
not_low types (suc (suc (suc (suc zero)))) is = absurd cc
not_low types (suc (suc (suc (suc (suc x))))) is = omega arith

null_not_low : (types : List ValType) (x : ℕ) → slice_get (headed I64 types) x ≡ Some I32 → 5 ≤ x
null_not_low types zero is = absurd cc
null_not_low types (suc zero) is = absurd cc
null_not_low types (suc (suc zero)) is = absurd cc
null_not_low types (suc (suc (suc zero))) is = absurd cc
null_not_low types (suc (suc (suc (suc zero)))) is = absurd cc
null_not_low types (suc (suc (suc (suc (suc x))))) is = omega arith

value_high : (types : List ValType) (c : Cell) (k : Option Kind) → IsTrue (has_kind k) → DeclaresKind (headed I32 types) c k → DeclaresKind (headed I64 types) c k → (5 ≤ c.value) × (5 ≤ used_length k c)
value_high types c None some narrow wide = absurd cc
value_high types c (Some (kind.Number s)) some narrow wide = let high = not_low types c.value narrow in (high, high)
value_high types c (Some kind.Date) some narrow wide = let high = not_low types c.value narrow in (high, high)
value_high types c (Some kind.Text) some narrow wide = (null_not_low types c.value wide.0, null_not_low types c.length wide.1)

null_high : (types : List ValType) (null : Option ℕ) → DeclaresNull (headed I64 types) null → UsesNull (λ i. 5 ≤ i) null
null_high types None declared = tt
null_high types (Some x) declared = null_not_low types x declared

headed_high : (known : List Known) (types : List ValType) (next : ℕ) (es : List Expression) (gs : List Item) (own : List ValType) → AreComputed known next es gs own → AllByRecursion HasKind es →
    AreDeclared (headed I32 types) known → AreDeclared (headed I64 types) known → AreOwn (headed I32 types) next own → AreOwn (headed I64 types) next own → AreHigh gs
headed_high known types next [] [] own are some d32 d64 o32 o64 = tt
headed_high known types next [] (g ∷ gs) own are some d32 d64 o32 o64 = absurd are
headed_high known types next (e ∷ es) [] own are some d32 d64 o32 o64 = absurd are
headed_high known types next (e ∷ es) (g ∷ gs) own are some d32 d64 o32 o64 =
    let narrow = (are.5.typed (headed I32 types) d32 (first_own_types (headed I32 types) next own are.1 are.2 are.3 o32)).1 in
    let wide = (are.5.typed (headed I64 types) d64 (first_own_types (headed I64 types) next own are.1 are.2 are.3 o64)).1 in
    let value = value_high types are.0.cell are.0.kind (subst (λ (k : Option Kind). IsTrue (has_kind k)) (sym are.5.kind_is) some.0) narrow.0 wide.0 in
    let here : IsHigh (source_of are.0) = (value.0, value.1, null_high types are.0.cell.null wide.1) in (
      subst IsHigh (sym are.4) here,
      headed_high known types (next + length are.1) es gs are.2 are.6 some.1 d32 d64 (rest_own_types (headed I32 types) next own are.1 are.2 are.3 o32) (rest_own_types (headed I64 types) next own are.1 are.2 are.3 o64),
    )

-- the types of the first five locals don't matter to what is known
five_on : (t : ValType) (types : List ValType) (i : ℕ) → 5 ≤ i → slice_get (headed t (drop 5 types)) i ≡ slice_get types i
five_on t types zero low = absurd (omega (arith, low))
five_on t types (suc zero) low = absurd (omega (arith, low))
five_on t types (suc (suc zero)) low = absurd (omega (arith, low))
five_on t types (suc (suc (suc zero))) low = absurd (omega (arith, low))
five_on t types (suc (suc (suc (suc zero)))) low = absurd (omega (arith, low))
five_on t [] (suc (suc (suc (suc (suc i))))) low = refl
five_on t (a ∷ []) (suc (suc (suc (suc (suc i))))) low = refl
five_on t (a ∷ b ∷ []) (suc (suc (suc (suc (suc i))))) low = refl
five_on t (a ∷ b ∷ c ∷ []) (suc (suc (suc (suc (suc i))))) low = refl
five_on t (a ∷ b ∷ c ∷ d ∷ []) (suc (suc (suc (suc (suc i))))) low = refl
five_on t (a ∷ b ∷ c ∷ d ∷ e ∷ types) (suc (suc (suc (suc (suc i))))) low = refl

module _ (t : ValType) (types : List ValType) where
  kind_headed : (c : Cell) (k : Option Kind) → 5 ≤ c.value → 5 ≤ c.length → DeclaresKind types c k → DeclaresKind (headed t (drop 5 types)) c k
  kind_headed c None v l h = tt
  kind_headed c (Some (kind.Number s)) v l h = five_on t types c.value v ∙ h
  kind_headed c (Some kind.Date) v l h = five_on t types c.value v ∙ h
  kind_headed c (Some kind.Text) v l h = (five_on t types c.value v ∙ h.0, five_on t types c.length l ∙ h.1)

  null_headed : (n : ℕ) (null : Option ℕ) → UsesNull (Among n) null → DeclaresNull types null → DeclaresNull (headed t (drop 5 types)) null
  null_headed n None uses h = tt
  null_headed n (Some x) uses h = five_on t types x uses.0 ∙ h

  known_headed : (n : ℕ) (known : List Known) → AreWithin n known → AreDeclared types known → AreDeclared (headed t (drop 5 types)) known
  known_headed n [] within h = tt
  known_headed n (k ∷ known) within h =
      ((kind_headed k.operand.cell k.operand.kind within.0.0.0 within.0.1.0 h.0.0, null_headed n k.operand.cell.null within.0.2 h.0.1), known_headed n known within.1 h.1)

  own_headed : (next : ℕ) (own : List ValType) → 5 ≤ next → AreOwn types next own → AreOwn (headed t (drop 5 types)) next own
  own_headed next own low h i v there = five_on t types (next + i) (omega (arith, low)) ∙ h i v there

pub items_high : (known : List Known) (types : List ValType) (next : ℕ) (es : List Expression) (gs : List Item) (own : List ValType) → 5 ≤ next → AreWithin next known → AreComputed known next es gs own → AllByRecursion HasKind es → AreDeclared types known →
    AreOwn types next own → AreHigh gs
items_high known types next es gs own low within are some declared own_types =
    headed_high known (drop 5 types) next es gs own are some (known_headed I32 types next known within declared) (known_headed I64 types next known within declared) (own_headed I32 types next own low own_types) (own_headed I64 types next own low own_types)
