-- What is known of the columns and literals of an expression, and its null words.
use Rattle.std.proofs.Common.{◌≡◌, ℕ, ◌||◌, Bool, true, false, List, [], ◌∷◌, ◌++◌, Option, Some, None, Ok, slice_get, refl, sym, ap, ◌∙◌, subst, inl, inr, ◌⊎◌}
use Rattle.std.proofs.Math.Bool.{or_assoc}
use Rattle.std.specs.List.{AllByRecursion}
use Rattle.qw_types.specs.declared.value.Val.{Val}
use Rattle.qw_types.specs.declared.value.Val.TheVariants as val
use Rattle.qw_scalar.specs.Evaluation.{value_of, at_row}
use Rattle.qw_scalar.specs.Expression.{Expression, Condition, null, number, date, text, column, arithmetic, negative, extract, brought, choice, given, cell, comparison, predicate, both, either, negation_of, Operands, nil, scale_of}
use Rattle.qw_scalar.specs.Expression as scalar
use Rattle.qw_scalar.specs.Typing.{kind_of}
use Rattle.qw_module.specs.declared.instruction.ValType.{ValType}
use Rattle.qw_module.specs.declared.instruction.ValType.TheVariants.{I32}
use Rattle.qw_module.specs.declared.instruction.Binary.TheVariants.{Or}
use Rattle.qw_module.specs.Numbers.{truth}
use Rattle.qw_low.specs.Syntax as low
use Rattle.qw_low.specs.State.{Number, LowState}
use Rattle.qw_low.specs.Meaning.{value}
use Rattle.qw_low.specs.Typing.{HasType}
use Rattle.qw_expr.specs.declared.guard.Sure.{Sure}
use Rattle.qw_expr.specs.declared.known.Binding.{Binding}
use Rattle.qw_expr.specs.declared.known.Leaf.{Leaf}
use Rattle.qw_expr.specs.declared.known.Leaf.TheVariants as leaf
use Rattle.qw_expr.specs.declared.operand.Operand.{Operand}
use Rattle.qw_expr.specs.Bindings.{IsAmong, IsServed, Knows, OperandsTakeKnown, TakeKnown, TakesKnown, known_of, named}
use Rattle.qw_expr.specs.Cells.{DeclaresNull, DeclaresValue, Holds, IsBelow}
use Rattle.qw_expr.specs.Computes.{Known}
use Rattle.qw_expr.specs.Inner.Guards.{AreLeaves, Calm, Flagged, Gathers, Tells, any_of, null_words, sure_operand}
use Rattle.qw_expr.specs.Inner.Made.{Includes}
use Rattle.qw_expr.proofs.Nulls.{Says, or_false}
use Rattle.qw_expr.proofs.Shared.{below_of, declared_of, held_of}
use Rattle.qw_expr.proofs.Trees.{described}

-- ---- one list behind another
pub all_two : (P : Known → Type 0) (a b : List Binding) → AllByRecursion P (known_of a) → AllByRecursion P (known_of b) → AllByRecursion P (known_of (a ++ b))
all_two P [] b one other = other
all_two P (k ∷ a) b one other = (one.0, all_two P a b one.1 other)

pub words_two : (P : ℕ → Type 0) (a b : List ℕ) → AllByRecursion P a → AllByRecursion P b → AllByRecursion P (a ++ b)
words_two P [] b one other = other
words_two P (n ∷ a) b one other = (one.0, words_two P a b one.1 other)

pub left_in : (a b : List Binding) → Includes (known_of (a ++ b)) (known_of a)
left_in [] b k among = absurd among
left_in (first ∷ a) b k (inl same) = inl same
left_in (first ∷ a) b k (inr among) = inr (left_in a b k among)

pub right_in : (a b : List Binding) → Includes (known_of (a ++ b)) (known_of b)
right_in [] b k among = among
right_in (first ∷ a) b k among = inr (right_in a b k among)

-- what takes what is known takes it of more
knows_more : (known more : List Known) (e : Expression) → Includes more known → Knows known e → Knows more e
knows_more known more e all knows = (knows.0, all (record { expression = e; operand = knows.0 }) knows.1)

mutual
  pub takes_more : (known more : List Known) (e : Expression) → Includes more known → TakesKnown known e → TakesKnown more e
  takes_more known more null all takes = takes
  takes_more known more (number v s) all takes = knows_more known more (number v s) all takes
  takes_more known more (date d) all takes = knows_more known more (date d) all takes
  takes_more known more (text t) all takes = knows_more known more (text t) all takes
  takes_more known more (column i ty) all takes = knows_more known more (column i ty) all takes
  takes_more known more (arithmetic operator a b) all takes = (takes_more known more a all takes.0, takes_more known more b all takes.1)
  takes_more known more (negative a) all takes = takes_more known more a all takes
  takes_more known more (extract field a) all takes = takes_more known more a all takes
  takes_more known more (brought a s) all takes = takes_more known more a all takes
  takes_more known more (choice c a b) all takes = (take_more known more c all takes.0, (takes_more known more a all takes.1.0, takes_more known more b all takes.1.1))
  takes_more known more (given w k most v) all takes = takes
  takes_more known more (cell i ty most) all takes = knows_more known more (column i ty) all takes

  pub take_more : (known more : List Known) (c : Condition) → Includes more known → TakeKnown known c → TakeKnown more c
  take_more known more (comparison op a b) all takes = (takes_more known more a all takes.0, takes_more known more b all takes.1)
  take_more known more (predicate p a) all takes = takes_more known more a all takes
  take_more known more (both c d) all takes = (take_more known more c all takes.0, take_more known more d all takes.1)
  take_more known more (either c d) all takes = (take_more known more c all takes.0, take_more known more d all takes.1)
  take_more known more (negation_of c) all takes = take_more known more c all takes
  take_more known more (scalar.is c t) all takes = take_more known more c all takes
  take_more known more (scalar.found n asked keys kinds rows) all takes = (operands_take_more known more asked all takes.0, operands_take_more known more keys all takes.1)

  pub operands_take_more : (known more : List Known) (es : Operands) → Includes more known → OperandsTakeKnown known es → OperandsTakeKnown more es
  operands_take_more known more nil all takes = takes
  operands_take_more known more (scalar.operand e es) all takes = (takes_more known more e all takes.0, operands_take_more known more es all takes.1)

-- ---- null words
flagged_two : (s : LowState) (a b : List ℕ) (g h : Bool) → Flagged s a g → Flagged s b h → Flagged s (a ++ b) (g || h)
flagged_two s [] b g h one other = subst (λ k. Flagged s b (k || h)) (sym one) other
flagged_two s (n ∷ a) b g h one other = (one.0, one.1 || h, one.2, flagged_two s a b one.1 h one.3 other, ap (λ k. k || h) one.4 ∙ or_assoc one.0 one.1 h)

flagged : (s : LowState) (null : Option ℕ) (g : Bool) → Says s null g → Flagged s (null_words null) g
flagged s None true says = absurd says
flagged s None false says = refl
flagged s (Some n) true says = (true, false, says, refl, refl)
flagged s (Some n) false says = (false, false, says, refl, refl)

or_left : (g h : Bool) → (g || h) ≡ true → (g ≡ true) ⊎ (h ≡ true)
or_left true h is = inl refl
or_left false h is = inr is

or_none : (g h : Bool) → (g || h) ≡ false → (g ≡ false) × (h ≡ false)
or_none true h is = absurd cc
or_none false h is = (refl, is)

or_word : (s : LowState) (n : ℕ) (e : low.Expression) (g h : Bool) → slice_get s.locals n ≡ Some (Number (truth g)) → value s e ≡ Some (Number (truth h)) → value s (low.binop I32 Or (low.local n) e) ≡ Some (Number (truth (g || h)))
or_word s n e true true one other = rw (one, other) refl
or_word s n e true false one other = rw (one, other) refl
or_word s n e false true one other = rw (one, other) refl
or_word s n e false false one other = rw (one, other) refl

pub any_value : (s : LowState) (n : ℕ) (nulls : List ℕ) (g : Bool) → Flagged s (n ∷ nulls) g → value s (any_of n nulls) ≡ Some (Number (truth g))
any_value s n [] g told = told.2 ∙ ap (λ k. Some (Number (truth k))) (sym (told.4 ∙ ap (λ k. told.0 || k) told.3 ∙ or_false told.0))
any_value s n (m ∷ nulls) g told =
    or_word s n (any_of m nulls) told.0 told.1 told.2 (any_value s m nulls told.1 told.3) ∙ ap (λ k. Some (Number (truth k))) (sym told.4)

pub any_typed : (types : List ValType) (n : ℕ) (nulls : List ℕ) → AllByRecursion (λ (k : ℕ). slice_get types k ≡ Some I32) (n ∷ nulls) → HasType types (any_of n nulls) I32
any_typed types n [] all = all.0
any_typed types n (m ∷ nulls) all = (all.0, any_typed types m nulls all.1, refl)

-- ---- two lists of leaves
pub tells_two : (la lb : List Binding) (na nb : List ℕ) (row : List Val) (s : LowState) (A B C : Type 0) → (A → C) → (B → C) → Tells la na row s A → Tells lb nb row s B → Tells (la ++ lb) (na ++ nb) row s C
tells_two la lb na nb row s A B C first second one other = (
  one.0 || other.0,
  flagged_two s na nb one.0 other.0 one.1 other.1,
  (λ is. by_case (or_left one.0 other.0 is)),
  (λ is.
      let none = or_none one.0 other.0 is in
      all_two (λ (k : Known). (v : Val) × (value_of k.expression (at_row row) ≡ Ok v) × Holds k.operand v s) la lb (one.3 none.0) (other.3 none.1)),
)
  where
    by_case : (one.0 ≡ true) ⊎ (other.0 ≡ true) → C
    by_case (inl is) = first (one.2 is)
    by_case (inr is) = second (other.2 is)

pub are_two : (known : List Known) (la lb : List Binding) (na nb : List ℕ) → AreLeaves known la na → AreLeaves known lb nb → AreLeaves known (la ++ lb) (na ++ nb)
are_two known la lb na nb one other = record {
  served = λ n served.
      let a = one.served n served in
      let b = other.served n served in (
        all_two (λ (k : Known). IsBelow n k.operand.cell) la lb a.0 b.0,
        all_two (λ (k : Known). (k.operand.kind ≡ kind_of k.expression) × (k.operand.scale ≡ scale_of k.expression)) la lb a.1 b.1,
      );
  declared = λ types declared. all_two (λ (k : Known). DeclaresValue types k.operand) la lb (one.declared types declared) (other.declared types declared);
  words = λ types declared. words_two (λ (n : ℕ). slice_get types n ≡ Some I32) na nb (one.words types declared) (other.words types declared);
}

-- ---- one leaf
pub takes_leaf : (l : Leaf) (o : Operand) → TakesKnown (record { expression = named l; operand = o } ∷ []) (named l)
takes_leaf (leaf.Column i ty) o = (o, inl refl)
takes_leaf (leaf.Number v s) o = (o, inl refl)
takes_leaf (leaf.Date d) o = (o, inl refl)
takes_leaf (leaf.Text t) o = (o, inl refl)

words_declared : (types : List ValType) (null : Option ℕ) → DeclaresNull types null → AllByRecursion (λ (n : ℕ). slice_get types n ≡ Some I32) (null_words null)
words_declared types None declared = tt
words_declared types (Some n) declared = (declared, tt)

sure_told : (leaf : Binding) (row : List Val) (s : LowState) (v : Val) → value_of (named leaf.leaf) (at_row row) ≡ Ok v → Holds leaf.operand v s →
    Tells (record { leaf = leaf.leaf; operand = sure_operand leaf.operand } ∷ []) (null_words leaf.operand.cell.null) row s (v ≡ val.Null)
sure_told leaf row s val.Null is holds = (true, flagged s leaf.operand.cell.null true holds.0, (λ g. refl), (λ g. absurd cc))
sure_told leaf row s (val.Num v) is holds = (false, flagged s leaf.operand.cell.null false holds.0.2, (λ g. absurd cc), (λ g. ((val.Num v, is, ((holds.0.0, holds.0.1, tt), holds.1)), tt)))
sure_told leaf row s (val.Date v) is holds = (false, flagged s leaf.operand.cell.null false holds.0.1, (λ g. absurd cc), (λ g. ((val.Date v, is, ((holds.0.0, tt), holds.1)), tt)))
sure_told leaf row s (val.Text t) is holds = (false, flagged s leaf.operand.cell.null false holds.0.1, (λ g. absurd cc), (λ g. ((val.Text t, is, ((holds.0.0, tt), holds.1)), tt)))

leaf_calm : (known : List Known) (leaf : Binding) → (n : ℕ) × IsServed n known → IsAmong (record { expression = named leaf.leaf; operand = leaf.operand }) known →
    Calm known (named leaf.leaf) (record { leaf = leaf.leaf; operand = sure_operand leaf.operand } ∷ []) (null_words leaf.operand.cell.null) leaf.operand.scale leaf.operand.most
leaf_calm known leaf some among =
    let k : Known = record { expression = named leaf.leaf; operand = leaf.operand } in
    let is = described some.0 known k some.1 among in
    record {
      are = record {
        served = λ n served.
            let low = below_of n known k served.0 among in
            (((low.0, low.1, tt), tt), (is, tt));
        declared = λ types declared. (((declared_of types known k declared among).0, tt), tt);
        words = λ types declared. words_declared types leaf.operand.cell.null (declared_of types known k declared among).1;
      };
      takes = takes_leaf leaf.leaf (sure_operand leaf.operand);
      scale_is = is.1;
      tells = λ row s held columns.
          let found = held_of known row s k held among in
          (found.0, found.1, found.2.1, sure_told leaf row s found.0 found.1 found.2);
    }

pub leaf_gathers : (known : List Known) (e : Expression) (leaf : Binding) (old new : Sure) → (n : ℕ) × IsServed n known → named leaf.leaf ≡ e → IsAmong (record { expression = e; operand = leaf.operand }) known →
    new.leaves.items ≡ old.leaves.items ++ record { leaf = leaf.leaf; operand = sure_operand leaf.operand } ∷ [] → new.nulls.items ≡ old.nulls.items ++ null_words leaf.operand.cell.null →
    Gathers old new (λ leaves nulls. Calm known e leaves nulls leaf.operand.scale leaf.operand.most)
leaf_gathers known e leaf old new some name among leaves_is nulls_is = record {
  leaves = record { leaf = leaf.leaf; operand = sure_operand leaf.operand } ∷ [];
  nulls = null_words leaf.operand.cell.null;
  leaves_is = leaves_is;
  nulls_is = nulls_is;
  made = subst (λ x. Calm known x (record { leaf = leaf.leaf; operand = sure_operand leaf.operand } ∷ []) (null_words leaf.operand.cell.null) leaf.operand.scale leaf.operand.most) name
      (leaf_calm known leaf some (subst (λ x. IsAmong (record { expression = x; operand = leaf.operand }) known) (sym name) among));
}
