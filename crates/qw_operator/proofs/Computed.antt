-- Where computed values are, and of which kinds; and columns, which are known and need no block.
use Rattle.std.proofs.Common.{◌≡◌, ℕ, suc, ◌+◌, ◌*◌, ◌<◌, inl, inr, drop, get_or, take, IsTrue, Option, Some, None, List, [], ◌∷◌, ◌++◌, length, map, Result, Ok, refl, sym, ap, ap₂, ◌∙◌, subst, append_assoc, length-append, arith}
use Rattle.std.specs.List.{AllByRecursion}
use Rattle.std.proofs.lemmas.List.{length-map}
use Rattle.qw_types.specs.declared.code.Code.{Code}
use Rattle.qw_types.specs.declared.kind.Kind.{Kind}
use Rattle.qw_types.specs.declared.kind.Kind.TheVariants as kind
use Rattle.qw_types.specs.declared.value.Val.{Val}
use Rattle.qw_module.specs.declared.instruction.ValType.{ValType}
use Rattle.qw_scalar.specs.Evaluation.{value_of, at_row}
use Rattle.qw_scalar.specs.Expression.{Expression, scale_of}
use Rattle.qw_scalar.specs.Typing.{HasKind, has_kind, kind_of}
use Rattle.qw_low.specs.declared.cell.Cell.{Cell}
use Rattle.qw_low.specs.declared.step.LowStep.{LowStep}
use Rattle.qw_low.specs.Meaning.{meaning}
use Rattle.qw_low.specs.Promise.{Ends}
use Rattle.qw_low.specs.Raising.{Kept, Leaves, Raises}
use Rattle.qw_low.specs.Size.{size}
use Rattle.qw_low.specs.State.{LowState}
use Rattle.qw_low.specs.Steps.{steps_of}
use Rattle.qw_low.specs.Syntax.{skip}
use Rattle.qw_low.proofs.Results.{Kept-same}
use Rattle.qw_expr.specs.Bindings.{IsAmong, IsServed}
use Rattle.qw_expr.specs.Cells as cells
use Rattle.qw_expr.specs.Cells.{DeclaresValue, Holds, IsBelow}
use Rattle.qw_expr.specs.Computes.{AreBelow, AreDeclared, AreHeld, Computes, Known}
use Rattle.qw_expr.specs.Emits.{free_of}
use Rattle.qw_expr.specs.declared.emitter.Emitter.{Emitter}
use Rattle.qw_expr.specs.declared.operand.Operand.{Operand}
use Rattle.qw_expr.proofs.Nulls.{below_more}
use Rattle.qw_feed.specs.Cells.{Source}
use Rattle.qw_feed.specs.Stages.{Item, items_block, outs_of}
use Rattle.qw_table.specs.Joins as joins
use Rattle.qw_table.specs.Keys as keys
use Rattle.qw_table.specs.declared.key.Field.{Field}
use Rattle.qw_physical.specs.Courses.{column_of}
use Rattle.qw_physical.specs.declared.pipeline.ReadColumn.{ReadColumn}
use Rattle.qw_operator.specs.Carries.{all_moved, moved, used_length}
use Rattle.qw_operator.specs.Emitted.{AreComputed, EmitsItems, source_of, sources_of}
use Rattle.qw_operator.specs.Inner.Found.{AreFound, AreThere}
use Rattle.qw_operator.proofs.Fronts.{take_at}
use Rattle.qw_operator.proofs.Listed.{free_later}
use Rattle.qw_operator.proofs.Shortness.{fields_many}

-- ---- where values are
computed_below : (known : List Known) (next : ℕ) (es : List Expression) (gs : List Item) (own : List ValType) → AreComputed known next es gs own → AllByRecursion (λ (o : Source). IsBelow (next + length own) o.cell) (outs_of gs)
computed_below known next [] [] own are = tt
computed_below known next [] (g ∷ gs) own are = absurd are
computed_below known next (e ∷ es) [] own are = absurd are
computed_below known next (e ∷ es) (g ∷ gs) own are =
    let many : length own ≡ length are.1 + length are.2 = ap (λ (o : List ValType). length o) are.3 ∙ length-append are.1 are.2 in
    let there : next + length are.1 + length are.2 ≡ next + length own = omega (arith, many) in (
      subst (λ (o : Source). IsBelow (next + length own) o.cell) (sym are.4) (below_more (next + length are.1) (next + length own) are.0.cell (omega (arith, many)) are.5.below),
      subst (λ (n : ℕ). AllByRecursion (λ (o : Source). IsBelow n o.cell) (outs_of gs)) there (computed_below known (next + length are.1) es gs are.2 are.6),
    )

computed_kinds : (known : List Known) (next : ℕ) (es : List Expression) (gs : List Item) (own : List ValType) → AreComputed known next es gs own → AllByRecursion HasKind es → AllByRecursion (λ (o : Source). IsTrue (has_kind o.kind)) (outs_of gs)
computed_kinds known next [] [] own are some = tt
computed_kinds known next [] (g ∷ gs) own are some = absurd are
computed_kinds known next (e ∷ es) [] own are some = absurd are
computed_kinds known next (e ∷ es) (g ∷ gs) own are some = (
  subst (λ (o : Source). IsTrue (has_kind o.kind)) (sym are.4) (subst (λ (k : Option Kind). IsTrue (has_kind k)) (sym are.5.kind_is) some.0),
  computed_kinds known (next + length are.1) es gs are.2 are.6 some.1,
)

kinds_computed : (known : List Known) (next : ℕ) (es : List Expression) (gs : List Item) (own : List ValType) → AreComputed known next es gs own → map (λ (o : Source). o.kind) (outs_of gs) ≡ map kind_of es
kinds_computed known next [] [] own are = refl
kinds_computed known next [] (g ∷ gs) own are = absurd are
kinds_computed known next (e ∷ es) [] own are = absurd are
kinds_computed known next (e ∷ es) (g ∷ gs) own are =
    ap₂ (λ (k : Option Kind) (ks : List (Option Kind)). k ∷ ks) (ap (λ (o : Source). o.kind) are.4 ∙ are.5.kind_is) (kinds_computed known (next + length are.1) es gs are.2 are.6)

computed_many : (known : List Known) (next : ℕ) (es : List Expression) (gs : List Item) (own : List ValType) → AreComputed known next es gs own → length (outs_of gs) ≡ length es
computed_many known next [] [] own are = refl
computed_many known next [] (g ∷ gs) own are = absurd are
computed_many known next (e ∷ es) [] own are = absurd are
computed_many known next (e ∷ es) (g ∷ gs) own are = let rest = computed_many known (next + length are.1) es gs are.2 are.6 in omega (arith, rest)

-- ---- of what was emitted
sources_all : (P : Source → Type 0) (os : List Operand) → AllByRecursion P (sources_of os) → AllByRecursion (λ (o : Operand). P (source_of o)) os
sources_all P [] all = tt
sources_all P (o ∷ os) all = (all.0, sources_all P os all.1)

pub sources_many : (os : List Operand) → length (sources_of os) ≡ length os
sources_many [] = refl
sources_many (o ∷ os) = ap suc (sources_many os)

sources_kinds : (os : List Operand) → map (λ (o : Source). o.kind) (sources_of os) ≡ map (λ (o : Operand). o.kind) os
sources_kinds [] = refl
sources_kinds (o ∷ os) = ap (λ (ks : List (Option Kind)). o.kind ∷ ks) (sources_kinds os)

module _ (known : List Known) (es : List Expression) (old new : Emitter) (outs : List Operand) (h : EmitsItems known es old new outs) where
  pub items_long : free_of new ≡ free_of old + length h.own
  items_long = free_later old new h.own h.first_is h.own_is

  pub items_many : length outs ≡ length es
  items_many = sym (sources_many outs) ∙ (ap (λ (s : List Source). length s) (sym h.outs_are) ∙ computed_many known (free_of old) es h.items h.own h.computed)

  pub items_below : AllByRecursion (λ (o : Source). IsBelow (free_of new) o.cell) (sources_of outs)
  items_below =
      subst (λ (n : ℕ). AllByRecursion (λ (o : Source). IsBelow n o.cell) (sources_of outs)) (sym items_long)
      (subst (AllByRecursion (λ (o : Source). IsBelow (free_of old + length h.own) o.cell)) h.outs_are (computed_below known (free_of old) es h.items h.own h.computed))

  pub items_kinded : AllByRecursion HasKind es → AllByRecursion (λ (o : Operand). IsTrue (has_kind o.kind)) outs
  items_kinded some =
      sources_all (λ (o : Source). IsTrue (has_kind o.kind)) outs (subst (AllByRecursion (λ (o : Source). IsTrue (has_kind o.kind))) h.outs_are (computed_kinds known (free_of old) es h.items h.own h.computed some))

  pub items_kinds : map (λ (o : Operand). o.kind) outs ≡ map kind_of es
  items_kinds = sym (sources_kinds outs) ∙ (ap (map (λ (o : Source). o.kind)) (sym h.outs_are) ∙ kinds_computed known (free_of old) es h.items h.own h.computed)

-- ---- fields
used_below : (k : Option Kind) (c : Cell) (n : ℕ) → IsBelow n c → IsBelow n (record { value = c.value; length = used_length k c; null = c.null })
used_below None c n low = (low.0, low.0, low.2)
used_below (Some (kind.Number s)) c n low = (low.0, low.0, low.2)
used_below (Some kind.Date) c n low = (low.0, low.0, low.2)
used_below (Some kind.Text) c n low = low

null_field : (n : ℕ) (x : Option ℕ) → cells.IsBelowNull n x → keys.IsBelowNull n x
null_field n None low = tt
null_field n (Some x) low = low

field_below : (n : ℕ) (f : Field) → IsBelow n f.cell → keys.IsBelow n f
field_below n f low = (low.0, low.1, null_field n f.cell.null low.2)

pub fields_below : (n : ℕ) (os : List Source) (fs : List Field) → joins.sources_of fs ≡ map moved os → AllByRecursion (λ (o : Source). IsBelow n o.cell) os → keys.AreBelow n fs
fields_below n os [] same low = tt
fields_below n [] (f ∷ fs) same low = absurd cc
fields_below n (o ∷ os) (f ∷ fs) same low =
    let head : f.cell ≡ (moved o).cell = ap (λ (l : List Source). cell_at l) same in
    let tail : joins.sources_of fs ≡ map moved os = ap (drop 1) same in
    (field_below n f (subst (IsBelow n) (sym head) (used_below o.kind o.cell n low.0)), fields_below n os fs tail low.1)
  where
    cell_at : List Source → Cell
    cell_at [] = f.cell
    cell_at (x ∷ xs) = x.cell

pub fields_long : (os : List Operand) (fs : List Field) → joins.sources_of fs ≡ map moved (sources_of os) → length fs ≡ length os
fields_long os fs same = sym (fields_many fs) ∙ (ap (λ (l : List Source). length l) same ∙ (length-map (sources_of os) moved ∙ sources_many os))

moved_outs : (gs : List Item) → outs_of (all_moved gs) ≡ map moved (outs_of gs)
moved_outs [] = refl
moved_outs (g ∷ gs) = ap (λ (l : List Source). moved g.out ∷ l) (moved_outs gs)

-- the fields are those of the items
pub fields_are : (gs : List Item) (os : List Operand) (fs : List Field) → outs_of gs ≡ sources_of os → joins.sources_of fs ≡ map moved (sources_of os) → outs_of (all_moved gs) ≡ joins.sources_of fs
fields_are gs os fs outs same = moved_outs gs ∙ (ap (map moved) outs ∙ sym same)

-- ---- columns
below_of : (n : ℕ) (known : List Known) (k : Known) → AreBelow n known → IsAmong k known → IsBelow n k.operand.cell
below_of n [] k all among = absurd among
below_of n (first ∷ known) k all (inl same) = subst (λ (x : Known). IsBelow n x.operand.cell) (sym same) all.0
below_of n (first ∷ known) k all (inr among) = below_of n known k all.1 among

held_of : (known : List Known) (row : List Val) (s : LowState) (k : Known) → AreHeld known row s → IsAmong k known → (v : Val) × (value_of k.expression (at_row row) ≡ Ok v) × Holds k.operand v s
held_of [] row s k all among = absurd among
held_of (first ∷ known) row s k all (inl same) = subst (λ (x : Known). (v : Val) × (value_of x.expression (at_row row) ≡ Ok v) × Holds x.operand v s) (sym same) all.0
held_of (first ∷ known) row s k all (inr among) = held_of known row s k all.1 among

declared_of : (types : List ValType) (known : List Known) (k : Known) → AreDeclared types known → IsAmong k known → DeclaresValue types k.operand
declared_of types [] k all among = absurd among
declared_of types (first ∷ known) k all (inl same) = subst (λ (x : Known). DeclaresValue types x.operand) (sym same) all.0
declared_of types (first ∷ known) k all (inr among) = declared_of types known k all.1 among

described : (n : ℕ) (known : List Known) (k : Known) → IsServed n known → IsAmong k known → (k.operand.kind ≡ kind_of k.expression) × (k.operand.scale ≡ scale_of k.expression)
described n [] k served among = absurd among
described n (first ∷ known) k served (inl same) = subst (λ (x : Known). (x.operand.kind ≡ kind_of x.expression) × (x.operand.scale ≡ scale_of x.expression)) (sym same) served.1.0
described n (first ∷ known) k served (inr among) = described n known k (served.0.1, served.1.1) among

-- what is known needs no block
known_computes : (known : List Known) (next : ℕ) (k : Known) → IsServed next known → IsAmong k known → Computes known k.expression next k.operand skip []
known_computes known next k served among =
    let says = described next known k served among in
    record {
      kind_is = says.0;
      scale_is = says.1;
      below = below_more next (next + 0) k.operand.cell (omega arith) (below_of next known k served.0 among);
      runs = λ pages fuel more row s enough within held has room.
          let found = held_of known row s k held among in
          subst (λ (r : Result Val Code). Ends (size skip * more) (Leaves (λ v t. Kept next s t × Holds k.operand v t) r) (λ t. ⊥) (Raises r) (meaning pages fuel skip s)) (sym found.1) (omega arith, (Kept-same next s, found.2));
      typed = λ types declared declares. (tt, declared_of types known k declared among);
    }

abbrev column_items : List Operand → List Item
column_items [] = []
column_items (o ∷ os) = record { out = source_of o; block = skip } ∷ column_items os

columns_computed : (known : List Known) (next : ℕ) (columns : List ReadColumn) (os : List Operand) → IsServed next known → AreThere known columns os → AreComputed known next (map column_of columns) (column_items os) []
columns_computed known next [] [] served there = refl
columns_computed known next [] (o ∷ os) served there = absurd there
columns_computed known next (c ∷ columns) [] served there = absurd there
columns_computed known next (c ∷ columns) (o ∷ os) served there =
    let here : next ≡ next + 0 = omega arith in (
      o,
      [],
      [],
      refl,
      refl,
      known_computes known next (record { expression = column_of c; operand = o }) served there.0,
      subst (λ (n : ℕ). AreComputed known n (map column_of columns) (column_items os) []) here (columns_computed known next columns os served there.1),
    )

computed_joined : (known : List Known) (next : ℕ) (es fs : List Expression) (gs hs : List Item) (own : List ValType) → AreComputed known next es gs own → AreComputed known (next + length own) fs hs [] → AreComputed known next (es ++ fs) (gs ++ hs) own
computed_joined known next [] fs [] hs own one two =
    let none : length own ≡ 0 = ap (λ (o : List ValType). length o) one in
    let here : next + length own ≡ next = omega (arith, none) in
    subst (λ (o : List ValType). AreComputed known next fs hs o) (sym one) (subst (λ (n : ℕ). AreComputed known n fs hs []) here two)
computed_joined known next [] fs (g ∷ gs) hs own one two = absurd one
computed_joined known next (e ∷ es) fs [] hs own one two = absurd one
computed_joined known next (e ∷ es) fs (g ∷ gs) hs own one two =
    let many : length own ≡ length one.1 + length one.2 = ap (λ (o : List ValType). length o) one.3 ∙ length-append one.1 one.2 in
    let there : next + length own ≡ next + length one.1 + length one.2 = omega (arith, many) in
    (one.0, one.1, one.2, one.3, one.4, one.5, computed_joined known (next + length one.1) es fs gs hs one.2 one.6 (subst (λ (n : ℕ). AreComputed known n fs hs []) there two))

columns_outs : (os : List Operand) → outs_of (column_items os) ≡ sources_of os
columns_outs [] = refl
columns_outs (o ∷ os) = ap (λ (l : List Source). source_of o ∷ l) (columns_outs os)

outs_joined : (gs hs : List Item) → outs_of (gs ++ hs) ≡ outs_of gs ++ outs_of hs
outs_joined [] hs = refl
outs_joined (g ∷ gs) hs = ap (λ (l : List Source). g.out ∷ l) (outs_joined gs hs)

sources_joined : (os ps : List Operand) → sources_of (os ++ ps) ≡ sources_of os ++ sources_of ps
sources_joined [] ps = refl
sources_joined (o ∷ os) ps = ap (λ (l : List Source). source_of o ∷ l) (sources_joined os ps)

no_steps : (os : List Operand) → steps_of (items_block (column_items os)) ≡ []
no_steps [] = refl
no_steps (o ∷ os) = no_steps os

steps_joined : (gs : List Item) (os : List Operand) → steps_of (items_block (gs ++ column_items os)) ≡ steps_of (items_block gs)
steps_joined [] os = no_steps os
steps_joined (g ∷ gs) os = ap (λ (l : List LowStep). steps_of g.block ++ l) (steps_joined gs os)

-- expressions that were computed, and behind them columns that are known
pub items_with_columns : (known : List Known) (es : List Expression) (columns : List ReadColumn) (old new : Emitter) (outs all : List Operand) → IsServed (free_of new) known → EmitsItems known es old new outs → AreFound known columns outs all →
    EmitsItems known (es ++ map column_of columns) old new all
items_with_columns known es columns old new outs all served h found = record {
  first_is = h.first_is;
  items = h.items ++ column_items found.added;
  own = h.own;
  code_is = h.code_is ∙ ap (λ (l : List LowStep). old.block.code.items ++ l) (sym (steps_joined h.items found.added));
  own_is = h.own_is;
  computed = computed_joined known (free_of old) es (map column_of columns) h.items (column_items found.added) h.own h.computed
      (columns_computed known (free_of old + length h.own) columns found.added (subst (λ (n : ℕ). IsServed n known) (free_later old new h.own h.first_is h.own_is) served) found.there);
  outs_are = outs_joined h.items (column_items found.added) ∙ (ap₂ (λ (l m : List Source). l ++ m) h.outs_are (columns_outs found.added) ∙ (sym (sources_joined outs found.added) ∙ ap sources_of (sym found.is)));
}

-- ---- one more column, in a loop
there_more : (known : List Known) (columns : List ReadColumn) (os : List Operand) (c : ReadColumn) (o : Operand) → AreThere known columns os → IsAmong (record { expression = column_of c; operand = o }) known → AreThere known (columns ++ c ∷ []) (os ++ o ∷ [])
there_more known [] [] c o are one = (one, tt)
there_more known [] (p ∷ os) c o are one = absurd are
there_more known (d ∷ columns) [] c o are one = absurd are
there_more known (d ∷ columns) (p ∷ os) c o are one = (are.0, there_more known columns os c o are.1 one)

pub found_more : (known : List Known) (columns : List ReadColumn) (c : ReadColumn) (o : Operand) (old mid new : List Operand) → AreFound known columns old mid → IsAmong (record { expression = column_of c; operand = o }) known → new ≡ mid ++ o ∷ [] →
    AreFound known (columns ++ c ∷ []) old new
found_more known columns c o old mid new before one added = record {
  added = before.added ++ o ∷ [];
  is = added ∙ (ap (λ (l : List Operand). l ++ o ∷ []) before.is ∙ append_assoc old before.added (o ∷ []));
  there = there_more known columns before.added c o before.there one;
}

-- ---- one more value, in a loop
pub fields_more : (values : List Operand) (i : ℕ) (d : Operand) (fields more : List Field) (f : Field) → i < length values → joins.sources_of fields ≡ map moved (sources_of (take i values)) →
    joins.sources_of (f ∷ []) ≡ moved (source_of (get_or values i d)) ∷ [] → more ≡ fields ++ f ∷ [] → joins.sources_of more ≡ map moved (sources_of (take (i + 1) values))
fields_more values i d fields more f less before one added =
    ap joins.sources_of added ∙ (fields_joined fields (f ∷ []) ∙ (ap₂ (λ (l m : List Source). l ++ m) before one
    ∙ (moved_end (take i values) (get_or values i d) ∙ ap (λ (l : List Operand). map moved (sources_of l)) (sym (take_at values i d less)))))
  where
    fields_joined : (fs gs : List Field) → joins.sources_of (fs ++ gs) ≡ joins.sources_of fs ++ joins.sources_of gs
    fields_joined [] gs = refl
    fields_joined (x ∷ fs) gs = ap (λ (l : List Source). joins.sources_of (x ∷ []) ++ l) (fields_joined fs gs)

    moved_end : (os : List Operand) (o : Operand) → map moved (sources_of os) ++ moved (source_of o) ∷ [] ≡ map moved (sources_of (os ++ o ∷ []))
    moved_end [] o = refl
    moved_end (p ∷ os) o = ap (λ (l : List Source). moved (source_of p) ∷ l) (moved_end os o)
