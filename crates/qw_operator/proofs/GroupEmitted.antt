-- What is emitted where a row is put into its group, from what was emitted for its parts.
use Rattle.std.proofs.Common.{◌≡◌, ℕ, suc, ◌+◌, ◌*◌, ◌≤◌, Option, Some, None, List, [], ◌∷◌, ◌++◌, drop, length, length-append, map, refl, sym, ap, ◌∙◌, subst, arith}
use Rattle.qw_module.specs.declared.instruction.ValType.{ValType}
use Rattle.qw_layout.specs.Row.{cell_offset}
use Rattle.qw_scalar.specs.Typing.{kind_of}
use Rattle.qw_low.specs.declared.step.LowStep.{LowStep}
use Rattle.qw_low.specs.Size.{size}
use Rattle.qw_low.specs.Steps.{steps_of}
use Rattle.qw_low.specs.Syntax.{Statement, local, seq}
use Rattle.qw_low.proofs.Appended.{two}
use Rattle.qw_limit.specs.Counting.{guarded_block}
use Rattle.qw_expr.specs.Computes.{Known}
use Rattle.qw_expr.specs.Emits.{extent, free_of}
use Rattle.qw_expr.specs.declared.emitter.Emitter.{Emitter}
use Rattle.qw_feed.specs.Cells.{cells_block, kinds_of}
use Rattle.qw_feed.specs.Stages.{Test, items_block}
use Rattle.qw_table.specs.Joins as joins
use Rattle.qw_table.specs.declared.key.Field.{Field}
use Rattle.qw_table.proofs.JoinTyped.{cells_size}
use Rattle.qw_group.specs.Groups.{Groups, UpdatesAreas, group_block, group_size}
use Rattle.qw_group.specs.declared.group.Aggregate.{Aggregate}
use Rattle.qw_group.proofs.AreaClauses.{aggregates_short}
use Rattle.qw_operator.specs.Carries.{EmitsTo, directory}
use Rattle.qw_operator.specs.Opened.{AreMade}
use Rattle.qw_operator.proofs.Promised.{items_kinds, kinds_moved}
use Rattle.qw_operator.proofs.Shortness.{steps_twice}
use Rattle.qw_operator.specs.Grouping.{Group, IsGrouped, aggregates_of, key_fields, over_fields}
use Rattle.qw_operator.specs.Puts.{IsPut, guarded_by}
use Rattle.qw_operator.specs.Inner.Entering.{Enters, put_types}
use Rattle.qw_operator.specs.OneGroup.{IsOneGroup}
use Rattle.qw_operator.specs.declared.group.Place.{Place}
use Rattle.qw_operator.specs.declared.group.Place.TheVariants as places
use Rattle.qw_operator.proofs.FieldParts.{over_few, take_few}

-- ---- the block
module _ (types : List ValType) (known : List Known) (g : Group) (old mid new : Emitter) (table free : ℕ) (fields : List Field) (k : AreMade types known g.values g.table old mid table free fields) where
  pub made_kinds : kinds_of (joins.sources_of fields) ≡ map kind_of g.values
  made_kinds = ap kinds_of (sym k.key_is) ∙ (kinds_moved k.items ∙ items_kinds known (free_of old) g.values k.items k.key_own k.computed)

  module _ (guard : Option ℕ) (a : Statement) (first : new.first ≡ mid.first) (own : new.own.items ≡ mid.own.items) (code : new.block.code.items ≡ mid.block.code.items ++ steps_of (guarded_by guard a)) where
    put_here : (place : Place) → types ≡ put_types place → Enters place table free g fields a → IsPut place guard fields known (free_of old) g (seq (items_block k.items) (guarded_by guard a)) (k.key_own ++ types)
    put_here places.Table are groups = record { plain = seq (items_block k.items) a; grouped = made; is = refl }
      where
        made : IsGrouped fields known (free_of old) g (seq (items_block k.items) a) (k.key_own ++ types)
        made = record {
          items = k.items;
          items_own = k.key_own;
          enter = a;
          is = refl;
          own_is = ap (λ (l : List ValType). k.key_own ++ l) are;
          computed = k.computed;
          fields_are = k.key_is;
          groups = subst (λ (n : ℕ). Groups (directory g.table) (key_fields g fields) (aggregates_of g fields) n a) k.free_is (subst (λ (t : ℕ). Groups t (key_fields g fields) (aggregates_of g fields) free a) k.table_is groups);
        }
    put_here places.OneGroup are updates = record { plain = seq (items_block k.items) a; grouped = made; is = refl }
      where
        made : IsOneGroup fields known (free_of old) g (seq (items_block k.items) a) (k.key_own ++ types)
        made = record {
          items = k.items;
          items_own = k.key_own;
          enter = a;
          is = refl;
          own_is = ap (λ (l : List ValType). k.key_own ++ l) are;
          computed = k.computed;
          fields_are = k.key_is;
          updates = subst (λ (n : ℕ). UpdatesAreas (directory g.table) 0 n (over_fields g.functions fields) a) k.free_is (subst (λ (t : ℕ). UpdatesAreas t 0 free (over_fields g.functions fields) a) k.table_is updates);
        }

    pub put_emits : (place : Place) → types ≡ put_types place → Enters place table free g fields a → EmitsTo (λ ks n b more. IsPut place guard fields ks n g b more) known [] old new
    put_emits place are enters = record {
      first_is = first ∙ k.first_is;
      statement = seq (items_block k.items) (guarded_by guard a);
      own = k.key_own ++ types;
      code_is = two old.block.code.items mid.block.code.items new.block.code.items (steps_of (items_block k.items)) (steps_of (guarded_by guard a)) k.code_is code;
      own_is = own ∙ k.own_is;
      carried = put_here place are enters;
    }

-- ---- how long it is
areas_short : (e at g : ℕ) (aggregates : List Aggregate) (a : Statement) → UpdatesAreas e at g aggregates a → size a ≤ 100 * length aggregates
areas_short e at g [] a is = subst (λ (b : Statement). size b ≤ 0) (sym is) (omega arith)
areas_short e at g (x ∷ aggregates) a is =
    let one = aggregates_short x.function x.argument e at g is.0 is.3 in
    let rest = areas_short e (at + 32) g aggregates is.1 is.4 in
    subst (λ (b : Statement). size b ≤ 100 * suc (length aggregates)) (sym is.2) (omega (arith, one, rest))

entered_short : (d : ℕ) (key : List Field) (aggregates : List Aggregate) (free : ℕ) (a : Statement) → Groups d key aggregates free a → size a ≤ 80 + 188 * length key + 100 * length aggregates
entered_short d key aggregates free a groups =
    let told : Test = record { out = local (free + 6); block = groups.test } in
    let fill : Statement = cells_block 24 (joins.sources_of key) in
    let group : Statement = group_block (group_size key aggregates) d (free + 3) (free + 4) told fill groups.update in
    let few = groups.finds.short in
    let test = groups.tests.short in
    let some = cells_size key 24 in
    let update = areas_short (free + 4) (cell_offset (length key)) (free + 15) aggregates groups.update groups.updates in
    let whole : size (seq groups.find group) ≡ size groups.find + ((2 + (5 + (5 + (size groups.test + (2 + (4 + 3)))))) + ((2 + (0 + ((19 + (size fill + 21)) + 4))) + size groups.update)) = omega arith in
    subst (λ (b : Statement). size b ≤ 80 + 188 * length key + 100 * length aggregates) (sym groups.is) (omega (arith, few, test, some, update, whole))

-- seven instructions more with a guard
guarded_short : (guard : Option ℕ) (a : Statement) → size (guarded_by guard a) ≤ size a + 7
guarded_short None a = omega arith
guarded_short (Some z) a = let whole : size (guarded_block z a) ≡ size a + 7 = omega arith in omega (arith, whole)

entered_within : (place : Place) (d free : ℕ) (g : Group) (fields : List Field) (a : Statement) → Enters place d free g fields a → size a ≤ 80 + 188 * (g.columns + length g.functions)
entered_within places.Table d free g fields a groups =
    let sized = entered_short d (key_fields g fields) (aggregates_of g fields) free a groups in
    let keyed = take_few g.columns fields in
    let functions = over_few g.functions (drop g.columns fields) in
    omega (arith, sized, keyed, functions)
entered_within places.OneGroup d free g fields a updates =
    let sized = areas_short d 0 free (over_fields g.functions fields) a updates in
    let functions = over_few g.functions fields in
    omega (arith, sized, functions)

pub put_short : (guard : Option ℕ) (mid new : Emitter) (a : Statement) → new.own.items ≡ mid.own.items → new.block.code.items ≡ mid.block.code.items ++ steps_of (guarded_by guard a) → (nodes many before : ℕ) (place : Place) (d free : ℕ) (g : Group) (fields : List Field) → extent mid ≤ before + 400 * nodes + 24 →
    Enters place d free g fields a → many ≡ g.columns + length g.functions → extent new ≤ before + (400 * nodes + 376 * many + 200)
put_short guard mid new a own code nodes many before place d free g fields short enters counted =
    let all = ap (λ (l : List LowStep). length l) code ∙ length-append mid.block.code.items (steps_of (guarded_by guard a)) in
    let locals = ap (λ (l : List ValType). length l) own in
    let steps = steps_twice (guarded_by guard a) in
    let more = guarded_short guard a in
    let sized = entered_within place d free g fields a enters in
    omega (arith, short, all, locals, steps, more, sized, counted)
