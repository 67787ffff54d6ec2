-- What a block of the form `Groups` promises: its runs, its types and its size.
use Rattle.std.proofs.Common.{◌≡◌, ℕ, zero, suc, ◌+◌, ◌*◌, ◌^◌, ◌<◌, ◌≤◌, IsTrue, List, [], ◌∷◌, length, Some, slice_get, refl, sym, subst, arith}
use Rattle.qw_layout.specs.Row.{cell_offset}
use Rattle.qw_module.specs.declared.instruction.ValType.{ValType}
use Rattle.qw_module.specs.declared.instruction.ValType.TheVariants.{I32}
use Rattle.qw_low.specs.Syntax.{Statement, local, seq}
use Rattle.qw_low.specs.Typing.{IsTyped}
use Rattle.qw_low.specs.Size.{size}
use Rattle.qw_feed.specs.Cells.{AllUse, cells_block}
use Rattle.qw_feed.specs.Stages.{Among, Test}
use Rattle.qw_table.specs.Entries.{Declares}
use Rattle.qw_table.specs.Keys.{AreDeclared, slot_types, test_types}
use Rattle.qw_table.specs.Joins.{Told, sources_of}
use Rattle.qw_table.specs.declared.key.Field.{Field}
use Rattle.qw_table.proofs.JoinTyped.{cells_typed, room_typed, enter_typed, cells_size}
use Rattle.qw_group.specs.Areas.{area_types}
use Rattle.qw_group.specs.Groups.{Groups, Collects, UpdatesAreas, DeclareArguments, ArgumentsUse, group_block, group_size, group_types}
use Rattle.qw_group.specs.declared.group.Aggregate.{Aggregate}
use Rattle.qw_group.proofs.AreaClauses.{aggregates_typed, aggregates_short}
use Rattle.qw_group.proofs.GroupFeeds.{groups_feed}

pub updates_typed : (types : List ValType) (e at g : ℕ) (aggregates : List Aggregate) (a : Statement) → slice_get types e ≡ Some I32 → Declares types g area_types → DeclareArguments types aggregates → UpdatesAreas e at g aggregates a → IsTyped types a
updates_typed types e at g [] a e_is own declared is = subst (IsTyped types) (sym is) tt
updates_typed types e at g (x ∷ aggregates) a e_is own declared is =
    subst (IsTyped types) (sym is.2) (aggregates_typed x.function x.argument e at g is.0 is.3 types e_is declared.0 own, updates_typed types e (at + 32) g aggregates is.1 e_is own declared.1 is.4)

pub updates_short : (e at g : ℕ) (aggregates : List Aggregate) (a : Statement) → UpdatesAreas e at g aggregates a → size a ≤ 100 * length aggregates
updates_short e at g [] a is = subst (λ (b : Statement). size b ≤ 0) (sym is) (omega arith)
updates_short e at g (x ∷ aggregates) a is =
    let one = aggregates_short x.function x.argument e at g is.0 is.3 in
    let rest = updates_short e (at + 32) g aggregates is.1 is.4 in
    subst (λ (b : Statement). size b ≤ 100 * suc (length aggregates)) (sym is.2) (omega (arith, one, rest))

module _ (types : List ValType) (free : ℕ) (own : Declares types free group_types) where
  slot_within : Declares types free slot_types
  slot_within zero t is = own 0 t is
  slot_within (suc zero) t is = own 1 t is
  slot_within (suc (suc zero)) t is = own 2 t is
  slot_within (suc (suc (suc zero))) t is = own 3 t is
  slot_within (suc (suc (suc (suc i)))) t is = cc

  moved : (n i : ℕ) (t : ValType) → slice_get types (free + (n + i)) ≡ Some t → slice_get types (free + n + i) ≡ Some t
  moved n i t is = let same : free + (n + i) ≡ free + n + i = omega arith in subst (λ (j : ℕ). slice_get types j ≡ Some t) same is

  test_within : Declares types (free + 6) test_types
  test_within zero t is = moved 6 0 t (own 6 t is)
  test_within (suc zero) t is = moved 6 1 t (own 7 t is)
  test_within (suc (suc zero)) t is = moved 6 2 t (own 8 t is)
  test_within (suc (suc (suc zero))) t is = moved 6 3 t (own 9 t is)
  test_within (suc (suc (suc (suc zero)))) t is = moved 6 4 t (own 10 t is)
  test_within (suc (suc (suc (suc (suc zero))))) t is = moved 6 5 t (own 11 t is)
  test_within (suc (suc (suc (suc (suc (suc zero)))))) t is = moved 6 6 t (own 12 t is)
  test_within (suc (suc (suc (suc (suc (suc (suc zero))))))) t is = moved 6 7 t (own 13 t is)
  test_within (suc (suc (suc (suc (suc (suc (suc (suc zero)))))))) t is = moved 6 8 t (own 14 t is)
  test_within (suc (suc (suc (suc (suc (suc (suc (suc (suc i))))))))) t is = cc

  area_within : Declares types (free + 15) area_types
  area_within zero t is = moved 15 0 t (own 15 t is)
  area_within (suc zero) t is = moved 15 1 t (own 16 t is)
  area_within (suc (suc zero)) t is = moved 15 2 t (own 17 t is)
  area_within (suc (suc (suc zero))) t is = moved 15 3 t (own 18 t is)
  area_within (suc (suc (suc (suc zero)))) t is = moved 15 4 t (own 19 t is)
  area_within (suc (suc (suc (suc (suc zero))))) t is = moved 15 5 t (own 20 t is)
  area_within (suc (suc (suc (suc (suc (suc zero)))))) t is = moved 15 6 t (own 21 t is)
  area_within (suc (suc (suc (suc (suc (suc (suc zero))))))) t is = moved 15 7 t (own 22 t is)
  area_within (suc (suc (suc (suc (suc (suc (suc (suc zero)))))))) t is = moved 15 8 t (own 23 t is)
  area_within (suc (suc (suc (suc (suc (suc (suc (suc (suc i))))))))) t is = cc

module _ (directory : ℕ) (key : List Field) (aggregates : List Aggregate) (free : ℕ) (a : Statement) (groups : Groups directory key aggregates free a) where
  abbrev wide : ℕ
  wide = group_size key aggregates

  abbrev fill : Statement
  fill = cells_block 24 (sources_of key)

  abbrev told : Test
  told = record { out = local (free + 6); block = groups.test }

  abbrev group : Statement
  group = group_block wide directory (free + 3) (free + 4) told fill groups.update

  pub groups_typed : (length key ≤ 2000) × (length aggregates ≤ 2000) → (types : List ValType) → AreDeclared types key → DeclareArguments types aggregates → slice_get types 1 ≡ Some I32 → slice_get types 2 ≡ Some I32 → slice_get types directory ≡ Some I32 → Declares types free group_types → IsTyped types a
  groups_typed few types key_is arguments free_is left_is d_is own =
      let small : wide < 2 ^ 32 = omega (arith, few.0, few.1) in
      let g_is : slice_get types (free + 4) ≡ Some I32 = own 4 I32 refl in
      let x_is : slice_get types (free + 4 + 1) ≡ Some I32 = moved types free own 4 1 I32 (own 5 I32 refl) in
      let y_is : slice_get types (free + 5) ≡ Some I32 = own 5 I32 refl in
      let out_is : slice_get types (free + 6) ≡ Some I32 = own 6 I32 refl in
      let h_is : slice_get types (free + 3) ≡ Some I32 = own 3 I32 refl in
      subst (IsTyped types) (sym groups.is) (
        groups.finds.typed types key_is (slot_within types free own),
        (
          (
            (I32, g_is, (omega arith, refl)),
            (
              (x_is, (d_is, h_is, refl)),
              (x_is, (groups.tests.typed types key_is y_is (test_within types free own), (out_is, ((I32, g_is, x_is), (I32, x_is, (omega arith, refl))), (x_is, x_is)))),
            ),
          ),
          (
            (
              g_is,
              tt,
              (
                (room_typed types free_is left_is wide small, (cells_typed types free_is left_is key 24 key_is, enter_typed types free_is left_is wide directory (free + 3) (free + 4 + 1) small d_is h_is x_is)),
                (I32, g_is, (free_is, (small, refl), refl)),
              ),
            ),
            updates_typed types (free + 4) (cell_offset (length key)) (free + 15) aggregates groups.update g_is (area_within types free own) arguments groups.updates,
          ),
        ),
      )

  pub groups_short : size a ≤ 80 + 188 * length key + 100 * length aggregates
  groups_short =
      let few = groups.finds.short in
      let test = groups.tests.short in
      let some = cells_size key 24 in
      let update = updates_short (free + 4) (cell_offset (length key)) (free + 15) aggregates groups.update groups.updates in
      let whole : size (seq groups.find group) ≡ size groups.find + ((2 + (5 + (5 + (size groups.test + (2 + (4 + 3)))))) + ((2 + (0 + ((19 + (size fill + 21)) + 4))) + size groups.update)) = omega arith in
      subst (λ (b : Statement). size b ≤ 80 + 188 * length key + 100 * length aggregates) (sym groups.is) (omega (arith, few, test, some, update, whole))

  pub groups_collect : (length key ≤ 2000) × (length aggregates ≤ 2000) → (5 ≤ directory) × (directory < free) → AllUse (Among free) (sources_of key) → ArgumentsUse free aggregates → Collects directory key aggregates free a
  groups_collect few low uses argument_uses = record {
    runs = λ text may beginnings k o u before most fuel units chosen more row s small stands supplied gives few_rows chosen_within enough met whole turns chain room.
        groups_feed (Told text) key aggregates directory free a groups k o u before most fuel units chosen (λ xs. IsTrue (may xs)) beginnings row s low small stands uses supplied argument_uses gives few_rows chosen_within (omega (arith, whole, turns)) (omega (arith, whole, turns)) room
        more chain whole enough met;
    typed = groups_typed few;
    short = groups_short;
  }
