-- The types of the blocks of a join, and their sizes.
use Rattle.std.proofs.Common.{◌≡◌, ℕ, zero, suc, ◌+◌, ◌*◌, ◌^◌, ◌<◌, ◌≤◌, Option, Some, None, List, [], ◌∷◌, length, map, slice_get, refl, sym, ap, subst, arith}
use Rattle.qw_types.specs.declared.kind.Kind.{Kind}
use Rattle.qw_types.specs.declared.kind.Kind.TheVariants as kind
use Rattle.qw_layout.specs.Row.{entry_size}
use Rattle.qw_module.specs.declared.instruction.ValType.{ValType}
use Rattle.qw_module.specs.declared.instruction.ValType.TheVariants.{I32}
use Rattle.qw_low.specs.declared.cell.Cell.{Cell}
use Rattle.qw_low.specs.Syntax.{Statement, local, seq}
use Rattle.qw_low.specs.Typing.{IsTyped}
use Rattle.qw_low.specs.Size.{size}
use Rattle.qw_feed.specs.Cells.{plain_block, cell_block, cells_block}
use Rattle.qw_feed.specs.Room.{room_block}
use Rattle.qw_table.specs.Entries.{Declares}
use Rattle.qw_table.specs.Keys.{DeclaresNull, DeclaresKind, AreDeclared, slot_types, test_types}
use Rattle.qw_table.specs.Joins.{sure, unless_null, guarded, sources_of, build_types, probe_types, Builds, Probes}
use Rattle.qw_table.specs.Tables.{enter_block, insert_block, probe_block}
use Rattle.qw_table.specs.declared.key.Field.{Field}

pub sure_declared : (types : List ValType) (fs : List Field) → AreDeclared types fs → AreDeclared types (map sure fs)
sure_declared types [] h = tt
sure_declared types (f ∷ fs) h = ((one f.kind h.0.0, tt), sure_declared types fs h.1)
  where
    one : (kd : Kind) → DeclaresKind types kd f.cell → DeclaresKind types kd (record { value = f.cell.value; length = f.cell.length; null = None })
    one (kind.Number s) h = h
    one kind.Date h = h
    one kind.Text h = h

one_typed : (types : List ValType) (null : Option ℕ) (a : Statement) → DeclaresNull types null → IsTyped types a → IsTyped types (unless_null null a)
one_typed types None a is typed = typed
one_typed types (Some n) a is typed = (is, tt, typed)

pub guarded_typed : (types : List ValType) (fs : List Field) (a : Statement) → AreDeclared types fs → IsTyped types a → IsTyped types (guarded fs a)
guarded_typed types [] a h typed = typed
guarded_typed types (f ∷ fs) a h typed = one_typed types f.cell.null (guarded fs a) h.0.1 (guarded_typed types fs a h.1 typed)

one_size : (null : Option ℕ) (a : Statement) → size (unless_null null a) ≤ 2 + size a
one_size None a = omega arith
one_size (Some n) a = omega arith

pub guarded_size : (fs : List Field) (a : Statement) → size (guarded fs a) ≤ 2 * length fs + size a
guarded_size [] a = omega arith
guarded_size (f ∷ fs) a = let one = one_size f.cell.null (guarded fs a) in let rest = guarded_size fs a in omega (arith, one, rest)

-- ---- the cells of an entry
module _ (types : List ValType) (free_is : slice_get types 1 ≡ Some I32) (left_is : slice_get types 2 ≡ Some I32) where
  plain_typed : (kd : Kind) (c : Cell) (at : ℕ) → DeclaresKind types kd c → IsTyped types (plain_block (Some kd) c at)
  plain_typed (kind.Number s) c at h = (free_is, h)
  plain_typed kind.Date c at h = (free_is, h)
  plain_typed kind.Text c at h = ((free_is, h.0), (free_is, h.1))

  cell_typed : (null : Option ℕ) (at : ℕ) (plain : Statement) → DeclaresNull types null → IsTyped types plain → IsTyped types (cell_block null at plain)
  cell_typed None at plain is typed = typed
  cell_typed (Some n) at plain is typed = (is, (free_is, (omega arith, refl)), typed)

  pub cells_typed : (fs : List Field) (at : ℕ) → AreDeclared types fs → IsTyped types (cells_block at (sources_of fs))
  cells_typed [] at h = tt
  cells_typed (f ∷ fs) at h = (cell_typed f.cell.null at (plain_block (Some f.kind) f.cell at) h.0.1 (plain_typed f.kind f.cell at h.0.0), cells_typed fs (at + 16) h.1)

  pub room_typed : (n : ℕ) → n < 2 ^ 32 → IsTyped types (room_block n)
  room_typed n small = ((left_is, (small, refl), refl), (((omega arith, refl), free_is), (I32, left_is, (omega arith, refl))), tt)

  pub enter_typed : (n d h x : ℕ) → n < 2 ^ 32 → slice_get types d ≡ Some I32 → slice_get types h ≡ Some I32 → slice_get types x ≡ Some I32 → IsTyped types (enter_block n d h x)
  enter_typed n d h x small d_is h_is x_is =
      ((x_is, (d_is, h_is, refl)), ((free_is, x_is), (((d_is, h_is, refl), free_is), ((I32, free_is, (free_is, (small, refl), refl)), (I32, left_is, (left_is, (small, refl), refl))))))

plain_size : (kd : Kind) (c : Cell) (at : ℕ) → size (plain_block (Some kd) c at) ≤ 6
plain_size (kind.Number s) c at = omega arith
plain_size kind.Date c at = omega arith
plain_size kind.Text c at = omega arith

cell_size : (null : Option ℕ) (at : ℕ) (plain : Statement) → size plain ≤ 6 → size (cell_block null at plain) ≤ 11
cell_size None at plain few = omega (arith, few)
cell_size (Some n) at plain few = omega (arith, few)

pub cells_size : (fs : List Field) (at : ℕ) → size (cells_block at (sources_of fs)) ≤ 11 * length fs
cells_size [] at = omega arith
cells_size (f ∷ fs) at = let one = cell_size f.cell.null at (plain_block (Some f.kind) f.cell at) (plain_size f.kind f.cell at) in let rest = cells_size fs (at + 16) in omega (arith, one, rest)

pub sure_many : (fs : List Field) → length (map sure fs) ≡ length fs
sure_many [] = refl
sure_many (f ∷ fs) = ap suc (sure_many fs)

module _ (directory : ℕ) (key cells : List Field) (free : ℕ) (a : Statement) (builds : Builds directory key cells free a) where
  within : (types : List ValType) → Declares types free build_types → Declares types free slot_types
  within types own zero t is = own 0 t is
  within types own (suc zero) t is = own 1 t is
  within types own (suc (suc zero)) t is = own 2 t is
  within types own (suc (suc (suc zero))) t is = own 3 t is
  within types own (suc (suc (suc (suc i)))) t is = cc

  pub builds_typed : (types : List ValType) → length cells ≤ 2000 → AreDeclared types key → AreDeclared types cells → slice_get types 1 ≡ Some I32 → slice_get types 2 ≡ Some I32 → slice_get types directory ≡ Some I32 → Declares types free build_types → IsTyped types a
  builds_typed types few key_is cells_are free_is left_is d_is own =
      let fill : Statement = cells_block 24 (sources_of cells) in
      let n : ℕ = entry_size 0 (length cells) 0 in
      let small : n < 2 ^ 32 = omega (arith, few) in
      subst (IsTyped types) (sym builds.is) (guarded_typed types key (seq builds.find (insert_block n directory (free + 3) (free + 4) fill)) key_is (
        builds.finds.typed types (sure_declared types key key_is) (within types own),
        (room_typed types free_is left_is n small, (cells_typed types free_is left_is cells 24 cells_are, enter_typed types free_is left_is n directory (free + 3) (free + 4) small d_is (own 3 I32 refl) (own 4 I32 refl))),
      ))

  pub builds_short : size a ≤ 51 + 96 * length key + 11 * length cells
  builds_short =
      let fill : Statement = cells_block 24 (sources_of cells) in
      let body : Statement = seq builds.find (insert_block (entry_size 0 (length cells) 0) directory (free + 3) (free + 4) fill) in
      let guard = guarded_size key body in
      let few = builds.finds.short in
      let some = cells_size cells 24 in
      let whole : size body ≡ size builds.find + (19 + (size fill + 21)) = omega arith in
      subst (λ (b : Statement). size b ≤ 51 + 96 * length key + 11 * length cells) (sym builds.is) (omega (arith, guard, few, some, whole, sure_many key))

-- the locals that a lookup has of its own
module _ (free : ℕ) where
  pub slot_within : (types : List ValType) → Declares types free probe_types → Declares types free slot_types
  slot_within types own zero t is = own 0 t is
  slot_within types own (suc zero) t is = own 1 t is
  slot_within types own (suc (suc zero)) t is = own 2 t is
  slot_within types own (suc (suc (suc zero))) t is = own 3 t is
  slot_within types own (suc (suc (suc (suc i)))) t is = cc

  pub test_within : (types : List ValType) → Declares types free probe_types → Declares types (free + 5) test_types
  test_within types own zero t is = subst (λ (j : ℕ). slice_get types j ≡ Some t) (omega arith) (own 5 t is)
  test_within types own (suc zero) t is = subst (λ (j : ℕ). slice_get types j ≡ Some t) (omega arith) (own 6 t is)
  test_within types own (suc (suc zero)) t is = subst (λ (j : ℕ). slice_get types j ≡ Some t) (omega arith) (own 7 t is)
  test_within types own (suc (suc (suc zero))) t is = subst (λ (j : ℕ). slice_get types j ≡ Some t) (omega arith) (own 8 t is)
  test_within types own (suc (suc (suc (suc zero)))) t is = subst (λ (j : ℕ). slice_get types j ≡ Some t) (omega arith) (own 9 t is)
  test_within types own (suc (suc (suc (suc (suc zero))))) t is = subst (λ (j : ℕ). slice_get types j ≡ Some t) (omega arith) (own 10 t is)
  test_within types own (suc (suc (suc (suc (suc (suc zero)))))) t is = subst (λ (j : ℕ). slice_get types j ≡ Some t) (omega arith) (own 11 t is)
  test_within types own (suc (suc (suc (suc (suc (suc (suc zero))))))) t is = subst (λ (j : ℕ). slice_get types j ≡ Some t) (omega arith) (own 12 t is)
  test_within types own (suc (suc (suc (suc (suc (suc (suc (suc zero)))))))) t is = subst (λ (j : ℕ). slice_get types j ≡ Some t) (omega arith) (own 13 t is)
  test_within types own (suc (suc (suc (suc (suc (suc (suc (suc (suc i))))))))) t is = cc

module _ (directory : ℕ) (key : List Field) (free : ℕ) (found a : Statement) (probes : Probes directory key free found a) where
  pub probes_typed : (types : List ValType) → AreDeclared types key → slice_get types directory ≡ Some I32 → Declares types free probe_types → IsTyped types found → IsTyped types a
  probes_typed types key_is d_is own typed =
      let x_is : slice_get types (free + 4) ≡ Some I32 = own 4 I32 refl in
      let out_is : slice_get types (free + 5) ≡ Some I32 = own 5 I32 refl in
      subst (IsTyped types) (sym probes.is) (guarded_typed types key (seq probes.find (probe_block directory (free + 3) (free + 4) (record { out = local (free + 5); block = probes.test }) found)) key_is (
        probes.finds.typed types (sure_declared types key key_is) (slot_within free types own),
        (
          (x_is, (d_is, own 3 I32 refl, refl)),
          (x_is, (probes.tests.typed types (sure_declared types key key_is) x_is (test_within free types own), ((out_is, typed, tt), (x_is, x_is)))),
        ),
      ))

  pub probes_short : size a ≤ 28 + 179 * length key + size found
  probes_short =
      let body : Statement = seq probes.find (probe_block directory (free + 3) (free + 4) (record { out = local (free + 5); block = probes.test }) found) in
      let guard = guarded_size key body in
      let few = probes.finds.short in
      let some = probes.tests.short in
      let whole : size body ≡ size probes.find + (5 + (5 + (size probes.test + ((2 + (size found + 0)) + 3)))) = omega arith in
      subst (λ (b : Statement). size b ≤ 28 + 179 * length key + size found) (sym probes.is) (omega (arith, guard, few, some, whole, sure_many key))
