-- The types of the lookup of a LEFT JOIN, and its size.
use Rattle.std.proofs.Common.{◌≡◌, ℕ, suc, ◌+◌, ◌*◌, ◌≤◌, Some, List, length, slice_get, refl, sym, subst, arith}
use Rattle.qw_module.specs.declared.instruction.ValType.{ValType}
use Rattle.qw_module.specs.declared.instruction.ValType.TheVariants.{I32}
use Rattle.qw_module.specs.declared.instruction.Load.TheVariants as loads
use Rattle.qw_low.specs.Syntax.{Statement, local, seq, load}
use Rattle.qw_low.specs.Typing.{IsTyped}
use Rattle.qw_low.specs.Size.{size}
use Rattle.qw_table.specs.Entries.{Declares}
use Rattle.qw_table.specs.Keys.{AreDeclared, test_types}
use Rattle.qw_table.specs.Joins.{probe_types}
use Rattle.qw_table.specs.Outer.{OuterProbes, outer_front, outer_types, outer_walk}
use Rattle.qw_table.specs.Tables.{slot_at}
use Rattle.qw_table.specs.declared.key.Field.{Field}
use Rattle.qw_table.proofs.JoinTyped.{sure_declared, sure_many, guarded_typed, guarded_size, slot_within, test_within}

module _ (directory : ℕ) (key : List Field) (free : ℕ) (try clear rest a : Statement) (probes : OuterProbes directory key free try clear rest a) where
  abbrev walk : Statement
  walk = outer_walk free (free + 1) (free + 2) (free + 7) (record { out = local (free + 8); block = probes.test }) try clear rest

  abbrev front : Statement
  front = outer_front directory key (free + 6) (free + 7) probes.find

  inner_types : (types : List ValType) → Declares types free outer_types → Declares types (free + 3) probe_types
  inner_types types own i t is = subst (λ (j : ℕ). slice_get types j ≡ Some t) (omega arith) (own (suc (suc (suc i))) t is)

  pub outer_typed : (types : List ValType) → AreDeclared types key → slice_get types directory ≡ Some I32 → Declares types free outer_types → IsTyped types try → IsTyped types clear → IsTyped types rest → IsTyped types a
  outer_typed types key_is d_is own try_typed clear_typed rest_typed =
      let inner = inner_types types own in
      let m_is : slice_get types free ≡ Some I32 = subst (λ (j : ℕ). slice_get types j ≡ Some I32) (omega arith) (own 0 I32 refl) in
      let w_is : slice_get types (free + 1) ≡ Some I32 = own 1 I32 refl in
      let g_is : slice_get types (free + 2) ≡ Some I32 = own 2 I32 refl in
      let h_is : slice_get types (free + 6) ≡ Some I32 = own 6 I32 refl in
      let x_is : slice_get types (free + 7) ≡ Some I32 = own 7 I32 refl in
      let out_is : slice_get types (free + 8) ≡ Some I32 = own 8 I32 refl in
      let place : free + 3 + 5 ≡ free + 8 = omega arith in
      let leads : Statement = load (free + 7) (loads.Full I32) 0 (slot_at directory (free + 6)) in
      subst (IsTyped types) (sym probes.is) (
        (
          (I32, x_is, (omega arith, refl)),
          guarded_typed types key (seq probes.find leads) key_is (probes.finds.typed types (sure_declared types key key_is) (slot_within (free + 3) types inner), (x_is, (d_is, h_is, refl))),
        ),
        (
          (I32, m_is, (omega arith, refl)),
          (
            (I32, w_is, (omega arith, refl)),
            (
              w_is,
              (
                (I32, g_is, (omega arith, refl)),
                (
                  (x_is, (probes.tests.typed types (sure_declared types key key_is) x_is (subst (λ (n : ℕ). Declares types n test_types) place (test_within (free + 3) types inner)), (out_is, try_typed, tt)), ((I32, w_is, (omega arith, refl)), (m_is, tt, ((I32, g_is, (omega arith, refl)), clear_typed)))),
                  ((g_is, (rest_typed, (I32, m_is, (omega arith, refl))), tt), (x_is, (x_is, x_is), tt)),
                ),
              ),
            ),
          ),
        ),
      )

  pub outer_short : size a ≤ 50 + 179 * length key + size try + size clear + size rest
  outer_short =
      let leads : Statement = load (free + 7) (loads.Full I32) 0 (slot_at directory (free + 6)) in
      let guard = guarded_size key (seq probes.find leads) in
      let few = probes.finds.short in
      let some = probes.tests.short in
      let walked : size walk ≡ 30 + size probes.test + size try + size clear + size rest = omega arith in
      subst (λ (b : Statement). size b ≤ 50 + 179 * length key + size try + size clear + size rest) (sym probes.is) (omega (arith, guard, few, some, walked, sure_many key))
