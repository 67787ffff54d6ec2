-- The block of a pipeline that begins at a table of groups is typed.
use Rattle.std.proofs.Common.{◌≡◌, ℕ, ◌+◌, ◌*◌, ◌<◌, ◌≤◌, List, [], ◌∷◌, ◌++◌, length, Some, slice_get, refl, sym, subst, arith}
use Rattle.qw_types.specs.Kind.{type_kind}
use Rattle.qw_layout.specs.Row.{cell_offset}
use Rattle.qw_map.proofs.AreaLemmas.{all-append}
use Rattle.qw_module.specs.declared.instruction.ValType.{ValType}
use Rattle.qw_module.specs.declared.instruction.ValType.TheVariants.{I32}
use Rattle.qw_low.specs.Syntax.{Statement}
use Rattle.qw_low.specs.Typing.{IsTyped}
use Rattle.qw_expr.specs.Cells.{DeclaresValue}
use Rattle.qw_expr.specs.Computes.{Known, AreDeclared}
use Rattle.qw_table.specs.Entries.{cell_types}
use Rattle.qw_table.specs.declared.key.Field.{Field}
use Rattle.qw_group.specs.Values.{value_types}
use Rattle.qw_group.proofs.WalkClauses.{walks}
use Rattle.qw_physical.specs.Physical.{Operator, Sink}
use Rattle.qw_physical.specs.declared.pipeline.ReadColumn.{ReadColumn}
use Rattle.qw_operator.specs.Carries as carries
use Rattle.qw_operator.specs.Carries.{ReadsEntry, entry_types, known_entry}
use Rattle.qw_operator.specs.Takes.{CanSink}
use Rattle.qw_operator.proofs.CarriedTyped.{AreLed, IsLed, carried_to_typed, carried_typed}
use Rattle.qw_operator.proofs.EntryReads.{cell_three, entry_declared, entry_many}
use Rattle.qw_operator.proofs.Promised.{AreOwn, first_own_types, rest_own_types}
use Rattle.qw_operator.specs.Grouping.{CanGroup, Group}
use Rattle.qw_operator.proofs.GroupTyped.{grouped_typed}
use Rattle.qw_group_pipeline.specs.Groups.{Grouping, InEnd, InSink, IsGroupPipeline, IsGroupPipelineTo, IsGroupRowTo, ReadsValues, known_group, known_values, values_types, walk_types}
use Rattle.qw_group_pipeline.specs.declared.columns.ValueColumn.{ValueColumn}
use Rattle.qw_group_pipeline.proofs.RowFeeds.{AreOfKinds, values_declared}
use Rattle.qw_group_pipeline.proofs.ValueReads.{values_many}

module _ (types : List ValType) where
  keys_typed : (at entry free : ℕ) (key : List ReadColumn) (a : Statement) → slice_get types entry ≡ Some I32 → AreOwn types free (entry_types key) → ReadsEntry at entry free key a → IsTyped types a
  keys_typed at entry free [] a leads own reads = subst (IsTyped types) (sym reads) tt
  keys_typed at entry free (c ∷ key) a leads own reads =
      let first : List ValType = cell_types (type_kind c.ty) in
      let rest : List ValType = entry_types key in
      subst (IsTyped types) (sym reads.2) (
        reads.3.typed types leads (first_own_types types free (first ++ rest) first rest refl own),
        keys_typed (at + 16) entry (free + 3) key reads.1 leads (subst (λ (n : ℕ). AreOwn types (free + n) rest) (cell_three (type_kind c.ty)) (rest_own_types types free (first ++ rest) first rest refl own)) reads.4,
      )

  values_typed : (at entry free : ℕ) (values : List ValueColumn) (a : Statement) → slice_get types entry ≡ Some I32 → AreOwn types free (values_types values) → ReadsValues at entry free values a → IsTyped types a
  values_typed at entry free [] a leads own reads = subst (IsTyped types) (sym reads) tt
  values_typed at entry free (v ∷ values) a leads own reads =
      let first : List ValType = value_types v.function v.argument in
      let rest : List ValType = values_types values in
      subst (IsTyped types) (sym reads.2) (
        reads.3.typed types leads (first_own_types types free (first ++ rest) first rest refl own),
        values_typed (at + 32) entry (free + 8) values reads.1 leads (rest_own_types types free (first ++ rest) first rest refl own) reads.4,
      )

  -- where what is within the reads is typed
  module _ (Rest : List Known → (next : ℕ) → Statement → List ValType → Type 0) (rest_typed : (known : List Known) (next : ℕ) (a : Statement) (own : List ValType) → AreDeclared types known → AreOwn types next own → Rest known next a own → IsTyped types a)
      (literals : List Known) (key : List ReadColumn) (values : List ValueColumn) (declared : AreDeclared types literals) (kinds : AreOfKinds values) where
    pub row_typed : (entry areas next : ℕ) (a : Statement) (own : List ValType) → slice_get types entry ≡ Some I32 → AreOwn types next own → IsGroupRowTo Rest literals entry areas next key values a own → IsTyped types a
    row_typed entry areas next a own leads own_types h =
        let first : ℕ = next + 3 * length key in
        let behind : List ValType = values_types values ++ h.rest_own in
        let all : AreOwn types next (entry_types key ++ behind) = subst (AreOwn types next) h.own_is own_types in
        let keys : AreOwn types next (entry_types key) = first_own_types types next (entry_types key ++ behind) (entry_types key) behind refl all in
        let later : AreOwn types first behind = subst (λ (n : ℕ). AreOwn types (next + n) behind) (entry_many key) (rest_own_types types next (entry_types key ++ behind) (entry_types key) behind refl all) in
        let mine : AreOwn types first (values_types values) = first_own_types types first behind (values_types values) h.rest_own refl later in
        let rest : AreOwn types (first + 8 * length values) h.rest_own = subst (λ (n : ℕ). AreOwn types (first + n) h.rest_own) (values_many values) (rest_own_types types first behind (values_types values) h.rest_own refl later) in
        subst (IsTyped types) (sym h.is) (
          keys_typed 24 entry next key h.key_reads leads keys h.key_reading,
          (
            values_typed areas entry first values h.value_reads leads mine h.value_reading,
            rest_typed (known_group next key values ++ literals) (first + 8 * length values) h.rest h.rest_own
                (all-append (λ (k : Known). DeclaresValue types k.operand) (known_group next key values) literals
                (all-append (λ (k : Known). DeclaresValue types k.operand) (known_entry next key) (known_values first values) (entry_declared types next key keys) (values_declared types first values kinds mine)) declared) rest h.carried,
          ),
        )

    -- as a walk over groups it is typed where the local that leads to their directory is
    pub groups_to_typed : (directory next : ℕ) (a : Statement) (own : List ValType) → (5 ≤ directory) × (directory < next) → slice_get types directory ≡ Some I32 → AreOwn types next own → IsGroupPipelineTo Rest literals directory next key values a own → IsTyped types a
    groups_to_typed directory next a own low d_is own_types h =
        let all : AreOwn types next (walk_types ++ h.met_own) = subst (AreOwn types next) h.own_is own_types in
        let counts : slice_get types next ≡ Some I32 = subst (λ (i : ℕ). slice_get types i ≡ Some I32) (omega arith) (all 0 I32 refl) in
        subst (IsTyped types) (sym h.is)
        ((walks directory [] [] next h.met low).typed types d_is counts (all 1 I32 refl) (row_typed (next + 1) (cell_offset (length key)) (next + 2) h.met h.met_own (all 1 I32 refl) (rest_own_types types next own walk_types h.met_own h.own_is own_types) h.row))

  -- operators and a sink
  module _ (free_is : slice_get types 1 ≡ Some I32) (left_is : slice_get types 2 ≡ Some I32) (literals : List Known) (key : List ReadColumn) (values : List ValueColumn) (operators : List Operator) (snk : Sink) (declared : AreDeclared types literals) (led : AreLed types operators) (sink_led : IsLed types snk)
      (can : CanSink snk) (kinds : AreOfKinds values) where
    pub groups_typed : (directory next : ℕ) (a : Statement) (own : List ValType) → (5 ≤ directory) × (directory < next) → slice_get types directory ≡ Some I32 → AreOwn types next own → IsGroupPipeline literals directory next key values operators snk a own → IsTyped types a
    groups_typed directory next a own low d_is own_types h =
        groups_to_typed (InSink operators snk) (λ known after b more known_declared more_types is. carried_typed types free_is left_is operators snk known after b more known_declared more_types led sink_led can is) literals key values declared kinds directory next a own low d_is own_types h

  -- operators, and innermost a row is put into a group
  module _ (free_is : slice_get types 1 ≡ Some I32) (left_is : slice_get types 2 ≡ Some I32) (literals : List Known) (key : List ReadColumn) (values : List ValueColumn) (operators : List Operator) (fields : List Field) (g : Group) (declared : AreDeclared types literals) (led : AreLed types operators)
      (can : CanGroup g) (g_is : slice_get types (carries.directory g.table) ≡ Some I32) (kinds : AreOfKinds values) where
    pub groups_into_typed : (directory next : ℕ) (a : Statement) (own : List ValType) → (5 ≤ directory) × (directory < next) → slice_get types directory ≡ Some I32 → AreOwn types next own → IsGroupPipelineTo (InEnd (Grouping fields g) operators) literals directory next key values a own → IsTyped types a
    groups_into_typed directory next a own low d_is own_types h =
        groups_to_typed (InEnd (Grouping fields g) operators)
        (λ known after b more known_declared more_types is.
        carried_to_typed types free_is left_is (Grouping fields g) (λ ks n c owns ks_declared own_declared ended. grouped_typed types free_is left_is fields ks n g c owns can g_is ks_declared own_declared ended) operators known after b more known_declared more_types led is)
        literals key values declared kinds directory next a own low d_is own_types h
